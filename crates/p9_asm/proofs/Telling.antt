-- What is told of a file's tokens is what is told of its bytes.
use Rattle.std.proofs.Common.{◌≡◌, ℕ, List, Some, None, Result, Ok, Err, IfOk, IfErr, sym, ap, subst, ◌∙◌}
use Rattle.p9_abs.specs.declared.modules.Symbol.{Symbol}
use Rattle.p9_abs.specs.declared.modules.AModule.{AModule}
use Rattle.p9_lex.specs.declared.token.Dialect.TheVariants.{Asm}
use Rattle.p9_lex.specs.declared.token.Token.{Token}
use Rattle.p9_lex.specs.declared.token.LexFault.{LexFault}
use Rattle.p9_lex.specs.declared.token.LexFault.TheVariants as lex_faults
use Rattle.p9_lex.specs.Tokens as lexing
use Rattle.p9_statement.specs.declared.operands.SymbolName.{SymbolName}
use Rattle.p9_rows.specs.Rows.{rows_of, lexemes_of}
use Rattle.p9_facts.specs.Names.{symbols_of}
use Rattle.p9_asm.specs.declared.assembler.Broken.{Broken}
use Rattle.p9_asm.specs.declared.fault.AsmFault.{AsmFault}
use Rattle.p9_asm.specs.declared.fault.AsmFault.TheVariants.{Lex, AsmSyntax, Reserved, NoLabel, LabelTwice, Memory}
use Rattle.p9_asm.specs.Files.{File, file_of}
use Rattle.p9_asm.specs.Modules.{symbols_by}
use Rattle.p9_asm.specs.Assembled.{first_break, fault_of, judged, assembled_tokens, answer_of, assembled, IsFault, IsRefusal, lex_fault}

is_fault : (answer : Result AModule AsmFault) (fault : AsmFault) → answer ≡ Err fault → IsFault answer fault
is_fault answer (Lex fault) h = h
is_fault answer (AsmSyntax line) h = h
is_fault answer (Reserved line r) h = h
is_fault answer (NoLabel line name) h = h
is_fault answer (LabelTwice line name) h = h
is_fault answer Memory h = tt

pub told_fault : (tokens : List Token) (file : File) (broken : Broken) (fault : AsmFault) → file ≡ file_of (rows_of (lexemes_of tokens)) → first_break file ≡ Some broken → fault ≡ fault_of tokens broken → IsFault (assembled_tokens tokens) fault
unfolding assembled_tokens
told_fault tokens file broken fault is_file is_first is_fault_of =
    let first : first_break (file_of (rows_of (lexemes_of tokens))) ≡ Some broken = sym (ap first_break is_file) ∙ is_first in
    is_fault (assembled_tokens tokens) fault (ap (judged tokens (rows_of (lexemes_of tokens))) first ∙ ap (λ (f : AsmFault). Err f) (sym is_fault_of))

same_module : (m : AModule) (symbols : List Symbol) → m.symbols ≡ symbols → (let n : AModule = record { symbols = symbols } in n ≡ m)
same_module m symbols h =
    let made : List Symbol → AModule = λ s. record { symbols = s } in
    ap made (sym h)

pub told_module : (tokens : List Token) (file : File) (names : List SymbolName) (m : AModule) → file ≡ file_of (rows_of (lexemes_of tokens)) → first_break file ≡ None → names ≡ symbols_of (rows_of (lexemes_of tokens)) → m.symbols ≡ symbols_by tokens file names → assembled_tokens tokens ≡ Ok m
unfolding assembled_tokens
told_module tokens file names m is_file is_first is_names is_symbols =
    let first : first_break (file_of (rows_of (lexemes_of tokens))) ≡ None = sym (ap first_break is_file) ∙ is_first in
    let symbols : m.symbols ≡ symbols_by tokens (file_of (rows_of (lexemes_of tokens))) (symbols_of (rows_of (lexemes_of tokens))) =
    is_symbols ∙ (ap (λ f. symbols_by tokens f names) is_file ∙ ap (symbols_by tokens (file_of (rows_of (lexemes_of tokens)))) is_names) in
    ap (judged tokens (rows_of (lexemes_of tokens))) first ∙ ap (λ (n : AModule). Ok n) (same_module m _ symbols)

by_tokens : (bytes : List ℕ) (tokens : List Token) → lexing.lexed Asm bytes ≡ Ok tokens → assembled_tokens tokens ≡ assembled bytes
unfolding assembled
by_tokens bytes tokens h = sym (ap answer_of h)

pub module_told : (bytes : List ℕ) (tokens : List Token) (answer : Result AModule AsmFault) → lexing.lexed Asm bytes ≡ Ok tokens → IfOk answer (λ m. assembled_tokens tokens ≡ Ok m) → IfOk answer (λ m. assembled bytes ≡ Ok m)
module_told bytes tokens (Ok m) is h = sym (by_tokens bytes tokens is) ∙ h
module_told bytes tokens (Err fault) is h = tt

pub fault_told : (bytes : List ℕ) (tokens : List Token) (answer : Result AModule AsmFault) → lexing.lexed Asm bytes ≡ Ok tokens → IfErr answer (IsFault (assembled_tokens tokens)) → IfErr answer (IsRefusal bytes)
fault_told bytes tokens (Ok m) is h = tt
fault_told bytes tokens (Err fault) is h = subst (λ told. IsFault told fault) (by_tokens bytes tokens is) h

by_fault : (bytes : List ℕ) (fault : LexFault) → lexing.lexed Asm bytes ≡ Err fault → assembled bytes ≡ Err (Lex fault)
unfolding assembled
by_fault bytes fault h = ap answer_of h

pub lex_fault_told : (bytes : List ℕ) (fault : LexFault) → lexing.IsRefusal Asm bytes fault → IsRefusal bytes (lex_fault fault)
lex_fault_told bytes (lex_faults.BadByte at line) h = by_fault bytes (lex_faults.BadByte at line) h
lex_fault_told bytes (lex_faults.OpenComment at line) h = by_fault bytes (lex_faults.OpenComment at line) h
lex_fault_told bytes (lex_faults.OpenText at line) h = by_fault bytes (lex_faults.OpenText at line) h
lex_fault_told bytes (lex_faults.WideNumber at line) h = by_fault bytes (lex_faults.WideNumber at line) h
lex_fault_told bytes lex_faults.Memory h = tt

pub same_lexed : (bytes : List ℕ) (tokens given : List Token) → lexing.lexed Asm bytes ≡ Ok tokens → given ≡ tokens → lexing.lexed Asm bytes ≡ Ok given
same_lexed bytes tokens given h e = subst (λ ts. lexing.lexed Asm bytes ≡ Ok ts) (sym e) h
