-- The module of a file without breaks is valid.
use Rattle.std.proofs.Common.{◌≡◌, ◌≢◌, ℕ, Bool, false, List, [], ◌∷◌, ◌++◌, map, length, Option, Some, None, Result, Ok, Err, IfOk, All, IfSome, refl, sym, ap, subst, ◌∙◌, arith}
use Rattle.std.specs.Prelude.{option_to_list}
use Rattle.std.specs.List.{list_any}
use Rattle.p9_abs.specs.declared.modules.Symbol.{Symbol}
use Rattle.p9_abs.specs.declared.modules.AModule.{AModule}
use Rattle.p9_abs.specs.Validity.{IsName, IsSignature, AreApart, IsBoundWell, NamesWithin, HasWellPieced, HasSizeInRange, HasFunction, IsValid}
use Rattle.p9_lex.specs.declared.token.Token.{Token}
use Rattle.p9_statement.specs.declared.operands.SymbolName.{SymbolName}
use Rattle.p9_statement.specs.declared.operands.Argument as argument
use Rattle.p9_statement.specs.declared.operands.Argument.TheVariants as from
use Rattle.p9_statement.specs.declared.statements.Arguments.{Arguments}
use Rattle.p9_statement.specs.declared.statements.Arguments.TheVariants.{Zero, One, Two, Three}
use Rattle.p9_statement.specs.declared.statements.Datum.{Datum}
use Rattle.p9_statement.specs.declared.statements.Datum.TheVariants as data_values
use Rattle.p9_statement.specs.declared.statements.Statement.{Statement}
use Rattle.p9_statement.specs.declared.statements.Statement.TheVariants as statements
use Rattle.p9_statement.specs.declared.statements.Line.{Line}
use Rattle.p9_rows.specs.declared.rows.Row.{Row}
use Rattle.p9_rows.specs.Rows.{place_in, rows_of, lexemes_of}
use Rattle.p9_facts.specs.Facts.{symbol_in, symbol_at}
use Rattle.p9_facts.specs.Names.{names_in, names_of_statement, names_of_content, names_of, symbols_of}
use Rattle.p9_asm.specs.declared.assembler.Broken.{Broken}
use Rattle.p9_asm.specs.declared.fault.AsmFault.{AsmFault}
use Rattle.p9_asm.specs.Files.{file_of}
use Rattle.p9_asm.specs.Breaks.{is_undefined}
use Rattle.p9_asm.specs.Modules.{name_by, name_in, name_at, symbol_of, module_of}
use Rattle.p9_asm.specs.Assembled.{first_break, judged, assembled_tokens}
use Rattle.p9_asm.proofs.Options.{Each, each_get, each_append, all_each, each_weaker}
use Rattle.p9_asm.proofs.Proper.{IsNamed, IsSymbolName, IsArgument, AreArguments, IsDatum, IsProper, IsProperLine}
use Rattle.p9_asm.proofs.Spelled.{HasNames, IsProperRow}
use Rattle.p9_asm.proofs.Saying.{same_symbol}
use Rattle.p9_asm.proofs.Clean.{or_parts, IsSound, sound}
use Rattle.p9_asm.proofs.Listed.{symbols_each, symbols_apart, all_pairs}
use Rattle.p9_asm.proofs.Celled.{content_names}
use Rattle.p9_asm.proofs.Bodies.{IsBody, body_valid, local_defined, signature_valid}

-- The names of a line

argument_names : (tokens : List Token) (a : argument.Argument) → IsArgument tokens a → Each (IsSymbolName tokens) (option_to_list (symbol_in a))
argument_names tokens (from.Address s o) h = (h, tt)
argument_names tokens (from.Memory s o) h = (h, tt)
argument_names tokens (from.Function s) h = (h, tt)
argument_names tokens _ h = tt

arguments_names : (tokens : List Token) (given : Arguments) → AreArguments tokens given → Each (IsSymbolName tokens) (names_in given)
arguments_names tokens Zero h = tt
arguments_names tokens (One a) h = argument_names tokens a h
arguments_names tokens (Two a b) h =
    each_append (IsSymbolName tokens) (option_to_list (symbol_in a)) (option_to_list (symbol_in b)) (argument_names tokens a h.0) (argument_names tokens b h.1)
arguments_names tokens (Three a b c) h =
    each_append (IsSymbolName tokens) (option_to_list (symbol_in a) ++ option_to_list (symbol_in b)) (option_to_list (symbol_in c))
    (each_append (IsSymbolName tokens) (option_to_list (symbol_in a)) (option_to_list (symbol_in b)) (argument_names tokens a h.0) (argument_names tokens b h.1)) (argument_names tokens c h.2)

datum_names : (tokens : List Token) (place : ℕ) (d : Datum) → IsDatum tokens place d → Each (IsSymbolName tokens) (option_to_list (symbol_at d))
datum_names tokens place (data_values.Address s o) h = (h.0, tt)
datum_names tokens place (data_values.Byte v) h = tt
datum_names tokens place (data_values.Half v) h = tt
datum_names tokens place (data_values.Word v) h = tt

statement_names : (tokens : List Token) (st : Option Statement) → IfSome st (IsProper tokens) → Each (IsSymbolName tokens) (names_of_statement st)
statement_names tokens None h = tt
statement_names tokens (Some (statements.Text s frame)) h = (h.0, tt)
statement_names tokens (Some (statements.Globl s size)) h = (h.0, tt)
statement_names tokens (Some (statements.Data s o d)) h = (h.0, datum_names tokens o d h.1)
statement_names tokens (Some (statements.Signature s token)) h = (h.0, tt)
statement_names tokens (Some (statements.Instruction op given)) h = arguments_names tokens given h.0

content_proper : (tokens : List Token) (content : Option Line) → IfSome content (IsProperLine tokens) → Each (IsSymbolName tokens) (names_of_content content)
content_proper tokens None h = tt
content_proper tokens (Some line) h = statement_names tokens line.statement h

none_any : (p : SymbolName → Bool) (xs : List SymbolName) → list_any p xs ≡ false → Each (λ x. p x ≡ false) xs
none_any p [] h = tt
none_any p (x ∷ xs) h = let parts = or_parts (p x) (list_any p xs) h in (parts.0, none_any p xs parts.1)

each_both : {X : Type 0} (P Q : X → Type 0) (xs : List X) → Each P xs → Each Q xs → Each (λ x. P x × Q x) xs
each_both P Q [] h k = tt
each_both P Q (x ∷ xs) h k = ((h.0, k.0), each_both P Q xs h.1 k.1)

abbrev IsKnown : List Token → List Row → SymbolName → Type 0
IsKnown tokens rows s = IsSymbolName tokens s × (is_undefined (file_of rows) s ≡ false)

symbols_known : (tokens : List Token) (rows : List Row) → IsSound tokens rows → Each (IsKnown tokens rows) (symbols_of rows)
symbols_known tokens rows s =
    let file = file_of rows in
    symbols_each (IsKnown tokens rows) rows (λ n r at.
    each_both (IsSymbolName tokens) (λ x. is_undefined file x ≡ false) (names_of r)
    (content_proper tokens r.content (each_get (IsProperRow tokens) rows n r s.proper at))
    (none_any (is_undefined file) (names_of_content r.content)
    (ap (list_any (is_undefined file)) (content_names r.content) ∙ (s.clean n r at).defined)))

-- Symbols

name_is : (tokens : List Token) (place : ℕ) → (n : IsNamed tokens place) → name_at tokens place ≡ n.name
name_is tokens place n = ap name_in n.at ∙ ap name_by n.is

apart : (tokens : List Token) (rows : List Row) (a b : SymbolName) → IsKnown tokens rows a → IsKnown tokens rows b → a ≢ b → AreApart (symbol_of tokens (file_of rows) a) (symbol_of tokens (file_of rows) b)
unfolding symbol_of
apart tokens rows a b ka kb differ = λ local name.
    let same : ka.0.name ≡ kb.0.name = sym (name_is tokens a.word ka.0) ∙ (name ∙ name_is tokens b.word kb.0) in
    let places : Some a.word ≡ Some b.word = sym ka.0.first ∙ (ap (place_in tokens) same ∙ kb.0.first) in
    let word : a.word ≡ b.word = cc in
    differ (same_symbol a b word local)

record IsRuled (total : ℕ) (s : Symbol) : Type 0 where
  name : IsName s.name
  binding : IsBoundWell s
  signature : IsSignature s.sig
  body : IsBody total s.body

ruled : (tokens : List Token) (rows : List Row) (s : SymbolName) → IsSound tokens rows → IsKnown tokens rows s → IsRuled (length (symbols_of rows)) (symbol_of tokens (file_of rows) s)
unfolding symbol_of
ruled tokens rows s sound known =
    let signed = signature_valid tokens rows s sound in
    record {
      name = subst IsName (sym (name_is tokens s.word known.0)) known.0.proper;
      binding = λ l. (local_defined tokens rows s sound known.1 l, signed.1 l);
      signature = signed.0;
      body = body_valid tokens rows s sound;
    }

each_map : {X Y : Type 0} (f : X → Y) (P : X → Type 0) (Q : Y → Type 0) (xs : List X) → ((x : X) → P x → Q (f x)) → Each P xs → Each Q (map f xs)
each_map f P Q [] g h = tt
each_map f P Q (x ∷ xs) g h = (g x h.0, each_map f P Q xs g h.1)

length_map : {X Y : Type 0} (f : X → Y) (xs : List X) → length (map f xs) ≡ length xs
length_map f [] = refl
length_map f (x ∷ xs) = omega (arith, length_map f xs)

module_valid : (tokens : List Token) (rows : List Row) → IsSound tokens rows → IsValid (module_of tokens rows)
module_valid tokens rows s =
    let make : SymbolName → Symbol = symbol_of tokens (file_of rows) in
    let names = symbols_of rows in
    let symbols = map make names in
    let known = symbols_known tokens rows s in
    let all = each_map make (IsKnown tokens rows) (IsRuled (length names)) names (λ x k. ruled tokens rows x s k) known in
    let take : (Q : Symbol → Type 0) → ((x : Symbol) → IsRuled (length names) x → Q x) → All Q symbols = λ Q g. all_each Q symbols (each_weaker (IsRuled (length names)) Q symbols g all) in
    let count : length names ≡ length symbols = sym (length_map make names) in
    record {
      names = take (λ x. IsName x.name) (λ x k. k.name);
      distinct = all_pairs make (IsKnown tokens rows) ◌≢◌ AreApart names (apart tokens rows) known (symbols_apart rows);
      locals = take IsBoundWell (λ x k. k.binding);
      signatures = take (λ x. IsSignature x.sig) (λ x k. k.signature);
      numbers = subst (λ n. All (λ (x : Symbol). NamesWithin n x.body) symbols) count (take (λ x. NamesWithin (length names) x.body) (λ x k. k.body.numbers));
      pieces = take (λ x. HasWellPieced x.body) (λ x k. k.body.pieces);
      sizes = take (λ x. HasSizeInRange x.body) (λ x k. k.body.size);
      functions = take (λ x. HasFunction x.body) (λ x k. k.body.function);
    }

judged_valid : (tokens : List Token) (names : HasNames tokens) (o : Option Broken) (m : AModule) → first_break (file_of (rows_of (lexemes_of tokens))) ≡ o → judged tokens (rows_of (lexemes_of tokens)) o ≡ Ok m → IsValid m
judged_valid tokens names (Some broken) m e h = absurd (cc)
judged_valid tokens names None m e h =
    let same : module_of tokens (rows_of (lexemes_of tokens)) ≡ m = cc in
    subst IsValid same (module_valid tokens (rows_of (lexemes_of tokens)) (sound tokens names e))

tokens_valid : (tokens : List Token) → HasNames tokens → (m : AModule) → assembled_tokens tokens ≡ Ok m → IsValid m
unfolding assembled_tokens
tokens_valid tokens names m h = judged_valid tokens names (first_break (file_of (rows_of (lexemes_of tokens)))) m refl h

pub valid_told : (tokens : List Token) (answer : Result AModule AsmFault) → HasNames tokens → IfOk answer (λ m. assembled_tokens tokens ≡ Ok m) → IfOk answer IsValid
valid_told tokens (Ok m) names h = tokens_valid tokens names m h
valid_told tokens (Err fault) names h = tt
