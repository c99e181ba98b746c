-- The bodies of a file's symbols are those of a valid module.
use Rattle.std.proofs.Common.{◌≡◌, ◌≢◌, ℕ, suc, ◌+◌, ◌==◌, ◌≤◌, leb, Bool, true, false, ◌&&◌, not, cond, List, [], ◌∷◌, ◌++◌, map, drop, length, Option, Some, None, slice_get, refl, sym, ap, subst, ◌∙◌, arith}
use Rattle.std.specs.Prelude.{is_some, option_and_then, option_to_list}
use Rattle.std.specs.List.{flat_map, list_all}
use Rattle.std.proofs.lemmas.List.Elements.{All-nil}
use Rattle.std.proofs.lemmas.Bool.Decides.{nat_tests}
use Rattle.p9_abs.specs.declared.instructions.Operand.{Operand}
use Rattle.p9_abs.specs.declared.instructions.Abs.{Abs}
use Rattle.p9_abs.specs.declared.modules.DataPiece.{DataPiece}
use Rattle.p9_abs.specs.declared.modules.Body.{Body}
use Rattle.p9_abs.specs.declared.modules.Body.TheVariants as bodies
use Rattle.p9_abs.specs.Modules.{is_definition, named_by_operand, named_by_piece}
use Rattle.p9_abs.specs.Validity.{IsSignature, IsWithin, NamesWithin, IsFilled, HasWellPieced, HasSizeInRange, HasFunction}
use Rattle.p9_lex.specs.declared.token.Token.{Token}
use Rattle.p9_statement.specs.declared.operands.SymbolName.{SymbolName}
use Rattle.p9_statement.specs.declared.operands.Argument as argument
use Rattle.p9_statement.specs.declared.operands.Argument.TheVariants as from
use Rattle.p9_statement.specs.declared.statements.Arguments.{Arguments}
use Rattle.p9_statement.specs.declared.statements.Arguments.TheVariants.{Zero, One, Two, Three}
use Rattle.p9_statement.specs.declared.statements.Statement.{Statement}
use Rattle.p9_statement.specs.declared.statements.Statement.TheVariants as statements
use Rattle.p9_statement.specs.Lexemes.{is_signature_byte, is_signature}
use Rattle.p9_statement.specs.Statements.{listed}
use Rattle.p9_rows.specs.declared.rows.Row.{Row}
use Rattle.p9_facts.specs.Facts.{says, definition, signature, value_of, use_of, symbol_in}
use Rattle.p9_facts.specs.Names.{names_in, symbols_of}
use Rattle.p9_asm.specs.Files.{file_of, statement_in, statement_at}
use Rattle.p9_asm.specs.Breaks.{size_in}
use Rattle.p9_asm.specs.Code.{operand_of, code_of}
use Rattle.p9_asm.specs.Data.{pieces_from}
use Rattle.p9_asm.specs.Modules.{text_at, signature_in, signature_of, text_body, defined_body, body_by, body_of}
use Rattle.p9_asm.proofs.Options.{Each, each_append, all_each}
use Rattle.p9_asm.proofs.Places.{found_first}
use Rattle.p9_facts.proofs.Noting.{both}
use Rattle.p9_asm.proofs.Saying.{Defines, Signs, row_defines, row_signs}
use Rattle.p9_asm.proofs.Chained.{HoldsOfRows, code_each}
use Rattle.p9_asm.proofs.Clean.{IsSound}
use Rattle.p9_asm.proofs.Functions.{get_drop, proper_at, start, body_chained, function_valid}
use Rattle.p9_asm.proofs.Listed.{each_parts, IsListed, number_small}
use Rattle.p9_asm.proofs.Celled.{statement_there, statement_listed, HasSize, data_well}

pub record IsBody (total : ℕ) (body : Body) : Type 0 where
  pub numbers : NamesWithin total body
  pub size : HasSizeInRange body
  pub pieces : HasWellPieced body
  pub function : HasFunction body

-- What operands name

abbrev NamesOperand : ℕ → Operand → Type 0
NamesOperand total o = IsWithin total (named_by_operand o)

abbrev NamesPiece : ℕ → DataPiece → Type 0
NamesPiece total p = IsWithin total (named_by_piece p)

operand_within : (rows : List Row) (f : ℕ) (a : argument.Argument) → Each (IsListed (symbols_of rows)) (option_to_list (symbol_in a)) → NamesOperand (length (symbols_of rows)) (operand_of (file_of rows) f a)
unfolding operand_of
operand_within rows f (from.Address s o) h = number_small (symbols_of rows) s h.0
operand_within rows f (from.Memory s o) h = number_small (symbols_of rows) s h.0
operand_within rows f (from.Function s) h = number_small (symbols_of rows) s h.0
operand_within rows f _ h = tt

operands_within : (rows : List Row) (f : ℕ) (given : Arguments) → Each (IsListed (symbols_of rows)) (names_in given) → Each (NamesOperand (length (symbols_of rows))) (map (operand_of (file_of rows) f) (listed given))
operands_within rows f Zero h = tt
operands_within rows f (One a) h = (operand_within rows f a h, tt)
operands_within rows f (Two a b) h =
    let parts = each_parts (IsListed (symbols_of rows)) (option_to_list (symbol_in a)) (option_to_list (symbol_in b)) h in
    (operand_within rows f a parts.0, (operand_within rows f b parts.1, tt))
operands_within rows f (Three a b c) h =
    let parts = each_parts (IsListed (symbols_of rows)) (option_to_list (symbol_in a) ++ option_to_list (symbol_in b)) (option_to_list (symbol_in c)) h in
    let more = each_parts (IsListed (symbols_of rows)) (option_to_list (symbol_in a)) (option_to_list (symbol_in b)) parts.0 in
    (operand_within rows f a more.0, (operand_within rows f b more.1, (operand_within rows f c parts.1, tt)))

each_flat : {X Y : Type 0} (P : Y → Type 0) (f : X → List Y) (xs : List X) → Each (λ x. Each P (f x)) xs → Each P (flat_map f xs)
each_flat P f [] h = tt
each_flat P f (x ∷ xs) h = each_append P (f x) (flat_map f xs) h.0 (each_flat P f xs h.1)

code_within : (tokens : List Token) (rows : List Row) (n : ℕ) (r : Row) (t : SymbolName) (frame : ℕ) → IsSound tokens rows → slice_get rows n ≡ Some r → statement_in r.content ≡ Some (statements.Text t frame) → Each (λ (a : Abs). Each (NamesOperand (length (symbols_of rows))) a.operands) (code_of (file_of rows) n (drop (suc n) rows))
code_within tokens rows n r t frame s at is =
    let names : Abs → Type 0 = λ a. Each (NamesOperand (length (symbols_of rows))) a.operands in
    let holds : HoldsOfRows names (file_of rows) n frame (drop (suc n) rows) = λ j q op given here in_n in_frame st.
    operands_within rows n given (statement_listed rows (suc n + j) q (Some (statements.Instruction op given)) (sym (get_drop (suc n) j rows) ∙ here) st) in
    code_each names (file_of rows) n (n + 1) frame (start n frame) (drop (suc n) rows) refl refl (body_chained tokens rows n r t frame s at is) holds

text_valid : (tokens : List Token) (rows : List Row) (n : ℕ) (r : Row) (t : SymbolName) (frame : ℕ) → IsSound tokens rows → slice_get rows n ≡ Some r → statement_in r.content ≡ Some (statements.Text t frame) → IsBody (length (symbols_of rows)) (text_body (file_of rows) n frame)
text_valid tokens rows n r t frame s at is =
    let total = length (symbols_of rows) in
    let same : suc n ≡ n + 1 = omega arith in
    let within = subst (λ k. Each (λ (a : Abs). Each (NamesOperand total) a.operands) (code_of (file_of rows) n (drop k rows))) same (code_within tokens rows n r t frame s at is) in
    let code = code_of (file_of rows) n (drop (n + 1) rows) in
    let operands : Abs → List Operand = λ a. a.operands in
    record {
      numbers = (all_each (NamesOperand total) (flat_map operands code) (each_flat (NamesOperand total) operands code within), All-nil (NamesPiece total));
      size = tt;
      pieces = tt;
      function = function_valid tokens rows n r t frame s at is;
    }

-- Data

data_by : (tokens : List Token) (rows : List Row) (s : SymbolName) (n size : ℕ) (b : Bool) → IsSound tokens rows → HasSize rows s n size → (1 ≤ size) × (size ≤ 16777216) → IsBody (length (symbols_of rows)) (cond b (bodies.Data (pieces_from (file_of rows) s 0 size)) (bodies.Common size))
data_by tokens rows s n size true sound sized range =
    let total = length (symbols_of rows) in
    let ps = pieces_from (file_of rows) s 0 size in
    let w = data_well tokens rows s n size sound sized in
    record {
      numbers = (All-nil (NamesOperand total), all_each (NamesPiece total) ps w.numbers);
      size = (omega (arith, w.size, range.0), omega (arith, w.size, range.1));
      pieces = record { some = w.some range.0; filled = all_each IsFilled ps w.filled; parted = w.parted; aligned = w.aligned };
      function = tt;
    }
data_by tokens rows s n size false sound sized range =
    let total = length (symbols_of rows) in
    record { numbers = (All-nil (NamesOperand total), All-nil (NamesPiece total)); size = range; pieces = tt; function = tt }

undefined_by : (total : ℕ) (b : Bool) → IsBody total (cond b bodies.Used bodies.Declared)
undefined_by total true = record { numbers = (All-nil (NamesOperand total), All-nil (NamesPiece total)); size = tt; pieces = tt; function = tt }
undefined_by total false = record { numbers = (All-nil (NamesOperand total), All-nil (NamesPiece total)); size = tt; pieces = tt; function = tt }

is_data : (b : Bool) (ps : List DataPiece) (size : ℕ) → is_definition (cond b (bodies.Data ps) (bodies.Common size)) ≡ true
is_data true ps size = refl
is_data false ps size = refl

-- Bodies

abbrev IsDefined : ℕ → Body → Type 0
IsDefined total body = IsBody total body × (is_definition body ≡ true)

defined_valid : (tokens : List Token) (rows : List Row) (s : SymbolName) (n : ℕ) (r : Row) (st : Option Statement) → IsSound tokens rows → (file_of rows).first (definition s) ≡ Some n → slice_get rows n ≡ Some r → statement_in r.content ≡ st → Defines s st → IsDefined (length (symbols_of rows)) (defined_body (file_of rows) s n st)
defined_valid tokens rows s n r None sound first at is h = absurd h
defined_valid tokens rows s n r (Some (statements.Text t frame)) sound first at is h = (text_valid tokens rows n r t frame sound at is, refl)
defined_valid tokens rows s n r (Some (statements.Globl t size)) sound first at is h =
    let file = file_of rows in
    let proper = proper_at tokens rows n r (statements.Globl t size) sound at is in
    let sized : HasSize rows s n size = (first, ap size_in (statement_there rows n r (Some (statements.Globl t size)) at is)) in (
      data_by tokens rows s n size (is_some (file.first (value_of s))) sound sized (proper.1, proper.2),
      is_data (is_some (file.first (value_of s))) (pieces_from file s 0 size) size,
    )
defined_valid tokens rows s n r (Some (statements.Data t o d)) sound first at is h = absurd h
defined_valid tokens rows s n r (Some (statements.Signature t token)) sound first at is h = absurd h
defined_valid tokens rows s n r (Some (statements.Instruction op given)) sound first at is h = absurd h

found_valid : (tokens : List Token) (rows : List Row) (s : SymbolName) (n : ℕ) → IsSound tokens rows → (file_of rows).first (definition s) ≡ Some n → IsDefined (length (symbols_of rows)) (body_by (file_of rows) s (Some n))
found_valid tokens rows s n sound first =
    let file = file_of rows in
    let f = found_first (says (definition s)) rows n first in
    let there = statement_there rows n f.item (statement_in f.item.content) f.here refl in
    subst (λ st. IsDefined (length (symbols_of rows)) (defined_body file s n st)) (sym there)
    (defined_valid tokens rows s n f.item (statement_in f.item.content) sound first f.here refl (row_defines s f.item f.passes))

body_by_valid : (tokens : List Token) (rows : List Row) (s : SymbolName) (o : Option ℕ) → IsSound tokens rows → (file_of rows).first (definition s) ≡ o → IsBody (length (symbols_of rows)) (body_by (file_of rows) s o)
body_by_valid tokens rows s None sound first = undefined_by (length (symbols_of rows)) (is_some ((file_of rows).first (use_of s)))
body_by_valid tokens rows s (Some n) sound first = (found_valid tokens rows s n sound first).0

pub body_valid : (tokens : List Token) (rows : List Row) (s : SymbolName) → IsSound tokens rows → IsBody (length (symbols_of rows)) (body_of (file_of rows) s)
body_valid tokens rows s sound = body_by_valid tokens rows s ((file_of rows).first (definition s)) sound refl

defined_by : (tokens : List Token) (rows : List Row) (s : SymbolName) (o : Option ℕ) → IsSound tokens rows → (file_of rows).first (definition s) ≡ o → (s.local && not (is_some o)) ≡ false → s.local ≡ true → is_definition (body_by (file_of rows) s o) ≡ true
defined_by tokens rows s None sound first h l = absurd (let g : (true && not false) ≡ false = subst (λ b. (b && not false) ≡ false) l h in cc)
defined_by tokens rows s (Some n) sound first h l = (found_valid tokens rows s n sound first).1

pub local_defined : (tokens : List Token) (rows : List Row) (s : SymbolName) → IsSound tokens rows → (s.local && not (is_some ((file_of rows).first (definition s)))) ≡ false → s.local ≡ true → is_definition (body_of (file_of rows) s) ≡ true
local_defined tokens rows s sound h l = defined_by tokens rows s ((file_of rows).first (definition s)) sound refl h l

-- Signatures

not_true : (b : Bool) → not b ≡ true → b ≡ false
not_true true h = absurd (cc)
not_true false h = refl

signature_byte : (b : ℕ) → is_signature_byte b ≡ true → (33 ≤ b) × (b ≤ 126) × (b ≢ 34) × (b ≢ 92)
signature_byte b h =
    let a = both (leb 33 b && leb b 126 && not (b == 34)) (not (b == 92)) h in
    let c = both (leb 33 b && leb b 126) (not (b == 34)) a.0 in
    let d = both (leb 33 b) (leb b 126) c.0 in
    (grind (arith, nat_tests, d.0), grind (arith, nat_tests, d.1), grind (arith, nat_tests, not_true (b == 34) c.1), grind (arith, nat_tests, not_true (b == 92) a.1))

signature_bytes : (bytes : List ℕ) → list_all is_signature_byte bytes ≡ true → Each (λ b. (33 ≤ b) × (b ≤ 126) × (b ≢ 34) × (b ≢ 92)) bytes
signature_bytes [] h = tt
signature_bytes (b ∷ bytes) h =
    let parts = both (is_signature_byte b) (list_all is_signature_byte bytes) h in
    (signature_byte b parts.0, signature_bytes bytes parts.1)

abbrev IsByte : ℕ → Type 0
IsByte b = (33 ≤ b) × (b ≤ 126) × (b ≢ 34) × (b ≢ 92)

text_signature : (bytes : List ℕ) → is_signature bytes ≡ true → IsSignature bytes
text_signature bytes h =
    let parts = both (leb (length bytes) 65536) (list_all is_signature_byte bytes) h in
    (grind (arith, nat_tests, parts.0), all_each IsByte bytes (signature_bytes bytes parts.1))

abbrev IsSigned : (s : SymbolName) → List ℕ → Type 0
IsSigned s sig = IsSignature sig × (s.local ≡ true → sig ≡ [])

signed_in : (tokens : List Token) (rows : List Row) (s : SymbolName) (n : ℕ) (r : Row) (st : Option Statement) → IsSound tokens rows → slice_get rows n ≡ Some r → statement_in r.content ≡ st → Signs s st → IsSigned s (signature_in tokens st)
signed_in tokens rows s n r None sound at is h = absurd h
signed_in tokens rows s n r (Some (statements.Text t frame)) sound at is h = absurd h
signed_in tokens rows s n r (Some (statements.Globl t size)) sound at is h = absurd h
signed_in tokens rows s n r (Some (statements.Data t o d)) sound at is h = absurd h
signed_in tokens rows s n r (Some (statements.Signature t place)) sound at is h =
    let proper = proper_at tokens rows n r (statements.Signature t place) sound at is in
    let unlocal : s.local ≡ false = sym (ap (λ (x : SymbolName). x.local) h) ∙ proper.1 in
    (text_signature (text_at tokens place) proper.2, λ l. absurd (cc))
signed_in tokens rows s n r (Some (statements.Instruction op given)) sound at is h = absurd h

no_signature : (s : SymbolName) → IsSigned s []
no_signature s = ((omega arith, All-nil IsByte), λ l. refl)

signed_by : (tokens : List Token) (rows : List Row) (s : SymbolName) (o : Option ℕ) → IsSound tokens rows → (file_of rows).first (signature s) ≡ o → IsSigned s (signature_in tokens (option_and_then (statement_at (file_of rows)) o))
signed_by tokens rows s None sound first = no_signature s
signed_by tokens rows s (Some n) sound first =
    let f = found_first (says (signature s)) rows n first in
    let there = statement_there rows n f.item (statement_in f.item.content) f.here refl in
    subst (λ st. IsSigned s (signature_in tokens st)) (sym there)
    (signed_in tokens rows s n f.item (statement_in f.item.content) sound f.here refl (row_signs s f.item f.passes))

pub signature_valid : (tokens : List Token) (rows : List Row) (s : SymbolName) → IsSound tokens rows → IsSigned s (signature_of tokens (file_of rows) s)
signature_valid tokens rows s sound = signed_by tokens rows s ((file_of rows).first (signature s)) sound refl
