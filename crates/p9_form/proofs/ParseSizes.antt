-- A file weighs at least its data and the number of its statements.
use Rattle.std.proofs.Common.{◌≡◌, ℕ, ◌+◌, ◌≤◌, Bool, true, false, List, [], ◌∷◌, ◌++◌, length, Option, Some, None, ap, ◌∙◌, arith}
use Rattle.p9_first.specs.Tokens.{Token, End}
use Rattle.p9_form.specs.declared.file.Operand.{Operand}
use Rattle.p9_form.specs.declared.file.Statement.{Statement}
use Rattle.p9_form.specs.declared.file.Statement.TheVariants.{Assign, Write, Exits}
use Rattle.p9_form.specs.declared.file.First.{First}
use Rattle.p9_form.specs.declared.file.First.TheVariants as first
use Rattle.p9_form.specs.declared.file.Declaration.{Declaration}
use Rattle.p9_form.specs.declared.file.File.{File}
use Rattle.p9_form.specs.Scanning.{weights}
use Rattle.p9_form.specs.Sharing.{statements, padded, statement_data, declared_data, statements_data, IsSmall}
use Rattle.p9_form.specs.Phrases.{mark, right_tokens, statement_tokens, statements_tokens, declaration_tokens, declarations_tokens, main_tokens, written}
use Rattle.p9_form.specs.Found.{IsWritten}

weights_append : (ts us : List Token) → weights (ts ++ us) ≡ weights ts + weights us
weights_append [] us = omega arith
weights_append (t ∷ ts) us = let others = weights_append ts us in omega arith

padded_bound : (n : ℕ) → padded n ≤ n + 4
padded_bound n = omega arith

right_weighs : (right : Option Operand) (rest : List Token) → weights rest ≤ weights (right_tokens right ++ rest)
right_weighs right rest = omega (arith, weights_append (right_tokens right) rest)

statement_weighs : (s : Statement) → (statement_data s ≤ weights (statement_tokens s)) × (1 ≤ weights (statement_tokens s))
statement_weighs (Assign x left right) = let h = weights_append (right_tokens right) (mark 59 ∷ []) in (omega arith, omega arith)
statement_weighs (Write text count) = let h = padded_bound (length text) in (omega arith, omega arith)
statement_weighs (Exits None) = (omega arith, omega arith)
statement_weighs (Exits (Some text)) = let h = padded_bound (length text) in (omega arith, omega arith)

statements_weigh : (ss : List Statement) → (statements_data ss ≤ weights (statements_tokens ss)) × (length ss ≤ weights (statements_tokens ss))
statements_weigh [] = (omega arith, omega arith)
statements_weigh (s ∷ ss) =
    let first = statement_weighs s in
    let others = statements_weigh ss in
    let sum = weights_append (statement_tokens s) (statements_tokens ss) in
    (omega arith, omega arith)

declaration_weighs : (name : List ℕ) (is_long : Bool) (f : First) → 4 ≤ weights (declaration_tokens (record { name = name; is_long = is_long; first = f }))
declaration_weighs name true first.Extern = omega arith
declaration_weighs name false first.Extern = omega arith
declaration_weighs name true first.Zero = omega arith
declaration_weighs name false first.Zero = omega arith
declaration_weighs name true (first.Number value) = omega arith
declaration_weighs name false (first.Number value) = omega arith

declarations_weigh : (ds : List Declaration) → declared_data ds ≤ weights (declarations_tokens ds)
declarations_weigh [] = omega arith
declarations_weigh (d ∷ ds) =
    let first = declaration_weighs d.name d.is_long d.first in
    let others = declarations_weigh ds in
    let sum = weights_append (declaration_tokens d) (declarations_tokens ds) in
    omega arith

declared_append : (ds es : List Declaration) → declared_data (ds ++ es) ≡ declared_data ds + declared_data es
declared_append [] es = omega arith
declared_append (d ∷ ds) es = let others = declared_append ds es in omega arith

main_weighs : (main : Option (List Statement)) → (statements_data (statements main) ≤ weights (main_tokens main)) × (length (statements main) ≤ weights (main_tokens main))
main_weighs None = (omega arith, omega arith)
main_weighs (Some ss) =
    let h = statements_weigh ss in
    let sum = weights_append (statements_tokens ss) (mark 125 ∷ []) in
    (omega arith, omega arith)

weight_of_file : (file : File) → weights (written file) ≡ weights (declarations_tokens file.before) + (weights (main_tokens file.main) + weights (declarations_tokens file.after))
weight_of_file file =
    let rest = declarations_tokens file.after ++ End ∷ [] in
    let a = weights_append (declarations_tokens file.before) (main_tokens file.main ++ rest) in
    let b = weights_append (main_tokens file.main) rest in
    let c = weights_append (declarations_tokens file.after) (End ∷ []) in
    omega arith

pub file_small : (ts : List Token) (file : File) → IsWritten ts file → weights ts ≤ 65536 → IsSmall file
file_small ts file w h =
    let whole = ap weights w.is ∙ weight_of_file file in
    let before = declarations_weigh file.before in
    let after = declarations_weigh file.after in
    let main = main_weighs file.main in
    let both = declared_append file.before file.after in
    record { data_size = omega arith; count = omega arith }
