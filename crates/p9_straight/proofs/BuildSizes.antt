-- How many instructions the code has.
use Rattle.std.proofs.Common.{◌≡◌, ◌≤◌, ◌<◌, ℕ, ◌+◌, ◌*◌, List, [], ◌∷◌, length, Option, Some, None, is_some, Bool, true, false, All, flat_map, refl, sym, ap, ◌∙◌, arith, length-append, true≢false}
use Rattle.std.proofs.lemmas.List.Concat.{flat_map-append}
use Rattle.std.proofs.lemmas.List.Elements.{All-rest, All-head, All-tail}
use Rattle.p9_r3k.specs.declared.inst.Inst.{Inst}
use Rattle.p9_form.specs.declared.file.Operand.{Operand}
use Rattle.p9_form.specs.declared.file.Operand.TheVariants.{Variable, Number}
use Rattle.p9_form.specs.declared.file.Statement.{Statement}
use Rattle.p9_form.specs.declared.file.Statement.TheVariants.{Assign, Write, Exits}
use Rattle.p9_form.specs.declared.file.File.{File}
use Rattle.p9_form.specs.Sharing.{initial_in, statements, declared_data, statements_data, IsSmall}
use Rattle.p9_straight.specs.Layout.{variables_of, texts_at, texts_from}
use Rattle.p9_straight.specs.Code.{load_operand, store_code, statement_code, statements_code, main_code, text_after, code_size, main_of}
use Rattle.p9_straight.proofs.BuildLayout.{declared_append}
use Rattle.p9_straight.specs.Building.{load_count, statement_count, statements_count}

pub load_length : (place : List ℕ → ℕ) (r : ℕ) (o : Operand) → length (load_operand place r o) ≡ load_count o
load_length place r (Variable x) = refl
load_length place r (Number n) = refl

pub statement_length : (place : List ℕ → ℕ) (at : ℕ) (s : Statement) → length (statement_code place at s) ≡ statement_count s
statement_length place at (Assign x left None) = omega (arith, length-append (load_operand place 2 left) (store_code place x), load_length place 2 left)
statement_length place at (Assign x left (Some right)) = omega (arith, length-append {A = Inst}, load_length place 2 left, load_length place 3 right)
statement_length place at (Write text count) = omega (arith, length-append {A = Inst}, load_length place 2 count)
statement_length place at (Exits None) = refl
statement_length place at (Exits (Some text)) = refl

pub statements_length : (place : List ℕ → ℕ) (at end : ℕ) (ss : List Statement) → length (statements_code place at end ss) ≡ statements_count ss + 5
statements_length place at end [] = refl
statements_length place at end (s ∷ ss) =
    omega (arith, length-append (statement_code place at s) (statements_code place (text_after at s) end ss), statement_length place at s, statements_length place (text_after at s) end ss)

pub main_length : (place : List ℕ → ℕ) (at end : ℕ) (ss : List Statement) → length (main_code place at end ss) ≡ 6 + statements_count ss
main_length place at end ss = omega (arith, statements_length place at end ss)

pub code_size_is : (ss : List Statement) → code_size ss ≡ 4 * (6 + statements_count ss)
code_size_is ss = ap (λ n. 4 * n) (main_length (λ x. 0) 0 0 ss)

pub load_most : (o : Operand) → load_count o ≤ 4
load_most (Variable x) = omega arith
load_most (Number n) = omega arith

pub statement_most : (s : Statement) → statement_count s ≤ 12
statement_most (Assign x left None) = omega (arith, load_most left)
statement_most (Assign x left (Some right)) = omega (arith, load_most left, load_most right)
statement_most (Write text count) = omega (arith, load_most count)
statement_most (Exits None) = omega arith
statement_most (Exits (Some text)) = omega arith

pub statements_most : (ss : List Statement) → statements_count ss ≤ 12 * length ss
statements_most [] = omega arith
statements_most (s ∷ ss) = omega (arith, statement_most s, statements_most ss)

pub count_below : (now : ℕ) (rest whole : List Statement) → length whole ≤ 65536 → now + statements_count rest ≡ 6 + statements_count whole → now ≤ 786438
count_below now rest whole h p = omega (arith, statements_most whole)

pub count_end : (now : ℕ) (rest whole : List Statement) → length rest < 1 → now + statements_count rest ≡ 6 + statements_count whole → 4 * now ≡ code_size whole
count_end now [] whole h p = omega (arith, code_size_is whole)
count_end now (s ∷ rest) whole h p = absurd (omega arith)

-- Variables and texts of files

pub variables_length : (file : File) → length (variables_of file) ≡ length (flat_map initial_in file.before) + length (flat_map initial_in file.after)
variables_length file = ap length (flat_map-append initial_in file.before file.after) ∙ length-append (flat_map initial_in file.before) (flat_map initial_in file.after)

pub variables_small : (file : File) (n m : ℕ) → IsSmall file → 4 * n ≤ declared_data file.before → 4 * m ≤ declared_data file.after → 4 * (n + m) + statements_data (statements file.main) ≤ 131072
variables_small file n m s p q = omega (arith, s.data_size, declared_append file.before file.after)

main_none : (x : File) (next : List File) → is_some x.main ≡ false → main_of (x ∷ next) ≡ main_of next
main_none x next h = by x.main h
  where
    by : (o : Option (List Statement)) → is_some o ≡ false → main_of (record x { main = o } ∷ next) ≡ main_of next
    by None h = refl
    by (Some ss) h = absurd (true≢false h)

pub main_some : (x : File) (next : List File) → is_some x.main ≡ true → main_of (x ∷ next) ≡ statements x.main
main_some x next h = by x.main h
  where
    by : (o : Option (List Statement)) → is_some o ≡ true → main_of (record x { main = o } ∷ next) ≡ statements o
    by None h = absurd (true≢false (sym h))
    by (Some ss) h = refl

texts_none : (at : ℕ) (x : File) (next : List File) → is_some x.main ≡ false → texts_at at (x ∷ next) ≡ texts_at (at + 4 * length (variables_of x)) next
texts_none at x next h = by x.main h
  where
    by : (o : Option (List Statement)) → is_some o ≡ false → texts_from o (at + 4 * length (variables_of x)) (texts_at (at + 4 * length (variables_of x)) next) ≡ texts_at (at + 4 * length (variables_of x)) next
    by None h = refl
    by (Some ss) h = absurd (true≢false h)

-- a file without `main` before those that are left
pub texts_turn : (at here size : ℕ) (x : File) (next rest files : List File) → rest ≡ x ∷ next → is_some x.main ≡ false → size ≡ 4 * length (variables_of x) → size ≤ 131072 → (texts_at here rest ≡ texts_at at files) × (main_of rest ≡ main_of files) × All IsSmall rest × (here + 131072 * length rest ≤ at + 131072 * length files) → (texts_at (here + size) next ≡ texts_at at files) × (main_of next ≡ main_of files) × All IsSmall next × (here + size + 131072 * length next ≤ at + 131072 * length files)
texts_turn at here size x next rest files is n e small p = (
  ap (λ s. texts_at (here + s) next) e ∙ sym (texts_none here x next n) ∙ sym (ap (texts_at here) is) ∙ p.0,
  sym (main_none x next n) ∙ sym (ap main_of is) ∙ p.1,
  All-rest IsSmall x next rest is p.2,
  omega (arith, p.3, ap length is),
)

pub texts_end : (at here size : ℕ) (x : File) (next rest files : List File) → rest ≡ x ∷ next → is_some x.main ≡ true → size + statements_data (statements x.main) ≤ 131072 → main_of rest ≡ main_of files → here + 131072 * length rest ≤ at + 131072 * length files → here + size + statements_data (main_of files) ≤ at + 131072 * length files
texts_end at here size x next rest files is y small m p =
    let e : statements_data (main_of files) ≡ statements_data (statements x.main) = ap statements_data (sym m ∙ ap main_of is ∙ main_some x next y) in
    omega (arith, ap length is)

pub main_small : (files : List File) → All IsSmall files → length (main_of files) ≤ 65536
main_small [] h = omega arith
main_small (x ∷ files) h = by (is_some x.main) refl (main_small files (All-tail IsSmall x files h))
  where
    by : (b : Bool) → is_some x.main ≡ b → length (main_of files) ≤ 65536 → length (main_of (x ∷ files)) ≤ 65536
    by true y others = omega (arith, ap length (main_some x files y), (All-head IsSmall x files h).count)
    by false n others = omega (arith, ap length (main_none x files n))
