-- Where the lines of a file stand: each line's place follows from that of the line before it.
use Rattle.std.proofs.Common.{◌≡◌, ℕ, zero, suc, ◌+◌, ◌<◌, ◌≤◌, ◌⊎◌, inl, inr, true, List, [], ◌∷◌, drop, length, Option, Some, None, slice_get, refl, sym, ap, subst, ◌∙◌, arith}
use Rattle.p9_abs.specs.declared.instructions.Op.{Op}
use Rattle.p9_abs.specs.declared.instructions.Op.TheVariants.{Ret, Jmp}
use Rattle.p9_abs.specs.declared.instructions.Abs.{Abs}
use Rattle.p9_abs.specs.Validity.{EndsWell}
use Rattle.p9_statement.specs.declared.lexemes.Lexeme.{Lexeme}
use Rattle.p9_statement.specs.declared.statements.Arguments.{Arguments}
use Rattle.p9_statement.specs.declared.statements.Statement.{Statement}
use Rattle.p9_statement.specs.declared.statements.Statement.TheVariants as statements
use Rattle.p9_statement.specs.declared.statements.Line.{Line}
use Rattle.p9_statement.specs.Statements.{line_of}
use Rattle.p9_rows.specs.declared.rows.Place.{Place}
use Rattle.p9_rows.specs.declared.rows.Row.{Row}
use Rattle.p9_rows.specs.Rows.{after_statement, after_content, rows_from, rows_of, lines_of, before_all}
use Rattle.p9_asm.specs.Files.{File, statement_in}
use Rattle.p9_asm.specs.Breaks.{may_end}
use Rattle.p9_asm.specs.Code.{instruction_of, in_code, code_of}
use Rattle.p9_asm.proofs.Options.{Each}
use Rattle.p9_asm.proofs.Saying.{Counts}

abbrev pub IsChained : (index : ℕ) → Place → List Row → Type 0
IsChained k p [] = Unit {0}
IsChained k p (r ∷ rest) = (r.place ≡ p) × IsChained (k + 1) (after_statement k p (statement_in r.content)) rest

after_same : (k : ℕ) (p : Place) (content : Option Line) → after_content k p content ≡ after_statement k p (statement_in content)
after_same k p None = refl
after_same k p (Some line) = refl

from_chained : (k token : ℕ) (p : Place) (lines : List (List Lexeme)) → IsChained k p (rows_from k token p lines)
from_chained k token p [] = tt
from_chained k token p (line ∷ rest) =
    (refl, subst (λ q. IsChained (k + 1) q (rows_from (k + 1) (token + length line + 1) (after_content k p (line_of line)) rest)) (after_same k p (line_of line)) (from_chained (k + 1) (token + length line + 1) (after_content k p (line_of line)) rest))

pub rows_chained : (lexemes : List Lexeme) → IsChained 0 before_all (rows_of lexemes)
rows_chained lexemes = from_chained 0 0 before_all (lines_of lexemes)

-- The lines behind one

behind_here : (k m : ℕ) (p : Place) (x r : Row) (xs : List Row) → k ≡ m → x ≡ r → IsChained k p (x ∷ xs) → IsChained (m + 1) (after_statement m r.place (statement_in r.content)) xs
behind_here k m p x r xs e same h =
    let P : ℕ → Row → Type 0 = λ n y. IsChained (n + 1) (after_statement n y.place (statement_in y.content)) xs in
    let g : P k x = subst (λ q. IsChained (k + 1) (after_statement k q (statement_in x.content)) xs) (sym h.0) h.1 in
    subst (P m) same (subst (λ n. P n x) e g)

pub behind_chained : (k m : ℕ) (p : Place) (rows : List Row) (n : ℕ) (r : Row) → k + n ≡ m → slice_get rows n ≡ Some r → IsChained k p rows → IsChained (m + 1) (after_statement m r.place (statement_in r.content)) (drop (suc n) rows)
behind_chained k m p [] n r e at h = absurd (cc)
behind_chained k m p (x ∷ xs) zero r e at h =
    let same : x ≡ r = cc in
    behind_here k m p x r xs (omega (arith, e)) same h
behind_chained k m p (x ∷ xs) (suc n) r e at h = behind_chained (k + 1) m (after_statement k p (statement_in x.content)) xs n r (omega (arith, e)) at h.1

-- Functions

after_before : (k : ℕ) (p : Place) (st : Option Statement) → ((g : ℕ) → p.function ≡ Some g → g < k) → (g : ℕ) → (after_statement k p st).function ≡ Some g → g < k + 1
after_before k p None h g e = omega (arith, h g e)
after_before k p (Some (statements.Text s frame)) h g e = let same : k ≡ g = cc in omega (arith, same)
after_before k p (Some (statements.Globl s size)) h g e = omega (arith, h g e)
after_before k p (Some (statements.Data s o d)) h g e = omega (arith, h g e)
after_before k p (Some (statements.Signature s t)) h g e = omega (arith, h g e)
after_before k p (Some (statements.Instruction op given)) h g e = omega (arith, h g e)

-- a line's function begins before it
pub function_before : (k : ℕ) (p : Place) (rows : List Row) (n : ℕ) (r : Row) (g : ℕ) → IsChained k p rows → ((g : ℕ) → p.function ≡ Some g → g < k) → slice_get rows n ≡ Some r → r.place.function ≡ Some g → g < k + n
function_before k p [] n r g h before at e = absurd (cc)
function_before k p (x ∷ xs) zero r g h before at e =
    let same : x ≡ r = cc in
    let place : p ≡ r.place = sym h.0 ∙ ap (λ (y : Row). y.place) same in
    let lt = before g (ap (λ (q : Place). q.function) place ∙ e) in
    omega (arith, lt)
function_before k p (x ∷ xs) (suc n) r g h before at e =
    let lt = function_before (k + 1) (after_statement k p (statement_in x.content)) xs n r g h.1 (after_before k p (statement_in x.content) before) at e in
    omega (arith, lt)

after_from : (k : ℕ) (p : Place) (st : Option Statement) (g : ℕ) → (after_statement k p st).function ≡ Some g → (p.function ≡ Some g) ⊎ (k ≤ g)
after_from k p None g e = inl e
after_from k p (Some (statements.Text s frame)) g e = let same : k ≡ g = cc in inr (omega (arith, same))
after_from k p (Some (statements.Globl s size)) g e = inl e
after_from k p (Some (statements.Data s o d)) g e = inl e
after_from k p (Some (statements.Signature s t)) g e = inl e
after_from k p (Some (statements.Instruction op given)) g e = inl e

-- the function of a line is that of the first, or begins behind it
pub function_from : (k : ℕ) (p : Place) (rows : List Row) (n : ℕ) (r : Row) (g : ℕ) → IsChained k p rows → slice_get rows n ≡ Some r → r.place.function ≡ Some g → (p.function ≡ Some g) ⊎ (k ≤ g)
function_from k p [] n r g h at e = absurd (cc)
function_from k p (x ∷ xs) zero r g h at e =
    let same : x ≡ r = cc in
    let place : p ≡ r.place = sym h.0 ∙ ap (λ (y : Row). y.place) same in
    inl (ap (λ (q : Place). q.function) place ∙ e)
function_from k p (x ∷ xs) (suc n) r g h at e =
    elim (function_from (k + 1) (after_statement k p (statement_in x.content)) xs n r g h.1 at e) [
      | inl same ↦ after_from k p (statement_in x.content) g same
      | inr le ↦ inr (omega (arith, le))
    ]

-- Counting a function's instructions

pub counts_function : (f m : ℕ) (p : Place) (st : Option Statement) → Counts f m p st → p.function ≡ Some f
counts_function f m p None h = absurd h
counts_function f m p (Some (statements.Text s frame)) h = absurd h
counts_function f m p (Some (statements.Globl s size)) h = absurd h
counts_function f m p (Some (statements.Data s o d)) h = absurd h
counts_function f m p (Some (statements.Signature s t)) h = absurd h
counts_function f m p (Some (statements.Instruction op given)) h = h.0

count_here : (file : File) (f m : ℕ) (p : Place) (st : Option Statement) (code : List Abs) → Counts f m p st → m < p.number + length (in_code file f st code)
count_here file f m p None code h = absurd h
count_here file f m p (Some (statements.Text s frame)) code h = absurd h
count_here file f m p (Some (statements.Globl s size)) code h = absurd h
count_here file f m p (Some (statements.Data s o d)) code h = absurd h
count_here file f m p (Some (statements.Signature s t)) code h = absurd h
count_here file f m p (Some (statements.Instruction op given)) code h = omega (arith, h.1)

count_step : (file : File) (f k m n : ℕ) (p : Place) (st : Option Statement) (xs : List Row) (r : Row) → p.function ≡ Some f → f < k → IsChained (k + 1) (after_statement k p st) xs → slice_get xs n ≡ Some r → r.place.function ≡ Some f → ((q : Place) → q.function ≡ Some f → IsChained (k + 1) q xs → m < q.number + length (code_of file f xs)) → m < p.number + length (in_code file f st (code_of file f xs))
count_step file f k m n p None xs r in_f lt h at e more = more p in_f h
count_step file f k m n p (Some (statements.Text s frame)) xs r in_f lt h at e more =
    elim (function_from (k + 1) (after_statement k p (Some (statements.Text s frame))) xs n r f h at e) [
      | inl same ↦ (let d : k ≡ f = cc in absurd (omega (arith, d, lt)))
      | inr le ↦ absurd (omega (arith, le, lt))
    ]
count_step file f k m n p (Some (statements.Globl s size)) xs r in_f lt h at e more = more p in_f h
count_step file f k m n p (Some (statements.Data s o d)) xs r in_f lt h at e more = more p in_f h
count_step file f k m n p (Some (statements.Signature s t)) xs r in_f lt h at e more = more p in_f h
count_step file f k m n p (Some (statements.Instruction op given)) xs r in_f lt h at e more =
    let g = more (after_statement k p (Some (statements.Instruction op given))) in_f h in
    omega (arith, g)

-- an instruction of a function has a number below their count
pub number_below : (file : File) (f k m : ℕ) (p : Place) (rows : List Row) (n : ℕ) (r : Row) → p.function ≡ Some f → f < k → IsChained k p rows → slice_get rows n ≡ Some r → Counts f m r.place (statement_in r.content) → m < p.number + length (code_of file f rows)
number_below file f k m p [] n r in_f lt h at c = absurd (cc)
number_below file f k m p (x ∷ xs) zero r in_f lt h at c =
    let same : r ≡ x = cc in
    let d : Counts f m x.place (statement_in x.content) = subst (λ (y : Row). Counts f m y.place (statement_in y.content)) same c in
    count_here file f m p (statement_in x.content) (code_of file f xs) (subst (λ q. Counts f m q (statement_in x.content)) h.0 d)
number_below file f k m p (x ∷ xs) (suc n) r in_f lt h at c =
    count_step file f k m n p (statement_in x.content) xs r in_f lt h.1 at (counts_function f m r.place (statement_in r.content) c)
    (λ q in_q g. number_below file f (k + 1) m q xs n r in_q (omega (arith, lt)) g at c)

-- Facts of each instruction of a function

abbrev pub HoldsOfRows : (Abs → Type 0) → File → (f : ℕ) → (frame : ℕ) → List Row → Type 0
HoldsOfRows q file f frame rows = (n : ℕ) (r : Row) (op : Op) (given : Arguments) → slice_get rows n ≡ Some r → r.place.function ≡ Some f → r.place.frame ≡ frame → statement_in r.content ≡ Some (statements.Instruction op given) → q (instruction_of file f op given)

each_step : (q : Abs → Type 0) (file : File) (f k : ℕ) (p : Place) (st : Option Statement) (xs : List Row) → p.function ≡ Some f → ((op : Op) (given : Arguments) → st ≡ Some (statements.Instruction op given) → q (instruction_of file f op given)) → IsChained (k + 1) (after_statement k p st) xs → ((r : Place) → r.function ≡ Some f → r.frame ≡ p.frame → IsChained (k + 1) r xs → Each q (code_of file f xs)) → Each q (in_code file f st (code_of file f xs))
each_step q file f k p None xs in_f here h more = more p in_f refl h
each_step q file f k p (Some (statements.Text s frame)) xs in_f here h more = tt
each_step q file f k p (Some (statements.Globl s size)) xs in_f here h more = more p in_f refl h
each_step q file f k p (Some (statements.Data s o d)) xs in_f here h more = more p in_f refl h
each_step q file f k p (Some (statements.Signature s t)) xs in_f here h more = more p in_f refl h
each_step q file f k p (Some (statements.Instruction op given)) xs in_f here h more =
    (here op given refl, more (after_statement k p (Some (statements.Instruction op given))) in_f refl h)

pub code_each : (q : Abs → Type 0) (file : File) (f k frame : ℕ) (p : Place) (rows : List Row) → p.function ≡ Some f → p.frame ≡ frame → IsChained k p rows → HoldsOfRows q file f frame rows → Each q (code_of file f rows)
code_each q file f k frame p [] in_f in_frame h holds = tt
code_each q file f k frame p (x ∷ xs) in_f in_frame h holds =
    each_step q file f k p (statement_in x.content) xs in_f
    (λ op given is. holds 0 x op given refl (ap (λ (y : Place). y.function) h.0 ∙ in_f) (ap (λ (y : Place). y.frame) h.0 ∙ in_frame) is) h.1
    (λ r in_r frame_r g. code_each q file f (k + 1) frame r xs in_r (frame_r ∙ in_frame) g (λ n. holds (suc n)))

-- The end of a function

may_end_is : (op : Op) → may_end op ≡ true → (op ≡ Ret) ⊎ (op ≡ Jmp)
may_end_is Ret h = inl refl
may_end_is Jmp h = inr refl
may_end_is _ h = absurd (cc)

ends_cons : (a : Abs) (code : List Abs) → (length code ≡ 0 → (a.op ≡ Ret) ⊎ (a.op ≡ Jmp)) → (1 ≤ length code → EndsWell code) → EndsWell (a ∷ code)
ends_cons a [] last more = last refl
ends_cons a (b ∷ code) last more = more (omega arith)

abbrev pub EndsRows : (f total : ℕ) → List Row → Type 0
EndsRows f total rows = (n : ℕ) (r : Row) (op : Op) (given : Arguments) → slice_get rows n ≡ Some r → r.place.function ≡ Some f → statement_in r.content ≡ Some (statements.Instruction op given) → r.place.number + 1 ≡ total → may_end op ≡ true

ends_step : (file : File) (f k total : ℕ) (p : Place) (st : Option Statement) (xs : List Row) → p.function ≡ Some f → ((op : Op) (given : Arguments) → st ≡ Some (statements.Instruction op given) → p.number + 1 ≡ total → may_end op ≡ true) → IsChained (k + 1) (after_statement k p st) xs → ((r : Place) → r.function ≡ Some f → IsChained (k + 1) r xs → r.number + length (code_of file f xs) ≡ total → 1 ≤ length (code_of file f xs) → EndsWell (code_of file f xs)) → p.number + length (in_code file f st (code_of file f xs)) ≡ total → 1 ≤ length (in_code file f st (code_of file f xs)) → EndsWell (in_code file f st (code_of file f xs))
ends_step file f k total p None xs in_f here h more count some = more p in_f h count some
ends_step file f k total p (Some (statements.Text s frame)) xs in_f here h more count some = absurd (omega (arith, some))
ends_step file f k total p (Some (statements.Globl s size)) xs in_f here h more count some = more p in_f h count some
ends_step file f k total p (Some (statements.Data s o d)) xs in_f here h more count some = more p in_f h count some
ends_step file f k total p (Some (statements.Signature s t)) xs in_f here h more count some = more p in_f h count some
ends_step file f k total p (Some (statements.Instruction op given)) xs in_f here h more count some =
    ends_cons (instruction_of file f op given) (code_of file f xs)
    (λ none. may_end_is op (here op given refl (omega (arith, count, none))))
    (more (after_statement k p (Some (statements.Instruction op given))) in_f h (omega (arith, count)))

pub code_ends : (file : File) (f k total : ℕ) (p : Place) (rows : List Row) → p.function ≡ Some f → IsChained k p rows → EndsRows f total rows → p.number + length (code_of file f rows) ≡ total → 1 ≤ length (code_of file f rows) → EndsWell (code_of file f rows)
code_ends file f k total p [] in_f h ends count some = absurd (omega (arith, some))
code_ends file f k total p (x ∷ xs) in_f h ends count some =
    ends_step file f k total p (statement_in x.content) xs in_f
    (λ op given is last. ends 0 x op given refl (ap (λ (y : Place). y.function) h.0 ∙ in_f) is (ap (λ (y : Place). y.number + 1) h.0 ∙ last)) h.1
    (λ r in_r g. code_ends file f (k + 1) total r xs in_r g (λ n. ends (suc n))) count some
