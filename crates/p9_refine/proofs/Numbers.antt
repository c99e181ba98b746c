-- Numbers of entries and instructions, and of their first lines: they rise, and each function has a line.
use Rattle.std.proofs.Common.{ℕ, zero, suc, ◌+◌, ◌-◌, ◌≡◌, ◌≤◌, ◌<◌, Option, Some, IsSome, List, [], ◌∷◌, length, length-append, take, sum_by, refl, sym, ap, ◌∙◌, subst, All, arith}
use Rattle.std.specs.Prelude.{slice_get}
use Rattle.std.proofs.Math.Seq.{take-nil}
use Rattle.std.proofs.lemmas.List.Sums.{sum_by-cons}
use Rattle.std.proofs.lemmas.List.Elements.{All-head, All-tail}
use Rattle.std.proofs.lemmas.Option.{same_Some, none-some, slice_get_within}
use Rattle.p9_abs.specs.declared.instructions.Abs.{Abs}
use Rattle.p9_abs.specs.declared.modules.AModule.{AModule}
use Rattle.p9_abs.specs.declared.forms.Form.{Form}
use Rattle.p9_abs.specs.Forms.{decoded}
use Rattle.p9_abs.specs.Runs.{Routine}
use Rattle.p9_abs.specs.Programs.{routines_of}
use Rattle.p9_abs.specs.Validity.{IsInstruction, IsFunction, EndsWell, IsValid}
use Rattle.p9_r3k.specs.declared.lines.Line.{Line}
use Rattle.p9_text.specs.Places.{places_of}
use Rattle.p9_lines.specs.FormLines.{lines_of}
use Rattle.p9_lines.proofs.Having.{have_lines}
use Rattle.p9_pieces.specs.Callees.{callee_in}
use Rattle.p9_pieces.specs.Ways.{Scope, way_of}
use Rattle.p9_pieces.specs.Pieces.{Piece, pieces_from, joined}
use Rattle.p9_forms.specs.Standing.{Stand}
use Rattle.p9_expand.specs.Program.{program_lines}
use Rattle.p9_expand.proofs.Valid.{IsSound, all_sound}
use Rattle.p9_expand_laws.specs.Standing.{entry_of, line_of, scope_in}
use Rattle.p9_expand_laws.proofs.Standing.{instructions_stand}
use Rattle.p9_refine.specs.Maps.{function_line, instruction_line}

-- an element of a list of which something holds
pub all-at : {X : Type 0} (P : X → Type 0) (xs : List X) (i : ℕ) (x : X) → All P xs → slice_get xs i ≡ Some x → P x
all-at P [] i x h e = absurd (none-some x e)
all-at P (y ∷ ys) zero x h e = subst P (same_Some y x e) (All-head P y ys h)
all-at P (y ∷ ys) (suc i) x h e = all-at P ys i x (All-tail P y ys h) e

-- what rises at each step rises
rising : (f : ℕ → ℕ) → ((i : ℕ) → f i ≤ f (suc i)) → (i d : ℕ) → f i ≤ f (i + d)
rising f h i zero = (let same : f i ≡ f (i + 0) = ap f (omega arith) in omega (arith, same))
rising f h i (suc d) = (let same : f (suc (i + d)) ≡ f (i + suc d) = ap f (omega arith) in omega (arith, same, rising f h i d, h (i + d)))

pub rises : (f : ℕ → ℕ) → ((i : ℕ) → f i ≤ f (suc i)) → (i j : ℕ) → i ≤ j → f i ≤ f j
rises f h i j le = (let there : i + (j - i) ≡ j = omega (arith, le) in subst (λ n. f i ≤ f n) there (rising f h i (j - i)))

-- Lines

longer : (ps : List Piece) (i : ℕ) → length (joined (take i ps)) ≤ length (joined (take (suc i) ps))
longer [] i = (let same : length (joined (take i [])) ≡ length (joined (take (suc i) [])) = ap (λ l. length (joined l)) (take-nil i ∙ sym (take-nil (suc i))) in omega (arith, same))
longer (p ∷ ps) zero = omega arith
longer (p ∷ ps) (suc i) = omega (arith, longer ps i, length-append p (joined (take i ps)), length-append p (joined (take (suc i) ps)))

pub lines-rise : (modules : List AModule) (i j : ℕ) → i ≤ j → line_of modules i ≤ line_of modules j
lines-rise modules i j h = rises (line_of modules) (λ k. omega (arith, longer (pieces_from (callee_in modules) 0 (routines_of modules)) k)) i j h

-- Entries

next-entry : (rs : List Routine) (f : ℕ) (r : Routine) → slice_get rs f ≡ Some r → sum_by places_of (take (suc f) rs) ≡ sum_by places_of (take f rs) + places_of r
next-entry [] f r e = absurd (none-some r e)
next-entry (q ∷ rs) zero r e =
    let same : places_of q ≡ places_of r = ap places_of (same_Some q r e) in
    omega (arith, sum_by-cons places_of q [], same)
next-entry (q ∷ rs) (suc f) r e =
    omega (arith, sum_by-cons places_of q (take (suc f) rs), sum_by-cons places_of q (take f rs), next-entry rs f r e)

more-entries : (rs : List Routine) (f : ℕ) → sum_by places_of (take f rs) ≤ sum_by places_of (take (suc f) rs)
more-entries [] f = (let same : sum_by places_of (take f []) ≡ sum_by places_of (take (suc f) []) = ap (sum_by places_of) (take-nil f ∙ sym (take-nil (suc f))) in omega (arith, same))
more-entries (q ∷ rs) zero = omega arith
more-entries (q ∷ rs) (suc f) = omega (arith, sum_by-cons places_of q (take (suc f) rs), sum_by-cons places_of q (take f rs), more-entries rs f)

pub entry-after : (modules : List AModule) (f g : ℕ) (r : Routine) → slice_get (routines_of modules) f ≡ Some r → f < g → entry_of modules f + places_of r ≤ entry_of modules g
entry-after modules f g r e h =
    omega (arith, next-entry (routines_of modules) f r e, rises (entry_of modules) (more-entries (routines_of modules)) (suc f) g (omega (arith, h)))

-- the entry of the first function
pub first-entry : (modules : List AModule) → function_line modules 0 ≡ 2
first-entry modules = refl

-- Functions

pub some-form : (o : Option Form) → IsSome o → (form : Form) × (o ≡ Some form)
some-form o h = by o h
  where
    by : (p : Option Form) → IsSome p → (form : Form) × (p ≡ Some form)
    by (Some form) k = (form, refl)
    by _ k = absurd (cc k)

-- a function has a first instruction, with a form
pub has-first : (r : Routine) → IsFunction r.def → (a : Abs) × (form : Form) × (slice_get r.def.code 0 ≡ Some a) × (decoded a ≡ Some form)
has-first r v = by r.def.code v.ending v.instructions
  where
    by : (code : List Abs) → EndsWell code → All (IsInstruction r.def.frame (length r.def.code)) code →
        (a : Abs) × (form : Form) × (slice_get code 0 ≡ Some a) × (decoded a ≡ Some form)
    by [] ends all = absurd ends
    by (a ∷ rest) ends all =
        let i : IsInstruction r.def.frame (length r.def.code) a = All-head (IsInstruction r.def.frame (length r.def.code)) a rest all in
        let f = some-form (decoded a) i.form in
        (a, f.0, refl, f.1)

-- Lines of instructions are lines

within : (lines : List Line) (place : ℕ → ℕ) (n : ℕ) (ls : List Line) → Stand lines place n ls → 0 < length ls → n < length lines
within lines place n [] h some = absurd (omega (arith, some))
within lines place n (l ∷ ls) h some = slice_get_within lines n _ h.1

module _ (modules : List AModule) (valid : All IsValid modules) (f : ℕ) (r : Routine) (e : slice_get (routines_of modules) f ≡ Some r) where
  sound : IsSound r
  sound = all-at IsSound (routines_of modules) f r (all_sound modules valid) e

  -- an instruction has a line, and the next one's come behind it
  has-line : (k : ℕ) (a : Abs) → slice_get r.def.code k ≡ Some a →
      (instruction_line modules f k < length (program_lines modules)) × (instruction_line modules f k < instruction_line modules f (k + 1))
  has-line k a there =
      let i : IsInstruction r.def.frame (length r.def.code) a = all-at (IsInstruction r.def.frame (length r.def.code)) r.def.code k a sound.instructions there in
      let form = some-form (decoded a) i.form in
      let s : Scope = scope_in modules f r in
      let stand = instructions_stand modules f k r a form.0 valid e there form.1 in
      let some : 0 < length (lines_of s.setting (way_of s k form.0) form.0) = have_lines s.setting (way_of s k form.0) form.0 in
      let next : line_of modules (s.first + k + 1) ≡ instruction_line modules f (k + 1) = ap (line_of modules) (let e : entry_of modules f + 1 + k + 1 ≡ entry_of modules f + 1 + (k + 1) = omega arith in e) in (
        within (program_lines modules) (line_of modules) (instruction_line modules f k) (lines_of s.setting (way_of s k form.0) form.0) stand.there some,
        omega (arith, stand.next, some, next),
      )

  pub instruction-within : (k : ℕ) (a : Abs) → slice_get r.def.code k ≡ Some a → instruction_line modules f k < length (program_lines modules)
  instruction-within k a there = (has-line k a there).0

  pub function-within : function_line modules f < length (program_lines modules)
  function-within =
      let i = has-first r sound in
      let there : instruction_line modules f 0 < length (program_lines modules) = instruction-within 0 i.0 i.2 in
      let before : function_line modules f ≤ instruction_line modules f 0 = lines-rise modules (entry_of modules f) (entry_of modules f + 1 + 0) (omega arith) in
      omega (arith, there, before)

  -- the lines of a function come before the next function's
  pub instruction-before : (g k : ℕ) (a : Abs) → slice_get r.def.code k ≡ Some a → f < g → instruction_line modules f k < function_line modules g
  instruction-before g k a there h =
      let k_small : k < length r.def.code = slice_get_within r.def.code k a there in
      let up : instruction_line modules f (k + 1) ≤ function_line modules g =
      lines-rise modules (entry_of modules f + 1 + (k + 1)) (entry_of modules g) (omega (arith, entry-after modules f g r e h, k_small)) in
      let here = (has-line k a there).1 in
      omega (arith, here, up)

  -- each function has a line before the next one
  pub functions-rise : (g : ℕ) → f < g → function_line modules f < function_line modules g
  functions-rise g h =
      let i = has-first r sound in
      let before : function_line modules f ≤ instruction_line modules f 0 = lines-rise modules (entry_of modules f) (entry_of modules f + 1 + 0) (omega arith) in
      let there = instruction-before g 0 i.0 i.2 h in
      omega (arith, before, there)
