-- A map of the addresses of lines gives a placing.
use Rattle.std.proofs.Common.{sym, subst, ℕ, zero, suc, ◌+◌, ◌≡◌, ◌≤◌, ◌<◌, Some, List, [], ◌∷◌, length, refl, All, arith}
use Rattle.std.specs.Prelude.{slice_get}
use Rattle.p9_base.specs.Core.{text_start}
use Rattle.p9_abs.specs.declared.instructions.Abs.{Abs}
use Rattle.p9_abs.specs.declared.modules.AModule.{AModule}
use Rattle.p9_abs.specs.Runs.{Routine}
use Rattle.p9_abs.specs.Programs.{Placing, IsCodeAddress, routines_of, IsFunctionPlaced}
use Rattle.p9_abs.specs.Validity.{IsValid}
use Rattle.p9_expand.specs.Program.{program_lines}
use Rattle.p9_expand_laws.specs.Standing.{entry_of}
use Rattle.p9_refine.specs.Maps.{function_line, instruction_line, IsMap, GoesBy}
use Rattle.p9_refine.specs.Refining.{MapsPlace}
use Rattle.p9_refine.proofs.Numbers.{lines-rise, instruction-within, function-within, instruction-before}
use Rattle.p9_refine.proofs.Fine.{all-valid}

-- a place in a list holds an element
at-place : (xs : List Abs) (k : ℕ) → k < length xs → (a : Abs) × (slice_get xs k ≡ Some a)
at-place [] k h = absurd (omega (arith, h))
at-place (x ∷ xs) zero h = (x, refl)
at-place (x ∷ xs) (suc k) h = at-place xs k (omega (arith, h))

function-placed : (modules : List AModule) (line : ℕ → ℕ) (p : Placing) (f : ℕ) (r : Routine) → All IsValid modules → IsMap modules line → GoesBy modules line p →
    slice_get (routines_of modules) f ≡ Some r → IsFunctionPlaced p f r
function-placed modules line p f r valid m goes e = record {
  function = subst IsCodeAddress (sym first) (m.code (function_line modules f) (function-within modules valid f r e));
  instructions = λ k h. subst IsCodeAddress (sym (at k h)) (m.code (instruction_line modules f k) (inside k h));
  first = λ k h.
      (let up : line (function_line modules f) ≤ line (instruction_line modules f k) =
      m.rising (function_line modules f) (instruction_line modules f k) (lines-rise modules (entry_of modules f) (entry_of modules f + 1 + k) (omega arith)) (inside k h) in
      omega (arith, up, first, at k h));
  rising = λ j k le h.
      (let up : line (instruction_line modules f j) ≤ line (instruction_line modules f k) =
      m.rising (instruction_line modules f j) (instruction_line modules f k) (lines-rise modules (entry_of modules f + 1 + j) (entry_of modules f + 1 + k) (omega (arith, le))) (inside k h) in
      let below : j < length r.def.code = omega (arith, le, h) in
      omega (arith, up, at j below, at k h));
  before_data = λ k h. (let low = goes.before_data (instruction_line modules f k) (inside k h) in omega (arith, low, at k h));
}
  where
    first : p.function f ≡ line (function_line modules f)
    first = goes.functions f r e

    at : (k : ℕ) → k < length r.def.code → p.instruction f k ≡ line (instruction_line modules f k)
    at k h = goes.instructions f k r e h

    inside : (k : ℕ) → k < length r.def.code → instruction_line modules f k < length (program_lines modules)
    inside k h = (let a = at-place r.def.code k h in instruction-within modules valid f r e k a.0 a.1)

pub maps_place : MapsPlace
maps_place modules line p objects m goes page =
    let valid : All IsValid modules = all-valid modules objects in
    record {
      functions = λ f r e. function-placed modules line p f r valid m goes e;
      ordered = λ f g r s l e h k i.
          (let a = at-place r.def.code k i in
          let lower = m.apart g (instruction_line modules f k) s h (instruction-before modules valid f r e g k a.0 a.1 l) in
          omega (arith, lower, goes.instructions f k r e i, goes.functions g s h));
      page = page;
      behind =
          (let inside : function_line modules 0 < length (program_lines modules) = function-within modules valid 0 _ refl in
          let code = m.code (function_line modules 0) inside in
          let high : line (function_line modules 0) < p.data_start = goes.before_data (function_line modules 0) inside in
          let low : text_start ≤ line (function_line modules 0) = code.1 in
          omega (arith, low, high));
      room = goes.room;
    }
