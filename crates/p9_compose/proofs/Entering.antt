-- The entry of a function in a run, and what its code stands in there.
use Rattle.std.proofs.Common.{◌≡◌, ◌≤◌, ℕ, ◌+◌, ◌-◌, ◌&&◌, ◌||◌, nat_le, Bool, true, false, Option, Some, None, if◌then◌else◌, List, [], ◌∷◌, refl, arith}
use Rattle.std.proofs.Math.Bool.{or_comm}
use Rattle.std.proofs.lemmas.Bool.Decides.{nat_tests}
use Rattle.p9_base.specs.Core.{stack_start, reg, with_word}
use Rattle.p9_base.specs.SystemCalls.{State}
use Rattle.p9_abs.specs.declared.instructions.TextDef.{TextDef}
use Rattle.p9_abs.specs.Steps.{Mach}
use Rattle.p9_abs.specs.Runs.{Routine, Addresses, Active, Status, Going, Broken, keeps, taken_by, in_word, kept_by, lowered, at_first, kept_entry, entered, around_of}
use Rattle.p9_abs.specs.Keeping.{around_framed}
use Rattle.p9_sim.specs.Functions.{lowered_stack, after_entry, kept_with}
use Rattle.p9_compose.specs.Calling.{run_at, waiting}

-- where the entry keeps the return address
abbrev pub kept_word : TextDef → State → Option ℕ
kept_word def x = if keeps def then Some (reg x.core 29 - (def.frame + 4)) else None

abbrev pub first_of : TextDef → State → Mach
first_of def x = record { state = after_entry def x; vars = []; at = 0 }

if-true : (b : Bool) (s t : Status) → b ≡ true → (if b then s else t) ≡ s
if-true true s t h = refl
if-true false s t h = absurd (let z : false ≡ true = h in cc)

entered-by : (b : Bool) (def : TextDef) (x : State) (f : ℕ) (callers : List Active) → stack_start + (if b then def.frame + 4 else 0) ≤ reg x.core 29
    → (if b then kept_entry def x f callers else at_first x f None callers)
    ≡ Going (run_at (record {
      state = if b then record x { core = with_word (lowered x.core (def.frame + 4)) (reg x.core 29 - (def.frame + 4)) (reg x.core 31) } else x;
      vars = [];
      at = 0;
    }) f (if b then Some (reg x.core 29 - (def.frame + 4)) else None) callers)
entered-by true def x f callers h = if-true (nat_le (stack_start + (def.frame + 4)) (reg x.core 29)) _ Broken (grind (arith, nat_tests))
entered-by false def x f callers h = refl

pub entered-going : (def : TextDef) (x : State) (f : ℕ) (callers : List Active) → stack_start + taken_by def ≤ reg x.core 29
    → entered def x f callers ≡ Going (run_at (first_of def x) f (kept_word def x) callers)
entered-going def x f callers h = entered-by (keeps def) def x f callers h

or-false : (b : Bool) → b ≡ (b || false)
or-false true = refl
or-false false = refl

banned-same : (b : Bool) (others : ℕ → Bool) (top frame byte : ℕ)
    → (in_word byte (if b then Some (top - (frame + 4)) else None) || others byte) ≡ (others byte || (b && in_word byte (Some (top - (if b then frame + 4 else 0)))))
banned-same true others top frame byte = or_comm (in_word byte (Some (top - (frame + 4)))) (others byte)
banned-same false others top frame byte = or-false (others byte)

-- the bytes of kept return addresses, in a run and in a call
pub kept-same : (def : TextDef) (x : State) (f : ℕ) (z : Mach) (callers : List Active)
    → kept_by (waiting f (kept_word def x) z ∷ callers) ≡ kept_with (kept_by callers) def (lowered_stack def x)
kept-same def x f z callers = λ i byte. banned-same (keeps def) (kept_by callers) (reg x.core 29) def.frame byte i

pub around-same : (p : Addresses) (rt : Routine) (x : State) (f : ℕ) (y : Mach) (callers : List Active)
    → around_of p rt (run_at y f (kept_word rt.def x) callers) ≡ around_framed (p.symbol rt.unit) rt.def (lowered_stack rt.def x) (kept_by callers)
around-same p rt x f y callers = λ i. record {
  symbol = p.symbol rt.unit;
  taken = taken_by rt.def;
  offsets = [];
  banned = λ byte. banned-same (keeps rt.def) (kept_by callers) (reg x.core 29) rt.def.frame byte i;
}
