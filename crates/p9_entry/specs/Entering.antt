-- What the entry of a function leaves, and a small function that calls another.
use Rattle.std.specs.Prelude.{◌≡◌, ◌⊎◌, ◌<◌, ◌≤◌, ℕ, ◌+◌, Bool, List, [], ◌∷◌}
use Rattle.p9_base.specs.Core.{stack_start, reg, read_byte}
use Rattle.p9_base.specs.SystemCalls.{State}
use Rattle.p9_abs.specs.declared.instructions.Op.TheVariants.{Jal, Ret}
use Rattle.p9_abs.specs.declared.instructions.Operand.TheVariants.{Func}
use Rattle.p9_abs.specs.declared.instructions.Abs.{Abs}
use Rattle.p9_abs.specs.declared.instructions.TextDef.{TextDef}
use Rattle.p9_abs.specs.Validity.{IsFrame}
use Rattle.p9_abs.specs.Runs.{taken_by}
use Rattle.p9_abs.specs.Keeping.{SameSizes}
use Rattle.p9_cmean.specs.declared.Place.{Place}
use Rattle.p9_cmean.specs.Cells as c
use Rattle.p9_cmean.specs.Cells.{FunctionName}
use Rattle.p9_cmean.specs.Plays.{Call, Done, Ask}
use Rattle.p9_cmean.specs.Turns.{room}
use Rattle.p9_sim.specs.Memory.{Map, Ground}
use Rattle.p9_sim.specs.Matching.{Match, AtCall}
use Rattle.p9_sim.specs.Playing.{Counting}
use Rattle.p9_sim.specs.Functions.{Body, FnOk, lowered_stack, after_entry, kept_with}
use Rattle.p9_sim.specs.Examples.{inst, without_frame}

-- Behind an entry with room for its frame the state is matched, where the own return address is kept
-- as well, with R29 lowered. All bytes of data and of the stack from the caller's R29 on are as they
-- were.
pub record IsEntered (g : Ground) (others : ℕ → Bool) (active need : ℕ) (m : Map) (s : c.State) (def : TextDef) (x : State) (y : State) : Type 0 where
  pub found : stack_start + taken_by def ≤ reg x.core 29
  pub matched : Match g (kept_with others def (lowered_stack def x)) (active + need) m s y
  pub stack : reg y.core 29 ≡ lowered_stack def x
  pub result : reg y.core 1 ≡ reg x.core 1
  pub sizes : SameSizes x y
  pub memory : (byte : ℕ) → (byte < stack_start) ⊎ (reg x.core 29 ≤ byte) → read_byte y.core byte ≡ read_byte x.core byte

abbrev pub EntriesAreMatched : Type 0
EntriesAreMatched =
    (g : Ground) (others : ℕ → Bool) (active need : ℕ) (m : Map) (call : Call) (s : c.State) (x : State) (def : TextDef)
    → AtCall g others others active m call s x → IsFrame def.frame → def.frame + 4 ≤ need → active + need ≤ room
    → IsEntered g others active need m s def x (after_entry def x)

-- `int through(void) { return inner(); }`

abbrev pub through_code : List Abs
through_code = inst Jal (Func 0 ∷ []) ∷ inst Ret [] ∷ []

abbrev pub through : FunctionName → Place → Body
through inner place turns call s = Ask (record { function = inner; arguments = []; place = place }) s (λ v t. Done v t)

abbrev pub ThroughIsRight : Type 0
ThroughIsRight =
    (counting : Counting) (g : Ground) (symbol : ℕ → ℕ) (need : ℕ) (name inner : FunctionName) (place : Place) → symbol 0 ≡ g.function inner → 4 ≤ need
    → FnOk counting g symbol (without_frame through_code) need (through inner place) name
