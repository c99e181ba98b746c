-- When a state of the machine stands for a state of C; a call; and what a call leaves.
use Rattle.std.specs.Prelude.{◌≡◌, ◌⊎◌, ◌<◌, ◌≤◌, ℕ, ◌+◌, ◌*◌, ◌%◌, Bool, true, false, Some, None, List, [], ◌∷◌, length, slice_get}
use Rattle.p9_base.specs.declared.halt.Ending.TheVariants.{Running}
use Rattle.p9_base.specs.declared.order.ByteOrder.TheVariants.{Big}
use Rattle.p9_base.specs.Core.{Core, text_start, stack_start, stack_end, low_end, reg, read_byte, read_word}
use Rattle.p9_base.specs.SystemCalls.{State}
use Rattle.p9_base.specs.Holding.{HoldsWords, AreBytes, LaidOut}
use Rattle.p9_abs.specs.Steps.{Mach, without_text}
use Rattle.p9_abs.specs.Keeping.{SameSizes}
use Rattle.p9_abs.specs.Programs.{static_base}
use Rattle.p9_cmean.specs.Cells as c
use Rattle.p9_cmean.specs.Cells.{Object, Value}
use Rattle.p9_cmean.specs.Plays.{Call}
use Rattle.p9_cmean.specs.Turns.{room}
use Rattle.p9_sim.specs.Memory.{Map, HasAddress, Extends, Ground, StandsValue, StandCells, Owner}

-- THE MATCH

-- memory is laid out, over a text that is no memory
abbrev pub IsLaidOut : State → Type 0
IsLaidOut x = (let y : Mach = without_text (record { state = x; vars = []; at = 0 }) in LaidOut y.state.core)

-- in data, or in the stack at or above R29
abbrev pub Lies : Core → (byte : ℕ) → Type 0
Lies x byte = ((x.data_start ≤ byte) × (byte < low_end x)) ⊎ ((reg x 29 ≤ byte) × (byte < stack_end))

-- A state of the machine stands for a state of C. `shut` are the bytes that no live object may own:
-- those of kept return addresses, and in code over automatics those of the own frame that are no
-- automatic's. `active` is the sum of the needs of all active calls.
pub record Match (g : Ground) (shut : ℕ → Bool) (active : ℕ) (m : Map) (s : c.State) (x : State) : Type 0 where
  -- objects
  pub count : length m ≡ length s.objects
  pub statics : (object start : ℕ) → slice_get g.statics object ≡ Some start → HasAddress m object start
  pub fourfold : (object start : ℕ) → HasAddress m object start → start % 4 ≡ 0
  pub cells : (number start : ℕ) (object : Object) → slice_get s.objects number ≡ Some object → object.is_alive ≡ true → HasAddress m number start
      → StandCells g m object.cells (read_byte x.core) start
  pub lie : (byte : ℕ) → Owner m s.objects byte → Lies x.core byte
  pub disjoint : (byte : ℕ) (a b : Owner m s.objects byte) → a.number ≡ b.number
  pub free : (byte : ℕ) → Owner m s.objects byte → shut byte ≡ false
  -- output and input
  pub output : x.out ≡ s.output
  pub input : x.left ≡ s.input
  -- the stack, and R30
  pub base : reg x.core 30 ≡ static_base g.data_start
  pub aligned : reg x.core 29 % 4 ≡ 0
  pub top : reg x.core 29 < stack_end
  pub floor : stack_start + room ≤ reg x.core 29 + active
  pub not_deep : active ≤ room
  -- words, bytes and sizes
  pub words : HoldsWords x.core
  pub bytes : AreBytes x.left
  pub laid : IsLaidOut x
  pub data_start : x.core.data_start ≡ g.data_start
  -- data lie behind the text, and between data and the stack is a gap
  pub behind : text_start < g.data_start
  pub gap : low_end x.core < stack_start
  -- words have their highest byte first, and the machine hasn't stopped
  pub order : x.core.order ≡ Big
  pub running : x.core.ending ≡ Running

-- CALLS

-- The first argument is in R1, and those that follow are from 8(R29) on. 4(R29) is the first one's
-- place as well: the function that is called may store R1 there.

abbrev pub StandFrom : Ground → Map → (k : ℕ) → List Value → Core → Type 0
StandFrom g m k [] x = Unit {0}
StandFrom g m k (v ∷ vs) x = StandsValue g m v (read_word x (reg x 29 + 4 + 4 * k)) × StandFrom g m (k + 1) vs x

abbrev pub StandArguments : Ground → Map → List Value → Core → Type 0
StandArguments g m [] x = Unit {0}
StandArguments g m (v ∷ vs) x = StandsValue g m v (reg x 1) × StandFrom g m 1 vs x

-- one of the bytes of so many argument words
abbrev pub IsArgument : Core → (count : ℕ) → (byte : ℕ) → Type 0
IsArgument x count byte = (reg x 29 + 4 ≤ byte) × (byte < reg x 29 + 4 + 4 * count)

-- A matched pair behind a JAL: arguments stand in their places, which lie in the stack, are no live
-- object's, and are not banned. The stack below R29 is free: no banned byte lies there.
pub record AtCall (g : Ground) (banned shut : ℕ → Bool) (active : ℕ) (m : Map) (call : Call) (s : c.State) (x : State) : Type 0 where
  pub matched : Match g shut active m s x
  pub arguments : StandArguments g m call.arguments x.core
  pub in_stack : (byte : ℕ) → IsArgument x.core (length call.arguments) byte → byte < stack_end
  pub allowed : (byte : ℕ) → IsArgument x.core (length call.arguments) byte → banned byte ≡ false
  pub above : (byte : ℕ) → banned byte ≡ true → reg x.core 29 ≤ byte
  pub unowned : (byte : ℕ) → IsArgument x.core (length call.arguments) byte → Owner m s.objects byte → ⊥

-- what stood at a call's beginning
pub record Entry : Type 0 where
  pub map : Map
  pub objects : List Object
  pub state : State
  pub arguments : ℕ

abbrev pub entry_of : Map → c.State → Call → State → Entry
entry_of m s call x = record { map = m; objects = s.objects; state = x; arguments = length call.arguments }

-- WHAT A CALL LEAVES

-- earlier objects keep their sizes and are alive or not as they were, and no later one is alive
pub record SameObjects (before after : List Object) : Type 0 where
  pub earlier : (number : ℕ) (a : Object) → slice_get before number ≡ Some a
      → (b : Object) × (slice_get after number ≡ Some b) × (length b.cells ≡ length a.cells) × (b.is_alive ≡ a.is_alive)
  pub later : (number : ℕ) (b : Object) → length before ≤ number → slice_get after number ≡ Some b → b.is_alive ≡ false

-- A call that has returned leaves every earlier address; each object without an address as it was;
-- the result in R1; R29; and all memory outside live objects, the argument words and the stack below
-- R29. Bytes that are loose are those of the caller's frame that its code may not touch: nothing is
-- said of them.
pub record Leaves (g : Ground) (loose : ℕ → Bool) (from : Entry) (m : Map) (t : c.State) (y : State) (v : Value) : Type 0 where
  pub addresses : Extends from.map m
  pub hidden : (number : ℕ) → slice_get from.map number ≡ Some None → slice_get t.objects number ≡ slice_get from.objects number
  pub objects : SameObjects from.objects t.objects
  pub result : StandsValue g m v (reg y.core 1)
  pub stack : reg y.core 29 ≡ reg from.state.core 29
  pub sizes : SameSizes from.state y
  pub memory : (byte : ℕ) → loose byte ≡ false → (byte < stack_start) ⊎ (reg from.state.core 29 ≤ byte)
      → (Owner from.map from.objects byte → ⊥) → (IsArgument from.state.core from.arguments byte → ⊥)
      → read_byte y.core byte ≡ read_byte from.state.core byte

pub record Answers (g : Ground) (loose shut : ℕ → Bool) (active : ℕ) (from : Entry) (m : Map) (t : c.State) (y : State) (v : Value) : Type 0 where
  pub matched : Match g shut active m t y
  pub leaves : Leaves g loose from m t y v
