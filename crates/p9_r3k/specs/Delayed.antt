-- The machine with branch slots and load delays over lines, before they are words.
use Rattle.std.specs.Prelude.{ℕ, zero, suc, ◌+◌, ◌-◌, ◌*◌, ◌/◌, ◌%◌, ◌==◌, ◌&&◌, nat_lt, nat_le, false, Option, Some, None, Result, Ok, Err, if◌then◌else◌, List, [], ◌∷◌, length, slice_get, drop, min}
use Rattle.p9_base.specs.declared.halt.HaltCause.{HaltCause}
use Rattle.p9_base.specs.declared.halt.HaltCause.TheVariants.{Fetch}
use Rattle.p9_base.specs.declared.halt.Ending.{Ending}
use Rattle.p9_base.specs.declared.halt.Ending.TheVariants.{Running, Exited, Halted}
use Rattle.p9_base.specs.declared.halt.Effect.{Effect}
use Rattle.p9_base.specs.declared.halt.Effect.TheVariants.{Branch}
use Rattle.p9_base.specs.Core.{text_start}
use Rattle.p9_base.specs.Effects.{halted}
use Rattle.p9_base.specs.SystemCalls.{State}
use Rattle.p9_r3k.specs.declared.inst.Inst.{Inst}
use Rattle.p9_r3k.specs.declared.inst.Inst.TheVariants.{Sll}
use Rattle.p9_r3k.specs.declared.lines.Line.{Line}
use Rattle.p9_r3k.specs.Effects.{effect_of, reads_pair}
use Rattle.p9_r3k.specs.Machine.{without_hazard, acted}
use Rattle.p9_r3k.specs.Straight.{Addresses, filled}

-- Addresses of lines

-- lines stand one behind the other from the text's start on, a word each
abbrev pub line_address : ℕ → ℕ
line_address i = text_start + 4 * i

-- SLL R0, R0, 0, whose word is 0
abbrev pub noop : Line
noop = record { inst = Sll 0 0 0; target = None; value = None; is_target = false }

-- Steps

-- a line with a target goes to the target's address, whatever its word names; a line without one goes where its word
-- says
abbrev pub aimed_to : Option ℕ → ℕ → ℕ
aimed_to None to = to
aimed_to (Some t) to = line_address t

abbrev pub aimed : Option ℕ → Effect → Effect
aimed target (Branch r taken to) = Branch r taken (aimed_to target to)
aimed target e = e

-- the line at an address
abbrev pub fetched_line : List Line → ℕ → Option Line
fetched_line lines pc =
    if (pc % 4 == 0) && (nat_le text_start pc && nat_lt pc (line_address (length lines)))
    then slice_get lines ((pc - text_start) / 4) else None

abbrev pub line_executed : Option ℕ → Result Inst HaltCause → State → State
line_executed target (Err cause) s = record s { core = halted s.core cause }
line_executed target (Ok i) s = acted (aimed target (effect_of i s.core)) s (reads_pair i)

abbrev pub delayed_line : Addresses → Option Line → State → State
delayed_line a None s = record s { core = halted s.core Fetch }
delayed_line a (Some line) s = line_executed line.target (without_hazard (Some (filled a line)) s.core) s

-- a run that has ended stays
abbrev pub delayed_going : Addresses → List Line → Ending → State → State
delayed_going a lines Running s = delayed_line a (fetched_line lines s.core.pc) s
delayed_going a lines (Exited at len) s = s
delayed_going a lines (Halted cause pc) s = s

unfoldable pub delayed_step : Addresses → List Line → State → State
delayed_step a lines s = delayed_going a lines s.core.ending s

-- of the map of addresses, that of the symbols is asked alone
unfoldable pub delayed_run : Addresses → List Line → ℕ → State → State
delayed_run a lines zero s = s
delayed_run a lines (suc n) s = delayed_step a lines (delayed_run a lines n s)

-- New numbers of lines

-- the least of some numbers below an end, or the end
abbrev pub least : ℕ → List ℕ → ℕ
least end [] = end
least end (n ∷ ns) = min n (least end ns)

-- Each old line i has a new number, moved[i], among `count` new lines. Control that comes to old line i, from wherever,
-- comes to the least new number of the old lines from i on; behind the last old line that is the end.
abbrev pub enter : (moved : List ℕ) → (count i : ℕ) → ℕ
enter moved count i = least count (drop i moved)

-- each old line has the address at which it is entered
abbrev pub entered : (moved : List ℕ) → (count : ℕ) → (symbol : ℕ → ℕ → ℕ) → Addresses
entered moved count symbol = record { line = λ i. line_address (enter moved count i); symbol = symbol }

-- Runs without a stop

abbrev pub NotHalted : Ending → Type 0
NotHalted Running = Unit {0}
NotHalted (Exited at len) = Unit {0}
NotHalted (Halted cause pc) = ⊥
