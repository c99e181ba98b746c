-- The machine with branch slots and load delays: its steps and its runs.
use Rattle.std.specs.Prelude.{ℕ, zero, suc, ◌%◌, ◌==◌, ◌&&◌, ◌||◌, nat_lt, nat_le, Bool, not, Option, Some, None, Result, Ok, Err, if◌then◌else◌}
use Rattle.p9_r3k.specs.declared.inst.Inst.{Inst}
use Rattle.p9_base.specs.declared.halt.HaltCause.{HaltCause}
use Rattle.p9_base.specs.declared.halt.HaltCause.TheVariants.{Fetch, BadWord, LoadHazard, HiLoHazard, SlotBranch}
use Rattle.p9_base.specs.declared.halt.Ending.{Ending}
use Rattle.p9_base.specs.declared.halt.Ending.TheVariants.{Running, Exited, Halted}
use Rattle.p9_base.specs.declared.halt.Effect.{Effect}
use Rattle.p9_base.specs.declared.halt.Effect.TheVariants.{Write, Pair, Load, StoreByte, StoreHalf, StoreWord, Branch, JumpTo, Call, Stop}
use Rattle.p9_base.specs.Core.{Core, text_start, read_word}
pub use Rattle.p9_base.specs.Effects.{advanced, halted, linked, sent, applied}
pub use Rattle.p9_base.specs.SystemCalls.{argument, then_one, then_three, exits_of, asked_exits, asked_read, asked_write, asked, State, answered, called, exit_text}
unfoldable pub use Rattle.p9_base.specs.SystemCalls.{state}
use Rattle.p9_r3k.specs.Table.{decoded}
use Rattle.p9_r3k.specs.Effects.{effect_of, reads, reads_pair, writes_pair, branches}

-- The instruction at the pc

abbrev pub in_text : Core → Bool
in_text c = (c.pc % 4 == 0) && (nat_le text_start c.pc && nat_lt c.pc c.text_end)

-- the first stop that the instructions before decide, else the instruction
abbrev pub without_hazard : Option Inst → Core → Result Inst HaltCause
without_hazard None c = Err BadWord
without_hazard (Some i) c =
    if not (c.loaded == 0) && reads i c.loaded then Err LoadHazard else
    if writes_pair i && (c.used || c.used_before) then Err HiLoHazard else
    if c.slot && branches i then Err SlotBranch else Ok i

unfoldable pub fetched : Core → Result Inst HaltCause
fetched c = if in_text c then without_hazard (decoded (read_word c c.pc)) c else Err Fetch

-- Steps

abbrev pub acted : Effect → State → Bool → State
acted Call s reader = called (asked s.core) s
acted (Write r v) s reader = record s { core = applied (Write r v) s.core reader }
acted (Pair h l) s reader = record s { core = applied (Pair h l) s.core reader }
acted (Load r v) s reader = record s { core = applied (Load r v) s.core reader }
acted (StoreByte a v) s reader = record s { core = applied (StoreByte a v) s.core reader }
acted (StoreHalf a v) s reader = record s { core = applied (StoreHalf a v) s.core reader }
acted (StoreWord a v) s reader = record s { core = applied (StoreWord a v) s.core reader }
acted (Branch r taken to) s reader = record s { core = applied (Branch r taken to) s.core reader }
acted (JumpTo r to) s reader = record s { core = applied (JumpTo r to) s.core reader }
acted (Stop cause) s reader = record s { core = applied (Stop cause) s.core reader }

abbrev pub executed : Result Inst HaltCause → State → State
executed (Err cause) s = record s { core = halted s.core cause }
executed (Ok i) s = acted (effect_of i s.core) s (reads_pair i)

-- a run that has ended stays
abbrev pub going : Ending → State → State
going Running s = executed (fetched s.core) s
going (Exited at len) s = s
going (Halted cause pc) s = s

unfoldable pub step : State → State
step s = going s.core.ending s

unfoldable pub run : ℕ → State → State
run zero s = s
run (suc n) s = step (run n s)
