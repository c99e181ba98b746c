-- The machine whose loads come one instruction later: the value is on its way while the next instruction runs, and a
-- write by that one to the same register stays.
use Rattle.std.specs.Prelude.{ℕ, zero, suc, Bool, Result, Ok, Err}
use Rattle.p9_r3k.specs.declared.inst.Inst.{Inst}
use Rattle.p9_base.specs.declared.halt.HaltCause.{HaltCause}
use Rattle.p9_base.specs.declared.halt.Ending.{Ending}
use Rattle.p9_base.specs.declared.halt.Ending.TheVariants.{Running, Exited, Halted}
use Rattle.p9_base.specs.declared.halt.Effect.{Effect}
use Rattle.p9_base.specs.declared.halt.Effect.TheVariants.{Write, Pair, Load, StoreByte, StoreHalf, StoreWord, Branch, JumpTo, Call, Stop}
use Rattle.p9_base.specs.declared.halt.Asked.{Asked}
use Rattle.p9_base.specs.declared.halt.Asked.TheVariants as asks
use Rattle.p9_r3k.specs.Memory.{Core, with_reg}
use Rattle.p9_r3k.specs.Effects.{effect_of, reads_pair}
use Rattle.p9_r3k.specs.Machine.{State, fetched, advanced, halted, asked, called, acted}

abbrev pub with_register : Core → ℕ → ℕ → Core
with_register c r v = record c { regs = with_reg c.regs r v }

-- a machine, with the value that is on its way to the register that was loaded
pub record Pending : Type 0 where
  pub state : State
  pub value : ℕ

-- once the value has come
abbrev pub settled : Pending → State
settled p = record p.state { core = with_register p.state.core p.state.core.loaded p.value }

abbrev pub pending_halted : Pending → HaltCause → Pending
pending_halted p cause = record p { state = record p.state { core = halted p.state.core cause } }

-- what follows when no value is on its way
abbrev pub nothing_pending : State → Pending
nothing_pending s = record { state = s; value = 0 }

abbrev pub pending_called : Asked → Pending → Pending
pending_called (asks.Exits at len) p = nothing_pending (called (asks.Exits at len) (settled p))
pending_called (asks.Read at n) p = nothing_pending (called (asks.Read at n) (settled p))
pending_called (asks.Write at n) p = nothing_pending (called (asks.Write at n) (settled p))
pending_called asks.Refused p = nothing_pending (called asks.Refused (settled p))
pending_called (asks.Stop cause) p = pending_halted p cause

-- a value comes before the instruction's own write
abbrev pub pending_acted : Effect → Pending → Bool → Pending
pending_acted (Load r v) p reader =
    record {
      state = record p.state { core = record (advanced (settled p).core reader) { loaded = r } };
      value = v;
    }
pending_acted Call p reader = pending_called (asked p.state.core) p
pending_acted (Stop cause) p reader = pending_halted p cause
pending_acted (Write r v) p reader = nothing_pending (acted (Write r v) (settled p) reader)
pending_acted (Pair h l) p reader = nothing_pending (acted (Pair h l) (settled p) reader)
pending_acted (StoreByte a v) p reader = nothing_pending (acted (StoreByte a v) (settled p) reader)
pending_acted (StoreHalf a v) p reader = nothing_pending (acted (StoreHalf a v) (settled p) reader)
pending_acted (StoreWord a v) p reader = nothing_pending (acted (StoreWord a v) (settled p) reader)
pending_acted (Branch r taken to) p reader = nothing_pending (acted (Branch r taken to) (settled p) reader)
pending_acted (JumpTo r to) p reader = nothing_pending (acted (JumpTo r to) (settled p) reader)

-- an instruction sees the registers without the value
abbrev pub pending_executed : Result Inst HaltCause → Pending → Pending
pending_executed (Err cause) p = pending_halted p cause
pending_executed (Ok i) p = pending_acted (effect_of i p.state.core) p (reads_pair i)

abbrev pub pending_going : Ending → Pending → Pending
pending_going Running p = pending_executed (fetched p.state.core) p
pending_going (Exited at len) p = p
pending_going (Halted cause pc) p = p

unfoldable pub pending_step : Pending → Pending
pending_step p = pending_going p.state.core.ending p

unfoldable pub pending_run : ℕ → Pending → Pending
pending_run zero p = p
pending_run (suc n) p = pending_step (pending_run n p)
