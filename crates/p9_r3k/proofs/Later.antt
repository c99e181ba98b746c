-- The machine whose loads come one instruction later stands as the one whose loads come at once.
use Rattle.std.proofs.Common.{ℕ, zero, suc, ◌==◌, ◌≡◌, ◌&&◌, Bool, true, false, not, Result, Ok, Err, refl, sym, ap, ◌∙◌}
use Rattle.p9_r3k.specs.declared.inst.Inst.{Inst}
use Rattle.p9_r3k.specs.declared.inst.Inst.TheVariants.{Syscall}
use Rattle.p9_base.specs.declared.halt.HaltCause.{HaltCause}
use Rattle.p9_base.specs.declared.halt.Ending.{Ending}
use Rattle.p9_base.specs.declared.halt.Ending.TheVariants.{Running, Exited, Halted}
use Rattle.p9_base.specs.declared.halt.Effect.{Effect}
use Rattle.p9_base.specs.declared.halt.Effect.TheVariants.{Write, Pair, Load, StoreByte, StoreHalf, StoreWord, Branch, JumpTo, Call, Stop}
use Rattle.p9_base.specs.declared.halt.Asked.{Asked}
use Rattle.p9_base.specs.declared.halt.Asked.TheVariants as asks
use Rattle.p9_r3k.specs.Memory.{Core}
use Rattle.p9_r3k.specs.Effects.{effect_of, reads, reads_pair}
use Rattle.p9_r3k.specs.Machine.{fetched, asked, called, acted, executed, going, step, run}
use Rattle.p9_r3k.specs.Pending.{Pending, settled, with_register, pending_called, pending_acted, pending_executed, pending_going, pending_step, pending_run}
use Rattle.p9_r3k.proofs.Quiet.{Quiet, or-left, or-right, effect_of-other, asked-other, IsSyscall, call_of-syscall, fetched-other, fetched-quiet}

-- An instruction that may run sees the same with the value and without

pub with_register-none : (c : Core) (r v : ℕ) → (r == 0) ≡ true → with_register c r v ≡ c
with_register-none c r v e = rw e refl

pub effect_of-settled-by :
    (b : Bool) (i : Inst) (c : Core) (r v : ℕ) → (r == 0) ≡ b → (not b && reads i r) ≡ false →
    effect_of i (with_register c r v) ≡ effect_of i c
effect_of-settled-by true i c r v e h = ap (effect_of i) (with_register-none c r v e)
effect_of-settled-by false i c r v e h = effect_of-other i c r v h

pub effect_of-settled :
    (i : Inst) (p : Pending) → Quiet i p.state.core → effect_of i (settled p).core ≡ effect_of i p.state.core
effect_of-settled i p h =
    effect_of-settled-by (p.state.core.loaded == 0) i p.state.core p.state.core.loaded p.value refl h

pub asked-settled-by :
    (b : Bool) (code : ℕ) (c : Core) (r v : ℕ) → (r == 0) ≡ b → (not b && reads (Syscall code) r) ≡ false →
    asked (with_register c r v) ≡ asked c
asked-settled-by true code c r v e h = ap asked (with_register-none c r v e)
asked-settled-by false code c r v e h = asked-other c r v (or-left (1 == r) (29 == r) h) (or-right (1 == r) (29 == r) h)

pub asked-settled :
    (i : Inst) (p : Pending) → IsSyscall i → Quiet i p.state.core → asked (settled p).core ≡ asked p.state.core
asked-settled (Syscall code) p h q =
    asked-settled-by (p.state.core.loaded == 0) code p.state.core p.state.core.loaded p.value refl q
asked-settled _ p h q = absurd h

-- Effects

pub pending_called-settled : (k : Asked) (p : Pending) → settled (pending_called k p) ≡ called k (settled p)
pending_called-settled (asks.Exits at len) p = refl
pending_called-settled (asks.Read at n) p = refl
pending_called-settled (asks.Write at n) p = refl
pending_called-settled asks.Refused p = refl
pending_called-settled (asks.Stop cause) p = refl

pub pending_acted-settled :
    (e : Effect) (p : Pending) (reader : Bool) → (e ≡ Call → asked (settled p).core ≡ asked p.state.core) →
    settled (pending_acted e p reader) ≡ acted e (settled p) reader
pending_acted-settled (Load r v) p reader h = refl
pending_acted-settled Call p reader h =
    pending_called-settled (asked p.state.core) p ∙ ap (λ k. called k (settled p)) (sym (h refl))
pending_acted-settled (Stop cause) p reader h = refl
pending_acted-settled (Write r v) p reader h = refl
pending_acted-settled (Pair hi lo) p reader h = refl
pending_acted-settled (StoreByte a v) p reader h = refl
pending_acted-settled (StoreHalf a v) p reader h = refl
pending_acted-settled (StoreWord a v) p reader h = refl
pending_acted-settled (Branch r taken to) p reader h = refl
pending_acted-settled (JumpTo r to) p reader h = refl

-- Steps

pub pending_executed-settled :
    (r : Result Inst HaltCause) (p : Pending) → fetched p.state.core ≡ r →
    settled (pending_executed r p) ≡ executed r (settled p)
pending_executed-settled (Err cause) p f = refl
pending_executed-settled (Ok i) p f =
    let q : Quiet i p.state.core = fetched-quiet p.state.core i f in
    pending_acted-settled (effect_of i p.state.core) p (reads_pair i)
    (λ e. asked-settled i p (call_of-syscall i p.state.core e) q)
    ∙ ap (λ e. acted e (settled p) (reads_pair i)) (sym (effect_of-settled i p q))

pub pending_going-settled : (e : Ending) (p : Pending) → settled (pending_going e p) ≡ going e (settled p)
pending_going-settled Running p =
    pending_executed-settled (fetched p.state.core) p refl
    ∙ ap (λ r. executed r (settled p)) (sym (fetched-other p.state.core p.state.core.loaded p.value))
pending_going-settled (Exited at len) p = refl
pending_going-settled (Halted cause pc) p = refl

pub pending_step-settled : (p : Pending) → settled (pending_step p) ≡ step (settled p)
unfolding pending_step step
pending_step-settled p = pending_going-settled p.state.core.ending p

pub pending_run-settled : (n : ℕ) (p : Pending) → settled (pending_run n p) ≡ run n (settled p)
unfolding pending_run run
pending_run-settled zero p = refl
pending_run-settled (suc n) p = pending_step-settled (pending_run n p) ∙ ap step (pending_run-settled n p)
