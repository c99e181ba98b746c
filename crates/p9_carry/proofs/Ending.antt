-- No step but SYSCALL ends the run.
use Rattle.std.proofs.Common.{◌≡◌, ◌≢◌, ℕ, ◌-◌, nat_lt, Bool, true, false, Some, if◌then◌else◌, List, refl, ap, ◌∙◌}
use Rattle.p9_base.specs.Core.{Core, text_start, stack_start, with_half_in, with_word_in}
use Rattle.std.specs.Prelude.{slice_set}
use Rattle.p9_base.specs.SystemCalls.{State}
use Rattle.p9_abs.specs.declared.instructions.Abs.{Abs}
use Rattle.p9_abs.specs.declared.forms.Form.{Form}
use Rattle.p9_abs.specs.declared.forms.Form.TheVariants as forms
use Rattle.p9_abs.specs.Automatics.{form_at}
use Rattle.p9_abs.specs.Steps.{Mach, Around, Step, step, without_text}
use Rattle.p9_abs.specs.Laws.{IfMach}
use Rattle.p9_abs.proofs.Walking.{Walk, walked}
use Rattle.p9_abs.proofs.StepLaws.{step-by}

abbrev pub EndingStays : State → Step → Type 0
EndingStays s u = IfMach (λ y. y.state.core.ending ≡ s.core.ending) u

stored : (b : Bool) (c : Core) (low stack : List ℕ) → (let d : Core = (if b then record c { low = low } else record c { stack = stack }) in d.ending ≡ c.ending)
stored true c low stack = refl
stored false c low stack = refl

ending-walk : (around : Around) (form : Form) (x : Mach) → form ≢ forms.SystemCall → Walk around form x (EndingStays x.state)
ending-walk around form x other = record {
  undefined = tt;
  register = λ r v d h. refl;
  pair = λ h l w. refl;
  byte = λ a v f w s. stored (nat_lt a stack_start) x.state.core (slice_set x.state.core.low (a - text_start) v) (slice_set x.state.core.stack (a - stack_start) v);
  half = λ a v f w. stored (nat_lt a stack_start) x.state.core (with_half_in x.state.core.order x.state.core.low (a - text_start) v) (with_half_in x.state.core.order x.state.core.stack (a - stack_start) v);
  word = λ a v f w. stored (nat_lt a stack_start) x.state.core (with_word_in x.state.core.order x.state.core.low (a - text_start) v) (with_word_in x.state.core.order x.state.core.stack (a - stack_start) v);
  variable = λ v value h. refl;
  turn = λ taken l. refl;
  call = λ to. refl;
  back = refl;
  system = λ e f. absurd (other e);
}

pub ending-stays : (around : Around) (code : List Abs) (x : Mach) → form_at code x.at ≢ Some forms.SystemCall → EndingStays x.state (step around code x)
ending-stays around code x other =
    step-by around code x (EndingStays x.state) tt
    (λ form e. walked around form (without_text x) (EndingStays x.state) (ending-walk around form (without_text x) (λ is. other (e ∙ ap Some is))))
