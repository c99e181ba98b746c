-- The code of a function that gives 5.
use Rattle.std.proofs.Common.{◌≡◌, [], length, refl, sym, ◌∙◌, arith}
use Rattle.std.proofs.lemmas.List.{get_or-set_same}
use Rattle.p9_base.specs.Core.{text_start, with_reg}
use Rattle.p9_base.specs.SystemCalls.{State}
use Rattle.p9_base.proofs.Holding.{with_register-words}
use Rattle.p9_abs.specs.Steps.{Mach, Around, Next, Returns, step}
use Rattle.p9_abs.specs.Keeping.{nowhere}
use Rattle.p9_abs.proofs.Fixed.{other-register}
use Rattle.p9_cmean.specs.Cells.{Word}
use Rattle.p9_sim.specs.Matching.{entry_of}
use Rattle.p9_sim.specs.Playing.{AllSteps, Branches, Counting, first_count, IsPaid, after_plain, Setting}
use Rattle.p9_sim.specs.Functions.{setting_of}
use Rattle.p9_sim.specs.Examples.{without_frame, at_first, five_code, FiveIsRight}
use Rattle.p9_sim.proofs.Registers.{with_regs, answers-with}
use Rattle.p9_sim.proofs.Going.{one-step}

loaded : State → Mach
loaded x = record { state = with_regs x (with_reg x.core.regs 1 5) text_start; vars = []; at = 1 }

first-step : (around : Around) (x : State) → step around five_code (at_first x) ≡ Next (loaded x)
unfolding step loaded
first-step around x = refl

last-step : (around : Around) (x : State) → step around five_code (loaded x) ≡ Returns (loaded x)
unfolding step loaded
last-step around x = refl

paid : (counting : Counting) → IsPaid (after_plain counting first_count)
paid AllSteps = record { steps = omega arith; backs = omega arith }
paid Branches = record { steps = omega arith; backs = omega arith }

pub five_is_right : FiveIsRight
unfolding loaded
five_is_right counting g symbol need name others active turns call s m x same fits at =
    let set : Setting = setting_of g counting symbol (without_frame five_code) others active need (entry_of m s call x) in
    let floor = at.matched.floor in
    let words = at.matched.words in
    let count = words.count in (
      omega (arith, floor, fits),
      (
        record { steps = 1; to = loaded x; count = after_plain counting first_count; goes = one-step set (at_first x) (loaded x) first_count (first-step set.around x) },
        loaded x,
        last-step set.around x,
        paid counting,
        m,
        λ to word. answers-with g nowhere others others active m s x (length call.arguments) (with_reg (with_reg x.core.regs 1 5) 31 to) text_start (Word 5) at.matched
            (with_register-words (record x.core { regs = with_reg x.core.regs 1 5 }) 31 to word (with_register-words x.core 1 5 (omega arith) words))
            (other-register (with_reg x.core.regs 1 5) 31 to 29 (λ h. omega (arith, h)) ∙ other-register x.core.regs 1 5 29 (λ h. omega (arith, h)))
            (other-register (with_reg x.core.regs 1 5) 31 to 30 (λ h. omega (arith, h)) ∙ other-register x.core.regs 1 5 30 (λ h. omega (arith, h)))
            at.matched.free
            (sym (other-register (with_reg x.core.regs 1 5) 31 to 1 (λ h. omega (arith, h)) ∙ get_or-set_same x.core.regs 1 5 0 (omega (arith, count)))),
      ),
    )
