use Rattle.std.proofs.Common.{◌≡◌, ◌⊎◌, List, ℕ, Ok, Err, ◌∙◌, subst}
use Rattle.p9_aout.specs.Image.{image_of, parts_of}
use Rattle.p9_aout.specs.declared.format.AoutFault.TheVariants.{Memory}
use Rattle.p9_suite.proofs.Simulated.{fault_is}
use Rattle.p9_suite.proofs.stages.simulation.machine_of.Goals as goal

pub returns-clause-fault : goal.returns-clause-fault
returns-clause-fault c =
    subst (λ (x : List ℕ). (c.in-Err.why ≡ Memory) ⊎ (image_of x ≡ Err c.in-Err.why)) (c.deref.ensures.value ∙ c.file.view_is)
    (fault_is c.deref.result.now c.in-Err.why (λ m. (c.in-Err.ensures.magic m).0) (λ need. (c.in-Err.ensures.short need).0) c.in-Err.ensures.segment.0)

pub returns-in-Ok-new-clause-start : goal.returns-in-Ok-new-clause-start
returns-in-Ok-new-clause-start c =
    (parts_of c.in-Ok.image, subst (λ (x : List ℕ). image_of x ≡ Ok (parts_of c.in-Ok.image)) (c.deref.ensures.value ∙ c.file.view_is) c.in-Ok.ensures.image, c.in-Ok-new.ensures)
