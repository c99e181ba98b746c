use Rattle.std.proofs.lemmas.Result.{err_from_is_err_and}
use Rattle.std.proofs.Common.{◌≡◌, ◌∙◌, List, ℕ, Ok, subst}
use Rattle.p9_asm.specs.Assembled.{assembled, IsRefusal}
use Rattle.p9_suite.proofs.Assembling.{spelled, refused}
use Rattle.p9_suite.specs.commands.Va.{assemble_no_memory}
use Rattle.p9_suite.proofs.commands.va.object_of.Goals as goal

pub returns-in_err-write_obj-in-Ok : goal.returns-in_err-write_obj-in-Ok
returns-in_err-write_obj-in-Ok c =
    let p = err_from_is_err_and c.from_residual.result c.from_residual.ensures.1 in
    rw (p.1, p.2) assemble_no_memory

pub returns-in_ok-write_obj-in-Ok : goal.returns-in_ok-write_obj-in-Ok
returns-in_ok-write_obj-in-Ok c =
    spelled c.args.name.now c.args.text.now c.in_ok-write_obj-in-Ok.field-0 c.in-Ok.module
    (subst (λ (x : List ℕ). assembled x ≡ Ok c.in-Ok.module) (c.deref.ensures.value ∙ c.text.view_is) c.in-Ok.ensures.module)
    (record { valid = c.in-Ok.ensures.valid; fits = c.in-Ok.ensures.fits }) c.in_ok-write_obj-in-Ok.ensures.spelling

pub returns-in-Err : goal.returns-in-Err
returns-in-Err c =
    refused c.args.name.now c.args.text.now c.in-Err.why c.refusal.result
    (subst (λ (x : List ℕ). IsRefusal x c.in-Err.why) (c.deref.ensures.value ∙ c.text.view_is) c.in-Err.ensures.refused)
    c.refusal.ensures
