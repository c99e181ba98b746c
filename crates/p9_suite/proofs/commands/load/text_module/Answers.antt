use Rattle.std.proofs.lemmas.Result.{err_from_is_err_and}
use Rattle.std.proofs.Common.{◌∙◌, List, [], ℕ, subst}
use Rattle.p9_base.specs.Outside.{FileCall}
use Rattle.p9_suite.specs.Stages.{stops, goes_on}
use Rattle.p9_suite.specs.commands.Load.{Decodes}
use Rattle.p9_suite.proofs.commands.load.text_module.Goals as goal

pub returns-in_err-object : goal.returns-in_err-object
returns-in_err-object c =
    let p = err_from_is_err_and c.from_residual.result c.from_residual.ensures.1 in
    rw (p.1, p.2) (stops c.in_err-object.field-0.0 [] c.in_err-object.ensures)

pub returns : goal.returns
returns c =
    goes_on c.in_ok-object.object c.decoded.result [] [] c.in_ok-object.ensures
    (subst (λ (x : List ℕ). Decodes {C = FileCall} c.args.name.now x c.decoded.result []) (c.deref.ensures.value ∙ c.object.view_is) c.decoded.ensures)
