use Rattle.std.proofs.Common.{get_or, refl, take}
use Rattle.std.proofs.lemmas.Result.{err_from_is_err_and}
use Rattle.p9_names.proofs.Steps.{nowhere, seen-places, place-at, agrees-turn, disagree-turn, agrees-end, notes-places}
use Rattle.p9_names.proofs.Agreed.{has_signature}
use Rattle.p9_names.specs.Passes.{has_size}
use Rattle.p9_names.proofs.agreement.check_agreement.Goals as goal

pub compare-requires-clause-places : goal.compare-requires-clause-places
compare-requires-clause-places c = seen-places c.args.linked.now c.args.globals.now c.loop-at.at c.requires.linkable c.requires.listed

pub compare-requires-clause-stands : goal.compare-requires-clause-stands
compare-requires-clause-stands c = place-at c.args.linked.now c.args.globals.now c.loop-at.at nowhere _ c.requires.linkable c.requires.listed c.loop-at-test.true refl

pub compare-requires-clause-signed : goal.compare-requires-clause-signed
compare-requires-clause-signed c = notes-places has_signature c.args.linked.now (take c.loop-at.at c.args.globals.now) c.loop-at.noted.signed.entries c.loop-at.invariant.signatures

pub compare-requires-clause-sized : goal.compare-requires-clause-sized
compare-requires-clause-sized c = notes-places has_size c.args.linked.now (take c.loop-at.at c.args.globals.now) c.loop-at.noted.sized.entries c.loop-at.invariant.sizes

pub loop-at-preserved : goal.loop-at-preserved
loop-at-preserved c =
    agrees-turn c.args.linked.now c.args.globals.now c.loop-at.at nowhere (get_or c.args.globals.now c.loop-at.at nowhere) c.loop-at.noted.signed.entries c.loop-at.noted.sized.entries c.compare.new.noted.signed.entries c.compare.new.noted.sized.entries c.requires.linkable c.requires.listed c.loop-at-test.true refl c.loop-at.invariant c.in_ok-compare.ensures.ok

pub returns-in_err-compare-clause-err : goal.returns-in_err-compare-clause-err
returns-in_err-compare-clause-err c =
    let p = err_from_is_err_and c.from_residual.result c.from_residual.ensures.1 in
    rw (p.1, p.2) (disagree-turn c.args.linked.now c.args.globals.now c.loop-at.at nowhere (get_or c.args.globals.now c.loop-at.at nowhere) c.loop-at.noted.signed.entries c.loop-at.noted.sized.entries c.in_err-compare.field-0.0 c.requires.linkable c.requires.listed c.loop-at-test.true refl c.loop-at.invariant c.in_err-compare.ensures.err)

pub returns-clause-agree : goal.returns-clause-agree
returns-clause-agree c = agrees-end c.args.linked.now c.args.globals.now c.loop-at.noted.signed.entries c.loop-at.noted.sized.entries c.requires.linkable c.requires.listed c.loop-at.at c.loop-at-test.false c.loop-at.invariant
