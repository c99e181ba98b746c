use Rattle.std.proofs.Common.{get_or, refl}
use Rattle.std.proofs.lemmas.Result.{err_from_is_err_and}
use Rattle.p9_names.proofs.Steps.{nowhere, seen-places, place-at, knows-turn, twice-turn, knows-end}
use Rattle.p9_names.proofs.definitions.definitions.Goals as goal

pub define-requires-clause-places : goal.define-requires-clause-places
define-requires-clause-places c = seen-places c.args.linked.now c.args.globals.now c.loop-at.at c.requires.linkable c.requires.listed

pub define-requires-clause-stands : goal.define-requires-clause-stands
define-requires-clause-stands c = place-at c.args.linked.now c.args.globals.now c.loop-at.at nowhere _ c.requires.linkable c.requires.listed c.loop-at-test.true refl

pub loop-at-preserved : goal.loop-at-preserved
loop-at-preserved c =
    knows-turn c.args.linked.now c.args.globals.now c.loop-at.at nowhere (get_or c.args.globals.now c.loop-at.at nowhere) c.loop-at.defs.entries c.define.new.defs.entries c.requires.linkable c.requires.listed c.loop-at-test.true refl c.loop-at.invariant c.in_ok-define.ensures.ok

pub returns-in_err-define-clause-err : goal.returns-in_err-define-clause-err
returns-in_err-define-clause-err c =
    let p = err_from_is_err_and c.from_residual.result c.from_residual.ensures.1 in
    rw (p.1, p.2) (twice-turn c.args.linked.now c.args.globals.now c.loop-at.at nowhere (get_or c.args.globals.now c.loop-at.at nowhere) c.loop-at.defs.entries c.in_err-define.field-0.0 c.requires.linkable c.requires.listed c.loop-at-test.true refl c.loop-at.invariant c.in_err-define.ensures.err)

pub returns-clause-once : goal.returns-clause-once
returns-clause-once c = (knows-end c.args.linked.now c.args.globals.now c.loop-at.defs.entries c.requires.linkable c.requires.listed c.loop-at.at c.loop-at-test.false c.loop-at.invariant).0

pub returns-clause-table : goal.returns-clause-table
returns-clause-table c = (knows-end c.args.linked.now c.args.globals.now c.loop-at.defs.entries c.requires.linkable c.requires.listed c.loop-at.at c.loop-at-test.false c.loop-at.invariant).1
