use Rattle.std.proofs.Common.{◌∙◌, ap}
use Rattle.p9_slot.specs.Placing.{nothing, numbers}
use Rattle.p9_slot.proofs.Clauses.{Answer, answer, targets_below, targets_of_blocks, each_once, calls_return, targets_divide, runs_as_straight}
use Rattle.p9_slot.proofs.Added.{adds_only_noops, noops_justified}
use Rattle.p9_slot.proofs.Spacing.{is_spaced}
use Rattle.p9_slot.proofs.scheduling.schedule.Goals as goal
use Rattle.p9_slot.proofs.scheduling.schedule.Goals.{After-drop-blocks-2}

pub blocks-requires : goal.blocks-requires
blocks-requires c =
    targets_below c.args.lines.now c.deref.result.now c.requires.lines (c.deref.ensures.value ∙ c.lines.view_is)

pub laid-requires : goal.laid-requires
laid-requires c =
    targets_of_blocks c.args.lines.now c.deref.result.now c.deref-3.result.now c.in_ok-blocks.blocks.items c.in_ok-moved.moved.items c.deref-4.result.now
    c.requires.lines (c.deref.ensures.value ∙ c.lines.view_is) c.in_ok-blocks.ensures c.deref-3.ensures.value
    (c.in_ok-moved.ensures ∙ ap (numbers nothing 0) c.deref-2.ensures.value) c.deref-4.ensures.value

answered : (c : After-drop-blocks-2) → Answer c.args.lines.now c.in_ok-list.list.items c.in_ok-moved.moved.items
answered c =
    answer c.args.lines.now c.deref.result.now c.in_ok-list.list.items c.in_ok-blocks.blocks.items c.deref-2.result.now c.deref-3.result.now
    c.in_ok-moved.moved.items c.deref-4.result.now c.requires.targets c.requires.lines
    (c.deref.ensures.value ∙ c.lines.view_is) c.in_ok-blocks.ensures c.deref-2.ensures.value c.deref-3.ensures.value c.deref-4.ensures.value
    c.in_ok-moved.ensures c.in_ok-list.ensures

pub returns-clause-once : goal.returns-clause-once
returns-clause-once c = each_once c.args.lines.now c.in_ok-list.list.items c.in_ok-moved.moved.items (answered c)

pub returns-clause-added : goal.returns-clause-added
returns-clause-added c = adds_only_noops c.args.lines.now c.in_ok-list.list.items c.in_ok-moved.moved.items (answered c)

pub returns-clause-justified : goal.returns-clause-justified
returns-clause-justified c = noops_justified c.args.lines.now c.in_ok-list.list.items c.in_ok-moved.moved.items (answered c)

pub returns-clause-calls : goal.returns-clause-calls
returns-clause-calls c = calls_return c.args.lines.now c.in_ok-list.list.items c.in_ok-moved.moved.items (answered c)

pub returns-clause-divided : goal.returns-clause-divided
returns-clause-divided c = targets_divide c.args.lines.now c.in_ok-list.list.items c.in_ok-moved.moved.items (answered c)

pub returns-clause-runs : goal.returns-clause-runs
returns-clause-runs c = runs_as_straight c.args.lines.now c.in_ok-list.list.items c.in_ok-moved.moved.items (answered c)

pub returns-clause-spaced : goal.returns-clause-spaced
returns-clause-spaced c = is_spaced c.args.lines.now c.in_ok-list.list.items c.in_ok-moved.moved.items (answered c)
