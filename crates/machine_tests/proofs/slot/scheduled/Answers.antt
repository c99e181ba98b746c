use Rattle.p9_slot.proofs.Schedulable.{aimed_targets, aimed_lines}
use Rattle.machine_tests.proofs.slot.scheduled.Goals as goal

pub schedule-requires-clause-targets : goal.schedule-requires-clause-targets
schedule-requires-clause-targets c =
    aimed_targets c.in_ok-list.list.items c.deref.result.now c.deref.ensures.value (c.are_aimed.ensures c.if-are_aimed.true)

pub schedule-requires-clause-lines : goal.schedule-requires-clause-lines
schedule-requires-clause-lines c =
    aimed_lines c.in_ok-list.list.items c.deref.result.now c.deref.ensures.value (c.are_aimed.ensures c.if-are_aimed.true)
