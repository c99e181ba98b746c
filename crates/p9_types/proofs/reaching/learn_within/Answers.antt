use Rattle.std.proofs.Common.{sym, subst, ◌∙◌}
use Rattle.p9_lang.specs.Types.{type_of, tags_of}
use Rattle.p9_types.specs.Reaching.{inner_of}
use Rattle.p9_types.specs.Tasks.{Covered, AreCovered}
use Rattle.p9_types.proofs.Lists.{empty_by_length}
use Rattle.p9_types.proofs.Weights.{all_along}
use Rattle.p9_types.proofs.Advancing.{first_awaits, first_covered, covered_last}
use Rattle.p9_types.proofs.reaching.learn_within.Goals as goal

pub inwards-init : goal.inwards-init
inwards-init c = record {
  sound = c.requires.sound;
  awaits = first_awaits (tags_of c.args.tags.now) c.args.known.now.map.entries c.new-tasks.result.items c.push_visit.new.tasks.items (inner_of (type_of c.args.ty.now)) c.new-tasks.ensures.items c.in_ok-push_visit.ensures;
  covered = first_covered c.args.known.now.map.entries c.new-tasks.result.items c.push_visit.new.tasks.items (inner_of (type_of c.args.ty.now)) c.new-tasks.ensures.items c.in_ok-push_visit.ensures;
}

pub inwards-preserved : goal.inwards-preserved
inwards-preserved c = record {
  sound = c.in_ok-take_task.ensures.sound;
  awaits = c.in_ok-take_task.ensures.awaits;
  covered = all_along _ (Covered c.take_task.new.known.map.entries c.take_task.new.tasks.items) c.in_ok-take_task.ensures.keeps (inner_of (type_of c.args.ty.now))
      (subst (λ ts. AreCovered c.inwards.known.map.entries ts (inner_of (type_of c.args.ty.now))) c.in-Some.ensures.items c.inwards.invariant.covered);
}

pub returns-clause-known : goal.returns-clause-known
returns-clause-known c =
    covered_last c.inwards.known.map.entries c.inwards.tasks.items (inner_of (type_of c.args.ty.now))
    (empty_by_length c.inwards.tasks.items (sym c.inwards.tasks.ok.0 ∙ c.in_default.ensures.cases.0)) c.inwards.invariant.covered
