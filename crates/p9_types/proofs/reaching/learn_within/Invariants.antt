use Rattle.p9_lang.specs.Types.{type_of, tags_of}
use Rattle.p9_types.specs.Reaching.{inner_of}
use Rattle.p9_types.specs.Told.{IsSound}
use Rattle.p9_types.specs.Tasks.{AreCovered, Awaits, work}
use Rattle.p9_types.proofs.reaching.learn_within.Given as goal

abbrev pub invariant-inwards : goal.invariant-inwards
invariant-inwards l = record {
  sound : IsSound (tags_of l.tags) l.known.map.entries;
  awaits : Awaits (tags_of l.tags) l.known.map.entries l.tasks.items;
  covered : AreCovered l.known.map.entries l.tasks.items (inner_of (type_of l.ty));
}

abbrev pub decreases-inwards : goal.decreases-inwards
decreases-inwards l = work (tags_of l.tags) l.tasks.items
