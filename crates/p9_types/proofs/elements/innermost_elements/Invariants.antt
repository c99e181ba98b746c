use Rattle.std.proofs.Common.{◌≡◌, ◌≤◌, ◌*◌}
use Rattle.p9_lang.specs.Types.{type_of}
use Rattle.p9_types.specs.Capping.{capped, innermost, count_in, array_depth}
use Rattle.p9_types.proofs.elements.innermost_elements.Given as goal

abbrev pub invariant-inwards : goal.invariant-inwards
invariant-inwards l = record {
  inner : innermost (type_of l.element) ≡ innermost (type_of l.ty);
  counted : capped (l.count * count_in (type_of l.element)) ≡ capped (count_in (type_of l.ty));
  cut : l.count ≤ 16777217;
}

abbrev pub decreases-inwards : goal.decreases-inwards
decreases-inwards l = array_depth (type_of l.element)
