use Rattle.std.proofs.Common.{◌*◌, arith, sym, ap, ◌∙◌}
use Rattle.p9_lang.specs.Types.{type_of}
use Rattle.p9_types.specs.Capping.{capped, count_in, array_depth}
use Rattle.p9_types.proofs.ArrayElements.{inner_step, count_step, count_last, no_array_inner, no_array_count}
use Rattle.p9_types.proofs.elements.innermost_elements.Goals as goal

pub inwards-smaller : goal.inwards-smaller
inwards-smaller c = let e = ap array_depth c.in-Some.ensures in omega arith

pub inwards-preserved : goal.inwards-preserved
inwards-preserved c = record {
  inner = sym (inner_step (type_of c.inwards.element.now) (type_of c.in-Some.inner.ty.now) c.in-Some.inner.count c.in-Some.ensures) ∙ c.inwards.invariant.inner;
  counted =
      count_step (type_of c.inwards.element.now) (type_of c.in-Some.inner.ty.now) c.in-Some.inner.count c.inwards.count c.capped_number-count.result c.in-Some.ensures
      (c.capped_number-count.ensures.value ∙ ap (λ x. capped (x * c.from-in-Some.result)) c.from.ensures ∙ ap (λ x. capped (c.inwards.count * x)) c.from-in-Some.ensures)
      ∙ c.inwards.invariant.counted;
  cut = c.capped_number-count.ensures.cut;
}

pub returns-clause-ty : goal.returns-clause-ty
returns-clause-ty c = sym (no_array_inner (type_of c.inwards.element.now) c.in_default.ensures) ∙ c.inwards.invariant.inner

pub returns-clause-count : goal.returns-clause-count
returns-clause-count c =
    count_last c.inwards.count (count_in (type_of c.inwards.element.now)) (count_in (type_of c.args.ty.now)) c.inwards.invariant.cut
    (no_array_count (type_of c.inwards.element.now) c.in_default.ensures) c.inwards.invariant.counted

pub returns-clause-no_array : goal.returns-clause-no_array
returns-clause-no_array c = c.in_default.ensures
