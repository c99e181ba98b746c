use Rattle.std.proofs.Common.{◌&&◌, sym, ap, ◌∙◌}
use Rattle.p9_lang.specs.Types.{type_of}
use Rattle.p9_lang.specs.Conversions.{same_type}
use Rattle.p9_types.specs.Pairs.{same_pairs}
use Rattle.p9_types.proofs.Comparing.{compared_next, compared_less}
use Rattle.p9_types.proofs.same.same_type.Goals as goal

pub returns-then-not-branch : goal.returns-then-not-branch
returns-then-not-branch c =
    sym (ap (λ b. b && same_pairs c.put_parts.new.pairs.items) c.if-not-branch.true)
    ∙ compared_next c.pairs.pairs.items c.pop.new.self.items c.put_parts.new.pairs.items c.in-Some.pair (same_type (type_of c.args.left.now) (type_of c.args.right.now))
    c.in_ok-put_parts.field-0 c.in-Some.ensures.items c.pairs.invariant c.in_ok-put_parts.ensures

pub pairs-smaller : goal.pairs-smaller
pairs-smaller c =
    compared_less c.pairs.pairs.items c.pop.new.self.items c.put_parts.new.pairs.items c.in-Some.pair c.in_ok-put_parts.field-0 c.in-Some.ensures.items c.in_ok-put_parts.ensures

pub pairs-preserved : goal.pairs-preserved
pairs-preserved c =
    sym (ap (λ b. b && same_pairs c.put_parts.new.pairs.items) c.if-not-branch.false)
    ∙ compared_next c.pairs.pairs.items c.pop.new.self.items c.put_parts.new.pairs.items c.in-Some.pair (same_type (type_of c.args.left.now) (type_of c.args.right.now))
    c.in_ok-put_parts.field-0 c.in-Some.ensures.items c.pairs.invariant c.in_ok-put_parts.ensures
