use Rattle.std.proofs.Common.{◌≡◌}
use Rattle.std.specs.Vec.Iter.{into_iter_items}
use Rattle.p9_lang.specs.Typing.{operands_of}
use Rattle.p9_operand.specs.Told.{told_operands}
use Rattle.p9_parts.specs.Told.{parts_of}
use Rattle.p9_kinds.proofs.Operands.{joined}
use Rattle.p9_kinds.proofs.expressions.operands_of.Given as goal

abbrev pub invariant-parts : goal.invariant-parts
invariant-parts l =
    operands_of (parts_of l.fn.parts.items) ≡ joined (told_operands l.operands.items) (operands_of (parts_of (into_iter_items l.part-iterator)))
