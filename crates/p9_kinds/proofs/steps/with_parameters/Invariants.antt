use Rattle.std.proofs.Common.{◌≡◌, ◌++◌, length, reverse}
use Rattle.p9_lang.specs.Types.{types_of}
use Rattle.p9_lang.specs.Parts.{parameter_types}
use Rattle.p9_parts.specs.Told.{parts_of}
use Rattle.p9_kinds.proofs.steps.with_parameters.Given as goal

abbrev pub invariant-parts : goal.invariant-parts
invariant-parts l =
    types_of l.parameters ++ parameter_types (parts_of (reverse l.left.items))
    ≡ types_of l.fn.parameters ++ parameter_types (parts_of (reverse l.fn.left.items))

abbrev pub decreases-parts : goal.decreases-parts
decreases-parts l = length l.left.items
