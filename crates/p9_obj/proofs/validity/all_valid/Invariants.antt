use Rattle.std.proofs.Common.{◌↔◌, All, length}
use Rattle.p9_abs.specs.Validity.{IsValid}
use Rattle.p9_obj.proofs.validity.all_valid.Given as goal

abbrev pub invariant-loop-rest : goal.invariant-loop-rest
invariant-loop-rest l = All IsValid l.rest ↔ All IsValid l.modules.items

abbrev pub decreases-loop-rest : goal.decreases-loop-rest
decreases-loop-rest l = length l.rest
