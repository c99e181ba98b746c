use Rattle.std.proofs.Common.{◌≡◌, ℕ, ◌<◌, ◌||◌, false, get_or, length}
use Rattle.std.specs.List.{list_any}
use Rattle.p9_abs.specs.Modules.{named_by_operand}
use Rattle.p9_abs.specs.Names.{is_number}
use Rattle.p9_names.proofs.uses.mark_code.Given as goal

abbrev pub invariant-loop-rest : goal.invariant-loop-rest
invariant-loop-rest l =
    (k : ℕ) → k < length l.initial.named → get_or l.named k false || list_any (λ a. list_any (λ o. is_number k (named_by_operand o)) a.operands) l.rest ≡ get_or l.initial.named k false || list_any (λ a. list_any (λ o. is_number k (named_by_operand o)) a.operands) l.code

abbrev pub decreases-loop-rest : goal.decreases-loop-rest
decreases-loop-rest l = length l.rest
