use Rattle.std.proofs.Common.{◌≡◌, ℕ, ◌<◌, ◌||◌, false, get_or, length}
use Rattle.std.specs.List.{list_any}
use Rattle.p9_abs.specs.Modules.{named_by_piece}
use Rattle.p9_abs.specs.Names.{is_number}
use Rattle.p9_names.proofs.uses.mark_pieces.Given as goal

abbrev pub invariant-loop-rest : goal.invariant-loop-rest
invariant-loop-rest l =
    (k : ℕ) → k < length l.initial.named → get_or l.named k false || list_any (λ p. is_number k (named_by_piece p)) l.rest ≡ get_or l.initial.named k false || list_any (λ p. is_number k (named_by_piece p)) l.pieces

abbrev pub decreases-loop-rest : goal.decreases-loop-rest
decreases-loop-rest l = length l.rest
