use Rattle.std.proofs.Common.{◌≡◌, ℕ, ◌<◌, ◌||◌, false, get_or, length}
use Rattle.std.specs.List.{list_any}
use Rattle.p9_abs.specs.Names.{body_names, module_names}
use Rattle.p9_names.proofs.uses.named.Given as goal

abbrev pub invariant-loop-rest : goal.invariant-loop-rest
invariant-loop-rest l =
    (length l.flags.items ≡ length l.symbols)
    × ((k : ℕ) → k < length l.symbols → get_or l.flags.items k false || list_any (λ s. body_names k s.body) l.rest ≡ module_names l.symbols k)

abbrev pub decreases-loop-rest : goal.decreases-loop-rest
decreases-loop-rest l = length l.rest
