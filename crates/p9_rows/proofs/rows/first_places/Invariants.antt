use Rattle.std.proofs.Common.{◌≡◌, ℕ, ◌+◌, List, length, bytes_eq}
use Rattle.std.specs.Option.{option_or}
use Rattle.std.specs.List.{position_from}
use Rattle.std.specs.HashMap.{get}
use Rattle.p9_rows.specs.Rows.{is_word}
use Rattle.p9_rows.proofs.rows.first_places.Given as goal

abbrev pub invariant-loop-rest : goal.invariant-loop-rest
invariant-loop-rest l = record {
  known : (q : List ℕ) → option_or (get bytes_eq l.places q) (position_from (is_word q) l.place l.rest) ≡ position_from (is_word q) 0 l.tokens;
  count : l.place + length l.rest ≡ length l.tokens;
}

abbrev pub decreases-loop-rest : goal.decreases-loop-rest
decreases-loop-rest l = length l.rest
