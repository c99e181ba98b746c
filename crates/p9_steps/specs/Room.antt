-- Pieces of data, and the room that is left for them.
use Rattle.std.specs.Prelude.{ℕ, ◌+◌, ◌*◌, ◌%◌, ◌==◌, Bool, true, false, ◌&&◌, ◌||◌, nat_lt, nat_le}
use Rattle.p9_abs.specs.declared.modules.DataPiece.{DataPiece}
use Rattle.p9_abs.specs.declared.modules.DataPiece.TheVariants.{Raw, Address}

-- the piece is bytes as they stand
abbrev pub is_raw : DataPiece → Bool
is_raw (Raw _) = true
is_raw (Address _ _) = false

-- of so many bytes that are left, n may be taken with so many pieces behind them
abbrev pub is_room : (left n behind : ℕ) → Bool
is_room left n behind = nat_lt 0 n && (nat_le (n + 4 * behind) left && ((behind == 0) || (n % 4 == 0)))
