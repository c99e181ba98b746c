-- Which moves stand where: `held`, `plan_of`.
use Rattle.std.specs.Prelude.{ℕ, zero, suc, ◌+◌, Bool, true, false, Option, Some, None, List, [], ◌∷◌, ◌++◌, if◌then◌else◌}
use Rattle.p9_abs.specs.declared.instructions.Abs.{Abs}
use Rattle.p9_abs.specs.Automatics.{call_at, writes_at}
use Rattle.p9_abs.specs.Framed.{Shift, Plan}
use Rattle.p9_homes.specs.Tables.{cell}

-- Moves

-- what a home keeps before instruction i, which doesn't need what it writes
abbrev pub kept_for : List Abs → ℕ → Option ℕ → Option ℕ
kept_for code i None = None
kept_for code i (Some v) = if writes_at code v i then None else Some v

abbrev pub shift_of : Bool → ℕ → Option ℕ → List Shift
shift_of loads g None = []
shift_of loads g (Some v) = record { auto = v; home = 9 + g; loads = loads } ∷ []

-- a move for each of the first m homes that keeps something before instruction i
unfoldable pub held : List Abs → List (Option ℕ) → Bool → ℕ → ℕ → List Shift
held code table loads i zero = []
held code table loads i (suc m) = held code table loads i m ++ shift_of loads m (kept_for code i (cell table i m))

abbrev pub at_call : List Abs → ℕ → List Shift → List Shift
at_call code i shifts = if call_at code i then shifts else []

-- homes are loaded at the entry and after calls, and stored before calls
abbrev pub plan_of : List Abs → List (Option ℕ) → List ℕ → Plan
plan_of code table offsets = record {
  offsets = offsets;
  entry = held code table true 0 12;
  before = λ i. at_call code i (held code table false i 12);
  after = λ i. at_call code i (held code table true (i + 1) 12);
}
