-- What a schedule of lines is. Each old line i has a new number, moved[i]; beside the old lines stand added no-ops.
use Rattle.std.specs.Prelude.{ℕ, suc, ◌+◌, ◌≡◌, ◌≤◌, ◌<◌, ◌⊎◌, Bool, true, false, Option, Some, None, IsSome, if◌then◌else◌, List, length, slice_get, slice_index}
use Rattle.p9_r3k.specs.declared.inst.Inst.{Inst}
use Rattle.p9_r3k.specs.declared.lines.Line.{Line}
use Rattle.p9_r3k.specs.Effects.{writes_pair}
use Rattle.p9_r3k.specs.Uses.{links, names_place, delays}
use Rattle.p9_r3k.specs.Delayed.{noop, enter}

-- What is asked of the lines

-- each branch or jump by a place has a target
abbrev pub HaveTargets : List Line → Type 0
HaveTargets lines =
    (i : ℕ) (line : Line) → slice_get lines i ≡ Some line → names_place line.inst ≡ true → IsSome line.target

abbrev pub TargetsAreLines : List Line → Type 0
TargetsAreLines lines =
    (i : ℕ) (line : Line) (t : ℕ) → slice_get lines i ≡ Some line → line.target ≡ Some t → t < length lines

-- Lines by their instructions

abbrev pub line_is : (Inst → Bool) → Option Line → Bool
line_is p None = false
line_is p (Some line) = p line.inst

-- whether there is a line i, and its instruction meets a test
abbrev pub is_at : (Inst → Bool) → List Line → ℕ → Bool
is_at p lines i = line_is p (slice_get lines i)

-- Old lines

abbrev pub new_target : (ℕ → ℕ) → Option ℕ → Option ℕ
new_target f None = None
new_target f (Some t) = Some (f t)

abbrev pub retargeted : (ℕ → ℕ) → Line → Line
retargeted f line = record line { target = new_target f line.target }

-- each old line stands once among the new ones, and goes to where its target is entered
pub record EachOnce (old new : List Line) (moved : List ℕ) : Type 0 where
  pub count : length moved ≡ length old
  pub apart : (i j : ℕ) → i < length old → j < length old → slice_index moved i ≡ slice_index moved j → i ≡ j
  pub kept : (i : ℕ) (line : Line) → slice_get old i ≡ Some line →
      slice_get new (slice_index moved i) ≡ Some (retargeted (enter moved (length new)) line)

-- Added lines

-- new line q is no old line
abbrev pub IsAdded : List ℕ → ℕ → Type 0
IsAdded moved q = (i : ℕ) → slice_get moved i ≡ Some q → ⊥

-- new line q is directly behind a branch, jump or load
abbrev pub IsInDelay : List Line → List ℕ → ℕ → Type 0
IsInDelay old moved q = (i : ℕ) × (is_at delays old i ≡ true) × (q ≡ slice_index moved i + 1)

-- new line q is directly before a line that writes HI or LO
abbrev pub IsBeforeWriter : List Line → List ℕ → ℕ → Type 0
IsBeforeWriter old moved q = (i : ℕ) × (is_at writes_pair old i ≡ true) × (slice_index moved i ≡ q + 1)

-- new line q and one more added line are directly before a line that writes HI or LO
abbrev pub IsSecondBeforeWriter : List Line → List ℕ → ℕ → Type 0
IsSecondBeforeWriter old moved q =
    (i : ℕ) × (is_at writes_pair old i ≡ true) × (slice_index moved i ≡ q + 2) × IsAdded moved (q + 1)

-- each added line is a no-op, at most one behind each branch, jump or load, and at most two before each line that writes
-- HI or LO
abbrev pub AddsOnlyNoops : List Line → List Line → List ℕ → Type 0
AddsOnlyNoops old new moved =
    (q : ℕ) → q < length new → IsAdded moved q →
    (slice_get new q ≡ Some noop)
    × (IsInDelay old moved q ⊎ (IsBeforeWriter old moved q ⊎ IsSecondBeforeWriter old moved q))

-- Where control comes

-- a call returns to where the line after it is entered
abbrev pub CallsReturn : List Line → List Line → List ℕ → Type 0
CallsReturn old new moved =
    (i : ℕ) → is_at links old i ≡ true → enter moved (length new) (i + 1) ≡ slice_index moved i + 2

-- no line before a target comes behind the place where the target is entered
abbrev pub TargetsDivide : List Line → List Line → List ℕ → Type 0
TargetsDivide old new moved =
    (i t : ℕ) (line : Line) → slice_get old t ≡ Some line → line.is_target ≡ true → i < t →
    slice_index moved i < enter moved (length new) t

-- How far apart lines are

-- at most so many new lines lie from where old line i is entered to where the next one is: the line, one in its delay,
-- and two before the next line where that writes HI or LO
abbrev pub most_between : List Line → ℕ → ℕ
most_between old i = 1 + (if is_at delays old i then 1 else 0) + (if is_at writes_pair old (suc i) then 2 else 0)

-- the first line is entered first, each other one not far behind the one before it, and a branch, jump or load stands
-- where it is entered
pub record IsSpaced (old new : List Line) (moved : List ℕ) : Type 0 where
  pub first : enter moved (length new) 0 ≡ 0
  pub next : (i : ℕ) → i < length old → enter moved (length new) (suc i) ≤ enter moved (length new) i + most_between old i
  pub early : (i : ℕ) → is_at delays old i ≡ true → slice_index moved i ≡ enter moved (length new) i
