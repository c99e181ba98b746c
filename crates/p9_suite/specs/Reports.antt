-- What a sink has taken of a line.
use Rattle.std.specs.Prelude.{◌≡◌, ◌≤◌, ℕ, List, ◌++◌, length, take, Option, Some, IfSome, ◌⊎◌}
use Rattle.p9_base.specs.Outside.{Rose}

-- no call failed, and the whole line was put
abbrev pub Whole : Option (List ℕ) → Option (List ℕ) → (before now : ℕ) → List ℕ → Type 0
Whole sofar later before now line = (now ≡ before) × IfSome sofar (λ bytes. later ≡ Some (bytes ++ line))

-- a call failed behind so many of the line's bytes
abbrev pub Cut : Option (List ℕ) → Option (List ℕ) → (before now : ℕ) → List ℕ → Type 0
Cut sofar later before now line =
    Rose before now × IfSome sofar (λ bytes. (k : ℕ) × (k ≤ length line) × (later ≡ Some (bytes ++ take k line)))

-- the line was put on the sink, or so much of it as the sink took before it failed
abbrev pub Tells : {S : Type 0} → (S → Option (List ℕ)) → (S → ℕ) → S → S → List ℕ → Type 0
Tells sofar faults old new line =
    Whole (sofar old) (sofar new) (faults old) (faults new) line ⊎ Cut (sofar old) (sofar new) (faults old) (faults new) line
