-- Levels of structures within a structure. A structure may stand at a level more than once; of such
-- ones it counts only that there are several.
use Rattle.std.specs.Prelude.{◌≡◌, ℕ, Bool, true, false, not, List, [], ◌∷◌, ◌++◌}
use Rattle.std.specs.List.{flat_map, filter}
use Rattle.p9_lang.specs.Members.{Part, Sought, Nowhere, One, Several, or_deeper, offset_if}

-- what a list has
abbrev pub tally : {A : Type 0} → List A → Sought A
tally xs = or_deeper xs Nowhere

-- what two lists have together
abbrev pub together : {A : Type 0} → Sought A → Sought A → Sought A
together Nowhere s = s
together (One x) Nowhere = One x
together (One x) (One y) = Several
together (One x) Several = Several
together Several s = Several

-- where a structure stands at a level
abbrev pub stands_at : ℕ → List Part → Sought ℕ
stands_at tag level = tally (flat_map (offset_if tag) level)

-- levels at which each structure stands at the same place, or at several
abbrev pub SameLevel : List Part → List Part → Type 0
SameLevel level other = (tag : ℕ) → stands_at tag level ≡ stands_at tag other

-- what stands there once, or twice
abbrev pub copies : (several : Bool) → Part → List Part
copies false part = part ∷ []
copies true part = part ∷ part ∷ []

-- a level without what was met
abbrev pub unmet : (ℕ → Bool) → List Part → List Part
unmet met level = filter (λ p. not (met p.tag)) level

-- A level to which parts are added; where there are several of a structure, some may be left out.
pub record Adds (level parts later : List Part) : Type 0 where
  pub same : SameLevel later (level ++ parts)

-- what comes in from parts of one that stands there once, or several times
abbrev pub entering : (several : Bool) → (met : ℕ → Bool) → List Part → List Part
entering several met parts = flat_map (copies several) (unmet met parts)
