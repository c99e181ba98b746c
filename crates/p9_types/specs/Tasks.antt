-- What is still to be done until the extents of all structures within a type are known: tasks, of
-- which the last comes first.
use Rattle.std.specs.Prelude.{◌≡◌, ◌<◌, ◌⊎◌, ℕ, zero, suc, ◌+◌, IsTrue, List, [], ◌∷◌, length, slice_get}
use Rattle.p9_lang.specs.Types.{Tags}
use Rattle.p9_types.specs.declared.reaching.Task.{Task}
use Rattle.p9_types.specs.declared.reaching.Task.TheVariants.{Visit, Finish}
use Rattle.p9_types.specs.Reaching.{inner_tags}
use Rattle.p9_types.specs.Told.{Table, IsSound, is_known}

abbrev pub number_of : Task → ℕ
number_of (Visit i) = i
number_of (Finish i) = i

abbrev pub visits : List ℕ → List Task
visits [] = []
visits (i ∷ is) = Visit i ∷ visits is

abbrev pub AreAll : (ℕ → Type 0) → List ℕ → Type 0
AreAll P [] = Unit {0}
AreAll P (i ∷ is) = P i × AreAll P is

abbrev pub Stands : List Task → ℕ → Type 0
Stands [] i = ⊥
Stands (t ∷ ts) i = (number_of t ≡ i) ⊎ Stands ts i

-- a structure's extent is known, or will be by these tasks
abbrev pub Covered : Table → List Task → ℕ → Type 0
Covered known ts i = IsTrue (is_known known i) ⊎ Stands ts i

abbrev pub AreCovered : Table → List Task → List ℕ → Type 0
AreCovered known ts is = AreAll (Covered known ts) is

-- when a structure's extent is taken, those of the structures in it are known
abbrev pub Awaited : Tags → Table → (above : List Task) → Task → Type 0
Awaited tags known above (Visit i) = Unit {0}
Awaited tags known above (Finish i) = AreCovered known above (inner_tags (slice_get tags i))

abbrev pub Awaits : Tags → Table → List Task → Type 0
Awaits tags known [] = Unit {0}
Awaits tags known (t ∷ above) = Awaited tags known above t × Awaits tags known above

-- how many tasks one leads to, at most
abbrev pub total_of : (ℕ → ℕ) → List ℕ → ℕ
total_of f [] = 0
total_of f (i ∷ is) = f i + total_of f is

abbrev pub weight_within : (depth : ℕ) → Tags → ℕ → ℕ
weight_within zero tags i = 0
weight_within (suc depth) tags i = 2 + total_of (weight_within depth tags) (inner_tags (slice_get tags i))

unfoldable pub weight : Tags → ℕ → ℕ
weight tags i = weight_within (suc (length tags)) tags i

abbrev pub task_weight : Tags → Task → ℕ
task_weight tags (Visit i) = weight tags i
task_weight tags (Finish i) = 1

abbrev pub work : Tags → List Task → ℕ
work tags [] = 0
work tags (t ∷ ts) = task_weight tags t + work tags ts

-- a step from what is known and to be done to the same later
pub record Advances (tags : Tags) (known : Table) (tasks : List Task) (later : Table) (later_tasks : List Task) : Type 0 where
  pub sound : IsSound tags later
  pub awaits : Awaits tags later later_tasks
  pub keeps : (i : ℕ) → Covered known tasks i → Covered later later_tasks i
  pub less : work tags later_tasks < work tags tasks
