-- The static objects that names stand for.
use Rattle.std.proofs.Common.{◌≡◌, ℕ, zero, suc, ◌+◌, Bool, true, false, if◌then◌else◌, List, [], ◌∷◌, map, Some, refl, ap, arith}
use Rattle.std.specs.Prelude.{slice_get}
use Rattle.p9_first.specs.Modules.{Source}
use Rattle.p9_first.specs.Cells.{Object}
use Rattle.p9_first.specs.Union.{Entry, first_cells, first_objects, object_makers, number_from}

some_same : {X : Type 0} {x y : X} → Some x ≡ Some y → x ≡ y
some_same h = cc

-- the number that is found is a place in the list, and what stands there passes
pub record FoundAt {X : Type 0} (first : ℕ) (passes : X → Bool) (xs : List X) (number : ℕ) : Type 0 where
  pub place : ℕ
  pub item : X
  pub counted : number ≡ first + place
  pub there : slice_get xs place ≡ Some item
  pub passed : passes item ≡ true

pub number_found : {X : Type 0} (first : ℕ) (passes : X → Bool) (xs : List X) (number : ℕ) → number_from first passes xs ≡ Some number → FoundAt first passes xs number
number_found first passes [] number h = cc
number_found first passes (x ∷ xs) number h = by (passes x) refl (λ g. number_found (suc first) passes xs number g) h
  where
    after : FoundAt (suc first) passes xs number → FoundAt first passes (x ∷ xs) number
    after f = record { place = suc f.place; item = f.item; counted = (let e = f.counted in omega arith); there = f.there; passed = f.passed }

    by : (b : Bool) → passes x ≡ b → (number_from (suc first) passes xs ≡ Some number → FoundAt (suc first) passes xs number) → (if b then Some first else number_from (suc first) passes xs) ≡ Some number → FoundAt first passes (x ∷ xs) number
    by true p again g = record { place = 0; item = x; counted = (let e : first ≡ number = some_same g in omega arith); there = refl; passed = p }
    by false p again g = after (again g)

abbrev pub object_of : Entry → Object
object_of entry = record { cells = first_cells entry.symbol; alive = true }

-- the object with a number begins with its symbol's cells, and is alive
pub first_object : (entries : List Entry) (number : ℕ) (entry : Entry) → slice_get entries number ≡ Some entry
    → slice_get {X = Object} (map object_of entries) number ≡ Some (object_of entry)
first_object [] number entry h = cc
first_object (e ∷ entries) zero entry h = ap (λ x. Some (object_of x)) (some_same h)
first_object (e ∷ entries) (suc number) entry h = first_object entries number entry h

pub object_at : (modules : List Source) (number : ℕ) (entry : Entry) → slice_get (object_makers modules) number ≡ Some entry
    → slice_get (first_objects modules) number ≡ Some (object_of entry)
object_at modules number entry h = first_object (object_makers modules) number entry h
