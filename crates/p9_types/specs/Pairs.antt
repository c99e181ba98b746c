-- Types that are compared, as a list of pairs.
use Rattle.std.specs.Prelude.{◌≡◌, ◌<◌, ◌≤◌, ℕ, suc, ◌+◌, Bool, true, ◌&&◌, List, [], ◌∷◌}
use Rattle.p9_lang.specs.Types.{TypeTree, Pointer, Array, Function, TypeRow, none, more, type_of}
use Rattle.p9_lang.specs.Conversions.{same_type, same_types}
use Rattle.p9_types.specs.declared.same.Pair.{Pair}

abbrev pub left_of : Pair → TypeTree
left_of p = type_of p.left.now

abbrev pub right_of : Pair → TypeTree
right_of p = type_of p.right.now

abbrev pub same_pairs : List Pair → Bool
same_pairs [] = true
same_pairs (p ∷ ps) = same_type (left_of p) (right_of p) && same_pairs ps

-- how many types a type is built of, itself among them
abbrev mutual
  pub type_weight : TypeTree → ℕ
  type_weight (Pointer target) = suc (type_weight target)
  type_weight (Array element n) = suc (type_weight element)
  type_weight (Function result parameters) = suc (type_weight result + row_weight parameters)
  type_weight type = 1

  pub row_weight : TypeRow → ℕ
  row_weight none = 0
  row_weight (more first others) = type_weight first + row_weight others

abbrev pub pairs_weight : List Pair → ℕ
pairs_weight [] = 0
pairs_weight (p ∷ ps) = type_weight (left_of p) + pairs_weight ps

-- Parts of two types are put aside, and it is told whether the types are alike but for these.
pub record PutsParts (before : List Pair) (left right : TypeTree) (alike : Bool) (after : List Pair) : Type 0 where
  pub same : (alike && same_pairs after) ≡ (same_pairs before && same_type left right)
  pub less : pairs_weight after < pairs_weight before + type_weight left

-- likewise of two lists of types
pub record PutsRows (before : List Pair) (left right : TypeRow) (alike : Bool) (after : List Pair) : Type 0 where
  pub same : (alike && same_pairs after) ≡ (same_pairs before && same_types left right)
  pub no_more : pairs_weight after ≤ pairs_weight before + row_weight left
