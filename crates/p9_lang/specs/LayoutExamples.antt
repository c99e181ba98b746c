-- Sizes, members, constants and agreement, computed.
use Rattle.std.specs.Prelude.{◌≡◌, ℕ, ◌-◌, ◌^◌, Bool, true, false, List, [], ◌∷◌, Option, Some, None, Ok, Err, codes}
use Rattle.p9_lang.specs.declared.tree.CBinary.TheVariants as operator
use Rattle.p9_lang.specs.Types.{TypeTree, Void, Char, UChar, Short, Int, UInt, Pointer, Array, Function, Tagged, MemberTree, TagTree, Tags}
use Rattle.p9_lang.specs.Types as types
use Rattle.p9_lang.specs.Layout.{Extent, layout}
use Rattle.p9_lang.specs.Members.{At, Missing, Ambiguous, Incomplete, find_member, Nowhere, One, find_substructure}
use Rattle.p9_lang.specs.Constants.{Divide, Shift, word_operation, narrowed}
use Rattle.p9_lang.specs.Agreement.{agrees}

abbrev pub of : List ℕ → TypeTree → MemberTree
of name type = record { name = name; type = type }

abbrev pub structure : List ℕ → List MemberTree → TagTree
structure name members = record { is_union = false; name = name; members = Some members; is_marked = false }

abbrev pub union_of : List ℕ → List MemberTree → TagTree
union_of name members = record { is_union = true; name = name; members = Some members; is_marked = false }

abbrev pub bodiless : List ℕ → (is_marked : Bool) → TagTree
bodiless name is_marked = record { is_union = false; name = name; members = None; is_marked = is_marked }

abbrev pub extent_is : (size align : ℕ) → Option Extent
extent_is size align = Some (record { size = size; align = align })

-- struct A { char c; int n; short s; }; struct B { int k; struct A; }; struct C { struct B; struct D; };
-- struct D { char k; struct A a; }; union U { char c[5]; int n; }; struct E;
abbrev pub shapes : Tags
shapes =
    structure (codes "A") (of (codes "c") Char ∷ of (codes "n") Int ∷ of (codes "s") Short ∷ [])
    ∷ structure (codes "B") (of (codes "k") Int ∷ of [] (Tagged 0) ∷ [])
    ∷ structure (codes "C") (of [] (Tagged 1) ∷ of [] (Tagged 3) ∷ [])
    ∷ structure (codes "D") (of (codes "k") Char ∷ of (codes "a") (Tagged 0) ∷ [])
    ∷ union_of (codes "U") (of (codes "c") (Array Char 5) ∷ of (codes "n") Int ∷ [])
    ∷ bodiless (codes "E") false
    ∷ []

-- struct Node { int value; struct Node *next; }; with another name for its last member in the second
-- module, and behind another structure in the third
abbrev pub node_with : (last : List ℕ) → (number : ℕ) → TagTree
node_with last number = structure (codes "Node") (of (codes "value") Int ∷ of last (Pointer (Tagged number)) ∷ [])

abbrev pub first_module : Tags
first_module = node_with (codes "next") 0 ∷ bodiless (codes "Lock") true ∷ []

abbrev pub second_module : Tags
second_module = node_with (codes "to") 0 ∷ structure (codes "Lock") (of (codes "held") Int ∷ []) ∷ []

abbrev pub third_module : Tags
third_module = bodiless (codes "Lock") false ∷ node_with (codes "next") 1 ∷ []

pub record Layouts : Type 0 where
  pub char_int_short : layout shapes (Tagged 0) ≡ extent_is 12 4
  pub inner : layout shapes (Tagged 2) ≡ extent_is 32 4
  pub union : layout shapes (Tagged 4) ≡ extent_is 8 4
  pub array : layout shapes (Array (Tagged 0) 3) ≡ extent_is 36 4
  pub bodiless_has_none : layout shapes (Array (Tagged 5) 3) ≡ None
  pub function_has_none : layout shapes (Function Int types.none) ≡ None
  pub own_member : find_member shapes 0 (codes "s") ≡ At 8 0 2 Short
  pub promoted_member : find_member shapes 2 (codes "n") ≡ At 8 0 1 Int
  pub two_at_a_level : find_member shapes 2 (codes "k") ≡ Ambiguous
  pub not_through_names : find_member shapes 3 (codes "n") ≡ Missing
  pub no_body : find_member shapes 5 (codes "n") ≡ Incomplete
  pub substructure : find_substructure shapes 2 0 ≡ One 4
  pub no_substructure : find_substructure shapes 0 2 ≡ Nowhere

pub record WordOperations : Type 0 where
  pub least_by_minus_one : word_operation operator.Div false (2 ^ 31) (2 ^ 32 - 1) ≡ Err Divide
  pub least_by_most : word_operation operator.Div true (2 ^ 31) (2 ^ 32 - 1) ≡ Ok 0
  pub by_zero : word_operation operator.Rem true 7 0 ≡ Err Divide
  pub truncates : word_operation operator.Div false (2 ^ 32 - 7) 2 ≡ Ok (2 ^ 32 - 3)
  pub remainder_has_the_sign : word_operation operator.Rem false (2 ^ 32 - 7) 2 ≡ Ok (2 ^ 32 - 1)
  pub far_shift : word_operation operator.Shl false 1 32 ≡ Err Shift
  pub keeps_the_sign : word_operation operator.Shr false (2 ^ 32 - 8) 1 ≡ Ok (2 ^ 32 - 4)
  pub negative_is_less : word_operation operator.Lt false (2 ^ 32 - 1) 1 ≡ Ok 1
  pub most_is_not_less : word_operation operator.Lt true (2 ^ 32 - 1) 1 ≡ Ok 0
  pub sign_of_a_char : narrowed Char 200 ≡ 2 ^ 32 - 56
  pub unsigned_char : narrowed UChar 456 ≡ 200

pub record Agreements : Type 0 where
  pub other_numbers : agrees first_module third_module (Pointer (Tagged 0)) (Pointer (Tagged 1)) ≡ true
  pub renamed_member : agrees first_module second_module (Pointer (Tagged 0)) (Pointer (Tagged 0)) ≡ false
  pub marked_and_bodiless : agrees first_module third_module (Tagged 1) (Tagged 0) ≡ true
  pub marked_and_complete : agrees first_module second_module (Tagged 1) (Tagged 1) ≡ false
  pub other_count : agrees first_module second_module (Array Int 3) (Array Int 4) ≡ false
