-- Structures that tests are run on.
use Rattle.std.specs.Prelude.{Bool, false, [], ◌∷◌, Some, codes}
use Rattle.p9_lang.specs.Types.{Char, Short, Int, Tagged, TagTree, Tags}
use Rattle.p9_lang.specs.LayoutExamples.{of, structure}

-- struct { char c; int n; short s; }, or a union of these
abbrev pub sample_tag : (is_union : Bool) → TagTree
sample_tag is_union = record { is_union = is_union; name = []; members = Some (of (codes "c") Char ∷ of (codes "n") Int ∷ of (codes "s") Short ∷ []); is_marked = false }

abbrev pub sample : (is_union : Bool) → Tags
sample is_union = sample_tag is_union ∷ []

-- struct A { int k; }; struct B { int k; }; struct C { struct A; struct B; };

abbrev pub innermost_tag : TagTree
innermost_tag = structure [] (of (codes "k") Int ∷ [])

abbrev pub enclosing_tag : TagTree
enclosing_tag = structure [] (of [] (Tagged 0) ∷ of [] (Tagged 1) ∷ [])

abbrev pub nested : Tags
nested = innermost_tag ∷ innermost_tag ∷ enclosing_tag ∷ []
