-- The structures that the tests' types name.
use Rattle.std.specs.Prelude.{false, [], ◌∷◌, None, codes}
use Rattle.p9_lang.specs.Types.{Int, TagTree, Tags}
use Rattle.p9_lang.specs.LayoutExamples.{of, structure}

-- struct S { int k; }
abbrev pub complete_tag : TagTree
complete_tag = structure (codes "S") (of (codes "k") Int ∷ [])

-- struct Q;
abbrev pub incomplete_tag : TagTree
incomplete_tag = record { is_union = false; name = codes "Q"; members = None; is_marked = false }

abbrev pub example_tags : Tags
example_tags = complete_tag ∷ incomplete_tag ∷ []
