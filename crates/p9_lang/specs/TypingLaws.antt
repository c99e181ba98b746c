-- Laws of typing.
use Rattle.std.specs.Prelude.{◌≡◌, ℕ, List, length, Some, Ok}
use Rattle.p9_lang.specs.Trees.{Syntax, SyntaxRow, nodes_of_row}
use Rattle.p9_lang.specs.Types.{TypeTree}
use Rattle.p9_lang.specs.Layout.{Extent, layout}
use Rattle.p9_lang.specs.Scopes.{Known}
use Rattle.p9_lang.specs.Parts.{Context, Part}
use Rattle.p9_lang.specs.Typing.{judge}
use Rattle.p9_lang.specs.Files.{Typing, typed_file}
use Rattle.p9_lang.specs.TagRules.{NoneContainsItself}

-- a file that is typed has one type and one meaning for each of its nodes
abbrev pub EachNodeIsTyped : Type 0
EachNodeIsTyped =
    (items : SyntaxRow) (marks : List (List ℕ)) (t : Typing) → typed_file items marks ≡ Ok t
    → (length t.types ≡ nodes_of_row items) × (length t.means ≡ nodes_of_row items)

-- a type that is complete where a node is typed has the same size and alignment behind the node, so
-- what `sizeof` gives while a file is typed is its value in the module
abbrev pub SizesStay : Type 0
SizesStay =
    (t : Syntax) (c : Context) (s : Known) (r : Part × Known) (type : TypeTree) (e : Extent)
    → judge t c s ≡ Ok r → layout s.tags type ≡ Some e → layout r.1.tags type ≡ Some e

-- no structure of a file that is typed contains itself, so each has the size that its members give
abbrev pub StructuresEnd : Type 0
StructuresEnd =
    (items : SyntaxRow) (marks : List (List ℕ)) (t : Typing) → typed_file items marks ≡ Ok t → NoneContainsItself t.tags
