-- The first contents of a module of the program.
use Rattle.std.proofs.Common.{◌≡◌, ℕ, ◌+◌, ◌&&◌, List, refl, ap, ◌∙◌}
use Rattle.p9_lang.specs.Trees.{node, none, more, Syntax, SyntaxRow, nodes_of, row_of}
use Rattle.p9_lang.specs.Types.{TypeTree, Meant, types_of, all_meant}
use Rattle.p9_lang.specs.Files.{typing_in}
use Rattle.p9_lang.specs.Modules.{typed, typed_row, source_of}
use Rattle.p9_lang.proofs.Counting.{structures_end}
use Rattle.p9_firsts.specs.Whole.{text_has_bytes, texts_have_bytes, row_has_bytes}
use Rattle.p9_firsts.specs.Laws.{FirstsAreSound}
use Rattle.p9_firsts.proofs.Symbols.{contents_are_sound}
use Rattle.p9_firsts.proofs.Full.{bodies_have_members}
use Rattle.p9_firsts.proofs.Texts.{texts_are_typed}
use Rattle.p9_firsts.proofs.Objects.{objects_are_complete}

-- labels change no texts
mutual
  typed_bytes : (types : List TypeTree) (means : List Meant) (first : ℕ) (t : Syntax) → texts_have_bytes (typed types means first t) ≡ texts_have_bytes t
  typed_bytes types means first (node k at parts) = ap (λ b. text_has_bytes k && b) (typed_row_bytes types means first parts)

  typed_row_bytes : (types : List TypeTree) (means : List Meant) (first : ℕ) (ts : SyntaxRow) → row_has_bytes (typed_row types means first ts) ≡ row_has_bytes ts
  typed_row_bytes types means first none = refl
  typed_row_bytes types means first (more t ts) =
      ap (λ b. b && row_has_bytes (typed_row types means (first + nodes_of t) ts)) (typed_bytes types means first t)
      ∙ ap (λ b. texts_have_bytes t && b) (typed_row_bytes types means (first + nodes_of t) ts)

pub firsts_are_sound : FirstsAreSound
firsts_are_sound m typing agree b g =
    contents_are_sound (source_of m) (structures_end (row_of m.tree.items) m.tree.marks (typing_in m) typing)
    (bodies_have_members (row_of m.tree.items) m.tree.marks (typing_in m) typing)
    (texts_are_typed (row_of m.tree.items) m.tree.marks (typing_in m) typing)
    (objects_are_complete (row_of m.tree.items) m.tree.marks (typing_in m) typing) agree
    (typed_row_bytes (types_of m.types) (all_meant m.binds) 0 (row_of m.tree.items) ∙ b) g
