-- A row that is known has symbols for all its names and texts.
use Rattle.std.proofs.Common.{◌≡◌, Bool, true, ◌&&◌, refl}
use Rattle.p9_lang.specs.declared.tree.Kind.{Kind}
use Rattle.p9_lang.specs.declared.tree.Kind.TheVariants as kind
use Rattle.p9_lang.specs.Trees.{node, none, more}
use Rattle.p9_lang.specs.Modules.{Label, Typed, TypedRow}
use Rattle.p9_lower.specs.Names.{Setting}
use Rattle.p9_sound.specs.Made.{NodeIsKnown, TreeIsKnown, RowIsKnown}
use Rattle.p9_firsts.specs.Whole.{node_is_found, names_are_found, row_is_found}
use Rattle.p9_firsts.proofs.Known.{known_names_are_found}
use Rattle.p9_known.specs.Laws.{KnownRowsAreFound}

both : (a b : Bool) → a ≡ true → b ≡ true → (a && b) ≡ true
both true b e f = f
both a b e f = cc

node_found : (setting : Setting) (k : Kind) (label : Label) (parts : TypedRow) → NodeIsKnown setting k label parts
    → node_is_found setting k label.means ≡ true
node_found setting (kind.Name x) label parts h = known_names_are_found setting label.type label.means h.0
node_found setting (kind.Text texts) label parts h = known_names_are_found setting label.type label.means h
node_found setting k label parts h = refl

mutual
  tree_found : (setting : Setting) (t : Typed) → TreeIsKnown setting t → names_are_found setting t ≡ true
  tree_found setting (node k label parts) h =
      both (node_is_found setting k label.means) (row_is_found setting parts) (node_found setting k label parts h.0) (row_found setting parts h.1)

  row_found : (setting : Setting) (ts : TypedRow) → RowIsKnown setting ts → row_is_found setting ts ≡ true
  row_found setting none h = refl
  row_found setting (more t ts) h =
      both (names_are_found setting t) (row_is_found setting ts) (tree_found setting t h.0) (row_found setting ts h.1)

pub known_rows_are_found : KnownRowsAreFound
known_rows_are_found setting row h = row_found setting row h
