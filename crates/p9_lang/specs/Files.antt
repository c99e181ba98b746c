-- A file's module: the types and meanings that typing gives its nodes, its structures and unions,
-- and its static names; or the rule that it breaks first.
use Rattle.std.specs.Prelude.{◌≡◌, ℕ, zero, suc, true, not, ◌&&◌, if◌then◌else◌, List, [], ◌∷◌, ◌++◌, reverse, Result, Ok}
use Rattle.p9_lang.specs.declared.tree.Kind.TheVariants as kind
use Rattle.p9_lang.specs.declared.module.Module.{Module}
use Rattle.p9_lang.specs.Names.{is_among}
use Rattle.p9_lang.specs.Trees.{node, none, more, Syntax, SyntaxRow, row_of}
use Rattle.p9_lang.specs.Types.{TypeTree, Meant, Tags, types_of, all_meant, tags_of}
use Rattle.p9_lang.specs.Rules.{Broken, and_then}
use Rattle.p9_lang.specs.Scopes.{Known, Declared, TagName, is_enumeration, known_first, innermost}
use Rattle.p9_lang.specs.Declarators.{is_outer}
use Rattle.p9_lang.specs.Parts.{is_declarator, kind_at}
use Rattle.p9_lang.specs.Typing.{judge_items}
use Rattle.p9_lang.specs.Modules.{Source, typed_row}

-- the functions that have bodies, by their names

abbrev mutual
  pub declarator_name : Syntax → List ℕ
  declarator_name (node (kind.DeclName x) at parts) = x
  declarator_name (node k at parts) = first_name parts

  pub first_name : SyntaxRow → List ℕ
  first_name none = []
  first_name (more t ts) = declarator_name t

abbrev pub function_name : SyntaxRow → List ℕ
function_name none = []
function_name (more t ts) = if is_declarator (kind_at t) then declarator_name t else function_name ts

abbrev pub body_name : Syntax → List (List ℕ)
body_name (node (kind.Function spec) at parts) = function_name parts ∷ []
body_name item = []

abbrev pub names_with_bodies : SyntaxRow → List (List ℕ)
names_with_bodies none = []
names_with_bodies (more item items) = body_name item ++ names_with_bodies items

-- `#pragma incomplete` marks the tags of file scope with these names

abbrev pub mark_tag : ℕ → Tags → Tags
mark_tag zero [] = []
mark_tag zero (tag ∷ tags) = record tag { is_marked = true } ∷ tags
mark_tag (suc i) [] = []
mark_tag (suc i) (tag ∷ tags) = tag ∷ mark_tag i tags

abbrev pub mark_tags : (marks : List (List ℕ)) → List TagName → Tags → Tags
mark_tags marks [] tags = tags
mark_tags marks (t ∷ ts) tags =
    if is_among marks t.name && not (is_enumeration t.keyword) then mark_tag t.number (mark_tags marks ts tags)
    else mark_tags marks ts tags

-- the names of file scope that are declared static, each once, by their first declarations

abbrev pub static_names : (so_far : List (List ℕ)) → List Declared → List (List ℕ)
static_names so_far [] = []
static_names so_far (d ∷ ds) =
    if d.is_static && (is_outer d.means && not (is_among so_far d.name)) then d.name ∷ static_names (d.name ∷ so_far) ds
    else static_names so_far ds

-- what a module has beside its tree
pub record Typing : Type 0 where
  pub types : List TypeTree
  pub means : List Meant
  pub tags : Tags
  pub statics : List (List ℕ)

abbrev pub typing_of : (marks : List (List ℕ)) → Known → Typing
typing_of marks s = record {
  types = s.types;
  means = s.means;
  tags = mark_tags marks (innermost s.tag_names) s.tags;
  statics = static_names [] (reverse (innermost s.names));
}

abbrev pub typed_file : (items : SyntaxRow) (marks : List (List ℕ)) → Result Typing Broken
typed_file items marks = and_then (judge_items items (known_first (names_with_bodies items))) (λ s. Ok (typing_of marks s))

-- A module is valid where its tree breaks no rule and all else is what typing gives.

abbrev pub typing_in : Module → Typing
typing_in m = record { types = types_of m.types; means = all_meant m.binds; tags = tags_of m.tags.list; statics = m.statics }

abbrev pub IsTyped : Module → Type 0
IsTyped m = typed_file (row_of m.tree.items) m.tree.marks ≡ Ok (typing_in m)

-- the module of a tree, as plain data
abbrev pub source_with : SyntaxRow → Typing → Source
source_with items t = record { items = typed_row t.types t.means 0 items; tags = t.tags; statics = t.statics }

abbrev pub module_of : (items : SyntaxRow) (marks : List (List ℕ)) → Result Source Broken
module_of items marks = and_then (typed_file items marks) (λ t. Ok (source_with items t))
