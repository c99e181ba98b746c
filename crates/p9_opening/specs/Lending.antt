-- The names that a part's role may speak of.
use Rattle.std.specs.Prelude.{ℕ, Bool, true, false, ◌&&◌, if◌then◌else◌, List, Option, Some, None}
use Rattle.p9_lang.specs.declared.tree.Kind.{Kind}
use Rattle.p9_lang.specs.declared.tree.Kind.TheVariants as kind
use Rattle.p9_lang.specs.Types.{TypeTree}
use Rattle.p9_lang.specs.Parts.{Role, Fills, Part, Frame, member_names}
use Rattle.p9_lang.specs.Opening.{is_in_braces}

-- whether a node has a spec, whose braces are parts of the node
abbrev pub has_spec : Kind → Bool
has_spec (kind.Declaration spec inits) = true
has_spec (kind.Function spec) = true
has_spec (kind.Member spec) = true
has_spec (kind.Param spec) = true
has_spec (kind.NamedType spec) = true
has_spec k = false

-- those in the braces where the part stands in braces, else those of the node itself
abbrev pub lent_names : Kind → Frame → List Part → (names : List (List ℕ)) → List (List ℕ)
lent_names k f before names = if has_spec k && is_in_braces f before then member_names before else names

-- likewise for a node with a spec
abbrev pub braced_names : Frame → List Part → (names : List (List ℕ)) → List (List ℕ)
braced_names f before names = if is_in_braces f before then member_names before else names

-- the type of what a list fills, if that is known
abbrev pub listed_type : Role → Option TypeTree
listed_type (Fills type) = Some type
listed_type role = None
