-- Brackets and enumeration constants whose last part is a value.
use Rattle.std.specs.Prelude.{ℕ, List, [], ◌∷◌, Some, Err}
use Rattle.p9_lang.specs.Types.{Int, Nothing}
use Rattle.p9_lang.specs.Constants.{Constant}
use Rattle.p9_lang.specs.Rules.{Malformed, at_node}
use Rattle.p9_lang.specs.Scopes.{Known, next_node}
use Rattle.p9_lang.specs.Declarators.{Sized, Step}
use Rattle.p9_lang.specs.Parts.{Part, Judged, Enumerator}
use Rattle.p9_lang.specs.Typing.{has, stepped}

-- brackets with a length, behind which no part stands
abbrev pub sized_alone : List Step → Constant → List Part → Known → Judged
sized_alone steps length [] s = stepped steps (Sized length) s
sized_alone steps length (part ∷ behind) s = Err (at_node (next_node s) Malformed)

-- a constant with a value, likewise
abbrev pub enumerator_alone : List ℕ → Constant → List Part → Known → Judged
enumerator_alone x value [] s = has [] Int Nothing (Enumerator x (Some value)) s
enumerator_alone x value (part ∷ behind) s = Err (at_node (next_node s) Malformed)
