-- Laws of signatures.
use Rattle.std.specs.Prelude.{◌≡◌, ◌↔◌, ℕ, List, Some, IsSome}
use Rattle.p9_lang.specs.Types.{TypeTree, Tags}
use Rattle.p9_lang.specs.Agreement.{Agree}
use Rattle.p9_lang.specs.TagRules.{AreValid, ArePlainFor}
use Rattle.p9_sig.specs.Texts.{signature_text}
use Rattle.p9_sig.specs.TypesInRange.{IsOver}

-- over valid structures each type has a text
abbrev pub TypesHaveTexts : Type 0
TypesHaveTexts = (tags : Tags) (type : TypeTree) → AreValid tags → IsOver tags type → IsSome (signature_text tags type)

-- A text tells its type, over valid structures that their tags tell apart: another type, over the
-- like, has the same text exactly where the two agree to every depth.
abbrev pub TellsType : Tags → TypeTree → List ℕ → Type 0
TellsType tags type text =
    (others : Tags) (other : TypeTree) (other_text : List ℕ)
    → ArePlainFor tags type → AreValid others → IsOver others other → ArePlainFor others other
    → signature_text others other ≡ Some other_text
    → (text ≡ other_text) ↔ Agree tags others type other

abbrev pub TextsTellTypes : Type 0
TextsTellTypes =
    (tags : Tags) (type : TypeTree) (text : List ℕ)
    → AreValid tags → IsOver tags type → signature_text tags type ≡ Some text → TellsType tags type text
