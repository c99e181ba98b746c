-- The rules that a conversion breaks, by what is told of it.
use Rattle.std.proofs.Common.{◌≡◌, ◌⊎◌, inl, inr, ℕ, List, [], ◌∷◌, Option, refl, sym, ap, ◌∙◌}
use Rattle.p9_lang.specs.Types.{TypeTree, Tags}
use Rattle.p9_lang.specs.Conversions.{Conversion}
use Rattle.p9_lang.specs.Conversions as conversions
use Rattle.p9_lang.specs.Rules.{Rule, Ambiguous, BadAssign}
use Rattle.p9_lang.specs.Expressions.{target_name, conversion_broken}
use Rattle.p9_types.specs.declared.converting.Conv.{Conv}
use Rattle.p9_types.specs.declared.converting.Conv.TheVariants as conv
use Rattle.p9_types.specs.Converted.{told_conversion}
use Rattle.p9_operand.specs.Least.{least}

abbrev pub told_broken : Tags → (to : TypeTree) → Conv → List Rule
told_broken tags to conv.Same = []
told_broken tags to conv.Integer = []
told_broken tags to conv.Null = []
told_broken tags to (conv.Inner offset) = []
told_broken tags to conv.Ambiguous = Ambiguous (target_name tags to) ∷ []
told_broken tags to conv.No = BadAssign ∷ []

broken_as_told : (tags : Tags) (to : TypeTree) (c : Conversion) → told_broken tags to (told_conversion c) ≡ conversion_broken tags to c
broken_as_told tags to conversions.Same = refl
broken_as_told tags to conversions.Integer = refl
broken_as_told tags to conversions.Null = refl
broken_as_told tags to (conversions.Inner offset) = refl
broken_as_told tags to conversions.Ambiguous = refl
broken_as_told tags to conversions.No = refl

pub least_told : (tags : Tags) (to : TypeTree) (c : Conversion) (answer : Conv) (rules : List Rule) → answer ≡ told_conversion c → told_broken tags to answer ≡ rules
    → least rules ≡ least (conversion_broken tags to c)
least_told tags to c answer rules e f = ap least (sym f ∙ ap (told_broken tags to) e ∙ broken_as_told tags to c)

-- the answers that break nothing
abbrev pub IsSilent : Conv → Type 0
IsSilent answer = (answer ≡ conv.Same) ⊎ (answer ≡ conv.Integer) ⊎ (answer ≡ conv.Null) ⊎ ((offset : Option ℕ) × (answer ≡ conv.Inner offset))

pub silent : (tags : Tags) (to : TypeTree) (answer : Conv) → IsSilent answer → told_broken tags to answer ≡ []
silent tags to answer (inl e) = ap (told_broken tags to) e
silent tags to answer (inr (inl e)) = ap (told_broken tags to) e
silent tags to answer (inr (inr (inl e))) = ap (told_broken tags to) e
silent tags to answer (inr (inr (inr e))) = ap (told_broken tags to) e.1
