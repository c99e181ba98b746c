-- Values that are tested, switched on or returned.
use Rattle.std.proofs.Common.{◌≡◌, ◌≤◌, ◌<◌, ◌||◌, List, [], ◌∷◌, length, get_or, Some, refl, sym, ap, arith}
use Rattle.p9_lang.specs.Types.{TypeTree, Void, Char, UChar, Short, UShort, Int, UInt, Long, ULong, Pointer, Array, Function, Tagged, Tags}
use Rattle.p9_lang.specs.Conversions.{is_integer, is_scalar, is_array, is_function, decayed}
use Rattle.p9_lang.specs.Rules.{Malformed}
use Rattle.p9_lang.specs.Parts as parts
use Rattle.p9_lang.specs.Typing.{return_rules}
use Rattle.p9_parts.specs.declared.part.Part.{Part}
use Rattle.p9_parts.specs.Told.{part_of, parts_of}

pub scalar_value : (t : TypeTree) → (is_scalar t || (is_array t || is_function t)) ≡ is_scalar (decayed t)
scalar_value Void = refl
scalar_value Char = refl
scalar_value UChar = refl
scalar_value Short = refl
scalar_value UShort = refl
scalar_value Int = refl
scalar_value UInt = refl
scalar_value Long = refl
scalar_value ULong = refl
scalar_value (Pointer t) = refl
scalar_value (Array t n) = refl
scalar_value (Function t ts) = refl
scalar_value (Tagged i) = refl

pub integer_value : (t : TypeTree) → is_integer t ≡ is_integer (decayed t)
integer_value Void = refl
integer_value Char = refl
integer_value UChar = refl
integer_value Short = refl
integer_value UShort = refl
integer_value Int = refl
integer_value UInt = refl
integer_value Long = refl
integer_value ULong = refl
integer_value (Pointer t) = refl
integer_value (Array t n) = refl
integer_value (Function t ts) = refl
integer_value (Tagged i) = refl

pub nothing_returned : (tags : Tags) (t : TypeTree) (ps : List Part) → length ps < 1 → return_rules tags (Some t) (parts_of ps) ≡ return_rules tags (Some t) []
nothing_returned tags t [] lt = refl
nothing_returned tags t (p ∷ ps) lt = absurd (omega arith)

pub one_returned : (tags : Tags) (t : TypeTree) (ps : List Part) (p : Part) → length ps ≡ 1 → p ≡ get_or ps 0 p
    → return_rules tags (Some t) (parts_of ps) ≡ return_rules tags (Some t) (part_of p ∷ [])
one_returned tags t [] p e f = absurd (omega arith)
one_returned tags t (q ∷ []) p e f = ap (λ r. return_rules tags (Some t) (part_of r ∷ [])) (sym f)
one_returned tags t (q ∷ (r ∷ ps)) p e f = absurd (omega arith)

several : (tags : Tags) (t : TypeTree) (p q : parts.Part) (ps : List parts.Part) → return_rules tags (Some t) (p ∷ (q ∷ ps)) ≡ Malformed ∷ []
several tags t (parts.Value o) q ps = refl
several tags t (parts.Declarator steps) q ps = refl
several tags t (parts.Object type steps last role) q ps = refl
several tags t (parts.Members members) q ps = refl
several tags t (parts.Enumerator name value) q ps = refl
several tags t (parts.Parameter type) q ps = refl
several tags t (parts.NamedType type) q ps = refl
several tags t (parts.Braced count) q ps = refl
several tags t (parts.Filled next) q ps = refl
several tags t (parts.CaseLabel word) q ps = refl
several tags t parts.DefaultLabel q ps = refl
several tags t parts.Statement q ps = refl

pub several_returned : (tags : Tags) (t : TypeTree) (ps : List Part) → 2 ≤ length ps → return_rules tags (Some t) (parts_of ps) ≡ Malformed ∷ []
several_returned tags t [] le = absurd (omega arith)
several_returned tags t (p ∷ []) le = absurd (omega arith)
several_returned tags t (p ∷ (q ∷ ps)) le = several tags t (part_of p) (part_of q) (parts_of ps)
