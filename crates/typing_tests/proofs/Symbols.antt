-- What the tests' arrays are.
use Rattle.std.proofs.Common.{◌≡◌, ◌<◌, ℕ, zero, suc, length, slice_index_or, List, [], ◌∷◌, ◌++◌, All, sym, ap, ◌∙◌, subst, arith}
use Rattle.p9_lang.specs.declared.types.CType.{CType}
use Rattle.p9_lang.specs.declared.types.CType.TheVariants as ctype
use Rattle.p9_lang.specs.Types.{TypeTree, Array, Int, type_of}
use Rattle.p9_types.proofs.Shapes.{type_of_int, type_of_array}
use Rattle.p9_tree.specs.declared.module.TSym.{TSym}

abbrev pub IsWords : TSym → Type 0
IsWords s = type_of s.ty ≡ Array Int 4

pub of_words : (t : CType) → t ≡ ctype.Int → type_of (ctype.Array t 4) ≡ Array Int 4
of_words t e = type_of_array t 4 ∙ ap (λ (u : TypeTree). Array u 4) (ap type_of e ∙ type_of_int)

only : (s : TSym) → IsWords s → (k : ℕ) (d : TSym) → k < length (s ∷ []) → IsWords (slice_index_or (s ∷ []) k d)
only s e zero d lt = e
only s e (suc k) d lt = absurd (omega arith)

pub one_symbol : (none a : List TSym) (s : TSym) → none ≡ [] → a ≡ none ++ s ∷ [] → IsWords s → All IsWords a
one_symbol none a s e f g = subst (All IsWords) (sym (f ∙ ap (λ l. l ++ s ∷ []) e)) (only s g)
