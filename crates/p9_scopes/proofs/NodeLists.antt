-- Lists of types and of meanings.
use Rattle.std.proofs.Common.{◌≡◌, ◌≤◌, arith, ℕ, zero, suc, List, [], ◌∷◌, ◌++◌, length, slice_get, slice_set, refl, ap, ◌∙◌}
use Rattle.std.proofs.Common.{Bool, false, ◌==◌}
use Rattle.std.proofs.lemmas.Bool.Decides.{nat_tests}
use Rattle.std.specs.Option.{option_map}
use Rattle.p9_lang.specs.Names.{is_nameless}
use Rattle.p9_lang.specs.declared.types.CType.{CType}
use Rattle.p9_lang.specs.declared.module.Bind.{Bind}
use Rattle.p9_lang.specs.Types.{type_of, types_of, meant, all_meant}

pub types_end : (ts : List CType) (t : CType) → types_of (ts ++ t ∷ []) ≡ types_of ts ++ type_of t ∷ []
types_end [] t = refl
types_end (u ∷ ts) t = ap (λ l. type_of u ∷ l) (types_end ts t)

pub means_end : (ms : List Bind) (m : Bind) → all_meant (ms ++ m ∷ []) ≡ all_meant ms ++ meant m ∷ []
means_end [] m = refl
means_end (u ∷ ms) m = ap (λ l. meant u ∷ l) (means_end ms m)

pub types_length : (ts : List CType) → length (types_of ts) ≡ length ts
types_length [] = refl
types_length (t ∷ ts) = ap suc (types_length ts)

pub types_set : (ts : List CType) (i : ℕ) (t : CType) → types_of (slice_set ts i t) ≡ slice_set (types_of ts) i (type_of t)
types_set [] zero t = refl
types_set [] (suc i) t = refl
types_set (u ∷ ts) zero t = refl
types_set (u ∷ ts) (suc i) t = ap (λ l. type_of u ∷ l) (types_set ts i t)

pub means_set : (ts : List Bind) (i : ℕ) (t : Bind) → all_meant (slice_set ts i t) ≡ slice_set (all_meant ts) i (meant t)
means_set [] zero t = refl
means_set [] (suc i) t = refl
means_set (u ∷ ts) zero t = refl
means_set (u ∷ ts) (suc i) t = ap (λ l. meant u ∷ l) (means_set ts i t)

pub types_set_past : (ts : List CType) (i : ℕ) (t : CType) → length ts ≤ i → types_of ts ≡ slice_set (types_of ts) i (type_of t)
types_set_past [] zero t h = refl
types_set_past [] (suc i) t h = refl
types_set_past (u ∷ ts) zero t h = absurd (omega arith)
types_set_past (u ∷ ts) (suc i) t h = ap (λ l. type_of u ∷ l) (types_set_past ts i t (omega arith))

pub means_set_past : (ts : List Bind) (i : ℕ) (t : Bind) → length ts ≤ i → all_meant ts ≡ slice_set (all_meant ts) i (meant t)
means_set_past [] zero t h = refl
means_set_past [] (suc i) t h = refl
means_set_past (u ∷ ts) zero t h = absurd (omega arith)
means_set_past (u ∷ ts) (suc i) t h = ap (λ l. meant u ∷ l) (means_set_past ts i t (omega arith))

pub means_at : (ts : List Bind) (i : ℕ) → option_map meant (slice_get ts i) ≡ slice_get (all_meant ts) i
means_at [] zero = refl
means_at [] (suc i) = refl
means_at (t ∷ ts) zero = refl
means_at (t ∷ ts) (suc i) = means_at ts i

pub nameless_by_length : (xs : List ℕ) (b : Bool) → b ≡ (length xs == 0) → b ≡ is_nameless xs
nameless_by_length [] b e = e
nameless_by_length (x ∷ xs) b e = e ∙ by
  where
    by : (length (x ∷ xs) == 0) ≡ false
    by = grind (arith, nat_tests)
