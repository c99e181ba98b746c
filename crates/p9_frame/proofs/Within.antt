-- The points of regions are instructions of the code.
use Rattle.std.proofs.Common.{ℕ, ◌+◌, ◌==◌, ◌&&◌, ◌||◌, ◌≡◌, inl, inr, ◌<◌, nat_lt, Bool, true, Option, Some, None, option_and_then, refl, sym, ap, ◌∙◌, arith, List, [], ◌∷◌, length, slice_get, All}
use Rattle.std.proofs.lemmas.Bool.{false≢true, and_parts}
use Rattle.std.proofs.lemmas.Option.{slice_get_within}
use Rattle.p9_abs.specs.declared.instructions.Abs.{Abs}
use Rattle.p9_abs.specs.declared.instructions.AFunction.{AFunction}
use Rattle.p9_abs.specs.declared.regions.Region.{Region}
use Rattle.p9_abs.specs.declared.forms.Form.{Form}
use Rattle.p9_abs.specs.Forms.{decoded}
use Rattle.p9_abs.specs.Automatics.{form_at, holds_of, falls, goes_to, reads, writes, IsReadAlong}
use Rattle.p9_abs.specs.Regions.{IsPoint, IsRegion}
use Rattle.p9_homes.specs.Tables.{AreWithin}

holds-within : (code : List Abs) (i : ℕ) (test : Form → Bool) → holds_of test (form_at code i) ≡ true → i < length code
holds-within code i test h = by (slice_get code i) refl
  where
    by : (o : Option Abs) → slice_get code i ≡ o → i < length code
    by None e = absurd (false≢true (sym (ap (λ o. holds_of test (option_and_then decoded o)) e) ∙ h))
    by (Some a) e = slice_get_within code i a e

way-within : (f : AFunction) (v i : ℕ) (way : List ℕ) → IsReadAlong f v i way → i < length f.code
way-within f v i [] h = holds-within f.code i (reads v) h
way-within f v i (j ∷ js) h = holds-within f.code i (λ form. (falls form && (j == i + 1)) || goes_to j form) (and_parts (nat_lt j (length f.code)) _ h.1).1

point-within : (f : AFunction) (v i : ℕ) → IsPoint f v i → i < length f.code
point-within f v i (inl live) = way-within f v i live.0 live.1
point-within f v i (inr h) = holds-within f.code i (writes v) h

pub regions-within : (f : AFunction) (rs : List Region) (n : ℕ) → n ≡ length f.code → All (IsRegion f) rs → AreWithin n rs
regions-within f rs n e all k d l j x m = let h = point-within f _ _ ((all k d l).points j x m) in omega (arith, h, e)
