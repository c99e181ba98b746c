-- The automatics are placed in the frame.
use Rattle.std.proofs.Common.{ℕ, zero, suc, ◌+◌, ◌%◌, ◌≡◌, inl, inr, ◌≤◌, max, Some, None, ◌∙◌, arith, List, [], ◌∷◌, slice_get, slice_index, map}
use Rattle.std.proofs.lemmas.List.{length-map}
use Rattle.p9_abs.specs.declared.instructions.Abs.{Abs}
use Rattle.p9_abs.specs.declared.instructions.AFunction.{AFunction}
use Rattle.p9_abs.specs.Validity.{IsFrame}
use Rattle.p9_abs.specs.OneCall.{UsesWord, ArePlaced}
use Rattle.p9_frame.specs.Sizes.{rounded, greatest_named, first_offset, offsets_from, end_from, stated_sum}
use Rattle.p9_frame.proofs.Offsets.{offsets-length, offset-facts, offset-order, first-fourfold, first-above, end-fourfold, end-bound, named-bound}

some-get : (xs : List ℕ) (v p : ℕ) → slice_get (map (λ x. Some x) xs) v ≡ Some (Some p) → slice_get xs v ≡ Some p
some-get [] v p e = absurd (let x : None ≡ Some (Some p) = e in cc)
some-get (x ∷ xs) zero p e = cc
some-get (x ∷ xs) (suc v) p e = some-get xs v p e

uses-bound : (code : List Abs) (i o : ℕ) → UsesWord code i o → o ≤ max 4 (greatest_named code)
uses-bound code i o (inl u) = omega (arith, u.1)
uses-bound code i o (inr u) = let q = named-bound code i o u in omega (arith, q)

module _ (f : AFunction) where
  abbrev first : ℕ
  first = first_offset (greatest_named f.code)

  abbrev offsets : List ℕ
  offsets = offsets_from (first_offset (greatest_named f.code)) f.autos

  abbrev frame : ℕ
  frame = end_from (first_offset (greatest_named f.code)) f.autos

  facts : (v p : ℕ) → slice_get (map (λ x. Some x) offsets) v ≡ Some (Some p) → (p % 4 ≡ 0) × (first ≤ p) × (p + rounded (slice_index f.autos v) ≤ frame)
  facts v p e = offset-facts first f.autos v p (first-fourfold (greatest_named f.code)) (some-get offsets v p e)

  up : (n : ℕ) → n ≤ rounded n
  up n = omega arith

  word-below : (i o : ℕ) → UsesWord f.code i o → o + 4 ≤ first
  word-below i o u = first-above (greatest_named f.code) o (uses-bound f.code i o u)

  pub are-placed : ArePlaced f frame (map (λ x. Some x) offsets)
  are-placed = record {
    count = length-map offsets (λ x. Some x) ∙ offsets-length first f.autos;
    fourfold = λ v p e. (facts v p e).0;
    within = λ v p e. let w = facts v p e in let h = up (slice_index f.autos v) in let k = first-above (greatest_named f.code) 0 (omega arith) in let a = w.1 in let b = w.2 in (omega (arith, a, k), omega (arith, b, h));
    disjoint = λ v w p q l e d.
        let h = offset-order first f.autos v w p q (first-fourfold (greatest_named f.code)) l (some-get offsets v p e) (some-get offsets w q d) in
        let k = up (slice_index f.autos v) in
        inl (omega (arith, h, k));
    words = λ i o r u. let h = word-below i o u in omega (arith, h);
    apart = λ i o v p r u e. let h = word-below i o u in let w = (facts v p e).1 in inl (omega (arith, h, w));
  }

  pub is-frame : stated_sum f ≤ 16777212 → IsFrame frame
  is-frame room = (end-fourfold (greatest_named f.code) f.autos, (let h = end-bound (greatest_named f.code) f.autos in omega (arith, h, room)))

  pub frame-bound : frame ≤ stated_sum f
  frame-bound = end-bound (greatest_named f.code) f.autos

  pub frame-some : 4 ≤ frame
  frame-some = let k = first-above (greatest_named f.code) 0 (omega arith) in omega (arith, k)

  -- the frame ends with a spare word
  pub spare-word : (v p : ℕ) → slice_get offsets v ≡ Some p → p + slice_index f.autos v ≤ frame
  spare-word v p e = let w = (offset-facts first f.autos v p (first-fourfold (greatest_named f.code)) e).2 in let h = up (slice_index f.autos v) in omega (arith, w, h)
