-- Arrays of arrays, as their elements and the count of these.
use Rattle.std.proofs.Common.{◌≡◌, ◌≤◌, ℕ, ◌*◌, false, refl, sym, ap, ◌∙◌, arith}
use Rattle.p9_lang.specs.Types.{TypeTree, Array}
use Rattle.p9_lang.specs.Conversions.{is_array}
use Rattle.p9_types.specs.Capping.{capped, innermost, count_in}
use Rattle.p9_types.specs.Reaching.{inner_of}
use Rattle.p9_types.proofs.Arithmetic.{capped_product}

pub inner_step : (t u : TypeTree) (n : ℕ) → t ≡ Array u n → innermost t ≡ innermost u
inner_step t u n e = ap innermost e

pub count_step : (t u : TypeTree) (n count next : ℕ) → t ≡ Array u n → next ≡ capped (count * n)
    → capped (next * count_in u) ≡ capped (count * count_in t)
count_step t u n count next e f =
    ap (λ k. capped (k * count_in u)) f
    ∙ capped_product (count * n) (count_in u)
    ∙ ap capped (turned count n (count_in u))
    ∙ ap (λ x. capped (count * count_in x)) (sym e)
  where
    turned : (a b c : ℕ) → a * b * c ≡ a * (c * b)
    turned a b c = omega arith

pub no_array_inner : (t : TypeTree) → is_array t ≡ false → innermost t ≡ t
no_array_inner (Array t n) e = cc
no_array_inner _ e = refl

pub no_array_count : (t : TypeTree) → is_array t ≡ false → count_in t ≡ 1
no_array_count (Array t n) e = cc
no_array_count _ e = refl

pub innermost_inner : (t : TypeTree) → inner_of (innermost t) ≡ inner_of t
innermost_inner (Array t n) = innermost_inner t
innermost_inner _ = refl

pub count_last : (count k whole : ℕ) → count ≤ 16777217 → k ≡ 1 → capped (count * k) ≡ capped whole → count ≡ capped whole
count_last count k whole le e f = let g : capped (count * 1) ≡ capped whole = ap (λ x. capped (count * x)) (sym e) ∙ f in omega arith
