-- The refusal comes exactly where there are too many words.
use Rattle.std.proofs.Common.{ℕ, ◌≡◌, ◌≢◌, ◌⊎◌, ◌≤◌, Result, Ok, Err, IsOk, IfOk, IfErr, refl, sym, ap, ◌∙◌, inl, inr, arith}
use Rattle.p9_text.specs.declared.weighing.ExpandFault.{ExpandFault}
use Rattle.p9_text.specs.declared.weighing.ExpandFault.TheVariants.{TextTooLarge, Memory}
use Rattle.p9_text.specs.Weights.{text_limit, IsTooLarge}

pub refused-exactly : (words : ℕ) (result : Result ℕ ExpandFault) → IfOk result (λ n. n ≡ words) → IfOk result (λ n. n ≤ text_limit) → IfErr result (IsTooLarge words) →
    (fault : ExpandFault) → fault ≢ Memory → IsTooLarge words fault → (result ≡ Err fault) ⊎ (result ≡ Err Memory)
refused-exactly words result h fits e Memory unlike f = absurd (unlike refl)
refused-exactly words (Ok n) h fits e (TextTooLarge m) unlike f = absurd (omega (arith, h, fits, f.0, f.1))
refused-exactly words (Err Memory) h fits e (TextTooLarge m) unlike f = inr refl
refused-exactly words (Err (TextTooLarge n)) h fits e (TextTooLarge m) unlike f = inl (ap (λ k. Err (TextTooLarge k)) (e.0 ∙ sym f.0))

pub weighed-exactly : (words : ℕ) (result : Result ℕ ExpandFault) → IfErr result (IsTooLarge words) → words ≤ text_limit → IsOk result ⊎ (result ≡ Err Memory)
weighed-exactly words (Ok n) e small = inl refl
weighed-exactly words (Err Memory) e small = inr refl
weighed-exactly words (Err (TextTooLarge n)) e small = absurd (omega (arith, e.0, e.1, small))
