-- A text that is read item by item.
use Rattle.std.proofs.Common.{◌≡◌, ℕ, zero, suc, ◌+◌, ◌-◌, ◌≤◌, false, List, [], ◌∷◌, ◌++◌, length, drop, Result, Ok, Err, eqb, cond, refl, sym, ap, ◌∙◌, append_assoc, add-zero, take, get_or, ne_eqb, arith}
use Rattle.p9_lex.proofs.Slices.{slice_rest, slice_front}
use Rattle.p9_lex.specs.declared.broken.Break.{Break}
use Rattle.p9_lex.specs.declared.quoted.Item.{Item}
use Rattle.p9_lex.specs.declared.quoted.Text.{Text}
use Rattle.p9_lex.specs.Quoted.{quoted, text, with_byte, then_read}

-- bytes that are read already, in front of those that are still to come
abbrev pub with_bytes : List ℕ → Result Text Break → Result Text Break
with_bytes xs (Ok t) = Ok (record { bytes = xs ++ t.bytes; length = t.length })
with_bytes xs (Err e) = Err e

pub with_bytes_none : (answer : Result Text Break) → with_bytes [] answer ≡ answer
with_bytes_none (Ok t) = refl
with_bytes_none (Err e) = refl

with_bytes-append : (xs : List ℕ) (v : ℕ) (answer : Result Text Break) → with_bytes (xs ++ v ∷ []) answer ≡ with_bytes xs (with_byte v answer)
with_bytes-append xs v (Ok t) = ap (λ bs. Ok (record { bytes = bs; length = t.length })) (append_assoc xs (v ∷ []) t.bytes)
with_bytes-append xs v (Err e) = refl

-- bytes of an escape that is read are passed by
text-inside : (n k : ℕ) (s : List ℕ) → n ≤ length s → text n k s ≡ text 0 (k + n) (drop n s)
text-inside zero k s h = ap (λ j. text 0 j s) (sym (add-zero k))
text-inside (suc n) k [] h = absurd (omega (arith, h))
text-inside (suc n) k (b ∷ s) h =
    text-inside n (k + 1) s (omega (arith, h)) ∙ ap (λ j. text 0 j (drop n s)) (omega arith)

text_one : (sofar : List ℕ) (k b : ℕ) (s : List ℕ) (i : Item) → quoted k b s ≡ Ok i → eqb b 34 ≡ false → 1 ≤ i.length → i.length ≤ 1 + length s → with_bytes (sofar ++ i.value ∷ []) (text 0 (k + i.length) (drop i.length (b ∷ s))) ≡ with_bytes sofar (text 0 k (b ∷ s))
text_one sofar k b s i e plain some within =
    let n = i.length - 1 in
    let whole : i.length ≡ suc n = omega (arith, some) in
    let at_text : text 0 k (b ∷ s) ≡ with_byte i.value (text n (k + 1) s) = ap (λ c. cond c (Ok (record { bytes = []; length = k + 1 })) (then_read (quoted k b s) (λ j. with_byte j.value (text (j.length - 1) (k + 1) s)))) plain ∙ ap (λ r. then_read r (λ j. with_byte j.value (text (j.length - 1) (k + 1) s))) e in
    let place : k + 1 + n ≡ k + i.length = omega (arith, some) in
    let rest : drop n s ≡ drop i.length (b ∷ s) = sym (ap (λ m. drop m (b ∷ s)) whole) in
    let skipped : text n (k + 1) s ≡ text 0 (k + i.length) (drop i.length (b ∷ s)) = text-inside n (k + 1) s (omega (arith, some, within)) ∙ ap (λ m. text 0 m (drop n s)) place ∙ ap (λ l. text 0 (k + i.length) l) rest in
    with_bytes-append sofar i.value (text 0 (k + i.length) (drop i.length (b ∷ s))) ∙ ap (λ r. with_bytes sofar (with_byte i.value r)) (sym skipped) ∙ ap (with_bytes sofar) (sym at_text)

-- one more item is read, in the words of the code
pub text_step : (sofar more left : List ℕ) (k : ℕ) (i : Item) → 1 ≤ length left → more ≡ sofar ++ i.value ∷ [] → quoted k (get_or left 0 0) (take (length left - 1) (drop 1 left)) ≡ Ok i → (get_or left 0 0 ≡ 34 → ⊥) → 1 ≤ i.length → i.length ≤ length left → with_bytes more (text 0 (k + i.length) (take (length left - i.length) (drop i.length left))) ≡ with_bytes sofar (text 0 k left)
text_step sofar more left k i some_left pushed e plain some within =
    let b = get_or left 0 0 in
    let after = take (length left - 1) (drop 1 left) in
    let front = slice_front left some_left in
    let room : i.length ≤ 1 + length after = omega (arith, within, ap length front) in
    ap (λ m. with_bytes m (text 0 (k + i.length) (take (length left - i.length) (drop i.length left)))) pushed
    ∙ ap (λ l. with_bytes (sofar ++ i.value ∷ []) (text 0 (k + i.length) l)) (slice_rest i.length left ∙ ap (drop i.length) front)
    ∙ text_one sofar k b after i e (ne_eqb b 34 plain) some room
    ∙ ap (λ l. with_bytes sofar (text 0 k l)) (sym front)
