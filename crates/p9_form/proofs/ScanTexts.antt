-- A text that is read byte by byte.
use Rattle.std.proofs.Common.{◌≡◌, ℕ, ◌+◌, true, false, not, eqb, eqb-true, cond, List, [], ◌∷◌, ◌++◌, length, flat_map, Option, Some, None, IfSome, refl, sym, ap, subst, ◌∙◌, inl, inr, append_assoc, length-append, arith}
use Rattle.std.specs.List.{list_all}
use Rattle.std.proofs.lemmas.Bool.{and_parts, and_from, not-true, not_from_false, cond-true, cond-false, cases_Bool}
use Rattle.std.proofs.lemmas.Bool.Decides.{nat_tests}
use Rattle.p9_first.specs.Form.{is_text_byte}
use Rattle.p9_form.specs.declared.scan.Quoted.{Quoted}
use Rattle.p9_form.specs.Spelling.{text_spelling}
use Rattle.p9_form.specs.Scanning.{is_plain, with_byte, quoted_from}
use Rattle.p9_form.proofs.ScanCases.{if_cases}

-- bytes that are read already, in front of those that are still to come
abbrev pub with_bytes : List ℕ → Option Quoted → Option Quoted
with_bytes bytes None = None
with_bytes bytes (Some t) = Some (record { bytes = bytes ++ t.bytes; length = t.length })

pub with_bytes_none : (answer : Option Quoted) → with_bytes [] answer ≡ answer
with_bytes_none None = refl
with_bytes_none (Some t) = refl

pub with_bytes_more : (bytes : List ℕ) (b : ℕ) (answer : Option Quoted) → with_bytes (bytes ++ b ∷ []) answer ≡ with_bytes bytes (with_byte b answer)
with_bytes_more bytes b None = refl
with_bytes_more bytes b (Some t) = ap (λ bs. Some (record { bytes = bs; length = t.length })) (append_assoc bytes (b ∷ []) t.bytes)

-- How a text is spelled

abbrev pub spelled : List ℕ → List ℕ
spelled text = flat_map text_spelling text

pub record IsQuoted (k : ℕ) (s : List ℕ) (t : Quoted) : Type 0 where
  pub after : List ℕ
  pub cut : s ≡ spelled t.bytes ++ 34 ∷ after
  pub size : t.length ≡ k + (length (spelled t.bytes) + 1)
  pub text : list_all is_text_byte t.bytes ≡ true

one_more : (b k l : ℕ) (front s : List ℕ) (t : Quoted) → is_text_byte b ≡ true → text_spelling b ≡ front → l ≡ k + length front → IsQuoted l s t → IsQuoted k (front ++ s) (record { bytes = b ∷ t.bytes; length = t.length })
one_more b k l front s t is_text is_front place is = record {
  after = is.after;
  cut = ap (λ r. front ++ r) is.cut ∙ sym (append_assoc front (spelled t.bytes) (34 ∷ is.after)) ∙ ap (λ f. (f ++ spelled t.bytes) ++ 34 ∷ is.after) (sym is_front);
  size = omega (arith, is.size, place, length-append (text_spelling b) (spelled t.bytes), ap length is_front);
  text = and_from (is_text_byte b) (list_all is_text_byte t.bytes) is_text is.text;
}

more_quoted : (b k l : ℕ) (front s : List ℕ) (o : Option Quoted) → is_text_byte b ≡ true → text_spelling b ≡ front → l ≡ k + length front → IfSome o (IsQuoted l s) → IfSome (with_byte b o) (IsQuoted k (front ++ s))
more_quoted b k l front s None is_text is_front place is = tt
more_quoted b k l front s (Some t) is_text is_front place is = one_more b k l front s t is_text is_front place is

plain_text : (b : ℕ) → is_plain b ≡ true → is_text_byte b ≡ true
plain_text b h = (and_parts (is_text_byte b) (not (eqb b 10)) h).0

plain_not_newline : (b : ℕ) → is_plain b ≡ true → eqb b 10 ≡ false
plain_not_newline b h = not-true (eqb b 10) (and_parts (is_text_byte b) (not (eqb b 10)) h).1

plain_spelling : (b : ℕ) → eqb b 10 ≡ false → text_spelling b ≡ b ∷ []
plain_spelling b h = cond-false (eqb b 10) (92 ∷ 110 ∷ []) (b ∷ []) h

end_quoted : (b k : ℕ) (s : List ℕ) → eqb b 34 ≡ true → IsQuoted k (b ∷ s) (record { bytes = []; length = k + 1 })
end_quoted b k s h = record { after = s; cut = ap (λ x. x ∷ s) (eqb-true b 34 h); size = refl; text = refl }

escape_quoted : (b e k : ℕ) (s : List ℕ) → eqb b 92 ≡ true → IfSome (quoted_from false (k + 1 + 1) s) (IsQuoted (k + 1 + 1) s) → IfSome (quoted_from true (k + 1) (e ∷ s)) (IsQuoted k (b ∷ e ∷ s))
escape_quoted b e k s h is =
    if_cases (λ o. IfSome o (IsQuoted k (b ∷ e ∷ s))) (eqb e 110)
    (λ g.
    let made : IfSome (with_byte 10 (quoted_from false (k + 1 + 1) s)) (IsQuoted k (92 ∷ 110 ∷ s)) = more_quoted 10 k (k + 1 + 1) (92 ∷ 110 ∷ []) s (quoted_from false (k + 1 + 1) s) refl refl (omega arith) is in
    let first : IfSome (with_byte 10 (quoted_from false (k + 1 + 1) s)) (IsQuoted k (b ∷ 110 ∷ s)) = subst (λ x. IfSome (with_byte 10 (quoted_from false (k + 1 + 1) s)) (IsQuoted k (x ∷ 110 ∷ s))) (sym (eqb-true b 92 h)) made in
    subst (λ x. IfSome (with_byte 10 (quoted_from false (k + 1 + 1) s)) (IsQuoted k (b ∷ x ∷ s))) (sym (eqb-true e 110 g)) first)
    (λ _. tt)

plain_quoted : (b k : ℕ) (s : List ℕ) → IfSome (quoted_from false (k + 1) s) (IsQuoted (k + 1) s) → IfSome (cond (is_plain b) (with_byte b (quoted_from false (k + 1) s)) None) (IsQuoted k (b ∷ s))
plain_quoted b k s is =
    if_cases (λ o. IfSome o (IsQuoted k (b ∷ s))) (is_plain b)
    (λ h. more_quoted b k (k + 1) (b ∷ []) s (quoted_from false (k + 1) s) (plain_text b h) (plain_spelling b (plain_not_newline b h)) (omega arith) is)
    (λ _. tt)

pub quoted_sound : (k : ℕ) (s : List ℕ) → IfSome (quoted_from false k s) (IsQuoted k s)
quoted_sound k [] = tt
quoted_sound k (b ∷ []) =
    if_cases (λ o. IfSome o (IsQuoted k (b ∷ []))) (eqb b 34) (end_quoted b k [])
    (λ _. if_cases (λ o. IfSome o (IsQuoted k (b ∷ []))) (eqb b 92) (λ _. tt)
    (λ _. plain_quoted b k [] tt))
quoted_sound k (b ∷ e ∷ s) =
    if_cases (λ o. IfSome o (IsQuoted k (b ∷ e ∷ s))) (eqb b 34) (end_quoted b k (e ∷ s))
    (λ _. if_cases (λ o. IfSome o (IsQuoted k (b ∷ e ∷ s))) (eqb b 92)
    (λ h. escape_quoted b e k s h (quoted_sound (k + 1 + 1) s))
    (λ _. plain_quoted b k (e ∷ s) (quoted_sound (k + 1) (e ∷ s))))

-- Each text is read

text_byte_tests : (b : ℕ) → is_text_byte b ≡ true → eqb b 10 ≡ false → (eqb b 34 ≡ false) × (eqb b 92 ≡ false)
text_byte_tests b h n = (grind (arith, nat_tests), grind (arith, nat_tests))

abbrev text_of : (k : ℕ) (text : List ℕ) → Option Quoted
text_of k text = Some (record { bytes = text; length = k + (length (spelled text) + 1) })

longer : (b k l : ℕ) (front text : List ℕ) → text_spelling b ≡ front → l ≡ k + length front → with_byte b (text_of l text) ≡ text_of k (b ∷ text)
longer b k l front text is place =
    let size : l + (length (spelled text) + 1) ≡ k + (length (text_spelling b ++ spelled text) + 1) = omega (arith, place, length-append (text_spelling b) (spelled text), ap length is) in
    ap (λ n. Some (record { bytes = b ∷ text; length = n })) size

pub quoted_complete : (text : List ℕ) (k : ℕ) (after : List ℕ) → list_all is_text_byte text ≡ true → quoted_from false k (spelled text ++ 34 ∷ after) ≡ Some (record { bytes = text; length = k + (length (spelled text) + 1) })
quoted_complete [] k after h = ap (λ n. Some (record { bytes = []; length = n })) (omega arith)
quoted_complete (b ∷ bs) k after h =
    let parts = and_parts (is_text_byte b) (list_all is_text_byte bs) h in
    let rest = spelled bs ++ 34 ∷ after in
    elim (cases_Bool (eqb b 10)) [
      | inl is_newline ↦
          let newline = eqb-true b 10 is_newline in
          let made : quoted_from false k (92 ∷ 110 ∷ rest) ≡ text_of k (10 ∷ bs) = ap (with_byte 10) (quoted_complete bs (k + 1 + 1) after parts.1) ∙ longer 10 k (k + 1 + 1) (92 ∷ 110 ∷ []) bs refl (omega arith) in
          subst (λ x. quoted_from false k ((text_spelling x ++ spelled bs) ++ 34 ∷ after) ≡ text_of k (x ∷ bs)) (sym newline) made
      | inr not_newline ↦
          let tests = text_byte_tests b parts.0 not_newline in
          let is = plain_spelling b not_newline in
          let plain : is_plain b ≡ true = and_from (is_text_byte b) (not (eqb b 10)) parts.0 (not_from_false (eqb b 10) not_newline) in
          let inner = with_byte b (quoted_from false (k + 1) rest) in
          ap (λ f. quoted_from false k ((f ++ spelled bs) ++ 34 ∷ after)) is
          ∙ cond-false (eqb b 34) (Some (record { bytes = []; length = k + 1 })) (cond (eqb b 92) (quoted_from true (k + 1) rest) (cond (is_plain b) inner None)) tests.0
          ∙ cond-false (eqb b 92) (quoted_from true (k + 1) rest) (cond (is_plain b) inner None) tests.1
          ∙ cond-true (is_plain b) inner None plain
          ∙ ap (with_byte b) (quoted_complete bs (k + 1) after parts.1)
          ∙ longer b k (k + 1) (b ∷ []) bs is (omega arith)
    ]
