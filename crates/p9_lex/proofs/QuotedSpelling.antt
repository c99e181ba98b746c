-- How characters and texts are spelled.
use Rattle.std.proofs.Common.{◌≡◌, ℕ, zero, suc, ◌+◌, ◌-◌, ◌*◌, ◌<◌, ◌≤◌, true, false, eqb, eqb-true, ltb, ltb-true, List, [], ◌∷◌, ◌++◌, length, drop, refl, sym, ap, subst, ◌∙◌, Option, Some, None, Result, Ok, Err, IfOk, append_assoc, length-append, arith}
use Rattle.p9_lex.specs.declared.broken.Break.{Break}
use Rattle.p9_lex.specs.declared.quoted.Item.{Item}
use Rattle.p9_lex.specs.declared.quoted.Character.{Character}
use Rattle.p9_lex.specs.declared.quoted.Text.{Text}
use Rattle.p9_lex.specs.Classes.{is_newline, digit_value, is_digit_of}
use Rattle.p9_lex.specs.Quoted.{simple_escape, octal_third, octal_second, hex_second, hex_escape, coded_escape, escape_as, escape, quoted, character_end, then_read, character, with_byte, text}
use Rattle.p9_lex.specs.Spelling.{value_in, IsItem, plain, simple, octal, hexadecimal, AreItems, no_items, items, IsCharacter, IsText}
use Rattle.p9_lex.proofs.Cases.{if_cases, IfOk_map, Splits}

abbrev IsItemCut : (quote : ℕ) → List ℕ → Result Item Break → Type 0
IsItemCut q whole answer = IfOk answer (λ i. Splits whole 0 i.length (λ bytes after. IsItem q bytes i.value))

item_of : (q value : ℕ) (bytes after : List ℕ) (n : ℕ) → IsItem q bytes value → length bytes ≡ n → Splits (bytes ++ after) 0 n (λ bs a. IsItem q bs value)
item_of q value bytes after n is e = record { bytes = bytes; after = after; cut = refl; size = omega (arith, e); holds = is }

octal_third_spelled : (q k v d e : ℕ) (s : List ℕ) → is_digit_of 8 d ≡ true → is_digit_of 8 e ≡ true → v ≡ value_in 8 (d ∷ e ∷ []) → v < 256 → IsItemCut q (92 ∷ d ∷ e ∷ s) (octal_third k v s)
octal_third_spelled q k v d e [] hd he is lt = item_of q v (92 ∷ d ∷ e ∷ []) [] 3 (octal (d ∷ e ∷ []) (hd, (he, tt)) (omega arith) (omega arith) is lt) refl
octal_third_spelled q k v d e (b ∷ s) hd he is lt =
    if_cases (IsItemCut q (92 ∷ d ∷ e ∷ b ∷ s)) (is_digit_of 8 b)
    (λ hb. if_cases (IsItemCut q (92 ∷ d ∷ e ∷ b ∷ s)) (ltb (8 * v + digit_value b) 256)
    (λ small. item_of q (8 * v + digit_value b) (92 ∷ d ∷ e ∷ b ∷ []) s 4 (octal (d ∷ e ∷ b ∷ []) (hd, (he, (hb, tt))) (omega arith) (omega arith) (ap (λ w. 8 * w + digit_value b) is) (ltb-true (8 * v + digit_value b) 256 small)) refl)
    (λ _. tt))
    (λ _. item_of q v (92 ∷ d ∷ e ∷ []) (b ∷ s) 3 (octal (d ∷ e ∷ []) (hd, (he, tt)) (omega arith) (omega arith) is lt) refl)

octal_second_spelled : (q k d : ℕ) (s : List ℕ) → is_digit_of 8 d ≡ true → IsItemCut q (92 ∷ d ∷ s) (octal_second k (digit_value d) s)
octal_second_spelled q k d [] hd = item_of q (digit_value d) (92 ∷ d ∷ []) [] 2 (octal (d ∷ []) (hd, tt) (omega arith) (omega arith) (omega arith) (omega (arith, ltb-true (digit_value d) 8 hd))) refl
octal_second_spelled q k d (b ∷ s) hd =
    if_cases (IsItemCut q (92 ∷ d ∷ b ∷ s)) (is_digit_of 8 b)
    (λ hb. octal_third_spelled q (k + 1) (8 * digit_value d + digit_value b) d b s hd hb (omega arith) (omega (arith, ltb-true (digit_value d) 8 hd, ltb-true (digit_value b) 8 hb)))
    (λ _. item_of q (digit_value d) (92 ∷ d ∷ []) (b ∷ s) 2 (octal (d ∷ []) (hd, tt) (omega arith) (omega arith) (omega arith) (omega (arith, ltb-true (digit_value d) 8 hd))) refl)

hex_second_spelled : (q d : ℕ) (s : List ℕ) → is_digit_of 16 d ≡ true → IsItemCut q (92 ∷ 120 ∷ d ∷ s) (hex_second (digit_value d) s)
hex_second_spelled q d [] hd = item_of q (digit_value d) (92 ∷ 120 ∷ d ∷ []) [] 3 (hexadecimal (d ∷ []) (hd, tt) (omega arith) (omega arith) (omega arith)) refl
hex_second_spelled q d (b ∷ s) hd =
    if_cases (IsItemCut q (92 ∷ 120 ∷ d ∷ b ∷ s)) (is_digit_of 16 b)
    (λ hb. item_of q (16 * digit_value d + digit_value b) (92 ∷ 120 ∷ d ∷ b ∷ []) s 4 (hexadecimal (d ∷ b ∷ []) (hd, (hb, tt)) (omega arith) (omega arith) (omega arith)) refl)
    (λ _. item_of q (digit_value d) (92 ∷ 120 ∷ d ∷ []) (b ∷ s) 3 (hexadecimal (d ∷ []) (hd, tt) (omega arith) (omega arith) (omega arith)) refl)

hex_escape_spelled : (q k : ℕ) (s : List ℕ) → IsItemCut q (92 ∷ 120 ∷ s) (hex_escape k s)
hex_escape_spelled q k [] = tt
hex_escape_spelled q k (b ∷ s) =
    if_cases (IsItemCut q (92 ∷ 120 ∷ b ∷ s)) (is_newline b) (λ _. tt)
    (λ _. if_cases (IsItemCut q (92 ∷ 120 ∷ b ∷ s)) (is_digit_of 16 b) (hex_second_spelled q b s) (λ _. tt))

coded_escape_spelled : (q k b : ℕ) (s : List ℕ) → IsItemCut q (92 ∷ b ∷ s) (coded_escape k b s)
coded_escape_spelled q k b s =
    if_cases (IsItemCut q (92 ∷ b ∷ s)) (is_digit_of 8 b) (octal_second_spelled q (k + 1) b s)
    (λ _. if_cases (IsItemCut q (92 ∷ b ∷ s)) (eqb b 120)
    (λ h. subst (λ x. IsItemCut q (92 ∷ x ∷ s) (hex_escape (k + 1) s)) (sym (eqb-true b 120 h)) (hex_escape_spelled q (k + 1) s))
    (λ _. tt))

escape_as_spelled : (q k b : ℕ) (s : List ℕ) (o : Option ℕ) → simple_escape b ≡ o → IsItemCut q (92 ∷ b ∷ s) (escape_as k b s o)
escape_as_spelled q k b s (Some v) h = item_of q v (92 ∷ b ∷ []) s 2 (simple h) refl
escape_as_spelled q k b s None h = coded_escape_spelled q k b s

escape_spelled : (q k : ℕ) (s : List ℕ) → IsItemCut q (92 ∷ s) (escape k s)
escape_spelled q k [] = tt
escape_spelled q k (b ∷ s) =
    if_cases (IsItemCut q (92 ∷ b ∷ s)) (is_newline b) (λ _. tt) (λ _. escape_as_spelled q k b s (simple_escape b) refl)

quoted_spelled : (q k b : ℕ) (s : List ℕ) → eqb b q ≡ false → IsItemCut q (b ∷ s) (quoted k b s)
quoted_spelled q k b s other =
    if_cases (IsItemCut q (b ∷ s)) (is_newline b) (λ _. tt)
    (λ n. if_cases (IsItemCut q (b ∷ s)) (eqb b 0) (λ _. tt)
    (λ z. if_cases (IsItemCut q (b ∷ s)) (eqb b 92)
    (λ h. subst (λ x. IsItemCut q (x ∷ s) (escape (k + 1) s)) (sym (eqb-true b 92 h)) (escape_spelled q (k + 1) s))
    (λ h. item_of q b (b ∷ []) s 1 (plain other n z h) refl)))

-- Characters

drop_front : (xs ys : List ℕ) → drop (length xs) (xs ++ ys) ≡ ys
drop_front [] ys = refl
drop_front (x ∷ xs) ys = drop_front xs ys

-- what is left after the first part
left_after : (whole bytes after : List ℕ) (n : ℕ) → whole ≡ bytes ++ after → 0 + length bytes ≡ n → drop n whole ≡ after
left_after whole bytes after n cut size =
    let e : n ≡ length bytes = omega (arith, size) in
    ap (λ m. drop m whole) e ∙ ap (drop (length bytes)) cut ∙ drop_front bytes after

abbrev pub IsCharacterCut : List ℕ → Result Character Break → Type 0
IsCharacterCut whole answer = IfOk answer (λ c. Splits whole 0 c.length (λ bytes after. IsCharacter c.value bytes))

character_end_spelled : (k value : ℕ) (inner after : List ℕ) → IsItem 39 inner value → k ≡ 1 + length inner → IsCharacterCut (39 ∷ (inner ++ after)) (character_end k value after)
character_end_spelled k value inner [] is e = tt
character_end_spelled k value inner (b ∷ s) is e =
    if_cases (IsCharacterCut (39 ∷ (inner ++ b ∷ s))) (eqb b 39)
    (λ h. record {
      bytes = 39 ∷ (inner ++ 39 ∷ []);
      after = s;
      cut = ap (λ x. 39 ∷ (inner ++ x ∷ s)) (eqb-true b 39 h) ∙ simp append_assoc;
      size = simp length-append (omega (arith, e));
      holds = record { inner = inner; byte = value; spelled = refl; item = is; valued = refl };
    })
    (λ _. if_cases (IsCharacterCut (39 ∷ (inner ++ b ∷ s))) (is_newline b) (λ _. tt) (λ _. tt))

character_of_item : (b : ℕ) (s : List ℕ) (answer : Result Item Break) → IsItemCut 39 (b ∷ s) answer → IsCharacterCut (39 ∷ b ∷ s) (then_read answer (λ i. character_end (1 + i.length) i.value (drop i.length (b ∷ s))))
character_of_item b s (Err e) h = tt
character_of_item b s (Ok i) h =
    let rest = left_after (b ∷ s) h.bytes h.after i.length h.cut h.size in
    subst (λ w. IsCharacterCut (39 ∷ w) (character_end (1 + i.length) i.value (drop i.length (b ∷ s)))) (sym h.cut)
    (subst (λ w. IsCharacterCut (39 ∷ (h.bytes ++ h.after)) (character_end (1 + i.length) i.value w)) (sym rest)
    (character_end_spelled (1 + i.length) i.value h.bytes h.after h.holds (omega (arith, h.size))))

pub character_spelled : (s : List ℕ) → IsCharacterCut (39 ∷ s) (character s)
unfolding character
character_spelled [] = tt
character_spelled (b ∷ s) =
    if_cases (IsCharacterCut (39 ∷ b ∷ s)) (eqb b 39) (λ _. tt)
    (λ h. character_of_item b s (quoted 1 b s) (quoted_spelled 39 1 b s h))

-- Texts

record IsTextCut (k : ℕ) (rest : List ℕ) (t : Text) : Type 0 where
  inner : List ℕ
  after : List ℕ
  cut : rest ≡ inner ++ 34 ∷ after
  size : k + length inner + 1 ≡ t.length
  each : AreItems 34 inner t.bytes

text_more : (k b : ℕ) (s : List ℕ) (i : Item) (answer : Result Text Break) → Splits (b ∷ s) 0 i.length (λ bytes after. IsItem 34 bytes i.value) → IfOk answer (λ t. IsTextCut (k + i.length) (drop i.length (b ∷ s)) t) → IfOk (with_byte i.value answer) (λ t. IsTextCut k (b ∷ s) t)
text_more k b s i (Err e) sp h = tt
text_more k b s i (Ok t) sp h =
    let rest = left_after (b ∷ s) sp.bytes sp.after i.length sp.cut sp.size in
    record {
      inner = sp.bytes ++ h.inner;
      after = h.after;
      cut = sp.cut ∙ ap (λ r. sp.bytes ++ r) (sym rest ∙ h.cut) ∙ sym (append_assoc sp.bytes h.inner (34 ∷ h.after));
      size = simp length-append (omega (arith, sp.size, h.size));
      each = items sp.bytes sp.holds h.each;
    }

item_some : (q : ℕ) (bytes : List ℕ) (value : ℕ) → IsItem q bytes value → 1 ≤ length bytes
item_some q _ _ (plain a b c d) = omega arith
item_some q _ _ (simple h) = omega arith
item_some q _ _ (octal ds a b c d e) = omega arith
item_some q _ _ (hexadecimal ds a b c d) = omega arith

some_bytes : (bytes : List ℕ) (n : ℕ) → 0 + length bytes ≡ n → 1 ≤ length bytes → 1 ≤ n
some_bytes bytes n e h = omega (arith, e, h)

drop_more : (b : ℕ) (s : List ℕ) (n : ℕ) → 1 ≤ n → drop n (b ∷ s) ≡ drop (n - 1) s
drop_more b s zero h = absurd (omega (arith, h))
drop_more b s (suc n) h = ap (λ m. drop m s) (let e : n ≡ suc n - 1 = omega arith in e)

text_item : (k b : ℕ) (s : List ℕ) (answer : Result Item Break) (next : Item → Result Text Break) → IsItemCut 34 (b ∷ s) answer → ((i : Item) → 1 ≤ i.length → IfOk (next i) (λ t. IsTextCut (k + i.length) (drop i.length (b ∷ s)) t)) → IfOk (then_read answer (λ i. with_byte i.value (next i))) (λ t. IsTextCut k (b ∷ s) t)
text_item k b s (Err e) next h rest = tt
text_item k b s (Ok i) next h rest = text_more k b s i (next i) h (rest i (some_bytes h.bytes i.length h.size (item_some 34 h.bytes i.value h.holds)))

text_rest : (inside k : ℕ) (s : List ℕ) → IfOk (text inside k s) (λ t. IsTextCut (k + inside) (drop inside s) t)
text_rest inside k [] = tt
text_rest (suc j) k (b ∷ s) =
    IfOk_map (λ t. IsTextCut (k + 1 + j) (drop j s) t) (λ t. IsTextCut (k + suc j) (drop j s) t) (text j (k + 1) s)
    (λ t c. record { inner = c.inner; after = c.after; cut = c.cut; size = omega (arith, c.size); each = c.each })
    (text_rest j (k + 1) s)
text_rest zero k (b ∷ s) =
    if_cases (λ r. IfOk r (λ t. IsTextCut (k + 0) (b ∷ s) t)) (eqb b 34)
    (λ h. record { inner = []; after = s; cut = ap (λ x. x ∷ s) (eqb-true b 34 h); size = omega arith; each = no_items })
    (λ h. IfOk_map (λ t. IsTextCut k (b ∷ s) t) (λ t. IsTextCut (k + 0) (b ∷ s) t) (then_read (quoted k b s) (λ i. with_byte i.value (text (i.length - 1) (k + 1) s)))
    (λ t c. record { inner = c.inner; after = c.after; cut = c.cut; size = omega (arith, c.size); each = c.each })
    (text_item k b s (quoted k b s) (λ i. text (i.length - 1) (k + 1) s) (quoted_spelled 34 k b s h)
    (λ i some. IfOk_map (λ t. IsTextCut (k + 1 + (i.length - 1)) (drop (i.length - 1) s) t) (λ t. IsTextCut (k + i.length) (drop i.length (b ∷ s)) t) (text (i.length - 1) (k + 1) s)
    (λ t c. record { inner = c.inner; after = c.after; cut = drop_more b s i.length some ∙ c.cut; size = omega (arith, c.size, some); each = c.each })
    (text_rest (i.length - 1) (k + 1) s))))

pub text_spelled : (s : List ℕ) → IfOk (text 0 1 s) (λ t. Splits (34 ∷ s) 0 t.length (λ bytes after. IsText t.bytes bytes))
text_spelled s =
    IfOk_map (λ t. IsTextCut (1 + 0) s t) (λ t. Splits (34 ∷ s) 0 t.length (λ bytes after. IsText t.bytes bytes)) (text 0 1 s)
    (λ t c. record {
      bytes = 34 ∷ (c.inner ++ 34 ∷ []);
      after = c.after;
      cut = ap (λ r. 34 ∷ r) c.cut ∙ simp append_assoc;
      size = simp length-append (omega (arith, c.size));
      holds = record { inner = c.inner; spelled = refl; each = c.each };
    })
    (text_rest 0 1 s)
