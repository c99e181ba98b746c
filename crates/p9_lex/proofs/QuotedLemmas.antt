-- A byte or escape between quotes takes at least one byte, and none that isn't there.
use Rattle.std.proofs.Common.{◌≡◌, ℕ, ◌+◌, ◌*◌, ◌≤◌, List, [], ◌∷◌, length, Option, Some, None, Result, Ok, Err, IfOk, ltb, eqb, subst, arith}
use Rattle.p9_lex.specs.declared.broken.Break.{Break}
use Rattle.p9_lex.specs.declared.quoted.Item.{Item}
use Rattle.p9_lex.specs.Classes.{is_newline, is_digit_of, digit_value}
use Rattle.p9_lex.specs.Quoted.{simple_escape, octal_third, octal_second, hex_second, hex_escape, coded_escape, escape_as, escape, quoted}
use Rattle.p9_lex.proofs.Cases.{if_both}

-- at least one byte, and at most so many
abbrev pub IsWithin : ℕ → Result Item Break → Type 0
IsWithin most answer = IfOk answer (λ i. (1 ≤ i.length) × (i.length ≤ most))

more_room : (m n : ℕ) (answer : Result Item Break) → IsWithin m answer → m ≤ n → IsWithin n answer
more_room m n (Ok i) h le = (h.0, omega (arith, h.1))
more_room m n (Err e) h le = tt

octal_third-within : (k v : ℕ) (s : List ℕ) → IsWithin (3 + length s) (octal_third k v s)
octal_third-within k v [] = (omega arith, omega arith)
octal_third-within k v (b ∷ s) =
    if_both (IsWithin (3 + length (b ∷ s))) (is_digit_of 8 b)
    (if_both (IsWithin (3 + length (b ∷ s))) (ltb (8 * v + digit_value b) 256) (omega arith, omega arith) tt)
    (omega arith, omega arith)

octal_second-within : (k v : ℕ) (s : List ℕ) → IsWithin (2 + length s) (octal_second k v s)
octal_second-within k v [] = (omega arith, omega arith)
octal_second-within k v (b ∷ s) =
    if_both (IsWithin (2 + length (b ∷ s))) (is_digit_of 8 b)
    (more_room _ _ _ (octal_third-within (k + 1) (8 * v + digit_value b) s) (omega arith))
    (omega arith, omega arith)

hex_second-within : (v : ℕ) (s : List ℕ) → IsWithin (3 + length s) (hex_second v s)
hex_second-within v [] = (omega arith, omega arith)
hex_second-within v (b ∷ s) =
    if_both (IsWithin (3 + length (b ∷ s))) (is_digit_of 16 b) (omega arith, omega arith) (omega arith, omega arith)

hex_escape-within : (k : ℕ) (s : List ℕ) → IsWithin (2 + length s) (hex_escape k s)
hex_escape-within k [] = tt
hex_escape-within k (b ∷ s) =
    if_both (IsWithin (2 + length (b ∷ s))) (is_newline b) tt
    (if_both (IsWithin (2 + length (b ∷ s))) (is_digit_of 16 b) (more_room _ _ _ (hex_second-within (digit_value b) s) (omega arith)) tt)

coded_escape-within : (k b : ℕ) (s : List ℕ) → IsWithin (2 + length s) (coded_escape k b s)
coded_escape-within k b s =
    if_both (IsWithin (2 + length s)) (is_digit_of 8 b) (octal_second-within (k + 1) (digit_value b) s)
    (if_both (IsWithin (2 + length s)) (eqb b 120) (hex_escape-within (k + 1) s) tt)

escape_as-within : (k b : ℕ) (s : List ℕ) (o : Option ℕ) → IsWithin (2 + length s) (escape_as k b s o)
escape_as-within k b s (Some v) = (omega arith, omega arith)
escape_as-within k b s None = coded_escape-within k b s

escape-within : (k : ℕ) (s : List ℕ) → IsWithin (1 + length s) (escape k s)
escape-within k [] = tt
escape-within k (b ∷ s) =
    if_both (IsWithin (1 + length (b ∷ s))) (is_newline b) tt
    (more_room _ _ _ (escape_as-within k b s (simple_escape b)) (omega arith))

pub quoted-within : (k b : ℕ) (s : List ℕ) → IsWithin (1 + length s) (quoted k b s)
quoted-within k b s =
    if_both (IsWithin (1 + length s)) (is_newline b) tt
    (if_both (IsWithin (1 + length s)) (eqb b 0) tt
    (if_both (IsWithin (1 + length s)) (eqb b 92) (escape-within (k + 1) s) (omega arith, omega arith)))

pub quoted_some : (k b : ℕ) (s : List ℕ) (i : Item) → quoted k b s ≡ Ok i → (1 ≤ i.length) × (i.length ≤ 1 + length s)
quoted_some k b s i e = subst (IsWithin (1 + length s)) e (quoted-within k b s)
