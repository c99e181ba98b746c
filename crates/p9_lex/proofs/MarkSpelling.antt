-- How marks are spelled, and that the longest is taken.
use Rattle.std.proofs.Common.{◌≡◌, ℕ, List, [], ◌∷◌, ◌++◌, refl, ap, ◌∙◌, Option, Some, None, Result, Ok, Err, IfOk}
use Rattle.p9_lex.specs.declared.broken.Break.{Break}
use Rattle.p9_lex.specs.declared.mark.Marked.{Marked}
use Rattle.p9_lex.specs.declared.token.Dialect.{Dialect}
use Rattle.p9_lex.specs.declared.token.Dialect.TheVariants.{C, Asm}
use Rattle.p9_lex.specs.Broken.{bad_byte}
use Rattle.p9_lex.specs.Mark.{mark_number, mark_or, one_byte_mark, two_byte_mark, longest_mark}
use Rattle.p9_lex.specs.Spelling.{NoneLonger}
use Rattle.p9_lex.proofs.Cases.{Splits}

-- no mark has more than three bytes
no_long_mark : (d : Dialect) (a b c e : ℕ) (more : List ℕ) → mark_number d (a ∷ b ∷ c ∷ e ∷ more) ≡ None
unfolding mark_number
no_long_mark C a b c e more = refl
no_long_mark Asm a b c e more = refl

abbrev pub IsMarkCut : Dialect → List ℕ → Result Marked Break → Type 0
IsMarkCut d whole answer =
    IfOk answer (λ m. Splits whole 0 m.length (λ bytes after. (mark_number d bytes ≡ Some m.number) × NoneLonger d bytes after))

or_cases : (n : ℕ) (o : Option ℕ) (other : Result Marked Break) (P : Result Marked Break → Type 0) → ((m : ℕ) → o ≡ Some m → P (Ok (record { number = m; length = n }))) → (o ≡ None → P other) → P (mark_or n o other)
or_cases n (Some m) other P found other_holds = found m refl
or_cases n None other P found other_holds = other_holds refl

three_longest : (d : Dialect) (a b c : ℕ) (s : List ℕ) → NoneLonger d (a ∷ b ∷ c ∷ []) s
three_longest d a b c s = λ x more rest e. no_long_mark d a b c x more

two_more : (d : Dialect) (a b : ℕ) (s : List ℕ) → ((c : ℕ) (t : List ℕ) → s ≡ c ∷ t → mark_number d (a ∷ b ∷ c ∷ []) ≡ None) → (x : ℕ) (more rest : List ℕ) → s ≡ x ∷ (more ++ rest) → mark_number d (a ∷ b ∷ x ∷ more) ≡ None
two_more d a b s three x [] rest e = three x rest e
two_more d a b s three x (y ∷ more) rest e = no_long_mark d a b x y more

one_more : (d : Dialect) (a : ℕ) (s : List ℕ) → ((b : ℕ) (t : List ℕ) → s ≡ b ∷ t → mark_number d (a ∷ b ∷ []) ≡ None) → ((b c : ℕ) (t : List ℕ) → s ≡ b ∷ c ∷ t → mark_number d (a ∷ b ∷ c ∷ []) ≡ None) → (x : ℕ) (more rest : List ℕ) → s ≡ x ∷ (more ++ rest) → mark_number d (a ∷ x ∷ more) ≡ None
one_more d a s two three x [] rest e = two x rest e
one_more d a s two three x (y ∷ []) rest e = three x y rest e
one_more d a s two three x (y ∷ z ∷ more) rest e = no_long_mark d a x y z more

two_longest : (d : Dialect) (a b : ℕ) (s : List ℕ) → ((c : ℕ) (t : List ℕ) → s ≡ c ∷ t → mark_number d (a ∷ b ∷ c ∷ []) ≡ None) → NoneLonger d (a ∷ b ∷ []) s
two_longest d a b s three = λ x more rest e. two_more d a b s three x more rest e

one_longest : (d : Dialect) (a : ℕ) (s : List ℕ) → ((b : ℕ) (t : List ℕ) → s ≡ b ∷ t → mark_number d (a ∷ b ∷ []) ≡ None) → ((b c : ℕ) (t : List ℕ) → s ≡ b ∷ c ∷ t → mark_number d (a ∷ b ∷ c ∷ []) ≡ None) → NoneLonger d (a ∷ []) s
one_longest d a s two three = λ x more rest e. one_more d a s two three x more rest e

one_spelled : (d : Dialect) (a : ℕ) (s : List ℕ) → NoneLonger d (a ∷ []) s → IsMarkCut d (a ∷ s) (one_byte_mark d a)
one_spelled d a s longest =
    or_cases 1 (mark_number d (a ∷ [])) (Err (bad_byte 0)) (IsMarkCut d (a ∷ s))
    (λ m h. record { bytes = a ∷ []; after = s; cut = refl; size = refl; holds = (h, longest) })
    (λ _. tt)

two_spelled : (d : Dialect) (a b : ℕ) (s : List ℕ) → ((c : ℕ) (t : List ℕ) → s ≡ c ∷ t → mark_number d (a ∷ b ∷ c ∷ []) ≡ None) → IsMarkCut d (a ∷ b ∷ s) (two_byte_mark d a b)
two_spelled d a b s three =
    or_cases 2 (mark_number d (a ∷ b ∷ [])) (one_byte_mark d a) (IsMarkCut d (a ∷ b ∷ s))
    (λ m h. record { bytes = a ∷ b ∷ []; after = s; cut = refl; size = refl; holds = (h, two_longest d a b s three) })
    (λ h. one_spelled d a (b ∷ s) (one_longest d a (b ∷ s) (λ x t e. let same : x ≡ b = cc in ap (λ y. mark_number d (a ∷ y ∷ [])) same ∙ h) (λ x c t e. let same : x ≡ b = cc in let rest : s ≡ c ∷ t = cc in ap (λ y. mark_number d (a ∷ y ∷ c ∷ [])) same ∙ three c t rest)))

pub mark_spelled : (d : Dialect) (a : ℕ) (s : List ℕ) → IsMarkCut d (a ∷ s) (longest_mark d a s)
unfolding longest_mark
mark_spelled d a [] = one_spelled d a [] (one_longest d a [] (λ b t e. absurd (cc)) (λ b c t e. absurd (cc)))
mark_spelled d a (b ∷ []) = two_spelled d a b [] (λ c t e. absurd (cc))
mark_spelled d a (b ∷ c ∷ s) =
    or_cases 3 (mark_number d (a ∷ b ∷ c ∷ [])) (two_byte_mark d a b) (IsMarkCut d (a ∷ b ∷ c ∷ s))
    (λ m h. record { bytes = a ∷ b ∷ c ∷ []; after = s; cut = refl; size = refl; holds = (h, three_longest d a b c s) })
    (λ h. two_spelled d a b (c ∷ s) (λ x t e. let same : x ≡ c = cc in ap (λ y. mark_number d (a ∷ b ∷ y ∷ [])) same ∙ h))
