-- How blanks and comments are spelled.
use Rattle.std.proofs.Common.{◌≡◌, ℕ, ◌+◌, Bool, true, false, ◌&&◌, cond, eqb, eqb-true, List, [], ◌∷◌, ◌++◌, length, refl, sym, ap, ◌∙◌, IfOk, arith}
use Rattle.p9_lex.specs.Classes.{is_newline}
use Rattle.p9_lex.specs.Blank.{line_comment, block_comment, begins}
use Rattle.p9_lex.specs.Spelling.{AllOf, is_comment_byte, IsLineEnd, IsUnclosed}
use Rattle.p9_lex.proofs.Cases.{if_cases, IfOk_map, Splits}

abbrev pub IsLineComment : List ℕ → List ℕ → Type 0
IsLineComment bytes after = AllOf is_comment_byte bytes × IsLineEnd after

comment_byte : (b : ℕ) → is_newline b ≡ false → eqb b 0 ≡ false → is_comment_byte b ≡ true
comment_byte b n z = ap (λ c. cond c false (cond (eqb b 0) false true)) n ∙ ap (λ c. cond c false true) z

pub line_comment_spelled : (k : ℕ) (s : List ℕ) → IfOk (line_comment k s) (λ n. Splits s k n IsLineComment)
line_comment_spelled k [] = record { bytes = []; after = []; cut = refl; size = omega arith; holds = (tt, tt) }
line_comment_spelled k (b ∷ s) =
    if_cases (λ r. IfOk r (λ n. Splits (b ∷ s) k n IsLineComment)) (is_newline b)
    (λ n. record { bytes = []; after = b ∷ s; cut = refl; size = omega arith; holds = (tt, n) })
    (λ n. if_cases (λ r. IfOk r (λ m. Splits (b ∷ s) k m IsLineComment)) (eqb b 0) (λ _. tt)
    (λ z. IfOk_map (λ m. Splits s (k + 1) m IsLineComment) (λ m. Splits (b ∷ s) k m IsLineComment) (line_comment (k + 1) s)
    (λ m sp. record { bytes = b ∷ sp.bytes; after = sp.after; cut = ap (λ r. b ∷ r) sp.cut; size = omega (arith, sp.size); holds = ((comment_byte b n z, sp.holds.0), sp.holds.1) })
    (line_comment_spelled (k + 1) s)))

pub record IsClosed (s : List ℕ) (k n : ℕ) : Type 0 where
  pub body : List ℕ
  pub after : List ℕ
  pub cut : s ≡ body ++ (42 ∷ 47 ∷ after)
  pub size : k + length body + 2 ≡ n
  pub unclosed : IsUnclosed (body ++ 42 ∷ [])

both_true : (a b : Bool) → a && b ≡ true → (a ≡ true) × (b ≡ true)
both_true true b h = (refl, h)
both_true false b h = absurd (cc)

begun : (s : List ℕ) → begins 47 s ≡ true → (after : List ℕ) × (s ≡ 47 ∷ after)
begun [] h = absurd (cc)
begun (c ∷ t) h = (t, ap (λ x. x ∷ t) (eqb-true c 47 h))

begins_same : (body after : List ℕ) → begins 47 (body ++ 42 ∷ 47 ∷ after) ≡ begins 47 (body ++ 42 ∷ [])
begins_same [] after = refl
begins_same (b ∷ body) after = refl

pub block_comment_spelled : (k : ℕ) (s : List ℕ) → IfOk (block_comment k s) (λ n. IsClosed s k n)
block_comment_spelled k [] = tt
block_comment_spelled k (b ∷ s) =
    if_cases (λ r. IfOk r (λ n. IsClosed (b ∷ s) k n)) (eqb b 0) (λ _. tt)
    (λ z. if_cases (λ r. IfOk r (λ n. IsClosed (b ∷ s) k n)) (eqb b 42 && begins 47 s)
    (λ h. let both = both_true (eqb b 42) (begins 47 s) h in
    let rest = begun s both.1 in
    record { body = []; after = rest.0; cut = ap (λ x. x ∷ s) (eqb-true b 42 both.0) ∙ ap (λ r. 42 ∷ r) rest.1; size = omega arith; unclosed = (refl, refl, tt) })
    (λ h. IfOk_map (λ n. IsClosed s (k + 1) n) (λ n. IsClosed (b ∷ s) k n) (block_comment (k + 1) s)
    (λ n cl. record {
      body = b ∷ cl.body;
      after = cl.after;
      cut = ap (λ r. b ∷ r) cl.cut;
      size = omega (arith, cl.size);
      unclosed = (z, ap (λ c. eqb b 42 && c) (sym (ap (begins 47) cl.cut ∙ begins_same cl.body cl.after)) ∙ h, cl.unclosed);
    })
    (block_comment_spelled (k + 1) s)))
