-- The words of a text's bytes.
use Rattle.std.proofs.Common.{ℕ, zero, suc, ◌+◌, ◌*◌, ◌^◌, ◌≡◌, ◌<◌, List, [], ◌∷◌, ◌++◌, length, slice_get, Some, refl, ap, ◌∙◌, subst, arith, length-append}
use Rattle.std.proofs.lemmas.Grind.{common_steps}
use Rattle.std.proofs.lemmas.List.Elements.{All-head, All-tail}
use Rattle.p9_base.specs.Numbers.{word_at, word_bytes}
use Rattle.p9_r3k.specs.declared.lines.Line.{Line}
use Rattle.p9_r3k.specs.Table.{Fits, word_of}
use Rattle.p9_image.specs.Text.{LinesFit, patched, text_from}
use Rattle.p9_image.proofs.Fitting.{patched_fits}
use Rattle.p9_image_laws.proofs.Sizes.{word_small}

pub text_size : (tables : List (List ℕ)) (i : ℕ) (lines : List Line) → length (text_from tables i lines) ≡ 4 * length lines
text_size tables i [] = refl
text_size tables i (line ∷ rest) =
    length-append (word_bytes (word_of (patched tables i line))) (text_from tables (i + 1) rest) ∙ (let r = text_size tables (i + 1) rest in omega (arith, r))

word_in_front : (w : ℕ) (rest : List ℕ) → w < 2 ^ 32 → word_at (word_bytes w ++ rest) 0 ≡ w
word_in_front w rest small = omega (arith, small)

word_behind : (front bytes : List ℕ) (i : ℕ) → word_at (front ++ bytes) (length front + i) ≡ word_at bytes i
word_behind front bytes i = grind (arith, common_steps)

pub text_word : (tables : List (List ℕ)) (first i : ℕ) (lines : List Line) (line : Line) → LinesFit lines → slice_get lines i ≡ Some line →
    word_at (text_from tables first lines) (4 * i) ≡ word_of (patched tables (first + i) line)
text_word tables first i [] line fit e = cc
text_word tables first zero (l ∷ rest) line fit e =
    let same : l ≡ line = cc in
    subst (λ (x : Line). word_at (word_bytes (word_of (patched tables first l)) ++ text_from tables (first + 1) rest) 0 ≡ word_of (patched tables (first + 0) x)) same
    (word_in_front (word_of (patched tables first l)) (text_from tables (first + 1) rest) (word_small (patched tables first l) (patched_fits tables first l (All-head (λ (line : Line). Fits line.inst) l rest fit)))
    ∙ ap (λ (n : ℕ). word_of (patched tables n l)) (omega arith))
text_word tables first (suc i) (l ∷ rest) line fit e =
    ap (λ (n : ℕ). word_at (word_bytes (word_of (patched tables first l)) ++ text_from tables (first + 1) rest) n) (omega arith)
    ∙ (word_behind (word_bytes (word_of (patched tables first l))) (text_from tables (first + 1) rest) (4 * i)
    ∙ (text_word tables (first + 1) i rest line (All-tail (λ (line : Line). Fits line.inst) l rest fit) e
    ∙ ap (λ (n : ℕ). word_of (patched tables n line)) (omega arith)))
