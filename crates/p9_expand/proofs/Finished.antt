-- Lines with their targets by the numbers of lines, and marked.
use Rattle.std.proofs.Common.{ℕ, zero, suc, ◌+◌, ◌≡◌, ◌<◌, ◌||◌, Bool, get_or, Option, Some, None, List, [], ◌∷◌, length, map, refl, sym, ap, ◌∙◌, arith}
use Rattle.std.specs.Prelude.{option_map, slice_get, slice_index}
use Rattle.std.proofs.lemmas.List.Sums.{sum_by-cons}
use Rattle.p9_r3k.specs.declared.inst.Inst.{Inst}
use Rattle.p9_r3k.specs.declared.lines.Line.{Line}
use Rattle.p9_slot.specs.Aimed.{IsAimed, AreAimed}
use Rattle.p9_slot.specs.Blocks.{goes_to, is_named}
use Rattle.p9_lines.specs.Weights.{inst_words, words_needed}
use Rattle.p9_expand.specs.Program.{aimed, marked}

-- Marks change neither instructions nor targets

pub marked-length : (f : ℕ → Bool) (n : ℕ) (lines : List Line) → length (marked f n lines) ≡ length lines
marked-length f n [] = refl
marked-length f n (line ∷ rest) = ap suc (marked-length f (n + 1) rest)

pub marked-aimed : (f : ℕ → Bool) (n m : ℕ) (lines : List Line) → AreAimed m lines → AreAimed m (marked f n lines)
marked-aimed f n m [] h = tt
marked-aimed f n m (line ∷ rest) h = (h.0, marked-aimed f (n + 1) m rest h.1)

pub marked-named : (f : ℕ → Bool) (n t : ℕ) (lines : List Line) → is_named (marked f n lines) t ≡ is_named lines t
marked-named f n t [] = refl
marked-named f n t (line ∷ rest) = ap (λ b. goes_to t line.target || b) (marked-named f (n + 1) t rest)

pub marked-at : (f : ℕ → Bool) (n i : ℕ) (lines : List Line) (line : Line) → slice_get (marked f n lines) i ≡ Some line → line.is_target ≡ f (n + i)
marked-at f n i [] line e = absurd (cc e)
marked-at f n zero (first ∷ rest) line e =
    let same : record first { is_target = f n } ≡ line = cc in
    sym (ap (λ (l : Line). l.is_target) same) ∙ ap f (omega arith)
marked-at f n (suc i) (first ∷ rest) line e = marked-at f (n + 1) i rest line e ∙ ap f (omega arith)

words-cons : (line : Line) (rest : List Line) → words_needed (line ∷ rest) ≡ inst_words line.inst + words_needed rest
words-cons line rest = sum_by-cons (λ (l : Line). inst_words l.inst) line rest

pub marked-words : (f : ℕ → Bool) (n : ℕ) (lines : List Line) → words_needed (marked f n lines) ≡ words_needed lines
marked-words f n [] = refl
marked-words f n (line ∷ rest) =
    omega (arith, words-cons (record line { is_target = f n }) (marked f (n + 1) rest), words-cons line rest, marked-words f (n + 1) rest)

-- Targets by the numbers of lines

target-aimed : (starts : List ℕ) (n m : ℕ) (inst : Inst) (o : Option ℕ) → ((t : ℕ) → t < n → get_or starts t 0 < m) → IsAimed n inst o → IsAimed m inst (option_map (slice_index starts) o)
target-aimed starts n m inst None below h = h
target-aimed starts n m inst (Some t) below h = below t h

pub aimed-aimed : (starts : List ℕ) (n m : ℕ) (lines : List Line) → ((t : ℕ) → t < n → get_or starts t 0 < m) → AreAimed n lines → AreAimed m (map (aimed starts) lines)
aimed-aimed starts n m [] below h = tt
aimed-aimed starts n m (line ∷ rest) below h = (target-aimed starts n m line.inst line.target below h.0, aimed-aimed starts n m rest below h.1)

pub aimed-words : (starts : List ℕ) (lines : List Line) → words_needed (map (aimed starts) lines) ≡ words_needed lines
aimed-words starts [] = refl
aimed-words starts (line ∷ rest) =
    omega (arith, words-cons (aimed starts line) (map (aimed starts) rest), words-cons line rest, aimed-words starts rest)
