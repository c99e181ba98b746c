-- Lines that are marked by flags.
use Rattle.std.proofs.Common.{ℕ, ◌+◌, ◌≡◌, ◌<◌, ◌||◌, Bool, false, get_or, replicate, List, [], ◌∷◌, length, refl, ap, ◌∙◌, arith, Result, Ok, Err, IfOk}
use Rattle.std.proofs.lemmas.Grind.{common_steps}
use Rattle.p9_abs.specs.Runs.{Routine}
use Rattle.p9_r3k.specs.declared.lines.Line.{Line}
use Rattle.p9_slot.specs.Blocks.{is_named}
use Rattle.p9_expand.specs.Program.{is_first, marked, with_targets}

-- tests that agree on the numbers of the lines
marked-same : (f g : ℕ → Bool) (n : ℕ) (lines : List Line) → ((i : ℕ) → i < n + length lines → f i ≡ g i) → marked f n lines ≡ marked g n lines
marked-same f g n [] h = refl
marked-same f g n (line ∷ rest) h =
    ap (λ b. record line { is_target = b } ∷ marked f (n + 1) rest) (h n (omega arith))
    ∙ ap (λ l. record line { is_target = g n } ∷ l) (marked-same f g (n + 1) rest (λ i below. h i (omega (arith, below))))

unmarked : (n k : ℕ) → get_or (replicate n false) k false ≡ false
unmarked n k = grind (arith, common_steps)

-- from flags that are all false, by way of those that mark the first lines and of those that mark also what is named
pub targets_marked : (starts : List ℕ) (rs : List Routine) (lines : List Line) (none entered firsts again named flags : List Bool) (new : List Line) →
    none ≡ replicate (length lines) false → entered ≡ none →
    ((k : ℕ) → k < length entered → get_or firsts k false ≡ get_or entered k false || is_first starts 0 rs k) →
    again ≡ firsts → length firsts ≡ length entered →
    ((k : ℕ) → k < length again → get_or named k false ≡ get_or again k false || is_named lines k) →
    flags ≡ named →
    new ≡ marked (λ i. get_or flags i false) 0 lines → new ≡ with_targets starts rs lines
targets_marked starts rs lines none entered firsts again named flags new n same f anew count g last made =
    made ∙ marked-same (λ i. get_or flags i false) (λ i. is_first starts 0 rs i || is_named lines i) 0 lines each
  where
    long : length entered ≡ length lines
    long = ap length (same ∙ n) ∙ grind (arith, common_steps)

    each : (i : ℕ) → i < 0 + length lines → get_or flags i false ≡ is_first starts 0 rs i || is_named lines i
    each i below =
        let within : i < length entered = omega (arith, below, long) in
        let within_again : i < length again = omega (arith, within, count, ap length anew) in
        let clear : get_or entered i false ≡ false = ap (λ l. get_or l i false) (same ∙ n) ∙ unmarked (length lines) i in
        ap (λ l. get_or l i false) last ∙ g i within_again
        ∙ ap (λ b. b || is_named lines i) (ap (λ l. get_or l i false) anew ∙ f i within ∙ ap (λ b. b || is_first starts 0 rs i) clear)

-- a fact of an answer from another
pub if-ok : {A F : Type 0} (P Q : A → Type 0) → ((a : A) → P a → Q a) → (r : Result A F) → IfOk r P → IfOk r Q
if-ok P Q to (Ok a) h = to a h
if-ok P Q to (Err f) h = tt
