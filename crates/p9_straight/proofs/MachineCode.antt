-- Pieces of `main`'s code, and the registers that the machine has behind them.
use Rattle.std.proofs.Common.{◌≡◌, ℕ, zero, suc, ◌+◌, ◌*◌, ◌/◌, ◌%◌, ◌^◌, ◌<◌, false, List, [], ◌∷◌, ◌++◌, length, slice_index, slice_set, replicate, length-append, refl, sym, ap, ◌∙◌, arith}
use Rattle.std.specs.Prelude.{◌==◌, bit_or}
use Rattle.std.proofs.lemmas.Bool.Decides.{nat_tests}
use Rattle.std.proofs.lemmas.Nat.{or_shifted}
use Rattle.std.proofs.lemmas.List.{get_or-set_same}
use Rattle.p9_r3k.specs.declared.inst.Inst.{Inst}
use Rattle.p9_r3k.specs.declared.inst.Inst.TheVariants.{Lui, Ori}
use Rattle.p9_r3k.specs.Memory.{with_reg}
use Rattle.p9_r3k.specs.Machine.{State, step, run}
use Rattle.p9_r3k.proofs.Runs.{run-sum, run-suc, run-zero}
use Rattle.p9_straight.specs.Code.{set_register}
use Rattle.p9_straight.proofs.MachineSteps.{Fixed, standing, IsAt, Room, step_lui, step_ori}

-- Code at an address

-- the text has these instructions from this address on
abbrev pub Follows : (text : List ℕ) (pc : ℕ) → List Inst → Type 0
Follows text pc [] = Unit {0}
Follows text pc (i ∷ is) = IsAt text pc i × Follows text (pc + 4) is

-- the address behind instructions
abbrev pub behind : (pc : ℕ) → List Inst → ℕ
behind pc [] = pc
behind pc (i ∷ is) = behind (pc + 4) is

pub follows_first : (text : List ℕ) (pc : ℕ) (xs ys : List Inst) → Follows text pc (xs ++ ys) → Follows text pc xs
follows_first text pc [] ys f = tt
follows_first text pc (x ∷ xs) ys f = (f.0, follows_first text (pc + 4) xs ys f.1)

pub follows_then : (text : List ℕ) (pc : ℕ) (xs ys : List Inst) → Follows text pc (xs ++ ys) → Follows text (behind pc xs) ys
follows_then text pc [] ys f = f
follows_then text pc (x ∷ xs) ys f = follows_then text (pc + 4) xs ys f.1

-- Runs over code

run_first : (n : ℕ) (s : State) → run (suc n) s ≡ run n (step s)
run_first zero s = run-suc 0 s ∙ (ap step (run-zero s) ∙ sym (run-zero (step s)))
run_first (suc n) s = run-suc (suc n) s ∙ (ap step (run_first n s) ∙ sym (run-suc n (step s)))

pub ran_none : (s : State) → run 0 s ≡ s
ran_none s = run-zero s

-- one instruction, and then others
pub ran_then : (i : Inst) (is : List Inst) (s t u : State) → step s ≡ t → run (length is) t ≡ u → run (length (i ∷ is)) s ≡ u
ran_then i is s t u e f =
    run_first (length is) s ∙ (ap (λ x. run (length is) x) e ∙ f)

pub ran_both : (xs ys : List Inst) (s t u : State) → run (length xs) s ≡ t → run (length ys) t ≡ u → run (length (xs ++ ys)) s ≡ u
ran_both xs ys s t u e f =
    ap (λ n. run n s) (length-append xs ys) ∙ (run-sum (length xs) (length ys) s ∙ (ap (λ x. run (length ys) x) e ∙ f))

-- Registers

pub set_twice : (xs : List ℕ) (i a b : ℕ) → slice_set (slice_set xs i a) i b ≡ slice_set xs i b
set_twice [] i a b = refl
set_twice (x ∷ xs) zero a b = refl
set_twice (x ∷ xs) (suc i) a b = ap (λ l. x ∷ l) (set_twice xs i a b)

not_zero : (r : ℕ) → 0 < r → (r == 0) ≡ false
not_zero r h = grind (arith, nat_tests)

pub with_reg_is : (regs : List ℕ) (r v : ℕ) → 0 < r → with_reg regs r v ≡ slice_set regs r v
with_reg_is regs r v h = rw (not_zero r h) refl

halves : (v : ℕ) → bit_or (v / 65536 * 2 ^ 16) (v % 65536) ≡ v
halves v =
    let e : bit_or (v / 65536 * 2 ^ 16) (v % 65536) ≡ v / 65536 * 2 ^ 16 + v % 65536 = or_shifted (v / 65536) 16 (v % 65536) (omega arith) in
    let f : v / 65536 * 2 ^ 16 + v % 65536 ≡ v = omega arith in
    e ∙ f

both_halves : (regs : List ℕ) (r v : ℕ) → 0 < r → r < length regs → with_reg (with_reg regs r (v / 65536 * 2 ^ 16)) r (bit_or (slice_index (with_reg regs r (v / 65536 * 2 ^ 16)) r) (v % 65536)) ≡ slice_set regs r v
both_halves regs r v some within =
    ap (λ l. with_reg l r (bit_or (slice_index l r) (v % 65536))) (with_reg_is regs r (v / 65536 * 2 ^ 16) some)
    ∙ (with_reg_is (slice_set regs r (v / 65536 * 2 ^ 16)) r (bit_or (slice_index (slice_set regs r (v / 65536 * 2 ^ 16)) r) (v % 65536)) some
    ∙ (ap (λ x. slice_set (slice_set regs r (v / 65536 * 2 ^ 16)) r (bit_or x (v % 65536))) (get_or-set_same regs r (v / 65536 * 2 ^ 16) 0 within)
    ∙ (ap (λ x. slice_set (slice_set regs r (v / 65536 * 2 ^ 16)) r x) (halves v) ∙ set_twice regs r (v / 65536 * 2 ^ 16) v)))

-- a word is put into a register
pub sets : (m : Fixed) (regs low stack : List ℕ) (pc : ℕ) (out : List ℕ) (r v : ℕ) → Room m low → Follows m.text pc (set_register r v) → 0 < r → r < length regs → run (length (set_register r v)) (standing m regs low stack pc 0 out) ≡ standing m (slice_set regs r v) low stack (pc + 4 + 4) 0 out
sets m regs low stack pc out r v room code some within =
    let high : List ℕ = with_reg regs r (v / 65536 * 2 ^ 16) in
    ran_then (Lui r (v / 65536)) (Ori r r (v % 65536) ∷ []) (standing m regs low stack pc 0 out) (standing m high low stack (pc + 4) 0 out) (standing m (slice_set regs r v) low stack (pc + 4 + 4) 0 out)
    (step_lui m regs low stack pc out r (v / 65536) room code.0)
    (ran_then (Ori r r (v % 65536)) [] (standing m high low stack (pc + 4) 0 out) (standing m (slice_set regs r v) low stack (pc + 4 + 4) 0 out) (standing m (slice_set regs r v) low stack (pc + 4 + 4) 0 out)
    (step_ori m high low stack (pc + 4) out r r (v % 65536) room code.1.0 ∙ ap (λ l. standing m l low stack (pc + 4 + 4) 0 out) (both_halves regs r v some within))
    (ran_none (standing m (slice_set regs r v) low stack (pc + 4 + 4) 0 out)))

-- the registers that `main` uses; register 29 holds the address below the arguments of system calls
abbrev pub registers : (one two three four : ℕ) → List ℕ
registers one two three four = 0 ∷ one ∷ two ∷ three ∷ four ∷ replicate 24 0 ++ 0x7FFFEFF0 ∷ 0 ∷ 0 ∷ []
