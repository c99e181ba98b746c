-- Runs of a program, and what the steps of one call are in it.
use Rattle.std.proofs.Common.{◌≡◌, ◌≤◌, ◌<◌, ◌⊎◌, inl, inr, ℕ, ◌+◌, ◌*◌, nat_le, Bool, true, false, Some, List, refl, sym, ap, ◌∙◌, subst, arith, if◌then◌else◌, slice_get, add-mul, mul-le-mul_right, one-mul}
use Rattle.std.proofs.lemmas.Bool.Decides.{nat_tests}
use Rattle.p9_abs.specs.Steps.{Step, step}
use Rattle.p9_abs.specs.Runs.{Routine, Addresses, Run, Status, Going, around_of, stepped, in_routine, onward, arun_from}
use Rattle.p9_abs.proofs.Growing.{runs_compose}
use Rattle.p9_sim.specs.Playing.{back_step}

pub runs-zero : (p : Addresses) (rs : List Routine) (s : Status) → arun_from p rs 0 s ≡ s
unfolding arun_from
runs-zero p rs s = refl

pub runs-one : (p : Addresses) (rs : List Routine) (s : Status) → arun_from p rs 1 s ≡ onward p rs s
unfolding arun_from
runs-one p rs s = refl

pub runs-next : (p : Addresses) (rs : List Routine) (j : ℕ) (s t u : Status) → arun_from p rs j s ≡ t → onward p rs t ≡ u → arun_from p rs (j + 1) s ≡ u
runs-next p rs j s t u e f = runs_compose p rs j 1 s ∙ (ap (arun_from p rs 1) e ∙ (runs-one p rs t ∙ f))

pub onward-step : (p : Addresses) (rs : List Routine) (r : Run) (rt : Routine) (st : Step) → slice_get rs r.routine ≡ Some rt →
    step (around_of p rt r) rt.def.code r.mach ≡ st → onward p rs (Going r) ≡ stepped p rs rt r st
onward-step p rs r rt st is e = ap (λ o. in_routine p rs o r) is ∙ ap (stepped p rs rt r) e

pub back-or-not : (taken : Bool) (from to : ℕ) → (taken ≡ false → to ≡ from + 1) → (back_step taken from to ≡ 1) ⊎ ((back_step taken from to ≡ 0) × (from + 1 ≤ to))
back-or-not false from to h = inr (refl, (let e = h refl in omega (arith, e)))
back-or-not true from to h = go (nat_le to from) refl
  where
    go : (b : Bool) → nat_le to from ≡ b → (◌≡◌ {A = ℕ} (if b then 1 else 0) 1) ⊎ ((◌≡◌ {A = ℕ} (if b then 1 else 0) 0) × (from + 1 ≤ to))
    go true e = inl refl
    go false e = inr (refl, grind (arith, nat_tests))

-- Costs: at most this many steps, from the entry's JAL on

-- a step forward
pub cost-on : (most J at to b e b' : ℕ) → J ≤ 1 + at + (b + e) * most → b' ≡ b → at + 1 ≤ to → J + 1 ≤ 1 + to + (b' + e) * most
cost-on most J at to b e b' h s t = subst (λ q. J + 1 ≤ 1 + to + (q + e) * most) (sym s) (omega (arith, h, t))

-- a step back
pub cost-back : (most J at to b e b' : ℕ) → J ≤ 1 + at + (b + e) * most → b' ≡ b + 1 → at < most → J + 1 ≤ 1 + to + (b' + e) * most
cost-back most J at to b e b' h s t =
    let m : ((b + e) + 1) * most ≡ (b + e) * most + 1 * most = add-mul (b + e) 1 most in
    let o : 1 * most ≡ most = one-mul most in
    let q : (b + e) + 1 ≡ b' + e = omega (arith, s) in
    subst (λ n. J + 1 ≤ 1 + to + n * most) q (omega (arith, h, t, m, o))

-- after an inner call, from its JAL at y on: the call's own cost, from its JAL on, was j
pub cost-inner : (most J j at to b e e' n c left c1 : ℕ) → J ≤ 1 + at + (b + e) * most → to ≡ at + 1 → j + (left + c) * most ≤ 1 + (n + c1) * most →
    e' + (left + c) ≡ e + (n + c1) → J + j ≤ 1 + to + (b + e') * most
cost-inner most J j at to b e e' n c left c1 h t i s =
    let a : (b + e') * most ≡ b * most + e' * most = add-mul b e' most in
    let d : (b + e) * most ≡ b * most + e * most = add-mul b e most in
    let f : (e' + (left + c)) * most ≡ e' * most + (left + c) * most = add-mul e' (left + c) most in
    let g : (e + (n + c1)) * most ≡ e * most + (n + c1) * most = add-mul e (n + c1) most in
    let q : (e' + (left + c)) * most ≡ (e + (n + c1)) * most = ap (λ z. z * most) s in
    omega (arith, h, t, i, a, d, f, g, q)

-- at the end of a call: `rest` is what is left of turns, with the bytes copied before
pub cost-end : (most J at b e allowed rest all : ℕ) → J ≤ 1 + at + (b + e) * most → at < most → b ≤ allowed → all ≡ rest + 1 + allowed + e →
    J + 1 + rest * most ≤ 1 + all * most
cost-end most J at b e allowed rest all h t le s =
    let a : (b + e) * most ≡ b * most + e * most = add-mul b e most in
    let d : b * most ≤ allowed * most = mul-le-mul_right most le in
    let f : (rest + 1 + allowed + e) * most ≡ (rest + 1 + allowed) * most + e * most = add-mul (rest + 1 + allowed) e most in
    let g : (rest + 1 + allowed) * most ≡ (rest + 1) * most + allowed * most = add-mul (rest + 1) allowed most in
    let i : (rest + 1) * most ≡ rest * most + 1 * most = add-mul rest 1 most in
    let o : 1 * most ≡ most = one-mul most in
    let q : all * most ≡ (rest + 1 + allowed + e) * most = ap (λ z. z * most) s in
    omega (arith, h, t, a, d, f, g, i, o, q)

-- where an inner call has ended the program, with `j` steps and c1 bytes copied
pub cost-over : (most J j at b e allowed n c c0 c1 k : ℕ) → J ≤ 1 + at + (b + e) * most → at < most → b ≤ allowed → k + c ≡ n + c0 + 1 + allowed + e →
    j + c * most ≤ 1 + (n + c1) * most → J + j + c0 * most ≤ 1 + (k + c1) * most
cost-over most J j at b e allowed n c c0 c1 k h t le s i =
    let a : J + 1 + (n + c0) * most ≤ 1 + (k + c) * most = cost-end most J at b e allowed (n + c0) (k + c) h t le s in
    let d : (n + c0) * most ≡ n * most + c0 * most = add-mul n c0 most in
    let f : (k + c) * most ≡ k * most + c * most = add-mul k c most in
    let g : (n + c1) * most ≡ n * most + c1 * most = add-mul n c1 most in
    let q : (k + c1) * most ≡ k * most + c1 * most = add-mul k c1 most in
    omega (arith, a, d, f, g, q, i)

pub cost-less : (most j n c k all : ℕ) → j + (n + c) * most ≤ 1 + all * most → j + c * most ≤ 1 + all * most
cost-less most j n c k all h = let d : (n + c) * most ≡ n * most + c * most = add-mul n c most in omega (arith, h, d)
