-- The steps of a call come to one event alone; steps back only grow.
use Rattle.std.proofs.Common.{◌≡◌, ◌≤◌, ℕ, zero, suc, ◌+◌, Bool, true, false, if◌then◌else◌, List, ◌∷◌, ◌++◌, length, length-append, refl, sym, ap, ◌∙◌, subst, arith}
use Rattle.p9_base.specs.SystemCalls.{State, exit_text}
use Rattle.p9_abs.specs.declared.instructions.TextDef.{TextDef}
use Rattle.p9_abs.specs.Steps.{Mach, Step, Next, Turns, Calls, Returns, Exits, Undefined}
use Rattle.p9_abs.specs.Runs.{keeps, linked_to, raised}
use Rattle.p9_cmean.specs.Cells as c
use Rattle.p9_cmean.specs.Cells.{Value}
use Rattle.p9_cmean.specs.Plays.{Done, Exit}
use Rattle.p9_sim.specs.Memory.{Map}
use Rattle.p9_sim.specs.Playing.{AllSteps, Branches, Counting, Count, after_plain, after_branch, Setting, step_in, Continues, Goes, IsEven, Performs}
use Rattle.p9_sim.specs.Examples.{PrintedTwice, ReadBehindExit, OtherText}

-- the step leaves the call, or waits for another
abbrev pub IsEvent : Step → Type 0
IsEvent (Next z) = ⊥
IsEvent (Turns taken z) = ⊥
IsEvent (Calls to z) = Unit {0}
IsEvent (Returns z) = Unit {0}
IsEvent (Exits z) = Unit {0}
IsEvent Undefined = ⊥

no-event : (set : Setting) (s : Step) (at : ℕ) (d : Count) (P : Mach → Count → Type 0) → Continues set s at d P → IsEvent s → ⊥
no-event set (Next z) at d P h e = e
no-event set (Turns taken z) at d P h e = e
no-event set (Calls to z) at d P h e = h
no-event set (Returns z) at d P h e = h
no-event set (Exits z) at d P h e = h
no-event set Undefined at d P h e = e

both : (set : Setting) (s : Step) (at : ℕ) (d : Count) (P Q : Mach → Count → Type 0) (R : Type 0) → Continues set s at d P → Continues set s at d Q
    → ((z : Mach) (f : Count) → P z f → Q z f → R) → R
both set (Next z) at d P Q R h k go = go z (after_plain set.counting d) h k
both set (Turns taken z) at d P Q R h k go = go z (after_branch taken at z.at d) h k
both set (Calls to z) at d P Q R h k go = absurd h
both set (Returns z) at d P Q R h k go = absurd h
both set (Exits z) at d P Q R h k go = absurd h
both set Undefined at d P Q R h k go = absurd h

pub one-event : (set : Setting) (j k : ℕ) (x y z : Mach) (d e f : Count) → Goes set j x d y e → IsEvent (step_in set y) → Goes set k x d z f → IsEvent (step_in set z) → y ≡ z
one-event set zero zero x y z d e f g h i l = sym g.0 ∙ i.0
one-event set zero (suc k) x y z d e f g h i l =
    absurd (no-event set (step_in set x) x.at d (λ w n. Goes set k w n z f) i (subst (λ w. IsEvent (step_in set w)) (sym g.0) h))
one-event set (suc j) zero x y z d e f g h i l =
    absurd (no-event set (step_in set x) x.at d (λ w n. Goes set j w n y e) g (subst (λ w. IsEvent (step_in set w)) (sym i.0) l))
one-event set (suc j) (suc k) x y z d e f g h i l =
    both set (step_in set x) x.at d (λ w n. Goes set j w n y e) (λ w n. Goes set k w n z f) (y ≡ z) g i
    (λ w n a b. one-event set j k w y z n e f a h b l)

-- along the steps of a call, steps back only grow, and what is allowed stays
abbrev pub Later : Count → Count → Type 0
Later d e = (d.backs ≤ e.backs) × (e.allowed ≡ d.allowed)

plain-later : (counting : Counting) (d : Count) → Later d (after_plain counting d)
plain-later AllSteps d = (omega arith, refl)
plain-later Branches d = (omega arith, refl)

goes-later-by : (set : Setting) (s : Step) (at : ℕ) (d e : Count) (P : Mach → Count → Type 0) → ((z : Mach) (f : Count) → P z f → Later f e) → Continues set s at d P → Later d e
goes-later-by set (Next z) at d e P rec h =
    let r = rec z (after_plain set.counting d) h in let p = plain-later set.counting d in let r0 = r.0 in let p0 = p.0 in
    (omega (arith, r0, p0), r.1 ∙ p.1)
goes-later-by set (Turns taken z) at d e P rec h =
    let r = rec z (after_branch taken at z.at d) h in let r0 = r.0 in (omega (arith, r0), r.1)
goes-later-by set (Calls to z) at d e P rec h = absurd h
goes-later-by set (Returns z) at d e P rec h = absurd h
goes-later-by set (Exits z) at d e P rec h = absurd h
goes-later-by set Undefined at d e P rec h = absurd h

pub goes-later : (set : Setting) (j : ℕ) (x y : Mach) (d e : Count) → Goes set j x d y e → Later d e
goes-later set zero x y d e h = (subst (λ f. d.backs ≤ f.backs) h.1 (omega arith), ap (λ f. f.allowed) (sym h.1))
goes-later set (suc j) x y d e h =
    goes-later-by set (step_in set x) x.at d e (λ z f. Goes set j z f y e) (λ z f g. goes-later set j z y f e g) h

pub returns-same : (a b : Mach) → Returns a ≡ Returns b → a ≡ b
returns-same a b h = cc

exits-same : (a b : Mach) → Exits a ≡ Exits b → a ≡ b
exits-same a b h = cc

-- a return leaves output and input
if-even : (b : Bool) (x y : State) → x.out ≡ y.out → x.left ≡ y.left → (let w : State = if b then x else y in (y.out ≡ w.out) × (y.left ≡ w.left))
if-even true x y o i = (sym o, sym i)
if-even false x y o i = (refl, refl)

returned-even : (def : TextDef) (y : State) → (let w : State = raised def y in (y.out ≡ w.out) × (y.left ≡ w.left))
returned-even def y = if-even (keeps def) _ y refl refl

-- where code that does what a play does returns, it has the play's output and input
pub even-at-return : (set : Setting) (v : Value) (s : c.State) (m : Map) (d e : Count) (x y z : Mach) (j : ℕ) → Goes set j x d y e → step_in set y ≡ Returns z
    → Performs set (Done v s) m d x → IsEven s z.state
even-at-return set v s m d e x y z j g h p =
    let r = p.0 in
    let same : r.to ≡ y = one-event set r.steps j x r.to y d r.count e r.goes (subst IsEvent (sym p.2) tt) g (subst IsEvent (sym h) tt) in
    let is : p.1 ≡ z = returns-same p.1 z (sym p.2 ∙ (ap (step_in set) same ∙ h)) in
    let ans = p.5 0 (omega arith) in
    let kept = returned-even set.def (linked_to 0 p.1.state) in
    subst (λ w. IsEven s w.state) is (kept.0 ∙ ans.matched.output, kept.1 ∙ ans.matched.input)

-- where it exits, it has the play's text, output and input
pub even-at-exit : (set : Setting) (text : List ℕ) (s : c.State) (m : Map) (d e : Count) (x y z : Mach) (j : ℕ) → Goes set j x d y e → step_in set y ≡ Exits z
    → Performs set (Exit text s) m d x → (exit_text z.state.core ≡ text) × IsEven s z.state
even-at-exit set text s m d e x y z j g h p =
    let r = p.0 in
    let same : r.to ≡ y = one-event set r.steps j x r.to y d r.count e r.goes (subst IsEvent (sym p.2) tt) g (subst IsEvent (sym h) tt) in
    let is : p.1 ≡ z = exits-same p.1 z (sym p.2 ∙ (ap (step_in set) same ∙ h)) in
    subst (λ w. (exit_text w.state.core ≡ text) × IsEven s w.state) is (p.4, p.5)

longer : (xs more : List ℕ) (b : ℕ) → xs ≡ xs ++ b ∷ more → ⊥
longer xs more b h = let e : length xs ≡ length xs + length (b ∷ more) = ap length h ∙ length-append xs (b ∷ more) in omega (arith, e)

shorter : (xs more : List ℕ) (b : ℕ) → xs ≡ b ∷ (more ++ xs) → ⊥
shorter xs more b h = let e : length xs ≡ suc (length (more ++ xs)) = ap length h in let f = length-append more xs in omega (arith, e, f)

pub printed_twice : PrintedTwice
printed_twice set v s m d e x y z j b more g h out p =
    let q = even-at-return set v s m d e x y z j g h p in longer s.output more b (sym q.0 ∙ out)

pub read_behind_exit : ReadBehindExit
read_behind_exit set text s m d e x y z j b more g h input p =
    let q = even-at-exit set text s m d e x y z j g h p in
    shorter s.input more b (input ∙ ap (λ l. b ∷ (more ++ l)) q.1.1)

pub other_text : OtherText
other_text set text s m d e x y z j g h other p = other (even-at-exit set text s m d e x y z j g h p).0

-- the first step of several
pub after-next : (set : Setting) (j : ℕ) (x y z : Mach) (d e : Count) → step_in set x ≡ Next z → Goes set j x d y e → IsEvent (step_in set y) → (k : ℕ) × Goes set k z (after_plain set.counting d) y e
after-next set zero x y z d e h g i = absurd (subst IsEvent (ap (step_in set) (sym g.0) ∙ h) i)
after-next set (suc j) x y z d e h g i = (j, subst (λ s. Continues set s x.at d (λ w f. Goes set j w f y e)) h g)

pub after-turns : (set : Setting) (j : ℕ) (x y z : Mach) (d e : Count) (taken : Bool) → step_in set x ≡ Turns taken z → Goes set j x d y e → IsEvent (step_in set y)
    → (k : ℕ) × Goes set k z (after_branch taken x.at z.at d) y e
after-turns set zero x y z d e taken h g i = absurd (subst IsEvent (ap (step_in set) (sym g.0) ∙ h) i)
after-turns set (suc j) x y z d e taken h g i = (j, subst (λ s. Continues set s x.at d (λ w f. Goes set j w f y e)) h g)

pub one-step : (set : Setting) (x z : Mach) (d : Count) → step_in set x ≡ Next z → Goes set 1 x d z (after_plain set.counting d)
one-step set x z d h = subst (λ s. Continues set s x.at d (λ w f. (w ≡ z) × (f ≡ after_plain set.counting d))) (sym h) (refl, refl)

pub calls-same : (a b : ℕ) (x y : Mach) → Calls a x ≡ Calls b y → (a ≡ b) × (x ≡ y)
calls-same a b x y h = (cc, cc)
