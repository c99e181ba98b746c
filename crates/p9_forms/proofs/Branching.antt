-- Branches, jumps and calls.
use Rattle.std.proofs.Common.{ℕ, ◌+◌, ◌==◌, ◌≡◌, ◌||◌, Bool, true, false, not, Option, Some, None, IsSome, refl, sym, ap, ◌∙◌, subst, arith, if◌then◌else◌, [], ◌∷◌, length}
use Rattle.std.specs.Prelude.{option_map, slice_get}
use Rattle.std.proofs.lemmas.Option.{none-some, same_Some}
use Rattle.p9_base.specs.Words.{is_negative}
use Rattle.p9_base.specs.declared.halt.Ending.TheVariants.{Running}
use Rattle.p9_base.specs.declared.halt.Effect.TheVariants as effects
use Rattle.p9_base.specs.Core.{reg}
use Rattle.p9_base.specs.SystemCalls.{State}
use Rattle.p9_abs.specs.declared.forms.PairTest.{PairTest}
use Rattle.p9_abs.specs.declared.forms.PairTest.TheVariants.{Equal, Unequal}
use Rattle.p9_abs.specs.declared.forms.SignTest.{SignTest}
use Rattle.p9_abs.specs.declared.forms.SignTest.TheVariants.{NotNegative, Positive, NotPositive, Negative}
use Rattle.p9_abs.specs.declared.forms.Form.{Form}
use Rattle.p9_abs.specs.declared.forms.Form.TheVariants as forms
use Rattle.p9_abs.specs.Steps.{Mach, turns, calls, pair_holds, sign_holds}
use Rattle.p9_abs.specs.Runs.{linked_to}
use Rattle.p9_r3k.specs.declared.inst.Inst.{Inst}
use Rattle.p9_r3k.specs.declared.inst.Inst.TheVariants as i
use Rattle.p9_r3k.specs.Effects.{effect_of, branch_to}
use Rattle.p9_r3k.specs.Straight.{Straight, on_to, linked_line, straight_step, straight_run}
use Rattle.p9_lines.specs.Insts.{pair_branch, sign_branch, other_pair, other_sign}
use Rattle.p9_lines.specs.FormLines.{plain, going_to, jump_lines, branch_lines}
use Rattle.p9_forms.specs.Standing.{Rest, stands, placed, Stand, Arrives}
use Rattle.p9_forms.specs.Following.{Site, Follows}
use Rattle.p9_forms.specs.Laws.{IsFree}
use Rattle.p9_forms.proofs.Temporary.{rest_at, seen, seen_state, seen-other, line-by, register-written, run-none, run-one, arrives}
use Rattle.p9_forms.proofs.Doing.{Usual}

-- a line that is a branch, or the jump J
abbrev IsTurn : (h : Site) (s : State) → Inst → Bool → Type 0
IsTurn h s inst b = (n t : ℕ) (k : Rest) → (to : ℕ) × (effect_of inst (seen h.addresses n t k s) ≡ effects.Branch 0 b to)

turn-taken : (h : Site) (n t : ℕ) (k : Rest) (s : State) (mark : Bool) (inst : Inst) (goal : ℕ) → s.core.ending ≡ Running →
    slice_get h.lines n ≡ Some (placed h.place mark (going_to inst goal)) → IsTurn h s inst true →
    straight_step h.addresses h.lines (stands t k s n) ≡ stands t (rest_at h.addresses n k) s (h.place goal)
turn-taken h n t k s mark inst goal running found turn =
    let e = turn n t k in
    line-by h.addresses h.lines n t k s (placed h.place mark (going_to inst goal)) (effects.Branch 0 true e.0) running found e.1

turn-passed : (h : Site) (n t : ℕ) (k : Rest) (s : State) (mark : Bool) (inst : Inst) (goal : ℕ) → s.core.ending ≡ Running →
    slice_get h.lines n ≡ Some (placed h.place mark (going_to inst goal)) → IsTurn h s inst false →
    straight_step h.addresses h.lines (stands t k s n) ≡ stands t (rest_at h.addresses n k) s (n + 1)
turn-passed h n t k s mark inst goal running found turn =
    let e = turn n t k in
    line-by h.addresses h.lines n t k s (placed h.place mark (going_to inst goal)) (effects.Branch 0 false e.0) running found e.1

jump-turns : (h : Site) (s : State) → IsTurn h s (i.J 0) true
jump-turns h s n t k = (_, refl)

-- Branches

some-goal : (o : Option ℕ) → IsSome o → (g : ℕ) × (o ≡ Some g)
some-goal None h = absurd (cc h)
some-goal (Some g) h = (g, refl)

pub branched : (h : Site) (form : Form) (t : ℕ) (k : Rest) (x : Mach) (inst other : Inst) (b : Bool) (l : ℕ) → Usual x.state → IsSome h.way.goal →
    IsTurn h x.state inst b → IsTurn h x.state other (not b) →
    Stand h.lines h.place h.first (branch_lines h.way inst other) → h.place h.way.next ≡ h.first + length (branch_lines h.way inst other) →
    Follows h form (stands t k x.state h.first) (turns b l x)
branched h form t k x inst other b l u has turn back there next =
    let (g, goal) = some-goal h.way.goal has in
    go h.way.short b g goal turn back
    (subst (λ o. Stand h.lines h.place h.first (if h.way.short then jump_lines inst o else going_to other h.way.next ∷ jump_lines (i.J 0) o)) goal there)
    (next ∙ ap (λ o. h.first + length (if h.way.short then jump_lines inst o else going_to other h.way.next ∷ jump_lines (i.J 0) o)) goal)
  where
    from : Straight
    from = stands t k x.state h.first

    none : straight_run h.addresses h.lines 0 (stands t k x.state h.first) ≡ stands t k x.state h.first
    none = run-none h.addresses h.lines (stands t k x.state h.first)

    go : (short b : Bool) (g : ℕ) → h.way.goal ≡ Some g → IsTurn h x.state inst b → IsTurn h x.state other (not b) →
        Stand h.lines h.place h.first (if short then going_to inst g ∷ [] else going_to other h.way.next ∷ going_to (i.J 0) g ∷ []) →
        h.place h.way.next ≡ h.first + length (if short then going_to inst g ∷ [] else going_to other h.way.next ∷ going_to (i.J 0) g ∷ []) →
        Follows h form (stands t k x.state h.first) (turns b l x)
    go true true g goal turn back there next = λ q e.
        subst (λ m. Arrives h.addresses h.lines (stands t k x.state h.first) x.state (h.place m)) (same_Some g q (sym goal ∙ e))
        (arrives h.addresses h.lines 0 (stands t k x.state h.first) (stands t k x.state h.first) t (rest_at h.addresses h.first k) x.state (h.place g) none (omega arith)
        (turn-taken h h.first t k x.state there.0 inst g u.running there.1 turn))
    go true false g goal turn back there next =
        subst (λ m. Arrives h.addresses h.lines (stands t k x.state h.first) x.state m) (sym next)
        (arrives h.addresses h.lines 0 (stands t k x.state h.first) (stands t k x.state h.first) t (rest_at h.addresses h.first k) x.state (h.first + 1) none (omega arith)
        (turn-passed h h.first t k x.state there.0 inst g u.running there.1 turn))
    go false true g goal turn back there next = λ q e.
        subst (λ m. Arrives h.addresses h.lines (stands t k x.state h.first) x.state (h.place m)) (same_Some g q (sym goal ∙ e))
        (arrives h.addresses h.lines 1 (stands t k x.state h.first) (stands t (rest_at h.addresses h.first k) x.state (h.first + 1)) t (rest_at h.addresses (h.first + 1) (rest_at h.addresses h.first k)) x.state (h.place g)
        (run-one h.addresses h.lines (stands t k x.state h.first) ∙ turn-passed h h.first t k x.state there.0 other h.way.next u.running there.1 back) (omega arith)
        (turn-taken h (h.first + 1) t (rest_at h.addresses h.first k) x.state there.2.0 (i.J 0) g u.running there.2.1 (jump-turns h x.state)))
    go false false g goal turn back there next =
        arrives h.addresses h.lines 0 (stands t k x.state h.first) (stands t k x.state h.first) t (rest_at h.addresses h.first k) x.state (h.place h.way.next) none (omega arith)
        (turn-taken h h.first t k x.state there.0 other h.way.next u.running there.1 back)

not-not : (b : Bool) → b ≡ not (not b)
not-not true = refl
not-not false = refl

pair-turns : (h : Site) (s : State) (test : PairTest) (p q : ℕ) → IsFree p → IsFree q → IsTurn h s (pair_branch test p q) (pair_holds test (reg s.core p) (reg s.core q))
pair-turns h s Equal p q hp hq n t k = (
  _,
  ap (λ z. effects.Branch 0 (z == reg (seen h.addresses n t k s) q) (branch_to (seen h.addresses n t k s) 0)) (seen-other h.addresses n t k s p hp)
      ∙ ap (λ z. effects.Branch 0 (reg s.core p == z) (branch_to (seen h.addresses n t k s) 0)) (seen-other h.addresses n t k s q hq),
)
pair-turns h s Unequal p q hp hq n t k = (
  _,
  ap (λ z. effects.Branch 0 (not (z == reg (seen h.addresses n t k s) q)) (branch_to (seen h.addresses n t k s) 0)) (seen-other h.addresses n t k s p hp)
      ∙ ap (λ z. effects.Branch 0 (not (reg s.core p == z)) (branch_to (seen h.addresses n t k s) 0)) (seen-other h.addresses n t k s q hq),
)

other-pair : (test : PairTest) (a b : ℕ) → pair_holds (other_pair test) a b ≡ not (pair_holds test a b)
other-pair Equal a b = refl
other-pair Unequal a b = not-not (a == b)

sign-turns : (h : Site) (s : State) (test : SignTest) (p : ℕ) → IsFree p → IsTurn h s (sign_branch test p) (sign_holds test (reg s.core p))
sign-turns h s NotNegative p hp n t k = (_, ap (λ z. effects.Branch 0 (not (is_negative z)) (branch_to (seen h.addresses n t k s) 0)) (seen-other h.addresses n t k s p hp))
sign-turns h s Positive p hp n t k = (_, ap (λ z. effects.Branch 0 (not (is_negative z || (z == 0))) (branch_to (seen h.addresses n t k s) 0)) (seen-other h.addresses n t k s p hp))
sign-turns h s NotPositive p hp n t k = (_, ap (λ z. effects.Branch 0 (is_negative z || (z == 0)) (branch_to (seen h.addresses n t k s) 0)) (seen-other h.addresses n t k s p hp))
sign-turns h s Negative p hp n t k = (_, ap (λ z. effects.Branch 0 (is_negative z) (branch_to (seen h.addresses n t k s) 0)) (seen-other h.addresses n t k s p hp))

other-sign : (test : SignTest) (a : ℕ) → sign_holds (other_sign test) a ≡ not (sign_holds test a)
other-sign NotNegative a = not-not (is_negative a)
other-sign Positive a = not-not (is_negative a || (a == 0))
other-sign NotPositive a = refl
other-sign Negative a = refl

pub pair-branched : (h : Site) (form : Form) (t : ℕ) (k : Rest) (x : Mach) (test : PairTest) (p q l : ℕ) → Usual x.state → IsFree p → IsFree q → IsSome h.way.goal →
    Stand h.lines h.place h.first (branch_lines h.way (pair_branch test p q) (pair_branch (other_pair test) p q)) →
    h.place h.way.next ≡ h.first + length (branch_lines h.way (pair_branch test p q) (pair_branch (other_pair test) p q)) →
    Follows h form (stands t k x.state h.first) (turns (pair_holds test (reg x.state.core p) (reg x.state.core q)) l x)
pair-branched h form t k x test p q l u hp hq has there next =
    branched h form t k x (pair_branch test p q) (pair_branch (other_pair test) p q) (pair_holds test (reg x.state.core p) (reg x.state.core q)) l u has
    (pair-turns h x.state test p q hp hq)
    (subst (λ b. IsTurn h x.state (pair_branch (other_pair test) p q) b) (other-pair test (reg x.state.core p) (reg x.state.core q)) (pair-turns h x.state (other_pair test) p q hp hq))
    there next

pub sign-branched : (h : Site) (form : Form) (t : ℕ) (k : Rest) (x : Mach) (test : SignTest) (p l : ℕ) → Usual x.state → IsFree p → IsSome h.way.goal →
    Stand h.lines h.place h.first (branch_lines h.way (sign_branch test p) (sign_branch (other_sign test) p)) →
    h.place h.way.next ≡ h.first + length (branch_lines h.way (sign_branch test p) (sign_branch (other_sign test) p)) →
    Follows h form (stands t k x.state h.first) (turns (sign_holds test (reg x.state.core p)) l x)
sign-branched h form t k x test p l u hp has there next =
    branched h form t k x (sign_branch test p) (sign_branch (other_sign test) p) (sign_holds test (reg x.state.core p)) l u has
    (sign-turns h x.state test p hp)
    (subst (λ b. IsTurn h x.state (sign_branch (other_sign test) p) b) (other-sign test (reg x.state.core p)) (sign-turns h x.state (other_sign test) p hp))
    there next

-- Jumps and calls

pub jumped : (h : Site) (form : Form) (t : ℕ) (k : Rest) (x : Mach) (l : ℕ) → Usual x.state → Stand h.lines h.place h.first (jump_lines (i.J 0) h.way.goal) →
    Follows h form (stands t k x.state h.first) (turns true l x)
jumped h form t k x l u there q e =
    let here : Stand h.lines h.place h.first (going_to (i.J 0) q ∷ []) = subst (λ o. Stand h.lines h.place h.first (jump_lines (i.J 0) o)) e there in
    arrives h.addresses h.lines 0 (stands t k x.state h.first) (stands t k x.state h.first) t (rest_at h.addresses h.first k) x.state (h.place q)
    (run-none h.addresses h.lines (stands t k x.state h.first)) (omega arith) (turn-taken h h.first t k x.state here.0 (i.J 0) q u.running here.1 (jump-turns h x.state))

-- a line that puts the address of the next one into R31, and goes to a line
linked-on : (h : Site) (n t : ℕ) (k : Rest) (s : State) (j : ℕ) → on_to (Some j) n (linked_line h.addresses 31 n (seen_state h.addresses n t k s)) ≡ stands t (rest_at h.addresses n k) (linked_to (h.addresses.line (n + 1)) s) j
linked-on h n t k s j = register-written h.addresses n t k s 31 (h.addresses.line (n + 1)) j refl

pub called-by-name : (h : Site) (t : ℕ) (k : Rest) (x : Mach) (symbol to : ℕ) → Usual x.state → Stand h.lines h.place h.first (jump_lines (i.Jal 0) h.way.goal) →
    h.place h.way.next ≡ h.first + length (jump_lines (i.Jal 0) h.way.goal) →
    Follows h (forms.Call symbol) (stands t k x.state h.first) (calls to x)
called-by-name h t k x symbol to u there next = by h.way.goal there next
  where
    by : (o : Option ℕ) → Stand h.lines h.place h.first (jump_lines (i.Jal 0) o) → h.place h.way.next ≡ h.first + length (jump_lines (i.Jal 0) o) →
        (j : ℕ) → option_map h.place o ≡ Some j → Arrives h.addresses h.lines (stands t k x.state h.first) (linked_to (h.addresses.line (h.place h.way.next)) x.state) j
    by None there next j e = absurd (none-some j e)
    by (Some g) there next j e =
        subst (λ m. Arrives h.addresses h.lines (stands t k x.state h.first) (linked_to (h.addresses.line m) x.state) j) (sym next)
        (arrives h.addresses h.lines 0 (stands t k x.state h.first) (stands t k x.state h.first) t (rest_at h.addresses h.first k) (linked_to (h.addresses.line (h.first + 1)) x.state) j
        (run-none h.addresses h.lines (stands t k x.state h.first)) (omega arith)
        (line-by h.addresses h.lines h.first t k x.state (placed h.place there.0 (going_to (i.Jal 0) g)) (effects.Branch 31 true _) u.running there.1 refl
        ∙ linked-on h h.first t k x.state (h.place g) ∙ ap (λ m. stands t (rest_at h.addresses h.first k) (linked_to (h.addresses.line (h.first + 1)) x.state) m) (same_Some (h.place g) j e)))

pub called-by-address : (h : Site) (t : ℕ) (k : Rest) (x : Mach) (p : ℕ) → Usual x.state → IsFree p → Stand h.lines h.place h.first (plain (i.Jalr p 31) ∷ []) →
    h.place h.way.next ≡ h.first + 1 →
    Follows h (forms.CallRegister p) (stands t k x.state h.first) (calls (reg x.state.core p) x)
called-by-address h t k x p u hp there next j e =
    subst (λ m. Arrives h.addresses h.lines (stands t k x.state h.first) (linked_to (h.addresses.line m) x.state) j) (sym next)
    (arrives h.addresses h.lines 0 (stands t k x.state h.first) (stands t k x.state h.first) t (rest_at h.addresses h.first k) (linked_to (h.addresses.line (h.first + 1)) x.state) j
    (run-none h.addresses h.lines (stands t k x.state h.first)) (omega arith)
    (line-by h.addresses h.lines h.first t k x.state (placed h.place there.0 (plain (i.Jalr p 31))) (effects.JumpTo 31 (reg x.state.core p)) u.running there.1
    (ap (effects.JumpTo 31) (seen-other h.addresses h.first t k x.state p hp))
    ∙ ap (λ o. on_to o h.first (linked_line h.addresses 31 h.first (seen_state h.addresses h.first t k x.state))) e
    ∙ linked-on h h.first t k x.state j))
