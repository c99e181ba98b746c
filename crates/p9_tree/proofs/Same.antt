-- Plays that mean the same, one after the other, in loops and in calls.
use Rattle.std.proofs.Common.{◌≡◌, ℕ, zero, suc, ◌+◌, Bool, true, false, if◌then◌else◌, nat_lt, Some, None, List, refl, sym, ap, subst, ◌∙◌}
use Rattle.p9_cmean.specs.Cells.{Value, Word, Address, Missing, State}
use Rattle.p9_cmean.specs.Plays.{Call, Play, Done, Wrong, NoMeaning, Exit, Cut, Turn, Ask, Moved, bind, Flow, Normal, Broke, Continued, Returned, Went, after_turn, turn_of}
use Rattle.p9_cmean.specs.Turns.{Ended, Out, Undefined, Deep, NoOutcome, End, Gave, Over, and_then, Calls, resolve, room, calls_to, outcome_of}
use Rattle.p9_tree.specs.Same.{Alike, AlikeFlow, SameCall, Same, Equal, BindKeepsSame, LoopsKeepSame, TestedLoopsKeepSame, SameOutcome, SameEnd, SameCallsEndSame}

pub alike_refl : (v : Value) → Alike v v
alike_refl (Word n) = refl
alike_refl (Address p) = refl
alike_refl (Missing c) = tt

pub alike_flow_refl : (f : Flow) → AlikeFlow f f
alike_flow_refl Normal = refl
alike_flow_refl Broke = refl
alike_flow_refl Continued = refl
alike_flow_refl (Returned None) = refl
alike_flow_refl (Returned (Some v)) = alike_refl v
alike_flow_refl (Went l) = refl

pub same_call_refl : (c : Call) → SameCall c c
same_call_refl c = record { function = refl; arguments = refl }

-- BINDING

pub same_bind : {A B : Type 0} (R : A → A → Type 0) (Q : B → B → Type 0) (p q : Play A) (k l : A → State → Play B)
    → Same R p q → ((x y : A) (s : State) → R x y → Same Q (k x s) (l y s)) → Same Q (bind p k) (bind q l)
same_bind R Q (Done x s) q k l h g = subst (λ r. Same Q (k x s) (bind r l)) (sym h.1) (g x h.0 s h.2)
same_bind R Q (Wrong why place s) q k l h g = tt
same_bind R Q (NoMeaning place s) q k l h g = tt
same_bind R Q (Exit text s) q k l h g = ap (λ r. bind r l) h
same_bind R Q (Cut s) q k l h g = ap (λ r. bind r l) h
same_bind R Q (Turn s p) q k l h g = (bind h.0 l, ap (λ r. bind r l) h.1, same_bind R Q p h.0 k l h.2 g)
same_bind R Q (Ask call s p) q k l h g =
    (h.0, λ v t. bind (h.1 v t) l, ap (λ r. bind r l) h.2, h.3, λ v w t a. same_bind R Q (p v t) (h.1 w t) k l (h.4 v w t a) g)
same_bind R Q (Moved bytes p) q k l h g = (bind h.0 l, ap (λ r. bind r l) h.1, same_bind R Q p h.0 k l h.2 g)

pub bind_keeps_same : BindKeepsSame
bind_keeps_same p q k l h g = same_bind Alike Alike p q k l h g

pub same_if : {A : Type 0} (R : A → A → Type 0) (b c : Bool) (p q p' q' : Play A) → b ≡ c → Same R p q → Same R p' q' → Same R (if b then p else p') (if c then q else q')
same_if R true c p q p' q' e h g = subst (λ d. Same R p (if d then q else q')) e h
same_if R false c p q p' q' e h g = subst (λ d. Same R p' (if d then q else q')) e g

-- LOOPS

same_done : (s : State) → Same AlikeFlow (Done Normal s) (Done Normal s)
same_done s = (Normal, refl, refl)

same_after : (f g : Flow) (s : State) (p q : State → Play Flow) → AlikeFlow f g → ((t : State) → Same AlikeFlow (p t) (q t)) → Same AlikeFlow (after_turn f s p) (after_turn g s q)
same_after Normal g s p q e h = subst (λ f. Same AlikeFlow (p s) (after_turn f s q)) e (h s)
same_after Continued g s p q e h = subst (λ f. Same AlikeFlow (p s) (after_turn f s q)) e (h s)
same_after Broke g s p q e h = subst (λ f. Same AlikeFlow (Done Normal s) (after_turn f s q)) e (same_done s)
same_after (Returned None) g s p q e h = subst (λ f. Same AlikeFlow (Done (Returned None) s) (after_turn f s q)) e (Returned None, refl, refl)
same_after (Returned (Some v)) (Returned (Some w)) s p q e h = (Returned (Some w), refl, e)
same_after (Returned (Some v)) (Returned None) s p q e h = subst (λ f. Same AlikeFlow (Done (Returned (Some v)) s) (after_turn f s q)) e (Returned (Some v), refl, alike_refl v)
same_after (Returned (Some v)) Normal s p q e h = subst (λ f. Same AlikeFlow (Done (Returned (Some v)) s) (after_turn f s q)) e (Returned (Some v), refl, alike_refl v)
same_after (Returned (Some v)) Broke s p q e h = subst (λ f. Same AlikeFlow (Done (Returned (Some v)) s) (after_turn f s q)) e (Returned (Some v), refl, alike_refl v)
same_after (Returned (Some v)) Continued s p q e h = subst (λ f. Same AlikeFlow (Done (Returned (Some v)) s) (after_turn f s q)) e (Returned (Some v), refl, alike_refl v)
same_after (Returned (Some v)) (Went l) s p q e h = subst (λ f. Same AlikeFlow (Done (Returned (Some v)) s) (after_turn f s q)) e (Returned (Some v), refl, alike_refl v)
same_after (Went l) g s p q e h = subst (λ f. Same AlikeFlow (Done (Went l) s) (after_turn f s q)) e (Went l, refl, refl)

pub loops_keep_same : LoopsKeepSame
loops_keep_same zero a b h s = (Cut s, refl, refl)
loops_keep_same (suc n) a b h s = (
  _,
  refl,
  same_bind AlikeFlow AlikeFlow (a.body s) (b.body s) _ _ (h.bodies s) (λ f g t e.
      same_after f g t _ _ e (λ u.
      same_bind Equal AlikeFlow (a.step u) (b.step u) _ _ (h.steps u) (λ x y w d.
      same_bind Equal AlikeFlow (a.test w) (b.test w) _ _ (h.tests w) (λ holds holds' z c.
      same_if AlikeFlow holds holds' (turn_of n a z) (turn_of n b z) (Done Normal z) (Done Normal z) c (loops_keep_same n a b h z) (same_done z))))),
)

pub tested_loops_keep_same : TestedLoopsKeepSame
tested_loops_keep_same n a b h s =
    same_bind Equal AlikeFlow (a.test s) (b.test s) _ _ (h.tests s) (λ holds holds' z c.
    same_if AlikeFlow holds holds' (turn_of n a z) (turn_of n b z) (Done Normal z) (Done Normal z) c (loops_keep_same n a b h z) (same_done z))

-- CALLS

abbrev pub CallsSame : Calls → Calls → Type 0
CallsSame first second =
    (active turns copied : ℕ) (call other : Call) (s : State) → SameCall call other → SameEnd (first active turns copied call s) (second active turns copied other s)

same_then : (e e' : End) (next next' : Value → State → ℕ → ℕ → End) → SameEnd e e'
    → ((v w : Value) (s : State) (m c : ℕ) → Alike v w → SameEnd (next v s m c) (next' w s m c)) → SameEnd (and_then e next) (and_then e' next')
same_then (Gave v s m c) e' next next' h g = subst (λ r. SameEnd (next v s m c) (and_then r next')) (sym h.1) (g v h.0 s m c h.2)
same_then (Over (Ended text s) c) e' next next' h g = ap (λ r. and_then r next') h
same_then (Over (Out waits s) c) e' next next' h g = (h.0, ap (λ r. and_then r next') h.1)
same_then (Over (Undefined why place s) c) e' next next' h g = tt
same_then (Over (Deep place s) c) e' next next' h g = tt
same_then (Over (NoOutcome place s) c) e' next next' h g = tt

resolve_same : (first second : Calls) → CallsSame first second → (active : ℕ) (p q : Play Value) (n c : ℕ) → Same Alike p q → SameEnd (resolve first active n c p) (resolve second active n c q)
resolve_same first second cs active (Done v s) q n c h = (h.0, ap (λ r. resolve second active n c r) h.1, h.2)
resolve_same first second cs active (Wrong why place s) q n c h = tt
resolve_same first second cs active (NoMeaning place s) q n c h = tt
resolve_same first second cs active (Exit text s) q n c h = ap (λ r. resolve second active n c r) h
resolve_same first second cs active (Cut s) q n c h = (None, ap (λ r. resolve second active n c r) h)
resolve_same first second cs active (Turn s p) q zero c h = (None, ap (λ r. resolve second active 0 c r) h.1)
resolve_same first second cs active (Turn s p) q (suc n) c h =
    subst (λ r. SameEnd (resolve first active n c p) (resolve second active (suc n) c r)) (sym h.1) (resolve_same first second cs active p h.0 n c h.2)
resolve_same first second cs active (Ask call s p) q n c h =
    subst (λ r. SameEnd (resolve first active n c (Ask call s p)) (resolve second active n c r)) (sym h.2)
    (same_then (first active n c call s) (second active n c h.0 s) _ _ (cs active n c call h.0 s h.3)
    (λ v w t m i a. resolve_same first second cs active (p v t) (h.1 w t) m i (h.4 v w t a)))
resolve_same first second cs active (Moved bytes p) q n c h =
    subst (λ r. SameEnd (resolve first active n (c + bytes) p) (resolve second active n c r)) (sym h.1) (resolve_same first second cs active p h.0 n (c + bytes) h.2)

-- a call for which there is no room, or its body
same_room : (first second : Calls) → CallsSame first second → (a : ℕ) (b : Bool) (p q : Play Value) (n c : ℕ) (call other : Call) (s : State) → Same Alike p q
    → SameEnd (if b then Over (Deep call.place s) c else resolve first a n c p) (if b then Over (Deep other.place s) c else resolve second a n c q)
same_room first second cs a true p q n c call other s h = tt
same_room first second cs a false p q n c call other s h = resolve_same first second cs a p q n c h

same_needs : (first second : Calls) → CallsSame first second → (a a' : ℕ) → a' ≡ a → (p q : Play Value) (n c : ℕ) (call other : Call) (s : State) → Same Alike p q
    → SameEnd (if nat_lt room a then Over (Deep call.place s) c else resolve first a n c p) (if nat_lt room a' then Over (Deep other.place s) c else resolve second a' n c q)
same_needs first second cs a a' e p q n c call other s h =
    subst (λ i. SameEnd (if nat_lt room a then Over (Deep call.place s) c else resolve first a n c p) (if nat_lt room i then Over (Deep other.place s) c else resolve second i n c q)) (sym e)
    (same_room first second cs a (nat_lt room a) p q n c call other s h)

pub same_calls_end_same : SameCallsEndSame
same_calls_end_same f g h zero active n c call other s e = (Some other, refl)
same_calls_end_same f g h (suc d) active zero c call other s e = (Some other, refl)
same_calls_end_same f g h (suc d) active (suc n) c call other s e =
    same_needs (calls_to d f) (calls_to d g) (λ a m i x y t k. same_calls_end_same f g h d a m i x y t k)
    (active + f.need call.function) (active + g.need other.function)
    (ap (λ i. active + i) (ap g.need e.function ∙ h.needs call.function))
    (f.body n call s) (g.body n other s) n c call other s (h.bodies n call other s e)

pub same_outcome : (text : List ℕ) (e e' : End) → SameEnd e e' → SameOutcome (outcome_of text e) (outcome_of text e')
same_outcome text (Gave v s n c) e' h = ap (outcome_of text) h.1
same_outcome text (Over (Ended t s) c) e' h = ap (outcome_of text) h
same_outcome text (Over (Out waits s) c) e' h = (h.0, ap (outcome_of text) h.1)
same_outcome text (Over (Undefined why place s) c) e' h = tt
same_outcome text (Over (Deep place s) c) e' h = tt
same_outcome text (Over (NoOutcome place s) c) e' h = tt
