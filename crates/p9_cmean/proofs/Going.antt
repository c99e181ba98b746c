-- Outputs that begin with others, inputs that end with others, and plays that only go on.
use Rattle.std.proofs.Common.{ℕ, zero, suc, List, [], ◌++◌, Bool, true, false, if◌then◌else◌, refl, sym, ap, ◌∙◌, append_assoc, append-nil}
use Rattle.p9_cmean.specs.Cells.{Value, State}
use Rattle.p9_cmean.specs.Plays.{Play, Done, Wrong, NoMeaning, Exit, Cut, Turn, Ask, Moved, bind, Flow, Normal, Broke, Continued, Returned, Went, then_go, after_turn, after_switch, Loop, turn_of, tested_loop}
use Rattle.p9_cmean.specs.PlayLaws.{Begins, Leaves, Goes}

begins_trans : (a b c : List ℕ) → Begins a b → Begins b c → Begins a c
begins_trans a b c h g = (h.0 ++ g.0, g.1 ∙ ap (λ l. l ++ g.0) h.1 ∙ append_assoc a h.0 g.0)

leaves_trans : (a b c : List ℕ) → Leaves a b → Leaves b c → Leaves a c
leaves_trans a b c h g = (h.0 ++ g.0, h.1 ∙ ap (λ l. h.0 ++ l) g.1 ∙ sym (append_assoc h.0 g.0 c))

pub goes_refl : (s : State) → Goes s s
goes_refl s = (([], sym (append-nil s.output)), ([], refl))

pub goes_trans : (s t u : State) → Goes s t → Goes t u → Goes s u
goes_trans s t u h g = (begins_trans s.output t.output u.output h.0 g.0, leaves_trans s.input t.input u.input h.1 g.1)

-- each state of a play goes on from this one, where calls go on
abbrev pub Keeps : {A : Type 0} → State → Play A → Type 0
Keeps from (Done x s) = Goes from s
Keeps from (Wrong why place s) = Goes from s
Keeps from (NoMeaning place s) = Goes from s
Keeps from (Exit text s) = Goes from s
Keeps from (Cut s) = Goes from s
Keeps from (Turn s p) = Goes from s × Keeps s p
Keeps from (Ask call s p) = Goes from s × ((v : Value) (t : State) → Goes s t → Keeps t (p v t))
Keeps from (Moved bytes p) = Keeps from p

pub keeps_from : {A : Type 0} (a b : State) (p : Play A) → Goes a b → Keeps b p → Keeps a p
keeps_from a b (Done x s) h g = goes_trans a b s h g
keeps_from a b (Wrong why place s) h g = goes_trans a b s h g
keeps_from a b (NoMeaning place s) h g = goes_trans a b s h g
keeps_from a b (Exit text s) h g = goes_trans a b s h g
keeps_from a b (Cut s) h g = goes_trans a b s h g
keeps_from a b (Turn s p) h g = (goes_trans a b s h g.0, g.1)
keeps_from a b (Ask call s p) h g = (goes_trans a b s h g.0, g.1)
keeps_from a b (Moved bytes p) h g = keeps_from a b p h g

pub keeps_bind : {A B : Type 0} (from : State) (p : Play A) (k : A → State → Play B) → Keeps from p → ((x : A) (s : State) → Keeps s (k x s)) → Keeps from (bind p k)
keeps_bind from (Done x s) k h g = keeps_from from s (k x s) h (g x s)
keeps_bind from (Wrong why place s) k h g = h
keeps_bind from (NoMeaning place s) k h g = h
keeps_bind from (Exit text s) k h g = h
keeps_bind from (Cut s) k h g = h
keeps_bind from (Turn s p) k h g = (h.0, keeps_bind s p k h.1 g)
keeps_bind from (Ask call s p) k h g = (h.0, λ v t b. keeps_bind t (p v t) k (h.1 v t b) g)
keeps_bind from (Moved bytes p) k h g = keeps_bind from p k h g

pub keeps_if : {A : Type 0} (from : State) (b : Bool) (p q : Play A) → Keeps from p → Keeps from q → Keeps from (if b then p else q)
keeps_if from true p q h g = h
keeps_if from false p q h g = g

pub keeps_go : (flow : Flow) (s : State) (p : State → Play Flow) → ((t : State) → Keeps t (p t)) → Keeps s (then_go flow s p)
keeps_go Normal s p h = h s
keeps_go Continued s p h = goes_refl s
keeps_go Broke s p h = goes_refl s
keeps_go (Returned v) s p h = goes_refl s
keeps_go (Went l) s p h = goes_refl s

keeps_after : (flow : Flow) (s : State) (p : State → Play Flow) → ((t : State) → Keeps t (p t)) → Keeps s (after_turn flow s p)
keeps_after Normal s p h = h s
keeps_after Continued s p h = h s
keeps_after Broke s p h = goes_refl s
keeps_after (Returned v) s p h = goes_refl s
keeps_after (Went l) s p h = goes_refl s

pub keeps_switch : (flow : Flow) (s : State) → Keeps s (after_switch flow s)
keeps_switch Normal s = goes_refl s
keeps_switch Broke s = goes_refl s
keeps_switch Continued s = goes_refl s
keeps_switch (Returned v) s = goes_refl s
keeps_switch (Went l) s = goes_refl s

pub record LoopKeeps (loop : Loop) : Type 0 where
  pub tests : (s : State) → Keeps s (loop.test s)
  pub bodies : (s : State) → Keeps s (loop.body s)
  pub steps : (s : State) → Keeps s (loop.step s)

pub turns_keep : (m : ℕ) (loop : Loop) → LoopKeeps loop → (s : State) → Keeps s (turn_of m loop s)
turns_keep zero loop h s = (goes_refl s, goes_refl s)
turns_keep (suc m) loop h s = (
  goes_refl s,
  keeps_bind s (loop.body s) _ (h.bodies s) (λ flow t.
      keeps_after flow t _ (λ u.
      keeps_bind u (loop.step u) _ (h.steps u) (λ done w.
      keeps_bind w (loop.test w) _ (h.tests w) (λ holds x.
      keeps_if x holds (turn_of m loop x) (Done Normal x) (turns_keep m loop h x) (goes_refl x))))),
)

pub tested_keeps : (m : ℕ) (loop : Loop) → LoopKeeps loop → (s : State) → Keeps s (tested_loop m loop s)
tested_keeps m loop h s =
    keeps_bind s (loop.test s) _ (h.tests s) (λ holds x.
    keeps_if x holds (turn_of m loop x) (Done Normal x) (turns_keep m loop h x) (goes_refl x))
