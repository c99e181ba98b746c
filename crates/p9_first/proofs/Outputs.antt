-- Outputs that begin with others, and plays that never take back output.
use Rattle.std.proofs.Common.{ℕ, List, [], ◌++◌, refl, sym, ap, ◌∙◌, append_assoc, append-nil}
use Rattle.p9_first.specs.Cells.{Value, State}
use Rattle.p9_first.specs.Plays.{Play, Done, Wrong, Exit, Cut, Turn, Ask, Moved, bind, Flow, Normal, Broke, Continued, Returned, Went, then_go}
use Rattle.p9_first.specs.PlayLaws.{Begins}

pub begins_refl : (a : List ℕ) → Begins a a
begins_refl a = ([], sym (append-nil a))

pub begins_trans : (a b c : List ℕ) → Begins a b → Begins b c → Begins a c
begins_trans a b c h g = (h.0 ++ g.0, g.1 ∙ ap (λ l. l ++ g.0) h.1 ∙ append_assoc a h.0 g.0)

pub begins_append : (a b : List ℕ) → Begins a (a ++ b)
begins_append a b = (b, refl)

-- each state of a play keeps this output, and goes on from what calls leave
abbrev pub Keeps : {A : Type 0} → List ℕ → Play A → Type 0
Keeps o (Done x s) = Begins o s.output
Keeps o (Wrong why place s) = Begins o s.output
Keeps o (Exit text s) = Begins o s.output
Keeps o (Cut s) = Begins o s.output
Keeps o (Turn s p) = Begins o s.output × Keeps s.output p
Keeps o (Ask call s p) = Begins o s.output × ((v : Value) (t : State) → Begins s.output t.output → Keeps t.output (p v t))
Keeps o (Moved bytes p) = Keeps o p

pub keeps_from : {A : Type 0} (a b : List ℕ) (p : Play A) → Begins a b → Keeps b p → Keeps a p
keeps_from a b (Done x s) h g = begins_trans a b s.output h g
keeps_from a b (Wrong why place s) h g = begins_trans a b s.output h g
keeps_from a b (Exit text s) h g = begins_trans a b s.output h g
keeps_from a b (Cut s) h g = begins_trans a b s.output h g
keeps_from a b (Turn s p) h g = (begins_trans a b s.output h g.0, g.1)
keeps_from a b (Ask call s p) h g = (begins_trans a b s.output h g.0, g.1)
keeps_from a b (Moved bytes p) h g = keeps_from a b p h g

pub keeps_bind : {A B : Type 0} (o : List ℕ) (p : Play A) (k : A → State → Play B) → Keeps o p → ((x : A) (s : State) → Keeps s.output (k x s)) → Keeps o (bind p k)
keeps_bind o (Done x s) k h g = keeps_from o s.output (k x s) h (g x s)
keeps_bind o (Wrong why place s) k h g = h
keeps_bind o (Exit text s) k h g = h
keeps_bind o (Cut s) k h g = h
keeps_bind o (Turn s p) k h g = (h.0, keeps_bind s.output p k h.1 g)
keeps_bind o (Ask call s p) k h g = (h.0, λ v t b. keeps_bind t.output (p v t) k (h.1 v t b) g)
keeps_bind o (Moved bytes p) k h g = keeps_bind o p k h g

pub keeps_then : (flow : Flow) (s : State) (p : State → Play Flow) → ((t : State) → Keeps t.output (p t)) → Keeps s.output (then_go flow s p)
keeps_then Normal s p h = h s
keeps_then Continued s p h = begins_refl s.output
keeps_then Broke s p h = begins_refl s.output
keeps_then (Returned v) s p h = begins_refl s.output
keeps_then (Went l) s p h = begins_refl s.output
