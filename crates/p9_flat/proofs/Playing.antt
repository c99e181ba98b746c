-- Code plays a play by steps.
use Rattle.std.proofs.Common.{◌≡◌, ℕ, zero, suc, ◌+◌, Bool, if◌then◌else◌, List, [], ◌∷◌, ◌++◌, length, Option, Some, None, Result, Ok, Err, slice_get, inl, inr, refl, sym, subst, arith}
use Rattle.p9_cmean.specs.declared.Cause.{Cause}
use Rattle.p9_cmean.specs.declared.Place.{Place}
use Rattle.p9_cmean.specs.Cells.{Value, Word, Address, Missing, State}
use Rattle.p9_cmean.specs.Places.{used, or_wrong, done_at, or_no_meaning}
use Rattle.p9_cmean.specs.Plays.{Call, Play, Done, Wrong, NoMeaning, Exit, Cut, Turn, Ask, Moved, bind}
use Rattle.p9_flat.specs.declared.op.Op.{Op}
use Rattle.p9_flat.specs.Flat.{HasAt}
use Rattle.p9_flat.specs.Step.{Names, Frame, Next, Gives, Fails, Lacks, Unknown, Turns, Moves, Calls, pushed, gone_to, stepped, branched, step, step_at, answered, Agrees, Meets, Plays}

pub has_first : (all : List Op) (pc : ℕ) (xs ys : List Op) → HasAt all pc (xs ++ ys) → HasAt all pc xs
has_first all pc [] ys h = tt
has_first all pc (x ∷ xs) ys h = (h.0, has_first all (suc pc) xs ys h.1)

pub has_second : (all : List Op) (pc : ℕ) (xs ys : List Op) (m : ℕ) → m ≡ pc + length xs → HasAt all pc (xs ++ ys) → HasAt all m ys
has_second all pc [] ys m e h = subst (λ k. HasAt all k ys) (omega (arith, e)) h
has_second all pc (x ∷ xs) ys m e h = has_second all (suc pc) xs ys m (omega (arith, e)) h.1

-- simple operations, which give an answer, or end the play

abbrev pub IsSimple : {A : Type 0} → Play A → Type 0
IsSimple (Done x s) = Unit {0}
IsSimple (Wrong why place s) = Unit {0}
IsSimple (NoMeaning place s) = Unit {0}
IsSimple (Exit text s) = ⊥
IsSimple (Cut s) = ⊥
IsSimple (Turn s p) = ⊥
IsSimple (Ask call s p) = ⊥
IsSimple (Moved bytes p) = ⊥

pub simple_used : {A : Type 0} (v : Value) (s : State) (next : Value → Play A) → ((w : Value) → IsSimple (next w)) → IsSimple (used v s next)
simple_used (Word n) s next h = h (Word n)
simple_used (Address p) s next h = h (Address p)
simple_used (Missing c) s next h = tt

pub simple_wrong : {A B : Type 0} (place : Place) (s : State) (r : Result A Cause) (next : A → Play B) → ((x : A) → IsSimple (next x)) → IsSimple (or_wrong place s r next)
simple_wrong place s (Ok x) next h = h x
simple_wrong place s (Err why) next h = tt

pub simple_done : {A : Type 0} (place : Place) (s : State) (r : Result A Cause) → IsSimple (done_at place s r)
simple_done place s r = simple_wrong place s r (λ x. Done x s) (λ x. tt)

pub simple_option : {A B : Type 0} (place : Place) (s : State) (o : Option A) (next : A → Play B) → ((x : A) → IsSimple (next x)) → IsSimple (or_no_meaning place s o next)
simple_option place s (Some x) next h = h x
simple_option place s None next h = tt

pub simple_bind : {A B : Type 0} (p : Play A) (k : A → State → Play B) → IsSimple p → ((x : A) (s : State) → IsSimple (k x s)) → IsSimple (bind p k)
simple_bind (Done x s) k i h = h x s
simple_bind (Wrong why place s) k i h = tt
simple_bind (NoMeaning place s) k i h = tt
simple_bind (Exit text s) k i h = absurd i
simple_bind (Cut s) k i h = absurd i
simple_bind (Turn s p) k i h = absurd i
simple_bind (Ask call s p) k i h = absurd i
simple_bind (Moved bytes p) k i h = absurd i

module _ (names : Names) (all : List Op) (below : List Value) where
  -- one step that is no event
  pub by_next : (p : Play Value) (f g : Frame) (s t : State) (o : Op)
      → slice_get all f.pc ≡ Some o → step names o f s ≡ Next g t → Plays names all below p g t → Plays names all below p f s
  unfolding Plays
  by_next p f g s t o there is h zero = tt
  by_next p f g s t o there is h (suc n) =
      inr (subst (λ r. Agrees below (step_at names r f s) (Meets names all below n) p) (sym there)
      (subst (λ r. Agrees below r (Meets names all below n) p) (sym is) (h n)))

  pub by_fails : (why : Cause) (place : Place) (f : Frame) (s t : State) (o : Op)
      → slice_get all f.pc ≡ Some o → step names o f s ≡ Fails why place t → Plays names all below (Wrong why place t) f s
  unfolding Plays
  by_fails why place f s t o there is zero = tt
  by_fails why place f s t o there is (suc n) =
      inr (subst (λ r. Agrees below (step_at names r f s) (Meets names all below n) (Wrong why place t)) (sym there)
      (subst (λ r. Agrees below r (Meets names all below n) (Wrong why place t)) (sym is) refl))

  pub by_lacks : (place : Place) (f : Frame) (s t : State) (o : Op)
      → slice_get all f.pc ≡ Some o → step names o f s ≡ Lacks place t → Plays names all below (NoMeaning place t) f s
  unfolding Plays
  by_lacks place f s t o there is zero = tt
  by_lacks place f s t o there is (suc n) =
      inr (subst (λ r. Agrees below (step_at names r f s) (Meets names all below n) (NoMeaning place t)) (sym there)
      (subst (λ r. Agrees below r (Meets names all below n) (NoMeaning place t)) (sym is) refl))

  pub by_unknown : (p : Play Value) (f : Frame) (s : State) (o : Op)
      → slice_get all f.pc ≡ Some o → step names o f s ≡ Unknown → Plays names all below p f s
  unfolding Plays
  by_unknown p f s o there is zero = tt
  by_unknown p f s o there is (suc n) =
      inr (subst (λ r. Agrees below (step_at names r f s) (Meets names all below n) p) (sym there)
      (subst (λ r. Agrees below r (Meets names all below n) p) (sym is) tt))

  pub by_turn : (p : Play Value) (f g : Frame) (s t : State) (o : Op)
      → slice_get all f.pc ≡ Some o → step names o f s ≡ Turns g t → Plays names all below p g t → Plays names all below (Turn t p) f s
  unfolding Plays
  by_turn p f g s t o there is h zero = tt
  by_turn p f g s t o there is h (suc n) =
      inr (subst (λ r. Agrees below (step_at names r f s) (Meets names all below n) (Turn t p)) (sym there)
      (subst (λ r. Agrees below r (Meets names all below n) (Turn t p)) (sym is) (p, refl, h n)))

  pub by_moves : (bytes : ℕ) (p : Play Value) (f g : Frame) (s t : State) (o : Op)
      → slice_get all f.pc ≡ Some o → step names o f s ≡ Moves bytes g t → Plays names all below p g t → Plays names all below (Moved bytes p) f s
  unfolding Plays
  by_moves bytes p f g s t o there is h zero = tt
  by_moves bytes p f g s t o there is h (suc n) =
      inr (subst (λ r. Agrees below (step_at names r f s) (Meets names all below n) (Moved bytes p)) (sym there)
      (subst (λ r. Agrees below r (Meets names all below n) (Moved bytes p)) (sym is) (p, refl, h n)))

  pub by_cut : (f : Frame) (s t : State) → Plays names all below (Cut t) f s
  unfolding Plays
  by_cut f s t zero = tt
  by_cut f s t (suc n) = inl tt

  pub by_call : (k : Value → State → Play Value) (call : Call) (f g : Frame) (s t : State) (o : Op)
      → slice_get all f.pc ≡ Some o → step names o f s ≡ Calls call g t
      → ((v : Value) (u : State) → Plays names all below (k v u) (answered v g) u) → Plays names all below (Ask call t k) f s
  unfolding Plays
  by_call k call f g s t o there is h zero = tt
  by_call k call f g s t o there is h (suc n) =
      inr (subst (λ r. Agrees below (step_at names r f s) (Meets names all below n) (Ask call t k)) (sym there)
      (subst (λ r. Agrees below r (Meets names all below n) (Ask call t k)) (sym is) (k, refl, λ v u. h v u n)))

  pub by_gives : (v : Value) (f g : Frame) (s t : State) (o : Op)
      → slice_get all f.pc ≡ Some o → step names o f s ≡ Gives v g t → g.stack ≡ below → g.own.automatics ≡ []
      → Plays names all below (Done v t) f s
  unfolding Plays
  by_gives v f g s t o there is h i zero = tt
  by_gives v f g s t o there is h i (suc n) =
      inr (subst (λ r. Agrees below (step_at names r f s) (Meets names all below n) (Done v t)) (sym there)
      (subst (λ r. Agrees below r (Meets names all below n) (Done v t)) (sym is) (refl, h, i)))

  pub by_simple : (q : Play Value) (k : Value → State → Play Value) (f g : Frame) (s : State) (o : Op)
      → IsSimple q → slice_get all f.pc ≡ Some o → step names o f s ≡ stepped q g
      → ((v : Value) (t : State) → Plays names all below (k v t) (pushed v g) t) → Plays names all below (bind q k) f s
  by_simple (Done v t) k f g s o i there is h = by_next (k v t) f (pushed v g) s t o there is (h v t)
  by_simple (Wrong why place t) k f g s o i there is h = by_fails why place f s t o there is
  by_simple (NoMeaning place t) k f g s o i there is h = by_lacks place f s t o there is
  by_simple (Exit text t) k f g s o i there is h = absurd i
  by_simple (Cut t) k f g s o i there is h = absurd i
  by_simple (Turn t p) k f g s o i there is h = absurd i
  by_simple (Ask call t p) k f g s o i there is h = absurd i
  by_simple (Moved n p) k f g s o i there is h = absurd i

  pub by_branch : (q : Play Bool) (k : Bool → State → Play Value) (f g : Frame) (s : State) (o : Op) (to : ℕ)
      → IsSimple q → slice_get all f.pc ≡ Some o → step names o f s ≡ branched q to g
      → ((holds : Bool) (t : State) → Plays names all below (k holds t) (gone_to (if holds then suc g.pc else to) g) t)
      → Plays names all below (bind q k) f s
  by_branch (Done v t) k f g s o to i there is h = by_next (k v t) f (gone_to (if v then suc g.pc else to) g) s t o there is (h v t)
  by_branch (Wrong why place t) k f g s o to i there is h = by_fails why place f s t o there is
  by_branch (NoMeaning place t) k f g s o to i there is h = by_lacks place f s t o there is
  by_branch (Exit text t) k f g s o to i there is h = absurd i
  by_branch (Cut t) k f g s o to i there is h = absurd i
  by_branch (Turn t p) k f g s o to i there is h = absurd i
  by_branch (Ask call t p) k f g s o to i there is h = absurd i
  by_branch (Moved n p) k f g s o to i there is h = absurd i
