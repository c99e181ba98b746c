-- The functions of modules fit: they do the same with more turns, only go on, and last.
use Rattle.std.proofs.Common.{◌≤◌, ℕ, zero, suc, Bool, true, false, not, if◌then◌else◌, List, [], ◌∷◌, take, Result, Ok, Err, refl, sym}
use Rattle.std.proofs.lemmas.List.{take-append-drop}
use Rattle.std.specs.Prelude.{◌==◌}
use Rattle.p9_base.specs.Words.{is_negative}
use Rattle.p9_cmean.specs.declared.Cause.{Cause}
use Rattle.p9_cmean.specs.declared.Place.{Place}
use Rattle.p9_cmean.specs.Cells.{Value, State}
use Rattle.p9_cmean.specs.Plays.{Call, Play, Done}
use Rattle.p9_cmean.specs.PlayLaws.{Follows, Lasts}
use Rattle.p9_cmean.specs.RunLaws.{BodiesLast}
use Rattle.p9_cmean.specs.Access.{integer_in, pointer_in}
use Rattle.p9_cmean.specs.Places.{or_wrong}
use Rattle.p9_cmean.specs.SystemCalls as system
use Rattle.p9_cmean.specs.SystemCalls.{SystemCall, Exits, Read, Write}
use Rattle.p9_cmean.specs.Union.{Union}
use Rattle.p9_cmean.specs.CRun.{Callee, System, Defined, NoCallee, callee, callee_body, surroundings, functions_of}
use Rattle.p9_cmean.proofs.Plays.{follows_refl}
use Rattle.p9_cmean.proofs.Going.{goes_refl, Keeps, keeps_if}
use Rattle.p9_cmean.proofs.Bodies.{keeps_body, lasts_body, body_follows}
use Rattle.p9_cmean.proofs.Later.{Fit}

keeps_or : {A B : Type 0} (pl : Place) (s : State) (r : Result A Cause) (k : A → Play B) → ((a : A) → Keeps s (k a)) → Keeps s (or_wrong pl s r k)
keeps_or pl s (Ok a) k h = h a
keeps_or pl s (Err why) k h = goes_refl s

-- SYSTEM CALLS

keeps_exits : (pl : Place) (vs : List Value) (s : State) → Keeps s (system.exits_call pl vs s)
keeps_exits pl [] s = goes_refl s
keeps_exits pl (v ∷ []) s = keeps_or pl s (pointer_in v) _ (λ p. keeps_or pl s (system.exit_text s.objects p) _ (λ text. goes_refl s))
keeps_exits pl (v ∷ w ∷ vs) s = goes_refl s

keeps_transfer : (transfer : Place → ℕ → Value → ℕ → State → Play Value) → ((pl : Place) (d : ℕ) (a : Value) (n : ℕ) (s : State) → Keeps s (transfer pl d a n s))
    → (pl : Place) (vs : List Value) (s : State) → Keeps s (system.transfer_call transfer pl vs s)
keeps_transfer transfer h pl [] s = goes_refl s
keeps_transfer transfer h pl (d ∷ []) s = goes_refl s
keeps_transfer transfer h pl (d ∷ p ∷ []) s = goes_refl s
keeps_transfer transfer h pl (d ∷ p ∷ n ∷ []) s = keeps_or pl s (integer_in d) _ (λ i. keeps_or pl s (integer_in n) _ (λ k. h pl i p k s))
keeps_transfer transfer h pl (d ∷ p ∷ n ∷ m ∷ vs) s = goes_refl s

keeps_written : (pl : Place) (a : Value) (n : ℕ) (s : State) → Keeps s (system.written pl a n s)
keeps_written pl a zero s = goes_refl s
keeps_written pl a (suc n) s = keeps_or pl s (system.characters_at s.objects a (suc n)) _ (λ cs. ((cs, refl), ([], refl)))

keeps_filled : (pl : Place) (a : Value) (n : ℕ) (s : State) → Keeps s (system.filled pl a n s)
keeps_filled pl a zero s = goes_refl s
keeps_filled pl a (suc n) s =
    keeps_or pl s (system.room_at s.objects a (suc n)) _ (λ p. ((goes_refl s).0, (take (suc n) s.input, sym (take-append-drop (suc n) s.input))))

keeps_write : (pl : Place) (d : ℕ) (a : Value) (n : ℕ) (s : State) → Keeps s (system.write pl d a n s)
keeps_write pl d a n s =
    keeps_if s (not (d == 1)) (Done system.minus_one s) (if is_negative n then Done system.minus_one s else system.written pl a n s) (goes_refl s)
    (keeps_if s (is_negative n) (Done system.minus_one s) (system.written pl a n s) (goes_refl s) (keeps_written pl a n s))

keeps_read : (pl : Place) (d : ℕ) (a : Value) (n : ℕ) (s : State) → Keeps s (system.read pl d a n s)
keeps_read pl d a n s =
    keeps_if s (not (d == 0)) (Done system.minus_one s) (if is_negative n then Done system.minus_one s else system.filled pl a n s) (goes_refl s)
    (keeps_if s (is_negative n) (Done system.minus_one s) (system.filled pl a n s) (goes_refl s) (keeps_filled pl a n s))

keeps_system : (c : SystemCall) (call : Call) (s : State) → Keeps s (system.system_body c call s)
keeps_system Exits call s = keeps_exits call.place call.arguments s
keeps_system Read call s = keeps_transfer system.read keeps_read call.place call.arguments s
keeps_system Write call s = keeps_transfer system.write keeps_write call.place call.arguments s

lasts_or : {A B : Type 0} (m : ℕ) (pl : Place) (s : State) (r : Result A Cause) (k : A → Play B) → ((a : A) → Lasts (suc m) (k a)) → Lasts (suc m) (or_wrong pl s r k)
lasts_or m pl s (Ok a) k h = h a
lasts_or m pl s (Err why) k h = tt

lasts_if : (m : ℕ) (b : Bool) (p q : Play Value) → Lasts m p → Lasts m q → Lasts m (if b then p else q)
lasts_if m true p q h g = h
lasts_if m false p q h g = g

lasts_exits : (m : ℕ) (pl : Place) (vs : List Value) (s : State) → Lasts (suc m) (system.exits_call pl vs s)
lasts_exits m pl [] s = tt
lasts_exits m pl (v ∷ []) s = lasts_or m pl s (pointer_in v) _ (λ p. lasts_or m pl s (system.exit_text s.objects p) _ (λ text. tt))
lasts_exits m pl (v ∷ w ∷ vs) s = tt

lasts_transfer : (m : ℕ) (transfer : Place → ℕ → Value → ℕ → State → Play Value) → ((pl : Place) (d : ℕ) (a : Value) (n : ℕ) (s : State) → Lasts (suc m) (transfer pl d a n s))
    → (pl : Place) (vs : List Value) (s : State) → Lasts (suc m) (system.transfer_call transfer pl vs s)
lasts_transfer m transfer h pl [] s = tt
lasts_transfer m transfer h pl (d ∷ []) s = tt
lasts_transfer m transfer h pl (d ∷ p ∷ []) s = tt
lasts_transfer m transfer h pl (d ∷ p ∷ n ∷ []) s = lasts_or m pl s (integer_in d) _ (λ i. lasts_or m pl s (integer_in n) _ (λ k. h pl i p k s))
lasts_transfer m transfer h pl (d ∷ p ∷ n ∷ k ∷ vs) s = tt

lasts_written : (m : ℕ) (pl : Place) (a : Value) (n : ℕ) (s : State) → Lasts (suc m) (system.written pl a n s)
lasts_written m pl a zero s = tt
lasts_written m pl a (suc n) s = lasts_or m pl s (system.characters_at s.objects a (suc n)) _ (λ cs. tt)

lasts_filled : (m : ℕ) (pl : Place) (a : Value) (n : ℕ) (s : State) → Lasts (suc m) (system.filled pl a n s)
lasts_filled m pl a zero s = tt
lasts_filled m pl a (suc n) s = lasts_or m pl s (system.room_at s.objects a (suc n)) _ (λ p. tt)

lasts_write : (m : ℕ) (pl : Place) (d : ℕ) (a : Value) (n : ℕ) (s : State) → Lasts (suc m) (system.write pl d a n s)
lasts_write m pl d a n s =
    lasts_if (suc m) (not (d == 1)) (Done system.minus_one s) (if is_negative n then Done system.minus_one s else system.written pl a n s) tt
    (lasts_if (suc m) (is_negative n) (Done system.minus_one s) (system.written pl a n s) tt (lasts_written m pl a n s))

lasts_read : (m : ℕ) (pl : Place) (d : ℕ) (a : Value) (n : ℕ) (s : State) → Lasts (suc m) (system.read pl d a n s)
lasts_read m pl d a n s =
    lasts_if (suc m) (not (d == 0)) (Done system.minus_one s) (if is_negative n then Done system.minus_one s else system.filled pl a n s) tt
    (lasts_if (suc m) (is_negative n) (Done system.minus_one s) (system.filled pl a n s) tt (lasts_filled m pl a n s))

lasts_system : (m : ℕ) (c : SystemCall) (call : Call) (s : State) → Lasts (suc m) (system.system_body c call s)
lasts_system m Exits call s = lasts_exits m call.place call.arguments s
lasts_system m Read call s = lasts_transfer m system.read (lasts_read m) call.place call.arguments s
lasts_system m Write call s = lasts_transfer m system.write (lasts_write m) call.place call.arguments s

-- THE FUNCTIONS OF A UNION

keeps_callee : (union : Union) (n : ℕ) (c : Callee) (call : Call) (s : State) → Keeps s (callee_body union n c call s)
keeps_callee union n (System c) call s = keeps_system c call s
keeps_callee union n (Defined entry) call s = keeps_body n (surroundings union entry.owner entry.tags) entry.definition call s
keeps_callee union n NoCallee call s = goes_refl s

callee_follows : (union : Union) (m n : ℕ) → m ≤ n → (c : Callee) (call : Call) (s : State) → Follows m (callee_body union m c call s) (callee_body union n c call s)
callee_follows union m n le (System c) call s = follows_refl m (system.system_body c call s)
callee_follows union m n le (Defined entry) call s = body_follows m n le (surroundings union entry.owner entry.tags) entry.definition call s
callee_follows union m n le NoCallee call s = refl

lasts_callee : (union : Union) (n : ℕ) (c : Callee) (call : Call) (s : State) → Lasts (suc n) (callee_body union n c call s)
lasts_callee union n (System c) call s = lasts_system n c call s
lasts_callee union n (Defined entry) call s = lasts_body n (surroundings union entry.owner entry.tags) entry.definition call s
lasts_callee union n NoCallee call s = tt

pub functions_fit : (union : Union) → Fit (functions_of union)
functions_fit union = record {
  follows = λ m n call s le. callee_follows union m n le (callee union call.function) call s;
  keeps = λ n call s. keeps_callee union n (callee union call.function) call s;
}

pub bodies_last : BodiesLast
bodies_last union n call s = lasts_callee union n (callee union call.function) call s
