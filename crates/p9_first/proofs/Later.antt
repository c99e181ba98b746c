-- What a call comes to with more turns.
use Rattle.std.proofs.Common.{◌≡◌, ◌<◌, ◌≤◌, ℕ, zero, suc, ◌+◌, Bool, true, false, if◌then◌else◌, nat_lt, List, refl, sym, ap, subst, arith}
use Rattle.p9_first.specs.Cells.{Value, State}
use Rattle.p9_first.specs.Plays.{Call, Play, Done, Wrong, Exit, Cut, Turn, Ask, Moved}
use Rattle.p9_first.specs.Turns.{Outcome, Ended, Out, Undefined, Deep, End, Gave, Over, and_then, Calls, resolve, Functions, room, call_in, calls_to}
use Rattle.p9_first.specs.PlayLaws.{LeavesFewer, Follows, Begins, output_of}
use Rattle.p9_first.specs.declared.Place.{Place}
use Rattle.p9_first.proofs.Plays.{follows_less}
use Rattle.p9_first.proofs.Calls.{Falls, calls_fall}
use Rattle.p9_first.proofs.Outputs.{begins_refl, begins_trans, Keeps}

-- the output at an end
abbrev pub output_at : End → List ℕ
output_at (Gave v s n c) = s.output
output_at (Over o c) = output_of o

unfoldable pub Grows : Calls → Type 0
Grows calls = (active n c : ℕ) (call : Call) (s : State) → Begins s.output (output_at (calls active n c call s))

grows_then : (o : List ℕ) (e : End) (next : Value → State → ℕ → ℕ → End) → Begins o (output_at e) → ((v : Value) (s : State) (m c : ℕ) → e ≡ Gave v s m c → Begins s.output (output_at (next v s m c))) → Begins o (output_at (and_then e next))
grows_then o (Gave v s m c) next h g = begins_trans o s.output (output_at (next v s m c)) h (g v s m c refl)
grows_then o (Over p c) next h g = h

pub resolve_grows : (calls : Calls) → Grows calls → (active : ℕ) (p : Play Value) (o : List ℕ) (n c : ℕ) → Keeps o p → Begins o (output_at (resolve calls active n c p))
unfolding Grows
resolve_grows calls g active (Done v s) o n c h = h
resolve_grows calls g active (Wrong why place s) o n c h = h
resolve_grows calls g active (Exit text s) o n c h = h
resolve_grows calls g active (Cut s) o n c h = h
resolve_grows calls g active (Turn s p) o zero c h = h.0
resolve_grows calls g active (Turn s p) o (suc n) c h =
    begins_trans o s.output (output_at (resolve calls active n c p)) h.0 (resolve_grows calls g active p s.output n c h.1)
resolve_grows calls g active (Ask call s p) o n c h =
    grows_then o (calls active n c call s) (λ v t m d. resolve calls active m d (p v t))
    (begins_trans o s.output (output_at (calls active n c call s)) h.0 (g active n c call s))
    (λ v t m d e. resolve_grows calls g active (p v t) t.output m d (h.1 v t (subst (λ r. Begins s.output (output_at r)) e (g active n c call s))))
resolve_grows calls g active (Moved bytes p) o n c h = resolve_grows calls g active p o n (c + bytes) h

-- what is asked of the functions of a program: with more turns a body does the same for as many as
-- it had, and it never takes back output
pub record Fit (functions : Functions) : Type 0 where
  pub follows : (m n : ℕ) (call : Call) (s : State) → m ≤ n → Follows m (functions.body m call s) (functions.body n call s)
  pub keeps : (n : ℕ) (call : Call) (s : State) → Keeps s.output (functions.body n call s)

grows_if : (o : List ℕ) (b : Bool) (out : Outcome) (c : ℕ) (e : End) → Begins o (output_of out) → Begins o (output_at e) → Begins o (output_at (if b then Over out c else e))
grows_if o true out c e h g = h
grows_if o false out c e h g = g

call_grows : (functions : Functions) → Fit functions → (inner : Calls) → Grows inner → Grows (call_in functions inner)
unfolding Grows
call_grows functions f inner g active zero c call s = begins_refl s.output
call_grows functions f inner g active (suc n) c call s =
    grows_if s.output (nat_lt room (active + functions.need call.function)) (Deep s.output call.place) c
    (resolve inner (active + functions.need call.function) n c (functions.body n call s)) (begins_refl s.output)
    (resolve_grows inner g (active + functions.need call.function) (functions.body n call s) s.output n c (f.keeps n call s))

pub calls_grow : (functions : Functions) → Fit functions → (d : ℕ) → Grows (calls_to d functions)
unfolding Grows
calls_grow functions f zero active n c call s = begins_refl s.output
calls_grow functions f (suc d) active n c call s = call_grows functions f (calls_to d functions) (calls_grow functions f d) active n c call s

-- an end, and the one that so many more turns give
abbrev pub Later : (more : ℕ) → End → End → Type 0
Later more (Gave v s n c) e = e ≡ Gave v s (n + more) c
Later more (Over (Ended o t) c) e = e ≡ Over (Ended o t) c
Later more (Over (Out o) c) e = Begins o (output_at e)
Later more (Over (Undefined o why place) c) e = e ≡ Over (Undefined o why place) c
Later more (Over (Deep o place) c) e = e ≡ Over (Deep o place) c

later_then : (more n : ℕ) (e later : End) (next other : Value → State → ℕ → ℕ → End) → LeavesFewer n e → Later more e later
    → ((v : Value) (s : State) (m c : ℕ) → later ≡ Gave v s m c → Begins s.output (output_at (other v s m c)))
    → ((v : Value) (s : State) (m c : ℕ) → m < n → later ≡ Gave v s (m + more) c → Later more (next v s m c) (other v s (m + more) c))
    → Later more (and_then e next) (and_then later other)
later_then more n (Gave v s m c) later next other fl h g r =
    subst (λ l. Later more (next v s m c) (and_then l other)) (sym h) (r v s m c fl h)
later_then more n (Over (Ended o t) c) later next other fl h g r = ap (λ l. and_then l other) h
later_then more n (Over (Out o) c) later next other fl h g r = grows_then o later other h g
later_then more n (Over (Undefined o why place) c) later next other fl h g r = ap (λ l. and_then l other) h
later_then more n (Over (Deep o place) c) later next other fl h g r = ap (λ l. and_then l other) h

module _ (calls others : Calls) (more : ℕ) (fl : Falls calls) (gr : Grows others) (active : ℕ) where
  abbrev AgreeTo : ℕ → Type 0
  AgreeTo n = (a m k : ℕ) (call : Call) (s : State) → m ≤ n → Later more (calls a m k call s) (others a (m + more) k call s)

  resolve_later : (p q : Play Value) (o : List ℕ) (n c : ℕ) → AgreeTo n → Keeps o q → Follows n p q → Later more (resolve calls active n c p) (resolve others active (n + more) c q)
  unfolding Falls Grows
  resolve_later (Done v s) q o n c h k f = ap (λ r. resolve others active (n + more) c r) f
  resolve_later (Wrong why place s) q o n c h k f = ap (λ r. resolve others active (n + more) c r) f
  resolve_later (Exit text s) q o n c h k f = ap (λ r. resolve others active (n + more) c r) f
  resolve_later (Cut s) q o n c h k f = subst (λ r. Begins s.output (output_at (resolve others active (n + more) c r))) (sym f) (begins_refl s.output)
  resolve_later (Turn s p) q o zero c h k f =
      subst (λ r. Begins s.output (output_at (resolve others active (0 + more) c r))) (sym f.1)
      (resolve_grows others gr active (Turn s f.0) s.output (0 + more) c (begins_refl s.output, (subst (Keeps o) f.1 k).1))
  resolve_later (Turn s p) q o (suc n) c h k f =
      let e : suc n + more ≡ suc (n + more) = omega arith in
      subst (λ r. Later more (resolve calls active n c p) (resolve others active (suc n + more) c r)) (sym f.1)
      (subst (λ i. Later more (resolve calls active n c p) (resolve others active i c (Turn s f.0))) (sym e)
      (resolve_later p f.0 s.output n c (λ a m i call t le. h a m i call t (omega arith)) (subst (Keeps o) f.1 k).1 f.2))
  resolve_later (Ask call s p) q o zero c h k f =
      subst (λ r. Later more (and_then (calls active 0 c call s) (λ v t m i. resolve calls active m i (p v t))) (resolve others active (0 + more) c r)) (sym f.1)
      (later_then more 0 (calls active 0 c call s) (others active (0 + more) c call s) (λ v t m i. resolve calls active m i (p v t)) (λ v t m i. resolve others active m i (f.0 v t))
      (fl active 0 c call s) (h active 0 c call s (omega arith))
      (λ v t m i e. resolve_grows others gr active (f.0 v t) t.output m i ((subst (Keeps o) f.1 k).1 v t (subst (λ r. Begins s.output (output_at r)) e (gr active (0 + more) c call s))))
      (λ v t m i le e. absurd (omega arith)))
  resolve_later (Ask call s p) q o (suc n) c h k f =
      subst (λ r. Later more (and_then (calls active (suc n) c call s) (λ v t m i. resolve calls active m i (p v t))) (resolve others active (suc n + more) c r)) (sym f.1)
      (later_then more (suc n) (calls active (suc n) c call s) (others active (suc n + more) c call s) (λ v t m i. resolve calls active m i (p v t)) (λ v t m i. resolve others active m i (f.0 v t))
      (fl active (suc n) c call s) (h active (suc n) c call s (omega arith))
      (λ v t m i e. resolve_grows others gr active (f.0 v t) t.output m i ((subst (Keeps o) f.1 k).1 v t (subst (λ r. Begins s.output (output_at r)) e (gr active (suc n + more) c call s))))
      (λ v t m i le e. resolve_later (p v t) (f.0 v t) t.output m i (λ a j l w u lej. h a j l w u (omega arith))
      ((subst (Keeps o) f.1 k).1 v t (subst (λ r. Begins s.output (output_at r)) e (gr active (suc n + more) c call s)))
      (follows_less (p v t) (f.0 v t) n m (omega arith) (f.2 v t))))
  resolve_later (Moved bytes p) q o n c h k f =
      subst (λ r. Later more (resolve calls active n (c + bytes) p) (resolve others active (n + more) c r)) (sym f.1)
      (resolve_later p f.0 o n (c + bytes) h (subst (Keeps o) f.1 k) f.2)

later_if : (more : ℕ) (b : Bool) (o : List ℕ) (place : Place) (c : ℕ) (e later : End) → Later more e later → Later more (if b then Over (Deep o place) c else e) (if b then Over (Deep o place) c else later)
later_if more true o place c e later h = refl
later_if more false o place c e later h = h

calls_grow_at : (functions : Functions) → Fit functions → (d active n c : ℕ) (call : Call) (s : State) → Begins s.output (output_at (calls_to d functions active n c call s))
unfolding Grows
calls_grow_at functions f d active n c call s = calls_grow functions f d active n c call s

-- a call with more turns, at any depths that are enough
pub calls_go_on : (functions : Functions) → Fit functions → (d e active n more c : ℕ) (call : Call) (s : State) → n ≤ d → n + more ≤ e
    → Later more (calls_to d functions active n c call s) (calls_to e functions active (n + more) c call s)
calls_go_on functions f zero e active zero more c call s hd he = calls_grow_at functions f e active (0 + more) c call s
calls_go_on functions f (suc d) e active zero more c call s hd he = calls_grow_at functions f e active (0 + more) c call s
calls_go_on functions f zero e active (suc n) more c call s hd he = absurd (omega arith)
calls_go_on functions f (suc d) zero active (suc n) more c call s hd he = absurd (omega arith)
calls_go_on functions f (suc d) (suc e) active (suc n) more c call s hd he =
    let eq : suc n + more ≡ suc (n + more) = omega arith in
    subst (λ i. Later more (calls_to (suc d) functions active (suc n) c call s) (calls_to (suc e) functions active i c call s)) (sym eq)
    (later_if more (nat_lt room (active + functions.need call.function)) s.output call.place c
    (resolve (calls_to d functions) (active + functions.need call.function) n c (functions.body n call s))
    (resolve (calls_to e functions) (active + functions.need call.function) (n + more) c (functions.body (n + more) call s))
    (resolve_later (calls_to d functions) (calls_to e functions) more (calls_fall functions d) (calls_grow functions f e) (active + functions.need call.function)
    (functions.body n call s) (functions.body (n + more) call s) s.output n c
    (λ a m i w t le. calls_go_on functions f d e a m more i w t (omega arith) (omega arith))
    (f.keeps (n + more) call s) (f.follows n (n + more) call s (omega arith))))
