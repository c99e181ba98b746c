-- Calls take turns, and any depth from the turns on gives them the same end.
use Rattle.std.proofs.Common.{◌≡◌, ◌<◌, ◌≤◌, ℕ, zero, suc, ◌+◌, Bool, true, false, if◌then◌else◌, nat_lt, refl, ap, ◌∙◌, arith}
use Rattle.p9_first.specs.Cells.{Value, State}
use Rattle.p9_first.specs.Plays.{Call, Play, Done, Wrong, Exit, Cut, Turn, Ask, Moved}
use Rattle.p9_first.specs.Turns.{Outcome, Deep, End, Gave, Over, and_then, Calls, resolve, Functions, room, call_in, calls_to}
use Rattle.p9_first.specs.PlayLaws.{LeavesFewer, CallsTakeTurns, DepthIsEnough}

-- no more turns are left than there were
abbrev pub LeavesAtMost : ℕ → End → Type 0
LeavesAtMost turns (Gave value s left copied) = left ≤ turns
LeavesAtMost turns (Over outcome copied) = Unit {0}

-- what is known of the calls of a play
unfoldable pub Falls : Calls → Type 0
Falls calls = (active turns copied : ℕ) (call : Call) (s : State) → LeavesFewer turns (calls active turns copied call s)

at_most_more : (m n : ℕ) (e : End) → m ≤ n → LeavesAtMost m e → LeavesAtMost n e
at_most_more m n (Gave v s k c) le h = omega arith
at_most_more m n (Over o c) le h = tt

at_most_then : (n : ℕ) (e : End) (next : Value → State → ℕ → ℕ → End) → LeavesFewer n e → ((v : Value) (s : State) (m c : ℕ) → m < n → LeavesAtMost n (next v s m c)) → LeavesAtMost n (and_then e next)
at_most_then n (Gave v s m c) next h g = g v s m c h
at_most_then n (Over o c) next h g = tt

resolve_at_most : (calls : Calls) → Falls calls → (active : ℕ) (p : Play Value) (n c : ℕ) → LeavesAtMost n (resolve calls active n c p)
unfolding Falls
resolve_at_most calls fl active (Done v s) n c = omega arith
resolve_at_most calls fl active (Wrong why place s) n c = tt
resolve_at_most calls fl active (Exit text s) n c = tt
resolve_at_most calls fl active (Cut s) n c = tt
resolve_at_most calls fl active (Turn s p) zero c = tt
resolve_at_most calls fl active (Turn s p) (suc n) c =
    at_most_more n (suc n) (resolve calls active n c p) (omega arith) (resolve_at_most calls fl active p n c)
resolve_at_most calls fl active (Ask call s p) n c =
    at_most_then n (calls active n c call s) (λ v t m d. resolve calls active m d (p v t)) (fl active n c call s)
    (λ v t m d le. at_most_more m n (resolve calls active m d (p v t)) (omega arith) (resolve_at_most calls fl active (p v t) m d))
resolve_at_most calls fl active (Moved bytes p) n c = resolve_at_most calls fl active p n (c + bytes)

fewer_if : (n : ℕ) (b : Bool) (o : Outcome) (c : ℕ) (e : End) → LeavesAtMost n e → LeavesFewer (suc n) (if b then Over o c else e)
fewer_if n true o c e h = tt
fewer_if n false o c (Gave v s m d) h = omega arith
fewer_if n false o c (Over p d) h = tt

call_falls : (functions : Functions) (inner : Calls) → Falls inner → Falls (call_in functions inner)
unfolding Falls
call_falls functions inner fl active zero c call s = tt
call_falls functions inner fl active (suc n) c call s =
    fewer_if n (nat_lt room (active + functions.need call.function)) (Deep s.output call.place) c
    (resolve inner (active + functions.need call.function) n c (functions.body n call s))
    (resolve_at_most inner fl (active + functions.need call.function) (functions.body n call s) n c)

pub calls_fall : (functions : Functions) (d : ℕ) → Falls (calls_to d functions)
unfolding Falls
calls_fall functions zero active n c call s = tt
calls_fall functions (suc d) active n c call s = call_falls functions (calls_to d functions) (calls_fall functions d) active n c call s

pub calls_take_turns : CallsTakeTurns
unfolding Falls
calls_take_turns functions d active n c call s = calls_fall functions d active n c call s

-- Two meanings of calls that agree up to n turns

then_same : (n : ℕ) (e : End) (next other : Value → State → ℕ → ℕ → End) → LeavesFewer n e → ((v : Value) (s : State) (m c : ℕ) → m < n → next v s m c ≡ other v s m c) → and_then e next ≡ and_then e other
then_same n (Gave v s m c) next other h g = g v s m c h
then_same n (Over o c) next other h g = refl

resolve_same : (c d : Calls) → Falls d → (active : ℕ) (p : Play Value) (n copied : ℕ)
    → ((a m k : ℕ) (call : Call) (s : State) → m ≤ n → c a m k call s ≡ d a m k call s)
    → resolve c active n copied p ≡ resolve d active n copied p
unfolding Falls
resolve_same c d fl active (Done v s) n k h = refl
resolve_same c d fl active (Wrong why place s) n k h = refl
resolve_same c d fl active (Exit text s) n k h = refl
resolve_same c d fl active (Cut s) n k h = refl
resolve_same c d fl active (Turn s p) zero k h = refl
resolve_same c d fl active (Turn s p) (suc n) k h = resolve_same c d fl active p n k (λ a m i call t le. h a m i call t (omega arith))
resolve_same c d fl active (Ask call s p) n k h =
    ap (λ e. and_then e (λ v t m i. resolve c active m i (p v t))) (h active n k call s (omega arith))
    ∙ then_same n (d active n k call s) (λ v t m i. resolve c active m i (p v t)) (λ v t m i. resolve d active m i (p v t)) (fl active n k call s)
    (λ v t m i le. resolve_same c d fl active (p v t) m i (λ a j l q u lej. h a j l q u (omega arith)))
resolve_same c d fl active (Moved bytes p) n k h = resolve_same c d fl active p n (k + bytes) h

pub depth_is_enough : DepthIsEnough
depth_is_enough functions zero zero active turns k call s hd he = refl
depth_is_enough functions zero (suc e) active zero k call s hd he = refl
depth_is_enough functions (suc d) zero active zero k call s hd he = refl
depth_is_enough functions (suc d) (suc e) active zero k call s hd he = refl
depth_is_enough functions zero (suc e) active (suc n) k call s hd he = absurd (omega arith)
depth_is_enough functions (suc d) zero active (suc n) k call s hd he = absurd (omega arith)
depth_is_enough functions (suc d) (suc e) active (suc n) k call s hd he =
    ap (λ r. if nat_lt room (active + functions.need call.function) then Over (Deep s.output call.place) k else r)
    (resolve_same (calls_to d functions) (calls_to e functions) (calls_fall functions e) (active + functions.need call.function) (functions.body n call s) n k
    (λ a m i q t le. depth_is_enough functions d e a m i q t (omega arith) (omega arith)))
