-- Runs of both machines: they stay where they ended, compose, write more and read on.
use Rattle.std.proofs.Common.{ℕ, zero, suc, ◌+◌, ◌≡◌, ◌++◌, List, [], Bool, Option, Some, None, Result, Ok, Err, refl, sym, ap, ◌∙◌, min, length, take, append_assoc, slice_get, if◌then◌else◌, add-zero}
use Rattle.std.proofs.lemmas.List.{append-nil, take-append-drop}
use Rattle.std.proofs.Math.Nat.{add-suc}
use Rattle.p9_r3k.specs.declared.inst.Inst.{Inst}
use Rattle.p9_r3k.specs.declared.lines.Line.{Line}
use Rattle.p9_base.specs.declared.halt.HaltCause.{HaltCause}
use Rattle.p9_base.specs.declared.halt.Ending.{Ending}
use Rattle.p9_base.specs.declared.halt.Ending.TheVariants.{Running, Exited, Halted}
use Rattle.p9_base.specs.declared.halt.Effect.{Effect}
use Rattle.p9_base.specs.declared.halt.Effect.TheVariants.{Write, Pair, Load, StoreByte, StoreHalf, StoreWord, Branch, JumpTo, Call, Stop}
use Rattle.p9_base.specs.declared.halt.Asked.{Asked}
use Rattle.p9_base.specs.declared.halt.Asked.TheVariants as asks
use Rattle.p9_r3k.specs.Memory.{bytes_from}
use Rattle.p9_r3k.specs.Effects.{effect_of, reads_pair}
use Rattle.p9_r3k.specs.Machine.{State, fetched, asked, called, acted, executed, going, step, run}
use Rattle.p9_r3k.specs.Straight.{Addresses, Straight, filled, linked_line, line_at, aim, standing, on_to, at_once, straight_line, straight_going, straight_step, straight_run}
use Rattle.p9_r3k.specs.Laws.{HasEnded, Extends, EndsWith}

-- A run that has ended stays

pub going-ended : (e : Ending) (s : State) → HasEnded e → going e s ≡ s
going-ended Running s h = absurd h
going-ended (Exited at len) s h = refl
going-ended (Halted cause pc) s h = refl

pub step-ended : (s : State) → HasEnded s.core.ending → step s ≡ s
unfolding step
step-ended s h = going-ended s.core.ending s h

pub run-ended : (n : ℕ) (s : State) → HasEnded s.core.ending → run n s ≡ s
unfolding run
run-ended zero s h = refl
run-ended (suc n) s h = ap step (run-ended n s h) ∙ step-ended s h

-- Runs compose

pub run-zero : (s : State) → run 0 s ≡ s
unfolding run
run-zero s = refl

pub run-suc : (n : ℕ) (s : State) → run (suc n) s ≡ step (run n s)
unfolding run
run-suc n s = refl

pub run-sum : (m n : ℕ) (s : State) → run (m + n) s ≡ run n (run m s)
unfolding run
run-sum m zero s = rw add-zero refl
run-sum m (suc n) s = rw add-suc (ap step (run-sum m n s))

-- The output grows

pub extends-same : (xs : List ℕ) → Extends xs xs
extends-same xs = ([], sym (append-nil xs))

pub extends-trans : (xs ys zs : List ℕ) → Extends xs ys → Extends ys zs → Extends xs zs
extends-trans xs ys zs (more, e) (again, d) = (more ++ again, d ∙ (ap (λ l. l ++ again) e ∙ append_assoc xs more again))

pub called-out : (k : Asked) (s : State) → Extends s.out (called k s).out
called-out (asks.Exits at len) s = extends-same s.out
called-out (asks.Read at n) s = extends-same s.out
called-out (asks.Write at n) s = (bytes_from s.core at n, refl)
called-out asks.Refused s = extends-same s.out
called-out (asks.Stop cause) s = extends-same s.out

pub acted-out : (e : Effect) (s : State) (reader : Bool) → Extends s.out (acted e s reader).out
acted-out (Write r v) s reader = extends-same s.out
acted-out (Pair h l) s reader = extends-same s.out
acted-out (Load r v) s reader = extends-same s.out
acted-out (StoreByte at v) s reader = extends-same s.out
acted-out (StoreHalf at v) s reader = extends-same s.out
acted-out (StoreWord at v) s reader = extends-same s.out
acted-out (Branch r taken to) s reader = extends-same s.out
acted-out (JumpTo r to) s reader = extends-same s.out
acted-out Call s reader = called-out (asked s.core) s
acted-out (Stop cause) s reader = extends-same s.out

pub executed-out : (r : Result Inst HaltCause) (s : State) → Extends s.out (executed r s).out
executed-out (Err cause) s = extends-same s.out
executed-out (Ok i) s = acted-out (effect_of i s.core) s (reads_pair i)

pub going-out : (e : Ending) (s : State) → Extends s.out (going e s).out
going-out Running s = executed-out (fetched s.core) s
going-out (Exited at len) s = extends-same s.out
going-out (Halted cause pc) s = extends-same s.out

pub step-out : (s : State) → Extends s.out (step s).out
unfolding step
step-out s = going-out s.core.ending s

pub run-out : (n : ℕ) (s : State) → Extends s.out (run n s).out
unfolding run
run-out zero s = extends-same s.out
run-out (suc n) s = extends-trans s.out (run n s).out (step (run n s)).out (run-out n s) (step-out (run n s))

-- The input is read on

pub ends-same : (xs : List ℕ) → EndsWith xs xs
ends-same xs = ([], refl)

pub ends-trans : (xs ys zs : List ℕ) → EndsWith xs ys → EndsWith ys zs → EndsWith xs zs
ends-trans xs ys zs (before, e) (again, d) = (before ++ again, e ∙ (ap (λ l. before ++ l) d ∙ sym (append_assoc before again zs)))

pub called-left : (k : Asked) (s : State) → EndsWith s.left (called k s).left
called-left (asks.Exits at len) s = ends-same s.left
called-left (asks.Read at n) s =
    (take (min n (length s.left)) s.left, sym (take-append-drop (min n (length s.left)) s.left))
called-left (asks.Write at n) s = ends-same s.left
called-left asks.Refused s = ends-same s.left
called-left (asks.Stop cause) s = ends-same s.left

pub acted-left : (e : Effect) (s : State) (reader : Bool) → EndsWith s.left (acted e s reader).left
acted-left (Write r v) s reader = ends-same s.left
acted-left (Pair h l) s reader = ends-same s.left
acted-left (Load r v) s reader = ends-same s.left
acted-left (StoreByte at v) s reader = ends-same s.left
acted-left (StoreHalf at v) s reader = ends-same s.left
acted-left (StoreWord at v) s reader = ends-same s.left
acted-left (Branch r taken to) s reader = ends-same s.left
acted-left (JumpTo r to) s reader = ends-same s.left
acted-left Call s reader = called-left (asked s.core) s
acted-left (Stop cause) s reader = ends-same s.left

pub executed-left : (r : Result Inst HaltCause) (s : State) → EndsWith s.left (executed r s).left
executed-left (Err cause) s = ends-same s.left
executed-left (Ok i) s = acted-left (effect_of i s.core) s (reads_pair i)

pub going-left : (e : Ending) (s : State) → EndsWith s.left (going e s).left
going-left Running s = executed-left (fetched s.core) s
going-left (Exited at len) s = ends-same s.left
going-left (Halted cause pc) s = ends-same s.left

pub step-left : (s : State) → EndsWith s.left (step s).left
unfolding step
step-left s = going-left s.core.ending s

pub run-left : (n : ℕ) (s : State) → EndsWith s.left (run n s).left
unfolding run
run-left zero s = ends-same s.left
run-left (suc n) s = ends-trans s.left (run n s).left (step (run n s)).left (run-left n s) (step-left (run n s))

-- The straight machine's runs

pub straight_going-ended :
    (a : Addresses) (lines : List Line) (e : Ending) (x : Straight) → HasEnded e → straight_going a lines e x ≡ x
straight_going-ended a lines Running x h = absurd h
straight_going-ended a lines (Exited at len) x h = refl
straight_going-ended a lines (Halted cause pc) x h = refl

pub straight_step-ended :
    (a : Addresses) (lines : List Line) (x : Straight) → HasEnded x.state.core.ending → straight_step a lines x ≡ x
unfolding straight_step
straight_step-ended a lines x h = straight_going-ended a lines x.state.core.ending x h

pub straight_run-ended :
    (a : Addresses) (lines : List Line) (n : ℕ) (x : Straight) →
    HasEnded x.state.core.ending → straight_run a lines n x ≡ x
unfolding straight_run
straight_run-ended a lines zero x h = refl
straight_run-ended a lines (suc n) x h =
    ap (straight_step a lines) (straight_run-ended a lines n x h) ∙ straight_step-ended a lines x h

pub straight_run-suc :
    (a : Addresses) (lines : List Line) (n : ℕ) (x : Straight) →
    straight_run a lines (suc n) x ≡ straight_step a lines (straight_run a lines n x)
unfolding straight_run
straight_run-suc a lines n x = refl

pub straight_run-sum :
    (a : Addresses) (lines : List Line) (m n : ℕ) (x : Straight) →
    straight_run a lines (m + n) x ≡ straight_run a lines n (straight_run a lines m x)
unfolding straight_run
straight_run-sum a lines m zero x = rw add-zero refl
straight_run-sum a lines m (suc n) x = rw add-suc (ap (straight_step a lines) (straight_run-sum a lines m n x))

-- what both lists of a state become
pub record ReadsAndWrites (s t : State) : Type 0 where
  pub out : Extends s.out t.out
  pub left : EndsWith s.left t.left

pub reads_and_writes-same : (s : State) → ReadsAndWrites s s
reads_and_writes-same s = record { out = extends-same s.out; left = ends-same s.left }

pub on_to-streams : (j : Option ℕ) (i : ℕ) (s : State) → ReadsAndWrites s (on_to j i s).state
on_to-streams (Some j) i s = record { out = extends-same s.out; left = ends-same s.left }
on_to-streams None i s = record { out = extends-same s.out; left = ends-same s.left }

pub at_once-streams :
    (a : Addresses) (n : ℕ) (target : Option ℕ) (e : Effect) (i : ℕ) (s : State) →
    ReadsAndWrites s (at_once a n target e i s).state
at_once-streams a n target (Write r v) i s = record { out = extends-same s.out; left = ends-same s.left }
at_once-streams a n target (Pair h l) i s = record { out = extends-same s.out; left = ends-same s.left }
at_once-streams a n target (Load r v) i s = record { out = extends-same s.out; left = ends-same s.left }
at_once-streams a n target (StoreByte at v) i s = record { out = extends-same s.out; left = ends-same s.left }
at_once-streams a n target (StoreHalf at v) i s = record { out = extends-same s.out; left = ends-same s.left }
at_once-streams a n target (StoreWord at v) i s = record { out = extends-same s.out; left = ends-same s.left }
at_once-streams a n target (Branch r taken to) i s =
    let h : ReadsAndWrites (linked_line a r i s) (on_to (if taken then target else Some (i + 1)) i (linked_line a r i s)).state =
    on_to-streams (if taken then target else Some (i + 1)) i (linked_line a r i s) in
    record { out = h.out; left = h.left }
at_once-streams a n target (JumpTo r to) i s =
    let h : ReadsAndWrites (linked_line a r i s) (on_to (line_at a.line to 0 n) i (linked_line a r i s)).state =
    on_to-streams (line_at a.line to 0 n) i (linked_line a r i s) in
    record { out = h.out; left = h.left }
at_once-streams a n target Call i s = record { out = called-out (asked s.core) s; left = called-left (asked s.core) s }
at_once-streams a n target (Stop cause) i s = record { out = extends-same s.out; left = ends-same s.left }

pub straight_line-streams :
    (a : Addresses) (n : ℕ) (line : Option Line) (i : ℕ) (s : State) → ReadsAndWrites s (straight_line a n line i s).state
straight_line-streams a n None i s = record { out = extends-same s.out; left = ends-same s.left }
straight_line-streams a n (Some line) i s = at_once-streams a n (aim a n line s.core) (effect_of (filled a line) s.core) i s

pub straight_going-streams :
    (a : Addresses) (lines : List Line) (e : Ending) (x : Straight) →
    ReadsAndWrites x.state (straight_going a lines e x).state
straight_going-streams a lines Running x =
    let h : ReadsAndWrites (standing a x) (straight_line a (length lines) (slice_get lines x.at) x.at (standing a x)).state =
    straight_line-streams a (length lines) (slice_get lines x.at) x.at (standing a x) in
    record { out = h.out; left = h.left }
straight_going-streams a lines (Exited at len) x = reads_and_writes-same x.state
straight_going-streams a lines (Halted cause pc) x = reads_and_writes-same x.state

pub straight_step-streams :
    (a : Addresses) (lines : List Line) (x : Straight) → ReadsAndWrites x.state (straight_step a lines x).state
unfolding straight_step
straight_step-streams a lines x = straight_going-streams a lines x.state.core.ending x

pub straight_run-out :
    (a : Addresses) (lines : List Line) (n : ℕ) (x : Straight) →
    Extends x.state.out (straight_run a lines n x).state.out
unfolding straight_run
straight_run-out a lines zero x = extends-same x.state.out
straight_run-out a lines (suc n) x =
    let before : Straight = straight_run a lines n x in
    extends-trans x.state.out before.state.out (straight_step a lines before).state.out
    (straight_run-out a lines n x) (straight_step-streams a lines before).out

pub straight_run-left :
    (a : Addresses) (lines : List Line) (n : ℕ) (x : Straight) →
    EndsWith x.state.left (straight_run a lines n x).state.left
unfolding straight_run
straight_run-left a lines zero x = ends-same x.state.left
straight_run-left a lines (suc n) x =
    let before : Straight = straight_run a lines n x in
    ends-trans x.state.left before.state.left (straight_step a lines before).state.left
    (straight_run-left a lines n x) (straight_step-streams a lines before).left
