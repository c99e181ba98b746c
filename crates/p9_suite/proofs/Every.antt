-- What holds of every command follows from the ways on which it comes to its answer.
use Rattle.std.proofs.Common.{◌≡◌, ◌≢◌, ℕ, zero, suc, ◌==◌, Bool, true, false, List, [], ◌∷◌, take, Option, Some, None, IfSome, if◌then◌else◌, refl, sym, ◌∙◌, ap, subst, arith}
use Rattle.std.proofs.lemmas.Bool.Decides.{nat_tests}
use Rattle.std.specs.List.{Contains}
use Rattle.std.specs.Prelude.{IsSomeAnd}
use Rattle.p9_base.proofs.CallLemmas.{counts_say}
use Rattle.p9_base.specs.Calls.{Call, Failing, Input, Out, Store, Objects, Did, CallsEnd, Counts, CountsSay}
use Rattle.p9_base.specs.Outside.{Held, Rose}
use Rattle.p9_suite.proofs.Calls.{IsNew, OfStore, of_store, others_kept, some_and}
use Rattle.p9_suite.proofs.Calls as calls
use Rattle.p9_suite.proofs.Meaning.{Meaning, counted}
use Rattle.p9_suite.proofs.Table.{command_tidy, command_usual}
use Rattle.p9_suite.proofs.Tidy.{Tidy, take_none}
use Rattle.p9_suite.specs.Answers.{status}
use Rattle.p9_suite.specs.Scene.{Scene, held, held_now, failing_at, has_run, is_early, names_written}
use Rattle.p9_suite.specs.Suite.{Answered, CommandComes, OfEveryCommand, command}
use Rattle.p9_suite.specs.commands.{Command, outputs}
use Rattle.p9_suite.specs.declared.answer.Answer.{Answer}
use Rattle.p9_suite.specs.declared.answer.Answer.TheVariants.{Usage}

-- the words are a command, or they are none
pub data Usual (c : Option Command) (answer : Answer) (calls : List Call) : Type 0 where
  no_command : c ≡ None → answer ≡ Usage → calls ≡ [] → Usual c answer calls
  some_command : c ≢ None → status answer ≢ 2 → Tidy (outputs c) answer calls → Usual c answer calls

usual : (c : Option Command) (answer : Answer) (calls : List Call) → CommandComes c answer calls → Usual c answer calls
usual None answer calls m = no_command refl m.0 m.1
usual (Some c) answer calls m =
    some_command (λ e. cc) (subst (λ (a : Answer). status a ≢ 2) (sym m.1) (command_usual c m.0 calls m.2))
    (subst (λ (a : Answer). Tidy (outputs (Some c)) a calls) (sym m.1) (command_tidy c m.0 calls m.2))

-- The counts

eq_true : (n m : ℕ) → (n == m) ≡ true → n ≡ m
eq_true n m h = grind (arith, nat_tests)

input_by : (a b c : Bool) (s : ℕ) → (a ≡ true → s ≡ 7) → (if a then Some Input else if b then Some Out else if c then Some Store else None) ≡ Some Input → s ≡ 7
input_by true b c s h e = h refl
input_by false true c s h e = cc
input_by false false true s h e = cc
input_by false false false s h e = cc

out_by : (a b c : Bool) (s : ℕ) → (b ≡ true → s ≡ 8) → (if a then Some Input else if b then Some Out else if c then Some Store else None) ≡ Some Out → s ≡ 8
out_by true b c s h e = cc
out_by false true c s h e = h refl
out_by false false true s h e = cc
out_by false false false s h e = cc

store_by : (a b c : Bool) (s : ℕ) → (c ≡ true → s ≡ 9) → (if a then Some Input else if b then Some Out else if c then Some Store else None) ≡ Some Store → s ≡ 9
store_by true b c s h e = cc
store_by false true c s h e = cc
store_by false false true s h e = h refl
store_by false false false s h e = cc

record Faults {I O F : Type 0} (counts : Counts I O F) (old new : Objects I O F) (failed : Option Failing) : Type 0 where
  input : failed ≡ Some Input → Rose (counts.input_faults old.input) (counts.input_faults new.input)
  no_input : failed ≢ Some Input → counts.input_faults new.input ≡ counts.input_faults old.input
  out : failed ≡ Some Out → Rose (counts.out_faults old.out) (counts.out_faults new.out)
  no_out : failed ≢ Some Out → counts.out_faults new.out ≡ counts.out_faults old.out
  files : failed ≡ Some Store → Rose (counts.store_faults old.files) (counts.store_faults new.files)
  no_files : failed ≢ Some Store → counts.store_faults new.files ≡ counts.store_faults old.files

faults : {I O F : Type 0} (counts : Counts I O F) (old new : Objects I O F) (failed : Option Failing) → CountsSay counts old new failed → Faults counts old new failed
faults counts old new None c = record { input = λ e. cc; no_input = λ _. c.0; out = λ e. cc; no_out = λ _. c.1; files = λ e. cc; no_files = λ _. c.2 }
faults counts old new (Some Input) c = record { input = λ _. c.0; no_input = λ n. absurd (n refl); out = λ e. cc; no_out = λ _. c.1; files = λ e. cc; no_files = λ _. c.2 }
faults counts old new (Some Out) c = record { input = λ e. cc; no_input = λ _. c.1; out = λ _. c.0; no_out = λ n. absurd (n refl); files = λ e. cc; no_files = λ _. c.2 }
faults counts old new (Some Store) c = record { input = λ e. cc; no_input = λ _. c.1; out = λ e. cc; no_out = λ _. c.2; files = λ _. c.0; no_files = λ n. absurd (n refl) }

-- Names

new_name : (q : List ℕ) (names : List (List ℕ)) (count : ℕ) → ¬ (Contains names q) → IsNew q (take count names)
new_name q names zero n = subst (IsNew q) (sym (take_none names)) tt
new_name q [] (suc count) n = tt
new_name q (x ∷ xs) (suc count) n =
    ((λ e. n (0, omega arith, sym e)), new_name q xs count (λ c. n (suc c.0, omega (arith, c.1), c.2)))

-- Every command

pub of_every_command : {I O F : Type 0} (call : Scene I O F) → Meaning call → Answered call → OfEveryCommand call
of_every_command {I} {O} {F} call means a = by (usual (command call) a.answer a.calls a.comes)
  where
    s : call.status ≡ status a.answer
    s = a.is.0

    made : Tidy (outputs (command call)) a.answer a.calls → (call.status ≡ 2 → command call ≡ None) → (command call ≡ None → call.status ≡ 2) → OfEveryCommand call
    made t two none =
        let ends : CallsEnd a.calls (failing_at call.status) = subst (λ (n : ℕ). CallsEnd a.calls (failing_at n)) (sym s) t.ends in
        let f : Faults call.counts call.old call.new (failing_at call.status) =
        faults call.counts call.old call.new (failing_at call.status) (counts_say call.doing call.counts (counted call means) a.calls (failing_at call.status) call.old call.new a.did ends) in
        record {
          usage = (two, none);
          read_fault = λ e. f.input (ap failing_at e);
          no_read_fault = λ n. f.no_input (λ e. n (input_by (call.status == 7) (call.status == 8) (call.status == 9) call.status (eq_true call.status 7) e));
          write_fault = λ e. f.out (ap failing_at e);
          no_write_fault = λ n. f.no_out (λ e. n (out_by (call.status == 7) (call.status == 8) (call.status == 9) call.status (eq_true call.status 8) e));
          store_fault = λ e. f.files (ap failing_at e);
          no_store_fault = λ n. f.no_files (λ e. n (store_by (call.status == 7) (call.status == 8) (call.status == 9) call.status (eq_true call.status 9) e));
          made = record { calls = a.calls; did = a.did; ends = ends; count = t.count; writes = t.writes; early = λ e. t.early (ap is_early (sym s) ∙ e) };
          untouched = λ e.
              let q = t.quiet (ap has_run (sym s) ∙ e) in
              let o : OfStore call.doing.takes call.doing.puts call.doing.stores q.0 call.old call.new =
              of_store call.doing.takes call.doing.puts call.doing.stores q.0 call.old call.new (subst (λ (x : List Call). Did call.doing call.old x call.new) q.1 a.did) in
              (o.input, o.out);
          unwritten = λ e. calls.unwritten call.doing.takes call.doing.puts call.telling.held call.counts.store_faults call.doing.stores means.stores a.calls call.old call.new a.did (t.early (ap is_early (sym s) ∙ e));
          others = kept (held call) refl t;
        }
      where
        kept : (h : Option Held) → held call ≡ h → Tidy (outputs (command call)) a.answer a.calls → IfSome (held call) (λ before. IsSomeAnd (held_now call) (λ now. (name : List ℕ) → ¬ (Contains (outputs (command call)) name) → now name ≡ before name))
        kept None e t = subst (λ (o : Option Held). IfSome o (λ before. IsSomeAnd (held_now call) (λ now. (name : List ℕ) → ¬ (Contains (outputs (command call)) name) → now name ≡ before name))) (sym e) tt
        kept (Some before) e t =
            let r = some_and (λ now. (q : List ℕ) → IsNew q (names_written a.calls) → now q ≡ before q)
            (others_kept call.doing.takes call.doing.puts call.telling.held call.counts.store_faults call.doing.stores means.stores a.calls call.old call.new before a.did e) in
            subst (λ (o : Option Held). IfSome o (λ before. IsSomeAnd (held_now call) (λ now. (name : List ℕ) → ¬ (Contains (outputs (command call)) name) → now name ≡ before name))) (sym e)
            (subst (λ (o : Option Held). IsSomeAnd o (λ now. (name : List ℕ) → ¬ (Contains (outputs (command call)) name) → now name ≡ before name)) (sym r.1)
            (λ q n. r.2 q (subst (IsNew q) (sym t.writes) (new_name q (outputs (command call)) t.count n))))

    by : Usual (command call) a.answer a.calls → OfEveryCommand call
    by (no_command c u e) =
        let tidy : Tidy (outputs (command call)) Usage [] = record { ends = tt; count = 0; writes = sym (take_none (outputs (command call))); early = λ _. refl; quiet = λ _. ([], refl) } in
        made (subst (λ (x : Answer). Tidy (outputs (command call)) x a.calls) (sym u) (subst (λ (x : List Call). Tidy (outputs (command call)) Usage x) (sym e) tidy))
        (λ _. c) (λ _. s ∙ ap status u)
    by (some_command n u t) = made t (λ two. absurd (u (sym s ∙ two))) (λ none. absurd (n none))
