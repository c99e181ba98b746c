-- What the traits promise of a call's objects, and what its calls tell.
use Rattle.std.proofs.Common.{◌≡◌, ℕ, List, ◌++◌, Option, Some, None, IfSome, refl, subst, sym}
use Rattle.p9_base.specs.CallBytes.{written_in}
use Rattle.p9_base.specs.Calls.{StreamCall, StreamsDid, Counted}
use Rattle.p9_base.specs.Outside.{TakeCall, TakeMeans, PutCall, PutMeans, FileCall, FileMeans}
use Rattle.p9_base.proofs.CallLemmas.{take_counts, put_counts, file_counts}
use Rattle.p9_suite.proofs.Ran.{ToldBy}
use Rattle.p9_suite.proofs.Telling.{told_input, told_out}
use Rattle.p9_suite.specs.Scene.{Scene, HasPut}

pub record Meaning {I O F : Type 0} (call : Scene I O F) : Type 0 where
  pub takes : (old : I) (c : TakeCall) (new : I) → call.doing.takes old c new → TakeMeans (call.telling.left old) (call.counts.input_faults old) c (call.telling.left new) (call.counts.input_faults new)
  pub puts : (old : O) (c : PutCall) (new : O) → call.doing.puts old c new → PutMeans (call.telling.sofar old) (call.counts.out_faults old) c (call.telling.sofar new) (call.counts.out_faults new)
  pub stores : (old : F) (c : FileCall) (new : F) → call.doing.stores old c new → FileMeans (call.telling.held old) (call.counts.store_faults old) c (call.telling.held new) (call.counts.store_faults new)

pub counted : {I O F : Type 0} (call : Scene I O F) → Meaning call → Counted I O F call.doing call.counts
counted call m = record {
  of_takes = λ old c new d. take_counts (call.telling.left old) (call.counts.input_faults old) c (call.telling.left new) (call.counts.input_faults new) (m.takes old c new d);
  of_puts = λ old c new d. put_counts (call.telling.sofar old) (call.counts.out_faults old) c (call.telling.sofar new) (call.counts.out_faults new) (m.puts old c new d);
  of_files = λ old c new d. file_counts (call.telling.held old) (call.counts.store_faults old) c (call.telling.held new) (call.counts.store_faults new) (m.stores old c new d);
}

put_if : {I O F : Type 0} (call : Scene I O F) (bytes : List ℕ) (before : Option (List ℕ)) → call.telling.sofar call.old.out ≡ before → ((s : List ℕ) → before ≡ Some s → call.telling.sofar call.new.out ≡ Some (s ++ bytes)) → HasPut call bytes
put_if call bytes None e f = subst (λ (o : Option (List ℕ)). IfSome o (λ before. call.telling.sofar call.new.out ≡ Some (before ++ bytes))) (sym e) tt
put_if call bytes (Some s) e f = subst (λ (o : Option (List ℕ)). IfSome o (λ before. call.telling.sofar call.new.out ≡ Some (before ++ bytes))) (sym e) (f s refl)

-- the takes and puts between the objects before and after
pub told_by : {I O F : Type 0} (call : Scene I O F) (calls : List StreamCall) → Meaning call → StreamsDid call.doing.takes call.doing.puts call.old.input call.old.out calls call.new.input call.new.out → ToldBy call calls
told_by call calls m d = record {
  input = λ l e. told_input call.telling.left call.counts.input_faults call.doing.takes call.telling.sofar call.counts.out_faults call.doing.puts m.takes m.puts calls call.old.input call.old.out call.new.input call.new.out l d e;
  out = put_if call (written_in calls) (call.telling.sofar call.old.out) refl (λ s e. told_out call.telling.left call.counts.input_faults call.doing.takes call.telling.sofar call.counts.out_faults call.doing.puts m.takes m.puts calls call.old.input call.old.out call.new.input call.new.out s d e);
}
