-- Lists of calls: joined, lifted, and what they say of the counts of faults.
use Rattle.std.proofs.Common.{◌≡◌, ◌<◌, ◌≤◌, ℕ, ◌+◌, ◌-◌, ◌^◌, min, max, List, [], ◌∷◌, ◌++◌, map, Option, Some, None, Result, Ok, Err, arith, sym, ◌∙◌, ap, subst, refl}
use Rattle.p9_base.specs.declared.outside.Took as took
use Rattle.p9_base.specs.declared.outside.Put as put
use Rattle.p9_base.specs.declared.outside.Got as got
use Rattle.p9_base.specs.declared.outside.FileFault as fault
use Rattle.p9_base.specs.Outside.{Rose, Held, TakeCall, Take, TakeMeans, TakeCounts, PutCounts, FileCounts, PutCall, PutPiece, PutMeans, TakeCause, PutCause, ReadCause, WriteCause, FileCall, ReadCall, WriteCall, FileMeans}
use Rattle.p9_base.specs.Calls.{StreamCall, OnInput, OnOut, Call, OnStream, OnFiles, Failing, Input, Out, Store, stream_failure, file_failure, failure, StreamsFine, CallsFine, StreamsEnd, CallsEnd, StreamDoes, StreamsDid, Objects, Doing, Does, Did, Counts, SameCounts, CountsSay, Counted}

pub none_some : {A : Type 0} (x : A) → None ≡ Some x → ⊥
none_some x e = cc

pub some_none : {A : Type 0} (x : A) → Some x ≡ None → ⊥
some_none x e = cc

-- Joined

pub StreamsDid-append : {I O : Type 0} (takes : I → TakeCall → I → Type 0) (puts : O → PutCall → O → Type 0) →
    (calls more : List StreamCall) (i : I) (o : O) (j : I) (p : O) (k : I) (q : O) →
    StreamsDid takes puts i o calls j p → StreamsDid takes puts j p more k q → StreamsDid takes puts i o (calls ++ more) k q
StreamsDid-append takes puts [] more i o j p k q (same_input, same_out) second =
    subst (λ x. StreamsDid takes puts x o more k q) same_input (subst (λ y. StreamsDid takes puts j y more k q) same_out second)
StreamsDid-append takes puts (call ∷ calls) more i o j p k q (next, next_out, does, did) second =
    (next, next_out, does, StreamsDid-append takes puts calls more next next_out j p k q did second)

pub Did-append : {I O F : Type 0} (doing : Doing I O F) → (calls more : List Call) (a b c : Objects I O F) →
    Did doing a calls b → Did doing b more c → Did doing a (calls ++ more) c
Did-append doing [] more a b c same second = subst (λ x. Did doing x more c) same second
Did-append doing (call ∷ calls) more a b c (next, does, did) second =
    (next, does, Did-append doing calls more next b c did second)

-- The calls on the streams, as calls of a command that leave the store as it is

abbrev pub objects_of : {I O F : Type 0} → I → O → F → Objects I O F
objects_of i o f = record { input = i; out = o; files = f }

pub Did-streams : {I O F : Type 0} (doing : Doing I O F) → (calls : List StreamCall) (i : I) (o : O) (j : I) (p : O) (f : F) →
    StreamsDid doing.takes doing.puts i o calls j p →
    Did doing (record { input = i; out = o; files = f }) (map OnStream calls) (record { input = j; out = p; files = f })
Did-streams doing [] i o j p f (same_input, same_out) = ap (λ x. objects_of x p f) same_input ∙ ap (λ y. objects_of i y f) same_out
Did-streams doing (call ∷ calls) i o j p f (next, next_out, does, did) =
    (record { input = next; out = next_out; files = f }, (does, refl), Did-streams doing calls next next_out j p f did)

-- Fine calls, joined and lifted

pub StreamsFine-append : (calls more : List StreamCall) → StreamsFine calls → StreamsFine more → StreamsFine (calls ++ more)
StreamsFine-append [] more fine fine_more = fine_more
StreamsFine-append (call ∷ calls) more (fine, rest) fine_more = (fine, StreamsFine-append calls more rest fine_more)

pub CallsFine-append : (calls more : List Call) → CallsFine calls → CallsFine more → CallsFine (calls ++ more)
CallsFine-append [] more fine fine_more = fine_more
CallsFine-append (call ∷ calls) more (fine, rest) fine_more = (fine, CallsFine-append calls more rest fine_more)

pub CallsFine-streams : (calls : List StreamCall) → StreamsFine calls → CallsFine (map OnStream calls)
CallsFine-streams [] fine = fine
CallsFine-streams (call ∷ calls) (fine, rest) = (fine, CallsFine-streams calls rest)

-- What a call means, as the count alone

pub take_counts : (left : Option (List ℕ)) (before : ℕ) (call : TakeCall) (later : Option (List ℕ)) (now : ℕ) →
    TakeMeans left before call later now → TakeCounts before call now
take_counts left before (Take room filled answer) later now means = means.1

pub put_counts : (sofar : Option (List ℕ)) (before : ℕ) (call : PutCall) (later : Option (List ℕ)) (now : ℕ) →
    PutMeans sofar before call later now → PutCounts before call now
put_counts sofar before (PutPiece piece answer) later now means = means.1

pub file_counts : (held : Option Held) (before : ℕ) (call : FileCall) (later : Option Held) (now : ℕ) →
    FileMeans held before call later now → FileCounts before call now
file_counts held before (ReadCall name answer) later now means = means.1
file_counts held before (WriteCall name bytes answer) later now means = means.1

-- Which calls leave their count, and which make it rise

pub stream_fine : {I O F : Type 0} (doing : Doing I O F) (counts : Counts I O F) → Counted I O F doing counts →
    (call : StreamCall) (i : I) (o : O) (j : I) (p : O) → StreamDoes doing.takes doing.puts i o call j p → stream_failure call ≡ None →
    (counts.input_faults j ≡ counts.input_faults i) × (counts.out_faults p ≡ counts.out_faults o)
stream_fine doing counts counted (OnInput (Take room filled (took.TheVariants.Got n))) i o j p (does, same) fine =
    (counted.of_takes i (Take room filled (took.TheVariants.Got n)) j does, ap counts.out_faults same)
stream_fine doing counts counted (OnInput (Take room filled took.TheVariants.End)) i o j p (does, same) fine =
    (counted.of_takes i (Take room filled took.TheVariants.End) j does, ap counts.out_faults same)
stream_fine doing counts counted (OnInput (Take room filled took.TheVariants.Failed)) i o j p (does, same) fine = absurd (some_none Input fine)
stream_fine doing counts counted (OnOut (PutPiece piece (put.TheVariants.Wrote n))) i o j p (does, same) fine =
    (ap counts.input_faults same, counted.of_puts o (PutPiece piece (put.TheVariants.Wrote n)) p does)
stream_fine doing counts counted (OnOut (PutPiece piece put.TheVariants.Failed)) i o j p (does, same) fine = absurd (some_none Out fine)

pub call_fine : {I O F : Type 0} (doing : Doing I O F) (counts : Counts I O F) → Counted I O F doing counts →
    (call : Call) (a b : Objects I O F) → Does doing a call b → failure call ≡ None → SameCounts counts a b
call_fine doing counts counted (OnStream call) a b (does, same) fine =
    let both : (counts.input_faults b.input ≡ counts.input_faults a.input) × (counts.out_faults b.out ≡ counts.out_faults a.out) =
    stream_fine doing counts counted call a.input a.out b.input b.out does fine in
    (both.0, both.1, ap counts.store_faults same)
call_fine doing counts counted (OnFiles (ReadCall name (got.TheVariants.Found bytes))) a b (does, same_input, same_out) fine =
    (ap counts.input_faults same_input, ap counts.out_faults same_out, counted.of_files a.files (ReadCall name (got.TheVariants.Found bytes)) b.files does)
call_fine doing counts counted (OnFiles (ReadCall name got.TheVariants.Absent)) a b (does, same_input, same_out) fine =
    (ap counts.input_faults same_input, ap counts.out_faults same_out, counted.of_files a.files (ReadCall name got.TheVariants.Absent) b.files does)
call_fine doing counts counted (OnFiles (ReadCall name got.TheVariants.Failed)) a b (does, same_input, same_out) fine = absurd (some_none Store fine)
call_fine doing counts counted (OnFiles (ReadCall name got.TheVariants.NoMemory)) a b (does, same_input, same_out) fine =
    (ap counts.input_faults same_input, ap counts.out_faults same_out, counted.of_files a.files (ReadCall name got.TheVariants.NoMemory) b.files does)
call_fine doing counts counted (OnFiles (WriteCall name bytes (Ok u))) a b (does, same_input, same_out) fine =
    (ap counts.input_faults same_input, ap counts.out_faults same_out, counted.of_files a.files (WriteCall name bytes (Ok u)) b.files does)
call_fine doing counts counted (OnFiles (WriteCall name bytes (Err fault.TheVariants.Failed))) a b (does, same_input, same_out) fine = absurd (some_none Store fine)
call_fine doing counts counted (OnFiles (WriteCall name bytes (Err fault.TheVariants.NoMemory))) a b (does, same_input, same_out) fine =
    (ap counts.input_faults same_input, ap counts.out_faults same_out, counted.of_files a.files (WriteCall name bytes (Err fault.TheVariants.NoMemory)) b.files does)

pub calls_fine : {I O F : Type 0} (doing : Doing I O F) (counts : Counts I O F) → Counted I O F doing counts →
    (calls : List Call) (a b : Objects I O F) → Did doing a calls b → CallsFine calls → SameCounts counts a b
calls_fine doing counts counted [] a b same fine =
    (ap (λ x. counts.input_faults x.input) same, ap (λ x. counts.out_faults x.out) same, ap (λ x. counts.store_faults x.files) same)
calls_fine doing counts counted (call ∷ calls) a b (next, does, did) (fine, rest) =
    let one : SameCounts counts a next = call_fine doing counts counted call a next does fine in
    let more : SameCounts counts next b = calls_fine doing counts counted calls next b did rest in
    (more.0 ∙ one.0, more.1 ∙ one.1, more.2 ∙ one.2)

-- A list that was made, cut before its last call

pub Did-last : {I O F : Type 0} (doing : Doing I O F) → (before : List Call) (last : Call) (a b : Objects I O F) →
    Did doing a (before ++ last ∷ []) b → (m : Objects I O F) × Did doing a before m × Does doing m last b
Did-last doing [] last a b (next, does, same) = (a, refl, subst (λ x. Does doing a last x) (sym same) does)
Did-last doing (call ∷ before) last a b (next, does, did) =
    let (m, made, ends) = Did-last doing before last next b did in (m, (next, does, made), ends)

-- the failure of a call makes its count rise

pub stream_failed : {I O F : Type 0} (doing : Doing I O F) (counts : Counts I O F) → Counted I O F doing counts →
    (call : StreamCall) (object : Failing) (a b : Objects I O F) → Does doing a (OnStream call) b →
    stream_failure call ≡ Some object → CountsSay counts a b (Some object)
stream_failed doing counts counted (OnInput (Take room filled (took.TheVariants.Got n))) object a b does failed = absurd (none_some object failed)
stream_failed doing counts counted (OnInput (Take room filled took.TheVariants.End)) object a b does failed = absurd (none_some object failed)
stream_failed doing counts counted (OnInput (Take room filled took.TheVariants.Failed)) object a b does failed =
    subst (λ x. CountsSay counts a b x) failed
    (counted.of_takes a.input (Take room filled took.TheVariants.Failed) b.input does.0.0, ap counts.out_faults does.0.1, ap counts.store_faults does.1)
stream_failed doing counts counted (OnOut (PutPiece piece (put.TheVariants.Wrote n))) object a b does failed = absurd (none_some object failed)
stream_failed doing counts counted (OnOut (PutPiece piece put.TheVariants.Failed)) object a b does failed =
    subst (λ x. CountsSay counts a b x) failed
    (counted.of_puts a.out (PutPiece piece put.TheVariants.Failed) b.out does.0.0, ap counts.input_faults does.0.1, ap counts.store_faults does.1)

pub call_failed : {I O F : Type 0} (doing : Doing I O F) (counts : Counts I O F) → Counted I O F doing counts →
    (call : Call) (object : Failing) (a b : Objects I O F) → Does doing a call b → failure call ≡ Some object → CountsSay counts a b (Some object)
call_failed doing counts counted (OnStream call) object a b does failed = stream_failed doing counts counted call object a b does failed
call_failed doing counts counted (OnFiles (ReadCall name (got.TheVariants.Found bytes))) object a b does failed = absurd (none_some object failed)
call_failed doing counts counted (OnFiles (ReadCall name got.TheVariants.Absent)) object a b does failed = absurd (none_some object failed)
call_failed doing counts counted (OnFiles (ReadCall name got.TheVariants.Failed)) object a b does failed =
    subst (λ x. CountsSay counts a b x) failed
    (counted.of_files a.files (ReadCall name got.TheVariants.Failed) b.files does.0, ap counts.input_faults does.1, ap counts.out_faults does.2)
call_failed doing counts counted (OnFiles (ReadCall name got.TheVariants.NoMemory)) object a b does failed = absurd (none_some object failed)
call_failed doing counts counted (OnFiles (WriteCall name bytes (Ok u))) object a b does failed = absurd (none_some object failed)
call_failed doing counts counted (OnFiles (WriteCall name bytes (Err fault.TheVariants.Failed))) object a b does failed =
    subst (λ x. CountsSay counts a b x) failed
    (counted.of_files a.files (WriteCall name bytes (Err fault.TheVariants.Failed)) b.files does.0, ap counts.input_faults does.1, ap counts.out_faults does.2)
call_failed doing counts counted (OnFiles (WriteCall name bytes (Err fault.TheVariants.NoMemory))) object a b does failed = absurd (none_some object failed)

-- counts that haven't changed, and then one that rises

pub CountsSay-after : {I O F : Type 0} (counts : Counts I O F) (object : Failing) (a m b : Objects I O F) →
    SameCounts counts a m → CountsSay counts m b (Some object) → CountsSay counts a b (Some object)
CountsSay-after counts Input a m b (inputs, outs, stores) (rose, outs', stores') =
    (subst (λ x. Rose x (counts.input_faults b.input)) inputs rose, outs' ∙ outs, stores' ∙ stores)
CountsSay-after counts Out a m b (inputs, outs, stores) (rose, inputs', stores') =
    (subst (λ x. Rose x (counts.out_faults b.out)) outs rose, inputs' ∙ inputs, stores' ∙ stores)
CountsSay-after counts Store a m b (inputs, outs, stores) (rose, inputs', outs') =
    (subst (λ x. Rose x (counts.store_faults b.files)) stores rose, inputs' ∙ inputs, outs' ∙ outs)

-- what the end of a list of calls says of the counts
pub counts_say : {I O F : Type 0} (doing : Doing I O F) (counts : Counts I O F) → Counted I O F doing counts →
    (calls : List Call) (ending : Option Failing) (a b : Objects I O F) → Did doing a calls b → CallsEnd calls ending → CountsSay counts a b ending
counts_say doing counts counted calls None a b did fine = calls_fine doing counts counted calls a b did fine
counts_say doing counts counted calls (Some object) a b did (before, last, is, fine, failed) =
    let (m, made, ends) = Did-last doing before last a b (subst (λ x. Did doing a x b) is did) in
    CountsSay-after counts object a m b (calls_fine doing counts counted before a m made fine) (call_failed doing counts counted last object m b ends failed)
