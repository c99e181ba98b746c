-- Lists of calls: none, one more, and one list after another.
use Rattle.std.proofs.Common.{◌≡◌, List, [], ◌∷◌, ◌++◌, map, Option, Some, None, refl, sym, subst}
use Rattle.std.proofs.lemmas.List.{map-append, append_assoc}
use Rattle.p9_base.specs.Outside.{TakeCall, PutCall}
use Rattle.p9_base.specs.Calls.{StreamCall, OnInput, OnOut, Failing, StreamsDid, StreamsEnd, stream_failure}
use Rattle.p9_base.proofs.CallLemmas.{StreamsFine-append, StreamsDid-append}
use Rattle.p9_base.specs.Streams.{CallsDid, TakesRan, PutsRan, StreamsRan}

-- How a longer list ends

pub end_push : (calls : List StreamCall) (call : StreamCall) (failed : Option Failing) → StreamsEnd calls None → stream_failure call ≡ failed →
    StreamsEnd (calls ++ call ∷ []) failed
end_push calls call None fine e = StreamsFine-append calls (call ∷ []) fine (e, tt)
end_push calls call (Some object) fine e = (calls, call, refl, fine, e)

pub end_append : (calls more : List StreamCall) (failed : Option Failing) → StreamsEnd calls None → StreamsEnd more failed →
    StreamsEnd (calls ++ more) failed
end_append calls more None fine ends = StreamsFine-append calls more fine ends
end_append calls more (Some object) fine ends =
    let e : calls ++ more ≡ (calls ++ ends.0) ++ ends.1 ∷ [] = rw ends.2 (sym (append_assoc calls ends.0 (ends.1 ∷ []))) in
    (calls ++ ends.0, ends.1, e, StreamsFine-append calls ends.0 fine ends.3, ends.4)

-- Calls on one object

pub did_push : {S C : Type 0} (does : S → C → S → Type 0) (i j k : S) (calls : List C) (call : C) → CallsDid does i calls j → does j call k →
    CallsDid does i (calls ++ call ∷ []) k
did_push does i j k [] call r d = (k, rw r at d, refl)
did_push does i j k (c ∷ cs) call r d = (r.0, r.1, did_push does r.0 j k cs call r.2 d)

pub takes_none : {I : Type 0} (takes : I → TakeCall → I → Type 0) (i : I) → TakesRan takes i i None
takes_none takes i = record { calls = []; did = refl; ends = tt }

pub takes_more : {I : Type 0} (takes : I → TakeCall → I → Type 0) (i j k : I) (call : TakeCall) (failed : Option Failing) →
    TakesRan takes i j None → takes j call k → stream_failure (OnInput call) ≡ failed → TakesRan takes i k failed
takes_more takes i j k call failed r d e =
    let P : List StreamCall → Type 0 = λ calls. StreamsEnd calls failed in
    record {
      calls = r.calls ++ call ∷ [];
      did = did_push takes i j k r.calls call r.did d;
      ends = subst P (sym (map-append OnInput r.calls (call ∷ []))) (end_push (map OnInput r.calls) (OnInput call) failed r.ends e);
    }

pub puts_none : {O : Type 0} (puts : O → PutCall → O → Type 0) (o : O) → PutsRan puts o o None
puts_none puts o = record { calls = []; did = refl; ends = tt }

pub puts_more : {O : Type 0} (puts : O → PutCall → O → Type 0) (o p q : O) (call : PutCall) (failed : Option Failing) →
    PutsRan puts o p None → puts p call q → stream_failure (OnOut call) ≡ failed → PutsRan puts o q failed
puts_more puts o p q call failed r d e =
    let P : List StreamCall → Type 0 = λ calls. StreamsEnd calls failed in
    record {
      calls = r.calls ++ call ∷ [];
      did = did_push puts o p q r.calls call r.did d;
      ends = subst P (sym (map-append OnOut r.calls (call ∷ []))) (end_push (map OnOut r.calls) (OnOut call) failed r.ends e);
    }

-- Calls on both

pub ran_none : {I O : Type 0} (takes : I → TakeCall → I → Type 0) (puts : O → PutCall → O → Type 0) (i : I) (o : O) →
    StreamsRan takes puts i o i o None
ran_none takes puts i o = record { calls = []; did = (refl, refl); ends = tt }

pub did_takes : {I O : Type 0} (takes : I → TakeCall → I → Type 0) (puts : O → PutCall → O → Type 0) (i j : I) (o : O) (calls : List TakeCall) →
    CallsDid takes i calls j → StreamsDid takes puts i o (map OnInput calls) j o
did_takes takes puts i j o [] r = (r, refl)
did_takes takes puts i j o (c ∷ cs) r = (r.0, o, (r.1, refl), did_takes takes puts r.0 j o cs r.2)

pub did_puts : {I O : Type 0} (takes : I → TakeCall → I → Type 0) (puts : O → PutCall → O → Type 0) (i : I) (o p : O) (calls : List PutCall) →
    CallsDid puts o calls p → StreamsDid takes puts i o (map OnOut calls) i p
did_puts takes puts i o p [] r = (refl, r)
did_puts takes puts i o p (c ∷ cs) r = (i, r.0, (r.1, refl), did_puts takes puts i r.0 p cs r.2)

pub ran_takes : {I O : Type 0} (takes : I → TakeCall → I → Type 0) (puts : O → PutCall → O → Type 0) (i j : I) (o : O) (failed : Option Failing) →
    TakesRan takes i j failed → StreamsRan takes puts i o j o failed
ran_takes takes puts i j o failed r =
    record { calls = map OnInput r.calls; did = did_takes takes puts i j o r.calls r.did; ends = r.ends }

pub ran_puts : {I O : Type 0} (takes : I → TakeCall → I → Type 0) (puts : O → PutCall → O → Type 0) (i : I) (o p : O) (failed : Option Failing) →
    PutsRan puts o p failed → StreamsRan takes puts i o i p failed
ran_puts takes puts i o p failed r =
    record { calls = map OnOut r.calls; did = did_puts takes puts i o p r.calls r.did; ends = r.ends }

pub ran_then : {I O : Type 0} (takes : I → TakeCall → I → Type 0) (puts : O → PutCall → O → Type 0) (i j k : I) (o p q : O) (failed : Option Failing) →
    StreamsRan takes puts i o j p None → StreamsRan takes puts j p k q failed → StreamsRan takes puts i o k q failed
ran_then takes puts i j k o p q failed r d = record {
  calls = r.calls ++ d.calls;
  did = StreamsDid-append takes puts r.calls d.calls i o j p k q r.did d.did;
  ends = end_append r.calls d.calls failed r.ends d.ends;
}
