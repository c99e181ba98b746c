-- Rooms that takes fill and pieces that puts write, a part at a time, with the bytes of the calls.
use Rattle.std.proofs.Common.{◌≡◌, ◌≤◌, ◌<◌, ℕ, ◌+◌, ◌-◌, List, [], ◌∷◌, ◌++◌, length, take, drop, map, Option, Some, None, Bool, true, false, if◌then◌else◌, nat_lt, refl, sym, ◌∙◌, ap, subst, arith, append_assoc, append-nil, length-append, length-drop}
use Rattle.std.proofs.lemmas.List.{take-append-drop, drop-drop, take_rest, take_all, length-take-le, map-append, nil_from_length}
use Rattle.std.proofs.Math.Seq.{take-append-add, drop-append_seam}
use Rattle.std.proofs.Math.ListN.{drop_of_length-le}
use Rattle.p9_base.specs.declared.outside.Took as took
use Rattle.p9_base.specs.declared.outside.Put as put
use Rattle.p9_base.specs.Outside.{TakeCall, Take, PutCall, PutPiece}
use Rattle.p9_base.specs.Calls.{StreamCall, OnInput, OnOut, Failing, Input, Out, StreamsEnd, stream_failure}
use Rattle.p9_base.specs.Core.{Core, over, with_bytes, text_start, stack_start}
use Rattle.p9_base.specs.SystemCalls.{answered}
use Rattle.p9_base.specs.Streams.{CallsDid, fill_failure}
use Rattle.p9_base.specs.CallBytes.{brought, brought_by, rest_by, rest_after, filled_by, written, written_by, KeepRests, KeepsRest}
use Rattle.p9_base.specs.Pieces.{Came, Brings, RoomIs, PartIs, AnswerIs, WritesPiece}
use Rattle.p9_base.proofs.CallLists.{did_push, end_push}
use Rattle.p9_base.proofs.Pieces.{take_on, none_after, length_on, put_over}
use borrow.Rule.Slice.PartMut.{put_mid}

-- Lists of takes and of puts

brought_push : (calls : List TakeCall) (call : TakeCall) → brought (calls ++ call ∷ []) ≡ brought calls ++ brought_by call
brought_push [] call = append-nil (brought_by call)
brought_push (c ∷ cs) call =
    ap (λ (x : List ℕ). brought_by c ++ x) (brought_push cs call) ∙ sym (append_assoc (brought_by c) (brought cs) (brought_by call))

written_push : (calls : List PutCall) (call : PutCall) → written (calls ++ call ∷ []) ≡ written calls ++ written_by call
written_push [] call = append-nil (written_by call)
written_push (c ∷ cs) call =
    ap (λ (x : List ℕ). written_by c ++ x) (written_push cs call) ∙ sym (append_assoc (written_by c) (written cs) (written_by call))

keep_split : (calls : List TakeCall) (call : TakeCall) → KeepRests (calls ++ call ∷ []) → KeepRests calls × KeepsRest call
keep_split [] call h = (tt, h.0)
keep_split (c ∷ cs) call h = let both = keep_split cs call h.1 in ((h.0, both.0), both.1)

rest_push : (rest : List ℕ) (calls : List TakeCall) (call : TakeCall) → rest_after rest (calls ++ call ∷ []) ≡ rest_by call
rest_push rest [] call = refl
rest_push rest (c ∷ cs) call = rest_push (rest_by c) cs call

rest_same : (rest : List ℕ) (calls : List TakeCall) → (calls ≡ [] → rest ≡ []) → rest_after rest calls ≡ rest_after [] calls
rest_same rest [] h = h refl
rest_same rest (c ∷ cs) h = refl

-- A room

-- so many bytes were brought into the room
pub record Filling {I : Type 0} (takes : I → TakeCall → I → Type 0) (old new : I) (failed : Option Failing) (done : ℕ) (room filled : List ℕ) : Type 0 where
  pub calls : List TakeCall
  pub did : CallsDid takes old calls new
  pub ends : StreamsEnd (map OnInput calls) failed
  pub count : length (brought calls) ≡ done
  pub front : take done filled ≡ brought calls
  pub rest : drop done filled ≡ rest_after room calls
  pub size : length filled ≡ length room
  pub kept : KeepRests calls → drop done filled ≡ drop done room

pub filling_none : {I : Type 0} (takes : I → TakeCall → I → Type 0) (i : I) (room : List ℕ) → Filling takes i i None 0 room room
filling_none takes i room =
    record { calls = []; did = refl; ends = tt; count = refl; front = refl; rest = refl; size = refl; kept = λ h. refl }

behind : (d n : ℕ) (xs ys : List ℕ) → d ≤ length xs →
    (take (d + n) (take d xs ++ ys) ≡ take d xs ++ take n ys) × (drop (d + n) (take d xs ++ ys) ≡ drop n ys)
behind d n xs ys h =
    let e : length (take d xs) ≡ d = length-take-le d xs h in
    let P : ℕ → Type 0 = λ m. (take (m + n) (take d xs ++ ys) ≡ take d xs ++ take n ys) × (drop (m + n) (take d xs ++ ys) ≡ drop n ys) in
    subst P e (
      take-append-add (take d xs) ys n,
      sym (drop-drop n (length (take d xs)) (take d xs ++ ys)) ∙ ap (drop n) (drop-append_seam (take d xs) ys),
    )

middle : (d : ℕ) (room filled : List ℕ) → put_mid d (length room - d) room filled ≡ take d room ++ filled
middle d room filled = rw (none_after room d, append-nil filled) refl

-- one more take, with its place at the list's end
filling_push : {I : Type 0} (takes : I → TakeCall → I → Type 0) (i j k : I) (d n : ℕ) (room filled new : List ℕ) (call : TakeCall) (failed : Option Failing) →
    d ≤ length filled → length new ≡ length (take (length filled - d) (drop d filled)) → n ≤ length new →
    brought_by call ≡ take n new → rest_by call ≡ drop n new → (KeepsRest call → drop n new ≡ drop n (take (length filled - d) (drop d filled))) →
    stream_failure (OnInput call) ≡ failed → takes j call k → (r : Filling takes i j None d room filled) →
    (f : Filling takes i k failed (d + n) room (put_mid d (length filled - d) filled new)) × (f.calls ≡ r.calls ++ call ∷ [])
filling_push takes i j k d n room filled new call failed h e w b left keeps fails does r =
    let P : List StreamCall → Type 0 = λ calls. StreamsEnd calls failed in
    let m : put_mid d (length filled - d) filled new ≡ take d filled ++ new = middle d filled new in
    let both = behind d n filled new h in
    let bytes : brought (r.calls ++ call ∷ []) ≡ brought r.calls ++ take n new =
    brought_push r.calls call ∙ ap (λ (x : List ℕ). brought r.calls ++ x) b in
    let filling : Filling takes i k failed (d + n) room (put_mid d (length filled - d) filled new) = record {
      calls = r.calls ++ call ∷ [];
      did = did_push takes i j k r.calls call r.did does;
      ends = subst P (sym (map-append OnInput r.calls (call ∷ []))) (end_push (map OnInput r.calls) (OnInput call) failed r.ends fails);
      count = ap length bytes ∙ omega (arith, length-append (brought r.calls) (take n new), r.count, length-take-le n new w);
      front = ap (take (d + n)) m ∙ (both.0 ∙ (ap (λ (x : List ℕ). x ++ take n new) r.front ∙ sym bytes));
      rest = ap (drop (d + n)) m ∙ (both.1 ∙ sym (rest_push room r.calls call ∙ left));
      size = length_on d filled new e h ∙ r.size;
      kept = λ k.
          let (before, last) = keep_split r.calls call k in
          ap (drop (d + n)) m ∙ (both.1 ∙ (keeps last ∙ (ap (drop n) (take_rest filled d ∙ r.kept before) ∙ drop-drop n d room)));
    } in
    (filling, refl)

pub filling_more : {I : Type 0} (takes : I → TakeCall → I → Type 0) (i j k : I) (d n : ℕ) (room filled new : List ℕ) →
    d ≤ length filled → length new ≡ length (take (length filled - d) (drop d filled)) → n ≤ length (take (length filled - d) (drop d filled)) →
    takes j (Take (take (length filled - d) (drop d filled)) new (took.TheVariants.Got n)) k → Filling takes i j None d room filled →
    Filling takes i k None (d + n) room (put_mid d (length filled - d) filled new)
filling_more takes i j k d n room filled new h e w does r =
    (filling_push takes i j k d n room filled new (Take (take (length filled - d) (drop d filled)) new (took.TheVariants.Got n)) None
    h e (omega (arith, e, w)) refl refl (λ x. x) refl does r).0

-- what the room holds is what was brought, and its rest
brings_of : {I : Type 0} (takes : I → TakeCall → I → Type 0) (i k : I) (d : ℕ) (room filled : List ℕ) (result : Option ℕ) (f : Filling takes i k (fill_failure result) d room filled) →
    drop d filled ≡ rest_after [] f.calls → Came (length room) result f.calls → Brings takes i k (length room) result (RoomIs room filled)
brings_of takes i k d room filled result f left came =
    let all : brought f.calls ++ drop d filled ≡ filled =
    ap (λ (x : List ℕ). x ++ drop d filled) (sym f.front) ∙ take-append-drop d filled in
    let behind_all : filled ≡ filled_by f.calls = sym all ∙ ap (λ (x : List ℕ). brought f.calls ++ x) left in
    let none : drop (length filled) room ≡ [] = drop_of_length-le room (omega (arith, f.size)) in
    let P : List ℕ → Type 0 = λ x. filled ≡ x ++ drop (length x) room in
    record {
      calls = f.calls;
      did = f.did;
      ends = f.ends;
      came = came;
      fill = ap length (sym behind_all) ∙ f.size;
      is = subst P behind_all (sym (append-nil filled) ∙ ap (λ (x : List ℕ). filled ++ x) (sym none));
      kept = λ h. sym all ∙ ap (λ (x : List ℕ). brought f.calls ++ x) (f.kept h ∙ ap (λ (n : ℕ). drop n room) (sym f.count));
    }

pub brings_full : {I : Type 0} (takes : I → TakeCall → I → Type 0) (i k : I) (d : ℕ) (room filled : List ℕ) →
    length room ≤ d → Filling takes i k None d room filled → Brings takes i k (length room) (Some d) (RoomIs room filled)
brings_full takes i k d room filled h f =
    let empty : f.calls ≡ [] → room ≡ [] = λ q. nil_from_length room (omega (arith, h, f.count, ap (λ (x : List TakeCall). length (brought x)) q)) in
    brings_of takes i k d room filled (Some d) f (f.rest ∙ rest_same room f.calls empty) (sym f.count, λ l. absurd (omega (arith, h, l)))

pub brings_ended : {I : Type 0} (takes : I → TakeCall → I → Type 0) (i j k : I) (d : ℕ) (room filled new : List ℕ) →
    d ≤ length filled → length new ≡ length (take (length filled - d) (drop d filled)) →
    takes j (Take (take (length filled - d) (drop d filled)) new took.TheVariants.End) k → Filling takes i j None d room filled →
    Brings takes i k (length room) (Some d) (RoomIs room (put_mid d (length filled - d) filled new))
brings_ended {I} takes i j k d room filled new h e does r =
    let part : List ℕ = take (length filled - d) (drop d filled) in
    let z : d + 0 ≡ d = omega arith in
    let (f, is) = filling_push takes i j k d 0 room filled new (Take part new took.TheVariants.End) None h e (omega arith) refl refl (λ x. x) refl does r in
    let P : ℕ → Type 0 = λ n. Brings takes i k (length room) (Some n) (RoomIs room (put_mid d (length filled - d) filled new)) in
    subst P z (brings_of takes i k (d + 0) room (put_mid d (length filled - d) filled new) (Some (d + 0)) f (f.rest ∙ (ap (rest_after room) is ∙ (rest_push room r.calls (Take part new took.TheVariants.End) ∙ (sym (rest_push [] r.calls (Take part new took.TheVariants.End)) ∙ ap (rest_after []) (sym is))))) (sym f.count, λ l. (r.calls, part, new, is)))

pub brings_failed : {I : Type 0} (takes : I → TakeCall → I → Type 0) (i j k : I) (d : ℕ) (room filled new : List ℕ) →
    d < length filled → length new ≡ length (take (length filled - d) (drop d filled)) →
    takes j (Take (take (length filled - d) (drop d filled)) new took.TheVariants.Failed) k → Filling takes i j None d room filled →
    Brings takes i k (length room) None (RoomIs room (put_mid d (length filled - d) filled new))
brings_failed takes i j k d room filled new h e does r =
    let part : List ℕ = take (length filled - d) (drop d filled) in
    let (f, is) = filling_push takes i j k d 0 room filled new (Take part new took.TheVariants.Failed) (Some Input) (omega (arith, h)) e (omega arith) refl refl (λ x. x) refl does r in
    brings_of takes i k (d + 0) room (put_mid d (length filled - d) filled new) None f (f.rest ∙ (ap (rest_after room) is ∙ (rest_push room r.calls (Take part new took.TheVariants.Failed) ∙ (sym (rest_push [] r.calls (Take part new took.TheVariants.Failed)) ∙ ap (rest_after []) (sym is))))) (omega (arith, f.count, r.size, h))

-- A room in a list of bytes, and an empty one

xs_over : (i n : ℕ) (bytes filled xs : List ℕ) → i + n ≤ length bytes → length xs ≤ n →
    filled ≡ xs ++ drop (length xs) (take n (drop i bytes)) → put_mid i n bytes filled ≡ over bytes i xs
xs_over i n bytes filled xs h l e =
    let t : take (length xs) xs ≡ xs = take_all (length xs) xs (omega arith) in
    let P : List ℕ → Type 0 = λ x. put_mid i n bytes filled ≡ over bytes i x in
    subst P t (put_over i n (length xs) bytes filled xs h l (omega arith) (e ∙ ap (λ (x : List ℕ). x ++ drop (length xs) (take n (drop i bytes))) (sym t)))

pub brings_part : {I : Type 0} (takes : I → TakeCall → I → Type 0) (a b : I) (i n : ℕ) (bytes filled : List ℕ) (result : Option ℕ) → i + n ≤ length bytes →
    Brings takes a b (length (take n (drop i bytes))) result (RoomIs (take n (drop i bytes)) filled) →
    Brings takes a b n result (PartIs bytes (put_mid i n bytes filled) i)
brings_part takes a b i n bytes filled result h r =
    let e : length (take n (drop i bytes)) ≡ n = length-take-le n (drop i bytes) (omega (arith, length-drop i bytes)) in
    let P : ℕ → Type 0 = λ m. Came m result r.calls in
    let l : length (filled_by r.calls) ≡ n = r.fill ∙ e in
    record {
      calls = r.calls;
      did = r.did;
      ends = r.ends;
      came = subst P e r.came;
      fill = l;
      is = xs_over i n bytes filled (filled_by r.calls) h (omega (arith, l)) r.is;
      kept = λ k. xs_over i n bytes filled (brought r.calls) h (omega (arith, l, length-append (brought r.calls) (rest_after [] r.calls))) (r.kept k);
    }

over_none : (bytes : List ℕ) (i : ℕ) → over bytes i [] ≡ bytes
over_none bytes i =
    let z : i + 0 ≡ i = omega arith in
    rw (z, append-nil (take i bytes)) (take-append-drop i bytes)

with_none : (c : Core) (at : ℕ) → with_bytes c at [] ≡ c
with_none c at = by_place (nat_lt at stack_start)
  where
    by_place : (b : Bool) → (if b then record c { low = over c.low (at - text_start) [] } else record c { stack = over c.stack (at - stack_start) [] }) ≡ c
    by_place true = ap (λ (x : List ℕ). record c { low = x }) (over_none c.low (at - text_start))
    by_place false = ap (λ (x : List ℕ). record c { stack = x }) (over_none c.stack (at - stack_start))

pub brings_none : {I : Type 0} (takes : I → TakeCall → I → Type 0) (i : I) (old new : Core) (at size : ℕ) → size ≡ 0 → new ≡ answered old 0 →
    (n : ℕ) × Brings takes i i size (Some n) (AnswerIs old new at n)
brings_none takes i old new at size z a =
    let is : new ≡ answered (with_bytes old at []) 0 = a ∙ ap (λ (c : Core). answered c 0) (sym (with_none old at)) in (
      0,
      record {
        calls = [];
        did = refl;
        ends = tt;
        came = (refl, λ l. absurd (omega (arith, z, l)));
        fill = sym z;
        is = is;
        kept = λ k. is;
      },
    )

-- A piece

pub record Writing {O : Type 0} (puts : O → PutCall → O → Type 0) (old new : O) (failed : Option Failing) (done : ℕ) (piece : List ℕ) : Type 0 where
  pub calls : List PutCall
  pub did : CallsDid puts old calls new
  pub ends : StreamsEnd (map OnOut calls) failed
  pub wrote : written calls ≡ take done piece

pub writing_none : {O : Type 0} (puts : O → PutCall → O → Type 0) (o : O) (piece : List ℕ) → Writing puts o o None 0 piece
writing_none puts o piece = record { calls = []; did = refl; ends = tt; wrote = refl }

writing_push : {O : Type 0} (puts : O → PutCall → O → Type 0) (o p q : O) (d n : ℕ) (piece : List ℕ) (call : PutCall) (failed : Option Failing) →
    d ≤ length piece → written_by call ≡ take n (drop d piece) → stream_failure (OnOut call) ≡ failed → puts p call q →
    Writing puts o p None d piece → Writing puts o q failed (d + n) piece
writing_push puts o p q d n piece call failed h b fails does r =
    let P : List StreamCall → Type 0 = λ calls. StreamsEnd calls failed in
    record {
      calls = r.calls ++ call ∷ [];
      did = did_push puts o p q r.calls call r.did does;
      ends = subst P (sym (map-append OnOut r.calls (call ∷ []))) (end_push (map OnOut r.calls) (OnOut call) failed r.ends fails);
      wrote = written_push r.calls call ∙ (ap (λ (x : List ℕ). x ++ written_by call) r.wrote
          ∙ (ap (λ (x : List ℕ). take d piece ++ x) b ∙ take_on d n piece h));
    }

pub writing_more : {O : Type 0} (puts : O → PutCall → O → Type 0) (o p q : O) (d n : ℕ) (piece : List ℕ) → d ≤ length piece →
    puts p (PutPiece (take (length piece - d) (drop d piece)) (put.TheVariants.Wrote n)) q → Writing puts o p None d piece →
    Writing puts o q None (d + n) piece
writing_more puts o p q d n piece h does r =
    writing_push puts o p q d n piece (PutPiece (take (length piece - d) (drop d piece)) (put.TheVariants.Wrote n)) None h
    (ap (take n) (take_rest piece d)) refl does r

pub writes_all : {O : Type 0} (puts : O → PutCall → O → Type 0) (o p : O) (d : ℕ) (piece : List ℕ) → length piece ≤ d →
    Writing puts o p None d piece → WritesPiece puts o p piece true
writes_all puts o p d piece h r =
    record { calls = r.calls; did = r.did; ends = r.ends; wrote = r.wrote ∙ take_all d piece h }

pub writes_part : {O : Type 0} (puts : O → PutCall → O → Type 0) (o p q : O) (d : ℕ) (piece : List ℕ) → d < length piece →
    puts p (PutPiece (take (length piece - d) (drop d piece)) put.TheVariants.Failed) q → Writing puts o p None d piece →
    WritesPiece puts o q piece false
writes_part puts o p q d piece h does r =
    let w : Writing puts o q (Some Out) (d + 0) piece =
    writing_push puts o p q d 0 piece (PutPiece (take (length piece - d) (drop d piece)) put.TheVariants.Failed) (Some Out) (omega (arith, h)) refl refl does r in
    let l : length (written w.calls) ≡ d + 0 = ap length w.wrote ∙ length-take-le (d + 0) piece (omega (arith, h)) in
    record {
      calls = w.calls;
      did = w.did;
      ends = w.ends;
      wrote = (w.wrote ∙ ap (λ (n : ℕ). take n piece) (sym l), omega (arith, l, h));
    }
