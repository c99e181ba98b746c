-- What a source and a sink that tell their content say of calls on them.
use Rattle.std.proofs.Common.{◌≡◌, ℕ, ◌≤◌, List, [], ◌∷◌, ◌++◌, length, take, drop, map, Option, Some, None, IfSome, refl, sym, ◌∙◌, ap, subst, append_assoc, append-nil, arith}
use Rattle.std.proofs.lemmas.Grind.{common_steps}
use Rattle.std.proofs.lemmas.List.{take-append-drop}
use Rattle.p9_base.specs.CallBytes.{brought_by, brought, written_by, written, brought_in, written_in, KeepsRest, StaysEnded, IsSteady}
use Rattle.p9_base.specs.Calls.{StreamCall, OnInput, OnOut, StreamsDid}
use Rattle.p9_base.specs.Outside.{TakeCall, Take, TakeMeans, PutCall, PutPiece, PutMeans}
use Rattle.p9_base.specs.declared.outside.Put as put
use Rattle.p9_base.specs.declared.outside.Took as took

if_some : {A : Type 0} {o : Option A} {x : A} (P : A → Type 0) → o ≡ Some x → IfSome o P → P x
if_some {o = None} P e h = cc
if_some {o = Some y} P e h = subst P (same e) h
  where
    same : {A : Type 0} {x y : A} → Some x ≡ Some y → x ≡ y
    same e = cc

-- one take

-- what it brought was in front of what was left, and is steady before what is brought later
record TookFrom (call : TakeCall) (l next : List ℕ) : Type 0 where
  split : l ≡ brought_by call ++ next
  kept : KeepsRest call
  stays : StaysEnded call next

front_of : (n : ℕ) (l rest : List ℕ) → n ≤ length l → take n (take n l ++ rest) ≡ take n l
front_of n l rest h = grind (arith, common_steps)

back_of : (n : ℕ) (l rest : List ℕ) → n ≤ length l → drop n (take n l ++ rest) ≡ rest
back_of n l rest h = grind (arith, common_steps)

took_from : (call : TakeCall) (left later : Option (List ℕ)) (before now : ℕ) (l : List ℕ) → TakeMeans left before call later now → left ≡ Some l → (next : List ℕ) × (later ≡ Some next) × TookFrom call l next
took_from (Take room filled (took.TheVariants.Got n)) left later before now l m e =
    let t = if_some (λ bytes. (n ≤ length bytes) × (later ≡ Some (drop n bytes)) × (filled ≡ take n bytes ++ drop n room)) e m.0.2 in
    let front : take n filled ≡ take n l = ap (take n) t.2 ∙ front_of n l (drop n room) t.0 in (
      drop n l,
      t.1,
      record {
        split = sym (take-append-drop n l) ∙ ap (λ (x : List ℕ). x ++ drop n l) (sym front);
        kept = ap (drop n) t.2 ∙ back_of n l (drop n room) t.0;
        stays = tt;
      },
    )
took_from (Take room filled took.TheVariants.End) left later before now l m e =
    let t = if_some (λ bytes. (bytes ≡ []) × (filled ≡ room)) e m.0.1 in
    (l, m.0.0 ∙ e, record { split = refl; kept = t.1; stays = t.0 })
took_from (Take room filled took.TheVariants.Failed) left later before now l m e =
    (l, m.0.0 ∙ e, record { split = refl; kept = if_some (λ _. filled ≡ room) e m.0.1; stays = tt })

-- one put
did_put : (call : PutCall) (sofar later : Option (List ℕ)) (before now : ℕ) (s : List ℕ) → PutMeans sofar before call later now → sofar ≡ Some s → later ≡ Some (s ++ written_by call)
did_put (PutPiece piece (put.TheVariants.Wrote n)) sofar later before now s m e = if_some (λ bytes. later ≡ Some (bytes ++ take n piece)) e m.0.2
did_put (PutPiece piece put.TheVariants.Failed) sofar later before now s m e = m.0 ∙ (e ∙ ap Some (sym (append-nil s)))

-- All calls

stays_after : (call : TakeCall) (calls : List StreamCall) (next after : List ℕ) → next ≡ brought_in calls ++ after → StaysEnded call next → StaysEnded call (brought_in calls ++ after)
stays_after call calls next after e h = subst (λ (x : List ℕ). StaysEnded call x) e h

-- what was left is what the calls brought, and what is left now; and the calls are steady before that
pub record Brought (calls : List StreamCall) (l : List ℕ) (later : Option (List ℕ)) : Type 0 where
  pub after : List ℕ
  pub split : l ≡ brought_in calls ++ after
  pub steady : IsSteady calls after
  pub left : later ≡ Some after

module _ {I O : Type 0} (left : I → Option (List ℕ)) (input_faults : I → ℕ) (takes : I → TakeCall → I → Type 0) (sofar : O → Option (List ℕ)) (out_faults : O → ℕ) (puts : O → PutCall → O → Type 0)
    (of_takes : (old : I) (call : TakeCall) (new : I) → takes old call new → TakeMeans (left old) (input_faults old) call (left new) (input_faults new))
    (of_puts : (old : O) (call : PutCall) (new : O) → puts old call new → PutMeans (sofar old) (out_faults old) call (sofar new) (out_faults new)) where
  pub told_input : (calls : List StreamCall) (i : I) (o : O) (j : I) (p : O) (l : List ℕ) → StreamsDid takes puts i o calls j p → left i ≡ Some l → Brought calls l (left j)
  told_input [] i o j p l d e = record { after = l; split = refl; steady = tt; left = ap left d.0 ∙ e }
  told_input (OnInput call ∷ calls) i o j p l (k, q, one, rest) e =
      let t = took_from call (left i) (left k) (input_faults i) (input_faults k) l (of_takes i call k one.0) e in
      let b : Brought calls t.0 (left j) = told_input calls k q j p t.0 rest t.1 in
      record {
        after = b.after;
        split = t.2.split ∙ (ap (λ (x : List ℕ). brought_by call ++ x) b.split ∙ sym (append_assoc (brought_by call) (brought_in calls) b.after));
        steady = (t.2.kept, stays_after call calls t.0 b.after b.split t.2.stays, b.steady);
        left = b.left;
      }
  told_input (OnOut call ∷ calls) i o j p l (k, q, one, rest) e =
      let b : Brought calls l (left j) = told_input calls k q j p l rest (ap left one.1 ∙ e) in
      record { after = b.after; split = b.split; steady = b.steady; left = b.left }

  pub told_out : (calls : List StreamCall) (i : I) (o : O) (j : I) (p : O) (s : List ℕ) → StreamsDid takes puts i o calls j p → sofar o ≡ Some s → sofar p ≡ Some (s ++ written_in calls)
  told_out [] i o j p s d e = ap sofar d.1 ∙ (e ∙ ap Some (sym (append-nil s)))
  told_out (OnInput call ∷ calls) i o j p s (k, q, one, rest) e = told_out calls k q j p s rest (ap sofar one.1 ∙ e)
  told_out (OnOut call ∷ calls) i o j p s (k, q, one, rest) e =
      told_out calls k q j p (s ++ written_by call) rest (did_put call (sofar o) (sofar q) (out_faults o) (out_faults q) s (of_puts o call q one.0) e)
      ∙ ap Some (append_assoc s (written_by call) (written_in calls))

-- Lists of calls in two parts

pub brought_append : (xs ys : List StreamCall) → brought_in (xs ++ ys) ≡ brought_in xs ++ brought_in ys
brought_append [] ys = refl
brought_append (OnInput call ∷ xs) ys = ap (λ (x : List ℕ). brought_by call ++ x) (brought_append xs ys) ∙ sym (append_assoc (brought_by call) (brought_in xs) (brought_in ys))
brought_append (OnOut call ∷ xs) ys = brought_append xs ys

pub written_append : (xs ys : List StreamCall) → written_in (xs ++ ys) ≡ written_in xs ++ written_in ys
written_append [] ys = refl
written_append (OnInput call ∷ xs) ys = written_append xs ys
written_append (OnOut call ∷ xs) ys = ap (λ (x : List ℕ). written_by call ++ x) (written_append xs ys) ∙ sym (append_assoc (written_by call) (written_in xs) (written_in ys))

pub steady_front : (xs ys : List StreamCall) (after : List ℕ) → IsSteady (xs ++ ys) after → IsSteady xs (brought_in ys ++ after)
steady_front [] ys after h = tt
steady_front (OnInput call ∷ xs) ys after h =
    let e : brought_in (xs ++ ys) ++ after ≡ brought_in xs ++ (brought_in ys ++ after) =
    ap (λ (x : List ℕ). x ++ after) (brought_append xs ys) ∙ append_assoc (brought_in xs) (brought_in ys) after in
    (h.0, subst (λ (x : List ℕ). StaysEnded call x) e h.1, steady_front xs ys after h.2)
steady_front (OnOut call ∷ xs) ys after h = steady_front xs ys after h

pub brought_takes : (takes : List TakeCall) → brought_in (map OnInput takes) ≡ brought takes
brought_takes [] = refl
brought_takes (call ∷ calls) = ap (λ (x : List ℕ). brought_by call ++ x) (brought_takes calls)

pub written_takes : (takes : List TakeCall) → written_in (map OnInput takes) ≡ []
written_takes [] = refl
written_takes (call ∷ calls) = written_takes calls

pub brought_puts : (puts : List PutCall) → brought_in (map OnOut puts) ≡ []
brought_puts [] = refl
brought_puts (call ∷ calls) = brought_puts calls

pub written_puts : (puts : List PutCall) → written_in (map OnOut puts) ≡ written puts
written_puts [] = refl
written_puts (call ∷ calls) = ap (λ (x : List ℕ). written_by call ++ x) (written_puts calls)
