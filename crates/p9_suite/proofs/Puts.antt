-- A text that is put piece by piece.
use Rattle.std.proofs.Common.{◌≡◌, ℕ, ◌+◌, ◌-◌, ◌≤◌, List, [], ◌++◌, length, take, drop, Option, Some, None, IfSome, Bool, true, false, MatchBool, refl, sym, ap, ◌∙◌, subst, arith, append_assoc, length-append, append-nil, inl, inr}
use Rattle.std.proofs.lemmas.List.{take-append-drop, take-append-le}
use Rattle.std.proofs.lemmas.Grind.{common_steps}
use Rattle.std.proofs.Math.Seq.{take-append_seam, take-append-add}
use Rattle.p9_base.specs.Outside.{Puts, PutCause}
use Rattle.p9_base.specs.declared.outside.Put.TheVariants.{Wrote, Failed}
use Rattle.p9_suite.specs.Reports.{Whole, Cut, Tells}

-- some of the text was put, and rest is what is left
pub record IsPut (text rest : List ℕ) (before after : Option (List ℕ)) (faults now : ℕ) : Type 0 where
  pub done : List ℕ
  pub split : text ≡ done ++ rest
  pub whole : Whole before after faults now done

pub none_put : (text : List ℕ) (before : Option (List ℕ)) (faults : ℕ) → IsPut text text before before faults faults
none_put text None faults = record { done = []; split = refl; whole = (refl, tt) }
none_put text (Some b) faults = record { done = []; split = refl; whole = (refl, ap Some (sym (append-nil b))) }

pub more_put : (text rest : List ℕ) (n : ℕ) (before mid after : Option (List ℕ)) (faults now later : ℕ) → IsPut text rest before mid faults now → Puts mid after rest (Wrote n) → PutCause now later (Wrote n) → IsPut text (drop n rest) before after faults later
more_put text rest n None mid after faults now later h p c = record { done = h.done ++ take n rest; split = h.split ∙ (ap (λ r. h.done ++ r) (sym (take-append-drop n rest)) ∙ sym (append_assoc h.done (take n rest) (drop n rest))); whole = (c ∙ h.whole.0, tt) }
more_put text rest n (Some b) mid after faults now later h p c =
    let told : IfSome mid (λ bytes. after ≡ Some (bytes ++ take n rest)) = p.2 in
    let put : after ≡ Some ((b ++ h.done) ++ take n rest) = rw h.whole.1 at told in
    record { done = h.done ++ take n rest; split = h.split ∙ (ap (λ r. h.done ++ r) (sym (take-append-drop n rest)) ∙ sym (append_assoc h.done (take n rest) (drop n rest))); whole = (c ∙ h.whole.0, put ∙ ap Some (append_assoc b h.done (take n rest))) }

pub cut_put : (text rest : List ℕ) (before mid after : Option (List ℕ)) (faults now later : ℕ) → IsPut text rest before mid faults now → Puts mid after rest Failed → PutCause now later Failed → Cut before after faults later text
cut_put text rest None mid after faults now later h p c = (rw h.whole.0 at c, tt)
cut_put text rest (Some b) mid after faults now later h p c = (
  rw h.whole.0 at c,
  (
    length h.done,
    (let l : length text ≡ length h.done + length rest = ap length h.split ∙ length-append h.done rest in omega arith),
    p ∙ (h.whole.1 ∙ ap (λ x. Some (b ++ x)) (sym (take-append_seam h.done rest) ∙ ap (take (length h.done)) (sym h.split))),
  ),
)

pub all_put : (text rest : List ℕ) (before after : Option (List ℕ)) (faults now : ℕ) → IsPut text rest before after faults now → rest ≡ [] → Whole before after faults now text
all_put text rest before after faults now h e =
    let t : h.done ≡ text = sym (h.split ∙ (ap (λ r. h.done ++ r) e ∙ append-nil h.done)) in
    subst (λ (x : List ℕ). Whole before after faults now x) t h.whole

pub rest_put : (text rest next : List ℕ) (n : ℕ) (before mid after : Option (List ℕ)) (faults now later : ℕ) → next ≡ drop n rest → IsPut text rest before mid faults now → Puts mid after rest (Wrote n) → PutCause now later (Wrote n) → IsPut text next before after faults later
rest_put text rest next n before mid after faults now later e h p c = rw e (more_put text rest n before mid after faults now later h p c)

pub take_rest : (n : ℕ) (xs : List ℕ) → take (length xs - n) (drop n xs) ≡ drop n xs
take_rest n xs = grind (arith, common_steps)

pub both_put : (a b : List ℕ) (before mid after : Option (List ℕ)) (f g h : ℕ) → Whole before mid f g a → Whole mid after g h b → Whole before after f h (a ++ b)
both_put a b None mid after f g h p q = (q.0 ∙ p.0, tt)
both_put a b (Some x) mid after f g h p q =
    let put : after ≡ Some ((x ++ a) ++ b) = let told : IfSome mid (λ y. after ≡ Some (y ++ b)) = q.1 in rw p.1 at told in
    (q.0 ∙ p.0, put ∙ ap Some (append_assoc x a b))

pub first_cut : (a b : List ℕ) (before after : Option (List ℕ)) (f g : ℕ) → Cut before after f g a → Cut before after f g (a ++ b)
first_cut a b None after f g p = (p.0, tt)
first_cut a b (Some x) after f g p =
    let k : ℕ = p.1.0 in
    let le : k ≤ length a = p.1.1 in
    (p.0, (k, (let l : length (a ++ b) ≡ length a + length b = length-append a b in omega arith), p.1.2 ∙ ap (λ y. Some (x ++ y)) (sym (take-append-le k a b le))))

pub second_cut : (a b : List ℕ) (before mid after : Option (List ℕ)) (f g h : ℕ) → Whole before mid f g a → Cut mid after g h b → Cut before after f h (a ++ b)
second_cut a b None mid after f g h p q = (rw p.0 at q.0, tt)
second_cut a b (Some x) mid after f g h p q =
    let told : IfSome mid (λ y. (k : ℕ) × (k ≤ length b) × (after ≡ Some (y ++ take k b))) = q.1 in
    let cut : (k : ℕ) × (k ≤ length b) × (after ≡ Some ((x ++ a) ++ take k b)) = rw p.1 at told in (
      rw p.0 at q.0,
      (
        length a + cut.0,
        (let l : length (a ++ b) ≡ length a + length b = length-append a b in let le : cut.0 ≤ length b = cut.1 in omega arith),
        cut.2 ∙ (ap Some (append_assoc x a (take cut.0 b)) ∙ ap (λ y. Some (x ++ y)) (sym (take-append-add a b cut.0))),
      ),
    )

pub then_put : (a b : List ℕ) (before mid after : Option (List ℕ)) (f g h : ℕ) (r : Bool) → Whole before mid f g a → MatchBool r (Whole mid after g h b) (Cut mid after g h b) → MatchBool r (Whole before after f h (a ++ b)) (Cut before after f h (a ++ b))
then_put a b before mid after f g h true p q = both_put a b before mid after f g h p q
then_put a b before mid after f g h false p q = second_cut a b before mid after f g h p q

-- whole or cut, the line is told
pub told : {S : Type 0} (sofar : S → Option (List ℕ)) (faults : S → ℕ) (old new : S) (text line : List ℕ) (r : Bool) → MatchBool r (Whole (sofar old) (sofar new) (faults old) (faults new) text) (Cut (sofar old) (sofar new) (faults old) (faults new) text) → text ≡ line → Tells sofar faults old new line
told sofar faults old new text line true h e = inl (rw e at h)
told sofar faults old new text line false h e = inr (rw e at h)

-- the text that was put is the line
pub line_is : (text line : List ℕ) (before after : Option (List ℕ)) (f g : ℕ) (r : Bool) → text ≡ line → MatchBool r (Whole before after f g text) (Cut before after f g text) → MatchBool r (Whole before after f g line) (Cut before after f g line)
line_is text line before after f g r e h = subst (λ (x : List ℕ). MatchBool r (Whole before after f g x) (Cut before after f g x)) e h
