-- The steps of the reader.
use Rattle.std.proofs.Common.{◌≡◌, ℕ, ◌+◌, Bool, true, false, List, [], ◌∷◌, ◌++◌, length, refl, sym, ap, ◌∙◌, append_assoc, arith}
use Rattle.p9_lex.specs.declared.token.Token.{Token}
use Rattle.p9_cpp.specs.declared.macros.Macro.{Macro}
use Rattle.p9_cpp.specs.declared.uses.Known.{Known}
use Rattle.p9_cpp.specs.declared.frame.Frame.{Frame}
use Rattle.p9_cpp.specs.declared.frame.Frame.TheVariants as frames
use Rattle.p9_cpp.specs.declared.frame.Invocation.{Invocation}
use Rattle.p9_cpp.specs.declared.frame.Rest.{Rest}
use Rattle.p9_cpp.specs.Macros.{Table, Use, Stands, Plain, Call, Wrong, use_of, put_in}
use Rattle.p9_cpp.specs.Expansion.{Outcome, done, broken, plus, and_then, in_front, charge, counted, each, by_use, expansion}
use Rattle.p9_cpp.specs.Reading.{hidden_of, is_inside, expanded, body_of, resume, read, begun}
use Rattle.p9_cpp.proofs.Derived.{append_nil}
use Rattle.p9_cpp.proofs.Fuel.{counted_next, each_next, expansion_nil, expansion_cons}

plus_plus : (xs ys : List Token) (s r q : ℕ) (o : Outcome) → s + r ≡ q → plus xs s (plus ys r o) ≡ plus (xs ++ ys) q o
plus_plus xs ys s r q (done out n m) h =
    let k : s + (r + m) ≡ q + m = omega (arith, h) in
    ap (λ x. done out x (s + (r + m))) (sym (append_assoc xs ys n)) ∙ ap (λ y. done out ((xs ++ ys) ++ n) y) k
plus_plus xs ys s r q (broken x y n m) h =
    let k : s + (r + m) ≡ q + m = omega (arith, h) in
    ap (λ z. broken x y z (s + (r + m))) (sym (append_assoc xs ys n)) ∙ ap (λ z. broken x y ((xs ++ ys) ++ n) z) k

and_then_plus : (xs : List Token) (s : ℕ) (o : Outcome) (g : List Token → Outcome) → and_then (plus xs s o) g ≡ plus xs s (and_then o g)
and_then_plus xs s (done out n m) g = sym (plus_plus xs n s m (s + m) (g out) refl)
and_then_plus xs s (broken x y n m) g = refl

and_then_front : (xs : List Token) (o : Outcome) (g : List Token → Outcome) → and_then (in_front xs o) g ≡ and_then o (λ b. g (xs ++ b))
and_then_front xs (done out n m) g = refl
and_then_front xs (broken x y n m) g = refl

and_then_next : (o : Outcome) (g h : List Token → Outcome) → ((b : List Token) → g b ≡ h b) → and_then o g ≡ and_then o h
and_then_next (done out n m) g h e = ap (plus n m) (e out)
and_then_next (broken x y n m) g h e = refl

and_then_counted : (j : Bool) (o : Outcome) (g h : List Token → Outcome) → and_then (counted j o g) h ≡ counted j o (λ b. and_then (g b) h)
and_then_counted j (done out n m) g h =
    and_then_plus n m (plus (charge j out) 0 (g out)) h ∙ ap (plus n m) (and_then_plus (charge j out) 0 (g out) h)
and_then_counted j (broken x y n m) g h = refl

and_then_each : (of : List Token → Outcome) (args ready : List (List Token)) (g : List (List Token) → Outcome) (h : List Token → Outcome) → and_then (each of args ready g) h ≡ each of args ready (λ bs. and_then (g bs) h)
and_then_each of [] ready g h = refl
and_then_each of (a ∷ args) ready g h =
    and_then_counted false (of a) (λ b. each of args (ready ++ b ∷ []) g) h
    ∙ counted_next false (of a) (λ b. and_then (each of args (ready ++ b ∷ []) g) h) (λ b. each of args (ready ++ b ∷ []) (λ bs. and_then (g bs) h)) (λ b. and_then_each of args (ready ++ b ∷ []) g h)

module _ (table : Table) (fs : List Frame) where
  -- what follows in a list, behind what it has given so far
  front_step : (after xs out : List Token) → and_then (in_front xs (expanded table fs after)) (λ b. resume table fs (out ++ b)) ≡ and_then (expanded table fs after) (λ c. resume table fs (out ++ (xs ++ c)))
  front_step after xs out = and_then_front xs (expanded table fs after) (λ b. resume table fs (out ++ b))

  joined : (after out b : List Token) → and_then (expanded table fs after) (λ c. resume table fs (out ++ (b ++ c))) ≡ read table fs after (out ++ b)
  joined after out b =
      and_then_next (expanded table fs after) (λ c. resume table fs (out ++ (b ++ c))) (λ c. resume table fs ((out ++ b) ++ c)) (λ c. ap (resume table fs) (sym (append_assoc out b c)))

  -- a body, and what follows it
  body_step : (o : Outcome) (after out : List Token) → and_then (counted (is_inside fs) o (λ b. in_front b (expanded table fs after))) (λ b. resume table fs (out ++ b)) ≡ counted (is_inside fs) o (λ c. and_then (expanded table fs after) (λ d. resume table fs (out ++ (c ++ d))))
  body_step o after out =
      and_then_counted (is_inside fs) o (λ b. in_front b (expanded table fs after)) (λ b. resume table fs (out ++ b))
      ∙ counted_next (is_inside fs) o (λ b. and_then (in_front b (expanded table fs after)) (λ c. resume table fs (out ++ c))) (λ b. and_then (expanded table fs after) (λ c. resume table fs (out ++ (b ++ c)))) (λ b. front_step after b out)

  met : (t : Token) (ts out : List Token) (u : Use) → use_of table (hidden_of fs) t.kind ts ≡ u → read table fs (t ∷ ts) out ≡ plus [] 1 (and_then (by_use (is_inside fs) (expansion table (hidden_of fs) true) (λ x. expansion table (x ∷ hidden_of fs) true) (expanded table fs) t ts u) (λ b. resume table fs (out ++ b)))
  met t ts out u is =
      ap (λ o. and_then o (λ b. resume table fs (out ++ b))) (expansion_cons table (hidden_of fs) (is_inside fs) t ts)
      ∙ and_then_plus [] 1 (by_use (is_inside fs) (expansion table (hidden_of fs) true) (λ x. expansion table (x ∷ hidden_of fs) true) (expanded table fs) t ts (use_of table (hidden_of fs) t.kind ts)) (λ b. resume table fs (out ++ b))
      ∙ ap (λ v. plus [] 1 (and_then (by_use (is_inside fs) (expansion table (hidden_of fs) true) (λ x. expansion table (x ∷ hidden_of fs) true) (expanded table fs) t ts v) (λ b. resume table fs (out ++ b)))) is

  pub stands_step : (t : Token) (ts out : List Token) → use_of table (hidden_of fs) t.kind ts ≡ Stands → read table fs (t ∷ ts) out ≡ plus (t ∷ []) 1 (read table fs ts (out ++ t ∷ []))
  stands_step t ts out is =
      met t ts out Stands is
      ∙ ap (plus [] 1) (and_then_plus (t ∷ []) 0 (in_front (t ∷ []) (expanded table fs ts)) (λ b. resume table fs (out ++ b)) ∙ ap (plus (t ∷ []) 0) (front_step ts (t ∷ []) out ∙ joined ts out (t ∷ [])))
      ∙ plus_plus [] (t ∷ []) 1 0 1 (read table fs ts (out ++ t ∷ [])) (omega arith)

  pub plain_step : (t : Token) (known : Known) (rest : Rest) → use_of table (hidden_of fs) t.kind rest.after ≡ Plain known.name.now known.definition.now → read table fs (t ∷ rest.after) rest.out ≡ plus [] 1 (read table (frames.Body known rest ∷ fs) (put_in [] [] t.line known.definition.now.body) [])
  plain_step t known rest is =
      met t rest.after rest.out (Plain known.name.now known.definition.now) is
      ∙ ap (plus [] 1) (body_step (expansion table (known.name.now ∷ hidden_of fs) true (put_in [] [] t.line known.definition.now.body)) rest.after rest.out)

  pub call_step : (t : Token) (ts : List Token) (i : Invocation) (args : List (List Token)) (rest : Rest) → i.line ≡ t.line → use_of table (hidden_of fs) t.kind ts ≡ Call i.known.name.now i.known.definition.now i.params.now args rest.after → read table fs (t ∷ ts) rest.out ≡ plus [] 1 (begun table fs i [] args rest)
  call_step t ts i args rest line is =
      let inner = λ (bs : List (List Token)). expansion table (i.known.name.now ∷ hidden_of fs) true (put_in i.params.now bs t.line i.known.definition.now.body) in
      let same = λ (bs : List (List Token)). ap (λ l. counted (is_inside fs) (expansion table (i.known.name.now ∷ hidden_of fs) true (put_in i.params.now bs l i.known.definition.now.body)) (λ c. and_then (expanded table fs rest.after) (λ d. resume table fs (rest.out ++ (c ++ d))))) (sym line) in
      met t ts rest.out (Call i.known.name.now i.known.definition.now i.params.now args rest.after) is
      ∙ ap (plus [] 1) (and_then_each (expansion table (hidden_of fs) true) args [] (λ bs. counted (is_inside fs) (inner bs) (λ b. in_front b (expanded table fs rest.after))) (λ b. resume table fs (rest.out ++ b))
      ∙ each_next (expansion table (hidden_of fs) true) args []
      (λ bs. and_then (counted (is_inside fs) (inner bs) (λ b. in_front b (expanded table fs rest.after))) (λ b. resume table fs (rest.out ++ b)))
      (λ bs. counted (is_inside fs) (body_of table fs i bs) (λ c. and_then (expanded table fs rest.after) (λ d. resume table fs (rest.out ++ (c ++ d)))))
      (λ bs. body_step (inner bs) rest.after rest.out ∙ same bs))

  pub wrong_step : (t : Token) (ts out : List Token) (x : List ℕ) → use_of table (hidden_of fs) t.kind ts ≡ Wrong x → read table fs (t ∷ ts) out ≡ broken x t.line [] 1
  wrong_step t ts out x is = met t ts out (Wrong x) is

  pub body_end : (known : Known) (rest : Rest) (out : List Token) → read table (frames.Body known rest ∷ fs) [] out ≡ plus (charge (is_inside fs) out) 1 (read table fs rest.after (rest.out ++ out))
  body_end known rest out =
      ap (λ o. and_then o (λ b. resume table (frames.Body known rest ∷ fs) (out ++ b))) (expansion_nil table (known.name.now ∷ hidden_of fs) true)
      ∙ ap (λ b. plus [] 1 (resume table (frames.Body known rest ∷ fs) b)) (append_nil out)
      ∙ ap (λ o. plus [] 1 (plus (charge (is_inside fs) out) 0 o)) (joined rest.after rest.out out)
      ∙ plus_plus [] (charge (is_inside fs) out) 1 0 1 (read table fs rest.after (rest.out ++ out)) (omega arith)

  pub argument_end : (i : Invocation) (ready left : List (List Token)) (rest : Rest) (out : List Token) → read table (frames.Argument i ready left rest ∷ fs) [] out ≡ plus [] 1 (begun table fs i (ready ++ out ∷ []) left rest)
  argument_end i ready left rest out =
      ap (λ o. and_then o (λ b. resume table (frames.Argument i ready left rest ∷ fs) (out ++ b))) (expansion_nil table (hidden_of fs) true)
      ∙ ap (λ b. plus [] 1 (resume table (frames.Argument i ready left rest ∷ fs) b)) (append_nil out)
      ∙ plus_plus [] [] 1 0 1 (begun table fs i (ready ++ out ∷ []) left rest) (omega arith)

  -- an argument is begun
  pub begun_more : (i : Invocation) (ready left : List (List Token)) (next : List Token) (rest : Rest) → read table (frames.Argument i ready left rest ∷ fs) next [] ≡ begun table fs i ready (next ∷ left) rest
  begun_more i ready left next rest = refl

pub last_end : (table : Table) (out : List Token) → read table [] [] out ≡ done out [] 1
last_end table out =
    ap (λ o. and_then o (λ b. resume table [] (out ++ b))) (expansion_nil table [] false)
    ∙ ap (λ b. done b [] 1) (append_nil out)
