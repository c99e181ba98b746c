-- The expansion and the derivations say the same.
use Rattle.std.proofs.Common.{◌≡◌, ℕ, zero, suc, ◌+◌, ◌<◌, ◌≤◌, Bool, true, false, List, [], ◌∷◌, ◌++◌, length, refl, sym, ap, ◌∙◌, append_assoc, subst, arith}
use Rattle.p9_lex.specs.declared.token.Token.{Token}
use Rattle.p9_cpp.specs.declared.macros.Macro.{Macro}
use Rattle.p9_cpp.specs.Macros.{Table, Use, Stands, Plain, Call, Wrong, use_of, put_in}
use Rattle.p9_cpp.specs.Expansion.{Outcome, done, broken, plus, in_front, charge, counted, each, by_use, list_by, below, free, expansion}
use Rattle.p9_cpp.specs.Derivation.{Expands, nothing, stands, plain, call, AllExpand, no_args, args, IsOut, Exact, OneResult}
use Rattle.p9_cpp.proofs.Sizes.{Fresh, AllWithin, FitsUse, use_fits}
use Rattle.p9_cpp.proofs.Fuel.{expansion_nil, expansion_cons}

pub append_nil : {A : Type 0} (xs : List A) → xs ++ [] ≡ xs
append_nil [] = refl
append_nil (x ∷ xs) = ap (λ r. x ∷ r) (append_nil xs)

-- From derivations

out_plus : (xs : List Token) (s : ℕ) (o : Outcome) (b n : List Token) → IsOut o b n → IsOut (plus xs s o) b (xs ++ n)
out_plus xs s (done out c st) b n h = (h.0, ap (λ r. xs ++ r) h.1)
out_plus xs s (broken x y c st) b n h = absurd h

out_front : (xs : List Token) (o : Outcome) (b n : List Token) → IsOut o b n → IsOut (in_front xs o) (xs ++ b) n
out_front xs (done out c st) b n h = (ap (λ r. xs ++ r) h.0, h.1)
out_front xs (broken x y c st) b n h = absurd h

out_counted : (j : Bool) (o : Outcome) (next : List Token → Outcome) (b c n k : List Token) → IsOut o b n → IsOut (next b) c k → IsOut (counted j o next) c (n ++ (charge j b ++ k))
out_counted j (done out m st) next b c n k h g =
    let moved : IsOut (next out) c k = subst (λ x. IsOut (next x) c k) (sym h.0) g in
    let inner = out_plus m st (plus (charge j out) 0 (next out)) c (charge j out ++ k) (out_plus (charge j out) 0 (next out) c k moved) in
    let same : m ++ (charge j out ++ k) ≡ n ++ (charge j b ++ k) = ap (λ x. x ++ (charge j out ++ k)) h.1 ∙ ap (λ x. n ++ (charge j x ++ k)) h.0 in
    subst (λ x. IsOut (counted j (done out m st) next) c x) same inner
out_counted j (broken x y m st) next b c n k h g = absurd h

out_use : (table : Table) (w : Bool) (h : List (List ℕ)) (t : Token) (ts b n : List Token) (u : Use) → use_of table h t.kind ts ≡ u → IsOut (by_use w (expansion table h true) (λ x. expansion table (x ∷ h) true) (expansion table h w) t ts u) b n → IsOut (expansion table h w (t ∷ ts)) b n
out_use table w h t ts b n u is o =
    let whole = λ (v : Use). by_use w (expansion table h true) (λ x. expansion table (x ∷ h) true) (expansion table h w) t ts v in
    subst (λ x. IsOut x b n) (sym (expansion_cons table h w t ts))
    (out_plus [] 1 (whole (use_of table h t.kind ts)) b n (subst (λ v. IsOut (whole v) b n) (sym is) o))

out_nil : (table : Table) (w : Bool) (h : List (List ℕ)) → IsOut (expansion table h w []) [] []
out_nil table w h = subst (λ x. IsOut x [] []) (sym (expansion_nil table h w)) (refl, refl)

each_none : (f : List Token → Outcome) (ready : List (List Token)) (next : List (List Token) → Outcome) (c k : List Token) → IsOut (next (ready ++ [])) c k → IsOut (each f [] ready next) c k
each_none f ready next c k o = subst (λ x. IsOut (next x) c k) (append_nil ready) o

each_more : (f : List Token → Outcome) (a b : List Token) (others bs ready : List (List Token)) (next : List (List Token) → Outcome) (c n m k : List Token) → IsOut (f a) b n → (IsOut (next ((ready ++ b ∷ []) ++ bs)) c k → IsOut (each f others (ready ++ b ∷ []) next) c (m ++ k)) → IsOut (next (ready ++ b ∷ bs)) c k → IsOut (each f (a ∷ others) ready next) c ((n ++ m) ++ k)
each_more f a b others bs ready next c n m k first later o =
    let rest = later (subst (λ x. IsOut (next x) c k) (sym (append_assoc ready (b ∷ []) bs)) o) in
    subst (λ x. IsOut (each f (a ∷ others) ready next) c x) (sym (append_assoc n m k))
    (out_counted false (f a) (λ r. each f others (ready ++ r ∷ []) next) b c n (m ++ k) first rest)

mutual
  pub from : {table : Table} {w : Bool} {h : List (List ℕ)} {ts b n : List Token} → Expands table w h ts b n → IsOut (expansion table h w ts) b n
  from {table = table} (nothing {w = w} {h = h}) = out_nil table w h
  from {table = table} (stands {w = w} {h = h} {t = t} {ts = ts} {b = b} {n = n} is d) =
      out_use table w h t ts (t ∷ b) (t ∷ n) Stands is (out_plus (t ∷ []) 0 (in_front (t ∷ []) (expansion table h w ts)) (t ∷ b) n (out_front (t ∷ []) (expansion table h w ts) b n (from d)))
  from {table = table} (plain {w = w} {h = h} {t = t} {ts = ts} {b = b} {c = c} {n = n} {k = k} x m is d e) =
      out_use table w h t ts (b ++ c) (n ++ (charge w b ++ k)) (Plain x m) is
      (out_counted w (expansion table (x ∷ h) true (put_in [] [] t.line m.body)) (λ r. in_front r (expansion table h w ts)) b (b ++ c) n k (from d) (out_front b (expansion table h w ts) c k (from e)))
  from {table = table} (call {w = w} {h = h} {t = t} {ts = ts} {b = b} {c = c} {j = j} {n = n} {k = k} x m params as' bs after is ad d e) =
      out_use table w h t ts (b ++ c) (j ++ (n ++ (charge w b ++ k))) (Call x m params as' after) is
      (from_args ad [] (λ rs. counted w (expansion table (x ∷ h) true (put_in params rs t.line m.body)) (λ r. in_front r (expansion table h w after))) (b ++ c) (n ++ (charge w b ++ k))
      (out_counted w (expansion table (x ∷ h) true (put_in params bs t.line m.body)) (λ r. in_front r (expansion table h w after)) b (b ++ c) n k (from d) (out_front b (expansion table h w after) c k (from e))))

  from_args : {table : Table} {h : List (List ℕ)} {as' bs : List (List Token)} {m : List Token} → AllExpand table h as' bs m → (ready : List (List Token)) (next : List (List Token) → Outcome) (c k : List Token) → IsOut (next (ready ++ bs)) c k → IsOut (each (expansion table h true) as' ready next) c (m ++ k)
  from_args {table = table} (no_args {h = h}) ready next c k o = each_none (expansion table h true) ready next c k o
  from_args {table = table} (args {h = h} {a = a} {b = b} {n = n} {k = m} {others = others} {bs = bs} d ds) ready next c k o =
      each_more (expansion table h true) a b others bs ready next c n m k (from d) (λ r. from_args ds (ready ++ b ∷ []) next c k r) o

-- To derivations

abbrev IfDone : Outcome → (List Token → List Token → Type 0) → Type 0
IfDone (done out c s) P = P out c
IfDone (broken x y c s) P = Unit {0}

done_map : (o : Outcome) (P Q : List Token → List Token → Type 0) → ((b n : List Token) → P b n → Q b n) → IfDone o P → IfDone o Q
done_map (done out c s) P Q f h = f out c h
done_map (broken x y c s) P Q f h = tt

done_plus : (xs : List Token) (s : ℕ) (o : Outcome) (Q : List Token → List Token → Type 0) → IfDone o (λ b n. Q b (xs ++ n)) → IfDone (plus xs s o) Q
done_plus xs s (done out c st) Q h = h
done_plus xs s (broken x y c st) Q h = tt

done_front : (xs : List Token) (o : Outcome) (Q : List Token → List Token → Type 0) → IfDone o (λ b n. Q (xs ++ b) n) → IfDone (in_front xs o) Q
done_front xs (done out c st) Q h = h
done_front xs (broken x y c st) Q h = tt

done_counted : (j : Bool) (o : Outcome) (next : List Token → Outcome) (P Q : List Token → List Token → Type 0) → IfDone o P → ((b n : List Token) → P b n → IfDone (next b) (λ c k. Q c (n ++ (charge j b ++ k)))) → IfDone (counted j o next) Q
done_counted j (done out m st) next P Q h f =
    done_plus m st (plus (charge j out) 0 (next out)) Q (done_plus (charge j out) 0 (next out) (λ c k. Q c (m ++ k)) (f out m h))
done_counted j (broken x y m st) next P Q h f = tt

done_each : (table : Table) (h : List (List ℕ)) (size : ℕ) (f : List Token → Outcome) (as' ready : List (List Token)) (next : List (List Token) → Outcome) (Q : List Token → List Token → Type 0) → AllWithin size as' → ((a : List Token) → length a ≤ size → IfDone (f a) (λ b n. Expands table true h a b n)) → ((bs : List (List Token)) (m : List Token) → AllExpand table h as' bs m → IfDone (next (ready ++ bs)) (λ c k. Q c (m ++ k))) → IfDone (each f as' ready next) Q
done_each table h size f [] ready next Q w fs g =
    subst (λ x. IfDone (next x) Q) (append_nil ready) (g [] [] no_args)
done_each table h size f (a ∷ others) ready next Q w fs g =
    done_counted false (f a) (λ b. each f others (ready ++ b ∷ []) next) (λ b n. Expands table true h a b n) Q (fs a w.0)
    (λ b n d. done_each table h size f others (ready ++ b ∷ []) next (λ c k. Q c (n ++ k)) w.1 fs
    (λ bs m ds. done_map (next ((ready ++ b ∷ []) ++ bs)) (λ c k. Q c ((n ++ m) ++ k)) (λ c k. Q c (n ++ (m ++ k))) (λ c k q. subst (Q c) (append_assoc n m k) q)
    (subst (λ x. IfDone (next x) (λ c k. Q c ((n ++ m) ++ k))) (sym (append_assoc ready (b ∷ []) bs)) (g (b ∷ bs) (n ++ m) (args d ds)))))

use_done : (table : Table) (h : List (List ℕ)) (size : ℕ) (w : Bool) (arg : List Token → Outcome) (body : List ℕ → List Token → Outcome) (rest : List Token → Outcome) (t : Token) (ts : List Token) (u : Use) → use_of table h t.kind ts ≡ u → FitsUse table h size u → length ts ≤ size → ((a : List Token) → length a ≤ size → IfDone (arg a) (λ b n. Expands table true h a b n)) → ((x : List ℕ) (a : List Token) → Fresh table h x → IfDone (body x a) (λ b n. Expands table true (x ∷ h) a b n)) → ((r : List Token) → length r ≤ size → IfDone (rest r) (λ b n. Expands table w h r b n)) → IfDone (by_use w arg body rest t ts u) (λ b n. Expands table w h (t ∷ ts) b n)
use_done table h size w arg body rest t ts Stands is u l ha hb hr =
    done_plus (t ∷ []) 0 (in_front (t ∷ []) (rest ts)) (λ b n. Expands table w h (t ∷ ts) b n)
    (done_front (t ∷ []) (rest ts) (λ b n. Expands table w h (t ∷ ts) b (t ∷ n)) (done_map (rest ts) (λ b n. Expands table w h ts b n) (λ b n. Expands table w h (t ∷ ts) (t ∷ b) (t ∷ n)) (λ b n d. stands is d) (hr ts l)))
use_done table h size w arg body rest t ts (Plain x m) is u l ha hb hr =
    done_counted w (body x (put_in [] [] t.line m.body)) (λ r. in_front r (rest ts)) (λ b n. Expands table true (x ∷ h) (put_in [] [] t.line m.body) b n) (λ b n. Expands table w h (t ∷ ts) b n) (hb x (put_in [] [] t.line m.body) u)
    (λ b n d. done_front b (rest ts) (λ c k. Expands table w h (t ∷ ts) c (n ++ (charge w b ++ k))) (done_map (rest ts) (λ c k. Expands table w h ts c k) (λ c k. Expands table w h (t ∷ ts) (b ++ c) (n ++ (charge w b ++ k))) (λ c k e. plain x m is d e) (hr ts l)))
use_done table h size w arg body rest t ts (Call x m params as' after) is u l ha hb hr =
    done_each table h size arg as' [] (λ bs. counted w (body x (put_in params bs t.line m.body)) (λ r. in_front r (rest after))) (λ b n. Expands table w h (t ∷ ts) b n) u.1 ha
    (λ bs j ds. done_counted w (body x (put_in params bs t.line m.body)) (λ r. in_front r (rest after)) (λ b n. Expands table true (x ∷ h) (put_in params bs t.line m.body) b n) (λ c k. Expands table w h (t ∷ ts) c (j ++ k)) (hb x (put_in params bs t.line m.body) u.0)
    (λ b n d. done_front b (rest after) (λ c k. Expands table w h (t ∷ ts) c (j ++ (n ++ (charge w b ++ k)))) (done_map (rest after) (λ c k. Expands table w h after c k) (λ c k. Expands table w h (t ∷ ts) (b ++ c) (j ++ (n ++ (charge w b ++ k)))) (λ c k e. call x m params as' bs after is ds d e) (hr after u.2))))
use_done table h size w arg body rest t ts (Wrong x) is u l ha hb hr = tt

list_done : (table : Table) (f : List (List ℕ) → List Token → Outcome) (h : List (List ℕ)) → ((x : List ℕ) (a : List Token) → Fresh table h x → IfDone (f (x ∷ h) a) (λ b n. Expands table true (x ∷ h) a b n)) → (n : ℕ) (w : Bool) (ts : List Token) → length ts < n → IfDone (list_by f table h n w ts) (λ b k. Expands table w h ts b k)
list_done table f h hb zero w ts l = absurd (omega (arith, l))
list_done table f h hb (suc n) w [] l = nothing
list_done table f h hb (suc n) w (t ∷ ts) l =
    let u = use_of table h t.kind ts in
    done_plus [] 1 (by_use w (list_by f table h n true) (λ x. f (x ∷ h)) (list_by f table h n w) t ts u) (λ b k. Expands table w h (t ∷ ts) b k)
    (use_done table h (length ts) w (list_by f table h n true) (λ x. f (x ∷ h)) (list_by f table h n w) t ts u refl (use_fits table h t.kind (length ts) ts (omega arith)) (omega arith)
    (λ a la. list_done table f h hb n true a (omega (arith, la, l))) hb (λ r lr. list_done table f h hb n w r (omega (arith, lr, l))))

below_done : (table : Table) (d : ℕ) (h : List (List ℕ)) (ts : List Token) → free h table < d → IfDone (below table d h ts) (λ b n. Expands table true h ts b n)
below_done table zero h ts l = absurd (omega (arith, l))
below_done table (suc d) h ts l =
    list_done table (below table d) h (λ x a fresh. below_done table d (x ∷ h) a (omega (arith, fresh, l))) (suc (length ts)) true ts (omega arith)

expansion_done : (table : Table) (h : List (List ℕ)) (w : Bool) (ts : List Token) → IfDone (expansion table h w ts) (λ b n. Expands table w h ts b n)
unfolding expansion
expansion_done table h w ts =
    list_done table (below table (free h table)) h (λ x a fresh. below_done table (free h table) (x ∷ h) a fresh) (suc (length ts)) w ts (omega arith)

to_by : (table : Table) (h : List (List ℕ)) (w : Bool) (ts b n : List Token) (o : Outcome) → IfDone o (λ c k. Expands table w h ts c k) → IsOut o b n → Expands table w h ts b n
to_by table h w ts b n (done out c s) d o = subst (λ x. Expands table w h ts x n) o.0 (subst (Expands table w h ts out) o.1 d)
to_by table h w ts b n (broken x y c s) d o = absurd o

one_out : (o : Outcome) (b c n k : List Token) → IsOut o b n → IsOut o c k → (b ≡ c) × (n ≡ k)
one_out (done out m s) b c n k h g = (sym h.0 ∙ g.0, sym h.1 ∙ g.1)
one_out (broken x y m s) b c n k h g = absurd h

pub exact : Exact
exact table h w ts b n = (λ o. to_by table h w ts b n (expansion table h w ts) (expansion_done table h w ts) o, λ d. from d)

pub one_result : OneResult
one_result table h w ts b c n k d e = one_out (expansion table h w ts) b c n k (from d) (from e)
