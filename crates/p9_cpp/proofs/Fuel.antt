-- The numbers that bound the recursion change nothing, so an expansion goes by its own laws.
use Rattle.std.proofs.Common.{◌≡◌, ℕ, zero, suc, ◌<◌, ◌≤◌, Bool, true, false, List, [], ◌∷◌, ◌++◌, length, refl, ap, ◌∙◌, arith}
use Rattle.p9_lex.specs.declared.token.Token.{Token}
use Rattle.p9_cpp.specs.declared.macros.Macro.{Macro}
use Rattle.p9_cpp.specs.Macros.{Table, Use, Stands, Plain, Call, Wrong, use_of, put_in}
use Rattle.p9_cpp.specs.Expansion.{Outcome, done, broken, plus, in_front, charge, counted, each, by_use, list_by, below, free, expansion}
use Rattle.p9_cpp.proofs.Sizes.{Fresh, AllWithin, FitsUse, use_fits}

pub counted_next : (j : Bool) (o : Outcome) (f g : List Token → Outcome) → ((b : List Token) → f b ≡ g b) → counted j o f ≡ counted j o g
counted_next j (done out c s) f g h = ap (λ r. plus c s (plus (charge j out) 0 r)) (h out)
counted_next j (broken name line c s) f g h = refl

pub each_next : (of : List Token → Outcome) (args ready : List (List Token)) (f g : List (List Token) → Outcome) → ((bs : List (List Token)) → f bs ≡ g bs) → each of args ready f ≡ each of args ready g
each_next of [] ready f g h = h ready
each_next of (a ∷ args) ready f g h =
    counted_next false (of a) (λ b. each of args (ready ++ b ∷ []) f) (λ b. each of args (ready ++ b ∷ []) g) (λ b. each_next of args (ready ++ b ∷ []) f g h)

each_same : (n : ℕ) (f g : List Token → Outcome) (args ready : List (List Token)) (next : List (List Token) → Outcome) → AllWithin n args → ((a : List Token) → length a ≤ n → f a ≡ g a) → each f args ready next ≡ each g args ready next
each_same n f g [] ready next w h = refl
each_same n f g (a ∷ args) ready next w h =
    ap (λ o. counted false o (λ b. each f args (ready ++ b ∷ []) next)) (h a w.0)
    ∙ counted_next false (g a) (λ b. each f args (ready ++ b ∷ []) next) (λ b. each g args (ready ++ b ∷ []) next) (λ b. each_same n f g args (ready ++ b ∷ []) next w.1 h)

by_use_same : (table : Table) (hidden : List (List ℕ)) (n : ℕ) (j : Bool) (arg arg' : List Token → Outcome) (body body' : List ℕ → List Token → Outcome) (rest rest' : List Token → Outcome) (t : Token) (ts : List Token) (u : Use) → FitsUse table hidden n u → length ts ≤ n → ((a : List Token) → length a ≤ n → arg a ≡ arg' a) → ((x : List ℕ) (b : List Token) → Fresh table hidden x → body x b ≡ body' x b) → ((r : List Token) → length r ≤ n → rest r ≡ rest' r) → by_use j arg body rest t ts u ≡ by_use j arg' body' rest' t ts u
by_use_same table hidden n j arg arg' body body' rest rest' t ts Stands u l ha hb hr = ap (λ o. plus (t ∷ []) 0 (in_front (t ∷ []) o)) (hr ts l)
by_use_same table hidden n j arg arg' body body' rest rest' t ts (Plain x m) u l ha hb hr =
    ap (λ o. counted j o (λ b. in_front b (rest ts))) (hb x (put_in [] [] t.line m.body) u)
    ∙ ap (λ r. counted j (body' x (put_in [] [] t.line m.body)) (λ b. in_front b r)) (hr ts l)
by_use_same table hidden n j arg arg' body body' rest rest' t ts (Call x m params args after) u l ha hb hr =
    each_same n arg arg' args [] (λ bs. counted j (body x (put_in params bs t.line m.body)) (λ b. in_front b (rest after))) u.1 ha
    ∙ each_next arg' args []
    (λ bs. counted j (body x (put_in params bs t.line m.body)) (λ b. in_front b (rest after)))
    (λ bs. counted j (body' x (put_in params bs t.line m.body)) (λ b. in_front b (rest' after)))
    (λ bs.
    ap (λ o. counted j o (λ b. in_front b (rest after))) (hb x (put_in params bs t.line m.body) u.0)
    ∙ ap (λ r. counted j (body' x (put_in params bs t.line m.body)) (λ b. in_front b r)) (hr after u.2))
by_use_same table hidden n j arg arg' body body' rest rest' t ts (Wrong x) u l ha hb hr = refl

list_same : (table : Table) (f g : List (List ℕ) → List Token → Outcome) (hidden : List (List ℕ)) → ((x : List ℕ) (b : List Token) → Fresh table hidden x → f (x ∷ hidden) b ≡ g (x ∷ hidden) b) → (n n' : ℕ) (j : Bool) (ts : List Token) → length ts < n → length ts < n' → list_by f table hidden n j ts ≡ list_by g table hidden n' j ts
list_same table f g hidden h zero n' j ts l l' = absurd (omega (arith, l))
list_same table f g hidden h (suc n) zero j ts l l' = absurd (omega (arith, l'))
list_same table f g hidden h (suc n) (suc n') j [] l l' = refl
list_same table f g hidden h (suc n) (suc n') j (t ∷ ts) l l' =
    ap (plus [] 1)
    (by_use_same table hidden (length ts) j (list_by f table hidden n true) (list_by g table hidden n' true) (λ x. f (x ∷ hidden)) (λ x. g (x ∷ hidden)) (list_by f table hidden n j) (list_by g table hidden n' j) t ts (use_of table hidden t.kind ts)
    (use_fits table hidden t.kind (length ts) ts (omega arith)) (omega arith)
    (λ a la. list_same table f g hidden h n n' true a (omega (arith, la, l)) (omega (arith, la, l')))
    h
    (λ r lr. list_same table f g hidden h n n' j r (omega (arith, lr, l)) (omega (arith, lr, l'))))

below_same : (table : Table) (d d' : ℕ) (hidden : List (List ℕ)) (ts : List Token) → free hidden table < d → free hidden table < d' → below table d hidden ts ≡ below table d' hidden ts
below_same table zero d' hidden ts h h' = absurd (omega (arith, h))
below_same table (suc d) zero hidden ts h h' = absurd (omega (arith, h'))
below_same table (suc d) (suc d') hidden ts h h' =
    list_same table (below table d) (below table d') hidden
    (λ x b fresh. below_same table d d' (x ∷ hidden) b (omega (arith, fresh, h)) (omega (arith, fresh, h')))
    (suc (length ts)) (suc (length ts)) true ts (omega arith) (omega arith)

pub expansion_nil : (table : Table) (hidden : List (List ℕ)) (j : Bool) → expansion table hidden j [] ≡ done [] [] 1
unfolding expansion
expansion_nil table hidden j = refl

-- the law of a list that isn't empty
pub expansion_cons : (table : Table) (hidden : List (List ℕ)) (j : Bool) (t : Token) (ts : List Token) → expansion table hidden j (t ∷ ts) ≡ plus [] 1 (by_use j (expansion table hidden true) (λ x. expansion table (x ∷ hidden) true) (expansion table hidden j) t ts (use_of table hidden t.kind ts))
unfolding expansion
expansion_cons table hidden j t ts =
    let f = below table (free hidden table) in
    let n = length (t ∷ ts) in
    ap (plus [] 1)
    (by_use_same table hidden (length ts) j (list_by f table hidden n true) (expansion table hidden true) (λ x. f (x ∷ hidden)) (λ x. expansion table (x ∷ hidden) true) (list_by f table hidden n j) (expansion table hidden j) t ts (use_of table hidden t.kind ts)
    (use_fits table hidden t.kind (length ts) ts (omega arith)) (omega arith)
    (λ a la. list_same table f f hidden (λ x b fresh. refl) n (suc (length a)) true a (omega (arith, la)) (omega arith))
    (λ x b fresh. below_same table (free hidden table) (suc (free (x ∷ hidden) table)) (x ∷ hidden) b fresh (omega arith))
    (λ r lr. list_same table f f hidden (λ x b fresh. refl) n (suc (length r)) j r (omega (arith, lr)) (omega arith)))
