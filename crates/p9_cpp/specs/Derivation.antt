-- What a list of tokens gives, and which tokens that counts, by derivations.
use Rattle.std.specs.Prelude.{ℕ, ◌≡◌, Bool, true, List, [], ◌∷◌, ◌++◌}
use Rattle.p9_lex.specs.declared.token.Token.{Token}
use Rattle.p9_cpp.specs.declared.macros.Macro.{Macro}
use Rattle.p9_cpp.specs.Macros.{Table, Stands, Plain, Call, use_of, put_in}
use Rattle.p9_cpp.specs.Expansion.{Outcome, done, broken, charge, expansion}

-- `Expands table inside hidden list result counted`: under these hidden names the list gives the
-- result. The list is empty; or its first token stands, and the rest follows; or that is the name of
-- a macro that isn't hidden, whose arguments expand under the same hidden names, and whose body, with
-- these put in, expands with its own name hidden too, and the rest follows.
mutual
  pub data Expands (table : Table) : Bool → List (List ℕ) → List Token → List Token → List Token → Type 0 where
    nothing : {w : Bool} {h : List (List ℕ)} → Expands table w h [] [] []
    stands : {w : Bool} {h : List (List ℕ)} {t : Token} {ts b n : List Token} → use_of table h t.kind ts ≡ Stands → Expands table w h ts b n → Expands table w h (t ∷ ts) (t ∷ b) (t ∷ n)
    plain : {w : Bool} {h : List (List ℕ)} {t : Token} {ts b c n k : List Token} → (name : List ℕ) (m : Macro) → use_of table h t.kind ts ≡ Plain name m → Expands table true (name ∷ h) (put_in [] [] t.line m.body) b n → Expands table w h ts c k → Expands table w h (t ∷ ts) (b ++ c) (n ++ (charge w b ++ k))
    call : {w : Bool} {h : List (List ℕ)} {t : Token} {ts b c j n k : List Token} → (name : List ℕ) (m : Macro) (params : List (List ℕ)) (args bs : List (List Token)) (after : List Token) → use_of table h t.kind ts ≡ Call name m params args after → AllExpand table h args bs j → Expands table true (name ∷ h) (put_in params bs t.line m.body) b n → Expands table w h after c k → Expands table w h (t ∷ ts) (b ++ c) (j ++ (n ++ (charge w b ++ k)))

  pub data AllExpand (table : Table) : List (List ℕ) → List (List Token) → List (List Token) → List Token → Type 0 where
    no_args : {h : List (List ℕ)} → AllExpand table h [] [] []
    args : {h : List (List ℕ)} {a b n k : List Token} {others bs : List (List Token)} → Expands table true h a b n → AllExpand table h others bs k → AllExpand table h (a ∷ others) (b ∷ bs) (n ++ k)

abbrev pub IsOut : Outcome → (out counted : List Token) → Type 0
IsOut (done out counted steps) b n = (out ≡ b) × (counted ≡ n)
IsOut (broken name line counted steps) b n = ⊥

-- the total function is done exactly where there is a derivation, with its tokens and what it counts
abbrev pub Exact : Type 0
Exact = (table : Table) (hidden : List (List ℕ)) (inside : Bool) (ts b n : List Token) →
    (IsOut (expansion table hidden inside ts) b n → Expands table inside hidden ts b n)
    × (Expands table inside hidden ts b n → IsOut (expansion table hidden inside ts) b n)

-- a list has at most one expansion
abbrev pub OneResult : Type 0
OneResult = (table : Table) (hidden : List (List ℕ)) (inside : Bool) (ts b c n k : List Token) →
    Expands table inside hidden ts b n → Expands table inside hidden ts c k → (b ≡ c) × (n ≡ k)
