-- A symbol more among those that are listed.
use Rattle.std.proofs.Common.{◌≡◌, ℕ, ◌+◌, ◌==◌, cond, Bool, true, false, ◌&&◌, List, [], ◌∷◌, ◌++◌, length, Option, Some, None, refl, sym, ap, ◌∙◌, arith}
use mathlib.Core.Bool.{beq}
use Rattle.std.specs.Option.{option_or}
use Rattle.std.specs.List.{position_from}
use Rattle.std.proofs.lemmas.Bool.Decides.{nat_tests}
use Rattle.p9_statement.specs.declared.operands.SymbolName.{SymbolName}
use Rattle.p9_facts.proofs.Noting.{or_none, both, beq_is}
use Rattle.p9_facts.specs.Names.{same_symbol, number_in, with_name, with_names}

pub with_append : (known xs ys : List SymbolName) → with_names known (xs ++ ys) ≡ with_names (with_names known xs) ys
with_append known [] ys = refl
with_append known (x ∷ xs) ys = with_append (with_name known x) xs ys

last_step : {X : Type 0} (b : Bool) (i at : ℕ) (rest : Option ℕ) (p : X → Bool) (x : X) (xs : List X) → at ≡ i + 1 + length xs → position_from p (i + 1) (xs ++ x ∷ []) ≡ option_or rest (cond (p x) (Some (i + 1 + length xs)) None) → cond b (Some i) (position_from p (i + 1) (xs ++ x ∷ [])) ≡ option_or (cond b (Some i) rest) (cond (p x) (Some at) None)
last_step true i at rest p x xs e h = refl
last_step false i at rest p x xs e h = rw e h

-- the place of what stands last
position_last : {X : Type 0} (p : X → Bool) (i : ℕ) (xs : List X) (x : X) → position_from p i (xs ++ x ∷ []) ≡ option_or (position_from p i xs) (cond (p x) (Some (i + length xs)) None)
position_last p i [] x = let e : i + 0 ≡ i = omega arith in rw e refl
position_last p i (y ∷ xs) x =
    let e : i + length (y ∷ xs) ≡ i + 1 + length xs = omega arith in
    last_step (p y) i (i + length (y ∷ xs)) (position_from p (i + 1) xs) p x xs e (position_last p (i + 1) xs x)

pub number_last : (symbols : List SymbolName) (s q : SymbolName) → number_in (symbols ++ s ∷ []) q ≡ option_or (number_in symbols q) (cond (same_symbol q s) (Some (length symbols)) None)
number_last symbols s q =
    let e : 0 + length symbols ≡ length symbols = omega arith in
    position_last (same_symbol q) 0 symbols s ∙ ap (λ n. option_or (number_in symbols q) (cond (same_symbol q s) (Some n) None)) e

beq_swap : (a b : Bool) → beq a b ≡ beq b a
beq_swap true true = refl
beq_swap true false = refl
beq_swap false true = refl
beq_swap false false = refl

nat_swap : (a b : ℕ) → (a == b) ≡ (b == a)
nat_swap a b = grind (arith, nat_tests)

symbol_swap : (a b : SymbolName) → same_symbol a b ≡ same_symbol b a
symbol_swap a b = ap (λ t. t && beq a.local b.local) (nat_swap a.word b.word) ∙ ap (λ t. (b.word == a.word) && t) (beq_swap a.local b.local)

symbol_of_parts : (w v : ℕ) (l k : Bool) → w ≡ v → l ≡ k → (let a : SymbolName = record { word = w; local = l } in let b : SymbolName = record { word = v; local = k } in a ≡ b)
symbol_of_parts w v l k e d = cc

pub same_symbol_is : (a b : SymbolName) → same_symbol a b ≡ true → a ≡ b
same_symbol_is a b h =
    let parts = both (a.word == b.word) (beq a.local b.local) h in
    symbol_of_parts a.word b.word a.local b.local (grind (arith, nat_tests, parts.0)) (beq_is a.local b.local parts.1)

step_by : (b : Bool) (known : SymbolName → Option ℕ) (s q : SymbolName) (n : ℕ) (now : Option ℕ) → (b ≡ true → s ≡ q) → known s ≡ None → now ≡ cond b (Some n) (known q) → now ≡ option_or (known q) (cond b (Some n) None)
step_by true known s q n now same none h =
    let e : known q ≡ None = sym (ap known (same refl)) ∙ none in
    rw e h
step_by false known s q n now same none h = h ∙ sym (or_none (known q))

-- a symbol that had no number
pub number_step : (symbols : List SymbolName) (s q : SymbolName) (n : ℕ) (now : Option ℕ) → number_in symbols s ≡ None → n ≡ length symbols → now ≡ cond (same_symbol s q) (Some n) (number_in symbols q) → now ≡ number_in (symbols ++ s ∷ []) q
number_step symbols s q n now none e h =
    step_by (same_symbol s q) (number_in symbols) s q n now (same_symbol_is s q) none h
    ∙ (ap (λ t. option_or (number_in symbols q) (cond t (Some n) None)) (symbol_swap s q)
    ∙ (ap (λ m. option_or (number_in symbols q) (cond (same_symbol q s) (Some m) None)) e ∙ sym (number_last symbols s q)))
