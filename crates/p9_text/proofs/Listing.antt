-- Functions as they are collected, symbol after symbol and module after module.
use Rattle.std.proofs.Common.{ℕ, ◌+◌, ◌-◌, ◌≡◌, ◌≤◌, get_or, take, drop, List, [], ◌∷◌, ◌++◌, length, sym, ap, ◌∙◌, arith, append_assoc}
use Rattle.std.proofs.lemmas.Grind.{common_steps, flat_map-append}
use Rattle.p9_abs.specs.declared.modules.Symbol.{Symbol}
use Rattle.p9_abs.specs.declared.modules.AModule.{AModule}
use Rattle.p9_abs.specs.Runs.{Routine}
use Rattle.p9_abs.specs.Programs.{Numbered, numbered_from, records_from, routine_of, routines_in}

-- the first of a list that isn't empty, and the rest
pub front : {X : Type 0} (rest next : List X) (x : X) → 1 ≤ length rest → x ≡ get_or rest 0 x → next ≡ take (length rest - 1) (drop 1 rest) → rest ≡ x ∷ next
front {X = X} [] next x n here e = absurd (omega arith)
front {X = X} (y ∷ after) next x n here e =
    let same : next ≡ after = e ∙ take-of-itself y after in
    ap (λ v. v ∷ after) (sym here) ∙ ap (λ l. x ∷ l) (sym same)
  where
    take-of-itself : (y : X) (after : List X) → take (length (y ∷ after) - 1) (drop 1 (y ∷ after)) ≡ after
    take-of-itself y after = grind (arith, common_steps)

-- after some functions
turned : (done more step rest all : List Routine) → more ≡ done ++ step → done ++ (step ++ rest) ≡ all → more ++ rest ≡ all
turned done more step rest all m h = ap (λ l. l ++ rest) m ∙ append_assoc done step rest ∙ h

-- after one symbol
pub symbols_turn : (unit next : ℕ) (s : Symbol) (rest after : List Symbol) (done more all : List Routine) →
    rest ≡ s ∷ after → more ≡ done ++ routine_of (record { «module» = unit; symbol = next }) s.body →
    done ++ routines_in (numbered_from unit next rest) ≡ all →
    more ++ routines_in (numbered_from unit (next + 1) after) ≡ all
symbols_turn unit next s rest after done more all e m h =
    turned done more (routine_of (record { «module» = unit; symbol = next }) s.body) (routines_in (numbered_from unit (next + 1) after)) all m
    (ap (λ l. done ++ routines_in (numbered_from unit next l)) (sym e) ∙ h)

-- after one module
pub modules_turn : (n : ℕ) (m : AModule) (symbols : List Symbol) (rest after : List AModule) (done more all : List Routine) →
    rest ≡ m ∷ after → symbols ≡ m.symbols → more ≡ done ++ routines_in (numbered_from n 0 symbols) →
    done ++ routines_in (records_from n rest) ≡ all →
    more ++ routines_in (records_from (n + 1) after) ≡ all
modules_turn n m symbols rest after done more all e same made h =
    turned done more (routines_in (numbered_from n 0 m.symbols)) (routines_in (records_from (n + 1) after)) all
    (made ∙ ap (λ l. done ++ routines_in (numbered_from n 0 l)) same)
    (ap (λ l. done ++ l) (sym (flat_map-append (λ (r : Numbered). routine_of r.def r.symbol.body) (numbered_from n 0 m.symbols) (records_from (n + 1) after)))
    ∙ ap (λ l. done ++ routines_in (records_from n l)) (sym e) ∙ h)
