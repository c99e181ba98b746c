-- What may stand in the places of parts.
use Rattle.std.proofs.Common.{◌≡◌, ℕ, suc, Bool, true, false, ◌&&◌, List, [], ◌∷◌, refl}
use Rattle.p9_grammar.specs.declared.head.Class.{Class}
use Rattle.p9_grammar.specs.Trees.{Tree, Trees, more}
use Rattle.p9_grammar.specs.Symbols.{Symbol, Write, Part, Enter, Slot}
use Rattle.p9_grammar.specs.Scopes.{Scope}
use Rattle.p9_grammar.specs.Grammar.{Formed, Fills, slot_class}

-- each place of a part passes a test
abbrev pub pass : (Slot → Bool) → List Symbol → Bool
pass test [] = true
pass test (Write t ∷ symbols) = pass test symbols
pass test (Enter ∷ symbols) = pass test symbols
pass test (Part slot role ∷ symbols) = test slot && pass test symbols

-- Of the first part that fills such symbols: what its place is, and what is left for the others.
pub record Next (test : Slot → Bool) (c : Class) (first : Tree) (others : Trees) : Type 0 where
  pub slot : Slot
  pub passes : test slot ≡ true
  pub scope : Scope
  pub at : ℕ
  pub formed : Formed (slot_class c slot) scope at first
  pub left : List Symbol
  pub left_pass : pass test left ≡ true
  pub behind_scope : Scope
  pub behind_at : ℕ
  pub fills : Fills c left behind_scope behind_at others

pub true_false : true ≡ false → ⊥
true_false h = cc

pub false_true : false ≡ true → ⊥
false_true h = cc

pub both : (a b : Bool) → a && b ≡ true → (a ≡ true) × (b ≡ true)
both true b h = (refl, h)
both false b h = cc

-- the first part, and what is left
pub next_part : (test : Slot → Bool) (c : Class) (symbols : List Symbol) (scope : Scope) (at : ℕ) (first : Tree) (others : Trees) → pass test symbols ≡ true
    → Fills c symbols scope at (more first others) → Next test c first others
next_part test c [] scope at first others p h = absurd h
next_part test c (Write t ∷ symbols) scope at first others p h = next_part test c symbols scope (suc at) first others p h
next_part test c (Enter ∷ symbols) scope at first others p h = next_part test c symbols ([] ∷ scope) at first others p h
next_part test c (Part slot role ∷ symbols) scope at first others p h = record {
  slot = slot;
  passes = (both (test slot) (pass test symbols) p).0;
  scope = scope;
  at = at;
  formed = h.0;
  left = symbols;
  left_pass = (both (test slot) (pass test symbols) p).1;
  behind_scope = _;
  behind_at = _;
  fills = h.1;
}

-- a test that all pass
abbrev pub any : Slot → Bool
any slot = true

pub all_pass : (symbols : List Symbol) → pass any symbols ≡ true
all_pass [] = refl
all_pass (Write t ∷ symbols) = all_pass symbols
all_pass (Enter ∷ symbols) = all_pass symbols
all_pass (Part slot role ∷ symbols) = all_pass symbols
