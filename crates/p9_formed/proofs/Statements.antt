-- Declarations stand in blocks and in statements only.
use Rattle.std.proofs.Common.{◌≡◌, ℕ, Bool, true, false, List, refl}
use Rattle.p9_lang.specs.declared.tree.Kind.{Kind}
use Rattle.p9_lang.specs.declared.tree.Kind.TheVariants as kind
use Rattle.p9_lang.specs.Trees.{Syntax, SyntaxRow}
use Rattle.p9_lang.specs.Trees as typing
use Rattle.p9_grammar.specs.declared.head.Class.{Class}
use Rattle.p9_grammar.specs.declared.head.Class.TheVariants as class
use Rattle.p9_grammar.specs.Trees.{Tree, node, Trees, none, more, count}
use Rattle.p9_grammar.specs.Symbols.{Symbol, Slot, Of, Last, Pointed, Direct, Grouped, right_side}
use Rattle.p9_grammar.specs.Scopes.{Scope}
use Rattle.p9_grammar.specs.Grammar.{Sort, Declaration, Function, Block, Statement, Label, sort, Accepts, Formed, Fills, slot_class}
use Rattle.p9_sound.specs.Automatics.{declares, HasNone, HaveNone, IsStatement, AreStatements}
use Rattle.p9_formed.proofs.Trees.{syntax, syntaxes}
use Rattle.p9_formed.proofs.Slots.{pass, false_true, Next, next_part}
use Rattle.p9_formed.proofs.Places.{is_calm, is_calm_class, is_inner, is_inner_class, holds_statements, places_are_calm, places_are_inner}
use Rattle.p9_formed.proofs.Functions.{inner_of_slot, no_inner_function}

-- Calm trees

-- no statement, declaration, function or label
abbrev pub is_calm_sort : Sort → Bool
is_calm_sort Declaration = false
is_calm_sort Function = false
is_calm_sort Block = false
is_calm_sort Statement = false
is_calm_sort Label = false
is_calm_sort s = true

calm_of_slot : (c : Class) (slot : Slot) → is_calm slot ≡ true → is_calm_class (slot_class c slot) ≡ true
calm_of_slot c (Of d) p = p
calm_of_slot c Last p = absurd (false_true p)
calm_of_slot c Pointed p = refl
calm_of_slot c Direct p = refl
calm_of_slot c Grouped p = refl

-- a calm class accepts calm nodes alone
calm_accepts : (c : Class) (s : Sort) → is_calm_class c ≡ true → Accepts c s → is_calm_sort s ≡ true
calm_accepts class.FileItem s p a = absurd (false_true p)
calm_accepts class.HeadItem s p a = absurd (false_true p)
calm_accepts class.BlockItem s p a = absurd (false_true p)
calm_accepts (class.Statement may) s p a = absurd (false_true p)
calm_accepts class.SwitchItem s p a = absurd (false_true p)
calm_accepts class.Body s p a = absurd (false_true p)
calm_accepts c Declaration p a = absurd a
calm_accepts c Function p a = absurd a
calm_accepts c Block p a = absurd a
calm_accepts c Statement p a = absurd a
calm_accepts c Label p a = absurd a
calm_accepts c s p a = refl

-- they declare nothing, and hold no statements
calm_kind : (k : Kind) → is_calm_sort (sort k) ≡ true → (holds_statements k ≡ false) × (declares k ≡ false)
calm_kind (kind.Declaration spec inits) p = absurd (false_true p)
calm_kind (kind.Function spec) p = absurd (false_true p)
calm_kind kind.Block p = absurd (false_true p)
calm_kind kind.If p = absurd (false_true p)
calm_kind kind.While p = absurd (false_true p)
calm_kind kind.Do p = absurd (false_true p)
calm_kind (kind.For first test step) p = absurd (false_true p)
calm_kind kind.Switch p = absurd (false_true p)
calm_kind k p = (refl, refl)

mutual
  tree_has_none : (t : Tree) (c : Class) (scope : Scope) (at : ℕ) → is_calm_class c ≡ true → Formed c scope at t → HasNone (syntax t)
  tree_has_none (node k token parts) c scope at p f =
      let calm : (holds_statements k ≡ false) × (declares k ≡ false) = calm_kind k (calm_accepts c (sort k) p f.1) in
      (calm.1, row_has_none parts c (right_side k (count parts)) scope at (places_are_calm k (count parts) calm.0) f.4)

  row_has_none : (ts : Trees) (c : Class) (symbols : List Symbol) (scope : Scope) (at : ℕ) → pass is_calm symbols ≡ true → Fills c symbols scope at ts
      → HaveNone (syntaxes ts)
  row_has_none none c symbols scope at p h = tt
  row_has_none (more t ts) c symbols scope at p h =
      let n : Next is_calm c t ts = next_part is_calm c symbols scope at t ts p h in
      (tree_has_none t (slot_class c n.slot) n.scope n.at (calm_of_slot c n.slot n.passes) n.formed, row_has_none ts c n.left n.behind_scope n.behind_at n.left_pass n.fills)

-- Statements

-- a tree without declarations is in order
mutual
  none_is_statement : (t : Syntax) → HasNone t → IsStatement t
  none_is_statement (typing.node (kind.Declaration spec inits) at parts) h = h.1
  none_is_statement (typing.node kind.Block at parts) h = none_are_statements parts h.1
  none_is_statement (typing.node kind.If at parts) h = none_are_statements parts h.1
  none_is_statement (typing.node kind.While at parts) h = none_are_statements parts h.1
  none_is_statement (typing.node kind.Do at parts) h = none_are_statements parts h.1
  none_is_statement (typing.node (kind.For first test step) at parts) h = none_are_statements parts h.1
  none_is_statement (typing.node kind.Switch at parts) h = none_are_statements parts h.1
  none_is_statement (typing.node k at parts) h = h

  none_are_statements : (ts : SyntaxRow) → HaveNone ts → AreStatements ts
  none_are_statements typing.none h = tt
  none_are_statements (typing.more t ts) h = (none_is_statement t h.0, none_are_statements ts h.1)

mutual
  tree_is_statement : (t : Tree) (c : Class) (scope : Scope) (at : ℕ) → is_inner_class c ≡ true → Formed c scope at t → IsStatement (syntax t)
  tree_is_statement (node (kind.Declaration spec inits) token parts) c scope at p f =
      row_has_none parts c (right_side (kind.Declaration spec inits) (count parts)) scope at (places_are_calm (kind.Declaration spec inits) (count parts) refl) f.4
  tree_is_statement (node (kind.Function spec) token parts) c scope at p f = absurd (no_inner_function c p f.1)
  tree_is_statement (node kind.Block token parts) c scope at p f =
      row_are_statements parts c (right_side kind.Block (count parts)) scope at (places_are_inner kind.Block (count parts)) f.4
  tree_is_statement (node kind.If token parts) c scope at p f =
      row_are_statements parts c (right_side kind.If (count parts)) scope at (places_are_inner kind.If (count parts)) f.4
  tree_is_statement (node kind.While token parts) c scope at p f =
      row_are_statements parts c (right_side kind.While (count parts)) scope at (places_are_inner kind.While (count parts)) f.4
  tree_is_statement (node kind.Do token parts) c scope at p f =
      row_are_statements parts c (right_side kind.Do (count parts)) scope at (places_are_inner kind.Do (count parts)) f.4
  tree_is_statement (node (kind.For first test step) token parts) c scope at p f =
      row_are_statements parts c (right_side (kind.For first test step) (count parts)) scope at (places_are_inner (kind.For first test step) (count parts)) f.4
  tree_is_statement (node kind.Switch token parts) c scope at p f =
      row_are_statements parts c (right_side kind.Switch (count parts)) scope at (places_are_inner kind.Switch (count parts)) f.4
  tree_is_statement (node k token parts) c scope at p f =
      none_is_statement (typing.node k token (syntaxes parts))
      (refl, row_has_none parts c (right_side k (count parts)) scope at (places_are_calm k (count parts) refl) f.4)

  row_are_statements : (ts : Trees) (c : Class) (symbols : List Symbol) (scope : Scope) (at : ℕ) → pass is_inner symbols ≡ true → Fills c symbols scope at ts
      → AreStatements (syntaxes ts)
  row_are_statements none c symbols scope at p h = tt
  row_are_statements (more t ts) c symbols scope at p h =
      let n : Next is_inner c t ts = next_part is_inner c symbols scope at t ts p h in
      (tree_is_statement t (slot_class c n.slot) n.scope n.at (inner_of_slot c n.slot n.passes) n.formed, row_are_statements ts c n.left n.behind_scope n.behind_at n.left_pass n.fills)

-- so the parts of each node of a file
pub parts_are_statements : (k : Kind) (parts : Trees) (c : Class) (scope : Scope) (at : ℕ) → Fills c (right_side k (count parts)) scope at parts
    → AreStatements (syntaxes parts)
parts_are_statements k parts c scope at h = row_are_statements parts c (right_side k (count parts)) scope at (places_are_inner k (count parts)) h
