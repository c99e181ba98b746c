-- Nodes of well-formed files are made: numbers, characters and names have no parts, and an `op=` has one of its
-- operators.
use Rattle.std.proofs.Common.{◌≡◌, ℕ, true, List, Some, refl, subst}
use Rattle.p9_lang.specs.declared.tree.CBinary.{CBinary}
use Rattle.p9_lang.specs.declared.tree.CBinary.TheVariants as operator
use Rattle.p9_lang.specs.declared.tree.Kind.{Kind}
use Rattle.p9_lang.specs.declared.tree.Kind.TheVariants as kind
use Rattle.p9_grammar.specs.declared.head.Class.{Class}
use Rattle.p9_grammar.specs.declared.head.Class.TheVariants as class
use Rattle.p9_grammar.specs.Trees.{Tree, node, Trees, none, more, count, trees_of}
use Rattle.p9_grammar.specs.Symbols.{Symbol, right_side, file_symbols}
use Rattle.p9_grammar.specs.Scopes.{Scope}
use Rattle.p9_grammar.specs.Grammar.{Asks, Formed, Fills, slot_class, is_assignable}
use Rattle.p9_grammar.specs.Promise.{file_scope}
use Rattle.p9_lower.specs.Verdicts.{is_assigning}
use Rattle.p9_sound.specs.Made.{NodeIsMade, IsMade, AreMade}
use Rattle.p9_formed.specs.Laws.{WellFormedFilesAreMade}
use Rattle.p9_formed.proofs.Trees.{syntax, syntaxes, trees_agree}
use Rattle.p9_formed.proofs.Slots.{any, all_pass, Next, next_part}

assigning : (op : CBinary) → is_assignable (Some op) ≡ true → is_assigning op ≡ true
assigning operator.Lt h = h
assigning operator.Gt h = h
assigning operator.Le h = h
assigning operator.Ge h = h
assigning operator.Eq h = h
assigning operator.Ne h = h
assigning operator.AndAnd h = h
assigning operator.OrOr h = h
assigning op h = refl

-- by what a kind asks and by its places
node_made : (k : Kind) (parts : Trees) (c : Class) (scope : Scope) (at : ℕ) → Asks scope k (count parts) → Fills c (right_side k (count parts)) scope at parts
    → NodeIsMade k (syntaxes parts)
node_made (kind.Name x) none c scope at a f = refl
node_made (kind.Name x) (more t ts) c scope at a f = absurd f
node_made (kind.Number value unsigned long) none c scope at a f = refl
node_made (kind.Number value unsigned long) (more t ts) c scope at a f = absurd f
node_made (kind.Character value) none c scope at a f = refl
node_made (kind.Character value) (more t ts) c scope at a f = absurd f
node_made (kind.Assign (Some op)) parts c scope at a f = assigning op a
node_made k parts c scope at a f = tt

mutual
  tree_made : (t : Tree) (c : Class) (scope : Scope) (at : ℕ) → Formed c scope at t → IsMade (syntax t)
  tree_made (node k token parts) c scope at f =
      (node_made k parts c scope at f.3 f.4, row_made parts c (right_side k (count parts)) scope at f.4)

  row_made : (ts : Trees) (c : Class) (symbols : List Symbol) (scope : Scope) (at : ℕ) → Fills c symbols scope at ts → AreMade (syntaxes ts)
  row_made none c symbols scope at h = tt
  row_made (more t ts) c symbols scope at h =
      let n : Next any c t ts = next_part any c symbols scope at t ts (all_pass symbols) h in
      (tree_made t (slot_class c n.slot) n.scope n.at n.formed, row_made ts c n.left n.behind_scope n.behind_at n.fills)

pub well_formed_files_are_made : WellFormedFilesAreMade
well_formed_files_are_made items h =
    subst AreMade (trees_agree items) (row_made (trees_of items) class.Body (file_symbols (count (trees_of items))) file_scope 0 h)
