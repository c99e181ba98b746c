-- Functions are items: none stands within another item.
use Rattle.std.proofs.Common.{◌≡◌, ℕ, true, false, List, refl, subst}
use Rattle.p9_lang.specs.declared.tree.Kind.{Kind}
use Rattle.p9_lang.specs.declared.tree.Kind.TheVariants as kind
use Rattle.p9_grammar.specs.declared.head.Class.{Class}
use Rattle.p9_grammar.specs.declared.head.Class.TheVariants as class
use Rattle.p9_grammar.specs.Trees.{Tree, node, Trees, none, more, count, trees_of}
use Rattle.p9_grammar.specs.Symbols.{Symbol, Slot, Of, Last, Pointed, Direct, Grouped, right_side, file_symbols}
use Rattle.p9_grammar.specs.Scopes.{Scope}
use Rattle.p9_grammar.specs.Grammar.{Function, sort, Accepts, Formed, Fills, slot_class}
use Rattle.p9_grammar.specs.Promise.{file_scope}
use Rattle.p9_formed.specs.Functions.{is_function_node, HasNoFunction, HaveNoFunctions, IsFunctionless, FunctionsAreItems}
use Rattle.p9_formed.specs.Laws.{WellFormedFilesHoldFunctions}
use Rattle.p9_formed.proofs.Trees.{syntax, syntaxes, trees_agree}
use Rattle.p9_formed.proofs.Slots.{pass, Next, next_part, any, all_pass}
use Rattle.p9_formed.proofs.Places.{is_inner, is_inner_class, places_are_inner}

-- only an item of the file has the class of one
pub inner_of_slot : (c : Class) (slot : Slot) → is_inner slot ≡ true → is_inner_class (slot_class c slot) ≡ true
inner_of_slot c (Of d) p = p
inner_of_slot c Last p = refl
inner_of_slot c Pointed p = refl
inner_of_slot c Direct p = refl
inner_of_slot c Grouped p = refl

-- functions are accepted as items of the file alone
pub no_inner_function : (c : Class) → is_inner_class c ≡ true → Accepts c Function → ⊥
no_inner_function class.FileItem p a = cc
no_inner_function c p a = a

not_function : (c : Class) (k : Kind) → is_inner_class c ≡ true → Accepts c (sort k) → is_function_node k ≡ false
not_function c (kind.Function spec) p a = absurd (no_inner_function c p a)
not_function c k p a = refl

mutual
  tree_has_none : (t : Tree) (c : Class) (scope : Scope) (at : ℕ) → is_inner_class c ≡ true → Formed c scope at t → HasNoFunction (syntax t)
  tree_has_none (node k token parts) c scope at p f =
      (not_function c k p f.1, row_has_none parts c (right_side k (count parts)) scope at (places_are_inner k (count parts)) f.4)

  row_has_none : (ts : Trees) (c : Class) (symbols : List Symbol) (scope : Scope) (at : ℕ) → pass is_inner symbols ≡ true → Fills c symbols scope at ts
      → HaveNoFunctions (syntaxes ts)
  row_has_none none c symbols scope at p h = tt
  row_has_none (more t ts) c symbols scope at p h =
      let n : Next is_inner c t ts = next_part is_inner c symbols scope at t ts p h in
      (tree_has_none t (slot_class c n.slot) n.scope n.at (inner_of_slot c n.slot n.passes) n.formed, row_has_none ts c n.left n.behind_scope n.behind_at n.left_pass n.fills)

-- an item of the file may be a function itself
item_holds_none : (t : Tree) (c : Class) (scope : Scope) (at : ℕ) → Formed c scope at t → IsFunctionless (syntax t)
item_holds_none (node k token parts) c scope at f = row_has_none parts c (right_side k (count parts)) scope at (places_are_inner k (count parts)) f.4

items_hold_none : (ts : Trees) (c : Class) (symbols : List Symbol) (scope : Scope) (at : ℕ) → Fills c symbols scope at ts → FunctionsAreItems (syntaxes ts)
items_hold_none none c symbols scope at h = tt
items_hold_none (more t ts) c symbols scope at h =
    let n : Next any c t ts = next_part any c symbols scope at t ts (all_pass symbols) h in
    (item_holds_none t (slot_class c n.slot) n.scope n.at n.formed, items_hold_none ts c n.left n.behind_scope n.behind_at n.fills)

pub well_formed_files_hold_functions : WellFormedFilesHoldFunctions
well_formed_files_hold_functions items h =
    subst FunctionsAreItems (trees_agree items) (items_hold_none (trees_of items) class.Body (file_symbols (count (trees_of items))) file_scope 0 h)
