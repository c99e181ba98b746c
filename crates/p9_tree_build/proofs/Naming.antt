-- Whether a declarator is a name, by its kind.
use Rattle.std.proofs.Common.{◌≡◌, ℕ, ◌<◌, ◌≤◌, Bool, true, false, List, [], ◌∷◌, length, slice_index_or, refl, sym, ap, ◌∙◌, arith}
use Rattle.p9_lang.specs.declared.tree.Kind.{Kind}
use Rattle.p9_lang.specs.declared.tree.Kind.TheVariants as kind
use Rattle.p9_lang.specs.declared.tree.Node.{Node, out-Node}
use Rattle.p9_grammar.specs.Trees.{node, Trees, none, more, tree_of, trees_of}
use Rattle.p9_grammar.specs.Scopes.{is_name, Told, Level, listing, tells}
use Rattle.p9_tree_build.specs.Machines.{is_next_to_name, through_star}
use Rattle.p9_grammar.proofs.Nodes.{tree_of-out}

named_by : (n : Node) (k : Kind) → (out-Node n).kind ≡ k → is_name (tree_of n) ≡ is_name (node k (out-Node n).token (trees_of (out-Node n).parts))
named_by n k e = ap is_name (tree_of-out n) ∙ ap (λ j. is_name (node j (out-Node n).token (trees_of (out-Node n).parts))) e

pub name_found : (n : Node) (x : List ℕ) → (out-Node n).kind ≡ kind.DeclName x → is_name (tree_of n) ≡ true
name_found n x e = named_by n (kind.DeclName x) e

in_parens : (parts : List Node) (first : Node) → 1 ≤ length parts → first ≡ slice_index_or parts 0 first →
    is_name (node kind.DeclParens 0 (trees_of parts)) ≡ is_name (tree_of first)
in_parens [] first h e = absurd (omega arith)
in_parens (n ∷ ns) first h e = ap (λ m. is_name (tree_of m)) (sym e)

pub name_inside : (n first : Node) (parts : List Node) → (out-Node n).kind ≡ kind.DeclParens → parts ≡ (out-Node n).parts → 1 ≤ length parts → first ≡ slice_index_or parts 0 first →
    is_name (tree_of n) ≡ is_name (tree_of first)
name_inside n first parts e f h g =
    named_by n kind.DeclParens e ∙ ap (λ ps. is_name (node kind.DeclParens 0 (trees_of ps))) (sym f) ∙ in_parens parts first h g

no_name : (parts : List Node) → length parts < 1 → is_name (node kind.DeclParens 0 (trees_of parts)) ≡ false
no_name [] h = refl
no_name (n ∷ ns) h = absurd (omega arith)

pub name_absent : (n : Node) (parts : List Node) → (out-Node n).kind ≡ kind.DeclParens → parts ≡ (out-Node n).parts → length parts < 1 → is_name (tree_of n) ≡ false
name_absent n parts e f h = named_by n kind.DeclParens e ∙ ap (λ ps. is_name (node kind.DeclParens 0 (trees_of ps))) (sym f) ∙ no_name parts h

other_kind : (k : Kind) (at : ℕ) (ps : Trees) → ((x : List ℕ) → k ≡ kind.DeclName x → ⊥) → (k ≡ kind.DeclParens → ⊥) → is_name (node k at ps) ≡ false
other_kind (kind.DeclName x) at ps h g = absurd (h x refl)
other_kind kind.DeclParens at ps h g = absurd (g refl)
other_kind _ at ps h g = refl

pub name_other : (n : Node) → ((x : List ℕ) → (out-Node n).kind ≡ kind.DeclName x → ⊥) → ((out-Node n).kind ≡ kind.DeclParens → ⊥) → is_name (tree_of n) ≡ false
name_other n h g = ap is_name (tree_of-out n) ∙ other_kind (out-Node n).kind (out-Node n).token (trees_of (out-Node n).parts) h g

pub listing_next : (ns : Trees) (told : Told) (level : Level) → true ≡ is_next_to_name ns → listing ns told level ≡ record { name = told.name; level = level }
listing_next none told level h = absurd (cc)
listing_next (more n ns) told level h = rw (← h) refl

pub listing_later : (ns : Trees) (told : Told) (level : Level) → false ≡ is_next_to_name ns → listing ns told level ≡ told
listing_later none told level h = refl
listing_later (more n ns) told level h = rw (← h) refl

pub star_tells : (volatiles : List Bool) (ns : Trees) (told : Told) (level : Level) → tells (kind.Star volatiles) ns told level ≡ through_star ns told
star_tells volatiles none told level = refl
star_tells volatiles (more n ns) told level = refl

pub through_more : (ns : List Node) (told : Told) → 1 ≤ length ns → through_star (trees_of ns) told ≡ told
through_more [] told h = absurd (omega arith)
through_more (n ∷ ns) told h = refl
