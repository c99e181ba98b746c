-- What comes of a node that is read.
use Rattle.std.proofs.Common.{◌≡◌, ℕ, true, List, ◌∷◌, Option, Some, refl}
use Rattle.p9_lang.specs.declared.tree.Kind.TheVariants as kind
use Rattle.p9_grammar.specs.declared.terminal.Terminal.{Terminal}
use Rattle.p9_grammar.specs.Trees.{Tree, node, push}
use Rattle.p9_grammar.specs.Scopes.{Scope, Told, nothing}
use Rattle.p9_grammar.specs.Machine as machine
use Rattle.p9_tree_moves.specs.Moves.{is_text}
use Rattle.p9_tree_reader.specs.Reading.{settled, goes_on, longer}

pub attach_goes_on : (f : machine.Frame) (s : machine.Stack) (n : machine.Read) (scope : Scope) (at : ℕ) (token : Terminal) (a : machine.After) →
    machine.attach f s n scope at token (settled s at token) a
    ≡ goes_on a f.from (push f.parts n.tree) (machine.retold f.head f.told n.told) s scope at token
attach_goes_on f s n scope at token (machine.To h) = refl
attach_goes_on f s n scope at token (machine.Makes k) = refl
attach_goes_on f s n scope at token machine.Unwanted = refl

longer_by : (f : machine.Frame) (s : machine.Stack) (t : Tree) (told : Told) (scope : Scope) (at : ℕ) (next : Option machine.State) (x : List ℕ) → is_text t ≡ true →
    machine.joining f s (record { tree = t; told = told }) scope at next (machine.lengthen t x)
    ≡ machine.to (f ∷ s) scope at (Some (record { tree = longer t x; told = nothing }))
longer_by f s (node (kind.Text pieces) from parts) told scope at next x e = refl
longer_by f s (node _ from parts) told scope at next x e = absurd (cc)

pub longer_settles : (f : machine.Frame) (s : machine.Stack) (n : machine.Read) (scope : Scope) (at : ℕ) (next : Option machine.State) (x : List ℕ) → is_text n.tree ≡ true →
    machine.joining f s n scope at next (machine.lengthen n.tree x)
    ≡ machine.to (f ∷ s) scope at (Some (record { tree = longer n.tree x; told = nothing }))
longer_settles f s n scope at next x e = longer_by f s n.tree n.told scope at next x e
