-- The reader as the grammar's machine.
use Rattle.std.specs.Prelude.{◌≡◌, ℕ, List, [], ◌∷◌, ◌++◌, Bool, true, false, Option, Some, None, Result, Ok, Err, ⊤}
use Rattle.p9_lang.specs.declared.tree.Kind.{Kind}
use Rattle.p9_lang.specs.declared.tree.Kind.TheVariants as kind
use Rattle.p9_grammar.specs.declared.terminal.Terminal.{Terminal}
use Rattle.p9_grammar.specs.declared.head.Head.{Head}
use Rattle.p9_grammar.specs.Trees.{Tree, node, Trees, none}
use Rattle.p9_grammar.specs.Scopes.{Scope}
use Rattle.p9_grammar.specs.Scopes as scopes
use Rattle.p9_grammar.specs.Machine as machine
use Rattle.p9_tree_build.specs.declared.frame.Frame.{Frame}
use Rattle.p9_tree_build.specs.declared.frame.Read.{Read}
use Rattle.p9_tree_build.specs.declared.frame.Body.{Body}
use Rattle.p9_tree_build.specs.Machines.{told_of, frame_at, read_of, stack_of}
use Rattle.p9_tree_reader.specs.declared.reader.Reader.{Reader}
use Rattle.p9_tree_reader.specs.declared.reader.ReadFault.{ReadFault}
use Rattle.p9_tree_reader.specs.declared.reader.ReadFault.TheVariants as fault

abbrev pub last_of : Option Read → Option machine.Read
last_of None = None
last_of (Some r) = Some (read_of r)

abbrev pub state_of : Reader → machine.State
state_of r = machine.state (stack_of r.stack) r.scope.levels r.at (last_of r.last)

-- A step is the machine's, unless memory ends.
abbrev pub Steps : {A : Type 0} → Option machine.State → Result A ReadFault → machine.State → Type 0
Steps r (Ok x) st = r ≡ Some st
Steps r (Err fault.Refused) st = r ≡ None
Steps r (Err fault.Memory) st = ⊤

-- The machine settles a node over this stack.
abbrev pub settled : machine.Stack → ℕ → Terminal → machine.Read → Scope → Option machine.State
settled s at token = λ n scope. machine.settle s n scope at token

-- A step is the machine's, up to a node that is over and is still to be settled.
abbrev pub Continues : Option machine.State → Result (Option Read) ReadFault → machine.State → Terminal → Type 0
Continues r (Ok None) st token = r ≡ Some st
Continues r (Ok (Some n)) st token = r ≡ machine.settle st.stack (read_of n) st.scope st.at token
Continues r (Err fault.Refused) st token = r ≡ None
Continues r (Err fault.Memory) st token = ⊤

-- Where a node is still to be settled, the stack is the same.
abbrev pub KeepsStack : Result (Option Read) ReadFault → List Frame → List Frame → Type 0
KeepsStack (Ok (Some n)) old new = new ≡ old
KeepsStack _ old new = ⊤

-- a part begins in an open node that has come so far
abbrev pub opened_by : Head → Body → machine.Stack → Scope → ℕ → Terminal → Option machine.State
opened_by h b s scope at token =
    machine.opening (frame_at h b ∷ s) (machine.opens h (told_of b.told) scope) at token
    (machine.begin (machine.opens h (told_of b.told) scope) (machine.wanted h) token)

-- a text with one more piece
abbrev pub longer : Tree → (bytes : List ℕ) → Tree
longer (node (kind.Text pieces) at parts) bytes = node (kind.Text (pieces ++ bytes ∷ [])) at none
longer n bytes = n

abbrev pub is_text_kind : Kind → Bool
is_text_kind (kind.Text pieces) = true
is_text_kind _ = false

abbrev pub longer_kind : Kind → (bytes : List ℕ) → Kind
longer_kind (kind.Text pieces) bytes = kind.Text (pieces ++ bytes ∷ [])
longer_kind k bytes = k

-- What comes of an open node with one more part, by what the part makes of it.
abbrev pub goes_on : machine.After → (from : ℕ) → Trees → scopes.Told → machine.Stack → Scope → ℕ → Terminal → Option machine.State
goes_on (machine.To h) from parts told s scope at token = machine.feed (record { head = h; from = from; parts = parts; told = told } ∷ s) scope at token
goes_on (machine.Makes k) from parts told s scope at token = machine.settle s (machine.made k from parts told scope) (scopes.leave k scope) at token
goes_on machine.Unwanted from parts told s scope at token = None

-- What comes of a node that is read and is no part of an operator that follows.
abbrev pub attaches : machine.Frame → machine.Stack → machine.Read → Scope → ℕ → Terminal → Option machine.State
attaches f s n scope at token = machine.attach f s n scope at token (settled s at token) (machine.attached f.head n.tree)

-- What comes of a node that is read, by what the token makes of it.
abbrev pub settles : machine.Join → machine.Frame → machine.Stack → machine.Read → Scope → ℕ → Terminal → Option machine.State
settles j f s n scope at token = machine.joining f s n scope at (attaches f s n (scopes.add (machine.role f.head) n.told scope) at token) j

-- What is open is known, unless memory ends.
abbrev pub Decides : machine.State → Result Frame ReadFault → Reader → Type 0
Decides st (Ok f) r = st ≡ machine.state (frame_at f.head f.body ∷ stack_of r.stack) r.scope.levels r.at None
Decides st (Err fault.Refused) r = ⊥
Decides st (Err fault.Memory) r = ⊤
