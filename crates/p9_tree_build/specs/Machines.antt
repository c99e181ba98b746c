-- The reader's values as those of the grammar's machine.
use Rattle.std.specs.Prelude.{Bool, false, List, [], ◌∷◌}
use Rattle.p9_grammar.specs.Trees.{Trees, none, more, tree_of, trees_of}
use Rattle.p9_grammar.specs.Scopes as scopes
use Rattle.p9_grammar.specs.Machine as machine
use Rattle.p9_tree_build.specs.declared.told.Told.{Told}
use Rattle.p9_grammar.specs.declared.head.Head.{Head}
use Rattle.p9_tree_build.specs.declared.frame.Body.{Body}
use Rattle.p9_tree_build.specs.declared.frame.Frame.{Frame}
use Rattle.p9_tree_build.specs.declared.frame.Read.{Read}

abbrev pub told_of : Told → scopes.Told
told_of t = record { name = t.name; level = t.level }

-- whether the first of the nodes is a name, maybe in parentheses
abbrev pub is_next_to_name : Trees → Bool
is_next_to_name none = false
is_next_to_name (more n ns) = scopes.is_name n

abbrev pub read_of : Read → machine.Read
read_of r = record { tree = tree_of r.whole.node; told = told_of r.told }

-- an open node that has come so far
abbrev pub frame_at : Head → Body → machine.Frame
frame_at h b = record { head = h; from = b.from; parts = trees_of b.row.list; told = told_of b.told }

abbrev pub frame_of : Frame → machine.Frame
frame_of f = frame_at f.head f.body

abbrev pub stack_of : List Frame → machine.Stack
stack_of [] = []
stack_of (f ∷ fs) = frame_of f ∷ stack_of fs

-- what a star tells, by what stands behind it
abbrev pub through_star : Trees → scopes.Told → scopes.Told
through_star none told = scopes.nothing
through_star (more n ns) told = told
