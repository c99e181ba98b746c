-- Parts of nodes by how many there are.
use Rattle.std.specs.Prelude.{Bool, true, false, Option, Some, None}
use Rattle.p9_lang.specs.declared.module.Module.{Module}
use Rattle.p9_lang.specs.Trees.{none, more}
use Rattle.p9_lang.specs.Modules.{Typed, TypedRow}
use Rattle.p9_nodes.specs.declared.nodes.TypedNode.{TypedNode}
use Rattle.p9_nodes.specs.Nodes.{node_in}

abbrev pub is_none : TypedRow → Bool
is_none none = true
is_none (more first others) = false

abbrev pub the_one : TypedRow → Option Typed
the_one none = None
the_one (more a none) = Some a
the_one (more a (more b others)) = None

abbrev pub the_two : TypedRow → Option (Typed × Typed)
the_two none = None
the_two (more a none) = None
the_two (more a (more b none)) = Some (a, b)
the_two (more a (more b (more c others))) = None

abbrev pub the_three : TypedRow → Option (Typed × Typed × Typed)
the_three none = None
the_three (more a none) = None
the_three (more a (more b none)) = None
the_three (more a (more b (more c none))) = Some (a, b, c)
the_three (more a (more b (more c (more d others)))) = None

-- such parts of the program

abbrev pub told_one : Module → Option TypedNode → Option Typed
told_one m None = None
told_one m (Some a) = Some (node_in m a)

abbrev pub told_two : Module → Option (TypedNode × TypedNode) → Option (Typed × Typed)
told_two m None = None
told_two m (Some p) = Some (node_in m p.0, node_in m p.1)

abbrev pub told_three : Module → Option (TypedNode × TypedNode × TypedNode) → Option (Typed × Typed × Typed)
told_three m None = None
told_three m (Some p) = Some (node_in m p.0, node_in m p.1, node_in m p.2)
