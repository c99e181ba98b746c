-- What declarators declare, as it is read from the program's nodes.
use Rattle.std.specs.Prelude.{Option, Some, None}
use Rattle.p9_lang.specs.Modules.{Label}
use Rattle.p9_nodes.specs.declared.nodes.TypedNode.{TypedNode}
use Rattle.p9_nodes.specs.Nodes.{label_of}

abbrev pub told_label : Option TypedNode → Option Label
told_label None = None
told_label (Some n) = Some (label_of n)
