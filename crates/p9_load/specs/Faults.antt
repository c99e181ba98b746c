-- The refusals of each part of loading, as refusals of the whole.
use Rattle.p9_names.specs.declared.table.LinkFault.{LinkFault}
use Rattle.p9_place.specs.declared.placing.PlaceFault.{PlaceFault}
use Rattle.p9_text.specs.declared.weighing.ExpandFault.{ExpandFault}
use Rattle.p9_load.specs.declared.fault.LoadFault.{LoadFault}

abbrev pub of_link : LinkFault → LoadFault
of_link (LinkFault.Twice name i j) = LoadFault.Twice name i j
of_link LinkFault.NoMain = LoadFault.NoMain
of_link (LinkFault.MainType i) = LoadFault.MainType i
of_link (LinkFault.Unresolved name i) = LoadFault.Unresolved name i
of_link (LinkFault.Disagree name i j) = LoadFault.Disagree name i j
of_link LinkFault.Memory = LoadFault.Memory

abbrev pub of_place : PlaceFault → LoadFault
of_place (PlaceFault.DataTooLarge bytes) = LoadFault.DataTooLarge bytes
of_place PlaceFault.Memory = LoadFault.Memory

abbrev pub of_expand : ExpandFault → LoadFault
of_expand (ExpandFault.TextTooLarge words) = LoadFault.TextTooLarge words
of_expand ExpandFault.Memory = LoadFault.Memory
