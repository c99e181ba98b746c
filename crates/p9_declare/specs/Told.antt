-- Specs, declarators and what is declared, as the plain data that the definitions of typing speak of.
use Rattle.std.specs.Prelude.{List, map, Option, Some, None}
use Rattle.std.specs.Option.{option_map}
use Rattle.p9_lang.specs.declared.types.CType.{CType}
use Rattle.p9_lang.specs.Types.{TypeTree, type_of, types_of, type_row}
use Rattle.p9_lang.specs.Rules as rules
use Rattle.p9_lang.specs.Declarators as declarators
use Rattle.p9_operand.specs.Told.{told_rule, told_constant}
use Rattle.p9_scopes.specs.Seen.{level_of}
use Rattle.p9_declare.specs.declared.head.Head.{Head}
use Rattle.p9_declare.specs.declared.head.Head.TheVariants as head
use Rattle.p9_declare.specs.declared.head.Said.{Said}
use Rattle.p9_declare.specs.declared.storage.Storage.{Storage}
use Rattle.p9_declare.specs.declared.storage.Storage.TheVariants as storage
use Rattle.p9_declare.specs.declared.storage.Declaring.{Declaring}
use Rattle.p9_declare.specs.declared.steps.Shape.{Shape}
use Rattle.p9_declare.specs.declared.steps.Shape.TheVariants as shape
use Rattle.p9_declare.specs.declared.steps.Step.{Step}
use Rattle.p9_declare.specs.declared.steps.NameNode.{NameNode}
use Rattle.p9_declare.specs.declared.shaping.LengthBy.{LengthBy}
use Rattle.p9_declare.specs.declared.shaping.LengthBy.TheVariants as length_by
use Rattle.p9_declare.specs.declared.fault.TypingFault.{TypingFault}
use Rattle.p9_declare.specs.declared.fault.TypingFault.TheVariants as fault

abbrev pub told_head : Head → declarators.Head
told_head (head.Words type) = declarators.Words (type_of type)
told_head (head.Named name) = declarators.Named name.now
told_head (head.Structure is_union name members) = declarators.Structure is_union name.now members
told_head (head.Enumeration name constants) = declarators.Enumeration name.now constants

abbrev pub told_said : Said → declarators.Said
told_said s = record {
  is_void = s.is_void;
  is_char = s.is_char;
  is_short = s.is_short;
  is_long = s.is_long;
  is_unsigned = s.is_unsigned;
}

abbrev pub told_storage : Storage → declarators.Storage
told_storage storage.NoClass = declarators.NoClass
told_storage storage.ExternClass = declarators.ExternClass
told_storage storage.StaticClass = declarators.StaticClass
told_storage storage.TypedefClass = declarators.TypedefClass

abbrev pub told_declaring : Declaring → declarators.Declaring
told_declaring d = record {
  storage = told_storage d.storage;
  is_at_file = d.is_at_file;
  has_initialiser = d.has_initialiser;
  has_body = d.has_body;
}

abbrev pub told_shape : Shape → declarators.Shape
told_shape (shape.Names name) = declarators.Names name
told_shape shape.Keeps = declarators.Keeps
told_shape shape.Points = declarators.Points
told_shape (shape.Sized length) = declarators.Sized (told_constant length)
told_shape shape.Unsized = declarators.Unsized
told_shape (shape.Takes parameters level) = declarators.Takes (type_row (types_of parameters)) (level_of level)

abbrev pub told_step : Step → declarators.Step
told_step s = record { number = s.number; shape = told_shape s.shape }

abbrev pub steps_of : List Step → List declarators.Step
steps_of steps = map told_step steps

abbrev pub told_by : LengthBy → declarators.LengthBy
told_by length_by.ByNothing = declarators.ByNothing
told_by length_by.ByBraces = declarators.ByBraces
told_by length_by.ByText = declarators.ByText
told_by length_by.ByCaller = declarators.ByCaller

abbrev pub told_fault : TypingFault → Option rules.Broken
told_fault (fault.Broken node rule) = Some (rules.at_node node (told_rule rule))
told_fault fault.Memory = None

abbrev pub type_in : Option CType → Option TypeTree
type_in type = option_map type_of type

abbrev pub told_name : NameNode → declarators.NameNode
told_name n = record { name = n.name.now; number = n.number }
