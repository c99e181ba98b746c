-- Roles, contexts, parts and frames, as the plain data that the definitions of typing speak of.
use Rattle.std.specs.Prelude.{ℕ, List, [], ◌∷◌, map, Option, Some, None}
use Rattle.std.specs.Option.{option_map}
use Rattle.p9_lang.specs.Types.{TypeTree, type_of, members_of}
use Rattle.p9_lang.specs.Rules as rules
use Rattle.p9_lang.specs.Parts as parts
use Rattle.p9_operand.specs.declared.rule.Rule.{Rule}
use Rattle.p9_operand.specs.Told.{told_rule, told_constant, told_operand}
use Rattle.p9_declare.specs.Told.{told_storage, steps_of, type_in}
use Rattle.p9_parts.specs.declared.role.Role.{Role}
use Rattle.p9_parts.specs.declared.role.Role.TheVariants as role
use Rattle.p9_parts.specs.declared.role.Context.{Context}
use Rattle.p9_parts.specs.declared.part.Initialiser.{Initialiser}
use Rattle.p9_parts.specs.declared.part.Initialiser.TheVariants as initialiser
use Rattle.p9_parts.specs.declared.part.Part.{Part}
use Rattle.p9_parts.specs.declared.part.Part.TheVariants as part
use Rattle.p9_parts.specs.declared.part.Frame.{Frame}

-- a role in braces speaks of the names that stand there so far
abbrev pub role_of : (names : List (List ℕ)) → Role → parts.Role
role_of names role.Plain = parts.Plain
role_of names role.Whole = parts.Whole
role_of names (role.Declares is_block_static heads_body) = parts.Declares is_block_static heads_body
role_of names (role.ParameterOf is_own number) = parts.ParameterOf is_own number
role_of names role.InBraces = parts.InBraces names
role_of names (role.EntryOf list next) = parts.EntryOf (type_in list) next
role_of names (role.Fills type) = parts.Fills (type_of type)
role_of names (role.Assigns type) = parts.Assigns (type_of type)
role_of names role.Outside = parts.Outside

abbrev pub context_of : (names : List (List ℕ)) → Context → parts.Context
context_of names c = record {
  is_in_loop = c.is_in_loop;
  is_in_switch = c.is_in_switch;
  result = type_in c.result;
  role = role_of names c.role;
}

abbrev pub initialiser_of : Initialiser → TypeTree → parts.Role
initialiser_of initialiser.Nothing type = parts.Plain
initialiser_of initialiser.First type = parts.Fills type
initialiser_of initialiser.Assigned type = parts.Assigns type

abbrev pub part_of : Part → parts.Part
part_of (part.Value operand) = parts.Value (told_operand operand)
part_of (part.Declarator steps) = parts.Declarator (steps_of steps.items)
part_of (part.Object type steps last initialiser) =
    parts.Object (type_of type) (steps_of steps.items) last (initialiser_of initialiser (type_of type))
part_of (part.Members members) = parts.Members (members_of members)
part_of (part.Enumerator name value) = parts.Enumerator name (option_map told_constant value)
part_of (part.Parameter type) = parts.Parameter (type_of type)
part_of (part.NamedType type) = parts.NamedType (type_of type)
part_of (part.Braced count) = parts.Braced count
part_of (part.Filled next) = parts.Filled next
part_of (part.CaseLabel word) = parts.CaseLabel word
part_of part.DefaultLabel = parts.DefaultLabel
part_of part.Statement = parts.Statement

abbrev pub parts_of : List Part → List parts.Part
parts_of list = map part_of list

abbrev pub rules_of : Option Rule → List rules.Rule
rules_of None = []
rules_of (Some rule) = told_rule rule ∷ []

abbrev pub frame_of : (names : List (List ℕ)) → Frame → parts.Frame
frame_of names f = record {
  context = context_of names f.context;
  base = type_of f.base;
  tag = f.tag;
  braces = f.braces;
  storage = told_storage f.storage;
  rules = rules_of f.rule;
}
