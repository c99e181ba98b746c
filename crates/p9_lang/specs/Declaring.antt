-- What a part means to the node that it is a part of: declarators that are whole, enumeration
-- constants, members, initialisers, labels.
use Rattle.std.specs.Prelude.{ℕ, zero, suc, ◌+◌, ◌-◌, Bool, true, false, not, ◌&&◌, ◌==◌, if◌then◌else◌, List, [], ◌∷◌, ◌++◌, length, map, slice_get, unwrap_or, Option, Some, None, Result, Ok, Err}
use Rattle.std.specs.List.{list_any}
use Rattle.p9_lang.specs.declared.tree.Kind.{Kind}
use Rattle.p9_lang.specs.declared.tree.Kind.TheVariants as kind
use Rattle.p9_lang.specs.Names.{same_name, is_among}
use Rattle.p9_lang.specs.Trees.{SyntaxRow}
use Rattle.p9_lang.specs.Types.{TypeTree, MemberTree, Void, Int, Array, Function, Tags, Meant, Nothing, Outer, Auto, EnumValue, TypeName, row_types}
use Rattle.p9_lang.specs.Conversions.{is_scalar, same_type}
use Rattle.p9_lang.specs.Constants.{Operand, Constant, NotConstant, Undefined, Null, constant_at}
use Rattle.p9_lang.specs.Constants as constants
use Rattle.p9_lang.specs.Rules.{Rule, Malformed, Redeclared, BadConstant, Misplaced, Broken, at_node, first_of, unless, breaks_if, and_then}
use Rattle.p9_lang.specs.Expressions.{conversion_rules, assigned_rules, is_null, value_type}
use Rattle.p9_lang.specs.Scopes.{Known, Declared, innermost, is_file_level, in_level, declare, open_level, next_node, with_meaning, with_type, complete_tag, around}
use Rattle.p9_lang.specs.Declarators.{is_typedef, is_static, Step, LengthBy, ByNothing, ByCaller, closed, with_length, NameNode, name_of, own_list, adjusted, Declaring, naming_rules, sized_rules, is_filled}
use Rattle.p9_lang.specs.Parts.{Role, Part, Frame, Judged, Follows, follows, length_by, has_initialiser, last_object, object_type, object_role, name_in, object_names, members_in, next_value, Plain, ParameterOf, InBraces, Fills, Assigns, Value, Declarator, Object, Members, Enumerator, Braced, CaseLabel, DefaultLabel}
use Rattle.p9_lang.specs.Entries.{entry_role, is_index_next}

-- WHAT A PART MEANS TO A NODE

-- the number of the last node
abbrev pub last_node : Known → ℕ
last_node s = next_node s - 1

abbrev pub broken_rules : ℕ → List Rule → List Broken
broken_rules number rules = map (at_node number) rules

-- Declarators

-- a closed declarator, with the rules on its name at its last node
abbrev pub named_with : (last : ℕ) → (Option TypeTree → List Rule) → Result (TypeTree × List TypeTree) Broken → Result (TypeTree × List TypeTree) Broken
named_with last rules (Err broken) = Err (first_of broken (broken_rules last (rules None)))
named_with last rules (Ok made) = unless (broken_rules last (rules (Some made.0))) made

-- what a declared name stands for; a block static has its number since its name's node
abbrev pub declared_meaning : Declaring → NameNode → TypeTree → Known → Meant
declared_meaning d n type s =
    if is_typedef d.storage then TypeName type
    else (if d.is_at_file then Outer n.name
    else (if is_static d.storage then unwrap_or (slice_get s.means n.number) Nothing else Auto s.autos))

abbrev pub takes_automatic : Declaring → Bool
takes_automatic d = not (is_typedef d.storage) && (not d.is_at_file && not (is_static d.storage))

abbrev pub declare_as : Declaring → NameNode → TypeTree → Known → Known
declare_as d n type s =
    declare
    (record {
      name = n.name;
      type = type;
      means = declared_meaning d n type s;
      is_static = is_static d.storage;
      is_filled = is_filled d;
    })
    (record (with_meaning n.number (declared_meaning d n type s) s) { autos = if takes_automatic d then s.autos + 1 else s.autos })

abbrev pub initialiser_role : Declaring → TypeTree → Role
initialiser_role d type = if takes_automatic d then Assigns type else Fills type

abbrev pub declare_object : Declaring → LengthBy → TypeTree → List Step → Option NameNode → Known → Judged
declare_object d length_by base steps None s = Err (at_node (last_node s) Malformed)
declare_object d length_by base steps (Some n) s =
    and_then
    (named_with (last_node s) (naming_rules s.tags d n.name (in_level n.name (innermost s.names)))
    (closed s.tags length_by base steps s.types))
    (λ made. Ok (
      Object made.0 steps (last_node s) (initialiser_role d made.0),
      declare_as d n made.0 (record s { types = made.1 }),
    ))

abbrev pub object_declaring : Frame → Follows → Known → Declaring
object_declaring f next s = record {
  storage = f.storage;
  is_at_file = is_file_level s.names;
  has_initialiser = has_initialiser next;
  has_body = false;
}

abbrev pub function_declaring : Frame → Declaring
function_declaring f = record { storage = f.storage; is_at_file = true; has_initialiser = false; has_body = true }

-- the names of the function's own parameters go on round its body
abbrev pub names_of_list : Option (List Declared) → List Declared
names_of_list None = []
names_of_list (Some level) = level

abbrev pub open_body : List Step → Known → Known
open_body steps s = open_level (names_of_list (own_list steps)) s

abbrev pub parameter_count : TypeTree → ℕ
parameter_count (Function result parameters) = length (row_types parameters)
parameter_count type = 0

abbrev pub with_body_open : List Step → Part × Known → Judged
with_body_open steps r =
    Ok (r.0, open_body steps (record r.1 { autos = parameter_count (object_type (Some r.0) Void) }))

-- in one body no two members have the same name
abbrev pub member_rules : Tags → (names : List (List ℕ)) → List ℕ → Option TypeTree → List Rule
member_rules tags names x None = breaks_if (is_among names x) (Redeclared x)
member_rules tags names x (Some type) = breaks_if (is_among names x) (Redeclared x) ++ sized_rules tags type

abbrev pub names_in_braces : Role → List (List ℕ)
names_in_braces (InBraces names) = names
names_in_braces role = []

abbrev pub declare_member : Frame → List Part → List Step → Option NameNode → Known → Judged
declare_member f before steps None s = Err (at_node (last_node s) Malformed)
declare_member f before steps (Some n) s =
    and_then
    (named_with (last_node s) (member_rules s.tags (names_in_braces f.context.role ++ object_names before) n.name)
    (closed s.tags ByNothing f.base steps s.types))
    (λ made. Ok (Object made.0 steps (last_node s) Plain, record s { types = made.1 }))

-- a parameter of a function with a body is an automatic, with its number in the list
abbrev pub parameter_meaning : Role → Meant
parameter_meaning (ParameterOf true number) = Auto number
parameter_meaning role = Nothing

abbrev pub parameter_rules : List ℕ → Option Declared → List Rule
parameter_rules x None = []
parameter_rules x (Some old) = Redeclared x ∷ []

abbrev pub declared_parameter : Frame → NameNode → TypeTree × List TypeTree → Known → Known
declared_parameter f n made s =
    declare
    (record {
      name = n.name;
      type = adjusted made.0;
      means = parameter_meaning f.context.role;
      is_static = false;
      is_filled = false;
    })
    (with_meaning n.number (parameter_meaning f.context.role)
    (with_type n.number (adjusted made.0) (record s { types = made.1 })))

abbrev pub declare_parameter : Frame → List Step → Option NameNode → Known → Judged
declare_parameter f steps None s =
    and_then (closed s.tags ByCaller f.base steps s.types)
    (λ made. Ok (Object (adjusted made.0) steps (last_node s) Plain, record s { types = made.1 }))
declare_parameter f steps (Some n) s =
    and_then
    (named_with (last_node s) (λ type. parameter_rules n.name (in_level n.name (innermost s.names)))
    (closed s.tags ByCaller f.base steps s.types))
    (λ made. Ok (Object (adjusted made.0) steps (last_node s) Plain, declared_parameter f n made s))

abbrev pub close_type : Frame → List Step → Known → Judged
close_type f steps s =
    and_then (closed s.tags ByNothing f.base steps s.types)
    (λ made. Ok (Object made.0 steps (last_node s) Plain, record s { types = made.1 }))

-- a declarator that is whole; within another declarator it goes on
abbrev pub declared : Kind → Frame → List Part → List Step → SyntaxRow → Known → Judged
declared (kind.Declaration spec inits) f before steps rest s =
    declare_object (object_declaring f (follows rest) s) (length_by (follows rest)) f.base steps (name_of steps) s
declared (kind.Function spec) f before steps rest s =
    and_then (declare_object (function_declaring f) ByNothing f.base steps (name_of steps) s) (with_body_open steps)
declared (kind.Member spec) f before steps rest s = declare_member f before steps (name_of steps) s
declared (kind.Param spec) f before steps rest s = declare_parameter f steps (name_of steps) s
declared (kind.NamedType spec) f before steps rest s = close_type f steps s
declared k f before steps rest s = Ok (Declarator steps, s)

-- Enumeration constants

abbrev pub enumerator_value : List Part → Option Constant → Constant
enumerator_value before None = constants.Value (next_value 0 before)
enumerator_value before (Some value) = value

abbrev pub constant_rules : Constant → List Rule
constant_rules NotConstant = BadConstant ∷ []
constant_rules Undefined = BadConstant ∷ []
constant_rules Null = BadConstant ∷ []
constant_rules (constants.Value word) = []

abbrev pub constant_meaning : Constant → Meant
constant_meaning NotConstant = Nothing
constant_meaning Undefined = Nothing
constant_meaning Null = Nothing
constant_meaning (constants.Value word) = EnumValue word

abbrev pub enumerated : List ℕ → Constant → Known → Judged
enumerated x value s =
    unless
    (broken_rules (last_node s) (parameter_rules x (in_level x (innermost s.names)) ++ constant_rules value)) (
      Enumerator x (Some value),
      declare
          (record { name = x; type = Int; means = constant_meaning value; is_static = false; is_filled = false })
          (with_meaning (last_node s) (constant_meaning value) s),
    )

-- Members: behind the last of a body the structure is complete

abbrev pub complete_if : (is_last : Bool) → Option ℕ → List MemberTree → Known → Known
complete_if is_last None members s = s
complete_if false (Some number) members s = s
complete_if true (Some number) members s = complete_tag number members s

abbrev pub with_members : Frame → List Part → Part → Known → Known
with_members f before part s = complete_if (suc (length before) == f.braces) f.tag (members_in (before ++ part ∷ [])) s

-- Initialisers

-- of an array without a length: the length that its initialiser gives
abbrev pub given_length : Part → ℕ
given_length (Braced count) = count
given_length (Value o) = by o.type
  where
    by : TypeTree → ℕ
    by (Array element n) = n
    by type = 0
given_length part = 0

abbrev pub retyped : List ℕ → TypeTree → List Declared → List Declared
retyped x type [] = []
retyped x type (d ∷ ds) = if same_name x d.name then record d { type = type } ∷ ds else d ∷ retyped x type ds

-- the declaration before the newest
abbrev pub declared_before : List ℕ → List Declared → Option Declared
declared_before x [] = None
declared_before x (d ∷ ds) = if same_name x d.name then in_level x ds else declared_before x ds

abbrev pub length_rules : List ℕ → Option Declared → Option TypeTree → List Rule
length_rules x (Some old) (Some type) = breaks_if (not (same_type old.type type)) (Redeclared x)
length_rules x old type = []

abbrev pub with_given_length : TypeTree → List Step → (last count : ℕ) → List ℕ → Known → Result Known Broken
with_given_length base steps last count x s =
    and_then
    (named_with last (length_rules x (declared_before x (innermost s.names)))
    (closed s.tags ByNothing base (map (with_length count) steps) s.types))
    (λ made. Ok (record s { types = made.1; names = retyped x made.0 (innermost s.names) ∷ around s.names }))

-- once the initialiser is judged, an object without a length has it
abbrev pub with_length_given : TypeTree → Option Part → Part → Known → Result Known Broken
with_length_given base (Some (Object (Array element zero) steps last role)) part s =
    with_given_length base steps last (given_length part) (name_in (name_of steps)) s
with_length_given base object part s = Ok s

-- a scalar is converted; the initialiser of an automatic is assigned, as a statement of its own
abbrev pub initialiser_rules : Tags → Role → Part → List Rule
initialiser_rules tags (Fills type) (Value o) = if is_scalar type then conversion_rules tags (value_type o) type (is_null o) else []
initialiser_rules tags (Assigns type) (Value o) = assigned_rules tags true type o
initialiser_rules tags role part = []

abbrev pub unless_broken : List Rule → Part → Known → Judged
unless_broken rules part s = unless (broken_rules (last_node s) rules) (part, s)

abbrev pub initialised : Kind → Frame → List Part → Part → Known → Judged
initialised (kind.Declaration spec inits) f before part s =
    and_then (with_length_given f.base (last_object before) part s)
    (λ given. unless_broken (initialiser_rules given.tags (object_role (last_object before)) part) part given)
initialised (kind.Entry entry_by equals) f before part s =
    if is_index_next entry_by before then Ok (part, s)
    else unless_broken (initialiser_rules s.tags (entry_role s.tags f.context.role entry_by before) part) part s
initialised k f before part s = Ok (part, s)

-- Labels

abbrev pub is_case : ℕ → Part → Bool
is_case word (CaseLabel other) = word == other
is_case word part = false

abbrev pub is_default : Part → Bool
is_default DefaultLabel = true
is_default part = false

-- no label stands twice in a switch
abbrev pub behind : Kind → Frame → List Part → Part → SyntaxRow → Known → Judged
behind k f before (Value o) rest s = initialised k f before (Value o) s
behind k f before (Braced count) rest s = initialised k f before (Braced count) s
behind k f before (Declarator steps) rest s = declared k f before steps rest s
behind k f before (Enumerator x value) rest s = enumerated x (enumerator_value before value) s
behind k f before (Members members) rest s = Ok (Members members, with_members f before (Members members) s)
behind k f before (CaseLabel word) rest s =
    unless_broken (breaks_if (list_any (is_case word) before) Misplaced) (CaseLabel word) s
behind k f before DefaultLabel rest s = unless_broken (breaks_if (list_any is_default before) Misplaced) DefaultLabel s
behind k f before part rest s = Ok (part, s)
