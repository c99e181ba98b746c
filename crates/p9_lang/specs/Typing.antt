-- Typing: the type of each node of a file and what it stands for, or the rule that the file breaks.
-- One recursion goes through the tree in the order of the nodes' numbers; the tables below have a
-- clause for each kind of node: what a node opens, what it asks of each part, what a part means to
-- it, and what it is itself.
use Rattle.std.specs.Prelude.{ℕ, zero, suc, ◌+◌, Bool, true, false, not, ◌&&◌, ◌||◌, ◌==◌, if◌then◌else◌, List, [], ◌∷◌, ◌++◌, length, map, sum, slice_get, Option, Some, None, Result, Ok, Err}
use Rattle.p9_lang.specs.declared.tree.EntryBy.{EntryBy}
use Rattle.p9_lang.specs.declared.tree.Kind.{Kind}
use Rattle.p9_lang.specs.declared.tree.Kind.TheVariants as kind
use Rattle.p9_lang.specs.Names.{is_among}
use Rattle.p9_lang.specs.Trees.{node, none, more, Syntax, SyntaxRow, nodes_of_row}
use Rattle.p9_lang.specs.Types.{TypeTree, Void, Char, Int, Array, Tagged, Tags, Meant, Nothing, Static, EnumValue, TypeName, type_row}
use Rattle.p9_lang.specs.Layout.{is_complete, is_within_limit}
use Rattle.p9_lang.specs.Conversions.{is_integer, is_void, is_function, is_array, is_structure, is_character, is_scalar}
use Rattle.p9_lang.specs.Constants.{Operand, Constant, NotConstant, constant_at}
use Rattle.p9_lang.specs.Rules.{Rule, Malformed, Incomplete, Undeclared, NotLvalue, BadOperands, NotFunction, NotScalar, BadConstant, BadReturn, Misplaced, Broken, at_node, first_of, unless, breaks_if, and_then}
use Rattle.p9_lang.specs.Expressions.{Verdict, verdict, conversion_rules, is_null, value_type}
use Rattle.p9_lang.specs.Scopes.{Known, Declared, innermost, is_file_level, in_levels, close_level, close_block, next_node, with_node}
use Rattle.p9_lang.specs.Declarators.{is_typedef, is_extern, Shape, Names, Keeps, Points, Sized, Unsized, Takes, Step, own_list, adjusted, is_type_name}
use Rattle.p9_lang.specs.Parts.{Role, Context, file_context, Part, Frame, Judged, kind_at, last_object, object_type, declared_members, or_unnamed, parameter_types, positions, first_constant, inner_steps, Whole, Declares, EntryOf, Fills, Assigns, Value, Declarator, Object, Members, Enumerator, Parameter, NamedType, Braced, Filled, CaseLabel, DefaultLabel, Statement}
use Rattle.p9_lang.specs.Entries.{entry_role, filled_type, constant_or_zero, entry_position, entry_rules}
use Rattle.p9_lang.specs.Opening.{is_some, opened, context}
use Rattle.p9_lang.specs.Declaring.{broken_rules, constant_rules, behind}

-- WHAT A NODE IS

-- the next node has this type and meaning, and is this part, unless it breaks a rule
abbrev pub has : List Rule → TypeTree → Meant → Part → Known → Judged
has rules type means part s = unless (broken_rules (next_node s) rules) (part, with_node type means s)

-- statements, declarations and steps whose declarator isn't whole yet
abbrev pub typeless : List Rule → Part → Known → Judged
typeless rules part s = has rules Void Nothing part s

-- Expressions

abbrev pub operand : TypeTree → (is_lvalue : Bool) → Constant → Operand
operand type is_lvalue constant = record { type = type; is_lvalue = is_lvalue; constant = constant }

abbrev pub operands_of : List Part → Option (List Operand)
operands_of [] = Some []
operands_of (part ∷ parts) = by part (operands_of parts)
  where
    by : Part → Option (List Operand) → Option (List Operand)
    by (Value o) (Some others) = Some (o ∷ others)
    by (NamedType type) (Some others) = Some (operand type false NotConstant ∷ others)
    by part others = None

abbrev pub judged_as : Kind → List Operand → Result Verdict Rule → Known → Judged
judged_as k operands (Ok v) s =
    has [] v.type Nothing (Value (operand v.type v.is_lvalue (constant_at s.tags k v.type Nothing operands))) s
judged_as k operands (Err rule) s = Err (at_node (next_node s) rule)

abbrev pub is_whole : Role → Bool
is_whole Whole = true
is_whole role = false

abbrev pub judged_expression : Kind → Role → Option (List Operand) → Known → Judged
judged_expression k role None s = Err (at_node (next_node s) Malformed)
judged_expression k role (Some operands) s = judged_as k operands (verdict s.tags (is_whole role) k operands) s

-- A name that is declared as a value. A static function counts as declared for a use only where
-- the file has its body.

abbrev pub is_usable : (bodies : List (List ℕ)) → Declared → Bool
is_usable bodies d =
    not (is_type_name d.means) && (not (d.is_static && is_function d.type) || is_among bodies d.name)

abbrev pub is_enumerator : Meant → Bool
is_enumerator (EnumValue value) = true
is_enumerator means = false

abbrev pub judged_name : List ℕ → Option Declared → Known → Judged
judged_name x None s = Err (at_node (next_node s) (Undeclared x))
judged_name x (Some d) s =
    has (breaks_if (not (is_usable s.bodies d)) (Undeclared x)) d.type d.means
    (Value
    (operand d.type (not (is_function d.type) && not (is_enumerator d.means)) (constant_at s.tags (kind.Name x) d.type d.means [])))
    s

-- A text is an object of its own, with the next number, but where it fills an array.

abbrev pub is_filled_by_text : Role → Bool
is_filled_by_text (Fills (Array element n)) = is_character element
is_filled_by_text role = false

abbrev pub text_type : List (List ℕ) → TypeTree
text_type texts = Array Char (sum (map length texts) + 1)

abbrev pub judged_text : TypeTree → Role → Known → Judged
judged_text type role s =
    if is_filled_by_text role then has [] type Nothing (Value (operand type true NotConstant)) s
    else has (breaks_if (not (is_within_limit s.tags type)) BadConstant) type (Static s.statics)
    (Value (operand type true NotConstant))
    (record s { statics = s.statics + 1 })

-- Steps of declarators

abbrev pub step_at : Known → Shape → Step
step_at s shape = record { number = next_node s; shape = shape }

abbrev pub is_block_static : Role → Bool
is_block_static (Declares block_static heads) = block_static
is_block_static role = false

-- a block static takes its number at its name's node
abbrev pub judged_decl_name : List ℕ → Role → Known → Judged
judged_decl_name x role s =
    if is_block_static role
    then has [] Void (Static s.statics) (Declarator (step_at s (Names x) ∷ [])) (record s { statics = s.statics + 1 })
    else typeless [] (Declarator (step_at s (Names x) ∷ [])) s

abbrev pub stepped : List Step → Shape → Known → Judged
stepped steps shape s = typeless [] (Declarator (steps ++ step_at s shape ∷ [])) s

abbrev pub judged_brackets : List Part → Known → Judged
judged_brackets [] s = stepped [] Unsized s
judged_brackets (Value o ∷ []) s = stepped [] (Sized o.constant) s
judged_brackets (Declarator steps ∷ []) s = stepped steps Unsized s
judged_brackets (Declarator steps ∷ (Value o ∷ [])) s = stepped steps (Sized o.constant) s
judged_brackets parts s = Err (at_node (next_node s) Malformed)

-- the names of the list leave the scope with it
abbrev pub judged_params : List Part → Known → Judged
judged_params parts s =
    stepped (inner_steps parts) (Takes (type_row (parameter_types parts)) (innermost s.names)) (close_level s)

-- Nodes with a spec

abbrev pub size_rules : Tags → Option ℕ → List Rule
size_rules tags None = []
size_rules tags (Some number) = breaks_if (not (is_within_limit tags (Tagged number))) BadConstant

abbrev pub spec_rules : Frame → Known → List Rule
spec_rules f s = f.rules ++ size_rules s.tags f.tag

-- in a block there is no `extern`
abbrev pub judged_declaration : Frame → Known → Judged
judged_declaration f s =
    typeless (spec_rules f s ++ breaks_if (is_extern f.storage && not (is_file_level s.names)) Misplaced) Statement s

abbrev pub steps_in : Option Part → List Step
steps_in (Some (Object type steps last role)) = steps
steps_in other = []

-- a body stands only for a function that is no typedef and whose own declarator has its list
abbrev pub judged_function : Frame → List Part → Known → Judged
judged_function f parts s =
    typeless
    (spec_rules f s ++ breaks_if (is_typedef f.storage || not (is_some (own_list (steps_in (last_object parts))))) NotFunction)
    Statement (close_level s)

-- an unnamed member is a structure or union
abbrev pub unnamed_rules : Tags → TypeTree → Option Part → List Rule
unnamed_rules tags base None = breaks_if (not (is_complete tags base)) Incomplete ++ breaks_if (not (is_structure base)) BadOperands
unnamed_rules tags base (Some object) = []

abbrev pub judged_member : Frame → List Part → Known → Judged
judged_member f parts s =
    typeless (spec_rules f s ++ unnamed_rules s.tags f.base (last_object parts))
    (Members (or_unnamed f.base (declared_members f.base parts))) s

-- a parameter is no structure and not void
abbrev pub judged_parameter : Frame → TypeTree → Known → Judged
judged_parameter f type s =
    has (spec_rules f s ++ breaks_if (is_structure type || is_void type) BadOperands) type Nothing (Parameter type) s

abbrev pub judged_type : Frame → TypeTree → Known → Judged
judged_type f type s = has (spec_rules f s) type (TypeName type) (NamedType type) s

abbrev pub judged_enumerator : List ℕ → List Part → Known → Judged
judged_enumerator x [] s = has [] Int Nothing (Enumerator x None) s
judged_enumerator x (Value o ∷ []) s = has [] Int Nothing (Enumerator x (Some o.constant)) s
judged_enumerator x parts s = Err (at_node (next_node s) Malformed)

-- Initialisers

abbrev pub list_type : Role → ℕ → TypeTree
list_type (Fills (Array element zero)) count = Array element count
list_type (Fills type) count = type
list_type role count = Void

abbrev pub judged_list : Role → ℕ → Known → Judged
judged_list role count s = has [] (list_type role count) Nothing (Braced count) s

abbrev pub judged_entry : EntryBy → Role → List Part → Known → Judged
judged_entry entry_by (EntryOf list next) parts s =
    has (entry_rules s.tags list next entry_by parts)
    (filled_type (entry_role s.tags (EntryOf list next) entry_by parts)) Nothing
    (Filled (suc (entry_position s.tags list next entry_by parts))) s
judged_entry entry_by role parts s = Err (at_node (next_node s) Malformed)

-- Statements

abbrev pub test_rules : Option Part → List Rule
test_rules (Some (Value o)) = breaks_if (not (is_scalar (value_type o))) NotScalar
test_rules other = Malformed ∷ []

abbrev pub loop_test_rules : (first test : Bool) → List Part → List Rule
loop_test_rules first false parts = []
loop_test_rules false true parts = test_rules (slice_get parts 0)
loop_test_rules true true parts = test_rules (slice_get parts 1)

abbrev pub switch_rules : Option Part → List Rule
switch_rules (Some (Value o)) = breaks_if (not (is_integer (value_type o))) BadOperands
switch_rules other = Malformed ∷ []

-- a value exactly in functions that aren't void
abbrev pub return_rules : Tags → (result : Option TypeTree) → List Part → List Rule
return_rules tags None parts = []
return_rules tags (Some result) [] = breaks_if (not (is_void result)) BadReturn
return_rules tags (Some result) (Value o ∷ []) =
    if is_void result then BadReturn ∷ [] else conversion_rules tags (value_type o) result (is_null o)
return_rules tags (Some result) parts = Malformed ∷ []

abbrev pub judged_case : Constant → Known → Judged
judged_case constant s = typeless (constant_rules constant) (CaseLabel (constant_or_zero constant)) s

abbrev pub judged : Kind → Frame → List Part → Known → Judged
judged (kind.Declaration spec inits) f parts s = judged_declaration f s
judged (kind.Function spec) f parts s = judged_function f parts s
judged (kind.Member spec) f parts s = judged_member f parts s
judged (kind.EnumConst x valued) f parts s = judged_enumerator x parts s
judged (kind.DeclName x) f parts s = judged_decl_name x f.context.role s
judged (kind.Star volatiles) f parts s = stepped (inner_steps parts) Points s
judged (kind.Brackets inner sized) f parts s = judged_brackets parts s
judged (kind.Params inner void_word) f parts s = judged_params parts s
judged kind.DeclParens f parts s = stepped (inner_steps parts) Keeps s
judged (kind.Param spec) f parts s = judged_parameter f (object_type (last_object parts) (adjusted f.base)) s
judged (kind.NamedType spec) f parts s = judged_type f (object_type (last_object parts) f.base) s
judged (kind.InitList comma) f parts s = judged_list f.context.role (positions 0 parts) s
judged (kind.Entry entry_by equals) f parts s = judged_entry entry_by f.context.role parts s
judged kind.Block f parts s = typeless [] Statement (close_block s)
judged kind.Expression f parts s = typeless [] Statement s
judged kind.If f parts s = typeless (test_rules (slice_get parts 0)) Statement s
judged kind.While f parts s = typeless (test_rules (slice_get parts 0)) Statement s
judged kind.Do f parts s = typeless (test_rules (slice_get parts 1)) Statement s
judged (kind.For first test step) f parts s = typeless (loop_test_rules first test parts) Statement s
judged kind.Switch f parts s = typeless (switch_rules (slice_get parts 0)) Statement s
judged kind.Case f parts s = judged_case (first_constant parts) s
judged kind.Default f parts s = typeless [] DefaultLabel s
judged kind.Break f parts s = typeless (breaks_if (not (f.context.is_in_loop || f.context.is_in_switch)) Misplaced) Statement s
judged kind.Continue f parts s = typeless (breaks_if (not f.context.is_in_loop) Misplaced) Statement s
judged kind.Return f parts s = typeless (return_rules s.tags f.context.result parts) Statement s
judged (kind.Name x) f parts s = judged_name x (in_levels x s.names) s
judged (kind.Text texts) f parts s = judged_text (text_type texts) f.context.role s
judged k f parts s = judged_expression k f.context.role (operands_of parts) s

-- Rules that a node breaks by its role alone: braces round a scalar; a structure or array without
-- braces that no text fills; an automatic array, which is no lvalue, or one with braces.

abbrev pub filling_rules : TypeTree → Kind → List Rule
filling_rules type (kind.InitList comma) = breaks_if (is_scalar type) BadOperands
filling_rules type (kind.Text texts) = breaks_if (not (is_scalar type || is_filled_by_text (Fills type))) BadOperands
filling_rules type k = breaks_if (not (is_scalar type)) BadOperands

abbrev pub assigning_rules : TypeTree → Kind → List Rule
assigning_rules type (kind.InitList comma) = BadOperands ∷ []
assigning_rules type k = breaks_if (is_array type) NotLvalue

abbrev pub role_rules : Role → Kind → List Rule
role_rules (Fills type) k = filling_rules type k
role_rules (Assigns type) k = assigning_rules type k
role_rules role k = []

abbrev pub with_rules : (number : ℕ) → List Rule → Judged → Judged
with_rules number rules (Ok r) = unless (broken_rules number rules) r
with_rules number rules (Err broken) =
    if broken.node == number then Err (first_of broken (broken_rules number rules)) else Err broken

-- THE RECURSION, which no kind changes

abbrev mutual
  pub judge : Syntax → Context → Known → Judged
  judge (node k at parts) c s =
      with_rules (next_node s + nodes_of_row parts) (role_rules c.role k)
      (and_then (judge_parts k (opened k c s).0 [] parts (opened k c s).1) (λ r. judged k (opened k c s).0 r.0 r.1))

  pub judge_parts : Kind → Frame → List Part → SyntaxRow → Known → Result (List Part × Known) Broken
  judge_parts k f before none s = Ok (before, s)
  judge_parts k f before (more t ts) s =
      and_then (judge t (context k f before (kind_at t) s) s)
      (λ r. and_then (behind k f before r.0 ts r.1) (λ q. judge_parts k f (before ++ q.0 ∷ []) ts q.1))

abbrev pub judge_items : SyntaxRow → Known → Result Known Broken
judge_items none s = Ok s
judge_items (more item items) s = and_then (judge item file_context s) (λ r. judge_items items r.1)
