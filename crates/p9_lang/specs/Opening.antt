-- What a node opens before its parts are judged, and what it asks of each part.
use Rattle.std.specs.Prelude.{ℕ, Bool, true, false, not, ◌&&◌, nat_lt, if◌then◌else◌, List, [], ◌∷◌, length, unwrap_or, Option, Some, None}
use Rattle.std.specs.List.{list_all}
use Rattle.p9_lang.specs.declared.tree.EntryBy.{EntryBy}
use Rattle.p9_lang.specs.declared.tree.SpecWord.{SpecWord}
use Rattle.p9_lang.specs.declared.tree.Kind.{Kind}
use Rattle.p9_lang.specs.declared.tree.Kind.TheVariants as kind
use Rattle.p9_lang.specs.Types.{TypeTree, Void, Int, Function, Tagged, Tags, Meant, TypeName}
use Rattle.p9_lang.specs.Rules.{Undeclared}
use Rattle.p9_lang.specs.Scopes.{Known, Declared, Tagging, Enum, structure_keyword, is_file_level, in_levels, open_level, open_block, tagged_as}
use Rattle.p9_lang.specs.Declarators.{Head, Words, Named, Structure, Enumeration, head_of, Storage, NoClass, storage_of, is_static, makes_no_type}
use Rattle.p9_lang.specs.Parts.{Role, Context, in_role, file_context, Part, Frame, is_declarator, last_object, object_type, object_role, member_names, parameter_types, next_position, inner_steps, Plain, Whole, Declares, ParameterOf, InBraces, EntryOf, Fills}
use Rattle.p9_lang.specs.Entries.{entry_role, is_index_next}

-- OPENING A NODE

abbrev pub bare : Context → Frame
bare c = record { context = c; base = Void; tag = None; braces = 0; storage = NoClass; rules = [] }

abbrev pub is_some : {A : Type 0} → Option A → Bool
is_some None = false
is_some (Some x) = true

abbrev pub of_type_name : Storage → Context → List ℕ → Option Declared → Frame
of_type_name storage c x None = record (bare c) { storage = storage; rules = Undeclared x ∷ [] }
of_type_name storage c x (Some d) = by d.means
  where
    by : Meant → Frame
    by (TypeName type) = record (bare c) { base = type; storage = storage }
    by other = record (bare c) { storage = storage; rules = Undeclared x ∷ [] }

abbrev pub of_structure : Storage → Context → (members : Option ℕ) → Tagging → Frame × Known
of_structure storage c members tagging = (
  record {
    context = c;
    base = Tagged tagging.number;
    tag = if is_some members then Some tagging.number else None;
    braces = unwrap_or members 0;
    storage = storage;
    rules = tagging.rules;
  },
  tagging.known,
)

abbrev pub of_enumeration : Storage → Context → (count : Option ℕ) → Tagging → Frame × Known
of_enumeration storage c count tagging =
    (record (bare c) { base = Int; braces = unwrap_or count 0; storage = storage; rules = tagging.rules }, tagging.known)

abbrev pub of_head : Storage → Context → Head → Known → Frame × Known
of_head storage c (Words type) s = (record (bare c) { base = type; storage = storage }, s)
of_head storage c (Named x) s = (of_type_name storage c x (in_levels x s.names), s)
of_head storage c (Structure is_union name members) s =
    of_structure storage c members (tagged_as (structure_keyword is_union) name (is_some members) s)
of_head storage c (Enumeration name count) s = of_enumeration storage c count (tagged_as Enum name (is_some count) s)

abbrev pub of_spec : List SpecWord → Context → Known → Frame × Known
of_spec words c s = of_head (storage_of words) c (head_of words) s

-- a block is a scope of names and of tags, a parameter list of names; a function counts its
-- automatics from 0
abbrev pub opened : Kind → Context → Known → Frame × Known
opened (kind.Declaration spec inits) c s = of_spec spec.words c s
opened (kind.Function spec) c s = of_spec spec.words c (record s { autos = 0 })
opened (kind.Member spec) c s = of_spec spec.words c s
opened (kind.Param spec) c s = of_spec spec.words c s
opened (kind.NamedType spec) c s = of_spec spec.words c s
opened kind.Block c s = (bare c, open_block s)
opened (kind.Params inner void_word) c s = (bare c, open_level [] s)
opened k c s = (bare c, s)

-- WHAT A NODE ASKS OF A PART

abbrev pub is_in_braces : Frame → List Part → Bool
is_in_braces f before = nat_lt (length before) f.braces

abbrev pub brace_context : Frame → List Part → Context
brace_context f before = in_role (InBraces (member_names before)) f.context

abbrev pub declaration_context : Frame → List Part → (part : Kind) → Known → Context
declaration_context f before part s =
    if is_in_braces f before then brace_context f before
    else (if is_declarator part then in_role (Declares (is_static f.storage && not (is_file_level s.names)) false) f.context
    else in_role (object_role (last_object before)) f.context)

abbrev pub result_of : TypeTree → Option TypeTree
result_of (Function result parameters) = Some result
result_of type = None

-- the body of what is no function has no result that its `return` is judged by
abbrev pub body_context : List Part → Context
body_context before = record file_context { result = result_of (object_type (last_object before) Void) }

abbrev pub function_context : Frame → List Part → (part : Kind) → Context
function_context f before part =
    if is_in_braces f before then brace_context f before
    else (if is_declarator part then in_role (Declares false true) f.context else body_context before)

abbrev pub spec_context : Frame → List Part → Context
spec_context f before = if is_in_braces f before then brace_context f before else in_role Plain f.context

abbrev pub heads_body : Role → Bool
heads_body (Declares is_block_static heads) = heads
heads_body role = false

-- a parameter is the function's own where the list stands next to the name
abbrev pub parameter_role : Frame → List Part → Role
parameter_role f before =
    ParameterOf (heads_body f.context.role && list_all makes_no_type (inner_steps before)) (length (parameter_types before))

abbrev pub step_context : Frame → (part : Kind) → Context
step_context f part = if is_declarator part then f.context else in_role Plain f.context

abbrev pub list_context : Frame → List Part → Context
list_context f before = by f.context.role
  where
    by : Role → Context
    by (Fills type) = in_role (EntryOf (Some type) (next_position 0 before)) f.context
    by other = in_role (EntryOf None (next_position 0 before)) f.context

abbrev pub entry_context : Tags → Frame → EntryBy → List Part → Context
entry_context tags f entry_by before =
    if is_index_next entry_by before then in_role Plain f.context
    else in_role (entry_role tags f.context.role entry_by before) f.context

abbrev pub loop_context : Frame → Context
loop_context f = record f.context { is_in_loop = true; role = Plain }

abbrev pub context : Kind → Frame → List Part → (part : Kind) → Known → Context
context (kind.Declaration spec inits) f before part s = declaration_context f before part s
context (kind.Function spec) f before part s = function_context f before part
context (kind.Member spec) f before part s = spec_context f before
context (kind.Param spec) f before part s = spec_context f before
context (kind.NamedType spec) f before part s = spec_context f before
context (kind.Star volatiles) f before part s = step_context f part
context kind.DeclParens f before part s = step_context f part
context (kind.Brackets inner sized) f before part s = step_context f part
context (kind.Params inner void_word) f before part s =
    if is_declarator part then f.context else in_role (parameter_role f before) f.context
context (kind.InitList comma) f before part s = list_context f before
context (kind.Entry entry_by equals) f before part s = entry_context s.tags f entry_by before
context kind.Expression f before part s = in_role Whole f.context
context kind.While f before part s = loop_context f
context kind.Do f before part s = loop_context f
context (kind.For first test step) f before part s = loop_context f
context kind.Switch f before part s = record f.context { is_in_switch = true; role = Plain }
context k f before part s = in_role Plain f.context
