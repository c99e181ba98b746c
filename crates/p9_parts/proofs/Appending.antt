-- What is asked of a list of parts, where it has more parts behind.
use Rattle.std.proofs.Common.{◌≡◌, ℕ, zero, suc, ◌+◌, ◌<◌, List, [], ◌∷◌, ◌++◌, length, slice_get, Some, None, refl, sym, ap, ◌∙◌, append_assoc, arith}
use Rattle.std.specs.Prelude.{◌%◌, ◌^◌, nat_lt, if◌then◌else◌, map}
use Rattle.p9_lang.specs.Constants as constants
use Rattle.p9_lang.specs.Declarators.{name_of}
use Rattle.p9_lang.specs.Parts.{Part, Value, Declarator, Object, Members, Enumerator, Parameter, NamedType, Braced, Filled, CaseLabel, DefaultLabel, Statement, last_object, or_object, name_in, member_names, object_names, parameter_types, next_value, next_position, positions}

pub member_names_append : (parts more : List Part) → member_names (parts ++ more) ≡ member_names parts ++ member_names more
member_names_append [] more = refl
member_names_append (Value o ∷ parts) more = member_names_append parts more
member_names_append (Declarator steps ∷ parts) more = member_names_append parts more
member_names_append (Object type steps last role ∷ parts) more = member_names_append parts more
member_names_append (Members members ∷ parts) more =
    ap (λ l. map (λ m. m.name) members ++ l) (member_names_append parts more)
    ∙ sym (append_assoc (map (λ m. m.name) members) (member_names parts) (member_names more))
member_names_append (Enumerator x v ∷ parts) more = member_names_append parts more
member_names_append (Parameter type ∷ parts) more = member_names_append parts more
member_names_append (NamedType type ∷ parts) more = member_names_append parts more
member_names_append (Braced count ∷ parts) more = member_names_append parts more
member_names_append (Filled next ∷ parts) more = member_names_append parts more
member_names_append (CaseLabel word ∷ parts) more = member_names_append parts more
member_names_append (DefaultLabel ∷ parts) more = member_names_append parts more
member_names_append (Statement ∷ parts) more = member_names_append parts more

pub object_names_append : (parts more : List Part) → object_names (parts ++ more) ≡ object_names parts ++ object_names more
object_names_append [] more = refl
object_names_append (Value o ∷ parts) more = object_names_append parts more
object_names_append (Declarator steps ∷ parts) more = object_names_append parts more
object_names_append (Object type steps last role ∷ parts) more = ap (λ l. name_in (name_of steps) ∷ l) (object_names_append parts more)
object_names_append (Members members ∷ parts) more = object_names_append parts more
object_names_append (Enumerator x v ∷ parts) more = object_names_append parts more
object_names_append (Parameter type ∷ parts) more = object_names_append parts more
object_names_append (NamedType type ∷ parts) more = object_names_append parts more
object_names_append (Braced count ∷ parts) more = object_names_append parts more
object_names_append (Filled next ∷ parts) more = object_names_append parts more
object_names_append (CaseLabel word ∷ parts) more = object_names_append parts more
object_names_append (DefaultLabel ∷ parts) more = object_names_append parts more
object_names_append (Statement ∷ parts) more = object_names_append parts more

pub parameters_append : (parts more : List Part) → length (parameter_types (parts ++ more)) ≡ length (parameter_types parts) + length (parameter_types more)
parameters_append [] more = omega arith
parameters_append (Value o ∷ parts) more = parameters_append parts more
parameters_append (Declarator steps ∷ parts) more = parameters_append parts more
parameters_append (Object type steps last role ∷ parts) more = parameters_append parts more
parameters_append (Members members ∷ parts) more = parameters_append parts more
parameters_append (Enumerator x v ∷ parts) more = parameters_append parts more
parameters_append (Parameter type ∷ parts) more = omega (arith, parameters_append parts more)
parameters_append (NamedType type ∷ parts) more = parameters_append parts more
parameters_append (Braced count ∷ parts) more = parameters_append parts more
parameters_append (Filled next ∷ parts) more = parameters_append parts more
parameters_append (CaseLabel word ∷ parts) more = parameters_append parts more
parameters_append (DefaultLabel ∷ parts) more = parameters_append parts more
parameters_append (Statement ∷ parts) more = parameters_append parts more

pub next_value_append : (so_far : ℕ) (parts more : List Part) → next_value so_far (parts ++ more) ≡ next_value (next_value so_far parts) more
next_value_append so_far [] more = refl
next_value_append so_far (Value o ∷ parts) more = next_value_append so_far parts more
next_value_append so_far (Declarator steps ∷ parts) more = next_value_append so_far parts more
next_value_append so_far (Object type steps last role ∷ parts) more = next_value_append so_far parts more
next_value_append so_far (Members members ∷ parts) more = next_value_append so_far parts more
next_value_append so_far (Enumerator x None ∷ parts) more = next_value_append so_far parts more
next_value_append so_far (Enumerator x (Some constants.NotConstant) ∷ parts) more = next_value_append so_far parts more
next_value_append so_far (Enumerator x (Some constants.Undefined) ∷ parts) more = next_value_append so_far parts more
next_value_append so_far (Enumerator x (Some constants.Null) ∷ parts) more = next_value_append so_far parts more
next_value_append so_far (Enumerator x (Some (constants.Value v)) ∷ parts) more = next_value_append ((v + 1) % 2 ^ 32) parts more
next_value_append so_far (Parameter type ∷ parts) more = next_value_append so_far parts more
next_value_append so_far (NamedType type ∷ parts) more = next_value_append so_far parts more
next_value_append so_far (Braced count ∷ parts) more = next_value_append so_far parts more
next_value_append so_far (Filled next ∷ parts) more = next_value_append so_far parts more
next_value_append so_far (CaseLabel word ∷ parts) more = next_value_append so_far parts more
next_value_append so_far (DefaultLabel ∷ parts) more = next_value_append so_far parts more
next_value_append so_far (Statement ∷ parts) more = next_value_append so_far parts more

pub next_position_append : (so_far : ℕ) (parts more : List Part) → next_position so_far (parts ++ more) ≡ next_position (next_position so_far parts) more
next_position_append so_far [] more = refl
next_position_append so_far (Value o ∷ parts) more = next_position_append so_far parts more
next_position_append so_far (Declarator steps ∷ parts) more = next_position_append so_far parts more
next_position_append so_far (Object type steps last role ∷ parts) more = next_position_append so_far parts more
next_position_append so_far (Members members ∷ parts) more = next_position_append so_far parts more
next_position_append so_far (Enumerator x v ∷ parts) more = next_position_append so_far parts more
next_position_append so_far (Parameter type ∷ parts) more = next_position_append so_far parts more
next_position_append so_far (NamedType type ∷ parts) more = next_position_append so_far parts more
next_position_append so_far (Braced count ∷ parts) more = next_position_append so_far parts more
next_position_append so_far (Filled next ∷ parts) more = next_position_append next parts more
next_position_append so_far (CaseLabel word ∷ parts) more = next_position_append so_far parts more
next_position_append so_far (DefaultLabel ∷ parts) more = next_position_append so_far parts more
next_position_append so_far (Statement ∷ parts) more = next_position_append so_far parts more

pub positions_append : (so_far : ℕ) (parts more : List Part) → positions so_far (parts ++ more) ≡ positions (positions so_far parts) more
positions_append so_far [] more = refl
positions_append so_far (Value o ∷ parts) more = positions_append so_far parts more
positions_append so_far (Declarator steps ∷ parts) more = positions_append so_far parts more
positions_append so_far (Object type steps last role ∷ parts) more = positions_append so_far parts more
positions_append so_far (Members members ∷ parts) more = positions_append so_far parts more
positions_append so_far (Enumerator x v ∷ parts) more = positions_append so_far parts more
positions_append so_far (Parameter type ∷ parts) more = positions_append so_far parts more
positions_append so_far (NamedType type ∷ parts) more = positions_append so_far parts more
positions_append so_far (Braced count ∷ parts) more = positions_append so_far parts more
positions_append so_far (Filled next ∷ parts) more = positions_append (if nat_lt so_far next then next else so_far) parts more
positions_append so_far (CaseLabel word ∷ parts) more = positions_append so_far parts more
positions_append so_far (DefaultLabel ∷ parts) more = positions_append so_far parts more
positions_append so_far (Statement ∷ parts) more = positions_append so_far parts more

-- behind any parts, an object is the last, and what is none changes nothing
pub last_is_object : (parts : List Part) (object : Part) → last_object (object ∷ []) ≡ Some object → last_object (parts ++ object ∷ []) ≡ Some object
last_is_object [] object e = e
last_is_object (part ∷ parts) object e = ap (λ o. or_object o part) (last_is_object parts object e)

pub last_stays : (parts : List Part) (other : Part) → last_object (other ∷ []) ≡ None → last_object (parts ++ other ∷ []) ≡ last_object parts
last_stays [] other e = e
last_stays (part ∷ parts) other e = ap (λ o. or_object o part) (last_stays parts other e)

pub get_before : {A : Type 0} (xs ys : List A) (i : ℕ) → i < length xs → slice_get (xs ++ ys) i ≡ slice_get xs i
get_before [] ys i h = absurd (omega arith)
get_before (x ∷ xs) ys zero h = refl
get_before (x ∷ xs) ys (suc i) h = get_before xs ys i (omega arith)

pub get_behind : {A : Type 0} (xs : List A) (y : A) → slice_get (xs ++ y ∷ []) (length xs) ≡ Some y
get_behind [] y = refl
get_behind (x ∷ xs) y = get_behind xs y
