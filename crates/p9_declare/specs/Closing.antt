-- Declarators that are closed over what is known.
use Rattle.std.specs.Prelude.{ℕ, Bool, true, false, not, ◌&&◌, ◌||◌, List, ◌++◌, slice_set, Option, Some, None, Result, Ok, Err}
use Rattle.p9_lang.specs.Types.{TypeTree, TypeRow, Array, Function, Tags}
use Rattle.p9_lang.specs.Layout.{is_complete}
use Rattle.p9_lang.specs.Conversions.{is_array, is_function, is_structure}
use Rattle.p9_lang.specs.Constants.{Constant}
use Rattle.p9_lang.specs.Rules.{Rule, Incomplete, BadOperands, BadConstant, Broken, breaks_if, unless_rules, and_then}
use Rattle.p9_lang.specs.Scopes.{Known}
use Rattle.p9_lang.specs.Declarators.{LengthBy, gives_length, array_rules, word_of, Shape, Names, Keeps, Points, Sized, Unsized, Takes, Step, shaped, broken_at, closed, closed_from, with_length}
use Rattle.p9_lang.specs.Declaring.{named_with}

-- a step, once an initialiser has given a length
abbrev pub with_given : Option ℕ → Step → Step
with_given None step = step
with_given (Some n) step = with_length n step

abbrev pub is_unsized : Shape → Bool
is_unsized (Names name) = false
is_unsized Keeps = false
is_unsized Points = false
is_unsized (Sized length) = false
is_unsized Unsized = true
is_unsized (Takes parameters level) = false

-- what brackets and parameter lists make of a type
abbrev pub sized_type : Tags → Constant → TypeTree → Result TypeTree Rule
sized_type tags length type =
    unless_rules (breaks_if (not (is_complete tags type)) Incomplete ++ array_rules tags type length) (Array type (word_of length))

abbrev pub unsized_type : Tags → LengthBy → (is_outermost : Bool) → TypeTree → Result TypeTree Rule
unsized_type tags by is_outermost type =
    unless_rules
    (breaks_if (not (is_complete tags type)) Incomplete ++ breaks_if (not (is_outermost && gives_length by type)) BadConstant)
    (Array type 0)

abbrev pub function_type : TypeRow → TypeTree → Result TypeTree Rule
function_type parameters type =
    unless_rules
    (breaks_if (is_array type || (is_function type || is_structure type)) BadOperands)
    (Function type parameters)

-- with the types of the steps' nodes
abbrev pub with_types : TypeTree × List TypeTree → Known → Result (TypeTree × Known) Broken
with_types made s = Ok (made.0, record s { types = made.1 })

-- the type of the whole
abbrev pub closed_over : LengthBy → TypeTree → List Step → Known → Result (TypeTree × Known) Broken
closed_over by base steps s = and_then (closed s.tags by base steps s.types) (λ made. with_types made s)

-- likewise with the outermost step first
abbrev pub closed_inwards : LengthBy → TypeTree → List Step → Known → Result (TypeTree × Known) Broken
closed_inwards by type steps s = and_then (closed_from s.tags by type steps s.types) (λ made. with_types made s)

-- one step
abbrev pub step_closed : LengthBy → (is_outermost : Bool) → Step → TypeTree → Known → Result (TypeTree × Known) Broken
step_closed by is_outermost step type s =
    and_then (broken_at step.number (shaped s.tags by is_outermost step.shape type))
    (λ made. Ok (made, record s { types = slice_set s.types step.number made }))

-- with the rules on the declared name
abbrev pub closed_with : (last : ℕ) → (Option TypeTree → List Rule) → LengthBy → TypeTree → List Step → Known → Result (TypeTree × Known) Broken
closed_with last rules by base steps s =
    and_then (named_with last rules (closed s.tags by base steps s.types)) (λ made. with_types made s)
