-- The types of the pointers between which `? :` chooses, without the operands.
use Rattle.std.specs.Prelude.{Bool, ◌&&◌, ◌||◌, if◌then◌else◌, Result, Ok}
use Rattle.p9_lang.specs.Types.{TypeTree}
use Rattle.p9_lang.specs.Conversions.{is_pointer, same_type}
use Rattle.p9_lang.specs.Rules.{Rule, BadOperands}
use Rattle.p9_lang.specs.Expressions.{asks, is_void_pointer}

-- equal pointers, or a pointer with null or with a pointer to void
abbrev pub choice_of_pointers : (a b : TypeTree) → (a_null b_null : Bool) → Result TypeTree Rule
choice_of_pointers a b a_null b_null =
    if is_pointer a && (same_type a b || b_null) then Ok a
    else (if is_pointer b && a_null then Ok b
    else (if is_pointer a && (b_null || is_void_pointer b) then Ok b
    else asks (is_pointer b && (a_null || is_void_pointer a)) BadOperands a))
