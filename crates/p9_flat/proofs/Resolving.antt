-- Operations whose types are resolved do what the meaning's operations do by types.
use Rattle.std.proofs.Common.{◌≡◌, ℕ, Bool, true, false, if◌then◌else◌, List, Option, Some, None, option_map, Result, Ok, Err, refl, ap}
use Rattle.p9_lang.specs.declared.tree.CBinary.{CBinary}
use Rattle.p9_lang.specs.declared.tree.CBinary.TheVariants as operator
use Rattle.p9_lang.specs.Types.{TypeTree, Void, Char, UChar, Short, UShort, Int, UInt, Long, ULong, Pointer, Array, Function, Tagged, Tags}
use Rattle.p9_lang.specs.Layout.{size_of}
use Rattle.p9_lang.specs.Conversions.{is_integer, is_unsigned}
use Rattle.p9_lang.specs.Constants.{works_unsigned}
use Rattle.p9_cmean.specs.declared.Cause.{Cause}
use Rattle.p9_cmean.specs.Cells.{FunctionName, Object, Value}
use Rattle.p9_cmean.specs.Operators as operators
use Rattle.p9_cmean.specs.Operators.{if_integer, holds, moved_elements, of_integers, pointer_and_integer, integer_and_pointer, two_pointers}
use Rattle.p9_flat.specs.declared.op.Operation.{Operation}
use Rattle.p9_flat.specs.declared.op.Operation.TheVariants as operation
use Rattle.p9_flat.specs.Resolved.{operated, operation_of, with_number, number_with, between_pointers, where_integer, count_type, tests, tested_type, scalar_of, narrow_to}
use Rattle.p9_flat.specs.Step.{Names, function_of}
use Rattle.p9_cmean.specs.Expressions.{Surroundings, function_at, narrow}
use Rattle.p9_cmean.specs.declared.Cause.TheVariants as cause
use Rattle.p9_cmean.specs.Cells as cells

abbrev pub by_operation : Option Operation → List Object → Value → Value → Option (Result Value Cause)
by_operation done objects a b = option_map (λ o. operated o objects a b) done

pub two_pointers_are : (op : CBinary) (tags : Tags) (objects : List Object) (target : TypeTree) (a b : Value)
    → two_pointers op tags objects target a b ≡ by_operation (between_pointers op tags target) objects a b
two_pointers_are operator.Sub tags objects target a b = refl
two_pointers_are operator.Lt tags objects target a b = refl
two_pointers_are operator.Gt tags objects target a b = refl
two_pointers_are operator.Le tags objects target a b = refl
two_pointers_are operator.Ge tags objects target a b = refl
two_pointers_are operator.Eq tags objects target a b = refl
two_pointers_are operator.Ne tags objects target a b = refl
two_pointers_are op tags objects target a b = refl

moved_is : (objects : List Object) (back : Bool) (size : ℕ) (type : TypeTree) (p n : Value)
    → moved_elements objects back size type p n ≡ moved_elements objects back size (count_type (is_unsigned type)) p n
moved_is objects back size UInt p n = refl
moved_is objects back size ULong p n = refl
moved_is objects back size type p n = refl

pointer_and_integer_is : (op : CBinary) (tags : Tags) (objects : List Object) (target type : TypeTree) (a b : Value)
    → pointer_and_integer op tags objects target type a b ≡ by_operation (with_number op tags target type) objects a b
pointer_and_integer_is operator.Add tags objects target type a b = ap Some (moved_is objects false (size_of tags target) type a b)
pointer_and_integer_is operator.Sub tags objects target type a b = ap Some (moved_is objects true (size_of tags target) type a b)
pointer_and_integer_is operator.Eq tags objects target type a b = refl
pointer_and_integer_is operator.Ne tags objects target type a b = refl
pointer_and_integer_is op tags objects target type a b = refl

integer_and_pointer_is : (op : CBinary) (tags : Tags) (objects : List Object) (type target : TypeTree) (a b : Value)
    → integer_and_pointer op tags objects type target a b ≡ by_operation (number_with op tags type target) objects a b
integer_and_pointer_is operator.Add tags objects type target a b = ap Some (moved_is objects false (size_of tags target) type b a)
integer_and_pointer_is operator.Eq tags objects type target a b = refl
integer_and_pointer_is operator.Ne tags objects type target a b = refl
integer_and_pointer_is op tags objects type target a b = refl

where_is : (b : Bool) (o : Option (Result Value Cause)) (d : Option Operation) (objects : List Object) (v w : Value)
    → o ≡ by_operation d objects v w
    → (if b then o else None) ≡ by_operation (if b then d else None) objects v w
where_is true o d objects v w e = e
where_is false o d objects v w e = refl

-- an operator by the types of its operands
pub operation_is : (op : CBinary) (tags : Tags) (objects : List Object) (left right : TypeTree) (a b : Value)
    → operators.operation op tags objects left right a b ≡ by_operation (operation_of op tags left right) objects a b
operation_is op tags objects (Pointer target) (Pointer other) a b = two_pointers_are op tags objects target a b
operation_is op tags objects (Pointer target) right a b =
    where_is (is_integer right) (pointer_and_integer op tags objects target right a b) (with_number op tags target right) objects a b (pointer_and_integer_is op tags objects target right a b)
operation_is op tags objects left (Pointer target) a b =
    where_is (is_integer left) (integer_and_pointer op tags objects left target a b) (number_with op tags left target) objects a b (integer_and_pointer_is op tags objects left target a b)
operation_is op tags objects left right a b =
    where_is (is_integer left) (if_integer right (Some (of_integers op left right a b)))
    (where_integer right (Some (operation.Words op (works_unsigned op left right)))) objects a b
    (where_is (is_integer right) (Some (of_integers op left right a b)) (Some (operation.Words op (works_unsigned op left right))) objects a b refl)

abbrev pub by_tests : Option Bool → List Object → Value → Option (Result Bool Cause)
by_tests None objects v = None
by_tests (Some of_pointer) objects v = holds objects (tested_type of_pointer) v

pub holds_is : (objects : List Object) (type : TypeTree) (v : Value) → holds objects type v ≡ by_tests (tests type) objects v
holds_is objects (Pointer target) v = refl
holds_is objects Char v = refl
holds_is objects UChar v = refl
holds_is objects Short v = refl
holds_is objects UShort v = refl
holds_is objects Int v = refl
holds_is objects UInt v = refl
holds_is objects Long v = refl
holds_is objects ULong v = refl
holds_is objects type v = refl

-- an integer's low bits, by the scalar of its type
pub narrow_is : (type : TypeTree) (v : Value) → narrow type v ≡ narrow_to (scalar_of type) v
narrow_is Void v = refl
narrow_is Char v = refl
narrow_is UChar v = refl
narrow_is Short v = refl
narrow_is UShort v = refl
narrow_is Int v = refl
narrow_is UInt v = refl
narrow_is Long v = refl
narrow_is ULong v = refl
narrow_is (Pointer target) v = refl
narrow_is (Array element n) v = refl
narrow_is (Function result parameters) v = refl
narrow_is (Tagged tag) v = refl

-- a call's function, by the number of its type
pub function_is : (names : Names) (around : Surroundings) (type : TypeTree) (number : ℕ) (objects : List Object) (o : Option cells.Pointer)
    → ((name : FunctionName) → names.has_type name number ≡ around.has_type name type)
    → function_of names number objects o ≡ function_at around type objects o
function_is names around type number objects None h = refl
function_is names around type number objects (Some (cells.Into object offset)) h = refl
function_is names around type number objects (Some (cells.ToFunction function)) h =
    ap (λ b. if b then Ok function else Err cause.WrongCall) (h function)
