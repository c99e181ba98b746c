-- Access to the cells of objects, and what pointers may be used for. An operation gives what it
-- gives, or the cause for which it is undefined; where it has several, the first in the order Null,
-- Dead, Misaligned, Range, Overlap, Unset, Mixed.
use Rattle.std.specs.Prelude.{ℕ, zero, suc, ◌+◌, ◌*◌, ◌/◌, ◌%◌, ◌^◌, ◌==◌, ◌&&◌, nat_lt, nat_le, if◌then◌else◌, Bool, true, false, not, List, [], ◌∷◌, ◌++◌, length, take, drop, slice_get, slice_set, unwrap_or, Option, Some, None, Result, Ok, Err}
use Rattle.std.specs.List.{list_any, list_all}
use Rattle.p9_base.specs.Words.{word_sum}
use Rattle.p9_lang.specs.Names.{same_name}
use Rattle.p9_cmean.specs.declared.Cause.{Cause}
use Rattle.p9_cmean.specs.declared.Cause.TheVariants as cause
use Rattle.p9_cmean.specs.Cells.{FunctionName, Global, Local, Pointer, Into, ToFunction, Cell, Unset, Byte, Part, Object, Value, Word, Address, Missing}

-- one operation, and then the one that goes on from what it gives
abbrev pub and_go : {A B : Type 0} → Result A Cause → (A → Result B Cause) → Result B Cause
and_go (Ok x) next = next x
and_go (Err why) next = Err why

-- OBJECTS

-- a number that no object has, to which no pointer is ever made, counts as a dead object's
abbrev pub dead_object : Object
dead_object = record { cells = []; is_alive = false }

abbrev pub object_at : List Object → ℕ → Object
object_at objects number = unwrap_or (slice_get objects number) dead_object

-- the cells of an access, which lies in a live object at a multiple of its alignment
abbrev pub cells_within : Object → (offset size alignment : ℕ) → Result (List Cell) Cause
cells_within object offset size alignment =
    if not object.is_alive then Err cause.Dead
    else (if not (offset % alignment == 0) then Err cause.Misaligned
    else (if nat_lt (length object.cells) (offset + size) then Err cause.Range
    else Ok (take size (drop offset object.cells))))

-- a function counts as an object of size 0
abbrev pub accessed : List Object → Pointer → (size alignment : ℕ) → Result (List Cell) Cause
accessed objects (Into object offset) size alignment = cells_within (object_at objects object) offset size alignment
accessed objects (ToFunction function) size alignment = Err cause.Range

-- the object with these cells from the offset on
abbrev pub overwritten : Object → (offset : ℕ) → List Cell → Object
overwritten object offset cells = record object {
  cells = take offset object.cells ++ (cells ++ drop (offset + length cells) object.cells);
}

-- the objects, with these cells where a pointer is to
abbrev pub with_cells : List Object → Pointer → List Cell → List Object
with_cells objects (Into object offset) cells =
    slice_set objects object (overwritten (object_at objects object) offset cells)
with_cells objects (ToFunction function) cells = objects

-- USE OF POINTERS

abbrev pub same_function : FunctionName → FunctionName → Bool
same_function (Global name) (Global other) = same_name name other
same_function (Global name) (Local owner other) = false
same_function (Local owner name) (Global other) = false
same_function (Local owner name) (Local other_owner other) = (owner == other_owner) && same_name name other

abbrev pub same_pointer : Pointer → Pointer → Bool
same_pointer (Into object offset) (Into other other_offset) = (object == other) && (offset == other_offset)
same_pointer (Into object offset) (ToFunction function) = false
same_pointer (ToFunction function) (Into object offset) = false
same_pointer (ToFunction function) (ToFunction other) = same_function function other

abbrev pub is_dead : List Object → Pointer → Bool
is_dead objects (Into object offset) = not (object_at objects object).is_alive
is_dead objects (ToFunction function) = false

-- an initialiser may put a pointer outside 0 to its object's size
abbrev pub is_outside : List Object → Pointer → Bool
is_outside objects (Into object offset) = nat_lt (length (object_at objects object).cells) offset
is_outside objects (ToFunction function) = false

-- Use of pointers, other than by copying them: their objects are alive, and they are within them.
abbrev pub usable : {A : Type 0} → List Object → List Pointer → Result A Cause → Result A Cause
usable objects pointers gives =
    if list_any (is_dead objects) pointers then Err cause.Dead
    else (if list_any (is_outside objects) pointers then Err cause.Range
    else gives)

-- A pointer that moves by so many bytes stays within 0 to its object's size; a function counts as an
-- object of size 0.
abbrev pub stays_within : List Object → Pointer → (is_back : Bool) → (bytes : ℕ) → Bool
stays_within objects (Into object offset) false bytes = nat_le (offset + bytes) (length (object_at objects object).cells)
stays_within objects (Into object offset) true bytes = nat_le bytes offset
stays_within objects (ToFunction function) is_back bytes = bytes == 0

abbrev pub with_offset : (ℕ → ℕ) → Pointer → Pointer
with_offset to (Into object offset) = Into object (to offset)
with_offset to (ToFunction function) = ToFunction function

-- VALUES

-- A value as an integer, and as a pointer, which is null or to something. Typing leaves no address
-- where an integer is used, and no number but 0 where a pointer is.

abbrev pub integer_in : Value → Result ℕ Cause
integer_in (Word n) = Ok n
integer_in (Address pointer) = Err cause.Mixed
integer_in (Missing call) = Err cause.NoValue

abbrev pub pointer_in : Value → Result (Option Pointer) Cause
pointer_in (Word zero) = Ok None
pointer_in (Word (suc n)) = Err cause.Mixed
pointer_in (Address pointer) = Ok (Some pointer)
pointer_in (Missing call) = Err cause.NoValue

abbrev pub null : Value
null = Word 0

abbrev pub not_null : Option Pointer → Result Pointer Cause
not_null None = Err cause.Null
not_null (Some pointer) = Ok pointer

-- where an access by an address is
abbrev pub target_in : Value → Result Pointer Cause
target_in address = and_go (pointer_in address) not_null

-- A pointer is moved by so many bytes: its offset goes to another word. Null can be moved by 0 alone,
-- and is then null.
abbrev pub moved : List Object → (is_back : Bool) → (bytes : ℕ) → (to : ℕ → ℕ) → Option Pointer → Result Value Cause
moved objects is_back zero to None = Ok (Word (to 0))
moved objects is_back (suc bytes) to None = Err cause.Null
moved objects is_back bytes to (Some pointer) =
    usable objects (pointer ∷ [])
    (if stays_within objects pointer is_back bytes then Ok (Address (with_offset to pointer)) else Err cause.Range)

-- to a member or substructure at this offset
abbrev pub moved_inside : List Object → (offset : ℕ) → Value → Result Value Cause
moved_inside objects offset address =
    and_go (pointer_in address) (moved objects false offset (λ start. word_sum start offset))

-- INTEGERS AND POINTERS IN CELLS

abbrev pub is_unset : Cell → Bool
is_unset Unset = true
is_unset (Byte n) = false
is_unset (Part k pointer) = false

abbrev pub is_part : Cell → Bool
is_part Unset = false
is_part (Byte n) = false
is_part (Part k pointer) = true

abbrev pub is_zero : Cell → Bool
is_zero Unset = false
is_zero (Byte n) = n == 0
is_zero (Part k pointer) = false

abbrev pub is_part_of : Pointer → (k : ℕ) → Cell → Bool
is_part_of pointer k Unset = false
is_part_of pointer k (Byte n) = false
is_part_of pointer k (Part j other) = (j == k) && same_pointer pointer other

-- the number that bytes stand for, the highest first
abbrev pub number_of : (before : ℕ) → List Cell → ℕ
number_of before [] = before
number_of before (Unset ∷ cells) = number_of (before * 256) cells
number_of before (Byte n ∷ cells) = number_of (before * 256 + n) cells
number_of before (Part k pointer ∷ cells) = number_of (before * 256) cells

-- as an integer of a type that makes of a number what it is worth
abbrev pub integer_from : (worth : ℕ → ℕ) → List Cell → Result Value Cause
integer_from worth cells =
    if list_any is_unset cells then Err cause.Unset
    else (if list_any is_part cells then Err cause.Mixed
    else Ok (Word (worth (number_of 0 cells))))

-- part k and the parts behind it, up to the fourth
abbrev pub are_parts_of : Pointer → (k : ℕ) → List Cell → Bool
are_parts_of pointer k [] = k == 4
are_parts_of pointer k (cell ∷ cells) = is_part_of pointer k cell && are_parts_of pointer (suc k) cells

abbrev pub whole_pointer : List Cell → Result Value Cause
whole_pointer [] = Err cause.Mixed
whole_pointer (Unset ∷ cells) = Err cause.Unset
whole_pointer (Byte n ∷ cells) = Err cause.Mixed
whole_pointer (Part k pointer ∷ cells) =
    if are_parts_of pointer 0 (Part k pointer ∷ cells) then Ok (Address pointer) else Err cause.Mixed

-- four zeros are null
abbrev pub pointer_from : List Cell → Result Value Cause
pointer_from cells =
    if list_any is_unset cells then Err cause.Unset
    else (if list_all is_zero cells then Ok null
    else whole_pointer cells)

-- the low bytes of a number in so many cells, the highest first
abbrev pub number_cells : (size n : ℕ) → List Cell
number_cells zero n = []
number_cells (suc size) n = Byte (n / 256 ^ size % 256) ∷ number_cells size n

abbrev pub pointer_cells : Pointer → List Cell
pointer_cells pointer = Part 0 pointer ∷ Part 1 pointer ∷ Part 2 pointer ∷ Part 3 pointer ∷ []

-- the cells of a value that is stored in so many; an address is stored as a pointer, in four
abbrev pub value_cells : (size : ℕ) → Value → Result (List Cell) Cause
value_cells size (Word n) = Ok (number_cells size n)
value_cells size (Address pointer) = Ok (pointer_cells pointer)
value_cells size (Missing call) = Err cause.NoValue

-- LOADS, STORES AND COPIES

abbrev pub loaded : (List Cell → Result Value Cause) → (size alignment : ℕ) → List Object → (address : Value) → Result Value Cause
loaded worth size alignment objects address =
    and_go (target_in address) (λ p. and_go (accessed objects p size alignment) worth)

abbrev pub stored : (size alignment : ℕ) → List Object → (address value : Value) → Result (List Object) Cause
stored size alignment objects address value =
    and_go (target_in address) (λ p.
    and_go (accessed objects p size alignment) (λ old.
    and_go (value_cells size value) (λ new. Ok (with_cells objects p new))))

-- A structure copy reads the cells as they are, unset and mixed ones too, and then writes them. The
-- places may be one, but else they may not overlap.

abbrev pub read_whole : (size alignment : ℕ) → List Object → (address : Value) → Result (List Cell) Cause
read_whole size alignment objects address = and_go (target_in address) (λ p. accessed objects p size alignment)

abbrev pub is_within : (size a b : ℕ) → Bool
is_within size a b = nat_lt a (b + size) && nat_lt b (a + size)

abbrev pub overlap : (size : ℕ) → Pointer → Pointer → Bool
overlap size (Into object offset) (Into other other_offset) =
    (object == other) && (not (offset == other_offset) && is_within size offset other_offset)
overlap size (Into object offset) (ToFunction function) = false
overlap size (ToFunction function) (Into object offset) = false
overlap size (ToFunction function) (ToFunction other) = false

abbrev pub written_whole : (size alignment : ℕ) → List Object → (to from : Value) → List Cell → Result (List Object) Cause
written_whole size alignment objects to from cells =
    and_go (target_in to) (λ p.
    and_go (accessed objects p size alignment) (λ old.
    and_go (target_in from) (λ q.
    if overlap size p q then Err cause.Overlap else Ok (with_cells objects p cells))))
