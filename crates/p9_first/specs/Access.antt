-- Reading and writing the cells of objects. Values of pointer and structure types have no clauses yet.
use Rattle.std.specs.Prelude.{ℕ, zero, suc, ◌+◌, ◌*◌, ◌/◌, ◌%◌, ◌^◌, ◌==◌, nat_lt, if◌then◌else◌, Bool, true, false, not, List, [], ◌∷◌, ◌++◌, length, take, drop, slice_get, slice_set, Option, Some, None, Result, Ok, Err}
use Rattle.std.specs.List.{list_any}
use Rattle.p9_base.specs.Numbers.{sign_extended}
use Rattle.p9_first.specs.Types.{TypeTree, Char, Short}
use Rattle.p9_first.specs.Layout.{size_of, alignment_of}
use Rattle.p9_first.specs.declared.Cause.{Cause}
use Rattle.p9_first.specs.declared.Cause.TheVariants as cause
use Rattle.p9_first.specs.declared.Place.{Place}
use Rattle.p9_first.specs.Cells.{Pointer, Null, Into, ToFunction, Cell, Unset, Byte, Part, Object, Value, Word, Address, Missing, State}
use Rattle.p9_first.specs.Plays.{Play, Done, Wrong}

-- Cells of one object

-- the cells of an access, which lies in a live object at a multiple of its alignment
abbrev pub cells_within : Option Object → (offset size alignment : ℕ) → Result (List Cell) Cause
cells_within None offset size alignment = Err cause.Range
cells_within (Some object) offset size alignment =
    if not object.alive then Err cause.Dead
    else (if not (offset % alignment == 0) then Err cause.Misaligned
    else (if nat_lt (length object.cells) (offset + size) then Err cause.Range
    else Ok (take size (drop offset object.cells))))

-- a function counts as an object of size 0
abbrev pub cells_at : List Object → Pointer → (size alignment : ℕ) → Result (List Cell) Cause
cells_at objects Null size alignment = Err cause.Null
cells_at objects (Into object offset) size alignment = cells_within (slice_get objects object) offset size alignment
cells_at objects (ToFunction function) size alignment = Err cause.Range

abbrev pub is_unset : Cell → Bool
is_unset Unset = true
is_unset _ = false

abbrev pub is_part : Cell → Bool
is_part (Part k pointer) = true
is_part _ = false

-- the number that cells stand for, the highest first
abbrev pub number_of : (before : ℕ) → List Cell → ℕ
number_of before [] = before
number_of before (Byte n ∷ cells) = number_of (before * 256 + n) cells
number_of before (_ ∷ cells) = number_of (before * 256) cells

-- a char or short with a sign is widened with it
abbrev pub widened : TypeTree → ℕ → ℕ
widened Char n = sign_extended 8 n
widened Short n = sign_extended 16 n
widened _ n = n

-- a number as an integer of a type, of which it keeps the low bits
abbrev pub converted : TypeTree → ℕ → ℕ
converted type n = widened type (n % 256 ^ size_of type)

-- what cells are worth as an integer of a type
abbrev pub integer_in : TypeTree → List Cell → Result Value Cause
integer_in type cells =
    if list_any is_unset cells then Err cause.Unset
    else (if list_any is_part cells then Err cause.Mixed
    else Ok (Word (widened type (number_of 0 cells))))

-- the low bytes of a number in so many cells, the highest first
abbrev pub number_cells : (size n : ℕ) → List Cell
number_cells zero n = []
number_cells (suc size) n = Byte (n / 256 ^ size % 256) ∷ number_cells size n

-- the object with these cells from the offset on
abbrev pub overwritten : Object → (offset : ℕ) → List Cell → Object
overwritten object offset cells = record object {
  cells = take offset object.cells ++ (cells ++ drop (offset + length cells) object.cells);
}

abbrev pub write_within : Option Object → List Object → (object offset : ℕ) → List Cell → List Object
write_within None objects number offset cells = objects
write_within (Some object) objects number offset cells = slice_set objects number (overwritten object offset cells)

abbrev pub write_at : List Object → Pointer → List Cell → List Object
write_at objects (Into object offset) cells = write_within (slice_get objects object) objects object offset cells
write_at objects _ cells = objects

-- Use of values. A value that a call didn't give is named at that call. Typing leaves no integer
-- where a pointer is used, and no pointer where an integer is.

abbrev pub with_pointer : {A : Type 0} → Place → Value → State → (Pointer → Play A) → Play A
with_pointer place (Word n) s next = Wrong cause.Mixed place s
with_pointer place (Address pointer) s next = next pointer
with_pointer place (Missing call) s next = Wrong cause.NoValue call s

abbrev pub with_word : {A : Type 0} → Place → Value → State → (ℕ → Play A) → Play A
with_word place (Word n) s next = next n
with_word place (Address pointer) s next = Wrong cause.Mixed place s
with_word place (Missing call) s next = Wrong cause.NoValue call s

abbrev pub or_wrong : {A B : Type 0} → Place → State → Result A Cause → (A → Play B) → Play B
or_wrong place s (Ok x) next = next x
or_wrong place s (Err why) next = Wrong why place s

-- Reading and writing an integer of a type

abbrev pub read_from : TypeTree → Place → Pointer → State → Play Value
read_from type place pointer s =
    or_wrong place s (cells_at s.objects pointer (size_of type) (alignment_of type)) (λ cells.
    or_wrong place s (integer_in type cells) (λ value. Done value s))

abbrev pub load : TypeTree → Place → Value → State → Play Value
load type place address s = with_pointer place address s (λ pointer. read_from type place pointer s)

-- the value of an assignment is the one that is written
abbrev pub write_to : TypeTree → Place → Pointer → ℕ → State → Play Value
write_to type place pointer n s =
    or_wrong place s (cells_at s.objects pointer (size_of type) (alignment_of type)) (λ cells.
    Done (Word (converted type n)) (record s { objects = write_at s.objects pointer (number_cells (size_of type) n) }))

abbrev pub store : TypeTree → Place → Value → Value → State → Play Value
store type place address value s =
    with_pointer place address s (λ pointer. with_word place value s (λ n. write_to type place pointer n s))
