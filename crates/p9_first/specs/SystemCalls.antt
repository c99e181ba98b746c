-- The system calls, as the bodies of the functions `exits`, `read` and `write`. They read texts as
-- characters, one after the other, within the object that these lie in.
use Rattle.std.specs.Prelude.{ℕ, zero, suc, ◌-◌, ◌^◌, ◌==◌, not, if◌then◌else◌, List, [], ◌∷◌, ◌++◌, map, length, take, drop, slice_get, Option, Some, None, Result, Ok, Err, codes}
use Rattle.p9_base.specs.Words.{is_negative}
use Rattle.p9_first.specs.Form.{same_name}
use Rattle.p9_first.specs.declared.Cause.{Cause}
use Rattle.p9_first.specs.declared.Cause.TheVariants as cause
use Rattle.p9_first.specs.declared.Place.{Place}
use Rattle.p9_first.specs.Cells.{Pointer, Null, Into, ToFunction, Cell, Unset, Byte, Part, Object, Value, Word, State}
use Rattle.p9_first.specs.Plays.{Call, Play, Done, Wrong, Exit}
use Rattle.p9_first.specs.Access.{with_pointer, with_word, or_wrong, write_at, cells_at}

abbrev pub behind : ℕ → Result (List ℕ) Cause → Result (List ℕ) Cause
behind c (Ok text) = Ok (c ∷ text)
behind c (Err why) = Err why

-- the characters up to the first zero byte; behind the last cell the object ends
abbrev pub text_in : List Cell → Result (List ℕ) Cause
text_in [] = Err cause.Range
text_in (Unset ∷ cells) = Err cause.Unset
text_in (Part k pointer ∷ cells) = Err cause.Mixed
text_in (Byte zero ∷ cells) = Ok []
text_in (Byte (suc n) ∷ cells) = behind (suc n) (text_in cells)

-- so many characters
abbrev pub characters_in : ℕ → List Cell → Result (List ℕ) Cause
characters_in zero cells = Ok []
characters_in (suc count) [] = Err cause.Range
characters_in (suc count) (Unset ∷ cells) = Err cause.Unset
characters_in (suc count) (Part k pointer ∷ cells) = Err cause.Mixed
characters_in (suc count) (Byte n ∷ cells) = behind n (characters_in count cells)

-- what is read of the cells from a place in a live object on
abbrev pub read_in : Option Object → (offset : ℕ) → (List Cell → Result (List ℕ) Cause) → Result (List ℕ) Cause
read_in None offset reading = Err cause.Range
read_in (Some object) offset reading = if object.alive then reading (drop offset object.cells) else Err cause.Dead

abbrev pub read_characters : List Object → Pointer → (List Cell → Result (List ℕ) Cause) → Result (List ℕ) Cause
read_characters objects Null reading = Err cause.Null
read_characters objects (Into object offset) reading = read_in (slice_get objects object) offset reading
read_characters objects (ToFunction function) reading = Err cause.Range

-- `exits`: null gives the empty text

abbrev pub exit_text : List Object → Pointer → Result (List ℕ) Cause
exit_text objects Null = Ok []
exit_text objects (Into object offset) = read_characters objects (Into object offset) text_in
exit_text objects (ToFunction function) = read_characters objects (ToFunction function) text_in

abbrev pub exits : Place → Pointer → State → Play Value
exits place pointer s = or_wrong place s (exit_text s.objects pointer) (λ text. Exit text s)

-- `write`: a descriptor other than 1 or a negative count gives -1; a count of 0 reads nothing

abbrev pub minus_one : Value
minus_one = Word (2 ^ 32 - 1)

abbrev pub written : Place → Pointer → (count : ℕ) → State → Play Value
written place pointer zero s = Done (Word 0) s
written place pointer (suc count) s =
    or_wrong place s (read_characters s.objects pointer (characters_in (suc count))) (λ characters.
    Done (Word (suc count)) (record s { output = s.output ++ characters }))

abbrev pub write : Place → (descriptor : ℕ) → Pointer → (count : ℕ) → State → Play Value
write place descriptor pointer count s =
    if not (descriptor == 1) then Done minus_one s
    else (if is_negative count then Done minus_one s
    else written place pointer count s)

-- `read`: likewise with descriptor 0; the room lies in one live object, and is filled unless the
-- input ends

abbrev pub filled : Place → Pointer → (count : ℕ) → State → Play Value
filled place pointer zero s = Done (Word 0) s
filled place pointer (suc count) s =
    or_wrong place s (cells_at s.objects pointer (suc count) 1) (λ room.
    Done (Word (length (take (suc count) s.input))) (record s {
      objects = write_at s.objects pointer (map Byte (take (suc count) s.input));
      input = drop (suc count) s.input;
    }))

abbrev pub read : Place → (descriptor : ℕ) → Pointer → (count : ℕ) → State → Play Value
read place descriptor pointer count s =
    if not (descriptor == 0) then Done minus_one s
    else (if is_negative count then Done minus_one s
    else filled place pointer count s)

-- What a system call does with its arguments; typing leaves no other number of them

abbrev pub exits_call : Place → List Value → State → Play Value
exits_call place (text ∷ []) s = with_pointer place text s (λ pointer. exits place pointer s)
exits_call place _ s = Wrong cause.WrongCall place s

abbrev pub transfer_call : (Place → ℕ → Pointer → ℕ → State → Play Value) → Place → List Value → State → Play Value
transfer_call transfer place (descriptor ∷ room ∷ count ∷ []) s =
    with_word place descriptor s (λ d. with_pointer place room s (λ pointer. with_word place count s (λ n. transfer place d pointer n s)))
transfer_call transfer place _ s = Wrong cause.WrongCall place s

abbrev pub system_body : List ℕ → Call → State → Play Value
system_body name call s =
    if same_name name (codes "exits") then exits_call call.place call.arguments s
    else (if same_name name (codes "read") then transfer_call read call.place call.arguments s
    else transfer_call write call.place call.arguments s)
