-- The system calls, as the bodies of the functions `exits`, `read` and `write`.
use Rattle.std.specs.Prelude.{ℕ, zero, suc, ◌-◌, ◌^◌, ◌==◌, not, if◌then◌else◌, List, [], ◌∷◌, ◌++◌, map, length, take, drop, Option, Some, None, Result, Ok, Err, codes}
use Rattle.std.specs.List.{list_any}
use Rattle.p9_base.specs.Words.{is_negative}
use Rattle.p9_lang.specs.Names.{same_name}
use Rattle.p9_cmean.specs.declared.Cause.{Cause}
use Rattle.p9_cmean.specs.declared.Cause.TheVariants as cause
use Rattle.p9_cmean.specs.declared.Place.{Place}
use Rattle.p9_cmean.specs.Cells.{Pointer, Into, ToFunction, Cell, Unset, Byte, Part, Object, Value, Word, State}
use Rattle.p9_cmean.specs.Plays.{Call, Play, Done, NoMeaning, Exit}
use Rattle.p9_cmean.specs.Access.{and_go, integer_in, pointer_in, target_in, accessed, object_at, usable, with_cells, is_unset, is_part}
use Rattle.p9_cmean.specs.Places.{or_wrong}

-- `exits`: null gives the empty text; else characters are read one after the other, up to the first
-- zero byte

abbrev pub behind : ℕ → Result (List ℕ) Cause → Result (List ℕ) Cause
behind c text = and_go text (λ others. Ok (c ∷ others))

-- behind the last cell the object ends
abbrev pub text_in : List Cell → Result (List ℕ) Cause
text_in [] = Err cause.Range
text_in (Unset ∷ cells) = Err cause.Unset
text_in (Part k pointer ∷ cells) = Err cause.Mixed
text_in (Byte zero ∷ cells) = Ok []
text_in (Byte (suc n) ∷ cells) = behind (suc n) (text_in cells)

abbrev pub text_at : List Object → Pointer → Result (List ℕ) Cause
text_at objects (Into object offset) =
    usable objects (Into object offset ∷ []) (text_in (drop offset (object_at objects object).cells))
text_at objects (ToFunction function) = Err cause.Range

abbrev pub exit_text : List Object → Option Pointer → Result (List ℕ) Cause
exit_text objects None = Ok []
exit_text objects (Some pointer) = text_at objects pointer

abbrev pub exits : Place → Option Pointer → State → Play Value
exits place pointer s = or_wrong place s (exit_text s.objects pointer) (λ text. Exit text s)

-- `write`: a descriptor other than 1 or a negative count gives -1; a count of 0 reads nothing; else
-- so many characters are read, in one access

abbrev pub minus_one : Value
minus_one = Word (2 ^ 32 - 1)

abbrev pub byte_of : Cell → ℕ
byte_of Unset = 0
byte_of (Byte n) = n
byte_of (Part k pointer) = 0

abbrev pub characters_in : List Cell → Result (List ℕ) Cause
characters_in cells =
    if list_any is_unset cells then Err cause.Unset
    else (if list_any is_part cells then Err cause.Mixed
    else Ok (map byte_of cells))

abbrev pub characters_at : List Object → Value → (count : ℕ) → Result (List ℕ) Cause
characters_at objects address count =
    and_go (target_in address) (λ pointer. and_go (accessed objects pointer count 1) characters_in)

abbrev pub written : Place → Value → (count : ℕ) → State → Play Value
written place address zero s = Done (Word 0) s
written place address (suc count) s =
    or_wrong place s (characters_at s.objects address (suc count)) (λ characters.
    Done (Word (suc count)) (record s { output = s.output ++ characters }))

abbrev pub write : Place → (descriptor : ℕ) → Value → (count : ℕ) → State → Play Value
write place descriptor address count s =
    if not (descriptor == 1) then Done minus_one s
    else (if is_negative count then Done minus_one s
    else written place address count s)

-- `read`: likewise with descriptor 0; the room lies in one live object, and is filled unless the
-- input ends

abbrev pub room_at : List Object → Value → (count : ℕ) → Result Pointer Cause
room_at objects address count =
    and_go (target_in address) (λ pointer. and_go (accessed objects pointer count 1) (λ cells. Ok pointer))

abbrev pub filled : Place → Value → (count : ℕ) → State → Play Value
filled place address zero s = Done (Word 0) s
filled place address (suc count) s =
    or_wrong place s (room_at s.objects address (suc count)) (λ pointer.
    Done (Word (length (take (suc count) s.input))) (record s {
      objects = with_cells s.objects pointer (map Byte (take (suc count) s.input));
      input = drop (suc count) s.input;
    }))

abbrev pub read : Place → (descriptor : ℕ) → Value → (count : ℕ) → State → Play Value
read place descriptor address count s =
    if not (descriptor == 0) then Done minus_one s
    else (if is_negative count then Done minus_one s
    else filled place address count s)

-- What a system call does with its arguments. A call has as many as the function has parameters.

abbrev pub exits_call : Place → List Value → State → Play Value
exits_call place [] s = NoMeaning place s
exits_call place (text ∷ []) s = or_wrong place s (pointer_in text) (λ pointer. exits place pointer s)
exits_call place (text ∷ (more ∷ others)) s = NoMeaning place s

abbrev pub transfer_call : (Place → ℕ → Value → ℕ → State → Play Value) → Place → List Value → State → Play Value
transfer_call transfer place (descriptor ∷ address ∷ count ∷ []) s =
    or_wrong place s (integer_in descriptor) (λ d. or_wrong place s (integer_in count) (λ n. transfer place d address n s))
transfer_call transfer place arguments s = NoMeaning place s

pub data SystemCall : Type 0 where
  Exits : SystemCall
  Read : SystemCall
  Write : SystemCall

abbrev pub system_call : List ℕ → Option SystemCall
system_call name =
    if same_name name (codes "exits") then Some Exits
    else (if same_name name (codes "read") then Some Read
    else (if same_name name (codes "write") then Some Write
    else None))

abbrev pub system_body : SystemCall → Call → State → Play Value
system_body Exits call s = exits_call call.place call.arguments s
system_body Read call s = transfer_call read call.place call.arguments s
system_body Write call s = transfer_call write call.place call.arguments s
