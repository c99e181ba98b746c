-- What the system calls of the form end with.
use Rattle.std.proofs.Common.{◌≡◌, ◌≢◌, ◌<◌, ◌≤◌, ℕ, zero, suc, ◌+◌, ◌^◌, true, false, nat_lt, nat_le, if◌then◌else◌, List, [], ◌∷◌, ◌++◌, map, length, take, All, Some, refl, sym, ap, ◌∙◌, arith, append-nil, length-append}
use Rattle.std.proofs.lemmas.Bool.{lt-leb}
use Rattle.std.specs.Prelude.{slice_get, codes}
use Rattle.p9_first.specs.Modules.{Source}
use Rattle.p9_first.specs.declared.Cause.TheVariants as cause
use Rattle.p9_first.specs.declared.Place.{Place}
use Rattle.p9_first.specs.Cells.{Global, Pointer, Null, Into, Byte, Object, Value, Word, Address, State}
use Rattle.p9_first.specs.Plays.{Call, Done, Wrong, Exit}
use Rattle.p9_first.specs.Turns.{Deep, Over, resolve, calls_to}
use Rattle.p9_first.specs.Access.{or_wrong}
use Rattle.p9_first.specs.SystemCalls.{read_in, text_in, characters_in, written, exits, system_body}
use Rattle.p9_first.specs.CRun.{functions_of}
use Rattle.p9_first.proofs.FormPlays.{characters_of_bytes, characters_past, text_of_bytes}

-- the object of a text
abbrev pub text_object : List ℕ → Object
text_object bytes = record { cells = map Byte bytes ++ Byte 0 ∷ []; alive = true }

cells_of_text : (bytes : List ℕ) → map Byte bytes ++ Byte 0 ∷ [] ≡ map Byte (bytes ++ 0 ∷ [])
cells_of_text [] = refl
cells_of_text (b ∷ bytes) = ap (λ cs. Byte b ∷ cs) (cells_of_text bytes)

-- a write of as many characters as the text has, its zero byte counted, or fewer
pub written_text : (place : Place) (o m : ℕ) (bytes : List ℕ) (s : State) → slice_get s.objects o ≡ Some (text_object bytes) → m ≤ length bytes + 1
    → written place (Into o 0) m s ≡ Done (Word m) (record s { output = s.output ++ take m (bytes ++ 0 ∷ []) })
written_text place o zero bytes s h le = λ i. Done (Word 0) (record s { output = sym (append-nil s.output) i })
written_text place o (suc m) bytes s h le =
    let l = length-append bytes (0 ∷ []) in
    ap (λ r. or_wrong place s (read_in r 0 (characters_in (suc m))) (λ cs. Done (Word (suc m)) (record s { output = s.output ++ cs }))) h
    ∙ ap (λ cs. or_wrong place s (characters_in (suc m) cs) (λ cs. Done (Word (suc m)) (record s { output = s.output ++ cs }))) (cells_of_text bytes)
    ∙ ap (λ r. or_wrong place s r (λ cs. Done (Word (suc m)) (record s { output = s.output ++ cs }))) (characters_of_bytes (suc m) (bytes ++ 0 ∷ []) (omega (arith, l)))

-- a write of more
pub written_past : (place : Place) (o m : ℕ) (bytes : List ℕ) (s : State) → slice_get s.objects o ≡ Some (text_object bytes) → length bytes + 1 < m
    → written place (Into o 0) m s ≡ Wrong cause.Range place s
written_past place o zero bytes s h le = absurd (omega arith)
written_past place o (suc m) bytes s h le =
    let l = length-append bytes (0 ∷ []) in
    ap (λ r. or_wrong place s (read_in r 0 (characters_in (suc m))) (λ cs. Done (Word (suc m)) (record s { output = s.output ++ cs }))) h
    ∙ ap (λ cs. or_wrong place s (characters_in (suc m) cs) (λ cs. Done (Word (suc m)) (record s { output = s.output ++ cs }))) (cells_of_text bytes)
    ∙ ap (λ r. or_wrong place s r (λ cs. Done (Word (suc m)) (record s { output = s.output ++ cs }))) (characters_past (suc m) (bytes ++ 0 ∷ []) (omega (arith, l)))

-- `exits` on a text without a zero byte
pub exits_text : (place : Place) (o : ℕ) (bytes : List ℕ) (s : State) → slice_get s.objects o ≡ Some (text_object bytes) → All (λ c. c ≢ 0) bytes
    → exits place (Into o 0) s ≡ Exit bytes s
exits_text place o bytes s h z =
    ap (λ r. or_wrong place s (read_in r 0 text_in) (λ text. Exit text s)) h
    ∙ ap (λ r. or_wrong place s r (λ text. Exit text s)) (text_of_bytes bytes z)

pub exits_null : (place : Place) (s : State) → exits place Null s ≡ Exit [] s
exits_null place s = refl

-- The calls themselves, where there is room and a turn

abbrev system_call : List ℕ → List Value → Place → Call
system_call name arguments place = record { function = Global name; arguments = arguments; place = place }

has_room : (active : ℕ) → active + 64 ≤ 16777216 → nat_lt 16777216 (active + 64) ≡ false
has_room active le = lt-leb 16777217 (active + 64) (omega (arith, le))

-- a count below 2^31 isn't negative
pub write_ends : (modules : List Source) (d active n c o m : ℕ) (place : Place) (s : State) → active + 64 ≤ 16777216 → m < 2 ^ 31
    → calls_to (suc d) (functions_of modules) active (suc n) c (system_call (codes "write") (Word 1 ∷ Address (Into o 0) ∷ Word m ∷ []) place) s
    ≡ resolve (calls_to d (functions_of modules)) (active + 64) n c (written place (Into o 0) m s)
write_ends modules d active n c o m place s le lt =
    ap (λ b. if b then Over (Deep s.output place) c else resolve (calls_to d (functions_of modules)) (active + 64) n c (system_body (codes "write") (system_call (codes "write") (Word 1 ∷ Address (Into o 0) ∷ Word m ∷ []) place) s)) (has_room active le)
    ∙ ap (λ b. resolve (calls_to d (functions_of modules)) (active + 64) n c (if b then Done (Word 4294967295) s else written place (Into o 0) m s)) (not_negative m lt)
  where
    not_negative : (m : ℕ) → m < 2147483648 → nat_le 2147483648 m ≡ false
    not_negative m h = lt-leb 2147483648 m h

pub exits_ends : (modules : List Source) (d active n c : ℕ) (pointer : Pointer) (place : Place) (s : State) → active + 64 ≤ 16777216
    → calls_to (suc d) (functions_of modules) active (suc n) c (system_call (codes "exits") (Address pointer ∷ []) place) s
    ≡ resolve (calls_to d (functions_of modules)) (active + 64) n c (exits place pointer s)
exits_ends modules d active n c pointer place s le =
    ap (λ b. if b then Over (Deep s.output place) c else resolve (calls_to d (functions_of modules)) (active + 64) n c (exits place pointer s)) (has_room active le)
