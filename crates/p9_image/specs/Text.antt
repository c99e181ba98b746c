-- The bytes of the text: the words of lines one behind the other, with the addresses and targets that the lines name.
use Rattle.std.specs.Prelude.{ℕ, ◌+◌, ◌-◌, ◌/◌, ◌%◌, ◌^◌, Option, Some, None, List, [], ◌∷◌, ◌++◌, slice_get, slice_index, All}
use Rattle.p9_base.specs.Numbers.{word_bytes}
use Rattle.p9_r3k.specs.declared.inst.Inst.{Inst}
use Rattle.p9_r3k.specs.declared.inst.Inst.TheVariants.{J, Jal, Beq, Bne, Blez, Bgtz, Bltz, Bgez, Bltzal, Bgezal}
use Rattle.p9_r3k.specs.declared.lines.Line.{Line}
use Rattle.p9_r3k.specs.Table.{Fits, word_of}
use Rattle.p9_r3k.specs.Straight.{Addresses, filled}
use Rattle.p9_r3k.specs.Delayed.{line_address}

-- Addresses of the symbols of each module

abbrev pub address_in : Option (List ℕ) → ℕ → ℕ
address_in None k = 0
address_in (Some list) k = slice_index list k

-- 0 of what has none
abbrev pub address_at : List (List ℕ) → (unit symbol : ℕ) → ℕ
address_at tables unit symbol = address_in (slice_get tables unit) symbol

abbrev pub addresses : List (List ℕ) → Addresses
addresses tables = record { line = line_address; symbol = address_at tables }

-- Targets

-- from the line behind line i to line t, in words, as a half word
abbrev pub distance : (i t : ℕ) → ℕ
distance i t = (t + 2 ^ 32 - (i + 1)) % 2 ^ 16

-- the word that line t is in its region of 256 MiB
abbrev pub jump_index : ℕ → ℕ
jump_index t = line_address t / 4 % 2 ^ 26

-- the branch or jump of line i goes to line t
abbrev pub sent_to : (i t : ℕ) → Inst → Inst
sent_to i t (J index) = J (jump_index t)
sent_to i t (Jal index) = Jal (jump_index t)
sent_to i t (Beq rs rt imm) = Beq rs rt (distance i t)
sent_to i t (Bne rs rt imm) = Bne rs rt (distance i t)
sent_to i t (Blez rs imm) = Blez rs (distance i t)
sent_to i t (Bgtz rs imm) = Bgtz rs (distance i t)
sent_to i t (Bltz rs imm) = Bltz rs (distance i t)
sent_to i t (Bgez rs imm) = Bgez rs (distance i t)
sent_to i t (Bltzal rs imm) = Bltzal rs (distance i t)
sent_to i t (Bgezal rs imm) = Bgezal rs (distance i t)
sent_to i t inst = inst

abbrev pub with_target : ℕ → Option ℕ → Inst → Inst
with_target i None inst = inst
with_target i (Some t) inst = sent_to i t inst

-- what stands in the word of line i
abbrev pub patched : List (List ℕ) → ℕ → Line → Inst
patched tables i line = with_target i line.target (filled (addresses tables) line)

-- of lines whose first has number i
abbrev pub text_from : List (List ℕ) → ℕ → List Line → List ℕ
text_from tables i [] = []
text_from tables i (line ∷ rest) = word_bytes (word_of (patched tables i line)) ++ text_from tables (i + 1) rest

abbrev pub text_bytes : List (List ℕ) → List Line → List ℕ
text_bytes tables lines = text_from tables 0 lines

-- the fields of each line's instruction fit their bits
abbrev pub LinesFit : List Line → Type 0
LinesFit lines = All (λ (line : Line). Fits line.inst) lines
