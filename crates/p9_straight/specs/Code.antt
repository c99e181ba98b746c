-- The instructions of `main`, where each variable has an address and the texts lie one behind the
-- other.
use Rattle.std.specs.Prelude.{ℕ, ◌+◌, ◌*◌, ◌/◌, ◌%◌, List, [], ◌∷◌, ◌++◌, length, flat_map, Some, None, unwrap_or}
use Rattle.p9_base.specs.Numbers.{word_bytes}
use Rattle.p9_r3k.specs.declared.inst.Inst.{Inst}
use Rattle.p9_r3k.specs.declared.inst.Inst.TheVariants.{Addiu, Lui, Ori, Lw, Sw, Sll, Addu, Syscall}
use Rattle.p9_r3k.specs.Table.{word_of}
use Rattle.p9_r3k.specs.Memory.{text_start}
use Rattle.p9_r3k.specs.Start.{page_from}
use Rattle.p9_aout.specs.Image.{ImageParts}
use Rattle.p9_form.specs.declared.file.Operand.{Operand}
use Rattle.p9_form.specs.declared.file.Operand.TheVariants.{Variable, Number}
use Rattle.p9_form.specs.declared.file.Statement.{Statement}
use Rattle.p9_form.specs.declared.file.Statement.TheVariants.{Assign, Write, Exits}
use Rattle.p9_form.specs.declared.file.File.{File}
use Rattle.p9_form.specs.Sharing.{padded, mains}
use Rattle.p9_straight.specs.Layout.{init_bytes, bss_size, address_of, texts_at, end_at}

abbrev pub nothing : Inst
nothing = Sll 0 0 0

-- a word into a register
abbrev pub set_register : (r value : ℕ) → List Inst
set_register r value = Lui r (value / 65536) ∷ Ori r r (value % 65536) ∷ []

-- an operand into a register; the word that is loaded is there after one instruction more
abbrev pub load_operand : (place : List ℕ → ℕ) → (r : ℕ) → Operand → List Inst
load_operand place r (Variable x) = set_register r (place x) ++ (Lw r r 0 ∷ nothing ∷ [])
load_operand place r (Number value) = set_register r value

-- the number of a system call, and the call
abbrev pub system_call : (number : ℕ) → List Inst
system_call number = Addiu 0 1 number ∷ Syscall 0 ∷ []

-- `exits` with the text at this address
abbrev pub exit_code : (at : ℕ) → List Inst
exit_code at = set_register 2 at ++ (Sw 29 2 4 ∷ system_call 8)

-- register 2 into a variable
abbrev pub store_code : (place : List ℕ → ℕ) → (x : List ℕ) → List Inst
store_code place x = set_register 4 (place x) ++ (Sw 4 2 0 ∷ [])

-- a statement, whose text lies at this address
abbrev pub statement_code : (place : List ℕ → ℕ) → (at : ℕ) → Statement → List Inst
statement_code place at (Assign x left None) = load_operand place 2 left ++ store_code place x
statement_code place at (Assign x left (Some right)) =
    load_operand place 2 left ++ (load_operand place 3 right ++ (Addu 2 3 2 ∷ store_code place x))
statement_code place at (Write text count) =
    load_operand place 2 count
    ++ (Addiu 0 3 1 ∷ Sw 29 3 4 ∷ (set_register 3 at ++ (Sw 29 3 8 ∷ Sw 29 2 12 ∷ system_call 20)))
statement_code place at (Exits None) = Sw 29 0 4 ∷ system_call 8
statement_code place at (Exits (Some text)) = exit_code at

-- where the next statement's text lies
abbrev pub text_after : (at : ℕ) → Statement → ℕ
text_after at (Assign x left right) = at
text_after at (Write text count) = at + padded (length text)
text_after at (Exits None) = at
text_after at (Exits (Some text)) = at + padded (length text)

-- statements whose texts lie from this address on; where they end, the program exits with the end's text
abbrev pub statements_code : (place : List ℕ → ℕ) → (at end : ℕ) → List Statement → List Inst
statements_code place at end [] = exit_code end
statements_code place at end (s ∷ ss) = statement_code place at s ++ statements_code place (text_after at s) end ss

-- the room for the arguments of system calls, and then the statements
abbrev pub main_code : (place : List ℕ → ℕ) → (at end : ℕ) → List Statement → List Inst
main_code place at end ss = Addiu 29 29 65520 ∷ statements_code place at end ss

-- so many bytes; addresses don't change their number
abbrev pub code_size : List Statement → ℕ
code_size ss = 4 * length (main_code (λ x. 0) 0 0 ss)

-- The image

-- the one `main`
abbrev pub first_of : List (List Statement) → List Statement
first_of [] = []
first_of (ss ∷ others) = ss

abbrev pub main_of : List File → List Statement
main_of files = first_of (mains files)

-- data begin on the page behind the text
abbrev pub data_start : List File → ℕ
data_start files = page_from (text_start + code_size (main_of files))

-- the address of each variable; names that aren't defined have none
abbrev pub place_in : List File → (name : List ℕ) → ℕ
place_in files name = unwrap_or (address_of (data_start files) files name) 0

abbrev pub code_of : List File → List Inst
code_of files = main_code (place_in files) (texts_at (data_start files) files) (end_at (data_start files) files) (main_of files)

abbrev pub code_bytes : List Inst → List ℕ
code_bytes code = flat_map (λ i. word_bytes (word_of i)) code

abbrev pub parts_for : List File → ImageParts
parts_for files = record {
  entry = text_start;
  text = code_bytes (code_of files);
  init = init_bytes files;
  bss = bss_size files;
}
