-- Operands, by their tokens.
use Rattle.std.specs.Prelude.{ℕ, ◌+◌, ◌-◌, ◌%◌, ◌^◌, nat_le, Bool, true, false, List, [], ◌∷◌, take, drop, position, Option, Some, None, option_map, option_and_then, if◌then◌else◌}
use Rattle.p9_abs.specs.declared.instructions.Op.{Op}
use Rattle.p9_abs.specs.declared.instructions.Op.TheVariants.{Beq, Bne, Bgez, Bgtz, Blez, Bltz, Jmp, Jal}
use Rattle.p9_statement.specs.declared.words.Base.TheVariants as bases
use Rattle.p9_statement.specs.declared.words.Sense.{Sense}
use Rattle.p9_statement.specs.declared.words.Sense.TheVariants as senses
use Rattle.p9_statement.specs.declared.lexemes.Lexeme.{Lexeme}
use Rattle.p9_statement.specs.declared.lexemes.Lexeme.TheVariants.{Word, Number, Character, Open, Close, Plus, Minus, Less, Greater, Dollar}
use Rattle.p9_statement.specs.declared.operands.SymbolName.{SymbolName}
use Rattle.p9_statement.specs.declared.operands.Argument.{Argument}
use Rattle.p9_statement.specs.declared.operands.Argument.TheVariants.{Register, Constant, Address, ArgumentAddress, FrameAddress, Memory, ArgumentMemory, FrameMemory, RegisterMemory, Label, Function, Hi, Lo}

abbrev pub is_open : Lexeme → Bool
is_open Open = true
is_open _ = false

-- Numbers

abbrev pub only_number : List Lexeme → Option ℕ
only_number (Number n ∷ []) = Some n
only_number _ = None

-- the negative of a number, modulo 2^32
abbrev pub negated : ℕ → ℕ
negated n = (2 ^ 32 - n) % 2 ^ 32

-- a number, `-` and a number, or a character
abbrev pub constant_of : List Lexeme → Option ℕ
constant_of (Number n ∷ []) = Some n
constant_of (Character c ∷ []) = Some c
constant_of (Minus ∷ rest) = option_map negated (only_number rest)
constant_of _ = None

-- what stands behind a name: nothing, or `+` and a number
abbrev pub offset_of : List Lexeme → Option ℕ
offset_of [] = Some 0
offset_of (Plus ∷ rest) = only_number rest
offset_of _ = None

-- Symbols: a name, or a name and `<>` for one that is local to the file

abbrev pub symbol_of : List Lexeme → Option SymbolName
symbol_of (Word w sense ∷ Less ∷ Greater ∷ rest) = Some (record { word = w; local = true })
symbol_of (Word w sense ∷ Less ∷ rest) = None
symbol_of (Word w sense ∷ rest) = Some (record { word = w; local = false })
symbol_of _ = None

abbrev pub behind_symbol : List Lexeme → List Lexeme
behind_symbol (Word w sense ∷ Less ∷ Greater ∷ rest) = rest
behind_symbol (Word w sense ∷ rest) = rest
behind_symbol _ = []

-- a symbol alone
abbrev pub if_nothing : {A : Type 0} → List Lexeme → Option A → Option A
if_nothing [] o = o
if_nothing (l ∷ rest) o = None

abbrev pub only_symbol : List Lexeme → Option SymbolName
only_symbol lexemes = if_nothing (behind_symbol lexemes) (symbol_of lexemes)

-- Memory: what stands before the `(`, and the word between the parentheses

-- behind the `(`: a word and the `)`
abbrev pub base_of : List Lexeme → Option Sense
base_of (Word w sense ∷ Close ∷ []) = Some sense
base_of _ = None

-- before a register: nothing, or a constant
abbrev pub displacement : List Lexeme → Option ℕ
displacement [] = Some 0
displacement (l ∷ rest) = constant_of (l ∷ rest)

-- before FP: nothing, a number, or a name and its offset
abbrev pub argument_offset : List Lexeme → Option ℕ
argument_offset [] = Some 0
argument_offset (Word w sense ∷ rest) = offset_of rest
argument_offset (l ∷ rest) = only_number (l ∷ rest)

abbrev pub argument_memory : ℕ → Option Argument
argument_memory o = if nat_le o 65535 then Some (ArgumentMemory o) else None

-- before SP: `-` and a number, or a name and these
abbrev pub below_entry : List Lexeme → Option ℕ
below_entry (Minus ∷ rest) = option_map negated (only_number rest)
below_entry _ = None

abbrev pub frame_offset : List Lexeme → Option ℕ
frame_offset (Word w sense ∷ rest) = below_entry rest
frame_offset rest = below_entry rest

-- before SB: a symbol and its offset
abbrev pub static_memory : List Lexeme → Option Argument
static_memory lexemes =
    option_and_then (λ s. option_map (λ o. Memory s o) (offset_of (behind_symbol lexemes))) (symbol_of lexemes)

abbrev pub memory_by : Sense → List Lexeme → Option Argument
memory_by (senses.Register r) before = option_map (λ o. RegisterMemory r o) (displacement before)
memory_by (senses.Based bases.Static) before = static_memory before
memory_by (senses.Based bases.Argument) before = option_and_then argument_memory (argument_offset before)
memory_by (senses.Based bases.Frame) before = option_map (λ o. FrameMemory o) (frame_offset before)
memory_by _ before = None

-- the `(` stands at a place, if there is one
abbrev pub memory_at : Option ℕ → List Lexeme → Option Argument
memory_at None lexemes = None
memory_at (Some at) lexemes =
    option_and_then (λ sense. memory_by sense (take at lexemes)) (base_of (drop (at + 1) lexemes))

abbrev pub memory_of : List Lexeme → Option Argument
memory_of lexemes = memory_at (position is_open lexemes) lexemes

-- the symbol of `name(SB)` or `name<>(SB)`
abbrev pub if_static : {A : Type 0} → Sense → Option A → Option A
if_static (senses.Based bases.Static) o = o
if_static _ o = None

abbrev pub place_at : Option ℕ → List Lexeme → Option SymbolName
place_at None lexemes = None
place_at (Some at) lexemes =
    option_and_then (λ sense. if_static sense (only_symbol (take at lexemes))) (base_of (drop (at + 1) lexemes))

abbrev pub place_of : List Lexeme → Option SymbolName
place_of lexemes = place_at (position is_open lexemes) lexemes

-- Operands

-- a `$` makes an address of memory that isn't at a register
abbrev pub address_of : Argument → Option Argument
address_of (Memory s o) = Some (Address s o)
address_of (ArgumentMemory o) = Some (ArgumentAddress o)
address_of (FrameMemory o) = Some (FrameAddress o)
address_of _ = None

-- behind a `$`: a constant, or what an address is of
abbrev pub constant_or_address : Option ℕ → List Lexeme → Option Argument
constant_or_address (Some c) lexemes = Some (Constant c)
constant_or_address None lexemes = option_and_then address_of (memory_of lexemes)

abbrev pub special_of : Sense → Option Argument
special_of (senses.Register r) = Some (Register r)
special_of senses.Hi = Some Hi
special_of senses.Lo = Some Lo
special_of _ = None

abbrev pub plain_argument : List Lexeme → Option Argument
plain_argument (Word w sense ∷ []) = special_of sense
plain_argument (Dollar ∷ rest) = constant_or_address (constant_of rest) rest
plain_argument rest = memory_of rest

abbrev pub label_argument : List Lexeme → Option Argument
label_argument (Word w sense ∷ []) = Some (Label w)
label_argument _ = None

abbrev pub call_argument : List Lexeme → Option Argument
call_argument (Word w sense ∷ []) = special_of sense
call_argument rest = option_map (λ s. Function s) (place_of rest)

-- the last operand of a branch is a label, and that of JAL may be a function
abbrev pub last_argument : Op → List Lexeme → Option Argument
last_argument Beq lexemes = label_argument lexemes
last_argument Bne lexemes = label_argument lexemes
last_argument Bgez lexemes = label_argument lexemes
last_argument Bgtz lexemes = label_argument lexemes
last_argument Blez lexemes = label_argument lexemes
last_argument Bltz lexemes = label_argument lexemes
last_argument Jmp lexemes = label_argument lexemes
last_argument Jal lexemes = call_argument lexemes
last_argument _ lexemes = plain_argument lexemes
