-- The numbers of statements are words where those of their tokens are.
use Rattle.std.proofs.Common.{ℕ, ◌+◌, ◌%◌, ◌^◌, ◌==◌, ◌<◌, leb, Bool, true, false, ◌&&◌, cond, List, [], ◌∷◌, take, drop, position, Option, Some, None, IfSome, arith}
use Rattle.std.specs.Prelude.{option_map, option_and_then}
use Rattle.p9_abs.specs.declared.instructions.Op.{Op}
use Rattle.p9_abs.specs.declared.instructions.Op.TheVariants.{Beq, Bne, Bgez, Bgtz, Blez, Bltz, Jmp, Jal}
use Rattle.p9_object.specs.Laws.{IsWord}
use Rattle.p9_statement.specs.declared.words.Base.TheVariants as bases
use Rattle.p9_statement.specs.declared.words.Directive.{Directive}
use Rattle.p9_statement.specs.declared.words.Directive.TheVariants as directives
use Rattle.p9_statement.specs.declared.words.Sense.{Sense}
use Rattle.p9_statement.specs.declared.words.Sense.TheVariants as senses
use Rattle.p9_statement.specs.declared.lexemes.Lexeme.{Lexeme}
use Rattle.p9_statement.specs.declared.lexemes.Lexeme.TheVariants.{Word, Number, Character, Text, Colon, Plus, Minus, Less, Greater, Dollar}
use Rattle.p9_statement.specs.declared.operands.SymbolName.{SymbolName}
use Rattle.p9_statement.specs.declared.operands.Argument.{Argument}
use Rattle.p9_statement.specs.declared.operands.Argument.TheVariants as operands
use Rattle.p9_statement.specs.declared.statements.Arguments.{Arguments}
use Rattle.p9_statement.specs.declared.statements.Arguments.TheVariants.{Zero, One, Two, Three}
use Rattle.p9_statement.specs.declared.statements.Datum.{Datum}
use Rattle.p9_statement.specs.declared.statements.Datum.TheVariants as data_values
use Rattle.p9_statement.specs.declared.statements.Statement.{Statement}
use Rattle.p9_statement.specs.declared.statements.Statement.TheVariants as statements
use Rattle.p9_statement.specs.declared.statements.Line.{Line}
use Rattle.p9_statement.specs.Operands.{is_open, only_number, negated, constant_of, offset_of, symbol_of, behind_symbol, base_of, displacement, argument_offset, argument_memory, frame_offset, static_memory, memory_by, memory_at, memory_of, place_of, address_of, constant_or_address, special_of, plain_argument, label_argument, call_argument, last_argument}
use Rattle.p9_statement.specs.Statements.{is_comma, is_slash, more_arguments, parted_arguments, arguments_of, is_calculation, completed_by, completed, is_form, formed, instruction_of, dollar_number, text_statement, globl_statement, type_statement, address_value, constant_or_address_value, datum_of, data_statement, parted_data, directive_of, parted_directive, headed, statement_of, labelled, line_of}
use Rattle.p9_asm.proofs.Options.{Each, each_take, each_drop, if_then, if_map, if_test, if_any}

abbrev pub IsSmall : Lexeme → Type 0
IsSmall (Number n) = IsWord n
IsSmall (Character c) = IsWord c
IsSmall _ = Unit {0}

abbrev pub IsSized : Argument → Type 0
IsSized (operands.Constant c) = IsWord c
IsSized (operands.Address s o) = IsWord o
IsSized (operands.Memory s o) = IsWord o
IsSized (operands.RegisterMemory r o) = IsWord o
IsSized (operands.Register r) = Unit {0}
IsSized (operands.ArgumentAddress o) = Unit {0}
IsSized (operands.FrameAddress o) = Unit {0}
IsSized (operands.ArgumentMemory o) = Unit {0}
IsSized (operands.FrameMemory o) = Unit {0}
IsSized (operands.Label w) = Unit {0}
IsSized (operands.Function s) = Unit {0}
IsSized operands.Hi = Unit {0}
IsSized operands.Lo = Unit {0}

abbrev pub AreSized : Arguments → Type 0
AreSized Zero = Unit {0}
AreSized (One a) = IsSized a
AreSized (Two a b) = IsSized a × IsSized b
AreSized (Three a b c) = IsSized a × IsSized b × IsSized c

abbrev pub IsSizedDatum : Datum → Type 0
IsSizedDatum (data_values.Address s o) = IsWord o
IsSizedDatum (data_values.Byte v) = Unit {0}
IsSizedDatum (data_values.Half v) = Unit {0}
IsSizedDatum (data_values.Word v) = Unit {0}

abbrev pub IsSizedStatement : Statement → Type 0
IsSizedStatement (statements.Data s o d) = IsSizedDatum d
IsSizedStatement (statements.Instruction op given) = AreSized given
IsSizedStatement (statements.Text s frame) = Unit {0}
IsSizedStatement (statements.Globl s size) = Unit {0}
IsSizedStatement (statements.Signature s place) = Unit {0}

abbrev pub IsSizedLine : Line → Type 0
IsSizedLine line = IfSome line.statement IsSizedStatement

-- Numbers

only_sized : (xs : List Lexeme) → Each IsSmall xs → IfSome (only_number xs) IsWord
only_sized (Number n ∷ []) h = h.0
only_sized _ h = tt

negated_small : (n : ℕ) → negated n < 2 ^ 32
negated_small n = omega arith

constant_sized : (xs : List Lexeme) → Each IsSmall xs → IfSome (constant_of xs) IsWord
constant_sized (Number n ∷ []) h = h.0
constant_sized (Character c ∷ []) h = h.0
constant_sized (Minus ∷ rest) h = if_map negated (only_number rest) (λ n. Unit {0}) IsWord (if_any (only_number rest)) (λ n u. negated_small n)
constant_sized _ h = tt

offset_sized : (xs : List Lexeme) → Each IsSmall xs → IfSome (offset_of xs) IsWord
offset_sized [] h = omega arith
offset_sized (Plus ∷ rest) h = only_sized rest h.1
offset_sized _ h = tt

behind_sized : (xs : List Lexeme) → Each IsSmall xs → Each IsSmall (behind_symbol xs)
behind_sized (Word w sense ∷ Less ∷ Greater ∷ rest) h = h.1.1.1
behind_sized (Word w sense ∷ rest) h = h.1
behind_sized _ h = tt

displacement_sized : (xs : List Lexeme) → Each IsSmall xs → IfSome (displacement xs) IsWord
displacement_sized [] h = omega arith
displacement_sized (l ∷ rest) h = constant_sized (l ∷ rest) h

-- Operands

static_sized : (xs : List Lexeme) → Each IsSmall xs → IfSome (static_memory xs) IsSized
static_sized xs h =
    if_then (λ s. option_map (λ o. operands.Memory s o) (offset_of (behind_symbol xs))) (symbol_of xs) (λ s. Unit {0}) IsSized (if_any (symbol_of xs))
    (λ s u. if_map (λ o. operands.Memory s o) (offset_of (behind_symbol xs)) IsWord IsSized (offset_sized (behind_symbol xs) (behind_sized xs h)) (λ o k. k))

memory_by_sized : (sense : Sense) (xs : List Lexeme) → Each IsSmall xs → IfSome (memory_by sense xs) IsSized
memory_by_sized (senses.Register r) xs h = if_map (λ o. operands.RegisterMemory r o) (displacement xs) IsWord IsSized (displacement_sized xs h) (λ o k. k)
memory_by_sized (senses.Based bases.Static) xs h = static_sized xs h
memory_by_sized (senses.Based bases.Argument) xs h =
    if_then argument_memory (argument_offset xs) (λ o. Unit {0}) IsSized (if_any (argument_offset xs))
    (λ o u. if_test (leb o 65535) (operands.ArgumentMemory o) IsSized (λ e. tt))
memory_by_sized (senses.Based bases.Frame) xs h = if_map (λ o. operands.FrameMemory o) (frame_offset xs) (λ o. Unit {0}) IsSized (if_any (frame_offset xs)) (λ o u. tt)
memory_by_sized _ xs h = tt

memory_at_sized : (at : Option ℕ) (xs : List Lexeme) → Each IsSmall xs → IfSome (memory_at at xs) IsSized
memory_at_sized None xs h = tt
memory_at_sized (Some at) xs h =
    if_then (λ sense. memory_by sense (take at xs)) (base_of (drop (at + 1) xs)) (λ sense. Unit {0}) IsSized (if_any (base_of (drop (at + 1) xs)))
    (λ sense u. memory_by_sized sense (take at xs) (each_take IsSmall at xs h))

memory_sized : (xs : List Lexeme) → Each IsSmall xs → IfSome (memory_of xs) IsSized
memory_sized xs h = memory_at_sized (position is_open xs) xs h

address_sized : (a : Argument) → IsSized a → IfSome (address_of a) IsSized
address_sized (operands.Memory s o) h = h
address_sized (operands.ArgumentMemory o) h = tt
address_sized (operands.FrameMemory o) h = tt
address_sized _ h = tt

dollar_sized : (c : Option ℕ) (xs : List Lexeme) → IfSome c IsWord → Each IsSmall xs → IfSome (constant_or_address c xs) IsSized
dollar_sized (Some c) xs k h = k
dollar_sized None xs k h = if_then address_of (memory_of xs) IsSized IsSized (memory_sized xs h) address_sized

special_sized : (sense : Sense) → IfSome (special_of sense) IsSized
special_sized (senses.Register r) = tt
special_sized senses.Hi = tt
special_sized senses.Lo = tt
special_sized _ = tt

plain_sized : (xs : List Lexeme) → Each IsSmall xs → IfSome (plain_argument xs) IsSized
plain_sized (Word w sense ∷ []) h = special_sized sense
plain_sized (Dollar ∷ rest) h = dollar_sized (constant_of rest) rest (constant_sized rest h.1) h.1
plain_sized [] h = memory_sized [] h
plain_sized (l ∷ rest) h = memory_sized (l ∷ rest) h

label_sized : (xs : List Lexeme) → IfSome (label_argument xs) IsSized
label_sized (Word w sense ∷ []) = tt
label_sized _ = tt

function_sized : (xs : List Lexeme) → IfSome (option_map (λ s. operands.Function s) (place_of xs)) IsSized
function_sized xs = if_map (λ s. operands.Function s) (place_of xs) (λ s. Unit {0}) IsSized (if_any (place_of xs)) (λ s u. tt)

call_sized : (xs : List Lexeme) → IfSome (call_argument xs) IsSized
call_sized (Word w sense ∷ []) = special_sized sense
call_sized [] = function_sized []
call_sized (l ∷ rest) = function_sized (l ∷ rest)

last_sized : (op : Op) (xs : List Lexeme) → Each IsSmall xs → IfSome (last_argument op xs) IsSized
last_sized Beq xs h = label_sized xs
last_sized Bne xs h = label_sized xs
last_sized Bgez xs h = label_sized xs
last_sized Bgtz xs h = label_sized xs
last_sized Blez xs h = label_sized xs
last_sized Bltz xs h = label_sized xs
last_sized Jmp xs h = label_sized xs
last_sized Jal xs h = call_sized xs
last_sized _ xs h = plain_sized xs h

-- Instructions

more_sized : (op : Op) (a : Argument) (at : Option ℕ) (xs : List Lexeme) → IsSized a → Each IsSmall xs → IfSome (more_arguments op a at xs) AreSized
more_sized op a None xs k h = if_map (λ b. Two a b) (last_argument op xs) IsSized AreSized (last_sized op xs h) (λ b m. (k, m))
more_sized op a (Some at) xs k h =
    if_then (λ b. option_map (λ c. Three a b c) (last_argument op (drop (at + 1) xs))) (plain_argument (take at xs)) IsSized AreSized
    (plain_sized (take at xs) (each_take IsSmall at xs h))
    (λ b m. if_map (λ c. Three a b c) (last_argument op (drop (at + 1) xs)) IsSized AreSized
    (last_sized op (drop (at + 1) xs) (each_drop IsSmall (at + 1) xs h)) (λ c n. (k, m, n)))

parted_sized : (op : Op) (at : Option ℕ) (xs : List Lexeme) → Each IsSmall xs → IfSome (parted_arguments op at xs) AreSized
parted_sized op None xs h = if_map (λ a. One a) (last_argument op xs) IsSized AreSized (last_sized op xs h) (λ a k. k)
parted_sized op (Some at) xs h =
    if_then (λ a. more_arguments op a (position is_comma (drop (at + 1) xs)) (drop (at + 1) xs)) (plain_argument (take at xs)) IsSized AreSized
    (plain_sized (take at xs) (each_take IsSmall at xs h))
    (λ a k. more_sized op a (position is_comma (drop (at + 1) xs)) (drop (at + 1) xs) k (each_drop IsSmall (at + 1) xs h))

arguments_sized : (op : Op) (xs : List Lexeme) → Each IsSmall xs → IfSome (arguments_of op xs) AreSized
arguments_sized op [] h = tt
arguments_sized op (l ∷ rest) h = parted_sized op (position is_comma (l ∷ rest)) (l ∷ rest) h

completed_sized : (b : Bool) (given : Arguments) → AreSized given → AreSized (completed_by b given)
completed_sized true Zero h = h
completed_sized true (One a) h = h
completed_sized true (Two a b) h = (h.0, h.1, h.1)
completed_sized true (Three a b c) h = h
completed_sized false given h = h

instruction_sized : (op : Op) (xs : List Lexeme) → Each IsSmall xs → IfSome (instruction_of op xs) IsSizedStatement
instruction_sized op xs h =
    if_then (λ given. formed op (completed op given)) (arguments_of op xs) AreSized IsSizedStatement (arguments_sized op xs h)
    (λ given k. if_test (is_form op (completed op given)) (statements.Instruction op (completed op given)) IsSizedStatement (λ e. completed_sized (is_calculation op) given k))

-- Directives

sized_by : (value : ℕ) (a b c : Bool) → IfSome (cond a (Some (data_values.Byte value)) (cond b (Some (data_values.Half value)) (cond c (Some (data_values.Word value)) None))) IsSizedDatum
sized_by value true b c = tt
sized_by value false true c = tt
sized_by value false false true = tt
sized_by value false false false = tt

address_value_sized : (width place : ℕ) (a : Argument) → IsSized a → IfSome (address_value width place a) IsSizedDatum
address_value_sized width place (operands.Memory s o) h = if_test (width == 4 && place % 4 == 0) (data_values.Address s o) IsSizedDatum (λ e. h)
address_value_sized width place _ h = tt

value_sized : (width place : ℕ) (c : Option ℕ) (xs : List Lexeme) → Each IsSmall xs → IfSome (constant_or_address_value width place c xs) IsSizedDatum
value_sized width place (Some value) xs h = sized_by value (width == 1) (width == 2) (width == 4)
value_sized width place None xs h = if_then (address_value width place) (memory_of xs) IsSized IsSizedDatum (memory_sized xs h) (address_value_sized width place)

datum_sized : (width place : ℕ) (xs : List Lexeme) → Each IsSmall xs → IfSome (datum_of width place xs) IsSizedDatum
datum_sized width place (Dollar ∷ rest) h = value_sized width place (constant_of rest) rest h.1
datum_sized width place _ h = tt

data_test_sized : (b : Bool) (s : SymbolName) (o : ℕ) (d : Option Datum) → IfSome d IsSizedDatum → IfSome (cond b (option_map (λ d. statements.Data s o d) d) None) IsSizedStatement
data_test_sized true s o d h = if_map (λ d. statements.Data s o d) d IsSizedDatum IsSizedStatement h (λ x e. e)
data_test_sized false s o d h = tt

data_sized : (width : ℕ) (a : Argument) (value : List Lexeme) → Each IsSmall value → IfSome (data_statement width a value) IsSizedStatement
data_sized width (operands.Memory s o) value h = data_test_sized (leb (o + width) 16777216) s o (datum_of width o value) (datum_sized width o value h)
data_sized width _ value h = tt

parted_data_sized : (at : Option ℕ) (place value : List Lexeme) → Each IsSmall value → IfSome (parted_data at place value) IsSizedStatement
parted_data_sized None place value h = tt
parted_data_sized (Some at) place value h =
    if_then (λ memory. option_and_then (λ width. data_statement width memory value) (only_number (drop (at + 1) place))) (memory_of (take at place)) (λ memory. Unit {0}) IsSizedStatement (if_any (memory_of (take at place)))
    (λ memory u. if_then (λ width. data_statement width memory value) (only_number (drop (at + 1) place)) (λ n. Unit {0}) IsSizedStatement (if_any (only_number (drop (at + 1) place)))
    (λ width v. data_sized width memory value h))

unlocal_sized : (s : SymbolName) (place : ℕ) (b : Bool) → IfSome (cond b None (Some (statements.Signature s place))) IsSizedStatement
unlocal_sized s place true = tt
unlocal_sized s place false = tt

type_sized : (s : SymbolName) (xs : List Lexeme) → IfSome (type_statement s xs) IsSizedStatement
type_sized s (Text place ∷ []) = unlocal_sized s place s.local
type_sized s _ = tt

directive_sized : (d : Directive) (first second : List Lexeme) → Each IsSmall second → IfSome (directive_of d first second) IsSizedStatement
directive_sized directives.Text first second h =
    if_then (λ s. option_and_then (text_statement s) (dollar_number second)) (place_of first) (λ s. Unit {0}) IsSizedStatement (if_any (place_of first))
    (λ s u. if_then (text_statement s) (dollar_number second) (λ n. Unit {0}) IsSizedStatement (if_any (dollar_number second))
    (λ n v. if_test (n % 4 == 0 && leb n 16777212) (statements.Text s n) IsSizedStatement (λ e. tt)))
directive_sized directives.Globl first second h =
    if_then (λ s. option_and_then (globl_statement s) (dollar_number second)) (place_of first) (λ s. Unit {0}) IsSizedStatement (if_any (place_of first))
    (λ s u. if_then (globl_statement s) (dollar_number second) (λ n. Unit {0}) IsSizedStatement (if_any (dollar_number second))
    (λ n v. if_test (leb 1 n && leb n 16777216) (statements.Globl s n) IsSizedStatement (λ e. tt)))
directive_sized directives.Data first second h = parted_data_sized (position is_slash first) first second h
directive_sized directives.Signature first second h =
    if_then (λ s. type_statement s second) (place_of first) (λ s. Unit {0}) IsSizedStatement (if_any (place_of first)) (λ s u. type_sized s second)

parted_directive_sized : (d : Directive) (at : Option ℕ) (xs : List Lexeme) → Each IsSmall xs → IfSome (parted_directive d at xs) IsSizedStatement
parted_directive_sized d None xs h = tt
parted_directive_sized d (Some at) xs h = directive_sized d (take at xs) (drop (at + 1) xs) (each_drop IsSmall (at + 1) xs h)

-- Lines

headed_sized : (sense : Sense) (xs : List Lexeme) → Each IsSmall xs → IfSome (headed sense xs) IsSizedStatement
headed_sized (senses.Operation op) xs h = instruction_sized op xs h
headed_sized (senses.Directing d) xs h = parted_directive_sized d (position is_comma xs) xs h
headed_sized _ xs h = tt

statement_sized : (xs : List Lexeme) → Each IsSmall xs → IfSome (statement_of xs) IsSizedStatement
statement_sized (Word w sense ∷ rest) h = headed_sized sense rest h.1
statement_sized _ h = tt

labelled_sized : (label : Option ℕ) (xs : List Lexeme) → Each IsSmall xs → IfSome (labelled label xs) IsSizedLine
labelled_sized label [] h = tt
labelled_sized label (l ∷ rest) h =
    if_map (λ s. record { label = label; statement = Some s }) (statement_of (l ∷ rest)) IsSizedStatement IsSizedLine (statement_sized (l ∷ rest) h) (λ s k. k)

pub line_sized : (xs : List Lexeme) → Each IsSmall xs → IfSome (line_of xs) IsSizedLine
unfolding line_of
line_sized (Word w sense ∷ Colon ∷ rest) h = labelled_sized (Some w) rest h.1.1
line_sized [] h = labelled_sized None [] h
line_sized (l ∷ rest) h = labelled_sized None (l ∷ rest) h
