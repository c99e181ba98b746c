-- What the grammar of lines promises of the statements that it reads.
use Rattle.std.proofs.Common.{◌≡◌, ℕ, ◌+◌, ◌%◌, ◌^◌, ◌==◌, ◌<◌, ◌≤◌, leb, Bool, true, false, ◌&&◌, cond, List, [], ◌∷◌, take, drop, Option, Some, None, IfSome, position, slice_get, refl, arith}
use Rattle.std.specs.Prelude.{option_map, option_and_then}
use Rattle.std.proofs.lemmas.Bool.Decides.{nat_tests}
use Rattle.p9_abs.specs.declared.instructions.Op.{Op}
use Rattle.p9_abs.specs.declared.instructions.Op.TheVariants.{Beq, Bne, Bgez, Bgtz, Blez, Bltz, Jmp, Jal}
use Rattle.p9_abs.specs.Validity.{IsName}
use Rattle.p9_lex.specs.declared.token.Token.{Token}
use Rattle.p9_lex.specs.declared.token.TokenKind.TheVariants as kinds
use Rattle.p9_statement.specs.declared.words.Base.TheVariants as bases
use Rattle.p9_statement.specs.declared.words.Directive.{Directive}
use Rattle.p9_statement.specs.declared.words.Directive.TheVariants as directives
use Rattle.p9_statement.specs.declared.words.Sense.{Sense}
use Rattle.p9_statement.specs.declared.words.Sense.TheVariants as senses
use Rattle.p9_statement.specs.declared.lexemes.Lexeme.{Lexeme}
use Rattle.p9_statement.specs.declared.lexemes.Lexeme.TheVariants.{Word, Text, Close, Minus, Less, Greater, Colon, Dollar}
use Rattle.p9_statement.specs.declared.operands.SymbolName.{SymbolName}
use Rattle.p9_statement.specs.declared.operands.Argument.{Argument}
use Rattle.p9_statement.specs.declared.operands.Argument.TheVariants as operands
use Rattle.p9_statement.specs.declared.statements.Arguments.{Arguments}
use Rattle.p9_statement.specs.declared.statements.Arguments.TheVariants.{Zero, One, Two, Three}
use Rattle.p9_statement.specs.declared.statements.Datum.{Datum}
use Rattle.p9_statement.specs.declared.statements.Datum.TheVariants as data_values
use Rattle.p9_statement.specs.declared.statements.Statement.{Statement}
use Rattle.p9_statement.specs.declared.statements.Statement.TheVariants as statements
use Rattle.p9_statement.specs.declared.statements.Line.{Line}
use Rattle.p9_statement.specs.Lexemes.{is_signature}
use Rattle.p9_statement.specs.Operands.{is_open, only_number, negated, constant_of, offset_of, symbol_of, behind_symbol, if_nothing, only_symbol, base_of, displacement, argument_offset, argument_memory, below_entry, frame_offset, memory_by, memory_at, memory_of, if_static, place_at, place_of, address_of, constant_or_address, special_of, plain_argument, label_argument, call_argument, last_argument}
use Rattle.p9_statement.specs.Statements.{is_comma, is_slash, more_arguments, parted_arguments, arguments_of, is_calculation, completed_by, completed, is_form, formed, instruction_of, dollar_number, text_statement, globl_statement, type_statement, sized, address_value, constant_or_address_value, datum_of, data_statement, parted_data, directive_of, parted_directive, headed, statement_of, labelled, line_of}
use Rattle.p9_rows.specs.Rows.{place_in}
use Rattle.p9_facts.proofs.Noting.{both}
use Rattle.p9_asm.specs.Modules.{text_at}
use Rattle.p9_asm.proofs.Options.{Each, each_take, each_drop, if_then, if_map, if_test, if_any}

-- the token at a place spells a proper name, and none before it does
pub record IsNamed (tokens : List Token) (place : ℕ) : Type 0 where
  pub token : Token
  pub name : List ℕ
  pub at : slice_get tokens place ≡ Some token
  pub is : token.kind ≡ kinds.Word name
  pub proper : IsName name
  pub first : place_in tokens name ≡ Some place

abbrev pub IsSense : Sense → Type 0
IsSense (senses.Register r) = r < 32
IsSense _ = Unit {0}

abbrev pub IsTextPlace : List Token → ℕ → Type 0
IsTextPlace tokens place = is_signature (text_at tokens place) ≡ true

abbrev pub IsLexeme : List Token → Lexeme → Type 0
IsLexeme tokens (Word w sense) = IsNamed tokens w × IsSense sense
IsLexeme tokens (Text place) = IsTextPlace tokens place
IsLexeme tokens _ = Unit {0}

abbrev pub IsSymbolName : List Token → SymbolName → Type 0
IsSymbolName tokens s = IsNamed tokens s.word

abbrev pub IsArgument : List Token → Argument → Type 0
IsArgument tokens (operands.Register r) = r < 32
IsArgument tokens (operands.Constant c) = Unit {0}
IsArgument tokens (operands.Address s o) = IsSymbolName tokens s
IsArgument tokens (operands.ArgumentAddress o) = o ≤ 65535
IsArgument tokens (operands.FrameAddress o) = o < 2 ^ 32
IsArgument tokens (operands.Memory s o) = IsSymbolName tokens s
IsArgument tokens (operands.ArgumentMemory o) = o ≤ 65535
IsArgument tokens (operands.FrameMemory o) = o < 2 ^ 32
IsArgument tokens (operands.RegisterMemory r o) = r < 32
IsArgument tokens (operands.Label w) = Unit {0}
IsArgument tokens (operands.Function s) = IsSymbolName tokens s
IsArgument tokens operands.Hi = Unit {0}
IsArgument tokens operands.Lo = Unit {0}

abbrev pub AreArguments : List Token → Arguments → Type 0
AreArguments tokens Zero = Unit {0}
AreArguments tokens (One a) = IsArgument tokens a
AreArguments tokens (Two a b) = IsArgument tokens a × IsArgument tokens b
AreArguments tokens (Three a b c) = IsArgument tokens a × IsArgument tokens b × IsArgument tokens c

abbrev pub IsDatum : List Token → (place : ℕ) → Datum → Type 0
IsDatum tokens place (data_values.Address s o) = IsSymbolName tokens s × (place % 4 ≡ 0)
IsDatum tokens place _ = Unit {0}

abbrev pub IsProper : List Token → Statement → Type 0
IsProper tokens (statements.Text s frame) = IsSymbolName tokens s × (frame % 4 ≡ 0) × (frame ≤ 16777212)
IsProper tokens (statements.Globl s size) = IsSymbolName tokens s × (1 ≤ size) × (size ≤ 16777216)
IsProper tokens (statements.Data s o d) = IsSymbolName tokens s × IsDatum tokens o d
IsProper tokens (statements.Signature s place) = IsSymbolName tokens s × (s.local ≡ false) × IsTextPlace tokens place
IsProper tokens (statements.Instruction op given) = AreArguments tokens given × (is_form op given ≡ true)

abbrev pub IsProperLine : List Token → Line → Type 0
IsProperLine tokens line = IfSome line.statement (IsProper tokens)

-- Operands

symbol_proper : (tokens : List Token) (xs : List Lexeme) → Each (IsLexeme tokens) xs → IfSome (symbol_of xs) (IsSymbolName tokens)
symbol_proper tokens (Word w sense ∷ Less ∷ Greater ∷ rest) h = h.0.0
symbol_proper tokens (Word w sense ∷ Less ∷ rest) h = tt
symbol_proper tokens (Word w sense ∷ rest) h = h.0.0
symbol_proper tokens _ h = tt

only_proper : (tokens : List Token) (behind : List Lexeme) (o : Option SymbolName) → IfSome o (IsSymbolName tokens) → IfSome (if_nothing behind o) (IsSymbolName tokens)
only_proper tokens [] o h = h
only_proper tokens (l ∷ rest) o h = tt

only_symbol_proper : (tokens : List Token) (xs : List Lexeme) → Each (IsLexeme tokens) xs → IfSome (only_symbol xs) (IsSymbolName tokens)
only_symbol_proper tokens xs h = only_proper tokens (behind_symbol xs) (symbol_of xs) (symbol_proper tokens xs h)

base_proper : (tokens : List Token) (xs : List Lexeme) → Each (IsLexeme tokens) xs → IfSome (base_of xs) IsSense
base_proper tokens (Word w sense ∷ Close ∷ []) h = h.0.1
base_proper tokens _ h = tt

negated_small : (n : ℕ) → negated n < 2 ^ 32
negated_small n = omega arith

below_proper : (xs : List Lexeme) → IfSome (below_entry xs) (λ o. o < 2 ^ 32)
below_proper (Minus ∷ rest) = if_map negated (only_number rest) (λ n. Unit {0}) (λ o. o < 2 ^ 32) (if_any (only_number rest)) (λ n h. negated_small n)
below_proper _ = tt

frame_proper : (xs : List Lexeme) → IfSome (frame_offset xs) (λ o. o < 2 ^ 32)
frame_proper (Word w sense ∷ rest) = below_proper rest
frame_proper [] = below_proper []
frame_proper (l ∷ rest) = below_proper (l ∷ rest)

argument_proper : (tokens : List Token) (o : ℕ) → IfSome (argument_memory o) (IsArgument tokens)
argument_proper tokens o = if_test (leb o 65535) (operands.ArgumentMemory o) (IsArgument tokens) (λ h. grind (arith, nat_tests))

memory_by_proper : (tokens : List Token) (sense : Sense) (xs : List Lexeme) → Each (IsLexeme tokens) xs → IsSense sense → IfSome (memory_by sense xs) (IsArgument tokens)
memory_by_proper tokens (senses.Register r) xs h k =
    if_map (λ o. operands.RegisterMemory r o) (displacement xs) (λ o. Unit {0}) (IsArgument tokens) (if_any (displacement xs)) (λ o u. k)
memory_by_proper tokens (senses.Based bases.Static) xs h k =
    if_then (λ s. option_map (λ o. operands.Memory s o) (offset_of (behind_symbol xs))) (symbol_of xs) (IsSymbolName tokens) (IsArgument tokens) (symbol_proper tokens xs h)
    (λ s named. if_map (λ o. operands.Memory s o) (offset_of (behind_symbol xs)) (λ o. Unit {0}) (IsArgument tokens) (if_any (offset_of (behind_symbol xs))) (λ o u. named))
memory_by_proper tokens (senses.Based bases.Argument) xs h k =
    if_then argument_memory (argument_offset xs) (λ o. Unit {0}) (IsArgument tokens) (if_any (argument_offset xs)) (λ o u. argument_proper tokens o)
memory_by_proper tokens (senses.Based bases.Frame) xs h k =
    if_map (λ o. operands.FrameMemory o) (frame_offset xs) (λ o. o < 2 ^ 32) (IsArgument tokens) (frame_proper xs) (λ o small. small)
memory_by_proper tokens _ xs h k = tt

memory_at_proper : (tokens : List Token) (at : Option ℕ) (xs : List Lexeme) → Each (IsLexeme tokens) xs → IfSome (memory_at at xs) (IsArgument tokens)
memory_at_proper tokens None xs h = tt
memory_at_proper tokens (Some at) xs h =
    if_then (λ sense. memory_by sense (take at xs)) (base_of (drop (at + 1) xs)) IsSense (IsArgument tokens)
    (base_proper tokens (drop (at + 1) xs) (each_drop (IsLexeme tokens) (at + 1) xs h))
    (λ sense k. memory_by_proper tokens sense (take at xs) (each_take (IsLexeme tokens) at xs h) k)

memory_proper : (tokens : List Token) (xs : List Lexeme) → Each (IsLexeme tokens) xs → IfSome (memory_of xs) (IsArgument tokens)
memory_proper tokens xs h = memory_at_proper tokens (position is_open xs) xs h

static_proper : (tokens : List Token) (sense : Sense) (o : Option SymbolName) → IfSome o (IsSymbolName tokens) → IfSome (if_static sense o) (IsSymbolName tokens)
static_proper tokens (senses.Based bases.Static) o h = h
static_proper tokens _ o h = tt

place_at_proper : (tokens : List Token) (at : Option ℕ) (xs : List Lexeme) → Each (IsLexeme tokens) xs → IfSome (place_at at xs) (IsSymbolName tokens)
place_at_proper tokens None xs h = tt
place_at_proper tokens (Some at) xs h =
    if_then (λ sense. if_static sense (only_symbol (take at xs))) (base_of (drop (at + 1) xs)) (λ sense. Unit {0}) (IsSymbolName tokens) (if_any (base_of (drop (at + 1) xs)))
    (λ sense u. static_proper tokens sense (only_symbol (take at xs)) (only_symbol_proper tokens (take at xs) (each_take (IsLexeme tokens) at xs h)))

place_proper : (tokens : List Token) (xs : List Lexeme) → Each (IsLexeme tokens) xs → IfSome (place_of xs) (IsSymbolName tokens)
place_proper tokens xs h = place_at_proper tokens (position is_open xs) xs h

address_proper : (tokens : List Token) (a : Argument) → IsArgument tokens a → IfSome (address_of a) (IsArgument tokens)
address_proper tokens (operands.Memory s o) h = h
address_proper tokens (operands.ArgumentMemory o) h = h
address_proper tokens (operands.FrameMemory o) h = h
address_proper tokens _ h = tt

constant_proper : (tokens : List Token) (c : Option ℕ) (xs : List Lexeme) → Each (IsLexeme tokens) xs → IfSome (constant_or_address c xs) (IsArgument tokens)
constant_proper tokens (Some c) xs h = tt
constant_proper tokens None xs h = if_then address_of (memory_of xs) (IsArgument tokens) (IsArgument tokens) (memory_proper tokens xs h) (address_proper tokens)

special_proper : (tokens : List Token) (sense : Sense) → IsSense sense → IfSome (special_of sense) (IsArgument tokens)
special_proper tokens (senses.Register r) h = h
special_proper tokens senses.Hi h = tt
special_proper tokens senses.Lo h = tt
special_proper tokens _ h = tt

plain_proper : (tokens : List Token) (xs : List Lexeme) → Each (IsLexeme tokens) xs → IfSome (plain_argument xs) (IsArgument tokens)
plain_proper tokens (Word w sense ∷ []) h = special_proper tokens sense h.0.1
plain_proper tokens (Dollar ∷ rest) h = constant_proper tokens (constant_of rest) rest h.1
plain_proper tokens [] h = memory_proper tokens [] h
plain_proper tokens (l ∷ rest) h = memory_proper tokens (l ∷ rest) h

label_proper : (tokens : List Token) (xs : List Lexeme) → IfSome (label_argument xs) (IsArgument tokens)
label_proper tokens (Word w sense ∷ []) = tt
label_proper tokens _ = tt

function_proper : (tokens : List Token) (xs : List Lexeme) → Each (IsLexeme tokens) xs → IfSome (option_map (λ s. operands.Function s) (place_of xs)) (IsArgument tokens)
function_proper tokens xs h = if_map (λ s. operands.Function s) (place_of xs) (IsSymbolName tokens) (IsArgument tokens) (place_proper tokens xs h) (λ s named. named)

call_proper : (tokens : List Token) (xs : List Lexeme) → Each (IsLexeme tokens) xs → IfSome (call_argument xs) (IsArgument tokens)
call_proper tokens (Word w sense ∷ []) h = special_proper tokens sense h.0.1
call_proper tokens [] h = function_proper tokens [] h
call_proper tokens (l ∷ rest) h = function_proper tokens (l ∷ rest) h

last_proper : (tokens : List Token) (op : Op) (xs : List Lexeme) → Each (IsLexeme tokens) xs → IfSome (last_argument op xs) (IsArgument tokens)
last_proper tokens Beq xs h = label_proper tokens xs
last_proper tokens Bne xs h = label_proper tokens xs
last_proper tokens Bgez xs h = label_proper tokens xs
last_proper tokens Bgtz xs h = label_proper tokens xs
last_proper tokens Blez xs h = label_proper tokens xs
last_proper tokens Bltz xs h = label_proper tokens xs
last_proper tokens Jmp xs h = label_proper tokens xs
last_proper tokens Jal xs h = call_proper tokens xs h
last_proper tokens _ xs h = plain_proper tokens xs h

-- Instructions

more_proper : (tokens : List Token) (op : Op) (a : Argument) (at : Option ℕ) (xs : List Lexeme) → IsArgument tokens a → Each (IsLexeme tokens) xs → IfSome (more_arguments op a at xs) (AreArguments tokens)
more_proper tokens op a None xs k h =
    if_map (λ b. Two a b) (last_argument op xs) (IsArgument tokens) (AreArguments tokens) (last_proper tokens op xs h) (λ b m. (k, m))
more_proper tokens op a (Some at) xs k h =
    if_then (λ b. option_map (λ c. Three a b c) (last_argument op (drop (at + 1) xs))) (plain_argument (take at xs)) (IsArgument tokens) (AreArguments tokens)
    (plain_proper tokens (take at xs) (each_take (IsLexeme tokens) at xs h))
    (λ b m. if_map (λ c. Three a b c) (last_argument op (drop (at + 1) xs)) (IsArgument tokens) (AreArguments tokens)
    (last_proper tokens op (drop (at + 1) xs) (each_drop (IsLexeme tokens) (at + 1) xs h)) (λ c n. (k, m, n)))

parted_proper : (tokens : List Token) (op : Op) (at : Option ℕ) (xs : List Lexeme) → Each (IsLexeme tokens) xs → IfSome (parted_arguments op at xs) (AreArguments tokens)
parted_proper tokens op None xs h =
    if_map (λ a. One a) (last_argument op xs) (IsArgument tokens) (AreArguments tokens) (last_proper tokens op xs h) (λ a k. k)
parted_proper tokens op (Some at) xs h =
    if_then (λ a. more_arguments op a (position is_comma (drop (at + 1) xs)) (drop (at + 1) xs)) (plain_argument (take at xs)) (IsArgument tokens) (AreArguments tokens)
    (plain_proper tokens (take at xs) (each_take (IsLexeme tokens) at xs h))
    (λ a k. more_proper tokens op a (position is_comma (drop (at + 1) xs)) (drop (at + 1) xs) k (each_drop (IsLexeme tokens) (at + 1) xs h))

arguments_proper : (tokens : List Token) (op : Op) (xs : List Lexeme) → Each (IsLexeme tokens) xs → IfSome (arguments_of op xs) (AreArguments tokens)
arguments_proper tokens op [] h = tt
arguments_proper tokens op (l ∷ rest) h = parted_proper tokens op (position is_comma (l ∷ rest)) (l ∷ rest) h

completed_proper : (tokens : List Token) (b : Bool) (given : Arguments) → AreArguments tokens given → AreArguments tokens (completed_by b given)
completed_proper tokens true Zero h = h
completed_proper tokens true (One a) h = h
completed_proper tokens true (Two a b) h = (h.0, h.1, h.1)
completed_proper tokens true (Three a b c) h = h
completed_proper tokens false given h = h

formed_proper : (tokens : List Token) (op : Op) (given : Arguments) → AreArguments tokens given → IfSome (formed op given) (IsProper tokens)
formed_proper tokens op given h = if_test (is_form op given) (statements.Instruction op given) (IsProper tokens) (λ e. (h, e))

instruction_proper : (tokens : List Token) (op : Op) (xs : List Lexeme) → Each (IsLexeme tokens) xs → IfSome (instruction_of op xs) (IsProper tokens)
instruction_proper tokens op xs h =
    if_then (λ given. formed op (completed op given)) (arguments_of op xs) (AreArguments tokens) (IsProper tokens) (arguments_proper tokens op xs h)
    (λ given k. formed_proper tokens op (completed op given) (completed_proper tokens (is_calculation op) given k))

-- Directives

text_proper : (tokens : List Token) (s : SymbolName) (frame : ℕ) → IsSymbolName tokens s → IfSome (text_statement s frame) (IsProper tokens)
text_proper tokens s frame h =
    if_test (frame % 4 == 0 && leb frame 16777212) (statements.Text s frame) (IsProper tokens)
    (λ e. let parts = both (frame % 4 == 0) (leb frame 16777212) e in (h, grind (arith, nat_tests, parts.0), grind (arith, nat_tests, parts.1)))

globl_proper : (tokens : List Token) (s : SymbolName) (size : ℕ) → IsSymbolName tokens s → IfSome (globl_statement s size) (IsProper tokens)
globl_proper tokens s size h =
    if_test (leb 1 size && leb size 16777216) (statements.Globl s size) (IsProper tokens)
    (λ e. let parts = both (leb 1 size) (leb size 16777216) e in (h, grind (arith, nat_tests, parts.0), grind (arith, nat_tests, parts.1)))

unlocal_proper : (tokens : List Token) (s : SymbolName) (place : ℕ) (b : Bool) → s.local ≡ b → IsSymbolName tokens s → IsTextPlace tokens place → IfSome (cond b None (Some (statements.Signature s place))) (IsProper tokens)
unlocal_proper tokens s place true e h k = tt
unlocal_proper tokens s place false e h k = (h, e, k)

type_proper : (tokens : List Token) (s : SymbolName) (xs : List Lexeme) → IsSymbolName tokens s → Each (IsLexeme tokens) xs → IfSome (type_statement s xs) (IsProper tokens)
type_proper tokens s (Text place ∷ []) h k = unlocal_proper tokens s place s.local refl h k.0
type_proper tokens s _ h k = tt

sized_by : (tokens : List Token) (value place : ℕ) (a b c : Bool) → IfSome (cond a (Some (data_values.Byte value)) (cond b (Some (data_values.Half value)) (cond c (Some (data_values.Word value)) None))) (IsDatum tokens place)
sized_by tokens value place true b c = tt
sized_by tokens value place false true c = tt
sized_by tokens value place false false true = tt
sized_by tokens value place false false false = tt

sized_proper : (tokens : List Token) (width value place : ℕ) → IfSome (sized width value) (IsDatum tokens place)
sized_proper tokens width value place = sized_by tokens value place (width == 1) (width == 2) (width == 4)

address_value_proper : (tokens : List Token) (width place : ℕ) (a : Argument) → IsArgument tokens a → IfSome (address_value width place a) (IsDatum tokens place)
address_value_proper tokens width place (operands.Memory s o) h =
    if_test (width == 4 && place % 4 == 0) (data_values.Address s o) (IsDatum tokens place)
    (λ e. let parts = both (width == 4) (place % 4 == 0) e in (h, grind (arith, nat_tests, parts.1)))
address_value_proper tokens width place _ h = tt

value_proper : (tokens : List Token) (width place : ℕ) (c : Option ℕ) (xs : List Lexeme) → Each (IsLexeme tokens) xs → IfSome (constant_or_address_value width place c xs) (IsDatum tokens place)
value_proper tokens width place (Some value) xs h = sized_proper tokens width value place
value_proper tokens width place None xs h =
    if_then (address_value width place) (memory_of xs) (IsArgument tokens) (IsDatum tokens place) (memory_proper tokens xs h) (address_value_proper tokens width place)

datum_proper : (tokens : List Token) (width place : ℕ) (xs : List Lexeme) → Each (IsLexeme tokens) xs → IfSome (datum_of width place xs) (IsDatum tokens place)
datum_proper tokens width place (Dollar ∷ rest) h = value_proper tokens width place (constant_of rest) rest h.1
datum_proper tokens width place _ h = tt

data_test_proper : (tokens : List Token) (b : Bool) (s : SymbolName) (o : ℕ) (d : Option Datum) → IsSymbolName tokens s → IfSome d (IsDatum tokens o) → IfSome (cond b (option_map (λ d. statements.Data s o d) d) None) (IsProper tokens)
data_test_proper tokens true s o d h k = if_map (λ d. statements.Data s o d) d (IsDatum tokens o) (IsProper tokens) k (λ x e. (h, e))
data_test_proper tokens false s o d h k = tt

data_proper : (tokens : List Token) (width : ℕ) (a : Argument) (value : List Lexeme) → IsArgument tokens a → Each (IsLexeme tokens) value → IfSome (data_statement width a value) (IsProper tokens)
data_proper tokens width (operands.Memory s o) value h k = data_test_proper tokens (leb (o + width) 16777216) s o (datum_of width o value) h (datum_proper tokens width o value k)
data_proper tokens width _ value h k = tt

parted_data_proper : (tokens : List Token) (at : Option ℕ) (place value : List Lexeme) → Each (IsLexeme tokens) place → Each (IsLexeme tokens) value → IfSome (parted_data at place value) (IsProper tokens)
parted_data_proper tokens None place value h k = tt
parted_data_proper tokens (Some at) place value h k =
    if_then (λ memory. option_and_then (λ width. data_statement width memory value) (only_number (drop (at + 1) place))) (memory_of (take at place)) (IsArgument tokens) (IsProper tokens)
    (memory_proper tokens (take at place) (each_take (IsLexeme tokens) at place h))
    (λ memory m. if_then (λ width. data_statement width memory value) (only_number (drop (at + 1) place)) (λ n. Unit {0}) (IsProper tokens) (if_any (only_number (drop (at + 1) place)))
    (λ width u. data_proper tokens width memory value m k))

directive_proper : (tokens : List Token) (d : Directive) (first second : List Lexeme) → Each (IsLexeme tokens) first → Each (IsLexeme tokens) second → IfSome (directive_of d first second) (IsProper tokens)
directive_proper tokens directives.Text first second h k =
    if_then (λ s. option_and_then (text_statement s) (dollar_number second)) (place_of first) (IsSymbolName tokens) (IsProper tokens) (place_proper tokens first h)
    (λ s named. if_then (text_statement s) (dollar_number second) (λ n. Unit {0}) (IsProper tokens) (if_any (dollar_number second)) (λ n u. text_proper tokens s n named))
directive_proper tokens directives.Globl first second h k =
    if_then (λ s. option_and_then (globl_statement s) (dollar_number second)) (place_of first) (IsSymbolName tokens) (IsProper tokens) (place_proper tokens first h)
    (λ s named. if_then (globl_statement s) (dollar_number second) (λ n. Unit {0}) (IsProper tokens) (if_any (dollar_number second)) (λ n u. globl_proper tokens s n named))
directive_proper tokens directives.Data first second h k = parted_data_proper tokens (position is_slash first) first second h k
directive_proper tokens directives.Signature first second h k =
    if_then (λ s. type_statement s second) (place_of first) (IsSymbolName tokens) (IsProper tokens) (place_proper tokens first h) (λ s named. type_proper tokens s second named k)

parted_directive_proper : (tokens : List Token) (d : Directive) (at : Option ℕ) (xs : List Lexeme) → Each (IsLexeme tokens) xs → IfSome (parted_directive d at xs) (IsProper tokens)
parted_directive_proper tokens d None xs h = tt
parted_directive_proper tokens d (Some at) xs h =
    directive_proper tokens d (take at xs) (drop (at + 1) xs) (each_take (IsLexeme tokens) at xs h) (each_drop (IsLexeme tokens) (at + 1) xs h)

-- Lines

headed_proper : (tokens : List Token) (sense : Sense) (xs : List Lexeme) → Each (IsLexeme tokens) xs → IfSome (headed sense xs) (IsProper tokens)
headed_proper tokens (senses.Operation op) xs h = instruction_proper tokens op xs h
headed_proper tokens (senses.Directing d) xs h = parted_directive_proper tokens d (position is_comma xs) xs h
headed_proper tokens _ xs h = tt

statement_proper : (tokens : List Token) (xs : List Lexeme) → Each (IsLexeme tokens) xs → IfSome (statement_of xs) (IsProper tokens)
statement_proper tokens (Word w sense ∷ rest) h = headed_proper tokens sense rest h.1
statement_proper tokens _ h = tt

labelled_proper : (tokens : List Token) (label : Option ℕ) (xs : List Lexeme) → Each (IsLexeme tokens) xs → IfSome (labelled label xs) (IsProperLine tokens)
labelled_proper tokens label [] h = tt
labelled_proper tokens label (l ∷ rest) h =
    if_map (λ s. record { label = label; statement = Some s }) (statement_of (l ∷ rest)) (IsProper tokens) (IsProperLine tokens) (statement_proper tokens (l ∷ rest) h) (λ s k. k)

pub line_proper : (tokens : List Token) (xs : List Lexeme) → Each (IsLexeme tokens) xs → IfSome (line_of xs) (IsProperLine tokens)
unfolding line_of
line_proper tokens (Word w sense ∷ Colon ∷ rest) h = labelled_proper tokens (Some w) rest h.1.1
line_proper tokens [] h = labelled_proper tokens None [] h
line_proper tokens (l ∷ rest) h = labelled_proper tokens None (l ∷ rest) h
