-- A file with few tokens has few lines, symbols and instructions.
use Rattle.std.proofs.Common.{◌≡◌, ℕ, zero, suc, ◌+◌, ◌*◌, ◌≤◌, Bool, true, false, cond, List, [], ◌∷◌, ◌++◌, map, drop, length, Option, Some, None, refl, arith, length-append}
use Rattle.std.specs.Prelude.{is_some, option_to_list}
use Rattle.std.specs.List.{enumerate_from, flat_map}
use Rattle.p9_abs.specs.declared.instructions.Abs.{Abs}
use Rattle.p9_lex.specs.declared.token.Token.{Token}
use Rattle.p9_statement.specs.declared.lexemes.Lexeme.{Lexeme}
use Rattle.p9_statement.specs.declared.operands.SymbolName.{SymbolName}
use Rattle.p9_statement.specs.declared.statements.Arguments.{Arguments}
use Rattle.p9_statement.specs.declared.statements.Arguments.TheVariants.{Zero, One, Two, Three}
use Rattle.p9_statement.specs.declared.statements.Statement.{Statement}
use Rattle.p9_statement.specs.declared.statements.Statement.TheVariants as statements
use Rattle.p9_statement.specs.declared.statements.Line.{Line}
use Rattle.p9_statement.specs.Statements.{line_of}
use Rattle.p9_rows.specs.declared.rows.Place.{Place}
use Rattle.p9_rows.specs.declared.rows.Row.{Row}
use Rattle.p9_rows.specs.Rows.{lexeme_by, place_in, lexemes_of, is_line_end, in_first, lines_of, after_content, rows_from, rows_of, before_all}
use Rattle.p9_facts.specs.Facts.{symbol_in, symbol_at}
use Rattle.p9_facts.specs.Names.{names_in, names_of_statement, names_of_content, names_of, number_in, with_name, with_names, symbols_of}
use Rattle.p9_asm.specs.Files.{File, statement_in}
use Rattle.p9_asm.specs.Code.{in_code, code_of}

-- Lines

length_map : {X Y : Type 0} (f : X → Y) (xs : List X) → length (map f xs) ≡ length xs
length_map f [] = refl
length_map f (x ∷ xs) = omega (arith, length_map f xs)

length_enumerated : {X : Type 0} (i : ℕ) (xs : List X) → length (enumerate_from i xs) ≡ length xs
length_enumerated i [] = refl
length_enumerated i (x ∷ xs) = omega (arith, length_enumerated (i + 1) xs)

first_few : (l : Lexeme) (lines : List (List Lexeme)) → length (in_first l lines) ≤ length lines + 1
first_few l [] = omega arith
first_few l (line ∷ lines) = omega arith

line_few : (b : Bool) (l : Lexeme) (lines : List (List Lexeme)) → length (cond b ([] ∷ lines) (in_first l lines)) ≤ length lines + 1
line_few true l lines = omega arith
line_few false l lines = first_few l lines

lines_few : (xs : List Lexeme) → length (lines_of xs) ≤ length xs + 1
lines_few [] = omega arith
lines_few (l ∷ rest) = omega (arith, line_few (is_line_end l) l (lines_of rest), lines_few rest)

rows_from_few : (index token : ℕ) (place : Place) (lines : List (List Lexeme)) → length (rows_from index token place lines) ≡ length lines
rows_from_few index token place [] = refl
rows_from_few index token place (line ∷ rest) = omega (arith, rows_from_few (index + 1) (token + length line + 1) (after_content index place (line_of line)) rest)

pub rows_few : (tokens : List Token) → length (rows_of (lexemes_of tokens)) ≤ length tokens + 1
rows_few tokens =
    omega (arith, rows_from_few 0 0 before_all (lines_of (lexemes_of tokens)), lines_few (lexemes_of tokens), length_map (lexeme_by (place_in tokens)) (enumerate_from 0 tokens), length_enumerated 0 tokens)

-- Symbols: a line names three at most

one_at_most : (o : Option SymbolName) → length (option_to_list o) ≤ 1
one_at_most None = omega arith
one_at_most (Some s) = omega arith

operands_few : (given : Arguments) → length (names_in given) ≤ 3
operands_few Zero = omega arith
operands_few (One a) = omega (arith, one_at_most (symbol_in a))
operands_few (Two a b) =
    omega (arith, one_at_most (symbol_in a), one_at_most (symbol_in b), length-append (option_to_list (symbol_in a)) (option_to_list (symbol_in b)))
operands_few (Three a b c) =
    omega (arith, one_at_most (symbol_in a), one_at_most (symbol_in b), one_at_most (symbol_in c), length-append (option_to_list (symbol_in a)) (option_to_list (symbol_in b)), length-append (option_to_list (symbol_in a) ++ option_to_list (symbol_in b)) (option_to_list (symbol_in c)))

statement_few : (st : Option Statement) → length (names_of_statement st) ≤ 3
statement_few None = omega arith
statement_few (Some (statements.Text s frame)) = omega arith
statement_few (Some (statements.Globl s size)) = omega arith
statement_few (Some (statements.Data s o d)) = omega (arith, one_at_most (symbol_at d))
statement_few (Some (statements.Signature s place)) = omega arith
statement_few (Some (statements.Instruction op given)) = operands_few given

content_few : (content : Option Line) → length (names_of_content content) ≤ 3
content_few None = omega arith
content_few (Some line) = statement_few line.statement

names_few : (rows : List Row) → length (flat_map names_of rows) ≤ 3 * length rows
names_few [] = omega arith
names_few (row ∷ rest) = omega (arith, content_few row.content, names_few rest, length-append (names_of row) (flat_map names_of rest))

known_by : (b : Bool) (known : List SymbolName) (s : SymbolName) → length (cond b known (known ++ s ∷ [])) ≤ length known + 1
known_by true known s = omega arith
known_by false known s = omega (arith, length-append known (s ∷ []))

known_few : (known xs : List SymbolName) → length (with_names known xs) ≤ length known + length xs
known_few known [] = omega arith
known_few known (s ∷ xs) = omega (arith, known_by (is_some (number_in known s)) known s, known_few (with_name known s) xs)

pub symbols_few : (rows : List Row) → length (symbols_of rows) ≤ 3 * length rows
symbols_few rows = omega (arith, known_few [] (flat_map names_of rows), names_few rows)

-- Instructions

in_code_few : (file : File) (f : ℕ) (st : Option Statement) (behind : List Abs) → length (in_code file f st behind) ≤ length behind + 1
in_code_few file f None behind = omega arith
in_code_few file f (Some (statements.Text s frame)) behind = omega arith
in_code_few file f (Some (statements.Globl s size)) behind = omega arith
in_code_few file f (Some (statements.Data s o d)) behind = omega arith
in_code_few file f (Some (statements.Signature s place)) behind = omega arith
in_code_few file f (Some (statements.Instruction op given)) behind = omega arith

code_of_few : (file : File) (f : ℕ) (rows : List Row) → length (code_of file f rows) ≤ length rows
code_of_few file f [] = omega arith
code_of_few file f (row ∷ rest) = omega (arith, in_code_few file f (statement_in row.content) (code_of file f rest), code_of_few file f rest)

drop_few : {X : Type 0} (n : ℕ) (xs : List X) → length (drop n xs) ≤ length xs
drop_few zero xs = omega arith
drop_few (suc n) [] = omega arith
drop_few (suc n) (x ∷ xs) = omega (arith, drop_few n xs)

pub code_few : (file : File) (f n : ℕ) (rows : List Row) → length (code_of file f (drop n rows)) ≤ length rows
code_few file f n rows = omega (arith, code_of_few file f (drop n rows), drop_few n rows)
