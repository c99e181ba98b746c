-- How a line breaks a rule: what it shows with the lines before it, and what later lines or the end of
-- the file show. On one line the break of the least number counts.
use Rattle.std.specs.Prelude.{ℕ, ◌+◌, ◌==◌, nat_lt, Bool, true, false, not, ◌&&◌, ◌||◌, List, [], ◌∷◌, Option, Some, None, is_some, option_map, option_and_then, if◌then◌else◌}
use Rattle.std.specs.Option.{option_or}
use Rattle.std.specs.List.{list_all, list_any}
use Rattle.p9_abs.specs.declared.instructions.Op.{Op}
use Rattle.p9_abs.specs.declared.instructions.Op.TheVariants.{Ret, Jmp}
use Rattle.p9_statement.specs.declared.operands.SymbolName.{SymbolName}
use Rattle.p9_statement.specs.declared.operands.Argument.{Argument}
use Rattle.p9_statement.specs.declared.operands.Argument.TheVariants as operands
use Rattle.p9_statement.specs.declared.statements.Datum.{Datum}
use Rattle.p9_statement.specs.declared.statements.Datum.TheVariants as data_values
use Rattle.p9_statement.specs.declared.statements.Statement.{Statement}
use Rattle.p9_statement.specs.declared.statements.Statement.TheVariants as statements
use Rattle.p9_statement.specs.declared.statements.Line.{Line}
use Rattle.p9_statement.specs.Statements.{listed, reserved_register, fits_frame}
use Rattle.p9_rows.specs.declared.rows.Place.{Place}
use Rattle.p9_rows.specs.declared.rows.Row.{Row}
use Rattle.p9_facts.specs.declared.facts.Fact.{Fact}
use Rattle.p9_facts.specs.declared.facts.Fact.TheVariants.{Label, Instruction}
use Rattle.p9_facts.specs.Facts.{definition, signature, datum_bytes}
use Rattle.p9_facts.specs.Names.{names_of_statement}
use Rattle.p9_asm.specs.declared.breaks.Break.{Break}
use Rattle.p9_asm.specs.declared.breaks.Break.TheVariants.{Syntax, Reserved, NoLabel, LabelTwice}
use Rattle.p9_asm.specs.Files.{File, statement_at}

-- Sizes of data

-- the size that a GLOBL line gives
abbrev pub size_in : Option Statement → Option ℕ
size_in (Some (statements.Globl s size)) = Some size
size_in _ = None

abbrev pub size_at : File → ℕ → Option ℕ
size_at file n = size_in (statement_at file n)

abbrev pub width_of : Datum → ℕ
width_of (data_values.Byte v) = 1
width_of (data_values.Half v) = 2
width_of (data_values.Word v) = 4
width_of (data_values.Address s o) = 4

-- What a line shows with those before it

abbrev pub is_at : Option ℕ → ℕ → Bool
is_at None index = false
is_at (Some n) index = n == index

-- no line before says the fact that this one says
abbrev pub is_new : File → (index : ℕ) → Fact → Bool
is_new file index fact = is_at (file.first fact) index

abbrev pub is_smaller : Option ℕ → (end : ℕ) → Bool
is_smaller None end = false
is_smaller (Some size) end = nat_lt size end

-- a line before gives a size that is smaller
abbrev pub was_smaller : File → (index end : ℕ) → (defined : Option ℕ) → Bool
was_smaller file index end None = false
was_smaller file index end (Some n) = nat_lt n index && is_smaller (size_at file n) end

-- A symbol is defined once and has one signature; no byte is given twice, and none outside its data;
-- an instruction stands in a function, and its SP operands in the function's frame.
abbrev pub is_broken : File → (index : ℕ) → Place → Option Statement → Bool
is_broken file index place None = false
is_broken file index place (Some (statements.Text s frame)) = not (is_new file index (definition s))
is_broken file index place (Some (statements.Globl s size)) = not (is_new file index (definition s))
is_broken file index place (Some (statements.Signature s token)) = not (is_new file index (signature s))
is_broken file index place (Some (statements.Data s o d)) =
    not (list_all (is_new file index) (datum_bytes s o d)) || was_smaller file index (o + width_of d) (file.first (definition s))
is_broken file index place (Some (statements.Instruction op given)) =
    not (is_some place.function) || not (fits_frame place.frame (statements.Instruction op given))

-- a label stands in a function
abbrev pub is_label_outside : (label function : Option ℕ) → Bool
is_label_outside label function = is_some label && not (is_some function)

abbrev pub reserved_in : Option Statement → Option Break
reserved_in statement = option_map (λ r. Reserved r) (option_and_then reserved_register statement)

abbrev pub label_twice : File → (index : ℕ) → (label function : Option ℕ) → Option Break
label_twice file index (Some w) (Some f) = if is_new file index (Label f w) then None else Some (LabelTwice w)
label_twice file index _ _ = None

abbrev pub shown_by : File → (index : ℕ) → Place → Option Line → Option Break
shown_by file index place None = Some Syntax
shown_by file index place (Some line) =
    if is_label_outside line.label place.function || is_broken file index place line.statement
    then Some Syntax
    else option_or (reserved_in line.statement) (label_twice file index line.label place.function)

unfoldable pub shown : File → (index : ℕ) → Row → Option Break
shown file index row = shown_by file index row.place row.content

-- What later lines, or the end of the file, show

-- the function has no instruction of that number
abbrev pub is_past : File → (function : Option ℕ) → (number : ℕ) → Bool
is_past file None number = false
is_past file (Some f) number = not (is_some (file.first (Instruction f number)))

-- the value is inside no data
abbrev pub is_outside_size : Option ℕ → (end : ℕ) → Bool
is_outside_size None end = true
is_outside_size (Some size) end = nat_lt size end

abbrev pub is_outside : File → (end : ℕ) → (defined : Option ℕ) → Bool
is_outside file end None = true
is_outside file end (Some n) = is_outside_size (size_at file n) end

-- a local symbol that the file doesn't define
abbrev pub is_undefined : File → SymbolName → Bool
is_undefined file s = s.local && not (is_some (file.first (definition s)))

abbrev pub may_end : Op → Bool
may_end Ret = true
may_end Jmp = true
may_end _ = false

-- a function has an instruction, and its last is RET or JMP; data lie inside their symbol's
abbrev pub is_unended : File → (index : ℕ) → Place → Option Statement → Bool
is_unended file index place (Some (statements.Text s frame)) = is_past file (Some index) 0
is_unended file index place (Some (statements.Data s o d)) = is_outside file (o + width_of d) (file.first (definition s))
is_unended file index place (Some (statements.Instruction op given)) = is_past file place.function (place.number + 1) && not (may_end op)
is_unended file index place _ = false

-- a label names an instruction
abbrev pub names_nothing : File → Place → (label : Option ℕ) → Bool
names_nothing file place label = is_some label && is_past file place.function place.number

abbrev pub label_in : Argument → Option ℕ
label_in (operands.Label w) = Some w
label_in _ = None

abbrev pub missing_label : File → (target function : Option ℕ) → Option Break
missing_label file (Some w) (Some f) = if is_some (file.first (Label f w)) then None else Some (NoLabel w)
missing_label file _ _ = None

-- the first label among operands that the function doesn't have
abbrev pub missing_among : File → (function : Option ℕ) → List Argument → Option Break
missing_among file function [] = None
missing_among file function (a ∷ rest) = option_or (missing_label file (label_in a) function) (missing_among file function rest)

abbrev pub no_label : File → (function : Option ℕ) → Option Statement → Option Break
no_label file function (Some (statements.Instruction op given)) = missing_among file function (listed given)
no_label file function _ = None

abbrev pub unfinished_by : File → (index : ℕ) → Place → Option Line → Option Break
unfinished_by file index place None = None
unfinished_by file index place (Some line) =
    if names_nothing file place line.label || (is_unended file index place line.statement || list_any (is_undefined file) (names_of_statement line.statement))
    then Some Syntax
    else no_label file place.function line.statement

unfoldable pub unfinished : File → (index : ℕ) → Row → Option Break
unfinished file index row = unfinished_by file index row.place row.content
