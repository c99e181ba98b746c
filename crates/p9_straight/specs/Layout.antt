-- The data of files that share variables, and the addresses of what lies in it.
use Rattle.std.specs.Prelude.{ℕ, ◌+◌, ◌-◌, ◌*◌, ◌%◌, if◌then◌else◌, List, [], ◌∷◌, ◌++◌, length, map, flat_map, replicate, Option, Some, None, codes}
use Rattle.p9_base.specs.Numbers.{word_bytes}
use Rattle.p9_first.specs.Form.{same_name}
use Rattle.p9_first.specs.Modules.{new_names}
use Rattle.p9_form.specs.declared.file.Statement.{Statement}
use Rattle.p9_form.specs.declared.file.Statement.TheVariants.{Assign, Write, Exits}
use Rattle.p9_form.specs.declared.file.File.{File}
use Rattle.p9_form.specs.Sharing.{declarations, statements, Initial, initial_in, initials, tentatives}

-- an object of the data: a variable with its first value, or a text
pub data Datum : Type 0 where
  Variable : (variable : Initial) → Datum
  Text : (text : List ℕ) → Datum

-- a text has a zero byte behind it, and goes up to a whole word
abbrev pub text_bytes : List ℕ → List ℕ
text_bytes text = text ++ replicate (4 - length text % 4) 0

abbrev pub datum_bytes : Datum → List ℕ
datum_bytes (Variable v) = word_bytes v.value
datum_bytes (Text text) = text_bytes text

-- the text of a statement
abbrev pub text_in : Statement → List (List ℕ)
text_in (Assign x left right) = []
text_in (Write text count) = text ∷ []
text_in (Exits None) = []
text_in (Exits (Some text)) = text ∷ []

-- a file's variables with first values come before its texts
abbrev pub variables_of : File → List Initial
variables_of file = flat_map initial_in (declarations file)

abbrev pub data_of : File → List Datum
data_of file = map Variable (variables_of file) ++ map Text (flat_map text_in (statements file.main))

-- the text that the program ends with where `main` returns
abbrev pub end_text : List ℕ
end_text = codes "main"

-- all data, file by file, and then the end's text
abbrev pub data_objects : List File → List Datum
data_objects files = flat_map data_of files ++ Text end_text ∷ []

abbrev pub init_bytes : List File → List ℕ
init_bytes files = flat_map datum_bytes (data_objects files)

-- the variables without a first value, each once, by their first declarations
abbrev pub commons : List File → List (List ℕ)
commons files = new_names (map (λ v. v.name) (initials files)) (tentatives files)

abbrev pub bss_size : List File → ℕ
bss_size files = 4 * length (commons files)

-- Addresses

-- of the variable with this name among data that begin here
abbrev pub variable_in : (at : ℕ) → List Datum → (name : List ℕ) → Option ℕ
variable_in at [] name = None
variable_in at (Variable v ∷ others) name = if same_name name v.name then Some at else variable_in (at + 4) others name
variable_in at (Text text ∷ others) name = variable_in (at + length (text_bytes text)) others name

-- of the variable with this name among words that begin here
abbrev pub common_in : (at : ℕ) → List (List ℕ) → (name : List ℕ) → Option ℕ
common_in at [] name = None
common_in at (x ∷ names) name = if same_name name x then Some at else common_in (at + 4) names name

abbrev pub or_else : Option ℕ → Option ℕ → Option ℕ
or_else None other = other
or_else (Some at) other = Some at

-- of a variable, where the data begin at this address
abbrev pub address_of : (data_start : ℕ) → List File → (name : List ℕ) → Option ℕ
address_of data_start files name =
    or_else (variable_in data_start (data_objects files) name)
    (common_in (data_start + length (init_bytes files)) (commons files) name)

-- of the texts of the file that has `main`, where the data of these files begin here
abbrev pub texts_from : Option (List Statement) → (here next : ℕ) → ℕ
texts_from None here next = next
texts_from (Some ss) here next = here

abbrev pub texts_at : (at : ℕ) → List File → ℕ
texts_at at [] = at
texts_at at (file ∷ files) =
    texts_from file.main (at + 4 * length (variables_of file)) (texts_at (at + 4 * length (variables_of file)) files)

-- of the end's text
abbrev pub end_at : (data_start : ℕ) → List File → ℕ
end_at data_start files = data_start + length (flat_map datum_bytes (flat_map data_of files))
