-- The symbols of a file of the form, as the modules that are joined by name have them. Texts are a
-- module's own, and no name of another module meets them, so they have no symbols here.
use Rattle.std.specs.Prelude.{ℕ, Bool, true, false, if◌then◌else◌, List, [], ◌∷◌, ◌++◌, map, flat_map, Option, Some, None, codes}
use Rattle.std.specs.List.{list_any}
use Rattle.p9_base.specs.Numbers.{word_bytes}
use Rattle.p9_first.specs.Form.{is_among}
use Rattle.p9_abs.specs.declared.instructions.Op.TheVariants.{Ret}
use Rattle.p9_abs.specs.declared.modules.DataPiece.TheVariants.{Raw}
use Rattle.p9_abs.specs.declared.modules.Body.{Body}
use Rattle.p9_abs.specs.declared.modules.Body.TheVariants.{Declared, Used, Text, Data, Common}
use Rattle.p9_abs.specs.declared.modules.Symbol.{Symbol}
use Rattle.p9_abs.specs.declared.modules.AModule.{AModule}
use Rattle.p9_form.specs.declared.file.Statement.{Statement}
use Rattle.p9_form.specs.declared.file.Statement.TheVariants.{Write, Exits}
use Rattle.p9_form.specs.declared.file.First.{First}
use Rattle.p9_form.specs.declared.file.First.TheVariants as first
use Rattle.p9_form.specs.declared.file.Declaration.{Declaration}
use Rattle.p9_form.specs.declared.file.File.{File}
use Rattle.p9_form.specs.Sharing.{names_in, statements}

abbrev pub global : List ℕ → (sig : List ℕ) → Body → Symbol
global name sig body = record { name = name; local = false; sig = sig; body = body }

-- The system calls that `main` makes

abbrev pub is_exits : Statement → Bool
is_exits (Exits text) = true
is_exits _ = false

abbrev pub is_write : Statement → Bool
is_write (Write text count) = true
is_write _ = false

abbrev pub used_if : Bool → Symbol → List Symbol
used_if used symbol = if used then symbol ∷ [] else []

abbrev pub system_symbols : List Statement → List Symbol
system_symbols ss =
    used_if (list_any is_exits ss) (global (codes "exits") (codes "(*c;)v") Used)
    ++ used_if (list_any is_write ss) (global (codes "write") (codes "(i;*v;l;)l") Used)

-- Variables

abbrev pub signature_of : (is_long : Bool) → List ℕ
signature_of is_long = if is_long then codes "l" else codes "i"

-- a variable of 4 bytes: declared only, used, without or with a first value
abbrev pub body_of : First → (used : Bool) → Body
body_of first.Extern used = if used then Used else Declared
body_of first.Zero used = Common 4
body_of (first.Number value) used = Data (Raw (word_bytes value) ∷ [])

abbrev pub variable_symbol : (names : List (List ℕ)) → Declaration → Symbol
variable_symbol names d = global d.name (signature_of d.is_long) (body_of d.first (is_among names d.name))

-- `main`, for whose code one RET stands
abbrev pub main_symbol : Symbol
main_symbol = global (codes "main") (codes "()v") (Text (record { frame = 0; code = record { op = Ret; operands = [] } ∷ [] }))

abbrev pub main_symbols : Option (List Statement) → List Symbol
main_symbols None = []
main_symbols (Some ss) = main_symbol ∷ []

-- The module of a file: the system calls, then what it declares, in this order

abbrev pub used_names : File → List (List ℕ)
used_names file = flat_map names_in (statements file.main)

abbrev pub symbols_of : File → List Symbol
symbols_of file =
    system_symbols (statements file.main)
    ++ (map (variable_symbol (used_names file)) file.before
    ++ (main_symbols file.main ++ map (variable_symbol (used_names file)) file.after))

abbrev pub module_of : File → AModule
module_of file = record { symbols = symbols_of file }
