-- What the maps of a numbering hold.
use Rattle.std.specs.Prelude.{◌≡◌, ◌&&◌, ℕ, Bool, List, Option, Some, None, if◌then◌else◌, nat_eq, bytes_eq}
use Rattle.std.specs.Borrow.{Bor}
use Rattle.std.specs.Map.{lookup}
use Rattle.p9_lang.specs.Names.{same_name}
use Rattle.p9_lang.specs.Symbols.{Symbol}
use Rattle.p9_lower.specs.Names.{has_no_number, outer_symbol, static_symbol}
use Rattle.p9_cmean.specs.Union.{has_number}
use Rattle.p9_numbering.specs.declared.symbol.Title.{Title}
use Rattle.p9_numbering.specs.Told.{told_name, told_static}

abbrev pub outer_held : List (Bor (List ℕ) × ℕ) → (name : List ℕ) → Option ℕ
outer_held entries name = lookup (λ k. bytes_eq name k.now) entries

abbrev pub static_held : List (ℕ × ℕ) → (number : ℕ) → Option ℕ
static_held entries number = lookup (nat_eq number) entries

abbrev pub NumbersOuters : List Symbol → List (Bor (List ℕ) × ℕ) → Type 0
NumbersOuters symbols entries = (name : List ℕ) → outer_held entries name ≡ outer_symbol symbols name

abbrev pub NumbersStatics : List Symbol → List (ℕ × ℕ) → Type 0
NumbersStatics symbols entries = (number : ℕ) → static_held entries number ≡ static_symbol symbols number

-- what a test gives a key where one symbol has this number
abbrev pub noted : (passes : Bool) → (number : ℕ) → Option ℕ
noted passes number = if passes then Some number else None

-- a symbol's title is this name, or has this number
abbrev pub is_outer_title : (name : List ℕ) → Title → Bool
is_outer_title name title = has_no_number (told_static title) && same_name name (told_name title)

abbrev pub is_static_title : (number : ℕ) → Title → Bool
is_static_title number title = has_number number (told_static title)
