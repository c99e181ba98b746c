-- Words of a command line: which name files, the numbers that they are, and options before files.
use Rattle.std.specs.Prelude.{ℕ, ◌+◌, ◌-◌, ◌*◌, ◌^◌, List, [], ◌∷◌, ◌++◌, length, take, Bool, not, ◌&&◌, ◌==◌, nat_le, nat_lt, Option, Some, None, if◌then◌else◌, nat_eq, codes}
use Rattle.std.specs.List.{starts_with, ends_with, list_all}
use Rattle.std.specs.Str.{bytes_eq}
use Rattle.p9_headline.specs.declared.TheConstants.{DEFAULT_BUDGET}

-- the word names a file: it isn't empty, and doesn't begin with `-`
abbrev pub is_file : List ℕ → Bool
is_file word = not (length word == 0) && not (starts_with nat_eq word (codes "-"))

-- the word names a C source: it ends in `.c`, so it isn't empty, and doesn't begin with `-`
abbrev pub is_source : List ℕ → Bool
is_source word = ends_with nat_eq word (codes ".c") && not (starts_with nat_eq word (codes "-"))

-- the word names an assembler file: it ends in `.s`, so it isn't empty, and doesn't begin with `-`
abbrev pub is_assembly : List ℕ → Bool
is_assembly word = ends_with nat_eq word (codes ".s") && not (starts_with nat_eq word (codes "-"))

-- the object of an assembler file, where no other name is given: that name with `.s` replaced by `.v`
abbrev pub object_name : List ℕ → List ℕ
object_name file = take (length file - 2) file ++ codes ".v"

abbrev pub is_digit : ℕ → Bool
is_digit c = nat_le 48 c && nat_le c 57

-- the number that a digit makes behind those of n; none at another character, or from 2^32 on
abbrev pub with_digit : ℕ → ℕ → Option ℕ
with_digit n c = if is_digit c && nat_lt (n * 10 + (c - 48)) (2 ^ 32) then Some (n * 10 + (c - 48)) else None

-- the number that all of these digits make behind those of n
abbrev pub with_digits : Option ℕ → List ℕ → Option ℕ
with_digits None digits = None
with_digits (Some n) [] = Some n
with_digits (Some n) (c ∷ digits) = with_digits (with_digit n c) digits

-- the number of a word of 1 to 10 decimal digits, where it is below 2^32
abbrev pub number_of : List ℕ → Option ℕ
number_of word = if not (length word == 0) && nat_le (length word) 10 then with_digits (Some 0) word else None

-- the first of these that is a C source
abbrev pub first_source : (words : List (List ℕ)) → Option (List ℕ)
first_source [] = None
first_source (word ∷ words) = if is_source word then Some word else first_source words

-- Options before files

-- 1 to 256 words that name files
abbrev pub are_files : (words : List (List ℕ)) → Bool
are_files words = nat_le 1 (length words) && (nat_le (length words) 256 && list_all is_file words)

-- files, and the name by which what is made of them is written
pub record Named : Type 0 where
  pub output : List ℕ
  pub files : List (List ℕ)

abbrev pub named : (output : List ℕ) (files : List (List ℕ)) → Option Named
named output files = if is_file output && are_files files then Some (record { output = output; files = files }) else None

-- files, by the name that stands behind `-o` before them, or by `v.out`
abbrev pub output_and_files : (words : List (List ℕ)) → Option Named
output_and_files [] = None
output_and_files (file ∷ []) = named (codes "v.out") (file ∷ [])
output_and_files (option ∷ output ∷ files) =
    if bytes_eq option (codes "-o") then named output files else named (codes "v.out") (option ∷ output ∷ files)

-- and the number of instructions that their run has at most
pub record Budgeted : Type 0 where
  pub budget : ℕ
  pub made : Named

abbrev pub budgeted : Option ℕ → Option Named → Option Budgeted
budgeted None made = None
budgeted (Some budget) None = None
budgeted (Some budget) (Some made) = Some (record { budget = budget; made = made })

-- behind `-o` and a name: `-n` and a number, or the default budget, and then files
abbrev pub budget_behind : (output : List ℕ) (words : List (List ℕ)) → Option Budgeted
budget_behind output [] = None
budget_behind output (file ∷ []) = budgeted (Some DEFAULT_BUDGET) (named output (file ∷ []))
budget_behind output (option ∷ number ∷ files) =
    if bytes_eq option (codes "-n") then budgeted (number_of number) (named output files)
    else budgeted (Some DEFAULT_BUDGET) (named output (option ∷ number ∷ files))

-- both options in any order, each at most once, and then files
abbrev pub budget_and_files : (words : List (List ℕ)) → Option Budgeted
budget_and_files [] = None
budget_and_files (file ∷ []) = budgeted (Some DEFAULT_BUDGET) (named (codes "v.out") (file ∷ []))
budget_and_files (option ∷ value ∷ words) =
    if bytes_eq option (codes "-n") then budgeted (number_of value) (output_and_files words) else
    if bytes_eq option (codes "-o") then budget_behind value words
    else budgeted (Some DEFAULT_BUDGET) (named (codes "v.out") (option ∷ value ∷ words))
