-- Files that share variables: what they declare and define, what their statements name, and when
-- they can be run together.
use Rattle.std.specs.Prelude.{◌≡◌, ◌≢◌, ◌≤◌, ℕ, ◌+◌, ◌-◌, ◌%◌, List, [], ◌∷◌, ◌++◌, length, map, flat_map, Option, Some, None, All, AllPairs, Contains}
use Rattle.p9_form.specs.declared.file.Operand.{Operand}
use Rattle.p9_form.specs.declared.file.Operand.TheVariants.{Variable, Number}
use Rattle.p9_form.specs.declared.file.Statement.{Statement}
use Rattle.p9_form.specs.declared.file.Statement.TheVariants.{Assign, Write, Exits}
use Rattle.p9_form.specs.declared.file.First.{First}
use Rattle.p9_form.specs.declared.file.First.TheVariants as first
use Rattle.p9_form.specs.declared.file.Declaration.{Declaration}
use Rattle.p9_form.specs.declared.file.File.{File}

abbrev pub declarations : File → List Declaration
declarations file = file.before ++ file.after

abbrev pub statements : Option (List Statement) → List Statement
statements None = []
statements (Some ss) = ss

-- Names in statements

abbrev pub named_by : Operand → List (List ℕ)
named_by (Variable x) = x ∷ []
named_by (Number value) = []

abbrev pub named_if : Option Operand → List (List ℕ)
named_if None = []
named_if (Some operand) = named_by operand

abbrev pub names_in : Statement → List (List ℕ)
names_in (Assign x left right) = x ∷ (named_by left ++ named_if right)
names_in (Write text count) = named_by count
names_in (Exits text) = []

-- Definitions

-- a variable with its first value
pub record Initial : Type 0 where
  pub name : List ℕ
  pub value : ℕ

abbrev pub initial_in : Declaration → List Initial
initial_in d = by d.first
  where
    by : First → List Initial
    by first.Extern = []
    by first.Zero = []
    by (first.Number value) = record { name = d.name; value = value } ∷ []

-- the variables that are given a first value
abbrev pub initials : List File → List Initial
initials files = flat_map (λ file. flat_map initial_in (declarations file)) files

abbrev pub tentative_in : Declaration → List (List ℕ)
tentative_in d = by d.first
  where
    by : First → List (List ℕ)
    by first.Extern = []
    by first.Zero = d.name ∷ []
    by (first.Number value) = []

-- the variables that are declared without `extern` and without a first value
abbrev pub tentatives : List File → List (List ℕ)
tentatives files = flat_map (λ file. flat_map tentative_in (declarations file)) files

abbrev pub defined_names : List File → List (List ℕ)
defined_names files = map (λ v. v.name) (initials files) ++ tentatives files

abbrev pub main_in : File → List (List Statement)
main_in file = by file.main
  where
    by : Option (List Statement) → List (List Statement)
    by None = []
    by (Some ss) = ss ∷ []

abbrev pub mains : List File → List (List Statement)
mains files = flat_map main_in files

-- one file has `main`, no variable is given two first values, and `main` names variables that are defined
pub record AreJoined (files : List File) : Type 0 where
  pub main : List Statement
  pub one_main : mains files ≡ main ∷ []
  pub once : AllPairs (λ v w. v.name ≢ w.name) (initials files)
  pub resolved : All (λ x. Contains (defined_names files) x) (flat_map names_in main)

-- Sizes

-- a text and its zero byte, up to a whole word
abbrev pub padded : ℕ → ℕ
padded n = n + (4 - n % 4)

abbrev pub text_size : Option (List ℕ) → ℕ
text_size None = 0
text_size (Some text) = padded (length text)

abbrev pub statement_data : Statement → ℕ
statement_data (Assign x left right) = 0
statement_data (Write text count) = padded (length text)
statement_data (Exits text) = text_size text

-- a bound of a file's data: a word for each declaration, and its texts
abbrev pub declared_data : List Declaration → ℕ
declared_data [] = 0
declared_data (d ∷ ds) = 4 + declared_data ds

abbrev pub statements_data : List Statement → ℕ
statements_data [] = 0
statements_data (s ∷ ss) = statement_data s + statements_data ss

-- declarations and statements are many, or data large, only in a long file
pub record IsSmall (file : File) : Type 0 where
  pub data_size : declared_data (declarations file) + statements_data (statements file.main) ≤ 131072
  pub count : length (statements file.main) ≤ 65536
