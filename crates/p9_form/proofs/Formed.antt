-- What holds of a file whose tree has the form: its names, its numbers and its texts.
use Rattle.std.proofs.Common.{◌≤◌, ℕ, ◌+◌, Bool, true, false, not, ◌&&◌, IsTrue, List, [], ◌∷◌, Option, Some, None}
use Rattle.std.specs.List.{list_all}
use Rattle.p9_first.specs.Trees.{SyntaxRow, more, none}
use Rattle.p9_first.specs.Form.{is_among, is_variable_name, is_text_byte, IsOperand, IsSum, IsStatement, AreStatements, AreDeclarations, AreItems, IsFile}
use Rattle.p9_form.specs.declared.file.Operand.{Operand}
use Rattle.p9_form.specs.declared.file.Operand.TheVariants.{Variable, Number}
use Rattle.p9_form.specs.declared.file.Statement.{Statement}
use Rattle.p9_form.specs.declared.file.Statement.TheVariants.{Assign, Write, Exits}
use Rattle.p9_form.specs.declared.file.First.{First}
use Rattle.p9_form.specs.declared.file.First.TheVariants as first
use Rattle.p9_form.specs.declared.file.Declaration.{Declaration}
use Rattle.p9_form.specs.declared.file.File.{File}
use Rattle.p9_form.specs.Items.{operand_tree, sum_tree, statement_tree, statement_size, statement_trees, declaration_tree, declaration_size, declaration_trees, declarations_size, main_size, main_trees, items_of}

-- Statements

abbrev pub FitsOperand : List (List ℕ) → Operand → Type 0
FitsOperand names (Variable x) = IsTrue (is_among names x)
FitsOperand names (Number value) = value ≤ 2147483647

abbrev pub FitsIf : List (List ℕ) → Option Operand → Type 0
FitsIf names None = Unit {0}
FitsIf names (Some operand) = FitsOperand names operand

abbrev pub IsTextIf : Option (List ℕ) → Type 0
IsTextIf None = Unit {0}
IsTextIf (Some text) = IsTrue (list_all is_text_byte text)

-- the statement's names are declared, its number and its text are in range
abbrev pub FitsStatement : List (List ℕ) → Statement → Type 0
FitsStatement names (Assign x left right) = IsTrue (is_among names x) × FitsOperand names left × FitsIf names right
FitsStatement names (Write text count) = IsTrue (list_all is_text_byte text) × FitsOperand names count
FitsStatement names (Exits text) = IsTextIf text

abbrev pub FitStatements : List (List ℕ) → List Statement → Type 0
FitStatements names [] = Unit {0}
FitStatements names (s ∷ ss) = FitsStatement names s × FitStatements names ss

fits_operand : (names : List (List ℕ)) (at : ℕ) (o : Operand) → IsOperand names (operand_tree at o) → FitsOperand names o
fits_operand names at (Variable x) h = h
fits_operand names at (Number value) h = h

fits_sum : (names : List (List ℕ)) (at : ℕ) (left : Operand) (right : Option Operand) → IsSum names (sum_tree at left right) → FitsOperand names left × FitsIf names right
fits_sum names at (Variable x) None h = (h, tt)
fits_sum names at (Number value) None h = (h, tt)
fits_sum names at left (Some right) h = (fits_operand names at left h.0, fits_operand names (at + 2) right h.1)

fits_statement : (names : List (List ℕ)) (at : ℕ) (s : Statement) → IsStatement names (statement_tree at s) → FitsStatement names s
fits_statement names at (Assign x left right) h = let r = fits_sum names (at + 2) left right h.1 in (h.0, r.0, r.1)
fits_statement names at (Write text count) h = (h.2, fits_operand names (at + 6) count h.3)
fits_statement names at (Exits None) h = tt
fits_statement names at (Exits (Some text)) h = h.1

pub fit_statements : (names : List (List ℕ)) (at : ℕ) (ss : List Statement) → AreStatements names (statement_trees at ss) → FitStatements names ss
fit_statements names at [] h = tt
fit_statements names at (s ∷ ss) h = (fits_statement names at s h.0, fit_statements names (at + statement_size s) ss h.1)

-- Declarations

abbrev pub FitsFirst : First → Type 0
FitsFirst first.Extern = Unit {0}
FitsFirst first.Zero = Unit {0}
FitsFirst (first.Number value) = value ≤ 2147483647

-- each name is new, and each first value in range
abbrev pub FitDeclarations : List (List ℕ) → List Declaration → Type 0
FitDeclarations names [] = Unit {0}
FitDeclarations names (d ∷ ds) =
    IsTrue (is_variable_name d.name && not (is_among names d.name)) × FitsFirst d.first × FitDeclarations (d.name ∷ names) ds

-- the names that are declared behind these
abbrev pub names_behind : List (List ℕ) → List Declaration → List (List ℕ)
names_behind names [] = names
names_behind names (d ∷ ds) = names_behind (d.name ∷ names) ds

item_declared : (names : List (List ℕ)) (at : ℕ) (d : Declaration) (f : First) (l : Bool) (others : SyntaxRow)
    → AreItems names (more (declaration_tree at (record d { first = f; is_long = l })) others)
    → IsTrue (is_variable_name d.name && not (is_among names d.name)) × FitsFirst f × AreItems (d.name ∷ names) others
item_declared names at d first.Extern true others h = (h.0.1, tt, h.1)
item_declared names at d first.Extern false others h = (h.0.1, tt, h.1)
item_declared names at d first.Zero true others h = (h.0.1, tt, h.1)
item_declared names at d first.Zero false others h = (h.0.1, tt, h.1)
item_declared names at d (first.Number value) true others h = (h.0.1, h.0.2, h.1)
item_declared names at d (first.Number value) false others h = (h.0.1, h.0.2, h.1)

items_declared : (names : List (List ℕ)) (at : ℕ) (ds : List Declaration) (others : SyntaxRow)
    → AreItems names (declaration_trees at ds others) → FitDeclarations names ds × AreItems (names_behind names ds) others
items_declared names at [] others h = (tt, h)
items_declared names at (d ∷ ds) others h =
    let r = item_declared names at d d.first d.is_long (declaration_trees (at + declaration_size d.first) ds others) h in
    let s = items_declared (d.name ∷ names) (at + declaration_size d.first) ds others r.2 in
    ((r.0, r.1, s.0), s.1)

later_declared_one : (names : List (List ℕ)) (at : ℕ) (d : Declaration) (f : First) (l : Bool) (others : SyntaxRow)
    → AreDeclarations names (more (declaration_tree at (record d { first = f; is_long = l })) others)
    → IsTrue (is_variable_name d.name && not (is_among names d.name)) × FitsFirst f × AreDeclarations (d.name ∷ names) others
later_declared_one names at d first.Extern true others h = (h.0.1, tt, h.1)
later_declared_one names at d first.Extern false others h = (h.0.1, tt, h.1)
later_declared_one names at d first.Zero true others h = (h.0.1, tt, h.1)
later_declared_one names at d first.Zero false others h = (h.0.1, tt, h.1)
later_declared_one names at d (first.Number value) true others h = (h.0.1, h.0.2, h.1)
later_declared_one names at d (first.Number value) false others h = (h.0.1, h.0.2, h.1)

later_declared : (names : List (List ℕ)) (at : ℕ) (ds : List Declaration) → AreDeclarations names (declaration_trees at ds none) → FitDeclarations names ds
later_declared names at [] h = tt
later_declared names at (d ∷ ds) h =
    let r = later_declared_one names at d d.first d.is_long (declaration_trees (at + declaration_size d.first) ds none) h in
    (r.0, r.1, later_declared (d.name ∷ names) (at + declaration_size d.first) ds r.2)

-- Files

abbrev pub FitsMain : List (List ℕ) → Option (List Statement) → Type 0
FitsMain names None = Unit {0}
FitsMain names (Some ss) = FitStatements names ss

pub record FitsFile (file : File) : Type 0 where
  pub before : FitDeclarations [] file.before
  pub main : FitsMain (names_behind [] file.before) file.main
  pub after : FitDeclarations (names_behind [] file.before) file.after

main_fits : (names : List (List ℕ)) (at : ℕ) (main : Option (List Statement)) (after : List Declaration) → AreItems names (main_trees at main after) → FitsMain names main × FitDeclarations names after
main_fits names at None after h = (tt, (items_declared names at after none h).0)
main_fits names at (Some ss) after h = (fit_statements names (at + 6) ss h.0.2, later_declared names (at + main_size ss) after h.1)

pub file_fits : (file : File) → IsFile (items_of file) → FitsFile file
file_fits file h =
    let r = items_declared [] 0 file.before (main_trees (declarations_size file.before) file.main file.after) h.form in
    let m = main_fits (names_behind [] file.before) (declarations_size file.before) file.main file.after r.1 in
    record { before = r.0; main = m.0; after = m.1 }
