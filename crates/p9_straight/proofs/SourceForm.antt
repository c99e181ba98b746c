-- What the form says of a file: new names, numbers within bounds, and statements that name what is declared.
use Rattle.std.proofs.Common.{◌≡◌, ◌≢◌, ◌≤◌, ℕ, ◌+◌, Bool, true, false, not, List, [], ◌∷◌, All, Some, None, Option, refl, sym, ◌∙◌, subst}
use Rattle.std.proofs.lemmas.List.Elements.{All-nil, All-cons}
use Rattle.std.specs.List.{list_all}
use Rattle.p9_first.specs.declared.tree.Kind.TheVariants as kind
use Rattle.p9_first.specs.Trees.{node, none, more, SyntaxRow}
use Rattle.p9_first.specs.Form.{is_among, is_text_byte, is_variable_name, IsOperand, IsSum, IsStatement, AreStatements, names_after, AreDeclarations, AreItems, IsFile}
use Rattle.p9_form.specs.declared.file.Operand.{Operand}
use Rattle.p9_form.specs.declared.file.Operand.TheVariants.{Variable, Number}
use Rattle.p9_form.specs.declared.file.Statement.{Statement}
use Rattle.p9_form.specs.declared.file.Statement.TheVariants.{Assign, Write, Exits}
use Rattle.p9_form.specs.declared.file.First.{First}
use Rattle.p9_form.specs.declared.file.First.TheVariants as first
use Rattle.p9_form.specs.declared.file.Declaration.{Declaration}
use Rattle.p9_form.specs.declared.file.File.{File}
use Rattle.p9_form.specs.Items.{operand_tree, sum_tree, statement_tree, statement_trees, statement_size, declaration_tree, declaration_trees, declaration_size, declarations_size, main_trees, main_size, items_of}
use Rattle.p9_straight.proofs.SourceLists.{both_left, both_right, not_true}
use Rattle.p9_straight.proofs.SourceRun.{FineOperand, FineIf, Fine, AreFine}

abbrev pub IsBounded : First → Type 0
IsBounded first.Extern = Unit {0}
IsBounded first.Zero = Unit {0}
IsBounded (first.Number value) = value ≤ 2147483647

-- declarations of variables that weren't declared before
abbrev pub AreNew : List (List ℕ) → List Declaration → Type 0
AreNew names [] = Unit {0}
AreNew names (d ∷ ds) = (is_variable_name d.name ≡ true) × (is_among names d.name ≡ false) × IsBounded d.first × AreNew (d.name ∷ names) ds

abbrev pub names_behind : List (List ℕ) → List Declaration → List (List ℕ)
names_behind names [] = names
names_behind names (d ∷ ds) = names_behind (d.name ∷ names) ds

abbrev pub Among : List (List ℕ) → List ℕ → Type 0
Among names x = is_among names x ≡ true

abbrev pub MainIsFine : List (List ℕ) → Option (List Statement) → Type 0
MainIsFine names None = Unit {0}
MainIsFine names (Some ss) = AreFine (Among names) ss

pub record FileForm (file : File) : Type 0 where
  pub before : AreNew [] file.before
  pub after : AreNew (names_behind [] file.before) file.after
  pub main : MainIsFine (names_behind [] file.before) file.main

-- Declarations

one_new : (names : List (List ℕ)) (a : ℕ) (x : List ℕ) (l : Bool) (f : First) (others : SyntaxRow)
    → AreItems names (more (declaration_tree a (record { name = x; is_long = l; first = f })) others)
    → (is_variable_name x ≡ true) × (is_among names x ≡ false) × IsBounded f × AreItems (x ∷ names) others
one_new names a x l first.Extern others h =
    (both_left (is_variable_name x) (not (is_among names x)) h.0.1, not_true (is_among names x) (both_right (is_variable_name x) (not (is_among names x)) h.0.1), tt, h.1)
one_new names a x l first.Zero others h =
    (both_left (is_variable_name x) (not (is_among names x)) h.0.1, not_true (is_among names x) (both_right (is_variable_name x) (not (is_among names x)) h.0.1), tt, h.1)
one_new names a x l (first.Number value) others h =
    (both_left (is_variable_name x) (not (is_among names x)) h.0.1, not_true (is_among names x) (both_right (is_variable_name x) (not (is_among names x)) h.0.1), h.0.2, h.1)

are_new : (names : List (List ℕ)) (a : ℕ) (ds : List Declaration) (others : SyntaxRow)
    → AreItems names (declaration_trees a ds others) → AreNew names ds × AreItems (names_behind names ds) others
are_new names a [] others h = (tt, h)
are_new names a (d ∷ ds) others h =
    let o = one_new names a d.name d.is_long d.first (declaration_trees (a + declaration_size d.first) ds others) h in
    let r = are_new (d.name ∷ names) (a + declaration_size d.first) ds others o.3 in
    ((o.0, o.1, o.2, r.0), r.1)

-- declarations are items
are_items : (names : List (List ℕ)) (row : SyntaxRow) → AreDeclarations names row → AreItems names row
are_items names none h = tt
are_items names (more (node (kind.Function spec) at parts) others) h = absurd h.0
are_items names (more (node k at parts) others) h = (h.0, are_items (names_after (node k at parts) names) others h.1)

-- Statements

fine_operand : (names : List (List ℕ)) (a : ℕ) (o : Operand) → IsOperand names (operand_tree a o) → FineOperand (Among names) o
fine_operand names a (Variable x) h = h
fine_operand names a (Number n) h = h

fine_left : (names : List (List ℕ)) (a : ℕ) (o : Operand) → IsSum names (operand_tree a o) → FineOperand (Among names) o
fine_left names a (Variable x) h = h
fine_left names a (Number n) h = h

fine_sum : (names : List (List ℕ)) (a : ℕ) (left : Operand) (right : Option Operand) → IsSum names (sum_tree a left right) → FineOperand (Among names) left × FineIf (Among names) right
fine_sum names a left None h = (fine_left names a left h, tt)
fine_sum names a left (Some right) h = (fine_operand names a left h.0, fine_operand names (a + 2) right h.1)

zero_is_no_text : is_text_byte 0 ≡ false
zero_is_no_text = refl

not_zero : (b : ℕ) → is_text_byte b ≡ true → b ≢ 0
not_zero b h e = let t : true ≡ false = sym (subst (λ c. is_text_byte c ≡ true) e h) ∙ zero_is_no_text in cc

fine_text : (text : List ℕ) → list_all is_text_byte text ≡ true → All (λ c. c ≢ 0) text
fine_text [] h = All-nil (λ c. c ≢ 0)
fine_text (b ∷ bs) h =
    All-cons (λ c. c ≢ 0) b bs (not_zero b (both_left (is_text_byte b) (list_all is_text_byte bs) h))
    (fine_text bs (both_right (is_text_byte b) (list_all is_text_byte bs) h))

fine_statement : (names : List (List ℕ)) (a : ℕ) (s : Statement) → IsStatement names (statement_tree a s) → Fine (Among names) s
fine_statement names a (Assign x left right) h = let r = fine_sum names (a + 2) left right h.1 in (h.0, r.0, r.1)
fine_statement names a (Write text count) h = fine_operand names (a + 6) count h.3
fine_statement names a (Exits None) h = tt
fine_statement names a (Exits (Some text)) h = fine_text text h.1

fine_statements : (names : List (List ℕ)) (a : ℕ) (ss : List Statement) → AreStatements names (statement_trees a ss) → AreFine (Among names) ss
fine_statements names a [] h = tt
fine_statements names a (s ∷ ss) h = (fine_statement names a s h.0, fine_statements names (a + statement_size s) ss h.1)

-- A file

main_form : (names : List (List ℕ)) (a : ℕ) (main : Option (List Statement)) (after : List Declaration) → AreItems names (main_trees a main after)
    → AreNew names after × MainIsFine names main
main_form names a None after h = ((are_new names a after none h).0, tt)
main_form names a (Some ss) after h = (
  (are_new names (a + main_size ss) after none (are_items names (declaration_trees (a + main_size ss) after none) h.1)).0,
  fine_statements names (a + 6) ss h.0.2,
)

pub file_form : (file : File) → IsFile (items_of file) → FileForm file
file_form file h =
    let b = are_new [] 0 file.before (main_trees (declarations_size file.before) file.main file.after) h.form in
    let m = main_form (names_behind [] file.before) (declarations_size file.before) file.main file.after b.1 in
    record { before = b.0; after = m.0; main = m.1 }
