-- The trees of a file that was read: they have the form, are placed, and are written in its tokens.
use Rattle.std.proofs.Common.{◌≡◌, ℕ, suc, ◌+◌, Bool, true, false, not, ◌&&◌, IsTrue, List, [], ◌∷◌, ◌++◌, length, length-append, Option, Some, None, refl, ap, ◌∙◌, sym, subst, append_assoc, append-nil, codes, arith}
use Rattle.p9_first.specs.declared.tree.Kind.TheVariants as kind
use Rattle.p9_first.specs.Trees.{none, more, SyntaxRow}
use Rattle.p9_first.specs.Tokens.{Token, Word, Number, Text, End, tokens, tokens_from, file_tokens}
use Rattle.p9_first.specs.Form.{IsOperand, IsSum, IsStatement, AreStatements, IsDeclaration, AreDeclarations, AreItems, IsPlaced, ArePlaced, AreItemsPlaced, IsFile, is_among, is_variable_name}
use Rattle.p9_form.specs.declared.file.Operand.{Operand}
use Rattle.p9_form.specs.declared.file.Operand.TheVariants as operand
use Rattle.p9_form.specs.declared.file.Statement.{Statement}
use Rattle.p9_form.specs.declared.file.Statement.TheVariants.{Assign, Write, Exits}
use Rattle.p9_form.specs.declared.file.First.{First}
use Rattle.p9_form.specs.declared.file.First.TheVariants as first
use Rattle.p9_form.specs.declared.file.Declaration.{Declaration}
use Rattle.p9_form.specs.declared.file.File.{File}
use Rattle.p9_form.specs.Items.{operand_tree, sum_tree, statement_tree, statement_size, statement_trees, statements_size, declaration_tree, declaration_size, declarations_size, declaration_trees, main_tree, main_size, main_trees, items_of}
use Rattle.p9_form.specs.Phrases.{mark, operand_token, right_tokens, statement_tokens, statements_tokens, OperandFits, RightFits, StatementFits, StatementsFit, declaration_tokens, declarations_tokens, FirstFits, DeclarationsFit, declared, head_tokens, main_tokens, written, MainFits, FileFits}
use Rattle.p9_form.specs.Found.{IsWritten}

-- Tokens of the trees

operand_tokens : (at : ℕ) (x : Operand) → tokens (operand_tree at x) ≡ operand_token x ∷ []
operand_tokens at (operand.Variable x) = refl
operand_tokens at (operand.Number value) = refl

sum_tokens : (at : ℕ) (left : Operand) (right : Option Operand) → tokens (sum_tree at left right) ≡ operand_token left ∷ right_tokens right
sum_tokens at left None = operand_tokens at left
sum_tokens at left (Some right) =
    ap (λ v. v ++ (mark 43 ∷ (tokens (operand_tree (at + 2) right) ++ []))) (operand_tokens at left)
    ∙ ap (λ v. operand_token left ∷ mark 43 ∷ (v ++ [])) (operand_tokens (at + 2) right)

pub tokens_of_statement : (at : ℕ) (s : Statement) → tokens (statement_tree at s) ≡ statement_tokens s
tokens_of_statement at (Assign x left right) =
    ap (λ v. Word x ∷ mark 61 ∷ ((v ++ []) ++ mark 59 ∷ [])) (sum_tokens (at + 2) left right)
    ∙ ap (λ v. Word x ∷ mark 61 ∷ operand_token left ∷ (v ++ mark 59 ∷ [])) (append-nil (right_tokens right))
tokens_of_statement at (Write text count) =
    ap (λ v. Word (codes "write") ∷ mark 40 ∷ Number 1 false false ∷ mark 44 ∷ Text text ∷ mark 44 ∷ ((v ++ mark 41 ∷ []) ++ mark 59 ∷ [])) (operand_tokens (at + 6) count)
tokens_of_statement at (Exits None) = refl
tokens_of_statement at (Exits (Some text)) = refl

pub tokens_of_statements : (i at : ℕ) (ss : List Statement) → tokens_from kind.Block i (statement_trees at ss) ≡ statements_tokens ss ++ mark 125 ∷ []
tokens_of_statements i at [] = refl
tokens_of_statements i at (s ∷ ss) =
    ap (λ v. v ++ tokens_from kind.Block (suc i) (statement_trees (at + statement_size s) ss)) (tokens_of_statement at s)
    ∙ ap (λ v. statement_tokens s ++ v) (tokens_of_statements (suc i) (at + statement_size s) ss)
    ∙ sym (append_assoc (statement_tokens s) (statements_tokens ss) (mark 125 ∷ []))

tokens_by : (at : ℕ) (name : List ℕ) (is_long : Bool) (f : First) → tokens (declaration_tree at (record { name = name; is_long = is_long; first = f })) ≡ declaration_tokens (record { name = name; is_long = is_long; first = f })
tokens_by at name true first.Extern = refl
tokens_by at name false first.Extern = refl
tokens_by at name true first.Zero = refl
tokens_by at name false first.Zero = refl
tokens_by at name true (first.Number value) = refl
tokens_by at name false (first.Number value) = refl

pub tokens_of_declaration : (at : ℕ) (d : Declaration) → tokens (declaration_tree at d) ≡ declaration_tokens d
tokens_of_declaration at d = tokens_by at d.name d.is_long d.first

tokens_of_declarations : (at : ℕ) (ds : List Declaration) (others : SyntaxRow) → file_tokens (declaration_trees at ds others) ≡ declarations_tokens ds ++ file_tokens others
tokens_of_declarations at [] others = refl
tokens_of_declarations at (d ∷ ds) others =
    ap (λ v. v ++ file_tokens (declaration_trees (at + declaration_size d.first) ds others)) (tokens_of_declaration at d)
    ∙ ap (λ v. declaration_tokens d ++ v) (tokens_of_declarations (at + declaration_size d.first) ds others)
    ∙ sym (append_assoc (declaration_tokens d) (declarations_tokens ds) (file_tokens others))

tokens_of_main : (at : ℕ) (ss : List Statement) → tokens (main_tree at ss) ≡ main_tokens (Some ss)
tokens_of_main at ss =
    ap (λ v. head_tokens ++ (v ++ [])) (tokens_of_statements 0 (at + 6) ss)
    ∙ ap (λ v. head_tokens ++ v) (append-nil (statements_tokens ss ++ mark 125 ∷ []))

tokens_behind : (names : List (List ℕ)) (at : ℕ) (main : Option (List Statement)) (after : List Declaration) → MainFits names main after → file_tokens (main_trees at main after) ≡ main_tokens main ++ (declarations_tokens after ++ End ∷ [])
tokens_behind names at None after h = tokens_of_declarations at after none
tokens_behind names at (Some ss) after h =
    ap (λ v. v ++ file_tokens (declaration_trees (at + main_size ss) after none)) (tokens_of_main at ss)
    ∙ ap (λ v. main_tokens (Some ss) ++ v) (tokens_of_declarations (at + main_size ss) after none)

pub tokens_of_file : (file : File) → FileFits file → file_tokens (items_of file) ≡ written file
tokens_of_file file h =
    tokens_of_declarations 0 file.before (main_trees (declarations_size file.before) file.main file.after)
    ∙ ap (λ v. declarations_tokens file.before ++ v) (tokens_behind (declared [] file.before) (declarations_size file.before) file.main file.after h.1)

-- Form

operand_form : (names : List (List ℕ)) (at : ℕ) (x : Operand) → OperandFits names x → IsOperand names (operand_tree at x)
operand_form names at (operand.Variable x) h = h
operand_form names at (operand.Number value) h = h

sum_form : (names : List (List ℕ)) (at : ℕ) (left : Operand) (right : Option Operand) → OperandFits names left → RightFits names right → IsSum names (sum_tree at left right)
sum_form names at (operand.Variable x) None l r = l
sum_form names at (operand.Number value) None l r = l
sum_form names at left (Some right) l r = (operand_form names at left l, operand_form names (at + 2) right r)

statement_form : (names : List (List ℕ)) (at : ℕ) (s : Statement) → StatementFits names s → IsStatement names (statement_tree at s)
statement_form names at (Assign x left right) h = (h.0, sum_form names (at + 2) left right h.1 h.2)
statement_form names at (Write text count) h = (refl, refl, h.0, operand_form names (at + 6) count h.1)
statement_form names at (Exits None) h = (refl, refl)
statement_form names at (Exits (Some text)) h = (refl, h)

statements_form : (names : List (List ℕ)) (at : ℕ) (ss : List Statement) → StatementsFit names ss → AreStatements names (statement_trees at ss)
statements_form names at [] h = tt
statements_form names at (s ∷ ss) h = (statement_form names at s h.0, statements_form names (at + statement_size s) ss h.1)

declaration_form : (names : List (List ℕ)) (at : ℕ) (name : List ℕ) (is_long : Bool) (f : First) → IsTrue (is_variable_name name && not (is_among names name)) → FirstFits f → IsDeclaration names (declaration_tree at (record { name = name; is_long = is_long; first = f }))
declaration_form names at name true first.Extern n h = (tt, n)
declaration_form names at name false first.Extern n h = (tt, n)
declaration_form names at name true first.Zero n h = (tt, n)
declaration_form names at name false first.Zero n h = (tt, n)
declaration_form names at name true (first.Number value) n h = (tt, n, h)
declaration_form names at name false (first.Number value) n h = (tt, n, h)

item_form : (names : List (List ℕ)) (at : ℕ) (name : List ℕ) (is_long : Bool) (f : First) (others : SyntaxRow) → IsTrue (is_variable_name name && not (is_among names name)) → FirstFits f → AreItems (name ∷ names) others → AreItems names (more (declaration_tree at (record { name = name; is_long = is_long; first = f })) others)
item_form names at name is_long first.Extern others n h o = (declaration_form names at name is_long first.Extern n h, o)
item_form names at name is_long first.Zero others n h o = (declaration_form names at name is_long first.Zero n h, o)
item_form names at name is_long (first.Number value) others n h o = (declaration_form names at name is_long (first.Number value) n h, o)

items_form : (names : List (List ℕ)) (at : ℕ) (ds : List Declaration) (others : SyntaxRow) → DeclarationsFit names ds → AreItems (declared names ds) others → AreItems names (declaration_trees at ds others)
items_form names at [] others h o = o
items_form names at (d ∷ ds) others h o =
    item_form names at d.name d.is_long d.first (declaration_trees (at + declaration_size d.first) ds others) h.0.0 h.0.1
    (items_form (d.name ∷ names) (at + declaration_size d.first) ds others h.1 o)

later_form : (names : List (List ℕ)) (at : ℕ) (name : List ℕ) (is_long : Bool) (f : First) (others : SyntaxRow) → IsTrue (is_variable_name name && not (is_among names name)) → FirstFits f → AreDeclarations (name ∷ names) others → AreDeclarations names (more (declaration_tree at (record { name = name; is_long = is_long; first = f })) others)
later_form names at name is_long first.Extern others n h o = (declaration_form names at name is_long first.Extern n h, o)
later_form names at name is_long first.Zero others n h o = (declaration_form names at name is_long first.Zero n h, o)
later_form names at name is_long (first.Number value) others n h o = (declaration_form names at name is_long (first.Number value) n h, o)

declarations_form : (names : List (List ℕ)) (at : ℕ) (ds : List Declaration) → DeclarationsFit names ds → AreDeclarations names (declaration_trees at ds none)
declarations_form names at [] h = tt
declarations_form names at (d ∷ ds) h =
    later_form names at d.name d.is_long d.first (declaration_trees (at + declaration_size d.first) ds none) h.0.0 h.0.1
    (declarations_form (d.name ∷ names) (at + declaration_size d.first) ds h.1)

main_form : (names : List (List ℕ)) (at : ℕ) (main : Option (List Statement)) (after : List Declaration) → MainFits names main after → AreItems names (main_trees at main after)
main_form names at None after h = subst (λ ds. AreItems names (declaration_trees at ds none)) (sym h) tt
main_form names at (Some ss) after h = ((refl, refl, statements_form names (at + 6) ss h.0), declarations_form names (at + main_size ss) after h.1)

pub file_form : (file : File) → FileFits file → AreItems [] (items_of file)
file_form file h =
    items_form [] 0 file.before (main_trees (declarations_size file.before) file.main file.after) h.0
    (main_form (declared [] file.before) (declarations_size file.before) file.main file.after h.1)

-- Places

operand_placed : (at here : ℕ) (x : Operand) → at ≡ here → IsPlaced here (operand_tree at x)
operand_placed at here (operand.Variable x) e = (e, tt)
operand_placed at here (operand.Number value) e = (e, tt)

operand_size : (at : ℕ) (x : Operand) → length (tokens (operand_tree at x)) ≡ 1
operand_size at x = ap length (operand_tokens at x)

sum_placed : (at here : ℕ) (left : Operand) (right : Option Operand) → at ≡ here → IsPlaced here (sum_tree at left right)
sum_placed at here left None e = operand_placed at here left e
sum_placed at here left (Some right) e =
    let size = operand_size at left in
    (e, (operand_placed at (here + 0 + 0) left (omega arith), (operand_placed (at + 2) (here + 0 + 0 + length (tokens (operand_tree at left)) + 1) right (omega arith), tt)))

pub statement_placed : (at here : ℕ) (s : Statement) → at ≡ here → IsPlaced here (statement_tree at s)
statement_placed at here (Assign x left right) e = (e, ((omega arith, ((omega arith, tt), (sum_placed (at + 2) _ left right (omega arith), tt))), tt))
statement_placed at here (Write text count) e =
    (e, ((omega arith, ((omega arith, tt), ((omega arith, tt), ((omega arith, tt), (operand_placed (at + 6) _ count (omega arith), tt))))), tt))
statement_placed at here (Exits None) e = (e, ((omega arith, ((omega arith, tt), ((omega arith, tt), tt))), tt))
statement_placed at here (Exits (Some text)) e = (e, ((omega arith, ((omega arith, tt), ((omega arith, tt), tt))), tt))

size_of_statement : (at : ℕ) (s : Statement) → length (tokens (statement_tree at s)) ≡ statement_size s
size_of_statement at s = ap length (tokens_of_statement at s) ∙ by s
  where
    by : (s : Statement) → length (statement_tokens s) ≡ statement_size s
    by (Assign x left None) = refl
    by (Assign x left (Some right)) = refl
    by (Write text count) = refl
    by (Exits text) = refl

statements_placed : (i at here : ℕ) (ss : List Statement) → at ≡ here → ArePlaced kind.Block i here (statement_trees at ss)
statements_placed i at here [] e = tt
statements_placed i at here (s ∷ ss) e =
    let size = size_of_statement at s in
    (statement_placed at (here + 0) s (omega arith), statements_placed (suc i) (at + statement_size s) (here + 0 + length (tokens (statement_tree at s))) ss (omega arith))

placed_by : (at here : ℕ) (name : List ℕ) (is_long : Bool) (f : First) → at ≡ here → IsPlaced here (declaration_tree at (record { name = name; is_long = is_long; first = f }))
placed_by at here name true first.Extern e = (e, ((omega arith, tt), tt))
placed_by at here name false first.Extern e = (e, ((omega arith, tt), tt))
placed_by at here name true first.Zero e = (e, ((omega arith, tt), tt))
placed_by at here name false first.Zero e = (e, ((omega arith, tt), tt))
placed_by at here name true (first.Number value) e = (e, ((omega arith, tt), ((omega arith, tt), tt)))
placed_by at here name false (first.Number value) e = (e, ((omega arith, tt), ((omega arith, tt), tt)))

size_by : (name : List ℕ) (is_long : Bool) (f : First) → length (declaration_tokens (record { name = name; is_long = is_long; first = f })) ≡ declaration_size f
size_by name is_long first.Extern = refl
size_by name is_long first.Zero = refl
size_by name is_long (first.Number value) = refl

size_of_declaration : (at : ℕ) (d : Declaration) → length (tokens (declaration_tree at d)) ≡ declaration_size d.first
size_of_declaration at d = ap length (tokens_of_declaration at d) ∙ size_by d.name d.is_long d.first

declarations_placed : (at here : ℕ) (ds : List Declaration) (others : SyntaxRow) → at ≡ here → ((there : ℕ) → at + declarations_size ds ≡ there → AreItemsPlaced there others) → AreItemsPlaced here (declaration_trees at ds others)
declarations_placed at here [] others e o = o here (omega arith)
declarations_placed at here (d ∷ ds) others e o =
    let size = size_of_declaration at d in (
      placed_by at here d.name d.is_long d.first e,
      declarations_placed (at + declaration_size d.first) (here + length (tokens (declaration_tree at d))) ds others (omega arith)
          (λ there h. o there (omega arith)),
    )

main_placed : (at here : ℕ) (ss : List Statement) → at ≡ here → IsPlaced here (main_tree at ss)
main_placed at here ss e =
    (e, ((omega arith, ((omega arith, tt), tt)), ((omega arith, statements_placed 0 (at + 6) _ ss (omega arith)), tt)))

size_of_statements : (ss : List Statement) → length (statements_tokens ss) ≡ statements_size ss
size_of_statements [] = refl
size_of_statements (s ∷ ss) =
    length-append (statement_tokens s) (statements_tokens ss)
    ∙ ap (λ n. n + length (statements_tokens ss)) (sym (ap length (tokens_of_statement 0 s)) ∙ size_of_statement 0 s)
    ∙ ap (λ n. statement_size s + n) (size_of_statements ss)

size_of_main : (at : ℕ) (ss : List Statement) → length (tokens (main_tree at ss)) ≡ main_size ss
size_of_main at ss =
    let whole = ap length (tokens_of_main at ss) in
    let brace = length-append (statements_tokens ss) (mark 125 ∷ []) in
    let size = size_of_statements ss in
    omega arith

behind_placed : (at here : ℕ) (main : Option (List Statement)) (after : List Declaration) → at ≡ here → AreItemsPlaced here (main_trees at main after)
behind_placed at here None after e = declarations_placed at here after none e (λ there h. tt)
behind_placed at here (Some ss) after e =
    let size = size_of_main at ss in
    (main_placed at here ss e, declarations_placed (at + main_size ss) (here + length (tokens (main_tree at ss))) after none (omega arith) (λ there h. tt))

pub file_placed : (file : File) → AreItemsPlaced 0 (items_of file)
file_placed file =
    declarations_placed 0 0 file.before (main_trees (declarations_size file.before) file.main file.after) refl
    (λ there h. behind_placed (declarations_size file.before) there file.main file.after (omega arith))

pub file_is : (ts : List Token) (file : File) → IsWritten ts file → IsFile (items_of file) × (file_tokens (items_of file) ≡ ts)
file_is ts file w = (record { form = file_form file w.fits; placed = file_placed file }, tokens_of_file file w.fits ∙ sym w.is)
