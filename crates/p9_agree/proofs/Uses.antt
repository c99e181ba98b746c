-- The names that a module of the form uses are those in the statements of its `main`.
use Rattle.std.proofs.Common.{◌≡◌, ℕ, ◌+◌, Bool, true, false, ◌||◌, List, [], ◌∷◌, ◌++◌, flat_map, Some, None, Option, refl, sym, ap, ◌∙◌, append-nil, codes}
use Rattle.p9_first.specs.declared.tree.Kind.TheVariants as kind
use Rattle.p9_first.specs.Types.{TypeTree, Void, Int, Long, Function, Outer}
use Rattle.p9_first.specs.Types as types
use Rattle.p9_first.specs.Trees.{none, SyntaxRow, nodes_of}
use Rattle.p9_first.specs.Form.{is_among, is_variable_name, IsFile}
use Rattle.p9_first.specs.Typing.{Judged, Has, Scope, outer, named, texts_in, system_scope, scope_after}
use Rattle.p9_first.specs.Modules.{judged_meaning, use_at, uses_in, uses_in_row}
use Rattle.p9_first.proofs.Labels.{typed_expression, typed_statement, typed_statements, typed_item, typed_items, source_items}
use Rattle.p9_form.specs.declared.file.Operand.{Operand}
use Rattle.p9_form.specs.declared.file.Operand.TheVariants.{Variable, Number}
use Rattle.p9_form.specs.declared.file.Statement.{Statement}
use Rattle.p9_form.specs.declared.file.Statement.TheVariants.{Assign, Write, Exits}
use Rattle.p9_form.specs.declared.file.First.{First}
use Rattle.p9_form.specs.declared.file.First.TheVariants as first
use Rattle.p9_form.specs.declared.file.Declaration.{Declaration}
use Rattle.p9_form.specs.declared.file.File.{File}
use Rattle.p9_form.specs.Items.{operand_tree, sum_tree, statement_tree, statement_trees, statement_size, declaration_tree, declaration_trees, declaration_size, declarations_size, main_tree, main_trees, main_size, items_of, source_of}
use Rattle.p9_form.specs.Sharing.{named_by, named_if, names_in, statements}
use Rattle.p9_straight.proofs.SourceRun.{FineOperand, FineIf, Fine, AreFine}
use Rattle.p9_straight.proofs.SourceForm.{AreNew, names_behind, Among, MainIsFine, FileForm}
use Rattle.p9_share.proofs.Names.{among_append}
use Rattle.p9_straight.proofs.SourceSymbols.{differs}
use Rattle.p9_straight.proofs.SourceTyped.{GoodScope, AreVariableNames, system_good, declared_good, main_good}

-- Expressions

-- what a name stands for, from what is known of it
use_of : (x : List ℕ) (j : Judged) (type : TypeTree) → j ≡ Has type (Outer x) → use_at (kind.Name x) (judged_meaning j) ≡ x ∷ []
use_of x j type h = ap (λ i. use_at (kind.Name x) (judged_meaning i)) h

operand_uses : (names : List (List ℕ)) (scope : Scope) (k n a : ℕ) (o : Operand) → GoodScope names scope → FineOperand (Among names) o
    → uses_in (typed_expression scope k n (operand_tree a o)) ≡ named_by o
operand_uses names scope k n a (Variable x) g f = let r = g.variable x f in use_of x (named scope x) r.0 r.2
operand_uses names scope k n a (Number value) g f = refl

sum_uses : (names : List (List ℕ)) (scope : Scope) (k n a : ℕ) (left : Operand) (right : Option Operand) → GoodScope names scope → FineOperand (Among names) left → FineIf (Among names) right
    → uses_in (typed_expression scope k n (sum_tree a left right)) ≡ named_by left ++ named_if right
sum_uses names scope k n a left None g f h = operand_uses names scope k n a left g f ∙ sym (append-nil (named_by left))
sum_uses names scope k n a left (Some right) g f h =
    append-nil (uses_in (typed_expression scope k n (operand_tree a left)) ++ (uses_in (typed_expression scope (k + texts_in (operand_tree a left)) (n + nodes_of (operand_tree a left)) (operand_tree (a + 2) right)) ++ []))
    ∙ ap (λ l. uses_in (typed_expression scope k n (operand_tree a left)) ++ l) (append-nil (uses_in (typed_expression scope (k + texts_in (operand_tree a left)) (n + nodes_of (operand_tree a left)) (operand_tree (a + 2) right))))
    ∙ ap (λ l. l ++ uses_in (typed_expression scope (k + texts_in (operand_tree a left)) (n + nodes_of (operand_tree a left)) (operand_tree (a + 2) right))) (operand_uses names scope k n a left g f)
    ∙ ap (λ l. named_by left ++ l) (operand_uses names scope (k + texts_in (operand_tree a left)) (n + nodes_of (operand_tree a left)) (a + 2) right g h)

-- Statements

abbrev pub uses_by : Statement → List (List ℕ)
uses_by (Assign x left right) = x ∷ (named_by left ++ named_if right)
uses_by (Write text count) = codes "write" ∷ named_by count
uses_by (Exits text) = codes "exits" ∷ []

statement_uses : (names : List (List ℕ)) (scope : Scope) (k n a : ℕ) (s : Statement) → GoodScope names scope → Fine (Among names) s
    → uses_in (typed_statement scope k n (statement_tree a s)) ≡ uses_by s
statement_uses names scope k n a (Assign x left right) g f =
    let r = g.variable x f.0 in
    ap (λ l. (((l ++ (uses_in (typed_expression scope (k + 0) (n + 1) (sum_tree (a + 2) left right)) ++ [])) ++ []) ++ []) ++ []) (use_of x (named scope x) r.0 r.2)
    ∙ ap (λ l. (((x ∷ (l ++ [])) ++ []) ++ []) ++ []) (sum_uses names scope (k + 0) (n + 1) (a + 2) left right g f.1 f.2)
    ∙ append-nil (((x ∷ ((named_by left ++ named_if right) ++ [])) ++ []) ++ [])
    ∙ append-nil ((x ∷ ((named_by left ++ named_if right) ++ [])) ++ [])
    ∙ append-nil (x ∷ ((named_by left ++ named_if right) ++ []))
    ∙ ap (λ l. x ∷ l) (append-nil (named_by left ++ named_if right))
statement_uses names scope k n a (Write text count) g f =
    let u : List (List ℕ) = uses_in (typed_expression scope (k + 0 + 0 + 1) (n + 1 + 1 + 1) (operand_tree (a + 6) count)) in
    ap (λ l. (((l ++ (u ++ [])) ++ []) ++ []) ++ []) (use_of (codes "write") (named scope (codes "write")) _ g.write)
    ∙ ap (λ l. (((codes "write" ∷ (l ++ [])) ++ []) ++ []) ++ []) (operand_uses names scope (k + 0 + 0 + 1) (n + 1 + 1 + 1) (a + 6) count g f)
    ∙ append-nil (((codes "write" ∷ (named_by count ++ [])) ++ []) ++ [])
    ∙ append-nil ((codes "write" ∷ (named_by count ++ [])) ++ [])
    ∙ append-nil (codes "write" ∷ (named_by count ++ []))
    ∙ ap (λ l. codes "write" ∷ l) (append-nil (named_by count))
statement_uses names scope k n a (Exits None) g f =
    ap (λ l. (((l ++ []) ++ []) ++ []) ++ []) (use_of (codes "exits") (named scope (codes "exits")) _ g.exits)
statement_uses names scope k n a (Exits (Some text)) g f =
    ap (λ l. (((l ++ []) ++ []) ++ []) ++ []) (use_of (codes "exits") (named scope (codes "exits")) _ g.exits)

statements_uses : (names : List (List ℕ)) (scope : Scope) (k n a : ℕ) (ss : List Statement) → GoodScope names scope → AreFine (Among names) ss
    → uses_in_row (typed_statements scope k n (statement_trees a ss)) ≡ flat_map uses_by ss
statements_uses names scope k n a [] g f = refl
statements_uses names scope k n a (s ∷ ss) g f =
    ap (λ l. l ++ uses_in_row (typed_statements scope (k + texts_in (statement_tree a s)) (n + nodes_of (statement_tree a s)) (statement_trees (a + statement_size s) ss))) (statement_uses names scope k n a s g f.0)
    ∙ ap (λ l. uses_by s ++ l) (statements_uses names scope (k + texts_in (statement_tree a s)) (n + nodes_of (statement_tree a s)) (a + statement_size s) ss g f.1)

-- Declarations

abbrev void_main : TypeTree
void_main = Function Void types.none

abbrev plain : List ℕ → Bool → First → Declaration
plain x l f = record { name = x; is_long = l; first = f }

none_used : (scope : Scope) (k n a : ℕ) (x : List ℕ) (l : Bool) (f : First) → uses_in (typed_item scope k n (declaration_tree a (plain x l f))) ≡ []
none_used scope k n a x l first.Extern = refl
none_used scope k n a x l first.Zero = refl
none_used scope k n a x l (first.Number value) = refl

good_one : (names : List (List ℕ)) (scope : Scope) (a : ℕ) (x : List ℕ) (l : Bool) (f : First) → is_variable_name x ≡ true → GoodScope names scope
    → GoodScope (x ∷ names) (scope_after (declaration_tree a (plain x l f)) scope)
good_one names scope a x true first.Extern v g = declared_good names scope x Long v tt g
good_one names scope a x false first.Extern v g = declared_good names scope x Int v tt g
good_one names scope a x true first.Zero v g = declared_good names scope x Long v tt g
good_one names scope a x false first.Zero v g = declared_good names scope x Int v tt g
good_one names scope a x true (first.Number value) v g = declared_good names scope x Long v tt g
good_one names scope a x false (first.Number value) v g = declared_good names scope x Int v tt g

-- what is behind declarations, in any scope that they leave
abbrev Behind : (names : List (List ℕ)) (P : Scope → ℕ → ℕ → Type 0) → Type 0
Behind names P = (scope : Scope) (i n : ℕ) → GoodScope names scope → AreVariableNames names → P scope i n

uses_all : (names : List (List ℕ)) (scope : Scope) (k n a : ℕ) (ds : List Declaration) (others : SyntaxRow) (us : List (List ℕ))
    → GoodScope names scope → AreVariableNames names → AreNew names ds
    → Behind (names_behind names ds) (λ scope i n. uses_in_row (typed_items scope i n others) ≡ us)
    → uses_in_row (typed_items scope k n (declaration_trees a ds others)) ≡ us
uses_all names scope k n a [] others us g v w h = h scope k n g v
uses_all names scope k n a (d ∷ ds) others us g v w h =
    let t : SyntaxRow = declaration_trees (a + declaration_size d.first) ds others in
    ap (λ l. l ++ uses_in_row (typed_items (scope_after (declaration_tree a d) scope) (k + texts_in (declaration_tree a d)) (n + nodes_of (declaration_tree a d)) t))
    (none_used scope k n a d.name d.is_long d.first)
    ∙ uses_all (d.name ∷ names) (scope_after (declaration_tree a d) scope) (k + texts_in (declaration_tree a d)) (n + nodes_of (declaration_tree a d)) (a + declaration_size d.first) ds others us
    (good_one names scope a d.name d.is_long d.first w.0 g) (w.0, v) w.3 h

-- A whole file

uses_at_main : (names : List (List ℕ)) (scope : Scope) (k n a : ℕ) (main : Option (List Statement)) (after : List Declaration)
    → GoodScope names scope → AreVariableNames names → AreNew names after → MainIsFine names main
    → uses_in_row (typed_items scope k n (main_trees a main after)) ≡ flat_map uses_by (statements main)
uses_at_main names scope k n a None after g v w f = uses_all names scope k n a after none [] g v w (λ scope' i m h u. refl)
uses_at_main names scope k n a (Some ss) after g v w f =
    ap (λ l. (((l ++ []) ++ []) ++ []) ++ uses_in_row (typed_items (outer (codes "main") void_main ∷ scope) (k + texts_in (main_tree a ss)) (n + nodes_of (main_tree a ss)) (declaration_trees (a + main_size ss) after none)))
    (statements_uses names (outer (codes "main") void_main ∷ scope) k (n + 2) (a + 6) ss (main_good names scope void_main v g) f)
    ∙ ap (λ l. (((flat_map uses_by ss ++ []) ++ []) ++ []) ++ l)
    (uses_all names (outer (codes "main") void_main ∷ scope) (k + texts_in (main_tree a ss)) (n + nodes_of (main_tree a ss)) (a + main_size ss) after none [] (main_good names scope void_main v g) v w (λ scope' i m h u. refl))
    ∙ append-nil (((flat_map uses_by ss ++ []) ++ []) ++ [])
    ∙ append-nil ((flat_map uses_by ss ++ []) ++ [])
    ∙ append-nil (flat_map uses_by ss ++ [])
    ∙ append-nil (flat_map uses_by ss)

pub file_uses : (file : File) → IsFile (items_of file) → FileForm file → uses_in_row (source_of file).items ≡ flat_map uses_by (statements file.main)
file_uses file h f =
    ap uses_in_row (source_items (items_of file) h)
    ∙ uses_all [] system_scope 0 0 0 file.before (main_trees (declarations_size file.before) file.main file.after) (flat_map uses_by (statements file.main)) system_good tt f.before
    (λ scope i n g v. uses_at_main (names_behind [] file.before) scope i n (declarations_size file.before) file.main file.after g v f.after f.main)

-- Of variables the same names are used as named

unnamed : (x y : List ℕ) (names : List (List ℕ)) → is_variable_name x ≡ true → is_variable_name y ≡ false → is_among (y ∷ names) x ≡ is_among names x
unnamed x y names v h = ap (λ b. b || is_among names x) (differs x y v h)

one_same : (x : List ℕ) (s : Statement) → is_variable_name x ≡ true → is_among (uses_by s) x ≡ is_among (names_in s) x
one_same x (Assign y left right) v = refl
one_same x (Write text count) v = unnamed x (codes "write") (named_by count) v refl
one_same x (Exits text) v = unnamed x (codes "exits") [] v refl

pub used_same : (x : List ℕ) (ss : List Statement) → is_variable_name x ≡ true → is_among (flat_map uses_by ss) x ≡ is_among (flat_map names_in ss) x
used_same x [] v = refl
used_same x (s ∷ ss) v =
    among_append (uses_by s) (flat_map uses_by ss) x
    ∙ ap (λ b. b || is_among (flat_map uses_by ss) x) (one_same x s v)
    ∙ ap (λ b. is_among (names_in s) x || b) (used_same x ss v)
    ∙ sym (among_append (names_in s) (flat_map names_in ss) x)
