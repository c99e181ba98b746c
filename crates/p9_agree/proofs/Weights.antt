-- How many nodes and calls `main` of a small file has, and so the room that it needs.
use Rattle.std.proofs.Common.{◌≡◌, ◌≤◌, ℕ, suc, ◌+◌, ◌*◌, Bool, true, false, if◌then◌else◌, List, [], ◌∷◌, ◌++◌, length, map, Some, None, Option, refl, sym, subst, arith}
use Rattle.p9_first.specs.Trees.{none, SyntaxRow, nodes_of, nodes_of_row}
use Rattle.p9_first.specs.Form.{same_name, is_among, IsFile}
use Rattle.p9_first.specs.Typing.{Scope, texts_in, system_scope, scope_after}
use Rattle.p9_first.specs.Modules.{Typed, Source, Declaration as Declared, Way, Only, Tentative, Initial, Body, declarations as declared_by, declarations_in, declarations_of, TextObject, uses_in_row, texts_of_row, SymbolKind, DeclaredOnly, Used, Code, Data, TextData, Common, Symbol, kind_of, symbol_of, symbol_names, text_symbol, symbols}
use Rattle.p9_first.proofs.Labels.{typed_expression, typed_statement, typed_statements, typed_item, typed_items, source_items}
use Rattle.p9_form.specs.declared.file.Operand.{Operand}
use Rattle.p9_form.specs.declared.file.Operand.TheVariants.{Variable, Number}
use Rattle.p9_form.specs.declared.file.Statement.{Statement}
use Rattle.p9_form.specs.declared.file.Statement.TheVariants.{Assign, Write, Exits}
use Rattle.p9_form.specs.declared.file.First.{First}
use Rattle.p9_form.specs.declared.file.First.TheVariants as first
use Rattle.p9_form.specs.declared.file.Declaration.{Declaration}
use Rattle.p9_form.specs.declared.file.File.{File}
use Rattle.p9_form.specs.Items.{operand_tree, sum_tree, statement_tree, statement_trees, statement_size, declaration_tree, declaration_trees, declaration_size, declarations_size, main_tree, main_trees, main_size, items_of, source_of}
use Rattle.p9_form.specs.Sharing.{statements, IsSmall}
use Rattle.p9_first.specs.Union.{Entry, Defined, entries_from, first_code, calls_in_row, weighed_nodes, need_of}
use Rattle.p9_straight.proofs.SourceLists.{Each, each_append, bool_cases}

-- Statements

operand_nodes : (scope : Scope) (k n a : ℕ) (o : Operand) → weighed_nodes (typed_expression scope k n (operand_tree a o)) ≡ 1
operand_nodes scope k n a (Variable x) = refl
operand_nodes scope k n a (Number value) = refl

sum_nodes : (scope : Scope) (k n a : ℕ) (left : Operand) (right : Option Operand) → weighed_nodes (typed_expression scope k n (sum_tree a left right)) ≤ 3
sum_nodes scope k n a left None = let l = operand_nodes scope k n a left in omega (arith, l)
sum_nodes scope k n a left (Some right) =
    let l = operand_nodes scope k n a left in
    let r = operand_nodes scope (k + texts_in (operand_tree a left)) (n + nodes_of (operand_tree a left)) (a + 2) right in
    omega (arith, l, r)

statement_nodes : (scope : Scope) (k n a : ℕ) (s : Statement) → weighed_nodes (typed_statement scope k n (statement_tree a s)) ≤ 7
statement_nodes scope k n a (Assign x left right) = let l = sum_nodes scope (k + 0) (n + 1) (a + 2) left right in omega (arith, l)
statement_nodes scope k n a (Write text count) = let l = operand_nodes scope (k + 0 + 0 + 1) (n + 1 + 1 + 1) (a + 6) count in omega (arith, l)
statement_nodes scope k n a (Exits None) = omega arith
statement_nodes scope k n a (Exits (Some text)) = omega arith

statements_nodes : (scope : Scope) (k n a : ℕ) (ss : List Statement)
    → nodes_of_row (typed_statements scope k n (statement_trees a ss)) + calls_in_row (typed_statements scope k n (statement_trees a ss)) ≤ 7 * length ss
statements_nodes scope k n a [] = omega arith
statements_nodes scope k n a (s ∷ ss) =
    let l = statement_nodes scope k n a s in
    let r = statements_nodes scope (k + texts_in (statement_tree a s)) (n + nodes_of (statement_tree a s)) (a + statement_size s) ss in
    omega (arith, l, r)

-- Items

-- the weight of `main` of a small file is at most this
abbrev IsLight : Typed → Type 0
IsLight item = weighed_nodes item ≤ 458756

abbrev IsLightWay : Way → Type 0
IsLightWay (Body item) = IsLight item
IsLightWay _ = Unit {0}

abbrev IsLightDeclared : Declared → Type 0
IsLightDeclared d = IsLightWay d.way

abbrev AreLight : List Declared → Type 0
AreLight ds = Each IsLightDeclared ds

light_one : (scope : Scope) (k n a : ℕ) (x : List ℕ) (l : Bool) (f : First) (rest : List Declared) → AreLight rest
    → AreLight (declarations_in (typed_item scope k n (declaration_tree a (record { name = x; is_long = l; first = f }))) ++ rest)
light_one scope k n a x true first.Extern rest h = (tt, h)
light_one scope k n a x false first.Extern rest h = (tt, h)
light_one scope k n a x true first.Zero rest h = (tt, h)
light_one scope k n a x false first.Zero rest h = (tt, h)
light_one scope k n a x true (first.Number value) rest h = (tt, h)
light_one scope k n a x false (first.Number value) rest h = (tt, h)

light_all : (scope : Scope) (k n a : ℕ) (ds : List Declaration) (others : SyntaxRow)
    → ((scope : Scope) (k n : ℕ) → AreLight (declared_by (typed_items scope k n others)))
    → AreLight (declared_by (typed_items scope k n (declaration_trees a ds others)))
light_all scope k n a [] others h = h scope k n
light_all scope k n a (d ∷ ds) others h =
    light_one scope k n a d.name d.is_long d.first
    (declared_by (typed_items (scope_after (declaration_tree a d) scope) (k + texts_in (declaration_tree a d)) (n + nodes_of (declaration_tree a d)) (declaration_trees (a + declaration_size d.first) ds others)))
    (light_all (scope_after (declaration_tree a d) scope) (k + texts_in (declaration_tree a d)) (n + nodes_of (declaration_tree a d)) (a + declaration_size d.first) ds others h)

light_after : (scope : Scope) (k n a : ℕ) (ds : List Declaration) → AreLight (declared_by (typed_items scope k n (declaration_trees a ds none)))
light_after scope k n a ds = light_all scope k n a ds none (λ scope k n. tt)

main_light : (scope : Scope) (k n a : ℕ) (ss : List Statement) → length ss ≤ 65536 → IsLight (typed_item scope k n (main_tree a ss))
main_light scope k n a ss h =
    let r = statements_nodes (scope_after (main_tree a ss) scope) k (n + 2) (a + 6) ss in
    omega (arith, h, r)

light_main : (scope : Scope) (k n a : ℕ) (main : Option (List Statement)) (after : List Declaration) → length (statements main) ≤ 65536
    → AreLight (declared_by (typed_items scope k n (main_trees a main after)))
light_main scope k n a None after h = light_after scope k n a after
light_main scope k n a (Some ss) after h = (
  main_light scope k n a ss h,
  light_after (scope_after (main_tree a ss) scope) (k + texts_in (main_tree a ss)) (n + nodes_of (main_tree a ss)) (a + main_size ss) after,
)

file_light : (file : File) → IsFile (items_of file) → IsSmall file → AreLight (declared_by (source_of file).items)
file_light file h small =
    subst (λ items. AreLight (declared_by items)) (sym (source_items (items_of file) h))
    (light_all system_scope 0 0 0 file.before (main_trees (declarations_size file.before) file.main file.after)
    (λ scope k n. light_main scope k n (declarations_size file.before) file.main file.after small.count))

-- Symbols

abbrev IsLightKind : SymbolKind → Type 0
IsLightKind (Code item) = IsLight item
IsLightKind _ = Unit {0}

tentative_light : (d : Declared) (ds : List Declared) (used : Bool) (k : SymbolKind) → kind_of ds used ≡ k → IsLightKind k → IsLightKind (kind_of (record d { way = Tentative } ∷ ds) used)
tentative_light d ds used (Code item) e h = rw e h
tentative_light d ds used (Data value) e h = rw e tt
tentative_light d ds used (TextData number bytes) e h = rw e tt
tentative_light d ds used DeclaredOnly e h = rw e tt
tentative_light d ds used Used e h = rw e tt
tentative_light d ds used Common e h = rw e tt

way_light : (d : Declared) (ds : List Declared) (used : Bool) (w : Way) → IsLightWay w → IsLightKind (kind_of ds used) → IsLightKind (kind_of (record d { way = w } ∷ ds) used)
way_light d ds used Only h g = g
way_light d ds used Tentative h g = tentative_light d ds used (kind_of ds used) refl g
way_light d ds used (Initial value) h g = tt
way_light d ds used (Body item) h g = h

kind_light : (ds : List Declared) (used : Bool) → AreLight ds → IsLightKind (kind_of ds used)
kind_light [] true h = tt
kind_light [] false h = tt
kind_light (d ∷ ds) used h = way_light d ds used d.way h.0 (kind_light ds used h.1)

abbrev IsLightSymbol : Symbol → Type 0
IsLightSymbol s = IsLightKind s.kind

with_name : (x : List ℕ) (ds : List Declared) → AreLight ds → AreLight (declarations_of x ds)
with_name x [] h = tt
with_name x (d ∷ ds) h =
    bool_cases (same_name x d.name)
    (λ e. subst (λ b. AreLight (if b then d ∷ declarations_of x ds else declarations_of x ds)) (sym e) (h.0, with_name x ds h.1))
    (λ e. subst (λ b. AreLight (if b then d ∷ declarations_of x ds else declarations_of x ds)) (sym e) (with_name x ds h.1))

names_light : (source : Source) (names : List (List ℕ)) → AreLight (declared_by source.items) → Each IsLightSymbol (map (symbol_of source) names)
names_light source [] h = tt
names_light source (x ∷ names) h =
    (kind_light (declarations_of x (declared_by source.items)) (is_among (uses_in_row source.items) x) (with_name x (declared_by source.items) h), names_light source names h)

texts_light : (texts : List TextObject) → Each IsLightSymbol (map text_symbol texts)
texts_light [] = tt
texts_light (t ∷ ts) = (tt, texts_light ts)

symbols_light : (source : Source) → AreLight (declared_by source.items) → Each IsLightSymbol (symbols source)
symbols_light source h =
    each_append IsLightSymbol (map (symbol_of source) (symbol_names source)) (map text_symbol (texts_of_row source.items))
    (names_light source (symbol_names source) h) (texts_light (texts_of_row source.items))

-- The code that is found

abbrev IsLightCode : Option Defined → Type 0
IsLightCode None = Unit {0}
IsLightCode (Some code) = IsLight code.item

either_light : (b : Bool) (x y : Option Defined) → IsLightCode x → IsLightCode y → IsLightCode (if b then x else y)
either_light true x y h g = h
either_light false x y h g = g

abbrev an_entry : ℕ → Symbol → SymbolKind → Entry
an_entry i s k = record { owner = i; symbol = record s { kind = k } }

code_light : (p : Entry → Bool) (i : ℕ) (s : Symbol) (k : SymbolKind) (es : List Entry) → IsLightKind k → IsLightCode (first_code p es) → IsLightCode (first_code p (an_entry i s k ∷ es))
code_light p i s DeclaredOnly es h g = either_light (p (an_entry i s DeclaredOnly)) (first_code p es) (first_code p es) g g
code_light p i s Used es h g = either_light (p (an_entry i s Used)) (first_code p es) (first_code p es) g g
code_light p i s (Code item) es h g = either_light (p (an_entry i s (Code item))) (Some (record { owner = i; item = item })) (first_code p es) h g
code_light p i s (Data value) es h g = either_light (p (an_entry i s (Data value))) (first_code p es) (first_code p es) g g
code_light p i s (TextData number bytes) es h g = either_light (p (an_entry i s (TextData number bytes))) (first_code p es) (first_code p es) g g
code_light p i s Common es h g = either_light (p (an_entry i s Common)) (first_code p es) (first_code p es) g g

symbols_found : (p : Entry → Bool) (i : ℕ) (ss : List Symbol) (es : List Entry) → Each IsLightSymbol ss → IsLightCode (first_code p es)
    → IsLightCode (first_code p (map (λ s. record { owner = i; symbol = s }) ss ++ es))
symbols_found p i [] es h g = g
symbols_found p i (s ∷ ss) es h g =
    code_light p i s s.kind (map (λ s. record { owner = i; symbol = s }) ss ++ es) h.0 (symbols_found p i ss es h.1 g)

files_light : (p : Entry → Bool) (i : ℕ) (files : List File) → Each (λ f. IsFile (items_of f)) files → Each IsSmall files
    → IsLightCode (first_code p (entries_from i (map source_of files)))
files_light p i [] h small = tt
files_light p i (f ∷ fs) h small =
    symbols_found p i (symbols (source_of f)) (entries_from (suc i) (map source_of fs))
    (symbols_light (source_of f) (file_light f h.0 small.0))
    (files_light p (suc i) fs h.1 small.1)

code_need : (code : Option Defined) → IsLightCode code → need_of code ≤ 3670112
code_need None h = omega arith
code_need (Some code) h = omega (arith, h)

-- each function of small files needs at most this
pub functions_need : (p : Entry → Bool) (files : List File) → Each (λ f. IsFile (items_of f)) files → Each IsSmall files
    → need_of (first_code p (entries_from 0 (map source_of files))) ≤ 3670112
functions_need p files h small = code_need (first_code p (entries_from 0 (map source_of files))) (files_light p 0 files h small)
