-- What the items of a file's module declare, and the texts in them.
use Rattle.std.proofs.Common.{◌≡◌, ℕ, ◌+◌, Bool, true, false, ◌||◌, if◌then◌else◌, List, [], ◌∷◌, ◌++◌, map, Some, None, Option, refl, sym, ap, ◌∙◌, subst, arith, append-nil}
use Rattle.std.specs.Prelude.{codes, flat_map}
use Rattle.p9_first.specs.declared.tree.Spec.{Spec}
use Rattle.p9_first.specs.declared.tree.Kind.TheVariants as kind
use Rattle.p9_first.specs.Types.{TypeTree, Void, Int, Long, Function, Outer}
use Rattle.p9_first.specs.Types as types
use Rattle.p9_first.specs.Trees.{node, none, more, SyntaxRow, nodes_of}
use Rattle.p9_first.specs.Form.{same_name, is_among, is_variable_name, IsFile}
use Rattle.p9_first.specs.Typing.{Has, Scope, outer, named, texts_in, exits_type, transfer_type, system_scope, scope_after}
use Rattle.p9_first.specs.Modules.{Label, Typed, TypedRow, Source, Declaration as Declared, Way, Only, Tentative, Initial, Body, declarations as declared_by, declarations_in, TextObject, texts_of, texts_of_row}
use Rattle.p9_first.proofs.Labels.{typed_expression, typed_statement, typed_statements, typed_item, typed_items, source_items}
use Rattle.p9_form.specs.declared.file.Operand.{Operand}
use Rattle.p9_form.specs.declared.file.Operand.TheVariants.{Variable, Number}
use Rattle.p9_form.specs.declared.file.Statement.{Statement}
use Rattle.p9_form.specs.declared.file.Statement.TheVariants.{Assign, Write, Exits}
use Rattle.p9_form.specs.declared.file.First.{First}
use Rattle.p9_form.specs.declared.file.First.TheVariants as first
use Rattle.p9_form.specs.declared.file.Declaration.{Declaration}
use Rattle.p9_form.specs.declared.file.File.{File}
use Rattle.p9_form.specs.Items.{operand_tree, sum_tree, statement_tree, statement_trees, statement_size, declaration_tree, declaration_trees, declaration_size, declarations_size, main_tree, main_trees, main_size, items_of, source_of}
use Rattle.p9_first.proofs.Variables.{IsVariableType}
use Rattle.p9_straight.proofs.SourceLists.{Each, bool_cases, or_cases, same_is, true_not}
use Rattle.p9_straight.proofs.SourceRun.{AreFine, text_count, statement_texts}
use Rattle.p9_straight.proofs.SourceForm.{AreNew, names_behind, Among, MainIsFine, FileForm}

-- Scopes

pub record GoodScope (names : List (List ℕ)) (scope : Scope) : Type 0 where
  pub variable : (x : List ℕ) → is_among names x ≡ true → (type : TypeTree) × IsVariableType type × (named scope x ≡ Has type (Outer x))
  pub write : named scope (codes "write") ≡ Has transfer_type (Outer (codes "write"))
  pub exits : named scope (codes "exits") ≡ Has exits_type (Outer (codes "exits"))

abbrev pub AreVariableNames : List (List ℕ) → Type 0
AreVariableNames names = Each (λ x. is_variable_name x ≡ true) names

-- a name that isn't a variable's differs from a variable's
pub other_name : (x y : List ℕ) → is_variable_name x ≡ false → is_variable_name y ≡ true → same_name x y ≡ false
other_name x y h g =
    bool_cases (same_name x y)
    (λ e. true_not (is_variable_name y) g (subst (λ z. is_variable_name z ≡ false) (same_is x y e) h))
    (λ e. e)

pub each_among : (P : List ℕ → Type 0) (names : List (List ℕ)) (x : List ℕ) → is_among names x ≡ true → Each P names → P x
each_among P [] x h g = absurd (let e : false ≡ true = h in cc)
each_among P (y ∷ names) x h g =
    or_cases (same_name x y) (is_among names x) h
    (λ e. subst P (sym (same_is x y e)) g.0)
    (λ e. each_among P names x e g.1)

no_write : is_variable_name (codes "write") ≡ false
no_write = refl

no_exits : is_variable_name (codes "exits") ≡ false
no_exits = refl

pub no_main : is_variable_name (codes "main") ≡ false
no_main = refl

pub system_good : GoodScope [] system_scope
system_good = record { variable = λ x h. absurd (let e : false ≡ true = h in cc); write = refl; exits = refl }

pub declared_good : (names : List (List ℕ)) (scope : Scope) (x : List ℕ) (type : TypeTree) → is_variable_name x ≡ true → IsVariableType type → GoodScope names scope → GoodScope (x ∷ names) (outer x type ∷ scope)
declared_good names scope x type v t g = record {
  variable = λ y h.
      bool_cases (same_name y x)
      (λ e. (type, t, ap (λ b. if b then Has type (Outer x) else named scope y) e ∙ ap (λ z. Has type (Outer z)) (sym (same_is y x e))))
      (λ e.
      let r = g.variable y (ap (λ b. b || is_among names y) (sym e) ∙ h) in
      (r.0, r.1, ap (λ b. if b then Has type (Outer x) else named scope y) e ∙ r.2));
  write = ap (λ b. if b then Has type (Outer x) else named scope (codes "write")) (other_name (codes "write") x no_write v) ∙ g.write;
  exits = ap (λ b. if b then Has type (Outer x) else named scope (codes "exits")) (other_name (codes "exits") x no_exits v) ∙ g.exits;
}

not_main : (y : List ℕ) → is_variable_name y ≡ true → same_name y (codes "main") ≡ false
not_main y v =
    bool_cases (same_name y (codes "main"))
    (λ e. true_not (is_variable_name y) v (subst (λ z. is_variable_name z ≡ false) (sym (same_is y (codes "main") e)) no_main))
    (λ e. e)

pub main_good : (names : List (List ℕ)) (scope : Scope) (type : TypeTree) → AreVariableNames names → GoodScope names scope → GoodScope names (outer (codes "main") type ∷ scope)
main_good names scope type v g = record {
  variable = λ y h.
      let r = g.variable y h in
      (r.0, r.1, ap (λ b. if b then Has type (Outer (codes "main")) else named scope y) (not_main y (each_among (λ z. is_variable_name z ≡ true) names y h v)) ∙ r.2);
  write = g.write;
  exits = g.exits;
}

-- The things that a file declares

pub data Thing : Type 0 where
  AVariable : (d : Declaration) → Thing
  AMain : (ss : List Statement) → Thing

abbrev pub main_thing : Option (List Statement) → List Thing → List Thing
main_thing None after = after
main_thing (Some ss) after = AMain ss ∷ after

abbrev pub things : File → List Thing
things file = map AVariable file.before ++ main_thing file.main (map AVariable file.after)

-- the item of `main`
pub record MainItem (ss : List Statement) (item : Typed) : Type 0 where
  pub names : List (List ℕ)
  pub scope : Scope
  pub spec : Spec
  pub label : Label
  pub declarator : Typed
  pub block : Label
  pub first : ℕ
  pub place : ℕ
  pub shape : item ≡ node (kind.Function spec) label (more declarator (more (node kind.Block block (typed_statements scope 0 first (statement_trees place ss))) none))
  pub good : GoodScope names scope
  pub fine : AreFine (Among names) ss
  pub variables : AreVariableNames names

abbrev pub IsWay : First → Way → Type 0
IsWay first.Extern way = way ≡ Only
IsWay first.Zero way = way ≡ Tentative
IsWay (first.Number value) way = (label : Label) × (way ≡ Initial (node (kind.Number value false false) label none))

abbrev pub Stands : Thing → Declared → Type 0
Stands (AVariable d) declared = (declared.name ≡ d.name) × IsVariableType declared.type × IsWay d.first declared.way
Stands (AMain ss) declared = (declared.name ≡ codes "main") × ((item : Typed) × (declared.way ≡ Body item) × MainItem ss item)

abbrev pub Stand : List Thing → List Declared → Type 0
Stand [] [] = Unit {0}
Stand [] (d ∷ ds) = ⊥
Stand (t ∷ ts) [] = ⊥
Stand (t ∷ ts) (d ∷ ds) = Stands t d × Stand ts ds

-- one declaration

number_type : Bool → TypeTree
number_type true = Long
number_type false = Int

abbrev plain : List ℕ → Bool → First → Declaration
plain x l f = record { name = x; is_long = l; first = f }

stand_one : (scope : Scope) (k n a : ℕ) (x : List ℕ) (l : Bool) (f : First) (ts : List Thing) (rest : List Declared) → Stand ts rest
    → Stand (AVariable (plain x l f) ∷ ts) (declarations_in (typed_item scope k n (declaration_tree a (plain x l f))) ++ rest)
stand_one scope k n a x true first.Extern ts rest h = ((refl, tt, refl), h)
stand_one scope k n a x false first.Extern ts rest h = ((refl, tt, refl), h)
stand_one scope k n a x true first.Zero ts rest h = ((refl, tt, refl), h)
stand_one scope k n a x false first.Zero ts rest h = ((refl, tt, refl), h)
stand_one scope k n a x true (first.Number value) ts rest h = ((refl, tt, (_, refl)), h)
stand_one scope k n a x false (first.Number value) ts rest h = ((refl, tt, (_, refl)), h)

good_one : (names : List (List ℕ)) (scope : Scope) (a : ℕ) (x : List ℕ) (l : Bool) (f : First) → is_variable_name x ≡ true → GoodScope names scope
    → GoodScope (x ∷ names) (scope_after (declaration_tree a (plain x l f)) scope)
good_one names scope a x true first.Extern v g = declared_good names scope x Long v tt g
good_one names scope a x false first.Extern v g = declared_good names scope x Int v tt g
good_one names scope a x true first.Zero v g = declared_good names scope x Long v tt g
good_one names scope a x false first.Zero v g = declared_good names scope x Int v tt g
good_one names scope a x true (first.Number value) v g = declared_good names scope x Long v tt g
good_one names scope a x false (first.Number value) v g = declared_good names scope x Int v tt g

no_texts : (a : ℕ) (x : List ℕ) (l : Bool) (f : First) → texts_in (declaration_tree a (plain x l f)) ≡ 0
no_texts a x l first.Extern = refl
no_texts a x l first.Zero = refl
no_texts a x l (first.Number value) = refl

none_of_one : (scope : Scope) (k n a : ℕ) (x : List ℕ) (l : Bool) (f : First) → texts_of (typed_item scope k n (declaration_tree a (plain x l f))) ≡ []
none_of_one scope k n a x l first.Extern = refl
none_of_one scope k n a x l first.Zero = refl
none_of_one scope k n a x l (first.Number value) = refl

-- Declarations

still_zero : (k m : ℕ) → m ≡ 0 → k ≡ 0 → k + m ≡ 0
still_zero k m h g = omega arith

-- what is behind declarations, in any scope that they leave
abbrev Behind : (names : List (List ℕ)) (k : ℕ) (P : Scope → ℕ → ℕ → Type 0) → Type 0
Behind names k P = (scope : Scope) (i n : ℕ) → (k ≡ 0 → i ≡ 0) → GoodScope names scope → AreVariableNames names → P scope i n

stand_all : (names : List (List ℕ)) (scope : Scope) (k n a : ℕ) (ds : List Declaration) (others : SyntaxRow) (ts : List Thing)
    → GoodScope names scope → AreVariableNames names → AreNew names ds
    → Behind (names_behind names ds) k (λ scope i n. Stand ts (declared_by (typed_items scope i n others)))
    → Stand (map AVariable ds ++ ts) (declared_by (typed_items scope k n (declaration_trees a ds others)))
stand_all names scope k n a [] others ts g v w h = h scope k n (λ e. e) g v
stand_all names scope k n a (d ∷ ds) others ts g v w h =
    let t : SyntaxRow = declaration_trees (a + declaration_size d.first) ds others in
    stand_one scope k n a d.name d.is_long d.first (map AVariable ds ++ ts)
    (declared_by (typed_items (scope_after (declaration_tree a d) scope) (k + texts_in (declaration_tree a d)) (n + nodes_of (declaration_tree a d)) t))
    (stand_all (d.name ∷ names) (scope_after (declaration_tree a d) scope) (k + texts_in (declaration_tree a d)) (n + nodes_of (declaration_tree a d)) (a + declaration_size d.first) ds others ts
    (good_one names scope a d.name d.is_long d.first w.0 g) (w.0, v) w.3
    (λ scope' i m z. h scope' i m (λ e. z (still_zero k (texts_in (declaration_tree a d)) (no_texts a d.name d.is_long d.first) e))))

texts_all : (names : List (List ℕ)) (scope : Scope) (k n a : ℕ) (ds : List Declaration) (others : SyntaxRow) (ts : List TextObject)
    → GoodScope names scope → AreVariableNames names → AreNew names ds
    → Behind (names_behind names ds) k (λ scope i n. texts_of_row (typed_items scope i n others) ≡ ts)
    → texts_of_row (typed_items scope k n (declaration_trees a ds others)) ≡ ts
texts_all names scope k n a [] others ts g v w h = h scope k n (λ e. e) g v
texts_all names scope k n a (d ∷ ds) others ts g v w h =
    let t : SyntaxRow = declaration_trees (a + declaration_size d.first) ds others in
    ap (λ l. l ++ texts_of_row (typed_items (scope_after (declaration_tree a d) scope) (k + texts_in (declaration_tree a d)) (n + nodes_of (declaration_tree a d)) t))
    (none_of_one scope k n a d.name d.is_long d.first)
    ∙ texts_all (d.name ∷ names) (scope_after (declaration_tree a d) scope) (k + texts_in (declaration_tree a d)) (n + nodes_of (declaration_tree a d)) (a + declaration_size d.first) ds others ts
    (good_one names scope a d.name d.is_long d.first w.0 g) (w.0, v) w.3
    (λ scope' i m z. h scope' i m (λ e. z (still_zero k (texts_in (declaration_tree a d)) (no_texts a d.name d.is_long d.first) e)))

-- Texts

abbrev pub texts_by : Statement → List (List ℕ)
texts_by (Assign x left right) = []
texts_by (Write text count) = text ∷ []
texts_by (Exits None) = []
texts_by (Exits (Some text)) = text ∷ []

abbrev pub text_list : List Statement → List (List ℕ)
text_list ss = flat_map texts_by ss

abbrev pub numbered : ℕ → List (List ℕ) → List TextObject
numbered k [] = []
numbered k (text ∷ texts) = record { number = k; bytes = text } ∷ numbered (k + 1) texts

operand_none : (scope : Scope) (k n a : ℕ) (o : Operand) → texts_of (typed_expression scope k n (operand_tree a o)) ≡ []
operand_none scope k n a (Variable x) = refl
operand_none scope k n a (Number value) = refl

sum_none : (scope : Scope) (k n a : ℕ) (left : Operand) (right : Option Operand) → texts_of (typed_expression scope k n (sum_tree a left right)) ≡ []
sum_none scope k n a left None = operand_none scope k n a left
sum_none scope k n a left (Some right) =
    ap (λ l. (l ++ (texts_of (typed_expression scope (k + texts_in (operand_tree a left)) (n + nodes_of (operand_tree a left)) (operand_tree (a + 2) right)) ++ [])) ++ []) (operand_none scope k n a left)
    ∙ ap (λ l. (l ++ []) ++ []) (operand_none scope (k + texts_in (operand_tree a left)) (n + nodes_of (operand_tree a left)) (a + 2) right)

abbrev a_text : ℕ → List ℕ → TextObject
a_text k text = record { number = k; bytes = text }

one_text : (m k : ℕ) (text : List ℕ) → m ≡ k → a_text m (text ++ []) ≡ a_text k text
one_text m k text e = λ i. record { number = e i; bytes = append-nil text i }

statement_numbered : (scope : Scope) (k n a : ℕ) (s : Statement) → texts_of (typed_statement scope k n (statement_tree a s)) ≡ numbered k (texts_by s)
statement_numbered scope k n a (Assign x left right) =
    ap (λ l. (((l ++ []) ++ []) ++ []) ++ []) (sum_none scope (k + 0) (n + 1) (a + 2) left right)
statement_numbered scope k n a (Write text count) =
    ap (λ l. a_text (k + 0 + 0 + 0) (text ++ []) ∷ ((((l ++ []) ++ []) ++ []) ++ [])) (operand_none scope (k + 0 + 0 + 1) (n + 1 + 1 + 1) (a + 6) count)
    ∙ ap (λ t. t ∷ []) (one_text (k + 0 + 0 + 0) k text (omega arith))
statement_numbered scope k n a (Exits None) = refl
statement_numbered scope k n a (Exits (Some text)) = ap (λ t. t ∷ []) (one_text (k + 0 + 0) k text (omega arith))

numbered_behind : (k : ℕ) (s : Statement) (texts : List (List ℕ)) → numbered k (texts_by s) ++ numbered (k + text_count s) texts ≡ numbered k (texts_by s ++ texts)
numbered_behind k (Assign x left right) texts = let e : k + 0 ≡ k = omega arith in ap (λ i. numbered i texts) e
numbered_behind k (Write text count) texts = refl
numbered_behind k (Exits None) texts = let e : k + 0 ≡ k = omega arith in ap (λ i. numbered i texts) e
numbered_behind k (Exits (Some text)) texts = refl

statements_numbered : (scope : Scope) (k n a : ℕ) (ss : List Statement) → texts_of_row (typed_statements scope k n (statement_trees a ss)) ≡ numbered k (text_list ss)
statements_numbered scope k n a [] = refl
statements_numbered scope k n a (s ∷ ss) =
    ap (λ l. l ++ texts_of_row (typed_statements scope (k + texts_in (statement_tree a s)) (n + nodes_of (statement_tree a s)) (statement_trees (a + statement_size s) ss))) (statement_numbered scope k n a s)
    ∙ ap (λ l. numbered k (texts_by s) ++ l) (statements_numbered scope (k + texts_in (statement_tree a s)) (n + nodes_of (statement_tree a s)) (a + statement_size s) ss)
    ∙ ap (λ i. numbered k (texts_by s) ++ numbered (k + i) (text_list ss)) (statement_texts a s)
    ∙ numbered_behind k s (text_list ss)

abbrev pub main_texts : Option (List Statement) → List (List ℕ)
main_texts None = []
main_texts (Some ss) = text_list ss

-- A whole file

abbrev void_main : TypeTree
void_main = Function Void types.none

texts_behind_main : (names : List (List ℕ)) (scope : Scope) (k n a : ℕ) (main : Option (List Statement)) (after : List Declaration)
    → k ≡ 0 → GoodScope names scope → AreVariableNames names → AreNew names after
    → texts_of_row (typed_items scope k n (main_trees a main after)) ≡ numbered 0 (main_texts main)
texts_behind_main names scope k n a None after z g v w = texts_all names scope k n a after none [] g v w (λ scope' i m y h u. refl)
texts_behind_main names scope k n a (Some ss) after z g v w =
    ap (λ l. (((l ++ []) ++ []) ++ []) ++ texts_of_row (typed_items (outer (codes "main") void_main ∷ scope) (k + texts_in (main_tree a ss)) (n + nodes_of (main_tree a ss)) (declaration_trees (a + main_size ss) after none)))
    (statements_numbered (outer (codes "main") void_main ∷ scope) k (n + 2) (a + 6) ss)
    ∙ ap (λ l. (((numbered k (text_list ss) ++ []) ++ []) ++ []) ++ l)
    (texts_all names (outer (codes "main") void_main ∷ scope) (k + texts_in (main_tree a ss)) (n + nodes_of (main_tree a ss)) (a + main_size ss) after none [] (main_good names scope void_main v g) v w (λ scope' i m y h u. refl))
    ∙ append-nil (((numbered k (text_list ss) ++ []) ++ []) ++ [])
    ∙ append-nil ((numbered k (text_list ss) ++ []) ++ [])
    ∙ append-nil (numbered k (text_list ss) ++ [])
    ∙ append-nil (numbered k (text_list ss))
    ∙ ap (λ i. numbered i (text_list ss)) z

variables_after : (names : List (List ℕ)) (scope : Scope) (k n a : ℕ) (after : List Declaration)
    → GoodScope names scope → AreVariableNames names → AreNew names after
    → Stand (map AVariable after) (declared_by (typed_items scope k n (declaration_trees a after none)))
variables_after names scope k n a after g v w =
    subst (λ ts. Stand ts (declared_by (typed_items scope k n (declaration_trees a after none)))) (append-nil (map AVariable after))
    (stand_all names scope k n a after none [] g v w (λ scope' i m y h u. tt))

main_item : (names : List (List ℕ)) (scope : Scope) (n a : ℕ) (ss : List Statement) → GoodScope names scope → AreVariableNames names → AreFine (Among names) ss
    → MainItem ss (typed_item scope 0 n (main_tree a ss))
main_item names scope n a ss g v f = record {
  names = names;
  scope = outer (codes "main") void_main ∷ scope;
  spec = _;
  label = _;
  declarator = _;
  block = _;
  first = n + 2;
  place = a + 6;
  shape = refl;
  good = main_good names scope void_main v g;
  fine = f;
  variables = v;
}

stand_at_main : (names : List (List ℕ)) (scope : Scope) (n a : ℕ) (main : Option (List Statement)) (after : List Declaration)
    → GoodScope names scope → AreVariableNames names → AreNew names after → MainIsFine names main
    → Stand (main_thing main (map AVariable after)) (declared_by (typed_items scope 0 n (main_trees a main after)))
stand_at_main names scope n a None after g v w f = variables_after names scope 0 n a after g v w
stand_at_main names scope n a (Some ss) after g v w f = (
  (refl, (typed_item scope 0 n (main_tree a ss), refl, main_item names scope n a ss g v f)),
  variables_after names (outer (codes "main") void_main ∷ scope) (0 + texts_in (main_tree a ss)) (n + nodes_of (main_tree a ss)) (a + main_size ss) after (main_good names scope void_main v g) v w,
)

-- What a file's module declares, and its texts

abbrev pub items_typed : File → TypedRow
items_typed file = typed_items system_scope 0 0 (items_of file)

pub file_stands : (file : File) → FileForm file → Stand (things file) (declared_by (items_typed file))
file_stands file f =
    stand_all [] system_scope 0 0 0 file.before (main_trees (declarations_size file.before) file.main file.after) (main_thing file.main (map AVariable file.after)) system_good tt f.before
    (λ scope i n z g v.
    subst (λ k. Stand (main_thing file.main (map AVariable file.after)) (declared_by (typed_items scope k n (main_trees (declarations_size file.before) file.main file.after)))) (sym (z refl))
    (stand_at_main (names_behind [] file.before) scope n (declarations_size file.before) file.main file.after g v f.after f.main))

pub file_texts : (file : File) → FileForm file → texts_of_row (items_typed file) ≡ numbered 0 (main_texts file.main)
file_texts file f =
    texts_all [] system_scope 0 0 0 file.before (main_trees (declarations_size file.before) file.main file.after) (numbered 0 (main_texts file.main)) system_good tt f.before
    (λ scope i n z g v. texts_behind_main (names_behind [] file.before) scope i n (declarations_size file.before) file.main file.after (z refl) g v f.after)

-- the module itself
pub record IsSourceOf (file : File) (source : Source) : Type 0 where
  pub stands : Stand (things file) (declared_by source.items)
  pub texts : texts_of_row source.items ≡ numbered 0 (main_texts file.main)
  pub statics : source.statics ≡ []
  pub form : FileForm file

pub source_is : (file : File) → IsFile (items_of file) → FileForm file → IsSourceOf file (source_of file)
source_is file h f = record {
  stands = subst (λ items. Stand (things file) (declared_by items)) (sym (source_items (items_of file) h)) (file_stands file f);
  texts = ap texts_of_row (source_items (items_of file) h) ∙ file_texts file f;
  statics = refl;
  form = f;
}
