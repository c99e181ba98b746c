-- The nodes of a module of the form, each with what typing says of it, by recursion on the file.
use Rattle.std.proofs.Common.{◌≡◌, ℕ, zero, suc, ◌+◌, true, false, List, [], ◌∷◌, ◌++◌, map, length, drop, Some, refl, sym, ap, ◌∙◌, subst, arith, append_assoc, length-append, append-nil}
use Rattle.std.specs.Prelude.{slice_get, unwrap_or}
use Rattle.p9_first.specs.declared.tree.Spec.{Spec}
use Rattle.p9_first.specs.declared.tree.Kind.TheVariants as kind
use Rattle.p9_first.specs.Types.{TypeTree, Void, Function, Meant, Nothing, Outer}
use Rattle.p9_first.specs.Types as types
use Rattle.p9_first.specs.Trees.{node, none, more, Syntax, SyntaxRow, nodes_of, nodes_of_row}
use Rattle.p9_first.specs.Form.{IsStatement, AreStatements, IsBody, IsMainHead, IsMain, IsNewName, IsDeclaration, AreDeclarations, AreItems, names_after, IsFile}
use Rattle.p9_first.specs.Typing.{Judged, Has, Scope, judged, judged_nodes, judged_rows, texts_in, typeless, judged_statement, judged_statements, declare, head_type, judged_item, judged_items, scope_after, judged_file, system_scope}
use Rattle.p9_first.specs.Modules.{Label, Typed, TypedRow, label_of, typed, typed_row, judged_type, judged_meaning, source_from}

-- Lists that begin at a place of another

drop_nil : {X : Type 0} (b : ℕ) → drop {A = X} b [] ≡ []
drop_nil zero = refl
drop_nil (suc b) = refl

drop_add : {X : Type 0} (a b : ℕ) (xs : List X) → drop (a + b) xs ≡ drop b (drop a xs)
drop_add zero b xs = let e : 0 + b ≡ b = omega arith in ap (λ n. drop n xs) e
drop_add {X} (suc a) b [] = drop_nil {X = X} (suc a + b) ∙ sym (drop_nil {X = X} b)
drop_add (suc a) b (x ∷ xs) = let e : suc a + b ≡ suc (a + b) = omega arith in ap (λ n. drop n (x ∷ xs)) e ∙ drop_add a b xs

drop_front : {X : Type 0} (xs ys : List X) → drop (length xs) (xs ++ ys) ≡ ys
drop_front [] ys = refl
drop_front (x ∷ xs) ys = drop_front xs ys

get_front : {X : Type 0} (n : ℕ) (xs ys : List X) (x : X) → drop n xs ≡ x ∷ ys → slice_get xs n ≡ Some x
get_front zero [] ys x h = cc
get_front zero (y ∷ xs) ys x h = cc
get_front (suc n) [] ys x h = cc
get_front (suc n) (y ∷ xs) ys x h = get_front n xs ys x h

map_append : {X Y : Type 0} (f : X → Y) (xs ys : List X) → map f (xs ++ ys) ≡ map f xs ++ map f ys
map_append f [] ys = refl
map_append f (x ∷ xs) ys = ap (λ l. f x ∷ l) (map_append f xs ys)

length_map : {X Y : Type 0} (f : X → Y) (xs : List X) → length (map f xs) ≡ length xs
length_map f [] = refl
length_map f (x ∷ xs) = ap suc (length_map f xs)

-- from this place on, the types and the meanings are those of this list
pub record At (ts : List TypeTree) (ms : List Meant) (first : ℕ) (js : List Judged) : Type 0 where
  pub rest : List TypeTree
  pub others : List Meant
  pub types_here : drop first ts ≡ map judged_type js ++ rest
  pub meanings_here : drop first ms ≡ map judged_meaning js ++ others

at_left : (ts : List TypeTree) (ms : List Meant) (first : ℕ) (js ks : List Judged) → At ts ms first (js ++ ks) → At ts ms first js
at_left ts ms first js ks h = record {
  rest = map judged_type ks ++ h.rest;
  others = map judged_meaning ks ++ h.others;
  types_here = h.types_here ∙ ap (λ l. l ++ h.rest) (map_append judged_type js ks) ∙ append_assoc (map judged_type js) (map judged_type ks) h.rest;
  meanings_here = h.meanings_here ∙ ap (λ l. l ++ h.others) (map_append judged_meaning js ks) ∙ append_assoc (map judged_meaning js) (map judged_meaning ks) h.others;
}

next_here : {X : Type 0} (f : Judged → X) (first : ℕ) (xs rest : List X) (js ks : List Judged) → drop first xs ≡ map f (js ++ ks) ++ rest → drop (first + length js) xs ≡ map f ks ++ rest
next_here f first xs rest js ks h =
    drop_add first (length js) xs
    ∙ ap (drop (length js)) (h ∙ ap (λ l. l ++ rest) (map_append f js ks) ∙ append_assoc (map f js) (map f ks) rest)
    ∙ ap (λ n. drop n (map f js ++ (map f ks ++ rest))) (sym (length_map f js))
    ∙ drop_front (map f js) (map f ks ++ rest)

at_right : (ts : List TypeTree) (ms : List Meant) (first next : ℕ) (js ks : List Judged) → first + length js ≡ next → At ts ms first (js ++ ks) → At ts ms next ks
at_right ts ms first next js ks e h = subst (λ n. At ts ms n ks) e (record {
  rest = h.rest;
  others = h.others;
  types_here = next_here judged_type first ts h.rest js ks h.types_here;
  meanings_here = next_here judged_meaning first ms h.others js ks h.meanings_here;
})

-- the label that a judged node gets
abbrev pub judged_label : ℕ → Judged → Label
judged_label number j = record { number = number; type = judged_type j; means = judged_meaning j }

label_at : (ts : List TypeTree) (ms : List Meant) (n : ℕ) (j : Judged) → At ts ms n (j ∷ []) → label_of ts ms n ≡ judged_label n j
label_at ts ms n j h = λ i. record {
  number = n;
  type = ap (λ o. unwrap_or o Void) (get_front n ts h.rest (judged_type j) h.types_here) i;
  means = ap (λ o. unwrap_or o Nothing) (get_front n ms h.others (judged_meaning j) h.meanings_here) i;
}

-- Expressions

mutual
  nodes_length : (scope : Scope) (k : ℕ) (t : Syntax) → length (judged_nodes scope k t) ≡ nodes_of t
  nodes_length scope k (node kd at parts) =
      length-append (judged_rows scope k parts) (judged scope k (node kd at parts) ∷ []) ∙ ap (λ n. n + 1) (rows_length scope k parts)

  rows_length : (scope : Scope) (k : ℕ) (ts : SyntaxRow) → length (judged_rows scope k ts) ≡ nodes_of_row ts
  rows_length scope k none = refl
  rows_length scope k (more t ts) =
      length-append (judged_nodes scope k t) (judged_rows scope (k + texts_in t) ts)
      ∙ ap (λ n. n + length (judged_rows scope (k + texts_in t) ts)) (nodes_length scope k t)
      ∙ ap (λ n. nodes_of t + n) (rows_length scope (k + texts_in t) ts)

abbrev mutual
  -- an expression whose first node has this number, in this scope, behind so many texts
  pub typed_expression : Scope → (statics first : ℕ) → Syntax → Typed
  typed_expression scope k first (node kd at parts) =
      node kd (judged_label (first + nodes_of_row parts) (judged scope k (node kd at parts))) (typed_expressions scope k first parts)

  pub typed_expressions : Scope → (statics first : ℕ) → SyntaxRow → TypedRow
  typed_expressions scope k first none = none
  typed_expressions scope k first (more t ts) =
      more (typed_expression scope k first t) (typed_expressions scope (k + texts_in t) (first + nodes_of t) ts)

mutual
  pub expression_typed : (ts : List TypeTree) (ms : List Meant) (scope : Scope) (k first : ℕ) (t : Syntax) → At ts ms first (judged_nodes scope k t) → typed ts ms first t ≡ typed_expression scope k first t
  expression_typed ts ms scope k first (node kd at parts) h =
      let l = label_at ts ms (first + nodes_of_row parts) (judged scope k (node kd at parts))
      (at_right ts ms first (first + nodes_of_row parts) (judged_rows scope k parts) (judged scope k (node kd at parts) ∷ []) (ap (λ n. first + n) (rows_length scope k parts)) h) in
      let r = expressions_typed ts ms scope k first parts (at_left ts ms first (judged_rows scope k parts) (judged scope k (node kd at parts) ∷ []) h) in
      ap (λ x. node kd x (typed_row ts ms first parts)) l ∙ ap (λ x. node kd (judged_label (first + nodes_of_row parts) (judged scope k (node kd at parts))) x) r

  expressions_typed : (ts : List TypeTree) (ms : List Meant) (scope : Scope) (k first : ℕ) (row : SyntaxRow) → At ts ms first (judged_rows scope k row) → typed_row ts ms first row ≡ typed_expressions scope k first row
  expressions_typed ts ms scope k first none h = refl
  expressions_typed ts ms scope k first (more t row) h =
      let l = expression_typed ts ms scope k first t (at_left ts ms first (judged_nodes scope k t) (judged_rows scope (k + texts_in t) row) h) in
      let r = expressions_typed ts ms scope (k + texts_in t) (first + nodes_of t) row
      (at_right ts ms first (first + nodes_of t) (judged_nodes scope k t) (judged_rows scope (k + texts_in t) row) (ap (λ n. first + n) (nodes_length scope k t)) h) in
      ap (λ x. more x (typed_row ts ms (first + nodes_of t) row)) l ∙ ap (λ x. more (typed_expression scope k first t) x) r

-- Statements

abbrev pub typed_statement : Scope → (statics first : ℕ) → Syntax → Typed
typed_statement scope k first (node kind.Expression at (more e none)) =
    node kind.Expression (judged_label (first + (nodes_of e + 0)) typeless) (more (typed_expression scope k first e) none)
typed_statement scope k first t = typed [] [] first t

abbrev pub typed_statements : Scope → (statics first : ℕ) → SyntaxRow → TypedRow
typed_statements scope k first none = none
typed_statements scope k first (more t ts) =
    more (typed_statement scope k first t) (typed_statements scope (k + texts_in t) (first + nodes_of t) ts)

statement_length : (names : List (List ℕ)) (scope : Scope) (k : ℕ) (t : Syntax) → IsStatement names t → length (judged_statement scope k t) ≡ nodes_of t
statement_length names scope k (node kind.Expression at (more e none)) h =
    let n = nodes_length scope k e in let l = length-append (judged_nodes scope k e) (typeless ∷ []) in omega (arith, n, l)
statement_length names scope k _ h = absurd h

statements_length : (names : List (List ℕ)) (scope : Scope) (k : ℕ) (ts : SyntaxRow) → AreStatements names ts → length (judged_statements scope k ts) ≡ nodes_of_row ts
statements_length names scope k none h = refl
statements_length names scope k (more t ts) h =
    let a = statement_length names scope k t h.0 in
    let b = statements_length names scope (k + texts_in t) ts h.1 in
    let l = length-append (judged_statement scope k t) (judged_statements scope (k + texts_in t) ts) in
    omega (arith, a, b, l)

statement_typed : (names : List (List ℕ)) (ts : List TypeTree) (ms : List Meant) (scope : Scope) (k first : ℕ) (t : Syntax) → IsStatement names t → At ts ms first (judged_statement scope k t) → typed ts ms first t ≡ typed_statement scope k first t
statement_typed names ts ms scope k first (node kind.Expression at (more e none)) f h =
    let n = nodes_length scope k e in
    let l = label_at ts ms (first + (nodes_of e + 0)) typeless
    (at_right ts ms first (first + (nodes_of e + 0)) (judged_nodes scope k e) (typeless ∷ []) (omega (arith, n)) h) in
    let r = expression_typed ts ms scope k first e (at_left ts ms first (judged_nodes scope k e) (typeless ∷ []) h) in
    ap (λ x. node kind.Expression x (more (typed ts ms first e) none)) l
    ∙ ap (λ x. node kind.Expression (judged_label (first + (nodes_of e + 0)) typeless) (more x none)) r
statement_typed names ts ms scope k first _ f h = absurd f

statements_typed : (names : List (List ℕ)) (ts : List TypeTree) (ms : List Meant) (scope : Scope) (k first : ℕ) (row : SyntaxRow) → AreStatements names row → At ts ms first (judged_statements scope k row) → typed_row ts ms first row ≡ typed_statements scope k first row
statements_typed names ts ms scope k first none f h = refl
statements_typed names ts ms scope k first (more t row) f h =
    let n = statement_length names scope k t f.0 in
    let l = statement_typed names ts ms scope k first t f.0 (at_left ts ms first (judged_statement scope k t) (judged_statements scope (k + texts_in t) row) h) in
    let r = statements_typed names ts ms scope (k + texts_in t) (first + nodes_of t) row f.1
    (at_right ts ms first (first + nodes_of t) (judged_statement scope k t) (judged_statements scope (k + texts_in t) row) (ap (λ i. first + i) n) h) in
    ap (λ x. more x (typed_row ts ms (first + nodes_of t) row)) l ∙ ap (λ x. more (typed_statement scope k first t) x) r

-- Items

abbrev pub typed_name : (first : ℕ) → TypeTree → List ℕ → Typed
typed_name first type x = node (kind.DeclName x) (judged_label (first + 0) (Has type (Outer x))) none

abbrev pub typed_item : Scope → (statics first : ℕ) → Syntax → Typed
typed_item scope k first (node (kind.Declaration spec (false ∷ [])) at (more (node (kind.DeclName x) name_at none) none)) =
    node (kind.Declaration spec (false ∷ [])) (judged_label (first + 1) typeless) (more (typed_name first (head_type spec.words) x) none)
typed_item scope k first (node (kind.Declaration spec (true ∷ [])) at (more (node (kind.DeclName x) name_at none) (more value none))) =
    node (kind.Declaration spec (true ∷ [])) (judged_label (first + (1 + (nodes_of value + 0))) typeless)
    (more (typed_name first (head_type spec.words) x)
    (more (typed_expression (declare (head_type spec.words) (node (kind.DeclName x) name_at none) scope) k (first + 1) value) none))
typed_item scope k first (node (kind.Function spec) at (more (node (kind.Params true true) head_at (more (node (kind.DeclName x) name_at none) none)) (more (node kind.Block body_at statements) none))) =
    node (kind.Function spec) (judged_label (first + (2 + (nodes_of_row statements + 1 + 0))) typeless)
    (more (node (kind.Params true true) (judged_label (first + 1) (Has (Function (head_type spec.words) types.none) Nothing)) (more (typed_name first (Function (head_type spec.words) types.none) x) none))
    (more (node kind.Block (judged_label (first + 2 + nodes_of_row statements) typeless)
    (typed_statements (declare (head_type spec.words) (node (kind.Params true true) head_at (more (node (kind.DeclName x) name_at none) none)) scope) k (first + 2) statements)) none))
typed_item scope k first t = typed [] [] first t

abbrev pub typed_items : Scope → (statics first : ℕ) → SyntaxRow → TypedRow
typed_items scope k first none = none
typed_items scope k first (more t ts) =
    more (typed_item scope k first t) (typed_items (scope_after t scope) (k + texts_in t) (first + nodes_of t) ts)

-- an item of the form: a declaration or `main`, behind these names
abbrev IsItem : List (List ℕ) → Syntax → Type 0
IsItem names (node (kind.Function spec) at parts) = IsMain names (node (kind.Function spec) at parts)
IsItem names t = IsDeclaration names t

name_typed : (ts : List TypeTree) (ms : List Meant) (first : ℕ) (type : TypeTree) (x : List ℕ) (at : ℕ) → At ts ms first (Has type (Outer x) ∷ []) → typed ts ms first (node (kind.DeclName x) at none) ≡ typed_name first type x
name_typed ts ms first type x at h = ap (λ l. node (kind.DeclName x) l none) (label_at ts ms (first + 0) (Has type (Outer x)) (at_right ts ms first (first + 0) [] (Has type (Outer x) ∷ []) refl h))

-- the shape of what is declared
name_shape : (names : List (List ℕ)) (t : Syntax) → IsNewName names t → (x : List ℕ) × (at : ℕ) × (t ≡ node (kind.DeclName x) at none)
name_shape names (node (kind.DeclName x) at none) h = (x, at, refl)
name_shape names _ h = absurd h

head_shape : (t : Syntax) → IsMainHead t → (x : List ℕ) × (at name_at : ℕ) × (t ≡ node (kind.Params true true) at (more (node (kind.DeclName x) name_at none) none))
head_shape (node (kind.Params true true) at (more (node (kind.DeclName x) name_at none) none)) h = (x, at, name_at, refl)
head_shape _ h = absurd h

body_shape : (names : List (List ℕ)) (t : Syntax) → IsBody names t → (at : ℕ) × (row : SyntaxRow) × (t ≡ node kind.Block at row) × AreStatements names row
body_shape names (node kind.Block at row) h = (at, row, refl, h)
body_shape names _ h = absurd h

abbrev plain_item : Spec → (at : ℕ) → List ℕ → (name_at : ℕ) → Syntax
plain_item spec at x name_at = node (kind.Declaration spec (false ∷ [])) at (more (node (kind.DeclName x) name_at none) none)

abbrev valued_item : Spec → (at : ℕ) → List ℕ → (name_at : ℕ) → Syntax → Syntax
valued_item spec at x name_at value = node (kind.Declaration spec (true ∷ [])) at (more (node (kind.DeclName x) name_at none) (more value none))

abbrev main_head : (at : ℕ) → List ℕ → (name_at : ℕ) → Syntax
main_head at x name_at = node (kind.Params true true) at (more (node (kind.DeclName x) name_at none) none)

abbrev main_item : Spec → (at head_at : ℕ) → List ℕ → (name_at body_at : ℕ) → SyntaxRow → Syntax
main_item spec at head_at x name_at body_at row =
    node (kind.Function spec) at (more (main_head head_at x name_at) (more (node kind.Block body_at row) none))

-- what holds of the three shapes holds of an item of the form
pub item_cases : (names : List (List ℕ)) (P : Syntax → Type 0)
    → ((spec : Spec) (at : ℕ) (x : List ℕ) (name_at : ℕ) → P (plain_item spec at x name_at))
    → ((spec : Spec) (at : ℕ) (x : List ℕ) (name_at : ℕ) (value : Syntax) → P (valued_item spec at x name_at value))
    → ((spec : Spec) (at head_at : ℕ) (x : List ℕ) (name_at body_at : ℕ) (row : SyntaxRow) → AreStatements names row → P (main_item spec at head_at x name_at body_at row))
    → (t : Syntax) → IsItem names t → P t
item_cases names P a b c (node (kind.Declaration spec (false ∷ [])) at (more name none)) f =
    let v = name_shape names name f.1 in
    subst (λ n. P (node (kind.Declaration spec (false ∷ [])) at (more n none))) (sym v.2) (a spec at v.0 v.1)
item_cases names P a b c (node (kind.Declaration spec (true ∷ [])) at (more name (more value none))) f =
    let v = name_shape names name f.1 in
    subst (λ n. P (node (kind.Declaration spec (true ∷ [])) at (more n (more value none)))) (sym v.2) (b spec at v.0 v.1 value)
item_cases names P a b c (node (kind.Function spec) at (more head (more body none))) f =
    let v = head_shape head f.1 in
    let w = body_shape names body f.2 in
    subst (λ n. P (node (kind.Function spec) at (more n (more body none)))) (sym v.3)
    (subst (λ n. P (node (kind.Function spec) at (more (main_head v.1 v.0 v.2) (more n none)))) (sym w.2) (c spec at v.1 v.0 v.2 w.0 w.1 w.3))
item_cases names P a b c _ f = absurd f

item_length : (names : List (List ℕ)) (scope : Scope) (k : ℕ) (t : Syntax) → IsItem names t → length (judged_item scope k t) ≡ nodes_of t
item_length names scope k t f =
    item_cases names (λ t. length (judged_item scope k t) ≡ nodes_of t)
    (λ spec at x name_at. refl)
    (λ spec at x name_at value.
    let n = nodes_length (declare (head_type spec.words) (node (kind.DeclName x) name_at none) scope) k value in
    let l = length-append (judged_nodes (declare (head_type spec.words) (node (kind.DeclName x) name_at none) scope) k value) (typeless ∷ []) in
    omega (arith, n, l))
    (λ spec at head_at x name_at body_at row h.
    let n = statements_length names (declare (head_type spec.words) (main_head head_at x name_at) scope) k row h in
    let l = length-append (judged_statements (declare (head_type spec.words) (main_head head_at x name_at) scope) k row) (typeless ∷ []) in
    let m = length-append (judged_statements (declare (head_type spec.words) (main_head head_at x name_at) scope) k row ++ typeless ∷ []) (typeless ∷ []) in
    omega (arith, n, l, m))
    t f

module _ (ts : List TypeTree) (ms : List Meant) where
  plain_typed : (scope : Scope) (k first : ℕ) (spec : Spec) (at : ℕ) (x : List ℕ) (name_at : ℕ) → At ts ms first (judged_item scope k (plain_item spec at x name_at)) → typed ts ms first (plain_item spec at x name_at) ≡ typed_item scope k first (plain_item spec at x name_at)
  plain_typed scope k first spec at x name_at h =
      let l = label_at ts ms (first + 1) typeless (at_right ts ms first (first + 1) (Has (head_type spec.words) (Outer x) ∷ []) (typeless ∷ []) refl h) in
      let r = name_typed ts ms first (head_type spec.words) x name_at (at_left ts ms first (Has (head_type spec.words) (Outer x) ∷ []) (typeless ∷ []) h) in
      ap (λ y. node (kind.Declaration spec (false ∷ [])) y (more (typed ts ms first (node (kind.DeclName x) name_at none)) none)) l
      ∙ ap (λ y. node (kind.Declaration spec (false ∷ [])) (judged_label (first + 1) typeless) (more y none)) r

  valued_typed : (scope : Scope) (k first : ℕ) (spec : Spec) (at : ℕ) (x : List ℕ) (name_at : ℕ) (value : Syntax) → At ts ms first (judged_item scope k (valued_item spec at x name_at value)) → typed ts ms first (valued_item spec at x name_at value) ≡ typed_item scope k first (valued_item spec at x name_at value)
  valued_typed scope k first spec at x name_at value h =
      let inner : Scope = declare (head_type spec.words) (node (kind.DeclName x) name_at none) scope in
      let own : List Judged = Has (head_type spec.words) (Outer x) ∷ [] in
      let n = nodes_length inner k value in
      let tail = at_right ts ms first (first + 1) own (judged_nodes inner k value ++ typeless ∷ []) refl h in
      let l = label_at ts ms (first + (1 + (nodes_of value + 0))) typeless (at_right ts ms (first + 1) (first + (1 + (nodes_of value + 0))) (judged_nodes inner k value) (typeless ∷ []) (omega (arith, n)) tail) in
      let r = name_typed ts ms first (head_type spec.words) x name_at (at_left ts ms first own (judged_nodes inner k value ++ typeless ∷ []) h) in
      let v = expression_typed ts ms inner k (first + 1) value (at_left ts ms (first + 1) (judged_nodes inner k value) (typeless ∷ []) tail) in
      ap (λ y. node (kind.Declaration spec (true ∷ [])) y (more (typed ts ms first (node (kind.DeclName x) name_at none)) (more (typed ts ms (first + 1) value) none))) l
      ∙ ap (λ y. node (kind.Declaration spec (true ∷ [])) (judged_label (first + (1 + (nodes_of value + 0))) typeless) (more y (more (typed ts ms (first + 1) value) none))) r
      ∙ ap (λ y. node (kind.Declaration spec (true ∷ [])) (judged_label (first + (1 + (nodes_of value + 0))) typeless) (more (typed_name first (head_type spec.words) x) (more y none))) v

  main_typed : (names : List (List ℕ)) (scope : Scope) (k first : ℕ) (spec : Spec) (at head_at : ℕ) (x : List ℕ) (name_at body_at : ℕ) (row : SyntaxRow) → AreStatements names row → At ts ms first (judged_item scope k (main_item spec at head_at x name_at body_at row)) → typed ts ms first (main_item spec at head_at x name_at body_at row) ≡ typed_item scope k first (main_item spec at head_at x name_at body_at row)
  main_typed names scope k first spec at head_at x name_at body_at row f h =
      let inner : Scope = declare (head_type spec.words) (main_head head_at x name_at) scope in
      let type : TypeTree = Function (head_type spec.words) types.none in
      let own : List Judged = Has type (Outer x) ∷ Has type Nothing ∷ [] in
      let body : List Judged = judged_statements inner k row in
      let n = statements_length names inner k row f in
      let m = length-append body (typeless ∷ []) in
      let tail = at_right ts ms first (first + 2) own ((body ++ typeless ∷ []) ++ typeless ∷ []) refl h in
      let block = at_left ts ms (first + 2) (body ++ typeless ∷ []) (typeless ∷ []) tail in
      let l = label_at ts ms (first + (2 + (nodes_of_row row + 1 + 0))) typeless (at_right ts ms (first + 2) (first + (2 + (nodes_of_row row + 1 + 0))) (body ++ typeless ∷ []) (typeless ∷ []) (omega (arith, n, m)) tail) in
      let b = label_at ts ms (first + 2 + nodes_of_row row) typeless (at_right ts ms (first + 2) (first + 2 + nodes_of_row row) body (typeless ∷ []) (omega (arith, n)) block) in
      let head = at_left ts ms first own ((body ++ typeless ∷ []) ++ typeless ∷ []) h in
      let p = label_at ts ms (first + 1) (Has type Nothing) (at_right ts ms first (first + 1) (Has type (Outer x) ∷ []) (Has type Nothing ∷ []) refl head) in
      let r = name_typed ts ms first type x name_at (at_left ts ms first (Has type (Outer x) ∷ []) (Has type Nothing ∷ []) head) in
      let s = statements_typed names ts ms inner k (first + 2) row f (at_left ts ms (first + 2) body (typeless ∷ []) block) in
      ap (λ y. node (kind.Function spec) y (more (typed ts ms first (main_head head_at x name_at)) (more (typed ts ms (first + 2) (node kind.Block body_at row)) none))) l
      ∙ ap (λ y. node (kind.Function spec) (judged_label (first + (2 + (nodes_of_row row + 1 + 0))) typeless) (more (node (kind.Params true true) y (more (typed ts ms first (node (kind.DeclName x) name_at none)) none)) (more (typed ts ms (first + 2) (node kind.Block body_at row)) none))) p
      ∙ ap (λ y. node (kind.Function spec) (judged_label (first + (2 + (nodes_of_row row + 1 + 0))) typeless) (more (node (kind.Params true true) (judged_label (first + 1) (Has type Nothing)) (more y none)) (more (typed ts ms (first + 2) (node kind.Block body_at row)) none))) r
      ∙ ap (λ y. node (kind.Function spec) (judged_label (first + (2 + (nodes_of_row row + 1 + 0))) typeless) (more (node (kind.Params true true) (judged_label (first + 1) (Has type Nothing)) (more (typed_name first type x) none)) (more (node kind.Block y (typed_row ts ms (first + 2) row)) none))) b
      ∙ ap (λ y. node (kind.Function spec) (judged_label (first + (2 + (nodes_of_row row + 1 + 0))) typeless) (more (node (kind.Params true true) (judged_label (first + 1) (Has type Nothing)) (more (typed_name first type x) none)) (more (node kind.Block (judged_label (first + 2 + nodes_of_row row) typeless) y) none))) s

  item_typed : (names : List (List ℕ)) (scope : Scope) (k first : ℕ) (t : Syntax) → IsItem names t → At ts ms first (judged_item scope k t) → typed ts ms first t ≡ typed_item scope k first t
  item_typed names scope k first t f =
      item_cases names (λ t. At ts ms first (judged_item scope k t) → typed ts ms first t ≡ typed_item scope k first t)
      (plain_typed scope k first) (valued_typed scope k first) (main_typed names scope k first) t f

-- all items of a file of the form
abbrev AllItems : List (List ℕ) → SyntaxRow → Type 0
AllItems names none = Unit {0}
AllItems names (more t ts) = IsItem names t × AllItems (names_after t names) ts

item_of : (names : List (List ℕ)) (t : Syntax) → IsDeclaration names t → IsItem names t
item_of names (node (kind.Function spec) at parts) h = absurd h
item_of names (node k at parts) h = h

all_declarations : (names : List (List ℕ)) (row : SyntaxRow) → AreDeclarations names row → AllItems names row
all_declarations names none h = tt
all_declarations names (more t ts) h = (item_of names t h.0, all_declarations (names_after t names) ts h.1)

all_items : (names : List (List ℕ)) (row : SyntaxRow) → AreItems names row → AllItems names row
all_items names none h = tt
all_items names (more (node (kind.Function spec) at parts) ts) h = (h.0, all_declarations names ts h.1)
all_items names (more (node k at parts) ts) h = (item_of names (node k at parts) h.0, all_items (names_after (node k at parts) names) ts h.1)

items_typed : (names : List (List ℕ)) (ts : List TypeTree) (ms : List Meant) (scope : Scope) (k first : ℕ) (row : SyntaxRow) → AllItems names row → At ts ms first (judged_items scope k row) → typed_row ts ms first row ≡ typed_items scope k first row
items_typed names ts ms scope k first none f h = refl
items_typed names ts ms scope k first (more t row) f h =
    let n = item_length names scope k t f.0 in
    let l = item_typed ts ms names scope k first t f.0 (at_left ts ms first (judged_item scope k t) (judged_items (scope_after t scope) (k + texts_in t) row) h) in
    let r = items_typed (names_after t names) ts ms (scope_after t scope) (k + texts_in t) (first + nodes_of t) row f.1
    (at_right ts ms first (first + nodes_of t) (judged_item scope k t) (judged_items (scope_after t scope) (k + texts_in t) row) (ap (λ i. first + i) n) h) in
    ap (λ x. more x (typed_row ts ms (first + nodes_of t) row)) l ∙ ap (λ x. more (typed_item scope k first t) x) r

-- the items of the module that a file of the form makes
pub source_items : (items : SyntaxRow) → IsFile items → (source_from items).items ≡ typed_items system_scope 0 0 items
source_items items f =
    items_typed [] (map judged_type (judged_file items)) (map judged_meaning (judged_file items)) system_scope 0 0 items (all_items [] items f.form) (record {
      rest = [];
      others = [];
      types_here = sym (append-nil (map judged_type (judged_file items)));
      meanings_here = sym (append-nil (map judged_meaning (judged_file items)));
    })
