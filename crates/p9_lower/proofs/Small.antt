-- The code and the frame of statements and functions: at most 64 words a node, and no more waiting values
-- than nodes. No statement is a `goto`.
use Rattle.std.proofs.Common.{◌≡◌, ◌≤◌, ℕ, suc, ◌+◌, ◌*◌, ◌&&◌, Bool, true, false, if◌then◌else◌, List, [], ◌∷◌, ◌++◌, Option, Some, None, refl, sym, ap, ◌∙◌, subst, arith, lit≤}
use Rattle.p9_lang.specs.declared.tree.Kind.TheVariants as kind
use Rattle.p9_lang.specs.Trees.{node, none, more}
use Rattle.p9_lang.specs.Types.{TypeTree, Meant, Auto}
use Rattle.p9_lang.specs.Constants.{Constant, NotConstant, Undefined, Null, constant_of}
use Rattle.p9_lang.specs.Constants as constants
use Rattle.p9_lang.specs.Modules.{Label, Typed, TypedRow}
use Rattle.p9_lang.specs.Parts.{is_declarator}
use Rattle.p9_lang.specs.Symbols.{kind_of_node, name_label, initialiser}
use Rattle.p9_cmean.specs.Declarations.{Automatic, automatic, automatics_in, Definition, defined_by, definition_in, definition_of}
use Rattle.p9_cmean.specs.Union.{weight_of, weighed_nodes, weighed_row}
use Rattle.p9_tree.specs.Trees.{Tree, Arms}
use Rattle.p9_tree.specs.Charges.{charge, charge_if, waiting, waiting_if, stmt_charge, row_charge, arms_charge, stmt_waiting, row_waiting, arms_waiting}
use Rattle.p9_tree.specs.Means.{has_no_goto, row_has_no_goto, arms_have_no_goto}
use Rattle.p9_lower.specs.Names.{Setting, name_tree}
use Rattle.p9_lower.specs.Operators.{assigned_tree}
use Rattle.p9_lower.specs.Expressions.{value_tree}
use Rattle.p9_lower.specs.Statements.{initial_tree, with_initial, initial_trees, sequence, effects, case_arm, first_stmt, stmt_tree, stmt_trees, loop_tree, arm_trees}
use Rattle.p9_lower.proofs.Charging.{weight_is, name_charge, assigned_charge, passed_charge, value_charge}
use Rattle.p9_lower.proofs.Waiting.{name_waits, assigned_waits, passed_waits, value_waits}

-- TREES of initialisers: what they are charged, and what waits, all together

abbrev total : (Tree → ℕ) → List Tree → ℕ
total f [] = 0
total f (t ∷ ts) = f t + total f ts

abbrev cost : (Tree → ℕ) → Setting → Automatic → ℕ
cost f setting a = by a.initialiser
  where
    by : Option Typed → ℕ
    by None = 0
    by (Some e) = f (initial_tree setting a e)

zero_left : (n : ℕ) → n ≡ 0 + n
zero_left n = omega arith

same_sum : (a b c : ℕ) → a + b + c ≡ a + (b + c)
same_sum a b c = omega arith

one_total : (f : Tree → ℕ) (setting : Setting) (number : ℕ) (name : Label) (o : Option Typed) (ts : List Tree)
    → total f (with_initial setting (record { number = number; name = name; initialiser = o }) o ts)
    ≡ cost f setting (record { number = number; name = name; initialiser = o }) + total f ts
one_total f setting number name None ts = zero_left (total f ts)
one_total f setting number name (Some e) ts = refl

next_total : (f : Tree → ℕ) (setting : Setting) (a : Automatic) (ds : List Automatic)
    → total f (initial_trees setting (a ∷ ds)) ≡ cost f setting a + total f (initial_trees setting ds)
next_total f setting a ds = one_total f setting a.number a.name a.initialiser (initial_trees setting ds)

append_total : (f : Tree → ℕ) (setting : Setting) (xs ys : List Automatic)
    → total f (initial_trees setting (xs ++ ys)) ≡ total f (initial_trees setting xs) + total f (initial_trees setting ys)
append_total f setting [] ys = zero_left (total f (initial_trees setting ys))
append_total f setting (x ∷ xs) ys =
    next_total f setting x (xs ++ ys)
    ∙ ap (λ n. cost f setting x + n) (append_total f setting xs ys)
    ∙ sym (same_sum (cost f setting x) (total f (initial_trees setting xs)) (total f (initial_trees setting ys)))
    ∙ ap (λ n. n + total f (initial_trees setting ys)) (sym (next_total f setting x xs))

sequence_charge : (t : Tree) (ts : List Tree) → charge (sequence t ts) ≡ total charge (t ∷ ts)
sequence_charge t [] = omega arith
sequence_charge t (u ∷ us) = ap (λ n. charge t + n) (sequence_charge u us)

sequence_waits : (t : Tree) (ts : List Tree) → waiting (sequence t ts) ≡ total waiting (t ∷ ts)
sequence_waits t [] = omega arith
sequence_waits t (u ∷ us) = ap (λ n. waiting t + n) (sequence_waits u us)

effects_charge : (ts : List Tree) → stmt_charge (effects ts) ≡ total charge ts
effects_charge [] = refl
effects_charge (t ∷ ts) = sequence_charge t ts

effects_wait : (ts : List Tree) → stmt_waiting (effects ts) ≡ total waiting ts
effects_wait [] = refl
effects_wait (t ∷ ts) = sequence_waits t ts

-- what an initialiser may cost
abbrev room : ℕ → Option Typed → ℕ
room unit None = 0
room unit (Some e) = unit * weighed_nodes e

-- an initialiser is charged no more than its nodes, and waits no more than these
initial_charge : (setting : Setting) (type : TypeTree) (means : Meant) (e : Typed)
    → charge (assigned_tree setting.tags e type (name_tree setting means) (value_tree setting e)) ≤ 64 * weighed_nodes e
initial_charge setting type means e =
    let h : charge (assigned_tree setting.tags e type (name_tree setting means) (value_tree setting e)) ≤ 33 + (charge (name_tree setting means) + charge (value_tree setting e)) =
    assigned_charge setting.tags e type (name_tree setting means) (value_tree setting e) in
    let g : charge (name_tree setting means) ≤ 3 = name_charge setting means in
    let f : charge (value_tree setting e) + 40 ≤ 64 * weighed_nodes e = value_charge setting e in
    omega arith

initial_waits : (setting : Setting) (type : TypeTree) (means : Meant) (e : Typed)
    → waiting (assigned_tree setting.tags e type (name_tree setting means) (value_tree setting e)) ≤ 1 * weighed_nodes e
initial_waits setting type means e =
    let h : waiting (assigned_tree setting.tags e type (name_tree setting means) (value_tree setting e)) ≤ suc (waiting (name_tree setting means) + waiting (value_tree setting e)) =
    assigned_waits setting.tags e type (name_tree setting means) (value_tree setting e) in
    let g : waiting (name_tree setting means) ≤ 0 = name_waits setting means in
    let f : waiting (value_tree setting e) + 1 ≤ weighed_nodes e = value_waits setting e in
    omega arith

no_more : (n : ℕ) → 0 ≤ n
no_more n = omega arith

plus_none : (a b : ℕ) → a ≤ b → a + 0 ≤ b
plus_none a b h = omega arith

-- the automatic of one declarator
one_charge : (setting : Setting) (number token : ℕ) (type : TypeTree) (means : Meant) (o : Option Typed)
    → total charge (initial_trees setting (automatic (Some (record { number = number; token = token; type = type; means = means })) o)) ≤ room 64 o
one_charge setting number token type (Auto k) None = lit≤ tt
one_charge setting number token type (Auto k) (Some e) = plus_none _ (64 * weighed_nodes e) (initial_charge setting type (Auto k) e)
one_charge setting number token type means o = no_more (room 64 o)

automatic_charge : (setting : Setting) (l : Option Label) (o : Option Typed) → total charge (initial_trees setting (automatic l o)) ≤ room 64 o
automatic_charge setting None o = no_more (room 64 o)
automatic_charge setting (Some l) o = one_charge setting l.number l.token l.type l.means o

one_waits : (setting : Setting) (number token : ℕ) (type : TypeTree) (means : Meant) (o : Option Typed)
    → total waiting (initial_trees setting (automatic (Some (record { number = number; token = token; type = type; means = means })) o)) ≤ room 1 o
one_waits setting number token type (Auto k) None = lit≤ tt
one_waits setting number token type (Auto k) (Some e) = plus_none _ (1 * weighed_nodes e) (initial_waits setting type (Auto k) e)
one_waits setting number token type means o = no_more (room 1 o)

automatic_waits : (setting : Setting) (l : Option Label) (o : Option Typed) → total waiting (initial_trees setting (automatic l o)) ≤ room 1 o
automatic_waits setting None o = no_more (room 1 o)
automatic_waits setting (Some l) o = one_waits setting l.number l.token l.type l.means o

-- what is kept for the first of a row, where that is an initialiser
abbrev kept : ℕ → TypedRow → ℕ
kept unit none = 0
kept unit (more t ts) = if is_declarator (kind_of_node t) then 0 else unit * weighed_nodes t

room_by : (unit : ℕ) (b : Bool) (t : Typed) → room unit (if b then None else Some t) ≡ (if b then 0 else unit * weighed_nodes t)
room_by unit true t = refl
room_by unit false t = refl

room_is : (unit : ℕ) (row : TypedRow) → room unit (initialiser row) ≡ kept unit row
room_is unit none = refl
room_is unit (more t ts) = room_by unit (is_declarator (kind_of_node t)) t

nodes_are : (e : Typed) → 1 ≤ weighed_nodes e
nodes_are (node k label parts) = let h : 1 ≤ weight_of k = weight_is k in omega arith

charged_with : (a b k r w v : ℕ) → a ≤ r → r ≡ k → b + k ≤ 64 * w → a + b + 0 ≤ 64 * (v + w)
charged_with a b k r w v h e g = omega arith

charged_past : (b k w v : ℕ) → b + k ≤ 64 * w → b + 64 * v ≤ 64 * (v + w)
charged_past b k w v g = omega arith

row_by : (b : Bool) (x : ℕ) (xs : List Automatic) (ys : List Automatic) (f : Tree → ℕ) (setting : Setting)
    → total f (initial_trees setting xs) ≡ x → total f (initial_trees setting ((if b then xs else []) ++ ys)) ≡ (if b then x else 0) + total f (initial_trees setting ys)
row_by true x xs ys f setting e = append_total f setting xs ys ∙ ap (λ n. n + total f (initial_trees setting ys)) e
row_by false x xs ys f setting e = zero_left (total f (initial_trees setting ys))

charge_step : (b : Bool) (x y k r w v : ℕ) → x ≤ r → r ≡ k → y + k ≤ 64 * w → (if b then x else 0) + y + (if b then 0 else 64 * v) ≤ 64 * (v + w)
charge_step true x y k r w v h e g = charged_with x y k r w v h e g
charge_step false x y k r w v h e g = let f : y + 64 * v ≤ 64 * (v + w) = charged_past y k w v g in omega arith

declared_charge : (setting : Setting) (row : TypedRow) → total charge (initial_trees setting (automatics_in row)) + kept 64 row ≤ 64 * weighed_row row
declared_charge setting none = lit≤ tt
declared_charge setting (more part others) =
    let b = is_declarator (kind_of_node part) in
    subst (λ n. n + (if b then 0 else 64 * weighed_nodes part) ≤ 64 * (weighed_nodes part + weighed_row others))
    (sym (row_by b (total charge (initial_trees setting (automatic (name_label part) (initialiser others)))) (automatic (name_label part) (initialiser others)) (automatics_in others) charge setting refl))
    (charge_step b (total charge (initial_trees setting (automatic (name_label part) (initialiser others)))) (total charge (initial_trees setting (automatics_in others))) (kept 64 others)
    (room 64 (initialiser others)) (weighed_row others) (weighed_nodes part)
    (automatic_charge setting (name_label part) (initialiser others)) (room_is 64 others) (declared_charge setting others))

waits_step : (b : Bool) (x y k r w v : ℕ) → x ≤ r → r ≡ k → y + k ≤ w → (if b then x else 0) + y + (if b then 0 else 1 * v) ≤ v + w
waits_step true x y k r w v h e g = omega arith
waits_step false x y k r w v h e g = omega arith

declared_waits : (setting : Setting) (row : TypedRow) → total waiting (initial_trees setting (automatics_in row)) + kept 1 row ≤ weighed_row row
declared_waits setting none = lit≤ tt
declared_waits setting (more part others) =
    let b = is_declarator (kind_of_node part) in
    subst (λ n. n + (if b then 0 else 1 * weighed_nodes part) ≤ weighed_nodes part + weighed_row others)
    (sym (row_by b (total waiting (initial_trees setting (automatic (name_label part) (initialiser others)))) (automatic (name_label part) (initialiser others)) (automatics_in others) waiting setting refl))
    (waits_step b (total waiting (initial_trees setting (automatic (name_label part) (initialiser others)))) (total waiting (initial_trees setting (automatics_in others))) (kept 1 others)
    (room 1 (initialiser others)) (weighed_row others) (weighed_nodes part)
    (automatic_waits setting (name_label part) (initialiser others)) (room_is 1 others) (declared_waits setting others))

-- STATEMENTS: their code

fits_one : (c w : ℕ) → c + 40 ≤ 64 * w → c ≤ 64 * (w + 0 + 1)
fits_one c w h = omega arith

fits_if : (c f w v : ℕ) → c + 40 ≤ 64 * w → f ≤ 64 * v → 6 + (c + f) ≤ 64 * (w + (v + 0) + 1)
fits_if c f w v h g = omega arith

fits_else : (c f e w v u : ℕ) → c + 40 ≤ 64 * w → f ≤ 64 * v → e ≤ 64 * u → 8 + (c + (f + e)) ≤ 64 * (w + (v + (u + 0)) + 1)
fits_else c f e w v u h g i = omega arith

fits_while : (c f w v : ℕ) → c + 40 ≤ 64 * w → f ≤ 64 * v → 8 + (c + f) ≤ 64 * (w + (v + 0) + 1)
fits_while c f w v h g = omega arith

fits_do : (c f w v : ℕ) → c + 40 ≤ 64 * w → f ≤ 64 * v → 8 + (c + f) ≤ 64 * (v + (w + 0) + 1)
fits_do c f w v h g = omega arith

fits_for : (l c w v : ℕ) → l ≤ 8 + (c + 64 * v) → c + 40 ≤ 64 * w → l ≤ 64 * (w + v + 1)
fits_for l c w v h g = omega arith

fits_loop : (l v : ℕ) → l ≤ 8 + (0 + 64 * v) → l ≤ 64 * (v + 1)
fits_loop l v h = omega arith

fits_switch : (c a w v : ℕ) → c + 40 ≤ 64 * w → a ≤ 64 * v → 4 + (c + a) ≤ 64 * (w + v + 1)
fits_switch c a w v h g = omega arith

fits_return : (c c' w : ℕ) → c' ≤ 13 + c → c + 40 ≤ 64 * w → 7 + c' ≤ 64 * (w + 0 + 1)
fits_return c c' w h g = omega arith

fits_row : (a b v w : ℕ) → a ≤ 64 * v → b ≤ 64 * w → a + b ≤ 64 * (v + w)
fits_row a b v w h g = omega arith

fits_block : (a w : ℕ) → a ≤ 64 * w → a ≤ 64 * (w + 1)
fits_block a w h = omega arith

fits_kept : (a k w : ℕ) → a + k ≤ 64 * w → a ≤ 64 * (w + 1)
fits_kept a k w h = omega arith

fits_arm : (k a v w : ℕ) → k ≤ 6 → a ≤ 64 * w → 1 ≤ v → k + a ≤ 64 * (v + w)
fits_arm k a v w h g i = omega arith

fits_nothing : (a v w : ℕ) → a ≤ 64 * w → 0 + a ≤ 64 * (v + w)
fits_nothing a v w h = omega arith

loop_three : (i c s b w v u : ℕ) → c + 40 ≤ 64 * w → s + 40 ≤ 64 * v → b ≤ 64 * u → 8 + (i + (c + (s + b))) ≤ 8 + (i + 64 * (w + (v + (u + 0))))
loop_three i c s b w v u h g f = omega arith

loop_test : (i c b w u : ℕ) → c + 40 ≤ 64 * w → b ≤ 64 * u → 8 + (i + (c + (0 + b))) ≤ 8 + (i + 64 * (w + (u + 0)))
loop_test i c b w u h f = omega arith

loop_step : (i s b w u : ℕ) → s + 40 ≤ 64 * w → b ≤ 64 * u → 8 + (i + (0 + (s + b))) ≤ 8 + (i + 64 * (w + (u + 0)))
loop_step i s b w u h f = omega arith

loop_none : (i b u : ℕ) → b ≤ 64 * u → 8 + (i + (0 + (0 + b))) ≤ 8 + (i + 64 * (u + 0))
loop_none i b u f = omega arith

loop_first : (i w : ℕ) → i ≤ 8 + (i + w)
loop_first i w = omega arith

first_charge : (first : Option Tree) (w : ℕ) → stmt_charge (first_stmt first) ≤ 8 + (charge_if first + w)
first_charge None w = no_more (8 + (0 + w))
first_charge (Some t) w = loop_first (charge t) w

case_charge : (c : Constant) (others : Arms) (v w : ℕ) → arms_charge others ≤ 64 * w → 1 ≤ v → arms_charge (case_arm c others) ≤ 64 * (v + w)
case_charge NotConstant others v w h g = fits_nothing (arms_charge others) v w h
case_charge Undefined others v w h g = fits_nothing (arms_charge others) v w h
case_charge (constants.Value n) others v w h g = fits_arm 6 (arms_charge others) v w (lit≤ tt) h g
case_charge Null others v w h g = fits_nothing (arms_charge others) v w h

module _ (setting : Setting) where
  mutual
    pub statement_charge : (n : Typed) → stmt_charge (stmt_tree setting n) ≤ 64 * weighed_nodes n
    statement_charge (node kind.Block label parts) = fits_block (row_charge (stmt_trees setting parts)) (weighed_row parts) (statements_charge parts)
    statement_charge (node (kind.Declaration spec inits) label parts) =
        subst (λ k. k ≤ 64 * (weighed_row parts + 1)) (sym (effects_charge (initial_trees setting (automatics_in parts))))
        (fits_kept (total charge (initial_trees setting (automatics_in parts))) (kept 64 parts) (weighed_row parts) (declared_charge setting parts))
    statement_charge (node kind.Expression label none) = lit≤ tt
    statement_charge (node kind.Expression label (more e none)) = fits_one (charge (value_tree setting e)) (weighed_nodes e) (value_charge setting e)
    statement_charge (node kind.If label (more test (more first none))) =
        fits_if (charge (value_tree setting test)) (stmt_charge (stmt_tree setting first)) (weighed_nodes test) (weighed_nodes first) (value_charge setting test) (statement_charge first)
    statement_charge (node kind.If label (more test (more first (more second none)))) =
        fits_else (charge (value_tree setting test)) (stmt_charge (stmt_tree setting first)) (stmt_charge (stmt_tree setting second)) (weighed_nodes test) (weighed_nodes first) (weighed_nodes second)
        (value_charge setting test) (statement_charge first) (statement_charge second)
    statement_charge (node kind.While label (more test (more body none))) =
        fits_while (charge (value_tree setting test)) (stmt_charge (stmt_tree setting body)) (weighed_nodes test) (weighed_nodes body) (value_charge setting test) (statement_charge body)
    statement_charge (node kind.Do label (more body (more test none))) =
        fits_do (charge (value_tree setting test)) (stmt_charge (stmt_tree setting body)) (weighed_nodes test) (weighed_nodes body) (value_charge setting test) (statement_charge body)
    statement_charge (node (kind.For true test step) label (more first others)) =
        fits_for (stmt_charge (loop_tree setting (Some (value_tree setting first)) test step others)) (charge (value_tree setting first)) (weighed_nodes first) (weighed_row others)
        (loop_charge (Some (value_tree setting first)) test step others) (value_charge setting first)
    statement_charge (node (kind.For false test step) label others) =
        fits_loop (stmt_charge (loop_tree setting None test step others)) (weighed_row others) (loop_charge None test step others)
    statement_charge (node kind.Switch label (more e arms)) =
        fits_switch (charge (value_tree setting e)) (arms_charge (arm_trees setting arms)) (weighed_nodes e) (weighed_row arms) (value_charge setting e) (switch_charge arms)
    statement_charge (node kind.Case label (more constant none)) = no_more (64 * (weighed_nodes constant + 0 + 1))
    statement_charge (node kind.Default label none) = lit≤ tt
    statement_charge (node kind.Break label none) = lit≤ tt
    statement_charge (node kind.Continue label none) = lit≤ tt
    statement_charge (node kind.Return label none) = lit≤ tt
    statement_charge (node kind.Return label (more e none)) =
        fits_return (charge (value_tree setting e)) _ (weighed_nodes e) (passed_charge setting.tags e setting.result (value_tree setting e)) (value_charge setting e)
    statement_charge (node k label parts) = no_more (64 * (weighed_row parts + weight_of k))

    statements_charge : (row : TypedRow) → row_charge (stmt_trees setting row) ≤ 64 * weighed_row row
    statements_charge none = lit≤ tt
    statements_charge (more first others) =
        fits_row (stmt_charge (stmt_tree setting first)) (row_charge (stmt_trees setting others)) (weighed_nodes first) (weighed_row others) (statement_charge first) (statements_charge others)

    switch_charge : (row : TypedRow) → arms_charge (arm_trees setting row) ≤ 64 * weighed_row row
    switch_charge none = lit≤ tt
    switch_charge (more (node kind.Case label (more constant none)) others) =
        case_charge (constant_of setting.tags constant) (arm_trees setting others) (weighed_nodes (node kind.Case label (more constant none))) (weighed_row others) (switch_charge others)
        (nodes_are (node kind.Case label (more constant none)))
    switch_charge (more (node kind.Default label none) others) =
        fits_arm 2 (arms_charge (arm_trees setting others)) 1 (weighed_row others) (lit≤ tt) (switch_charge others) (lit≤ tt)
    switch_charge (more (node k label parts) others) =
        fits_row (stmt_charge (stmt_tree setting (node k label parts))) (arms_charge (arm_trees setting others)) (weighed_nodes (node k label parts)) (weighed_row others)
        (statement_charge (node k label parts)) (switch_charge others)

    loop_charge : (first : Option Tree) (test step : Bool) (row : TypedRow) → stmt_charge (loop_tree setting first test step row) ≤ 8 + (charge_if first + 64 * weighed_row row)
    loop_charge first true true (more test (more step (more body none))) =
        loop_three (charge_if first) (charge (value_tree setting test)) (charge (value_tree setting step)) (stmt_charge (stmt_tree setting body)) (weighed_nodes test) (weighed_nodes step) (weighed_nodes body)
        (value_charge setting test) (value_charge setting step) (statement_charge body)
    loop_charge first true false (more test (more body none)) =
        loop_test (charge_if first) (charge (value_tree setting test)) (stmt_charge (stmt_tree setting body)) (weighed_nodes test) (weighed_nodes body) (value_charge setting test) (statement_charge body)
    loop_charge first false true (more step (more body none)) =
        loop_step (charge_if first) (charge (value_tree setting step)) (stmt_charge (stmt_tree setting body)) (weighed_nodes step) (weighed_nodes body) (value_charge setting step) (statement_charge body)
    loop_charge first false false (more body none) =
        loop_none (charge_if first) (stmt_charge (stmt_tree setting body)) (weighed_nodes body) (statement_charge body)
    loop_charge first test step row = first_charge first (64 * weighed_row row)

-- STATEMENTS: what waits

waits_one : (c w : ℕ) → c + 1 ≤ w → c ≤ w + 0 + 1
waits_one c w h = omega arith

waits_two : (c f w v : ℕ) → c + 1 ≤ w → f ≤ v → c + f ≤ w + (v + 0) + 1
waits_two c f w v h g = omega arith

waits_do : (c f w v : ℕ) → c + 1 ≤ w → f ≤ v → c + f ≤ v + (w + 0) + 1
waits_do c f w v h g = omega arith

waits_else : (c f e w v u : ℕ) → c + 1 ≤ w → f ≤ v → e ≤ u → c + (f + e) ≤ w + (v + (u + 0)) + 1
waits_else c f e w v u h g i = omega arith

waits_for : (l c w v : ℕ) → l ≤ c + v → c + 1 ≤ w → l ≤ w + v + 1
waits_for l c w v h g = omega arith

waits_loop : (l v : ℕ) → l ≤ 0 + v → l ≤ v + 1
waits_loop l v h = omega arith

waits_switch : (c a w v : ℕ) → c + 1 ≤ w → a ≤ v → suc (c + a) ≤ w + v + 1
waits_switch c a w v h g = omega arith

waits_return : (c c' w : ℕ) → c' ≤ c → c + 1 ≤ w → c' ≤ w + 0 + 1
waits_return c c' w h g = omega arith

waits_row : (a b v w : ℕ) → a ≤ v → b ≤ w → a + b ≤ v + w
waits_row a b v w h g = omega arith

waits_block : (a w : ℕ) → a ≤ w → a ≤ w + 1
waits_block a w h = omega arith

waits_kept : (a k w : ℕ) → a + k ≤ w → a ≤ w + 1
waits_kept a k w h = omega arith

waits_past : (a v w : ℕ) → a ≤ w → a ≤ v + w
waits_past a v w h = omega arith

waits_none : (a v w : ℕ) → a ≤ w → 0 + a ≤ v + w
waits_none a v w h = omega arith

three_wait : (i c s b w v u : ℕ) → c + 1 ≤ w → s + 1 ≤ v → b ≤ u → i + (c + (s + b)) ≤ i + (w + (v + (u + 0)))
three_wait i c s b w v u h g f = omega arith

test_waits : (i c b w u : ℕ) → c + 1 ≤ w → b ≤ u → i + (c + (0 + b)) ≤ i + (w + (u + 0))
test_waits i c b w u h f = omega arith

step_waits : (i s b w u : ℕ) → s + 1 ≤ w → b ≤ u → i + (0 + (s + b)) ≤ i + (w + (u + 0))
step_waits i s b w u h f = omega arith

body_waits : (i b u : ℕ) → b ≤ u → i + (0 + (0 + b)) ≤ i + (u + 0)
body_waits i b u f = omega arith

first_alone : (i w : ℕ) → i ≤ i + w
first_alone i w = omega arith

first_waits : (first : Option Tree) (w : ℕ) → stmt_waiting (first_stmt first) ≤ waiting_if first + w
first_waits None w = no_more (0 + w)
first_waits (Some t) w = first_alone (waiting t) w

case_waits : (c : Constant) (others : Arms) (v w : ℕ) → arms_waiting others ≤ w → arms_waiting (case_arm c others) ≤ v + w
case_waits NotConstant others v w h = waits_none (arms_waiting others) v w h
case_waits Undefined others v w h = waits_none (arms_waiting others) v w h
case_waits (constants.Value n) others v w h = waits_past (arms_waiting others) v w h
case_waits Null others v w h = waits_none (arms_waiting others) v w h

module _ (setting : Setting) where
  mutual
    pub statement_waits : (n : Typed) → stmt_waiting (stmt_tree setting n) ≤ weighed_nodes n
    statement_waits (node kind.Block label parts) = waits_block (row_waiting (stmt_trees setting parts)) (weighed_row parts) (statements_wait parts)
    statement_waits (node (kind.Declaration spec inits) label parts) =
        subst (λ k. k ≤ weighed_row parts + 1) (sym (effects_wait (initial_trees setting (automatics_in parts))))
        (waits_kept (total waiting (initial_trees setting (automatics_in parts))) (kept 1 parts) (weighed_row parts) (declared_waits setting parts))
    statement_waits (node kind.Expression label none) = lit≤ tt
    statement_waits (node kind.Expression label (more e none)) = waits_one (waiting (value_tree setting e)) (weighed_nodes e) (value_waits setting e)
    statement_waits (node kind.If label (more test (more first none))) =
        waits_two (waiting (value_tree setting test)) (stmt_waiting (stmt_tree setting first)) (weighed_nodes test) (weighed_nodes first) (value_waits setting test) (statement_waits first)
    statement_waits (node kind.If label (more test (more first (more second none)))) =
        waits_else (waiting (value_tree setting test)) (stmt_waiting (stmt_tree setting first)) (stmt_waiting (stmt_tree setting second)) (weighed_nodes test) (weighed_nodes first) (weighed_nodes second)
        (value_waits setting test) (statement_waits first) (statement_waits second)
    statement_waits (node kind.While label (more test (more body none))) =
        waits_two (waiting (value_tree setting test)) (stmt_waiting (stmt_tree setting body)) (weighed_nodes test) (weighed_nodes body) (value_waits setting test) (statement_waits body)
    statement_waits (node kind.Do label (more body (more test none))) =
        waits_do (waiting (value_tree setting test)) (stmt_waiting (stmt_tree setting body)) (weighed_nodes test) (weighed_nodes body) (value_waits setting test) (statement_waits body)
    statement_waits (node (kind.For true test step) label (more first others)) =
        waits_for (stmt_waiting (loop_tree setting (Some (value_tree setting first)) test step others)) (waiting (value_tree setting first)) (weighed_nodes first) (weighed_row others)
        (loop_waits (Some (value_tree setting first)) test step others) (value_waits setting first)
    statement_waits (node (kind.For false test step) label others) =
        waits_loop (stmt_waiting (loop_tree setting None test step others)) (weighed_row others) (loop_waits None test step others)
    statement_waits (node kind.Switch label (more e arms)) =
        waits_switch (waiting (value_tree setting e)) (arms_waiting (arm_trees setting arms)) (weighed_nodes e) (weighed_row arms) (value_waits setting e) (switch_waits arms)
    statement_waits (node kind.Case label (more constant none)) = no_more (weighed_nodes constant + 0 + 1)
    statement_waits (node kind.Default label none) = lit≤ tt
    statement_waits (node kind.Break label none) = lit≤ tt
    statement_waits (node kind.Continue label none) = lit≤ tt
    statement_waits (node kind.Return label none) = lit≤ tt
    statement_waits (node kind.Return label (more e none)) =
        waits_return (waiting (value_tree setting e)) _ (weighed_nodes e) (passed_waits setting.tags e setting.result (value_tree setting e)) (value_waits setting e)
    statement_waits (node k label parts) = no_more (weighed_row parts + weight_of k)

    statements_wait : (row : TypedRow) → row_waiting (stmt_trees setting row) ≤ weighed_row row
    statements_wait none = lit≤ tt
    statements_wait (more first others) =
        waits_row (stmt_waiting (stmt_tree setting first)) (row_waiting (stmt_trees setting others)) (weighed_nodes first) (weighed_row others) (statement_waits first) (statements_wait others)

    switch_waits : (row : TypedRow) → arms_waiting (arm_trees setting row) ≤ weighed_row row
    switch_waits none = lit≤ tt
    switch_waits (more (node kind.Case label (more constant none)) others) =
        case_waits (constant_of setting.tags constant) (arm_trees setting others) (weighed_nodes (node kind.Case label (more constant none))) (weighed_row others) (switch_waits others)
    switch_waits (more (node kind.Default label none) others) = waits_past (arms_waiting (arm_trees setting others)) 1 (weighed_row others) (switch_waits others)
    switch_waits (more (node k label parts) others) =
        waits_row (stmt_waiting (stmt_tree setting (node k label parts))) (arms_waiting (arm_trees setting others)) (weighed_nodes (node k label parts)) (weighed_row others)
        (statement_waits (node k label parts)) (switch_waits others)

    loop_waits : (first : Option Tree) (test step : Bool) (row : TypedRow) → stmt_waiting (loop_tree setting first test step row) ≤ waiting_if first + weighed_row row
    loop_waits first true true (more test (more step (more body none))) =
        three_wait (waiting_if first) (waiting (value_tree setting test)) (waiting (value_tree setting step)) (stmt_waiting (stmt_tree setting body)) (weighed_nodes test) (weighed_nodes step) (weighed_nodes body)
        (value_waits setting test) (value_waits setting step) (statement_waits body)
    loop_waits first true false (more test (more body none)) =
        test_waits (waiting_if first) (waiting (value_tree setting test)) (stmt_waiting (stmt_tree setting body)) (weighed_nodes test) (weighed_nodes body) (value_waits setting test) (statement_waits body)
    loop_waits first false true (more step (more body none)) =
        step_waits (waiting_if first) (waiting (value_tree setting step)) (stmt_waiting (stmt_tree setting body)) (weighed_nodes step) (weighed_nodes body) (value_waits setting step) (statement_waits body)
    loop_waits first false false (more body none) =
        body_waits (waiting_if first) (stmt_waiting (stmt_tree setting body)) (weighed_nodes body) (statement_waits body)
    loop_waits first test step row = first_waits first (weighed_row row)

-- NO GOTO

both_true : (a b : Bool) → a ≡ true → b ≡ true → (a && b) ≡ true
both_true true b h g = g
both_true false b h g = cc

effects_go : (ts : List Tree) → has_no_goto (effects ts) ≡ true
effects_go [] = refl
effects_go (t ∷ ts) = refl

first_goes : (first : Option Tree) → has_no_goto (first_stmt first) ≡ true
first_goes None = refl
first_goes (Some t) = refl

case_goes : (c : Constant) (others : Arms) → arms_have_no_goto others ≡ true → arms_have_no_goto (case_arm c others) ≡ true
case_goes NotConstant others h = h
case_goes Undefined others h = h
case_goes (constants.Value n) others h = h
case_goes Null others h = h

module _ (setting : Setting) where
  mutual
    pub statement_goes : (n : Typed) → has_no_goto (stmt_tree setting n) ≡ true
    statement_goes (node kind.Block label parts) = statements_go parts
    statement_goes (node (kind.Declaration spec inits) label parts) = effects_go (initial_trees setting (automatics_in parts))
    statement_goes (node kind.Expression label none) = refl
    statement_goes (node kind.Expression label (more e none)) = refl
    statement_goes (node kind.If label (more test (more first none))) = statement_goes first
    statement_goes (node kind.If label (more test (more first (more second none)))) =
        both_true (has_no_goto (stmt_tree setting first)) (has_no_goto (stmt_tree setting second)) (statement_goes first) (statement_goes second)
    statement_goes (node kind.While label (more test (more body none))) = statement_goes body
    statement_goes (node kind.Do label (more body (more test none))) = statement_goes body
    statement_goes (node (kind.For true test step) label (more first others)) = loop_goes (Some (value_tree setting first)) test step others
    statement_goes (node (kind.For false test step) label others) = loop_goes None test step others
    statement_goes (node kind.Switch label (more e arms)) = switch_goes arms
    statement_goes (node kind.Case label (more constant none)) = refl
    statement_goes (node kind.Default label none) = refl
    statement_goes (node kind.Break label none) = refl
    statement_goes (node kind.Continue label none) = refl
    statement_goes (node kind.Return label none) = refl
    statement_goes (node kind.Return label (more e none)) = refl
    statement_goes (node k label parts) = refl

    statements_go : (row : TypedRow) → row_has_no_goto (stmt_trees setting row) ≡ true
    statements_go none = refl
    statements_go (more first others) =
        both_true (has_no_goto (stmt_tree setting first)) (row_has_no_goto (stmt_trees setting others)) (statement_goes first) (statements_go others)

    switch_goes : (row : TypedRow) → arms_have_no_goto (arm_trees setting row) ≡ true
    switch_goes none = refl
    switch_goes (more (node kind.Case label (more constant none)) others) = case_goes (constant_of setting.tags constant) (arm_trees setting others) (switch_goes others)
    switch_goes (more (node kind.Default label none) others) = switch_goes others
    switch_goes (more (node k label parts) others) =
        both_true (has_no_goto (stmt_tree setting (node k label parts))) (arms_have_no_goto (arm_trees setting others)) (statement_goes (node k label parts)) (switch_goes others)

    loop_goes : (first : Option Tree) (test step : Bool) (row : TypedRow) → has_no_goto (loop_tree setting first test step row) ≡ true
    loop_goes first true true (more test (more step (more body none))) = statement_goes body
    loop_goes first true false (more test (more body none)) = statement_goes body
    loop_goes first false true (more step (more body none)) = statement_goes body
    loop_goes first false false (more body none) = statement_goes body
    loop_goes first test step row = first_goes first

-- FUNCTIONS: an item has one node more than its block

defined_block : (label : Label) (name : Option Label) (block : Typed) (d : Definition) → defined_by label name block ≡ Some d → block ≡ d.block
defined_block label None block d e = cc
defined_block label (Some name) block d e = let f : record { label = label; name = name; block = block } ≡ d = cc in ap (λ x. x.block) f

within_row : (b v w : ℕ) → b ≤ w → b ≤ v + w
within_row b v w h = omega arith

first_of_two : (v w : ℕ) → v ≤ v + w
first_of_two v w = omega arith

part_by : (b : Bool) (label : Label) (part next : Typed) (others : TypedRow) (d : Definition)
    → (if b then defined_by label (name_label part) next else definition_in label (more next others)) ≡ Some d
    → (definition_in label (more next others) ≡ Some d → weighed_nodes d.block ≤ weighed_row (more next others))
    → weighed_nodes d.block ≤ weighed_nodes part + (weighed_nodes next + weighed_row others)
part_by true label part next others d e h =
    subst (λ k. weighed_nodes k ≤ weighed_nodes part + (weighed_nodes next + weighed_row others)) (defined_block label (name_label part) next d e)
    (within_row (weighed_nodes next) (weighed_nodes part) (weighed_nodes next + weighed_row others) (first_of_two (weighed_nodes next) (weighed_row others)))
part_by false label part next others d e h = within_row (weighed_nodes d.block) (weighed_nodes part) (weighed_nodes next + weighed_row others) (h e)

block_in : (label : Label) (row : TypedRow) (d : Definition) → definition_in label row ≡ Some d → weighed_nodes d.block ≤ weighed_row row
block_in label none d e = cc
block_in label (more block none) d e = cc
block_in label (more part (more next others)) d e = part_by (is_declarator (kind_of_node part)) label part next others d e (λ f. block_in label (more next others) d f)

pub block_of_item : (item : Typed) (d : Definition) → definition_of item ≡ Some d → weighed_nodes d.block + 1 ≤ weighed_nodes item
block_of_item (node (kind.Function spec) label parts) d e = let h : weighed_nodes d.block ≤ weighed_row parts = block_in label parts d e in omega arith
block_of_item (node k label parts) d e = cc
