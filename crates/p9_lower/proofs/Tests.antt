-- The test of sources is sound, and small programs pass it.
use Rattle.std.proofs.Common.{◌≡◌, ℕ, ◌==◌, ◌&&◌, Bool, true, false, List, [], ◌∷◌, ◌++◌, slice_get, Option, Some, None, refl, ap, ◌∙◌, subst}
use Rattle.std.proofs.lemmas.Bool.{eqb-true}
use Rattle.p9_lang.specs.declared.tree.Kind.{Kind}
use Rattle.p9_lang.specs.declared.tree.Kind.TheVariants as kind
use Rattle.p9_lang.specs.Types.{TypeTree, Void, Char, UChar, Short, UShort, Int, UInt, Long, ULong, Pointer, Array, Function, Tagged, TypeRow, Meant, Nothing, Outer, Static, Auto, EnumValue, TypeName}
use Rattle.p9_lang.specs.Types as types
use Rattle.p9_lang.specs.Trees.{node, none, more}
use Rattle.p9_lang.specs.Conversions.{is_function, same_type, same_types}
use Rattle.p9_lang.specs.Modules.{Label, Typed, TypedRow, Source}
use Rattle.p9_lang.specs.Symbols.{Symbol, symbols}
use Rattle.p9_cmean.specs.ConstantLaws.{constants_are_typed}
use Rattle.p9_cmean.specs.Declarations.{Automatic, declared_by, declared_in, Definition, definition_of}
use Rattle.p9_cmean.specs.Union.{parameter_types, types_within}
use Rattle.p9_cmean.proofs.TypedConstants.{tested_constants_are_typed}
use Rattle.p9_tree.specs.Means.{data_symbols, code_items}
use Rattle.p9_lower.specs.Names.{Setting, outer_symbol, static_symbol}
use Rattle.p9_lower.specs.Modules.{setting_of}
use Rattle.p9_lower.specs.Keeping.{is_function_at}
use Rattle.p9_lower.specs.Premises.{NameIsKnown, NodeIsSound, NodesAreSound, RowIsSound, ExpressionIsSound, AutomaticsAreKnown, InitialIsSound, InitialisersAreSound, StatementIsSound, StatementsAreSound, LoopIsSound, function_setting, ItemIsSound, ItemsAreSound, firsts_are_sound}
use Rattle.p9_lower.specs.Tests.{answers, name_is_known, node_is_sound, nodes_are_sound, row_is_sound, expression_is_sound, has_type, automatics_are_known, initial_is_sound, initialisers_are_sound, statement_is_sound, statements_are_sound, loop_is_sound, item_is_sound, items_are_sound, TestedSourcesAreSound}
use Rattle.p9_lower.specs.SoundExamples.{are_sound, ExamplesAreSound}
use Rattle.p9_lower.proofs.Truths.{left_true, right_true}

-- NAMES

answered : (o : Option Bool) (b : Bool) → answers o b ≡ true → o ≡ Some b
answered None b e = cc
answered (Some true) true e = refl
answered (Some true) false e = cc
answered (Some false) true e = cc
answered (Some false) false e = refl

name_known : (symbols : List Symbol) (type : TypeTree) (means : Meant) → name_is_known symbols type means ≡ true → NameIsKnown symbols type means
name_known symbols type Nothing e = tt
name_known symbols type (Outer name) e = answered (is_function_at symbols (outer_symbol symbols name)) (is_function type) e
name_known symbols type (Static number) e = answered (is_function_at symbols (static_symbol symbols number)) false e
name_known symbols type (Auto number) e = tt
name_known symbols type (EnumValue value) e = tt
name_known symbols type (TypeName other) e = tt

-- EXPRESSIONS

node_sound : (setting : Setting) (k : Kind) (label : Label) (parts : TypedRow) → node_is_sound setting k label parts ≡ true → NodeIsSound setting k label parts
node_sound setting (kind.Name x) label parts e = name_known setting.symbols label.type label.means e
node_sound setting (kind.Text texts) label parts e = name_known setting.symbols label.type label.means e
node_sound setting (kind.Binary op) label (more left (more right none)) e = e
node_sound setting (kind.Assign (Some op)) label (more left (more right none)) e = e
node_sound setting k label parts e = tt

mutual
  nodes_sound : (setting : Setting) (e : Typed) → nodes_are_sound setting e ≡ true → NodesAreSound setting e
  nodes_sound setting (node k label parts) h = (
    node_sound setting k label parts (left_true (node_is_sound setting k label parts) (row_is_sound setting parts) h),
    row_sound setting parts (right_true (node_is_sound setting k label parts) (row_is_sound setting parts) h),
  )

  row_sound : (setting : Setting) (row : TypedRow) → row_is_sound setting row ≡ true → RowIsSound setting row
  row_sound setting none h = tt
  row_sound setting (more first others) h = (
    nodes_sound setting first (left_true (nodes_are_sound setting first) (row_is_sound setting others) h),
    row_sound setting others (right_true (nodes_are_sound setting first) (row_is_sound setting others) h),
  )

expression_sound : (setting : Setting) (e : Typed) → expression_is_sound setting e ≡ true → ExpressionIsSound setting e
expression_sound setting e h = record {
  constants = tested_constants_are_typed setting.tags e (left_true (constants_are_typed setting.tags e) (nodes_are_sound setting e) h);
  nodes = nodes_sound setting e (right_true (constants_are_typed setting.tags e) (nodes_are_sound setting e) h);
}

-- TYPES that are the same are equal

mutual
  types_equal : (t u : TypeTree) → same_type t u ≡ true → t ≡ u
  types_equal Void Void e = refl
  types_equal Char Char e = refl
  types_equal UChar UChar e = refl
  types_equal Short Short e = refl
  types_equal UShort UShort e = refl
  types_equal Int Int e = refl
  types_equal UInt UInt e = refl
  types_equal Long Long e = refl
  types_equal ULong ULong e = refl
  types_equal (Pointer t) (Pointer u) e = ap Pointer (types_equal t u e)
  types_equal (Array t m) (Array u n) e =
      ap (λ k. Array t k) (eqb-true m n (left_true (m == n) (same_type t u) e)) ∙ ap (λ s. Array s n) (types_equal t u (right_true (m == n) (same_type t u) e))
  types_equal (Function t ts) (Function u us) e =
      ap (λ s. Function s ts) (types_equal t u (left_true (same_type t u) (same_types ts us) e)) ∙ ap (λ s. Function u s) (rows_equal ts us (right_true (same_type t u) (same_types ts us) e))
  types_equal (Tagged i) (Tagged j) e = ap Tagged (eqb-true i j e)
  types_equal t u e = cc

  rows_equal : (ts us : TypeRow) → same_types ts us ≡ true → ts ≡ us
  rows_equal types.none types.none e = refl
  rows_equal types.none (types.more u us) e = cc
  rows_equal (types.more t ts) types.none e = cc
  rows_equal (types.more t ts) (types.more u us) e =
      ap (λ s. types.more s ts) (types_equal t u (left_true (same_type t u) (same_types ts us) e)) ∙ ap (λ s. types.more u s) (rows_equal ts us (right_true (same_type t u) (same_types ts us) e))

type_known : (o : Option TypeTree) (type : TypeTree) → has_type o type ≡ true → o ≡ Some type
type_known None type e = cc
type_known (Some other) type e = ap (λ t. Some t) (types_equal other type e)

-- STATEMENTS

automatics_known : (types : List TypeTree) (ds : List Automatic) → automatics_are_known types ds ≡ true → AutomaticsAreKnown types ds
automatics_known types [] h = tt
automatics_known types (a ∷ ds) h = (
  type_known (slice_get types a.number) a.name.type (left_true (has_type (slice_get types a.number) a.name.type) (automatics_are_known types ds) h),
  automatics_known types ds (right_true (has_type (slice_get types a.number) a.name.type) (automatics_are_known types ds) h),
)

initial_by : (setting : Setting) (number : ℕ) (name : Label) (o : Option Typed) → initial_is_sound setting name o ≡ true
    → (e : Typed) → o ≡ Some e → InitialIsSound setting (record { number = number; name = name; initialiser = o }) e
initial_by setting number name None h e g = cc
initial_by setting number name (Some f) h e g =
    let i : f ≡ e = cc in
    record {
      name = name_known setting.symbols name.type name.means (left_true (name_is_known setting.symbols name.type name.means) (expression_is_sound setting f) h);
      expression = subst (ExpressionIsSound setting) i (expression_sound setting f (right_true (name_is_known setting.symbols name.type name.means) (expression_is_sound setting f) h));
    }

initialisers_sound : (setting : Setting) (ds : List Automatic) → initialisers_are_sound setting ds ≡ true → InitialisersAreSound setting ds
initialisers_sound setting [] h = tt
initialisers_sound setting (a ∷ ds) h = (
  initial_by setting a.number a.name a.initialiser (left_true (initial_is_sound setting a.name a.initialiser) (initialisers_are_sound setting ds) h),
  initialisers_sound setting ds (right_true (initial_is_sound setting a.name a.initialiser) (initialisers_are_sound setting ds) h),
)

mutual
  statement_sound : (setting : Setting) (types : List TypeTree) (n : Typed) → statement_is_sound setting types n ≡ true → StatementIsSound setting types n
  statement_sound setting types (node kind.Block label parts) h = (
    automatics_known types (declared_in parts) (left_true (automatics_are_known types (declared_in parts)) (statements_are_sound setting types parts) h),
    statements_sound setting types parts (right_true (automatics_are_known types (declared_in parts)) (statements_are_sound setting types parts) h),
  )
  statement_sound setting types (node (kind.Declaration spec inits) label parts) h = initialisers_sound setting (declared_by (node (kind.Declaration spec inits) label parts)) h
  statement_sound setting types (node kind.Expression label (more e none)) h = expression_sound setting e h
  statement_sound setting types (node kind.If label (more test (more first none))) h = (
    expression_sound setting test (left_true (expression_is_sound setting test) (statement_is_sound setting types first) h),
    statement_sound setting types first (right_true (expression_is_sound setting test) (statement_is_sound setting types first) h),
  )
  statement_sound setting types (node kind.If label (more test (more first (more second none)))) h =
      let g = right_true (expression_is_sound setting test) (statement_is_sound setting types first && statement_is_sound setting types second) h in (
        expression_sound setting test (left_true (expression_is_sound setting test) (statement_is_sound setting types first && statement_is_sound setting types second) h),
        statement_sound setting types first (left_true (statement_is_sound setting types first) (statement_is_sound setting types second) g),
        statement_sound setting types second (right_true (statement_is_sound setting types first) (statement_is_sound setting types second) g),
      )
  statement_sound setting types (node kind.While label (more test (more body none))) h = (
    expression_sound setting test (left_true (expression_is_sound setting test) (statement_is_sound setting types body) h),
    statement_sound setting types body (right_true (expression_is_sound setting test) (statement_is_sound setting types body) h),
  )
  statement_sound setting types (node kind.Do label (more body (more test none))) h = (
    expression_sound setting test (left_true (expression_is_sound setting test) (statement_is_sound setting types body) h),
    statement_sound setting types body (right_true (expression_is_sound setting test) (statement_is_sound setting types body) h),
  )
  statement_sound setting types (node (kind.For true test step) label (more first others)) h = (
    expression_sound setting first (left_true (expression_is_sound setting first) (loop_is_sound setting types test step others) h),
    loop_sound setting types test step others (right_true (expression_is_sound setting first) (loop_is_sound setting types test step others) h),
  )
  statement_sound setting types (node (kind.For false test step) label others) h = loop_sound setting types test step others h
  statement_sound setting types (node kind.Switch label (more e arms)) h = (
    expression_sound setting e (left_true (expression_is_sound setting e) (statements_are_sound setting types arms) h),
    statements_sound setting types arms (right_true (expression_is_sound setting e) (statements_are_sound setting types arms) h),
  )
  statement_sound setting types (node kind.Return label (more e none)) h = expression_sound setting e h
  statement_sound setting types (node k label parts) h = tt

  statements_sound : (setting : Setting) (types : List TypeTree) (row : TypedRow) → statements_are_sound setting types row ≡ true → StatementsAreSound setting types row
  statements_sound setting types none h = tt
  statements_sound setting types (more first others) h = (
    statement_sound setting types first (left_true (statement_is_sound setting types first) (statements_are_sound setting types others) h),
    statements_sound setting types others (right_true (statement_is_sound setting types first) (statements_are_sound setting types others) h),
  )

  loop_sound : (setting : Setting) (types : List TypeTree) (test step : Bool) (row : TypedRow) → loop_is_sound setting types test step row ≡ true → LoopIsSound setting types test step row
  loop_sound setting types true true (more test (more step (more body none))) h =
      let g = right_true (expression_is_sound setting test) (expression_is_sound setting step && statement_is_sound setting types body) h in (
        expression_sound setting test (left_true (expression_is_sound setting test) (expression_is_sound setting step && statement_is_sound setting types body) h),
        expression_sound setting step (left_true (expression_is_sound setting step) (statement_is_sound setting types body) g),
        statement_sound setting types body (right_true (expression_is_sound setting step) (statement_is_sound setting types body) g),
      )
  loop_sound setting types true false (more test (more body none)) h = (
    expression_sound setting test (left_true (expression_is_sound setting test) (statement_is_sound setting types body) h),
    statement_sound setting types body (right_true (expression_is_sound setting test) (statement_is_sound setting types body) h),
  )
  loop_sound setting types false true (more step (more body none)) h = (
    expression_sound setting step (left_true (expression_is_sound setting step) (statement_is_sound setting types body) h),
    statement_sound setting types body (right_true (expression_is_sound setting step) (statement_is_sound setting types body) h),
  )
  loop_sound setting types false false (more body none) h = statement_sound setting types body h
  loop_sound setting types test step row h = tt

-- MODULES

item_sound : (m : Source) (o : Option Definition) → item_is_sound m o ≡ true → ItemIsSound m o
item_sound m None h = cc
item_sound m (Some d) h = statement_sound (function_setting m d) (parameter_types d.name.type ++ types_within d.block) d.block h

items_sound : (m : Source) (items : List Typed) → items_are_sound m items ≡ true → ItemsAreSound m items
items_sound m [] h = tt
items_sound m (item ∷ items) h = (
  item_sound m (definition_of item) (left_true (item_is_sound m (definition_of item)) (items_are_sound m items) h),
  items_sound m items (right_true (item_is_sound m (definition_of item)) (items_are_sound m items) h),
)

pub tested_sources_are_sound : TestedSourcesAreSound
tested_sources_are_sound m h = record {
  items = items_sound m (code_items (symbols m)) (left_true (items_are_sound m (code_items (symbols m))) (firsts_are_sound (setting_of m) (data_symbols (symbols m))) h);
  firsts = right_true (items_are_sound m (code_items (symbols m))) (firsts_are_sound (setting_of m) (data_symbols (symbols m))) h;
}

pub examples_are_sound : ExamplesAreSound
unfolding are_sound
examples_are_sound = (refl, (refl, (refl, (refl, (refl, (refl, (refl, (refl, (refl, (refl, (refl, (refl, (refl, (refl, (refl, (refl, (refl, (refl, (refl, (refl, (refl, (refl, (refl, (refl, (refl, (refl, (refl, (refl, (refl, (refl, (refl, (refl, (refl, (refl, (refl, (refl, (refl, (refl, (refl, (refl, (refl, (refl, (refl, (refl, (refl, tt)))))))))))))))))))))))))))))))))))))))))))))
