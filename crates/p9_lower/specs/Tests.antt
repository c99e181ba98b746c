-- A test of what the law of typed modules asks.
use Rattle.std.specs.Prelude.{◌≡◌, ◌&&◌, Bool, true, false, not, List, [], ◌∷◌, ◌++◌, slice_get, Option, Some, None}
use Rattle.p9_lang.specs.declared.tree.Kind.{Kind}
use Rattle.p9_lang.specs.declared.tree.Kind.TheVariants as kind
use Rattle.p9_lang.specs.Types.{TypeTree, Meant, Nothing, Outer, Static, Auto, EnumValue, TypeName}
use Rattle.p9_lang.specs.Trees.{node, none, more}
use Rattle.p9_lang.specs.Conversions.{is_function, same_type}
use Rattle.p9_lang.specs.Constants.{type_at}
use Rattle.p9_lang.specs.Modules.{Label, Typed, TypedRow, Source}
use Rattle.p9_lang.specs.Symbols.{Symbol, symbols}
use Rattle.p9_cmean.specs.ConstantLaws.{constants_are_typed}
use Rattle.p9_cmean.specs.Declarations.{Automatic, declared_by, declared_in, Definition, definition_of}
use Rattle.p9_cmean.specs.Expressions.{operand_type}
use Rattle.p9_cmean.specs.Union.{parameter_types, types_within}
use Rattle.p9_tree.specs.Means.{data_symbols, code_items}
use Rattle.p9_lower.specs.Names.{Setting, outer_symbol, static_symbol}
use Rattle.p9_lower.specs.Modules.{setting_of}
use Rattle.p9_lower.specs.Keeping.{is_function_at}
use Rattle.p9_lower.specs.Premises.{operands_are_sound, update_is_sound, function_setting, firsts_are_sound, SourceIsSound}

-- EXPRESSIONS

abbrev pub answers : Option Bool → Bool → Bool
answers None b = false
answers (Some true) b = b
answers (Some false) b = not b

abbrev pub name_is_known : List Symbol → TypeTree → Meant → Bool
name_is_known symbols type Nothing = true
name_is_known symbols type (Outer name) = answers (is_function_at symbols (outer_symbol symbols name)) (is_function type)
name_is_known symbols type (Static number) = answers (is_function_at symbols (static_symbol symbols number)) false
name_is_known symbols type (Auto number) = true
name_is_known symbols type (EnumValue value) = true
name_is_known symbols type (TypeName other) = true

abbrev pub node_is_sound : Setting → Kind → Label → TypedRow → Bool
node_is_sound setting (kind.Name x) label parts = name_is_known setting.symbols label.type label.means
node_is_sound setting (kind.Text texts) label parts = name_is_known setting.symbols label.type label.means
node_is_sound setting (kind.Binary op) label (more left (more right none)) =
    operands_are_sound setting.tags op (operand_type left) (operand_type right)
node_is_sound setting (kind.Assign (Some op)) label (more left (more right none)) = update_is_sound op (type_at left) (operand_type right)
node_is_sound setting k label parts = true

abbrev mutual
  pub nodes_are_sound : Setting → Typed → Bool
  nodes_are_sound setting (node k label parts) = node_is_sound setting k label parts && row_is_sound setting parts

  pub row_is_sound : Setting → TypedRow → Bool
  row_is_sound setting none = true
  row_is_sound setting (more first others) = nodes_are_sound setting first && row_is_sound setting others

abbrev pub expression_is_sound : Setting → Typed → Bool
expression_is_sound setting e = constants_are_typed setting.tags e && nodes_are_sound setting e

-- STATEMENTS

abbrev pub has_type : Option TypeTree → TypeTree → Bool
has_type None type = false
has_type (Some other) type = same_type other type

abbrev pub automatics_are_known : List TypeTree → List Automatic → Bool
automatics_are_known types [] = true
automatics_are_known types (a ∷ others) = has_type (slice_get types a.number) a.name.type && automatics_are_known types others

abbrev pub initial_is_sound : Setting → Label → Option Typed → Bool
initial_is_sound setting name None = true
initial_is_sound setting name (Some e) = name_is_known setting.symbols name.type name.means && expression_is_sound setting e

abbrev pub initialisers_are_sound : Setting → List Automatic → Bool
initialisers_are_sound setting [] = true
initialisers_are_sound setting (a ∷ others) = initial_is_sound setting a.name a.initialiser && initialisers_are_sound setting others

abbrev mutual
  pub statement_is_sound : Setting → List TypeTree → Typed → Bool
  statement_is_sound setting types (node kind.Block label parts) = automatics_are_known types (declared_in parts) && statements_are_sound setting types parts
  statement_is_sound setting types (node (kind.Declaration spec inits) label parts) =
      initialisers_are_sound setting (declared_by (node (kind.Declaration spec inits) label parts))
  statement_is_sound setting types (node kind.Expression label (more e none)) = expression_is_sound setting e
  statement_is_sound setting types (node kind.If label (more test (more first none))) =
      expression_is_sound setting test && statement_is_sound setting types first
  statement_is_sound setting types (node kind.If label (more test (more first (more second none)))) =
      expression_is_sound setting test && (statement_is_sound setting types first && statement_is_sound setting types second)
  statement_is_sound setting types (node kind.While label (more test (more body none))) =
      expression_is_sound setting test && statement_is_sound setting types body
  statement_is_sound setting types (node kind.Do label (more body (more test none))) =
      expression_is_sound setting test && statement_is_sound setting types body
  statement_is_sound setting types (node (kind.For true test step) label (more first others)) =
      expression_is_sound setting first && loop_is_sound setting types test step others
  statement_is_sound setting types (node (kind.For false test step) label others) = loop_is_sound setting types test step others
  statement_is_sound setting types (node kind.Switch label (more e arms)) = expression_is_sound setting e && statements_are_sound setting types arms
  statement_is_sound setting types (node kind.Return label (more e none)) = expression_is_sound setting e
  statement_is_sound setting types (node k label parts) = true

  pub statements_are_sound : Setting → List TypeTree → TypedRow → Bool
  statements_are_sound setting types none = true
  statements_are_sound setting types (more first others) = statement_is_sound setting types first && statements_are_sound setting types others

  pub loop_is_sound : Setting → List TypeTree → (test step : Bool) → TypedRow → Bool
  loop_is_sound setting types true true (more test (more step (more body none))) =
      expression_is_sound setting test && (expression_is_sound setting step && statement_is_sound setting types body)
  loop_is_sound setting types true false (more test (more body none)) = expression_is_sound setting test && statement_is_sound setting types body
  loop_is_sound setting types false true (more step (more body none)) = expression_is_sound setting step && statement_is_sound setting types body
  loop_is_sound setting types false false (more body none) = statement_is_sound setting types body
  loop_is_sound setting types test step others = true

-- MODULES

abbrev pub item_is_sound : Source → Option Definition → Bool
item_is_sound m None = false
item_is_sound m (Some d) = statement_is_sound (function_setting m d) (parameter_types d.name.type ++ types_within d.block) d.block

abbrev pub items_are_sound : Source → List Typed → Bool
items_are_sound m [] = true
items_are_sound m (item ∷ items) = item_is_sound m (definition_of item) && items_are_sound m items

abbrev pub source_is_sound : Source → Bool
source_is_sound m = items_are_sound m (code_items (symbols m)) && firsts_are_sound (setting_of m) (data_symbols (symbols m))

-- A source that passes the test is as the law asks.
abbrev pub TestedSourcesAreSound : Type 0
TestedSourcesAreSound = (m : Source) → source_is_sound m ≡ true → SourceIsSound m
