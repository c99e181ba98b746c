-- What the law of trees asks of the nodes of a source, which typing leaves in each valid module.
use Rattle.std.specs.Prelude.{◌≡◌, ℕ, ◌+◌, ◌==◌, ◌&&◌, ◌||◌, length, Result, Ok, Err, Bool, true, false, not, nat_lt, nat_le, List, [], ◌∷◌, ◌++◌, slice_get, Option, Some, None}
use Rattle.p9_lang.specs.declared.tree.CBinary.{CBinary}
use Rattle.p9_lang.specs.declared.tree.CBinary.TheVariants as operator
use Rattle.p9_lang.specs.declared.tree.Kind.{Kind}
use Rattle.p9_lang.specs.declared.tree.Kind.TheVariants as kind
use Rattle.p9_lang.specs.Trees.{node, none, more}
use Rattle.p9_lang.specs.Types.{TypeTree, Pointer, Tags, Meant, Nothing, Outer, Static, Auto, EnumValue, TypeName}
use Rattle.p9_lang.specs.Layout.{size_of, size_limit}
use Rattle.p9_lang.specs.Conversions.{is_integer, is_pointer, is_function, Conversion, Same, Integer, Null, Inner, Ambiguous, No}
use Rattle.p9_lang.specs.Constants.{type_at}
use Rattle.p9_lang.specs.Initialisers.{Content, Word, AddressOf, Bytes, Write, BrokenItem}
use Rattle.p9_lang.specs.Symbols.{Symbol, symbols}
use Rattle.p9_lang.specs.Modules.{Label, Typed, TypedRow, Source}
use Rattle.p9_cmean.specs.ConstantLaws.{ConstantsAreTyped}
use Rattle.p9_cmean.specs.Declarations.{Automatic, declared_by, declared_in, Definition, definition_of}
use Rattle.p9_cmean.specs.Union.{parameter_types, types_within}
use Rattle.p9_cmean.specs.Expressions.{operand_type}
use Rattle.p9_lower.specs.Names.{Setting, outer_symbol, static_symbol}
use Rattle.p9_lower.specs.Modules.{setting_of, result_of, base_symbol}
use Rattle.p9_tree.specs.Means.{DataSymbol, data_symbols, code_items}
use Rattle.p9_lower.specs.Keeping.{is_function_at}

-- OPERATORS

-- the size of a complete type
abbrev pub is_size : ℕ → Bool
is_size size = nat_lt 0 size && nat_le size size_limit

-- all operators of two operands but `&&` and `||`
abbrev pub works_on_words : CBinary → Bool
works_on_words operator.AndAnd = false
works_on_words operator.OrOr = false
works_on_words op = true

-- Pointers differ by whole elements of a complete type.
abbrev pub operands_are_sound : Tags → CBinary → (left right : TypeTree) → Bool
operands_are_sound tags operator.Sub (Pointer target) (Pointer other) = is_size (size_of tags target)
operands_are_sound tags op left right = true

-- `op=` changes an integer by an integer, and a pointer by a number of elements
abbrev pub is_additive : CBinary → Bool
is_additive operator.Add = true
is_additive operator.Sub = true
is_additive op = false

abbrev pub update_is_sound : CBinary → (type right : TypeTree) → Bool
update_is_sound op (Pointer target) right = is_additive op && not (is_pointer right)
update_is_sound op type right = works_on_words op && not (is_pointer right)

-- CONVERSIONS

-- what `op=` assigns is an operation's result
abbrev pub is_plain : Conversion → Bool
is_plain Same = true
is_plain Integer = true
is_plain Null = false
is_plain (Inner offset) = false
is_plain Ambiguous = true
is_plain No = true

-- NAMES have symbols, which are functions where the names are
abbrev pub NameIsKnown : List Symbol → TypeTree → Meant → Type 0
NameIsKnown symbols type Nothing = Unit {0}
NameIsKnown symbols type (Outer name) = is_function_at symbols (outer_symbol symbols name) ≡ Some (is_function type)
NameIsKnown symbols type (Static number) = is_function_at symbols (static_symbol symbols number) ≡ Some false
NameIsKnown symbols type (Auto number) = Unit {0}
NameIsKnown symbols type (EnumValue value) = Unit {0}
NameIsKnown symbols type (TypeName other) = Unit {0}

-- EXPRESSIONS

abbrev pub NodeIsSound : Setting → Kind → Label → TypedRow → Type 0
NodeIsSound setting (kind.Name x) label parts = NameIsKnown setting.symbols label.type label.means
NodeIsSound setting (kind.Text texts) label parts = NameIsKnown setting.symbols label.type label.means
NodeIsSound setting (kind.Binary op) label (more left (more right none)) =
    operands_are_sound setting.tags op (operand_type left) (operand_type right) ≡ true
NodeIsSound setting (kind.Assign (Some op)) label (more left (more right none)) = update_is_sound op (type_at left) (operand_type right) ≡ true
NodeIsSound setting k label parts = Unit {0}

abbrev mutual
  pub NodesAreSound : Setting → Typed → Type 0
  NodesAreSound setting (node k label parts) = NodeIsSound setting k label parts × RowIsSound setting parts

  pub RowIsSound : Setting → TypedRow → Type 0
  RowIsSound setting none = Unit {0}
  RowIsSound setting (more first others) = NodesAreSound setting first × RowIsSound setting others

pub record ExpressionIsSound (setting : Setting) (e : Typed) : Type 0 where
  pub constants : ConstantsAreTyped setting.tags e
  pub nodes : NodesAreSound setting e

-- STATEMENTS, of a function whose automatics have these types

abbrev pub AutomaticsAreKnown : List TypeTree → List Automatic → Type 0
AutomaticsAreKnown types [] = Unit {0}
AutomaticsAreKnown types (a ∷ others) = (slice_get types a.number ≡ Some a.name.type) × AutomaticsAreKnown types others

pub record InitialIsSound (setting : Setting) (a : Automatic) (e : Typed) : Type 0 where
  pub name : NameIsKnown setting.symbols a.name.type a.name.means
  pub expression : ExpressionIsSound setting e

abbrev pub InitialisersAreSound : Setting → List Automatic → Type 0
InitialisersAreSound setting [] = Unit {0}
InitialisersAreSound setting (a ∷ others) =
    ((e : Typed) → a.initialiser ≡ Some e → InitialIsSound setting a e) × InitialisersAreSound setting others

abbrev mutual
  pub StatementIsSound : Setting → List TypeTree → Typed → Type 0
  StatementIsSound setting types (node kind.Block label parts) = AutomaticsAreKnown types (declared_in parts) × StatementsAreSound setting types parts
  StatementIsSound setting types (node (kind.Declaration spec inits) label parts) =
      InitialisersAreSound setting (declared_by (node (kind.Declaration spec inits) label parts))
  StatementIsSound setting types (node kind.Expression label (more e none)) = ExpressionIsSound setting e
  StatementIsSound setting types (node kind.If label (more test (more first none))) =
      ExpressionIsSound setting test × StatementIsSound setting types first
  StatementIsSound setting types (node kind.If label (more test (more first (more second none)))) =
      ExpressionIsSound setting test × StatementIsSound setting types first × StatementIsSound setting types second
  StatementIsSound setting types (node kind.While label (more test (more body none))) =
      ExpressionIsSound setting test × StatementIsSound setting types body
  StatementIsSound setting types (node kind.Do label (more body (more test none))) =
      ExpressionIsSound setting test × StatementIsSound setting types body
  StatementIsSound setting types (node (kind.For true test step) label (more first others)) =
      ExpressionIsSound setting first × LoopIsSound setting types test step others
  StatementIsSound setting types (node (kind.For false test step) label others) = LoopIsSound setting types test step others
  StatementIsSound setting types (node kind.Switch label (more e arms)) = ExpressionIsSound setting e × StatementsAreSound setting types arms
  StatementIsSound setting types (node kind.Return label (more e none)) = ExpressionIsSound setting e
  StatementIsSound setting types (node k label parts) = Unit {0}

  pub StatementsAreSound : Setting → List TypeTree → TypedRow → Type 0
  StatementsAreSound setting types none = Unit {0}
  StatementsAreSound setting types (more first others) = StatementIsSound setting types first × StatementsAreSound setting types others

  pub LoopIsSound : Setting → List TypeTree → (test step : Bool) → TypedRow → Type 0
  LoopIsSound setting types true true (more test (more step (more body none))) =
      ExpressionIsSound setting test × ExpressionIsSound setting step × StatementIsSound setting types body
  LoopIsSound setting types true false (more test (more body none)) = ExpressionIsSound setting test × StatementIsSound setting types body
  LoopIsSound setting types false true (more step (more body none)) = ExpressionIsSound setting step × StatementIsSound setting types body
  LoopIsSound setting types false false (more body none) = StatementIsSound setting types body
  LoopIsSound setting types test step others = Unit {0}

-- MODULES: each item of a function has a block, whose statements are sound

abbrev pub function_setting : Source → Definition → Setting
function_setting m d = record (setting_of m) { result = result_of d.name.type }

abbrev pub ItemIsSound : Source → Option Definition → Type 0
ItemIsSound m None = ⊥
ItemIsSound m (Some d) = StatementIsSound (function_setting m d) (parameter_types d.name.type ++ types_within d.block) d.block

abbrev pub ItemsAreSound : Source → List Typed → Type 0
ItemsAreSound m [] = Unit {0}
ItemsAreSound m (item ∷ items) = ItemIsSound m (definition_of item) × ItemsAreSound m items

-- FIRST CONTENTS of an object of this size: each write lies inside. A number is an integer's, or 0; an
-- address is a pointer's, and its symbol is there; a string literal has bytes, and at least one.

abbrev pub are_bytes : List ℕ → Bool
are_bytes [] = true
are_bytes (byte ∷ bytes) = nat_lt byte 256 && are_bytes bytes

abbrev pub is_empty : List ℕ → Bool
is_empty [] = true
is_empty (byte ∷ bytes) = false

abbrev pub is_found : Option ℕ → Bool
is_found None = false
is_found (Some number) = true

abbrev pub lies_inside : (size offset length : ℕ) → Bool
lies_inside size offset length = nat_le (offset + length) size

abbrev pub content_is_sound : Setting → (size offset : ℕ) → TypeTree → Content → Bool
content_is_sound setting size offset type (Word word) = (is_integer type || (word == 0)) && lies_inside size offset (size_of setting.tags type)
content_is_sound setting size offset type (AddressOf base moved) =
    is_pointer type && (is_found (base_symbol setting base) && lies_inside size offset 4)
content_is_sound setting size offset type (Bytes bytes) =
    are_bytes bytes && (not (is_empty bytes) && lies_inside size offset (length bytes))

abbrev pub writes_are_sound : Setting → (size : ℕ) → List Write → Bool
writes_are_sound setting size [] = true
writes_are_sound setting size (w ∷ ws) = content_is_sound setting size w.offset w.type w.content && writes_are_sound setting size ws

abbrev pub first_is_sound : Setting → (size : ℕ) → Result (List Write) BrokenItem → Bool
first_is_sound setting size (Ok writes) = writes_are_sound setting size writes
first_is_sound setting size (Err broken) = true

abbrev pub firsts_are_sound : Setting → List DataSymbol → Bool
firsts_are_sound setting [] = true
firsts_are_sound setting (d ∷ ds) = first_is_sound setting (size_of setting.tags d.symbol.type) d.first && firsts_are_sound setting ds

pub record SourceIsSound (m : Source) : Type 0 where
  pub items : ItemsAreSound m (code_items (symbols m))
  pub firsts : firsts_are_sound (setting_of m) (data_symbols (symbols m)) ≡ true
