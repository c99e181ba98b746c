-- Trees, types and meanings as values of the program.
use Rattle.std.proofs.Common.{◌≡◌, ℕ, List, [], ◌∷◌, refl, ap, sym, ◌∙◌}
use Rattle.p9_first.specs.declared.tree.Node.{Node, roll-Node}
use Rattle.p9_first.specs.declared.types.CType.{CType, fold-roll-CType}
use Rattle.p9_first.specs.declared.types.CType.TheOpen.{CType-F}
use Rattle.p9_first.specs.declared.types.CType.TheVariants as ctype
use Rattle.p9_first.specs.declared.module.Bind.{Bind}
use Rattle.p9_first.specs.declared.module.Bind.TheVariants as bind
use Rattle.p9_first.proofs.Nodes.{syntax_of-roll, type_of-void, type_of-int, type_of-long, type_of-char, type_of-pointer, type_of-array, type_of-function}
use Rattle.p9_first.specs.Trees.{node, none, more, Syntax, SyntaxRow, syntax_of, row_of}
use Rattle.p9_first.specs.Types.{TypeTree, Void, Char, UChar, Short, UShort, Int, UInt, Long, ULong, Pointer, Array, Function, Tagged, TypeRow, type_row, type_step, type_of, types_of, Meant, Nothing, Outer, Static, Auto, EnumValue, TypeName, meant, all_meant}
use Rattle.p9_first.specs.Types as types
use Rattle.p9_first.specs.Typing.{Judged, Has, Breaks, Unknown}
use Rattle.p9_first.specs.Modules.{HaveTypes, judged_type, judged_meaning}

-- Trees

abbrev mutual
  pub node_from : Syntax → Node
  node_from (node k at parts) = roll-Node (record { kind = k; token = at; parts = nodes_from parts })

  pub nodes_from : SyntaxRow → List Node
  nodes_from none = []
  nodes_from (more t ts) = node_from t ∷ nodes_from ts

mutual
  node_is : (t : Syntax) → syntax_of (node_from t) ≡ t
  node_is (node k at parts) =
      syntax_of-roll (record { kind = k; token = at; parts = nodes_from parts }) ∙ ap (node k at) (nodes_are parts)

  pub nodes_are : (ts : SyntaxRow) → row_of (nodes_from ts) ≡ ts
  nodes_are none = refl
  nodes_are (more t ts) = ap (λ x. more x (row_of (nodes_from ts))) (node_is t) ∙ ap (more t) (nodes_are ts)

-- Types

is_uchar : type_of ctype.UChar ≡ UChar
unfolding type_of
is_uchar = ap type_of (sym ctype.rolls-UChar) ∙ fold-roll-CType TypeTree type_step CType-F.UChar

is_short : type_of ctype.Short ≡ Short
unfolding type_of
is_short = ap type_of (sym ctype.rolls-Short) ∙ fold-roll-CType TypeTree type_step CType-F.Short

is_ushort : type_of ctype.UShort ≡ UShort
unfolding type_of
is_ushort = ap type_of (sym ctype.rolls-UShort) ∙ fold-roll-CType TypeTree type_step CType-F.UShort

is_uint : type_of ctype.UInt ≡ UInt
unfolding type_of
is_uint = ap type_of (sym ctype.rolls-UInt) ∙ fold-roll-CType TypeTree type_step CType-F.UInt

is_ulong : type_of ctype.ULong ≡ ULong
unfolding type_of
is_ulong = ap type_of (sym ctype.rolls-ULong) ∙ fold-roll-CType TypeTree type_step CType-F.ULong

is_tagged : (tag : ℕ) → type_of (ctype.Tagged tag) ≡ Tagged tag
unfolding type_of
is_tagged tag = ap type_of (sym (ctype.rolls-Tagged tag)) ∙ fold-roll-CType TypeTree type_step (CType-F.Tagged tag)

abbrev mutual
  pub type_from : TypeTree → CType
  type_from Void = ctype.Void
  type_from Char = ctype.Char
  type_from UChar = ctype.UChar
  type_from Short = ctype.Short
  type_from UShort = ctype.UShort
  type_from Int = ctype.Int
  type_from UInt = ctype.UInt
  type_from Long = ctype.Long
  type_from ULong = ctype.ULong
  type_from (Pointer target) = ctype.Pointer (type_from target)
  type_from (Array element count) = ctype.Array (type_from element) count
  type_from (Function result parameters) = ctype.Function (type_from result) (row_from parameters)
  type_from (Tagged tag) = ctype.Tagged tag

  pub row_from : TypeRow → List CType
  row_from types.none = []
  row_from (types.more t ts) = type_from t ∷ row_from ts

mutual
  type_is : (t : TypeTree) → type_of (type_from t) ≡ t
  type_is Void = type_of-void
  type_is Char = type_of-char
  type_is UChar = is_uchar
  type_is Short = is_short
  type_is UShort = is_ushort
  type_is Int = type_of-int
  type_is UInt = is_uint
  type_is Long = type_of-long
  type_is ULong = is_ulong
  type_is (Pointer target) = type_of-pointer (type_from target) ∙ ap Pointer (type_is target)
  type_is (Array element count) = type_of-array (type_from element) count ∙ ap (λ t. Array t count) (type_is element)
  type_is (Function result parameters) =
      type_of-function (type_from result) (row_from parameters)
      ∙ ap (λ t. Function t (type_row (types_of (row_from parameters)))) (type_is result)
      ∙ ap (Function result) (row_is parameters)
  type_is (Tagged tag) = is_tagged tag

  row_is : (ts : TypeRow) → type_row (types_of (row_from ts)) ≡ ts
  row_is types.none = refl
  row_is (types.more t ts) = ap (λ x. types.more x (type_row (types_of (row_from ts)))) (type_is t) ∙ ap (types.more t) (row_is ts)

-- Meanings

abbrev pub bind_from : Meant → Bind
bind_from Nothing = bind.Nothing
bind_from (Outer name) = bind.Outer name
bind_from (Static number) = bind.Static number
bind_from (Auto number) = bind.Auto number
bind_from (EnumValue value) = bind.EnumValue value
bind_from (TypeName type) = bind.TypeName (type_from type)

meant_is : (m : Meant) → meant (bind_from m) ≡ m
meant_is Nothing = refl
meant_is (Outer name) = refl
meant_is (Static number) = refl
meant_is (Auto number) = refl
meant_is (EnumValue value) = refl
meant_is (TypeName type) = ap TypeName (type_is type)

-- What is judged

abbrev pub all_types : List Judged → List CType
all_types [] = []
all_types (j ∷ js) = type_from (judged_type j) ∷ all_types js

abbrev pub all_binds : List Judged → List Bind
all_binds [] = []
all_binds (j ∷ js) = bind_from (judged_meaning j) ∷ all_binds js

-- each node has a type
abbrev pub AllHave : List Judged → Type 0
AllHave [] = Unit {0}
AllHave (Has type means ∷ js) = AllHave js
AllHave _ = ⊥

pub have_types : (js : List Judged) → AllHave js → HaveTypes js (types_of (all_types js)) (all_meant (all_binds js))
have_types [] h = (refl, refl)
have_types (Has type means ∷ js) h = (type_is type, meant_is means, have_types js h)
have_types (Breaks rule ∷ js) h = absurd h
have_types (Unknown ∷ js) h = absurd h
