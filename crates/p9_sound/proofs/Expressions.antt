-- A typed expression is sound, where it is plain.
use Rattle.std.proofs.Common.{◌≡◌, true, false, List, [], ◌∷◌, map, Some, refl, sym, ap, ◌∙◌}
use Rattle.p9_lang.specs.declared.tree.CBinary.{CBinary}
use Rattle.p9_lang.specs.declared.tree.CBinary.TheVariants as operator
use Rattle.p9_lang.specs.declared.tree.Kind.{Kind}
use Rattle.p9_lang.specs.declared.tree.Kind.TheVariants as kind
use Rattle.p9_lang.specs.Trees.{node, none, more}
use Rattle.p9_lang.specs.Types.{TypeTree, Pointer, Tags}
use Rattle.p9_lang.specs.Layout.{size_of, is_complete, has_layout}
use Rattle.p9_lang.specs.Conversions.{decayed}
use Rattle.p9_lang.specs.Constants.{Operand, type_at, constant_of, constants_of}
use Rattle.p9_lang.specs.Expressions.{verdict}
use Rattle.p9_lang.specs.Modules.{Label, Typed, TypedRow}
use Rattle.p9_cmean.specs.Expressions.{operand_type}
use Rattle.p9_cmean.specs.ConstantLaws.{LeafIsAlone}
use Rattle.p9_lower.specs.Names.{Setting}
use Rattle.p9_lower.specs.Premises.{is_size, operands_are_sound, update_is_sound, NodeIsSound, NodesAreSound, RowIsSound}
use Rattle.p9_lower.specs.Verdicts.{is_assigning}
use Rattle.p9_lower.proofs.Verdicts.{updates_are_sound, differences_are_complete}
use Rattle.p9_sound.specs.Nodes.{has_verdict, valued, IsJudged, TreeIsTyped, RowIsTyped}
use Rattle.p9_sound.specs.Constants.{NameIsInteger, NamesAreIntegers, AllNamesAreIntegers, LeavesAreAlone, AllLeavesAreAlone}
use Rattle.p9_sound.specs.Expressions.{HasSize, NodeIsPlain, TreeIsPlain, RowIsPlain, TypedExpressionsAreSound}
use Rattle.p9_sound.proofs.Operands.{complete_stays}
use Rattle.p9_sound.proofs.Constants.{typed_constants_are_integers}

-- TWO OPERANDS, which the parts are

record Two (tags : Tags) (left right : Typed) (os : List Operand) : Type 0 where
  first : Operand
  second : Operand
  are : os ≡ first ∷ (second ∷ [])
  left_type : type_at left ≡ first.type
  right_type : type_at right ≡ second.type

two : (tags : Tags) (left right : Typed) (os : List Operand) → constants_of tags (more left (more right none)) ≡ map valued os → Two tags left right os
two tags left right [] e = cc
two tags left right (a ∷ []) e = cc
two tags left right (a ∷ (b ∷ [])) e =
    let x : record { type = type_at left; is_lvalue = false; constant = constant_of tags left } ≡ valued a = cc in
    let y : record { type = type_at right; is_lvalue = false; constant = constant_of tags right } ≡ valued b = cc in
    record { first = a; second = b; are = refl; left_type = ap (λ o. o.type) x; right_type = ap (λ o. o.type) y }
two tags left right (a ∷ (b ∷ (c ∷ os))) e = cc

-- DIFFERENCES of pointers

difference_by : (tags : Tags) (left right : TypeTree)
    → ((target other : TypeTree) → left ≡ Pointer target → right ≡ Pointer other → is_size (size_of tags target) ≡ true)
    → operands_are_sound tags operator.Sub left right ≡ true
difference_by tags (Pointer target) (Pointer other) h = h target other refl refl
difference_by tags (Pointer target) right h = refl
difference_by tags left right h = refl

complete_later : (tags : Tags) (label : Label) (parts : TypedRow) (k : Kind) (j : IsJudged tags k label parts) (type : TypeTree) → is_complete j.before type ≡ true
    → is_complete tags type ≡ true
complete_later tags label parts k j type h = sym (ap has_layout (complete_stays j.before tags j.bodies j.count type h)) ∙ h

difference_sound : (tags : Tags) (label : Label) (left right : Typed) → IsJudged tags (kind.Binary operator.Sub) label (more left (more right none))
    → HasSize tags (operand_type left) → operands_are_sound tags operator.Sub (operand_type left) (operand_type right) ≡ true
difference_sound tags label left right j size =
    let x = two tags left right j.operands j.are in
    difference_by tags (operand_type left) (operand_type right)
    (λ target other a b.
    size target a
    (complete_later tags label (more left (more right none)) (kind.Binary operator.Sub) j target
    (differences_are_complete j.before j.is_statement x.first x.second target other j.outcome
    (ap decayed (sym x.left_type) ∙ a) (ap decayed (sym x.right_type) ∙ b)
    (ap (λ os. verdict j.before j.is_statement (kind.Binary operator.Sub) os) (sym x.are) ∙ j.taken))))

binary_sound : (setting : Setting) (op : CBinary) (label : Label) (left right : Typed) → IsJudged setting.tags (kind.Binary op) label (more left (more right none))
    → NodeIsPlain setting (kind.Binary op) label (more left (more right none))
    → operands_are_sound setting.tags op (operand_type left) (operand_type right) ≡ true
binary_sound setting operator.Sub label left right j h = difference_sound setting.tags label left right j h
binary_sound setting op label left right j h = refl

-- UPDATES

update_sound : (tags : Tags) (op : CBinary) (label : Label) (left right : Typed) → is_assigning op ≡ true → IsJudged tags (kind.Assign (Some op)) label (more left (more right none))
    → update_is_sound op (type_at left) (operand_type right) ≡ true
update_sound tags op label left right h j =
    let x = two tags left right j.operands j.are in
    ap (λ type. update_is_sound op type (operand_type right)) x.left_type
    ∙ ap (λ type. update_is_sound op x.first.type (decayed type)) x.right_type
    ∙ updates_are_sound j.before j.is_statement op x.first x.second j.outcome h
    (ap (λ os. verdict j.before j.is_statement (kind.Assign (Some op)) os) (sym x.are) ∙ j.taken)

-- ANY NODE

binary_node : (setting : Setting) (op : CBinary) (label : Label) (parts : TypedRow) → IsJudged setting.tags (kind.Binary op) label parts
    → NodeIsPlain setting (kind.Binary op) label parts → NodeIsSound setting (kind.Binary op) label parts
binary_node setting op label none j h = tt
binary_node setting op label (more left none) j h = tt
binary_node setting op label (more left (more right none)) j h = binary_sound setting op label left right j h
binary_node setting op label (more left (more right (more third others))) j h = tt

update_node : (setting : Setting) (op : CBinary) (label : Label) (parts : TypedRow) → IsJudged setting.tags (kind.Assign (Some op)) label parts
    → is_assigning op ≡ true → NodeIsSound setting (kind.Assign (Some op)) label parts
update_node setting op label none j h = tt
update_node setting op label (more left none) j h = tt
update_node setting op label (more left (more right none)) j h = update_sound setting.tags op label left right h j
update_node setting op label (more left (more right (more third others))) j h = tt

node_sound : (setting : Setting) (k : Kind) (label : Label) (parts : TypedRow) → (has_verdict k ≡ true → IsJudged setting.tags k label parts)
    → NodeIsPlain setting k label parts → NodeIsSound setting k label parts
node_sound setting (kind.Name x) label parts j h = h.0
node_sound setting (kind.Text texts) label parts j h = h
node_sound setting (kind.Binary op) label parts j h = binary_node setting op label parts (j refl) h
node_sound setting (kind.Assign (Some op)) label parts j h = update_node setting op label parts (j refl) h
node_sound setting k label parts j h = tt

mutual
  nodes_sound : (setting : Setting) (e : Typed) → TreeIsTyped setting.tags e → TreeIsPlain setting e → NodesAreSound setting e
  nodes_sound setting (node k label parts) t p = (node_sound setting k label parts t.0 p.0, row_sound setting parts t.1 p.1)

  row_sound : (setting : Setting) (parts : TypedRow) → RowIsTyped setting.tags parts → RowIsPlain setting parts → RowIsSound setting parts
  row_sound setting none t p = tt
  row_sound setting (more first others) t p = (nodes_sound setting first t.0 p.0, row_sound setting others t.1 p.1)

-- CONSTANTS

name_integer : (setting : Setting) (k : Kind) (label : Label) (parts : TypedRow) → NodeIsPlain setting k label parts → NameIsInteger k label
name_integer setting (kind.Name x) label parts h = h.1
name_integer setting k label parts h = tt

leaf_alone : (setting : Setting) (k : Kind) (label : Label) (parts : TypedRow) → NodeIsPlain setting k label parts → LeafIsAlone k parts
leaf_alone setting (kind.Name x) label parts h = h.2
leaf_alone setting (kind.Number value unsigned long) label parts h = h
leaf_alone setting (kind.Character value) label parts h = h
leaf_alone setting k label parts h = tt

mutual
  names_integers : (setting : Setting) (e : Typed) → TreeIsPlain setting e → NamesAreIntegers e
  names_integers setting (node k label parts) p = (name_integer setting k label parts p.0, row_names setting parts p.1)

  row_names : (setting : Setting) (parts : TypedRow) → RowIsPlain setting parts → AllNamesAreIntegers parts
  row_names setting none p = tt
  row_names setting (more first others) p = (names_integers setting first p.0, row_names setting others p.1)

mutual
  leaves_alone : (setting : Setting) (e : Typed) → TreeIsPlain setting e → LeavesAreAlone e
  leaves_alone setting (node k label parts) p = (leaf_alone setting k label parts p.0, row_leaves setting parts p.1)

  row_leaves : (setting : Setting) (parts : TypedRow) → RowIsPlain setting parts → AllLeavesAreAlone parts
  row_leaves setting none p = tt
  row_leaves setting (more first others) p = (leaves_alone setting first p.0, row_leaves setting others p.1)

pub typed_expressions_are_sound : TypedExpressionsAreSound
typed_expressions_are_sound setting e t p = record {
  constants = typed_constants_are_integers setting.tags e t (names_integers setting e p) (leaves_alone setting e p);
  nodes = nodes_sound setting e t p;
}
