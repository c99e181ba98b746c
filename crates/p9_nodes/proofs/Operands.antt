-- Constants of nodes beside each other, one after the other.
use Rattle.std.proofs.Common.{◌≡◌, Bool, false, List, [], ◌∷◌, ◌++◌, Option, Some, MatchOption, refl, sym, subst, ap, ◌∙◌, append_assoc, append-nil}
use Rattle.p9_lang.specs.declared.module.Module.{Module}
use Rattle.p9_lang.specs.declared.types.CType.{CType}
use Rattle.p9_lang.specs.Types.{Tags, type_of}
use Rattle.p9_lang.specs.Trees.{node, none, more}
use Rattle.p9_lang.specs.Modules.{Label, Typed, TypedRow}
use Rattle.p9_lang.specs.Constants.{Operand, type_at, constant_at}
use Rattle.p9_lang.specs.Constants as constants
use Rattle.p9_lang.specs.declared.tree.Kind.{Kind}
use Rattle.p9_nodes.specs.declared.nodes.TypedNode.{TypedNode}
use Rattle.p9_nodes.specs.declared.nodes.NodeRow.{NodeRow}
use Rattle.p9_nodes.specs.Nodes.{node_in, row_in}
use Rattle.p9_nodes.specs.Evaluated.{constant_in, operands_in}
use Rattle.p9_operand.specs.declared.operand.Operand as told
use Rattle.p9_operand.specs.declared.operand.Constant.{Constant}
use Rattle.p9_operand.specs.Told.{told_constant, told_operand, told_operands}

told_end : (os : List told.Operand) (o : told.Operand) → told_operands (os ++ o ∷ []) ≡ told_operands os ++ told_operand o ∷ []
told_end [] o = refl
told_end (x ∷ os) o = ap (λ l. told_operand x ∷ l) (told_end os o)

operand_same : (type : CType) (t : Typed) (tags : Tags) (c : Constant) → type_of type ≡ type_at t → told_constant c ≡ constant_in tags t
    → told_operand (record { ty = type; is_lvalue = false; constant = c }) ≡ record { type = type_at t; is_lvalue = false; constant = constant_in tags t }
operand_same type t tags c e h = ap (λ x. record { type = x; is_lvalue = false; constant = told_constant c }) e ∙ ap (λ x. record { type = type_at t; is_lvalue = false; constant = x }) h

pub operands_next : (tags : Tags) (os after : List told.Operand) (type : CType) (c : Constant) (row others : TypedRow) (all : List Operand) (t : Typed)
    → told_operands os ++ operands_in tags row ≡ all → row ≡ more t others
    → after ≡ os ++ record { ty = type; is_lvalue = false; constant = c } ∷ []
    → type_of type ≡ type_at t → told_constant c ≡ constant_in tags t → told_operands after ++ operands_in tags others ≡ all
unfolding operands_in constant_in
operands_next tags os after type c row others all t h r a e k =
    ap (λ l. told_operands l ++ operands_in tags others) a
    ∙ ap (λ l. l ++ operands_in tags others) (told_end os (record { ty = type; is_lvalue = false; constant = c }))
    ∙ append_assoc (told_operands os) (told_operand (record { ty = type; is_lvalue = false; constant = c }) ∷ []) (operands_in tags others)
    ∙ ap (λ x. told_operands os ++ x ∷ operands_in tags others) (operand_same type t tags c e k)
    ∙ ap (λ x. told_operands os ++ operands_in tags x) (sym r)
    ∙ h

pub operands_over : (tags : Tags) (os : List told.Operand) (row : TypedRow) (all : List Operand)
    → told_operands os ++ operands_in tags row ≡ all → row ≡ none → told_operands os ≡ all
unfolding operands_in
operands_over tags os row all h r = sym (append-nil (told_operands os)) ∙ ap (λ x. told_operands os ++ operands_in tags x) (sym r) ∙ h

pub constant_told : (tags : Tags) (k : Kind) (label : Label) (row : TypedRow) (c : constants.Constant) (os : List Operand)
    → c ≡ constant_at tags k label.type label.means os → os ≡ operands_in tags row → c ≡ constant_in tags (node k label row)
unfolding constant_in operands_in
constant_told tags k label row c os h e = h ∙ ap (constant_at tags k label.type label.means) e

-- what is split off
pub split_some : (m : Module) (row : NodeRow) (o : Option (TypedNode × NodeRow)) (p : TypedNode × NodeRow)
    → MatchOption o (row_in m row ≡ none) (λ q. row_in m row ≡ more (node_in m q.0) (row_in m q.1)) → o ≡ Some p
    → row_in m row ≡ more (node_in m p.0) (row_in m p.1)
split_some m row o p h e = subst (λ x. MatchOption x (row_in m row ≡ none) (λ q. row_in m row ≡ more (node_in m q.0) (row_in m q.1))) e h
