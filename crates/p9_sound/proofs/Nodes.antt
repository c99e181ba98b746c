-- The recursion of typing: each node of an expression was taken by the table.
use Rattle.std.proofs.Common.{◌≡◌, ℕ, suc, ◌+◌, Bool, true, false, if◌then◌else◌, not, ◌&&◌, List, [], ◌∷◌, ◌++◌, length, map, append_assoc, append-nil, Option, Some, None, Result, Ok, Err, refl, sym, ap, subst, ◌∙◌}
use Rattle.p9_lang.specs.declared.tree.Kind.{Kind}
use Rattle.p9_lang.specs.declared.tree.Kind.TheVariants as kind
use Rattle.p9_lang.specs.declared.tree.EntryBy.{EntryBy}
use Rattle.p9_lang.specs.Trees.{node, none, more, Syntax, SyntaxRow}
use Rattle.p9_lang.specs.Types.{TypeTree, Void, Int, Meant, Nothing, Static, TypeName, type_row, Tags}
use Rattle.p9_lang.specs.Rules.{Rule, BadConstant, breaks_if, Undeclared, and_then}
use Rattle.p9_lang.specs.Scopes.{Known, Declared, known_first, with_node, next_node, innermost, in_levels, close_level, close_block}
use Rattle.p9_lang.specs.Parts.{Role, EntryOf, Context, file_context, Part, Value, Declarator, Members, Enumerator, Parameter, NamedType, Braced, Filled, CaseLabel, Statement, DefaultLabel, Frame, kind_at, object_type, last_object, inner_steps, declared_members, or_unnamed, parameter_types, positions, first_constant}
use Rattle.p9_lang.specs.Declarators.{Names, Keeps, Points, Sized, Unsized, Takes, adjusted}
use Rattle.p9_lang.specs.Layout.{is_within_limit}
use Rattle.p9_lang.specs.Conversions.{is_function}
use Rattle.p9_lang.specs.Constants.{Operand, NotConstant, type_at, constant_at, constant_of, constants_of}
use Rattle.p9_lang.specs.Expressions.{Verdict, verdict}
use Rattle.p9_lang.specs.Modules.{Label, Typed, TypedRow, label_of, typed, typed_row}
use Rattle.p9_lang.specs.Opening.{opened, context}
use Rattle.p9_lang.specs.Entries.{constant_or_zero, entry_rules, filled_type, entry_role, entry_position}
use Rattle.p9_lang.specs.Declaring.{broken_rules, behind}
use Rattle.p9_lang.specs.Typing.{has, typeless, step_at, operand, operands_of, judged_as, judged_expression, judged_brackets, judged_name, judged_enumerator, judged_entry, spec_rules, is_usable, is_enumerator, is_whole, is_filled_by_text, is_block_static, text_type, judged, judge, judge_parts, judge_items, role_rules}
use Rattle.p9_lang.specs.Files.{Typing, typing_of, names_with_bodies}
use Rattle.p9_lang.proofs.Growing.{Grows}
use Rattle.p9_lang.proofs.Counting.{then_of, unless_of}
use Rattle.p9_sound.specs.Labels.{AreKnown, is_open}
use Rattle.p9_sound.specs.Nodes.{has_verdict, valued, IsJudged, TreeIsTyped, RowIsTyped, NodesAreTyped}
use Rattle.p9_sound.proofs.Numbering.{kinds_after, kinds_after_row, extends_self, extends_last, extends_tree, extends_row}
use Rattle.p9_sound.proofs.Staying.{Stays, still, then_stays, alike_known, AllHaveOpen, judged_adds}
use Rattle.p9_sound.proofs.Closing.{opened_alike}
use Rattle.p9_sound.proofs.Labels.{with_rules_is, tree_stays, row_stays, part_stays}
use Rattle.p9_sound.proofs.Ending.{Later, before_later, length_after, length_after_row, last_type, last_means, file_later}
use Rattle.p9_sound.proofs.Operands.{IsOperand, AreOperands, one_operand_more, operands_are, operands_in, behind_operand, constant_stays}

-- A NODE that the table takes

pub record Took (k : Kind) (parts : List Part) (s : Known) (r : Part × Known) : Type 0 where
  pub is_statement : Bool
  pub operands : List Operand
  pub outcome : Verdict
  pub are : operands_of parts ≡ Some operands
  pub taken : verdict s.tags is_statement k operands ≡ Ok outcome
  pub part : r.0 ≡ Value (operand outcome.type outcome.is_lvalue (constant_at s.tags k outcome.type Nothing operands))
  pub known : with_node outcome.type Nothing s ≡ r.1

as_took : (k : Kind) (parts : List Part) (is_statement : Bool) (operands : List Operand) (m : Result Verdict Rule) (s : Known) (r : Part × Known)
    → operands_of parts ≡ Some operands → verdict s.tags is_statement k operands ≡ m → judged_as k operands m s ≡ Ok r → Took k parts s r
as_took k parts is_statement operands (Ok v) s r a m e =
    let z = unless_of (broken_rules (next_node s) [])
    (Value (operand v.type v.is_lvalue (constant_at s.tags k v.type Nothing operands)), with_node v.type Nothing s) r e in
    record {
      is_statement = is_statement;
      operands = operands;
      outcome = v;
      are = a;
      taken = m;
      part = ap (λ x. x.0) (sym z);
      known = ap (λ x. x.1) z;
    }
as_took k parts is_statement operands (Err rule) s r a m e = cc

took_by : (k : Kind) (parts : List Part) (role : Role) (o : Option (List Operand)) (s : Known) (r : Part × Known) → operands_of parts ≡ o
    → judged_expression k role o s ≡ Ok r → Took k parts s r
took_by k parts role None s r a e = cc
took_by k parts role (Some operands) s r a e =
    as_took k parts (is_whole role) operands (verdict s.tags (is_whole role) k operands) s r a refl e

took : (k : Kind) (parts : List Part) (role : Role) (s : Known) (r : Part × Known) → judged_expression k role (operands_of parts) s ≡ Ok r → Took k parts s r
took k parts role s r e = took_by k parts role (operands_of parts) s r refl e

pub node_took : (k : Kind) (f : Frame) (parts : List Part) (s : Known) (r : Part × Known) → has_verdict k ≡ true → judged k f parts s ≡ Ok r → Took k parts s r
node_took kind.Index f parts s r h e = took kind.Index parts f.context.role s r e
node_took kind.Call f parts s r h e = took kind.Call parts f.context.role s r e
node_took (kind.Dot arrow x) f parts s r h e = took (kind.Dot arrow x) parts f.context.role s r e
node_took (kind.Post minus) f parts s r h e = took (kind.Post minus) parts f.context.role s r e
node_took (kind.Pre minus) f parts s r h e = took (kind.Pre minus) parts f.context.role s r e
node_took (kind.Unary op) f parts s r h e = took (kind.Unary op) parts f.context.role s r e
node_took kind.SizeofValue f parts s r h e = took kind.SizeofValue parts f.context.role s r e
node_took kind.SizeofType f parts s r h e = took kind.SizeofType parts f.context.role s r e
node_took kind.Cast f parts s r h e = took kind.Cast parts f.context.role s r e
node_took (kind.Binary op) f parts s r h e = took (kind.Binary op) parts f.context.role s r e
node_took kind.Choose f parts s r h e = took kind.Choose parts f.context.role s r e
node_took (kind.Assign op) f parts s r h e = took (kind.Assign op) parts f.context.role s r e
node_took kind.Comma f parts s r h e = took kind.Comma parts f.context.role s r e
node_took kind.Parens f parts s r h e = took kind.Parens parts f.context.role s r e
node_took (kind.Number value unsigned long) f parts s r h e = took (kind.Number value unsigned long) parts f.context.role s r e
node_took (kind.Character value) f parts s r h e = took (kind.Character value) parts f.context.role s r e
node_took k f parts s r h e = cc

verdict_shut : (k : Kind) → has_verdict k ≡ true → is_open k ≡ false
verdict_shut (kind.DeclName x) h = cc
verdict_shut (kind.Star volatiles) h = cc
verdict_shut (kind.Brackets inner sized) h = cc
verdict_shut (kind.Params inner void_word) h = cc
verdict_shut kind.DeclParens h = cc
verdict_shut (kind.EnumConst x valued) h = cc
verdict_shut k h = refl

-- WHAT A NODE IS in the end: its label and its parts, behind nodes of these kinds

abbrev label_at : Typing → List Kind → ℕ → Label
label_at t kinds at = label_of t.types t.means (length kinds) at

abbrev operand_of : Typing → Kind → Label → TypedRow → Operand
operand_of t k label row = operand label.type false (constant_at t.tags k label.type label.means (constants_of t.tags row))

node_judged : (kinds : List Kind) (k : Kind) (parts : List Part) (s : Known) (r : Part × Known) (t : Typing) (at : ℕ) (row : TypedRow) → has_verdict k ≡ true
    → AreKnown kinds s → Took k parts s r → Later kinds s t → Later (kinds ++ k ∷ []) r.1 t → AreOperands (constants_of t.tags row) parts
    → IsJudged t.tags k (label_at t kinds at) row
node_judged kinds k parts s r t at row v h x l m o =
    let c = verdict_shut k v in
    let g = l.grows in
    record {
      before = s.tags;
      is_statement = x.is_statement;
      operands = x.operands;
      outcome = x.outcome;
      bodies = g.bodies;
      count = g.count;
      are = operands_in (constants_of t.tags row) parts x.operands o (operands_are parts x.operands x.are);
      taken = x.taken;
      type = last_type kinds k s r.1 t x.outcome.type Nothing h c x.known m;
      means = last_means kinds k s r.1 t x.outcome.type Nothing h c x.known m;
    }

judged_operand : (t : Typing) (k : Kind) (label : Label) (row : TypedRow) (s : Known) → Grows s.tags t.tags → (operands : List Operand) (is_statement : Bool) (v : Verdict)
    → has_verdict k ≡ true → verdict s.tags is_statement k operands ≡ Ok v → label.type ≡ v.type → label.means ≡ Nothing → constants_of t.tags row ≡ map valued operands
    → operand_of t k label row ≡ operand v.type false (constant_at s.tags k v.type Nothing operands)
judged_operand t k label row s g operands is_statement v h e type means are =
    ap (λ x. operand x false (constant_at t.tags k x label.means (constants_of t.tags row))) type
    ∙ ap (λ x. operand v.type false (constant_at t.tags k v.type x (constants_of t.tags row))) means
    ∙ ap (λ xs. operand v.type false (constant_at t.tags k v.type Nothing xs)) are
    ∙ ap (λ c. operand v.type false c) (sym (constant_stays s.tags t.tags g.bodies g.count k is_statement operands v h e))

took_operand : (kinds : List Kind) (k : Kind) (parts : List Part) (s : Known) (r : Part × Known) (t : Typing) (at : ℕ) (row : TypedRow) → has_verdict k ≡ true
    → AreKnown kinds s → Took k parts s r → Later kinds s t → Later (kinds ++ k ∷ []) r.1 t → AreOperands (constants_of t.tags row) parts
    → IsOperand (operand_of t k (label_at t kinds at) row) r.0
took_operand kinds k parts s r t at row v h x l m o =
    let c = verdict_shut k v in
    subst (λ p. IsOperand (operand_of t k (label_at t kinds at) row) p) (sym x.part)
    (judged_operand t k (label_at t kinds at) row s l.grows x.operands x.is_statement x.outcome v x.taken
    (last_type kinds k s r.1 t x.outcome.type Nothing h c x.known m)
    (last_means kinds k s r.1 t x.outcome.type Nothing h c x.known m)
    (operands_in (constants_of t.tags row) parts x.operands o (operands_are parts x.operands x.are)))

-- a node that is no expression
no_operand : (x : Operand) (rules : List Rule) (type : TypeTree) (means : Meant) (part : Part) (s : Known) (r : Part × Known) → IsOperand x part
    → has rules type means part s ≡ Ok r → IsOperand x r.0
no_operand x rules type means part s r i e =
    subst (λ y. IsOperand x y.0) (unless_of (broken_rules (next_node s) rules) (part, with_node type means s) r e) i

brackets_operand : (x : Operand) (parts : List Part) (s : Known) (r : Part × Known) → judged_brackets parts s ≡ Ok r → IsOperand x r.0
brackets_operand x [] s r e = no_operand x [] Void Nothing (Declarator (step_at s Unsized ∷ [])) s r tt e
brackets_operand x (Value o ∷ []) s r e = no_operand x [] Void Nothing (Declarator (step_at s (Sized o.constant) ∷ [])) s r tt e
brackets_operand x (Declarator steps ∷ []) s r e = no_operand x [] Void Nothing (Declarator (steps ++ step_at s Unsized ∷ [])) s r tt e
brackets_operand x (Declarator steps ∷ (Value o ∷ [])) s r e =
    no_operand x [] Void Nothing (Declarator (steps ++ step_at s (Sized o.constant) ∷ [])) s r tt e
brackets_operand x _ s r e = cc

decl_name_operand : (x : Operand) (b : Bool) (name : List ℕ) (s q : Known) (r : Part × Known)
    → (if b then has [] Void (Static s.statics) (Declarator (step_at s (Names name) ∷ [])) q else typeless [] (Declarator (step_at s (Names name) ∷ [])) s) ≡ Ok r
    → IsOperand x r.0
decl_name_operand x true name s q r e = no_operand x [] Void (Static s.statics) (Declarator (step_at s (Names name) ∷ [])) q r tt e
decl_name_operand x false name s q r e = no_operand x [] Void Nothing (Declarator (step_at s (Names name) ∷ [])) s r tt e

enumerator_operand : (x : Operand) (name : List ℕ) (parts : List Part) (s : Known) (r : Part × Known) → judged_enumerator name parts s ≡ Ok r → IsOperand x r.0
enumerator_operand x name [] s r e = no_operand x [] Int Nothing (Enumerator name None) s r tt e
enumerator_operand x name (Value o ∷ []) s r e = no_operand x [] Int Nothing (Enumerator name (Some o.constant)) s r tt e
enumerator_operand x name _ s r e = cc

entry_operand : (x : Operand) (by : EntryBy) (role : Role) (parts : List Part) (s : Known) (r : Part × Known) → judged_entry by role parts s ≡ Ok r → IsOperand x r.0
entry_operand x by (EntryOf list next) parts s r e =
    no_operand x (entry_rules s.tags list next by parts) (filled_type (entry_role s.tags (EntryOf list next) by parts)) Nothing
    (Filled (suc (entry_position s.tags list next by parts))) s r tt e
entry_operand x by _ parts s r e = cc

-- names, texts and named types: the operand that the node gave has the type of its label
shut_operand : (kinds : List Kind) (k : Kind) (rules : List Rule) (type : TypeTree) (means : Meant) (part : Part) (s : Known) (r : Part × Known) (t : Typing) (at : ℕ) (row : TypedRow)
    → AreKnown kinds s → is_open k ≡ false → Later (kinds ++ k ∷ []) r.1 t
    → ((label : Label) → label.type ≡ type → label.means ≡ means → IsOperand (operand_of t k label row) part)
    → has rules type means part s ≡ Ok r → IsOperand (operand_of t k (label_at t kinds at) row) r.0
shut_operand kinds k rules type means part s r t at row h c m f e =
    let z = unless_of (broken_rules (next_node s) rules) (part, with_node type means s) r e in
    let known = ap (λ x. x.1) z in
    subst (λ y. IsOperand (operand_of t k (label_at t kinds at) row) y.0) z
    (f (label_at t kinds at) (last_type kinds k s r.1 t type means h c known m) (last_means kinds k s r.1 t type means h c known m))

name_operand : (kinds : List Kind) (x : List ℕ) (d : Option Declared) (s : Known) (r : Part × Known) (t : Typing) (at : ℕ) (row : TypedRow)
    → AreKnown kinds s → Later (kinds ++ kind.Name x ∷ []) r.1 t → judged_name x d s ≡ Ok r
    → IsOperand (operand_of t (kind.Name x) (label_at t kinds at) row) r.0
name_operand kinds x None s r t at row h m e = cc
name_operand kinds x (Some d) s r t at row h m e =
    shut_operand kinds (kind.Name x) (breaks_if (not (is_usable s.bodies d)) (Undeclared x)) d.type d.means
    (Value (operand d.type (not (is_function d.type) && not (is_enumerator d.means)) (constant_at s.tags (kind.Name x) d.type d.means [])))
    s r t at row h refl m
    (λ label a b. ap (λ y. operand y false (constant_at t.tags (kind.Name x) y label.means [])) a
    ∙ ap (λ y. operand d.type false (constant_at t.tags (kind.Name x) d.type y [])) b) e

text_operand : (kinds : List Kind) (texts : List (List ℕ)) (b : Bool) (type : TypeTree) (rules : List Rule) (means : Meant) (s q : Known) (r : Part × Known) (t : Typing) (at : ℕ) (row : TypedRow)
    → AreKnown kinds s → AreKnown kinds q → Later (kinds ++ kind.Text texts ∷ []) r.1 t
    → (if b then has [] type Nothing (Value (operand type true NotConstant)) s else has rules type means (Value (operand type true NotConstant)) q) ≡ Ok r
    → IsOperand (operand_of t (kind.Text texts) (label_at t kinds at) row) r.0
text_operand kinds texts true type rules means s q r t at row h g m e =
    shut_operand kinds (kind.Text texts) [] type Nothing (Value (operand type true NotConstant)) s r t at row h refl m
    (λ label a b. ap (λ y. operand y false NotConstant) a) e
text_operand kinds texts false type rules means s q r t at row h g m e =
    shut_operand kinds (kind.Text texts) rules type means (Value (operand type true NotConstant)) q r t at row g refl m
    (λ label a b. ap (λ y. operand y false NotConstant) a) e

type_operand : (kinds : List Kind) (k : Kind) (rules : List Rule) (type : TypeTree) (s : Known) (r : Part × Known) (t : Typing) (at : ℕ) (row : TypedRow)
    → AreKnown kinds s → is_open k ≡ false → ((label : Label) → operand_of t k label row ≡ operand label.type false NotConstant) → Later (kinds ++ k ∷ []) r.1 t
    → has rules type (TypeName type) (NamedType type) s ≡ Ok r → IsOperand (operand_of t k (label_at t kinds at) row) r.0
type_operand kinds k rules type s r t at row h c n m e =
    shut_operand kinds k rules type (TypeName type) (NamedType type) s r t at row h c m (λ label a b. n label ∙ ap (λ y. operand y false NotConstant) a) e

-- the other nodes that are operands
abbrev is_named : Kind → Bool
is_named (kind.Name x) = true
is_named (kind.Text texts) = true
is_named (kind.NamedType spec) = true
is_named k = false

other_operand : (x : Operand) (k : Kind) (f : Frame) (parts : List Part) (s : Known) (r : Part × Known) → has_verdict k ≡ false → is_named k ≡ false
    → judged k f parts s ≡ Ok r → IsOperand x r.0
other_operand x (kind.Declaration spec inits) f parts s r v n e = no_operand x _ Void Nothing Statement s r tt e
other_operand x (kind.Function spec) f parts s r v n e = no_operand x _ Void Nothing Statement (close_level s) r tt e
other_operand x (kind.Member spec) f parts s r v n e =
    no_operand x _ Void Nothing (Members (or_unnamed f.base (declared_members f.base parts))) s r tt e
other_operand x (kind.EnumConst name valued) f parts s r v n e = enumerator_operand x name parts s r e
other_operand x (kind.DeclName name) f parts s r v n e =
    decl_name_operand x (is_block_static f.context.role) name s (record s { statics = s.statics + 1 }) r e
other_operand x (kind.Star volatiles) f parts s r v n e = no_operand x [] Void Nothing (Declarator (inner_steps parts ++ step_at s Points ∷ [])) s r tt e
other_operand x (kind.Brackets inner sized) f parts s r v n e = brackets_operand x parts s r e
other_operand x (kind.Params inner void_word) f parts s r v n e =
    no_operand x [] Void Nothing
    (Declarator (inner_steps parts ++ step_at (close_level s) (Takes (type_row (parameter_types parts)) (innermost s.names)) ∷ [])) (close_level s) r tt e
other_operand x kind.DeclParens f parts s r v n e = no_operand x [] Void Nothing (Declarator (inner_steps parts ++ step_at s Keeps ∷ [])) s r tt e
other_operand x (kind.Param spec) f parts s r v n e =
    no_operand x _ _ Nothing (Parameter (object_type (last_object parts) (adjusted f.base))) s r tt e
other_operand x (kind.InitList comma) f parts s r v n e = no_operand x [] _ Nothing (Braced (positions 0 parts)) s r tt e
other_operand x (kind.Entry by equals) f parts s r v n e = entry_operand x by f.context.role parts s r e
other_operand x kind.Block f parts s r v n e = no_operand x [] Void Nothing Statement (close_block s) r tt e
other_operand x kind.Expression f parts s r v n e = no_operand x [] Void Nothing Statement s r tt e
other_operand x kind.If f parts s r v n e = no_operand x _ Void Nothing Statement s r tt e
other_operand x kind.While f parts s r v n e = no_operand x _ Void Nothing Statement s r tt e
other_operand x kind.Do f parts s r v n e = no_operand x _ Void Nothing Statement s r tt e
other_operand x (kind.For first test step) f parts s r v n e = no_operand x _ Void Nothing Statement s r tt e
other_operand x kind.Switch f parts s r v n e = no_operand x _ Void Nothing Statement s r tt e
other_operand x kind.Case f parts s r v n e = no_operand x _ Void Nothing (CaseLabel (constant_or_zero (first_constant parts))) s r tt e
other_operand x kind.Default f parts s r v n e = no_operand x [] Void Nothing DefaultLabel s r tt e
other_operand x kind.Break f parts s r v n e = no_operand x _ Void Nothing Statement s r tt e
other_operand x kind.Continue f parts s r v n e = no_operand x _ Void Nothing Statement s r tt e
other_operand x kind.Return f parts s r v n e = no_operand x _ Void Nothing Statement s r tt e
other_operand x k f parts s r v n e = cc

other_node : (kinds : List Kind) (k : Kind) (f : Frame) (parts : List Part) (s : Known) (r : Part × Known) (t : Typing) (at : ℕ) (row : TypedRow)
    → AreKnown kinds s → Later (kinds ++ k ∷ []) r.1 t → has_verdict k ≡ false → judged k f parts s ≡ Ok r
    → IsOperand (operand_of t k (label_at t kinds at) row) r.0
other_node kinds (kind.Name x) f parts s r t at row h m v e = name_operand kinds x (in_levels x s.names) s r t at row h m e
other_node kinds (kind.Text texts) f parts s r t at row h m v e =
    text_operand kinds texts (is_filled_by_text f.context.role) (text_type texts)
    (breaks_if (not (is_within_limit s.tags (text_type texts))) BadConstant) (Static s.statics)
    s (record s { statics = s.statics + 1 }) r t at row h (record { types = h.types; means = h.means }) m e
other_node kinds (kind.NamedType spec) f parts s r t at row h m v e =
    type_operand kinds (kind.NamedType spec) (spec_rules f s) (object_type (last_object parts) f.base) s r t at row h refl (λ label. refl) m e
other_node kinds k f parts s r t at row h m v e = other_operand (operand_of t k (label_at t kinds at) row) k f parts s r v refl e

node_operand : (kinds : List Kind) (k : Kind) (f : Frame) (parts : List Part) (s : Known) (r : Part × Known) (t : Typing) (at : ℕ) (row : TypedRow)
    → AreKnown kinds s → Later kinds s t → Later (kinds ++ k ∷ []) r.1 t → (has_verdict k ≡ true → AreOperands (constants_of t.tags row) parts)
    → judged k f parts s ≡ Ok r → IsOperand (operand_of t k (label_at t kinds at) row) r.0
node_operand kinds k f parts s r t at row h l m o e = by (has_verdict k) refl
  where
    by : (b : Bool) → has_verdict k ≡ b → IsOperand (operand_of t k (label_at t kinds at) row) r.0
    by true v = took_operand kinds k parts s r t at row v h (node_took k f parts s r v e) l m (o v)
    by false v = other_node kinds k f parts s r t at row h m v e

-- THE RECURSION

abbrev operand_at : Tags → Typed → Operand
operand_at tags e = operand (type_at e) false (constant_of tags e)

record TreeTyped (final : Typing) (kinds : List Kind) (t : Syntax) (part : Part) : Type 0 where
  nodes : TreeIsTyped final.tags (typed final.types final.means (length kinds) t)
  part_is : IsOperand (operand_at final.tags (typed final.types final.means (length kinds) t)) part

record RowTyped (final : Typing) (kinds : List Kind) (k : Kind) (xs : List Operand) (ts : SyntaxRow) (parts : List Part) : Type 0 where
  nodes : RowIsTyped final.tags (typed_row final.types final.means (length kinds) ts)
  parts_are : has_verdict k ≡ true → AreOperands (xs ++ constants_of final.tags (typed_row final.types final.means (length kinds) ts)) parts

none_typed : (final : Typing) (kinds : List Kind) (k : Kind) (xs : List Operand) (before : List Part) → (has_verdict k ≡ true → AreOperands xs before)
    → RowTyped final kinds k xs none before
none_typed final kinds k xs before o = record {
  nodes = tt;
  parts_are = λ v. subst (λ ys. AreOperands ys before) (sym (append-nil xs)) (o v);
}

more_typed : (final : Typing) (kinds : List Kind) (k : Kind) (xs : List Operand) (t : Syntax) (ts : SyntaxRow) (part : Part) (parts : List Part) → TreeTyped final kinds t part
    → RowTyped final (kinds_after kinds t) k (xs ++ operand_at final.tags (typed final.types final.means (length kinds) t) ∷ []) ts parts
    → RowTyped final kinds k xs (more t ts) parts
more_typed final kinds k xs t ts part parts a b =
    let x = operand_at final.tags (typed final.types final.means (length kinds) t) in
    record {
      nodes = (a.nodes, subst (λ i. RowIsTyped final.tags (typed_row final.types final.means i ts)) (length_after kinds t) b.nodes);
      parts_are = λ v.
          subst (λ ys. AreOperands ys parts)
          (append_assoc xs (x ∷ []) (constants_of final.tags (typed_row final.types final.means (length (kinds_after kinds t)) ts))
          ∙ ap (λ i. xs ++ x ∷ constants_of final.tags (typed_row final.types final.means i ts)) (length_after kinds t))
          (b.parts_are v);
    }

node_typed : (final : Typing) (kinds : List Kind) (k : Kind) (at : ℕ) (f : Frame) (row : SyntaxRow) (parts : List Part) (s : Known) (r : Part × Known)
    → AreKnown (kinds_after_row kinds row) s → Later (kinds_after_row kinds row) s final → Later (kinds_after_row kinds row ++ k ∷ []) r.1 final
    → judged k f parts s ≡ Ok r → RowTyped final kinds k [] row parts → TreeTyped final kinds (node k at row) r.0
node_typed final kinds k at f row parts s r h l m e p =
    let inside = kinds_after_row kinds row in
    let typed_parts = typed_row final.types final.means (length kinds) row in
    let one : has_verdict k ≡ true → IsJudged final.tags k (label_at final inside at) typed_parts =
    λ v. node_judged inside k parts s r final at typed_parts v h (node_took k f parts s r v e) l m (p.parts_are v) in
    let other : IsOperand (operand_of final k (label_at final inside at) typed_parts) r.0 =
    node_operand inside k f parts s r final at typed_parts h l m p.parts_are e in
    record {
      nodes = (
        subst (λ n. has_verdict k ≡ true → IsJudged final.tags k (label_of final.types final.means n at) typed_parts) (length_after_row kinds row) one,
        p.nodes,
      );
      part_is = subst (λ n. IsOperand (operand_of final k (label_of final.types final.means n at) typed_parts) r.0) (length_after_row kinds row) other;
    }

mutual
  tree_typed : (final : Typing) (kinds : List Kind) (t : Syntax) (c : Context) (s : Known) → AreKnown kinds s → (r : Part × Known) → judge t c s ≡ Ok r
      → Later (kinds_after kinds t) r.1 final → TreeTyped final kinds t r.0
  tree_typed final kinds (node k at parts) c s h r e l =
      let z = with_rules_is _ (role_rules c.role k) (and_then (judge_parts k (opened k c s).0 [] parts (opened k c s).1) _) r e in
      let x = then_of (judge_parts k (opened k c s).0 [] parts (opened k c s).1) _ r z in
      let q = (opened k c s).1 in
      let known = alike_known kinds s q (opened_alike k c s) h in
      let p = row_stays kinds k (opened k c s).0 [] parts q known tt x.0 x.1 in
      let inside = kinds_after_row kinds parts in
      let j = judged_adds inside k (opened k c s).0 x.0.0 x.0.1 p.known p.opens r x.2 in
      let m = before_later inside (inside ++ k ∷ []) x.0.1 r.1 final (extends_last inside k) j.stay l in
      node_typed final kinds k at (opened k c s).0 parts x.0.0 x.0.1 r p.known m l x.2
      (row_typed final kinds k (opened k c s).0 [] [] parts q known tt (λ v. tt) x.0 x.1 m)

  row_typed : (final : Typing) (kinds : List Kind) (k : Kind) (f : Frame) (xs : List Operand) (before : List Part) (ts : SyntaxRow) (s : Known) → AreKnown kinds s
      → AllHaveOpen kinds before → (has_verdict k ≡ true → AreOperands xs before) → (r : List Part × Known) → judge_parts k f before ts s ≡ Ok r
      → Later (kinds_after_row kinds ts) r.1 final → RowTyped final kinds k xs ts r.0
  row_typed final kinds k f xs before none s h b o r e l =
      let z : (before, s) ≡ r = cc in
      subst (λ y. RowTyped final kinds k xs none y.0) z (none_typed final kinds k xs before o)
  row_typed final kinds k f xs before (more t ts) s h b o r e l =
      let x = then_of (judge t (context k f before (kind_at t) s) s) _ r e in
      let y = then_of (behind k f before x.0.0 ts x.0.1) _ r x.2 in
      let later = kinds_after kinds t in
      let p = part_stays kinds k f before t ts s b x.0 (tree_stays kinds t (context k f before (kind_at t) s) s h x.0 x.1) y.0 y.1 in
      let others = row_stays later k f (before ++ y.0.0 ∷ []) ts y.0.1 p.known p.opens r y.2 in
      let m = before_later later (kinds_after_row later ts) y.0.1 r.1 final (extends_row later ts) others.stay l in
      let n = before_later later later x.0.1 y.0.1 final (extends_self later) p.behind_stay m in
      let first = tree_typed final kinds t (context k f before (kind_at t) s) s h x.0 x.1 n in
      let i = operand_at final.tags (typed final.types final.means (length kinds) t) in
      more_typed final kinds k xs t ts x.0.0 r.0 first
      (row_typed final later k f (xs ++ i ∷ []) (before ++ y.0.0 ∷ []) ts y.0.1 p.known p.opens
      (λ v. one_operand_more xs before i y.0.0 (o v) (behind_operand i k f before x.0.0 ts x.0.1 y.0 v first.part_is y.1)) r y.2 l)

record ItemsStay (kinds : List Kind) (items : SyntaxRow) (s r : Known) : Type 0 where
  known : AreKnown (kinds_after_row kinds items) r
  stay : Stays kinds s r

items_stay : (kinds : List Kind) (items : SyntaxRow) (s : Known) → AreKnown kinds s → (r : Known) → judge_items items s ≡ Ok r → ItemsStay kinds items s r
items_stay kinds none s h r e = let z : s ≡ r = cc in subst (λ x. ItemsStay kinds none s x) z (record { known = h; stay = still kinds s })
items_stay kinds (more t ts) s h r e =
    let x = then_of (judge t file_context s) _ r e in
    let first = tree_stays kinds t file_context s h x.0 x.1 in
    let others = items_stay (kinds_after kinds t) ts x.0.1 first.known r x.2 in
    record { known = others.known; stay = then_stays kinds (kinds_after kinds t) s x.0.1 r (extends_tree kinds t) first.stay others.stay }

items_typed : (final : Typing) (kinds : List Kind) (items : SyntaxRow) (s : Known) → AreKnown kinds s → (r : Known) → judge_items items s ≡ Ok r
    → Later (kinds_after_row kinds items) r final → RowIsTyped final.tags (typed_row final.types final.means (length kinds) items)
items_typed final kinds none s h r e l = tt
items_typed final kinds (more t ts) s h r e l =
    let x = then_of (judge t file_context s) _ r e in
    let later = kinds_after kinds t in
    let first = tree_stays kinds t file_context s h x.0 x.1 in
    let others = items_stay later ts x.0.1 first.known r x.2 in
    let m = before_later later (kinds_after_row later ts) x.0.1 r final (extends_row later ts) others.stay l in
    let one = tree_typed final kinds t file_context s h x.0 x.1 m in (
      one.nodes,
      subst (λ i. RowIsTyped final.tags (typed_row final.types final.means i ts)) (length_after kinds t)
          (items_typed final later ts x.0.1 first.known r x.2 l),
    )

pub nodes_are_typed : NodesAreTyped
nodes_are_typed items marks t e =
    let x = then_of (judge_items items (known_first (names_with_bodies items))) _ t e in
    let first : AreKnown [] (known_first (names_with_bodies items)) = record { types = refl; means = refl } in
    let z : typing_of marks x.0 ≡ t = cc in
    subst (λ u. RowIsTyped u.tags (typed_row u.types u.means 0 items)) z
    (items_typed (typing_of marks x.0) [] items (known_first (names_with_bodies items)) first x.0 x.1
    (file_later (kinds_after_row [] items) marks x.0))
