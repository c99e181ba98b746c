-- Typed statements are sound, where their expressions are plain and their automatics known.
use Rattle.std.proofs.Common.{◌≡◌, ℕ, Bool, true, false, if◌then◌else◌, List, [], ◌∷◌, ◌++◌, length, map, append_assoc, slice_get, Option, Some, None, refl, sym, ap, subst, ◌∙◌}
use Rattle.std.proofs.lemmas.List.{map-append}
use Rattle.p9_lang.specs.declared.tree.Kind.TheVariants as kind
use Rattle.p9_lang.specs.Trees.{node, none, more}
use Rattle.p9_lang.specs.Types.{TypeTree, Meant, Nothing, Outer, Static, Auto, EnumValue, TypeName}
use Rattle.p9_lang.specs.Modules.{Label, Typed, TypedRow}
use Rattle.p9_lang.specs.Parts.{is_declarator}
use Rattle.p9_lang.specs.Symbols.{kind_of_node, name_label, initialiser}
use Rattle.p9_cmean.specs.Declarations.{Automatic, automatic, automatics_in, declared_by, declared_in}
use Rattle.p9_cmean.specs.Union.{types_within, types_within_row}
use Rattle.p9_lower.specs.Names.{Setting}
use Rattle.p9_lower.specs.Premises.{ExpressionIsSound, AutomaticsAreKnown, InitialisersAreSound, StatementIsSound, StatementsAreSound, LoopIsSound}
use Rattle.p9_sound.specs.Nodes.{TreeIsTyped, RowIsTyped}
use Rattle.p9_sound.specs.Expressions.{TreeIsPlain, RowIsPlain}
use Rattle.p9_sound.specs.Automatics.{automatics_within, automatics_of_row, numbers, AreNumbered}
use Rattle.p9_sound.specs.Statements.{BlocksAreKnown, AllBlocksAreKnown, NumberedBlocksAreKnown, TypedStatementsAreSound}
use Rattle.p9_sound.proofs.Numbering.{length_last}
use Rattle.p9_sound.proofs.Expressions.{typed_expressions_are_sound}

-- AUTOMATICS by their numbers

get_middle : {A : Type 0} (xs ys : List A) (x : A) → slice_get (xs ++ x ∷ ys) (length xs) ≡ Some x
get_middle [] ys x = refl
get_middle (y ∷ xs) ys x = get_middle xs ys x

abbrev type_of : Automatic → TypeTree
type_of a = a.name.type

numbered_known : (before : List TypeTree) (xs : List Automatic) (to : ℕ) → AreNumbered (length before) (numbers xs) to → AutomaticsAreKnown (before ++ map type_of xs) xs
numbered_known before [] to h = tt
numbered_known before (a ∷ xs) to h =
    let later = before ++ type_of a ∷ [] in (
      ap (λ n. slice_get (before ++ type_of a ∷ map type_of xs) n) h.0 ∙ get_middle before (map type_of xs) (type_of a),
      subst (λ types. AutomaticsAreKnown types xs) (append_assoc before (type_of a ∷ []) (map type_of xs))
          (numbered_known later xs to (subst (λ n. AreNumbered n (numbers xs) to) (sym (length_last before (type_of a))) h.1)),
    )

mutual
  within_types : (n : Typed) → types_within n ≡ map type_of (automatics_within n)
  within_types (node k label parts) =
      ap (λ types. map type_of (declared_by (node k label parts)) ++ types) (row_types parts)
      ∙ sym (map-append type_of (declared_by (node k label parts)) (automatics_of_row parts))

  row_types : (parts : TypedRow) → types_within_row parts ≡ map type_of (automatics_of_row parts)
  row_types none = refl
  row_types (more first others) =
      ap (λ types. types ++ types_within_row others) (within_types first)
      ∙ (ap (λ types. map type_of (automatics_within first) ++ types) (row_types others)
      ∙ sym (map-append type_of (automatics_within first) (automatics_of_row others)))

-- some of them

known_first : (types : List TypeTree) (xs ys : List Automatic) → AutomaticsAreKnown types (xs ++ ys) → AutomaticsAreKnown types xs
known_first types [] ys h = tt
known_first types (x ∷ xs) ys h = (h.0, known_first types xs ys h.1)

known_last : (types : List TypeTree) (xs ys : List Automatic) → AutomaticsAreKnown types (xs ++ ys) → AutomaticsAreKnown types ys
known_last types [] ys h = h
known_last types (x ∷ xs) ys h = known_last types xs ys h.1

known_both : (types : List TypeTree) (xs ys : List Automatic) → AutomaticsAreKnown types xs → AutomaticsAreKnown types ys → AutomaticsAreKnown types (xs ++ ys)
known_both types [] ys h g = g
known_both types (x ∷ xs) ys h g = (h.0, known_both types xs ys h.1 g)

own_known : (types : List TypeTree) (n : Typed) → AutomaticsAreKnown types (automatics_within n) → AutomaticsAreKnown types (declared_by n)
own_known types (node k label parts) h = known_first types (declared_by (node k label parts)) (automatics_of_row parts) h

declared_known : (types : List TypeTree) (parts : TypedRow) → AutomaticsAreKnown types (automatics_of_row parts) → AutomaticsAreKnown types (declared_in parts)
declared_known types none h = tt
declared_known types (more first others) h =
    known_both types (declared_by first) (declared_in others)
    (own_known types first (known_first types (automatics_within first) (automatics_of_row others) h))
    (declared_known types others (known_last types (automatics_within first) (automatics_of_row others) h))

mutual
  blocks_known : (types : List TypeTree) (n : Typed) → AutomaticsAreKnown types (automatics_within n) → BlocksAreKnown types n
  blocks_known types (node kind.Block label parts) h = (declared_known types parts h, row_known types parts h)
  blocks_known types (node k label parts) h = row_known types parts (known_last types (declared_by (node k label parts)) (automatics_of_row parts) h)

  row_known : (types : List TypeTree) (parts : TypedRow) → AutomaticsAreKnown types (automatics_of_row parts) → AllBlocksAreKnown types parts
  row_known types none h = tt
  row_known types (more first others) h = (
    blocks_known types first (known_first types (automatics_within first) (automatics_of_row others) h),
    row_known types others (known_last types (automatics_within first) (automatics_of_row others) h),
  )

pub numbered_blocks_are_known : NumberedBlocksAreKnown
numbered_blocks_are_known parameters n to h =
    blocks_known (parameters ++ types_within n) n
    (subst (λ types. AutomaticsAreKnown (parameters ++ types) (automatics_within n)) (sym (within_types n))
    (numbered_known parameters (automatics_within n) to h))

-- INITIALISERS

initials_both : (setting : Setting) (xs ys : List Automatic) → InitialisersAreSound setting xs → InitialisersAreSound setting ys → InitialisersAreSound setting (xs ++ ys)
initials_both setting [] ys h g = g
initials_both setting (x ∷ xs) ys h g = (h.0, initials_both setting xs ys h.1 g)

initials_if : (setting : Setting) (b : Bool) (xs : List Automatic) → InitialisersAreSound setting xs → InitialisersAreSound setting (if b then xs else [])
initials_if setting true xs h = h
initials_if setting false xs h = tt

initial_by : (setting : Setting) (number token : ℕ) (type : TypeTree) (means : Meant) (initial : Option Typed) → ((e : Typed) → initial ≡ Some e → ExpressionIsSound setting e)
    → InitialisersAreSound setting (automatic (Some (record { number = number; token = token; type = type; means = means })) initial)
initial_by setting number token type (Auto n) initial h = (λ e i. record { name = tt; expression = h e i }, tt)
initial_by setting number token type Nothing initial h = tt
initial_by setting number token type (Outer name) initial h = tt
initial_by setting number token type (Static n) initial h = tt
initial_by setting number token type (EnumValue value) initial h = tt
initial_by setting number token type (TypeName other) initial h = tt

initial_sound : (setting : Setting) (o : Option Label) (initial : Option Typed) → ((e : Typed) → initial ≡ Some e → ExpressionIsSound setting e)
    → InitialisersAreSound setting (automatic o initial)
initial_sound setting None initial h = tt
initial_sound setting (Some label) initial h = initial_by setting label.number label.token label.type label.means initial h

if_some : (b : Bool) (t e : Typed) → (if b then None else Some t) ≡ Some e → t ≡ e
if_some true t e h = cc
if_some false t e h = cc

behind_sound : (setting : Setting) (parts : TypedRow) → RowIsTyped setting.tags parts → RowIsPlain setting parts → (e : Typed) → initialiser parts ≡ Some e
    → ExpressionIsSound setting e
behind_sound setting none t p e h = cc
behind_sound setting (more first others) t p e h =
    subst (λ x. ExpressionIsSound setting x) (if_some (is_declarator (kind_of_node first)) first e h) (typed_expressions_are_sound setting first t.0 p.0)

initials_sound : (setting : Setting) (parts : TypedRow) → RowIsTyped setting.tags parts → RowIsPlain setting parts → InitialisersAreSound setting (automatics_in parts)
initials_sound setting none t p = tt
initials_sound setting (more first others) t p =
    initials_both setting (if is_declarator (kind_of_node first) then automatic (name_label first) (initialiser others) else []) (automatics_in others)
    (initials_if setting (is_declarator (kind_of_node first)) (automatic (name_label first) (initialiser others))
    (initial_sound setting (name_label first) (initialiser others) (behind_sound setting others t.1 p.1)))
    (initials_sound setting others t.1 p.1)

-- STATEMENTS

loop_none : (setting : Setting) (types : List TypeTree) (test step : Bool) → LoopIsSound setting types test step none
loop_none setting types true true = tt
loop_none setting types true false = tt
loop_none setting types false true = tt
loop_none setting types false false = tt

mutual
  statement_sound : (setting : Setting) (types : List TypeTree) (n : Typed) → TreeIsTyped setting.tags n → TreeIsPlain setting n → BlocksAreKnown types n
      → StatementIsSound setting types n
  statement_sound setting types (node kind.Block label parts) t p b = (b.0, statements_sound setting types parts t.1 p.1 b.1)
  statement_sound setting types (node (kind.Declaration spec inits) label parts) t p b = initials_sound setting parts t.1 p.1
  statement_sound setting types (node kind.Expression label none) t p b = tt
  statement_sound setting types (node kind.Expression label (more e none)) t p b = typed_expressions_are_sound setting e t.1.0 p.1.0
  statement_sound setting types (node kind.Expression label (more e (more f others))) t p b = tt
  statement_sound setting types (node kind.If label none) t p b = tt
  statement_sound setting types (node kind.If label (more test none)) t p b = tt
  statement_sound setting types (node kind.If label (more test (more first none))) t p b =
      (typed_expressions_are_sound setting test t.1.0 p.1.0, statement_sound setting types first t.1.1.0 p.1.1.0 b.1.0)
  statement_sound setting types (node kind.If label (more test (more first (more second none)))) t p b = (
    typed_expressions_are_sound setting test t.1.0 p.1.0,
    statement_sound setting types first t.1.1.0 p.1.1.0 b.1.0,
    statement_sound setting types second t.1.1.1.0 p.1.1.1.0 b.1.1.0,
  )
  statement_sound setting types (node kind.If label (more test (more first (more second (more third others))))) t p b = tt
  statement_sound setting types (node kind.While label none) t p b = tt
  statement_sound setting types (node kind.While label (more test none)) t p b = tt
  statement_sound setting types (node kind.While label (more test (more body none))) t p b =
      (typed_expressions_are_sound setting test t.1.0 p.1.0, statement_sound setting types body t.1.1.0 p.1.1.0 b.1.0)
  statement_sound setting types (node kind.While label (more test (more body (more other others)))) t p b = tt
  statement_sound setting types (node kind.Do label none) t p b = tt
  statement_sound setting types (node kind.Do label (more body none)) t p b = tt
  statement_sound setting types (node kind.Do label (more body (more test none))) t p b =
      (typed_expressions_are_sound setting test t.1.1.0 p.1.1.0, statement_sound setting types body t.1.0 p.1.0 b.0)
  statement_sound setting types (node kind.Do label (more body (more test (more other others)))) t p b = tt
  statement_sound setting types (node (kind.For true test step) label none) t p b = tt
  statement_sound setting types (node (kind.For true test step) label (more first others)) t p b =
      (typed_expressions_are_sound setting first t.1.0 p.1.0, loop_sound setting types test step others t.1.1 p.1.1 b.1)
  statement_sound setting types (node (kind.For false test step) label parts) t p b = loop_sound setting types test step parts t.1 p.1 b
  statement_sound setting types (node kind.Switch label none) t p b = tt
  statement_sound setting types (node kind.Switch label (more e arms)) t p b =
      (typed_expressions_are_sound setting e t.1.0 p.1.0, statements_sound setting types arms t.1.1 p.1.1 b.1)
  statement_sound setting types (node kind.Return label none) t p b = tt
  statement_sound setting types (node kind.Return label (more e none)) t p b = typed_expressions_are_sound setting e t.1.0 p.1.0
  statement_sound setting types (node kind.Return label (more e (more f others))) t p b = tt
  statement_sound setting types (node k label parts) t p b = tt

  statements_sound : (setting : Setting) (types : List TypeTree) (parts : TypedRow) → RowIsTyped setting.tags parts → RowIsPlain setting parts → AllBlocksAreKnown types parts
      → StatementsAreSound setting types parts
  statements_sound setting types none t p b = tt
  statements_sound setting types (more first others) t p b =
      (statement_sound setting types first t.0 p.0 b.0, statements_sound setting types others t.1 p.1 b.1)

  loop_sound : (setting : Setting) (types : List TypeTree) (test step : Bool) (parts : TypedRow) → RowIsTyped setting.tags parts → RowIsPlain setting parts
      → AllBlocksAreKnown types parts → LoopIsSound setting types test step parts
  loop_sound setting types test step none t p b = loop_none setting types test step
  loop_sound setting types false false (more body none) t p b = statement_sound setting types body t.0 p.0 b.0
  loop_sound setting types false true (more e none) t p b = tt
  loop_sound setting types true false (more e none) t p b = tt
  loop_sound setting types true true (more e none) t p b = tt
  loop_sound setting types false false (more e (more body none)) t p b = tt
  loop_sound setting types false true (more e (more body none)) t p b =
      (typed_expressions_are_sound setting e t.0 p.0, statement_sound setting types body t.1.0 p.1.0 b.1.0)
  loop_sound setting types true false (more e (more body none)) t p b =
      (typed_expressions_are_sound setting e t.0 p.0, statement_sound setting types body t.1.0 p.1.0 b.1.0)
  loop_sound setting types true true (more e (more f none)) t p b = tt
  loop_sound setting types true true (more e (more f (more body none))) t p b = (
    typed_expressions_are_sound setting e t.0 p.0,
    typed_expressions_are_sound setting f t.1.0 p.1.0,
    statement_sound setting types body t.1.1.0 p.1.1.0 b.1.1.0,
  )
  loop_sound setting types false false (more e (more f (more body others))) t p b = tt
  loop_sound setting types false true (more e (more f (more body others))) t p b = tt
  loop_sound setting types true false (more e (more f (more body others))) t p b = tt
  loop_sound setting types true true (more e (more f (more body (more other others)))) t p b = tt

pub typed_statements_are_sound : TypedStatementsAreSound
typed_statements_are_sound setting types n t p b = statement_sound setting types n t p b
