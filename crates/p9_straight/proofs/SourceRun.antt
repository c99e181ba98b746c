-- The run of `main`'s statements, from what their names and texts stand for.
use Rattle.std.proofs.Common.{◌≡◌, ◌≢◌, ◌<◌, ◌≤◌, ℕ, zero, suc, ◌+◌, ◌^◌, Bool, true, false, if◌then◌else◌, nat_lt, nat_le, List, [], ◌∷◌, ◌++◌, length, take, All, Some, None, Option, refl, sym, ap, ◌∙◌, subst, arith}
use Rattle.std.proofs.lemmas.Bool.Decides.{nat_tests}
use Rattle.std.specs.Prelude.{slice_get, slice_set, codes}
use Rattle.p9_base.specs.Words.{word_sum, is_negative}
use Rattle.p9_first.specs.Types.{TypeTree, Int, Long, Char, Array, Outer, Static}
use Rattle.p9_first.specs.Trees.{node, Syntax, nodes_of, nodes_of_row}
use Rattle.p9_first.specs.Form.{same_name}
use Rattle.p9_first.specs.Typing.{Has, Scope, named, texts_in, judged, typeless, exits_type, transfer_type}
use Rattle.p9_first.specs.Modules.{Source, Label, TypedRow, judged_type, judged_meaning}
use Rattle.p9_first.proofs.Labels.{judged_label, typed_expression, typed_statement, typed_statements}
use Rattle.p9_form.specs.declared.file.Operand.{Operand}
use Rattle.p9_form.specs.declared.file.Operand.TheVariants.{Variable, Number}
use Rattle.p9_form.specs.declared.file.Statement.{Statement}
use Rattle.p9_form.specs.declared.file.Statement.TheVariants.{Assign, Write, Exits}
use Rattle.p9_form.specs.Items.{number_leaf, text_leaf, operand_tree, sum_tree, effect_tree, statement_tree, statement_trees, statement_size}
use Rattle.p9_first.specs.declared.Place.{Place}
use Rattle.p9_first.specs.Cells.{Global, Into, Null, Object, Value, Word, Address, State, ToFunction}
use Rattle.p9_first.specs.Plays.{Call, Done, bind, Normal, then_go, Flow, Play}
use Rattle.p9_first.specs.Turns.{Outcome, Deep, Gave, Over, End, and_then, resolve, calls_to}
use Rattle.p9_first.specs.Access.{number_cells}
use Rattle.p9_first.specs.SystemCalls.{system_body, written}
use Rattle.p9_first.specs.Expressions.{Surroundings, at, pointer_of, outer_pointer, value}
use Rattle.p9_first.specs.Statements.{statement, statements, given}
use Rattle.p9_first.specs.CRun.{functions_of, outcome_of}
use Rattle.p9_first.proofs.Variables.{Holds, IsVariableType}
use Rattle.p9_first.proofs.FormPlays.{StandsFor, Calls, IsTextAt, variable_value, sum_value as sum_plays, assign_play, write_play, exits_play, exits_zero_play, asks}
use Rattle.p9_first.proofs.FormCalls.{text_object, written_text, written_past, exits_text, write_ends, exits_ends}
use Rattle.p9_straight.specs.FormRun.{Values, Came, Ends, RunsOut, Fails, operand_value, sum_value, assigned, after_write, statements_run, ComesTo}
use Rattle.p9_straight.proofs.SourceLists.{bool_cases, same_is, same_self, get_set_same, get_set_other}

-- What names and texts stand for. `K` holds of the variables that are named.

pub record Setting (around : Surroundings) (scope : Scope) (K : List ℕ → Type 0) (texts : List (List ℕ)) (number : List ℕ → ℕ) (static : ℕ → ℕ) : Type 0 where
  pub type : List ℕ → TypeTree
  pub is_variable : (x : List ℕ) → K x → IsVariableType (type x)
  pub variable : (x : List ℕ) → K x → named scope x ≡ Has (type x) (Outer x)
  pub object : (x : List ℕ) → K x → around.object x ≡ Into (number x) 0
  pub apart : (x y : List ℕ) → K x → K y → number x ≡ number y → x ≡ y
  pub write : named scope (codes "write") ≡ Has transfer_type (Outer (codes "write"))
  pub exits : named scope (codes "exits") ≡ Has exits_type (Outer (codes "exits"))
  pub write_function : around.function (codes "write") ≡ Global (codes "write")
  pub exits_function : around.function (codes "exits") ≡ Global (codes "exits")
  pub text : (k : ℕ) (bytes : List ℕ) → slice_get texts k ≡ Some bytes → around.static k ≡ Into (static k) 0
  pub clear : (x : List ℕ) (k : ℕ) (bytes : List ℕ) → K x → slice_get texts k ≡ Some bytes → static k ≢ number x

-- the objects hold the variables' values and the texts
pub record Shows (K : List ℕ → Type 0) (texts : List (List ℕ)) (number : List ℕ → ℕ) (static : ℕ → ℕ) (values : Values) (objects : List Object) : Type 0 where
  pub holder : (x : List ℕ) → K x → (object : Object) × (slice_get objects (number x) ≡ Some object) × Holds object (values x)
  pub shown : (k : ℕ) (bytes : List ℕ) → slice_get texts k ≡ Some bytes → slice_get objects (static k) ≡ Some (text_object bytes)

-- What is asked of statements

abbrev pub FineOperand : (List ℕ → Type 0) → Operand → Type 0
FineOperand K (Variable x) = K x
FineOperand K (Number n) = n ≤ 2147483647

abbrev pub FineIf : (List ℕ → Type 0) → Option Operand → Type 0
FineIf K None = Unit {0}
FineIf K (Some o) = FineOperand K o

abbrev pub FineExit : Option (List ℕ) → Type 0
FineExit None = Unit {0}
FineExit (Some text) = All (λ c. c ≢ 0) text

abbrev pub Fine : (List ℕ → Type 0) → Statement → Type 0
Fine K (Assign x left right) = K x × FineOperand K left × FineIf K right
Fine K (Write text count) = FineOperand K count
Fine K (Exits text) = FineExit text

abbrev pub AreFine : (List ℕ → Type 0) → List Statement → Type 0
AreFine K [] = Unit {0}
AreFine K (s ∷ ss) = Fine K s × AreFine K ss

abbrev pub text_count : Statement → ℕ
text_count (Assign x left right) = 0
text_count (Write text count) = 1
text_count (Exits None) = 0
text_count (Exits (Some text)) = 1

-- the text of a statement is the one with this number
abbrev pub HasText : List (List ℕ) → ℕ → Statement → Type 0
HasText texts k (Assign x left right) = Unit {0}
HasText texts k (Write text count) = slice_get texts k ≡ Some text
HasText texts k (Exits None) = Unit {0}
HasText texts k (Exits (Some text)) = slice_get texts k ≡ Some text

abbrev pub HaveTexts : List (List ℕ) → ℕ → List Statement → Type 0
HaveTexts texts k [] = Unit {0}
HaveTexts texts k (s ∷ ss) = HasText texts k s × HaveTexts texts (k + text_count s) ss

operand_texts : (a : ℕ) (o : Operand) → texts_in (operand_tree a o) ≡ 0
operand_texts a (Variable x) = refl
operand_texts a (Number n) = refl

sum_texts : (a : ℕ) (left : Operand) (right : Option Operand) → texts_in (sum_tree a left right) ≡ 0
sum_texts a left None = operand_texts a left
sum_texts a left (Some right) = let l = operand_texts a left in let r = operand_texts (a + 2) right in omega (arith, l, r)

pub statement_texts : (a : ℕ) (s : Statement) → texts_in (statement_tree a s) ≡ text_count s
statement_texts a (Assign x left right) = let l = sum_texts (a + 2) left right in omega (arith, l)
statement_texts a (Write text count) = let l = operand_texts (a + 6) count in omega (arith, l)
statement_texts a (Exits None) = refl
statement_texts a (Exits (Some text)) = refl

-- Room

room_cases : {P : Type 0} (m : ℕ) → (nat_lt 16777216 m ≡ true → P) → (m ≤ 16777216 → P) → P
room_cases m f g = bool_cases (nat_lt 16777216 m) f (λ e. g (let h : m ≤ 16777216 = grind (arith, nat_tests) in h))

abbrev system_call : List ℕ → List Value → Place → Call
system_call name arguments place = record { function = Global name; arguments = arguments; place = place }

deep_write : (modules : List Source) (d active n c : ℕ) (vs : List Value) (place : Place) (s : State) → nat_lt 16777216 (active + 64) ≡ true
    → calls_to (suc d) (functions_of modules) active (suc n) c (system_call (codes "write") vs place) s ≡ Over (Deep s.output place) c
deep_write modules d active n c vs place s e =
    ap (λ b. if b then Over (Deep s.output place) c else resolve (calls_to d (functions_of modules)) (active + 64) n c (system_body (codes "write") (system_call (codes "write") vs place) s)) e

deep_exits : (modules : List Source) (d active n c : ℕ) (vs : List Value) (place : Place) (s : State) → nat_lt 16777216 (active + 64) ≡ true
    → calls_to (suc d) (functions_of modules) active (suc n) c (system_call (codes "exits") vs place) s ≡ Over (Deep s.output place) c
deep_exits modules d active n c vs place s e =
    ap (λ b. if b then Over (Deep s.output place) c else resolve (calls_to d (functions_of modules)) (active + 64) n c (system_body (codes "exits") (system_call (codes "exits") vs place) s)) e

has_room : (active : ℕ) → active + 64 ≤ 16777216 → nat_lt 16777216 (active + 64) ≡ false
has_room active le = grind (arith, nat_tests)

-- a negative count gives -1
write_refuses : (modules : List Source) (d active n c o m : ℕ) (place : Place) (s : State) → active + 64 ≤ 16777216 → is_negative m ≡ true
    → calls_to (suc d) (functions_of modules) active (suc n) c (system_call (codes "write") (Word 1 ∷ Address (Into o 0) ∷ Word m ∷ []) place) s
    ≡ Gave (Word 4294967295) s n c
write_refuses modules d active n c o m place s le e =
    ap (λ b. if b then Over (Deep s.output place) c else resolve (calls_to d (functions_of modules)) (active + 64) n c (system_body (codes "write") (system_call (codes "write") (Word 1 ∷ Address (Into o 0) ∷ Word m ∷ []) place) s)) (has_room active le)
    ∙ ap (λ b. resolve (calls_to d (functions_of modules)) (active + 64) n c (if b then Done (Word 4294967295) s else written place (Into o 0) m s)) e

-- Operands

abbrev label_here : Scope → (k first : ℕ) → Syntax → Label
label_here scope k first (node kd a parts) = judged_label (first + nodes_of_row parts) (judged scope k (node kd a parts))

outer_of : (around : Surroundings) (type : TypeTree) (x : List ℕ) → IsVariableType type → outer_pointer around type x ≡ around.object x
outer_of around Int x v = refl
outer_of around Long x v = refl
outer_of around _ x v = absurd v

sum_is_word : (a b : ℕ) → word_sum a b < 2 ^ 32
sum_is_word a b = omega arith

not_negative : (m : ℕ) → is_negative m ≡ false → m < 2 ^ 31
not_negative m e = grind (arith, nat_tests)

within : (m l : ℕ) → nat_le m l ≡ true → m ≤ l
within m l e = grind (arith, nat_tests)

past : (m l : ℕ) → nat_le m l ≡ false → l < m
past m l e = grind (arith, nat_tests)

module _ (modules : List Source) (around : Surroundings) (scope : Scope) (K : List ℕ → Type 0) (texts : List (List ℕ)) (number : List ℕ → ℕ) (static : ℕ → ℕ) (set : Setting around scope K texts number static) where
  stands_for : (x : List ℕ) (n : ℕ) → K x → StandsFor around (judged_label n (named scope x)) (number x)
  stands_for x n h = record {
    type = subst (λ j. IsVariableType (judged_type j)) (sym (set.variable x h)) (set.is_variable x h);
    pointer =
        ap (λ j. pointer_of around (judged_type j) (judged_meaning j)) (set.variable x h)
        ∙ outer_of around (set.type x) x (set.is_variable x h)
        ∙ set.object x h;
  }

  operand_word : (values : Values) (o : Operand) (objects : List Object) → Shows K texts number static values objects → FineOperand K o → operand_value values o < 2 ^ 32
  operand_word values (Variable x) objects h f = (h.holder x f).2.word
  operand_word values (Number n) objects h f = omega (arith, f)

  operand_play : (values : Values) (k first a : ℕ) (o : Operand) (s : State) → Shows K texts number static values s.objects → FineOperand K o
      → value around (typed_expression scope k first (operand_tree a o)) s ≡ Done (Word (operand_value values o)) s
  operand_play values k first a (Variable x) s h f =
      let w = h.holder x f in
      variable_value around x (judged_label (first + 0) (named scope x)) (number x) (values x) w.0 s (stands_for x (first + 0) f) w.1 w.2
  operand_play values k first a (Number n) s h f = refl

  sum_word : (values : Values) (left : Operand) (right : Option Operand) (objects : List Object) → Shows K texts number static values objects → FineOperand K left → FineIf K right → sum_value values left right < 2 ^ 32
  sum_word values left None objects h f g = operand_word values left objects h f
  sum_word values left (Some right) objects h f g = sum_is_word (operand_value values left) (operand_value values right)

  sum_play : (values : Values) (k first a : ℕ) (left : Operand) (right : Option Operand) (s : State) → Shows K texts number static values s.objects → FineOperand K left → FineIf K right
      → value around (typed_expression scope k first (sum_tree a left right)) s ≡ Done (Word (sum_value values left right)) s
  sum_play values k first a left None s h f g = operand_play values k first a left s h f
  sum_play values k first a left (Some right) s h f g =
      sum_plays around (label_here scope k first (sum_tree a left (Some right)))
      (typed_expression scope k first (operand_tree a left))
      (typed_expression scope (k + texts_in (operand_tree a left)) (first + nodes_of (operand_tree a left)) (operand_tree (a + 2) right))
      (operand_value values left) (operand_value values right) s
      (operand_play values k first a left s h f)
      (operand_play values (k + texts_in (operand_tree a left)) (first + nodes_of (operand_tree a left)) (a + 2) right s h g)

  -- an assignment keeps the relation
  assign_shows : (values : Values) (x : List ℕ) (m : ℕ) (objects : List Object) → K x → m < 2 ^ 32 → Shows K texts number static values objects
      → Shows K texts number static (assigned values x m) (slice_set objects (number x) (record { cells = number_cells 4 m; alive = true }))
  assign_shows values x m objects f w h = record {
    holder = λ y g.
        bool_cases (same_name y x)
        (λ e. let same : y ≡ x = same_is y x e in (
          record { cells = number_cells 4 m; alive = true },
          ap (λ z. slice_get (slice_set objects (number x) (record { cells = number_cells 4 m; alive = true })) (number z)) same
              ∙ get_set_same objects (number x) (h.holder x f).0 (record { cells = number_cells 4 m; alive = true }) (h.holder x f).1,
          subst (λ n. Holds (record { cells = number_cells 4 m; alive = true }) n) (sym (ap (λ b. if b then m else values y) e)) (record { alive = refl; cells = refl; word = w }),
        ))
        (λ e. (
          (h.holder y g).0,
          get_set_other objects (number y) (number x) (h.holder y g).0 (record { cells = number_cells 4 m; alive = true }) (λ eq. differ y e (set.apart y x g f eq)) (h.holder y g).1,
          subst (λ n. Holds (h.holder y g).0 n) (sym (ap (λ b. if b then m else values y) e)) (h.holder y g).2,
        ));
    shown = λ k bytes g. get_set_other objects (static k) (number x) (text_object bytes) (record { cells = number_cells 4 m; alive = true }) (set.clear x k bytes f g) (h.shown k bytes g);
  }
    where
      differ : (y : List ℕ) → same_name y x ≡ false → y ≡ x → ⊥
      differ y e g = let t : true ≡ false = sym (subst (λ z. same_name z x ≡ true) (sym g) (same_self x)) ∙ e in cc

  -- statements

  abbrev whole : (k first : ℕ) → Syntax → Label
  whole k first e = judged_label (first + (nodes_of e + 0)) typeless

  assign_is : (turns : ℕ) (values : Values) (k first a : ℕ) (x : List ℕ) (left : Operand) (right : Option Operand) (s : State)
      → Shows K texts number static values s.objects → Fine K (Assign x left right)
      → statement turns around (typed_statement scope k first (statement_tree a (Assign x left right))) s
      ≡ Done Normal (record s { objects = slice_set s.objects (number x) (record { cells = number_cells 4 (sum_value values left right); alive = true }) })
  assign_is turns values k first a x left right s h f =
      let w = h.holder x f.0 in
      assign_play turns around (whole k first (effect_tree a (Assign x left right))) (label_here scope k first (effect_tree a (Assign x left right)))
      (judged_label (first + 0) (named scope x)) x
      (typed_expression scope (k + 0) (first + 1) (sum_tree (a + 2) left right)) (number x) (values x) (sum_value values left right) w.0 s
      (stands_for x (first + 0) f.0) w.1 w.2 (sum_word values left right s.objects h f.1 f.2)
      (sum_play values (k + 0) (first + 1) (a + 2) left right s h f.1 f.2)

  write_label : (n : ℕ) → Calls around (judged_label n (named scope (codes "write"))) transfer_type (codes "write")
  write_label n = record {
    type = ap judged_type set.write;
    pointer = ap (λ j. pointer_of around transfer_type (judged_meaning j)) set.write ∙ ap ToFunction set.write_function;
  }

  exits_label : (n : ℕ) → Calls around (judged_label n (named scope (codes "exits"))) exits_type (codes "exits")
  exits_label n = record {
    type = ap judged_type set.exits;
    pointer = ap (λ j. pointer_of around exits_type (judged_meaning j)) set.exits ∙ ap ToFunction set.exits_function;
  }

  text_label : (n k m : ℕ) (text : List ℕ) → m ≡ k → slice_get texts k ≡ Some text
      → IsTextAt around (judged_label n (Has (Array Char (0 + length text + 1)) (Static m))) (0 + length text + 1) (static k)
  text_label n k m text e h = record { type = refl; pointer = ap around.static e ∙ set.text k text h }

  write_is : (turns : ℕ) (values : Values) (k first a : ℕ) (text : List ℕ) (count : Operand) (s : State)
      → Shows K texts number static values s.objects → FineOperand K count → slice_get texts k ≡ Some text
      → statement turns around (typed_statement scope k first (statement_tree a (Write text count))) s
      ≡ asks (codes "write") (Word 1 ∷ Address (Into (static k) 0) ∷ Word (operand_value values count) ∷ []) around (label_here scope k first (effect_tree a (Write text count))) s
  write_is turns values k first a text count s h f g =
      write_play turns around (whole k first (effect_tree a (Write text count))) (label_here scope k first (effect_tree a (Write text count)))
      (judged_label (first + 0) (named scope (codes "write")))
      (label_here scope (k + 0) (first + 1) (number_leaf 1 (a + 2)))
      (label_here scope (k + 0 + 0) (first + 1 + 1) (text_leaf text (a + 4)))
      (codes "write") (text ∷ [])
      (typed_expression scope (k + 0 + 0 + 1) (first + 1 + 1 + 1) (operand_tree (a + 6) count))
      (0 + length text + 1) (static k) (operand_value values count) s
      (write_label (first + 0)) (text_label (first + 1 + 1 + 0) k (k + 0 + 0 + 0) text (omega arith) g)
      (operand_play values (k + 0 + 0 + 1) (first + 1 + 1 + 1) (a + 6) count s h f)

  exits_is : (turns : ℕ) (k first a : ℕ) (text : List ℕ) (s : State) → slice_get texts k ≡ Some text
      → statement turns around (typed_statement scope k first (statement_tree a (Exits (Some text)))) s
      ≡ asks (codes "exits") (Address (Into (static k) 0) ∷ []) around (label_here scope k first (effect_tree a (Exits (Some text)))) s
  exits_is turns k first a text s g =
      exits_play turns around (whole k first (effect_tree a (Exits (Some text)))) (label_here scope k first (effect_tree a (Exits (Some text))))
      (judged_label (first + 0) (named scope (codes "exits")))
      (label_here scope (k + 0) (first + 1) (text_leaf text (a + 2)))
      (codes "exits") (text ∷ []) (0 + length text + 1) (static k) s
      (exits_label (first + 0)) (text_label (first + 1 + 0) k (k + 0 + 0) text (omega arith) g)

  exits_zero_is : (turns : ℕ) (k first a : ℕ) (s : State)
      → statement turns around (typed_statement scope k first (statement_tree a (Exits None))) s
      ≡ asks (codes "exits") (Address Null ∷ []) around (label_here scope k first (effect_tree a (Exits None))) s
  exits_zero_is turns k first a s =
      exits_zero_play turns around (whole k first (effect_tree a (Exits None))) (label_here scope k first (effect_tree a (Exits None)))
      (judged_label (first + 0) (named scope (codes "exits")))
      (label_here scope (k + 0) (first + 1) (number_leaf 0 (a + 2)))
      (codes "exits") s (exits_label (first + 0))

  -- The rest of the run: the statements that are left, and `main`'s return

  abbrev rest_of : (d active n c turns : ℕ) (call : Place) → TypedRow → State → End
  rest_of d active n c turns call rows s =
      resolve (calls_to d (functions_of modules)) active n c (bind (statements turns around rows s) (λ flow t. Done (given call flow) t))

  -- where the call has ended
  abbrev goes_on_with : (d active turns : ℕ) (call : Place) → TypedRow → End → Outcome
  goes_on_with d active turns call rows e = outcome_of (and_then e (λ v t n c. rest_of d active n c turns call rows t))

  abbrev asked : List ℕ → List Value → Place → Call
  asked function arguments place = record { function = Global function; arguments = arguments; place = place }

  abbrev Comes : (d active n c turns : ℕ) (call : Place) → TypedRow → State → Came → Type 0
  Comes d active n c turns call rows s came = ComesTo (outcome_of (rest_of d active n c turns call rows s)) came

  fails_or : (b : Bool) (next other : Came) (o : Outcome) → b ≡ true → ComesTo o next → ComesTo o (if b then next else other)
  fails_or b next other o e h = subst (λ b. ComesTo o (if b then next else other)) (sym e) h

  or_else : (b : Bool) (next other : Came) (o : Outcome) → b ≡ false → ComesTo o other → ComesTo o (if b then next else other)
  or_else b next other o e h = subst (λ b. ComesTo o (if b then next else other)) (sym e) h

  -- `write` at its own turn
  write_comes : (d active n c turns : ℕ) (call place : Place) (rows : TypedRow) (k m : ℕ) (text : List ℕ) (s : State) (next : List ℕ → Came)
      → slice_get s.objects (static k) ≡ Some (text_object text)
      → ((output : List ℕ) (v : Value) → ComesTo (goes_on_with (suc d) active turns call rows (Gave v (record s { output = output }) n c)) (next output))
      → ComesTo (goes_on_with (suc d) active turns call rows (calls_to (suc d) (functions_of modules) active (suc n) c (asked (codes "write") (Word 1 ∷ Address (Into (static k) 0) ∷ Word m ∷ []) place) s))
      (after_write s.output text m next)
  write_comes d active n c turns call place rows k m text s next h f =
      room_cases (active + 64)
      (λ e. subst (λ r. ComesTo (goes_on_with (suc d) active turns call rows r) (after_write s.output text m next)) (sym (deep_write modules d active n c (Word 1 ∷ Address (Into (static k) 0) ∷ Word m ∷ []) place s e)) tt)
      (λ le. bool_cases (is_negative m)
      (λ e. subst (λ r. ComesTo (goes_on_with (suc d) active turns call rows r) (after_write s.output text m next)) (sym (write_refuses modules d active n c (static k) m place s le e))
      (fails_or (is_negative m) (next s.output) (if nat_le m (length text + 1) then next (s.output ++ take m (text ++ 0 ∷ [])) else Fails) _ e (f s.output (Word 4294967295))))
      (λ e. or_else (is_negative m) (next s.output) (if nat_le m (length text + 1) then next (s.output ++ take m (text ++ 0 ∷ [])) else Fails) _ e
      (subst (λ r. ComesTo (goes_on_with (suc d) active turns call rows r) (if nat_le m (length text + 1) then next (s.output ++ take m (text ++ 0 ∷ [])) else Fails)) (sym (write_ends modules d active n c (static k) m place s le (not_negative m e)))
      (bool_cases (nat_le m (length text + 1))
      (λ g. fails_or (nat_le m (length text + 1)) (next (s.output ++ take m (text ++ 0 ∷ []))) Fails _ g
      (subst (λ p. ComesTo (goes_on_with (suc d) active turns call rows (resolve (calls_to d (functions_of modules)) (active + 64) n c p)) (next (s.output ++ take m (text ++ 0 ∷ [])))) (sym (written_text place (static k) m text s h (within m (length text + 1) g)))
      (f (s.output ++ take m (text ++ 0 ∷ [])) (Word m))))
      (λ g. or_else (nat_le m (length text + 1)) (next (s.output ++ take m (text ++ 0 ∷ []))) Fails _ g
      (subst (λ p. ComesTo (goes_on_with (suc d) active turns call rows (resolve (calls_to d (functions_of modules)) (active + 64) n c p)) Fails) (sym (written_past place (static k) m text s h (past m (length text + 1) g)))
      tt))))))

  exits_comes : (d active n c turns : ℕ) (call place : Place) (rows : TypedRow) (k : ℕ) (text : List ℕ) (s : State)
      → slice_get s.objects (static k) ≡ Some (text_object text) → All (λ b. b ≢ 0) text
      → ComesTo (goes_on_with (suc d) active turns call rows (calls_to (suc d) (functions_of modules) active (suc n) c (asked (codes "exits") (Address (Into (static k) 0) ∷ []) place) s))
      (Ends s.output text)
  exits_comes d active n c turns call place rows k text s h z =
      room_cases (active + 64)
      (λ e. subst (λ r. ComesTo (goes_on_with (suc d) active turns call rows r) (Ends s.output text)) (sym (deep_exits modules d active n c (Address (Into (static k) 0) ∷ []) place s e)) tt)
      (λ le. subst (λ r. ComesTo (goes_on_with (suc d) active turns call rows r) (Ends s.output text)) (sym (exits_ends modules d active n c (Into (static k) 0) place s le))
      (subst (λ p. ComesTo (goes_on_with (suc d) active turns call rows (resolve (calls_to d (functions_of modules)) (active + 64) n c p)) (Ends s.output text)) (sym (exits_text place (static k) text s h z)) (refl, refl)))

  exits_zero_comes : (d active n c turns : ℕ) (call place : Place) (rows : TypedRow) (s : State)
      → ComesTo (goes_on_with (suc d) active turns call rows (calls_to (suc d) (functions_of modules) active (suc n) c (asked (codes "exits") (Address Null ∷ []) place) s))
      (Ends s.output [])
  exits_zero_comes d active n c turns call place rows s =
      room_cases (active + 64)
      (λ e. subst (λ r. ComesTo (goes_on_with (suc d) active turns call rows r) (Ends s.output [])) (sym (deep_exits modules d active n c (Address Null ∷ []) place s e)) tt)
      (λ le. subst (λ r. ComesTo (goes_on_with (suc d) active turns call rows r) (Ends s.output [])) (sym (exits_ends modules d active n c Null place s le)) (refl, refl))

  abbrev first_then : (d active n c turns : ℕ) (call : Place) → TypedRow → Play Flow → Outcome
  first_then d active n c turns call rows p =
      outcome_of (resolve (calls_to d (functions_of modules)) active n c (bind (bind p (λ flow u. then_go flow u (statements turns around rows))) (λ flow t. Done (given call flow) t)))

  -- the statements behind the first
  abbrev rows_behind : (k first a : ℕ) → Statement → List Statement → TypedRow
  rows_behind k first a st ss = typed_statements scope (k + texts_in (statement_tree a st)) (first + nodes_of (statement_tree a st)) (statement_trees (a + statement_size st) ss)

  out_at_exits : (d active c turns k first a : ℕ) (call : Place) (text : Option (List ℕ)) (ss : List Statement) (s : State) → HasText texts k (Exits text)
      → ComesTo (outcome_of (rest_of d active zero c turns call (typed_statements scope k first (statement_trees a (Exits text ∷ ss))) s)) (RunsOut s.output)
  out_at_exits zero active c turns k first a call None ss s t =
      subst (λ p. ComesTo (first_then zero active zero c turns call (rows_behind k first a (Exits None) ss) p) (RunsOut s.output)) (sym (exits_zero_is turns k first a s)) refl
  out_at_exits (suc d) active c turns k first a call None ss s t =
      subst (λ p. ComesTo (first_then (suc d) active zero c turns call (rows_behind k first a (Exits None) ss) p) (RunsOut s.output)) (sym (exits_zero_is turns k first a s)) refl
  out_at_exits zero active c turns k first a call (Some text) ss s t =
      subst (λ p. ComesTo (first_then zero active zero c turns call (rows_behind k first a (Exits (Some text)) ss) p) (RunsOut s.output)) (sym (exits_is turns k first a text s t)) refl
  out_at_exits (suc d) active c turns k first a call (Some text) ss s t =
      subst (λ p. ComesTo (first_then (suc d) active zero c turns call (rows_behind k first a (Exits (Some text)) ss) p) (RunsOut s.output)) (sym (exits_is turns k first a text s t)) refl

  pub run_comes : (d active n c turns k first a : ℕ) (call : Place) (values : Values) (ss : List Statement) (s : State)
      → n ≤ d → AreFine K ss → HaveTexts texts k ss → Shows K texts number static values s.objects
      → ComesTo (outcome_of (rest_of d active n c turns call (typed_statements scope k first (statement_trees a ss)) s)) (statements_run n values ss s.output)
  run_comes d active n c turns k first a call values [] s le f t h = (refl, refl)
  run_comes d active n c turns k first a call values (Assign x left right ∷ ss) s le f t h =
      let rows : TypedRow = rows_behind k first a (Assign x left right) ss in
      subst (λ p. ComesTo (first_then d active n c turns call rows p) (statements_run n (assigned values x (sum_value values left right)) ss s.output))
      (sym (assign_is turns values k first a x left right s h f.0))
      (run_comes d active n c turns (k + texts_in (statement_tree a (Assign x left right))) (first + nodes_of (statement_tree a (Assign x left right))) (a + statement_size (Assign x left right)) call
      (assigned values x (sum_value values left right)) ss (record s { objects = slice_set s.objects (number x) (record { cells = number_cells 4 (sum_value values left right); alive = true }) }) le f.1
      (subst (λ i. HaveTexts texts (k + i) ss) (sym (statement_texts a (Assign x left right))) t.1)
      (assign_shows values x (sum_value values left right) s.objects f.0.0 (sum_word values left right s.objects h f.0.1 f.0.2) h))
  run_comes zero active zero c turns k first a call values (Write text count ∷ ss) s le f t h =
      let rows : TypedRow = rows_behind k first a (Write text count) ss in
      subst (λ p. ComesTo (first_then zero active zero c turns call rows p) (RunsOut s.output)) (sym (write_is turns values k first a text count s h f.0 t.0)) refl
  run_comes (suc d) active zero c turns k first a call values (Write text count ∷ ss) s le f t h =
      let rows : TypedRow = rows_behind k first a (Write text count) ss in
      subst (λ p. ComesTo (first_then (suc d) active zero c turns call rows p) (RunsOut s.output)) (sym (write_is turns values k first a text count s h f.0 t.0)) refl
  run_comes zero active (suc n) c turns k first a call values (Write text count ∷ ss) s le f t h = absurd (omega (arith, le))
  run_comes (suc d) active (suc n) c turns k first a call values (Write text count ∷ ss) s le f t h =
      let rows : TypedRow = rows_behind k first a (Write text count) ss in
      subst (λ p. ComesTo (first_then (suc d) active (suc n) c turns call rows p) (after_write s.output text (operand_value values count) (statements_run n values ss)))
      (sym (write_is turns values k first a text count s h f.0 t.0))
      (write_comes d active n c turns call (at around (label_here scope k first (effect_tree a (Write text count)))) rows k (operand_value values count) text s (statements_run n values ss) (h.shown k text t.0)
      (λ output v. run_comes (suc d) active n c turns (k + texts_in (statement_tree a (Write text count))) (first + nodes_of (statement_tree a (Write text count))) (a + statement_size (Write text count)) call values ss
      (record s { output = output }) (omega (arith, le)) f.1 (subst (λ i. HaveTexts texts (k + i) ss) (sym (statement_texts a (Write text count))) t.1) h))
  run_comes zero active zero c turns k first a call values (Exits text ∷ ss) s le f t h = out_at_exits zero active c turns k first a call text ss s t.0
  run_comes (suc d) active zero c turns k first a call values (Exits text ∷ ss) s le f t h = out_at_exits (suc d) active c turns k first a call text ss s t.0
  run_comes zero active (suc n) c turns k first a call values (Exits text ∷ ss) s le f t h = absurd (omega (arith, le))
  run_comes (suc d) active (suc n) c turns k first a call values (Exits None ∷ ss) s le f t h =
      let rows : TypedRow = rows_behind k first a (Exits None) ss in
      subst (λ p. ComesTo (first_then (suc d) active (suc n) c turns call rows p) (Ends s.output [])) (sym (exits_zero_is turns k first a s))
      (exits_zero_comes d active n c turns call (at around (label_here scope k first (effect_tree a (Exits None)))) rows s)
  run_comes (suc d) active (suc n) c turns k first a call values (Exits (Some text) ∷ ss) s le f t h =
      let rows : TypedRow = rows_behind k first a (Exits (Some text)) ss in
      subst (λ p. ComesTo (first_then (suc d) active (suc n) c turns call rows p) (Ends s.output text)) (sym (exits_is turns k first a text s t.0))
      (exits_comes d active n c turns call (at around (label_here scope k first (effect_tree a (Exits (Some text))))) rows k text s (h.shown k text t.0) f.0)
