-- Typed functions mean what the functions mean.
use Rattle.std.proofs.Common.{◌≡◌, ◌≤◌, ℕ, suc, ◌+◌, ◌*◌, List, [], ◌∷◌, ◌++◌, map, take, length, slice_get, Option, Some, None, refl, ap, ◌∙◌, arith, sum}
use Rattle.std.proofs.lemmas.List.{length-append, length-map}
use Rattle.p9_lang.specs.Types.{TypeTree, Function, TypeRow, Tags, Meant, row_types}
use Rattle.p9_lang.specs.Layout.{size_of, rounded, on_some}
use Rattle.p9_lang.specs.Modules.{Label, Typed, Source}
use Rattle.p9_lang.specs.Symbols.{symbols}
use Rattle.p9_cmean.specs.declared.Place.{Place}
use Rattle.p9_cmean.specs.Cells.{Value, Word, Address, Missing, Object, State}
use Rattle.p9_cmean.specs.Plays.{Call, Play, bind, Flow, Normal, Broke, Continued, Returned, Went}
use Rattle.p9_cmean.specs.Places.{or_no_meaning}
use Rattle.p9_cmean.specs.Automatics.{Living, numbered, next_object, with_objects, left}
use Rattle.p9_cmean.specs.Declarations.{Definition}
use Rattle.p9_cmean.specs.Union.{union_of, parameter_types, types_within, need_of, base_need, weighed_nodes}
use Rattle.p9_cmean.specs.Statements.{argument_object, argument_objects, parameters_from, given, with_parameters, living_in, run_block, statement}
use Rattle.p9_cmean.specs.Statements as source
use Rattle.p9_cmean.specs.CRun.{surroundings}
use Rattle.p9_tree.specs.Same.{Alike, AlikeFlow, SameCall}
use Rattle.p9_tree.specs.Same as plays
use Rattle.p9_tree.specs.Meaning.{Environment, execute, first_numbers, with_automatics, function_body}
use Rattle.p9_tree.specs.Meaning as typed
use Rattle.p9_tree.specs.TRun.{environment}
use Rattle.p9_tree.specs.TRun as run
use Rattle.p9_tree.proofs.Same.{same_bind}
use Rattle.p9_lower.specs.Statements.{stmt_tree}
use Rattle.p9_lower.specs.Modules.{setting_of, result_of, function_of}
use Rattle.p9_lower.specs.Premises.{StatementIsSound}
use Rattle.p9_lower.specs.Keeping.{Agree}
use Rattle.p9_lower.proofs.Plays.{along}
use Rattle.p9_lower.proofs.Statements.{flow_by, statement_same}
use Rattle.p9_lower.proofs.Agreeing.{names_agree}

-- PARAMETERS

one_argument : (tags : Tags) (type : TypeTree) (v : Value) → typed.argument_object (size_of tags type) v ≡ argument_object tags type v
one_argument tags type (Word n) = refl
one_argument tags type (Address p) = refl
one_argument tags type (Missing c) = refl

arguments_are : (tags : Tags) (types : List TypeTree) (vs : List Value) → typed.argument_objects (map (size_of tags) types) vs ≡ argument_objects tags types vs
arguments_are tags [] [] = refl
arguments_are tags [] (v ∷ vs) = refl
arguments_are tags (t ∷ ts) [] = refl
arguments_are tags (t ∷ ts) (v ∷ vs) =
    ap (λ o. on_some o (λ object. on_some (typed.argument_objects (map (size_of tags) ts) vs) (λ objects. Some (object ∷ objects)))) (one_argument tags t v)
    ∙ ap (λ r. on_some (argument_object tags t v) (λ object. on_some r (λ objects. Some (object ∷ objects)))) (arguments_are tags ts vs)

first_sizes : (f : TypeTree → ℕ) (ps ts : List TypeTree) → take (length ps) (map f (ps ++ ts)) ≡ map f ps
first_sizes f [] ts = refl
first_sizes f (p ∷ ps) ts = ap (λ l. f p ∷ l) (first_sizes f ps ts)

parameter_numbers : (k : ℕ) (ps : List TypeTree) → first_numbers k (length ps) ≡ map (λ d. d.number) (parameters_from k ps)
parameter_numbers k [] = refl
parameter_numbers k (p ∷ ps) = ap (λ l. k ∷ l) (parameter_numbers (suc k) ps)

-- THE END of a function

given_refl : (p q : Place) (f : Flow) (s : State) → plays.Same Alike (given p f s) (given q f s)
given_refl p q Normal s = (Missing q, refl, tt)
given_refl p q (Returned None) s = (Missing q, refl, tt)
given_refl p q (Returned (Some (Word n))) s = (Word n, refl, refl)
given_refl p q (Returned (Some (Address a))) s = (Address a, refl, refl)
given_refl p q (Returned (Some (Missing c))) s = (Missing c, refl, tt)
given_refl p q Broke s = tt
given_refl p q Continued s = tt
given_refl p q (Went l) s = tt

given_same : (p q : Place) (f g : Flow) (s : State) → AlikeFlow f g → plays.Same Alike (given p f s) (given q g s)
given_same p q f g s e = flow_by (λ f g. plays.Same Alike (given p f s) (given q g s)) f g e (λ f. given_refl p q f s) (λ v w a. (w, refl, a))

meaning_same : (p q : Place) (s : State) (o : Option (List Object)) (k l : List Object → Play Value) → ((x : List Object) → plays.Same Alike (k x) (l x))
    → plays.Same Alike (or_no_meaning p s o k) (or_no_meaning q s o l)
meaning_same p q s (Some x) k l h = h x
meaning_same p q s None k l h = tt

-- BODIES

module _ (modules : List Source) (owner : ℕ) (m : Source) (here : slice_get modules owner ≡ Some m) where
  with_names : (result : TypeTree) (sizes : List ℕ) (living : List Living)
      → Agree (symbols m) (with_parameters (surroundings (union_of modules) owner m.tags) result living) (with_automatics (environment (union_of modules) owner) sizes living)
  with_names result sizes living =
      let a : Agree (symbols m) (surroundings (union_of modules) owner m.tags) (environment (union_of modules) owner) = names_agree modules owner m here in
      record { outer = a.outer; static = a.static; moved = a.moved; automatics = refl }

  block_same : (turns : ℕ) (symbol : ℕ) (item : Typed) (result : TypeTree) (parameters : TypeRow) (label : Label) (number token : ℕ) (means : Meant) (block : Typed)
      → StatementIsSound (record (setting_of m) { result = result }) (row_types parameters ++ types_within block) block
      → (call other : Call) (s : State) → SameCall call other
      → plays.Same Alike (run_block turns (surroundings (union_of modules) owner m.tags) result (row_types parameters) block call s)
      (function_body turns (environment (union_of modules) owner)
      (function_of (setting_of m) symbol item (record { label = label; name = record { number = number; token = token; type = Function result parameters; means = means }; block = block })) other s)
  block_same turns symbol item result parameters label number token means block sound call other s same =
      let ps = row_types parameters in
      let sizes = map (size_of m.tags) (ps ++ types_within block) in
      let living = living_in (parameters_from 0 ps) s in
      let env = environment (union_of modules) owner in
      along Alike (run_block turns (surroundings (union_of modules) owner m.tags) result ps block call s)
      (function_body turns env
      (function_of (setting_of m) symbol item (record { label = label; name = record { number = number; token = token; type = Function result parameters; means = means }; block = block })) other s)
      (or_no_meaning other.place s (argument_objects m.tags ps call.arguments) (λ objects.
      bind (execute turns (with_automatics env sizes living) (stmt_tree (record (setting_of m) { result = result }) block) (with_objects objects s)) (λ flow t.
      given other.place flow (left living t))))
      (λ i. or_no_meaning other.place s
      ((ap (λ l. typed.argument_objects l other.arguments) (first_sizes (size_of m.tags) ps (types_within block))
      ∙ ap (λ vs. typed.argument_objects (map (size_of m.tags) ps) vs) same.arguments
      ∙ arguments_are m.tags ps call.arguments) i) (λ objects.
      bind (execute turns (with_automatics env sizes (numbered (next_object s) (parameter_numbers 0 ps i))) (stmt_tree (record (setting_of m) { result = result }) block) (with_objects objects s)) (λ flow t.
      given other.place flow (left (numbered (next_object s) (parameter_numbers 0 ps i)) t))))
      (meaning_same call.place other.place s (argument_objects m.tags ps call.arguments) _ _ (λ objects.
      same_bind AlikeFlow Alike
      (statement turns (with_parameters (surroundings (union_of modules) owner m.tags) result living) block (with_objects objects s))
      (execute turns (with_automatics env sizes living) (stmt_tree (record (setting_of m) { result = result }) block) (with_objects objects s)) _ _
      (statement_same (symbols m) (ps ++ types_within block) turns (with_parameters (surroundings (union_of modules) owner m.tags) result living) (with_automatics env sizes living)
      (with_names result sizes living) refl block (with_objects objects s) sound)
      (λ f g t e. given_same call.place other.place f g (left living t) e)))

  body_by : (turns : ℕ) (symbol : ℕ) (item : Typed) (label : Label) (number token : ℕ) (type : TypeTree) (means : Meant) (block : Typed)
      → StatementIsSound (record (setting_of m) { result = result_of type }) (parameter_types type ++ types_within block) block
      → (call other : Call) (s : State) → SameCall call other
      → plays.Same Alike
      (source.function_body turns (surroundings (union_of modules) owner m.tags) (record { label = label; name = record { number = number; token = token; type = type; means = means }; block = block }) call s)
      (function_body turns (environment (union_of modules) owner)
      (function_of (setting_of m) symbol item (record { label = label; name = record { number = number; token = token; type = type; means = means }; block = block })) other s)
  body_by turns symbol item label number token (Function result parameters) means block sound call other s same =
      block_same turns symbol item result parameters label number token means block sound call other s same
  body_by turns symbol item label number token type means block sound call other s same = tt

  pub bodies_same : (turns : ℕ) (symbol : ℕ) (item : Typed) (d : Definition)
      → StatementIsSound (record (setting_of m) { result = result_of d.name.type }) (parameter_types d.name.type ++ types_within d.block) d.block
      → (call other : Call) (s : State) → SameCall call other
      → plays.Same Alike (source.function_body turns (surroundings (union_of modules) owner m.tags) d call s)
      (function_body turns (environment (union_of modules) owner) (function_of (setting_of m) symbol item d) other s)
  bodies_same turns symbol item d sound call other s same =
      body_by turns symbol item d.label d.name.number d.name.token d.name.type d.name.means d.block sound call other s same

-- ROOM

rounded_sizes : (f : TypeTree → ℕ) (types : List TypeTree) → map (λ size. rounded size 4) (map f types) ≡ map (λ type. rounded (f type) 4) types
rounded_sizes f [] = refl
rounded_sizes f (t ∷ ts) = ap (λ l. rounded (f t) 4 ∷ l) (rounded_sizes f ts)

pub need_is : (m : Source) (symbol : ℕ) (item : Typed) (d : Definition) → run.need_of (function_of (setting_of m) symbol item d) ≡ need_of m.tags item d
need_is m symbol item d =
    ap (λ l. base_need + 8 * weighed_nodes item + sum l) (rounded_sizes (size_of m.tags) (parameter_types d.name.type ++ types_within d.block))

pub parameters_first : (m : Source) (symbol : ℕ) (item : Typed) (d : Definition)
    → (function_of (setting_of m) symbol item d).parameters ≤ length (function_of (setting_of m) symbol item d).sizes
parameters_first m symbol item d =
    let e : length (map (size_of m.tags) (parameter_types d.name.type ++ types_within d.block)) ≡ length (parameter_types d.name.type ++ types_within d.block) =
    length-map (parameter_types d.name.type ++ types_within d.block) (size_of m.tags) in
    omega (arith, e, length-append (parameter_types d.name.type) (types_within d.block))
