-- The code of a function runs what its body does.
use Rattle.std.proofs.Common.{◌≡◌, ℕ, suc, ◌+◌, List, [], ◌∷◌, ◌++◌, length, map, Option, Some, None, slice_get, refl, sym, ap, subst, ◌∙◌, arith, append-nil}
use Rattle.p9_lang.specs.Types.{TypeTree, Function, Tags, Meant, row_types}
use Rattle.p9_lang.specs.Layout.{size_of, on_some}
use Rattle.p9_lang.specs.Modules.{Label, Typed}
use Rattle.p9_cmean.specs.declared.Place.{Place}
use Rattle.p9_cmean.specs.Cells.{Object, Value, Word, Address, Missing, State}
use Rattle.p9_cmean.specs.Plays.{Call, Play, Done, NoMeaning, bind, Flow, Normal, Broke, Continued, Returned, Went}
use Rattle.p9_cmean.specs.Automatics.{Declared, numbered, with_objects, left}
use Rattle.p9_cmean.specs.Expressions.{Surroundings}
use Rattle.p9_cmean.specs.Access.{value_cells}
use Rattle.p9_cmean.specs.Places.{or_no_meaning}
use Rattle.p9_cmean.specs.Statements.{argument_object, argument_objects, parameters_from, living_in, given, with_parameters, function_body, statement}
use Rattle.p9_flat.specs.declared.op.Op.{Op}
use Rattle.p9_flat.specs.declared.op.Op.TheVariants as op
use Rattle.p9_flat.specs.Code.{Numbers}
use Rattle.p9_flat.specs.Flat.{HasAt, slots, function_ends, entry_at, body_code, function_setting, function_code, parameter_sizes, statement_code}
use Rattle.p9_flat.specs.Laws.{AreNamed, PlaysFrom, CodeIsRight}
use Rattle.p9_flat.specs.Step.{Names, Own, frame, received_object, received, following, own_at}
use Rattle.p9_flat.proofs.Playing.{has_first, has_second, by_next, by_gives, by_lacks}
use Rattle.p9_flat.proofs.Runs.{World, PlaysIn, by_jump}
use Rattle.p9_flat.proofs.Naming.{Fits, own_of}
use Rattle.p9_flat.proofs.Blocks.{fresh, numbers_of, fresh_length, fits_more, leaving_step}
use Rattle.p9_flat.proofs.Flows.{Goes}
use Rattle.p9_flat.proofs.Stmts.{Inside, statement_runs}

-- ARGUMENTS

object_is : (tags : Tags) (type : TypeTree) (value : Value) → argument_object tags type value ≡ received_object (value_cells (size_of tags type) value)
object_is tags type (Word n) = refl
object_is tags type (Address p) = refl
object_is tags type (Missing call) = refl

received_is : (tags : Tags) (types : List TypeTree) (values : List Value) → argument_objects tags types values ≡ received (map (size_of tags) types) values
received_is tags [] [] = refl
received_is tags [] (value ∷ values) = refl
received_is tags (type ∷ types) [] = refl
received_is tags (type ∷ types) (value ∷ values) =
    ap (λ o. on_some o (λ object. on_some (argument_objects tags types values) (λ objects. Some (object ∷ objects)))) (object_is tags type value)
    ∙ ap (λ r. on_some (received_object (value_cells (size_of tags type) value)) (λ object. on_some r (λ objects. Some (object ∷ objects))))
    (received_is tags types values)

abbrev count_in : Option (List Object) → ℕ
count_in None = 0
count_in (Some objects) = length objects

-- there are as many objects as parameters
received_count : (sizes : List ℕ) (values : List Value) (objects : List Object) → received sizes values ≡ Some objects → length objects ≡ length sizes
received_count [] [] objects h = sym (ap count_in h)
received_count [] (value ∷ values) objects h = cc
received_count (size ∷ sizes) [] objects h = cc
received_count (size ∷ sizes) (value ∷ values) objects h =
    by (received_object (value_cells size value)) (received sizes values) (λ others. received_count sizes values others) objects h
  where
    by : (o : Option Object) (r : Option (List Object)) → ((others : List Object) → r ≡ Some others → length others ≡ length sizes) → (objects : List Object)
        → on_some o (λ object. on_some r (λ others. Some (object ∷ others))) ≡ Some objects → length objects ≡ suc (length sizes)
    by None r same objects h = cc
    by (Some o) None same objects h = cc
    by (Some o) (Some others) same objects h = sym (ap count_in h) ∙ ap (λ n. suc n) (same others refl)

parameter_count : (number : ℕ) (types : List TypeTree) → length (parameters_from number types) ≡ length types
parameter_count number [] = refl
parameter_count number (type ∷ types) = ap (λ n. suc n) (parameter_count (suc number) types)

map_count : (f : TypeTree → ℕ) (types : List TypeTree) → length (map f types) ≡ length types
map_count f [] = refl
map_count f (type ∷ types) = ap (λ n. suc n) (map_count f types)

following_is : (next : ℕ) (ds : List Declared) → following next (length ds) ≡ fresh next ds
following_is next [] = refl
following_is next (d ∷ ds) = ap (λ l. next ∷ l) (following_is (suc next) ds)

-- THE END of a function

module _ (w : World) (around : Surroundings) (call : Place) (ds : List Declared) (next pc stop : ℕ)
    (leave : slice_get w.all pc ≡ Some (op.Leave 0)) (giving : slice_get w.all (suc pc) ≡ Some op.Return)
    (leave_astray : slice_get w.all (suc (suc pc)) ≡ Some (op.Leave 0)) (stray : slice_get w.all (suc (suc (suc pc))) ≡ Some op.Stray)
    (nothing : slice_get w.all stop ≡ Some op.Nothing) (back : slice_get w.all (suc stop) ≡ Some (op.Jump pc)) where
  abbrev inside : Own
  inside = own_of around (fresh next ds) call

  abbrev dead : State → State
  dead t = left (numbered next (numbers_of ds)) t

  gives : (v : Value) (t : State) → PlaysIn w (Done v (dead t)) (frame pc (v ∷ w.below) inside) t
  gives v t =
      by_next w.names w.all w.below (Done v (dead t)) (frame pc (v ∷ w.below) inside) (frame (suc pc) (v ∷ w.below) (own_of around [] call)) t (dead t) (op.Leave 0) leave
      (leaving_step w around call ds [] 0 next pc (v ∷ w.below) t refl)
      (by_gives w.names w.all w.below v (frame (suc pc) (v ∷ w.below) (own_of around [] call)) (frame (suc pc) w.below (own_of around [] call)) (dead t) (dead t) op.Return giving refl refl refl)

  astray : (t : State) → PlaysIn w (NoMeaning call (dead t)) (frame (suc (suc pc)) w.below inside) t
  astray t =
      by_next w.names w.all w.below (NoMeaning call (dead t)) (frame (suc (suc pc)) w.below inside) (frame (suc (suc (suc pc))) w.below (own_of around [] call)) t (dead t) (op.Leave 0) leave_astray
      (leaving_step w around call ds [] 0 next (suc (suc pc)) w.below t refl)
      (by_lacks w.names w.all w.below call (frame (suc (suc (suc pc))) w.below (own_of around [] call)) (dead t) (dead t) op.Stray stray refl)

  ending : (flow : Flow) (t : State) → Goes w inside (function_ends pc) w.below stop flow (given call flow (dead t)) t
  ending Normal t = record {
    goes =
        by_next w.names w.all w.below (Done (Missing call) (dead t)) (frame stop w.below inside) (frame (suc stop) (Missing call ∷ w.below) inside) t t op.Nothing nothing refl
        (by_jump w inside (Done (Missing call) (dead t)) (suc stop) pc (Missing call ∷ w.below) t back (gives (Missing call) t));
  }
  ending Broke t = record { goes = astray t }
  ending Continued t = record { goes = astray t }
  ending (Returned None) t = record { goes = gives (Missing call) t }
  ending (Returned (Some v)) t = record { goes = gives v t }
  ending (Went l) t = record { goes = tt }

-- FUNCTIONS

block_plays : (names : Names) (numbers : Numbers) (around : Surroundings) → AreNamed names numbers around → (result : TypeTree) (types : List TypeTree)
    → (all : List Op) (pc : ℕ) (block : Typed) → HasAt all pc (body_code (function_setting numbers around result types) pc block)
    → (turns : ℕ) (call : Place) (s : State) (below : List Value) (objects : List Object)
    → PlaysIn (record { names = names; all = all; below = below })
    (bind (statement turns (with_parameters around result (living_in (parameters_from 0 types) s)) block (with_objects objects s)) (λ flow t.
    given call flow (left (living_in (parameters_from 0 types) s) t)))
    (frame (entry_at pc) below (own_of around (fresh (length s.objects) (parameters_from 0 types)) call)) (with_objects objects s)
block_plays names numbers around named result types all pc block h turns call s below objects =
    let w : World = record { names = names; all = all; below = below } in
    let ds : List Declared = parameters_from 0 types in
    let next : ℕ = length s.objects in
    let home : Surroundings = record around { result = result } in
    let i : Inside = record {
      scope = slots 0 ds ++ [];
      alive = 0 + length ds;
      living = living_in ds s;
      automatics = fresh next ds;
      fits = subst (λ l. Fits (slots 0 ds ++ []) l (fresh next ds)) (append-nil (living_in ds s)) (fits_more ds [] [] [] 0 next refl tt);
      count = let c = fresh_length next ds in omega (arith, c);
    } in
    let code : List Op = statement_code (function_setting numbers around result types) (function_ends pc) (entry_at pc) block in
    let stop : ℕ = entry_at pc + length code in
    let tail = has_second all (entry_at pc) code (op.Nothing ∷ op.Jump pc ∷ []) stop refl h.1.1.1.1 in
    (statement_runs w numbers home (record { functions = named.functions; types = named.types }) call turns block i (function_ends pc) (entry_at pc) below).runs
    (has_first all (entry_at pc) code (op.Nothing ∷ op.Jump pc ∷ []) h.1.1.1.1) stop refl (with_objects objects s)
    (λ flow t. given call flow (left (living_in ds s) t))
    (ending w home call ds next pc stop h.0 h.1.0 h.1.1.0 h.1.1.1.0 tail.0 tail.1.0)

body_plays : (names : Names) (numbers : Numbers) (around : Surroundings) → AreNamed names numbers around → (result : TypeTree) (types : List TypeTree)
    → (all : List Op) (pc : ℕ) (block : Typed) → HasAt all pc (body_code (function_setting numbers around result types) pc block)
    → (turns : ℕ) (call : Call) (s : State) (below : List Value) (o : Option (List Object)) → received (map (size_of around.tags) types) call.arguments ≡ o
    → PlaysFrom names all below pc around.owner o call s
    (or_no_meaning call.place s o (λ objects.
    bind (statement turns (with_parameters around result (living_in (parameters_from 0 types) s)) block (with_objects objects s)) (λ flow t.
    given call.place flow (left (living_in (parameters_from 0 types) s) t))))
body_plays names numbers around named result types all pc block h turns call s below None same = refl
body_plays names numbers around named result types all pc block h turns call s below (Some objects) same =
    let ds : List Declared = parameters_from 0 types in
    let w : World = record { names = names; all = all; below = below } in
    let p : Play Value = bind (statement turns (with_parameters around result (living_in ds s)) block (with_objects objects s)) (λ flow t. given call.place flow (left (living_in ds s) t)) in
    subst (λ n. PlaysIn w p (frame (entry_at pc) below (own_at around.owner call.place n s)) (with_objects objects s))
    (parameter_count 0 types ∙ sym (map_count (size_of around.tags) types) ∙ sym (received_count (map (size_of around.tags) types) call.arguments objects same))
    (subst (λ l. PlaysIn w p (frame (entry_at pc) below (own_of around l call.place)) (with_objects objects s)) (sym (following_is (length s.objects) ds))
    (block_plays names numbers around named result types all pc block h turns call.place s below objects))

definition_plays : (names : Names) (numbers : Numbers) (around : Surroundings) → AreNamed names numbers around → (label : Label) (number token : ℕ) (type : TypeTree) (means : Meant) (block : Typed)
    → (all : List Op) (pc : ℕ)
    → HasAt all pc (function_code numbers around pc (record { label = label; name = record { number = number; token = token; type = type; means = means }; block = block }))
    → (turns : ℕ) (call : Call) (s : State) (below : List Value)
    → PlaysFrom names all below pc around.owner (on_some (parameter_sizes around.tags type) (λ sizes. received sizes call.arguments)) call s
    (function_body turns around (record { label = label; name = record { number = number; token = token; type = type; means = means }; block = block }) call s)
definition_plays names numbers around named label number token (Function result parameters) means block all pc h turns call s below =
    subst (λ o. PlaysFrom names all below pc around.owner (received (map (size_of around.tags) (row_types parameters)) call.arguments) call s
    (or_no_meaning call.place s o (λ objects.
    bind (statement turns (with_parameters around result (living_in (parameters_from 0 (row_types parameters)) s)) block (with_objects objects s)) (λ flow t.
    given call.place flow (left (living_in (parameters_from 0 (row_types parameters)) s) t)))))
    (sym (received_is around.tags (row_types parameters) call.arguments))
    (body_plays names numbers around named result (row_types parameters) all pc block h turns call s below
    (received (map (size_of around.tags) (row_types parameters)) call.arguments) refl)
definition_plays names numbers around named label number token type means block all pc h turns call s below = refl

pub code_is_right : CodeIsRight
code_is_right names numbers around named all pc definition h turns call s below =
    definition_plays names numbers around named definition.label definition.name.number definition.name.token definition.name.type definition.name.means definition.block
    all pc h turns call s below
