-- The small pieces of code of an expression run what the meaning's operations do.
use Rattle.std.proofs.Common.{◌≡◌, ℕ, suc, ◌+◌, Bool, true, false, not, if◌then◌else◌, List, [], ◌∷◌, length, Option, Some, None, Result, Ok, Err, slice_get, refl, sym, ap, subst, ◌∙◌, arith, length-append}
use Rattle.p9_lang.specs.declared.tree.CBinary.{CBinary}
use Rattle.p9_lang.specs.Types.{TypeTree, Void, Char, UChar, Short, UShort, Int, UInt, Long, ULong, Pointer, Array, Function, Tagged}
use Rattle.p9_lang.specs.Layout.{size_of, alignment_of}
use Rattle.p9_lang.specs.Constants.{truth}
use Rattle.p9_lang.specs.Conversions.{is_integer, is_pointer, Conversion, Same, Null, Inner, No}
use Rattle.p9_lang.specs.Conversions as conversions
use Rattle.p9_cmean.specs.declared.Cause.{Cause}
use Rattle.p9_cmean.specs.declared.Place.{Place}
use Rattle.p9_cmean.specs.Cells.{Cell, Object, Value, Word, Address, Missing, State}
use Rattle.p9_cmean.specs.Plays.{Play, Done, NoMeaning, Moved, bind}
use Rattle.p9_cmean.specs.Places.{used, or_wrong, or_no_meaning, done_at}
use Rattle.p9_cmean.specs.Access.{null, loaded, stored, moved_inside, read_whole, written_whole}
use Rattle.p9_cmean.specs.Operators.{holds, of_integer}
use Rattle.p9_cmean.specs.Operators as operators
use Rattle.p9_cmean.specs.Contents.{content_of}
use Rattle.p9_cmean.specs.Expressions.{Surroundings, read_at, store_content, narrow, convert_at, assign_scalar, assign_structure, operate, test_at, promoted, cast_to, chosen, answered_as}
use Rattle.p9_cmean.proofs.Plays.{bind_assoc}
use Rattle.p9_flat.specs.declared.op.Op.{Op}
use Rattle.p9_flat.specs.declared.op.Op.TheVariants as op
use Rattle.p9_flat.specs.declared.op.Scalar.{Scalar}
use Rattle.p9_flat.specs.declared.op.Scalar.TheVariants as scalar
use Rattle.p9_flat.specs.declared.op.Operation.{Operation}
use Rattle.p9_flat.specs.Resolved.{scalar_of, width, from_cells, tested_type, load, store, narrow_to, operate_on, operated, operation_of, test, tests}
use Rattle.p9_flat.specs.Code.{lacks_of, read_code, store_code, convert_code, assign_scalar_code, cast_code, operation_code, used_left, inner_code, truth_code, not_code, choice_code, chosen_code, answer_code}
use Rattle.p9_flat.specs.Step.{Own, frame, gone_to, stepped, copied_to, copied_from, step}
use Rattle.p9_flat.proofs.Playing.{has_first, has_second, IsSimple, simple_used, simple_wrong, simple_done, simple_option, simple_bind, by_moves, by_fails, by_branch}
use Rattle.p9_flat.proofs.Resolving.{by_operation, operation_is, by_tests, holds_is, narrow_is}
use Rattle.p9_flat.proofs.Runs.{World, PlaysIn, Landing, Runs, Straight, Pushes, seq, empty, moving, simple, lacking, using, lacking_of, along, by_jump}

abbrev pub place_of : Own → (here : ℕ) → Place
place_of own here = record { «module» = own.owner; node = here }

-- what has no meaning behind a use
pub unused : {A B : Type 0} (v : Value) (s : State) (place : Place) (k : A → State → Play B)
    → bind (used {A = A} v s (λ x. NoMeaning place s)) k ≡ used v s (λ x. NoMeaning place s)
unused (Word n) s place k = refl
unused (Address p) s place k = refl
unused (Missing call) s place k = refl

module _ (w : World) (own : Own) where
  -- READING

  loading : (pc here : ℕ) (moves : Scalar) (p : Value) (stack : List Value)
      → Runs Value w own pc (op.Load moves here ∷ []) (p ∷ stack) (λ s. load moves (place_of own here) p s) (Pushes w own stack)
  loading pc here moves p stack = simple stack (λ s. simple_done (place_of own here) s (loaded (from_cells moves) (width moves) (width moves) s.objects p)) (λ s. refl)

  pub reading : (around : Surroundings) (type : TypeTree) (pc here : ℕ) (p : Value) (stack : List Value)
      → Runs Value w own pc (read_code type here) (p ∷ stack) (λ s. read_at around type (place_of own here) p s) (Pushes w own stack)
  reading around Void pc here p stack = lacking
  reading around Char pc here p stack = loading pc here scalar.Char p stack
  reading around UChar pc here p stack = loading pc here scalar.UnsignedChar p stack
  reading around Short pc here p stack = loading pc here scalar.Short p stack
  reading around UShort pc here p stack = loading pc here scalar.UnsignedShort p stack
  reading around Int pc here p stack = loading pc here scalar.Word p stack
  reading around UInt pc here p stack = loading pc here scalar.Word p stack
  reading around Long pc here p stack = loading pc here scalar.Word p stack
  reading around ULong pc here p stack = loading pc here scalar.Word p stack
  reading around (Pointer target) pc here p stack = loading pc here scalar.Pointer p stack
  reading around (Array element n) pc here p stack = empty p
  reading around (Function result parameters) pc here p stack = empty p
  reading around (Tagged tag) pc here p stack = empty p

  -- WRITING

  putting : (pc here : ℕ) (moves : Scalar) (p v : Value) (stack : List Value)
      → Runs Value w own pc (op.Store moves here ∷ []) (v ∷ p ∷ stack) (λ s. store moves (place_of own here) p v s) (Pushes w own stack)
  putting pc here moves p v stack =
      simple stack (λ s. simple_wrong (place_of own here) s (stored (width moves) (width moves) s.objects p v) (λ objects. Done v (record s { objects = objects })) (λ objects. tt)) (λ s. refl)

  pub storing : (around : Surroundings) (type : TypeTree) (pc here : ℕ) (p v : Value) (stack : List Value)
      → Runs Value w own pc (store_code type here) (v ∷ p ∷ stack) (λ s. store_content (content_of type) around.tags type (place_of own here) p v s) (Pushes w own stack)
  storing around Void pc here p v stack = lacking
  storing around Char pc here p v stack = putting pc here scalar.Char p v stack
  storing around UChar pc here p v stack = putting pc here scalar.UnsignedChar p v stack
  storing around Short pc here p v stack = putting pc here scalar.Short p v stack
  storing around UShort pc here p v stack = putting pc here scalar.UnsignedShort p v stack
  storing around Int pc here p v stack = putting pc here scalar.Word p v stack
  storing around UInt pc here p v stack = putting pc here scalar.Word p v stack
  storing around Long pc here p v stack = putting pc here scalar.Word p v stack
  storing around ULong pc here p v stack = putting pc here scalar.Word p v stack
  storing around (Pointer target) pc here p v stack = putting pc here scalar.Pointer p v stack
  storing around (Array element n) pc here p v stack = lacking
  storing around (Function result parameters) pc here p v stack = lacking
  storing around (Tagged tag) pc here p v stack = lacking

  -- CONVERSION

  pub narrowing : (type : TypeTree) (pc here : ℕ) (v : Value) (stack : List Value)
      → Runs Value w own pc (op.Narrow (scalar_of type) here ∷ []) (v ∷ stack)
      (λ s. used v s (λ x. done_at (place_of own here) s (narrow type x))) (Pushes w own stack)
  narrowing type pc here v stack =
      along (λ s. used v s (λ x. done_at (place_of own here) s (narrow_to (scalar_of type) x)))
      (λ s i. used v s (λ x. done_at (place_of own here) s (narrow_is type x i)))
      (simple stack
      (λ s. simple_used v s (λ x. done_at (place_of own here) s (narrow_to (scalar_of type) x)) (λ x. simple_done (place_of own here) s (narrow_to (scalar_of type) x))) (λ s. refl))

  pub keeping : (pc : ℕ) (v : Value) (stack : List Value)
      → Runs Value w own pc (op.Use ∷ []) (v ∷ stack) (λ s. used v s (λ x. Done x s)) (Pushes w own stack)
  keeping pc v stack = using v {g = λ x s. Done x s} (λ x. empty x)

  inside : (pc here offset : ℕ) (v : Value) (stack : List Value)
      → Runs Value w own pc (op.Inner offset here ∷ []) (v ∷ stack)
      (λ s. used v s (λ x. done_at (place_of own here) s (moved_inside s.objects offset x))) (Pushes w own stack)
  inside pc here offset v stack =
      simple stack
      (λ s. simple_used v s (λ x. done_at (place_of own here) s (moved_inside s.objects offset x)) (λ x. simple_done (place_of own here) s (moved_inside s.objects offset x))) (λ s. refl)

  same_or_narrow : (b : Bool) (type : TypeTree) (pc here : ℕ) (v : Value) (stack : List Value)
      → Runs Value w own pc (if b then op.Narrow (scalar_of type) here ∷ [] else op.Use ∷ []) (v ∷ stack)
      (λ s. used v s (λ x. if b then done_at (place_of own here) s (narrow type x) else Done x s)) (Pushes w own stack)
  same_or_narrow true type pc here v stack = narrowing type pc here v stack
  same_or_narrow false type pc here v stack = keeping pc v stack

  pub converting : (c : Conversion) (type : TypeTree) (pc here : ℕ) (v : Value) (stack : List Value)
      → Runs Value w own pc (convert_code c type here) (v ∷ stack) (λ s. convert_at c (place_of own here) type v s) (Pushes w own stack)
  converting Same type pc here v stack = same_or_narrow (is_integer type) type pc here v stack
  converting conversions.Integer type pc here v stack = narrowing type pc here v stack
  converting Null type pc here v stack = simple stack (λ s. simple_used v s (λ x. Done null s) (λ x. tt)) (λ s. refl)
  converting (Inner offset) type pc here v stack = inside pc here offset v stack
  converting conversions.Ambiguous type pc here v stack = lacking_of v
  converting No type pc here v stack = lacking_of v

  pub assigning : (around : Surroundings) (c : Conversion) (type : TypeTree) (pc here : ℕ) (p v : Value) (stack : List Value)
      → Runs Value w own pc (assign_scalar_code c type here) (v ∷ p ∷ stack) (λ s. assign_scalar around c (place_of own here) type p v s) (Pushes w own stack)
  assigning around c type pc here p v stack =
      seq {f = λ s. convert_at c (place_of own here) type v s} {g = λ x t. store_content (content_of type) around.tags type (place_of own here) p x t}
      (converting c type pc here v (p ∷ stack)) (λ x. storing around type (pc + length (convert_code c type here)) here p x stack)

  pub casting : (type : TypeTree) (pc here : ℕ) (v : Value) (stack : List Value)
      → Runs Value w own pc (cast_code (content_of type) type here) (v ∷ stack) (λ s. cast_to (content_of type) type (place_of own here) v s) (Pushes w own stack)
  casting Void pc here v stack = moving (Missing (place_of own here) ∷ stack) (λ s. refl) (empty (Missing (place_of own here)))
  casting Char pc here v stack = narrowing Char pc here v stack
  casting UChar pc here v stack = narrowing UChar pc here v stack
  casting Short pc here v stack = narrowing Short pc here v stack
  casting UShort pc here v stack = narrowing UShort pc here v stack
  casting Int pc here v stack = narrowing Int pc here v stack
  casting UInt pc here v stack = narrowing UInt pc here v stack
  casting Long pc here v stack = narrowing Long pc here v stack
  casting ULong pc here v stack = narrowing ULong pc here v stack
  casting (Pointer target) pc here v stack = keeping pc v stack
  casting (Array element n) pc here v stack = lacking
  casting (Function result parameters) pc here v stack = lacking
  casting (Tagged tag) pc here v stack = lacking

  pub choosing : (type : TypeTree) (pc : ℕ) (v : Value) (stack : List Value)
      → Runs Value w own pc (chosen_code type) (v ∷ stack) (λ s. chosen type v s) (Pushes w own stack)
  choosing Void pc v stack = empty v
  choosing type pc v stack = keeping pc v stack

  -- COPIES

  copy_to : (pc size : ℕ) (place : Place) (to from : Value) (stack : List Value) (s : State) (o : Op) (r : Result (List Object) Cause) (k : Value → State → Play Value)
      → slice_get w.all pc ≡ Some o → step w.names o (frame pc (from ∷ to ∷ stack) own) s ≡ copied_to size place r to (frame pc stack own) s
      → ((x : Value) (t : State) → PlaysIn w (k x t) (frame (suc pc) (x ∷ stack) own) t)
      → PlaysIn w (bind (or_wrong place s r (λ objects. Moved size (Done to (record s { objects = objects })))) k) (frame pc (from ∷ to ∷ stack) own) s
  copy_to pc size place to from stack s o (Ok objects) k there is go =
      by_moves w.names w.all w.below size (k to (record s { objects = objects })) (frame pc (from ∷ to ∷ stack) own) (frame (suc pc) (to ∷ stack) own) s (record s { objects = objects }) o
      there is (go to (record s { objects = objects }))
  copy_to pc size place to from stack s o (Err why) k there is go =
      by_fails w.names w.all w.below why place (frame pc (from ∷ to ∷ stack) own) s s o there is

  copy_from : (pc size alignment : ℕ) (read place : Place) (to from : Value) (stack : List Value) (s : State) (o : Op) (r : Result (List Cell) Cause) (k : Value → State → Play Value)
      → slice_get w.all pc ≡ Some o → step w.names o (frame pc (from ∷ to ∷ stack) own) s ≡ copied_from size alignment read place r to from (frame pc stack own) s
      → ((x : Value) (t : State) → PlaysIn w (k x t) (frame (suc pc) (x ∷ stack) own) t)
      → PlaysIn w
      (bind (or_wrong read s r (λ cells. or_wrong place s (written_whole size alignment s.objects to from cells) (λ objects. Moved size (Done to (record s { objects = objects }))))) k)
      (frame pc (from ∷ to ∷ stack) own) s
  copy_from pc size alignment read place to from stack s o (Ok cells) k there is go =
      copy_to pc size place to from stack s o (written_whole size alignment s.objects to from cells) k there is go
  copy_from pc size alignment read place to from stack s o (Err why) k there is go =
      by_fails w.names w.all w.below why read (frame pc (from ∷ to ∷ stack) own) s s o there is

  pub copying : (around : Surroundings) (type : TypeTree) (pc read here : ℕ) (to from : Value) (stack : List Value)
      → Runs Value w own pc (op.Copy (size_of around.tags type) (alignment_of around.tags type) read here ∷ []) (from ∷ to ∷ stack)
      (λ s. assign_structure around (place_of own here) (place_of own read) type to from s) (Pushes w own stack)
  copying around type pc read here to from stack = record {
    runs = λ h fin e s k go.
        copy_from pc (size_of around.tags type) (alignment_of around.tags type) (place_of own read) (place_of own here) to from stack s
        (op.Copy (size_of around.tags type) (alignment_of around.tags type) read here)
        (read_whole (size_of around.tags type) (alignment_of around.tags type) s.objects from) k h.0 refl
        (λ x t. subst (λ m. PlaysIn w (k x t) (frame m (x ∷ stack) own) t) (omega (arith, e)) (go x t).plays);
  }

  -- OPERATORS

  pub left_used : (type : TypeTree) (pc here : ℕ) (v : Value) (stack : List Value)
      → Runs Value w own pc (used_left type here) (v ∷ stack)
      (λ s. if is_pointer type then used v s (λ x. Done x s) else promoted (place_of own here) v s) (Pushes w own stack)
  left_used type pc here v stack = by (is_pointer type)
    where
      by : (b : Bool) → Runs Value w own pc (if b then op.Use ∷ [] else op.Narrow scalar.Word here ∷ []) (v ∷ stack)
          (λ s. if b then used v s (λ x. Done x s) else promoted (place_of own here) v s) (Pushes w own stack)
      by true = keeping pc v stack
      by false = narrowing Int pc here v stack

  operating_by : (d : Option Operation) (does : List Object → Value → Value → Option (Result Value Cause))
      → ((objects : List Object) (x y : Value) → does objects x y ≡ by_operation d objects x y)
      → (pc here : ℕ) (a b : Value) (stack : List Value)
      → Runs Value w own pc (operation_code d here) (b ∷ a ∷ stack)
      (λ s. used a s (λ x. used b s (λ y. or_no_meaning (place_of own here) s (does s.objects x y) (λ r. done_at (place_of own here) s r))))
      (Pushes w own stack)
  operating_by (Some done) does is pc here a b stack =
      along (λ s. operate_on (place_of own here) done a b s)
      (λ s i. used a s (λ x. used b s (λ y. or_no_meaning (place_of own here) s (is s.objects x y i) (λ r. done_at (place_of own here) s r))))
      (simple stack
      (λ s. simple_used a s (λ x. used b s (λ y. done_at (place_of own here) s (operated done s.objects x y)))
      (λ x. simple_used b s (λ y. done_at (place_of own here) s (operated done s.objects x y)) (λ y. simple_done (place_of own here) s (operated done s.objects x y)))) (λ s. refl))
  operating_by None does is pc here a b stack =
      along (λ s. used a s (λ x. used b s (λ y. NoMeaning (place_of own here) s)))
      (λ s i. used a s (λ x. used b s (λ y. or_no_meaning (place_of own here) s (is s.objects x y i) (λ r. done_at (place_of own here) s r))))
      (moving (a ∷ b ∷ stack) (λ s. refl)
      (using a {g = λ x s. used b s (λ y. NoMeaning (place_of own here) s)}
      (λ x. moving (b ∷ x ∷ stack) (λ s. refl) (lacking_of b))))

  pub operating : (around : Surroundings) (symbol : CBinary) (left right : TypeTree) (pc here : ℕ) (a b : Value) (stack : List Value)
      → Runs Value w own pc (operation_code (operation_of symbol around.tags left right) here) (b ∷ a ∷ stack)
      (λ s. operate around (place_of own here) symbol left right a b s) (Pushes w own stack)
  operating around symbol left right pc here a b stack =
      operating_by (operation_of symbol around.tags left right) (λ objects x y. operators.operation symbol around.tags objects left right x y)
      (λ objects x y. operation_is symbol around.tags objects left right x y) pc here a b stack

  pub inner : (o : Option ℕ) (pc here : ℕ) (v : Value) (stack : List Value)
      → Runs Value w own pc (inner_code o here) (v ∷ stack)
      (λ s. used v s (λ x. or_no_meaning (place_of own here) s o (λ offset. done_at (place_of own here) s (moved_inside s.objects offset x))))
      (Pushes w own stack)
  inner None pc here v stack = lacking_of v
  inner (Some offset) pc here v stack = inside pc here offset v stack

  -- TESTS

  tested : (of_pointer : Bool) (here : ℕ) (v : Value) (s : State) → IsSimple (test of_pointer (place_of own here) v s)
  tested of_pointer here v s =
      simple_used v s (λ x. or_no_meaning (place_of own here) s (holds s.objects (tested_type of_pointer) x) (λ r. done_at (place_of own here) s r))
      (λ x. simple_option (place_of own here) s (holds s.objects (tested_type of_pointer) x) (λ r. done_at (place_of own here) s r) (λ r. simple_done (place_of own here) s r))

  -- what a test becomes by its type
  abbrev pub test_by : Option Bool → Place → Value → State → Play Bool
  test_by None place v s = used v s (λ x. NoMeaning place s)
  test_by (Some of_pointer) place v s = test of_pointer place v s

  pub test_is : (type : TypeTree) (place : Place) (v : Value) (s : State) → test_at place type v s ≡ test_by (tests type) place v s
  test_is type place v s =
      (λ i. used v s (λ x. or_no_meaning place s (holds_is s.objects type x i) (λ r. done_at place s r))) ∙ by (tests type)
    where
      by : (o : Option Bool) → used v s (λ x. or_no_meaning place s (by_tests o s.objects x) (λ r. done_at place s r)) ≡ test_by o place v s
      by None = refl
      by (Some of_pointer) = refl

  -- a number by a test
  numbered : (result : Bool → ℕ) (pc here : ℕ) (o : Op) (of_pointer : Bool) (v : Value) (stack : List Value)
      → ((s : State) → step w.names o (frame pc (v ∷ stack) own) s ≡ stepped (bind (test of_pointer (place_of own here) v s) (λ holds t. Done (Word (result holds)) t)) (frame pc stack own))
      → Runs Value w own pc (o ∷ []) (v ∷ stack) (λ s. bind (test of_pointer (place_of own here) v s) (λ holds t. Done (Word (result holds)) t)) (Pushes w own stack)
  numbered result pc here o of_pointer v stack is =
      simple stack (λ s. simple_bind (test of_pointer (place_of own here) v s) (λ holds t. Done (Word (result holds)) t) (tested of_pointer here v s) (λ holds t. tt)) is

  pub lacking_test : {A : Type 0} (pc here : ℕ) (v : Value) (stack : List Value) (k : Bool → State → Play A) (lands : Landing A)
      → Runs A w own pc (lacks_of here) (v ∷ stack) (λ s. bind (used v s (λ x. NoMeaning (place_of own here) s)) k) lands
  lacking_test pc here v stack k lands =
      along (λ s. used v s (λ x. NoMeaning (place_of own here) s)) (λ s. unused v s (place_of own here) k) (lacking_of v)

  truth_by : (o : Option Bool) (pc here : ℕ) (v : Value) (stack : List Value)
      → Runs Value w own pc (truth_code o here) (v ∷ stack)
      (λ s. bind (test_by o (place_of own here) v s) (λ holds t. Done (Word (truth holds)) t)) (Pushes w own stack)
  truth_by None pc here v stack = lacking_test pc here v stack (λ holds t. Done (Word (truth holds)) t) (Pushes w own stack)
  truth_by (Some of_pointer) pc here v stack = numbered truth pc here (op.Truth of_pointer here) of_pointer v stack (λ s. refl)

  pub truth_of : (type : TypeTree) (pc here : ℕ) (v : Value) (stack : List Value)
      → Runs Value w own pc (truth_code (tests type) here) (v ∷ stack)
      (λ s. bind (test_at (place_of own here) type v s) (λ holds t. Done (Word (truth holds)) t)) (Pushes w own stack)
  truth_of type pc here v stack =
      along (λ s. bind (test_by (tests type) (place_of own here) v s) (λ holds t. Done (Word (truth holds)) t))
      (λ s. ap (λ p. bind p (λ holds t. Done (Word (truth holds)) t)) (test_is type (place_of own here) v s))
      (truth_by (tests type) pc here v stack)

  not_by : (o : Option Bool) (pc here : ℕ) (v : Value) (stack : List Value)
      → Runs Value w own pc (not_code o here) (v ∷ stack)
      (λ s. bind (test_by o (place_of own here) v s) (λ holds t. Done (Word (truth (not holds))) t)) (Pushes w own stack)
  not_by None pc here v stack = lacking_test pc here v stack (λ holds t. Done (Word (truth (not holds))) t) (Pushes w own stack)
  not_by (Some of_pointer) pc here v stack = numbered (λ holds. truth (not holds)) pc here (op.Not of_pointer here) of_pointer v stack (λ s. refl)

  pub not_of : (type : TypeTree) (pc here : ℕ) (v : Value) (stack : List Value)
      → Runs Value w own pc (not_code (tests type) here) (v ∷ stack)
      (λ s. bind (test_at (place_of own here) type v s) (λ holds t. Done (Word (truth (not holds))) t)) (Pushes w own stack)
  not_of type pc here v stack =
      along (λ s. bind (test_by (tests type) (place_of own here) v s) (λ holds t. Done (Word (truth (not holds))) t))
      (λ s. ap (λ p. bind p (λ holds t. Done (Word (truth (not holds))) t)) (test_is type (place_of own here) v s))
      (not_by (tests type) pc here v stack)

  -- a test, and then where it holds, and where it doesn't
  pub branching : (pc here to : ℕ) (of_pointer : Bool) (v : Value) (stack : List Value) (s : State) (k : Bool → State → Play Value)
      → slice_get w.all pc ≡ Some (op.Branch of_pointer here to)
      → ((t : State) → PlaysIn w (k true t) (frame (suc pc) stack own) t)
      → ((t : State) → PlaysIn w (k false t) (frame to stack own) t)
      → PlaysIn w (bind (test of_pointer (place_of own here) v s) k) (frame pc (v ∷ stack) own) s
  branching pc here to of_pointer v stack s k there first second =
      by_branch w.names w.all w.below (test of_pointer (place_of own here) v s) k (frame pc (v ∷ stack) own) (frame pc stack own) s
      (op.Branch of_pointer here to) to (tested of_pointer here v s) there refl both
    where
      both : (holds : Bool) (t : State) → PlaysIn w (k holds t) (gone_to (if holds then suc pc else to) (frame pc stack own)) t
      both true t = first t
      both false t = second t

  -- what is played behind a piece is played at a jump to there
  abbrev pub Joins : {A : Type 0} → Landing A → Type 0
  Joins {A} lands =
      (m fin : ℕ) (x : A) (r : Play Value) (t : State) → slice_get w.all m ≡ Some (op.Jump fin) → lands fin x r t → lands m x r t

  pub joined : {A : Type 0} (after : A → List Value) → Joins (Straight A w own after)
  joined after m fin x r t there h = record { plays = by_jump w own r m fin (after x) t there h.plays }

  -- one of two pieces
  choice_by : {A : Type 0} (o : Option Bool) (pc here : ℕ) (first second : ℕ → List Op) (v : Value) (stack : List Value) (p q : State → Play A)
      (lands : Landing A) → Joins lands
      → ((n : ℕ) → Runs A w own n (first n) stack p lands) → ((n : ℕ) → Runs A w own n (second n) stack q lands)
      → Runs A w own pc (choice_code o here pc first second) (v ∷ stack)
      (λ s. bind (test_by o (place_of own here) v s) (λ holds t. if holds then p t else q t)) lands
  choice_by None pc here first second v stack p q lands joins one two =
      lacking_test pc here v stack (λ holds t. if holds then p t else q t) lands
  choice_by (Some of_pointer) pc here first second v stack p q lands joins one two = record {
    runs = λ h fin e s k go.
        let a : List Op = first (suc pc) in
        let z : ℕ = suc (suc (pc + length a)) in
        let b : List Op = second z in
        let l = length-append a (op.Jump (z + length b) ∷ b) in
        let tail = has_second w.all (suc pc) a (op.Jump (z + length b) ∷ b) (suc (pc + length a)) (omega arith) h.1 in
        let same : fin ≡ z + length b = omega (arith, e, l) in
        subst (λ r. PlaysIn w r (frame pc (v ∷ stack) own) s)
        (sym (bind_assoc (test of_pointer (place_of own here) v s) (λ holds t. if holds then p t else q t) k))
        (branching pc here z of_pointer v stack s (λ holds t. bind (if holds then p t else q t) k) h.0
        (λ t. (one (suc pc)).runs (has_first w.all (suc pc) a (op.Jump (z + length b) ∷ b) h.1) (suc (pc + length a)) (omega arith) t k
        (λ x u. joins (suc (pc + length a)) (z + length b) x (k x u) u tail.0 (subst (λ m. lands m x (k x u) u) same (go x u))))
        (λ t. (two z).runs tail.1 fin same t k go));
  }

  pub choice : {A : Type 0} (type : TypeTree) (pc here : ℕ) (first second : ℕ → List Op) (v : Value) (stack : List Value) (p q : State → Play A)
      (lands : Landing A) → Joins lands
      → ((n : ℕ) → Runs A w own n (first n) stack p lands) → ((n : ℕ) → Runs A w own n (second n) stack q lands)
      → Runs A w own pc (choice_code (tests type) here pc first second) (v ∷ stack)
      (λ s. bind (test_at (place_of own here) type v s) (λ holds t. if holds then p t else q t)) lands
  choice type pc here first second v stack p q lands joins one two =
      along (λ s. bind (test_by (tests type) (place_of own here) v s) (λ holds t. if holds then p t else q t))
      (λ s. ap (λ r. bind r (λ holds t. if holds then p t else q t)) (test_is type (place_of own here) v s))
      (choice_by (tests type) pc here first second v stack p q lands joins one two)

  -- a change of a word
  pub wording : (change : ℕ → ℕ) (pc here : ℕ) (o : Op) (v : Value) (stack : List Value)
      → ((s : State) → step w.names o (frame pc (v ∷ stack) own) s ≡ stepped (used v s (λ x. done_at (place_of own here) s (of_integer change x))) (frame pc stack own))
      → Runs Value w own pc (o ∷ []) (v ∷ stack) (λ s. used v s (λ x. done_at (place_of own here) s (of_integer change x))) (Pushes w own stack)
  wording change pc here o v stack is =
      simple stack (λ s. simple_used v s (λ x. done_at (place_of own here) s (of_integer change x)) (λ x. simple_done (place_of own here) s (of_integer change x))) is

  -- what a call gives
  answer_is_simple : (place : Place) (v : Value) (s : State) → IsSimple (answered_as true place v s)
  answer_is_simple place (Word n) s = tt
  answer_is_simple place (Address p) s = tt
  answer_is_simple place (Missing call) s = tt

  pub answering : (an_integer : Bool) (pc here : ℕ) (v : Value) (stack : List Value)
      → Runs Value w own pc (answer_code an_integer here) (v ∷ stack) (λ s. answered_as an_integer (place_of own here) v s) (Pushes w own stack)
  answering false pc here v stack = empty v
  answering true pc here v stack = simple stack (λ s. answer_is_simple (place_of own here) v s) (λ s. refl)
