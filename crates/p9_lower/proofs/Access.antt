-- Names, and what is read at addresses; members; tests; conversions.
use Rattle.std.proofs.Common.{◌≡◌, ℕ, zero, suc, ◌==◌, Bool, true, false, not, if◌then◌else◌, List, Option, Some, None, Result, Ok, Err, refl, sym, ap, ◌∙◌, subst}
use Rattle.p9_lang.specs.Types.{TypeTree, Void, Pointer, Tags, Meant, Nothing, Outer, Static, Auto, EnumValue, TypeName}
use Rattle.p9_lang.specs.Layout.{size_of, alignment_of}
use Rattle.p9_lang.specs.Conversions.{is_function, is_integer, Conversion, Same, Integer, Null, Inner, Ambiguous, No}
use Rattle.p9_lang.specs.Constants.{narrowed}
use Rattle.p9_lang.specs.Symbols.{Symbol}
use Rattle.p9_cmean.specs.declared.Cause.{Cause}
use Rattle.p9_cmean.specs.declared.Place.{Place}
use Rattle.p9_cmean.specs.Cells.{Value, Word, Address, Missing, Object, State}
use Rattle.p9_cmean.specs.Cells as cells
use Rattle.p9_cmean.specs.Plays.{Play, Done, bind}
use Rattle.p9_cmean.specs.Places.{used, done_at, or_no_meaning}
use Rattle.p9_cmean.specs.Access.{and_go, pointer_in, integer_in, null, loaded, integer_from, pointer_from, moved_inside}
use Rattle.p9_cmean.specs.Contents.{Content, content_of}
use Rattle.p9_cmean.specs.Contents as contents
use Rattle.p9_cmean.specs.Automatics.{living_object}
use Rattle.p9_cmean.specs.Operators.{if_integer, holds, pointer_holds, of_integer}
use Rattle.p9_cmean.specs.Expressions.{Surroundings, outer_pointer, pointer_to, read_content, read_at, narrow, convert_at, cast_to, test_at, chosen}
use Rattle.p9_tree.specs.declared.tree.Width.{Width}
use Rattle.p9_tree.specs.declared.tree.Width.TheVariants as width
use Rattle.p9_tree.specs.declared.tree.UnOp.{UnOp}
use Rattle.p9_tree.specs.declared.tree.BinOp.TheVariants as bin
use Rattle.p9_tree.specs.Same.{Equal}
use Rattle.p9_tree.specs.Same as plays
use Rattle.p9_tree.specs.Trees.{Tree, Const, Un}
use Rattle.p9_tree.specs.Operations.{of_width, loaded_width, of_one, test_of}
use Rattle.p9_tree.specs.Meaning.{Environment, evaluate, load, operate, test, pointer_or_none, nowhere}
use Rattle.p9_tree.proofs.Same.{same_bind}
use Rattle.p9_lower.specs.Names.{outer_symbol, static_symbol, symbol_tree, name_tree}
use Rattle.p9_lower.specs.Operators.{width_of, narrowed_tree, content_tree, read_tree, moved_tree, inner_tree, converted_tree, cast_tree}
use Rattle.p9_lower.specs.Premises.{NameIsKnown}
use Rattle.p9_lower.specs.Keeping.{Stands, Agree, is_function_at, setting_in}
use Rattle.p9_lower.proofs.Plays.{stands_refl, bind_done, along, used_free, used_same, done_same}
use Rattle.p9_lower.proofs.Widths.{narrow_width, integer_loads, pointer_loads, is_word_width, no_integer_width}
use Rattle.p9_lower.proofs.Moving.{inside_is_added}
use Rattle.p9_lower.proofs.Trees.{operated, SymbolsMove, moved_is}
use Rattle.p9_lower.proofs.Operating.{some_ok, of_integer_type}

-- a result that a value gives, a value that stands for it gives too
pub stands_ok : {A : Type 0} (r : Value → Result A Cause) (v w : Value) (x : A) → Stands v w
    → ((c : Place) (x : A) → r (Missing c) ≡ Ok x → ⊥) → r v ≡ Ok x → r w ≡ Ok x
stands_ok r (Word n) w x h m e = subst (λ y. r y ≡ Ok x) h e
stands_ok r (Address p) w x h m e = subst (λ y. r y ≡ Ok x) h e
stands_ok r (Missing c) w x h m e = absurd (m c x e)

-- what follows a play changes nothing in the tree's
pub then_same : (p q : Play Value) (k : Value → State → Play Value) → plays.Same Stands p q
    → ((v w : Value) (t : State) → Stands v w → plays.Same Stands (k v t) (Done w t)) → plays.Same Stands (bind p k) q
then_same p q k h g = along Stands (bind p k) q (bind q (λ v t. Done v t)) (sym (bind_done q)) (same_bind Stands Stands p q k (λ v t. Done v t) h g)

-- NAMES

pointer_same : (place : Place) (s : State) (o r : Option cells.Pointer) → r ≡ o
    → plays.Same Stands (or_no_meaning place s o (λ p. Done (Address p) s)) (pointer_or_none r s)
pointer_same place s (Some p) r e = subst (λ x. plays.Same Stands (Done (Address p) s) (pointer_or_none x s)) (sym e) (Address p, refl, refl)
pointer_same place s None r e = tt

module _ (symbols : List Symbol) (around : Surroundings) (env : Environment) (agree : Agree symbols around env) where
  outer_same : (place : Place) (s : State) (type : TypeTree) (name : List ℕ) (k : Option ℕ) → outer_symbol symbols name ≡ k
      → is_function_at symbols k ≡ Some (is_function type)
      → plays.Same Stands (or_no_meaning place s (outer_pointer around type name) (λ p. Done (Address p) s)) (evaluate env (symbol_tree k) s)
  outer_same place s type name (Some k) e h = pointer_same place s (outer_pointer around type name) (env.symbol k 0) (agree.outer name type k e h)
  outer_same place s type name None e h = cc

  static_same : (place : Place) (s : State) (number : ℕ) (k : Option ℕ) → static_symbol symbols number ≡ k
      → is_function_at symbols k ≡ Some false
      → plays.Same Stands (or_no_meaning place s (around.static number) (λ p. Done (Address p) s)) (evaluate env (symbol_tree k) s)
  static_same place s number (Some k) e h = pointer_same place s (around.static number) (env.symbol k 0) (agree.static number k e h)
  static_same place s number None e h = cc

  pub name_same : (place : Place) (s : State) (type : TypeTree) (means : Meant) → NameIsKnown symbols type means
      → plays.Same Stands (or_no_meaning place s (pointer_to around type means) (λ p. Done (Address p) s)) (evaluate env (name_tree (setting_in symbols around) means) s)
  name_same place s type Nothing h = tt
  name_same place s type (Outer name) h = outer_same place s type name (outer_symbol symbols name) refl h
  name_same place s type (Static number) h = static_same place s number (static_symbol symbols number) refl h
  name_same place s type (Auto number) h =
      pointer_same place s (living_object around.automatics number) (living_object env.automatics number) (ap (λ l. living_object l number) agree.automatics)
  name_same place s type (EnumValue n) h = tt
  name_same place s type (TypeName t) h = tt

-- READING

pub load_done : (w : Width) (s : State) (a x : Value) → loaded_width w s.objects a ≡ Ok x → load w a s ≡ Done x s
load_done w s (Word n) x e = ap (λ r. done_at nowhere s r) e
load_done w s (Address p) x e = ap (λ r. done_at nowhere s r) e
load_done w s (Missing c) x e = cc

pub integer_loaded : (tags : Tags) (type : TypeTree) (s : State) (a a' x : Value) → content_of type ≡ contents.Integer → Stands a a'
    → loaded (integer_from (narrowed type)) (size_of tags type) (alignment_of tags type) s.objects a ≡ Ok x → load (width_of type) a' s ≡ Done x s
integer_loaded tags type s a a' x c h e =
    load_done (width_of type) s a' x (integer_loads tags type s.objects a' x c
    (stands_ok (loaded (integer_from (narrowed type)) (size_of tags type) (alignment_of tags type) s.objects) a a' x h (λ d y f. cc) e))

pub pointer_loaded : (tags : Tags) (type : TypeTree) (s : State) (a a' x : Value) → content_of type ≡ contents.Reference → Stands a a'
    → loaded pointer_from (size_of tags type) (alignment_of tags type) s.objects a ≡ Ok x → load (width_of type) a' s ≡ Done x s
pointer_loaded tags type s a a' x c h e =
    load_done (width_of type) s a' x (pointer_loads tags type s.objects a' x c
    (stands_ok (loaded pointer_from (size_of tags type) (alignment_of tags type) s.objects) a a' x h (λ d y f. cc) e))

content_same : (env : Environment) (content : Content) (tags : Tags) (type : TypeTree) (place : Place) (p : Play Value) (a : Tree) (s : State) → content_of type ≡ content
    → plays.Same Stands p (evaluate env a s)
    → plays.Same Stands (bind p (λ v t. read_content content tags type place v t)) (evaluate env (content_tree content (width_of type) a) s)
content_same env contents.Integer tags type place p a s c h =
    same_bind Stands Stands p (evaluate env a s) _ _ h (λ v w t g. done_same place t _ _ (λ x e. integer_loaded tags type t v w x c g e))
content_same env contents.Reference tags type place p a s c h =
    same_bind Stands Stands p (evaluate env a s) _ _ h (λ v w t g. done_same place t _ _ (λ x e. pointer_loaded tags type t v w x c g e))
content_same env contents.Aggregate tags type place p a s c h = then_same p (evaluate env a s) _ h (λ v w t g. (w, refl, g))
content_same env contents.Nothing tags type place p a s c h = then_same p (evaluate env a s) _ h (λ v w t g. tt)

pub read_same : (env : Environment) (around : Surroundings) (type : TypeTree) (place : Place) (p : Play Value) (a : Tree) (s : State)
    → plays.Same Stands p (evaluate env a s)
    → plays.Same Stands (bind p (λ v t. read_at around type place v t)) (evaluate env (read_tree type a) s)
read_same env around type place p a s h = content_same env (content_of type) around.tags type place p a s refl h

-- MEMBERS

-- an address that is moved to a member or substructure
moved_same : (env : Environment) → SymbolsMove env → (place : Place) (offset : ℕ) (p : Play Value) (a : Tree) (s : State) → plays.Same Stands p (evaluate env a s)
    → plays.Same Stands (bind p (λ v t. used v t (λ w. done_at place t (moved_inside t.objects offset w)))) (evaluate env (moved_tree a (Const offset)) s)
moved_same env moves place offset p a s h =
    along Stands (bind p (λ v t. used v t (λ w. done_at place t (moved_inside t.objects offset w)))) (evaluate env (moved_tree a (Const offset)) s)
    (bind (evaluate env a s) (λ v t. operate bin.Add v (Word offset) t)) (moved_is env moves a (Const offset) s)
    (same_bind Stands Stands p (evaluate env a s) _ _ h (λ v w t g.
    used_free Stands v w t _ _ g (done_same place t (moved_inside t.objects offset w) (operate bin.Add w (Word offset) t)
    (λ x e. operated bin.Add t w (Word offset) x (inside_is_added t.objects offset w x e)))))

pub inner_same : (env : Environment) → SymbolsMove env → (place : Place) (o : Option ℕ) (p : Play Value) (a : Tree) (s : State) → plays.Same Stands p (evaluate env a s)
    → plays.Same Stands (bind p (λ v t. used v t (λ w. or_no_meaning place t o (λ offset. done_at place t (moved_inside t.objects offset w))))) (evaluate env (inner_tree o a) s)
inner_same env moves place (Some offset) p a s h = moved_same env moves place offset p a s h
inner_same env moves place None p a s h =
    then_same p (evaluate env a s) _ h (λ v w t g. used_free Stands v w t _ (Done w t) g tt)

-- TESTS

tested : (s : State) (v : Value) (b : Bool) → test_of s.objects v ≡ Ok b → test v s ≡ Done b s
tested s (Word n) b e = ap (λ r. done_at nowhere s r) e
tested s (Address p) b e = ap (λ r. done_at nowhere s r) e
tested s (Missing c) b e = cc

pointer_test : (objects : List Object) (v : Value) (b : Bool) → and_go (pointer_in v) (pointer_holds objects) ≡ Ok b → test_of objects v ≡ Ok b
pointer_test objects (Word zero) b e = e
pointer_test objects (Word (suc n)) b e = cc
pointer_test objects (Address p) b e = e
pointer_test objects (Missing c) b e = cc

integer_test : (objects : List Object) (v : Value) (b : Bool) → and_go (integer_in v) (λ n. Ok (not (n == 0))) ≡ Ok b → test_of objects v ≡ Ok b
integer_test objects (Word n) b e = e
integer_test objects (Address p) b e = cc
integer_test objects (Missing c) b e = cc

if_integer_test : (type : TypeTree) (objects : List Object) (v : Value) (b : Bool)
    → if_integer type (Some (and_go (integer_in v) (λ n. Ok (not (n == 0))))) ≡ Some (Ok b) → test_of objects v ≡ Ok b
if_integer_test type objects v b e = integer_test objects v b (some_ok _ b (of_integer_type type _ _ e))

holds_test : (type : TypeTree) (objects : List Object) (v : Value) (b : Bool) → holds objects type v ≡ Some (Ok b) → test_of objects v ≡ Ok b
holds_test (Pointer target) objects v b e = pointer_test objects v b (some_ok _ b e)
holds_test type objects v b e = if_integer_test type objects v b e

truth_same : (place : Place) (s : State) (o : Option (Result Bool Cause)) (q : Play Bool) → ((b : Bool) → o ≡ Some (Ok b) → q ≡ Done b s)
    → plays.Same Equal (or_no_meaning place s o (λ r. done_at place s r)) q
truth_same place s (Some (Ok b)) q h = (b, h b refl, refl)
truth_same place s (Some (Err why)) q h = tt
truth_same place s None q h = tt

pub test_same : (place : Place) (type : TypeTree) (v w : Value) (s : State) → Stands v w → plays.Same Equal (test_at place type v s) (test w s)
test_same place type v w s h =
    used_free Equal v w s _ _ h (truth_same place s (holds s.objects type w) (test w s) (λ b e. tested s w b (holds_test type s.objects w b e)))

-- CONVERSIONS

-- what a width makes of a value
abbrev pub narrowed_in : Width → Value → State → Play Value
narrowed_in width.S8 v s = used v s (λ x. done_at nowhere s (of_width width.S8 x))
narrowed_in width.U8 v s = used v s (λ x. done_at nowhere s (of_width width.U8 x))
narrowed_in width.S16 v s = used v s (λ x. done_at nowhere s (of_width width.S16 x))
narrowed_in width.U16 v s = used v s (λ x. done_at nowhere s (of_width width.U16 x))
narrowed_in width.W32 v s = Done v s

narrowed_is : (env : Environment) (w : Width) (a : Tree) (s : State) → evaluate env (narrowed_tree w a) s ≡ bind (evaluate env a s) (narrowed_in w)
narrowed_is env width.S8 a s = refl
narrowed_is env width.U8 a s = refl
narrowed_is env width.S16 a s = refl
narrowed_is env width.U16 a s = refl
narrowed_is env width.W32 a s = sym (bind_done (evaluate env a s))

of_width_done : (w : Width) (v x : Value) (s : State) → of_width w v ≡ Ok x → used v s (λ y. done_at nowhere s (of_width w y)) ≡ Done x s
of_width_done w (Word n) x s e = ap (λ r. done_at nowhere s r) e
of_width_done w (Address p) x s e = ap (λ r. done_at nowhere s r) e
of_width_done w (Missing c) x s e = cc

whole_width : (v x : Value) → of_width width.W32 v ≡ Ok x → v ≡ x
whole_width (Word n) x e = cc
whole_width (Address p) x e = cc
whole_width (Missing c) x e = cc

narrowed_done : (w : Width) (v x : Value) (s : State) → of_width w v ≡ Ok x → narrowed_in w v s ≡ Done x s
narrowed_done width.S8 v x s e = of_width_done width.S8 v x s e
narrowed_done width.U8 v x s e = of_width_done width.U8 v x s e
narrowed_done width.S16 v x s e = of_width_done width.S16 v x s e
narrowed_done width.U16 v x s e = of_width_done width.U16 v x s e
narrowed_done width.W32 v x s e = ap (λ y. Done y s) (whole_width v x e)

narrow_same : (env : Environment) (place : Place) (type : TypeTree) (p : Play Value) (a : Tree) (s : State) → plays.Same Stands p (evaluate env a s)
    → plays.Same Stands (bind p (λ v t. used v t (λ w. done_at place t (narrow type w)))) (evaluate env (narrowed_tree (width_of type) a) s)
narrow_same env place type p a s h =
    along Stands (bind p (λ v t. used v t (λ w. done_at place t (narrow type w)))) (evaluate env (narrowed_tree (width_of type) a) s)
    (bind (evaluate env a s) (narrowed_in (width_of type))) (narrowed_is env (width_of type) a s)
    (same_bind Stands Stands p (evaluate env a s) _ _ h (λ v w t g.
    used_free Stands v w t _ _ g (done_same place t (narrow type w) (narrowed_in (width_of type) w t)
    (λ x e. narrowed_done (width_of type) w x t (narrow_width type w x e)))))

whole_same : (env : Environment) (w : Width) (p : Play Value) (a : Tree) (s : State) → is_word_width w ≡ true → plays.Same Stands p (evaluate env a s)
    → plays.Same Stands (bind p (λ v t. used v t (λ x. Done x t))) (evaluate env (narrowed_tree w a) s)
whole_same env width.S8 p a s c h = cc
whole_same env width.U8 p a s c h = cc
whole_same env width.S16 p a s c h = cc
whole_same env width.U16 p a s c h = cc
whole_same env width.W32 p a s c h = then_same p (evaluate env a s) _ h (λ v w t g. used_free Stands v w t _ (Done w t) g (w, refl, stands_refl w))

-- a value of the same type
kept_same : (env : Environment) (place : Place) (to : TypeTree) (integer : Bool) (p : Play Value) (a : Tree) (s : State) → is_integer to ≡ integer → plays.Same Stands p (evaluate env a s)
    → plays.Same Stands (bind p (λ v t. used v t (λ w. if integer then done_at place t (narrow to w) else Done w t))) (evaluate env (narrowed_tree (width_of to) a) s)
kept_same env place to true p a s e h = narrow_same env place to p a s h
kept_same env place to false p a s e h = whole_same env (width_of to) p a s (no_integer_width to e) h

-- an expression that is converted where it isn't the null constant, which is null
pub converted_same : (env : Environment) → SymbolsMove env → (place : Place) (conversion : Conversion) (to : TypeTree) (p : Play Value) (a : Tree) (s : State)
    → (conversion ≡ Null → p ≡ Done null s) → plays.Same Stands p (evaluate env a s)
    → plays.Same Stands (bind p (λ v t. convert_at conversion place to v t)) (evaluate env (converted_tree conversion to a) s)
converted_same env moves place Same to p a s n h = kept_same env place to (is_integer to) p a s refl h
converted_same env moves place Integer to p a s n h = narrow_same env place to p a s h
converted_same env moves place Null to p a s n h =
    subst (λ q. plays.Same Stands (bind q (λ v t. convert_at Null place to v t)) (Done (Word 0) s)) (sym (n refl)) (Word 0, refl, refl)
converted_same env moves place (Inner offset) to p a s n h = moved_same env moves place offset p a s h
converted_same env moves place Ambiguous to p a s n h =
    then_same p (evaluate env a s) _ h (λ v w t g. used_free Stands v w t _ (Done w t) g tt)
converted_same env moves place No to p a s n h =
    then_same p (evaluate env a s) _ h (λ v w t g. used_free Stands v w t _ (Done w t) g tt)

-- CASTS

pub cast_same : (env : Environment) (content : Content) (type : TypeTree) (place : Place) (p : Play Value) (a : Tree) (s : State) → plays.Same Stands p (evaluate env a s)
    → plays.Same Stands (bind p (λ v t. cast_to content type place v t)) (evaluate env (cast_tree content type a) s)
cast_same env contents.Integer type place p a s h = narrow_same env place type p a s h
cast_same env contents.Reference type place p a s h =
    then_same p (evaluate env a s) _ h (λ v w t g. used_free Stands v w t _ (Done w t) g (w, refl, stands_refl w))
cast_same env contents.Aggregate type place p a s h = then_same p (evaluate env a s) _ h (λ v w t g. tt)
cast_same env contents.Nothing type place p a s h = then_same p (evaluate env a s) _ h (λ v w t g. (w, refl, tt))

-- the parts of `? :`
pub chosen_same : (type : TypeTree) (p q : Play Value) → plays.Same Stands p q → plays.Same Stands (bind p (λ v t. chosen type v t)) q
chosen_same Void p q h = then_same p q _ h (λ v w t g. (w, refl, g))
chosen_same type p q h = then_same p q _ h (λ v w t g. used_free Stands v w t _ (Done w t) g (w, refl, stands_refl w))

-- OPERATORS OF ONE OPERAND

pub word_same : (env : Environment) (place : Place) (f : ℕ → ℕ) (op : UnOp) (p : Play Value) (a : Tree) (s : State)
    → ((objects : List Object) (v : Value) → of_integer f v ≡ of_one op objects v) → plays.Same Stands p (evaluate env a s)
    → plays.Same Stands (bind p (λ v t. used v t (λ w. done_at place t (of_integer f w)))) (evaluate env (Un op a) s)
word_same env place f op p a s e h =
    same_bind Stands Stands p (evaluate env a s) _ _ h (λ v w t g.
    used_same Stands v w t _ _ g (done_same place t (of_integer f w) _ (λ x i. ap (λ r. done_at nowhere t r) (sym (e t.objects w) ∙ i))))

-- unary `+`
plus_is : (v x : Value) → of_integer (λ n. n) v ≡ Ok x → v ≡ x
plus_is (Word n) x e = cc
plus_is (Address p) x e = cc
plus_is (Missing c) x e = cc

pub plus_same : (place : Place) (p q : Play Value) → plays.Same Stands p q
    → plays.Same Stands (bind p (λ v t. used v t (λ w. done_at place t (of_integer (λ n. n) w)))) q
plus_same place p q h =
    then_same p q _ h (λ v w t g. used_free Stands v w t _ (Done w t) g (done_same place t (of_integer (λ n. n) w) (Done w t) (λ x e. ap (λ y. Done y t) (plus_is w x e))))
