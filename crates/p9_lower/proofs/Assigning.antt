-- Assignments: what is stored, and structures that are copied.
use Rattle.std.proofs.Common.{◌≡◌, ℕ, ◌+◌, ◌%◌, ◌==◌, Bool, true, false, not, if◌then◌else◌, List, Option, Some, None, Result, Ok, Err, refl, sym, ap, ◌∙◌, subst, arith, nat_lt, length, take, drop}
use Rattle.p9_lang.specs.Types.{TypeTree, Pointer, Tags}
use Rattle.p9_lang.specs.Layout.{size_of, alignment_of}
use Rattle.p9_lang.specs.Conversions.{is_integer, is_pointer, Conversion, Same, Integer, Null, Inner, Ambiguous, No}
use Rattle.p9_cmean.specs.declared.Cause.{Cause}
use Rattle.p9_cmean.specs.declared.Cause.TheVariants as cause
use Rattle.p9_cmean.specs.declared.Place.{Place}
use Rattle.p9_cmean.specs.Cells.{Value, Word, Address, Missing, Cell, Object, State}
use Rattle.p9_cmean.specs.Cells as cells
use Rattle.p9_cmean.specs.Plays.{Play, Done, Moved, bind}
use Rattle.p9_cmean.specs.Places.{or_wrong, done_at}
use Rattle.p9_cmean.specs.Access.{and_go, null, pointer_in, object_at, target_in, accessed, read_whole, written_whole, moved_inside}
use Rattle.p9_cmean.specs.Contents.{Content, content_of}
use Rattle.p9_cmean.specs.Contents as contents
use Rattle.p9_cmean.specs.Expressions.{Surroundings, narrow, store_content, by_conversion, assign_scalar, assign_structure}
use Rattle.p9_tree.specs.declared.tree.Width.{Width}
use Rattle.p9_tree.specs.declared.tree.Width.TheVariants as width
use Rattle.p9_tree.specs.declared.tree.BinOp.TheVariants as bin
use Rattle.p9_tree.specs.Same as plays
use Rattle.p9_tree.specs.Trees.{Tree, Const, Store, Copy}
use Rattle.p9_tree.specs.Operations.{of_width, stored_width}
use Rattle.p9_tree.specs.Meaning.{Environment, evaluate, store, copy, operate, nowhere}
use Rattle.p9_tree.proofs.Same.{same_bind}
use Rattle.p9_lower.specs.Operators.{width_of, moved_tree, stored_tree}
use Rattle.p9_lower.specs.Keeping.{Stands}
use Rattle.p9_lower.proofs.Plays.{stands_refl, along, result_same}
use Rattle.p9_lower.proofs.Widths.{is_word_width, no_integer_width, narrow_width, went, integer_stores, pointer_stores}
use Rattle.p9_base.specs.Words.{word_sum}
use Rattle.std.proofs.lemmas.Bool.{eq-eqb}
use Rattle.p9_cmean.proofs.Plays.{bind_assoc}
use Rattle.p9_lower.proofs.Moving.{moved_value, inside_moves, inside_is_added}
use Rattle.p9_lower.proofs.Trees.{operated, SymbolsMove, moved_is}
use Rattle.p9_lower.proofs.Access.{stands_ok}

-- STORES

-- a store of a value that a width makes another of
stored_done : (w : Width) (s : State) (a v x : Value) (objects : List Object) → of_width w v ≡ Ok x → stored_width w s.objects a x ≡ Ok objects
    → store w a v s ≡ Done x (record s { objects = objects })
stored_done w s a (Word n) x objects e h =
    ap (λ r. or_wrong nowhere s r (λ kept. or_wrong nowhere s (stored_width w s.objects a kept) (λ objects. Done kept (record s { objects = objects })))) e
    ∙ ap (λ r. or_wrong nowhere s r (λ objects. Done x (record s { objects = objects }))) h
stored_done w s a (Address p) x objects e h =
    ap (λ r. or_wrong nowhere s r (λ kept. or_wrong nowhere s (stored_width w s.objects a kept) (λ objects. Done kept (record s { objects = objects })))) e
    ∙ ap (λ r. or_wrong nowhere s r (λ objects. Done x (record s { objects = objects }))) h
stored_done w s a (Missing c) x objects e h = cc

stored_same : (place : Place) (w : Width) (s : State) (a a' v x : Value) → Stands a a' → of_width w v ≡ Ok x
    → plays.Same Stands (or_wrong place s (stored_width w s.objects a x) (λ objects. Done x (record s { objects = objects }))) (store w a' v s)
stored_same place w s a a' v x h e =
    result_same Stands place s (stored_width w s.objects a x) _ _ (λ objects f. (
      x,
      stored_done w s a' v x objects e (stands_ok (λ y. stored_width w s.objects y x) a a' objects h (λ c y g. cc) f),
      stands_refl x,
    ))

store_by : (content : Content) (tags : Tags) (type : TypeTree) (place : Place) (s : State) (a a' v x : Value) → content_of type ≡ content → Stands a a' → of_width (width_of type) v ≡ Ok x
    → plays.Same Stands (store_content content tags type place a x s) (store (width_of type) a' v s)
store_by contents.Integer tags type place s a a' v x c h e =
    subst (λ r. plays.Same Stands (or_wrong place s r (λ objects. Done x (record s { objects = objects }))) (store (width_of type) a' v s)) (sym (integer_stores tags type s.objects a x c))
    (stored_same place (width_of type) s a a' v x h e)
store_by contents.Reference tags type place s a a' v x c h e =
    subst (λ r. plays.Same Stands (or_wrong place s r (λ objects. Done x (record s { objects = objects }))) (store (width_of type) a' v s)) (sym (pointer_stores tags type s.objects a x c))
    (stored_same place (width_of type) s a a' v x h e)
store_by contents.Aggregate tags type place s a a' v x c h e = tt
store_by contents.Nothing tags type place s a a' v x c h e = tt

pub store_same : (tags : Tags) (type : TypeTree) (place : Place) (s : State) (a a' v x : Value) → Stands a a' → of_width (width_of type) v ≡ Ok x
    → plays.Same Stands (store_content (content_of type) tags type place a x s) (store (width_of type) a' v s)
store_same tags type place s a a' v x h e = store_by (content_of type) tags type place s a a' v x refl h e

-- CONVERSIONS OF WHAT IS STORED

abbrev pub IsThere : Value → Type 0
IsThere (Word n) = Unit {0}
IsThere (Address p) = Unit {0}
IsThere (Missing c) = ⊥

pub of_whole : (w : Width) (v : Value) → is_word_width w ≡ true → IsThere v → of_width w v ≡ Ok v
of_whole width.S8 v c h = cc
of_whole width.U8 v c h = cc
of_whole width.S16 v c h = cc
of_whole width.U16 v c h = cc
of_whole width.W32 (Word n) c h = refl
of_whole width.W32 (Address p) c h = refl
of_whole width.W32 (Missing d) c h = absurd h

pub of_zero : (w : Width) → of_width w (Word 0) ≡ Ok (Word 0)
of_zero width.S8 = refl
of_zero width.U8 = refl
of_zero width.S16 = refl
of_zero width.U16 = refl
of_zero width.W32 = refl

-- a pointer has the width of a word
pub pointer_width : (type : TypeTree) → is_pointer type ≡ true → is_word_width (width_of type) ≡ true
pointer_width (Pointer t) e = refl
pointer_width type e = cc

moved_is_there : (to : ℕ → ℕ) (q : Option cells.Pointer) → IsThere (moved_value to q)
moved_is_there to None = tt
moved_is_there to (Some p) = tt

pub inside_is_there : (objects : List Object) (offset : ℕ) (v x : Value) → moved_inside objects offset v ≡ Ok x → IsThere x
inside_is_there objects offset v x e =
    let m = inside_moves objects offset (pointer_in v) x e in subst IsThere m.2 (moved_is_there (λ start. word_sum start offset) m.0)

-- an assignment uses its value
pub assigned_free : (around : Surroundings) (conversion : Conversion) (place : Place) (type : TypeTree) (a v w : Value) (s : State) (q : Play Value) → Stands v w
    → (IsThere w → plays.Same Stands (bind (by_conversion conversion place type w s) (λ x t. store_content (content_of type) around.tags type place a x t)) q)
    → plays.Same Stands (assign_scalar around conversion place type a v s) q
assigned_free around conversion place type a (Word n) w s q h g =
    subst (λ y. plays.Same Stands (bind (by_conversion conversion place type y s) (λ x t. store_content (content_of type) around.tags type place a x t)) q) (sym h) (g (subst IsThere h tt))
assigned_free around conversion place type a (Address p) w s q h g =
    subst (λ y. plays.Same Stands (bind (by_conversion conversion place type y s) (λ x t. store_content (content_of type) around.tags type place a x t)) q) (sym h) (g (subst IsThere h tt))
assigned_free around conversion place type a (Missing c) w s q h g = tt

pub result_bind : (place : Place) (s : State) (r : Result Value Cause) (k : Value → State → Play Value) (q : Play Value)
    → ((x : Value) → r ≡ Ok x → plays.Same Stands (k x s) q) → plays.Same Stands (bind (done_at place s r) k) q
result_bind place s (Ok x) k q h = h x refl
result_bind place s (Err why) k q h = tt

-- a value of the same type
pub kept_stored : (tags : Tags) (place : Place) (type : TypeTree) (integer : Bool) (a a' v : Value) (s : State) → is_integer type ≡ integer → Stands a a' → IsThere v
    → plays.Same Stands (bind (if integer then done_at place s (narrow type v) else Done v s) (λ x t. store_content (content_of type) tags type place a x t)) (store (width_of type) a' v s)
kept_stored tags place type true a a' v s e h i = result_bind place s (narrow type v) _ _ (λ x g. store_same tags type place s a a' v x h (narrow_width type v x g))
kept_stored tags place type false a a' v s e h i = store_same tags type place s a a' v v h (of_whole (width_of type) v (no_integer_width type e) i)

module _ (env : Environment) (moves : SymbolsMove env) (around : Surroundings) (place : Place) (type : TypeTree) (p : Play Value) (k : State → Play Value) (a b : Tree) (s : State) (hp : plays.Same Stands p (evaluate env a s)) (hk : (t : State) → plays.Same Stands (k t) (evaluate env b t)) where
  pub scalar_same : (conversion : Conversion) → (conversion ≡ Null → (t : State) → k t ≡ Done null t)
      → ((offset : ℕ) → conversion ≡ Inner offset → is_pointer type ≡ true)
      → plays.Same Stands (bind p (λ to t. bind (k t) (λ v u. assign_scalar around conversion place type to v u))) (evaluate env (Store (width_of type) a (stored_tree conversion b)) s)
  scalar_same Same n i =
      same_bind Stands Stands p (evaluate env a s) _ _ hp (λ to to' t h.
      same_bind Stands Stands (k t) (evaluate env b t) _ _ (hk t) (λ v w u g.
      assigned_free around Same place type to v w u _ g (λ there.
      kept_stored around.tags place type (is_integer type) to to' w u refl h there)))
  scalar_same Integer n i =
      same_bind Stands Stands p (evaluate env a s) _ _ hp (λ to to' t h.
      same_bind Stands Stands (k t) (evaluate env b t) _ _ (hk t) (λ v w u g.
      assigned_free around Integer place type to v w u _ g (λ there.
      result_bind place u (narrow type w) _ _ (λ x e.
      store_same around.tags type place u to to' w x h (narrow_width type w x e)))))
  scalar_same Null n i =
      same_bind Stands Stands p (evaluate env a s) _ _ hp (λ to to' t h.
      subst (λ r. plays.Same Stands (bind r (λ v u. assign_scalar around Null place type to v u)) (store (width_of type) to' (Word 0) t)) (sym (n refl t))
      (store_same around.tags type place t to to' (Word 0) (Word 0) h (of_zero (width_of type))))
  scalar_same (Inner offset) n i =
      along Stands (bind p (λ to t. bind (k t) (λ v u. assign_scalar around (Inner offset) place type to v u))) (evaluate env (Store (width_of type) a (moved_tree b (Const offset))) s)
      (bind (evaluate env a s) (λ to t. bind (evaluate env b t) (λ v u. bind (operate bin.Add v (Word offset) u) (λ x y. store (width_of type) to x y))))
      (λ j. bind (evaluate env a s) (λ to t.
      (ap (λ r. bind r (λ x y. store (width_of type) to x y)) (moved_is env moves b (Const offset) t)
      ∙ bind_assoc (evaluate env b t) (λ v u. operate bin.Add v (Word offset) u) (λ x y. store (width_of type) to x y)) j))
      (same_bind Stands Stands p (evaluate env a s) _ _ hp (λ to to' t h.
      same_bind Stands Stands (k t) (evaluate env b t) _ _ (hk t) (λ v w u g.
      assigned_free around (Inner offset) place type to v w u _ g (λ there.
      result_bind place u (moved_inside u.objects offset w) _ _ (λ x e.
      along Stands _ _ (store (width_of type) to' x u) (ap (λ r. bind r (λ y z. store (width_of type) to' y z)) (operated bin.Add u w (Word offset) x (inside_is_added u.objects offset w x e)))
      (store_same around.tags type place u to to' x x h (of_whole (width_of type) x (pointer_width type (i offset refl)) (inside_is_there u.objects offset w x e))))))))
  scalar_same Ambiguous n i =
      same_bind Stands Stands p (evaluate env a s) _ _ hp (λ to to' t h.
      same_bind Stands Stands (k t) (evaluate env b t) _ _ (hk t) (λ v w u g.
      assigned_free around Ambiguous place type to v w u _ g (λ there. tt)))
  scalar_same No n i =
      same_bind Stands Stands p (evaluate env a s) _ _ hp (λ to to' t h.
      same_bind Stands Stands (k t) (evaluate env b t) _ _ (hk t) (λ v w u g.
      assigned_free around No place type to v w u _ g (λ there. tt)))

-- STRUCTURES

byte_aligned : (offset : ℕ) → (offset % 1 == 0) ≡ true
byte_aligned offset = eq-eqb (offset % 1) 0 (omega arith)

aligned : (alive fits one short : Bool) (cells x : List Cell) → one ≡ true
    → (if not alive then Err cause.Dead else (if not fits then Err cause.Misaligned else (if short then Err cause.Range else Ok cells))) ≡ Ok x
    → (if not alive then Err cause.Dead else (if not one then Err cause.Misaligned else (if short then Err cause.Range else Ok cells))) ≡ Ok x
aligned false fits one short cells x o e = cc
aligned true false one short cells x o e = cc
aligned true true true short cells x o e = e
aligned true true false short cells x o e = cc

accessed_bytes : (objects : List Object) (p : cells.Pointer) (size align : ℕ) (x : List Cell) → accessed objects p size align ≡ Ok x → accessed objects p size 1 ≡ Ok x
accessed_bytes objects (cells.Into o offset) size align x e =
    aligned (object_at objects o).is_alive (offset % align == 0) (offset % 1 == 0) (nat_lt (length (object_at objects o).cells) (offset + size))
    (take size (drop offset (object_at objects o).cells)) x (byte_aligned offset) e
accessed_bytes objects (cells.ToFunction f) size align x e = cc

went_from : {A B : Type 0} (r r' : Result A Cause) (f : A → Result B Cause) (x : B) → ((y : A) → r ≡ Ok y → r' ≡ Ok y) → and_go r f ≡ Ok x → and_go r' f ≡ Ok x
went_from (Ok y) r' f x h e = ap (λ q. and_go q f) (h y refl) ∙ e
went_from (Err why) r' f x h e = cc

read_bytes : (size align : ℕ) (objects : List Object) (from : Value) (x : List Cell) → read_whole size align objects from ≡ Ok x → read_whole size 1 objects from ≡ Ok x
read_bytes size align objects from x e =
    went (target_in from) (λ p. accessed objects p size align) (λ p. accessed objects p size 1) x (λ p g. accessed_bytes objects p size align x g) e

written_bytes : (size align : ℕ) (objects : List Object) (to from : Value) (cells : List Cell) (x : List Object)
    → written_whole size align objects to from cells ≡ Ok x → written_whole size 1 objects to from cells ≡ Ok x
written_bytes size align objects to from cells x e =
    went (target_in to) _ _ x (λ p g. went_from (accessed objects p size align) (accessed objects p size 1) _ x (λ y f. accessed_bytes objects p size align y f) g) e

abbrev without_value : Result (List Object) Cause
without_value = Err cause.NoValue

no_old : (q : Result (List Cell) Cause) (x : List Object) → and_go q (λ old. without_value) ≡ Ok x → ⊥
no_old (Ok old) x e = cc
no_old (Err why) x e = cc

no_from : (size : ℕ) (objects : List Object) (r : Result cells.Pointer Cause) (x : List Object)
    → and_go r (λ p. and_go (accessed objects p size 1) (λ old. without_value)) ≡ Ok x → ⊥
no_from size objects (Ok p) x e = no_old (accessed objects p size 1) x e
no_from size objects (Err why) x e = cc

structure_done : (around : Surroundings) (place read : Place) (type : TypeTree) (to to' from from' : Value) (s : State) → Stands to to' → Stands from from'
    → plays.Same Stands (assign_structure around place read type to from s) (copy (size_of around.tags type) to' from' s)
structure_done around place read type to to' from from' s h g =
    result_same Stands read s (read_whole (size_of around.tags type) (alignment_of around.tags type) s.objects from) _ _ (λ cells e.
    result_same Stands place s (written_whole (size_of around.tags type) (alignment_of around.tags type) s.objects to from cells) _ _ (λ objects f.
    let n = size_of around.tags type in
    let r : read_whole n 1 s.objects from' ≡ Ok cells =
    stands_ok (λ v. read_whole n 1 s.objects v) from from' cells g (λ c y i. cc) (read_bytes n (alignment_of around.tags type) s.objects from cells e) in
    let w : written_whole n 1 s.objects to' from' cells ≡ Ok objects =
    stands_ok (λ v. written_whole n 1 s.objects to' v cells) from from' objects g (λ c y i. no_from n s.objects (target_in to') y i)
    (stands_ok (λ v. written_whole n 1 s.objects v from cells) to to' objects h (λ c y i. cc) (written_bytes n (alignment_of around.tags type) s.objects to from cells objects f)) in (
      Done to' (record s { objects = objects }),
      ap (λ q. or_wrong nowhere s q (λ cells. or_wrong nowhere s (written_whole n 1 s.objects to' from' cells) (λ objects. Moved n (Done to' (record s { objects = objects }))))) r
          ∙ ap (λ q. or_wrong nowhere s q (λ objects. Moved n (Done to' (record s { objects = objects })))) w,
      (to', refl, h),
    )))

pub structure_same : (env : Environment) (around : Surroundings) (place read : Place) (type : TypeTree) (p : Play Value) (k : State → Play Value) (a b : Tree) (s : State)
    → plays.Same Stands p (evaluate env a s) → ((t : State) → plays.Same Stands (k t) (evaluate env b t))
    → plays.Same Stands (bind p (λ to t. bind (k t) (λ v u. assign_structure around place read type to v u))) (evaluate env (Copy (size_of around.tags type) a b) s)
structure_same env around place read type p k a b s hp hk =
    same_bind Stands Stands p (evaluate env a s) _ _ hp (λ to to' t h.
    same_bind Stands Stands (k t) (evaluate env b t) _ _ (hk t) (λ v w u g. structure_done around place read type to to' v w u h g))
