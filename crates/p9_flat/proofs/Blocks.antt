-- The automatics of a block: how they are made, found, and die.
use Rattle.std.proofs.Common.{◌≡◌, ℕ, zero, suc, ◌+◌, List, [], ◌∷◌, ◌++◌, length, map, take, drop, Some, slice_get, refl, sym, ap, subst, ◌∙◌, arith, append_assoc, append-nil, length-append}
use Rattle.std.proofs.Math.Seq.{take-append_seam, drop-append_seam}
use Rattle.p9_lang.specs.Types.{Tags}
use Rattle.p9_lang.specs.Layout.{size_of}
use Rattle.p9_cmean.specs.declared.Place.{Place}
use Rattle.p9_cmean.specs.Cells.{Object, Value, State}
use Rattle.p9_cmean.specs.Plays.{Play}
use Rattle.p9_cmean.specs.Automatics.{Declared, Living, unset_object, numbered, with_objects, all_dead, left}
use Rattle.p9_cmean.specs.Expressions.{Surroundings}
use Rattle.p9_flat.specs.declared.op.Op.TheVariants as op
use Rattle.p9_flat.specs.Code.{Slot}
use Rattle.p9_flat.specs.Flat.{HasAt, slots, makes}
use Rattle.p9_flat.specs.Step.{Next, frame, unset, all_killed, killed, step}
use Rattle.p9_flat.proofs.Playing.{by_next}
use Rattle.p9_flat.proofs.Runs.{World, PlaysIn}
use Rattle.p9_flat.proofs.Naming.{Fits, own_of}

-- the numbers of new objects
abbrev pub fresh : (next : ℕ) → List Declared → List ℕ
fresh next [] = []
fresh next (d ∷ ds) = next ∷ fresh (suc next) ds

abbrev pub numbers_of : List Declared → List ℕ
numbers_of ds = map (λ d. d.number) ds

pub fresh_length : (next : ℕ) (ds : List Declared) → length (fresh next ds) ≡ length ds
fresh_length next [] = refl
fresh_length next (d ∷ ds) = ap (λ n. suc n) (fresh_length (suc next) ds)

get_kept : (xs ys : List ℕ) (k x : ℕ) → slice_get xs k ≡ Some x → slice_get (xs ++ ys) k ≡ Some x
get_kept [] ys k x h = cc
get_kept (y ∷ xs) ys zero x h = h
get_kept (y ∷ xs) ys (suc k) x h = get_kept xs ys k x h

get_seam : (xs ys : List ℕ) (x : ℕ) → slice_get (xs ++ x ∷ ys) (length xs) ≡ Some x
get_seam [] ys x = refl
get_seam (y ∷ xs) ys x = get_seam xs ys x

-- the automatics in scope stay where they are
pub fits_kept : (scope : List Slot) (living : List Living) (automatics more : List ℕ) → Fits scope living automatics → Fits scope living (automatics ++ more)
fits_kept [] [] automatics more h = tt
fits_kept [] (l ∷ ls) automatics more h = absurd h
fits_kept (c ∷ cs) [] automatics more h = absurd h
fits_kept (c ∷ cs) (l ∷ ls) automatics more h = (h.0, get_kept automatics more c.number l.object h.1, fits_kept cs ls automatics more h.2)

-- and the new ones stand behind them
pub fits_more : (ds : List Declared) (scope : List Slot) (living : List Living) (front : List ℕ) (number next : ℕ) → number ≡ length front
    → Fits scope living (front ++ fresh next ds)
    → Fits (slots number ds ++ scope) (numbered next (numbers_of ds) ++ living) (front ++ fresh next ds)
fits_more [] scope living front number next e h = h
fits_more (d ∷ ds) scope living front number next e h =
    let same = append_assoc front (next ∷ []) (fresh (suc next) ds) in
    let count = length-append front (next ∷ []) in (
      refl,
      subst (λ n. slice_get (front ++ next ∷ fresh (suc next) ds) n ≡ Some next) (sym e) (get_seam front (fresh (suc next) ds) next),
      subst (λ l. Fits (slots (suc number) ds ++ scope) (numbered (suc next) (numbers_of ds) ++ living) l) same
          (fits_more ds scope living (front ++ next ∷ []) (suc number) (suc next) (omega (arith, e, count))
          (subst (λ l. Fits scope living l) (sym same) h)),
    )

-- they die in the same order
pub killed_is : (ds : List Declared) (next : ℕ) (objects : List Object) → all_killed (fresh next ds) objects ≡ all_dead (numbered next (numbers_of ds)) objects
killed_is [] next objects = refl
killed_is (d ∷ ds) next objects = killed_is ds (suc next) _

-- the operations that make them
pub making : (w : World) (around : Surroundings) (call : Place) (tags : Tags) (ds : List Declared) (automatics : List ℕ) (pc fin : ℕ) (stack : List Value) (s : State) (p : Play Value)
    → HasAt w.all pc (makes tags ds) → fin ≡ pc + length (makes tags ds)
    → PlaysIn w p (frame fin stack (own_of around (automatics ++ fresh (length s.objects) ds) call)) (with_objects (map (unset_object tags) ds) s)
    → PlaysIn w p (frame pc stack (own_of around automatics call)) s
making w around call tags [] automatics pc fin stack s p h e plays =
    subst (λ l. PlaysIn w p (frame pc stack (own_of around l call)) s) (append-nil automatics)
    (subst (λ m. PlaysIn w p (frame m stack (own_of around (automatics ++ []) call)) s) (omega (arith, e))
    (subst (λ l. PlaysIn w p (frame fin stack (own_of around (automatics ++ []) call)) (record s { objects = l })) (append-nil s.objects) plays))
making w around call tags (d ∷ ds) automatics pc fin stack s p h e plays =
    let o : Object = unset (size_of tags d.type) in
    let next : ℕ = length s.objects in
    let count = length-append s.objects (o ∷ []) in
    let grown : length (s.objects ++ o ∷ []) ≡ suc next = omega (arith, count) in
    by_next w.names w.all w.below p (frame pc stack (own_of around automatics call)) (frame (suc pc) stack (own_of around (automatics ++ next ∷ []) call)) s (with_objects (o ∷ []) s)
    (op.Make (size_of tags d.type)) h.0 refl
    (making w around call tags ds (automatics ++ next ∷ []) (suc pc) fin stack (with_objects (o ∷ []) s) p h.1 (omega (arith, e))
    (subst (λ l. PlaysIn w p (frame fin stack (own_of around ((automatics ++ next ∷ []) ++ fresh (length (s.objects ++ o ∷ [])) ds) call)) (record s { objects = l })) (sym (append_assoc s.objects (o ∷ []) (map (unset_object tags) ds)))
    (subst (λ n. PlaysIn w p (frame fin stack (own_of around ((automatics ++ next ∷ []) ++ fresh n ds) call)) (record s { objects = s.objects ++ (o ∷ map (unset_object tags) ds) })) (sym grown)
    (subst (λ l. PlaysIn w p (frame fin stack (own_of around l call)) (record s { objects = s.objects ++ (o ∷ map (unset_object tags) ds) }))
    (sym (append_assoc automatics (next ∷ []) (fresh (suc next) ds))) plays))))

-- they die
pub leaving_step : (w : World) (around : Surroundings) (call : Place) (ds : List Declared) (automatics : List ℕ) (alive next pc : ℕ) (stack : List Value) (t : State) → alive ≡ length automatics
    → step w.names (op.Leave alive) (frame pc stack (own_of around (automatics ++ fresh next ds) call)) t
    ≡ Next (frame (suc pc) stack (own_of around automatics call)) (left (numbered next (numbers_of ds)) t)
leaving_step w around call ds automatics alive next pc stack t e =
    ap (λ n. Next (frame (suc pc) stack (own_of around (take n (automatics ++ fresh next ds)) call)) (killed (drop n (automatics ++ fresh next ds)) t)) e
    ∙ ap (λ l. Next (frame (suc pc) stack (own_of around l call)) (killed (drop (length automatics) (automatics ++ fresh next ds)) t)) (take-append_seam automatics (fresh next ds))
    ∙ ap (λ l. Next (frame (suc pc) stack (own_of around automatics call)) (killed l t)) (drop-append_seam automatics (fresh next ds))
    ∙ ap (λ l. Next (frame (suc pc) stack (own_of around automatics call)) (record t { objects = l })) (killed_is ds next t.objects)
