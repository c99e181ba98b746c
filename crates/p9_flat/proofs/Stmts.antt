-- The code of a statement runs what the statement does.
use Rattle.std.proofs.Common.{◌≡◌, ℕ, zero, suc, ◌+◌, Bool, true, false, if◌then◌else◌, List, [], ◌∷◌, ◌++◌, length, map, Option, Some, None, slice_get, refl, sym, ap, subst, ◌∙◌, arith, length-append, append-nil}
use Rattle.p9_lang.specs.declared.tree.Kind.TheVariants as kind
use Rattle.p9_lang.specs.Types.{TypeTree}
use Rattle.p9_lang.specs.Trees.{node, none, more}
use Rattle.p9_lang.specs.Modules.{Label, Typed, TypedRow}
use Rattle.p9_cmean.specs.declared.Cause.TheVariants as cause
use Rattle.p9_cmean.specs.declared.Place.{Place}
use Rattle.p9_cmean.specs.Cells.{Pointer, Value, Word, Address, Missing, State}
use Rattle.p9_cmean.specs.Plays.{Play, Done, Wrong, NoMeaning, Exit, Cut, Turn, Ask, Moved, bind, Flow, Normal, Broke, Continued, Returned, Went, after_switch, no_step}
use Rattle.p9_cmean.specs.Places.{or_no_meaning}
use Rattle.p9_cmean.specs.Automatics.{Declared, Living, numbered, left}
use Rattle.p9_cmean.specs.Declarations.{Automatic, declared_by, declared_in, declaration_of}
use Rattle.p9_cmean.specs.Expressions.{Surroundings, at, operand_type, pointer_to, conversion_of, assign, test_at, value}
use Rattle.p9_cmean.specs.Statements.{effect, condition, initialised, all_initialised, entered, living_in, in_block, loop_of, always, is_default, parts_before, or_else, entry_of, run_from, switched, statement, statements, statements_from, for_loop}
use Rattle.p9_cmean.proofs.Plays.{bind_assoc}
use Rattle.p9_flat.specs.declared.op.Op.{Op}
use Rattle.p9_flat.specs.declared.op.Op.TheVariants as op
use Rattle.p9_flat.specs.declared.op.Scalar.TheVariants as scalar
use Rattle.p9_flat.specs.Code.{Numbers, Slot, Setting, value_code}
use Rattle.p9_flat.specs.Flat.{HasAt, Ends, initial_code, initials_code, slots, makes, exits, ends_at, body_at, left_body, block_code, condition_code, effect_code, in_loop, switching, statement_code, statements_code, labels_code, default_at, for_code}
use Rattle.p9_flat.specs.Laws.{AreNamed}
use Rattle.p9_flat.specs.Step.{Own, frame}
use Rattle.p9_flat.proofs.Playing.{has_first, has_second, by_next, by_fails}
use Rattle.p9_flat.proofs.Runs.{World, PlaysIn, Runs, Straight, Pushes, seq, empty, moving, lacking, along, by_jump}
use Rattle.p9_flat.proofs.Accesses.{place_of, converting, choice}
use Rattle.p9_flat.proofs.Naming.{Fits, own_of, with_living, address_or, meaning}
use Rattle.p9_flat.proofs.Exprs.{assigned, value_runs}
use Rattle.p9_flat.proofs.Blocks.{fresh, numbers_of, fresh_length, fits_kept, fits_more, making, leaving_step}
use Rattle.p9_flat.proofs.Flows.{Goes, Branches, goes_joins, going_on, normal, then_runs, branch_runs, always_runs, guard_runs, tested_runs, untested_runs}
use Rattle.p9_flat.proofs.Switches.{arm_at, arm_or, default_is, labels_play}

-- what is in scope where a statement stands
pub record Inside : Type 0 where
  pub scope : List Slot
  pub alive : ℕ
  pub living : List Living
  pub automatics : List ℕ
  pub fits : Fits scope living automatics
  pub count : alive ≡ length automatics

bind_done : (p : Play Flow) → bind p (λ flow t. Done flow t) ≡ p
bind_done (Done x s) = refl
bind_done (Wrong why place s) = refl
bind_done (NoMeaning place s) = refl
bind_done (Exit text s) = refl
bind_done (Cut s) = refl
bind_done (Turn s p) = ap (Turn s) (bind_done p)
bind_done (Ask call s p) = λ i. Ask call s (λ v t. bind_done (p v t) i)
bind_done (Moved bytes p) = ap (Moved bytes) (bind_done p)

abbrev finished : Value → State → Play (Unit {0})
finished x s = Done tt s

initial_is : (now : Surroundings) (place : Place) (e : Typed) (type : TypeTree) (o : Option Pointer) (s : State)
    → or_no_meaning place s o (λ p. bind (value now e s) (λ v t. bind (assign now place e type (Address p) v t) finished))
    ≡ bind (address_or place o s) (λ p t. bind (value now e t) (λ v u. bind (assign now place e type p v u) finished))
initial_is now place e type (Some p) s = refl
initial_is now place e type None s = refl

module _ (w : World) (numbers : Numbers) (around : Surroundings) (named : AreNamed w.names numbers around) (call : Place) where
  abbrev pub own_in : Inside → Own
  own_in i = own_of around i.automatics call

  abbrev pub setting_in : Inside → Setting
  setting_in i = record { around = around; numbers = numbers; scope = i.scope; alive = i.alive }

  abbrev pub now_in : Inside → Surroundings
  now_in i = with_living around i.living

  valuing : (i : Inside) (e : Typed) (pc : ℕ) (stack : List Value)
      → Runs Value w (own_in i) pc (value_code (setting_in i) pc e) stack (λ s. value (now_in i) e s) (Pushes w (own_in i) stack)
  valuing i e pc stack = value_runs w numbers around named i.scope i.alive i.living i.automatics call i.fits e pc stack

  effect_runs : (i : Inside) (e : Typed) (pc : ℕ) (stack : List Value)
      → Runs (Unit {0}) w (own_in i) pc (effect_code (setting_in i) pc e) stack (λ s. effect (now_in i) e s) (Straight (Unit {0}) w (own_in i) (λ done. stack))
  effect_runs i e pc stack = seq (valuing i e pc stack) (λ v. moving stack (λ s. refl) (empty tt))

  condition_runs : (i : Inside) (e : Typed) (here otherwise pc : ℕ) (stack : List Value)
      → Runs Bool w (own_in i) pc (condition_code (setting_in i) here otherwise pc e) stack (λ s. condition (now_in i) (place_of (own_in i) here) e s) (Branches w (own_in i) stack otherwise)
  condition_runs i e here otherwise pc stack = seq (valuing i e pc stack) (λ v. branch_runs w (own_in i) (operand_type e) _ here otherwise v stack)

  -- INITIALISERS

  initial_by : (i : Inside) (number : ℕ) (name : Label) (o : Option Typed) (pc : ℕ) (stack : List Value)
      → Runs (Unit {0}) w (own_in i) pc (initial_code (setting_in i) pc (record { number = number; name = name; initialiser = o })) stack
      (λ s. initialised (now_in i) (record { number = number; name = name; initialiser = o }) s) (Straight (Unit {0}) w (own_in i) (λ done. stack))
  initial_by i number name None pc stack = empty tt
  initial_by i number name (Some e) pc stack =
      along (λ s. bind (address_or (place_of (own_in i) name.number) (pointer_to (now_in i) name.type name.means) s) (λ p t.
      bind (value (now_in i) e t) (λ v u. bind (assign (now_in i) (place_of (own_in i) name.number) e name.type p v u) finished)))
      (λ s. initial_is (now_in i) (place_of (own_in i) name.number) e name.type (pointer_to (now_in i) name.type name.means) s)
      (seq (meaning w numbers around named i.scope i.alive i.living i.automatics call i.fits name.type name.means pc name.number stack) (λ p.
      seq (valuing i e _ (p ∷ stack)) (λ v.
      seq (assigned w numbers around named i.scope i.alive i.living i.automatics call i.fits e name.type _ name.number p v stack) (λ x.
      moving stack (λ s. refl) (empty tt)))))

  initials_run : (i : Inside) (ds : List Automatic) (pc : ℕ) (stack : List Value)
      → Runs (Unit {0}) w (own_in i) pc (initials_code (setting_in i) pc ds) stack (λ s. all_initialised (now_in i) ds s) (Straight (Unit {0}) w (own_in i) (λ done. stack))
  initials_run i [] pc stack = empty tt
  initials_run i (d ∷ ds) pc stack = seq (initial_by i d.number d.name d.initialiser pc stack) (λ done. initials_run i ds _ stack)

  -- ENDS

  returning : (i : Inside) (ends : Ends) (pc : ℕ) (v : Value) (stack : List Value)
      → Runs Flow w (own_in i) pc (op.Jump ends.returned ∷ []) (v ∷ stack) (λ s. Done (Returned (Some v)) s) (Goes w (own_in i) ends stack)
  returning i ends pc v stack = record {
    runs = λ h fin e s k go.
        by_jump w (own_in i) (k (Returned (Some v)) s) pc ends.returned (v ∷ stack) s h.0 (go (Returned (Some v)) s).goes;
  }

  breaking : (i : Inside) (ends : Ends) (pc : ℕ) (stack : List Value)
      → Runs Flow w (own_in i) pc (op.Jump ends.broke ∷ []) stack (λ s. Done Broke s) (Goes w (own_in i) ends stack)
  breaking i ends pc stack = record { runs = λ h fin e s k go. by_jump w (own_in i) (k Broke s) pc ends.broke stack s h.0 (go Broke s).goes }

  continuing : (i : Inside) (ends : Ends) (pc : ℕ) (stack : List Value)
      → Runs Flow w (own_in i) pc (op.Jump ends.continued ∷ []) stack (λ s. Done Continued s) (Goes w (own_in i) ends stack)
  continuing i ends pc stack = record { runs = λ h fin e s k go. by_jump w (own_in i) (k Continued s) pc ends.continued stack s h.0 (go Continued s).goes }

  giving_nothing : (i : Inside) (ends : Ends) (pc : ℕ) (stack : List Value)
      → Runs Flow w (own_in i) pc (op.Nothing ∷ op.Jump ends.returned ∷ []) stack (λ s. Done (Returned None) s) (Goes w (own_in i) ends stack)
  giving_nothing i ends pc stack = record {
    runs = λ h fin e s k go.
        by_next w.names w.all w.below (k (Returned None) s) (frame pc stack (own_in i)) (frame (suc pc) (Missing call ∷ stack) (own_in i)) s s op.Nothing h.0 refl
        (by_jump w (own_in i) (k (Returned None) s) (suc pc) ends.returned (Missing call ∷ stack) s h.1.0 (go (Returned None) s).goes);
  }

  -- BLOCKS

  -- a statement's code, wherever it stands
  abbrev RunsAt : (Setting → Ends → ℕ → List Op) → (Surroundings → State → Play Flow) → Type 0
  RunsAt body does =
      (i : Inside) (ends : Ends) (pc : ℕ) (stack : List Value)
      → Runs Flow w (own_in i) pc (body (setting_in i) ends pc) stack (λ s. does (now_in i) s) (Goes w (own_in i) ends stack)

  abbrev inner_of : Inside → List Declared → State → Inside
  inner_of i ds s = record {
    scope = slots i.alive ds ++ i.scope;
    alive = i.alive + length ds;
    living = living_in ds s ++ i.living;
    automatics = i.automatics ++ fresh (length s.objects) ds;
    fits = fits_more ds i.scope i.living i.automatics i.alive (length s.objects) i.count (fits_kept i.scope i.living i.automatics (fresh (length s.objects) ds) i.fits);
    count = let a = length-append i.automatics (fresh (length s.objects) ds) in let b = fresh_length (length s.objects) ds in let c = i.count in omega (arith, a, b, c);
  }

  -- a block's end, and where it goes on
  leave : (i : Inside) (ds : List Declared) (next pc to : ℕ) (stack : List Value) (t : State) (p : Play Value)
      → slice_get w.all pc ≡ Some (op.Leave i.alive) → PlaysIn w p (frame (suc pc) stack (own_in i)) (left (numbered next (numbers_of ds)) t)
      → PlaysIn w p (frame pc stack (own_of around (i.automatics ++ fresh next ds) call)) t
  leave i ds next pc to stack t p there plays =
      by_next w.names w.all w.below p (frame pc stack (own_of around (i.automatics ++ fresh next ds) call)) (frame (suc pc) stack (own_in i)) t (left (numbered next (numbers_of ds)) t)
      (op.Leave i.alive) there (leaving_step w around call ds i.automatics i.alive next pc stack t i.count) plays

  leave_to : (i : Inside) (ds : List Declared) (next pc to : ℕ) (stack : List Value) (t : State) (p : Play Value)
      → slice_get w.all pc ≡ Some (op.Leave i.alive) → slice_get w.all (suc pc) ≡ Some (op.Jump to)
      → PlaysIn w p (frame to stack (own_in i)) (left (numbered next (numbers_of ds)) t)
      → PlaysIn w p (frame pc stack (own_of around (i.automatics ++ fresh next ds) call)) t
  leave_to i ds next pc to stack t p there jump plays =
      leave i ds next pc to stack t p there (by_jump w (own_in i) p (suc pc) to stack (left (numbered next (numbers_of ds)) t) jump plays)

  leaving : (i : Inside) (ds : List Declared) (ends : Ends) (next pc stop : ℕ) (stack : List Value) (k : Flow → State → Play Value)
      → HasAt w.all pc (exits ends i.alive) → slice_get w.all stop ≡ Some (op.Leave i.alive)
      → ((flow : Flow) (t : State) → Goes w (own_in i) ends stack (suc stop) flow (k flow t) t)
      → (flow : Flow) (t : State) → Goes w (own_of around (i.automatics ++ fresh next ds) call) (ends_at pc) stack stop flow (k flow (left (numbered next (numbers_of ds)) t)) t
  leaving i ds ends next pc stop stack k h there go Normal t =
      record { goes = leave i ds next stop (suc stop) stack t (k Normal (left (numbered next (numbers_of ds)) t)) there (go Normal (left (numbered next (numbers_of ds)) t)).goes }
  leaving i ds ends next pc stop stack k h there go Broke t =
      record { goes = leave_to i ds next pc ends.broke stack t (k Broke (left (numbered next (numbers_of ds)) t)) h.0 h.1.0 (go Broke (left (numbered next (numbers_of ds)) t)).goes }
  leaving i ds ends next pc stop stack k h there go Continued t =
      record { goes = leave_to i ds next (suc (suc pc)) ends.continued stack t (k Continued (left (numbered next (numbers_of ds)) t)) h.1.1.0 h.1.1.1.0 (go Continued (left (numbered next (numbers_of ds)) t)).goes }
  leaving i ds ends next pc stop stack k h there go (Returned None) t =
      record { goes = leave_to i ds next (suc (suc (suc (suc pc)))) ends.returned (Missing call ∷ stack) t (k (Returned None) (left (numbered next (numbers_of ds)) t)) h.1.1.1.1.0 h.1.1.1.1.1.0 (go (Returned None) (left (numbered next (numbers_of ds)) t)).goes }
  leaving i ds ends next pc stop stack k h there go (Returned (Some v)) t =
      record { goes = leave_to i ds next (suc (suc (suc (suc pc)))) ends.returned (v ∷ stack) t (k (Returned (Some v)) (left (numbered next (numbers_of ds)) t)) h.1.1.1.1.0 h.1.1.1.1.1.0 (go (Returned (Some v)) (left (numbered next (numbers_of ds)) t)).goes }
  leaving i ds ends next pc stop stack k h there go (Went l) t = record { goes = tt }

  block_runs : (ds : List Declared) (body : Setting → Ends → ℕ → List Op) (does : Surroundings → State → Play Flow) → RunsAt body does
      → (i : Inside) (ends : Ends) (pc : ℕ) (stack : List Value)
      → Runs Flow w (own_in i) pc (block_code (setting_in i) ends pc ds body) stack (λ s. in_block (now_in i) ds does s) (Goes w (own_in i) ends stack)
  block_runs [] body does runs i ends pc stack =
      along (λ s. does (now_in i) s)
      (λ s. bind_done (does (now_in i) (entered (now_in i) [] s)) ∙ ap (λ l. does (now_in i) (record s { objects = l })) (append-nil s.objects))
      (runs i ends pc stack)
  block_runs (d ∷ ds) body does runs i ends pc stack = record {
    runs = λ h fin e s k go.
        let first : List Op = makes around.tags (d ∷ ds) in
        let m : ℕ = pc + length first in
        let inner : Inside = inner_of i (d ∷ ds) s in
        let code : List Op = body (setting_in inner) (ends_at (suc m)) (body_at (suc m)) in
        let stop : ℕ = body_at (suc m) + length code in
        let frame_part : List Op = left_body (setting_in i) ends m code in
        let l = length-append first frame_part in
        let n = length-append code (op.Leave i.alive ∷ []) in
        let same : fin ≡ suc stop = omega (arith, e, l, n) in
        let rest = has_second w.all pc first frame_part m refl h in
        let body_stands = rest.1.1.1.1.1.1.1 in
        making w around call around.tags (d ∷ ds) i.automatics pc m stack s _ (has_first w.all pc first frame_part h) refl
        (by_jump w (own_in inner) _ m (body_at (suc m)) stack (entered (now_in i) (d ∷ ds) s) rest.0
        (subst (λ p. PlaysIn w p (frame (body_at (suc m)) stack (own_in inner)) (entered (now_in i) (d ∷ ds) s))
        (sym (bind_assoc (does (now_in inner) (entered (now_in i) (d ∷ ds) s)) (λ flow t. Done flow (left (living_in (d ∷ ds) s) t)) k))
        ((runs inner (ends_at (suc m)) (body_at (suc m)) stack).runs (has_first w.all (body_at (suc m)) code (op.Leave i.alive ∷ []) body_stands) stop refl
        (entered (now_in i) (d ∷ ds) s) (λ flow t. k flow (left (living_in (d ∷ ds) s) t))
        (leaving i (d ∷ ds) ends (length s.objects) (suc m) stop stack k (has_first w.all (suc m) (exits ends i.alive) (code ++ op.Leave i.alive ∷ []) rest.1)
        (has_second w.all (body_at (suc m)) code (op.Leave i.alive ∷ []) stop refl body_stands).0
        (λ flow t. subst (λ j. Goes w (own_in i) ends stack j flow (k flow t) t) same (go flow t))))));
  }

  -- SWITCHES

  module _ (turns : ℕ) (arms : TypedRow) (i : Inside) (ends : Ends) (here pc : ℕ) (stack : List Value) where
    abbrev outs : Ends
    outs = record ends { broke = suc (suc pc) }

    abbrev arms_code : List Op
    arms_code = statements_code (setting_in i) outs (suc (suc (suc pc))) arms

    abbrev labels_part : List Op
    labels_part = labels_code (setting_in i) outs (suc (suc (suc pc))) arms

    abbrev default_part : ℕ
    default_part = default_at (setting_in i) outs (suc (suc (suc pc))) (suc (suc pc)) arms

    abbrev labels_at : ℕ
    labels_at = suc (suc (suc (suc pc)) + length arms_code)

    abbrev out_at : ℕ
    out_at = suc (suc (labels_at + length labels_part))

    abbrev run_arms : ℕ → State → Play Flow
    run_arms n u = statements_from turns (now_in i) n arms u

    -- the arms from each of them on
    abbrev ArmsRun : Type 0
    ArmsRun =
        (n : ℕ) (s : State) (k : Flow → State → Play Value)
        → ((flow : Flow) (t : State) → Goes w (own_in i) outs stack (suc (suc (suc pc)) + length arms_code) flow (k flow t) t)
        → PlaysIn w (bind (run_arms n s) k) (frame (arm_at (setting_in i) outs (suc (suc (suc pc))) arms n) stack (own_in i)) s

    module _ (out : slice_get w.all (suc (suc pc)) ≡ Some (op.Jump out_at)) (back : slice_get w.all (suc (suc (suc pc)) + length arms_code) ≡ Some (op.Jump (suc (suc pc))))
        (runs : ArmsRun) (k : Flow → State → Play Value) (go : (flow : Flow) (t : State) → Goes w (own_in i) ends stack out_at flow (k flow t) t) where
      broken : (t : State) → PlaysIn w (k Normal t) (frame (suc (suc pc)) stack (own_in i)) t
      broken t = by_jump w (own_in i) (k Normal t) (suc (suc pc)) out_at stack t out (go Normal t).goes

      after_arms : (flow : Flow) (t : State) → Goes w (own_in i) outs stack (suc (suc (suc pc)) + length arms_code) flow (bind (after_switch flow t) k) t
      after_arms Normal t = record { goes = by_jump w (own_in i) (k Normal t) (suc (suc (suc pc)) + length arms_code) (suc (suc pc)) stack t back (broken t) }
      after_arms Broke t = record { goes = broken t }
      after_arms Continued t = record { goes = (go Continued t).goes }
      after_arms (Returned None) t = record { goes = (go (Returned None) t).goes }
      after_arms (Returned (Some v)) t = record { goes = (go (Returned (Some v)) t).goes }
      after_arms (Went l) t = record { goes = tt }

      from_arm : (n : ℕ) (s : State)
          → PlaysIn w (bind (run_from (Some n) run_arms s) k) (frame (arm_at (setting_in i) outs (suc (suc (suc pc))) arms n) stack (own_in i)) s
      from_arm n s =
          subst (λ p. PlaysIn w p (frame (arm_at (setting_in i) outs (suc (suc (suc pc))) arms n) stack (own_in i)) s)
          (sym (bind_assoc (run_arms n s) (λ flow t. after_switch flow t) k))
          (runs n s (λ flow t. bind (after_switch flow t) k) after_arms)

      from_default : (o : Option ℕ) (s : State)
          → PlaysIn w (bind (run_from o run_arms s) k) (frame (arm_or (setting_in i) outs (suc (suc (suc pc))) (suc (suc pc)) arms o) stack (own_in i)) s
      from_default None s = broken s
      from_default (Some n) s = from_arm n s

      from_labels : (word : ℕ) (s : State) → HasAt w.all labels_at (labels_part ++ op.Pop ∷ op.Jump default_part ∷ [])
          → PlaysIn w (bind (run_from (entry_of around.tags word arms) run_arms s) k) (frame labels_at (Word word ∷ stack) (own_in i)) s
      from_labels word s h =
          let tail = has_second w.all labels_at labels_part (op.Pop ∷ op.Jump default_part ∷ []) (labels_at + length labels_part) refl h in
          labels_play w (own_in i) word stack (bind (run_from (entry_of around.tags word arms) run_arms s) k) s (setting_in i) outs arms (suc (suc (suc pc))) labels_at
          (labels_at + length labels_part) (has_first w.all labels_at labels_part (op.Pop ∷ op.Jump default_part ∷ []) h) refl
          (λ n same. subst (λ o. PlaysIn w (bind (run_from (or_else o (parts_before is_default arms)) run_arms s) k) (frame (arm_at (setting_in i) outs (suc (suc (suc pc))) arms n) stack (own_in i)) s)
          (sym same) (from_arm n s))
          (λ same. subst (λ o. PlaysIn w (bind (run_from (or_else o (parts_before is_default arms)) run_arms s) k) (frame (labels_at + length labels_part) (Word word ∷ stack) (own_in i)) s)
          (sym same)
          (by_next w.names w.all w.below (bind (run_from (parts_before is_default arms) run_arms s) k) (frame (labels_at + length labels_part) (Word word ∷ stack) (own_in i))
          (frame (suc (labels_at + length labels_part)) stack (own_in i)) s s op.Pop tail.0 refl
          (by_jump w (own_in i) (bind (run_from (parts_before is_default arms) run_arms s) k) (suc (labels_at + length labels_part)) default_part stack s tail.1.0
          (subst (λ m. PlaysIn w (bind (run_from (parts_before is_default arms) run_arms s) k) (frame m stack (own_in i)) s)
          (sym (default_is (setting_in i) outs arms (suc (suc (suc pc))) (suc (suc pc)))) (from_default (parts_before is_default arms) s)))))

    switch_runs : (HasAt w.all (suc (suc (suc pc))) arms_code → ArmsRun) → (v : Value)
        → Runs Flow w (own_in i) pc (switching here pc arms_code labels_part default_part) (v ∷ stack)
        (λ t. switched (place_of (own_in i) here) v t (λ word. run_from (entry_of around.tags word arms) run_arms t)) (Goes w (own_in i) ends stack)
    switch_runs runs (Word n) = record {
      runs = λ h fin e s k go.
          let tail : List Op = labels_part ++ op.Pop ∷ op.Jump default_part ∷ [] in
          let l = length-append arms_code (op.Jump (suc (suc pc)) ∷ tail) in
          let m = length-append labels_part (op.Pop ∷ op.Jump default_part ∷ []) in
          let same : fin ≡ out_at = omega (arith, e, l, m) in
          let rest = has_second w.all (suc (suc (suc pc))) arms_code (op.Jump (suc (suc pc)) ∷ tail) (suc (suc (suc pc)) + length arms_code) refl h.1.1.1 in
          by_next w.names w.all w.below (bind (run_from (entry_of around.tags n arms) run_arms s) k) (frame pc (Word n ∷ stack) (own_in i)) (frame (suc pc) (Word n ∷ stack) (own_in i)) s s
          (op.Narrow scalar.Word here) h.0 refl
          (by_jump w (own_in i) (bind (run_from (entry_of around.tags n arms) run_arms s) k) (suc pc) labels_at (Word n ∷ stack) s h.1.0
          (from_labels h.1.1.0 rest.0 (runs (has_first w.all (suc (suc (suc pc))) arms_code (op.Jump (suc (suc pc)) ∷ tail) h.1.1.1)) k
          (λ flow t. subst (λ j. Goes w (own_in i) ends stack j flow (k flow t) t) same (go flow t)) n s rest.1));
    }
    switch_runs runs (Address p) = record {
      runs = λ h fin e s k go.
          by_fails w.names w.all w.below cause.Mixed (place_of (own_in i) here) (frame pc (Address p ∷ stack) (own_in i)) s s (op.Narrow scalar.Word here) h.0 refl;
    }
    switch_runs runs (Missing there) = record {
      runs = λ h fin e s k go.
          by_fails w.names w.all w.below cause.NoValue there (frame pc (Missing there ∷ stack) (own_in i)) s s (op.Narrow scalar.Word here) h.0 refl;
    }

  -- STATEMENTS

  module _ (turns : ℕ) where
    mutual
      pub statement_runs : (x : Typed) (i : Inside) (ends : Ends) (pc : ℕ) (stack : List Value)
          → Runs Flow w (own_in i) pc (statement_code (setting_in i) ends pc x) stack (λ s. statement turns (now_in i) x s) (Goes w (own_in i) ends stack)
      statement_runs (node kind.Block label parts) i ends pc stack =
          block_runs (map declaration_of (declared_in parts)) (λ inner outs m. statements_code inner outs m parts) (λ inner t. statements turns inner parts t)
          (λ j outs m st. statements_run parts j outs m st) i ends pc stack
      statement_runs (node (kind.Declaration spec inits) label parts) i ends pc stack =
          going_on w (own_in i) (initials_run i (declared_by (node (kind.Declaration spec inits) label parts)) pc stack)
      statement_runs (node kind.Expression label none) i ends pc stack = normal w (own_in i)
      statement_runs (node kind.Expression label (more e none)) i ends pc stack = going_on w (own_in i) (effect_runs i e pc stack)
      statement_runs (node kind.If label (more which (more first none))) i ends pc stack =
          along (λ s. bind (value (now_in i) which s) (λ v t. bind (test_at (at around label) (operand_type which) v t) (λ holds u. if holds then statement turns (now_in i) first u else Done Normal u)))
          (λ s. bind_assoc (value (now_in i) which s) (λ v t. test_at (at around label) (operand_type which) v t) (λ holds u. if holds then statement turns (now_in i) first u else Done Normal u))
          (seq (valuing i which pc stack) (λ v.
          guard_runs w (own_in i) (operand_type which) _ label.number (λ n. statement_code (setting_in i) ends n first) v stack (λ t. statement turns (now_in i) first t) ends
          (λ n. statement_runs first i ends n stack)))
      statement_runs (node kind.If label (more which (more first (more second none)))) i ends pc stack =
          along (λ s. bind (value (now_in i) which s) (λ v t. bind (test_at (at around label) (operand_type which) v t)
          (λ holds u. if holds then statement turns (now_in i) first u else statement turns (now_in i) second u)))
          (λ s. bind_assoc (value (now_in i) which s) (λ v t. test_at (at around label) (operand_type which) v t)
          (λ holds u. if holds then statement turns (now_in i) first u else statement turns (now_in i) second u))
          (seq (valuing i which pc stack) (λ v.
          choice w (own_in i) (operand_type which) _ label.number (λ n. statement_code (setting_in i) ends n first) (λ n. statement_code (setting_in i) ends n second) v stack
          (λ t. statement turns (now_in i) first t) (λ t. statement turns (now_in i) second t) (Goes w (own_in i) ends stack) (goes_joins w (own_in i) ends stack)
          (λ n. statement_runs first i ends n stack) (λ n. statement_runs second i ends n stack)))
      statement_runs (node kind.While label (more which (more body none))) i ends pc stack =
          tested_runs w (own_in i) turns pc _ _ _ stack ends (loop_of (condition (now_in i) (at around label) which) no_step (λ t. statement turns (now_in i) body t)) (record {
            steps = empty tt;
            tests_run = condition_runs i which label.number (suc pc) _ stack;
            bodies = statement_runs body i (in_loop pc ends) _ stack;
          })
      statement_runs (node kind.Do label (more body (more which none))) i ends pc stack =
          untested_runs w (own_in i) turns pc _ _ _ stack ends (loop_of (condition (now_in i) (at around label) which) no_step (λ t. statement turns (now_in i) body t)) (record {
            steps = empty tt;
            tests_run = condition_runs i which label.number (suc pc) _ stack;
            bodies = statement_runs body i (in_loop pc ends) _ stack;
          })
      statement_runs (node (kind.For true which next) label (more first others)) i ends pc stack =
          seq (effect_runs i first pc stack) (λ done. for_runs label.number which next others i ends _ stack)
      statement_runs (node (kind.For false which next) label others) i ends pc stack = for_runs label.number which next others i ends pc stack
      statement_runs (node kind.Switch label (more e arms)) i ends pc stack =
          seq (valuing i e pc stack) (λ v. switch_runs turns arms i ends label.number (pc + length (value_code (setting_in i) pc e)) stack
          (λ h n s k go. arms_run arms i (record ends { broke = suc (suc (pc + length (value_code (setting_in i) pc e))) }) _ stack h _ refl n s k go) v)
      statement_runs (node kind.Case label (more constant none)) i ends pc stack = normal w (own_in i)
      statement_runs (node kind.Default label none) i ends pc stack = normal w (own_in i)
      statement_runs (node kind.Break label none) i ends pc stack = breaking i ends pc stack
      statement_runs (node kind.Continue label none) i ends pc stack = continuing i ends pc stack
      statement_runs (node kind.Return label none) i ends pc stack = giving_nothing i ends pc stack
      statement_runs (node kind.Return label (more e none)) i ends pc stack =
          seq (valuing i e pc stack) (λ v.
          seq (converting w (own_in i) (conversion_of (now_in i) e around.result) around.result _ label.number v stack) (λ x. returning i ends _ x stack))
      statement_runs (node k label parts) i ends pc stack = lacking

      pub statements_run : (row : TypedRow) (i : Inside) (ends : Ends) (pc : ℕ) (stack : List Value)
          → Runs Flow w (own_in i) pc (statements_code (setting_in i) ends pc row) stack (λ s. statements turns (now_in i) row s) (Goes w (own_in i) ends stack)
      statements_run none i ends pc stack = normal w (own_in i)
      statements_run (more first others) i ends pc stack = then_runs w (own_in i) (statement_runs first i ends pc stack) (statements_run others i ends _ stack)

      arms_run : (row : TypedRow) (i : Inside) (ends : Ends) (pc : ℕ) (stack : List Value) → HasAt w.all pc (statements_code (setting_in i) ends pc row)
          → (fin : ℕ) → fin ≡ pc + length (statements_code (setting_in i) ends pc row) → (n : ℕ) (s : State) (k : Flow → State → Play Value)
          → ((flow : Flow) (t : State) → Goes w (own_in i) ends stack fin flow (k flow t) t)
          → PlaysIn w (bind (statements_from turns (now_in i) n row s) k) (frame (arm_at (setting_in i) ends pc row n) stack (own_in i)) s
      arms_run none i ends pc stack h fin e zero s k go = subst (λ m. PlaysIn w (k Normal s) (frame m stack (own_in i)) s) (omega (arith, e)) (go Normal s).goes
      arms_run none i ends pc stack h fin e (suc n) s k go = subst (λ m. PlaysIn w (k Normal s) (frame m stack (own_in i)) s) (omega (arith, e)) (go Normal s).goes
      arms_run (more first others) i ends pc stack h fin e zero s k go =
          (then_runs w (own_in i) (statement_runs first i ends pc stack) (statements_run others i ends _ stack)).runs h fin e s k go
      arms_run (more first others) i ends pc stack h fin e (suc n) s k go =
          let a : List Op = statement_code (setting_in i) ends pc first in
          let b : List Op = statements_code (setting_in i) ends (pc + length a) others in
          let l = length-append a b in
          arms_run others i ends (pc + length a) stack (has_second w.all pc a b (pc + length a) refl h) fin (omega (arith, e, l)) n s k go

      for_runs : (here : ℕ) (which next : Bool) (others : TypedRow) (i : Inside) (ends : Ends) (pc : ℕ) (stack : List Value)
          → Runs Flow w (own_in i) pc (for_code (setting_in i) ends here which next pc others) stack (λ s. for_loop turns (now_in i) (place_of (own_in i) here) which next others s)
          (Goes w (own_in i) ends stack)
      for_runs here true true (more which (more next (more body none))) i ends pc stack =
          tested_runs w (own_in i) turns pc _ _ _ stack ends (loop_of (condition (now_in i) (place_of (own_in i) here) which) (effect (now_in i) next) (λ t. statement turns (now_in i) body t)) (record {
            steps = effect_runs i next _ stack;
            tests_run = condition_runs i which here (suc pc) _ stack;
            bodies = statement_runs body i (in_loop pc ends) _ stack;
          })
      for_runs here true false (more which (more body none)) i ends pc stack =
          tested_runs w (own_in i) turns pc _ _ _ stack ends (loop_of (condition (now_in i) (place_of (own_in i) here) which) no_step (λ t. statement turns (now_in i) body t)) (record {
            steps = empty tt;
            tests_run = condition_runs i which here (suc pc) _ stack;
            bodies = statement_runs body i (in_loop pc ends) _ stack;
          })
      for_runs here false true (more next (more body none)) i ends pc stack =
          tested_runs w (own_in i) turns pc _ _ _ stack ends (loop_of always (effect (now_in i) next) (λ t. statement turns (now_in i) body t)) (record {
            steps = effect_runs i next _ stack;
            tests_run = always_runs w (own_in i) _ (suc pc) stack;
            bodies = statement_runs body i (in_loop pc ends) _ stack;
          })
      for_runs here false false (more body none) i ends pc stack =
          tested_runs w (own_in i) turns pc _ _ _ stack ends (loop_of always no_step (λ t. statement turns (now_in i) body t)) (record {
            steps = empty tt;
            tests_run = always_runs w (own_in i) _ (suc pc) stack;
            bodies = statement_runs body i (in_loop pc ends) _ stack;
          })
      for_runs here which next others i ends pc stack = lacking
