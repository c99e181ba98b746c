-- How statements end, and where they go on: pieces of code of loops and switches.
use Rattle.std.proofs.Common.{◌≡◌, ℕ, zero, suc, ◌+◌, Bool, true, false, if◌then◌else◌, List, [], ◌∷◌, ◌++◌, length, Option, Some, None, slice_get, refl, sym, ap, subst, arith, length-append}
use Rattle.p9_lang.specs.Types.{TypeTree}
use Rattle.p9_cmean.specs.Cells.{Value, Missing, State}
use Rattle.p9_cmean.specs.Plays.{Play, Done, Cut, bind, Flow, Normal, Broke, Continued, Returned, Went, then_go, after_turn, Loop, turn_of, tested_loop}
use Rattle.p9_cmean.specs.Expressions.{test_at}
use Rattle.p9_cmean.proofs.Plays.{bind_assoc}
use Rattle.p9_flat.specs.declared.op.Op.{Op}
use Rattle.p9_flat.specs.declared.op.Op.TheVariants as op
use Rattle.p9_flat.specs.Resolved.{tests}
use Rattle.p9_flat.specs.Flat.{HasAt, Ends, if_code, branch_code, turning, in_loop}
use Rattle.p9_flat.specs.Step.{Own, frame}
use Rattle.p9_flat.proofs.Playing.{has_first, has_second, by_turn, by_cut}
use Rattle.p9_flat.proofs.Runs.{World, PlaysIn, Landing, Runs, Straight, seq, along, by_jump}
use Rattle.p9_flat.proofs.Accesses.{place_of, test_by, test_is, lacking_test, branching, Joins}

-- the play goes on where a statement that ended so goes on
abbrev pub GoesTo : World → Own → Ends → List Value → (fin : ℕ) → Flow → Play Value → State → Type 0
GoesTo w own ends stack fin Normal p t = PlaysIn w p (frame fin stack own) t
GoesTo w own ends stack fin Broke p t = PlaysIn w p (frame ends.broke stack own) t
GoesTo w own ends stack fin Continued p t = PlaysIn w p (frame ends.continued stack own) t
GoesTo w own ends stack fin (Returned None) p t = PlaysIn w p (frame ends.returned (Missing own.call ∷ stack) own) t
GoesTo w own ends stack fin (Returned (Some v)) p t = PlaysIn w p (frame ends.returned (v ∷ stack) own) t
GoesTo w own ends stack fin (Went l) p t = Unit {0}

pub record Goes (w : World) (own : Own) (ends : Ends) (stack : List Value) (fin : ℕ) (flow : Flow) (p : Play Value) (t : State) : Type 0 where
  pub goes : GoesTo w own ends stack fin flow p t

-- a test: where it holds behind it, else at another place
abbrev pub BranchesTo : World → Own → List Value → (otherwise fin : ℕ) → Bool → Play Value → State → Type 0
BranchesTo w own stack otherwise fin true p t = PlaysIn w p (frame fin stack own) t
BranchesTo w own stack otherwise fin false p t = PlaysIn w p (frame otherwise stack own) t

pub record Branches (w : World) (own : Own) (stack : List Value) (otherwise fin : ℕ) (holds : Bool) (p : Play Value) (t : State) : Type 0 where
  pub goes : BranchesTo w own stack otherwise fin holds p t

module _ (w : World) (own : Own) where
  pub goes_joins : (ends : Ends) (stack : List Value) → Joins w own (Goes w own ends stack)
  goes_joins ends stack m fin Normal r t there h = record { goes = by_jump w own r m fin stack t there h.goes }
  goes_joins ends stack m fin Broke r t there h = record { goes = h.goes }
  goes_joins ends stack m fin Continued r t there h = record { goes = h.goes }
  goes_joins ends stack m fin (Returned None) r t there h = record { goes = h.goes }
  goes_joins ends stack m fin (Returned (Some v)) r t there h = record { goes = h.goes }
  goes_joins ends stack m fin (Went l) r t there h = record { goes = tt }

  -- a statement that goes on
  pub going_on : {pc : ℕ} {code : List Op} {stack : List Value} {f : State → Play (Unit {0})} {ends : Ends}
      → Runs (Unit {0}) w own pc code stack f (Straight (Unit {0}) w own (λ done. stack))
      → Runs Flow w own pc code stack (λ s. bind (f s) (λ done t. Done Normal t)) (Goes w own ends stack)
  going_on {pc} {code} {stack} {f} {ends} runs = record {
    runs = λ h fin e s k go.
        subst (λ p. PlaysIn w p (frame pc stack own) s) (sym (bind_assoc (f s) (λ done t. Done Normal t) k))
        (runs.runs h fin e s (λ done t. k Normal t) (λ done t. record { plays = (go Normal t).goes }));
  }

  pub normal : {pc : ℕ} {stack : List Value} {ends : Ends} → Runs Flow w own pc [] stack (λ s. Done Normal s) (Goes w own ends stack)
  normal {pc} {stack} {ends} = record {
    runs = λ h fin e s k go.
        subst (λ m. PlaysIn w (k Normal s) (frame m stack own) s) (omega (arith, e)) (go Normal s).goes;
  }

  -- statements one behind the other
  pub then_runs : {pc : ℕ} {first rest : List Op} {stack : List Value} {f g : State → Play Flow} {ends : Ends}
      → Runs Flow w own pc first stack f (Goes w own ends stack) → Runs Flow w own (pc + length first) rest stack g (Goes w own ends stack)
      → Runs Flow w own pc (first ++ rest) stack (λ s. bind (f s) (λ flow t. then_go flow t g)) (Goes w own ends stack)
  then_runs {pc} {first} {rest} {stack} {f} {g} {ends} one two = record {
    runs = λ h fin e s k go.
        let l = length-append first rest in
        let second = has_second w.all pc first rest (pc + length first) refl h in
        subst (λ p. PlaysIn w p (frame pc stack own) s) (sym (bind_assoc (f s) (λ flow t. then_go flow t g) k))
        (one.runs (has_first w.all pc first rest h) (pc + length first) refl s (λ flow t. bind (then_go flow t g) k)
        (next fin k go (λ t. two.runs second fin (omega (arith, e, l)) t k go)));
  }
    where
      next : (fin : ℕ) (k : Flow → State → Play Value) → ((flow : Flow) (t : State) → Goes w own ends stack fin flow (k flow t) t)
          → ((t : State) → PlaysIn w (bind (g t) k) (frame (pc + length first) stack own) t)
          → (flow : Flow) (t : State) → Goes w own ends stack (pc + length first) flow (bind (then_go flow t g) k) t
      next fin k go on Normal t = record { goes = on t }
      next fin k go on Broke t = record { goes = (go Broke t).goes }
      next fin k go on Continued t = record { goes = (go Continued t).goes }
      next fin k go on (Returned None) t = record { goes = (go (Returned None) t).goes }
      next fin k go on (Returned (Some v)) t = record { goes = (go (Returned (Some v)) t).goes }
      next fin k go on (Went l) t = record { goes = tt }

  -- TESTS

  branch_by : (o : Option Bool) (pc here otherwise : ℕ) (v : Value) (stack : List Value)
      → Runs Bool w own pc (branch_code o here otherwise) (v ∷ stack) (λ s. test_by w own o (place_of own here) v s) (Branches w own stack otherwise)
  branch_by None pc here otherwise v stack = Rattle.p9_flat.proofs.Runs.lacking_of v
  branch_by (Some of_pointer) pc here otherwise v stack = record {
    runs = λ h fin e s k go.
        branching w own pc here otherwise of_pointer v stack s k h.0
        (λ t. subst (λ m. PlaysIn w (k true t) (frame m stack own) t) (omega (arith, e)) (go true t).goes)
        (λ t. (go false t).goes);
  }

  pub branch_runs : (type : TypeTree) (pc here otherwise : ℕ) (v : Value) (stack : List Value)
      → Runs Bool w own pc (branch_code (tests type) here otherwise) (v ∷ stack) (λ s. test_at (place_of own here) type v s) (Branches w own stack otherwise)
  branch_runs type pc here otherwise v stack =
      along (λ s. test_by w own (tests type) (place_of own here) v s) (λ s. test_is w own type (place_of own here) v s)
      (branch_by (tests type) pc here otherwise v stack)

  pub always_runs : (pc otherwise : ℕ) (stack : List Value) → Runs Bool w own pc [] stack (λ s. Done true s) (Branches w own stack otherwise)
  always_runs pc otherwise stack = record {
    runs = λ h fin e s k go.
        subst (λ m. PlaysIn w (k true s) (frame m stack own) s) (omega (arith, e)) (go true s).goes;
  }

  guarding : (o : Option Bool) (pc here : ℕ) (first : ℕ → List Op) (v : Value) (stack : List Value) (p : State → Play Flow) (ends : Ends)
      → ((n : ℕ) → Runs Flow w own n (first n) stack p (Goes w own ends stack))
      → Runs Flow w own pc (if_code o here pc first) (v ∷ stack)
      (λ s. bind (test_by w own o (place_of own here) v s) (λ holds t. if holds then p t else Done Normal t)) (Goes w own ends stack)
  guarding None pc here first v stack p ends one = lacking_test w own pc here v stack (λ holds t. if holds then p t else Done Normal t) (Goes w own ends stack)
  guarding (Some of_pointer) pc here first v stack p ends one = record {
    runs = λ h fin e s k go.
        let same : fin ≡ suc pc + length (first (suc pc)) = omega (arith, e) in
        subst (λ r. PlaysIn w r (frame pc (v ∷ stack) own) s)
        (sym (bind_assoc (test_by w own (Some of_pointer) (place_of own here) v s) (λ holds t. if holds then p t else Done Normal t) k))
        (branching w own pc here (suc pc + length (first (suc pc))) of_pointer v stack s (λ holds t. bind (if holds then p t else Done Normal t) k) h.0
        (λ t. (one (suc pc)).runs h.1 fin same t k go)
        (λ t. subst (λ m. PlaysIn w (k Normal t) (frame m stack own) t) same (go Normal t).goes));
  }

  pub guard_runs : (type : TypeTree) (pc here : ℕ) (first : ℕ → List Op) (v : Value) (stack : List Value) (p : State → Play Flow) (ends : Ends)
      → ((n : ℕ) → Runs Flow w own n (first n) stack p (Goes w own ends stack))
      → Runs Flow w own pc (if_code (tests type) here pc first) (v ∷ stack)
      (λ s. bind (test_at (place_of own here) type v s) (λ holds t. if holds then p t else Done Normal t)) (Goes w own ends stack)
  guard_runs type pc here first v stack p ends one =
      along (λ s. bind (test_by w own (tests type) (place_of own here) v s) (λ holds t. if holds then p t else Done Normal t))
      (λ s. ap (λ r. bind r (λ holds t. if holds then p t else Done Normal t)) (test_is w own type (place_of own here) v s))
      (guarding (tests type) pc here first v stack p ends one)

  -- LOOPS

  -- the pieces of a loop, each where it stands
  pub record LoopRuns (pc : ℕ) (step_part test_part body_part : List Op) (stack : List Value) (ends : Ends) (loop : Loop) : Type 0 where
    pub steps : Runs (Unit {0}) w own (suc (suc pc)) step_part stack (λ s. loop.step s) (Straight (Unit {0}) w own (λ done. stack))
    pub tests_run : Runs Bool w own (suc (suc pc) + length step_part) test_part stack (λ s. loop.test s) (Branches w own stack (suc pc))
    pub bodies : Runs Flow w own (suc (suc (suc pc) + length step_part + length test_part)) body_part stack (λ s. loop.body s) (Goes w own (in_loop pc ends) stack)

  -- the pieces stand in the code
  pub record LoopStands (pc : ℕ) (step_part test_part body_part : List Op) : Type 0 where
    pub out : slice_get w.all (suc pc) ≡ Some (op.Jump (suc (suc (suc (suc pc) + length step_part + length test_part + length body_part))))
    pub step_stands : HasAt w.all (suc (suc pc)) step_part
    pub test_stands : HasAt w.all (suc (suc pc) + length step_part) test_part
    pub turn_stands : slice_get w.all (suc (suc pc) + length step_part + length test_part) ≡ Some op.Turn
    pub body_stands : HasAt w.all (suc (suc (suc pc) + length step_part + length test_part)) body_part
    pub back : slice_get w.all (suc (suc (suc pc) + length step_part + length test_part) + length body_part) ≡ Some (op.Jump (suc (suc pc)))

  loop_stands : (tested : Bool) (pc : ℕ) (step_part test_part body_part : List Op) → HasAt w.all pc (turning tested pc step_part test_part body_part)
      → LoopStands pc step_part test_part body_part
  loop_stands tested pc step_part test_part body_part h =
      let tail : List Op = op.Turn ∷ (body_part ++ op.Jump (suc (suc pc)) ∷ []) in
      let one = has_second w.all (suc (suc pc)) step_part (test_part ++ tail) (suc (suc pc) + length step_part) refl h.1.1 in
      let two = has_second w.all (suc (suc pc) + length step_part) test_part tail (suc (suc pc) + length step_part + length test_part) refl one in
      record {
        out = h.1.0;
        step_stands = has_first w.all (suc (suc pc)) step_part (test_part ++ tail) h.1.1;
        test_stands = has_first w.all (suc (suc pc) + length step_part) test_part tail one;
        turn_stands = two.0;
        body_stands = has_first w.all (suc (suc (suc pc) + length step_part + length test_part)) body_part (op.Jump (suc (suc pc)) ∷ []) two.1;
        back = (has_second w.all (suc (suc (suc pc) + length step_part + length test_part)) body_part (op.Jump (suc (suc pc)) ∷ [])
            (suc (suc (suc pc) + length step_part + length test_part) + length body_part) refl two.1).0;
      }

  -- what follows a run of the body
  abbrev again_of : (turns : ℕ) → Loop → State → Play Flow
  again_of turns loop u = bind (loop.step u) (λ done x. bind (loop.test x) (λ holds y. if holds then turn_of turns loop y else Done Normal y))

  module _ (pc : ℕ) (step_part test_part body_part : List Op) (stack : List Value) (ends : Ends) (loop : Loop)
      (runs : LoopRuns pc step_part test_part body_part stack ends loop) (stands : LoopStands pc step_part test_part body_part)
      (k : Flow → State → Play Value) (go : (flow : Flow) (t : State) → Goes w own ends stack (suc (suc (suc (suc pc) + length step_part + length test_part + length body_part))) flow (k flow t) t) where
    leaves : (t : State) → PlaysIn w (k Normal t) (frame (suc pc) stack own) t
    leaves t = by_jump w own (k Normal t) (suc pc) (suc (suc (suc (suc pc) + length step_part + length test_part + length body_part))) stack t stands.out (go Normal t).goes

    test_plays : (turns : ℕ) → ((t : State) → PlaysIn w (bind (turn_of turns loop t) k) (frame (suc (suc pc) + length step_part + length test_part) stack own) t)
        → (s : State) → PlaysIn w (bind (bind (loop.test s) (λ holds t. if holds then turn_of turns loop t else Done Normal t)) k) (frame (suc (suc pc) + length step_part) stack own) s
    test_plays turns turn s =
        subst (λ p. PlaysIn w p (frame (suc (suc pc) + length step_part) stack own) s)
        (sym (bind_assoc (loop.test s) (λ holds t. if holds then turn_of turns loop t else Done Normal t) k))
        (runs.tests_run.runs stands.test_stands (suc (suc pc) + length step_part + length test_part) refl s
        (λ holds t. bind (if holds then turn_of turns loop t else Done Normal t) k) both)
      where
        both : (holds : Bool) (t : State) → Branches w own stack (suc pc) (suc (suc pc) + length step_part + length test_part) holds (bind (if holds then turn_of turns loop t else Done Normal t) k) t
        both true t = record { goes = turn t }
        both false t = record { goes = leaves t }

    again_plays : (turns : ℕ) → ((t : State) → PlaysIn w (bind (turn_of turns loop t) k) (frame (suc (suc pc) + length step_part + length test_part) stack own) t)
        → (s : State) → PlaysIn w (bind (again_of turns loop s) k) (frame (suc (suc pc)) stack own) s
    again_plays turns turn s =
        subst (λ p. PlaysIn w p (frame (suc (suc pc)) stack own) s)
        (sym (bind_assoc (loop.step s) (λ done x. bind (loop.test x) (λ holds y. if holds then turn_of turns loop y else Done Normal y)) k))
        (runs.steps.runs stands.step_stands (suc (suc pc) + length step_part) refl s
        (λ done x. bind (bind (loop.test x) (λ holds y. if holds then turn_of turns loop y else Done Normal y)) k)
        (λ done x. record { plays = test_plays turns turn x }))

    after_body : (turns : ℕ) → ((t : State) → PlaysIn w (bind (again_of turns loop t) k) (frame (suc (suc pc)) stack own) t)
        → (flow : Flow) (t : State) → Goes w own (in_loop pc ends) stack (suc (suc (suc pc) + length step_part + length test_part) + length body_part) flow
        (bind (after_turn flow t (λ u. again_of turns loop u)) k) t
    after_body turns next Normal t = record { goes = by_jump w own _ (suc (suc (suc pc) + length step_part + length test_part) + length body_part) (suc (suc pc)) stack t stands.back (next t) }
    after_body turns next Continued t = record { goes = next t }
    after_body turns next Broke t = record { goes = leaves t }
    after_body turns next (Returned None) t = record { goes = (go (Returned None) t).goes }
    after_body turns next (Returned (Some v)) t = record { goes = (go (Returned (Some v)) t).goes }
    after_body turns next (Went l) t = record { goes = tt }

    turn_plays : (turns : ℕ) (s : State) → PlaysIn w (bind (turn_of turns loop s) k) (frame (suc (suc pc) + length step_part + length test_part) stack own) s
    turn_plays zero s =
        by_turn w.names w.all w.below (Cut s) (frame (suc (suc pc) + length step_part + length test_part) stack own)
        (frame (suc (suc (suc pc) + length step_part + length test_part)) stack own) s s op.Turn stands.turn_stands refl
        (by_cut w.names w.all w.below (frame (suc (suc (suc pc) + length step_part + length test_part)) stack own) s s)
    turn_plays (suc turns) s =
        by_turn w.names w.all w.below (bind (bind (loop.body s) (λ flow t. after_turn flow t (λ u. again_of turns loop u))) k)
        (frame (suc (suc pc) + length step_part + length test_part) stack own)
        (frame (suc (suc (suc pc) + length step_part + length test_part)) stack own) s s op.Turn stands.turn_stands refl
        (subst (λ p. PlaysIn w p (frame (suc (suc (suc pc) + length step_part + length test_part)) stack own) s)
        (sym (bind_assoc (loop.body s) (λ flow t. after_turn flow t (λ u. again_of turns loop u)) k))
        (runs.bodies.runs stands.body_stands (suc (suc (suc pc) + length step_part + length test_part) + length body_part) refl s
        (λ flow t. bind (after_turn flow t (λ u. again_of turns loop u)) k)
        (after_body turns (again_plays turns (turn_plays turns)))))

  loop_length : (tested : Bool) (pc fin : ℕ) (step_part test_part body_part : List Op) → fin ≡ pc + length (turning tested pc step_part test_part body_part)
      → fin ≡ suc (suc (suc (suc pc) + length step_part + length test_part + length body_part))
  loop_length tested pc fin step_part test_part body_part e =
      let a = length-append step_part (test_part ++ (op.Turn ∷ (body_part ++ op.Jump (suc (suc pc)) ∷ []))) in
      let b = length-append test_part (op.Turn ∷ (body_part ++ op.Jump (suc (suc pc)) ∷ [])) in
      let c = length-append body_part (op.Jump (suc (suc pc)) ∷ []) in
      omega (arith, e, a, b, c)

  -- a loop that tests before its first turn
  pub tested_runs : (turns pc : ℕ) (step_part test_part body_part : List Op) (stack : List Value) (ends : Ends) (loop : Loop)
      → LoopRuns pc step_part test_part body_part stack ends loop
      → Runs Flow w own pc (turning true pc step_part test_part body_part) stack (λ s. tested_loop turns loop s) (Goes w own ends stack)
  tested_runs turns pc step_part test_part body_part stack ends loop runs = record {
    runs = λ h fin e s k go.
        let stands = loop_stands true pc step_part test_part body_part h in
        let land : (flow : Flow) (t : State) → Goes w own ends stack (suc (suc (suc (suc pc) + length step_part + length test_part + length body_part))) flow (k flow t) t = λ flow t. subst (λ m. Goes w own ends stack m flow (k flow t) t) (loop_length true pc fin step_part test_part body_part e) (go flow t) in
        by_jump w own (bind (tested_loop turns loop s) k) pc (suc (suc pc) + length step_part) stack s h.0
        (test_plays pc step_part test_part body_part stack ends loop runs stands k land turns
        (turn_plays pc step_part test_part body_part stack ends loop runs stands k land turns) s);
  }

  -- and one that doesn't
  pub untested_runs : (turns pc : ℕ) (step_part test_part body_part : List Op) (stack : List Value) (ends : Ends) (loop : Loop)
      → LoopRuns pc step_part test_part body_part stack ends loop
      → Runs Flow w own pc (turning false pc step_part test_part body_part) stack (λ s. turn_of turns loop s) (Goes w own ends stack)
  untested_runs turns pc step_part test_part body_part stack ends loop runs = record {
    runs = λ h fin e s k go.
        let stands = loop_stands false pc step_part test_part body_part h in
        by_jump w own (bind (turn_of turns loop s) k) pc (suc (suc pc) + length step_part + length test_part) stack s h.0
        (turn_plays pc step_part test_part body_part stack ends loop runs stands k
        (λ flow t. subst (λ m. Goes w own ends stack m flow (k flow t) t) (loop_length false pc fin step_part test_part body_part e) (go flow t)) turns s);
  }
