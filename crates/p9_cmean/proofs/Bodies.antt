-- The bodies of functions: their runs only go on; with more turns they do the same; and they take all
-- their turns before they are cut off.
use Rattle.std.proofs.Common.{◌≤◌, map, ℕ, zero, suc, Bool, true, false, if◌then◌else◌, List, Option, Some, None, Result, Ok, Err, refl, arith}
use Rattle.p9_lang.specs.declared.tree.Kind.TheVariants as kind
use Rattle.p9_lang.specs.Types.{TypeTree, Meant, row_types}
use Rattle.p9_lang.specs.Types as types
use Rattle.p9_lang.specs.Trees.{node, none, more}
use Rattle.p9_lang.specs.Modules.{Label, Typed, TypedRow}
use Rattle.p9_cmean.specs.declared.Cause.{Cause}
use Rattle.p9_cmean.specs.declared.Place.{Place}
use Rattle.p9_cmean.specs.Cells.{Value, Word, Address, Missing, State}
use Rattle.p9_cmean.specs.Plays.{Call, Play, Done, bind, Flow, Normal, then_go, after_switch, Loop, turn_of, tested_loop, no_step}
use Rattle.p9_cmean.specs.PlayLaws.{Follows, LoopFollows, Lasts}
use Rattle.p9_cmean.specs.Access.{integer_in}
use Rattle.p9_cmean.specs.Places.{used, or_wrong, or_no_meaning}
use Rattle.p9_cmean.specs.Automatics.{Declared, with_objects, left}
use Rattle.p9_cmean.specs.Declarations.{declared_by, declared_in, declaration_of, Definition}
use Rattle.p9_cmean.specs.Expressions.{Surroundings, at, value}
use Rattle.p9_cmean.specs.Statements as st
use Rattle.p9_cmean.specs.Statements.{statement, statements, statements_from, for_loop}
use Rattle.p9_cmean.proofs.Plays.{follows_refl, follows_bind, follows_then, follows_if, follows_go, loops_follow, tested_loops_follow, lasts_less, lasts_bind, loops_last}
use Rattle.p9_cmean.proofs.Going.{goes_refl, Keeps, keeps_from, keeps_bind, turns_keep}
use Rattle.p9_cmean.proofs.Throughout.{p_body}

-- GOING ON

abbrev KeepsAt : (A : Type 0) → State → Play A → Type 0
KeepsAt A s p = Keeps s p

pub keeps_body : (turns : ℕ) (around : Surroundings) (definition : Definition) (call : Call) (s : State) → Keeps s (st.function_body turns around definition call s)
keeps_body turns around definition call s =
    p_body KeepsAt
    (λ A s t p g h. keeps_from s t p g h) (λ A a s. goes_refl s) (λ A why pl s. goes_refl s) (λ A pl s. goes_refl s) (λ A n s p h. h)
    (λ A call s k h. (goes_refl s, λ v t g. h v t)) turns
    (λ loop ht hb hs s. turns_keep turns loop (record { tests = ht; bodies = hb; steps = hs }) s)
    (λ A B s p k h g. keeps_bind s p k h g)
    around definition call s

-- LASTING

abbrev LastsFor : (turns : ℕ) → (A : Type 0) → State → Play A → Type 0
LastsFor turns A s p = Lasts turns p

lasts_turns : (turns : ℕ) (loop : Loop) → ((s : State) → Lasts (suc turns) (loop.test s)) → ((s : State) → Lasts (suc turns) (loop.body s)) → ((s : State) → Lasts (suc turns) (loop.step s))
    → (s : State) → Lasts (suc turns) (turn_of turns loop s)
lasts_turns turns loop ht hb hs s =
    loops_last turns loop
    (record {
      tests = λ t. lasts_less (loop.test t) (suc turns) turns (omega arith) (ht t);
      bodies = λ t. lasts_less (loop.body t) (suc turns) turns (omega arith) (hb t);
      steps = λ t. lasts_less (loop.step t) (suc turns) turns (omega arith) (hs t);
    })
    s

pub lasts_body : (turns : ℕ) (around : Surroundings) (definition : Definition) (call : Call) (s : State) → Lasts (suc turns) (st.function_body turns around definition call s)
lasts_body turns around definition call s =
    p_body (LastsFor (suc turns))
    (λ A s t p g h. h) (λ A a s. tt) (λ A why pl s. tt) (λ A pl s. tt) (λ A n s p h. h)
    (λ A call s k h v t. lasts_less (k v t) (suc turns) turns (omega arith) (h v t)) turns
    (λ loop ht hb hs s. lasts_turns turns loop ht hb hs s)
    (λ A B s p k h g. lasts_bind p k (suc turns) h g)
    around definition call s

-- FOLLOWING

follows_used : {A : Type 0} (n : ℕ) (v : Value) (s : State) (k l : Value → Play A) → ((w : Value) → Follows n (k w) (l w)) → Follows n (used v s k) (used v s l)
follows_used n (Word w) s k l h = h (Word w)
follows_used n (Address p) s k l h = h (Address p)
follows_used n (Missing c) s k l h = refl

follows_or : {A B : Type 0} (n : ℕ) (pl : Place) (s : State) (r : Result A Cause) (k l : A → Play B) → ((a : A) → Follows n (k a) (l a)) → Follows n (or_wrong pl s r k) (or_wrong pl s r l)
follows_or n pl s (Ok a) k l h = h a
follows_or n pl s (Err why) k l h = refl

follows_or_no : {A B : Type 0} (n : ℕ) (pl : Place) (s : State) (r : Option A) (k l : A → Play B) → ((a : A) → Follows n (k a) (l a)) → Follows n (or_no_meaning pl s r k) (or_no_meaning pl s r l)
follows_or_no n pl s (Some a) k l h = h a
follows_or_no n pl s None k l h = refl

follows_run_from : (n : ℕ) (i : Option ℕ) (k l : ℕ → State → Play Flow) → ((j : ℕ) (s : State) → Follows n (k j s) (l j s)) → (s : State) → Follows n (st.run_from i k s) (st.run_from i l s)
follows_run_from n None k l h s = refl
follows_run_from n (Some j) k l h s =
    follows_bind n (k j s) (l j s) (λ flow t. after_switch flow t) (λ flow t. after_switch flow t) (h j s) (λ flow t. follows_refl n (after_switch flow t))

module _ (m n : ℕ) (le : m ≤ n) where
  loop_follows : (test : State → Play Bool) (step : State → Play (Unit {0})) (k l : State → Play Flow) → ((s : State) → Follows m (k s) (l s)) → LoopFollows m (st.loop_of test step k) (st.loop_of test step l)
  loop_follows test step k l h = record {
    tests = λ s. follows_refl m (test s);
    bodies = h;
    steps = λ s. follows_refl m (step s);
  }

  follow_turns : (test : State → Play Bool) (step : State → Play (Unit {0})) (k l : State → Play Flow) → ((s : State) → Follows m (k s) (l s)) → (s : State) → Follows m (turn_of m (st.loop_of test step k) s) (turn_of n (st.loop_of test step l) s)
  follow_turns test step k l h s = (loops_follow m n le (st.loop_of test step k) (st.loop_of test step l) (loop_follows test step k l h) s)

  follow_loop : (test : State → Play Bool) (step : State → Play (Unit {0})) (k l : State → Play Flow) → ((s : State) → Follows m (k s) (l s)) → (s : State) → Follows m (tested_loop m (st.loop_of test step k) s) (tested_loop n (st.loop_of test step l) s)
  follow_loop test step k l h s = (tested_loops_follow m n le (st.loop_of test step k) (st.loop_of test step l) (loop_follows test step k l h) s)

  mutual
    statement_follows : (around : Surroundings) (e : Typed) (s : State) → Follows m (statement m around e s) (statement n around e s)
    statement_follows around (node kind.Block label parts) s =
        let ds : List Declared = map declaration_of (declared_in parts) in
        follows_bind m (statements m (st.inside around (st.living_in ds s)) parts (st.entered around ds s)) (statements n (st.inside around (st.living_in ds s)) parts (st.entered around ds s))
        (λ flow t. Done flow (left (st.living_in ds s) t)) (λ flow t. Done flow (left (st.living_in ds s) t))
        (statements_follow (st.inside around (st.living_in ds s)) parts (st.entered around ds s)) (λ flow t. refl)
    statement_follows around (node (kind.Declaration spec inits) label parts) s =
        follows_refl m (bind (st.all_initialised around (declared_by (node (kind.Declaration spec inits) label parts)) s) (λ d t. Done Normal t))
    statement_follows around (node kind.Expression label none) s = refl
    statement_follows around (node kind.Expression label (more e none)) s = follows_refl m (bind (st.effect around e s) (λ d t. Done Normal t))
    statement_follows around (node kind.If label (more test (more first none))) s =
        follows_then m (st.condition around (at around label) test s) (λ holds t. if holds then statement m around first t else Done Normal t) (λ holds t. if holds then statement n around first t else Done Normal t)
        (λ holds t. follows_if m holds (statement m around first t) (statement n around first t) (Done Normal t) (Done Normal t) (statement_follows around first t) refl)
    statement_follows around (node kind.If label (more test (more first (more second none)))) s =
        follows_then m (st.condition around (at around label) test s) (λ holds t. if holds then statement m around first t else statement m around second t) (λ holds t. if holds then statement n around first t else statement n around second t)
        (λ holds t. follows_if m holds (statement m around first t) (statement n around first t) (statement m around second t) (statement n around second t) (statement_follows around first t) (statement_follows around second t))
    statement_follows around (node kind.While label (more test (more body none))) s =
        follow_loop (st.condition around (at around label) test) no_step (λ t. statement m around body t) (λ t. statement n around body t) (λ t. statement_follows around body t) s
    statement_follows around (node kind.Do label (more body (more test none))) s =
        follow_turns (st.condition around (at around label) test) no_step (λ t. statement m around body t) (λ t. statement n around body t) (λ t. statement_follows around body t) s
    statement_follows around (node (kind.For true test step) label (more first others)) s =
        follows_then m (st.effect around first s) (λ d t. for_loop m around (at around label) test step others t) (λ d t. for_loop n around (at around label) test step others t)
        (λ d t. for_follows around (at around label) test step others t)
    statement_follows around (node (kind.For false test step) label others) s = for_follows around (at around label) test step others s
    statement_follows around (node kind.Switch label (more e arms)) s =
        follows_then m (value around e s)
        (λ v t. st.switched (at around label) v t (λ word. st.run_from (st.entry_of around.tags word arms) (λ k u. statements_from m around k arms u) t))
        (λ v t. st.switched (at around label) v t (λ word. st.run_from (st.entry_of around.tags word arms) (λ k u. statements_from n around k arms u) t))
        (λ v t.
        follows_used m v t _ _ (λ w.
        follows_or m (at around label) t (integer_in w) _ _ (λ word.
        follows_run_from m (st.entry_of around.tags word arms) (λ k u. statements_from m around k arms u) (λ k u. statements_from n around k arms u) (λ k u. from_follows around k arms u) t)))
    statement_follows around (node kind.Case label (more constant none)) s = refl
    statement_follows around (node kind.Default label none) s = refl
    statement_follows around (node kind.Break label none) s = refl
    statement_follows around (node kind.Continue label none) s = refl
    statement_follows around (node kind.Return label none) s = refl
    statement_follows around (node kind.Return label (more e none)) s = follows_refl m (st.returned around (at around label) e s)
    statement_follows around (node k label parts) s = refl

    statements_follow : (around : Surroundings) (es : TypedRow) (s : State) → Follows m (statements m around es s) (statements n around es s)
    statements_follow around none s = refl
    statements_follow around (more first others) s =
        follows_bind m (statement m around first s) (statement n around first s) (λ flow t. then_go flow t (λ u. statements m around others u)) (λ flow t. then_go flow t (λ u. statements n around others u))
        (statement_follows around first s) (λ flow t. follows_go m flow t (λ u. statements m around others u) (λ u. statements n around others u) (λ u. statements_follow around others u))

    from_follows : (around : Surroundings) (k : ℕ) (es : TypedRow) (s : State) → Follows m (statements_from m around k es s) (statements_from n around k es s)
    from_follows around zero none s = refl
    from_follows around (suc k) none s = refl
    from_follows around zero (more first others) s =
        follows_bind m (statement m around first s) (statement n around first s) (λ flow t. then_go flow t (λ u. statements m around others u)) (λ flow t. then_go flow t (λ u. statements n around others u))
        (statement_follows around first s) (λ flow t. follows_go m flow t (λ u. statements m around others u) (λ u. statements n around others u) (λ u. statements_follow around others u))
    from_follows around (suc k) (more first others) s = from_follows around k others s

    for_follows : (around : Surroundings) (pl : Place) (test step : Bool) (es : TypedRow) (s : State) → Follows m (for_loop m around pl test step es s) (for_loop n around pl test step es s)
    for_follows around pl true true (more test (more step (more body none))) s =
        follow_loop (st.condition around pl test) (st.effect around step) (λ t. statement m around body t) (λ t. statement n around body t) (λ t. statement_follows around body t) s
    for_follows around pl true false (more test (more body none)) s =
        follow_loop (st.condition around pl test) no_step (λ t. statement m around body t) (λ t. statement n around body t) (λ t. statement_follows around body t) s
    for_follows around pl false true (more step (more body none)) s =
        follow_loop st.always (st.effect around step) (λ t. statement m around body t) (λ t. statement n around body t) (λ t. statement_follows around body t) s
    for_follows around pl false false (more body none) s =
        follow_loop st.always no_step (λ t. statement m around body t) (λ t. statement n around body t) (λ t. statement_follows around body t) s
    for_follows around pl test step others s = refl

  run_block_follows : (around : Surroundings) (result : TypeTree) (parameters : List TypeTree) (block : Typed) (call : Call) (s : State)
      → Follows m (st.run_block m around result parameters block call s) (st.run_block n around result parameters block call s)
  run_block_follows around result parameters block call s =
      follows_or_no m call.place s (st.argument_objects around.tags parameters call.arguments) _ _ (λ objects.
      follows_bind m (statement m (st.with_parameters around result (st.living_in (st.parameters_from 0 parameters) s)) block (with_objects objects s))
      (statement n (st.with_parameters around result (st.living_in (st.parameters_from 0 parameters) s)) block (with_objects objects s))
      (λ flow t. st.given call.place flow (left (st.living_in (st.parameters_from 0 parameters) s) t)) (λ flow t. st.given call.place flow (left (st.living_in (st.parameters_from 0 parameters) s) t))
      (statement_follows (st.with_parameters around result (st.living_in (st.parameters_from 0 parameters) s)) block (with_objects objects s))
      (λ flow t. follows_refl m (st.given call.place flow (left (st.living_in (st.parameters_from 0 parameters) s) t))))

  pub body_follows : (around : Surroundings) (definition : Definition) (call : Call) (s : State)
      → Follows m (st.function_body m around definition call s) (st.function_body n around definition call s)
  body_follows around definition call s = by definition.label definition.name.number definition.name.token definition.name.type definition.name.means definition.block
    where
      by : (label : Label) (i token : ℕ) (type : TypeTree) (means : Meant) (block : Typed)
          → Follows m (st.function_body m around (record { label = label; name = record { number = i; token = token; type = type; means = means }; block = block }) call s)
          (st.function_body n around (record { label = label; name = record { number = i; token = token; type = type; means = means }; block = block }) call s)
      by label i token (types.Function result parameters) means block = run_block_follows around result (row_types parameters) block call s
      by label i token type means block = refl
