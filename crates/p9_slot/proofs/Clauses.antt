-- What the schedule promises, but for its added lines.
use Rattle.std.proofs.Common.{ℕ, zero, suc, ◌+◌, ◌-◌, ◌*◌, ◌^◌, ◌≡◌, ◌⊎◌, inl, inr, ◌≤◌, ◌<◌, ◌||◌, nat_lt, Bool, true, false, Option, Some, None, IfSome, refl, sym, ap, ◌∙◌, subst, arith, List, [], ◌∷◌, ◌++◌, length, drop, replicate, slice_get, slice_index}
use Rattle.std.proofs.Math.Path.{fun_ext}
use Rattle.std.proofs.lemmas.Option.{slice_get_within, get_or_from_slice_get}
use Rattle.std.proofs.lemmas.Bool.Decides.{nat_tests}
use Rattle.p9_base.specs.declared.halt.Ending.{Ending}
use Rattle.p9_base.specs.declared.halt.Ending.TheVariants.{Running, Exited, Halted}
use Rattle.p9_base.specs.SystemCalls.{State}
use Rattle.p9_r3k.specs.declared.inst.Inst.{Inst}
use Rattle.p9_r3k.specs.declared.lines.Line.{Line}
use Rattle.p9_r3k.specs.Laws.{HasEnded}
use Rattle.p9_r3k.specs.Uses.{links, is_system_call}
use Rattle.p9_r3k.specs.Straight.{Addresses, Straight, straight_run}
use Rattle.p9_r3k.specs.Delayed.{line_address, noop, least, enter, entered, delayed_run, NotHalted}
use Rattle.p9_r3k.proofs.DelayedRuns.{delayed_run-sum, delayed_run-ended}
use Rattle.p9_slot.specs.declared.placing.Recent.{Recent}
use Rattle.p9_slot.specs.declared.blocks.Block.{Block}
use Rattle.p9_slot.specs.declared.blocks.Block.TheVariants.{Single, Exchanged}
use Rattle.p9_slot.specs.Schedule.{is_at, line_is, HaveTargets, TargetsAreLines, new_target, retargeted, EachOnce, CallsReturn, TargetsDivide}
use Rattle.p9_slot.specs.Runs.{at_first_line, Alike, Follows, RunsAsStraight}
use Rattle.p9_slot.specs.Blocks.{blocks, is_named}
use Rattle.p9_slot.specs.Placing.{nothing, needed, slot, after, numbers, laid, entry, lines_of, TargetsBelow}
use Rattle.p9_slot.proofs.Moving.{Moves, moves_by}
use Rattle.p9_slot.proofs.Scanning.{AreClear, clear-laid}
use Rattle.p9_slot.proofs.Entering.{enters, starts, moves_at, BlockAt, PairAt, block-at, enters-idle}
use Rattle.p9_slot.proofs.Numbers.{number, numbers-length, numbers-at, numbers-least, entry-enters, laid-length, kept-at, numbers-differ, number-below, call-enters, enters-near, starts-first, starts-least}
use Rattle.p9_slot.proofs.Choosing.{blocks-lines, blocks-move, no_target_inside, is_named-by}
use Rattle.p9_slot.proofs.Marks.{Marks, marked, Setting}
use Rattle.p9_slot.proofs.Standing.{placed}
use Rattle.p9_slot.proofs.Running.{Reached, Stands, stands}

-- Targets

pub lines_below : (old : List Line) (n : ℕ) → TargetsAreLines old → n ≡ length old → TargetsBelow n old
lines_below old n h e = each old (λ i line t there goes. omega (arith, h i line t there goes, e))
  where
    each : (lines : List Line) → ((i : ℕ) (line : Line) (t : ℕ) → slice_get lines i ≡ Some line → line.target ≡ Some t → t < n) →
        TargetsBelow n lines
    each [] h = tt
    each (line ∷ rest) h = (one line.target (λ t goes. h 0 line t refl goes), each rest (λ i l t there goes. h (suc i) l t there goes))
      where
        one : (o : Option ℕ) → ((t : ℕ) → o ≡ Some t → t < n) → IfSome o (λ t. t < n)
        one None f = tt
        one (Some t) f = f t refl

-- of the lines that each part of the schedule sees
pub targets_below : (old a : List Line) → TargetsAreLines old → a ≡ old → TargetsBelow (length a) a
targets_below old a h e = subst (λ l. TargetsBelow (length l) l) (sym e) (lines_below old (length old) h refl)

-- the blocks of lines
abbrev pub blocks_of : List Line → List Block
blocks_of old = blocks (is_named old) 0 old

pub targets_of_blocks : (old a : List Line) (bs made : List Block) (moved view : List ℕ) → TargetsAreLines old → a ≡ old → made ≡ blocks_of a → bs ≡ made →
    moved ≡ numbers nothing 0 made → view ≡ moved → TargetsBelow (length view) (lines_of bs)
targets_of_blocks old a bs made moved view h ea em eb numbered ev =
    let same : bs ≡ blocks_of old = eb ∙ (em ∙ ap blocks_of ea) in
    let lines : lines_of bs ≡ old = ap lines_of same ∙ blocks-lines (is_named old) 0 old in
    let count : length view ≡ length old =
    ap length ev ∙ (ap length numbered ∙ (numbers-length nothing 0 made ∙ (ap (λ l. length (lines_of l)) (sym eb) ∙ ap length lines))) in
    subst (λ l. TargetsBelow (length view) l) (sym lines) (lines_below old (length view) h count)

-- a line goes to where its target is entered
retarget-same : (f g : ℕ → ℕ) (line : Line) → ((t : ℕ) → line.target ≡ Some t → f t ≡ g t) → retargeted f line ≡ retargeted g line
retarget-same f g line h = ap (λ o. record line { target = o }) (go line.target (λ t e. h t e))
  where
    go : (o : Option ℕ) → ((t : ℕ) → o ≡ Some t → f t ≡ g t) → new_target f o ≡ new_target g o
    go None e = refl
    go (Some t) e = ap (λ n. Some n) (e t refl)

laid-same : (f g : ℕ → ℕ) (r : Recent) (bs : List Block) →
    ((i : ℕ) (line : Line) (t : ℕ) → slice_get (lines_of bs) i ≡ Some line → line.target ≡ Some t → f t ≡ g t) → laid f r bs ≡ laid g r bs
laid-same f g r [] h = refl
laid-same f g r (Single line target ∷ rest) h =
    ap (λ l. replicate (needed r line.inst) noop ++ (l ∷ (replicate (slot line.inst) noop ++ laid f (after r line.inst) rest)))
    (retarget-same f g line (λ t e. h 0 line t refl e))
    ∙ ap (λ l. replicate (needed r line.inst) noop ++ (retargeted g line ∷ (replicate (slot line.inst) noop ++ l)))
    (laid-same f g (after r line.inst) rest (λ i l t there goes. h (suc i) l t there goes))
laid-same f g r (Exchanged line lead ∷ rest) h =
    ap (λ l. replicate (needed r lead.inst) noop ++ (l ∷ (retargeted f line ∷ laid f nothing rest)))
    (retarget-same f g lead (λ t e. h 1 lead t refl e))
    ∙ (ap (λ l. replicate (needed r lead.inst) noop ++ (retargeted g lead ∷ (l ∷ laid f nothing rest)))
    (retarget-same f g line (λ t e. h 0 line t refl e))
    ∙ ap (λ l. replicate (needed r lead.inst) noop ++ (retargeted g lead ∷ (retargeted g line ∷ l)))
    (laid-same f g nothing rest (λ i l t there goes. h (suc (suc i)) l t there goes)))

-- The answer

pub record Answer (old new : List Line) (moved : List ℕ) : Type 0 where
  pub targets : HaveTargets old
  pub inside : TargetsAreLines old
  pub numbered : moved ≡ numbers nothing 0 (blocks_of old)
  pub laid_out : new ≡ laid (entry moved) nothing (blocks_of old)

-- what the parts of the schedule say of the lines and blocks that each sees
pub answer : (old a new : List Line) (made b1 b2 : List Block) (moved view : List ℕ) → HaveTargets old → TargetsAreLines old → a ≡ old →
    made ≡ blocks_of a → b1 ≡ made → b2 ≡ made → view ≡ moved →
    moved ≡ numbers nothing 0 b1 → new ≡ laid (entry view) nothing b2 → Answer old new moved
answer old a new made b1 b2 moved view targets inside ea em e1 e2 ev numbered laid_out =
    let same : made ≡ blocks_of old = em ∙ ap blocks_of ea in
    record {
      targets = targets;
      inside = inside;
      numbered = numbered ∙ ap (numbers nothing 0) (e1 ∙ same);
      laid_out = laid_out ∙ (ap (laid (entry view) nothing) (e2 ∙ same) ∙ ap (λ v. laid (entry v) nothing (blocks_of old)) ev);
    }

-- where a line is entered, and its number
abbrev pub entered_at : List Line → ℕ → ℕ
entered_at old = enters nothing 0 (blocks_of old)

abbrev pub number_of : List Line → ℕ → ℕ
number_of old = number nothing 0 (blocks_of old)

pub lines-same : (old : List Line) → lines_of (blocks_of old) ≡ old
lines-same old = blocks-lines (is_named old) 0 old

pub lines-count : (old : List Line) → length (lines_of (blocks_of old)) ≡ length old
lines-count old = ap length (lines-same old)

pub moved-at : (old : List Line) (moved : List ℕ) (i : ℕ) → moved ≡ numbers nothing 0 (blocks_of old) → i < length old →
    slice_get moved i ≡ Some (number_of old i)
moved-at old moved i e within =
    ap (λ l. slice_get l i) e ∙ numbers-at nothing 0 (blocks_of old) i (omega (arith, within, lines-count old))

pub moved-index : (old : List Line) (moved : List ℕ) (i : ℕ) → moved ≡ numbers nothing 0 (blocks_of old) → i < length old →
    slice_index moved i ≡ number_of old i
moved-index old moved i e within = get_or_from_slice_get moved i (number_of old i) 0 (moved-at old moved i e within)

pub moved-length : (old : List Line) (moved : List ℕ) → moved ≡ numbers nothing 0 (blocks_of old) → length moved ≡ length old
moved-length old moved e = ap length e ∙ (numbers-length nothing 0 (blocks_of old) ∙ lines-count old)

pub answer-laid : (old new : List Line) (moved : List ℕ) → Answer old new moved → new ≡ laid (entered_at old) nothing (blocks_of old)
answer-laid old new moved h =
    h.laid_out
    ∙ laid-same (entry moved) (entered_at old) nothing (blocks_of old)
    (λ i line t there goes.
    entry-enters (blocks_of old) moved t h.numbered
    (omega (arith, h.inside i line t (ap (λ l. slice_get l i) (sym (lines-same old)) ∙ there) goes, lines-count old)))

pub answer-count : (old new : List Line) (moved : List ℕ) → Answer old new moved → length new ≡ entered_at old (length old)
answer-count old new moved h =
    ap length (answer-laid old new moved h)
    ∙ (laid-length (entered_at old) [] nothing 0 (blocks_of old) refl ∙ ap (entered_at old) (lines-count old))

pub answer-enter : (old new : List Line) (moved : List ℕ) → Answer old new moved → (i : ℕ) → enter moved (length new) i ≡ entered_at old i
answer-enter old new moved h i =
    ap (λ l. least (length new) (drop i l)) h.numbered
    ∙ numbers-least nothing 0 (blocks_of old) (length new) i (answer-count old new moved h ∙ ap (entered_at old) (sym (lines-count old)))

-- Old lines

pub each_once : (old new : List Line) (moved : List ℕ) → Answer old new moved → EachOnce old new moved
each_once old new moved h = record {
  count = moved-length old moved h.numbered;
  apart = λ i j wi wj e.
      same-line i j wi wj (sym (moved-index old moved i h.numbered wi) ∙ (e ∙ moved-index old moved j h.numbered wj));
  kept = λ i line there.
      ap (slice_get new) (moved-index old moved i h.numbered (slice_get_within old i line there))
      ∙ (ap (λ l. slice_get l (number_of old i)) (answer-laid old new moved h)
      ∙ (kept-at (entered_at old) [] nothing 0 (blocks_of old) refl i line (ap (λ l. slice_get l i) (lines-same old) ∙ there)
      ∙ ap (λ (l : Line). Some l) (retarget-same (entered_at old) (enter moved (length new)) line (λ t e. sym (answer-enter old new moved h t)))));
}
  where
    same-line : (i j : ℕ) → i < length old → j < length old → number_of old i ≡ number_of old j → i ≡ j
    same-line i j wi wj e = go (nat_lt i j) (nat_lt j i) refl refl
      where
        go : (a b : Bool) → nat_lt i j ≡ a → nat_lt j i ≡ b → i ≡ j
        go true b x y =
            absurd (numbers-differ nothing 0 (blocks_of old) i j (grind (arith, nat_tests)) (omega (arith, wj, lines-count old)) e)
        go false true x y =
            absurd (numbers-differ nothing 0 (blocks_of old) j i (grind (arith, nat_tests)) (omega (arith, wi, lines-count old)) (sym e))
        go false false x y = grind (arith, nat_tests)

-- Calls and targets

pub is-within : (p : Inst → Bool) (old : List Line) (i : ℕ) → is_at p old i ≡ true → i < length old
is-within p old i h = go (slice_get old i) refl h
  where
    go : (o : Option Line) → slice_get old i ≡ o → line_is p o ≡ true → i < length old
    go (Some line) e f = slice_get_within old i line e
    go None e f = absurd (let z : false ≡ true = f in cc)

pub calls_return : (old new : List Line) (moved : List ℕ) → Answer old new moved → CallsReturn old new moved
calls_return old new moved h i l =
    let two : entered_at old (suc i) ≡ number_of old i + 2 =
    call-enters nothing 0 (blocks_of old) i (blocks-move (is_named old) 0 old) (ap (λ x. is_at links x i) (lines-same old) ∙ l) in
    let here : slice_index moved i ≡ number_of old i = moved-index old moved i h.numbered (is-within links old i l) in
    answer-enter old new moved h (i + 1) ∙ (ap (entered_at old) (let z : i + 1 ≡ suc i = omega arith in z) ∙ omega (arith, two, here))

-- a line that control may come to begins a block
target-starts : (old : List Line) (t : ℕ) (line : Line) → slice_get old t ≡ Some line → (line.is_target || is_named old t) ≡ true →
    starts (blocks_of old) t ≡ true
target-starts old t line there mark = go (starts (blocks_of old) t) refl
  where
    go : (b : Bool) → starts (blocks_of old) t ≡ b → b ≡ true
    go true e = refl
    go false e =
        absurd (let none : (line.is_target || is_named old (0 + t)) ≡ false = no_target_inside (is_named old) 0 old t line there e in
        let same : is_named old t ≡ is_named old (0 + t) = ap (is_named old) (omega arith) in
        let z : true ≡ false = sym mark ∙ (ap (λ b. line.is_target || b) same ∙ none) in cc)

pub targets_divide : (old new : List Line) (moved : List ℕ) → Answer old new moved → TargetsDivide old new moved
targets_divide old new moved h i t line there marked before =
    let within : t < length old = slice_get_within old t line there in
    let start : starts (blocks_of old) t ≡ true = target-starts old t line there (ap (λ b. b || is_named old t) marked) in
    omega (
      arith,
      number-below nothing 0 (blocks_of old) i t before (omega (arith, within, lines-count old)) start,
      answer-enter old new moved h t,
      moved-index old moved i h.numbered (omega (arith, before, within)),
    )

-- Runs

slice_get_inside : (xs : List Line) (i : ℕ) → i < length xs → slice_get xs i ≡ None → ⊥
slice_get_inside [] i h e = omega (arith, h)
slice_get_inside (x ∷ xs) zero h e = cc
slice_get_inside (x ∷ xs) (suc i) h e = slice_get_inside xs i (omega (arith, h)) e

-- the addresses of all lines and of their end, from those of lines
answer-setting : (old new : List Line) (moved : List ℕ) → Answer old new moved →
    ((i : ℕ) → i < length old → line_address (enter moved (length new) i) < 2 ^ 28) →
    Setting (entered_at old) (starts (blocks_of old)) (moves_at (blocks_of old)) old new
answer-setting old new moved h small = record {
  clear = subst (λ l. AreClear nothing l) (sym (answer-laid old new moved h))
      (clear-laid (entered_at old) nothing (blocks_of old) (blocks-move (is_named old) 0 old));
  first = first-zero (blocks_of old);
  first_begins = starts-first (blocks_of old);
  block = λ i line start there.
      subst (λ l. BlockAt (entered_at old) (entered_at old) (starts (blocks_of old)) (moves_at (blocks_of old)) old l i line)
      (sym (answer-laid old new moved h))
      (subst (λ l. BlockAt (entered_at old) (entered_at old) (starts (blocks_of old)) (moves_at (blocks_of old)) l (laid (entered_at old) nothing (blocks_of old)) i line)
      (lines-same old)
      (block-at (entered_at old) [] nothing 0 (blocks_of old) refl (blocks-move (is_named old) 0 old) i line start
      (ap (λ l. slice_get l i) (lines-same old) ∙ there)));
  targets = h.targets;
  inside = h.inside;
  open_targets = λ i line t there goes. open-target i line t there goes;
  open_least = starts-least nothing 0 (blocks_of old);
  small = by_line;
}
  where
    first-zero : (bs : List Block) → enters nothing 0 bs 0 ≡ 0
    first-zero bs = enters-idle 0 bs

    open-target : (i : ℕ) (line : Line) (t : ℕ) → slice_get old i ≡ Some line → line.target ≡ Some t → starts (blocks_of old) t ≡ true
    open-target i line t there goes = there-is (slice_get old t) refl (h.inside i line t there goes)
      where
        either : (b : Bool) → (b || true) ≡ true
        either true = refl
        either false = refl

        there-is : (o : Option Line) → slice_get old t ≡ o → t < length old → starts (blocks_of old) t ≡ true
        there-is (Some aim) e within =
            target-starts old t aim e (ap (λ b. aim.is_target || b) (is_named-by old i line t there goes) ∙ either aim.is_target)
        there-is None e within = absurd (slice_get_inside old t within e)

    by_line : (i : ℕ) → i ≤ length old → line_address (entered_at old i) < 2 ^ 29
    by_line zero within = omega (arith, first-zero (blocks_of old))
    by_line (suc i) within =
        omega (arith, small i (omega (arith, within)), answer-enter old new moved h i, enters-near nothing 0 (blocks_of old) i)

-- marks apart, it is the same state
marked-alike : (k : Marks) (s t : State) → t ≡ marked k s → Alike s t
marked-alike k s t e =
    subst (λ (u : State). Alike s u) (sym e) (record {
      registers = refl;
      hi = refl;
      lo = refl;
      low = refl;
      stack = refl;
      order = refl;
      data_start = refl;
      ending = refl;
      left = refl;
      out = refl;
    })

-- a run that has not halted had not halted before
not_halted-earlier : (a : Addresses) (new : List Line) (s : State) (n d : ℕ) → NotHalted (delayed_run a new (n + d) s).core.ending →
    NotHalted (delayed_run a new n s).core.ending
not_halted-earlier a new s n d h = go (delayed_run a new n s).core.ending refl
  where
    go : (e : Ending) → (delayed_run a new n s).core.ending ≡ e → NotHalted e
    go Running f = tt
    go (Exited at len) f = tt
    go (Halted cause pc) f =
        let same : delayed_run a new (n + d) s ≡ delayed_run a new n s =
        delayed_run-sum a new n d s ∙ delayed_run-ended a new d (delayed_run a new n s) (subst HasEnded (sym f) tt) in
        subst NotHalted f (subst (λ (u : State). NotHalted u.core.ending) same h)

-- where the delayed run stands as the straight run after so many steps
reached-follows : (symbol : ℕ → ℕ → ℕ) (e : ℕ → ℕ) (begins : ℕ → Bool) (old new : List Line) (text_end : ℕ) (s : State) (before steps : ℕ) →
    (let a = placed e symbol in
    let x : Straight = record { state = s; at = 0 } in
    let t : State = at_first_line text_end s in
    Reached a e begins new text_end steps t s.core.data_start (straight_run a old steps x) → NotHalted (straight_run a old steps x).state.core.ending →
    before ≤ steps → (steps ≡ before) ⊎ (steps ≡ suc before) →
    (let y : Straight = straight_run a old before x in
    y.state.core.ending ≡ Running → is_at is_system_call old y.at ≡ true → steps ≡ suc before) →
    Follows a old new x t before)
reached-follows symbol e begins old new text_end s before steps r going order which calls =
    let a : Addresses = placed e symbol in
    let x : Straight = record { state = s; at = 0 } in
    let t : State = at_first_line text_end s in
    let fine : NotHalted (delayed_run a new r.steps t).core.ending =
    subst (λ (u : State). NotHalted u.core.ending) (sym r.run) going in
    record {
      instructions = r.steps;
      steps = steps;
      at_least = omega (arith, r.many, order);
      at_most = most which r.steps r.few;
      one_of_two = which;
      calls = calls;
      alike = marked-alike r.marks (straight_run a old steps x).state (delayed_run a new r.steps t) r.run;
      no_stop = λ n within.
          not_halted-earlier a new t n (r.steps - n)
          (subst (λ k. NotHalted (delayed_run a new k t).core.ending) (let z : r.steps ≡ n + (r.steps - n) = omega (arith, within) in z) fine);
    }
  where
    most : (steps ≡ before) ⊎ (steps ≡ suc before) → (n : ℕ) → n ≤ 3 * steps → n ≤ 3 * before + 3
    most (inl z) n h = omega (arith, z, h)
    most (inr z) n h = omega (arith, z, h)

follows : (symbol : ℕ → ℕ → ℕ) (e : ℕ → ℕ) (begins moved : ℕ → Bool) (old new : List Line) (text_end : ℕ) (s : State) (before : ℕ) →
    Setting e begins moved old new → text_end ≤ s.core.data_start →
    (let a = placed e symbol in
    let x : Straight = record { state = s; at = 0 } in
    NotHalted (straight_run a old (suc before) x).state.core.ending → Follows a old new x (at_first_line text_end s) before)
follows symbol e begins moved old new text_end s before setting below going =
    by_case (stands symbol e begins moved old new text_end s (suc before) setting below going)
  where
    quiet : (i : ℕ) → moved i ≡ true → begins i ≡ true → is_at is_system_call old i ≡ true → ⊥
    quiet i m b c = go (slice_get old i) refl c
      where
        go : (o : Option Line) → slice_get old i ≡ o → line_is is_system_call o ≡ true → ⊥
        go None t f = let z : false ≡ true = f in cc
        go (Some line) t f =
            let pair : PairAt e e begins old new i line = (setting.block i line b t).pair m in
            let rule : Moves line.inst pair.lead.inst = moves_by line.inst pair.lead.inst pair.may in
            let z : true ≡ false = sym f ∙ rule.no_call in cc

    by_case : (let a = placed e symbol in
        let x : Straight = record { state = s; at = 0 } in
        Stands a e begins moved old new text_end (suc before) (at_first_line text_end s) s.core.data_start x →
        Follows a old new x (at_first_line text_end s) before)
    by_case (inl r) =
        reached-follows symbol e begins old new text_end s before (suc before) r going (omega arith) (inr refl) (λ running asks. refl)
    by_case (inr h) =
        let a : Addresses = placed e symbol in
        let x : Straight = record { state = s; at = 0 } in
        let same : h.before ≡ before = omega (arith, h.one_less) in
        let r : Reached a e begins new text_end before (at_first_line text_end s) s.core.data_start (straight_run a old before x) =
        subst (λ n. Reached a e begins new text_end n (at_first_line text_end s) s.core.data_start (straight_run a old n x)) same h.reached in
        let running : (straight_run a old before x).state.core.ending ≡ Running =
        subst (λ n. (straight_run a old n x).state.core.ending ≡ Running) same h.running in
        let moves : moved (straight_run a old before x).at ≡ true = subst (λ n. moved (straight_run a old n x).at ≡ true) same h.moves in
        let (q, comes) = r.lands running in
        reached-follows symbol e begins old new text_end s before before r (subst NotHalted (sym running) tt) (omega arith) (inl refl)
        (λ run asks. absurd (quiet (straight_run a old before x).at moves comes.at_begin asks))

pub runs_as_straight : (old new : List Line) (moved : List ℕ) → Answer old new moved → RunsAsStraight old new moved
runs_as_straight old new moved h symbol s text_end before small below going =
    let x : Straight = record { state = s; at = 0 } in
    let same : placed (entered_at old) symbol ≡ entered moved (length new) symbol =
    ap (λ (f : ℕ → ℕ). placed f symbol) (fun_ext (λ i. sym (answer-enter old new moved h i))) in
    subst (λ (b : Addresses). Follows b old new x (at_first_line text_end s) before) same
    (follows symbol (entered_at old) (starts (blocks_of old)) (moves_at (blocks_of old)) old new text_end s before (answer-setting old new moved h small) below
    (subst (λ (b : Addresses). NotHalted (straight_run b old (suc before) x).state.core.ending) (sym same) going))
