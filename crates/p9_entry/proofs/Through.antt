-- The code of a function that gives what another gives.
use Rattle.std.proofs.Common.{◌≡◌, ◌≢◌, ◌≤◌, ◌<◌, ◌⊎◌, inl, inr, ℕ, ◌+◌, ◌&&◌, ◌||◌, nat_le, nat_lt, Bool, true, false, Some, List, [], length, slice_index, refl, sym, ap, ◌∙◌, subst, arith}
use Rattle.std.proofs.lemmas.Bool.{true≢false, and_parts, or_parts, leb-true}
use Rattle.std.proofs.lemmas.Bool.Decides.{nat_tests}
use Rattle.std.proofs.lemmas.List.{get_or-set_same, length-set}
use Rattle.p9_base.specs.Words.{IsWord, word_sum}
use Rattle.p9_base.specs.Core.{text_start, stack_start, reg, with_reg}
use Rattle.p9_base.specs.SystemCalls.{State}
use Rattle.p9_base.specs.Holding.{HoldsWords}
use Rattle.p9_base.proofs.Holding.{with_register-words}
use Rattle.p9_abs.specs.declared.instructions.TextDef.{TextDef}
use Rattle.p9_abs.specs.Steps.{Mach, Around, Calls, Returns, step}
use Rattle.p9_abs.specs.Runs.{keeps, in_word}
use Rattle.p9_abs.specs.Keeping.{nowhere}
use Rattle.p9_abs.proofs.Fixed.{other-register}
use Rattle.p9_cmean.specs.Cells as c
use Rattle.p9_cmean.specs.Cells.{FunctionName, Value}
use Rattle.p9_cmean.specs.Plays.{Call}
use Rattle.p9_sim.specs.Memory.{Map, Ground, StandsValue, Owner}
use Rattle.p9_sim.specs.Matching.{Lies, StandArguments, IsArgument, AtCall, entry_of, Answers}
use Rattle.p9_sim.specs.Playing.{Counting, first_count, after_call, Setting}
use Rattle.p9_sim.specs.Functions.{lowered_stack, after_entry, setting_of}
use Rattle.p9_sim.specs.Examples.{without_frame, at_first}
use Rattle.p9_sim.proofs.Registers.{with_regs, words-with, match-with, extends-self}
use Rattle.p9_entry.specs.Entering.{IsEntered, through_code, ThroughIsRight}
use Rattle.p9_entry.proofs.Matching.{entries_are_matched}

behind : State → Mach
behind y = record { state = with_regs y y.core.regs text_start; vars = []; at = 1 }

last : State → Mach
last w = record { state = w; vars = []; at = 1 }

first-step : (around : Around) (y : State) → step around through_code (at_first y) ≡ Calls (around.symbol 0) (behind y)
unfolding step behind
first-step around y = refl

last-step : (around : Around) (w : State) → step around through_code (last w) ≡ Returns (behind w)
unfolding step behind last
last-step around w = refl

-- a test by parts
either : (p q : Bool) → (p || q) ≡ true → (p ≡ true) ⊎ (q ≡ true)
either true q e = inl refl
either false q e = inr e

abbrev def : TextDef
def = without_frame through_code

module _ (g : Ground) (symbol : ℕ → ℕ) (counting : Counting) (others : ℕ → Bool) (active need : ℕ) (m : Map) (call inner : Call) (s : c.State) (x : State)
    (at : AtCall g others others active m call s x) (entered : IsEntered g others active need m s def x (after_entry def x)) (none : inner.arguments ≡ []) where
  abbrev sp : ℕ
  sp = lowered_stack def x

  abbrev set : Setting
  set = setting_of g counting symbol def others active need (entry_of m s call x)

  abbrev y : State
  y = after_entry def x

  abbrev linked : ℕ → State
  linked to = with_regs y (with_reg y.core.regs 31 to) text_start

  linked-stack : (to : ℕ) → (let z : State = linked to in reg z.core 29 ≡ sp)
  linked-stack to = other-register y.core.regs 31 to 29 (λ h. omega (arith, h)) ∙ entered.stack

  stack-is : sp + 4 ≡ reg x.core 29
  stack-is = let found = entered.found in omega (arith, found)

  no-argument : (to byte : ℕ) → (let z : State = linked to in IsArgument z.core (length inner.arguments) byte) → ⊥
  no-argument to byte i =
      let n : length inner.arguments ≡ 0 = ap length none in
      let p = i.0 in let q = i.1 in
      omega (arith, p, q, n)

  -- the call of the inner function
  at-inner : (to : ℕ) → IsWord to → AtCall g set.around.banned set.shut (active + need) m inner s (linked to)
  at-inner to word = record {
    matched = match-with g set.shut set.shut (active + need) m s y (with_reg y.core.regs 31 to) text_start entered.matched (with_register-words y.core 31 to word entered.matched.words)
        (other-register y.core.regs 31 to 29 (λ h. omega (arith, h))) (other-register y.core.regs 31 to 30 (λ h. omega (arith, h))) entered.matched.free;
    arguments = (let z : State = linked to in subst (λ vs. StandArguments g m vs z.core) (sym none) tt);
    in_stack = λ byte i. absurd (no-argument to byte i);
    allowed = λ byte i. absurd (no-argument to byte i);
    above = λ byte e. above byte (either (others byte) _ e);
    unowned = λ byte i o. no-argument to byte i;
  }
    where
      above : (byte : ℕ) → (others byte ≡ true) ⊎ ((keeps def && in_word byte (Some sp)) ≡ true) → (let z : State = linked to in reg z.core 29 ≤ byte)
      above byte (inl o) = let q = at.above byte o in let l = linked-stack to in let st = stack-is in omega (arith, q, l, st)
      above byte (inr k) = let q = leb-true sp byte ((and_parts (nat_le sp byte) _ k).0) in let l = linked-stack to in omega (arith, q, l)

  -- and its answer, returned
  module _ (to : ℕ) (v : Value) (t : c.State) (u : Map) (w : State) (ans : Answers g nowhere set.shut (active + need) (entry_of m s inner (linked to)) u t w v) (back : ℕ) (word : IsWord back) where
    abbrev regs_1 : List ℕ
    regs_1 = with_reg w.core.regs 31 back

    abbrev regs : List ℕ
    regs = with_reg regs_1 29 (word_sum (slice_index regs_1 29) 4)

    abbrev z : State
    z = with_regs w regs text_start

    low-stack : reg w.core 29 ≡ sp
    low-stack = ans.leaves.stack ∙ linked-stack to

    stack : slice_index regs 29 ≡ reg x.core 29
    stack =
        let count = ans.matched.words.count in
        let long : length regs_1 ≡ length w.core.regs = length-set w.core.regs 31 back in
        let one : slice_index regs_1 29 ≡ sp = other-register w.core.regs 31 back 29 (λ h. omega (arith, h)) ∙ low-stack in
        let top = at.matched.top in let st = stack-is in
        let sum : word_sum sp 4 ≡ reg x.core 29 = omega (arith, st, top) in
        get_or-set_same regs_1 29 (word_sum (slice_index regs_1 29) 4) 0 (omega (arith, count, long)) ∙ (ap (λ n. word_sum n 4) one ∙ sum)

    other : (q : ℕ) → q ≢ 29 → q ≢ 31 → slice_index regs q ≡ reg w.core q
    other q a b = other-register regs_1 29 (word_sum (slice_index regs_1 29) 4) q a ∙ other-register w.core.regs 31 back q b

    holds : HoldsWords (record w.core { regs = regs })
    holds = with_register-words (record w.core { regs = regs_1 }) 29 (word_sum (slice_index regs_1 29) 4) (omega arith) (with_register-words w.core 31 back word ans.matched.words)

    free : (byte : ℕ) → Owner u t.objects byte → (others byte ≡ false) × (in_word byte (Some sp) ≡ false)
    free byte o = or_parts (others byte) (in_word byte (Some sp)) (ans.matched.free byte o)

    lies : (byte : ℕ) → in_word byte (Some sp) ≡ false → Lies w.core byte → Lies z.core byte
    lies byte e (inl i) = inl i
    lies byte e (inr i) = inr (by (nat_lt byte (sp + 4)) refl, i.1)
      where
        by : (b : Bool) → nat_lt byte (sp + 4) ≡ b → slice_index regs 29 ≤ byte
        by true f =
            let i0 = i.0 in let l = low-stack in
            let up : nat_le sp byte ≡ true = (let n : sp ≤ byte = omega (arith, i0, l) in grind (arith, nat_tests)) in
            absurd (true≢false (sym (λ k. up k && f k) ∙ e))
        by false f = let n : sp + 4 ≤ byte = grind (arith, nat_tests) in let st = stack-is in let s29 = stack in omega (arith, n, st, s29)

    returned : Answers g nowhere others active (entry_of m s call x) u t z v
    returned =
        let q = ans.matched in let l = ans.leaves in let h = at.matched in
        let al = h.aligned in let top = h.top in let floor = h.floor in let s29 = stack in
        record {
          matched = record {
            count = q.count;
            statics = q.statics;
            fourfold = q.fourfold;
            cells = q.cells;
            lie = λ byte o. lies byte (free byte o).1 (q.lie byte o);
            disjoint = q.disjoint;
            free = λ byte o. (free byte o).0;
            output = q.output;
            input = q.input;
            base = other 30 (λ h. omega (arith, h)) (λ h. omega (arith, h)) ∙ q.base;
            aligned = omega (arith, al, s29);
            top = omega (arith, top, s29);
            floor = omega (arith, floor, s29);
            not_deep = h.not_deep;
            words = words-with w.core regs text_start holds;
            bytes = q.bytes;
            laid = record { text = q.laid.text; gap = q.laid.gap; data_and_bss = q.laid.data_and_bss; above = q.laid.above; stack_size = q.laid.stack_size };
            data_start = q.data_start;
            behind = q.behind;
            gap = q.gap;
            order = q.order;
            running = q.running;
          };
          leaves = record {
            addresses = l.addresses;
            hidden = l.hidden;
            objects = l.objects;
            result = subst (λ n. StandsValue g u v n) (sym (other 1 (λ h. omega (arith, h)) (λ h. omega (arith, h)))) l.result;
            stack = stack;
            sizes = record {
              order = l.sizes.order ∙ entered.sizes.order;
              data_start = l.sizes.data_start ∙ entered.sizes.data_start;
              low = l.sizes.low ∙ entered.sizes.low;
              stack = l.sizes.stack ∙ entered.sizes.stack;
            };
            memory = λ byte loose where_ owner words. l.memory byte refl (lower byte where_) owner (no-argument to byte) ∙ entered.memory byte where_;
          };
        }
      where
        lower : (byte : ℕ) → (byte < stack_start) ⊎ (reg x.core 29 ≤ byte) → (byte < stack_start) ⊎ (let i : State = linked to in reg i.core 29 ≤ byte)
        lower byte (inl i) = inl i
        lower byte (inr i) = let n = linked-stack to in let st = stack-is in inr (omega (arith, i, n, st))

pub through_is_right : ThroughIsRight
unfolding behind last
through_is_right counting g symbol need name inner place same room_is others active turns call s m x is fits at =
    let entered = entries_are_matched g others active need m call s x def at (refl, omega arith) room_is fits in
    let ask : Call = record { function = inner; arguments = []; place = place } in
    let here : Setting = setting_of g counting symbol def others active need (entry_of m s call x) in
    let y0 : State = after_entry def x in (
      entered.found,
      (
        record { steps = 0; to = at_first y0; count = first_count; goes = (refl, refl) },
        behind y0,
        first-step here.around y0 ∙ ap (λ a. Calls a (behind y0)) same,
        record { steps = omega arith; backs = omega arith },
        m,
        extends-self m,
        (λ to word. at-inner g symbol counting others active need m call ask s x at entered refl to word),
        λ to word v t u w ans. (
          record { steps = 0; to = last w; count = after_call first_count; goes = (refl, refl) },
          behind w,
          last-step here.around w,
          record { steps = omega arith; backs = omega arith },
          u,
          λ back small. returned g symbol counting others active need m call ask s x at entered refl to v t u w ans back small,
        ),
      ),
    )
