-- The call of `main`: the state behind the start's first instructions is matched.
use Rattle.std.proofs.Common.{◌≡◌, ◌≢◌, ◌≤◌, ◌<◌, inl, inr, ℕ, ◌+◌, ◌-◌, ◌*◌, ◌%◌, ◌==◌, nat_le, true, Some, List, [], ◌∷◌, length, slice_get, slice_index, refl, sym, ap, ◌∙◌, arith}
use Rattle.std.proofs.lemmas.Bool.Decides.{nat_tests}
use Rattle.std.proofs.lemmas.List.{get_or-set_same, length-set}
use Rattle.p9_base.specs.declared.order.ByteOrder.TheVariants.{Big}
use Rattle.p9_base.specs.Words.{IsWord, word_sum}
use Rattle.p9_base.specs.Core.{Core, text_start, stack_start, stack_end, reg, with_reg, writable, word_in, with_word_in, read_byte, read_word}
use Rattle.p9_base.specs.SystemCalls.{State}
use Rattle.p9_base.specs.Holding.{HoldsWords, LaidOut}
use Rattle.p9_base.proofs.Holding.{with_register-words, word-bytes}
use Rattle.p9_base.proofs.Kept.{length-word}
use Rattle.p9_abs.specs.Steps.{is_free}
use Rattle.p9_abs.proofs.Fixed.{other-register}
use Rattle.p9_lang.specs.Types.{TypeTree}
use Rattle.p9_cmean.specs.Union.{Union, base_need, parameter_types}
use Rattle.p9_cmean.specs.FirstContents.{first_objects, arguments_number}
use Rattle.p9_cmean.specs.CRun.{Callee, System, Defined, NoCallee, callee, main_name, main_arguments, call_of_main, main_call, first_state}
use Rattle.p9_sim.specs.Memory.{Map, Ground, moved_address, Owner}
use Rattle.p9_sim.specs.Matching.{Match, StandArguments, AtCall}
use Rattle.p9_systems.proofs.Bytes.{writable-span, byte-low, word_stored, word-high}
use Rattle.p9_systems.proofs.Cells.{stands-same}
use Rattle.p9_systems.proofs.Calling.{free-range}
use Rattle.p9_start.specs.Starting.{StandsFirst}
use Rattle.p9_start.proofs.Steps.{made, kept_at, kept-not, kept-above, first_stack}

-- the arguments of main
pub few-arguments : (union : Union) → length (main_call union).arguments ≤ 2
few-arguments union = by (callee union main_name)
  where
    few : (types : List TypeTree) → length (main_arguments union types) ≤ 2
    few [] = omega arith
    few (t ∷ ts) = omega arith

    by : (k : Callee) → length (call_of_main union k).arguments ≤ 2
    by (Defined entry) = few (parameter_types entry.definition.name.type)
    by (System call) = omega arith
    by NoCallee = omega arith

pub main-is : (union : Union) → (main_call union).function ≡ main_name
main-is union = by (callee union main_name)
  where
    by : (k : Callee) → (call_of_main union k).function ≡ main_name
    by (Defined entry) = refl
    by (System call) = refl
    by NoCallee = refl

main-stand : (g : Ground) (m : Map) (union : Union) (x : Core) → 1 ≡ reg x 1 → moved_address (slice_get m (arguments_number union)) 0 ≡ Some (read_word x (reg x 29 + 4 + 4 * 1)) → StandArguments g m (main_call union).arguments x
main-stand g m union x one two = by (callee union main_name)
  where
    stand : (types : List TypeTree) → StandArguments g m (main_arguments union types) x
    stand [] = tt
    stand (t ∷ ts) = (one, (two, tt))

    by : (k : Callee) → StandArguments g m (call_of_main union k).arguments x
    by (Defined entry) = stand (parameter_types entry.definition.name.type)
    by (System call) = tt
    by NoCallee = tt

module _ (g : Ground) (m : Map) (union : Union) (arguments text : ℕ) (input : List ℕ) (x : State) (st : StandsFirst g m union arguments text input x) (sp : ℕ) (is_sp : sp + 12 ≡ stack_end) where
  -- registers and stacks, one instruction after the other
  abbrev pub regs_1 : List ℕ
  regs_1 = with_reg x.core.regs 29 sp

  abbrev pub regs_2 : List ℕ
  regs_2 = with_reg regs_1 2 (word_sum arguments 0)

  abbrev pub regs_3 : List ℕ
  regs_3 = with_reg regs_2 1 1

  abbrev pub stack_1 : List ℕ
  stack_1 = first_stack x sp

  abbrev pub stack_2 : List ℕ
  stack_2 = with_word_in Big stack_1 (sp + 8 - stack_start) (slice_index regs_2 2)

  count-1 : length (with_reg x.core.regs 29 sp) ≡ 32
  count-1 = let n = st.words.count in let l = length-set x.core.regs 29 sp in omega (arith, n, l)

  count-2 : length (with_reg (with_reg x.core.regs 29 sp) 2 (word_sum arguments 0)) ≡ 32
  count-2 = let n = count-1 in let l = length-set regs_1 2 (word_sum arguments 0) in omega (arith, n, l)

  pub argument-2 : slice_index regs_2 2 ≡ word_sum arguments 0
  argument-2 = let n = count-1 in get_or-set_same regs_1 2 (word_sum arguments 0) 0 (omega (arith, n))

  pub stack-at-1 : slice_index regs_1 29 ≡ sp
  stack-at-1 = let n = st.words.count in get_or-set_same x.core.regs 29 sp 0 (omega (arith, n))

  pub stack-at-2 : slice_index regs_2 29 ≡ sp
  stack-at-2 = other-register regs_1 2 (word_sum arguments 0) 29 (λ e. omega (arith, e)) ∙ stack-at-1

  stack-size-1 : length (first_stack x sp) ≡ stack_end - stack_start
  stack-size-1 = length-word Big x.core.stack (sp - stack_start) (reg x.core 31) ∙ st.laid.stack_size

  stack-size-2 : length (with_word_in Big (first_stack x sp) (sp + 8 - stack_start) (slice_index (with_reg (with_reg x.core.regs 29 sp) 2 (word_sum arguments 0)) 2)) ≡ stack_end - stack_start
  stack-size-2 = length-word Big stack_1 (sp + 8 - stack_start) (slice_index regs_2 2) ∙ stack-size-1

  pub free-2 : is_free (kept_at sp) (sp + 8) 4 ≡ true
  free-2 = free-range (kept_at sp) 4 (sp + 8) (λ i l. kept-not sp (sp + 8 + i) (inr (omega arith)))

  pub aligned-2 : ((sp + 8) % 4 == 0) ≡ true
  aligned-2 = let e : (sp + 8) % 4 ≡ 0 = omega (arith, is_sp) in grind (arith, nat_tests)

  pub writable-2 : nat_le 4 (writable (record x.core { regs = regs_2; stack = stack_1; text_end = text_start }) (sp + 8)) ≡ true
  writable-2 =
      let size = stack-size-1 in
      let l : LaidOut (record x.core { regs = regs_2; stack = stack_1; text_end = text_start }) =
      record { text = st.laid.text; gap = st.laid.gap; data_and_bss = st.laid.data_and_bss; above = st.laid.above; stack_size = size } in
      let w = writable-span (record x.core { regs = regs_2; stack = stack_1; text_end = text_start }) (sp + 8) 4 refl l (omega arith) (inr (omega (arith, is_sp), omega (arith, is_sp))) in grind (arith, nat_tests)

  module _ (to : ℕ) (word : IsWord to) where
    abbrev pub regs_4 : List ℕ
    regs_4 = with_reg regs_3 31 to

    abbrev pub y : State
    y = made x regs_4 stack_2

    other : (r : ℕ) → r ≢ 31 → r ≢ 1 → r ≢ 2 → slice_index regs_4 r ≡ slice_index regs_1 r
    other r a b d = other-register regs_3 31 to r a ∙ (other-register regs_2 1 1 r b ∙ other-register regs_1 2 (word_sum arguments 0) r d)

    stack-is : reg y.core 29 ≡ sp
    stack-is = other 29 (λ e. omega (arith, e)) (λ e. omega (arith, e)) (λ e. omega (arith, e)) ∙ stack-at-1

    base-is : reg y.core 30 ≡ reg x.core 30
    base-is = other 30 (λ e. omega (arith, e)) (λ e. omega (arith, e)) (λ e. omega (arith, e)) ∙ other-register x.core.regs 29 sp 30 (λ e. omega (arith, e))

    one-is : reg y.core 1 ≡ 1
    one-is = other-register regs_3 31 to 1 (λ e. omega (arith, e)) ∙ (let n = count-2 in get_or-set_same regs_2 1 1 0 (omega (arith, n)))

    words-are : HoldsWords y.core
    words-are =
        let w1 = with_register-words x.core 29 sp (omega (arith, is_sp)) st.words in
        let w2 = with_register-words (record x.core { regs = regs_1 }) 2 (word_sum arguments 0) (omega arith) w1 in
        let w3 = with_register-words (record x.core { regs = regs_2 }) 1 1 (omega arith) w2 in
        let w4 = with_register-words (record x.core { regs = regs_3 }) 31 to word w3 in
        record {
          count = w4.count;
          zero_register = w4.zero_register;
          registers = w4.registers;
          high = w4.high;
          less = w4.less;
          low_bytes = w4.low_bytes;
          stack_bytes = word-bytes Big stack_1 (sp + 8 - stack_start) (slice_index regs_2 2) (word-bytes Big x.core.stack (sp - stack_start) (reg x.core 31) st.words.stack_bytes);
        }

    -- data are as they were
    low-same : (byte : ℕ) → byte < stack_start → read_byte y.core byte ≡ read_byte x.core byte
    low-same byte l = byte-low y.core byte l ∙ sym (byte-low x.core byte l)

    low-owned : (byte : ℕ) → Owner m (first_objects union) byte → byte < stack_start
    low-owned byte w = let d = st.in_data byte w in let d1 = d.1 in let g0 = st.gap in omega (arith, d1, g0)

    second-word : read_word y.core (sp + 8) ≡ word_sum arguments 0
    second-word =
        let size = stack-size-1 in
        word-high y.core (sp + 8) (omega (arith, is_sp))
        ∙ (ap (λ o. word_in o y.core.stack (sp + 8 - stack_start)) st.order
        ∙ (word_stored stack_1 (sp + 8 - stack_start) (slice_index regs_2 2) (omega (arith, size, is_sp)) (let e = argument-2 in omega (arith, e)) ∙ argument-2))

    pub matched : Match g (kept_at sp) base_need m (first_state union input) y
    matched =
        let s29 = stack-is in let size = stack-size-2 in let at_start = st.data_start in
        record {
          count = st.count;
          statics = st.statics;
          fourfold = st.fourfold;
          cells = λ number start object is alive placed. stands-same g m (read_byte x.core) (read_byte y.core) object.cells start
              (λ k l. low-same (start + k) (low-owned (start + k) (record { number = number; object = object; start = start; k = k; is_object = is; alive = alive; placed = placed; inside = l; is = refl })))
              (st.cells number start object is placed);
          lie = λ byte w. (let d = st.in_data byte w in let d0 = d.0 in inl (omega (arith, d0, at_start), d.1));
          disjoint = st.disjoint;
          free = λ byte w. (let l = low-owned byte w in kept-not sp byte (inl (omega (arith, l, is_sp))));
          output = st.output;
          input = st.input_is;
          base = base-is ∙ st.base;
          aligned = omega (arith, s29, is_sp);
          top = omega (arith, s29, is_sp);
          floor = omega (arith, s29, is_sp);
          not_deep = omega arith;
          words = words-are;
          bytes = st.bytes;
          laid = record { text = st.laid.text; gap = st.laid.gap; data_and_bss = st.laid.data_and_bss; above = st.laid.above; stack_size = size };
          data_start = st.data_start;
          behind = st.behind;
          gap = st.gap;
          order = st.order;
          running = st.running;
        }

    pub at-main : AtCall g (kept_at sp) (kept_at sp) base_need m (main_call union) (first_state union input) y
    at-main =
        let s29 = stack-is in let few = few-arguments union in
        record {
          matched = matched;
          arguments = main-stand g m union y.core (sym one-is)
              (ap (λ o. moved_address o 0) st.has_arguments ∙ ap Some (sym (ap (read_word y.core) (let z : reg y.core 29 + 4 + 4 * 1 ≡ sp + 8 = omega (arith, s29) in z) ∙ second-word)));
          in_stack = λ byte i. (let i1 = i.1 in omega (arith, i1, s29, few, is_sp));
          allowed = λ byte i. (let i0 = i.0 in kept-not sp byte (inr (omega (arith, i0, s29))));
          above = λ byte e. (let k = kept-above sp byte e in omega (arith, k, s29));
          unowned = λ byte i w. (let l = low-owned byte w in let i0 = i.0 in omega (arith, l, i0, s29, is_sp));
        }
