-- The system calls of `main`: their arguments in the stack, what they ask, and the code that makes
-- them.
use Rattle.std.proofs.Common.{◌≡◌, ◌≢◌, ℕ, suc, ◌+◌, ◌-◌, ◌%◌, ◌^◌, ◌<◌, ◌≤◌, true, false, not, lit<, List, [], ◌∷◌, ◌++◌, All, length, take, drop, slice_index, append_assoc, length-append, length-drop, nat_lt, nat_le, ltb, eqb, Some, Ok, refl, sym, ap, ◌∙◌, arith}
use Rattle.std.specs.Prelude.{◌==◌, if◌then◌else◌, position}
use Rattle.std.specs.List.{prefix_len}
use Rattle.std.proofs.lemmas.Bool.Decides.{nat_tests}
use Rattle.std.proofs.lemmas.List.{take-append-drop}
use Rattle.std.proofs.lemmas.Grind.{common_steps}
use Rattle.std.proofs.Math.Seq.{take-length}
use Rattle.p9_r3k.specs.declared.inst.Inst.{Inst}
use Rattle.p9_r3k.specs.declared.inst.Inst.TheVariants.{Addiu, Sw, Syscall}
use Rattle.p9_base.specs.declared.order.ByteOrder.TheVariants.{Big}
use Rattle.p9_base.specs.declared.halt.Asked.{Asked}
use Rattle.p9_base.specs.declared.halt.Asked.TheVariants as asks
use Rattle.p9_r3k.specs.Memory.{Core, text_start, stack_start, stack_end, readable, read_word, word_in, with_word_in, bytes_from}
use Rattle.p9_r3k.specs.Machine.{State, run, argument, then_one, exits_of, asked_exits, asked, called, exit_text}
use Rattle.p9_r3k.proofs.Begins.{below_stack}
use Rattle.p9_straight.specs.Code.{set_register, system_call, exit_code}
use Rattle.p9_straight.specs.FormRun.{Values}
use Rattle.p9_straight.proofs.Placed.{IsTextAt}
use Rattle.p9_straight.proofs.MachineSteps.{Fixed, standing, Room, data_readable, stack_readable, step_addiu, step_sw_stack, step_call}
use Rattle.p9_straight.proofs.MachineBytes.{word_stored}
use Rattle.p9_straight.proofs.MachineCode.{Follows, follows_first, follows_then, ran_none, ran_then, ran_both, sets, registers}
use Rattle.p9_straight.proofs.MachineMemory.{Memory}

-- Arguments

argument_by : (c : Core) (a v : ℕ) → a % 4 ≡ 0 → 4 ≤ readable c a → read_word c a ≡ v → argument c a ≡ Ok v
argument_by c a v aligned room read =
    let t : (a % 4 == 0) ≡ true = grind (arith, nat_tests) in
    let l : nat_le 4 (readable c a) ≡ true = grind (arith, nat_tests) in
    rw (t, l) (ap Ok read)

not_below : (a : ℕ) → stack_start ≤ a → nat_lt a stack_start ≡ false
not_below a h = grind (arith, nat_tests)

pub argument_is : (m : Fixed) (regs low stack : List ℕ) (pc : ℕ) (out : List ℕ) (a v : ℕ) → Room m low → a % 4 ≡ 0 → stack_start ≤ a → a + 4 ≤ stack_end → word_in Big stack (a - stack_start) ≡ v → argument (standing m regs low stack pc 0 out).core a ≡ Ok v
argument_is m regs low stack pc out a v room aligned from to read =
    let c : Core = (standing m regs low stack pc 0 out).core in
    let reach : readable c a ≡ stack_end - a = stack_readable m regs low stack pc 0 out a room from (omega (arith, to)) in
    argument_by c a v aligned (omega (arith, reach, to))
    (ap (λ b. if b then word_in Big low (a - text_start) else word_in Big stack (a - stack_start)) (not_below a from) ∙ read)

-- Texts

front_is : (text more : List ℕ) → All (λ c. c ≢ 0) text → prefix_len (λ c. not (c == 0)) (text ++ 0 ∷ more) ≡ length text
front_is [] more h = refl
front_is (c ∷ cs) more h =
    let ne : c ≢ 0 = h 0 0 (omega arith) in
    let t : eqb c 0 ≡ false = grind (arith, nat_tests) in
    let r : prefix_len (λ x. not (x == 0)) (cs ++ 0 ∷ more) ≡ length cs = front_is cs more (λ j d l. h (suc j) d (omega arith)) in
    let e : 1 + length cs ≡ suc (length cs) = omega arith in
    rw (t, r) e

first_zero : (text more : List ℕ) → All (λ c. c ≢ 0) text → position (λ c. c == 0) (text ++ 0 ∷ more) ≡ Some (length text)
first_zero text more h =
    let l : length (text ++ 0 ∷ more) ≡ length text + length (0 ∷ more) = length-append text (0 ∷ more) in
    let m : ltb (length text) (length (text ++ 0 ∷ more)) ≡ true = grind (arith, nat_tests) in
    rw (front_is text more h, m) refl

-- the low memory from the text on
text_there : (low text : List ℕ) (k : ℕ) → take (length text + 1) (drop k low) ≡ text ++ 0 ∷ [] → drop k low ≡ text ++ 0 ∷ drop (length text + 1) (drop k low)
text_there low text k h =
    sym (take-append-drop (length text + 1) (drop k low))
    ∙ (ap (λ xs. xs ++ drop (length text + 1) (drop k low)) h ∙ append_assoc text (0 ∷ []) (drop (length text + 1) (drop k low)))

all_taken : (xs : List ℕ) (n : ℕ) → n ≡ length xs → take n xs ≡ xs
all_taken xs n e = ap (λ k. take k xs) e ∙ take-length xs

pub low_bytes_from : (m : Fixed) (regs low stack : List ℕ) (pc : ℕ) (out : List ℕ) (a n : ℕ) → a < stack_start → bytes_from (standing m regs low stack pc 0 out).core a n ≡ take n (drop (a - text_start) low)
low_bytes_from m regs low stack pc out a n h =
    ap (λ b. if b then take n (drop (a - text_start) low) else take n (drop (a - stack_start) stack)) (below_stack a h)

take_front : (front back : List ℕ) → take (length front) (front ++ back) ≡ front
take_front front back = grind (arith, common_steps)

pub take_fewer : (xs ys : List ℕ) (n k : ℕ) → n ≤ k → take k xs ≡ ys → take n xs ≡ take n ys
take_fewer xs ys n k h e = sym (takes n k xs h) ∙ ap (take n) e
  where
    takes : (n k : ℕ) (xs : List ℕ) → n ≤ k → take n (take k xs) ≡ take n xs
    takes n k xs h = grind (arith, common_steps)

-- a text and its zero byte lie in memory at this address
pub record HasText (m : Fixed) (low text : List ℕ) (at : ℕ) : Type 0 where
  pub from : m.begin ≤ at
  pub within : at + (length text + 1) ≤ text_start + length low
  pub bytes : take (length text + 1) (drop (at - text_start) low) ≡ text ++ 0 ∷ []

pub has_text : (m : Fixed) (place : List ℕ → ℕ) (names : List (List ℕ)) (init : List ℕ) (values : Values) (low text : List ℕ) (at : ℕ) → Memory m place names init values low → IsTextAt place names m.begin init text at → HasText m low text at
has_text m place names init values low text at memory is = record {
  from = is.from;
  within = omega (arith, is.within, memory.initial);
  bytes = memory.texts text at is;
}

-- `exits` asks for the text
asks_text : (m : Fixed) (regs low stack : List ℕ) (pc : ℕ) (out text : List ℕ) (at : ℕ) → Room m low → HasText m low text at → All (λ c. c ≢ 0) text → asked_exits (standing m regs low stack pc 0 out).core at ≡ asks.Exits at (length text)
asks_text m regs low stack pc out text at room has no_zero =
    let c : Core = (standing m regs low stack pc 0 out).core in
    let rest : List ℕ = drop (at - text_start) low in
    let more : List ℕ = drop (length text + 1) rest in
    let reach : readable c at ≡ text_start + length low - at = data_readable m regs low stack pc 0 out at room has.from (omega (arith, has.within)) in
    let size : length rest ≡ length low - (at - text_start) = length-drop (at - text_start) low in
    let whole : text_start + length low - at ≡ length rest = omega (arith, size, has.from, room.gap, has.within) in
    let some : (at == 0) ≡ false = not_null at (omega (arith, has.from, room.gap)) in
    let bytes : bytes_from c at (text_start + length low - at) ≡ text ++ 0 ∷ more =
    low_bytes_from m regs low stack pc out at (text_start + length low - at) (omega (arith, has.within, room.small))
    ∙ (all_taken rest (text_start + length low - at) whole ∙ text_there low text (at - text_start) has.bytes) in
    ap (λ b. if b then asks.Exits 0 0 else exits_of at (readable c at) (position (λ b. b == 0) (bytes_from c at (readable c at)))) some
    ∙ (ap (λ r. exits_of at r (position (λ b. b == 0) (bytes_from c at r))) reach
    ∙ (ap (λ bs. exits_of at (text_start + length low - at) (position (λ b. b == 0) bs)) bytes
    ∙ ap (exits_of at (text_start + length low - at)) (first_zero text more no_zero)))
  where
    not_null : (at : ℕ) → 0 < at → (at == 0) ≡ false
    not_null at h = grind (arith, nat_tests)

-- the machine that has exited with the text at this address
abbrev pub exited : (m : Fixed) (regs low stack : List ℕ) (pc : ℕ) (out : List ℕ) (at len : ℕ) → State
exited m regs low stack pc out at len = called (asks.Exits at len) (standing m regs low stack pc 0 out)

pub exited_text : (m : Fixed) (regs low stack : List ℕ) (pc : ℕ) (out text : List ℕ) (at : ℕ) → Room m low → HasText m low text at → exit_text (exited m regs low stack pc out at (length text)).core ≡ text
exited_text m regs low stack pc out text at room has =
    low_bytes_from m regs low stack pc out at (length text) (omega (arith, has.within, room.small))
    ∙ (take_fewer (drop (at - text_start) low) (text ++ 0 ∷ []) (length text) (length text + 1) (omega arith) has.bytes ∙ take_front text (0 ∷ []))

-- Exits

-- the first argument is stored
abbrev pub with_first : (stack : List ℕ) (v : ℕ) → List ℕ
with_first stack v = with_word_in Big stack 0xFFFFF4 v

abbrev pub IsStack : List ℕ → Type 0
IsStack stack = length stack ≡ 2 ^ 24

-- an exit with register r's word as its text's address
abbrev pub exit_by : (r : ℕ) → List Inst
exit_by r = Sw 29 r 4 ∷ system_call 8

asks_exit : (m : Fixed) (low stack : List ℕ) (two three four pc : ℕ) (out : List ℕ) (at : ℕ) (k : Asked) → Room m low → IsStack stack → at < 2 ^ 32 → asked_exits (standing m (registers 8 two three four) low (with_first stack at) pc 0 out).core at ≡ k → asked (standing m (registers 8 two three four) low (with_first stack at) pc 0 out).core ≡ k
asks_exit m low stack two three four pc out at k room size small is =
    ap (λ a. then_one a (asked_exits (standing m (registers 8 two three four) low (with_first stack at) pc 0 out).core))
    (argument_is m (registers 8 two three four) low (with_first stack at) pc out 0x7FFFEFF4 at room refl (omega arith) (omega arith) (word_stored stack 0xFFFFF4 at (omega (arith, size)) small))
    ∙ is

pub exits_by : (m : Fixed) (low stack : List ℕ) (one two three four r pc : ℕ) (out : List ℕ) (at len : ℕ) → Room m low → IsStack stack → at < 2 ^ 32 → slice_index (registers one two three four) r ≡ at → Follows m.text pc (exit_by r) →
    asked_exits (standing m (registers 8 two three four) low (with_first stack at) (pc + 4 + 4) 0 out).core at ≡ asks.Exits at len →
    run (length (exit_by r)) (standing m (registers one two three four) low stack pc 0 out) ≡ exited m (registers 8 two three four) low (with_first stack at) (pc + 4 + 4) out at len
exits_by m low stack one two three four r pc out at len room size small value code is =
    let s1 : State = standing m (registers one two three four) low (with_first stack at) (pc + 4) 0 out in
    let s2 : State = standing m (registers 8 two three four) low (with_first stack at) (pc + 4 + 4) 0 out in
    let s3 : State = exited m (registers 8 two three four) low (with_first stack at) (pc + 4 + 4) out at len in
    ran_then (Sw 29 r 4) (Addiu 0 1 8 ∷ Syscall 0 ∷ []) (standing m (registers one two three four) low stack pc 0 out) s1 s3
    (step_sw_stack m (registers one two three four) low stack pc out 29 r 4 0x7FFFEFF4 at room code.0 refl value refl (omega arith) (omega arith))
    (ran_then (Addiu 0 1 8) (Syscall 0 ∷ []) s1 s2 s3
    (step_addiu m (registers one two three four) low (with_first stack at) (pc + 4) out 0 1 8 room code.1.0)
    (ran_then (Syscall 0) [] s2 s3 s3
    (step_call m (registers 8 two three four) low (with_first stack at) (pc + 4 + 4) out (asks.Exits at len) room code.1.1.0
    (asks_exit m low stack two three four (pc + 4 + 4) out at (asks.Exits at len) room size small is))
    (ran_none s3)))

-- `exits` with a text
pub exits_text : (m : Fixed) (low stack : List ℕ) (one two three four pc : ℕ) (out text : List ℕ) (at : ℕ) → Room m low → IsStack stack → HasText m low text at → All (λ c. c ≢ 0) text → Follows m.text pc (exit_code at) →
    run (length (exit_code at)) (standing m (registers one two three four) low stack pc 0 out) ≡ exited m (registers 8 at three four) low (with_first stack at) (pc + 4 + 4 + 4 + 4) out at (length text)
exits_text m low stack one two three four pc out text at room size has no_zero code =
    let s1 : State = standing m (registers one at three four) low stack (pc + 4 + 4) 0 out in
    let s2 : State = exited m (registers 8 at three four) low (with_first stack at) (pc + 4 + 4 + 4 + 4) out at (length text) in
    let small : at < 2 ^ 32 = omega (arith, has.within, room.small) in
    ran_both (set_register 2 at) (exit_by 2) (standing m (registers one two three four) low stack pc 0 out) s1 s2
    (sets m (registers one two three four) low stack pc out 2 at room (follows_first m.text pc (set_register 2 at) (exit_by 2) code) (lit< tt) (lit< tt))
    (exits_by m low stack one at three four 2 (pc + 4 + 4) out at (length text) room size small refl (follows_then m.text pc (set_register 2 at) (exit_by 2) code)
    (asks_text m (registers 8 at three four) low (with_first stack at) (pc + 4 + 4 + 4 + 4) out text at room has no_zero))

-- `exits` with 0
pub exits_none : (m : Fixed) (low stack : List ℕ) (one two three four pc : ℕ) (out : List ℕ) → Room m low → IsStack stack → Follows m.text pc (exit_by 0) →
    run (length (exit_by 0)) (standing m (registers one two three four) low stack pc 0 out) ≡ exited m (registers 8 two three four) low (with_first stack 0) (pc + 4 + 4) out 0 0
exits_none m low stack one two three four pc out room size code =
    exits_by m low stack one two three four 0 pc out 0 0 room size (omega arith) refl code refl
