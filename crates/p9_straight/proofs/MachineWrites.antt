-- The code that writes the front of a text.
use Rattle.std.proofs.Common.{◌≡◌, ℕ, ◌+◌, ◌-◌, ◌/◌, ◌%◌, ◌^◌, ◌<◌, ◌≤◌, inl, true, false, lit<, List, [], ◌∷◌, ◌++◌, length, take, drop, nat_le, refl, ap, ◌∙◌, arith}
use Rattle.std.specs.Prelude.{if◌then◌else◌}
use Rattle.std.proofs.lemmas.Bool.Decides.{nat_tests}
use Rattle.p9_base.specs.declared.order.ByteOrder.TheVariants.{Big}
use Rattle.p9_base.specs.Words.{is_negative}
use Rattle.p9_r3k.specs.declared.inst.Inst.{Inst}
use Rattle.p9_r3k.specs.declared.inst.Inst.TheVariants.{Addiu, Sw, Syscall}
use Rattle.p9_base.specs.declared.halt.HaltCause.TheVariants.{BadAddress}
use Rattle.p9_base.specs.declared.halt.Asked.TheVariants as asks
use Rattle.p9_r3k.specs.Memory.{Core, text_start, readable, word_in, with_word_in, bytes_from}
use Rattle.p9_r3k.specs.Machine.{State, run, argument, then_one, asked_write, asked}
use Rattle.p9_straight.specs.Code.{set_register, system_call}
use Rattle.p9_straight.proofs.MachineSteps.{Fixed, standing, Room, data_readable, step_addiu, step_sw_stack, step_write, step_refused}
use Rattle.p9_straight.proofs.MachineBytes.{length-four, word_stored, word_apart}
use Rattle.p9_straight.proofs.MachineCode.{Follows, behind, follows_first, follows_then, ran_none, ran_then, ran_both, sets, registers}
use Rattle.p9_straight.proofs.MachineCalls.{argument_is, HasText, low_bytes_from, take_fewer, IsStack, with_first}

-- the other two arguments are stored
abbrev pub with_second : (stack : List ℕ) (at : ℕ) → List ℕ
with_second stack at = with_word_in Big (with_first stack 1) 0xFFFFF8 at

abbrev pub with_third : (stack : List ℕ) (at count : ℕ) → List ℕ
with_third stack at count = with_word_in Big (with_second stack at) 0xFFFFFC count

word_size : (bytes : List ℕ) (i v : ℕ) → length (with_word_in Big bytes i v) ≡ length bytes
word_size bytes i v = length-four bytes i (v / 2 ^ 24 % 2 ^ 8) (v / 2 ^ 16 % 2 ^ 8) (v / 2 ^ 8 % 2 ^ 8) (v % 2 ^ 8)

pub third_size : (stack : List ℕ) (at count : ℕ) → IsStack stack → IsStack (with_third stack at count)
third_size stack at count size =
    word_size (with_second stack at) 0xFFFFFC count ∙ (word_size (with_first stack 1) 0xFFFFF8 at ∙ (word_size stack 0xFFFFF4 1 ∙ size))

second_size : (stack : List ℕ) (at : ℕ) → IsStack stack → IsStack (with_second stack at)
second_size stack at size = word_size (with_first stack 1) 0xFFFFF8 at ∙ (word_size stack 0xFFFFF4 1 ∙ size)

first_size : (stack : List ℕ) → IsStack stack → IsStack (with_first stack 1)
first_size stack size = word_size stack 0xFFFFF4 1 ∙ size

first_read : (stack : List ℕ) (at count : ℕ) → IsStack stack → word_in Big (with_third stack at count) 0xFFFFF4 ≡ 1
first_read stack at count size =
    word_apart (with_second stack at) 0xFFFFF4 0xFFFFFC count (inl (omega arith))
    ∙ (word_apart (with_first stack 1) 0xFFFFF4 0xFFFFF8 at (inl (omega arith))
    ∙ word_stored stack 0xFFFFF4 1 (omega (arith, size)) (omega arith))

second_read : (stack : List ℕ) (at count : ℕ) → IsStack stack → at < 2 ^ 32 → word_in Big (with_third stack at count) 0xFFFFF8 ≡ at
second_read stack at count size small =
    word_apart (with_second stack at) 0xFFFFF8 0xFFFFFC count (inl (omega arith))
    ∙ word_stored (with_first stack 1) 0xFFFFF8 at (omega (arith, first_size stack size)) small

third_read : (stack : List ℕ) (at count : ℕ) → IsStack stack → count < 2 ^ 32 → word_in Big (with_third stack at count) 0xFFFFFC ≡ count
third_read stack at count size small = word_stored (with_second stack at) 0xFFFFFC count (omega (arith, second_size stack at size)) small

-- the core at the call
abbrev pub at_write : (m : Fixed) (low stack : List ℕ) (four pc : ℕ) (out : List ℕ) (at count : ℕ) → State
at_write m low stack four pc out at count = standing m (registers 20 count at four) low (with_third stack at count) pc 0 out

asks_write : (m : Fixed) (low stack : List ℕ) (four pc : ℕ) (out : List ℕ) (at count : ℕ) → Room m low → IsStack stack → at < 2 ^ 32 → count < 2 ^ 32 → asked (at_write m low stack four pc out at count).core ≡ asked_write (at_write m low stack four pc out at count).core 1 at count
asks_write m low stack four pc out at count room size small fits =
    let c : Core = (at_write m low stack four pc out at count).core in
    let regs : List ℕ = registers 20 count at four in
    ap (λ d. then_one d (λ d. then_one (argument c 0x7FFFEFF8) (λ a. then_one (argument c 0x7FFFEFFC) (λ n. asked_write c d a n))))
    (argument_is m regs low (with_third stack at count) pc out 0x7FFFEFF4 1 room refl (omega arith) (omega arith) (first_read stack at count size))
    ∙ (ap (λ a. then_one a (λ a. then_one (argument c 0x7FFFEFFC) (λ n. asked_write c 1 a n)))
    (argument_is m regs low (with_third stack at count) pc out 0x7FFFEFF8 at room refl (omega arith) (omega arith) (second_read stack at count size small))
    ∙ ap (λ n. then_one n (λ n. asked_write c 1 at n))
    (argument_is m regs low (with_third stack at count) pc out 0x7FFFEFFC count room refl (omega arith) (omega arith) (third_read stack at count size fits)))

-- a negative count is refused
asks_refused : (m : Fixed) (low stack : List ℕ) (four pc : ℕ) (out : List ℕ) (at count : ℕ) → Room m low → IsStack stack → at < 2 ^ 32 → count < 2 ^ 32 → is_negative count ≡ true → asked (at_write m low stack four pc out at count).core ≡ asks.Refused
asks_refused m low stack four pc out at count room size small fits negative =
    let c : Core = (at_write m low stack four pc out at count).core in
    asks_write m low stack four pc out at count room size small fits
    ∙ ap (λ b. if b then asks.Refused else if nat_le count (readable c at) then asks.Write at count else asks.Stop (BadAddress (at + readable c at))) negative

-- a count within the text and its zero byte is granted
asks_granted : (m : Fixed) (low stack : List ℕ) (four pc : ℕ) (out text : List ℕ) (at count : ℕ) → Room m low → IsStack stack → HasText m low text at → count < 2 ^ 32 → is_negative count ≡ false → count ≤ length text + 1 → asked (at_write m low stack four pc out at count).core ≡ asks.Write at count
asks_granted m low stack four pc out text at count room size has fits negative within =
    let c : Core = (at_write m low stack four pc out at count).core in
    let reach : readable c at ≡ text_start + length low - at = data_readable m (registers 20 count at four) low (with_third stack at count) pc 0 out at room has.from (omega (arith, has.within)) in
    let enough : count ≤ readable c at = omega (arith, reach, has.within, within) in
    asks_write m low stack four pc out at count room size (omega (arith, has.within, room.small)) fits
    ∙ (ap (λ b. if b then asks.Refused else if nat_le count (readable c at) then asks.Write at count else asks.Stop (BadAddress (at + readable c at))) negative
    ∙ ap (λ b. if b then asks.Write at count else asks.Stop (BadAddress (at + readable c at))) (is_enough count (readable c at) enough))
  where
    is_enough : (n k : ℕ) → n ≤ k → nat_le n k ≡ true
    is_enough n k h = grind (arith, nat_tests)

-- what is written
written : (m : Fixed) (low stack : List ℕ) (four pc : ℕ) (out text : List ℕ) (at count : ℕ) → Room m low → HasText m low text at → count ≤ length text + 1 → bytes_from (at_write m low stack four pc out at count).core at count ≡ take count (text ++ 0 ∷ [])
written m low stack four pc out text at count room has within =
    low_bytes_from m (registers 20 count at four) low (with_third stack at count) pc out at count (omega (arith, has.within, room.small))
    ∙ take_fewer (drop (at - text_start) low) (text ++ 0 ∷ []) count (length text + 1) within has.bytes

-- the code up to the call, with the count in register 2
abbrev pub arguments_code : (at : ℕ) → List Inst
arguments_code at = Addiu 0 3 1 ∷ Sw 29 3 4 ∷ (set_register 3 at ++ (Sw 29 3 8 ∷ Sw 29 2 12 ∷ Addiu 0 1 20 ∷ []))

-- and the call
abbrev pub write_code : (at : ℕ) → List Inst
write_code at = Addiu 0 3 1 ∷ Sw 29 3 4 ∷ (set_register 3 at ++ (Sw 29 3 8 ∷ Sw 29 2 12 ∷ system_call 20))

last_arguments : (m : Fixed) (low stack : List ℕ) (one four pc : ℕ) (out : List ℕ) (at count : ℕ) → Room m low → Follows m.text pc (Sw 29 3 8 ∷ Sw 29 2 12 ∷ Addiu 0 1 20 ∷ []) →
    run 3 (standing m (registers one count at four) low (with_first stack 1) pc 0 out) ≡ at_write m low stack four (pc + 4 + 4 + 4) out at count
last_arguments m low stack one four pc out at count room code =
    let s0 : State = standing m (registers one count at four) low (with_first stack 1) pc 0 out in
    let s1 : State = standing m (registers one count at four) low (with_second stack at) (pc + 4) 0 out in
    let s2 : State = standing m (registers one count at four) low (with_third stack at count) (pc + 4 + 4) 0 out in
    let s3 : State = at_write m low stack four (pc + 4 + 4 + 4) out at count in
    ran_then (Sw 29 3 8) (Sw 29 2 12 ∷ Addiu 0 1 20 ∷ []) s0 s1 s3
    (step_sw_stack m (registers one count at four) low (with_first stack 1) pc out 29 3 8 0x7FFFEFF8 at room code.0 refl refl refl (omega arith) (omega arith))
    (ran_then (Sw 29 2 12) (Addiu 0 1 20 ∷ []) s1 s2 s3
    (step_sw_stack m (registers one count at four) low (with_second stack at) (pc + 4) out 29 2 12 0x7FFFEFFC count room code.1.0 refl refl refl (omega arith) (omega arith))
    (ran_then (Addiu 0 1 20) [] s2 s3 s3
    (step_addiu m (registers one count at four) low (with_third stack at count) (pc + 4 + 4) out 0 1 20 room code.1.1.0)
    (ran_none s3)))

arguments : (m : Fixed) (low stack : List ℕ) (one three four pc : ℕ) (out : List ℕ) (at count : ℕ) → Room m low → Follows m.text pc (arguments_code at) →
    run (length (arguments_code at)) (standing m (registers one count three four) low stack pc 0 out) ≡ at_write m low stack four (behind pc (arguments_code at)) out at count
arguments m low stack one three four pc out at count room code =
    let s0 : State = standing m (registers one count three four) low stack pc 0 out in
    let s1 : State = standing m (registers one count 1 four) low stack (pc + 4) 0 out in
    let s2 : State = standing m (registers one count 1 four) low (with_first stack 1) (pc + 4 + 4) 0 out in
    let s3 : State = standing m (registers one count at four) low (with_first stack 1) (pc + 4 + 4 + 4 + 4) 0 out in
    let s4 : State = at_write m low stack four (behind pc (arguments_code at)) out at count in
    ran_then (Addiu 0 3 1) (Sw 29 3 4 ∷ (set_register 3 at ++ (Sw 29 3 8 ∷ Sw 29 2 12 ∷ Addiu 0 1 20 ∷ []))) s0 s1 s4
    (step_addiu m (registers one count three four) low stack pc out 0 3 1 room code.0)
    (ran_then (Sw 29 3 4) (set_register 3 at ++ (Sw 29 3 8 ∷ Sw 29 2 12 ∷ Addiu 0 1 20 ∷ [])) s1 s2 s4
    (step_sw_stack m (registers one count 1 four) low stack (pc + 4) out 29 3 4 0x7FFFEFF4 1 room code.1.0 refl refl refl (omega arith) (omega arith))
    (ran_both (set_register 3 at) (Sw 29 3 8 ∷ Sw 29 2 12 ∷ Addiu 0 1 20 ∷ []) s2 s3 s4
    (sets m (registers one count 1 four) low (with_first stack 1) (pc + 4 + 4) out 3 at room (code.1.1.0, (code.1.1.1.0, tt)) (lit< tt) (lit< tt))
    (last_arguments m low stack one four (pc + 4 + 4 + 4 + 4) out at count room code.1.1.1.1)))

-- the call, behind the code up to it
calls : (m : Fixed) (low stack : List ℕ) (one three four pc : ℕ) (out : List ℕ) (at count : ℕ) (t : State) → Room m low → Follows m.text pc (write_code at) →
    run 1 (at_write m low stack four (behind pc (arguments_code at)) out at count) ≡ t →
    run (length (write_code at)) (standing m (registers one count three four) low stack pc 0 out) ≡ t
calls m low stack one three four pc out at count t room code last =
    ran_both (arguments_code at) (Syscall 0 ∷ []) (standing m (registers one count three four) low stack pc 0 out) (at_write m low stack four (behind pc (arguments_code at)) out at count) t
    (arguments m low stack one three four pc out at count room (follows_first m.text pc (arguments_code at) (Syscall 0 ∷ []) code)) last

-- `write` with a negative count
pub writes_nothing : (m : Fixed) (low stack : List ℕ) (one three four pc : ℕ) (out text : List ℕ) (at count : ℕ) → Room m low → IsStack stack → HasText m low text at → count < 2 ^ 32 → is_negative count ≡ true → Follows m.text pc (write_code at) →
    run (length (write_code at)) (standing m (registers one count three four) low stack pc 0 out) ≡ standing m (registers (2 ^ 32 - 1) count at four) low (with_third stack at count) (behind pc (write_code at)) 0 out
writes_nothing m low stack one three four pc out text at count room size has fits negative code =
    let before : ℕ = behind pc (arguments_code at) in
    let s : State = at_write m low stack four before out at count in
    let t : State = standing m (registers (2 ^ 32 - 1) count at four) low (with_third stack at count) (before + 4) 0 out in
    calls m low stack one three four pc out at count t room code
    (ran_then (Syscall 0) [] s t t
    (step_refused m (registers 20 count at four) low (with_third stack at count) before out room (follows_then m.text pc (arguments_code at) (Syscall 0 ∷ []) code).0
    (asks_refused m low stack four before out at count room size (omega (arith, has.within, room.small)) fits negative))
    (ran_none t))

-- `write` with a count within the text and its zero byte
pub writes_front : (m : Fixed) (low stack : List ℕ) (one three four pc : ℕ) (out text : List ℕ) (at count : ℕ) → Room m low → IsStack stack → HasText m low text at → count < 2 ^ 32 → is_negative count ≡ false → count ≤ length text + 1 → Follows m.text pc (write_code at) →
    run (length (write_code at)) (standing m (registers one count three four) low stack pc 0 out) ≡ standing m (registers count count at four) low (with_third stack at count) (behind pc (write_code at)) 0 (out ++ take count (text ++ 0 ∷ []))
writes_front m low stack one three four pc out text at count room size has fits negative within code =
    let before : ℕ = behind pc (arguments_code at) in
    let s : State = at_write m low stack four before out at count in
    let t : State = standing m (registers count count at four) low (with_third stack at count) (before + 4) 0 (out ++ take count (text ++ 0 ∷ [])) in
    calls m low stack one three four pc out at count t room code
    (ran_then (Syscall 0) [] s t t
    (step_write m (registers 20 count at four) low (with_third stack at count) before out at count room (follows_then m.text pc (arguments_code at) (Syscall 0 ∷ []) code).0
    (asks_granted m low stack four before out text at count room size has fits negative within)
    ∙ ap (λ bytes. standing m (registers count count at four) low (with_third stack at count) (before + 4) 0 (out ++ bytes)) (written m low stack four before out text at count room has within))
    (ran_none t))
