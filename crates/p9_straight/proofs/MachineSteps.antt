-- The machine that runs `main`, and what one instruction of each kind does.
use Rattle.std.proofs.Common.{◌≡◌, ℕ, ◌+◌, ◌-◌, ◌*◌, ◌%◌, ◌^◌, ◌<◌, ◌≤◌, Bool, true, false, not, ◌&&◌, nat_lt, nat_le, List, ◌++◌, length, take, slice_index, Ok, Some, refl, sym, ap, ◌∙◌, arith}
use Rattle.std.specs.Prelude.{◌==◌, bit_or, if◌then◌else◌}
use Rattle.std.proofs.lemmas.Bool.Decides.{nat_tests}
use Rattle.std.proofs.Math.Seq.{take-length}
use Rattle.p9_base.specs.declared.order.ByteOrder.TheVariants.{Big}
use Rattle.p9_base.specs.Words.{word_sum, shift_left}
use Rattle.p9_base.specs.Numbers.{word_at, sign_extended}
use Rattle.p9_r3k.specs.declared.inst.Inst.{Inst}
use Rattle.p9_r3k.specs.declared.inst.Inst.TheVariants.{Addiu, Lui, Ori, Lw, Sw, Sll, Addu, Syscall}
use Rattle.p9_base.specs.declared.halt.Ending.TheVariants.{Running}
use Rattle.p9_base.specs.declared.halt.Effect.{Effect}
use Rattle.p9_base.specs.declared.halt.Effect.TheVariants as effects
use Rattle.p9_base.specs.declared.halt.Asked.{Asked}
use Rattle.p9_base.specs.declared.halt.Asked.TheVariants as asks
use Rattle.p9_r3k.specs.Memory.{Core, text_start, stack_start, stack_end, with_reg, readable, writable, read_word, with_word_in, bytes_from}
use Rattle.p9_r3k.specs.Effects.{effect_of, load_word, store_word, reads, reads_pair, writes_pair}
use Rattle.p9_r3k.specs.Machine.{State, advanced, without_hazard, fetched, asked, called, acted, executed, going, step}
use Rattle.p9_r3k.specs.Table.{Fits, word_of, decoded}
use Rattle.p9_r3k.proofs.Again.{again}
use Rattle.p9_r3k.proofs.Begins.{word_at-kept, low_read, below_stack}

-- what no instruction of `main` changes: the text, where data begin, and the input
pub record Fixed : Type 0 where
  pub text : List ℕ
  pub begin : ℕ
  pub input : List ℕ

-- the machine at an instruction, when the next one may lie anywhere
abbrev pub placed : (m : Fixed) (regs low stack : List ℕ) (pc next loaded : ℕ) (out : List ℕ) → State
placed m regs low stack pc next loaded out = record {
  core = record {
    regs = regs;
    order = Big;
    hi = 0;
    lo = 0;
    low = low;
    stack = stack;
    text_end = text_start + length m.text;
    data_start = m.begin;
    pc = pc;
    next = next;
    slot = false;
    loaded = loaded;
    used = false;
    used_before = false;
    ending = Running;
  };
  left = m.input;
  out = out;
}

abbrev pub standing : (m : Fixed) (regs low stack : List ℕ) (pc loaded : ℕ) (out : List ℕ) → State
standing m regs low stack pc loaded out = placed m regs low stack pc (pc + 4) loaded out

-- the text has this instruction at this address
pub record IsAt (text : List ℕ) (pc : ℕ) (i : Inst) : Type 0 where
  pub aligned : pc % 4 ≡ 0
  pub from : text_start ≤ pc
  pub to : pc + 4 ≤ text_start + length text
  pub small : length text ≤ 2 ^ 25
  pub word : word_at text (pc - text_start) ≡ word_of i
  pub fits : Fits i

-- the text is in memory, and data lie between it and the stack
pub record Room (m : Fixed) (low : List ℕ) : Type 0 where
  pub holds : take (length m.text) low ≡ m.text
  pub gap : text_start + length m.text ≤ m.begin
  pub data_within : m.begin ≤ text_start + length low
  pub small : text_start + length low ≤ 2 ^ 26

-- Fetching

and_false : (b : Bool) → (b && false) ≡ false
and_false true = refl
and_false false = refl

is_in_text : (pc size : ℕ) → pc % 4 ≡ 0 → text_start ≤ pc → pc + 4 ≤ text_start + size → ((pc % 4 == 0) && (nat_le text_start pc && nat_lt pc (text_start + size))) ≡ true
is_in_text pc size a f t = grind (arith, nat_tests)

-- no hazard where the register that was loaded isn't read
no_hazard : (i : Inst) (c : Core) → c.slot ≡ false → c.used ≡ false → c.used_before ≡ false → (not (c.loaded == 0) && reads i c.loaded) ≡ false → without_hazard (Some i) c ≡ Ok i
no_hazard i c s u b l = rw (s, u, b, l, and_false (writes_pair i)) refl

word_read : (m : Fixed) (regs low stack : List ℕ) (pc loaded : ℕ) (out : List ℕ) (i : Inst) → Room m low → IsAt m.text pc i → read_word (standing m regs low stack pc loaded out).core pc ≡ word_of i
word_read m regs low stack pc loaded out i room at =
    let below : pc < stack_start = omega (arith, at.to, at.small) in
    let same : take (length m.text) low ≡ take (length m.text) m.text = room.holds ∙ sym (take-length m.text) in
    low_read (standing m regs low stack pc loaded out).core true pc (below_stack pc below) refl
    ∙ (word_at-kept (length m.text) m.text low (pc - text_start) same (omega (arith, at.to, at.from)) ∙ at.word)

-- an instruction that reads no register that is on its way
abbrev pub IsFree : (loaded : ℕ) → Inst → Type 0
IsFree loaded i = (not (loaded == 0) && reads i loaded) ≡ false

pub fetches : (m : Fixed) (regs low stack : List ℕ) (pc loaded : ℕ) (out : List ℕ) (i : Inst) → Room m low → IsAt m.text pc i → IsFree loaded i → fetched (standing m regs low stack pc loaded out).core ≡ Ok i
unfolding fetched
fetches m regs low stack pc loaded out i room at free =
    let c : Core = (standing m regs low stack pc loaded out).core in
    rw (is_in_text pc (length m.text) at.aligned at.from at.to)
    (ap (λ w. without_hazard (decoded w) c) (word_read m regs low stack pc loaded out i room at)
    ∙ (ap (λ o. without_hazard o c) (again i at.fits) ∙ no_hazard i c refl refl refl free))

-- Steps

pub step_by : (s : State) (i : Inst) → s.core.ending ≡ Running → fetched s.core ≡ Ok i → step s ≡ acted (effect_of i s.core) s (reads_pair i)
unfolding step
step_by s i r f = ap (λ e. going e s) r ∙ ap (λ g. executed g s) f

pub step_of : (m : Fixed) (regs low stack : List ℕ) (pc loaded : ℕ) (out : List ℕ) (i : Inst) (e : Effect) → Room m low → IsAt m.text pc i → IsFree loaded i → reads_pair i ≡ false → effect_of i (standing m regs low stack pc loaded out).core ≡ e → step (standing m regs low stack pc loaded out) ≡ acted e (standing m regs low stack pc loaded out) false
step_of m regs low stack pc loaded out i e room at free pair effect =
    let s : State = standing m regs low stack pc loaded out in
    step_by s i refl (fetches m regs low stack pc loaded out i room at free)
    ∙ (ap (λ f. acted f s (reads_pair i)) effect ∙ ap (λ b. acted e s b) pair)

next_is : (pc : ℕ) → pc < 2 ^ 31 → word_sum (pc + 4) 4 ≡ pc + 4 + 4
next_is pc h = omega arith

next_at : (text : List ℕ) (pc : ℕ) (i : Inst) → IsAt text pc i → word_sum (pc + 4) 4 ≡ pc + 4 + 4
next_at text pc i at = next_is pc (omega (arith, at.to, at.small))

-- an instruction that writes a register
pub step_writes : (m : Fixed) (regs low stack : List ℕ) (pc loaded : ℕ) (out : List ℕ) (i : Inst) (r v : ℕ) → Room m low → IsAt m.text pc i → IsFree loaded i → reads_pair i ≡ false → effect_of i (standing m regs low stack pc loaded out).core ≡ effects.Write r v → step (standing m regs low stack pc loaded out) ≡ standing m (with_reg regs r v) low stack (pc + 4) 0 out
step_writes m regs low stack pc loaded out i r v room at free pair effect =
    step_of m regs low stack pc loaded out i (effects.Write r v) room at free pair effect
    ∙ ap (λ n. placed m (with_reg regs r v) low stack (pc + 4) n 0 out) (next_at m.text pc i at)

pub step_lui : (m : Fixed) (regs low stack : List ℕ) (pc : ℕ) (out : List ℕ) (r v : ℕ) → Room m low → IsAt m.text pc (Lui r v) → step (standing m regs low stack pc 0 out) ≡ standing m (with_reg regs r (v * 2 ^ 16)) low stack (pc + 4) 0 out
step_lui m regs low stack pc out r v room at = step_writes m regs low stack pc 0 out (Lui r v) r (v * 2 ^ 16) room at refl refl refl

pub step_ori : (m : Fixed) (regs low stack : List ℕ) (pc : ℕ) (out : List ℕ) (s r v : ℕ) → Room m low → IsAt m.text pc (Ori s r v) → step (standing m regs low stack pc 0 out) ≡ standing m (with_reg regs r (bit_or (slice_index regs s) v)) low stack (pc + 4) 0 out
step_ori m regs low stack pc out s r v room at = step_writes m regs low stack pc 0 out (Ori s r v) r (bit_or (slice_index regs s) v) room at refl refl refl

pub step_addiu : (m : Fixed) (regs low stack : List ℕ) (pc : ℕ) (out : List ℕ) (s r v : ℕ) → Room m low → IsAt m.text pc (Addiu s r v) → step (standing m regs low stack pc 0 out) ≡ standing m (with_reg regs r (word_sum (slice_index regs s) (sign_extended 16 v))) low stack (pc + 4) 0 out
step_addiu m regs low stack pc out s r v room at = step_writes m regs low stack pc 0 out (Addiu s r v) r (word_sum (slice_index regs s) (sign_extended 16 v)) room at refl refl refl

pub step_addu : (m : Fixed) (regs low stack : List ℕ) (pc : ℕ) (out : List ℕ) (s t r : ℕ) → Room m low → IsAt m.text pc (Addu s t r) → step (standing m regs low stack pc 0 out) ≡ standing m (with_reg regs r (word_sum (slice_index regs s) (slice_index regs t))) low stack (pc + 4) 0 out
step_addu m regs low stack pc out s t r room at = step_writes m regs low stack pc 0 out (Addu s t r) r (word_sum (slice_index regs s) (slice_index regs t)) room at refl refl refl

-- the instruction that does nothing, while a register that isn't 0 is on its way
pub step_nothing : (m : Fixed) (regs low stack : List ℕ) (pc loaded : ℕ) (out : List ℕ) → Room m low → IsAt m.text pc (Sll 0 0 0) → (0 == loaded) ≡ false → step (standing m regs low stack pc loaded out) ≡ standing m regs low stack (pc + 4) 0 out
step_nothing m regs low stack pc loaded out room at other =
    step_writes m regs low stack pc loaded out (Sll 0 0 0) 0 (shift_left (slice_index regs 0) 0) room at (rw (other, and_false (not (loaded == 0))) refl) refl refl

-- Loads and stores

load_is : (c : Core) (r a v : ℕ) → a % 4 ≡ 0 → 4 ≤ readable c a → read_word c a ≡ v → load_word c r a ≡ effects.Load r v
load_is c r a v aligned room read =
    let t : (a % 4 == 0) ≡ true = grind (arith, nat_tests) in
    let l : nat_le 4 (readable c a) ≡ true = grind (arith, nat_tests) in
    rw (t, l) (ap (effects.Load r) read)

store_is : (c : Core) (a v : ℕ) → a % 4 ≡ 0 → 4 ≤ writable c a → store_word c a v ≡ effects.StoreWord a v
store_is c a v aligned room =
    let t : (a % 4 == 0) ≡ true = grind (arith, nat_tests) in
    let l : nat_le 4 (writable c a) ≡ true = grind (arith, nat_tests) in
    rw (t, l) refl

readable_data : (last begin end a : ℕ) (b : Bool) (x : ℕ) → text_start ≤ last → last ≤ begin → begin ≤ a → a < end →
    (if nat_lt a text_start then 0 else if nat_lt a last then (if b then end - a else x) else if nat_lt a begin then 0 else
    if nat_lt a end then end - a else if nat_lt a stack_start then 0 else if nat_lt a stack_end then stack_end - a else 0) ≡ end - a
readable_data last begin end a b x f g h i =
    let one : nat_lt a text_start ≡ false = grind (arith, nat_tests) in
    let two : nat_lt a last ≡ false = grind (arith, nat_tests) in
    let three : nat_lt a begin ≡ false = grind (arith, nat_tests) in
    let four : nat_lt a end ≡ true = grind (arith, nat_tests) in
    rw (one, two, three, four) refl

-- data from an address on may be read and written up to their end
pub data_readable : (m : Fixed) (regs low stack : List ℕ) (pc loaded : ℕ) (out : List ℕ) (a : ℕ) → Room m low → m.begin ≤ a → a < text_start + length low → readable (standing m regs low stack pc loaded out).core a ≡ text_start + length low - a
data_readable m regs low stack pc loaded out a room from to =
    readable_data (text_start + length m.text) m.begin (text_start + length low) a (text_start + length m.text == m.begin) (text_start + length m.text - a) (omega arith) room.gap from to

writable_data : (begin end a : ℕ) → begin ≤ a → a < end →
    (if nat_lt a begin then 0 else
    if nat_lt a end then end - a else if nat_lt a stack_start then 0 else if nat_lt a stack_end then stack_end - a else 0) ≡ end - a
writable_data begin end a h i =
    let three : nat_lt a begin ≡ false = grind (arith, nat_tests) in
    let four : nat_lt a end ≡ true = grind (arith, nat_tests) in
    rw (three, four) refl

readable_stack : (last begin end a : ℕ) (x : ℕ) → last ≤ 2 ^ 26 → begin ≤ 2 ^ 26 → end ≤ 2 ^ 26 → stack_start ≤ a → a < stack_end →
    (if nat_lt a text_start then 0 else if nat_lt a last then x else if nat_lt a begin then 0 else
    if nat_lt a end then end - a else if nat_lt a stack_start then 0 else if nat_lt a stack_end then stack_end - a else 0) ≡ stack_end - a
readable_stack last begin end a x f g h i j =
    let one : nat_lt a text_start ≡ false = grind (arith, nat_tests) in
    let two : nat_lt a last ≡ false = grind (arith, nat_tests) in
    let three : nat_lt a begin ≡ false = grind (arith, nat_tests) in
    let four : nat_lt a end ≡ false = grind (arith, nat_tests) in
    let five : nat_lt a stack_start ≡ false = grind (arith, nat_tests) in
    let six : nat_lt a stack_end ≡ true = grind (arith, nat_tests) in
    rw (one, two, three, four, five, six) refl

pub stack_readable : (m : Fixed) (regs low stack : List ℕ) (pc loaded : ℕ) (out : List ℕ) (a : ℕ) → Room m low → stack_start ≤ a → a < stack_end → readable (standing m regs low stack pc loaded out).core a ≡ stack_end - a
stack_readable m regs low stack pc loaded out a room from to =
    readable_stack (text_start + length m.text) m.begin (text_start + length low) a (if text_start + length m.text == m.begin then text_start + length low - a else text_start + length m.text - a)
    (omega (arith, room.gap, room.data_within, room.small)) (omega (arith, room.data_within, room.small)) room.small from to

writable_stack : (begin end a : ℕ) → begin ≤ 2 ^ 26 → end ≤ 2 ^ 26 → stack_start ≤ a → a < stack_end →
    (if nat_lt a begin then 0 else
    if nat_lt a end then end - a else if nat_lt a stack_start then 0 else if nat_lt a stack_end then stack_end - a else 0) ≡ stack_end - a
writable_stack begin end a g h i j =
    let three : nat_lt a begin ≡ false = grind (arith, nat_tests) in
    let four : nat_lt a end ≡ false = grind (arith, nat_tests) in
    let five : nat_lt a stack_start ≡ false = grind (arith, nat_tests) in
    let six : nat_lt a stack_end ≡ true = grind (arith, nat_tests) in
    rw (three, four, five, six) refl

plain_address : (a : ℕ) → a < 2 ^ 32 → word_sum a (sign_extended 16 0) ≡ a
plain_address a h = omega arith

-- a word of data is loaded from the address in register s
pub step_lw : (m : Fixed) (regs low stack : List ℕ) (pc : ℕ) (out : List ℕ) (s r a v : ℕ) → Room m low → IsAt m.text pc (Lw s r 0) → slice_index regs s ≡ a → a % 4 ≡ 0 → m.begin ≤ a → a + 4 ≤ text_start + length low → word_at low (a - text_start) ≡ v → step (standing m regs low stack pc 0 out) ≡ standing m (with_reg regs r v) low stack (pc + 4) r out
step_lw m regs low stack pc out s r a v room at holds aligned from to read =
    let c : Core = (standing m regs low stack pc 0 out).core in
    let small : a < 2 ^ 26 = omega (arith, to, room.small) in
    let place : word_sum (slice_index regs s) (sign_extended 16 0) ≡ a = ap (λ x. word_sum x (sign_extended 16 0)) holds ∙ plain_address a (omega (arith, small)) in
    let reach : readable c a ≡ text_start + length low - a = data_readable m regs low stack pc 0 out a room from (omega (arith, to)) in
    let word : read_word c a ≡ v = low_read c true a (below_stack a (omega (arith, small))) refl ∙ read in
    step_of m regs low stack pc 0 out (Lw s r 0) (effects.Load r v) room at refl refl
    (ap (λ x. load_word c r x) place ∙ load_is c r a v aligned (omega (arith, reach, to)) word)
    ∙ ap (λ n. placed m (with_reg regs r v) low stack (pc + 4) n r out) (next_at m.text pc (Lw s r 0) at)

-- a register's word is stored in data at the address in register s
pub step_sw : (m : Fixed) (regs low stack : List ℕ) (pc : ℕ) (out : List ℕ) (s r a v : ℕ) → Room m low → IsAt m.text pc (Sw s r 0) → slice_index regs s ≡ a → slice_index regs r ≡ v → a % 4 ≡ 0 → m.begin ≤ a → a + 4 ≤ text_start + length low → step (standing m regs low stack pc 0 out) ≡ standing m regs (with_word_in Big low (a - text_start) v) stack (pc + 4) 0 out
step_sw m regs low stack pc out s r a v room at holds value aligned from to =
    let c : Core = (standing m regs low stack pc 0 out).core in
    let small : a < 2 ^ 26 = omega (arith, to, room.small) in
    let place : word_sum (slice_index regs s) (sign_extended 16 0) ≡ a = ap (λ x. word_sum x (sign_extended 16 0)) holds ∙ plain_address a (omega (arith, small)) in
    let reach : writable c a ≡ text_start + length low - a = writable_data m.begin (text_start + length low) a from (omega (arith, to)) in
    step_of m regs low stack pc 0 out (Sw s r 0) (effects.StoreWord a v) room at refl refl
    (ap (λ x. store_word c x (slice_index regs r)) place ∙ (ap (λ x. store_word c a x) value ∙ store_is c a v aligned (omega (arith, reach, to))))
    ∙ (ap (λ b. stored b c a v) (below_stack a (omega (arith, small)))
    ∙ ap (λ n. placed m regs (with_word_in Big low (a - text_start) v) stack (pc + 4) n 0 out) (next_at m.text pc (Sw s r 0) at))
  where
    stored : Bool → Core → (a v : ℕ) → State
    stored b c a v = record {
      core = advanced (if b then record c { low = with_word_in c.order c.low (a - text_start) v } else record c { stack = with_word_in c.order c.stack (a - stack_start) v }) false;
      left = m.input;
      out = out;
    }

-- a register's word is stored in the stack, at an address above the one in register s
pub step_sw_stack : (m : Fixed) (regs low stack : List ℕ) (pc : ℕ) (out : List ℕ) (s r k a v : ℕ) → Room m low → IsAt m.text pc (Sw s r k) → word_sum (slice_index regs s) (sign_extended 16 k) ≡ a → slice_index regs r ≡ v → a % 4 ≡ 0 → stack_start ≤ a → a + 4 ≤ stack_end → step (standing m regs low stack pc 0 out) ≡ standing m regs low (with_word_in Big stack (a - stack_start) v) (pc + 4) 0 out
step_sw_stack m regs low stack pc out s r k a v room at place value aligned from to =
    let c : Core = (standing m regs low stack pc 0 out).core in
    let reach : writable c a ≡ stack_end - a = writable_stack m.begin (text_start + length low) a (omega (arith, room.data_within, room.small)) room.small from (omega (arith, to)) in
    step_of m regs low stack pc 0 out (Sw s r k) (effects.StoreWord a v) room at refl refl
    (ap (λ x. store_word c x (slice_index regs r)) place ∙ (ap (λ x. store_word c a x) value ∙ store_is c a v aligned (omega (arith, reach, to))))
    ∙ (ap (λ b. stored b c a v) (not_below a from)
    ∙ ap (λ n. placed m regs low (with_word_in Big stack (a - stack_start) v) (pc + 4) n 0 out) (next_at m.text pc (Sw s r k) at))
  where
    not_below : (a : ℕ) → stack_start ≤ a → nat_lt a stack_start ≡ false
    not_below a h = grind (arith, nat_tests)

    stored : Bool → Core → (a v : ℕ) → State
    stored b c a v = record {
      core = advanced (if b then record c { low = with_word_in c.order c.low (a - text_start) v } else record c { stack = with_word_in c.order c.stack (a - stack_start) v }) false;
      left = m.input;
      out = out;
    }

-- System calls

pub step_call : (m : Fixed) (regs low stack : List ℕ) (pc : ℕ) (out : List ℕ) (asks : Asked) → Room m low → IsAt m.text pc (Syscall 0) → asked (standing m regs low stack pc 0 out).core ≡ asks → step (standing m regs low stack pc 0 out) ≡ called asks (standing m regs low stack pc 0 out)
step_call m regs low stack pc out asks room at is =
    step_of m regs low stack pc 0 out (Syscall 0) effects.Call room at refl refl refl
    ∙ ap (λ a. called a (standing m regs low stack pc 0 out)) is

-- a call that writes so many bytes from an address on
pub step_write : (m : Fixed) (regs low stack : List ℕ) (pc : ℕ) (out : List ℕ) (a n : ℕ) → Room m low → IsAt m.text pc (Syscall 0) → asked (standing m regs low stack pc 0 out).core ≡ asks.Write a n → step (standing m regs low stack pc 0 out) ≡ standing m (with_reg regs 1 n) low stack (pc + 4) 0 (out ++ bytes_from (standing m regs low stack pc 0 out).core a n)
step_write m regs low stack pc out a n room at is =
    step_call m regs low stack pc out (asks.Write a n) room at is
    ∙ ap (λ k. placed m (with_reg regs 1 n) low stack (pc + 4) k 0 (out ++ bytes_from (standing m regs low stack pc 0 out).core a n)) (next_at m.text pc (Syscall 0) at)

-- a call that is refused
pub step_refused : (m : Fixed) (regs low stack : List ℕ) (pc : ℕ) (out : List ℕ) → Room m low → IsAt m.text pc (Syscall 0) → asked (standing m regs low stack pc 0 out).core ≡ asks.Refused → step (standing m regs low stack pc 0 out) ≡ standing m (with_reg regs 1 (2 ^ 32 - 1)) low stack (pc + 4) 0 out
step_refused m regs low stack pc out room at is =
    step_call m regs low stack pc out asks.Refused room at is
    ∙ ap (λ k. placed m (with_reg regs 1 (2 ^ 32 - 1)) low stack (pc + 4) k 0 out) (next_at m.text pc (Syscall 0) at)
