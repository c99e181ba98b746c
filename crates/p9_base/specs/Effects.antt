-- What an instruction does to a core, apart from when it happens, and how a machine with branch slots and load
-- delays takes it over. No instruction's name stands here: each machine has a table of its own.
use Rattle.std.specs.Prelude.{ℕ, ◌+◌, ◌*◌, ◌/◌, ◌%◌, ◌^◌, ◌==◌, nat_le, Bool, true, false, if◌then◌else◌}
use Rattle.p9_base.specs.Words.{word_sum, word_difference, signs_differ, low8, low16}
use Rattle.p9_base.specs.Numbers.{sign_extended}
use Rattle.p9_base.specs.declared.halt.HaltCause.{HaltCause}
use Rattle.p9_base.specs.declared.halt.HaltCause.TheVariants as halts
use Rattle.p9_base.specs.declared.halt.Ending.TheVariants.{Halted}
use Rattle.p9_base.specs.declared.halt.Effect.{Effect}
use Rattle.p9_base.specs.declared.halt.Effect.TheVariants.{Write, Pair, Load, StoreByte, StoreHalf, StoreWord, Branch, JumpTo, Call, Stop}
use Rattle.p9_base.specs.Core.{Core, reg, with_reg, readable, writable, read_byte, read_half, read_word, with_byte, with_half, with_word}

-- Values

-- 1 or 0
abbrev pub truth : Bool → ℕ
truth b = if b then 1 else 0

abbrev pub low5 : ℕ → ℕ
low5 a = a % 2 ^ 5

-- the signed sum doesn't fit: two words of one sign whose sum has the other
abbrev pub sum_overflows : ℕ → ℕ → Bool
sum_overflows a b = if signs_differ a b then false else signs_differ a (word_sum a b)

-- the signed difference doesn't fit: two words of two signs, and the difference has the second's
abbrev pub difference_overflows : ℕ → ℕ → Bool
difference_overflows a b = if signs_differ a b then signs_differ a (word_difference a b) else false

abbrev pub unless_overflow : Bool → ℕ → ℕ → Effect
unless_overflow overflows r v = if overflows then Stop halts.Overflow else Write r v

-- HI and LO from 64 bits
abbrev pub wide_pair : ℕ → Effect
wide_pair p = Pair (p / 2 ^ 32) (p % 2 ^ 32)

-- a division's remainder to HI and quotient to LO
abbrev pub unless_zero : ℕ → ℕ → ℕ → Effect
unless_zero divisor rest quotient = if divisor == 0 then Stop halts.Divide else Pair rest quotient

-- Loads and stores

-- the address
abbrev pub address : Core → ℕ → ℕ → ℕ
address c rs imm = word_sum (reg c rs) (sign_extended 16 imm)

-- an address that isn't a multiple of the size stops first

abbrev pub load_byte : Core → ℕ → ℕ → (ℕ → ℕ) → Effect
load_byte c r a extended =
    if nat_le 1 (readable c a) then Load r (extended (read_byte c a)) else Stop (halts.BadAddress a)

abbrev pub load_half : Core → ℕ → ℕ → (ℕ → ℕ) → Effect
load_half c r a extended =
    if a % 2 == 0 then (if nat_le 2 (readable c a) then Load r (extended (read_half c a)) else Stop (halts.BadAddress a))
    else Stop (halts.Misaligned a)

abbrev pub load_word : Core → ℕ → ℕ → Effect
load_word c r a =
    if a % 4 == 0 then (if nat_le 4 (readable c a) then Load r (read_word c a) else Stop (halts.BadAddress a))
    else Stop (halts.Misaligned a)

abbrev pub store_byte : Core → ℕ → ℕ → Effect
store_byte c a v = if nat_le 1 (writable c a) then StoreByte a (low8 v) else Stop (halts.BadAddress a)

abbrev pub store_half : Core → ℕ → ℕ → Effect
store_half c a v =
    if a % 2 == 0 then (if nat_le 2 (writable c a) then StoreHalf a (low16 v) else Stop (halts.BadAddress a))
    else Stop (halts.Misaligned a)

abbrev pub store_word : Core → ℕ → ℕ → Effect
store_word c a v =
    if a % 4 == 0 then (if nat_le 4 (writable c a) then StoreWord a v else Stop (halts.BadAddress a))
    else Stop (halts.Misaligned a)

-- Effects, taken over

-- on to the next instruction, after one that does or doesn't read HI or LO
abbrev pub advanced : Core → Bool → Core
advanced c reader =
    record c { pc = c.next; next = word_sum c.next 4; slot = false; loaded = 0; used = reader; used_before = c.used }

abbrev pub halted : Core → HaltCause → Core
halted c cause = record c { ending = Halted cause c.pc }

-- register r holds the address of the instruction after the slot
abbrev pub linked : Core → ℕ → Core
linked c r = record c { regs = with_reg c.regs r (word_sum c.pc 8) }

-- on to the slot, and then to an address
abbrev pub sent : Core → ℕ → Core
sent c to = record (advanced c false) { next = to; slot = true }

-- an effect, but for what a system call asks
abbrev pub applied : Effect → Core → Bool → Core
applied (Write r v) c reader = advanced (record c { regs = with_reg c.regs r v }) reader
applied (Pair h l) c reader = advanced (record c { hi = h; lo = l }) reader
applied (Load r v) c reader = record (advanced (record c { regs = with_reg c.regs r v }) reader) { loaded = r }
applied (StoreByte a v) c reader = advanced (with_byte c a v) reader
applied (StoreHalf a v) c reader = advanced (with_half c a v) reader
applied (StoreWord a v) c reader = advanced (with_word c a v) reader
applied (Branch r taken to) c reader = sent (linked c r) (if taken then to else word_sum c.pc 8)
applied (JumpTo r to) c reader = sent (linked c r) to
applied Call c reader = advanced c reader
applied (Stop cause) c reader = halted c cause
