-- A machine's registers and memory.
use Rattle.std.specs.Prelude.{ℕ, ◌+◌, ◌-◌, ◌*◌, ◌/◌, ◌%◌, ◌^◌, ◌==◌, nat_lt, Bool, if◌then◌else◌, List, ◌++◌, length, slice_index, slice_set, take, drop}
use Rattle.p9_base.specs.Numbers.{word_at}
use Rattle.p9_base.specs.declared.halt.Ending.{Ending}
use Rattle.p9_base.specs.declared.order.ByteOrder.{ByteOrder}
use Rattle.p9_base.specs.declared.order.ByteOrder.TheVariants.{Big, Little}

-- The map of memory: the text after its header, and the stack

abbrev pub text_start : ℕ
text_start = 0x1020

abbrev pub stack_start : ℕ
stack_start = 0x7EFF_F000

abbrev pub stack_end : ℕ
stack_end = 0x7FFF_F000

pub record Core : Type 0 where
  -- of half words and words in memory; no step changes it
  pub order : ByteOrder
  pub regs : List ℕ
  pub hi : ℕ
  pub lo : ℕ
  -- the bytes from the text's start on: text, a gap, data and bss
  pub low : List ℕ
  pub stack : List ℕ
  pub text_end : ℕ
  pub data_start : ℕ
  -- the address of the instruction, and of the one after it
  pub pc : ℕ
  pub next : ℕ
  -- the instruction before was a branch or jump
  pub slot : Bool
  -- the register that the instruction before loaded, or 0
  pub loaded : ℕ
  -- whether the instruction before, and the one before that, read HI or LO
  pub used : Bool
  pub used_before : Bool
  pub ending : Ending

-- Registers; register 0 is always 0

abbrev pub reg : Core → ℕ → ℕ
reg c r = slice_index c.regs r

abbrev pub with_reg : List ℕ → ℕ → ℕ → List ℕ
with_reg regs r v = if r == 0 then regs else slice_set regs r v

-- What may be accessed

-- the end of data and bss
abbrev pub low_end : Core → ℕ
low_end c = text_start + length c.low

-- how many bytes from a on may be read
abbrev pub readable : Core → ℕ → ℕ
readable c a =
    if nat_lt a text_start then 0 else
    if nat_lt a c.text_end then (if c.text_end == c.data_start then low_end c - a else c.text_end - a) else
    if nat_lt a c.data_start then 0 else
    if nat_lt a (low_end c) then low_end c - a else
    if nat_lt a stack_start then 0 else
    if nat_lt a stack_end then stack_end - a else 0

-- how many bytes from a on may be written
abbrev pub writable : Core → ℕ → ℕ
writable c a =
    if nat_lt a c.data_start then 0 else
    if nat_lt a (low_end c) then low_end c - a else
    if nat_lt a stack_start then 0 else
    if nat_lt a stack_end then stack_end - a else 0

-- Half words and words in a list of bytes, by the byte order

abbrev pub half_in : ByteOrder → List ℕ → ℕ → ℕ
half_in Big bytes i = slice_index bytes i * 2 ^ 8 + slice_index bytes (i + 1)
half_in Little bytes i = slice_index bytes (i + 1) * 2 ^ 8 + slice_index bytes i

abbrev pub word_in : ByteOrder → List ℕ → ℕ → ℕ
word_in Big bytes i = word_at bytes i
word_in Little bytes i =
    slice_index bytes (i + 3) * 2 ^ 24 + slice_index bytes (i + 2) * 2 ^ 16 + slice_index bytes (i + 1) * 2 ^ 8 + slice_index bytes i

-- two and four bytes from i on

abbrev pub with_two : List ℕ → ℕ → (first second : ℕ) → List ℕ
with_two bytes i first second = slice_set (slice_set bytes i first) (i + 1) second

abbrev pub with_four : List ℕ → ℕ → (first second third fourth : ℕ) → List ℕ
with_four bytes i first second third fourth =
    slice_set (slice_set (slice_set (slice_set bytes i first) (i + 1) second) (i + 2) third) (i + 3) fourth

abbrev pub with_half_in : ByteOrder → List ℕ → ℕ → ℕ → List ℕ
with_half_in Big bytes i h = with_two bytes i (h / 2 ^ 8 % 2 ^ 8) (h % 2 ^ 8)
with_half_in Little bytes i h = with_two bytes i (h % 2 ^ 8) (h / 2 ^ 8 % 2 ^ 8)

abbrev pub with_word_in : ByteOrder → List ℕ → ℕ → ℕ → List ℕ
with_word_in Big bytes i w = with_four bytes i (w / 2 ^ 24 % 2 ^ 8) (w / 2 ^ 16 % 2 ^ 8) (w / 2 ^ 8 % 2 ^ 8) (w % 2 ^ 8)
with_word_in Little bytes i w = with_four bytes i (w % 2 ^ 8) (w / 2 ^ 8 % 2 ^ 8) (w / 2 ^ 16 % 2 ^ 8) (w / 2 ^ 24 % 2 ^ 8)

-- Memory by address

abbrev pub read_byte : Core → ℕ → ℕ
read_byte c a = if nat_lt a stack_start then slice_index c.low (a - text_start) else slice_index c.stack (a - stack_start)

abbrev pub read_half : Core → ℕ → ℕ
read_half c a = if nat_lt a stack_start then half_in c.order c.low (a - text_start) else half_in c.order c.stack (a - stack_start)

abbrev pub read_word : Core → ℕ → ℕ
read_word c a = if nat_lt a stack_start then word_in c.order c.low (a - text_start) else word_in c.order c.stack (a - stack_start)

abbrev pub with_byte : Core → ℕ → ℕ → Core
with_byte c a v =
    if nat_lt a stack_start then record c { low = slice_set c.low (a - text_start) v }
    else record c { stack = slice_set c.stack (a - stack_start) v }

abbrev pub with_half : Core → ℕ → ℕ → Core
with_half c a h =
    if nat_lt a stack_start then record c { low = with_half_in c.order c.low (a - text_start) h }
    else record c { stack = with_half_in c.order c.stack (a - stack_start) h }

abbrev pub with_word : Core → ℕ → ℕ → Core
with_word c a w =
    if nat_lt a stack_start then record c { low = with_word_in c.order c.low (a - text_start) w }
    else record c { stack = with_word_in c.order c.stack (a - stack_start) w }

-- the n bytes from a on
abbrev pub bytes_from : Core → ℕ → ℕ → List ℕ
bytes_from c a n =
    if nat_lt a stack_start then take n (drop (a - text_start) c.low) else take n (drop (a - stack_start) c.stack)

-- a list of bytes with xs in place of those from i on
abbrev pub over : List ℕ → ℕ → List ℕ → List ℕ
over bytes i xs = take i bytes ++ xs ++ drop (i + length xs) bytes

abbrev pub with_bytes : Core → ℕ → List ℕ → Core
with_bytes c a xs =
    if nat_lt a stack_start then record c { low = over c.low (a - text_start) xs }
    else record c { stack = over c.stack (a - stack_start) xs }
