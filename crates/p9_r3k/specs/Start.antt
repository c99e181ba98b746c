-- The machine's start.
use Rattle.std.specs.Prelude.{ℕ, ◌+◌, ◌-◌, ◌*◌, ◌/◌, ◌^◌, false, List, [], ◌++◌, length, replicate, slice_set}
use Rattle.p9_base.specs.Words.{word_sum}
use Rattle.p9_base.specs.declared.halt.Ending.TheVariants.{Running}
use Rattle.p9_base.specs.declared.order.ByteOrder.{ByteOrder}
use Rattle.p9_base.specs.declared.order.ByteOrder.TheVariants.{Big}
use Rattle.p9_r3k.specs.Memory.{Core, text_start, stack_end}
use Rattle.p9_r3k.specs.Machine.{State}

-- n zero bytes
unfoldable pub zeros : ℕ → List ℕ
zeros n = replicate n 0

-- the first multiple of 4096 that isn't below
abbrev pub page_from : ℕ → ℕ
page_from a = (a + 4095) / 4096 * 4096

-- registers but 29, HI and LO are 0
abbrev pub before_run : (low stack : List ℕ) → (text_end data_start entry : ℕ) → Core
before_run low stack text_end data_start entry = record {
  order = Big;
  regs = slice_set (replicate 32 0) 29 stack_end;
  hi = 0;
  lo = 0;
  low = low;
  stack = stack;
  text_end = text_end;
  data_start = data_start;
  pc = entry;
  next = word_sum entry 4;
  slot = false;
  loaded = 0;
  used = false;
  used_before = false;
  ending = Running;
}

-- the bytes from the text's start on
abbrev pub low_bytes : (text init : List ℕ) → (bss : ℕ) → List ℕ
low_bytes text init bss =
    let text_end = text_start + length text in
    text ++ zeros (page_from text_end - text_end) ++ init ++ zeros bss

-- the machine before its first instruction, and its input, big-endian
abbrev pub start : (text init : List ℕ) → (bss entry : ℕ) → (input : List ℕ) → State
start text init bss entry input =
    let text_end = text_start + length text in
    let core = before_run (low_bytes text init bss) (zeros (2 ^ 24)) text_end (page_from text_end) entry in
    record { core = core; left = input; out = [] }

-- the same with another byte order
abbrev pub in_order : ByteOrder → State → State
in_order order s = record s { core = record s.core { order = order } }
