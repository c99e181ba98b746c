-- What a core holds at any time: words in registers, and bytes in memory; and how its memory lies.
use Rattle.std.specs.Prelude.{ℕ, ◌-◌, ◌^◌, ◌≡◌, ◌≤◌, ◌<◌, List, length, take, All}
use Rattle.p9_base.specs.Words.{IsWord}
use Rattle.p9_base.specs.Core.{Core, text_start, stack_start, stack_end, low_end, reg}

abbrev pub AreWords : List ℕ → Type 0
AreWords xs = All IsWord xs

abbrev pub AreBytes : List ℕ → Type 0
AreBytes xs = All (λ b. b < 2 ^ 8) xs

-- registers hold words, register 0 holds 0, and memory holds bytes
pub record HoldsWords (c : Core) : Type 0 where
  pub count : length c.regs ≡ 32
  pub zero_register : reg c 0 ≡ 0
  pub registers : AreWords c.regs
  pub high : IsWord c.hi
  pub less : IsWord c.lo
  pub low_bytes : AreBytes c.low
  pub stack_bytes : AreBytes c.stack

-- text, data and stack lie one behind the other
pub record LaidOut (c : Core) : Type 0 where
  pub text : text_start ≤ c.text_end
  pub gap : c.text_end ≤ c.data_start
  pub data_and_bss : c.data_start ≤ low_end c
  pub above : low_end c ≤ stack_start
  pub stack_size : length c.stack ≡ stack_end - stack_start

-- the byte order, the addresses and the sizes are the same, and so is every byte below the data
pub record KeepsText (c d : Core) : Type 0 where
  pub order : d.order ≡ c.order
  pub text_end : d.text_end ≡ c.text_end
  pub data_start : d.data_start ≡ c.data_start
  pub low_size : length d.low ≡ length c.low
  pub stack_size : length d.stack ≡ length c.stack
  pub below_data : take (c.data_start - text_start) d.low ≡ take (c.data_start - text_start) c.low
