-- What an instruction does rests on what it reads alone, and changes what it writes alone.
use Rattle.std.specs.Prelude.{ℕ, ◌≡◌, ◌≤◌, ◌⊎◌, true, false, length}
use Rattle.p9_base.specs.declared.halt.Effect.{Effect}
use Rattle.p9_base.specs.declared.halt.Effect.TheVariants.{Write, Pair, Load, StoreByte, StoreHalf, StoreWord, Branch, JumpTo, Call, Stop}
use Rattle.p9_base.specs.declared.halt.Asked.{Asked}
use Rattle.p9_base.specs.declared.halt.Asked.TheVariants as asks
use Rattle.p9_base.specs.Core.{Core, text_start, reg}
use Rattle.p9_base.specs.SystemCalls.{asked}
use Rattle.p9_r3k.specs.declared.inst.Inst.{Inst}
use Rattle.p9_r3k.specs.declared.lines.Line.{Line}
use Rattle.p9_r3k.specs.Effects.{effect_of, reads, reads_pair, writes_pair, branches}
use Rattle.p9_r3k.specs.Straight.{Addresses, filled}
use Rattle.p9_r3k.specs.Uses.{written, loads, stores, links, is_system_call, names_place, delays, needs_hi, needs_lo}

-- Effects by what an instruction is

-- an instruction may have an effect
abbrev pub MayDo : Inst → Effect → Type 0
MayDo i (Write r v) = (written i ≡ r) × (delays i ≡ false) × (writes_pair i ≡ false)
MayDo i (Pair h l) = (writes_pair i ≡ true) × (delays i ≡ false) × (reads_pair i ≡ false)
MayDo i (Load r v) = (written i ≡ r) × (loads i ≡ true) × (reads_pair i ≡ false)
MayDo i (StoreByte a v) = (stores i ≡ true) × (delays i ≡ false)
MayDo i (StoreHalf a v) = (stores i ≡ true) × (delays i ≡ false)
MayDo i (StoreWord a v) = (stores i ≡ true) × (delays i ≡ false)
MayDo i (Branch r taken to) =
    (written i ≡ r) × (branches i ≡ true) × (reads_pair i ≡ false) × ((links i ≡ true) ⊎ (r ≡ 0)) × (names_place i ≡ true)
MayDo i (JumpTo r to) =
    (written i ≡ r) × (branches i ≡ true) × (reads_pair i ≡ false) × ((links i ≡ true) ⊎ (r ≡ 0)) × (names_place i ≡ false)
MayDo i Call = (is_system_call i ≡ true) × (delays i ≡ false)
MayDo i (Stop cause) = Unit {0}

abbrev pub DoesWhatItMay : Type 0
DoesWhatItMay = (i : Inst) (c : Core) → MayDo i (effect_of i c)

-- What an effect rests on

-- two cores with the same memory
pub record SameMemory (c d : Core) : Type 0 where
  pub order : d.order ≡ c.order
  pub low : d.low ≡ c.low
  pub stack : d.stack ≡ c.stack
  pub text_end : d.text_end ≡ c.text_end
  pub data_start : d.data_start ≡ c.data_start

-- two cores that agree in all that an instruction reads: its registers, the half of HI and LO that it needs, its own
-- address where it is a branch or jump, memory where it is a load, and where memory may be written where it is a store
pub record Agree (i : Inst) (c d : Core) : Type 0 where
  pub registers : (r : ℕ) → reads i r ≡ true → reg d r ≡ reg c r
  pub hi : needs_hi i ≡ true → d.hi ≡ c.hi
  pub lo : needs_lo i ≡ true → d.lo ≡ c.lo
  pub place : branches i ≡ true → d.pc ≡ c.pc
  pub memory : loads i ≡ true → SameMemory c d
  pub data_start : stores i ≡ true → d.data_start ≡ c.data_start
  pub size : stores i ≡ true → length d.low ≡ length c.low

abbrev pub RestsOnWhatItReads : Type 0
RestsOnWhatItReads = (i : Inst) (c d : Core) → Agree i c d → effect_of i d ≡ effect_of i c

-- a system call asks by registers 1 and 29 and by memory
abbrev pub AsksByWhatItReads : Type 0
AsksByWhatItReads =
    (c d : Core) → reg d 1 ≡ reg c 1 → reg d 29 ≡ reg c 29 → SameMemory c d → asked d ≡ asked c

-- Where no byte of the text is touched

abbrev pub with_text_end : ℕ → Core → Core
with_text_end e c = record c { text_end = e }

-- no byte of the text may be read or written
abbrev pub without_text : Core → Core
without_text c = with_text_end text_start c

abbrev pub NoStop : Effect → Type 0
NoStop (Stop cause) = ⊥
NoStop _ = Unit {0}

abbrev pub NoStopAsked : Asked → Type 0
NoStopAsked (asks.Stop cause) = ⊥
NoStopAsked _ = Unit {0}

-- what is no stop without a text is the same with one
abbrev pub SameWithText : Type 0
SameWithText =
    (i : Inst) (c : Core) (e : ℕ) → e ≤ c.data_start →
    NoStop (effect_of i (without_text c)) → effect_of i (with_text_end e c) ≡ effect_of i (without_text c)

abbrev pub AsksSameWithText : Type 0
AsksSameWithText =
    (c : Core) (e : ℕ) → e ≤ c.data_start →
    NoStopAsked (asked (without_text c)) → asked (with_text_end e c) ≡ asked (without_text c)

-- What is filled in changes no use

-- two instructions that read and write the same
pub record SameUses (i j : Inst) : Type 0 where
  pub registers : (r : ℕ) → reads j r ≡ reads i r
  pub result : written j ≡ written i
  pub pair_reader : reads_pair j ≡ reads_pair i
  pub pair_writer : writes_pair j ≡ writes_pair i
  pub branch : branches j ≡ branches i
  pub load : loads j ≡ loads i
  pub store : stores j ≡ stores i
  pub link : links j ≡ links i
  pub place : names_place j ≡ names_place i
  pub system_call : is_system_call j ≡ is_system_call i

abbrev pub FilledUsesTheSame : Type 0
FilledUsesTheSame = (a : Addresses) (line : Line) → SameUses line.inst (filled a line)
