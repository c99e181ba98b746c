-- What every machine keeps, and what may be done to it.
use Rattle.std.specs.Prelude.{◌≡◌, ◌<◌, ◌≤◌, ℕ, false, ◌+◌, ◌^◌, ◌⊎◌, length, Result, Ok, Err}
use Rattle.p9_base.specs.declared.halt.HaltCause.{HaltCause}
use Rattle.p9_base.specs.declared.halt.Ending.{Ending}
use Rattle.p9_base.specs.declared.halt.Ending.TheVariants.{Running, Exited, Halted}
use Rattle.p9_base.specs.declared.halt.Effect.{Effect}
use Rattle.p9_base.specs.declared.halt.Effect.TheVariants.{Write, Pair, Load, StoreByte, StoreHalf, StoreWord, Branch, JumpTo, Call, Stop}
use Rattle.p9_base.specs.declared.halt.Asked.{Asked}
use Rattle.p9_base.specs.declared.halt.Asked.TheVariants as asks
use Rattle.p9_r3k.specs.Memory.{Core, text_start, stack_start, stack_end, readable, writable}

-- an exit's text lies in memory, whose low part has so many bytes
abbrev pub ExitFits : Ending → (low : ℕ) → Type 0
ExitFits Running low = Unit {0}
ExitFits (Exited at length) low =
    (at < stack_start → (length ≡ 0) ⊎ ((text_start ≤ at) × (at + length ≤ text_start + low)))
    × (stack_start ≤ at → at + length ≤ stack_end)
ExitFits (Halted cause pc) low = Unit {0}

-- no hazard can come at the next instruction
abbrev pub IsClear : Core → Type 0
IsClear core = (core.loaded ≡ 0) × (core.slot ≡ false) × (core.used ≡ false) × (core.used_before ≡ false)

-- an effect that may be applied
abbrev pub CanApply : Effect → Core → Type 0
CanApply (Write register value) core = register < 32
CanApply (Pair hi lo) core = Unit {0}
CanApply (Load register value) core = register < 32
CanApply (StoreByte at value) core = (1 ≤ writable core at) × (value < 2 ^ 8)
CanApply (StoreHalf at value) core = 2 ≤ writable core at
CanApply (StoreWord at value) core = 4 ≤ writable core at
CanApply (Branch link taken to) core = link < 32
CanApply (JumpTo link to) core = link < 32
CanApply Call core = Unit {0}
CanApply (Stop cause) core = Unit {0}

-- what a system call may ask for
abbrev pub CanAsk : Asked → Core → Type 0
CanAsk (asks.Exits at length') core = ExitFits (Exited at length') (length core.low)
CanAsk (asks.Read at count) core = count ≤ writable core at
CanAsk (asks.Write at count) core = count ≤ readable core at
CanAsk asks.Refused core = Unit {0}
CanAsk (asks.Stop cause) core = Unit {0}

-- what follows three words, or the stop that came in their place
abbrev pub with_words : Result (ℕ × ℕ × ℕ) HaltCause → (ℕ → ℕ → ℕ → Asked) → Asked
with_words (Ok words) go = go words.0 words.1 words.2
with_words (Err cause) go = asks.Stop cause
