-- System calls, and the state of a run: a core with the input that is left and the output so far.
use Rattle.std.specs.Prelude.{ℕ, ◌+◌, ◌-◌, ◌%◌, ◌^◌, ◌==◌, ◌||◌, nat_le, Bool, true, false, not, Option, Some, None, Result, Ok, Err, if◌then◌else◌, List, [], ◌++◌, length, take, drop, min, position}
use Rattle.p9_base.specs.Words.{word_sum, is_negative}
use Rattle.p9_base.specs.declared.halt.HaltCause.{HaltCause}
use Rattle.p9_base.specs.declared.halt.HaltCause.TheVariants.{Misaligned, BadAddress, BadCall}
use Rattle.p9_base.specs.declared.halt.Ending.{Ending}
use Rattle.p9_base.specs.declared.halt.Ending.TheVariants.{Running, Exited, Halted}
use Rattle.p9_base.specs.declared.halt.Effect.TheVariants.{Write}
use Rattle.p9_base.specs.declared.halt.Asked.{Asked}
use Rattle.p9_base.specs.declared.halt.Asked.TheVariants as asks
use Rattle.p9_base.specs.Core.{Core, reg, readable, writable, read_word, bytes_from, with_bytes}
use Rattle.p9_base.specs.Effects.{advanced, halted, applied}

-- What a call asks

-- an argument's word, or the stop; an address that isn't a multiple of 4 stops first
abbrev pub argument : Core → ℕ → Result ℕ HaltCause
argument c a =
    if a % 4 == 0 then (if nat_le 4 (readable c a) then Ok (read_word c a) else Err (BadAddress (a + readable c a)))
    else Err (Misaligned a)

abbrev pub then_one : Result ℕ HaltCause → (ℕ → Asked) → Asked
then_one (Ok v) go = go v
then_one (Err cause) go = asks.Stop cause

-- the words at 4(R29), 8(R29) and 12(R29), the first of which that is no word deciding
abbrev pub then_three : Core → (ℕ → ℕ → ℕ → Asked) → Asked
then_three c go =
    then_one (argument c (word_sum (reg c 29) 4)) (λ d.
    then_one (argument c (word_sum (reg c 29) 8)) (λ a.
    then_one (argument c (word_sum (reg c 29) 12)) (λ n. go d a n)))

-- a text goes up to its first zero byte
abbrev pub exits_of : ℕ → ℕ → Option ℕ → Asked
exits_of a reach None = asks.Stop (BadAddress (a + reach))
exits_of a reach (Some k) = asks.Exits a k

abbrev pub asked_exits : Core → ℕ → Asked
asked_exits c a =
    if a == 0 then asks.Exits 0 0 else
    exits_of a (readable c a) (position (λ b. b == 0) (bytes_from c a (readable c a)))

abbrev pub asked_read : Core → ℕ → ℕ → ℕ → Asked
asked_read c d a n =
    if not (d == 0) || is_negative n then asks.Refused else
    if nat_le n (writable c a) then asks.Read a n else asks.Stop (BadAddress (a + writable c a))

abbrev pub asked_write : Core → ℕ → ℕ → ℕ → Asked
asked_write c d a n =
    if not (d == 1) || is_negative n then asks.Refused else
    if nat_le n (readable c a) then asks.Write a n else asks.Stop (BadAddress (a + readable c a))

-- what a system call asks, by the number in register 1
abbrev pub asked : Core → Asked
asked c =
    if reg c 1 == 8 then then_one (argument c (word_sum (reg c 29) 4)) (asked_exits c) else
    if reg c 1 == 15 then then_three c (asked_read c) else
    if reg c 1 == 20 then then_three c (asked_write c) else asks.Stop (BadCall (reg c 1))

-- The machine with the input that is left and the output so far

pub record State : Type 0 where
  pub core : Core
  pub left : List ℕ
  pub out : List ℕ

unfoldable pub state : Core → List ℕ → List ℕ → State
state c l s = record { core = c; left = l; out = s }

-- a system call's answer goes to register 1
abbrev pub answered : Core → ℕ → Core
answered c v = applied (Write 1 v) c false

abbrev pub called : Asked → State → State
called (asks.Exits at len) s = record s { core = record (advanced s.core false) { ending = Exited at len } }
called (asks.Read at n) s =
    let k = min n (length s.left) in
    record s { core = answered (with_bytes s.core at (take k s.left)) k; left = drop k s.left }
called (asks.Write at n) s = record s { core = answered s.core n; out = s.out ++ bytes_from s.core at n }
called asks.Refused s = record s { core = answered s.core (2 ^ 32 - 1) }
called (asks.Stop cause) s = record s { core = halted s.core cause }

-- an exit's text
abbrev pub exit_text : Core → List ℕ
exit_text c = text_of c c.ending
  where
    text_of : Core → Ending → List ℕ
    text_of c Running = []
    text_of c (Exited at len) = bytes_from c at len
    text_of c (Halted cause pc) = []
