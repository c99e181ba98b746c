-- What one abstract instruction does: to the registers and the bytes by address, which are those of
-- the machine, and to variables, which stand outside them.
use Rattle.std.specs.Prelude.{ℕ, zero, suc, ◌+◌, ◌-◌, ◌*◌, ◌/◌, ◌%◌, ◌^◌, ◌==◌, ◌&&◌, ◌||◌, nat_lt, Bool, true, false, not, Option, Some, None, if◌then◌else◌, List, slice_get, slice_set, slice_index, bit_and, bit_or, bit_xor}
use Rattle.p9_base.specs.Words.{word_sum, word_difference, is_negative, is_signed_less, signed_quotient, signed_remainder, unsigned_product, signed_product, shift_left, shift_right, shift_right_signed, low8, low16, word_nor}
use Rattle.p9_base.specs.Numbers.{sign_extended}
use Rattle.p9_base.specs.declared.halt.Ending.{Ending}
use Rattle.p9_base.specs.declared.halt.Ending.TheVariants.{Running, Exited, Halted}
use Rattle.p9_base.specs.declared.halt.Effect.{Effect}
use Rattle.p9_base.specs.declared.halt.Effect.TheVariants as effects
use Rattle.p9_base.specs.declared.halt.Asked.{Asked}
use Rattle.p9_base.specs.declared.halt.Asked.TheVariants as asks
use Rattle.p9_base.specs.Core.{Core, text_start, reg, with_reg, with_byte, with_half, with_word}
use Rattle.p9_base.specs.Effects.{truth, low5, sum_overflows, difference_overflows, wide_pair, load_byte, load_half, load_word, store_byte, store_half, store_word}
use Rattle.p9_base.specs.SystemCalls.{State, asked, called}
use Rattle.p9_abs.specs.declared.instructions.Abs.{Abs}
use Rattle.p9_abs.specs.declared.forms.Location.{Location}
use Rattle.p9_abs.specs.declared.forms.Location.TheVariants.{Static, Argument, Frame, Based, Automatic}
use Rattle.p9_abs.specs.declared.forms.Special.{Special}
use Rattle.p9_abs.specs.declared.forms.Special.TheVariants.{Hi, Lo}
use Rattle.p9_abs.specs.declared.forms.Width.{Width}
use Rattle.p9_abs.specs.declared.forms.Width.TheVariants.{Word, SignedHalf, UnsignedHalf, SignedByte, UnsignedByte}
use Rattle.p9_abs.specs.declared.forms.Calculation.{Calculation}
use Rattle.p9_abs.specs.declared.forms.Calculation.TheVariants.{Add, AddU, Sub, SubU, And, Or, Xor, Nor, Sgt, SgtU, Sll, Srl, Sra}
use Rattle.p9_abs.specs.declared.forms.Product.{Product}
use Rattle.p9_abs.specs.declared.forms.Product.TheVariants.{Mul, MulU, Div, DivU}
use Rattle.p9_abs.specs.declared.forms.PairTest.{PairTest}
use Rattle.p9_abs.specs.declared.forms.PairTest.TheVariants.{Equal, Unequal}
use Rattle.p9_abs.specs.declared.forms.SignTest.{SignTest}
use Rattle.p9_abs.specs.declared.forms.SignTest.TheVariants.{NotNegative, Positive, NotPositive, Negative}
use Rattle.p9_abs.specs.declared.forms.Form.{Form}
use Rattle.p9_abs.specs.declared.forms.Form.TheVariants as forms
use Rattle.p9_abs.specs.Forms.{decoded}

-- The machine

-- Of the state's core the pc, the slot and the marks of loads and of HI and LO mean nothing, and no
-- text is in memory. Only code over automatics has variables: each holds the low bytes of a word.
pub record Mach : Type 0 where
  pub state : State
  pub vars : List ℕ
  -- the number of the instruction that comes next
  pub at : ℕ

-- what the code of one call stands in
pub record Around : Type 0 where
  -- the addresses of the symbols that its module names
  pub symbol : ℕ → ℕ
  -- what the entry took from R29
  pub taken : ℕ
  -- each automatic's offset from R29, or none for a variable
  pub offsets : List (Option ℕ)
  -- the bytes that may not be touched
  pub banned : ℕ → Bool

-- what one instruction comes to
pub data Step : Type 0 where
  Next : (x : Mach) → Step
  -- a branch or JMP, taken or not
  Turns : (taken : Bool) (x : Mach) → Step
  -- a call of the function at an address; the machine stands after it
  Calls : (to : ℕ) (x : Mach) → Step
  Returns : (x : Mach) → Step
  Exits : (x : Mach) → Step
  Undefined : Step

-- Changes

abbrev pub with_core : Mach → Core → Mach
with_core x c = record x { state = record x.state { core = c }; at = x.at + 1 }

abbrev pub write : ℕ → ℕ → Mach → Step
write r v x = Next (with_core x (record x.state.core { regs = with_reg x.state.core.regs r v }))

abbrev pub write_pair : ℕ → ℕ → Mach → Step
write_pair h l x = Next (with_core x (record x.state.core { hi = h; lo = l }))

-- an effect of the machine's; where the machine stops, the step is undefined. Branches, jumps and
-- calls are no effects of a load, a store or a product.
abbrev pub does : Effect → Mach → Step
does (effects.Write r v) x = write r v x
does (effects.Load r v) x = write r v x
does (effects.Pair h l) x = write_pair h l x
does (effects.StoreByte a v) x = Next (with_core x (with_byte x.state.core a v))
does (effects.StoreHalf a v) x = Next (with_core x (with_half x.state.core a v))
does (effects.StoreWord a v) x = Next (with_core x (with_word x.state.core a v))
does (effects.Branch link taken to) x = Undefined
does (effects.JumpTo link to) x = Undefined
does effects.Call x = Undefined
does (effects.Stop cause) x = Undefined

-- no byte of n from a on is banned
abbrev pub is_free : (ℕ → Bool) → ℕ → ℕ → Bool
is_free banned a zero = true
is_free banned a (suc n) = if banned a then false else is_free banned (a + 1) n

abbrev pub touches : Around → ℕ → ℕ → Effect → Mach → Step
touches around a n e x = if is_free around.banned a n then does e x else Undefined

-- Locations

-- where a location is: at an address, or in a variable outside memory. An automatic that isn't one
-- of the code's is nowhere.
pub data Spot : Type 0 where
  At : (a : ℕ) → Spot
  Variable : (v : ℕ) → Spot
  Nowhere : Spot

abbrev pub automatic_spot : ℕ → ℕ → Option (Option ℕ) → ℕ → Spot
automatic_spot sp v None o = Nowhere
automatic_spot sp v (Some None) o = Variable v
automatic_spot sp v (Some (Some p)) o = At (word_sum sp (p + o))

abbrev pub spot_of : Around → Core → Location → Spot
spot_of around c (Static s o) = At (word_sum (around.symbol s) o)
spot_of around c (Argument o) = At (word_sum (reg c 29) (around.taken + 4 + o))
spot_of around c (Frame o) = At (word_sum (reg c 29) (around.taken + o))
spot_of around c (Based r o) = At (word_sum (reg c r) o)
spot_of around c (Automatic v o) = automatic_spot (reg c 29) v (slice_get around.offsets v) o

-- Moves

-- what a move leaves of a word in a register
abbrev pub moved : Width → ℕ → ℕ
moved Word v = v
moved SignedHalf v = sign_extended 16 v
moved UnsignedHalf v = low16 v
moved SignedByte v = sign_extended 8 v
moved UnsignedByte v = low8 v

-- what a store puts into its bytes
abbrev pub stored : Width → ℕ → ℕ
stored Word v = v
stored SignedHalf v = low16 v
stored UnsignedHalf v = low16 v
stored SignedByte v = low8 v
stored UnsignedByte v = low8 v

-- the bytes that a move of this width touches
abbrev pub bytes_of : Width → ℕ
bytes_of Word = 4
bytes_of SignedHalf = 2
bytes_of UnsignedHalf = 2
bytes_of SignedByte = 1
bytes_of UnsignedByte = 1

abbrev pub load_effect : Width → Core → ℕ → ℕ → Effect
load_effect Word c r a = load_word c r a
load_effect SignedHalf c r a = load_half c r a (sign_extended 16)
load_effect UnsignedHalf c r a = load_half c r a (λ h. h)
load_effect SignedByte c r a = load_byte c r a (sign_extended 8)
load_effect UnsignedByte c r a = load_byte c r a (λ b. b)

abbrev pub store_effect : Width → Core → ℕ → ℕ → Effect
store_effect Word c a v = store_word c a v
store_effect SignedHalf c a v = store_half c a v
store_effect UnsignedHalf c a v = store_half c a v
store_effect SignedByte c a v = store_byte c a v
store_effect UnsignedByte c a v = store_byte c a v

abbrev pub loads : Around → Width → Spot → ℕ → Mach → Step
loads around w (At a) r x = touches around a (bytes_of w) (load_effect w x.state.core r a) x
loads around w (Variable v) r x = write r (moved w (slice_index x.vars v)) x
loads around w Nowhere r x = Undefined

abbrev pub stores : Around → Width → ℕ → Spot → Mach → Step
stores around w s (At a) x = touches around a (bytes_of w) (store_effect w x.state.core a (reg x.state.core s)) x
stores around w s (Variable v) x =
    Next (record x { vars = slice_set x.vars v (stored w (reg x.state.core s)); at = x.at + 1 })
stores around w s Nowhere x = Undefined

-- a variable has no address
abbrev pub takes_address : Spot → ℕ → Mach → Step
takes_address (At a) r x = write r a x
takes_address (Variable v) r x = Undefined
takes_address Nowhere r x = Undefined

abbrev pub gets_special : Special → ℕ → Mach → Step
gets_special Hi r x = write r x.state.core.hi x
gets_special Lo r x = write r x.state.core.lo x

abbrev pub sets_special : ℕ → Special → Mach → Step
sets_special r Hi x = write_pair (reg x.state.core r) x.state.core.lo x
sets_special r Lo x = write_pair x.state.core.hi (reg x.state.core r) x

-- Arithmetic

abbrev pub unless : Bool → ℕ → Option ℕ
unless b v = if b then None else Some v

-- the value that goes to c for `a, b, c`
abbrev pub computed : Calculation → ℕ → ℕ → Option ℕ
computed Add a b = unless (sum_overflows b a) (word_sum b a)
computed AddU a b = Some (word_sum b a)
computed Sub a b = unless (difference_overflows b a) (word_difference b a)
computed SubU a b = Some (word_difference b a)
computed And a b = Some (bit_and b a)
computed Or a b = Some (bit_or b a)
computed Xor a b = Some (bit_xor b a)
computed Nor a b = Some (word_nor b a)
computed Sgt a b = Some (truth (is_signed_less b a))
computed SgtU a b = Some (truth (nat_lt b a))
computed Sll a b = Some (shift_left b (low5 a))
computed Srl a b = Some (shift_right b (low5 a))
computed Sra a b = Some (shift_right_signed b (low5 a))

abbrev pub writes : ℕ → Option ℕ → Mach → Step
writes r None x = Undefined
writes r (Some v) x = write r v x

-- HI and LO for `a, b`
abbrev pub multiplied : Product → ℕ → ℕ → Mach → Step
multiplied Mul a b x = does (wide_pair (signed_product b a)) x
multiplied MulU a b x = does (wide_pair (unsigned_product b a)) x
multiplied Div a b x =
    if (a == 0) || ((b == 2 ^ 31) && (a == 2 ^ 32 - 1)) then Undefined
    else write_pair (signed_remainder b a) (signed_quotient b a) x
multiplied DivU a b x = if a == 0 then Undefined else write_pair (b % a) (b / a) x

-- Branches

abbrev pub pair_holds : PairTest → ℕ → ℕ → Bool
pair_holds Equal a b = a == b
pair_holds Unequal a b = not (a == b)

abbrev pub sign_holds : SignTest → ℕ → Bool
sign_holds NotNegative a = not (is_negative a)
sign_holds Positive a = not (is_negative a || (a == 0))
sign_holds NotPositive a = is_negative a || (a == 0)
sign_holds Negative a = is_negative a

abbrev pub turns : Bool → ℕ → Mach → Step
turns taken label x = Turns taken (record x { at = if taken then label else x.at + 1 })

abbrev pub calls : ℕ → Mach → Step
calls to x = Calls to (record x { at = x.at + 1 })

-- System calls: the words of the arguments and the bytes of the room may not be banned either

-- the words at 4(R29) up to 4n(R29)
abbrev pub words_free : Around → ℕ → ℕ → Bool
words_free around sp zero = true
words_free around sp (suc n) = is_free around.banned (word_sum sp (4 * suc n)) 4 && words_free around sp n

abbrev pub room_free : Around → Core → Asked → Bool
room_free around c (asks.Exits a n) = words_free around (reg c 29) 1 && ((a == 0) || is_free around.banned a (n + 1))
room_free around c (asks.Read a n) = words_free around (reg c 29) 3 && is_free around.banned a n
room_free around c (asks.Write a n) = words_free around (reg c 29) 3 && is_free around.banned a n
room_free around c asks.Refused = words_free around (reg c 29) 3
room_free around c (asks.Stop cause) = false

abbrev pub ended : Ending → Mach → Step
ended Running x = Next x
ended (Exited a n) x = Exits x
ended (Halted cause pc) x = Undefined

abbrev pub asks_system : Around → Asked → Mach → Step
asks_system around q x =
    if room_free around x.state.core q
    then (let s : State = called q x.state in ended s.core.ending (record x { state = s; at = x.at + 1 }))
    else Undefined

-- Instructions

-- what each form does; a constant is a word
abbrev pub acts : Around → Form → Mach → Step
acts around (forms.Move w a b) x = write b (moved w (reg x.state.core a)) x
acts around (forms.SetConstant c b) x = write b (c % 2 ^ 32) x
acts around (forms.SetAddress a b) x = takes_address (spot_of around x.state.core a) b x
acts around (forms.Load w a b) x = loads around w (spot_of around x.state.core a) b x
acts around (forms.Store w a b) x = stores around w a (spot_of around x.state.core b) x
acts around (forms.GetHiLo a b) x = gets_special a b x
acts around (forms.SetHiLo a b) x = sets_special a b x
acts around (forms.Calculate k a b c) x = writes c (computed k (reg x.state.core a) (reg x.state.core b)) x
acts around (forms.CalculateConstant k a b c) x = writes c (computed k (a % 2 ^ 32) (reg x.state.core b)) x
acts around (forms.ShiftConstant k a b c) x = writes c (computed k (a % 2 ^ 32) (reg x.state.core b)) x
acts around (forms.Multiply k a b) x = multiplied k (reg x.state.core a) (reg x.state.core b) x
acts around (forms.BranchPair k a b l) x = turns (pair_holds k (reg x.state.core a) (reg x.state.core b)) l x
acts around (forms.BranchSign k a l) x = turns (sign_holds k (reg x.state.core a)) l x
acts around (forms.Jump l) x = turns true l x
acts around (forms.Call s) x = calls (around.symbol s) x
acts around (forms.CallRegister a) x = calls (reg x.state.core a) x
acts around forms.Return x = Returns x
acts around forms.SystemCall x = asks_system around (asked x.state.core) x

-- what is no form is no instruction, and past the last one there is none
abbrev pub acts_as : Around → Option Form → Mach → Step
acts_as around None x = Undefined
acts_as around (Some form) x = acts around form x

abbrev pub at_instruction : Around → Option Abs → Mach → Step
at_instruction around None x = Undefined
at_instruction around (Some a) x = acts_as around (decoded a) x

-- over a text that is no memory
abbrev pub without_text : Mach → Mach
without_text x = record x { state = record x.state { core = record x.state.core { text_end = text_start } } }

unfoldable pub step : Around → List Abs → Mach → Step
step around code x = at_instruction around (slice_get code x.at) (without_text x)
