-- A law of all steps follows from what it says of each change: a register, HI and LO, bytes, a variable,
-- or what a system call does.
use Rattle.std.proofs.Common.{◌≡◌, ◌≤◌, ◌<◌, ℕ, zero, suc, ◌+◌, ◌-◌, ◌*◌, ◌/◌, ◌%◌, ◌^◌, ◌==◌, ◌&&◌, ◌||◌, nat_le, nat_lt, Bool, true, false, Option, Some, None, if◌then◌else◌, List, length, All, slice_get, slice_index, slice_set, refl, sym, ap, ◌∙◌, subst, arith}
use Rattle.std.proofs.lemmas.Bool.{leb-true}
use Rattle.std.proofs.lemmas.Nat.{or_of_32, xor_of_32, mul-lt}
use Rattle.p9_base.specs.Words.{IsWord, word_sum, word_difference, is_negative, is_signed_less, magnitude, signs_differ, signed_quotient, signed_remainder, unsigned_product, signed_product, low8, low16}
use Rattle.p9_base.specs.Numbers.{sign_extended}
use Rattle.p9_base.specs.declared.halt.HaltCause.TheVariants as halts
use Rattle.p9_base.specs.declared.halt.Ending.{Ending}
use Rattle.p9_base.specs.declared.halt.Ending.TheVariants.{Running, Exited, Halted}
use Rattle.p9_base.specs.declared.halt.Effect.{Effect}
use Rattle.p9_base.specs.declared.halt.Effect.TheVariants as effects
use Rattle.p9_base.specs.declared.halt.Asked.{Asked}
use Rattle.p9_base.specs.Core.{Core, reg, readable, writable, read_byte, read_half, read_word, with_byte, with_half, with_word}
use Rattle.p9_base.specs.Effects.{low5, sum_overflows, difference_overflows, truth, load_byte, load_half, load_word, store_byte, store_half, store_word}
use Rattle.p9_base.specs.SystemCalls.{State, asked, called}
use Rattle.p9_base.specs.Holding.{HoldsWords}
use Rattle.p9_base.proofs.Holding.{index-below, register-word, modulo-word, truth-word, and-word, nor-word, half-word, byte-word, extended8-word, extended16-word, right-word, signed_right-word, low5-small, with_sign-word, magnitude-word, rest-word, quotient-word, high-word, read_byte-below, read_half-below, read_word-below}
use Rattle.p9_abs.specs.declared.instructions.Abs.{Abs}
use Rattle.p9_abs.specs.declared.forms.Location.{Location}
use Rattle.p9_abs.specs.declared.forms.Location.TheVariants.{Static, Argument, Frame, Based, Automatic}
use Rattle.p9_abs.specs.declared.forms.Special.{Special}
use Rattle.p9_abs.specs.declared.forms.Special.TheVariants.{Hi, Lo}
use Rattle.p9_abs.specs.declared.forms.Width.{Width}
use Rattle.p9_abs.specs.declared.forms.Width.TheVariants.{Word, SignedHalf, UnsignedHalf, SignedByte, UnsignedByte}
use Rattle.p9_abs.specs.declared.forms.Calculation.{Calculation}
use Rattle.p9_abs.specs.declared.forms.Calculation.TheVariants.{Add, AddU, Sub, SubU, And, Or, Xor, Nor, Sgt, SgtU, Sll, Srl, Sra}
use Rattle.p9_abs.specs.declared.forms.Product.{Product}
use Rattle.p9_abs.specs.declared.forms.Product.TheVariants.{Mul, MulU, Div, DivU}
use Rattle.p9_abs.specs.declared.forms.Form.{Form}
use Rattle.p9_abs.specs.declared.forms.Form.TheVariants as forms
use Rattle.p9_abs.specs.Steps.{Mach, Around, Step, Next, Turns, Calls, Returns, Exits, Undefined, with_core, write, write_pair, does, is_free, touches, Spot, At, Variable, Nowhere, spot_of, automatic_spot, moved, stored, bytes_of, load_effect, store_effect, loads, stores, takes_address, gets_special, sets_special, computed, unless, writes, multiplied, pair_holds, sign_holds, turns, calls, room_free, ended, asks_system, acts}

-- the register that a form writes
abbrev pub destination : Form → Option ℕ
destination (forms.Move w a b) = Some b
destination (forms.SetConstant c b) = Some b
destination (forms.SetAddress a b) = Some b
destination (forms.Load w a b) = Some b
destination (forms.Store w a b) = None
destination (forms.GetHiLo a b) = Some b
destination (forms.SetHiLo a b) = None
destination (forms.Calculate k a b c) = Some c
destination (forms.CalculateConstant k a b c) = Some c
destination (forms.ShiftConstant k a b c) = Some c
destination (forms.Multiply k a b) = None
destination (forms.BranchPair k a b l) = None
destination (forms.BranchSign k a l) = None
destination (forms.Jump l) = None
destination (forms.Call s) = None
destination (forms.CallRegister a) = None
destination forms.Return = None
destination forms.SystemCall = None

-- registers and variables hold words
pub record HoldsMach (x : Mach) : Type 0 where
  pub words : HoldsWords x.state.core
  pub variables : All IsWord x.vars

-- what is to be shown of each change that the form may make of x
pub record Walk (around : Around) (form : Form) (x : Mach) (G : Step → Type 0) : Type 0 where
  pub undefined : G Undefined
  pub register : (r v : ℕ) → destination form ≡ Some r → (HoldsMach x → IsWord v) → G (write r v x)
  pub pair : (h l : ℕ) → (HoldsMach x → IsWord h × IsWord l) → G (write_pair h l x)
  pub byte : (a v : ℕ) → is_free around.banned a 1 ≡ true → 1 ≤ writable x.state.core a → v < 2 ^ 8 → G (Next (with_core x (with_byte x.state.core a v)))
  pub half : (a v : ℕ) → is_free around.banned a 2 ≡ true → 2 ≤ writable x.state.core a → G (Next (with_core x (with_half x.state.core a v)))
  pub word : (a v : ℕ) → is_free around.banned a 4 ≡ true → 4 ≤ writable x.state.core a → G (Next (with_core x (with_word x.state.core a v)))
  pub variable : (v value : ℕ) → (HoldsMach x → IsWord value) → G (Next (record x { vars = slice_set x.vars v value; at = x.at + 1 }))
  pub turn : (taken : Bool) (l : ℕ) → G (turns taken l x)
  pub call : (to : ℕ) → G (calls to x)
  pub back : G (Returns x)
  pub system : form ≡ forms.SystemCall → room_free around x.state.core (asked x.state.core) ≡ true →
      G (let s : State = called (asked x.state.core) x.state in ended s.core.ending (record x { state = s; at = x.at + 1 }))

moved-word : (w : Width) (v : ℕ) → IsWord v → IsWord (moved w v)
moved-word Word v h = h
moved-word SignedHalf v h = extended16-word v
moved-word UnsignedHalf v h = omega arith
moved-word SignedByte v h = extended8-word v
moved-word UnsignedByte v h = omega arith

stored-word : (w : Width) (v : ℕ) → IsWord v → IsWord (stored w v)
stored-word Word v h = h
stored-word SignedHalf v h = omega arith
stored-word UnsignedHalf v h = omega arith
stored-word SignedByte v h = omega arith
stored-word UnsignedByte v h = omega arith

module _ (around : Around) (form : Form) (x : Mach) (G : Step → Type 0) (walk : Walk around form x G) where
  choose : (b : Bool) (s u : Step) → (b ≡ true → G s) → (b ≡ false → G u) → G (if b then s else u)
  choose true s u h k = h refl
  choose false s u h k = k refl

  does-choose : (b : Bool) (e f : Effect) → (b ≡ true → G (does e x)) → (b ≡ false → G (does f x)) → G (does (if b then e else f) x)
  does-choose true e f h k = h refl
  does-choose false e f h k = k refl

  touch : (a n : ℕ) (e : Effect) → (is_free around.banned a n ≡ true → G (does e x)) → G (touches around a n e x)
  touch a n e h = choose (is_free around.banned a n) (does e x) Undefined h (λ f. walk.undefined)

  -- Loads and stores

  module _ (r : ℕ) (dest : destination form ≡ Some r) where
    byte-load : (a : ℕ) (extended : ℕ → ℕ) → ((b : ℕ) → b < 2 ^ 8 → IsWord (extended b)) → G (does (load_byte x.state.core r a extended) x)
    byte-load a extended h =
        does-choose (nat_le 1 (readable x.state.core a)) (effects.Load r (extended (read_byte x.state.core a))) (effects.Stop (halts.BadAddress a))
        (λ e. walk.register r (extended (read_byte x.state.core a)) dest (λ w. h (read_byte x.state.core a) (read_byte-below x.state.core a w.words)))
        (λ e. walk.undefined)

    half-load : (a : ℕ) (extended : ℕ → ℕ) → ((b : ℕ) → b < 2 ^ 16 → IsWord (extended b)) → G (does (load_half x.state.core r a extended) x)
    half-load a extended h =
        does-choose (a % 2 == 0)
        (if nat_le 2 (readable x.state.core a) then effects.Load r (extended (read_half x.state.core a)) else effects.Stop (halts.BadAddress a))
        (effects.Stop (halts.Misaligned a))
        (λ f. does-choose (nat_le 2 (readable x.state.core a)) (effects.Load r (extended (read_half x.state.core a))) (effects.Stop (halts.BadAddress a))
        (λ e. walk.register r (extended (read_half x.state.core a)) dest (λ w. h (read_half x.state.core a) (read_half-below x.state.core a w.words)))
        (λ e. walk.undefined))
        (λ f. walk.undefined)

    word-load : (a : ℕ) → G (does (load_word x.state.core r a) x)
    word-load a =
        does-choose (a % 4 == 0)
        (if nat_le 4 (readable x.state.core a) then effects.Load r (read_word x.state.core a) else effects.Stop (halts.BadAddress a))
        (effects.Stop (halts.Misaligned a))
        (λ f. does-choose (nat_le 4 (readable x.state.core a)) (effects.Load r (read_word x.state.core a)) (effects.Stop (halts.BadAddress a))
        (λ e. walk.register r (read_word x.state.core a) dest (λ w. read_word-below x.state.core a w.words))
        (λ e. walk.undefined))
        (λ f. walk.undefined)

    load-at : (w : Width) (a : ℕ) → G (does (load_effect w x.state.core r a) x)
    load-at Word a = word-load a
    load-at SignedHalf a = half-load a (sign_extended 16) (λ b h. extended16-word b)
    load-at UnsignedHalf a = half-load a (λ h. h) half-word
    load-at SignedByte a = byte-load a (sign_extended 8) (λ b h. extended8-word b)
    load-at UnsignedByte a = byte-load a (λ b. b) byte-word

    load-from : (w : Width) (q : Spot) → G (loads around w q r x)
    load-from w (At a) = touch a (bytes_of w) (load_effect w x.state.core r a) (λ f. load-at w a)
    load-from w (Variable v) =
        walk.register r (moved w (slice_index x.vars v)) dest (λ h. moved-word w (slice_index x.vars v) (index-below (2 ^ 32) x.vars v (omega arith) h.variables))
    load-from w Nowhere = walk.undefined

    address-of : (q : Spot) → ((a : ℕ) → q ≡ At a → IsWord a) → G (takes_address q r x)
    address-of (At a) h = walk.register r a dest (λ w. h a refl)
    address-of (Variable v) h = walk.undefined
    address-of Nowhere h = walk.undefined

    special-from : (s : Special) → G (gets_special s r x)
    special-from Hi = walk.register r x.state.core.hi dest (λ h. h.words.high)
    special-from Lo = walk.register r x.state.core.lo dest (λ h. h.words.less)

    -- Arithmetic

    written : (o : Option ℕ) → ((v : ℕ) → o ≡ Some v → HoldsMach x → IsWord v) → G (writes r o x)
    written None h = walk.undefined
    written (Some v) h = walk.register r v dest (h v refl)

  byte-store : (a v : ℕ) → is_free around.banned a 1 ≡ true → G (does (store_byte x.state.core a v) x)
  byte-store a v free =
      does-choose (nat_le 1 (writable x.state.core a)) (effects.StoreByte a (low8 v)) (effects.Stop (halts.BadAddress a))
      (λ e. walk.byte a (low8 v) free (leb-true 1 (writable x.state.core a) e) (omega arith)) (λ e. walk.undefined)

  half-store : (a v : ℕ) → is_free around.banned a 2 ≡ true → G (does (store_half x.state.core a v) x)
  half-store a v free =
      does-choose (a % 2 == 0) (if nat_le 2 (writable x.state.core a) then effects.StoreHalf a (low16 v) else effects.Stop (halts.BadAddress a)) (effects.Stop (halts.Misaligned a))
      (λ f. does-choose (nat_le 2 (writable x.state.core a)) (effects.StoreHalf a (low16 v)) (effects.Stop (halts.BadAddress a))
      (λ e. walk.half a (low16 v) free (leb-true 2 (writable x.state.core a) e)) (λ e. walk.undefined))
      (λ f. walk.undefined)

  word-store : (a v : ℕ) → is_free around.banned a 4 ≡ true → G (does (store_word x.state.core a v) x)
  word-store a v free =
      does-choose (a % 4 == 0) (if nat_le 4 (writable x.state.core a) then effects.StoreWord a v else effects.Stop (halts.BadAddress a)) (effects.Stop (halts.Misaligned a))
      (λ f. does-choose (nat_le 4 (writable x.state.core a)) (effects.StoreWord a v) (effects.Stop (halts.BadAddress a))
      (λ e. walk.word a v free (leb-true 4 (writable x.state.core a) e)) (λ e. walk.undefined))
      (λ f. walk.undefined)

  store-at : (w : Width) (a v : ℕ) → is_free around.banned a (bytes_of w) ≡ true → G (does (store_effect w x.state.core a v) x)
  store-at Word a v free = word-store a v free
  store-at SignedHalf a v free = half-store a v free
  store-at UnsignedHalf a v free = half-store a v free
  store-at SignedByte a v free = byte-store a v free
  store-at UnsignedByte a v free = byte-store a v free

  store-to : (w : Width) (s : ℕ) (q : Spot) → G (stores around w s q x)
  store-to w s (At a) = touch a (bytes_of w) (store_effect w x.state.core a (reg x.state.core s)) (store-at w a (reg x.state.core s))
  store-to w s (Variable v) =
      walk.variable v (stored w (reg x.state.core s)) (λ h. stored-word w (reg x.state.core s) (register-word x.state.core s h.words))
  store-to w s Nowhere = walk.undefined

  special-to : (s : ℕ) (q : Special) → G (sets_special s q x)
  special-to s Hi = walk.pair (reg x.state.core s) x.state.core.lo (λ h. (register-word x.state.core s h.words, h.words.less))
  special-to s Lo = walk.pair x.state.core.hi (reg x.state.core s) (λ h. (h.words.high, register-word x.state.core s h.words))

  product : (k : Product) (a b : ℕ) → (HoldsMach x → IsWord a × IsWord b) → G (multiplied k a b x)
  product Mul a b h =
      walk.pair (signed_product b a / 2 ^ 32) (signed_product b a % 2 ^ 32) (λ w. (high-word (signed_product b a) (omega arith), modulo-word (signed_product b a)))
  product MulU a b h =
      walk.pair (unsigned_product b a / 2 ^ 32) (unsigned_product b a % 2 ^ 32)
      (λ w. (high-word (unsigned_product b a) (mul-lt b a (2 ^ 32) (2 ^ 32) (h w).1 (h w).0), modulo-word (unsigned_product b a)))
  product Div a b h =
      choose ((a == 0) || ((b == 2 ^ 31) && (a == 2 ^ 32 - 1))) Undefined (write_pair (signed_remainder b a) (signed_quotient b a) x)
      (λ e. walk.undefined)
      (λ e. walk.pair (signed_remainder b a) (signed_quotient b a)
      (λ w. (
        with_sign-word (is_negative b) (magnitude b % magnitude a) (rest-word (magnitude b) (magnitude a) (magnitude-word b (h w).1)),
        with_sign-word (signs_differ b a) (magnitude b / magnitude a) (quotient-word (magnitude b) (magnitude a) (magnitude-word b (h w).1)),
      )))
  product DivU a b h =
      choose (a == 0) Undefined (write_pair (b % a) (b / a) x)
      (λ e. walk.undefined)
      (λ e. walk.pair (b % a) (b / a) (λ w. (rest-word b a (h w).1, quotient-word b a (h w).1)))

-- what is computed of words is a word

unless-word : (b : Bool) (w v : ℕ) → IsWord w → unless b w ≡ Some v → IsWord v
unless-word true w v h e = absurd (let z : None ≡ Some v = e in cc)
unless-word false w v h e = subst IsWord (let z : w ≡ v = cc in z) h

some-word : (w v : ℕ) → IsWord w → Some w ≡ Some v → IsWord v
some-word w v h e = subst IsWord (let z : w ≡ v = cc in z) h

computed-word : (k : Calculation) (a b v : ℕ) → IsWord a → IsWord b → computed k a b ≡ Some v → IsWord v
computed-word Add a b v ha hb e = unless-word (sum_overflows b a) (word_sum b a) v (modulo-word (b + a)) e
computed-word AddU a b v ha hb e = some-word (word_sum b a) v (modulo-word (b + a)) e
computed-word Sub a b v ha hb e = unless-word (difference_overflows b a) (word_difference b a) v (omega arith) e
computed-word SubU a b v ha hb e = some-word (word_difference b a) v (omega arith) e
computed-word And a b v ha hb e = some-word _ v (and-word b a hb) e
computed-word Or a b v ha hb e = some-word _ v (or_of_32 b a hb ha) e
computed-word Xor a b v ha hb e = some-word _ v (xor_of_32 b a hb ha) e
computed-word Nor a b v ha hb e = some-word _ v (nor-word b a) e
computed-word Sgt a b v ha hb e = some-word _ v (truth-word (is_signed_less b a)) e
computed-word SgtU a b v ha hb e = some-word _ v (truth-word (nat_lt b a)) e
computed-word Sll a b v ha hb e = some-word _ v (modulo-word (b * 2 ^ low5 a)) e
computed-word Srl a b v ha hb e = some-word _ v (right-word b (low5 a) hb) e
computed-word Sra a b v ha hb e = some-word _ v (signed_right-word b (low5 a) hb (low5-small a)) e

-- an address is a word

at-word : (p a : ℕ) → IsWord p → At p ≡ At a → IsWord a
at-word p a h e = subst IsWord (let z : p ≡ a = cc in z) h

automatic-word : (sp v o a : ℕ) (q : Option (Option ℕ)) → automatic_spot sp v q o ≡ At a → IsWord a
automatic-word sp v o a None e = absurd (let z : Nowhere ≡ At a = e in cc)
automatic-word sp v o a (Some None) e = absurd (let z : Variable v ≡ At a = e in cc)
automatic-word sp v o a (Some (Some p)) e = at-word (word_sum sp (p + o)) a (modulo-word (sp + (p + o))) e

spot-word : (around : Around) (c : Core) (l : Location) (a : ℕ) → spot_of around c l ≡ At a → IsWord a
spot-word around c (Static s o) a e = at-word (word_sum (around.symbol s) o) a (modulo-word (around.symbol s + o)) e
spot-word around c (Argument o) a e = at-word (word_sum (reg c 29) (around.taken + 4 + o)) a (modulo-word (reg c 29 + (around.taken + 4 + o))) e
spot-word around c (Frame o) a e = at-word (word_sum (reg c 29) (around.taken + o)) a (modulo-word (reg c 29 + (around.taken + o))) e
spot-word around c (Based r o) a e = at-word (word_sum (reg c r) o) a (modulo-word (reg c r + o)) e
spot-word around c (Automatic v o) a e = automatic-word (reg c 29) v o a (slice_get around.offsets v) e

-- all forms

constant-word : (a : ℕ) → IsWord (a % 2 ^ 32)
constant-word a = modulo-word a

pub walked : (around : Around) (form : Form) (x : Mach) (G : Step → Type 0) → Walk around form x G → G (acts around form x)
walked around (forms.Move w a b) x G k =
    k.register b (moved w (reg x.state.core a)) refl (λ h. moved-word w (reg x.state.core a) (register-word x.state.core a h.words))
walked around (forms.SetConstant c b) x G k = k.register b (c % 2 ^ 32) refl (λ h. constant-word c)
walked around (forms.SetAddress a b) x G k =
    address-of around (forms.SetAddress a b) x G k b refl (spot_of around x.state.core a) (spot-word around x.state.core a)
walked around (forms.Load w a b) x G k = load-from around (forms.Load w a b) x G k b refl w (spot_of around x.state.core a)
walked around (forms.Store w a b) x G k = store-to around (forms.Store w a b) x G k w a (spot_of around x.state.core b)
walked around (forms.GetHiLo a b) x G k = special-from around (forms.GetHiLo a b) x G k b refl a
walked around (forms.SetHiLo a b) x G k = special-to around (forms.SetHiLo a b) x G k a b
walked around (forms.Calculate c a b d) x G k =
    written around (forms.Calculate c a b d) x G k d refl (computed c (reg x.state.core a) (reg x.state.core b))
    (λ v e h. computed-word c (reg x.state.core a) (reg x.state.core b) v (register-word x.state.core a h.words) (register-word x.state.core b h.words) e)
walked around (forms.CalculateConstant c a b d) x G k =
    written around (forms.CalculateConstant c a b d) x G k d refl (computed c (a % 2 ^ 32) (reg x.state.core b))
    (λ v e h. computed-word c (a % 2 ^ 32) (reg x.state.core b) v (constant-word a) (register-word x.state.core b h.words) e)
walked around (forms.ShiftConstant c a b d) x G k =
    written around (forms.ShiftConstant c a b d) x G k d refl (computed c (a % 2 ^ 32) (reg x.state.core b))
    (λ v e h. computed-word c (a % 2 ^ 32) (reg x.state.core b) v (constant-word a) (register-word x.state.core b h.words) e)
walked around (forms.Multiply c a b) x G k =
    product around (forms.Multiply c a b) x G k c (reg x.state.core a) (reg x.state.core b)
    (λ h. (register-word x.state.core a h.words, register-word x.state.core b h.words))
walked around (forms.BranchPair t a b l) x G k = k.turn (pair_holds t (reg x.state.core a) (reg x.state.core b)) l
walked around (forms.BranchSign t a l) x G k = k.turn (sign_holds t (reg x.state.core a)) l
walked around (forms.Jump l) x G k = k.turn true l
walked around (forms.Call s) x G k = k.call (around.symbol s)
walked around (forms.CallRegister a) x G k = k.call (reg x.state.core a)
walked around forms.Return x G k = k.back
walked around forms.SystemCall x G k =
    choose around forms.SystemCall x G k (room_free around x.state.core (asked x.state.core))
    (let s : State = called (asked x.state.core) x.state in ended s.core.ending (record x { state = s; at = x.at + 1 })) Undefined
    (k.system refl) (λ e. k.undefined)
