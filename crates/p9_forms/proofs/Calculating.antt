-- Moves between registers, calculations, and HI and LO.
use Rattle.std.proofs.Common.{ℕ, ◌+◌, ◌-◌, ◌*◌, ◌/◌, ◌%◌, ◌^◌, ◌==◌, ◌≡◌, ◌≤◌, ◌<◌, ◌||◌, ◌&&◌, nat_lt, nat_le, Bool, true, false, Some, None, refl, ap, ◌∙◌, subst, arith, if◌then◌else◌, List, [], ◌∷◌, ◌++◌, length, length-append}
use Rattle.std.specs.Prelude.{bit_and, bit_or}
use Rattle.std.proofs.lemmas.Nat.{and_mask}
use Rattle.std.proofs.lemmas.Bool.Decides.{nat_tests}
use Rattle.p9_base.specs.Words.{word_sum, word_difference, shift_left, shift_right, shift_right_signed, signed_quotient, signed_remainder, signed_product, unsigned_product, IsWord}
use Rattle.p9_base.specs.Numbers.{sign_extended}
use Rattle.p9_base.specs.declared.halt.HaltCause.TheVariants as halts
use Rattle.p9_base.specs.declared.halt.Effect.{Effect}
use Rattle.p9_base.specs.declared.halt.Effect.TheVariants as effects
use Rattle.p9_base.specs.Core.{Core, reg}
use Rattle.p9_base.specs.Effects.{sum_overflows, difference_overflows, low5}
use Rattle.p9_abs.specs.declared.forms.Special.{Special}
use Rattle.p9_abs.specs.declared.forms.Special.TheVariants.{Hi, Lo}
use Rattle.p9_abs.specs.declared.forms.Width.{Width}
use Rattle.p9_abs.specs.declared.forms.Width.TheVariants.{Word, SignedHalf, UnsignedHalf, SignedByte, UnsignedByte}
use Rattle.p9_abs.specs.declared.forms.Calculation.{Calculation}
use Rattle.p9_abs.specs.declared.forms.Calculation.TheVariants.{Add, AddU, Sub, SubU, And, Or, Xor, Nor, Sgt, SgtU, Sll, Srl, Sra}
use Rattle.p9_abs.specs.declared.forms.Product.{Product}
use Rattle.p9_abs.specs.declared.forms.Product.TheVariants.{Mul, MulU, Div, DivU}
use Rattle.p9_abs.specs.declared.forms.Form.{Form}
use Rattle.p9_abs.specs.Steps.{Mach, Undefined, does, write, write_pair, writes, computed, moved, multiplied, gets_special, sets_special}
use Rattle.p9_r3k.specs.declared.inst.Inst.TheVariants as i
use Rattle.p9_r3k.specs.declared.lines.Line.{Line}
use Rattle.p9_r3k.specs.Effects.{effect_of}
use Rattle.p9_r3k.specs.Straight.{Straight, straight_run}
use Rattle.p9_lines.specs.Insts.{calculation, product, get_special, set_special}
use Rattle.p9_lines.specs.FormLines.{plain, constant_lines, move_lines, shift_lines}
use Rattle.p9_forms.specs.Standing.{Rest, stands, placed, Stand}
use Rattle.p9_forms.specs.Following.{Site, Follows}
use Rattle.p9_forms.specs.Laws.{IsFree, is_shift}
use Rattle.p9_forms.proofs.Temporary.{rest_at, seen, seen-other, seen-temporary, run-none}
use Rattle.p9_forms.proofs.Doing.{Usual, Spares, or-nothing, last-line, one-line, temporary-made, constant-ready, stand-first, stand-rest}

choice-spares : (b : Bool) (x y : Effect) → Spares x → Spares y → Spares (if b then x else y)
choice-spares true x y hx hy = hx
choice-spares false x y hx hy = hy

-- Moves

shifted-half : (v : ℕ) → shift_right_signed (shift_left v 16) 16 ≡ sign_extended 16 v
shifted-half v = by (nat_le (2 ^ 31) ((v * 2 ^ 16) % 2 ^ 32)) (nat_lt (v % 2 ^ 16) (2 ^ 15)) refl refl
  where
    by : (b c : Bool) → nat_le (2 ^ 31) ((v * 2 ^ 16) % 2 ^ 32) ≡ b → nat_lt (v % 2 ^ 16) (2 ^ 15) ≡ c →
        (if b then (v * 2 ^ 16) % 2 ^ 32 / 2 ^ 16 + (2 ^ 32 - 2 ^ 16) else (v * 2 ^ 16) % 2 ^ 32 / 2 ^ 16) ≡ (if c then v % 2 ^ 16 else v % 2 ^ 16 + (2 ^ 32 - 2 ^ 16))
    by true true e f = (let x : 2 ^ 31 ≤ (v * 2 ^ 16) % 2 ^ 32 = grind (arith, nat_tests) in let y : v % 2 ^ 16 < 2 ^ 15 = grind (arith, nat_tests) in omega (arith, x, y))
    by true false e f = omega arith
    by false true e f = omega arith
    by false false e f = (let x : (v * 2 ^ 16) % 2 ^ 32 < 2 ^ 31 = grind (arith, nat_tests) in let y : 2 ^ 15 ≤ v % 2 ^ 16 = grind (arith, nat_tests) in omega (arith, x, y))

shifted-byte : (v : ℕ) → shift_right_signed (shift_left v 24) 24 ≡ sign_extended 8 v
shifted-byte v = by (nat_le (2 ^ 31) ((v * 2 ^ 24) % 2 ^ 32)) (nat_lt (v % 2 ^ 8) (2 ^ 7)) refl refl
  where
    by : (b c : Bool) → nat_le (2 ^ 31) ((v * 2 ^ 24) % 2 ^ 32) ≡ b → nat_lt (v % 2 ^ 8) (2 ^ 7) ≡ c →
        (if b then (v * 2 ^ 24) % 2 ^ 32 / 2 ^ 24 + (2 ^ 32 - 2 ^ 8) else (v * 2 ^ 24) % 2 ^ 32 / 2 ^ 24) ≡ (if c then v % 2 ^ 8 else v % 2 ^ 8 + (2 ^ 32 - 2 ^ 8))
    by true true e f = (let x : 2 ^ 31 ≤ (v * 2 ^ 24) % 2 ^ 32 = grind (arith, nat_tests) in let y : v % 2 ^ 8 < 2 ^ 7 = grind (arith, nat_tests) in omega (arith, x, y))
    by true false e f = omega arith
    by false true e f = omega arith
    by false false e f = (let x : (v * 2 ^ 24) % 2 ^ 32 < 2 ^ 31 = grind (arith, nat_tests) in let y : 2 ^ 7 ≤ v % 2 ^ 8 = grind (arith, nat_tests) in omega (arith, x, y))

-- up and down again by way of register 28
signed-moved : (h : Site) (form : Form) (t : ℕ) (k : Rest) (x : Mach) (from to by v : ℕ) → Usual x.state → IsFree from → IsFree to →
    shift_right_signed (shift_left (reg x.state.core from) by) by ≡ v →
    Stand h.lines h.place h.first (plain (i.Sll from 28 by) ∷ plain (i.Sra 28 to by) ∷ []) → h.place h.way.next ≡ h.first + 2 →
    Follows h form (stands t k x.state h.first) (write to v x)
signed-moved h form t k x from to by v u other free e there next =
    let n : ℕ = h.first in
    let up : ℕ = shift_left (reg x.state.core from) by in
    let k1 : Rest = rest_at h.addresses n k in
    let one : straight_run h.addresses h.lines 1 (stands t k x.state n) ≡ stands up k1 x.state (n + 1) =
    temporary-made h 0 (stands t k x.state n) n t k x.state (placed h.place there.0 (plain (i.Sll from 28 by))) up (run-none h.addresses h.lines (stands t k x.state n)) u.running there.1
    (ap (λ z. effects.Write 28 (shift_left z by)) (seen-other h.addresses n t k x.state from other)) in
    last-line h form 1 (stands t k x.state n) (n + 1) up k1 x (placed h.place there.2.0 (plain (i.Sra 28 to by))) one (omega arith) (omega (arith, next)) u.running there.2.1
    (effects.Write to v)
    (ap (λ z. effects.Write to (shift_right_signed z by)) (seen-temporary h.addresses (n + 1) up k1 x.state u.count) ∙ ap (effects.Write to) e) free

pub register-moved : (h : Site) (form : Form) (t : ℕ) (k : Rest) (x : Mach) (w : Width) (from to : ℕ) → Usual x.state → IsFree from → IsFree to →
    Stand h.lines h.place h.first (move_lines w from to) → h.place h.way.next ≡ h.first + length (move_lines w from to) →
    Follows h form (stands t k x.state h.first) (write to (moved w (reg x.state.core from)) x)
register-moved h form t k x Word from to u other free there next =
    one-line h form t k x (i.Or from 0 to) u.running there next (effects.Write to (reg x.state.core from))
    (ap (λ z. effects.Write to (bit_or z (reg (seen h.addresses h.first t k x.state) 0))) (seen-other h.addresses h.first t k x.state from other)
    ∙ ap (λ z. effects.Write to (bit_or (reg x.state.core from) z)) (seen-other h.addresses h.first t k x.state 0 refl ∙ u.zero_register)
    ∙ ap (effects.Write to) (or-nothing (reg x.state.core from))) free
register-moved h form t k x SignedHalf from to u other free there next =
    signed-moved h form t k x from to 16 (sign_extended 16 (reg x.state.core from)) u other free (shifted-half (reg x.state.core from)) there next
register-moved h form t k x UnsignedHalf from to u other free there next =
    one-line h form t k x (i.Andi from to 65535) u.running there next (effects.Write to (reg x.state.core from % 2 ^ 16))
    (ap (λ z. effects.Write to (bit_and z 65535)) (seen-other h.addresses h.first t k x.state from other) ∙ ap (effects.Write to) (and_mask (reg x.state.core from) 16)) free
register-moved h form t k x SignedByte from to u other free there next =
    signed-moved h form t k x from to 24 (sign_extended 8 (reg x.state.core from)) u other free (shifted-byte (reg x.state.core from)) there next
register-moved h form t k x UnsignedByte from to u other free there next =
    one-line h form t k x (i.Andi from to 255) u.running there next (effects.Write to (reg x.state.core from % 2 ^ 8))
    (ap (λ z. effects.Write to (bit_and z 255)) (seen-other h.addresses h.first t k x.state from other) ∙ ap (effects.Write to) (and_mask (reg x.state.core from) 8)) free

-- HI and LO

pub special-got : (h : Site) (form : Form) (t : ℕ) (k : Rest) (x : Mach) (a : Special) (to : ℕ) → Usual x.state → IsFree to →
    Stand h.lines h.place h.first (plain (get_special a to) ∷ []) → h.place h.way.next ≡ h.first + 1 →
    Follows h form (stands t k x.state h.first) (gets_special a to x)
special-got h form t k x Hi to u free there next = one-line h form t k x (i.Mfhi to) u.running there next (effects.Write to x.state.core.hi) refl free
special-got h form t k x Lo to u free there next = one-line h form t k x (i.Mflo to) u.running there next (effects.Write to x.state.core.lo) refl free

pub special-set : (h : Site) (form : Form) (t : ℕ) (k : Rest) (x : Mach) (from : ℕ) (a : Special) → Usual x.state → IsFree from →
    Stand h.lines h.place h.first (plain (set_special from a) ∷ []) → h.place h.way.next ≡ h.first + 1 →
    Follows h form (stands t k x.state h.first) (sets_special from a x)
special-set h form t k x from Hi u other there next =
    one-line h form t k x (i.Mthi from) u.running there next (effects.Pair (reg x.state.core from) x.state.core.lo)
    (ap (λ z. effects.Pair z x.state.core.lo) (seen-other h.addresses h.first t k x.state from other)) tt
special-set h form t k x from Lo u other there next =
    one-line h form t k x (i.Mtlo from) u.running there next (effects.Pair x.state.core.hi (reg x.state.core from))
    (ap (λ z. effects.Pair x.state.core.hi z) (seen-other h.addresses h.first t k x.state from other)) tt

-- Calculations

calculation-does : (op : Calculation) (c : Core) (p q d : ℕ) (x : Mach) → does (effect_of (calculation op p q d) c) x ≡ writes d (computed op (reg c p) (reg c q)) x
calculation-does Add c p q d x = go (sum_overflows (reg c q) (reg c p))
  where
    go : (b : Bool) → does (if b then effects.Stop halts.Overflow else effects.Write d (word_sum (reg c q) (reg c p))) x
        ≡ writes d (if b then None else Some (word_sum (reg c q) (reg c p))) x
    go true = refl
    go false = refl
calculation-does Sub c p q d x = go (difference_overflows (reg c q) (reg c p))
  where
    go : (b : Bool) → does (if b then effects.Stop halts.Overflow else effects.Write d (word_difference (reg c q) (reg c p))) x
        ≡ writes d (if b then None else Some (word_difference (reg c q) (reg c p))) x
    go true = refl
    go false = refl
calculation-does AddU c p q d x = refl
calculation-does SubU c p q d x = refl
calculation-does And c p q d x = refl
calculation-does Or c p q d x = refl
calculation-does Xor c p q d x = refl
calculation-does Nor c p q d x = refl
calculation-does Sgt c p q d x = refl
calculation-does SgtU c p q d x = refl
calculation-does Sll c p q d x = refl
calculation-does Srl c p q d x = refl
calculation-does Sra c p q d x = refl

calculation-spares : (op : Calculation) (c : Core) (p q d : ℕ) → IsFree d → Spares (effect_of (calculation op p q d) c)
calculation-spares Add c p q d free = choice-spares (sum_overflows (reg c q) (reg c p)) (effects.Stop halts.Overflow) (effects.Write d (word_sum (reg c q) (reg c p))) tt free
calculation-spares Sub c p q d free = choice-spares (difference_overflows (reg c q) (reg c p)) (effects.Stop halts.Overflow) (effects.Write d (word_difference (reg c q) (reg c p))) tt free
calculation-spares AddU c p q d free = free
calculation-spares SubU c p q d free = free
calculation-spares And c p q d free = free
calculation-spares Or c p q d free = free
calculation-spares Xor c p q d free = free
calculation-spares Nor c p q d free = free
calculation-spares Sgt c p q d free = free
calculation-spares SgtU c p q d free = free
calculation-spares Sll c p q d free = free
calculation-spares Srl c p q d free = free
calculation-spares Sra c p q d free = free

pub calculated : (h : Site) (form : Form) (t : ℕ) (k : Rest) (x : Mach) (op : Calculation) (p q d : ℕ) → Usual x.state → IsFree p → IsFree q → IsFree d →
    Stand h.lines h.place h.first (plain (calculation op p q d) ∷ []) → h.place h.way.next ≡ h.first + 1 →
    Follows h form (stands t k x.state h.first) (writes d (computed op (reg x.state.core p) (reg x.state.core q)) x)
calculated h form t k x op p q d u hp hq free there next =
    let s : Core = seen h.addresses h.first t k x.state in
    let e : does (effect_of (calculation op p q d) s) x ≡ writes d (computed op (reg x.state.core p) (reg x.state.core q)) x =
    calculation-does op s p q d x
    ∙ ap (λ z. writes d (computed op z (reg s q)) x) (seen-other h.addresses h.first t k x.state p hp)
    ∙ ap (λ z. writes d (computed op (reg x.state.core p) z) x) (seen-other h.addresses h.first t k x.state q hq) in
    subst (λ z. Follows h form (stands t k x.state h.first) z) e
    (one-line h form t k x (calculation op p q d) u.running there next (effect_of (calculation op p q d) s) refl (calculation-spares op s p q d free))

pub calculated-constant : (h : Site) (form : Form) (t : ℕ) (k : Rest) (x : Mach) (op : Calculation) (c q d : ℕ) → Usual x.state → IsWord c → IsFree q → IsFree d →
    Stand h.lines h.place h.first (constant_lines c 28 ++ plain (calculation op 28 q d) ∷ []) →
    h.place h.way.next ≡ h.first + length (constant_lines c 28 ++ plain (calculation op 28 q d) ∷ []) →
    Follows h form (stands t k x.state h.first) (writes d (computed op (c % 2 ^ 32) (reg x.state.core q)) x)
calculated-constant h form t k x op c q d u small hq free there next =
    let ls : List Line = constant_lines c 28 in
    let n : ℕ = h.first + length ls in
    let r = constant-ready h h.first t k x.state c u small (stand-first h.lines h.place h.first ls (plain (calculation op 28 q d) ∷ []) there) in
    let last = stand-rest h.lines h.place h.first ls (plain (calculation op 28 q d) ∷ []) there in
    let s : Core = seen h.addresses n c r.rest x.state in
    let e : does (effect_of (calculation op 28 q d) s) x ≡ writes d (computed op (c % 2 ^ 32) (reg x.state.core q)) x =
    calculation-does op s 28 q d x
    ∙ ap (λ z. writes d (computed op z (reg s q)) x) (seen-temporary h.addresses n c r.rest x.state u.count ∙ omega (arith, small))
    ∙ ap (λ z. writes d (computed op (c % 2 ^ 32) z) x) (seen-other h.addresses n c r.rest x.state q hq) in
    subst (λ z. Follows h form (stands t k x.state h.first) z) e
    (last-line h form r.count (stands t k x.state h.first) n c r.rest x (placed h.place last.0 (plain (calculation op 28 q d))) r.run (omega (arith, r.few))
    (next ∙ ap (λ m. h.first + m) (length-append ls (plain (calculation op 28 q d) ∷ [])) ∙ omega arith) u.running last.1
    (effect_of (calculation op 28 q d) s) refl (calculation-spares op s 28 q d free))

low5-itself : (count : ℕ) → count < 32 → count ≡ low5 (count % 2 ^ 32)
low5-itself count few = omega (arith, few)

pub shifted : (h : Site) (form : Form) (t : ℕ) (k : Rest) (x : Mach) (op : Calculation) (count q d : ℕ) → Usual x.state → is_shift op ≡ true → count < 32 → IsFree q → IsFree d →
    Stand h.lines h.place h.first (shift_lines op count q d) → h.place h.way.next ≡ h.first + length (shift_lines op count q d) →
    Follows h form (stands t k x.state h.first) (writes d (computed op (count % 2 ^ 32) (reg x.state.core q)) x)
shifted h form t k x Sll count q d u shift few hq free there next =
    one-line h form t k x (i.Sll q d count) u.running there next (effects.Write d (shift_left (reg x.state.core q) (low5 (count % 2 ^ 32))))
    (ap (λ z. effects.Write d (shift_left z count)) (seen-other h.addresses h.first t k x.state q hq) ∙ ap (λ z. effects.Write d (shift_left (reg x.state.core q) z)) (low5-itself count few)) free
shifted h form t k x Srl count q d u shift few hq free there next =
    one-line h form t k x (i.Srl q d count) u.running there next (effects.Write d (shift_right (reg x.state.core q) (low5 (count % 2 ^ 32))))
    (ap (λ z. effects.Write d (shift_right z count)) (seen-other h.addresses h.first t k x.state q hq) ∙ ap (λ z. effects.Write d (shift_right (reg x.state.core q) z)) (low5-itself count few)) free
shifted h form t k x Sra count q d u shift few hq free there next =
    one-line h form t k x (i.Sra q d count) u.running there next (effects.Write d (shift_right_signed (reg x.state.core q) (low5 (count % 2 ^ 32))))
    (ap (λ z. effects.Write d (shift_right_signed z count)) (seen-other h.addresses h.first t k x.state q hq) ∙ ap (λ z. effects.Write d (shift_right_signed (reg x.state.core q) z)) (low5-itself count few)) free
shifted h form t k x Add count q d u shift few hq free there next = absurd (cc shift)
shifted h form t k x AddU count q d u shift few hq free there next = absurd (cc shift)
shifted h form t k x Sub count q d u shift few hq free there next = absurd (cc shift)
shifted h form t k x SubU count q d u shift few hq free there next = absurd (cc shift)
shifted h form t k x And count q d u shift few hq free there next = absurd (cc shift)
shifted h form t k x Or count q d u shift few hq free there next = absurd (cc shift)
shifted h form t k x Xor count q d u shift few hq free there next = absurd (cc shift)
shifted h form t k x Nor count q d u shift few hq free there next = absurd (cc shift)
shifted h form t k x Sgt count q d u shift few hq free there next = absurd (cc shift)
shifted h form t k x SgtU count q d u shift few hq free there next = absurd (cc shift)

-- Products and quotients

divided : (h : Site) (form : Form) (from : Straight) (z e : Bool) (rest quotient : ℕ) (x : Mach) →
    Follows h form from (does (if z then effects.Stop halts.Divide else effects.Pair rest quotient) x) → Follows h form from (if z || e then Undefined else write_pair rest quotient x)
divided h form from true e rest quotient x f = tt
divided h form from false true rest quotient x f = tt
divided h form from false false rest quotient x f = f

divided-plainly : (h : Site) (form : Form) (from : Straight) (z : Bool) (rest quotient : ℕ) (x : Mach) →
    Follows h form from (does (if z then effects.Stop halts.Divide else effects.Pair rest quotient) x) → Follows h form from (if z then Undefined else write_pair rest quotient x)
divided-plainly h form from true rest quotient x f = tt
divided-plainly h form from false rest quotient x f = f

-- the effect of a product of two words
abbrev product_effect : Product → ℕ → ℕ → Effect
product_effect Mul a b = effects.Pair (signed_product b a / 2 ^ 32) (signed_product b a % 2 ^ 32)
product_effect MulU a b = effects.Pair (unsigned_product b a / 2 ^ 32) (unsigned_product b a % 2 ^ 32)
product_effect Div a b = if a == 0 then effects.Stop halts.Divide else effects.Pair (signed_remainder b a) (signed_quotient b a)
product_effect DivU a b = if a == 0 then effects.Stop halts.Divide else effects.Pair (b % a) (b / a)

product-acts : (op : Product) (c : Core) (p q : ℕ) → effect_of (product op p q) c ≡ product_effect op (reg c p) (reg c q)
product-acts Mul c p q = refl
product-acts MulU c p q = refl
product-acts Div c p q = refl
product-acts DivU c p q = refl

product-spares : (op : Product) (a b : ℕ) → Spares (product_effect op a b)
product-spares Mul a b = tt
product-spares MulU a b = tt
product-spares Div a b = choice-spares (a == 0) (effects.Stop halts.Divide) (effects.Pair (signed_remainder b a) (signed_quotient b a)) tt tt
product-spares DivU a b = choice-spares (a == 0) (effects.Stop halts.Divide) (effects.Pair (b % a) (b / a)) tt tt

product-followed : (h : Site) (form : Form) (from : Straight) (op : Product) (a b : ℕ) (x : Mach) → Follows h form from (does (product_effect op a b) x) → Follows h form from (multiplied op a b x)
product-followed h form from Mul a b x f = f
product-followed h form from MulU a b x f = f
product-followed h form from Div a b x f = divided h form from (a == 0) ((b == 2 ^ 31) && (a == 2 ^ 32 - 1)) (signed_remainder b a) (signed_quotient b a) x f
product-followed h form from DivU a b x f = divided-plainly h form from (a == 0) (b % a) (b / a) x f

pub multiplies : (h : Site) (form : Form) (t : ℕ) (k : Rest) (x : Mach) (op : Product) (p q : ℕ) → Usual x.state → IsFree p → IsFree q →
    Stand h.lines h.place h.first (plain (product op p q) ∷ []) → h.place h.way.next ≡ h.first + 1 →
    Follows h form (stands t k x.state h.first) (multiplied op (reg x.state.core p) (reg x.state.core q) x)
multiplies h form t k x op p q u hp hq there next =
    let s : Core = seen h.addresses h.first t k x.state in
    product-followed h form (stands t k x.state h.first) op (reg x.state.core p) (reg x.state.core q) x
    (one-line h form t k x (product op p q) u.running there next (product_effect op (reg x.state.core p) (reg x.state.core q))
    (product-acts op s p q ∙ ap (λ z. product_effect op z (reg s q)) (seen-other h.addresses h.first t k x.state p hp)
    ∙ ap (λ z. product_effect op (reg x.state.core p) z) (seen-other h.addresses h.first t k x.state q hq))
    (product-spares op (reg x.state.core p) (reg x.state.core q)))
