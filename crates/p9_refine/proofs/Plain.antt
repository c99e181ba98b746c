-- What the steps of each form are, and what they leave of registers.
use Rattle.std.proofs.Common.{ℕ, ◌+◌, ◌-◌, ◌%◌, ◌^◌, ◌==◌, ◌&&◌, ◌||◌, ◌≡◌, nat_lt, Bool, true, false, Option, Some, None, List, length, take, min, refl, sym, ap, ◌∙◌, subst, if◌then◌else◌}
use Rattle.std.specs.Prelude.{slice_index}
use Rattle.p9_base.specs.declared.halt.Ending.{Ending}
use Rattle.p9_base.specs.declared.halt.Ending.TheVariants.{Running, Exited, Halted}
use Rattle.p9_base.specs.declared.halt.Effect.{Effect}
use Rattle.p9_base.specs.declared.halt.Effect.TheVariants as effects
use Rattle.p9_base.specs.declared.halt.Asked.{Asked}
use Rattle.p9_base.specs.declared.halt.Asked.TheVariants as asks
use Rattle.p9_base.specs.Core.{Core, text_start, stack_start, reg, with_reg, with_bytes, over}
use Rattle.p9_base.specs.SystemCalls.{State, asked, called}
use Rattle.p9_base.proofs.Holding.{with_reg-count-by, with_reg-zero-by}
use Rattle.p9_abs.specs.declared.forms.Special.{Special}
use Rattle.p9_abs.specs.declared.forms.Special.TheVariants.{Hi, Lo}
use Rattle.p9_abs.specs.declared.forms.Width.{Width}
use Rattle.p9_abs.specs.declared.forms.Product.{Product}
use Rattle.p9_abs.specs.declared.forms.Product.TheVariants.{Mul, MulU, Div, DivU}
use Rattle.p9_abs.specs.declared.forms.Form.{Form}
use Rattle.p9_abs.specs.declared.forms.Form.TheVariants as forms
use Rattle.p9_abs.specs.Steps.{Mach, Around, Step, Next, Turns, Calls, Returns, Exits, Undefined, Spot, At, Variable, Nowhere, spot_of, does, touches, load_effect, store_effect, bytes_of, loads, stores, takes_address, gets_special, sets_special, computed, writes, multiplied, is_free, room_free, ended, asks_system, acts}
use Rattle.p9_abs.proofs.Walking.{Walk, walked}
use Rattle.p9_refine.specs.Refining.{HasExited}

-- Forms that only go on or exit

abbrev pub is_plain : Form → Bool
is_plain (forms.BranchPair k a b l) = false
is_plain (forms.BranchSign k a l) = false
is_plain (forms.Jump l) = false
is_plain (forms.Call s) = false
is_plain (forms.CallRegister a) = false
is_plain forms.Return = false
is_plain _ = true

abbrev pub GoesOn : Step → Type 0
GoesOn (Next y) = Unit {0}
GoesOn (Exits y) = Unit {0}
GoesOn Undefined = Unit {0}
GoesOn (Turns taken y) = ⊥
GoesOn (Calls to y) = ⊥
GoesOn (Returns y) = ⊥

does-on : (e : Effect) (x : Mach) → GoesOn (does e x)
does-on (effects.Write r v) x = tt
does-on (effects.Load r v) x = tt
does-on (effects.Pair h l) x = tt
does-on (effects.StoreByte a v) x = tt
does-on (effects.StoreHalf a v) x = tt
does-on (effects.StoreWord a v) x = tt
does-on (effects.Branch link taken to) x = tt
does-on (effects.JumpTo link to) x = tt
does-on effects.Call x = tt
does-on (effects.Stop cause) x = tt

choice-on : (b : Bool) (s t : Step) → GoesOn s → GoesOn t → GoesOn (if b then s else t)
choice-on true s t h k = h
choice-on false s t h k = k

touch-on : (around : Around) (a n : ℕ) (e : Effect) (x : Mach) → GoesOn (touches around a n e x)
touch-on around a n e x = choice-on (is_free around.banned a n) (does e x) Undefined (does-on e x) tt

load-on : (around : Around) (w : Width) (q : Spot) (r : ℕ) (x : Mach) → GoesOn (loads around w q r x)
load-on around w (At a) r x = touch-on around a (bytes_of w) (load_effect w x.state.core r a) x
load-on around w (Variable v) r x = tt
load-on around w Nowhere r x = tt

store-on : (around : Around) (w : Width) (s : ℕ) (q : Spot) (x : Mach) → GoesOn (stores around w s q x)
store-on around w s (At a) x = touch-on around a (bytes_of w) (store_effect w x.state.core a (reg x.state.core s)) x
store-on around w s (Variable v) x = tt
store-on around w s Nowhere x = tt

address-on : (q : Spot) (r : ℕ) (x : Mach) → GoesOn (takes_address q r x)
address-on (At a) r x = tt
address-on (Variable v) r x = tt
address-on Nowhere r x = tt

special-got : (s : Special) (r : ℕ) (x : Mach) → GoesOn (gets_special s r x)
special-got Hi r x = tt
special-got Lo r x = tt

special-set : (r : ℕ) (s : Special) (x : Mach) → GoesOn (sets_special r s x)
special-set r Hi x = tt
special-set r Lo x = tt

written-on : (r : ℕ) (o : Option ℕ) (x : Mach) → GoesOn (writes r o x)
written-on r None x = tt
written-on r (Some v) x = tt

product-on : (k : Product) (a b : ℕ) (x : Mach) → GoesOn (multiplied k a b x)
product-on Mul a b x = tt
product-on MulU a b x = tt
product-on Div a b x = choice-on ((a == 0) || ((b == 2 ^ 31) && (a == 2 ^ 32 - 1))) Undefined _ tt tt
product-on DivU a b x = choice-on (a == 0) Undefined _ tt tt

ended-on : (e : Ending) (x : Mach) → GoesOn (ended e x)
ended-on Running x = tt
ended-on (Exited a n) x = tt
ended-on (Halted cause pc) x = tt

system-on : (around : Around) (q : Asked) (x : Mach) → GoesOn (asks_system around q x)
system-on around q x = choice-on (room_free around x.state.core q) _ Undefined (ended-on (called q x.state).core.ending _) tt

pub plain-on : (around : Around) (form : Form) (x : Mach) → is_plain form ≡ true → GoesOn (acts around form x)
plain-on around (forms.Move w a b) x h = tt
plain-on around (forms.SetConstant c b) x h = tt
plain-on around (forms.SetAddress a b) x h = address-on (spot_of around x.state.core a) b x
plain-on around (forms.Load w a b) x h = load-on around w (spot_of around x.state.core a) b x
plain-on around (forms.Store w a b) x h = store-on around w a (spot_of around x.state.core b) x
plain-on around (forms.GetHiLo a b) x h = special-got a b x
plain-on around (forms.SetHiLo a b) x h = special-set a b x
plain-on around (forms.Calculate k a b c) x h = written-on c (computed k (reg x.state.core a) (reg x.state.core b)) x
plain-on around (forms.CalculateConstant k a b c) x h = written-on c (computed k (a % 2 ^ 32) (reg x.state.core b)) x
plain-on around (forms.ShiftConstant k a b c) x h = written-on c (computed k (a % 2 ^ 32) (reg x.state.core b)) x
plain-on around (forms.Multiply k a b) x h = product-on k (reg x.state.core a) (reg x.state.core b) x
plain-on around (forms.BranchPair k a b l) x h = absurd (cc h)
plain-on around (forms.BranchSign k a l) x h = absurd (cc h)
plain-on around (forms.Jump l) x h = absurd (cc h)
plain-on around (forms.Call s) x h = absurd (cc h)
plain-on around (forms.CallRegister a) x h = absurd (cc h)
plain-on around forms.Return x h = absurd (cc h)
plain-on around forms.SystemCall x h = system-on around (asked x.state.core) x

-- Registers

-- there are 32 registers, and register 0 is 0
pub record HasRegisters (c : Core) : Type 0 where
  pub count : length c.regs ≡ 32
  pub zero_register : reg c 0 ≡ 0

-- a step goes on to the next instruction, still running
abbrev pub IsRegularStep : Mach → Step → Type 0
IsRegularStep x (Next y) = (y.at ≡ x.at + 1) × (y.state.core.ending ≡ Running) × HasRegisters y.state.core
IsRegularStep x (Exits y) = HasExited y.state.core.ending
IsRegularStep x (Turns taken y) = Unit {0}
IsRegularStep x (Calls to y) = Unit {0}
IsRegularStep x (Returns y) = Unit {0}
IsRegularStep x Undefined = Unit {0}

with-register : (c d : Core) (r v : ℕ) → d.regs ≡ with_reg c.regs r v → HasRegisters c → HasRegisters d
with-register c d r v e h = record {
  count = ap length e ∙ with_reg-count-by (r == 0) c.regs r v ∙ h.count;
  zero_register = ap (λ l. slice_index l 0) e ∙ with_reg-zero-by (r == 0) c.regs r v refl ∙ h.zero_register;
}

same-registers : (c d : Core) → d.regs ≡ c.regs → HasRegisters c → HasRegisters d
same-registers c d e h = record { count = ap length e ∙ h.count; zero_register = ap (λ l. slice_index l 0) e ∙ h.zero_register }

-- a write to one of the two parts of memory
in-memory : (b : Bool) (x : Mach) (low stack : List ℕ) → x.state.core.ending ≡ Running → HasRegisters x.state.core →
    (let d : Core = (if b then record x.state.core { low = low } else record x.state.core { stack = stack }) in (d.ending ≡ Running) × HasRegisters d)
in-memory true x low stack e h = (e, same-registers x.state.core (record x.state.core { low = low }) refl h)
in-memory false x low stack e h = (e, same-registers x.state.core (record x.state.core { stack = stack }) refl h)

choice-registers : (b : Bool) (c : Core) (low stack : List ℕ) → HasRegisters c → HasRegisters (if b then record c { low = low } else record c { stack = stack })
choice-registers true c low stack h = same-registers c (record c { low = low }) refl h
choice-registers false c low stack h = same-registers c (record c { stack = stack }) refl h

called-registers : (q : Asked) (s : State) → HasRegisters s.core → HasRegisters (called q s).core
called-registers (asks.Exits at len) s h = same-registers s.core (called (asks.Exits at len) s).core refl h
called-registers (asks.Read at n) s h =
    let k : ℕ = min n (length s.left) in
    let c : Core = with_bytes s.core at (take k s.left) in
    with-register c (called (asks.Read at n) s).core 1 k refl
    (choice-registers (nat_lt at stack_start) s.core (over s.core.low (at - text_start) (take k s.left)) (over s.core.stack (at - stack_start) (take k s.left)) h)
called-registers (asks.Write at n) s h = with-register s.core (called (asks.Write at n) s).core 1 n refl h
called-registers asks.Refused s h = with-register s.core (called asks.Refused s).core 1 (2 ^ 32 - 1) refl h
called-registers (asks.Stop cause) s h = same-registers s.core (called (asks.Stop cause) s).core refl h

ended-regular : (x : Mach) (e : Ending) (y : Mach) → e ≡ y.state.core.ending → y.at ≡ x.at + 1 → HasRegisters y.state.core → IsRegularStep x (ended e y)
ended-regular x Running y e at h = (at, sym e, h)
ended-regular x (Exited a n) y e at h = subst HasExited e tt
ended-regular x (Halted cause pc) y e at h = tt

regular-walk : (around : Around) (form : Form) (x : Mach) → x.state.core.ending ≡ Running → HasRegisters x.state.core → Walk around form x (IsRegularStep x)
regular-walk around form x running h = record {
  undefined = tt;
  register = λ r v d w. (refl, running, with-register x.state.core (record x.state.core { regs = with_reg x.state.core.regs r v }) r v refl h);
  pair = λ a l w. (refl, running, same-registers x.state.core (record x.state.core { hi = a; lo = l }) refl h);
  byte = λ a v f w s. (let m = in-memory (nat_lt a stack_start) x _ _ running h in (refl, m.0, m.1));
  half = λ a v f w. (let m = in-memory (nat_lt a stack_start) x _ _ running h in (refl, m.0, m.1));
  word = λ a v f w. (let m = in-memory (nat_lt a stack_start) x _ _ running h in (refl, m.0, m.1));
  variable = λ v value w. (refl, running, h);
  turn = λ taken l. tt;
  call = λ to. tt;
  back = tt;
  system = λ e f.
      (let s : State = called (asked x.state.core) x.state in
      ended-regular x s.core.ending (record x { state = s; at = x.at + 1 }) refl refl (called-registers (asked x.state.core) x.state h));
}

pub step-regular : (around : Around) (form : Form) (x : Mach) → x.state.core.ending ≡ Running → HasRegisters x.state.core → IsRegularStep x (acts around form x)
step-regular around form x running h = walked around form x (IsRegularStep x) (regular-walk around form x running h)
