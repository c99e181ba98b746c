-- The law for each form.
use Rattle.std.proofs.Common.{ℕ, ◌%◌, ◌^◌, ◌≡◌, refl, subst, sym, arith}
use Rattle.p9_abs.specs.declared.forms.Form.{Form}
use Rattle.p9_abs.specs.declared.forms.Form.TheVariants as forms
use Rattle.p9_base.specs.Words.{IsWord}
use Rattle.p9_abs.specs.Steps.{Mach, Around, write}
use Rattle.p9_lines.specs.declared.parts.Access.TheVariants.{Load, Store, Address}
use Rattle.p9_forms.specs.Standing.{stands}
use Rattle.p9_forms.specs.Following.{Site, Follows}
use Rattle.p9_forms.specs.Laws.{IsUsual, FormsDo}
use Rattle.p9_forms.proofs.Doing.{Usual, constant-moved}
use Rattle.p9_forms.proofs.Accessing.{location-followed}
use Rattle.p9_forms.proofs.Calculating.{register-moved, special-got, special-set, calculated, calculated-constant, shifted, multiplies}
use Rattle.p9_forms.proofs.Branching.{pair-branched, sign-branched, jumped, called-by-name, called-by-address}
use Rattle.p9_forms.proofs.Returning.{returns}
use Rattle.p9_forms.proofs.Asking.{asks-followed}

usual-of : (h : Site) (around : Around) (form : Form) (x : Mach) → IsUsual h around form x → Usual x.state
usual-of h around form x v = record { running = v.running; count = v.count; zero_register = v.zero_register; textless = v.textless }

word-itself : (c : ℕ) → IsWord c → c ≡ c % 2 ^ 32
word-itself c small = omega (arith, small)

pub forms_do : FormsDo
forms_do (forms.Move w a b) f h around x t k v = register-moved h (forms.Move w a b) t k x w a b (usual-of h around (forms.Move w a b) x v) f.0 f.1 v.there v.next
forms_do (forms.SetConstant c b) f h around x t k v =
    subst (λ z. Follows h (forms.SetConstant c b) (stands t k x.state h.first) (write b z x)) (word-itself c f.0)
    (constant-moved h (forms.SetConstant c b) t k x c b (usual-of h around (forms.SetConstant c b) x v) f.0 f.1 v.there v.next)
forms_do (forms.SetAddress a b) f h around x t k v =
    location-followed h (forms.SetAddress a b) t k x around (Address b) a (usual-of h around (forms.SetAddress a b) x v) f.1 f.0 v.taken v.symbols v.framed v.there v.next
forms_do (forms.Load w a b) f h around x t k v =
    location-followed h (forms.Load w a b) t k x around (Load w b) a (usual-of h around (forms.Load w a b) x v) f.1 f.0 v.taken v.symbols v.framed v.there v.next
forms_do (forms.Store w a b) f h around x t k v =
    location-followed h (forms.Store w a b) t k x around (Store w a) b (usual-of h around (forms.Store w a b) x v) f.1 f.0 v.taken v.symbols v.framed v.there v.next
forms_do (forms.GetHiLo a b) f h around x t k v = special-got h (forms.GetHiLo a b) t k x a b (usual-of h around (forms.GetHiLo a b) x v) f v.there v.next
forms_do (forms.SetHiLo a b) f h around x t k v = special-set h (forms.SetHiLo a b) t k x a b (usual-of h around (forms.SetHiLo a b) x v) f v.there v.next
forms_do (forms.Calculate op a b c) f h around x t k v =
    calculated h (forms.Calculate op a b c) t k x op a b c (usual-of h around (forms.Calculate op a b c) x v) f.0 f.1 f.2 v.there v.next
forms_do (forms.CalculateConstant op a b c) f h around x t k v =
    calculated-constant h (forms.CalculateConstant op a b c) t k x op a b c (usual-of h around (forms.CalculateConstant op a b c) x v) f.0 f.1 f.2 v.there v.next
forms_do (forms.ShiftConstant op a b c) f h around x t k v =
    shifted h (forms.ShiftConstant op a b c) t k x op a b c (usual-of h around (forms.ShiftConstant op a b c) x v) f.0 f.1 f.2 f.3 v.there v.next
forms_do (forms.Multiply op a b) f h around x t k v = multiplies h (forms.Multiply op a b) t k x op a b (usual-of h around (forms.Multiply op a b) x v) f.0 f.1 v.there v.next
forms_do (forms.BranchPair test a b l) f h around x t k v =
    pair-branched h (forms.BranchPair test a b l) t k x test a b l (usual-of h around (forms.BranchPair test a b l) x v) f.0 f.1 (v.goal refl) v.there v.next
forms_do (forms.BranchSign test a l) f h around x t k v =
    sign-branched h (forms.BranchSign test a l) t k x test a l (usual-of h around (forms.BranchSign test a l) x v) f (v.goal refl) v.there v.next
forms_do (forms.Jump l) f h around x t k v = jumped h (forms.Jump l) t k x l (usual-of h around (forms.Jump l) x v) v.there
forms_do (forms.Call s) f h around x t k v = called-by-name h t k x s (around.symbol s) (usual-of h around (forms.Call s) x v) v.there v.next
forms_do (forms.CallRegister a) f h around x t k v = called-by-address h t k x a (usual-of h around (forms.CallRegister a) x v) f v.there v.next
forms_do forms.Return f h around x t k v = returns h t k x (usual-of h around forms.Return x v) v.stack (subst IsWord (sym v.taken) v.small) v.there
forms_do forms.SystemCall f h around x t k v = asks-followed h forms.SystemCall t k x around (usual-of h around forms.SystemCall x v) v.there v.next
