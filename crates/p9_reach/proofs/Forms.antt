-- The fields of the lines of each form fit their bits.
use Rattle.std.proofs.Common.{ℕ, ◌+◌, ◌-◌, ◌%◌, ◌^◌, ◌==◌, ◌≡◌, ◌<◌, nat_lt, Bool, true, false, Option, Some, None, List, [], ◌∷◌, ◌++◌, refl, All, if◌then◌else◌, arith}
use Rattle.std.proofs.lemmas.List.Elements.{All-nil, All-cons}
use Rattle.std.proofs.lemmas.Bool.Decides.{nat_tests}
use Rattle.p9_base.specs.Words.{IsWord}
use Rattle.p9_abs.specs.declared.forms.Location.{Location}
use Rattle.p9_abs.specs.declared.forms.Location.TheVariants.{Static, Argument, Frame, Based, Automatic}
use Rattle.p9_abs.specs.declared.forms.Special.{Special}
use Rattle.p9_abs.specs.declared.forms.Special.TheVariants.{Hi, Lo}
use Rattle.p9_abs.specs.declared.forms.Width.{Width}
use Rattle.p9_abs.specs.declared.forms.Width.TheVariants.{Word, SignedHalf, UnsignedHalf, SignedByte, UnsignedByte}
use Rattle.p9_abs.specs.declared.forms.Calculation.{Calculation}
use Rattle.p9_abs.specs.declared.forms.Calculation.TheVariants.{Add, AddU, Sub, SubU, And, Or, Xor, Nor, Sgt, SgtU, Sll, Srl, Sra}
use Rattle.p9_abs.specs.declared.forms.Product.{Product}
use Rattle.p9_abs.specs.declared.forms.Product.TheVariants.{Mul, MulU, Div, DivU}
use Rattle.p9_abs.specs.declared.forms.PairTest.{PairTest}
use Rattle.p9_abs.specs.declared.forms.PairTest.TheVariants.{Equal, Unequal}
use Rattle.p9_abs.specs.declared.forms.SignTest.{SignTest}
use Rattle.p9_abs.specs.declared.forms.SignTest.TheVariants.{NotNegative, Positive, NotPositive, Negative}
use Rattle.p9_abs.specs.declared.forms.Form.{Form}
use Rattle.p9_abs.specs.declared.forms.Form.TheVariants as forms
use Rattle.p9_r3k.specs.declared.inst.Inst.{Inst}
use Rattle.p9_r3k.specs.declared.inst.Inst.TheVariants as i
use Rattle.p9_r3k.specs.declared.lines.Line.{Line}
use Rattle.p9_r3k.specs.Table.{Fits}
use Rattle.p9_lines.specs.declared.parts.Access.{Access}
use Rattle.p9_lines.specs.declared.parts.Access.TheVariants.{Load, Store, Address}
use Rattle.p9_lines.specs.declared.parts.Setting.{Setting}
use Rattle.p9_lines.specs.declared.parts.Way.{Way}
use Rattle.p9_lines.specs.Insts.{access_inst, get_special, set_special, calculation, product, pair_branch, sign_branch, other_pair, other_sign}
use Rattle.p9_lines.specs.FormLines.{plain, going_to, stop, is_near, high_of, upper_of, low_of, constant_lines, near_lines, symbol_lines, static_lines, access_lines, move_lines, shift_lines, jump_lines, raise_lines, lower_lines, entry_lines, lines_of, start_lines}
use Rattle.p9_forms.specs.Laws.{IsFine}
use Rattle.p9_reach.proofs.Small.{IsRegister, IsSmallLocation, IsSmall}

-- the fields of each line's instruction fit
abbrev pub AllFit : List Line → Type 0
AllFit [] = Unit {0}
AllFit (line ∷ rest) = Fits line.inst × AllFit rest

pub fit-append : (xs ys : List Line) → AllFit xs → AllFit ys → AllFit (xs ++ ys)
fit-append [] ys h k = k
fit-append (x ∷ xs) ys h k = (h.0, fit-append xs ys h.1 k)

pub fit-all : (xs : List Line) → AllFit xs → All (λ (line : Line). Fits line.inst) xs
fit-all [] h = All-nil (λ (line : Line). Fits line.inst)
fit-all (x ∷ xs) h = All-cons (λ (line : Line). Fits line.inst) x xs h.0 (fit-all xs h.1)

-- Constants

low-fits : (o : ℕ) → low_of o < 2 ^ 16
low-fits o = omega arith

high-fits : (o : ℕ) → high_of o < 2 ^ 16
high-fits o = omega arith

upper-fits : (c : ℕ) → IsWord c → upper_of c < 2 ^ 16
upper-fits c h = omega (arith, h)

constant-by : (a b z : Bool) (c to : ℕ) → IsWord c → IsRegister to → nat_lt c (2 ^ 16) ≡ b →
    AllFit (if a then plain (i.Addiu 0 to (low_of c)) ∷ [] else (if b then plain (i.Ori 0 to c) ∷ [] else (if z then plain (i.Lui to (upper_of c)) ∷ [] else plain (i.Lui 28 (upper_of c)) ∷ plain (i.Ori 28 to (low_of c)) ∷ [])))
constant-by true b z c to word reg e = ((omega arith, reg, low-fits c), tt)
constant-by false true z c to word reg e = ((omega arith, reg, (let small : c < 2 ^ 16 = grind (arith, nat_tests) in small)), tt)
constant-by false false true c to word reg e = ((reg, upper-fits c word), tt)
constant-by false false false c to word reg e = ((omega arith, upper-fits c word), ((omega arith, reg, low-fits c), tt))

constant-fits : (c to : ℕ) → IsWord c → IsRegister to → AllFit (constant_lines c to)
constant-fits c to word reg = constant-by (is_near c) (nat_lt c (2 ^ 16)) (low_of c == 0) c to word reg refl

-- Accesses

abbrev AccessSmall : Access → Type 0
AccessSmall (Load width to) = IsRegister to
AccessSmall (Store width from) = IsRegister from
AccessSmall (Address to) = IsRegister to

access-fits : (access : Access) (base half : ℕ) → AccessSmall access → IsRegister base → half < 2 ^ 16 → Fits (access_inst access base half)
access-fits (Load Word to) base half a b h = (b, a, h)
access-fits (Load SignedHalf to) base half a b h = (b, a, h)
access-fits (Load UnsignedHalf to) base half a b h = (b, a, h)
access-fits (Load SignedByte to) base half a b h = (b, a, h)
access-fits (Load UnsignedByte to) base half a b h = (b, a, h)
access-fits (Store Word from) base half a b h = (b, a, h)
access-fits (Store SignedHalf from) base half a b h = (b, a, h)
access-fits (Store UnsignedHalf from) base half a b h = (b, a, h)
access-fits (Store SignedByte from) base half a b h = (b, a, h)
access-fits (Store UnsignedByte from) base half a b h = (b, a, h)
access-fits (Address to) base half a b h = (b, a, h)

near-by : (access : Access) (near : Bool) (base o : ℕ) → AccessSmall access → IsRegister base →
    AllFit (if near then plain (access_inst access base (low_of o)) ∷ [] else plain (i.Lui 28 (high_of o)) ∷ plain (i.Addu base 28 28) ∷ plain (access_inst access 28 (low_of o)) ∷ [])
near-by access true base o a b = (access-fits access base (low_of o) a b (low-fits o), tt)
near-by access false base o a b =
    ((omega arith, high-fits o), ((b, omega arith, omega arith), (access-fits access 28 (low_of o) a (omega arith) (low-fits o), tt)))

near-fits : (access : Access) (base o : ℕ) → AccessSmall access → IsRegister base → AllFit (near_lines access base o)
near-fits access base o a b = near-by access (is_near o) base o a b

symbol-fits : (unit symbol o to : ℕ) → IsRegister to → AllFit (symbol_lines unit symbol o to)
symbol-fits unit symbol o to h = ((omega arith, omega arith), ((omega arith, h, omega arith), tt))

static-fits : (access : Access) (unit symbol o : ℕ) → AccessSmall access → AllFit (static_lines access unit symbol o)
static-fits (Load width to) unit symbol o a =
    fit-append (symbol_lines unit symbol o 28) (plain (access_inst (Load width to) 28 0) ∷ []) (symbol-fits unit symbol o 28 (omega arith))
    (access-fits (Load width to) 28 0 a (omega arith) (omega arith), tt)
static-fits (Store width from) unit symbol o a =
    fit-append (symbol_lines unit symbol o 28) (plain (access_inst (Store width from) 28 0) ∷ []) (symbol-fits unit symbol o 28 (omega arith))
    (access-fits (Store width from) 28 0 a (omega arith) (omega arith), tt)
static-fits (Address to) unit symbol o a = symbol-fits unit symbol o to a

stop-fits : AllFit stop
stop-fits = (let small : 0 < 2 ^ 20 = omega arith in small, tt)

located-fits : (g : Setting) (access : Access) (l : Location) → AccessSmall access → IsSmallLocation l → AllFit (access_lines g access l)
located-fits g access (Static symbol o) a h = static-fits access g.unit symbol o a
located-fits g access (Argument o) a h = near-fits access 29 ((g.taken + 4 + o) % 2 ^ 32) a (omega arith)
located-fits g access (Frame o) a h = near-fits access 29 ((g.taken + o) % 2 ^ 32) a (omega arith)
located-fits g access (Based r o) a h = near-fits access r o a h
located-fits g access (Automatic v o) a h = stop-fits

-- Registers

move-fits : (w : Width) (from to : ℕ) → IsRegister from → IsRegister to → AllFit (move_lines w from to)
move-fits Word from to a b = ((a, omega arith, b), tt)
move-fits SignedHalf from to a b = ((a, omega arith, omega arith), ((omega arith, b, omega arith), tt))
move-fits UnsignedHalf from to a b = ((a, b, omega arith), tt)
move-fits SignedByte from to a b = ((a, omega arith, omega arith), ((omega arith, b, omega arith), tt))
move-fits UnsignedByte from to a b = ((a, b, omega arith), tt)

shift-fits : (k : Calculation) (count from to : ℕ) → count < 32 → IsRegister from → IsRegister to → AllFit (shift_lines k count from to)
shift-fits Sll count from to c a b = ((a, b, c), tt)
shift-fits Srl count from to c a b = ((a, b, c), tt)
shift-fits Sra count from to c a b = ((a, b, c), tt)
shift-fits Add count from to c a b = stop-fits
shift-fits AddU count from to c a b = stop-fits
shift-fits Sub count from to c a b = stop-fits
shift-fits SubU count from to c a b = stop-fits
shift-fits And count from to c a b = stop-fits
shift-fits Or count from to c a b = stop-fits
shift-fits Xor count from to c a b = stop-fits
shift-fits Nor count from to c a b = stop-fits
shift-fits Sgt count from to c a b = stop-fits
shift-fits SgtU count from to c a b = stop-fits

calculation-fits : (k : Calculation) (a b c : ℕ) → IsRegister a → IsRegister b → IsRegister c → Fits (calculation k a b c)
calculation-fits Add a b c x y z = (y, x, z)
calculation-fits AddU a b c x y z = (y, x, z)
calculation-fits Sub a b c x y z = (y, x, z)
calculation-fits SubU a b c x y z = (y, x, z)
calculation-fits And a b c x y z = (y, x, z)
calculation-fits Or a b c x y z = (y, x, z)
calculation-fits Xor a b c x y z = (y, x, z)
calculation-fits Nor a b c x y z = (y, x, z)
calculation-fits Sgt a b c x y z = (y, x, z)
calculation-fits SgtU a b c x y z = (y, x, z)
calculation-fits Sll a b c x y z = (x, y, z)
calculation-fits Srl a b c x y z = (x, y, z)
calculation-fits Sra a b c x y z = (x, y, z)

product-fits : (k : Product) (a b : ℕ) → IsRegister a → IsRegister b → Fits (product k a b)
product-fits Mul a b x y = (y, x)
product-fits MulU a b x y = (y, x)
product-fits Div a b x y = (y, x)
product-fits DivU a b x y = (y, x)

get-fits : (s : Special) (to : ℕ) → IsRegister to → Fits (get_special s to)
get-fits Hi to h = h
get-fits Lo to h = h

set-fits : (from : ℕ) (s : Special) → IsRegister from → Fits (set_special from s)
set-fits from Hi h = h
set-fits from Lo h = h

-- Ways

pair-fits : (t : PairTest) (a b : ℕ) → IsRegister a → IsRegister b → Fits (pair_branch t a b)
pair-fits Equal a b x y = (x, y, omega arith)
pair-fits Unequal a b x y = (x, y, omega arith)

sign-fits : (t : SignTest) (a : ℕ) → IsRegister a → Fits (sign_branch t a)
sign-fits NotNegative a x = (x, omega arith)
sign-fits Positive a x = (x, omega arith)
sign-fits NotPositive a x = (x, omega arith)
sign-fits Negative a x = (x, omega arith)

jump-fits : (inst : Inst) (goal : Option ℕ) → Fits inst → AllFit (jump_lines inst goal)
jump-fits inst None h = stop-fits
jump-fits inst (Some goal) h = (h, tt)

branch-by : (short : Bool) (next : ℕ) (goal : Option ℕ) (branch other : Inst) → Fits branch → Fits other →
    AllFit (if short then jump_lines branch goal else going_to other next ∷ jump_lines (i.J 0) goal)
branch-by true next goal branch other h k = jump-fits branch goal h
branch-by false next goal branch other h k = (k, jump-fits (i.J 0) goal (let small : 0 < 2 ^ 26 = omega arith in small))

-- The frame

raise-by : (near : Bool) (n : ℕ) → IsWord n → nat_lt n (2 ^ 15) ≡ near →
    AllFit (if near then plain (i.Addiu 29 29 n) ∷ [] else constant_lines n 28 ++ plain (i.Addu 29 28 29) ∷ [])
raise-by true n word e = ((omega arith, omega arith, (let small : n < 2 ^ 15 = grind (arith, nat_tests) in omega (arith, small))), tt)
raise-by false n word e =
    fit-append (constant_lines n 28) (plain (i.Addu 29 28 29) ∷ []) (constant-fits n 28 word (omega arith)) ((omega arith, omega arith, omega arith), tt)

lower-by : (near : Bool) (n : ℕ) → IsWord n →
    AllFit (if near then plain (i.Addiu 29 29 ((2 ^ 16 - n) % 2 ^ 16)) ∷ [] else constant_lines n 28 ++ plain (i.Subu 29 28 29) ∷ [])
lower-by true n word = ((omega arith, omega arith, omega arith), tt)
lower-by false n word =
    fit-append (constant_lines n 28) (plain (i.Subu 29 28 29) ∷ []) (constant-fits n 28 word (omega arith)) ((omega arith, omega arith, omega arith), tt)

entry-by : (keeps : Bool) (n : ℕ) → IsWord n → AllFit (if keeps then lower_lines n ++ plain (i.Sw 29 31 0) ∷ [] else [])
entry-by true n word = fit-append (lower_lines n) (plain (i.Sw 29 31 0) ∷ []) (lower-by (nat_lt n (2 ^ 15)) n word) ((omega arith, omega arith, omega arith), tt)
entry-by false n word = tt

pub entry-fits : (g : Setting) → IsWord g.taken → AllFit (entry_lines g)
entry-fits g word = entry-by g.keeps g.taken word

return-by : (keeps : Bool) (n : ℕ) → IsWord n → AllFit (if keeps then plain (i.Lw 29 31 0) ∷ (raise_lines n ++ plain (i.Jr 31) ∷ []) else plain (i.Jr 31) ∷ [])
return-by true n word =
    let small : 31 < 2 ^ 5 = omega arith in
    ((omega arith, omega arith, omega arith), fit-append (raise_lines n) (plain (i.Jr 31) ∷ []) (raise-by (nat_lt n (2 ^ 15)) n word refl) (small, tt))
return-by false n word = (let small : 31 < 2 ^ 5 = omega arith in small, tt)

-- Forms

pub form-fits : (g : Setting) (w : Way) (form : Form) → IsWord g.taken → IsSmall form → IsFine form → AllFit (lines_of g w form)
form-fits g w (forms.Move width a b) t h f = move-fits width a b h.0 h.1
form-fits g w (forms.SetConstant c b) t h f = constant-fits c b f.0 h
form-fits g w (forms.SetAddress a b) t h f = located-fits g (Address b) a h.1 h.0
form-fits g w (forms.Load width a b) t h f = located-fits g (Load width b) a h.1 h.0
form-fits g w (forms.Store width a b) t h f = located-fits g (Store width a) b h.1 h.0
form-fits g w (forms.GetHiLo s b) t h f = (get-fits s b h, tt)
form-fits g w (forms.SetHiLo a s) t h f = (set-fits a s h, tt)
form-fits g w (forms.Calculate k a b c) t h f = (calculation-fits k a b c h.0 h.1 h.2, tt)
form-fits g w (forms.CalculateConstant k a b c) t h f =
    fit-append (constant_lines a 28) (plain (calculation k 28 b c) ∷ []) (constant-fits a 28 f.0 (omega arith)) (calculation-fits k 28 b c (omega arith) h.0 h.1, tt)
form-fits g w (forms.ShiftConstant k a b c) t h f = shift-fits k a b c h.0 h.1 h.2
form-fits g w (forms.Multiply k a b) t h f = (product-fits k a b h.0 h.1, tt)
form-fits g w (forms.BranchPair k a b l) t h f =
    branch-by w.short w.next w.goal (pair_branch k a b) (pair_branch (other_pair k) a b) (pair-fits k a b h.0 h.1) (pair-fits (other_pair k) a b h.0 h.1)
form-fits g w (forms.BranchSign k a l) t h f =
    branch-by w.short w.next w.goal (sign_branch k a) (sign_branch (other_sign k) a) (sign-fits k a h) (sign-fits (other_sign k) a h)
form-fits g w (forms.Jump l) t h f = jump-fits (i.J 0) w.goal (let small : 0 < 2 ^ 26 = omega arith in small)
form-fits g w (forms.Call s) t h f = jump-fits (i.Jal 0) w.goal (let small : 0 < 2 ^ 26 = omega arith in small)
form-fits g w (forms.CallRegister a) t h f = ((h, omega arith), tt)
form-fits g w forms.Return t h f = return-by g.keeps g.taken t
form-fits g w forms.SystemCall t h f = (let small : 0 < 2 ^ 20 = omega arith in small, tt)

pub start-fits : (unit symbol offset : ℕ) → AllFit (start_lines unit symbol offset)
start-fits unit symbol offset = ((omega arith, omega arith), ((omega arith, omega arith, omega arith), tt))
