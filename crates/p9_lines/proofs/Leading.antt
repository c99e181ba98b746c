-- Where lines go: each branch, jump and call has a target, which is the next instruction or the goal.
use Rattle.std.proofs.Common.{ℕ, ◌+◌, ◌-◌, ◌%◌, ◌^◌, ◌==◌, ◌≡◌, nat_lt, Bool, true, false, Option, Some, None, if◌then◌else◌, [], ◌∷◌, ◌++◌, refl, inl, inr}
use Rattle.p9_abs.specs.declared.forms.Location.{Location}
use Rattle.p9_abs.specs.declared.forms.Location.TheVariants.{Static, Argument, Frame, Based, Automatic}
use Rattle.p9_abs.specs.declared.forms.Special.{Special}
use Rattle.p9_abs.specs.declared.forms.Special.TheVariants.{Hi, Lo}
use Rattle.p9_abs.specs.declared.forms.Width.{Width}
use Rattle.p9_abs.specs.declared.forms.Width.TheVariants.{Word, SignedHalf, UnsignedHalf, SignedByte, UnsignedByte}
use Rattle.p9_abs.specs.declared.forms.Calculation.{Calculation}
use Rattle.p9_abs.specs.declared.forms.Calculation.TheVariants.{Add, AddU, Sub, SubU, And, Or, Xor, Nor, Sgt, SgtU, Sll, Srl, Sra}
use Rattle.p9_abs.specs.declared.forms.Product.{Product}
use Rattle.p9_abs.specs.declared.forms.Product.TheVariants.{Mul, MulU, Div, DivU}
use Rattle.p9_abs.specs.declared.forms.PairTest.{PairTest}
use Rattle.p9_abs.specs.declared.forms.PairTest.TheVariants.{Equal, Unequal}
use Rattle.p9_abs.specs.declared.forms.SignTest.{SignTest}
use Rattle.p9_abs.specs.declared.forms.SignTest.TheVariants.{NotNegative, Positive, NotPositive, Negative}
use Rattle.p9_abs.specs.declared.forms.Form.TheVariants as forms
use Rattle.p9_r3k.specs.declared.inst.Inst.TheVariants as i
use Rattle.p9_lines.specs.declared.parts.Access.{Access}
use Rattle.p9_lines.specs.declared.parts.Access.TheVariants.{Load, Store, Address}
use Rattle.p9_lines.specs.declared.parts.Setting.{Setting}
use Rattle.p9_lines.specs.declared.parts.Way.{Way}
use Rattle.p9_lines.specs.Insts.{access_inst, get_special, set_special, calculation, product, pair_branch, sign_branch, other_pair, other_sign}
use Rattle.p9_lines.specs.FormLines.{plain, going_to, stop, is_near, high_of, upper_of, low_of, constant_lines, static_lines, access_lines, move_lines, shift_lines, jump_lines, raise_lines, lower_lines}
use Rattle.p9_lines.specs.Laws.{Lead, LeadsAll, EntryLeads}

-- constants

constant-by : (m : Bool) (w : Way) (a b z : Bool) (c to : ℕ) → Lead m w (if a then plain (i.Addiu 0 to (low_of c)) ∷ [] else (if b then plain (i.Ori 0 to c) ∷ [] else (if z then plain (i.Lui to (upper_of c)) ∷ [] else plain (i.Lui 28 (upper_of c)) ∷ plain (i.Ori 28 to (low_of c)) ∷ [])))
constant-by m w true b z c to = (refl, tt)
constant-by m w false true z c to = (refl, tt)
constant-by m w false false true c to = (refl, tt)
constant-by m w false false false c to = (refl, (refl, tt))

constant-lines : (m : Bool) (w : Way) (c to : ℕ) → Lead m w (constant_lines c to)
constant-lines m w c to = constant-by m w (is_near c) (nat_lt c (2 ^ 16)) (low_of c == 0) c to

-- accesses

near-by : (m : Bool) (w : Way) (access : Access) (near : Bool) (base o : ℕ) → Lead m w (if near then plain (access_inst access base (low_of o)) ∷ [] else plain (i.Lui 28 (high_of o)) ∷ plain (i.Addu base 28 28) ∷ plain (access_inst access 28 (low_of o)) ∷ [])
near-by m w (Load Word to) true base o = (refl, tt)
near-by m w (Load Word to) false base o = (refl, (refl, (refl, tt)))
near-by m w (Load SignedHalf to) true base o = (refl, tt)
near-by m w (Load SignedHalf to) false base o = (refl, (refl, (refl, tt)))
near-by m w (Load UnsignedHalf to) true base o = (refl, tt)
near-by m w (Load UnsignedHalf to) false base o = (refl, (refl, (refl, tt)))
near-by m w (Load SignedByte to) true base o = (refl, tt)
near-by m w (Load SignedByte to) false base o = (refl, (refl, (refl, tt)))
near-by m w (Load UnsignedByte to) true base o = (refl, tt)
near-by m w (Load UnsignedByte to) false base o = (refl, (refl, (refl, tt)))
near-by m w (Store Word from) true base o = (refl, tt)
near-by m w (Store Word from) false base o = (refl, (refl, (refl, tt)))
near-by m w (Store SignedHalf from) true base o = (refl, tt)
near-by m w (Store SignedHalf from) false base o = (refl, (refl, (refl, tt)))
near-by m w (Store UnsignedHalf from) true base o = (refl, tt)
near-by m w (Store UnsignedHalf from) false base o = (refl, (refl, (refl, tt)))
near-by m w (Store SignedByte from) true base o = (refl, tt)
near-by m w (Store SignedByte from) false base o = (refl, (refl, (refl, tt)))
near-by m w (Store UnsignedByte from) true base o = (refl, tt)
near-by m w (Store UnsignedByte from) false base o = (refl, (refl, (refl, tt)))
near-by m w (Address to) true base o = (refl, tt)
near-by m w (Address to) false base o = (refl, (refl, (refl, tt)))

static-by : (m : Bool) (w : Way) (access : Access) (unit symbol o : ℕ) → Lead m w (static_lines access unit symbol o)
static-by m w (Load Word to) unit symbol o = (refl, (refl, (refl, tt)))
static-by m w (Load SignedHalf to) unit symbol o = (refl, (refl, (refl, tt)))
static-by m w (Load UnsignedHalf to) unit symbol o = (refl, (refl, (refl, tt)))
static-by m w (Load SignedByte to) unit symbol o = (refl, (refl, (refl, tt)))
static-by m w (Load UnsignedByte to) unit symbol o = (refl, (refl, (refl, tt)))
static-by m w (Store Word from) unit symbol o = (refl, (refl, (refl, tt)))
static-by m w (Store SignedHalf from) unit symbol o = (refl, (refl, (refl, tt)))
static-by m w (Store UnsignedHalf from) unit symbol o = (refl, (refl, (refl, tt)))
static-by m w (Store SignedByte from) unit symbol o = (refl, (refl, (refl, tt)))
static-by m w (Store UnsignedByte from) unit symbol o = (refl, (refl, (refl, tt)))
static-by m w (Address to) unit symbol o = (refl, (refl, tt))

stop-by : (m : Bool) (w : Way) (access : Access) → Lead m w stop
stop-by m w (Load w' to) = (refl, tt)
stop-by m w (Store w' from) = (refl, tt)
stop-by m w (Address to) = (refl, tt)

access-lines : (m : Bool) (w : Way) (g : Setting) (access : Access) (at : Location) → Lead m w (access_lines g access at)
access-lines m w g access (Static symbol o) = static-by m w access g.unit symbol o
access-lines m w g access (Argument o) = near-by m w access (is_near ((g.taken + 4 + o) % 2 ^ 32)) 29 ((g.taken + 4 + o) % 2 ^ 32)
access-lines m w g access (Frame o) = near-by m w access (is_near ((g.taken + o) % 2 ^ 32)) 29 ((g.taken + o) % 2 ^ 32)
access-lines m w g access (Based r o) = near-by m w access (is_near o) r o
access-lines m w g access (Automatic v o) = stop-by m w access

-- calculations with a constant

constant_calculation-by : (m : Bool) (w : Way) (k : Calculation) (a b z : Bool) (c d to : ℕ) → Lead m w ((if a then plain (i.Addiu 0 28 (low_of c)) ∷ [] else (if b then plain (i.Ori 0 28 c) ∷ [] else (if z then plain (i.Lui 28 (upper_of c)) ∷ [] else plain (i.Lui 28 (upper_of c)) ∷ plain (i.Ori 28 28 (low_of c)) ∷ []))) ++ plain (calculation k 28 d to) ∷ [])
constant_calculation-by m w Add true b z c d to = (refl, (refl, tt))
constant_calculation-by m w Add false true z c d to = (refl, (refl, tt))
constant_calculation-by m w Add false false true c d to = (refl, (refl, tt))
constant_calculation-by m w Add false false false c d to = (refl, (refl, (refl, tt)))
constant_calculation-by m w AddU true b z c d to = (refl, (refl, tt))
constant_calculation-by m w AddU false true z c d to = (refl, (refl, tt))
constant_calculation-by m w AddU false false true c d to = (refl, (refl, tt))
constant_calculation-by m w AddU false false false c d to = (refl, (refl, (refl, tt)))
constant_calculation-by m w Sub true b z c d to = (refl, (refl, tt))
constant_calculation-by m w Sub false true z c d to = (refl, (refl, tt))
constant_calculation-by m w Sub false false true c d to = (refl, (refl, tt))
constant_calculation-by m w Sub false false false c d to = (refl, (refl, (refl, tt)))
constant_calculation-by m w SubU true b z c d to = (refl, (refl, tt))
constant_calculation-by m w SubU false true z c d to = (refl, (refl, tt))
constant_calculation-by m w SubU false false true c d to = (refl, (refl, tt))
constant_calculation-by m w SubU false false false c d to = (refl, (refl, (refl, tt)))
constant_calculation-by m w And true b z c d to = (refl, (refl, tt))
constant_calculation-by m w And false true z c d to = (refl, (refl, tt))
constant_calculation-by m w And false false true c d to = (refl, (refl, tt))
constant_calculation-by m w And false false false c d to = (refl, (refl, (refl, tt)))
constant_calculation-by m w Or true b z c d to = (refl, (refl, tt))
constant_calculation-by m w Or false true z c d to = (refl, (refl, tt))
constant_calculation-by m w Or false false true c d to = (refl, (refl, tt))
constant_calculation-by m w Or false false false c d to = (refl, (refl, (refl, tt)))
constant_calculation-by m w Xor true b z c d to = (refl, (refl, tt))
constant_calculation-by m w Xor false true z c d to = (refl, (refl, tt))
constant_calculation-by m w Xor false false true c d to = (refl, (refl, tt))
constant_calculation-by m w Xor false false false c d to = (refl, (refl, (refl, tt)))
constant_calculation-by m w Nor true b z c d to = (refl, (refl, tt))
constant_calculation-by m w Nor false true z c d to = (refl, (refl, tt))
constant_calculation-by m w Nor false false true c d to = (refl, (refl, tt))
constant_calculation-by m w Nor false false false c d to = (refl, (refl, (refl, tt)))
constant_calculation-by m w Sgt true b z c d to = (refl, (refl, tt))
constant_calculation-by m w Sgt false true z c d to = (refl, (refl, tt))
constant_calculation-by m w Sgt false false true c d to = (refl, (refl, tt))
constant_calculation-by m w Sgt false false false c d to = (refl, (refl, (refl, tt)))
constant_calculation-by m w SgtU true b z c d to = (refl, (refl, tt))
constant_calculation-by m w SgtU false true z c d to = (refl, (refl, tt))
constant_calculation-by m w SgtU false false true c d to = (refl, (refl, tt))
constant_calculation-by m w SgtU false false false c d to = (refl, (refl, (refl, tt)))
constant_calculation-by m w Sll true b z c d to = (refl, (refl, tt))
constant_calculation-by m w Sll false true z c d to = (refl, (refl, tt))
constant_calculation-by m w Sll false false true c d to = (refl, (refl, tt))
constant_calculation-by m w Sll false false false c d to = (refl, (refl, (refl, tt)))
constant_calculation-by m w Srl true b z c d to = (refl, (refl, tt))
constant_calculation-by m w Srl false true z c d to = (refl, (refl, tt))
constant_calculation-by m w Srl false false true c d to = (refl, (refl, tt))
constant_calculation-by m w Srl false false false c d to = (refl, (refl, (refl, tt)))
constant_calculation-by m w Sra true b z c d to = (refl, (refl, tt))
constant_calculation-by m w Sra false true z c d to = (refl, (refl, tt))
constant_calculation-by m w Sra false false true c d to = (refl, (refl, tt))
constant_calculation-by m w Sra false false false c d to = (refl, (refl, (refl, tt)))

calculation-by : (m : Bool) (w : Way) (k : Calculation) (a b c : ℕ) → Lead m w (plain (calculation k a b c) ∷ [])
calculation-by m w Add a b c = (refl, tt)
calculation-by m w AddU a b c = (refl, tt)
calculation-by m w Sub a b c = (refl, tt)
calculation-by m w SubU a b c = (refl, tt)
calculation-by m w And a b c = (refl, tt)
calculation-by m w Or a b c = (refl, tt)
calculation-by m w Xor a b c = (refl, tt)
calculation-by m w Nor a b c = (refl, tt)
calculation-by m w Sgt a b c = (refl, tt)
calculation-by m w SgtU a b c = (refl, tt)
calculation-by m w Sll a b c = (refl, tt)
calculation-by m w Srl a b c = (refl, tt)
calculation-by m w Sra a b c = (refl, tt)

shift-by : (m : Bool) (w : Way) (k : Calculation) (n a b : ℕ) → Lead m w (shift_lines k n a b)
shift-by m w Add n a b = (refl, tt)
shift-by m w AddU n a b = (refl, tt)
shift-by m w Sub n a b = (refl, tt)
shift-by m w SubU n a b = (refl, tt)
shift-by m w And n a b = (refl, tt)
shift-by m w Or n a b = (refl, tt)
shift-by m w Xor n a b = (refl, tt)
shift-by m w Nor n a b = (refl, tt)
shift-by m w Sgt n a b = (refl, tt)
shift-by m w SgtU n a b = (refl, tt)
shift-by m w Sll n a b = (refl, tt)
shift-by m w Srl n a b = (refl, tt)
shift-by m w Sra n a b = (refl, tt)

product-by : (m : Bool) (w : Way) (k : Product) (a b : ℕ) → Lead m w (plain (product k a b) ∷ [])
product-by m w Mul a b = (refl, tt)
product-by m w MulU a b = (refl, tt)
product-by m w Div a b = (refl, tt)
product-by m w DivU a b = (refl, tt)

move-by : (m : Bool) (w : Way) (width : Width) (a b : ℕ) → Lead m w (move_lines width a b)
move-by m w Word a b = (refl, tt)
move-by m w SignedHalf a b = (refl, (refl, tt))
move-by m w UnsignedHalf a b = (refl, tt)
move-by m w SignedByte a b = (refl, (refl, tt))
move-by m w UnsignedByte a b = (refl, tt)

get-by : (m : Bool) (w : Way) (s : Special) (a : ℕ) → Lead m w (plain (get_special s a) ∷ [])
get-by m w Hi a = (refl, tt)
get-by m w Lo a = (refl, tt)

set-by : (m : Bool) (w : Way) (s : Special) (a : ℕ) → Lead m w (plain (set_special a s) ∷ [])
set-by m w Hi a = (refl, tt)
set-by m w Lo a = (refl, tt)

-- frames

raise-by : (m : Bool) (w : Way) (s a b z : Bool) (n : ℕ) → Lead m w (plain (i.Lw 29 31 0) ∷ ((if s then plain (i.Addiu 29 29 n) ∷ [] else (if a then plain (i.Addiu 0 28 (low_of n)) ∷ [] else (if b then plain (i.Ori 0 28 n) ∷ [] else (if z then plain (i.Lui 28 (upper_of n)) ∷ [] else plain (i.Lui 28 (upper_of n)) ∷ plain (i.Ori 28 28 (low_of n)) ∷ []))) ++ plain (i.Addu 29 28 29) ∷ []) ++ plain (i.Jr 31) ∷ []))
raise-by m w true a b z n = (refl, (refl, (refl, tt)))
raise-by m w false true b z n = (refl, (refl, (refl, (refl, tt))))
raise-by m w false false true z n = (refl, (refl, (refl, (refl, tt))))
raise-by m w false false false true n = (refl, (refl, (refl, (refl, tt))))
raise-by m w false false false false n = (refl, (refl, (refl, (refl, (refl, tt)))))

lower-by : (m : Bool) (w : Way) (s a b z : Bool) (n : ℕ) → Lead m w ((if s then plain (i.Addiu 29 29 ((2 ^ 16 - n) % 2 ^ 16)) ∷ [] else (if a then plain (i.Addiu 0 28 (low_of n)) ∷ [] else (if b then plain (i.Ori 0 28 n) ∷ [] else (if z then plain (i.Lui 28 (upper_of n)) ∷ [] else plain (i.Lui 28 (upper_of n)) ∷ plain (i.Ori 28 28 (low_of n)) ∷ []))) ++ plain (i.Subu 29 28 29) ∷ []) ++ plain (i.Sw 29 31 0) ∷ [])
lower-by m w true a b z n = (refl, (refl, tt))
lower-by m w false true b z n = (refl, (refl, (refl, tt)))
lower-by m w false false true z n = (refl, (refl, (refl, tt)))
lower-by m w false false false true n = (refl, (refl, (refl, tt)))
lower-by m w false false false false n = (refl, (refl, (refl, (refl, tt))))

return-by : (m : Bool) (w : Way) (g : Setting) (k : Bool) → Lead m w (if k then plain (i.Lw 29 31 0) ∷ (raise_lines g.taken ++ plain (i.Jr 31) ∷ []) else plain (i.Jr 31) ∷ [])
return-by m w g true = raise-by m w (nat_lt g.taken (2 ^ 15)) (is_near g.taken) (nat_lt g.taken (2 ^ 16)) (low_of g.taken == 0) g.taken
return-by m w g false = (refl, tt)

entry-by : (m : Bool) (w : Way) (g : Setting) (k : Bool) → Lead m w (if k then lower_lines g.taken ++ plain (i.Sw 29 31 0) ∷ [] else [])
entry-by m w g true = lower-by m w (nat_lt g.taken (2 ^ 15)) (is_near g.taken) (nat_lt g.taken (2 ^ 16)) (low_of g.taken == 0) g.taken
entry-by m w g false = tt

pub entry_leads : EntryLeads
entry_leads m w g = entry-by m w g g.keeps

-- branches

jump-by : (w : Way) (goal : Option ℕ) → w.goal ≡ goal → Lead false w (jump_lines (i.J 0) goal)
jump-by w None e = (refl, tt)
jump-by w (Some t) e = (inr e, tt)

call-by : (w : Way) (goal : Option ℕ) → w.goal ≡ goal → Lead false w (jump_lines (i.Jal 0) goal)
call-by w None e = (refl, tt)
call-by w (Some t) e = (inr e, tt)

pair-by : (w : Way) (s : Bool) (goal : Option ℕ) → w.goal ≡ goal → (k : PairTest) (a b : ℕ) → Lead true w (if s then jump_lines (pair_branch k a b) goal else going_to (pair_branch (other_pair k) a b) w.next ∷ jump_lines (i.J 0) goal)
pair-by w true None e Equal a b = (refl, tt)
pair-by w true (Some t) e Equal a b = (inr e, tt)
pair-by w false None e Equal a b = (inl (refl, refl), (refl, tt))
pair-by w false (Some t) e Equal a b = (inl (refl, refl), (inr e, tt))
pair-by w true None e Unequal a b = (refl, tt)
pair-by w true (Some t) e Unequal a b = (inr e, tt)
pair-by w false None e Unequal a b = (inl (refl, refl), (refl, tt))
pair-by w false (Some t) e Unequal a b = (inl (refl, refl), (inr e, tt))

sign-by : (w : Way) (s : Bool) (goal : Option ℕ) → w.goal ≡ goal → (k : SignTest) (a : ℕ) → Lead true w (if s then jump_lines (sign_branch k a) goal else going_to (sign_branch (other_sign k) a) w.next ∷ jump_lines (i.J 0) goal)
sign-by w true None e NotNegative a = (refl, tt)
sign-by w true (Some t) e NotNegative a = (inr e, tt)
sign-by w false None e NotNegative a = (inl (refl, refl), (refl, tt))
sign-by w false (Some t) e NotNegative a = (inl (refl, refl), (inr e, tt))
sign-by w true None e Positive a = (refl, tt)
sign-by w true (Some t) e Positive a = (inr e, tt)
sign-by w false None e Positive a = (inl (refl, refl), (refl, tt))
sign-by w false (Some t) e Positive a = (inl (refl, refl), (inr e, tt))
sign-by w true None e NotPositive a = (refl, tt)
sign-by w true (Some t) e NotPositive a = (inr e, tt)
sign-by w false None e NotPositive a = (inl (refl, refl), (refl, tt))
sign-by w false (Some t) e NotPositive a = (inl (refl, refl), (inr e, tt))
sign-by w true None e Negative a = (refl, tt)
sign-by w true (Some t) e Negative a = (inr e, tt)
sign-by w false None e Negative a = (inl (refl, refl), (refl, tt))
sign-by w false (Some t) e Negative a = (inl (refl, refl), (inr e, tt))

-- each form

pub leads_all : LeadsAll
leads_all g w (forms.Move width from to) = move-by false w width from to
leads_all g w (forms.SetConstant c to) = constant-lines false w c to
leads_all g w (forms.SetAddress a to) = access-lines false w g (Address to) a
leads_all g w (forms.Load width a to) = access-lines false w g (Load width to) a
leads_all g w (forms.Store width from a) = access-lines false w g (Store width from) a
leads_all g w (forms.GetHiLo special to) = get-by false w special to
leads_all g w (forms.SetHiLo from special) = set-by false w special from
leads_all g w (forms.Calculate k a b c) = calculation-by false w k a b c
leads_all g w (forms.CalculateConstant k a b c) = constant_calculation-by false w k (is_near a) (nat_lt a (2 ^ 16)) (low_of a == 0) a b c
leads_all g w (forms.ShiftConstant k a b c) = shift-by false w k a b c
leads_all g w (forms.Multiply k a b) = product-by false w k a b
leads_all g w (forms.BranchPair k a b l) = pair-by w w.short w.goal refl k a b
leads_all g w (forms.BranchSign k a l) = sign-by w w.short w.goal refl k a
leads_all g w (forms.Jump l) = jump-by w w.goal refl
leads_all g w (forms.Call s) = call-by w w.goal refl
leads_all g w (forms.CallRegister a) = (refl, tt)
leads_all g w forms.Return = return-by false w g g.keeps
leads_all g w forms.SystemCall = (refl, tt)
