-- Lines with the no-ops that they need are within the weights.
use Rattle.std.proofs.Common.{ℕ, ◌+◌, ◌-◌, ◌%◌, ◌^◌, ◌==◌, ◌≤◌, nat_lt, Bool, true, false, Option, Some, None, if◌then◌else◌, [], ◌∷◌, ◌++◌, lit≤}
use Rattle.p9_abs.specs.declared.forms.Location.{Location}
use Rattle.p9_abs.specs.declared.forms.Location.TheVariants.{Static, Argument, Frame, Based, Automatic}
use Rattle.p9_abs.specs.declared.forms.Special.{Special}
use Rattle.p9_abs.specs.declared.forms.Special.TheVariants.{Hi, Lo}
use Rattle.p9_abs.specs.declared.forms.Width.{Width}
use Rattle.p9_abs.specs.declared.forms.Width.TheVariants.{Word, SignedHalf, UnsignedHalf, SignedByte, UnsignedByte}
use Rattle.p9_abs.specs.declared.forms.Calculation.{Calculation}
use Rattle.p9_abs.specs.declared.forms.Calculation.TheVariants.{Add, AddU, Sub, SubU, And, Or, Xor, Nor, Sgt, SgtU, Sll, Srl, Sra}
use Rattle.p9_abs.specs.declared.forms.Product.{Product}
use Rattle.p9_abs.specs.declared.forms.Product.TheVariants.{Mul, MulU, Div, DivU}
use Rattle.p9_abs.specs.declared.forms.PairTest.{PairTest}
use Rattle.p9_abs.specs.declared.forms.PairTest.TheVariants.{Equal, Unequal}
use Rattle.p9_abs.specs.declared.forms.SignTest.{SignTest}
use Rattle.p9_abs.specs.declared.forms.SignTest.TheVariants.{NotNegative, Positive, NotPositive, Negative}
use Rattle.p9_abs.specs.declared.forms.Form.TheVariants as forms
use Rattle.p9_r3k.specs.declared.inst.Inst.TheVariants as i
use Rattle.p9_lines.specs.declared.parts.Access.{Access}
use Rattle.p9_lines.specs.declared.parts.Access.TheVariants.{Load, Store, Address}
use Rattle.p9_lines.specs.declared.parts.Setting.{Setting}
use Rattle.p9_lines.specs.Insts.{access_inst, get_special, set_special, calculation, product, pair_branch, sign_branch, other_pair, other_sign}
use Rattle.p9_lines.specs.FormLines.{plain, going_to, stop, is_near, high_of, upper_of, low_of, constant_lines, static_lines, access_lines, move_lines, shift_lines, jump_lines, raise_lines, lower_lines}
use Rattle.p9_abs.specs.Forms.{move_words}
use Rattle.p9_lines.specs.Weights.{words_needed}
use Rattle.p9_lines.specs.Laws.{WithinWeights, EntryWithin, StartWithin}

-- constants

constant-by : (a b z : Bool) (c to : ℕ) → words_needed (if a then plain (i.Addiu 0 to (low_of c)) ∷ [] else (if b then plain (i.Ori 0 to c) ∷ [] else (if z then plain (i.Lui to (upper_of c)) ∷ [] else plain (i.Lui 28 (upper_of c)) ∷ plain (i.Ori 28 to (low_of c)) ∷ []))) ≤ 2
constant-by true b z c to = lit≤ tt
constant-by false true z c to = lit≤ tt
constant-by false false true c to = lit≤ tt
constant-by false false false c to = lit≤ tt

constant-lines : (c to : ℕ) → words_needed (constant_lines c to) ≤ 2
constant-lines c to = constant-by (is_near c) (nat_lt c (2 ^ 16)) (low_of c == 0) c to

-- accesses

-- the words of an access
abbrev access_words : Access → ℕ
access_words (Load width to) = 4
access_words (Store width from) = 3
access_words (Address to) = 3

near-by : (access : Access) (near : Bool) (base o : ℕ) → words_needed (if near then plain (access_inst access base (low_of o)) ∷ [] else plain (i.Lui 28 (high_of o)) ∷ plain (i.Addu base 28 28) ∷ plain (access_inst access 28 (low_of o)) ∷ []) ≤ access_words access
near-by (Load Word to) true base o = lit≤ tt
near-by (Load Word to) false base o = lit≤ tt
near-by (Load SignedHalf to) true base o = lit≤ tt
near-by (Load SignedHalf to) false base o = lit≤ tt
near-by (Load UnsignedHalf to) true base o = lit≤ tt
near-by (Load UnsignedHalf to) false base o = lit≤ tt
near-by (Load SignedByte to) true base o = lit≤ tt
near-by (Load SignedByte to) false base o = lit≤ tt
near-by (Load UnsignedByte to) true base o = lit≤ tt
near-by (Load UnsignedByte to) false base o = lit≤ tt
near-by (Store Word from) true base o = lit≤ tt
near-by (Store Word from) false base o = lit≤ tt
near-by (Store SignedHalf from) true base o = lit≤ tt
near-by (Store SignedHalf from) false base o = lit≤ tt
near-by (Store UnsignedHalf from) true base o = lit≤ tt
near-by (Store UnsignedHalf from) false base o = lit≤ tt
near-by (Store SignedByte from) true base o = lit≤ tt
near-by (Store SignedByte from) false base o = lit≤ tt
near-by (Store UnsignedByte from) true base o = lit≤ tt
near-by (Store UnsignedByte from) false base o = lit≤ tt
near-by (Address to) true base o = lit≤ tt
near-by (Address to) false base o = lit≤ tt

static-by : (access : Access) (unit symbol o : ℕ) → words_needed (static_lines access unit symbol o) ≤ access_words access
static-by (Load Word to) unit symbol o = lit≤ tt
static-by (Load SignedHalf to) unit symbol o = lit≤ tt
static-by (Load UnsignedHalf to) unit symbol o = lit≤ tt
static-by (Load SignedByte to) unit symbol o = lit≤ tt
static-by (Load UnsignedByte to) unit symbol o = lit≤ tt
static-by (Store Word from) unit symbol o = lit≤ tt
static-by (Store SignedHalf from) unit symbol o = lit≤ tt
static-by (Store UnsignedHalf from) unit symbol o = lit≤ tt
static-by (Store SignedByte from) unit symbol o = lit≤ tt
static-by (Store UnsignedByte from) unit symbol o = lit≤ tt
static-by (Address to) unit symbol o = lit≤ tt

stop-by : (access : Access) → words_needed stop ≤ access_words access
stop-by (Load w' to) = lit≤ tt
stop-by (Store w' from) = lit≤ tt
stop-by (Address to) = lit≤ tt

access-lines : (g : Setting) (access : Access) (at : Location) → words_needed (access_lines g access at) ≤ access_words access
access-lines g access (Static symbol o) = static-by access g.unit symbol o
access-lines g access (Argument o) = near-by access (is_near ((g.taken + 4 + o) % 2 ^ 32)) 29 ((g.taken + 4 + o) % 2 ^ 32)
access-lines g access (Frame o) = near-by access (is_near ((g.taken + o) % 2 ^ 32)) 29 ((g.taken + o) % 2 ^ 32)
access-lines g access (Based r o) = near-by access (is_near o) r o
access-lines g access (Automatic v o) = stop-by access

-- calculations with a constant

constant_calculation-by : (k : Calculation) (a b z : Bool) (c d to : ℕ) → words_needed ((if a then plain (i.Addiu 0 28 (low_of c)) ∷ [] else (if b then plain (i.Ori 0 28 c) ∷ [] else (if z then plain (i.Lui 28 (upper_of c)) ∷ [] else plain (i.Lui 28 (upper_of c)) ∷ plain (i.Ori 28 28 (low_of c)) ∷ []))) ++ plain (calculation k 28 d to) ∷ []) ≤ 3
constant_calculation-by Add true b z c d to = lit≤ tt
constant_calculation-by Add false true z c d to = lit≤ tt
constant_calculation-by Add false false true c d to = lit≤ tt
constant_calculation-by Add false false false c d to = lit≤ tt
constant_calculation-by AddU true b z c d to = lit≤ tt
constant_calculation-by AddU false true z c d to = lit≤ tt
constant_calculation-by AddU false false true c d to = lit≤ tt
constant_calculation-by AddU false false false c d to = lit≤ tt
constant_calculation-by Sub true b z c d to = lit≤ tt
constant_calculation-by Sub false true z c d to = lit≤ tt
constant_calculation-by Sub false false true c d to = lit≤ tt
constant_calculation-by Sub false false false c d to = lit≤ tt
constant_calculation-by SubU true b z c d to = lit≤ tt
constant_calculation-by SubU false true z c d to = lit≤ tt
constant_calculation-by SubU false false true c d to = lit≤ tt
constant_calculation-by SubU false false false c d to = lit≤ tt
constant_calculation-by And true b z c d to = lit≤ tt
constant_calculation-by And false true z c d to = lit≤ tt
constant_calculation-by And false false true c d to = lit≤ tt
constant_calculation-by And false false false c d to = lit≤ tt
constant_calculation-by Or true b z c d to = lit≤ tt
constant_calculation-by Or false true z c d to = lit≤ tt
constant_calculation-by Or false false true c d to = lit≤ tt
constant_calculation-by Or false false false c d to = lit≤ tt
constant_calculation-by Xor true b z c d to = lit≤ tt
constant_calculation-by Xor false true z c d to = lit≤ tt
constant_calculation-by Xor false false true c d to = lit≤ tt
constant_calculation-by Xor false false false c d to = lit≤ tt
constant_calculation-by Nor true b z c d to = lit≤ tt
constant_calculation-by Nor false true z c d to = lit≤ tt
constant_calculation-by Nor false false true c d to = lit≤ tt
constant_calculation-by Nor false false false c d to = lit≤ tt
constant_calculation-by Sgt true b z c d to = lit≤ tt
constant_calculation-by Sgt false true z c d to = lit≤ tt
constant_calculation-by Sgt false false true c d to = lit≤ tt
constant_calculation-by Sgt false false false c d to = lit≤ tt
constant_calculation-by SgtU true b z c d to = lit≤ tt
constant_calculation-by SgtU false true z c d to = lit≤ tt
constant_calculation-by SgtU false false true c d to = lit≤ tt
constant_calculation-by SgtU false false false c d to = lit≤ tt
constant_calculation-by Sll true b z c d to = lit≤ tt
constant_calculation-by Sll false true z c d to = lit≤ tt
constant_calculation-by Sll false false true c d to = lit≤ tt
constant_calculation-by Sll false false false c d to = lit≤ tt
constant_calculation-by Srl true b z c d to = lit≤ tt
constant_calculation-by Srl false true z c d to = lit≤ tt
constant_calculation-by Srl false false true c d to = lit≤ tt
constant_calculation-by Srl false false false c d to = lit≤ tt
constant_calculation-by Sra true b z c d to = lit≤ tt
constant_calculation-by Sra false true z c d to = lit≤ tt
constant_calculation-by Sra false false true c d to = lit≤ tt
constant_calculation-by Sra false false false c d to = lit≤ tt

calculation-by : (k : Calculation) (a b c : ℕ) → words_needed (plain (calculation k a b c) ∷ []) ≤ 1
calculation-by Add a b c = lit≤ tt
calculation-by AddU a b c = lit≤ tt
calculation-by Sub a b c = lit≤ tt
calculation-by SubU a b c = lit≤ tt
calculation-by And a b c = lit≤ tt
calculation-by Or a b c = lit≤ tt
calculation-by Xor a b c = lit≤ tt
calculation-by Nor a b c = lit≤ tt
calculation-by Sgt a b c = lit≤ tt
calculation-by SgtU a b c = lit≤ tt
calculation-by Sll a b c = lit≤ tt
calculation-by Srl a b c = lit≤ tt
calculation-by Sra a b c = lit≤ tt

shift-by : (k : Calculation) (n a b : ℕ) → words_needed (shift_lines k n a b) ≤ 1
shift-by Add n a b = lit≤ tt
shift-by AddU n a b = lit≤ tt
shift-by Sub n a b = lit≤ tt
shift-by SubU n a b = lit≤ tt
shift-by And n a b = lit≤ tt
shift-by Or n a b = lit≤ tt
shift-by Xor n a b = lit≤ tt
shift-by Nor n a b = lit≤ tt
shift-by Sgt n a b = lit≤ tt
shift-by SgtU n a b = lit≤ tt
shift-by Sll n a b = lit≤ tt
shift-by Srl n a b = lit≤ tt
shift-by Sra n a b = lit≤ tt

product-by : (k : Product) (a b : ℕ) → words_needed (plain (product k a b) ∷ []) ≤ 3
product-by Mul a b = lit≤ tt
product-by MulU a b = lit≤ tt
product-by Div a b = lit≤ tt
product-by DivU a b = lit≤ tt

move-by : (width : Width) (a b : ℕ) → words_needed (move_lines width a b) ≤ move_words width
move-by Word a b = lit≤ tt
move-by SignedHalf a b = lit≤ tt
move-by UnsignedHalf a b = lit≤ tt
move-by SignedByte a b = lit≤ tt
move-by UnsignedByte a b = lit≤ tt

get-by : (s : Special) (a : ℕ) → words_needed (plain (get_special s a) ∷ []) ≤ 1
get-by Hi a = lit≤ tt
get-by Lo a = lit≤ tt

set-by : (s : Special) (a : ℕ) → words_needed (plain (set_special a s) ∷ []) ≤ 3
set-by Hi a = lit≤ tt
set-by Lo a = lit≤ tt

-- frames

raise-by : (s a b z : Bool) (n : ℕ) → words_needed (plain (i.Lw 29 31 0) ∷ ((if s then plain (i.Addiu 29 29 n) ∷ [] else (if a then plain (i.Addiu 0 28 (low_of n)) ∷ [] else (if b then plain (i.Ori 0 28 n) ∷ [] else (if z then plain (i.Lui 28 (upper_of n)) ∷ [] else plain (i.Lui 28 (upper_of n)) ∷ plain (i.Ori 28 28 (low_of n)) ∷ []))) ++ plain (i.Addu 29 28 29) ∷ []) ++ plain (i.Jr 31) ∷ [])) ≤ 7
raise-by true a b z n = lit≤ tt
raise-by false true b z n = lit≤ tt
raise-by false false true z n = lit≤ tt
raise-by false false false true n = lit≤ tt
raise-by false false false false n = lit≤ tt

lower-by : (s a b z : Bool) (n : ℕ) → words_needed ((if s then plain (i.Addiu 29 29 ((2 ^ 16 - n) % 2 ^ 16)) ∷ [] else (if a then plain (i.Addiu 0 28 (low_of n)) ∷ [] else (if b then plain (i.Ori 0 28 n) ∷ [] else (if z then plain (i.Lui 28 (upper_of n)) ∷ [] else plain (i.Lui 28 (upper_of n)) ∷ plain (i.Ori 28 28 (low_of n)) ∷ []))) ++ plain (i.Subu 29 28 29) ∷ []) ++ plain (i.Sw 29 31 0) ∷ []) ≤ 4
lower-by true a b z n = lit≤ tt
lower-by false true b z n = lit≤ tt
lower-by false false true z n = lit≤ tt
lower-by false false false true n = lit≤ tt
lower-by false false false false n = lit≤ tt

return-by : (g : Setting) (k : Bool) → words_needed (if k then plain (i.Lw 29 31 0) ∷ (raise_lines g.taken ++ plain (i.Jr 31) ∷ []) else plain (i.Jr 31) ∷ []) ≤ 7
return-by g true = raise-by (nat_lt g.taken (2 ^ 15)) (is_near g.taken) (nat_lt g.taken (2 ^ 16)) (low_of g.taken == 0) g.taken
return-by g false = lit≤ tt

entry-by : (g : Setting) (k : Bool) → words_needed (if k then lower_lines g.taken ++ plain (i.Sw 29 31 0) ∷ [] else []) ≤ 4
entry-by g true = lower-by (nat_lt g.taken (2 ^ 15)) (is_near g.taken) (nat_lt g.taken (2 ^ 16)) (low_of g.taken == 0) g.taken
entry-by g false = lit≤ tt

pub entry_within : EntryWithin
entry_within g = entry-by g g.keeps

pub start_within : StartWithin
start_within unit symbol o = lit≤ tt

-- branches

jump-by : (goal : Option ℕ) → words_needed (jump_lines (i.J 0) goal) ≤ 2
jump-by None = lit≤ tt
jump-by (Some t) = lit≤ tt

call-by : (goal : Option ℕ) → words_needed (jump_lines (i.Jal 0) goal) ≤ 2
call-by None = lit≤ tt
call-by (Some t) = lit≤ tt

pair-by : (s : Bool) (goal : Option ℕ) (k : PairTest) (a b next : ℕ) → words_needed (if s then jump_lines (pair_branch k a b) goal else going_to (pair_branch (other_pair k) a b) next ∷ jump_lines (i.J 0) goal) ≤ 4
pair-by true None Equal a b next = lit≤ tt
pair-by true (Some t) Equal a b next = lit≤ tt
pair-by false None Equal a b next = lit≤ tt
pair-by false (Some t) Equal a b next = lit≤ tt
pair-by true None Unequal a b next = lit≤ tt
pair-by true (Some t) Unequal a b next = lit≤ tt
pair-by false None Unequal a b next = lit≤ tt
pair-by false (Some t) Unequal a b next = lit≤ tt

sign-by : (s : Bool) (goal : Option ℕ) (k : SignTest) (a next : ℕ) → words_needed (if s then jump_lines (sign_branch k a) goal else going_to (sign_branch (other_sign k) a) next ∷ jump_lines (i.J 0) goal) ≤ 4
sign-by true None NotNegative a next = lit≤ tt
sign-by true (Some t) NotNegative a next = lit≤ tt
sign-by false None NotNegative a next = lit≤ tt
sign-by false (Some t) NotNegative a next = lit≤ tt
sign-by true None Positive a next = lit≤ tt
sign-by true (Some t) Positive a next = lit≤ tt
sign-by false None Positive a next = lit≤ tt
sign-by false (Some t) Positive a next = lit≤ tt
sign-by true None NotPositive a next = lit≤ tt
sign-by true (Some t) NotPositive a next = lit≤ tt
sign-by false None NotPositive a next = lit≤ tt
sign-by false (Some t) NotPositive a next = lit≤ tt
sign-by true None Negative a next = lit≤ tt
sign-by true (Some t) Negative a next = lit≤ tt
sign-by false None Negative a next = lit≤ tt
sign-by false (Some t) Negative a next = lit≤ tt

-- each form

pub within_weights : WithinWeights
within_weights g w (forms.Move width from to) = move-by width from to
within_weights g w (forms.SetConstant c to) = constant-lines c to
within_weights g w (forms.SetAddress a to) = access-lines g (Address to) a
within_weights g w (forms.Load width a to) = access-lines g (Load width to) a
within_weights g w (forms.Store width from a) = access-lines g (Store width from) a
within_weights g w (forms.GetHiLo special to) = get-by special to
within_weights g w (forms.SetHiLo from special) = set-by special from
within_weights g w (forms.Calculate k a b c) = calculation-by k a b c
within_weights g w (forms.CalculateConstant k a b c) = constant_calculation-by k (is_near a) (nat_lt a (2 ^ 16)) (low_of a == 0) a b c
within_weights g w (forms.ShiftConstant k a b c) = shift-by k a b c
within_weights g w (forms.Multiply k a b) = product-by k a b
within_weights g w (forms.BranchPair k a b l) = pair-by w.short w.goal k a b w.next
within_weights g w (forms.BranchSign k a l) = sign-by w.short w.goal k a w.next
within_weights g w (forms.Jump l) = jump-by w.goal
within_weights g w (forms.Call s) = call-by w.goal
within_weights g w (forms.CallRegister a) = lit≤ tt
within_weights g w forms.Return = return-by g g.keeps
within_weights g w forms.SystemCall = lit≤ tt
