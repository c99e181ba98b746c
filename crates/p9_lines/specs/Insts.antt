-- The machine instruction that does the work of each abstract operation.
use Rattle.std.specs.Prelude.{ℕ}
use Rattle.p9_abs.specs.declared.forms.Special.{Special}
use Rattle.p9_abs.specs.declared.forms.Special.TheVariants.{Hi, Lo}
use Rattle.p9_abs.specs.declared.forms.Width.{Width}
use Rattle.p9_abs.specs.declared.forms.Width.TheVariants.{Word, SignedHalf, UnsignedHalf, SignedByte, UnsignedByte}
use Rattle.p9_abs.specs.declared.forms.Calculation.{Calculation}
use Rattle.p9_abs.specs.declared.forms.Calculation.TheVariants.{Add, AddU, Sub, SubU, And, Or, Xor, Nor, Sgt, SgtU, Sll, Srl, Sra}
use Rattle.p9_abs.specs.declared.forms.Product.{Product}
use Rattle.p9_abs.specs.declared.forms.Product.TheVariants.{Mul, MulU, Div, DivU}
use Rattle.p9_abs.specs.declared.forms.PairTest.{PairTest}
use Rattle.p9_abs.specs.declared.forms.PairTest.TheVariants.{Equal, Unequal}
use Rattle.p9_abs.specs.declared.forms.SignTest.{SignTest}
use Rattle.p9_abs.specs.declared.forms.SignTest.TheVariants.{NotNegative, Positive, NotPositive, Negative}
use Rattle.p9_r3k.specs.declared.inst.Inst.{Inst}
use Rattle.p9_r3k.specs.declared.inst.Inst.TheVariants as i
use Rattle.p9_lines.specs.declared.parts.Access.{Access}
use Rattle.p9_lines.specs.declared.parts.Access.TheVariants.{Load, Store, Address}

-- Memory: by a base register and a half word

abbrev pub load_inst : Width → (to base half : ℕ) → Inst
load_inst Word to base half = i.Lw base to half
load_inst SignedHalf to base half = i.Lh base to half
load_inst UnsignedHalf to base half = i.Lhu base to half
load_inst SignedByte to base half = i.Lb base to half
load_inst UnsignedByte to base half = i.Lbu base to half

abbrev pub store_inst : Width → (from base half : ℕ) → Inst
store_inst Word from base half = i.Sw base from half
store_inst SignedHalf from base half = i.Sh base from half
store_inst UnsignedHalf from base half = i.Sh base from half
store_inst SignedByte from base half = i.Sb base from half
store_inst UnsignedByte from base half = i.Sb base from half

abbrev pub access_inst : Access → (base half : ℕ) → Inst
access_inst (Load width to) base half = load_inst width to base half
access_inst (Store width from) base half = store_inst width from base half
access_inst (Address to) base half = i.Addiu base to half

-- HI and LO

abbrev pub get_special : Special → ℕ → Inst
get_special Hi to = i.Mfhi to
get_special Lo to = i.Mflo to

abbrev pub set_special : ℕ → Special → Inst
set_special from Hi = i.Mthi from
set_special from Lo = i.Mtlo from

-- Calculations: `a, b, c` puts b op a into c

abbrev pub calculation : Calculation → (a b c : ℕ) → Inst
calculation Add a b c = i.Add b a c
calculation AddU a b c = i.Addu b a c
calculation Sub a b c = i.Sub b a c
calculation SubU a b c = i.Subu b a c
calculation And a b c = i.And b a c
calculation Or a b c = i.Or b a c
calculation Xor a b c = i.Xor b a c
calculation Nor a b c = i.Nor b a c
calculation Sgt a b c = i.Slt b a c
calculation SgtU a b c = i.Sltu b a c
calculation Sll a b c = i.Sllv a b c
calculation Srl a b c = i.Srlv a b c
calculation Sra a b c = i.Srav a b c

-- HI and LO of b op a
abbrev pub product : Product → (a b : ℕ) → Inst
product Mul a b = i.Mult b a
product MulU a b = i.Multu b a
product Div a b = i.Div b a
product DivU a b = i.Divu b a

-- Branches, with a place that is filled in later

abbrev pub pair_branch : PairTest → (a b : ℕ) → Inst
pair_branch Equal a b = i.Beq a b 0
pair_branch Unequal a b = i.Bne a b 0

abbrev pub sign_branch : SignTest → ℕ → Inst
sign_branch NotNegative a = i.Bgez a 0
sign_branch Positive a = i.Bgtz a 0
sign_branch NotPositive a = i.Blez a 0
sign_branch Negative a = i.Bltz a 0

-- the test that holds where the other doesn't

abbrev pub other_pair : PairTest → PairTest
other_pair Equal = Unequal
other_pair Unequal = Equal

abbrev pub other_sign : SignTest → SignTest
other_sign NotNegative = Negative
other_sign Positive = NotPositive
other_sign NotPositive = Positive
other_sign Negative = NotNegative
