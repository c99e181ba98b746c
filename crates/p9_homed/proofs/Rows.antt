-- The rows of the table, where automatics have homes or stand in the frame.
use Rattle.std.proofs.Common.{ℕ, ◌+◌, ◌≡◌, nat_lt, Bool, true, false, Option, Some, None, refl, ap, ◌∙◌, List, [], ◌∷◌, map, slice_index, if◌then◌else◌}
use Rattle.std.proofs.lemmas.Option.{none-some}
use Rattle.p9_abs.specs.declared.instructions.Op.{Op}
use Rattle.p9_abs.specs.declared.instructions.Op.TheVariants.{MovW, MovH, MovHU, MovB, MovBU, Add, AddU, Sub, SubU, And, Or, Xor, Nor, Sgt, SgtU, Sll, Srl, Sra, Mul, MulU, Div, DivU, Beq, Bne, Bgez, Bgtz, Blez, Bltz, Jmp, Jal, Ret, Syscall}
use Rattle.p9_abs.specs.declared.instructions.Operand.{Operand}
use Rattle.p9_abs.specs.declared.instructions.Operand.TheVariants.{Reg, Const, AddrSB, AddrFP, AddrSP, MemSB, MemFP, MemSP, MemReg, Label, Func, Hi, Lo, Auto, AutoAddr}
use Rattle.p9_abs.specs.declared.regions.Region.{Region}
use Rattle.p9_abs.specs.declared.forms.Location.TheVariants.{Static, Argument, Frame, Based, Automatic}
use Rattle.p9_abs.specs.declared.forms.OperandKind.{OperandKind}
use Rattle.p9_abs.specs.declared.forms.OperandKind.TheVariants.{Register, Constant, Address, Memory, HiLo, Target, Function}
use Rattle.p9_abs.specs.declared.forms.Width.{Width}
use Rattle.p9_abs.specs.declared.forms.Width.TheVariants as width
use Rattle.p9_abs.specs.declared.forms.Calculation.{Calculation}
use Rattle.p9_abs.specs.declared.forms.Calculation.TheVariants as calculation
use Rattle.p9_abs.specs.declared.forms.Product.{Product}
use Rattle.p9_abs.specs.declared.forms.Product.TheVariants as product
use Rattle.p9_abs.specs.declared.forms.PairTest.{PairTest}
use Rattle.p9_abs.specs.declared.forms.PairTest.TheVariants as pair
use Rattle.p9_abs.specs.declared.forms.SignTest.{SignTest}
use Rattle.p9_abs.specs.declared.forms.SignTest.TheVariants as sign
use Rattle.p9_abs.specs.declared.forms.Form.{Form}
use Rattle.p9_abs.specs.declared.forms.Form.TheVariants as forms
use Rattle.p9_abs.specs.Forms.{operand_kind, word_move, signed_move, unsigned_move, arithmetic, shift, multiply, pair_branch, sign_branch, jump, call, bare, kinds_form}
use Rattle.p9_abs.specs.Regions.{home_at}
use Rattle.p9_abs.specs.Framed.{Plan, home_or_memory, framed_operand}
use Rattle.p9_homed.specs.Homed.{Homing, homed_memory, homed_kind, homed_load, homed_store, homed_form, homing_at, HomedForms}

-- a row that has these forms before has those that they become
abbrev Keeps : Homing → (List OperandKind → Option Form) → Type 0
Keeps m row = (kinds : List OperandKind) (form : Form) → row kinds ≡ Some form → row (map (homed_kind m) kinds) ≡ Some (homed_form m form)

module _ (m : Homing) where
  -- what is Some of one form is what it becomes
  becomes : (a form : Form) (o : Option Form) → Some a ≡ Some form → o ≡ Some (homed_form m a) → o ≡ Some (homed_form m form)
  becomes a form o e d = d ∙ ap (λ z. Some (homed_form m z)) (let q : a ≡ form = cc in q)

  word-load : (h : Option ℕ) (q b : ℕ) → word_move (homed_memory h q ∷ Register b ∷ []) ≡ Some (homed_load width.Word h q b)
  word-load None q b = refl
  word-load (Some h) q b = refl

  word-store : (h : Option ℕ) (q a : ℕ) → word_move (Register a ∷ homed_memory h q ∷ []) ≡ Some (homed_store width.Word a h q)
  word-store None q a = refl
  word-store (Some h) q a = refl

  word : Keeps m word_move
  word (Register a ∷ Register b ∷ []) form e = becomes _ form _ e refl
  word (Constant c ∷ Register b ∷ []) form e = becomes _ form _ e refl
  word (Address (Automatic v o) ∷ Register b ∷ []) form e = becomes _ form _ e refl
  word (Address (Static s o) ∷ Register b ∷ []) form e = becomes _ form _ e refl
  word (Address (Argument o) ∷ Register b ∷ []) form e = becomes _ form _ e refl
  word (Address (Frame o) ∷ Register b ∷ []) form e = becomes _ form _ e refl
  word (Address (Based r o) ∷ Register b ∷ []) form e = becomes _ form _ e refl
  word (Memory (Automatic v o) ∷ Register b ∷ []) form e = becomes _ form _ e (word-load (m.home v) (m.offset v + o) b)
  word (Memory (Static s o) ∷ Register b ∷ []) form e = becomes _ form _ e refl
  word (Memory (Argument o) ∷ Register b ∷ []) form e = becomes _ form _ e refl
  word (Memory (Frame o) ∷ Register b ∷ []) form e = becomes _ form _ e refl
  word (Memory (Based r o) ∷ Register b ∷ []) form e = becomes _ form _ e refl
  word (Register a ∷ Memory (Automatic v o) ∷ []) form e = becomes _ form _ e (word-store (m.home v) (m.offset v + o) a)
  word (Register a ∷ Memory (Static s o) ∷ []) form e = becomes _ form _ e refl
  word (Register a ∷ Memory (Argument o) ∷ []) form e = becomes _ form _ e refl
  word (Register a ∷ Memory (Frame o) ∷ []) form e = becomes _ form _ e refl
  word (Register a ∷ Memory (Based r o) ∷ []) form e = becomes _ form _ e refl
  word (HiLo a ∷ Register b ∷ []) form e = becomes _ form _ e refl
  word (Register a ∷ HiLo b ∷ []) form e = becomes _ form _ e refl
  word _ form e = absurd (none-some form e)

  signed-load : (w : Width) (h : Option ℕ) (q b : ℕ) → signed_move w (homed_memory h q ∷ Register b ∷ []) ≡ Some (homed_load w h q b)
  signed-load w None q b = refl
  signed-load w (Some h) q b = refl

  signed-store : (w : Width) (h : Option ℕ) (q a : ℕ) → signed_move w (Register a ∷ homed_memory h q ∷ []) ≡ Some (homed_store w a h q)
  signed-store w None q a = refl
  signed-store w (Some h) q a = refl

  signed : (w : Width) → Keeps m (signed_move w)
  signed w (Register a ∷ Register b ∷ []) form e = becomes _ form _ e refl
  signed w (Memory (Automatic v o) ∷ Register b ∷ []) form e = becomes _ form _ e (signed-load w (m.home v) (m.offset v + o) b)
  signed w (Memory (Static s o) ∷ Register b ∷ []) form e = becomes _ form _ e refl
  signed w (Memory (Argument o) ∷ Register b ∷ []) form e = becomes _ form _ e refl
  signed w (Memory (Frame o) ∷ Register b ∷ []) form e = becomes _ form _ e refl
  signed w (Memory (Based r o) ∷ Register b ∷ []) form e = becomes _ form _ e refl
  signed w (Register a ∷ Memory (Automatic v o) ∷ []) form e = becomes _ form _ e (signed-store w (m.home v) (m.offset v + o) a)
  signed w (Register a ∷ Memory (Static s o) ∷ []) form e = becomes _ form _ e refl
  signed w (Register a ∷ Memory (Argument o) ∷ []) form e = becomes _ form _ e refl
  signed w (Register a ∷ Memory (Frame o) ∷ []) form e = becomes _ form _ e refl
  signed w (Register a ∷ Memory (Based r o) ∷ []) form e = becomes _ form _ e refl
  signed w _ form e = absurd (none-some form e)

  unsigned-load : (w : Width) (h : Option ℕ) (q b : ℕ) → unsigned_move w (homed_memory h q ∷ Register b ∷ []) ≡ Some (homed_load w h q b)
  unsigned-load w None q b = refl
  unsigned-load w (Some h) q b = refl

  unsigned : (w : Width) → Keeps m (unsigned_move w)
  unsigned w (Register a ∷ Register b ∷ []) form e = becomes _ form _ e refl
  unsigned w (Memory (Automatic v o) ∷ Register b ∷ []) form e = becomes _ form _ e (unsigned-load w (m.home v) (m.offset v + o) b)
  unsigned w (Memory (Static s o) ∷ Register b ∷ []) form e = becomes _ form _ e refl
  unsigned w (Memory (Argument o) ∷ Register b ∷ []) form e = becomes _ form _ e refl
  unsigned w (Memory (Frame o) ∷ Register b ∷ []) form e = becomes _ form _ e refl
  unsigned w (Memory (Based r o) ∷ Register b ∷ []) form e = becomes _ form _ e refl
  unsigned w _ form e = absurd (none-some form e)

  calculates : (k : Calculation) → Keeps m (arithmetic k)
  calculates k (Register a ∷ Register b ∷ Register c ∷ []) form e = becomes _ form _ e refl
  calculates k (Constant a ∷ Register b ∷ Register c ∷ []) form e = becomes _ form _ e refl
  calculates k _ form e = absurd (none-some form e)

  small-shift : (k : Calculation) (a b c : ℕ) (form : Form) (t : Bool) → (if t then Some (forms.ShiftConstant k a b c) else None) ≡ Some form →
      (if t then Some (forms.ShiftConstant k a b c) else None) ≡ Some (homed_form m form)
  small-shift k a b c form true e = becomes _ form _ e refl
  small-shift k a b c form false e = absurd (none-some form e)

  shifts : (k : Calculation) → Keeps m (shift k)
  shifts k (Register a ∷ Register b ∷ Register c ∷ []) form e = becomes _ form _ e refl
  shifts k (Constant a ∷ Register b ∷ Register c ∷ []) form e = small-shift k a b c form (nat_lt a 32) e
  shifts k _ form e = absurd (none-some form e)

  multiplies : (k : Product) → Keeps m (multiply k)
  multiplies k (Register a ∷ Register b ∷ []) form e = becomes _ form _ e refl
  multiplies k _ form e = absurd (none-some form e)

  pairs : (k : PairTest) → Keeps m (pair_branch k)
  pairs k (Register a ∷ Register b ∷ Target l ∷ []) form e = becomes _ form _ e refl
  pairs k _ form e = absurd (none-some form e)

  signs : (k : SignTest) → Keeps m (sign_branch k)
  signs k (Register a ∷ Target l ∷ []) form e = becomes _ form _ e refl
  signs k _ form e = absurd (none-some form e)

  jumps : Keeps m jump
  jumps (Target l ∷ []) form e = becomes _ form _ e refl
  jumps _ form e = absurd (none-some form e)

  calls : Keeps m call
  calls (Function s ∷ []) form e = becomes _ form _ e refl
  calls (Register a ∷ []) form e = becomes _ form _ e refl
  calls _ form e = absurd (none-some form e)

  returns : Keeps m (bare forms.Return)
  returns [] form e = becomes _ form _ e refl
  returns _ form e = absurd (none-some form e)

  system-calls : Keeps m (bare forms.SystemCall)
  system-calls [] form e = becomes _ form _ e refl
  system-calls _ form e = absurd (none-some form e)

  rows : (op : Op) → Keeps m (kinds_form op)
  rows MovW = word
  rows MovH = signed width.SignedHalf
  rows MovHU = unsigned width.UnsignedHalf
  rows MovB = signed width.SignedByte
  rows MovBU = unsigned width.UnsignedByte
  rows Add = calculates calculation.Add
  rows AddU = calculates calculation.AddU
  rows Sub = calculates calculation.Sub
  rows SubU = calculates calculation.SubU
  rows And = calculates calculation.And
  rows Or = calculates calculation.Or
  rows Xor = calculates calculation.Xor
  rows Nor = calculates calculation.Nor
  rows Sgt = calculates calculation.Sgt
  rows SgtU = calculates calculation.SgtU
  rows Sll = shifts calculation.Sll
  rows Srl = shifts calculation.Srl
  rows Sra = shifts calculation.Sra
  rows Mul = multiplies product.Mul
  rows MulU = multiplies product.MulU
  rows Div = multiplies product.Div
  rows DivU = multiplies product.DivU
  rows Beq = pairs pair.Equal
  rows Bne = pairs pair.Unequal
  rows Bgez = signs sign.NotNegative
  rows Bgtz = signs sign.Positive
  rows Blez = signs sign.NotPositive
  rows Bltz = signs sign.Negative
  rows Jmp = jumps
  rows Jal = calls
  rows Ret = returns
  rows Syscall = system-calls

-- Operands

module _ (rs : List Region) (homes : List (Option ℕ)) (p : Plan) (taken i : ℕ) where
  memory-kind : (h : Option ℕ) (q : ℕ) → operand_kind (home_or_memory h q) ≡ homed_memory h q
  memory-kind None q = refl
  memory-kind (Some h) q = refl

  kind-is : (o : Operand) → operand_kind (framed_operand rs homes p taken i o) ≡ homed_kind (homing_at rs homes p taken i) (operand_kind o)
  kind-is (Auto v o) = memory-kind (home_at rs homes v i) (slice_index p.offsets v + o)
  kind-is (AutoAddr v o) = refl
  kind-is (Label l) = refl
  kind-is (Reg r) = refl
  kind-is (Const c) = refl
  kind-is (AddrSB s o) = refl
  kind-is (AddrFP o) = refl
  kind-is (AddrSP o) = refl
  kind-is (MemSB s o) = refl
  kind-is (MemFP o) = refl
  kind-is (MemSP o) = refl
  kind-is (MemReg r o) = refl
  kind-is (Func s) = refl
  kind-is Hi = refl
  kind-is Lo = refl

  kinds-are : (operands : List Operand) → map operand_kind (map (framed_operand rs homes p taken i) operands) ≡ map (homed_kind (homing_at rs homes p taken i)) (map operand_kind operands)
  kinds-are [] = refl
  kinds-are (o ∷ operands) =
      ap (λ z. z ∷ map operand_kind (map (framed_operand rs homes p taken i) operands)) (kind-is o)
      ∙ ap (λ z. homed_kind (homing_at rs homes p taken i) (operand_kind o) ∷ z) (kinds-are operands)

pub homed-forms : HomedForms
homed-forms rs homes p taken i a form e =
    ap (kinds_form a.op) (kinds-are rs homes p taken i a.operands) ∙ rows (homing_at rs homes p taken i) a.op (map operand_kind a.operands) form e
