-- Only the rows of JAL are calls; a framed JAL is a JAL.
use Rattle.std.proofs.Common.{◌≡◌, ℕ, ◌+◌, ◌==◌, ◌||◌, nat_lt, Bool, true, false, if◌then◌else◌, Option, Some, None, List, [], ◌∷◌, ◌++◌, map, All, refl, sym, ap, ◌∙◌}
use Rattle.std.specs.Prelude.{IsSome, slice_index}
use Rattle.std.specs.List.{list_any}
use Rattle.std.proofs.lemmas.Bool.{true≢false}
use Rattle.std.proofs.lemmas.List.Elements.{All-head, All-tail}
use Rattle.std.proofs.lemmas.List.Folds.{list_any-append}
use Rattle.p9_abs.specs.declared.instructions.Op.{Op}
use Rattle.p9_abs.specs.declared.instructions.Op.TheVariants.{MovW, MovH, MovHU, MovB, MovBU, Add, AddU, Sub, SubU, And, Or, Xor, Nor, Sgt, SgtU, Sll, Srl, Sra, Mul, MulU, Div, DivU, Beq, Bne, Bgez, Bgtz, Blez, Bltz, Jmp, Jal, Ret, Syscall}
use Rattle.p9_abs.specs.declared.instructions.Operand.{Operand}
use Rattle.p9_abs.specs.declared.instructions.Operand.TheVariants.{Reg, Const, AddrSB, AddrFP, AddrSP, MemSB, MemFP, MemSP, MemReg, Label, Func, Hi, Lo, Auto, AutoAddr}
use Rattle.p9_abs.specs.declared.instructions.Abs.{Abs}
use Rattle.p9_abs.specs.declared.instructions.AFunction.{AFunction}
use Rattle.p9_abs.specs.declared.forms.OperandKind.{OperandKind}
use Rattle.p9_abs.specs.declared.forms.OperandKind.TheVariants.{Register, Constant, Address, Memory, HiLo, Target}
use Rattle.p9_abs.specs.declared.forms.Width.{Width}
use Rattle.p9_abs.specs.declared.forms.Calculation.{Calculation}
use Rattle.p9_abs.specs.declared.forms.Product.{Product}
use Rattle.p9_abs.specs.declared.forms.PairTest.{PairTest}
use Rattle.p9_abs.specs.declared.forms.SignTest.{SignTest}
use Rattle.p9_abs.specs.declared.forms.Form.{Form}
use Rattle.p9_abs.specs.declared.forms.Form.TheVariants as forms
use Rattle.p9_abs.specs.declared.regions.Region.{Region}
use Rattle.p9_abs.specs.Forms.{IsForm, operand_kind, word_move, signed_move, unsigned_move, arithmetic, shift, multiply, pair_branch, sign_branch, jump, bare, kinds_form, form_of, decoded}
use Rattle.p9_abs.specs.Automatics.{holds_of, calls_in}
use Rattle.p9_abs.specs.OneCall.{size_at}
use Rattle.p9_abs.specs.Framed.{Shift, Plan, instruction, shift_operands, shift_code, shifts_code, framed_operand, blocks}

abbrev pub is_call : Abs → Bool
is_call a = holds_of calls_in (decoded a)

abbrev Quiet : Option Form → Type 0
Quiet o = holds_of calls_in o ≡ false

quiet-word : (kinds : List OperandKind) → Quiet (word_move kinds)
quiet-word (Register a ∷ Register b ∷ []) = refl
quiet-word (Constant c ∷ Register b ∷ []) = refl
quiet-word (Address a ∷ Register b ∷ []) = refl
quiet-word (Memory a ∷ Register b ∷ []) = refl
quiet-word (Register a ∷ Memory b ∷ []) = refl
quiet-word (HiLo a ∷ Register b ∷ []) = refl
quiet-word (Register a ∷ HiLo b ∷ []) = refl
quiet-word _ = refl

quiet-signed : (w : Width) (kinds : List OperandKind) → Quiet (signed_move w kinds)
quiet-signed w (Register a ∷ Register b ∷ []) = refl
quiet-signed w (Memory a ∷ Register b ∷ []) = refl
quiet-signed w (Register a ∷ Memory b ∷ []) = refl
quiet-signed w _ = refl

quiet-unsigned : (w : Width) (kinds : List OperandKind) → Quiet (unsigned_move w kinds)
quiet-unsigned w (Register a ∷ Register b ∷ []) = refl
quiet-unsigned w (Memory a ∷ Register b ∷ []) = refl
quiet-unsigned w _ = refl

quiet-arithmetic : (k : Calculation) (kinds : List OperandKind) → Quiet (arithmetic k kinds)
quiet-arithmetic k (Register a ∷ Register b ∷ Register c ∷ []) = refl
quiet-arithmetic k (Constant a ∷ Register b ∷ Register c ∷ []) = refl
quiet-arithmetic k _ = refl

quiet-if : (b : Bool) (form : Form) → calls_in form ≡ false → Quiet (if b then Some form else None)
quiet-if true form h = h
quiet-if false form h = refl

quiet-shift : (k : Calculation) (kinds : List OperandKind) → Quiet (shift k kinds)
quiet-shift k (Register a ∷ Register b ∷ Register c ∷ []) = refl
quiet-shift k (Constant a ∷ Register b ∷ Register c ∷ []) = quiet-if (nat_lt a 32) (forms.ShiftConstant k a b c) refl
quiet-shift k _ = refl

quiet-multiply : (k : Product) (kinds : List OperandKind) → Quiet (multiply k kinds)
quiet-multiply k (Register a ∷ Register b ∷ []) = refl
quiet-multiply k _ = refl

quiet-pair : (k : PairTest) (kinds : List OperandKind) → Quiet (pair_branch k kinds)
quiet-pair k (Register a ∷ Register b ∷ Target l ∷ []) = refl
quiet-pair k _ = refl

quiet-sign : (k : SignTest) (kinds : List OperandKind) → Quiet (sign_branch k kinds)
quiet-sign k (Register a ∷ Target l ∷ []) = refl
quiet-sign k _ = refl

quiet-jump : (kinds : List OperandKind) → Quiet (jump kinds)
quiet-jump (Target l ∷ []) = refl
quiet-jump _ = refl

quiet-bare : (form : Form) (kinds : List OperandKind) → calls_in form ≡ false → Quiet (bare form kinds)
quiet-bare form [] h = h
quiet-bare form (k ∷ kinds) h = refl

-- what is said of an operation other than JAL
abbrev OrJal : Op → Type 0 → Type 0
OrJal Jal A = Unit {0}
OrJal _ A = A

others-quiet : (op : Op) (kinds : List OperandKind) → OrJal op (Quiet (kinds_form op kinds))
others-quiet MovW kinds = quiet-word kinds
others-quiet MovH kinds = quiet-signed _ kinds
others-quiet MovHU kinds = quiet-unsigned _ kinds
others-quiet MovB kinds = quiet-signed _ kinds
others-quiet MovBU kinds = quiet-unsigned _ kinds
others-quiet Add kinds = quiet-arithmetic _ kinds
others-quiet AddU kinds = quiet-arithmetic _ kinds
others-quiet Sub kinds = quiet-arithmetic _ kinds
others-quiet SubU kinds = quiet-arithmetic _ kinds
others-quiet And kinds = quiet-arithmetic _ kinds
others-quiet Or kinds = quiet-arithmetic _ kinds
others-quiet Xor kinds = quiet-arithmetic _ kinds
others-quiet Nor kinds = quiet-arithmetic _ kinds
others-quiet Sgt kinds = quiet-arithmetic _ kinds
others-quiet SgtU kinds = quiet-arithmetic _ kinds
others-quiet Sll kinds = quiet-shift _ kinds
others-quiet Srl kinds = quiet-shift _ kinds
others-quiet Sra kinds = quiet-shift _ kinds
others-quiet Mul kinds = quiet-multiply _ kinds
others-quiet MulU kinds = quiet-multiply _ kinds
others-quiet Div kinds = quiet-multiply _ kinds
others-quiet DivU kinds = quiet-multiply _ kinds
others-quiet Beq kinds = quiet-pair _ kinds
others-quiet Bne kinds = quiet-pair _ kinds
others-quiet Bgez kinds = quiet-sign _ kinds
others-quiet Bgtz kinds = quiet-sign _ kinds
others-quiet Blez kinds = quiet-sign _ kinds
others-quiet Bltz kinds = quiet-sign _ kinds
others-quiet Jmp kinds = quiet-jump kinds
others-quiet Jal kinds = tt
others-quiet Ret kinds = quiet-bare forms.Return kinds refl
others-quiet Syscall kinds = quiet-bare forms.SystemCall kinds refl

-- a move is no call
move-if : (b d : Bool) (kinds : List OperandKind) → Quiet (kinds_form (if b then MovB else (if d then MovH else MovW)) kinds)
move-if true d kinds = quiet-signed _ kinds
move-if false true kinds = quiet-signed _ kinds
move-if false false kinds = quiet-word kinds

shift-quiet : (f : AFunction) (p : Plan) (s : Shift) → is_call (shift_code f p s) ≡ false
shift-quiet f p s = move-if (size_at f s.auto == 1) (size_at f s.auto == 2) (map operand_kind (shift_operands s.loads (MemReg 29 (slice_index p.offsets s.auto)) (Reg s.home)))

shifts-quiet : (f : AFunction) (p : Plan) (ss : List Shift) → list_any is_call (shifts_code f p ss) ≡ false
shifts-quiet f p [] = refl
shifts-quiet f p (s ∷ ss) = ap (λ b. b || list_any is_call (shifts_code f p ss)) (shift-quiet f p s) ∙ shifts-quiet f p ss

-- a framed instruction is a call where the given one is

module _ (rs : List Region) (homes : List (Option ℕ)) (p : Plan) (taken i : ℕ) where
  framed : List Operand → List Operand
  framed os = map (framed_operand rs homes p taken i) os

  jal-same : (os : List Operand) → IsSome (form_of Jal os) → holds_of calls_in (form_of Jal (map (framed_operand rs homes p taken i) os)) ≡ holds_of calls_in (form_of Jal os)
  jal-same (Func s ∷ []) h = refl
  jal-same (Reg r ∷ []) h = refl
  jal-same [] h = absurd (true≢false (sym h))
  jal-same (Const c ∷ []) h = absurd (true≢false (sym h))
  jal-same (AddrSB s o ∷ []) h = absurd (true≢false (sym h))
  jal-same (AddrFP o ∷ []) h = absurd (true≢false (sym h))
  jal-same (AddrSP o ∷ []) h = absurd (true≢false (sym h))
  jal-same (MemSB s o ∷ []) h = absurd (true≢false (sym h))
  jal-same (MemFP o ∷ []) h = absurd (true≢false (sym h))
  jal-same (MemSP o ∷ []) h = absurd (true≢false (sym h))
  jal-same (MemReg r o ∷ []) h = absurd (true≢false (sym h))
  jal-same (Label l ∷ []) h = absurd (true≢false (sym h))
  jal-same (Hi ∷ []) h = absurd (true≢false (sym h))
  jal-same (Lo ∷ []) h = absurd (true≢false (sym h))
  jal-same (Auto v o ∷ []) h = absurd (true≢false (sym h))
  jal-same (AutoAddr v o ∷ []) h = absurd (true≢false (sym h))
  jal-same (Func s ∷ a ∷ os) h = absurd (true≢false (sym h))
  jal-same (Reg r ∷ a ∷ os) h = absurd (true≢false (sym h))
  jal-same (Const c ∷ a ∷ os) h = absurd (true≢false (sym h))
  jal-same (AddrSB s o ∷ a ∷ os) h = absurd (true≢false (sym h))
  jal-same (AddrFP o ∷ a ∷ os) h = absurd (true≢false (sym h))
  jal-same (AddrSP o ∷ a ∷ os) h = absurd (true≢false (sym h))
  jal-same (MemSB s o ∷ a ∷ os) h = absurd (true≢false (sym h))
  jal-same (MemFP o ∷ a ∷ os) h = absurd (true≢false (sym h))
  jal-same (MemSP o ∷ a ∷ os) h = absurd (true≢false (sym h))
  jal-same (MemReg r o ∷ a ∷ os) h = absurd (true≢false (sym h))
  jal-same (Label l ∷ a ∷ os) h = absurd (true≢false (sym h))
  jal-same (Hi ∷ a ∷ os) h = absurd (true≢false (sym h))
  jal-same (Lo ∷ a ∷ os) h = absurd (true≢false (sym h))
  jal-same (Auto v o ∷ a ∷ os) h = absurd (true≢false (sym h))
  jal-same (AutoAddr v o ∷ a ∷ os) h = absurd (true≢false (sym h))

  both-quiet : (op : Op) (os : List Operand) → OrJal op (holds_of calls_in (form_of op (map (framed_operand rs homes p taken i) os)) ≡ holds_of calls_in (form_of op os))
  both-quiet op os = by op (others-quiet op (map operand_kind (map (framed_operand rs homes p taken i) os))) (others-quiet op (map operand_kind os))
    where
      by : (op : Op) → OrJal op (Quiet (kinds_form op (map operand_kind (map (framed_operand rs homes p taken i) os)))) → OrJal op (Quiet (kinds_form op (map operand_kind os)))
          → OrJal op (holds_of calls_in (form_of op (map (framed_operand rs homes p taken i) os)) ≡ holds_of calls_in (form_of op os))
      by Jal h k = tt
      by _ h k = h ∙ sym k

  call-same : (op : Op) (os : List Operand) → IsSome (form_of op os) → holds_of calls_in (form_of op (map (framed_operand rs homes p taken i) os)) ≡ holds_of calls_in (form_of op os)
  call-same Jal os h = jal-same os h
  call-same op os h = by op (both-quiet op os) h
    where
      by : (op : Op) → OrJal op (holds_of calls_in (form_of op (map (framed_operand rs homes p taken i) os)) ≡ holds_of calls_in (form_of op os)) → IsSome (form_of op os)
          → holds_of calls_in (form_of op (map (framed_operand rs homes p taken i) os)) ≡ holds_of calls_in (form_of op os)
      by Jal k h = jal-same os h
      by _ k h = k

pub blocks-calls : (f : AFunction) (rs : List Region) (homes : List (Option ℕ)) (p : Plan) (taken i : ℕ) (code : List Abs) → All IsForm code
    → list_any is_call (blocks f rs homes p taken i code) ≡ list_any is_call code
blocks-calls f rs homes p taken i [] h = refl
blocks-calls f rs homes p taken i (a ∷ rest) h =
    list_any-append is_call (shifts_code f p (p.before i)) _
    ∙ (ap (λ b. b || list_any is_call (instruction a.op (map (framed_operand rs homes p taken i) a.operands) ∷ (shifts_code f p (p.after i) ++ blocks f rs homes p taken (i + 1) rest)))
    (shifts-quiet f p (p.before i))
    ∙ (ap (λ b. holds_of calls_in (form_of a.op (map (framed_operand rs homes p taken i) a.operands)) || b)
    (list_any-append is_call (shifts_code f p (p.after i)) _ ∙ ap (λ b. b || list_any is_call (blocks f rs homes p taken (i + 1) rest)) (shifts-quiet f p (p.after i)))
    ∙ (λ t. call-same rs homes p taken i a.op a.operands (All-head IsForm a rest h) t || blocks-calls f rs homes p taken (i + 1) rest (All-tail IsForm a rest h) t)))

pub framed-calls : (f : AFunction) (rs : List Region) (homes : List (Option ℕ)) (p : Plan) (taken : ℕ) (code : List Abs) → All IsForm f.code
    → code ≡ shifts_code f p p.entry ++ blocks f rs homes p taken 0 f.code → list_any is_call code ≡ list_any is_call f.code
framed-calls f rs homes p taken code forms_are h =
    ap (list_any is_call) h
    ∙ (list_any-append is_call (shifts_code f p p.entry) _
    ∙ (ap (λ b. b || list_any is_call (blocks f rs homes p taken 0 f.code)) (shifts-quiet f p p.entry)
    ∙ blocks-calls f rs homes p taken 0 f.code forms_are))
