-- Which registers and which bytes a step leaves: R29 to R31, and those of the stack that are banned.
use Rattle.std.proofs.Common.{◌≡◌, ◌≢◌, ◌≤◌, ◌<◌, ◌⊎◌, inl, inr, ℕ, zero, suc, ◌+◌, ◌-◌, ◌/◌, ◌%◌, ◌^◌, ◌==◌, ◌&&◌, nat_lt, Bool, true, false, Option, Some, None, if◌then◌else◌, List, [], ◌∷◌, ◌++◌, length, take, drop, min, map, slice_get, slice_index, slice_set, refl, sym, ap, ◌∙◌, subst, arith}
use Rattle.std.specs.Prelude.{option_and_then}
use Rattle.std.proofs.lemmas.List.{get_or-set_other, length-set, get_or_append_left, get_or-append_right, get_or-drop, get_or-take, length-take, length-take-le, length-append}
use Rattle.std.proofs.lemmas.Bool.{true≢false, ltb-true, ltb-false, and_parts}
use Rattle.std.proofs.lemmas.Bool.Decides.{nat_tests}
use Rattle.p9_base.specs.declared.halt.Ending.{Ending}
use Rattle.p9_base.specs.declared.halt.Asked.{Asked}
use Rattle.p9_base.specs.declared.halt.Asked.TheVariants as asks
use Rattle.p9_base.specs.declared.order.ByteOrder.{ByteOrder}
use Rattle.p9_base.specs.declared.order.ByteOrder.TheVariants.{Big, Little}
use Rattle.p9_base.specs.Core.{Core, text_start, stack_start, stack_end, low_end, reg, with_reg, writable, read_byte, with_byte, with_half, with_word, with_bytes, with_two, with_four, with_half_in, with_word_in, over}
use Rattle.p9_base.specs.SystemCalls.{State, asked, called}
use Rattle.p9_base.specs.Holding.{LaidOut}
use Rattle.p9_base.proofs.Kept.{writable-stack_end, asked-room, RoomFits, over-none}
use Rattle.p9_abs.specs.declared.instructions.Op.{Op}
use Rattle.p9_abs.specs.declared.instructions.Op.TheVariants.{MovW, MovH, MovHU, MovB, MovBU, Add, AddU, Sub, SubU, And, Or, Xor, Nor, Sgt, SgtU, Sll, Srl, Sra, Mul, MulU, Div, DivU, Beq, Bne, Bgez, Bgtz, Blez, Bltz, Jmp, Jal, Ret, Syscall}
use Rattle.p9_abs.specs.declared.instructions.Operand.{Operand}
use Rattle.p9_abs.specs.declared.instructions.Operand.TheVariants.{Reg, Const, AddrSB, AddrFP, AddrSP, MemSB, MemFP, MemSP, MemReg, Label, Func, Hi, Lo, Auto, AutoAddr}
use Rattle.p9_abs.specs.declared.instructions.Abs.{Abs}
use Rattle.p9_abs.specs.declared.forms.Width.{Width}
use Rattle.p9_abs.specs.declared.forms.Calculation.{Calculation}
use Rattle.p9_abs.specs.declared.forms.Product.{Product}
use Rattle.p9_abs.specs.declared.forms.PairTest.{PairTest}
use Rattle.p9_abs.specs.declared.forms.SignTest.{SignTest}
use Rattle.p9_abs.specs.declared.forms.OperandKind.{OperandKind}
use Rattle.p9_abs.specs.declared.forms.OperandKind.TheVariants.{Register, Constant, Address, Memory, HiLo, Target, Function}
use Rattle.p9_abs.specs.declared.forms.Form.{Form}
use Rattle.p9_abs.specs.declared.forms.Form.TheVariants as forms
use Rattle.p9_abs.specs.Forms.{operand_kind, word_move, signed_move, unsigned_move, arithmetic, shift, multiply, pair_branch, sign_branch, jump, call, bare, kinds_form, decoded}
use Rattle.p9_abs.specs.Validity.{writes_last, IsWritable}
use Rattle.p9_abs.specs.Automatics.{form_at}
use Rattle.p9_abs.specs.Steps.{Mach, Around, Step, Next, Turns, Calls, Returns, Exits, Undefined, without_text, step, is_free, words_free, room_free, ended, acts}
use Rattle.p9_abs.specs.Laws.{IfMach, StackStays, BannedStay}
use Rattle.p9_abs.proofs.Walking.{destination, Walk, walked}
use Rattle.p9_abs.proofs.StepLaws.{step-by, ended-by}

-- The register that a form writes is its last operand

abbrev IsFree : ℕ → Type 0
IsFree r = (r ≢ 29) × (r ≢ 30) × (r ≢ 31)

abbrev LastIsFree : List OperandKind → Type 0
LastIsFree [] = Unit {0}
LastIsFree (Register r ∷ []) = IsFree r
LastIsFree (k ∷ []) = Unit {0}
LastIsFree (k ∷ next ∷ rest) = LastIsFree (next ∷ rest)

last-free : (operands : List Operand) → IsWritable operands → LastIsFree (map operand_kind operands)
last-free [] h = tt
last-free (Reg r ∷ []) h = h
last-free (Const c ∷ []) h = tt
last-free (AddrSB s o ∷ []) h = tt
last-free (AddrFP o ∷ []) h = tt
last-free (AddrSP o ∷ []) h = tt
last-free (MemSB s o ∷ []) h = tt
last-free (MemFP o ∷ []) h = tt
last-free (MemSP o ∷ []) h = tt
last-free (MemReg r o ∷ []) h = tt
last-free (Label l ∷ []) h = tt
last-free (Func s ∷ []) h = tt
last-free (Hi ∷ []) h = tt
last-free (Lo ∷ []) h = tt
last-free (Auto v o ∷ []) h = tt
last-free (AutoAddr v o ∷ []) h = tt
last-free (a ∷ next ∷ rest) h = last-free (next ∷ rest) h

-- what is said of the form of a row
abbrev WritesFree : Option Form → Type 0
WritesFree o = (form : Form) (r : ℕ) → o ≡ Some form → destination form ≡ Some r → IsFree r

free-none : WritesFree None
free-none form r e d = absurd (let z : None ≡ Some form = e in cc)

free-of : (f : Form) → ((r : ℕ) → destination f ≡ Some r → IsFree r) → WritesFree (Some f)
free-of f h form r e d = h r (ap destination (let z : f ≡ form = cc in z) ∙ d)

same-register : (b r : ℕ) → Some b ≡ Some r → b ≡ r
same-register b r e = cc

into : (b : ℕ) → IsFree b → (r : ℕ) → Some b ≡ Some r → IsFree r
into b h r e = subst IsFree (same-register b r e) h

nothing : (r : ℕ) → None ≡ Some r → IsFree r
nothing r e = absurd (let z : None ≡ Some r = e in cc)

word-free : (ks : List OperandKind) → LastIsFree ks → WritesFree (word_move ks)
word-free (Register a ∷ Register b ∷ []) h = free-of _ (into b h)
word-free (Constant c ∷ Register b ∷ []) h = free-of _ (into b h)
word-free (Address a ∷ Register b ∷ []) h = free-of _ (into b h)
word-free (Memory a ∷ Register b ∷ []) h = free-of _ (into b h)
word-free (Register a ∷ Memory b ∷ []) h = free-of _ nothing
word-free (HiLo a ∷ Register b ∷ []) h = free-of _ (into b h)
word-free (Register a ∷ HiLo b ∷ []) h = free-of _ nothing
word-free _ h = free-none

signed-free : (w : Width) (ks : List OperandKind) → LastIsFree ks → WritesFree (signed_move w ks)
signed-free w (Register a ∷ Register b ∷ []) h = free-of _ (into b h)
signed-free w (Memory a ∷ Register b ∷ []) h = free-of _ (into b h)
signed-free w (Register a ∷ Memory b ∷ []) h = free-of _ nothing
signed-free w _ h = free-none

unsigned-free : (w : Width) (ks : List OperandKind) → LastIsFree ks → WritesFree (unsigned_move w ks)
unsigned-free w (Register a ∷ Register b ∷ []) h = free-of _ (into b h)
unsigned-free w (Memory a ∷ Register b ∷ []) h = free-of _ (into b h)
unsigned-free w _ h = free-none

arithmetic-free : (k : Calculation) (ks : List OperandKind) → LastIsFree ks → WritesFree (arithmetic k ks)
arithmetic-free k (Register a ∷ Register b ∷ Register c ∷ []) h = free-of _ (into c h)
arithmetic-free k (Constant a ∷ Register b ∷ Register c ∷ []) h = free-of _ (into c h)
arithmetic-free k _ h = free-none

choice-free : (t : Bool) (f : Form) → WritesFree (Some f) → WritesFree (if t then Some f else None)
choice-free true f h = h
choice-free false f h = free-none

shift-free : (k : Calculation) (ks : List OperandKind) → LastIsFree ks → WritesFree (shift k ks)
shift-free k (Register a ∷ Register b ∷ Register c ∷ []) h = free-of _ (into c h)
shift-free k (Constant a ∷ Register b ∷ Register c ∷ []) h = choice-free (nat_lt a 32) (forms.ShiftConstant k a b c) (free-of _ (into c h))
shift-free k _ h = free-none

multiply-free : (k : Product) (ks : List OperandKind) → WritesFree (multiply k ks)
multiply-free k (Register a ∷ Register b ∷ []) = free-of _ nothing
multiply-free k _ = free-none

pair-free : (k : PairTest) (ks : List OperandKind) → WritesFree (pair_branch k ks)
pair-free k (Register a ∷ Register b ∷ Target l ∷ []) = free-of _ nothing
pair-free k _ = free-none

sign-free : (k : SignTest) (ks : List OperandKind) → WritesFree (sign_branch k ks)
sign-free k (Register a ∷ Target l ∷ []) = free-of _ nothing
sign-free k _ = free-none

jump-free : (ks : List OperandKind) → WritesFree (jump ks)
jump-free (Target l ∷ []) = free-of _ nothing
jump-free _ = free-none

call-free : (ks : List OperandKind) → WritesFree (call ks)
call-free (Function s ∷ []) = free-of _ nothing
call-free (Register a ∷ []) = free-of _ nothing
call-free _ = free-none

bare-free : (f : Form) (ks : List OperandKind) → ((r : ℕ) → destination f ≡ Some r → IsFree r) → WritesFree (bare f ks)
bare-free f [] h = free-of f h
bare-free f (k ∷ ks) h = free-none

kinds-free : (op : Op) (ks : List OperandKind) → (writes_last op ≡ true → LastIsFree ks) → WritesFree (kinds_form op ks)
kinds-free MovW ks h = word-free ks (h refl)
kinds-free MovH ks h = signed-free _ ks (h refl)
kinds-free MovHU ks h = unsigned-free _ ks (h refl)
kinds-free MovB ks h = signed-free _ ks (h refl)
kinds-free MovBU ks h = unsigned-free _ ks (h refl)
kinds-free Add ks h = arithmetic-free _ ks (h refl)
kinds-free AddU ks h = arithmetic-free _ ks (h refl)
kinds-free Sub ks h = arithmetic-free _ ks (h refl)
kinds-free SubU ks h = arithmetic-free _ ks (h refl)
kinds-free And ks h = arithmetic-free _ ks (h refl)
kinds-free Or ks h = arithmetic-free _ ks (h refl)
kinds-free Xor ks h = arithmetic-free _ ks (h refl)
kinds-free Nor ks h = arithmetic-free _ ks (h refl)
kinds-free Sgt ks h = arithmetic-free _ ks (h refl)
kinds-free SgtU ks h = arithmetic-free _ ks (h refl)
kinds-free Sll ks h = shift-free _ ks (h refl)
kinds-free Srl ks h = shift-free _ ks (h refl)
kinds-free Sra ks h = shift-free _ ks (h refl)
kinds-free Mul ks h = multiply-free _ ks
kinds-free MulU ks h = multiply-free _ ks
kinds-free Div ks h = multiply-free _ ks
kinds-free DivU ks h = multiply-free _ ks
kinds-free Beq ks h = pair-free _ ks
kinds-free Bne ks h = pair-free _ ks
kinds-free Bgez ks h = sign-free _ ks
kinds-free Bgtz ks h = sign-free _ ks
kinds-free Blez ks h = sign-free _ ks
kinds-free Bltz ks h = sign-free _ ks
kinds-free Jmp ks h = jump-free ks
kinds-free Jal ks h = call-free ks
kinds-free Ret ks h = bare-free forms.Return ks nothing
kinds-free Syscall ks h = bare-free forms.SystemCall ks nothing

-- the register that an instruction writes is none of R29, R30 and R31
pub destination-free : (a : Abs) → (writes_last a.op ≡ true → IsWritable a.operands) → WritesFree (decoded a)
destination-free a h = kinds-free a.op (map operand_kind a.operands) (λ w. last-free a.operands (h w))

-- R29 to R31

abbrev KeepsRegister : ℕ → Mach → Step → Type 0
KeepsRegister q x s = IfMach (λ y. reg y.state.core q ≡ reg x.state.core q) s

other-register-by : (b : Bool) (regs : List ℕ) (r v q : ℕ) → q ≢ r → slice_index (if b then regs else slice_set regs r v) q ≡ slice_index regs q
other-register-by true regs r v q h = refl
other-register-by false regs r v q h = get_or-set_other regs r q v 0 h

pub other-register : (regs : List ℕ) (r v q : ℕ) → q ≢ r → slice_index (with_reg regs r v) q ≡ slice_index regs q
other-register regs r v q h = other-register-by (r == 0) regs r v q h

memory-regs : (b : Bool) (c : Core) (low stack : List ℕ) (q : ℕ) → (let d : Core = (if b then record c { low = low } else record c { stack = stack }) in reg d q ≡ reg c q)
memory-regs true c low stack q = refl
memory-regs false c low stack q = refl

called-register : (k : Asked) (s : State) (q : ℕ) → q ≢ 1 → (let t : State = called k s in reg t.core q ≡ reg s.core q)
called-register (asks.Exits at len) s q h = refl
called-register (asks.Read at n) s q h =
    let k : ℕ = min n (length s.left) in
    let d : Core = with_bytes s.core at (take k s.left) in
    other-register d.regs 1 k q h
    ∙ memory-regs (nat_lt at stack_start) s.core (over s.core.low (at - text_start) (take k s.left)) (over s.core.stack (at - stack_start) (take k s.left)) q
called-register (asks.Write at n) s q h = other-register s.core.regs 1 n q h
called-register asks.Refused s q h = other-register s.core.regs 1 (2 ^ 32 - 1) q h
called-register (asks.Stop cause) s q h = refl

register-walk : (around : Around) (form : Form) (x : Mach) (q : ℕ) → q ≢ 1 → ((r : ℕ) → destination form ≡ Some r → q ≢ r) → Walk around form x (KeepsRegister q x)
register-walk around form x q one other = record {
  undefined = tt;
  register = λ r v d w. other-register x.state.core.regs r v q (other r d);
  pair = λ h l w. refl;
  byte = λ a v f w s. memory-regs (nat_lt a stack_start) x.state.core (slice_set x.state.core.low (a - text_start) v) (slice_set x.state.core.stack (a - stack_start) v) q;
  half = λ a v f w. memory-regs (nat_lt a stack_start) x.state.core (with_half_in x.state.core.order x.state.core.low (a - text_start) v) (with_half_in x.state.core.order x.state.core.stack (a - stack_start) v) q;
  word = λ a v f w. memory-regs (nat_lt a stack_start) x.state.core (with_word_in x.state.core.order x.state.core.low (a - text_start) v) (with_word_in x.state.core.order x.state.core.stack (a - stack_start) v) q;
  variable = λ v value h. refl;
  turn = λ taken l. refl;
  call = λ to. refl;
  back = refl;
  system = λ e f.
      (let s : State = called (asked x.state.core) x.state in
      ended-by (λ y. reg y.state.core q ≡ reg x.state.core q) s.core.ending (record x { state = s; at = x.at + 1 })
      (called-register (asked x.state.core) x.state q one));
}

keeps-register : (around : Around) (code : List Abs) (x : Mach) (a : Abs) (q : ℕ) → slice_get code x.at ≡ Some a → q ≢ 1
    → ((form : Form) (r : ℕ) → decoded a ≡ Some form → destination form ≡ Some r → q ≢ r) → KeepsRegister q x (step around code x)
keeps-register around code x a q e one other =
    step-by around code x (KeepsRegister q x) tt
    (λ form f. walked around form (without_text x) (KeepsRegister q x)
    (register-walk around form (without_text x) q one (λ r d. other form r (sym (ap (option_and_then decoded) e) ∙ f) d)))

three : (s : Step) (x : Mach) → KeepsRegister 29 x s → KeepsRegister 30 x s → KeepsRegister 31 x s
    → IfMach (λ y. (reg y.state.core 29 ≡ reg x.state.core 29) × (reg y.state.core 30 ≡ reg x.state.core 30) × (reg y.state.core 31 ≡ reg x.state.core 31)) s
three (Next y) x a b c = (a, b, c)
three (Turns taken y) x a b c = (a, b, c)
three (Calls to y) x a b c = (a, b, c)
three (Returns y) x a b c = (a, b, c)
three (Exits y) x a b c = (a, b, c)
three Undefined x a b c = tt

pub stack_stays : StackStays
stack_stays around code x a e w =
    let free : WritesFree (decoded a) = destination-free a w in
    three (step around code x) x
    (keeps-register around code x a 29 e (omega arith) (λ form r f d same. (free form r f d).0 (sym same)))
    (keeps-register around code x a 30 e (omega arith) (λ form r f d same. (free form r f d).1 (sym same)))
    (keeps-register around code x a 31 e (omega arith) (λ form r f d same. (free form r f d).2 (sym same)))

-- Banned bytes of the stack

free-not : (banned : ℕ → Bool) (n a k : ℕ) → is_free banned a n ≡ true → k < n → banned (a + k) ≡ false
free-not banned zero a k h l = absurd (omega arith)
free-not banned (suc n) a zero h l =
    let e : a + 0 ≡ a = omega arith in
    subst (λ b. banned b ≡ false) (sym e) (not-first (banned a) h)
  where
    not-first : (t : Bool) → (if t then false else is_free banned (a + 1) n) ≡ true → t ≡ false
    not-first true g = absurd (true≢false (sym g))
    not-first false g = refl
free-not banned (suc n) a (suc k) h l =
    let e : a + 1 + k ≡ a + suc k = omega arith in
    subst (λ b. banned b ≡ false) e (free-not banned n (a + 1) k (rest (banned a) h) (omega arith))
  where
    rest : (t : Bool) → (if t then false else is_free banned (a + 1) n) ≡ true → is_free banned (a + 1) n ≡ true
    rest true g = absurd (true≢false (sym g))
    rest false g = g

-- a banned byte isn't among free ones
pub banned-apart : (banned : ℕ → Bool) (n a b : ℕ) → is_free banned a n ≡ true → banned b ≡ true → (b < a) ⊎ (a + n ≤ b)
banned-apart banned n a b h e = by (nat_lt b a) (nat_lt b (a + n)) refl refl
  where
    by : (s t : Bool) → nat_lt b a ≡ s → nat_lt b (a + n) ≡ t → (b < a) ⊎ (a + n ≤ b)
    by true t f g = inl (ltb-true b a f)
    by false false f g = inr (ltb-false b (a + n) g)
    by false true f g =
        let low : a ≤ b = ltb-false b a f in
        let high : b < a + n = ltb-true b (a + n) g in
        let is : a + (b - a) ≡ b = omega arith in
        absurd (true≢false (sym e ∙ (ap banned (sym is) ∙ free-not banned n a (b - a) h (omega arith))))

read_byte-stack : (c : Core) (b : ℕ) → stack_start ≤ b → read_byte c b ≡ slice_index c.stack (b - stack_start)
read_byte-stack c b h = by (nat_lt b stack_start) refl
  where
    by : (t : Bool) → nat_lt b stack_start ≡ t → (if t then slice_index c.low (b - text_start) else slice_index c.stack (b - stack_start)) ≡ slice_index c.stack (b - stack_start)
    by true e = absurd (let l : b < stack_start = ltb-true b stack_start e in omega arith)
    by false e = refl

-- memory with bytes written from a on: where they are in the stack, the stack has this byte as it was
stack-byte : (a b : ℕ) (c : Core) (low stack : List ℕ) → stack_start ≤ b
    → (stack_start ≤ a → slice_index stack (b - stack_start) ≡ slice_index c.stack (b - stack_start))
    → (let d : Core = (if nat_lt a stack_start then record c { low = low } else record c { stack = stack }) in read_byte d b ≡ read_byte c b)
stack-byte a b c low stack h same = by (nat_lt a stack_start) refl
  where
    by : (t : Bool) → nat_lt a stack_start ≡ t → (let d : Core = (if t then record c { low = low } else record c { stack = stack }) in read_byte d b ≡ read_byte c b)
    by true e = read_byte-stack (record c { low = low }) b h ∙ sym (read_byte-stack c b h)
    by false e = read_byte-stack (record c { stack = stack }) b h ∙ (same (ltb-false a stack_start e) ∙ sym (read_byte-stack c b h))

set-apart : (xs : List ℕ) (i j v : ℕ) → j ≢ i → slice_index (slice_set xs i v) j ≡ slice_index xs j
set-apart xs i j v h = get_or-set_other xs i j v 0 h

abbrev Apart : ℕ → ℕ → ℕ → Type 0
Apart i n j = (j < i) ⊎ (i + n ≤ j)

differs : (i n j k : ℕ) → Apart i n j → k < n → j ≢ i + k
differs i n j k (inl h) l = omega arith
differs i n j k (inr h) l = omega arith

two-apart : (xs : List ℕ) (i j x y : ℕ) → Apart i 2 j → slice_index (with_two xs i x y) j ≡ slice_index xs j
two-apart xs i j x y h =
    set-apart (slice_set xs i x) (i + 1) j y (differs i 2 j 1 h (omega arith))
    ∙ set-apart xs i j x (λ e. differs i 2 j 0 h (omega arith) (let z : i ≡ i + 0 = omega arith in e ∙ z))

four-apart : (xs : List ℕ) (i j x y z w : ℕ) → Apart i 4 j → slice_index (with_four xs i x y z w) j ≡ slice_index xs j
four-apart xs i j x y z w h =
    set-apart (slice_set (with_two xs i x y) (i + 2) z) (i + 3) j w (differs i 4 j 3 h (omega arith))
    ∙ (set-apart (with_two xs i x y) (i + 2) j z (differs i 4 j 2 h (omega arith)) ∙ two-apart xs i j x y (shorter h))
  where
    shorter : Apart i 4 j → Apart i 2 j
    shorter (inl g) = inl g
    shorter (inr g) = inr (omega arith)

half-apart : (o : ByteOrder) (xs : List ℕ) (i j v : ℕ) → Apart i 2 j → slice_index (with_half_in o xs i v) j ≡ slice_index xs j
half-apart Big xs i j v h = two-apart xs i j (v / 2 ^ 8 % 2 ^ 8) (v % 2 ^ 8) h
half-apart Little xs i j v h = two-apart xs i j (v % 2 ^ 8) (v / 2 ^ 8 % 2 ^ 8) h

word-apart : (o : ByteOrder) (xs : List ℕ) (i j v : ℕ) → Apart i 4 j → slice_index (with_word_in o xs i v) j ≡ slice_index xs j
word-apart Big xs i j v h = four-apart xs i j (v / 2 ^ 24 % 2 ^ 8) (v / 2 ^ 16 % 2 ^ 8) (v / 2 ^ 8 % 2 ^ 8) (v % 2 ^ 8) h
word-apart Little xs i j v h = four-apart xs i j (v % 2 ^ 8) (v / 2 ^ 8 % 2 ^ 8) (v / 2 ^ 16 % 2 ^ 8) (v / 2 ^ 24 % 2 ^ 8) h

over-apart : (xs : List ℕ) (i : ℕ) (ys : List ℕ) (j : ℕ) → i + length ys ≤ length xs → Apart i (length ys) j → slice_index (over xs i ys) j ≡ slice_index xs j
over-apart xs i ys j fits (inl h) =
    let size : length (take i xs) ≡ i = length-take-le i xs (omega arith) in
    get_or_append_left (take i xs ++ ys) (drop (i + length ys) xs) 0 j (omega (arith, length-append (take i xs) ys, size))
    ∙ (get_or_append_left (take i xs) ys 0 j (omega (arith, size)) ∙ get_or-take i xs j 0 h)
over-apart xs i ys j fits (inr h) =
    let size : length (take i xs) ≡ i = length-take-le i xs (omega arith) in
    let all : length (take i xs ++ ys) ≡ i + length ys = omega (arith, length-append (take i xs) ys, size) in
    let is : i + length ys + (j - (i + length ys)) ≡ j = omega arith in
    get_or-append_right (take i xs ++ ys) (drop (i + length ys) xs) (i + length ys) j 0 all h
    ∙ (get_or-drop (i + length ys) xs (j - (i + length ys)) 0 ∙ ap (λ k. slice_index xs k) is)

-- bytes from a on and byte b, counted from the stack's start
shifted : (a n b : ℕ) → stack_start ≤ a → stack_start ≤ b → Apart a n b → Apart (a - stack_start) n (b - stack_start)
shifted a n b ha hb (inl h) = inl (omega arith)
shifted a n b ha hb (inr h) = inr (omega arith)

with_bytes-apart : (c : Core) (a b : ℕ) (ys : List ℕ) → LaidOut c → length ys ≤ writable c a → stack_start ≤ b → Apart a (length ys) b
    → read_byte (with_bytes c a ys) b ≡ read_byte c b
with_bytes-apart c a b [] laid room hb h =
    stack-byte a b c (over c.low (a - text_start) []) (over c.stack (a - stack_start) []) hb
    (λ ha. ap (λ l. slice_index l (b - stack_start)) (over-none c.stack (a - stack_start)))
with_bytes-apart c a b (y ∷ ys) laid room hb h =
    stack-byte a b c (over c.low (a - text_start) (y ∷ ys)) (over c.stack (a - stack_start) (y ∷ ys)) hb
    (λ ha. let some : 0 < length (y ∷ ys) = omega arith in
    let reach : a + length (y ∷ ys) ≤ stack_end = writable-stack_end a c.data_start (low_end c) (length (y ∷ ys)) some room laid.above ha in
    let size : length c.stack ≡ stack_end - stack_start = laid.stack_size in
    over-apart c.stack (a - stack_start) (y ∷ ys) (b - stack_start) (omega (arith, reach, size, ha)) (shifted a (length (y ∷ ys)) b ha hb h))

abbrev KeepsByte : ℕ → Mach → Step → Type 0
KeepsByte b x s = IfMach (λ y. read_byte y.state.core b ≡ read_byte x.state.core b) s

fewer : (a n m b : ℕ) → m ≤ n → Apart a n b → Apart a m b
fewer a n m b h (inl l) = inl l
fewer a n m b h (inr l) = inr (omega arith)

called-byte : (around : Around) (k : Asked) (s : State) (b : ℕ) → LaidOut s.core → RoomFits k s.core → room_free around s.core k ≡ true
    → stack_start ≤ b → around.banned b ≡ true → (let t : State = called k s in read_byte t.core b ≡ read_byte s.core b)
called-byte around (asks.Exits at len) s b laid room free hb e = refl
called-byte around (asks.Read at n) s b laid room free hb e =
    let k : ℕ = min n (length s.left) in
    let size : length (take k s.left) ≤ n = omega (arith, length-take k s.left) in
    let apart : Apart at n b = banned-apart around.banned n at b ((and_parts (words_free around (reg s.core 29) 3) _ free).1) e in
    with_bytes-apart s.core at b (take k s.left) laid (omega (arith, size, room)) hb (fewer at n (length (take k s.left)) b size apart)
called-byte around (asks.Write at n) s b laid room free hb e = refl
called-byte around asks.Refused s b laid room free hb e = refl
called-byte around (asks.Stop cause) s b laid room free hb e = refl

byte-walk : (around : Around) (form : Form) (x : Mach) (b : ℕ) → LaidOut x.state.core → stack_start ≤ b → around.banned b ≡ true → Walk around form x (KeepsByte b x)
byte-walk around form x b laid hb e = record {
  undefined = tt;
  register = λ r v d w. refl;
  pair = λ h l w. refl;
  byte = λ a v f w s. stack-byte a b x.state.core (slice_set x.state.core.low (a - text_start) v) (slice_set x.state.core.stack (a - stack_start) v) hb
      (λ ha. set-apart x.state.core.stack (a - stack_start) (b - stack_start) v
      (λ same. differs (a - stack_start) 1 (b - stack_start) 0 (shifted a 1 b ha hb (banned-apart around.banned 1 a b f e)) (omega arith) (let z : a - stack_start ≡ a - stack_start + 0 = omega arith in same ∙ z)));
  half = λ a v f w. stack-byte a b x.state.core (with_half_in x.state.core.order x.state.core.low (a - text_start) v) (with_half_in x.state.core.order x.state.core.stack (a - stack_start) v) hb
      (λ ha. half-apart x.state.core.order x.state.core.stack (a - stack_start) (b - stack_start) v (shifted a 2 b ha hb (banned-apart around.banned 2 a b f e)));
  word = λ a v f w. stack-byte a b x.state.core (with_word_in x.state.core.order x.state.core.low (a - text_start) v) (with_word_in x.state.core.order x.state.core.stack (a - stack_start) v) hb
      (λ ha. word-apart x.state.core.order x.state.core.stack (a - stack_start) (b - stack_start) v (shifted a 4 b ha hb (banned-apart around.banned 4 a b f e)));
  variable = λ v value h. refl;
  turn = λ taken l. refl;
  call = λ to. refl;
  back = refl;
  system = λ g f.
      (let s : State = called (asked x.state.core) x.state in
      ended-by (λ y. read_byte y.state.core b ≡ read_byte x.state.core b) s.core.ending (record x { state = s; at = x.at + 1 })
      (called-byte around (asked x.state.core) x.state b laid (asked-room x.state.core) f hb e));
}

pub banned_stay : BannedStay
banned_stay around code x b laid hb e =
    step-by around code x (KeepsByte b x) tt
    (λ form f. walked around form (without_text x) (KeepsByte b x) (byte-walk around form (without_text x) b laid hb e))
