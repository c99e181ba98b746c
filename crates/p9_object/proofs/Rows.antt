-- The operands of each form, one after the other: none of their beginnings is a form, each may follow
-- those before, and behind what may follow some operands make a form.
use Rattle.std.proofs.Common.{◌≡◌, ℕ, ◌<◌, Bool, true, false, ◌&&◌, List, [], ◌∷◌, ◌++◌, Option, Some, None, IsSome, refl, sym, true≢false}
use Rattle.std.specs.Prelude.{is_some, nat_lt, if◌then◌else◌}
use Rattle.p9_abs.specs.declared.instructions.Op.{Op}
use Rattle.p9_abs.specs.declared.instructions.Op.TheVariants.{MovW, MovH, MovHU, MovB, MovBU, Add, AddU, Sub, SubU, And, Or, Xor, Nor, Sgt, SgtU, Sll, Srl, Sra, Mul, MulU, Div, DivU, Beq, Bne, Bgez, Bgtz, Blez, Bltz, Jmp, Jal, Ret, Syscall}
use Rattle.p9_abs.specs.declared.forms.OperandKind.{OperandKind}
use Rattle.p9_abs.specs.declared.forms.OperandKind.TheVariants.{Register, Constant, Address, Memory, HiLo, Target, Function}
use Rattle.p9_abs.specs.declared.forms.Calculation.{Calculation}
use Rattle.p9_abs.specs.declared.forms.Product.{Product}
use Rattle.p9_abs.specs.declared.forms.PairTest.{PairTest}
use Rattle.p9_abs.specs.declared.forms.SignTest.{SignTest}
use Rattle.p9_abs.specs.declared.forms.Width.{Width}
use Rattle.p9_abs.specs.declared.forms.Form.{Form}
use Rattle.p9_abs.specs.Forms.{word_move, signed_move, unsigned_move, arithmetic, shift, multiply, pair_branch, sign_branch, jump, call, bare, kinds_form}
use Rattle.p9_object.specs.Machine.{Sort, sort_of, sorts, may_follow, next_of_move, next_of_signed, next_of_unsigned, next_of_arithmetic, next_of_product, next_of_pair_branch, next_of_sign_branch, next_of_jump, next_of_call, next_of_none, is_constant_of}

abbrev pub is_last : List OperandKind → Bool
is_last [] = true
is_last (k ∷ ks) = false

-- With these kinds behind those before a form is whole, at the last and not earlier; each may follow.
abbrev pub Follow : (List OperandKind → Option Form) → (List Sort → Sort → Bool) → (before after : List OperandKind) → Type 0
Follow form next before [] = is_some (form before) ≡ true
Follow form next before (k ∷ ks) =
    (is_some (form before) ≡ false) × (next (sorts before) (sort_of k) ≡ true) × (is_some (form (before ++ k ∷ [])) ≡ is_last ks)
    × Follow form next (before ++ k ∷ []) ks

-- Forms

nothing : {A : Type 0} → false ≡ true → A
nothing h = absurd (true≢false (sym h))

move : (ks : List OperandKind) → IsSome (word_move ks) → Follow word_move next_of_move [] ks
move (Register a ∷ Register b ∷ []) h = (refl, refl, refl, (refl, refl, refl, refl))
move (Constant a ∷ Register b ∷ []) h = (refl, refl, refl, (refl, refl, refl, refl))
move (Address a ∷ Register b ∷ []) h = (refl, refl, refl, (refl, refl, refl, refl))
move (Memory a ∷ Register b ∷ []) h = (refl, refl, refl, (refl, refl, refl, refl))
move (Register a ∷ Memory b ∷ []) h = (refl, refl, refl, (refl, refl, refl, refl))
move (HiLo a ∷ Register b ∷ []) h = (refl, refl, refl, (refl, refl, refl, refl))
move (Register a ∷ HiLo b ∷ []) h = (refl, refl, refl, (refl, refl, refl, refl))
move _ h = nothing h

signed : (w : Width) (ks : List OperandKind) → IsSome (signed_move w ks) → Follow (signed_move w) next_of_signed [] ks
signed w (Register a ∷ Register b ∷ []) h = (refl, refl, refl, (refl, refl, refl, refl))
signed w (Memory a ∷ Register b ∷ []) h = (refl, refl, refl, (refl, refl, refl, refl))
signed w (Register a ∷ Memory b ∷ []) h = (refl, refl, refl, (refl, refl, refl, refl))
signed w _ h = nothing h

unsigned : (w : Width) (ks : List OperandKind) → IsSome (unsigned_move w ks) → Follow (unsigned_move w) next_of_unsigned [] ks
unsigned w (Register a ∷ Register b ∷ []) h = (refl, refl, refl, (refl, refl, refl, refl))
unsigned w (Memory a ∷ Register b ∷ []) h = (refl, refl, refl, (refl, refl, refl, refl))
unsigned w _ h = nothing h

three : (k : Calculation) (ks : List OperandKind) → IsSome (arithmetic k ks) → Follow (arithmetic k) next_of_arithmetic [] ks
three k (Register a ∷ Register b ∷ Register c ∷ []) h = (refl, refl, refl, (refl, refl, refl, (refl, refl, refl, refl)))
three k (Constant a ∷ Register b ∷ Register c ∷ []) h = (refl, refl, refl, (refl, refl, refl, (refl, refl, refl, refl)))
three k _ h = nothing h

shifted : (k : Calculation) (ks : List OperandKind) → IsSome (shift k ks) → Follow (shift k) next_of_arithmetic [] ks
shifted k (Register a ∷ Register b ∷ Register c ∷ []) h = (refl, refl, refl, (refl, refl, refl, (refl, refl, refl, refl)))
shifted k (Constant a ∷ Register b ∷ Register c ∷ []) h = (refl, refl, refl, (refl, refl, refl, (refl, refl, h, h)))
shifted k _ h = nothing h

two : (k : Product) (ks : List OperandKind) → IsSome (multiply k ks) → Follow (multiply k) next_of_product [] ks
two k (Register a ∷ Register b ∷ []) h = (refl, refl, refl, (refl, refl, refl, refl))
two k _ h = nothing h

pair : (k : PairTest) (ks : List OperandKind) → IsSome (pair_branch k ks) → Follow (pair_branch k) next_of_pair_branch [] ks
pair k (Register a ∷ Register b ∷ Target l ∷ []) h = (refl, refl, refl, (refl, refl, refl, (refl, refl, refl, refl)))
pair k _ h = nothing h

sign : (k : SignTest) (ks : List OperandKind) → IsSome (sign_branch k ks) → Follow (sign_branch k) next_of_sign_branch [] ks
sign k (Register a ∷ Target l ∷ []) h = (refl, refl, refl, (refl, refl, refl, refl))
sign k _ h = nothing h

jumped : (ks : List OperandKind) → IsSome (jump ks) → Follow jump next_of_jump [] ks
jumped (Target l ∷ []) h = (refl, refl, refl, refl)
jumped _ h = nothing h

called : (ks : List OperandKind) → IsSome (call ks) → Follow call next_of_call [] ks
called (Function s ∷ []) h = (refl, refl, refl, refl)
called (Register a ∷ []) h = (refl, refl, refl, refl)
called _ h = nothing h

none : (form : Form) (ks : List OperandKind) → IsSome (bare form ks) → Follow (bare form) next_of_none [] ks
none form [] h = refl
none form _ h = nothing h

pub follows : (op : Op) (ks : List OperandKind) → IsSome (kinds_form op ks) → Follow (kinds_form op) (may_follow op) [] ks
follows MovW ks h = move ks h
follows MovH ks h = signed _ ks h
follows MovHU ks h = unsigned _ ks h
follows MovB ks h = signed _ ks h
follows MovBU ks h = unsigned _ ks h
follows Add ks h = three _ ks h
follows AddU ks h = three _ ks h
follows Sub ks h = three _ ks h
follows SubU ks h = three _ ks h
follows And ks h = three _ ks h
follows Or ks h = three _ ks h
follows Xor ks h = three _ ks h
follows Nor ks h = three _ ks h
follows Sgt ks h = three _ ks h
follows SgtU ks h = three _ ks h
follows Sll ks h = shifted _ ks h
follows Srl ks h = shifted _ ks h
follows Sra ks h = shifted _ ks h
follows Mul ks h = two _ ks h
follows MulU ks h = two _ ks h
follows Div ks h = two _ ks h
follows DivU ks h = two _ ks h
follows Beq ks h = pair _ ks h
follows Bne ks h = pair _ ks h
follows Bgez ks h = sign _ ks h
follows Bgtz ks h = sign _ ks h
follows Blez ks h = sign _ ks h
follows Bltz ks h = sign _ ks h
follows Jmp ks h = jumped ks h
follows Jal ks h = called ks h
follows Ret ks h = none _ ks h
follows Syscall ks h = none _ ks h

-- What may follow leads to a form.

-- operands that stand for those to come
pub data Sample : Type 0 where
  ARegister : Sample
  ATarget : Sample

abbrev pub sample_kind : Sample → OperandKind
sample_kind ARegister = Register 0
sample_kind ATarget = Target 0

abbrev pub sample_kinds : List Sample → List OperandKind
sample_kinds [] = []
sample_kinds (x ∷ xs) = sample_kind x ∷ sample_kinds xs

-- the first operand, if it is a constant, is one that the operation takes
abbrev pub HeadCounts : (ℕ → Bool) → List OperandKind → Type 0
HeadCounts counts [] = Unit {0}
HeadCounts counts (Constant c ∷ ks) = counts c ≡ true
HeadCounts counts (Register r ∷ ks) = Unit {0}
HeadCounts counts (Address a ∷ ks) = Unit {0}
HeadCounts counts (Memory a ∷ ks) = Unit {0}
HeadCounts counts (HiLo h ∷ ks) = Unit {0}
HeadCounts counts (Target l ∷ ks) = Unit {0}
HeadCounts counts (Function s ∷ ks) = Unit {0}

abbrev pub Ends : (List OperandKind → Option Form) → (List Sort → Sort → Bool) → List OperandKind → Type 0
Ends form next before = (rest : List Sample) × Follow form next before (sample_kinds rest)

abbrev Goes : (List OperandKind → Option Form) → (List Sort → Sort → Bool) → Type 0
Goes form next =
    (before : List OperandKind) (k : OperandKind) → next (sorts before) (sort_of k) ≡ true → Ends form next (before ++ k ∷ [])

move_goes : Goes word_move next_of_move
move_goes ([]) (Register a) h = (ARegister ∷ [], (refl, refl, refl, refl))
move_goes ([]) (Constant a) h = (ARegister ∷ [], (refl, refl, refl, refl))
move_goes ([]) (Address a) h = (ARegister ∷ [], (refl, refl, refl, refl))
move_goes ([]) (Memory a) h = (ARegister ∷ [], (refl, refl, refl, refl))
move_goes ([]) (HiLo a) h = (ARegister ∷ [], (refl, refl, refl, refl))
move_goes (Register a ∷ []) (Register b) h = ([], refl)
move_goes (Register a ∷ []) (Memory b) h = ([], refl)
move_goes (Register a ∷ []) (HiLo b) h = ([], refl)
move_goes (Constant a ∷ []) (Register b) h = ([], refl)
move_goes (Address a ∷ []) (Register b) h = ([], refl)
move_goes (Memory a ∷ []) (Register b) h = ([], refl)
move_goes (HiLo a ∷ []) (Register b) h = ([], refl)
move_goes (a ∷ b ∷ more) k h = nothing h
move_goes _ _ h = nothing h

signed_goes : (w : Width) → Goes (signed_move w) next_of_signed
signed_goes w ([]) (Register a) h = (ARegister ∷ [], (refl, refl, refl, refl))
signed_goes w ([]) (Memory a) h = (ARegister ∷ [], (refl, refl, refl, refl))
signed_goes w (Register a ∷ []) (Register b) h = ([], refl)
signed_goes w (Register a ∷ []) (Memory b) h = ([], refl)
signed_goes w (Memory a ∷ []) (Register b) h = ([], refl)
signed_goes w (a ∷ b ∷ more) k h = nothing h
signed_goes w _ _ h = nothing h

unsigned_goes : (w : Width) → Goes (unsigned_move w) next_of_unsigned
unsigned_goes w ([]) (Register a) h = (ARegister ∷ [], (refl, refl, refl, refl))
unsigned_goes w ([]) (Memory a) h = (ARegister ∷ [], (refl, refl, refl, refl))
unsigned_goes w (Register a ∷ []) (Register b) h = ([], refl)
unsigned_goes w (Memory a ∷ []) (Register b) h = ([], refl)
unsigned_goes w (a ∷ b ∷ more) k h = nothing h
unsigned_goes w _ _ h = nothing h

three_goes : (k : Calculation) → Goes (arithmetic k) next_of_arithmetic
three_goes k ([]) (Register a) h = (ARegister ∷ ARegister ∷ [], (refl, refl, refl, (refl, refl, refl, refl)))
three_goes k ([]) (Constant a) h = (ARegister ∷ ARegister ∷ [], (refl, refl, refl, (refl, refl, refl, refl)))
three_goes k (Register a ∷ []) (Register b) h = (ARegister ∷ [], (refl, refl, refl, refl))
three_goes k (Constant a ∷ []) (Register b) h = (ARegister ∷ [], (refl, refl, refl, refl))
three_goes k (Register a ∷ Register b ∷ []) (Register c) h = ([], refl)
three_goes k (Constant a ∷ Register b ∷ []) (Register c) h = ([], refl)
three_goes k (a ∷ b ∷ c ∷ more) x h = nothing h
three_goes k _ _ h = nothing h

there : (b : Bool) (form : Form) → b ≡ true → is_some (if b then Some form else None) ≡ true
there true form h = refl
there false form h = nothing h

shifted_goes :
    (k : Calculation) (before : List OperandKind) (x : OperandKind) → HeadCounts (λ c. nat_lt c 32) (before ++ x ∷ [])
    → next_of_arithmetic (sorts before) (sort_of x) ≡ true → Ends (shift k) next_of_arithmetic (before ++ x ∷ [])
shifted_goes k ([]) (Register a) c h = (ARegister ∷ ARegister ∷ [], (refl, refl, refl, (refl, refl, refl, refl)))
shifted_goes k ([]) (Constant a) c h = (ARegister ∷ ARegister ∷ [], (refl, refl, refl, (refl, refl, there _ _ c, there _ _ c)))
shifted_goes k (Register a ∷ []) (Register b) c h = (ARegister ∷ [], (refl, refl, refl, refl))
shifted_goes k (Constant a ∷ []) (Register b) c h = (ARegister ∷ [], (refl, refl, there _ _ c, there _ _ c))
shifted_goes k (Register a ∷ Register b ∷ []) (Register d) c h = ([], refl)
shifted_goes k (Constant a ∷ Register b ∷ []) (Register d) c h = ([], there _ _ c)
shifted_goes k (a ∷ b ∷ c ∷ more) x e h = nothing h
shifted_goes k _ _ e h = nothing h

two_goes : (k : Product) → Goes (multiply k) next_of_product
two_goes k ([]) (Register a) h = (ARegister ∷ [], (refl, refl, refl, refl))
two_goes k (Register a ∷ []) (Register b) h = ([], refl)
two_goes k (a ∷ b ∷ more) x h = nothing h
two_goes k _ _ h = nothing h

pair_goes : (k : PairTest) → Goes (pair_branch k) next_of_pair_branch
pair_goes k ([]) (Register a) h = (ARegister ∷ ATarget ∷ [], (refl, refl, refl, (refl, refl, refl, refl)))
pair_goes k (Register a ∷ []) (Register b) h = (ATarget ∷ [], (refl, refl, refl, refl))
pair_goes k (Register a ∷ Register b ∷ []) (Target l) h = ([], refl)
pair_goes k (a ∷ b ∷ c ∷ more) x h = nothing h
pair_goes k _ _ h = nothing h

sign_goes : (k : SignTest) → Goes (sign_branch k) next_of_sign_branch
sign_goes k ([]) (Register a) h = (ATarget ∷ [], (refl, refl, refl, refl))
sign_goes k (Register a ∷ []) (Target l) h = ([], refl)
sign_goes k (a ∷ b ∷ more) x h = nothing h
sign_goes k _ _ h = nothing h

jump_goes : Goes jump next_of_jump
jump_goes ([]) (Target l) h = ([], refl)
jump_goes (a ∷ more) k h = nothing h
jump_goes _ _ h = nothing h

call_goes : Goes call next_of_call
call_goes ([]) (Function s) h = ([], refl)
call_goes ([]) (Register a) h = ([], refl)
call_goes (a ∷ more) k h = nothing h
call_goes _ _ h = nothing h

none_goes : (form : Form) → Goes (bare form) next_of_none
none_goes form before k h = nothing h

pub goes :
    (op : Op) (before : List OperandKind) (k : OperandKind) → HeadCounts (is_constant_of op) (before ++ k ∷ [])
    → may_follow op (sorts before) (sort_of k) ≡ true → Ends (kinds_form op) (may_follow op) (before ++ k ∷ [])
goes MovW before k c h = move_goes before k h
goes MovH before k c h = signed_goes _ before k h
goes MovHU before k c h = unsigned_goes _ before k h
goes MovB before k c h = signed_goes _ before k h
goes MovBU before k c h = unsigned_goes _ before k h
goes Add before k c h = three_goes _ before k h
goes AddU before k c h = three_goes _ before k h
goes Sub before k c h = three_goes _ before k h
goes SubU before k c h = three_goes _ before k h
goes And before k c h = three_goes _ before k h
goes Or before k c h = three_goes _ before k h
goes Xor before k c h = three_goes _ before k h
goes Nor before k c h = three_goes _ before k h
goes Sgt before k c h = three_goes _ before k h
goes SgtU before k c h = three_goes _ before k h
goes Sll before k c h = shifted_goes _ before k c h
goes Srl before k c h = shifted_goes _ before k c h
goes Sra before k c h = shifted_goes _ before k c h
goes Mul before k c h = two_goes _ before k h
goes MulU before k c h = two_goes _ before k h
goes Div before k c h = two_goes _ before k h
goes DivU before k c h = two_goes _ before k h
goes Beq before k c h = pair_goes _ before k h
goes Bne before k c h = pair_goes _ before k h
goes Bgez before k c h = sign_goes _ before k h
goes Bgtz before k c h = sign_goes _ before k h
goes Blez before k c h = sign_goes _ before k h
goes Bltz before k c h = sign_goes _ before k h
goes Jmp before k c h = jump_goes before k h
goes Jal before k c h = call_goes before k h
goes Ret before k c h = none_goes _ before k h
goes Syscall before k c h = none_goes _ before k h
