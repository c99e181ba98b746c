-- Instructions: what is read is an instruction in range, each such is read, and from inside one some
-- fields lead to its end.
use Rattle.std.proofs.Common.{◌≡◌, ◌≢◌, ◌⊎◌, ℕ, zero, suc, ◌+◌, ◌<◌, Bool, true, false, ◌&&◌, ◌||◌, not, List, [], ◌∷◌, ◌++◌, Option, Some, None, IsSome, map, flat_map, All, refl, sym, ap, subst, ◌∙◌, append_assoc, arith, inl, inr}
use Rattle.std.specs.Prelude.{is_some, nat_lt, if◌then◌else◌, ◌==◌, IfSome}
use Rattle.std.proofs.lemmas.Bool.{cond_both, eqb-true, eq-eqb, ne_eqb, ltb-true, lt-ltb, and_parts, and_from, true≢false, cases_Bool, or_cases}
use Rattle.std.proofs.lemmas.Grind.{flat_map-append}
use Rattle.std.proofs.lemmas.List.{append-nil, length-append, map-append}
use Rattle.std.proofs.lemmas.List.Elements.{All-nil, All-cons, All-append, All-head, All-tail}
use Rattle.p9_abs.specs.declared.instructions.Op.{Op}
use Rattle.p9_abs.specs.declared.instructions.Op.TheVariants.{MovW, MovH, MovHU, MovB, MovBU, Add, AddU, Sub, SubU, And, Or, Xor, Nor, Sgt, SgtU, Sll, Srl, Sra, Mul, MulU, Div, DivU, Beq, Bne, Bgez, Bgtz, Blez, Bltz, Jmp, Jal, Ret, Syscall}
use Rattle.p9_abs.specs.declared.instructions.Operand.{Operand}
use Rattle.p9_abs.specs.declared.instructions.Operand.TheVariants.{Reg, Const, AddrSB, AddrFP, AddrSP, MemSB, MemFP, MemSP, MemReg, Label, Func, Hi, Lo, Auto, AutoAddr}
use Rattle.p9_abs.specs.declared.instructions.Abs.{Abs}
use Rattle.p9_abs.specs.declared.forms.OperandKind.{OperandKind}
use Rattle.p9_abs.specs.declared.forms.OperandKind.TheVariants as kind
use Rattle.p9_abs.specs.declared.forms.Calculation.{Calculation}
use Rattle.p9_abs.specs.declared.forms.Form.{Form}
use Rattle.p9_abs.specs.declared.forms.Form.TheVariants.{ShiftConstant}
use Rattle.p9_abs.specs.Forms.{operand_kind, kinds_form, form_of, op_number, IsForm, shift}
use Rattle.p9_abs.specs.Modules.{named_by_operand}
use Rattle.p9_abs.specs.Validity.{IsRegister, IsInRange, IsWithin, IsInstruction, IsWritable, writes_last}
use Rattle.p9_object.specs.Fields.{Field, Byte, Half, Word, Chars, operand_fields, instruction_fields}
use Rattle.p9_object.specs.Laws.{OperandFits}
use Rattle.p9_object.specs.Machine.{Turn, Bad, Stay, Whole, Sort, sort_of, sorts, may_follow, shifts, is_constant_of, OperandPlace, AtTag, AtRegister, AtConstant, AtAddressSymbol, AtAddressOffset, AtArgumentAddress, AtFrameAddress, AtSymbol, AtOffset, AtArgument, AtFrameOffset, AtBase, AtBaseOffset, AtLabel, AtFunction, operand_step, read_operand, Around, is_lasting_register, InstructionPlace, AtOperation, InOperand, read_instruction, all_operations, op_among, may_end, with_operands, around, behind_operand, operation_step, instruction_step}
use Rattle.p9_object.proofs.Rows.{Follow, follows, is_last, Sample, ARegister, ATarget, sample_kind, sample_kinds, HeadCounts, Ends, goes}
use Rattle.p9_object.proofs.Operands.{nothing, runs, runs_none, runs_append, FieldFits, CountGood, WriteGood, IsPlaced, IsGood, OperandWell, OperandOk, operand_sound, operand_read, AllFit, fit_append, Leads, operand_leads, IsInside}

abbrev pub kinds : List Operand → List OperandKind
kinds os = map operand_kind os

kinds_push : (os : List Operand) (o : Operand) → kinds (os ++ o ∷ []) ≡ kinds os ++ operand_kind o ∷ []
kinds_push os o = map-append operand_kind os (o ∷ [])

pub all_push : {X : Type 0} (P : X → Type 0) (xs : List X) (x : X) → All P xs → P x → All P (xs ++ x ∷ [])
all_push P xs x h p = All-append P xs (x ∷ []) h (All-cons P x [] p (All-nil P))

pub flat_push : {X : Type 0} (f : X → List Field) (xs : List X) (x : X) → flat_map f (xs ++ x ∷ []) ≡ flat_map f xs ++ f x
flat_push f xs x = flat_map-append f xs (x ∷ []) ∙ ap (λ (t : List Field). flat_map f xs ++ t) (append-nil (f x))

-- Operations by their numbers

number_among : (ops : List Op) (n : ℕ) (op : Op) → op_among ops n ≡ Some op → op_number op ≡ n
number_among [] n op h = absurd cc
number_among (x ∷ ops) n op h = by (n == op_number x) (number_among ops n op) refl h
  where
    by : (b : Bool) → (op_among ops n ≡ Some op → op_number op ≡ n) → (n == op_number x) ≡ b → (if b then Some x else op_among ops n) ≡ Some op → op_number op ≡ n
    by true rest e h = let g : x ≡ op = cc in subst (λ (o : Op). op_number o ≡ n) g (sym (eqb-true n (op_number x) e))
    by false rest e h = rest h

op_read : (op : Op) → op_among all_operations (op_number op) ≡ Some op
op_read MovW = refl
op_read MovH = refl
op_read MovHU = refl
op_read MovB = refl
op_read MovBU = refl
op_read Add = refl
op_read AddU = refl
op_read Sub = refl
op_read SubU = refl
op_read And = refl
op_read Or = refl
op_read Xor = refl
op_read Nor = refl
op_read Sgt = refl
op_read SgtU = refl
op_read Sll = refl
op_read Srl = refl
op_read Sra = refl
op_read Mul = refl
op_read MulU = refl
op_read Div = refl
op_read DivU = refl
op_read Beq = refl
op_read Bne = refl
op_read Bgez = refl
op_read Bgtz = refl
op_read Blez = refl
op_read Bltz = refl
op_read Jmp = refl
op_read Jal = refl
op_read Ret = refl
op_read Syscall = refl

abbrev pub EndsFunction : Op → Type 0
EndsFunction op = (op ≡ Ret) ⊎ (op ≡ Jmp)

may_end_true : (op : Op) → may_end op ≡ true → EndsFunction op
may_end_true Jmp h = inr refl
may_end_true Ret h = inl refl
may_end_true _ h = nothing h

end_may : (op : Op) → EndsFunction op → may_end op ≡ true
end_may op (inl e) = ap (λ (o : Op). may_end o) e
end_may op (inr e) = ap (λ (o : Op). may_end o) e

-- What an instruction's first constant counts

abbrev KindCounts : (ℕ → Bool) → OperandKind → Type 0
KindCounts counts (kind.Constant c) = counts c ≡ true
KindCounts counts (kind.Register r) = Unit {0}
KindCounts counts (kind.Address a) = Unit {0}
KindCounts counts (kind.Memory a) = Unit {0}
KindCounts counts (kind.HiLo h) = Unit {0}
KindCounts counts (kind.Target l) = Unit {0}
KindCounts counts (kind.Function s) = Unit {0}

of_kind : (counts : ℕ → Bool) (o : Operand) → KindCounts counts (operand_kind o) → CountGood counts o
of_kind counts (Const c) h = h
of_kind counts (Reg r) h = tt
of_kind counts (AddrSB s o) h = tt
of_kind counts (AddrFP o) h = tt
of_kind counts (AddrSP o) h = tt
of_kind counts (MemSB s o) h = tt
of_kind counts (MemFP o) h = tt
of_kind counts (MemSP o) h = tt
of_kind counts (MemReg r o) h = tt
of_kind counts (Label l) h = tt
of_kind counts (Func s) h = tt
of_kind counts Hi h = tt
of_kind counts Lo h = tt
of_kind counts (Auto v o) h = tt
of_kind counts (AutoAddr v o) h = tt

head_of : (counts : ℕ → Bool) (o : Operand) (ks : List OperandKind) → CountGood counts o → HeadCounts counts (operand_kind o ∷ ks)
head_of counts (Const c) ks h = h
head_of counts (Reg r) ks h = tt
head_of counts (AddrSB s o) ks h = tt
head_of counts (AddrFP o) ks h = tt
head_of counts (AddrSP o) ks h = tt
head_of counts (MemSB s o) ks h = tt
head_of counts (MemFP o) ks h = tt
head_of counts (MemSP o) ks h = tt
head_of counts (MemReg r o) ks h = tt
head_of counts (Label l) ks h = tt
head_of counts (Func s) ks h = tt
head_of counts Hi ks h = tt
head_of counts Lo ks h = tt
head_of counts (Auto v o) ks h = tt
head_of counts (AutoAddr v o) ks h = tt

any_counts : (counts : ℕ → Bool) → ((c : ℕ) → counts c ≡ true) → (k : OperandKind) → KindCounts counts k
any_counts counts h (kind.Constant c) = h c
any_counts counts h (kind.Register r) = tt
any_counts counts h (kind.Address a) = tt
any_counts counts h (kind.Memory a) = tt
any_counts counts h (kind.HiLo x) = tt
any_counts counts h (kind.Target l) = tt
any_counts counts h (kind.Function s) = tt

all_count : (counts : ℕ → Bool) → ((c : ℕ) → counts c ≡ true) → (ks : List OperandKind) → All (KindCounts counts) ks
all_count counts h [] = All-nil (KindCounts counts)
all_count counts h (k ∷ ks) = All-cons (KindCounts counts) k ks (any_counts counts h k) (all_count counts h ks)

one_count : (b : Bool) (form : Form) → is_some (if b then Some form else None) ≡ true → b ≡ true
one_count true form h = refl
one_count false form h = nothing h

shift_counts : (k : Calculation) (ks : List OperandKind) → IsSome (shift k ks) → All (KindCounts (λ c. nat_lt c 32)) ks
shift_counts k (kind.Register a ∷ kind.Register b ∷ kind.Register c ∷ []) h =
    let P : OperandKind → Type 0 = KindCounts (λ c. nat_lt c 32) in
    All-cons P (kind.Register a) (kind.Register b ∷ kind.Register c ∷ []) tt (All-cons P (kind.Register b) (kind.Register c ∷ []) tt (All-cons P (kind.Register c) [] tt (All-nil P)))
shift_counts k (kind.Constant a ∷ kind.Register b ∷ kind.Register c ∷ []) h =
    let P : OperandKind → Type 0 = KindCounts (λ c. nat_lt c 32) in
    All-cons P (kind.Constant a) (kind.Register b ∷ kind.Register c ∷ []) (one_count (nat_lt a 32) (ShiftConstant k a b c) h) (All-cons P (kind.Register b) (kind.Register c ∷ []) tt (All-cons P (kind.Register c) [] tt (All-nil P)))
shift_counts k _ h = nothing h

form_counts : (op : Op) (ks : List OperandKind) → IsSome (kinds_form op ks) → All (KindCounts (is_constant_of op)) ks
form_counts MovW ks h = all_count (is_constant_of MovW) (λ c. refl) ks
form_counts MovH ks h = all_count (is_constant_of MovH) (λ c. refl) ks
form_counts MovHU ks h = all_count (is_constant_of MovHU) (λ c. refl) ks
form_counts MovB ks h = all_count (is_constant_of MovB) (λ c. refl) ks
form_counts MovBU ks h = all_count (is_constant_of MovBU) (λ c. refl) ks
form_counts Add ks h = all_count (is_constant_of Add) (λ c. refl) ks
form_counts AddU ks h = all_count (is_constant_of AddU) (λ c. refl) ks
form_counts Sub ks h = all_count (is_constant_of Sub) (λ c. refl) ks
form_counts SubU ks h = all_count (is_constant_of SubU) (λ c. refl) ks
form_counts And ks h = all_count (is_constant_of And) (λ c. refl) ks
form_counts Or ks h = all_count (is_constant_of Or) (λ c. refl) ks
form_counts Xor ks h = all_count (is_constant_of Xor) (λ c. refl) ks
form_counts Nor ks h = all_count (is_constant_of Nor) (λ c. refl) ks
form_counts Sgt ks h = all_count (is_constant_of Sgt) (λ c. refl) ks
form_counts SgtU ks h = all_count (is_constant_of SgtU) (λ c. refl) ks
form_counts Sll ks h = shift_counts _ ks h
form_counts Srl ks h = shift_counts _ ks h
form_counts Sra ks h = shift_counts _ ks h
form_counts Mul ks h = all_count (is_constant_of Mul) (λ c. refl) ks
form_counts MulU ks h = all_count (is_constant_of MulU) (λ c. refl) ks
form_counts Div ks h = all_count (is_constant_of Div) (λ c. refl) ks
form_counts DivU ks h = all_count (is_constant_of DivU) (λ c. refl) ks
form_counts Beq ks h = all_count (is_constant_of Beq) (λ c. refl) ks
form_counts Bne ks h = all_count (is_constant_of Bne) (λ c. refl) ks
form_counts Bgez ks h = all_count (is_constant_of Bgez) (λ c. refl) ks
form_counts Bgtz ks h = all_count (is_constant_of Bgtz) (λ c. refl) ks
form_counts Blez ks h = all_count (is_constant_of Blez) (λ c. refl) ks
form_counts Bltz ks h = all_count (is_constant_of Bltz) (λ c. refl) ks
form_counts Jmp ks h = all_count (is_constant_of Jmp) (λ c. refl) ks
form_counts Jal ks h = all_count (is_constant_of Jal) (λ c. refl) ks
form_counts Ret ks h = all_count (is_constant_of Ret) (λ c. refl) ks
form_counts Syscall ks h = all_count (is_constant_of Syscall) (λ c. refl) ks

-- What is known of an operand that is read

pub record Read (op : Op) (symbols frame total : ℕ) (o : Operand) : Type 0 where
  pub range : IsInRange frame total o
  pub symbol : IsWithin symbols (named_by_operand o)
  pub counts : CountGood (is_constant_of op) o

placed : (frame total : ℕ) (o : Operand) → IsInRange frame total o → IsPlaced o
placed frame total (Auto v o) h = absurd h
placed frame total (AutoAddr v o) h = absurd h
placed frame total _ h = tt

-- Destinations

writable_tail : (x p : Operand) (ps : List Operand) → IsWritable (x ∷ p ∷ ps) → IsWritable (p ∷ ps)
writable_tail (Reg r) p ps h = h
writable_tail _ p ps h = h

writable_cons : (x p : Operand) (ps : List Operand) → IsWritable (p ∷ ps) → IsWritable (x ∷ p ∷ ps)
writable_cons (Reg r) p ps h = h
writable_cons _ p ps h = h

abbrev LastGood : Operand → Type 0
LastGood (Reg r) = (r ≢ 29) × (r ≢ 30) × (r ≢ 31)
LastGood _ = Unit {0}

writable_last : (o : Operand) → LastGood o → IsWritable (o ∷ [])
writable_last (Reg r) h = h
writable_last _ h = tt

writable_push : (os : List Operand) (o : Operand) → LastGood o → IsWritable (os ++ o ∷ [])
writable_push [] o h = writable_last o h
writable_push (x ∷ []) o h = writable_cons x o [] (writable_last o h)
writable_push (x ∷ y ∷ os) o h = writable_cons x y (os ++ o ∷ []) (writable_push (y ∷ os) o h)

lasting_false : (r : ℕ) → r ≢ 29 → r ≢ 30 → r ≢ 31 → is_lasting_register r ≡ false
lasting_false r a b c = rw (ne_eqb r 29 a, ne_eqb r 30 b, ne_eqb r 31 c) refl

lasting_apart : (r n : ℕ) → is_lasting_register n ≡ true → is_lasting_register r ≡ false → r ≢ n
lasting_apart r n t f e = true≢false (sym t ∙ ap (λ (m : ℕ). is_lasting_register m) (sym e) ∙ f)

and_true : (b : Bool) → (true && b) ≡ b
and_true b = refl

write_good : (op : Op) (before : List Operand) (o : Operand) (os : List Operand) → is_some (kinds_form op (kinds before ++ operand_kind o ∷ [])) ≡ is_last (kinds os) → (writes_last op ≡ true → IsWritable (o ∷ os)) → WriteGood (λ r. writes_last op && is_some (form_of op (before ++ Reg r ∷ []))) o
write_good op before (Reg r) os e w = by os e (writes_last op) refl w
  where
    here : is_some (form_of op (before ++ Reg r ∷ [])) ≡ is_some (kinds_form op (kinds before ++ kind.Register r ∷ []))
    here = ap (λ (ks : List OperandKind). is_some (kinds_form op ks)) (kinds_push before (Reg r))

    by : (os : List Operand) → is_some (kinds_form op (kinds before ++ kind.Register r ∷ [])) ≡ is_last (kinds os) → (b : Bool) → writes_last op ≡ b → (writes_last op ≡ true → IsWritable (Reg r ∷ os)) → ((writes_last op && is_some (form_of op (before ++ Reg r ∷ []))) && is_lasting_register r) ≡ false
    by os e false f w = ap (λ (b : Bool). (b && is_some (form_of op (before ++ Reg r ∷ []))) && is_lasting_register r) f
    by [] e true f w = let g = w f in ap (λ (b : Bool). (writes_last op && is_some (form_of op (before ++ Reg r ∷ []))) && b) (lasting_false r g.0 g.1 g.2) ∙ off (writes_last op && is_some (form_of op (before ++ Reg r ∷ [])))
      where
        off : (b : Bool) → (b && false) ≡ false
        off true = refl
        off false = refl
    by (p ∷ ps) e true f w = ap (λ (b : Bool). (writes_last op && b) && is_lasting_register r) (here ∙ e) ∙ off (writes_last op)
      where
        off : (b : Bool) → ((b && false) && is_lasting_register r) ≡ false
        off true = refl
        off false = refl
write_good op before _ os e w = tt

-- Reading operands

abbrev instruction : (symbols frame total : ℕ) → Bool → InstructionPlace → Field → Turn InstructionPlace Abs
instruction symbols frame total more = instruction_step symbols frame total more

lift : (symbols frame total : ℕ) (more : Bool) (op : Op) (before : List Operand) (t : Turn OperandPlace Operand) (fs : List Field) (o : Operand) → runs (operand_step (around symbols frame total op before)) t fs ≡ Whole o → runs (instruction symbols frame total more) (behind_operand op before t) fs ≡ with_operands op (before ++ o ∷ [])
lift symbols frame total more op before Bad fs o h = absurd cc
lift symbols frame total more op before (Stay q) [] o h = absurd cc
lift symbols frame total more op before (Stay q) (f ∷ fs) o h = lift symbols frame total more op before (operand_step (around symbols frame total op before) q f) fs o h
lift symbols frame total more op before (Whole x) [] o h =
    let e : x ≡ o = cc in
    runs_none (instruction symbols frame total more) (with_operands op (before ++ x ∷ [])) ∙ ap (λ (y : Operand). with_operands op (before ++ y ∷ [])) e
lift symbols frame total more op before (Whole x) (f ∷ fs) o h = absurd cc

abbrev made : Op → List Operand → Abs
made op os = record { op = op; operands = os }

pub run_rest :
    (symbols frame total : ℕ) (more : Bool) (op : Op) (before os : List Operand) → Follow (kinds_form op) (may_follow op) (kinds before) (kinds os)
    → All (Read op symbols frame total) os → (writes_last op ≡ true → IsWritable os)
    → runs (instruction symbols frame total more) (with_operands op before) (flat_map operand_fields os) ≡ Whole (made op (before ++ os))
run_rest symbols frame total more op before [] h r w =
    ap (λ (b : Bool). runs (instruction symbols frame total more) (if b then Whole (made op before) else Stay (InOperand op before AtTag)) []) h
    ∙ ap (λ (os : List Operand). Whole (made op os)) (sym (append-nil before))
run_rest symbols frame total more op before (o ∷ os) h r w =
    let P : Operand → Type 0 = Read op symbols frame total in
    let i : InstructionPlace → Field → Turn InstructionPlace Abs = instruction symbols frame total more in
    let a : Around = around symbols frame total op before in
    let here = All-head P o os r in
    let rest : List Field = flat_map operand_fields os in
    let good : IsGood a o = record { may = h.1; counts = here.counts; range = here.range; symbol = here.symbol; write = write_good op before o os h.2 w } in
    let opened : with_operands op before ≡ Stay (InOperand op before AtTag) = ap (λ (b : Bool). if b then Whole (made op before) else Stay (InOperand op before AtTag)) h.0 in
    let read : runs i (Stay (InOperand op before AtTag)) (operand_fields o) ≡ with_operands op (before ++ o ∷ []) = lift symbols frame total more op before (Stay AtTag) (operand_fields o) o (operand_read a o good (placed frame total o here.range)) in
    let follow : Follow (kinds_form op) (may_follow op) (kinds (before ++ o ∷ [])) (kinds os) = subst (λ (ks : List OperandKind). Follow (kinds_form op) (may_follow op) ks (kinds os)) (sym (kinds_push before o)) h.3 in
    ap (λ (t : Turn InstructionPlace Abs). runs i t (operand_fields o ++ rest)) opened
    ∙ runs_append i (Stay (InOperand op before AtTag)) (operand_fields o) rest
    ∙ ap (λ (t : Turn InstructionPlace Abs). runs i t rest) read
    ∙ run_rest symbols frame total more op (before ++ o ∷ []) os follow (All-tail P o os r) (tail os w)
    ∙ ap (λ (os : List Operand). Whole (made op os)) (append_assoc before (o ∷ []) os)
  where
    tail : (os : List Operand) → (writes_last op ≡ true → IsWritable (o ∷ os)) → writes_last op ≡ true → IsWritable os
    tail [] w e = tt
    tail (p ∷ ps) w e = writable_tail o p ps (w e)

all_counts : (op : Op) (os : List Operand) → All (KindCounts (is_constant_of op)) (kinds os) → All (λ o. CountGood (is_constant_of op) o) os
all_counts op [] h = All-nil (λ o. CountGood (is_constant_of op) o)
all_counts op (o ∷ os) h =
    let K : OperandKind → Type 0 = KindCounts (is_constant_of op) in
    All-cons (λ o. CountGood (is_constant_of op) o) o os (of_kind (is_constant_of op) o (All-head K (operand_kind o) (kinds os) h)) (all_counts op os (All-tail K (operand_kind o) (kinds os) h))

all_read : (op : Op) (symbols frame total : ℕ) (os : List Operand) → All (IsInRange frame total) os → All (λ o. IsWithin symbols (named_by_operand o)) os → All (λ o. CountGood (is_constant_of op) o) os → All (Read op symbols frame total) os
all_read op symbols frame total [] r w c = All-nil (Read op symbols frame total)
all_read op symbols frame total (o ∷ os) r w c =
    All-cons (Read op symbols frame total) o os
    (record { range = All-head (IsInRange frame total) o os r; symbol = All-head (λ o. IsWithin symbols (named_by_operand o)) o os w; counts = All-head (λ o. CountGood (is_constant_of op) o) o os c })
    (all_read op symbols frame total os (All-tail (IsInRange frame total) o os r) (All-tail (λ o. IsWithin symbols (named_by_operand o)) o os w) (All-tail (λ o. CountGood (is_constant_of op) o) o os c))

operation_opens : (more : Bool) (op : Op) → (more ≡ false → EndsFunction op) → operation_step more (Some op) ≡ with_operands op []
operation_opens true op h = refl
operation_opens false op h = ap (λ (b : Bool). if b then with_operands op [] else Bad) (end_may op (h refl))

-- An instruction in range is read.
pub instruction_read :
    (symbols frame total : ℕ) (more : Bool) (a : Abs) → IsInstruction frame total a → All (λ o. IsWithin symbols (named_by_operand o)) a.operands
    → (more ≡ false → EndsFunction a.op) → runs (instruction symbols frame total more) (Stay AtOperation) (instruction_fields a) ≡ Whole a
instruction_read symbols frame total more a g w e =
    let i : InstructionPlace → Field → Turn InstructionPlace Abs = instruction symbols frame total more in
    let fs : List Field = flat_map operand_fields a.operands in
    let counts = all_counts a.op a.operands (form_counts a.op (kinds a.operands) g.form) in
    ap (λ (x : Option Op). runs i (operation_step more x) fs) (op_read a.op)
    ∙ ap (λ (t : Turn InstructionPlace Abs). runs i t fs) (operation_opens more a.op e)
    ∙ run_rest symbols frame total more a.op [] a.operands (follows a.op (kinds a.operands) g.form) (all_read a.op symbols frame total a.operands g.operands w counts) g.destination

-- What is read

pub record OpenWell (symbols frame total : ℕ) (more : Bool) (op : Op) (before : List Operand) : Type 0 where
  pub ends : more ≡ false → EndsFunction op
  pub each : All (Read op symbols frame total) before
  pub fits : All OperandFits before
  pub leads : Ends (kinds_form op) (may_follow op) (kinds before)

abbrev pub InstructionWell : (symbols frame total : ℕ) → Bool → InstructionPlace → Type 0
InstructionWell symbols frame total more AtOperation = Unit {0}
InstructionWell symbols frame total more (InOperand op before p) =
    OpenWell symbols frame total more op before × (is_some (form_of op before) ≡ false) × OperandWell (around symbols frame total op before) p

pub record IsWhole (symbols frame total : ℕ) (more : Bool) (a : Abs) : Type 0 where
  pub instruction : IsInstruction frame total a
  pub symbols_named : All (λ o. IsWithin symbols (named_by_operand o)) a.operands
  pub fits : All OperandFits a.operands
  pub ends : more ≡ false → EndsFunction a.op

abbrev pub InstructionOk : (symbols frame total : ℕ) → Bool → InstructionPlace → Field → Turn InstructionPlace Abs → Type 0
InstructionOk symbols frame total more p f Bad = Unit {0}
InstructionOk symbols frame total more p f (Stay q) = (read_instruction q ≡ read_instruction p ++ f ∷ []) × InstructionWell symbols frame total more q
InstructionOk symbols frame total more p f (Whole a) = (instruction_fields a ≡ read_instruction p ++ f ∷ []) × IsWhole symbols frame total more a

ranges : (op : Op) (symbols frame total : ℕ) (os : List Operand) → All (Read op symbols frame total) os → All (IsInRange frame total) os
ranges op symbols frame total [] h = All-nil (IsInRange frame total)
ranges op symbols frame total (o ∷ os) h =
    let P : Operand → Type 0 = Read op symbols frame total in
    All-cons (IsInRange frame total) o os (All-head P o os h).range (ranges op symbols frame total os (All-tail P o os h))

names : (op : Op) (symbols frame total : ℕ) (os : List Operand) → All (Read op symbols frame total) os → All (λ o. IsWithin symbols (named_by_operand o)) os
names op symbols frame total [] h = All-nil (λ o. IsWithin symbols (named_by_operand o))
names op symbols frame total (o ∷ os) h =
    let P : Operand → Type 0 = Read op symbols frame total in
    All-cons (λ o. IsWithin symbols (named_by_operand o)) o os (All-head P o os h).symbol (names op symbols frame total os (All-tail P o os h))

-- with these operands the instruction is whole, or it waits for another
with_ok :
    (symbols frame total : ℕ) (more : Bool) (p : InstructionPlace) (f : Field) (op : Op) (os : List Operand)
    → Byte (op_number op) ∷ flat_map operand_fields os ≡ read_instruction p ++ f ∷ [] → OpenWell symbols frame total more op os
    → (is_some (form_of op os) ≡ true → writes_last op ≡ true → IsWritable os) → InstructionOk symbols frame total more p f (with_operands op os)
with_ok symbols frame total more p f op os text w d =
    cond_both (is_some (form_of op os)) _ _ (InstructionOk symbols frame total more p f)
    (λ e. (
      text,
      record {
        instruction = record { form = e; operands = ranges op symbols frame total os w.each; destination = d e };
        symbols_named = names op symbols frame total os w.each;
        fits = w.fits;
        ends = w.ends;
      },
    ))
    (λ e. (ap (λ (t : List Field). Byte (op_number op) ∷ t) (append-nil (flat_map operand_fields os)) ∙ text, (w, e, tt)))

-- some operands begin a form of each operation
begins : (op : Op) → Ends (kinds_form op) (may_follow op) []
begins MovW = (ARegister ∷ ARegister ∷ [], (refl, refl, refl, (refl, refl, refl, refl)))
begins MovH = (ARegister ∷ ARegister ∷ [], (refl, refl, refl, (refl, refl, refl, refl)))
begins MovHU = (ARegister ∷ ARegister ∷ [], (refl, refl, refl, (refl, refl, refl, refl)))
begins MovB = (ARegister ∷ ARegister ∷ [], (refl, refl, refl, (refl, refl, refl, refl)))
begins MovBU = (ARegister ∷ ARegister ∷ [], (refl, refl, refl, (refl, refl, refl, refl)))
begins Add = (ARegister ∷ ARegister ∷ ARegister ∷ [], (refl, refl, refl, (refl, refl, refl, (refl, refl, refl, refl))))
begins AddU = (ARegister ∷ ARegister ∷ ARegister ∷ [], (refl, refl, refl, (refl, refl, refl, (refl, refl, refl, refl))))
begins Sub = (ARegister ∷ ARegister ∷ ARegister ∷ [], (refl, refl, refl, (refl, refl, refl, (refl, refl, refl, refl))))
begins SubU = (ARegister ∷ ARegister ∷ ARegister ∷ [], (refl, refl, refl, (refl, refl, refl, (refl, refl, refl, refl))))
begins And = (ARegister ∷ ARegister ∷ ARegister ∷ [], (refl, refl, refl, (refl, refl, refl, (refl, refl, refl, refl))))
begins Or = (ARegister ∷ ARegister ∷ ARegister ∷ [], (refl, refl, refl, (refl, refl, refl, (refl, refl, refl, refl))))
begins Xor = (ARegister ∷ ARegister ∷ ARegister ∷ [], (refl, refl, refl, (refl, refl, refl, (refl, refl, refl, refl))))
begins Nor = (ARegister ∷ ARegister ∷ ARegister ∷ [], (refl, refl, refl, (refl, refl, refl, (refl, refl, refl, refl))))
begins Sgt = (ARegister ∷ ARegister ∷ ARegister ∷ [], (refl, refl, refl, (refl, refl, refl, (refl, refl, refl, refl))))
begins SgtU = (ARegister ∷ ARegister ∷ ARegister ∷ [], (refl, refl, refl, (refl, refl, refl, (refl, refl, refl, refl))))
begins Sll = (ARegister ∷ ARegister ∷ ARegister ∷ [], (refl, refl, refl, (refl, refl, refl, (refl, refl, refl, refl))))
begins Srl = (ARegister ∷ ARegister ∷ ARegister ∷ [], (refl, refl, refl, (refl, refl, refl, (refl, refl, refl, refl))))
begins Sra = (ARegister ∷ ARegister ∷ ARegister ∷ [], (refl, refl, refl, (refl, refl, refl, (refl, refl, refl, refl))))
begins Mul = (ARegister ∷ ARegister ∷ [], (refl, refl, refl, (refl, refl, refl, refl)))
begins MulU = (ARegister ∷ ARegister ∷ [], (refl, refl, refl, (refl, refl, refl, refl)))
begins Div = (ARegister ∷ ARegister ∷ [], (refl, refl, refl, (refl, refl, refl, refl)))
begins DivU = (ARegister ∷ ARegister ∷ [], (refl, refl, refl, (refl, refl, refl, refl)))
begins Beq = (ARegister ∷ ARegister ∷ ATarget ∷ [], (refl, refl, refl, (refl, refl, refl, (refl, refl, refl, refl))))
begins Bne = (ARegister ∷ ARegister ∷ ATarget ∷ [], (refl, refl, refl, (refl, refl, refl, (refl, refl, refl, refl))))
begins Bgez = (ARegister ∷ ATarget ∷ [], (refl, refl, refl, (refl, refl, refl, refl)))
begins Bgtz = (ARegister ∷ ATarget ∷ [], (refl, refl, refl, (refl, refl, refl, refl)))
begins Blez = (ARegister ∷ ATarget ∷ [], (refl, refl, refl, (refl, refl, refl, refl)))
begins Bltz = (ARegister ∷ ATarget ∷ [], (refl, refl, refl, (refl, refl, refl, refl)))
begins Jmp = (ATarget ∷ [], (refl, refl, refl, refl))
begins Jal = (ARegister ∷ [], (refl, refl, refl, refl))
begins Ret = ([], refl)
begins Syscall = ([], refl)

writable_none : (op : Op) → is_some (form_of op []) ≡ true → writes_last op ≡ true → IsWritable []
writable_none op h w = tt

ends_if : (more : Bool) (op : Op) → (more || may_end op) ≡ true → more ≡ false → EndsFunction op
ends_if true op h e = absurd (true≢false e)
ends_if false op h e = may_end_true op h

operation_ok : (symbols frame total : ℕ) (more : Bool) (n : ℕ) (x : Option Op) → op_among all_operations n ≡ x → InstructionOk symbols frame total more AtOperation (Byte n) (operation_step more x)
operation_ok symbols frame total more n None h = tt
operation_ok symbols frame total more n (Some op) h =
    cond_both (more || may_end op) _ _ (InstructionOk symbols frame total more AtOperation (Byte n))
    (λ e.
    let w : OpenWell symbols frame total more op [] = record { ends = ends_if more op e; each = All-nil (Read op symbols frame total); fits = All-nil OperandFits; leads = begins op } in
    with_ok symbols frame total more AtOperation (Byte n) op [] (ap (λ (k : ℕ). Byte k ∷ []) (number_among all_operations n op h)) w (writable_none op))
    (λ e. tt)

-- the last operand of a whole form isn't a register that lasts, where it is written
last_good : (op : Op) (before : List Operand) (o : Operand) → is_some (form_of op (before ++ o ∷ [])) ≡ true → writes_last op ≡ true → WriteGood (λ r. writes_last op && is_some (form_of op (before ++ Reg r ∷ []))) o → LastGood o
last_good op before (Reg r) e w g = (lasting_apart r 29 refl f, lasting_apart r 30 refl f, lasting_apart r 31 refl f)
  where
    f : is_lasting_register r ≡ false
    f = sym (ap (λ (b : Bool). (b && is_some (form_of op (before ++ Reg r ∷ []))) && is_lasting_register r) w ∙ ap (λ (b : Bool). b && is_lasting_register r) e) ∙ g
last_good op before _ e w g = tt

head_counts : (op : Op) (symbols frame total : ℕ) (os : List Operand) (o : Operand) → All (Read op symbols frame total) os → CountGood (is_constant_of op) o → HeadCounts (is_constant_of op) (kinds os ++ operand_kind o ∷ [])
head_counts op symbols frame total [] o h c = head_of (is_constant_of op) o [] c
head_counts op symbols frame total (x ∷ os) o h c = head_of (is_constant_of op) x (kinds os ++ operand_kind o ∷ []) (All-head (Read op symbols frame total) x os h).counts

goes_on : (op : Op) (symbols frame total : ℕ) (before : List Operand) (o : Operand) → All (Read op symbols frame total) before → CountGood (is_constant_of op) o → may_follow op (sorts (kinds before)) (sort_of (operand_kind o)) ≡ true → Ends (kinds_form op) (may_follow op) (kinds (before ++ o ∷ []))
goes_on op symbols frame total before o h c m =
    subst (λ (ks : List OperandKind). Ends (kinds_form op) (may_follow op) ks) (sym (kinds_push before o)) (goes op (kinds before) (operand_kind o) (head_counts op symbols frame total before o h c) m)

behind_ok :
    (symbols frame total : ℕ) (more : Bool) (op : Op) (before : List Operand) (p : OperandPlace) (f : Field) (t : Turn OperandPlace Operand)
    → OpenWell symbols frame total more op before → is_some (form_of op before) ≡ false → OperandOk (around symbols frame total op before) p f t
    → InstructionOk symbols frame total more (InOperand op before p) f (behind_operand op before t)
behind_ok symbols frame total more op before p f Bad w n k = tt
behind_ok symbols frame total more op before p f (Stay q) w n k =
    (ap (λ (t : List Field). Byte (op_number op) ∷ flat_map operand_fields before ++ t) k.0 ∙ ap (λ (t : List Field). Byte (op_number op) ∷ t) (sym (append_assoc (flat_map operand_fields before) (read_operand p) (f ∷ []))), (w, n, k.1))
behind_ok symbols frame total more op before p f (Whole o) w n k =
    let P : Operand → Type 0 = Read op symbols frame total in
    let g = k.1 in
    let text : Byte (op_number op) ∷ flat_map operand_fields (before ++ o ∷ []) ≡ read_instruction (InOperand op before p) ++ f ∷ [] =
    ap (λ (t : List Field). Byte (op_number op) ∷ t) (flat_push operand_fields before o ∙ ap (λ (t : List Field). flat_map operand_fields before ++ t) k.0 ∙ sym (append_assoc (flat_map operand_fields before) (read_operand p) (f ∷ []))) in
    let well : OpenWell symbols frame total more op (before ++ o ∷ []) = record {
      ends = w.ends;
      each = all_push P before o w.each (record { range = g.range; symbol = g.symbol; counts = g.counts });
      fits = all_push OperandFits before o w.fits k.2;
      leads = goes_on op symbols frame total before o w.each g.counts g.may;
    } in
    with_ok symbols frame total more (InOperand op before p) f op (before ++ o ∷ []) text well (λ e d. writable_push before o (last_good op before o e d g.write))

pub instruction_sound : (symbols frame total : ℕ) (more : Bool) (p : InstructionPlace) (f : Field) → FieldFits f → InstructionWell symbols frame total more p → InstructionOk symbols frame total more p f (instruction_step symbols frame total more p f)
instruction_sound symbols frame total more AtOperation (Byte n) k w = operation_ok symbols frame total more n (op_among all_operations n) refl
instruction_sound symbols frame total more AtOperation (Half n) k w = tt
instruction_sound symbols frame total more AtOperation (Word n) k w = tt
instruction_sound symbols frame total more AtOperation (Chars bytes) k w = tt
instruction_sound symbols frame total more (InOperand op before p) f k w =
    behind_ok symbols frame total more op before p f (operand_step (around symbols frame total op before) p f) w.0 w.1 (operand_sound (around symbols frame total op before) p f k w.2)

-- From inside an instruction some fields lead to its end.

abbrev sample_operand : Sample → Operand
sample_operand ARegister = Reg 0
sample_operand ATarget = Label 0

abbrev sample_operands : List Sample → List Operand
sample_operands [] = []
sample_operands (x ∷ xs) = sample_operand x ∷ sample_operands xs

one_kind : (x : Sample) → operand_kind (sample_operand x) ≡ sample_kind x
one_kind ARegister = refl
one_kind ATarget = refl

same_kinds : (xs : List Sample) → kinds (sample_operands xs) ≡ sample_kinds xs
same_kinds [] = refl
same_kinds (x ∷ xs) = ap (λ (k : OperandKind). k ∷ kinds (sample_operands xs)) (one_kind x) ∙ ap (λ (ks : List OperandKind). sample_kind x ∷ ks) (same_kinds xs)

sample_read : (op : Op) (symbols frame total : ℕ) → 0 < total → (x : Sample) → Read op symbols frame total (sample_operand x)
sample_read op symbols frame total t ARegister = record { range = (omega arith, λ e. omega (arith, e), λ e. omega (arith, e), λ e. omega (arith, e)); symbol = tt; counts = tt }
sample_read op symbols frame total t ATarget = record { range = t; symbol = tt; counts = tt }

samples_read : (op : Op) (symbols frame total : ℕ) → 0 < total → (xs : List Sample) → All (Read op symbols frame total) (sample_operands xs)
samples_read op symbols frame total t [] = All-nil (Read op symbols frame total)
samples_read op symbols frame total t (x ∷ xs) = All-cons (Read op symbols frame total) (sample_operand x) (sample_operands xs) (sample_read op symbols frame total t x) (samples_read op symbols frame total t xs)

samples_writable : (xs : List Sample) → IsWritable (sample_operands xs)
samples_writable [] = tt
samples_writable (ARegister ∷ []) = (λ e. omega (arith, e), λ e. omega (arith, e), λ e. omega (arith, e))
samples_writable (ATarget ∷ []) = tt
samples_writable (x ∷ y ∷ xs) = writable_cons (sample_operand x) (sample_operand y) (sample_operands xs) (samples_writable (y ∷ xs))

pub record InstructionLeads (symbols frame total : ℕ) (more : Bool) (p : InstructionPlace) : Type 0 where
  pub fields : List Field
  pub fits : AllFit fields
  pub instruction : Abs
  pub reads : runs (instruction_step symbols frame total more) (Stay p) fields ≡ Whole instruction

samples_fit : (xs : List Sample) → AllFit (flat_map operand_fields (sample_operands xs))
samples_fit [] = tt
samples_fit (ARegister ∷ xs) = (omega arith, (omega arith, samples_fit xs))
samples_fit (ATarget ∷ xs) = (omega arith, (omega arith, samples_fit xs))

or_true : (b : Bool) → (b || true) ≡ true
or_true true = refl
or_true false = refl

-- operands that the form still wants
from_open : (symbols frame total : ℕ) (more : Bool) (op : Op) (before : List Operand) → 0 < total → Ends (kinds_form op) (may_follow op) (kinds before) → (fs : List Field) × (a : Abs) × (runs (instruction symbols frame total more) (with_operands op before) fs ≡ Whole a) × AllFit fs
from_open symbols frame total more op before t e =
    let os : List Operand = sample_operands e.0 in
    let follow : Follow (kinds_form op) (may_follow op) (kinds before) (kinds os) = subst (λ (ks : List OperandKind). Follow (kinds_form op) (may_follow op) (kinds before) ks) (sym (same_kinds e.0)) e.1 in
    (flat_map operand_fields os, made op (before ++ os), run_rest symbols frame total more op before os follow (samples_read op symbols frame total t e.0) (λ w. samples_writable e.0), samples_fit e.0)

at_tag : (symbols frame total : ℕ) (more : Bool) (op : Op) (before : List Operand) → 0 < total → is_some (form_of op before) ≡ false → Ends (kinds_form op) (may_follow op) (kinds before) → InstructionLeads symbols frame total more (InOperand op before AtTag)
at_tag symbols frame total more op before t n e =
    let r = from_open symbols frame total more op before t e in
    let opened : with_operands op before ≡ Stay (InOperand op before AtTag) = ap (λ (b : Bool). if b then Whole (made op before) else Stay (InOperand op before AtTag)) n in
    record { fields = r.0; fits = r.3; instruction = r.1; reads = ap (λ (x : Turn InstructionPlace Abs). runs (instruction symbols frame total more) x r.0) (sym opened) ∙ r.2 }

inside : (symbols frame total : ℕ) (more : Bool) (op : Op) (before : List Operand) (p : OperandPlace) → 0 < symbols → 0 < total → OpenWell symbols frame total more op before → OperandWell (around symbols frame total op before) p → IsInside p → InstructionLeads symbols frame total more (InOperand op before p)
inside symbols frame total more op before p s t w k i =
    let l = operand_leads (around symbols frame total op before) p s t (or_true (not (shifts op))) k i in
    let r = from_open symbols frame total more op (before ++ l.operand ∷ []) t (goes_on op symbols frame total before l.operand w.each l.counts l.may) in
    let here = lift symbols frame total more op before (Stay p) l.fields l.operand l.reads in
    record {
      fields = l.fields ++ r.0;
      fits = fit_append l.fields r.0 l.fits r.3;
      instruction = r.1;
      reads = runs_append (instruction symbols frame total more) (Stay (InOperand op before p)) l.fields r.0 ∙ ap (λ (x : Turn InstructionPlace Abs). runs (instruction symbols frame total more) x r.0) here ∙ r.2;
    }

pub instruction_leads : (symbols frame total : ℕ) (more : Bool) (p : InstructionPlace) → 0 < symbols → 0 < total → InstructionWell symbols frame total more p → InstructionLeads symbols frame total more p
instruction_leads symbols frame total more AtOperation s t w =
    record { fields = Byte 31 ∷ []; fits = (omega arith, tt); instruction = made Ret []; reads = ap (λ (b : Bool). runs (instruction symbols frame total more) (if b then Whole (made Ret []) else Bad) []) (or_true more) }
instruction_leads symbols frame total more (InOperand op before AtTag) s t w = at_tag symbols frame total more op before t w.1 w.0.leads
instruction_leads symbols frame total more (InOperand op before AtRegister) s t w = inside symbols frame total more op before AtRegister s t w.0 w.2 tt
instruction_leads symbols frame total more (InOperand op before AtConstant) s t w = inside symbols frame total more op before AtConstant s t w.0 w.2 tt
instruction_leads symbols frame total more (InOperand op before AtAddressSymbol) s t w = inside symbols frame total more op before AtAddressSymbol s t w.0 w.2 tt
instruction_leads symbols frame total more (InOperand op before (AtAddressOffset x)) s t w = inside symbols frame total more op before (AtAddressOffset x) s t w.0 w.2 tt
instruction_leads symbols frame total more (InOperand op before AtArgumentAddress) s t w = inside symbols frame total more op before AtArgumentAddress s t w.0 w.2 tt
instruction_leads symbols frame total more (InOperand op before AtFrameAddress) s t w = inside symbols frame total more op before AtFrameAddress s t w.0 w.2 tt
instruction_leads symbols frame total more (InOperand op before AtSymbol) s t w = inside symbols frame total more op before AtSymbol s t w.0 w.2 tt
instruction_leads symbols frame total more (InOperand op before (AtOffset x)) s t w = inside symbols frame total more op before (AtOffset x) s t w.0 w.2 tt
instruction_leads symbols frame total more (InOperand op before AtArgument) s t w = inside symbols frame total more op before AtArgument s t w.0 w.2 tt
instruction_leads symbols frame total more (InOperand op before AtFrameOffset) s t w = inside symbols frame total more op before AtFrameOffset s t w.0 w.2 tt
instruction_leads symbols frame total more (InOperand op before AtBase) s t w = inside symbols frame total more op before AtBase s t w.0 w.2 tt
instruction_leads symbols frame total more (InOperand op before (AtBaseOffset r)) s t w = inside symbols frame total more op before (AtBaseOffset r) s t w.0 w.2 tt
instruction_leads symbols frame total more (InOperand op before AtLabel) s t w = inside symbols frame total more op before AtLabel s t w.0 w.2 tt
instruction_leads symbols frame total more (InOperand op before AtFunction) s t w = inside symbols frame total more op before AtFunction s t w.0 w.2 tt
