-- Operands: what is read field by field is the operand, and each that is in range is read.
use Rattle.std.proofs.Common.{◌≡◌, ◌≢◌, ℕ, zero, suc, ◌+◌, ◌-◌, ◌^◌, ◌<◌, ◌≤◌, Bool, true, false, ◌&&◌, ◌||◌, not, List, [], ◌∷◌, ◌++◌, All, refl, sym, ap, ◌∙◌, arith}
use Rattle.std.specs.Prelude.{nat_lt, nat_le, if◌then◌else◌, ◌==◌, IfSome}
use Rattle.std.proofs.lemmas.Bool.{cond_both, eqb-true, eq-eqb, ne_eqb, ltb-true, lt-ltb, leb-true, le-leb, and_parts, and_from, true≢false, cases_Bool}
use Rattle.p9_abs.specs.declared.instructions.Operand.{Operand}
use Rattle.p9_abs.specs.declared.instructions.Operand.TheVariants.{Reg, Const, AddrSB, AddrFP, AddrSP, MemSB, MemFP, MemSP, MemReg, Label, Func, Hi, Lo, Auto, AutoAddr}
use Rattle.p9_abs.specs.Forms.{operand_kind}
use Rattle.p9_abs.specs.Modules.{named_by_operand}
use Rattle.p9_abs.specs.Validity.{IsRegister, IsInRange, IsWithin}
use Rattle.p9_object.specs.Fields.{Field, Byte, Half, Word, Chars, operand_fields}
use Rattle.p9_object.specs.Laws.{OperandFits, IsByte}
use Rattle.p9_object.specs.Machine.{Turn, Bad, Stay, Whole, stay_if, whole_if, Sort, RegisterSort, ConstantSort, AddressSort, MemorySort, HiLoSort, TargetSort, FunctionSort, sort_of, OperandPlace, AtTag, AtRegister, AtConstant, AtAddressSymbol, AtAddressOffset, AtArgumentAddress, AtFrameAddress, AtSymbol, AtOffset, AtArgument, AtFrameOffset, AtBase, AtBaseOffset, AtLabel, AtFunction, read_operand, Around, is_own_register, is_lasting_register, is_in_frame, tag_step, operand_step}

-- Turns

pub nothing : {A : Type 0} → false ≡ true → A
nothing h = absurd (true≢false (sym h))

pub stays : {P X : Type 0} (Q : Turn P X → Type 0) (b : Bool) (p : P) → Q Bad → (b ≡ true → Q (Stay p)) → Q (stay_if b p)
stays Q true p bad ok = ok refl
stays Q false p bad ok = bad

pub wholes : {P X : Type 0} (Q : Turn P X → Type 0) (b : Bool) (x : X) → Q Bad → (b ≡ true → Q (Whole x)) → Q (whole_if b x)
wholes Q true x bad ok = ok refl
wholes Q false x bad ok = bad

pub stay_on : {P X : Type 0} (b : Bool) (p : P) → b ≡ true → stay_if {X = X} b p ≡ Stay p
stay_on true p h = refl
stay_on false p h = nothing h

pub whole_on : {P X : Type 0} (b : Bool) (x : X) → b ≡ true → whole_if {P = P} b x ≡ Whole x
whole_on true x h = refl
whole_on false x h = nothing h

-- several fields
abbrev pub runs : {P X : Type 0} → (P → Field → Turn P X) → Turn P X → List Field → Turn P X
runs step Bad fs = Bad
runs step (Stay p) [] = Stay p
runs step (Stay p) (f ∷ fs) = runs step (step p f) fs
runs step (Whole x) [] = Whole x
runs step (Whole x) (f ∷ fs) = Bad

pub runs_none : {P X : Type 0} (step : P → Field → Turn P X) (t : Turn P X) → runs step t [] ≡ t
runs_none step Bad = refl
runs_none step (Stay p) = refl
runs_none step (Whole x) = refl

pub runs_append : {P X : Type 0} (step : P → Field → Turn P X) (t : Turn P X) (fs gs : List Field) → runs step t (fs ++ gs) ≡ runs step (runs step t fs) gs
runs_append step Bad fs gs = refl
runs_append step (Stay p) [] gs = refl
runs_append step (Stay p) (f ∷ fs) gs = runs_append step (step p f) fs gs
runs_append step (Whole x) [] gs = refl
runs_append step (Whole x) (f ∷ fs) gs = refl

-- Registers

apart : (m n : ℕ) → not (m == n) ≡ true → m ≢ n
apart m n h e = true≢false (sym h ∙ ap (λ (b : Bool). not b) (eq-eqb m n e))

apart_back : (m n : ℕ) → m ≢ n → not (m == n) ≡ true
apart_back m n h = ap (λ (b : Bool). not b) (ne_eqb m n h)

pub own : (r : ℕ) → is_own_register r ≡ true → IsRegister r
own r h =
    let a = and_parts (nat_lt r 32) (not (r == 26) && (not (r == 27) && not (r == 28))) h in
    let b = and_parts (not (r == 26)) (not (r == 27) && not (r == 28)) a.1 in
    let c = and_parts (not (r == 27)) (not (r == 28)) b.1 in
    (ltb-true r 32 a.0, apart r 26 b.0, apart r 27 c.0, apart r 28 c.1)

pub own_back : (r : ℕ) → IsRegister r → is_own_register r ≡ true
own_back r h =
    and_from (nat_lt r 32) (not (r == 26) && (not (r == 27) && not (r == 28))) (lt-ltb r 32 h.0)
    (and_from (not (r == 26)) (not (r == 27) && not (r == 28)) (apart_back r 26 h.1)
    (and_from (not (r == 27)) (not (r == 28)) (apart_back r 27 h.2) (apart_back r 28 h.3)))

not_true : (b : Bool) → not b ≡ true → b ≡ false
not_true true h = nothing h
not_true false h = refl

-- Offsets

in_frame : (frame o : ℕ) → is_in_frame frame o ≡ true → (2 ^ 32 - frame ≤ o) × (o < 2 ^ 32)
in_frame frame o h =
    let a = and_parts (nat_le (2 ^ 32 - frame) o) (nat_lt o (2 ^ 32)) h in
    (leb-true (2 ^ 32 - frame) o a.0, ltb-true o (2 ^ 32) a.1)

in_frame_back : (frame o : ℕ) → 2 ^ 32 - frame ≤ o → o < 2 ^ 32 → is_in_frame frame o ≡ true
in_frame_back frame o h k = and_from (nat_le (2 ^ 32 - frame) o) (nat_lt o (2 ^ 32)) (le-leb (2 ^ 32 - frame) o h) (lt-ltb o (2 ^ 32) k)

-- What is read

-- numbers that come from bytes
abbrev pub FieldFits : Field → Type 0
FieldFits (Byte n) = n < 2 ^ 8
FieldFits (Half n) = n < 2 ^ 16
FieldFits (Word n) = n < 2 ^ 32
FieldFits (Chars bytes) = All IsByte bytes

abbrev pub CountGood : (ℕ → Bool) → Operand → Type 0
CountGood counts (Const c) = counts c ≡ true
CountGood counts _ = Unit {0}

-- it isn't written, or doesn't last
abbrev pub WriteGood : (ℕ → Bool) → Operand → Type 0
WriteGood written (Reg r) = (written r && is_lasting_register r) ≡ false
WriteGood written _ = Unit {0}

abbrev pub IsPlaced : Operand → Type 0
IsPlaced (Auto v o) = ⊥
IsPlaced (AutoAddr v o) = ⊥
IsPlaced _ = Unit {0}

pub record IsGood (a : Around) (o : Operand) : Type 0 where
  pub may : a.may (sort_of (operand_kind o)) ≡ true
  pub counts : CountGood a.may_be_constant o
  pub range : IsInRange a.frame a.total o
  pub symbol : IsWithin a.symbols (named_by_operand o)
  pub write : WriteGood a.is_written o

abbrev pub OperandWell : Around → OperandPlace → Type 0
OperandWell a AtTag = Unit {0}
OperandWell a AtRegister = a.may RegisterSort ≡ true
OperandWell a AtConstant = a.may ConstantSort ≡ true
OperandWell a AtAddressSymbol = a.may AddressSort ≡ true
OperandWell a (AtAddressOffset s) = (a.may AddressSort ≡ true) × (s < a.symbols)
OperandWell a AtArgumentAddress = a.may AddressSort ≡ true
OperandWell a AtFrameAddress = (a.may AddressSort ≡ true) × (0 < a.frame)
OperandWell a AtSymbol = a.may MemorySort ≡ true
OperandWell a (AtOffset s) = (a.may MemorySort ≡ true) × (s < a.symbols)
OperandWell a AtArgument = a.may MemorySort ≡ true
OperandWell a AtFrameOffset = (a.may MemorySort ≡ true) × (0 < a.frame)
OperandWell a AtBase = a.may MemorySort ≡ true
OperandWell a (AtBaseOffset r) = (a.may MemorySort ≡ true) × IsRegister r
OperandWell a AtLabel = a.may TargetSort ≡ true
OperandWell a AtFunction = a.may FunctionSort ≡ true

abbrev pub OperandOk : Around → OperandPlace → Field → Turn OperandPlace Operand → Type 0
OperandOk a p f Bad = Unit {0}
OperandOk a p f (Stay q) = (read_operand q ≡ read_operand p ++ f ∷ []) × OperandWell a q
OperandOk a p f (Whole o) = (operand_fields o ≡ read_operand p ++ f ∷ []) × IsGood a o × OperandFits o × IsPlaced o

tagged : (n k : ℕ) → (n == k) ≡ true → Byte k ∷ [] ≡ Byte n ∷ []
tagged n k e = ap (λ (k : ℕ). Byte k ∷ []) (sym (eqb-true n k e))

tag_sound : (a : Around) (n : ℕ) → OperandOk a AtTag (Byte n) (tag_step a n)
tag_sound a n =
    let Q : Turn OperandPlace Operand → Type 0 = OperandOk a AtTag (Byte n) in
    cond_both (n == 1) _ _ Q (λ e. stays Q (a.may RegisterSort) AtRegister tt (λ m. (tagged n 1 e, m))) (λ e1.
    cond_both (n == 2) _ _ Q (λ e. stays Q (a.may ConstantSort) AtConstant tt (λ m. (tagged n 2 e, m))) (λ e2.
    cond_both (n == 3) _ _ Q (λ e. stays Q (a.may AddressSort) AtAddressSymbol tt (λ m. (tagged n 3 e, m))) (λ e3.
    cond_both (n == 4) _ _ Q (λ e. stays Q (a.may AddressSort) AtArgumentAddress tt (λ m. (tagged n 4 e, m))) (λ e4.
    cond_both (n == 5) _ _ Q (λ e. stays Q (a.may AddressSort && nat_lt 0 a.frame) AtFrameAddress tt (λ m. let t = and_parts (a.may AddressSort) (nat_lt 0 a.frame) m in (tagged n 5 e, (t.0, ltb-true 0 a.frame t.1)))) (λ e5.
    cond_both (n == 6) _ _ Q (λ e. stays Q (a.may MemorySort) AtSymbol tt (λ m. (tagged n 6 e, m))) (λ e6.
    cond_both (n == 7) _ _ Q (λ e. stays Q (a.may MemorySort) AtArgument tt (λ m. (tagged n 7 e, m))) (λ e7.
    cond_both (n == 8) _ _ Q (λ e. stays Q (a.may MemorySort && nat_lt 0 a.frame) AtFrameOffset tt (λ m. let t = and_parts (a.may MemorySort) (nat_lt 0 a.frame) m in (tagged n 8 e, (t.0, ltb-true 0 a.frame t.1)))) (λ e8.
    cond_both (n == 9) _ _ Q (λ e. stays Q (a.may MemorySort) AtBase tt (λ m. (tagged n 9 e, m))) (λ e9.
    cond_both (n == 10) _ _ Q (λ e. stays Q (a.may TargetSort) AtLabel tt (λ m. (tagged n 10 e, m))) (λ e10.
    cond_both (n == 11) _ _ Q (λ e. stays Q (a.may FunctionSort) AtFunction tt (λ m. (tagged n 11 e, m))) (λ e11.
    cond_both (n == 12) _ _ Q (λ e. wholes Q (a.may HiLoSort) Hi tt (λ m. (tagged n 12 e, record { may = m; counts = tt; range = tt; symbol = tt; write = tt }, tt, tt))) (λ e12.
    cond_both (n == 13) _ _ Q (λ e. wholes Q (a.may HiLoSort) Lo tt (λ m. (tagged n 13 e, record { may = m; counts = tt; range = tt; symbol = tt; write = tt }, tt, tt))) (λ e13.
    tt)))))))))))))

pub operand_sound : (a : Around) (p : OperandPlace) (f : Field) → FieldFits f → OperandWell a p → OperandOk a p f (operand_step a p f)
operand_sound a AtTag (Byte n) k w = tag_sound a n
operand_sound a AtRegister (Byte r) k w =
    wholes (OperandOk a AtRegister (Byte r)) (is_own_register r && not (a.is_written r && is_lasting_register r)) (Reg r) tt
    (λ m.
    let t = and_parts (is_own_register r) (not (a.is_written r && is_lasting_register r)) m in
    (refl, record { may = w; counts = tt; range = own r t.0; symbol = tt; write = not_true (a.is_written r && is_lasting_register r) t.1 }, tt, tt))
operand_sound a AtConstant (Word c) k w =
    wholes (OperandOk a AtConstant (Word c)) (a.may_be_constant c) (Const c) tt
    (λ m. (refl, record { may = w; counts = m; range = tt; symbol = tt; write = tt }, k, tt))
operand_sound a AtAddressSymbol (Word s) k w =
    stays (OperandOk a AtAddressSymbol (Word s)) (nat_lt s a.symbols) (AtAddressOffset s) tt (λ m. (refl, (w, ltb-true s a.symbols m)))
operand_sound a (AtAddressOffset s) (Word o) k w = (refl, record { may = w.0; counts = tt; range = tt; symbol = w.1; write = tt }, k, tt)
operand_sound a AtArgumentAddress (Word o) k w =
    wholes (OperandOk a AtArgumentAddress (Word o)) (nat_le o 65535) (AddrFP o) tt
    (λ m. (refl, record { may = w; counts = tt; range = leb-true o 65535 m; symbol = tt; write = tt }, tt, tt))
operand_sound a AtFrameAddress (Word o) k w =
    wholes (OperandOk a AtFrameAddress (Word o)) (is_in_frame a.frame o) (AddrSP o) tt
    (λ m. (refl, record { may = w.0; counts = tt; range = in_frame a.frame o m; symbol = tt; write = tt }, tt, tt))
operand_sound a AtSymbol (Word s) k w =
    stays (OperandOk a AtSymbol (Word s)) (nat_lt s a.symbols) (AtOffset s) tt (λ m. (refl, (w, ltb-true s a.symbols m)))
operand_sound a (AtOffset s) (Word o) k w = (refl, record { may = w.0; counts = tt; range = tt; symbol = w.1; write = tt }, k, tt)
operand_sound a AtArgument (Word o) k w =
    wholes (OperandOk a AtArgument (Word o)) (nat_le o 65535) (MemFP o) tt
    (λ m. (refl, record { may = w; counts = tt; range = leb-true o 65535 m; symbol = tt; write = tt }, tt, tt))
operand_sound a AtFrameOffset (Word o) k w =
    wholes (OperandOk a AtFrameOffset (Word o)) (is_in_frame a.frame o) (MemSP o) tt
    (λ m. (refl, record { may = w.0; counts = tt; range = in_frame a.frame o m; symbol = tt; write = tt }, tt, tt))
operand_sound a AtBase (Byte r) k w =
    stays (OperandOk a AtBase (Byte r)) (is_own_register r) (AtBaseOffset r) tt (λ m. (refl, (w, own r m)))
operand_sound a (AtBaseOffset r) (Word o) k w = (refl, record { may = w.0; counts = tt; range = w.1; symbol = tt; write = tt }, k, tt)
operand_sound a AtLabel (Word l) k w =
    wholes (OperandOk a AtLabel (Word l)) (nat_lt l a.total) (Label l) tt
    (λ m. (refl, record { may = w; counts = tt; range = ltb-true l a.total m; symbol = tt; write = tt }, tt, tt))
operand_sound a AtFunction (Word s) k w =
    wholes (OperandOk a AtFunction (Word s)) (nat_lt s a.symbols) (Func s) tt
    (λ m. (refl, record { may = w; counts = tt; range = tt; symbol = ltb-true s a.symbols m; write = tt }, tt, tt))
operand_sound a _ _ k w = tt

-- Each operand that is in range is read.

passes : (a : Around) (b : Bool) (p : OperandPlace) (fs : List Field) → b ≡ true → runs (operand_step a) (stay_if b p) fs ≡ runs (operand_step a) (Stay p) fs
passes a b p fs h = ap (λ (t : Turn OperandPlace Operand). runs (operand_step a) t fs) (stay_on b p h)

ends : (a : Around) (b : Bool) (o : Operand) → b ≡ true → runs (operand_step a) (whole_if b o) [] ≡ Whole o
ends a b o h = ap (λ (t : Turn OperandPlace Operand). runs (operand_step a) t []) (whole_on b o h)

register_ends : (a : Around) (r : ℕ) → IsRegister r → (a.is_written r && is_lasting_register r) ≡ false → runs (operand_step a) (Stay AtRegister) (Byte r ∷ []) ≡ Whole (Reg r)
register_ends a r h w =
    ends a (is_own_register r && not (a.is_written r && is_lasting_register r)) (Reg r)
    (and_from (is_own_register r) (not (a.is_written r && is_lasting_register r)) (own_back r h) (ap (λ (b : Bool). not b) w))

pub operand_read : (a : Around) (o : Operand) → IsGood a o → IsPlaced o → runs (operand_step a) (Stay AtTag) (operand_fields o) ≡ Whole o
operand_read a (Reg r) g k = passes a (a.may RegisterSort) AtRegister (Byte r ∷ []) g.may ∙ register_ends a r g.range g.write
operand_read a (Const c) g k = passes a (a.may ConstantSort) AtConstant (Word c ∷ []) g.may ∙ ends a (a.may_be_constant c) (Const c) g.counts
operand_read a (AddrSB s o) g k =
    passes a (a.may AddressSort) AtAddressSymbol (Word s ∷ Word o ∷ []) g.may
    ∙ passes a (nat_lt s a.symbols) (AtAddressOffset s) (Word o ∷ []) (lt-ltb s a.symbols g.symbol)
operand_read a (AddrFP o) g k = passes a (a.may AddressSort) AtArgumentAddress (Word o ∷ []) g.may ∙ ends a (nat_le o 65535) (AddrFP o) (le-leb o 65535 g.range)
operand_read a (AddrSP o) g k =
    passes a (a.may AddressSort && nat_lt 0 a.frame) AtFrameAddress (Word o ∷ []) (and_from (a.may AddressSort) (nat_lt 0 a.frame) g.may (lt-ltb 0 a.frame (omega (arith, g.range.0, g.range.1))))
    ∙ ends a (is_in_frame a.frame o) (AddrSP o) (in_frame_back a.frame o g.range.0 g.range.1)
operand_read a (MemSB s o) g k =
    passes a (a.may MemorySort) AtSymbol (Word s ∷ Word o ∷ []) g.may
    ∙ passes a (nat_lt s a.symbols) (AtOffset s) (Word o ∷ []) (lt-ltb s a.symbols g.symbol)
operand_read a (MemFP o) g k = passes a (a.may MemorySort) AtArgument (Word o ∷ []) g.may ∙ ends a (nat_le o 65535) (MemFP o) (le-leb o 65535 g.range)
operand_read a (MemSP o) g k =
    passes a (a.may MemorySort && nat_lt 0 a.frame) AtFrameOffset (Word o ∷ []) (and_from (a.may MemorySort) (nat_lt 0 a.frame) g.may (lt-ltb 0 a.frame (omega (arith, g.range.0, g.range.1))))
    ∙ ends a (is_in_frame a.frame o) (MemSP o) (in_frame_back a.frame o g.range.0 g.range.1)
operand_read a (MemReg r o) g k =
    passes a (a.may MemorySort) AtBase (Byte r ∷ Word o ∷ []) g.may ∙ passes a (is_own_register r) (AtBaseOffset r) (Word o ∷ []) (own_back r g.range)
operand_read a (Label l) g k = passes a (a.may TargetSort) AtLabel (Word l ∷ []) g.may ∙ ends a (nat_lt l a.total) (Label l) (lt-ltb l a.total g.range)
operand_read a (Func s) g k = passes a (a.may FunctionSort) AtFunction (Word s ∷ []) g.may ∙ ends a (nat_lt s a.symbols) (Func s) (lt-ltb s a.symbols g.symbol)
operand_read a Hi g k = ends a (a.may HiLoSort) Hi g.may
operand_read a Lo g k = ends a (a.may HiLoSort) Lo g.may
operand_read a (Auto v o) g k = absurd k
operand_read a (AutoAddr v o) g k = absurd k

-- From inside an operand some fields lead to its end.

abbrev pub AllFit : List Field → Type 0
AllFit [] = Unit {0}
AllFit (f ∷ fs) = FieldFits f × AllFit fs

pub fit_append : (fs gs : List Field) → AllFit fs → AllFit gs → AllFit (fs ++ gs)
fit_append [] gs h k = k
fit_append (f ∷ fs) gs h k = (h.0, fit_append fs gs h.1 k)

pub record Leads (a : Around) (p : OperandPlace) : Type 0 where
  pub fields : List Field
  pub fits : AllFit fields
  pub operand : Operand
  pub reads : runs (operand_step a) (Stay p) fields ≡ Whole operand
  pub may : a.may (sort_of (operand_kind operand)) ≡ true
  pub counts : CountGood a.may_be_constant operand

-- it isn't at the operand's beginning
abbrev pub IsInside : OperandPlace → Type 0
IsInside AtTag = ⊥
IsInside _ = Unit {0}

no_and : (b : Bool) → (b && false) ≡ false
no_and true = refl
no_and false = refl

pub operand_leads : (a : Around) (p : OperandPlace) → 0 < a.symbols → 0 < a.total → a.may_be_constant 0 ≡ true → OperandWell a p → IsInside p → Leads a p
operand_leads a AtTag s t c w k = absurd k
operand_leads a AtRegister s t c w k =
    record { fields = Byte 0 ∷ []; fits = (omega arith, tt); operand = Reg 0; reads = register_ends a 0 (omega arith, λ e. omega (arith, e), λ e. omega (arith, e), λ e. omega (arith, e)) (no_and (a.is_written 0)); may = w; counts = tt }
operand_leads a AtConstant s t c w k = record { fields = Word 0 ∷ []; fits = (omega arith, tt); operand = Const 0; reads = ends a (a.may_be_constant 0) (Const 0) c; may = w; counts = c }
operand_leads a AtAddressSymbol s t c w k =
    record { fields = Word 0 ∷ Word 0 ∷ []; fits = (omega arith, (omega arith, tt)); operand = AddrSB 0 0; reads = passes a (nat_lt 0 a.symbols) (AtAddressOffset 0) (Word 0 ∷ []) (lt-ltb 0 a.symbols s); may = w; counts = tt }
operand_leads a (AtAddressOffset x) s t c w k = record { fields = Word 0 ∷ []; fits = (omega arith, tt); operand = AddrSB x 0; reads = refl; may = w.0; counts = tt }
operand_leads a AtArgumentAddress s t c w k = record { fields = Word 0 ∷ []; fits = (omega arith, tt); operand = AddrFP 0; reads = refl; may = w; counts = tt }
operand_leads a AtFrameAddress s t c w k =
    record { fields = Word (2 ^ 32 - 1) ∷ []; fits = (omega arith, tt); operand = AddrSP (2 ^ 32 - 1); reads = ends a (is_in_frame a.frame (2 ^ 32 - 1)) (AddrSP (2 ^ 32 - 1)) (in_frame_back a.frame (2 ^ 32 - 1) (omega (arith, w.1)) (omega arith)); may = w.0; counts = tt }
operand_leads a AtSymbol s t c w k =
    record { fields = Word 0 ∷ Word 0 ∷ []; fits = (omega arith, (omega arith, tt)); operand = MemSB 0 0; reads = passes a (nat_lt 0 a.symbols) (AtOffset 0) (Word 0 ∷ []) (lt-ltb 0 a.symbols s); may = w; counts = tt }
operand_leads a (AtOffset x) s t c w k = record { fields = Word 0 ∷ []; fits = (omega arith, tt); operand = MemSB x 0; reads = refl; may = w.0; counts = tt }
operand_leads a AtArgument s t c w k = record { fields = Word 0 ∷ []; fits = (omega arith, tt); operand = MemFP 0; reads = refl; may = w; counts = tt }
operand_leads a AtFrameOffset s t c w k =
    record { fields = Word (2 ^ 32 - 1) ∷ []; fits = (omega arith, tt); operand = MemSP (2 ^ 32 - 1); reads = ends a (is_in_frame a.frame (2 ^ 32 - 1)) (MemSP (2 ^ 32 - 1)) (in_frame_back a.frame (2 ^ 32 - 1) (omega (arith, w.1)) (omega arith)); may = w.0; counts = tt }
operand_leads a AtBase s t c w k = record { fields = Byte 0 ∷ Word 0 ∷ []; fits = (omega arith, (omega arith, tt)); operand = MemReg 0 0; reads = refl; may = w; counts = tt }
operand_leads a (AtBaseOffset r) s t c w k = record { fields = Word 0 ∷ []; fits = (omega arith, tt); operand = MemReg r 0; reads = refl; may = w.0; counts = tt }
operand_leads a AtLabel s t c w k = record { fields = Word 0 ∷ []; fits = (omega arith, tt); operand = Label 0; reads = ends a (nat_lt 0 a.total) (Label 0) (lt-ltb 0 a.total t); may = w; counts = tt }
operand_leads a AtFunction s t c w k = record { fields = Word 0 ∷ []; fits = (omega arith, tt); operand = Func 0; reads = ends a (nat_lt 0 a.symbols) (Func 0) (lt-ltb 0 a.symbols s); may = w; counts = tt }
