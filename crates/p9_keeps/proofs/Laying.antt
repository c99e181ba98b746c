-- Framed code has each instruction with its moves where its block starts.
use Rattle.std.proofs.Common.{ℕ, zero, suc, ◌+◌, ◌-◌, ◌==◌, ◌&&◌, ◌||◌, ◌≡◌, ◌≢◌, ◌⊎◌, inl, inr, ◌≤◌, ◌<◌, nat_lt, true, false, Some, refl, sym, ap, ◌∙◌, subst, arith, List, [], ◌∷◌, ◌++◌, map, length, slice_get, All, length-append, append_assoc}
use Rattle.std.specs.Prelude.{option_and_then}
use Rattle.std.proofs.lemmas.Bool.{and_from, or_left, or_right, lt-ltb, eq-eqb, cases_lt, true≢false}
use Rattle.std.proofs.lemmas.Option.{none-some, same_Some}
use Rattle.std.proofs.lemmas.List.{length-map}
use Rattle.p9_abs.specs.declared.instructions.Op.TheVariants.{Jmp, Ret, Syscall}
use Rattle.p9_abs.specs.declared.instructions.Operand.{Operand}
use Rattle.p9_abs.specs.declared.instructions.Operand.TheVariants.{Reg, Const, AddrSB, AddrFP, AddrSP, MemSB, MemFP, MemSP, MemReg, Label, Func, Hi, Lo, Auto, AutoAddr}
use Rattle.p9_abs.specs.declared.instructions.Abs.{Abs}
use Rattle.p9_abs.specs.declared.forms.Location.TheVariants.{Static, Argument, Frame, Based, Automatic}
use Rattle.p9_abs.specs.declared.forms.OperandKind.{OperandKind}
use Rattle.p9_abs.specs.declared.forms.OperandKind.TheVariants.{Register, Constant, Address, Memory, HiLo, Target, Function}
use Rattle.p9_abs.specs.declared.forms.Form.{Form}
use Rattle.p9_abs.specs.Forms.{operand_kind, kinds_form, decoded}
use Rattle.p9_abs.specs.Validity.{EndsWell}
use Rattle.p9_abs.specs.Automatics.{IsOperandOf, IsInstructionOf, form_at, holds_of, flows, falls, goes_to, call_at}
use Rattle.p9_abs.specs.Framed.{Shift, start_of, shifts_code, blocks}
use Rattle.p9_abs.specs.Steps.{Mach, Around, step, without_text, acts, acts_as, at_instruction}
use Rattle.p9_abs.specs.Runs.{taken_by}
use Rattle.p9_homes.proofs.Tabling.{all-get}
use Rattle.p9_homed.specs.Plain.{NamesNoHome}
use Rattle.p9_homed.specs.Homed.{Homing, homed_form, homing_at, framed_instruction}
use Rattle.p9_homed.proofs.Parts.{parts, IsSilent, form-parts, return-ends, jump-ends}
use Rattle.p9_homed.proofs.Rows.{homed-forms}
use Rattle.p9_keeps.proofs.Scenes.{Scene}

-- a list stands in code from here on
abbrev pub HasAt : List Abs → ℕ → List Abs → Type 0
HasAt b p [] = Unit {0}
HasAt b p (x ∷ xs) = (slice_get b p ≡ Some x) × HasAt b (p + 1) xs

pub has-left : (b : List Abs) (p : ℕ) (xs ys : List Abs) → HasAt b p (xs ++ ys) → HasAt b p xs
has-left b p [] ys h = tt
has-left b p (x ∷ xs) ys h = (h.0, has-left b (p + 1) xs ys h.1)

pub has-right : (b : List Abs) (p : ℕ) (xs ys : List Abs) → HasAt b p (xs ++ ys) → HasAt b (p + length xs) ys
has-right b p [] ys h = subst (λ q. HasAt b q ys) (let e : p ≡ p + 0 = omega arith in e) h
has-right b p (x ∷ xs) ys h = subst (λ q. HasAt b q ys) (let e : p + 1 + length xs ≡ p + suc (length xs) = omega arith in e) (has-right b (p + 1) xs ys h.1)

get-after : (pre xs : List Abs) (k : ℕ) → slice_get (pre ++ xs) (length pre + k) ≡ slice_get xs k
get-after [] xs k = ap (slice_get xs) (omega arith)
get-after (p ∷ pre) xs k = ap (slice_get (p ∷ (pre ++ xs))) (let e : suc (length pre) + k ≡ suc (length pre + k) = omega arith in e) ∙ get-after pre xs k

has-self : (pre xs : List Abs) (p : ℕ) → p ≡ length pre → HasAt (pre ++ xs) p xs
has-self pre [] p e = tt
has-self pre (x ∷ xs) p e = (
  ap (slice_get (pre ++ (x ∷ xs))) (let q : p ≡ length pre + 0 = omega (arith, e) in q) ∙ get-after pre (x ∷ xs) 0,
  subst (λ l. HasAt l (p + 1) xs) (append_assoc pre (x ∷ []) xs) (has-self (pre ++ (x ∷ [])) xs (p + 1) (omega (arith, e, length-append pre (x ∷ [])))),
)

-- Steps

pub step-acts : (around : Around) (code : List Abs) (x : Mach) (q : ℕ) (a : Abs) (form : Form) → x.at ≡ q → slice_get code q ≡ Some a → decoded a ≡ Some form →
    step around code x ≡ acts around form (without_text x)
unfolding step
step-acts around code x q a form here e d =
    ap (λ o. at_instruction around o (without_text x)) (ap (slice_get code) here ∙ e)
    ∙ ap (λ o. acts_as around o (without_text x)) d

-- Operands that name no home

abbrev pub KindOk : ℕ → OperandKind → Type 0
KindOk n (Register r) = (r < 9) ⊎ (20 < r)
KindOk n (Memory (Based r o)) = (r < 9) ⊎ (20 < r)
KindOk n (Memory (Frame o)) = ⊥
KindOk n (Memory (Static k o)) = Unit {0}
KindOk n (Memory (Argument o)) = Unit {0}
KindOk n (Memory (Automatic v o)) = Unit {0}
KindOk n (Address (Based r o)) = ⊥
KindOk n (Address (Frame o)) = ⊥
KindOk n (Address (Static k o)) = Unit {0}
KindOk n (Address (Argument o)) = Unit {0}
KindOk n (Address (Automatic v o)) = Unit {0}
KindOk n (Target l) = l < n
KindOk n (Constant c) = Unit {0}
KindOk n (HiLo h) = Unit {0}
KindOk n (Function g) = Unit {0}

kind-ok : (autos n : ℕ) (o : Operand) → IsOperandOf autos n o → NamesNoHome o → KindOk n (operand_kind o)
kind-ok autos n (Reg r) h k = k
kind-ok autos n (Const c) h k = tt
kind-ok autos n (AddrSB s o) h k = tt
kind-ok autos n (AddrFP o) h k = tt
kind-ok autos n (AddrSP o) h k = h
kind-ok autos n (MemSB s o) h k = tt
kind-ok autos n (MemFP o) h k = tt
kind-ok autos n (MemSP o) h k = h
kind-ok autos n (MemReg r o) h k = k
kind-ok autos n (Label l) h k = h
kind-ok autos n (Func s) h k = tt
kind-ok autos n Hi h k = tt
kind-ok autos n Lo h k = tt
kind-ok autos n (Auto v o) h k = tt
kind-ok autos n (AutoAddr v o) h k = tt

abbrev pub OkAll : ℕ → List OperandKind → Type 0
OkAll n [] = Unit {0}
OkAll n (k ∷ ks) = KindOk n k × OkAll n ks

ok-all : (autos n : ℕ) (os : List Operand) → ((k : ℕ) (o : Operand) → slice_get os k ≡ Some o → IsOperandOf autos n o × NamesNoHome o) → OkAll n (map operand_kind os)
ok-all autos n [] h = tt
ok-all autos n (o ∷ os) h = let q = h 0 o refl in (kind-ok autos n o q.0 q.1, ok-all autos n os (λ k z e. h (suc k) z e))

-- The last instruction

last-falls-not : (code : List Abs) (i : ℕ) (a : Abs) (form : Form) → EndsWell code → slice_get code i ≡ Some a → decoded a ≡ Some form → length code ≤ i + 1 → falls form ≡ false
last-falls-not [] i a form ends e d l = absurd ends
last-falls-not (b ∷ []) zero a form ends e d l = by ends
  where
    same : b ≡ a
    same = same_Some b a e

    by : (b.op ≡ Ret) ⊎ (b.op ≡ Jmp) → falls form ≡ false
    by (inl r) = return-ends (map operand_kind a.operands) form (ap (λ o. kinds_form o (map operand_kind a.operands)) (sym r ∙ ap (λ (z : Abs). z.op) same) ∙ d)
    by (inr r) = jump-ends (map operand_kind a.operands) form (ap (λ o. kinds_form o (map operand_kind a.operands)) (sym r ∙ ap (λ (z : Abs). z.op) same) ∙ d)
last-falls-not (b ∷ []) (suc i) a form ends e d l = absurd (none-some a e)
last-falls-not (b ∷ c ∷ rest) zero a form ends e d l = absurd (omega (arith, l))
last-falls-not (b ∷ c ∷ rest) (suc i) a form ends e d l = last-falls-not (c ∷ rest) i a form ends e d (omega (arith, l))

module _ (s : Scene) where
  -- Starts

  pub start-next : (i : ℕ) → start_of s.p (i + 1) ≡ start_of s.p i + length (s.p.before i) + 1 + length (s.p.after i)
  start-next i = ap (start_of s.p) (let e : i + 1 ≡ suc i = omega arith in e)

  pub start-plain : (i : ℕ) → call_at s.f.code i ≡ false → start_of s.p (i + 1) ≡ start_of s.p i + 1
  start-plain i call =
      let q = s.framed.only_at_calls i call in let b = ap length q.0 in let a = ap length q.1 in let n = start-next i in omega (arith, n, b, a)

  start-after : (i k : ℕ) → start_of s.p i ≤ start_of s.p (i + k)
  start-after i zero = let e : i + 0 ≡ i = omega arith in let q = ap (start_of s.p) e in omega (arith, q)
  start-after i (suc k) = let r = start-after i k in let e : i + suc k ≡ i + k + 1 = omega arith in let q = ap (start_of s.p) e in let n = start-next (i + k) in omega (arith, r, q, n)

  -- a block that doesn't start later is of an instruction that isn't later
  pub start-rises : (i j : ℕ) → start_of s.p i ≤ start_of s.p j → i ≤ j
  start-rises i j l = by (cases_lt j i)
    where
      by : (j < i) ⊎ (i ≤ j) → i ≤ j
      by (inr q) = q
      by (inl q) =
          let e : j + 1 + (i - (j + 1)) ≡ i = omega (arith, q) in
          let r = start-after (j + 1) (i - (j + 1)) in let z = ap (start_of s.p) e in let n = start-next j in absurd (omega (arith, l, r, z, n))

  -- Blocks

  abbrev taken : ℕ
  taken = taken_by s.def

  abbrev block : ℕ → Abs → List Abs
  block i a = shifts_code s.f s.p (s.p.before i) ++ (framed_instruction s.rs s.homes s.p taken i a ∷ shifts_code s.f s.p (s.p.after i))

  code-length : (ss : List Shift) → length (shifts_code s.f s.p ss) ≡ length ss
  code-length ss = length-map ss _

  stands : (xs : List Abs) (i k : ℕ) (a : Abs) → HasAt s.def.code (start_of s.p i) (blocks s.f s.rs s.homes s.p taken i xs) → slice_get xs k ≡ Some a → HasAt s.def.code (start_of s.p (i + k)) (block (i + k) a)
  stands [] i k a h e = absurd (none-some a e)
  stands (x ∷ xs) i zero a h e =
      let z : i ≡ i + 0 = omega arith in
      subst (λ q. HasAt s.def.code (start_of s.p q) (block q a)) z
      (subst (λ q. HasAt s.def.code (start_of s.p i) (block i q)) (same_Some x a e)
      (has-left s.def.code (start_of s.p i) (block i x) (blocks s.f s.rs s.homes s.p taken (i + 1) xs)
      (subst (HasAt s.def.code (start_of s.p i)) (sym (append_assoc (shifts_code s.f s.p (s.p.before i)) (framed_instruction s.rs s.homes s.p taken i x ∷ shifts_code s.f s.p (s.p.after i)) (blocks s.f s.rs s.homes s.p taken (i + 1) xs))) h)))
  stands (x ∷ xs) i (suc k) a h e =
      let z : i + 1 + k ≡ i + suc k = omega arith in
      let first : List Abs = shifts_code s.f s.p (s.p.before i) in
      let last : List Abs = shifts_code s.f s.p (s.p.after i) in
      let rest : List Abs = blocks s.f s.rs s.homes s.p taken (i + 1) xs in
      let nb = code-length (s.p.before i) in
      let na = code-length (s.p.after i) in
      let at : start_of s.p i + length first + 1 + length last ≡ start_of s.p (i + 1) = (let n = start-next i in omega (arith, n, nb, na)) in
      subst (λ q. HasAt s.def.code (start_of s.p q) (block q a)) z
      (stands xs (i + 1) k a
      (subst (λ q. HasAt s.def.code q rest) at
      (has-right s.def.code (start_of s.p i + length first + 1) last rest
      ((has-right s.def.code (start_of s.p i) first (framed_instruction s.rs s.homes s.p taken i x ∷ (last ++ rest)) h).1)))
      e)

  whole : HasAt s.def.code 0 (shifts_code s.f s.p s.p.entry ++ blocks s.f s.rs s.homes s.p taken 0 s.f.code)
  whole = subst (λ c. HasAt c 0 (shifts_code s.f s.p s.p.entry ++ blocks s.f s.rs s.homes s.p taken 0 s.f.code)) (sym s.framed.code) (has-self [] (shifts_code s.f s.p s.p.entry ++ blocks s.f s.rs s.homes s.p taken 0 s.f.code) 0 refl)

  -- the moves at the entry stand first
  pub entry-at : HasAt s.def.code 0 (shifts_code s.f s.p s.p.entry)
  entry-at = has-left s.def.code 0 (shifts_code s.f s.p s.p.entry) (blocks s.f s.rs s.homes s.p taken 0 s.f.code) whole

  -- and each instruction with its moves at the start of its block
  pub block-at : (i : ℕ) (a : Abs) → slice_get s.f.code i ≡ Some a → HasAt s.def.code (start_of s.p i) (shifts_code s.f s.p (s.p.before i) ++ (framed_instruction s.rs s.homes s.p (taken_by s.def) i a ∷ shifts_code s.f s.p (s.p.after i)))
  block-at i a e =
      let z : 0 + i ≡ i = omega arith in
      let n = code-length s.p.entry in
      let first : 0 + length (shifts_code s.f s.p s.p.entry) ≡ start_of s.p 0 = omega (arith, n) in
      subst (λ q. HasAt s.def.code (start_of s.p q) (block q a)) z
      (stands s.f.code 0 i a (subst (λ q. HasAt s.def.code q (blocks s.f s.rs s.homes s.p taken 0 s.f.code)) first (has-right s.def.code 0 (shifts_code s.f s.p s.p.entry) (blocks s.f s.rs s.homes s.p taken 0 s.f.code) whole)) e)

  -- An instruction of the code given

  abbrev pub homing : ℕ → Homing
  homing i = homing_at s.rs s.homes s.p (taken_by s.def) i

  -- instruction i, its form, and what is known of its operands
  pub record IsAt (i : ℕ) (a : Abs) (form : Form) : Type 0 where
    pub is : slice_get s.f.code i ≡ Some a
    pub decodes : decoded a ≡ Some form
    pub instruction_is : IsInstructionOf (length s.f.autos) (length s.f.code) a
    pub oks : OkAll (length s.f.code) (parts form)
    pub silent : IsSilent form
    pub homed : decoded (framed_instruction s.rs s.homes s.p (taken_by s.def) i a) ≡ Some (homed_form (homing_at s.rs s.homes s.p (taken_by s.def) i) form)

  pub is-at : (i : ℕ) (a : Abs) (form : Form) → slice_get s.f.code i ≡ Some a → decoded a ≡ Some form → IsAt i a form
  is-at i a form e d =
      let v : IsInstructionOf (length s.f.autos) (length s.f.code) a = all-get (IsInstructionOf (length s.f.autos) (length s.f.code)) s.f.code i a s.valid.instructions e in
      let q : (a.op ≢ Syscall) × All NamesNoHome a.operands = all-get (λ (z : Abs). (z.op ≢ Syscall) × All NamesNoHome z.operands) s.f.code i a s.plain e in
      let t = form-parts a.op (map operand_kind a.operands) form d in
      record {
        is = e;
        decodes = d;
        instruction_is = v;
        oks = subst (OkAll (length s.f.code)) t.0 (ok-all (length s.f.autos) (length s.f.code) a.operands (λ k o z. (all-get (IsOperandOf (length s.f.autos) (length s.f.code)) a.operands k o v.operands z, all-get NamesNoHome a.operands k o q.1 z)));
        silent = t.1 q.0;
        homed = homed-forms s.rs s.homes s.p (taken_by s.def) i a form d;
      }

  pub form-is : (i : ℕ) (a : Abs) (form : Form) → IsAt i a form → form_at s.f.code i ≡ Some form
  form-is i a form t = ap (option_and_then decoded) t.is ∙ t.decodes

  -- Flow

  pub flows-next : (i : ℕ) (a : Abs) (form : Form) → IsAt i a form → falls form ≡ true → flows s.f.code i (i + 1) ≡ true
  flows-next i a form t goes =
      and_from (nat_lt (i + 1) (length s.f.code)) _ (lt-ltb (i + 1) (length s.f.code) (inside (cases_lt (i + 1) (length s.f.code))))
      (ap (holds_of (λ z. (falls z && (i + 1 == i + 1)) || goes_to (i + 1) z)) (form-is i a form t)
      ∙ or_left (falls form && (i + 1 == i + 1)) (goes_to (i + 1) form) (and_from (falls form) (i + 1 == i + 1) goes (eq-eqb (i + 1) (i + 1) refl)))
    where
      inside : (i + 1 < length s.f.code) ⊎ (length s.f.code ≤ i + 1) → i + 1 < length s.f.code
      inside (inl l) = l
      inside (inr l) = absurd (true≢false (sym goes ∙ last-falls-not s.f.code i a form s.valid.ending t.is t.decodes l))

  pub flows-to : (i l : ℕ) (a : Abs) (form : Form) → IsAt i a form → goes_to l form ≡ true → l < length s.f.code → flows s.f.code i l ≡ true
  flows-to i l a form t goes inside =
      and_from (nat_lt l (length s.f.code)) _ (lt-ltb l (length s.f.code) inside)
      (ap (holds_of (λ z. (falls z && (l == i + 1)) || goes_to l z)) (form-is i a form t) ∙ or_right (falls form && (l == i + 1)) (goes_to l form) goes)
