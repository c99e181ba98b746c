-- Framed code of valid code is valid, where the frame has a spare word at its top.
use Rattle.std.proofs.Common.{ℕ, zero, suc, ◌+◌, ◌-◌, ◌%◌, ◌^◌, ◌==◌, ◌≡◌, ◌≢◌, ◌⊎◌, inl, inr, ◌≤◌, ◌<◌, Bool, true, false, Option, Some, None, refl, sym, ap, ◌∙◌, subst, arith, if◌then◌else◌, List, [], ◌∷◌, ◌++◌, map, length, slice_get, slice_index, All, IfSome}
use Rattle.std.specs.Prelude.{is_some, option_and_then}
use Rattle.std.proofs.lemmas.Bool.{true≢false, false≢true}
use Rattle.std.proofs.lemmas.Option.{none-some, slice_get_within}
use Rattle.std.proofs.lemmas.List.Elements.{All-nil, All-cons, All-append, All-head, All-tail}
use Rattle.p9_abs.specs.declared.instructions.Op.{Op}
use Rattle.p9_abs.specs.declared.instructions.Op.TheVariants.{MovW, MovH, MovB, Jmp, Ret}
use Rattle.p9_abs.specs.declared.instructions.Operand.{Operand}
use Rattle.p9_abs.specs.declared.instructions.Operand.TheVariants.{Reg, Const, AddrSB, AddrFP, AddrSP, MemSB, MemFP, MemSP, MemReg, Label, Func, Hi, Lo, Auto, AutoAddr}
use Rattle.p9_abs.specs.declared.instructions.Abs.{Abs}
use Rattle.p9_abs.specs.declared.forms.Form.{Form}
use Rattle.p9_abs.specs.declared.forms.Form.TheVariants as forms
use Rattle.p9_abs.specs.Forms.{operand_kind, kinds_form, decoded}
use Rattle.p9_abs.specs.Validity.{IsRegister, IsInRange, IsInstruction, IsFunction, IsWritable, EndsWell}
use Rattle.p9_abs.specs.Automatics.{IsOperandOf, IsInstructionOf, holds_of, calls_in, falls}
use Rattle.p9_abs.specs.Regions.{IsHome, home_at}
use Rattle.p9_abs.specs.Framed.{Shift, IsShift, start_of, home_or_memory, framed_operand, shift_code, shifts_code, blocks}
use Rattle.p9_abs.specs.OneCall.{size_at}
use Rattle.p9_abs.specs.Runs.{taken_by}
use Rattle.p9_homes.proofs.Tabling.{all-get}
use Rattle.p9_homed.specs.Homed.{framed_instruction}
use Rattle.p9_homed.proofs.Parts.{return-ends, jump-ends}
use Rattle.p9_keeps.specs.Addresses.{IsNear, HasNearAddresses}
use Rattle.p9_keeps.proofs.Living.{home-range}
use Rattle.p9_keeps.proofs.Scenes.{Scene, made-taken}
use Rattle.p9_keeps.proofs.Places.{mapped, offset-get}
use Rattle.p9_keeps.proofs.Laying.{is-at, block-at, has-right}

home-register : (h : ℕ) → (9 ≤ h) × (h ≤ 20) → IsRegister h
home-register h r = let a = r.1 in (omega (arith, a), λ e. omega (arith, a, e), λ e. omega (arith, a, e), λ e. omega (arith, a, e))

stack-register : IsRegister 29
stack-register = (omega arith, λ e. omega (arith, e), λ e. omega (arith, e), λ e. omega (arith, e))

free-home : (h : ℕ) → (9 ≤ h) × (h ≤ 20) → (h ≢ 29) × (h ≢ 30) × (h ≢ 31)
free-home h r = let a = r.1 in (λ e. omega (arith, a, e), λ e. omega (arith, a, e), λ e. omega (arith, a, e))

slice_get_none : (xs : List Abs) (k : ℕ) → slice_get xs k ≡ None → length xs ≤ k
slice_get_none [] k e = omega arith
slice_get_none (x ∷ xs) zero e = absurd (none-some x (sym e))
slice_get_none (x ∷ xs) (suc k) e = let l = slice_get_none xs k e in omega (arith, l)

-- no later instruction ends

ends-behind : (xs ys : List Abs) → EndsWell ys → EndsWell (xs ++ ys)
ends-behind [] ys h = h
ends-behind (x ∷ []) [] h = absurd h
ends-behind (x ∷ []) (y ∷ ys) h = h
ends-behind (x ∷ z ∷ xs) ys h = ends-behind (z ∷ xs) ys h

abbrev Ends : Op → Type 0
Ends op = (op ≡ Ret) ⊎ (op ≡ Jmp)

module _ (s : Scene) (spare : (v p : ℕ) → slice_get s.p.offsets v ≡ Some p → p + size_at s.f v ≤ s.def.frame) (near : HasNearAddresses s.f) where
  abbrev count : ℕ
  count = length s.def.code

  -- Moves

  load-some : (b c : Bool) (o h : ℕ) → is_some (kinds_form (if b then MovB else (if c then MovH else MovW)) (map operand_kind (MemReg 29 o ∷ Reg h ∷ []))) ≡ true
  load-some true c o h = refl
  load-some false true o h = refl
  load-some false false o h = refl

  store-some : (b c : Bool) (o h : ℕ) → is_some (kinds_form (if b then MovB else (if c then MovH else MovW)) (map operand_kind (Reg h ∷ MemReg 29 o ∷ []))) ≡ true
  store-some true c o h = refl
  store-some false true o h = refl
  store-some false false o h = refl

  two-valid : (a b : Operand) → IsInRange s.def.frame count a → IsInRange s.def.frame count b → All (IsInRange s.def.frame count) (a ∷ b ∷ [])
  two-valid a b h k = All-cons (IsInRange s.def.frame count) a (b ∷ []) h (All-cons (IsInRange s.def.frame count) b [] k (All-nil (IsInRange s.def.frame count)))

  move-valid : (v h : ℕ) (d : Bool) → (9 ≤ h) × (h ≤ 20) → IsInstruction s.def.frame count (shift_code s.f s.p (record { auto = v; home = h; loads = d }))
  move-valid v h true r = record {
    form = load-some (size_at s.f v == 1) (size_at s.f v == 2) (slice_index s.p.offsets v) h;
    operands = two-valid (MemReg 29 (slice_index s.p.offsets v)) (Reg h) stack-register (home-register h r);
    destination = λ w. free-home h r;
  }
  move-valid v h false r = record {
    form = store-some (size_at s.f v == 1) (size_at s.f v == 2) (slice_index s.p.offsets v) h;
    operands = two-valid (Reg h) (MemReg 29 (slice_index s.p.offsets v)) (home-register h r) stack-register;
    destination = λ w. tt;
  }

  shift-home : (t : Shift) → IsShift s.rs s.homes t → (9 ≤ t.home) × (t.home ≤ 20)
  shift-home t w = all-get (λ o. IfSome o IsHome) s.homes w.0 (Some t.home) s.homed.range w.4

  shifts-valid : (ts : List Shift) → All (IsShift s.rs s.homes) ts → All (IsInstruction s.def.frame count) (shifts_code s.f s.p ts)
  shifts-valid [] h = All-nil (IsInstruction s.def.frame count)
  shifts-valid (t ∷ ts) h =
      All-cons (IsInstruction s.def.frame count) (shift_code s.f s.p t) (shifts_code s.f s.p ts) (move-valid t.auto t.home t.loads (shift-home t (All-head (IsShift s.rs s.homes) t ts h)))
      (shifts-valid ts (All-tail (IsShift s.rs s.homes) t ts h))

  -- Operands

  range : (v i h : ℕ) → home_at s.rs s.homes v i ≡ Some h → (9 ≤ h) × (h ≤ 20)
  range v i h e = home-range s.f s.rs s.homes s.regions s.homed v i h e

  label-within : (l : ℕ) → l < length s.f.code → start_of s.p l < count
  label-within l inside = by (slice_get s.f.code l) refl
    where
      by : (o : Option Abs) → slice_get s.f.code l ≡ o → start_of s.p l < count
      by None e = absurd (let n = slice_get_none s.f.code l e in omega (arith, n, inside))
      by (Some a) e =
          let h = (has-right s.def.code (start_of s.p l) (shifts_code s.f s.p (s.p.before l)) (framed_instruction s.rs s.homes s.p (taken_by s.def) l a ∷ shifts_code s.f s.p (s.p.after l)) (block-at s l a e)).0 in
          let w = slice_get_within s.def.code (start_of s.p l + length (shifts_code s.f s.p (s.p.before l))) _ h in
          omega (arith, w)

  memory-or-home : (o : Option ℕ) (q : ℕ) → ((h : ℕ) → o ≡ Some h → (9 ≤ h) × (h ≤ 20)) → IsInRange s.def.frame count (home_or_memory o q)
  memory-or-home None q r = stack-register
  memory-or-home (Some h) q r = home-register h (r h refl)

  address-within : (v o : ℕ) → v < length s.f.autos → o ≤ size_at s.f v → (2 ^ 32 - s.def.frame ≤ (slice_index s.p.offsets v + o + 2 ^ 32 - taken_by s.def) % 2 ^ 32) × ((slice_index s.p.offsets v + o + 2 ^ 32 - taken_by s.def) % 2 ^ 32 < 2 ^ 32)
  address-within v o inside l =
      let e = offset-get s v inside in
      let w = (s.framed.placed.within v (slice_index s.p.offsets v) (mapped s.p.offsets v (slice_index s.p.offsets v) e)).0 in
      let b = spare v (slice_index s.p.offsets v) e in
      let t = made-taken s in let f = s.framed.frame.1 in
      (omega (arith, w, b, t, f, l), omega arith)

  operand-valid : (i : ℕ) (o : Operand) → IsOperandOf (length s.f.autos) (length s.f.code) o → IsNear s.f.autos o → IsInRange s.def.frame count (framed_operand s.rs s.homes s.p (taken_by s.def) i o)
  operand-valid i (Auto v o) h n = memory-or-home (home_at s.rs s.homes v i) (slice_index s.p.offsets v + o) (λ r e. range v i r e)
  operand-valid i (AutoAddr v o) h n = address-within v o h n
  operand-valid i (Label l) h n = label-within l h
  operand-valid i (Reg r) h n = h
  operand-valid i (Const c) h n = tt
  operand-valid i (AddrSB k o) h n = tt
  operand-valid i (AddrFP o) h n = omega (arith, h)
  operand-valid i (AddrSP o) h n = absurd h
  operand-valid i (MemSB k o) h n = tt
  operand-valid i (MemFP o) h n = omega (arith, h)
  operand-valid i (MemSP o) h n = absurd h
  operand-valid i (MemReg r o) h n = h
  operand-valid i (Func g) h n = tt
  operand-valid i Hi h n = tt
  operand-valid i Lo h n = tt

  operands-valid : (i : ℕ) (os : List Operand) → All (IsOperandOf (length s.f.autos) (length s.f.code)) os → All (IsNear s.f.autos) os →
      All (IsInRange s.def.frame count) (map (framed_operand s.rs s.homes s.p (taken_by s.def) i) os)
  operands-valid i [] h n = All-nil (IsInRange s.def.frame count)
  operands-valid i (o ∷ os) h n =
      All-cons (IsInRange s.def.frame count) _ _
      (operand-valid i o (All-head (IsOperandOf (length s.f.autos) (length s.f.code)) o os h) (All-head (IsNear s.f.autos) o os n))
      (operands-valid i os (All-tail (IsOperandOf (length s.f.autos) (length s.f.code)) o os h) (All-tail (IsNear s.f.autos) o os n))

  last-writable : (i : ℕ) (o : Operand) → IsWritable (o ∷ []) → IsWritable (framed_operand s.rs s.homes s.p (taken_by s.def) i o ∷ [])
  last-writable i (Auto v o) h = by (home_at s.rs s.homes v i) refl
    where
      by : (q : Option ℕ) → home_at s.rs s.homes v i ≡ q → IsWritable (home_or_memory q (slice_index s.p.offsets v + o) ∷ [])
      by None e = tt
      by (Some r) e = free-home r (range v i r e)
  last-writable i (AutoAddr v o) h = tt
  last-writable i (Label l) h = tt
  last-writable i (Reg r) h = h
  last-writable i (Const c) h = tt
  last-writable i (AddrSB k o) h = tt
  last-writable i (AddrFP o) h = tt
  last-writable i (AddrSP o) h = tt
  last-writable i (MemSB k o) h = tt
  last-writable i (MemFP o) h = tt
  last-writable i (MemSP o) h = tt
  last-writable i (MemReg r o) h = tt
  last-writable i (Func g) h = tt
  last-writable i Hi h = tt
  last-writable i Lo h = tt

  writable : (i : ℕ) (os : List Operand) → IsWritable os → IsWritable (map (framed_operand s.rs s.homes s.p (taken_by s.def) i) os)
  writable i [] h = tt
  writable i (o ∷ []) h = last-writable i o h
  writable i (o ∷ q ∷ os) h = writable i (q ∷ os) h

  -- Instructions

  instruction-valid : (i : ℕ) (a : Abs) → slice_get s.f.code i ≡ Some a → IsInstruction s.def.frame count (framed_instruction s.rs s.homes s.p (taken_by s.def) i a)
  instruction-valid i a e = by (decoded a) refl
    where
      v : IsInstructionOf (length s.f.autos) (length s.f.code) a
      v = all-get (IsInstructionOf (length s.f.autos) (length s.f.code)) s.f.code i a s.valid.instructions e

      by : (o : Option Form) → decoded a ≡ o → IsInstruction s.def.frame count (framed_instruction s.rs s.homes s.p (taken_by s.def) i a)
      by None d = absurd (false≢true (sym (ap is_some d) ∙ v.form))
      by (Some form) d = record {
        form = ap is_some (is-at s i a form e d).homed;
        operands = operands-valid i a.operands v.operands (all-get (λ (z : Abs). All (IsNear s.f.autos) z.operands) s.f.code i a near e);
        destination = λ w. writable i a.operands (v.destination w);
      }

  blocks-valid : (i : ℕ) (rest : List Abs) → ((k : ℕ) (a : Abs) → slice_get rest k ≡ Some a → slice_get s.f.code (i + k) ≡ Some a) → All (IsInstruction s.def.frame count) (blocks s.f s.rs s.homes s.p (taken_by s.def) i rest)
  blocks-valid i [] at = All-nil (IsInstruction s.def.frame count)
  blocks-valid i (a ∷ rest) at =
      let here : slice_get s.f.code i ≡ Some a = (let z : i + 0 ≡ i = omega arith in ap (slice_get s.f.code) (sym z) ∙ at 0 a refl) in
      All-append (IsInstruction s.def.frame count) (shifts_code s.f s.p (s.p.before i)) _ (shifts-valid (s.p.before i) (s.framed.before i).0)
      (All-cons (IsInstruction s.def.frame count) (framed_instruction s.rs s.homes s.p (taken_by s.def) i a) _ (instruction-valid i a here)
      (All-append (IsInstruction s.def.frame count) (shifts_code s.f s.p (s.p.after i)) _ (shifts-valid (s.p.after i) (s.framed.after i).0)
      (blocks-valid (i + 1) rest (λ k b e. (let z : i + 1 + k ≡ i + suc k = omega arith in ap (slice_get s.f.code) z ∙ at (suc k) b e)))))

  -- The end

  call-falls : (o : Option Form) → holds_of falls o ≡ false → holds_of calls_in o ≡ false
  call-falls None h = refl
  call-falls (Some form) h = of-form form h
    where
      of-form : (form : Form) → falls form ≡ false → calls_in form ≡ false
      of-form (forms.Call g) h = absurd (true≢false h)
      of-form (forms.CallRegister r) h = absurd (true≢false h)
      of-form _ h = refl

  end-falls : (a : Abs) (o : Option Form) → Ends a.op → decoded a ≡ o → holds_of falls o ≡ false
  end-falls a None h d = refl
  end-falls a (Some form) (inl r) d = return-ends (map operand_kind a.operands) form (ap (λ o. kinds_form o (map operand_kind a.operands)) (sym r) ∙ d)
  end-falls a (Some form) (inr r) d = jump-ends (map operand_kind a.operands) form (ap (λ o. kinds_form o (map operand_kind a.operands)) (sym r) ∙ d)

  no-moves : (i : ℕ) (a : Abs) → slice_get s.f.code i ≡ Some a → Ends a.op → s.p.after i ≡ []
  no-moves i a e ends =
      (s.framed.only_at_calls i (ap (λ o. holds_of calls_in (option_and_then decoded o)) e ∙ call-falls (decoded a) (end-falls a (decoded a) ends refl))).1

  blocks-end : (i : ℕ) (rest : List Abs) → EndsWell rest → ((k : ℕ) (a : Abs) → slice_get rest k ≡ Some a → slice_get s.f.code (i + k) ≡ Some a) → EndsWell (blocks s.f s.rs s.homes s.p (taken_by s.def) i rest)
  blocks-end i [] ends at = absurd ends
  blocks-end i (a ∷ []) ends at =
      let here : slice_get s.f.code i ≡ Some a = (let z : i + 0 ≡ i = omega arith in ap (slice_get s.f.code) (sym z) ∙ at 0 a refl) in
      ends-behind (shifts_code s.f s.p (s.p.before i)) (framed_instruction s.rs s.homes s.p (taken_by s.def) i a ∷ (shifts_code s.f s.p (s.p.after i) ++ []))
      (subst (λ (ts : List Shift). EndsWell (framed_instruction s.rs s.homes s.p (taken_by s.def) i a ∷ (shifts_code s.f s.p ts ++ []))) (sym (no-moves i a here ends)) ends)
  blocks-end i (a ∷ b ∷ rest) ends at =
      let after : List Abs = shifts_code s.f s.p (s.p.after i) in
      let more : List Abs = blocks s.f s.rs s.homes s.p (taken_by s.def) (i + 1) (b ∷ rest) in
      ends-behind (shifts_code s.f s.p (s.p.before i)) (framed_instruction s.rs s.homes s.p (taken_by s.def) i a ∷ (after ++ more))
      (ends-behind (framed_instruction s.rs s.homes s.p (taken_by s.def) i a ∷ []) (after ++ more)
      (ends-behind after more
      (blocks-end (i + 1) (b ∷ rest) ends (λ k c e. (let z : i + 1 + k ≡ i + suc k = omega arith in ap (slice_get s.f.code) z ∙ at (suc k) c e)))))

  itself : (k : ℕ) (a : Abs) → slice_get s.f.code k ≡ Some a → slice_get s.f.code (0 + k) ≡ Some a
  itself k a e = let z : 0 + k ≡ k = omega arith in ap (slice_get s.f.code) z ∙ e

  -- framed code is valid
  pub made-valid : IsFunction s.def
  made-valid = record {
    frame = s.framed.frame;
    ending = subst EndsWell (sym s.framed.code) (ends-behind (shifts_code s.f s.p s.p.entry) _ (blocks-end 0 s.f.code s.valid.ending itself));
    instructions = subst (All (IsInstruction s.def.frame count)) (sym s.framed.code)
        (All-append (IsInstruction s.def.frame count) (shifts_code s.f s.p s.p.entry) _ (shifts-valid s.p.entry s.framed.entry.0) (blocks-valid 0 s.f.code itself));
  }
