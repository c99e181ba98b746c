-- An instruction does the same, whatever stands in a register that it doesn't read.
use Rattle.std.proofs.Common.{ℕ, ◌==◌, ◌≡◌, ◌≢◌, ◌||◌, ◌&&◌, Bool, true, false, not, Option, Some, None, Result, Ok, Err, refl, ap, subst, arith, if◌then◌else◌, List, slice_index, slice_set}
use Rattle.std.proofs.lemmas.List.{get_or-set_other}
use Rattle.std.proofs.lemmas.Bool.Decides.{nat_tests}
use Rattle.p9_r3k.specs.declared.inst.Inst.{Inst}
use Rattle.p9_r3k.specs.declared.inst.Inst.TheVariants.{J, Jal, Beq, Bne, Blez, Bgtz, Bltz, Bgez, Bltzal, Bgezal, Addi, Addiu, Slti, Sltiu, Andi, Ori, Xori, Lui, Lb, Lh, Lw, Lbu, Lhu, Sb, Sh, Sw, Sll, Srl, Sra, Sllv, Srlv, Srav, Jr, Jalr, Syscall, Break, Mfhi, Mthi, Mflo, Mtlo, Mult, Multu, Div, Divu, Add, Addu, Sub, Subu, And, Or, Xor, Nor, Slt, Sltu}
use Rattle.p9_base.specs.declared.halt.HaltCause.{HaltCause}
use Rattle.p9_base.specs.declared.halt.HaltCause.TheVariants.{Fetch, LoadHazard, HiLoHazard, SlotBranch}
use Rattle.p9_base.specs.declared.halt.Effect.{Effect}
use Rattle.p9_base.specs.declared.halt.Effect.TheVariants as effects
use Rattle.p9_r3k.specs.Memory.{Core, with_reg, read_word}
use Rattle.p9_r3k.specs.Table.{decoded}
use Rattle.p9_r3k.specs.Effects.{effect_of, reads, writes_pair, branches}
use Rattle.p9_r3k.specs.Machine.{in_text, without_hazard, fetched, asked}
use Rattle.p9_r3k.specs.Pending.{with_register}

-- Tests

pub or-left : (a b : Bool) → (a || b) ≡ false → a ≡ false
or-left true b h = h
or-left false b h = refl

pub or-right : (a b : Bool) → (a || b) ≡ false → b ≡ false
or-right true b h = absurd (let e : true ≡ false = h in cc)
or-right false b h = h

pub unequal : (a b : ℕ) → (a == b) ≡ false → a ≢ b
unequal a b h = grind (arith, nat_tests)

-- Registers

pub index-with : (b : Bool) (regs : List ℕ) (r v q : ℕ) → (q == r) ≡ false →
    slice_index (if b then regs else slice_set regs r v) q ≡ slice_index regs q
index-with true regs r v q h = refl
index-with false regs r v q h = get_or-set_other regs r q v 0 (unequal q r h)

pub other_reg : (regs : List ℕ) (r v q : ℕ) → (q == r) ≡ false → slice_index (with_reg regs r v) q ≡ slice_index regs q
other_reg regs r v q h = index-with (r == 0) regs r v q h

-- Effects

pub effect_of-other :
    (i : Inst) (c : Core) (r v : ℕ) → reads i r ≡ false → effect_of i (with_register c r v) ≡ effect_of i c
effect_of-other (J index) c r v h = refl
effect_of-other (Jal index) c r v h = refl
effect_of-other (Beq rs rt imm) c r v h =
    rw (other_reg c.regs r v rs (or-left (rs == r) (rt == r) h), other_reg c.regs r v rt (or-right (rs == r) (rt == r) h)) refl
effect_of-other (Bne rs rt imm) c r v h =
    rw (other_reg c.regs r v rs (or-left (rs == r) (rt == r) h), other_reg c.regs r v rt (or-right (rs == r) (rt == r) h)) refl
effect_of-other (Blez rs imm) c r v h = rw (other_reg c.regs r v rs h) refl
effect_of-other (Bgtz rs imm) c r v h = rw (other_reg c.regs r v rs h) refl
effect_of-other (Bltz rs imm) c r v h = rw (other_reg c.regs r v rs h) refl
effect_of-other (Bgez rs imm) c r v h = rw (other_reg c.regs r v rs h) refl
effect_of-other (Bltzal rs imm) c r v h = rw (other_reg c.regs r v rs h) refl
effect_of-other (Bgezal rs imm) c r v h = rw (other_reg c.regs r v rs h) refl
effect_of-other (Addi rs rt imm) c r v h = rw (other_reg c.regs r v rs h) refl
effect_of-other (Addiu rs rt imm) c r v h = rw (other_reg c.regs r v rs h) refl
effect_of-other (Slti rs rt imm) c r v h = rw (other_reg c.regs r v rs h) refl
effect_of-other (Sltiu rs rt imm) c r v h = rw (other_reg c.regs r v rs h) refl
effect_of-other (Andi rs rt imm) c r v h = rw (other_reg c.regs r v rs h) refl
effect_of-other (Ori rs rt imm) c r v h = rw (other_reg c.regs r v rs h) refl
effect_of-other (Xori rs rt imm) c r v h = rw (other_reg c.regs r v rs h) refl
effect_of-other (Lui rt imm) c r v h = refl
effect_of-other (Lb rs rt imm) c r v h = rw (other_reg c.regs r v rs h) refl
effect_of-other (Lh rs rt imm) c r v h = rw (other_reg c.regs r v rs h) refl
effect_of-other (Lw rs rt imm) c r v h = rw (other_reg c.regs r v rs h) refl
effect_of-other (Lbu rs rt imm) c r v h = rw (other_reg c.regs r v rs h) refl
effect_of-other (Lhu rs rt imm) c r v h = rw (other_reg c.regs r v rs h) refl
effect_of-other (Sb rs rt imm) c r v h =
    rw (other_reg c.regs r v rs (or-left (rs == r) (rt == r) h), other_reg c.regs r v rt (or-right (rs == r) (rt == r) h)) refl
effect_of-other (Sh rs rt imm) c r v h =
    rw (other_reg c.regs r v rs (or-left (rs == r) (rt == r) h), other_reg c.regs r v rt (or-right (rs == r) (rt == r) h)) refl
effect_of-other (Sw rs rt imm) c r v h =
    rw (other_reg c.regs r v rs (or-left (rs == r) (rt == r) h), other_reg c.regs r v rt (or-right (rs == r) (rt == r) h)) refl
effect_of-other (Sll rt rd sh) c r v h = rw (other_reg c.regs r v rt h) refl
effect_of-other (Srl rt rd sh) c r v h = rw (other_reg c.regs r v rt h) refl
effect_of-other (Sra rt rd sh) c r v h = rw (other_reg c.regs r v rt h) refl
effect_of-other (Sllv rs rt rd) c r v h =
    rw (other_reg c.regs r v rs (or-left (rs == r) (rt == r) h), other_reg c.regs r v rt (or-right (rs == r) (rt == r) h)) refl
effect_of-other (Srlv rs rt rd) c r v h =
    rw (other_reg c.regs r v rs (or-left (rs == r) (rt == r) h), other_reg c.regs r v rt (or-right (rs == r) (rt == r) h)) refl
effect_of-other (Srav rs rt rd) c r v h =
    rw (other_reg c.regs r v rs (or-left (rs == r) (rt == r) h), other_reg c.regs r v rt (or-right (rs == r) (rt == r) h)) refl
effect_of-other (Jr rs) c r v h = rw (other_reg c.regs r v rs h) refl
effect_of-other (Jalr rs rd) c r v h = rw (other_reg c.regs r v rs h) refl
effect_of-other (Syscall code) c r v h = refl
effect_of-other (Break code) c r v h = refl
effect_of-other (Mfhi rd) c r v h = refl
effect_of-other (Mthi rs) c r v h = rw (other_reg c.regs r v rs h) refl
effect_of-other (Mflo rd) c r v h = refl
effect_of-other (Mtlo rs) c r v h = rw (other_reg c.regs r v rs h) refl
effect_of-other (Mult rs rt) c r v h =
    rw (other_reg c.regs r v rs (or-left (rs == r) (rt == r) h), other_reg c.regs r v rt (or-right (rs == r) (rt == r) h)) refl
effect_of-other (Multu rs rt) c r v h =
    rw (other_reg c.regs r v rs (or-left (rs == r) (rt == r) h), other_reg c.regs r v rt (or-right (rs == r) (rt == r) h)) refl
effect_of-other (Div rs rt) c r v h =
    rw (other_reg c.regs r v rs (or-left (rs == r) (rt == r) h), other_reg c.regs r v rt (or-right (rs == r) (rt == r) h)) refl
effect_of-other (Divu rs rt) c r v h =
    rw (other_reg c.regs r v rs (or-left (rs == r) (rt == r) h), other_reg c.regs r v rt (or-right (rs == r) (rt == r) h)) refl
effect_of-other (Add rs rt rd) c r v h =
    rw (other_reg c.regs r v rs (or-left (rs == r) (rt == r) h), other_reg c.regs r v rt (or-right (rs == r) (rt == r) h)) refl
effect_of-other (Addu rs rt rd) c r v h =
    rw (other_reg c.regs r v rs (or-left (rs == r) (rt == r) h), other_reg c.regs r v rt (or-right (rs == r) (rt == r) h)) refl
effect_of-other (Sub rs rt rd) c r v h =
    rw (other_reg c.regs r v rs (or-left (rs == r) (rt == r) h), other_reg c.regs r v rt (or-right (rs == r) (rt == r) h)) refl
effect_of-other (Subu rs rt rd) c r v h =
    rw (other_reg c.regs r v rs (or-left (rs == r) (rt == r) h), other_reg c.regs r v rt (or-right (rs == r) (rt == r) h)) refl
effect_of-other (And rs rt rd) c r v h =
    rw (other_reg c.regs r v rs (or-left (rs == r) (rt == r) h), other_reg c.regs r v rt (or-right (rs == r) (rt == r) h)) refl
effect_of-other (Or rs rt rd) c r v h =
    rw (other_reg c.regs r v rs (or-left (rs == r) (rt == r) h), other_reg c.regs r v rt (or-right (rs == r) (rt == r) h)) refl
effect_of-other (Xor rs rt rd) c r v h =
    rw (other_reg c.regs r v rs (or-left (rs == r) (rt == r) h), other_reg c.regs r v rt (or-right (rs == r) (rt == r) h)) refl
effect_of-other (Nor rs rt rd) c r v h =
    rw (other_reg c.regs r v rs (or-left (rs == r) (rt == r) h), other_reg c.regs r v rt (or-right (rs == r) (rt == r) h)) refl
effect_of-other (Slt rs rt rd) c r v h =
    rw (other_reg c.regs r v rs (or-left (rs == r) (rt == r) h), other_reg c.regs r v rt (or-right (rs == r) (rt == r) h)) refl
effect_of-other (Sltu rs rt rd) c r v h =
    rw (other_reg c.regs r v rs (or-left (rs == r) (rt == r) h), other_reg c.regs r v rt (or-right (rs == r) (rt == r) h)) refl

-- a system call's argument words and number stand in registers 29 and 1 alone
pub asked-other :
    (c : Core) (r v : ℕ) → (1 == r) ≡ false → (29 == r) ≡ false → asked (with_register c r v) ≡ asked c
asked-other c r v one stack = rw (other_reg c.regs r v 1 one, other_reg c.regs r v 29 stack) refl

-- Calls come of SYSCALL alone

abbrev pub IsSyscall : Inst → Type 0
IsSyscall (Syscall code) = Unit {0}
IsSyscall _ = ⊥

pub choice-no_call : (b : Bool) (x y : Effect) → (x ≡ effects.Call → ⊥) → (y ≡ effects.Call → ⊥) → (if b then x else y) ≡ effects.Call → ⊥
choice-no_call true x y hx hy e = hx e
choice-no_call false x y hx hy e = hy e

pub stop-no_call : (cause : HaltCause) → effects.Stop cause ≡ effects.Call → ⊥
stop-no_call cause e = cc

pub write-no_call : (r v : ℕ) → effects.Write r v ≡ effects.Call → ⊥
write-no_call r v e = cc

pub load-no_call : (r v : ℕ) → effects.Load r v ≡ effects.Call → ⊥
load-no_call r v e = cc

pub pair-no_call : (h l : ℕ) → effects.Pair h l ≡ effects.Call → ⊥
pair-no_call h l e = cc

pub byte-no_call : (a v : ℕ) → effects.StoreByte a v ≡ effects.Call → ⊥
byte-no_call a v e = cc

pub half-no_call : (a v : ℕ) → effects.StoreHalf a v ≡ effects.Call → ⊥
half-no_call a v e = cc

pub word-no_call : (a v : ℕ) → effects.StoreWord a v ≡ effects.Call → ⊥
word-no_call a v e = cc

pub call_of-syscall : (i : Inst) (c : Core) → effect_of i c ≡ effects.Call → IsSyscall i
call_of-syscall (J index) c e = cc
call_of-syscall (Jal index) c e = cc
call_of-syscall (Beq rs rt imm) c e = cc
call_of-syscall (Bne rs rt imm) c e = cc
call_of-syscall (Blez rs imm) c e = cc
call_of-syscall (Bgtz rs imm) c e = cc
call_of-syscall (Bltz rs imm) c e = cc
call_of-syscall (Bgez rs imm) c e = cc
call_of-syscall (Bltzal rs imm) c e = cc
call_of-syscall (Bgezal rs imm) c e = cc
call_of-syscall (Addi rs rt imm) c e = absurd (search (choice-no_call, stop-no_call, write-no_call, load-no_call, pair-no_call, byte-no_call, half-no_call, word-no_call, e))
call_of-syscall (Addiu rs rt imm) c e = cc
call_of-syscall (Slti rs rt imm) c e = cc
call_of-syscall (Sltiu rs rt imm) c e = cc
call_of-syscall (Andi rs rt imm) c e = cc
call_of-syscall (Ori rs rt imm) c e = cc
call_of-syscall (Xori rs rt imm) c e = cc
call_of-syscall (Lui rt imm) c e = cc
call_of-syscall (Lb rs rt imm) c e = absurd (search (choice-no_call, stop-no_call, write-no_call, load-no_call, pair-no_call, byte-no_call, half-no_call, word-no_call, e))
call_of-syscall (Lh rs rt imm) c e = absurd (search (choice-no_call, stop-no_call, write-no_call, load-no_call, pair-no_call, byte-no_call, half-no_call, word-no_call, e))
call_of-syscall (Lw rs rt imm) c e = absurd (search (choice-no_call, stop-no_call, write-no_call, load-no_call, pair-no_call, byte-no_call, half-no_call, word-no_call, e))
call_of-syscall (Lbu rs rt imm) c e = absurd (search (choice-no_call, stop-no_call, write-no_call, load-no_call, pair-no_call, byte-no_call, half-no_call, word-no_call, e))
call_of-syscall (Lhu rs rt imm) c e = absurd (search (choice-no_call, stop-no_call, write-no_call, load-no_call, pair-no_call, byte-no_call, half-no_call, word-no_call, e))
call_of-syscall (Sb rs rt imm) c e = absurd (search (choice-no_call, stop-no_call, write-no_call, load-no_call, pair-no_call, byte-no_call, half-no_call, word-no_call, e))
call_of-syscall (Sh rs rt imm) c e = absurd (search (choice-no_call, stop-no_call, write-no_call, load-no_call, pair-no_call, byte-no_call, half-no_call, word-no_call, e))
call_of-syscall (Sw rs rt imm) c e = absurd (search (choice-no_call, stop-no_call, write-no_call, load-no_call, pair-no_call, byte-no_call, half-no_call, word-no_call, e))
call_of-syscall (Sll rt rd sh) c e = cc
call_of-syscall (Srl rt rd sh) c e = cc
call_of-syscall (Sra rt rd sh) c e = cc
call_of-syscall (Sllv rs rt rd) c e = cc
call_of-syscall (Srlv rs rt rd) c e = cc
call_of-syscall (Srav rs rt rd) c e = cc
call_of-syscall (Jr rs) c e = cc
call_of-syscall (Jalr rs rd) c e = cc
call_of-syscall (Syscall code) c e = tt
call_of-syscall (Break code) c e = cc
call_of-syscall (Mfhi rd) c e = cc
call_of-syscall (Mthi rs) c e = cc
call_of-syscall (Mflo rd) c e = cc
call_of-syscall (Mtlo rs) c e = cc
call_of-syscall (Mult rs rt) c e = cc
call_of-syscall (Multu rs rt) c e = cc
call_of-syscall (Div rs rt) c e = absurd (search (choice-no_call, stop-no_call, write-no_call, load-no_call, pair-no_call, byte-no_call, half-no_call, word-no_call, e))
call_of-syscall (Divu rs rt) c e = absurd (search (choice-no_call, stop-no_call, write-no_call, load-no_call, pair-no_call, byte-no_call, half-no_call, word-no_call, e))
call_of-syscall (Add rs rt rd) c e = absurd (search (choice-no_call, stop-no_call, write-no_call, load-no_call, pair-no_call, byte-no_call, half-no_call, word-no_call, e))
call_of-syscall (Addu rs rt rd) c e = cc
call_of-syscall (Sub rs rt rd) c e = absurd (search (choice-no_call, stop-no_call, write-no_call, load-no_call, pair-no_call, byte-no_call, half-no_call, word-no_call, e))
call_of-syscall (Subu rs rt rd) c e = cc
call_of-syscall (And rs rt rd) c e = cc
call_of-syscall (Or rs rt rd) c e = cc
call_of-syscall (Xor rs rt rd) c e = cc
call_of-syscall (Nor rs rt rd) c e = cc
call_of-syscall (Slt rs rt rd) c e = cc
call_of-syscall (Sltu rs rt rd) c e = cc

-- The instruction at the pc doesn't depend on registers, and doesn't read one that was just loaded

pub without_hazard-other :
    (o : Option Inst) (c : Core) (r v : ℕ) → without_hazard o (with_register c r v) ≡ without_hazard o c
without_hazard-other None c r v = refl
without_hazard-other (Some i) c r v = refl

pub fetched-other : (c : Core) (r v : ℕ) → fetched (with_register c r v) ≡ fetched c
unfolding fetched
fetched-other c r v =
    ap (λ (x : Result Inst HaltCause). if in_text c then x else Err Fetch)
    (without_hazard-other (decoded (read_word c c.pc)) c r v)

abbrev pub Quiet : Inst → Core → Type 0
Quiet i c = (not (c.loaded == 0) && reads i c.loaded) ≡ false

pub three_tests :
    (a b d : Bool) (x y z : HaltCause) (i j : Inst) →
    (let r : Result Inst HaltCause = (if a then Err x else if b then Err y else if d then Err z else Ok j) in r ≡ Ok i) →
    (a ≡ false) × (j ≡ i)
three_tests true b d x y z i j e = cc
three_tests false true d x y z i j e = cc
three_tests false false true x y z i j e = cc
three_tests false false false x y z i j e = (refl, cc)

pub without_hazard-quiet : (o : Option Inst) (c : Core) (i : Inst) → without_hazard o c ≡ Ok i → Quiet i c
without_hazard-quiet None c i e = cc
without_hazard-quiet (Some j) c i e =
    let h : ((not (c.loaded == 0) && reads j c.loaded) ≡ false) × (j ≡ i) =
    three_tests (not (c.loaded == 0) && reads j c.loaded) (writes_pair j && (c.used || c.used_before)) (c.slot && branches j)
    LoadHazard HiLoHazard SlotBranch i j e in
    let P : Inst → Type 0 = λ k. Quiet k c in
    subst P h.1 h.0

pub choice-quiet : (b : Bool) (o : Option Inst) (c : Core) (i : Inst) (x : HaltCause) →
    (let r : Result Inst HaltCause = (if b then without_hazard o c else Err x) in r ≡ Ok i) → Quiet i c
choice-quiet true o c i x e = without_hazard-quiet o c i e
choice-quiet false o c i x e = cc

pub fetched-quiet : (c : Core) (i : Inst) → fetched c ≡ Ok i → Quiet i c
unfolding fetched
fetched-quiet c i e = choice-quiet (in_text c) (decoded (read_word c c.pc)) c i Fetch e
