-- Which effects each instruction may have.
use Rattle.std.proofs.Common.{◌&&◌, ◌≡◌, inl, inr, Bool, true, false, refl, if◌then◌else◌}
use Rattle.p9_base.specs.declared.halt.Effect.{Effect}
use Rattle.p9_r3k.specs.declared.inst.Inst.{Inst}
use Rattle.p9_r3k.specs.declared.inst.Inst.TheVariants.{J, Jal, Beq, Bne, Blez, Bgtz, Bltz, Bgez, Bltzal, Bgezal, Addi, Addiu, Slti, Sltiu, Andi, Ori, Xori, Lui, Lb, Lh, Lw, Lbu, Lhu, Sb, Sh, Sw, Sll, Srl, Sra, Sllv, Srlv, Srav, Jr, Jalr, Syscall, Break, Mfhi, Mthi, Mflo, Mtlo, Mult, Multu, Div, Divu, Add, Addu, Sub, Subu, And, Or, Xor, Nor, Slt, Sltu}
use Rattle.p9_base.specs.Core.{Core}
use Rattle.p9_r3k.specs.Effects.{effect_of, reads_pair, writes_pair, branches}
use Rattle.p9_r3k.specs.Uses.{loads, stores, links, delays}
use Rattle.p9_r3k.specs.UseLaws.{MayDo}

pub may_choose : (i : Inst) (b : Bool) (x y : Effect) → MayDo i x → MayDo i y → MayDo i (if b then x else y)
may_choose i true x y hx hy = hx
may_choose i false x y hx hy = hy

pub does_what_it_may : (i : Inst) (c : Core) → MayDo i (effect_of i c)
does_what_it_may (J index) c = (refl, refl, refl, inr refl, refl)
does_what_it_may (Jal index) c = (refl, refl, refl, inl refl, refl)
does_what_it_may (Beq rs rt imm) c = (refl, refl, refl, inr refl, refl)
does_what_it_may (Bne rs rt imm) c = (refl, refl, refl, inr refl, refl)
does_what_it_may (Blez rs imm) c = (refl, refl, refl, inr refl, refl)
does_what_it_may (Bgtz rs imm) c = (refl, refl, refl, inr refl, refl)
does_what_it_may (Bltz rs imm) c = (refl, refl, refl, inr refl, refl)
does_what_it_may (Bgez rs imm) c = (refl, refl, refl, inr refl, refl)
does_what_it_may (Bltzal rs imm) c = (refl, refl, refl, inl refl, refl)
does_what_it_may (Bgezal rs imm) c = (refl, refl, refl, inl refl, refl)
does_what_it_may (Addi rs rt imm) c = search (may_choose)
does_what_it_may (Addiu rs rt imm) c = (refl, refl, refl)
does_what_it_may (Slti rs rt imm) c = (refl, refl, refl)
does_what_it_may (Sltiu rs rt imm) c = (refl, refl, refl)
does_what_it_may (Andi rs rt imm) c = (refl, refl, refl)
does_what_it_may (Ori rs rt imm) c = (refl, refl, refl)
does_what_it_may (Xori rs rt imm) c = (refl, refl, refl)
does_what_it_may (Lui rt imm) c = (refl, refl, refl)
does_what_it_may (Lb rs rt imm) c = search (may_choose)
does_what_it_may (Lh rs rt imm) c = search (may_choose)
does_what_it_may (Lw rs rt imm) c = search (may_choose)
does_what_it_may (Lbu rs rt imm) c = search (may_choose)
does_what_it_may (Lhu rs rt imm) c = search (may_choose)
does_what_it_may (Sb rs rt imm) c = search (may_choose)
does_what_it_may (Sh rs rt imm) c = search (may_choose)
does_what_it_may (Sw rs rt imm) c = search (may_choose)
does_what_it_may (Sll rt rd sh) c = (refl, refl, refl)
does_what_it_may (Srl rt rd sh) c = (refl, refl, refl)
does_what_it_may (Sra rt rd sh) c = (refl, refl, refl)
does_what_it_may (Sllv rs rt rd) c = (refl, refl, refl)
does_what_it_may (Srlv rs rt rd) c = (refl, refl, refl)
does_what_it_may (Srav rs rt rd) c = (refl, refl, refl)
does_what_it_may (Jr rs) c = (refl, refl, refl, inr refl, refl)
does_what_it_may (Jalr rs rd) c = (refl, refl, refl, inl refl, refl)
does_what_it_may (Syscall code) c = (refl, refl)
does_what_it_may (Break code) c = tt
does_what_it_may (Mfhi rd) c = (refl, refl, refl)
does_what_it_may (Mthi rs) c = (refl, refl, refl)
does_what_it_may (Mflo rd) c = (refl, refl, refl)
does_what_it_may (Mtlo rs) c = (refl, refl, refl)
does_what_it_may (Mult rs rt) c = (refl, refl, refl)
does_what_it_may (Multu rs rt) c = (refl, refl, refl)
does_what_it_may (Div rs rt) c = search (may_choose)
does_what_it_may (Divu rs rt) c = search (may_choose)
does_what_it_may (Add rs rt rd) c = search (may_choose)
does_what_it_may (Addu rs rt rd) c = (refl, refl, refl)
does_what_it_may (Sub rs rt rd) c = search (may_choose)
does_what_it_may (Subu rs rt rd) c = (refl, refl, refl)
does_what_it_may (And rs rt rd) c = (refl, refl, refl)
does_what_it_may (Or rs rt rd) c = (refl, refl, refl)
does_what_it_may (Xor rs rt rd) c = (refl, refl, refl)
does_what_it_may (Nor rs rt rd) c = (refl, refl, refl)
does_what_it_may (Slt rs rt rd) c = (refl, refl, refl)
does_what_it_may (Sltu rs rt rd) c = (refl, refl, refl)

-- what writes HI or LO has no delay
pub writers_are_quick : (i : Inst) → (writes_pair i && delays i) ≡ false
writers_are_quick (J index) = refl
writers_are_quick (Jal index) = refl
writers_are_quick (Beq rs rt imm) = refl
writers_are_quick (Bne rs rt imm) = refl
writers_are_quick (Blez rs imm) = refl
writers_are_quick (Bgtz rs imm) = refl
writers_are_quick (Bltz rs imm) = refl
writers_are_quick (Bgez rs imm) = refl
writers_are_quick (Bltzal rs imm) = refl
writers_are_quick (Bgezal rs imm) = refl
writers_are_quick (Addi rs rt imm) = refl
writers_are_quick (Addiu rs rt imm) = refl
writers_are_quick (Slti rs rt imm) = refl
writers_are_quick (Sltiu rs rt imm) = refl
writers_are_quick (Andi rs rt imm) = refl
writers_are_quick (Ori rs rt imm) = refl
writers_are_quick (Xori rs rt imm) = refl
writers_are_quick (Lui rt imm) = refl
writers_are_quick (Lb rs rt imm) = refl
writers_are_quick (Lh rs rt imm) = refl
writers_are_quick (Lw rs rt imm) = refl
writers_are_quick (Lbu rs rt imm) = refl
writers_are_quick (Lhu rs rt imm) = refl
writers_are_quick (Sb rs rt imm) = refl
writers_are_quick (Sh rs rt imm) = refl
writers_are_quick (Sw rs rt imm) = refl
writers_are_quick (Sll rt rd sh) = refl
writers_are_quick (Srl rt rd sh) = refl
writers_are_quick (Sra rt rd sh) = refl
writers_are_quick (Sllv rs rt rd) = refl
writers_are_quick (Srlv rs rt rd) = refl
writers_are_quick (Srav rs rt rd) = refl
writers_are_quick (Jr rs) = refl
writers_are_quick (Jalr rs rd) = refl
writers_are_quick (Syscall code) = refl
writers_are_quick (Break code) = refl
writers_are_quick (Mfhi rd) = refl
writers_are_quick (Mthi rs) = refl
writers_are_quick (Mflo rd) = refl
writers_are_quick (Mtlo rs) = refl
writers_are_quick (Mult rs rt) = refl
writers_are_quick (Multu rs rt) = refl
writers_are_quick (Div rs rt) = refl
writers_are_quick (Divu rs rt) = refl
writers_are_quick (Add rs rt rd) = refl
writers_are_quick (Addu rs rt rd) = refl
writers_are_quick (Sub rs rt rd) = refl
writers_are_quick (Subu rs rt rd) = refl
writers_are_quick (And rs rt rd) = refl
writers_are_quick (Or rs rt rd) = refl
writers_are_quick (Xor rs rt rd) = refl
writers_are_quick (Nor rs rt rd) = refl
writers_are_quick (Slt rs rt rd) = refl
writers_are_quick (Sltu rs rt rd) = refl

-- what reads HI or LO has no delay
pub readers_are_quick : (i : Inst) → (reads_pair i && delays i) ≡ false
readers_are_quick (J index) = refl
readers_are_quick (Jal index) = refl
readers_are_quick (Beq rs rt imm) = refl
readers_are_quick (Bne rs rt imm) = refl
readers_are_quick (Blez rs imm) = refl
readers_are_quick (Bgtz rs imm) = refl
readers_are_quick (Bltz rs imm) = refl
readers_are_quick (Bgez rs imm) = refl
readers_are_quick (Bltzal rs imm) = refl
readers_are_quick (Bgezal rs imm) = refl
readers_are_quick (Addi rs rt imm) = refl
readers_are_quick (Addiu rs rt imm) = refl
readers_are_quick (Slti rs rt imm) = refl
readers_are_quick (Sltiu rs rt imm) = refl
readers_are_quick (Andi rs rt imm) = refl
readers_are_quick (Ori rs rt imm) = refl
readers_are_quick (Xori rs rt imm) = refl
readers_are_quick (Lui rt imm) = refl
readers_are_quick (Lb rs rt imm) = refl
readers_are_quick (Lh rs rt imm) = refl
readers_are_quick (Lw rs rt imm) = refl
readers_are_quick (Lbu rs rt imm) = refl
readers_are_quick (Lhu rs rt imm) = refl
readers_are_quick (Sb rs rt imm) = refl
readers_are_quick (Sh rs rt imm) = refl
readers_are_quick (Sw rs rt imm) = refl
readers_are_quick (Sll rt rd sh) = refl
readers_are_quick (Srl rt rd sh) = refl
readers_are_quick (Sra rt rd sh) = refl
readers_are_quick (Sllv rs rt rd) = refl
readers_are_quick (Srlv rs rt rd) = refl
readers_are_quick (Srav rs rt rd) = refl
readers_are_quick (Jr rs) = refl
readers_are_quick (Jalr rs rd) = refl
readers_are_quick (Syscall code) = refl
readers_are_quick (Break code) = refl
readers_are_quick (Mfhi rd) = refl
readers_are_quick (Mthi rs) = refl
readers_are_quick (Mflo rd) = refl
readers_are_quick (Mtlo rs) = refl
readers_are_quick (Mult rs rt) = refl
readers_are_quick (Multu rs rt) = refl
readers_are_quick (Div rs rt) = refl
readers_are_quick (Divu rs rt) = refl
readers_are_quick (Add rs rt rd) = refl
readers_are_quick (Addu rs rt rd) = refl
readers_are_quick (Sub rs rt rd) = refl
readers_are_quick (Subu rs rt rd) = refl
readers_are_quick (And rs rt rd) = refl
readers_are_quick (Or rs rt rd) = refl
readers_are_quick (Xor rs rt rd) = refl
readers_are_quick (Nor rs rt rd) = refl
readers_are_quick (Slt rs rt rd) = refl
readers_are_quick (Sltu rs rt rd) = refl

-- a call has a delay, and doesn't read HI or LO
pub calls_delay : (i : Inst) → links i ≡ true → (delays i ≡ true) × (reads_pair i ≡ false)
calls_delay (J index) h = absurd (let z : false ≡ true = h in cc)
calls_delay (Jal index) h = (refl, refl)
calls_delay (Beq rs rt imm) h = absurd (let z : false ≡ true = h in cc)
calls_delay (Bne rs rt imm) h = absurd (let z : false ≡ true = h in cc)
calls_delay (Blez rs imm) h = absurd (let z : false ≡ true = h in cc)
calls_delay (Bgtz rs imm) h = absurd (let z : false ≡ true = h in cc)
calls_delay (Bltz rs imm) h = absurd (let z : false ≡ true = h in cc)
calls_delay (Bgez rs imm) h = absurd (let z : false ≡ true = h in cc)
calls_delay (Bltzal rs imm) h = (refl, refl)
calls_delay (Bgezal rs imm) h = (refl, refl)
calls_delay (Addi rs rt imm) h = absurd (let z : false ≡ true = h in cc)
calls_delay (Addiu rs rt imm) h = absurd (let z : false ≡ true = h in cc)
calls_delay (Slti rs rt imm) h = absurd (let z : false ≡ true = h in cc)
calls_delay (Sltiu rs rt imm) h = absurd (let z : false ≡ true = h in cc)
calls_delay (Andi rs rt imm) h = absurd (let z : false ≡ true = h in cc)
calls_delay (Ori rs rt imm) h = absurd (let z : false ≡ true = h in cc)
calls_delay (Xori rs rt imm) h = absurd (let z : false ≡ true = h in cc)
calls_delay (Lui rt imm) h = absurd (let z : false ≡ true = h in cc)
calls_delay (Lb rs rt imm) h = absurd (let z : false ≡ true = h in cc)
calls_delay (Lh rs rt imm) h = absurd (let z : false ≡ true = h in cc)
calls_delay (Lw rs rt imm) h = absurd (let z : false ≡ true = h in cc)
calls_delay (Lbu rs rt imm) h = absurd (let z : false ≡ true = h in cc)
calls_delay (Lhu rs rt imm) h = absurd (let z : false ≡ true = h in cc)
calls_delay (Sb rs rt imm) h = absurd (let z : false ≡ true = h in cc)
calls_delay (Sh rs rt imm) h = absurd (let z : false ≡ true = h in cc)
calls_delay (Sw rs rt imm) h = absurd (let z : false ≡ true = h in cc)
calls_delay (Sll rt rd sh) h = absurd (let z : false ≡ true = h in cc)
calls_delay (Srl rt rd sh) h = absurd (let z : false ≡ true = h in cc)
calls_delay (Sra rt rd sh) h = absurd (let z : false ≡ true = h in cc)
calls_delay (Sllv rs rt rd) h = absurd (let z : false ≡ true = h in cc)
calls_delay (Srlv rs rt rd) h = absurd (let z : false ≡ true = h in cc)
calls_delay (Srav rs rt rd) h = absurd (let z : false ≡ true = h in cc)
calls_delay (Jr rs) h = absurd (let z : false ≡ true = h in cc)
calls_delay (Jalr rs rd) h = (refl, refl)
calls_delay (Syscall code) h = absurd (let z : false ≡ true = h in cc)
calls_delay (Break code) h = absurd (let z : false ≡ true = h in cc)
calls_delay (Mfhi rd) h = absurd (let z : false ≡ true = h in cc)
calls_delay (Mthi rs) h = absurd (let z : false ≡ true = h in cc)
calls_delay (Mflo rd) h = absurd (let z : false ≡ true = h in cc)
calls_delay (Mtlo rs) h = absurd (let z : false ≡ true = h in cc)
calls_delay (Mult rs rt) h = absurd (let z : false ≡ true = h in cc)
calls_delay (Multu rs rt) h = absurd (let z : false ≡ true = h in cc)
calls_delay (Div rs rt) h = absurd (let z : false ≡ true = h in cc)
calls_delay (Divu rs rt) h = absurd (let z : false ≡ true = h in cc)
calls_delay (Add rs rt rd) h = absurd (let z : false ≡ true = h in cc)
calls_delay (Addu rs rt rd) h = absurd (let z : false ≡ true = h in cc)
calls_delay (Sub rs rt rd) h = absurd (let z : false ≡ true = h in cc)
calls_delay (Subu rs rt rd) h = absurd (let z : false ≡ true = h in cc)
calls_delay (And rs rt rd) h = absurd (let z : false ≡ true = h in cc)
calls_delay (Or rs rt rd) h = absurd (let z : false ≡ true = h in cc)
calls_delay (Xor rs rt rd) h = absurd (let z : false ≡ true = h in cc)
calls_delay (Nor rs rt rd) h = absurd (let z : false ≡ true = h in cc)
calls_delay (Slt rs rt rd) h = absurd (let z : false ≡ true = h in cc)
calls_delay (Sltu rs rt rd) h = absurd (let z : false ≡ true = h in cc)

-- a call is a branch or jump
pub calls_branch : (i : Inst) → links i ≡ true → branches i ≡ true
calls_branch (J index) h = refl
calls_branch (Jal index) h = refl
calls_branch (Beq rs rt imm) h = refl
calls_branch (Bne rs rt imm) h = refl
calls_branch (Blez rs imm) h = refl
calls_branch (Bgtz rs imm) h = refl
calls_branch (Bltz rs imm) h = refl
calls_branch (Bgez rs imm) h = refl
calls_branch (Bltzal rs imm) h = refl
calls_branch (Bgezal rs imm) h = refl
calls_branch (Addi rs rt imm) h = h
calls_branch (Addiu rs rt imm) h = h
calls_branch (Slti rs rt imm) h = h
calls_branch (Sltiu rs rt imm) h = h
calls_branch (Andi rs rt imm) h = h
calls_branch (Ori rs rt imm) h = h
calls_branch (Xori rs rt imm) h = h
calls_branch (Lui rt imm) h = h
calls_branch (Lb rs rt imm) h = h
calls_branch (Lh rs rt imm) h = h
calls_branch (Lw rs rt imm) h = h
calls_branch (Lbu rs rt imm) h = h
calls_branch (Lhu rs rt imm) h = h
calls_branch (Sb rs rt imm) h = h
calls_branch (Sh rs rt imm) h = h
calls_branch (Sw rs rt imm) h = h
calls_branch (Sll rt rd sh) h = h
calls_branch (Srl rt rd sh) h = h
calls_branch (Sra rt rd sh) h = h
calls_branch (Sllv rs rt rd) h = h
calls_branch (Srlv rs rt rd) h = h
calls_branch (Srav rs rt rd) h = h
calls_branch (Jr rs) h = refl
calls_branch (Jalr rs rd) h = refl
calls_branch (Syscall code) h = h
calls_branch (Break code) h = h
calls_branch (Mfhi rd) h = h
calls_branch (Mthi rs) h = h
calls_branch (Mflo rd) h = h
calls_branch (Mtlo rs) h = h
calls_branch (Mult rs rt) h = h
calls_branch (Multu rs rt) h = h
calls_branch (Div rs rt) h = h
calls_branch (Divu rs rt) h = h
calls_branch (Add rs rt rd) h = h
calls_branch (Addu rs rt rd) h = h
calls_branch (Sub rs rt rd) h = h
calls_branch (Subu rs rt rd) h = h
calls_branch (And rs rt rd) h = h
calls_branch (Or rs rt rd) h = h
calls_branch (Xor rs rt rd) h = h
calls_branch (Nor rs rt rd) h = h
calls_branch (Slt rs rt rd) h = h
calls_branch (Sltu rs rt rd) h = h

-- a load is no branch or jump
pub loads_are_no_branches : (i : Inst) → (loads i && branches i) ≡ false
loads_are_no_branches (J index) = refl
loads_are_no_branches (Jal index) = refl
loads_are_no_branches (Beq rs rt imm) = refl
loads_are_no_branches (Bne rs rt imm) = refl
loads_are_no_branches (Blez rs imm) = refl
loads_are_no_branches (Bgtz rs imm) = refl
loads_are_no_branches (Bltz rs imm) = refl
loads_are_no_branches (Bgez rs imm) = refl
loads_are_no_branches (Bltzal rs imm) = refl
loads_are_no_branches (Bgezal rs imm) = refl
loads_are_no_branches (Addi rs rt imm) = refl
loads_are_no_branches (Addiu rs rt imm) = refl
loads_are_no_branches (Slti rs rt imm) = refl
loads_are_no_branches (Sltiu rs rt imm) = refl
loads_are_no_branches (Andi rs rt imm) = refl
loads_are_no_branches (Ori rs rt imm) = refl
loads_are_no_branches (Xori rs rt imm) = refl
loads_are_no_branches (Lui rt imm) = refl
loads_are_no_branches (Lb rs rt imm) = refl
loads_are_no_branches (Lh rs rt imm) = refl
loads_are_no_branches (Lw rs rt imm) = refl
loads_are_no_branches (Lbu rs rt imm) = refl
loads_are_no_branches (Lhu rs rt imm) = refl
loads_are_no_branches (Sb rs rt imm) = refl
loads_are_no_branches (Sh rs rt imm) = refl
loads_are_no_branches (Sw rs rt imm) = refl
loads_are_no_branches (Sll rt rd sh) = refl
loads_are_no_branches (Srl rt rd sh) = refl
loads_are_no_branches (Sra rt rd sh) = refl
loads_are_no_branches (Sllv rs rt rd) = refl
loads_are_no_branches (Srlv rs rt rd) = refl
loads_are_no_branches (Srav rs rt rd) = refl
loads_are_no_branches (Jr rs) = refl
loads_are_no_branches (Jalr rs rd) = refl
loads_are_no_branches (Syscall code) = refl
loads_are_no_branches (Break code) = refl
loads_are_no_branches (Mfhi rd) = refl
loads_are_no_branches (Mthi rs) = refl
loads_are_no_branches (Mflo rd) = refl
loads_are_no_branches (Mtlo rs) = refl
loads_are_no_branches (Mult rs rt) = refl
loads_are_no_branches (Multu rs rt) = refl
loads_are_no_branches (Div rs rt) = refl
loads_are_no_branches (Divu rs rt) = refl
loads_are_no_branches (Add rs rt rd) = refl
loads_are_no_branches (Addu rs rt rd) = refl
loads_are_no_branches (Sub rs rt rd) = refl
loads_are_no_branches (Subu rs rt rd) = refl
loads_are_no_branches (And rs rt rd) = refl
loads_are_no_branches (Or rs rt rd) = refl
loads_are_no_branches (Xor rs rt rd) = refl
loads_are_no_branches (Nor rs rt rd) = refl
loads_are_no_branches (Slt rs rt rd) = refl
loads_are_no_branches (Sltu rs rt rd) = refl

-- a store has no delay
pub stores_are_quick : (i : Inst) → (stores i && delays i) ≡ false
stores_are_quick (J index) = refl
stores_are_quick (Jal index) = refl
stores_are_quick (Beq rs rt imm) = refl
stores_are_quick (Bne rs rt imm) = refl
stores_are_quick (Blez rs imm) = refl
stores_are_quick (Bgtz rs imm) = refl
stores_are_quick (Bltz rs imm) = refl
stores_are_quick (Bgez rs imm) = refl
stores_are_quick (Bltzal rs imm) = refl
stores_are_quick (Bgezal rs imm) = refl
stores_are_quick (Addi rs rt imm) = refl
stores_are_quick (Addiu rs rt imm) = refl
stores_are_quick (Slti rs rt imm) = refl
stores_are_quick (Sltiu rs rt imm) = refl
stores_are_quick (Andi rs rt imm) = refl
stores_are_quick (Ori rs rt imm) = refl
stores_are_quick (Xori rs rt imm) = refl
stores_are_quick (Lui rt imm) = refl
stores_are_quick (Lb rs rt imm) = refl
stores_are_quick (Lh rs rt imm) = refl
stores_are_quick (Lw rs rt imm) = refl
stores_are_quick (Lbu rs rt imm) = refl
stores_are_quick (Lhu rs rt imm) = refl
stores_are_quick (Sb rs rt imm) = refl
stores_are_quick (Sh rs rt imm) = refl
stores_are_quick (Sw rs rt imm) = refl
stores_are_quick (Sll rt rd sh) = refl
stores_are_quick (Srl rt rd sh) = refl
stores_are_quick (Sra rt rd sh) = refl
stores_are_quick (Sllv rs rt rd) = refl
stores_are_quick (Srlv rs rt rd) = refl
stores_are_quick (Srav rs rt rd) = refl
stores_are_quick (Jr rs) = refl
stores_are_quick (Jalr rs rd) = refl
stores_are_quick (Syscall code) = refl
stores_are_quick (Break code) = refl
stores_are_quick (Mfhi rd) = refl
stores_are_quick (Mthi rs) = refl
stores_are_quick (Mflo rd) = refl
stores_are_quick (Mtlo rs) = refl
stores_are_quick (Mult rs rt) = refl
stores_are_quick (Multu rs rt) = refl
stores_are_quick (Div rs rt) = refl
stores_are_quick (Divu rs rt) = refl
stores_are_quick (Add rs rt rd) = refl
stores_are_quick (Addu rs rt rd) = refl
stores_are_quick (Sub rs rt rd) = refl
stores_are_quick (Subu rs rt rd) = refl
stores_are_quick (And rs rt rd) = refl
stores_are_quick (Or rs rt rd) = refl
stores_are_quick (Xor rs rt rd) = refl
stores_are_quick (Nor rs rt rd) = refl
stores_are_quick (Slt rs rt rd) = refl
stores_are_quick (Sltu rs rt rd) = refl
