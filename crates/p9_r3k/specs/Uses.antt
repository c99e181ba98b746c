-- What an instruction reads and writes, beside what the hazards ask: a row of the R3000's table each.
use Rattle.std.specs.Prelude.{ℕ, ◌||◌, Bool, true, false}
use Rattle.p9_r3k.specs.declared.inst.Inst.{Inst}
use Rattle.p9_r3k.specs.declared.inst.Inst.TheVariants.{J, Jal, Beq, Bne, Blez, Bgtz, Bltz, Bgez, Bltzal, Bgezal, Addi, Addiu, Slti, Sltiu, Andi, Ori, Xori, Lui, Lb, Lh, Lw, Lbu, Lhu, Sb, Sh, Sw, Sll, Srl, Sra, Sllv, Srlv, Srav, Jr, Jalr, Syscall, Break, Mfhi, Mthi, Mflo, Mtlo, Mult, Multu, Div, Divu, Add, Addu, Sub, Subu, And, Or, Xor, Nor, Slt, Sltu}
use Rattle.p9_r3k.specs.Effects.{branches}

-- the register that an instruction writes, or 0: register 0 is never written
abbrev pub written : Inst → ℕ
written (J index) = 0
written (Jal index) = 31
written (Beq rs rt imm) = 0
written (Bne rs rt imm) = 0
written (Blez rs imm) = 0
written (Bgtz rs imm) = 0
written (Bltz rs imm) = 0
written (Bgez rs imm) = 0
written (Bltzal rs imm) = 31
written (Bgezal rs imm) = 31
written (Addi rs rt imm) = rt
written (Addiu rs rt imm) = rt
written (Slti rs rt imm) = rt
written (Sltiu rs rt imm) = rt
written (Andi rs rt imm) = rt
written (Ori rs rt imm) = rt
written (Xori rs rt imm) = rt
written (Lui rt imm) = rt
written (Lb rs rt imm) = rt
written (Lh rs rt imm) = rt
written (Lw rs rt imm) = rt
written (Lbu rs rt imm) = rt
written (Lhu rs rt imm) = rt
written (Sb rs rt imm) = 0
written (Sh rs rt imm) = 0
written (Sw rs rt imm) = 0
written (Sll rt rd sh) = rd
written (Srl rt rd sh) = rd
written (Sra rt rd sh) = rd
written (Sllv rs rt rd) = rd
written (Srlv rs rt rd) = rd
written (Srav rs rt rd) = rd
written (Jr rs) = 0
written (Jalr rs rd) = rd
written (Syscall code) = 1
written (Break code) = 0
written (Mfhi rd) = rd
written (Mthi rs) = 0
written (Mflo rd) = rd
written (Mtlo rs) = 0
written (Mult rs rt) = 0
written (Multu rs rt) = 0
written (Div rs rt) = 0
written (Divu rs rt) = 0
written (Add rs rt rd) = rd
written (Addu rs rt rd) = rd
written (Sub rs rt rd) = rd
written (Subu rs rt rd) = rd
written (And rs rt rd) = rd
written (Or rs rt rd) = rd
written (Xor rs rt rd) = rd
written (Nor rs rt rd) = rd
written (Slt rs rt rd) = rd
written (Sltu rs rt rd) = rd

-- whether an instruction is a load
abbrev pub loads : Inst → Bool
loads (Lb rs rt imm) = true
loads (Lh rs rt imm) = true
loads (Lw rs rt imm) = true
loads (Lbu rs rt imm) = true
loads (Lhu rs rt imm) = true
loads _ = false

-- whether an instruction is a store
abbrev pub stores : Inst → Bool
stores (Sb rs rt imm) = true
stores (Sh rs rt imm) = true
stores (Sw rs rt imm) = true
stores _ = false

-- whether an instruction is a call: a register gets the address of the instruction after the slot
abbrev pub links : Inst → Bool
links (Jal index) = true
links (Bltzal rs imm) = true
links (Bgezal rs imm) = true
links (Jalr rs rd) = true
links _ = false

-- whether an instruction is a system call
abbrev pub is_system_call : Inst → Bool
is_system_call (Syscall code) = true
is_system_call _ = false

-- whether an instruction is a branch or jump whose word names the place that it goes to
abbrev pub names_place : Inst → Bool
names_place (J index) = true
names_place (Jal index) = true
names_place (Beq rs rt imm) = true
names_place (Bne rs rt imm) = true
names_place (Blez rs imm) = true
names_place (Bgtz rs imm) = true
names_place (Bltz rs imm) = true
names_place (Bgez rs imm) = true
names_place (Bltzal rs imm) = true
names_place (Bgezal rs imm) = true
names_place _ = false

-- whether the next instruction comes in an instruction's delay
abbrev pub delays : Inst → Bool
delays i = branches i || loads i

-- Of HI and LO an instruction needs the half that it reads, and the half that it leaves as it is.

-- whether what an instruction does rests on HI
abbrev pub needs_hi : Inst → Bool
needs_hi (Mfhi rd) = true
needs_hi (Mtlo rs) = true
needs_hi _ = false

-- whether what an instruction does rests on LO
abbrev pub needs_lo : Inst → Bool
needs_lo (Mflo rd) = true
needs_lo (Mthi rs) = true
needs_lo _ = false
