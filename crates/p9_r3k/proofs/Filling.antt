-- What is filled into a line changes no use.
use Rattle.std.proofs.Common.{ℕ, ◌/◌, ◌%◌, ◌^◌, Option, Some, None, refl}
use Rattle.p9_base.specs.Words.{word_sum}
use Rattle.p9_r3k.specs.declared.inst.Inst.{Inst}
use Rattle.p9_r3k.specs.declared.inst.Inst.TheVariants.{J, Jal, Beq, Bne, Blez, Bgtz, Bltz, Bgez, Bltzal, Bgezal, Addi, Addiu, Slti, Sltiu, Andi, Ori, Xori, Lui, Lb, Lh, Lw, Lbu, Lhu, Sb, Sh, Sw, Sll, Srl, Sra, Sllv, Srlv, Srav, Jr, Jalr, Syscall, Break, Mfhi, Mthi, Mflo, Mtlo, Mult, Multu, Div, Divu, Add, Addu, Sub, Subu, And, Or, Xor, Nor, Slt, Sltu}
use Rattle.p9_r3k.specs.declared.lines.Line.{Line}
use Rattle.p9_r3k.specs.declared.lines.Value.{Value}
use Rattle.p9_r3k.specs.declared.lines.Part.{Part}
use Rattle.p9_r3k.specs.declared.lines.Part.TheVariants.{High, Low, Jump}
use Rattle.p9_r3k.specs.Straight.{Addresses, with_imm, with_index, with_piece, with_value, filled}
use Rattle.p9_r3k.specs.UseLaws.{SameUses}

pub same_uses : (i : Inst) → SameUses i i
same_uses i = record {
  registers = λ r. refl;
  result = refl;
  pair_reader = refl;
  pair_writer = refl;
  branch = refl;
  load = refl;
  store = refl;
  link = refl;
  place = refl;
  system_call = refl;
}

pub with_imm-uses : (i : Inst) (h : ℕ) → SameUses i (with_imm i h)
with_imm-uses (J index) h = same_uses (J index)
with_imm-uses (Jal index) h = same_uses (Jal index)
with_imm-uses (Beq rs rt imm) h = same_uses (Beq rs rt imm)
with_imm-uses (Bne rs rt imm) h = same_uses (Bne rs rt imm)
with_imm-uses (Blez rs imm) h = same_uses (Blez rs imm)
with_imm-uses (Bgtz rs imm) h = same_uses (Bgtz rs imm)
with_imm-uses (Bltz rs imm) h = same_uses (Bltz rs imm)
with_imm-uses (Bgez rs imm) h = same_uses (Bgez rs imm)
with_imm-uses (Bltzal rs imm) h = same_uses (Bltzal rs imm)
with_imm-uses (Bgezal rs imm) h = same_uses (Bgezal rs imm)
with_imm-uses (Addi rs rt imm) h = record { registers = λ r. refl; result = refl; pair_reader = refl; pair_writer = refl; branch = refl; load = refl; store = refl; link = refl; place = refl; system_call = refl }
with_imm-uses (Addiu rs rt imm) h = record { registers = λ r. refl; result = refl; pair_reader = refl; pair_writer = refl; branch = refl; load = refl; store = refl; link = refl; place = refl; system_call = refl }
with_imm-uses (Slti rs rt imm) h = record { registers = λ r. refl; result = refl; pair_reader = refl; pair_writer = refl; branch = refl; load = refl; store = refl; link = refl; place = refl; system_call = refl }
with_imm-uses (Sltiu rs rt imm) h = record { registers = λ r. refl; result = refl; pair_reader = refl; pair_writer = refl; branch = refl; load = refl; store = refl; link = refl; place = refl; system_call = refl }
with_imm-uses (Andi rs rt imm) h = record { registers = λ r. refl; result = refl; pair_reader = refl; pair_writer = refl; branch = refl; load = refl; store = refl; link = refl; place = refl; system_call = refl }
with_imm-uses (Ori rs rt imm) h = record { registers = λ r. refl; result = refl; pair_reader = refl; pair_writer = refl; branch = refl; load = refl; store = refl; link = refl; place = refl; system_call = refl }
with_imm-uses (Xori rs rt imm) h = record { registers = λ r. refl; result = refl; pair_reader = refl; pair_writer = refl; branch = refl; load = refl; store = refl; link = refl; place = refl; system_call = refl }
with_imm-uses (Lui rt imm) h = record { registers = λ r. refl; result = refl; pair_reader = refl; pair_writer = refl; branch = refl; load = refl; store = refl; link = refl; place = refl; system_call = refl }
with_imm-uses (Lb rs rt imm) h = record { registers = λ r. refl; result = refl; pair_reader = refl; pair_writer = refl; branch = refl; load = refl; store = refl; link = refl; place = refl; system_call = refl }
with_imm-uses (Lh rs rt imm) h = record { registers = λ r. refl; result = refl; pair_reader = refl; pair_writer = refl; branch = refl; load = refl; store = refl; link = refl; place = refl; system_call = refl }
with_imm-uses (Lw rs rt imm) h = record { registers = λ r. refl; result = refl; pair_reader = refl; pair_writer = refl; branch = refl; load = refl; store = refl; link = refl; place = refl; system_call = refl }
with_imm-uses (Lbu rs rt imm) h = record { registers = λ r. refl; result = refl; pair_reader = refl; pair_writer = refl; branch = refl; load = refl; store = refl; link = refl; place = refl; system_call = refl }
with_imm-uses (Lhu rs rt imm) h = record { registers = λ r. refl; result = refl; pair_reader = refl; pair_writer = refl; branch = refl; load = refl; store = refl; link = refl; place = refl; system_call = refl }
with_imm-uses (Sb rs rt imm) h = record { registers = λ r. refl; result = refl; pair_reader = refl; pair_writer = refl; branch = refl; load = refl; store = refl; link = refl; place = refl; system_call = refl }
with_imm-uses (Sh rs rt imm) h = record { registers = λ r. refl; result = refl; pair_reader = refl; pair_writer = refl; branch = refl; load = refl; store = refl; link = refl; place = refl; system_call = refl }
with_imm-uses (Sw rs rt imm) h = record { registers = λ r. refl; result = refl; pair_reader = refl; pair_writer = refl; branch = refl; load = refl; store = refl; link = refl; place = refl; system_call = refl }
with_imm-uses (Sll rt rd sh) h = same_uses (Sll rt rd sh)
with_imm-uses (Srl rt rd sh) h = same_uses (Srl rt rd sh)
with_imm-uses (Sra rt rd sh) h = same_uses (Sra rt rd sh)
with_imm-uses (Sllv rs rt rd) h = same_uses (Sllv rs rt rd)
with_imm-uses (Srlv rs rt rd) h = same_uses (Srlv rs rt rd)
with_imm-uses (Srav rs rt rd) h = same_uses (Srav rs rt rd)
with_imm-uses (Jr rs) h = same_uses (Jr rs)
with_imm-uses (Jalr rs rd) h = same_uses (Jalr rs rd)
with_imm-uses (Syscall code) h = same_uses (Syscall code)
with_imm-uses (Break code) h = same_uses (Break code)
with_imm-uses (Mfhi rd) h = same_uses (Mfhi rd)
with_imm-uses (Mthi rs) h = same_uses (Mthi rs)
with_imm-uses (Mflo rd) h = same_uses (Mflo rd)
with_imm-uses (Mtlo rs) h = same_uses (Mtlo rs)
with_imm-uses (Mult rs rt) h = same_uses (Mult rs rt)
with_imm-uses (Multu rs rt) h = same_uses (Multu rs rt)
with_imm-uses (Div rs rt) h = same_uses (Div rs rt)
with_imm-uses (Divu rs rt) h = same_uses (Divu rs rt)
with_imm-uses (Add rs rt rd) h = same_uses (Add rs rt rd)
with_imm-uses (Addu rs rt rd) h = same_uses (Addu rs rt rd)
with_imm-uses (Sub rs rt rd) h = same_uses (Sub rs rt rd)
with_imm-uses (Subu rs rt rd) h = same_uses (Subu rs rt rd)
with_imm-uses (And rs rt rd) h = same_uses (And rs rt rd)
with_imm-uses (Or rs rt rd) h = same_uses (Or rs rt rd)
with_imm-uses (Xor rs rt rd) h = same_uses (Xor rs rt rd)
with_imm-uses (Nor rs rt rd) h = same_uses (Nor rs rt rd)
with_imm-uses (Slt rs rt rd) h = same_uses (Slt rs rt rd)
with_imm-uses (Sltu rs rt rd) h = same_uses (Sltu rs rt rd)

pub with_index-uses : (i : Inst) (h : ℕ) → SameUses i (with_index i h)
with_index-uses (J index) h = record { registers = λ r. refl; result = refl; pair_reader = refl; pair_writer = refl; branch = refl; load = refl; store = refl; link = refl; place = refl; system_call = refl }
with_index-uses (Jal index) h = record { registers = λ r. refl; result = refl; pair_reader = refl; pair_writer = refl; branch = refl; load = refl; store = refl; link = refl; place = refl; system_call = refl }
with_index-uses (Beq rs rt imm) h = same_uses (Beq rs rt imm)
with_index-uses (Bne rs rt imm) h = same_uses (Bne rs rt imm)
with_index-uses (Blez rs imm) h = same_uses (Blez rs imm)
with_index-uses (Bgtz rs imm) h = same_uses (Bgtz rs imm)
with_index-uses (Bltz rs imm) h = same_uses (Bltz rs imm)
with_index-uses (Bgez rs imm) h = same_uses (Bgez rs imm)
with_index-uses (Bltzal rs imm) h = same_uses (Bltzal rs imm)
with_index-uses (Bgezal rs imm) h = same_uses (Bgezal rs imm)
with_index-uses (Addi rs rt imm) h = same_uses (Addi rs rt imm)
with_index-uses (Addiu rs rt imm) h = same_uses (Addiu rs rt imm)
with_index-uses (Slti rs rt imm) h = same_uses (Slti rs rt imm)
with_index-uses (Sltiu rs rt imm) h = same_uses (Sltiu rs rt imm)
with_index-uses (Andi rs rt imm) h = same_uses (Andi rs rt imm)
with_index-uses (Ori rs rt imm) h = same_uses (Ori rs rt imm)
with_index-uses (Xori rs rt imm) h = same_uses (Xori rs rt imm)
with_index-uses (Lui rt imm) h = same_uses (Lui rt imm)
with_index-uses (Lb rs rt imm) h = same_uses (Lb rs rt imm)
with_index-uses (Lh rs rt imm) h = same_uses (Lh rs rt imm)
with_index-uses (Lw rs rt imm) h = same_uses (Lw rs rt imm)
with_index-uses (Lbu rs rt imm) h = same_uses (Lbu rs rt imm)
with_index-uses (Lhu rs rt imm) h = same_uses (Lhu rs rt imm)
with_index-uses (Sb rs rt imm) h = same_uses (Sb rs rt imm)
with_index-uses (Sh rs rt imm) h = same_uses (Sh rs rt imm)
with_index-uses (Sw rs rt imm) h = same_uses (Sw rs rt imm)
with_index-uses (Sll rt rd sh) h = same_uses (Sll rt rd sh)
with_index-uses (Srl rt rd sh) h = same_uses (Srl rt rd sh)
with_index-uses (Sra rt rd sh) h = same_uses (Sra rt rd sh)
with_index-uses (Sllv rs rt rd) h = same_uses (Sllv rs rt rd)
with_index-uses (Srlv rs rt rd) h = same_uses (Srlv rs rt rd)
with_index-uses (Srav rs rt rd) h = same_uses (Srav rs rt rd)
with_index-uses (Jr rs) h = same_uses (Jr rs)
with_index-uses (Jalr rs rd) h = same_uses (Jalr rs rd)
with_index-uses (Syscall code) h = same_uses (Syscall code)
with_index-uses (Break code) h = same_uses (Break code)
with_index-uses (Mfhi rd) h = same_uses (Mfhi rd)
with_index-uses (Mthi rs) h = same_uses (Mthi rs)
with_index-uses (Mflo rd) h = same_uses (Mflo rd)
with_index-uses (Mtlo rs) h = same_uses (Mtlo rs)
with_index-uses (Mult rs rt) h = same_uses (Mult rs rt)
with_index-uses (Multu rs rt) h = same_uses (Multu rs rt)
with_index-uses (Div rs rt) h = same_uses (Div rs rt)
with_index-uses (Divu rs rt) h = same_uses (Divu rs rt)
with_index-uses (Add rs rt rd) h = same_uses (Add rs rt rd)
with_index-uses (Addu rs rt rd) h = same_uses (Addu rs rt rd)
with_index-uses (Sub rs rt rd) h = same_uses (Sub rs rt rd)
with_index-uses (Subu rs rt rd) h = same_uses (Subu rs rt rd)
with_index-uses (And rs rt rd) h = same_uses (And rs rt rd)
with_index-uses (Or rs rt rd) h = same_uses (Or rs rt rd)
with_index-uses (Xor rs rt rd) h = same_uses (Xor rs rt rd)
with_index-uses (Nor rs rt rd) h = same_uses (Nor rs rt rd)
with_index-uses (Slt rs rt rd) h = same_uses (Slt rs rt rd)
with_index-uses (Sltu rs rt rd) h = same_uses (Sltu rs rt rd)

pub with_piece-uses : (p : Part) (at : ℕ) (i : Inst) → SameUses i (with_piece p at i)
with_piece-uses High at i = with_imm-uses i (at / 2 ^ 16)
with_piece-uses Low at i = with_imm-uses i (at % 2 ^ 16)
with_piece-uses Jump at i = with_index-uses i (at / 4 % 2 ^ 26)

pub with_value-uses : (a : Addresses) (v : Option Value) (i : Inst) → SameUses i (with_value a v i)
with_value-uses a None i = same_uses i
with_value-uses a (Some v) i = with_piece-uses v.part (word_sum (a.symbol v.module v.symbol) v.offset) i

pub filled-uses : (a : Addresses) (line : Line) → SameUses line.inst (filled a line)
filled-uses a line = with_value-uses a line.value line.inst
