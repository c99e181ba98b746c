-- What is filled in makes no jump and takes none away.
use Rattle.std.proofs.Common.{ℕ, ◌/◌, ◌%◌, ◌^◌, ◌≡◌, Option, Some, None, refl}
use Rattle.p9_base.specs.Words.{word_sum}
use Rattle.p9_r3k.specs.declared.inst.Inst.{Inst}
use Rattle.p9_r3k.specs.declared.inst.Inst.TheVariants.{J, Jal, Beq, Bne, Blez, Bgtz, Bltz, Bgez, Bltzal, Bgezal, Addi, Addiu, Slti, Sltiu, Andi, Ori, Xori, Lui, Lb, Lh, Lw, Lbu, Lhu, Sb, Sh, Sw, Sll, Srl, Sra, Sllv, Srlv, Srav, Jr, Jalr, Syscall, Break, Mfhi, Mthi, Mflo, Mtlo, Mult, Multu, Div, Divu, Add, Addu, Sub, Subu, And, Or, Xor, Nor, Slt, Sltu}
use Rattle.p9_r3k.specs.declared.lines.Line.{Line}
use Rattle.p9_r3k.specs.declared.lines.Part.{Part}
use Rattle.p9_r3k.specs.declared.lines.Part.TheVariants.{High, Low, Jump}
use Rattle.p9_r3k.specs.declared.lines.Value.{Value}
use Rattle.p9_r3k.specs.Straight.{Addresses, with_imm, with_index, with_piece, with_value, filled}
use Rattle.p9_image_laws.specs.Reaching.{is_jump}

with_imm_kind : (inst : Inst) (h : ℕ) → is_jump (with_imm inst h) ≡ is_jump inst
with_imm_kind (J index) h = refl
with_imm_kind (Jal index) h = refl
with_imm_kind (Beq rs rt imm) h = refl
with_imm_kind (Bne rs rt imm) h = refl
with_imm_kind (Blez rs imm) h = refl
with_imm_kind (Bgtz rs imm) h = refl
with_imm_kind (Bltz rs imm) h = refl
with_imm_kind (Bgez rs imm) h = refl
with_imm_kind (Bltzal rs imm) h = refl
with_imm_kind (Bgezal rs imm) h = refl
with_imm_kind (Addi rs rt imm) h = refl
with_imm_kind (Addiu rs rt imm) h = refl
with_imm_kind (Slti rs rt imm) h = refl
with_imm_kind (Sltiu rs rt imm) h = refl
with_imm_kind (Andi rs rt imm) h = refl
with_imm_kind (Ori rs rt imm) h = refl
with_imm_kind (Xori rs rt imm) h = refl
with_imm_kind (Lui rt imm) h = refl
with_imm_kind (Lb rs rt imm) h = refl
with_imm_kind (Lh rs rt imm) h = refl
with_imm_kind (Lw rs rt imm) h = refl
with_imm_kind (Lbu rs rt imm) h = refl
with_imm_kind (Lhu rs rt imm) h = refl
with_imm_kind (Sb rs rt imm) h = refl
with_imm_kind (Sh rs rt imm) h = refl
with_imm_kind (Sw rs rt imm) h = refl
with_imm_kind (Sll rt rd sh) h = refl
with_imm_kind (Srl rt rd sh) h = refl
with_imm_kind (Sra rt rd sh) h = refl
with_imm_kind (Sllv rs rt rd) h = refl
with_imm_kind (Srlv rs rt rd) h = refl
with_imm_kind (Srav rs rt rd) h = refl
with_imm_kind (Jr rs) h = refl
with_imm_kind (Jalr rs rd) h = refl
with_imm_kind (Syscall code) h = refl
with_imm_kind (Break code) h = refl
with_imm_kind (Mfhi rd) h = refl
with_imm_kind (Mthi rs) h = refl
with_imm_kind (Mflo rd) h = refl
with_imm_kind (Mtlo rs) h = refl
with_imm_kind (Mult rs rt) h = refl
with_imm_kind (Multu rs rt) h = refl
with_imm_kind (Div rs rt) h = refl
with_imm_kind (Divu rs rt) h = refl
with_imm_kind (Add rs rt rd) h = refl
with_imm_kind (Addu rs rt rd) h = refl
with_imm_kind (Sub rs rt rd) h = refl
with_imm_kind (Subu rs rt rd) h = refl
with_imm_kind (And rs rt rd) h = refl
with_imm_kind (Or rs rt rd) h = refl
with_imm_kind (Xor rs rt rd) h = refl
with_imm_kind (Nor rs rt rd) h = refl
with_imm_kind (Slt rs rt rd) h = refl
with_imm_kind (Sltu rs rt rd) h = refl

with_index_kind : (inst : Inst) (h : ℕ) → is_jump (with_index inst h) ≡ is_jump inst
with_index_kind (J index) h = refl
with_index_kind (Jal index) h = refl
with_index_kind (Beq rs rt imm) h = refl
with_index_kind (Bne rs rt imm) h = refl
with_index_kind (Blez rs imm) h = refl
with_index_kind (Bgtz rs imm) h = refl
with_index_kind (Bltz rs imm) h = refl
with_index_kind (Bgez rs imm) h = refl
with_index_kind (Bltzal rs imm) h = refl
with_index_kind (Bgezal rs imm) h = refl
with_index_kind (Addi rs rt imm) h = refl
with_index_kind (Addiu rs rt imm) h = refl
with_index_kind (Slti rs rt imm) h = refl
with_index_kind (Sltiu rs rt imm) h = refl
with_index_kind (Andi rs rt imm) h = refl
with_index_kind (Ori rs rt imm) h = refl
with_index_kind (Xori rs rt imm) h = refl
with_index_kind (Lui rt imm) h = refl
with_index_kind (Lb rs rt imm) h = refl
with_index_kind (Lh rs rt imm) h = refl
with_index_kind (Lw rs rt imm) h = refl
with_index_kind (Lbu rs rt imm) h = refl
with_index_kind (Lhu rs rt imm) h = refl
with_index_kind (Sb rs rt imm) h = refl
with_index_kind (Sh rs rt imm) h = refl
with_index_kind (Sw rs rt imm) h = refl
with_index_kind (Sll rt rd sh) h = refl
with_index_kind (Srl rt rd sh) h = refl
with_index_kind (Sra rt rd sh) h = refl
with_index_kind (Sllv rs rt rd) h = refl
with_index_kind (Srlv rs rt rd) h = refl
with_index_kind (Srav rs rt rd) h = refl
with_index_kind (Jr rs) h = refl
with_index_kind (Jalr rs rd) h = refl
with_index_kind (Syscall code) h = refl
with_index_kind (Break code) h = refl
with_index_kind (Mfhi rd) h = refl
with_index_kind (Mthi rs) h = refl
with_index_kind (Mflo rd) h = refl
with_index_kind (Mtlo rs) h = refl
with_index_kind (Mult rs rt) h = refl
with_index_kind (Multu rs rt) h = refl
with_index_kind (Div rs rt) h = refl
with_index_kind (Divu rs rt) h = refl
with_index_kind (Add rs rt rd) h = refl
with_index_kind (Addu rs rt rd) h = refl
with_index_kind (Sub rs rt rd) h = refl
with_index_kind (Subu rs rt rd) h = refl
with_index_kind (And rs rt rd) h = refl
with_index_kind (Or rs rt rd) h = refl
with_index_kind (Xor rs rt rd) h = refl
with_index_kind (Nor rs rt rd) h = refl
with_index_kind (Slt rs rt rd) h = refl
with_index_kind (Sltu rs rt rd) h = refl

with_piece_kind : (p : Part) (at : ℕ) (inst : Inst) → is_jump (with_piece p at inst) ≡ is_jump inst
with_piece_kind High at inst = with_imm_kind inst (at / 2 ^ 16)
with_piece_kind Low at inst = with_imm_kind inst (at % 2 ^ 16)
with_piece_kind Jump at inst = with_index_kind inst (at / 4 % 2 ^ 26)

with_value_kind : (a : Addresses) (v : Option Value) (inst : Inst) → is_jump (with_value a v inst) ≡ is_jump inst
with_value_kind a None inst = refl
with_value_kind a (Some v) inst = with_piece_kind v.part (word_sum (a.symbol v.module v.symbol) v.offset) inst

pub filled_kind : (a : Addresses) (line : Line) → is_jump (filled a line) ≡ is_jump line.inst
filled_kind a line = with_value_kind a line.value line.inst
