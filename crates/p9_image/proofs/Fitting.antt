-- What is filled into a line's instruction fits.
use Rattle.std.proofs.Common.{ℕ, Option, Some, None, List, arith}
use Rattle.p9_r3k.specs.declared.inst.Inst.{Inst}
use Rattle.p9_r3k.specs.declared.inst.Inst.TheVariants.{J, Jal, Beq, Bne, Blez, Bgtz, Bltz, Bgez, Bltzal, Bgezal, Addi, Addiu, Slti, Sltiu, Andi, Ori, Xori, Lui, Lb, Lh, Lw, Lbu, Lhu, Sb, Sh, Sw, Sll, Srl, Sra, Sllv, Srlv, Srav, Jr, Jalr, Syscall, Break, Mfhi, Mthi, Mflo, Mtlo, Mult, Multu, Div, Divu, Add, Addu, Sub, Subu, And, Or, Xor, Nor, Slt, Sltu}
use Rattle.p9_r3k.specs.declared.lines.Line.{Line}
use Rattle.p9_r3k.specs.Table.{Fits}
use Rattle.p9_r3k.specs.Straight.{filled}
use Rattle.p9_r3k.proofs.StraightWords.{filled-fits}
use Rattle.p9_image.specs.Text.{addresses, sent_to, with_target, patched}

sent-fits : (i t : ℕ) (inst : Inst) → Fits inst → Fits (sent_to i t inst)
sent-fits i t (J index) h = omega arith
sent-fits i t (Jal index) h = omega arith
sent-fits i t (Beq rs rt imm) h = (h.0, h.1, omega arith)
sent-fits i t (Bne rs rt imm) h = (h.0, h.1, omega arith)
sent-fits i t (Blez rs imm) h = (h.0, omega arith)
sent-fits i t (Bgtz rs imm) h = (h.0, omega arith)
sent-fits i t (Bltz rs imm) h = (h.0, omega arith)
sent-fits i t (Bgez rs imm) h = (h.0, omega arith)
sent-fits i t (Bltzal rs imm) h = (h.0, omega arith)
sent-fits i t (Bgezal rs imm) h = (h.0, omega arith)
sent-fits i t (Addi rs rt imm) h = h
sent-fits i t (Addiu rs rt imm) h = h
sent-fits i t (Slti rs rt imm) h = h
sent-fits i t (Sltiu rs rt imm) h = h
sent-fits i t (Andi rs rt imm) h = h
sent-fits i t (Ori rs rt imm) h = h
sent-fits i t (Xori rs rt imm) h = h
sent-fits i t (Lui rt imm) h = h
sent-fits i t (Lb rs rt imm) h = h
sent-fits i t (Lh rs rt imm) h = h
sent-fits i t (Lw rs rt imm) h = h
sent-fits i t (Lbu rs rt imm) h = h
sent-fits i t (Lhu rs rt imm) h = h
sent-fits i t (Sb rs rt imm) h = h
sent-fits i t (Sh rs rt imm) h = h
sent-fits i t (Sw rs rt imm) h = h
sent-fits i t (Sll rt rd sh) h = h
sent-fits i t (Srl rt rd sh) h = h
sent-fits i t (Sra rt rd sh) h = h
sent-fits i t (Sllv rs rt rd) h = h
sent-fits i t (Srlv rs rt rd) h = h
sent-fits i t (Srav rs rt rd) h = h
sent-fits i t (Jr rs) h = h
sent-fits i t (Jalr rs rd) h = h
sent-fits i t (Syscall code) h = h
sent-fits i t (Break code) h = h
sent-fits i t (Mfhi rd) h = h
sent-fits i t (Mthi rs) h = h
sent-fits i t (Mflo rd) h = h
sent-fits i t (Mtlo rs) h = h
sent-fits i t (Mult rs rt) h = h
sent-fits i t (Multu rs rt) h = h
sent-fits i t (Div rs rt) h = h
sent-fits i t (Divu rs rt) h = h
sent-fits i t (Add rs rt rd) h = h
sent-fits i t (Addu rs rt rd) h = h
sent-fits i t (Sub rs rt rd) h = h
sent-fits i t (Subu rs rt rd) h = h
sent-fits i t (And rs rt rd) h = h
sent-fits i t (Or rs rt rd) h = h
sent-fits i t (Xor rs rt rd) h = h
sent-fits i t (Nor rs rt rd) h = h
sent-fits i t (Slt rs rt rd) h = h
sent-fits i t (Sltu rs rt rd) h = h

target-fits : (i : ℕ) (target : Option ℕ) (inst : Inst) → Fits inst → Fits (with_target i target inst)
target-fits i None inst h = h
target-fits i (Some t) inst h = sent-fits i t inst h

pub patched_fits : (tables : List (List ℕ)) (i : ℕ) (line : Line) → Fits line.inst → Fits (patched tables i line)
patched_fits tables i line h = target-fits i line.target (filled (addresses tables) line) (filled-fits (addresses tables) line h)
