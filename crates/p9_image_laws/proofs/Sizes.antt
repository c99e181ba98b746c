-- The words of instructions whose fields fit have 32 bits.
use Rattle.std.proofs.Common.{ℕ, ◌^◌, ◌<◌, arith, lit<}
use Rattle.p9_r3k.specs.declared.inst.Inst.{Inst}
use Rattle.p9_r3k.specs.declared.inst.Inst.TheVariants.{J, Jal, Beq, Bne, Blez, Bgtz, Bltz, Bgez, Bltzal, Bgezal, Addi, Addiu, Slti, Sltiu, Andi, Ori, Xori, Lui, Lb, Lh, Lw, Lbu, Lhu, Sb, Sh, Sw, Sll, Srl, Sra, Sllv, Srlv, Srav, Jr, Jalr, Syscall, Break, Mfhi, Mthi, Mflo, Mtlo, Mult, Multu, Div, Divu, Add, Addu, Sub, Subu, And, Or, Xor, Nor, Slt, Sltu}
use Rattle.p9_r3k.specs.Fields.{r_word, i_word, j_word, c_word}
use Rattle.p9_r3k.specs.Table.{Fits, word_of}

r_small : (rs rt rd sh fn : ℕ) → rs < 2 ^ 5 → rt < 2 ^ 5 → rd < 2 ^ 5 → sh < 2 ^ 5 → fn < 2 ^ 6 → r_word rs rt rd sh fn < 2 ^ 32
r_small rs rt rd sh fn a b c d e = omega arith

i_small : (op rs rt imm : ℕ) → op < 2 ^ 6 → rs < 2 ^ 5 → rt < 2 ^ 5 → imm < 2 ^ 16 → i_word op rs rt imm < 2 ^ 32
i_small op rs rt imm a b c d = omega arith

j_small : (op index : ℕ) → op < 2 ^ 6 → index < 2 ^ 26 → j_word op index < 2 ^ 32
j_small op index a b = omega arith

c_small : (code fn : ℕ) → code < 2 ^ 20 → fn < 2 ^ 6 → c_word code fn < 2 ^ 32
c_small code fn a b = omega arith

pub word_small : (inst : Inst) → Fits inst → word_of inst < 2 ^ 32
word_small (J index) h = j_small 2 index (lit< tt) h
word_small (Jal index) h = j_small 3 index (lit< tt) h
word_small (Beq rs rt imm) h = i_small 4 rs rt imm (lit< tt) h.0 h.1 h.2
word_small (Bne rs rt imm) h = i_small 5 rs rt imm (lit< tt) h.0 h.1 h.2
word_small (Blez rs imm) h = i_small 6 rs 0 imm (lit< tt) h.0 (lit< tt) h.1
word_small (Bgtz rs imm) h = i_small 7 rs 0 imm (lit< tt) h.0 (lit< tt) h.1
word_small (Bltz rs imm) h = i_small 1 rs 0 imm (lit< tt) h.0 (lit< tt) h.1
word_small (Bgez rs imm) h = i_small 1 rs 1 imm (lit< tt) h.0 (lit< tt) h.1
word_small (Bltzal rs imm) h = i_small 1 rs 16 imm (lit< tt) h.0 (lit< tt) h.1
word_small (Bgezal rs imm) h = i_small 1 rs 17 imm (lit< tt) h.0 (lit< tt) h.1
word_small (Addi rs rt imm) h = i_small 8 rs rt imm (lit< tt) h.0 h.1 h.2
word_small (Addiu rs rt imm) h = i_small 9 rs rt imm (lit< tt) h.0 h.1 h.2
word_small (Slti rs rt imm) h = i_small 10 rs rt imm (lit< tt) h.0 h.1 h.2
word_small (Sltiu rs rt imm) h = i_small 11 rs rt imm (lit< tt) h.0 h.1 h.2
word_small (Andi rs rt imm) h = i_small 12 rs rt imm (lit< tt) h.0 h.1 h.2
word_small (Ori rs rt imm) h = i_small 13 rs rt imm (lit< tt) h.0 h.1 h.2
word_small (Xori rs rt imm) h = i_small 14 rs rt imm (lit< tt) h.0 h.1 h.2
word_small (Lui rt imm) h = i_small 15 0 rt imm (lit< tt) (lit< tt) h.0 h.1
word_small (Lb rs rt imm) h = i_small 32 rs rt imm (lit< tt) h.0 h.1 h.2
word_small (Lh rs rt imm) h = i_small 33 rs rt imm (lit< tt) h.0 h.1 h.2
word_small (Lw rs rt imm) h = i_small 35 rs rt imm (lit< tt) h.0 h.1 h.2
word_small (Lbu rs rt imm) h = i_small 36 rs rt imm (lit< tt) h.0 h.1 h.2
word_small (Lhu rs rt imm) h = i_small 37 rs rt imm (lit< tt) h.0 h.1 h.2
word_small (Sb rs rt imm) h = i_small 40 rs rt imm (lit< tt) h.0 h.1 h.2
word_small (Sh rs rt imm) h = i_small 41 rs rt imm (lit< tt) h.0 h.1 h.2
word_small (Sw rs rt imm) h = i_small 43 rs rt imm (lit< tt) h.0 h.1 h.2
word_small (Sll rt rd sh) h = r_small 0 rt rd sh 0 (lit< tt) h.0 h.1 h.2 (lit< tt)
word_small (Srl rt rd sh) h = r_small 0 rt rd sh 2 (lit< tt) h.0 h.1 h.2 (lit< tt)
word_small (Sra rt rd sh) h = r_small 0 rt rd sh 3 (lit< tt) h.0 h.1 h.2 (lit< tt)
word_small (Sllv rs rt rd) h = r_small rs rt rd 0 4 h.0 h.1 h.2 (lit< tt) (lit< tt)
word_small (Srlv rs rt rd) h = r_small rs rt rd 0 6 h.0 h.1 h.2 (lit< tt) (lit< tt)
word_small (Srav rs rt rd) h = r_small rs rt rd 0 7 h.0 h.1 h.2 (lit< tt) (lit< tt)
word_small (Jr rs) h = r_small rs 0 0 0 8 h (lit< tt) (lit< tt) (lit< tt) (lit< tt)
word_small (Jalr rs rd) h = r_small rs 0 rd 0 9 h.0 (lit< tt) h.1 (lit< tt) (lit< tt)
word_small (Syscall code) h = c_small code 12 h (lit< tt)
word_small (Break code) h = c_small code 13 h (lit< tt)
word_small (Mfhi rd) h = r_small 0 0 rd 0 16 (lit< tt) (lit< tt) h (lit< tt) (lit< tt)
word_small (Mthi rs) h = r_small rs 0 0 0 17 h (lit< tt) (lit< tt) (lit< tt) (lit< tt)
word_small (Mflo rd) h = r_small 0 0 rd 0 18 (lit< tt) (lit< tt) h (lit< tt) (lit< tt)
word_small (Mtlo rs) h = r_small rs 0 0 0 19 h (lit< tt) (lit< tt) (lit< tt) (lit< tt)
word_small (Mult rs rt) h = r_small rs rt 0 0 24 h.0 h.1 (lit< tt) (lit< tt) (lit< tt)
word_small (Multu rs rt) h = r_small rs rt 0 0 25 h.0 h.1 (lit< tt) (lit< tt) (lit< tt)
word_small (Div rs rt) h = r_small rs rt 0 0 26 h.0 h.1 (lit< tt) (lit< tt) (lit< tt)
word_small (Divu rs rt) h = r_small rs rt 0 0 27 h.0 h.1 (lit< tt) (lit< tt) (lit< tt)
word_small (Add rs rt rd) h = r_small rs rt rd 0 32 h.0 h.1 h.2 (lit< tt) (lit< tt)
word_small (Addu rs rt rd) h = r_small rs rt rd 0 33 h.0 h.1 h.2 (lit< tt) (lit< tt)
word_small (Sub rs rt rd) h = r_small rs rt rd 0 34 h.0 h.1 h.2 (lit< tt) (lit< tt)
word_small (Subu rs rt rd) h = r_small rs rt rd 0 35 h.0 h.1 h.2 (lit< tt) (lit< tt)
word_small (And rs rt rd) h = r_small rs rt rd 0 36 h.0 h.1 h.2 (lit< tt) (lit< tt)
word_small (Or rs rt rd) h = r_small rs rt rd 0 37 h.0 h.1 h.2 (lit< tt) (lit< tt)
word_small (Xor rs rt rd) h = r_small rs rt rd 0 38 h.0 h.1 h.2 (lit< tt) (lit< tt)
word_small (Nor rs rt rd) h = r_small rs rt rd 0 39 h.0 h.1 h.2 (lit< tt) (lit< tt)
word_small (Slt rs rt rd) h = r_small rs rt rd 0 42 h.0 h.1 h.2 (lit< tt) (lit< tt)
word_small (Sltu rs rt rd) h = r_small rs rt rd 0 43 h.0 h.1 h.2 (lit< tt) (lit< tt)
