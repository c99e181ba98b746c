-- The table of instructions: each row's word, and each word's row, by the instruction formats and bit encodings in
-- Kane's "MIPS RISC Architecture", the manual of the R2000 and R3000.
use Rattle.std.specs.Prelude.{ℕ, ◌^◌, ◌<◌, ◌==◌, ◌&&◌, Option, Some, None, if◌then◌else◌}
use Rattle.p9_r3k.specs.declared.inst.Inst.{Inst}
use Rattle.p9_r3k.specs.declared.inst.Inst.TheVariants.{J, Jal, Beq, Bne, Blez, Bgtz, Bltz, Bgez, Bltzal, Bgezal, Addi, Addiu, Slti, Sltiu, Andi, Ori, Xori, Lui, Lb, Lh, Lw, Lbu, Lhu, Sb, Sh, Sw, Sll, Srl, Sra, Sllv, Srlv, Srav, Jr, Jalr, Syscall, Break, Mfhi, Mthi, Mflo, Mtlo, Mult, Multu, Div, Divu, Add, Addu, Sub, Subu, And, Or, Xor, Nor, Slt, Sltu}
use Rattle.p9_r3k.specs.Fields.{op_of, rs_of, rt_of, rd_of, sh_of, fn_of, imm_of, index_of, code_of, r_word, i_word, j_word, c_word}

-- every field fits its bits
abbrev pub Fits : Inst → Type 0
Fits (J index) = (index < 2 ^ 26)
Fits (Jal index) = (index < 2 ^ 26)
Fits (Beq rs rt imm) = (rs < 2 ^ 5) × (rt < 2 ^ 5) × (imm < 2 ^ 16)
Fits (Bne rs rt imm) = (rs < 2 ^ 5) × (rt < 2 ^ 5) × (imm < 2 ^ 16)
Fits (Blez rs imm) = (rs < 2 ^ 5) × (imm < 2 ^ 16)
Fits (Bgtz rs imm) = (rs < 2 ^ 5) × (imm < 2 ^ 16)
Fits (Bltz rs imm) = (rs < 2 ^ 5) × (imm < 2 ^ 16)
Fits (Bgez rs imm) = (rs < 2 ^ 5) × (imm < 2 ^ 16)
Fits (Bltzal rs imm) = (rs < 2 ^ 5) × (imm < 2 ^ 16)
Fits (Bgezal rs imm) = (rs < 2 ^ 5) × (imm < 2 ^ 16)
Fits (Addi rs rt imm) = (rs < 2 ^ 5) × (rt < 2 ^ 5) × (imm < 2 ^ 16)
Fits (Addiu rs rt imm) = (rs < 2 ^ 5) × (rt < 2 ^ 5) × (imm < 2 ^ 16)
Fits (Slti rs rt imm) = (rs < 2 ^ 5) × (rt < 2 ^ 5) × (imm < 2 ^ 16)
Fits (Sltiu rs rt imm) = (rs < 2 ^ 5) × (rt < 2 ^ 5) × (imm < 2 ^ 16)
Fits (Andi rs rt imm) = (rs < 2 ^ 5) × (rt < 2 ^ 5) × (imm < 2 ^ 16)
Fits (Ori rs rt imm) = (rs < 2 ^ 5) × (rt < 2 ^ 5) × (imm < 2 ^ 16)
Fits (Xori rs rt imm) = (rs < 2 ^ 5) × (rt < 2 ^ 5) × (imm < 2 ^ 16)
Fits (Lui rt imm) = (rt < 2 ^ 5) × (imm < 2 ^ 16)
Fits (Lb rs rt imm) = (rs < 2 ^ 5) × (rt < 2 ^ 5) × (imm < 2 ^ 16)
Fits (Lh rs rt imm) = (rs < 2 ^ 5) × (rt < 2 ^ 5) × (imm < 2 ^ 16)
Fits (Lw rs rt imm) = (rs < 2 ^ 5) × (rt < 2 ^ 5) × (imm < 2 ^ 16)
Fits (Lbu rs rt imm) = (rs < 2 ^ 5) × (rt < 2 ^ 5) × (imm < 2 ^ 16)
Fits (Lhu rs rt imm) = (rs < 2 ^ 5) × (rt < 2 ^ 5) × (imm < 2 ^ 16)
Fits (Sb rs rt imm) = (rs < 2 ^ 5) × (rt < 2 ^ 5) × (imm < 2 ^ 16)
Fits (Sh rs rt imm) = (rs < 2 ^ 5) × (rt < 2 ^ 5) × (imm < 2 ^ 16)
Fits (Sw rs rt imm) = (rs < 2 ^ 5) × (rt < 2 ^ 5) × (imm < 2 ^ 16)
Fits (Sll rt rd sh) = (rt < 2 ^ 5) × (rd < 2 ^ 5) × (sh < 2 ^ 5)
Fits (Srl rt rd sh) = (rt < 2 ^ 5) × (rd < 2 ^ 5) × (sh < 2 ^ 5)
Fits (Sra rt rd sh) = (rt < 2 ^ 5) × (rd < 2 ^ 5) × (sh < 2 ^ 5)
Fits (Sllv rs rt rd) = (rs < 2 ^ 5) × (rt < 2 ^ 5) × (rd < 2 ^ 5)
Fits (Srlv rs rt rd) = (rs < 2 ^ 5) × (rt < 2 ^ 5) × (rd < 2 ^ 5)
Fits (Srav rs rt rd) = (rs < 2 ^ 5) × (rt < 2 ^ 5) × (rd < 2 ^ 5)
Fits (Jr rs) = (rs < 2 ^ 5)
Fits (Jalr rs rd) = (rs < 2 ^ 5) × (rd < 2 ^ 5)
Fits (Syscall code) = (code < 2 ^ 20)
Fits (Break code) = (code < 2 ^ 20)
Fits (Mfhi rd) = (rd < 2 ^ 5)
Fits (Mthi rs) = (rs < 2 ^ 5)
Fits (Mflo rd) = (rd < 2 ^ 5)
Fits (Mtlo rs) = (rs < 2 ^ 5)
Fits (Mult rs rt) = (rs < 2 ^ 5) × (rt < 2 ^ 5)
Fits (Multu rs rt) = (rs < 2 ^ 5) × (rt < 2 ^ 5)
Fits (Div rs rt) = (rs < 2 ^ 5) × (rt < 2 ^ 5)
Fits (Divu rs rt) = (rs < 2 ^ 5) × (rt < 2 ^ 5)
Fits (Add rs rt rd) = (rs < 2 ^ 5) × (rt < 2 ^ 5) × (rd < 2 ^ 5)
Fits (Addu rs rt rd) = (rs < 2 ^ 5) × (rt < 2 ^ 5) × (rd < 2 ^ 5)
Fits (Sub rs rt rd) = (rs < 2 ^ 5) × (rt < 2 ^ 5) × (rd < 2 ^ 5)
Fits (Subu rs rt rd) = (rs < 2 ^ 5) × (rt < 2 ^ 5) × (rd < 2 ^ 5)
Fits (And rs rt rd) = (rs < 2 ^ 5) × (rt < 2 ^ 5) × (rd < 2 ^ 5)
Fits (Or rs rt rd) = (rs < 2 ^ 5) × (rt < 2 ^ 5) × (rd < 2 ^ 5)
Fits (Xor rs rt rd) = (rs < 2 ^ 5) × (rt < 2 ^ 5) × (rd < 2 ^ 5)
Fits (Nor rs rt rd) = (rs < 2 ^ 5) × (rt < 2 ^ 5) × (rd < 2 ^ 5)
Fits (Slt rs rt rd) = (rs < 2 ^ 5) × (rt < 2 ^ 5) × (rd < 2 ^ 5)
Fits (Sltu rs rt rd) = (rs < 2 ^ 5) × (rt < 2 ^ 5) × (rd < 2 ^ 5)

-- the one word of an instruction
abbrev pub word_of : Inst → ℕ
word_of (J index) = j_word 2 index
word_of (Jal index) = j_word 3 index
word_of (Beq rs rt imm) = i_word 4 rs rt imm
word_of (Bne rs rt imm) = i_word 5 rs rt imm
word_of (Blez rs imm) = i_word 6 rs 0 imm
word_of (Bgtz rs imm) = i_word 7 rs 0 imm
word_of (Bltz rs imm) = i_word 1 rs 0 imm
word_of (Bgez rs imm) = i_word 1 rs 1 imm
word_of (Bltzal rs imm) = i_word 1 rs 16 imm
word_of (Bgezal rs imm) = i_word 1 rs 17 imm
word_of (Addi rs rt imm) = i_word 8 rs rt imm
word_of (Addiu rs rt imm) = i_word 9 rs rt imm
word_of (Slti rs rt imm) = i_word 10 rs rt imm
word_of (Sltiu rs rt imm) = i_word 11 rs rt imm
word_of (Andi rs rt imm) = i_word 12 rs rt imm
word_of (Ori rs rt imm) = i_word 13 rs rt imm
word_of (Xori rs rt imm) = i_word 14 rs rt imm
word_of (Lui rt imm) = i_word 15 0 rt imm
word_of (Lb rs rt imm) = i_word 32 rs rt imm
word_of (Lh rs rt imm) = i_word 33 rs rt imm
word_of (Lw rs rt imm) = i_word 35 rs rt imm
word_of (Lbu rs rt imm) = i_word 36 rs rt imm
word_of (Lhu rs rt imm) = i_word 37 rs rt imm
word_of (Sb rs rt imm) = i_word 40 rs rt imm
word_of (Sh rs rt imm) = i_word 41 rs rt imm
word_of (Sw rs rt imm) = i_word 43 rs rt imm
word_of (Sll rt rd sh) = r_word 0 rt rd sh 0
word_of (Srl rt rd sh) = r_word 0 rt rd sh 2
word_of (Sra rt rd sh) = r_word 0 rt rd sh 3
word_of (Sllv rs rt rd) = r_word rs rt rd 0 4
word_of (Srlv rs rt rd) = r_word rs rt rd 0 6
word_of (Srav rs rt rd) = r_word rs rt rd 0 7
word_of (Jr rs) = r_word rs 0 0 0 8
word_of (Jalr rs rd) = r_word rs 0 rd 0 9
word_of (Syscall code) = c_word code 12
word_of (Break code) = c_word code 13
word_of (Mfhi rd) = r_word 0 0 rd 0 16
word_of (Mthi rs) = r_word rs 0 0 0 17
word_of (Mflo rd) = r_word 0 0 rd 0 18
word_of (Mtlo rs) = r_word rs 0 0 0 19
word_of (Mult rs rt) = r_word rs rt 0 0 24
word_of (Multu rs rt) = r_word rs rt 0 0 25
word_of (Div rs rt) = r_word rs rt 0 0 26
word_of (Divu rs rt) = r_word rs rt 0 0 27
word_of (Add rs rt rd) = r_word rs rt rd 0 32
word_of (Addu rs rt rd) = r_word rs rt rd 0 33
word_of (Sub rs rt rd) = r_word rs rt rd 0 34
word_of (Subu rs rt rd) = r_word rs rt rd 0 35
word_of (And rs rt rd) = r_word rs rt rd 0 36
word_of (Or rs rt rd) = r_word rs rt rd 0 37
word_of (Xor rs rt rd) = r_word rs rt rd 0 38
word_of (Nor rs rt rd) = r_word rs rt rd 0 39
word_of (Slt rs rt rd) = r_word rs rt rd 0 42
word_of (Sltu rs rt rd) = r_word rs rt rd 0 43

-- the rows under op 0, by fn; a field that a row doesn't use is 0
abbrev pub special : ℕ → Option Inst
special w =
    if fn_of w == 0 then (if (rs_of w == 0) then Some (Sll (rt_of w) (rd_of w) (sh_of w)) else None) else
    if fn_of w == 2 then (if (rs_of w == 0) then Some (Srl (rt_of w) (rd_of w) (sh_of w)) else None) else
    if fn_of w == 3 then (if (rs_of w == 0) then Some (Sra (rt_of w) (rd_of w) (sh_of w)) else None) else
    if fn_of w == 4 then (if (sh_of w == 0) then Some (Sllv (rs_of w) (rt_of w) (rd_of w)) else None) else
    if fn_of w == 6 then (if (sh_of w == 0) then Some (Srlv (rs_of w) (rt_of w) (rd_of w)) else None) else
    if fn_of w == 7 then (if (sh_of w == 0) then Some (Srav (rs_of w) (rt_of w) (rd_of w)) else None) else
    if fn_of w == 8 then (if (rt_of w == 0) && (rd_of w == 0) && (sh_of w == 0) then Some (Jr (rs_of w)) else None) else
    if fn_of w == 9 then (if (rt_of w == 0) && (sh_of w == 0) then Some (Jalr (rs_of w) (rd_of w)) else None) else
    if fn_of w == 12 then Some (Syscall (code_of w)) else
    if fn_of w == 13 then Some (Break (code_of w)) else
    if fn_of w == 16 then (if (rs_of w == 0) && (rt_of w == 0) && (sh_of w == 0) then Some (Mfhi (rd_of w)) else None) else
    if fn_of w == 17 then (if (rt_of w == 0) && (rd_of w == 0) && (sh_of w == 0) then Some (Mthi (rs_of w)) else None) else
    if fn_of w == 18 then (if (rs_of w == 0) && (rt_of w == 0) && (sh_of w == 0) then Some (Mflo (rd_of w)) else None) else
    if fn_of w == 19 then (if (rt_of w == 0) && (rd_of w == 0) && (sh_of w == 0) then Some (Mtlo (rs_of w)) else None) else
    if fn_of w == 24 then (if (rd_of w == 0) && (sh_of w == 0) then Some (Mult (rs_of w) (rt_of w)) else None) else
    if fn_of w == 25 then (if (rd_of w == 0) && (sh_of w == 0) then Some (Multu (rs_of w) (rt_of w)) else None) else
    if fn_of w == 26 then (if (rd_of w == 0) && (sh_of w == 0) then Some (Div (rs_of w) (rt_of w)) else None) else
    if fn_of w == 27 then (if (rd_of w == 0) && (sh_of w == 0) then Some (Divu (rs_of w) (rt_of w)) else None) else
    if fn_of w == 32 then (if (sh_of w == 0) then Some (Add (rs_of w) (rt_of w) (rd_of w)) else None) else
    if fn_of w == 33 then (if (sh_of w == 0) then Some (Addu (rs_of w) (rt_of w) (rd_of w)) else None) else
    if fn_of w == 34 then (if (sh_of w == 0) then Some (Sub (rs_of w) (rt_of w) (rd_of w)) else None) else
    if fn_of w == 35 then (if (sh_of w == 0) then Some (Subu (rs_of w) (rt_of w) (rd_of w)) else None) else
    if fn_of w == 36 then (if (sh_of w == 0) then Some (And (rs_of w) (rt_of w) (rd_of w)) else None) else
    if fn_of w == 37 then (if (sh_of w == 0) then Some (Or (rs_of w) (rt_of w) (rd_of w)) else None) else
    if fn_of w == 38 then (if (sh_of w == 0) then Some (Xor (rs_of w) (rt_of w) (rd_of w)) else None) else
    if fn_of w == 39 then (if (sh_of w == 0) then Some (Nor (rs_of w) (rt_of w) (rd_of w)) else None) else
    if fn_of w == 42 then (if (sh_of w == 0) then Some (Slt (rs_of w) (rt_of w) (rd_of w)) else None) else
    if fn_of w == 43 then (if (sh_of w == 0) then Some (Sltu (rs_of w) (rt_of w) (rd_of w)) else None) else
    None

-- the rows under op 1, by rt
abbrev pub regimm : ℕ → Option Inst
regimm w =
    if rt_of w == 0 then Some (Bltz (rs_of w) (imm_of w)) else
    if rt_of w == 1 then Some (Bgez (rs_of w) (imm_of w)) else
    if rt_of w == 16 then Some (Bltzal (rs_of w) (imm_of w)) else
    if rt_of w == 17 then Some (Bgezal (rs_of w) (imm_of w)) else
    None

-- the instruction of a word
unfoldable pub decoded : ℕ → Option Inst
decoded w =
    if op_of w == 0 then special w else
    if op_of w == 1 then regimm w else
    if op_of w == 2 then Some (J (index_of w)) else
    if op_of w == 3 then Some (Jal (index_of w)) else
    if op_of w == 4 then Some (Beq (rs_of w) (rt_of w) (imm_of w)) else
    if op_of w == 5 then Some (Bne (rs_of w) (rt_of w) (imm_of w)) else
    if op_of w == 6 then (if (rt_of w == 0) then Some (Blez (rs_of w) (imm_of w)) else None) else
    if op_of w == 7 then (if (rt_of w == 0) then Some (Bgtz (rs_of w) (imm_of w)) else None) else
    if op_of w == 8 then Some (Addi (rs_of w) (rt_of w) (imm_of w)) else
    if op_of w == 9 then Some (Addiu (rs_of w) (rt_of w) (imm_of w)) else
    if op_of w == 10 then Some (Slti (rs_of w) (rt_of w) (imm_of w)) else
    if op_of w == 11 then Some (Sltiu (rs_of w) (rt_of w) (imm_of w)) else
    if op_of w == 12 then Some (Andi (rs_of w) (rt_of w) (imm_of w)) else
    if op_of w == 13 then Some (Ori (rs_of w) (rt_of w) (imm_of w)) else
    if op_of w == 14 then Some (Xori (rs_of w) (rt_of w) (imm_of w)) else
    if op_of w == 15 then (if (rs_of w == 0) then Some (Lui (rt_of w) (imm_of w)) else None) else
    if op_of w == 32 then Some (Lb (rs_of w) (rt_of w) (imm_of w)) else
    if op_of w == 33 then Some (Lh (rs_of w) (rt_of w) (imm_of w)) else
    if op_of w == 35 then Some (Lw (rs_of w) (rt_of w) (imm_of w)) else
    if op_of w == 36 then Some (Lbu (rs_of w) (rt_of w) (imm_of w)) else
    if op_of w == 37 then Some (Lhu (rs_of w) (rt_of w) (imm_of w)) else
    if op_of w == 40 then Some (Sb (rs_of w) (rt_of w) (imm_of w)) else
    if op_of w == 41 then Some (Sh (rs_of w) (rt_of w) (imm_of w)) else
    if op_of w == 43 then Some (Sw (rs_of w) (rt_of w) (imm_of w)) else
    None
