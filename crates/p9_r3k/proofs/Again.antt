-- An instruction is read again from its word.
use Rattle.std.proofs.Common.{ℕ, ◌≡◌, ◌^◌, ◌<◌, Some, refl, arith, lit<}
use Rattle.p9_r3k.specs.declared.inst.Inst.{Inst}
use Rattle.p9_r3k.specs.declared.inst.Inst.TheVariants.{J, Jal, Beq, Bne, Blez, Bgtz, Bltz, Bgez, Bltzal, Bgezal, Addi, Addiu, Slti, Sltiu, Andi, Ori, Xori, Lui, Lb, Lh, Lw, Lbu, Lhu, Sb, Sh, Sw, Sll, Srl, Sra, Sllv, Srlv, Srav, Jr, Jalr, Syscall, Break, Mfhi, Mthi, Mflo, Mtlo, Mult, Multu, Div, Divu, Add, Addu, Sub, Subu, And, Or, Xor, Nor, Slt, Sltu}
use Rattle.p9_r3k.specs.Fields.{op_of, rs_of, rt_of, rd_of, sh_of, fn_of, imm_of, index_of, code_of, r_word, i_word, j_word, c_word}
use Rattle.p9_r3k.specs.Table.{Fits, word_of, decoded}

record IsR (w s t d h f : ℕ) : Type 0 where
  op : op_of w ≡ 0
  rs : rs_of w ≡ s
  rt : rt_of w ≡ t
  rd : rd_of w ≡ d
  sh : sh_of w ≡ h
  fn : fn_of w ≡ f

r-fields : (rs rt rd sh fn : ℕ) → rs < 32 → rt < 32 → rd < 32 → sh < 32 → fn < 64 → IsR (r_word rs rt rd sh fn) rs rt rd sh fn
r-fields rs rt rd sh fn h1 h2 h3 h4 h5 = record {
  op = omega arith;
  rs = omega arith;
  rt = omega arith;
  rd = omega arith;
  sh = omega arith;
  fn = omega arith;
}

record IsI (w o s t m : ℕ) : Type 0 where
  op : op_of w ≡ o
  rs : rs_of w ≡ s
  rt : rt_of w ≡ t
  imm : imm_of w ≡ m

i-fields : (op rs rt imm : ℕ) → op < 64 → rs < 32 → rt < 32 → imm < 2 ^ 16 → IsI (i_word op rs rt imm) op rs rt imm
i-fields op rs rt imm h1 h2 h3 h4 = record {
  op = omega arith;
  rs = omega arith;
  rt = omega arith;
  imm = omega arith;
}

record IsJ (w o x : ℕ) : Type 0 where
  op : op_of w ≡ o
  index : index_of w ≡ x

j-fields : (op index : ℕ) → op < 64 → index < 2 ^ 26 → IsJ (j_word op index) op index
j-fields op index h1 h2 = record { op = omega arith; index = omega arith }

record IsC (w c f : ℕ) : Type 0 where
  op : op_of w ≡ 0
  code : code_of w ≡ c
  fn : fn_of w ≡ f

c-fields : (code fn : ℕ) → code < 2 ^ 20 → fn < 64 → IsC (c_word code fn) code fn
c-fields code fn h1 h2 = record { op = omega arith; code = omega arith; fn = omega arith }

pub again : (i : Inst) → Fits i → decoded (word_of i) ≡ Some i
unfolding decoded
again (J index) h =
    let f : IsJ (j_word 2 index) 2 index = j-fields 2 index (lit< tt) h in
    rw (f.op, f.index) refl
again (Jal index) h =
    let f : IsJ (j_word 3 index) 3 index = j-fields 3 index (lit< tt) h in
    rw (f.op, f.index) refl
again (Beq rs rt imm) h =
    let f : IsI (i_word 4 rs rt imm) 4 rs rt imm = i-fields 4 rs rt imm (lit< tt) h.0 h.1 h.2 in
    rw (f.op, f.rt, f.rs, f.imm) refl
again (Bne rs rt imm) h =
    let f : IsI (i_word 5 rs rt imm) 5 rs rt imm = i-fields 5 rs rt imm (lit< tt) h.0 h.1 h.2 in
    rw (f.op, f.rt, f.rs, f.imm) refl
again (Blez rs imm) h =
    let f : IsI (i_word 6 rs 0 imm) 6 rs 0 imm = i-fields 6 rs 0 imm (lit< tt) h.0 (lit< tt) h.1 in
    rw (f.op, f.rt, f.rs, f.imm) refl
again (Bgtz rs imm) h =
    let f : IsI (i_word 7 rs 0 imm) 7 rs 0 imm = i-fields 7 rs 0 imm (lit< tt) h.0 (lit< tt) h.1 in
    rw (f.op, f.rt, f.rs, f.imm) refl
again (Bltz rs imm) h =
    let f : IsI (i_word 1 rs 0 imm) 1 rs 0 imm = i-fields 1 rs 0 imm (lit< tt) h.0 (lit< tt) h.1 in
    rw (f.op, f.rt, f.rs, f.imm) refl
again (Bgez rs imm) h =
    let f : IsI (i_word 1 rs 1 imm) 1 rs 1 imm = i-fields 1 rs 1 imm (lit< tt) h.0 (lit< tt) h.1 in
    rw (f.op, f.rt, f.rs, f.imm) refl
again (Bltzal rs imm) h =
    let f : IsI (i_word 1 rs 16 imm) 1 rs 16 imm = i-fields 1 rs 16 imm (lit< tt) h.0 (lit< tt) h.1 in
    rw (f.op, f.rt, f.rs, f.imm) refl
again (Bgezal rs imm) h =
    let f : IsI (i_word 1 rs 17 imm) 1 rs 17 imm = i-fields 1 rs 17 imm (lit< tt) h.0 (lit< tt) h.1 in
    rw (f.op, f.rt, f.rs, f.imm) refl
again (Addi rs rt imm) h =
    let f : IsI (i_word 8 rs rt imm) 8 rs rt imm = i-fields 8 rs rt imm (lit< tt) h.0 h.1 h.2 in
    rw (f.op, f.rt, f.rs, f.imm) refl
again (Addiu rs rt imm) h =
    let f : IsI (i_word 9 rs rt imm) 9 rs rt imm = i-fields 9 rs rt imm (lit< tt) h.0 h.1 h.2 in
    rw (f.op, f.rt, f.rs, f.imm) refl
again (Slti rs rt imm) h =
    let f : IsI (i_word 10 rs rt imm) 10 rs rt imm = i-fields 10 rs rt imm (lit< tt) h.0 h.1 h.2 in
    rw (f.op, f.rt, f.rs, f.imm) refl
again (Sltiu rs rt imm) h =
    let f : IsI (i_word 11 rs rt imm) 11 rs rt imm = i-fields 11 rs rt imm (lit< tt) h.0 h.1 h.2 in
    rw (f.op, f.rt, f.rs, f.imm) refl
again (Andi rs rt imm) h =
    let f : IsI (i_word 12 rs rt imm) 12 rs rt imm = i-fields 12 rs rt imm (lit< tt) h.0 h.1 h.2 in
    rw (f.op, f.rt, f.rs, f.imm) refl
again (Ori rs rt imm) h =
    let f : IsI (i_word 13 rs rt imm) 13 rs rt imm = i-fields 13 rs rt imm (lit< tt) h.0 h.1 h.2 in
    rw (f.op, f.rt, f.rs, f.imm) refl
again (Xori rs rt imm) h =
    let f : IsI (i_word 14 rs rt imm) 14 rs rt imm = i-fields 14 rs rt imm (lit< tt) h.0 h.1 h.2 in
    rw (f.op, f.rt, f.rs, f.imm) refl
again (Lui rt imm) h =
    let f : IsI (i_word 15 0 rt imm) 15 0 rt imm = i-fields 15 0 rt imm (lit< tt) (lit< tt) h.0 h.1 in
    rw (f.op, f.rt, f.rs, f.imm) refl
again (Lb rs rt imm) h =
    let f : IsI (i_word 32 rs rt imm) 32 rs rt imm = i-fields 32 rs rt imm (lit< tt) h.0 h.1 h.2 in
    rw (f.op, f.rt, f.rs, f.imm) refl
again (Lh rs rt imm) h =
    let f : IsI (i_word 33 rs rt imm) 33 rs rt imm = i-fields 33 rs rt imm (lit< tt) h.0 h.1 h.2 in
    rw (f.op, f.rt, f.rs, f.imm) refl
again (Lw rs rt imm) h =
    let f : IsI (i_word 35 rs rt imm) 35 rs rt imm = i-fields 35 rs rt imm (lit< tt) h.0 h.1 h.2 in
    rw (f.op, f.rt, f.rs, f.imm) refl
again (Lbu rs rt imm) h =
    let f : IsI (i_word 36 rs rt imm) 36 rs rt imm = i-fields 36 rs rt imm (lit< tt) h.0 h.1 h.2 in
    rw (f.op, f.rt, f.rs, f.imm) refl
again (Lhu rs rt imm) h =
    let f : IsI (i_word 37 rs rt imm) 37 rs rt imm = i-fields 37 rs rt imm (lit< tt) h.0 h.1 h.2 in
    rw (f.op, f.rt, f.rs, f.imm) refl
again (Sb rs rt imm) h =
    let f : IsI (i_word 40 rs rt imm) 40 rs rt imm = i-fields 40 rs rt imm (lit< tt) h.0 h.1 h.2 in
    rw (f.op, f.rt, f.rs, f.imm) refl
again (Sh rs rt imm) h =
    let f : IsI (i_word 41 rs rt imm) 41 rs rt imm = i-fields 41 rs rt imm (lit< tt) h.0 h.1 h.2 in
    rw (f.op, f.rt, f.rs, f.imm) refl
again (Sw rs rt imm) h =
    let f : IsI (i_word 43 rs rt imm) 43 rs rt imm = i-fields 43 rs rt imm (lit< tt) h.0 h.1 h.2 in
    rw (f.op, f.rt, f.rs, f.imm) refl
again (Sll rt rd sh) h =
    let f : IsR (r_word 0 rt rd sh 0) 0 rt rd sh 0 = r-fields 0 rt rd sh 0 (lit< tt) h.0 h.1 h.2 (lit< tt) in
    rw (f.op, f.fn, f.sh, f.rs, f.rt, f.rd) refl
again (Srl rt rd sh) h =
    let f : IsR (r_word 0 rt rd sh 2) 0 rt rd sh 2 = r-fields 0 rt rd sh 2 (lit< tt) h.0 h.1 h.2 (lit< tt) in
    rw (f.op, f.fn, f.sh, f.rs, f.rt, f.rd) refl
again (Sra rt rd sh) h =
    let f : IsR (r_word 0 rt rd sh 3) 0 rt rd sh 3 = r-fields 0 rt rd sh 3 (lit< tt) h.0 h.1 h.2 (lit< tt) in
    rw (f.op, f.fn, f.sh, f.rs, f.rt, f.rd) refl
again (Sllv rs rt rd) h =
    let f : IsR (r_word rs rt rd 0 4) rs rt rd 0 4 = r-fields rs rt rd 0 4 h.0 h.1 h.2 (lit< tt) (lit< tt) in
    rw (f.op, f.fn, f.sh, f.rs, f.rt, f.rd) refl
again (Srlv rs rt rd) h =
    let f : IsR (r_word rs rt rd 0 6) rs rt rd 0 6 = r-fields rs rt rd 0 6 h.0 h.1 h.2 (lit< tt) (lit< tt) in
    rw (f.op, f.fn, f.sh, f.rs, f.rt, f.rd) refl
again (Srav rs rt rd) h =
    let f : IsR (r_word rs rt rd 0 7) rs rt rd 0 7 = r-fields rs rt rd 0 7 h.0 h.1 h.2 (lit< tt) (lit< tt) in
    rw (f.op, f.fn, f.sh, f.rs, f.rt, f.rd) refl
again (Jr rs) h =
    let f : IsR (r_word rs 0 0 0 8) rs 0 0 0 8 = r-fields rs 0 0 0 8 h (lit< tt) (lit< tt) (lit< tt) (lit< tt) in
    rw (f.op, f.fn, f.sh, f.rs, f.rt, f.rd) refl
again (Jalr rs rd) h =
    let f : IsR (r_word rs 0 rd 0 9) rs 0 rd 0 9 = r-fields rs 0 rd 0 9 h.0 (lit< tt) h.1 (lit< tt) (lit< tt) in
    rw (f.op, f.fn, f.sh, f.rs, f.rt, f.rd) refl
again (Syscall code) h =
    let f : IsC (c_word code 12) code 12 = c-fields code 12 h (lit< tt) in
    rw (f.op, f.fn, f.code) refl
again (Break code) h =
    let f : IsC (c_word code 13) code 13 = c-fields code 13 h (lit< tt) in
    rw (f.op, f.fn, f.code) refl
again (Mfhi rd) h =
    let f : IsR (r_word 0 0 rd 0 16) 0 0 rd 0 16 = r-fields 0 0 rd 0 16 (lit< tt) (lit< tt) h (lit< tt) (lit< tt) in
    rw (f.op, f.fn, f.sh, f.rs, f.rt, f.rd) refl
again (Mthi rs) h =
    let f : IsR (r_word rs 0 0 0 17) rs 0 0 0 17 = r-fields rs 0 0 0 17 h (lit< tt) (lit< tt) (lit< tt) (lit< tt) in
    rw (f.op, f.fn, f.sh, f.rs, f.rt, f.rd) refl
again (Mflo rd) h =
    let f : IsR (r_word 0 0 rd 0 18) 0 0 rd 0 18 = r-fields 0 0 rd 0 18 (lit< tt) (lit< tt) h (lit< tt) (lit< tt) in
    rw (f.op, f.fn, f.sh, f.rs, f.rt, f.rd) refl
again (Mtlo rs) h =
    let f : IsR (r_word rs 0 0 0 19) rs 0 0 0 19 = r-fields rs 0 0 0 19 h (lit< tt) (lit< tt) (lit< tt) (lit< tt) in
    rw (f.op, f.fn, f.sh, f.rs, f.rt, f.rd) refl
again (Mult rs rt) h =
    let f : IsR (r_word rs rt 0 0 24) rs rt 0 0 24 = r-fields rs rt 0 0 24 h.0 h.1 (lit< tt) (lit< tt) (lit< tt) in
    rw (f.op, f.fn, f.sh, f.rs, f.rt, f.rd) refl
again (Multu rs rt) h =
    let f : IsR (r_word rs rt 0 0 25) rs rt 0 0 25 = r-fields rs rt 0 0 25 h.0 h.1 (lit< tt) (lit< tt) (lit< tt) in
    rw (f.op, f.fn, f.sh, f.rs, f.rt, f.rd) refl
again (Div rs rt) h =
    let f : IsR (r_word rs rt 0 0 26) rs rt 0 0 26 = r-fields rs rt 0 0 26 h.0 h.1 (lit< tt) (lit< tt) (lit< tt) in
    rw (f.op, f.fn, f.sh, f.rs, f.rt, f.rd) refl
again (Divu rs rt) h =
    let f : IsR (r_word rs rt 0 0 27) rs rt 0 0 27 = r-fields rs rt 0 0 27 h.0 h.1 (lit< tt) (lit< tt) (lit< tt) in
    rw (f.op, f.fn, f.sh, f.rs, f.rt, f.rd) refl
again (Add rs rt rd) h =
    let f : IsR (r_word rs rt rd 0 32) rs rt rd 0 32 = r-fields rs rt rd 0 32 h.0 h.1 h.2 (lit< tt) (lit< tt) in
    rw (f.op, f.fn, f.sh, f.rs, f.rt, f.rd) refl
again (Addu rs rt rd) h =
    let f : IsR (r_word rs rt rd 0 33) rs rt rd 0 33 = r-fields rs rt rd 0 33 h.0 h.1 h.2 (lit< tt) (lit< tt) in
    rw (f.op, f.fn, f.sh, f.rs, f.rt, f.rd) refl
again (Sub rs rt rd) h =
    let f : IsR (r_word rs rt rd 0 34) rs rt rd 0 34 = r-fields rs rt rd 0 34 h.0 h.1 h.2 (lit< tt) (lit< tt) in
    rw (f.op, f.fn, f.sh, f.rs, f.rt, f.rd) refl
again (Subu rs rt rd) h =
    let f : IsR (r_word rs rt rd 0 35) rs rt rd 0 35 = r-fields rs rt rd 0 35 h.0 h.1 h.2 (lit< tt) (lit< tt) in
    rw (f.op, f.fn, f.sh, f.rs, f.rt, f.rd) refl
again (And rs rt rd) h =
    let f : IsR (r_word rs rt rd 0 36) rs rt rd 0 36 = r-fields rs rt rd 0 36 h.0 h.1 h.2 (lit< tt) (lit< tt) in
    rw (f.op, f.fn, f.sh, f.rs, f.rt, f.rd) refl
again (Or rs rt rd) h =
    let f : IsR (r_word rs rt rd 0 37) rs rt rd 0 37 = r-fields rs rt rd 0 37 h.0 h.1 h.2 (lit< tt) (lit< tt) in
    rw (f.op, f.fn, f.sh, f.rs, f.rt, f.rd) refl
again (Xor rs rt rd) h =
    let f : IsR (r_word rs rt rd 0 38) rs rt rd 0 38 = r-fields rs rt rd 0 38 h.0 h.1 h.2 (lit< tt) (lit< tt) in
    rw (f.op, f.fn, f.sh, f.rs, f.rt, f.rd) refl
again (Nor rs rt rd) h =
    let f : IsR (r_word rs rt rd 0 39) rs rt rd 0 39 = r-fields rs rt rd 0 39 h.0 h.1 h.2 (lit< tt) (lit< tt) in
    rw (f.op, f.fn, f.sh, f.rs, f.rt, f.rd) refl
again (Slt rs rt rd) h =
    let f : IsR (r_word rs rt rd 0 42) rs rt rd 0 42 = r-fields rs rt rd 0 42 h.0 h.1 h.2 (lit< tt) (lit< tt) in
    rw (f.op, f.fn, f.sh, f.rs, f.rt, f.rd) refl
again (Sltu rs rt rd) h =
    let f : IsR (r_word rs rt rd 0 43) rs rt rd 0 43 = r-fields rs rt rd 0 43 h.0 h.1 h.2 (lit< tt) (lit< tt) in
    rw (f.op, f.fn, f.sh, f.rs, f.rt, f.rd) refl
