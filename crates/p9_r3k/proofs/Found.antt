-- What is fetched is an instruction whose fields fit.
use Rattle.std.proofs.Common.{ℕ, ◌^◌, ◌<◌, ◌==◌, ◌≡◌, ◌||◌, ◌&&◌, Bool, true, false, not, Option, Some, None, Result, Ok, Err, ap, subst, arith, if◌then◌else◌, IfSome}
use Rattle.p9_r3k.specs.declared.inst.Inst.{Inst}
use Rattle.p9_r3k.specs.declared.inst.Inst.TheVariants.{J, Jal, Beq, Bne, Blez, Bgtz, Bltz, Bgez, Bltzal, Bgezal, Addi, Addiu, Slti, Sltiu, Andi, Ori, Xori, Lui, Lb, Lh, Lw, Lbu, Lhu, Sb, Sh, Sw, Sll, Srl, Sra, Sllv, Srlv, Srav, Jr, Jalr, Syscall, Break, Mfhi, Mthi, Mflo, Mtlo, Mult, Multu, Div, Divu, Add, Addu, Sub, Subu, And, Or, Xor, Nor, Slt, Sltu}
use Rattle.p9_base.specs.declared.halt.HaltCause.{HaltCause}
use Rattle.p9_base.specs.declared.halt.HaltCause.TheVariants.{Fetch, LoadHazard, HiLoHazard, SlotBranch}
use Rattle.p9_r3k.specs.Fields.{op_of, rs_of, rt_of, rd_of, sh_of, fn_of, imm_of, index_of, code_of}
use Rattle.p9_r3k.specs.Table.{Fits, decoded, special, regimm}
use Rattle.p9_r3k.specs.Memory.{Core, read_word}
use Rattle.p9_r3k.specs.Effects.{reads, writes_pair, branches}
use Rattle.p9_r3k.specs.Machine.{in_text, without_hazard, fetched}
use Rattle.p9_r3k.proofs.Quiet.{three_tests}

rs-fits : (w : ℕ) → rs_of w < 2 ^ 5
rs-fits w = omega arith

rt-fits : (w : ℕ) → rt_of w < 2 ^ 5
rt-fits w = omega arith

rd-fits : (w : ℕ) → rd_of w < 2 ^ 5
rd-fits w = omega arith

sh-fits : (w : ℕ) → sh_of w < 2 ^ 5
sh-fits w = omega arith

imm-fits : (w : ℕ) → imm_of w < 2 ^ 16
imm-fits w = omega arith

index-fits : (w : ℕ) → index_of w < 2 ^ 26
index-fits w = omega arith

code-fits : (w : ℕ) → code_of w < 2 ^ 20
code-fits w = omega arith

record FitsIfFound (o : Option Inst) : Type 0 where
  found : IfSome o Fits

none-fits : FitsIfFound None
none-fits = record { found = tt }

some-fits : (i : Inst) → Fits i → FitsIfFound (Some i)
some-fits i h = record { found = h }

choice-fits : {x y : Option Inst} (b : Bool) → FitsIfFound x → FitsIfFound y → FitsIfFound (if b then x else y)
choice-fits true hx hy = hx
choice-fits false hx hy = hy

special-fits : (w : ℕ) → FitsIfFound (special w)
special-fits w =
    choice-fits (fn_of w == 0) (choice-fits ((rs_of w == 0)) (some-fits (Sll (rt_of w) (rd_of w) (sh_of w)) (rt-fits w, rd-fits w, sh-fits w)) none-fits) (
    choice-fits (fn_of w == 2) (choice-fits ((rs_of w == 0)) (some-fits (Srl (rt_of w) (rd_of w) (sh_of w)) (rt-fits w, rd-fits w, sh-fits w)) none-fits) (
    choice-fits (fn_of w == 3) (choice-fits ((rs_of w == 0)) (some-fits (Sra (rt_of w) (rd_of w) (sh_of w)) (rt-fits w, rd-fits w, sh-fits w)) none-fits) (
    choice-fits (fn_of w == 4) (choice-fits ((sh_of w == 0)) (some-fits (Sllv (rs_of w) (rt_of w) (rd_of w)) (rs-fits w, rt-fits w, rd-fits w)) none-fits) (
    choice-fits (fn_of w == 6) (choice-fits ((sh_of w == 0)) (some-fits (Srlv (rs_of w) (rt_of w) (rd_of w)) (rs-fits w, rt-fits w, rd-fits w)) none-fits) (
    choice-fits (fn_of w == 7) (choice-fits ((sh_of w == 0)) (some-fits (Srav (rs_of w) (rt_of w) (rd_of w)) (rs-fits w, rt-fits w, rd-fits w)) none-fits) (
    choice-fits (fn_of w == 8) (choice-fits ((rt_of w == 0) && (rd_of w == 0) && (sh_of w == 0)) (some-fits (Jr (rs_of w)) (rs-fits w)) none-fits) (
    choice-fits (fn_of w == 9) (choice-fits ((rt_of w == 0) && (sh_of w == 0)) (some-fits (Jalr (rs_of w) (rd_of w)) (rs-fits w, rd-fits w)) none-fits) (
    choice-fits (fn_of w == 12) (some-fits (Syscall (code_of w)) (code-fits w)) (
    choice-fits (fn_of w == 13) (some-fits (Break (code_of w)) (code-fits w)) (
    choice-fits (fn_of w == 16) (choice-fits ((rs_of w == 0) && (rt_of w == 0) && (sh_of w == 0)) (some-fits (Mfhi (rd_of w)) (rd-fits w)) none-fits) (
    choice-fits (fn_of w == 17) (choice-fits ((rt_of w == 0) && (rd_of w == 0) && (sh_of w == 0)) (some-fits (Mthi (rs_of w)) (rs-fits w)) none-fits) (
    choice-fits (fn_of w == 18) (choice-fits ((rs_of w == 0) && (rt_of w == 0) && (sh_of w == 0)) (some-fits (Mflo (rd_of w)) (rd-fits w)) none-fits) (
    choice-fits (fn_of w == 19) (choice-fits ((rt_of w == 0) && (rd_of w == 0) && (sh_of w == 0)) (some-fits (Mtlo (rs_of w)) (rs-fits w)) none-fits) (
    choice-fits (fn_of w == 24) (choice-fits ((rd_of w == 0) && (sh_of w == 0)) (some-fits (Mult (rs_of w) (rt_of w)) (rs-fits w, rt-fits w)) none-fits) (
    choice-fits (fn_of w == 25) (choice-fits ((rd_of w == 0) && (sh_of w == 0)) (some-fits (Multu (rs_of w) (rt_of w)) (rs-fits w, rt-fits w)) none-fits) (
    choice-fits (fn_of w == 26) (choice-fits ((rd_of w == 0) && (sh_of w == 0)) (some-fits (Div (rs_of w) (rt_of w)) (rs-fits w, rt-fits w)) none-fits) (
    choice-fits (fn_of w == 27) (choice-fits ((rd_of w == 0) && (sh_of w == 0)) (some-fits (Divu (rs_of w) (rt_of w)) (rs-fits w, rt-fits w)) none-fits) (
    choice-fits (fn_of w == 32) (choice-fits ((sh_of w == 0)) (some-fits (Add (rs_of w) (rt_of w) (rd_of w)) (rs-fits w, rt-fits w, rd-fits w)) none-fits) (
    choice-fits (fn_of w == 33) (choice-fits ((sh_of w == 0)) (some-fits (Addu (rs_of w) (rt_of w) (rd_of w)) (rs-fits w, rt-fits w, rd-fits w)) none-fits) (
    choice-fits (fn_of w == 34) (choice-fits ((sh_of w == 0)) (some-fits (Sub (rs_of w) (rt_of w) (rd_of w)) (rs-fits w, rt-fits w, rd-fits w)) none-fits) (
    choice-fits (fn_of w == 35) (choice-fits ((sh_of w == 0)) (some-fits (Subu (rs_of w) (rt_of w) (rd_of w)) (rs-fits w, rt-fits w, rd-fits w)) none-fits) (
    choice-fits (fn_of w == 36) (choice-fits ((sh_of w == 0)) (some-fits (And (rs_of w) (rt_of w) (rd_of w)) (rs-fits w, rt-fits w, rd-fits w)) none-fits) (
    choice-fits (fn_of w == 37) (choice-fits ((sh_of w == 0)) (some-fits (Or (rs_of w) (rt_of w) (rd_of w)) (rs-fits w, rt-fits w, rd-fits w)) none-fits) (
    choice-fits (fn_of w == 38) (choice-fits ((sh_of w == 0)) (some-fits (Xor (rs_of w) (rt_of w) (rd_of w)) (rs-fits w, rt-fits w, rd-fits w)) none-fits) (
    choice-fits (fn_of w == 39) (choice-fits ((sh_of w == 0)) (some-fits (Nor (rs_of w) (rt_of w) (rd_of w)) (rs-fits w, rt-fits w, rd-fits w)) none-fits) (
    choice-fits (fn_of w == 42) (choice-fits ((sh_of w == 0)) (some-fits (Slt (rs_of w) (rt_of w) (rd_of w)) (rs-fits w, rt-fits w, rd-fits w)) none-fits) (
    choice-fits (fn_of w == 43) (choice-fits ((sh_of w == 0)) (some-fits (Sltu (rs_of w) (rt_of w) (rd_of w)) (rs-fits w, rt-fits w, rd-fits w)) none-fits) (
    none-fits))))))))))))))))))))))))))))

regimm-fits : (w : ℕ) → FitsIfFound (regimm w)
regimm-fits w =
    choice-fits (rt_of w == 0) (some-fits (Bltz (rs_of w) (imm_of w)) (rs-fits w, imm-fits w)) (
    choice-fits (rt_of w == 1) (some-fits (Bgez (rs_of w) (imm_of w)) (rs-fits w, imm-fits w)) (
    choice-fits (rt_of w == 16) (some-fits (Bltzal (rs_of w) (imm_of w)) (rs-fits w, imm-fits w)) (
    choice-fits (rt_of w == 17) (some-fits (Bgezal (rs_of w) (imm_of w)) (rs-fits w, imm-fits w)) (
    none-fits))))

decoded-fits : (w : ℕ) → FitsIfFound (decoded w)
unfolding decoded
decoded-fits w =
    choice-fits (op_of w == 0) (special-fits w) (
    choice-fits (op_of w == 1) (regimm-fits w) (
    choice-fits (op_of w == 2) (some-fits (J (index_of w)) (index-fits w)) (
    choice-fits (op_of w == 3) (some-fits (Jal (index_of w)) (index-fits w)) (
    choice-fits (op_of w == 4) (some-fits (Beq (rs_of w) (rt_of w) (imm_of w)) (rs-fits w, rt-fits w, imm-fits w)) (
    choice-fits (op_of w == 5) (some-fits (Bne (rs_of w) (rt_of w) (imm_of w)) (rs-fits w, rt-fits w, imm-fits w)) (
    choice-fits (op_of w == 6) (choice-fits ((rt_of w == 0)) (some-fits (Blez (rs_of w) (imm_of w)) (rs-fits w, imm-fits w)) none-fits) (
    choice-fits (op_of w == 7) (choice-fits ((rt_of w == 0)) (some-fits (Bgtz (rs_of w) (imm_of w)) (rs-fits w, imm-fits w)) none-fits) (
    choice-fits (op_of w == 8) (some-fits (Addi (rs_of w) (rt_of w) (imm_of w)) (rs-fits w, rt-fits w, imm-fits w)) (
    choice-fits (op_of w == 9) (some-fits (Addiu (rs_of w) (rt_of w) (imm_of w)) (rs-fits w, rt-fits w, imm-fits w)) (
    choice-fits (op_of w == 10) (some-fits (Slti (rs_of w) (rt_of w) (imm_of w)) (rs-fits w, rt-fits w, imm-fits w)) (
    choice-fits (op_of w == 11) (some-fits (Sltiu (rs_of w) (rt_of w) (imm_of w)) (rs-fits w, rt-fits w, imm-fits w)) (
    choice-fits (op_of w == 12) (some-fits (Andi (rs_of w) (rt_of w) (imm_of w)) (rs-fits w, rt-fits w, imm-fits w)) (
    choice-fits (op_of w == 13) (some-fits (Ori (rs_of w) (rt_of w) (imm_of w)) (rs-fits w, rt-fits w, imm-fits w)) (
    choice-fits (op_of w == 14) (some-fits (Xori (rs_of w) (rt_of w) (imm_of w)) (rs-fits w, rt-fits w, imm-fits w)) (
    choice-fits (op_of w == 15) (choice-fits ((rs_of w == 0)) (some-fits (Lui (rt_of w) (imm_of w)) (rt-fits w, imm-fits w)) none-fits) (
    choice-fits (op_of w == 32) (some-fits (Lb (rs_of w) (rt_of w) (imm_of w)) (rs-fits w, rt-fits w, imm-fits w)) (
    choice-fits (op_of w == 33) (some-fits (Lh (rs_of w) (rt_of w) (imm_of w)) (rs-fits w, rt-fits w, imm-fits w)) (
    choice-fits (op_of w == 35) (some-fits (Lw (rs_of w) (rt_of w) (imm_of w)) (rs-fits w, rt-fits w, imm-fits w)) (
    choice-fits (op_of w == 36) (some-fits (Lbu (rs_of w) (rt_of w) (imm_of w)) (rs-fits w, rt-fits w, imm-fits w)) (
    choice-fits (op_of w == 37) (some-fits (Lhu (rs_of w) (rt_of w) (imm_of w)) (rs-fits w, rt-fits w, imm-fits w)) (
    choice-fits (op_of w == 40) (some-fits (Sb (rs_of w) (rt_of w) (imm_of w)) (rs-fits w, rt-fits w, imm-fits w)) (
    choice-fits (op_of w == 41) (some-fits (Sh (rs_of w) (rt_of w) (imm_of w)) (rs-fits w, rt-fits w, imm-fits w)) (
    choice-fits (op_of w == 43) (some-fits (Sw (rs_of w) (rt_of w) (imm_of w)) (rs-fits w, rt-fits w, imm-fits w)) (
    none-fits))))))))))))))))))))))))

pub decoded-found : (w : ℕ) (i : Inst) → decoded w ≡ Some i → Fits i
decoded-found w i e =
    let P : Option Inst → Type 0 = λ o. IfSome o Fits in
    subst P e (decoded-fits w).found

pub without_hazard-found : (o : Option Inst) (c : Core) (i : Inst) → without_hazard o c ≡ Ok i → o ≡ Some i
without_hazard-found None c i e = cc
without_hazard-found (Some j) c i e =
    ap Some (three_tests (not (c.loaded == 0) && reads j c.loaded) (writes_pair j && (c.used || c.used_before)) (c.slot && branches j)
    LoadHazard HiLoHazard SlotBranch i j e).1

pub choice-found : (b : Bool) (o : Option Inst) (c : Core) (i : Inst) (x : HaltCause) →
    (let r : Result Inst HaltCause = (if b then without_hazard o c else Err x) in r ≡ Ok i) → o ≡ Some i
choice-found true o c i x e = without_hazard-found o c i e
choice-found false o c i x e = cc

-- the word at the pc is of the instruction that is fetched
pub fetched-decoded : (c : Core) (i : Inst) → fetched c ≡ Ok i → decoded (read_word c c.pc) ≡ Some i
unfolding fetched
fetched-decoded c i e = choice-found (in_text c) (decoded (read_word c c.pc)) c i Fetch e

pub fetched-fits : (c : Core) (i : Inst) → fetched c ≡ Ok i → Fits i
fetched-fits c i e = decoded-found (read_word c c.pc) i (fetched-decoded c i e)
