-- What each instruction does, apart from when it happens, by the operations of the R3000's manual (Kane, "MIPS RISC
-- Architecture").
use Rattle.std.specs.Prelude.{ℕ, ◌+◌, ◌*◌, ◌/◌, ◌%◌, ◌^◌, ◌==◌, ◌||◌, nat_lt, Bool, true, false, not, bit_and, bit_or, bit_xor}
use Rattle.p9_base.specs.Words.{word_sum, word_difference, is_negative, is_signed_less, signed_quotient, signed_remainder, unsigned_product, signed_product, shift_left, shift_right, shift_right_signed, word_nor}
use Rattle.p9_base.specs.Numbers.{sign_extended}
pub use Rattle.p9_base.specs.Effects.{truth, low5, sum_overflows, difference_overflows, unless_overflow, wide_pair, unless_zero, address, load_byte, load_half, load_word, store_byte, store_half, store_word}
use Rattle.p9_r3k.specs.declared.inst.Inst.{Inst}
use Rattle.p9_r3k.specs.declared.inst.Inst.TheVariants.{J, Jal, Beq, Bne, Blez, Bgtz, Bltz, Bgez, Bltzal, Bgezal, Addi, Addiu, Slti, Sltiu, Andi, Ori, Xori, Lui, Lb, Lh, Lw, Lbu, Lhu, Sb, Sh, Sw, Sll, Srl, Sra, Sllv, Srlv, Srav, Jr, Jalr, Syscall, Break, Mfhi, Mthi, Mflo, Mtlo, Mult, Multu, Div, Divu, Add, Addu, Sub, Subu, And, Or, Xor, Nor, Slt, Sltu}
use Rattle.p9_base.specs.declared.halt.HaltCause.TheVariants as halts
use Rattle.p9_base.specs.declared.halt.Effect.{Effect}
use Rattle.p9_base.specs.declared.halt.Effect.TheVariants.{Write, Pair, Branch, JumpTo, Call, Stop}
use Rattle.p9_base.specs.Core.{Core, reg}

-- Branches and jumps

-- where a branch goes, if it is taken
abbrev pub branch_to : Core → ℕ → ℕ
branch_to c imm = (c.pc + 4 + 4 * sign_extended 16 imm) % 2 ^ 32

-- where a jump goes: in the 256 MiB of the instruction after it
abbrev pub jump_to : Core → ℕ → ℕ
jump_to c index = word_sum c.pc 4 / 2 ^ 28 * 2 ^ 28 + index * 4

-- Instructions

-- what each instruction does
abbrev pub effect_of : Inst → Core → Effect
effect_of (J index) c = Branch 0 true (jump_to c index)
effect_of (Jal index) c = Branch 31 true (jump_to c index)
effect_of (Beq rs rt imm) c = Branch 0 (reg c rs == reg c rt) (branch_to c imm)
effect_of (Bne rs rt imm) c = Branch 0 (not (reg c rs == reg c rt)) (branch_to c imm)
effect_of (Blez rs imm) c = Branch 0 (is_negative (reg c rs) || (reg c rs == 0)) (branch_to c imm)
effect_of (Bgtz rs imm) c = Branch 0 (not (is_negative (reg c rs) || (reg c rs == 0))) (branch_to c imm)
effect_of (Bltz rs imm) c = Branch 0 (is_negative (reg c rs)) (branch_to c imm)
effect_of (Bgez rs imm) c = Branch 0 (not (is_negative (reg c rs))) (branch_to c imm)
effect_of (Bltzal rs imm) c = Branch 31 (is_negative (reg c rs)) (branch_to c imm)
effect_of (Bgezal rs imm) c = Branch 31 (not (is_negative (reg c rs))) (branch_to c imm)
effect_of (Addi rs rt imm) c = unless_overflow (sum_overflows (reg c rs) (sign_extended 16 imm)) rt (word_sum (reg c rs) (sign_extended 16 imm))
effect_of (Addiu rs rt imm) c = Write rt (word_sum (reg c rs) (sign_extended 16 imm))
effect_of (Slti rs rt imm) c = Write rt (truth (is_signed_less (reg c rs) (sign_extended 16 imm)))
effect_of (Sltiu rs rt imm) c = Write rt (truth (nat_lt (reg c rs) (sign_extended 16 imm)))
effect_of (Andi rs rt imm) c = Write rt (bit_and (reg c rs) imm)
effect_of (Ori rs rt imm) c = Write rt (bit_or (reg c rs) imm)
effect_of (Xori rs rt imm) c = Write rt (bit_xor (reg c rs) imm)
effect_of (Lui rt imm) c = Write rt (imm * 2 ^ 16)
effect_of (Lb rs rt imm) c = load_byte c rt (address c rs imm) (sign_extended 8)
effect_of (Lh rs rt imm) c = load_half c rt (address c rs imm) (sign_extended 16)
effect_of (Lw rs rt imm) c = load_word c rt (address c rs imm)
effect_of (Lbu rs rt imm) c = load_byte c rt (address c rs imm) (λ b. b)
effect_of (Lhu rs rt imm) c = load_half c rt (address c rs imm) (λ h. h)
effect_of (Sb rs rt imm) c = store_byte c (address c rs imm) (reg c rt)
effect_of (Sh rs rt imm) c = store_half c (address c rs imm) (reg c rt)
effect_of (Sw rs rt imm) c = store_word c (address c rs imm) (reg c rt)
effect_of (Sll rt rd sh) c = Write rd (shift_left (reg c rt) sh)
effect_of (Srl rt rd sh) c = Write rd (shift_right (reg c rt) sh)
effect_of (Sra rt rd sh) c = Write rd (shift_right_signed (reg c rt) sh)
effect_of (Sllv rs rt rd) c = Write rd (shift_left (reg c rt) (low5 (reg c rs)))
effect_of (Srlv rs rt rd) c = Write rd (shift_right (reg c rt) (low5 (reg c rs)))
effect_of (Srav rs rt rd) c = Write rd (shift_right_signed (reg c rt) (low5 (reg c rs)))
effect_of (Jr rs) c = JumpTo 0 (reg c rs)
effect_of (Jalr rs rd) c = JumpTo rd (reg c rs)
effect_of (Syscall code) c = Call
effect_of (Break code) c = Stop halts.Break
effect_of (Mfhi rd) c = Write rd c.hi
effect_of (Mthi rs) c = Pair (reg c rs) c.lo
effect_of (Mflo rd) c = Write rd c.lo
effect_of (Mtlo rs) c = Pair c.hi (reg c rs)
effect_of (Mult rs rt) c = wide_pair (signed_product (reg c rs) (reg c rt))
effect_of (Multu rs rt) c = wide_pair (unsigned_product (reg c rs) (reg c rt))
effect_of (Div rs rt) c = unless_zero (reg c rt) (signed_remainder (reg c rs) (reg c rt)) (signed_quotient (reg c rs) (reg c rt))
effect_of (Divu rs rt) c = unless_zero (reg c rt) (reg c rs % reg c rt) (reg c rs / reg c rt)
effect_of (Add rs rt rd) c = unless_overflow (sum_overflows (reg c rs) (reg c rt)) rd (word_sum (reg c rs) (reg c rt))
effect_of (Addu rs rt rd) c = Write rd (word_sum (reg c rs) (reg c rt))
effect_of (Sub rs rt rd) c = unless_overflow (difference_overflows (reg c rs) (reg c rt)) rd (word_difference (reg c rs) (reg c rt))
effect_of (Subu rs rt rd) c = Write rd (word_difference (reg c rs) (reg c rt))
effect_of (And rs rt rd) c = Write rd (bit_and (reg c rs) (reg c rt))
effect_of (Or rs rt rd) c = Write rd (bit_or (reg c rs) (reg c rt))
effect_of (Xor rs rt rd) c = Write rd (bit_xor (reg c rs) (reg c rt))
effect_of (Nor rs rt rd) c = Write rd (word_nor (reg c rs) (reg c rt))
effect_of (Slt rs rt rd) c = Write rd (truth (is_signed_less (reg c rs) (reg c rt)))
effect_of (Sltu rs rt rd) c = Write rd (truth (nat_lt (reg c rs) (reg c rt)))

-- What the hazards ask

-- whether an instruction reads register r
abbrev pub reads : Inst → ℕ → Bool
reads (J index) r = false
reads (Jal index) r = false
reads (Beq rs rt imm) r = (rs == r) || (rt == r)
reads (Bne rs rt imm) r = (rs == r) || (rt == r)
reads (Blez rs imm) r = (rs == r)
reads (Bgtz rs imm) r = (rs == r)
reads (Bltz rs imm) r = (rs == r)
reads (Bgez rs imm) r = (rs == r)
reads (Bltzal rs imm) r = (rs == r)
reads (Bgezal rs imm) r = (rs == r)
reads (Addi rs rt imm) r = (rs == r)
reads (Addiu rs rt imm) r = (rs == r)
reads (Slti rs rt imm) r = (rs == r)
reads (Sltiu rs rt imm) r = (rs == r)
reads (Andi rs rt imm) r = (rs == r)
reads (Ori rs rt imm) r = (rs == r)
reads (Xori rs rt imm) r = (rs == r)
reads (Lui rt imm) r = false
reads (Lb rs rt imm) r = (rs == r)
reads (Lh rs rt imm) r = (rs == r)
reads (Lw rs rt imm) r = (rs == r)
reads (Lbu rs rt imm) r = (rs == r)
reads (Lhu rs rt imm) r = (rs == r)
reads (Sb rs rt imm) r = (rs == r) || (rt == r)
reads (Sh rs rt imm) r = (rs == r) || (rt == r)
reads (Sw rs rt imm) r = (rs == r) || (rt == r)
reads (Sll rt rd sh) r = (rt == r)
reads (Srl rt rd sh) r = (rt == r)
reads (Sra rt rd sh) r = (rt == r)
reads (Sllv rs rt rd) r = (rs == r) || (rt == r)
reads (Srlv rs rt rd) r = (rs == r) || (rt == r)
reads (Srav rs rt rd) r = (rs == r) || (rt == r)
reads (Jr rs) r = (rs == r)
reads (Jalr rs rd) r = (rs == r)
reads (Syscall code) r = (1 == r) || (29 == r)
reads (Break code) r = false
reads (Mfhi rd) r = false
reads (Mthi rs) r = (rs == r)
reads (Mflo rd) r = false
reads (Mtlo rs) r = (rs == r)
reads (Mult rs rt) r = (rs == r) || (rt == r)
reads (Multu rs rt) r = (rs == r) || (rt == r)
reads (Div rs rt) r = (rs == r) || (rt == r)
reads (Divu rs rt) r = (rs == r) || (rt == r)
reads (Add rs rt rd) r = (rs == r) || (rt == r)
reads (Addu rs rt rd) r = (rs == r) || (rt == r)
reads (Sub rs rt rd) r = (rs == r) || (rt == r)
reads (Subu rs rt rd) r = (rs == r) || (rt == r)
reads (And rs rt rd) r = (rs == r) || (rt == r)
reads (Or rs rt rd) r = (rs == r) || (rt == r)
reads (Xor rs rt rd) r = (rs == r) || (rt == r)
reads (Nor rs rt rd) r = (rs == r) || (rt == r)
reads (Slt rs rt rd) r = (rs == r) || (rt == r)
reads (Sltu rs rt rd) r = (rs == r) || (rt == r)

-- whether an instruction reads HI or LO
abbrev pub reads_pair : Inst → Bool
reads_pair (Mfhi rd) = true
reads_pair (Mflo rd) = true
reads_pair _ = false

-- whether an instruction writes HI or LO
abbrev pub writes_pair : Inst → Bool
writes_pair (Mthi rs) = true
writes_pair (Mtlo rs) = true
writes_pair (Mult rs rt) = true
writes_pair (Multu rs rt) = true
writes_pair (Div rs rt) = true
writes_pair (Divu rs rt) = true
writes_pair _ = false

-- whether an instruction is a branch or jump
abbrev pub branches : Inst → Bool
branches (J index) = true
branches (Jal index) = true
branches (Beq rs rt imm) = true
branches (Bne rs rt imm) = true
branches (Blez rs imm) = true
branches (Bgtz rs imm) = true
branches (Bltz rs imm) = true
branches (Bgez rs imm) = true
branches (Bltzal rs imm) = true
branches (Bgezal rs imm) = true
branches (Jr rs) = true
branches (Jalr rs rd) = true
branches _ = false
