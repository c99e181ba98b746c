-- An effect rests on what its instruction reads alone.
use Rattle.std.proofs.Common.{ℕ, ◌==◌, ◌||◌, ◌≡◌, Bool, true, false, refl, arith}
use Rattle.std.proofs.lemmas.Bool.Decides.{nat_tests}
use Rattle.p9_r3k.specs.declared.inst.Inst.{Inst}
use Rattle.p9_r3k.specs.declared.inst.Inst.TheVariants.{J, Jal, Beq, Bne, Blez, Bgtz, Bltz, Bgez, Bltzal, Bgezal, Addi, Addiu, Slti, Sltiu, Andi, Ori, Xori, Lui, Lb, Lh, Lw, Lbu, Lhu, Sb, Sh, Sw, Sll, Srl, Sra, Sllv, Srlv, Srav, Jr, Jalr, Syscall, Break, Mfhi, Mthi, Mflo, Mtlo, Mult, Multu, Div, Divu, Add, Addu, Sub, Subu, And, Or, Xor, Nor, Slt, Sltu}
use Rattle.p9_base.specs.Core.{Core, reg}
use Rattle.p9_base.specs.SystemCalls.{asked}
use Rattle.p9_r3k.specs.Effects.{effect_of}
use Rattle.p9_r3k.specs.UseLaws.{SameMemory, Agree}

-- Registers that are read

itself : (r : ℕ) → (r == r) ≡ true
itself r = grind (arith, nat_tests)

either : (b : Bool) → (b || true) ≡ true
either true = refl
either false = refl

first : (r q : ℕ) → ((r == r) || (q == r)) ≡ true
first r q = rw (itself r) refl

second : (r q : ℕ) → ((r == q) || (q == q)) ≡ true
second r q = rw (itself q) (either (r == q))

-- Effects

pub rests_on_what_it_reads : (i : Inst) (c d : Core) → Agree i c d → effect_of i d ≡ effect_of i c
rests_on_what_it_reads (J index) c d h = rw (h.place refl) refl
rests_on_what_it_reads (Jal index) c d h = rw (h.place refl) refl
rests_on_what_it_reads (Beq rs rt imm) c d h = rw (h.registers rs (first rs rt), h.registers rt (second rs rt), h.place refl) refl
rests_on_what_it_reads (Bne rs rt imm) c d h = rw (h.registers rs (first rs rt), h.registers rt (second rs rt), h.place refl) refl
rests_on_what_it_reads (Blez rs imm) c d h = rw (h.registers rs (itself rs), h.place refl) refl
rests_on_what_it_reads (Bgtz rs imm) c d h = rw (h.registers rs (itself rs), h.place refl) refl
rests_on_what_it_reads (Bltz rs imm) c d h = rw (h.registers rs (itself rs), h.place refl) refl
rests_on_what_it_reads (Bgez rs imm) c d h = rw (h.registers rs (itself rs), h.place refl) refl
rests_on_what_it_reads (Bltzal rs imm) c d h = rw (h.registers rs (itself rs), h.place refl) refl
rests_on_what_it_reads (Bgezal rs imm) c d h = rw (h.registers rs (itself rs), h.place refl) refl
rests_on_what_it_reads (Addi rs rt imm) c d h = rw (h.registers rs (itself rs)) refl
rests_on_what_it_reads (Addiu rs rt imm) c d h = rw (h.registers rs (itself rs)) refl
rests_on_what_it_reads (Slti rs rt imm) c d h = rw (h.registers rs (itself rs)) refl
rests_on_what_it_reads (Sltiu rs rt imm) c d h = rw (h.registers rs (itself rs)) refl
rests_on_what_it_reads (Andi rs rt imm) c d h = rw (h.registers rs (itself rs)) refl
rests_on_what_it_reads (Ori rs rt imm) c d h = rw (h.registers rs (itself rs)) refl
rests_on_what_it_reads (Xori rs rt imm) c d h = rw (h.registers rs (itself rs)) refl
rests_on_what_it_reads (Lui rt imm) c d h = refl
rests_on_what_it_reads (Lb rs rt imm) c d h = let m : SameMemory c d = h.memory refl in rw (h.registers rs (itself rs), m.low, m.stack, m.text_end, m.data_start) refl
rests_on_what_it_reads (Lh rs rt imm) c d h = let m : SameMemory c d = h.memory refl in rw (h.registers rs (itself rs), m.order, m.low, m.stack, m.text_end, m.data_start) refl
rests_on_what_it_reads (Lw rs rt imm) c d h = let m : SameMemory c d = h.memory refl in rw (h.registers rs (itself rs), m.order, m.low, m.stack, m.text_end, m.data_start) refl
rests_on_what_it_reads (Lbu rs rt imm) c d h = let m : SameMemory c d = h.memory refl in rw (h.registers rs (itself rs), m.low, m.stack, m.text_end, m.data_start) refl
rests_on_what_it_reads (Lhu rs rt imm) c d h = let m : SameMemory c d = h.memory refl in rw (h.registers rs (itself rs), m.order, m.low, m.stack, m.text_end, m.data_start) refl
rests_on_what_it_reads (Sb rs rt imm) c d h = rw (h.registers rs (first rs rt), h.registers rt (second rs rt), h.data_start refl, h.size refl) refl
rests_on_what_it_reads (Sh rs rt imm) c d h = rw (h.registers rs (first rs rt), h.registers rt (second rs rt), h.data_start refl, h.size refl) refl
rests_on_what_it_reads (Sw rs rt imm) c d h = rw (h.registers rs (first rs rt), h.registers rt (second rs rt), h.data_start refl, h.size refl) refl
rests_on_what_it_reads (Sll rt rd sh) c d h = rw (h.registers rt (itself rt)) refl
rests_on_what_it_reads (Srl rt rd sh) c d h = rw (h.registers rt (itself rt)) refl
rests_on_what_it_reads (Sra rt rd sh) c d h = rw (h.registers rt (itself rt)) refl
rests_on_what_it_reads (Sllv rs rt rd) c d h = rw (h.registers rs (first rs rt), h.registers rt (second rs rt)) refl
rests_on_what_it_reads (Srlv rs rt rd) c d h = rw (h.registers rs (first rs rt), h.registers rt (second rs rt)) refl
rests_on_what_it_reads (Srav rs rt rd) c d h = rw (h.registers rs (first rs rt), h.registers rt (second rs rt)) refl
rests_on_what_it_reads (Jr rs) c d h = rw (h.registers rs (itself rs)) refl
rests_on_what_it_reads (Jalr rs rd) c d h = rw (h.registers rs (itself rs)) refl
rests_on_what_it_reads (Syscall code) c d h = refl
rests_on_what_it_reads (Break code) c d h = refl
rests_on_what_it_reads (Mfhi rd) c d h = rw (h.hi refl) refl
rests_on_what_it_reads (Mthi rs) c d h = rw (h.registers rs (itself rs), h.lo refl) refl
rests_on_what_it_reads (Mflo rd) c d h = rw (h.lo refl) refl
rests_on_what_it_reads (Mtlo rs) c d h = rw (h.registers rs (itself rs), h.hi refl) refl
rests_on_what_it_reads (Mult rs rt) c d h = rw (h.registers rs (first rs rt), h.registers rt (second rs rt)) refl
rests_on_what_it_reads (Multu rs rt) c d h = rw (h.registers rs (first rs rt), h.registers rt (second rs rt)) refl
rests_on_what_it_reads (Div rs rt) c d h = rw (h.registers rs (first rs rt), h.registers rt (second rs rt)) refl
rests_on_what_it_reads (Divu rs rt) c d h = rw (h.registers rs (first rs rt), h.registers rt (second rs rt)) refl
rests_on_what_it_reads (Add rs rt rd) c d h = rw (h.registers rs (first rs rt), h.registers rt (second rs rt)) refl
rests_on_what_it_reads (Addu rs rt rd) c d h = rw (h.registers rs (first rs rt), h.registers rt (second rs rt)) refl
rests_on_what_it_reads (Sub rs rt rd) c d h = rw (h.registers rs (first rs rt), h.registers rt (second rs rt)) refl
rests_on_what_it_reads (Subu rs rt rd) c d h = rw (h.registers rs (first rs rt), h.registers rt (second rs rt)) refl
rests_on_what_it_reads (And rs rt rd) c d h = rw (h.registers rs (first rs rt), h.registers rt (second rs rt)) refl
rests_on_what_it_reads (Or rs rt rd) c d h = rw (h.registers rs (first rs rt), h.registers rt (second rs rt)) refl
rests_on_what_it_reads (Xor rs rt rd) c d h = rw (h.registers rs (first rs rt), h.registers rt (second rs rt)) refl
rests_on_what_it_reads (Nor rs rt rd) c d h = rw (h.registers rs (first rs rt), h.registers rt (second rs rt)) refl
rests_on_what_it_reads (Slt rs rt rd) c d h = rw (h.registers rs (first rs rt), h.registers rt (second rs rt)) refl
rests_on_what_it_reads (Sltu rs rt rd) c d h = rw (h.registers rs (first rs rt), h.registers rt (second rs rt)) refl

pub asks_by_what_it_reads : (c d : Core) → reg d 1 ≡ reg c 1 → reg d 29 ≡ reg c 29 → SameMemory c d → asked d ≡ asked c
asks_by_what_it_reads c d number pointer m =
    rw (number, pointer, m.order, m.low, m.stack, m.text_end, m.data_start) refl
