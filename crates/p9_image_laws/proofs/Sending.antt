-- The word of a line that is filled does what the line does.
use Rattle.std.proofs.Common.{ℕ, ◌+◌, ◌-◌, ◌*◌, ◌/◌, ◌%◌, ◌^◌, ◌==◌, ◌≡◌, ◌≤◌, ◌<◌, ◌||◌, nat_lt, Bool, true, false, not, Option, Some, None, refl, sym, ap, arith, if◌then◌else◌}
use Rattle.std.proofs.lemmas.Bool.Decides.{nat_tests}
use Rattle.p9_base.specs.declared.halt.Effect.{Effect}
use Rattle.p9_base.specs.declared.halt.Effect.TheVariants as effects
use Rattle.p9_base.specs.Core.{Core, reg}
use Rattle.p9_base.specs.Numbers.{sign_extended}
use Rattle.p9_base.specs.Words.{word_sum, is_negative}
use Rattle.p9_r3k.specs.declared.inst.Inst.{Inst}
use Rattle.p9_r3k.specs.declared.inst.Inst.TheVariants.{J, Jal, Beq, Bne, Blez, Bgtz, Bltz, Bgez, Bltzal, Bgezal, Addi, Addiu, Slti, Sltiu, Andi, Ori, Xori, Lui, Lb, Lh, Lw, Lbu, Lhu, Sb, Sh, Sw, Sll, Srl, Sra, Sllv, Srlv, Srav, Jr, Jalr, Syscall, Break, Mfhi, Mthi, Mflo, Mtlo, Mult, Multu, Div, Divu, Add, Addu, Sub, Subu, And, Or, Xor, Nor, Slt, Sltu}
use Rattle.p9_r3k.specs.Delayed.{line_address, aimed}
use Rattle.p9_r3k.specs.Effects.{effect_of, reads, reads_pair, writes_pair, branches}
use Rattle.p9_image.specs.Text.{distance, jump_index, sent_to}
use Rattle.p9_image_laws.specs.Reaching.{IsNear, is_jump}

-- An effect that goes nowhere by its word is the same for any target

aimed_choice : (t : Option ℕ) (b : Bool) (x y : Effect) → aimed t x ≡ x → aimed t y ≡ y → aimed t (if b then x else y) ≡ (if b then x else y)
aimed_choice t true x y hx hy = hx
aimed_choice t false x y hx hy = hy

pub aimed_nowhere : (e : Effect) → aimed None e ≡ e
aimed_nowhere (effects.Write r v) = refl
aimed_nowhere (effects.Pair h l) = refl
aimed_nowhere (effects.Load r v) = refl
aimed_nowhere (effects.StoreByte a v) = refl
aimed_nowhere (effects.StoreHalf a v) = refl
aimed_nowhere (effects.StoreWord a v) = refl
aimed_nowhere (effects.Branch r taken to) = refl
aimed_nowhere (effects.JumpTo r to) = refl
aimed_nowhere effects.Call = refl
aimed_nowhere (effects.Stop cause) = refl

branch_reaches : (pc i t : ℕ) → pc ≡ line_address i → line_address t < 2 ^ 28 → i < 2 ^ 28 → IsNear i t →
    (pc + 4 + 4 * sign_extended 16 (distance i t)) % 2 ^ 32 ≡ line_address t
branch_reaches pc i t e small within near = by_sign (nat_lt (distance i t % 2 ^ 16) (2 ^ 15)) refl
  where
    by_sign : (x : Bool) → nat_lt (distance i t % 2 ^ 16) (2 ^ 15) ≡ x →
        (pc + 4 + 4 * (if x then distance i t % 2 ^ 16 else distance i t % 2 ^ 16 + (2 ^ 32 - 2 ^ 16))) % 2 ^ 32 ≡ line_address t
    by_sign true f = (let l : distance i t % 2 ^ 16 < 2 ^ 15 = grind (arith, nat_tests) in omega (arith, l, near.0, near.1))
    by_sign false f = (let l : 2 ^ 15 ≤ distance i t % 2 ^ 16 = grind (arith, nat_tests) in omega (arith, l, near.0, near.1))

jump_reaches : (pc i t : ℕ) → pc ≡ line_address i → line_address i + 4 < 2 ^ 28 → line_address t < 2 ^ 28 →
    word_sum pc 4 / 2 ^ 28 * 2 ^ 28 + jump_index t * 4 ≡ line_address t
jump_reaches pc i t e here small = omega arith

-- the branch or jump that is sent goes to the target, and any other instruction does what it does
pub sent_effect : (inst : Inst) (c : Core) (i t : ℕ) → c.pc ≡ line_address i → line_address i + 4 < 2 ^ 28 → line_address t < 2 ^ 28 → (is_jump inst ≡ false → IsNear i t) →
    effect_of (sent_to i t inst) c ≡ aimed (Some t) (effect_of inst c)
sent_effect (J index) c i t at here small near = ap (λ z. effects.Branch 0 true z) (jump_reaches c.pc i t at here small)
sent_effect (Jal index) c i t at here small near = ap (λ z. effects.Branch 31 true z) (jump_reaches c.pc i t at here small)
sent_effect (Beq rs rt imm) c i t at here small near = ap (λ z. effects.Branch 0 (reg c rs == reg c rt) z) (branch_reaches c.pc i t at small (omega (arith, here)) (near refl))
sent_effect (Bne rs rt imm) c i t at here small near = ap (λ z. effects.Branch 0 (not (reg c rs == reg c rt)) z) (branch_reaches c.pc i t at small (omega (arith, here)) (near refl))
sent_effect (Blez rs imm) c i t at here small near = ap (λ z. effects.Branch 0 (is_negative (reg c rs) || (reg c rs == 0)) z) (branch_reaches c.pc i t at small (omega (arith, here)) (near refl))
sent_effect (Bgtz rs imm) c i t at here small near = ap (λ z. effects.Branch 0 (not (is_negative (reg c rs) || (reg c rs == 0))) z) (branch_reaches c.pc i t at small (omega (arith, here)) (near refl))
sent_effect (Bltz rs imm) c i t at here small near = ap (λ z. effects.Branch 0 (is_negative (reg c rs)) z) (branch_reaches c.pc i t at small (omega (arith, here)) (near refl))
sent_effect (Bgez rs imm) c i t at here small near = ap (λ z. effects.Branch 0 (not (is_negative (reg c rs))) z) (branch_reaches c.pc i t at small (omega (arith, here)) (near refl))
sent_effect (Bltzal rs imm) c i t at here small near = ap (λ z. effects.Branch 31 (is_negative (reg c rs)) z) (branch_reaches c.pc i t at small (omega (arith, here)) (near refl))
sent_effect (Bgezal rs imm) c i t at here small near = ap (λ z. effects.Branch 31 (not (is_negative (reg c rs))) z) (branch_reaches c.pc i t at small (omega (arith, here)) (near refl))
sent_effect (Addi rs rt imm) c i t at here small near = sym (search (aimed_choice))
sent_effect (Addiu rs rt imm) c i t at here small near = refl
sent_effect (Slti rs rt imm) c i t at here small near = refl
sent_effect (Sltiu rs rt imm) c i t at here small near = refl
sent_effect (Andi rs rt imm) c i t at here small near = refl
sent_effect (Ori rs rt imm) c i t at here small near = refl
sent_effect (Xori rs rt imm) c i t at here small near = refl
sent_effect (Lui rt imm) c i t at here small near = refl
sent_effect (Lb rs rt imm) c i t at here small near = sym (search (aimed_choice))
sent_effect (Lh rs rt imm) c i t at here small near = sym (search (aimed_choice))
sent_effect (Lw rs rt imm) c i t at here small near = sym (search (aimed_choice))
sent_effect (Lbu rs rt imm) c i t at here small near = sym (search (aimed_choice))
sent_effect (Lhu rs rt imm) c i t at here small near = sym (search (aimed_choice))
sent_effect (Sb rs rt imm) c i t at here small near = sym (search (aimed_choice))
sent_effect (Sh rs rt imm) c i t at here small near = sym (search (aimed_choice))
sent_effect (Sw rs rt imm) c i t at here small near = sym (search (aimed_choice))
sent_effect (Sll rt rd sh) c i t at here small near = refl
sent_effect (Srl rt rd sh) c i t at here small near = refl
sent_effect (Sra rt rd sh) c i t at here small near = refl
sent_effect (Sllv rs rt rd) c i t at here small near = refl
sent_effect (Srlv rs rt rd) c i t at here small near = refl
sent_effect (Srav rs rt rd) c i t at here small near = refl
sent_effect (Jr rs) c i t at here small near = refl
sent_effect (Jalr rs rd) c i t at here small near = refl
sent_effect (Syscall code) c i t at here small near = refl
sent_effect (Break code) c i t at here small near = refl
sent_effect (Mfhi rd) c i t at here small near = refl
sent_effect (Mthi rs) c i t at here small near = refl
sent_effect (Mflo rd) c i t at here small near = refl
sent_effect (Mtlo rs) c i t at here small near = refl
sent_effect (Mult rs rt) c i t at here small near = refl
sent_effect (Multu rs rt) c i t at here small near = refl
sent_effect (Div rs rt) c i t at here small near = sym (search (aimed_choice))
sent_effect (Divu rs rt) c i t at here small near = sym (search (aimed_choice))
sent_effect (Add rs rt rd) c i t at here small near = sym (search (aimed_choice))
sent_effect (Addu rs rt rd) c i t at here small near = refl
sent_effect (Sub rs rt rd) c i t at here small near = sym (search (aimed_choice))
sent_effect (Subu rs rt rd) c i t at here small near = refl
sent_effect (And rs rt rd) c i t at here small near = refl
sent_effect (Or rs rt rd) c i t at here small near = refl
sent_effect (Xor rs rt rd) c i t at here small near = refl
sent_effect (Nor rs rt rd) c i t at here small near = refl
sent_effect (Slt rs rt rd) c i t at here small near = refl
sent_effect (Sltu rs rt rd) c i t at here small near = refl

-- Hazards are those of the instruction before it is sent

pub record SameHazards (x y : Inst) : Type 0 where
  pub reader : (r : ℕ) → reads y r ≡ reads x r
  pub pair_reader : reads_pair y ≡ reads_pair x
  pub writer : writes_pair y ≡ writes_pair x
  pub brancher : branches y ≡ branches x

pub same_hazards : (x : Inst) → SameHazards x x
same_hazards x = record { reader = λ r. refl; pair_reader = refl; writer = refl; brancher = refl }

pub sent_hazards : (inst : Inst) (i t : ℕ) → SameHazards inst (sent_to i t inst)
sent_hazards (J index) i t = record { reader = λ r. refl; pair_reader = refl; writer = refl; brancher = refl }
sent_hazards (Jal index) i t = record { reader = λ r. refl; pair_reader = refl; writer = refl; brancher = refl }
sent_hazards (Beq rs rt imm) i t = record { reader = λ r. refl; pair_reader = refl; writer = refl; brancher = refl }
sent_hazards (Bne rs rt imm) i t = record { reader = λ r. refl; pair_reader = refl; writer = refl; brancher = refl }
sent_hazards (Blez rs imm) i t = record { reader = λ r. refl; pair_reader = refl; writer = refl; brancher = refl }
sent_hazards (Bgtz rs imm) i t = record { reader = λ r. refl; pair_reader = refl; writer = refl; brancher = refl }
sent_hazards (Bltz rs imm) i t = record { reader = λ r. refl; pair_reader = refl; writer = refl; brancher = refl }
sent_hazards (Bgez rs imm) i t = record { reader = λ r. refl; pair_reader = refl; writer = refl; brancher = refl }
sent_hazards (Bltzal rs imm) i t = record { reader = λ r. refl; pair_reader = refl; writer = refl; brancher = refl }
sent_hazards (Bgezal rs imm) i t = record { reader = λ r. refl; pair_reader = refl; writer = refl; brancher = refl }
sent_hazards (Addi rs rt imm) i t = same_hazards (Addi rs rt imm)
sent_hazards (Addiu rs rt imm) i t = same_hazards (Addiu rs rt imm)
sent_hazards (Slti rs rt imm) i t = same_hazards (Slti rs rt imm)
sent_hazards (Sltiu rs rt imm) i t = same_hazards (Sltiu rs rt imm)
sent_hazards (Andi rs rt imm) i t = same_hazards (Andi rs rt imm)
sent_hazards (Ori rs rt imm) i t = same_hazards (Ori rs rt imm)
sent_hazards (Xori rs rt imm) i t = same_hazards (Xori rs rt imm)
sent_hazards (Lui rt imm) i t = same_hazards (Lui rt imm)
sent_hazards (Lb rs rt imm) i t = same_hazards (Lb rs rt imm)
sent_hazards (Lh rs rt imm) i t = same_hazards (Lh rs rt imm)
sent_hazards (Lw rs rt imm) i t = same_hazards (Lw rs rt imm)
sent_hazards (Lbu rs rt imm) i t = same_hazards (Lbu rs rt imm)
sent_hazards (Lhu rs rt imm) i t = same_hazards (Lhu rs rt imm)
sent_hazards (Sb rs rt imm) i t = same_hazards (Sb rs rt imm)
sent_hazards (Sh rs rt imm) i t = same_hazards (Sh rs rt imm)
sent_hazards (Sw rs rt imm) i t = same_hazards (Sw rs rt imm)
sent_hazards (Sll rt rd sh) i t = same_hazards (Sll rt rd sh)
sent_hazards (Srl rt rd sh) i t = same_hazards (Srl rt rd sh)
sent_hazards (Sra rt rd sh) i t = same_hazards (Sra rt rd sh)
sent_hazards (Sllv rs rt rd) i t = same_hazards (Sllv rs rt rd)
sent_hazards (Srlv rs rt rd) i t = same_hazards (Srlv rs rt rd)
sent_hazards (Srav rs rt rd) i t = same_hazards (Srav rs rt rd)
sent_hazards (Jr rs) i t = same_hazards (Jr rs)
sent_hazards (Jalr rs rd) i t = same_hazards (Jalr rs rd)
sent_hazards (Syscall code) i t = same_hazards (Syscall code)
sent_hazards (Break code) i t = same_hazards (Break code)
sent_hazards (Mfhi rd) i t = same_hazards (Mfhi rd)
sent_hazards (Mthi rs) i t = same_hazards (Mthi rs)
sent_hazards (Mflo rd) i t = same_hazards (Mflo rd)
sent_hazards (Mtlo rs) i t = same_hazards (Mtlo rs)
sent_hazards (Mult rs rt) i t = same_hazards (Mult rs rt)
sent_hazards (Multu rs rt) i t = same_hazards (Multu rs rt)
sent_hazards (Div rs rt) i t = same_hazards (Div rs rt)
sent_hazards (Divu rs rt) i t = same_hazards (Divu rs rt)
sent_hazards (Add rs rt rd) i t = same_hazards (Add rs rt rd)
sent_hazards (Addu rs rt rd) i t = same_hazards (Addu rs rt rd)
sent_hazards (Sub rs rt rd) i t = same_hazards (Sub rs rt rd)
sent_hazards (Subu rs rt rd) i t = same_hazards (Subu rs rt rd)
sent_hazards (And rs rt rd) i t = same_hazards (And rs rt rd)
sent_hazards (Or rs rt rd) i t = same_hazards (Or rs rt rd)
sent_hazards (Xor rs rt rd) i t = same_hazards (Xor rs rt rd)
sent_hazards (Nor rs rt rd) i t = same_hazards (Nor rs rt rd)
sent_hazards (Slt rs rt rd) i t = same_hazards (Slt rs rt rd)
sent_hazards (Sltu rs rt rd) i t = same_hazards (Sltu rs rt rd)
