-- No step changes the text.
use Rattle.std.proofs.Common.{ℕ, zero, suc, ◌+◌, ◌-◌, ◌/◌, ◌%◌, ◌^◌, ◌==◌, ◌≡◌, ◌≤◌, ◌<◌, ◌++◌, Bool, true, false, not, ◌||◌, nat_lt, nat_le, if◌then◌else◌, Option, Some, None, Result, Ok, Err, refl, sym, ap, ◌∙◌, subst, arith, List, [], ◌∷◌, length, take, drop, min, slice_set, position, length-append, length-drop}
use Rattle.std.proofs.lemmas.List.{take-append-drop, take-append-le, take-take, take-set-le, length-set, length-take, length-take-le, append-nil}
use Rattle.std.proofs.lemmas.Bool.{leb-true, ltb-true, ltb-false}
use Rattle.std.proofs.lemmas.Bool.Decides.{nat_tests}
use Rattle.p9_base.specs.Words.{is_negative, word_sum, low8, low16}
use Rattle.p9_r3k.specs.declared.inst.Inst.{Inst}
use Rattle.p9_r3k.specs.declared.inst.Inst.TheVariants.{J, Jal, Beq, Bne, Blez, Bgtz, Bltz, Bgez, Bltzal, Bgezal, Addi, Addiu, Slti, Sltiu, Andi, Ori, Xori, Lui, Lb, Lh, Lw, Lbu, Lhu, Sb, Sh, Sw, Sll, Srl, Sra, Sllv, Srlv, Srav, Jr, Jalr, Syscall, Break, Mfhi, Mthi, Mflo, Mtlo, Mult, Multu, Div, Divu, Add, Addu, Sub, Subu, And, Or, Xor, Nor, Slt, Sltu}
use Rattle.p9_base.specs.declared.halt.HaltCause.{HaltCause}
use Rattle.p9_base.specs.declared.halt.HaltCause.TheVariants as halts
use Rattle.p9_base.specs.declared.halt.Ending.{Ending}
use Rattle.p9_base.specs.declared.halt.Ending.TheVariants.{Running, Exited, Halted}
use Rattle.p9_base.specs.declared.halt.Effect.{Effect}
use Rattle.p9_base.specs.declared.halt.Effect.TheVariants as effects
use Rattle.p9_base.specs.declared.halt.Asked.{Asked}
use Rattle.p9_base.specs.declared.halt.Asked.TheVariants as asks
use Rattle.p9_base.specs.declared.order.ByteOrder.{ByteOrder}
use Rattle.p9_base.specs.declared.order.ByteOrder.TheVariants.{Big, Little}
use Rattle.p9_r3k.specs.Memory.{Core, text_start, stack_start, stack_end, low_end, reg, readable, writable, bytes_from, with_two, with_four, with_half_in, with_word_in, with_byte, with_half, with_word, with_bytes, over}
use Rattle.p9_r3k.specs.Effects.{effect_of, address, store_byte, store_half, store_word, reads_pair}
use Rattle.p9_r3k.specs.Machine.{State, fetched, advanced, argument, then_one, then_three, exits_of, asked_exits, asked_read, asked_write, asked, called, acted, executed, going, step, run}
use Rattle.p9_r3k.specs.Laws.{LaidOut, KeepsText}
use Rattle.p9_base.proofs.Kept.{writable-low_start, writable-low_end, writable-stack_end, KeepsLow, keeps_low-same, keeps_low-set, keeps-same, keeps-trans, keeps-choice, keeps-advanced, keeps-answered, with_byte-keeps, keeps_low-two, keeps_low-four, length-two, length-four, keeps_low-half, keeps_low-word, length-half, length-word, with_half-keeps, with_word-keeps, over-none, over-size, over-below, keeps_low-over-by, stack-over, with_bytes-keeps, RoomFits, choice-room, then_one-room, exits_of-room, asked_exits-room, read-room, asked_read-room, asked_write-room, then_three-room, asked-room, called-keeps, StoreFits, choice-store, byte-store, half-store, word-store, store_byte-fits, store_half-fits, store_word-fits}

-- Effects

pub effect_of-fits : (i : Inst) (c : Core) → StoreFits (effect_of i c) c
effect_of-fits (J index) c = tt
effect_of-fits (Jal index) c = tt
effect_of-fits (Beq rs rt imm) c = tt
effect_of-fits (Bne rs rt imm) c = tt
effect_of-fits (Blez rs imm) c = tt
effect_of-fits (Bgtz rs imm) c = tt
effect_of-fits (Bltz rs imm) c = tt
effect_of-fits (Bgez rs imm) c = tt
effect_of-fits (Bltzal rs imm) c = tt
effect_of-fits (Bgezal rs imm) c = tt
effect_of-fits (Addi rs rt imm) c = search choice-store
effect_of-fits (Addiu rs rt imm) c = tt
effect_of-fits (Slti rs rt imm) c = tt
effect_of-fits (Sltiu rs rt imm) c = tt
effect_of-fits (Andi rs rt imm) c = tt
effect_of-fits (Ori rs rt imm) c = tt
effect_of-fits (Xori rs rt imm) c = tt
effect_of-fits (Lui rt imm) c = tt
effect_of-fits (Lb rs rt imm) c = search choice-store
effect_of-fits (Lh rs rt imm) c = search choice-store
effect_of-fits (Lw rs rt imm) c = search choice-store
effect_of-fits (Lbu rs rt imm) c = search choice-store
effect_of-fits (Lhu rs rt imm) c = search choice-store
effect_of-fits (Sb rs rt imm) c = store_byte-fits c (address c rs imm) (reg c rt)
effect_of-fits (Sh rs rt imm) c = store_half-fits c (address c rs imm) (reg c rt)
effect_of-fits (Sw rs rt imm) c = store_word-fits c (address c rs imm) (reg c rt)
effect_of-fits (Sll rt rd sh) c = tt
effect_of-fits (Srl rt rd sh) c = tt
effect_of-fits (Sra rt rd sh) c = tt
effect_of-fits (Sllv rs rt rd) c = tt
effect_of-fits (Srlv rs rt rd) c = tt
effect_of-fits (Srav rs rt rd) c = tt
effect_of-fits (Jr rs) c = tt
effect_of-fits (Jalr rs rd) c = tt
effect_of-fits (Syscall code) c = tt
effect_of-fits (Break code) c = tt
effect_of-fits (Mfhi rd) c = tt
effect_of-fits (Mthi rs) c = tt
effect_of-fits (Mflo rd) c = tt
effect_of-fits (Mtlo rs) c = tt
effect_of-fits (Mult rs rt) c = tt
effect_of-fits (Multu rs rt) c = tt
effect_of-fits (Div rs rt) c = search choice-store
effect_of-fits (Divu rs rt) c = search choice-store
effect_of-fits (Add rs rt rd) c = search choice-store
effect_of-fits (Addu rs rt rd) c = tt
effect_of-fits (Sub rs rt rd) c = search choice-store
effect_of-fits (Subu rs rt rd) c = tt
effect_of-fits (And rs rt rd) c = tt
effect_of-fits (Or rs rt rd) c = tt
effect_of-fits (Xor rs rt rd) c = tt
effect_of-fits (Nor rs rt rd) c = tt
effect_of-fits (Slt rs rt rd) c = tt
effect_of-fits (Sltu rs rt rd) c = tt

pub acted-keeps :
    (e : Effect) (s : State) (reader : Bool) → LaidOut s.core → StoreFits e s.core → KeepsText s.core (acted e s reader).core
acted-keeps (effects.Write r v) s reader laid h =
    record { order = refl; text_end = refl; data_start = refl; low_size = refl; stack_size = refl; below_data = refl }
acted-keeps (effects.Pair hi lo) s reader laid h =
    record { order = refl; text_end = refl; data_start = refl; low_size = refl; stack_size = refl; below_data = refl }
acted-keeps (effects.Load r v) s reader laid h =
    record { order = refl; text_end = refl; data_start = refl; low_size = refl; stack_size = refl; below_data = refl }
acted-keeps (effects.StoreByte a v) s reader laid h = keeps-advanced s.core (with_byte s.core a v) reader (with_byte-keeps s.core a v h)
acted-keeps (effects.StoreHalf a v) s reader laid h = keeps-advanced s.core (with_half s.core a v) reader (with_half-keeps s.core a v h)
acted-keeps (effects.StoreWord a v) s reader laid h = keeps-advanced s.core (with_word s.core a v) reader (with_word-keeps s.core a v h)
acted-keeps (effects.Branch r taken to) s reader laid h =
    record { order = refl; text_end = refl; data_start = refl; low_size = refl; stack_size = refl; below_data = refl }
acted-keeps (effects.JumpTo r to) s reader laid h =
    record { order = refl; text_end = refl; data_start = refl; low_size = refl; stack_size = refl; below_data = refl }
acted-keeps effects.Call s reader laid h = called-keeps (asked s.core) s laid (asked-room s.core)
acted-keeps (effects.Stop cause) s reader laid h =
    record { order = refl; text_end = refl; data_start = refl; low_size = refl; stack_size = refl; below_data = refl }

pub executed-keeps : (r : Result Inst HaltCause) (s : State) → LaidOut s.core → KeepsText s.core (executed r s).core
executed-keeps (Err cause) s laid =
    record { order = refl; text_end = refl; data_start = refl; low_size = refl; stack_size = refl; below_data = refl }
executed-keeps (Ok i) s laid = acted-keeps (effect_of i s.core) s (reads_pair i) laid (effect_of-fits i s.core)

pub going-keeps : (e : Ending) (s : State) → LaidOut s.core → KeepsText s.core (going e s).core
going-keeps Running s laid = executed-keeps (fetched s.core) s laid
going-keeps (Exited at len) s laid = keeps-same s.core
going-keeps (Halted cause pc) s laid = keeps-same s.core

pub step-keeps : (s : State) → LaidOut s.core → KeepsText s.core (step s).core
unfolding step
step-keeps s laid = going-keeps s.core.ending s laid

pub kept-laid : (c d : Core) → LaidOut c → KeepsText c d → LaidOut d
kept-laid c d laid kept =
    let t : d.text_end ≡ c.text_end = kept.text_end in
    let s : d.data_start ≡ c.data_start = kept.data_start in
    let l : length d.low ≡ length c.low = kept.low_size in
    let z : length d.stack ≡ length c.stack = kept.stack_size in
    record {
      text = omega (arith, t, laid.text);
      gap = omega (arith, t, s, laid.gap);
      data_and_bss = omega (arith, s, l, laid.data_and_bss);
      above = omega (arith, l, laid.above);
      stack_size = z ∙ laid.stack_size;
    }

pub run-keeps : (n : ℕ) (s : State) → LaidOut s.core → KeepsText s.core (run n s).core
unfolding run
run-keeps zero s laid = keeps-same s.core
run-keeps (suc n) s laid =
    let before : KeepsText s.core (run n s).core = run-keeps n s laid in
    keeps-trans s.core (run n s).core (step (run n s)).core before
    (step-keeps (run n s) (kept-laid s.core (run n s).core laid before))

pub run-laid : (n : ℕ) (s : State) → LaidOut s.core → LaidOut (run n s).core
run-laid n s laid = kept-laid s.core (run n s).core laid (run-keeps n s laid)
