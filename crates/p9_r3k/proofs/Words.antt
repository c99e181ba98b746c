-- Registers stay words, register 0 stays 0, and memory stays bytes.
use Rattle.std.proofs.Common.{ℕ, zero, suc, ◌+◌, ◌-◌, ◌*◌, ◌/◌, ◌%◌, ◌^◌, ◌≡◌, Bool, nat_lt, if◌then◌else◌, Result, Ok, Err, refl, arith, slice_set}
use Rattle.std.proofs.lemmas.Nat.{or_of_32, xor_of_32, mul-lt}
use Rattle.p9_base.specs.Words.{word_sum, word_difference, is_negative, is_signed_less, magnitude, signs_differ, signed_quotient, signed_remainder, unsigned_product, signed_product}
use Rattle.p9_base.specs.Numbers.{sign_extended}
use Rattle.p9_base.proofs.Holding.{register-word, modulo-word, truth-word, and-word, nor-word, upper-word, half-word, byte-word, extended8-word, extended16-word, right-word, signed_right-word, low5-small, magnitude-word, with_sign-word, quotient-word, rest-word, ValuesFit, unless_overflow-values, unless_zero-values, wide_pair-values, load_byte-values, load_half-values, load_word-values, store_byte-values, store_half-values, store_word-values, with_register-words, memory-words-by, set-bytes, half-bytes, word-bytes, advanced-words, sent-words, halted-words, HoldsAll, called-words, asked-count}
use Rattle.p9_r3k.specs.declared.inst.Inst.{Inst}
use Rattle.p9_r3k.specs.declared.inst.Inst.TheVariants.{J, Jal, Beq, Bne, Blez, Bgtz, Bltz, Bgez, Bltzal, Bgezal, Addi, Addiu, Slti, Sltiu, Andi, Ori, Xori, Lui, Lb, Lh, Lw, Lbu, Lhu, Sb, Sh, Sw, Sll, Srl, Sra, Sllv, Srlv, Srav, Jr, Jalr, Syscall, Break, Mfhi, Mthi, Mflo, Mtlo, Mult, Multu, Div, Divu, Add, Addu, Sub, Subu, And, Or, Xor, Nor, Slt, Sltu}
use Rattle.p9_base.specs.declared.halt.HaltCause.{HaltCause}
use Rattle.p9_base.specs.declared.halt.Ending.{Ending}
use Rattle.p9_base.specs.declared.halt.Ending.TheVariants.{Running, Exited, Halted}
use Rattle.p9_base.specs.declared.halt.Effect.{Effect}
use Rattle.p9_base.specs.declared.halt.Effect.TheVariants as effects
use Rattle.p9_r3k.specs.Table.{Fits}
use Rattle.p9_r3k.specs.Memory.{Core, text_start, stack_start, reg, with_reg, with_half_in, with_word_in, with_byte, with_half, with_word}
use Rattle.p9_r3k.specs.Effects.{effect_of, address, low5, sum_overflows, difference_overflows, reads_pair}
use Rattle.p9_r3k.specs.Machine.{State, fetched, linked, asked, acted, executed, going, step, run}
use Rattle.p9_r3k.specs.Laws.{AreBytes, HoldsWords}
use Rattle.p9_r3k.proofs.Found.{fetched-fits}

pub effect_of-values : (i : Inst) (c : Core) → Fits i → HoldsWords c → ValuesFit (effect_of i c)
effect_of-values (J index) c f h = tt
effect_of-values (Jal index) c f h = tt
effect_of-values (Beq rs rt imm) c f h = tt
effect_of-values (Bne rs rt imm) c f h = tt
effect_of-values (Blez rs imm) c f h = tt
effect_of-values (Bgtz rs imm) c f h = tt
effect_of-values (Bltz rs imm) c f h = tt
effect_of-values (Bgez rs imm) c f h = tt
effect_of-values (Bltzal rs imm) c f h = tt
effect_of-values (Bgezal rs imm) c f h = tt
effect_of-values (Addi rs rt imm) c f h = unless_overflow-values (sum_overflows (reg c rs) (sign_extended 16 imm)) rt (word_sum (reg c rs) (sign_extended 16 imm)) (modulo-word (reg c rs + sign_extended 16 imm))
effect_of-values (Addiu rs rt imm) c f h = modulo-word (reg c rs + sign_extended 16 imm)
effect_of-values (Slti rs rt imm) c f h = truth-word (is_signed_less (reg c rs) (sign_extended 16 imm))
effect_of-values (Sltiu rs rt imm) c f h = truth-word (nat_lt (reg c rs) (sign_extended 16 imm))
effect_of-values (Andi rs rt imm) c f h = and-word (reg c rs) imm (register-word c rs h)
effect_of-values (Ori rs rt imm) c f h = or_of_32 (reg c rs) imm (register-word c rs h) (half-word imm f.2)
effect_of-values (Xori rs rt imm) c f h = xor_of_32 (reg c rs) imm (register-word c rs h) (half-word imm f.2)
effect_of-values (Lui rt imm) c f h = upper-word imm f.1
effect_of-values (Lb rs rt imm) c f h = load_byte-values c rt (address c rs imm) (sign_extended 8) h (λ b e. extended8-word b)
effect_of-values (Lh rs rt imm) c f h = load_half-values c rt (address c rs imm) (sign_extended 16) h (λ b e. extended16-word b)
effect_of-values (Lw rs rt imm) c f h = load_word-values c rt (address c rs imm) h
effect_of-values (Lbu rs rt imm) c f h = load_byte-values c rt (address c rs imm) (λ b. b) h (λ b e. byte-word b e)
effect_of-values (Lhu rs rt imm) c f h = load_half-values c rt (address c rs imm) (λ b. b) h (λ b e. half-word b e)
effect_of-values (Sb rs rt imm) c f h = store_byte-values c (address c rs imm) (reg c rt)
effect_of-values (Sh rs rt imm) c f h = store_half-values c (address c rs imm) (reg c rt)
effect_of-values (Sw rs rt imm) c f h = store_word-values c (address c rs imm) (reg c rt)
effect_of-values (Sll rt rd sh) c f h = modulo-word (reg c rt * 2 ^ sh)
effect_of-values (Srl rt rd sh) c f h = right-word (reg c rt) sh (register-word c rt h)
effect_of-values (Sra rt rd sh) c f h = signed_right-word (reg c rt) sh (register-word c rt h) f.2
effect_of-values (Sllv rs rt rd) c f h = modulo-word (reg c rt * 2 ^ low5 (reg c rs))
effect_of-values (Srlv rs rt rd) c f h = right-word (reg c rt) (low5 (reg c rs)) (register-word c rt h)
effect_of-values (Srav rs rt rd) c f h = signed_right-word (reg c rt) (low5 (reg c rs)) (register-word c rt h) (low5-small (reg c rs))
effect_of-values (Jr rs) c f h = tt
effect_of-values (Jalr rs rd) c f h = tt
effect_of-values (Syscall code) c f h = tt
effect_of-values (Break code) c f h = tt
effect_of-values (Mfhi rd) c f h = h.high
effect_of-values (Mthi rs) c f h = (register-word c rs h, h.less)
effect_of-values (Mflo rd) c f h = h.less
effect_of-values (Mtlo rs) c f h = (h.high, register-word c rs h)
effect_of-values (Mult rs rt) c f h = wide_pair-values (signed_product (reg c rs) (reg c rt)) (omega arith)
effect_of-values (Multu rs rt) c f h = wide_pair-values (unsigned_product (reg c rs) (reg c rt)) (mul-lt (reg c rs) (reg c rt) (2 ^ 32) (2 ^ 32) (register-word c rs h) (register-word c rt h))
effect_of-values (Div rs rt) c f h = unless_zero-values (reg c rt) (signed_remainder (reg c rs) (reg c rt)) (signed_quotient (reg c rs) (reg c rt))
    (with_sign-word (is_negative (reg c rs)) (magnitude (reg c rs) % magnitude (reg c rt)) (rest-word (magnitude (reg c rs)) (magnitude (reg c rt)) (magnitude-word (reg c rs) (register-word c rs h))))
    (with_sign-word (signs_differ (reg c rs) (reg c rt)) (magnitude (reg c rs) / magnitude (reg c rt)) (quotient-word (magnitude (reg c rs)) (magnitude (reg c rt)) (magnitude-word (reg c rs) (register-word c rs h))))
effect_of-values (Divu rs rt) c f h = unless_zero-values (reg c rt) (reg c rs % reg c rt) (reg c rs / reg c rt) (rest-word (reg c rs) (reg c rt) (register-word c rs h)) (quotient-word (reg c rs) (reg c rt) (register-word c rs h))
effect_of-values (Add rs rt rd) c f h = unless_overflow-values (sum_overflows (reg c rs) (reg c rt)) rd (word_sum (reg c rs) (reg c rt)) (modulo-word (reg c rs + reg c rt))
effect_of-values (Addu rs rt rd) c f h = modulo-word (reg c rs + reg c rt)
effect_of-values (Sub rs rt rd) c f h = unless_overflow-values (difference_overflows (reg c rs) (reg c rt)) rd (word_difference (reg c rs) (reg c rt)) (modulo-word (reg c rs + (2 ^ 32 - reg c rt)))
effect_of-values (Subu rs rt rd) c f h = modulo-word (reg c rs + (2 ^ 32 - reg c rt))
effect_of-values (And rs rt rd) c f h = and-word (reg c rs) (reg c rt) (register-word c rs h)
effect_of-values (Or rs rt rd) c f h = or_of_32 (reg c rs) (reg c rt) (register-word c rs h) (register-word c rt h)
effect_of-values (Xor rs rt rd) c f h = xor_of_32 (reg c rs) (reg c rt) (register-word c rs h) (register-word c rt h)
effect_of-values (Nor rs rt rd) c f h = nor-word (reg c rs) (reg c rt)
effect_of-values (Slt rs rt rd) c f h = truth-word (is_signed_less (reg c rs) (reg c rt))
effect_of-values (Sltu rs rt rd) c f h = truth-word (nat_lt (reg c rs) (reg c rt))

-- Steps

pub acted-words : (e : Effect) (s : State) (reader : Bool) → ValuesFit e → HoldsAll s → HoldsAll (acted e s reader)
acted-words (effects.Write r v) s reader f h = record {
  words = advanced-words (record s.core { regs = with_reg s.core.regs r v }) reader (with_register-words s.core r v f h.words);
  left = h.left;
}
acted-words (effects.Pair hi lo) s reader f h = record {
  words = record {
    count = h.words.count;
    zero_register = h.words.zero_register;
    registers = h.words.registers;
    high = f.0;
    less = f.1;
    low_bytes = h.words.low_bytes;
    stack_bytes = h.words.stack_bytes;
  };
  left = h.left;
}
acted-words (effects.Load r v) s reader f h =
    let k : HoldsWords (record s.core { regs = with_reg s.core.regs r v }) = with_register-words s.core r v f h.words in
    record {
      words = record {
        count = k.count;
        zero_register = k.zero_register;
        registers = k.registers;
        high = k.high;
        less = k.less;
        low_bytes = k.low_bytes;
        stack_bytes = k.stack_bytes;
      };
      left = h.left;
    }
acted-words (effects.StoreByte a v) s reader f h = record {
  words =
      advanced-words (with_byte s.core a v) reader
      (memory-words-by (nat_lt a stack_start) s.core (slice_set s.core.low (a - text_start) v) (slice_set s.core.stack (a - stack_start) v)
      h.words (set-bytes s.core.low (a - text_start) v f h.words.low_bytes) (set-bytes s.core.stack (a - stack_start) v f h.words.stack_bytes));
  left = h.left;
}
acted-words (effects.StoreHalf a v) s reader f h = record {
  words =
      advanced-words (with_half s.core a v) reader
      (memory-words-by (nat_lt a stack_start) s.core (with_half_in s.core.order s.core.low (a - text_start) v) (with_half_in s.core.order s.core.stack (a - stack_start) v)
      h.words (half-bytes s.core.order s.core.low (a - text_start) v h.words.low_bytes) (half-bytes s.core.order s.core.stack (a - stack_start) v h.words.stack_bytes));
  left = h.left;
}
acted-words (effects.StoreWord a v) s reader f h = record {
  words =
      advanced-words (with_word s.core a v) reader
      (memory-words-by (nat_lt a stack_start) s.core (with_word_in s.core.order s.core.low (a - text_start) v) (with_word_in s.core.order s.core.stack (a - stack_start) v)
      h.words (word-bytes s.core.order s.core.low (a - text_start) v h.words.low_bytes) (word-bytes s.core.order s.core.stack (a - stack_start) v h.words.stack_bytes));
  left = h.left;
}
acted-words (effects.Branch r taken to) s reader f h = record {
  words =
      sent-words (linked s.core r) (if taken then to else word_sum s.core.pc 8)
      (with_register-words s.core r (word_sum s.core.pc 8) (modulo-word (s.core.pc + 8)) h.words);
  left = h.left;
}
acted-words (effects.JumpTo r to) s reader f h = record {
  words =
      sent-words (linked s.core r) to
      (with_register-words s.core r (word_sum s.core.pc 8) (modulo-word (s.core.pc + 8)) h.words);
  left = h.left;
}
acted-words effects.Call s reader f h = called-words (asked s.core) s (asked-count s.core h.words) h
acted-words (effects.Stop cause) s reader f h = record { words = halted-words s.core cause h.words; left = h.left }

pub executed-words :
    (r : Result Inst HaltCause) (s : State) → fetched s.core ≡ r → HoldsAll s → HoldsAll (executed r s)
executed-words (Err cause) s e h = record { words = halted-words s.core cause h.words; left = h.left }
executed-words (Ok i) s e h =
    acted-words (effect_of i s.core) s (reads_pair i) (effect_of-values i s.core (fetched-fits s.core i e) h.words) h

pub going-words : (e : Ending) (s : State) → HoldsAll s → HoldsAll (going e s)
going-words Running s h = executed-words (fetched s.core) s refl h
going-words (Exited at len) s h = h
going-words (Halted cause pc) s h = h

pub step-words : (s : State) → HoldsAll s → HoldsAll (step s)
unfolding step
step-words s h = going-words s.core.ending s h

pub run-holds : (n : ℕ) (s : State) → HoldsAll s → HoldsAll (run n s)
unfolding run
run-holds zero s h = h
run-holds (suc n) s h = step-words (run n s) (run-holds n s h)

pub run-words :
    (n : ℕ) (s : State) → HoldsWords s.core → AreBytes s.left → HoldsWords (run n s).core × AreBytes (run n s).left
run-words n s h l =
    let k : HoldsAll (run n s) = run-holds n s (record { words = h; left = l }) in
    (k.words, k.left)
