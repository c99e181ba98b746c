-- The lines of the straight machine fit, and its registers and memory hold words and bytes.
use Rattle.std.proofs.Common.{ℕ, zero, suc, ◌+◌, ◌-◌, ◌/◌, ◌%◌, ◌^◌, ◌≡◌, ◌<◌, nat_lt, if◌then◌else◌, Option, Some, None, refl, arith, List, length, slice_get, slice_set}
use Rattle.p9_base.specs.Words.{word_sum}
use Rattle.p9_r3k.specs.declared.inst.Inst.{Inst}
use Rattle.p9_r3k.specs.declared.inst.Inst.TheVariants.{J, Jal, Beq, Bne, Blez, Bgtz, Bltz, Bgez, Bltzal, Bgezal, Addi, Addiu, Slti, Sltiu, Andi, Ori, Xori, Lui, Lb, Lh, Lw, Lbu, Lhu, Sb, Sh, Sw, Sll, Srl, Sra, Sllv, Srlv, Srav, Jr, Jalr, Syscall, Break, Mfhi, Mthi, Mflo, Mtlo, Mult, Multu, Div, Divu, Add, Addu, Sub, Subu, And, Or, Xor, Nor, Slt, Sltu}
use Rattle.p9_r3k.specs.declared.lines.Line.{Line}
use Rattle.p9_r3k.specs.declared.lines.Value.{Value}
use Rattle.p9_r3k.specs.declared.lines.Part.{Part}
use Rattle.p9_r3k.specs.declared.lines.Part.TheVariants.{High, Low, Jump}
use Rattle.p9_base.specs.declared.halt.HaltCause.TheVariants.{Fetch}
use Rattle.p9_base.specs.declared.halt.Ending.{Ending}
use Rattle.p9_base.specs.declared.halt.Ending.TheVariants.{Running, Exited, Halted}
use Rattle.p9_base.specs.declared.halt.Effect.{Effect}
use Rattle.p9_base.specs.declared.halt.Effect.TheVariants as effects
use Rattle.p9_r3k.specs.Table.{Fits}
use Rattle.p9_r3k.specs.Memory.{text_start, stack_start, with_half_in, with_word_in}
use Rattle.p9_r3k.specs.Effects.{effect_of}
use Rattle.p9_r3k.specs.Machine.{State, asked}
use Rattle.p9_r3k.specs.Straight.{Addresses, Straight, with_imm, with_index, with_piece, with_value, filled, line_at, aim, standing, linked_line, on_to, at_once, straight_line, straight_going, straight_step, straight_run}
use Rattle.p9_base.proofs.Holding.{HoldsAll, ValuesFit, with_register-words, memory-words-by, set-bytes, half-bytes, word-bytes, halted-words, called-words, asked-count}
use Rattle.p9_r3k.proofs.Words.{effect_of-values}

-- What is filled in fits

pub with_imm-fits : (i : Inst) (m : ℕ) → m < 2 ^ 16 → Fits i → Fits (with_imm i m)
with_imm-fits (J index) m small h = h
with_imm-fits (Jal index) m small h = h
with_imm-fits (Beq rs rt imm) m small h = h
with_imm-fits (Bne rs rt imm) m small h = h
with_imm-fits (Blez rs imm) m small h = h
with_imm-fits (Bgtz rs imm) m small h = h
with_imm-fits (Bltz rs imm) m small h = h
with_imm-fits (Bgez rs imm) m small h = h
with_imm-fits (Bltzal rs imm) m small h = h
with_imm-fits (Bgezal rs imm) m small h = h
with_imm-fits (Addi rs rt imm) m small h = (h.0, h.1, small)
with_imm-fits (Addiu rs rt imm) m small h = (h.0, h.1, small)
with_imm-fits (Slti rs rt imm) m small h = (h.0, h.1, small)
with_imm-fits (Sltiu rs rt imm) m small h = (h.0, h.1, small)
with_imm-fits (Andi rs rt imm) m small h = (h.0, h.1, small)
with_imm-fits (Ori rs rt imm) m small h = (h.0, h.1, small)
with_imm-fits (Xori rs rt imm) m small h = (h.0, h.1, small)
with_imm-fits (Lui rt imm) m small h = (h.0, small)
with_imm-fits (Lb rs rt imm) m small h = (h.0, h.1, small)
with_imm-fits (Lh rs rt imm) m small h = (h.0, h.1, small)
with_imm-fits (Lw rs rt imm) m small h = (h.0, h.1, small)
with_imm-fits (Lbu rs rt imm) m small h = (h.0, h.1, small)
with_imm-fits (Lhu rs rt imm) m small h = (h.0, h.1, small)
with_imm-fits (Sb rs rt imm) m small h = (h.0, h.1, small)
with_imm-fits (Sh rs rt imm) m small h = (h.0, h.1, small)
with_imm-fits (Sw rs rt imm) m small h = (h.0, h.1, small)
with_imm-fits (Sll rt rd sh) m small h = h
with_imm-fits (Srl rt rd sh) m small h = h
with_imm-fits (Sra rt rd sh) m small h = h
with_imm-fits (Sllv rs rt rd) m small h = h
with_imm-fits (Srlv rs rt rd) m small h = h
with_imm-fits (Srav rs rt rd) m small h = h
with_imm-fits (Jr rs) m small h = h
with_imm-fits (Jalr rs rd) m small h = h
with_imm-fits (Syscall code) m small h = h
with_imm-fits (Break code) m small h = h
with_imm-fits (Mfhi rd) m small h = h
with_imm-fits (Mthi rs) m small h = h
with_imm-fits (Mflo rd) m small h = h
with_imm-fits (Mtlo rs) m small h = h
with_imm-fits (Mult rs rt) m small h = h
with_imm-fits (Multu rs rt) m small h = h
with_imm-fits (Div rs rt) m small h = h
with_imm-fits (Divu rs rt) m small h = h
with_imm-fits (Add rs rt rd) m small h = h
with_imm-fits (Addu rs rt rd) m small h = h
with_imm-fits (Sub rs rt rd) m small h = h
with_imm-fits (Subu rs rt rd) m small h = h
with_imm-fits (And rs rt rd) m small h = h
with_imm-fits (Or rs rt rd) m small h = h
with_imm-fits (Xor rs rt rd) m small h = h
with_imm-fits (Nor rs rt rd) m small h = h
with_imm-fits (Slt rs rt rd) m small h = h
with_imm-fits (Sltu rs rt rd) m small h = h

pub with_index-fits : (i : Inst) (x : ℕ) → x < 2 ^ 26 → Fits i → Fits (with_index i x)
with_index-fits (J index) x small h = small
with_index-fits (Jal index) x small h = small
with_index-fits (Beq rs rt imm) x small h = h
with_index-fits (Bne rs rt imm) x small h = h
with_index-fits (Blez rs imm) x small h = h
with_index-fits (Bgtz rs imm) x small h = h
with_index-fits (Bltz rs imm) x small h = h
with_index-fits (Bgez rs imm) x small h = h
with_index-fits (Bltzal rs imm) x small h = h
with_index-fits (Bgezal rs imm) x small h = h
with_index-fits (Addi rs rt imm) x small h = h
with_index-fits (Addiu rs rt imm) x small h = h
with_index-fits (Slti rs rt imm) x small h = h
with_index-fits (Sltiu rs rt imm) x small h = h
with_index-fits (Andi rs rt imm) x small h = h
with_index-fits (Ori rs rt imm) x small h = h
with_index-fits (Xori rs rt imm) x small h = h
with_index-fits (Lui rt imm) x small h = h
with_index-fits (Lb rs rt imm) x small h = h
with_index-fits (Lh rs rt imm) x small h = h
with_index-fits (Lw rs rt imm) x small h = h
with_index-fits (Lbu rs rt imm) x small h = h
with_index-fits (Lhu rs rt imm) x small h = h
with_index-fits (Sb rs rt imm) x small h = h
with_index-fits (Sh rs rt imm) x small h = h
with_index-fits (Sw rs rt imm) x small h = h
with_index-fits (Sll rt rd sh) x small h = h
with_index-fits (Srl rt rd sh) x small h = h
with_index-fits (Sra rt rd sh) x small h = h
with_index-fits (Sllv rs rt rd) x small h = h
with_index-fits (Srlv rs rt rd) x small h = h
with_index-fits (Srav rs rt rd) x small h = h
with_index-fits (Jr rs) x small h = h
with_index-fits (Jalr rs rd) x small h = h
with_index-fits (Syscall code) x small h = h
with_index-fits (Break code) x small h = h
with_index-fits (Mfhi rd) x small h = h
with_index-fits (Mthi rs) x small h = h
with_index-fits (Mflo rd) x small h = h
with_index-fits (Mtlo rs) x small h = h
with_index-fits (Mult rs rt) x small h = h
with_index-fits (Multu rs rt) x small h = h
with_index-fits (Div rs rt) x small h = h
with_index-fits (Divu rs rt) x small h = h
with_index-fits (Add rs rt rd) x small h = h
with_index-fits (Addu rs rt rd) x small h = h
with_index-fits (Sub rs rt rd) x small h = h
with_index-fits (Subu rs rt rd) x small h = h
with_index-fits (And rs rt rd) x small h = h
with_index-fits (Or rs rt rd) x small h = h
with_index-fits (Xor rs rt rd) x small h = h
with_index-fits (Nor rs rt rd) x small h = h
with_index-fits (Slt rs rt rd) x small h = h
with_index-fits (Sltu rs rt rd) x small h = h

pub with_piece-fits : (part : Part) (at : ℕ) (i : Inst) → at < 2 ^ 32 → Fits i → Fits (with_piece part at i)
with_piece-fits High at i small h = with_imm-fits i (at / 2 ^ 16) (omega arith) h
with_piece-fits Low at i small h = with_imm-fits i (at % 2 ^ 16) (omega arith) h
with_piece-fits Jump at i small h = with_index-fits i (at / 4 % 2 ^ 26) (omega arith) h

pub with_value-fits : (a : Addresses) (v : Option Value) (i : Inst) → Fits i → Fits (with_value a v i)
with_value-fits a None i h = h
with_value-fits a (Some v) i h =
    with_piece-fits v.part (word_sum (a.symbol v.module v.symbol) v.offset) i (omega arith) h

pub filled-fits : (a : Addresses) (line : Line) → Fits line.inst → Fits (filled a line)
filled-fits a line h = with_value-fits a line.value line.inst h

-- Steps

abbrev pub WordAddresses : Addresses → Type 0
WordAddresses a = (i : ℕ) → a.line i < 2 ^ 32

abbrev pub LinesFit : List Line → Type 0
LinesFit lines = (i : ℕ) (line : Line) → slice_get lines i ≡ Some line → Fits line.inst

pub standing-holds : (a : Addresses) (x : Straight) → HoldsAll x.state → HoldsAll (standing a x)
standing-holds a x h = record {
  words = record {
    count = h.words.count;
    zero_register = h.words.zero_register;
    registers = h.words.registers;
    high = h.words.high;
    less = h.words.less;
    low_bytes = h.words.low_bytes;
    stack_bytes = h.words.stack_bytes;
  };
  left = h.left;
}

pub linked_line-holds : (a : Addresses) (r i : ℕ) (s : State) → WordAddresses a → HoldsAll s → HoldsAll (linked_line a r i s)
linked_line-holds a r i s small h =
    record { words = with_register-words s.core r (a.line (i + 1)) (small (i + 1)) h.words; left = h.left }

pub on_to-holds : (j : Option ℕ) (i : ℕ) (s : State) → HoldsAll s → HoldsAll (on_to j i s).state
on_to-holds (Some j) i s h = h
on_to-holds None i s h = record { words = halted-words s.core Fetch h.words; left = h.left }

pub at_once-holds :
    (a : Addresses) (n : ℕ) (target : Option ℕ) (e : Effect) (i : ℕ) (s : State) →
    WordAddresses a → ValuesFit e → HoldsAll s → HoldsAll (at_once a n target e i s).state
at_once-holds a n target (effects.Write r v) i s small f h =
    record { words = with_register-words s.core r v f h.words; left = h.left }
at_once-holds a n target (effects.Pair hi lo) i s small f h = record {
  words = record {
    count = h.words.count;
    zero_register = h.words.zero_register;
    registers = h.words.registers;
    high = f.0;
    less = f.1;
    low_bytes = h.words.low_bytes;
    stack_bytes = h.words.stack_bytes;
  };
  left = h.left;
}
at_once-holds a n target (effects.Load r v) i s small f h =
    record { words = with_register-words s.core r v f h.words; left = h.left }
at_once-holds a n target (effects.StoreByte p v) i s small f h = record {
  words =
      memory-words-by (nat_lt p stack_start) s.core (slice_set s.core.low (p - text_start) v) (slice_set s.core.stack (p - stack_start) v)
      h.words (set-bytes s.core.low (p - text_start) v f h.words.low_bytes) (set-bytes s.core.stack (p - stack_start) v f h.words.stack_bytes);
  left = h.left;
}
at_once-holds a n target (effects.StoreHalf p v) i s small f h = record {
  words =
      memory-words-by (nat_lt p stack_start) s.core (with_half_in s.core.order s.core.low (p - text_start) v) (with_half_in s.core.order s.core.stack (p - stack_start) v)
      h.words (half-bytes s.core.order s.core.low (p - text_start) v h.words.low_bytes) (half-bytes s.core.order s.core.stack (p - stack_start) v h.words.stack_bytes);
  left = h.left;
}
at_once-holds a n target (effects.StoreWord p v) i s small f h = record {
  words =
      memory-words-by (nat_lt p stack_start) s.core (with_word_in s.core.order s.core.low (p - text_start) v) (with_word_in s.core.order s.core.stack (p - stack_start) v)
      h.words (word-bytes s.core.order s.core.low (p - text_start) v h.words.low_bytes) (word-bytes s.core.order s.core.stack (p - stack_start) v h.words.stack_bytes);
  left = h.left;
}
at_once-holds a n target (effects.Branch r taken to) i s small f h =
    on_to-holds (if taken then target else Some (i + 1)) i (linked_line a r i s) (linked_line-holds a r i s small h)
at_once-holds a n target (effects.JumpTo r to) i s small f h =
    on_to-holds (line_at a.line to 0 n) i (linked_line a r i s) (linked_line-holds a r i s small h)
at_once-holds a n target effects.Call i s small f h = called-words (asked s.core) s (asked-count s.core h.words) h
at_once-holds a n target (effects.Stop cause) i s small f h = record { words = halted-words s.core cause h.words; left = h.left }

pub straight_line-holds :
    (a : Addresses) (n : ℕ) (line : Option Line) (i : ℕ) (s : State) →
    WordAddresses a → ((l : Line) → line ≡ Some l → Fits l.inst) → HoldsAll s → HoldsAll (straight_line a n line i s).state
straight_line-holds a n None i s small fits h = record { words = halted-words s.core Fetch h.words; left = h.left }
straight_line-holds a n (Some line) i s small fits h =
    at_once-holds a n (aim a n line s.core) (effect_of (filled a line) s.core) i s small
    (effect_of-values (filled a line) s.core (filled-fits a line (fits line refl)) h.words) h

pub straight_going-holds :
    (a : Addresses) (lines : List Line) (e : Ending) (x : Straight) →
    WordAddresses a → LinesFit lines → HoldsAll x.state → HoldsAll (straight_going a lines e x).state
straight_going-holds a lines Running x small fits h =
    straight_line-holds a (length lines) (slice_get lines x.at) x.at (standing a x) small (fits x.at) (standing-holds a x h)
straight_going-holds a lines (Exited at len) x small fits h = h
straight_going-holds a lines (Halted cause pc) x small fits h = h

pub straight_step-holds :
    (a : Addresses) (lines : List Line) (x : Straight) →
    WordAddresses a → LinesFit lines → HoldsAll x.state → HoldsAll (straight_step a lines x).state
unfolding straight_step
straight_step-holds a lines x small fits h = straight_going-holds a lines x.state.core.ending x small fits h

pub straight_run-holds :
    (a : Addresses) (lines : List Line) (n : ℕ) (x : Straight) →
    WordAddresses a → LinesFit lines → HoldsAll x.state → HoldsAll (straight_run a lines n x).state
unfolding straight_run
straight_run-holds a lines zero x small fits h = h
straight_run-holds a lines (suc n) x small fits h =
    straight_step-holds a lines (straight_run a lines n x) small fits (straight_run-holds a lines n x small fits h)
