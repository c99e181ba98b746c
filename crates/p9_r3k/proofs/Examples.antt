-- Examples: the stops of short programs, and instructions at the edges of their values.
use Rattle.std.proofs.Common.{ℕ, ◌≡◌, ◌+◌, ◌*◌, ◌++◌, true, false, Option, Some, None, refl, List, [], ◌∷◌, length, replicate, slice_index, drop}
use Rattle.p9_base.specs.Numbers.{word_bytes}
use Rattle.p9_r3k.specs.declared.inst.Inst.TheVariants as insts
use Rattle.p9_base.specs.declared.halt.HaltCause.TheVariants as halts
use Rattle.p9_base.specs.declared.halt.Ending.TheVariants.{Running, Exited, Halted}
use Rattle.p9_base.specs.declared.halt.Effect.TheVariants as effects
use Rattle.p9_base.specs.declared.halt.Asked.TheVariants as asks
use Rattle.p9_base.specs.declared.order.ByteOrder.{ByteOrder}
use Rattle.p9_base.specs.declared.order.ByteOrder.TheVariants.{Big, Little}
use Rattle.p9_r3k.specs.Table.{decoded}
use Rattle.p9_r3k.specs.Memory.{Core, text_start}
use Rattle.p9_r3k.specs.Effects.{effect_of}
use Rattle.p9_r3k.specs.Machine.{State, fetched, applied, asked, step, run}
use Rattle.p9_r3k.specs.declared.inst.Inst.{Inst}
use Rattle.p9_r3k.specs.declared.lines.Line.{Line}
use Rattle.p9_r3k.specs.declared.lines.Part.TheVariants as parts
use Rattle.p9_r3k.specs.Straight.{Addresses, Straight, filled, line_at, straight_step, straight_run}
use Rattle.p9_r3k.specs.Start.{before_run}

-- a machine with this text and no data, over a stack of zeros
abbrev pub with_text : List ℕ → State
with_text text = record {
  core = before_run text [] (text_start + length text) (text_start + length text) text_start;
  left = [];
  out = [];
}

-- Stops

pub early_read : (run 2 (with_text (143 ∷ 161 ∷ 255 ∷ 252 ∷ 0 ∷ 32 ∷ 8 ∷ 33 ∷ []))).core.ending ≡ Halted halts.LoadHazard 0x1024
unfolding run step fetched decoded
early_read = refl

pub late_read : (run 3 (with_text (143 ∷ 161 ∷ 255 ∷ 252 ∷ 0 ∷ 0 ∷ 0 ∷ 0 ∷ 0 ∷ 32 ∷ 8 ∷ 33 ∷ []))).core.ending ≡ Running
unfolding run step fetched decoded
late_read = refl

pub load_of_register_0 : (run 2 (with_text (143 ∷ 160 ∷ 255 ∷ 252 ∷ 0 ∷ 0 ∷ 8 ∷ 33 ∷ []))).core.ending ≡ Running
unfolding run step fetched decoded
load_of_register_0 = refl

pub pair_written_early : (run 3 (with_text (0 ∷ 0 ∷ 8 ∷ 18 ∷ 0 ∷ 0 ∷ 0 ∷ 0 ∷ 0 ∷ 0 ∷ 0 ∷ 24 ∷ []))).core.ending ≡ Halted halts.HiLoHazard 0x1028
unfolding run step fetched decoded
pair_written_early = refl

pub pair_written_late : (run 4 (with_text (0 ∷ 0 ∷ 8 ∷ 18 ∷ 0 ∷ 0 ∷ 0 ∷ 0 ∷ 0 ∷ 0 ∷ 0 ∷ 0 ∷ 0 ∷ 0 ∷ 0 ∷ 24 ∷ []))).core.ending ≡ Running
unfolding run step fetched decoded
pair_written_late = refl

pub branch_in_slot : (run 2 (with_text (8 ∷ 0 ∷ 4 ∷ 8 ∷ 8 ∷ 0 ∷ 4 ∷ 8 ∷ []))).core.ending ≡ Halted halts.SlotBranch 0x1024
unfolding run step fetched decoded
branch_in_slot = refl

pub unreadable : (run 1 (with_text (140 ∷ 1 ∷ 0 ∷ 0 ∷ []))).core.ending ≡ Halted (halts.BadAddress 0) 0x1020
unfolding run step fetched decoded
unreadable = refl

pub misaligned : (run 1 (with_text (140 ∷ 1 ∷ 0 ∷ 1 ∷ []))).core.ending ≡ Halted (halts.Misaligned 1) 0x1020
unfolding run step fetched decoded
misaligned = refl

pub divide : (run 1 (with_text (0 ∷ 0 ∷ 0 ∷ 26 ∷ []))).core.ending ≡ Halted halts.Divide 0x1020
unfolding run step fetched decoded
divide = refl

pub break_stops : (run 1 (with_text (0 ∷ 0 ∷ 0 ∷ 13 ∷ []))).core.ending ≡ Halted halts.Break 0x1020
unfolding run step fetched decoded
break_stops = refl

pub bad_word : (run 1 (with_text (255 ∷ 255 ∷ 255 ∷ 255 ∷ []))).core.ending ≡ Halted halts.BadWord 0x1020
unfolding run step fetched decoded
bad_word = refl

pub off_the_end : (run 2 (with_text (0 ∷ 0 ∷ 0 ∷ 0 ∷ []))).core.ending ≡ Halted halts.Fetch 0x1024
unfolding run step fetched decoded
off_the_end = refl

pub text_is_not_written : (run 2 (with_text (60 ∷ 1 ∷ 0 ∷ 0 ∷ 172 ∷ 32 ∷ 16 ∷ 32 ∷ []))).core.ending ≡ Halted (halts.BadAddress 0x1020) 0x1024
unfolding run step fetched decoded
text_is_not_written = refl

pub bad_call : (run 3 (with_text (39 ∷ 189 ∷ 255 ∷ 240 ∷ 36 ∷ 1 ∷ 0 ∷ 9 ∷ 0 ∷ 0 ∷ 0 ∷ 12 ∷ []))).core.ending ≡ Halted (halts.BadCall 9) 0x1028
unfolding run step fetched decoded
bad_call = refl

pub exits_empty : (run 3 (with_text (39 ∷ 189 ∷ 255 ∷ 240 ∷ 36 ∷ 1 ∷ 0 ∷ 8 ∷ 0 ∷ 0 ∷ 0 ∷ 12 ∷ []))).core.ending ≡ Exited 0 0
unfolding run step fetched decoded
exits_empty = refl

pub argument_missing : (run 2 (with_text (36 ∷ 1 ∷ 0 ∷ 8 ∷ 0 ∷ 0 ∷ 0 ∷ 12 ∷ []))).core.ending ≡ Halted (halts.BadAddress 0x7FFF_F004) 0x1024
unfolding run step fetched decoded
argument_missing = refl

pub argument_cut : (run 3 (with_text (39 ∷ 189 ∷ 255 ∷ 245 ∷ 36 ∷ 1 ∷ 0 ∷ 8 ∷ 0 ∷ 0 ∷ 0 ∷ 12 ∷ []))).core.ending ≡ Halted (halts.Misaligned 0x7FFF_EFF9) 0x1028
unfolding run step fetched decoded
argument_cut = refl

-- a system call reads registers 1 and 29, and no other

pub call_reads_1 : (run 2 (with_text (143 ∷ 161 ∷ 255 ∷ 252 ∷ 0 ∷ 0 ∷ 0 ∷ 12 ∷ []))).core.ending ≡ Halted halts.LoadHazard 0x1024
unfolding run step fetched decoded
call_reads_1 = refl

pub call_reads_29 : (run 2 (with_text (143 ∷ 189 ∷ 255 ∷ 252 ∷ 0 ∷ 0 ∷ 0 ∷ 12 ∷ []))).core.ending ≡ Halted halts.LoadHazard 0x1024
unfolding run step fetched decoded
call_reads_29 = refl

pub call_reads_no_other : (run 2 (with_text (143 ∷ 162 ∷ 255 ∷ 252 ∷ 0 ∷ 0 ∷ 0 ∷ 12 ∷ []))).core.ending ≡ Halted (halts.BadCall 0) 0x1024
unfolding run step fetched decoded
call_reads_no_other = refl

-- the program of exits_empty, with the lowest byte of each word first

abbrev pub with_little_text : List ℕ → State
with_little_text text = record (with_text text) { core = record (with_text text).core { order = Little } }

pub little_exits_empty : (run 3 (with_little_text (240 ∷ 255 ∷ 189 ∷ 39 ∷ 8 ∷ 0 ∷ 1 ∷ 36 ∷ 12 ∷ 0 ∷ 0 ∷ 0 ∷ []))).core.ending ≡ Exited 0 0
unfolding run step fetched decoded
little_exits_empty = refl

-- Branches: the slot runs, and a link is set where the branch isn't taken

pub slot_runs : slice_index (run 3 (with_text (16 ∷ 0 ∷ 0 ∷ 2 ∷ 36 ∷ 1 ∷ 0 ∷ 5 ∷ 36 ∷ 1 ∷ 0 ∷ 6 ∷ 0 ∷ 0 ∷ 0 ∷ 0 ∷ []))).core.regs 1 ≡ 5
unfolding run step fetched decoded
slot_runs = refl

pub branch_goes : (run 2 (with_text (16 ∷ 0 ∷ 0 ∷ 2 ∷ 36 ∷ 1 ∷ 0 ∷ 5 ∷ 36 ∷ 1 ∷ 0 ∷ 6 ∷ 0 ∷ 0 ∷ 0 ∷ 0 ∷ []))).core.pc ≡ 0x102C
unfolding run step fetched decoded
branch_goes = refl

pub untaken_links : slice_index (run 1 (with_text (4 ∷ 16 ∷ 0 ∷ 2 ∷ 0 ∷ 0 ∷ 0 ∷ 0 ∷ []))).core.regs 31 ≡ 0x1028
unfolding run step fetched decoded
untaken_links = refl

pub untaken_goes_on : (run 2 (with_text (4 ∷ 16 ∷ 0 ∷ 2 ∷ 0 ∷ 0 ∷ 0 ∷ 0 ∷ []))).core.pc ≡ 0x1028
unfolding run step fetched decoded
untaken_goes_on = refl

pub jump_goes : (run 2 (with_text (8 ∷ 0 ∷ 4 ∷ 8 ∷ 0 ∷ 0 ∷ 0 ∷ 0 ∷ []))).core.pc ≡ 0x1020
unfolding run step fetched decoded
jump_goes = refl

pub load_stays : slice_index (run 2 (with_text (143 ∷ 161 ∷ 255 ∷ 252 ∷ 36 ∷ 1 ∷ 0 ∷ 7 ∷ 0 ∷ 0 ∷ 0 ∷ 0 ∷ []))).core.regs 1 ≡ 7
unfolding run step fetched decoded
load_stays = refl

-- Values, with a in register 1 and b in register 2

abbrev pub holding : ℕ → ℕ → Core
holding a b = record (with_text (0 ∷ 0 ∷ 0 ∷ 0 ∷ [])).core { regs = 0 ∷ a ∷ b ∷ [] }

pub add_least : effect_of (insts.Add 1 2 3) (holding 0x8000_0000 0x8000_0000) ≡ effects.Stop halts.Overflow
add_least = refl

pub add_greatest : effect_of (insts.Add 1 2 3) (holding 0x7FFF_FFFF 1) ≡ effects.Stop halts.Overflow
add_greatest = refl

pub add_signs : effect_of (insts.Add 1 2 3) (holding 0x7FFF_FFFF 0x8000_0000) ≡ effects.Write 3 0xFFFF_FFFF
add_signs = refl

pub add_immediate : effect_of (insts.Addi 1 3 0x8000) (holding 0x8000_0000 0) ≡ effects.Stop halts.Overflow
add_immediate = refl

pub subtract_least : effect_of (insts.Sub 1 2 3) (holding 0 0x8000_0000) ≡ effects.Stop halts.Overflow
subtract_least = refl

pub subtract_negative : effect_of (insts.Sub 1 2 3) (holding 0xFFFF_FFFF 0x8000_0000) ≡ effects.Write 3 0x7FFF_FFFF
subtract_negative = refl

pub subtract_wraps : effect_of (insts.Subu 1 2 3) (holding 0 1) ≡ effects.Write 3 0xFFFF_FFFF
subtract_wraps = refl

pub signed_less : effect_of (insts.Slt 1 2 3) (holding 0xFFFF_FFFF 0) ≡ effects.Write 3 1
signed_less = refl

pub word_less : effect_of (insts.Sltu 1 2 3) (holding 0xFFFF_FFFF 0) ≡ effects.Write 3 0
word_less = refl

pub immediate_as_word : effect_of (insts.Sltiu 1 3 0xFFFF) (holding 5 0) ≡ effects.Write 3 1
immediate_as_word = refl

pub immediate_signed : effect_of (insts.Slti 1 3 0xFFFF) (holding 5 0) ≡ effects.Write 3 0
immediate_signed = refl

pub or_immediate : effect_of (insts.Ori 1 3 0xFFFF) (holding 0 0) ≡ effects.Write 3 0xFFFF
or_immediate = refl

pub load_upper : effect_of (insts.Lui 3 0x8001) (holding 0 0) ≡ effects.Write 3 0x8001_0000
load_upper = refl

pub nor_of_zeros : effect_of (insts.Nor 1 2 3) (holding 0 0) ≡ effects.Write 3 0xFFFF_FFFF
nor_of_zeros = refl

pub shift_sign : effect_of (insts.Sra 1 3 4) (holding 0x8000_0000 0) ≡ effects.Write 3 0xF800_0000
shift_sign = refl

pub shift_zeros : effect_of (insts.Srl 1 3 4) (holding 0x8000_0000 0) ≡ effects.Write 3 0x0800_0000
shift_zeros = refl

pub shift_by_five_bits : effect_of (insts.Sllv 2 1 3) (holding 1 0x21) ≡ effects.Write 3 2
shift_by_five_bits = refl

pub product_signed : effect_of (insts.Mult 1 2) (holding 0xFFFF_FFFF 2) ≡ effects.Pair 0xFFFF_FFFF 0xFFFF_FFFE
product_signed = refl

pub product_of_words : effect_of (insts.Multu 1 2) (holding 0xFFFF_FFFF 2) ≡ effects.Pair 1 0xFFFF_FFFE
product_of_words = refl

pub quotient_truncates : effect_of (insts.Div 1 2) (holding 0xFFFF_FFF9 2) ≡ effects.Pair 0xFFFF_FFFF 0xFFFF_FFFD
quotient_truncates = refl

pub quotient_of_least : effect_of (insts.Div 1 2) (holding 0x8000_0000 0xFFFF_FFFF) ≡ effects.Pair 0 0x8000_0000
quotient_of_least = refl

pub quotient_of_words : effect_of (insts.Divu 1 2) (holding 0xFFFF_FFF9 2) ≡ effects.Pair 1 0x7FFF_FFFC
quotient_of_words = refl

pub jump_by_register : effect_of (insts.Jalr 1 1) (holding 0x1020 0) ≡ effects.JumpTo 1 0x1020
jump_by_register = refl

pub branch_back : effect_of (insts.Bne 1 2 0xFFFF) (holding 1 2) ≡ effects.Branch 0 true 0x1020
branch_back = refl

pub not_above_zero : effect_of (insts.Blez 1 1) (holding 0 0) ≡ effects.Branch 0 true 0x1028
not_above_zero = refl

pub negative_not_above_zero : effect_of (insts.Bgtz 1 1) (holding 0xFFFF_FFFF 0) ≡ effects.Branch 0 false 0x1028
negative_not_above_zero = refl

pub below_zero : effect_of (insts.Bltz 1 1) (holding 0xFFFF_FFFF 0) ≡ effects.Branch 0 true 0x1028
below_zero = refl

pub zero_not_below_zero : effect_of (insts.Bltz 1 1) (holding 0 0) ≡ effects.Branch 0 false 0x1028
zero_not_below_zero = refl

pub zero_or_above : effect_of (insts.Bgez 1 1) (holding 0 0) ≡ effects.Branch 0 true 0x1028
zero_or_above = refl

-- the region is that of the instruction after the jump
pub jump_into_the_next_region : effect_of (insts.Jal 5) (record (holding 0 0) { pc = 0x2FFF_FFFC }) ≡ effects.Branch 31 true 0x3000_0014
jump_into_the_next_region = refl

-- HI and LO, which hold 8 and 9: a write of one keeps the other

abbrev pub with_pair : Core
with_pair = record (holding 5 0) { hi = 8; lo = 9 }

pub high_written : effect_of (insts.Mthi 1) with_pair ≡ effects.Pair 5 9
high_written = refl

pub low_written : effect_of (insts.Mtlo 1) with_pair ≡ effects.Pair 8 5
low_written = refl

pub high_read : effect_of (insts.Mfhi 3) with_pair ≡ effects.Write 3 8
high_read = refl

pub low_read : effect_of (insts.Mflo 3) with_pair ≡ effects.Write 3 9
low_read = refl

-- Loads and stores, by both byte orders, over four bytes at 0x1024, with that address in register 1

abbrev pub over_bytes : ByteOrder → Core
over_bytes order = record (before_run (7 ∷ 7 ∷ 7 ∷ 7 ∷ 0x81 ∷ 2 ∷ 0xF3 ∷ 4 ∷ []) [] 0x1024 0x1024 0x1020) {
  order = order;
  regs = 0 ∷ 0x1024 ∷ 0x1234_5678 ∷ [];
}

pub signed_byte_loaded : effect_of (insts.Lb 1 3 0) (over_bytes Big) ≡ effects.Load 3 0xFFFF_FF81
signed_byte_loaded = refl

pub byte_loaded : effect_of (insts.Lbu 1 3 0) (over_bytes Big) ≡ effects.Load 3 0x81
byte_loaded = refl

pub signed_half_loaded : effect_of (insts.Lh 1 3 0) (over_bytes Big) ≡ effects.Load 3 0xFFFF_8102
signed_half_loaded = refl

pub half_loaded : effect_of (insts.Lhu 1 3 0) (over_bytes Big) ≡ effects.Load 3 0x8102
half_loaded = refl

pub word_loaded : effect_of (insts.Lw 1 3 0) (over_bytes Big) ≡ effects.Load 3 0x8102_F304
word_loaded = refl

pub little_half_loaded : effect_of (insts.Lh 1 3 0) (over_bytes Little) ≡ effects.Load 3 0x281
little_half_loaded = refl

pub little_word_loaded : effect_of (insts.Lw 1 3 0) (over_bytes Little) ≡ effects.Load 3 0x4F3_0281
little_word_loaded = refl

-- the four bytes after a store
abbrev pub stored : Inst → ByteOrder → List ℕ
stored i order = drop 4 (applied (effect_of i (over_bytes order)) (over_bytes order) false).low

pub byte_stored : stored (insts.Sb 1 2 1) Big ≡ 0x81 ∷ 0x78 ∷ 0xF3 ∷ 4 ∷ []
byte_stored = refl

pub half_stored : stored (insts.Sh 1 2 2) Big ≡ 0x81 ∷ 2 ∷ 0x56 ∷ 0x78 ∷ []
half_stored = refl

pub word_stored : stored (insts.Sw 1 2 0) Big ≡ 0x12 ∷ 0x34 ∷ 0x56 ∷ 0x78 ∷ []
word_stored = refl

pub little_half_stored : stored (insts.Sh 1 2 2) Little ≡ 0x81 ∷ 2 ∷ 0x78 ∷ 0x56 ∷ []
little_half_stored = refl

pub little_word_stored : stored (insts.Sw 1 2 0) Little ≡ 0x78 ∷ 0x56 ∷ 0x34 ∷ 0x12 ∷ []
little_word_stored = refl

-- System calls, with 4 bytes of text, the argument words in 14 bytes of data behind it, and R29 4 bytes before them

abbrev pub calling : (number d a n : ℕ) → Core
calling number d a n =
    let text : List ℕ = 7 ∷ 7 ∷ 7 ∷ 7 ∷ [] in
    record (before_run (text ++ word_bytes d ++ word_bytes a ++ word_bytes n ++ (1 ∷ 1 ∷ [])) [] 0x1024 0x1024 0x1020) {
      regs = 0 ∷ number ∷ (replicate 27 0 ++ (0x1020 ∷ 0 ∷ 0 ∷ []));
    }

pub read_to_the_end : asked (calling 15 0 0x1024 14) ≡ asks.Read 0x1024 14
read_to_the_end = refl

pub read_past_the_end : asked (calling 15 0 0x1024 15) ≡ asks.Stop (halts.BadAddress 0x1032)
read_past_the_end = refl

pub read_into_text : asked (calling 15 0 0x1020 1) ≡ asks.Stop (halts.BadAddress 0x1020)
read_into_text = refl

pub read_nothing : asked (calling 15 0 0 0) ≡ asks.Read 0 0
read_nothing = refl

pub read_negative : asked (calling 15 0 0 0x8000_0000) ≡ asks.Refused
read_negative = refl

pub read_other_descriptor : asked (calling 15 1 0x1024 1) ≡ asks.Refused
read_other_descriptor = refl

pub write_over_the_seam : asked (calling 20 1 0x1020 18) ≡ asks.Write 0x1020 18
write_over_the_seam = refl

pub write_past_the_end : asked (calling 20 1 0x1020 19) ≡ asks.Stop (halts.BadAddress 0x1032)
write_past_the_end = refl

pub write_other_descriptor : asked (calling 20 0 0x1024 1) ≡ asks.Refused
write_other_descriptor = refl

pub exit_text : asked (calling 8 0x102C 0 0x4142_0000) ≡ asks.Exits 0x102C 2
exit_text = refl

pub exit_text_over_the_seam : asked (calling 8 0x1020 0 0) ≡ asks.Exits 0x1020 4
exit_text_over_the_seam = refl

pub exit_text_without_end : asked (calling 8 0x1030 0 0) ≡ asks.Stop (halts.BadAddress 0x1032)
exit_text_without_end = refl

pub no_such_call : asked (calling 9 0 0 0) ≡ asks.Stop (halts.BadCall 9)
no_such_call = refl

-- The straight machine

abbrev pub plain : Inst → Option ℕ → Line
plain i t = record { inst = i; target = t; value = None; is_target = false }

abbrev pub places : Addresses
places = record { line = λ i. 0x1020 + 4 * i; symbol = λ m s. 0x1234_5678 }

abbrev pub before_line : ℕ → Straight
before_line i = record { state = with_text []; at = i }

-- a call of line 3, which returns to line 1
abbrev pub calls_and_returns : List Line
calls_and_returns =
    plain (insts.Jal 0) (Some 3) ∷ plain (insts.Addiu 0 1 5) None ∷ plain (insts.J 0) (Some 2) ∷ plain (insts.Jr 31) None ∷ []

pub call_goes : (straight_run places calls_and_returns 1 (before_line 0)).at ≡ 3
unfolding straight_run straight_step line_at
call_goes = refl

pub call_links : slice_index (straight_run places calls_and_returns 1 (before_line 0)).state.core.regs 31 ≡ 0x1024
unfolding straight_run straight_step line_at
call_links = refl

pub return_goes : (straight_run places calls_and_returns 2 (before_line 0)).at ≡ 1
unfolding straight_run straight_step line_at
return_goes = refl

pub line_runs : slice_index (straight_run places calls_and_returns 3 (before_line 0)).state.core.regs 1 ≡ 5
unfolding straight_run straight_step line_at
line_runs = refl

pub jump_stays : (straight_run places calls_and_returns 9 (before_line 0)).at ≡ 2
unfolding straight_run straight_step line_at
jump_stays = refl

pub load_is_read_at_once : (straight_run places (plain (insts.Lw 29 1 0xFFFC) None ∷ plain (insts.Addu 1 1 2) None ∷ []) 2 (before_line 0)).state.core.ending ≡ Running
unfolding straight_run straight_step line_at
load_is_read_at_once = refl

pub text_is_no_memory : (straight_run places (plain (insts.Lb 0 1 0x1020) None ∷ []) 1 (before_line 0)).state.core.ending ≡ Halted (halts.BadAddress 0x1020) 0x1020
unfolding straight_run straight_step line_at
text_is_no_memory = refl

pub after_the_last_line : (straight_run places [] 1 (before_line 0)).state.core.ending ≡ Halted halts.Fetch 0x1020
unfolding straight_run straight_step line_at
after_the_last_line = refl

pub high_half :
    filled places (record { inst = insts.Lui 3 0; target = None; value = Some (record { part = parts.High; «module» = 0; symbol = 0; offset = 4 }); is_target = false })
    ≡ insts.Lui 3 0x1234
high_half = refl

pub low_half :
    filled places (record { inst = insts.Ori 3 3 0; target = None; value = Some (record { part = parts.Low; «module» = 0; symbol = 0; offset = 4 }); is_target = false })
    ≡ insts.Ori 3 3 0x567C
low_half = refl

pub jump_index :
    filled places (record { inst = insts.Jal 0; target = None; value = Some (record { part = parts.Jump; «module» = 0; symbol = 0; offset = 0 }); is_target = false })
    ≡ insts.Jal 0x8D_159E
jump_index = refl
