-- The straight machine: lines of instructions whose branches and loads act at once, without hazards.
use Rattle.std.specs.Prelude.{ℕ, zero, suc, ◌+◌, ◌/◌, ◌%◌, ◌^◌, ◌==◌, Option, Some, None, if◌then◌else◌, List, length, slice_get}
use Rattle.p9_base.specs.Words.{word_sum}
use Rattle.p9_r3k.specs.declared.inst.Inst.{Inst}
use Rattle.p9_r3k.specs.declared.inst.Inst.TheVariants.{J, Jal, Addi, Addiu, Slti, Sltiu, Andi, Ori, Xori, Lui, Lb, Lh, Lw, Lbu, Lhu, Sb, Sh, Sw}
use Rattle.p9_r3k.specs.declared.lines.Line.{Line}
use Rattle.p9_r3k.specs.declared.lines.Value.{Value}
use Rattle.p9_r3k.specs.declared.lines.Part.{Part}
use Rattle.p9_r3k.specs.declared.lines.Part.TheVariants.{High, Low, Jump}
use Rattle.p9_base.specs.declared.halt.HaltCause.TheVariants.{Fetch}
use Rattle.p9_base.specs.declared.halt.Ending.{Ending}
use Rattle.p9_base.specs.declared.halt.Ending.TheVariants.{Running, Exited, Halted}
use Rattle.p9_base.specs.declared.halt.Effect.{Effect}
use Rattle.p9_base.specs.declared.halt.Effect.TheVariants.{Write, Pair, Load, StoreByte, StoreHalf, StoreWord, Branch, JumpTo, Call, Stop}
use Rattle.p9_r3k.specs.Memory.{Core, text_start, with_reg, with_byte, with_half, with_word}
use Rattle.p9_r3k.specs.Effects.{effect_of, jump_to}
use Rattle.p9_r3k.specs.Machine.{State, halted, asked, called}

-- A map of addresses: of the lines, and of the symbols of each module

pub record Addresses : Type 0 where
  pub line : ℕ → ℕ
  pub symbol : ℕ → ℕ → ℕ

-- What a line does: its instruction with the piece of an address that its value names

-- the instruction with another half word
abbrev pub with_imm : Inst → ℕ → Inst
with_imm (Addi rs rt imm) h = Addi rs rt h
with_imm (Addiu rs rt imm) h = Addiu rs rt h
with_imm (Slti rs rt imm) h = Slti rs rt h
with_imm (Sltiu rs rt imm) h = Sltiu rs rt h
with_imm (Andi rs rt imm) h = Andi rs rt h
with_imm (Ori rs rt imm) h = Ori rs rt h
with_imm (Xori rs rt imm) h = Xori rs rt h
with_imm (Lui rt imm) h = Lui rt h
with_imm (Lb rs rt imm) h = Lb rs rt h
with_imm (Lh rs rt imm) h = Lh rs rt h
with_imm (Lw rs rt imm) h = Lw rs rt h
with_imm (Lbu rs rt imm) h = Lbu rs rt h
with_imm (Lhu rs rt imm) h = Lhu rs rt h
with_imm (Sb rs rt imm) h = Sb rs rt h
with_imm (Sh rs rt imm) h = Sh rs rt h
with_imm (Sw rs rt imm) h = Sw rs rt h
with_imm i h = i

-- the jump with another place
abbrev pub with_index : Inst → ℕ → Inst
with_index (J index) x = J x
with_index (Jal index) x = Jal x
with_index i x = i

abbrev pub with_piece : Part → ℕ → Inst → Inst
with_piece High at i = with_imm i (at / 2 ^ 16)
with_piece Low at i = with_imm i (at % 2 ^ 16)
with_piece Jump at i = with_index i (at / 4 % 2 ^ 26)

abbrev pub with_value : Addresses → Option Value → Inst → Inst
with_value a None i = i
with_value a (Some v) i = with_piece v.part (word_sum (a.symbol v.module v.symbol) v.offset) i

abbrev pub filled : Addresses → Line → Inst
filled a line = with_value a line.value line.inst

-- Where a line goes on

-- the least line from i on, of n, with an address
unfoldable pub line_at : (ℕ → ℕ) → ℕ → ℕ → ℕ → Option ℕ
line_at line to i zero = None
line_at line to i (suc n) = if line i == to then Some i else line_at line to (i + 1) n

-- the line that a jump's piece of an address names: the least line at the address in its word
abbrev pub named_by_piece : Addresses → ℕ → Part → Inst → Core → Option ℕ
named_by_piece a n Jump (J index) c = line_at a.line (jump_to c index) 0 n
named_by_piece a n Jump (Jal index) c = line_at a.line (jump_to c index) 0 n
named_by_piece a n part i c = None

abbrev pub named_by_value : Addresses → ℕ → Option Value → Inst → Core → Option ℕ
named_by_value a n None i c = None
named_by_value a n (Some v) i c = named_by_piece a n v.part i c

abbrev pub target_or : Option ℕ → Option ℕ → Option ℕ
target_or (Some t) named = Some t
target_or None named = named

-- where a branch or jump goes: to its target, or, where a jump without a target has a piece of an address, to the line
-- that the piece names; else to no line
abbrev pub aim : Addresses → ℕ → Line → Core → Option ℕ
aim a n line c = target_or line.target (named_by_value a n line.value (filled a line) c)

-- The machine before the line of number `at`. Of its core the place, the slot and the marks mean nothing.
pub record Straight : Type 0 where
  pub state : State
  pub at : ℕ

-- a line is done at its address, over a text that is no memory
abbrev pub standing : Addresses → Straight → State
standing a x = record x.state { core = record x.state.core { pc = a.line x.at; text_end = text_start } }

-- register r holds the address of the line after line i
abbrev pub linked_line : Addresses → ℕ → ℕ → State → State
linked_line a r i s = record s { core = record s.core { regs = with_reg s.core.regs r (a.line (i + 1)) } }

-- on to a line; there is none where an address is no line's
abbrev pub on_to : Option ℕ → ℕ → State → Straight
on_to (Some j) i s = record { state = s; at = j }
on_to None i s = record { state = record s { core = halted s.core Fetch }; at = i }

-- an effect of line i of n, which is done at once
abbrev pub at_once : Addresses → ℕ → Option ℕ → Effect → ℕ → State → Straight
at_once a n target (Write r v) i s =
    record { state = record s { core = record s.core { regs = with_reg s.core.regs r v } }; at = i + 1 }
at_once a n target (Pair h l) i s = record { state = record s { core = record s.core { hi = h; lo = l } }; at = i + 1 }
at_once a n target (Load r v) i s =
    record { state = record s { core = record s.core { regs = with_reg s.core.regs r v } }; at = i + 1 }
at_once a n target (StoreByte p v) i s = record { state = record s { core = with_byte s.core p v }; at = i + 1 }
at_once a n target (StoreHalf p v) i s = record { state = record s { core = with_half s.core p v }; at = i + 1 }
at_once a n target (StoreWord p v) i s = record { state = record s { core = with_word s.core p v }; at = i + 1 }
at_once a n target (Branch r taken to) i s = on_to (if taken then target else Some (i + 1)) i (linked_line a r i s)
at_once a n target (JumpTo r to) i s = on_to (line_at a.line to 0 n) i (linked_line a r i s)
at_once a n target Call i s = record { state = called (asked s.core) s; at = i + 1 }
at_once a n target (Stop cause) i s = record { state = record s { core = halted s.core cause }; at = i }

abbrev pub straight_line : Addresses → ℕ → Option Line → ℕ → State → Straight
straight_line a n None i s = record { state = record s { core = halted s.core Fetch }; at = i }
straight_line a n (Some line) i s = at_once a n (aim a n line s.core) (effect_of (filled a line) s.core) i s

-- a run that has ended stays
abbrev pub straight_going : Addresses → List Line → Ending → Straight → Straight
straight_going a lines Running x = straight_line a (length lines) (slice_get lines x.at) x.at (standing a x)
straight_going a lines (Exited at len) x = x
straight_going a lines (Halted cause pc) x = x

unfoldable pub straight_step : Addresses → List Line → Straight → Straight
straight_step a lines x = straight_going a lines x.state.core.ending x

unfoldable pub straight_run : Addresses → List Line → ℕ → Straight → Straight
straight_run a lines zero x = x
straight_run a lines (suc n) x = straight_step a lines (straight_run a lines n x)
