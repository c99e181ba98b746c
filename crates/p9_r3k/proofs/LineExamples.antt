-- Examples of lines: jumps by a piece of an address, and the delayed machine over lines.
use Rattle.std.proofs.Common.{ℕ, ◌≡◌, ◌+◌, ◌*◌, false, Option, Some, None, refl, List, [], ◌∷◌, slice_index}
use Rattle.p9_base.specs.declared.halt.HaltCause.TheVariants as halts
use Rattle.p9_base.specs.declared.halt.Ending.TheVariants.{Running, Halted}
use Rattle.p9_base.specs.SystemCalls.{State}
use Rattle.p9_r3k.specs.declared.inst.Inst.TheVariants as insts
use Rattle.p9_r3k.specs.declared.lines.Line.{Line}
use Rattle.p9_r3k.specs.declared.lines.Part.{Part}
use Rattle.p9_r3k.specs.declared.lines.Part.TheVariants as parts
use Rattle.p9_r3k.specs.Straight.{Addresses, straight_step, straight_run, line_at}
use Rattle.p9_r3k.specs.Delayed.{noop, delayed_step, delayed_run, enter}
use Rattle.p9_r3k.proofs.Examples.{with_text, plain, before_line}

-- every symbol stands where line 2 does
abbrev at_line_2 : Addresses
at_line_2 = record { line = λ i. 0x1020 + 4 * i; symbol = λ m s. 0x1028 }

abbrev jump_with : Part → Option ℕ → Line
jump_with part target = record {
  inst = insts.Jal 0;
  target = target;
  value = Some (record { part = part; «module» = 0; symbol = 0; offset = 0 });
  is_target = false;
}

abbrev three_lines : Line → List Line
three_lines first = first ∷ plain (insts.Break 0) None ∷ plain (insts.Addiu 0 1 7) None ∷ []

pub piece_goes : (straight_run at_line_2 (three_lines (jump_with parts.Jump None)) 1 (before_line 0)).at ≡ 2
unfolding straight_run straight_step line_at
piece_goes = refl

pub target_goes_first : (straight_run at_line_2 (three_lines (jump_with parts.Jump (Some 1))) 1 (before_line 0)).at ≡ 1
unfolding straight_run straight_step line_at
target_goes_first = refl

pub other_piece_stops : (straight_run at_line_2 (three_lines (jump_with parts.High None)) 1 (before_line 0)).state.core.ending ≡ Halted halts.Fetch 0x1020
unfolding straight_run straight_step line_at
other_piece_stops = refl

pub no_piece_stops : (straight_run at_line_2 (three_lines (plain (insts.Jal 2) None)) 1 (before_line 0)).state.core.ending ≡ Halted halts.Fetch 0x1020
unfolding straight_run straight_step line_at
no_piece_stops = refl

-- a piece of no line's address
pub wrong_piece_stops :
    (straight_run (record at_line_2 { symbol = λ m s. 0x102C }) (three_lines (jump_with parts.Jump None)) 1 (before_line 0)).state.core.ending
    ≡ Halted halts.Fetch 0x1020
unfolding straight_run straight_step line_at
wrong_piece_stops = refl

-- The delayed machine

-- before the first line
abbrev fresh : State
fresh = with_text []

-- a branch whose word says 0 goes to its target, after the line behind it
abbrev branching : List Line
branching =
    plain (insts.Beq 0 0 0) (Some 3) ∷ plain (insts.Addiu 0 1 5) None ∷ plain (insts.Break 0) None ∷ plain (insts.Addiu 0 2 6) None ∷ []

pub slot_runs : slice_index (delayed_run at_line_2 branching 2 fresh).core.regs 1 ≡ 5
unfolding delayed_run delayed_step
slot_runs = refl

pub target_is_reached : (delayed_run at_line_2 branching 2 fresh).core.pc ≡ 0x102C
unfolding delayed_run delayed_step
target_is_reached = refl

pub target_runs : slice_index (delayed_run at_line_2 branching 3 fresh).core.regs 2 ≡ 6
unfolding delayed_run delayed_step
target_runs = refl

pub delayed_piece_goes : (delayed_run at_line_2 (three_lines (jump_with parts.Jump None)) 1 fresh).core.next ≡ 0x1028
unfolding delayed_run delayed_step
delayed_piece_goes = refl

pub jump_in_slot :
    (delayed_run at_line_2 (plain (insts.J 0) (Some 0) ∷ plain (insts.J 0) (Some 0) ∷ []) 2 fresh).core.ending ≡ Halted halts.SlotBranch 0x1024
unfolding delayed_run delayed_step
jump_in_slot = refl

pub read_in_delay :
    (delayed_run at_line_2 (plain (insts.Lw 29 1 0xFFFC) None ∷ plain (insts.Addu 1 0 2) None ∷ []) 2 fresh).core.ending ≡ Halted halts.LoadHazard 0x1024
unfolding delayed_run delayed_step
read_in_delay = refl

pub read_behind_noop :
    (delayed_run at_line_2 (plain (insts.Lw 29 1 0xFFFC) None ∷ noop ∷ plain (insts.Addu 1 0 2) None ∷ []) 3 fresh).core.ending ≡ Running
unfolding delayed_run delayed_step
read_behind_noop = refl

pub behind_the_last_line : (delayed_run at_line_2 (noop ∷ []) 2 fresh).core.ending ≡ Halted halts.Fetch 0x1024
unfolding delayed_run delayed_step
behind_the_last_line = refl

-- Where lines are entered: of four lines the second and third have changed places

pub enters_exchanged : enter (0 ∷ 2 ∷ 1 ∷ 3 ∷ []) 4 1 ≡ 1
enters_exchanged = refl

pub enters_at_the_end : enter (0 ∷ 2 ∷ 1 ∷ 3 ∷ []) 5 4 ≡ 5
enters_at_the_end = refl
