-- The places inside an instruction, as those of the reader's definition.
use Rattle.std.specs.Prelude.{ℕ, Bool, ◌&&◌, not, List, [], ◌∷◌, ◌++◌, is_some}
use Rattle.p9_abs.specs.declared.instructions.Op.{Op}
use Rattle.p9_abs.specs.declared.instructions.Operand.{Operand}
use Rattle.p9_abs.specs.declared.instructions.Operand.TheVariants.{Reg}
use Rattle.p9_abs.specs.declared.instructions.Abs.{Abs}
use Rattle.p9_abs.specs.Forms.{form_of}
use Rattle.p9_abs.specs.Validity.{writes_last}
use Rattle.p9_object.specs.Bytes.{field_of, operand_width, instruction_width}
use Rattle.p9_object.specs.Machine as machine
use Rattle.p9_instr.specs.declared.sorts.Sort as sorts
use Rattle.p9_instr.specs.declared.sorts.Sort.TheVariants as of
use Rattle.p9_instr.specs.declared.places.Limits.{Limits}
use Rattle.p9_instr.specs.declared.places.OperandPlace as operands
use Rattle.p9_instr.specs.declared.places.OperandPlace.TheVariants as at
use Rattle.p9_instr.specs.declared.places.OperandTurn as operand_turns
use Rattle.p9_instr.specs.declared.places.OperandTurn.TheVariants as turn
use Rattle.p9_instr.specs.declared.places.InstructionPlace as instructions
use Rattle.p9_instr.specs.declared.places.InstructionPlace.TheVariants as inside
use Rattle.p9_instr.specs.declared.places.InstructionTurn as instruction_turns
use Rattle.p9_instr.specs.declared.places.InstructionTurn.TheVariants as whole

abbrev pub sort : sorts.Sort → machine.Sort
sort of.Register = machine.RegisterSort
sort of.Constant = machine.ConstantSort
sort of.Address = machine.AddressSort
sort of.Memory = machine.MemorySort
sort of.HiLo = machine.HiLoSort
sort of.Target = machine.TargetSort
sort of.Function = machine.FunctionSort

abbrev pub operand_place : operands.OperandPlace → machine.OperandPlace
operand_place at.Kind = machine.AtTag
operand_place at.Constant = machine.AtConstant
operand_place at.AddressSymbol = machine.AtAddressSymbol
operand_place (at.AddressOffset s) = machine.AtAddressOffset s
operand_place at.ArgumentAddress = machine.AtArgumentAddress
operand_place at.FrameAddress = machine.AtFrameAddress
operand_place at.Symbol = machine.AtSymbol
operand_place (at.Offset s) = machine.AtOffset s
operand_place at.Argument = machine.AtArgument
operand_place at.FrameOffset = machine.AtFrameOffset
operand_place at.Base = machine.AtBase
operand_place (at.BaseOffset r) = machine.AtBaseOffset r
operand_place at.Label = machine.AtLabel
operand_place at.Function = machine.AtFunction

abbrev pub operand_turn : operand_turns.OperandTurn → machine.Turn machine.OperandPlace Operand
operand_turn turn.Bad = machine.Bad
operand_turn turn.Register = machine.Stay machine.AtRegister
operand_turn (turn.Stay place) = machine.Stay (operand_place place)
operand_turn (turn.Whole operand) = machine.Whole operand

abbrev pub instruction_place : instructions.InstructionPlace → machine.InstructionPlace
instruction_place inside.Operation = machine.AtOperation
instruction_place (inside.Register op before) = machine.InOperand op before machine.AtRegister
instruction_place (inside.Operand op before place) = machine.InOperand op before (operand_place place)

abbrev pub instruction_turn : instruction_turns.InstructionTurn → machine.Turn machine.InstructionPlace Abs
instruction_turn whole.Bad = machine.Bad
instruction_turn (whole.Stay place) = machine.Stay (instruction_place place)
instruction_turn (whole.Whole a) = machine.Whole a

-- what is known around the next operand
abbrev pub around : Limits → Op → List Operand → machine.Around
around limits op before = machine.around limits.symbols limits.frame limits.total op before

-- what the bytes of a field make of a place

abbrev pub operand_read : machine.Around → machine.OperandPlace → (bytes : List ℕ) → machine.Turn machine.OperandPlace Operand
operand_read a place bytes = machine.operand_step a place (field_of (operand_width place) bytes)

abbrev pub instruction_read : Limits → (more : Bool) → machine.InstructionPlace → (bytes : List ℕ) → machine.Turn machine.InstructionPlace Abs
instruction_read limits more place bytes =
    machine.instruction_step limits.symbols limits.frame limits.total more place (field_of (instruction_width place) bytes)

-- the operation writes the last of these, which are a form
abbrev pub is_last_written : Op → List Operand → Bool
is_last_written op operands = writes_last op && is_some (form_of op operands)

-- what the number of a register makes of the place behind these operands
abbrev pub register_read : Op → List Operand → ℕ → machine.Turn machine.InstructionPlace Abs
register_read op before r =
    machine.behind_operand op before (machine.whole_if (machine.is_own_register r && not (is_last_written op (before ++ Reg r ∷ []) && machine.is_lasting_register r)) (Reg r))
