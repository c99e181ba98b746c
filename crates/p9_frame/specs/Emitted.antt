-- The code that is made by a table of homes, offsets of automatics and starts of blocks.
use Rattle.std.specs.Prelude.{ℕ, ◌+◌, Bool, true, false, Option, List, [], ◌∷◌, ◌++◌, map, slice_index}
use Rattle.p9_abs.specs.declared.instructions.Operand.{Operand}
use Rattle.p9_abs.specs.declared.instructions.Operand.TheVariants.{Reg, Const, AddrSB, AddrFP, AddrSP, MemSB, MemFP, MemSP, MemReg, Label, Func, Hi, Lo, Auto, AutoAddr}
use Rattle.p9_abs.specs.declared.instructions.Abs.{Abs}
use Rattle.p9_abs.specs.Framed.{Shift, instruction, move_of_size, shift_operands, home_or_memory, from_entry}
use Rattle.p9_homes.specs.Tables.{home_in}
use Rattle.p9_frame.specs.Plans.{held, at_call}

abbrev pub move_of : (size offset home : ℕ) → Bool → Abs
move_of size offset home loads = instruction (move_of_size size) (shift_operands loads (MemReg 29 offset) (Reg home))

abbrev pub moves_of : (sizes offsets : List ℕ) → List Shift → List Abs
moves_of sizes offsets shifts = map (λ (s : Shift). move_of (slice_index sizes s.auto) (slice_index offsets s.auto) s.home s.loads) shifts

abbrev pub operand_in : List (Option ℕ) → (offsets starts : List ℕ) → (taken i : ℕ) → Operand → Operand
operand_in table offsets starts taken i (Auto v o) = home_or_memory (home_in table i v) (slice_index offsets v + o)
operand_in table offsets starts taken i (AutoAddr v o) = from_entry taken (slice_index offsets v + o)
operand_in table offsets starts taken i (Label l) = Label (slice_index starts l)
operand_in table offsets starts taken i (Reg r) = Reg r
operand_in table offsets starts taken i (Const c) = Const c
operand_in table offsets starts taken i (AddrSB s o) = AddrSB s o
operand_in table offsets starts taken i (AddrFP o) = AddrFP o
operand_in table offsets starts taken i (AddrSP o) = AddrSP o
operand_in table offsets starts taken i (MemSB s o) = MemSB s o
operand_in table offsets starts taken i (MemFP o) = MemFP o
operand_in table offsets starts taken i (MemSP o) = MemSP o
operand_in table offsets starts taken i (MemReg r o) = MemReg r o
operand_in table offsets starts taken i (Func s) = Func s
operand_in table offsets starts taken i Hi = Hi
operand_in table offsets starts taken i Lo = Lo

abbrev pub framed_in : List (Option ℕ) → (offsets starts : List ℕ) → (taken i : ℕ) → Abs → Abs
framed_in table offsets starts taken i a = instruction a.op (map (operand_in table offsets starts taken i) a.operands)

-- an instruction of this code with its moves
abbrev pub block_in : List Abs → (sizes : List ℕ) → List (Option ℕ) → (offsets starts : List ℕ) → (taken i : ℕ) → Abs → List Abs
block_in code sizes table offsets starts taken i a =
    moves_of sizes offsets (at_call code i (held code table false i 12))
    ++ (framed_in table offsets starts taken i a ∷ moves_of sizes offsets (at_call code i (held code table true (i + 1) 12)))

abbrev pub blocks_in : List Abs → (sizes : List ℕ) → List (Option ℕ) → (offsets starts : List ℕ) → (taken i : ℕ) → List Abs → List Abs
blocks_in code sizes table offsets starts taken i [] = []
blocks_in code sizes table offsets starts taken i (a ∷ rest) = block_in code sizes table offsets starts taken i a ++ blocks_in code sizes table offsets starts taken (i + 1) rest
