-- Which lines change places: a line before a branch, jump or load moves behind it.
use Rattle.std.specs.Prelude.{ℕ, ◌+◌, ◌==◌, ◌&&◌, ◌||◌, Bool, true, false, not, if◌then◌else◌, Option, Some, None, List, [], ◌∷◌}
use Rattle.p9_r3k.specs.declared.inst.Inst.{Inst}
use Rattle.p9_r3k.specs.declared.inst.Inst.TheVariants.{Sll, Break}
use Rattle.p9_r3k.specs.declared.lines.Line.{Line}
use Rattle.p9_r3k.specs.Effects.{reads, reads_pair, writes_pair, branches}
use Rattle.p9_r3k.specs.Uses.{written, loads, stores, is_system_call, delays}
use Rattle.p9_slot.specs.declared.blocks.Block.{Block}
use Rattle.p9_slot.specs.declared.blocks.Block.TheVariants.{Single, Exchanged}

-- Instructions

abbrev pub is_noop : Inst → Bool
is_noop (Sll rt rd sh) = (rt == 0) && ((rd == 0) && (sh == 0))
is_noop _ = false

abbrev pub breaks : Inst → Bool
breaks (Break code) = true
breaks _ = false

-- an instruction that stays where it is: a branch, jump, load, SYSCALL, BREAK or no-op, or one that touches HI or LO
abbrev pub stays : Inst → Bool
stays c = delays c || (is_system_call c || (breaks c || (is_noop c || (reads_pair c || writes_pair c))))

-- whether the second reads or writes a register that the first writes; register 0 is none
abbrev pub follows_write : Inst → Inst → Bool
follows_write c b = not (written c == 0) && (reads b (written c) || (written b == written c))

-- whether an instruction and the branch, jump or load behind it may not change places because of a register
abbrev pub depend : Inst → Inst → Bool
depend c b = follows_write c b || (not (written b == 0) && reads c (written b))

-- whether an instruction may move behind a branch, jump or load that is no target
abbrev pub may_move : Inst → Inst → Bool
may_move c b = delays b && (not (stays c) && (not (depend c b) && not (loads b && stores c)))

-- whether the next instruction, if there is one, reads the register that a load writes
abbrev pub is_awaited : Inst → Option Inst → Bool
is_awaited b None = false
is_awaited b (Some x) = not (written b == 0) && reads x (written b)

-- Blocks: a line, or two lines that have changed places

-- the first instruction of blocks
abbrev pub first_of : List Block → Option Inst
first_of [] = None
first_of (Single line target ∷ rest) = Some line.inst
first_of (Exchanged line lead ∷ rest) = Some lead.inst

-- whether an instruction moves behind the one after it, before which instruction comes next then: behind each branch or
-- jump that it may, and behind a load that is awaited
abbrev pub moves : Inst → Inst → Bool → Option Inst → Bool
moves c b target next = not target && (may_move c b && (branches b || is_awaited b next))

-- blocks with one more line before them
abbrev pub prepended : Line → Bool → List Block → List Block
prepended line target [] = Single line target ∷ []
prepended line target (Single lead aim ∷ rest) =
    if moves line.inst lead.inst aim (first_of rest) then Exchanged line lead ∷ rest
    else Single line target ∷ Single lead aim ∷ rest
prepended line target (Exchanged moved lead ∷ rest) = Single line target ∷ Exchanged moved lead ∷ rest

-- the blocks of lines, the first of which has number i; a line is a target where it says so or is named by a line
abbrev pub blocks : (named : ℕ → Bool) → ℕ → List Line → List Block
blocks named i [] = []
blocks named i (line ∷ rest) = prepended line (line.is_target || named i) (blocks named (i + 1) rest)

-- whether some line names line t as its target
abbrev pub goes_to : ℕ → Option ℕ → Bool
goes_to t None = false
goes_to t (Some target) = target == t

abbrev pub is_named : List Line → ℕ → Bool
is_named [] t = false
is_named (line ∷ rest) t = goes_to t line.target || is_named rest t
