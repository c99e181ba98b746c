-- How blocks are laid out, with the no-ops that delays need.
use Rattle.std.specs.Prelude.{ℕ, ◌+◌, ◌<◌, ◌==◌, ◌&&◌, Bool, false, not, IfSome, if◌then◌else◌, List, [], ◌∷◌, ◌++◌, length, min, replicate, slice_index, nat_lt}
use Rattle.p9_r3k.specs.declared.inst.Inst.{Inst}
use Rattle.p9_r3k.specs.declared.lines.Line.{Line}
use Rattle.p9_r3k.specs.Effects.{reads, reads_pair, writes_pair, branches}
use Rattle.p9_r3k.specs.Uses.{written, loads}
use Rattle.p9_r3k.specs.Delayed.{noop}
use Rattle.p9_slot.specs.declared.blocks.Block.{Block}
use Rattle.p9_slot.specs.declared.blocks.Block.TheVariants.{Single, Exchanged}
use Rattle.p9_slot.specs.declared.placing.Recent.{Recent}
use Rattle.p9_slot.specs.Schedule.{retargeted}

-- nothing is on its way
abbrev pub nothing : Recent
nothing = record { last = false; before = false; loaded = 0 }

-- how many no-ops an instruction needs for HI and LO
abbrev pub pair_needs : Recent → Inst → ℕ
pair_needs r i = if writes_pair i then (if r.last then 2 else if r.before then 1 else 0) else 0

-- whether it reads the register that is being loaded
abbrev pub awaits : Recent → Inst → Bool
awaits r i = not (r.loaded == 0) && reads i r.loaded

-- how many no-ops an instruction needs before it
abbrev pub needed : Recent → Inst → ℕ
needed r i = if pair_needs r i == 0 then (if awaits r i then 1 else 0) else pair_needs r i

-- how many no-ops come behind it
abbrev pub slot : Inst → ℕ
slot i = if branches i then 1 else 0

-- after an instruction, and the no-op behind it where it is a branch or jump
abbrev pub after : Recent → Inst → Recent
after r i =
    if branches i then nothing
    else record { last = reads_pair i; before = r.last && (needed r i == 0); loaded = if loads i then written i else 0 }

-- the new numbers of lines, where a number comes next
abbrev pub numbers : Recent → ℕ → List Block → List ℕ
numbers r at [] = []
numbers r at (Single line target ∷ rest) =
    (at + needed r line.inst) ∷ numbers (after r line.inst) (at + needed r line.inst + 1 + slot line.inst) rest
numbers r at (Exchanged line lead ∷ rest) =
    (at + needed r lead.inst + 1) ∷ ((at + needed r lead.inst) ∷ numbers nothing (at + needed r lead.inst + 2) rest)

-- the blocks with their no-ops
abbrev pub laid : (ℕ → ℕ) → Recent → List Block → List Line
laid f r [] = []
laid f r (Single line target ∷ rest) =
    replicate (needed r line.inst) noop ++ (retargeted f line ∷ (replicate (slot line.inst) noop ++ laid f (after r line.inst) rest))
laid f r (Exchanged line lead ∷ rest) =
    replicate (needed r lead.inst) noop ++ (retargeted f lead ∷ (retargeted f line ∷ laid f nothing rest))

-- where a line is entered: the lesser of its number and the next line's
abbrev pub entry : List ℕ → ℕ → ℕ
entry moved t =
    if nat_lt (t + 1) (length moved) then min (slice_index moved t) (slice_index moved (t + 1)) else slice_index moved t

-- each target is below a number
abbrev pub TargetsBelow : ℕ → List Line → Type 0
TargetsBelow n [] = Unit {0}
TargetsBelow n (line ∷ rest) = IfSome line.target (λ t. t < n) × TargetsBelow n rest

-- the lines of blocks, in their old order
abbrev pub lines_of : List Block → List Line
lines_of [] = []
lines_of (Single line target ∷ rest) = line ∷ lines_of rest
lines_of (Exchanged line lead ∷ rest) = line ∷ (lead ∷ lines_of rest)
