-- When an added no-op is justified: no line could fill its delay, or HI and LO need it.
use Rattle.std.specs.Prelude.{ℕ, suc, ◌+◌, ◌≡◌, ◌≤◌, ◌<◌, ◌⊎◌, true, Some, List, length, slice_get}
use Rattle.p9_r3k.specs.declared.inst.Inst.{Inst}
use Rattle.p9_r3k.specs.declared.lines.Line.{Line}
use Rattle.p9_r3k.specs.Effects.{reads_pair, writes_pair, branches}
use Rattle.p9_r3k.specs.Uses.{loads, stores}
use Rattle.p9_slot.specs.Schedule.{is_at, IsAdded}
use Rattle.p9_slot.specs.Blocks.{stays, depend, is_awaited}

-- control may come to new line j from elsewhere: it says so, or some line's target is j
abbrev pub IsTarget : List Line → ℕ → Type 0
IsTarget new j =
    ((line : Line) × (slice_get new j ≡ Some line) × (line.is_target ≡ true))
    ⊎ ((i : ℕ) × (line : Line) × (slice_get new i ≡ Some line) × (line.target ≡ Some j))

-- new line j is in the slot of a branch or jump
abbrev pub IsInSlot : List Line → ℕ → Type 0
IsInSlot new j = (p : ℕ) × (j ≡ suc p) × (is_at branches new p ≡ true)

-- before new line j stands a load of a register that an instruction reads
abbrev pub IsBehindLoad : List Line → ℕ → Inst → Type 0
IsBehindLoad new j b =
    (p : ℕ) × (load : Line) × (j ≡ suc p) × (slice_get new p ≡ Some load) × (loads load.inst ≡ true) × (is_awaited load.inst (Some b) ≡ true)

-- new line j stands before b and can't move behind it: it is a branch, jump, load, SYSCALL, BREAK or no-op, or touches HI
-- or LO, or one of both writes a register that the other reads or writes, or it is in a slot, or b would come directly
-- behind a load that it awaits
pub record CannotMove (new : List Line) (j : ℕ) (b : Inst) : Type 0 where
  pub line : Line
  pub here : slice_get new j ≡ Some line
  pub why : (stays line.inst ≡ true) ⊎ ((depend line.inst b ≡ true) ⊎ (IsInSlot new j ⊎ IsBehindLoad new j b))

-- no line can move behind b, which is new line j
abbrev pub NoneMoves : List Line → ℕ → Inst → Type 0
NoneMoves new j b = (j ≡ 0) ⊎ (IsTarget new j ⊎ ((p : ℕ) × (j ≡ suc p) × CannotMove new p b))

-- new line q fills the slot of a branch or jump behind which no line can move
pub record FillsSlot (new : List Line) (q : ℕ) : Type 0 where
  pub branch : ℕ
  pub line : Line
  pub behind : q ≡ suc branch
  pub here : slice_get new branch ≡ Some line
  pub branches : branches line.inst ≡ true
  pub none_moves : NoneMoves new branch line.inst

-- new line q fills the delay of a load that the next line awaits, and behind which no line can move: a store may not
-- either
pub record FillsLoad (new : List Line) (q : ℕ) : Type 0 where
  pub load : ℕ
  pub line : Line
  pub next : Line
  pub behind : q ≡ suc load
  pub here : slice_get new load ≡ Some line
  pub loads : loads line.inst ≡ true
  pub there : slice_get new (suc q) ≡ Some next
  pub awaited : is_awaited line.inst (Some next.inst) ≡ true
  pub none_moves : NoneMoves new load line.inst ⊎ ((p : ℕ) × (load ≡ suc p) × (is_at stores new p ≡ true))

-- without new line q a line that writes HI or LO would come within two instructions behind one that reads HI or LO
pub record PartsPair (new : List Line) (q : ℕ) : Type 0 where
  pub reader : ℕ
  pub writer : ℕ
  pub after : reader < q
  pub before : q < writer
  pub near : writer ≤ reader + 3
  pub reads : is_at reads_pair new reader ≡ true
  pub writes : is_at writes_pair new writer ≡ true

abbrev pub IsJustified : List Line → ℕ → Type 0
IsJustified new q = FillsSlot new q ⊎ (FillsLoad new q ⊎ PartsPair new q)

abbrev pub NoopsJustified : List Line → List ℕ → Type 0
NoopsJustified new moved = (q : ℕ) → q < length new → IsAdded moved q → IsJustified new q
