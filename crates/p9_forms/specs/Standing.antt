-- When the straight machine stands before a line as abstract code does before an instruction: with the same state, but
-- for register 28 and for what of a core means nothing there.
use Rattle.std.specs.Prelude.{ℕ, ◌+◌, ◌≡◌, ◌≤◌, Bool, Some, option_map, List, [], ◌∷◌, slice_set, slice_get}
use Rattle.p9_base.specs.Core.{Core}
use Rattle.p9_base.specs.SystemCalls.{State}
use Rattle.p9_r3k.specs.declared.lines.Line.{Line}
use Rattle.p9_r3k.specs.Straight.{Addresses, Straight, straight_run}

-- what of a core belongs to the delays and to the text
pub record Rest : Type 0 where
  pub pc : ℕ
  pub next : ℕ
  pub slot : Bool
  pub loaded : ℕ
  pub used : Bool
  pub used_before : Bool
  pub text_end : ℕ

abbrev pub rested : Rest → Core → Core
rested k c = record c {
  text_end = k.text_end;
  pc = k.pc;
  next = k.next;
  slot = k.slot;
  loaded = k.loaded;
  used = k.used;
  used_before = k.used_before;
}

-- a state with t in register 28
abbrev pub with_temporary : ℕ → State → State
with_temporary t s = record s { core = record s.core { regs = slice_set s.core.regs 28 t } }

abbrev pub dressed : ℕ → Rest → State → State
dressed t k s = record (with_temporary t s) { core = rested k (with_temporary t s).core }

-- before a line
abbrev pub stands : ℕ → Rest → State → ℕ → Straight
stands t k s at = record { state = dressed t k s; at = at }

-- Lines among others

-- a line whose target is the number of a line, with a mark
abbrev pub placed : (ℕ → ℕ) → Bool → Line → Line
placed place mark line = record line { target = option_map place line.target; is_target = mark }

-- these lines stand from line n on, with targets by the numbers of lines, whatever marks they bear
abbrev pub Stand : List Line → (ℕ → ℕ) → ℕ → List Line → Type 0
Stand lines place n [] = Unit {0}
Stand lines place n (line ∷ rest) = (mark : Bool) × (slice_get lines n ≡ Some (placed place mark line)) × Stand lines place (n + 1) rest

-- the straight machine comes in 1 to 7 lines to where it stands as a state before a line
pub record Arrives (a : Addresses) (lines : List Line) (from : Straight) (s : State) (at : ℕ) : Type 0 where
  pub count : ℕ
  pub temporary : ℕ
  pub rest : Rest
  pub some : 1 ≤ count
  pub few : count ≤ 7
  pub run : straight_run a lines count from ≡ stands temporary rest s at
