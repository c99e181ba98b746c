-- The delayed run of a schedule does as the straight run of the old lines.
use Rattle.std.specs.Prelude.{ℕ, suc, ◌+◌, ◌*◌, ◌^◌, ◌≡◌, ◌≤◌, ◌<◌, ◌⊎◌, true, false, List, length}
use Rattle.p9_base.specs.declared.halt.Ending.TheVariants.{Running}
use Rattle.p9_base.specs.Core.{text_start}
use Rattle.p9_base.specs.SystemCalls.{State}
use Rattle.p9_r3k.specs.declared.lines.Line.{Line}
use Rattle.p9_r3k.specs.Uses.{is_system_call}
use Rattle.p9_r3k.specs.Straight.{Addresses, Straight, straight_run}
use Rattle.p9_r3k.specs.Delayed.{line_address, delayed_run, enter, entered, NotHalted}
use Rattle.p9_slot.specs.Schedule.{is_at}

-- before the first line, with nothing on its way and the text up to an end
abbrev pub at_first_line : ℕ → State → State
at_first_line text_end s = record s {
  core = record s.core {
    text_end = text_end;
    pc = text_start;
    next = text_start + 4;
    slot = false;
    loaded = 0;
    used = false;
    used_before = false;
  };
}

-- equal registers, memory, input and output, and the same exit: all but what belongs to the delays and the text
pub record Alike (s t : State) : Type 0 where
  pub registers : t.core.regs ≡ s.core.regs
  pub hi : t.core.hi ≡ s.core.hi
  pub lo : t.core.lo ≡ s.core.lo
  pub low : t.core.low ≡ s.core.low
  pub stack : t.core.stack ≡ s.core.stack
  pub order : t.core.order ≡ s.core.order
  pub data_start : t.core.data_start ≡ s.core.data_start
  pub ending : t.core.ending ≡ s.core.ending
  pub left : t.left ≡ s.left
  pub out : t.out ≡ s.out

-- after some instructions the delayed run from t stands as the straight run from x after `before` steps or one more
pub record Follows (a : Addresses) (old new : List Line) (x : Straight) (t : State) (before : ℕ) : Type 0 where
  pub instructions : ℕ
  pub steps : ℕ
  pub at_least : before ≤ instructions
  pub at_most : instructions ≤ 3 * before + 3
  pub one_of_two : (steps ≡ before) ⊎ (steps ≡ suc before)
  -- one more where that step is a system call
  pub calls : (let y : Straight = straight_run a old before x in
      y.state.core.ending ≡ Running → is_at is_system_call old y.at ≡ true → steps ≡ suc before)
  pub alike : Alike (straight_run a old steps x).state (delayed_run a new instructions t)
  -- no stop but an exit comes by then
  pub no_stop : (n : ℕ) → n ≤ instructions → NotHalted (delayed_run a new n t).core.ending

-- each old line has the address at which it is entered; where these are below 2^28, from each start on, for each number
-- of steps that the straight run takes without a stop other than an exit
abbrev pub RunsAsStraight : List Line → List Line → List ℕ → Type 0
RunsAsStraight old new moved =
    (symbol : ℕ → ℕ → ℕ) (s : State) (text_end before : ℕ) →
    (let a = entered moved (length new) symbol in
    let x : Straight = record { state = s; at = 0 } in
    ((i : ℕ) → i < length old → line_address (enter moved (length new) i) < 2 ^ 28) →
    text_end ≤ s.core.data_start →
    NotHalted (straight_run a old (suc before) x).state.core.ending →
    Follows a old new x (at_first_line text_end s) before)
