-- The lines of a function's entry, and those of the start.
use Rattle.std.specs.Prelude.{ℕ, ◌+◌, ◌-◌, ◌%◌, ◌≡◌, ◌≤◌, true, List, length}
use Rattle.p9_base.specs.declared.halt.Ending.TheVariants.{Running}
use Rattle.p9_base.specs.Words.{IsWord, word_sum}
use Rattle.p9_base.specs.Core.{text_start, reg, with_reg, writable, with_word}
use Rattle.p9_base.specs.SystemCalls.{State}
use Rattle.p9_abs.specs.Runs.{lowered}
use Rattle.p9_r3k.specs.declared.lines.Line.{Line}
use Rattle.p9_r3k.specs.Straight.{Addresses}
use Rattle.p9_lines.specs.FormLines.{entry_lines, start_lines}
use Rattle.p9_forms.specs.Standing.{Rest, stands, Stand, Arrives}
use Rattle.p9_forms.specs.Following.{Site}

-- what is known of a state in every run
pub record IsSettled (s : State) : Type 0 where
  pub running : s.core.ending ≡ Running
  pub count : length s.core.regs ≡ 32
  pub zero_register : reg s.core 0 ≡ 0
  pub textless : s.core.text_end ≡ text_start
  pub stack : IsWord (reg s.core 29)

-- Entries

-- R29 is lowered, and R31 kept where it points to
abbrev pub entered_by : ℕ → State → State
entered_by n s = record s { core = with_word (lowered s.core n) (reg s.core 29 - n) (reg s.core 31) }

-- a function that keeps its return address is entered where there is room for it
pub record CanEnter (h : Site) (s : State) : Type 0 where
  pub settled : IsSettled s
  pub keeps : h.setting.keeps ≡ true
  pub small : IsWord h.setting.taken
  pub room : h.setting.taken ≤ reg s.core 29
  pub aligned : (reg s.core 29 - h.setting.taken) % 4 ≡ 0
  pub free : 4 ≤ writable s.core (reg s.core 29 - h.setting.taken)
  pub there : Stand h.lines h.place h.first (entry_lines h.setting)

abbrev pub EntryDoes : Type 0
EntryDoes =
    (h : Site) (s : State) (t : ℕ) (k : Rest) → CanEnter h s →
    Arrives h.addresses h.lines (stands t k s h.first) (entered_by h.setting.taken s) (h.first + length (entry_lines h.setting))

-- The start: R30 becomes the address of a symbol and an offset

abbrev pub based_at : ℕ → State → State
based_at to s = record s { core = record s.core { regs = with_reg s.core.regs 30 to } }

abbrev pub StartDoes : Type 0
StartDoes =
    (a : Addresses) (lines : List Line) (place : ℕ → ℕ) (n unit symbol offset : ℕ) (s : State) (t : ℕ) (k : Rest) → IsSettled s →
    Stand lines place n (start_lines unit symbol offset) →
    Arrives a lines (stands t k s n) (based_at (word_sum (a.symbol unit symbol) offset) s) (n + 2)
