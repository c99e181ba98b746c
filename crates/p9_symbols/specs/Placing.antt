-- Where functions, instructions and data lie, by the addresses of functions and instructions in the order of the text.
use Rattle.std.specs.Prelude.{ℕ, ◌+◌, List, take, sum_by, slice_index}
use Rattle.p9_base.specs.Core.{text_start}
use Rattle.p9_r3k.specs.Start.{page_from}
use Rattle.p9_abs.specs.declared.modules.AModule.{AModule}
use Rattle.p9_abs.specs.Runs.{Routine}
use Rattle.p9_abs.specs.Programs.{Placing, routines_of}
use Rattle.p9_text.specs.Places.{places_of}

-- the number of the entry of function f: each function before it has one for its entry and one for each instruction
abbrev pub entry_of : List Routine → ℕ → ℕ
entry_of rs f = sum_by places_of (take f rs)

-- the data begin at the first page that is not below the end of a text of so many bytes
abbrev pub data_start_of : ℕ → ℕ
data_start_of text_size = page_from (text_start + text_size)

-- of each function its address, and then those of its instructions
abbrev pub placing_of : List AModule → (places : List ℕ) → (text_size : ℕ) → Placing
placing_of modules places text_size = record {
  function = λ f. slice_index places (entry_of (routines_of modules) f);
  instruction = λ f k. slice_index places (entry_of (routines_of modules) f + 1 + k);
  data_start = data_start_of text_size;
}
