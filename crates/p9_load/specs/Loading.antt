-- The executable of modules: its text, from the schedule of their lines, its data, and its symbols.
use Rattle.std.specs.Prelude.{ℕ, ◌+◌, ◌-◌, ◌*◌, ◌≡◌, List, ◌++◌, length, Ok}
use Rattle.p9_base.specs.Core.{text_start}
use Rattle.p9_abs.specs.declared.modules.AModule.{AModule}
use Rattle.p9_abs.specs.BuiltIn.{linked}
use Rattle.p9_abs.specs.Programs.{Placing, routines_of, init_bytes, bss_size, arun}
use Rattle.p9_r3k.specs.declared.lines.Line.{Line}
use Rattle.p9_r3k.specs.Start.{start, zeros}
use Rattle.p9_slot.specs.Schedule.{EachOnce, AddsOnlyNoops, CallsReturn, TargetsDivide, IsSpaced}
use Rattle.p9_slot.specs.Justified.{NoopsJustified}
use Rattle.p9_slot.specs.Runs.{RunsAsStraight}
use Rattle.p9_pieces.specs.Callees.{callee_in}
use Rattle.p9_expand.specs.Program.{starts_of, program_lines}
use Rattle.p9_image.specs.Text.{LinesFit, text_bytes}
use Rattle.p9_image_laws.specs.Reaching.{LinesReach}
use Rattle.p9_aout.specs.declared.format.Image.{Image}
use Rattle.p9_aout.specs.Image.{ImageParts, image_of, parts_of}
use Rattle.p9_aout.specs.Spelled.{spelled}
use Rattle.p9_load_laws.specs.Showing.{ShowsAs}
use Rattle.p9_symbols.specs.Placing.{placing_of}
use Rattle.p9_symbols.specs.Tables.{symbol_tables}
use Rattle.p9_symbols.specs.Entries.{symbol_entries}
use Rattle.p9_load.specs.declared.loaded.Loaded.{Loaded}
use Rattle.p9_load.specs.Addresses.{entered_addresses}

-- where functions, instructions and data lie
abbrev pub placing : List AModule → Loaded → Placing
placing modules loaded = placing_of modules loaded.places.items loaded.text_size

-- Text

-- lines as they are scheduled, with the new number of each old one
pub record IsSchedule (old new : List Line) (moved : List ℕ) : Type 0 where
  pub once : EachOnce old new moved
  pub added : AddsOnlyNoops old new moved
  pub justified : NoopsJustified new moved
  pub calls : CallsReturn old new moved
  pub divided : TargetsDivide old new moved
  pub spaced : IsSpaced old new moved
  pub runs : RunsAsStraight old new moved

-- each function and instruction has the address at which its first line is entered
abbrev pub places_in : List AModule → (new : List Line) → (moved : List ℕ) → List ℕ
places_in modules new moved = entered_addresses moved (length new) (starts_of (callee_in modules) (routines_of modules))

-- a text is the words of the scheduled lines, whose fields fit their bits and whose branches reach their targets, with
-- the addresses of symbols put in
pub record IsText (modules : List AModule) (loaded : Loaded) (text : List ℕ) : Type 0 where
  pub lines : List Line
  pub moved : List ℕ
  pub scheduled : IsSchedule (program_lines modules) lines moved
  pub fit : LinesFit lines
  pub reach : LinesReach lines
  pub size : loaded.text_size ≡ 4 * length lines
  pub places : loaded.places.items ≡ places_in modules lines moved
  pub words : text ≡ text_bytes (symbol_tables modules (placing modules loaded)) lines

-- The whole

-- the bytes are an executable of this text, which begins to run at its first line, of the data with addresses put in, of
-- the commons as zeros, and of all symbols
pub record Loads (modules : List AModule) (loaded : Loaded) : Type 0 where
  pub image : Image
  pub bytes : loaded.bytes ≡ spelled image
  pub read : image_of loaded.bytes ≡ Ok (parts_of image)
  pub entry : loaded.entry ≡ text_start
  pub starts : image.entry ≡ text_start
  pub text : IsText modules loaded image.text
  pub init : image.init ≡ init_bytes modules (placing modules loaded)
  pub bss : image.bss ≡ bss_size (linked modules)
  pub symbols : image.syms.items ≡ symbol_entries modules (placing modules loaded)

-- What the machine does

-- the bytes from the text's start to the data
abbrev pub below_data : (text : List ℕ) → (data_start : ℕ) → List ℕ
below_data text data_start = text ++ zeros (data_start - (text_start + length text))

-- for each input: from the start of the executable the machine shows what the modules' run shows after each number of
-- steps
abbrev pub RunsAsModules : List AModule → Loaded → Type 0
RunsAsModules modules loaded =
    (parts : ImageParts) (input : List ℕ) (n : ℕ) → image_of loaded.bytes ≡ Ok parts →
    (let p : Placing = placing modules loaded in
    ShowsAs (start parts.text parts.init parts.bss parts.entry input) n (arun modules p (below_data parts.text p.data_start) input n))
