-- Programs: the definition that each symbol stands for, the order of functions, where data lie, the
-- start, and the run of several modules with the built-in one.
use Rattle.std.specs.Prelude.{ℕ, zero, suc, ◌+◌, ◌-◌, ◌*◌, ◌%◌, ◌^◌, ◌==◌, ◌&&◌, ◌||◌, ◌≡◌, ◌≤◌, ◌<◌, nat_lt, Bool, true, false, not, Option, Some, None, is_some, option_map, option_and_then, unwrap_or, if◌then◌else◌, List, [], ◌∷◌, ◌++◌, map, filter, find, flat_map, length, replicate, slice_get, slice_set, sum_by, bytes_eq}
use Rattle.p9_base.specs.Words.{word_sum}
use Rattle.p9_base.specs.Numbers.{word_bytes}
use Rattle.p9_base.specs.declared.halt.Ending.TheVariants.{Running}
use Rattle.p9_base.specs.declared.order.ByteOrder.TheVariants.{Big}
use Rattle.p9_base.specs.Core.{Core, text_start, stack_start, stack_end}
use Rattle.p9_base.specs.SystemCalls.{State}
use Rattle.p9_abs.specs.declared.modules.DataPiece.{DataPiece}
use Rattle.p9_abs.specs.declared.modules.DataPiece.TheVariants.{Raw, Address}
use Rattle.p9_abs.specs.declared.modules.Body.{Body}
use Rattle.p9_abs.specs.declared.modules.Body.TheVariants.{Declared, Used, Text, Data, Common}
use Rattle.p9_abs.specs.declared.modules.Def.{Def}
use Rattle.p9_abs.specs.declared.modules.Symbol.{Symbol}
use Rattle.p9_abs.specs.declared.modules.AModule.{AModule}
use Rattle.p9_abs.specs.Modules.{size_of, is_definition, is_full, is_text, pieces_of, rounded, pieces_size}
use Rattle.p9_abs.specs.Names.{symbol_at}
use Rattle.p9_abs.specs.BuiltIn.{builtin_symbols, linked}
use Rattle.p9_abs.specs.Runs.{Routine, Addresses, Status, Going, Gone, Broken, arun_of}

-- Symbols and definitions

-- a symbol record, and the numbers of its module and of itself
pub record Numbered : Type 0 where
  pub def : Def
  pub symbol : Symbol

abbrev pub numbered_from : (unit k : ℕ) → List Symbol → List Numbered
numbered_from unit k [] = []
numbered_from unit k (s ∷ ss) = record { def = record { «module» = unit; symbol = k }; symbol = s } ∷ numbered_from unit (k + 1) ss

abbrev pub records_from : ℕ → List AModule → List Numbered
records_from unit [] = []
records_from unit (m ∷ ms) = numbered_from unit 0 m.symbols ++ records_from (unit + 1) ms

-- all records of the modules, in order
abbrev pub records : List AModule → List Numbered
records ms = records_from 0 ms

abbrev pub is_global_named : List ℕ → Symbol → Bool
is_global_named name s = not s.local && bytes_eq s.name name

abbrev pub defines_fully : List ℕ → Numbered → Bool
defines_fully name r = is_global_named name r.symbol && is_full r.symbol.body

abbrev pub defines_name : List ℕ → Numbered → Bool
defines_name name r = is_global_named name r.symbol && is_definition r.symbol.body

abbrev pub or_else : Option Numbered → Option Numbered → Option Def
or_else None other = option_map (λ (r : Numbered). r.def) other
or_else (Some r) other = Some r.def

-- the chosen definition of a global name: text or data, else the first common one
abbrev pub chosen : List AModule → List ℕ → Option Def
chosen ms name = or_else (find (defines_fully name) (records ms)) (find (defines_name name) (records ms))

-- what a symbol stands for: a local one for itself
abbrev pub stands_for : List AModule → Def → Symbol → Option Def
stands_for ms d s = if s.local then Some d else chosen ms s.name

abbrev pub definition_of : List AModule → Def → Option Def
definition_of ms d = option_and_then (stands_for ms d) (symbol_at ms d)

abbrev pub same_def : Def → Def → Bool
same_def a b = (a.«module» == b.«module») && (a.symbol == b.symbol)

-- Functions in the order of the text: the built-in module's first one, those of the modules, and the
-- rest of the built-in module's

abbrev pub routine_of : Def → Body → List Routine
routine_of d (Text def) = record { unit = d.«module»; symbol = d.symbol; def = def } ∷ []
routine_of d Declared = []
routine_of d Used = []
routine_of d (Data pieces) = []
routine_of d (Common size) = []

abbrev pub routines_in : List Numbered → List Routine
routines_in rs = flat_map (λ (r : Numbered). routine_of r.def r.symbol.body) rs

abbrev pub with_start : List Routine → List Routine → List Routine
with_start [] others = others
with_start (main ∷ rest) others = main ∷ (others ++ rest)

abbrev pub routines_of : List AModule → List Routine
routines_of modules = with_start (routines_in (numbered_from (length modules) 0 builtin_symbols)) (routines_in (records modules))

-- a definition's function
abbrev pub is_routine : Def → Routine → Bool
is_routine d r = (r.unit == d.«module») && (r.symbol == d.symbol)

abbrev pub routine_number : List Routine → ℕ → Def → Option ℕ
routine_number [] f d = None
routine_number (r ∷ rs) f d = if is_routine d r then Some f else routine_number rs (f + 1) d

-- Data, from the data start: objects with initial bytes first, then commons, each in the order of the
-- records and at a multiple of 4

abbrev pub is_data : Numbered → Bool
is_data r = has_pieces r.symbol.body
  where
    has_pieces : Body → Bool
    has_pieces (Data pieces) = true
    has_pieces Declared = false
    has_pieces Used = false
    has_pieces (Text def) = false
    has_pieces (Common size) = false

abbrev pub is_common_body : Body → Bool
is_common_body (Common size) = true
is_common_body Declared = false
is_common_body Used = false
is_common_body (Text def) = false
is_common_body (Data pieces) = false

abbrev pub is_its_own : Def → Option Def → Bool
is_its_own d None = false
is_its_own d (Some other) = same_def d other

-- a common definition that is an object of its own: the one that its name stands for
abbrev pub is_bss : List AModule → Numbered → Bool
is_bss ms r = is_common_body r.symbol.body && is_its_own r.def (stands_for ms r.def r.symbol)

abbrev pub inits_of : List AModule → List Numbered
inits_of ms = filter is_data (records ms)

abbrev pub bss_of : List AModule → List Numbered
bss_of ms = filter (is_bss ms) (records ms)

-- the bytes that an object takes
abbrev pub space_of : Numbered → ℕ
space_of r = rounded (unwrap_or (size_of r.symbol.body) 0)

-- an object's offset from the data start, where the list begins at this one
abbrev pub offset_in : ℕ → List Numbered → Def → Option ℕ
offset_in at [] d = None
offset_in at (r ∷ rs) d = if same_def r.def d then Some at else offset_in (at + space_of r) rs d

abbrev pub data_objects : List AModule → List Numbered
data_objects ms = inits_of ms ++ bss_of ms

abbrev pub init_size : List AModule → ℕ
init_size ms = sum_by space_of (inits_of ms)

abbrev pub bss_size : List AModule → ℕ
bss_size ms = sum_by space_of (bss_of ms)

-- Addresses

-- what a loader chooses: the addresses of functions, by their numbers in the text, of their
-- instructions, and of the data start
pub record Placing : Type 0 where
  pub function : ℕ → ℕ
  pub instruction : ℕ → ℕ → ℕ
  pub data_start : ℕ

abbrev pub placed_at : List AModule → Placing → Def → Option ℕ → ℕ
placed_at modules p d (Some f) = p.function f
placed_at modules p d None = p.data_start + unwrap_or (offset_in 0 (data_objects (linked modules)) d) 0

abbrev pub address_of_definition : List AModule → Placing → Option Def → ℕ
address_of_definition modules p None = 0
address_of_definition modules p (Some d) = placed_at modules p d (routine_number (routines_of modules) 0 d)

-- the address of what a symbol names; 0 where no module defines it
abbrev pub address_of : List AModule → Placing → Def → ℕ
address_of modules p d = address_of_definition modules p (definition_of (linked modules) d)

abbrev pub addresses_of : List AModule → Placing → Addresses
addresses_of modules p = record {
  symbol = λ unit k. address_of modules p (record { «module» = unit; symbol = k });
  instruction = p.instruction;
}

-- an address in the text that an instruction or a function may have
abbrev pub IsCodeAddress : ℕ → Type 0
IsCodeAddress a = (a % 4 ≡ 0) × (text_start ≤ a) × (a < 2 ^ 28)

-- of one function: its own address, then those of its instructions, which never fall and lie before the data
pub record IsFunctionPlaced (p : Placing) (f : ℕ) (r : Routine) : Type 0 where
  pub function : IsCodeAddress (p.function f)
  pub instructions : (k : ℕ) → k < length r.def.code → IsCodeAddress (p.instruction f k)
  pub first : (k : ℕ) → k < length r.def.code → p.function f ≤ p.instruction f k
  pub rising : (j k : ℕ) → j ≤ k → k < length r.def.code → p.instruction f j ≤ p.instruction f k
  pub before_data : (k : ℕ) → k < length r.def.code → p.instruction f k < p.data_start

-- a placing of the modules' functions and data
pub record IsPlacing (modules : List AModule) (p : Placing) : Type 0 where
  pub functions : (f : ℕ) (r : Routine) → slice_get (routines_of modules) f ≡ Some r → IsFunctionPlaced p f r
  -- functions in the order of the text differ
  pub ordered : (f g : ℕ) (r s : Routine) → f < g → slice_get (routines_of modules) f ≡ Some r → slice_get (routines_of modules) g ≡ Some s
      → (k : ℕ) → k < length r.def.code → p.instruction f k < p.function g
  pub page : p.data_start % 4096 ≡ 0
  pub behind : text_start ≤ p.data_start
  pub room : p.data_start + init_size (linked modules) + bss_size (linked modules) < stack_start

-- The start

abbrev pub piece_bytes : (ℕ → ℕ) → DataPiece → List ℕ
piece_bytes address (Raw bytes) = bytes
piece_bytes address (Address symbol offset) = word_bytes (word_sum (address symbol) offset)

-- so many zero bytes
unfoldable pub zero_bytes : ℕ → List ℕ
zero_bytes n = replicate n 0

-- an object's bytes, with zeros up to a multiple of 4
abbrev pub object_bytes : (ℕ → ℕ → ℕ) → Numbered → List ℕ
object_bytes address r =
    flat_map (piece_bytes (address r.def.«module»)) (pieces_of r.symbol.body)
    ++ zero_bytes (space_of r - unwrap_or (size_of r.symbol.body) 0)

abbrev pub init_bytes : List AModule → Placing → List ℕ
init_bytes modules p = flat_map (object_bytes (addresses_of modules p).symbol) (inits_of (linked modules))

-- the value of R30
abbrev pub static_base : ℕ → ℕ
static_base data_start = data_start + 32766

-- before the first instruction of _main: R29 at the stack's end, R30 the static base, all other
-- registers, HI, LO and the stack 0. `below` are the bytes before the data, which no step touches.
abbrev pub start_core : List AModule → Placing → (below : List ℕ) → Core
start_core modules p below = record {
  order = Big;
  regs = slice_set (slice_set (replicate 32 0) 29 stack_end) 30 (static_base p.data_start);
  hi = 0;
  lo = 0;
  low = below ++ init_bytes modules p ++ zero_bytes (bss_size (linked modules));
  stack = zero_bytes (2 ^ 24);
  text_end = text_start;
  data_start = p.data_start;
  pc = text_start;
  next = text_start + 4;
  slot = false;
  loaded = 0;
  used = false;
  used_before = false;
  ending = Running;
}

abbrev pub start_state : List AModule → Placing → (below input : List ℕ) → State
start_state modules p below input = record { core = start_core modules p below; left = input; out = [] }

-- n steps of the modules, with the built-in one as the last, from _main
abbrev pub arun : List AModule → Placing → (below input : List ℕ) → ℕ → Status
arun modules p below input n = arun_of (addresses_of modules p) (routines_of modules) (start_state modules p below input) n
