-- What the objects of a program hold when it starts: the static objects of its modules, and behind
-- them the three of the built-in module.
use Rattle.std.specs.Prelude.{ℕ, suc, ◌+◌, ◌&&◌, nat_lt, if◌then◌else◌, Bool, List, [], ◌∷◌, ◌++◌, map, length, take, drop, replicate, Option, Some, None, Result, Ok, Err, codes}
use Rattle.p9_lang.specs.Types.{Tags}
use Rattle.p9_lang.specs.Layout.{size_of}
use Rattle.p9_lang.specs.Initialisers.{Base, OuterBase, StaticBase, Content, Word, AddressOf, Bytes, Write, BrokenItem}
use Rattle.p9_lang.specs.Symbols.{SymbolKind, DeclaredOnly, Used, Code, Data, Common}
use Rattle.p9_cmean.specs.Cells.{FunctionName, Global, Local, Pointer, Into, ToFunction, Cell, Unset, Byte, Part, Object}
use Rattle.p9_cmean.specs.Access.{number_cells, pointer_cells}
use Rattle.p9_cmean.specs.Automatics.{live_object}
use Rattle.p9_cmean.specs.Union.{Entry, Union, object_number, static_number, is_local_function}

-- An address in an initialiser is that of an object, moved, or of a function. A module's own function
-- hides another module's object of that name.

abbrev pub into : Option ℕ → (offset : ℕ) → Option Pointer
into None offset = None
into (Some object) offset = Some (Into object offset)

abbrev pub or_function : Option Pointer → FunctionName → Pointer
or_function None function = ToFunction function
or_function (Some pointer) function = pointer

abbrev pub named_pointer : Union → (owner : ℕ) → (name : List ℕ) → (offset : ℕ) → Pointer
named_pointer union owner name offset =
    if is_local_function union owner name then ToFunction (Local owner name)
    else or_function (into (object_number union owner name) offset) (Global name)

abbrev pub base_pointer : Union → (owner : ℕ) → Base → (offset : ℕ) → Option Pointer
base_pointer union owner (OuterBase name) offset = Some (named_pointer union owner name offset)
base_pointer union owner (StaticBase number) offset = into (static_number union owner number) offset

-- a text or block static is there, in a valid module
abbrev pub address_cells : Option Pointer → List Cell
address_cells None = number_cells 4 0
address_cells (Some pointer) = pointer_cells pointer

abbrev pub content_cells : Union → (owner : ℕ) → (size : ℕ) → Content → List Cell
content_cells union owner size (Word word) = number_cells size word
content_cells union owner size (AddressOf base offset) = address_cells (base_pointer union owner base offset)
content_cells union owner size (Bytes bytes) = map Byte bytes

-- A later entry writes over an earlier one. Of an address that it writes over in part, the other
-- bytes become 0.

-- the part of an address at a number in an object, where the cells from `start` to `end` are written
abbrev pub is_broken : (start end at k : ℕ) → Bool
is_broken start end at k = nat_lt at (end + k) && nat_lt (start + k) (at + 4)

abbrev pub broken_cell : (start end at : ℕ) → Cell → Cell
broken_cell start end at Unset = Unset
broken_cell start end at (Byte n) = Byte n
broken_cell start end at (Part k pointer) = if is_broken start end at k then Byte 0 else Part k pointer

abbrev pub broken_from : (start end at : ℕ) → List Cell → List Cell
broken_from start end at [] = []
broken_from start end at (cell ∷ cells) = broken_cell start end at cell ∷ broken_from start end (suc at) cells

abbrev pub written_over : (offset : ℕ) → (new : List Cell) → List Cell → List Cell
written_over offset new cells = take offset cells ++ (new ++ drop (offset + length new) cells)

abbrev pub with_entry : (offset : ℕ) → (new : List Cell) → List Cell → List Cell
with_entry offset new cells = written_over offset new (broken_from offset (offset + length new) 0 cells)

abbrev pub with_writes : Union → (owner : ℕ) → Tags → List Write → List Cell → List Cell
with_writes union owner tags [] cells = cells
with_writes union owner tags (w ∷ ws) cells =
    with_writes union owner tags ws (with_entry w.offset (content_cells union owner (size_of tags w.type) w.content) cells)

-- an initialiser that breaks a rule is refused before the program runs
abbrev pub with_first : Union → (owner : ℕ) → Tags → Result (List Write) BrokenItem → List Cell → List Cell
with_first union owner tags (Ok writes) cells = with_writes union owner tags writes cells
with_first union owner tags (Err broken) cells = cells

-- what no entry writes is 0
abbrev pub zeros : Entry → List Cell
zeros entry = replicate (size_of entry.tags entry.symbol.type) (Byte 0)

abbrev pub first_cells : Union → Entry → List Cell
first_cells union entry = by entry.symbol.kind
  where
    by : SymbolKind → List Cell
    by DeclaredOnly = zeros entry
    by Used = zeros entry
    by (Code item) = zeros entry
    by (Data first) = with_first union entry.owner entry.tags first (zeros entry)
    by Common = zeros entry

-- THE BUILT-IN MODULE'S: the list of the program's arguments, which is its name `v.out` and null; the
-- exit text `main`; and that name. Texts end with a zero byte.

abbrev pub text_object : List ℕ → Object
text_object text = live_object (map Byte text ++ Byte 0 ∷ [])

abbrev pub arguments_number : Union → ℕ
arguments_number union = length union.objects

abbrev pub program_name_number : Union → ℕ
program_name_number union = arguments_number union + 2

abbrev pub start_objects : Union → List Object
start_objects union =
    live_object (pointer_cells (Into (program_name_number union) 0) ++ number_cells 4 0)
    ∷ text_object (codes "main")
    ∷ text_object (codes "v.out")
    ∷ []

abbrev pub first_objects : Union → List Object
first_objects union = map (λ entry. live_object (first_cells union entry)) union.objects ++ start_objects union
