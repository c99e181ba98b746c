-- Where the objects of C are in memory, and which words and bytes stand for values and cells.
use Rattle.std.specs.Prelude.{◌≡◌, ◌<◌, ℕ, ◌+◌, true, Option, Some, None, List, [], ◌∷◌, ◌++◌, length, slice_get, slice_index}
use Rattle.p9_base.specs.Words.{word_sum}
use Rattle.p9_base.specs.Numbers.{word_bytes}
use Rattle.p9_cmean.specs.Cells.{FunctionName, Pointer, Into, ToFunction, Cell, Unset, Byte, Part, Object, Value, Word, Address, Missing}

-- ADDRESSES

-- The address of each object ever made, by its number. An automatic that stands outside memory has
-- none.
abbrev pub Map : Type 0
Map = List (Option ℕ)

abbrev pub HasAddress : Map → (object : ℕ) → (start : ℕ) → Type 0
HasAddress m object start = slice_get m object ≡ Some (Some start)

-- the second map has more objects, and all addresses of the first
pub record Extends (m n : Map) : Type 0 where
  pub more : Map
  pub is : n ≡ m ++ more

-- what a placing gives to C: the addresses of functions and of static objects, by their numbers, and
-- where data begins
pub record Ground : Type 0 where
  pub function : FunctionName → ℕ
  pub statics : List ℕ
  pub data_start : ℕ

-- WORDS

abbrev pub moved_address : Option (Option ℕ) → (offset : ℕ) → Option ℕ
moved_address None offset = None
moved_address (Some None) offset = None
moved_address (Some (Some start)) offset = Some (word_sum start offset)

-- the word that a pointer is
abbrev pub word_of : Ground → Map → Pointer → Option ℕ
word_of g m (Into object offset) = moved_address (slice_get m object) offset
word_of g m (ToFunction function) = Some (g.function function)

-- a word stands for a value; any word stands for none
abbrev pub StandsValue : Ground → Map → Value → (word : ℕ) → Type 0
StandsValue g m (Word n) word = n ≡ word
StandsValue g m (Address pointer) word = word_of g m pointer ≡ Some word
StandsValue g m (Missing call) word = Unit {0}

-- BYTES

-- byte k of a pointer's word
pub record StandsPart (g : Ground) (m : Map) (k : ℕ) (pointer : Pointer) (byte : ℕ) : Type 0 where
  pub word : ℕ
  pub is : word_of g m pointer ≡ Some word
  pub part : slice_index (word_bytes word) k ≡ byte

-- a byte stands for a cell; any byte stands for an unset one
abbrev pub StandsCell : Ground → Map → Cell → (byte : ℕ) → Type 0
StandsCell g m Unset byte = Unit {0}
StandsCell g m (Byte n) byte = n ≡ byte
StandsCell g m (Part k pointer) byte = StandsPart g m k pointer byte

-- the bytes from an address on stand for cells
abbrev pub StandCells : Ground → Map → List Cell → (byte_at : ℕ → ℕ) → (start : ℕ) → Type 0
StandCells g m [] byte_at start = Unit {0}
StandCells g m (cell ∷ cells) byte_at start = StandsCell g m cell (byte_at start) × StandCells g m cells byte_at (start + 1)

-- OWNERS

-- a live object with an address to which a byte belongs
pub record Owner (m : Map) (objects : List Object) (byte : ℕ) : Type 0 where
  pub number : ℕ
  pub object : Object
  pub start : ℕ
  pub k : ℕ
  pub is_object : slice_get objects number ≡ Some object
  pub alive : object.is_alive ≡ true
  pub placed : HasAddress m number start
  pub inside : k < length object.cells
  pub is : byte ≡ start + k
