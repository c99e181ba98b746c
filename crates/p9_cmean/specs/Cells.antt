-- Objects and their cells, pointers, values, and the state of a run.
use Rattle.std.specs.Prelude.{ℕ, List, Bool}
use Rattle.p9_cmean.specs.declared.Place.{Place}

-- a function with external linkage by its name, or a static one by its module's number and its name
pub data FunctionName : Type 0 where
  Global : (name : List ℕ) → FunctionName
  Local : (owner : ℕ) (name : List ℕ) → FunctionName

-- A pointer is into an object, by the object's number and an offset in bytes, or to a function. An
-- offset is a word: an initialiser may put a pointer before its object.
pub data Pointer : Type 0 where
  Into : (object offset : ℕ) → Pointer
  ToFunction : (function : FunctionName) → Pointer

-- a cell that nothing was written to, a number below 256, or part k of a pointer
pub data Cell : Type 0 where
  Unset : Cell
  Byte : (n : ℕ) → Cell
  Part : (k : ℕ) (pointer : Pointer) → Cell

-- A live object has as many cells as its size. A dead one keeps its number and has no cells.
pub record Object : Type 0 where
  pub cells : List Cell
  pub is_alive : Bool

-- a word, that is a number below 2^32; the address of an object or a function; or no value, of the
-- call that gave none. The null pointer is the word 0.
pub data Value : Type 0 where
  Word : (n : ℕ) → Value
  Address : (pointer : Pointer) → Value
  Missing : (call : Place) → Value

-- all objects ever made, by their numbers, the input that is left, and the output
pub record State : Type 0 where
  pub objects : List Object
  pub input : List ℕ
  pub output : List ℕ
