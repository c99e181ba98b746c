-- Objects and their cells, pointers, values, and the state of a run.
use Rattle.std.specs.Prelude.{ℕ, List, Bool}
use Rattle.p9_first.specs.declared.Place.{Place}

-- a function of file scope by its name, or a static one by its module's number and its name
pub data FunctionName : Type 0 where
  Global : (name : List ℕ) → FunctionName
  Local : (owner : ℕ) (name : List ℕ) → FunctionName

-- null, a place in an object by the object's number, or a function
pub data Pointer : Type 0 where
  Null : Pointer
  Into : (object offset : ℕ) → Pointer
  ToFunction : (function : FunctionName) → Pointer

-- a cell that nothing was written to, a number below 256, or part k of a pointer
pub data Cell : Type 0 where
  Unset : Cell
  Byte : (n : ℕ) → Cell
  Part : (k : ℕ) (pointer : Pointer) → Cell

-- an object has as many cells as its size; a dead one keeps its number
pub record Object : Type 0 where
  pub cells : List Cell
  pub alive : Bool

-- a number below 2^32, a pointer, or no value, of the call that gave none
pub data Value : Type 0 where
  Word : (n : ℕ) → Value
  Address : (pointer : Pointer) → Value
  Missing : (call : Place) → Value

-- all objects ever made, by their numbers, the input that is left, and the output
pub record State : Type 0 where
  pub objects : List Object
  pub input : List ℕ
  pub output : List ℕ
