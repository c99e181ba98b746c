-- Laws of the runs of modules, and of access.
use Rattle.std.specs.Prelude.{◌≡◌, ◌≤◌, ℕ, suc, ◌+◌, ◌%◌, List, length, take, drop, true, Ok}
use Rattle.p9_lang.specs.declared.module.Module.{Module}
use Rattle.p9_cmean.specs.Cells.{Pointer, Into, Cell, Object, State}
use Rattle.p9_cmean.specs.Plays.{Call}
use Rattle.p9_cmean.specs.Turns.{state_of}
use Rattle.p9_cmean.specs.PlayLaws.{Lasts, Begins, Leaves, GoesOn}
use Rattle.p9_cmean.specs.Access.{accessed, object_at}
use Rattle.p9_cmean.specs.Union.{Union}
use Rattle.p9_cmean.specs.CRun.{functions_of, crun}

-- A body that is given turns takes more than these before it is cut off. Since a call has as many
-- turns left as its loops are given, no run is ever cut off.
abbrev pub BodiesLast : Type 0
BodiesLast =
    (union : Union) (turns : ℕ) (call : Call) (s : State) → Lasts (suc turns) ((functions_of union).body turns call s)

-- With more turns a run comes to what it came to before, but for one that was out of turns, which
-- goes on.
abbrev pub RunsGoOn : Type 0
RunsGoOn =
    (modules : List Module) (input : List ℕ) (m n : ℕ) → m ≤ n
    → GoesOn (crun modules input m) (crun modules input n)

-- So output only grows, and of the input is left what was, without its front.
abbrev pub OutputGrows : Type 0
OutputGrows =
    (modules : List Module) (input : List ℕ) (m n : ℕ) → m ≤ n
    → Begins (state_of (crun modules input m)).output (state_of (crun modules input n)).output

abbrev pub InputFalls : Type 0
InputFalls =
    (modules : List Module) (input : List ℕ) (m n : ℕ) → m ≤ n
    → Leaves (state_of (crun modules input m)).input (state_of (crun modules input n)).input

-- An access that is defined is into a live object, at a multiple of its alignment, within the
-- object's size; and it has the cells from there on.
pub record IsAccess (objects : List Object) (pointer : Pointer) (size alignment : ℕ) (cells : List Cell) : Type 0 where
  pub object : ℕ
  pub offset : ℕ
  pub is_into : pointer ≡ Into object offset
  pub lives : (object_at objects object).is_alive ≡ true
  pub aligned : offset % alignment ≡ 0
  pub lies : offset + size ≤ length (object_at objects object).cells
  pub content : cells ≡ take size (drop offset (object_at objects object).cells)

abbrev pub AccessInverts : Type 0
AccessInverts =
    (objects : List Object) (pointer : Pointer) (size alignment : ℕ) (cells : List Cell)
    → accessed objects pointer size alignment ≡ Ok cells → IsAccess objects pointer size alignment cells
