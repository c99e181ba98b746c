-- What the status, the line, the input and the output of a call say of the run of an executable, where the source
-- tells what is left. It follows from the calls that were made.
use Rattle.std.specs.Prelude.{◌≡◌, ◌≢◌, ◌<◌, ◌≤◌, ℕ, true, List, ◌++◌, length, take, drop, Some}
use Rattle.p9_base.specs.Core.{bytes_from}
use Rattle.p9_base.specs.SystemCalls.{State}
use Rattle.p9_base.specs.declared.halt.Asked.TheVariants as asks
use Rattle.p9_r3k.specs.Machine.{asked}
use Rattle.p9_vi.specs.Run.{vrun}
use Rattle.p9_vi.specs.Stops.{IsAtCall}
use Rattle.p9_suite.specs.Scene.{Scene, IsAnswer, HasPut, left, left_now, has_run}
use Rattle.p9_suite.specs.Simulation.{answer_at}

-- the run at the budget: the answer is that of its end, its output was appended, and what its reads took is gone
pub record HasRun {I O F : Type 0} (call : Scene I O F) (file : List ℕ) (budget : ℕ) (input : List ℕ) : Type 0 where
  pub end : State
  pub runs : vrun file input budget ≡ Some end
  pub answers : IsAnswer call (answer_at budget end.core)
  pub takes : left_now call ≡ Some end.left
  pub puts : HasPut call end.out

-- fewer instructions were made than the budget, up to a read that failed, which may have taken a part
pub record HasRunToRead {I O F : Type 0} (call : Scene I O F) (file : List ℕ) (budget : ℕ) (input : List ℕ) : Type 0 where
  pub steps : ℕ
  pub fewer : steps < budget
  pub before : State
  pub runs : vrun file input steps ≡ Some before
  pub at_call : IsAtCall before.core
  pub room : ℕ
  pub size : ℕ
  pub reads : asked before.core ≡ asks.Read room size
  pub taken : ℕ
  pub part : taken < size
  pub there : taken ≤ length before.left
  pub takes : left_now call ≡ Some (drop taken before.left)
  pub puts : HasPut call before.out

-- and up to a write, of which a part may have been put
pub record HasRunToWrite {I O F : Type 0} (call : Scene I O F) (file : List ℕ) (budget : ℕ) (input : List ℕ) : Type 0 where
  pub steps : ℕ
  pub fewer : steps < budget
  pub before : State
  pub runs : vrun file input steps ≡ Some before
  pub at_call : IsAtCall before.core
  pub piece : ℕ
  pub size : ℕ
  pub writes : asked before.core ≡ asks.Write piece size
  pub put : ℕ
  pub part : put < size
  pub takes : left_now call ≡ Some before.left
  pub puts : HasPut call (before.out ++ take put (bytes_from before.core piece size))

-- a program ran, and this was its run
pub record OfRun {I O F : Type 0} (call : Scene I O F) (file : List ℕ) (budget : ℕ) : Type 0 where
  pub ran : has_run call.status ≡ true
  pub whole : (input : List ℕ) → left call ≡ Some input → call.status ≢ 7 → call.status ≢ 8 → HasRun call file budget input
  pub to_read : (input : List ℕ) → left call ≡ Some input → call.status ≡ 7 → HasRunToRead call file budget input
  pub to_write : (input : List ℕ) → left call ≡ Some input → call.status ≡ 8 → HasRunToWrite call file budget input
