-- What a reader is: the bytes that it was given, and the fault that it keeps.
use Rattle.std.specs.Prelude.{ℕ, List, Option, None, Some}
use Rattle.p9_steps.specs.Places.{state}
use Rattle.p9_reader.specs.declared.faults.ObjFault.{ObjFault}
use Rattle.p9_reader.specs.declared.progress.Progress.{Progress}
use Rattle.p9_reader.specs.declared.progress.Progress.TheVariants.{Reading, Failed}
use Rattle.p9_reader.specs.Fields.{AllTaken}

pub record Reader : Type 0 where
  pub given : List ℕ
  pub fault : Option ObjFault

abbrev pub fault_of : Progress → Option ObjFault
fault_of (Reading place) = None
fault_of (Failed fault) = Some fault

-- a reader without a fault has taken each whole field of the bytes that it was given
abbrev pub IsBehind : (given : List ℕ) → Progress → Type 0
IsBehind given (Reading place) = AllTaken given place.taken (state place.state)
IsBehind given (Failed fault) = Unit {0}
