-- What bytes are answered, by the definition of what they are read as.
use Rattle.std.specs.Prelude.{◌≡◌, ◌≢◌, ℕ, List, ◌++◌, Option, None, Some, Result, Ok, Err}
use Rattle.p9_base.specs.Numbers.{word_bytes}
use Rattle.p9_abs.specs.declared.modules.AModule.{AModule}
use Rattle.p9_object.specs.Fields.{magic, version}
use Rattle.p9_object.specs.Bytes.{Fault, BadObject, Version, Point, start, pushes, reading}
use Rattle.p9_reader.specs.declared.faults.ObjFault.{ObjFault}
use Rattle.p9_reader.specs.declared.faults.ObjFault.TheVariants as fault

abbrev pub told : Fault → ObjFault
told (BadObject at) = fault.BadObject at
told (Version v) = fault.Version v

abbrev pub answer_of : Result AModule Fault → Result AModule ObjFault
answer_of (Ok m) = Ok m
answer_of (Err f) = Err (told f)

-- the module of an object's bytes, or why the bytes are no object
abbrev pub answer : List ℕ → Result AModule ObjFault
answer bytes = answer_of (reading bytes)

abbrev pub stop_of : Result Point Fault → Option ObjFault
stop_of (Ok p) = None
stop_of (Err f) = Some (told f)

-- why bytes are refused whatever follows them: a whole field breaks, or bytes follow an object
abbrev pub refusal : List ℕ → Option ObjFault
refusal bytes = stop_of (pushes (Ok start) bytes)

-- what is refused stays so with any bytes behind it
abbrev pub RefusalsStay : Type 0
RefusalsStay = (bytes rest : List ℕ) (f : ObjFault) → refusal bytes ≡ Some f → answer (bytes ++ rest) ≡ Err f

-- the version stands behind the magic, and is another
pub record HasVersion (bytes : List ℕ) (v : ℕ) : Type 0 where
  pub other : v ≢ version
  pub rest : List ℕ
  pub text : bytes ≡ magic ++ (word_bytes v ++ rest)
