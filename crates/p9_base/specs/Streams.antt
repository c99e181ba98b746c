-- Whole rooms and whole pieces, by as many takes and puts as they need, and the calls that these are.
use Rattle.std.specs.Prelude.{◌≡◌, ◌<◌, ◌≤◌, ℕ, min, List, [], ◌∷◌, ◌++◌, length, take, drop, map, Option, Some, None, IfSome, Bool, true, false}
use Rattle.p9_base.specs.Outside.{TakeCall, PutCall, Rose}
use Rattle.p9_base.specs.Core.{over}
use Rattle.p9_base.specs.Calls.{StreamCall, OnInput, OnOut, Failing, Input, Out, StreamsDid, StreamsEnd}

-- Content

-- the first n bytes of what was left are at the front of the room, which is else as it was
abbrev pub HasTaken : (n : ℕ) (left : List ℕ) (later : Option (List ℕ)) (room filled : List ℕ) → Type 0
HasTaken n left later room filled =
    (n ≤ length left) × (later ≡ Some (drop n left)) × (filled ≡ take n left ++ drop n room)

-- a room is filled, unless the input ends before or a take fails
abbrev pub Fills : Option (List ℕ) → Option (List ℕ) → (room filled : List ℕ) → Option ℕ → Type 0
Fills left later room filled (Some n) =
    IfSome left (λ bytes. (n ≡ min (length room) (length bytes)) × HasTaken n bytes later room filled)
Fills left later room filled None =
    IfSome left (λ bytes. (n : ℕ) × (n < length room) × HasTaken n bytes later room filled)

-- a piece is put whole, or up to a failed put
abbrev pub PutsAll : Option (List ℕ) → Option (List ℕ) → (piece : List ℕ) → Bool → Type 0
PutsAll sofar later piece true = IfSome sofar (λ bytes. later ≡ Some (bytes ++ piece))
PutsAll sofar later piece false =
    IfSome sofar (λ bytes. (n : ℕ) × (n < length piece) × (later ≡ Some (bytes ++ take n piece)))

-- the same of a part of a list of bytes, which has `size` bytes from i on

abbrev pub FillsPart : (left later : Option (List ℕ)) (bytes new : List ℕ) (i size : ℕ) → Option ℕ → Type 0
FillsPart left later bytes new i size (Some n) =
    IfSome left (λ l. (n ≡ min size (length l)) × (later ≡ Some (drop n l)) × (new ≡ over bytes i (take n l)))
FillsPart left later bytes new i size None =
    IfSome left (λ l. (n : ℕ) × (n < size) × (n ≤ length l) × (later ≡ Some (drop n l)) × (new ≡ over bytes i (take n l)))

abbrev pub PartChanges : (bytes new : List ℕ) (i size : ℕ) → Type 0
PartChanges bytes new i size = (xs : List ℕ) × (length xs ≡ size) × (new ≡ over bytes i xs)

-- where the source tells what is left and the sink what it has, both tell it afterwards, and it is so
abbrev pub Told : (Changes : (l s l' s' : List ℕ) → Type 0) (left later out now : Option (List ℕ)) → Type 0
Told Changes left later out now =
    (l s : List ℕ) → left ≡ Some l → out ≡ Some s →
    (l' s' : List ℕ) × (later ≡ Some l') × (now ≡ Some s') × Changes l s l' s'

-- Counts

abbrev pub FillCause : (before now : ℕ) → Option ℕ → Type 0
FillCause before now (Some n) = now ≡ before
FillCause before now None = Rose before now

abbrev pub PutsCause : (before now : ℕ) → Bool → Type 0
PutsCause before now true = now ≡ before
PutsCause before now false = Rose before now

-- Calls

-- calls on one object, in this order
abbrev pub CallsDid : {S C : Type 0} → (S → C → S → Type 0) → S → List C → S → Type 0
CallsDid does old [] new = new ≡ old
CallsDid {S} does old (call ∷ calls) new = (next : S) × does old call next × CallsDid does next calls new

-- a source was changed by takes alone, of which none failed or only the last
pub record TakesRan {I : Type 0} (takes : I → TakeCall → I → Type 0) (old new : I) (failed : Option Failing) : Type 0 where
  pub calls : List TakeCall
  pub did : CallsDid takes old calls new
  pub ends : StreamsEnd (map OnInput calls) failed

-- a sink was changed by puts alone, of which none failed or only the last
pub record PutsRan {O : Type 0} (puts : O → PutCall → O → Type 0) (old new : O) (failed : Option Failing) : Type 0 where
  pub calls : List PutCall
  pub did : CallsDid puts old calls new
  pub ends : StreamsEnd (map OnOut calls) failed

-- both were changed by takes and puts alone, of which none failed or only the last
pub record StreamsRan {I O : Type 0} (takes : I → TakeCall → I → Type 0) (puts : O → PutCall → O → Type 0) (input : I) (out : O) (input' : I) (out' : O) (failed : Option Failing) : Type 0 where
  pub calls : List StreamCall
  pub did : StreamsDid takes puts input out calls input' out'
  pub ends : StreamsEnd calls failed

abbrev pub fill_failure : Option ℕ → Option Failing
fill_failure (Some n) = None
fill_failure None = Some Input

abbrev pub puts_failure : Bool → Option Failing
puts_failure true = None
puts_failure false = Some Out
