-- Operations in plays: an operation goes on with what it gives, or is undefined at its place.
use Rattle.std.specs.Prelude.{Option, Some, None, Result, Ok, Err}
use Rattle.p9_cmean.specs.declared.Cause.{Cause}
use Rattle.p9_cmean.specs.declared.Cause.TheVariants as cause
use Rattle.p9_cmean.specs.declared.Place.{Place}
use Rattle.p9_cmean.specs.Cells.{Value, Word, Address, Missing, State}
use Rattle.p9_cmean.specs.Plays.{Play, Done, Wrong, NoMeaning}

-- A value that a call didn't give is named at that call, where it is used.
abbrev pub used : {A : Type 0} → Value → State → (Value → Play A) → Play A
used (Word n) s next = next (Word n)
used (Address pointer) s next = next (Address pointer)
used (Missing call) s next = Wrong cause.NoValue call s

abbrev pub or_wrong : {A B : Type 0} → Place → State → Result A Cause → (A → Play B) → Play B
or_wrong place s (Ok x) next = next x
or_wrong place s (Err why) next = Wrong why place s

abbrev pub done_at : {A : Type 0} → Place → State → Result A Cause → Play A
done_at place s result = or_wrong place s result (λ x. Done x s)

-- what is there only in valid modules
abbrev pub or_no_meaning : {A B : Type 0} → Place → State → Option A → (A → Play B) → Play B
or_no_meaning place s (Some x) next = next x
or_no_meaning place s None next = NoMeaning place s
