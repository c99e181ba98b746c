-- The calls on the store that a run makes, and what they lead to.
use Rattle.std.specs.Prelude.{ℕ, ◌≡◌, Bool, true, false, List, [], ◌∷◌, ◌++◌, Option, Some, None, Result, Ok, Err}
use Rattle.p9_base.specs.declared.outside.Got.{Got}
use Rattle.p9_base.specs.declared.outside.Got.TheVariants as got
use Rattle.p9_base.specs.Outside.{Held, Rose, FileCall, ReadCall, WriteCall}
use Rattle.p9_lex.specs.declared.token.Tokens.{Tokens}
use Rattle.p9_cpp.specs.declared.fault.CppFault.{CppFault}
use Rattle.p9_cpp.specs.declared.fault.CppFault.TheVariants as fault
use Rattle.p9_cpp.specs.declared.reader.Fault.{Fault}
use Rattle.p9_cpp.specs.declared.reader.Fault.TheVariants as text
use Rattle.p9_cpp.specs.declared.unit.Unit.{Unit as Made}
use Rattle.p9_base.specs.declared.bytes.NoMemory.{NoMemory}
use Rattle.p9_lex.specs.declared.token.Token.{Token}
use Rattle.p9_lex.specs.declared.token.TokenKind.TheVariants.{End}
use Rattle.p9_lex.specs.declared.token.LexFault.{LexFault}
use Rattle.p9_cpp.specs.declared.groups.Group.{Group}
use Rattle.p9_cpp.specs.declared.source.Source.{Source}
use Rattle.p9_cpp.specs.declared.items.Items.{Items}
use Rattle.p9_cpp.specs.declared.walk.Next.{Next}
use Rattle.p9_cpp.specs.declared.walk.Next.TheVariants as next
use Rattle.p9_cpp.specs.Items.{items_of, end_of}
use Rattle.p9_cpp.specs.Reading.{IsApart, flags_of}
use Rattle.p9_cpp.specs.Units.{State, Run, ends, stops, reads, and_run, max_tokens, Including, bad, lex_fault, unit}

-- the calls were made in this order, from the one state of the store to the other
abbrev pub FilesDid : {F : Type 0} → (F → FileCall → F → Type 0) → F → List FileCall → F → Type 0
FilesDid does old [] new = new ≡ old
FilesDid {F} does old (call ∷ calls) new = (next : F) × does old call next × FilesDid does next calls new

-- what follows a read, by the store's answer; one that fails, or lacks memory, stops the run
abbrev pub after : Got → (name : List ℕ) → (Option (List ℕ) → Run) → Run
after (got.Found bytes) name on = on (Some bytes)
after got.Absent name on = on None
after got.Failed name on = stops (fault.Store name)
after got.NoMemory name on = stops fault.Memory

-- the run makes these calls, and their answers lead to the other run
abbrev pub Along : Run → List FileCall → Run → Type 0
Along run [] end = run ≡ end
Along (ends s) (call ∷ calls) end = ⊥
Along (stops e) (call ∷ calls) end = ⊥
Along (reads name on) (ReadCall asked answer ∷ calls) end = (asked ≡ name) × Along (after answer name on) calls end
Along (reads name on) (WriteCall asked bytes answer ∷ calls) end = ⊥

-- the run is stopped by this fault, which isn't the store's; of want of memory nothing is said
abbrev pub IsStopped : CppFault → Run → Type 0
IsStopped (fault.Absent name) run = run ≡ stops (fault.Absent name)
IsStopped (fault.BadByte at file line) run = run ≡ stops (fault.BadByte at file line)
IsStopped (fault.OpenComment at file line) run = run ≡ stops (fault.OpenComment at file line)
IsStopped (fault.OpenText at file line) run = run ≡ stops (fault.OpenText at file line)
IsStopped (fault.WideNumber at file line) run = run ≡ stops (fault.WideNumber at file line)
IsStopped (fault.NoFile name file line) run = run ≡ stops (fault.NoFile name file line)
IsStopped (fault.BadDirective file line) run = run ≡ stops (fault.BadDirective file line)
IsStopped (fault.IncludeDepth limit file line) run = run ≡ stops (fault.IncludeDepth limit file line)
IsStopped (fault.MacroArgs name file line) run = run ≡ stops (fault.MacroArgs name file line)
IsStopped (fault.TooManyTokens limit file line) run = run ≡ stops (fault.TooManyTokens limit file line)
IsStopped (fault.Store name) run = ⊥
IsStopped fault.Memory run = Unit {0}

-- the same, where the store may have failed
abbrev pub IsEnded : CppFault → Run → Type 0
IsEnded (fault.Absent name) run = run ≡ stops (fault.Absent name)
IsEnded (fault.BadByte at file line) run = run ≡ stops (fault.BadByte at file line)
IsEnded (fault.OpenComment at file line) run = run ≡ stops (fault.OpenComment at file line)
IsEnded (fault.OpenText at file line) run = run ≡ stops (fault.OpenText at file line)
IsEnded (fault.WideNumber at file line) run = run ≡ stops (fault.WideNumber at file line)
IsEnded (fault.NoFile name file line) run = run ≡ stops (fault.NoFile name file line)
IsEnded (fault.BadDirective file line) run = run ≡ stops (fault.BadDirective file line)
IsEnded (fault.IncludeDepth limit file line) run = run ≡ stops (fault.IncludeDepth limit file line)
IsEnded (fault.MacroArgs name file line) run = run ≡ stops (fault.MacroArgs name file line)
IsEnded (fault.TooManyTokens limit file line) run = run ≡ stops (fault.TooManyTokens limit file line)
IsEnded (fault.Store name) run = run ≡ stops (fault.Store name)
IsEnded fault.Memory run = Unit {0}

-- What the parts of the preprocessor tell

abbrev pub state_of : Made → State
state_of u = record { table = u.table.entries; sources = u.sources; marks = u.marks; out = u.out; room = u.room }

-- the fault of a list of text in a file
abbrev pub IsFaultIn : Fault → (file : List ℕ) → CppFault → Type 0
IsFaultIn f file (fault.MacroArgs name at line) = (f ≡ text.MacroArgs name line) × (at ≡ file)
IsFaultIn f file (fault.TooManyTokens limit at line) = (f ≡ text.TooManyTokens line) × (limit ≡ max_tokens) × (at ≡ file)
IsFaultIn f file fault.Memory = Unit {0}
IsFaultIn f file (fault.Absent name) = ⊥
IsFaultIn f file (fault.BadByte at in' line) = ⊥
IsFaultIn f file (fault.OpenComment at in' line) = ⊥
IsFaultIn f file (fault.OpenText at in' line) = ⊥
IsFaultIn f file (fault.WideNumber at in' line) = ⊥
IsFaultIn f file (fault.NoFile name in' line) = ⊥
IsFaultIn f file (fault.BadDirective in' line) = ⊥
IsFaultIn f file (fault.IncludeDepth limit in' line) = ⊥
IsFaultIn f file (fault.Store name) = ⊥

-- no name is hidden
abbrev pub IsReady : Made → Type 0
IsReady u = (u.hidden ≡ flags_of u.table.entries []) × IsApart u.table.entries

-- a part that ends the run, or goes on
abbrev pub GoesOn : {A : Type 0} → Result A CppFault → Run → Run → Type 0
GoesOn (Ok a) run next = run ≡ next
GoesOn (Err e) run next = IsStopped e run

-- what a run that is gone through has come to
abbrev pub EndsAt : {A : Type 0} → Result A CppFault → Run → Run → Type 0
EndsAt (Ok a) run next = run ≡ next
EndsAt (Err e) run next = IsEnded e run

-- the calls that a run makes from one state of the store to the other, and where they lead
pub record Makes {F : Type 0} (does : F → FileCall → F → Type 0) (old new : F) (run end : Run) : Type 0 where
  pub calls : List FileCall
  pub did : FilesDid does old calls new
  pub along : Along run calls end

-- calls that lead from a run to its end, or to a fault that stops it
pub record Comes {F A : Type 0} (does : F → FileCall → F → Type 0) (old new : F) (result : Result A CppFault) (run next : Run) : Type 0 where
  pub end : Run
  pub makes : Makes does old new run end
  pub goes : EndsAt result end next

-- an item, which is done with, or includes a file
abbrev pub Passes : Result Next CppFault → Run → Including → (file : List ℕ) → (rest : List Group → State → Run) → List Group → State → Type 0
Passes (Ok next.Item) run include file rest groups s = run ≡ rest groups s
Passes (Ok (next.Include i)) run include file rest groups s = run ≡ and_run (include i.angled i.name file i.line s) (rest groups)
Passes (Err e) run include file rest groups s = IsStopped e run

abbrev pub IsBad : CppFault → Source → (line : ℕ) → Type 0
IsBad e source line = IsStopped e (bad source line)

-- the groups have changed, or have not
abbrev pub IsAnswered : Result Next CppFault → Result Bool NoMemory → Source → (line : ℕ) → Type 0
IsAnswered (Ok next.Item) is_changed source line = is_changed ≡ Ok true
IsAnswered (Ok (next.Include i)) is_changed source line = ⊥
IsAnswered (Err e) (Ok true) source line = ⊥
IsAnswered (Err e) (Ok false) source line = IsBad e source line
IsAnswered (Err e) (Err f) source line = e ≡ fault.Memory

-- a file that is opened
abbrev pub IsOpened : Result Source CppFault → (Source → State → Run) → Run → State → Type 0
IsOpened (Ok source) run end s = end ≡ run source s
IsOpened (Err e) run end s = IsEnded e end

-- calls that lead from a run to a file that is opened, or to a fault that stops it
pub record Opens {F : Type 0} (does : F → FileCall → F → Type 0) (old new : F) (result : Result Source CppFault) (run : Source → State → Run) (before : Run) (s : State) : Type 0 where
  pub end : Run
  pub makes : Makes does old new before end
  pub opened : IsOpened result run end s

-- the items of a file that has these tokens
abbrev pub AreItems : Items → Result (List Token) LexFault → Type 0
AreItems items (Ok ts) = (items.list ≡ items_of ts) × (items.end ≡ end_of ts)
AreItems items (Err e) = ⊥

abbrev pub IsUnlexed : CppFault → (file : List ℕ) → Result (List Token) LexFault → Type 0
IsUnlexed e file (Ok ts) = e ≡ fault.Memory
IsUnlexed e file (Err f) = IsStopped e (stops (lex_fault file f))

-- The unit

-- the tokens of a run that has ended, with the names of the files and the marks; or the fault that
-- stops it
abbrev pub IsUnit : Result Tokens CppFault → Run → Type 0
IsUnit (Ok tokens) (ends s) = (tokens.list.items ≡ s.out) × (tokens.sources.items ≡ s.sources) × (tokens.marks.items ≡ s.marks)
IsUnit (Ok tokens) (stops e) = ⊥
IsUnit (Ok tokens) (reads name on) = ⊥
IsUnit (Err e) run = IsEnded e run

-- calls that lead from a run to its end, which is answered
pub record ComesTo {F : Type 0} (does : F → FileCall → F → Type 0) (old new : F) (result : Result Tokens CppFault) (run : Run) : Type 0 where
  pub end : Run
  pub makes : Makes does old new run end
  pub is : IsUnit result end

-- The calls on the store are those of the unit, in its order and with the answers that they got, and
-- the answer is that to which they lead. A run that is stopped makes no more calls.
abbrev pub Preprocesses : {F : Type 0} → (F → FileCall → F → Type 0) → (old new : F) → (name : List ℕ) → Result Tokens CppFault → Type 0
Preprocesses does old new name result = ComesTo does old new result (unit name)

-- Where the store tells its files

-- a run over these files
abbrev pub answered : Held → Run → Run
answered files (ends s) = ends s
answered files (stops e) = stops e
answered files (reads name on) = answered files (on (files name))

-- the answer is that of the run over the store's files, but where a call failed or memory was short
abbrev pub IsOver : Held → Result Tokens CppFault → Run → Type 0
IsOver files (Ok tokens) run = IsUnit (Ok tokens) (answered files run)
IsOver files (Err (fault.Absent name)) run = answered files run ≡ stops (fault.Absent name)
IsOver files (Err (fault.BadByte at file line)) run = answered files run ≡ stops (fault.BadByte at file line)
IsOver files (Err (fault.OpenComment at file line)) run = answered files run ≡ stops (fault.OpenComment at file line)
IsOver files (Err (fault.OpenText at file line)) run = answered files run ≡ stops (fault.OpenText at file line)
IsOver files (Err (fault.WideNumber at file line)) run = answered files run ≡ stops (fault.WideNumber at file line)
IsOver files (Err (fault.NoFile name file line)) run = answered files run ≡ stops (fault.NoFile name file line)
IsOver files (Err (fault.BadDirective file line)) run = answered files run ≡ stops (fault.BadDirective file line)
IsOver files (Err (fault.IncludeDepth limit file line)) run = answered files run ≡ stops (fault.IncludeDepth limit file line)
IsOver files (Err (fault.MacroArgs name file line)) run = answered files run ≡ stops (fault.MacroArgs name file line)
IsOver files (Err (fault.TooManyTokens limit file line)) run = answered files run ≡ stops (fault.TooManyTokens limit file line)
IsOver files (Err (fault.Store name)) run = Unit {0}
IsOver files (Err fault.Memory) run = Unit {0}

abbrev pub Tells : Option Held → (name : List ℕ) → Result Tokens CppFault → Type 0
Tells None name result = Unit {0}
Tells (Some files) name result = IsOver files result (unit name)

-- the count of the store's failures, where this fault is answered
abbrev pub FaultCounts : CppFault → (before now : ℕ) → Type 0
FaultCounts (fault.Absent name) before now = now ≡ before
FaultCounts (fault.BadByte at file line) before now = now ≡ before
FaultCounts (fault.OpenComment at file line) before now = now ≡ before
FaultCounts (fault.OpenText at file line) before now = now ≡ before
FaultCounts (fault.WideNumber at file line) before now = now ≡ before
FaultCounts (fault.NoFile name file line) before now = now ≡ before
FaultCounts (fault.BadDirective file line) before now = now ≡ before
FaultCounts (fault.IncludeDepth limit file line) before now = now ≡ before
FaultCounts (fault.MacroArgs name file line) before now = now ≡ before
FaultCounts (fault.TooManyTokens limit file line) before now = now ≡ before
FaultCounts (fault.Store name) before now = Rose before now
FaultCounts fault.Memory before now = now ≡ before

-- the store is named exactly where a call on it failed, which has made its count rise
abbrev pub Counts : {A : Type 0} → Result A CppFault → (before now : ℕ) → Type 0
Counts (Ok a) before now = now ≡ before
Counts (Err e) before now = FaultCounts e before now

-- the last of the tokens is the end
abbrev pub EndsLast : Tokens → Type 0
EndsLast tokens = (front : List Token) × (end : Token) × (tokens.list.items ≡ front ++ end ∷ []) × (end.kind ≡ End)
