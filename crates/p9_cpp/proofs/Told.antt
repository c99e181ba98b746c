-- What the calls of a run say where the store tells its files.
use Rattle.std.proofs.Common.{◌≡◌, ℕ, List, [], ◌∷◌, Option, Some, None, Result, Ok, Err, refl, sym, ap, subst, ◌∙◌}
use Rattle.std.specs.Prelude.{IfSome}
use Rattle.p9_base.specs.declared.outside.Got.{Got}
use Rattle.p9_base.specs.declared.outside.Got.TheVariants as got
use Rattle.p9_base.specs.Outside.{Held, FileCall, ReadCall, WriteCall, FileMeans, Answers}
use Rattle.p9_lex.specs.declared.token.Tokens.{Tokens}
use Rattle.p9_cpp.specs.declared.fault.CppFault.{CppFault}
use Rattle.p9_cpp.specs.declared.fault.CppFault.TheVariants as fault
use Rattle.p9_cpp.specs.Units.{State, Run, ends, stops, reads, unit}
use Rattle.p9_cpp.specs.Calls.{FilesDid, after, Along, Makes, ComesTo, IsUnit, answered, IsOver, Tells}

-- a run that has ended or is stopped is that over any files
end_over : (files : Held) (result : Result Tokens CppFault) (end : Run) → IsUnit result end → IsOver files result end
end_over files (Ok tokens) (ends s) is = is
end_over files (Ok tokens) (stops e) is = absurd is
end_over files (Ok tokens) (reads name on) is = absurd is
end_over files (Err (fault.Absent name)) end is = ap (answered files) is
end_over files (Err (fault.BadByte at file line)) end is = ap (answered files) is
end_over files (Err (fault.OpenComment at file line)) end is = ap (answered files) is
end_over files (Err (fault.OpenText at file line)) end is = ap (answered files) is
end_over files (Err (fault.WideNumber at file line)) end is = ap (answered files) is
end_over files (Err (fault.NoFile name file line)) end is = ap (answered files) is
end_over files (Err (fault.BadDirective file line)) end is = ap (answered files) is
end_over files (Err (fault.IncludeDepth limit file line)) end is = ap (answered files) is
end_over files (Err (fault.MacroArgs name file line)) end is = ap (answered files) is
end_over files (Err (fault.TooManyTokens limit file line)) end is = ap (answered files) is
end_over files (Err (fault.Store name)) end is = tt
end_over files (Err fault.Memory) end is = tt

over_to : (files : Held) (result : Result Tokens CppFault) (run run' : Run) → answered files run ≡ answered files run' → IsOver files result run' → IsOver files result run
over_to files (Ok tokens) run run' is over = subst (IsUnit (Ok tokens)) (sym is) over
over_to files (Err (fault.Absent name)) run run' is over = is ∙ over
over_to files (Err (fault.BadByte at file line)) run run' is over = is ∙ over
over_to files (Err (fault.OpenComment at file line)) run run' is over = is ∙ over
over_to files (Err (fault.OpenText at file line)) run run' is over = is ∙ over
over_to files (Err (fault.WideNumber at file line)) run run' is over = is ∙ over
over_to files (Err (fault.NoFile name file line)) run run' is over = is ∙ over
over_to files (Err (fault.BadDirective file line)) run run' is over = is ∙ over
over_to files (Err (fault.IncludeDepth limit file line)) run run' is over = is ∙ over
over_to files (Err (fault.MacroArgs name file line)) run run' is over = is ∙ over
over_to files (Err (fault.TooManyTokens limit file line)) run run' is over = is ∙ over
over_to files (Err (fault.Store name)) run run' is over = tt
over_to files (Err fault.Memory) run run' is over = tt

-- a run that the store stopped is answered so, or by want of memory
stopped_over : (files : Held) (result : Result Tokens CppFault) (run end : Run) (name : List ℕ) → end ≡ stops (fault.Store name) → IsUnit result end → IsOver files result run
stopped_over files (Ok tokens) run end name is told = absurd (subst (IsUnit (Ok tokens)) is told)
stopped_over files (Err (fault.Absent x)) run end name is told = absurd (cc)
stopped_over files (Err (fault.BadByte at file line)) run end name is told = absurd (cc)
stopped_over files (Err (fault.OpenComment at file line)) run end name is told = absurd (cc)
stopped_over files (Err (fault.OpenText at file line)) run end name is told = absurd (cc)
stopped_over files (Err (fault.WideNumber at file line)) run end name is told = absurd (cc)
stopped_over files (Err (fault.NoFile x file line)) run end name is told = absurd (cc)
stopped_over files (Err (fault.BadDirective file line)) run end name is told = absurd (cc)
stopped_over files (Err (fault.IncludeDepth limit file line)) run end name is told = absurd (cc)
stopped_over files (Err (fault.MacroArgs x file line)) run end name is told = absurd (cc)
stopped_over files (Err (fault.TooManyTokens limit file line)) run end name is told = absurd (cc)
stopped_over files (Err (fault.Store x)) run end name is told = tt
stopped_over files (Err fault.Memory) run end name is told = tt

short_over : (files : Held) (result : Result Tokens CppFault) (run end : Run) → end ≡ stops fault.Memory → IsUnit result end → IsOver files result run
short_over files (Ok tokens) run end is told = absurd (subst (IsUnit (Ok tokens)) is told)
short_over files (Err (fault.Absent x)) run end is told = absurd (cc)
short_over files (Err (fault.BadByte at file line)) run end is told = absurd (cc)
short_over files (Err (fault.OpenComment at file line)) run end is told = absurd (cc)
short_over files (Err (fault.OpenText at file line)) run end is told = absurd (cc)
short_over files (Err (fault.WideNumber at file line)) run end is told = absurd (cc)
short_over files (Err (fault.NoFile x file line)) run end is told = absurd (cc)
short_over files (Err (fault.BadDirective file line)) run end is told = absurd (cc)
short_over files (Err (fault.IncludeDepth limit file line)) run end is told = absurd (cc)
short_over files (Err (fault.MacroArgs x file line)) run end is told = absurd (cc)
short_over files (Err (fault.TooManyTokens limit file line)) run end is told = absurd (cc)
short_over files (Err (fault.Store x)) run end is told = tt
short_over files (Err fault.Memory) run end is told = tt

-- no calls are made behind a stop
stopped_end : (e : CppFault) (calls : List FileCall) (end : Run) → Along (stops e) calls end → end ≡ stops e
stopped_end e [] end along = sym along
stopped_end e (call ∷ calls) end along = absurd along

module _ {F : Type 0} (does : F → FileCall → F → Type 0) (held : F → Option Held) (faults : F → ℕ) (means : (old : F) (call : FileCall) (new : F) → does old call new → FileMeans (held old) (faults old) call (held new) (faults new)) where
  same_by : (a b : F) (calls : List FileCall) (run end : Run) → FilesDid does a calls b → Along run calls end → held b ≡ held a
  same_by a b [] run end did along = ap held did
  same_by a b (call ∷ calls) (ends s) end did along = absurd along
  same_by a b (call ∷ calls) (stops e) end did along = absurd along
  same_by a b (ReadCall asked answer ∷ calls) (reads name on) end (next, does_it, did) along =
      same_by next b calls (after answer name on) end did along.1 ∙ (means a (ReadCall asked answer) next does_it).0.0
  same_by a b (WriteCall asked bytes answer ∷ calls) (reads name on) end did along = absurd along

  answered_so : (a next : F) (files : Held) (asked name : List ℕ) (answer : Got) → does a (ReadCall asked answer) next → held a ≡ Some files → asked ≡ name → Answers (files name) answer
  answered_so a next files asked name answer does_it told same =
      subst (λ x. Answers (files x) answer) same (subst (λ h. IfSome h (λ fs. Answers (fs asked) answer)) told (means a (ReadCall asked answer) next does_it).0.1)

  told_next : (a next : F) (files : Held) (asked : List ℕ) (answer : Got) → does a (ReadCall asked answer) next → held a ≡ Some files → held next ≡ Some files
  told_next a next files asked answer does_it told = (means a (ReadCall asked answer) next does_it).0.0 ∙ told

  over_by : (a b : F) (files : Held) (result : Result Tokens CppFault) (calls : List FileCall) (run end : Run) → held a ≡ Some files → FilesDid does a calls b → Along run calls end → IsUnit result end → IsOver files result run
  over_by a b files result [] run end told did along is = over_to files result run end (ap (answered files) along) (end_over files result end is)
  over_by a b files result (call ∷ calls) (ends s) end told did along is = absurd along
  over_by a b files result (call ∷ calls) (stops e) end told did along is = absurd along
  over_by a b files result (WriteCall asked bytes answer ∷ calls) (reads name on) end told did along is = absurd along
  over_by a b files result (ReadCall asked (got.Found bytes) ∷ calls) (reads name on) end told (next, does_it, did) along is =
      over_to files result (reads name on) (on (Some bytes)) (ap (λ o. answered files (on o)) (answered_so a next files asked name (got.Found bytes) does_it told along.0))
      (over_by next b files result calls (on (Some bytes)) end (told_next a next files asked (got.Found bytes) does_it told) did along.1 is)
  over_by a b files result (ReadCall asked got.Absent ∷ calls) (reads name on) end told (next, does_it, did) along is =
      over_to files result (reads name on) (on None) (ap (λ o. answered files (on o)) (answered_so a next files asked name got.Absent does_it told along.0))
      (over_by next b files result calls (on None) end (told_next a next files asked got.Absent does_it told) did along.1 is)
  over_by a b files result (ReadCall asked got.Failed ∷ calls) (reads name on) end told did along is =
      stopped_over files result (reads name on) end name (stopped_end (fault.Store name) calls end along.1) is
  over_by a b files result (ReadCall asked got.NoMemory ∷ calls) (reads name on) end told did along is =
      short_over files result (reads name on) end (stopped_end fault.Memory calls end along.1) is

  pub held_same : (a b : F) (result : Result Tokens CppFault) (run : Run) → ComesTo does a b result run → held b ≡ held a
  held_same a b result run comes = same_by a b comes.makes.calls run comes.end comes.makes.did comes.makes.along

  tells_by : (a b : F) (o : Option Held) (name : List ℕ) (result : Result Tokens CppFault) → held a ≡ o → ComesTo does a b result (unit name) → Tells o name result
  tells_by a b None name result told comes = tt
  tells_by a b (Some files) name result told comes = over_by a b files result comes.makes.calls (unit name) comes.end told comes.makes.did comes.makes.along comes.is

  pub tells : (a b : F) (name : List ℕ) (result : Result Tokens CppFault) → ComesTo does a b result (unit name) → Tells (held a) name result
  tells a b name result comes = tells_by a b (held a) name result refl comes
