-- Runs and the calls that they make.
use Rattle.std.proofs.Common.{◌≡◌, ℕ, zero, suc, ◌-◌, ◌<◌, Bool, List, [], ◌∷◌, ◌++◌, Option, Some, None, Result, Ok, Err, refl, sym, ap, subst, ◌∙◌, arith}
use Rattle.std.specs.Prelude.{IfErr}
use Rattle.p9_base.specs.declared.outside.Got.{Got}
use Rattle.p9_base.specs.declared.outside.Got.TheVariants as got
use Rattle.p9_base.specs.Outside.{Rose, FileCall, ReadCall, WriteCall}
use Rattle.p9_lex.specs.declared.token.Dialect.TheVariants.{C}
use Rattle.p9_lex.specs.declared.token.Token.{Token}
use Rattle.p9_lex.specs.declared.token.LexFault.{LexFault}
use Rattle.p9_lex.specs.Tokens.{lexed}
use Rattle.p9_cpp.specs.declared.fault.CppFault.{CppFault}
use Rattle.p9_cpp.specs.declared.fault.CppFault.TheVariants as fault
use Rattle.p9_cpp.specs.declared.groups.Group.{Group}
use Rattle.p9_cpp.specs.declared.items.Item.{Item}
use Rattle.p9_cpp.specs.declared.items.Items.{Items}
use Rattle.p9_cpp.specs.declared.source.Source.{Source}
use Rattle.p9_cpp.specs.declared.walk.Inclusion.{Inclusion}
use Rattle.p9_cpp.specs.Items.{items_of}
use Rattle.p9_cpp.specs.Headers.{header}
use Rattle.p9_cpp.specs.Groups.{is_live}
use Rattle.p9_cpp.specs.Units.{State, Run, ends, stops, reads, and_run, Including, by_item, items_run, at_end, bad, by_tokens, begun, by_file, by_header, included, too_deep, source_run, including, last_line, lex_fault, end_in}
use Rattle.p9_cpp.specs.Calls.{FilesDid, after, Along, IsStopped, IsEnded, Makes, Comes, Opens, IsOpened, IsBad, AreItems, IsUnlexed, FaultCounts, Counts}

-- Calls

after_and : (answer : Got) (name : List ℕ) (on : Option (List ℕ) → Run) (next : State → Run) → and_run (after answer name on) next ≡ after answer name (λ there. and_run (on there) next)
after_and (got.Found bytes) name on next = refl
after_and got.Absent name on next = refl
after_and got.Failed name on next = refl
after_and got.NoMemory name on next = refl

along_and : (run : Run) (calls : List FileCall) (end : Run) (next : State → Run) → Along run calls end → Along (and_run run next) calls (and_run end next)
along_and run [] end next h = ap (λ r. and_run r next) h
along_and (ends s) (call ∷ calls) end next h = absurd h
along_and (stops e) (call ∷ calls) end next h = absurd h
along_and (reads name on) (ReadCall asked answer ∷ calls) end next h =
    (h.0, subst (λ r. Along r calls (and_run end next)) (after_and answer name on next) (along_and (after answer name on) calls end next h.1))
along_and (reads name on) (WriteCall asked bytes answer ∷ calls) end next h = absurd h

along_append : (run : Run) (calls more : List FileCall) (middle end : Run) → Along run calls middle → Along middle more end → Along run (calls ++ more) end
along_append run [] more middle end h g = subst (λ r. Along r more end) (sym h) g
along_append (ends s) (call ∷ calls) more middle end h g = absurd h
along_append (stops e) (call ∷ calls) more middle end h g = absurd h
along_append (reads name on) (ReadCall asked answer ∷ calls) more middle end h g = (h.0, along_append (after answer name on) calls more middle end h.1 g)
along_append (reads name on) (WriteCall asked bytes answer ∷ calls) more middle end h g = absurd h

along_to : (run : Run) (calls : List FileCall) (end end' : Run) → end ≡ end' → Along run calls end → Along run calls end'
along_to run calls end end' is h = subst (λ r. Along run calls r) is h

pub ended_and : (e : CppFault) (run : Run) (next : State → Run) → IsEnded e run → IsEnded e (and_run run next)
ended_and (fault.Absent name) run next h = ap (λ r. and_run r next) h
ended_and (fault.BadByte at file line) run next h = ap (λ r. and_run r next) h
ended_and (fault.OpenComment at file line) run next h = ap (λ r. and_run r next) h
ended_and (fault.OpenText at file line) run next h = ap (λ r. and_run r next) h
ended_and (fault.WideNumber at file line) run next h = ap (λ r. and_run r next) h
ended_and (fault.NoFile name file line) run next h = ap (λ r. and_run r next) h
ended_and (fault.BadDirective file line) run next h = ap (λ r. and_run r next) h
ended_and (fault.IncludeDepth limit file line) run next h = ap (λ r. and_run r next) h
ended_and (fault.MacroArgs name file line) run next h = ap (λ r. and_run r next) h
ended_and (fault.TooManyTokens limit file line) run next h = ap (λ r. and_run r next) h
ended_and (fault.Store name) run next h = ap (λ r. and_run r next) h
ended_and fault.Memory run next h = tt

pub ended_of : (e : CppFault) (run : Run) → IsStopped e run → IsEnded e run
ended_of (fault.Absent name) run h = h
ended_of (fault.BadByte at file line) run h = h
ended_of (fault.OpenComment at file line) run h = h
ended_of (fault.OpenText at file line) run h = h
ended_of (fault.WideNumber at file line) run h = h
ended_of (fault.NoFile name file line) run h = h
ended_of (fault.BadDirective file line) run h = h
ended_of (fault.IncludeDepth limit file line) run h = h
ended_of (fault.MacroArgs name file line) run h = h
ended_of (fault.TooManyTokens limit file line) run h = h
ended_of (fault.Store name) run h = absurd h
ended_of fault.Memory run h = tt

-- a fault that isn't the store's, where no call was made
pub counts_same : (e : CppFault) (run : Run) (before now : ℕ) → IsStopped e run → now ≡ before → FaultCounts e before now
counts_same (fault.Absent name) run before now h is = is
counts_same (fault.BadByte at file line) run before now h is = is
counts_same (fault.OpenComment at file line) run before now h is = is
counts_same (fault.OpenText at file line) run before now h is = is
counts_same (fault.WideNumber at file line) run before now h is = is
counts_same (fault.NoFile name file line) run before now h is = is
counts_same (fault.BadDirective file line) run before now h is = is
counts_same (fault.IncludeDepth limit file line) run before now h is = is
counts_same (fault.MacroArgs name file line) run before now h is = is
counts_same (fault.TooManyTokens limit file line) run before now h is = is
counts_same (fault.Store name) run before now h is = absurd h
counts_same fault.Memory run before now h is = is

-- want of memory, where no call failed
pub counts_memory : {A : Type 0} (r : Result A CppFault) (before now : ℕ) → IfErr r (λ e. e ≡ fault.Memory) → now ≡ before → Counts r before now
counts_memory (Ok a) before now h is = is
counts_memory (Err e) before now h is = subst (λ (x : CppFault). FaultCounts x before now) (sym h) is

-- a call that failed behind others that didn't
pub counts_behind : (e : CppFault) (before middle now : ℕ) → middle ≡ before → FaultCounts e middle now → FaultCounts e before now
counts_behind (fault.Absent name) before middle now is h = h ∙ is
counts_behind (fault.BadByte at file line) before middle now is h = h ∙ is
counts_behind (fault.OpenComment at file line) before middle now is h = h ∙ is
counts_behind (fault.OpenText at file line) before middle now is h = h ∙ is
counts_behind (fault.WideNumber at file line) before middle now is h = h ∙ is
counts_behind (fault.NoFile name file line) before middle now is h = h ∙ is
counts_behind (fault.BadDirective file line) before middle now is h = h ∙ is
counts_behind (fault.IncludeDepth limit file line) before middle now is h = h ∙ is
counts_behind (fault.MacroArgs name file line) before middle now is h = h ∙ is
counts_behind (fault.TooManyTokens limit file line) before middle now is h = h ∙ is
counts_behind (fault.Store name) before middle now is h = subst (λ n. Rose n now) is h
counts_behind fault.Memory before middle now is h = h ∙ is

module _ {F : Type 0} (does : F → FileCall → F → Type 0) where
  pub did_append : (calls more : List FileCall) (a b c : F) → FilesDid does a calls b → FilesDid does b more c → FilesDid does a (calls ++ more) c
  did_append [] more a b c same second = subst (λ x. FilesDid does x more c) same second
  did_append (call ∷ calls) more a b c (next, does_it, did) second = (next, does_it, did_append calls more next b c did second)

  pub makes_none : (a : F) (run rest : Run) → run ≡ rest → Makes does a a run rest
  makes_none a run rest is = record { calls = []; did = refl; along = is }

  pub makes_to : (a b : F) (run rest rest' : Run) → Makes does a b run rest → rest ≡ rest' → Makes does a b run rest'
  makes_to a b run rest rest' m is = record { calls = m.calls; did = m.did; along = along_to run m.calls rest rest' is m.along }

  pub makes_then : (a b c : F) (run middle end : Run) → Makes does a b run middle → Makes does b c middle end → Makes does a c run end
  makes_then a b c run middle end m n =
      record { calls = m.calls ++ n.calls; did = did_append m.calls n.calls a b c m.did n.did; along = along_append run m.calls n.calls middle end m.along n.along }

  pub makes_and : (a b : F) (run end : Run) (next : State → Run) → Makes does a b run end → Makes does a b (and_run run next) (and_run end next)
  makes_and a b run end next m = record { calls = m.calls; did = m.did; along = along_and run m.calls end next m.along }

  -- a file that is read
  pub makes_read : (a b : F) (run : Run) (name : List ℕ) (on : Option (List ℕ) → Run) (answer : Got) → does a (ReadCall name answer) b → run ≡ reads name on → Makes does a b run (after answer name on)
  makes_read a b run name on answer did is =
      record { calls = ReadCall name answer ∷ []; did = (b, did, refl); along = subst (λ r. Along r (ReadCall name answer ∷ []) (after answer name on)) (sym is) (refl, refl) }

-- Includes

pub including_header : (d : ℕ) (angled : Bool) (name from : List ℕ) (line : ℕ) (s : State) (text : List ℕ) → 0 < d → header angled name ≡ Some text → including d angled name from line s ≡ begun (source_run (d - 1)) name text s
including_header zero angled name from line s text some is = absurd (omega (arith, some))
including_header (suc d) angled name from line s text some is =
    let same : d ≡ suc d - 1 = omega arith in
    ap (by_header (source_run d) name from line s) is ∙ ap (λ n. begun (source_run n) name text s) same

pub including_read : (d : ℕ) (angled : Bool) (name from : List ℕ) (line : ℕ) (s : State) → 0 < d → header angled name ≡ None → including d angled name from line s ≡ reads name (by_file (source_run (d - 1)) name from line s)
including_read zero angled name from line s some is = absurd (omega (arith, some))
including_read (suc d) angled name from line s some is =
    let same : d ≡ suc d - 1 = omega arith in
    ap (by_header (source_run d) name from line s) is ∙ ap (λ n. reads name (by_file (source_run n) name from line s)) same

pub opened_read : {F : Type 0} (does : F → FileCall → F → Type 0) (a b : F) (result : Result Source CppFault) (d : ℕ) (angled : Bool) (name from : List ℕ) (line : ℕ) (s t : State) (answer : Got) → 0 < d → header angled name ≡ None → does a (ReadCall name answer) b → IsOpened result (source_run (d - 1)) (after answer name (by_file (source_run (d - 1)) name from line s)) t → Opens does a b result (source_run (d - 1)) (including d angled name from line s) t
opened_read does a b result d angled name from line s t answer some is did opened =
    record {
      end = after answer name (by_file (source_run (d - 1)) name from line s);
      makes = makes_read does a b (including d angled name from line s) name (by_file (source_run (d - 1)) name from line s) answer did (including_read d angled name from line s some is);
      opened = opened;
    }

-- Files

pub source_by : (d : ℕ) (source : Source) (s : State) → source_run d source s ≡ by_tokens (including d) source (lexed C source.bytes) s
unfolding source_run
source_by zero source s = refl
source_by (suc d) source s = refl

pub unlexed_by : (e : CppFault) (include : Including) (source : Source) (r : Result (List Token) LexFault) (s : State) → IsUnlexed e source.name r → IsStopped e (by_tokens include source r s)
unlexed_by e include source (Ok ts) s is = subst (λ x. IsStopped x (by_tokens include source (Ok ts) s)) (sym is) tt
unlexed_by e include source (Err f) s is = is

pub begins_by : (include : Including) (source : Source) (items : Items) (groups : List Group) (last : ℕ) (r : Result (List Token) LexFault) (s : State) → AreItems items r → last ≡ last_line items.end → groups ≡ [] → by_tokens include source r s ≡ items_run include source last items.list groups s
begins_by include source items groups last (Ok ts) s is at none =
    ap (λ l. items_run include source (last_line l) (items_of ts) [] s) (sym is.1)
    ∙ ap (λ l. items_run include source l (items_of ts) [] s) (sym at)
    ∙ ap (λ l. items_run include source last l [] s) (sym is.0)
    ∙ ap (λ gs. items_run include source last items.list gs s) (sym none)
begins_by include source items groups last (Err f) s is at none = absurd is

module _ {F : Type 0} (does : F → FileCall → F → Type 0) where
  pub file_unlexed : {A : Type 0} (a : F) (e : CppFault) (d : ℕ) (source : Source) (s : State) (next : Run) → IsUnlexed e source.name (lexed C source.bytes) → Comes {A = A} does a a (Err e) (source_run d source s) next
  file_unlexed a e d source s next is =
      record {
        end = by_tokens (including d) source (lexed C source.bytes) s;
        makes = makes_none does a (source_run d source s) (by_tokens (including d) source (lexed C source.bytes) s) (source_by d source s);
        goes = ended_of e (by_tokens (including d) source (lexed C source.bytes) s) (unlexed_by e (including d) source (lexed C source.bytes) s is);
      }

  pub file_begun : (a : F) (d : ℕ) (source : Source) (items : Items) (groups : List Group) (last : ℕ) (s : State) → AreItems items (lexed C source.bytes) → last ≡ last_line items.end → groups ≡ [] → Makes does a a (source_run d source s) (items_run (including d) source last items.list groups s)
  file_begun a d source items groups last s is at none =
      makes_none does a (source_run d source s) (items_run (including d) source last items.list groups s)
      (source_by d source s ∙ begins_by (including d) source items groups last (lexed C source.bytes) s is at none)

  -- an include that stops, and one that is done, in a run that has come to it
  pub include_stopped : {A : Type 0} (a m b : F) (e : CppFault) (whole here inner end next : Run) (rest : State → Run) → Makes does a m whole here → here ≡ and_run inner rest → Makes does m b inner end → IsEnded e end → Comes {A = A} does a b (Err e) whole next
  include_stopped a m b e whole here inner end next rest before is inside stopped =
      record {
        end = and_run end rest;
        makes = makes_then does a m b whole (and_run inner rest) (and_run end rest) (makes_to does a m whole here (and_run inner rest) before is) (makes_and does m b inner end rest inside);
        goes = ended_and e end rest stopped;
      }

  pub include_done : (a m b : F) (whole here inner end : Run) (s : State) (rest : State → Run) → Makes does a m whole here → here ≡ and_run inner rest → Makes does m b inner end → end ≡ ends s → Makes does a b whole (rest s)
  include_done a m b whole here inner end s rest before is inside done =
      makes_to does a b whole (and_run end rest) (rest s)
      (makes_then does a m b whole (and_run inner rest) (and_run end rest) (makes_to does a m whole here (and_run inner rest) before is) (makes_and does m b inner end rest inside))
      (ap (λ r. and_run r rest) done)

  -- a file that is opened, and then gone through
  pub opened_then : (a m b : F) (before middle middle' end : Run) → Makes does a m before middle → middle ≡ middle' → Makes does m b middle' end → Makes does a b before end
  opened_then a m b before middle middle' end first is second = makes_then does a m b before middle' end (makes_to does a m before middle middle' first is) second

  pub opened_header : (a : F) (result : Result Source CppFault) (d : ℕ) (angled : Bool) (name from : List ℕ) (line : ℕ) (s t : State) (text : List ℕ) → 0 < d → header angled name ≡ Some text → IsOpened result (source_run (d - 1)) (begun (source_run (d - 1)) name text s) t → Opens does a a result (source_run (d - 1)) (including d angled name from line s) t
  opened_header a result d angled name from line s t text some is opened =
      record {
        end = begun (source_run (d - 1)) name text s;
        makes = makes_none does a (including d angled name from line s) (begun (source_run (d - 1)) name text s) (including_header d angled name from line s text some is);
        opened = opened;
      }

  pub opened_nothing : (a : F) (run : Source → State → Run) (before : Run) (t : State) → Opens does a a (Err fault.Memory) run before t
  opened_nothing a run before t = record { end = before; makes = makes_none does a before before refl; opened = tt }

  -- a file that stops where it has come to
  pub stopped_here : {A : Type 0} (a m : F) (e : CppFault) (whole here next : Run) → Makes does a m whole here → IsStopped e here → Comes {A = A} does a m (Err e) whole next
  stopped_here a m e whole here next before stopped = record { end = here; makes = before; goes = ended_of e here stopped }
