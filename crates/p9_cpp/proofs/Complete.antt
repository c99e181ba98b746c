-- The whole unit.
use Rattle.std.proofs.Common.{◌≡◌, ℕ, List, [], ◌∷◌, ◌++◌, map, Option, Result, Ok, Err, refl, sym, ap, subst, ◌∙◌}
use Rattle.std.specs.Option.{option_to_list}
use Rattle.p9_base.specs.declared.outside.Got.{Got}
use Rattle.p9_base.specs.declared.outside.Got.TheVariants as got
use Rattle.p9_base.specs.Outside.{FileCall, ReadCall}
use Rattle.p9_lex.specs.declared.token.Dialect.TheVariants.{C}
use Rattle.p9_lex.specs.declared.token.Token.{Token}
use Rattle.p9_lex.specs.declared.token.Tokens.{Tokens}
use Rattle.p9_lex.specs.Tokens.{lexed}
use Rattle.p9_cpp.specs.declared.fault.CppFault.{CppFault}
use Rattle.p9_cpp.specs.declared.fault.CppFault.TheVariants as fault
use Rattle.p9_cpp.specs.declared.source.Source.{Source}
use Rattle.p9_cpp.specs.Units.{State, Run, ends, stops, reads, and_run, begun, main_run, with_end, no_state, by_main, unit, in_file, end_in, source_run}
use Rattle.p9_cpp.specs.Calls.{after, IsEnded, Makes, Comes, ComesTo, Preprocesses, IsUnit, IsOpened}
use Rattle.p9_cpp.proofs.Walking.{makes_none, makes_to, makes_then, makes_and, makes_read, ended_and}

unit_by : (name : List ℕ) → unit name ≡ reads name (by_main name)
unfolding unit
unit_by name = refl

module _ {F : Type 0} (does : F → FileCall → F → Type 0) where
  -- a fault that comes of the first read
  pub unread : (a b : F) (name : List ℕ) (answer : Got) (e : CppFault) → does a (ReadCall name answer) b → IsEnded e (after answer name (by_main name)) → Preprocesses does a b name (Err e)
  unread a b name answer e did stopped =
      record { end = after answer name (by_main name); makes = makes_read does a b (unit name) name (by_main name) answer did (unit_by name); is = stopped }

  pub nothing_read : (a : F) (name : List ℕ) → Preprocesses does a a name (Err fault.Memory)
  nothing_read a name = record { end = unit name; makes = makes_none does a (unit name) (unit name) refl; is = tt }

  -- the named file is read, and then the unit follows
  pub read_then : (a m b : F) (name bytes : List ℕ) (result : Result Tokens CppFault) → does a (ReadCall name (got.Found bytes)) m → ComesTo does m b result (begun main_run name bytes no_state) → Preprocesses does a b name result
  read_then a m b name bytes result did comes =
      record {
        end = comes.end;
        makes = makes_then does a m b (unit name) (begun main_run name bytes no_state) comes.end (makes_read does a m (unit name) name (by_main name) (got.Found bytes) did (unit_by name)) comes.makes;
        is = comes.is;
      }

  -- the named file isn't begun
  pub unbegun : (a : F) (e : CppFault) (begins : Run) → IsEnded e begins → ComesTo does a a (Err e) begins
  unbegun a e begins stopped = record { end = begins; makes = makes_none does a begins begins refl; is = stopped }

  -- it is stopped
  pub main_stopped : (a b : F) (e : CppFault) (source : Source) (s : State) (begins next : Run) → begins ≡ main_run source s → Comes {A = Option Token} does a b (Err e) (source_run 16 source s) next → ComesTo does a b (Err e) begins
  main_stopped a b e source s begins next is comes =
      let rest = λ (t : State). ends (with_end source t) in
      record {
        end = and_run comes.end rest;
        makes = makes_then does a a b begins (main_run source s) (and_run comes.end rest) (makes_none does a begins (main_run source s) is) (makes_and does a b (source_run 16 source s) comes.end rest comes.makes);
        is = ended_and e comes.end rest comes.goes;
      }

  -- it ends
  pub main_ended : (a b : F) (source : Source) (s t : State) (begins : Run) (end : Option Token) (tokens : Tokens) → begins ≡ main_run source s → Comes {A = Option Token} does a b (Ok end) (source_run 16 source s) (ends t) → end ≡ end_in (lexed C source.bytes) → tokens.list.items ≡ t.out ++ map (in_file source.number) (option_to_list end) → tokens.sources.items ≡ t.sources → tokens.marks.items ≡ t.marks → ComesTo does a b (Ok tokens) begins
  main_ended a b source s t begins end tokens is comes last list sources marks =
      let rest = λ (t : State). ends (with_end source t) in
      let whole : Makes does a b begins (and_run comes.end rest) = makes_then does a a b begins (main_run source s) (and_run comes.end rest) (makes_none does a begins (main_run source s) is) (makes_and does a b (source_run 16 source s) comes.end rest comes.makes) in
      record {
        end = ends (with_end source t);
        makes = makes_to does a b begins (and_run comes.end rest) (ends (with_end source t)) whole (ap (λ r. and_run r rest) comes.goes);
        is = (list ∙ ap (λ o. t.out ++ map (in_file source.number) (option_to_list o)) last, sources, marks);
      }

  -- of want of memory nothing is said
  pub main_unfinished : (a b : F) (source : Source) (s : State) (begins next : Run) (end : Option Token) → begins ≡ main_run source s → Comes {A = Option Token} does a b (Ok end) (source_run 16 source s) next → ComesTo does a b (Err fault.Memory) begins
  main_unfinished a b source s begins next end is comes =
      let rest = λ (t : State). ends (with_end source t) in
      record {
        end = and_run comes.end rest;
        makes = makes_then does a a b begins (main_run source s) (and_run comes.end rest) (makes_none does a begins (main_run source s) is) (makes_and does a b (source_run 16 source s) comes.end rest comes.makes);
        is = tt;
      }
