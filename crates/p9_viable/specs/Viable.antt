-- What the reader's machine has read begins a whole.
use Rattle.std.specs.Prelude.{◌≡◌, List, Some}
use Rattle.p9_grammar.specs.declared.terminal.Terminal.{Terminal}
use Rattle.p9_grammar.specs.Trees.{Trees}
use Rattle.p9_grammar.specs.Machine.{State, run}
use Rattle.p9_prefix.specs.Goals.{Goal, IsWhole, BeginsWhole, HasEnded, start}

-- Where it comes to the end of a whole, that is well formed, and the tokens read are its own.
abbrev pub ReadsOnlyWholes : Type 0
ReadsOnlyWholes = (goal : Goal) (ns : Trees) (ts : List Terminal) → HasEnded goal ns (run (Some (start goal)) ts) → IsWhole goal ns ts

-- From each state to which it comes some tokens lead to the end of a whole.
abbrev pub GoesOn : Type 0
GoesOn = (goal : Goal) (ts : List Terminal) (st : State) → run (Some (start goal)) ts ≡ Some st → BeginsWhole goal ts
