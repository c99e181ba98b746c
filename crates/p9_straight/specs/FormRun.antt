-- What `main` of the form comes to, by the values of variables alone. The run of the sources and
-- the run of the machine are both compared with it.
use Rattle.std.specs.Prelude.{◌≡◌, ℕ, zero, suc, ◌+◌, if◌then◌else◌, List, [], ◌∷◌, ◌++◌, length, take, Option, Some, None, unwrap_or, nat_le, codes}
use Rattle.p9_base.specs.Words.{word_sum, is_negative}
use Rattle.p9_first.specs.Form.{same_name}
use Rattle.p9_first.specs.Turns.{Outcome, Ended, Out, Undefined, Deep}
use Rattle.p9_form.specs.declared.file.Operand.{Operand}
use Rattle.p9_form.specs.declared.file.Operand.TheVariants.{Variable, Number}
use Rattle.p9_form.specs.declared.file.Statement.{Statement}
use Rattle.p9_form.specs.declared.file.Statement.TheVariants.{Assign, Write, Exits}
use Rattle.p9_form.specs.declared.file.File.{File}
use Rattle.p9_form.specs.Sharing.{Initial, initials}
use Rattle.p9_straight.specs.Code.{main_of}

-- the word that each variable holds
abbrev pub Values : Type 0
Values = List ℕ → ℕ

-- a run has ended with its output and a text, is out of turns, or does something undefined
pub data Came : Type 0 where
  Ends : (output text : List ℕ) → Came
  RunsOut : (output : List ℕ) → Came
  Fails : Came

abbrev pub operand_value : Values → Operand → ℕ
operand_value values (Variable x) = values x
operand_value values (Number n) = n

abbrev pub sum_value : Values → Operand → Option Operand → ℕ
sum_value values left None = operand_value values left
sum_value values left (Some right) = word_sum (operand_value values left) (operand_value values right)

abbrev pub assigned : Values → List ℕ → ℕ → Values
assigned values x n y = if same_name y x then n else values y

-- a count that is negative writes nothing; one that is too large is undefined
abbrev pub after_write : (output text : List ℕ) → (count : ℕ) → (List ℕ → Came) → Came
after_write output text count next =
    if is_negative count then next output
    else (if nat_le count (length text + 1) then next (output ++ take count (text ++ 0 ∷ [])) else Fails)

abbrev pub statements_run : (turns : ℕ) → Values → List Statement → (output : List ℕ) → Came
statements_run turns values [] output = Ends output (codes "main")
statements_run turns values (Assign x left right ∷ ss) output =
    statements_run turns (assigned values x (sum_value values left right)) ss output
statements_run zero values (Write text count ∷ ss) output = RunsOut output
statements_run (suc turns) values (Write text count ∷ ss) output =
    after_write output text (operand_value values count) (statements_run turns values ss)
statements_run zero values (Exits text ∷ ss) output = RunsOut output
statements_run (suc turns) values (Exits text ∷ ss) output = Ends output (unwrap_or text [])

-- the value that a variable has first
abbrev pub initial_of : List Initial → (name : List ℕ) → ℕ
initial_of [] name = 0
initial_of (v ∷ vs) name = if same_name name v.name then v.value else initial_of vs name

-- the call of `main` takes a turn
abbrev pub form_run : List File → (turns : ℕ) → Came
form_run files zero = RunsOut []
form_run files (suc turns) = statements_run turns (initial_of (initials files)) (main_of files) []

-- a run of the sources has come to the same, or has no room for a call
abbrev pub ComesTo : Outcome → Came → Type 0
ComesTo (Ended output text) (Ends o t) = (output ≡ o) × (text ≡ t)
ComesTo (Out output) (RunsOut o) = output ≡ o
ComesTo (Undefined output why place) Fails = Unit {0}
ComesTo (Deep output place) came = Unit {0}
ComesTo _ _ = ⊥
