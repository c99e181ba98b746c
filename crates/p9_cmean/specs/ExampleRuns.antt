-- Words for programs that stand as examples, and what can be seen of their runs.
use Rattle.std.specs.Prelude.{ℕ, Bool, true, false, List, [], ◌∷◌, Option, Some, None, Result, Ok, Err, codes, if◌then◌else◌}
use Rattle.p9_lang.specs.declared.tree.CUnary.{CUnary}
use Rattle.p9_lang.specs.declared.tree.Kind.TheVariants as kind
use Rattle.p9_lang.specs.declared.tree.SpecWord.TheVariants as word
use Rattle.p9_lang.specs.Names.{same_name}
use Rattle.p9_lang.specs.Trees.{Syntax, row}
use Rattle.p9_lang.specs.ExampleTrees.{tree, declaration, function, named}
use Rattle.p9_lang.specs.Layout.{on_some}
use Rattle.p9_lang.specs.Agreement.{agrees}
use Rattle.p9_lang.specs.Rules.{Broken}
use Rattle.p9_lang.specs.Modules.{Source}
use Rattle.p9_lang.specs.Files.{module_of}
use Rattle.p9_lang.specs.Symbols.{Symbol, symbols}
use Rattle.p9_cmean.specs.declared.Cause.{Cause}
use Rattle.p9_cmean.specs.Cells.{FunctionName}
use Rattle.p9_cmean.specs.Turns.{Outcome, Ended, Out, Undefined, Deep, NoOutcome, copied_of}
use Rattle.p9_cmean.specs.Union.{union_of}
use Rattle.p9_cmean.specs.CRun.{source_run, run_of}

-- PARTS OF PROGRAMS

-- `int x;`
abbrev pub variable : List ℕ → Syntax
variable x = declaration (word.Int ∷ []) (false ∷ []) (named x ∷ [])

abbrev pub no_parameters : Syntax → Syntax
no_parameters declarator = tree (kind.Params true true) (declarator ∷ [])

abbrev pub block : List Syntax → Syntax
block statements = tree kind.Block statements

-- `void main(void)`
abbrev pub main : List Syntax → Syntax
main statements = function (word.Void ∷ []) (no_parameters (named (codes "main")) ∷ block statements ∷ [])

abbrev pub effect : Syntax → Syntax
effect e = tree kind.Expression (e ∷ [])

abbrev pub call : Syntax → List Syntax → Syntax
call f arguments = tree kind.Call (f ∷ arguments)

abbrev pub assign : Syntax → Syntax → Syntax
assign left right = tree (kind.Assign None) (left ∷ right ∷ [])

abbrev pub unary_of : CUnary → Syntax → Syntax
unary_of op e = tree (kind.Unary op) (e ∷ [])

abbrev pub if_holds : Syntax → Syntax → Syntax
if_holds test statement = tree kind.If (test ∷ statement ∷ [])

abbrev pub returns : Syntax → Syntax
returns e = tree kind.Return (e ∷ [])

abbrev pub element : Syntax → Syntax → Syntax
element array index = tree kind.Index (array ∷ index ∷ [])

abbrev pub parens : Syntax → Syntax
parens e = tree kind.Parens (e ∷ [])

-- RUNS

-- the modules of files, unless one breaks a rule
abbrev pub with_module : Result Source Broken → Option (List Source) → Option (List Source)
with_module (Err broken) others = None
with_module (Ok m) others = on_some others (λ ms. Some (m ∷ ms))

abbrev pub modules_of : List (List Syntax) → Option (List Source)
modules_of [] = Some []
modules_of (file ∷ files) = with_module (module_of (row file) []) (modules_of files)

-- The output so far, and then: the exit text and the input that is left; the input that is left, in a
-- loop or at a call that waits for a turn; the cause and the place, by its module and node.
pub data Seen : Type 0 where
  Ends : (output text left : List ℕ) → Seen
  InLoop : (output left : List ℕ) → Seen
  Waits : (function : FunctionName) (output left : List ℕ) → Seen
  IsUndefined : (output : List ℕ) (why : Cause) (owner node : ℕ) → Seen
  IsDeep : (output : List ℕ) (owner node : ℕ) → Seen
  IsNone : Seen

abbrev pub seen : Outcome → Seen
seen (Ended text s) = Ends s.output text s.input
seen (Out None s) = InLoop s.output s.input
seen (Out (Some call) s) = Waits call.function s.output s.input
seen (Undefined why place s) = IsUndefined s.output why place.«module» place.node
seen (Deep place s) = IsDeep s.output place.«module» place.node
seen (NoOutcome place s) = IsNone

-- what is seen of the run of files
unfoldable pub run : List (List Syntax) → (input : List ℕ) → (turns : ℕ) → Option Seen
run files input turns = on_some (modules_of files) (λ modules. Some (seen (source_run modules input turns)))

-- how many bytes the run's structure copies move
unfoldable pub bytes_copied : List (List Syntax) → (input : List ℕ) → (turns : ℕ) → Option ℕ
bytes_copied files input turns = on_some (modules_of files) (λ modules. Some (copied_of (run_of (union_of modules) input turns)))

-- whether two files agree on the type of a name
abbrev pub symbol_in : List ℕ → List Symbol → Option Symbol
symbol_in name [] = None
symbol_in name (symbol ∷ others) = if same_name name symbol.name then Some symbol else symbol_in name others

abbrev pub both_agree : List ℕ → List Source → Option Bool
both_agree name (m ∷ n ∷ []) =
    on_some (symbol_in name (symbols m)) (λ a. on_some (symbol_in name (symbols n)) (λ b. Some (agrees m.tags n.tags a.type b.type)))
both_agree name others = None

unfoldable pub agreement : List ℕ → List (List Syntax) → Option Bool
agreement name files = on_some (modules_of files) (both_agree name)
