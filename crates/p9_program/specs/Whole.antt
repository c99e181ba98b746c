-- Programs of modules whose objects translate them: how they begin, and what they come to.
use Rattle.std.specs.Prelude.{◌≡◌, ◌≤◌, ℕ, ◌+◌, ◌*◌, Some, None, List, [], ◌∷◌, ◌++◌, map, length, slice_get}
use Rattle.p9_base.specs.Core.{text_start}
use Rattle.p9_base.specs.Holding.{AreBytes}
use Rattle.p9_abs.specs.declared.modules.AModule.{AModule}
use Rattle.p9_abs.specs.Programs.{Placing, IsPlacing, address_of, start_state, arun}
use Rattle.p9_object.specs.Fields.{spelling}
use Rattle.p9_lang.specs.Modules.{Source}
use Rattle.p9_cmean.specs.Joins.{Join}
use Rattle.p9_cmean.specs.Turns.{copied_of}
use Rattle.p9_cmean.specs.Union.{union_of}
use Rattle.p9_cmean.specs.CRun.{run_of, source_run}
use Rattle.p9_sim.specs.Memory.{Map, Ground}
use Rattle.p9_sim.specs.Translating.{Translates}
use Rattle.p9_start.specs.Starting.{StandsFirst, RunComesTo}
use Rattle.p9_program.specs.Linking.{AreTranslations, ground_of, HasMost}

-- FILES

-- Files whose bytes translate modules, one by one, spell objects that are translations of them.
abbrev pub FilesAreTranslated : Type 0
FilesAreTranslated =
    (modules : List Source) (files : List (List ℕ)) → length files ≡ length modules
    → ((i : ℕ) (source : Source) (bytes : List ℕ) → slice_get modules i ≡ Some source → slice_get files i ≡ Some bytes → Translates source bytes)
    → (outs : List AModule) × AreTranslations modules outs × ((i : ℕ) (out : AModule) → slice_get outs i ≡ Some out → slice_get files i ≡ Some (spelling out))

-- THE BEGINNING

-- the address of a symbol of the built-in module
abbrev pub builtin_address : List AModule → Placing → (k : ℕ) → ℕ
builtin_address outs p k = address_of outs p (record { «module» = length outs; symbol = k })

-- the static objects, the list of arguments, the exit text, to which C has no way, and the program's name
abbrev pub first_map : List Source → List AModule → Placing → Map
first_map modules outs p =
    (let g : Ground = ground_of modules outs p in map Some g.statics)
    ++ Some (builtin_address outs p 1) ∷ None ∷ Some (builtin_address outs p 7) ∷ []

-- the bytes below the data, whose content means nothing
pub record IsBelow (p : Placing) (below : List ℕ) : Type 0 where
  pub reach : text_start + length below ≡ p.data_start
  pub bytes : AreBytes below

-- the state before the first instruction has the first objects of C in its data
abbrev pub ProgramsBegin : Type 0
ProgramsBegin =
    (modules : List Source) (outs : List AModule) (p : Placing) → Join modules → AreTranslations modules outs → IsPlacing outs p
    → (below input : List ℕ) → IsBelow p below → AreBytes input
    → StandsFirst (ground_of modules outs p) (first_map modules outs p) (union_of modules) (builtin_address outs p 1) (builtin_address outs p 3) input (start_state outs p below input)

-- THE RUN

-- Whatever the placing, the input and the number of turns, the run of the objects, with the built-in
-- module, comes to what C comes to.
abbrev pub ProgramsAreRight : Type 0
ProgramsAreRight =
    (modules : List Source) (outs : List AModule) (p : Placing) (most : ℕ) → Join modules → AreTranslations modules outs → IsPlacing outs p → HasMost outs most
    → (below input : List ℕ) → IsBelow p below → AreBytes input → (turns : ℕ)
    → RunComesTo (arun outs p below input) most turns (copied_of (run_of (union_of modules) input turns)) (source_run modules input turns)

-- Where no function has more than 64 instructions for each of N nodes, and each instruction takes at most
-- 24 of the machine's, with 24 more at the start, the limit in the machine's instructions is this.
abbrev pub BudgetIsEnough : Type 0
BudgetIsEnough =
    (nodes turns copied n : ℕ) → n ≤ (turns + copied) * (64 * nodes) + 16 → 24 * n + 24 ≤ 1536 * nodes * (turns + copied) + 408
