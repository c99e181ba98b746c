-- The functions of valid modules are valid.
use Rattle.std.proofs.Common.{ℕ, ◌+◌, List, [], ◌∷◌, ◌++◌, length, All}
use Rattle.std.proofs.lemmas.List.Elements.{All-nil, All-cons, All-head, All-tail, All-append}
use Rattle.p9_abs.specs.declared.modules.AModule.{AModule}
use Rattle.p9_abs.specs.declared.modules.Body.{Body}
use Rattle.p9_abs.specs.declared.modules.Body.TheVariants.{Declared, Used, Text, Data, Common}
use Rattle.p9_abs.specs.declared.modules.Def.{Def}
use Rattle.p9_abs.specs.declared.modules.Symbol.{Symbol}
use Rattle.p9_abs.specs.BuiltIn.{builtin_symbols, builtin_module}
use Rattle.p9_abs.specs.Runs.{Routine}
use Rattle.p9_abs.specs.Programs.{Numbered, numbered_from, records_from, records, routine_of, routines_in, with_start, routines_of}
use Rattle.p9_abs.specs.Validity.{IsFunction, HasFunction, IsValid}
use Rattle.p9_abs.proofs.BuiltInValid.{builtin_valid}

abbrev pub IsSound : Routine → Type 0
IsSound r = IsFunction r.def

abbrev IsFine : Numbered → Type 0
IsFine r = HasFunction r.symbol.body

abbrev IsFineSymbol : Symbol → Type 0
IsFineSymbol s = HasFunction s.body

routine-sound : (d : Def) (body : Body) → HasFunction body → All IsSound (routine_of d body)
routine-sound d (Text def) h = All-cons IsSound (record { unit = d.«module»; symbol = d.symbol; def = def }) [] h (All-nil IsSound)
routine-sound d Declared h = All-nil IsSound
routine-sound d Used h = All-nil IsSound
routine-sound d (Data pieces) h = All-nil IsSound
routine-sound d (Common size) h = All-nil IsSound

routines-sound : (rs : List Numbered) → All IsFine rs → All IsSound (routines_in rs)
routines-sound [] h = All-nil IsSound
routines-sound (r ∷ rs) h =
    All-append IsSound (routine_of r.def r.symbol.body) (routines_in rs) (routine-sound r.def r.symbol.body (All-head IsFine r rs h)) (routines-sound rs (All-tail IsFine r rs h))

numbered-fine : (unit k : ℕ) (ss : List Symbol) → All IsFineSymbol ss → All IsFine (numbered_from unit k ss)
numbered-fine unit k [] h = All-nil IsFine
numbered-fine unit k (s ∷ ss) h =
    All-cons IsFine (record { def = record { «module» = unit; symbol = k }; symbol = s }) (numbered_from unit (k + 1) ss)
    (All-head IsFineSymbol s ss h) (numbered-fine unit (k + 1) ss (All-tail IsFineSymbol s ss h))

records-fine : (unit : ℕ) (ms : List AModule) → All IsValid ms → All IsFine (records_from unit ms)
records-fine unit [] h = All-nil IsFine
records-fine unit (m ∷ ms) h =
    let here : IsValid m = All-head IsValid m ms h in
    All-append IsFine (numbered_from unit 0 m.symbols) (records_from (unit + 1) ms) (numbered-fine unit 0 m.symbols here.functions) (records-fine (unit + 1) ms (All-tail IsValid m ms h))

start-sound : (xs ys : List Routine) → All IsSound xs → All IsSound ys → All IsSound (with_start xs ys)
start-sound [] ys h k = k
start-sound (x ∷ xs) ys h k =
    All-cons IsSound x (ys ++ xs) (All-head IsSound x xs h) (All-append IsSound ys xs k (All-tail IsSound x xs h))

builtin-fine : All IsFineSymbol builtin_symbols
builtin-fine = let valid : IsValid builtin_module = builtin_valid in valid.functions

pub all_sound : (modules : List AModule) → All IsValid modules → All IsSound (routines_of modules)
all_sound modules h =
    start-sound (routines_in (numbered_from (length modules) 0 builtin_symbols)) (routines_in (records modules))
    (routines-sound (numbered_from (length modules) 0 builtin_symbols) (numbered-fine (length modules) 0 builtin_symbols builtin-fine))
    (routines-sound (records modules) (records-fine 0 modules h))
