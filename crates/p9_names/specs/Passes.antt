-- What the passes over the symbol records keep: lists of places, and maps from names to places.
use Rattle.std.specs.Prelude.{◌≡◌, ◌<◌, ◌≤◌, ◌+◌, ◌^◌, ℕ, Bool, true, false, not, ◌&&◌, ◌||◌, if◌then◌else◌, List, [], ◌∷◌, ◌++◌, Option, Some, None, IsSome, is_some, IfSome, find, length, All, AllPairs, bytes_eq}
use Rattle.std.specs.Map.{lookup}
use Rattle.indexmap.specs.IndexMap.{insert_entry}
use Rattle.p9_abs.specs.declared.modules.Symbol.{Symbol}
use Rattle.p9_abs.specs.declared.modules.AModule.{AModule}
use Rattle.p9_abs.specs.Modules.{is_definition, size_of, is_full}
use Rattle.p9_abs.specs.Validity.{AreApart, HasSizeInRange}
use Rattle.p9_abs.specs.declared.modules.Def.{Def}
use Rattle.p9_names.specs.declared.table.LinkFault.{LinkFault}
use Rattle.p9_names.specs.declared.table.LinkFault.TheVariants.{Twice, NoMain, MainType, Unresolved, Disagree, Memory}
use Rattle.p9_names.specs.declared.rules.Rule.{Rule}
use Rattle.p9_names.specs.declared.rules.Rule.TheVariants.{Once, Agreement}
use Rattle.p9_names.specs.Rules.{breaks, is_empty, main_name}
use Rattle.p9_abs.specs.Names.{symbol_at, IsUndefined}
use Rattle.p9_names.specs.Linking.{is_use, IsFirstConflict, IsFirstUnresolved, HasWrongMain}

-- Lists of places

abbrev pub place : ℕ → ℕ → Def
place i k = record { «module» = i; symbol = k }

-- the places of those symbols of module i, numbered from k, that pass the test
abbrev pub places_in : (ℕ → Symbol → Bool) → ℕ → ℕ → List Symbol → List Def
places_in test i k [] = []
places_in test i k (s ∷ rest) = if test k s then place i k ∷ places_in test i (k + 1) rest else places_in test i (k + 1) rest

-- those of several modules, numbered from i
abbrev pub places_from : (List Symbol → ℕ → Symbol → Bool) → ℕ → List AModule → List Def
places_from test i [] = []
places_from test i (m ∷ rest) = places_in (test m.symbols) i 0 m.symbols ++ places_from test (i + 1) rest

abbrev pub is_global : List Symbol → ℕ → Symbol → Bool
is_global symbols k s = not s.local

abbrev pub is_global_use : List Symbol → ℕ → Symbol → Bool
is_global_use symbols k s = not s.local && is_use symbols k s.body

-- the places of all global names, and of all used ones
abbrev pub globals_of : List AModule → List Def
globals_of ms = places_from is_global 0 ms

abbrev pub uses_of : List AModule → List Def
uses_of ms = places_from is_global_use 0 ms

-- each is a symbol's place
abbrev pub ArePlaces : List AModule → List Def → Type 0
ArePlaces ms [] = Unit {0}
ArePlaces ms (d ∷ rest) = IsSome (symbol_at ms d) × ArePlaces ms rest

-- Tests of places

abbrev pub holds_at : (Symbol → Bool) → Option Symbol → Bool
holds_at test None = false
holds_at test (Some s) = test s

-- the record there has the late one's name, and the two break the rule
abbrev pub meets : Rule → List AModule → Symbol → Def → Bool
meets rule ms late d = holds_at (λ early. bytes_eq early.name late.name && breaks rule early late) (symbol_at ms d)

-- the name is defined there
abbrev pub defines : List AModule → List ℕ → Def → Bool
defines ms name d = holds_at (λ s. bytes_eq s.name name && is_definition s.body) (symbol_at ms d)

-- the name there isn't in the map
abbrev pub is_missing : List AModule → List (List ℕ × Def) → Def → Bool
is_missing ms entries d = holds_at (λ s. not (is_some (lookup (bytes_eq s.name) entries))) (symbol_at ms d)

-- Maps from names to places

abbrev pub held_at : List (List ℕ × Def) → List ℕ → Option Def
held_at entries name = lookup (bytes_eq name) entries

-- each name is held with a symbol's place
abbrev pub HoldPlaces : List AModule → List (List ℕ × Def) → Type 0
HoldPlaces ms entries = (name : List ℕ) → IfSome (held_at entries name) (λ d. IsSome (symbol_at ms d))

-- the record that the map holds for the late one's name breaks the rule with it
abbrev pub breaks_at : Rule → List AModule → Option Def → Symbol → Bool
breaks_at rule ms None late = false
breaks_at rule ms (Some d) late = holds_at (λ early. breaks rule early late) (symbol_at ms d)

abbrev pub held_breaks : Rule → List AModule → List (List ℕ × Def) → Symbol → Bool
held_breaks rule ms entries late = breaks_at rule ms (held_at entries late.name) late

abbrev pub put_entry : List (List ℕ × Def) → List ℕ → Def → List (List ℕ × Def)
put_entry entries name d = insert_entry bytes_eq entries name d

abbrev pub note_entry : Bool → List (List ℕ × Def) → List ℕ → Def → List (List ℕ × Def)
note_entry wanted entries name d = if wanted then put_entry entries name d else entries

-- a definition takes its name's place in the map where it is the first one or full
abbrev pub takes_place : List (List ℕ × Def) → Symbol → Bool
takes_place entries s = is_definition s.body && (is_full s.body || not (is_some (held_at entries s.name)))

-- What is known of the modules

pub record AreLinkable (ms : List AModule) : Type 0 where
  pub count : length ms ≤ 2 ^ 32
  pub small : All (λ m. length m.symbols < 2 ^ 32) ms
  pub distinct : All (λ m. AllPairs AreApart m.symbols) ms
  pub sized : (d : Def) (s : Symbol) → symbol_at ms d ≡ Some s → HasSizeInRange s.body

-- What a step on one place finds

-- the first of the seen places that breaks the rule with this one
pub record FindsConflict (rule : Rule) (ms : List AModule) (seen : List Def) (late_place : Def) (name : List ℕ) (i j : ℕ) : Type 0 where
  pub late : Symbol
  pub early : Def
  pub stands : symbol_at ms late_place ≡ Some late
  pub found : find (meets rule ms late) seen ≡ Some early
  pub named : late.name ≡ name
  pub early_module : early.module ≡ i
  pub late_module : late_place.module ≡ j

-- the refusal of two records that break the rule
abbrev pub conflict_fault : Rule → List ℕ → Def → Def → LinkFault
conflict_fault Once name early late = Twice name early.module late.module
conflict_fault Agreement name early late = Disagree name early.module late.module

abbrev pub StepFault : Rule → List AModule → List Def → Def → LinkFault → Type 0
StepFault Once ms seen d (Twice name i j) = FindsConflict Once ms seen d name i j
StepFault Agreement ms seen d (Disagree name i j) = FindsConflict Agreement ms seen d name i j
StepFault rule ms seen d Memory = Unit {0}
StepFault rule ms seen d fault = ⊥

-- a step on a definition's place: no seen place breaks the rule with it where the map's place does
pub record Defining (ms : List AModule) (seen : List Def) (d : Def) (old new : List (List ℕ × Def)) : Type 0 where
  pub symbol : Symbol
  pub stands : symbol_at ms d ≡ Some symbol
  pub clear : held_breaks Once ms old symbol ≡ true → find (meets Once ms symbol) seen ≡ None
  pub noted : new ≡ note_entry (takes_place old symbol) old symbol.name d

abbrev pub has_size : Symbol → Bool
has_size s = is_some (size_of s.body)

-- the first record of its name that is wanted is noted
abbrev pub note_first : Bool → List (List ℕ × Def) → List ℕ → Def → List (List ℕ × Def)
note_first wanted entries name d = note_entry (wanted && not (is_some (held_at entries name))) entries name d

-- a step on a record's place: no seen place disagrees with it where a noted one does not
pub record Comparing (ms : List AModule) (seen : List Def) (d : Def) (signed sized signed_now sized_now : List (List ℕ × Def)) : Type 0 where
  pub symbol : Symbol
  pub stands : symbol_at ms d ≡ Some symbol
  pub clear : held_breaks Agreement ms signed symbol || held_breaks Agreement ms sized symbol ≡ true → find (meets Agreement ms symbol) seen ≡ None
  pub signed_noted : signed_now ≡ note_first (not (is_empty symbol.sig)) signed symbol.name d
  pub sized_noted : sized_now ≡ note_first (has_size symbol) sized symbol.name d

-- The refusals of each pass

abbrev pub IsTwice : List AModule → LinkFault → Type 0
IsTwice ms (Twice name i j) = IsFirstConflict Once ms name i j
IsTwice ms Memory = Unit {0}
IsTwice ms _ = ⊥

abbrev pub IsMainFault : List AModule → LinkFault → Type 0
IsMainFault ms NoMain = IsUndefined ms main_name
IsMainFault ms (MainType i) = HasWrongMain ms i
IsMainFault ms Memory = Unit {0}
IsMainFault ms _ = ⊥

abbrev pub IsUseFault : List AModule → LinkFault → Type 0
IsUseFault ms (Unresolved name i) = IsFirstUnresolved ms name i
IsUseFault ms Memory = Unit {0}
IsUseFault ms _ = ⊥

abbrev pub IsDisagreement : List AModule → LinkFault → Type 0
IsDisagreement ms (Disagree name i j) = IsFirstConflict Agreement ms name i j
IsDisagreement ms Memory = Unit {0}
IsDisagreement ms _ = ⊥
