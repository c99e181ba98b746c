-- What the parts of the compiler count, write and look up.
use Rattle.std.specs.Prelude.{◌≡◌, ◌≤◌, ℕ, ◌+◌, ◌*◌, Bool, ◌||◌, if◌then◌else◌, List, [], ◌∷◌, ◌++◌, length, map, flat_map, Option, Some, None, is_some, unwrap_or, bytes_eq}
use Rattle.std.specs.Map.{lookup}
use Rattle.indexmap.specs.IndexMap.{insert_entry}
use Rattle.p9_first.specs.Form.{same_name}
use Rattle.p9_r3k.specs.declared.inst.Inst.{Inst}
use Rattle.p9_r3k.specs.Table.{Fits}
use Rattle.p9_form.specs.declared.file.Operand.{Operand}
use Rattle.p9_form.specs.declared.file.Operand.TheVariants as operand
use Rattle.p9_form.specs.declared.file.Statement.{Statement}
use Rattle.p9_form.specs.declared.file.Statement.TheVariants.{Assign, Write, Exits}
use Rattle.p9_form.specs.declared.file.Declaration.{Declaration}
use Rattle.p9_form.specs.declared.file.File.{File}
use Rattle.p9_form.specs.Sharing.{initial_in, tentative_in, declarations}
use Rattle.p9_straight.specs.Layout.{Datum, Variable, Text, datum_bytes, text_in, or_else, variable_in, common_in, address_of, init_bytes, end_at, bss_size}
use Rattle.p9_straight.specs.Code.{code_bytes, statement_code}

-- Instructions

-- how many load an operand
abbrev pub load_count : Operand → ℕ
load_count (operand.Variable x) = 4
load_count (operand.Number value) = 2

-- how many an assignment has
abbrev pub assign_count : Operand → Option Operand → ℕ
assign_count left None = load_count left + 3
assign_count left (Some right) = load_count left + (load_count right + 4)

-- how many a statement has
abbrev pub statement_count : Statement → ℕ
statement_count (Assign x left right) = assign_count left right
statement_count (Write text count) = load_count count + 8
statement_count (Exits None) = 3
statement_count (Exits (Some text)) = 5

-- how many statements have
abbrev pub statements_count : List Statement → ℕ
statements_count [] = 0
statements_count (s ∷ ss) = statement_count s + statements_count ss

-- the bytes of instructions
unfoldable pub emitted : List Inst → List ℕ
emitted code = code_bytes code

abbrev pub AreFitting : List Inst → Type 0
AreFitting [] = Unit {0}
AreFitting (i ∷ code) = Fits i × AreFitting code

-- an assignment, and a `write` of the text at this address
abbrev pub assign_code : (place : List ℕ → ℕ) → (x : List ℕ) → (left : Operand) → Option Operand → List Inst
assign_code place x left right = statement_code place 0 (Assign x left right)

abbrev pub write_code : (place : List ℕ → ℕ) → (at : ℕ) → (count : Operand) → List Inst
write_code place at count = statement_code place at (Write [] count)

-- Places

abbrev pub Entries : Type 0
Entries = List (List ℕ × ℕ)

abbrev pub held : Entries → List ℕ → Option ℕ
held entries name = lookup (bytes_eq name) entries

-- the place of a name, or 0
abbrev pub place_at : Entries → List ℕ → ℕ
place_at entries name = unwrap_or (held entries name) 0

-- the name's first place stays
abbrev pub noted : Entries → List ℕ → (at : ℕ) → Entries
noted entries name at = if is_some (held entries name) then entries else insert_entry bytes_eq entries name at

-- Data with first values

-- where a name is found: in the map, or among data that begin at this address
abbrev pub found : Entries → (at : ℕ) → List Datum → List ℕ → Option ℕ
found entries at ds name = or_else (held entries name) (variable_in at ds name)

-- from a map and bytes with these data to come, to a map and bytes with those to come
pub record Lays (start : ℕ) (old : Entries) (before : List ℕ) (all : List Datum) (new : Entries) (after : List ℕ) (rest : List Datum) : Type 0 where
  pub bytes : after ++ flat_map datum_bytes rest ≡ before ++ flat_map datum_bytes all
  pub places : (name : List ℕ) → found new (start + length after) rest name ≡ found old (start + length before) all name

-- the same, whatever comes behind all of them
pub record LaysTo (start : ℕ) (old : Entries) (before : List ℕ) (all : List Datum) (new : Entries) (after : List ℕ) (rest : List Datum) : Type 0 where
  pub with_more : (more : List Datum) → Lays start old before (all ++ more) new after (rest ++ more)

abbrev pub variable_data : List Declaration → List Datum
variable_data ds = map Variable (flat_map initial_in ds)

abbrev pub text_data : List Statement → List Datum
text_data ss = map Text (flat_map text_in ss)

-- Data without first values

-- the names that aren't taken, each once
abbrev pub fresh : (taken : List ℕ → Bool) → List (List ℕ) → List (List ℕ)
fresh taken [] = []
fresh taken (x ∷ xs) = if taken x then fresh taken xs else x ∷ fresh (λ y. same_name y x || taken y) xs

abbrev pub is_held : Entries → List ℕ → Bool
is_held entries name = is_some (held entries name)

-- where a name is found: in the map, or among the words from this address on, one for each fresh name
abbrev pub found_after : Entries → (at : ℕ) → List (List ℕ) → List ℕ → Option ℕ
found_after entries at names name = or_else (held entries name) (common_in at (fresh (is_held entries) names) name)

-- from a map and an address with these names to come, to a map and an address with those to come
pub record Adds (old : Entries) (at : ℕ) (all : List (List ℕ)) (new : Entries) (next : ℕ) (rest : List (List ℕ)) : Type 0 where
  pub end : next + 4 * length (fresh (is_held new) rest) ≡ at + 4 * length (fresh (is_held old) all)
  pub places : (name : List ℕ) → found_after new next rest name ≡ found_after old at all name

-- the same, whatever comes behind all of them
pub record AddsTo (old : Entries) (at : ℕ) (all : List (List ℕ)) (new : Entries) (next : ℕ) (rest : List (List ℕ)) : Type 0 where
  pub with_more : (more : List (List ℕ)) → Adds old at (all ++ more) new next (rest ++ more)

abbrev pub commons_in : File → List (List ℕ)
commons_in file = flat_map tentative_in (declarations file)

-- What is laid out

-- the places, the bytes, the address of the end's text and the number of bytes behind, of files whose data begin here
pub record IsLaid (start : ℕ) (files : List File) (places : Entries) (init : List ℕ) (end bss : ℕ) : Type 0 where
  pub place : (name : List ℕ) → place_at places name ≡ unwrap_or (address_of start files name) 0
  pub bytes : init ≡ init_bytes files
  pub ends : end ≡ end_at start files
  pub behind : bss ≡ bss_size files
  pub small : length init + bss ≤ 16777216
