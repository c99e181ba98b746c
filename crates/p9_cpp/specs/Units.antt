-- What the files of a unit give, in order.
use Rattle.std.specs.Prelude.{ℕ, zero, suc, ◌+◌, ◌==◌, Bool, true, false, not, List, [], ◌∷◌, ◌++◌, length, map, Option, Some, None, is_some, Result, Ok, Err, if◌then◌else◌, bytes_eq}
use Rattle.std.specs.Option.{option_to_list}
use Rattle.indexmap.specs.IndexMap.{insert_entry}
use Rattle.p9_lex.specs.declared.token.Dialect.TheVariants.{C}
use Rattle.p9_lex.specs.declared.token.Token.{Token}
use Rattle.p9_lex.specs.declared.token.LexFault.{LexFault}
use Rattle.p9_lex.specs.declared.token.LexFault.TheVariants as lex
use Rattle.p9_lex.specs.Tokens.{lexed}
use Rattle.p9_cpp.specs.declared.macros.Macro.{Macro}
use Rattle.p9_cpp.specs.declared.directive.Directive.{Directive}
use Rattle.p9_cpp.specs.declared.directive.Directive.TheVariants.{Include, Define, Undef, IfDefined, Else, EndIf, Mark, Nothing, Bad}
use Rattle.p9_cpp.specs.declared.directive.Head.{Head}
use Rattle.p9_cpp.specs.declared.directive.Head.TheVariants as heads
use Rattle.p9_cpp.specs.declared.groups.Group.{Group}
use Rattle.p9_cpp.specs.declared.groups.Group.TheVariants.{Open, Nested}
use Rattle.p9_cpp.specs.declared.items.Item.{Item}
use Rattle.p9_cpp.specs.declared.fault.CppFault.{CppFault}
use Rattle.p9_cpp.specs.declared.fault.CppFault.TheVariants as fault
use Rattle.p9_cpp.specs.declared.source.Source.{Source}
use Rattle.p9_cpp.specs.Macros.{Table, macro_of}
use Rattle.p9_cpp.specs.Expansion.{expansion, Limited, within, wrong, passed, limited}
use Rattle.p9_cpp.specs.Items.{items_of, end_of}
use Rattle.p9_cpp.specs.Directives.{directive_of, head_of}
use Rattle.p9_cpp.specs.Groups.{is_live, turned, closed}
use Rattle.p9_cpp.specs.Headers.{header}

-- What a unit has come to: its macros; the names of its files, each once; the tags that are marked; the
-- tokens so far; and how many may still be counted.
pub record State : Type 0 where
  pub table : Table
  pub sources : List (List ℕ)
  pub marks : List (List ℕ)
  pub out : List Token
  pub room : ℕ

-- A run ends with a state; is stopped by a fault; or reads a file, and goes on by its bytes, or by
-- none where it isn't there.
pub data Run : Type 0 where
  ends : State → Run
  stops : CppFault → Run
  reads : (name : List ℕ) → (Option (List ℕ) → Run) → Run

-- one run, and then the one that goes on from its state
abbrev pub and_run : Run → (State → Run) → Run
and_run (ends s) next = next s
and_run (stops e) next = stops e
and_run (reads name on) next = reads name (λ there. and_run (on there) next)

abbrev pub max_tokens : ℕ
max_tokens = 262144

abbrev pub max_depth : ℕ
max_depth = 16

-- Text

-- a token with the number of its file
abbrev pub in_file : (number : ℕ) → Token → Token
in_file number t = record t { file = number }

-- a list of text that is expanded, and what follows
abbrev pub by_text : Limited → Source → State → (State → Run) → Run
by_text (within out room) source s rest = rest (record s { out = s.out ++ map (in_file source.number) out; room = room })
by_text (wrong name line) source s rest = stops (fault.MacroArgs name source.name line)
by_text (passed line) source s rest = stops (fault.TooManyTokens max_tokens source.name line)

-- Directives

-- a name that is defined as a macro or, by none, is no macro any more
abbrev pub defining : (name : List ℕ) → Option Macro → State → State
defining name definition s = record s { table = insert_entry bytes_eq s.table name definition }

-- a group that is opened
abbrev pub condition_group : (wanted : Bool) → Option Macro → Group
condition_group wanted m = Open (if is_some m then wanted else not wanted) false

abbrev pub bad : Source → (line : ℕ) → Run
bad source line = stops (fault.BadDirective source.name line)

-- the groups behind an `#else` or `#endif`, and what follows
abbrev pub by_groups : Source → (line : ℕ) → Option (List Group) → State → (List Group → State → Run) → Run
by_groups source line None s rest = bad source line
by_groups source line (Some groups) s rest = rest groups s

-- where files are included: by brackets or not, the name, the file that includes, and the line
abbrev pub Including : Type 0
Including = (angled : Bool) (name from : List ℕ) (line : ℕ) → State → Run

-- a directive that counts, and what follows
abbrev pub by_directive : Including → Source → (line : ℕ) → Directive → List Group → State → (List Group → State → Run) → Run
by_directive include source line (Include angled name) groups s rest = and_run (include angled name source.name line s) (rest groups)
by_directive include source line (Define name m) groups s rest = rest groups (defining name (Some m) s)
by_directive include source line (Undef name) groups s rest = rest groups (defining name None s)
by_directive include source line (IfDefined name wanted) groups s rest = rest (condition_group wanted (macro_of s.table name) ∷ groups) s
by_directive include source line (Else alone) groups s rest = by_groups source line (turned alone groups) s rest
by_directive include source line (EndIf alone) groups s rest = by_groups source line (closed alone groups) s rest
by_directive include source line (Mark name) groups s rest = rest groups (record s { marks = s.marks ++ name ∷ [] })
by_directive include source line Nothing groups s rest = rest groups s
by_directive include source line Bad groups s rest = bad source line

-- a directive in a group that is passed over, and what follows
abbrev pub by_head : Source → (line : ℕ) → Head → List Group → State → (List Group → State → Run) → Run
by_head source line heads.Opens groups s rest = rest (Nested ∷ groups) s
by_head source line (heads.Else alone) groups s rest = by_groups source line (turned alone groups) s rest
by_head source line (heads.EndIf alone) groups s rest = by_groups source line (closed alone groups) s rest
by_head source line heads.Nothing groups s rest = rest groups s

-- Items

-- text, or a directive in this line, in a group that counts or is passed over
abbrev pub by_item : Including → Source → (live : Bool) → Option ℕ → List Token → List Group → State → (List Group → State → Run) → Run
by_item include source true None ts groups s rest = by_text (limited s.room (expansion s.table [] false ts)) source s (rest groups)
by_item include source false None ts groups s rest = rest groups s
by_item include source true (Some line) ts groups s rest = by_directive include source line (directive_of source.bytes ts) groups s rest
by_item include source false (Some line) ts groups s rest = by_head source line (head_of ts) groups s rest

-- each file closes what it opens
abbrev pub at_end : Source → (last : ℕ) → List Group → State → Run
at_end source last [] s = ends s
at_end source last (g ∷ gs) s = bad source last

abbrev pub items_run : Including → Source → (last : ℕ) → List Item → List Group → State → Run
items_run include source last [] groups s = at_end source last groups s
items_run include source last (item ∷ items) groups s =
    by_item include source (is_live groups) item.directive item.tokens groups s (items_run include source last items)

-- Files

abbrev pub lex_fault : (file : List ℕ) → LexFault → CppFault
lex_fault file (lex.BadByte at line) = fault.BadByte at file line
lex_fault file (lex.OpenComment at line) = fault.OpenComment at file line
lex_fault file (lex.OpenText at line) = fault.OpenText at file line
lex_fault file (lex.WideNumber at line) = fault.WideNumber at file line
lex_fault file lex.Memory = fault.Memory

-- the line of a file's end
abbrev pub last_line : Option Token → ℕ
last_line None = 0
last_line (Some t) = t.line

-- a file is read whole before its first directive
abbrev pub by_tokens : Including → Source → Result (List Token) LexFault → State → Run
by_tokens include source (Ok ts) s = items_run include source (last_line (end_of ts)) (items_of ts) [] s
by_tokens include source (Err e) s = stops (lex_fault source.name e)

-- the place of a name in a list whose places count from `at`, or that behind its end
abbrev pub place_from : (at : ℕ) (name : List ℕ) → List (List ℕ) → ℕ
place_from at name [] = at
place_from at name (n ∷ ns) = if bytes_eq name n then at else place_from (at + 1) name ns

abbrev pub with_source : (name : List ℕ) → List (List ℕ) → List (List ℕ)
with_source name sources = if place_from 0 name sources == length sources then sources ++ name ∷ [] else sources

-- a file of these bytes is begun
abbrev pub begun : (Source → State → Run) → (name bytes : List ℕ) → State → Run
begun run name bytes s =
    run (record { name = name; number = place_from 0 name s.sources; bytes = bytes }) (record s { sources = with_source name s.sources })

abbrev pub by_file : (Source → State → Run) → (name from : List ℕ) (line : ℕ) → State → Option (List ℕ) → Run
by_file run name from line s (Some bytes) = begun run name bytes s
by_file run name from line s None = stops (fault.NoFile name from line)

abbrev pub by_header : (Source → State → Run) → (name from : List ℕ) (line : ℕ) → State → Option (List ℕ) → Run
by_header run name from line s (Some text) = begun run name text s
by_header run name from line s None = reads name (by_file run name from line s)

-- a file that is included: a built-in header, or one that is read
abbrev pub included : (Source → State → Run) → Including
included run angled name from line s = by_header run name from line s (header angled name)

abbrev pub too_deep : Including
too_deep angled name from line s = stops (fault.IncludeDepth max_depth from line)

-- a file, inside which so many others may nest
unfoldable pub source_run : (depth : ℕ) → Source → State → Run
source_run zero source s = by_tokens too_deep source (lexed C source.bytes) s
source_run (suc d) source s = by_tokens (included (source_run d)) source (lexed C source.bytes) s

-- what an include does in a file inside which so many others may nest
abbrev pub including : (depth : ℕ) → Including
including zero = too_deep
including (suc d) = included (source_run d)

-- The unit

abbrev pub end_in : Result (List Token) LexFault → Option Token
end_in (Ok ts) = end_of ts
end_in (Err e) = None

-- the end of the named file
abbrev pub with_end : Source → State → State
with_end source s = record s { out = s.out ++ map (in_file source.number) (option_to_list (end_in (lexed C source.bytes))) }

abbrev pub main_run : Source → State → Run
main_run source s = and_run (source_run max_depth source s) (λ t. ends (with_end source t))

abbrev pub no_state : State
no_state = record { table = []; sources = []; marks = []; out = []; room = max_tokens }

abbrev pub by_main : (name : List ℕ) → Option (List ℕ) → Run
by_main name (Some bytes) = begun main_run name bytes no_state
by_main name None = stops (fault.Absent name)

-- the unit of a file
unfoldable pub unit : (name : List ℕ) → Run
unit name = reads name (by_main name)
