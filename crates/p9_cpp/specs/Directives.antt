-- Directives, by the tokens behind their `#`.
use Rattle.std.specs.Prelude.{ℕ, ◌-◌, ◌==◌, Bool, true, false, not, ◌&&◌, List, [], ◌∷◌, take, drop, Option, Some, None, if◌then◌else◌, bytes_eq, codes}
use Rattle.p9_lex.specs.declared.token.Token.{Token}
use Rattle.p9_lex.specs.declared.token.TokenKind.{TokenKind}
use Rattle.p9_lex.specs.declared.token.TokenKind.TheVariants as kinds
use Rattle.p9_cpp.specs.declared.brackets.Bracket.{Bracket}
use Rattle.p9_cpp.specs.declared.brackets.Bracket.TheVariants as brackets
use Rattle.p9_cpp.specs.declared.directive.Word.{Word}
use Rattle.p9_cpp.specs.declared.directive.Word.TheVariants as words
use Rattle.p9_cpp.specs.declared.directive.Directive.{Directive}
use Rattle.p9_cpp.specs.declared.directive.Directive.TheVariants.{Include, Define, Undef, IfDefined, Else, EndIf, Mark, Nothing, Bad}
use Rattle.p9_cpp.specs.declared.directive.Head.{Head}
use Rattle.p9_cpp.specs.declared.directive.Head.TheVariants as heads
use Rattle.p9_cpp.specs.declared.directive.Listed.{Listed}
use Rattle.p9_cpp.specs.Lists.{is_empty}
use Rattle.p9_cpp.specs.Macros.{is_among, word_in, bracket_of}

-- The word

abbrev pub word_of : (name : List ℕ) → Word
word_of name =
    if bytes_eq name (codes "include") then words.Include
    else (if bytes_eq name (codes "define") then words.Define
    else (if bytes_eq name (codes "undef") then words.Undef
    else (if bytes_eq name (codes "ifdef") then words.IfDefined
    else (if bytes_eq name (codes "ifndef") then words.IfNotDefined
    else (if bytes_eq name (codes "if") then words.If
    else (if bytes_eq name (codes "else") then words.Else
    else (if bytes_eq name (codes "endif") then words.EndIf
    else (if bytes_eq name (codes "line") then words.Line
    else (if bytes_eq name (codes "pragma") then words.Pragma
    else words.Other)))))))))

-- the name, where nothing else stands there
abbrev pub only_word : List Token → Option (List ℕ)
only_word [] = None
only_word (t ∷ ts) = if is_empty ts then word_in t.kind else None

-- `#define`: a name, a `(` joined to it with parameters, and a body

abbrev pub are_distinct : List (List ℕ) → Bool
are_distinct [] = true
are_distinct (name ∷ names) = if is_among names name then false else are_distinct names

abbrev pub with_param : (name : List ℕ) → Option Listed → Option Listed
with_param name None = None
with_param name (Some l) = Some (record { params = name ∷ l.params; body = l.body })

-- a parameter, by the mark behind it
abbrev pub by_param : Option (List ℕ) → Bracket → (more : Option Listed) → (after : List Token) → Option Listed
by_param None bracket more after = None
by_param (Some name) brackets.Comma more after = with_param name more
by_param (Some name) brackets.Close more after = Some (record { params = name ∷ []; body = after })
by_param (Some name) brackets.Open more after = None
by_param (Some name) brackets.Other more after = None

-- parameters from the first on, up to their `)`
abbrev pub listed_from : List Token → Option Listed
listed_from [] = None
listed_from (t ∷ []) = None
listed_from (t ∷ (u ∷ ts)) = by_param (word_in t.kind) (bracket_of u.kind) (listed_from ts) ts

abbrev pub listed_by : Bracket → List Token → List Token → Option Listed
listed_by brackets.Close after all = Some (record { params = []; body = after })
listed_by brackets.Open after all = listed_from all
listed_by brackets.Comma after all = listed_from all
listed_by brackets.Other after all = listed_from all

-- parameters behind their `(`, maybe none
abbrev pub listed : List Token → Option Listed
listed [] = None
listed (t ∷ ts) = listed_by (bracket_of t.kind) ts (t ∷ ts)

abbrev pub is_open : Bracket → Bool
is_open brackets.Open = true
is_open brackets.Close = false
is_open brackets.Comma = false
is_open brackets.Other = false

abbrev pub opens : Token → Bool
opens t = if t.joined then is_open (bracket_of t.kind) else false

abbrev pub listed_definition : (name : List ℕ) → Option Listed → Directive
listed_definition name None = Bad
listed_definition name (Some l) =
    if are_distinct l.params then Define name (record { params = Some l.params; body = l.body }) else Bad

abbrev pub plain_definition : (name : List ℕ) → (body : List Token) → Directive
plain_definition name body = Define name (record { params = None; body = body })

abbrev pub defined_name : Option (List ℕ) → List Token → Directive
defined_name None ts = Bad
defined_name (Some name) [] = plain_definition name []
defined_name (Some name) (t ∷ ts) = if opens t then listed_definition name (listed ts) else plain_definition name (t ∷ ts)

abbrev pub defined : List Token → Directive
defined [] = Bad
defined (t ∷ ts) = defined_name (word_in t.kind) ts

-- `#include`: a text, or joined tokens between `<` and `>`, which are marks 22 and 23

abbrev pub is_greater : TokenKind → Bool
is_greater (kinds.Word name) = false
is_greater (kinds.Number value unsigned long) = false
is_greater (kinds.Char value) = false
is_greater (kinds.Text bytes) = false
is_greater (kinds.Mark m) = m == 23
is_greater kinds.NewLine = false
is_greater kinds.End = false

-- the place of the `>`, with which the line ends
abbrev pub angled_end : List Token → Option ℕ
angled_end [] = None
angled_end (t ∷ ts) =
    if t.joined then (if is_greater t.kind then (if is_empty ts then Some t.start else None) else angled_end ts)
    else None

-- the bytes of a file from one place to another
abbrev pub between : (bytes : List ℕ) (start end : ℕ) → List ℕ
between bytes start end = take (end - start) (drop start bytes)

abbrev pub inclusion : (angled : Bool) (name : List ℕ) → Directive
inclusion angled name = if is_empty name then Bad else Include angled name

abbrev pub angled_inclusion : (bytes : List ℕ) (start : ℕ) → Option ℕ → Directive
angled_inclusion bytes start None = Bad
angled_inclusion bytes start (Some end) = inclusion true (between bytes start end)

abbrev pub included_by : (bytes : List ℕ) → TokenKind → (behind : ℕ) → List Token → Directive
included_by bytes (kinds.Word name) behind ts = Bad
included_by bytes (kinds.Number value unsigned long) behind ts = Bad
included_by bytes (kinds.Char value) behind ts = Bad
included_by bytes (kinds.Text name) behind ts = if is_empty ts then inclusion false name else Bad
included_by bytes (kinds.Mark m) behind ts = if m == 22 then angled_inclusion bytes behind (angled_end ts) else Bad
included_by bytes kinds.NewLine behind ts = Bad
included_by bytes kinds.End behind ts = Bad

abbrev pub included : (bytes : List ℕ) → List Token → Directive
included bytes [] = Bad
included bytes (t ∷ ts) = included_by bytes t.kind t.end ts

-- `#line`, which changes nothing

abbrev pub is_number : TokenKind → Bool
is_number (kinds.Word name) = false
is_number (kinds.Number value unsigned long) = true
is_number (kinds.Char value) = false
is_number (kinds.Text bytes) = false
is_number (kinds.Mark m) = false
is_number kinds.NewLine = false
is_number kinds.End = false

abbrev pub is_text : TokenKind → Bool
is_text (kinds.Word name) = false
is_text (kinds.Number value unsigned long) = false
is_text (kinds.Char value) = false
is_text (kinds.Text bytes) = true
is_text (kinds.Mark m) = false
is_text kinds.NewLine = false
is_text kinds.End = false

abbrev pub nothing_if : Bool → Directive
nothing_if good = if good then Nothing else Bad

-- a number, and at most a text behind it
abbrev pub line_directive : List Token → Directive
line_directive [] = Bad
line_directive (t ∷ []) = nothing_if (is_number t.kind)
line_directive (t ∷ (u ∷ [])) = nothing_if (is_number t.kind && is_text u.kind)
line_directive (t ∷ (u ∷ (v ∷ ts))) = Bad

-- `#pragma`, of which only `incomplete` and one name counts

abbrev pub is_incomplete : Option (List ℕ) → Bool
is_incomplete None = false
is_incomplete (Some name) = bytes_eq name (codes "incomplete")

abbrev pub mark_of : Option (List ℕ) → Directive
mark_of None = Nothing
mark_of (Some name) = Mark name

abbrev pub pragma : List Token → Directive
pragma [] = Nothing
pragma (t ∷ ts) = if is_incomplete (word_in t.kind) then mark_of (only_word ts) else Nothing

-- The directive

abbrev pub undefinition : Option (List ℕ) → Directive
undefinition None = Bad
undefinition (Some name) = Undef name

abbrev pub condition : (wanted : Bool) → Option (List ℕ) → Directive
condition wanted None = Bad
condition wanted (Some name) = IfDefined name wanted

abbrev pub by_word : (bytes : List ℕ) → Word → List Token → Directive
by_word bytes words.Include ts = included bytes ts
by_word bytes words.Define ts = defined ts
by_word bytes words.Undef ts = undefinition (only_word ts)
by_word bytes words.IfDefined ts = condition true (only_word ts)
by_word bytes words.IfNotDefined ts = condition false (only_word ts)
by_word bytes words.If ts = Bad
by_word bytes words.Else ts = Else (is_empty ts)
by_word bytes words.EndIf ts = EndIf (is_empty ts)
by_word bytes words.Line ts = line_directive ts
by_word bytes words.Pragma ts = pragma ts
by_word bytes words.Other ts = Bad

abbrev pub by_name : (bytes : List ℕ) → Option (List ℕ) → List Token → Directive
by_name bytes None ts = Bad
by_name bytes (Some name) ts = by_word bytes (word_of name) ts

-- the directive of the tokens behind a `#`, in a file of these bytes
unfoldable pub directive_of : (bytes : List ℕ) → List Token → Directive
directive_of bytes [] = Bad
directive_of bytes (t ∷ ts) = by_name bytes (word_in t.kind) ts

-- In a group that is passed over

abbrev pub head_by : Word → (alone : Bool) → Head
head_by words.Include alone = heads.Nothing
head_by words.Define alone = heads.Nothing
head_by words.Undef alone = heads.Nothing
head_by words.IfDefined alone = heads.Opens
head_by words.IfNotDefined alone = heads.Opens
head_by words.If alone = heads.Opens
head_by words.Else alone = heads.Else alone
head_by words.EndIf alone = heads.EndIf alone
head_by words.Line alone = heads.Nothing
head_by words.Pragma alone = heads.Nothing
head_by words.Other alone = heads.Nothing

abbrev pub head_by_name : Option (List ℕ) → (alone : Bool) → Head
head_by_name None alone = heads.Nothing
head_by_name (Some name) alone = head_by (word_of name) alone

-- only `#if`, `#ifdef`, `#ifndef`, `#else` and `#endif` count there, and the first three open
unfoldable pub head_of : List Token → Head
head_of [] = heads.Nothing
head_of (t ∷ ts) = head_by_name (word_in t.kind) (is_empty ts)
