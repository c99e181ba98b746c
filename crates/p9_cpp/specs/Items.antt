-- How a file's tokens are cut into lists of text and directives.
use Rattle.std.specs.Prelude.{ℕ, ◌==◌, Bool, List, [], ◌∷◌, ◌++◌, Option, Some, None, if◌then◌else◌}
use Rattle.p9_lex.specs.declared.token.Token.{Token}
use Rattle.p9_lex.specs.declared.token.TokenKind.{TokenKind}
use Rattle.p9_lex.specs.declared.token.TokenKind.TheVariants as kinds
use Rattle.p9_cpp.specs.declared.items.Item.{Item}
use Rattle.p9_cpp.specs.declared.items.Start.{Start}
use Rattle.p9_cpp.specs.declared.items.Start.TheVariants as starts

abbrev pub line_start : (first : Bool) → Start
line_start first = if first then starts.Line else starts.Nothing

-- mark 45 is `#`
abbrev pub mark_start : (first : Bool) (mark : ℕ) → Start
mark_start first mark = if first then (if mark == 45 then starts.Directive else starts.Line) else starts.Nothing

abbrev pub start_of_kind : (first : Bool) → TokenKind → Start
start_of_kind first (kinds.Word name) = line_start first
start_of_kind first (kinds.Number value unsigned long) = line_start first
start_of_kind first (kinds.Char value) = line_start first
start_of_kind first (kinds.Text bytes) = line_start first
start_of_kind first (kinds.Mark m) = mark_start first m
start_of_kind first kinds.NewLine = line_start first
start_of_kind first kinds.End = starts.End

abbrev pub start_of : Token → Start
start_of t = start_of_kind t.first t.kind

-- What a file is from a place on: the tokens up to the next directive, and the items behind them; and
-- the tokens up to the end of the line, and the items behind those. A directive ends with its line,
-- and a list of text runs up to the next directive.
pub record Cut : Type 0 where
  pub text : List Token
  pub after_text : List Item
  pub line : List Token
  pub after_line : List Item

abbrev pub text_item : List Token → Item
text_item ts = record { directive = None; tokens = ts }

abbrev pub directive_item : (line : ℕ) → List Token → Item
directive_item line ts = record { directive = Some line; tokens = ts }

-- a token and what follows it
abbrev pub by_start : Start → Token → Cut → Cut
by_start starts.End t c = record { text = []; after_text = []; line = []; after_line = [] }
by_start starts.Directive t c =
    record { text = []; after_text = directive_item t.line c.line ∷ c.after_line; line = []; after_line = directive_item t.line c.line ∷ c.after_line }
by_start starts.Line t c =
    record { text = t ∷ c.text; after_text = c.after_text; line = []; after_line = text_item (t ∷ c.text) ∷ c.after_text }
by_start starts.Nothing t c =
    record { text = t ∷ c.text; after_text = c.after_text; line = t ∷ c.line; after_line = c.after_line }

abbrev pub cut : List Token → Cut
cut [] = record { text = []; after_text = []; line = []; after_line = [] }
cut (t ∷ ts) = by_start (start_of t) t (cut ts)

-- a file begins with text, maybe none
abbrev pub items_of : List Token → List Item
items_of ts = text_item (cut ts).text ∷ (cut ts).after_text

abbrev pub end_by : Start → Token → Option Token → Option Token
end_by starts.End t later = Some t
end_by starts.Directive t later = later
end_by starts.Line t later = later
end_by starts.Nothing t later = later

-- the token of the file's end
abbrev pub end_of : List Token → Option Token
end_of [] = None
end_of (t ∷ ts) = end_by (start_of t) t (end_of ts)

abbrev pub finished_by : Option ℕ → List Token → Cut → List Item
finished_by None ts c = text_item (ts ++ c.text) ∷ c.after_text
finished_by (Some line) ts c = directive_item line (ts ++ c.line) ∷ c.after_line

-- an item of which some tokens are read, and the items behind it
abbrev pub finished : Item → Cut → List Item
finished item c = finished_by item.directive item.tokens c
