-- The tokens of a file as lexemes, and its lines: each statement is proper.
use Rattle.std.proofs.Common.{◌≡◌, ℕ, suc, ◌+◌, ◌-◌, ◌*◌, ◌==◌, ◌≤◌, leb, Bool, true, false, ◌&&◌, cond, List, [], ◌∷◌, map, Option, Some, None, IfSome, unwrap_or, slice_get, bytes_eq, refl, sym, ap, ◌∙◌, subst, arith}
use Rattle.std.specs.Map.{lookup}
use Rattle.std.specs.Option.{option_or}
use Rattle.std.specs.List.{enumerate_from}
use Rattle.std.specs.Cmp.Lexicographic.{bytes_decides}
use Rattle.std.proofs.lemmas.Bool.Decides.{nat_tests}
use Rattle.p9_abs.specs.Validity.{IsName}
use Rattle.p9_lex.specs.declared.token.Token.{Token}
use Rattle.p9_lex.specs.declared.token.TokenKind.{TokenKind}
use Rattle.p9_lex.specs.declared.token.TokenKind.TheVariants as kinds
use Rattle.p9_statement.specs.declared.words.Sense.{Sense}
use Rattle.p9_statement.specs.declared.words.Sense.TheVariants as senses
use Rattle.p9_statement.specs.declared.lexemes.Lexeme.{Lexeme}
use Rattle.p9_statement.specs.declared.lexemes.Lexeme.TheVariants as lexemes
use Rattle.p9_statement.specs.Words.{move_words, sum_words, bit_words, product_words, branch_words, jump_words, directive_words, place_words, found, is_digit, numbered, register_word, sense_of}
use Rattle.p9_statement.specs.Lexemes.{mark_lexeme, is_signature, lexeme_of}
use Rattle.p9_statement.specs.Statements.{line_of}
use Rattle.p9_rows.specs.declared.rows.Place.{Place}
use Rattle.p9_rows.specs.declared.rows.Row.{Row}
use Rattle.p9_rows.specs.Rows.{spells, is_word, first_by, lexeme_by, place_in, lexemes_of, is_line_end, in_first, lines_of, after_content, rows_from, rows_of, before_all}
use Rattle.p9_asm.specs.Modules.{text_by, text_in, text_at}
use Rattle.p9_asm.proofs.Options.{Each, if_or}
use Rattle.p9_asm.proofs.Places.{found_first, somewhere}
use Rattle.p9_facts.proofs.Noting.{both}
use Rattle.p9_asm.proofs.Proper.{IsNamed, IsSense, IsLexeme, IsProperLine, line_proper}

-- the names among the tokens are proper
abbrev pub HasNames : List Token → Type 0
HasNames tokens = (n : ℕ) (t : Token) (name : List ℕ) → slice_get tokens n ≡ Some t → t.kind ≡ kinds.Word name → IsName name

-- Senses

sense_step : (b : Bool) (s : Sense) (o : Option Sense) → IsSense s → IfSome o IsSense → IfSome (cond b (Some s) o) IsSense
sense_step true s o h k = h
sense_step false s o h k = k

found_sense : (test : List ℕ → Bool) (words : List (List ℕ × Sense)) → Each (λ e. IsSense e.1) words → IfSome (lookup test words) IsSense
found_sense test [] h = tt
found_sense test (e ∷ rest) h = sense_step (test e.0) e.1 (lookup test rest) h.0 (found_sense test rest h.1)

or_plain : (o : Option Sense) → IfSome o IsSense → IsSense (unwrap_or o senses.Plain)
or_plain None h = tt
or_plain (Some s) h = h

digit_sense : (b : Bool) (d : ℕ) → is_digit d ≡ b → IfSome (cond b (Some (senses.Register (d - 48))) None) IsSense
digit_sense true d e =
    let parts = both (leb 48 d) (leb d 57) e in
    let small : d ≤ 57 = grind (arith, nat_tests, parts.1) in
    omega (arith, small)
digit_sense false d e = tt

digits_sense : (b : Bool) (front : Bool) (n : ℕ) → (front && leb n 31) ≡ b → IfSome (cond b (Some (senses.Register n)) None) IsSense
digits_sense true front n e =
    let parts = both front (leb n 31) e in
    let small : n ≤ 31 = grind (arith, nat_tests, parts.1) in
    omega (arith, small)
digits_sense false front n e = tt

numbered_sense : (digits : List ℕ) → IfSome (numbered digits) IsSense
numbered_sense [] = tt
numbered_sense (d ∷ []) = digit_sense (is_digit d) d refl
numbered_sense (d ∷ e ∷ []) =
    digits_sense (leb 49 d && leb d 51 && is_digit e && leb ((d - 48) * 10 + (e - 48)) 31) (leb 49 d && leb d 51 && is_digit e) ((d - 48) * 10 + (e - 48)) refl
numbered_sense (d ∷ e ∷ f ∷ rest) = tt

register_by : (b : Bool) (digits : List ℕ) → IfSome (cond b (numbered digits) None) IsSense
register_by true digits = numbered_sense digits
register_by false digits = tt

register_sense : (name : List ℕ) → IfSome (register_word name) IsSense
register_sense [] = tt
register_sense (b ∷ digits) = register_by (b == 82) digits

sense_proper : (name : List ℕ) → IsSense (sense_of name)
unfolding sense_of
sense_proper name =
    let test : List ℕ → Bool = λ k. bytes_eq name k in
    let g0 = found_sense test move_words (tt, (tt, (tt, (tt, (tt, tt))))) in
    let g1 = found_sense test sum_words (tt, (tt, (tt, (tt, (tt, (tt, tt)))))) in
    let g2 = found_sense test bit_words (tt, (tt, (tt, (tt, (tt, (tt, (tt, tt))))))) in
    let g3 = found_sense test product_words (tt, (tt, (tt, (tt, tt)))) in
    let g4 = found_sense test branch_words (tt, (tt, (tt, (tt, (tt, (tt, tt)))))) in
    let g5 = found_sense test jump_words (tt, (tt, (tt, (tt, tt)))) in
    let g6 = found_sense test directive_words (tt, (tt, (tt, (tt, tt)))) in
    let g7 = found_sense test place_words (tt, (tt, (tt, (tt, (tt, tt))))) in
    or_plain (option_or (option_or (option_or (option_or (option_or (option_or (option_or (option_or (found name move_words) (found name sum_words)) (found name bit_words)) (found name product_words)) (found name branch_words)) (found name jump_words)) (found name directive_words)) (found name place_words)) (register_word name)) (if_or (option_or (option_or (option_or (option_or (option_or (option_or (option_or (found name move_words) (found name sum_words)) (found name bit_words)) (found name product_words)) (found name branch_words)) (found name jump_words)) (found name directive_words)) (found name place_words)) (register_word name) IsSense (if_or (option_or (option_or (option_or (option_or (option_or (option_or (found name move_words) (found name sum_words)) (found name bit_words)) (found name product_words)) (found name branch_words)) (found name jump_words)) (found name directive_words)) (found name place_words) IsSense (if_or (option_or (option_or (option_or (option_or (option_or (found name move_words) (found name sum_words)) (found name bit_words)) (found name product_words)) (found name branch_words)) (found name jump_words)) (found name directive_words) IsSense (if_or (option_or (option_or (option_or (option_or (found name move_words) (found name sum_words)) (found name bit_words)) (found name product_words)) (found name branch_words)) (found name jump_words) IsSense (if_or (option_or (option_or (option_or (found name move_words) (found name sum_words)) (found name bit_words)) (found name product_words)) (found name branch_words) IsSense (if_or (option_or (option_or (found name move_words) (found name sum_words)) (found name bit_words)) (found name product_words) IsSense (if_or (option_or (found name move_words) (found name sum_words)) (found name bit_words) IsSense (if_or (found name move_words) (found name sum_words) IsSense g0 g1) g2) g3) g4) g5) g6) g7) (register_sense name))

-- Lexemes

spells_word : (name : List ℕ) (kind : TokenKind) → spells name kind ≡ true → kind ≡ kinds.Word name
spells_word name (kinds.Word word) h = ap (λ (w : List ℕ). kinds.Word w) (sym ((bytes_decides name word).0 h))
spells_word name _ h = absurd (cc)

word_spelled : (name : List ℕ) (t : Token) → t.kind ≡ kinds.Word name → is_word name t ≡ true
word_spelled name t h = rw h ((bytes_decides name name).1 refl)

word_lexeme : (tokens : List Token) → HasNames tokens → (i : ℕ) (t : Token) (name : List ℕ) → slice_get tokens i ≡ Some t → t.kind ≡ kinds.Word name → IsLexeme tokens (lexemes.Word (unwrap_or (place_in tokens name) i) (sense_of name))
word_lexeme tokens names i t name here is =
    let s = somewhere (is_word name) tokens i t here (word_spelled name t is) in
    let f = found_first (is_word name) tokens s.place s.is in
    let word = spells_word name f.item.kind f.passes in
    let named : IsNamed tokens s.place = record { token = f.item; name = name; at = f.here; is = word; proper = names s.place f.item name f.here word; first = s.is } in
    rw s.is (named, sense_proper name)

text_lexeme_by : (tokens : List Token) (i : ℕ) (bytes : List ℕ) (b : Bool) → is_signature bytes ≡ b → text_at tokens i ≡ bytes → IsLexeme tokens (cond b (lexemes.Text i) lexemes.Other)
text_lexeme_by tokens i bytes true e h = ap is_signature h ∙ e
text_lexeme_by tokens i bytes false e h = tt

text_there : (tokens : List Token) (i : ℕ) (t : Token) (bytes : List ℕ) → slice_get tokens i ≡ Some t → t.kind ≡ kinds.Text bytes → text_at tokens i ≡ bytes
text_there tokens i t bytes here is = ap text_in here ∙ ap text_by is

if_lexeme : (tokens : List Token) (b : Bool) (x y : Lexeme) → IsLexeme tokens x → IsLexeme tokens y → IsLexeme tokens (cond b x y)
if_lexeme tokens true x y h k = h
if_lexeme tokens false x y h k = k

mark_by : (tokens : List Token) (m : ℕ) → IsLexeme tokens (mark_lexeme m)
mark_by tokens m = if_lexeme tokens (m == 2) lexemes.Open (cond (m == 3) lexemes.Close (cond (m == 7) lexemes.Comma (cond (m == 14) lexemes.Plus (cond (m == 15) lexemes.Minus (cond (m == 18) lexemes.Slash (cond (m == 22) lexemes.Less (cond (m == 23) lexemes.Greater (cond (m == 33) lexemes.Colon (cond (m == 46) lexemes.Dollar lexemes.Other))))))))) tt (if_lexeme tokens (m == 3) lexemes.Close (cond (m == 7) lexemes.Comma (cond (m == 14) lexemes.Plus (cond (m == 15) lexemes.Minus (cond (m == 18) lexemes.Slash (cond (m == 22) lexemes.Less (cond (m == 23) lexemes.Greater (cond (m == 33) lexemes.Colon (cond (m == 46) lexemes.Dollar lexemes.Other)))))))) tt (if_lexeme tokens (m == 7) lexemes.Comma (cond (m == 14) lexemes.Plus (cond (m == 15) lexemes.Minus (cond (m == 18) lexemes.Slash (cond (m == 22) lexemes.Less (cond (m == 23) lexemes.Greater (cond (m == 33) lexemes.Colon (cond (m == 46) lexemes.Dollar lexemes.Other))))))) tt (if_lexeme tokens (m == 14) lexemes.Plus (cond (m == 15) lexemes.Minus (cond (m == 18) lexemes.Slash (cond (m == 22) lexemes.Less (cond (m == 23) lexemes.Greater (cond (m == 33) lexemes.Colon (cond (m == 46) lexemes.Dollar lexemes.Other)))))) tt (if_lexeme tokens (m == 15) lexemes.Minus (cond (m == 18) lexemes.Slash (cond (m == 22) lexemes.Less (cond (m == 23) lexemes.Greater (cond (m == 33) lexemes.Colon (cond (m == 46) lexemes.Dollar lexemes.Other))))) tt (if_lexeme tokens (m == 18) lexemes.Slash (cond (m == 22) lexemes.Less (cond (m == 23) lexemes.Greater (cond (m == 33) lexemes.Colon (cond (m == 46) lexemes.Dollar lexemes.Other)))) tt (if_lexeme tokens (m == 22) lexemes.Less (cond (m == 23) lexemes.Greater (cond (m == 33) lexemes.Colon (cond (m == 46) lexemes.Dollar lexemes.Other))) tt (if_lexeme tokens (m == 23) lexemes.Greater (cond (m == 33) lexemes.Colon (cond (m == 46) lexemes.Dollar lexemes.Other)) tt (if_lexeme tokens (m == 33) lexemes.Colon (cond (m == 46) lexemes.Dollar lexemes.Other) tt (if_lexeme tokens (m == 46) lexemes.Dollar lexemes.Other tt tt)))))))))

moved : (tokens : List Token) (i j : ℕ) (t : Token) → i ≡ j → slice_get tokens i ≡ Some t → slice_get tokens j ≡ Some t
moved tokens i j t e h = subst (λ n. slice_get tokens n ≡ Some t) e h

lexeme_by_kind : (tokens : List Token) → HasNames tokens → (i : ℕ) (t : Token) (kind : TokenKind) → slice_get tokens i ≡ Some t → t.kind ≡ kind → IsLexeme tokens (lexeme_of i (first_by (place_in tokens) i kind) kind)
lexeme_by_kind tokens names i t (kinds.Word name) here is = word_lexeme tokens names i t name here is
lexeme_by_kind tokens names i t (kinds.Number v u l) here is = tt
lexeme_by_kind tokens names i t (kinds.Char v) here is = tt
lexeme_by_kind tokens names i t (kinds.Text bytes) here is = text_lexeme_by tokens i bytes (is_signature bytes) refl (text_there tokens i t bytes here is)
lexeme_by_kind tokens names i t (kinds.Mark m) here is = mark_by tokens m
lexeme_by_kind tokens names i t kinds.NewLine here is = tt
lexeme_by_kind tokens names i t kinds.End here is = tt

lexemes_from : (tokens : List Token) → HasNames tokens → (i : ℕ) (rest : List Token) → ((k : ℕ) (t : Token) → slice_get rest k ≡ Some t → slice_get tokens (i + k) ≡ Some t) → Each (IsLexeme tokens) (map (lexeme_by (place_in tokens)) (enumerate_from i rest))
lexemes_from tokens names i [] there = tt
lexemes_from tokens names i (t ∷ rest) there =
    let here = moved tokens (i + 0) i t (omega arith) (there 0 t refl) in (
      lexeme_by_kind tokens names i t t.kind here refl,
      lexemes_from tokens names (i + 1) rest (λ k u h. moved tokens (i + suc k) (i + 1 + k) u (omega arith) (there (suc k) u h)),
    )

lexemes_proper : (tokens : List Token) → HasNames tokens → Each (IsLexeme tokens) (lexemes_of tokens)
lexemes_proper tokens names = lexemes_from tokens names 0 tokens (λ k t h. moved tokens k (0 + k) t (omega arith) h)

-- Lines

first_each : (P : Lexeme → Type 0) (l : Lexeme) (lines : List (List Lexeme)) → P l → Each (Each P) lines → Each (Each P) (in_first l lines)
first_each P l [] h k = ((h, tt), tt)
first_each P l (first ∷ others) h k = ((h, k.0), k.1)

line_each : (P : Lexeme → Type 0) (b : Bool) (l : Lexeme) (lines : List (List Lexeme)) → P l → Each (Each P) lines → Each (Each P) (cond b ([] ∷ lines) (in_first l lines))
line_each P true l lines h k = (tt, k)
line_each P false l lines h k = first_each P l lines h k

pub lines_each : (P : Lexeme → Type 0) (xs : List Lexeme) → Each P xs → Each (Each P) (lines_of xs)
lines_each P [] h = (tt, tt)
lines_each P (l ∷ rest) h = line_each P (is_line_end l) l (lines_of rest) h.0 (lines_each P rest h.1)

abbrev pub IsProperRow : List Token → Row → Type 0
IsProperRow tokens row = IfSome row.content (IsProperLine tokens)

rows_each : (tokens : List Token) (index token : ℕ) (place : Place) (lines : List (List Lexeme)) → Each (Each (IsLexeme tokens)) lines → Each (IsProperRow tokens) (rows_from index token place lines)
rows_each tokens index token place [] h = tt
rows_each tokens index token place (line ∷ rest) h =
    (line_proper tokens line h.0, rows_each tokens (index + 1) _ (after_content index place (line_of line)) rest h.1)

pub rows_proper : (tokens : List Token) → HasNames tokens → Each (IsProperRow tokens) (rows_of (lexemes_of tokens))
rows_proper tokens names = rows_each tokens 0 0 before_all (lines_of (lexemes_of tokens)) (lines_each (IsLexeme tokens) (lexemes_of tokens) (lexemes_proper tokens names))
