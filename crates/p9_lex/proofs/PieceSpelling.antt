-- How each piece is spelled.
use Rattle.std.proofs.Common.{◌≡◌, ℕ, true, eqb, eqb-true, ltb, ltb-true, ◌<◌, ◌≤◌, List, [], ◌∷◌, ◌++◌, length, take, refl, sym, ap, subst, ◌∙◌, Result, Ok, Err, IfOk, append_assoc, length-append, arith}
use Rattle.p9_lex.specs.declared.broken.Break.{Break}
use Rattle.p9_lex.specs.declared.mark.Marked.{Marked}
use Rattle.p9_lex.specs.declared.number.Numeral.{Numeral}
use Rattle.p9_lex.specs.declared.quoted.Character.{Character}
use Rattle.p9_lex.specs.declared.quoted.Text.{Text}
use Rattle.p9_lex.specs.declared.piece.Piece.{Piece}
use Rattle.p9_lex.specs.declared.piece.Piece.TheVariants as pieces
use Rattle.p9_lex.specs.declared.piece.Found.{Found}
use Rattle.p9_lex.specs.declared.token.Dialect.{Dialect}
use Rattle.p9_lex.specs.declared.token.TokenKind.{TokenKind}
use Rattle.p9_lex.specs.declared.token.TokenKind.TheVariants as kinds
use Rattle.p9_lex.specs.Classes.{is_blank, is_newline, is_name_start, is_name_byte, is_digit}
use Rattle.p9_lex.specs.Blank.{line_comment, block_comment}
use Rattle.p9_lex.specs.Number.{number}
use Rattle.p9_lex.specs.Quoted.{then_read, character, text}
use Rattle.p9_lex.specs.Mark.{longest_mark}
use Rattle.p9_lex.specs.Piece.{name_bytes, word, continued_line, character_piece, text_piece, slash, piece}
use Rattle.p9_lex.specs.Spelling.{AllOf, NotNext, Spells, IsText, IsBlank, blank, continued, to_line_end, closed}
use Rattle.p9_lex.proofs.Cases.{if_cases, Splits}
use Rattle.p9_lex.proofs.BlankSpelling.{IsLineComment, line_comment_spelled, IsClosed, block_comment_spelled}
use Rattle.p9_lex.proofs.NumberSpelling.{IsNumberCut, number_spelled}
use Rattle.p9_lex.proofs.QuotedSpelling.{IsCharacterCut, character_spelled, text_spelled}
use Rattle.p9_lex.proofs.MarkSpelling.{IsMarkCut, mark_spelled}

-- a piece that is a token is no end of a line and not the end of the file
abbrev pub IsProper : TokenKind → Type 0
IsProper (kinds.Word name) = Unit {0}
IsProper (kinds.Number value unsigned long) = Unit {0}
IsProper (kinds.Char value) = Unit {0}
IsProper (kinds.Text values) = Unit {0}
IsProper (kinds.Mark m) = Unit {0}
IsProper kinds.NewLine = ⊥
IsProper kinds.End = ⊥

abbrev pub IsPiece : Dialect → Piece → (bytes after : List ℕ) → Type 0
IsPiece d pieces.Blank bytes after = (1 ≤ length bytes) × IsBlank bytes after
IsPiece d pieces.LineEnd bytes after = bytes ≡ 10 ∷ []
IsPiece d (pieces.Token kind) bytes after = IsProper kind × Spells d kind bytes after

abbrev pub IsPieceCut : Dialect → List ℕ → Result Found Break → Type 0
IsPieceCut d whole answer = IfOk answer (λ f. Splits whole 0 f.length (IsPiece d f.piece))

-- Names

name_bytes_spelled : (s : List ℕ) → Splits s 0 (name_bytes s) (λ bytes after. AllOf is_name_byte bytes × NotNext is_name_byte after)
name_bytes_spelled [] = record { bytes = []; after = []; cut = refl; size = refl; holds = (tt, tt) }
name_bytes_spelled (b ∷ s) =
    if_cases (λ n. Splits (b ∷ s) 0 n (λ bytes after. AllOf is_name_byte bytes × NotNext is_name_byte after)) (is_name_byte b)
    (λ h. let rest = name_bytes_spelled s in
    record { bytes = b ∷ rest.bytes; after = rest.after; cut = ap (λ r. b ∷ r) rest.cut; size = omega (arith, rest.size); holds = ((h, rest.holds.0), rest.holds.1) })
    (λ h. record { bytes = []; after = b ∷ s; cut = refl; size = refl; holds = (tt, h) })

take_front : (xs ys : List ℕ) → take (length xs) (xs ++ ys) ≡ xs
take_front [] ys = refl
take_front (x ∷ xs) ys = ap (λ r. x ∷ r) (take_front xs ys)

word_spelled : (d : Dialect) (b : ℕ) (s : List ℕ) → is_name_start b ≡ true → IsPieceCut d (b ∷ s) (word b s)
unfolding word
word_spelled d b s h =
    let names = name_bytes_spelled s in
    let size : name_bytes s ≡ length names.bytes = omega (arith, names.size) in
    let taken : names.bytes ≡ take (name_bytes s) s = sym (ap (λ n. take n s) size ∙ ap (take (length names.bytes)) names.cut ∙ take_front names.bytes names.after) in
    if_cases (IsPieceCut d (b ∷ s)) (ltb (name_bytes s) 255)
    (λ lt. record {
      bytes = b ∷ names.bytes;
      after = names.after;
      cut = ap (λ r. b ∷ r) names.cut;
      size = omega (arith, names.size);
      holds = (tt, (ap (λ r. b ∷ r) taken, subst (λ r. (is_name_start b ≡ true) × AllOf is_name_byte r × (length r < 255)) taken (h, names.holds.0, omega (arith, size, ltb-true (name_bytes s) 255 lt)), names.holds.1));
    })
    (λ _. tt)

-- What is passed over

continued_spelled : (d : Dialect) (s : List ℕ) → IsPieceCut d (92 ∷ s) (continued_line s)
continued_spelled d [] = tt
continued_spelled d (b ∷ s) =
    if_cases (IsPieceCut d (92 ∷ b ∷ s)) (is_newline b)
    (λ h. record { bytes = 92 ∷ 10 ∷ []; after = s; cut = ap (λ x. 92 ∷ x ∷ s) (eqb-true b 10 h); size = refl; holds = (omega arith, continued) })
    (λ _. tt)

line_comment_piece : (d : Dialect) (s : List ℕ) (answer : Result ℕ Break) → IfOk answer (λ n. Splits s 2 n IsLineComment) → IsPieceCut d (47 ∷ 47 ∷ s) (then_read answer (λ n. Ok (record { piece = pieces.Blank; length = n })))
line_comment_piece d s (Err e) h = tt
line_comment_piece d s (Ok n) h = record {
  bytes = 47 ∷ 47 ∷ h.bytes;
  after = h.after;
  cut = ap (λ r. 47 ∷ 47 ∷ r) h.cut;
  size = omega (arith, h.size);
  holds = (omega arith, to_line_end h.holds.0 h.holds.1);
}

block_comment_piece : (d : Dialect) (s : List ℕ) (answer : Result ℕ Break) → IfOk answer (λ n. IsClosed s 2 n) → IsPieceCut d (47 ∷ 42 ∷ s) (then_read answer (λ n. Ok (record { piece = pieces.Blank; length = n })))
block_comment_piece d s (Err e) h = tt
block_comment_piece d s (Ok n) h = record {
  bytes = 47 ∷ 42 ∷ (h.body ++ 42 ∷ 47 ∷ []);
  after = h.after;
  cut = ap (λ r. 47 ∷ 42 ∷ r) h.cut ∙ simp append_assoc;
  size = simp length-append (omega (arith, h.size));
  holds = (omega arith, closed h.body h.unclosed);
}

-- Tokens

mark_of : (d : Dialect) (whole : List ℕ) (answer : Result Marked Break) → IsMarkCut d whole answer → IsPieceCut d whole (then_read answer (λ m. Ok (record { piece = pieces.Token (kinds.Mark m.number); length = m.length })))
mark_of d whole (Err e) h = tt
mark_of d whole (Ok m) h = record { bytes = h.bytes; after = h.after; cut = h.cut; size = h.size; holds = (tt, h.holds) }

number_of : (d : Dialect) (whole : List ℕ) (answer : Result Numeral Break) → IfOk answer (λ n. IsNumberCut whole n) → IsPieceCut d whole (then_read answer (λ n. Ok (record { piece = pieces.Token (kinds.Number n.value n.unsigned n.long); length = n.length })))
number_of d whole (Err e) h = tt
number_of d whole (Ok n) h = record { bytes = h.bytes; after = h.after; cut = h.cut; size = h.size; holds = (tt, h.holds) }

character_of : (d : Dialect) (whole : List ℕ) (answer : Result Character Break) → IsCharacterCut whole answer → IsPieceCut d whole (then_read answer (λ c. Ok (record { piece = pieces.Token (kinds.Char c.value); length = c.length })))
character_of d whole (Err e) h = tt
character_of d whole (Ok c) h = record { bytes = h.bytes; after = h.after; cut = h.cut; size = h.size; holds = (tt, h.holds) }

text_of : (d : Dialect) (whole : List ℕ) (answer : Result Text Break) → IfOk answer (λ t. Splits whole 0 t.length (λ bytes after. IsText t.bytes bytes)) → IsPieceCut d whole (then_read answer (λ t. Ok (record { piece = pieces.Token (kinds.Text t.bytes); length = t.length })))
text_of d whole (Err e) h = tt
text_of d whole (Ok t) h = record { bytes = h.bytes; after = h.after; cut = h.cut; size = h.size; holds = (tt, h.holds) }

slash_spelled : (d : Dialect) (s : List ℕ) → IsPieceCut d (47 ∷ s) (slash d s)
slash_spelled d [] = mark_of d (47 ∷ []) (longest_mark d 47 []) (mark_spelled d 47 [])
slash_spelled d (b ∷ s) =
    if_cases (IsPieceCut d (47 ∷ b ∷ s)) (eqb b 47)
    (λ h. subst (λ x. IsPieceCut d (47 ∷ x ∷ s) (then_read (line_comment 2 s) (λ n. Ok (record { piece = pieces.Blank; length = n })))) (sym (eqb-true b 47 h)) (line_comment_piece d s (line_comment 2 s) (line_comment_spelled 2 s)))
    (λ _. if_cases (IsPieceCut d (47 ∷ b ∷ s)) (eqb b 42)
    (λ h. subst (λ x. IsPieceCut d (47 ∷ x ∷ s) (then_read (block_comment 2 s) (λ n. Ok (record { piece = pieces.Blank; length = n })))) (sym (eqb-true b 42 h)) (block_comment_piece d s (block_comment 2 s) (block_comment_spelled 2 s)))
    (λ _. mark_of d (47 ∷ b ∷ s) (longest_mark d 47 (b ∷ s)) (mark_spelled d 47 (b ∷ s))))

pub piece_spelled : (d : Dialect) (b : ℕ) (s : List ℕ) → IsPieceCut d (b ∷ s) (piece d b s)
unfolding piece
piece_spelled d b s =
    if_cases (IsPieceCut d (b ∷ s)) (is_blank b)
    (λ h. record { bytes = b ∷ []; after = s; cut = refl; size = refl; holds = (omega arith, blank h) })
    (λ _. if_cases (IsPieceCut d (b ∷ s)) (is_newline b)
    (λ h. record { bytes = b ∷ []; after = s; cut = refl; size = refl; holds = ap (λ x. x ∷ []) (eqb-true b 10 h) })
    (λ _. if_cases (IsPieceCut d (b ∷ s)) (eqb b 92)
    (λ h. subst (λ x. IsPieceCut d (x ∷ s) (continued_line s)) (sym (eqb-true b 92 h)) (continued_spelled d s))
    (λ _. if_cases (IsPieceCut d (b ∷ s)) (eqb b 47)
    (λ h. subst (λ x. IsPieceCut d (x ∷ s) (slash d s)) (sym (eqb-true b 47 h)) (slash_spelled d s))
    (λ _. if_cases (IsPieceCut d (b ∷ s)) (is_name_start b)
    (λ h. word_spelled d b s h)
    (λ _. if_cases (IsPieceCut d (b ∷ s)) (is_digit b)
    (λ h. number_of d (b ∷ s) (number b s) (number_spelled b s h))
    (λ _. if_cases (IsPieceCut d (b ∷ s)) (eqb b 39)
    (λ h. subst (λ x. IsPieceCut d (x ∷ s) (character_piece s)) (sym (eqb-true b 39 h)) (character_of d (39 ∷ s) (character s) (character_spelled s)))
    (λ _. if_cases (IsPieceCut d (b ∷ s)) (eqb b 34)
    (λ h. subst (λ x. IsPieceCut d (x ∷ s) (text_piece s)) (sym (eqb-true b 34 h)) (text_of d (34 ∷ s) (text 0 1 s) (text_spelled s)))
    (λ _. mark_of d (b ∷ s) (longest_mark d b s) (mark_spelled d b s)))))))))
