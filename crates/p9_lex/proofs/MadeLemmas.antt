-- A file is made of its tokens and of what is passed over between them.
use Rattle.std.proofs.Common.{◌≡◌, ℕ, zero, suc, ◌+◌, ◌-◌, ◌≤◌, Bool, true, false, ◌||◌, ◌&&◌, cond, leb, List, [], ◌∷◌, ◌++◌, length, drop, take, refl, sym, ap, subst, ◌∙◌, Option, Some, None, Result, Ok, Err, IfOk, append_assoc, length-append, add-zero, arith}
use Rattle.std.specs.Prelude.{is_some, count_by}
use Rattle.std.proofs.lemmas.List.Sums.{sum_by-append}
use Rattle.p9_lex.specs.declared.broken.Break.{Break}
use Rattle.p9_lex.specs.declared.broken.Stop.{Stop}
use Rattle.p9_lex.specs.declared.piece.Piece.{Piece}
use Rattle.p9_lex.specs.declared.piece.Piece.TheVariants as pieces
use Rattle.p9_lex.specs.declared.piece.Found.{Found}
use Rattle.p9_lex.specs.declared.token.Dialect.{Dialect}
use Rattle.p9_lex.specs.declared.token.Dialect.TheVariants.{C, Asm}
use Rattle.p9_lex.specs.declared.token.Token.{Token}
use Rattle.p9_lex.specs.declared.token.TokenKind.{TokenKind}
use Rattle.p9_lex.specs.declared.token.TokenKind.TheVariants as kinds
use Rattle.p9_lex.specs.Classes.{is_newline}
use Rattle.p9_lex.specs.Mark.{mark_number}
use Rattle.p9_lex.specs.Piece.{piece}
use Rattle.p9_lex.specs.Tokens.{kind_of, first_after, line_after, tokens_at, in_front, after_piece, scan, too_long, limited, line_of}
use Rattle.p9_lex.specs.Spelling.{Spells, IsName, IsBase, base_8, base_10, base_16, IsNumber, IsBlank}
use Rattle.p9_lex.specs.Made.{IsGap, nothing, blanks, line_end, is_empty, is_line_end, IfEnd, AreTokens, HaveLines}
use Rattle.p9_lex.proofs.Cases.{Splits}
use Rattle.p9_lex.proofs.ScanLemmas.{lines_past}
use Rattle.p9_lex.proofs.PieceSpelling.{IsProper, IsPiece, IsPieceCut, piece_spelled}

-- A piece has at least one byte

name_some : (name : List ℕ) → IsName name → 1 ≤ length name
name_some [] h = absurd h
name_some (b ∷ s) h = omega arith

base_some : (base : ℕ) (front ds : List ℕ) → IsBase base front ds → 1 ≤ length ds
base_some _ _ _ (base_10 h) = omega arith
base_some _ _ _ base_8 = omega arith
base_some _ _ _ (base_16 h) = omega arith

number_some : (v : ℕ) (u l : Bool) (bytes after : List ℕ) → IsNumber v u l bytes after → 1 ≤ length bytes
number_some v u l bytes after n =
    omega (arith, base_some n.base n.front n.digits n.based, ap length n.spelled, length-append (n.front ++ n.digits) n.suffix, length-append n.front n.digits)

mark_some : (d : Dialect) (m : ℕ) (bytes : List ℕ) → mark_number d bytes ≡ Some m → 1 ≤ length bytes
unfolding mark_number
mark_some C m [] h = absurd (cc)
mark_some Asm m [] h = absurd (cc)
mark_some d m (b ∷ s) h = omega arith

piece_some : (d : Dialect) (p : Piece) (bytes after : List ℕ) → IsPiece d p bytes after → 1 ≤ length bytes
piece_some d pieces.Blank bytes after h = h.0
piece_some d pieces.LineEnd bytes after h = omega (arith, ap length h)
piece_some d (pieces.Token (kinds.Word name)) bytes after h = omega (arith, ap length h.1.0, name_some name h.1.1)
piece_some d (pieces.Token (kinds.Number v u l)) bytes after h = number_some v u l bytes after h.1
piece_some d (pieces.Token (kinds.Char v)) bytes after h = omega (arith, ap length h.1.spelled)
piece_some d (pieces.Token (kinds.Text v)) bytes after h = omega (arith, ap length h.1.spelled)
piece_some d (pieces.Token (kinds.Mark m)) bytes after h = mark_some d m bytes h.1.0
piece_some d (pieces.Token kinds.NewLine) bytes after h = absurd h.0
piece_some d (pieces.Token kinds.End) bytes after h = absurd h.0

-- Words on tests

or_false : (a : Bool) → a ≡ (a || false)
or_false true = refl
or_false false = refl

or_true : (a : Bool) → true ≡ (a || true)
or_true true = refl
or_true false = refl

or_or : (a b c : Bool) → ((a || b) || c) ≡ (a || (b || c))
or_or true b c = refl
or_or false b c = refl

and_false : (a : Bool) → false ≡ (a && false)
and_false true = refl
and_false false = refl

and_true : (a : Bool) → a ≡ (a && true)
and_true true = refl
and_true false = refl

not_empty : (xs ys : List ℕ) → 1 ≤ length xs → is_empty (xs ++ ys) ≡ false
not_empty [] ys h = absurd (omega (arith, h))
not_empty (x ∷ xs) ys h = refl

-- The end

end_made : (d : Dialect) (place line : ℕ) (first joined : Bool) → AreTokens d (place + 0) first joined [] (tokens_at (Some kinds.End) place place line first joined)
end_made d place line first joined = (
  [],
  record {
    gap = [];
    bytes = [];
    ended = false;
    cut = refl;
    passed = nothing;
    spelled = (refl, refl);
    starts = omega arith;
    ends = omega arith;
    of_file = refl;
    is_first = or_false first;
    is_joined = and_true joined;
  },
  refl,
)

-- What is passed over, in front of tokens

passed_made : (d : Dialect) (place : ℕ) (first joined next ends_line : Bool) (bytes after : List ℕ) (ts : List Token) → 1 ≤ length bytes → next ≡ (first || ends_line) → ((gap rest : List ℕ) (ended : Bool) → after ≡ gap ++ rest → IsGap d gap rest ended → IsGap d (bytes ++ gap) rest (ends_line || ended)) → AreTokens d (place + length bytes) next false after ts → AreTokens d place first joined (bytes ++ after) ts
passed_made d place first joined next ends_line bytes after [] some is extend h = h
passed_made d place first joined next ends_line bytes after (t ∷ ts) some is extend h =
    let rest = h.0 in
    let tok = h.1 in (
      rest,
      record {
        gap = bytes ++ tok.gap;
        bytes = tok.bytes;
        ended = ends_line || tok.ended;
        cut = ap (λ r. bytes ++ r) tok.cut ∙ sym (append_assoc bytes tok.gap (tok.bytes ++ rest));
        passed = extend tok.gap (tok.bytes ++ rest) tok.ended tok.cut tok.passed;
        spelled = tok.spelled;
        starts = omega (arith, tok.starts, length-append bytes tok.gap);
        ends = tok.ends;
        of_file = tok.of_file;
        is_first = tok.is_first ∙ ap (λ n. n || tok.ended) is ∙ or_or first ends_line tok.ended;
        is_joined = tok.is_joined ∙ and_false joined ∙ ap (λ e. joined && e) (sym (not_empty bytes tok.gap some));
      },
      h.2,
    )

-- A token, in front of tokens

abbrev IsNotEnd : TokenKind → Type 0
IsNotEnd (kinds.Word name) = Unit {0}
IsNotEnd (kinds.Number v u l) = Unit {0}
IsNotEnd (kinds.Char v) = Unit {0}
IsNotEnd (kinds.Text v) = Unit {0}
IsNotEnd (kinds.Mark m) = Unit {0}
IsNotEnd kinds.NewLine = Unit {0}
IsNotEnd kinds.End = ⊥

not_end : (kind : TokenKind) (p q : Type 0) → IsNotEnd kind → q → IfEnd kind p q
not_end (kinds.Word name) p q n h = h
not_end (kinds.Number v u l) p q n h = h
not_end (kinds.Char v) p q n h = h
not_end (kinds.Text v) p q n h = h
not_end (kinds.Mark m) p q n h = h
not_end kinds.NewLine p q n h = h
not_end kinds.End p q n h = absurd n

token_made : (d : Dialect) (place line n : ℕ) (first joined next : Bool) (kind : TokenKind) (bytes after : List ℕ) (ts : List Token) → IsNotEnd kind → Spells d kind bytes after → 0 + length bytes ≡ n → next ≡ is_line_end kind → AreTokens d (place + n) next true after ts → AreTokens d place first joined (bytes ++ after) (tokens_at (Some kind) place (place + n) line first joined ++ ts)
token_made d place line n first joined next kind bytes after ts proper spelled size is h = (
  after,
  record {
    gap = [];
    bytes = bytes;
    ended = false;
    cut = refl;
    passed = nothing;
    spelled = spelled;
    starts = omega arith;
    ends = omega (arith, size);
    of_file = refl;
    is_first = or_false first;
    is_joined = and_true joined;
  },
  not_end kind (ts ≡ []) (AreTokens d (place + n) (is_line_end kind) true after ts) proper (subst (λ f. AreTokens d (place + n) f true after ts) is h),
)

proper_not_end : (kind : TokenKind) → IsProper kind → IsNotEnd kind
proper_not_end (kinds.Word name) h = tt
proper_not_end (kinds.Number v u l) h = tt
proper_not_end (kinds.Char v) h = tt
proper_not_end (kinds.Text v) h = tt
proper_not_end (kinds.Mark m) h = tt
proper_not_end kinds.NewLine h = absurd h
proper_not_end kinds.End h = absurd h

proper_in_line : (kind : TokenKind) → IsProper kind → false ≡ is_line_end kind
proper_in_line (kinds.Word name) h = refl
proper_in_line (kinds.Number v u l) h = refl
proper_in_line (kinds.Char v) h = refl
proper_in_line (kinds.Text v) h = refl
proper_in_line (kinds.Mark m) h = refl
proper_in_line kinds.NewLine h = absurd h
proper_in_line kinds.End h = refl

-- A piece, in front of tokens

piece_made : (d : Dialect) (place line n : ℕ) (first joined : Bool) (p : Piece) (bytes after : List ℕ) (ts : List Token) → IsPiece d p bytes after → 0 + length bytes ≡ n → AreTokens d (place + n) (first_after first p) (is_some (kind_of d p)) after ts → AreTokens d place first joined (bytes ++ after) (tokens_at (kind_of d p) place (place + n) line first joined ++ ts)
piece_made d place line n first joined pieces.Blank bytes after ts is size h =
    let at : place + n ≡ place + length bytes = omega (arith, size) in
    passed_made d place first joined first false bytes after ts is.0 (or_false first)
    (λ gap rest ended cut g. blanks bytes gap (subst (IsBlank bytes) cut is.1) g)
    (subst (λ q. AreTokens d q first false after ts) at h)
piece_made C place line n first joined pieces.LineEnd bytes after ts is size h =
    let at : place + n ≡ place + 1 = omega (arith, size, ap length is) in
    subst (λ bs. AreTokens C place first joined (bs ++ after) ts) (sym is)
    (passed_made C place first joined true true (10 ∷ []) after ts (omega arith) (or_true first)
    (λ gap rest ended cut g. line_end gap g)
    (subst (λ q. AreTokens C q true false after ts) at h))
piece_made Asm place line n first joined pieces.LineEnd bytes after ts is size h =
    token_made Asm place line n first joined true kinds.NewLine bytes after ts tt (refl, is) size refl h
piece_made d place line n first joined (pieces.Token kind) bytes after ts is size h =
    token_made d place line n first joined false kind bytes after ts (proper_not_end kind is.0) is.1 size (proper_in_line kind is.0) h

in_front_made : (d : Dialect) (place line n : ℕ) (first joined : Bool) (p : Piece) (bytes after : List ℕ) (rest : Result (List Token) Stop) → IsPiece d p bytes after → 0 + length bytes ≡ n → IfOk rest (λ ts. AreTokens d (place + n) (first_after first p) (is_some (kind_of d p)) after ts) → IfOk (in_front (tokens_at (kind_of d p) place (place + n) line first joined) rest) (λ ts. AreTokens d place first joined (bytes ++ after) ts)
in_front_made d place line n first joined p bytes after (Err e) is size h = tt
in_front_made d place line n first joined p bytes after (Ok ts) is size h = piece_made d place line n first joined p bytes after ts is size h

after_piece_made : (place : ℕ) (whole : List ℕ) (d : Dialect) (P : List Token → Type 0) (answer : Result Found Break) (next : Found → Result (List Token) Stop) → IsPieceCut d whole answer → ((f : Found) → Splits whole 0 f.length (IsPiece d f.piece) → IfOk (next f) P) → IfOk (after_piece place answer next) P
after_piece_made place whole d P (Err e) next h use_of = tt
after_piece_made place whole d P (Ok f) next h use_of = use_of f h

drop_front : (xs ys : List ℕ) → drop (length xs) (xs ++ ys) ≡ ys
drop_front [] ys = refl
drop_front (x ∷ xs) ys = drop_front xs ys

-- what is left behind a piece
behind : (b : ℕ) (s bytes after : List ℕ) (n : ℕ) → b ∷ s ≡ bytes ++ after → 0 + length bytes ≡ n → 1 ≤ n → drop (n - 1) s ≡ after
behind b s bytes after n cut size some =
    let whole : suc (n - 1) ≡ n = omega (arith, some) in
    let same : n ≡ length bytes = omega (arith, size) in
    ap (λ m. drop m (b ∷ s)) (whole ∙ same) ∙ ap (drop (length bytes)) cut ∙ drop_front bytes after

scan_made : (d : Dialect) (n place line : ℕ) (first joined : Bool) (s : List ℕ) → n ≤ length s → IfOk (scan d n place line first joined s) (λ ts. AreTokens d (place + n) first joined (drop n s) ts)
unfolding scan
scan_made d zero place line first joined [] h = end_made d place line first joined
scan_made d (suc n) place line first joined [] h = absurd (omega (arith, h))
scan_made d (suc n) place line first joined (b ∷ s) h =
    let at : place + 1 + n ≡ place + suc n = omega arith in
    subst (λ q. IfOk (scan d n (place + 1) (line_after b line) first joined s) (λ ts. AreTokens d q first joined (drop n s) ts)) at
    (scan_made d n (place + 1) (line_after b line) first joined s (omega (arith, h)))
scan_made d zero place line first joined (b ∷ s) h =
    subst (λ q. IfOk (scan d zero place line first joined (b ∷ s)) (λ ts. AreTokens d q first joined (b ∷ s) ts)) (sym (add-zero place))
    (after_piece_made place (b ∷ s) d (λ ts. AreTokens d place first joined (b ∷ s) ts) (piece d b s)
    (λ f. in_front (tokens_at (kind_of d f.piece) place (place + f.length) line first joined) (scan d (f.length - 1) (place + 1) (line_after b line) (first_after first f.piece) (is_some (kind_of d f.piece)) s))
    (piece_spelled d b s)
    (λ f sp.
    let some : 1 ≤ f.length = omega (arith, piece_some d f.piece sp.bytes sp.after sp.holds, sp.size) in
    let within : f.length - 1 ≤ length s = omega (arith, sp.size, ap length sp.cut, length-append sp.bytes sp.after) in
    let at : place + 1 + (f.length - 1) ≡ place + f.length = omega (arith, some) in
    let left = behind b s sp.bytes sp.after f.length sp.cut sp.size some in
    let tail = scan d (f.length - 1) (place + 1) (line_after b line) (first_after first f.piece) (is_some (kind_of d f.piece)) s in
    let made = scan_made d (f.length - 1) (place + 1) (line_after b line) (first_after first f.piece) (is_some (kind_of d f.piece)) s within in
    let placed = subst (λ q. IfOk tail (λ ts. AreTokens d q (first_after first f.piece) (is_some (kind_of d f.piece)) (drop (f.length - 1) s) ts)) at made in
    let cut_off = subst (λ r. IfOk tail (λ ts. AreTokens d (place + f.length) (first_after first f.piece) (is_some (kind_of d f.piece)) r ts)) left placed in
    subst (λ w. IfOk (in_front (tokens_at (kind_of d f.piece) place (place + f.length) line first joined) tail) (λ ts. AreTokens d place first joined w ts)) (sym sp.cut)
    (in_front_made d place line f.length first joined f.piece sp.bytes sp.after tail sp.holds sp.size cut_off)))

-- The tokens of a whole file

limited_ok : (c : Bool) (us ts : List Token) → ◌≡◌ {A = Result (List Token) Stop} (cond c (Ok us) (Err too_long)) (Ok ts) → us ≡ ts
limited_ok true us ts h = cc
limited_ok false us ts h = absurd (cc)

unlimited : (bytes : List ℕ) (answer : Result (List Token) Stop) (ts : List Token) (P : List Token → Type 0) → limited bytes answer ≡ Ok ts → IfOk answer P → P ts
unlimited bytes (Ok us) ts P h p = subst P (limited_ok (leb (length bytes) 16777216) us ts h) p
unlimited bytes (Err e) ts P h p = absurd (cc)

pub tokens_made : (d : Dialect) (bytes : List ℕ) (ts : List Token) → limited bytes (scan d 0 0 1 true false bytes) ≡ Ok ts → AreTokens d 0 true false bytes ts
tokens_made d bytes ts h =
    unlimited bytes (scan d 0 0 1 true false bytes) ts (AreTokens d 0 true false bytes) h (scan_made d 0 0 1 true false bytes (omega arith))

-- The lines

take_front : (xs ys : List ℕ) → take (length xs) (xs ++ ys) ≡ xs
take_front [] ys = refl
take_front (x ∷ xs) ys = ap (λ r. x ∷ r) (take_front xs ys)

line_here : (bytes front s : List ℕ) (place line : ℕ) → bytes ≡ front ++ s → place ≡ length front → line ≡ count_by is_newline front + 1 → line ≡ line_of bytes place
line_here bytes front s place line cut at counted =
    let taken : take place bytes ≡ front = ap (λ n. take n bytes) at ∙ ap (take (length front)) cut ∙ take_front front s in
    counted ∙ ap (λ r. count_by is_newline r + 1) (sym taken)

in_front_lines : (bytes : List ℕ) (o : Option TokenKind) (place end line : ℕ) (first joined : Bool) (rest : Result (List Token) Stop) → line ≡ line_of bytes place → IfOk rest (HaveLines bytes) → IfOk (in_front (tokens_at o place end line first joined) rest) (HaveLines bytes)
in_front_lines bytes o place end line first joined (Err e) here h = tt
in_front_lines bytes None place end line first joined (Ok ts) here h = h
in_front_lines bytes (Some kind) place end line first joined (Ok ts) here h = (here, h)

after_piece_lines : (place : ℕ) (P : List Token → Type 0) (answer : Result Found Break) (next : Found → Result (List Token) Stop) → ((f : Found) → IfOk (next f) P) → IfOk (after_piece place answer next) P
after_piece_lines place P (Err e) next h = tt
after_piece_lines place P (Ok f) next h = h f

line_more : (b line : ℕ) (front : List ℕ) → line ≡ count_by is_newline front + 1 → line_after b line ≡ count_by is_newline (front ++ b ∷ []) + 1
line_more b line front h = omega (arith, h, lines_past b line [], sum_by-append (λ x. cond (is_newline x) 1 0) front (b ∷ []))

scan_lines : (d : Dialect) (n place line : ℕ) (first joined : Bool) (s bytes front : List ℕ) → bytes ≡ front ++ s → place ≡ length front → line ≡ count_by is_newline front + 1 → IfOk (scan d n place line first joined s) (HaveLines bytes)
unfolding scan
scan_lines d n place line first joined [] bytes front cut at counted = (line_here bytes front [] place line cut at counted, tt)
scan_lines d (suc n) place line first joined (b ∷ s) bytes front cut at counted =
    scan_lines d n (place + 1) (line_after b line) first joined s bytes (front ++ b ∷ []) (cut ∙ sym (append_assoc front (b ∷ []) s)) (omega (arith, at, length-append front (b ∷ []))) (line_more b line front counted)
scan_lines d zero place line first joined (b ∷ s) bytes front cut at counted =
    after_piece_lines place (HaveLines bytes) (piece d b s)
    (λ f. in_front (tokens_at (kind_of d f.piece) place (place + f.length) line first joined) (scan d (f.length - 1) (place + 1) (line_after b line) (first_after first f.piece) (is_some (kind_of d f.piece)) s))
    (λ f. in_front_lines bytes (kind_of d f.piece) place (place + f.length) line first joined (scan d (f.length - 1) (place + 1) (line_after b line) (first_after first f.piece) (is_some (kind_of d f.piece)) s) (line_here bytes front (b ∷ s) place line cut at counted)
    (scan_lines d (f.length - 1) (place + 1) (line_after b line) (first_after first f.piece) (is_some (kind_of d f.piece)) s bytes (front ++ b ∷ []) (cut ∙ sym (append_assoc front (b ∷ []) s)) (omega (arith, at, length-append front (b ∷ []))) (line_more b line front counted)))

pub tokens_have_lines : (d : Dialect) (bytes : List ℕ) (ts : List Token) → limited bytes (scan d 0 0 1 true false bytes) ≡ Ok ts → HaveLines bytes ts
tokens_have_lines d bytes ts h =
    unlimited bytes (scan d 0 0 1 true false bytes) ts (HaveLines bytes) h (scan_lines d 0 0 1 true false bytes bytes [] refl refl refl)
