-- A file that is read piece by piece.
use Rattle.std.proofs.Common.{◌≡◌, ℕ, zero, suc, ◌+◌, ◌-◌, ◌<◌, ◌≤◌, Bool, true, false, List, [], ◌∷◌, ◌++◌, length, take, drop, get_or, Some, Result, Ok, Err, cond, leb, le-leb, refl, sym, ap, ◌∙◌, append_assoc, add-zero, subst, arith}
use Rattle.std.specs.Prelude.{count_by, is_some}
use Rattle.std.proofs.lemmas.Bool.Decides.{nat_tests}
use Rattle.std.proofs.lemmas.List.Sums.{sum_by-cons}
use Rattle.p9_lex.specs.declared.broken.Break.{Break}
use Rattle.p9_lex.specs.declared.broken.Stop.{Stop}
use Rattle.p9_lex.specs.declared.piece.Found.{Found}
use Rattle.p9_lex.specs.declared.token.Dialect.{Dialect}
use Rattle.p9_lex.specs.declared.token.Token.{Token}
use Rattle.p9_lex.specs.declared.token.TokenKind.TheVariants.{End}
use Rattle.p9_lex.specs.declared.broken.PieceFault.{PieceFault}
use Rattle.p9_lex.specs.declared.broken.PieceFault.TheVariants as piece_fault
use Rattle.p9_lex.specs.declared.scan.ScanFault.{ScanFault}
use Rattle.p9_lex.specs.declared.token.LexFault.{LexFault}
use Rattle.p9_lex.specs.declared.broken.Reason.TheVariants as reason
use Rattle.p9_lex.specs.Broken.{IsBreak}
use Rattle.p9_lex.specs.Classes.{is_newline}
use Rattle.p9_lex.specs.Piece.{piece}
use Rattle.p9_lex.specs.Tokens.{kind_of, first_after, line_after, tokens_at, in_front, after_piece, scan, max_bytes, too_long, first_stop, limited, IsStop, IsStopped, lexed, answer_of, fault_by, fault_of, IsRefusal}
use Rattle.p9_lex.proofs.Slices.{slice_rest, slice_front}

-- lines and places, past a byte

lines_by : (c : Bool) (line n : ℕ) → cond c (line + 1) line + n ≡ line + (cond c 1 0 + n)
lines_by true line n = omega arith
lines_by false line n = omega arith

pub lines_past : (b line : ℕ) (s : List ℕ) → line_after b line + count_by is_newline s ≡ line + count_by is_newline (b ∷ s)
lines_past b line s =
    lines_by (is_newline b) line (count_by is_newline s)
    ∙ ap (λ n. line + n) (sym (sum_by-cons (λ x. cond (is_newline x) 1 0) b s))

-- bytes of a piece that is read are passed by
scan-inside : (d : Dialect) (n place line : ℕ) (first joined : Bool) (s : List ℕ) → n ≤ length s → scan d n place line first joined s ≡ scan d 0 (place + n) (line + count_by is_newline (take n s)) first joined (drop n s)
unfolding scan
scan-inside d zero place line first joined s h =
    ap (λ p. scan d 0 p line first joined s) (sym (add-zero place)) ∙ ap (λ l. scan d 0 (place + 0) l first joined s) (sym (add-zero line))
scan-inside d (suc n) place line first joined [] h = absurd (omega (arith, h))
scan-inside d (suc n) place line first joined (b ∷ s) h =
    scan-inside d n (place + 1) (line_after b line) first joined s (omega (arith, h))
    ∙ ap (λ p. scan d 0 p (line_after b line + count_by is_newline (take n s)) first joined (drop n s)) (omega arith)
    ∙ ap (λ l. scan d 0 (place + suc n) l first joined (drop n s)) (lines_past b line (take n s))

-- a piece and what follows it
scan-piece : (d : Dialect) (place line : ℕ) (first joined : Bool) (b : ℕ) (s : List ℕ) (f : Found) → piece d b s ≡ Ok f → 1 ≤ f.length → f.length ≤ 1 + length s → scan d 0 place line first joined (b ∷ s) ≡ in_front (tokens_at (kind_of d f.piece) place (place + f.length) line first joined) (scan d 0 (place + f.length) (line + count_by is_newline (take f.length (b ∷ s))) (first_after first f.piece) (is_some (kind_of d f.piece)) (drop f.length (b ∷ s)))
unfolding scan
scan-piece d place line first joined b s f e some within =
    let n = f.length - 1 in
    let whole : suc n ≡ f.length = omega (arith, some) in
    let next = λ (g : Found). in_front (tokens_at (kind_of d g.piece) place (place + g.length) line first joined) (scan d (g.length - 1) (place + 1) (line_after b line) (first_after first g.piece) (is_some (kind_of d g.piece)) s) in
    let rest = λ (m : ℕ). scan d 0 (place + m) (line + count_by is_newline (take m (b ∷ s))) (first_after first f.piece) (is_some (kind_of d f.piece)) (drop m (b ∷ s)) in
    ap (λ r. after_piece place r next) e
    ∙ ap (in_front (tokens_at (kind_of d f.piece) place (place + f.length) line first joined))
    (scan-inside d n (place + 1) (line_after b line) (first_after first f.piece) (is_some (kind_of d f.piece)) s (omega (arith, some, within))
    ∙ ap (λ p. scan d 0 p (line_after b line + count_by is_newline (take n s)) (first_after first f.piece) (is_some (kind_of d f.piece)) (drop n s)) (let p : place + 1 + n ≡ place + suc n = omega arith in p)
    ∙ ap (λ l. scan d 0 (place + suc n) l (first_after first f.piece) (is_some (kind_of d f.piece)) (drop n s)) (lines_past b line (take n s))
    ∙ ap rest whole)

scan-broken : (d : Dialect) (place line : ℕ) (first joined : Bool) (b : ℕ) (s : List ℕ) (e : Break) → piece d b s ≡ Err e → scan d 0 place line first joined (b ∷ s) ≡ Err (record { reason = e.reason; start = place; by = place + e.by })
unfolding scan
scan-broken d place line first joined b s e broken =
    ap (λ r. after_piece place r (λ f. in_front (tokens_at (kind_of d f.piece) place (place + f.length) line first joined) (scan d (f.length - 1) (place + 1) (line_after b line) (first_after first f.piece) (is_some (kind_of d f.piece)) s))) broken

-- no rule is broken before the place from which a file is read on

abbrev NotBefore : ℕ → Result (List Token) Stop → Type 0
NotBefore place (Ok ts) = Unit {0}
NotBefore place (Err stop) = place ≤ stop.by

not_before_in_front : (p q : ℕ) (ts : List Token) (answer : Result (List Token) Stop) → NotBefore p answer → q ≤ p → NotBefore q (in_front ts answer)
not_before_in_front p q ts (Ok us) h le = tt
not_before_in_front p q ts (Err stop) h le = omega (arith, h)

not_before_more : (p q : ℕ) (answer : Result (List Token) Stop) → NotBefore p answer → q ≤ p → NotBefore q answer
not_before_more p q (Ok us) h le = tt
not_before_more p q (Err stop) h le = omega (arith, h)

not_before_piece : (place : ℕ) (answer : Result Found Break) (next : Found → Result (List Token) Stop) → ((f : Found) → NotBefore place (next f)) → NotBefore place (after_piece place answer next)
not_before_piece place (Ok f) next h = h f
not_before_piece place (Err e) next h = omega arith

scan-not_before : (d : Dialect) (n place line : ℕ) (first joined : Bool) (s : List ℕ) → NotBefore place (scan d n place line first joined s)
unfolding scan
scan-not_before d n place line first joined [] = tt
scan-not_before d (suc n) place line first joined (b ∷ s) =
    not_before_more (place + 1) place (scan d n (place + 1) (line_after b line) first joined s) (scan-not_before d n (place + 1) (line_after b line) first joined s) (omega arith)
scan-not_before d zero place line first joined (b ∷ s) =
    not_before_piece place (piece d b s)
    (λ f. in_front (tokens_at (kind_of d f.piece) place (place + f.length) line first joined) (scan d (f.length - 1) (place + 1) (line_after b line) (first_after first f.piece) (is_some (kind_of d f.piece)) s))
    (λ f. not_before_in_front (place + 1) place (tokens_at (kind_of d f.piece) place (place + f.length) line first joined) (scan d (f.length - 1) (place + 1) (line_after b line) (first_after first f.piece) (is_some (kind_of d f.piece)) s) (scan-not_before d (f.length - 1) (place + 1) (line_after b line) (first_after first f.piece) (is_some (kind_of d f.piece)) s) (omega arith))

-- The steps of the loop, in the words of the code

in_front-append : (ts us : List Token) (answer : Result (List Token) Stop) → in_front (ts ++ us) answer ≡ in_front ts (in_front us answer)
in_front-append ts us (Ok rest) = ap (λ l. Ok l) (append_assoc ts us rest)
in_front-append ts us (Err stop) = refl

pub in_front_none : (answer : Result (List Token) Stop) → in_front [] answer ≡ answer
in_front_none (Ok ts) = refl
in_front_none (Err stop) = refl

pub scan_step : (d : Dialect) (sofar more : List Token) (left : List ℕ) (place line lines : ℕ) (first joined : Bool) (f : Found) → 1 ≤ length left → piece d (get_or left 0 0) (take (length left - 1) (drop 1 left)) ≡ Ok f → 1 ≤ f.length → f.length ≤ length left → more ≡ sofar ++ tokens_at (kind_of d f.piece) place (place + f.length) line first joined → lines ≡ line + count_by is_newline (take f.length left) → in_front more (scan d 0 (place + f.length) lines (first_after first f.piece) (is_some (kind_of d f.piece)) (take (length left - f.length) (drop f.length left))) ≡ in_front sofar (scan d 0 place line first joined left)
scan_step d sofar more left place line lines first joined f some_left found some within pushed counted =
    let b = get_or left 0 0 in
    let after = take (length left - 1) (drop 1 left) in
    let front = slice_front left some_left in
    let room : f.length ≤ 1 + length after = omega (arith, within, ap length front) in
    let next = λ (l : ℕ) (s : List ℕ). scan d 0 (place + f.length) l (first_after first f.piece) (is_some (kind_of d f.piece)) s in
    let tokens = tokens_at (kind_of d f.piece) place (place + f.length) line first joined in
    ap (λ m. in_front m (next lines (take (length left - f.length) (drop f.length left)))) pushed
    ∙ ap (λ s. in_front (sofar ++ tokens) (next lines s)) (slice_rest f.length left)
    ∙ ap (λ l. in_front (sofar ++ tokens) (next l (drop f.length left))) counted
    ∙ in_front-append sofar tokens (next (line + count_by is_newline (take f.length left)) (drop f.length left))
    ∙ ap (λ s. in_front sofar (in_front tokens (next (line + count_by is_newline (take f.length s)) (drop f.length s)))) front
    ∙ ap (in_front sofar) (sym (scan-piece d place line first joined b after f found some room))
    ∙ ap (λ s. in_front sofar (scan d 0 place line first joined s)) (sym front)

pub scan_stop : (d : Dialect) (sofar : List Token) (left : List ℕ) (place line : ℕ) (first joined : Bool) (e : Break) → 1 ≤ length left → piece d (get_or left 0 0) (take (length left - 1) (drop 1 left)) ≡ Err e → in_front sofar (scan d 0 place line first joined left) ≡ Err (record { reason = e.reason; start = place; by = place + e.by })
scan_stop d sofar left place line first joined e some_left broken =
    ap (λ s. in_front sofar (scan d 0 place line first joined s)) (slice_front left some_left)
    ∙ ap (in_front sofar) (scan-broken d place line first joined (get_or left 0 0) (take (length left - 1) (drop 1 left)) e broken)

-- a piece that goes past the limit, in a file that does
limited_past : (bytes : List ℕ) (answer : Result (List Token) Stop) → max_bytes < length bytes → NotBefore max_bytes answer → limited bytes answer ≡ Err too_long
limited_past bytes (Ok ts) long h = grind (arith, nat_tests)
limited_past bytes (Err stop) long h = grind (arith, nat_tests)

pub scan_past : (d : Dialect) (bytes : List ℕ) (whole : Result (List Token) Stop) (sofar : List Token) (left : List ℕ) (place line : ℕ) (first joined : Bool) (f : Found) → in_front sofar (scan d 0 place line first joined left) ≡ whole → place + length left ≡ length bytes → 1 ≤ length left → piece d (get_or left 0 0) (take (length left - 1) (drop 1 left)) ≡ Ok f → 1 ≤ f.length → f.length ≤ length left → max_bytes < place + f.length → limited bytes whole ≡ Err too_long
scan_past d bytes whole sofar left place line first joined f reads counted some_left found some within past =
    let b = get_or left 0 0 in
    let after = take (length left - 1) (drop 1 left) in
    let front = slice_front left some_left in
    let room : f.length ≤ 1 + length after = omega (arith, within, ap length front) in
    let tokens = tokens_at (kind_of d f.piece) place (place + f.length) line first joined in
    let rest = scan d 0 (place + f.length) (line + count_by is_newline (take f.length (b ∷ after))) (first_after first f.piece) (is_some (kind_of d f.piece)) (drop f.length (b ∷ after)) in
    let later : NotBefore max_bytes (in_front sofar (in_front tokens rest)) =
    not_before_in_front (place + f.length) max_bytes sofar (in_front tokens rest)
    (not_before_in_front (place + f.length) (place + f.length) tokens rest (scan-not_before d 0 (place + f.length) (line + count_by is_newline (take f.length (b ∷ after))) (first_after first f.piece) (is_some (kind_of d f.piece)) (drop f.length (b ∷ after))) (omega arith))
    (omega (arith, past)) in
    let same : in_front sofar (in_front tokens rest) ≡ whole =
    ap (in_front sofar) (sym (scan-piece d place line first joined b after f found some room))
    ∙ ap (λ s. in_front sofar (scan d 0 place line first joined s)) (sym front) ∙ reads in
    limited_past bytes whole (omega (arith, past, within, counted)) (subst (NotBefore max_bytes) same later)

pub scan_stopped : (d : Dialect) (bytes : List ℕ) (whole : Result (List Token) Stop) (sofar : List Token) (left : List ℕ) (place line : ℕ) (first joined : Bool) (fault : PieceFault) (answer : ScanFault) → in_front sofar (scan d 0 place line first joined left) ≡ whole → 1 ≤ length left → IsBreak fault (piece d (get_or left 0 0) (take (length left - 1) (drop 1 left))) → IsStopped (length bytes) place fault answer → IsStop answer (limited bytes whole)
scan_stopped d bytes whole sofar left place line first joined (piece_fault.Break e) answer reads some_left broken is =
    let stop : Stop = record { reason = e.reason; start = place; by = place + e.by } in
    let refused : limited bytes whole ≡ Err (first_stop (length bytes) stop) = ap (limited bytes) (sym reads ∙ scan_stop d sofar left place line first joined e some_left broken) in
    subst (λ a. IsStop a (limited bytes whole)) (sym is) refused
scan_stopped d bytes whole sofar left place line first joined piece_fault.Memory answer reads some_left broken is =
    subst (λ a. IsStop a (limited bytes whole)) (sym is) tt

pub scan_end : (d : Dialect) (bytes : List ℕ) (whole : Result (List Token) Stop) (sofar more : List Token) (left : List ℕ) (place line : ℕ) (first joined : Bool) → in_front sofar (scan d 0 place line first joined left) ≡ whole → place + length left ≡ length bytes → place ≤ max_bytes → length left < 1 → more ≡ sofar ++ tokens_at (Some End) place place line first joined → limited bytes whole ≡ Ok more
unfolding scan
scan_end d bytes whole sofar more [] place line first joined reads counted small none pushed =
    let fits : leb (length bytes) max_bytes ≡ true = le-leb (length bytes) max_bytes (omega (arith, counted, small)) in
    ap (limited bytes) (sym reads) ∙ ap (λ c. cond c (Ok (sofar ++ tokens_at (Some End) place place line first joined)) (Err too_long)) fits ∙ ap (λ l. Ok l) (sym pushed)
scan_end d bytes whole sofar more (b ∷ s) place line first joined reads counted small none pushed = absurd (omega (arith, none))

-- The answer

pub tokens_of_file : (d : Dialect) (bytes : List ℕ) (ts : List Token) → limited bytes (scan d 0 0 1 true false bytes) ≡ Ok ts → lexed d bytes ≡ Ok ts
unfolding lexed
tokens_of_file d bytes ts h = ap (answer_of bytes) h

refusal_by : (d : Dialect) (bytes : List ℕ) (r : reason.the_data) (start by : ℕ) → lexed d bytes ≡ Err (fault_by r bytes start by) → IsRefusal d bytes (fault_by r bytes start by)
refusal_by d bytes reason.BadByte start by h = h
refusal_by d bytes reason.OpenComment start by h = h
refusal_by d bytes reason.OpenText start by h = h
refusal_by d bytes reason.WideNumber start by h = h

pub refusal_of_file : (d : Dialect) (bytes : List ℕ) (stop : Stop) (e : LexFault) → limited bytes (scan d 0 0 1 true false bytes) ≡ Err stop → e ≡ fault_of bytes stop → IsRefusal d bytes e
unfolding lexed
refusal_of_file d bytes stop e h is = subst (IsRefusal d bytes) (sym is) (refusal_by d bytes stop.reason stop.start stop.by (ap (answer_of bytes) h))
