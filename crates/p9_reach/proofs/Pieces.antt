-- The piece, function and instruction that a line belongs to, and the words before pieces.
use Rattle.std.proofs.Common.{ℕ, zero, suc, ◌+◌, ◌-◌, ◌≡◌, ◌≤◌, ◌<◌, ◌⊎◌, inl, inr, nat_lt, Bool, true, false, Option, Some, List, [], ◌∷◌, ◌++◌, length, take, drop, sum_by, refl, sym, ap, ◌∙◌, subst, arith, append_assoc, length-append}
use Rattle.std.specs.Prelude.{slice_get, slice_index}
use Rattle.std.proofs.Math.Seq.{take-append_seam}
use Rattle.std.proofs.lemmas.List.{take-append-drop}
use Rattle.std.proofs.lemmas.List.Sums.{sum_by-cons, sum_by-append}
use Rattle.std.proofs.lemmas.Option.{none-some, same_Some}
use Rattle.std.proofs.lemmas.Bool.Decides.{nat_tests}
use Rattle.p9_abs.specs.declared.instructions.Abs.{Abs}
use Rattle.p9_abs.specs.Forms.{decoded, weight_of}
use Rattle.p9_abs.specs.Runs.{Routine}
use Rattle.p9_r3k.specs.declared.lines.Line.{Line}
use Rattle.p9_text.specs.Places.{places_of}
use Rattle.p9_slot.proofs.Lists.{get_left, get_behind}
use Rattle.p9_lines.specs.Weights.{inst_words, words_needed}
use Rattle.p9_lines.specs.FormLines.{entry_lines}
use Rattle.p9_pieces.specs.Ways.{Scope, words_from, setting_of, scope_of}
use Rattle.p9_pieces.specs.Pieces.{Piece, form_lines, code_pieces, function_pieces, pieces_from, joined}
use Rattle.p9_pieces.proofs.Stepping.{joined-append}
use Rattle.p9_pieces.proofs.Within.{instructions_within}
use Rattle.p9_expand_laws.proofs.Numbered.{code-piece, piece-at}
use Rattle.p9_refine.proofs.Numbers.{rises}

-- Lines in pieces

-- line j of pieces is line k of piece n
pub record InPiece (ps : List Piece) (j : ℕ) (line : Line) : Type 0 where
  pub number : ℕ
  pub own : Piece
  pub at : ℕ
  pub there : slice_get ps number ≡ Some own
  pub inside : slice_get own at ≡ Some line
  pub place : j ≡ length (joined (take number ps)) + at

pub find-piece : (ps : List Piece) (j : ℕ) (line : Line) → slice_get (joined ps) j ≡ Some line → InPiece ps j line
find-piece [] j line e = absurd (none-some line e)
find-piece (p ∷ ps) j line e = by (nat_lt j (length p)) refl (λ h. find-piece ps (j - length p) line h)
  where
    by : (b : Bool) → nat_lt j (length p) ≡ b → (slice_get (joined ps) (j - length p) ≡ Some line → InPiece ps (j - length p) line) → InPiece (p ∷ ps) j line
    by true h later =
        let less : j < length p = grind (arith, nat_tests) in
        record { number = 0; own = p; at = j; there = refl; inside = sym (get_left p (joined ps) j less) ∙ e; place = omega arith }
    by false h later =
        let more : length p ≤ j = grind (arith, nat_tests) in
        let deep = later (sym (get_behind p (joined ps) (length p) (j - length p) j refl (omega (arith, more))) ∙ e) in
        record {
          number = suc deep.number;
          own = deep.own;
          at = deep.at;
          there = deep.there;
          inside = deep.inside;
          place = omega (arith, more, deep.place, length-append p (joined (take deep.number ps)));
        }

-- Pieces of functions

abbrev pub entry_of : List Routine → ℕ → ℕ
entry_of rs f = sum_by places_of (take f rs)

pub record IsEntry (rs : List Routine) (own : Piece) : Type 0 where
  pub routine : Routine
  pub same : own ≡ entry_lines (setting_of routine)

pub record IsCode (callee : ℕ → ℕ → Option ℕ) (m : ℕ) (rs : List Routine) (n : ℕ) (own : Piece) : Type 0 where
  pub function : ℕ
  pub routine : Routine
  pub at : ℕ
  pub instruction : Abs
  pub there : slice_get rs function ≡ Some routine
  pub inside : slice_get routine.def.code at ≡ Some instruction
  pub place : n ≡ entry_of rs function + 1 + at
  pub same : own ≡ form_lines (scope_of callee (m + entry_of rs function) routine) at (decoded instruction)

code-within : (s : Scope) (m k : ℕ) (code : List Abs) (own : Piece) → slice_get (code_pieces s m code) k ≡ Some own → (a : Abs) × (slice_get code k ≡ Some a)
code-within s m k [] own e = absurd (none-some own e)
code-within s m zero (a ∷ rest) own e = (a, refl)
code-within s m (suc k) (a ∷ rest) own e = code-within s (m + 1) k rest own e

code-length : (s : Scope) (k : ℕ) (code : List Abs) → length (code_pieces s k code) ≡ length code
code-length s k [] = refl
code-length s k (a ∷ rest) = ap suc (code-length s (k + 1) rest)

in-function : (callee : ℕ → ℕ → Option ℕ) (m : ℕ) (r : Routine) (rs : List Routine) (n : ℕ) (own : Piece) →
    slice_get (function_pieces (scope_of callee m r) r.def.code) n ≡ Some own → IsEntry (r ∷ rs) own ⊎ IsCode callee m (r ∷ rs) n own
in-function callee m r rs zero own e = inl (record { routine = r; same = sym (same_Some (entry_lines (setting_of r)) own e) })
in-function callee m r rs (suc k) own e =
    let s : Scope = scope_of callee m r in
    let found = code-within s 0 k r.def.code own e in
    let lines : slice_get (code_pieces s 0 r.def.code) k ≡ Some (form_lines s (0 + k) (decoded found.0)) = code-piece s 0 k r.def.code found.0 found.1 in
    let zero_scope : s ≡ scope_of callee (m + entry_of (r ∷ rs) 0) r = ap (λ x. scope_of callee x r) (omega arith) in
    inr (record {
      function = 0;
      routine = r;
      at = k;
      instruction = found.0;
      there = refl;
      inside = found.1;
      place = omega arith;
      same =
          same_Some own (form_lines s (0 + k) (decoded found.0)) (sym e ∙ lines)
          ∙ ap (λ x. form_lines s x (decoded found.0)) (let z : 0 + k ≡ k = omega arith in z)
          ∙ ap (λ z. form_lines z k (decoded found.0)) zero_scope;
    })

pub find-code : (callee : ℕ → ℕ → Option ℕ) (m : ℕ) (rs : List Routine) (n : ℕ) (own : Piece) → slice_get (pieces_from callee m rs) n ≡ Some own →
    IsEntry rs own ⊎ IsCode callee m rs n own
find-code callee m [] n own e = absurd (none-some own e)
find-code callee m (r ∷ rs) n own e =
    by (nat_lt n (places_of r)) refl (λ h. find-code callee (m + places_of r) rs (n - places_of r) own h)
  where
    count : length (function_pieces (scope_of callee m r) r.def.code) ≡ places_of r
    count = omega (arith, code-length (scope_of callee m r) 0 r.def.code)

    deeper : places_of r ≤ n → IsCode callee (m + places_of r) rs (n - places_of r) own → IsCode callee m (r ∷ rs) n own
    deeper more c =
        let all : entry_of (r ∷ rs) (suc c.function) ≡ places_of r + entry_of rs c.function = sum_by-cons places_of r (take c.function rs) in
        record {
          function = suc c.function;
          routine = c.routine;
          at = c.at;
          instruction = c.instruction;
          there = c.there;
          inside = c.inside;
          place = omega (arith, more, c.place, all);
          same = c.same ∙ ap (λ x. form_lines (scope_of callee x c.routine) c.at (decoded c.instruction)) (omega (arith, all));
        }

    shifted : places_of r ≤ n → IsEntry rs own ⊎ IsCode callee (m + places_of r) rs (n - places_of r) own → IsEntry (r ∷ rs) own ⊎ IsCode callee m (r ∷ rs) n own
    shifted more (inl x) = inl (record { routine = x.routine; same = x.same })
    shifted more (inr c) = inr (deeper more c)

    by : (b : Bool) → nat_lt n (places_of r) ≡ b →
        (slice_get (pieces_from callee (m + places_of r) rs) (n - places_of r) ≡ Some own → IsEntry rs own ⊎ IsCode callee (m + places_of r) rs (n - places_of r) own) →
        IsEntry (r ∷ rs) own ⊎ IsCode callee m (r ∷ rs) n own
    by true h later =
        let less : n < places_of r = grind (arith, nat_tests) in
        let here : slice_get (function_pieces (scope_of callee m r) r.def.code) n ≡ Some own =
        sym (get_left (function_pieces (scope_of callee m r) r.def.code) (pieces_from callee (m + places_of r) rs) n (omega (arith, less, count))) ∙ e in
        in-function callee m r rs n own here
    by false h later =
        let more : places_of r ≤ n = grind (arith, nat_tests) in
        shifted more
        (later (sym (get_behind (function_pieces (scope_of callee m r) r.def.code) (pieces_from callee (m + places_of r) rs) (places_of r) (n - places_of r) n count (omega (arith, more))) ∙ e))

-- Words

pub words-append : (xs ys : List Line) → words_needed (xs ++ ys) ≡ words_needed xs + words_needed ys
words-append xs ys = sum_by-append (λ (l : Line). inst_words l.inst) xs ys

-- the words of the pieces before piece n
abbrev pub words_before : List Piece → ℕ → ℕ
words_before ps n = words_needed (joined (take n ps))

pub words-longer : (ps : List Piece) (n : ℕ) (own : Piece) → slice_get ps n ≡ Some own → words_before ps (suc n) ≡ words_before ps n + words_needed own
words-longer [] n own e = absurd (none-some own e)
words-longer (p ∷ ps) zero own e =
    words-append p (joined []) ∙ (let same : p ≡ own = same_Some p own e in omega (arith, ap words_needed same))
words-longer (p ∷ ps) (suc n) own e =
    omega (arith, words-append p (joined (take (suc n) ps)), words-append p (joined (take n ps)), words-longer ps n own e)

words-next : (ps : List Piece) (n : ℕ) → words_before ps n ≤ words_before ps (suc n)
words-next [] zero = omega arith
words-next [] (suc n) = omega arith
words-next (p ∷ ps) zero = omega arith
words-next (p ∷ ps) (suc n) = omega (arith, words-append p (joined (take (suc n) ps)), words-append p (joined (take n ps)), words-next ps n)

pub words-rise : (ps : List Piece) (i j : ℕ) → i ≤ j → words_before ps i ≤ words_before ps j
words-rise ps i j le = rises (words_before ps) (words-next ps) i j le

-- the words of the lines before a piece
pub words-prefix : (start : List Line) (ps : List Piece) (n : ℕ) →
    words_needed (take (length start + length (joined (take n ps))) (start ++ joined ps)) ≡ words_needed start + words_before ps n
words-prefix start ps n =
    let front : List Line = start ++ joined (take n ps) in
    let parted : start ++ joined ps ≡ front ++ joined (drop n ps) =
    ap (λ l. start ++ l) (ap joined (sym (take-append-drop n ps)) ∙ joined-append (take n ps) (drop n ps)) ∙ sym (append_assoc start (joined (take n ps)) (joined (drop n ps))) in
    ap (λ l. words_needed (take (length start + length (joined (take n ps))) l)) parted
    ∙ ap (λ k. words_needed (take k (front ++ joined (drop n ps)))) (sym (length-append start (joined (take n ps))))
    ∙ ap words_needed (take-append_seam front (joined (drop n ps)))
    ∙ words-append start (joined (take n ps))

-- Code

pub words-step : (n : ℕ) (code : List Abs) (k : ℕ) (a : Abs) → slice_get code k ≡ Some a → suc k < length code →
    slice_index (words_from n code) (suc k) ≡ slice_index (words_from n code) k + weight_of a
words-step n [] k a e h = absurd (omega (arith, h))
words-step n (b ∷ []) zero a e h = absurd (omega (arith, h))
words-step n (b ∷ c ∷ rest) zero a e h = ap (λ (x : Abs). n + weight_of x) (same_Some b a e)
words-step n (b ∷ rest) (suc k) a e h = words-step (n + weight_of b) rest k a e (omega (arith, h))

-- the piece of an instruction
pub code-at : (callee : ℕ → ℕ → Option ℕ) (rs : List Routine) (f k : ℕ) (r : Routine) (a : Abs) → slice_get rs f ≡ Some r → slice_get r.def.code k ≡ Some a →
    slice_get (pieces_from callee 0 rs) (entry_of rs f + 1 + k) ≡ Some (form_lines (scope_of callee (0 + entry_of rs f) r) k (decoded a))
code-at callee rs f k r a e there =
    let s : Scope = scope_of callee (0 + entry_of rs f) r in
    let own : Piece = form_lines s k (decoded a) in
    let here : slice_get (function_pieces s r.def.code) (suc k) ≡ Some own = code-piece s 0 k r.def.code a there ∙ ap (λ n. Some (form_lines s n (decoded a))) (omega arith) in
    ap (slice_get (pieces_from callee 0 rs)) (omega arith) ∙ piece-at callee 0 rs f r (suc k) own e here

instruction-within : (code : List Abs) (k : ℕ) → k < length code → (a : Abs) × (slice_get code k ≡ Some a)
instruction-within [] k h = absurd (omega (arith, h))
instruction-within (a ∷ rest) zero h = (a, refl)
instruction-within (a ∷ rest) (suc k) h = instruction-within rest k (omega (arith, h))

-- between two instructions of a function lie at most the words of the weights between them
code-gap : (callee : ℕ → ℕ → Option ℕ) (rs : List Routine) (f : ℕ) (r : Routine) → slice_get rs f ≡ Some r → (k d : ℕ) → k + d < length r.def.code →
    words_before (pieces_from callee 0 rs) (entry_of rs f + 1 + (k + d)) + slice_index (words_from 0 r.def.code) k
    ≤ words_before (pieces_from callee 0 rs) (entry_of rs f + 1 + k) + slice_index (words_from 0 r.def.code) (k + d)
code-gap callee rs f r e k zero h =
    let P : ℕ → Type 0 = λ x. words_before (pieces_from callee 0 rs) (entry_of rs f + 1 + x) + slice_index (words_from 0 r.def.code) k
    ≤ words_before (pieces_from callee 0 rs) (entry_of rs f + 1 + k) + slice_index (words_from 0 r.def.code) x in
    subst P (let z : k ≡ k + 0 = omega arith in z) (omega arith)
code-gap callee rs f r e k (suc d) h =
    let ps = pieces_from callee 0 rs in
    let P : ℕ → Type 0 = λ x. words_before ps (entry_of rs f + 1 + x) + slice_index (words_from 0 r.def.code) k
    ≤ words_before ps (entry_of rs f + 1 + k) + slice_index (words_from 0 r.def.code) x in
    let j : ℕ = k + d in
    let found = instruction-within r.def.code j (omega (arith, h)) in
    let s : Scope = scope_of callee (0 + entry_of rs f) r in
    let longer : words_before ps (suc (entry_of rs f + 1 + j)) ≡ words_before ps (entry_of rs f + 1 + j) + words_needed (form_lines s j (decoded found.0)) =
    words-longer ps (entry_of rs f + 1 + j) (form_lines s j (decoded found.0)) (code-at callee rs f j r found.0 e found.1) in
    let up : words_before ps (entry_of rs f + 1 + suc j) ≡ words_before ps (suc (entry_of rs f + 1 + j)) = ap (words_before ps) (let z : entry_of rs f + 1 + suc j ≡ suc (entry_of rs f + 1 + j) = omega arith in z) in
    let step : slice_index (words_from 0 r.def.code) (suc j) ≡ slice_index (words_from 0 r.def.code) j + weight_of found.0 =
    words-step 0 r.def.code j found.0 found.1 (omega (arith, h)) in
    subst P (let z : suc j ≡ k + suc d = omega arith in z)
    (omega (arith, code-gap callee rs f r e k d (omega (arith, h)), longer, up, step, instructions_within s j found.0))

pub code-between : (callee : ℕ → ℕ → Option ℕ) (rs : List Routine) (f : ℕ) (r : Routine) → slice_get rs f ≡ Some r → (k l : ℕ) → k ≤ l → l < length r.def.code →
    words_before (pieces_from callee 0 rs) (entry_of rs f + 1 + l) + slice_index (words_from 0 r.def.code) k
    ≤ words_before (pieces_from callee 0 rs) (entry_of rs f + 1 + k) + slice_index (words_from 0 r.def.code) l
code-between callee rs f r e k l le h =
    let P : ℕ → Type 0 = λ x. words_before (pieces_from callee 0 rs) (entry_of rs f + 1 + x) + slice_index (words_from 0 r.def.code) k
    ≤ words_before (pieces_from callee 0 rs) (entry_of rs f + 1 + k) + slice_index (words_from 0 r.def.code) x in
    subst P (let z : k + (l - k) ≡ l = omega (arith, le) in z) (code-gap callee rs f r e k (l - k) (omega (arith, le, h)))
