-- A line that goes somewhere and is no jump lies near its goal, in words.
use Rattle.std.proofs.Common.{ℕ, zero, suc, ◌+◌, ◌≡◌, ◌≤◌, ◌<◌, ◌⊎◌, inl, inr, ◌||◌, nat_lt, nat_le, Bool, true, false, Option, Some, None, List, [], ◌∷◌, ◌++◌, length, take, map, refl, sym, ap, ◌∙◌, subst, All, arith}
use Rattle.std.specs.Prelude.{option_map, unwrap_or, slice_get, slice_index}
use Rattle.std.proofs.lemmas.Option.{none-some, same_Some, slice_get_within}
use Rattle.std.proofs.lemmas.Bool.Decides.{nat_tests}
use Rattle.p9_abs.specs.declared.instructions.Abs.{Abs}
use Rattle.p9_abs.specs.declared.modules.AModule.{AModule}
use Rattle.p9_abs.specs.declared.forms.Form.{Form}
use Rattle.p9_abs.specs.Forms.{decoded, words_of, weight_of}
use Rattle.p9_abs.specs.Runs.{Routine}
use Rattle.p9_abs.specs.BuiltIn.{linked}
use Rattle.p9_abs.specs.Programs.{routines_of, definition_of}
use Rattle.p9_object.specs.Laws.{IsObject}
use Rattle.p9_r3k.specs.declared.inst.Inst.{Inst}
use Rattle.p9_r3k.specs.declared.inst.Inst.TheVariants as i
use Rattle.p9_r3k.specs.declared.lines.Line.{Line}
use Rattle.p9_r3k.specs.declared.lines.Part.TheVariants.{High, Low}
use Rattle.p9_slot.specs.Aimed.{IsAimed, AreAimed}
use Rattle.p9_slot.specs.Blocks.{is_named}
use Rattle.p9_slot.proofs.Moving.{both}
use Rattle.p9_lines.specs.Weights.{inst_words, words_needed}
use Rattle.p9_lines.specs.declared.parts.Way.{Way}
use Rattle.p9_lines.specs.FormLines.{valued, lines_of, entry_lines, start_lines}
use Rattle.p9_lines.proofs.Leading.{entry_leads}
use Rattle.p9_pieces.specs.Callees.{callee_in}
use Rattle.p9_pieces.specs.Ways.{Scope, in_reach, words_from, setting_of, scope_of, way_of}
use Rattle.p9_pieces.specs.Pieces.{Piece, form_lines, pieces_from, joined}
use Rattle.p9_pieces.proofs.Within.{instructions_within}
use Rattle.p9_expand.specs.Base.{argument_list, base_offset}
use Rattle.p9_expand.specs.Program.{aimed, is_first, marked, starts_of, program_lines}
use Rattle.p9_expand.proofs.Valid.{all_sound}
use Rattle.p9_expand.proofs.Leading.{numbers_of, pieces_length, callee_below, pieces_aimed}
use Rattle.p9_expand_laws.proofs.Numbered.{starts-at}
use Rattle.p9_refine.proofs.Fine.{all-valid}
use Rattle.p9_image_laws.specs.Reaching.{is_jump}
use Rattle.p9_reach.proofs.Spacing.{before, words-cons}
use Rattle.p9_reach.proofs.Pieces.{InPiece, find-piece, entry_of, IsEntry, IsCode, find-code, words_before, words-longer, words-rise, words-prefix, words-step, code-at, code-between}
use Rattle.p9_reach.proofs.Branching.{IsTurn, Goes, Shortly, Over, FormBranches, form-branches, lead-none}

-- Between an instruction and its goal

words-length : (n : ℕ) (code : List Abs) → length (words_from n code) ≡ length code
words-length n [] = refl
words-length n (a ∷ rest) = ap suc (words-length (n + weight_of a) rest)

reach-both : (m n : ℕ) → in_reach m n ≡ true → (m ≤ n + 32767) × (n ≤ m + 32767)
reach-both m n h =
    let parts : (nat_le m (n + 32767) ≡ true) × (nat_le n (m + 32767) ≡ true) = both (nat_le m (n + 32767)) (nat_le n (m + 32767)) h in
    let first : nat_le m (n + 32767) ≡ true = parts.0 in
    let second : nat_le n (m + 32767) ≡ true = parts.1 in
    (grind (arith, nat_tests), grind (arith, nat_tests))

-- pieces n and m lie near each other, in words
abbrev AreNear : List Piece → (m n : ℕ) → Type 0
AreNear ps m n = (words_before ps n ≤ words_before ps m + 32766) × (words_before ps m ≤ words_before ps n + 32767)

code-near : (callee : ℕ → ℕ → Option ℕ) (rs : List Routine) (f k n j : ℕ) (r : Routine) (a : Abs) (form : Form) (line : Line) →
    slice_get rs f ≡ Some r → slice_get r.def.code k ≡ Some a → decoded a ≡ Some form →
    FormBranches (scope_of callee (0 + entry_of rs f) r) k form n j line → AreNear (pieces_from callee 0 rs) (entry_of rs f + 1 + k) n
code-near callee rs f k n j r a form line e there decodes b = by b.0.goes
  where
    weight : weight_of a ≡ 4
    weight = ap (λ o. unwrap_or (option_map words_of o) 0) decodes ∙ b.1

    longer : words_before (pieces_from callee 0 rs) (suc (entry_of rs f + 1 + k))
        ≡ words_before (pieces_from callee 0 rs) (entry_of rs f + 1 + k) + words_needed (form_lines (scope_of callee (0 + entry_of rs f) r) k (decoded a))
    longer = words-longer (pieces_from callee 0 rs) (entry_of rs f + 1 + k) (form_lines (scope_of callee (0 + entry_of rs f) r) k (decoded a)) (code-at callee rs f k r a e there)

    own : words_needed (form_lines (scope_of callee (0 + entry_of rs f) r) k (decoded a))
        ≡ words_needed (lines_of (setting_of r) (way_of (scope_of callee (0 + entry_of rs f) r) k form) form)
    own = ap (λ o. words_needed (form_lines (scope_of callee (0 + entry_of rs f) r) k o)) decodes

    shortly : (label : ℕ) → n ≡ 0 + entry_of rs f + 1 + label → label < length (words_from 0 r.def.code) →
        in_reach (slice_index (words_from 0 r.def.code) k) (slice_index (words_from 0 r.def.code) label) ≡ true →
        words_needed (lines_of (setting_of r) (way_of (scope_of callee (0 + entry_of rs f) r) k form) form) ≡ 2 →
        AreNear (pieces_from callee 0 rs) (entry_of rs f + 1 + k) n
    shortly label at within near two = turn (nat_lt k label) refl
      where
        goal : words_before (pieces_from callee 0 rs) n ≡ words_before (pieces_from callee 0 rs) (entry_of rs f + 1 + label)
        goal = ap (words_before (pieces_from callee 0 rs)) (let z : n ≡ entry_of rs f + 1 + label = omega (arith, at) in z)

        inside : label < length r.def.code
        inside = omega (arith, within, words-length 0 r.def.code)

        close : (slice_index (words_from 0 r.def.code) k ≤ slice_index (words_from 0 r.def.code) label + 32767)
            × (slice_index (words_from 0 r.def.code) label ≤ slice_index (words_from 0 r.def.code) k + 32767)
        close = reach-both (slice_index (words_from 0 r.def.code) k) (slice_index (words_from 0 r.def.code) label) near

        turn : (c : Bool) → nat_lt k label ≡ c → AreNear (pieces_from callee 0 rs) (entry_of rs f + 1 + k) n
        turn true h =
            let less : k < label = grind (arith, nat_tests) in
            let gap = code-between callee rs f r e (suc k) label (omega (arith, less)) inside in
            let step : slice_index (words_from 0 r.def.code) (suc k) ≡ slice_index (words_from 0 r.def.code) k + weight_of a =
            words-step 0 r.def.code k a there (omega (arith, less, inside)) in
            let up : words_before (pieces_from callee 0 rs) (entry_of rs f + 1 + suc k) ≡ words_before (pieces_from callee 0 rs) (suc (entry_of rs f + 1 + k)) =
            ap (words_before (pieces_from callee 0 rs)) (let z : entry_of rs f + 1 + suc k ≡ suc (entry_of rs f + 1 + k) = omega arith in z) in
            let rise = words-rise (pieces_from callee 0 rs) (entry_of rs f + 1 + k) (entry_of rs f + 1 + label) (omega (arith, less)) in
            (omega (arith, goal, gap, step, up, longer, own, two, weight, close.1), omega (arith, goal, rise))
        turn false h =
            let more : label ≤ k = grind (arith, nat_tests) in
            let k_inside : k < length r.def.code = slice_get_within r.def.code k a there in
            let gap = code-between callee rs f r e label k more k_inside in
            let rise = words-rise (pieces_from callee 0 rs) (entry_of rs f + 1 + label) (entry_of rs f + 1 + k) (omega (arith, more)) in
            (omega (arith, goal, rise), omega (arith, goal, gap, close.0))

    over : n ≡ 0 + entry_of rs f + 1 + k + 1 → AreNear (pieces_from callee 0 rs) (entry_of rs f + 1 + k) n
    over at =
        let goal : words_before (pieces_from callee 0 rs) n ≡ words_before (pieces_from callee 0 rs) (suc (entry_of rs f + 1 + k)) =
        ap (words_before (pieces_from callee 0 rs)) (let z : n ≡ suc (entry_of rs f + 1 + k) = omega (arith, at) in z) in
        let few = instructions_within (scope_of callee (0 + entry_of rs f) r) k a in
        (omega (arith, goal, longer, few, weight), omega (arith, goal, longer))

    by : Goes (0 + entry_of rs f + 1) (0 + entry_of rs f + 1 + k + 1) n (words_needed (lines_of (setting_of r) (way_of (scope_of callee (0 + entry_of rs f) r) k form) form))
        (λ label. in_reach (slice_index (words_from 0 r.def.code) k) (slice_index (words_from 0 r.def.code) label)) (length (words_from 0 r.def.code)) →
        AreNear (pieces_from callee 0 rs) (entry_of rs f + 1 + k) n
    by (Shortly label at within near two) = shortly label at within near two
    by (Over at) = over at

-- Lines of pieces

-- a line at number j of the pieces is the first of piece m, and turns
pub record IsTurning (ps : List Piece) (j n : ℕ) (line : Line) : Type 0 where
  pub number : ℕ
  pub place : j ≡ length (joined (take number ps))
  pub turn : IsTurn line.inst
  pub near : AreNear ps number n

none-in-entry : (rs : List Routine) (own : Piece) (at n : ℕ) (line : Line) → IsEntry rs own → slice_get own at ≡ Some line → line.target ≡ Some n → ⊥
none-in-entry rs own at n line x e g =
    let w : Way = record { next = 0; goal = None; short = false } in
    lead-none false w (entry_lines (setting_of x.routine)) at n line (entry_leads false w (setting_of x.routine)) (λ h. let z : false ≡ true = h in cc) (none-some n)
    (ap (λ l. slice_get l at) (sym x.same) ∙ e) g

code-turning : (callee : ℕ → ℕ → Option ℕ) (rs : List Routine) (j n : ℕ) (line : Line) (p : InPiece (pieces_from callee 0 rs) j line) →
    IsCode callee 0 rs p.number p.own → line.target ≡ Some n → is_jump line.inst ≡ false → IsTurning (pieces_from callee 0 rs) j n line
code-turning callee rs j n line p c g q =
    by (decoded c.instruction) refl (ap (λ l. slice_get l p.at) (sym c.same) ∙ p.inside)
  where
    by : (o : Option Form) → decoded c.instruction ≡ o →
        slice_get (form_lines (scope_of callee (0 + entry_of rs c.function) c.routine) c.at (decoded c.instruction)) p.at ≡ Some line →
        IsTurning (pieces_from callee 0 rs) j n line
    by None d e =
        absurd (none-some line (ap (λ z. slice_get (form_lines (scope_of callee (0 + entry_of rs c.function) c.routine) c.at z) p.at) (sym d) ∙ e))
    by (Some form) d e =
        let s : Scope = scope_of callee (0 + entry_of rs c.function) c.routine in
        let b : FormBranches s c.at form n p.at line =
        form-branches s c.at form n p.at line (ap (λ z. slice_get (form_lines s c.at z) p.at) (sym d) ∙ e) g q in
        record {
          number = p.number;
          place = omega (arith, p.place, b.0.start);
          turn = b.0.turn;
          near =
              subst (λ m. AreNear (pieces_from callee 0 rs) m n) (sym c.place)
              (code-near callee rs c.function c.at n p.at c.routine c.instruction form line c.there c.inside d b);
        }

line-turning : (callee : ℕ → ℕ → Option ℕ) (rs : List Routine) (j n : ℕ) (line : Line) → slice_get (joined (pieces_from callee 0 rs)) j ≡ Some line →
    line.target ≡ Some n → is_jump line.inst ≡ false → IsTurning (pieces_from callee 0 rs) j n line
line-turning callee rs j n line e g q = by (find-code callee 0 rs p.number p.own p.there)
  where
    p : InPiece (pieces_from callee 0 rs) j line
    p = find-piece (pieces_from callee 0 rs) j line e

    by : IsEntry rs p.own ⊎ IsCode callee 0 rs p.number p.own → IsTurning (pieces_from callee 0 rs) j n line
    by (inl x) = absurd (none-in-entry rs p.own p.at n line x p.inside g)
    by (inr c) = code-turning callee rs j n line p c g q

-- Lines of the program

record IsRaw (starts : List ℕ) (lines : List Line) (u : ℕ) (own : Line) : Type 0 where
  raw : Line
  there : slice_get lines u ≡ Some raw
  inst : own.inst ≡ raw.inst
  target : own.target ≡ option_map (slice_index starts) raw.target

raw-at : (test : ℕ → Bool) (starts : List ℕ) (m : ℕ) (lines : List Line) (u : ℕ) (own : Line) → slice_get (marked test m (map (aimed starts) lines)) u ≡ Some own →
    IsRaw starts lines u own
raw-at test starts m [] u own e = absurd (none-some own e)
raw-at test starts m (l ∷ rest) zero own e =
    let same : record (aimed starts l) { is_target = test m } ≡ own = same_Some (record (aimed starts l) { is_target = test m }) own e in
    record { raw = l; there = refl; inst = sym (ap (λ (x : Line). x.inst) same); target = sym (ap (λ (x : Line). x.target) same) }
raw-at test starts m (l ∷ rest) (suc u) own e =
    let deep = raw-at test starts (m + 1) rest u own e in
    record { raw = deep.raw; there = deep.there; inst = deep.inst; target = deep.target }

words-same : (test : ℕ → Bool) (starts : List ℕ) (m : ℕ) (lines : List Line) (u : ℕ) →
    words_needed (take u (marked test m (map (aimed starts) lines))) ≡ words_needed (take u lines)
words-same test starts m [] zero = refl
words-same test starts m [] (suc u) = refl
words-same test starts m (l ∷ rest) zero = refl
words-same test starts m (l ∷ rest) (suc u) =
    words-cons (record (aimed starts l) { is_target = test m }) (take u (marked test (m + 1) (map (aimed starts) rest)))
    ∙ (ap (λ n. inst_words l.inst + n) (words-same test starts (m + 1) rest u) ∙ sym (words-cons l (take u rest)))

aimed-below : (n : ℕ) (lines : List Line) (j t : ℕ) (line : Line) → AreAimed n lines → slice_get lines j ≡ Some line → line.target ≡ Some t → t < n
aimed-below n [] j t line h e g = absurd (none-some line e)
aimed-below n (l ∷ rest) zero t line h e g =
    by l.target (let same : l ≡ line = same_Some l line e in ap (λ (x : Line). x.target) same ∙ g) h.0
  where
    by : (o : Option ℕ) → o ≡ Some t → IsAimed n l.inst o → t < n
    by None e k = absurd (none-some t e)
    by (Some x) e k = omega (arith, k, same_Some x t e)
aimed-below n (l ∷ rest) (suc j) t line h e g = aimed-below n rest j t line h.1 e g

-- line u turns, and its goal, line g, is near, in words
pub record IsClose (old : List Line) (u g : ℕ) (inst : Inst) : Type 0 where
  pub turn : IsTurn inst
  pub forth : before old g ≤ before old u + 32766
  pub back : before old u ≤ before old g + 32767

target-of : (starts : List ℕ) (o : Option ℕ) (g : ℕ) → option_map (slice_index starts) o ≡ Some g → (n : ℕ) × (o ≡ Some n) × (g ≡ slice_index starts n)
target-of starts None g e = absurd (none-some g e)
target-of starts (Some n) g e = (n, refl, sym (same_Some (slice_index starts n) g e))

lines-close : (callee : ℕ → ℕ → Option ℕ) (rs : List Routine) (a b : Line) (test : ℕ → Bool) → a.target ≡ None → b.target ≡ None →
    AreAimed (numbers_of rs) (joined (pieces_from callee 0 rs)) → (u g : ℕ) (own : Line) →
    slice_get (marked test 0 (map (aimed (starts_of callee rs)) (a ∷ (b ∷ joined (pieces_from callee 0 rs))))) u ≡ Some own →
    own.target ≡ Some g → is_jump own.inst ≡ false →
    IsClose (marked test 0 (map (aimed (starts_of callee rs)) (a ∷ (b ∷ joined (pieces_from callee 0 rs))))) u g own.inst
lines-close callee rs a b test na nb all u g own e goes q =
    let x = raw-at test (starts_of callee rs) 0 (a ∷ (b ∷ joined (pieces_from callee 0 rs))) u own e in
    let t = target-of (starts_of callee rs) x.raw.target g (sym x.target ∙ goes) in
    by u x.raw t.0 t.1 t.2 x.inst x.there
  where
    by : (u : ℕ) (raw : Line) (n : ℕ) → raw.target ≡ Some n → g ≡ slice_index (starts_of callee rs) n → own.inst ≡ raw.inst →
        slice_get (a ∷ (b ∷ joined (pieces_from callee 0 rs))) u ≡ Some raw →
        IsClose (marked test 0 (map (aimed (starts_of callee rs)) (a ∷ (b ∷ joined (pieces_from callee 0 rs))))) u g own.inst
    by zero raw n t at same there = absurd (none-some n (sym na ∙ (ap (λ (l : Line). l.target) (same_Some a raw there) ∙ t)))
    by (suc zero) raw n t at same there = absurd (none-some n (sym nb ∙ (ap (λ (l : Line). l.target) (same_Some b raw there) ∙ t)))
    by (suc (suc j)) raw n t at same there =
        let starts : List ℕ = starts_of callee rs in
        let ps : List Piece = pieces_from callee 0 rs in
        let lines : List Line = a ∷ (b ∷ joined ps) in
        let turning = line-turning callee rs j n raw there t (ap is_jump (sym same) ∙ q) in
        let below : n < length ps = omega (arith, aimed-below (numbers_of rs) (joined ps) j n raw all there t, pieces_length callee 0 rs) in
        let goal : g ≡ 2 + length (joined (take n ps)) = at ∙ starts-at 2 ps n below in
        let here : suc (suc j) ≡ 2 + length (joined (take turning.number ps)) = omega (arith, turning.place) in
        let words : (k m : ℕ) → k ≡ 2 + length (joined (take m ps)) → before (marked test 0 (map (aimed starts) lines)) k ≡ words_needed (a ∷ (b ∷ [])) + words_before ps m =
        λ k m h. words-same test starts 0 lines k ∙ (ap (λ i. words_needed (take i lines)) h ∙ words-prefix (a ∷ (b ∷ [])) ps m) in
        record {
          turn = subst (λ inst. IsTurn inst) (sym same) turning.turn;
          forth = omega (arith, words g n goal, words (suc (suc j)) turning.number here, turning.near.0);
          back = omega (arith, words g n goal, words (suc (suc j)) turning.number here, turning.near.1);
        }

pub program-close : (modules : List AModule) → All IsObject modules → (u g : ℕ) (own : Line) → slice_get (program_lines modules) u ≡ Some own →
    own.target ≡ Some g → is_jump own.inst ≡ false → IsClose (program_lines modules) u g own.inst
program-close modules objects u g own e goes q =
    let rs = routines_of modules in
    let callee = callee_in modules in
    let starts = starts_of callee rs in
    let raw : List Line = start_lines (length modules) argument_list (base_offset modules) ++ joined (pieces_from callee 0 rs) in
    let all : AreAimed (numbers_of rs) (joined (pieces_from callee 0 rs)) =
    pieces_aimed (numbers_of rs) callee 0 rs (λ u s t e. callee_below rs (definition_of (linked modules) (record { «module» = u; symbol = s })) t e)
    (omega arith) (all_sound modules (all-valid modules objects)) in
    lines-close callee rs (valued (i.Lui 30 0) High (length modules) argument_list (base_offset modules)) (valued (i.Ori 30 30 0) Low (length modules) argument_list (base_offset modules))
    (λ k. is_first starts 0 rs k || is_named (map (aimed starts) raw) k) refl refl all u g own e goes q
