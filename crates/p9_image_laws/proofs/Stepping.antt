-- A step over the words of lines is a step of the machine with delays over the lines.
use Rattle.std.proofs.Common.{ℕ, zero, suc, ◌-◌, ◌/◌, ◌%◌, ◌^◌, ◌==◌, ◌≡◌, ◌≤◌, ◌<◌, ◌||◌, ◌&&◌, nat_lt, nat_le, Bool, true, false, not, Option, Some, None, Ok, Err, refl, sym, ap, ◌∙◌, arith, if◌then◌else◌, List, [], ◌∷◌, length, slice_get}
use Rattle.std.proofs.lemmas.Bool.Decides.{nat_tests}
use Rattle.p9_base.specs.Core.{Core, text_start, read_word}
use Rattle.p9_base.specs.declared.halt.Ending.{Ending}
use Rattle.p9_base.specs.declared.halt.Ending.TheVariants.{Running, Exited, Halted}
use Rattle.p9_base.specs.declared.halt.HaltCause.TheVariants as halts
use Rattle.p9_r3k.proofs.Again.{again}
use Rattle.p9_r3k.specs.Delayed.{line_address, aimed, line_executed, delayed_line, delayed_going, delayed_step}
use Rattle.p9_r3k.specs.Effects.{effect_of, reads, reads_pair, writes_pair, branches}
use Rattle.p9_r3k.specs.Machine.{State, without_hazard, fetched, acted, executed, going, step}
use Rattle.p9_r3k.specs.Straight.{Addresses, filled}
use Rattle.p9_r3k.specs.Table.{Fits, word_of, decoded}
use Rattle.p9_r3k.specs.declared.inst.Inst.{Inst}
use Rattle.p9_r3k.specs.declared.lines.Line.{Line}
use Rattle.p9_image.specs.Text.{addresses, address_at, with_target, patched}
use Rattle.p9_image_laws.proofs.Jumps.{filled_kind}
use Rattle.p9_image_laws.proofs.Sending.{aimed_nowhere, sent_effect, SameHazards, same_hazards, sent_hazards}
use Rattle.p9_image_laws.specs.Reaching.{IsNear, is_jump, LinesReach}

-- what a line's target asks, where the line does something
abbrev IsReached : (n i : ℕ) → Option ℕ → Inst → Type 0
IsReached n i target inst = (t : ℕ) → target ≡ Some t → (t ≤ n) × (is_jump inst ≡ false → IsNear i t)

patched_effect : (inst : Inst) (c : Core) (n i : ℕ) (target : Option ℕ) → c.pc ≡ line_address i → i < n → line_address n < 2 ^ 28 → IsReached n i target inst →
    effect_of (with_target i target inst) c ≡ aimed target (effect_of inst c)
patched_effect inst c n i None at within small reach = sym (aimed_nowhere (effect_of inst c))
patched_effect inst c n i (Some t) at within small reach =
    let r = reach t refl in
    let bound : t ≤ n = r.0 in
    sent_effect inst c i t at (omega (arith, within, small)) (omega (arith, bound, small)) r.1

patched_hazards : (inst : Inst) (i : ℕ) (target : Option ℕ) → SameHazards inst (with_target i target inst)
patched_hazards inst i None = same_hazards inst
patched_hazards inst i (Some t) = sent_hazards inst i t

hazards_same : (a b d : Bool) (x y : Inst) (t : Option ℕ) (s : State) →
    acted (effect_of y s.core) s (reads_pair y) ≡ acted (aimed t (effect_of x s.core)) s (reads_pair x) →
    executed (if a then Err halts.LoadHazard else if b then Err halts.HiLoHazard else if d then Err halts.SlotBranch else Ok y) s
    ≡ line_executed t (if a then Err halts.LoadHazard else if b then Err halts.HiLoHazard else if d then Err halts.SlotBranch else Ok x) s
hazards_same true b d x y t s e = refl
hazards_same false true d x y t s e = refl
hazards_same false false true x y t s e = refl
hazards_same false false false x y t s e = e

-- an instruction that is sent to its target
sent_line : (x : Inst) (n i : ℕ) (target : Option ℕ) (s : State) → s.core.pc ≡ line_address i → i < n → line_address n < 2 ^ 28 → IsReached n i target x →
    executed (without_hazard (Some (with_target i target x)) s.core) s ≡ line_executed target (without_hazard (Some x) s.core) s
sent_line x n i target s at within small reach =
    let y : Inst = with_target i target x in
    let h : SameHazards x y = patched_hazards x i target in
    let tests : Bool → Bool → Bool → State = λ p q r. executed (if p then Err halts.LoadHazard else if q then Err halts.HiLoHazard else if r then Err halts.SlotBranch else Ok y) s in
    ap (λ p. tests (not (s.core.loaded == 0) && p) (writes_pair y && (s.core.used || s.core.used_before)) (s.core.slot && branches y)) (h.reader s.core.loaded)
    ∙ (ap (λ q. tests (not (s.core.loaded == 0) && reads x s.core.loaded) (q && (s.core.used || s.core.used_before)) (s.core.slot && branches y)) h.writer
    ∙ (ap (λ r. tests (not (s.core.loaded == 0) && reads x s.core.loaded) (writes_pair x && (s.core.used || s.core.used_before)) (s.core.slot && r)) h.brancher
    ∙ hazards_same (not (s.core.loaded == 0) && reads x s.core.loaded) (writes_pair x && (s.core.used || s.core.used_before)) (s.core.slot && branches x) x y target s
    (ap (λ e. acted e s (reads_pair y)) (patched_effect x s.core n i target at within small reach) ∙ ap (λ b. acted (aimed target (effect_of x s.core)) s b) h.pair_reader)))

-- of the map of addresses the symbols alone count
filled_same : (tables : List (List ℕ)) (l : ℕ → ℕ) (line : Line) → filled (addresses tables) line ≡ filled (record { line = l; symbol = address_at tables }) line
filled_same tables l line = by line.value refl
  where
    by : (v : Option _) → line.value ≡ v → filled (addresses tables) line ≡ filled (record { line = l; symbol = address_at tables }) line
    by None e = ap (λ v. filled (addresses tables) (record line { value = v })) e ∙ sym (ap (λ v. filled (record { line = l; symbol = address_at tables }) (record line { value = v })) e)
    by (Some v) e = ap (λ v. filled (addresses tables) (record line { value = v })) e ∙ sym (ap (λ v. filled (record { line = l; symbol = address_at tables }) (record line { value = v })) e)

-- the core has the words of lines from its text's start on
pub record HasText (tables : List (List ℕ)) (lines : List Line) (c : Core) : Type 0 where
  pub end : c.text_end ≡ line_address (length lines)
  pub words : (i : ℕ) (line : Line) → slice_get lines i ≡ Some line → read_word c (line_address i) ≡ word_of (patched tables i line)
  pub fit : (i : ℕ) (line : Line) → slice_get lines i ≡ Some line → Fits (patched tables i line)

line_same : (tables : List (List ℕ)) (l : ℕ → ℕ) (lines : List Line) (i : ℕ) (line : Line) (s : State) → s.core.pc ≡ line_address i → i < length lines → line_address (length lines) < 2 ^ 28 →
    LinesReach lines → slice_get lines i ≡ Some line →
    executed (without_hazard (Some (patched tables i line)) s.core) s ≡ delayed_line (record { line = l; symbol = address_at tables }) (Some line) s
line_same tables l lines i line s at within small reach here =
    let x : Inst = filled (addresses tables) line in
    sent_line x (length lines) i line.target s at within small
    (λ t e. let r = reach i t line here e in (r.0, λ n. r.1 (sym (filled_kind (addresses tables) line) ∙ n)))
    ∙ ap (λ (y : Inst). line_executed line.target (without_hazard (Some y) s.core) s) (filled_same tables l line)

some_past : (lines : List Line) (i : ℕ) → i < length lines → slice_get lines i ≡ None → ⊥
some_past [] i h e = omega arith
some_past (l ∷ ls) zero h e = cc
some_past (l ∷ ls) (suc i) h e = some_past ls i (omega arith) e

pub step_same : (tables : List (List ℕ)) (l : ℕ → ℕ) (lines : List Line) (s : State) → LinesReach lines → line_address (length lines) < 2 ^ 28 →
    HasText tables lines s.core → step s ≡ delayed_step (record { line = l; symbol = address_at tables }) lines s
unfolding step delayed_step fetched
step_same tables l lines s reach small has = by_ending s.core.ending
  where
    a : Addresses
    a = record { line = l; symbol = address_at tables }

    pc : ℕ
    pc = s.core.pc

    in_range : ((pc % 4 == 0) && (nat_le text_start pc && nat_lt pc (line_address (length lines)))) ≡ true →
        (pc ≡ line_address ((pc - text_start) / 4)) × ((pc - text_start) / 4 < length lines)
    in_range h = go (pc % 4 == 0) (nat_le text_start pc) (nat_lt pc (line_address (length lines))) refl refl refl h
      where
        go : (x y z : Bool) → (pc % 4 == 0) ≡ x → nat_le text_start pc ≡ y → nat_lt pc (line_address (length lines)) ≡ z → (x && (y && z)) ≡ true →
            (pc ≡ line_address ((pc - text_start) / 4)) × ((pc - text_start) / 4 < length lines)
        go true true true e f g k =
            let e1 : pc % 4 ≡ 0 = grind (arith, nat_tests) in
            let f1 : text_start ≤ pc = grind (arith, nat_tests) in
            let g1 : pc < line_address (length lines) = grind (arith, nat_tests) in
            (omega (arith, e1, f1), omega (arith, e1, f1, g1))
        go false y z e f g k = absurd (let w : false ≡ true = k in cc)
        go true false z e f g k = absurd (let w : false ≡ true = k in cc)
        go true true false e f g k = absurd (let w : false ≡ true = k in cc)

    by_line : (i : ℕ) → pc ≡ line_address i → i < length lines → (o : Option Line) → slice_get lines i ≡ o →
        executed (without_hazard (decoded (read_word s.core pc)) s.core) s ≡ delayed_line a o s
    by_line i at within None e = absurd (some_past lines i within e)
    by_line i at within (Some line) e =
        let word : read_word s.core pc ≡ word_of (patched tables i line) = ap (λ z. read_word s.core z) at ∙ has.words i line e in
        ap (λ w. executed (without_hazard (decoded w) s.core) s) word
        ∙ (ap (λ d. executed (without_hazard d s.core) s) (again (patched tables i line) (has.fit i line e))
        ∙ line_same tables l lines i line s at within small reach e)

    by_test : (b : Bool) → ((pc % 4 == 0) && (nat_le text_start pc && nat_lt pc (line_address (length lines)))) ≡ b →
        executed (if b then without_hazard (decoded (read_word s.core pc)) s.core else Err halts.Fetch) s
        ≡ delayed_line a (if b then slice_get lines ((pc - text_start) / 4) else None) s
    by_test false e = refl
    by_test true e =
        let r : (pc ≡ line_address ((pc - text_start) / 4)) × ((pc - text_start) / 4 < length lines) = in_range e in
        by_line ((pc - text_start) / 4) r.0 r.1 (slice_get lines ((pc - text_start) / 4)) refl

    by_ending : (e : Ending) → going e s ≡ delayed_going a lines e s
    by_ending Running =
        ap (λ z. executed (if (pc % 4 == 0) && (nat_le text_start pc && nat_lt pc z) then without_hazard (decoded (read_word s.core pc)) s.core else Err halts.Fetch) s) has.end
        ∙ by_test ((pc % 4 == 0) && (nat_le text_start pc && nat_lt pc (line_address (length lines)))) refl
    by_ending (Exited at len) = refl
    by_ending (Halted cause p) = refl
