-- What the schedule promises of its added lines.
use Rattle.std.proofs.Common.{ℕ, suc, ◌+◌, ◌==◌, ◌≡◌, inl, inr, ◌<◌, ◌||◌, Bool, true, false, Option, Some, None, refl, sym, ap, ◌∙◌, arith, List, [], ◌∷◌, length, slice_get, slice_index}
use Rattle.std.proofs.lemmas.Bool.Decides.{nat_tests}
use Rattle.p9_r3k.specs.declared.lines.Line.{Line}
use Rattle.p9_slot.specs.Schedule.{new_target, retargeted, IsAdded, AddsOnlyNoops}
use Rattle.p9_slot.specs.Blocks.{goes_to, is_named}
use Rattle.p9_slot.specs.Justified.{IsTarget, NoopsJustified}
use Rattle.p9_slot.specs.Placing.{nothing}
use Rattle.p9_slot.proofs.Numbers.{kept-at}
use Rattle.p9_slot.proofs.Choosing.{blocks-move}
use Rattle.p9_slot.proofs.Settled.{blocks-settled, blocks-marked}
use Rattle.p9_slot.proofs.Adding.{AddedAt, Context, Suffix}
use Rattle.p9_slot.proofs.Justifying.{added}
use Rattle.p9_slot.proofs.Clauses.{Answer, blocks_of, entered_at, number_of, lines-same, lines-count, moved-at, moved-index, moved-length, answer-laid}

-- the line that names a line
record Names (lines : List Line) (t : ℕ) : Type 0 where
  at : ℕ
  line : Line
  here : slice_get lines at ≡ Some line
  goes : line.target ≡ Some t

names : (lines : List Line) (t : ℕ) → is_named lines t ≡ true → Names lines t
names [] t h = absurd (let z : false ≡ true = h in cc)
names (line ∷ rest) t h = by_first line.target refl (is_named rest t) refl h (λ e. names rest t e)
  where
    later : Names rest t → Names (line ∷ rest) t
    later n = record { at = suc n.at; line = n.line; here = n.here; goes = n.goes }

    by_first : (o : Option ℕ) → line.target ≡ o → (b : Bool) → is_named rest t ≡ b → (goes_to t o || b) ≡ true → (is_named rest t ≡ true → Names rest t) →
        Names (line ∷ rest) t
    by_first None e true f h more = later (more f)
    by_first None e false f h more = absurd (let z : false ≡ true = h in cc)
    by_first (Some u) e b f h more = by_equal (u == t) refl b f h more
      where
        by_equal : (c : Bool) → (u == t) ≡ c → (b : Bool) → is_named rest t ≡ b → (c || b) ≡ true → (is_named rest t ≡ true → Names rest t) →
            Names (line ∷ rest) t
        by_equal true g b f h more =
            let same : u ≡ t = grind (arith, nat_tests) in
            record { at = 0; line = line; here = refl; goes = e ∙ ap (λ n. Some n) same }
        by_equal false g true f h more = later (more f)
        by_equal false g false f h more = absurd (let z : false ≡ true = h in cc)

answer-added : (old new : List Line) (moved : List ℕ) → Answer old new moved → (q : ℕ) → q < length new → IsAdded moved q → AddedAt old new moved q
answer-added old new moved h q within fresh =
    added (entered_at old) [] old new moved (is_named old) (entered_at old) nothing 0 0 (blocks_of old)
    (answer-laid old new moved h) refl suffix context
    (blocks-settled (is_named old) 0 old) (blocks-marked (is_named old) 0 old) (blocks-move (is_named old) 0 old)
    named q (omega arith) within
    (λ j inside e. fresh j (moved-at old moved j h.numbered (omega (arith, inside, lines-count old)) ∙ ap (λ n. Some n) e))
  where
    suffix : Suffix old new moved (entered_at old) nothing 0 0 (blocks_of old)
    suffix = record {
      numbers = λ j inside. ap (slice_index moved) (let z : 0 + j ≡ j = omega arith in z) ∙ moved-index old moved j h.numbered (omega (arith, inside, lines-count old));
      lines = λ j. ap (slice_get old) (let z : 0 + j ≡ j = omega arith in z) ∙ ap (λ l. slice_get l j) (sym (lines-same old));
      earlier = λ j below. absurd (omega (arith, below));
      entries = λ j. ap (entered_at old) (let z : 0 + j ≡ j = omega arith in z);
      count = omega (arith, lines-count old);
      moved_count = moved-length old moved h.numbered;
    }

    context : Context old new moved nothing 0 (blocks_of old)
    context = record {
      last = λ e. absurd (let z : false ≡ true = e in cc);
      before = λ e. absurd (let z : false ≡ true = e in cc);
      loaded = λ x first e. absurd (let z : false ≡ true = e in cc);
      stuck = λ b target rest e none slow wanted. inl (inl refl);
    }

    named : (t : ℕ) → is_named old t ≡ true → IsTarget new (entered_at old t)
    named t e =
        let n : Names old t = names old t e in
        let there : slice_get new (number_of old n.at) ≡ Some (retargeted (entered_at old) n.line) =
        ap (λ l. slice_get l (number_of old n.at)) (answer-laid old new moved h)
        ∙ kept-at (entered_at old) [] nothing 0 (blocks_of old) refl n.at n.line (ap (λ l. slice_get l n.at) (lines-same old) ∙ n.here) in
        inr (number_of old n.at, retargeted (entered_at old) n.line, there, ap (λ o. new_target (entered_at old) o) n.goes)

pub adds_only_noops : (old new : List Line) (moved : List ℕ) → Answer old new moved → AddsOnlyNoops old new moved
adds_only_noops old new moved h q within fresh =
    let a : AddedAt old new moved q = answer-added old new moved h q within fresh in (a.0, a.1)

pub noops_justified : (old new : List Line) (moved : List ℕ) → Answer old new moved → NoopsJustified new moved
noops_justified old new moved h q within fresh = (answer-added old new moved h q within fresh).2
