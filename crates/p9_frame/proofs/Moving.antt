-- The moves of a plan: each is between a home and an automatic of one of its regions, one for a home.
use Rattle.std.proofs.Common.{ℕ, zero, suc, ◌+◌, ◌≡◌, ◌≢◌, ◌≤◌, ◌<◌, Bool, true, false, Option, Some, None, refl, sym, ap, ◌∙◌, subst, arith, List, [], ◌++◌, length, get_or, All, AllPairs, length-append, append_assoc, if◌then◌else◌}
use Rattle.std.proofs.lemmas.List.{append-nil, map-append}
use Rattle.std.proofs.lemmas.List.Elements.{All-nil, All-push}
use Rattle.std.proofs.lemmas.List.Quantifiers.{all_pairs_push}
use Rattle.p9_abs.specs.declared.instructions.Abs.{Abs}
use Rattle.p9_abs.specs.declared.regions.Region.{Region}
use Rattle.p9_abs.specs.Automatics.{call_at, writes_at}
use Rattle.p9_abs.specs.Framed.{Shift, IsShift, AreShifts}
use Rattle.p9_homes.specs.Tables.{cell, IsTable}
use Rattle.p9_frame.specs.Plans.{kept_for, shift_of, held, at_call}
use Rattle.p9_frame.specs.Emitted.{moves_of}

-- One more home

pub held-first : (code : List Abs) (table : List (Option ℕ)) (loads : Bool) (i : ℕ) → held code table loads i 0 ≡ []
unfolding held
held-first code table loads i = refl

pub held-more : (code : List Abs) (table : List (Option ℕ)) (loads : Bool) (i g : ℕ) → held code table loads i (g + 1) ≡ held code table loads i g ++ shift_of loads g (kept_for code i (cell table i g))
unfolding held
held-more code table loads i g = ap (held code table loads i) (let q : g + 1 ≡ suc g = omega arith in q)

pub count-more : (code : List Abs) (table : List (Option ℕ)) (i g count one : ℕ) (o : Option ℕ) → o ≡ cell table i g → ((loads : Bool) → count ≡ length (held code table loads i g)) →
    ((loads : Bool) (h : ℕ) → one ≡ length (shift_of loads h (kept_for code i o))) → (loads : Bool) → count + one ≡ length (held code table loads i (g + 1))
count-more code table i g count one o e h k loads =
    let a = h loads in
    let b : one ≡ length (shift_of loads g (kept_for code i (cell table i g))) = k loads g ∙ ap (λ z. length (shift_of loads g (kept_for code i z))) e in
    let c : length (held code table loads i (g + 1)) ≡ length (held code table loads i g) + length (shift_of loads g (kept_for code i (cell table i g))) = ap length (held-more code table loads i g) ∙ length-append (held code table loads i g) (shift_of loads g (kept_for code i (cell table i g))) in
    omega (arith, a, b, c)

pub moves-first : (sizes offsets : List ℕ) (code : List Abs) (table : List (Option ℕ)) (loads : Bool) (i : ℕ) (out : List Abs) → out ≡ out ++ moves_of sizes offsets (held code table loads i 0)
moves-first sizes offsets code table loads i out = sym (ap (λ z. out ++ moves_of sizes offsets z) (held-first code table loads i) ∙ append-nil out)

pub moves-more : (sizes offsets : List ℕ) (code : List Abs) (table : List (Option ℕ)) (loads : Bool) (i g : ℕ) (first out after : List Abs) →
    out ≡ first ++ moves_of sizes offsets (held code table loads i g) → after ≡ out ++ moves_of sizes offsets (shift_of loads g (kept_for code i (cell table i g))) →
    after ≡ first ++ moves_of sizes offsets (held code table loads i (g + 1))
moves-more sizes offsets code table loads i g first out after e d =
    d ∙ (ap (λ z. z ++ moves_of sizes offsets (shift_of loads g (kept_for code i (cell table i g)))) e
    ∙ (append_assoc first (moves_of sizes offsets (held code table loads i g)) (moves_of sizes offsets (shift_of loads g (kept_for code i (cell table i g))))
    ∙ ap (λ z. first ++ z) (sym (ap (moves_of sizes offsets) (held-more code table loads i g) ∙ map-append _ (held code table loads i g) (shift_of loads g (kept_for code i (cell table i g)))))))

-- Moves

kept-some : (code : List Abs) (i : ℕ) (o : Option ℕ) (v : ℕ) → kept_for code i o ≡ Some v → (o ≡ Some v) × (writes_at code v i ≡ false)
kept-some code i None v e = absurd (let x : None ≡ Some v = e in cc)
kept-some code i (Some w) v e = by (writes_at code w i) refl
  where
    by : (b : Bool) → writes_at code w i ≡ b → (Some w ≡ Some v) × (writes_at code v i ≡ false)
    by true t = absurd (let x : None ≡ Some v = sym (ap (λ b. if b then None else Some w) t) ∙ e in cc)
    by false t = let x : Some w ≡ Some v = sym (ap (λ b. if b then None else Some w) t) ∙ e in (x, (let y : w ≡ v = cc in subst (λ z. writes_at code z i ≡ false) y t))

-- what is known of each move
pub record IsMove (code : List Abs) (table : List (Option ℕ)) (loads : Bool) (i m : ℕ) (s : Shift) : Type 0 where
  pub low : 9 ≤ s.home
  pub high : s.home < 9 + m
  pub held_there : (g : ℕ) × (g < m) × (s.home ≡ 9 + g) × (cell table i g ≡ Some s.auto)
  pub direction : s.loads ≡ loads
  pub unwritten : writes_at code s.auto i ≡ false

widen : (code : List Abs) (table : List (Option ℕ)) (loads : Bool) (i m : ℕ) (s : Shift) → IsMove code table loads i m s → IsMove code table loads i (suc m) s
widen code table loads i m s h = record {
  low = h.low;
  high = (let q = h.high in omega (arith, q));
  held_there = (h.held_there.0, (let q = h.held_there.1 in omega (arith, q)), h.held_there.2, h.held_there.3);
  direction = h.direction;
  unwritten = h.unwritten;
}

module _ (code : List Abs) (table : List (Option ℕ)) (loads : Bool) (i : ℕ) where
  push-moves : (m : ℕ) (shifts : List Shift) (o : Option ℕ) → kept_for code i (cell table i m) ≡ o → All (IsMove code table loads i m) shifts → All (IsMove code table loads i (suc m)) (shifts ++ shift_of loads m o)
  push-moves m shifts None e all = subst (All (IsMove code table loads i (suc m))) (sym (append-nil shifts)) (λ k d l. widen code table loads i m _ (all k d l))
  push-moves m shifts (Some v) e all =
      let q = kept-some code i (cell table i m) v e in
      All-push (IsMove code table loads i (suc m)) shifts (record { auto = v; home = 9 + m; loads = loads }) (λ k d l. widen code table loads i m _ (all k d l))
      (record { low = omega arith; high = omega arith; held_there = (m, omega arith, refl, q.0); direction = refl; unwritten = q.1 })

  pub held-moves : (m : ℕ) → All (IsMove code table loads i m) (held code table loads i m)
  unfolding held
  held-moves zero = All-nil (IsMove code table loads i 0)
  held-moves (suc m) = push-moves m (held code table loads i m) (kept_for code i (cell table i m)) refl (held-moves m)

  push-apart : (m : ℕ) (shifts : List Shift) (o : Option ℕ) → All (IsMove code table loads i m) shifts → AllPairs (λ a b. a.home ≢ b.home) shifts → AllPairs (λ a b. a.home ≢ b.home) (shifts ++ shift_of loads m o)
  push-apart m shifts None all pairs = subst (AllPairs (λ a b. a.home ≢ b.home)) (sym (append-nil shifts)) pairs
  push-apart m shifts (Some v) all pairs =
      all_pairs_push (λ a b. a.home ≢ b.home) shifts (record { auto = v; home = 9 + m; loads = loads }) pairs
      (λ k d l e. let h : (get_or shifts k d).home < 9 + m = (all k d l).high in omega (arith, h, e))

  pub held-apart : (m : ℕ) → AllPairs (λ a b. a.home ≢ b.home) (held code table loads i m)
  unfolding held
  held-apart zero = λ a b d l k. absurd (omega (arith, k))
  held-apart (suc m) = push-apart m (held code table loads i m) (kept_for code i (cell table i m)) (held-moves m) (held-apart m)

module _ (rs : List Region) (homes : List (Option ℕ)) (count : ℕ) (code : List Abs) (table : List (Option ℕ)) (t : IsTable rs homes (length rs) count table) where
  move-shift : (loads : Bool) (i : ℕ) (s : Shift) → IsMove code table loads i 12 s → IsShift rs homes s
  move-shift loads i s h =
      let w = h.held_there in
      let r = t.each i w.0 s.auto w.1 w.3 in
      (r.0, r.1, r.3.0, r.4, r.3.1 ∙ ap (λ z. Some (Some z)) (sym w.2))

  pub held-shifts : (loads : Bool) (i : ℕ) → AreShifts rs homes (held code table loads i 12)
  held-shifts loads i = (λ k d l. move-shift loads i _ (held-moves code table loads i 12 k d l), held-apart code table loads i 12)

  no-shifts : AreShifts rs homes []
  no-shifts = (λ k d l. absurd (omega (arith, l)), λ a b d l k. absurd (omega (arith, k)))

  pub call-shifts : (loads : Bool) (c i : ℕ) → AreShifts rs homes (at_call code c (held code table loads i 12))
  call-shifts loads c i = by (call_at code c)
    where
      by : (b : Bool) → AreShifts rs homes (if b then held code table loads i 12 else [])
      by true = held-shifts loads i
      by false = no-shifts
