-- The moves of a plan are those that keep what homes hold.
use Rattle.std.proofs.Common.{ℕ, zero, suc, ◌+◌, ◌-◌, ◌≡◌, ◌⊎◌, inl, inr, ◌<◌, Bool, true, false, Option, Some, None, sym, ap, ◌∙◌, subst, arith, List, [], ◌++◌, length, Contains, if◌then◌else◌}
use Rattle.std.proofs.lemmas.List.Elements.{Contains-append_left, Contains-push}
use Rattle.p9_abs.specs.declared.instructions.Abs.{Abs}
use Rattle.p9_abs.specs.declared.instructions.AFunction.{AFunction}
use Rattle.p9_abs.specs.declared.regions.Region.{Region}
use Rattle.p9_abs.specs.Automatics.{IsLive, call_at}
use Rattle.p9_abs.specs.Regions.{AreRegions, AreHomes, home_at}
use Rattle.p9_abs.specs.Framed.{Shift}
use Rattle.p9_homes.specs.Tables.{cell, IsTable}
use Rattle.p9_homes.proofs.Finding.{cell-home, home-cell}
use Rattle.p9_keeps.specs.Moves.{IsMoveAt, AreMoves, HasMoves}
use Rattle.p9_keeps.proofs.Living.{homed-candidate, live-unwritten}
use Rattle.p9_frame.specs.Plans.{kept_for, shift_of, held, at_call, plan_of}
use Rattle.p9_frame.proofs.Moving.{IsMove, held-moves}

-- what a home keeps is moved
contains-held : (code : List Abs) (table : List (Option ℕ)) (loads : Bool) (i m g v : ℕ) → g < m → kept_for code i (cell table i g) ≡ Some v →
    Contains (held code table loads i m) (record { auto = v; home = 9 + g; loads = loads })
unfolding held
contains-held code table loads i zero g v l e = absurd (omega (arith, l))
contains-held code table loads i (suc m) g v l e = by (contains-held code table loads i m g v) (cases g m l)
  where
    cases : (g m : ℕ) → g < suc m → (g < m) ⊎ (g ≡ m)
    cases g m l = grind (arith)

    by : (g < m → kept_for code i (cell table i g) ≡ Some v → Contains (held code table loads i m) (record { auto = v; home = 9 + g; loads = loads })) → (g < m) ⊎ (g ≡ m) →
        Contains (held code table loads i m ++ shift_of loads m (kept_for code i (cell table i m))) (record { auto = v; home = 9 + g; loads = loads })
    by before (inl k) = Contains-append_left (held code table loads i m) (shift_of loads m (kept_for code i (cell table i m))) (record { auto = v; home = 9 + g; loads = loads }) (before k e)
    by before (inr q) =
        let here : kept_for code i (cell table i m) ≡ Some v = subst (λ n. kept_for code i (cell table i n) ≡ Some v) q e in
        subst (λ n. Contains (held code table loads i m ++ shift_of loads m (kept_for code i (cell table i m))) (record { auto = v; home = 9 + n; loads = loads })) (sym q)
        (subst (λ o. Contains (held code table loads i m ++ shift_of loads m o) (record { auto = v; home = 9 + m; loads = loads })) (sym here)
        (Contains-push (held code table loads i m) (record { auto = v; home = 9 + m; loads = loads })))

module _ (f : AFunction) (rs : List Region) (homes : List (Option ℕ)) (count : ℕ) (table : List (Option ℕ)) (rg : AreRegions f rs) (hm : AreHomes rs homes) (t : IsTable rs homes (length rs) count table) where
  is-move : (loads : Bool) (i : ℕ) (s : Shift) → IsMove f.code table loads i 12 s → IsMoveAt rs homes loads i s
  is-move loads i s h = let w = h.held_there in record { direction = h.direction; home = cell-home f rs homes count table rg hm t i w.0 s.auto w.1 w.3 ∙ ap (λ z. Some z) (sym w.2) }

  held-all : (loads : Bool) (i v h : ℕ) → IsLive f v i → home_at rs homes v i ≡ Some h → Contains (held f.code table loads i 12) (record { auto = v; home = h; loads = loads })
  held-all loads i v h live e =
      let w = home-cell f rs homes count table rg hm t i v h e in
      let unwritten = live-unwritten f v i (homed-candidate f rs homes rg hm v i h e) live in
      let kept : kept_for f.code i (cell table i (h - 9)) ≡ Some v = ap (kept_for f.code i) w.2 ∙ ap (λ b. if b then None else Some v) unwritten in
      let q : 9 + (h - 9) ≡ h = omega (arith, w.0) in
      subst (λ n. Contains (held f.code table loads i 12) (record { auto = v; home = n; loads = loads })) q (contains-held f.code table loads i 12 (h - 9) v (omega (arith, w.0, w.1)) kept)

  held-are : (loads : Bool) (i : ℕ) → AreMoves f rs homes loads i (held f.code table loads i 12)
  held-are loads i = record { each = λ k d l. is-move loads i _ (held-moves f.code table loads i 12 k d l); every = held-all loads i }

  call-are : (loads : Bool) (c i : ℕ) → call_at f.code c ≡ true → AreMoves f rs homes loads i (at_call f.code c (held f.code table loads i 12))
  call-are loads c i call = subst (AreMoves f rs homes loads i) (sym (ap (λ b. if b then held f.code table loads i 12 else []) call)) (held-are loads i)

  pub has-moves : (offsets : List ℕ) → HasMoves f rs homes (plan_of f.code table offsets)
  has-moves offsets = record { entry = held-are true 0; before = λ i call. call-are false i i call; after = λ i call. call-are true i (i + 1) call }
