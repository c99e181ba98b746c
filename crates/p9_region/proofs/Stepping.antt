-- One region's choice, by its rank.
use Rattle.std.proofs.Common.{ℕ, ◌+◌, ◌-◌, ◌^◌, ◌≡◌, ◌<◌, Bool, true, Option, Some, None, zero, suc, take, drop, replicate, ◌++◌, map, refl, sym, ap, ◌∙◌, subst, arith, List, length, slice_get, slice_index, slice_index_or, slice_set, get_or, All, Contains}
use Rattle.std.specs.Int.{bit_at}
use Rattle.std.proofs.lemmas.Option.{slice_get-get_or}
use Rattle.std.proofs.lemmas.List.{length-map}
use Rattle.std.proofs.lemmas.List.Elements.{All-from_get_or, Contains-get_or}
use Rattle.p9_abs.specs.declared.instructions.AFunction.{AFunction}
use Rattle.p9_abs.specs.declared.regions.Region.{Region}
use Rattle.p9_abs.specs.Regions.{AreSettled, IsAhead, IsHome}
use Rattle.std.specs.Option.{IfSome}
use Rattle.p9_region.specs.Costs.{IsRanking, gaps_of, order_of}
use Rattle.p9_region.specs.Masks.{IsChosen}
use Rattle.p9_region.specs.Greedy.{points_in, points_of, IsGreedy, AreWithin, AreOrdered}
use Rattle.std.proofs.lemmas.List.Elements.{All-same, All-map}
use Rattle.std.proofs.lemmas.Nat.Bits.{bit_at-zero}
use Rattle.std.proofs.Math.Seq.{take-append_seam}
use Rattle.p9_region.proofs.Choosing.{greedy-first, greedy-next, settled-by-order}
use Rattle.p9_region.proofs.Ranking.{gap-at, order-at}

abbrev Rank : Type 0
Rank = ℕ × ℕ

-- the points of a region that is read from the list
pub points-here : (rs : List Region) (number : ℕ) (r : Region) (points : List ℕ) → number < length rs → r ≡ get_or rs number r → points ≡ r.points → points ≡ points_of rs number
points-here rs number r points l e p = p ∙ sym (ap points_in (slice_get-get_or rs number r l ∙ ap (λ z. Some z) (sym e)))

pub points-within : (rs : List Region) (number n : ℕ) (points : List ℕ) → points ≡ points_of rs number → AreWithin n rs → All (λ i. i < n) points
unfolding AreWithin
points-within rs number n points e w = All-from_get_or (λ i. i < n) points 0 (λ k l. w number (get_or points k 0) (subst (λ z. Contains z (get_or points k 0)) e (Contains-get_or points k 0 l)))

pub number-within : (n : ℕ) (ranking : List Rank) (k : ℕ) (d : Rank) → AreOrdered n (order_of ranking) → k < length ranking → (slice_index_or ranking k d).1 < n
number-within n ranking k d o l =
    let h = o.within k (let e = length-map ranking (λ (rank : Rank). rank.1) in omega (arith, e, l)) in
    let e = order-at ranking k d l in
    omega (arith, h, e)

pub chosen-next : (rs : List Region) (ranking : List Rank) (homes : List (Option ℕ)) (used after points : List ℕ) (k : ℕ) (o : Option ℕ) (d : Rank) (asked : Bool) → AreOrdered (length rs) (order_of ranking) →
    length homes ≡ length rs → k < length ranking → points ≡ points_of rs (slice_index_or ranking k d).1 → ((slice_index_or ranking k d).0 < 2 ^ 64 - 1 → asked ≡ true) →
    IsGreedy rs (gaps_of ranking) (order_of ranking) homes used k → IsChosen asked points used o after →
    IsGreedy rs (gaps_of ranking) (order_of ranking) (slice_set homes (slice_index_or ranking k d).1 o) after (k + 1)
chosen-next rs ranking homes used after points k o d asked ordered n l ep asks g c =
    let e : slice_index (order_of ranking) k ≡ (slice_index_or ranking k d).1 = order-at ranking k d l in
    let within : k < length (order_of ranking) = (let m = length-map ranking (λ (rank : Rank). rank.1) in omega (arith, m, l)) in
    let room = ordered.within k within in
    subst (λ r. IsGreedy rs (gaps_of ranking) (order_of ranking) (slice_set homes r o) after (k + 1)) e
    (greedy-next rs (gaps_of ranking) (order_of ranking) asked homes used after k o ordered.distinct within (omega (arith, room, n)) g
    (λ w. asks (let q = gap-at ranking k d l in omega (arith, w, q)))
    (subst (λ z. IsChosen asked z used o after) (ep ∙ ap (points_of rs) (sym e)) c))

-- Rankings

pub ranking-ordered : (f : AFunction) (rs : List Region) (ranking : List Rank) → IsRanking f rs ranking → AreOrdered (length rs) (order_of ranking)
ranking-ordered f rs ranking r = record {
  within = λ m l. let k = below m l in let h = r.within m (0, 0) k in let e = order-at ranking m (0, 0) k in omega (arith, h, e);
  distinct = λ m p l h e. let k = below p h in r.distinct m p (0, 0) l k (sym (order-at ranking m (0, 0) (omega (arith, l, k))) ∙ (e ∙ order-at ranking p (0, 0) k));
}
  where
    below : (m : ℕ) → m < length (order_of ranking) → m < length ranking
    below m l = let e = length-map ranking (λ (rank : Rank). rank.1) in omega (arith, e, l)

pub ranking-settles : (f : AFunction) (rs : List Region) (ranking : List Rank) (homes : List (Option ℕ)) (used : List ℕ) → IsRanking f rs ranking → length homes ≡ length rs → All (λ home. IfSome home IsHome) homes →
    IsGreedy rs (gaps_of ranking) (order_of ranking) homes used (length ranking) → AreSettled f rs homes
ranking-settles f rs ranking homes used r n range g =
    settled-by-order f rs (gaps_of ranking) (order_of ranking) homes used n range
    (λ number l. let w = r.every number l in (w.0, (omega (arith, w.1, same)), order-at ranking w.0 (0, 0) w.1 ∙ w.2 (0, 0)))
    (λ m p a b l h ea eb.
    let k = below m h in
    let em = order-at ranking m (0, 0) k in
    let ep = order-at ranking p (0, 0) (omega (arith, l, k)) in
    subst (λ z. IsAhead f z b (slice_index (order_of ranking) m) a) (sym ep) (subst (λ z. IsAhead f (get_or ranking p (0, 0)).1 b z a) (sym em)
    (r.ahead m p (0, 0) a b l k (ap (slice_get rs) (sym em) ∙ ea) (ap (slice_get rs) (sym ep) ∙ eb))))
    (λ m a l e c.
    let k = below m l in
    let h = r.ranked m (0, 0) k a (ap (slice_get rs) (sym (order-at ranking m (0, 0) k)) ∙ e) in
    let q = gap-at ranking m (0, 0) k in
    omega (arith, h, q, c))
    (subst (λ k. IsGreedy rs (gaps_of ranking) (order_of ranking) homes used k) (sym same) g)
  where
    same : length (order_of ranking) ≡ length ranking
    same = length-map ranking (λ (rank : Rank). rank.1)

    below : (m : ℕ) → m < length (order_of ranking) → m < length ranking
    below m l = omega (arith, same, l)

-- Before the first choice and after the last

zeros : (n i : ℕ) → slice_index (replicate n 0) i ≡ 0
zeros zero i = refl
zeros (suc n) zero = refl
zeros (suc n) (suc i) = zeros n i

pub greedy-start : (rs : List Region) (gaps order used : List ℕ) (homes : List (Option ℕ)) (n : ℕ) → used ≡ replicate n 0 → IsGreedy rs gaps order homes used 0
greedy-start rs gaps order used homes n e = greedy-first rs gaps order used homes (λ i g. ap (λ z. bit_at z g) (ap (λ z. slice_index z i) e ∙ zeros n i) ∙ bit_at-zero g)

pub range-start : (rs : List Region) (homes : List (Option ℕ)) → homes ≡ map (λ r. None) rs → All (λ home. IfSome home IsHome) homes
range-start rs homes e = All-same (λ home. IfSome home IsHome) homes (map (λ r. None) rs) e (All-map (λ home. IfSome home IsHome) (λ r. None) rs (λ k d l. tt))

pub taken-back : {X : Type 0} (new items : List X) (n : ℕ) → n ≡ length new → take n (new ++ drop (length new) items) ≡ new
taken-back new items n e = ap (λ k. take k (new ++ drop (length new) items)) e ∙ take-append_seam new (drop (length new) items)
