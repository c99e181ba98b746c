-- The layout of a type, by what is known of the structures within it.
use Rattle.std.proofs.Common.{◌≡◌, ◌≤◌, ◌<◌, IsTrue, Option, Some, None, IsSomeAnd, refl, sym, ap, ◌∙◌, arith}
use Rattle.p9_lang.specs.Types.{TypeTree, Tagged, Tags}
use Rattle.p9_lang.specs.Layout.{Extent, extent, layout, size_limit}
use Rattle.p9_types.specs.Capping.{Alike}
use Rattle.p9_types.specs.Told.{Table, is_known, known_extent, IsSound}
use Rattle.p9_types.specs.Reaching.{inner_of}
use Rattle.p9_types.specs.Tasks.{AreAll}
use Rattle.p9_types.proofs.AlikeExtents.{alike_then, extents_alike}
use Rattle.p9_types.proofs.Weights.{all_within}

pub laid_out : (tags : Tags) (known : Table) (t : TypeTree) (o : Option Extent) → IsSound tags known
    → AreAll (λ i. IsTrue (is_known known i)) (inner_of t) → Alike o (extent (known_extent known) t) → Alike o (layout tags t)
laid_out tags known t o sound h k =
    alike_then o (extent (known_extent known) t) (layout tags t) k
    (extents_alike (known_extent known) (λ i. layout tags (Tagged i)) (λ i. IsTrue (is_known known i)) sound t (all_within (λ i. IsTrue (is_known known i)) t h))

pub none_alike : (o : Option Extent) → Alike None o → o ≡ None
none_alike None h = refl
none_alike (Some x) h = absurd h

pub exact_alike : (a : Extent) (o : Option Extent) → a.size ≤ 16777216 → Alike (Some a) o → o ≡ Some a
exact_alike a None le h = absurd h
exact_alike a (Some x) le h =
    let s : x.size ≡ a.size = (let e = h.sizes in omega arith) in
    ap (λ n. Some (record { size = n; align = x.align })) s ∙ ap (λ n. Some (record { size = a.size; align = n })) (sym h.aligns)

pub large_alike : (a : Extent) (o : Option Extent) → 16777216 < a.size → Alike (Some a) o → IsSomeAnd o (λ e. size_limit < e.size)
large_alike a None lt h = absurd h
large_alike a (Some x) lt h = let e = h.sizes in omega arith
