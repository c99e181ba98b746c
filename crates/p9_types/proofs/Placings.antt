-- Where members stand, by what is filled before them.
use Rattle.std.proofs.Common.{◌≡◌, ℕ, suc, ◌+◌, Bool, List, [], ◌∷◌, ◌++◌, map, Option, Some, None, append-nil, append_assoc, refl, sym, ap, subst, ◌∙◌, arith}
use Rattle.std.specs.Option.{unwrap_or}
use Rattle.p9_lang.specs.Types.{MemberTree, Tags, type_of}
use Rattle.p9_lang.specs.Layout.{Extent, layout, with_member, member_offset, nothing_yet}
use Rattle.p9_lang.specs.Members.{Placed, or_empty, placed_from}
use Rattle.p9_types.specs.declared.placing.Placing.{Placing}
use Rattle.p9_types.specs.declared.capped.Capped.{Capped}
use Rattle.p9_types.specs.Capping.{capped, AreAlike, Alike}
use Rattle.p9_types.specs.Told.{told, told_option}
use Rattle.p9_types.specs.Offsets.{cut_placed}
use Rattle.p9_types.specs.Standings.{placing_of, all_placed}
use Rattle.p9_types.proofs.AlikeExtents.{are_alike, alike_offset, alike_member}

pub alike_or_empty : (o : Option Capped) (q : Option Extent) (x : Capped) (none : Capped) → Alike (told_option o) q → told none ≡ nothing_yet → x ≡ unwrap_or o none
    → AreAlike (told x) (or_empty q)
alike_or_empty None None x none h e f = subst (λ y. AreAlike y nothing_yet) (sym (ap told f ∙ e)) (record { sizes = refl; aligns = refl })
alike_or_empty None (Some q) x none h e f = absurd h
alike_or_empty (Some o) None x none h e f = absurd h
alike_or_empty (Some o) (Some q) x none h e f = subst (λ y. AreAlike (told y) q) (sym f) h

-- what members are placed behind counts as alike
alike_placed : (tags : Tags) (u : Bool) (a b : Extent) → AreAlike a b → (n : ℕ) (ms : List MemberTree) → map cut_placed (placed_from tags u a n ms) ≡ map cut_placed (placed_from tags u b n ms)
alike_placed tags u a b h n [] = refl
alike_placed tags u a b h n (m ∷ ms) =
    ap (λ k. record { name = m.name; type = m.type; offset = k; number = n } ∷ map cut_placed (placed_from tags u (with_member u a (or_empty (layout tags m.type))) (suc n) ms))
    (alike_offset u a b (or_empty (layout tags m.type)) (or_empty (layout tags m.type)) h (are_alike (or_empty (layout tags m.type))))
    ∙ ap (λ l. cut_placed (record { name = m.name; type = m.type; offset = member_offset u b (or_empty (layout tags m.type)); number = n }) ∷ l)
    (alike_placed tags u (with_member u a (or_empty (layout tags m.type))) (with_member u b (or_empty (layout tags m.type)))
    (alike_member u a b (or_empty (layout tags m.type)) (or_empty (layout tags m.type)) h (are_alike (or_empty (layout tags m.type)))) (suc n) ms)

all_placed_more : (ps : List Placing) (p : Placing) → all_placed (ps ++ p ∷ []) ≡ all_placed ps ++ placing_of p ∷ []
all_placed_more [] p = refl
all_placed_more (q ∷ ps) p = ap (λ l. placing_of q ∷ l) (all_placed_more ps p)

pub placed_step : (tags : Tags) (u : Bool) (so_far x later : Capped) (n next : ℕ) (m : MemberTree) (ms : List MemberTree) (done then : List Placing) (p : Placing) (target : List Placed)
    → AreAlike (told x) (or_empty (layout tags m.type)) → AreAlike (told later) (with_member u (told so_far) (told x))
    → then ≡ done ++ p ∷ [] → p.member.now.name ≡ m.name → type_of p.member.now.ty ≡ m.type → p.offset ≡ capped (member_offset u (told so_far) (told x))
    → p.number ≡ n → next ≡ n + 1 → all_placed done ++ map cut_placed (placed_from tags u (told so_far) n (m ∷ ms)) ≡ target
    → all_placed then ++ map cut_placed (placed_from tags u (told later) next ms) ≡ target
placed_step tags u so_far x later n next m ms done then p target l w e a b c d f h =
    ap (λ ps. all_placed ps ++ map cut_placed (placed_from tags u (told later) next ms)) e
    ∙ ap (λ ps. ps ++ map cut_placed (placed_from tags u (told later) next ms)) (all_placed_more done p)
    ∙ append_assoc (all_placed done) (placing_of p ∷ []) (map cut_placed (placed_from tags u (told later) next ms))
    ∙ ap (λ ps. all_placed done ++ ps)
    (ap (λ (q : Placed). q ∷ map cut_placed (placed_from tags u (told later) next ms)) placing_is ∙ ap (λ ps. first ∷ ps) others)
    ∙ h
  where
    first : Placed
    first = record { name = m.name; type = m.type; offset = capped (member_offset u (told so_far) (or_empty (layout tags m.type))); number = n }

    number : next ≡ suc n
    number = omega (arith, f)

    alike : AreAlike (told later) (with_member u (told so_far) (or_empty (layout tags m.type)))
    alike =
        let k = alike_member u (told so_far) (told so_far) (told x) (or_empty (layout tags m.type)) (are_alike (told so_far)) l in
        record { sizes = w.sizes ∙ k.sizes; aligns = w.aligns ∙ k.aligns }

    others : map cut_placed (placed_from tags u (told later) next ms) ≡ map cut_placed (placed_from tags u (with_member u (told so_far) (or_empty (layout tags m.type))) (suc n) ms)
    others =
        ap (λ k. map cut_placed (placed_from tags u (told later) k ms)) number
        ∙ alike_placed tags u (told later) (with_member u (told so_far) (or_empty (layout tags m.type))) alike (suc n) ms

    placing_is : placing_of p ≡ first
    placing_is =
        ap (λ y. record { name = y; type = type_of p.member.now.ty; offset = p.offset; number = p.number }) a
        ∙ ap (λ y. record { name = m.name; type = y; offset = p.offset; number = p.number }) b
        ∙ ap (λ y. record { name = m.name; type = m.type; offset = y; number = p.number })
        (c ∙ alike_offset u (told so_far) (told so_far) (told x) (or_empty (layout tags m.type)) (are_alike (told so_far)) l)
        ∙ ap (λ y. record { name = m.name; type = m.type; offset = capped (member_offset u (told so_far) (or_empty (layout tags m.type))); number = y }) d

pub placed_first : (tags : Tags) (u : Bool) (so_far : Capped) (ms : List MemberTree) (none : List Placing) → none ≡ [] → told so_far ≡ nothing_yet
    → all_placed none ++ map cut_placed (placed_from tags u (told so_far) 0 ms) ≡ map cut_placed (placed_from tags u nothing_yet 0 ms)
placed_first tags u so_far ms none e f =
    ap (λ l. all_placed l ++ map cut_placed (placed_from tags u (told so_far) 0 ms)) e ∙ ap (λ y. map cut_placed (placed_from tags u y 0 ms)) f

pub placed_last : (tags : Tags) (u : Bool) (so_far : Extent) (n : ℕ) (ms : List MemberTree) (ps : List Placing) (target : List Placed) → ms ≡ []
    → all_placed ps ++ map cut_placed (placed_from tags u so_far n ms) ≡ target → all_placed ps ≡ target
placed_last tags u so_far n ms ps target e h =
    sym (append-nil (all_placed ps)) ∙ ap (λ l. all_placed ps ++ map cut_placed (placed_from tags u so_far n l)) (sym e) ∙ h
