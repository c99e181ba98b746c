-- In the end each declared object with an initialiser has a complete type.
use Rattle.std.proofs.Common.{◌≡◌, ◌<◌, ◌≤◌, ℕ, ◌+◌, Bool, true, false, if◌then◌else◌, List, [], ◌∷◌, ◌++◌, length, slice_get, unwrap_or, Some, None, Ok, refl, sym, ap, subst, ◌∙◌, arith}
use Rattle.std.proofs.lemmas.Option.{slice_get_within}
use Rattle.p9_lang.specs.declared.tree.Kind.{Kind}
use Rattle.p9_lang.specs.declared.tree.Kind.TheVariants as kind
use Rattle.p9_lang.specs.Trees.{node, none, more, Syntax, SyntaxRow, nodes_of, nodes_of_row}
use Rattle.p9_lang.specs.Types.{TypeTree, Void, Nothing, Meant}
use Rattle.p9_lang.specs.Layout.{is_complete}
use Rattle.p9_lang.specs.Scopes.{Known, known_first}
use Rattle.p9_lang.specs.Parts.{Context, file_context, Part, Statement, Frame, is_declarator, kind_at}
use Rattle.p9_lang.specs.Opening.{opened, context}
use Rattle.p9_lang.specs.Declaring.{behind}
use Rattle.p9_lang.specs.Typing.{judged, judge, judge_parts, judge_items}
use Rattle.p9_lang.specs.Files.{Typing, typing_of, names_with_bodies}
use Rattle.p9_lang.specs.Symbols.{kind_of_node, name_label, initialiser, is_declaration}
use Rattle.p9_lang.specs.Modules.{typed, typed_row, Typed}
use Rattle.p9_lang.proofs.Growing.{Grows, then_grows}
use Rattle.p9_lang.proofs.Counting.{then_of}
use Rattle.p9_sound.specs.Labels.{AreKnown}
use Rattle.p9_sound.proofs.Numbering.{kinds_after}
use Rattle.p9_sound.proofs.Staying.{AllHaveOpen, alike_known}
use Rattle.p9_sound.proofs.Closing.{opened_alike}
use Rattle.p9_sound.proofs.Labels.{part_stays, tree_stays}
use Rattle.p9_sound.proofs.Ending.{file_later}
use Rattle.p9_firsts.specs.Whole.{DeclaredIsWhole, ObjectsAreWhole, RowIsWhole}
use Rattle.p9_firsts.specs.Typedefs.{HasItsLength, IsClosed}
use Rattle.p9_firsts.specs.Laws.{ObjectsAreComplete}
use Rattle.p9_firsts.proofs.Fixing.{left_true, right_true}
use Rattle.p9_firsts.proofs.Closed.{opens_closed, judge_closed, behind_closed}
use Rattle.p9_firsts.proofs.Holding.{Holds, same_holds, then_holds, PartIsApart, PartsAreApart, PartHolds, parts_append, has_held, judged_held, judge_held, behind_held, parts_held}
use Rattle.p9_firsts.proofs.Declared.{Only, Nowhere, fresh_below, fresh_above, part_nowhere, parts_nowhere, grown_complete, tree_node, NameIsComplete, start}

-- NUMBERS

at_or_above : (a b n : ℕ) → a ≡ b → a ≤ n → b ≤ n
at_or_above a b n e h = omega (arith, e, h)

within : (n a b m : ℕ) → n < a → b ≡ a + m → n < b
within n a b m h e = omega (arith, h, e)

from_later : (a b n m : ℕ) → b ≡ a + m → b ≤ n → a ≤ n
from_later a b n m e h = omega (arith, e, h)

end_below : (a b n m : ℕ) → b ≡ a + m → b ≤ n → a + m ≤ n
end_below a b n m e h = omega (arith, e, h)

no_more : (a b : ℕ) → b ≡ a + 0 → b ≡ a
no_more a b e = omega (arith, e)

never_last : (n a : ℕ) → n < a → n ≡ a → ⊥
never_last n a h e = omega (arith, h, e)

kind_typed : (types : List TypeTree) (means : List Meant) (first : ℕ) (t : Syntax) → kind_of_node (typed types means first t) ≡ kind_at t
kind_typed types means first (node k at parts) = refl

-- A DECLARATOR in a declaration, whose nodes keep their types

named_whole : (final : Typing) (t : Syntax) (s : Known) (r : List Part × Known) (value : Typed) → Grows r.1.tags final.tags
    → ((n : ℕ) → length s.types ≤ n → n < length r.1.types → slice_get final.types n ≡ slice_get r.1.types n) → NameIsComplete t s r
    → DeclaredIsWhole final.tags (Some value) (name_label (typed final.types final.means (length s.types) t))
named_whole final t s r value g full n =
    let c = n.complete in
    let type : unwrap_or (slice_get final.types n.n.number) Void ≡ c.type =
    ap (λ o. unwrap_or o Void) (full n.n.number n.from (slice_get_within r.1.types n.n.number c.type c.there) ∙ c.there) in
    subst (λ o. DeclaredIsWhole final.tags (Some value) o) (sym (n.label final.types final.means))
    (subst (λ type. is_complete final.tags type ≡ true) (sym type) (grown_complete r.1.tags final.tags g c.type c.complete))

own_whole : (final : Typing) (k : Kind) (f : Frame) (before : List Part) (t : Syntax) (ts : SyntaxRow) (s : Known) (r : List Part × Known) (next : ℕ) → is_declaration k ≡ true
    → is_declarator (kind_at t) ≡ true → HasItsLength f.base → length s.means ≡ length s.types → judge_parts k f before (more t ts) s ≡ Ok r → Grows r.1.tags final.tags
    → ((n : ℕ) → length s.types ≤ n → n < length r.1.types → slice_get final.types n ≡ slice_get r.1.types n)
    → DeclaredIsWhole final.tags (initialiser (typed_row final.types final.means next ts)) (name_label (typed final.types final.means (length s.types) t))
own_whole final k f before t none s r next d dt base even e g full = tt
own_whole final k f before t (more (node j at parts) us) s r next d dt base even e g full = by (is_declarator j) refl
  where
    value : Typed
    value = typed final.types final.means next (node j at parts)

    by : (b : Bool) → is_declarator j ≡ b
        → DeclaredIsWhole final.tags (if b then None else Some value) (name_label (typed final.types final.means (length s.types) t))
    by true du = tt
    by false du = named_whole final t s r value g full (start k d f before t (node j at parts) us s r base dt du even e)

-- THE RECURSION: where a tree's types stay to the end, but for those of steps that wait

declaration_holds : (k : Kind) → is_declaration k ≡ true → (f : Frame) (parts : List Part) (s : Known) (r : Part × Known) → judged k f parts s ≡ Ok r → (n : ℕ)
    → n < length s.types → PartHolds (Only n) 1 s r
declaration_holds (kind.Declaration spec inits) d f parts s r e n h = has_held (Only n) s (never_last n (length s.types) h) _ Void Nothing Statement s refl refl tt r e
declaration_holds _ d f parts s r e n h = cc

mutual
  tree_whole : (final : Typing) (kinds : List Kind) (t : Syntax) (c : Context) (s : Known) → AreKnown kinds s → IsClosed s → (r : Part × Known) → judge t c s ≡ Ok r
      → Grows r.1.tags final.tags
      → ((n : ℕ) → length s.types ≤ n → n < length r.1.types → PartIsApart (Only n) r.0 → slice_get final.types n ≡ slice_get r.1.types n)
      → ObjectsAreWhole final.tags (typed final.types final.means (length s.types) t)
  tree_whole final kinds (node k at parts) c s h v r e g agree =
      let x = tree_node k at parts c s r e in
      let a = opened_alike k c s in
      let o = opens_closed k c s v in
      let same : length (opened k c s).1.types ≡ length s.types = ap length a.types in
      let all = judged_held Nowhere x.0.1 (λ p. p) k (opened k c s).0 x.0.0 (parts_nowhere x.0.0) r x.2 in
      let count = all.holds in
      subst (λ i. RowIsWhole final.tags (is_declaration k) (typed_row final.types final.means i parts)) same
      (row_whole final kinds k (opened k c s).0 [] parts (opened k c s).1 (alike_known kinds s (opened k c s).1 a h) tt o.base o.known (λ n le. tt) x.0 x.1
      (then_grows x.0.1.tags r.1.tags final.tags count.grows g)
      (λ n lo hi apart.
      let j = judged_held (Only n) x.0.1 (never_last n (length x.0.1.types) hi) k (opened k c s).0 x.0.0 apart r x.2 in
      let held = j.holds in
      agree n (at_or_above (length (opened k c s).1.types) (length s.types) n same lo) (within n (length x.0.1.types) (length r.1.types) 1 hi count.count) j.apart
      ∙ held.types n refl hi)
      (λ d n lo hi.
      let j = declaration_holds k d (opened k c s).0 x.0.0 x.0.1 r x.2 n hi in
      let held = j.holds in
      agree n (at_or_above (length (opened k c s).1.types) (length s.types) n same lo) (within n (length x.0.1.types) (length r.1.types) 1 hi count.count) j.apart
      ∙ held.types n refl hi))

  row_whole : (final : Typing) (kinds : List Kind) (k : Kind) (f : Frame) (before : List Part) (ts : SyntaxRow) (s : Known) → AreKnown kinds s → AllHaveOpen kinds before
      → HasItsLength f.base → IsClosed s → ((n : ℕ) → length s.types ≤ n → PartsAreApart (Only n) before) → (r : List Part × Known) → judge_parts k f before ts s ≡ Ok r
      → Grows r.1.tags final.tags
      → ((n : ℕ) → length s.types ≤ n → n < length r.1.types → PartsAreApart (Only n) r.0 → slice_get final.types n ≡ slice_get r.1.types n)
      → (is_declaration k ≡ true → (n : ℕ) → length s.types ≤ n → n < length r.1.types → slice_get final.types n ≡ slice_get r.1.types n)
      → RowIsWhole final.tags (is_declaration k) (typed_row final.types final.means (length s.types) ts)
  row_whole final kinds k f before none s h b base v under r e g agree full = tt
  row_whole final kinds k f before (more t ts) s h b base v under r e g agree full =
      let x = then_of (judge t (context k f before (kind_at t) s) s) _ r e in
      let y = then_of (behind k f before x.0.0 ts x.0.1) _ r x.2 in
      let p = part_stays kinds k f before t ts s b x.0 (tree_stays kinds t (context k f before (kind_at t) s) s h x.0 x.1) y.0 y.1 in
      let jc = judge_closed t (context k f before (kind_at t) s) s v x.0 x.1 in
      let bc = behind_closed x.0.1 jc.0 k f before x.0.0 ts base jc.1 y.0 y.1 in
      let tree = judge_held Nowhere t (context k f before (kind_at t) s) s (λ i lo hi q. q) x.0 x.1 in
      let part = behind_held Nowhere x.0.1 k f before x.0.0 ts (parts_nowhere before) (part_nowhere x.0.0) y.0 y.1 in
      let rest = parts_held Nowhere k f (before ++ y.0.0 ∷ []) ts y.0.1 (λ i lo hi q. q) (parts_nowhere (before ++ y.0.0 ∷ [])) r y.2 in
      let one = tree.holds in
      let two = part.holds in
      let three = rest.holds in
      let upto : length y.0.1.types ≡ length s.types + nodes_of t = no_more (length x.0.1.types) (length y.0.1.types) two.count ∙ one.count in
      let first = tree_whole final kinds t (context k f before (kind_at t) s) s h v x.0 x.1
      (then_grows x.0.1.tags y.0.1.tags final.tags two.grows (then_grows y.0.1.tags r.1.tags final.tags three.grows g))
      (λ n lo hi apart.
      let later = within n (length x.0.1.types) (length y.0.1.types) 0 hi two.count in
      let m = behind_held (Only n) x.0.1 k f before x.0.0 ts (under n lo) apart y.0 y.1 in
      let o = parts_held (Only n) k f (before ++ y.0.0 ∷ []) ts y.0.1 (fresh_below n (length y.0.1.types) (nodes_of_row ts) later)
      (parts_append (Only n) before y.0.0 (under n lo) m.apart) r y.2 in
      let held = m.holds in
      let kept = o.holds in
      agree n lo (within n (length y.0.1.types) (length r.1.types) (nodes_of_row ts) later three.count) o.apart ∙ kept.types n refl later ∙ held.types n refl hi) in
      let others = row_whole final (kinds_after kinds t) k f (before ++ y.0.0 ∷ []) ts y.0.1 p.known p.opens base bc.0
      (λ n lo.
      let low = from_later (length s.types) (length y.0.1.types) n (nodes_of t) upto lo in
      let i = judge_held (Only n) t (context k f before (kind_at t) s) s
      (fresh_above n (length s.types) (nodes_of t) (end_below (length s.types) (length y.0.1.types) n (nodes_of t) upto lo)) x.0 x.1 in
      let m = behind_held (Only n) x.0.1 k f before x.0.0 ts (under n low) i.apart y.0 y.1 in
      parts_append (Only n) before y.0.0 (under n low) m.apart)
      r y.2 g
      (λ n lo hi apart. agree n (from_later (length s.types) (length y.0.1.types) n (nodes_of t) upto lo) hi apart)
      (λ d n lo hi. full d n (from_later (length s.types) (length y.0.1.types) n (nodes_of t) upto lo) hi) in (
        (λ z.
            let d = left_true (is_declaration k) (is_declarator (kind_of_node (typed final.types final.means (length s.types) t))) z in
            own_whole final k f before t ts s r (length s.types + nodes_of t) d
            (ap is_declarator (sym (kind_typed final.types final.means (length s.types) t))
            ∙ right_true (is_declaration k) (is_declarator (kind_of_node (typed final.types final.means (length s.types) t))) z)
            base (h.means ∙ sym h.types) e g (full d)),
        (first, subst (λ i. RowIsWhole final.tags (is_declaration k) (typed_row final.types final.means i ts)) upto others),
      )

-- FILES

items_hold : (P : ℕ → Type 0) (items : SyntaxRow) (s r : Known) → ((n : ℕ) → P n → n < length s.types) → judge_items items s ≡ Ok r → Holds P (nodes_of_row items) s r
items_hold P none s r i e = let z : s ≡ r = cc in subst (λ x. Holds P 0 s x) z (same_holds P s)
items_hold P (more t ts) s r i e =
    let x = then_of (judge t file_context s) _ r e in
    let j = judge_held P t file_context s (λ n lo hi p. let l = i n p in omega (arith, lo, l)) x.0 x.1 in
    let a = j.holds in
    let c = a.count in
    then_holds P (nodes_of t) (nodes_of_row ts) s x.0.1 r j.holds
    (items_hold P ts x.0.1 r (λ n p. within n (length s.types) (length x.0.1.types) (nodes_of t) (i n p) c) x.2)

items_whole : (final : Typing) (kinds : List Kind) (items : SyntaxRow) (s : Known) → AreKnown kinds s → IsClosed s → (r : Known) → judge_items items s ≡ Ok r
    → Grows r.tags final.tags → ((n : ℕ) → length s.types ≤ n → n < length r.types → slice_get final.types n ≡ slice_get r.types n)
    → RowIsWhole final.tags false (typed_row final.types final.means (length s.types) items)
items_whole final kinds none s h v r e g agree = tt
items_whole final kinds (more t ts) s h v r e g agree =
    let x = then_of (judge t file_context s) _ r e in
    let p = tree_stays kinds t file_context s h x.0 x.1 in
    let jc = judge_closed t file_context s v x.0 x.1 in
    let tree = judge_held Nowhere t file_context s (λ i lo hi q. q) x.0 x.1 in
    let one = tree.holds in
    let two = items_hold Nowhere ts x.0.1 r (λ n q. absurd q) x.2 in
    let first = tree_whole final kinds t file_context s h v x.0 x.1 (then_grows x.0.1.tags r.tags final.tags two.grows g)
    (λ n lo hi apart.
    let m = items_hold (Only n) ts x.0.1 r (λ i q. subst (λ j. j < length x.0.1.types) q hi) x.2 in
    agree n lo (within n (length x.0.1.types) (length r.types) (nodes_of_row ts) hi two.count) ∙ m.types n refl hi) in
    let others = items_whole final (kinds_after kinds t) ts x.0.1 p.known jc.0 r x.2 g
    (λ n lo hi. agree n (from_later (length s.types) (length x.0.1.types) n (nodes_of t) one.count lo) hi) in (
      (λ z. cc),
      (first, subst (λ i. RowIsWhole final.tags false (typed_row final.types final.means i ts)) one.count others),
    )

first_closed : (bodies : List (List ℕ)) → IsClosed (known_first bodies)
first_closed bodies = record { names = ((tt, (tt, (tt, tt))), tt); means = tt }

pub objects_are_complete : ObjectsAreComplete
objects_are_complete items marks t e =
    let x = then_of (judge_items items (known_first (names_with_bodies items))) _ t e in
    let first : AreKnown [] (known_first (names_with_bodies items)) = record { types = refl; means = refl } in
    let grows = file_later [] marks x.0 in
    let z : typing_of marks x.0 ≡ t = cc in
    subst (λ u. RowIsWhole u.tags false (typed_row u.types u.means 0 items)) z
    (items_whole (typing_of marks x.0) [] items (known_first (names_with_bodies items)) first (first_closed (names_with_bodies items)) x.0 x.1 grows.grows
    (λ n lo hi. refl))
