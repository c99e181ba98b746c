-- The recursion of typing: labels stay.
use Rattle.std.proofs.Common.{◌≡◌, ℕ, Bool, true, false, if◌then◌else◌, ◌==◌, List, [], ◌∷◌, ◌++◌, Ok, Err, ap, subst, ◌<◌, zero, suc, length, Some, slice_get, refl, sym, ◌∙◌, arith}
use Rattle.p9_lang.specs.declared.tree.Kind.{Kind}
use Rattle.p9_lang.specs.declared.tree.Kind.TheVariants as kind
use Rattle.p9_lang.specs.Trees.{node, none, more, Syntax, SyntaxRow}
use Rattle.p9_lang.specs.Rules.{Rule, and_then, first_of}
use Rattle.p9_lang.specs.Scopes.{Known, next_node}
use Rattle.p9_lang.specs.Parts.{Context, Part, Frame, Judged, kind_at}
use Rattle.p9_lang.specs.Opening.{opened, context}
use Rattle.p9_lang.specs.Declaring.{broken_rules, behind}
use Rattle.p9_lang.specs.Typing.{judge, judge_parts, role_rules, with_rules}
use Rattle.p9_lang.proofs.Counting.{then_of, unless_of}
use Rattle.p9_sound.specs.Labels.{AreKnown, IsShut, LabelsStay, EarlierLabelsStay}
use Rattle.p9_sound.proofs.Numbering.{kinds_after, kinds_after_row, root, root_last, extends_self, extends_tree, extends_row}
use Rattle.p9_sound.proofs.Staying.{Stays, still, then_stays, alike_known, alike_stays, Fits, AllHaveOpen, all_open_later, one_open_more, judged_adds}
use Rattle.p9_sound.proofs.Closing.{opened_alike, behind_holds}

pub with_rules_is : (number : ℕ) (rules : List Rule) (m : Judged) (r : Part × Known) → with_rules number rules m ≡ Ok r → m ≡ Ok r
with_rules_is number rules (Ok x) r e = ap (λ y. Ok y) (unless_of (broken_rules number rules) x r e)
with_rules_is number rules (Err b) r e = by (b.node == number) e
  where
    by : (same : Bool) → (if same then Err (first_of b (broken_rules number rules)) else Err b) ≡ Ok r → Err b ≡ Ok r
    by true k = cc
    by false k = k

pub record TreeStays (kinds : List Kind) (t : Syntax) (s : Known) (r : Part × Known) : Type 0 where
  pub known : AreKnown (kinds_after kinds t) r.1
  pub stay : Stays kinds s r.1
  pub fits : Fits (kinds_after kinds t) r.1 (root kinds t) r.0

pub record RowStays (kinds : List Kind) (ts : SyntaxRow) (s : Known) (r : List Part × Known) : Type 0 where
  pub known : AreKnown (kinds_after_row kinds ts) r.1
  pub stay : Stays kinds s r.1
  pub opens : AllHaveOpen (kinds_after_row kinds ts) r.0

pub record PartStays (kinds : List Kind) (before : List Part) (t : Syntax) (s : Known) (x y : Part × Known) : Type 0 where
  pub known : AreKnown (kinds_after kinds t) y.1
  pub stay : Stays kinds s y.1
  pub behind_stay : Stays (kinds_after kinds t) x.1 y.1
  pub opens : AllHaveOpen (kinds_after kinds t) (before ++ y.0 ∷ [])

-- one part more, with what it means to its node
pub part_stays : (kinds : List Kind) (k : Kind) (f : Frame) (before : List Part) (t : Syntax) (ts : SyntaxRow) (s : Known)
    → AllHaveOpen kinds before → (x : Part × Known) → TreeStays kinds t s x
    → (y : Part × Known) → behind k f before x.0 ts x.1 ≡ Ok y → PartStays kinds before t s x y
part_stays kinds k f before t ts s b x first y g =
    let later = kinds_after kinds t in
    let held = all_open_later kinds later (extends_tree kinds t) before b in
    let second = behind_holds later (root kinds t) k f before x.0 ts x.1 first.known (root_last kinds t) held first.fits y g in
    record {
      known = second.known;
      stay = then_stays kinds later s x.1 y.1 (extends_tree kinds t) first.stay second.stay;
      behind_stay = second.stay;
      opens = one_open_more later before y.0 held second.opens;
    }

mutual
  pub tree_stays : (kinds : List Kind) (t : Syntax) (c : Context) (s : Known) → AreKnown kinds s → (r : Part × Known) → judge t c s ≡ Ok r
      → TreeStays kinds t s r
  tree_stays kinds (node k at parts) c s h r e =
      let z = with_rules_is _ (role_rules c.role k) (and_then (judge_parts k (opened k c s).0 [] parts (opened k c s).1) _) r e in
      let x = then_of (judge_parts k (opened k c s).0 [] parts (opened k c s).1) _ r z in
      let q = (opened k c s).1 in
      let a = opened_alike k c s in
      let p = row_stays kinds k (opened k c s).0 [] parts q (alike_known kinds s q a h) tt x.0 x.1 in
      let j = judged_adds (kinds_after_row kinds parts) k (opened k c s).0 x.0.0 x.0.1 p.known p.opens r x.2 in
      record {
        known = j.known;
        stay = then_stays kinds kinds s q r.1 (extends_self kinds) (alike_stays kinds s q a)
            (then_stays kinds (kinds_after_row kinds parts) q x.0.1 r.1 (extends_row kinds parts) p.stay j.stay);
        fits = j.fits;
      }

  pub row_stays : (kinds : List Kind) (k : Kind) (f : Frame) (before : List Part) (ts : SyntaxRow) (s : Known) → AreKnown kinds s
      → AllHaveOpen kinds before → (r : List Part × Known) → judge_parts k f before ts s ≡ Ok r → RowStays kinds ts s r
  row_stays kinds k f before none s h b r e =
      let z : (before, s) ≡ r = cc in
      subst (λ x. RowStays kinds none s x) z (record { known = h; stay = still kinds s; opens = b })
  row_stays kinds k f before (more t ts) s h b r e =
      let x = then_of (judge t (context k f before (kind_at t) s) s) _ r e in
      let y = then_of (behind k f before x.0.0 ts x.0.1) _ r x.2 in
      let p = part_stays kinds k f before t ts s b x.0 (tree_stays kinds t (context k f before (kind_at t) s) s h x.0 x.1) y.0 y.1 in
      let others = row_stays (kinds_after kinds t) k f (before ++ y.0.0 ∷ []) ts y.0.1 p.known p.opens r y.2 in
      record {
        known = others.known;
        stay = then_stays kinds (kinds_after kinds t) s y.0.1 r.1 (extends_tree kinds t) p.stay others.stay;
        opens = others.opens;
      }

pub labels_stay : LabelsStay
labels_stay kinds t c s r h e =
    let x = tree_stays kinds t c s h r e in
    let a = x.stay in
    record { types = a.types; means = a.means }

-- The nodes before may be of any kinds, so of kinds that are shut.

abbrev pub statements : ℕ → List Kind
statements zero = []
statements (suc n) = kind.Expression ∷ statements n

pub statements_length : (n : ℕ) → length (statements n) ≡ n
statements_length zero = refl
statements_length (suc n) = ap suc (statements_length n)

statement_there : (n m : ℕ) → m < n → slice_get (statements n) m ≡ Some kind.Expression
statement_there zero m h = absurd (omega (arith, h))
statement_there (suc n) zero h = refl
statement_there (suc n) (suc m) h = statement_there n m (omega (arith, h))

pub earlier_labels_stay : EarlierLabelsStay
earlier_labels_stay t c s r h e n i =
    let kinds = statements (next_node s) in
    let all : AreKnown kinds s = record { types = sym (statements_length (next_node s)); means = h ∙ sym (statements_length (next_node s)) } in
    let x = tree_stays kinds t c s all r e in
    let a = x.stay in
    let there : IsShut kinds n = record { found = kind.Expression; there = statement_there (next_node s) n i; shut = refl } in
    (a.types n there, a.means n there)
