-- A text of a file that is typed has the type of its bytes in the end.
use Rattle.std.proofs.Common.{◌≡◌, ℕ, ◌+◌, Bool, true, false, if◌then◌else◌, List, [], ◌∷◌, ◌++◌, length, Ok, refl, ap, subst}
use Rattle.p9_lang.specs.declared.tree.Kind.{Kind}
use Rattle.p9_lang.specs.declared.tree.Kind.TheVariants as kind
use Rattle.p9_lang.specs.Trees.{node, none, more, Syntax, SyntaxRow}
use Rattle.p9_lang.specs.Types.{TypeTree, Meant, Nothing, Static}
use Rattle.p9_lang.specs.Rules.{Rule, and_then}
use Rattle.p9_lang.specs.Constants.{NotConstant}
use Rattle.p9_lang.specs.Scopes.{Known, known_first, with_node, next_node}
use Rattle.p9_lang.specs.Parts.{Context, file_context, Part, Value, Frame, kind_at}
use Rattle.p9_lang.specs.Opening.{opened, context}
use Rattle.p9_lang.specs.Declaring.{broken_rules, behind}
use Rattle.p9_lang.specs.Typing.{has, judged, judge, judge_parts, judge_items, role_rules, operand, is_filled_by_text, text_type}
use Rattle.p9_lang.specs.Files.{Typing, typing_of, names_with_bodies}
use Rattle.p9_lang.specs.Modules.{typed, typed_row}
use Rattle.p9_lang.proofs.Counting.{then_of, unless_of}
use Rattle.p9_sound.specs.Labels.{AreKnown}
use Rattle.p9_sound.proofs.Numbering.{kinds_after, kinds_after_row, extends_self, extends_last, extends_tree, extends_row}
use Rattle.p9_sound.proofs.Staying.{Stays, still, then_stays, alike_known, AllHaveOpen, judged_adds}
use Rattle.p9_sound.proofs.Closing.{opened_alike}
use Rattle.p9_sound.proofs.Labels.{with_rules_is, part_stays, tree_stays, row_stays}
use Rattle.p9_sound.proofs.Ending.{Later, before_later, length_after, length_after_row, type_in, last_type, file_later}
use Rattle.p9_firsts.specs.Whole.{TextIsWhole, TextsAreWhole, RowTextsAreWhole}
use Rattle.p9_firsts.specs.Laws.{TextsAreTyped}

has_type : (final : Typing) (kinds : List Kind) (texts : List (List ℕ)) (rules : List Rule) (type : TypeTree) (means : Meant) (part : Part) (s : Known) (r : Part × Known)
    → AreKnown kinds s → has rules type means part s ≡ Ok r → Later (kinds ++ kind.Text texts ∷ []) r.1 final → type_in final.types (length kinds) ≡ type
has_type final kinds texts rules type means part s r h e l =
    let z = unless_of (broken_rules (next_node s) rules) (part, with_node type means s) r e in
    last_type kinds (kind.Text texts) s r.1 final type means h refl (ap (λ x. x.1) z) l

text_by : (final : Typing) (kinds : List Kind) (texts : List (List ℕ)) (type : TypeTree) (b : Bool) (rules : List Rule) (s : Known) (r : Part × Known) → AreKnown kinds s
    → (if b then has [] type Nothing (Value (operand type true NotConstant)) s
    else has rules type (Static s.statics) (Value (operand type true NotConstant)) (record s { statics = s.statics + 1 }))
    ≡ Ok r
    → Later (kinds ++ kind.Text texts ∷ []) r.1 final → type_in final.types (length kinds) ≡ type
text_by final kinds texts type true rules s r h e l = has_type final kinds texts [] type Nothing (Value (operand type true NotConstant)) s r h e l
text_by final kinds texts type false rules s r h e l =
    has_type final kinds texts rules type (Static s.statics) (Value (operand type true NotConstant)) (record s { statics = s.statics + 1 }) r
    (record { types = h.types; means = h.means }) e l

-- the label of a node behind nodes of these kinds
node_text : (final : Typing) (kinds : List Kind) (k : Kind) (f : Frame) (parts : List Part) (s : Known) (r : Part × Known) → AreKnown kinds s
    → judged k f parts s ≡ Ok r → Later (kinds ++ k ∷ []) r.1 final → TextIsWhole k (type_in final.types (length kinds))
node_text final kinds (kind.Text texts) f parts s r h e l =
    text_by final kinds texts (text_type texts) (is_filled_by_text f.context.role) _ s r h e l
node_text final kinds _ f parts s r h e l = tt

mutual
  tree_texts : (final : Typing) (kinds : List Kind) (t : Syntax) (c : Context) (s : Known) → AreKnown kinds s → (r : Part × Known) → judge t c s ≡ Ok r
      → Later (kinds_after kinds t) r.1 final → TextsAreWhole (typed final.types final.means (length kinds) t)
  tree_texts final kinds (node k at parts) c s h r e l =
      let z = with_rules_is _ (role_rules c.role k) (and_then (judge_parts k (opened k c s).0 [] parts (opened k c s).1) _) r e in
      let x = then_of (judge_parts k (opened k c s).0 [] parts (opened k c s).1) _ r z in
      let q = (opened k c s).1 in
      let known = alike_known kinds s q (opened_alike k c s) h in
      let p = row_stays kinds k (opened k c s).0 [] parts q known tt x.0 x.1 in
      let inside = kinds_after_row kinds parts in
      let j = judged_adds inside k (opened k c s).0 x.0.0 x.0.1 p.known p.opens r x.2 in
      let m = before_later inside (inside ++ k ∷ []) x.0.1 r.1 final (extends_last inside k) j.stay l in (
        subst (λ n. TextIsWhole k (type_in final.types n)) (length_after_row kinds parts) (node_text final inside k (opened k c s).0 x.0.0 x.0.1 r p.known x.2 l),
        row_texts final kinds k (opened k c s).0 [] parts q known tt x.0 x.1 m,
      )

  row_texts : (final : Typing) (kinds : List Kind) (k : Kind) (f : Frame) (before : List Part) (ts : SyntaxRow) (s : Known) → AreKnown kinds s
      → AllHaveOpen kinds before → (r : List Part × Known) → judge_parts k f before ts s ≡ Ok r
      → Later (kinds_after_row kinds ts) r.1 final → RowTextsAreWhole (typed_row final.types final.means (length kinds) ts)
  row_texts final kinds k f before none s h b r e l = tt
  row_texts final kinds k f before (more t ts) s h b r e l =
      let x = then_of (judge t (context k f before (kind_at t) s) s) _ r e in
      let y = then_of (behind k f before x.0.0 ts x.0.1) _ r x.2 in
      let later = kinds_after kinds t in
      let p = part_stays kinds k f before t ts s b x.0 (tree_stays kinds t (context k f before (kind_at t) s) s h x.0 x.1) y.0 y.1 in
      let others = row_stays later k f (before ++ y.0.0 ∷ []) ts y.0.1 p.known p.opens r y.2 in
      let m = before_later later (kinds_after_row later ts) y.0.1 r.1 final (extends_row later ts) others.stay l in
      let n = before_later later later x.0.1 y.0.1 final (extends_self later) p.behind_stay m in (
        tree_texts final kinds t (context k f before (kind_at t) s) s h x.0 x.1 n,
        subst (λ i. RowTextsAreWhole (typed_row final.types final.means i ts)) (length_after kinds t)
            (row_texts final later k f (before ++ y.0.0 ∷ []) ts y.0.1 p.known p.opens r y.2 l),
      )

record ItemsStay (kinds : List Kind) (items : SyntaxRow) (s r : Known) : Type 0 where
  known : AreKnown (kinds_after_row kinds items) r
  stay : Stays kinds s r

items_stay : (kinds : List Kind) (items : SyntaxRow) (s : Known) → AreKnown kinds s → (r : Known) → judge_items items s ≡ Ok r → ItemsStay kinds items s r
items_stay kinds none s h r e = let z : s ≡ r = cc in subst (λ x. ItemsStay kinds none s x) z (record { known = h; stay = still kinds s })
items_stay kinds (more t ts) s h r e =
    let x = then_of (judge t file_context s) _ r e in
    let first = tree_stays kinds t file_context s h x.0 x.1 in
    let others = items_stay (kinds_after kinds t) ts x.0.1 first.known r x.2 in
    record { known = others.known; stay = then_stays kinds (kinds_after kinds t) s x.0.1 r (extends_tree kinds t) first.stay others.stay }

items_texts : (final : Typing) (kinds : List Kind) (items : SyntaxRow) (s : Known) → AreKnown kinds s → (r : Known) → judge_items items s ≡ Ok r
    → Later (kinds_after_row kinds items) r final → RowTextsAreWhole (typed_row final.types final.means (length kinds) items)
items_texts final kinds none s h r e l = tt
items_texts final kinds (more t ts) s h r e l =
    let x = then_of (judge t file_context s) _ r e in
    let later = kinds_after kinds t in
    let first = tree_stays kinds t file_context s h x.0 x.1 in
    let others = items_stay later ts x.0.1 first.known r x.2 in
    let m = before_later later (kinds_after_row later ts) x.0.1 r final (extends_row later ts) others.stay l in (
      tree_texts final kinds t file_context s h x.0 x.1 m,
      subst (λ i. RowTextsAreWhole (typed_row final.types final.means i ts)) (length_after kinds t)
          (items_texts final later ts x.0.1 first.known r x.2 l),
    )

pub texts_are_typed : TextsAreTyped
texts_are_typed items marks t e =
    let x = then_of (judge_items items (known_first (names_with_bodies items))) _ t e in
    let first : AreKnown [] (known_first (names_with_bodies items)) = record { types = refl; means = refl } in
    let z : typing_of marks x.0 ≡ t = cc in
    subst (λ u. RowTextsAreWhole (typed_row u.types u.means 0 items)) z
    (items_texts (typing_of marks x.0) [] items (known_first (names_with_bodies items)) first x.0 x.1
    (file_later (kinds_after_row [] items) marks x.0))
