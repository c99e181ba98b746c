-- Places in a shape, and how many registers hold values of nodes below a place.
use Rattle.std.proofs.Common.{◌≡◌, ℕ, zero, suc, ◌+◌, ◌<◌, ◌≤◌, ◌⊎◌, ◌≢◌, Bool, true, false, ◌&&◌, ◌||◌, cond, List, [], ◌∷◌, length, Option, Some, None, All, refl, sym, ◌∙◌, ap, subst, inl, inr, arith}
use Rattle.std.specs.Prelude.{slice_get}
use Rattle.std.proofs.lemmas.Bool.{or_cases}
use Rattle.std.proofs.lemmas.Bool.Decides.{eqb_tells}
use Rattle.std.proofs.lemmas.List.Elements.{All-append, All-cons, All-nil, All-head, All-tail}
use Rattle.p9_su.specs.declared.shapes.Shape.{Shape, Leaf, Pair'}
use Rattle.p9_su.specs.Game.{Side, Left, Right, Place, leaf_places, Registers, with_content}

-- Subtrees

abbrev pub son_of : Side → Option Shape → Option Shape
son_of side None = None
son_of side (Some Leaf) = None
son_of Left (Some (Pair' p left q right)) = Some left
son_of Right (Some (Pair' p left q right)) = Some right

-- the shape that stands at a place of another
abbrev pub subtree_at : Shape → Place → Option Shape
subtree_at whole [] = Some whole
subtree_at whole (side ∷ place) = son_of side (subtree_at whole place)

pub subtree_at_son : (whole : Shape) (place : Place) (side : Side) (tree : Option Shape) → subtree_at whole place ≡ tree → subtree_at whole (side ∷ place) ≡ son_of side tree
subtree_at_son whole place side tree e = ap (son_of side) e

-- a leaf stands at each place of a leaf
pub leaves_stand : (whole tree : Shape) (place : Place) → subtree_at whole place ≡ Some tree → All (λ q. subtree_at whole q ≡ Some Leaf) (leaf_places tree place)
leaves_stand whole Leaf place e =
    let P : Place → Type 0 = λ q. subtree_at whole q ≡ Some Leaf in All-cons P place [] e (All-nil P)
leaves_stand whole (Pair' p left q right) place e =
    All-append (λ r. subtree_at whole r ≡ Some Leaf) (leaf_places left (Left ∷ place)) (leaf_places right (Right ∷ place))
    (leaves_stand whole left (Left ∷ place) (subtree_at_son whole place Left (Some (Pair' p left q right)) e))
    (leaves_stand whole right (Right ∷ place) (subtree_at_son whole place Right (Some (Pair' p left q right)) e))

pub All-slice_get : {X : Type 0} (P : X → Type 0) (xs : List X) (k : ℕ) (x : X) → All P xs → slice_get xs k ≡ Some x → P x
All-slice_get P [] k x all e = absurd (cc)
All-slice_get P (y ∷ ys) zero x all e = let same : y ≡ x = cc in subst P same (All-head P y ys all)
All-slice_get P (y ∷ ys) (suc k) x all e = All-slice_get P ys k x (All-tail P y ys all) e

pub leaf_stands : (whole : Shape) (leaf : ℕ) (place : Place) → slice_get (leaf_places whole []) leaf ≡ Some place → subtree_at whole place ≡ Some Leaf
leaf_stands whole leaf place e =
    All-slice_get (λ q. subtree_at whole q ≡ Some Leaf) (leaf_places whole []) leaf place (leaves_stand whole whole [] refl) e

-- Below a place

abbrev pub same_side : Side → Side → Bool
same_side Left Left = true
same_side Left Right = false
same_side Right Left = false
same_side Right Right = true

abbrev pub same_place : Place → Place → Bool
same_place [] [] = true
same_place [] (b ∷ q) = false
same_place (a ∷ p) [] = false
same_place (a ∷ p) (b ∷ q) = same_side a b && same_place p q

-- the second place is the first, or stands below it
abbrev pub is_below : Place → Place → Bool
is_below p [] = same_place p []
is_below p (side ∷ q) = same_place p (side ∷ q) || is_below p q

pub same_side_refl : (a : Side) → same_side a a ≡ true
same_side_refl Left = refl
same_side_refl Right = refl

pub same_side_eq : (a b : Side) → same_side a b ≡ true → a ≡ b
same_side_eq Left Left e = refl
same_side_eq Left Right e = absurd (cc)
same_side_eq Right Left e = absurd (cc)
same_side_eq Right Right e = refl

pub and_parts : (x y : Bool) → (x && y) ≡ true → (x ≡ true) × (y ≡ true)
and_parts true y e = (refl, e)
and_parts false y e = absurd (cc)

pub or_left : (x y : Bool) → x ≡ true → (x || y) ≡ true
or_left true y e = refl
or_left false y e = absurd (cc)

pub or_right : (x y : Bool) → y ≡ true → (x || y) ≡ true
or_right true y e = refl
or_right false y e = e

pub same_place_refl : (p : Place) → same_place p p ≡ true
same_place_refl [] = refl
same_place_refl (a ∷ p) = rw (same_side_refl a) (same_place_refl p)

pub same_place_eq : (p q : Place) → same_place p q ≡ true → p ≡ q
same_place_eq [] [] e = refl
same_place_eq [] (b ∷ q) e = absurd (cc)
same_place_eq (a ∷ p) [] e = absurd (cc)
same_place_eq (a ∷ p) (b ∷ q) e =
    let both = and_parts (same_side a b) (same_place p q) e in
    let heads : a ≡ b = same_side_eq a b both.0 in
    let tails : p ≡ q = same_place_eq p q both.1 in
    cc

pub is_below_refl : (p : Place) → is_below p p ≡ true
is_below_refl [] = refl
is_below_refl (a ∷ p) = or_left (same_place (a ∷ p) (a ∷ p)) (is_below (a ∷ p) p) (same_place_refl (a ∷ p))

-- what is below a son is below the node
pub is_below_son : (side : Side) (p q : Place) → is_below (side ∷ p) q ≡ true → is_below p q ≡ true
is_below_son side p [] e = absurd (cc)
is_below_son side p (b ∷ q) e =
    elim (or_cases (same_place (side ∷ p) (b ∷ q)) (is_below (side ∷ p) q) e) [
      | inl here ↦
          let tails : p ≡ q = same_place_eq p q (and_parts (same_side side b) (same_place p q) here).1 in
          or_right (same_place p (b ∷ q)) (is_below p q) (subst (λ r. is_below p r ≡ true) tails (is_below_refl p))
      | inr deeper ↦ or_right (same_place p (b ∷ q)) (is_below p q) (is_below_son side p q deeper)
    ]

pub is_below_length : (p q : Place) → is_below p q ≡ true → length p ≤ length q
is_below_length p [] e = let same : p ≡ [] = same_place_eq p [] e in rw same (omega arith)
is_below_length p (b ∷ q) e =
    elim (or_cases (same_place p (b ∷ q)) (is_below p q) e) [
      | inl here ↦ let same : p ≡ b ∷ q = same_place_eq p (b ∷ q) here in rw same (omega arith)
      | inr deeper ↦ let shorter : length p ≤ length q = is_below_length p q deeper in omega arith
    ]

-- nothing stands below two places of one length that are not the same
pub one_above : (p q r : Place) → length p ≡ length q → is_below p r ≡ true → is_below q r ≡ true → p ≡ q
one_above p q [] e hp hq = same_place_eq p [] hp ∙ sym (same_place_eq q [] hq)
one_above p q (b ∷ r) e hp hq =
    elim (or_cases (same_place p (b ∷ r)) (is_below p r) hp) [
      | inl here ↦
          let first : p ≡ b ∷ r = same_place_eq p (b ∷ r) here in
          elim (or_cases (same_place q (b ∷ r)) (is_below q r) hq) [
            | inl also ↦ first ∙ sym (same_place_eq q (b ∷ r) also)
            | inr deeper ↦
                let shorter : length q ≤ length r = is_below_length q r deeper in
                let long : length p ≡ suc (length r) = ap length first in
                absurd (omega arith)
          ]
      | inr deeper ↦
          let shorter : length p ≤ length r = is_below_length p r deeper in
          elim (or_cases (same_place q (b ∷ r)) (is_below q r) hq) [
            | inl also ↦
                let long : length q ≡ suc (length r) = ap length (same_place_eq q (b ∷ r) also) in
                absurd (omega arith)
            | inr also ↦ one_above p q r e deeper also
          ]
    ]

pub not_both : (p q : Place) → is_below (Left ∷ p) q ≡ true → is_below (Right ∷ p) q ≡ true → ⊥
not_both p q left right =
    let same : Left ∷ p ≡ Right ∷ p = one_above (Left ∷ p) (Right ∷ p) q refl left right in cc

-- Registers

abbrev pub holds_below : Place → Option Place → ℕ
holds_below p None = 0
holds_below p (Some q) = cond (is_below p q) 1 0

-- how many of the registers below a number hold values of nodes below a place
abbrev pub held : Place → ℕ → Registers → ℕ
held p zero registers = 0
held p (suc count) registers = holds_below p (registers count) + held p count registers

pub holds_below_one : (p : Place) (content : Option Place) → holds_below p content ≤ 1
holds_below_one p None = omega arith
holds_below_one p (Some q) = elim (is_below p q) as (λ b. cond b 1 0 ≤ 1) [ true ↦ omega arith | false ↦ omega arith ]

pub held_most : (p : Place) (count : ℕ) (registers : Registers) → held p count registers ≤ count
held_most p zero registers = omega arith
held_most p (suc count) registers =
    let one : holds_below p (registers count) ≤ 1 = holds_below_one p (registers count) in
    let rest : held p count registers ≤ count = held_most p count registers in
    omega arith

pub sum_of_tests : (a b c : Bool) → (a ≡ true → c ≡ true) → (b ≡ true → c ≡ true) → (a ≡ true → b ≡ true → ⊥) → cond a 1 0 + cond b 1 0 ≤ cond c 1 0
sum_of_tests true true c ac bc ab = absurd (ab refl refl)
sum_of_tests true false c ac bc ab = rw (ac refl) (omega arith)
sum_of_tests false true c ac bc ab = rw (bc refl) (omega arith)
sum_of_tests false false c ac bc ab = omega arith

pub holds_below_sons : (p : Place) (content : Option Place) → holds_below (Left ∷ p) content + holds_below (Right ∷ p) content ≤ holds_below p content
holds_below_sons p None = omega arith
holds_below_sons p (Some q) =
    sum_of_tests (is_below (Left ∷ p) q) (is_below (Right ∷ p) q) (is_below p q) (is_below_son Left p q) (is_below_son Right p q) (not_both p q)

pub held_sons : (p : Place) (count : ℕ) (registers : Registers) → held (Left ∷ p) count registers + held (Right ∷ p) count registers ≤ held p count registers
held_sons p zero registers = omega arith
held_sons p (suc count) registers =
    let one = holds_below_sons p (registers count) in
    let rest = held_sons p count registers in
    omega (arith, one, rest)

-- one of the registers below a number holds the value of a node
pub record Holds (registers : Registers) (count : ℕ) (p : Place) : Type 0 where
  pub register : ℕ
  pub within : register < count
  pub content : registers register ≡ Some p

pub held_some : (p : Place) (count : ℕ) (registers : Registers) (register : ℕ) → register < count → registers register ≡ Some p → 0 < held p count registers
held_some p zero registers register within content = absurd (omega arith)
held_some p (suc count) registers register within content =
    elim (eqb_tells register count) [
      | inl here ↦
          let at : registers count ≡ Some p = ap registers (sym here.1) ∙ content in
          let one : holds_below p (registers count) ≡ 1 = rw at (rw (is_below_refl p) refl) in
          omega (arith, one)
      | inr other ↦
          let apart : register ≢ count = other.1 in
          let rest : 0 < held p count registers = held_some p count registers register (omega arith) content in
          omega (arith, rest)
    ]

-- the content of a register after another, or the same, has got other content
pub content_cases : (registers : Registers) (register : ℕ) (content : Option Place) (other : ℕ) → ((other ≡ register) × (with_content registers register content other ≡ content)) ⊎ ((other ≢ register) × (with_content registers register content other ≡ registers other))
content_cases registers register content other =
    elim (eqb_tells other register) [
      | inl same ↦ inl (same.1, ap (λ b. cond b content (registers other)) same.0)
      | inr apart ↦ inr (apart.1, ap (λ b. cond b content (registers other)) apart.0)
    ]

pub content_same : (registers : Registers) (register : ℕ) (content : Option Place) → with_content registers register content register ≡ content
content_same registers register content =
    elim (content_cases registers register content register) [ inl same ↦ same.1 | inr apart ↦ absurd (apart.0 refl) ]

pub content_other : (registers : Registers) (register : ℕ) (content : Option Place) (other : ℕ) → other ≢ register → with_content registers register content other ≡ registers other
content_other registers register content other differs =
    elim (content_cases registers register content other) [ inl same ↦ absurd (differs same.0) | inr apart ↦ apart.1 ]
