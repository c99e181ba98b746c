-- The order of Sethi and Ullman is a play with as many registers as the shape's number.
use Rattle.std.proofs.Common.{◌≡◌, ℕ, ◌+◌, ◌<◌, ◌≤◌, ◌⊎◌, ◌≢◌, List, [], ◌∷◌, ◌++◌, length, Some, None, All, refl, sym, ◌∙◌, ap, subst, inl, inr, arith, append_assoc, length-append, append-nil}
use Rattle.std.specs.Prelude.{slice_get}
use Rattle.std.proofs.lemmas.Bool.Decides.{eqb_tells, leb_tells}
use Rattle.std.proofs.lemmas.List.Elements.{All-nil, All-cons, All-append}
use Rattle.p9_su.specs.declared.shapes.Shape.{Shape, Leaf, Pair'}
use Rattle.p9_su.specs.declared.moves.Move.{Move}
use Rattle.p9_su.specs.declared.moves.Move.TheVariants.{Load, Combine}
use Rattle.p9_su.specs.Shapes.{leaves_of, number_of, joined_number}
use Rattle.p9_su.specs.Game.{Left, Right, Place, leaf_places, Registers, all_free, with_content, AreSons, Leads, UsesBelow, loads_of, IsPlay, CanBePlayed}
use Rattle.p9_su.specs.Order.{moves_of}
use Rattle.p9_su.proofs.Places.{content_cases, content_same, content_other}
use Rattle.p9_su.proofs.Bound.{number_positive}

pub Leads-append : (whole : Shape) (before middle after : Registers) (xs ys : List Move) → Leads whole before xs middle → Leads whole middle ys after → Leads whole before (xs ++ ys) after
Leads-append whole before middle after [] ys first second = subst (λ s. Leads whole s ys after) (sym first) second
Leads-append whole before middle after (Load leaf register ∷ xs) ys first second =
    (first.0, first.1, first.2, Leads-append whole (with_content before register (Some first.0)) middle after xs ys first.3 second)
Leads-append whole before middle after (Combine into with ∷ xs) ys first second =
    (first.0, first.1, Leads-append whole (with_content (with_content before with None) into (Some first.0)) middle after xs ys first.2 second)

-- the moves lead from the one state to one in which the value is in the register and all else is as before
pub record Makes (whole : Shape) (before : Registers) (moves : List Move) (register : ℕ) (place : Place) : Type 0 where
  pub after : Registers
  pub leads : Leads whole before moves after
  pub made : after register ≡ Some place
  pub others : (other : ℕ) → other ≢ register → after other ≡ before other

pub FreeFrom : Registers → ℕ → Type 0
FreeFrom registers register = (other : ℕ) → register ≤ other → registers other ≡ None

-- two sons one after the other, in either order, and their node
both_sons : (whole : Shape) (before : Registers) (one other place : Place) (first second : List Move) (register : ℕ) → AreSons place (Some one) (Some other) → ((later : ℕ) → register ≤ later → before later ≡ None) → (made : Makes whole before first register one) → Makes whole made.after second (register + 1) other → Makes whole before ((first ++ second) ++ Combine register (register + 1) ∷ []) register place
both_sons whole before one other place first second register sons free made also =
    let apart : register ≢ register + 1 = omega arith in
    let still : also.after register ≡ Some one = also.others register apart ∙ made.made in
    let here : AreSons place (also.after register) (also.after (register + 1)) =
    subst (λ x. AreSons place x (also.after (register + 1))) (sym still) (subst (λ x. AreSons place (Some one) x) (sym also.made) sons) in
    let freed : Registers = with_content also.after (register + 1) None in
    record {
      after = with_content freed register (Some place);
      leads = Leads-append whole before also.after (with_content freed register (Some place)) (first ++ second) (Combine register (register + 1) ∷ [])
          (Leads-append whole before made.after also.after first second made.leads also.leads)
          (place, here, refl);
      made = content_same freed register (Some place);
      others = λ later differs.
          content_other freed register (Some place) later differs
          ∙ elim (content_cases also.after (register + 1) None later) as (λ _. freed later ≡ before later) [
            | inl same ↦ same.1 ∙ sym (free later (omega (arith, same.0)))
            | inr not ↦ not.1 ∙ (also.others later not.0 ∙ made.others later differs)
          ];
    }

pub length-leaf_places : (tree : Shape) (place : Place) → length (leaf_places tree place) ≡ leaves_of tree
length-leaf_places Leaf place = refl
length-leaf_places (Pair' p left q right) place =
    length-append (leaf_places left (Left ∷ place)) (leaf_places right (Right ∷ place))
    ∙ (ap (λ n. n + length (leaf_places right (Right ∷ place))) (length-leaf_places left (Left ∷ place))
    ∙ ap (λ n. leaves_of left + n) (length-leaf_places right (Right ∷ place)))

slice_get_seam : {X : Type 0} (xs : List X) (y : X) (ys : List X) → slice_get (xs ++ y ∷ ys) (length xs) ≡ Some y
slice_get_seam [] y ys = refl
slice_get_seam (x ∷ xs) y ys = slice_get_seam xs y ys

-- a shape stands at a place, and its leaves stand from a number on
pub record Stands (whole tree : Shape) (place : Place) (leaf : ℕ) : Type 0 where
  pub earlier : List Place
  pub later : List Place
  pub leaves : leaf_places whole [] ≡ (earlier ++ leaf_places tree place) ++ later
  pub first : leaf ≡ length earlier

stands_left : (whole left right : Shape) (p q : _) (place : Place) (leaf : ℕ) → Stands whole (Pair' p left q right) place leaf → Stands whole left (Left ∷ place) leaf
stands_left whole left right p q place leaf stands = record {
  earlier = stands.earlier;
  later = leaf_places right (Right ∷ place) ++ stands.later;
  leaves = stands.leaves ∙ simp append_assoc;
  first = stands.first;
}

stands_right : (whole left right : Shape) (p q : _) (place : Place) (leaf : ℕ) → Stands whole (Pair' p left q right) place leaf → Stands whole right (Right ∷ place) (leaf + leaves_of left)
stands_right whole left right p q place leaf stands = record {
  earlier = stands.earlier ++ leaf_places left (Left ∷ place);
  later = stands.later;
  leaves = stands.leaves ∙ simp append_assoc;
  first = let first : leaf ≡ length stands.earlier = stands.first in
      omega (arith, first, length-append stands.earlier (leaf_places left (Left ∷ place)), length-leaf_places left (Left ∷ place));
}

pub moves_make : (whole tree : Shape) (place : Place) (leaf register : ℕ) (before : Registers) → Stands whole tree place leaf → ((later : ℕ) → register ≤ later → before later ≡ None) → Makes whole before (moves_of tree leaf register) register place
moves_make whole Leaf place leaf register before stands free = record {
  after = with_content before register (Some place);
  leads = (
    place,
    ap (λ xs. slice_get xs leaf) (stands.leaves ∙ append_assoc stands.earlier (place ∷ []) stands.later) ∙ (ap (λ n. slice_get (stands.earlier ++ place ∷ stands.later) n) stands.first ∙ slice_get_seam stands.earlier place stands.later),
    free register (omega arith),
    refl,
  );
  made = content_same before register (Some place);
  others = λ other differs. content_other before register (Some place) other differs;
}
moves_make whole (Pair' p left q right) place leaf register before stands free =
    let on_left : Stands whole left (Left ∷ place) leaf = stands_left whole left right p q place leaf stands in
    let on_right : Stands whole right (Right ∷ place) (leaf + leaves_of left) = stands_right whole left right p q place leaf stands in
    elim (leb_tells (number_of right) (number_of left)) [
      | inl left_first ↦
          let one : Makes whole before (moves_of left leaf register) register (Left ∷ place) = moves_make whole left (Left ∷ place) leaf register before on_left free in
          let two : Makes whole one.after (moves_of right (leaf + leaves_of left) (register + 1)) (register + 1) (Right ∷ place) =
          moves_make whole right (Right ∷ place) (leaf + leaves_of left) (register + 1) one.after on_right
          (λ later above. one.others later (omega arith) ∙ free later (omega arith)) in
          rw left_first.0 (both_sons whole before (Left ∷ place) (Right ∷ place) place (moves_of left leaf register) (moves_of right (leaf + leaves_of left) (register + 1)) register (inl (refl, refl)) free one two)
      | inr right_first ↦
          let one : Makes whole before (moves_of right (leaf + leaves_of left) register) register (Right ∷ place) = moves_make whole right (Right ∷ place) (leaf + leaves_of left) register before on_right free in
          let two : Makes whole one.after (moves_of left leaf (register + 1)) (register + 1) (Left ∷ place) =
          moves_make whole left (Left ∷ place) leaf (register + 1) one.after on_left
          (λ later above. one.others later (omega arith) ∙ free later (omega arith)) in
          rw right_first.0 (both_sons whole before (Right ∷ place) (Left ∷ place) place (moves_of right (leaf + leaves_of left) register) (moves_of left leaf (register + 1)) register (inr (refl, refl)) free one two)
    ]

-- The registers of the moves

registers_of_pair : (count register : ℕ) (first second : List Move) → All (UsesBelow count) first → All (UsesBelow count) second → register + 1 < count → All (UsesBelow count) ((first ++ second) ++ Combine register (register + 1) ∷ [])
registers_of_pair count register first second one two below =
    All-append (UsesBelow count) (first ++ second) (Combine register (register + 1) ∷ [])
    (All-append (UsesBelow count) first second one two)
    (All-cons (UsesBelow count) (Combine register (register + 1)) [] (omega arith, below) (All-nil (UsesBelow count)))

-- what a node's number says of those of its sons
pub joined_room : (a b : ℕ) → 0 < a → 0 < b → (a ≤ joined_number a b) × (b ≤ joined_number a b) × (2 ≤ joined_number a b) × (b ≤ a → b + 1 ≤ joined_number a b) × (a ≤ b → a + 1 ≤ joined_number a b)
joined_room a b pa pb =
    elim (eqb_tells a b) [
      | inl same ↦ let equal : a ≡ b = same.1 in rw same.0 (omega arith, omega arith, omega arith, λ h. omega arith, λ h. omega arith)
      | inr differs ↦ let apart : a ≢ b = differs.1 in rw differs.0 (omega arith, omega arith, omega arith, λ h. omega arith, λ h. omega arith)
    ]

pub moves_registers : (tree : Shape) (leaf register count : ℕ) → register + number_of tree ≤ count → All (UsesBelow count) (moves_of tree leaf register)
moves_registers Leaf leaf register count room =
    All-cons (UsesBelow count) (Load leaf register) [] (omega arith) (All-nil (UsesBelow count))
moves_registers (Pair' p left q right) leaf register count room =
    let rooms = joined_room (number_of left) (number_of right) (number_positive left) (number_positive right) in
    let two : register + 1 < count = omega (arith, rooms.2, room) in
    elim (leb_tells (number_of right) (number_of left)) [
      | inl left_first ↦ rw left_first.0 (registers_of_pair count register (moves_of left leaf register) (moves_of right (leaf + leaves_of left) (register + 1))
          (moves_registers left leaf register count (omega (arith, rooms.0, room)))
          (moves_registers right (leaf + leaves_of left) (register + 1) count (omega (arith, rooms.3 left_first.1, room))) two)
      | inr right_first ↦ rw right_first.0 (registers_of_pair count register (moves_of right (leaf + leaves_of left) register) (moves_of left leaf (register + 1))
          (moves_registers right (leaf + leaves_of left) register count (omega (arith, rooms.1, room)))
          (moves_registers left leaf (register + 1) count (let less : number_of left ≤ number_of right = omega (arith, right_first.1) in omega (arith, rooms.4 less, room))) two)
    ]

-- The loads of the moves

pub loads_of-append : (leaf : ℕ) (xs ys : List Move) → loads_of leaf (xs ++ ys) ≡ loads_of leaf xs + loads_of leaf ys
loads_of-append leaf [] ys = omega arith
loads_of-append leaf (Load loaded register ∷ xs) ys = let rest : loads_of leaf (xs ++ ys) ≡ loads_of leaf xs + loads_of leaf ys = loads_of-append leaf xs ys in omega arith
loads_of-append leaf (Combine into with ∷ xs) ys = loads_of-append leaf xs ys

loads_of_pair : (leaf register : ℕ) (first second : List Move) → loads_of leaf ((first ++ second) ++ Combine register (register + 1) ∷ []) ≡ loads_of leaf first + loads_of leaf second
loads_of_pair leaf register first second =
    omega (arith, loads_of-append leaf (first ++ second) (Combine register (register + 1) ∷ []), loads_of-append leaf first second)

-- the moves load a leaf as often as the sons' moves do
loads_of_sons : (p q : _) (left right : Shape) (k leaf register : ℕ) → (n m : ℕ) → ((register : ℕ) → loads_of k (moves_of left leaf register) ≡ n) → ((register : ℕ) → loads_of k (moves_of right (leaf + leaves_of left) register) ≡ m) → loads_of k (moves_of (Pair' p left q right) leaf register) ≡ n + m
loads_of_sons p q left right k leaf register n m on_left on_right =
    elim (leb_tells (number_of right) (number_of left)) [
      | inl left_first ↦ rw left_first.0 (omega (arith, loads_of_pair k register (moves_of left leaf register) (moves_of right (leaf + leaves_of left) (register + 1)), on_left register, on_right (register + 1)))
      | inr right_first ↦ rw right_first.0 (omega (arith, loads_of_pair k register (moves_of right (leaf + leaves_of left) register) (moves_of left leaf (register + 1)), on_left (register + 1), on_right register))
    ]

pub loads_outside : (tree : Shape) (k leaf register : ℕ) → (k < leaf) ⊎ (leaf + leaves_of tree ≤ k) → loads_of k (moves_of tree leaf register) ≡ 0
loads_outside Leaf k leaf register outside =
    elim (eqb_tells leaf k) [
      | inl same ↦ let equal : leaf ≡ k = same.1 in elim outside [ inl h ↦ absurd (omega arith) | inr h ↦ absurd (omega arith) ]
      | inr differs ↦ rw differs.0 refl
    ]
loads_outside (Pair' p left q right) k leaf register outside =
    let on_left : (k < leaf) ⊎ (leaf + leaves_of left ≤ k) = elim outside [ inl h ↦ inl h | inr h ↦ inr (omega arith) ] in
    let on_right : (k < leaf + leaves_of left) ⊎ ((leaf + leaves_of left) + leaves_of right ≤ k) = elim outside [ inl h ↦ inl (omega arith) | inr h ↦ inr (omega arith) ] in
    loads_of_sons p q left right k leaf register 0 0
    (λ r. loads_outside left k leaf r on_left)
    (λ r. loads_outside right k (leaf + leaves_of left) r on_right)

below_or_not : (a b : ℕ) → (a < b) ⊎ (b ≤ a)
below_or_not a b = elim (leb_tells b a) [ inl above ↦ inr above.1 | inr below ↦ inl below.1 ]

pub loads_inside : (tree : Shape) (k leaf register : ℕ) → leaf ≤ k → k < leaf + leaves_of tree → loads_of k (moves_of tree leaf register) ≡ 1
loads_inside Leaf k leaf register from until =
    elim (eqb_tells leaf k) [
      | inl same ↦ rw same.0 refl
      | inr differs ↦ let apart : leaf ≢ k = differs.1 in absurd (omega arith)
    ]
loads_inside (Pair' p left q right) k leaf register from until =
    elim (below_or_not k (leaf + leaves_of left)) [
      | inl on_left ↦ loads_of_sons p q left right k leaf register 1 0
          (λ r. loads_inside left k leaf r from on_left)
          (λ r. loads_outside right k (leaf + leaves_of left) r (inl on_left))
      | inr on_right ↦ loads_of_sons p q left right k leaf register 0 1
          (λ r. loads_outside left k leaf r (inr on_right))
          (λ r. loads_inside right k (leaf + leaves_of left) r on_right (omega arith))
    ]

-- The play

pub order_is_play : (shape : Shape) → IsPlay shape (moves_of shape 0 0) (number_of shape)
order_is_play shape =
    let stands : Stands shape shape [] 0 = record { earlier = []; later = []; leaves = simp append-nil; first = refl } in
    let makes : Makes shape all_free (moves_of shape 0 0) 0 [] = moves_make shape shape [] 0 0 all_free stands (λ later above. refl) in
    record {
      registers = moves_registers shape 0 0 (number_of shape) (omega arith);
      each_leaf_once = λ leaf below. loads_inside shape leaf 0 0 (omega arith) (omega arith);
      root = (makes.after, 0, makes.leads, number_positive shape, makes.made);
    }

pub number_enough : (shape : Shape) → CanBePlayed shape (number_of shape)
number_enough shape = (moves_of shape 0 0, order_is_play shape)

pub moves_are_play : (shape : Shape) (moves : List Move) → moves ≡ moves_of shape 0 0 → IsPlay shape moves (number_of shape)
moves_are_play shape moves are = subst (λ xs. IsPlay shape xs (number_of shape)) (sym are) (order_is_play shape)
