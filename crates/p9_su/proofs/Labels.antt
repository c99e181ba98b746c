-- The labels of a shape: how many there are, and which is the last.
use Rattle.std.proofs.Common.{◌≡◌, ℕ, suc, ◌+◌, ◌-◌, ◌*◌, ◌<◌, ◌≤◌, false, List, [], ◌∷◌, ◌++◌, length, take, drop, get_or, refl, ◌∙◌, ap, arith, append_assoc, length-append}
use Rattle.std.specs.Prelude.{nat_le}
use Rattle.std.proofs.lemmas.Bool.{le-leb}
use Rattle.std.proofs.lemmas.Bool.Decides.{nat_tests}
use Rattle.p9_su.specs.declared.shapes.Shape.{Shape, Leaf, Pair'}
use Rattle.p9_su.specs.declared.plans.Label.{Label}
use Rattle.p9_su.specs.declared.moves.Move.{Move}
use Rattle.p9_su.specs.declared.moves.Move.TheVariants.{Combine}
use Rattle.p9_su.specs.Shapes.{leaves_of, number_of}
use Rattle.p9_su.specs.Order.{label_of, labels_of, moves_of}

pub leaves_positive : (shape : Shape) → 0 < leaves_of shape
leaves_positive Leaf = omega arith
leaves_positive (Pair' p left q right) = let some : 0 < leaves_of left = leaves_positive left in omega arith

pub labels_count : (shape : Shape) → length (labels_of shape) + 1 ≡ 2 * leaves_of shape
labels_count Leaf = refl
labels_count (Pair' p left q right) =
    let on_left : length (labels_of left) + 1 ≡ 2 * leaves_of left = labels_count left in
    let on_right : length (labels_of right) + 1 ≡ 2 * leaves_of right = labels_count right in
    omega (arith, length-append (labels_of left ++ labels_of right) (label_of (Pair' p left q right) ∷ []), length-append (labels_of left) (labels_of right))

get_or_last : {X : Type 0} (xs : List X) (x d : X) (n : ℕ) → n ≡ length xs → get_or (xs ++ x ∷ []) n d ≡ x
get_or_last [] x d n e = rw e refl
get_or_last (y ∷ xs) x d n e = rw e (get_or_last xs x d (length xs) refl)

pub last_label : (shape : Shape) (d : Label) (n : ℕ) → n + 1 ≡ length (labels_of shape) → get_or (labels_of shape) n d ≡ label_of shape
last_label Leaf d n e = let none : n ≡ 0 = omega arith in rw none refl
last_label (Pair' p left q right) d n e =
    get_or_last (labels_of left ++ labels_of right) (label_of (Pair' p left q right)) d n
    (omega (arith, length-append (labels_of left ++ labels_of right) (label_of (Pair' p left q right) ∷ [])))

-- the label of a shape with no leaves, which stands for one past a list's end
abbrev pub no_label : Label
no_label = record { number = 0; leaves = 0 }

take_all_but : {X : Type 0} (xs ys : List X) (n : ℕ) → n ≡ length xs → take n (xs ++ ys) ≡ xs
take_all_but [] ys n e = rw e refl
take_all_but (x ∷ xs) ys n e = rw e (ap (λ zs. x ∷ zs) (take_all_but xs ys (length xs) refl))

drop_all_of : {X : Type 0} (xs ys : List X) (n : ℕ) → n ≡ length xs → drop n (xs ++ ys) ≡ ys
drop_all_of [] ys n e = rw e refl
drop_all_of (x ∷ xs) ys n e = rw e (drop_all_of xs ys (length xs) refl)

get_or-append_last : {X : Type 0} (xs ys : List X) (d : X) (n : ℕ) → 0 < length ys → n ≡ length xs + length ys - 1 → get_or (xs ++ ys) n d ≡ get_or ys (length ys - 1) d
get_or-append_last [] ys d n some e = let same : n ≡ length ys - 1 = omega arith in rw same refl
get_or-append_last (x ∷ xs) ys d n some e =
    let same : n ≡ suc (length xs + length ys - 1) = omega arith in
    rw same (get_or-append_last xs ys d (length xs + length ys - 1) some refl)

-- what the labels of a pair are without its own
pub sons_labels : (labels : List Label) (shape left right : Shape) (p q : _) → labels ≡ labels_of shape → shape ≡ Pair' p left q right → take (length labels - 1) labels ≡ labels_of left ++ labels_of right
sons_labels labels shape left right p q labelled is =
    let whole : labels ≡ (labels_of left ++ labels_of right) ++ label_of (Pair' p left q right) ∷ [] = labelled ∙ ap labels_of is in
    rw whole (take_all_but (labels_of left ++ labels_of right) (label_of (Pair' p left q right) ∷ []) (length ((labels_of left ++ labels_of right) ++ label_of (Pair' p left q right) ∷ []) - 1)
    (omega (arith, length-append (labels_of left ++ labels_of right) (label_of (Pair' p left q right) ∷ []))))

pub some_labels : (shape : Shape) → 0 < length (labels_of shape)
some_labels shape = omega (arith, labels_count shape, leaves_positive shape)

pub last_label_of : (labels : List Label) (shape : Shape) → labels ≡ labels_of shape → get_or labels (length labels - 1) no_label ≡ label_of shape
last_label_of labels shape e =
    rw e (last_label shape no_label (length (labels_of shape) - 1) (omega (arith, some_labels shape)))

-- the last label of a pair's sons is that of the right one
pub right_label : (sons : List Label) (left right : Shape) → sons ≡ labels_of left ++ labels_of right → get_or sons (length sons - 1) no_label ≡ label_of right
right_label sons left right e =
    rw e (get_or-append_last (labels_of left) (labels_of right) no_label (length (labels_of left ++ labels_of right) - 1) (some_labels right)
    (omega (arith, length-append (labels_of left) (labels_of right)))
    ∙ last_label_of (labels_of right) right refl)

-- the labels of a pair's sons, apart
pub record AreParts (sons : List Label) (left right : Shape) (front back : List Label) : Type 0 where
  pub front_is : front ≡ labels_of left
  pub back_is : back ≡ labels_of right
  pub left_is : get_or front (length front - 1) no_label ≡ label_of left
  pub right_is : get_or sons (length sons - 1) no_label ≡ label_of right

pub right_nodes : (sons : List Label) (left right : Shape) (n : ℕ) → sons ≡ labels_of left ++ labels_of right → n + 1 ≡ 2 * (get_or sons (length sons - 1) no_label).leaves → length sons - n ≡ length (labels_of left)
right_nodes sons left right n e nodes =
    let label : (get_or sons (length sons - 1) no_label).leaves ≡ leaves_of right = ap (λ l. l.leaves) (right_label sons left right e) in
    let count : length sons ≡ length (labels_of left) + length (labels_of right) = ap length e ∙ length-append (labels_of left) (labels_of right) in
    omega (arith, label, count, nodes, labels_count right)

pub parts : (sons : List Label) (left right : Shape) (n : ℕ) (front back : List Label) → sons ≡ labels_of left ++ labels_of right → n + 1 ≡ 2 * (get_or sons (length sons - 1) no_label).leaves → front ≡ take (length sons - n) sons → back ≡ drop (length sons - n) sons → AreParts sons left right front back
parts sons left right n front back e nodes is_front is_back =
    let at : length sons - n ≡ length (labels_of left) = right_nodes sons left right n e nodes in
    let front_is : front ≡ labels_of left = is_front ∙ (ap (λ xs. take (length sons - n) xs) e ∙ take_all_but (labels_of left) (labels_of right) (length sons - n) at) in
    record {
      front_is = front_is;
      back_is = is_back ∙ (ap (λ xs. drop (length sons - n) xs) e ∙ drop_all_of (labels_of left) (labels_of right) (length sons - n) at);
      left_is = last_label_of front left front_is;
      right_is = right_label sons left right e;
    }

-- the moves of a pair, made of its sons' moves
pub pair_moves_left_first : (shape left right : Shape) (p q : _) (leaf right_leaf register : ℕ) (before middle between after : List Move) → shape ≡ Pair' p left q right → number_of right ≤ number_of left → right_leaf ≡ leaf + leaves_of left → middle ≡ before ++ moves_of left leaf register → between ≡ middle ++ moves_of right right_leaf (register + 1) → after ≡ between ++ Combine register (register + 1) ∷ [] → after ≡ before ++ moves_of shape leaf register
pair_moves_left_first shape left right p q leaf right_leaf register before middle between after is order right_at one two three =
    rw (is, three, two, one, right_at, le-leb (number_of right) (number_of left) order) (simp append_assoc)

pub pair_moves_right_first : (shape left right : Shape) (p q : _) (leaf right_leaf register : ℕ) (before middle between after : List Move) → shape ≡ Pair' p left q right → number_of left < number_of right → right_leaf ≡ leaf + leaves_of left → middle ≡ before ++ moves_of right right_leaf register → between ≡ middle ++ moves_of left leaf (register + 1) → after ≡ between ++ Combine register (register + 1) ∷ [] → after ≡ before ++ moves_of shape leaf register
pair_moves_right_first shape left right p q leaf right_leaf register before middle between after is order right_at one two three =
    let not : nat_le (number_of right) (number_of left) ≡ false = grind (arith, nat_tests) in
    rw (is, three, two, one, right_at, not) (simp append_assoc)
