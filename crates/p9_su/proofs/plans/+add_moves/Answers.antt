use Rattle.std.proofs.Common.{rules, arith, [], ◌∷◌, get_or, Vec, Global, ◌≡◌, ◌+◌, ◌-◌, ◌≤◌, ◌++◌, length, take, length-append, ap, sym, ◌∙◌}
use Rattle.p9_su.specs.declared.plans.Label.{Label}
use Rattle.p9_su.specs.declared.moves.Move.{Move}
use Rattle.p9_su.specs.declared.moves.Move.TheVariants.{Combine}
use Rattle.p9_su.specs.Order.{labels_of, moves_of}
use Rattle.p9_su.specs.Shapes.{leaves_of, number_of}
use Rattle.p9_su.proofs.Labels.{no_label, sons_labels, some_labels, leaves_positive, right_nodes, right_label, parts, pair_moves_left_first, pair_moves_right_first}
use Rattle.p9_su.proofs.Bound.{number_positive}
use Rattle.p9_su.proofs.Plays.{joined_room}
use Rattle.p9_su.proofs.plans.+add_moves.Goals as goal
use Rattle.p9_su.proofs.plans.+add_moves.Goals.{then-right_label-left_label+in_ok-add_moves-in-Pair+in_ok-add_moves-in-Pair-2, else-right_label-left_label+in_ok-add_moves-in-Pair-3+in_ok-add_moves-in-Pair-4}

pub overflow_sub-right_label : goal.overflow_sub-right_label
overflow_sub-right_label t c =
    let sons = sons_labels c.args.labels.now c.args.shape.now c.in-Pair.left.value c.in-Pair.right.value _ _ c.requires.labelled c.in-Pair.is in
    rw sons (omega (arith, length-append (labels_of c.in-Pair.left.value) (labels_of c.in-Pair.right.value), some_labels c.in-Pair.left.value))

pub bounds-sons-sons : goal.bounds-sons-sons
bounds-sons-sons t c =
    let sons = sons_labels c.args.labels.now c.args.shape.now c.in-Pair.left.value c.in-Pair.right.value _ _ c.requires.labelled c.in-Pair.is in
    rw sons (omega (arith, length-append (labels_of c.in-Pair.left.value) (labels_of c.in-Pair.right.value), some_labels c.in-Pair.left.value))

pub nodes_of-requires : goal.nodes_of-requires
nodes_of-requires t c =
    let sons = sons_labels c.args.labels.now c.args.shape.now c.in-Pair.left.value c.in-Pair.right.value _ _ c.requires.labelled c.in-Pair.is in
    omega (arith, ap (λ (l : Label). l.leaves) (right_label (take (length c.args.labels.now - 1) c.args.labels.now) c.in-Pair.left.value c.in-Pair.right.value sons), leaves_positive c.in-Pair.right.value)

pub overflow_sub-sons : goal.overflow_sub-sons
overflow_sub-sons t c =
    let sons = sons_labels c.args.labels.now c.args.shape.now c.in-Pair.left.value c.in-Pair.right.value _ _ c.requires.labelled c.in-Pair.is in
    omega (arith, right_nodes (take (length c.args.labels.now - 1) c.args.labels.now) c.in-Pair.left.value c.in-Pair.right.value c.nodes_of.result sons c.nodes_of.ensures, some_labels c.in-Pair.left.value)

pub overflow_sub-left_label : goal.overflow_sub-left_label
overflow_sub-left_label t c =
    let sons = sons_labels c.args.labels.now c.args.shape.now c.in-Pair.left.value c.in-Pair.right.value _ _ c.requires.labelled c.in-Pair.is in
    let apart = parts (take (length c.args.labels.now - 1) c.args.labels.now) c.in-Pair.left.value c.in-Pair.right.value c.nodes_of.result c.split_at.result.0.now c.split_at.result.1.now sons c.nodes_of.ensures c.split_at.ensures.front c.split_at.ensures.back in
    omega (arith, ap length apart.front_is, some_labels c.in-Pair.left.value)

pub bounds-left_labels-left_labels : goal.bounds-left_labels-left_labels
bounds-left_labels-left_labels t c =
    let sons = sons_labels c.args.labels.now c.args.shape.now c.in-Pair.left.value c.in-Pair.right.value _ _ c.requires.labelled c.in-Pair.is in
    let apart = parts (take (length c.args.labels.now - 1) c.args.labels.now) c.in-Pair.left.value c.in-Pair.right.value c.nodes_of.result c.split_at.result.0.now c.split_at.result.1.now sons c.nodes_of.ensures c.split_at.ensures.front c.split_at.ensures.back in
    omega (arith, ap length apart.front_is, some_labels c.in-Pair.left.value)

pub overflow_add-right_leaf : goal.overflow_add-right_leaf
overflow_add-right_leaf t c =
    let sons = sons_labels c.args.labels.now c.args.shape.now c.in-Pair.left.value c.in-Pair.right.value _ _ c.requires.labelled c.in-Pair.is in
    let apart = parts (take (length c.args.labels.now - 1) c.args.labels.now) c.in-Pair.left.value c.in-Pair.right.value c.nodes_of.result c.split_at.result.0.now c.split_at.result.1.now sons c.nodes_of.ensures c.split_at.ensures.front c.split_at.ensures.back in
    omega (arith, ap (λ (l : Label). l.leaves) apart.left_is, ap leaves_of c.in-Pair.is, c.requires.leaves)

pub add_moves-requires : goal.add_moves-requires
add_moves-requires t c =
    let left = c.in-Pair.left.value in
    let right = c.in-Pair.right.value in
    let sons = sons_labels c.args.labels.now c.args.shape.now c.in-Pair.left.value c.in-Pair.right.value _ _ c.requires.labelled c.in-Pair.is in
    let apart = parts (take (length c.args.labels.now - 1) c.args.labels.now) c.in-Pair.left.value c.in-Pair.right.value c.nodes_of.result c.split_at.result.0.now c.split_at.result.1.now sons c.nodes_of.ensures c.split_at.ensures.front c.split_at.ensures.back in
    let rooms = joined_room (number_of left) (number_of right) (number_positive left) (number_positive right) in
    let whole = ap leaves_of c.in-Pair.is in
    let total = ap number_of c.in-Pair.is in
    let left_leaves = ap (λ (l : Label). l.leaves) apart.left_is in
    let left_number = ap (λ (l : Label). l.number) apart.left_is in
    let right_number = ap (λ (l : Label). l.number) apart.right_is in
    let some_left = leaves_positive left in
    let some_right = leaves_positive right in
    let here = ap leaves_of c.deref.ensures in
    let number = ap number_of c.deref.ensures in
    (omega (arith, c.decreases, here, whole, some_left, some_right), (apart.front_is ∙ ap labels_of (sym c.deref.ensures), (omega (arith, here, whole, left_leaves, c.requires.leaves), omega (arith, rooms.0, total, number, c.requires.registers))))

pub add_moves-requires-then-right_label-left_label : goal.add_moves-requires-then-right_label-left_label
add_moves-requires-then-right_label-left_label t c =
    let left = c.in-Pair.left.value in
    let right = c.in-Pair.right.value in
    let sons = sons_labels c.args.labels.now c.args.shape.now c.in-Pair.left.value c.in-Pair.right.value _ _ c.requires.labelled c.in-Pair.is in
    let apart = parts (take (length c.args.labels.now - 1) c.args.labels.now) c.in-Pair.left.value c.in-Pair.right.value c.nodes_of.result c.split_at.result.0.now c.split_at.result.1.now sons c.nodes_of.ensures c.split_at.ensures.front c.split_at.ensures.back in
    let rooms = joined_room (number_of left) (number_of right) (number_positive left) (number_positive right) in
    let whole = ap leaves_of c.in-Pair.is in
    let total = ap number_of c.in-Pair.is in
    let left_leaves = ap (λ (l : Label). l.leaves) apart.left_is in
    let left_number = ap (λ (l : Label). l.number) apart.left_is in
    let right_number = ap (λ (l : Label). l.number) apart.right_is in
    let some_left = leaves_positive left in
    let some_right = leaves_positive right in
    let here = ap leaves_of c.deref-then-right_label-left_label.ensures in
    let number = ap number_of c.deref-then-right_label-left_label.ensures in
    let test = c.if-right_label-left_label.true in
    let order : number_of right ≤ number_of left = omega (arith, test, left_number, right_number) in
    (omega (arith, c.decreases, here, whole, some_left, some_right), (apart.back_is ∙ ap labels_of (sym c.deref-then-right_label-left_label.ensures), (omega (arith, here, whole, left_leaves, c.requires.leaves), omega (arith, rooms.3 order, total, number, c.requires.registers))))

pub add_moves-requires-else-right_label-left_label : goal.add_moves-requires-else-right_label-left_label
add_moves-requires-else-right_label-left_label t c =
    let left = c.in-Pair.left.value in
    let right = c.in-Pair.right.value in
    let sons = sons_labels c.args.labels.now c.args.shape.now c.in-Pair.left.value c.in-Pair.right.value _ _ c.requires.labelled c.in-Pair.is in
    let apart = parts (take (length c.args.labels.now - 1) c.args.labels.now) c.in-Pair.left.value c.in-Pair.right.value c.nodes_of.result c.split_at.result.0.now c.split_at.result.1.now sons c.nodes_of.ensures c.split_at.ensures.front c.split_at.ensures.back in
    let rooms = joined_room (number_of left) (number_of right) (number_positive left) (number_positive right) in
    let whole = ap leaves_of c.in-Pair.is in
    let total = ap number_of c.in-Pair.is in
    let left_leaves = ap (λ (l : Label). l.leaves) apart.left_is in
    let left_number = ap (λ (l : Label). l.number) apart.left_is in
    let right_number = ap (λ (l : Label). l.number) apart.right_is in
    let some_left = leaves_positive left in
    let some_right = leaves_positive right in
    let here = ap leaves_of c.deref-else-right_label-left_label.ensures in
    let number = ap number_of c.deref-else-right_label-left_label.ensures in
    (omega (arith, c.decreases, here, whole, some_left, some_right), (apart.back_is ∙ ap labels_of (sym c.deref-else-right_label-left_label.ensures), (omega (arith, here, whole, left_leaves, c.requires.leaves), omega (arith, rooms.1, total, number, c.requires.registers))))

pub add_moves-requires-else-right_label-left_label-2 : goal.add_moves-requires-else-right_label-left_label-2
add_moves-requires-else-right_label-left_label-2 t c =
    let left = c.in-Pair.left.value in
    let right = c.in-Pair.right.value in
    let sons = sons_labels c.args.labels.now c.args.shape.now c.in-Pair.left.value c.in-Pair.right.value _ _ c.requires.labelled c.in-Pair.is in
    let apart = parts (take (length c.args.labels.now - 1) c.args.labels.now) c.in-Pair.left.value c.in-Pair.right.value c.nodes_of.result c.split_at.result.0.now c.split_at.result.1.now sons c.nodes_of.ensures c.split_at.ensures.front c.split_at.ensures.back in
    let rooms = joined_room (number_of left) (number_of right) (number_positive left) (number_positive right) in
    let whole = ap leaves_of c.in-Pair.is in
    let total = ap number_of c.in-Pair.is in
    let left_leaves = ap (λ (l : Label). l.leaves) apart.left_is in
    let left_number = ap (λ (l : Label). l.number) apart.left_is in
    let right_number = ap (λ (l : Label). l.number) apart.right_is in
    let some_left = leaves_positive left in
    let some_right = leaves_positive right in
    let here = ap leaves_of c.deref-else-right_label-left_label-2.ensures in
    let number = ap number_of c.deref-else-right_label-left_label-2.ensures in
    let test = c.if-right_label-left_label.false in
    let order : number_of left ≤ number_of right = omega (arith, test, left_number, right_number) in
    (omega (arith, c.decreases, here, whole, some_left, some_right), (apart.front_is ∙ ap labels_of (sym c.deref-else-right_label-left_label-2.ensures), (omega (arith, here, whole, left_leaves, c.requires.leaves), omega (arith, rooms.4 order, total, number, c.requires.registers))))

pub returns-in_ok-map_err-in-Pair : goal.returns-in_ok-map_err-in-Pair
returns-in_ok-map_err-in-Pair t c =
    let left = c.in-Pair.left.value in
    let right = c.in-Pair.right.value in
    let sons = sons_labels c.args.labels.now c.args.shape.now c.in-Pair.left.value c.in-Pair.right.value _ _ c.requires.labelled c.in-Pair.is in
    let apart = parts (take (length c.args.labels.now - 1) c.args.labels.now) c.in-Pair.left.value c.in-Pair.right.value c.nodes_of.result c.split_at.result.0.now c.split_at.result.1.now sons c.nodes_of.ensures c.split_at.ensures.front c.split_at.ensures.back in
    let left_leaves = ap (λ (l : Label). l.leaves) apart.left_is in
    let left_number = ap (λ (l : Label). l.number) apart.left_is in
    let right_number = ap (λ (l : Label). l.number) apart.right_is in
    let pushed : c.push-in-Pair.new.self.items ≡ c.if-right_label-left_label.moves.items ++ Combine c.args.register (c.args.register + 1) ∷ [] = search rules in
    elim c.if-right_label-left_label.branch [
      | then-right_label-left_label+in_ok-add_moves-in-Pair+in_ok-add_moves-in-Pair-2 w ↦
          let test = w.if-right_label-left_label.true in
          let one = w.in_ok-add_moves-in-Pair.ensures in
          let two = w.in_ok-add_moves-in-Pair-2.ensures in
          pair_moves_left_first c.args.shape.now left right _ _ c.args.leaf _ c.args.register c.args.moves.now.items w.add_moves.new.moves.items w.add_moves-then-right_label-left_label.new.moves.items c.push-in-Pair.new.self.items c.in-Pair.is
          (omega (arith, test, left_number, right_number)) (ap (λ n. c.args.leaf + n) left_leaves)
          (one ∙ ap (λ s. c.args.moves.now.items ++ moves_of s c.args.leaf c.args.register) w.deref.ensures)
          (two ∙ ap (λ s. w.add_moves.new.moves.items ++ moves_of s (c.args.leaf + (get_or c.split_at.result.0.now (length c.split_at.result.0.now - 1) no_label).leaves) (c.args.register + 1)) w.deref-then-right_label-left_label.ensures)
          (pushed ∙ ap (λ (v : Vec Move Global). v.items ++ Combine c.args.register (c.args.register + 1) ∷ []) w.moves-is)
      | else-right_label-left_label+in_ok-add_moves-in-Pair-3+in_ok-add_moves-in-Pair-4 w ↦
          let test = w.if-right_label-left_label.false in
          let one = w.in_ok-add_moves-in-Pair-3.ensures in
          let two = w.in_ok-add_moves-in-Pair-4.ensures in
          pair_moves_right_first c.args.shape.now left right _ _ c.args.leaf _ c.args.register c.args.moves.now.items w.add_moves-else-right_label-left_label.new.moves.items w.add_moves-else-right_label-left_label-2.new.moves.items c.push-in-Pair.new.self.items c.in-Pair.is
          (omega (arith, test, left_number, right_number)) (ap (λ n. c.args.leaf + n) left_leaves)
          (one ∙ ap (λ s. c.args.moves.now.items ++ moves_of s (c.args.leaf + (get_or c.split_at.result.0.now (length c.split_at.result.0.now - 1) no_label).leaves) c.args.register) w.deref-else-right_label-left_label.ensures)
          (two ∙ ap (λ s. w.add_moves-else-right_label-left_label.new.moves.items ++ moves_of s c.args.leaf (c.args.register + 1)) w.deref-else-right_label-left_label-2.ensures)
          (pushed ∙ ap (λ (v : Vec Move Global). v.items ++ Combine c.args.register (c.args.register + 1) ∷ []) w.moves-is)
    ]
