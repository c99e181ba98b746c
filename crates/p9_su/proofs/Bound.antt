-- No play does with fewer registers than Sethi and Ullman's number.
use Rattle.std.proofs.Common.{◌≡◌, ℕ, zero, suc, ◌+◌, ◌-◌, ◌<◌, ◌≤◌, ◌⊎◌, ◌≢◌, List, [], ◌∷◌, Some, None, All, refl, sym, ◌∙◌, ap, subst, inl, inr, arith}
use Rattle.std.specs.Prelude.{slice_get}
use Rattle.std.proofs.lemmas.Bool.Decides.{eqb_tells}
use Rattle.std.proofs.lemmas.List.Elements.{All-head, All-tail}
use Rattle.p9_su.specs.declared.shapes.Shape.{Shape, Leaf, Pair'}
use Rattle.p9_su.specs.declared.moves.Move.{Move}
use Rattle.p9_su.specs.declared.moves.Move.TheVariants.{Load, Combine}
use Rattle.p9_su.specs.Shapes.{number_of, joined_number}
use Rattle.p9_su.specs.Game.{Left, Right, Place, leaf_places, Registers, all_free, with_content, AreSons, Leads, UsesBelow, IsPlay, CanBePlayed}
use Rattle.p9_su.proofs.Places.{subtree_at, subtree_at_son, leaf_stands, held, held_most, held_sons, held_some, Holds, content_cases}

-- Steps

-- a pair's value comes into a register only where its sons' values were in registers
pub record IsStep (whole : Shape) (count : ℕ) (before after : Registers) : Type 0 where
  pub sons : (place : Place) (tree : Shape) → subtree_at whole place ≡ Some tree → tree ≢ Leaf → Holds after count place → Holds before count place ⊎ (Holds before count (Left ∷ place) × Holds before count (Right ∷ place))

some_same : {X : Type 0} (x y : X) → Some x ≡ Some y → x ≡ y
some_same x y e = cc

pub load_step : (whole : Shape) (count : ℕ) (before : Registers) (leaf register : ℕ) (at : Place) → slice_get (leaf_places whole []) leaf ≡ Some at → IsStep whole count before (with_content before register (Some at))
load_step whole count before leaf register at found = record {
  sons = λ place tree stands inner holds.
      elim (content_cases before register (Some at) holds.register) [
        | inl here ↦
            let same : at ≡ place = some_same at place (sym here.1 ∙ holds.content) in
            let is_leaf : subtree_at whole place ≡ Some Leaf = subst (λ q. subtree_at whole q ≡ Some Leaf) same (leaf_stands whole leaf at found) in
            absurd (inner (some_same tree Leaf (sym stands ∙ is_leaf)))
        | inr apart ↦ inl (record { register = holds.register; within = holds.within; content = sym apart.1 ∙ holds.content })
      ];
}

pub combine_step : (whole : Shape) (count : ℕ) (before : Registers) (into with : ℕ) (at : Place) → into < count → with < count → AreSons at (before into) (before with) → IsStep whole count before (with_content (with_content before with None) into (Some at))
combine_step whole count before into with at below_into below_with are = record {
  sons = λ place tree stands inner holds.
      elim (content_cases (with_content before with None) into (Some at) holds.register) [
        | inl here ↦
            let same : at ≡ place = some_same at place (sym here.1 ∙ holds.content) in
            inr (subst (λ q. Holds before count (Left ∷ q) × Holds before count (Right ∷ q)) same
            (elim are [
              | inl so ↦ (record { register = into; within = below_into; content = so.0 }, record { register = with; within = below_with; content = so.1 })
              | inr so ↦ (record { register = with; within = below_with; content = so.1 }, record { register = into; within = below_into; content = so.0 })
            ]))
        | inr apart ↦
            let after : with_content before with None holds.register ≡ Some place = sym apart.1 ∙ holds.content in
            elim (content_cases before with None holds.register) [
              | inl here ↦ let none : None ≡ Some place = sym here.1 ∙ after in absurd (cc)
              | inr other ↦ inl (record { register = holds.register; within = holds.within; content = sym other.1 ∙ after })
            ]
      ];
}

-- A past: the states after the first one, the newest first

abbrev pub newest : Registers → List Registers → Registers
newest start [] = start
newest start (state ∷ states) = state

abbrev pub IsPast : Shape → ℕ → Registers → List Registers → Type 0
IsPast whole count start [] = Unit {0}
IsPast whole count start (state ∷ states) = IsStep whole count (newest start states) state × IsPast whole count start states

abbrev pub Each : (Registers → Type 0) → List Registers → Type 0
Each P [] = Unit {0}
Each P (state ∷ states) = P state × Each P states

each_weaker : (P Q : Registers → Type 0) → ((state : Registers) → P state → Q state) → (states : List Registers) → Each P states → Each Q states
each_weaker P Q weaker [] each = tt
each_weaker P Q weaker (state ∷ states) each = (weaker state each.0, each_weaker P Q weaker states each.1)

each_both : (P Q : Registers → Type 0) (states : List Registers) → Each P states → Each Q states → Each (λ s. P s × Q s) states
each_both P Q [] ps qs = tt
each_both P Q (state ∷ states) ps qs = ((ps.0, qs.0), each_both P Q states ps.1 qs.1)

each_newest : (P : Registers → Type 0) (start : Registers) (states : List Registers) → P start → Each P states → P (newest start states)
each_newest P start [] first each = first
each_newest P start (state ∷ states) first each = each.0

-- a play's moves make a past
pub record HasPast (whole : Shape) (count : ℕ) (start end : Registers) : Type 0 where
  pub states : List Registers
  pub past : IsPast whole count start states
  pub reached : newest start states ≡ end

pub past_of : (whole : Shape) (count : ℕ) (start : Registers) (states : List Registers) → IsPast whole count start states → (moves : List Move) (end : Registers) → All (UsesBelow count) moves → Leads whole (newest start states) moves end → HasPast whole count start end
past_of whole count start states past [] end below leads = record { states = states; past = past; reached = leads }
past_of whole count start states past (Load leaf register ∷ rest) end below leads =
    let now : Registers = newest start states in
    past_of whole count start (with_content now register (Some leads.0) ∷ states)
    (load_step whole count now leaf register leads.0 leads.1, past)
    rest end (All-tail (UsesBelow count) (Load leaf register) rest below) leads.3
past_of whole count start states past (Combine into with ∷ rest) end below leads =
    let now : Registers = newest start states in
    let here : UsesBelow count (Combine into with) = All-head (UsesBelow count) (Combine into with) rest below in
    past_of whole count start (with_content (with_content now with None) into (Some leads.0) ∷ states)
    (combine_step whole count now into with leads.0 here.0 here.1 leads.1, past)
    rest end (All-tail (UsesBelow count) (Combine into with) rest below) leads.2

-- the past up to the time at which a pair's sons were both in registers
pub record SonsHeld (whole : Shape) (count : ℕ) (start : Registers) (place : Place) (P : Registers → Type 0) : Type 0 where
  pub states : List Registers
  pub past : IsPast whole count start states
  pub each : Each P states
  pub left : Holds (newest start states) count (Left ∷ place)
  pub right : Holds (newest start states) count (Right ∷ place)

pub sons_held : (whole : Shape) (count : ℕ) (start : Registers) (place : Place) (tree : Shape) → subtree_at whole place ≡ Some tree → tree ≢ Leaf → held place count start ≡ 0 → (P : Registers → Type 0) (states : List Registers) → IsPast whole count start states → Each P states → Holds (newest start states) count place → SonsHeld whole count start place P
sons_held whole count start place tree stands inner free P [] past each holds =
    let some : 0 < held place count start = held_some place count start holds.register holds.within holds.content in
    absurd (omega arith)
sons_held whole count start place tree stands inner free P (state ∷ states) past each holds =
    elim (past.0.sons place tree stands inner holds) [
      | inl before ↦ sons_held whole count start place tree stands inner free P states past.1 each.1 before
      | inr both ↦ record { states = states; past = past.1; each = each.1; left = both.0; right = both.1 }
    ]

-- the past since the last time at which one of two counts was 0
pub record Since (whole : Shape) (count : ℕ) (P : Registers → Type 0) (one other : Registers → ℕ) (end : Registers) : Type 0 where
  pub start : Registers
  pub states : List Registers
  pub past : IsPast whole count start states
  pub each : Each P states
  pub reached : newest start states ≡ end
  pub none : (one start ≡ 0) ⊎ (other start ≡ 0)
  pub some : Each (λ s. (0 < one s) × (0 < other s)) states

zero_or_more : (a b : ℕ) → ((a ≡ 0) ⊎ (b ≡ 0)) ⊎ ((0 < a) × (0 < b))
zero_or_more zero b = inl (inl refl)
zero_or_more (suc a) zero = inl (inr refl)
zero_or_more (suc a) (suc b) = inr (omega arith, omega arith)

pub since : (whole : Shape) (count : ℕ) (P : Registers → Type 0) (one other : Registers → ℕ) (start : Registers) (states : List Registers) → IsPast whole count start states → Each P states → (one start ≡ 0) ⊎ (other start ≡ 0) → 0 < one (newest start states) → 0 < other (newest start states) → Since whole count P one other (newest start states)
since whole count P one other start [] past each none some_one some_other =
    elim none [ inl h ↦ absurd (omega arith) | inr h ↦ absurd (omega arith) ]
since whole count P one other start (state ∷ states) past each none some_one some_other =
    elim (zero_or_more (one (newest start states)) (other (newest start states))) [
      | inl now ↦ record { start = newest start states; states = state ∷ []; past = (past.0, tt); each = (each.0, tt); reached = refl; none = now; some = ((some_one, some_other), tt) }
      | inr busy ↦
          let rest : Since whole count P one other (newest start states) = since whole count P one other start states past.1 each.1 none busy.0 busy.1 in
          record {
            start = rest.start;
            states = state ∷ rest.states;
            past = (subst (λ s. IsStep whole count s state) (sym rest.reached) past.0, rest.past);
            each = (each.0, rest.each);
            reached = refl;
            none = rest.none;
            some = ((some_one, some_other), rest.some);
          }
    ]

-- The bound

pub number_positive : (tree : Shape) → 0 < number_of tree
number_positive Leaf = omega arith
number_positive (Pair' p left q right) =
    let a : 0 < number_of left = number_positive left in
    let b : 0 < number_of right = number_positive right in
    elim (eqb_tells (number_of left) (number_of right)) [
      | inl same ↦ rw same.0 (omega arith)
      | inr differs ↦ rw differs.0 (omega arith)
    ]

joined_most : (a b k : ℕ) → 0 < a → 0 < b → a ≤ k → b ≤ k → (a ≤ k - 1) ⊎ (b ≤ k - 1) → joined_number a b ≤ k
joined_most a b k pa pb ak bk less =
    elim (eqb_tells a b) [
      | inl same ↦
          let equal : a ≡ b = same.1 in
          rw same.0 (elim less [ inl h ↦ omega arith | inr h ↦ omega arith ])
      | inr differs ↦ rw differs.0 (omega arith)
    ]

holds_at : (now end : Registers) (count : ℕ) (place : Place) → now ≡ end → Holds end count place → Holds now count place
holds_at now end count place same holds = record { register = holds.register; within = holds.within; content = ap (λ s. s holds.register) same ∙ holds.content }

-- where at most so many registers hold values below a place until the value of its shape is made, the
-- shape's number is at most as many
pub bound : (whole : Shape) (count : ℕ) (tree : Shape) (place : Place) (most : ℕ) → subtree_at whole place ≡ Some tree → (start : Registers) (states : List Registers) → IsPast whole count start states → held place count start ≡ 0 → Each (λ s. held place count s ≤ most) states → Holds (newest start states) count place → number_of tree ≤ most
bound whole count Leaf place most stands start [] past free each holds =
    let some : 0 < held place count start = held_some place count start holds.register holds.within holds.content in
    absurd (omega arith)
bound whole count Leaf place most stands start (state ∷ states) past free each holds =
    let some : 0 < held place count state = held_some place count state holds.register holds.within holds.content in
    let most_here : held place count state ≤ most = each.0 in
    omega arith
bound whole count (Pair' p left q right) place most stands start states past free each holds =
    let inner : Pair' p left q right ≢ Leaf = λ e. cc in
    let until : SonsHeld whole count start place (λ s. held place count s ≤ most) = sons_held whole count start place (Pair' p left q right) stands inner free (λ s. held place count s ≤ most) states past each holds in
    let sums : (s : Registers) → held (Left ∷ place) count s + held (Right ∷ place) count s ≤ held place count s = held_sons place count in
    let stands_left : subtree_at whole (Left ∷ place) ≡ Some left = subtree_at_son whole place Left (Some (Pair' p left q right)) stands in
    let stands_right : subtree_at whole (Right ∷ place) ≡ Some right = subtree_at_son whole place Right (Some (Pair' p left q right)) stands in
    let free_left : held (Left ∷ place) count start ≡ 0 = omega (arith, sums start) in
    let free_right : held (Right ∷ place) count start ≡ 0 = omega (arith, sums start) in
    let most_left : number_of left ≤ most = bound whole count left (Left ∷ place) most stands_left start until.states until.past free_left (each_weaker (λ s. held place count s ≤ most) (λ s. held (Left ∷ place) count s ≤ most) (λ s h. omega (arith, sums s)) until.states until.each) until.left in
    let most_right : number_of right ≤ most = bound whole count right (Right ∷ place) most stands_right start until.states until.past free_right (each_weaker (λ s. held place count s ≤ most) (λ s. held (Right ∷ place) count s ≤ most) (λ s h. omega (arith, sums s)) until.states until.each) until.right in
    let last : Since whole count (λ s. held place count s ≤ most) (held (Left ∷ place) count) (held (Right ∷ place) count) (newest start until.states) =
    since whole count (λ s. held place count s ≤ most) (held (Left ∷ place) count) (held (Right ∷ place) count) start until.states until.past until.each (inl free_left)
    (held_some (Left ∷ place) count (newest start until.states) until.left.register until.left.within until.left.content)
    (held_some (Right ∷ place) count (newest start until.states) until.right.register until.right.within until.right.content) in
    let both : Each (λ s. (held place count s ≤ most) × ((0 < held (Left ∷ place) count s) × (0 < held (Right ∷ place) count s))) last.states =
    each_both (λ s. held place count s ≤ most) (λ s. (0 < held (Left ∷ place) count s) × (0 < held (Right ∷ place) count s)) last.states last.each last.some in
    let less : (number_of left ≤ most - 1) ⊎ (number_of right ≤ most - 1) =
    elim last.none [
      | inl none ↦ inl (bound whole count left (Left ∷ place) (most - 1) stands_left last.start last.states last.past none
          (each_weaker (λ s. (held place count s ≤ most) × ((0 < held (Left ∷ place) count s) × (0 < held (Right ∷ place) count s))) (λ s. held (Left ∷ place) count s ≤ most - 1) (λ s h. omega (arith, sums s, h.0, h.1.1)) last.states both)
          (holds_at (newest last.start last.states) (newest start until.states) count (Left ∷ place) last.reached until.left))
      | inr none ↦ inr (bound whole count right (Right ∷ place) (most - 1) stands_right last.start last.states last.past none
          (each_weaker (λ s. (held place count s ≤ most) × ((0 < held (Left ∷ place) count s) × (0 < held (Right ∷ place) count s))) (λ s. held (Right ∷ place) count s ≤ most - 1) (λ s h. omega (arith, sums s, h.0, h.1.0)) last.states both)
          (holds_at (newest last.start last.states) (newest start until.states) count (Right ∷ place) last.reached until.right))
    ] in
    joined_most (number_of left) (number_of right) most (number_positive left) (number_positive right) most_left most_right less

held_none : (place : Place) (count : ℕ) → held place count all_free ≡ 0
held_none place zero = refl
held_none place (suc count) = let rest : held place count all_free ≡ 0 = held_none place count in omega arith

each_state : (P : Registers → Type 0) → ((s : Registers) → P s) → (states : List Registers) → Each P states
each_state P every [] = tt
each_state P every (state ∷ states) = (every state, each_state P every states)

-- a play has at least as many registers as the shape's number
pub play_bound : (shape : Shape) (count : ℕ) (moves : List Move) → IsPlay shape moves count → number_of shape ≤ count
play_bound shape count moves play =
    let had : HasPast shape count all_free play.root.0 = past_of shape count all_free [] tt moves play.root.0 play.registers play.root.2 in
    let holds : Holds play.root.0 count [] = record { register = play.root.1; within = play.root.3; content = play.root.4 } in
    bound shape count shape [] count refl all_free had.states had.past (held_none [] count)
    (each_state (λ s. held [] count s ≤ count) (held_most [] count) had.states)
    (holds_at (newest all_free had.states) play.root.0 count [] had.reached holds)

pub number_least : (shape : Shape) (count : ℕ) → CanBePlayed shape count → number_of shape ≤ count
number_least shape count can = play_bound shape count can.0 can.1
