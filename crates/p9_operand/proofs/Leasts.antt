-- The least of several rules, of lists behind each other, and at a node.
use Rattle.std.proofs.Common.{◌≡◌, ℕ, Bool, true, false, ◌&&◌, ◌||◌, nat_eq, nat_lt, cond, List, [], ◌∷◌, ◌++◌, map, Option, Some, None, Err, refl, sym, ap, ◌∙◌, arith}
use Rattle.std.proofs.lemmas.Bool.Decides.{nat_tests}
use Rattle.p9_lang.specs.Rules.{Rule, rule_number, Broken, at_node, is_before, earlier, first_of, unless, lesser, least_of, unless_rules}
use Rattle.p9_operand.specs.Least.{least, least_of_both, unless_least, unless_at, earlier_of}

-- of two the first, unless the second is before it
abbrev pick : {A : Type 0} → (A → A → Bool) → A → A → A
pick is_before a b = cond (is_before b a) b a

pick_assoc : {A : Type 0} → (is_before : A → A → Bool) (a b c : A) (first second : Bool) → is_before b a ≡ first → is_before c b ≡ second
    → (is_before b a ≡ true → is_before c b ≡ true → is_before c a ≡ true) → (is_before b a ≡ false → is_before c b ≡ false → is_before c a ≡ false)
    → pick is_before (pick is_before a b) c ≡ pick is_before a (pick is_before b c)
pick_assoc is_before a b c true true e f stays goes = rw (e, f, stays e f)
pick_assoc is_before a b c true false e f stays goes = rw (e, f, e)
pick_assoc is_before a b c false true e f stays goes = rw (e, f)
pick_assoc is_before a b c false false e f stays goes = rw (e, f, e, goes e f)

below_yes : (a b c : ℕ) → nat_lt b a ≡ true → nat_lt c b ≡ true → nat_lt c a ≡ true
below_yes a b c e f = grind (arith, nat_tests)

below_no : (a b c : ℕ) → nat_lt b a ≡ false → nat_lt c b ≡ false → nat_lt c a ≡ false
below_no a b c e f = grind (arith, nat_tests)

pub lesser_assoc : (a b c : Rule) → lesser (lesser a b) c ≡ lesser a (lesser b c)
lesser_assoc a b c =
    pick_assoc (λ x y. nat_lt (rule_number x) (rule_number y)) a b c _ _ refl refl
    (below_yes (rule_number a) (rule_number b) (rule_number c)) (below_no (rule_number a) (rule_number b) (rule_number c))

pub least_of-lesser : (a b : Rule) (rules : List Rule) → least_of (lesser a b) rules ≡ lesser a (least_of b rules)
least_of-lesser a b [] = refl
least_of-lesser a b (c ∷ rules) = ap (λ r. least_of r rules) (lesser_assoc a b c) ∙ least_of-lesser a (lesser b c) rules

pub least_cons : (a : Rule) (rules : List Rule) → least (a ∷ rules) ≡ least_of_both (Some a) (least rules)
least_cons a [] = refl
least_cons a (b ∷ rules) = ap Some (least_of-lesser a b rules)

pub least_of_both_assoc : (a b c : Option Rule) → least_of_both (least_of_both a b) c ≡ least_of_both a (least_of_both b c)
least_of_both_assoc None b c = refl
least_of_both_assoc (Some a) None c = refl
least_of_both_assoc (Some a) (Some b) None = refl
least_of_both_assoc (Some a) (Some b) (Some c) = ap Some (lesser_assoc a b c)

pub least_append : (xs ys : List Rule) → least (xs ++ ys) ≡ least_of_both (least xs) (least ys)
least_append [] ys = refl
least_append (a ∷ xs) ys =
    least_cons a (xs ++ ys) ∙ ap (least_of_both (Some a)) (least_append xs ys)
    ∙ sym (least_of_both_assoc (Some a) (least xs) (least ys)) ∙ ap (λ r. least_of_both r (least ys)) (sym (least_cons a xs))

pub unless_least_of : {A : Type 0} → (rules : List Rule) (x : A) → unless_rules rules x ≡ unless_least (least rules) x
unless_least_of [] x = refl
unless_least_of (a ∷ rules) x = refl

-- AT ONE NODE

same_node : (n : ℕ) (t : Bool) → (nat_lt n n || (nat_eq n n && t)) ≡ t
same_node n t = grind (arith, nat_tests)

earlier-at : (node : ℕ) (a b : Rule) → earlier (at_node node a) (at_node node b) ≡ at_node node (lesser a b)
earlier-at node a b = ap (λ t. cond t (at_node node b) (at_node node a)) (same_node node (nat_lt (rule_number b) (rule_number a))) ∙ chosen (nat_lt (rule_number b) (rule_number a))
  where
    chosen : (t : Bool) → cond t (at_node node b) (at_node node a) ≡ at_node node (cond t b a)
    chosen true = refl
    chosen false = refl

first_of-at : (node : ℕ) (a : Rule) (rules : List Rule) → first_of (at_node node a) (map (at_node node) rules) ≡ at_node node (least_of a rules)
first_of-at node a [] = refl
first_of-at node a (b ∷ rules) = ap (λ r. first_of r (map (at_node node) rules)) (earlier-at node a b) ∙ first_of-at node (lesser a b) rules

-- what is told of rules that a node breaks
pub unless_at_node : {A : Type 0} → (node : ℕ) (rules : List Rule) (x : A) → unless (map (at_node node) rules) x ≡ unless_at node (least rules) x
unless_at_node node [] x = refl
unless_at_node node (a ∷ rules) x = ap Err (first_of-at node a rules)

before_yes : (a b c : Broken) → is_before b a ≡ true → is_before c b ≡ true → is_before c a ≡ true
before_yes a b c e f = grind (arith, nat_tests)

before_no : (a b c : Broken) → is_before b a ≡ false → is_before c b ≡ false → is_before c a ≡ false
before_no a b c e f = grind (arith, nat_tests)

first_of-earlier : (a b : Broken) (others : List Broken) → first_of (earlier a b) others ≡ earlier a (first_of b others)
first_of-earlier a b [] = refl
first_of-earlier a b (c ∷ others) =
    ap (λ r. first_of r others) (pick_assoc is_before a b c _ _ refl refl (before_yes a b c) (before_no a b c))
    ∙ first_of-earlier a (earlier b c) others

-- what is told of a rule that is broken already and of rules that a node breaks
pub first_of_least : (broken : Broken) (node : ℕ) (rules : List Rule) → first_of broken (map (at_node node) rules) ≡ earlier_of broken node (least rules)
first_of_least broken node [] = refl
first_of_least broken node (a ∷ rules) = first_of-earlier broken (at_node node a) (map (at_node node) rules) ∙ ap (earlier broken) (first_of-at node a rules)
