-- What the walk gives, by what its steps give.
use Rattle.std.proofs.Common.{◌≡◌, ◌≢◌, ◌+◌, ◌==◌, ℕ, true, false, List, [], ◌∷◌, ◌++◌, Option, Some, Result, Ok, Err, refl, sym, ap, subst, ◌∙◌, arith}
use Rattle.std.specs.Prelude.{if◌then◌else◌}
use Rattle.std.proofs.lemmas.Bool.Decides.{nat_tests}
use Rattle.p9_lang.specs.declared.tree.Kind.{Kind}
use Rattle.p9_lang.specs.declared.tree.Node.{Node, out-Node}
use Rattle.p9_lang.specs.Trees.{Syntax, SyntaxRow, syntax_of, row_of, nodes_of, nodes_of_row}
use Rattle.p9_lang.specs.Rules.{Rule, Broken, at_node, and_then}
use Rattle.p9_lang.specs.Scopes.{Known, next_node}
use Rattle.p9_lang.specs.Parts.{Context, Part, Frame, Judged, kind_at}
use Rattle.p9_lang.specs.Opening.{context}
use Rattle.p9_lang.specs.Declaring.{behind}
use Rattle.p9_lang.specs.Typing.{judge, judge_parts, with_rules, role_rules}
use Rattle.p9_operand.specs.Least.{least, unless_at, earlier_of}
use Rattle.p9_operand.specs.declared.rule.Rule as declared
use Rattle.p9_operand.specs.Told.{told_rule}
use Rattle.p9_operand.proofs.Leasts.{unless_at_node, first_of_least}
use Rattle.p9_declare.specs.declared.fault.TypingFault.{TypingFault}
use Rattle.p9_declare.specs.declared.fault.TypingFault.TheVariants as fault
use Rattle.p9_declare.specs.Judging.{Judges, TellsBroken}
use Rattle.p9_declare.specs.Told.{told_fault}
use Rattle.p9_declare.proofs.Judging.{fault_goes_on, told_same}
use Rattle.p9_judge.specs.Walking.{judged_inside, judged_part, Counts, CountsAt}
use Rattle.p9_judge.proofs.Nodes.{syntax_of_out, counted}

-- COUNTS

pub fault_any : (f : TypingFault) (nodes count : ℕ) → nodes ≡ count → CountsAt f nodes count
fault_any (fault.Broken at rule) nodes count e = e
fault_any fault.Memory nodes count e = tt

pub counts_any : {A : Type 0} (r : Result A TypingFault) (nodes count : ℕ) → nodes ≡ count → Counts r nodes count
counts_any (Ok x) nodes count e = e
counts_any (Err f) nodes count e = fault_any f nodes count e

pub fault_counts_with : (f : TypingFault) (a b m n : ℕ) → (a ≡ b → m ≡ n) → CountsAt f a b → CountsAt f m n
fault_counts_with (fault.Broken at rule) a b m n g h = g h
fault_counts_with fault.Memory a b m n g h = tt

pub counts_with : {A : Type 0} (r : Result A TypingFault) (a b m n : ℕ) → (a ≡ b → m ≡ n) → Counts r a b → Counts r m n
counts_with (Ok x) a b m n g h = g h
counts_with (Err f) a b m n g h = fault_counts_with f a b m n g h

-- RULES OF THE NODE ITSELF

behind_part : (n : ℕ) (broken : List Rule) (r : Part × Known) (answer : Judged) → answer ≡ Ok r
    → with_rules n broken answer ≡ unless_at n (least broken) r
behind_part n broken r answer e = ap (with_rules n broken) e ∙ unless_at_node n broken r

pub rule_broken : (n number : ℕ) (broken : List Rule) (rule : Rule) (r : Part × Known) (answer : Judged) → Some rule ≡ least broken → number ≡ n
    → answer ≡ Ok r → with_rules n broken answer ≡ Err (at_node number rule)
rule_broken n number broken rule r answer h k e =
    behind_part n broken r answer e ∙ ap (λ o. unless_at n o r) (sym h) ∙ ap (λ m. Err (at_node m rule)) (sym k)

broken_before : (n : ℕ) (broken : List Rule) (b : Broken) (answer : Judged) → answer ≡ Err b
    → with_rules n broken answer ≡ (if b.node == n then Err (earlier_of b n (least broken)) else Err b)
broken_before n broken b answer e =
    ap (with_rules n broken) e ∙ ap (λ x. if b.node == n then Err x else Err b) (first_of_least b n broken)

unequal : (a b : ℕ) → a ≢ b → (a == b) ≡ false
unequal a b h = grind (arith, nat_tests)

equal : (a b : ℕ) → a ≡ b → (a == b) ≡ true
equal a b h = grind (arith, nat_tests)

pub broken_inside : (n : ℕ) (broken : List Rule) (b : Broken) (answer : Judged) → answer ≡ Err b → b.node ≢ n → with_rules n broken answer ≡ Err b
broken_inside n broken b answer e h =
    broken_before n broken b answer e ∙ ap (λ t. if t then Err (earlier_of b n (least broken)) else Err b) (unequal b.node n h)

pub broken_too : (n : ℕ) (broken : List Rule) (b : Broken) (answer : Judged) → answer ≡ Err b → b.node ≡ n
    → with_rules n broken answer ≡ Err (earlier_of b n (least broken))
broken_too n broken b answer e h =
    broken_before n broken b answer e ∙ ap (λ t. if t then Err (earlier_of b n (least broken)) else Err b) (equal b.node n h)

pub told_some : {A : Type 0} (f : TypingFault) (b : Broken) (answer : Result A Broken) → told_fault f ≡ Some b → answer ≡ Err b → TellsBroken f answer
told_some (fault.Broken at rule) b answer e h = (let same : at_node at (told_rule rule) ≡ b = cc in h ∙ ap Err (sym same))
told_some fault.Memory b answer e h = cc

pub fault_inside : (f : TypingFault) (at number n : ℕ) (first : declared.Rule) (rule : Option Rule) (broken : List Rule) (answer : Judged)
    → f ≡ fault.Broken at first → at ≢ number → rule ≡ least broken → CountsAt f number n → TellsBroken f answer
    → with_rules n broken answer ≡ Err (at_node at (told_rule first))
fault_inside f at number n first rule broken answer e d h k t =
    let same : number ≡ n = subst (λ x. CountsAt x number n) e k in
    broken_inside n broken (at_node at (told_rule first)) answer (subst (λ x. TellsBroken x answer) e t) (λ z. d (z ∙ sym same))

pub fault_too : (f also : TypingFault) (at number n : ℕ) (first : declared.Rule) (rule : Option Rule) (broken : List Rule) (answer : Judged)
    → f ≡ fault.Broken at first → at ≡ number → rule ≡ least broken
    → told_fault also ≡ Some (earlier_of (at_node at (told_rule first)) number rule)
    → CountsAt f number n → TellsBroken f answer → TellsBroken also (with_rules n broken answer)
fault_too f also at number n first rule broken answer e d h g k t =
    let same : number ≡ n = subst (λ x. CountsAt x number n) e k in
    told_some also (earlier_of (at_node at (told_rule first)) number rule) (with_rules n broken answer) g
    (broken_too n broken (at_node at (told_rule first)) answer (subst (λ x. TellsBroken x answer) e t) (d ∙ same)
    ∙ ap (λ o. Err (earlier_of (at_node at (told_rule first)) n o)) (sym h)
    ∙ ap (λ m. Err (earlier_of (at_node at (told_rule first)) m rule)) (sym same))

pub fault_counts : (f also : TypingFault) (at : ℕ) (first : declared.Rule) (nodes count : ℕ) → f ≡ fault.Broken at first
    → CountsAt f nodes count → CountsAt also nodes count
fault_counts f also at first nodes count e k = fault_any also nodes count (subst (λ x. CountsAt x nodes count) e k)

-- STEPS

pub judges_same : {A B : Type 0} (view : A → B) (r : Result A TypingFault) (q : Known) (answer other : Result (B × Known) Broken) → answer ≡ other
    → Judges view r q answer → Judges view r q other
judges_same view r q answer other e h = subst (λ m. Judges view r q m) e h

-- a part that is judged as it is asked
pub part_goes_on : {A : Type 0} (view : A → Part) (r : Result A TypingFault) (q : Known) (k : Kind) (f : Frame) (before : List Part) (t : Syntax) (ts : SyntaxRow) (s next : Known) (c : Context) (p : Part)
    → c ≡ context k f before (kind_at t) s → judge t c s ≡ Ok (p, next) → Judges view r q (behind k f before p ts next)
    → Judges view r q (judged_part k f before t ts s)
part_goes_on view r q k f before t ts s next c p e h j =
    judges_same view r q (behind k f before p ts next) (judged_part k f before t ts s)
    (sym (ap (λ m. and_then m (λ x. behind k f before x.0 ts x.1)) (ap (λ d. judge t d s) (sym e) ∙ h))) j

pub part_broken : (b : TypingFault) (k : Kind) (f : Frame) (before : List Part) (t : Syntax) (ts : SyntaxRow) (s : Known) (c : Context)
    → c ≡ context k f before (kind_at t) s → TellsBroken b (judge t c s) → TellsBroken b (judged_part k f before t ts s)
part_broken b k f before t ts s c e h =
    fault_goes_on b (judge t (context k f before (kind_at t) s) s) (λ x. behind k f before x.0 ts x.1)
    (told_same b (ap (λ d. judge t d s) e) h)

pub node_judged : {A : Type 0} (view : A → Part) (r : Result A TypingFault) (q : Known) (n : Node) (c : Context) (s : Known)
    → Judges view r q
    (with_rules (next_node s + nodes_of_row (row_of (out-Node n).parts)) (role_rules c.role (out-Node n).kind)
    (judged_inside (out-Node n).kind (row_of (out-Node n).parts) c s))
    → Judges view r q (judge (syntax_of n) c s)
node_judged view r q n c s j = judges_same view r q _ (judge (syntax_of n) c s) (sym (ap (λ t. judge t c s) (syntax_of_out n))) j

number_there : (n : Node) (slice : List Node) (number first inside next : ℕ) → slice ≡ (out-Node n).parts → first ≡ next → number ≡ first + inside
    → inside ≡ 0 + nodes_of_row (row_of slice) → number ≡ next + nodes_of_row (row_of (out-Node n).parts)
number_there n slice number first inside next e f g h =
    let k : nodes_of_row (row_of slice) ≡ nodes_of_row (row_of (out-Node n).parts) = ap (λ ns. nodes_of_row (row_of ns)) e in
    omega arith

pub node_walked : {A : Type 0} (view : A → Part) (r inner : Result A TypingFault) (q s : Known) (n : Node) (slice : List Node) (c : Context) (number first inside : ℕ)
    → slice ≡ (out-Node n).parts → first ≡ next_node s → number ≡ first + inside
    → Counts inner inside (0 + nodes_of_row (row_of slice))
    → Judges view inner q (judged_inside (out-Node n).kind (row_of slice) c s)
    → ((m : ℕ) (answer : Judged) → Counts inner number m → Judges view inner q answer
    → Judges view r q (with_rules m (role_rules c.role (out-Node n).kind) answer))
    → Judges view r q (judge (syntax_of n) c s)
node_walked view r inner q s n slice c number first inside e f g h j own =
    node_judged view r q n c s
    (own (next_node s + nodes_of_row (row_of (out-Node n).parts)) (judged_inside (out-Node n).kind (row_of (out-Node n).parts) c s)
    (counts_with inner inside (0 + nodes_of_row (row_of slice)) number (next_node s + nodes_of_row (row_of (out-Node n).parts))
    (number_there n slice number first inside (next_node s) e f g) h)
    (judges_same view inner q (judged_inside (out-Node n).kind (row_of slice) c s) (judged_inside (out-Node n).kind (row_of (out-Node n).parts) c s)
    (ap (λ ns. judged_inside (out-Node n).kind (row_of ns) c s) e) j))

count_there : (n : Node) (slice : List Node) (inside before after nodes : ℕ) → slice ≡ (out-Node n).parts → before ≡ nodes + inside → after ≡ before + 1
    → inside ≡ 0 + nodes_of_row (row_of slice) → after ≡ nodes + nodes_of (syntax_of n)
count_there n slice inside before after nodes e f g h =
    let k : nodes_of_row (row_of slice) ≡ nodes_of_row (row_of (out-Node n).parts) = ap (λ ns. nodes_of_row (row_of ns)) e in
    let m : nodes_of (syntax_of n) ≡ nodes_of_row (row_of (out-Node n).parts) + 1 = counted n in
    omega arith

pub node_counted : {A : Type 0} (inner : Result A TypingFault) (n : Node) (slice : List Node) (inside before after nodes : ℕ) → slice ≡ (out-Node n).parts
    → before ≡ nodes + inside → after ≡ before + 1 → Counts inner inside (0 + nodes_of_row (row_of slice))
    → Counts inner after (nodes + nodes_of (syntax_of n))
node_counted inner n slice inside before after nodes e f g h =
    counts_with inner inside (0 + nodes_of_row (row_of slice)) after (nodes + nodes_of (syntax_of n)) (count_there n slice inside before after nodes e f g) h

-- PARTS

and_then_twice : {A B C E : Type 0} (r : Result A E) (g : A → Result B E) (h : B → Result C E) → and_then r (λ x. and_then (g x) h) ≡ and_then (and_then r g) h
and_then_twice (Ok x) g h = refl
and_then_twice (Err e) g h = refl

row_there : (k : Kind) (f : Frame) (before : List Part) (rest after : List Node) (part : Node) (s : Known) → rest ≡ part ∷ after
    → judge_parts k f before (row_of rest) s
    ≡ and_then (judged_part k f before (syntax_of part) (row_of after) s) (λ q. judge_parts k f (before ++ q.0 ∷ []) (row_of after) q.1)
row_there k f before rest after part s e =
    ap (λ ns. judge_parts k f before (row_of ns) s) e
    ∙ and_then_twice (judge (syntax_of part) (context k f before (kind_at (syntax_of part)) s) s)
    (λ r. behind k f before r.0 (row_of after) r.1) (λ q. judge_parts k f (before ++ q.0 ∷ []) (row_of after) q.1)

-- behind a part that is judged the others are
pub parts_go_on : (k : Kind) (f : Frame) (before later : List Part) (rest after : List Node) (part : Node) (s next : Known) (q : Part) (all : Result (List Part × Known) Broken)
    → rest ≡ part ∷ after → later ≡ before ++ q ∷ [] → judged_part k f before (syntax_of part) (row_of after) s ≡ Ok (q, next)
    → judge_parts k f before (row_of rest) s ≡ all → judge_parts k f later (row_of after) next ≡ all
parts_go_on k f before later rest after part s next q all e g h i =
    ap (λ l. judge_parts k f l (row_of after) next) g
    ∙ sym (row_there k f before rest after part s e ∙ ap (λ r. and_then r (λ x. judge_parts k f (before ++ x.0 ∷ []) (row_of after) x.1)) h)
    ∙ i

-- the fault of a part is that of all of them
pub parts_broken : (b : TypingFault) (k : Kind) (f : Frame) (before : List Part) (rest after : List Node) (part : Node) (s : Known) (all : Result (List Part × Known) Broken)
    → rest ≡ part ∷ after → judge_parts k f before (row_of rest) s ≡ all
    → TellsBroken b (judged_part k f before (syntax_of part) (row_of after) s) → TellsBroken b all
parts_broken b k f before rest after part s all e h t =
    told_same b (sym (row_there k f before rest after part s e) ∙ h)
    (fault_goes_on b (judged_part k f before (syntax_of part) (row_of after) s) (λ q. judge_parts k f (before ++ q.0 ∷ []) (row_of after) q.1) t)

pub parts_counted : (rest after : List Node) (part : Node) (nodes later all : ℕ) → rest ≡ part ∷ after → nodes + nodes_of_row (row_of rest) ≡ all
    → later ≡ nodes + nodes_of (syntax_of part) → later + nodes_of_row (row_of after) ≡ all
parts_counted rest after part nodes later all e h i =
    let k : nodes + (nodes_of (syntax_of part) + nodes_of_row (row_of after)) ≡ all = sym (ap (λ ns. nodes + nodes_of_row (row_of ns)) e) ∙ h in
    omega arith
