-- Expressions are read.
use Rattle.std.proofs.Common.{◌≡◌, ℕ, zero, suc, ◌+◌, ◌-◌, ◌≤◌, ◌<◌, nat_le, Bool, true, false, ◌||◌, ◌&&◌, ◌⊎◌, inl, inr, not, List, [], ◌∷◌, ◌++◌, Option, Some, None, refl, sym, ap, subst, ◌∙◌, arith, ⊎_elim, append_assoc, append-nil, map}
use Rattle.std.specs.Prelude.{⊤}
use Rattle.std.proofs.lemmas.Bool.{false≢true, and_parts, not-true}
use Rattle.p9_lang.specs.declared.tree.CBinary.{CBinary}
use Rattle.p9_lang.specs.declared.tree.CBinary.TheVariants as operator
use Rattle.p9_lang.specs.declared.tree.CUnary.{CUnary}
use Rattle.p9_lang.specs.declared.tree.CUnary.TheVariants as unary
use Rattle.p9_lang.specs.declared.tree.EntryBy.{EntryBy}
use Rattle.p9_lang.specs.declared.tree.EntryBy.TheVariants as by
use Rattle.p9_lang.specs.declared.tree.SpecWord.{SpecWord}
use Rattle.p9_lang.specs.declared.tree.SpecWord.TheVariants as word
use Rattle.p9_lang.specs.declared.tree.Kind.{Kind}
use Rattle.p9_lang.specs.declared.tree.Kind.TheVariants as kind
use Rattle.p9_grammar.specs.declared.terminal.Keyword.{Keyword}
use Rattle.p9_grammar.specs.declared.terminal.Keyword.TheVariants as key
use Rattle.p9_grammar.specs.declared.terminal.Punctuator.{Punctuator}
use Rattle.p9_grammar.specs.declared.terminal.Punctuator.TheVariants as mark
use Rattle.p9_grammar.specs.declared.terminal.Terminal.{Terminal}
use Rattle.p9_grammar.specs.declared.terminal.Terminal.TheVariants as t
use Rattle.p9_grammar.specs.declared.head.Context.{Context}
use Rattle.p9_grammar.specs.declared.head.Context.TheVariants as context
use Rattle.p9_grammar.specs.declared.head.Naming.{Naming}
use Rattle.p9_grammar.specs.declared.head.Naming.TheVariants as naming
use Rattle.p9_grammar.specs.declared.head.Class.{Class}
use Rattle.p9_grammar.specs.declared.head.Class.TheVariants as class
use Rattle.p9_grammar.specs.declared.head.Head.{Head}
use Rattle.p9_grammar.specs.declared.head.Head.TheVariants as head
use Rattle.p9_grammar.specs.Trees.{Tree, node, Trees, none, more, count, push}
use Rattle.p9_grammar.specs.Symbols.{Symbol, Write, Part, Enter, Slot, Of, Last, Pointed, Direct, Grouped, Role, Plain, Declares, Begins, part, sign, keyword, right_side, binds, binary_sign, unary_sign, assignment_sign, step_sign, dot_sign, expression, assignment, conditional, operand, later, listed, many, optional, at_most_one, branches, texts, spec_symbols, word_symbols, spec_parts, is_typedef, declarator, declarator_of, declarators, later_declarators, initialiser, qualifier, inner_declarator, parameters, parameter_list, behind, entry_place, named, in_braces, tag_key}
use Rattle.p9_grammar.specs.Scopes.{Scope, Level, is_type, after, told, told_first, through, add, leave, tells, nothing, Told, innermost, outer}
use Rattle.p9_grammar.specs.Grammar.{Sort, sort, Accepts, Suits, Asks, Formed, Fills, slot_class, naming_of, may_of, past, past_in, is_assignable, SpecFrom, IsSpec, may_follow, has_type, is_known, is_void_word, pointed, grouped}
use Rattle.p9_grammar.specs.Machine.{Frame, Read, Stack, State, state, to, fresh, moved, made, leaf, start_of, step, run, begin, begin_by, begin_spec, begin_expression, begin_declarator, begin_statement, begin_switch_item, begin_initialiser, only_if, or_else, Begin, Pushes, Leaf, Under, Nowhere, Move, Shift, Ends, Opens, Over, Refused, After, To, Makes, Unwanted, Join, Joins, Posts, Lengthens, Apart, opening, inside, resolve, attach, attached, joining, join, join_at, join_if, join_expression, join_declarator, settle, going, feed, decide, choose, wanted, role, retold, enters, opens, Infix, Binds, No, binding, binary, assigns, level_of, direct_of, move, spec_move, begins_type, allows_storage, spec, shift_if, ends_spec, paren_or, brace_or, semicolon_or, bracket_or}
use Rattle.p9_grammar.proofs.Spelling.{spell, spells}
use Rattle.p9_grammar.proofs.Reading.{opened, read, Meets, calm, calm_at, quiet, is_no_else, ends_param, ends_type, ends_constant, follows, Reads, Each, ReadsNode, opens-up}
use Rattle.p9_grammar.proofs.Calm.{le_true, le_false, true_le, low, low-calm, low-apart, Edge, calm-low, quiet-apart, quiet-less}
use Rattle.p9_grammar.proofs.First.{First, starts, starts_expression, starts_declarator, starts_statement, starts_switch_item, starts_initialiser, starts_entry, starts_spec, first-expression, first-declarator, first-spec, word_token, word_head, moves-word, first_of_word, first-along}

-- Lists of trees

abbrev pub append : Trees → Trees → Trees
append none ns = ns
append (more m ms) ns = more m (append ms ns)

pub append-push : (ms : Trees) (n : Tree) (ns : Trees) → append (push ms n) ns ≡ append ms (more n ns)
append-push none n ns = refl
append-push (more m ms) n ns = ap (more m) (append-push ms n ns)

pub append-none : (ms : Trees) → append ms none ≡ ms
append-none none = refl
append-none (more m ms) = ap (more m) (append-none ms)

-- The places where an expression is wanted

abbrev pub wanted_level : Class → ℕ
wanted_level (class.Expression k) = k
wanted_level class.Initialiser = 2
wanted_level _ = 0

pub level-below : (w : Class) (l : ℕ) → Meets w (class.Expression l) → wanted_level w ≤ l
level-below (class.Expression k) l h = h
level-below class.Initialiser l h = h
level-below _ l h = absurd h

pub meets-tighter : (w : Class) (l k : ℕ) → l ≤ k → Meets w (class.Expression l) → Meets w (class.Expression k)
meets-tighter (class.Expression j) l k g h = omega (arith, g, h)
meets-tighter class.Initialiser l k g h = omega (arith, g, h)
meets-tighter _ l k g h = absurd h

begin_initialiser-expression : (scope : Scope) (token : Terminal) → starts_expression scope token ≡ true → begin_initialiser scope token ≡ begin_expression scope 2 token
begin_initialiser-expression scope (t.Mark mark.OpenBrace) h = absurd (false≢true h)
begin_initialiser-expression scope _ h = refl

pub begin-wanted : (scope : Scope) (w : Class) (l : ℕ) (token : Terminal) → Meets w (class.Expression l) → starts_expression scope token ≡ true →
    begin scope w token ≡ begin_expression scope (wanted_level w) token
begin-wanted scope (class.Expression k) l token h g = refl
begin-wanted scope class.Initialiser l token h g = begin_initialiser-expression scope token g
begin-wanted scope _ l token h g = absurd h

pub join-wanted : (w : Class) (l : ℕ) (n : Tree) (token : Terminal) → Meets w (class.Expression l) → join w n token ≡ join_expression (wanted_level w) n token
join-wanted (class.Expression k) l n token h = refl
join-wanted class.Initialiser l n token h = refl
join-wanted _ l n token h = absurd h

pub formed-level : (n : Tree) (l : ℕ) (scope : Scope) (at : ℕ) → Formed (class.Expression l) scope at n → l ≤ level_of n
formed-level (node k token parts) l scope at f = formed-sort (sort k) l f.1
  where
    formed-sort : (x : Sort) (l : ℕ) → Accepts (class.Expression l) x → l ≤ Rattle.p9_grammar.specs.Machine.level_of_sort x
    formed-sort (Rattle.p9_grammar.specs.Grammar.Expression k) l h = h
    formed-sort _ l h = absurd h

pub formed-start : (c : Class) (n : Tree) (scope : Scope) (at : ℕ) → Formed c scope at n → start_of n ≡ at
formed-start c (node k token parts) scope at f = f.0

-- A token that is a node, that opens a node, and that takes the expression before it

pub reads-leaf : (f : Frame) (s : Stack) (scope : Scope) (at : ℕ) (first : Terminal) (k : Kind) (token : Terminal) (rest : List Terminal) →
    begin scope (wanted f.head) first ≡ Leaf k →
    opened f s scope at (first ∷ token ∷ rest) ≡ run (settle (f ∷ s) (leaf k at) scope (suc at) token) rest
unfolding step
reads-leaf f s scope at first k token rest e = ap (λ b. run (opening (f ∷ s) scope at first b) (token ∷ rest)) e

pub reads-push : (f : Frame) (s : Stack) (scope : Scope) (at : ℕ) (first : Terminal) (h : Head) (ts : List Terminal) →
    begin scope (wanted f.head) first ≡ Pushes h →
    opened f s scope at (first ∷ ts) ≡ run (Some (state (fresh h at ∷ f ∷ s) (enters h scope) (suc at) None)) ts
reads-push f s scope at first h ts e = ap (λ b. run (opening (f ∷ s) scope at first b) ts) e

pub reads-join : (f : Frame) (s : Stack) (n : Tree) (c : Class) (scope scope' : Scope) (start at : ℕ) (token : Terminal) (h : Head) (ts : List Terminal) →
    Formed c scope start n → join (wanted f.head) n token ≡ Joins h →
    run (settle (f ∷ s) (read n scope) scope' at token) ts
    ≡ run (Some (state (record { head = h; from = start; parts = more n none; told = told n scope } ∷ f ∷ s) (enters h scope') (suc at) None)) ts
reads-join f s n c scope scope' start at token h ts g e =
    ap (λ j. run (joining f s (read n scope) scope' at
    (attach f s (read n scope) (add (role f.head) (told n scope) scope') at token (λ m sc. settle s m sc at token) (attached f.head n)) j) ts) e
    ∙ ap (λ a. run (Some (state (record { head = h; from = a; parts = more n none; told = told n scope } ∷ f ∷ s) (enters h scope') (suc at) None)) ts) (formed-start c n scope start g)

-- nothing takes the part before the token
pub reads-apart : (f : Frame) (s : Stack) (n : Read) (scope : Scope) (at : ℕ) (token : Terminal) (ts : List Terminal) →
    join (wanted f.head) n.tree token ≡ Apart →
    run (settle (f ∷ s) n scope at token) ts
    ≡ run (attach f s n (add (role f.head) n.told scope) at token (λ m sc. settle s m sc at token) (attached f.head n.tree)) ts
reads-apart f s n scope at token ts e =
    ap (λ j. run (joining f s n scope at (attach f s n (add (role f.head) n.told scope) at token (λ m sc. settle s m sc at token) (attached f.head n.tree)) j) ts) e

-- what an operator between two operands does
abbrev pub tight : ℕ → ℕ → ℕ → Tree → Join → Join
tight w level left n j = join_if (nat_le w level && nat_le left (level_of n)) j

pub join-tight : (w level left : ℕ) (n : Tree) (j : Join) → w ≤ level → left ≤ level_of n → tight w level left n j ≡ j
join-tight w level left n j h g = ap (λ b. join_if (b && nat_le left (level_of n)) j) (le_true w level h) ∙ ap (λ b. join_if b j) (le_true left (level_of n) g)

pub calm-left : (level left : ℕ) (j : Join) → calm_at left (Binds level left j) ≡ true
calm-left level left j = ap (λ b. nat_le (suc level) left || b) (le_true left left (omega arith)) ∙ Rattle.std.proofs.Math.Bool.or-true (nat_le (suc level) left)

abbrev pub ReadsExpression : Kind → Trees → Type 0
ReadsExpression k parts =
    (l : ℕ) (f : Frame) (s : Stack) (scope : Scope) (at : ℕ) (token : Terminal) (rest : List Terminal) →
    Accepts (class.Expression l) (sort k) → Asks scope k (count parts) →
    Fills (class.Expression l) (right_side k (count parts)) scope at parts → Meets (wanted f.head) (class.Expression l) → calm l token ≡ true →
    opened f s scope at (spell (node k at parts) (token ∷ rest))
    ≡ run (settle (f ∷ s) (read (node k at parts) scope) (after (node k at parts) scope) (past (node k at parts) at) token) rest

reads-name : (x : List ℕ) (parts : Trees) → ReadsExpression (kind.Name x) parts
reads-name x none l f s scope at token rest a g h m q =
    let e : is_type scope x ≡ false = g in
    let b : starts_expression scope (t.Name x) ≡ true = ap (λ z. Rattle.p9_grammar.specs.Machine.is_begun (only_if (not z) (Leaf (kind.Name x)))) e in
    reads-leaf f s scope at (t.Name x) (kind.Name x) token rest
    (begin-wanted scope (wanted f.head) l (t.Name x) m b ∙ ap (λ z. only_if (not z) (Leaf (kind.Name x))) e)
reads-name x (more n ns) l f s scope at token rest a g h m q = absurd h

reads-number : (v : ℕ) (unsigned long : Bool) (parts : Trees) → ReadsExpression (kind.Number v unsigned long) parts
reads-number v unsigned long none l f s scope at token rest a g h m q =
    reads-leaf f s scope at (t.Number v unsigned long) _ token rest (begin-wanted scope (wanted f.head) l (t.Number v unsigned long) m refl)
reads-number v unsigned long (more n ns) l f s scope at token rest a g h m q = absurd h

reads-character : (v : ℕ) (parts : Trees) → ReadsExpression (kind.Character v) parts
reads-character v none l f s scope at token rest a g h m q =
    reads-leaf f s scope at (t.Character v) _ token rest (begin-wanted scope (wanted f.head) l (t.Character v) m refl)
reads-character v (more n ns) l f s scope at token rest a g h m q = absurd h

-- texts side by side

texts-more : (xs ys : List (List ℕ)) (l : ℕ) (f : Frame) (s : Stack) (scope : Scope) (at here : ℕ) (token : Terminal) (rest : List Terminal) → Meets (wanted f.head) (class.Expression l) →
    run (Some (state (f ∷ s) scope here (Some (record { tree = node (kind.Text xs) at none; told = nothing })))) (spells (texts ys) none (token ∷ rest))
    ≡ run (settle (f ∷ s) (record { tree = node (kind.Text (xs ++ ys)) at none; told = nothing }) scope (past_in (texts ys) none here) token) rest
unfolding step
texts-more xs [] l f s scope at here token rest m =
    ap (λ ws. run (settle (f ∷ s) (record { tree = node (kind.Text ws) at none; told = nothing }) scope here token) rest) (sym (append-nil xs))
texts-more xs (y ∷ ys) l f s scope at here token rest m =
    let n : Read = record { tree = node (kind.Text xs) at none; told = nothing } in
    ap (λ j. run (joining f s n scope here (attach f s n (add (role f.head) nothing scope) here (t.Text y) (λ z sc. settle s z sc here (t.Text y)) (attached f.head n.tree)) j) (spells (texts ys) none (token ∷ rest)))
    (join-wanted (wanted f.head) l n.tree (t.Text y) m)
    ∙ texts-more (xs ++ y ∷ []) ys l f s scope at (suc here) token rest m
    ∙ ap (λ ws. run (settle (f ∷ s) (record { tree = node (kind.Text ws) at none; told = nothing }) scope (past_in (texts ys) none (suc here)) token) rest) (append_assoc xs (y ∷ []) ys)

fills-texts : (c : Class) (xs : List (List ℕ)) (scope : Scope) (at : ℕ) (n : Tree) (ns : Trees) → Fills c (texts xs) scope at (more n ns) → ⊥
fills-texts c [] scope at n ns h = h
fills-texts c (x ∷ xs) scope at n ns h = fills-texts c xs scope (suc at) n ns h

through-texts : (xs : List (List ℕ)) (scope : Scope) → through (texts xs) none scope ≡ scope
through-texts [] scope = refl
through-texts (x ∷ xs) scope = through-texts xs scope

reads-text : (xs : List (List ℕ)) (parts : Trees) → ReadsExpression (kind.Text xs) parts
unfolding step
reads-text xs (more n ns) l f s scope at token rest a g h m q = absurd (fills-texts (class.Expression l) xs scope at n ns h)
reads-text [] none l f s scope at token rest a g h m q = absurd (omega (arith, g))
reads-text (x ∷ xs) none l f s scope at token rest a g h m q =
    ap (λ b. run (opening (f ∷ s) scope at (t.Text x) b) (spells (texts xs) none (token ∷ rest))) (begin-wanted scope (wanted f.head) l (t.Text x) m refl)
    ∙ texts-more (x ∷ []) xs l f s scope at (suc at) token rest m
    ∙ ap (λ sc. run (settle (f ∷ s) (record { tree = node (kind.Text (x ∷ xs)) at none; told = nothing }) sc (past_in (texts xs) none (suc at)) token) rest) (sym (through-texts xs scope))

-- operators before their operand

unary-begins : (op : CUnary) (scope : Scope) (k : ℕ) → k ≤ 15 → begin_expression scope k (t.Mark (unary_sign op)) ≡ Pushes (head.UnaryOf op)
unary-begins unary.Address scope k h = ap (λ b. only_if b (Pushes (head.UnaryOf unary.Address))) (le_true k 15 h)
unary-begins unary.Deref scope k h = ap (λ b. only_if b (Pushes (head.UnaryOf unary.Deref))) (le_true k 15 h)
unary-begins unary.Plus scope k h = ap (λ b. only_if b (Pushes (head.UnaryOf unary.Plus))) (le_true k 15 h)
unary-begins unary.Minus scope k h = ap (λ b. only_if b (Pushes (head.UnaryOf unary.Minus))) (le_true k 15 h)
unary-begins unary.Complement scope k h = ap (λ b. only_if b (Pushes (head.UnaryOf unary.Complement))) (le_true k 15 h)
unary-begins unary.Not scope k h = ap (λ b. only_if b (Pushes (head.UnaryOf unary.Not))) (le_true k 15 h)

pre-begins : (minus : Bool) (scope : Scope) (k : ℕ) → k ≤ 15 → begin_expression scope k (t.Mark (step_sign minus)) ≡ Pushes (head.PreOf minus)
pre-begins true scope k h = ap (λ b. only_if b (Pushes (head.PreOf true))) (le_true k 15 h)
pre-begins false scope k h = ap (λ b. only_if b (Pushes (head.PreOf false))) (le_true k 15 h)

-- the same with the place where the expression is wanted
starts-pushes : (scope : Scope) (w : Class) (l : ℕ) (first : Terminal) (h : Head) → Meets w (class.Expression l) →
    begin_expression scope 1 first ≡ Pushes h → begin_expression scope (wanted_level w) first ≡ Pushes h → begin scope w first ≡ Pushes h
starts-pushes scope w l first h m e g = begin-wanted scope w l first m (ap Rattle.p9_grammar.specs.Machine.is_begun e) ∙ g

reads-unary : (op : CUnary) (parts : Trees) → Each Reads parts → ReadsExpression (kind.Unary op) parts
reads-unary op none z l f s scope at token rest a g h m q = absurd h
reads-unary op (more n none) z l f s scope at token rest a g h m q =
    let w : wanted_level (wanted f.head) ≤ 15 = omega (arith, a, level-below (wanted f.head) l m) in
    let d : low 14 token ≡ true = calm-low l 15 14 token q a (omega arith, inr (inl (omega arith))) in
    let o : Frame = fresh (head.UnaryOf op) at in
    reads-push f s scope at (t.Mark (unary_sign op)) (head.UnaryOf op) (spell n (token ∷ rest))
    (starts-pushes scope (wanted f.head) l (t.Mark (unary_sign op)) (head.UnaryOf op) m (unary-begins op scope 1 (omega arith)) (unary-begins op scope (wanted_level (wanted f.head)) w))
    ∙ opens-up o (f ∷ s) scope (suc at) (λ u. refl) (spell n (token ∷ rest))
    ∙ z.0 operand o (f ∷ s) scope (suc at) token rest h.0 (omega arith) (low-calm 14 token d)
    ∙ reads-apart o (f ∷ s) (read n scope) (after n scope) (past n (suc at)) token rest (low-apart 14 n token d)
reads-unary op (more n (more o ns)) z l f s scope at token rest a g h m q = absurd h.1

reads-pre : (minus : Bool) (parts : Trees) → Each Reads parts → ReadsExpression (kind.Pre minus) parts
reads-pre minus none z l f s scope at token rest a g h m q = absurd h
reads-pre minus (more n none) z l f s scope at token rest a g h m q =
    let w : wanted_level (wanted f.head) ≤ 15 = omega (arith, a, level-below (wanted f.head) l m) in
    let d : low 15 token ≡ true = calm-low l 15 15 token q a (omega arith, inr (inl (omega arith))) in
    let o : Frame = fresh (head.PreOf minus) at in
    reads-push f s scope at (t.Mark (step_sign minus)) (head.PreOf minus) (spell n (token ∷ rest))
    (starts-pushes scope (wanted f.head) l (t.Mark (step_sign minus)) (head.PreOf minus) m (pre-begins minus scope 1 (omega arith)) (pre-begins minus scope (wanted_level (wanted f.head)) w))
    ∙ opens-up o (f ∷ s) scope (suc at) (λ u. refl) (spell n (token ∷ rest))
    ∙ z.0 (class.Expression 15) o (f ∷ s) scope (suc at) token rest h.0 (omega arith) (low-calm 15 token d)
    ∙ reads-apart o (f ∷ s) (read n scope) (after n scope) (past n (suc at)) token rest (low-apart 15 n token d)
reads-pre minus (more n (more o ns)) z l f s scope at token rest a g h m q = absurd h.1

-- operators behind their first operand

binding-binary : (op : CBinary) → binding (binary_sign op) ≡ binary op
binding-binary operator.Mul = refl
binding-binary operator.Div = refl
binding-binary operator.Rem = refl
binding-binary operator.Add = refl
binding-binary operator.Sub = refl
binding-binary operator.Shl = refl
binding-binary operator.Shr = refl
binding-binary operator.Lt = refl
binding-binary operator.Gt = refl
binding-binary operator.Le = refl
binding-binary operator.Ge = refl
binding-binary operator.Eq = refl
binding-binary operator.Ne = refl
binding-binary operator.And = refl
binding-binary operator.Xor = refl
binding-binary operator.Or = refl
binding-binary operator.AndAnd = refl
binding-binary operator.OrOr = refl

binding-assigns : (op : Option CBinary) → is_assignable op ≡ true → binding (assignment_sign op) ≡ assigns op
binding-assigns None h = refl
binding-assigns (Some operator.Mul) h = refl
binding-assigns (Some operator.Div) h = refl
binding-assigns (Some operator.Rem) h = refl
binding-assigns (Some operator.Add) h = refl
binding-assigns (Some operator.Sub) h = refl
binding-assigns (Some operator.Shl) h = refl
binding-assigns (Some operator.Shr) h = refl
binding-assigns (Some operator.And) h = refl
binding-assigns (Some operator.Xor) h = refl
binding-assigns (Some operator.Or) h = refl
binding-assigns (Some _) h = absurd (false≢true h)

binds_most : (op : CBinary) → binds op ≤ 13
binds_most operator.Mul = omega arith
binds_most operator.Div = omega arith
binds_most operator.Rem = omega arith
binds_most operator.Add = omega arith
binds_most operator.Sub = omega arith
binds_most operator.Shl = omega arith
binds_most operator.Shr = omega arith
binds_most operator.Lt = omega arith
binds_most operator.Gt = omega arith
binds_most operator.Le = omega arith
binds_most operator.Ge = omega arith
binds_most operator.Eq = omega arith
binds_most operator.Ne = omega arith
binds_most operator.And = omega arith
binds_most operator.Xor = omega arith
binds_most operator.Or = omega arith
binds_most operator.AndAnd = omega arith
binds_most operator.OrOr = omega arith

-- the operator takes the operand before it
takes : (w : Class) (l level left : ℕ) (n : Tree) (p : Punctuator) (h : Head) → Meets w (class.Expression l) → binding p ≡ Binds level left (Joins h) → l ≤ level → left ≤ level_of n →
    join w n (t.Mark p) ≡ Joins h
takes w l level left n p h m e a g =
    join-wanted w l n (t.Mark p) m ∙ ap (join_at (wanted_level w) (level_of n)) e
    ∙ join-tight (wanted_level w) level left n (Joins h) (omega (arith, a, level-below w l m)) g

calm-sign : (level left : ℕ) (p : Punctuator) (j : Join) → binding p ≡ Binds level left j → calm left (t.Mark p) ≡ true
calm-sign level left p j e = ap (calm_at left) e ∙ calm-left level left j

reads-binary : (op : CBinary) (parts : Trees) → Each Reads parts → ReadsExpression (kind.Binary op) parts
reads-binary op none z l f s scope at token rest a g h m q = absurd h
reads-binary op (more n none) z l f s scope at token rest a g h m q = absurd h.1
reads-binary op (more n (more o none)) z l f s scope at token rest a g h m q =
    let d : low (suc (binds op)) token ≡ true = calm-low l (binds op) (suc (binds op)) token q a (omega (arith, binds_most op), inl (omega arith)) in
    let b : Frame = record { head = head.BinaryOf op; from = at; parts = more n none; told = told n scope } in
    z.0 (class.Expression (binds op)) f s scope at (t.Mark (binary_sign op)) (spell o (token ∷ rest)) h.0 (meets-tighter (wanted f.head) l (binds op) a m) (calm-sign (binds op) (binds op) (binary_sign op) _ (binding-binary op))
    ∙ reads-join f s n (class.Expression (binds op)) scope (after n scope) at (past n at) (t.Mark (binary_sign op)) (head.BinaryOf op) (spell o (token ∷ rest)) h.0
    (takes (wanted f.head) l (binds op) (binds op) n (binary_sign op) (head.BinaryOf op) m (binding-binary op) a (formed-level n (binds op) scope at h.0))
    ∙ opens-up b (f ∷ s) (after n scope) (suc (past n at)) (λ u. refl) (spell o (token ∷ rest))
    ∙ z.1.0 (class.Expression (suc (binds op))) b (f ∷ s) (after n scope) (suc (past n at)) token rest h.1.0 (omega arith) (low-calm (suc (binds op)) token d)
    ∙ reads-apart b (f ∷ s) (read o (after n scope)) (after o (after n scope)) (past o (suc (past n at))) token rest (low-apart (suc (binds op)) o token d)
reads-binary op (more n (more o (more p ns))) z l f s scope at token rest a g h m q = absurd h.1.1

reads-assign : (op : Option CBinary) (parts : Trees) → Each Reads parts → ReadsExpression (kind.Assign op) parts
reads-assign op none z l f s scope at token rest a g h m q = absurd h
reads-assign op (more n none) z l f s scope at token rest a g h m q = absurd h.1
reads-assign op (more n (more o none)) z l f s scope at token rest a g h m q =
    let d : low 2 token ≡ true = calm-low l 2 2 token q a (omega arith, inr (inr (omega arith, omega arith, omega arith))) in
    let b : Frame = record { head = head.AssignOf op; from = at; parts = more n none; told = told n scope } in
    z.0 (class.Expression 15) f s scope at (t.Mark (assignment_sign op)) (spell o (token ∷ rest)) h.0 (meets-tighter (wanted f.head) l 15 (omega (arith, a)) m) (calm-sign 2 15 (assignment_sign op) _ (binding-assigns op g))
    ∙ reads-join f s n (class.Expression 15) scope (after n scope) at (past n at) (t.Mark (assignment_sign op)) (head.AssignOf op) (spell o (token ∷ rest)) h.0
    (takes (wanted f.head) l 2 15 n (assignment_sign op) (head.AssignOf op) m (binding-assigns op g) a (formed-level n 15 scope at h.0))
    ∙ opens-up b (f ∷ s) (after n scope) (suc (past n at)) (λ u. refl) (spell o (token ∷ rest))
    ∙ z.1.0 assignment b (f ∷ s) (after n scope) (suc (past n at)) token rest h.1.0 (omega arith) (low-calm 2 token d)
    ∙ reads-apart b (f ∷ s) (read o (after n scope)) (after o (after n scope)) (past o (suc (past n at))) token rest (low-apart 2 o token d)
reads-assign op (more n (more o (more p ns))) z l f s scope at token rest a g h m q = absurd h.1.1

reads-comma : (parts : Trees) → Each Reads parts → ReadsExpression kind.Comma parts
reads-comma none z l f s scope at token rest a g h m q = absurd h
reads-comma (more n none) z l f s scope at token rest a g h m q = absurd h.1
reads-comma (more n (more o none)) z l f s scope at token rest a g h m q =
    let d : low 2 token ≡ true = calm-low l 1 2 token q a (omega arith, inl (omega arith)) in
    let b : Frame = record { head = head.CommaOf; from = at; parts = more n none; told = told n scope } in
    z.0 expression f s scope at (t.Mark mark.Comma) (spell o (token ∷ rest)) h.0 (meets-tighter (wanted f.head) l 1 a m) refl
    ∙ reads-join f s n expression scope (after n scope) at (past n at) (t.Mark mark.Comma) head.CommaOf (spell o (token ∷ rest)) h.0
    (takes (wanted f.head) l 1 1 n mark.Comma head.CommaOf m refl a (formed-level n 1 scope at h.0))
    ∙ opens-up b (f ∷ s) (after n scope) (suc (past n at)) (λ u. refl) (spell o (token ∷ rest))
    ∙ z.1.0 assignment b (f ∷ s) (after n scope) (suc (past n at)) token rest h.1.0 (omega arith) (low-calm 2 token d)
    ∙ reads-apart b (f ∷ s) (read o (after n scope)) (after o (after n scope)) (past o (suc (past n at))) token rest (low-apart 2 o token d)
reads-comma (more n (more o (more p ns))) z l f s scope at token rest a g h m q = absurd h.1.1

reads-choose : (parts : Trees) → Each Reads parts → ReadsExpression kind.Choose parts
unfolding step
reads-choose none z l f s scope at token rest a g h m q = absurd h
reads-choose (more n none) z l f s scope at token rest a g h m q = absurd h.1
reads-choose (more n (more o none)) z l f s scope at token rest a g h m q = absurd h.1.1
reads-choose (more n (more o (more p none))) z l f s scope at token rest a g h m q =
    let d : low 3 token ≡ true = calm-low l 3 3 token q a (omega arith, inr (inr (omega arith, omega arith, omega arith))) in
    let b : Frame = record { head = head.ChooseYes; from = at; parts = more n none; told = told n scope } in
    let c : Frame = record { head = head.ChooseNo; from = at; parts = more n (more o none); told = told n scope } in
    z.0 (class.Expression 4) f s scope at (t.Mark mark.Question) (spell o (t.Mark mark.Colon ∷ spell p (token ∷ rest))) h.0 (meets-tighter (wanted f.head) l 4 (omega (arith, a)) m) refl
    ∙ reads-join f s n (class.Expression 4) scope (after n scope) at (past n at) (t.Mark mark.Question) head.ChooseYes (spell o (t.Mark mark.Colon ∷ spell p (token ∷ rest))) h.0
    (takes (wanted f.head) l 3 4 n mark.Question head.ChooseYes m refl a (formed-level n 4 scope at h.0))
    ∙ opens-up b (f ∷ s) (after n scope) (suc (past n at)) (λ u. refl) (spell o (t.Mark mark.Colon ∷ spell p (token ∷ rest)))
    ∙ z.1.0 expression b (f ∷ s) (after n scope) (suc (past n at)) (t.Mark mark.Colon) (spell p (token ∷ rest)) h.1.0 (omega arith) refl
    ∙ opens-up c (f ∷ s) (after o (after n scope)) (suc (past o (suc (past n at)))) (λ u. refl) (spell p (token ∷ rest))
    ∙ z.1.1.0 conditional c (f ∷ s) (after o (after n scope)) (suc (past o (suc (past n at)))) token rest h.1.1.0 (omega arith) (low-calm 3 token d)
    ∙ reads-apart c (f ∷ s) (read p (after o (after n scope))) (after p (after o (after n scope))) (past p (suc (past o (suc (past n at))))) token rest (low-apart 3 p token d)
reads-choose (more n (more o (more p (more r ns)))) z l f s scope at token rest a g h m q = absurd h.1.1.1

-- what follows an operand

reads-index : (parts : Trees) → Each Reads parts → ReadsExpression kind.Index parts
unfolding step
reads-index none z l f s scope at token rest a g h m q = absurd h
reads-index (more n none) z l f s scope at token rest a g h m q = absurd h.1
reads-index (more n (more o none)) z l f s scope at token rest a g h m q =
    let b : Frame = record { head = head.IndexOf; from = at; parts = more n none; told = told n scope } in
    z.0 (class.Expression 16) f s scope at (t.Mark mark.OpenBracket) (spell o (t.Mark mark.CloseBracket ∷ token ∷ rest)) h.0 (meets-tighter (wanted f.head) l 16 a m) refl
    ∙ reads-join f s n (class.Expression 16) scope (after n scope) at (past n at) (t.Mark mark.OpenBracket) head.IndexOf (spell o (t.Mark mark.CloseBracket ∷ token ∷ rest)) h.0
    (takes (wanted f.head) l 16 16 n mark.OpenBracket head.IndexOf m refl a (formed-level n 16 scope at h.0))
    ∙ opens-up b (f ∷ s) (after n scope) (suc (past n at)) (λ u. refl) (spell o (t.Mark mark.CloseBracket ∷ token ∷ rest))
    ∙ z.1.0 expression b (f ∷ s) (after n scope) (suc (past n at)) (t.Mark mark.CloseBracket) (token ∷ rest) h.1.0 (omega arith) refl
reads-index (more n (more o (more p ns))) z l f s scope at token rest a g h m q = absurd h.1.1

dot-binds : (arrow : Bool) → binding (dot_sign arrow) ≡ Binds 16 16 (Joins (head.DotOf arrow))
dot-binds true = refl
dot-binds false = refl

reads-dot : (arrow : Bool) (x : List ℕ) (parts : Trees) → Each Reads parts → ReadsExpression (kind.Dot arrow x) parts
unfolding step
reads-dot arrow x none z l f s scope at token rest a g h m q = absurd h
reads-dot arrow x (more n none) z l f s scope at token rest a g h m q =
    z.0 (class.Expression 16) f s scope at (t.Mark (dot_sign arrow)) (t.Name x ∷ token ∷ rest) h.0 (meets-tighter (wanted f.head) l 16 a m) (calm-sign 16 16 (dot_sign arrow) _ (dot-binds arrow))
    ∙ reads-join f s n (class.Expression 16) scope (after n scope) at (past n at) (t.Mark (dot_sign arrow)) (head.DotOf arrow) (t.Name x ∷ token ∷ rest) h.0
    (takes (wanted f.head) l 16 16 n (dot_sign arrow) (head.DotOf arrow) m (dot-binds arrow) a (formed-level n 16 scope at h.0))
reads-dot arrow x (more n (more o ns)) z l f s scope at token rest a g h m q = absurd h.1

post-binds : (minus : Bool) → binding (step_sign minus) ≡ Binds 16 16 (Posts (kind.Post minus))
post-binds true = refl
post-binds false = refl

reads-post : (minus : Bool) (parts : Trees) → Each Reads parts → ReadsExpression (kind.Post minus) parts
unfolding step
reads-post minus none z l f s scope at token rest a g h m q = absurd h
reads-post minus (more n none) z l f s scope at token rest a g h m q =
    let tok : Terminal = t.Mark (step_sign minus) in
    z.0 (class.Expression 16) f s scope at tok (token ∷ rest) h.0 (meets-tighter (wanted f.head) l 16 a m) (calm-sign 16 16 (step_sign minus) _ (post-binds minus))
    ∙ ap (λ j. run (joining f s (read n scope) (after n scope) (past n at)
    (attach f s (read n scope) (add (role f.head) (told n scope) (after n scope)) (past n at) tok (λ u sc. settle s u sc (past n at) tok) (attached f.head n)) j) (token ∷ rest))
    (join-wanted (wanted f.head) l n tok m ∙ ap (join_at (wanted_level (wanted f.head)) (level_of n)) (post-binds minus)
    ∙ join-tight (wanted_level (wanted f.head)) 16 16 n (Posts (kind.Post minus)) (omega (arith, a, level-below (wanted f.head) l m)) (formed-level n 16 scope at h.0))
    ∙ ap (λ x. run (settle (f ∷ s) (record { tree = node (kind.Post minus) x (more n none); told = nothing }) (after n scope) (suc (past n at)) token) rest) (formed-start (class.Expression 16) n scope at h.0)
reads-post minus (more n (more o ns)) z l f s scope at token rest a g h m q = absurd h.1

-- calls

-- what comes behind an argument
abbrev call_on : ℕ → Told → Frame → Stack → Trees → Scope → ℕ → List Terminal → Option State
call_on from told f s acc scope at [] = None
call_on from told f s acc scope at (token ∷ ts) =
    run (resolve (record { head = head.CallNext; from = from; parts = acc; told = told }) (f ∷ s) scope at token (λ m sc. settle (f ∷ s) m sc at token) (move scope head.CallNext token)) ts

arguments : (ns : Trees) → Each Reads ns → (c : Class) (from : ℕ) (told : Told) (f : Frame) (s : Stack) (acc : Trees) (scope : Scope) (at : ℕ) (token : Terminal) (rest : List Terminal) →
    Fills c (later (count ns) (part assignment) ++ (sign mark.CloseParen ∷ [])) scope at ns →
    call_on from told f s acc scope at (spells (later (count ns) (part assignment) ++ (sign mark.CloseParen ∷ [])) ns (token ∷ rest))
    ≡ run (settle (f ∷ s) (record { tree = node kind.Call from (append acc ns); told = nothing })
    (through (later (count ns) (part assignment) ++ (sign mark.CloseParen ∷ [])) ns scope)
    (past_in (later (count ns) (part assignment) ++ (sign mark.CloseParen ∷ [])) ns at) token) rest
unfolding step
arguments none z c from told f s acc scope at token rest h =
    ap (λ ps. run (settle (f ∷ s) (record { tree = node kind.Call from ps; told = nothing }) scope (suc at) token) rest) (sym (append-none acc))
arguments (more n none) z c from told f s acc scope at token rest h =
    let o : Frame = record { head = head.CallMore; from = from; parts = acc; told = told } in
    opens-up o (f ∷ s) scope (suc at) (λ u. refl) (spell n (t.Mark mark.CloseParen ∷ token ∷ rest))
    ∙ z.0 assignment o (f ∷ s) scope (suc at) (t.Mark mark.CloseParen) (token ∷ rest) h.0 (omega arith) refl
    ∙ arguments none z.1 c from told f s (push acc n) (after n scope) (past n (suc at)) token rest h.1
    ∙ ap (λ ps. run (settle (f ∷ s) (record { tree = node kind.Call from ps; told = nothing }) (after n scope) (suc (past n (suc at))) token) rest) (append-push acc n none)
arguments (more n (more p ps)) z c from told f s acc scope at token rest h =
    let o : Frame = record { head = head.CallMore; from = from; parts = acc; told = told } in
    let ts : List Terminal = spells (part assignment ∷ (later (count ps) (part assignment) ++ (sign mark.CloseParen ∷ []))) (more p ps) (token ∷ rest) in
    opens-up o (f ∷ s) scope (suc at) (λ u. refl) (spell n (t.Mark mark.Comma ∷ ts))
    ∙ z.0 assignment o (f ∷ s) scope (suc at) (t.Mark mark.Comma) ts h.0 (omega arith) refl
    ∙ arguments (more p ps) z.1 c from told f s (push acc n) (after n scope) (past n (suc at)) token rest h.1
    ∙ ap (λ qs. run (settle (f ∷ s) (record { tree = node kind.Call from qs; told = nothing })
    (through (later (count (more p ps)) (part assignment) ++ (sign mark.CloseParen ∷ [])) (more p ps) (after n scope))
    (past_in (later (count (more p ps)) (part assignment) ++ (sign mark.CloseParen ∷ [])) (more p ps) (past n (suc at))) token) rest) (append-push acc n (more p ps))

-- The first token of a part shows which part it is.
pub opens-first : (p : Terminal → Bool) (o : Frame) (s : Stack) (f : Frame) (s' : Stack) (scope scope' : Scope) (at : ℕ) (ts : List Terminal) → First p ts →
    ((token : Terminal) → p token ≡ true → going (o ∷ s) scope at token ≡ opening (f ∷ s') scope' at token (begin scope' (wanted f.head) token)) →
    run (Some (state (o ∷ s) scope at None)) ts ≡ opened f s' scope' at ts
unfolding step
opens-first p o s f s' scope scope' at ts q g =
    ap (run (Some (state (o ∷ s) scope at None))) q.2 ∙ ap (λ r. run r q.1) (g q.0 q.3) ∙ ap (opened f s' scope' at) (sym q.2)

call-opens : (scope : Scope) (token : Terminal) → starts_expression scope token ≡ true → paren_or (Ends kind.Call) (Opens head.CallStart) token ≡ Opens head.CallStart
call-opens scope (t.Mark mark.CloseParen) h = absurd (false≢true h)
call-opens scope _ h = refl

call-first : (n o : Tree) (f : Frame) (s : Stack) (scope sc : Scope) (at here : ℕ) (ts : List Terminal) → Formed assignment sc here o →
    run (Some (state (record { head = head.CallStart; from = at; parts = more n none; told = told n scope } ∷ f ∷ s) sc here None)) (spell o ts)
    ≡ opened (record { head = head.CallStart; from = at; parts = more n none; told = told n scope }) (f ∷ s) sc here (spell o ts)
call-first n o f s scope sc at here ts h =
    let b : Frame = record { head = head.CallStart; from = at; parts = more n none; told = told n scope } in
    opens-first (starts_expression sc) b (f ∷ s) b (f ∷ s) sc sc here (spell o ts) (first-expression o 2 sc here ts h)
    (λ u v. ap (λ y. resolve b (f ∷ s) sc here u (λ x sd. settle (f ∷ s) x sd here u) y) (call-opens sc u v))

reads-call : (parts : Trees) → Each Reads parts → ReadsExpression kind.Call parts
unfolding step
reads-call none z l f s scope at token rest a g h m q = absurd h
reads-call (more n none) z l f s scope at token rest a g h m q =
    z.0 (class.Expression 16) f s scope at (t.Mark mark.OpenParen) (t.Mark mark.CloseParen ∷ token ∷ rest) h.0 (meets-tighter (wanted f.head) l 16 a m) refl
    ∙ reads-join f s n (class.Expression 16) scope (after n scope) at (past n at) (t.Mark mark.OpenParen) head.CallStart (t.Mark mark.CloseParen ∷ token ∷ rest) h.0
    (takes (wanted f.head) l 16 16 n mark.OpenParen head.CallStart m refl a (formed-level n 16 scope at h.0))
reads-call (more n (more o none)) z l f s scope at token rest a g h m q =
    let b : Frame = record { head = head.CallStart; from = at; parts = more n none; told = told n scope } in
    let ts : List Terminal = t.Mark mark.CloseParen ∷ token ∷ rest in
    z.0 (class.Expression 16) f s scope at (t.Mark mark.OpenParen) (spell o ts) h.0 (meets-tighter (wanted f.head) l 16 a m) refl
    ∙ reads-join f s n (class.Expression 16) scope (after n scope) at (past n at) (t.Mark mark.OpenParen) head.CallStart (spell o ts) h.0
    (takes (wanted f.head) l 16 16 n mark.OpenParen head.CallStart m refl a (formed-level n 16 scope at h.0))
    ∙ call-first n o f s scope (after n scope) at (suc (past n at)) ts h.1.0
    ∙ z.1.0 assignment b (f ∷ s) (after n scope) (suc (past n at)) (t.Mark mark.CloseParen) (token ∷ rest) h.1.0 (omega arith) refl
reads-call (more n (more o (more p ns))) z l f s scope at token rest a g h m q =
    let b : Frame = record { head = head.CallStart; from = at; parts = more n none; told = told n scope } in
    let us : List Terminal = spells (part assignment ∷ (later (count ns) (part assignment) ++ (sign mark.CloseParen ∷ []))) (more p ns) (token ∷ rest) in
    let ts : List Terminal = t.Mark mark.Comma ∷ us in
    z.0 (class.Expression 16) f s scope at (t.Mark mark.OpenParen) (spell o ts) h.0 (meets-tighter (wanted f.head) l 16 a m) refl
    ∙ reads-join f s n (class.Expression 16) scope (after n scope) at (past n at) (t.Mark mark.OpenParen) head.CallStart (spell o ts) h.0
    (takes (wanted f.head) l 16 16 n mark.OpenParen head.CallStart m refl a (formed-level n 16 scope at h.0))
    ∙ call-first n o f s scope (after n scope) at (suc (past n at)) ts h.1.0
    ∙ z.1.0 assignment b (f ∷ s) (after n scope) (suc (past n at)) (t.Mark mark.Comma) us h.1.0 (omega arith) refl
    ∙ arguments (more p ns) z.1.1 (class.Expression l) at (told n scope) f s (more n (more o none)) (after o (after n scope)) (past o (suc (past n at))) token rest h.1.1

-- Parentheses: an expression, or a type

pub no-type : (scope : Scope) (token : Terminal) → starts_expression scope token ≡ true → begins_type scope token ≡ false
no-type scope (t.Key key.Sizeof) h = refl
no-type scope (t.Key _) h = absurd (false≢true h)
no-type scope (t.Name x) h =
    ap (λ b. Rattle.p9_grammar.specs.Machine.is_begun (begin_by (shift_if (b && may_follow false [] (word.TypeName x)) (head.Spec context.Type (word.TypeName x ∷ [])) Refused))) (not_type (is_type scope x) h)
  where
    not_type : (b : Bool) → Rattle.p9_grammar.specs.Machine.is_begun (only_if (not b) (Leaf (kind.Name x))) ≡ true → b ≡ false
    not_type true h = absurd (false≢true h)
    not_type false h = refl
no-type scope _ h = refl

pub first-type : (n : Tree) (scope : Scope) (at : ℕ) (rest : List Terminal) → Formed class.Type scope at n → First (starts_spec context.Type scope) (spell n rest)
first-type (node (kind.NamedType sp) token parts) scope at rest f = first-spec context.Type scope sp.words _ parts rest f.3
first-type (node _ token parts) scope at rest f = absurd f.1

paren-begins : (scope : Scope) (w : Class) (l : ℕ) → Meets w (class.Expression l) → begin scope w (t.Mark mark.OpenParen) ≡ Pushes (head.Opened (wanted_level w))
paren-begins scope w l m = begin-wanted scope w l (t.Mark mark.OpenParen) m refl

group-opens : (k : ℕ) (s : Stack) (scope : Scope) (at from : ℕ) (ts : List Terminal) → First (starts_expression scope) ts →
    run (Some (state (fresh (head.Opened k) from ∷ s) scope at None)) ts ≡ opened (fresh head.Group from) s scope at ts
group-opens k s scope at from ts h =
    opens-first (starts_expression scope) (fresh (head.Opened k) from) s (fresh head.Group from) s scope scope at ts h
    (λ u v. ap (λ b. Rattle.p9_grammar.specs.Machine.fed (state (moved (fresh (head.Opened k) from) (choose (b && nat_le k 14) head.CastType head.Group) ∷ s) scope at None) u) (no-type scope u v))

reads-parens : (parts : Trees) → Each Reads parts → ReadsExpression kind.Parens parts
unfolding step
reads-parens none z l f s scope at token rest a g h m q = absurd h
reads-parens (more n none) z l f s scope at token rest a g h m q =
    let ts : List Terminal = t.Mark mark.CloseParen ∷ token ∷ rest in
    reads-push f s scope at (t.Mark mark.OpenParen) (head.Opened (wanted_level (wanted f.head))) (spell n ts) (paren-begins scope (wanted f.head) l m)
    ∙ group-opens (wanted_level (wanted f.head)) (f ∷ s) scope (suc at) at (spell n ts) (first-expression n 1 scope (suc at) ts h.0)
    ∙ z.0 expression (fresh head.Group at) (f ∷ s) scope (suc at) (t.Mark mark.CloseParen) (token ∷ rest) h.0 (omega arith) refl
reads-parens (more n (more o ns)) z l f s scope at token rest a g h m q = absurd h.1

cast-opens : (k : ℕ) (s : Stack) (scope : Scope) (at from : ℕ) (ts : List Terminal) → k ≤ 14 → First (starts_spec context.Type scope) ts →
    run (Some (state (fresh (head.Opened k) from ∷ s) scope at None)) ts ≡ opened (fresh head.CastType from) s scope at ts
cast-opens k s scope at from ts g h =
    opens-first (starts_spec context.Type scope) (fresh (head.Opened k) from) s (fresh head.CastType from) s scope scope at ts h
    (λ u v. ap (λ b. Rattle.p9_grammar.specs.Machine.fed (state (moved (fresh (head.Opened k) from) (choose (b && nat_le k 14) head.CastType head.Group) ∷ s) scope at None) u) v
    ∙ ap (λ b. Rattle.p9_grammar.specs.Machine.fed (state (moved (fresh (head.Opened k) from) (choose b head.CastType head.Group) ∷ s) scope at None) u) (le_true k 14 g))

reads-cast : (parts : Trees) → Each Reads parts → ReadsExpression kind.Cast parts
unfolding step
reads-cast none z l f s scope at token rest a g h m q = absurd h
reads-cast (more n none) z l f s scope at token rest a g h m q = absurd h.1
reads-cast (more n (more o none)) z l f s scope at token rest a g h m q =
    let d : low 14 token ≡ true = calm-low l 14 14 token q a (omega arith, inr (inl (omega arith))) in
    let ts : List Terminal = t.Mark mark.CloseParen ∷ spell o (token ∷ rest) in
    let b : Frame = record { head = head.CastOf; from = at; parts = more n none; told = nothing } in
    reads-push f s scope at (t.Mark mark.OpenParen) (head.Opened (wanted_level (wanted f.head))) (spell n ts) (paren-begins scope (wanted f.head) l m)
    ∙ cast-opens (wanted_level (wanted f.head)) (f ∷ s) scope (suc at) at (spell n ts) (omega (arith, a, level-below (wanted f.head) l m)) (first-type n scope (suc at) ts h.0)
    ∙ z.0 class.Type (fresh head.CastType at) (f ∷ s) scope (suc at) (t.Mark mark.CloseParen) (spell o (token ∷ rest)) h.0 tt refl
    ∙ opens-up b (f ∷ s) (after n scope) (suc (past n (suc at))) (λ u. refl) (spell o (token ∷ rest))
    ∙ z.1.0 operand b (f ∷ s) (after n scope) (suc (past n (suc at))) token rest h.1.0 (omega arith) (low-calm 14 token d)
    ∙ reads-apart b (f ∷ s) (read o (after n scope)) (after o (after n scope)) (past o (suc (past n (suc at)))) token rest (low-apart 14 o token d)
reads-cast (more n (more o (more p ns))) z l f s scope at token rest a g h m q = absurd h.1.1

-- sizeof

sizeof-begins : (scope : Scope) (k : ℕ) → k ≤ 15 → begin_expression scope k (t.Key key.Sizeof) ≡ Pushes head.SizeofStart
sizeof-begins scope k h = ap (λ b. only_if b (Pushes head.SizeofStart)) (le_true k 15 h)

mutual
  unfolding step

  sizeof-opens : (n : Tree) (l : ℕ) (from : ℕ) (s : Stack) (scope : Scope) (at start : ℕ) (rest : List Terminal) → 15 ≤ l → Formed (class.Expression l) scope start n →
      run (Some (state (fresh head.SizeofStart from ∷ s) scope at None)) (spell n rest) ≡ opened (fresh head.SizeofOf from) s scope at (spell n rest)
  sizeof-opens (node k token parts) l from s scope at start rest w h = sizeof-opens_in k parts l from s scope at start rest w h.1 h.3 h.4

  sizeof-opens_in : (k : Kind) (parts : Trees) (l : ℕ) (from : ℕ) (s : Stack) (scope : Scope) (at start : ℕ) (rest : List Terminal) → 15 ≤ l →
      Accepts (class.Expression l) (sort k) → Asks scope k (count parts) → Fills (class.Expression l) (right_side k (count parts)) scope start parts →
      run (Some (state (fresh head.SizeofStart from ∷ s) scope at None)) (spells (right_side k (count parts)) parts rest)
      ≡ opened (fresh head.SizeofOf from) s scope at (spells (right_side k (count parts)) parts rest)
  sizeof-opens_in kind.Index none l from s scope at start rest w a g h = absurd h
  sizeof-opens_in kind.Index (more n ns) l from s scope at start rest w a g h = sizeof-opens n 16 from s scope at start _ (omega arith) h.0
  sizeof-opens_in kind.Call none l from s scope at start rest w a g h = absurd h
  sizeof-opens_in kind.Call (more n ns) l from s scope at start rest w a g h = sizeof-opens n 16 from s scope at start _ (omega arith) h.0
  sizeof-opens_in (kind.Dot arrow x) none l from s scope at start rest w a g h = absurd h
  sizeof-opens_in (kind.Dot arrow x) (more n ns) l from s scope at start rest w a g h = sizeof-opens n 16 from s scope at start _ (omega arith) h.0
  sizeof-opens_in (kind.Post minus) none l from s scope at start rest w a g h = absurd h
  sizeof-opens_in (kind.Post minus) (more n ns) l from s scope at start rest w a g h = sizeof-opens n 16 from s scope at start _ (omega arith) h.0
  sizeof-opens_in (kind.Pre true) parts l from s scope at start rest w a g h = refl
  sizeof-opens_in (kind.Pre false) parts l from s scope at start rest w a g h = refl
  sizeof-opens_in (kind.Unary unary.Address) parts l from s scope at start rest w a g h = refl
  sizeof-opens_in (kind.Unary unary.Deref) parts l from s scope at start rest w a g h = refl
  sizeof-opens_in (kind.Unary unary.Plus) parts l from s scope at start rest w a g h = refl
  sizeof-opens_in (kind.Unary unary.Minus) parts l from s scope at start rest w a g h = refl
  sizeof-opens_in (kind.Unary unary.Complement) parts l from s scope at start rest w a g h = refl
  sizeof-opens_in (kind.Unary unary.Not) parts l from s scope at start rest w a g h = refl
  sizeof-opens_in kind.SizeofValue parts l from s scope at start rest w a g h = refl
  sizeof-opens_in kind.SizeofType parts l from s scope at start rest w a g h = refl
  sizeof-opens_in kind.Cast parts l from s scope at start rest w a g h = absurd (omega (arith, w, a))
  sizeof-opens_in (kind.Binary op) parts l from s scope at start rest w a g h = absurd (omega (arith, w, a, binds_most op))
  sizeof-opens_in kind.Choose parts l from s scope at start rest w a g h = absurd (omega (arith, w, a))
  sizeof-opens_in (kind.Assign op) parts l from s scope at start rest w a g h = absurd (omega (arith, w, a))
  sizeof-opens_in kind.Comma parts l from s scope at start rest w a g h = absurd (omega (arith, w, a))
  sizeof-opens_in kind.Parens none l from s scope at start rest w a g h = absurd h
  sizeof-opens_in kind.Parens (more n ns) l from s scope at start rest w a g h =
      let ts : List Terminal = spells (sign mark.CloseParen ∷ []) ns rest in
      let p = first-expression n 1 scope (suc start) ts h.0 in
      opens-first (starts_expression scope) (fresh head.SizeofOpen from) s (fresh head.Group at) (fresh head.SizeofOf from ∷ s) scope scope (suc at) (spell n ts) p
      (λ u v. ap (λ b. Rattle.p9_grammar.specs.Machine.fed (state (choose b (fresh head.SizeofType from ∷ s) (fresh head.Group at ∷ fresh head.SizeofOf from ∷ s)) scope (suc at) None) u) (no-type scope u v))
      ∙ sym (group-opens 15 (fresh head.SizeofOf from ∷ s) scope (suc at) at (spell n ts) p)
  sizeof-opens_in (kind.Name x) parts l from s scope at start rest w a g h = refl
  sizeof-opens_in (kind.Number value unsigned long) parts l from s scope at start rest w a g h = refl
  sizeof-opens_in (kind.Character value) parts l from s scope at start rest w a g h = refl
  sizeof-opens_in (kind.Text []) parts l from s scope at start rest w a g h = absurd (omega (arith, g))
  sizeof-opens_in (kind.Text (x ∷ xs)) parts l from s scope at start rest w a g h = refl
  sizeof-opens_in _ parts l from s scope at start rest w a g h = absurd a

reads-sizeof_value : (parts : Trees) → Each Reads parts → ReadsExpression kind.SizeofValue parts
reads-sizeof_value none z l f s scope at token rest a g h m q = absurd h
reads-sizeof_value (more n none) z l f s scope at token rest a g h m q =
    let d : low 15 token ≡ true = calm-low l 15 15 token q a (omega arith, inr (inl (omega arith))) in
    let o : Frame = fresh head.SizeofOf at in
    reads-push f s scope at (t.Key key.Sizeof) head.SizeofStart (spell n (token ∷ rest))
    (starts-pushes scope (wanted f.head) l (t.Key key.Sizeof) head.SizeofStart m (sizeof-begins scope 1 (omega arith))
    (sizeof-begins scope (wanted_level (wanted f.head)) (omega (arith, a, level-below (wanted f.head) l m))))
    ∙ sizeof-opens n 15 at (f ∷ s) scope (suc at) (suc at) (token ∷ rest) (omega arith) h.0
    ∙ z.0 (class.Expression 15) o (f ∷ s) scope (suc at) token rest h.0 (omega arith) (low-calm 15 token d)
    ∙ reads-apart o (f ∷ s) (read n scope) (after n scope) (past n (suc at)) token rest (low-apart 15 n token d)
reads-sizeof_value (more n (more o ns)) z l f s scope at token rest a g h m q = absurd h.1

reads-sizeof_type : (parts : Trees) → Each Reads parts → ReadsExpression kind.SizeofType parts
unfolding step
reads-sizeof_type none z l f s scope at token rest a g h m q = absurd h
reads-sizeof_type (more n none) z l f s scope at token rest a g h m q =
    let ts : List Terminal = t.Mark mark.CloseParen ∷ token ∷ rest in
    reads-push f s scope at (t.Key key.Sizeof) head.SizeofStart (t.Mark mark.OpenParen ∷ spell n ts)
    (starts-pushes scope (wanted f.head) l (t.Key key.Sizeof) head.SizeofStart m (sizeof-begins scope 1 (omega arith))
    (sizeof-begins scope (wanted_level (wanted f.head)) (omega (arith, a, level-below (wanted f.head) l m))))
    ∙ opens-first (starts_spec context.Type scope) (fresh head.SizeofOpen at) (f ∷ s) (fresh head.SizeofType at) (f ∷ s) scope scope (suc (suc at)) (spell n ts)
    (first-type n scope (suc (suc at)) ts h.0)
    (λ u v. ap (λ b. Rattle.p9_grammar.specs.Machine.fed (state (choose b (fresh head.SizeofType at ∷ f ∷ s) (fresh head.Group (suc at) ∷ fresh head.SizeofOf at ∷ f ∷ s)) scope (suc (suc at)) None) u) v)
    ∙ z.0 class.Type (fresh head.SizeofType at) (f ∷ s) scope (suc (suc at)) (t.Mark mark.CloseParen) (token ∷ rest) h.0 tt refl
reads-sizeof_type (more n (more o ns)) z l f s scope at token rest a g h m q = absurd h.1

-- every expression
pub reads-expression : (k : Kind) (parts : Trees) → Each Reads parts → ReadsExpression k parts
reads-expression kind.Index parts z l f s scope at token rest a g h m q = reads-index parts z l f s scope at token rest a g h m q
reads-expression kind.Call parts z l f s scope at token rest a g h m q = reads-call parts z l f s scope at token rest a g h m q
reads-expression (kind.Dot arrow x) parts z l f s scope at token rest a g h m q = reads-dot arrow x parts z l f s scope at token rest a g h m q
reads-expression (kind.Post minus) parts z l f s scope at token rest a g h m q = reads-post minus parts z l f s scope at token rest a g h m q
reads-expression (kind.Pre minus) parts z l f s scope at token rest a g h m q = reads-pre minus parts z l f s scope at token rest a g h m q
reads-expression (kind.Unary op) parts z l f s scope at token rest a g h m q = reads-unary op parts z l f s scope at token rest a g h m q
reads-expression kind.SizeofValue parts z l f s scope at token rest a g h m q = reads-sizeof_value parts z l f s scope at token rest a g h m q
reads-expression kind.SizeofType parts z l f s scope at token rest a g h m q = reads-sizeof_type parts z l f s scope at token rest a g h m q
reads-expression kind.Cast parts z l f s scope at token rest a g h m q = reads-cast parts z l f s scope at token rest a g h m q
reads-expression (kind.Binary op) parts z l f s scope at token rest a g h m q = reads-binary op parts z l f s scope at token rest a g h m q
reads-expression kind.Choose parts z l f s scope at token rest a g h m q = reads-choose parts z l f s scope at token rest a g h m q
reads-expression (kind.Assign op) parts z l f s scope at token rest a g h m q = reads-assign op parts z l f s scope at token rest a g h m q
reads-expression kind.Comma parts z l f s scope at token rest a g h m q = reads-comma parts z l f s scope at token rest a g h m q
reads-expression kind.Parens parts z l f s scope at token rest a g h m q = reads-parens parts z l f s scope at token rest a g h m q
reads-expression (kind.Name x) parts z l f s scope at token rest a g h m q = reads-name x parts l f s scope at token rest a g h m q
reads-expression (kind.Number v unsigned long) parts z l f s scope at token rest a g h m q = reads-number v unsigned long parts l f s scope at token rest a g h m q
reads-expression (kind.Character v) parts z l f s scope at token rest a g h m q = reads-character v parts l f s scope at token rest a g h m q
reads-expression (kind.Text xs) parts z l f s scope at token rest a g h m q = reads-text xs parts l f s scope at token rest a g h m q
reads-expression _ parts z l f s scope at token rest a g h m q = absurd a
