-- How parts begin, and how a token takes the part before it.
use Rattle.std.proofs.Common.{◌≡◌, ℕ, zero, suc, ◌+◌, ◌-◌, ◌≤◌, ◌<◌, nat_le, Bool, true, false, ◌||◌, ◌&&◌, ◌⊎◌, inl, inr, not, List, [], ◌∷◌, ◌++◌, length, length-append, Option, Some, None, refl, sym, ap, subst, ◌∙◌, arith, ⊎_elim, append_assoc, append-nil, map}
use Rattle.std.specs.Prelude.{⊤}
use Rattle.std.proofs.lemmas.Bool.{false≢true, and_parts, not-true}
use Rattle.p9_lang.specs.declared.tree.CBinary.{CBinary}
use Rattle.p9_lang.specs.declared.tree.CBinary.TheVariants as operator
use Rattle.p9_lang.specs.declared.tree.CUnary.{CUnary}
use Rattle.p9_lang.specs.declared.tree.CUnary.TheVariants as unary
use Rattle.p9_lang.specs.declared.tree.EntryBy.{EntryBy}
use Rattle.p9_lang.specs.declared.tree.EntryBy.TheVariants as by
use Rattle.p9_lang.specs.declared.tree.SpecWord.{SpecWord}
use Rattle.p9_lang.specs.declared.tree.SpecWord.TheVariants as word
use Rattle.p9_lang.specs.declared.tree.Kind.{Kind}
use Rattle.p9_lang.specs.declared.tree.Kind.TheVariants as kind
use Rattle.p9_grammar.specs.declared.terminal.Keyword.{Keyword}
use Rattle.p9_grammar.specs.declared.terminal.Keyword.TheVariants as key
use Rattle.p9_grammar.specs.declared.terminal.Punctuator.{Punctuator}
use Rattle.p9_grammar.specs.declared.terminal.Punctuator.TheVariants as mark
use Rattle.p9_grammar.specs.declared.terminal.Terminal.{Terminal}
use Rattle.p9_grammar.specs.declared.terminal.Terminal.TheVariants as t
use Rattle.p9_grammar.specs.declared.head.Context.{Context}
use Rattle.p9_grammar.specs.declared.head.Context.TheVariants as context
use Rattle.p9_grammar.specs.declared.head.Naming.{Naming}
use Rattle.p9_grammar.specs.declared.head.Naming.TheVariants as naming
use Rattle.p9_grammar.specs.declared.head.Class.{Class}
use Rattle.p9_grammar.specs.declared.head.Class.TheVariants as class
use Rattle.p9_grammar.specs.declared.head.Head.{Head}
use Rattle.p9_grammar.specs.declared.head.Head.TheVariants as head
use Rattle.p9_grammar.specs.Trees.{Tree, node, Trees, none, more, count, push}
use Rattle.p9_grammar.specs.Symbols.{Symbol, Write, Part, Enter, Slot, Of, Last, Pointed, Direct, Grouped, Role, Plain, Declares, Begins, part, sign, keyword, right_side, binds, binary_sign, unary_sign, assignment_sign, step_sign, dot_sign, expression, assignment, conditional, operand, later, listed, many, optional, at_most_one, branches, texts, spec_symbols, word_symbols, spec_parts, is_typedef, declarator, declarator_of, declarators, later_declarators, initialiser, qualifier, inner_declarator, parameters, parameter_list, behind, entry_place, named, in_braces, tag_key}
use Rattle.p9_grammar.specs.Scopes.{Scope, Level, is_type, after, told, told_first, through, add, leave, tells, nothing, Told, innermost, outer}
use Rattle.p9_grammar.specs.Grammar.{Sort, sort, Accepts, Suits, Asks, Formed, Fills, slot_class, naming_of, may_of, past, past_in, is_assignable, SpecFrom, IsSpec, may_follow, has_type, is_known, is_void_word, pointed, grouped}
use Rattle.p9_grammar.specs.Machine.{Frame, Read, Stack, State, state, to, fresh, moved, made, leaf, start_of, step, run, begin, begin_by, begin_spec, begin_expression, begin_declarator, begin_statement, begin_switch_item, begin_initialiser, only_if, or_else, Begin, Pushes, Leaf, Under, Nowhere, Move, Shift, Ends, Opens, Over, Refused, After, To, Makes, Unwanted, Join, Joins, Posts, Lengthens, Apart, opening, inside, resolve, attach, attached, joining, join, join_at, join_if, join_expression, join_declarator, settle, going, feed, decide, choose, wanted, role, retold, enters, opens, Infix, Binds, No, binding, binary, assigns, level_of, direct_of, move, spec_move, begins_type, allows_storage, spec, shift_if, ends_spec, paren_or, brace_or, semicolon_or, bracket_or}
use Rattle.p9_grammar.proofs.Spelling.{spell, spells}
use Rattle.p9_grammar.specs.Machine.{is_begun, only_if, begin_entry, begin_body, begin_constant, fed, else_move, stepped}
use Rattle.p9_grammar.specs.Grammar.{Expression, Declarator, Braced, Entry, Param, TypeName, Member, Constant, Declaration, Function, Block, Statement, Label}
use Rattle.p9_grammar.specs.Grammar.{tokens, write}
use Rattle.p9_grammar.specs.Machine.{begin_name, begin_group, begin_brackets, begin_entry, begin_constant, begin_body, binding, level_of_sort, direct_of_sort, lengthen}
use Rattle.p9_grammar.specs.Machine as machine
use Rattle.p9_grammar.specs.Grammar.{Hides, Leads}
use Rattle.p9_grammar.proofs.Calm.{le_true, true_le}
use Rattle.p9_grammar.proofs.Expressions.{wanted_level}
use Rattle.p9_grammar.proofs.Declarators.{recast}
use Rattle.p9_grammar.proofs.Sofar.{so_far, Open, Words, Site, Whole, Exp, Dir, Nameless, Led, Has, expr}
use Rattle.p9_grammar.proofs.Moves.{at_token, Wants, Closed, MoveOk, suits-other, suits-block, suits-expression, spec-ok}

abbrev pub BeginOk : Class → Scope → Terminal → Begin → Type 0
BeginOk c scope token (Pushes head.BlockItems) = Accepts c Block × (token ≡ t.Mark mark.OpenBrace)
BeginOk c scope token (Pushes (head.ParamsStart inner)) = ⊥
BeginOk c scope token (Pushes h) = (so_far h 0 ≡ Write token ∷ []) × Open c scope h 0
BeginOk c scope token (Leaf x) = (right_side x 0 ≡ Write token ∷ []) × Closed c scope x 0 × (leave x scope ≡ scope) × ((lv : Level) → tells x none nothing lv ≡ tells x none nothing [])
BeginOk c scope token (Under h) = (so_far h 0 ≡ []) × Open c scope h 0 × Wants h
BeginOk c scope token Nowhere = ⊤

-- heads of declarations

by-move-ok : (c : Class) (scope : Scope) (token : Terminal) (m : Move) → MoveOk c scope [] 0 token m → BeginOk c scope token (begin_by m)
by-move-ok c scope token (Shift (head.HeadOver words)) h = absurd (omega (arith, ap length h.0, length-append (spec_symbols words) (declarator_of naming.Named (Declares (is_typedef words)) ∷ [])))
by-move-ok c scope token (Shift (head.ParamsMore true)) (inl e, o) = absurd (omega (arith, ap length e))
by-move-ok c scope token (Shift (head.ParamsMore false)) (inl e, o) = absurd (omega (arith, ap length e))
by-move-ok c scope token (Shift (head.ParamsMore true)) (inr e, o) = absurd (omega (arith, ap length e.0))
by-move-ok c scope token (Shift (head.ParamsMore false)) (inr e, o) = absurd (omega (arith, ap length e.0))
by-move-ok c scope token (Shift (head.ParamsStart true)) h = absurd (omega (arith, ap length h.0))
by-move-ok c scope token (Shift (head.ParamsStart false)) h = absurd (omega (arith, ap length h.0))
by-move-ok c scope token (Shift (head.FunctionBody words)) h = absurd h
by-move-ok c scope token (Shift head.BlockItems) h = absurd (omega (arith, ap length h.0))
by-move-ok c scope token (Shift _) h = h
by-move-ok c scope token _ h = tt

begin-spec-ok : (p : Context) (c : Class) (scope : Scope) (token : Terminal) → Site p c → BeginOk c scope token (begin_spec scope p token)
begin-spec-ok p c scope token s = by-move-ok c scope token (spec_move scope p [] token) (spec-ok p c scope scope [] 0 none s tt refl (λ e. refl) token)

-- expressions

only-if-ok : (c : Class) (scope : Scope) (token : Terminal) (b : Bool) (x : Begin) → (b ≡ true → BeginOk c scope token x) → BeginOk c scope token (only_if b x)
only-if-ok c scope token true x h = h refl
only-if-ok c scope token false x h = tt

module _ (c : Class) (l : ℕ) (small : l ≤ 15) (up : (k : ℕ) → l ≤ k → Exp k c) (scope : Scope) where
  leaf-ok : (x : Kind) (token : Terminal) → sort x ≡ Expression 16 → right_side x 0 ≡ Write token ∷ [] → Asks scope x 0 → leave x scope ≡ scope → ((lv : Level) → tells x none nothing lv ≡ tells x none nothing []) →
      BeginOk c scope token (Leaf x)
  leaf-ok x token e r g v w =
      (r, (subst (Accepts c) (sym e) (up 16 (omega (arith, small))), suits-expression c 16 scope x 0 (up 16 (omega (arith, small))), g), v, w)

  unary-ok : (op : CUnary) → BeginOk c scope (t.Mark (unary_sign op)) (only_if (nat_le l 15) (Pushes (head.UnaryOf op)))
  unary-ok op = only-if-ok c scope (t.Mark (unary_sign op)) (nat_le l 15) (Pushes (head.UnaryOf op)) (λ h. (refl, up 15 small))

  pre-ok : (minus : Bool) → BeginOk c scope (t.Mark (step_sign minus)) (only_if (nat_le l 15) (Pushes (head.PreOf minus)))
  pre-ok minus = only-if-ok c scope (t.Mark (step_sign minus)) (nat_le l 15) (Pushes (head.PreOf minus)) (λ h. (refl, up 15 small))

  begin-expression-ok : (token : Terminal) → BeginOk c scope token (begin_expression scope l token)
  begin-expression-ok (t.Name x) = only-if-ok c scope (t.Name x) (not (is_type scope x)) (Leaf (kind.Name x)) (λ h. leaf-ok (kind.Name x) (t.Name x) refl refl (not-true (is_type scope x) h) refl (λ lv. refl))
  begin-expression-ok (t.Number v unsigned long) = leaf-ok (kind.Number v unsigned long) (t.Number v unsigned long) refl refl tt refl (λ lv. refl)
  begin-expression-ok (t.Character v) = leaf-ok (kind.Character v) (t.Character v) refl refl tt refl (λ lv. refl)
  begin-expression-ok (t.Text x) = leaf-ok (kind.Text (x ∷ [])) (t.Text x) refl refl (omega arith) refl (λ lv. refl)
  begin-expression-ok (t.Mark mark.OpenParen) = (refl, (up 16 (omega (arith, small)), λ h. up 14 h))
  begin-expression-ok (t.Mark mark.Ampersand) = unary-ok unary.Address
  begin-expression-ok (t.Mark mark.Star) = unary-ok unary.Deref
  begin-expression-ok (t.Mark mark.Plus) = unary-ok unary.Plus
  begin-expression-ok (t.Mark mark.Minus) = unary-ok unary.Minus
  begin-expression-ok (t.Mark mark.Tilde) = unary-ok unary.Complement
  begin-expression-ok (t.Mark mark.Bang) = unary-ok unary.Not
  begin-expression-ok (t.Mark mark.PlusPlus) = pre-ok false
  begin-expression-ok (t.Mark mark.MinusMinus) = pre-ok true
  begin-expression-ok (t.Key key.Sizeof) = only-if-ok c scope (t.Key key.Sizeof) (nat_le l 15) (Pushes head.SizeofStart) (λ h. (refl, up 15 small))
  begin-expression-ok _ = tt

-- declarators

name-ok : (m : Naming) (l : ℕ) (scope : Scope) (x : List ℕ) → l ≤ 15 → BeginOk (class.Declarator m l) scope (t.Name x) (begin_name scope m x)
name-ok naming.Named l scope x h = (refl, (omega (arith, h), λ u. tt, tt), refl, λ lv. refl)
name-ok naming.Either l scope x h = (refl, (omega (arith, h), λ u. tt, tt), refl, λ lv. refl)
name-ok naming.Hidden l scope x h =
    only-if-ok (class.Declarator naming.Hidden l) scope (t.Name x) (not (is_type scope x)) (Leaf (kind.DeclName x)) (λ b. (refl, (omega (arith, h), λ u. not-true (is_type scope x) b, tt), refl, λ lv. refl))
name-ok naming.Bare l scope x h = tt

group-ok : (m : Naming) (l : ℕ) (scope : Scope) → l ≤ 15 → BeginOk (class.Declarator m l) scope (t.Mark mark.OpenParen) (begin_group m)
group-ok naming.Named l scope h = (refl, (omega (arith, h), refl, refl))
group-ok naming.Either l scope h = (refl, (omega (arith, h), refl, tt, refl))
group-ok naming.Hidden l scope h = (refl, (omega (arith, h), refl, tt, refl))
group-ok naming.Bare l scope h = (refl, (omega (arith, h), refl, tt, refl))

brackets-ok : (m : Naming) (l : ℕ) (scope : Scope) → l ≤ 15 → BeginOk (class.Declarator m l) scope (t.Mark mark.OpenBracket) (begin_brackets m)
brackets-ok naming.Named l scope h = tt
brackets-ok naming.Either l scope h = (refl, (omega (arith, h), tt, tt))
brackets-ok naming.Hidden l scope h = (refl, (omega (arith, h), tt, tt))
brackets-ok naming.Bare l scope h = (refl, (omega (arith, h), tt, tt))

begin-declarator-ok : (m : Naming) (l : ℕ) (scope : Scope) (token : Terminal) → l ≤ 15 → BeginOk (class.Declarator m l) scope token (begin_declarator scope m token)
begin-declarator-ok m l scope (t.Name x) h = name-ok m l scope x h
begin-declarator-ok m l scope (t.Mark mark.Star) h = (refl, (h, refl, refl))
begin-declarator-ok m l scope (t.Mark mark.OpenParen) h = group-ok m l scope h
begin-declarator-ok m l scope (t.Mark mark.OpenBracket) h = brackets-ok m l scope h
begin-declarator-ok m l scope _ h = tt

-- statements

begin-statement-ok : (c : Class) (scope : Scope) (token : Terminal) → Accepts c Statement → Accepts c Block → BeginOk c scope token (begin_statement token)
begin-statement-ok c scope (t.Mark mark.OpenBrace) a b = (b, refl)
begin-statement-ok c scope (t.Mark mark.Semicolon) a b = (refl, (a, suits-other c scope kind.Expression 0 tt a, tt), refl, λ lv. refl)
begin-statement-ok c scope (t.Key key.If) a b = (refl, (a, refl))
begin-statement-ok c scope (t.Key key.While) a b = (refl, a)
begin-statement-ok c scope (t.Key key.Do) a b = (refl, a)
begin-statement-ok c scope (t.Key key.For) a b = (refl, a)
begin-statement-ok c scope (t.Key key.Switch) a b = (refl, (a, refl))
begin-statement-ok c scope (t.Key key.Break) a b = (refl, a)
begin-statement-ok c scope (t.Key key.Continue) a b = (refl, a)
begin-statement-ok c scope (t.Key key.Return) a b = (refl, (a, refl))
begin-statement-ok c scope _ a b = (refl, (a, refl), refl)

or-else-ok : (c : Class) (scope : Scope) (token : Terminal) (x y : Begin) → BeginOk c scope token x → BeginOk c scope token y → BeginOk c scope token (or_else x y)
or-else-ok c scope token Nowhere y h g = g
or-else-ok c scope token (Pushes k) y h g = h
or-else-ok c scope token (Leaf k) y h g = h
or-else-ok c scope token (Under k) y h g = h

switch-item-ok : (scope : Scope) (token : Terminal) → BeginOk class.SwitchItem scope token (begin_switch_item token)
switch-item-ok scope (t.Key key.Case) = (refl, tt)
switch-item-ok scope (t.Key key.Default) = (refl, tt)
switch-item-ok scope token = begin-statement-ok class.SwitchItem scope token tt tt

body-begin-ok : (scope : Scope) (token : Terminal) → BeginOk class.Body scope token (begin_body token)
body-begin-ok scope (t.Mark mark.OpenBrace) = (tt, refl)
body-begin-ok scope _ = tt

initialiser-up : (k : ℕ) → 2 ≤ k → Exp k class.Initialiser
initialiser-up k h = h

initialiser-ok : (scope : Scope) (token : Terminal) → BeginOk class.Initialiser scope token (begin_initialiser scope token)
initialiser-ok scope (t.Mark mark.OpenBrace) = (refl, (tt, refl))
initialiser-ok scope token = begin-expression-ok class.Initialiser 2 (omega arith) initialiser-up scope token

entry-ok : (scope : Scope) (token : Terminal) → BeginOk class.Entry scope token (begin_entry token)
entry-ok scope (t.Mark mark.OpenBracket) = (refl, tt)
entry-ok scope (t.Mark mark.Dot) = (refl, tt)
entry-ok scope _ = (refl, (tt, refl), refl)

constant-ok : (scope : Scope) (token : Terminal) → BeginOk class.Constant scope token (begin_constant token)
constant-ok scope (t.Name x) = (refl, tt)
constant-ok scope _ = tt

-- what is wanted binds no tighter than an operator before its operand
abbrev pub Low : Class → Type 0
Low (class.Expression l) = l ≤ 15
Low (class.Declarator m l) = l ≤ 15
Low class.OnlyParam = ⊥
Low _ = ⊤

pub begins-ok : (c : Class) (scope : Scope) (token : Terminal) → Low c → BeginOk c scope token (begin scope c token)
begins-ok (class.Expression l) scope token h = begin-expression-ok (class.Expression l) l h (λ k g. g) scope token
begins-ok (class.Declarator m l) scope token h = begin-declarator-ok m l scope token h
begins-ok class.Initialiser scope token h = initialiser-ok scope token
begins-ok class.Entry scope token h = entry-ok scope token
begins-ok class.Param scope token h = begin-spec-ok context.Param class.Param scope token tt
begins-ok class.OnlyParam scope token h = absurd h
begins-ok class.Type scope token h = begin-spec-ok context.Type class.Type scope token tt
begins-ok class.Member scope token h = begin-spec-ok context.Member class.Member scope token tt
begins-ok class.Constant scope token h = constant-ok scope token
begins-ok class.FileItem scope token h = begin-spec-ok context.File class.FileItem scope token tt
begins-ok class.HeadItem scope token h = begin-spec-ok context.Head class.HeadItem scope token tt
begins-ok class.BlockItem scope token h =
    or-else-ok class.BlockItem scope token (begin_spec scope context.Local token) (begin_statement token) (begin-spec-ok context.Local class.BlockItem scope token tt) (begin-statement-ok class.BlockItem scope token tt tt)
begins-ok (class.Statement may) scope token h = begin-statement-ok (class.Statement may) scope token tt tt
begins-ok class.SwitchItem scope token h = switch-item-ok scope token
begins-ok class.Body scope token h = body-begin-ok scope token

-- How a token takes the part before it

abbrev pub Fit : Class → Scope → ℕ → Tree → Slot → Type 0
Fit w scope at n slot = (d : Class) → naming_of d ≡ naming_of w → Formed (slot_class d slot) scope at n

abbrev pub JoinOk : Class → Scope → ℕ → Tree → Terminal → Join → Type 0
JoinOk w scope at n token (Joins (head.ParamsStart inner)) = (inner ≡ true) × (token ≡ t.Mark mark.OpenParen) × Open w scope (head.ParamsStart true) 1 × Fit w scope at n Direct
JoinOk w scope at n token (Joins head.BlockItems) = ⊥
JoinOk w scope at n token (Joins h) = (slot : Slot) × (so_far h 1 ≡ Part slot Plain ∷ Write token ∷ []) × Open w scope h 1 × Fit w scope at n slot
JoinOk w scope at n token (Posts x) = (slot : Slot) × (right_side x 1 ≡ Part slot Plain ∷ Write token ∷ []) × Closed w scope x 1 × Fit w scope at n slot × ((sc : Scope) → leave x sc ≡ sc) × ((ps : Trees) (tl : Told) (lv : Level) → tells x ps tl lv ≡ nothing)
JoinOk w scope at n token (Lengthens x) =
    ((u : Terminal) → Formed (at_token w u) scope at (node x at none)) × (tokens (node x at none) ≡ tokens n ++ (token ∷ [])) × (past (node x at none) at ≡ suc (past n at)) × (after (node x at none) scope ≡ after n scope) × (told (node x at none) scope ≡ nothing)
JoinOk w scope at n token Apart = ⊤

expression-slot : (l k : ℕ) (slot : Slot) → slot_class (class.Expression l) slot ≡ slot_class (class.Expression k) slot
expression-slot l k (Of c) = refl
expression-slot l k Last = refl
expression-slot l k Pointed = refl
expression-slot l k Direct = refl
expression-slot l k Grouped = refl

initialiser-slot : (k : ℕ) (slot : Slot) → slot_class class.Initialiser slot ≡ slot_class (class.Expression k) slot
initialiser-slot k (Of c) = refl
initialiser-slot k Last = refl
initialiser-slot k Pointed = refl
initialiser-slot k Direct = refl
initialiser-slot k Grouped = refl

sort-level : (x : Sort) (left : ℕ) → 1 ≤ left → left ≤ level_of_sort x → Accepts (class.Expression left) x
sort-level (Expression k) left h g = g
sort-level _ left h g = absurd (omega (arith, h, g))

reclass : (l left : ℕ) (n : Tree) (scope : Scope) (at : ℕ) → Formed (class.Expression l) scope at n → 1 ≤ left → left ≤ level_of n → Formed (class.Expression left) scope at n
reclass l left (node k p parts) scope at f h g = (f.0, sort-level (sort k) left h g, tt, f.3, recast (class.Expression l) (class.Expression left) (expression-slot l left) (right_side k (count parts)) scope at parts f.4)

reclass-initialiser : (left : ℕ) (n : Tree) (scope : Scope) (at : ℕ) → Formed class.Initialiser scope at n → 1 ≤ left → left ≤ level_of n → Formed (class.Expression left) scope at n
reclass-initialiser left (node k p parts) scope at f h g = (f.0, sort-level (sort k) left h g, tt, f.3, recast class.Initialiser (class.Expression left) (initialiser-slot left) (right_side k (count parts)) scope at parts f.4)

binds_least : (op : CBinary) → 1 ≤ binds op
binds_least operator.Mul = omega arith
binds_least operator.Div = omega arith
binds_least operator.Rem = omega arith
binds_least operator.Add = omega arith
binds_least operator.Sub = omega arith
binds_least operator.Shl = omega arith
binds_least operator.Shr = omega arith
binds_least operator.Lt = omega arith
binds_least operator.Gt = omega arith
binds_least operator.Le = omega arith
binds_least operator.Ge = omega arith
binds_least operator.Eq = omega arith
binds_least operator.Ne = omega arith
binds_least operator.And = omega arith
binds_least operator.Xor = omega arith
binds_least operator.Or = omega arith
binds_least operator.AndAnd = omega arith
binds_least operator.OrOr = omega arith

texts-write : (xs : List (List ℕ)) (x : List ℕ) → write (texts (xs ++ x ∷ [])) none ≡ write (texts xs) none ++ (t.Text x ∷ [])
texts-write [] x = refl
texts-write (y ∷ ys) x = ap (λ ts. t.Text y ∷ ts) (texts-write ys x)

texts-past : (xs : List (List ℕ)) (x : List ℕ) (at : ℕ) → past_in (texts (xs ++ x ∷ [])) none at ≡ suc (past_in (texts xs) none at)
texts-past [] x at = refl
texts-past (y ∷ ys) x at = texts-past ys x (suc at)

texts-through : (xs : List (List ℕ)) (scope : Scope) → through (texts xs) none scope ≡ scope
texts-through [] scope = refl
texts-through (y ∷ ys) scope = texts-through ys scope

texts-fill : (d : Class) (xs : List (List ℕ)) (scope : Scope) (at : ℕ) → Fills d (texts xs) scope at none
texts-fill d [] scope at = tt
texts-fill d (y ∷ ys) scope at = texts-fill d ys scope (suc at)

texts-none : (d : Class) (xs : List (List ℕ)) (scope : Scope) (at : ℕ) (n : Tree) (ns : Trees) → Fills d (texts xs) scope at (more n ns) → ⊥
texts-none d [] scope at n ns h = h
texts-none d (x ∷ xs) scope at n ns h = texts-none d xs scope (suc at) n ns h

length-more : (xs : List (List ℕ)) (x : List ℕ) → 1 ≤ length (xs ++ x ∷ [])
length-more xs x = omega (arith, length-append xs (x ∷ []))

module _ (w : Class) (l : ℕ) (scope : Scope) (at : ℕ) (n : Tree) (up : (k : ℕ) → l ≤ k → Exp k w) (re : (left : ℕ) → 1 ≤ left → left ≤ level_of n → Formed (class.Expression left) scope at n)
    (own : Formed w scope at n) where
  tight-ok : (level left : ℕ) (token : Terminal) (j : Join) → (l ≤ level → left ≤ level_of n → JoinOk w scope at n token j) → JoinOk w scope at n token (join_at l (level_of n) (Binds level left j))
  tight-ok level left token j h = by_bool (nat_le l level) (nat_le left (level_of n)) refl refl
    where
      by_bool : (a b : Bool) → nat_le l level ≡ a → nat_le left (level_of n) ≡ b → JoinOk w scope at n token (join_if (a && b) j)
      by_bool true true e g = h (true_le l level e) (true_le left (level_of n) g)
      by_bool true false e g = tt
      by_bool false b e g = tt

  binary-ok : (op : CBinary) → JoinOk w scope at n (t.Mark (binary_sign op)) (join_at l (level_of n) (binary op))
  binary-ok op = tight-ok (binds op) (binds op) (t.Mark (binary_sign op)) (Joins (head.BinaryOf op))
      (λ a b. (Of (class.Expression (binds op)), refl, up (binds op) a, λ d e. re (binds op) (binds_least op) b))

  assigns-ok : (op : Option CBinary) → is_assignable op ≡ true → JoinOk w scope at n (t.Mark (assignment_sign op)) (join_at l (level_of n) (assigns op))
  assigns-ok op g = tight-ok 2 15 (t.Mark (assignment_sign op)) (Joins (head.AssignOf op))
      (λ a b. (Of (class.Expression 15), refl, (up 2 a, g), λ d e. re 15 (omega arith) b))

  after-ok : (h : Head) (token : Terminal) → (l ≤ 16 → JoinOk w scope at n token (Joins h)) → JoinOk w scope at n token (join_at l (level_of n) (Binds 16 16 (Joins h)))
  after-ok h token g = tight-ok 16 16 token (Joins h) (λ a b. g a)

  dot-ok : (arrow : Bool) → JoinOk w scope at n (t.Mark (dot_sign arrow)) (join_at l (level_of n) (Binds 16 16 (Joins (head.DotOf arrow))))
  dot-ok arrow = tight-ok 16 16 (t.Mark (dot_sign arrow)) (Joins (head.DotOf arrow)) (λ a b. (Of (class.Expression 16), refl, up 16 a, λ d e. re 16 (omega arith) b))

  post-ok : (minus : Bool) → JoinOk w scope at n (t.Mark (step_sign minus)) (join_at l (level_of n) (Binds 16 16 (Posts (kind.Post minus))))
  post-ok minus = tight-ok 16 16 (t.Mark (step_sign minus)) (Posts (kind.Post minus))
      (λ a b. (Of (class.Expression 16), refl, (up 16 a, suits-expression w 16 scope (kind.Post minus) 1 (up 16 a), tt), (λ d e. re 16 (omega arith) b), (λ sc. refl), λ ps tl lv. refl))

  mark-ok : (p : Punctuator) → JoinOk w scope at n (t.Mark p) (join_at l (level_of n) (binding p))
  mark-ok mark.OpenParen = tight-ok 16 16 (t.Mark mark.OpenParen) (Joins head.CallStart) (λ a b. (Of (class.Expression 16), refl, (up 16 a, refl), λ d e. re 16 (omega arith) b))
  mark-ok mark.OpenBracket = tight-ok 16 16 (t.Mark mark.OpenBracket) (Joins head.IndexOf) (λ a b. (Of (class.Expression 16), refl, up 16 a, λ d e. re 16 (omega arith) b))
  mark-ok mark.Dot = dot-ok false
  mark-ok mark.Arrow = dot-ok true
  mark-ok mark.PlusPlus = post-ok false
  mark-ok mark.MinusMinus = post-ok true
  mark-ok mark.Star = binary-ok operator.Mul
  mark-ok mark.Slash = binary-ok operator.Div
  mark-ok mark.Percent = binary-ok operator.Rem
  mark-ok mark.Plus = binary-ok operator.Add
  mark-ok mark.Minus = binary-ok operator.Sub
  mark-ok mark.ShiftLeft = binary-ok operator.Shl
  mark-ok mark.ShiftRight = binary-ok operator.Shr
  mark-ok mark.Less = binary-ok operator.Lt
  mark-ok mark.Greater = binary-ok operator.Gt
  mark-ok mark.LessEqual = binary-ok operator.Le
  mark-ok mark.GreaterEqual = binary-ok operator.Ge
  mark-ok mark.EqualEqual = binary-ok operator.Eq
  mark-ok mark.BangEqual = binary-ok operator.Ne
  mark-ok mark.Ampersand = binary-ok operator.And
  mark-ok mark.Caret = binary-ok operator.Xor
  mark-ok mark.Bar = binary-ok operator.Or
  mark-ok mark.AmpersandAmpersand = binary-ok operator.AndAnd
  mark-ok mark.BarBar = binary-ok operator.OrOr
  mark-ok mark.Question = tight-ok 3 4 (t.Mark mark.Question) (Joins head.ChooseYes) (λ a b. (Of (class.Expression 4), refl, up 3 a, λ d e. re 4 (omega arith) b))
  mark-ok mark.Equal = assigns-ok None refl
  mark-ok mark.StarEqual = assigns-ok (Some operator.Mul) refl
  mark-ok mark.SlashEqual = assigns-ok (Some operator.Div) refl
  mark-ok mark.PercentEqual = assigns-ok (Some operator.Rem) refl
  mark-ok mark.PlusEqual = assigns-ok (Some operator.Add) refl
  mark-ok mark.MinusEqual = assigns-ok (Some operator.Sub) refl
  mark-ok mark.ShiftLeftEqual = assigns-ok (Some operator.Shl) refl
  mark-ok mark.ShiftRightEqual = assigns-ok (Some operator.Shr) refl
  mark-ok mark.AmpersandEqual = assigns-ok (Some operator.And) refl
  mark-ok mark.CaretEqual = assigns-ok (Some operator.Xor) refl
  mark-ok mark.BarEqual = assigns-ok (Some operator.Or) refl
  mark-ok mark.Comma = tight-ok 1 1 (t.Mark mark.Comma) (Joins head.CommaOf) (λ a b. (Of (class.Expression 1), refl, up 1 a, λ d e. re 1 (omega arith) b))
  mark-ok _ = tt

lengthen-ok : (w : Class) (scope : Scope) (at : ℕ) (n : Tree) (x : List ℕ) → Formed w scope at n → JoinOk w scope at n (t.Text x) (lengthen n x)
lengthen-ok w scope at (node (kind.Text xs) p (more m ms)) x f = absurd (texts-none w xs scope at m ms f.4)
lengthen-ok w scope at (node (kind.Text xs) p none) x f = (
  (λ u. (refl, text-accepts w u f.1, suits-expression w 16 scope (kind.Text (xs ++ x ∷ [])) 0 f.1 u, length-more xs x, texts-fill (at_token w u) (xs ++ x ∷ []) scope at)),
  texts-write xs x,
  texts-past xs x at,
  texts-through (xs ++ x ∷ []) scope ∙ sym (texts-through xs scope),
  refl,
)
  where
    text-accepts : (w : Class) (u : Terminal) → Accepts w (Expression 16) → Accepts (at_token w u) (Expression 16)
    text-accepts (class.Expression l) u a = a
    text-accepts class.Initialiser u a = a
    text-accepts _ u a = absurd a
lengthen-ok w scope at (node _ p parts) x f = tt

join-expression-ok : (w : Class) (l : ℕ) (scope : Scope) (at : ℕ) (n : Tree) (token : Terminal) → ((k : ℕ) → l ≤ k → Exp k w) →
    ((left : ℕ) → 1 ≤ left → left ≤ level_of n → Formed (class.Expression left) scope at n) → Formed w scope at n → JoinOk w scope at n token (join_expression l n token)
join-expression-ok w l scope at n (t.Mark p) up re f = mark-ok w l scope at n up re f p
join-expression-ok w l scope at n (t.Text x) up re f = lengthen-ok w scope at n x f
join-expression-ok w l scope at n (t.Key k) up re f = tt
join-expression-ok w l scope at n (t.Name x) up re f = tt
join-expression-ok w l scope at n (t.Number v unsigned long) up re f = tt
join-expression-ok w l scope at n (t.Character v) up re f = tt
join-expression-ok w l scope at n t.End up re f = tt
join-expression-ok w l scope at n t.Other up re f = tt

-- declarators

sort-direct : (x : Sort) (m : Naming) → 16 ≤ direct_of_sort x → Accepts (class.Declarator m 16) x
sort-direct (Declarator k) m g = g
sort-direct _ m g = absurd (omega (arith, g))

direct-slot : (m : Naming) (l k : ℕ) (slot : Slot) → slot_class (class.Declarator m l) slot ≡ slot_class (class.Declarator m k) slot
direct-slot m l k (Of c) = refl
direct-slot m l k Last = refl
direct-slot m l k Pointed = refl
direct-slot m l k Direct = refl
direct-slot m l k Grouped = refl

direct-suits : (m : Naming) (l k : ℕ) (scope : Scope) (x : Kind) (j : ℕ) → Suits (class.Declarator m l) scope x j → Suits (class.Declarator m k) scope x j
direct-suits m l k scope (kind.DeclName y) j h = h
direct-suits m l k scope (kind.Star volatiles) j h = h
direct-suits m l k scope (kind.Brackets inner sized) j h = h
direct-suits m l k scope (kind.Params inner void_word) j h = h
direct-suits m l k scope _ j h = tt

redirect : (m : Naming) (l : ℕ) (n : Tree) (scope : Scope) (at : ℕ) → Formed (class.Declarator m l) scope at n → 16 ≤ direct_of n → Formed (class.Declarator m 16) scope at n
redirect m l (node k p parts) scope at f g =
    (f.0, sort-direct (sort k) m g, direct-suits m l 16 scope k (count parts) f.2, f.3, recast (class.Declarator m l) (class.Declarator m 16) (direct-slot m l 16) (right_side k (count parts)) scope at parts f.4)

direct-fit : (m : Naming) (l : ℕ) (n : Tree) (scope : Scope) (at : ℕ) → Formed (class.Declarator m l) scope at n → 16 ≤ direct_of n → Fit (class.Declarator m l) scope at n Direct
direct-fit m l n scope at f g d e = subst (λ x. Formed (class.Declarator x 16) scope at n) (sym e) (redirect m l n scope at f g)

join-if-ok : (w : Class) (scope : Scope) (at : ℕ) (n : Tree) (token : Terminal) (b : Bool) (j : Join) → (b ≡ true → JoinOk w scope at n token j) → JoinOk w scope at n token (join_if b j)
join-if-ok w scope at n token true j h = h refl
join-if-ok w scope at n token false j h = tt

join-declarator-ok : (m : Naming) (l : ℕ) (scope : Scope) (at : ℕ) (n : Tree) (token : Terminal) → l ≤ 16 → Formed (class.Declarator m l) scope at n → JoinOk (class.Declarator m l) scope at n token (join_declarator n token)
join-declarator-ok m l scope at n (t.Mark mark.OpenBracket) h f =
    join-if-ok (class.Declarator m l) scope at n (t.Mark mark.OpenBracket) (nat_le 16 (direct_of n)) (Joins (head.BracketsStart true))
    (λ b. (Direct, refl, (h, tt, tt), direct-fit m l n scope at f (true_le 16 (direct_of n) b)))
join-declarator-ok m l scope at n (t.Mark mark.OpenParen) h f =
    join-if-ok (class.Declarator m l) scope at n (t.Mark mark.OpenParen) (nat_le 16 (direct_of n)) (Joins (head.ParamsStart true))
    (λ b. (refl, refl, (h, tt, tt, refl), direct-fit m l n scope at f (true_le 16 (direct_of n) b)))
join-declarator-ok m l scope at n _ h f = tt

pub joins-ok : (w : Class) (scope : Scope) (at : ℕ) (n : Tree) (token : Terminal) → Low w → Formed (at_token w token) scope at n → JoinOk w scope at n token (join w n token)
joins-ok (class.Expression l) scope at n token h f = join-expression-ok (class.Expression l) l scope at n token (λ k g. g) (λ left a b. reclass l left n scope at f a b) f
joins-ok (class.Declarator m l) scope at n token h f = join-declarator-ok m l scope at n token (omega (arith, h)) f
joins-ok class.Initialiser scope at n token h f = join-expression-ok class.Initialiser 2 scope at n token (λ k g. g) (λ left a b. reclass-initialiser left n scope at f a b) f
joins-ok _ scope at n token h f = tt
