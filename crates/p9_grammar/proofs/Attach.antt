-- What a part does to the node that it is part of, and how parts begin.
use Rattle.std.proofs.Common.{◌≡◌, ℕ, zero, suc, ◌+◌, ◌-◌, ◌≤◌, ◌<◌, nat_le, Bool, true, false, ◌||◌, ◌&&◌, ◌⊎◌, inl, inr, not, List, [], ◌∷◌, ◌++◌, length, Option, Some, None, refl, sym, ap, subst, ◌∙◌, arith, ⊎_elim, append_assoc, append-nil, map}
use Rattle.std.specs.Prelude.{⊤}
use Rattle.std.proofs.lemmas.Bool.{false≢true, and_parts, not-true}
use Rattle.p9_lang.specs.declared.tree.CBinary.{CBinary}
use Rattle.p9_lang.specs.declared.tree.CBinary.TheVariants as operator
use Rattle.p9_lang.specs.declared.tree.CUnary.{CUnary}
use Rattle.p9_lang.specs.declared.tree.CUnary.TheVariants as unary
use Rattle.p9_lang.specs.declared.tree.EntryBy.{EntryBy}
use Rattle.p9_lang.specs.declared.tree.EntryBy.TheVariants as by
use Rattle.p9_lang.specs.declared.tree.SpecWord.{SpecWord}
use Rattle.p9_lang.specs.declared.tree.SpecWord.TheVariants as word
use Rattle.p9_lang.specs.declared.tree.Kind.{Kind}
use Rattle.p9_lang.specs.declared.tree.Kind.TheVariants as kind
use Rattle.p9_grammar.specs.declared.terminal.Keyword.{Keyword}
use Rattle.p9_grammar.specs.declared.terminal.Keyword.TheVariants as key
use Rattle.p9_grammar.specs.declared.terminal.Punctuator.{Punctuator}
use Rattle.p9_grammar.specs.declared.terminal.Punctuator.TheVariants as mark
use Rattle.p9_grammar.specs.declared.terminal.Terminal.{Terminal}
use Rattle.p9_grammar.specs.declared.terminal.Terminal.TheVariants as t
use Rattle.p9_grammar.specs.declared.head.Context.{Context}
use Rattle.p9_grammar.specs.declared.head.Context.TheVariants as context
use Rattle.p9_grammar.specs.declared.head.Naming.{Naming}
use Rattle.p9_grammar.specs.declared.head.Naming.TheVariants as naming
use Rattle.p9_grammar.specs.declared.head.Class.{Class}
use Rattle.p9_grammar.specs.declared.head.Class.TheVariants as class
use Rattle.p9_grammar.specs.declared.head.Head.{Head}
use Rattle.p9_grammar.specs.declared.head.Head.TheVariants as head
use Rattle.p9_grammar.specs.Trees.{Tree, node, Trees, none, more, count, push}
use Rattle.p9_grammar.specs.Symbols.{Symbol, Write, Part, Enter, Slot, Of, Last, Pointed, Direct, Grouped, Role, Plain, Declares, Begins, part, sign, keyword, right_side, binds, binary_sign, unary_sign, assignment_sign, step_sign, dot_sign, expression, assignment, conditional, operand, later, listed, many, optional, at_most_one, branches, texts, spec_symbols, word_symbols, spec_parts, is_typedef, declarator, declarator_of, declarators, later_declarators, initialiser, qualifier, inner_declarator, parameters, parameter_list, behind, entry_place, named, in_braces, tag_key}
use Rattle.p9_grammar.specs.Scopes.{Scope, Level, is_type, after, told, told_first, through, add, leave, tells, nothing, Told, innermost, outer}
use Rattle.p9_grammar.specs.Grammar.{Sort, sort, Accepts, Suits, Asks, Formed, Fills, slot_class, naming_of, may_of, past, past_in, is_assignable, SpecFrom, IsSpec, may_follow, has_type, is_known, is_void_word, pointed, grouped}
use Rattle.p9_grammar.specs.Machine.{Frame, Read, Stack, State, state, to, fresh, moved, made, leaf, start_of, step, run, begin, begin_by, begin_spec, begin_expression, begin_declarator, begin_statement, begin_switch_item, begin_initialiser, only_if, or_else, Begin, Pushes, Leaf, Under, Nowhere, Move, Shift, Ends, Opens, Over, Refused, After, To, Makes, Unwanted, Join, Joins, Posts, Lengthens, Apart, opening, inside, resolve, attach, attached, joining, join, join_at, join_if, join_expression, join_declarator, settle, going, feed, decide, choose, wanted, role, retold, enters, opens, Infix, Binds, No, binding, binary, assigns, level_of, direct_of, move, spec_move, begins_type, allows_storage, spec, shift_if, ends_spec, paren_or, brace_or, semicolon_or, bracket_or}
use Rattle.p9_grammar.proofs.Spelling.{spell, spells}
use Rattle.p9_grammar.specs.Machine.{is_begun, only_if, begin_entry, begin_body, begin_constant, fed, else_move, stepped}
use Rattle.p9_grammar.specs.Grammar.{Expression, Declarator, Braced, Entry, Param, TypeName, Member, Constant, Declaration, Function, Block, Statement, Label}
use Rattle.p9_grammar.specs.Grammar.{tokens, write}
use Rattle.p9_grammar.specs.Machine.{first_param, only_void, begin_name, begin_group, begin_brackets, binding}
use Rattle.p9_grammar.specs.Machine as machine
use Rattle.p9_grammar.specs.Grammar.{Hides, Leads}
use Rattle.p9_grammar.proofs.Reading.{is_no_else}
use Rattle.p9_grammar.proofs.Calm.{le_true, true_le}
use Rattle.p9_grammar.proofs.Expressions.{wanted_level}
use Rattle.p9_grammar.proofs.Declarators.{recast}
use Rattle.p9_grammar.proofs.Sofar.{so_far, Open, Words, Site, Whole, Exp, Dir, Nameless, Led, Has, expr, before_declarator, before_member, tag_symbols, enum_symbols}
use Rattle.p9_grammar.proofs.Along.{many-more, listed-more, words-spec}
use Rattle.p9_grammar.proofs.Moves.{at_token, dummy, is_after, Wants, Closed, MoveOk, NoIf, suits-other, suits-block, suits-expression, suits-entry, suits-constant, first-of-two, spec-ok}

-- A statement that ends in no `if` without `else` may stand where one that does may.
relax-accepts : (x : Sort) → Accepts (class.Statement false) x → Accepts (class.Statement true) x
relax-accepts Block a = tt
relax-accepts Statement a = tt
relax-accepts _ a = absurd a

mutual
  pub relax : (n : Tree) (scope : Scope) (at : ℕ) → Formed (class.Statement false) scope at n → Formed (class.Statement true) scope at n
  relax (node k p parts) scope at f = (f.0, relax-accepts (sort k) f.1, tt, f.3, relax-fills (right_side k (count parts)) scope at parts f.4)

  relax-fills : (symbols : List Symbol) (scope : Scope) (at : ℕ) (parts : Trees) → Fills (class.Statement false) symbols scope at parts → Fills (class.Statement true) symbols scope at parts
  relax-fills [] scope at none h = tt
  relax-fills [] scope at (more n ns) h = absurd h
  relax-fills (Write x ∷ symbols) scope at parts h = relax-fills symbols scope (suc at) parts h
  relax-fills (Enter ∷ symbols) scope at parts h = relax-fills symbols ([] ∷ scope) at parts h
  relax-fills (Part slot r ∷ symbols) scope at none h = absurd h
  relax-fills (Part (Of d) r ∷ symbols) scope at (more n ns) h = (h.0, relax-fills symbols (add r (told n scope) (after n scope)) (past n at) ns h.1)
  relax-fills (Part Last r ∷ symbols) scope at (more n ns) h = (relax n scope at h.0, relax-fills symbols (add r (told n scope) (after n scope)) (past n at) ns h.1)
  relax-fills (Part Pointed r ∷ symbols) scope at (more n ns) h = (h.0, relax-fills symbols (add r (told n scope) (after n scope)) (past n at) ns h.1)
  relax-fills (Part Direct r ∷ symbols) scope at (more n ns) h = (h.0, relax-fills symbols (add r (told n scope) (after n scope)) (past n at) ns h.1)
  relax-fills (Part Grouped r ∷ symbols) scope at (more n ns) h = (h.0, relax-fills symbols (add r (told n scope) (after n scope)) (past n at) ns h.1)

pub relax-any : (b : Bool) (n : Tree) (scope : Scope) (at : ℕ) → Formed (class.Statement b) scope at n → Formed (class.Statement true) scope at n
relax-any true n scope at f = f
relax-any false n scope at f = relax n scope at f

-- the statement at the end of one
pub last-slot : (c : Class) (token : Terminal) (n : Tree) (scope : Scope) (at : ℕ) → may_of c ≡ true → Accepts c Statement → Formed (class.Statement (is_no_else token)) scope at n → Formed (slot_class (at_token c token) Last) scope at n
last-slot class.BlockItem token n scope at m a f = relax-any (is_no_else token) n scope at f
last-slot (class.Statement true) token n scope at m a f = f
last-slot (class.Statement false) token n scope at m a f = absurd (false≢true m)
last-slot class.SwitchItem token n scope at m a f = relax-any (is_no_else token) n scope at f
last-slot _ token n scope at m a f = absurd a

suits-if : (c : Class) (token : Terminal) (scope : Scope) → Accepts c Statement → Suits (at_token c token) scope kind.If 3
suits-if class.BlockItem token scope a = tt
suits-if (class.Statement may) token scope a = by_bool (may && is_no_else token)
  where
    by_bool : (b : Bool) → Suits (class.Statement b) scope kind.If 3
    by_bool true = tt
    by_bool false = omega arith
suits-if class.SwitchItem token scope a = tt
suits-if _ token scope a = absurd a

-- What is asked of a part that is read before a token

-- the next step of a declarator
abbrev pub is_step : Slot → Bool
is_step (Of c) = false
is_step Last = false
is_step Pointed = true
is_step Direct = true
is_step Grouped = true

-- whether the node is told what the part tells
abbrev pub is_retold : Head → Bool
is_retold (head.Declarators c words inits) = true
is_retold (head.ParamOf words) = true
is_retold (head.Stars n volatiles) = true
is_retold (head.DeclGroup n) = true
is_retold _ = false

abbrev pub AfterOk : Class → Scope → List Symbol → ℕ → Terminal → Tree → Class → Role → Bool → After → Type 0
AfterOk c scope symbols k token n w r b (To head.IfThenEnd) = (symbols ≡ so_far head.IfThen k) × Accepts c Statement × (k ≡ 1) × (w ≡ class.Statement true) × (r ≡ Plain)
AfterOk c scope symbols k token n w r b (To h) =
    (slot : Slot) × (so_far h (suc k) ≡ symbols ++ (Part slot r ∷ [])) × Open c scope h (suc k)
    × ((d : Class) → naming_of d ≡ naming_of c → (sc : Scope) (a : ℕ) → Formed (at_token w token) sc a n → Formed (slot_class d slot) sc a n)
    × (is_step slot ≡ true → b ≡ true)
AfterOk c scope symbols k token n w r b (Makes x) =
    (slot : Slot) × (right_side x (suc k) ≡ symbols ++ (Part slot r ∷ [])) × (Accepts c (sort x) × Suits (at_token c token) scope x (suc k) × Asks scope x (suc k))
    × ((sc : Scope) (a : ℕ) → Formed (at_token w token) sc a n → Formed (slot_class (at_token c token) slot) sc a n)
    × (is_step slot ≡ true → b ≡ true)
AfterOk c scope symbols k token n w r b Unwanted = ⊤

call-more : (k : ℕ) → 2 ≤ k → so_far head.CallNext (suc k) ≡ so_far head.CallMore k ++ (part assignment ∷ [])
call-more zero h = absurd (omega (arith, h))
call-more (suc zero) h = absurd (omega (arith, h))
call-more (suc (suc j)) h = ap (λ q. part (class.Expression 16) ∷ sign mark.OpenParen ∷ q) (listed-more j (part assignment))

switch-more : (k : ℕ) → 1 ≤ k → so_far head.SwitchItems (suc k) ≡ so_far head.SwitchItems k ++ (part class.SwitchItem ∷ [])
switch-more zero h = absurd (omega (arith, h))
switch-more (suc j) h =
    ap (λ q. keyword key.Switch ∷ sign mark.OpenParen ∷ expr ∷ sign mark.CloseParen ∷ sign mark.OpenBrace ∷ q) (many-more j class.SwitchItem)

list-more : (k : ℕ) → 1 ≤ k → so_far head.ListNext (suc k) ≡ so_far head.ListComma k ++ (part class.Entry ∷ [])
list-more zero h = absurd (omega (arith, h))
list-more (suc j) h = ap (λ q. sign mark.OpenBrace ∷ q) (listed-more j (part class.Entry))

constants-more : (n : ℕ) → 1 ≤ n → listed (suc n) (part class.Constant) ≡ (listed n (part class.Constant) ++ (sign mark.Comma ∷ [])) ++ (part class.Constant ∷ [])
constants-more zero h = absurd (omega (arith, h))
constants-more (suc j) h = listed-more j (part class.Constant)

member-more : (j : ℕ) → listed (suc j) declarator ≡ before_member j ++ (declarator ∷ [])
member-more zero = refl
member-more (suc j) = listed-more j declarator

params-more : (j : ℕ) → 1 ≤ j → parameters (suc j) ≡ (listed j (part class.Param) ++ (sign mark.Comma ∷ [])) ++ (part class.Param ∷ [])
params-more zero h = absurd (omega (arith, h))
params-more (suc j) h = listed-more j (part class.Param)

behind-more : (inner : Bool) (k : ℕ) → Has inner k → behind inner (suc k) ≡ suc (behind inner k)
behind-more false k h = refl
behind-more true zero h = absurd h
behind-more true (suc k) h = refl

has-more : (inner : Bool) (k : ℕ) → Has inner (suc k)
has-more true k = tt
has-more false k = tt

entry-asks : (scope : Scope) (place : EntryBy) (equals : Bool) (n : ℕ) → Asks scope (kind.Entry place equals) 0 → Asks scope (kind.Entry place equals) n
entry-asks scope by.Nothing equals n h = h
entry-asks scope by.Index equals n h = tt
entry-asks scope (by.Member x) equals n h = tt

same-slot : (slot : Slot) → slot_class class.Param slot ≡ slot_class class.OnlyParam slot
same-slot (Of c) = refl
same-slot Last = refl
same-slot Pointed = refl
same-slot Direct = refl
same-slot Grouped = refl

to-only : (n : Tree) (scope : Scope) (at : ℕ) → only_void n ≡ false → Formed class.Param scope at n → Formed class.OnlyParam scope at n
to-only (node (kind.Param sp) p none) scope at e f = (f.0, tt, e, f.3, recast class.Param class.OnlyParam same-slot (right_side (kind.Param sp) 0) scope at none f.4)
to-only (node (kind.Param sp) p (more n ns)) scope at e f = (f.0, tt, not_void sp.words ns, f.3, recast class.Param class.OnlyParam same-slot (right_side (kind.Param sp) (count (more n ns))) scope at (more n ns) f.4)
  where
    not_void : (words : List SpecWord) (ns : Trees) → is_void_word words (suc (count ns)) ≡ false
    not_void [] ns = refl
    not_void (word.Void ∷ []) ns = refl
    not_void (word.Void ∷ w ∷ ws) ns = refl
    not_void (_ ∷ ws) ns = refl
to-only (node _ p ps) scope at e f = absurd f.1

first-param-ok : (c : Class) (scope : Scope) (inner : Bool) (k : ℕ) (token : Terminal) (n : Tree) (b : Bool) → only_void n ≡ b → Open c scope (head.ParamsStart inner) k →
    AfterOk c scope (so_far (head.ParamsStart inner) k) k token n class.Param Plain false (first_param b inner)
first-param-ok c scope true k token n true e o = (Of class.Param, refl, (o.0, o.1, has-more true k, behind-more true k o.2 ∙ ap suc o.3), (λ d q sc a f. f), λ y. absurd (false≢true y))
first-param-ok c scope false k token n true e o = (Of class.Param, refl, (o.0, o.1, has-more false k, behind-more false k o.2 ∙ ap suc o.3), (λ d q sc a f. f), λ y. absurd (false≢true y))
first-param-ok c scope true k token n false e o = (
  Of class.OnlyParam,
  ap (λ j. inner_declarator true ++ (sign mark.OpenParen ∷ Enter ∷ parameters j)) (behind-more true k o.2 ∙ ap suc o.3),
  (o.0, o.1, has-more true k, omega (arith, behind-more true k o.2)),
  (λ d q sc a f. to-only n sc a e f),
  λ y. absurd (false≢true y),
)
first-param-ok c scope false k token n false e o = (
  Of class.OnlyParam,
  ap (λ j. inner_declarator false ++ (sign mark.OpenParen ∷ Enter ∷ parameters j)) (behind-more false k o.2 ∙ ap suc o.3),
  (o.0, o.1, has-more false k, omega (arith, behind-more false k o.2)),
  (λ d q sc a f. to-only n sc a e f),
  λ y. absurd (false≢true y),
)

pub naming-same : (c : Class) (token : Terminal) → naming_of (at_token c token) ≡ naming_of c
naming-same (class.Statement may) token = refl
naming-same (class.Expression l) token = refl
naming-same (class.Declarator m l) token = refl
naming-same class.Initialiser token = refl
naming-same class.Entry token = refl
naming-same class.Param token = refl
naming-same class.OnlyParam token = refl
naming-same class.Type token = refl
naming-same class.Member token = refl
naming-same class.Constant token = refl
naming-same class.FileItem token = refl
naming-same class.HeadItem token = refl
naming-same class.BlockItem token = refl
naming-same class.SwitchItem token = refl
naming-same class.Body token = refl

star-suits : (c : Class) (token : Terminal) (scope : Scope) (volatiles : List Bool) (k : ℕ) → Dir 15 c → Suits (at_token c token) scope (kind.Star volatiles) (suc k)
star-suits (class.Declarator naming.Named l) token scope volatiles k a = omega arith
star-suits (class.Declarator naming.Either l) token scope volatiles k a = tt
star-suits (class.Declarator naming.Hidden l) token scope volatiles k a = tt
star-suits (class.Declarator naming.Bare l) token scope volatiles k a = tt
star-suits _ token scope volatiles k a = absurd a

function-closed : (c : Class) (token : Terminal) (scope : Scope) (words : List SpecWord) (k : ℕ) → Whole context.File c scope words →
    Accepts c Function × Suits (at_token c token) scope (kind.Function (spec words)) k × Asks scope (kind.Function (spec words)) k
function-closed class.FileItem token scope words k w = (tt, tt, words-spec true scope [] words w.1 w.2)
function-closed _ token scope words k w = absurd w.0

param-closed : (c : Class) (token : Terminal) (scope : Scope) (words : List SpecWord) (k : ℕ) → Whole context.Param c scope words →
    Accepts c Param × Suits (at_token c token) scope (kind.Param (spec words)) k × Asks scope (kind.Param (spec words)) k
param-closed class.Param token scope words k w = (tt, tt, words-spec false scope [] words w.1 w.2)
param-closed _ token scope words k w = absurd w.0

type-closed : (c : Class) (token : Terminal) (scope : Scope) (words : List SpecWord) (k : ℕ) → Whole context.Type c scope words →
    Accepts c TypeName × Suits (at_token c token) scope (kind.NamedType (spec words)) k × Asks scope (kind.NamedType (spec words)) k
type-closed class.Type token scope words k w = (tt, tt, words-spec false scope [] words w.1 w.2)
type-closed _ token scope words k w = absurd w.0

one-more-left : (k m : ℕ) → m ≤ k → suc k - m ≡ suc (k - m)
one-more-left k m h = omega (arith, h)

one-left : (k m : ℕ) → k ≡ m → suc k - m ≡ 1
one-left k m e = omega (arith, e)

pub attach-ok : (h : Head) (c : Class) (scope : Scope) (k : ℕ) (token : Terminal) (n : Tree) → may_of c ≡ true → Open c scope h k →
    AfterOk c scope (so_far h k) k token n (wanted h) (role h) (is_retold h) (attached h n)
attach-ok head.FileItems c scope k token n m o = (Of class.FileItem, many-more k class.FileItem, tt, (λ d q sc a f. f), λ y. absurd (false≢true y))
attach-ok head.GoalExpression c scope k token n m o = (Of expression, refl, ap suc o, (λ d q sc a f. f), λ y. absurd (false≢true y))
attach-ok head.GoalHead c scope k token n m o = (Of class.HeadItem, refl, ap suc o, (λ d q sc a f. f), λ y. absurd (false≢true y))
attach-ok head.Group c scope k token n m o = (Of expression, refl, o, (λ d q sc a f. f), λ y. absurd (false≢true y))
attach-ok head.CastType c scope k token n m o = (Of class.Type, refl, o, (λ d q sc a f. f), λ y. absurd (false≢true y))
attach-ok head.CastOf c scope k token n m o = (Of operand, refl, (o, suits-expression c 14 scope kind.Cast (suc k) o token, tt), (λ sc a f. f), λ y. absurd (false≢true y))
attach-ok (head.UnaryOf op) c scope k token n m o = (Of operand, refl, (o, suits-expression c 15 scope (kind.Unary op) (suc k) o token, tt), (λ sc a f. f), λ y. absurd (false≢true y))
attach-ok (head.PreOf minus) c scope k token n m o = (Of (class.Expression 15), refl, (o, suits-expression c 15 scope (kind.Pre minus) (suc k) o token, tt), (λ sc a f. f), λ y. absurd (false≢true y))
attach-ok head.SizeofOf c scope k token n m o = (Of (class.Expression 15), refl, (o, suits-expression c 15 scope kind.SizeofValue (suc k) o token, tt), (λ sc a f. f), λ y. absurd (false≢true y))
attach-ok head.SizeofType c scope k token n m o = (Of class.Type, refl, o, (λ d q sc a f. f), λ y. absurd (false≢true y))
attach-ok (head.BinaryOf op) c scope k token n m o = (Of (class.Expression (suc (binds op))), refl, (o, suits-expression c (binds op) scope (kind.Binary op) (suc k) o token, tt), (λ sc a f. f), λ y. absurd (false≢true y))
attach-ok (head.AssignOf op) c scope k token n m o = (Of assignment, refl, (o.0, suits-expression c 2 scope (kind.Assign op) (suc k) o.0 token, o.1), (λ sc a f. f), λ y. absurd (false≢true y))
attach-ok head.CommaOf c scope k token n m o = (Of assignment, refl, (o, suits-expression c 1 scope kind.Comma (suc k) o token, tt), (λ sc a f. f), λ y. absurd (false≢true y))
attach-ok head.ChooseYes c scope k token n m o = (Of expression, refl, o, (λ d q sc a f. f), λ y. absurd (false≢true y))
attach-ok head.ChooseNo c scope k token n m o = (Of conditional, refl, (o, suits-expression c 3 scope kind.Choose (suc k) o token, tt), (λ sc a f. f), λ y. absurd (false≢true y))
attach-ok head.IndexOf c scope k token n m o = (Of expression, refl, o, (λ d q sc a f. f), λ y. absurd (false≢true y))
attach-ok head.CallStart c scope k token n m o = (Of assignment, ap (λ j. so_far head.CallNext (suc j)) o.1, (o.0, omega (arith, o.1)), (λ d q sc a f. f), λ y. absurd (false≢true y))
attach-ok head.CallMore c scope k token n m o = (Of assignment, call-more k o.1, (o.0, omega (arith, o.1)), (λ d q sc a f. f), λ y. absurd (false≢true y))
attach-ok head.BlockItems c scope k token n m o = (Of class.BlockItem, ap (λ q. sign mark.OpenBrace ∷ Enter ∷ q) (many-more k class.BlockItem), o, (λ d q sc a f. f), λ y. absurd (false≢true y))
attach-ok head.ExpressionOf c scope k token n m o = (Of expression, refl, (o.0, ap suc o.1), (λ d q sc a f. f), λ y. absurd (false≢true y))
attach-ok head.IfTest c scope k token n m o = (Of expression, refl, (o.0, ap suc o.1), (λ d q sc a f. f), λ y. absurd (false≢true y))
attach-ok head.IfThen c scope k token n m o = (refl, o.0, o.1, refl, refl)
attach-ok head.IfElse c scope k token n m o = (Last, ap (λ j. right_side kind.If (suc j)) o.1, (o.0, subst (λ j. Suits (at_token c token) scope kind.If (suc j)) (sym o.1) (suits-if c token scope o.0), tt), (λ sc a f. last-slot c token n sc a m o.0 f), λ y. absurd (false≢true y))
attach-ok head.WhileTest c scope k token n m o = (Of expression, refl, o, (λ d q sc a f. f), λ y. absurd (false≢true y))
attach-ok head.WhileBody c scope k token n m o = (Last, refl, (o, suits-other c scope kind.While (suc k) tt o token, tt), (λ sc a f. last-slot c token n sc a m o f), λ y. absurd (false≢true y))
attach-ok head.DoBody c scope k token n m o = (Of (class.Statement true), refl, o, (λ d q sc a f. relax-any (is_no_else token) n sc a f), λ y. absurd (false≢true y))
attach-ok head.DoTest c scope k token n m o = (Of expression, refl, o, (λ d q sc a f. f), λ y. absurd (false≢true y))
attach-ok head.ForFirst c scope k token n m o = (Of expression, refl, o, (λ d q sc a f. f), λ y. absurd (false≢true y))
attach-ok (head.ForTest true) c scope k token n m o = (Of expression, refl, o, (λ d q sc a f. f), λ y. absurd (false≢true y))
attach-ok (head.ForStep true true) c scope k token n m o = (Of expression, refl, o, (λ d q sc a f. f), λ y. absurd (false≢true y))
attach-ok (head.ForBody true true true) c scope k token n m o = (Last, refl, (o, suits-other c scope (kind.For true true true) (suc k) tt o token, tt), (λ sc a f. last-slot c token n sc a m o f), λ y. absurd (false≢true y))
attach-ok (head.ForBody true true false) c scope k token n m o = (Last, refl, (o, suits-other c scope (kind.For true true false) (suc k) tt o token, tt), (λ sc a f. last-slot c token n sc a m o f), λ y. absurd (false≢true y))
attach-ok (head.ForStep true false) c scope k token n m o = (Of expression, refl, o, (λ d q sc a f. f), λ y. absurd (false≢true y))
attach-ok (head.ForBody true false true) c scope k token n m o = (Last, refl, (o, suits-other c scope (kind.For true false true) (suc k) tt o token, tt), (λ sc a f. last-slot c token n sc a m o f), λ y. absurd (false≢true y))
attach-ok (head.ForBody true false false) c scope k token n m o = (Last, refl, (o, suits-other c scope (kind.For true false false) (suc k) tt o token, tt), (λ sc a f. last-slot c token n sc a m o f), λ y. absurd (false≢true y))
attach-ok (head.ForTest false) c scope k token n m o = (Of expression, refl, o, (λ d q sc a f. f), λ y. absurd (false≢true y))
attach-ok (head.ForStep false true) c scope k token n m o = (Of expression, refl, o, (λ d q sc a f. f), λ y. absurd (false≢true y))
attach-ok (head.ForBody false true true) c scope k token n m o = (Last, refl, (o, suits-other c scope (kind.For false true true) (suc k) tt o token, tt), (λ sc a f. last-slot c token n sc a m o f), λ y. absurd (false≢true y))
attach-ok (head.ForBody false true false) c scope k token n m o = (Last, refl, (o, suits-other c scope (kind.For false true false) (suc k) tt o token, tt), (λ sc a f. last-slot c token n sc a m o f), λ y. absurd (false≢true y))
attach-ok (head.ForStep false false) c scope k token n m o = (Of expression, refl, o, (λ d q sc a f. f), λ y. absurd (false≢true y))
attach-ok (head.ForBody false false true) c scope k token n m o = (Last, refl, (o, suits-other c scope (kind.For false false true) (suc k) tt o token, tt), (λ sc a f. last-slot c token n sc a m o f), λ y. absurd (false≢true y))
attach-ok (head.ForBody false false false) c scope k token n m o = (Last, refl, (o, suits-other c scope (kind.For false false false) (suc k) tt o token, tt), (λ sc a f. last-slot c token n sc a m o f), λ y. absurd (false≢true y))
attach-ok head.SwitchValue c scope k token n m o = (Of expression, refl, (o.0, ap suc o.1), (λ d q sc a f. f), λ y. absurd (false≢true y))
attach-ok head.SwitchItems c scope k token n m o = (Of class.SwitchItem, switch-more k o.1, (o.0, omega (arith, o.1)), (λ d q sc a f. f), λ y. absurd (false≢true y))
attach-ok head.CaseOf c scope k token n m o = (Of conditional, refl, o, (λ d q sc a f. f), λ y. absurd (false≢true y))
attach-ok head.ReturnOf c scope k token n m o = (Of expression, refl, (o.0, ap suc o.1), (λ d q sc a f. f), λ y. absurd (false≢true y))
attach-ok (head.Members p words is_union x j) c scope k token n m o = (Of class.Member, ap (λ q. spec_symbols words ++ (tag_key is_union ∷ (named x ++ (sign mark.OpenBrace ∷ q)))) (many-more j class.Member) ∙ sym (first-of-two (spec_symbols words) (named x) (sign mark.OpenBrace ∷ many j class.Member) (part class.Member ∷ []) (tag_key is_union)), (o.0, o.1, omega (arith, o.2), o.3), (λ d q sc a f. f), λ y. absurd (false≢true y))
attach-ok (head.Constants p words x j) c scope k token n m o = (Of class.Constant, ap (λ i. spec_symbols words ++ (keyword key.Enum ∷ (named x ++ (sign mark.OpenBrace ∷ listed (suc i) (part class.Constant))))) o.4 ∙ sym (first-of-two (spec_symbols words) (named x) (sign mark.OpenBrace ∷ []) (part class.Constant ∷ []) (keyword key.Enum)), (o.0, o.1, omega (arith, o.2, o.4), o.3, omega arith), (λ d q sc a f. f), λ y. absurd (false≢true y))
attach-ok (head.ConstantsComma p words x j) c scope k token n m o = (Of class.Constant, ap (λ q. spec_symbols words ++ (keyword key.Enum ∷ (named x ++ (sign mark.OpenBrace ∷ q)))) (constants-more j o.4) ∙ sym (first-of-two (spec_symbols words) (named x) (sign mark.OpenBrace ∷ (listed j (part class.Constant) ++ (sign mark.Comma ∷ []))) (part class.Constant ∷ []) (keyword key.Enum)), (o.0, o.1, omega (arith, o.2), o.3, omega arith), (λ d q sc a f. f), λ y. absurd (false≢true y))
attach-ok (head.ConstantOf x) c scope k token n m o = (Of conditional, refl, (o, suits-constant c scope (kind.EnumConst x true) (suc k) o token, tt), (λ sc a f. f), λ y. absurd (false≢true y))
attach-ok (head.Declarators p words done) c scope k token n m o = (Of (class.Declarator naming.Named 15), sym (append_assoc (spec_symbols words) (before_declarator (is_typedef words) done) (declarator_of naming.Named (Declares (is_typedef words)) ∷ [])), o, (λ d q sc a f. f), λ y. absurd (false≢true y))
attach-ok (head.Initialised p words done) c scope k token n m o = (Of class.Initialiser, ap (λ q. spec_symbols words ++ q) (sym (append_assoc (before_declarator (is_typedef words) done) (declarator_of naming.Named (Declares (is_typedef words)) ∷ sign mark.Equal ∷ []) (part class.Initialiser ∷ []))) ∙ sym (append_assoc (spec_symbols words) (before_declarator (is_typedef words) done ++ (declarator_of naming.Named (Declares (is_typedef words)) ∷ sign mark.Equal ∷ [])) (part class.Initialiser ∷ [])), o, (λ d q sc a f. f), λ y. absurd (false≢true y))
attach-ok (head.FunctionBody words) c scope k token n m o = (Of class.Body, sym (append_assoc (spec_symbols words) (declarator_of naming.Named (Begins (is_typedef words)) ∷ []) (part class.Body ∷ [])), function-closed c token scope words (suc k) o, (λ sc a f. f), λ y. absurd (false≢true y))
attach-ok (head.MemberDeclarators words) c scope k token n m o = (Of (class.Declarator naming.Named 15), ap (λ j. spec_symbols words ++ listed j declarator) (one-more-left k (spec_parts words) o.1) ∙ ap (λ q. spec_symbols words ++ q) (member-more (k - spec_parts words)) ∙ sym (append_assoc (spec_symbols words) (before_member (k - spec_parts words)) (declarator ∷ [])), (o.0, omega (arith, o.1)), (λ d q sc a f. f), λ y. absurd (false≢true y))
attach-ok (head.ParamOf words) c scope k token n m o = (Of (class.Declarator naming.Either 15), ap (λ j. spec_symbols words ++ at_most_one j (declarator_of naming.Either (Declares false))) (one-left k (spec_parts words) o.1), param-closed c token scope words (suc k) o.0, (λ sc a f. f), λ y. absurd (false≢true y))
attach-ok (head.TypeOf words) c scope k token n m o = (Of (class.Declarator naming.Bare 15), ap (λ j. spec_symbols words ++ at_most_one j (declarator_of naming.Bare Plain)) (one-left k (spec_parts words) o.1), type-closed c token scope words (suc k) o.0, (λ sc a f. f), λ y. absurd (false≢true y))
attach-ok (head.Stars w volatiles) c scope k token n m o = (Pointed, refl, (o.0, star-suits c token scope volatiles k o.0, tt), (λ sc a f. subst (λ x. Formed (class.Declarator (pointed x) 15) sc a n) (sym (naming-same c token ∙ o.1)) f), λ y. refl)
attach-ok (head.DeclGroup w) c scope k token n m o = (Grouped, refl, (o.0, o.1), (λ d q sc a f. subst (λ x. Formed (class.Declarator (grouped x) 15) sc a n) (sym (q ∙ o.1)) f), λ y. refl)
attach-ok (head.BracketsStart true) c scope k token n m o = (Of conditional, refl, (o.0, o.1, has-more true k), (λ d q sc a f. f), λ y. absurd (false≢true y))
attach-ok (head.BracketsStart false) c scope k token n m o = (Of conditional, refl, (o.0, o.1, has-more false k), (λ d q sc a f. f), λ y. absurd (false≢true y))
attach-ok (head.ParamsStart inner) c scope k token n m o = first-param-ok c scope inner k token n (only_void n) refl o
attach-ok (head.ParamsMore true) c scope k token n m o = (Of class.Param, ap (λ j. inner_declarator true ++ (sign mark.OpenParen ∷ Enter ∷ parameters j)) (behind-more true k o.2) ∙ ap (λ q. inner_declarator true ++ (sign mark.OpenParen ∷ Enter ∷ q)) (params-more (behind true k) o.3), (o.0, o.1, has-more true k, omega (arith, behind-more true k o.2)), (λ d q sc a f. f), λ y. absurd (false≢true y))
attach-ok (head.ParamsMore false) c scope k token n m o = (Of class.Param, ap (λ j. inner_declarator false ++ (sign mark.OpenParen ∷ Enter ∷ parameters j)) (behind-more false k o.2) ∙ ap (λ q. inner_declarator false ++ (sign mark.OpenParen ∷ Enter ∷ q)) (params-more (behind false k) o.3), (o.0, o.1, has-more false k, omega (arith, behind-more false k o.2)), (λ d q sc a f. f), λ y. absurd (false≢true y))
attach-ok head.ListStart c scope k token n m o = (Of class.Entry, ap (λ j. so_far head.ListNext (suc j)) o.1, (o.0, omega arith), (λ d q sc a f. f), λ y. absurd (false≢true y))
attach-ok head.ListComma c scope k token n m o = (Of class.Entry, list-more k o.1, (o.0, omega arith), (λ d q sc a f. f), λ y. absurd (false≢true y))
attach-ok head.EntryIndex c scope k token n m o = (Of conditional, refl, o, (λ d q sc a f. f), λ y. absurd (false≢true y))
attach-ok (head.EntryOf place equals) c scope k token n m o = (Of class.Initialiser, sym (append_assoc (entry_place place) (optional equals (sign mark.Equal)) (part class.Initialiser ∷ [])), (o.0, suits-entry c scope (kind.Entry place equals) (suc k) o.0 token, entry-asks scope place equals (suc k) o.1), (λ sc a f. f), λ y. absurd (false≢true y))
attach-ok _ c scope k token n m o = tt
