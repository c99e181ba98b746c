-- Initialisers are read.
use Rattle.std.proofs.Common.{◌≡◌, ℕ, zero, suc, ◌+◌, ◌-◌, ◌≤◌, ◌<◌, nat_le, Bool, true, false, ◌||◌, ◌&&◌, ◌⊎◌, inl, inr, not, List, [], ◌∷◌, ◌++◌, Option, Some, None, refl, sym, ap, subst, ◌∙◌, arith, ⊎_elim, append_assoc, append-nil, map}
use Rattle.std.specs.Prelude.{⊤}
use Rattle.std.proofs.lemmas.Bool.{false≢true, and_parts, not-true}
use Rattle.p9_lang.specs.declared.tree.CBinary.{CBinary}
use Rattle.p9_lang.specs.declared.tree.CBinary.TheVariants as operator
use Rattle.p9_lang.specs.declared.tree.CUnary.{CUnary}
use Rattle.p9_lang.specs.declared.tree.CUnary.TheVariants as unary
use Rattle.p9_lang.specs.declared.tree.EntryBy.{EntryBy}
use Rattle.p9_lang.specs.declared.tree.EntryBy.TheVariants as by
use Rattle.p9_lang.specs.declared.tree.SpecWord.{SpecWord}
use Rattle.p9_lang.specs.declared.tree.SpecWord.TheVariants as word
use Rattle.p9_lang.specs.declared.tree.Kind.{Kind}
use Rattle.p9_lang.specs.declared.tree.Kind.TheVariants as kind
use Rattle.p9_grammar.specs.declared.terminal.Keyword.{Keyword}
use Rattle.p9_grammar.specs.declared.terminal.Keyword.TheVariants as key
use Rattle.p9_grammar.specs.declared.terminal.Punctuator.{Punctuator}
use Rattle.p9_grammar.specs.declared.terminal.Punctuator.TheVariants as mark
use Rattle.p9_grammar.specs.declared.terminal.Terminal.{Terminal}
use Rattle.p9_grammar.specs.declared.terminal.Terminal.TheVariants as t
use Rattle.p9_grammar.specs.declared.head.Context.{Context}
use Rattle.p9_grammar.specs.declared.head.Context.TheVariants as context
use Rattle.p9_grammar.specs.declared.head.Naming.{Naming}
use Rattle.p9_grammar.specs.declared.head.Naming.TheVariants as naming
use Rattle.p9_grammar.specs.declared.head.Class.{Class}
use Rattle.p9_grammar.specs.declared.head.Class.TheVariants as class
use Rattle.p9_grammar.specs.declared.head.Head.{Head}
use Rattle.p9_grammar.specs.declared.head.Head.TheVariants as head
use Rattle.p9_grammar.specs.Trees.{Tree, node, Trees, none, more, count, push}
use Rattle.p9_grammar.specs.Symbols.{Symbol, Write, Part, Enter, Slot, Of, Last, Pointed, Direct, Grouped, Role, Plain, Declares, Begins, part, sign, keyword, right_side, binds, binary_sign, unary_sign, assignment_sign, step_sign, dot_sign, expression, assignment, conditional, operand, later, listed, many, optional, at_most_one, branches, texts, spec_symbols, word_symbols, spec_parts, is_typedef, declarator, declarator_of, declarators, later_declarators, initialiser, qualifier, inner_declarator, parameters, parameter_list, behind, entry_place, named, in_braces, tag_key}
use Rattle.p9_grammar.specs.Scopes.{Scope, Level, is_type, after, told, told_first, through, add, leave, tells, nothing, Told, innermost, outer}
use Rattle.p9_grammar.specs.Grammar.{Sort, sort, Accepts, Suits, Asks, Formed, Fills, slot_class, naming_of, may_of, past, past_in, is_assignable, SpecFrom, IsSpec, may_follow, has_type, is_known, is_void_word, pointed, grouped}
use Rattle.p9_grammar.specs.Machine.{Frame, Read, Stack, State, state, to, fresh, moved, made, leaf, start_of, step, run, begin, begin_by, begin_spec, begin_expression, begin_declarator, begin_statement, begin_switch_item, begin_initialiser, only_if, or_else, Begin, Pushes, Leaf, Under, Nowhere, Move, Shift, Ends, Opens, Over, Refused, After, To, Makes, Unwanted, Join, Joins, Posts, Lengthens, Apart, opening, inside, resolve, attach, attached, joining, join, join_at, join_if, join_expression, join_declarator, settle, going, feed, decide, choose, wanted, role, retold, enters, opens, Infix, Binds, No, binding, binary, assigns, level_of, direct_of, move, spec_move, begins_type, allows_storage, spec, shift_if, ends_spec, paren_or, brace_or, semicolon_or, bracket_or}
use Rattle.p9_grammar.proofs.Spelling.{spell, spells}
use Rattle.p9_grammar.proofs.Reading.{opened, read, Meets, calm, calm_at, quiet, is_no_else, ends_param, ends_type, ends_constant, follows, Reads, Each, ReadsNode, opens-up}
use Rattle.p9_grammar.proofs.Calm.{le_true, le_false, true_le, low, low-calm, low-apart, Edge, calm-low, quiet-apart, quiet-less}
use Rattle.p9_grammar.proofs.First.{First, starts, starts_expression, starts_declarator, starts_statement, starts_switch_item, starts_initialiser, starts_entry, starts_spec, first-expression, first-declarator, first-spec, word_token, word_head, moves-word, first_of_word, first-along}
use Rattle.p9_grammar.specs.Machine.{is_begun, only_if, begin_entry, begin_body, begin_constant, fed, else_move, stepped}
use Rattle.p9_grammar.specs.Grammar.{Expression, Declarator, Braced, Entry, Param, TypeName, Member, Constant, Declaration, Function, Block, Statement, Label}
use Rattle.p9_grammar.proofs.Expressions.{append, append-push, append-none, formed-start, formed-level, reads-leaf, reads-push, reads-join, reads-apart, opens-first, no-type, first-type, join-tight, calm-left}
use Rattle.p9_grammar.specs.Machine.{list_next, entry_named, begin_initialiser}
use Rattle.p9_grammar.proofs.Declarators.{recast}
use Rattle.p9_grammar.proofs.Declarations.{plain}

same-slot : (slot : Slot) → slot_class class.Initialiser slot ≡ slot_class (class.Expression 2) slot
same-slot (Of c) = refl
same-slot Last = refl
same-slot Pointed = refl
same-slot Direct = refl
same-slot Grouped = refl

pub as-expression : (symbols : List Symbol) (scope : Scope) (at : ℕ) (parts : Trees) → Fills class.Initialiser symbols scope at parts → Fills (class.Expression 2) symbols scope at parts
as-expression symbols scope at parts h = recast class.Initialiser (class.Expression 2) same-slot symbols scope at parts h

initialiser-more : (scope : Scope) (token : Terminal) → starts_expression scope token ≡ true → starts_initialiser scope token ≡ true
initialiser-more scope (t.Mark mark.OpenBrace) h = refl
initialiser-more scope _ h = h

pub first-initialiser : (n : Tree) (scope : Scope) (at : ℕ) (rest : List Terminal) → Formed class.Initialiser scope at n → First (starts_initialiser scope) (spell n rest)
first-initialiser (node (kind.InitList comma) token parts) scope at rest f = (_, _, refl, refl)
first-initialiser (node k token parts) scope at rest f =
    first-along (starts_expression scope) (starts_initialiser scope) _ (initialiser-more scope)
    (first-expression (node k token parts) 2 scope at rest (f.0, f.1, tt, f.3, as-expression (right_side k (count parts)) scope at parts f.4))

-- an initialiser begins with no node that begins with another

if-inside : (b : Bool) (k : Kind) (s : Stack) (scope : Scope) (at : ℕ) (token : Terminal) →
    inside s scope at (only_if b (Leaf k)) ≡ opening s scope at token (only_if b (Leaf k))
if-inside true k s scope at token = refl
if-inside false k s scope at token = refl

inside-initialiser : (s : Stack) (scope : Scope) (at : ℕ) (token : Terminal) →
    inside s scope at (begin_initialiser scope token) ≡ opening s scope at token (begin_initialiser scope token)
inside-initialiser s scope at (t.Name x) = if-inside (not (is_type scope x)) (kind.Name x) s scope at (t.Name x)
inside-initialiser s scope at (t.Key key.Sizeof) = refl
inside-initialiser s scope at (t.Key _) = refl
inside-initialiser s scope at (t.Mark mark.OpenBrace) = refl
inside-initialiser s scope at (t.Mark mark.OpenParen) = refl
inside-initialiser s scope at (t.Mark mark.Ampersand) = refl
inside-initialiser s scope at (t.Mark mark.Star) = refl
inside-initialiser s scope at (t.Mark mark.Plus) = refl
inside-initialiser s scope at (t.Mark mark.Minus) = refl
inside-initialiser s scope at (t.Mark mark.Tilde) = refl
inside-initialiser s scope at (t.Mark mark.Bang) = refl
inside-initialiser s scope at (t.Mark mark.PlusPlus) = refl
inside-initialiser s scope at (t.Mark mark.MinusMinus) = refl
inside-initialiser s scope at (t.Mark _) = refl
inside-initialiser s scope at (t.Number value unsigned long) = refl
inside-initialiser s scope at (t.Character value) = refl
inside-initialiser s scope at (t.Text x) = refl
inside-initialiser s scope at t.End = refl
inside-initialiser s scope at t.Other = refl

-- entries

entry-under : (scope : Scope) (token : Terminal) → starts_initialiser scope token ≡ true → begin_entry token ≡ Under (head.EntryOf by.Nothing false)
entry-under scope (t.Mark mark.OpenBracket) h = absurd (false≢true h)
entry-under scope (t.Mark mark.Dot) h = absurd (false≢true h)
entry-under scope _ h = refl

entry-begins : (scope : Scope) (w : Class) (token : Terminal) → Accepts w Entry → begin scope w token ≡ begin_entry token
entry-begins scope class.Entry token a = refl
entry-begins scope _ token a = absurd a

entry-opens : (f : Frame) (s : Stack) (scope : Scope) (at : ℕ) (ts : List Terminal) → Accepts (wanted f.head) Entry → First (starts_initialiser scope) ts →
    opened f s scope at ts ≡ opened (fresh (head.EntryOf by.Nothing false) at) (f ∷ s) scope at ts
entry-opens f s scope at ts a p =
    ap (opened f s scope at) p.2
    ∙ ap (λ b. run (opening (f ∷ s) scope at p.0 b) p.1) (entry-begins scope (wanted f.head) p.0 a ∙ entry-under scope p.0 p.3)
    ∙ ap (λ r. run r p.1) (inside-initialiser (fresh (head.EntryOf by.Nothing false) at ∷ f ∷ s) scope at p.0)
    ∙ ap (opened (fresh (head.EntryOf by.Nothing false) at) (f ∷ s) scope at) (sym p.2)

low-two : (token : Terminal) → calm 2 token ≡ true → low 2 token ≡ true
low-two token h = calm-low 2 2 2 token h (omega arith) (omega arith, inr (inr (omega arith, omega arith, omega arith)))

no-equal : (scope : Scope) (place : EntryBy) (token : Terminal) → starts_initialiser scope token ≡ true → entry_named place token ≡ Opens (head.EntryOf place false)
no-equal scope place (t.Mark mark.Equal) h = absurd (false≢true h)
no-equal scope place _ h = refl

-- the initialiser at the end of an entry
entry-value : (place : EntryBy) (equals : Bool) (c : Class) (f : Frame) (s : Stack) (from : ℕ) (acc : Trees) (scope : Scope) (at : ℕ) (ps : Trees) (token : Terminal) (rest : List Terminal) →
    Each Reads ps → Fills c (optional equals (sign mark.Equal) ++ (part class.Initialiser ∷ [])) scope at ps → calm 2 token ≡ true →
    run (Some (state (record { head = head.EntryNamed place; from = from; parts = acc; told = nothing } ∷ f ∷ s) scope at None))
    (spells (optional equals (sign mark.Equal) ++ (part class.Initialiser ∷ [])) ps (token ∷ rest))
    ≡ plain (kind.Entry place equals) f s from token rest (append acc ps) (through (optional equals (sign mark.Equal) ++ (part class.Initialiser ∷ [])) ps scope)
    (past_in (optional equals (sign mark.Equal) ++ (part class.Initialiser ∷ [])) ps at)
unfolding step
entry-value place true c f s from acc scope at none token rest z h q = absurd h
entry-value place true c f s from acc scope at (more n none) token rest z h q =
    let o : Frame = record { head = head.EntryOf place true; from = from; parts = acc; told = nothing } in
    opens-up o (f ∷ s) scope (suc at) (λ u. refl) (spell n (token ∷ rest))
    ∙ z.0 class.Initialiser o (f ∷ s) scope (suc at) token rest h.0 tt q
    ∙ reads-apart o (f ∷ s) (read n scope) (after n scope) (past n (suc at)) token rest (low-apart 2 n token (low-two token q))
    ∙ ap (λ qs. plain (kind.Entry place true) f s from token rest qs (after n scope) (past n (suc at))) (sym (append-none (push acc n)) ∙ append-push acc n none)
entry-value place true c f s from acc scope at (more n (more o ns)) token rest z h q = absurd h.1
entry-value place false c f s from acc scope at none token rest z h q = absurd h
entry-value place false c f s from acc scope at (more n none) token rest z h q =
    let b : Frame = record { head = head.EntryNamed place; from = from; parts = acc; told = nothing } in
    let o : Frame = record { head = head.EntryOf place false; from = from; parts = acc; told = nothing } in
    opens-first (starts_initialiser scope) b (f ∷ s) o (f ∷ s) scope scope at (spell n (token ∷ rest)) (first-initialiser n scope at (token ∷ rest) h.0)
    (λ u v. ap (λ y. resolve b (f ∷ s) scope at u (λ x sd. settle (f ∷ s) x sd at u) y) (no-equal scope place u v))
    ∙ z.0 class.Initialiser o (f ∷ s) scope at token rest h.0 tt q
    ∙ reads-apart o (f ∷ s) (read n scope) (after n scope) (past n at) token rest (low-apart 2 n token (low-two token q))
    ∙ ap (λ qs. plain (kind.Entry place false) f s from token rest qs (after n scope) (past n at)) (sym (append-none (push acc n)) ∙ append-push acc n none)
entry-value place false c f s from acc scope at (more n (more o ns)) token rest z h q = absurd h.1

pub reads-entry : (place : EntryBy) (equals : Bool) (parts : Trees) → Each Reads parts →
    (c : Class) (f : Frame) (s : Stack) (scope : Scope) (at : ℕ) (token : Terminal) (rest : List Terminal) →
    Accepts (wanted f.head) Entry → Asks scope (kind.Entry place equals) (count parts) → Fills c (right_side (kind.Entry place equals) (count parts)) scope at parts → calm 2 token ≡ true →
    opened f s scope at (spell (node (kind.Entry place equals) at parts) (token ∷ rest))
    ≡ run (settle (f ∷ s) (read (node (kind.Entry place equals) at parts) scope) (after (node (kind.Entry place equals) at parts) scope) (past (node (kind.Entry place equals) at parts) at) token) rest
unfolding step
reads-entry by.Nothing true parts z c f s scope at token rest a g h q = absurd (false≢true (sym g))
reads-entry by.Nothing false none z c f s scope at token rest a g h q = absurd h
reads-entry by.Nothing false (more n none) z c f s scope at token rest a g h q =
    let o : Frame = fresh (head.EntryOf by.Nothing false) at in
    entry-opens f s scope at (spell n (token ∷ rest)) a (first-initialiser n scope at (token ∷ rest) h.0)
    ∙ z.0 class.Initialiser o (f ∷ s) scope at token rest h.0 tt q
    ∙ reads-apart o (f ∷ s) (read n scope) (after n scope) (past n at) token rest (low-apart 2 n token (low-two token q))
reads-entry by.Nothing false (more n (more o ns)) z c f s scope at token rest a g h q = absurd h.1
reads-entry by.Index equals none z c f s scope at token rest a g h q = absurd h
reads-entry by.Index equals (more n ns) z c f s scope at token rest a g h q =
    let o : Frame = fresh head.EntryIndex at in
    let us : List Terminal = spells (optional equals (sign mark.Equal) ++ (part class.Initialiser ∷ [])) ns (token ∷ rest) in
    reads-push f s scope at (t.Mark mark.OpenBracket) head.EntryIndex (spell n (t.Mark mark.CloseBracket ∷ us)) (entry-begins scope (wanted f.head) (t.Mark mark.OpenBracket) a)
    ∙ opens-up o (f ∷ s) scope (suc at) (λ u. refl) (spell n (t.Mark mark.CloseBracket ∷ us))
    ∙ z.0 conditional o (f ∷ s) scope (suc at) (t.Mark mark.CloseBracket) us h.0 (omega arith) refl
    ∙ entry-value by.Index equals c f s at (more n none) (after n scope) (suc (past n (suc at))) ns token rest z.1 h.1 q
reads-entry (by.Member x) equals parts z c f s scope at token rest a g h q =
    let us : List Terminal = spells (optional equals (sign mark.Equal) ++ (part class.Initialiser ∷ [])) parts (token ∷ rest) in
    reads-push f s scope at (t.Mark mark.Dot) head.EntryDot (t.Name x ∷ us) (entry-begins scope (wanted f.head) (t.Mark mark.Dot) a)
    ∙ entry-value (by.Member x) equals c f s at none scope (suc (suc at)) parts token rest z h q

-- lists

abbrev list_end : Bool → List Symbol
list_end comma = optional comma (sign mark.Comma) ++ (sign mark.CloseBrace ∷ [])

abbrev entry : Symbol
entry = part class.Entry

entry-more : (scope : Scope) (token : Terminal) → starts_initialiser scope token ≡ true → starts_entry scope token ≡ true
entry-more scope (t.Mark mark.OpenBracket) h = refl
entry-more scope (t.Mark mark.Dot) h = refl
entry-more scope _ h = h

first-entry : (n : Tree) (scope : Scope) (at : ℕ) (rest : List Terminal) → Formed class.Entry scope at n → First (starts_entry scope) (spell n rest)
first-entry (node (kind.Entry by.Nothing false) token none) scope at rest f = absurd f.4
first-entry (node (kind.Entry by.Nothing false) token (more n ns)) scope at rest f =
    first-along (starts_initialiser scope) (starts_entry scope) _ (entry-more scope) (first-initialiser n scope at _ f.4.0)
first-entry (node (kind.Entry by.Nothing true) token parts) scope at rest f = absurd (false≢true (sym f.3))
first-entry (node (kind.Entry by.Index equals) token parts) scope at rest f = (_, _, refl, refl)
first-entry (node (kind.Entry (by.Member x) equals) token parts) scope at rest f = (_, _, refl, refl)
first-entry (node _ token parts) scope at rest f = absurd f.1

entry-no_brace : (scope : Scope) (token : Terminal) → starts_entry scope token ≡ true → brace_or (Ends (kind.InitList true)) (Opens head.ListComma) token ≡ Opens head.ListComma
entry-no_brace scope (t.Mark mark.CloseBrace) h = absurd (false≢true h)
entry-no_brace scope _ h = refl

first-of-entries : (m : ℕ) (comma : Bool) (ps : Trees) (tail : List Terminal) → First (calm 2) (spells (later m entry ++ list_end comma) ps tail)
first-of-entries zero false ps tail = (_, _, refl, refl)
first-of-entries zero true ps tail = (_, _, refl, refl)
first-of-entries (suc m) comma ps tail = (_, _, refl, refl)

list-later : (m : ℕ) (comma : Bool) (ps : Trees) → Each Reads ps → (c : Class) (from : ℕ) (f : Frame) (s : Stack) (acc : Trees) (scope : Scope) (at : ℕ) (token : Terminal) (rest : List Terminal) →
    Fills c (later m entry ++ list_end comma) scope at ps →
    run (Some (state (record { head = head.ListNext; from = from; parts = acc; told = nothing } ∷ f ∷ s) scope at None)) (spells (later m entry ++ list_end comma) ps (token ∷ rest))
    ≡ plain (kind.InitList comma) f s from token rest (append acc ps) (through (later m entry ++ list_end comma) ps scope) (past_in (later m entry ++ list_end comma) ps at)
unfolding step
list-later zero false none z c from f s acc scope at token rest h =
    ap (λ qs. plain (kind.InitList false) f s from token rest qs scope (suc at)) (sym (append-none acc))
list-later zero true none z c from f s acc scope at token rest h =
    ap (λ qs. plain (kind.InitList true) f s from token rest qs scope (suc (suc at))) (sym (append-none acc))
list-later zero false (more n ns) z c from f s acc scope at token rest h = absurd h
list-later zero true (more n ns) z c from f s acc scope at token rest h = absurd h
list-later (suc m) comma none z c from f s acc scope at token rest h = absurd h
list-later (suc m) comma (more n ns) z c from f s acc scope at token rest h =
    let o : Frame = record { head = head.ListComma; from = from; parts = acc; told = nothing } in
    let us : List Terminal = spells (later m entry ++ list_end comma) ns (token ∷ rest) in
    let r = first-of-entries m comma ns (token ∷ rest) in
    let here : ℕ = suc at in
    opens-first (starts_entry scope) o (f ∷ s) o (f ∷ s) scope scope here (spell n us) (first-entry n scope here us h.0)
    (λ u v. ap (λ w. resolve o (f ∷ s) scope here u (λ b sd. settle (f ∷ s) b sd here u) w) (entry-no_brace scope u v))
    ∙ ap (λ ts. opened o (f ∷ s) scope here (spell n ts)) r.2
    ∙ z.0 class.Entry o (f ∷ s) scope here r.0 r.1 h.0 tt r.3
    ∙ ap (run (Some (state (record { head = head.ListNext; from = from; parts = push acc n; told = nothing } ∷ f ∷ s) (after n scope) (past n here) None))) (sym r.2)
    ∙ list-later m comma ns z.1 c from f s (push acc n) (after n scope) (past n here) token rest h.1
    ∙ ap (λ qs. plain (kind.InitList comma) f s from token rest qs (through (later m entry ++ list_end comma) ns (after n scope)) (past_in (later m entry ++ list_end comma) ns (past n here))) (append-push acc n ns)

list-begins : (scope : Scope) (w : Class) → Accepts w Braced → begin scope w (t.Mark mark.OpenBrace) ≡ Pushes head.ListStart
list-begins scope class.Initialiser a = refl
list-begins scope _ a = absurd a

list-read : (m : ℕ) (comma : Bool) (parts : Trees) → 1 ≤ m → Each Reads parts →
    (c : Class) (f : Frame) (s : Stack) (scope : Scope) (at : ℕ) (token : Terminal) (rest : List Terminal) →
    Accepts (wanted f.head) Braced → Fills c (sign mark.OpenBrace ∷ (listed m entry ++ list_end comma)) scope at parts →
    opened f s scope at (spells (sign mark.OpenBrace ∷ (listed m entry ++ list_end comma)) parts (token ∷ rest))
    ≡ plain (kind.InitList comma) f s at token rest parts (through (sign mark.OpenBrace ∷ (listed m entry ++ list_end comma)) parts scope) (past_in (sign mark.OpenBrace ∷ (listed m entry ++ list_end comma)) parts at)
unfolding step
list-read zero comma parts e z c f s scope at token rest a h = absurd (omega (arith, e))
list-read (suc m) comma none e z c f s scope at token rest a h = absurd h
list-read (suc m) comma (more n ns) e z c f s scope at token rest a h =
    let o : Frame = fresh head.ListStart at in
    let us : List Terminal = spells (later m entry ++ list_end comma) ns (token ∷ rest) in
    let r = first-of-entries m comma ns (token ∷ rest) in
    reads-push f s scope at (t.Mark mark.OpenBrace) head.ListStart (spell n us) (list-begins scope (wanted f.head) a)
    ∙ opens-up o (f ∷ s) scope (suc at) (λ u. refl) (spell n us)
    ∙ ap (λ ts. opened o (f ∷ s) scope (suc at) (spell n ts)) r.2
    ∙ z.0 class.Entry o (f ∷ s) scope (suc at) r.0 r.1 h.0 tt r.3
    ∙ ap (run (Some (state (record { head = head.ListNext; from = at; parts = more n none; told = nothing } ∷ f ∷ s) (after n scope) (past n (suc at)) None))) (sym r.2)
    ∙ list-later m comma ns z.1 c at f s (more n none) (after n scope) (past n (suc at)) token rest h.1

pub reads-list : (comma : Bool) (parts : Trees) → Each Reads parts →
    (c : Class) (f : Frame) (s : Stack) (scope : Scope) (at : ℕ) (token : Terminal) (rest : List Terminal) →
    Accepts (wanted f.head) Braced → Asks scope (kind.InitList comma) (count parts) → Fills c (right_side (kind.InitList comma) (count parts)) scope at parts →
    opened f s scope at (spell (node (kind.InitList comma) at parts) (token ∷ rest))
    ≡ run (settle (f ∷ s) (read (node (kind.InitList comma) at parts) scope) (after (node (kind.InitList comma) at parts) scope) (past (node (kind.InitList comma) at parts) at) token) rest
reads-list comma parts z c f s scope at token rest a g h = list-read (count parts) comma parts g z c f s scope at token rest a h
