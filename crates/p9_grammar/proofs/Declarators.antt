-- Declarators are read.
use Rattle.std.proofs.Common.{◌≡◌, ℕ, zero, suc, ◌+◌, ◌-◌, ◌≤◌, ◌<◌, nat_le, Bool, true, false, ◌||◌, ◌&&◌, ◌⊎◌, inl, inr, not, List, [], ◌∷◌, ◌++◌, Option, Some, None, refl, sym, ap, subst, ◌∙◌, arith, ⊎_elim, append_assoc, append-nil, map}
use Rattle.std.specs.Prelude.{⊤}
use Rattle.std.proofs.lemmas.Bool.{false≢true, and_parts, not-true}
use Rattle.p9_lang.specs.declared.tree.CBinary.{CBinary}
use Rattle.p9_lang.specs.declared.tree.CBinary.TheVariants as operator
use Rattle.p9_lang.specs.declared.tree.CUnary.{CUnary}
use Rattle.p9_lang.specs.declared.tree.CUnary.TheVariants as unary
use Rattle.p9_lang.specs.declared.tree.EntryBy.{EntryBy}
use Rattle.p9_lang.specs.declared.tree.EntryBy.TheVariants as by
use Rattle.p9_lang.specs.declared.tree.SpecWord.{SpecWord}
use Rattle.p9_lang.specs.declared.tree.SpecWord.TheVariants as word
use Rattle.p9_lang.specs.declared.tree.Kind.{Kind}
use Rattle.p9_lang.specs.declared.tree.Kind.TheVariants as kind
use Rattle.p9_grammar.specs.declared.terminal.Keyword.{Keyword}
use Rattle.p9_grammar.specs.declared.terminal.Keyword.TheVariants as key
use Rattle.p9_grammar.specs.declared.terminal.Punctuator.{Punctuator}
use Rattle.p9_grammar.specs.declared.terminal.Punctuator.TheVariants as mark
use Rattle.p9_grammar.specs.declared.terminal.Terminal.{Terminal}
use Rattle.p9_grammar.specs.declared.terminal.Terminal.TheVariants as t
use Rattle.p9_grammar.specs.declared.head.Context.{Context}
use Rattle.p9_grammar.specs.declared.head.Context.TheVariants as context
use Rattle.p9_grammar.specs.declared.head.Naming.{Naming}
use Rattle.p9_grammar.specs.declared.head.Naming.TheVariants as naming
use Rattle.p9_grammar.specs.declared.head.Class.{Class}
use Rattle.p9_grammar.specs.declared.head.Class.TheVariants as class
use Rattle.p9_grammar.specs.declared.head.Head.{Head}
use Rattle.p9_grammar.specs.declared.head.Head.TheVariants as head
use Rattle.p9_grammar.specs.Trees.{Tree, node, Trees, none, more, count, push}
use Rattle.p9_grammar.specs.Symbols.{Symbol, Write, Part, Enter, Slot, Of, Last, Pointed, Direct, Grouped, Role, Plain, Declares, Begins, part, sign, keyword, right_side, binds, binary_sign, unary_sign, assignment_sign, step_sign, dot_sign, expression, assignment, conditional, operand, later, listed, many, optional, at_most_one, branches, texts, spec_symbols, word_symbols, spec_parts, is_typedef, declarator, declarator_of, declarators, later_declarators, initialiser, qualifier, inner_declarator, parameters, parameter_list, behind, entry_place, named, in_braces, tag_key}
use Rattle.p9_grammar.specs.Scopes.{Scope, Level, is_type, after, told, told_first, through, add, leave, tells, nothing, Told, innermost, outer}
use Rattle.p9_grammar.specs.Grammar.{Sort, sort, Accepts, Suits, Asks, Formed, Fills, slot_class, naming_of, may_of, past, past_in, is_assignable, SpecFrom, IsSpec, may_follow, has_type, is_known, is_void_word, pointed, grouped}
use Rattle.p9_grammar.specs.Machine.{Frame, Read, Stack, State, state, to, fresh, moved, made, leaf, start_of, step, run, begin, begin_by, begin_spec, begin_expression, begin_declarator, begin_statement, begin_switch_item, begin_initialiser, only_if, or_else, Begin, Pushes, Leaf, Under, Nowhere, Move, Shift, Ends, Opens, Over, Refused, After, To, Makes, Unwanted, Join, Joins, Posts, Lengthens, Apart, opening, inside, resolve, attach, attached, joining, join, join_at, join_if, join_expression, join_declarator, settle, going, feed, decide, choose, wanted, role, retold, enters, opens, Infix, Binds, No, binding, binary, assigns, level_of, direct_of, move, spec_move, begins_type, allows_storage, spec, shift_if, ends_spec, paren_or, brace_or, semicolon_or, bracket_or}
use Rattle.p9_grammar.proofs.Spelling.{spell, spells}
use Rattle.p9_grammar.proofs.Reading.{opened, read, Meets, calm, calm_at, quiet, is_no_else, ends_param, ends_type, ends_constant, follows, Reads, Each, ReadsNode, opens-up}
use Rattle.p9_grammar.proofs.Calm.{le_true, le_false, true_le, low, low-calm, low-apart, Edge, calm-low, quiet-apart, quiet-less}
use Rattle.p9_grammar.proofs.First.{First, starts, starts_expression, starts_declarator, starts_statement, starts_switch_item, starts_initialiser, starts_entry, starts_spec, first-expression, first-declarator, first-spec, word_token, word_head, moves-word, first_of_word, first-along}
use Rattle.p9_grammar.specs.Machine.{is_begun, only_if, begin_entry, begin_body, begin_constant, fed, else_move, stepped}
use Rattle.p9_grammar.specs.Grammar.{Expression, Declarator, Braced, Entry, Param, TypeName, Member, Constant, Declaration, Function, Block, Statement, Label}
use Rattle.p9_grammar.proofs.Expressions.{append, append-push, append-none, formed-start, formed-level, reads-leaf, reads-push, reads-join, reads-apart, opens-first, no-type, first-type, join-tight, calm-left}
use Rattle.p9_grammar.specs.Grammar.{Hides, Leads}
use Rattle.p9_grammar.specs.Machine.{only_void, first_param, params_start, params_next, stars_move, bare_star, or_close_paren, is_close_paren, begin_name, begin_group, begin_brackets}
use Rattle.p9_grammar.proofs.Statements.{no-spec}

abbrev pub ReadsDeclarator : Kind → Trees → Type 0
ReadsDeclarator k parts =
    (m : Naming) (l : ℕ) (f : Frame) (s : Stack) (scope : Scope) (at : ℕ) (token : Terminal) (rest : List Terminal) →
    Accepts (class.Declarator m l) (sort k) → Suits (class.Declarator m l) scope k (count parts) →
    Fills (class.Declarator m l) (right_side k (count parts)) scope at parts → Meets (wanted f.head) (class.Declarator m l) → quiet m l token ≡ true →
    opened f s scope at (spell (node k at parts) (token ∷ rest))
    ≡ run (settle (f ∷ s) (read (node k at parts) scope) (after (node k at parts) scope) (past (node k at parts) at) token) rest

begin-named : (scope : Scope) (w : Class) (m : Naming) (l : ℕ) (token : Terminal) → Meets w (class.Declarator m l) → begin scope w token ≡ begin_declarator scope m token
begin-named scope (class.Declarator n k) m l token h = ap (λ x. begin_declarator scope x token) h.0
begin-named scope _ m l token h = absurd h

join-named : (w : Class) (m : Naming) (l : ℕ) (n : Tree) (token : Terminal) → Meets w (class.Declarator m l) → join w n token ≡ join_declarator n token
join-named (class.Declarator n k) m l d token h = refl
join-named _ m l d token h = absurd h

meets-direct : (w : Class) (m : Naming) (l : ℕ) → Meets w (class.Declarator m l) → l ≤ 16 → Meets w (class.Declarator m 16)
meets-direct (class.Declarator n k) m l h g = (h.0, omega (arith, h.1, g))
meets-direct _ m l h g = absurd h

formed-direct : (n : Tree) (m : Naming) (l : ℕ) (scope : Scope) (at : ℕ) → Formed (class.Declarator m l) scope at n → l ≤ direct_of n
formed-direct (node k token parts) m l scope at f = formed-sort (sort k) m l f.1
  where
    formed-sort : (x : Sort) (m : Naming) (l : ℕ) → Accepts (class.Declarator m l) x → l ≤ Rattle.p9_grammar.specs.Machine.direct_of_sort x
    formed-sort (Declarator k) m l h = h
    formed-sort _ m l h = absurd h

-- names

name-begins : (scope : Scope) (m : Naming) (x : List ℕ) → Hides m scope x → begin_name scope m x ≡ Leaf (kind.DeclName x)
name-begins scope naming.Named x h = refl
name-begins scope naming.Either x h = refl
name-begins scope naming.Hidden x h = ap (λ b. only_if (not b) (Leaf (kind.DeclName x))) h
name-begins scope naming.Bare x h = absurd h

reads-declared_name : (x : List ℕ) (parts : Trees) → ReadsDeclarator (kind.DeclName x) parts
reads-declared_name x none m l f s scope at token rest a g h w q =
    reads-leaf f s scope at (t.Name x) (kind.DeclName x) token rest (begin-named scope (wanted f.head) m l (t.Name x) w ∙ name-begins scope m x g)
reads-declared_name x (more n ns) m l f s scope at token rest a g h w q = absurd h

-- stars

stars-open : (scope : Scope) (m : Naming) (volatiles : List Bool) (token : Terminal) → starts_declarator (pointed m) scope token ≡ true →
    stars_move m volatiles token ≡ Opens (head.Stars m volatiles)
stars-open scope m volatiles (t.Key key.Const) h = absurd (false≢true h)
stars-open scope m volatiles (t.Key key.Volatile) h = absurd (false≢true h)
stars-open scope m volatiles (t.Mark mark.Comma) h = absurd (false≢true h)
stars-open scope m volatiles (t.Mark mark.CloseParen) h = absurd (false≢true h)
stars-open scope m volatiles _ h = refl

star-over : (m : Naming) (volatiles : List Bool) (token : Terminal) → Leads m (1 ≤ 0) → quiet m 15 token ≡ true → stars_move m volatiles token ≡ Over (kind.Star volatiles)
star-over naming.Named volatiles token g h = absurd (omega (arith, g))
star-over m volatiles (t.Mark mark.Comma) g h = bare m volatiles g
  where
    bare : (m : Naming) (volatiles : List Bool) → Leads m (1 ≤ 0) → bare_star m volatiles ≡ Over (kind.Star volatiles)
    bare naming.Named volatiles g = absurd (omega (arith, g))
    bare _ volatiles g = refl
star-over m volatiles (t.Mark mark.CloseParen) g h = bare m volatiles g
  where
    bare : (m : Naming) (volatiles : List Bool) → Leads m (1 ≤ 0) → bare_star m volatiles ≡ Over (kind.Star volatiles)
    bare naming.Named volatiles g = absurd (omega (arith, g))
    bare _ volatiles g = refl
star-over m volatiles _ g h = absurd (false≢true h)

abbrev star_symbols : List Bool → Trees → List Symbol
star_symbols volatiles parts = map qualifier volatiles ++ at_most_one (count parts) (Part Pointed Plain)

stars : (vs before : List Bool) (parts : Trees) → Each Reads parts → (m : Naming) (l from : ℕ) (f : Frame) (s : Stack) (scope : Scope) (at : ℕ) (token : Terminal) (rest : List Terminal) →
    Leads m (1 ≤ count parts) → Fills (class.Declarator m l) (star_symbols vs parts) scope at parts → quiet m 15 token ≡ true →
    run (Some (state (fresh (head.Stars m before) from ∷ f ∷ s) scope at None)) (spells (star_symbols vs parts) parts (token ∷ rest))
    ≡ run (settle (f ∷ s) (record { tree = node (kind.Star (before ++ vs)) from parts; told = told_first parts scope })
    (through (star_symbols vs parts) parts scope) (past_in (star_symbols vs parts) parts at) token) rest
unfolding step
stars [] before none z m l from f s scope at token rest g h q =
    ap (λ y. run (resolve (fresh (head.Stars m before) from) (f ∷ s) scope at token (λ x sd. settle (f ∷ s) x sd at token) y) rest) (star-over m before token g q)
    ∙ ap (λ vs. run (settle (f ∷ s) (record { tree = node (kind.Star vs) from none; told = nothing }) scope at token) rest) (sym (append-nil before))
stars [] before (more n none) z m l from f s scope at token rest g h q =
    let o : Frame = fresh (head.Stars m before) from in
    opens-first (starts_declarator (pointed m) scope) o (f ∷ s) o (f ∷ s) scope scope at (spell n (token ∷ rest)) (first-declarator n (pointed m) 15 scope at (token ∷ rest) h.0)
    (λ u v. ap (λ y. resolve o (f ∷ s) scope at u (λ x sd. settle (f ∷ s) x sd at u) y) (stars-open scope m before u v))
    ∙ z.0 (class.Declarator (pointed m) 15) o (f ∷ s) scope at token rest h.0 (refl, omega arith) (quiet-pointed m token q)
    ∙ reads-apart o (f ∷ s) (read n scope) (after n scope) (past n at) token rest (quiet-apart m n token q)
    ∙ ap (λ vs. run (settle (f ∷ s) (record { tree = node (kind.Star vs) from (more n none); told = told n scope }) (after n scope) (past n at) token) rest) (sym (append-nil before))
  where
    quiet-pointed : (m : Naming) (token : Terminal) → quiet m 15 token ≡ true → quiet (pointed m) 15 token ≡ true
    quiet-pointed naming.Named token h = h
    quiet-pointed naming.Either token h = h
    quiet-pointed naming.Hidden (t.Mark mark.Comma) h = h
    quiet-pointed naming.Hidden (t.Mark mark.CloseParen) h = h
    quiet-pointed naming.Hidden _ h = absurd (false≢true h)
    quiet-pointed naming.Bare token h = h
stars [] before (more n (more o ns)) z m l from f s scope at token rest g h q = absurd h.1
stars (true ∷ vs) before parts z m l from f s scope at token rest g h q =
    stars vs (before ++ true ∷ []) parts z m l from f s scope (suc at) token rest g h q
    ∙ ap (λ ws. run (settle (f ∷ s) (record { tree = node (kind.Star ws) from parts; told = told_first parts scope })
    (through (star_symbols vs parts) parts scope) (past_in (star_symbols vs parts) parts (suc at)) token) rest) (append_assoc before (true ∷ []) vs)
stars (false ∷ vs) before parts z m l from f s scope at token rest g h q =
    stars vs (before ++ false ∷ []) parts z m l from f s scope (suc at) token rest g h q
    ∙ ap (λ ws. run (settle (f ∷ s) (record { tree = node (kind.Star ws) from parts; told = told_first parts scope })
    (through (star_symbols vs parts) parts scope) (past_in (star_symbols vs parts) parts (suc at)) token) rest) (append_assoc before (false ∷ []) vs)

reads-star : (volatiles : List Bool) (parts : Trees) → Each Reads parts → ReadsDeclarator (kind.Star volatiles) parts
reads-star volatiles none z m l f s scope at token rest a g h w q =
    reads-push f s scope at (t.Mark mark.Star) (head.Stars m []) (spells (star_symbols volatiles none) none (token ∷ rest)) (begin-named scope (wanted f.head) m l (t.Mark mark.Star) w)
    ∙ stars volatiles [] none z m l at f s scope (suc at) token rest g h (quiet-less m l token q a)
reads-star volatiles (more n ns) z m l f s scope at token rest a g h w q =
    reads-push f s scope at (t.Mark mark.Star) (head.Stars m []) (spells (star_symbols volatiles (more n ns)) (more n ns) (token ∷ rest)) (begin-named scope (wanted f.head) m l (t.Mark mark.Star) w)
    ∙ stars volatiles [] (more n ns) z m l at f s scope (suc at) token rest g h (quiet-less m l token q a)

-- brackets

join-direct : (w : Class) (m : Naming) (l : ℕ) (n : Tree) (h : Head) (token : Terminal) → Meets w (class.Declarator m l) → 16 ≤ direct_of n →
    join_declarator n token ≡ join_if (nat_le 16 (direct_of n)) (Joins h) → join w n token ≡ Joins h
join-direct w m l n h token g a e = join-named w m l n token g ∙ e ∙ ap (λ b. join_if b (Joins h)) (le_true 16 (direct_of n) a)

bracket-opens : (inner : Bool) (scope : Scope) (token : Terminal) → starts_expression scope token ≡ true →
    bracket_or (Ends (kind.Brackets inner false)) (Opens (head.BracketsStart inner)) token ≡ Opens (head.BracketsStart inner)
bracket-opens inner scope (t.Mark mark.CloseBracket) h = absurd (false≢true h)
bracket-opens inner scope _ h = refl

brackets-begin : (m : Naming) → Leads m (false ≡ true) → begin_brackets m ≡ Pushes (head.BracketsStart false)
brackets-begin naming.Named g = absurd (false≢true g)
brackets-begin _ g = refl

reads-brackets : (inner sized : Bool) (parts : Trees) → Each Reads parts → ReadsDeclarator (kind.Brackets inner sized) parts
unfolding step
reads-brackets true false none z m l f s scope at token rest a g h w q = absurd h
reads-brackets true false (more n none) z m l f s scope at token rest a g h w q =
    let ts : List Terminal = t.Mark mark.CloseBracket ∷ token ∷ rest in
    z.0 (class.Declarator m 16) f s scope at (t.Mark mark.OpenBracket) ts h.0 (meets-direct (wanted f.head) m l w a) refl
    ∙ reads-join f s n (class.Declarator m 16) scope (after n scope) at (past n at) (t.Mark mark.OpenBracket) (head.BracketsStart true) ts h.0
    (join-direct (wanted f.head) m l n (head.BracketsStart true) (t.Mark mark.OpenBracket) w (formed-direct n m 16 scope at h.0) refl)
reads-brackets true false (more n (more o ns)) z m l f s scope at token rest a g h w q = absurd h.1
reads-brackets true true none z m l f s scope at token rest a g h w q = absurd h
reads-brackets true true (more n none) z m l f s scope at token rest a g h w q = absurd h.1
reads-brackets true true (more n (more o none)) z m l f s scope at token rest a g h w q =
    let ts : List Terminal = t.Mark mark.CloseBracket ∷ token ∷ rest in
    let b : Frame = record { head = head.BracketsStart true; from = at; parts = more n none; told = told n scope } in
    let here : ℕ = suc (past n at) in
    z.0 (class.Declarator m 16) f s scope at (t.Mark mark.OpenBracket) (spell o ts) h.0 (meets-direct (wanted f.head) m l w a) refl
    ∙ reads-join f s n (class.Declarator m 16) scope (after n scope) at (past n at) (t.Mark mark.OpenBracket) (head.BracketsStart true) (spell o ts) h.0
    (join-direct (wanted f.head) m l n (head.BracketsStart true) (t.Mark mark.OpenBracket) w (formed-direct n m 16 scope at h.0) refl)
    ∙ opens-first (starts_expression (after n scope)) b (f ∷ s) b (f ∷ s) (after n scope) (after n scope) here (spell o ts) (first-expression o 3 (after n scope) here ts h.1.0)
    (λ u v. ap (λ y. resolve b (f ∷ s) (after n scope) here u (λ x sd. settle (f ∷ s) x sd here u) y) (bracket-opens true (after n scope) u v))
    ∙ z.1.0 conditional b (f ∷ s) (after n scope) here (t.Mark mark.CloseBracket) (token ∷ rest) h.1.0 (omega arith) refl
reads-brackets true true (more n (more o (more p ns))) z m l f s scope at token rest a g h w q = absurd h.1.1
reads-brackets false false none z m l f s scope at token rest a g h w q =
    reads-push f s scope at (t.Mark mark.OpenBracket) (head.BracketsStart false) (t.Mark mark.CloseBracket ∷ token ∷ rest)
    (begin-named scope (wanted f.head) m l (t.Mark mark.OpenBracket) w ∙ brackets-begin m g)
reads-brackets false false (more n ns) z m l f s scope at token rest a g h w q = absurd h
reads-brackets false true none z m l f s scope at token rest a g h w q = absurd h
reads-brackets false true (more o none) z m l f s scope at token rest a g h w q =
    let ts : List Terminal = t.Mark mark.CloseBracket ∷ token ∷ rest in
    let b : Frame = fresh (head.BracketsStart false) at in
    let here : ℕ = suc at in
    reads-push f s scope at (t.Mark mark.OpenBracket) (head.BracketsStart false) (spell o ts) (begin-named scope (wanted f.head) m l (t.Mark mark.OpenBracket) w ∙ brackets-begin m g)
    ∙ opens-first (starts_expression scope) b (f ∷ s) b (f ∷ s) scope scope here (spell o ts) (first-expression o 3 scope here ts h.0)
    (λ u v. ap (λ y. resolve b (f ∷ s) scope here u (λ x sd. settle (f ∷ s) x sd here u) y) (bracket-opens false scope u v))
    ∙ z.0 conditional b (f ∷ s) scope here (t.Mark mark.CloseBracket) (token ∷ rest) h.0 (omega arith) refl
reads-brackets false true (more o (more p ns)) z m l f s scope at token rest a g h w q = absurd h.1

-- parentheses

abbrev Nameless : Naming → Type 0
Nameless naming.Named = ⊥
Nameless _ = ⊤

hidden-no-list : (scope : Scope) (token : Terminal) → starts_declarator naming.Hidden scope token ≡ true → or_close_paren (begins_type scope token) token ≡ false
hidden-no-list scope (t.Name x) h =
    ap (λ b. or_close_paren (is_begun (begin_by (shift_if (b && may_follow false [] (word.TypeName x)) (head.Spec context.Type (word.TypeName x ∷ [])) Refused))) (t.Name x))
    (hidden (is_type scope x) h)
  where
    hidden : (b : Bool) → is_begun (only_if (not b) (Leaf (kind.DeclName x))) ≡ true → b ≡ false
    hidden true h = absurd (false≢true h)
    hidden false h = refl
hidden-no-list scope (t.Key _) h = absurd (false≢true h)
hidden-no-list scope (t.Mark mark.CloseParen) h = absurd (false≢true h)
hidden-no-list scope _ h = refl

bare-no-list : (scope : Scope) (token : Terminal) → starts_declarator naming.Bare scope token ≡ true → or_close_paren (begins_type scope token) token ≡ false
bare-no-list scope (t.Name x) h = absurd (false≢true h)
bare-no-list scope (t.Key _) h = absurd (false≢true h)
bare-no-list scope (t.Mark mark.CloseParen) h = absurd (false≢true h)
bare-no-list scope _ h = refl

group-no-list : (scope : Scope) (m : Naming) (token : Terminal) → Nameless m → starts_declarator (grouped m) scope token ≡ true → or_close_paren (begins_type scope token) token ≡ false
group-no-list scope naming.Named token g h = absurd g
group-no-list scope naming.Either token g h = hidden-no-list scope token h
group-no-list scope naming.Hidden token g h = hidden-no-list scope token h
group-no-list scope naming.Bare token g h = bare-no-list scope token h

decl-opened : (m : Naming) (f : Frame) (s : Stack) (scope : Scope) (at : ℕ) (n : Tree) (rest : List Terminal) → Nameless m → Formed (class.Declarator (grouped m) 15) scope (suc at) n →
    run (Some (state (fresh (head.DeclOpened m) at ∷ f ∷ s) scope (suc at) None)) (spell n rest) ≡ opened (fresh (head.DeclGroup m) at) (f ∷ s) scope (suc at) (spell n rest)
unfolding step
decl-opened m f s scope at n rest g h =
    opens-first (starts_declarator (grouped m) scope) (fresh (head.DeclOpened m) at) (f ∷ s) (fresh (head.DeclGroup m) at) (f ∷ s) scope scope (suc at) (spell n rest)
    (first-declarator n (grouped m) 15 scope (suc at) rest h)
    (λ u v. ap (λ b. fed (choose b (state (fresh (head.ParamsStart false) at ∷ f ∷ s) ([] ∷ scope) (suc at) None)
    (state (fresh (head.DeclGroup m) at ∷ f ∷ s) scope (suc at) None)) u) (group-no-list scope m u g v))

decl-group-opens : (m : Naming) (f : Frame) (s : Stack) (scope : Scope) (at : ℕ) (n : Tree) (rest : List Terminal) → Formed (class.Declarator (grouped m) 15) scope (suc at) n →
    run (inside (f ∷ s) scope at (begin_group m)) (spell n rest) ≡ opened (fresh (head.DeclGroup m) at) (f ∷ s) scope (suc at) (spell n rest)
unfolding step
decl-group-opens naming.Named f s scope at n rest h = opens-up (fresh (head.DeclGroup naming.Named) at) (f ∷ s) scope (suc at) (λ y. refl) (spell n rest)
decl-group-opens naming.Either f s scope at n rest h = decl-opened naming.Either f s scope at n rest tt h
decl-group-opens naming.Hidden f s scope at n rest h = decl-opened naming.Hidden f s scope at n rest tt h
decl-group-opens naming.Bare f s scope at n rest h = decl-opened naming.Bare f s scope at n rest tt h

begin-inside : (m : Naming) (s : Stack) (scope : Scope) (at : ℕ) (token : Terminal) → opening s scope at token (begin_group m) ≡ inside s scope at (begin_group m)
begin-inside naming.Named s scope at token = refl
begin-inside _ s scope at token = refl

quiet-paren : (m : Naming) → quiet (grouped m) 15 (t.Mark mark.CloseParen) ≡ true
quiet-paren m = refl

reads-decl_parens : (parts : Trees) → Each Reads parts → ReadsDeclarator kind.DeclParens parts
unfolding step
reads-decl_parens none z m l f s scope at token rest a g h w q = absurd h
reads-decl_parens (more n none) z m l f s scope at token rest a g h w q =
    let ts : List Terminal = t.Mark mark.CloseParen ∷ token ∷ rest in
    ap (λ b. run (opening (f ∷ s) scope at (t.Mark mark.OpenParen) b) (spell n ts)) (begin-named scope (wanted f.head) m l (t.Mark mark.OpenParen) w)
    ∙ ap (λ r. run r (spell n ts)) (begin-inside m (f ∷ s) scope at (t.Mark mark.OpenParen))
    ∙ decl-group-opens m f s scope at n ts h.0
    ∙ z.0 (class.Declarator (grouped m) 15) (fresh (head.DeclGroup m) at) (f ∷ s) scope (suc at) (t.Mark mark.CloseParen) (token ∷ rest) h.0 (refl, omega arith) refl
reads-decl_parens (more n (more o ns)) z m l f s scope at token rest a g h w q = absurd h.1

-- parameters

abbrev param_symbols : Bool → Trees → List Symbol
param_symbols void_word ps = parameter_list void_word (count ps) ++ (sign mark.CloseParen ∷ [])

abbrev later_params : Trees → List Symbol
later_params ps = later (count ps) (part class.Param) ++ (sign mark.CloseParen ∷ [])

-- what the list of the parameters comes to
abbrev listed_node : Bool → Bool → ℕ → Trees → Told → Scope → Read
listed_node inner void_word from parts tl scope = record { tree = node (kind.Params inner void_word) from parts; told = tells (kind.Params inner void_word) parts tl (innermost scope) }

abbrev params_on : Bool → ℕ → Told → Frame → Stack → Trees → Scope → ℕ → List Terminal → Option State
params_on inner from tl f s acc scope at [] = None
params_on inner from tl f s acc scope at (token ∷ ts) =
    run (resolve (record { head = head.ParamsNext inner; from = from; parts = acc; told = tl }) (f ∷ s) scope at token (λ m sc. settle (f ∷ s) m sc at token) (params_next inner token)) ts

params-later : (ns : Trees) → Each Reads ns → (inner : Bool) (c : Class) (from : ℕ) (tl : Told) (f : Frame) (s : Stack) (acc : Trees) (scope : Scope) (at : ℕ) (token : Terminal) (rest : List Terminal) →
    Fills c (later_params ns) scope at ns →
    params_on inner from tl f s acc scope at (spells (later_params ns) ns (token ∷ rest))
    ≡ run (settle (f ∷ s) (listed_node inner false from (append acc ns) tl (through (later_params ns) ns scope)) (outer (through (later_params ns) ns scope)) (past_in (later_params ns) ns at) token) rest
unfolding step
params-later none z inner c from tl f s acc scope at token rest h =
    ap (λ ps. run (settle (f ∷ s) (listed_node inner false from ps tl scope) (outer scope) (suc at) token) rest) (sym (append-none acc))
params-later (more n none) z inner c from tl f s acc scope at token rest h =
    let o : Frame = record { head = head.ParamsMore inner; from = from; parts = acc; told = tl } in
    opens-up o (f ∷ s) scope (suc at) (λ u. refl) (spell n (t.Mark mark.CloseParen ∷ token ∷ rest))
    ∙ z.0 class.Param o (f ∷ s) scope (suc at) (t.Mark mark.CloseParen) (token ∷ rest) h.0 tt refl
    ∙ params-later none z.1 inner c from tl f s (push acc n) (after n scope) (past n (suc at)) token rest h.1
    ∙ ap (λ ps. run (settle (f ∷ s) (listed_node inner false from ps tl (after n scope)) (outer (after n scope)) (suc (past n (suc at))) token) rest) (append-push acc n none)
params-later (more n (more p ps)) z inner c from tl f s acc scope at token rest h =
    let o : Frame = record { head = head.ParamsMore inner; from = from; parts = acc; told = tl } in
    let us : List Terminal = spells (part class.Param ∷ later_params ps) (more p ps) (token ∷ rest) in
    opens-up o (f ∷ s) scope (suc at) (λ u. refl) (spell n (t.Mark mark.Comma ∷ us))
    ∙ z.0 class.Param o (f ∷ s) scope (suc at) (t.Mark mark.Comma) us h.0 tt refl
    ∙ params-later (more p ps) z.1 inner c from tl f s (push acc n) (after n scope) (past n (suc at)) token rest h.1
    ∙ ap (λ qs. run (settle (f ∷ s) (listed_node inner false from qs tl (through (later_params (more p ps)) (more p ps) (after n scope)))
    (outer (through (later_params (more p ps)) (more p ps) (after n scope))) (past_in (later_params (more p ps)) (more p ps) (past n (suc at))) token) rest) (append-push acc n (more p ps))

-- The first parameter: where it begins with `void`, its next token closes no list.

abbrev no_close : Terminal → Bool
no_close token = not (is_close_paren token)

word-no_close : (w : SpecWord) → no_close (word_token w) ≡ true
word-no_close (word.Tag true x members) = refl
word-no_close (word.Tag false x members) = refl
word-no_close _ = refl

declarator-no_close : (scope : Scope) (token : Terminal) → starts_declarator naming.Either scope token ≡ true → no_close token ≡ true
declarator-no_close scope (t.Mark mark.CloseParen) h = absurd (false≢true h)
declarator-no_close scope _ h = refl

not_close : (token : Terminal) → is_close_paren token ≡ false → no_close token ≡ true
not_close token h = ap not h

abbrev pub param_end : ℕ → List Symbol
param_end k = at_most_one k (declarator_of naming.Either (Declares false))

first-after-void : (ws : List SpecWord) (k : ℕ) (ps : Trees) (c : Class) (scope : Scope) (at : ℕ) (token : Terminal) (rest : List Terminal) →
    Fills c (spec_symbols ws ++ param_end k) scope at ps → (ws ≡ [] → k ≡ 0 → is_close_paren token ≡ false) →
    First no_close (spells (spec_symbols ws ++ param_end k) ps (token ∷ rest))
first-after-void [] zero none c scope at token rest h g = (token, rest, refl, not_close token (g refl refl))
first-after-void [] zero (more n ns) c scope at token rest h g = absurd h
first-after-void [] (suc k) none c scope at token rest h g = absurd h
first-after-void [] (suc k) (more n ns) c scope at token rest h g =
    first-along (starts_declarator naming.Either scope) no_close _ (declarator-no_close scope) (first-declarator n naming.Either 15 scope at _ h.0)
first-after-void (w ∷ ws) k ps c scope at token rest h g =
    let p = first_of_word w (spec_symbols ws ++ param_end k) ps (token ∷ rest) in
    (word_token w, p.0, ap (λ x. spells x ps (token ∷ rest)) (append_assoc (word_symbols w) (spec_symbols ws) (param_end k)) ∙ p.1, word-no_close w)

abbrev is_void : SpecWord → Bool
is_void word.Void = true
is_void _ = false

params-word : (inner : Bool) (w : SpecWord) → is_void w ≡ false → params_start inner (word_token w) ≡ Opens (head.ParamsStart inner)
params-word inner word.Void h = absurd (false≢true (sym h))
params-word inner (word.Tag true x members) h = refl
params-word inner (word.Tag false x members) h = refl
params-word inner _ h = refl

lone-void : (ps : Trees) (k : ℕ) (token : Terminal) (ws : List SpecWord) → k ≡ count ps - spec_parts (word.Void ∷ ws) →
    (is_close_paren token ≡ false) ⊎ (only_void (node (kind.Param (spec (word.Void ∷ ws))) 0 ps) ≡ false) → ws ≡ [] → k ≡ 0 → is_close_paren token ≡ false
lone-void ps k token ws e (inl h) a b = h
lone-void none k token [] e (inr h) a b = absurd (false≢true (sym h))
lone-void (more n ns) k token [] e (inr h) a b = absurd (omega (arith, e, b))
lone-void ps k token (w ∷ ws) e (inr h) a b = absurd (not_nil w ws a)
  where
    not_nil : (w : SpecWord) (ws : List SpecWord) → (w ∷ ws) ≡ [] → ⊥
    not_nil w ws e = false≢true (sym (ap is_cons e))
      where
        is_cons : List SpecWord → Bool
        is_cons [] = false
        is_cons (w ∷ ws) = true

void-opens : (inner : Bool) (from : ℕ) (acc : Trees) (tl : Told) (s : Stack) (scope : Scope) (at : ℕ) (ts : List Terminal) → First no_close ts →
    run (Some (state (record { head = head.ParamsVoid inner; from = from; parts = acc; told = tl } ∷ s) scope (suc at) None)) ts
    ≡ run (Some (state (fresh (head.Spec context.Param (word.Void ∷ [])) at ∷ record { head = head.ParamsStart inner; from = from; parts = acc; told = tl } ∷ s) scope (suc at) None)) ts
unfolding step
void-opens inner from acc tl s scope at ts p =
    let o : Frame = record { head = head.ParamsVoid inner; from = from; parts = acc; told = tl } in
    let q : Stack = fresh (head.Spec context.Param (word.Void ∷ [])) at ∷ record { head = head.ParamsStart inner; from = from; parts = acc; told = tl } ∷ s in
    ap (run (Some (state (o ∷ s) scope (suc at) None))) p.2
    ∙ ap (λ b. run (fed (state (choose b (o ∷ s) q) scope (suc at) None) p.0) p.1) (not-true (is_close_paren p.0) p.3)
    ∙ ap (run (Some (state q scope (suc at) None))) (sym p.2)

first-param-opens_in : (w : SpecWord) (ws : List SpecWord) (k : ℕ) (ps : Trees) (c : Class) (inner : Bool) (from : ℕ) (acc : Trees) (tl : Told) (s : Stack) (scope : Scope) (at : ℕ) (token : Terminal) (rest : List Terminal) →
    Fills c (spec_symbols (w ∷ ws) ++ param_end k) scope at ps → (is_void w ≡ true → ws ≡ [] → k ≡ 0 → is_close_paren token ≡ false) →
    run (Some (state (record { head = head.ParamsStart inner; from = from; parts = acc; told = tl } ∷ s) scope at None)) (spells (spec_symbols (w ∷ ws) ++ param_end k) ps (token ∷ rest))
    ≡ opened (record { head = head.ParamsStart inner; from = from; parts = acc; told = tl }) s scope at (spells (spec_symbols (w ∷ ws) ++ param_end k) ps (token ∷ rest))
unfolding step
first-param-opens_in word.Void ws k ps c inner from acc tl s scope at token rest h g =
    void-opens inner from acc tl s scope at (spells (spec_symbols ws ++ param_end k) ps (token ∷ rest)) (first-after-void ws k ps c scope (suc at) token rest h (g refl))
first-param-opens_in w ws k ps c inner from acc tl s scope at token rest h g =
    let o : Frame = record { head = head.ParamsStart inner; from = from; parts = acc; told = tl } in
    let p = first_of_word w (spec_symbols ws ++ param_end k) ps (token ∷ rest) in
    let e = ap (λ x. spells x ps (token ∷ rest)) (append_assoc (word_symbols w) (spec_symbols ws) (param_end k)) ∙ p.1 in
    ap (run (Some (state (o ∷ s) scope at None))) e
    ∙ ap (λ y. run (resolve o s scope at (word_token w) (λ x sd. settle s x sd at (word_token w)) y) p.0) (params-word inner w refl)
    ∙ ap (opened o s scope at) (sym e)

first-param-opens : (n : Tree) (inner : Bool) (from : ℕ) (acc : Trees) (tl : Told) (s : Stack) (scope : Scope) (at : ℕ) (token : Terminal) (rest : List Terminal) →
    Formed class.Param scope at n → (is_close_paren token ≡ false) ⊎ (only_void n ≡ false) →
    run (Some (state (record { head = head.ParamsStart inner; from = from; parts = acc; told = tl } ∷ s) scope at None)) (spell n (token ∷ rest))
    ≡ opened (record { head = head.ParamsStart inner; from = from; parts = acc; told = tl }) s scope at (spell n (token ∷ rest))
first-param-opens (node (kind.Param sp) p ps) inner from acc tl s scope at token rest f g = by_words sp.words ps f.3 f.4 g
  where
    lone : (w : SpecWord) (ws : List SpecWord) (ps : Trees) → (is_close_paren token ≡ false) ⊎ (only_void (node (kind.Param (spec (w ∷ ws))) 0 ps) ≡ false) →
        is_void w ≡ true → ws ≡ [] → count ps - spec_parts (w ∷ ws) ≡ 0 → is_close_paren token ≡ false
    lone word.Void ws ps g h a b = lone-void ps (count ps - spec_parts (word.Void ∷ ws)) token ws refl g a b
    lone w ws ps g h a b = absurd (false≢true h)

    by_words : (words : List SpecWord) (ps : Trees) → IsSpec false scope words →
        Fills class.Param (spec_symbols words ++ param_end (count ps - spec_parts words)) scope at ps →
        (is_close_paren token ≡ false) ⊎ (only_void (node (kind.Param (spec words)) 0 ps) ≡ false) →
        run (Some (state (record { head = head.ParamsStart inner; from = from; parts = acc; told = tl } ∷ s) scope at None)) (spells (spec_symbols words ++ param_end (count ps - spec_parts words)) ps (token ∷ rest))
        ≡ opened (record { head = head.ParamsStart inner; from = from; parts = acc; told = tl }) s scope at (spells (spec_symbols words ++ param_end (count ps - spec_parts words)) ps (token ∷ rest))
    by_words [] ps i h g = absurd (false≢true i)
    by_words (w ∷ ws) ps i h g = first-param-opens_in w ws (count ps - spec_parts (w ∷ ws)) ps class.Param inner from acc tl s scope at token rest h (lone w ws ps g)
first-param-opens (node _ p ps) inner from acc tl s scope at token rest f g = absurd f.1

-- what fills the places in a node of one class does so in one of another
pub recast : (c d : Class) → ((slot : Slot) → slot_class c slot ≡ slot_class d slot) → (symbols : List Symbol) (scope : Scope) (at : ℕ) (parts : Trees) →
    Fills c symbols scope at parts → Fills d symbols scope at parts
recast c d e [] scope at none h = tt
recast c d e [] scope at (more n ns) h = absurd h
recast c d e (Write x ∷ symbols) scope at parts h = recast c d e symbols scope (suc at) parts h
recast c d e (Enter ∷ symbols) scope at parts h = recast c d e symbols ([] ∷ scope) at parts h
recast c d e (Part slot r ∷ symbols) scope at none h = absurd h
recast c d e (Part slot r ∷ symbols) scope at (more n ns) h =
    (subst (λ x. Formed x scope at n) (e slot) h.0, recast c d e symbols (add r (told n scope) (after n scope)) (past n at) ns h.1)

pub only-param : (n : Tree) (scope : Scope) (at : ℕ) → Formed class.OnlyParam scope at n → Formed class.Param scope at n × (only_void n ≡ false)
only-param (node (kind.Param sp) p none) scope at f =
    ((f.0, tt, tt, f.3, recast class.OnlyParam class.Param same-slot (right_side (kind.Param sp) 0) scope at none f.4), f.2)
  where
    same-slot : (slot : Slot) → slot_class class.OnlyParam slot ≡ slot_class class.Param slot
    same-slot (Of c) = refl
    same-slot Last = refl
    same-slot Pointed = refl
    same-slot Direct = refl
    same-slot Grouped = refl
only-param (node (kind.Param sp) p (more n ns)) scope at f =
    ((f.0, tt, tt, f.3, recast class.OnlyParam class.Param same-slot (right_side (kind.Param sp) (count (more n ns))) scope at (more n ns) f.4), refl)
  where
    same-slot : (slot : Slot) → slot_class class.OnlyParam slot ≡ slot_class class.Param slot
    same-slot (Of c) = refl
    same-slot Last = refl
    same-slot Pointed = refl
    same-slot Direct = refl
    same-slot Grouped = refl
only-param (node _ p ps) scope at f = absurd f.1

-- behind the first parameter both go on alike at a comma
comma-either : (b : Bool) (inner : Bool) (from : ℕ) (acc : Trees) (tl : Told) (f : Frame) (s : Stack) (n : Read) (scope : Scope) (at : ℕ) →
    attach (record { head = head.ParamsStart inner; from = from; parts = acc; told = tl }) (f ∷ s) n scope at (t.Mark mark.Comma) (λ m sc. settle (f ∷ s) m sc at (t.Mark mark.Comma)) (first_param b inner)
    ≡ attach (record { head = head.ParamsStart inner; from = from; parts = acc; told = tl }) (f ∷ s) n scope at (t.Mark mark.Comma) (λ m sc. settle (f ∷ s) m sc at (t.Mark mark.Comma)) (To (head.ParamsNext inner))
comma-either true inner from acc tl f s n scope at = refl
comma-either false inner from acc tl f s n scope at = refl

params-read : (void_word : Bool) (ps : Trees) → Each Reads ps → (inner : Bool) (c : Class) (from : ℕ) (tl : Told) (f : Frame) (s : Stack) (acc : Trees) (scope : Scope) (at : ℕ) (token : Terminal) (rest : List Terminal) →
    Fills c (param_symbols void_word ps) scope at ps →
    run (Some (state (record { head = head.ParamsStart inner; from = from; parts = acc; told = tl } ∷ f ∷ s) scope at None)) (spells (param_symbols void_word ps) ps (token ∷ rest))
    ≡ run (settle (f ∷ s) (listed_node inner void_word from (append acc ps) tl (through (param_symbols void_word ps) ps scope)) (outer (through (param_symbols void_word ps) ps scope)) (past_in (param_symbols void_word ps) ps at) token) rest
unfolding step
params-read true none z inner c from tl f s acc scope at token rest h =
    ap (λ qs. run (settle (f ∷ s) (listed_node inner true from qs tl scope) (outer scope) (suc (suc at)) token) rest) (sym (append-none acc))
params-read true (more n ns) z inner c from tl f s acc scope at token rest h = absurd h
params-read false none z inner c from tl f s acc scope at token rest h =
    ap (λ qs. run (settle (f ∷ s) (listed_node inner false from qs tl scope) (outer scope) (suc at) token) rest) (sym (append-none acc))
params-read false (more n none) z inner c from tl f s acc scope at token rest h =
    let o : Frame = record { head = head.ParamsStart inner; from = from; parts = acc; told = tl } in
    let g = only-param n scope at h.0 in
    let next : Read → Scope → Option State = λ m sc. settle (f ∷ s) m sc (past n at) (t.Mark mark.CloseParen) in
    first-param-opens n inner from acc tl (f ∷ s) scope at (t.Mark mark.CloseParen) (token ∷ rest) g.0 (inr g.1)
    ∙ z.0 class.OnlyParam o (f ∷ s) scope at (t.Mark mark.CloseParen) (token ∷ rest) h.0 tt refl
    ∙ ap (λ b. run (attach o (f ∷ s) (read n scope) (after n scope) (past n at) (t.Mark mark.CloseParen) next (first_param b inner)) (token ∷ rest)) g.1
    ∙ ap (λ qs. run (settle (f ∷ s) (listed_node inner false from qs tl (after n scope)) (outer (after n scope)) (suc (past n at)) token) rest)
    (sym (append-none (push acc n)) ∙ append-push acc n none)
params-read false (more n (more p ps)) z inner c from tl f s acc scope at token rest h =
    let o : Frame = record { head = head.ParamsStart inner; from = from; parts = acc; told = tl } in
    let us : List Terminal = spells (part class.Param ∷ later_params ps) (more p ps) (token ∷ rest) in
    first-param-opens n inner from acc tl (f ∷ s) scope at (t.Mark mark.Comma) us h.0 (inl refl)
    ∙ z.0 class.Param o (f ∷ s) scope at (t.Mark mark.Comma) us h.0 tt refl
    ∙ ap (λ r. run r us) (comma-either (only_void n) inner from acc tl f s (read n scope) (after n scope) (past n at))
    ∙ params-later (more p ps) z.1 inner c from tl f s (push acc n) (after n scope) (past n at) token rest h.1
    ∙ ap (λ qs. run (settle (f ∷ s) (listed_node inner false from qs tl (through (later_params (more p ps)) (more p ps) (after n scope)))
    (outer (through (later_params (more p ps)) (more p ps) (after n scope))) (past_in (later_params (more p ps)) (more p ps) (past n at)) token) rest) (append-push acc n (more p ps))

param-type-name : (b : Bool) (x : List ℕ) → is_begun (begin_by (shift_if (b && true) (head.Spec context.Param (word.TypeName x ∷ [])) Refused)) ≡ true →
    is_begun (begin_by (shift_if (b && true) (head.Spec context.Type (word.TypeName x ∷ [])) Refused)) ≡ true
param-type-name true x h = h
param-type-name false x h = h

param-type : (scope : Scope) (token : Terminal) → starts_spec context.Param scope token ≡ true → begins_type scope token ≡ true
param-type scope (t.Name x) h = param-type-name (is_type scope x) x h
param-type scope (t.Key key.Sizeof) h = h
param-type scope (t.Key _) h = h
param-type scope _ h = h

pub first-param : (n : Tree) (scope : Scope) (at : ℕ) (rest : List Terminal) → Formed class.Param scope at n → First (starts_spec context.Param scope) (spell n rest)
first-param (node (kind.Param sp) token parts) scope at rest f = first-spec context.Param scope sp.words _ parts rest f.3
first-param (node _ token parts) scope at rest f = absurd f.1

abbrev begins_list : Scope → Terminal → Bool
begins_list scope token = or_close_paren (begins_type scope token) token

begins-list : (scope : Scope) (token : Terminal) → starts_spec context.Param ([] ∷ scope) token ≡ true → begins_list scope token ≡ true
begins-list scope token h = ap (λ b. choose b true (is_close_paren token)) (param-type ([] ∷ scope) token h)

list-first : (void_word : Bool) (ps : Trees) (c : Class) (scope : Scope) (at : ℕ) (rest : List Terminal) → Fills c (param_symbols void_word ps) ([] ∷ scope) at ps →
    First (begins_list scope) (spells (param_symbols void_word ps) ps rest)
list-first true ps c scope at rest h = (_, _, refl, refl)
list-first false none c scope at rest h = (_, _, refl, refl)
list-first false (more n none) c scope at rest h =
    first-along (starts_spec context.Param ([] ∷ scope)) (begins_list scope) _ (begins-list scope) (first-param n ([] ∷ scope) at _ (only-param n ([] ∷ scope) at h.0).0)
list-first false (more n (more p ps)) c scope at rest h =
    first-along (starts_spec context.Param ([] ∷ scope)) (begins_list scope) _ (begins-list scope) (first-param n ([] ∷ scope) at _ h.0)

list-opens : (m : Naming) (s : Stack) (scope : Scope) (at from : ℕ) (ts : List Terminal) → First (begins_list scope) ts →
    run (Some (state (fresh (head.DeclOpened m) from ∷ s) scope at None)) ts ≡ run (Some (state (fresh (head.ParamsStart false) from ∷ s) ([] ∷ scope) at None)) ts
unfolding step
list-opens m s scope at from ts p =
    ap (run (Some (state (fresh (head.DeclOpened m) from ∷ s) scope at None))) p.2
    ∙ ap (λ b. run (fed (choose b (state (fresh (head.ParamsStart false) from ∷ s) ([] ∷ scope) at None) (state (fresh (head.DeclGroup m) from ∷ s) scope at None)) p.0) p.1) p.3
    ∙ ap (run (Some (state (fresh (head.ParamsStart false) from ∷ s) ([] ∷ scope) at None))) (sym p.2)

group-begins : (m : Naming) → Leads m (false ≡ true) → begin_group m ≡ Pushes (head.DeclOpened m)
group-begins naming.Named g = absurd (false≢true g)
group-begins naming.Either g = refl
group-begins naming.Hidden g = refl
group-begins naming.Bare g = refl

reads-params : (inner void_word : Bool) (parts : Trees) → Each Reads parts → ReadsDeclarator (kind.Params inner void_word) parts
reads-params true void_word none z m l f s scope at token rest a g h w q = absurd h
reads-params true void_word (more n ns) z m l f s scope at token rest a g h w q =
    let ts : List Terminal = spells (param_symbols void_word ns) ns (token ∷ rest) in
    z.0 (class.Declarator m 16) f s scope at (t.Mark mark.OpenParen) ts h.0 (meets-direct (wanted f.head) m l w a) refl
    ∙ reads-join f s n (class.Declarator m 16) scope (after n scope) at (past n at) (t.Mark mark.OpenParen) (head.ParamsStart true) ts h.0
    (join-direct (wanted f.head) m l n (head.ParamsStart true) (t.Mark mark.OpenParen) w (formed-direct n m 16 scope at h.0) refl)
    ∙ params-read void_word ns z.1 true (class.Declarator m l) at (told n scope) f s (more n none) ([] ∷ after n scope) (suc (past n at)) token rest h.1
reads-params false void_word parts z m l f s scope at token rest a g h w q =
    let ts : List Terminal = spells (param_symbols void_word parts) parts (token ∷ rest) in
    reads-push f s scope at (t.Mark mark.OpenParen) (head.DeclOpened m) ts (begin-named scope (wanted f.head) m l (t.Mark mark.OpenParen) w ∙ group-begins m g)
    ∙ list-opens m (f ∷ s) scope (suc at) at ts (list-first void_word parts (class.Declarator m l) scope (suc at) (token ∷ rest) h)
    ∙ params-read void_word parts z false (class.Declarator m l) at nothing f s none ([] ∷ scope) (suc at) token rest h

pub reads-declarator : (k : Kind) (parts : Trees) → Each Reads parts → ReadsDeclarator k parts
reads-declarator (kind.DeclName x) parts z m l f s scope at token rest a g h w q = reads-declared_name x parts m l f s scope at token rest a g h w q
reads-declarator (kind.Star volatiles) parts z m l f s scope at token rest a g h w q = reads-star volatiles parts z m l f s scope at token rest a g h w q
reads-declarator (kind.Brackets inner sized) parts z m l f s scope at token rest a g h w q = reads-brackets inner sized parts z m l f s scope at token rest a g h w q
reads-declarator (kind.Params inner void_word) parts z m l f s scope at token rest a g h w q = reads-params inner void_word parts z m l f s scope at token rest a g h w q
reads-declarator kind.DeclParens parts z m l f s scope at token rest a g h w q = reads-decl_parens parts z m l f s scope at token rest a g h w q
reads-declarator _ parts z m l f s scope at token rest a g h w q = absurd a
