-- Statements are read.
use Rattle.std.proofs.Common.{◌≡◌, ℕ, zero, suc, ◌+◌, ◌-◌, ◌≤◌, ◌<◌, nat_le, Bool, true, false, ◌||◌, ◌&&◌, ◌⊎◌, inl, inr, not, List, [], ◌∷◌, ◌++◌, Option, Some, None, refl, sym, ap, subst, ◌∙◌, arith, ⊎_elim, append_assoc, append-nil, map}
use Rattle.std.specs.Prelude.{⊤}
use Rattle.std.proofs.lemmas.Bool.{false≢true, and_parts, not-true}
use Rattle.p9_lang.specs.declared.tree.CBinary.{CBinary}
use Rattle.p9_lang.specs.declared.tree.CBinary.TheVariants as operator
use Rattle.p9_lang.specs.declared.tree.CUnary.{CUnary}
use Rattle.p9_lang.specs.declared.tree.CUnary.TheVariants as unary
use Rattle.p9_lang.specs.declared.tree.EntryBy.{EntryBy}
use Rattle.p9_lang.specs.declared.tree.EntryBy.TheVariants as by
use Rattle.p9_lang.specs.declared.tree.SpecWord.{SpecWord}
use Rattle.p9_lang.specs.declared.tree.SpecWord.TheVariants as word
use Rattle.p9_lang.specs.declared.tree.Kind.{Kind}
use Rattle.p9_lang.specs.declared.tree.Kind.TheVariants as kind
use Rattle.p9_grammar.specs.declared.terminal.Keyword.{Keyword}
use Rattle.p9_grammar.specs.declared.terminal.Keyword.TheVariants as key
use Rattle.p9_grammar.specs.declared.terminal.Punctuator.{Punctuator}
use Rattle.p9_grammar.specs.declared.terminal.Punctuator.TheVariants as mark
use Rattle.p9_grammar.specs.declared.terminal.Terminal.{Terminal}
use Rattle.p9_grammar.specs.declared.terminal.Terminal.TheVariants as t
use Rattle.p9_grammar.specs.declared.head.Context.{Context}
use Rattle.p9_grammar.specs.declared.head.Context.TheVariants as context
use Rattle.p9_grammar.specs.declared.head.Naming.{Naming}
use Rattle.p9_grammar.specs.declared.head.Naming.TheVariants as naming
use Rattle.p9_grammar.specs.declared.head.Class.{Class}
use Rattle.p9_grammar.specs.declared.head.Class.TheVariants as class
use Rattle.p9_grammar.specs.declared.head.Head.{Head}
use Rattle.p9_grammar.specs.declared.head.Head.TheVariants as head
use Rattle.p9_grammar.specs.Trees.{Tree, node, Trees, none, more, count, push}
use Rattle.p9_grammar.specs.Symbols.{Symbol, Write, Part, Enter, Slot, Of, Last, Pointed, Direct, Grouped, Role, Plain, Declares, Begins, part, sign, keyword, right_side, binds, binary_sign, unary_sign, assignment_sign, step_sign, dot_sign, expression, assignment, conditional, operand, later, listed, many, optional, at_most_one, branches, texts, spec_symbols, word_symbols, spec_parts, is_typedef, declarator, declarator_of, declarators, later_declarators, initialiser, qualifier, inner_declarator, parameters, parameter_list, behind, entry_place, named, in_braces, tag_key}
use Rattle.p9_grammar.specs.Scopes.{Scope, Level, is_type, after, told, told_first, through, add, leave, tells, nothing, Told, innermost, outer}
use Rattle.p9_grammar.specs.Grammar.{Sort, sort, Accepts, Suits, Asks, Formed, Fills, slot_class, naming_of, may_of, past, past_in, is_assignable, SpecFrom, IsSpec, may_follow, has_type, is_known, is_void_word, pointed, grouped}
use Rattle.p9_grammar.specs.Machine.{Frame, Read, Stack, State, state, to, fresh, moved, made, leaf, start_of, step, run, begin, begin_by, begin_spec, begin_expression, begin_declarator, begin_statement, begin_switch_item, begin_initialiser, only_if, or_else, Begin, Pushes, Leaf, Under, Nowhere, Move, Shift, Ends, Opens, Over, Refused, After, To, Makes, Unwanted, Join, Joins, Posts, Lengthens, Apart, opening, inside, resolve, attach, attached, joining, join, join_at, join_if, join_expression, join_declarator, settle, going, feed, decide, choose, wanted, role, retold, enters, opens, Infix, Binds, No, binding, binary, assigns, level_of, direct_of, move, spec_move, begins_type, allows_storage, spec, shift_if, ends_spec, paren_or, brace_or, semicolon_or, bracket_or}
use Rattle.p9_grammar.proofs.Spelling.{spell, spells}
use Rattle.p9_grammar.proofs.Reading.{opened, read, Meets, calm, calm_at, quiet, is_no_else, ends_param, ends_type, ends_constant, follows, Reads, Each, ReadsNode, opens-up}
use Rattle.p9_grammar.proofs.Calm.{le_true, le_false, true_le, low, low-calm, low-apart, Edge, calm-low, quiet-apart, quiet-less}
use Rattle.p9_grammar.proofs.First.{First, starts, starts_expression, starts_declarator, starts_statement, starts_switch_item, starts_initialiser, starts_entry, starts_spec, first-expression, first-declarator, first-spec, word_token, word_head, moves-word, first_of_word, first-along}
use Rattle.p9_grammar.specs.Machine.{is_begun, only_if, begin_entry, begin_body, begin_constant, fed, else_move, stepped}
use Rattle.p9_grammar.specs.Grammar.{Expression, Declarator, Braced, Entry, Param, TypeName, Member, Constant, Declaration, Function, Block, Statement, Label}
use Rattle.p9_grammar.proofs.Expressions.{append, append-push, append-none, formed-start, formed-level, reads-leaf, reads-push, reads-join, reads-apart, opens-first, no-type, first-type, join-tight, calm-left}

-- what is accepted as read is accepted where it is wanted
expression-accepts : (k l : ℕ) (x : Sort) → k ≤ l → Accepts (class.Expression l) x → Accepts (class.Expression k) x
expression-accepts k l (Expression j) h a = omega (arith, h, a)
expression-accepts k l _ h a = absurd a

initialiser-accepts : (l : ℕ) (x : Sort) → 2 ≤ l → Accepts (class.Expression l) x → Accepts class.Initialiser x
initialiser-accepts l (Expression j) h a = omega (arith, h, a)
initialiser-accepts l _ h a = absurd a

declarator-accepts : (m n : Naming) (k l : ℕ) (x : Sort) → k ≤ l → Accepts (class.Declarator n l) x → Accepts (class.Declarator m k) x
declarator-accepts m n k l (Declarator j) h a = omega (arith, h, a)
declarator-accepts m n k l _ h a = absurd a

param-accepts : (x : Sort) → Accepts class.OnlyParam x → Accepts class.Param x
param-accepts Param a = tt
param-accepts _ a = absurd a

statement-accepts : (m n : Bool) (x : Sort) → Accepts (class.Statement n) x → Accepts (class.Statement m) x
statement-accepts m n Block a = tt
statement-accepts m n Statement a = tt
statement-accepts m n _ a = absurd a

pub meets-accepts : (w c : Class) (x : Sort) → Meets w c → Accepts c x → Accepts w x
meets-accepts (class.Expression k) (class.Expression l) x h a = expression-accepts k l x h a
meets-accepts class.Initialiser (class.Expression l) x h a = initialiser-accepts l x h a
meets-accepts class.Initialiser class.Initialiser x h a = a
meets-accepts (class.Declarator m k) (class.Declarator n l) x h a = declarator-accepts m n k l x h.1 a
meets-accepts class.Entry class.Entry x h a = a
meets-accepts class.Param class.Param x h a = a
meets-accepts class.Param class.OnlyParam x h a = param-accepts x a
meets-accepts class.Type class.Type x h a = a
meets-accepts class.Member class.Member x h a = a
meets-accepts class.Constant class.Constant x h a = a
meets-accepts class.FileItem class.FileItem x h a = a
meets-accepts class.HeadItem class.HeadItem x h a = a
meets-accepts class.BlockItem class.BlockItem x h a = a
meets-accepts (class.Statement m) (class.Statement n) x h a = statement-accepts m n x a
meets-accepts class.SwitchItem class.SwitchItem x h a = a
meets-accepts class.Body class.Body x h a = a
meets-accepts _ _ x h a = absurd h

-- How a statement begins

pub statement-begins : (scope : Scope) (w : Class) (token : Terminal) (b : Begin) → Accepts w Statement → begin_statement token ≡ b →
    begin_spec scope context.Local token ≡ Nowhere → begin_switch_item token ≡ begin_statement token → begin scope w token ≡ b
statement-begins scope class.BlockItem token b a e g h = ap (λ x. or_else x (begin_statement token)) g ∙ e
statement-begins scope (class.Statement may) token b a e g h = e
statement-begins scope class.SwitchItem token b a e g h = h ∙ e
statement-begins scope _ token b a e g h = absurd a

block-begins : (scope : Scope) (w : Class) → Accepts w Block → begin scope w (t.Mark mark.OpenBrace) ≡ Pushes head.BlockItems
block-begins scope class.BlockItem a = refl
block-begins scope (class.Statement may) a = refl
block-begins scope class.SwitchItem a = refl
block-begins scope class.Body a = refl
block-begins scope _ a = absurd a

starts-true : (b : Bool) (k : Kind) → is_begun (only_if (not b) (Leaf k)) ≡ true → b ≡ false
starts-true true k h = absurd (false≢true h)
starts-true false k h = refl

pub no-spec : (scope : Scope) (c : Context) (token : Terminal) → starts_expression scope token ≡ true → begin_spec scope c token ≡ Nowhere
no-spec scope c (t.Key key.Sizeof) h = refl
no-spec scope c (t.Key _) h = absurd (false≢true h)
no-spec scope c (t.Name x) h =
    ap (λ b. begin_by (shift_if (b && may_follow (allows_storage c) [] (word.TypeName x)) (head.Spec c (word.TypeName x ∷ [])) Refused)) (starts-true (is_type scope x) (kind.Name x) h)
no-spec scope c _ h = refl

under-expression : (scope : Scope) (token : Terminal) → starts_expression scope token ≡ true → begin_statement token ≡ Under head.ExpressionOf
under-expression scope (t.Key key.Sizeof) h = refl
under-expression scope (t.Key _) h = absurd (false≢true h)
under-expression scope (t.Mark mark.OpenBrace) h = absurd (false≢true h)
under-expression scope (t.Mark mark.Semicolon) h = absurd (false≢true h)
under-expression scope _ h = refl

no-label : (scope : Scope) (token : Terminal) → starts_expression scope token ≡ true → begin_switch_item token ≡ begin_statement token
no-label scope (t.Key key.Sizeof) h = refl
no-label scope (t.Key _) h = absurd (false≢true h)
no-label scope _ h = refl

-- an expression is no node that begins with another
if-inside : (b : Bool) (k : Kind) (s : Stack) (scope : Scope) (at : ℕ) (token : Terminal) →
    inside s scope at (only_if b (Leaf k)) ≡ opening s scope at token (only_if b (Leaf k))
if-inside true k s scope at token = refl
if-inside false k s scope at token = refl

pub inside-expression : (s : Stack) (scope : Scope) (at : ℕ) (token : Terminal) →
    inside s scope at (begin_expression scope 1 token) ≡ opening s scope at token (begin_expression scope 1 token)
inside-expression s scope at (t.Name x) = if-inside (not (is_type scope x)) (kind.Name x) s scope at (t.Name x)
inside-expression s scope at (t.Key key.Sizeof) = refl
inside-expression s scope at (t.Key _) = refl
inside-expression s scope at (t.Mark mark.OpenParen) = refl
inside-expression s scope at (t.Mark mark.Ampersand) = refl
inside-expression s scope at (t.Mark mark.Star) = refl
inside-expression s scope at (t.Mark mark.Plus) = refl
inside-expression s scope at (t.Mark mark.Minus) = refl
inside-expression s scope at (t.Mark mark.Tilde) = refl
inside-expression s scope at (t.Mark mark.Bang) = refl
inside-expression s scope at (t.Mark mark.PlusPlus) = refl
inside-expression s scope at (t.Mark mark.MinusMinus) = refl
inside-expression s scope at (t.Mark _) = refl
inside-expression s scope at (t.Number value unsigned long) = refl
inside-expression s scope at (t.Character value) = refl
inside-expression s scope at (t.Text x) = refl
inside-expression s scope at t.End = refl
inside-expression s scope at t.Other = refl

statement-opens : (f : Frame) (s : Stack) (scope : Scope) (at : ℕ) (ts : List Terminal) → Accepts (wanted f.head) Statement → First (starts_expression scope) ts →
    opened f s scope at ts ≡ opened (fresh head.ExpressionOf at) (f ∷ s) scope at ts
statement-opens f s scope at ts a p =
    ap (opened f s scope at) p.2
    ∙ ap (λ b. run (opening (f ∷ s) scope at p.0 b) p.1)
    (statement-begins scope (wanted f.head) p.0 (Under head.ExpressionOf) a (under-expression scope p.0 p.3) (no-spec scope context.Local p.0 p.3) (no-label scope p.0 p.3))
    ∙ ap (λ r. run r p.1) (inside-expression (fresh head.ExpressionOf at ∷ f ∷ s) scope at p.0)
    ∙ ap (opened (fresh head.ExpressionOf at) (f ∷ s) scope at) (sym p.2)

-- The first token of an item of a block or of a switch

starts-more : (scope : Scope) (token : Terminal) → starts_expression scope token ≡ true → starts_statement scope token ≡ true
starts-more scope (t.Key key.Sizeof) h = refl
starts-more scope (t.Key _) h = absurd (false≢true h)
starts-more scope (t.Mark mark.OpenBrace) h = refl
starts-more scope (t.Mark mark.Semicolon) h = refl
starts-more scope _ h = h

first-statement_in : (k : Kind) (parts : Trees) (c : Class) (scope : Scope) (at : ℕ) (rest : List Terminal) → Accepts (class.Statement true) (sort k) →
    Fills c (right_side k (count parts)) scope at parts → First (starts_statement scope) (spells (right_side k (count parts)) parts rest)
first-statement_in kind.Block parts c scope at rest a h = (_, _, refl, refl)
first-statement_in kind.Expression none c scope at rest a h = (_, _, refl, refl)
first-statement_in kind.Expression (more n ns) c scope at rest a h =
    first-along (starts_expression scope) (starts_statement scope) _ (starts-more scope) (first-expression n 1 scope at _ h.0)
first-statement_in kind.If parts c scope at rest a h = (_, _, refl, refl)
first-statement_in kind.While parts c scope at rest a h = (_, _, refl, refl)
first-statement_in kind.Do parts c scope at rest a h = (_, _, refl, refl)
first-statement_in (kind.For first test step) parts c scope at rest a h = (_, _, refl, refl)
first-statement_in kind.Switch parts c scope at rest a h = (_, _, refl, refl)
first-statement_in kind.Break parts c scope at rest a h = (_, _, refl, refl)
first-statement_in kind.Continue parts c scope at rest a h = (_, _, refl, refl)
first-statement_in kind.Return parts c scope at rest a h = (_, _, refl, refl)
first-statement_in _ parts c scope at rest a h = absurd a

or-right : (a b : Bool) → b ≡ true → (a || b) ≡ true
or-right true b h = refl
or-right false b h = h

or-left : (a b : Bool) → a ≡ true → (a || b) ≡ true
or-left a b h = ap (λ x. x || b) h

pub first-block_item : (n : Tree) (scope : Scope) (at : ℕ) (rest : List Terminal) → Formed class.BlockItem scope at n → First (starts class.BlockItem scope) (spell n rest)
first-block_item (node (kind.Declaration sp inits) token parts) scope at rest f =
    first-along (starts_spec context.Local scope) (starts class.BlockItem scope) _ (λ u v. or-left _ (starts_statement scope u) v)
    (first-spec context.Local scope sp.words _ parts rest f.3)
first-block_item (node k token parts) scope at rest f =
    first-along (starts_statement scope) (starts class.BlockItem scope) _ (λ u v. or-right (starts_spec context.Local scope u) _ v)
    (first-statement_in k parts class.BlockItem scope at rest f.1 f.4)

switch-more : (scope : Scope) (token : Terminal) → starts_statement scope token ≡ true → starts_switch_item scope token ≡ true
switch-more scope (t.Key key.Case) h = refl
switch-more scope (t.Key key.Default) h = refl
switch-more scope _ h = h

pub first-switch_item : (n : Tree) (scope : Scope) (at : ℕ) (rest : List Terminal) → Formed class.SwitchItem scope at n → First (starts class.SwitchItem scope) (spell n rest)
first-switch_item (node kind.Case token parts) scope at rest f = (_, _, refl, refl)
first-switch_item (node kind.Default token parts) scope at rest f = (_, _, refl, refl)
first-switch_item (node k token parts) scope at rest f =
    first-along (starts_statement scope) (starts_switch_item scope) _ (switch-more scope)
    (first-statement_in k parts class.SwitchItem scope at rest f.1 f.4)

-- what the first token of an item isn't

block-first-brace : (scope : Scope) (token : Terminal) → starts class.BlockItem scope token ≡ true → brace_or (Ends kind.Block) (Opens head.BlockItems) token ≡ Opens head.BlockItems
block-first-brace scope (t.Mark mark.CloseBrace) h = absurd (false≢true h)
block-first-brace scope _ h = refl

block-first-else : (scope : Scope) (token : Terminal) → starts class.BlockItem scope token ≡ true → is_no_else token ≡ true
block-first-else scope (t.Key key.Else) h = absurd (false≢true h)
block-first-else scope _ h = refl

switch-first-brace : (scope : Scope) (token : Terminal) → starts_switch_item scope token ≡ true → brace_or (Ends kind.Switch) (Opens head.SwitchItems) token ≡ Opens head.SwitchItems
switch-first-brace scope (t.Mark mark.CloseBrace) h = absurd (false≢true h)
switch-first-brace scope _ h = refl

switch-first-else : (scope : Scope) (token : Terminal) → starts_switch_item scope token ≡ true → is_no_else token ≡ true
switch-first-else scope (t.Key key.Else) h = absurd (false≢true h)
switch-first-else scope _ h = refl

abbrev pub ReadsStatement : Kind → Trees → Type 0
ReadsStatement k parts =
    (c : Class) (f : Frame) (s : Stack) (scope : Scope) (at : ℕ) (token : Terminal) (rest : List Terminal) →
    Accepts c (sort k) → Suits c scope k (count parts) → Fills c (right_side k (count parts)) scope at parts → Accepts (wanted f.head) (sort k) →
    follows c token ≡ true →
    opened f s scope at (spell (node k at parts) (token ∷ rest))
    ≡ run (settle (f ∷ s) (read (node k at parts) scope) (after (node k at parts) scope) (past (node k at parts) at) token) rest

-- Blocks

abbrev block_symbols : Trees → List Symbol
block_symbols ns = many (count ns) class.BlockItem ++ (sign mark.CloseBrace ∷ [])

first-of-items : (ns : Trees) (c : Class) (scope : Scope) (at : ℕ) (rest : List Terminal) → Fills c (block_symbols ns) scope at ns →
    First is_no_else (spells (block_symbols ns) ns rest)
first-of-items none c scope at rest h = (_, _, refl, refl)
first-of-items (more n ns) c scope at rest h =
    first-along (starts class.BlockItem scope) is_no_else _ (block-first-else scope) (first-block_item n scope at _ h.0)

block-items : (ns : Trees) → Each Reads ns → (c : Class) (from : ℕ) (told : Told) (f : Frame) (s : Stack) (acc : Trees) (scope : Scope) (at : ℕ) (token : Terminal) (rest : List Terminal) →
    Fills c (block_symbols ns) scope at ns →
    run (Some (state (record { head = head.BlockItems; from = from; parts = acc; told = told } ∷ f ∷ s) scope at None)) (spells (block_symbols ns) ns (token ∷ rest))
    ≡ run (settle (f ∷ s) (record { tree = node kind.Block from (append acc ns); told = nothing })
    (outer (through (block_symbols ns) ns scope)) (past_in (block_symbols ns) ns at) token) rest
unfolding step
block-items none z c from told f s acc scope at token rest h =
    ap (λ ps. run (settle (f ∷ s) (record { tree = node kind.Block from ps; told = nothing }) (outer scope) (suc at) token) rest) (sym (append-none acc))
block-items (more n ns) z c from told f s acc scope at token rest h =
    let o : Frame = record { head = head.BlockItems; from = from; parts = acc; told = told } in
    let ts : List Terminal = spells (block_symbols ns) ns (token ∷ rest) in
    let p = first-of-items ns c (after n scope) (past n at) (token ∷ rest) h.1 in
    opens-first (starts class.BlockItem scope) o (f ∷ s) o (f ∷ s) scope scope at (spell n ts) (first-block_item n scope at ts h.0)
    (λ u v. ap (λ y. resolve o (f ∷ s) scope at u (λ x sd. settle (f ∷ s) x sd at u) y) (block-first-brace scope u v))
    ∙ ap (λ us. opened o (f ∷ s) scope at (spell n us)) p.2
    ∙ z.0 class.BlockItem o (f ∷ s) scope at p.0 p.1 h.0 tt p.3
    ∙ ap (run (Some (state (record { head = head.BlockItems; from = from; parts = push acc n; told = told } ∷ f ∷ s) (after n scope) (past n at) None))) (sym p.2)
    ∙ block-items ns z.1 c from told f s (push acc n) (after n scope) (past n at) token rest h.1
    ∙ ap (λ ps. run (settle (f ∷ s) (record { tree = node kind.Block from ps; told = nothing })
    (outer (through (block_symbols ns) ns (after n scope))) (past_in (block_symbols ns) ns (past n at)) token) rest) (append-push acc n ns)

pub reads-block : (parts : Trees) → Each Reads parts → ReadsStatement kind.Block parts
reads-block parts z c f s scope at token rest a g h w q =
    reads-push f s scope at (t.Mark mark.OpenBrace) head.BlockItems (spells (block_symbols parts) parts (token ∷ rest)) (block-begins scope (wanted f.head) w)
    ∙ block-items parts z c at nothing f s none ([] ∷ scope) (suc at) token rest h

-- Expressions as statements

reads-expression_statement : (parts : Trees) → Each Reads parts → ReadsStatement kind.Expression parts
unfolding step
reads-expression_statement none z c f s scope at token rest a g h w q =
    reads-leaf f s scope at (t.Mark mark.Semicolon) kind.Expression token rest
    (statement-begins scope (wanted f.head) (t.Mark mark.Semicolon) (Leaf kind.Expression) w refl refl refl)
reads-expression_statement (more n none) z c f s scope at token rest a g h w q =
    let ts : List Terminal = t.Mark mark.Semicolon ∷ token ∷ rest in
    statement-opens f s scope at (spell n ts) w (first-expression n 1 scope at ts h.0)
    ∙ z.0 expression (fresh head.ExpressionOf at) (f ∷ s) scope at (t.Mark mark.Semicolon) (token ∷ rest) h.0 (omega arith) refl
reads-expression_statement (more n (more o ns)) z c f s scope at token rest a g h w q = absurd h.1

-- Statements with a keyword

-- the statement at the end of one
last-follows : (c : Class) (token : Terminal) → Accepts c Statement → follows c token ≡ true → follows (class.Statement (may_of c)) token ≡ true
last-follows class.BlockItem token a h = h
last-follows (class.Statement true) token a h = h
last-follows (class.Statement false) token a h = h
last-follows class.SwitchItem token a h = h
last-follows _ token a h = absurd a

key-begins : (scope : Scope) (w : Class) (token : Terminal) (h : Head) → Accepts w Statement → begin_statement token ≡ Pushes h →
    begin_spec scope context.Local token ≡ Nowhere → begin_switch_item token ≡ begin_statement token → begin scope w token ≡ Pushes h
key-begins scope w token h a e g i = statement-begins scope w token (Pushes h) a e g i

reads-while : (parts : Trees) → Each Reads parts → ReadsStatement kind.While parts
unfolding step
reads-while none z c f s scope at token rest a g h w q = absurd h
reads-while (more n none) z c f s scope at token rest a g h w q = absurd h.1
reads-while (more n (more o none)) z c f s scope at token rest a g h w q =
    let ts : List Terminal = t.Mark mark.CloseParen ∷ spell o (token ∷ rest) in
    let u : Frame = record { head = head.WhileTest; from = at; parts = none; told = nothing } in
    let v : Frame = record { head = head.WhileBody; from = at; parts = more n none; told = nothing } in
    let here : ℕ = suc (suc at) in
    reads-push f s scope at (t.Key key.While) head.WhileStart (t.Mark mark.OpenParen ∷ spell n ts) (key-begins scope (wanted f.head) (t.Key key.While) head.WhileStart w refl refl refl)
    ∙ opens-up u (f ∷ s) scope here (λ x. refl) (spell n ts)
    ∙ z.0 expression u (f ∷ s) scope here (t.Mark mark.CloseParen) (spell o (token ∷ rest)) h.0 (omega arith) refl
    ∙ opens-up v (f ∷ s) (after n scope) (suc (past n here)) (λ x. refl) (spell o (token ∷ rest))
    ∙ z.1.0 (class.Statement (may_of c)) v (f ∷ s) (after n scope) (suc (past n here)) token rest h.1.0 refl (last-follows c token a q)
reads-while (more n (more o (more p ns))) z c f s scope at token rest a g h w q = absurd h.1.1

reads-do : (parts : Trees) → Each Reads parts → ReadsStatement kind.Do parts
unfolding step
reads-do none z c f s scope at token rest a g h w q = absurd h
reads-do (more n none) z c f s scope at token rest a g h w q = absurd h.1
reads-do (more n (more o none)) z c f s scope at token rest a g h w q =
    let us : List Terminal = t.Mark mark.CloseParen ∷ t.Mark mark.Semicolon ∷ token ∷ rest in
    let ts : List Terminal = t.Mark mark.OpenParen ∷ spell o us in
    let u : Frame = record { head = head.DoBody; from = at; parts = none; told = nothing } in
    let v : Frame = record { head = head.DoTest; from = at; parts = more n none; told = nothing } in
    let here : ℕ = suc (suc (past n (suc at))) in
    reads-push f s scope at (t.Key key.Do) head.DoBody (spell n (t.Key key.While ∷ ts)) (key-begins scope (wanted f.head) (t.Key key.Do) head.DoBody w refl refl refl)
    ∙ opens-up u (f ∷ s) scope (suc at) (λ x. refl) (spell n (t.Key key.While ∷ ts))
    ∙ z.0 (class.Statement true) u (f ∷ s) scope (suc at) (t.Key key.While) ts h.0 refl refl
    ∙ opens-up v (f ∷ s) (after n scope) here (λ x. refl) (spell o us)
    ∙ z.1.0 expression v (f ∷ s) (after n scope) here (t.Mark mark.CloseParen) (t.Mark mark.Semicolon ∷ token ∷ rest) h.1.0 (omega arith) refl
reads-do (more n (more o (more p ns))) z c f s scope at token rest a g h w q = absurd h.1.1

no-else : (token : Terminal) → is_no_else token ≡ true → else_move token ≡ Over kind.If
no-else (t.Key key.Else) h = absurd (false≢true h)
no-else _ h = refl

may-end : (c : Class) (token : Terminal) (scope : Scope) → Accepts c Statement → Suits c scope kind.If 2 → follows c token ≡ true → is_no_else token ≡ true
may-end class.BlockItem token scope a g h = h
may-end (class.Statement true) token scope a g h = h
may-end (class.Statement false) token scope a g h = absurd (omega (arith, g))
may-end class.SwitchItem token scope a g h = h
may-end _ token scope a g h = absurd a

reads-if : (parts : Trees) → Each Reads parts → ReadsStatement kind.If parts
unfolding step
reads-if none z c f s scope at token rest a g h w q = absurd h
reads-if (more n none) z c f s scope at token rest a g h w q = absurd h.1
reads-if (more n (more o none)) z c f s scope at token rest a g h w q =
    let ts : List Terminal = t.Mark mark.CloseParen ∷ spell o (token ∷ rest) in
    let u : Frame = record { head = head.IfTest; from = at; parts = none; told = nothing } in
    let v : Frame = record { head = head.IfThen; from = at; parts = more n none; told = nothing } in
    let x : Frame = record { head = head.IfThenEnd; from = at; parts = more n (more o none); told = nothing } in
    let here : ℕ = suc (suc at) in
    let there : ℕ = suc (past n here) in
    reads-push f s scope at (t.Key key.If) head.IfStart (t.Mark mark.OpenParen ∷ spell n ts) (key-begins scope (wanted f.head) (t.Key key.If) head.IfStart w refl refl refl)
    ∙ opens-up u (f ∷ s) scope here (λ y. refl) (spell n ts)
    ∙ z.0 expression u (f ∷ s) scope here (t.Mark mark.CloseParen) (spell o (token ∷ rest)) h.0 (omega arith) refl
    ∙ opens-up v (f ∷ s) (after n scope) there (λ y. refl) (spell o (token ∷ rest))
    ∙ z.1.0 (class.Statement (may_of c)) v (f ∷ s) (after n scope) there token rest h.1.0 refl (last-follows c token a q)
    ∙ ap (λ m. run (resolve x (f ∷ s) (after o (after n scope)) (past o there) token (λ y sd. settle (f ∷ s) y sd (past o there) token) m) rest)
    (no-else token (may-end c token scope a g q))
reads-if (more n (more o (more p none))) z c f s scope at token rest a g h w q =
    let us : List Terminal = spell p (token ∷ rest) in
    let ts : List Terminal = t.Mark mark.CloseParen ∷ spell o (t.Key key.Else ∷ us) in
    let u : Frame = record { head = head.IfTest; from = at; parts = none; told = nothing } in
    let v : Frame = record { head = head.IfThen; from = at; parts = more n none; told = nothing } in
    let x : Frame = record { head = head.IfElse; from = at; parts = more n (more o none); told = nothing } in
    let here : ℕ = suc (suc at) in
    let there : ℕ = suc (past n here) in
    let last : ℕ = suc (past o there) in
    reads-push f s scope at (t.Key key.If) head.IfStart (t.Mark mark.OpenParen ∷ spell n ts) (key-begins scope (wanted f.head) (t.Key key.If) head.IfStart w refl refl refl)
    ∙ opens-up u (f ∷ s) scope here (λ y. refl) (spell n ts)
    ∙ z.0 expression u (f ∷ s) scope here (t.Mark mark.CloseParen) (spell o (t.Key key.Else ∷ us)) h.0 (omega arith) refl
    ∙ opens-up v (f ∷ s) (after n scope) there (λ y. refl) (spell o (t.Key key.Else ∷ us))
    ∙ z.1.0 (class.Statement false) v (f ∷ s) (after n scope) there (t.Key key.Else) us h.1.0 refl refl
    ∙ opens-up x (f ∷ s) (after o (after n scope)) last (λ y. refl) us
    ∙ z.1.1.0 (class.Statement (may_of c)) x (f ∷ s) (after o (after n scope)) last token rest h.1.1.0 refl (last-follows c token a q)
reads-if (more n (more o (more p (more r ns)))) z c f s scope at token rest a g h w q = absurd h.1.1.1

-- `for`, from its last part on

abbrev body_symbols : List Symbol
body_symbols = Part Last Plain ∷ []

abbrev step_symbols : Bool → List Symbol
step_symbols step = optional step (part expression) ++ (sign mark.CloseParen ∷ body_symbols)

abbrev test_symbols : Bool → Bool → List Symbol
test_symbols test step = optional test (part expression) ++ (sign mark.Semicolon ∷ step_symbols step)

abbrev first_symbols : Bool → Bool → Bool → List Symbol
first_symbols first test step = optional first (part expression) ++ (sign mark.Semicolon ∷ test_symbols test step)

-- from an open `for`, with these symbols and parts before it, the reader comes to its end
abbrev ForFrom : Head → (first test step : Bool) → List Symbol → Trees → Type 0
ForFrom o first test step symbols parts =
    (c : Class) (f : Frame) (s : Stack) (from : ℕ) (acc : Trees) (scope : Scope) (at : ℕ) (token : Terminal) (rest : List Terminal) →
    Accepts c Statement → Fills c symbols scope at parts → follows c token ≡ true →
    run (Some (state (record { head = o; from = from; parts = acc; told = nothing } ∷ f ∷ s) scope at None)) (spells symbols parts (token ∷ rest))
    ≡ run (settle (f ∷ s) (record { tree = node (kind.For first test step) from (append acc parts); told = nothing })
    (through symbols parts scope) (past_in symbols parts at) token) rest

for-body : (first test step : Bool) (parts : Trees) → Each Reads parts → ForFrom (head.ForBody first test step) first test step body_symbols parts
for-body first test step none z c f s from acc scope at token rest a h q = absurd h
for-body first test step (more n none) z c f s from acc scope at token rest a h q =
    let o : Frame = record { head = head.ForBody first test step; from = from; parts = acc; told = nothing } in
    opens-up o (f ∷ s) scope at (λ y. refl) (spell n (token ∷ rest))
    ∙ z.0 (class.Statement (may_of c)) o (f ∷ s) scope at token rest h.0 refl (last-follows c token a q)
    ∙ ap (λ ps. run (settle (f ∷ s) (record { tree = node (kind.For first test step) from ps; told = nothing }) (after n scope) (past n at) token) rest)
    (sym (append-none (push acc n)) ∙ append-push acc n none)
for-body first test step (more n (more o ns)) z c f s from acc scope at token rest a h q = absurd h.1

for-paren : (scope : Scope) (m o : Move) (token : Terminal) → starts_expression scope token ≡ true → paren_or m o token ≡ o
for-paren scope m o (t.Mark mark.CloseParen) h = absurd (false≢true h)
for-paren scope m o _ h = refl

for-semicolon : (scope : Scope) (m o : Move) (token : Terminal) → starts_expression scope token ≡ true → semicolon_or m o token ≡ o
for-semicolon scope m o (t.Mark mark.Semicolon) h = absurd (false≢true h)
for-semicolon scope m o _ h = refl

append-one : (first test step : Bool) (f : Frame) (s : Stack) (from : ℕ) (acc : Trees) (n : Tree) (ns : Trees) (scope : Scope) (at : ℕ) (token : Terminal) (rest : List Terminal) →
    run (settle (f ∷ s) (record { tree = node (kind.For first test step) from (append (push acc n) ns); told = nothing }) scope at token) rest
    ≡ run (settle (f ∷ s) (record { tree = node (kind.For first test step) from (append acc (more n ns)); told = nothing }) scope at token) rest
append-one first test step f s from acc n ns scope at token rest =
    ap (λ ps. run (settle (f ∷ s) (record { tree = node (kind.For first test step) from ps; told = nothing }) scope at token) rest) (append-push acc n ns)

for-step : (first test step : Bool) (parts : Trees) → Each Reads parts → ForFrom (head.ForStep first test) first test step (step_symbols step) parts
unfolding step
for-step first test false parts z c f s from acc scope at token rest a h q =
    for-body first test false parts z c f s from acc scope (suc at) token rest a h q
for-step first test true none z c f s from acc scope at token rest a h q = absurd h
for-step first test true (more n ns) z c f s from acc scope at token rest a h q =
    let o : Frame = record { head = head.ForStep first test; from = from; parts = acc; told = nothing } in
    let us : List Terminal = spells body_symbols ns (token ∷ rest) in
    opens-first (starts_expression scope) o (f ∷ s) o (f ∷ s) scope scope at (spell n (t.Mark mark.CloseParen ∷ us)) (first-expression n 1 scope at _ h.0)
    (λ u v. ap (λ y. resolve o (f ∷ s) scope at u (λ x sd. settle (f ∷ s) x sd at u) y) (for-paren scope (Shift (head.ForBody first test false)) (Opens (head.ForStep first test)) u v))
    ∙ z.0 expression o (f ∷ s) scope at (t.Mark mark.CloseParen) us h.0 (omega arith) refl
    ∙ for-body first test true ns z.1 c f s from (push acc n) (after n scope) (suc (past n at)) token rest a h.1 q
    ∙ append-one first test true f s from acc n ns _ _ token rest

for-test : (first test step : Bool) (parts : Trees) → Each Reads parts → ForFrom (head.ForTest first) first test step (test_symbols test step) parts
unfolding step
for-test first false step' parts z c f s from acc scope at token rest a h q =
    for-step first false step' parts z c f s from acc scope (suc at) token rest a h q
for-test first true step' none z c f s from acc scope at token rest a h q = absurd h
for-test first true step' (more n ns) z c f s from acc scope at token rest a h q =
    let o : Frame = record { head = head.ForTest first; from = from; parts = acc; told = nothing } in
    let us : List Terminal = spells (step_symbols step') ns (token ∷ rest) in
    opens-first (starts_expression scope) o (f ∷ s) o (f ∷ s) scope scope at (spell n (t.Mark mark.Semicolon ∷ us)) (first-expression n 1 scope at _ h.0)
    (λ u v. ap (λ y. resolve o (f ∷ s) scope at u (λ x sd. settle (f ∷ s) x sd at u) y) (for-semicolon scope (Shift (head.ForStep first false)) (Opens (head.ForTest first)) u v))
    ∙ z.0 expression o (f ∷ s) scope at (t.Mark mark.Semicolon) us h.0 (omega arith) refl
    ∙ for-step first true step' ns z.1 c f s from (push acc n) (after n scope) (suc (past n at)) token rest a h.1 q
    ∙ append-one first true step' f s from acc n ns _ _ token rest

for-first : (first test step : Bool) (parts : Trees) → Each Reads parts → ForFrom head.ForFirst first test step (first_symbols first test step) parts
unfolding step
for-first false test step' parts z c f s from acc scope at token rest a h q =
    for-test false test step' parts z c f s from acc scope (suc at) token rest a h q
for-first true test step' none z c f s from acc scope at token rest a h q = absurd h
for-first true test step' (more n ns) z c f s from acc scope at token rest a h q =
    let o : Frame = record { head = head.ForFirst; from = from; parts = acc; told = nothing } in
    let us : List Terminal = spells (test_symbols test step') ns (token ∷ rest) in
    opens-first (starts_expression scope) o (f ∷ s) o (f ∷ s) scope scope at (spell n (t.Mark mark.Semicolon ∷ us)) (first-expression n 1 scope at _ h.0)
    (λ u v. ap (λ y. resolve o (f ∷ s) scope at u (λ x sd. settle (f ∷ s) x sd at u) y) (for-semicolon scope (Shift (head.ForTest false)) (Opens head.ForFirst) u v))
    ∙ z.0 expression o (f ∷ s) scope at (t.Mark mark.Semicolon) us h.0 (omega arith) refl
    ∙ for-test true test step' ns z.1 c f s from (push acc n) (after n scope) (suc (past n at)) token rest a h.1 q
    ∙ append-one true test step' f s from acc n ns _ _ token rest

reads-for : (first test step : Bool) (parts : Trees) → Each Reads parts → ReadsStatement (kind.For first test step) parts
unfolding step
reads-for first test step' parts z c f s scope at token rest a g h w q =
    reads-push f s scope at (t.Key key.For) head.ForStart (t.Mark mark.OpenParen ∷ spells (first_symbols first test step') parts (token ∷ rest))
    (key-begins scope (wanted f.head) (t.Key key.For) head.ForStart w refl refl refl)
    ∙ for-first first test step' parts z c f s at none scope (suc (suc at)) token rest a h q

-- `switch`

abbrev switch_symbols : Trees → List Symbol
switch_symbols ns = many (count ns) class.SwitchItem ++ (sign mark.CloseBrace ∷ [])

first-of-labels : (ns : Trees) (c : Class) (scope : Scope) (at : ℕ) (rest : List Terminal) → Fills c (switch_symbols ns) scope at ns →
    First is_no_else (spells (switch_symbols ns) ns rest)
first-of-labels none c scope at rest h = (_, _, refl, refl)
first-of-labels (more n ns) c scope at rest h =
    first-along (starts_switch_item scope) is_no_else _ (switch-first-else scope) (first-switch_item n scope at _ h.0)

switch-items : (ns : Trees) → Each Reads ns → (c : Class) (from : ℕ) (told : Told) (f : Frame) (s : Stack) (acc : Trees) (scope : Scope) (at : ℕ) (token : Terminal) (rest : List Terminal) →
    Fills c (switch_symbols ns) scope at ns →
    run (Some (state (record { head = head.SwitchItems; from = from; parts = acc; told = told } ∷ f ∷ s) scope at None)) (spells (switch_symbols ns) ns (token ∷ rest))
    ≡ run (settle (f ∷ s) (record { tree = node kind.Switch from (append acc ns); told = nothing })
    (through (switch_symbols ns) ns scope) (past_in (switch_symbols ns) ns at) token) rest
unfolding step
switch-items none z c from told f s acc scope at token rest h =
    ap (λ ps. run (settle (f ∷ s) (record { tree = node kind.Switch from ps; told = nothing }) scope (suc at) token) rest) (sym (append-none acc))
switch-items (more n ns) z c from told f s acc scope at token rest h =
    let o : Frame = record { head = head.SwitchItems; from = from; parts = acc; told = told } in
    let ts : List Terminal = spells (switch_symbols ns) ns (token ∷ rest) in
    let p = first-of-labels ns c (after n scope) (past n at) (token ∷ rest) h.1 in
    opens-first (starts_switch_item scope) o (f ∷ s) o (f ∷ s) scope scope at (spell n ts) (first-switch_item n scope at ts h.0)
    (λ u v. ap (λ y. resolve o (f ∷ s) scope at u (λ x sd. settle (f ∷ s) x sd at u) y) (switch-first-brace scope u v))
    ∙ ap (λ us. opened o (f ∷ s) scope at (spell n us)) p.2
    ∙ z.0 class.SwitchItem o (f ∷ s) scope at p.0 p.1 h.0 tt p.3
    ∙ ap (run (Some (state (record { head = head.SwitchItems; from = from; parts = push acc n; told = told } ∷ f ∷ s) (after n scope) (past n at) None))) (sym p.2)
    ∙ switch-items ns z.1 c from told f s (push acc n) (after n scope) (past n at) token rest h.1
    ∙ ap (λ ps. run (settle (f ∷ s) (record { tree = node kind.Switch from ps; told = nothing })
    (through (switch_symbols ns) ns (after n scope)) (past_in (switch_symbols ns) ns (past n at)) token) rest) (append-push acc n ns)

reads-switch : (parts : Trees) → Each Reads parts → ReadsStatement kind.Switch parts
unfolding step
reads-switch none z c f s scope at token rest a g h w q = absurd h
reads-switch (more n ns) z c f s scope at token rest a g h w q =
    let us : List Terminal = spells (switch_symbols ns) ns (token ∷ rest) in
    let ts : List Terminal = t.Mark mark.CloseParen ∷ t.Mark mark.OpenBrace ∷ us in
    let u : Frame = record { head = head.SwitchValue; from = at; parts = none; told = nothing } in
    let here : ℕ = suc (suc at) in
    reads-push f s scope at (t.Key key.Switch) head.SwitchStart (t.Mark mark.OpenParen ∷ spell n ts) (key-begins scope (wanted f.head) (t.Key key.Switch) head.SwitchStart w refl refl refl)
    ∙ opens-up u (f ∷ s) scope here (λ y. refl) (spell n ts)
    ∙ z.0 expression u (f ∷ s) scope here (t.Mark mark.CloseParen) (t.Mark mark.OpenBrace ∷ us) h.0 (omega arith) refl
    ∙ switch-items ns z.1 c at nothing f s (more n none) (after n scope) (suc (suc (past n here))) token rest h.1

reads-break : (parts : Trees) → ReadsStatement kind.Break parts
unfolding step
reads-break none c f s scope at token rest a g h w q =
    reads-push f s scope at (t.Key key.Break) head.BreakEnd (t.Mark mark.Semicolon ∷ token ∷ rest) (key-begins scope (wanted f.head) (t.Key key.Break) head.BreakEnd w refl refl refl)
reads-break (more n ns) c f s scope at token rest a g h w q = absurd h

reads-continue : (parts : Trees) → ReadsStatement kind.Continue parts
unfolding step
reads-continue none c f s scope at token rest a g h w q =
    reads-push f s scope at (t.Key key.Continue) head.ContinueEnd (t.Mark mark.Semicolon ∷ token ∷ rest) (key-begins scope (wanted f.head) (t.Key key.Continue) head.ContinueEnd w refl refl refl)
reads-continue (more n ns) c f s scope at token rest a g h w q = absurd h

reads-return : (parts : Trees) → Each Reads parts → ReadsStatement kind.Return parts
unfolding step
reads-return none z c f s scope at token rest a g h w q =
    reads-push f s scope at (t.Key key.Return) head.ReturnOf (t.Mark mark.Semicolon ∷ token ∷ rest) (key-begins scope (wanted f.head) (t.Key key.Return) head.ReturnOf w refl refl refl)
reads-return (more n none) z c f s scope at token rest a g h w q =
    let ts : List Terminal = t.Mark mark.Semicolon ∷ token ∷ rest in
    let o : Frame = fresh head.ReturnOf at in
    reads-push f s scope at (t.Key key.Return) head.ReturnOf (spell n ts) (key-begins scope (wanted f.head) (t.Key key.Return) head.ReturnOf w refl refl refl)
    ∙ opens-first (starts_expression scope) o (f ∷ s) o (f ∷ s) scope scope (suc at) (spell n ts) (first-expression n 1 scope (suc at) ts h.0)
    (λ u v. ap (λ y. resolve o (f ∷ s) scope (suc at) u (λ x sd. settle (f ∷ s) x sd (suc at) u) y) (for-semicolon scope (Ends kind.Return) (Opens head.ReturnOf) u v))
    ∙ z.0 expression o (f ∷ s) scope (suc at) (t.Mark mark.Semicolon) (token ∷ rest) h.0 (omega arith) refl
reads-return (more n (more o ns)) z c f s scope at token rest a g h w q = absurd h.1

-- labels of a switch

label-begins : (scope : Scope) (w : Class) (token : Terminal) (h : Head) → Accepts w Label → begin_switch_item token ≡ Pushes h → begin scope w token ≡ Pushes h
label-begins scope class.SwitchItem token h a e = e
label-begins scope _ token h a e = absurd a

pub reads-case : (parts : Trees) → Each Reads parts → ReadsStatement kind.Case parts
unfolding step
reads-case none z c f s scope at token rest a g h w q = absurd h
reads-case (more n none) z c f s scope at token rest a g h w q =
    let ts : List Terminal = t.Mark mark.Colon ∷ token ∷ rest in
    let o : Frame = fresh head.CaseOf at in
    reads-push f s scope at (t.Key key.Case) head.CaseOf (spell n ts) (label-begins scope (wanted f.head) (t.Key key.Case) head.CaseOf w refl)
    ∙ opens-up o (f ∷ s) scope (suc at) (λ y. refl) (spell n ts)
    ∙ z.0 conditional o (f ∷ s) scope (suc at) (t.Mark mark.Colon) (token ∷ rest) h.0 (omega arith) refl
reads-case (more n (more o ns)) z c f s scope at token rest a g h w q = absurd h.1

pub reads-default : (parts : Trees) → ReadsStatement kind.Default parts
unfolding step
reads-default none c f s scope at token rest a g h w q =
    reads-push f s scope at (t.Key key.Default) head.DefaultEnd (t.Mark mark.Colon ∷ token ∷ rest) (label-begins scope (wanted f.head) (t.Key key.Default) head.DefaultEnd w refl)
reads-default (more n ns) c f s scope at token rest a g h w q = absurd h

pub reads-statement : (k : Kind) (parts : Trees) → Each Reads parts → Accepts (class.Statement true) (sort k) → ReadsStatement k parts
reads-statement kind.Block parts z b c f s scope at token rest a g h w q = reads-block parts z c f s scope at token rest a g h w q
reads-statement kind.Expression parts z b c f s scope at token rest a g h w q = reads-expression_statement parts z c f s scope at token rest a g h w q
reads-statement kind.If parts z b c f s scope at token rest a g h w q = reads-if parts z c f s scope at token rest a g h w q
reads-statement kind.While parts z b c f s scope at token rest a g h w q = reads-while parts z c f s scope at token rest a g h w q
reads-statement kind.Do parts z b c f s scope at token rest a g h w q = reads-do parts z c f s scope at token rest a g h w q
reads-statement (kind.For first test step) parts z b c f s scope at token rest a g h w q = reads-for first test step parts z c f s scope at token rest a g h w q
reads-statement kind.Switch parts z b c f s scope at token rest a g h w q = reads-switch parts z c f s scope at token rest a g h w q
reads-statement kind.Break parts z b c f s scope at token rest a g h w q = reads-break parts c f s scope at token rest a g h w q
reads-statement kind.Continue parts z b c f s scope at token rest a g h w q = reads-continue parts c f s scope at token rest a g h w q
reads-statement kind.Return parts z b c f s scope at token rest a g h w q = reads-return parts z c f s scope at token rest a g h w q
reads-statement _ parts z b c f s scope at token rest a g h w q = absurd b
