-- Declarations are read.
use Rattle.std.proofs.Common.{◌≡◌, ℕ, zero, suc, ◌+◌, ◌-◌, ◌≤◌, ◌<◌, nat_le, Bool, true, false, ◌||◌, ◌&&◌, ◌⊎◌, inl, inr, not, List, [], ◌∷◌, ◌++◌, Option, Some, None, refl, sym, ap, subst, ◌∙◌, arith, ⊎_elim, append_assoc, append-nil, map}
use Rattle.std.specs.Prelude.{⊤}
use Rattle.std.proofs.lemmas.Bool.{false≢true, and_parts, not-true}
use Rattle.p9_lang.specs.declared.tree.CBinary.{CBinary}
use Rattle.p9_lang.specs.declared.tree.CBinary.TheVariants as operator
use Rattle.p9_lang.specs.declared.tree.CUnary.{CUnary}
use Rattle.p9_lang.specs.declared.tree.CUnary.TheVariants as unary
use Rattle.p9_lang.specs.declared.tree.EntryBy.{EntryBy}
use Rattle.p9_lang.specs.declared.tree.EntryBy.TheVariants as by
use Rattle.p9_lang.specs.declared.tree.SpecWord.{SpecWord}
use Rattle.p9_lang.specs.declared.tree.SpecWord.TheVariants as word
use Rattle.p9_lang.specs.declared.tree.Kind.{Kind}
use Rattle.p9_lang.specs.declared.tree.Kind.TheVariants as kind
use Rattle.p9_grammar.specs.declared.terminal.Keyword.{Keyword}
use Rattle.p9_grammar.specs.declared.terminal.Keyword.TheVariants as key
use Rattle.p9_grammar.specs.declared.terminal.Punctuator.{Punctuator}
use Rattle.p9_grammar.specs.declared.terminal.Punctuator.TheVariants as mark
use Rattle.p9_grammar.specs.declared.terminal.Terminal.{Terminal}
use Rattle.p9_grammar.specs.declared.terminal.Terminal.TheVariants as t
use Rattle.p9_grammar.specs.declared.head.Context.{Context}
use Rattle.p9_grammar.specs.declared.head.Context.TheVariants as context
use Rattle.p9_grammar.specs.declared.head.Naming.{Naming}
use Rattle.p9_grammar.specs.declared.head.Naming.TheVariants as naming
use Rattle.p9_grammar.specs.declared.head.Class.{Class}
use Rattle.p9_grammar.specs.declared.head.Class.TheVariants as class
use Rattle.p9_grammar.specs.declared.head.Head.{Head}
use Rattle.p9_grammar.specs.declared.head.Head.TheVariants as head
use Rattle.p9_grammar.specs.Trees.{Tree, node, Trees, none, more, count, push}
use Rattle.p9_grammar.specs.Symbols.{Symbol, Write, Part, Enter, Slot, Of, Last, Pointed, Direct, Grouped, Role, Plain, Declares, Begins, part, sign, keyword, right_side, binds, binary_sign, unary_sign, assignment_sign, step_sign, dot_sign, expression, assignment, conditional, operand, later, listed, many, optional, at_most_one, branches, texts, spec_symbols, word_symbols, spec_parts, is_typedef, declarator, declarator_of, declarators, later_declarators, initialiser, qualifier, inner_declarator, parameters, parameter_list, behind, entry_place, named, in_braces, tag_key}
use Rattle.p9_grammar.specs.Scopes.{Scope, Level, is_type, after, told, told_first, through, add, leave, tells, nothing, Told, innermost, outer}
use Rattle.p9_grammar.specs.Grammar.{Sort, sort, Accepts, Suits, Asks, Formed, Fills, slot_class, naming_of, may_of, past, past_in, is_assignable, SpecFrom, IsSpec, may_follow, has_type, is_known, is_void_word, pointed, grouped}
use Rattle.p9_grammar.specs.Machine.{Frame, Read, Stack, State, state, to, fresh, moved, made, leaf, start_of, step, run, begin, begin_by, begin_spec, begin_expression, begin_declarator, begin_statement, begin_switch_item, begin_initialiser, only_if, or_else, Begin, Pushes, Leaf, Under, Nowhere, Move, Shift, Ends, Opens, Over, Refused, After, To, Makes, Unwanted, Join, Joins, Posts, Lengthens, Apart, opening, inside, resolve, attach, attached, joining, join, join_at, join_if, join_expression, join_declarator, settle, going, feed, decide, choose, wanted, role, retold, enters, opens, Infix, Binds, No, binding, binary, assigns, level_of, direct_of, move, spec_move, begins_type, allows_storage, spec, shift_if, ends_spec, paren_or, brace_or, semicolon_or, bracket_or}
use Rattle.p9_grammar.proofs.Spelling.{spell, spells}
use Rattle.p9_grammar.proofs.Reading.{opened, read, Meets, calm, calm_at, quiet, is_no_else, ends_param, ends_type, ends_constant, follows, Reads, Each, ReadsNode, opens-up}
use Rattle.p9_grammar.proofs.Calm.{le_true, le_false, true_le, low, low-calm, low-apart, Edge, calm-low, quiet-apart, quiet-less}
use Rattle.p9_grammar.proofs.First.{First, starts, starts_expression, starts_declarator, starts_statement, starts_switch_item, starts_initialiser, starts_entry, starts_spec, first-expression, first-declarator, first-spec, word_token, word_head, moves-word, first_of_word, first-along}
use Rattle.p9_grammar.specs.Machine.{is_begun, only_if, begin_entry, begin_body, begin_constant, fed, else_move, stepped}
use Rattle.p9_grammar.specs.Grammar.{Expression, Declarator, Braced, Entry, Param, TypeName, Member, Constant, Declaration, Function, Block, Statement, Label}
use Rattle.p9_grammar.proofs.Expressions.{append, append-push, append-none, formed-start, formed-level, reads-leaf, reads-push, reads-join, reads-apart, opens-first, no-type, first-type, join-tight, calm-left}
use Rattle.p9_grammar.specs.Machine.{behind_type, next_declarator, declared_move, body_move, member_declared, constant_named}
use Rattle.p9_grammar.specs.Machine as machine
use Rattle.p9_grammar.proofs.Declarators.{param_end}
use Rattle.p9_grammar.proofs.Heads.{Goes, Anywhere, stands, spec-read, spec-starts, spec-has-type, no-second-type, no_brace}

abbrev is_no_key : Terminal → Bool
is_no_key (t.Key k) = false
is_no_key _ = true

and_false : (b : Bool) → (b && false) ≡ false
and_false true = refl
and_false false = refl

-- behind a type a token that is no keyword ends the head
spec-behind : (scope : Scope) (k : Context) (words : List SpecWord) (token : Terminal) → has_type words ≡ true → is_no_key token ≡ true → spec_move scope k words token ≡ machine.behind k words token
spec-behind scope k words (t.Key _) h g = absurd (false≢true g)
spec-behind scope k words (t.Name x) h g =
    ap (λ b. shift_if (is_type scope x && b) (head.Spec k (words ++ word.TypeName x ∷ [])) (ends_spec k words (t.Name x))) (no-second-type (allows_storage k) words x h)
    ∙ ap (λ b. shift_if b (head.Spec k (words ++ word.TypeName x ∷ [])) (ends_spec k words (t.Name x))) (and_false (is_type scope x))
    ∙ ap (λ b. behind_type b k words (t.Name x)) h
spec-behind scope k words (t.Mark p) h g = ap (λ b. behind_type b k words (t.Mark p)) h
spec-behind scope k words (t.Number v unsigned long) h g = ap (λ b. behind_type b k words (t.Number v unsigned long)) h
spec-behind scope k words (t.Character v) h g = ap (λ b. behind_type b k words (t.Character v)) h
spec-behind scope k words (t.Text x) h g = ap (λ b. behind_type b k words (t.Text x)) h
spec-behind scope k words t.End h g = ap (λ b. behind_type b k words t.End) h
spec-behind scope k words t.Other h g = ap (λ b. behind_type b k words t.Other) h

declarator-no_key : (scope : Scope) (m : Naming) (token : Terminal) → starts_declarator m scope token ≡ true → is_no_key token ≡ true
declarator-no_key scope m (t.Key _) h = absurd (false≢true h)
declarator-no_key scope m _ h = refl

declarator-no_brace : (scope : Scope) (m : Naming) (token : Terminal) → starts_declarator m scope token ≡ true → no_brace token ≡ true
declarator-no_brace scope m (t.Mark mark.OpenBrace) h = absurd (false≢true h)
declarator-no_brace scope m _ h = refl

-- What begins a declarator goes on with one.
abbrev OpensDeclarator : Context → List SpecWord → Head → Naming → Type 0
OpensDeclarator k words h m = (scope : Scope) (token : Terminal) → starts_declarator m scope token ≡ true → machine.behind k words token ≡ Opens h

file-opens : (words : List SpecWord) → OpensDeclarator context.File words (head.Declarators context.File words []) naming.Named
file-opens words scope (t.Mark mark.Semicolon) h = absurd (false≢true h)
file-opens words scope _ h = refl

head-opens : (words : List SpecWord) → OpensDeclarator context.Head words (head.Declarators context.Head words []) naming.Named
head-opens words scope (t.Mark mark.Semicolon) h = absurd (false≢true h)
head-opens words scope _ h = refl

local-opens : (words : List SpecWord) → OpensDeclarator context.Local words (head.Declarators context.Local words []) naming.Named
local-opens words scope (t.Mark mark.Semicolon) h = absurd (false≢true h)
local-opens words scope _ h = refl

member-declarator-opens : (words : List SpecWord) → OpensDeclarator context.Member words (head.MemberDeclarators words) naming.Named
member-declarator-opens words scope (t.Mark mark.Semicolon) h = absurd (false≢true h)
member-declarator-opens words scope _ h = refl

param-opens : (words : List SpecWord) → OpensDeclarator context.Param words (head.ParamOf words) naming.Either
param-opens words scope (t.Mark mark.Comma) h = absurd (false≢true h)
param-opens words scope (t.Mark mark.CloseParen) h = absurd (false≢true h)
param-opens words scope _ h = refl

type-opens : (words : List SpecWord) → OpensDeclarator context.Type words (head.TypeOf words) naming.Bare
type-opens words scope (t.Mark mark.CloseParen) h = absurd (false≢true h)
type-opens words scope _ h = refl

-- the reader behind a head, before a declarator
opens-declarator : (k : Context) (words : List SpecWord) (h : Head) (m : Naming) (f : Frame) (s : Stack) (from : ℕ) (acc : Trees) (tl : Told) (scope : Scope) (at start : ℕ) (n : Tree) (rest : List Terminal) →
    has_type words ≡ true → OpensDeclarator k words h m → ((b : Told) → opens h b scope ≡ scope) → Formed (class.Declarator m 15) scope start n →
    run (Some (state (record { head = head.Spec k words; from = from; parts = acc; told = tl } ∷ f ∷ s) scope at None)) (spell n rest)
    ≡ opened (record { head = h; from = from; parts = acc; told = tl }) (f ∷ s) scope at (spell n rest)
unfolding step
opens-declarator k words h m f s from acc tl scope at start n rest ht g i q =
    let o : Frame = record { head = head.Spec k words; from = from; parts = acc; told = tl } in
    let o' : Frame = record { head = h; from = from; parts = acc; told = tl } in
    opens-first (starts_declarator m scope) o (f ∷ s) o' (f ∷ s) scope scope at (spell n rest) (first-declarator n m 15 scope start rest q)
    (λ u v. ap (resolve o (f ∷ s) scope at u (λ b sd. settle (f ∷ s) b sd at u))
    (spec-behind scope k words u ht (declarator-no_key scope m u v) ∙ g scope u v)
    ∙ ap (λ sd. opening (o' ∷ f ∷ s) sd at u (begin sd (wanted h) u)) (i tl))

-- a whole node with a head
reads-head : (c : Class) (f : Frame) (s : Stack) (k : Context) (words : List SpecWord) (symbols : List Symbol) (scope : Scope) (at : ℕ) (ps : Trees) (tail : List Terminal) (result : Trees → Scope → ℕ → Option State) →
    IsSpec (allows_storage k) scope words → ((token : Terminal) (h : Head) → begin_spec scope k token ≡ Pushes h → begin scope (wanted f.head) token ≡ Pushes h) →
    ((qs : Trees) (sc : Scope) (here : ℕ) → Fills c symbols sc here qs → First no_brace (spells symbols qs tail)) →
    Goes c f s at tail result (Anywhere c f s at tail result) (head.Spec k words) symbols → Each Reads ps → Fills c (spec_symbols words ++ symbols) scope at ps →
    opened f s scope at (spells (spec_symbols words ++ symbols) ps tail) ≡ result ps (through (spec_symbols words ++ symbols) ps scope) (past_in (spec_symbols words ++ symbols) ps at)
reads-head c f s k words symbols scope at ps tail result h b first g z q =
    spec-starts f s scope at k words symbols ps tail h b
    ∙ spec-read c f s at tail result k scope words [] words symbols refl h first g scope at ps none nothing (λ e. refl) z q

abbrev pub plain : Kind → Frame → Stack → ℕ → Terminal → List Terminal → Trees → Scope → ℕ → Option State
plain k f s from token rest parts scope at = run (settle (f ∷ s) (record { tree = node k from parts; told = nothing }) scope at token) rest

-- Declarators of a declaration

abbrev later_end : Bool → List Bool → List Symbol
later_end is_type inits = later_declarators is_type inits ++ (sign mark.Semicolon ∷ [])

abbrev decl_on : Context → List SpecWord → List Bool → ℕ → Told → Frame → Stack → Trees → Scope → ℕ → List Terminal → Option State
decl_on k words done from tl f s acc scope at [] = None
decl_on k words done from tl f s acc scope at (token ∷ ts) =
    run (resolve (record { head = head.Declared k words done; from = from; parts = acc; told = tl }) (f ∷ s) scope at token (λ m sc. settle (f ∷ s) m sc at token) (next_declarator k words done token)) ts

-- what is read behind one declarator
abbrev Later : List Bool → Type 0
Later inits =
    (done : List Bool) (k : Context) (words : List SpecWord) (c : Class) (f : Frame) (s : Stack) (from : ℕ) (acc : Trees) (tl : Told) (scope : Scope) (at : ℕ) (ps : Trees) (token : Terminal) (rest : List Terminal) →
    Each Reads ps → Fills c (later_end (is_typedef words) inits) scope at ps →
    decl_on k words done from tl f s acc scope at (spells (later_end (is_typedef words) inits) ps (token ∷ rest))
    ≡ plain (kind.Declaration (spec words) (done ++ inits)) f s from token rest (append acc ps)
    (through (later_end (is_typedef words) inits) ps scope) (past_in (later_end (is_typedef words) inits) ps at)

-- one declarator, with its initialiser, and the others
one-read : (init : Bool) (inits : List Bool) → Later inits → (done : List Bool) (k : Context) (words : List SpecWord) (c : Class) (f : Frame) (s : Stack) (from : ℕ) (acc : Trees) (tl : Told) (scope : Scope) (at : ℕ) (n : Tree) (ps : Trees) (token : Terminal) (rest : List Terminal) →
    Each Reads (more n ps) → Fills c (declarator_of naming.Named (Declares (is_typedef words)) ∷ (initialiser init ++ later_end (is_typedef words) inits)) scope at (more n ps) →
    opened (record { head = head.Declarators k words done; from = from; parts = acc; told = tl }) (f ∷ s) scope at (spell n (spells (initialiser init ++ later_end (is_typedef words) inits) ps (token ∷ rest)))
    ≡ plain (kind.Declaration (spec words) (done ++ (init ∷ inits))) f s from token rest (append acc (more n ps))
    (through (declarator_of naming.Named (Declares (is_typedef words)) ∷ (initialiser init ++ later_end (is_typedef words) inits)) (more n ps) scope)
    (past_in (declarator_of naming.Named (Declares (is_typedef words)) ∷ (initialiser init ++ later_end (is_typedef words) inits)) (more n ps) at)
unfolding step
one-read false [] y done k words c f s from acc tl scope at n ps token rest z h =
    let o : Frame = record { head = head.Declarators k words done; from = from; parts = acc; told = tl } in
    let sc : Scope = add (Declares (is_typedef words)) (told n scope) (after n scope) in
    z.0 (class.Declarator naming.Named 15) o (f ∷ s) scope at (t.Mark mark.Semicolon) (token ∷ rest) h.0 (refl, omega arith) refl
    ∙ y (done ++ false ∷ []) k words c f s from (push acc n) (told n scope) sc (past n at) ps token rest z.1 h.1
    ∙ ap (λ is. plain (kind.Declaration (spec words) is) f s from token rest (append (push acc n) ps) (through (later_end (is_typedef words) []) ps sc) (past_in (later_end (is_typedef words) []) ps (past n at))) (append_assoc done (false ∷ []) [])
    ∙ ap (λ qs. plain (kind.Declaration (spec words) (done ++ false ∷ [])) f s from token rest qs (through (later_end (is_typedef words) []) ps sc) (past_in (later_end (is_typedef words) []) ps (past n at))) (append-push acc n ps)
one-read false (j ∷ js) y done k words c f s from acc tl scope at n ps token rest z h =
    let o : Frame = record { head = head.Declarators k words done; from = from; parts = acc; told = tl } in
    let sc : Scope = add (Declares (is_typedef words)) (told n scope) (after n scope) in
    let us : List Terminal = spells (declarator_of naming.Named (Declares (is_typedef words)) ∷ (initialiser j ++ later_end (is_typedef words) js)) ps (token ∷ rest) in
    z.0 (class.Declarator naming.Named 15) o (f ∷ s) scope at (t.Mark mark.Comma) _ h.0 (refl, omega arith) refl
    ∙ y (done ++ false ∷ []) k words c f s from (push acc n) (told n scope) sc (past n at) ps token rest z.1 h.1
    ∙ ap (λ is. plain (kind.Declaration (spec words) is) f s from token rest (append (push acc n) ps) (through (later_end (is_typedef words) (j ∷ js)) ps sc) (past_in (later_end (is_typedef words) (j ∷ js)) ps (past n at))) (append_assoc done (false ∷ []) (j ∷ js))
    ∙ ap (λ qs. plain (kind.Declaration (spec words) (done ++ (false ∷ j ∷ js))) f s from token rest qs (through (later_end (is_typedef words) (j ∷ js)) ps sc) (past_in (later_end (is_typedef words) (j ∷ js)) ps (past n at))) (append-push acc n ps)
one-read true inits y done k words c f s from acc tl scope at n none token rest z h = absurd h.1
one-read true [] y done k words c f s from acc tl scope at n (more e ps) token rest z h =
    let o : Frame = record { head = head.Declarators k words done; from = from; parts = acc; told = tl } in
    let sc : Scope = add (Declares (is_typedef words)) (told n scope) (after n scope) in
    let i : Frame = record { head = head.Initialised k words done; from = from; parts = push acc n; told = told n scope } in
    let here : ℕ = suc (past n at) in
    let us : List Terminal = t.Mark mark.Semicolon ∷ token ∷ rest in
    z.0 (class.Declarator naming.Named 15) o (f ∷ s) scope at (t.Mark mark.Equal) (spell e (spells (later_end (is_typedef words) []) ps (token ∷ rest))) h.0 (refl, omega arith) refl
    ∙ opens-up i (f ∷ s) sc here (λ u. refl) (spell e (spells (later_end (is_typedef words) []) ps (token ∷ rest)))
    ∙ z.1.0 class.Initialiser i (f ∷ s) sc here (t.Mark mark.Semicolon) (token ∷ rest) h.1.0 tt refl
    ∙ y (done ++ true ∷ []) k words c f s from (push (push acc n) e) (told n scope) (after e sc) (past e here) ps token rest z.1.1 h.1.1
    ∙ ap (λ is. plain (kind.Declaration (spec words) is) f s from token rest (append (push (push acc n) e) ps) (through (later_end (is_typedef words) []) ps (after e sc)) (past_in (later_end (is_typedef words) []) ps (past e here))) (append_assoc done (true ∷ []) [])
    ∙ ap (λ qs. plain (kind.Declaration (spec words) (done ++ true ∷ [])) f s from token rest qs (through (later_end (is_typedef words) []) ps (after e sc)) (past_in (later_end (is_typedef words) []) ps (past e here)))
    (append-push (push acc n) e ps ∙ append-push acc n (more e ps))
one-read true (j ∷ js) y done k words c f s from acc tl scope at n (more e ps) token rest z h =
    let o : Frame = record { head = head.Declarators k words done; from = from; parts = acc; told = tl } in
    let sc : Scope = add (Declares (is_typedef words)) (told n scope) (after n scope) in
    let i : Frame = record { head = head.Initialised k words done; from = from; parts = push acc n; told = told n scope } in
    let here : ℕ = suc (past n at) in
    z.0 (class.Declarator naming.Named 15) o (f ∷ s) scope at (t.Mark mark.Equal) (spell e (spells (later_end (is_typedef words) (j ∷ js)) ps (token ∷ rest))) h.0 (refl, omega arith) refl
    ∙ opens-up i (f ∷ s) sc here (λ u. refl) (spell e (spells (later_end (is_typedef words) (j ∷ js)) ps (token ∷ rest)))
    ∙ z.1.0 class.Initialiser i (f ∷ s) sc here (t.Mark mark.Comma) _ h.1.0 tt refl
    ∙ y (done ++ true ∷ []) k words c f s from (push (push acc n) e) (told n scope) (after e sc) (past e here) ps token rest z.1.1 h.1.1
    ∙ ap (λ is. plain (kind.Declaration (spec words) is) f s from token rest (append (push (push acc n) e) ps) (through (later_end (is_typedef words) (j ∷ js)) ps (after e sc)) (past_in (later_end (is_typedef words) (j ∷ js)) ps (past e here))) (append_assoc done (true ∷ []) (j ∷ js))
    ∙ ap (λ qs. plain (kind.Declaration (spec words) (done ++ (true ∷ j ∷ js))) f s from token rest qs (through (later_end (is_typedef words) (j ∷ js)) ps (after e sc)) (past_in (later_end (is_typedef words) (j ∷ js)) ps (past e here)))
    (append-push (push acc n) e ps ∙ append-push acc n (more e ps))

later-read : (inits : List Bool) → Later inits
unfolding step
later-read [] done k words c f s from acc tl scope at none token rest z h =
    ap (λ is. plain (kind.Declaration (spec words) is) f s from token rest acc scope (suc at)) (sym (append-nil done))
    ∙ ap (λ ps. plain (kind.Declaration (spec words) (done ++ [])) f s from token rest ps scope (suc at)) (sym (append-none acc))
later-read [] done k words c f s from acc tl scope at (more n ns) token rest z h = absurd h
later-read (i ∷ is) done k words c f s from acc tl scope at none token rest z h = absurd h
later-read (true ∷ is) done k words c f s from acc tl scope at (more n ns) token rest z h =
    let o : Frame = record { head = head.Declarators k words done; from = from; parts = acc; told = tl } in
    opens-up o (f ∷ s) scope (suc at) (λ u. refl) (spell n (spells (initialiser true ++ later_end (is_typedef words) is) ns (token ∷ rest)))
    ∙ one-read true is (later-read is) done k words c f s from acc tl scope (suc at) n ns token rest z h
later-read (false ∷ is) done k words c f s from acc tl scope at (more n ns) token rest z h =
    let o : Frame = record { head = head.Declarators k words done; from = from; parts = acc; told = tl } in
    opens-up o (f ∷ s) scope (suc at) (λ u. refl) (spell n (spells (initialiser false ++ later_end (is_typedef words) is) ns (token ∷ rest)))
    ∙ one-read false is (later-read is) done k words c f s from acc tl scope (suc at) n ns token rest z h

-- A declaration

-- the contexts of a declaration, what begins a declarator there and what ends the head
abbrev Stands : Context → Type 0
Stands context.File = ⊤
Stands context.Head = ⊤
Stands context.Local = ⊤
Stands _ = ⊥

stands-opens : (k : Context) (words : List SpecWord) → Stands k → OpensDeclarator k words (head.Declarators k words []) naming.Named
stands-opens context.File words h = file-opens words
stands-opens context.Head words h = head-opens words
stands-opens context.Local words h = local-opens words
stands-opens _ words h = absurd h

stands-ends : (k : Context) (words : List SpecWord) → Stands k → machine.behind k words (t.Mark mark.Semicolon) ≡ Ends (kind.Declaration (spec words) [])
stands-ends context.File words h = refl
stands-ends context.Head words h = refl
stands-ends context.Local words h = refl
stands-ends _ words h = absurd h

abbrev decl_end : List SpecWord → List Bool → List Symbol
decl_end words inits = declarators (is_typedef words) inits ++ (sign mark.Semicolon ∷ [])

decl-first : (words : List SpecWord) (inits : List Bool) (c : Class) (scope : Scope) (at : ℕ) (ps : Trees) (tail : List Terminal) → Fills c (decl_end words inits) scope at ps →
    First no_brace (spells (decl_end words inits) ps tail)
decl-first words [] c scope at ps tail h = (_, _, refl, refl)
decl-first words (i ∷ is) c scope at none tail h = absurd h
decl-first words (i ∷ is) c scope at (more n ns) tail h =
    first-along (starts_declarator naming.Named scope) no_brace _ (declarator-no_brace scope naming.Named) (first-declarator n naming.Named 15 scope at _ h.0)

goes-declaration : (c : Class) (f : Frame) (s : Stack) (from : ℕ) (k : Context) (words : List SpecWord) (inits : List Bool) (token : Terminal) (rest : List Terminal) → Stands k → has_type words ≡ true →
    Goes c f s from (token ∷ rest) (plain (kind.Declaration (spec words) inits) f s from token rest) (Anywhere c f s from (token ∷ rest) (plain (kind.Declaration (spec words) inits) f s from token rest))
    (head.Spec k words) (decl_end words inits)
unfolding step
goes-declaration c f s from k words [] token rest d ht scope at none acc tl a z h =
    let o : Frame = record { head = head.Spec k words; from = from; parts = acc; told = tl } in
    ap (λ m. run (resolve o (f ∷ s) scope at (t.Mark mark.Semicolon) (λ b sd. settle (f ∷ s) b sd at (t.Mark mark.Semicolon)) m) (token ∷ rest))
    (spec-behind scope k words (t.Mark mark.Semicolon) ht refl ∙ stands-ends k words d)
    ∙ ap (λ ps. plain (kind.Declaration (spec words) []) f s from token rest ps scope (suc at)) (sym (append-none acc))
goes-declaration c f s from k words [] token rest d ht scope at (more n ns) acc tl a z h = absurd h
goes-declaration c f s from k words (i ∷ is) token rest d ht scope at none acc tl a z h = absurd h
goes-declaration c f s from k words (true ∷ is) token rest d ht scope at (more n ns) acc tl a z h =
    opens-declarator k words (head.Declarators k words []) naming.Named f s from acc tl scope at at n (spells (initialiser true ++ later_end (is_typedef words) is) ns (token ∷ rest)) ht
    (stands-opens k words d) (λ b. refl) h.0
    ∙ one-read true is (later-read is) [] k words c f s from acc tl scope at n ns token rest z h
goes-declaration c f s from k words (false ∷ is) token rest d ht scope at (more n ns) acc tl a z h =
    opens-declarator k words (head.Declarators k words []) naming.Named f s from acc tl scope at at n (spells (initialiser false ++ later_end (is_typedef words) is) ns (token ∷ rest)) ht
    (stands-opens k words d) (λ b. refl) h.0
    ∙ one-read false is (later-read is) [] k words c f s from acc tl scope at n ns token rest z h

-- where a declaration is wanted
abbrev pub place_of : Class → Context
place_of class.FileItem = context.File
place_of class.HeadItem = context.Head
place_of class.BlockItem = context.Local
place_of class.Member = context.Member
place_of class.Param = context.Param
place_of _ = context.Type

declaration-begins : (scope : Scope) (w : Class) → Accepts w Declaration → (token : Terminal) (h : Head) → begin_spec scope (place_of w) token ≡ Pushes h → begin scope w token ≡ Pushes h
declaration-begins scope class.FileItem a token h e = e
declaration-begins scope class.HeadItem a token h e = e
declaration-begins scope class.BlockItem a token h e = ap (λ x. or_else x (begin_statement token)) e
declaration-begins scope _ a token h e = absurd a

declaration-stands : (w : Class) → Accepts w Declaration → Stands (place_of w) × (allows_storage (place_of w) ≡ true)
declaration-stands class.FileItem a = (tt, refl)
declaration-stands class.HeadItem a = (tt, refl)
declaration-stands class.BlockItem a = (tt, refl)
declaration-stands _ a = absurd a

abbrev pub ReadsAs : Sort → Kind → Trees → Type 0
ReadsAs x k parts =
    (c : Class) (f : Frame) (s : Stack) (scope : Scope) (at : ℕ) (token : Terminal) (rest : List Terminal) →
    Accepts (wanted f.head) x → Asks scope k (count parts) → Fills c (right_side k (count parts)) scope at parts →
    opened f s scope at (spell (node k at parts) (token ∷ rest))
    ≡ run (settle (f ∷ s) (read (node k at parts) scope) (after (node k at parts) scope) (past (node k at parts) at) token) rest

pub reads-declaration : (words : List SpecWord) (inits : List Bool) (parts : Trees) → Each Reads parts → ReadsAs Declaration (kind.Declaration (spec words) inits) parts
reads-declaration words inits parts z c f s scope at token rest a g h =
    let k : Context = place_of (wanted f.head) in
    let d = declaration-stands (wanted f.head) a in
    let i : IsSpec (allows_storage k) scope words = subst (λ b. IsSpec b scope words) (sym d.1) g in
    reads-head c f s k words (decl_end words inits) scope at parts (token ∷ rest) (plain (kind.Declaration (spec words) inits) f s at token rest) i
    (declaration-begins scope (wanted f.head) a) (λ qs sc here q. decl-first words inits c sc here qs (token ∷ rest) q)
    (goes-declaration c f s at k words inits token rest d.0 (spec-has-type (allows_storage k) scope [] words i)) z h

-- a function

abbrev function_end : List SpecWord → List Symbol
function_end words = declarator_of naming.Named (Begins (is_typedef words)) ∷ part class.Body ∷ []

abbrev function_result : List SpecWord → Frame → Stack → ℕ → Terminal → List Terminal → Trees → Scope → ℕ → Option State
function_result words f s from token rest parts scope at = plain (kind.Function (spec words)) f s from token rest parts (outer scope) at

-- the block of a function
body-opens : (o : Frame) (s : Stack) (scope : Scope) (at start : ℕ) (words : List SpecWord) (n : Tree) (sc : Scope) (rest : List Terminal) → o.head ≡ head.FunctionBody words → Formed class.Body sc start n →
    (more : List Terminal) × (spell n rest ≡ t.Mark mark.OpenBrace ∷ more)
body-opens o s scope at start words (node kind.Block p ps) sc rest e h = (_, refl)
body-opens o s scope at start words (node _ p ps) sc rest e h = absurd h.1

goes-function : (c : Class) (f : Frame) (s : Stack) (from : ℕ) (words : List SpecWord) (token : Terminal) (rest : List Terminal) → has_type words ≡ true →
    Goes c f s from (token ∷ rest) (function_result words f s from token rest) (Anywhere c f s from (token ∷ rest) (function_result words f s from token rest))
    (head.Spec context.File words) (function_end words)
unfolding step
goes-function c f s from words token rest ht scope at none acc tl a z h = absurd h
goes-function c f s from words token rest ht scope at (more n none) acc tl a z h = absurd h.1
goes-function c f s from words token rest ht scope at (more n (more b none)) acc tl a z h =
    let o : Frame = record { head = head.Declarators context.File words []; from = from; parts = acc; told = tl } in
    let u : Frame = record { head = head.FunctionBody words; from = from; parts = push acc n; told = told n scope } in
    let sc : Scope = add (Begins (is_typedef words)) (told n scope) (after n scope) in
    let p = body-opens u s sc (past n at) (past n at) words b sc (token ∷ rest) refl h.1.0 in
    opens-declarator context.File words (head.Declarators context.File words []) naming.Named f s from acc tl scope at at n (spell b (token ∷ rest)) ht (file-opens words) (λ y. refl) h.0
    ∙ ap (λ ts. opened o (f ∷ s) scope at (spell n ts)) p.1
    ∙ z.0 (class.Declarator naming.Named 15) o (f ∷ s) scope at (t.Mark mark.OpenBrace) p.0 h.0 (refl, omega arith) refl
    ∙ ap (opened u (f ∷ s) sc (past n at)) (sym p.1)
    ∙ z.1.0 class.Body u (f ∷ s) sc (past n at) token rest h.1.0 tt refl
    ∙ ap (λ qs. plain (kind.Function (spec words)) f s from token rest qs (outer (after b sc)) (past b (past n at)))
    (sym (append-none (push (push acc n) b)) ∙ append-push (push acc n) b none ∙ append-push acc n (more b none))
goes-function c f s from words token rest ht scope at (more n (more b (more e es))) acc tl a z h = absurd h.1.1

function-begins : (scope : Scope) (w : Class) → Accepts w Function → (token : Terminal) (h : Head) → begin_spec scope context.File token ≡ Pushes h → begin scope w token ≡ Pushes h
function-begins scope class.FileItem a token h e = e
function-begins scope _ a token h e = absurd a

function-first : (words : List SpecWord) (c : Class) (scope : Scope) (at : ℕ) (ps : Trees) (tail : List Terminal) → Fills c (function_end words) scope at ps → First no_brace (spells (function_end words) ps tail)
function-first words c scope at none tail h = absurd h
function-first words c scope at (more n ns) tail h =
    first-along (starts_declarator naming.Named scope) no_brace _ (declarator-no_brace scope naming.Named) (first-declarator n naming.Named 15 scope at _ h.0)

pub reads-function : (words : List SpecWord) (parts : Trees) → Each Reads parts → ReadsAs Function (kind.Function (spec words)) parts
reads-function words parts z c f s scope at token rest a g h =
    reads-head c f s context.File words (function_end words) scope at parts (token ∷ rest) (function_result words f s at token rest) g
    (function-begins scope (wanted f.head) a) (λ qs sc here q. function-first words c sc here qs (token ∷ rest) q)
    (goes-function c f s at words token rest (spec-has-type true scope [] words g)) z h

-- a member

abbrev member_on : List SpecWord → ℕ → Told → Frame → Stack → Trees → Scope → ℕ → List Terminal → Option State
member_on words from tl f s acc scope at [] = None
member_on words from tl f s acc scope at (token ∷ ts) =
    run (resolve (record { head = head.MemberDeclared words; from = from; parts = acc; told = tl }) (f ∷ s) scope at token (λ m sc. settle (f ∷ s) m sc at token) (member_declared words token)) ts

abbrev members_later : ℕ → List Symbol
members_later m = later m declarator ++ (sign mark.Semicolon ∷ [])

member-later : (m : ℕ) (ps : Trees) → Each Reads ps → (words : List SpecWord) (c : Class) (from : ℕ) (tl : Told) (f : Frame) (s : Stack) (acc : Trees) (scope : Scope) (at : ℕ) (token : Terminal) (rest : List Terminal) →
    Fills c (members_later m) scope at ps →
    member_on words from tl f s acc scope at (spells (members_later m) ps (token ∷ rest))
    ≡ plain (kind.Member (spec words)) f s from token rest (append acc ps) (through (members_later m) ps scope) (past_in (members_later m) ps at)
unfolding step
member-later zero none z words c from tl f s acc scope at token rest h =
    ap (λ ps. plain (kind.Member (spec words)) f s from token rest ps scope (suc at)) (sym (append-none acc))
member-later zero (more n ns) z words c from tl f s acc scope at token rest h = absurd h
member-later (suc m) none z words c from tl f s acc scope at token rest h = absurd h
member-later (suc zero) (more n ns) z words c from tl f s acc scope at token rest h =
    let o : Frame = record { head = head.MemberDeclarators words; from = from; parts = acc; told = tl } in
    let us : List Terminal = spells (members_later zero) ns (token ∷ rest) in
    opens-up o (f ∷ s) scope (suc at) (λ u. refl) (spell n us)
    ∙ z.0 (class.Declarator naming.Named 15) o (f ∷ s) scope (suc at) (t.Mark mark.Semicolon) (token ∷ rest) h.0 (refl, omega arith) refl
    ∙ member-later zero ns z.1 words c from tl f s (push acc n) (after n scope) (past n (suc at)) token rest h.1
    ∙ ap (λ qs. plain (kind.Member (spec words)) f s from token rest qs (through (members_later zero) ns (after n scope)) (past_in (members_later zero) ns (past n (suc at)))) (append-push acc n ns)
member-later (suc (suc m)) (more n ns) z words c from tl f s acc scope at token rest h =
    let o : Frame = record { head = head.MemberDeclarators words; from = from; parts = acc; told = tl } in
    let us : List Terminal = spells (members_later (suc m)) ns (token ∷ rest) in
    opens-up o (f ∷ s) scope (suc at) (λ u. refl) (spell n us)
    ∙ z.0 (class.Declarator naming.Named 15) o (f ∷ s) scope (suc at) (t.Mark mark.Comma) (spells (declarator ∷ members_later m) ns (token ∷ rest)) h.0 (refl, omega arith) refl
    ∙ member-later (suc m) ns z.1 words c from tl f s (push acc n) (after n scope) (past n (suc at)) token rest h.1
    ∙ ap (λ qs. plain (kind.Member (spec words)) f s from token rest qs (through (members_later (suc m)) ns (after n scope)) (past_in (members_later (suc m)) ns (past n (suc at)))) (append-push acc n ns)

abbrev member_end : ℕ → List Symbol
member_end m = listed m declarator ++ (sign mark.Semicolon ∷ [])

member-one : (m : ℕ) (n : Tree) (ns : Trees) → Each Reads (more n ns) → (words : List SpecWord) (c : Class) (from : ℕ) (tl : Told) (f : Frame) (s : Stack) (acc : Trees) (scope : Scope) (at : ℕ) (token : Terminal) (rest : List Terminal) →
    Fills c (member_end (suc m)) scope at (more n ns) →
    opened (record { head = head.MemberDeclarators words; from = from; parts = acc; told = tl }) (f ∷ s) scope at (spell n (spells (members_later m) ns (token ∷ rest)))
    ≡ plain (kind.Member (spec words)) f s from token rest (append acc (more n ns)) (through (member_end (suc m)) (more n ns) scope) (past_in (member_end (suc m)) (more n ns) at)
unfolding step
member-one zero n ns z words c from tl f s acc scope at token rest h =
    let o : Frame = record { head = head.MemberDeclarators words; from = from; parts = acc; told = tl } in
    z.0 (class.Declarator naming.Named 15) o (f ∷ s) scope at (t.Mark mark.Semicolon) (token ∷ rest) h.0 (refl, omega arith) refl
    ∙ member-later zero ns z.1 words c from tl f s (push acc n) (after n scope) (past n at) token rest h.1
    ∙ ap (λ qs. plain (kind.Member (spec words)) f s from token rest qs (through (members_later zero) ns (after n scope)) (past_in (members_later zero) ns (past n at))) (append-push acc n ns)
member-one (suc m) n ns z words c from tl f s acc scope at token rest h =
    let o : Frame = record { head = head.MemberDeclarators words; from = from; parts = acc; told = tl } in
    z.0 (class.Declarator naming.Named 15) o (f ∷ s) scope at (t.Mark mark.Comma) (spells (declarator ∷ members_later m) ns (token ∷ rest)) h.0 (refl, omega arith) refl
    ∙ member-later (suc m) ns z.1 words c from tl f s (push acc n) (after n scope) (past n at) token rest h.1
    ∙ ap (λ qs. plain (kind.Member (spec words)) f s from token rest qs (through (members_later (suc m)) ns (after n scope)) (past_in (members_later (suc m)) ns (past n at))) (append-push acc n ns)

goes-member : (c : Class) (f : Frame) (s : Stack) (from : ℕ) (words : List SpecWord) (m : ℕ) (token : Terminal) (rest : List Terminal) → has_type words ≡ true →
    Goes c f s from (token ∷ rest) (plain (kind.Member (spec words)) f s from token rest) (Anywhere c f s from (token ∷ rest) (plain (kind.Member (spec words)) f s from token rest))
    (head.Spec context.Member words) (member_end m)
unfolding step
goes-member c f s from words zero token rest ht scope at none acc tl a z h =
    let o : Frame = record { head = head.Spec context.Member words; from = from; parts = acc; told = tl } in
    ap (λ y. run (resolve o (f ∷ s) scope at (t.Mark mark.Semicolon) (λ b sd. settle (f ∷ s) b sd at (t.Mark mark.Semicolon)) y) (token ∷ rest))
    (spec-behind scope context.Member words (t.Mark mark.Semicolon) ht refl)
    ∙ ap (λ ps. plain (kind.Member (spec words)) f s from token rest ps scope (suc at)) (sym (append-none acc))
goes-member c f s from words zero token rest ht scope at (more n ns) acc tl a z h = absurd h
goes-member c f s from words (suc m) token rest ht scope at none acc tl a z h = absurd h
goes-member c f s from words (suc m) token rest ht scope at (more n ns) acc tl a z h =
    opens-declarator context.Member words (head.MemberDeclarators words) naming.Named f s from acc tl scope at at n (spells (members_later m) ns (token ∷ rest)) ht
    (member-declarator-opens words) (λ b. refl) h.0
    ∙ member-one m n ns z words c from tl f s acc scope at token rest h

member-first : (m : ℕ) (c : Class) (scope : Scope) (at : ℕ) (ps : Trees) (tail : List Terminal) → Fills c (member_end m) scope at ps → First no_brace (spells (member_end m) ps tail)
member-first zero c scope at ps tail h = (_, _, refl, refl)
member-first (suc m) c scope at none tail h = absurd h
member-first (suc m) c scope at (more n ns) tail h =
    first-along (starts_declarator naming.Named scope) no_brace _ (declarator-no_brace scope naming.Named) (first-declarator n naming.Named 15 scope at _ h.0)

member-begins : (scope : Scope) (w : Class) → Accepts w Member → (token : Terminal) (h : Head) → begin_spec scope context.Member token ≡ Pushes h → begin scope w token ≡ Pushes h
member-begins scope class.Member a token h e = e
member-begins scope _ a token h e = absurd a

pub reads-member : (words : List SpecWord) (parts : Trees) → Each Reads parts → ReadsAs Member (kind.Member (spec words)) parts
reads-member words parts z c f s scope at token rest a g h =
    let m : ℕ = count parts - spec_parts words in
    reads-head c f s context.Member words (member_end m) scope at parts (token ∷ rest) (plain (kind.Member (spec words)) f s at token rest) g
    (member-begins scope (wanted f.head) a) (λ qs sc here q. member-first m c sc here qs (token ∷ rest) q)
    (goes-member c f s at words m token rest (spec-has-type false scope [] words g)) z h

-- parameters and types, which end with their last word or declarator

param-over : (words : List SpecWord) (token : Terminal) → ends_param token ≡ true → machine.behind context.Param words token ≡ Over (kind.Param (spec words))
param-over words (t.Mark mark.Comma) h = refl
param-over words (t.Mark mark.CloseParen) h = refl
param-over words _ h = absurd (false≢true h)

param-no_key : (token : Terminal) → ends_param token ≡ true → is_no_key token ≡ true
param-no_key (t.Key _) h = absurd (false≢true h)
param-no_key _ h = refl

param-no_brace : (token : Terminal) → ends_param token ≡ true → no_brace token ≡ true
param-no_brace (t.Mark mark.OpenBrace) h = absurd (false≢true h)
param-no_brace _ h = refl

param-quiet : (token : Terminal) → ends_param token ≡ true → quiet naming.Either 15 token ≡ true
param-quiet (t.Mark mark.Comma) h = refl
param-quiet (t.Mark mark.CloseParen) h = refl
param-quiet _ h = absurd (false≢true h)

goes-param : (c : Class) (f : Frame) (s : Stack) (from : ℕ) (words : List SpecWord) (m : ℕ) (token : Terminal) (rest : List Terminal) → has_type words ≡ true → ends_param token ≡ true →
    Goes c f s from (token ∷ rest) (plain (kind.Param (spec words)) f s from token rest) (Anywhere c f s from (token ∷ rest) (plain (kind.Param (spec words)) f s from token rest))
    (head.Spec context.Param words) (param_end m)
unfolding step
goes-param c f s from words zero token rest ht q scope at none acc tl a z h =
    let o : Frame = record { head = head.Spec context.Param words; from = from; parts = acc; told = tl } in
    ap (λ y. run (resolve o (f ∷ s) scope at token (λ b sd. settle (f ∷ s) b sd at token) y) rest)
    (spec-behind scope context.Param words token ht (param-no_key token q) ∙ param-over words token q)
    ∙ ap (λ ps. plain (kind.Param (spec words)) f s from token rest ps scope at) (sym (append-none acc))
goes-param c f s from words zero token rest ht q scope at (more n ns) acc tl a z h = absurd h
goes-param c f s from words (suc m) token rest ht q scope at none acc tl a z h = absurd h
goes-param c f s from words (suc m) token rest ht q scope at (more n none) acc tl a z h =
    let o : Frame = record { head = head.ParamOf words; from = from; parts = acc; told = tl } in
    opens-declarator context.Param words (head.ParamOf words) naming.Either f s from acc tl scope at at n (token ∷ rest) ht (param-opens words) (λ b. refl) h.0
    ∙ z.0 (class.Declarator naming.Either 15) o (f ∷ s) scope at token rest h.0 (refl, omega arith) (param-quiet token q)
    ∙ reads-apart o (f ∷ s) (read n scope) (after n scope) (past n at) token rest (quiet-apart naming.Either n token (param-quiet token q))
    ∙ ap (λ qs. plain (kind.Param (spec words)) f s from token rest qs (add (Declares false) (told n scope) (after n scope)) (past n at)) (sym (append-none (push acc n)) ∙ append-push acc n none)
goes-param c f s from words (suc m) token rest ht q scope at (more n (more o ns)) acc tl a z h = absurd h.1

param-first : (m : ℕ) (c : Class) (scope : Scope) (at : ℕ) (ps : Trees) (token : Terminal) (rest : List Terminal) → ends_param token ≡ true → Fills c (param_end m) scope at ps →
    First no_brace (spells (param_end m) ps (token ∷ rest))
param-first zero c scope at none token rest q h = (token, rest, refl, param-no_brace token q)
param-first zero c scope at (more n ns) token rest q h = absurd h
param-first (suc m) c scope at none token rest q h = absurd h
param-first (suc m) c scope at (more n ns) token rest q h =
    first-along (starts_declarator naming.Either scope) no_brace _ (declarator-no_brace scope naming.Either) (first-declarator n naming.Either 15 scope at _ h.0)

param-begins : (scope : Scope) (w : Class) → Accepts w Param → (token : Terminal) (h : Head) → begin_spec scope context.Param token ≡ Pushes h → begin scope w token ≡ Pushes h
param-begins scope class.Param a token h e = e
param-begins scope class.OnlyParam a token h e = e
param-begins scope _ a token h e = absurd a

pub reads-param : (words : List SpecWord) (parts : Trees) → Each Reads parts →
    (c : Class) (f : Frame) (s : Stack) (scope : Scope) (at : ℕ) (token : Terminal) (rest : List Terminal) →
    Accepts (wanted f.head) Param → Asks scope (kind.Param (spec words)) (count parts) → Fills c (right_side (kind.Param (spec words)) (count parts)) scope at parts → ends_param token ≡ true →
    opened f s scope at (spell (node (kind.Param (spec words)) at parts) (token ∷ rest))
    ≡ run (settle (f ∷ s) (read (node (kind.Param (spec words)) at parts) scope) (after (node (kind.Param (spec words)) at parts) scope) (past (node (kind.Param (spec words)) at parts) at) token) rest
reads-param words parts z c f s scope at token rest a g h q =
    let m : ℕ = count parts - spec_parts words in
    reads-head c f s context.Param words (param_end m) scope at parts (token ∷ rest) (plain (kind.Param (spec words)) f s at token rest) g
    (param-begins scope (wanted f.head) a) (λ qs sc here y. param-first m c sc here qs token rest q y)
    (goes-param c f s at words m token rest (spec-has-type false scope [] words g) q) z h

abbrev type_end : ℕ → List Symbol
type_end k = at_most_one k (declarator_of naming.Bare Plain)

type-over : (words : List SpecWord) (token : Terminal) → ends_type token ≡ true → machine.behind context.Type words token ≡ Over (kind.NamedType (spec words))
type-over words (t.Mark mark.CloseParen) h = refl
type-over words _ h = absurd (false≢true h)

type-no_key : (token : Terminal) → ends_type token ≡ true → is_no_key token ≡ true
type-no_key (t.Key _) h = absurd (false≢true h)
type-no_key _ h = refl

type-no_brace : (token : Terminal) → ends_type token ≡ true → no_brace token ≡ true
type-no_brace (t.Mark mark.OpenBrace) h = absurd (false≢true h)
type-no_brace _ h = refl

type-quiet : (token : Terminal) → ends_type token ≡ true → quiet naming.Bare 15 token ≡ true
type-quiet (t.Mark mark.CloseParen) h = refl
type-quiet _ h = absurd (false≢true h)

goes-type : (c : Class) (f : Frame) (s : Stack) (from : ℕ) (words : List SpecWord) (m : ℕ) (token : Terminal) (rest : List Terminal) → has_type words ≡ true → ends_type token ≡ true →
    Goes c f s from (token ∷ rest) (plain (kind.NamedType (spec words)) f s from token rest) (Anywhere c f s from (token ∷ rest) (plain (kind.NamedType (spec words)) f s from token rest))
    (head.Spec context.Type words) (type_end m)
unfolding step
goes-type c f s from words zero token rest ht q scope at none acc tl a z h =
    let o : Frame = record { head = head.Spec context.Type words; from = from; parts = acc; told = tl } in
    ap (λ y. run (resolve o (f ∷ s) scope at token (λ b sd. settle (f ∷ s) b sd at token) y) rest)
    (spec-behind scope context.Type words token ht (type-no_key token q) ∙ type-over words token q)
    ∙ ap (λ ps. plain (kind.NamedType (spec words)) f s from token rest ps scope at) (sym (append-none acc))
goes-type c f s from words zero token rest ht q scope at (more n ns) acc tl a z h = absurd h
goes-type c f s from words (suc m) token rest ht q scope at none acc tl a z h = absurd h
goes-type c f s from words (suc m) token rest ht q scope at (more n none) acc tl a z h =
    let o : Frame = record { head = head.TypeOf words; from = from; parts = acc; told = tl } in
    opens-declarator context.Type words (head.TypeOf words) naming.Bare f s from acc tl scope at at n (token ∷ rest) ht (type-opens words) (λ b. refl) h.0
    ∙ z.0 (class.Declarator naming.Bare 15) o (f ∷ s) scope at token rest h.0 (refl, omega arith) (type-quiet token q)
    ∙ reads-apart o (f ∷ s) (read n scope) (after n scope) (past n at) token rest (quiet-apart naming.Bare n token (type-quiet token q))
    ∙ ap (λ qs. plain (kind.NamedType (spec words)) f s from token rest qs (after n scope) (past n at)) (sym (append-none (push acc n)) ∙ append-push acc n none)
goes-type c f s from words (suc m) token rest ht q scope at (more n (more o ns)) acc tl a z h = absurd h.1

type-first : (m : ℕ) (c : Class) (scope : Scope) (at : ℕ) (ps : Trees) (token : Terminal) (rest : List Terminal) → ends_type token ≡ true → Fills c (type_end m) scope at ps →
    First no_brace (spells (type_end m) ps (token ∷ rest))
type-first zero c scope at none token rest q h = (token, rest, refl, type-no_brace token q)
type-first zero c scope at (more n ns) token rest q h = absurd h
type-first (suc m) c scope at none token rest q h = absurd h
type-first (suc m) c scope at (more n ns) token rest q h =
    first-along (starts_declarator naming.Bare scope) no_brace _ (declarator-no_brace scope naming.Bare) (first-declarator n naming.Bare 15 scope at _ h.0)

type-begins : (scope : Scope) (w : Class) → Accepts w TypeName → (token : Terminal) (h : Head) → begin_spec scope context.Type token ≡ Pushes h → begin scope w token ≡ Pushes h
type-begins scope class.Type a token h e = e
type-begins scope _ a token h e = absurd a

pub reads-type : (words : List SpecWord) (parts : Trees) → Each Reads parts →
    (c : Class) (f : Frame) (s : Stack) (scope : Scope) (at : ℕ) (token : Terminal) (rest : List Terminal) →
    Accepts (wanted f.head) TypeName → Asks scope (kind.NamedType (spec words)) (count parts) → Fills c (right_side (kind.NamedType (spec words)) (count parts)) scope at parts → ends_type token ≡ true →
    opened f s scope at (spell (node (kind.NamedType (spec words)) at parts) (token ∷ rest))
    ≡ run (settle (f ∷ s) (read (node (kind.NamedType (spec words)) at parts) scope) (after (node (kind.NamedType (spec words)) at parts) scope) (past (node (kind.NamedType (spec words)) at parts) at) token) rest
reads-type words parts z c f s scope at token rest a g h q =
    let m : ℕ = count parts - spec_parts words in
    reads-head c f s context.Type words (type_end m) scope at parts (token ∷ rest) (plain (kind.NamedType (spec words)) f s at token rest) g
    (type-begins scope (wanted f.head) a) (λ qs sc here y. type-first m c sc here qs token rest q y)
    (goes-type c f s at words m token rest (spec-has-type false scope [] words g) q) z h

-- constants of an enumeration

constant-over : (x : List ℕ) (token : Terminal) → ends_constant token ≡ true → constant_named x token ≡ Over (kind.EnumConst x false)
constant-over x (t.Mark mark.Comma) h = refl
constant-over x (t.Mark mark.CloseBrace) h = refl
constant-over x _ h = absurd (false≢true h)

constant-calm : (token : Terminal) → ends_constant token ≡ true → (calm 3 token ≡ true) × ((n : Tree) → join_expression 3 n token ≡ Apart)
constant-calm (t.Mark mark.Comma) h = (refl, λ n. refl)
constant-calm (t.Mark mark.CloseBrace) h = (refl, λ n. refl)
constant-calm _ h = absurd (false≢true h)

constant-begins : (scope : Scope) (w : Class) (x : List ℕ) → Accepts w Constant → begin scope w (t.Name x) ≡ Pushes (head.ConstantNamed x)
constant-begins scope class.Constant x a = refl
constant-begins scope _ x a = absurd a

pub reads-constant : (x : List ℕ) (valued : Bool) (parts : Trees) → Each Reads parts →
    (c : Class) (f : Frame) (s : Stack) (scope : Scope) (at : ℕ) (token : Terminal) (rest : List Terminal) →
    Accepts (wanted f.head) Constant → Fills c (right_side (kind.EnumConst x valued) (count parts)) scope at parts → ends_constant token ≡ true →
    opened f s scope at (spell (node (kind.EnumConst x valued) at parts) (token ∷ rest))
    ≡ run (settle (f ∷ s) (read (node (kind.EnumConst x valued) at parts) scope) (after (node (kind.EnumConst x valued) at parts) scope) (past (node (kind.EnumConst x valued) at parts) at) token) rest
unfolding step
reads-constant x false none z c f s scope at token rest a h q =
    let o : Frame = fresh (head.ConstantNamed x) at in
    reads-push f s scope at (t.Name x) (head.ConstantNamed x) (token ∷ rest) (constant-begins scope (wanted f.head) x a)
    ∙ ap (λ m. run (resolve o (f ∷ s) scope (suc at) token (λ b sd. settle (f ∷ s) b sd (suc at) token) m) rest) (constant-over x token q)
reads-constant x false (more n ns) z c f s scope at token rest a h q = absurd h
reads-constant x true none z c f s scope at token rest a h q = absurd h
reads-constant x true (more n none) z c f s scope at token rest a h q =
    let o : Frame = fresh (head.ConstantOf x) at in
    let p = constant-calm token q in
    reads-push f s scope at (t.Name x) (head.ConstantNamed x) (t.Mark mark.Equal ∷ spell n (token ∷ rest)) (constant-begins scope (wanted f.head) x a)
    ∙ opens-up o (f ∷ s) scope (suc (suc at)) (λ u. refl) (spell n (token ∷ rest))
    ∙ z.0 conditional o (f ∷ s) scope (suc (suc at)) token rest h.0 (omega arith) p.0
    ∙ reads-apart o (f ∷ s) (read n scope) (after n scope) (past n (suc (suc at))) token rest (p.1 n)
reads-constant x true (more n (more o ns)) z c f s scope at token rest a h q = absurd h.1
