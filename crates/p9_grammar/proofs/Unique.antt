-- A file is read as its items, so its tokens have at most one list of them.
use Rattle.std.proofs.Common.{◌≡◌, ℕ, zero, suc, ◌+◌, ◌-◌, ◌≤◌, ◌<◌, nat_le, Bool, true, false, ◌||◌, ◌&&◌, ◌⊎◌, inl, inr, not, List, [], ◌∷◌, ◌++◌, Option, Some, None, refl, sym, ap, subst, ◌∙◌, arith, ⊎_elim, append_assoc, append-nil, map}
use Rattle.std.specs.Prelude.{⊤}
use Rattle.std.proofs.lemmas.Bool.{false≢true, and_parts, not-true}
use Rattle.p9_lang.specs.declared.tree.CBinary.{CBinary}
use Rattle.p9_lang.specs.declared.tree.CBinary.TheVariants as operator
use Rattle.p9_lang.specs.declared.tree.CUnary.{CUnary}
use Rattle.p9_lang.specs.declared.tree.CUnary.TheVariants as unary
use Rattle.p9_lang.specs.declared.tree.EntryBy.{EntryBy}
use Rattle.p9_lang.specs.declared.tree.EntryBy.TheVariants as by
use Rattle.p9_lang.specs.declared.tree.SpecWord.{SpecWord}
use Rattle.p9_lang.specs.declared.tree.SpecWord.TheVariants as word
use Rattle.p9_lang.specs.declared.tree.Kind.{Kind}
use Rattle.p9_lang.specs.declared.tree.Kind.TheVariants as kind
use Rattle.p9_grammar.specs.declared.terminal.Keyword.{Keyword}
use Rattle.p9_grammar.specs.declared.terminal.Keyword.TheVariants as key
use Rattle.p9_grammar.specs.declared.terminal.Punctuator.{Punctuator}
use Rattle.p9_grammar.specs.declared.terminal.Punctuator.TheVariants as mark
use Rattle.p9_grammar.specs.declared.terminal.Terminal.{Terminal}
use Rattle.p9_grammar.specs.declared.terminal.Terminal.TheVariants as t
use Rattle.p9_grammar.specs.declared.head.Context.{Context}
use Rattle.p9_grammar.specs.declared.head.Context.TheVariants as context
use Rattle.p9_grammar.specs.declared.head.Naming.{Naming}
use Rattle.p9_grammar.specs.declared.head.Naming.TheVariants as naming
use Rattle.p9_grammar.specs.declared.head.Class.{Class}
use Rattle.p9_grammar.specs.declared.head.Class.TheVariants as class
use Rattle.p9_grammar.specs.declared.head.Head.{Head}
use Rattle.p9_grammar.specs.declared.head.Head.TheVariants as head
use Rattle.p9_grammar.specs.Trees.{Tree, node, Trees, none, more, count, push}
use Rattle.p9_grammar.specs.Symbols.{Symbol, Write, Part, Enter, Slot, Of, Last, Pointed, Direct, Grouped, Role, Plain, Declares, Begins, part, sign, keyword, right_side, binds, binary_sign, unary_sign, assignment_sign, step_sign, dot_sign, expression, assignment, conditional, operand, later, listed, many, optional, at_most_one, branches, texts, spec_symbols, word_symbols, spec_parts, is_typedef, declarator, declarator_of, declarators, later_declarators, initialiser, qualifier, inner_declarator, parameters, parameter_list, behind, entry_place, named, in_braces, tag_key}
use Rattle.p9_grammar.specs.Scopes.{Scope, Level, is_type, after, told, told_first, through, add, leave, tells, nothing, Told, innermost, outer}
use Rattle.p9_grammar.specs.Grammar.{Sort, sort, Accepts, Suits, Asks, Formed, Fills, slot_class, naming_of, may_of, past, past_in, is_assignable, SpecFrom, IsSpec, may_follow, has_type, is_known, is_void_word, pointed, grouped}
use Rattle.p9_grammar.specs.Machine.{Frame, Read, Stack, State, state, to, fresh, moved, made, leaf, start_of, step, run, begin, begin_by, begin_spec, begin_expression, begin_declarator, begin_statement, begin_switch_item, begin_initialiser, only_if, or_else, Begin, Pushes, Leaf, Under, Nowhere, Move, Shift, Ends, Opens, Over, Refused, After, To, Makes, Unwanted, Join, Joins, Posts, Lengthens, Apart, opening, inside, resolve, attach, attached, joining, join, join_at, join_if, join_expression, join_declarator, settle, going, feed, decide, choose, wanted, role, retold, enters, opens, Infix, Binds, No, binding, binary, assigns, level_of, direct_of, move, spec_move, begins_type, allows_storage, spec, shift_if, ends_spec, paren_or, brace_or, semicolon_or, bracket_or}
use Rattle.p9_grammar.proofs.Spelling.{spell, spells}
use Rattle.p9_grammar.proofs.Reading.{opened, read, Meets, calm, calm_at, quiet, is_no_else, ends_param, ends_type, ends_constant, follows, Reads, Each, ReadsNode, opens-up}
use Rattle.p9_grammar.proofs.Calm.{le_true, le_false, true_le, low, low-calm, low-apart, Edge, calm-low, quiet-apart, quiet-less}
use Rattle.p9_grammar.proofs.First.{First, starts, starts_expression, starts_declarator, starts_statement, starts_switch_item, starts_initialiser, starts_entry, starts_spec, first-expression, first-declarator, first-spec, word_token, word_head, moves-word, first_of_word, first-along}
use Rattle.p9_grammar.specs.Machine.{is_begun, only_if, begin_entry, begin_body, begin_constant, fed, else_move, stepped}
use Rattle.p9_grammar.specs.Grammar.{Expression, Declarator, Braced, Entry, Param, TypeName, Member, Constant, Declaration, Function, Block, Statement, Label}
use Rattle.p9_grammar.proofs.Expressions.{append, append-push, append-none, formed-start, formed-level, reads-leaf, reads-push, reads-join, reads-apart, opens-first, no-type, first-type, join-tight, calm-left}
use Rattle.p9_lang.specs.declared.tree.Node.{Node}
use Rattle.p9_grammar.specs.Trees.{tree_of, trees_of}
use Rattle.p9_grammar.specs.Symbols.{file_symbols}
use Rattle.p9_grammar.specs.Grammar.{tokens, write}
use Rattle.p9_grammar.specs.Machine.{file_start, end_or}
use Rattle.p9_grammar.specs.Promise.{IsFile, file_tokens, file_scope, OneFile, OneExpression, IsRead, ReadsFiles, RefusesRightly}
use Rattle.p9_grammar.proofs.Spelling.{spell-tokens, spells-write}
use Rattle.p9_grammar.proofs.Complete.{reads, each}
use Rattle.p9_grammar.proofs.Nodes.{same_node, same_nodes}

first-file_item : (n : Tree) (scope : Scope) (at : ℕ) (rest : List Terminal) → Formed class.FileItem scope at n → First (starts_spec context.File scope) (spell n rest)
first-file_item (node (kind.Declaration sp inits) token parts) scope at rest f = first-spec context.File scope sp.words _ parts rest f.3
first-file_item (node (kind.Function sp) token parts) scope at rest f = first-spec context.File scope sp.words _ parts rest f.3
first-file_item (node _ token parts) scope at rest f = absurd f.1

item-opens : (scope : Scope) (token : Terminal) → starts_spec context.File scope token ≡ true → end_or (Shift head.FileOver) (Opens head.FileItems) token ≡ Opens head.FileItems
item-opens scope t.End h = absurd (false≢true h)
item-opens scope _ h = refl

item-no_else : (scope : Scope) (token : Terminal) → starts_spec context.File scope token ≡ true → is_no_else token ≡ true
item-no_else scope (t.Key key.Else) h = absurd (false≢true h)
item-no_else scope _ h = refl

first-of-items : (ns : Trees) (c : Class) (scope : Scope) (at : ℕ) → Fills c (file_symbols (count ns)) scope at ns → First is_no_else (spells (file_symbols (count ns)) ns [])
first-of-items none c scope at h = (_, _, refl, refl)
first-of-items (more n ns) c scope at h = first-along (starts_spec context.File scope) is_no_else _ (item-no_else scope) (first-file_item n scope at _ h.0)

-- where the reader stands behind a file
abbrev pub file_end : Trees → Told → Scope → ℕ → State
file_end items tl scope at = state (record { head = head.FileOver; from = 0; parts = items; told = tl } ∷ []) scope at None

file-items : (ns : Trees) → Each Reads ns → (c : Class) (acc : Trees) (tl : Told) (scope : Scope) (at : ℕ) → Fills c (file_symbols (count ns)) scope at ns →
    run (Some (state (record { head = head.FileItems; from = 0; parts = acc; told = tl } ∷ []) scope at None)) (spells (file_symbols (count ns)) ns [])
    ≡ Some (file_end (append acc ns) tl (through (file_symbols (count ns)) ns scope) (past_in (file_symbols (count ns)) ns at))
unfolding step
file-items none z c acc tl scope at h = ap (λ ps. Some (file_end ps tl scope (suc at))) (sym (append-none acc))
file-items (more n ns) z c acc tl scope at h =
    let o : Frame = record { head = head.FileItems; from = 0; parts = acc; told = tl } in
    let ts : List Terminal = spells (file_symbols (count ns)) ns [] in
    let p = first-of-items ns c (after n scope) (past n at) h.1 in
    opens-first (starts_spec context.File scope) o [] o [] scope scope at (spell n ts) (first-file_item n scope at ts h.0)
    (λ u v. ap (λ y. resolve o [] scope at u (λ x sd. settle [] x sd at u) y) (item-opens scope u v))
    ∙ ap (λ us. opened o [] scope at (spell n us)) p.2
    ∙ z.0 class.FileItem o [] scope at p.0 p.1 h.0 tt p.3
    ∙ ap (run (Some (state (record { head = head.FileItems; from = 0; parts = push acc n; told = tl } ∷ []) (after n scope) (past n at) None))) (sym p.2)
    ∙ file-items ns z.1 c (push acc n) tl (after n scope) (past n at) h.1
    ∙ ap (λ ps. Some (file_end ps tl (through (file_symbols (count ns)) ns (after n scope)) (past_in (file_symbols (count ns)) ns (past n at)))) (append-push acc n ns)

pub file-read : (items : Trees) → IsFile items →
    run (Some file_start) (file_tokens items) ≡ Some (file_end items nothing (through (file_symbols (count items)) items file_scope) (past_in (file_symbols (count items)) items 0))
file-read items h =
    ap (run (Some file_start)) (sym (append-nil (file_tokens items)) ∙ sym (spells-write (file_symbols (count items)) items []))
    ∙ file-items items (each items) class.Body none nothing file_scope 0 h

-- what the outermost open node has read
abbrev parts_of : Option State → Trees
parts_of None = none
parts_of (Some st) = top st.stack
  where
    top : Stack → Trees
    top [] = none
    top (f ∷ s) = f.parts

pub one-file : (a b : Trees) → IsFile a → IsFile b → file_tokens a ≡ file_tokens b → a ≡ b
one-file a b f g e = ap parts_of (sym (file-read a f) ∙ ap (run (Some file_start)) e ∙ file-read b g)

pub one-file-law : OneFile
one-file-law a b f g e = same_nodes a b (one-file (trees_of a) (trees_of b) f g e)

-- an expression with the end behind it

abbrev pub expression_end : Tree → Told → Scope → ℕ → ℕ → State
expression_end n tl scope from at = state (record { head = head.GoalOver; from = from; parts = more n none; told = tl } ∷ []) scope at None

pub expression-read : (n : Tree) (scope : Scope) (at : ℕ) → Formed expression scope at n →
    run (Some (state (fresh head.GoalExpression at ∷ []) scope at None)) (tokens n ++ (t.End ∷ [])) ≡ Some (expression_end n nothing (after n scope) at (suc (past n at)))
unfolding step
expression-read n scope at h =
    ap (run (Some (state (fresh head.GoalExpression at ∷ []) scope at None))) (sym (spell-tokens n (t.End ∷ [])))
    ∙ opens-up (fresh head.GoalExpression at) [] scope at (λ u. refl) (spell n (t.End ∷ []))
    ∙ reads n expression (fresh head.GoalExpression at) [] scope at t.End [] h (omega arith) refl

one-part : (a b : Tree) → more a none ≡ more b none → a ≡ b
one-part a b e = ap first e
  where
    first : Trees → Tree
    first none = a
    first (more n ns) = n

pub one-expression-law : OneExpression
one-expression-law a b scope at f g e =
    same_node a b (one-part (tree_of a) (tree_of b)
    (ap parts_of (sym (expression-read (tree_of a) scope at f) ∙ ap (λ ts. run (Some (state (fresh head.GoalExpression at ∷ []) scope at None)) (ts ++ (t.End ∷ []))) e ∙ expression-read (tree_of b) scope at g)))

pub reads-files : ReadsFiles
reads-files items h = subst (IsRead items) (sym (file-read items h)) (nothing, refl)

run-none : (ts : List Terminal) → run None ts ≡ None
run-none [] = refl
run-none (token ∷ ts) = refl

run-append : (r : Option State) (xs ys : List Terminal) → run r (xs ++ ys) ≡ run (run r xs) ys
run-append r [] ys = refl
run-append None (x ∷ xs) ys = sym (run-none ys)
run-append (Some st) (x ∷ xs) ys = run-append (step st x) xs ys

pub refuses-rightly : RefusesRightly
refuses-rightly ts e (items, rest, f, g) =
    subst (IsRead items) (ap (run (Some file_start)) g ∙ run-append (Some file_start) ts rest ∙ ap (λ r. run r rest) e ∙ run-none rest) (reads-files items f)
