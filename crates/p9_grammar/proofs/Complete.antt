-- What a well-formed tree writes is read as that tree, so tokens have at most one.
use Rattle.std.proofs.Common.{◌≡◌, ℕ, zero, suc, ◌+◌, ◌-◌, ◌≤◌, ◌<◌, nat_le, Bool, true, false, ◌||◌, ◌&&◌, ◌⊎◌, inl, inr, not, List, [], ◌∷◌, ◌++◌, Option, Some, None, refl, sym, ap, subst, ◌∙◌, arith, ⊎_elim, append_assoc, append-nil, map}
use Rattle.std.specs.Prelude.{⊤}
use Rattle.std.proofs.lemmas.Bool.{false≢true, and_parts, not-true}
use Rattle.p9_lang.specs.declared.tree.CBinary.{CBinary}
use Rattle.p9_lang.specs.declared.tree.CBinary.TheVariants as operator
use Rattle.p9_lang.specs.declared.tree.CUnary.{CUnary}
use Rattle.p9_lang.specs.declared.tree.CUnary.TheVariants as unary
use Rattle.p9_lang.specs.declared.tree.EntryBy.{EntryBy}
use Rattle.p9_lang.specs.declared.tree.EntryBy.TheVariants as by
use Rattle.p9_lang.specs.declared.tree.SpecWord.{SpecWord}
use Rattle.p9_lang.specs.declared.tree.SpecWord.TheVariants as word
use Rattle.p9_lang.specs.declared.tree.Kind.{Kind}
use Rattle.p9_lang.specs.declared.tree.Kind.TheVariants as kind
use Rattle.p9_grammar.specs.declared.terminal.Keyword.{Keyword}
use Rattle.p9_grammar.specs.declared.terminal.Keyword.TheVariants as key
use Rattle.p9_grammar.specs.declared.terminal.Punctuator.{Punctuator}
use Rattle.p9_grammar.specs.declared.terminal.Punctuator.TheVariants as mark
use Rattle.p9_grammar.specs.declared.terminal.Terminal.{Terminal}
use Rattle.p9_grammar.specs.declared.terminal.Terminal.TheVariants as t
use Rattle.p9_grammar.specs.declared.head.Context.{Context}
use Rattle.p9_grammar.specs.declared.head.Context.TheVariants as context
use Rattle.p9_grammar.specs.declared.head.Naming.{Naming}
use Rattle.p9_grammar.specs.declared.head.Naming.TheVariants as naming
use Rattle.p9_grammar.specs.declared.head.Class.{Class}
use Rattle.p9_grammar.specs.declared.head.Class.TheVariants as class
use Rattle.p9_grammar.specs.declared.head.Head.{Head}
use Rattle.p9_grammar.specs.declared.head.Head.TheVariants as head
use Rattle.p9_grammar.specs.Trees.{Tree, node, Trees, none, more, count, push}
use Rattle.p9_grammar.specs.Symbols.{Symbol, Write, Part, Enter, Slot, Of, Last, Pointed, Direct, Grouped, Role, Plain, Declares, Begins, part, sign, keyword, right_side, binds, binary_sign, unary_sign, assignment_sign, step_sign, dot_sign, expression, assignment, conditional, operand, later, listed, many, optional, at_most_one, branches, texts, spec_symbols, word_symbols, spec_parts, is_typedef, declarator, declarator_of, declarators, later_declarators, initialiser, qualifier, inner_declarator, parameters, parameter_list, behind, entry_place, named, in_braces, tag_key}
use Rattle.p9_grammar.specs.Scopes.{Scope, Level, is_type, after, told, told_first, through, add, leave, tells, nothing, Told, innermost, outer}
use Rattle.p9_grammar.specs.Grammar.{Sort, sort, Accepts, Suits, Asks, Formed, Fills, slot_class, naming_of, may_of, past, past_in, is_assignable, SpecFrom, IsSpec, may_follow, has_type, is_known, is_void_word, pointed, grouped}
use Rattle.p9_grammar.specs.Machine.{Frame, Read, Stack, State, state, to, fresh, moved, made, leaf, start_of, step, run, begin, begin_by, begin_spec, begin_expression, begin_declarator, begin_statement, begin_switch_item, begin_initialiser, only_if, or_else, Begin, Pushes, Leaf, Under, Nowhere, Move, Shift, Ends, Opens, Over, Refused, After, To, Makes, Unwanted, Join, Joins, Posts, Lengthens, Apart, opening, inside, resolve, attach, attached, joining, join, join_at, join_if, join_expression, join_declarator, settle, going, feed, decide, choose, wanted, role, retold, enters, opens, Infix, Binds, No, binding, binary, assigns, level_of, direct_of, move, spec_move, begins_type, allows_storage, spec, shift_if, ends_spec, paren_or, brace_or, semicolon_or, bracket_or}
use Rattle.p9_grammar.proofs.Spelling.{spell, spells}
use Rattle.p9_grammar.proofs.Reading.{opened, read, Meets, calm, calm_at, quiet, is_no_else, ends_param, ends_type, ends_constant, follows, Reads, Each, ReadsNode, opens-up}
use Rattle.p9_grammar.proofs.Calm.{le_true, le_false, true_le, low, low-calm, low-apart, Edge, calm-low, quiet-apart, quiet-less}
use Rattle.p9_grammar.proofs.First.{First, starts, starts_expression, starts_declarator, starts_statement, starts_switch_item, starts_initialiser, starts_entry, starts_spec, first-expression, first-declarator, first-spec, word_token, word_head, moves-word, first_of_word, first-along}
use Rattle.p9_grammar.specs.Machine.{is_begun, only_if, begin_entry, begin_body, begin_constant, fed, else_move, stepped}
use Rattle.p9_grammar.specs.Grammar.{Expression, Declarator, Braced, Entry, Param, TypeName, Member, Constant, Declaration, Function, Block, Statement, Label}
use Rattle.p9_grammar.proofs.Expressions.{append, append-push, append-none, formed-start, formed-level, reads-leaf, reads-push, reads-join, reads-apart, opens-first, no-type, first-type, join-tight, calm-left}
use Rattle.p9_grammar.specs.Grammar.{tokens}
use Rattle.p9_grammar.proofs.Spelling.{spell-tokens}
use Rattle.p9_grammar.proofs.Expressions.{reads-expression}
use Rattle.p9_grammar.proofs.Statements.{meets-accepts, reads-statement, reads-case, reads-default}
use Rattle.p9_grammar.proofs.Declarators.{reads-declarator}
use Rattle.p9_grammar.proofs.Declarations.{reads-declaration, reads-function, reads-member, reads-param, reads-type, reads-constant}
use Rattle.p9_grammar.proofs.Initialisers.{as-expression, reads-entry, reads-list}

initialiser-level : (w : Class) → Meets w class.Initialiser → Meets w (class.Expression 2)
initialiser-level class.Initialiser m = omega arith
initialiser-level _ m = absurd m

-- by class and kind
reads-node : (c : Class) (k : Kind) (parts : Trees) → Each Reads parts → (f : Frame) (s : Stack) (scope : Scope) (at : ℕ) (token : Terminal) (rest : List Terminal) →
    Accepts c (sort k) → Suits c scope k (count parts) → Asks scope k (count parts) → Fills c (right_side k (count parts)) scope at parts → Meets (wanted f.head) c → follows c token ≡ true →
    opened f s scope at (spell (node k at parts) (token ∷ rest))
    ≡ run (settle (f ∷ s) (read (node k at parts) scope) (after (node k at parts) scope) (past (node k at parts) at) token) rest
reads-node (class.Expression l) k parts z f s scope at token rest a u g h m q = reads-expression k parts z l f s scope at token rest a g h m q
reads-node (class.Declarator n l) k parts z f s scope at token rest a u g h m q = reads-declarator k parts z n l f s scope at token rest a u h m q
reads-node class.Initialiser (kind.InitList comma) parts z f s scope at token rest a u g h m q =
    reads-list comma parts z class.Initialiser f s scope at token rest (meets-accepts (wanted f.head) class.Initialiser Braced m a) g h
reads-node class.Initialiser k parts z f s scope at token rest a u g h m q =
    reads-expression k parts z 2 f s scope at token rest a g (as-expression (right_side k (count parts)) scope at parts h) (initialiser-level (wanted f.head) m) q
reads-node class.Entry (kind.Entry place equals) parts z f s scope at token rest a u g h m q =
    reads-entry place equals parts z class.Entry f s scope at token rest (meets-accepts (wanted f.head) class.Entry Entry m a) g h q
reads-node class.Entry k parts z f s scope at token rest a u g h m q = absurd a
reads-node class.Param (kind.Param sp) parts z f s scope at token rest a u g h m q =
    reads-param sp.words parts z class.Param f s scope at token rest (meets-accepts (wanted f.head) class.Param Param m a) g h q
reads-node class.Param k parts z f s scope at token rest a u g h m q = absurd a
reads-node class.OnlyParam (kind.Param sp) parts z f s scope at token rest a u g h m q =
    reads-param sp.words parts z class.OnlyParam f s scope at token rest (meets-accepts (wanted f.head) class.OnlyParam Param m a) g h q
reads-node class.OnlyParam k parts z f s scope at token rest a u g h m q = absurd a
reads-node class.Type (kind.NamedType sp) parts z f s scope at token rest a u g h m q =
    reads-type sp.words parts z class.Type f s scope at token rest (meets-accepts (wanted f.head) class.Type TypeName m a) g h q
reads-node class.Type k parts z f s scope at token rest a u g h m q = absurd a
reads-node class.Member (kind.Member sp) parts z f s scope at token rest a u g h m q =
    reads-member sp.words parts z class.Member f s scope at token rest (meets-accepts (wanted f.head) class.Member Member m a) g h
reads-node class.Member k parts z f s scope at token rest a u g h m q = absurd a
reads-node class.Constant (kind.EnumConst x valued) parts z f s scope at token rest a u g h m q =
    reads-constant x valued parts z class.Constant f s scope at token rest (meets-accepts (wanted f.head) class.Constant Constant m a) h q
reads-node class.Constant k parts z f s scope at token rest a u g h m q = absurd a
reads-node class.FileItem (kind.Declaration sp inits) parts z f s scope at token rest a u g h m q =
    reads-declaration sp.words inits parts z class.FileItem f s scope at token rest (meets-accepts (wanted f.head) class.FileItem Declaration m a) g h
reads-node class.FileItem (kind.Function sp) parts z f s scope at token rest a u g h m q =
    reads-function sp.words parts z class.FileItem f s scope at token rest (meets-accepts (wanted f.head) class.FileItem Function m a) g h
reads-node class.FileItem k parts z f s scope at token rest a u g h m q = absurd a
reads-node class.HeadItem (kind.Declaration sp inits) parts z f s scope at token rest a u g h m q =
    reads-declaration sp.words inits parts z class.HeadItem f s scope at token rest (meets-accepts (wanted f.head) class.HeadItem Declaration m a) g h
reads-node class.HeadItem k parts z f s scope at token rest a u g h m q = absurd a
reads-node class.BlockItem (kind.Declaration sp inits) parts z f s scope at token rest a u g h m q =
    reads-declaration sp.words inits parts z class.BlockItem f s scope at token rest (meets-accepts (wanted f.head) class.BlockItem Declaration m a) g h
reads-node class.BlockItem k parts z f s scope at token rest a u g h m q =
    reads-statement k parts z a class.BlockItem f s scope at token rest a u h (meets-accepts (wanted f.head) class.BlockItem (sort k) m a) q
reads-node (class.Statement may) k parts z f s scope at token rest a u g h m q =
    reads-statement k parts z (statement may (sort k) a) (class.Statement may) f s scope at token rest a u h (meets-accepts (wanted f.head) (class.Statement may) (sort k) m a) q
  where
    statement : (may : Bool) (x : Sort) → Accepts (class.Statement may) x → Accepts (class.Statement true) x
    statement may Block a = tt
    statement may Statement a = tt
    statement may _ a = absurd a
reads-node class.SwitchItem kind.Case parts z f s scope at token rest a u g h m q =
    reads-case parts z class.SwitchItem f s scope at token rest a u h (meets-accepts (wanted f.head) class.SwitchItem Label m a) q
reads-node class.SwitchItem kind.Default parts z f s scope at token rest a u g h m q =
    reads-default parts class.SwitchItem f s scope at token rest a u h (meets-accepts (wanted f.head) class.SwitchItem Label m a) q
reads-node class.SwitchItem k parts z f s scope at token rest a u g h m q =
    reads-statement k parts z a class.SwitchItem f s scope at token rest a u h (meets-accepts (wanted f.head) class.SwitchItem (sort k) m a) q
reads-node class.Body kind.Block parts z f s scope at token rest a u g h m q =
    reads-statement kind.Block parts z tt class.Body f s scope at token rest a u h (meets-accepts (wanted f.head) class.Body Block m a) q
reads-node class.Body k parts z f s scope at token rest a u g h m q = absurd a

placed : (k : Kind) (parts : Trees) (p at : ℕ) (f : Frame) (s : Stack) (scope : Scope) (token : Terminal) (rest : List Terminal) → p ≡ at →
    run (settle (f ∷ s) (read (node k at parts) scope) (after (node k at parts) scope) (past (node k at parts) at) token) rest
    ≡ run (settle (f ∷ s) (read (node k p parts) scope) (after (node k p parts) scope) (past (node k p parts) at) token) rest
placed k parts p at f s scope token rest e =
    ap (λ x. run (settle (f ∷ s) (record { tree = node k x parts; told = told (node k at parts) scope }) (after (node k at parts) scope) (past (node k at parts) at) token) rest) (sym e)

mutual
  pub reads : (n : Tree) → Reads n
  reads (node k p parts) c f s scope at token rest h m q =
      reads-node c k parts (each parts) f s scope at token rest h.1 h.2 h.3 h.4 m q ∙ placed k parts p at f s scope token rest h.0

  pub each : (ns : Trees) → Each Reads ns
  each none = tt
  each (more n ns) = (reads n, each ns)
