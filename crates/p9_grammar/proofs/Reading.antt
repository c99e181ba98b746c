-- What it is that the reader reads a tree.
use Rattle.std.proofs.Common.{◌≡◌, ℕ, zero, suc, ◌+◌, ◌≤◌, nat_le, Bool, true, false, ◌||◌, not, List, [], ◌∷◌, ◌++◌, Option, Some, None, refl, sym, ap, subst, ◌∙◌, arith}
use Rattle.std.specs.Prelude.{⊤}
use Rattle.p9_lang.specs.declared.tree.Kind.{Kind}
use Rattle.p9_lang.specs.declared.tree.Kind.TheVariants as kind
use Rattle.p9_grammar.specs.declared.terminal.Keyword.TheVariants as key
use Rattle.p9_grammar.specs.declared.terminal.Punctuator.{Punctuator}
use Rattle.p9_grammar.specs.declared.terminal.Punctuator.TheVariants as mark
use Rattle.p9_grammar.specs.declared.terminal.Terminal.{Terminal}
use Rattle.p9_grammar.specs.declared.terminal.Terminal.TheVariants as t
use Rattle.p9_grammar.specs.declared.head.Context.TheVariants as context
use Rattle.p9_grammar.specs.declared.head.Naming.{Naming}
use Rattle.p9_grammar.specs.declared.head.Naming.TheVariants as naming
use Rattle.p9_grammar.specs.declared.head.Class.{Class}
use Rattle.p9_grammar.specs.declared.head.Class.TheVariants as class
use Rattle.p9_grammar.specs.declared.head.Head.{Head}
use Rattle.p9_grammar.specs.declared.head.Head.TheVariants as head
use Rattle.p9_grammar.specs.Trees.{Tree, node, Trees, none, more, count}
use Rattle.p9_grammar.specs.Symbols.{right_side}
use Rattle.p9_grammar.specs.Scopes.{Scope, after, told}
use Rattle.p9_grammar.specs.Grammar.{Sort, sort, Accepts, Suits, Asks, Formed, Fills, past}
use Rattle.p9_grammar.specs.Machine.{Frame, Read, Stack, State, state, begin, begin_spec, begin_expression, begin_declarator, is_begun, opening, going, settle, run, step, wanted, Infix, Binds, No, binding}
use Rattle.p9_grammar.proofs.Spelling.{spell}

-- The next token begins a part of the innermost node.
abbrev pub opened : Frame → Stack → Scope → ℕ → List Terminal → Option State
opened f s scope at [] = Some (state (f ∷ s) scope at None)
opened f s scope at (token ∷ rest) = run (opening (f ∷ s) scope at token (begin scope (wanted f.head) token)) rest

abbrev pub read : Tree → Scope → Read
read n scope = record { tree = n; told = told n scope }

-- What is read of a class may stand where the other is wanted.
abbrev pub Meets : Class → Class → Type 0
Meets (class.Expression k) (class.Expression l) = k ≤ l
Meets class.Initialiser (class.Expression l) = 2 ≤ l
Meets class.Initialiser class.Initialiser = ⊤
Meets (class.Declarator m k) (class.Declarator n l) = (m ≡ n) × (k ≤ l)
Meets class.Entry class.Entry = ⊤
Meets class.Param class.Param = ⊤
Meets class.Param class.OnlyParam = ⊤
Meets class.Type class.Type = ⊤
Meets class.Member class.Member = ⊤
Meets class.Constant class.Constant = ⊤
Meets class.FileItem class.FileItem = ⊤
Meets class.HeadItem class.HeadItem = ⊤
Meets class.BlockItem class.BlockItem = ⊤
Meets (class.Statement m) (class.Statement may) = m ≡ true
Meets class.SwitchItem class.SwitchItem = ⊤
Meets class.Body class.Body = ⊤
Meets _ _ = ⊥

-- Which tokens may follow a part, so that none of its own nodes takes them

abbrev pub calm_at : ℕ → Infix → Bool
calm_at l (Binds level left j) = nat_le (suc level) l || nat_le left l
calm_at l No = true

abbrev pub calm : ℕ → Terminal → Bool
calm l (t.Mark p) = calm_at l (binding p)
calm l (t.Text x) = false
calm l _ = true

abbrev pub has_name : Naming → Bool
has_name naming.Named = true
has_name _ = false

abbrev pub quiet : Naming → ℕ → Terminal → Bool
quiet n l (t.Mark mark.Comma) = true
quiet n l (t.Mark mark.CloseParen) = true
quiet n l (t.Mark mark.Semicolon) = has_name n
quiet n l (t.Mark mark.Equal) = has_name n
quiet n l (t.Mark mark.OpenBrace) = has_name n
quiet n l (t.Mark mark.OpenBracket) = nat_le 16 l
quiet n l (t.Mark mark.OpenParen) = nat_le 16 l
quiet n l _ = false

abbrev pub is_no_else : Terminal → Bool
is_no_else (t.Key key.Else) = false
is_no_else _ = true

abbrev pub ends_param : Terminal → Bool
ends_param (t.Mark mark.Comma) = true
ends_param (t.Mark mark.CloseParen) = true
ends_param _ = false

abbrev pub ends_type : Terminal → Bool
ends_type (t.Mark mark.CloseParen) = true
ends_type _ = false

abbrev pub ends_constant : Terminal → Bool
ends_constant (t.Mark mark.Comma) = true
ends_constant (t.Mark mark.CloseBrace) = true
ends_constant _ = false

abbrev pub follows : Class → Terminal → Bool
follows (class.Expression l) token = calm l token
follows (class.Declarator n l) token = quiet n l token
follows class.Initialiser token = calm 2 token
follows class.Entry token = calm 2 token
follows class.Param token = ends_param token
follows class.OnlyParam token = ends_param token
follows class.Type token = ends_type token
follows class.Member token = true
follows class.Constant token = ends_constant token
follows class.FileItem token = is_no_else token
follows class.HeadItem token = is_no_else token
follows class.BlockItem token = is_no_else token
follows (class.Statement true) token = is_no_else token
follows (class.Statement false) token = true
follows class.SwitchItem token = is_no_else token
follows class.Body token = true

-- A well-formed tree is read as itself, whatever stands below on the stack.
abbrev pub Reads : Tree → Type 0
Reads n =
    (c : Class) (f : Frame) (s : Stack) (scope : Scope) (at : ℕ) (token : Terminal) (rest : List Terminal) →
    Formed c scope at n → Meets (wanted f.head) c → follows c token ≡ true →
    opened f s scope at (spell n (token ∷ rest)) ≡ run (settle (f ∷ s) (read n scope) (after n scope) (past n at) token) rest

abbrev pub Each : (Tree → Type 0) → Trees → Type 0
Each p none = ⊤
Each p (more n ns) = p n × Each p ns

-- the same of a node, whose token is its place
abbrev pub ReadsNode : Kind → Trees → Type 0
ReadsNode kind parts =
    (c : Class) (f : Frame) (s : Stack) (scope : Scope) (at : ℕ) (token : Terminal) (rest : List Terminal) →
    Accepts c (sort kind) → Suits c scope kind (count parts) → Asks scope kind (count parts) →
    Fills c (right_side kind (count parts)) scope at parts → Meets (wanted f.head) c → follows c token ≡ true →
    opened f s scope at (spell (node kind at parts) (token ∷ rest))
    ≡ run (settle (f ∷ s) (read (node kind at parts) scope) (after (node kind at parts) scope) (past (node kind at parts) at) token) rest

-- A node that opens a part with whatever comes.
pub opens-up : (f : Frame) (s : Stack) (scope : Scope) (at : ℕ) →
    ((token : Terminal) → going (f ∷ s) scope at token ≡ opening (f ∷ s) scope at token (begin scope (wanted f.head) token)) →
    (ts : List Terminal) → run (Some (state (f ∷ s) scope at None)) ts ≡ opened f s scope at ts
unfolding step
opens-up f s scope at h [] = refl
opens-up f s scope at h (token ∷ ts) = ap (λ r. run r ts) (h token)
