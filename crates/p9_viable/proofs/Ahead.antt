-- Tokens that lead from each open node to its end.
use Rattle.std.proofs.Common.{◌≡◌, ℕ, suc, Bool, true, false, List, [], ◌∷◌, ◌++◌, Option, Some, None, refl, sym, ap, subst, ◌∙◌}
use Rattle.std.specs.Prelude.{⊤}
use Rattle.p9_lang.specs.declared.tree.EntryBy.TheVariants as by
use Rattle.p9_lang.specs.declared.tree.SpecWord.{SpecWord}
use Rattle.p9_lang.specs.declared.tree.SpecWord.TheVariants as word
use Rattle.p9_lang.specs.declared.tree.Kind.{Kind}
use Rattle.p9_lang.specs.declared.tree.Kind.TheVariants as kind
use Rattle.p9_grammar.specs.declared.terminal.Keyword.TheVariants as key
use Rattle.p9_grammar.specs.declared.terminal.Punctuator.TheVariants as mark
use Rattle.p9_grammar.specs.declared.terminal.Terminal.{Terminal}
use Rattle.p9_grammar.specs.declared.terminal.Terminal.TheVariants as t
use Rattle.p9_grammar.specs.declared.head.Context.{Context}
use Rattle.p9_grammar.specs.declared.head.Context.TheVariants as context
use Rattle.p9_grammar.specs.declared.head.Naming.{Naming}
use Rattle.p9_grammar.specs.declared.head.Naming.TheVariants as naming
use Rattle.p9_grammar.specs.declared.head.Class.{Class}
use Rattle.p9_grammar.specs.declared.head.Class.TheVariants as class
use Rattle.p9_grammar.specs.declared.head.Head.{Head}
use Rattle.p9_grammar.specs.declared.head.Head.TheVariants as head
use Rattle.p9_grammar.specs.Trees.{Tree, Trees, push}
use Rattle.p9_grammar.specs.Scopes.{Scope, Told, add, leave}
use Rattle.p9_grammar.specs.Machine.{Frame, Read, Stack, State, state, made, step, run, Move, Over, Makes, Apart, resolve, attach, attached, first_param, only_void, joining, join, join_expression, join_declarator, settle, fed, decide, wanted, role, move, spec_move, retold, spec, behind, behind_type, ends_spec, else_move}
use Rattle.p9_grammar.specs.Grammar.{has_type, pointed, grouped}
use Rattle.std.proofs.lemmas.Bool.{false≢true}
use Rattle.p9_prefix.specs.Goals.{Goal, HasEnded}
use Rattle.p9_grammar.proofs.Tells.{class_of}
use Rattle.p9_grammar.proofs.Heads.{has_type-behind}
use Rattle.p9_grammar.proofs.Moves.{is_after, dummy}
use Rattle.p9_viable.proofs.Calm.{up}

abbrev pub rp : Terminal
rp = t.Mark mark.CloseParen

abbrev pub lp : Terminal
lp = t.Mark mark.OpenParen

abbrev pub rb : Terminal
rb = t.Mark mark.CloseBracket

abbrev pub lc : Terminal
lc = t.Mark mark.OpenBrace

abbrev pub rc : Terminal
rc = t.Mark mark.CloseBrace

abbrev pub sc : Terminal
sc = t.Mark mark.Semicolon

abbrev pub co : Terminal
co = t.Mark mark.Colon

abbrev pub cm : Terminal
cm = t.Mark mark.Comma

abbrev pub zero_ : Terminal
zero_ = t.Number 0 false false

abbrev pub name_ : Terminal
name_ = t.Name (120 ∷ [])

abbrev pub int_ : Terminal
int_ = t.Key key.Int

abbrev pub while_ : Terminal
while_ = t.Key key.While

-- What ends the node behind its head.
abbrev pub close : Context → List Terminal
close context.File = sc ∷ []
close context.Head = sc ∷ []
close context.Local = sc ∷ []
close context.Member = sc ∷ []
close context.Param = []
close context.Type = []

-- What ends an open node behind a part of it.
abbrev pub ahead : Head → List Terminal
ahead head.FileItems = t.End ∷ []
ahead head.GoalExpression = t.End ∷ []
ahead head.Group = rp ∷ []
ahead head.CastType = rp ∷ zero_ ∷ []
ahead head.SizeofType = rp ∷ []
ahead head.ChooseYes = co ∷ zero_ ∷ []
ahead head.IndexOf = rb ∷ []
ahead head.CallStart = rp ∷ []
ahead head.CallMore = rp ∷ []
ahead head.BlockItems = rc ∷ []
ahead head.ExpressionOf = sc ∷ []
ahead head.IfTest = rp ∷ sc ∷ []
ahead head.WhileTest = rp ∷ sc ∷ []
ahead head.DoBody = while_ ∷ lp ∷ zero_ ∷ rp ∷ sc ∷ []
ahead head.DoTest = rp ∷ sc ∷ []
ahead head.ForFirst = sc ∷ sc ∷ rp ∷ sc ∷ []
ahead (head.ForTest first) = sc ∷ rp ∷ sc ∷ []
ahead (head.ForStep first test) = rp ∷ sc ∷ []
ahead head.SwitchValue = rp ∷ lc ∷ rc ∷ []
ahead head.SwitchItems = rc ∷ []
ahead head.CaseOf = co ∷ []
ahead head.ReturnOf = sc ∷ []
ahead (head.Members c words is_union name n) = rc ∷ close c
ahead (head.Constants c words name n) = rc ∷ close c
ahead (head.ConstantsComma c words name n) = rc ∷ close c
ahead (head.Declarators c words inits) = sc ∷ []
ahead (head.Initialised c words inits) = sc ∷ []
ahead (head.MemberDeclarators words) = sc ∷ []
ahead (head.DeclGroup n) = rp ∷ []
ahead (head.BracketsStart inner) = rb ∷ []
ahead (head.ParamsStart inner) = cm ∷ int_ ∷ rp ∷ []
ahead (head.ParamsMore inner) = rp ∷ []
ahead head.ListStart = rc ∷ []
ahead head.ListComma = rc ∷ []
ahead head.EntryIndex = rb ∷ zero_ ∷ []
ahead _ = []

abbrev pub tail_of : Stack → List Terminal
tail_of [] = []
tail_of (f ∷ s) = ahead f.head ++ tail_of s

-- Tokens that are no part of an expression before them, of a declarator, of a parameter.
abbrev pub closer : Terminal → Bool
closer (t.Mark mark.CloseParen) = true
closer (t.Mark mark.CloseBracket) = true
closer (t.Mark mark.Semicolon) = true
closer (t.Mark mark.CloseBrace) = true
closer (t.Mark mark.Colon) = true
closer t.End = true
closer _ = false

abbrev pub ender : Terminal → Bool
ender (t.Mark mark.Comma) = true
ender (t.Mark mark.CloseParen) = true
ender _ = false

abbrev pub is_rp : Terminal → Bool
is_rp (t.Mark mark.CloseParen) = true
is_rp _ = false

abbrev pub is_rc : Terminal → Bool
is_rc (t.Mark mark.CloseBrace) = true
is_rc _ = false

abbrev pub no_else : Terminal → Bool
no_else (t.Key key.Else) = false
no_else _ = true

abbrev pub named_ender : Naming → Terminal → Bool
named_ender naming.Named token = closer token
named_ender _ token = ender token

abbrev pub ready_for : Class → Terminal → Bool
ready_for (class.Expression l) token = closer token
ready_for class.Initialiser token = closer token
ready_for (class.Declarator n l) token = named_ender n token
ready_for class.Param token = ender token
ready_for class.OnlyParam token = ender token
ready_for class.Type token = is_rp token
ready_for class.Constant token = is_rc token
ready_for class.Entry token = is_rc token
ready_for class.BlockItem token = no_else token
ready_for (class.Statement may) token = no_else token
ready_for class.SwitchItem token = no_else token
ready_for _ token = true

pub record Finishes (goal : Goal) (r : Option State) : Type 0 where
  pub parts : Trees
  pub ended : HasEnded goal parts r

-- The tokens that end what is open on the stack.
pub record Next (s : Stack) : Type 0 where
  pub first : Terminal
  pub others : List Terminal
  pub is : tail_of s ≡ first ∷ others
  pub ready : ready_for (class_of s) first ≡ true

-- whether a declaration alone is wanted: nothing stands behind it
abbrev pub is_head_item : Class → Bool
is_head_item class.HeadItem = true
is_head_item _ = false

-- A part that is read over the stack is the beginning of a whole that ends.
pub record Both (goal : Goal) (s : Stack) : Type 0 where
  pub next : is_head_item (class_of s) ≡ false → Next s
  pub goes : (n : Read) (scope : Scope) (at : ℕ) → Finishes goal (run (Some (state s scope at (Some n))) (tail_of s))

-- Where a node of this class stands, something stands behind, and it is such a token.
abbrev pub Passes : Class → (Terminal → Bool) → Type 0
Passes c p = (is_head_item c ≡ false) × ((token : Terminal) → ready_for c token ≡ true → p token ≡ true)

-- tokens join nothing

closer-apart : (l : ℕ) (n : Tree) (token : Terminal) → closer token ≡ true → join_expression l n token ≡ Apart
closer-apart l n (t.Mark mark.CloseParen) e = refl
closer-apart l n (t.Mark mark.CloseBracket) e = refl
closer-apart l n (t.Mark mark.Semicolon) e = refl
closer-apart l n (t.Mark mark.CloseBrace) e = refl
closer-apart l n (t.Mark mark.Colon) e = refl
closer-apart l n t.End e = refl
closer-apart l n _ e = absurd (cc)

ender-apart : (n : Tree) (token : Terminal) → ender token ≡ true → join_declarator n token ≡ Apart
ender-apart n (t.Mark mark.Comma) e = refl
ender-apart n (t.Mark mark.CloseParen) e = refl
ender-apart n _ e = absurd (cc)

named-apart : (n : Tree) (token : Terminal) → closer token ≡ true → join_declarator n token ≡ Apart
named-apart n (t.Mark mark.CloseParen) e = refl
named-apart n (t.Mark mark.CloseBracket) e = refl
named-apart n (t.Mark mark.Semicolon) e = refl
named-apart n (t.Mark mark.CloseBrace) e = refl
named-apart n (t.Mark mark.Colon) e = refl
named-apart n t.End e = refl
named-apart n _ e = absurd (cc)

apart : (c : Class) (n : Tree) (token : Terminal) → ready_for c token ≡ true → join c n token ≡ Apart
apart (class.Expression l) n token e = closer-apart l n token e
apart class.Initialiser n token e = closer-apart 2 n token e
apart (class.Declarator naming.Named l) n token e = named-apart n token e
apart (class.Declarator naming.Either l) n token e = ender-apart n token e
apart (class.Declarator naming.Hidden l) n token e = ender-apart n token e
apart (class.Declarator naming.Bare l) n token e = ender-apart n token e
apart _ n token e = refl

abbrev pub next_in : Stack → ℕ → Terminal → Read → Scope → Option State
next_in s at token = λ m sd. settle s m sd at token

no-else-over : (token : Terminal) → no_else token ≡ true → else_move token ≡ Over kind.If
no-else-over (t.Key key.Else) e = absurd (cc)
no-else-over _ e = refl

-- classes

abbrev pub IsExp : Class → Type 0
IsExp (class.Expression l) = ⊤
IsExp class.Initialiser = ⊤
IsExp _ = ⊥

abbrev pub IsStmt : Class → Type 0
IsStmt class.BlockItem = ⊤
IsStmt (class.Statement may) = ⊤
IsStmt class.SwitchItem = ⊤
IsStmt _ = ⊥

abbrev pub IsDir : Naming → Class → Type 0
IsDir n (class.Declarator m l) = m ≡ n
IsDir n _ = ⊥

abbrev pub IsAt : Context → Class → Type 0
IsAt context.Param class.Param = ⊤
IsAt context.Type class.Type = ⊤
IsAt context.File c = ⊤
IsAt context.Head c = ⊤
IsAt context.Local c = ⊤
IsAt context.Member c = ⊤
IsAt _ _ = ⊥

pub exp-ready : (c : Class) → IsExp c → Passes c closer
exp-ready (class.Expression l) h = (refl, λ token e. e)
exp-ready class.Initialiser h = (refl, λ token e. e)
exp-ready _ h = absurd h

pub stmt-ready : (c : Class) → IsStmt c → Passes c no_else
stmt-ready class.BlockItem h = (refl, λ token e. e)
stmt-ready (class.Statement may) h = (refl, λ token e. e)
stmt-ready class.SwitchItem h = (refl, λ token e. e)
stmt-ready _ h = absurd h

rc-closer : (token : Terminal) → is_rc token ≡ true → closer token ≡ true
rc-closer (t.Mark mark.CloseBrace) e = refl
rc-closer _ e = absurd (cc)

rp-ender : (token : Terminal) → is_rp token ≡ true → ender token ≡ true
rp-ender (t.Mark mark.CloseParen) e = refl
rp-ender _ e = absurd (cc)

pub dir-ready : (n : Naming) (c : Class) → IsDir n c → Passes c (named_ender (pointed n))
dir-ready n (class.Declarator m l) h = (refl, λ token e. pointed-ender n token (ap (λ x. named_ender x token) (sym h) ∙ e))
  where
    pointed-ender : (n : Naming) (token : Terminal) → named_ender n token ≡ true → named_ender (pointed n) token ≡ true
    pointed-ender naming.Named token e = e
    pointed-ender naming.Either token e = e
    pointed-ender naming.Hidden token e = e
    pointed-ender naming.Bare token e = e
dir-ready n _ h = absurd h

typed : (c : Context) (words : List SpecWord) (token : Terminal) → has_type words ≡ true → ends_spec c words token ≡ behind c words token
typed c words token e = ap (λ b. behind_type b c words token) e

param-over : (scope : Scope) (words : List SpecWord) (token : Terminal) → has_type words ≡ true → ender token ≡ true → spec_move scope context.Param words token ≡ Over (kind.Param (spec words))
param-over scope words (t.Mark mark.Comma) e g = typed context.Param words cm e
param-over scope words (t.Mark mark.CloseParen) e g = typed context.Param words rp e
param-over scope words _ e g = absurd (cc)

type-over : (scope : Scope) (words : List SpecWord) (token : Terminal) → has_type words ≡ true → is_rp token ≡ true → spec_move scope context.Type words token ≡ Over (kind.NamedType (spec words))
type-over scope words (t.Mark mark.CloseParen) e g = typed context.Type words rp e
type-over scope words _ e g = absurd (cc)

at-param : (c : Class) → IsAt context.Param c → Passes c ender
at-param class.Param h = (refl, λ token e. e)
at-param _ h = absurd h

at-type : (c : Class) → IsAt context.Type c → Passes c is_rp
at-type class.Type h = (refl, λ token e. e)
at-type _ h = absurd h

-- Heads that go on as a head of declaration with these words does.
pub record Speaks (h : Head) (c : Context) (words : List SpecWord) : Type 0 where
  pub semicolon : (scope : Scope) → move scope h sc ≡ spec_move scope c words sc
  pub paren : (scope : Scope) → move scope h rp ≡ spec_move scope c words rp
  pub comma : (scope : Scope) → move scope h cm ≡ spec_move scope c words cm
  pub still : (f : Frame) (s : Stack) (scope : Scope) (at : ℕ) (token : Terminal) → decide f s scope at token h ≡ state (f ∷ s) scope at None

pub speaks : (c : Context) (words : List SpecWord) → Speaks (head.Spec c words) c words
speaks c words = record { semicolon = λ scope. refl; paren = λ scope. refl; comma = λ scope. refl; still = λ f s scope at token. refl }

pub speaks-tag : (c : Context) (words : List SpecWord) (u : Bool) (x : List ℕ) → Speaks (head.TagNamed c words u x) c (words ++ word.Tag u x None ∷ [])
speaks-tag c words u x = record { semicolon = λ scope. refl; paren = λ scope. refl; comma = λ scope. refl; still = λ f s scope at token. refl }

pub speaks-enum : (c : Context) (words : List SpecWord) (x : List ℕ) → Speaks (head.EnumNamed c words x) c (words ++ word.Enum x None false ∷ [])
speaks-enum c words x = record { semicolon = λ scope. refl; paren = λ scope. refl; comma = λ scope. refl; still = λ f s scope at token. refl }

pub ender-by : (P : Terminal → Type 0) → P cm → P rp → (token : Terminal) → ender token ≡ true → P token
ender-by P a b (t.Mark mark.Comma) e = a
ender-by P a b (t.Mark mark.CloseParen) e = b
ender-by P a b _ e = absurd (cc)

pub rp-by : (P : Terminal → Type 0) → P rp → (token : Terminal) → is_rp token ≡ true → P token
rp-by P b (t.Mark mark.CloseParen) e = b
rp-by P b _ e = absurd (cc)

-- What an open node that wants a part asks of the class where it stands.
abbrev pub Need : Class → Head → Type 0
Need c head.CastType = IsExp c
Need c head.CastOf = IsExp c
Need c (head.UnaryOf op) = IsExp c
Need c (head.PreOf minus) = IsExp c
Need c head.SizeofOf = IsExp c
Need c (head.BinaryOf op) = IsExp c
Need c (head.AssignOf op) = IsExp c
Need c head.CommaOf = IsExp c
Need c head.ChooseYes = IsExp c
Need c head.ChooseNo = IsExp c
Need c head.IfTest = IsStmt c
Need c head.IfThen = IsStmt c
Need c head.IfElse = IsStmt c
Need c head.WhileTest = IsStmt c
Need c head.WhileBody = IsStmt c
Need c head.ForFirst = IsStmt c
Need c (head.ForTest first) = IsStmt c
Need c (head.ForStep first test) = IsStmt c
Need c (head.ForBody first test step) = IsStmt c
Need c (head.Members p words is_union name n) = IsAt p c
Need c (head.Constants p words name n) = IsAt p c
Need c (head.ConstantsComma p words name n) = IsAt p c
Need c (head.ConstantOf name) = c ≡ class.Constant
Need c (head.ParamOf words) = c ≡ class.Param
Need c (head.TypeOf words) = c ≡ class.Type
Need c (head.Stars n volatiles) = IsDir n c
Need c (head.EntryOf place equals) = c ≡ class.Entry
Need c head.EntryIndex = c ≡ class.Entry
Need c (head.FunctionBody words) = c ≡ class.FileItem
Need c _ = ⊤

named-rp : (n : Naming) → named_ender n rp ≡ true
named-rp naming.Named = refl
named-rp naming.Either = refl
named-rp naming.Hidden = refl
named-rp naming.Bare = refl

constant-closer : (c : Class) → c ≡ class.Constant → Passes c closer
constant-closer c d = (ap is_head_item d, λ token e. rc-closer token (ap (λ x. ready_for x token) (sym d) ∙ e))

pub entry-closer : (c : Class) → c ≡ class.Entry → Passes c closer
entry-closer c d = (ap is_head_item d, λ token e. rc-closer token (ap (λ x. ready_for x token) (sym d) ∙ e))

param-ender : (c : Class) → c ≡ class.Param → Passes c ender
param-ender c d = (ap is_head_item d, λ token e. ap (λ x. ready_for x token) (sym d) ∙ e)

type-ender : (c : Class) → c ≡ class.Type → Passes c ender
type-ender c d = (ap is_head_item d, λ token e. rp-ender token (ap (λ x. ready_for x token) (sym d) ∙ e))

module _ (goal : Goal) where
  -- a node that ends with its part

  pub makes : (h : Head) (k : Kind) (from : ℕ) (parts : Trees) (told : Told) (s : Stack) → ahead h ≡ [] → Passes (class_of s) (ready_for (wanted h)) →
      ((n : Tree) → attached h n ≡ Makes k) → Both goal s → Both goal (record { head = h; from = from; parts = parts; told = told } ∷ s)
  unfolding step
  makes h k from parts told s a r q b =
      let f : Frame = record { head = h; from = from; parts = parts; told = told } in
      let nx : Next s = b.next r.0 in
      let e : tail_of (f ∷ s) ≡ nx.first ∷ nx.others = ap (λ xs. xs ++ tail_of s) a ∙ nx.is in
      let g : ready_for (wanted h) nx.first ≡ true = r.1 nx.first nx.ready in
      record {
        next = λ y. record { first = nx.first; others = nx.others; is = e; ready = g };
        goes = λ n scope at.
            subst (λ xs. Finishes goal (run (Some (state (f ∷ s) scope at (Some n))) xs)) (sym e)
            (subst (λ j. Finishes goal (run (joining f s n scope at (attach f s n (add (role h) n.told scope) at nx.first (next_in s at nx.first) (attached h n.tree)) j) nx.others)) (sym (apart (wanted h) n.tree nx.first g))
            (subst (λ x. Finishes goal (run (attach f s n (add (role h) n.told scope) at nx.first (next_in s at nx.first) x) nx.others)) (sym (q n.tree))
            (subst (λ xs. Finishes goal (run (Some (state s (leave k (add (role h) n.told scope)) at (Some (made k from (push parts n.tree) (retold h told n.told) (add (role h) n.told scope))))) xs)) nx.is
            (b.goes (made k from (push parts n.tree) (retold h told n.told) (add (role h) n.told scope)) (leave k (add (role h) n.told scope)) at))));
      }

  -- an `if` that has no `else`
  pub over-if : (from : ℕ) (parts : Trees) (told : Told) (s : Stack) → Passes (class_of s) no_else → Both goal s → Both goal (record { head = head.IfThen; from = from; parts = parts; told = told } ∷ s)
  unfolding step
  over-if from parts told s r b =
      let f : Frame = record { head = head.IfThen; from = from; parts = parts; told = told } in
      let x : Next s = b.next r.0 in
      record {
        next = λ y. record { first = x.first; others = x.others; is = x.is; ready = r.1 x.first x.ready };
        goes = λ n scope at.
            subst (λ xs. Finishes goal (run (Some (state (f ∷ s) scope at (Some n))) xs)) (sym x.is)
            (subst (λ m. Finishes goal (run (resolve (record { head = head.IfThenEnd; from = from; parts = push parts n.tree; told = told }) s scope at x.first (next_in s at x.first) m) x.others)) (sym (no-else-over x.first (r.1 x.first x.ready)))
            (subst (λ xs. Finishes goal (run (Some (state s scope at (Some (made kind.If from (push parts n.tree) told scope)))) xs)) x.is
            (b.goes (made kind.If from (push parts n.tree) told scope) scope at)));
      }

  -- heads of declarations

  pub over-goes : (f : Frame) (s : Stack) (scope : Scope) (at : ℕ) (k : Kind) (m : Move) (b : Both goal s) (x : Next s) → m ≡ Over k → Finishes goal (run (resolve f s scope at x.first (next_in s at x.first) m) x.others)
  unfolding step
  over-goes f s scope at k m b x e =
      subst (λ y. Finishes goal (run (resolve f s scope at x.first (next_in s at x.first) y) x.others)) (sym e)
      (subst (λ xs. Finishes goal (run (Some (state s (leave k scope) at (Some (made k f.from f.parts f.told scope)))) xs)) x.is
      (b.goes (made k f.from f.parts f.told scope) (leave k scope) at))

  pub spec-ends : (h : Head) (c : Context) (words : List SpecWord) (from : ℕ) (parts : Trees) (told : Told) (s : Stack) (scope : Scope) (at : ℕ) → Speaks h c words → has_type words ≡ true →
      IsAt c (class_of s) → Both goal s → Finishes goal (run (Some (state (record { head = h; from = from; parts = parts; told = told } ∷ s) scope at None)) (close c ++ tail_of s))
  unfolding step
  spec-ends h c words from parts told s scope at k e a b = by_context c a k
    where
      F : Frame
      F = record { head = h; from = from; parts = parts; told = told }

      fed-by : (token : Terminal) (ts : List Terminal) → decide F s scope at token h ≡ state (F ∷ s) scope at None → Finishes goal (run (resolve F s scope at token (next_in s at token) (move scope h token)) ts) →
          Finishes goal (run (Some (state (F ∷ s) scope at None)) (token ∷ ts))
      fed-by token ts q g = subst (λ st. Finishes goal (run (fed st token) ts)) (sym q) g

      by_context : (c : Context) → IsAt c (class_of s) → Speaks h c words → Finishes goal (run (Some (state (F ∷ s) scope at None)) (close c ++ tail_of s))
      by_context context.File a k =
          fed-by sc (tail_of s) (k.still F s scope at sc)
          (subst (λ m. Finishes goal (run (resolve F s scope at sc (next_in s at sc) m) (tail_of s))) (sym (k.semicolon scope ∙ typed context.File words sc e)) (b.goes _ _ _))
      by_context context.Head a k =
          fed-by sc (tail_of s) (k.still F s scope at sc)
          (subst (λ m. Finishes goal (run (resolve F s scope at sc (next_in s at sc) m) (tail_of s))) (sym (k.semicolon scope ∙ typed context.Head words sc e)) (b.goes _ _ _))
      by_context context.Local a k =
          fed-by sc (tail_of s) (k.still F s scope at sc)
          (subst (λ m. Finishes goal (run (resolve F s scope at sc (next_in s at sc) m) (tail_of s))) (sym (k.semicolon scope ∙ typed context.Local words sc e)) (b.goes _ _ _))
      by_context context.Member a k =
          fed-by sc (tail_of s) (k.still F s scope at sc)
          (subst (λ m. Finishes goal (run (resolve F s scope at sc (next_in s at sc) m) (tail_of s))) (sym (k.semicolon scope ∙ typed context.Member words sc e)) (b.goes _ _ _))
      by_context context.Param a k =
          let q = at-param (class_of s) a in
          let x : Next s = b.next q.0 in
          subst (λ xs. Finishes goal (run (Some (state (F ∷ s) scope at None)) xs)) (sym x.is)
          (fed-by x.first x.others (k.still F s scope at x.first)
          (over-goes F s scope at (kind.Param (spec words)) (move scope h x.first) b x
          (ender-by (λ token. move scope h token ≡ Over (kind.Param (spec words))) (k.comma scope ∙ param-over scope words cm e refl) (k.paren scope ∙ param-over scope words rp e refl) x.first (q.1 x.first x.ready))))
      by_context context.Type a k =
          let q = at-type (class_of s) a in
          let x : Next s = b.next q.0 in
          subst (λ xs. Finishes goal (run (Some (state (F ∷ s) scope at None)) xs)) (sym x.is)
          (fed-by x.first x.others (k.still F s scope at x.first)
          (over-goes F s scope at (kind.NamedType (spec words)) (move scope h x.first) b x
          (rp-by (λ token. move scope h token ≡ Over (kind.NamedType (spec words))) (k.paren scope ∙ type-over scope words rp e refl) x.first (q.1 x.first x.ready))))

  -- Behind a part each open node comes to its end.
  pub grow : (h : Head) (from : ℕ) (parts : Trees) (told : Told) (s : Stack) → is_after (attached h dummy) ≡ true → up h ≡ true → Need (class_of s) h → Both goal s →
      Both goal (record { head = h; from = from; parts = parts; told = told } ∷ s)
  unfolding step
  grow head.Group from parts told s w u d b = record { next = λ y. record { first = rp; others = tail_of s; is = refl; ready = refl }; goes = λ n scope at. b.goes _ _ _ }
  grow head.CastType from parts told s w u d b = record { next = λ y. record { first = rp; others = zero_ ∷ tail_of s; is = refl; ready = refl }; goes = λ n scope at. (makes head.CastOf kind.Cast _ _ _ s refl (exp-ready (class_of s) d) (λ m. refl) b).goes _ _ _ }
  grow head.CastOf from parts told s w u d b = makes head.CastOf kind.Cast from parts told s refl (exp-ready (class_of s) d) (λ m. refl) b
  grow (head.UnaryOf op) from parts told s w u d b = makes (head.UnaryOf op) (kind.Unary op) from parts told s refl (exp-ready (class_of s) d) (λ m. refl) b
  grow (head.PreOf minus) from parts told s w u d b = makes (head.PreOf minus) (kind.Pre minus) from parts told s refl (exp-ready (class_of s) d) (λ m. refl) b
  grow head.SizeofOf from parts told s w u d b = makes head.SizeofOf kind.SizeofValue from parts told s refl (exp-ready (class_of s) d) (λ m. refl) b
  grow (head.BinaryOf op) from parts told s w u d b = makes (head.BinaryOf op) (kind.Binary op) from parts told s refl (exp-ready (class_of s) d) (λ m. refl) b
  grow (head.AssignOf op) from parts told s w u d b = makes (head.AssignOf op) (kind.Assign op) from parts told s refl (exp-ready (class_of s) d) (λ m. refl) b
  grow head.CommaOf from parts told s w u d b = makes head.CommaOf kind.Comma from parts told s refl (exp-ready (class_of s) d) (λ m. refl) b
  grow head.ChooseNo from parts told s w u d b = makes head.ChooseNo kind.Choose from parts told s refl (exp-ready (class_of s) d) (λ m. refl) b
  grow head.SizeofType from parts told s w u d b = record { next = λ y. record { first = rp; others = tail_of s; is = refl; ready = refl }; goes = λ n scope at. b.goes _ _ _ }
  grow head.ChooseYes from parts told s w u d b = record { next = λ y. record { first = co; others = zero_ ∷ tail_of s; is = refl; ready = refl }; goes = λ n scope at. (makes head.ChooseNo kind.Choose _ _ _ s refl (exp-ready (class_of s) d) (λ m. refl) b).goes _ _ _ }
  grow head.IndexOf from parts told s w u d b = record { next = λ y. record { first = rb; others = tail_of s; is = refl; ready = refl }; goes = λ n scope at. b.goes _ _ _ }
  grow head.CallStart from parts told s w u d b = record { next = λ y. record { first = rp; others = tail_of s; is = refl; ready = refl }; goes = λ n scope at. b.goes _ _ _ }
  grow head.CallMore from parts told s w u d b = record { next = λ y. record { first = rp; others = tail_of s; is = refl; ready = refl }; goes = λ n scope at. b.goes _ _ _ }
  grow head.BlockItems from parts told s w u d b = record { next = λ y. record { first = rc; others = tail_of s; is = refl; ready = refl }; goes = λ n scope at. b.goes _ _ _ }
  grow head.ExpressionOf from parts told s w u d b = record { next = λ y. record { first = sc; others = tail_of s; is = refl; ready = refl }; goes = λ n scope at. b.goes _ _ _ }
  grow head.SwitchItems from parts told s w u d b = record { next = λ y. record { first = rc; others = tail_of s; is = refl; ready = refl }; goes = λ n scope at. b.goes _ _ _ }
  grow head.CaseOf from parts told s w u d b = record { next = λ y. record { first = co; others = tail_of s; is = refl; ready = refl }; goes = λ n scope at. b.goes _ _ _ }
  grow head.ReturnOf from parts told s w u d b = record { next = λ y. record { first = sc; others = tail_of s; is = refl; ready = refl }; goes = λ n scope at. b.goes _ _ _ }
  grow (head.Declarators c words inits) from parts told s w u d b = record { next = λ y. record { first = sc; others = tail_of s; is = refl; ready = refl }; goes = λ n scope at. b.goes _ _ _ }
  grow (head.Initialised c words inits) from parts told s w u d b = record { next = λ y. record { first = sc; others = tail_of s; is = refl; ready = refl }; goes = λ n scope at. b.goes _ _ _ }
  grow (head.MemberDeclarators words) from parts told s w u d b = record { next = λ y. record { first = sc; others = tail_of s; is = refl; ready = refl }; goes = λ n scope at. b.goes _ _ _ }
  grow (head.BracketsStart inner) from parts told s w u d b = record { next = λ y. record { first = rb; others = tail_of s; is = refl; ready = refl }; goes = λ n scope at. b.goes _ _ _ }
  grow (head.ParamsMore inner) from parts told s w u d b = record { next = λ y. record { first = rp; others = tail_of s; is = refl; ready = refl }; goes = λ n scope at. b.goes _ _ _ }
  grow head.ListStart from parts told s w u d b = record { next = λ y. record { first = rc; others = tail_of s; is = refl; ready = refl }; goes = λ n scope at. b.goes _ _ _ }
  grow head.ListComma from parts told s w u d b = record { next = λ y. record { first = rc; others = tail_of s; is = refl; ready = refl }; goes = λ n scope at. b.goes _ _ _ }
  grow (head.DeclGroup n) from parts told s w u d b = record { next = λ y. record { first = rp; others = tail_of s; is = refl; ready = named-rp (grouped n) }; goes = λ m scope at. b.goes _ _ _ }
  grow head.IfTest from parts told s w u d b = record { next = λ y. record { first = rp; others = sc ∷ tail_of s; is = refl; ready = refl }; goes = λ n scope at. (over-if _ _ _ s (stmt-ready (class_of s) d) b).goes _ _ _ }
  grow head.IfThen from parts told s w u d b = over-if from parts told s (stmt-ready (class_of s) d) b
  grow head.IfElse from parts told s w u d b = makes head.IfElse kind.If from parts told s refl (stmt-ready (class_of s) d) (λ m. refl) b
  grow head.WhileTest from parts told s w u d b = record { next = λ y. record { first = rp; others = sc ∷ tail_of s; is = refl; ready = refl }; goes = λ n scope at. (makes head.WhileBody kind.While _ _ _ s refl (stmt-ready (class_of s) d) (λ m. refl) b).goes _ _ _ }
  grow head.WhileBody from parts told s w u d b = makes head.WhileBody kind.While from parts told s refl (stmt-ready (class_of s) d) (λ m. refl) b
  grow head.DoBody from parts told s w u d b = record { next = λ y. record { first = while_; others = lp ∷ zero_ ∷ rp ∷ sc ∷ tail_of s; is = refl; ready = refl }; goes = λ n scope at. b.goes _ _ _ }
  grow head.DoTest from parts told s w u d b = record { next = λ y. record { first = rp; others = sc ∷ tail_of s; is = refl; ready = refl }; goes = λ n scope at. b.goes _ _ _ }
  grow head.ForFirst from parts told s w u d b = record { next = λ y. record { first = sc; others = sc ∷ rp ∷ sc ∷ tail_of s; is = refl; ready = refl }; goes = λ n scope at. (makes (head.ForBody true false false) (kind.For true false false) _ _ _ s refl (stmt-ready (class_of s) d) (λ m. refl) b).goes _ _ _ }
  grow (head.ForTest first) from parts told s w u d b = record { next = λ y. record { first = sc; others = rp ∷ sc ∷ tail_of s; is = refl; ready = refl }; goes = λ n scope at. (makes (head.ForBody first true false) (kind.For first true false) _ _ _ s refl (stmt-ready (class_of s) d) (λ m. refl) b).goes _ _ _ }
  grow (head.ForStep first test) from parts told s w u d b = record { next = λ y. record { first = rp; others = sc ∷ tail_of s; is = refl; ready = refl }; goes = λ n scope at. (makes (head.ForBody first test true) (kind.For first test true) _ _ _ s refl (stmt-ready (class_of s) d) (λ m. refl) b).goes _ _ _ }
  grow (head.ForBody first test step) from parts told s w u d b = makes (head.ForBody first test step) (kind.For first test step) from parts told s refl (stmt-ready (class_of s) d) (λ m. refl) b
  grow head.SwitchValue from parts told s w u d b = record { next = λ y. record { first = rp; others = lc ∷ rc ∷ tail_of s; is = refl; ready = refl }; goes = λ n scope at. b.goes _ _ _ }
  grow (head.Members c words is_union name k) from parts told s w u d b = record {
    next = λ y. record { first = rc; others = close c ++ tail_of s; is = refl; ready = refl };
    goes = λ n scope at. spec-ends (head.Spec c (words ++ word.Tag is_union name (Some (suc k)) ∷ [])) c (words ++ word.Tag is_union name (Some (suc k)) ∷ []) _ _ _ s _ _
        (speaks c (words ++ word.Tag is_union name (Some (suc k)) ∷ [])) (has_type-behind words (word.Tag is_union name (Some (suc k))) refl) d b;
  }
  grow (head.Constants c words name k) from parts told s w u d b = record {
    next = λ y. record { first = rc; others = close c ++ tail_of s; is = refl; ready = refl };
    goes = λ n scope at. spec-ends (head.Spec c (words ++ word.Enum name (Some (suc k)) false ∷ [])) c (words ++ word.Enum name (Some (suc k)) false ∷ []) _ _ _ s _ _
        (speaks c (words ++ word.Enum name (Some (suc k)) false ∷ [])) (has_type-behind words (word.Enum name (Some (suc k)) false) refl) d b;
  }
  grow (head.ConstantsComma c words name k) from parts told s w u d b = record {
    next = λ y. record { first = rc; others = close c ++ tail_of s; is = refl; ready = refl };
    goes = λ n scope at. spec-ends (head.Spec c (words ++ word.Enum name (Some (suc k)) false ∷ [])) c (words ++ word.Enum name (Some (suc k)) false ∷ []) _ _ _ s _ _
        (speaks c (words ++ word.Enum name (Some (suc k)) false ∷ [])) (has_type-behind words (word.Enum name (Some (suc k)) false) refl) d b;
  }
  grow (head.ConstantOf name) from parts told s w u d b = makes (head.ConstantOf name) (kind.EnumConst name true) from parts told s refl (constant-closer (class_of s) d) (λ m. refl) b
  grow (head.FunctionBody words) from parts told s w u d b = makes (head.FunctionBody words) (kind.Function (spec words)) from parts told s refl (ap is_head_item d, λ token e. refl) (λ m. refl) b
  grow (head.ParamOf words) from parts told s w u d b = makes (head.ParamOf words) (kind.Param (spec words)) from parts told s refl (param-ender (class_of s) d) (λ m. refl) b
  grow (head.TypeOf words) from parts told s w u d b = makes (head.TypeOf words) (kind.NamedType (spec words)) from parts told s refl (type-ender (class_of s) d) (λ m. refl) b
  grow (head.Stars n volatiles) from parts told s w u d b = makes (head.Stars n volatiles) (kind.Star volatiles) from parts told s refl (dir-ready n (class_of s) d) (λ m. refl) b
  grow (head.EntryOf place equals) from parts told s w u d b = makes (head.EntryOf place equals) (kind.Entry place equals) from parts told s refl (entry-closer (class_of s) d) (λ m. refl) b
  grow head.EntryIndex from parts told s w u d b = record { next = λ y. record { first = rb; others = zero_ ∷ tail_of s; is = refl; ready = refl }; goes = λ n scope at. (makes (head.EntryOf by.Index false) (kind.Entry by.Index false) _ _ _ s refl (entry-closer (class_of s) d) (λ m. refl) b).goes _ _ _ }
  grow (head.ParamsStart inner) from parts told s w u d b = record { next = λ y. record { first = cm; others = int_ ∷ rp ∷ tail_of s; is = refl; ready = refl }; goes = λ n scope at. first-goes (only_void n.tree) n scope at refl }
    where
      first-goes : (v : Bool) (n : Read) (scope : Scope) (at : ℕ) → only_void n.tree ≡ v →
          Finishes goal (run (Some (state (record { head = head.ParamsStart inner; from = from; parts = parts; told = told } ∷ s) scope at (Some n))) (cm ∷ int_ ∷ rp ∷ tail_of s))
      first-goes true n scope at e =
          subst (λ a. Finishes goal (run (attach (record { head = head.ParamsStart inner; from = from; parts = parts; told = told }) s n scope at cm (next_in s at cm) (first_param a inner)) (int_ ∷ rp ∷ tail_of s))) (sym e) (b.goes _ _ _)
      first-goes false n scope at e =
          subst (λ a. Finishes goal (run (attach (record { head = head.ParamsStart inner; from = from; parts = parts; told = told }) s n scope at cm (next_in s at cm) (first_param a inner)) (int_ ∷ rp ∷ tail_of s))) (sym e) (b.goes _ _ _)
  grow head.FileItems from parts told s w u d b = absurd (false≢true u)
  grow head.GoalExpression from parts told s w u d b = absurd (false≢true u)
  grow head.GoalHead from parts told s w u d b = absurd (false≢true u)
  grow _ from parts told s w u d b = absurd (false≢true w)
