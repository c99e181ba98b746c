-- From each open node at which the reader waits some tokens lead to the end.
use Rattle.std.proofs.Common.{◌≡◌, ℕ, zero, suc, Bool, true, false, ◌&&◌, List, [], ◌∷◌, ◌++◌, Some, None, refl, sym, ap, subst, ◌∙◌}
use Rattle.std.specs.Prelude.{not}
use Rattle.p9_lang.specs.declared.tree.EntryBy.TheVariants as by
use Rattle.p9_lang.specs.declared.tree.SpecWord.{SpecWord}
use Rattle.p9_lang.specs.declared.tree.SpecWord.TheVariants as word
use Rattle.p9_lang.specs.declared.tree.Kind.TheVariants as kind
use Rattle.p9_grammar.specs.declared.terminal.Punctuator.TheVariants as mark
use Rattle.p9_grammar.specs.declared.terminal.Terminal.{Terminal}
use Rattle.p9_grammar.specs.declared.terminal.Terminal.TheVariants as t
use Rattle.p9_grammar.specs.declared.head.Context.{Context}
use Rattle.p9_grammar.specs.declared.head.Context.TheVariants as context
use Rattle.p9_grammar.specs.declared.head.Naming.{Naming}
use Rattle.p9_grammar.specs.declared.head.Naming.TheVariants as naming
use Rattle.p9_grammar.specs.declared.head.Class.{Class}
use Rattle.p9_grammar.specs.declared.head.Class.TheVariants as class
use Rattle.p9_grammar.specs.declared.head.Head.{Head}
use Rattle.p9_grammar.specs.declared.head.Head.TheVariants as head
use Rattle.p9_grammar.specs.Trees.{Trees, none}
use Rattle.p9_grammar.specs.Scopes.{Scope, Told, nothing, leave}
use Rattle.p9_grammar.specs.Machine.{Frame, Stack, state, fresh, made, leaf, step, run, Over, Refused, resolve, allows_storage, spec, shift_if, constant_named, stars_move}
use Rattle.p9_grammar.specs.Symbols.{binds}
use Rattle.p9_grammar.specs.Grammar.{has_type, may_follow, Share, Nothing, Storage, Int, names_type, share, excludes, clashes, Accepts, Expression, Declarator, Statement, Constant, Entry, naming_of}
use Rattle.std.specs.Prelude.{◌||◌}
use Rattle.std.specs.List.{list_any}
use Rattle.std.proofs.lemmas.Bool.{false≢true}
use Rattle.p9_grammar.proofs.Tells.{class_of}
use Rattle.p9_grammar.proofs.Heads.{has_type-behind}
use Rattle.p9_grammar.proofs.Sofar.{Open, Site}
use Rattle.p9_prefix.specs.Goals.{Goal}
use Rattle.p9_viable.proofs.Calm.{waits}
use Rattle.p9_viable.proofs.Ahead.{rp, lp, rb, lc, rc, sc, co, cm, zero_, name_, int_, while_, close, tail_of, is_rc, named_ender, ready_for, Finishes, Next, Both, is_head_item, dir-ready, next_in, makes, over-if, IsExp, IsStmt, IsDir, IsAt, exp-ready, stmt-ready, entry-closer, over-goes, spec-ends, speaks, speaks-tag, speaks-enum, ender-by, Need, grow}

pub record More (goal : Goal) (s : Stack) (scope : Scope) (at : ℕ) : Type 0 where
  pub tokens : List Terminal
  pub finishes : Finishes goal (run (Some (state s scope at None)) tokens)

-- what an open node asks of its class

exp-is : (c : Class) (l : ℕ) → Accepts c (Expression l) → IsExp c
exp-is (class.Expression k) l h = tt
exp-is class.Initialiser l h = tt
exp-is _ l h = absurd h

stmt-is : (c : Class) → Accepts c Statement → IsStmt c
stmt-is class.BlockItem h = tt
stmt-is (class.Statement may) h = tt
stmt-is class.SwitchItem h = tt
stmt-is _ h = absurd h

constant-is : (c : Class) → Accepts c Constant → c ≡ class.Constant
constant-is class.Constant h = refl
constant-is _ h = absurd h

entry-is : (c : Class) → Accepts c Entry → c ≡ class.Entry
entry-is class.Entry h = refl
entry-is _ h = absurd h

dir-is : (c : Class) (l : ℕ) (n : Naming) → Accepts c (Declarator l) → naming_of c ≡ n → IsDir n c
dir-is (class.Declarator m k) l n h e = e
dir-is _ l n h e = absurd h

site-at : (p : Context) (c : Class) → Site p c → IsAt p c
site-at context.File c h = tt
site-at context.Head c h = tt
site-at context.Local c h = tt
site-at context.Member c h = tt
site-at context.Param class.Param h = tt
site-at context.Param _ h = absurd h
site-at context.Type class.Type h = tt
site-at context.Type _ h = absurd h

site-param : (c : Class) → Site context.Param c → c ≡ class.Param
site-param class.Param h = refl
site-param _ h = absurd h

site-type : (c : Class) → Site context.Type c → c ≡ class.Type
site-type class.Type h = refl
site-type _ h = absurd h

site-file : (c : Class) → Site context.File c → c ≡ class.FileItem
site-file class.FileItem h = refl
site-file _ h = absurd h

pub site-head : (c : Class) → Site context.Head c → c ≡ class.HeadItem
site-head class.HeadItem h = refl
site-head _ h = absurd h

pub need : (h : Head) (c : Class) (scope : Scope) (k : ℕ) → Open c scope h k → Need c h
need head.CastType c scope k o = exp-is c 14 o
need head.CastOf c scope k o = exp-is c 14 o
need (head.UnaryOf op) c scope k o = exp-is c 15 o
need (head.PreOf minus) c scope k o = exp-is c 15 o
need head.SizeofOf c scope k o = exp-is c 15 o
need (head.BinaryOf op) c scope k o = exp-is c (binds op) o
need (head.AssignOf op) c scope k o = exp-is c 2 o.0
need head.CommaOf c scope k o = exp-is c 1 o
need head.ChooseYes c scope k o = exp-is c 3 o
need head.ChooseNo c scope k o = exp-is c 3 o
need head.IfTest c scope k o = stmt-is c o.0
need head.IfThen c scope k o = stmt-is c o.0
need head.IfElse c scope k o = stmt-is c o.0
need head.WhileTest c scope k o = stmt-is c o
need head.WhileBody c scope k o = stmt-is c o
need head.ForFirst c scope k o = stmt-is c o
need (head.ForTest first) c scope k o = stmt-is c o
need (head.ForStep first test) c scope k o = stmt-is c o
need (head.ForBody first test step) c scope k o = stmt-is c o
need (head.Members p words is_union name n) c scope k o = site-at p c o.0
need (head.Constants p words name n) c scope k o = site-at p c o.0
need (head.ConstantsComma p words name n) c scope k o = site-at p c o.0
need (head.ConstantOf name) c scope k o = constant-is c o
need (head.ParamOf words) c scope k o = site-param c o.0.0
need (head.TypeOf words) c scope k o = site-type c o.0.0
need (head.Stars n volatiles) c scope k o = dir-is c 15 n o.0 o.1
need (head.EntryOf place equals) c scope k o = entry-is c o.0
need head.EntryIndex c scope k o = entry-is c o
need (head.FunctionBody words) c scope k o = site-file c o.0
need _ c scope k o = tt

-- a head without a type may take one

no-clash : (s : Share) → names_type s ≡ false → excludes Int s ≡ false
no-clash Nothing e = refl
no-clash Storage e = refl
no-clash _ e = absurd (cc)

or-left : (a b : Bool) → (a || b) ≡ false → a ≡ false
or-left true b e = e
or-left false b e = refl

or-right : (a b : Bool) → (a || b) ≡ false → b ≡ false
or-right true b e = absurd (cc)
or-right false b e = e

or-both : (a b : Bool) → a ≡ false → b ≡ false → (a || b) ≡ false
or-both true b e f = e
or-both false b e f = f

int-clashes : (words : List SpecWord) → has_type words ≡ false → list_any (clashes word.Int) words ≡ false
int-clashes [] e = refl
int-clashes (w ∷ ws) e =
    or-both (clashes word.Int w) (list_any (clashes word.Int) ws) (no-clash (share w) (or-left (names_type (share w)) (has_type ws) e)) (int-clashes ws (or-right (names_type (share w)) (has_type ws) e))

or-true : (a : Bool) → (a || true) ≡ true
or-true true = refl
or-true false = refl

int-follows : (storage : Bool) (words : List SpecWord) → has_type words ≡ false → may_follow storage words word.Int ≡ true
int-follows storage words e =
    ap (λ b. (storage || true) && not b) (int-clashes words e) ∙ ap (λ b. b && true) (or-true storage)

dir-ender : (n : Naming) (c : Class) → IsDir n c → (token : Terminal) → ready_for c token ≡ true → named_ender n token ≡ true
dir-ender n (class.Declarator m l) h token e = ap (λ x. named_ender x token) (sym h) ∙ e
dir-ender n _ h token e = absurd h

-- whether this is a function behind the brace of its block, with which a reader of one declaration ends
abbrev pub is_open_function : Head → Bool
is_open_function (head.HeadOver words) = true
is_open_function _ = false

module _ (goal : Goal) where
  -- Each head at which the reader waits.
  pub top : (h : Head) (from : ℕ) (parts : Trees) (told : Told) (s : Stack) (scope0 : Scope) (k : ℕ) → waits h ≡ true → Open (class_of s) scope0 h k → is_open_function h ≡ false → Both goal s →
      (scope : Scope) (at : ℕ) → More goal (record { head = h; from = from; parts = parts; told = told } ∷ s) scope at
  unfolding step
  top head.FileItems from parts told s scope0 k w o x b scope at = absurd (false≢true w)
  top head.FileOver from parts told s scope0 k w o x b scope at = absurd (false≢true w)
  top head.GoalExpression from parts told s scope0 k w o x b scope at = absurd (false≢true w)
  top head.GoalRead from parts told s scope0 k w o x b scope at = absurd (false≢true w)
  top head.GoalOver from parts told s scope0 k w o x b scope at = absurd (false≢true w)
  top head.GoalHead from parts told s scope0 k w o x b scope at = absurd (false≢true w)
  top head.HeadRead from parts told s scope0 k w o x b scope at = absurd (false≢true w)
  top (head.HeadOver words) from parts told s scope0 k w o x b scope at = absurd (false≢true (sym x))
  top (head.Opened l) from parts told s scope0 k w o x b scope at = record { tokens = zero_ ∷ rp ∷ tail_of s; finishes = b.goes _ _ _ }
  top head.Group from parts told s scope0 k w o x b scope at = record { tokens = zero_ ∷ tail_of (record { head = head.Group; from = from; parts = parts; told = told } ∷ s); finishes = (grow goal head.Group from parts told s refl refl (need head.Group (class_of s) scope0 k o) b).goes (leaf (kind.Number 0 false false) at) scope (suc at) }
  top head.GroupEnd from parts told s scope0 k w o x b scope at = record { tokens = rp ∷ tail_of s; finishes = b.goes _ _ _ }
  top head.CastType from parts told s scope0 k w o x b scope at = record { tokens = int_ ∷ rp ∷ zero_ ∷ tail_of s; finishes = (makes goal head.CastOf kind.Cast _ _ _ s refl (exp-ready (class_of s) (exp-is (class_of s) 14 o)) (λ m. refl) b).goes _ _ _ }
  top head.CastEnd from parts told s scope0 k w o x b scope at = record { tokens = rp ∷ zero_ ∷ tail_of s; finishes = (makes goal head.CastOf kind.Cast _ _ _ s refl (exp-ready (class_of s) (exp-is (class_of s) 14 o)) (λ m. refl) b).goes _ _ _ }
  top head.CastOf from parts told s scope0 k w o x b scope at = record { tokens = zero_ ∷ tail_of (record { head = head.CastOf; from = from; parts = parts; told = told } ∷ s); finishes = (grow goal head.CastOf from parts told s refl refl (need head.CastOf (class_of s) scope0 k o) b).goes (leaf (kind.Number 0 false false) at) scope (suc at) }
  top (head.UnaryOf op) from parts told s scope0 k w o x b scope at = record { tokens = zero_ ∷ tail_of (record { head = (head.UnaryOf op); from = from; parts = parts; told = told } ∷ s); finishes = (grow goal (head.UnaryOf op) from parts told s refl refl (need (head.UnaryOf op) (class_of s) scope0 k o) b).goes (leaf (kind.Number 0 false false) at) scope (suc at) }
  top (head.PreOf minus) from parts told s scope0 k w o x b scope at = record { tokens = zero_ ∷ tail_of (record { head = (head.PreOf minus); from = from; parts = parts; told = told } ∷ s); finishes = (grow goal (head.PreOf minus) from parts told s refl refl (need (head.PreOf minus) (class_of s) scope0 k o) b).goes (leaf (kind.Number 0 false false) at) scope (suc at) }
  top head.SizeofOf from parts told s scope0 k w o x b scope at = record { tokens = zero_ ∷ tail_of (record { head = head.SizeofOf; from = from; parts = parts; told = told } ∷ s); finishes = (grow goal head.SizeofOf from parts told s refl refl (need head.SizeofOf (class_of s) scope0 k o) b).goes (leaf (kind.Number 0 false false) at) scope (suc at) }
  top (head.BinaryOf op) from parts told s scope0 k w o x b scope at = record { tokens = zero_ ∷ tail_of (record { head = (head.BinaryOf op); from = from; parts = parts; told = told } ∷ s); finishes = (grow goal (head.BinaryOf op) from parts told s refl refl (need (head.BinaryOf op) (class_of s) scope0 k o) b).goes (leaf (kind.Number 0 false false) at) scope (suc at) }
  top (head.AssignOf op) from parts told s scope0 k w o x b scope at = record { tokens = zero_ ∷ tail_of (record { head = (head.AssignOf op); from = from; parts = parts; told = told } ∷ s); finishes = (grow goal (head.AssignOf op) from parts told s refl refl (need (head.AssignOf op) (class_of s) scope0 k o) b).goes (leaf (kind.Number 0 false false) at) scope (suc at) }
  top head.CommaOf from parts told s scope0 k w o x b scope at = record { tokens = zero_ ∷ tail_of (record { head = head.CommaOf; from = from; parts = parts; told = told } ∷ s); finishes = (grow goal head.CommaOf from parts told s refl refl (need head.CommaOf (class_of s) scope0 k o) b).goes (leaf (kind.Number 0 false false) at) scope (suc at) }
  top head.ChooseYes from parts told s scope0 k w o x b scope at = record { tokens = zero_ ∷ tail_of (record { head = head.ChooseYes; from = from; parts = parts; told = told } ∷ s); finishes = (grow goal head.ChooseYes from parts told s refl refl (need head.ChooseYes (class_of s) scope0 k o) b).goes (leaf (kind.Number 0 false false) at) scope (suc at) }
  top head.ChooseNo from parts told s scope0 k w o x b scope at = record { tokens = zero_ ∷ tail_of (record { head = head.ChooseNo; from = from; parts = parts; told = told } ∷ s); finishes = (grow goal head.ChooseNo from parts told s refl refl (need head.ChooseNo (class_of s) scope0 k o) b).goes (leaf (kind.Number 0 false false) at) scope (suc at) }
  top head.IndexOf from parts told s scope0 k w o x b scope at = record { tokens = zero_ ∷ tail_of (record { head = head.IndexOf; from = from; parts = parts; told = told } ∷ s); finishes = (grow goal head.IndexOf from parts told s refl refl (need head.IndexOf (class_of s) scope0 k o) b).goes (leaf (kind.Number 0 false false) at) scope (suc at) }
  top head.CallMore from parts told s scope0 k w o x b scope at = record { tokens = zero_ ∷ tail_of (record { head = head.CallMore; from = from; parts = parts; told = told } ∷ s); finishes = (grow goal head.CallMore from parts told s refl refl (need head.CallMore (class_of s) scope0 k o) b).goes (leaf (kind.Number 0 false false) at) scope (suc at) }
  top head.ExpressionOf from parts told s scope0 k w o x b scope at = record { tokens = zero_ ∷ tail_of (record { head = head.ExpressionOf; from = from; parts = parts; told = told } ∷ s); finishes = (grow goal head.ExpressionOf from parts told s refl refl (need head.ExpressionOf (class_of s) scope0 k o) b).goes (leaf (kind.Number 0 false false) at) scope (suc at) }
  top head.IfTest from parts told s scope0 k w o x b scope at = record { tokens = zero_ ∷ tail_of (record { head = head.IfTest; from = from; parts = parts; told = told } ∷ s); finishes = (grow goal head.IfTest from parts told s refl refl (need head.IfTest (class_of s) scope0 k o) b).goes (leaf (kind.Number 0 false false) at) scope (suc at) }
  top head.WhileTest from parts told s scope0 k w o x b scope at = record { tokens = zero_ ∷ tail_of (record { head = head.WhileTest; from = from; parts = parts; told = told } ∷ s); finishes = (grow goal head.WhileTest from parts told s refl refl (need head.WhileTest (class_of s) scope0 k o) b).goes (leaf (kind.Number 0 false false) at) scope (suc at) }
  top head.DoTest from parts told s scope0 k w o x b scope at = record { tokens = zero_ ∷ tail_of (record { head = head.DoTest; from = from; parts = parts; told = told } ∷ s); finishes = (grow goal head.DoTest from parts told s refl refl (need head.DoTest (class_of s) scope0 k o) b).goes (leaf (kind.Number 0 false false) at) scope (suc at) }
  top head.ForFirst from parts told s scope0 k w o x b scope at = record { tokens = zero_ ∷ tail_of (record { head = head.ForFirst; from = from; parts = parts; told = told } ∷ s); finishes = (grow goal head.ForFirst from parts told s refl refl (need head.ForFirst (class_of s) scope0 k o) b).goes (leaf (kind.Number 0 false false) at) scope (suc at) }
  top (head.ForTest first) from parts told s scope0 k w o x b scope at = record { tokens = zero_ ∷ tail_of (record { head = (head.ForTest first); from = from; parts = parts; told = told } ∷ s); finishes = (grow goal (head.ForTest first) from parts told s refl refl (need (head.ForTest first) (class_of s) scope0 k o) b).goes (leaf (kind.Number 0 false false) at) scope (suc at) }
  top (head.ForStep first test) from parts told s scope0 k w o x b scope at = record { tokens = zero_ ∷ tail_of (record { head = (head.ForStep first test); from = from; parts = parts; told = told } ∷ s); finishes = (grow goal (head.ForStep first test) from parts told s refl refl (need (head.ForStep first test) (class_of s) scope0 k o) b).goes (leaf (kind.Number 0 false false) at) scope (suc at) }
  top head.SwitchValue from parts told s scope0 k w o x b scope at = record { tokens = zero_ ∷ tail_of (record { head = head.SwitchValue; from = from; parts = parts; told = told } ∷ s); finishes = (grow goal head.SwitchValue from parts told s refl refl (need head.SwitchValue (class_of s) scope0 k o) b).goes (leaf (kind.Number 0 false false) at) scope (suc at) }
  top head.CaseOf from parts told s scope0 k w o x b scope at = record { tokens = zero_ ∷ tail_of (record { head = head.CaseOf; from = from; parts = parts; told = told } ∷ s); finishes = (grow goal head.CaseOf from parts told s refl refl (need head.CaseOf (class_of s) scope0 k o) b).goes (leaf (kind.Number 0 false false) at) scope (suc at) }
  top head.ReturnOf from parts told s scope0 k w o x b scope at = record { tokens = zero_ ∷ tail_of (record { head = head.ReturnOf; from = from; parts = parts; told = told } ∷ s); finishes = (grow goal head.ReturnOf from parts told s refl refl (need head.ReturnOf (class_of s) scope0 k o) b).goes (leaf (kind.Number 0 false false) at) scope (suc at) }
  top (head.ConstantOf name) from parts told s scope0 k w o x b scope at = record { tokens = zero_ ∷ tail_of (record { head = (head.ConstantOf name); from = from; parts = parts; told = told } ∷ s); finishes = (grow goal (head.ConstantOf name) from parts told s refl refl (need (head.ConstantOf name) (class_of s) scope0 k o) b).goes (leaf (kind.Number 0 false false) at) scope (suc at) }
  top (head.Initialised c words inits) from parts told s scope0 k w o x b scope at = record { tokens = zero_ ∷ tail_of (record { head = (head.Initialised c words inits); from = from; parts = parts; told = told } ∷ s); finishes = (grow goal (head.Initialised c words inits) from parts told s refl refl (need (head.Initialised c words inits) (class_of s) scope0 k o) b).goes (leaf (kind.Number 0 false false) at) scope (suc at) }
  top (head.BracketsStart inner) from parts told s scope0 k w o x b scope at = record { tokens = zero_ ∷ tail_of (record { head = (head.BracketsStart inner); from = from; parts = parts; told = told } ∷ s); finishes = (grow goal (head.BracketsStart inner) from parts told s refl refl (need (head.BracketsStart inner) (class_of s) scope0 k o) b).goes (leaf (kind.Number 0 false false) at) scope (suc at) }
  top head.EntryIndex from parts told s scope0 k w o x b scope at = record { tokens = zero_ ∷ tail_of (record { head = head.EntryIndex; from = from; parts = parts; told = told } ∷ s); finishes = (grow goal head.EntryIndex from parts told s refl refl (need head.EntryIndex (class_of s) scope0 k o) b).goes (leaf (kind.Number 0 false false) at) scope (suc at) }
  top (head.EntryOf place equals) from parts told s scope0 k w o x b scope at = record { tokens = zero_ ∷ tail_of (record { head = (head.EntryOf place equals); from = from; parts = parts; told = told } ∷ s); finishes = (grow goal (head.EntryOf place equals) from parts told s refl refl (need (head.EntryOf place equals) (class_of s) scope0 k o) b).goes (leaf (kind.Number 0 false false) at) scope (suc at) }
  top head.IfThen from parts told s scope0 k w o x b scope at = record { tokens = sc ∷ tail_of (record { head = head.IfThen; from = from; parts = parts; told = told } ∷ s); finishes = (grow goal head.IfThen from parts told s refl refl (need head.IfThen (class_of s) scope0 k o) b).goes (leaf kind.Expression at) scope (suc at) }
  top head.IfElse from parts told s scope0 k w o x b scope at = record { tokens = sc ∷ tail_of (record { head = head.IfElse; from = from; parts = parts; told = told } ∷ s); finishes = (grow goal head.IfElse from parts told s refl refl (need head.IfElse (class_of s) scope0 k o) b).goes (leaf kind.Expression at) scope (suc at) }
  top head.WhileBody from parts told s scope0 k w o x b scope at = record { tokens = sc ∷ tail_of (record { head = head.WhileBody; from = from; parts = parts; told = told } ∷ s); finishes = (grow goal head.WhileBody from parts told s refl refl (need head.WhileBody (class_of s) scope0 k o) b).goes (leaf kind.Expression at) scope (suc at) }
  top head.DoBody from parts told s scope0 k w o x b scope at = record { tokens = sc ∷ tail_of (record { head = head.DoBody; from = from; parts = parts; told = told } ∷ s); finishes = (grow goal head.DoBody from parts told s refl refl (need head.DoBody (class_of s) scope0 k o) b).goes (leaf kind.Expression at) scope (suc at) }
  top (head.ForBody first test step) from parts told s scope0 k w o x b scope at = record { tokens = sc ∷ tail_of (record { head = (head.ForBody first test step); from = from; parts = parts; told = told } ∷ s); finishes = (grow goal (head.ForBody first test step) from parts told s refl refl (need (head.ForBody first test step) (class_of s) scope0 k o) b).goes (leaf kind.Expression at) scope (suc at) }
  top head.SwitchItems from parts told s scope0 k w o x b scope at = record { tokens = sc ∷ tail_of (record { head = head.SwitchItems; from = from; parts = parts; told = told } ∷ s); finishes = (grow goal head.SwitchItems from parts told s refl refl (need head.SwitchItems (class_of s) scope0 k o) b).goes (leaf kind.Expression at) scope (suc at) }
  top (head.Declarators c words inits) from parts told s scope0 k w o x b scope at = record { tokens = name_ ∷ tail_of (record { head = (head.Declarators c words inits); from = from; parts = parts; told = told } ∷ s); finishes = (grow goal (head.Declarators c words inits) from parts told s refl refl (need (head.Declarators c words inits) (class_of s) scope0 k o) b).goes (leaf (kind.DeclName (120 ∷ [])) at) scope (suc at) }
  top (head.MemberDeclarators words) from parts told s scope0 k w o x b scope at = record { tokens = name_ ∷ tail_of (record { head = (head.MemberDeclarators words); from = from; parts = parts; told = told } ∷ s); finishes = (grow goal (head.MemberDeclarators words) from parts told s refl refl (need (head.MemberDeclarators words) (class_of s) scope0 k o) b).goes (leaf (kind.DeclName (120 ∷ [])) at) scope (suc at) }
  top (head.ParamOf words) from parts told s scope0 k w o x b scope at = record { tokens = name_ ∷ tail_of (record { head = (head.ParamOf words); from = from; parts = parts; told = told } ∷ s); finishes = (grow goal (head.ParamOf words) from parts told s refl refl (need (head.ParamOf words) (class_of s) scope0 k o) b).goes (leaf (kind.DeclName (120 ∷ [])) at) scope (suc at) }
  top head.SizeofStart from parts told s scope0 k w o x b scope at = record { tokens = zero_ ∷ tail_of s; finishes = (makes goal head.SizeofOf kind.SizeofValue _ _ _ s refl (exp-ready (class_of s) (exp-is (class_of s) 15 o)) (λ m. refl) b).goes _ _ _ }
  top head.SizeofOpen from parts told s scope0 k w o x b scope at = record { tokens = zero_ ∷ rp ∷ tail_of s; finishes = (makes goal head.SizeofOf kind.SizeofValue _ _ _ s refl (exp-ready (class_of s) (exp-is (class_of s) 15 o)) (λ m. refl) b).goes _ _ _ }
  top head.SizeofType from parts told s scope0 k w o x b scope at = record { tokens = int_ ∷ rp ∷ tail_of s; finishes = b.goes _ _ _ }
  top head.SizeofEnd from parts told s scope0 k w o x b scope at = record { tokens = rp ∷ tail_of s; finishes = b.goes _ _ _ }
  top head.ChooseColon from parts told s scope0 k w o x b scope at = record { tokens = co ∷ zero_ ∷ tail_of s; finishes = (makes goal head.ChooseNo kind.Choose _ _ _ s refl (exp-ready (class_of s) (exp-is (class_of s) 3 o)) (λ m. refl) b).goes _ _ _ }
  top head.IndexEnd from parts told s scope0 k w o x b scope at = record { tokens = rb ∷ tail_of s; finishes = b.goes _ _ _ }
  top head.CallStart from parts told s scope0 k w o x b scope at = record { tokens = rp ∷ tail_of s; finishes = b.goes _ _ _ }
  top head.CallNext from parts told s scope0 k w o x b scope at = record { tokens = rp ∷ tail_of s; finishes = b.goes _ _ _ }
  top (head.DotOf arrow) from parts told s scope0 k w o x b scope at = record { tokens = name_ ∷ tail_of s; finishes = b.goes _ _ _ }
  top head.BlockItems from parts told s scope0 k w o x b scope at = record { tokens = rc ∷ tail_of s; finishes = b.goes _ _ _ }
  top head.ExpressionEnd from parts told s scope0 k w o x b scope at = record { tokens = sc ∷ tail_of s; finishes = b.goes _ _ _ }
  top head.IfStart from parts told s scope0 k w o x b scope at = record { tokens = lp ∷ zero_ ∷ rp ∷ sc ∷ tail_of s; finishes = (over-if goal _ _ _ s (stmt-ready (class_of s) (stmt-is (class_of s) o.0)) b).goes _ _ _ }
  top head.IfEnd from parts told s scope0 k w o x b scope at = record { tokens = rp ∷ sc ∷ tail_of s; finishes = (over-if goal _ _ _ s (stmt-ready (class_of s) (stmt-is (class_of s) o.0)) b).goes _ _ _ }
  top head.IfThenEnd from parts told s scope0 k w o x b scope at = absurd o
  top head.WhileStart from parts told s scope0 k w o x b scope at = record { tokens = lp ∷ zero_ ∷ rp ∷ sc ∷ tail_of s; finishes = (makes goal head.WhileBody kind.While _ _ _ s refl (stmt-ready (class_of s) (stmt-is (class_of s) o)) (λ m. refl) b).goes _ _ _ }
  top head.WhileEnd from parts told s scope0 k w o x b scope at = record { tokens = rp ∷ sc ∷ tail_of s; finishes = (makes goal head.WhileBody kind.While _ _ _ s refl (stmt-ready (class_of s) (stmt-is (class_of s) o)) (λ m. refl) b).goes _ _ _ }
  top head.DoWhile from parts told s scope0 k w o x b scope at = record { tokens = while_ ∷ lp ∷ zero_ ∷ rp ∷ sc ∷ tail_of s; finishes = b.goes _ _ _ }
  top head.DoOpen from parts told s scope0 k w o x b scope at = record { tokens = lp ∷ zero_ ∷ rp ∷ sc ∷ tail_of s; finishes = b.goes _ _ _ }
  top head.DoClose from parts told s scope0 k w o x b scope at = record { tokens = rp ∷ sc ∷ tail_of s; finishes = b.goes _ _ _ }
  top head.DoEnd from parts told s scope0 k w o x b scope at = record { tokens = sc ∷ tail_of s; finishes = b.goes _ _ _ }
  top head.ForStart from parts told s scope0 k w o x b scope at = record { tokens = lp ∷ sc ∷ sc ∷ rp ∷ sc ∷ tail_of s; finishes = (makes goal (head.ForBody false false false) (kind.For false false false) _ _ _ s refl (stmt-ready (class_of s) (stmt-is (class_of s) o)) (λ m. refl) b).goes _ _ _ }
  top head.ForFirstEnd from parts told s scope0 k w o x b scope at = record { tokens = sc ∷ sc ∷ rp ∷ sc ∷ tail_of s; finishes = (makes goal (head.ForBody true false false) (kind.For true false false) _ _ _ s refl (stmt-ready (class_of s) (stmt-is (class_of s) o)) (λ m. refl) b).goes _ _ _ }
  top (head.ForTestEnd first) from parts told s scope0 k w o x b scope at = record { tokens = sc ∷ rp ∷ sc ∷ tail_of s; finishes = (makes goal (head.ForBody first true false) (kind.For first true false) _ _ _ s refl (stmt-ready (class_of s) (stmt-is (class_of s) o)) (λ m. refl) b).goes _ _ _ }
  top (head.ForStepEnd first test) from parts told s scope0 k w o x b scope at = record { tokens = rp ∷ sc ∷ tail_of s; finishes = (makes goal (head.ForBody first test true) (kind.For first test true) _ _ _ s refl (stmt-ready (class_of s) (stmt-is (class_of s) o)) (λ m. refl) b).goes _ _ _ }
  top head.SwitchStart from parts told s scope0 k w o x b scope at = record { tokens = lp ∷ zero_ ∷ rp ∷ lc ∷ rc ∷ tail_of s; finishes = b.goes _ _ _ }
  top head.SwitchEnd from parts told s scope0 k w o x b scope at = record { tokens = rp ∷ lc ∷ rc ∷ tail_of s; finishes = b.goes _ _ _ }
  top head.SwitchBrace from parts told s scope0 k w o x b scope at = record { tokens = lc ∷ rc ∷ tail_of s; finishes = b.goes _ _ _ }
  top head.CaseEnd from parts told s scope0 k w o x b scope at = record { tokens = co ∷ tail_of s; finishes = b.goes _ _ _ }
  top head.DefaultEnd from parts told s scope0 k w o x b scope at = record { tokens = co ∷ tail_of s; finishes = b.goes _ _ _ }
  top head.BreakEnd from parts told s scope0 k w o x b scope at = record { tokens = sc ∷ tail_of s; finishes = b.goes _ _ _ }
  top head.ContinueEnd from parts told s scope0 k w o x b scope at = record { tokens = sc ∷ tail_of s; finishes = b.goes _ _ _ }
  top head.ReturnEnd from parts told s scope0 k w o x b scope at = record { tokens = sc ∷ tail_of s; finishes = b.goes _ _ _ }
  top (head.Spec c words) from parts told s scope0 k w o x b scope at = by_type (has_type words) refl
    where
      F : Frame
      F = record { head = head.Spec c words; from = from; parts = parts; told = told }

      by_type : (v : Bool) → has_type words ≡ v → More goal (F ∷ s) scope at
      by_type true e = record { tokens = close c ++ tail_of s; finishes = spec-ends goal (head.Spec c words) c words from parts told s scope at (speaks c words) e (site-at c (class_of s) o.0) b }
      by_type false e = record {
        tokens = int_ ∷ (close c ++ tail_of s);
        finishes =
            subst (λ v. Finishes goal (run (resolve F s scope at int_ (next_in s at int_) (shift_if v (head.Spec c (words ++ word.Int ∷ [])) Refused)) (close c ++ tail_of s))) (sym (int-follows (allows_storage c) words e))
            (spec-ends goal (head.Spec c (words ++ word.Int ∷ [])) c (words ++ word.Int ∷ []) _ _ _ s _ _ (speaks c (words ++ word.Int ∷ [])) (has_type-behind words word.Int refl) (site-at c (class_of s) o.0) b);
      }
  top (head.TagStart c words u) from parts told s scope0 k w o x b scope at = record { tokens = name_ ∷ (close c ++ tail_of s); finishes = spec-ends goal (head.TagNamed c words u (120 ∷ [])) c (words ++ word.Tag u (120 ∷ []) None ∷ []) _ _ _ s _ _ (speaks-tag c words u (120 ∷ [])) (has_type-behind words (word.Tag u (120 ∷ []) None) refl) (site-at c (class_of s) o.0) b }
  top (head.TagNamed c words u name) from parts told s scope0 k w o x b scope at = record { tokens = close c ++ tail_of s; finishes = spec-ends goal (head.TagNamed c words u name) c (words ++ word.Tag u name None ∷ []) _ _ _ s _ _ (speaks-tag c words u name) (has_type-behind words (word.Tag u name None) refl) (site-at c (class_of s) o.0) b }
  top (head.Members c words u name zero) from parts told s scope0 k w o x b scope at = record { tokens = int_ ∷ sc ∷ tail_of (record { head = (head.Members c words u name zero); from = from; parts = parts; told = told } ∷ s); finishes = (grow goal (head.Members c words u name zero) from parts told s refl refl (site-at c (class_of s) o.0) b).goes (made (kind.Member (spec (word.Int ∷ []))) at none nothing scope) scope (suc (suc at)) }
  top (head.Members c words u name (suc n)) from parts told s scope0 k w o x b scope at = record { tokens = int_ ∷ sc ∷ tail_of (record { head = (head.Members c words u name (suc n)); from = from; parts = parts; told = told } ∷ s); finishes = (grow goal (head.Members c words u name (suc n)) from parts told s refl refl (site-at c (class_of s) o.0) b).goes (made (kind.Member (spec (word.Int ∷ []))) at none nothing scope) scope (suc (suc at)) }
  top (head.EnumStart c words) from parts told s scope0 k w o x b scope at = record { tokens = name_ ∷ (close c ++ tail_of s); finishes = spec-ends goal (head.EnumNamed c words (120 ∷ [])) c (words ++ word.Enum (120 ∷ []) None false ∷ []) _ _ _ s _ _ (speaks-enum c words (120 ∷ [])) (has_type-behind words (word.Enum (120 ∷ []) None false) refl) (site-at c (class_of s) o.0) b }
  top (head.EnumNamed c words name) from parts told s scope0 k w o x b scope at = record { tokens = close c ++ tail_of s; finishes = spec-ends goal (head.EnumNamed c words name) c (words ++ word.Enum name None false ∷ []) _ _ _ s _ _ (speaks-enum c words name) (has_type-behind words (word.Enum name None false) refl) (site-at c (class_of s) o.0) b }
  top (head.Constants c words name n) from parts told s scope0 k w o x b scope at = record { tokens = name_ ∷ tail_of (record { head = (head.Constants c words name n); from = from; parts = parts; told = told } ∷ s); finishes = (grow goal (head.Constants c words name n) from parts told s refl refl (site-at c (class_of s) o.0) b).goes (made (kind.EnumConst (120 ∷ []) false) at none nothing scope) (leave (kind.EnumConst (120 ∷ []) false) scope) (suc at) }
  top (head.ConstantsComma c words name n) from parts told s scope0 k w o x b scope at = record { tokens = name_ ∷ tail_of (record { head = (head.ConstantsComma c words name n); from = from; parts = parts; told = told } ∷ s); finishes = (grow goal (head.ConstantsComma c words name n) from parts told s refl refl (site-at c (class_of s) o.0) b).goes (made (kind.EnumConst (120 ∷ []) false) at none nothing scope) (leave (kind.EnumConst (120 ∷ []) false) scope) (suc at) }
  top (head.ConstantsNext c words name n) from parts told s scope0 k w o x b scope at = record { tokens = rc ∷ (close c ++ tail_of s); finishes = spec-ends goal (head.Spec c (words ++ word.Enum name (Some n) false ∷ [])) c (words ++ word.Enum name (Some n) false ∷ []) _ _ _ s _ _ (speaks c (words ++ word.Enum name (Some n) false ∷ [])) (has_type-behind words (word.Enum name (Some n) false) refl) (site-at c (class_of s) o.0) b }
  top (head.ConstantNamed name) from parts told s scope0 k w o x b scope at =
      let F : Frame = record { head = head.ConstantNamed name; from = from; parts = parts; told = told } in
      let e : class_of s ≡ class.Constant = constant-is (class_of s) o in
      let n : Next s = b.next (ap is_head_item e) in
      record {
        tokens = tail_of s;
        finishes =
            subst (λ xs. Finishes goal (run (Some (state (F ∷ s) scope at None)) xs)) (sym n.is)
            (over-goes goal F s scope at (kind.EnumConst name false) (constant_named name n.first) b n (over-constant name n.first (ap (λ c. ready_for c n.first) (sym e) ∙ n.ready)));
      }
    where
      over-constant : (name : List ℕ) (token : Terminal) → is_rc token ≡ true → constant_named name token ≡ Over (kind.EnumConst name false)
      over-constant name (t.Mark mark.CloseBrace) e = refl
      over-constant name _ e = absurd (cc)
  top (head.Declared c words inits) from parts told s scope0 k w o x b scope at = record { tokens = sc ∷ tail_of s; finishes = b.goes _ _ _ }
  top (head.InitialisedEnd c words inits) from parts told s scope0 k w o x b scope at = record { tokens = sc ∷ tail_of s; finishes = b.goes _ _ _ }
  top (head.FunctionBody words) from parts told s scope0 k w o x b scope at = absurd (false≢true w)
  top (head.MemberDeclared words) from parts told s scope0 k w o x b scope at = record { tokens = sc ∷ tail_of s; finishes = b.goes _ _ _ }
  top (head.TypeOf words) from parts told s scope0 k w o x b scope at =
      let F : Frame = record { head = head.TypeOf words; from = from; parts = parts; told = told } in
      let d : class_of s ≡ class.Type = site-type (class_of s) o.0.0 in
      let g : Both goal (F ∷ s) = grow goal (head.TypeOf words) from parts told s refl refl d b in
      star-goes naming.Bare F s scope at d g b
    where
      star-goes : (n : Naming) (F : Frame) (s : Stack) (scope : Scope) (at : ℕ) → class_of s ≡ class.Type → Both goal (record { head = head.TypeOf words; from = from; parts = parts; told = told } ∷ s) → Both goal s →
          More goal (record { head = head.TypeOf words; from = from; parts = parts; told = told } ∷ s) scope at
      star-goes n F s scope at d g b =
          let S : Frame = fresh (head.Stars naming.Bare []) at in
          let x = g.next refl in
          record {
            tokens = t.Mark mark.Star ∷ tail_of (record { head = head.TypeOf words; from = from; parts = parts; told = told } ∷ s);
            finishes =
                subst (λ xs. Finishes goal (run (Some (state (S ∷ record { head = head.TypeOf words; from = from; parts = parts; told = told } ∷ s) scope (suc at) None)) xs)) (sym x.is)
                (over-goes goal S (record { head = head.TypeOf words; from = from; parts = parts; told = told } ∷ s) scope (suc at) (kind.Star []) (stars_move naming.Bare [] x.first) g x
                (ender-by (λ token. stars_move naming.Bare [] token ≡ Over (kind.Star [])) refl refl x.first x.ready));
          }
  top (head.Stars naming.Named volatiles) from parts told s scope0 k w o x b scope at = record { tokens = name_ ∷ tail_of s; finishes = (grow goal (head.Stars naming.Named volatiles) from parts told s refl refl (dir-is (class_of s) 15 naming.Named o.0 o.1) b).goes (leaf (kind.DeclName (120 ∷ [])) at) scope (suc at) }
  top (head.Stars naming.Either volatiles) from parts told s scope0 k w o x b scope at =
      let F : Frame = record { head = head.Stars naming.Either volatiles; from = from; parts = parts; told = told } in
      let d = dir-is (class_of s) 15 naming.Either o.0 o.1 in
      let n : Next s = b.next (dir-ready naming.Either (class_of s) d).0 in
      record {
        tokens = tail_of s;
        finishes =
            subst (λ xs. Finishes goal (run (Some (state (F ∷ s) scope at None)) xs)) (sym n.is)
            (over-goes goal F s scope at (kind.Star volatiles) (stars_move naming.Either volatiles n.first) b n
            (ender-by (λ token. stars_move naming.Either volatiles token ≡ Over (kind.Star volatiles)) refl refl n.first (dir-ender naming.Either (class_of s) d n.first n.ready)));
      }
  top (head.Stars naming.Hidden volatiles) from parts told s scope0 k w o x b scope at =
      let F : Frame = record { head = head.Stars naming.Hidden volatiles; from = from; parts = parts; told = told } in
      let d = dir-is (class_of s) 15 naming.Hidden o.0 o.1 in
      let n : Next s = b.next (dir-ready naming.Hidden (class_of s) d).0 in
      record {
        tokens = tail_of s;
        finishes =
            subst (λ xs. Finishes goal (run (Some (state (F ∷ s) scope at None)) xs)) (sym n.is)
            (over-goes goal F s scope at (kind.Star volatiles) (stars_move naming.Hidden volatiles n.first) b n
            (ender-by (λ token. stars_move naming.Hidden volatiles token ≡ Over (kind.Star volatiles)) refl refl n.first (dir-ender naming.Hidden (class_of s) d n.first n.ready)));
      }
  top (head.Stars naming.Bare volatiles) from parts told s scope0 k w o x b scope at =
      let F : Frame = record { head = head.Stars naming.Bare volatiles; from = from; parts = parts; told = told } in
      let d = dir-is (class_of s) 15 naming.Bare o.0 o.1 in
      let n : Next s = b.next (dir-ready naming.Bare (class_of s) d).0 in
      record {
        tokens = tail_of s;
        finishes =
            subst (λ xs. Finishes goal (run (Some (state (F ∷ s) scope at None)) xs)) (sym n.is)
            (over-goes goal F s scope at (kind.Star volatiles) (stars_move naming.Bare volatiles n.first) b n
            (ender-by (λ token. stars_move naming.Bare volatiles token ≡ Over (kind.Star volatiles)) refl refl n.first (dir-ender naming.Bare (class_of s) d n.first n.ready)));
      }
  top (head.DeclOpened n) from parts told s scope0 k w o x b scope at = record { tokens = rp ∷ tail_of s; finishes = b.goes _ _ _ }
  top (head.DeclGroup naming.Named) from parts told s scope0 k w o x b scope at = record { tokens = name_ ∷ rp ∷ tail_of s; finishes = b.goes _ _ _ }
  top (head.DeclGroup naming.Either) from parts told s scope0 k w o x b scope at = record { tokens = t.Mark mark.Star ∷ rp ∷ tail_of s; finishes = b.goes _ _ _ }
  top (head.DeclGroup naming.Hidden) from parts told s scope0 k w o x b scope at = record { tokens = t.Mark mark.Star ∷ rp ∷ tail_of s; finishes = b.goes _ _ _ }
  top (head.DeclGroup naming.Bare) from parts told s scope0 k w o x b scope at = record { tokens = t.Mark mark.Star ∷ rp ∷ tail_of s; finishes = b.goes _ _ _ }
  top (head.DeclGroupEnd n) from parts told s scope0 k w o x b scope at = record { tokens = rp ∷ tail_of s; finishes = b.goes _ _ _ }
  top (head.BracketsEnd inner) from parts told s scope0 k w o x b scope at = record { tokens = rb ∷ tail_of s; finishes = b.goes _ _ _ }
  top (head.ParamsStart inner) from parts told s scope0 k w o x b scope at = record { tokens = rp ∷ tail_of s; finishes = b.goes _ _ _ }
  top (head.ParamsNext inner) from parts told s scope0 k w o x b scope at = record { tokens = rp ∷ tail_of s; finishes = b.goes _ _ _ }
  top (head.ParamsLone inner) from parts told s scope0 k w o x b scope at = record { tokens = cm ∷ int_ ∷ rp ∷ tail_of s; finishes = b.goes _ _ _ }
  top (head.ParamsMore inner) from parts told s scope0 k w o x b scope at = record { tokens = int_ ∷ rp ∷ tail_of s; finishes = b.goes _ _ _ }
  top (head.ParamsVoid inner) from parts told s scope0 k w o x b scope at = record { tokens = rp ∷ tail_of s; finishes = b.goes _ _ _ }
  top head.ListStart from parts told s scope0 k w o x b scope at = record { tokens = zero_ ∷ rc ∷ tail_of s; finishes = b.goes _ _ _ }
  top head.ListComma from parts told s scope0 k w o x b scope at = record { tokens = zero_ ∷ rc ∷ tail_of s; finishes = b.goes _ _ _ }
  top head.ListNext from parts told s scope0 k w o x b scope at = record { tokens = rc ∷ tail_of s; finishes = b.goes _ _ _ }
  top head.EntryIndexEnd from parts told s scope0 k w o x b scope at = record { tokens = rb ∷ zero_ ∷ tail_of s; finishes = (makes goal (head.EntryOf by.Index false) (kind.Entry by.Index false) _ _ _ s refl (entry-closer (class_of s) (entry-is (class_of s) o)) (λ m. refl) b).goes _ _ _ }
  top head.EntryDot from parts told s scope0 k w o x b scope at = record { tokens = name_ ∷ zero_ ∷ tail_of s; finishes = (makes goal (head.EntryOf (by.Member (120 ∷ [])) false) (kind.Entry (by.Member (120 ∷ [])) false) _ _ _ s refl (entry-closer (class_of s) (entry-is (class_of s) o)) (λ m. refl) b).goes _ _ _ }
  top (head.EntryNamed place) from parts told s scope0 k w o x b scope at = record { tokens = zero_ ∷ tail_of s; finishes = (makes goal (head.EntryOf place false) (kind.Entry place false) _ _ _ s refl (entry-closer (class_of s) (entry-is (class_of s) o.0)) (λ m. refl) b).goes _ _ _ }
