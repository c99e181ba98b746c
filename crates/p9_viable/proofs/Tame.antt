-- Which heads stand in a reader: at the bottom one of what is read as a whole, above it none of these, and
-- a function waits for its block only under the block.
use Rattle.std.proofs.Common.{◌≡◌, ℕ, pred, Bool, true, false, ◌&&◌, List, [], ◌∷◌, Option, Some, None, refl, sym, ap, ◌∙◌}
use Rattle.std.specs.Prelude.{⊤, nat_le}
use Rattle.std.proofs.lemmas.Bool.{and_parts}
use Rattle.p9_lang.specs.declared.tree.SpecWord.TheVariants as word
use Rattle.p9_grammar.specs.declared.terminal.Terminal.{Terminal}
use Rattle.p9_grammar.specs.declared.terminal.Terminal.TheVariants as t
use Rattle.p9_grammar.specs.declared.head.Context.TheVariants as context
use Rattle.p9_grammar.specs.declared.head.Naming.{Naming}
use Rattle.p9_grammar.specs.declared.head.Head.{Head}
use Rattle.p9_grammar.specs.declared.head.Head.TheVariants as head
use Rattle.p9_grammar.specs.Trees.{Tree, push}
use Rattle.p9_grammar.specs.Scopes.{Scope, add, leave}
use Rattle.p9_grammar.specs.Machine.{Frame, Read, Stack, State, state, fresh, moved, made, step, run, begin, Begin, Pushes, Leaf, Under, Nowhere, Move, Shift, Ends, Opens, Over, Refused, After, To, Makes, Unwanted, Join, Joins, Posts, Lengthens, Apart, opening, inside, resolve, attach, attached, joining, join, settle, going, feed, fed, decide, choose, wanted, role, opens, move, retold, begins_type, end_or, is_close_paren, or_close_paren, stepped}
use Rattle.p9_prefix.specs.declared.phrase.Phrase.TheVariants.{Expression, Declaration}
use Rattle.p9_prefix.specs.Goals.{Goal, File, One}
use Rattle.p9_viable.proofs.Calm.{up, waits, calm, calm_begin, calm_after, calm_join, calm-move, calm-attached, calm-begin, calm-join}

-- stacks

-- at the bottom
abbrev pub ground : Goal → Head → Bool
ground File head.FileItems = true
ground File head.FileOver = true
ground (One Expression scope at) head.GoalExpression = true
ground (One Expression scope at) head.GoalRead = true
ground (One Expression scope at) head.GoalOver = true
ground (One Declaration scope at) head.GoalHead = true
ground (One Declaration scope at) head.HeadRead = true
ground _ _ = false

-- and where the reader may wait there
abbrev pub rests : Goal → Head → Bool
rests File head.FileItems = true
rests File head.FileOver = true
rests (One Expression scope at) head.GoalExpression = true
rests (One Expression scope at) head.GoalOver = true
rests (One Declaration scope at) head.GoalHead = true
rests _ _ = false

module _ (goal : Goal) where
  -- a head over this stack
  abbrev pub fits : Stack → Head → Bool
  fits [] h = ground goal h
  fits (g ∷ s) h = up h

  abbrev pub tame : Stack → Bool
  tame [] = true
  tame (f ∷ s) = fits s f.head && tame s

  abbrev pub waits_in : Stack → Head → Bool
  waits_in [] h = rests goal h
  waits_in (g ∷ s) h = waits h

  abbrev pub waits_on : Option Read → Stack → Bool
  waits_on (Some n) s = true
  waits_on None [] = true
  waits_on None (f ∷ s) = waits_in s f.head

abbrev pub is_full : Stack → Bool
is_full [] = false
is_full (f ∷ s) = true

and : (a b : Bool) → a ≡ true → b ≡ true → (a && b) ≡ true
and true b e f = f
and false b e f = e

up_waits : (h : Head) → waits h ≡ true → up h ≡ true
up_waits (head.FunctionBody words) e = absurd (cc)
up_waits h e = e

off-ground : (goal : Goal) (h : Head) → up h ≡ true → ground goal h ≡ false
off-ground File head.FileItems e = absurd (cc)
off-ground File head.FileOver e = absurd (cc)
off-ground File _ e = refl
off-ground (One Expression scope at) head.GoalExpression e = absurd (cc)
off-ground (One Expression scope at) head.GoalRead e = absurd (cc)
off-ground (One Expression scope at) head.GoalOver e = absurd (cc)
off-ground (One Expression scope at) _ e = refl
off-ground (One Declaration scope at) head.GoalHead e = absurd (cc)
off-ground (One Declaration scope at) head.HeadRead e = absurd (cc)
off-ground (One Declaration scope at) _ e = refl

-- what a move and a part do at the bottom

abbrev Grounded : Goal → Move → Type 0
Grounded goal (Shift h) = (ground goal h ≡ true) × (rests goal h ≡ true)
Grounded goal (Opens h) = ground goal h ≡ true
Grounded goal (Ends k) = ⊥
Grounded goal (Over k) = ⊤
Grounded goal Refused = ⊤

abbrev GroundedPart : Goal → After → Type 0
GroundedPart goal (To h) = ground goal h ≡ true
GroundedPart goal _ = ⊤

grounded : (goal : Goal) (h : Head) (scope : Scope) (token : Terminal) → ground goal h ≡ true → Grounded goal (move scope h token)
grounded File head.FileItems scope token e = file-move token
  where
    file-move : (token : Terminal) → Grounded File (end_or (Shift head.FileOver) (Opens head.FileItems) token)
    file-move t.End = (refl, refl)
    file-move _ = refl
grounded File head.FileOver scope token e = tt
grounded File _ scope token e = absurd (cc)
grounded (One Expression names at) head.GoalExpression scope token e = refl
grounded (One Expression names at) head.GoalRead scope token e = read-move token
  where
    read-move : (token : Terminal) → Grounded (One Expression names at) (end_or (Shift head.GoalOver) Refused token)
    read-move t.End = (refl, refl)
    read-move _ = tt
grounded (One Expression names at) head.GoalOver scope token e = tt
grounded (One Expression names at) _ scope token e = absurd (cc)
grounded (One Declaration names at) head.GoalHead scope token e = refl
grounded (One Declaration names at) head.HeadRead scope token e = tt
grounded (One Declaration names at) _ scope token e = absurd (cc)

grounded-part : (goal : Goal) (h : Head) (n : Tree) → ground goal h ≡ true → GroundedPart goal (attached h n)
grounded-part File head.FileItems n e = refl
grounded-part File head.FileOver n e = tt
grounded-part File _ n e = absurd (cc)
grounded-part (One Expression names at) head.GoalExpression n e = refl
grounded-part (One Expression names at) head.GoalRead n e = tt
grounded-part (One Expression names at) head.GoalOver n e = tt
grounded-part (One Expression names at) _ n e = absurd (cc)
grounded-part (One Declaration names at) head.GoalHead n e = refl
grounded-part (One Declaration names at) head.HeadRead n e = tt
grounded-part (One Declaration names at) _ n e = absurd (cc)

module _ (goal : Goal) where
  abbrev pub Sane : Option State → Type 0
  Sane None = ⊤
  Sane (Some st) = (tame goal st.stack ≡ true) × (waits_on goal st.last st.stack ≡ true) × (is_full st.stack ≡ true)

  -- what a move and a part do over a stack
  abbrev CalmOver : Stack → Move → Type 0
  CalmOver s (Shift h) = (fits goal s h ≡ true) × (waits_in goal s h ≡ true)
  CalmOver s (Opens h) = fits goal s h ≡ true
  CalmOver [] (Ends k) = ⊥
  CalmOver (g ∷ s) (Ends k) = ⊤
  CalmOver s (Over k) = ⊤
  CalmOver s Refused = ⊤

  abbrev AfterOver : Stack → After → Type 0
  AfterOver s (To h) = fits goal s h ≡ true
  AfterOver s _ = ⊤

  waits-top : (s : Stack) (f : Frame) → waits_in goal s f.head ≡ true → waits_on goal None (f ∷ s) ≡ true
  waits-top s f e = e

  -- the steps

  move-fits : (s : Stack) (h : Head) (scope : Scope) (token : Terminal) → fits goal s h ≡ true → CalmOver s (move scope h token)
  move-fits [] h scope token e = below (move scope h token) (grounded goal h scope token e)
    where
      below : (m : Move) → Grounded goal m → CalmOver [] m
      below (Shift h) q = q
      below (Ends k) q = q
      below (Opens h) q = q
      below (Over k) q = q
      below Refused q = q
  move-fits (g ∷ s) h scope token e = above (move scope h token) (calm-move scope h token e)
    where
      above : (m : Move) → calm m ≡ true → CalmOver (g ∷ s) m
      above (Shift h) q = (up_waits h q, q)
      above (Ends k) q = tt
      above (Opens h) q = q
      above (Over k) q = tt
      above Refused q = tt

  attached-fits : (s : Stack) (h : Head) (n : Tree) → fits goal s h ≡ true → AfterOver s (attached h n)
  attached-fits [] h n e = below (attached h n) (grounded-part goal h n e)
    where
      below : (a : After) → GroundedPart goal a → AfterOver [] a
      below (To h) q = q
      below (Makes k) q = tt
      below Unwanted q = tt
  attached-fits (g ∷ s) h n e = above (attached h n) (calm-attached h n e)
    where
      above : (a : After) → calm_after a ≡ true → AfterOver (g ∷ s) a
      above (To h) q = q
      above (Makes k) q = tt
      above Unwanted q = tt

  inside-sane : (s : Stack) (scope : Scope) (at : ℕ) (b : Begin) (g : Frame) → tame goal (g ∷ s) ≡ true → calm_begin b ≡ true → Sane (inside (g ∷ s) scope at b)
  inside-sane s scope at (Pushes h) g e q = (and (up h) (tame goal (g ∷ s)) (up_waits h q) e, q, refl)
  inside-sane s scope at (Leaf k) g e q = (e, refl, refl)
  inside-sane s scope at (Under h) g e q = tt
  inside-sane s scope at Nowhere g e q = tt

  opening-sane : (s : Stack) (scope : Scope) (at : ℕ) (token : Terminal) (b : Begin) (g : Frame) → tame goal (g ∷ s) ≡ true → calm_begin b ≡ true → Sane (opening (g ∷ s) scope at token b)
  opening-sane s scope at token (Pushes h) g e q = (and (up h) (tame goal (g ∷ s)) (up_waits h q) e, q, refl)
  opening-sane s scope at token (Leaf k) g e q = (e, refl, refl)
  opening-sane s scope at token (Under h) g e q =
      inside-sane (g ∷ s) scope at (begin scope (wanted h) token) (fresh h at) (and (up h) (tame goal (g ∷ s)) q e) (calm-begin scope (wanted h) token)
  opening-sane s scope at token Nowhere g e q = tt

  resolve-sane : (f : Frame) (s : Stack) (scope : Scope) (at : ℕ) (token : Terminal) (next : Read → Scope → Option State) (m : Move) → tame goal s ≡ true → CalmOver s m →
      ((n : Read) (sc : Scope) → Sane (next n sc)) → Sane (resolve f s scope at token next m)
  resolve-sane f s scope at token next (Shift h) e q r = (and (fits goal s h) (tame goal s) q.0 e, waits-top s (moved f h) q.1, refl)
  resolve-sane f [] scope at token next (Ends k) e q r = absurd q
  resolve-sane f (g ∷ s) scope at token next (Ends k) e q r = (e, refl, refl)
  resolve-sane f s scope at token next (Opens h) e q r =
      opening-sane s (opens h f.told scope) at token (begin (opens h f.told scope) (wanted h) token) (moved f h) (and (fits goal s h) (tame goal s) q e) (calm-begin (opens h f.told scope) (wanted h) token)
  resolve-sane f s scope at token next (Over k) e q r = r (made k f.from f.parts f.told scope) (leave k scope)
  resolve-sane f s scope at token next Refused e q r = tt

  attach-sane : (f : Frame) (s : Stack) (n : Read) (scope : Scope) (at : ℕ) (token : Terminal) (next : Read → Scope → Option State) (a : After) → tame goal s ≡ true → AfterOver s a →
      ((n : Read) (sc : Scope) → Sane (next n sc)) → Sane (attach f s n scope at token next a)
  attach-sane f s n scope at token next (To h) e q r =
      resolve-sane (record { head = h; from = f.from; parts = push f.parts n.tree; told = retold f.head f.told n.told }) s scope at token next (move scope h token) e (move-fits s h scope token q) r
  attach-sane f s n scope at token next (Makes k) e q r = r (made k f.from (push f.parts n.tree) (retold f.head f.told n.told) scope) (leave k scope)
  attach-sane f s n scope at token next Unwanted e q r = tt

  joining-sane : (f : Frame) (s : Stack) (n : Read) (scope : Scope) (at : ℕ) (next : Option State) (j : Join) → tame goal (f ∷ s) ≡ true → calm_join j ≡ true → Sane next → Sane (joining f s n scope at next j)
  joining-sane f s n scope at next (Joins h) e q r = (and (up h) (tame goal (f ∷ s)) (up_waits h q) e, q, refl)
  joining-sane f s n scope at next (Posts k) e q r = (e, refl, refl)
  joining-sane f s n scope at next (Lengthens k) e q r = (e, refl, refl)
  joining-sane f s n scope at next Apart e q r = r

  settle-sane : (s : Stack) (n : Read) (scope : Scope) (at : ℕ) (token : Terminal) → tame goal s ≡ true → Sane (settle s n scope at token)
  settle-sane [] n scope at token e = tt
  settle-sane (f ∷ s) n scope at token e =
      let p = and_parts (fits goal s f.head) (tame goal s) e in
      joining-sane f s n scope at
      (attach f s n (add (role f.head) n.told scope) at token (λ m sc. settle s m sc at token) (attached f.head n.tree))
      (join (wanted f.head) n.tree token) e (calm-join (wanted f.head) n.tree token)
      (attach-sane f s n (add (role f.head) n.told scope) at token (λ m sc. settle s m sc at token) (attached f.head n.tree) p.1 (attached-fits s f.head n.tree p.0) (λ m sc. settle-sane s m sc at token p.1))

  feed-sane : (s : Stack) (scope : Scope) (at : ℕ) (token : Terminal) → tame goal s ≡ true → Sane (feed s scope at token)
  feed-sane [] scope at token e = tt
  feed-sane (f ∷ s) scope at token e =
      let p = and_parts (fits goal s f.head) (tame goal s) e in
      resolve-sane f s scope at token (λ m sc. settle s m sc at token) (move scope f.head token) p.1 (move-fits s f.head scope token p.0) (λ m sc. settle-sane s m sc at token p.1)

  -- the choice behind a parenthesis

  above-ground : (s : Stack) (h g : Head) → fits goal s h ≡ true → ground goal h ≡ false → up g ≡ true → fits goal s g ≡ true
  above-ground [] h g e q r = absurd (clash)
    where
      clash : ⊥
      clash = cc
  above-ground (x ∷ s) h g e q r = r

  put : (f : Frame) (s : Stack) (h g : Head) → tame goal (f ∷ s) ≡ true → f.head ≡ h → ground goal h ≡ false → up g ≡ true → tame goal (moved f g ∷ s) ≡ true
  put f s h g e q r w =
      let p = and_parts (fits goal s f.head) (tame goal s) e in
      and (fits goal s g) (tame goal s) (above-ground s h g (ap (fits goal s) (sym q) ∙ p.0) r w) p.1

  put-two : (f : Frame) (s : Stack) (h g x : Head) (at : ℕ) → tame goal (f ∷ s) ≡ true → f.head ≡ h → ground goal h ≡ false → up g ≡ true → up x ≡ true → tame goal (fresh x at ∷ moved f g ∷ s) ≡ true
  put-two f s h g x at e q r w v = and (up x) (tame goal (moved f g ∷ s)) v (put f s h g e q r w)

  opened-choice : (f : Frame) (s : Stack) (l : ℕ) (b : Bool) → tame goal (f ∷ s) ≡ true → f.head ≡ head.Opened l → tame goal (moved f (choose b head.CastType head.Group) ∷ s) ≡ true
  opened-choice f s l true e q = put f s (head.Opened l) head.CastType e q (off-ground goal (head.Opened l) refl) refl
  opened-choice f s l false e q = put f s (head.Opened l) head.Group e q (off-ground goal (head.Opened l) refl) refl

  sizeof-choice : (f : Frame) (s : Stack) (at : ℕ) (b : Bool) → tame goal (f ∷ s) ≡ true → f.head ≡ head.SizeofOpen →
      tame goal (choose b (moved f head.SizeofType ∷ s) (fresh head.Group (pred at) ∷ moved f head.SizeofOf ∷ s)) ≡ true
  sizeof-choice f s at true e q = put f s head.SizeofOpen head.SizeofType e q (off-ground goal head.SizeofOpen refl) refl
  sizeof-choice f s at false e q = put-two f s head.SizeofOpen head.SizeofOf head.Group (pred at) e q (off-ground goal head.SizeofOpen refl) refl refl

  declarator-choice : (f : Frame) (s : Stack) (scope : Scope) (at : ℕ) (n : Naming) (b : Bool) → tame goal (f ∷ s) ≡ true → f.head ≡ head.DeclOpened n →
      tame goal (choose b (state (moved f (head.ParamsStart false) ∷ s) ([] ∷ scope) at None) (state (moved f (head.DeclGroup n) ∷ s) scope at None)).stack ≡ true
  declarator-choice f s scope at n true e q = put f s (head.DeclOpened n) (head.ParamsStart false) e q (off-ground goal (head.DeclOpened n) refl) refl
  declarator-choice f s scope at n false e q = put f s (head.DeclOpened n) (head.DeclGroup n) e q (off-ground goal (head.DeclOpened n) refl) refl

  void-choice : (f : Frame) (s : Stack) (at : ℕ) (inner b : Bool) → tame goal (f ∷ s) ≡ true → f.head ≡ head.ParamsVoid inner →
      tame goal (choose b (f ∷ s) (fresh (head.Spec context.Param (word.Void ∷ [])) (pred at) ∷ moved f (head.ParamsStart inner) ∷ s)) ≡ true
  void-choice f s at inner true e q = e
  void-choice f s at inner false e q = put-two f s (head.ParamsVoid inner) (head.ParamsStart inner) (head.Spec context.Param (word.Void ∷ [])) (pred at) e q (off-ground goal (head.ParamsVoid inner) refl) refl refl

  decide-tame : (f : Frame) (s : Stack) (scope : Scope) (at : ℕ) (token : Terminal) (h : Head) → f.head ≡ h → tame goal (f ∷ s) ≡ true → tame goal (decide f s scope at token h).stack ≡ true
  decide-tame f s scope at token (head.Opened l) q e = opened-choice f s l (begins_type scope token && nat_le l 14) e q
  decide-tame f s scope at token head.SizeofOpen q e = sizeof-choice f s at (begins_type scope token) e q
  decide-tame f s scope at token (head.DeclOpened n) q e = declarator-choice f s scope at n (or_close_paren (begins_type scope token) token) e q
  decide-tame f s scope at token (head.ParamsVoid inner) q e = void-choice f s at inner (is_close_paren token) e q
  decide-tame f s scope at token _ q e = e

  fed-sane : (st : State) (token : Terminal) → tame goal st.stack ≡ true → Sane (fed st token)
  fed-sane st token e = feed-sane st.stack st.scope st.at token e

  going-sane : (s : Stack) (scope : Scope) (at : ℕ) (token : Terminal) → tame goal s ≡ true → Sane (going s scope at token)
  going-sane [] scope at token e = tt
  going-sane (f ∷ s) scope at token e = fed-sane (decide f s scope at token f.head) token (decide-tame f s scope at token f.head refl e)

  stepped-sane : (s : Stack) (scope : Scope) (at : ℕ) (last : Option Read) (token : Terminal) → tame goal s ≡ true → Sane (stepped s scope at last token)
  stepped-sane s scope at None token e = going-sane s scope at token e
  stepped-sane s scope at (Some n) token e = settle-sane s n scope at token e

  step-sane : (st : State) (token : Terminal) → tame goal st.stack ≡ true → Sane (step st token)
  unfolding step
  step-sane st token e = stepped-sane st.stack st.scope st.at st.last token e

  pub run-sane : (ts : List Terminal) (r : Option State) → Sane r → Sane (run r ts)
  run-sane [] r h = h
  run-sane (x ∷ ts) None h = tt
  run-sane (x ∷ ts) (Some st) h = run-sane ts (step st x) (step-sane st x h.0)
