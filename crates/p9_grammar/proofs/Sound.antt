-- What the reader has read are the tokens of well-formed trees.
use Rattle.std.proofs.Common.{◌≡◌, ℕ, zero, suc, ◌+◌, ◌-◌, ◌≤◌, ◌<◌, nat_le, Bool, true, false, ◌||◌, ◌&&◌, ◌⊎◌, inl, inr, not, List, [], ◌∷◌, ◌++◌, length, Option, Some, None, refl, sym, ap, subst, ◌∙◌, arith, ⊎_elim, append_assoc, append-nil, map}
use Rattle.std.specs.Prelude.{⊤}
use Rattle.std.proofs.lemmas.Bool.{false≢true, and_parts, not-true}
use Rattle.p9_lang.specs.declared.tree.CBinary.{CBinary}
use Rattle.p9_lang.specs.declared.tree.CBinary.TheVariants as operator
use Rattle.p9_lang.specs.declared.tree.CUnary.{CUnary}
use Rattle.p9_lang.specs.declared.tree.CUnary.TheVariants as unary
use Rattle.p9_lang.specs.declared.tree.EntryBy.{EntryBy}
use Rattle.p9_lang.specs.declared.tree.EntryBy.TheVariants as by
use Rattle.p9_lang.specs.declared.tree.SpecWord.{SpecWord}
use Rattle.p9_lang.specs.declared.tree.SpecWord.TheVariants as word
use Rattle.p9_lang.specs.declared.tree.Kind.{Kind}
use Rattle.p9_lang.specs.declared.tree.Kind.TheVariants as kind
use Rattle.p9_grammar.specs.declared.terminal.Keyword.{Keyword}
use Rattle.p9_grammar.specs.declared.terminal.Keyword.TheVariants as key
use Rattle.p9_grammar.specs.declared.terminal.Punctuator.{Punctuator}
use Rattle.p9_grammar.specs.declared.terminal.Punctuator.TheVariants as mark
use Rattle.p9_grammar.specs.declared.terminal.Terminal.{Terminal}
use Rattle.p9_grammar.specs.declared.terminal.Terminal.TheVariants as t
use Rattle.p9_grammar.specs.declared.head.Context.{Context}
use Rattle.p9_grammar.specs.declared.head.Context.TheVariants as context
use Rattle.p9_grammar.specs.declared.head.Naming.{Naming}
use Rattle.p9_grammar.specs.declared.head.Naming.TheVariants as naming
use Rattle.p9_grammar.specs.declared.head.Class.{Class}
use Rattle.p9_grammar.specs.declared.head.Class.TheVariants as class
use Rattle.p9_grammar.specs.declared.head.Head.{Head}
use Rattle.p9_grammar.specs.declared.head.Head.TheVariants as head
use Rattle.p9_grammar.specs.Trees.{Tree, node, Trees, none, more, count, push}
use Rattle.p9_grammar.specs.Symbols.{Symbol, Write, Part, Enter, Slot, Of, Last, Pointed, Direct, Grouped, Role, Plain, Declares, Begins, part, sign, keyword, right_side, binds, binary_sign, unary_sign, assignment_sign, step_sign, dot_sign, expression, assignment, conditional, operand, later, listed, many, optional, at_most_one, branches, texts, spec_symbols, word_symbols, spec_parts, is_typedef, declarator, declarator_of, declarators, later_declarators, initialiser, qualifier, inner_declarator, parameters, parameter_list, behind, entry_place, named, in_braces, tag_key}
use Rattle.p9_grammar.specs.Scopes.{Scope, Level, is_type, after, told, told_first, through, add, leave, tells, nothing, Told, innermost, outer}
use Rattle.p9_grammar.specs.Grammar.{Sort, sort, Accepts, Suits, Asks, Formed, Fills, slot_class, naming_of, may_of, past, past_in, is_assignable, SpecFrom, IsSpec, may_follow, has_type, is_known, is_void_word, pointed, grouped}
use Rattle.p9_grammar.specs.Machine.{Frame, Read, Stack, State, state, to, fresh, moved, made, leaf, start_of, step, run, begin, begin_by, begin_spec, begin_expression, begin_declarator, begin_statement, begin_switch_item, begin_initialiser, only_if, or_else, Begin, Pushes, Leaf, Under, Nowhere, Move, Shift, Ends, Opens, Over, Refused, After, To, Makes, Unwanted, Join, Joins, Posts, Lengthens, Apart, opening, inside, resolve, attach, attached, joining, join, join_at, join_if, join_expression, join_declarator, settle, going, feed, decide, choose, wanted, role, retold, enters, opens, Infix, Binds, No, binding, binary, assigns, level_of, direct_of, move, spec_move, begins_type, allows_storage, spec, shift_if, ends_spec, paren_or, brace_or, semicolon_or, bracket_or}
use Rattle.p9_grammar.proofs.Spelling.{spell, spells}
use Rattle.p9_grammar.specs.Machine.{is_begun, only_if, begin_entry, begin_body, begin_constant, fed, else_move, stepped}
use Rattle.p9_grammar.specs.Grammar.{Expression, Declarator, Braced, Entry, Param, TypeName, Member, Constant, Declaration, Function, Block, Statement, Label}
use Rattle.p9_grammar.specs.Grammar.{tokens, write}
use Rattle.std.specs.Prelude.{pred}
use Rattle.p9_grammar.specs.Symbols.{file_symbols}
use Rattle.p9_grammar.specs.Machine.{file_start}
use Rattle.p9_grammar.specs.Promise.{IsFile, file_tokens, file_scope, IsRead, ReadsOnlyFiles}
use Rattle.p9_grammar.specs.Machine.{else_move, fed, stepped, or_close_paren, is_close_paren}
use Rattle.p9_grammar.proofs.Reading.{is_no_else}
use Rattle.p9_grammar.proofs.Calm.{true_le}
use Rattle.p9_grammar.proofs.Expressions.{formed-start}
use Rattle.p9_grammar.proofs.Declarators.{only-param}
use Rattle.p9_grammar.proofs.Sofar.{so_far, Open, before_declarator}
use Rattle.p9_grammar.proofs.Along.{Along, along-write, along-enter, along-part, along-same, along-begins, count-push, last_told, last-part, sample, fills-part, through-part, past-part, write-part, through-write, past-write, write-write}
use Rattle.p9_grammar.proofs.Moves.{at_token, Wants, Closed, MoveOk, moves-ok}
use Rattle.p9_grammar.proofs.Attach.{AfterOk, attach-ok, is_step, is_retold, last-slot, naming-same}
use Rattle.p9_grammar.proofs.Begins.{BeginOk, begins-ok, JoinOk, joins-ok, Fit}
use Rattle.p9_grammar.proofs.Tells.{Tells, tells-write, tells-part, retold-tells, retold-now, tells-node, ends_declares, ends-with, class_of, class-fair, to-low, wanted-low, at-accepts, Untold, untold-spec}

-- parameters so far

abbrev param_front : Bool → List Symbol → List Symbol
param_front inner symbols = inner_declarator inner ++ (sign mark.OpenParen ∷ Enter ∷ symbols)

front-more : (inner : Bool) (xs : List Symbol) (z : Symbol) → param_front inner (xs ++ (z ∷ [])) ≡ param_front inner xs ++ (z ∷ [])
front-more true xs z = refl
front-more false xs z = refl

relax-fills : (d : Class) (symbols : List Symbol) (scope : Scope) (at : ℕ) (ps : Trees) → Fills d (symbols ++ (part class.OnlyParam ∷ [])) scope at ps → Fills d (symbols ++ (part class.Param ∷ [])) scope at ps
relax-fills d [] scope at none h = h
relax-fills d [] scope at (more n none) h = ((only-param n scope at h.0).0, tt)
relax-fills d [] scope at (more n (more o ns)) h = absurd h.1
relax-fills d (Write y ∷ symbols) scope at ps h = relax-fills d symbols scope (suc at) ps h
relax-fills d (Enter ∷ symbols) scope at ps h = relax-fills d symbols ([] ∷ scope) at ps h
relax-fills d (Part slot r ∷ symbols) scope at none h = h
relax-fills d (Part slot r ∷ symbols) scope at (more n ns) h = (h.0, relax-fills d symbols (add r (told n scope) (after n scope)) (past n at) ns h.1)

relax-through : (symbols : List Symbol) (scope : Scope) (ps : Trees) → through (symbols ++ (part class.Param ∷ [])) ps scope ≡ through (symbols ++ (part class.OnlyParam ∷ [])) ps scope
relax-through [] scope none = refl
relax-through [] scope (more n ns) = refl
relax-through (Write y ∷ symbols) scope ps = relax-through symbols scope ps
relax-through (Enter ∷ symbols) scope ps = relax-through symbols ([] ∷ scope) ps
relax-through (Part slot r ∷ symbols) scope none = relax-through symbols scope none
relax-through (Part slot r ∷ symbols) scope (more n ns) = relax-through symbols (add r (told n scope) (after n scope)) ns

relax-past : (symbols : List Symbol) (at : ℕ) (ps : Trees) → past_in (symbols ++ (part class.Param ∷ [])) ps at ≡ past_in (symbols ++ (part class.OnlyParam ∷ [])) ps at
relax-past [] at none = refl
relax-past [] at (more n ns) = refl
relax-past (Write y ∷ symbols) at ps = relax-past symbols (suc at) ps
relax-past (Enter ∷ symbols) at ps = relax-past symbols at ps
relax-past (Part slot r ∷ symbols) at none = relax-past symbols at none
relax-past (Part slot r ∷ symbols) at (more n ns) = relax-past symbols (past n at) ns

relax-write : (symbols : List Symbol) (ps : Trees) → write (symbols ++ (part class.Param ∷ [])) ps ≡ write (symbols ++ (part class.OnlyParam ∷ [])) ps
relax-write [] none = refl
relax-write [] (more n ns) = refl
relax-write (Write y ∷ symbols) ps = ap (λ ts. y ∷ ts) (relax-write symbols ps)
relax-write (Enter ∷ symbols) ps = relax-write symbols ps
relax-write (Part slot r ∷ symbols) none = relax-write symbols none
relax-write (Part slot r ∷ symbols) (more n ns) = ap (λ ts. tokens n ++ ts) (relax-write symbols ns)

relax-along : (symbols : List Symbol) (m : Naming) (scope0 : Scope) (from : ℕ) (ps : Trees) (us : List Terminal) (scope : Scope) (at : ℕ) (ts : List Terminal) →
    Along m (symbols ++ (part class.OnlyParam ∷ [])) scope0 from ps us scope at ts → Along m (symbols ++ (part class.Param ∷ [])) scope0 from ps us scope at ts
relax-along symbols m scope0 from ps us scope at ts a = record {
  fills = λ d e. relax-fills d symbols scope0 from ps (a.fills d e);
  leads = relax-through symbols scope0 ps ∙ a.leads;
  comes = relax-past symbols from ps ∙ a.comes;
  wrote = ap (λ ws. us ++ ws) (relax-write symbols ps) ∙ a.wrote;
}

along-param : (inner : Bool) (j : ℕ) (m : Naming) (scope0 : Scope) (from : ℕ) (ps : Trees) (us : List Terminal) (scope : Scope) (at : ℕ) (ts : List Terminal) →
    Along m (param_front inner (parameters j)) scope0 from ps us scope at ts → Along m (param_front inner (listed j (part class.Param))) scope0 from ps us scope at ts
along-param inner zero m scope0 from ps us scope at ts a = a
along-param true (suc zero) m scope0 from ps us scope at ts a = relax-along (Part Direct Plain ∷ sign mark.OpenParen ∷ Enter ∷ []) m scope0 from ps us scope at ts a
along-param false (suc zero) m scope0 from ps us scope at ts a = relax-along (sign mark.OpenParen ∷ Enter ∷ []) m scope0 from ps us scope at ts a
along-param inner (suc (suc j)) m scope0 from ps us scope at ts a = a

tells-listed : (j : ℕ) → Untold (listed j (part class.Param) ++ (sign mark.Comma ∷ []))
tells-listed zero = λ tl ps scope. tt
tells-listed (suc j) = λ tl ps scope. tt

tells-params : (inner : Bool) (j : ℕ) (symbols : List Symbol) (tl : Told) (ps : Trees) (scope : Scope) → Untold symbols → Tells (param_front inner (parameters j)) tl ps scope → Tells (param_front inner symbols) tl ps scope
tells-params true j symbols tl none scope u h = tt
tells-params true j symbols tl (more n ns) scope u h = h
tells-params false j symbols tl ps scope u h = u tl ps ([] ∷ scope)

step-written : (slot : Slot) (token : Terminal) (tl : Told) (n : Tree) (scope : Scope) → tl ≡ told n scope → Tells (Part slot Plain ∷ Write token ∷ []) tl (more n none) scope
step-written (Of c) token tl n scope h = tt
step-written Last token tl n scope h = tt
step-written Pointed token tl n scope h = h
step-written Direct token tl n scope h = h
step-written Grouped token tl n scope h = h

-- without the last token
fills-back : (d : Class) (x : Terminal) (symbols : List Symbol) (scope : Scope) (at : ℕ) (ps : Trees) → Fills d (symbols ++ (Write x ∷ [])) scope at ps → Fills d symbols scope at ps
fills-back d x [] scope at none h = tt
fills-back d x [] scope at (more n ns) h = h
fills-back d x (Write y ∷ symbols) scope at ps h = fills-back d x symbols scope (suc at) ps h
fills-back d x (Enter ∷ symbols) scope at ps h = fills-back d x symbols ([] ∷ scope) at ps h
fills-back d x (Part slot r ∷ symbols) scope at none h = h
fills-back d x (Part slot r ∷ symbols) scope at (more n ns) h = (h.0, fills-back d x symbols (add r (told n scope) (after n scope)) (past n at) ns h.1)

along-back : (m : Naming) (xs : List Symbol) (x : Terminal) (scope0 : Scope) (from : ℕ) (ps : Trees) (us : List Terminal) (scope : Scope) (at : ℕ) (ts : List Terminal) →
    Along m (xs ++ (Write x ∷ [])) scope0 from ps us scope at ts → Along m xs scope0 from ps us scope (pred at) (us ++ write xs ps)
along-back m xs x scope0 from ps us scope at ts a = record {
  fills = λ d e. fills-back d x xs scope0 from ps (a.fills d e);
  leads = sym (through-write x xs scope0 ps) ∙ a.leads;
  comes = ap pred (sym (past-write x xs from ps) ∙ a.comes);
  wrote = refl;
}

back-at : (m : Naming) (xs : List Symbol) (x : Terminal) (scope0 : Scope) (from : ℕ) (ps : Trees) (us : List Terminal) (scope : Scope) (at : ℕ) (ts : List Terminal) →
    Along m (xs ++ (Write x ∷ [])) scope0 from ps us scope at ts → suc (pred at) ≡ at
back-at m xs x scope0 from ps us scope at ts a = let e = sym (past-write x xs from ps) ∙ a.comes in ap (λ y. suc (pred y)) (sym e) ∙ e

back-wrote : (m : Naming) (xs : List Symbol) (x : Terminal) (scope0 : Scope) (from : ℕ) (ps : Trees) (us : List Terminal) (scope : Scope) (at : ℕ) (ts : List Terminal) →
    Along m (xs ++ (Write x ∷ [])) scope0 from ps us scope at ts → (us ++ write xs ps) ++ (x ∷ []) ≡ ts
back-wrote m xs x scope0 from ps us scope at ts a = append_assoc us (write xs ps) (x ∷ []) ∙ ap (λ ws. us ++ ws) (sym (write-write x xs ps)) ∙ a.wrote

void-symbols : (inner : Bool) (k : ℕ) → so_far (head.ParamsVoid inner) k ≡ so_far (head.ParamsStart inner) k ++ (keyword key.Void ∷ [])
void-symbols true k = refl
void-symbols false k = refl

pub record InFrame (s : Stack) (f : Frame) (scope0 : Scope) (us : List Terminal) (scope : Scope) (at : ℕ) (ts : List Terminal) : Type 0 where
  pub opened : Open (class_of s) scope0 f.head (count f.parts)
  pub along : Along (naming_of (class_of s)) (so_far f.head (count f.parts)) scope0 f.from f.parts us scope at ts
  pub tells : Tells (so_far f.head (count f.parts)) f.told f.parts scope0
  pub last : ends_declares (so_far f.head (count f.parts)) ≡ true → f.told ≡ last_told nothing (so_far f.head (count f.parts)) f.parts scope0

pub record ReadAs (n : Read) (scope : Scope) (at : ℕ) (ts us : List Terminal) (scope0 : Scope) (at0 : ℕ) : Type 0 where
  pub leads : scope ≡ after n.tree scope0
  pub comes : at ≡ past n.tree at0
  pub tells : n.told ≡ told n.tree scope0
  pub wrote : ts ≡ us ++ tokens n.tree

module _ (base : Scope) (start : ℕ) where
  abbrev pub Below : Stack → Scope → ℕ → List Terminal → Type 0
  Below [] scope0 from us = (scope0 ≡ base) × (from ≡ start) × (us ≡ [])
  Below (g ∷ s) scope from ts = (w : Wants g.head) × (scope0 : Scope) × (us : List Terminal) × (b : Below s scope0 g.from us) × InFrame s g scope0 us scope from ts

  abbrev pub Stands : Stack → Scope → ℕ → List Terminal → Type 0
  Stands [] scope at ts = ⊥
  Stands (f ∷ s) scope at ts = (scope0 : Scope) × (us : List Terminal) × (b : Below s scope0 f.from us) × InFrame s f scope0 us scope at ts

  abbrev pub ReadOk : Stack → Read → Scope → ℕ → List Terminal → Type 0
  ReadOk s n scope at ts =
      (scope0 : Scope) × (at0 : ℕ) × (us : List Terminal) × (b : Below s scope0 at0 us) × (r : ReadAs n scope at ts us scope0 at0)
      × ((token : Terminal) → Formed (at_token (class_of s) token) scope0 at0 n.tree)

  abbrev pub ReadAt : Terminal → Stack → Read → Scope → ℕ → List Terminal → Type 0
  ReadAt token s n scope at ts =
      (scope0 : Scope) × (at0 : ℕ) × (us : List Terminal) × (b : Below s scope0 at0 us) × (r : ReadAs n scope at ts us scope0 at0) × Formed (at_token (class_of s) token) scope0 at0 n.tree

  abbrev pub ValidAt : List Terminal → Stack → Scope → ℕ → Option Read → Type 0
  ValidAt ts s scope at None = Stands s scope at ts
  ValidAt ts s scope at (Some n) = ReadOk s n scope at ts

  abbrev pub Keeps : List Terminal → Option State → Type 0
  Keeps ts None = ⊤
  Keeps ts (Some st) = ValidAt ts st.stack st.scope st.at st.last

  -- a node that is whole

  whole-by : (x : Kind) (from : ℕ) (parts : Trees) (tl : Told) (d : Class) (scope0 : Scope) (us : List Terminal) (scope : Scope) (at : ℕ) (ts : List Terminal) →
      Fills d (right_side x (count parts)) scope0 from parts → through (right_side x (count parts)) parts scope0 ≡ scope → past_in (right_side x (count parts)) parts from ≡ at →
      us ++ write (right_side x (count parts)) parts ≡ ts → Tells (right_side x (count parts)) tl parts scope0 →
      ReadAs (made x from parts tl scope) (leave x scope) at ts us scope0 from
  whole-by x from parts tl d scope0 us scope at ts fl le co wr te = record {
    leads = ap (leave x) (sym le);
    comes = sym co;
    tells = tells-node x parts d tl scope0 from (innermost scope) fl te ∙ ap (λ sc. tells x parts (told_first parts scope0) (innermost sc)) (sym le);
    wrote = sym wr;
  }

  whole : (x : Kind) (from : ℕ) (parts : Trees) (tl : Told) (m : Naming) (scope0 : Scope) (us : List Terminal) (scope : Scope) (at : ℕ) (ts : List Terminal) →
      Along m (right_side x (count parts)) scope0 from parts us scope at ts → Tells (right_side x (count parts)) tl parts scope0 →
      ReadAs (made x from parts tl scope) (leave x scope) at ts us scope0 from
  whole x from parts tl m scope0 us scope at ts al te = whole-by x from parts tl (sample m) scope0 us scope at ts (al.fills (sample m) refl) al.leads al.comes al.wrote te

  whole-formed : (c : Class) (x : Kind) (from : ℕ) (parts : Trees) (m : Naming) (scope0 : Scope) (us : List Terminal) (scope : Scope) (at : ℕ) (ts : List Terminal) (token : Terminal) → naming_of c ≡ m →
      Along m (right_side x (count parts)) scope0 from parts us scope at ts → Accepts c (sort x) → Suits (at_token c token) scope0 x (count parts) → Asks scope0 x (count parts) →
      Formed (at_token c token) scope0 from (node x from parts)
  whole-formed c x from parts m scope0 us scope at ts token e al a u g = (refl, at-accepts c token (sort x) a, u, g, al.fills (at_token c token) (naming-same c token ∙ e))

  -- another token, or another head at the same symbols

  shifted : (f : Frame) (s : Stack) (h : Head) (token : Terminal) (scope0 : Scope) (us : List Terminal) (scope : Scope) (at : ℕ) (ts : List Terminal) → Below s scope0 f.from us → InFrame s f scope0 us scope at ts →
      so_far h (count f.parts) ≡ so_far f.head (count f.parts) ++ (Write token ∷ []) → Open (class_of s) scope0 h (count f.parts) → Stands (moved f h ∷ s) scope (suc at) (ts ++ (token ∷ []))
  shifted f s h token scope0 us scope at ts b fr e o =
      let xs : List Symbol = so_far f.head (count f.parts) in
      let m : Naming = naming_of (class_of s) in (
        scope0,
        us,
        b,
        record {
          opened = o;
          along = along-same m (xs ++ (Write token ∷ [])) (so_far h (count f.parts)) scope0 f.from f.parts us scope (suc at) (ts ++ (token ∷ [])) e (along-write m xs scope0 f.from f.parts us scope at ts token fr.along);
          tells = subst (λ ys. Tells ys f.told f.parts scope0) (sym e) (tells-write token xs f.told f.parts scope0 fr.tells);
          last = λ q. absurd (false≢true (sym (ends-with xs (Write token)) ∙ ap ends_declares (sym e) ∙ q));
        },
      )

  same-symbols : (f : Frame) (s : Stack) (h : Head) (scope0 : Scope) (us : List Terminal) (scope : Scope) (at : ℕ) (ts : List Terminal) → InFrame s f scope0 us scope at ts →
      so_far h (count f.parts) ≡ so_far f.head (count f.parts) → Open (class_of s) scope0 h (count f.parts) → InFrame s (moved f h) scope0 us scope at ts
  same-symbols f s h scope0 us scope at ts fr e o = record {
    opened = o;
    along = along-same (naming_of (class_of s)) (so_far f.head (count f.parts)) (so_far h (count f.parts)) scope0 f.from f.parts us scope at ts e fr.along;
    tells = subst (λ ys. Tells ys f.told f.parts scope0) (sym e) fr.tells;
    last = λ q. fr.last (ap ends_declares (sym e) ∙ q) ∙ ap (λ ys. last_told nothing ys f.parts scope0) (sym e);
  }

  -- a node that is new

  nothing-yet : (m : Naming) (scope : Scope) (at : ℕ) (ts : List Terminal) → Along m [] scope at none ts scope at ts
  nothing-yet m scope at ts = record { fills = λ d e. tt; leads = refl; comes = refl; wrote = append-nil ts }

  begun : (s : Stack) (h : Head) (token : Terminal) (scope : Scope) (at : ℕ) (ts : List Terminal) → Below s scope at ts → so_far h 0 ≡ Write token ∷ [] → Open (class_of s) scope h 0 →
      Stands (fresh h at ∷ s) scope (suc at) (ts ++ (token ∷ []))
  begun s h token scope at ts b e o =
      let m : Naming = naming_of (class_of s) in (
        scope,
        ts,
        b,
        record {
          opened = o;
          along = along-same m (Write token ∷ []) (so_far h 0) scope at none ts scope (suc at) (ts ++ (token ∷ [])) e (along-write m [] scope at none ts scope at ts token (nothing-yet m scope at ts));
          tells = subst (λ ys. Tells ys nothing none scope) (sym e) tt;
          last = λ q. absurd (false≢true (ap ends_declares (sym e) ∙ q));
        },
      )

  block-begun : (s : Stack) (scope : Scope) (at : ℕ) (ts : List Terminal) → Below s scope at ts → Accepts (class_of s) Block → Stands (fresh head.BlockItems at ∷ s) ([] ∷ scope) (suc at) (ts ++ (t.Mark mark.OpenBrace ∷ []))
  block-begun s scope at ts b o =
      let m : Naming = naming_of (class_of s) in (
        scope,
        ts,
        b,
        record {
          opened = o;
          along = along-enter m (sign mark.OpenBrace ∷ []) scope at none ts scope (suc at) (ts ++ (t.Mark mark.OpenBrace ∷ [])) (along-write m [] scope at none ts scope at ts (t.Mark mark.OpenBrace) (nothing-yet m scope at ts));
          tells = tt;
          last = λ q. absurd (false≢true q);
        },
      )

  leaf-read : (s : Stack) (x : Kind) (token : Terminal) (scope : Scope) (at : ℕ) (ts : List Terminal) → Below s scope at ts → right_side x 0 ≡ Write token ∷ [] → Closed (class_of s) scope x 0 → leave x scope ≡ scope →
      ((lv : Level) → tells x none nothing lv ≡ tells x none nothing []) → ReadOk s (leaf x at) scope (suc at) (ts ++ (token ∷ []))
  leaf-read s x token scope at ts b e k v w =
      let m : Naming = naming_of (class_of s) in
      let al = along-same m (Write token ∷ []) (right_side x 0) scope at none ts scope (suc at) (ts ++ (token ∷ [])) e (along-write m [] scope at none ts scope at ts token (nothing-yet m scope at ts)) in (
        scope,
        at,
        ts,
        b,
        record {
          leads = sym v ∙ ap (leave x) (sym al.leads);
          comes = sym al.comes;
          tells = sym (w (innermost (through (right_side x 0) none scope)));
          wrote = sym al.wrote;
        },
        λ u. whole-formed (class_of s) x at none m scope ts scope (suc at) (ts ++ (token ∷ [])) u refl al k.0 (k.1 u) k.2,
      )

  inside-keeps : (s : Stack) (scope : Scope) (at : ℕ) (token : Terminal) (ts : List Terminal) → Below s scope at ts → (x : Begin) → BeginOk (class_of s) scope token x → Keeps (ts ++ (token ∷ [])) (inside s scope at x)
  inside-keeps s scope at token ts b (Pushes head.BlockItems) k = subst (λ u. Stands (fresh head.BlockItems at ∷ s) ([] ∷ scope) (suc at) (ts ++ (u ∷ []))) (sym k.1) (block-begun s scope at ts b k.0)
  inside-keeps s scope at token ts b (Pushes (head.ParamsStart inner)) k = absurd k
  inside-keeps s scope at token ts b (Pushes h) k = begun s h token scope at ts b k.0 k.1
  inside-keeps s scope at token ts b (Leaf x) k = leaf-read s x token scope at ts b k.0 k.1 k.2 k.3
  inside-keeps s scope at token ts b (Under h) k = tt
  inside-keeps s scope at token ts b Nowhere k = tt

  opening-keeps : (s : Stack) (scope : Scope) (at : ℕ) (token : Terminal) (ts : List Terminal) → Below s scope at ts → (x : Begin) → BeginOk (class_of s) scope token x → Keeps (ts ++ (token ∷ [])) (opening s scope at token x)
  opening-keeps s scope at token ts b (Pushes head.BlockItems) k = subst (λ u. Stands (fresh head.BlockItems at ∷ s) ([] ∷ scope) (suc at) (ts ++ (u ∷ []))) (sym k.1) (block-begun s scope at ts b k.0)
  opening-keeps s scope at token ts b (Pushes (head.ParamsStart inner)) k = absurd k
  opening-keeps s scope at token ts b (Pushes h) k = begun s h token scope at ts b k.0 k.1
  opening-keeps s scope at token ts b (Leaf x) k = leaf-read s x token scope at ts b k.0 k.1 k.2 k.3
  opening-keeps s scope at token ts b (Under h) k =
      let m : Naming = naming_of (class_of s) in
      inside-keeps (fresh h at ∷ s) scope at token ts (
        k.2,
        scope,
        ts,
        b,
        record {
          opened = k.1;
          along = along-same m [] (so_far h 0) scope at none ts scope at ts k.0 (nothing-yet m scope at ts);
          tells = subst (λ ys. Tells ys nothing none scope) (sym k.0) tt;
          last = λ q. absurd (false≢true (ap ends_declares (sym k.0) ∙ q));
        },
      )
      (begin scope (wanted h) token) (begins-ok (wanted h) scope token (to-low (wanted h) (wanted-low h)))
  opening-keeps s scope at token ts b Nowhere k = tt

  -- a move

  along-function : (s : Stack) (f : Frame) (p : Context) (words : List SpecWord) (scope0 : Scope) (us : List Terminal) (scope : Scope) (at : ℕ) (ts : List Terminal) → InFrame s f scope0 us scope at ts →
      so_far f.head (count f.parts) ≡ so_far (head.Declared p words []) (count f.parts) →
      Along (naming_of (class_of s)) (spec_symbols words ++ (declarator_of naming.Named (Begins (is_typedef words)) ∷ [])) scope0 f.from f.parts us (f.told.level ∷ scope) at ts
  along-function s f p words scope0 us scope at ts fr e =
      let m : Naming = naming_of (class_of s) in
      let xs : List Symbol = spec_symbols words in
      let d : Symbol = declarator_of naming.Named (Declares (is_typedef words)) in
      let tl : f.told ≡ last_told nothing (xs ++ (d ∷ [])) f.parts scope0 =
      fr.last (ap ends_declares e ∙ ends-with xs d) ∙ ap (λ ys. last_told nothing ys f.parts scope0) e in
      subst (λ l. Along m (xs ++ (declarator_of naming.Named (Begins (is_typedef words)) ∷ [])) scope0 f.from f.parts us (l ∷ scope) at ts) (sym (ap (λ y. y.level) tl))
      (along-begins m xs scope0 f.from f.parts us scope at ts (Of (class.Declarator naming.Named 15)) (is_typedef words)
      (along-same m (so_far f.head (count f.parts)) (xs ++ (d ∷ [])) scope0 f.from f.parts us scope at ts (sym e) fr.along))

  -- behind a comma the first parameter doesn't stand alone

  params-comma : (f : Frame) (s : Stack) (inner : Bool) (scope0 : Scope) (us : List Terminal) (scope : Scope) (at : ℕ) (ts : List Terminal) → Below s scope0 f.from us → InFrame s f scope0 us scope at ts →
      so_far f.head (count f.parts) ≡ so_far (head.ParamsNext inner) (count f.parts) → Open (class_of s) scope0 (head.ParamsMore inner) (count f.parts) →
      Stands (moved f (head.ParamsMore inner) ∷ s) scope (suc at) (ts ++ (t.Mark mark.Comma ∷ []))
  params-comma f s inner scope0 us scope at ts b fr e o =
      let m : Naming = naming_of (class_of s) in
      let k : ℕ = count f.parts in
      let ys : List Symbol = param_front inner (listed (behind inner k) (part class.Param)) in
      let al = along-write m ys scope0 f.from f.parts us scope at ts (t.Mark mark.Comma)
      (along-param inner (behind inner k) m scope0 f.from f.parts us scope at ts (along-same m (so_far f.head k) (so_far (head.ParamsNext inner) k) scope0 f.from f.parts us scope at ts (sym e) fr.along)) in (
        scope0,
        us,
        b,
        record {
          opened = o;
          along = along-same m (ys ++ (sign mark.Comma ∷ [])) (so_far (head.ParamsMore inner) k) scope0 f.from f.parts us scope (suc at) (ts ++ (t.Mark mark.Comma ∷ [])) (front-more inner (listed (behind inner k) (part class.Param)) (sign mark.Comma)) al;
          tells = tells-params inner (behind inner k) (listed (behind inner k) (part class.Param) ++ (sign mark.Comma ∷ [])) f.told f.parts scope0 (tells-listed (behind inner k))
              (subst (λ zs. Tells zs f.told f.parts scope0) e fr.tells);
          last = λ q. absurd (false≢true (sym (ap ends_declares (front-more inner (listed (behind inner k) (part class.Param)) (sign mark.Comma)) ∙ ends-with ys (sign mark.Comma)) ∙ q));
        },
      )

  resolve-keeps : (f : Frame) (s : Stack) (scope : Scope) (at : ℕ) (token : Terminal) (next : Read → Scope → Option State) (scope0 : Scope) (us ts : List Terminal) →
      Below s scope0 f.from us → InFrame s f scope0 us scope at ts → (m : Move) → MoveOk (class_of s) scope0 (so_far f.head (count f.parts)) (count f.parts) token m →
      ((n : Read) (sc : Scope) → ReadAt token s n sc at ts → Keeps (ts ++ (token ∷ [])) (next n sc)) → Keeps (ts ++ (token ∷ [])) (resolve f s scope at token next m)
  resolve-keeps f s scope at token next scope0 us ts b fr Refused k g = tt
  resolve-keeps f s scope at token next scope0 us ts b fr (Shift (head.HeadOver words)) k g =
      let m : Naming = naming_of (class_of s) in
      let xs : List Symbol = spec_symbols words in
      let d : Symbol = declarator_of naming.Named (Begins (is_typedef words)) in
      subst (λ u. Stands (moved f (head.HeadOver words) ∷ s) (f.told.level ∷ scope) (suc at) (ts ++ (u ∷ []))) (sym k.2) (
        scope0,
        us,
        b,
        record {
          opened = k.1;
          along = along-same m ((xs ++ (d ∷ [])) ++ (sign mark.OpenBrace ∷ [])) (so_far (head.HeadOver words) (count f.parts)) scope0 f.from f.parts us (f.told.level ∷ scope) (suc at) (ts ++ (t.Mark mark.OpenBrace ∷ []))
              (sym (append_assoc xs (d ∷ []) (sign mark.OpenBrace ∷ [])))
              (along-write m (xs ++ (d ∷ [])) scope0 f.from f.parts us (f.told.level ∷ scope) at ts (t.Mark mark.OpenBrace) (along-function s f context.Head words scope0 us scope at ts fr k.0));
          tells = untold-spec words (d ∷ sign mark.OpenBrace ∷ []) (λ tl ps sc. tt) f.told f.parts scope0;
          last = λ q. absurd (false≢true (sym (ap ends_declares (sym (append_assoc xs (d ∷ []) (sign mark.OpenBrace ∷ []))) ∙ ends-with (xs ++ (d ∷ [])) (sign mark.OpenBrace)) ∙ q));
        },
      )
  resolve-keeps f s scope at token next scope0 us ts b fr (Shift (head.ParamsMore inner)) (inl e, o) g = shifted f s (head.ParamsMore inner) token scope0 us scope at ts b fr e o
  resolve-keeps f s scope at token next scope0 us ts b fr (Shift (head.ParamsMore inner)) (inr e, o) g =
      subst (λ u. Stands (moved f (head.ParamsMore inner) ∷ s) scope (suc at) (ts ++ (u ∷ []))) (sym e.1) (params-comma f s inner scope0 us scope at ts b fr e.0 o)
  resolve-keeps f s scope at token next scope0 us ts b fr (Shift (head.FunctionBody words)) k g = absurd k
  resolve-keeps f s scope at token next scope0 us ts b fr (Shift h) k g = shifted f s h token scope0 us scope at ts b fr k.0 k.1
  resolve-keeps f s scope at token next scope0 us ts b fr (Ends x) k g =
      let m : Naming = naming_of (class_of s) in
      let xs : List Symbol = so_far f.head (count f.parts) in
      let al = along-same m (xs ++ (Write token ∷ [])) (right_side x (count f.parts)) scope0 f.from f.parts us scope (suc at) (ts ++ (token ∷ [])) k.0 (along-write m xs scope0 f.from f.parts us scope at ts token fr.along) in
      let te = subst (λ ys. Tells ys f.told f.parts scope0) (sym k.0) (tells-write token xs f.told f.parts scope0 fr.tells) in (
        scope0,
        f.from,
        us,
        b,
        whole x f.from f.parts f.told m scope0 us scope (suc at) (ts ++ (token ∷ [])) al te,
        λ u. whole-formed (class_of s) x f.from f.parts m scope0 us scope (suc at) (ts ++ (token ∷ [])) u refl al k.1.0 (k.1.1 u) k.1.2,
      )
  resolve-keeps f s scope at token next scope0 us ts b fr (Opens (head.FunctionBody words)) k g =
      let xs : List Symbol = spec_symbols words in
      let d : Symbol = declarator_of naming.Named (Begins (is_typedef words)) in
      opening-keeps (moved f (head.FunctionBody words) ∷ s) (f.told.level ∷ scope) at token ts (
        refl,
        scope0,
        us,
        b,
        record {
          opened = k.1;
          along = along-function s f context.File words scope0 us scope at ts fr k.0;
          tells = untold-spec words (d ∷ []) (λ tl ps sc. tt) f.told f.parts scope0;
          last = λ q. absurd (false≢true (sym (ends-with xs d) ∙ q));
        },
      )
      (begin (f.told.level ∷ scope) class.Body token) (begins-ok class.Body (f.told.level ∷ scope) token tt)
  resolve-keeps f s scope at token next scope0 us ts b fr (Opens (head.HeadOver words)) k g = absurd k
  resolve-keeps f s scope at token next scope0 us ts b fr (Opens h) k g =
      opening-keeps (moved f h ∷ s) scope at token ts (k.2, scope0, us, b, same-symbols f s h scope0 us scope at ts fr k.0 k.1)
      (begin scope (wanted h) token) (begins-ok (wanted h) scope token (to-low (wanted h) (wanted-low h)))
  resolve-keeps f s scope at token next scope0 us ts b fr (Over x) k g =
      let m : Naming = naming_of (class_of s) in
      let al = along-same m (so_far f.head (count f.parts)) (right_side x (count f.parts)) scope0 f.from f.parts us scope at ts k.0 fr.along in
      g (made x f.from f.parts f.told scope) (leave x scope) (
        scope0,
        f.from,
        us,
        b,
        whole x f.from f.parts f.told m scope0 us scope at ts al (subst (λ ys. Tells ys f.told f.parts scope0) (sym k.0) fr.tells),
        whole-formed (class_of s) x f.from f.parts m scope0 us scope at ts token refl al k.1.0 (k.1.1 token) k.1.2,
      )

  -- a part

  moved-along : (m : Naming) (symbols : List Symbol) (scope0 : Scope) (from : ℕ) (ps : Trees) (us : List Terminal) (r : Role) (n : Read) (scope1 : Scope) (at1 : ℕ) (us1 : List Terminal) (scope : Scope) (at : ℕ) (ts : List Terminal) →
      ReadAs n scope at ts us1 scope1 at1 → Along m symbols scope0 from ps us (add r (told n.tree scope1) (after n.tree scope1)) (past n.tree at1) (us1 ++ tokens n.tree) → Along m symbols scope0 from ps us (add r n.told scope) at ts
  moved-along m symbols scope0 from ps us r n scope1 at1 us1 scope at ts ra a = record {
    fills = a.fills;
    leads = a.leads ∙ ap (λ y. add r y (after n.tree scope1)) (sym ra.tells) ∙ ap (λ sc. add r n.told sc) (sym ra.leads);
    comes = a.comes ∙ sym ra.comes;
    wrote = a.wrote ∙ sym ra.wrote;
  }

  role-retold : (h : Head) (slot : Slot) → ends_declares (Part slot (role h) ∷ []) ≡ true → is_retold h ≡ true
  role-retold (head.Declarators p words done) slot q = refl
  role-retold (head.ParamOf words) slot q = refl
  role-retold _ slot q = absurd (false≢true q)

  part-frame : (f : Frame) (s : Stack) (h : Head) (n : Read) (slot : Slot) (token : Terminal) (scope0 : Scope) (us : List Terminal) (scope1 : Scope) (at1 : ℕ) (us1 : List Terminal) (scope : Scope) (at : ℕ) (ts : List Terminal) →
      InFrame s f scope0 us scope1 at1 us1 → ReadAs n scope at ts us1 scope1 at1 → ((d : Class) → naming_of d ≡ naming_of (class_of s) → Formed (slot_class d slot) scope1 at1 n.tree) →
      so_far h (suc (count f.parts)) ≡ so_far f.head (count f.parts) ++ (Part slot (role f.head) ∷ []) → Open (class_of s) scope0 h (suc (count f.parts)) → (is_step slot ≡ true → is_retold f.head ≡ true) →
      InFrame s (record { head = h; from = f.from; parts = push f.parts n.tree; told = retold f.head f.told n.told }) scope0 us (add (role f.head) n.told scope) at ts
  part-frame f s h n slot token scope0 us scope1 at1 us1 scope at ts fr ra fm e o st =
      let m : Naming = naming_of (class_of s) in
      let xs : List Symbol = so_far f.head (count f.parts) in
      let z : Symbol = Part slot (role f.head) in
      let c : count (push f.parts n.tree) ≡ suc (count f.parts) = count-push f.parts n.tree in
      let eq : so_far h (count (push f.parts n.tree)) ≡ xs ++ (z ∷ []) = ap (so_far h) c ∙ e in
      let now : is_retold f.head ≡ true → retold f.head f.told n.told ≡ told n.tree (through xs f.parts scope0) =
      λ q. retold-now f.head f.told n.told q ∙ ra.tells ∙ ap (told n.tree) (sym fr.along.leads) in
      record {
        opened = subst (Open (class_of s) scope0 h) (sym c) o;
        along = along-same m (xs ++ (z ∷ [])) (so_far h (count (push f.parts n.tree))) scope0 f.from (push f.parts n.tree) us (add (role f.head) n.told scope) at ts eq
            (moved-along m (xs ++ (z ∷ [])) scope0 f.from (push f.parts n.tree) us (role f.head) n scope1 at1 us1 scope at ts ra
            (along-part m xs scope0 f.from f.parts us scope1 at1 us1 slot (role f.head) n.tree fr.along fm));
        tells = subst (λ ys. Tells ys (retold f.head f.told n.told) (push f.parts n.tree) scope0) (sym eq)
            (tells-part (sample m) slot (role f.head) n.tree xs (retold f.head f.told n.told) f.parts scope0 f.from (fr.along.fills (sample m) refl)
            (retold-tells f.head (count f.parts) f.told n.told f.parts scope0 fr.tells) (λ q. now (st q)));
        last = λ q. now (role-retold f.head slot (sym (ends-with xs z) ∙ ap ends_declares (sym eq) ∙ q))
            ∙ sym (last-part (sample m) nothing slot (role f.head) n.tree xs scope0 f.from f.parts (fr.along.fills (sample m) refl))
            ∙ ap (λ ys. last_told nothing ys (push f.parts n.tree) scope0) (sym eq);
      }

  -- a part that makes its node whole
  made-keeps : (f : Frame) (s : Stack) (x : Kind) (n : Read) (slot : Slot) (token : Terminal) (scope0 : Scope) (us : List Terminal) (scope1 : Scope) (at1 : ℕ) (us1 : List Terminal) (scope : Scope) (at : ℕ) (ts : List Terminal) →
      Below s scope0 f.from us → InFrame s f scope0 us scope1 at1 us1 → ReadAs n scope at ts us1 scope1 at1 → Formed (slot_class (at_token (class_of s) token) slot) scope1 at1 n.tree →
      right_side x (suc (count f.parts)) ≡ so_far f.head (count f.parts) ++ (Part slot (role f.head) ∷ []) →
      Accepts (class_of s) (sort x) × Suits (at_token (class_of s) token) scope0 x (suc (count f.parts)) × Asks scope0 x (suc (count f.parts)) → (is_step slot ≡ true → is_retold f.head ≡ true) →
      ReadAt token s (made x f.from (push f.parts n.tree) (retold f.head f.told n.told) (add (role f.head) n.told scope)) (leave x (add (role f.head) n.told scope)) at ts
  made-keeps f s x n slot token scope0 us scope1 at1 us1 scope at ts b fr ra fm e k st =
      let d : Class = at_token (class_of s) token in
      let m : Naming = naming_of (class_of s) in
      let xs : List Symbol = so_far f.head (count f.parts) in
      let z : Symbol = Part slot (role f.head) in
      let ps : Trees = push f.parts n.tree in
      let c : count ps ≡ suc (count f.parts) = count-push f.parts n.tree in
      let eq : right_side x (count ps) ≡ xs ++ (z ∷ []) = ap (right_side x) c ∙ e in
      let old : Fills d xs scope0 f.from f.parts = fr.along.fills d (naming-same (class_of s) token) in
      let fl : Fills d (xs ++ (z ∷ [])) scope0 f.from ps =
      fills-part d slot (role f.head) n.tree xs scope0 f.from f.parts old
      (subst (λ sc. Formed (slot_class d slot) sc (past_in xs f.parts f.from) n.tree) (sym fr.along.leads) (subst (λ p. Formed (slot_class d slot) scope1 p n.tree) (sym fr.along.comes) fm)) in
      let fills : Fills d (right_side x (count ps)) scope0 f.from ps = subst (λ ys. Fills d ys scope0 f.from ps) (sym eq) fl in (
        scope0,
        f.from,
        us,
        b,
        whole-by x f.from ps (retold f.head f.told n.told) d scope0 us (add (role f.head) n.told scope) at ts fills
            (ap (λ ys. through ys ps scope0) eq ∙ through-part d slot (role f.head) n.tree xs scope0 f.from f.parts old
            ∙ ap (λ sc. add (role f.head) (told n.tree sc) (after n.tree sc)) fr.along.leads ∙ ap (λ y. add (role f.head) y (after n.tree scope1)) (sym ra.tells) ∙ ap (λ sc. add (role f.head) n.told sc) (sym ra.leads))
            (ap (λ ys. past_in ys ps f.from) eq ∙ past-part d slot (role f.head) n.tree xs scope0 f.from f.parts old ∙ ap (past n.tree) fr.along.comes ∙ sym ra.comes)
            (ap (λ ys. us ++ write ys ps) eq ∙ ap (λ ws. us ++ ws) (write-part d slot (role f.head) n.tree xs scope0 f.from f.parts old) ∙ sym (append_assoc us (write xs f.parts) (tokens n.tree))
            ∙ ap (λ ws. ws ++ tokens n.tree) fr.along.wrote ∙ sym ra.wrote)
            (subst (λ ys. Tells ys (retold f.head f.told n.told) ps scope0) (sym eq)
            (tells-part d slot (role f.head) n.tree xs (retold f.head f.told n.told) f.parts scope0 f.from old (retold-tells f.head (count f.parts) f.told n.told f.parts scope0 fr.tells)
            (λ q. retold-now f.head f.told n.told (st q) ∙ ra.tells ∙ ap (told n.tree) (sym fr.along.leads)))),
        (refl, at-accepts (class_of s) token (sort x) k.0, subst (Suits d scope0 x) (sym c) k.1, subst (Asks scope0 x) (sym c) k.2, fills),
      )

  suits-open-if : (c : Class) (scope : Scope) → may_of c ≡ true → Accepts c Statement → (b : Bool) → b ≡ true → (token : Terminal) → is_no_else token ≡ b → Suits (at_token c token) scope kind.If 2
  suits-open-if class.BlockItem scope m a b e token q = tt
  suits-open-if (class.Statement true) scope m a b e token q = subst (λ y. Suits (class.Statement y) scope kind.If 2) (sym (q ∙ e)) tt
  suits-open-if (class.Statement false) scope m a b e token q = absurd (false≢true m)
  suits-open-if class.SwitchItem scope m a b e token q = tt
  suits-open-if _ scope m a b e token q = absurd a

  -- a part that is read, before a token

  attach-keeps : (f : Frame) (s : Stack) (n : Read) (scope : Scope) (at : ℕ) (token : Terminal) (next : Read → Scope → Option State) (ts : List Terminal) (scope0 : Scope) (us : List Terminal) (scope1 : Scope) (at1 : ℕ) (us1 : List Terminal) →
      Below s scope0 f.from us → InFrame s f scope0 us scope1 at1 us1 → ReadAs n scope at ts us1 scope1 at1 → Formed (at_token (wanted f.head) token) scope1 at1 n.tree →
      (x : After) → AfterOk (class_of s) scope0 (so_far f.head (count f.parts)) (count f.parts) token n.tree (wanted f.head) (role f.head) (is_retold f.head) x →
      ((m : Read) (sc : Scope) → ReadAt token s m sc at ts → Keeps (ts ++ (token ∷ [])) (next m sc)) →
      Keeps (ts ++ (token ∷ [])) (attach f s n (add (role f.head) n.told scope) at token next x)
  attach-keeps f s n scope at token next ts scope0 us scope1 at1 us1 b fr ra fm Unwanted k g = tt
  attach-keeps f s n scope at token next ts scope0 us scope1 at1 us1 b fr ra fm (Makes x) k g =
      g (made x f.from (push f.parts n.tree) (retold f.head f.told n.told) (add (role f.head) n.told scope)) (leave x (add (role f.head) n.told scope))
      (made-keeps f s x n k.0 token scope0 us scope1 at1 us1 scope at ts b fr ra (k.3 scope1 at1 fm) k.1 k.2 k.4)
  attach-keeps f s n scope at (t.Key key.Else) next ts scope0 us scope1 at1 us1 b fr ra fm (To head.IfThenEnd) k g =
      let m : Naming = naming_of (class_of s) in
      let xs : List Symbol = so_far f.head (count f.parts) in
      let z : Symbol = part (class.Statement false) in
      let fm' : Formed (class.Statement false) scope1 at1 n.tree = subst (λ w. Formed (at_token w (t.Key key.Else)) scope1 at1 n.tree) k.3 fm in
      let al = along-write m (xs ++ (z ∷ [])) scope0 f.from (push f.parts n.tree) us (add Plain n.told scope) at ts (t.Key key.Else)
      (moved-along m (xs ++ (z ∷ [])) scope0 f.from (push f.parts n.tree) us Plain n scope1 at1 us1 scope at ts ra (along-part m xs scope0 f.from f.parts us scope1 at1 us1 (Of (class.Statement false)) Plain n.tree fr.along (λ d e. fm'))) in (
        scope0,
        us,
        b,
        record {
          opened = (k.1, count-push f.parts n.tree ∙ ap suc k.2);
          along = along-same m ((xs ++ (z ∷ [])) ++ (keyword key.Else ∷ [])) (so_far head.IfElse (count (push f.parts n.tree))) scope0 f.from (push f.parts n.tree) us (add (role f.head) n.told scope) (suc at) (ts ++ (t.Key key.Else ∷ []))
              (ap (λ ys. (ys ++ (z ∷ [])) ++ (keyword key.Else ∷ [])) (sym k.0))
              (subst (λ r. Along m ((xs ++ (z ∷ [])) ++ (keyword key.Else ∷ [])) scope0 f.from (push f.parts n.tree) us (add r n.told scope) (suc at) (ts ++ (t.Key key.Else ∷ []))) (sym k.4) al);
          tells = tt;
          last = λ q. absurd (false≢true q);
        },
      )
  attach-keeps f s n scope at token next ts scope0 us scope1 at1 us1 b fr ra fm (To head.IfThenEnd) k g =
      g (made kind.If f.from (push f.parts n.tree) (retold f.head f.told n.told) (add (role f.head) n.told scope)) (add (role f.head) n.told scope)
      (made-keeps f s kind.If n Last token scope0 us scope1 at1 us1 scope at ts b fr ra
      (last-slot (class_of s) token n.tree scope1 at1 (class-fair s) k.1 (subst (λ w. Formed (at_token w token) scope1 at1 n.tree) k.3 fm))
      (ap (λ j. right_side kind.If (suc j)) k.2 ∙ ap (λ ys. ys ++ (Part Last Plain ∷ [])) (sym k.0) ∙ ap (λ r. so_far f.head (count f.parts) ++ (Part Last r ∷ [])) (sym k.4))
      (k.1, subst (λ j. Suits (at_token (class_of s) token) scope0 kind.If (suc j)) (sym k.2) (suits-open-if (class_of s) scope0 (class-fair s) k.1 true refl token refl), tt)
      (λ q. absurd (false≢true q)))
  attach-keeps f s n scope at token next ts scope0 us scope1 at1 us1 b fr ra fm (To h) k g =
      let o : Frame = record { head = h; from = f.from; parts = push f.parts n.tree; told = retold f.head f.told n.told } in
      let sc : Scope = add (role f.head) n.told scope in
      let i : InFrame s o scope0 us sc at ts = part-frame f s h n k.0 token scope0 us scope1 at1 us1 scope at ts fr ra (λ d e. k.3 d e scope1 at1 fm) k.1 k.2 k.4 in
      resolve-keeps o s sc at token next scope0 us ts b i (move sc h token) (moves-ok h (class_of s) scope0 sc (count o.parts) o.parts i.opened i.along.leads token) g

  -- an operator or a longer text

  joined-frame : (f : Frame) (s : Stack) (n : Read) (scope : Scope) (at : ℕ) (token : Terminal) (ts : List Terminal) (scope1 : Scope) (at1 : ℕ) (us1 : List Terminal) (slot : Slot) →
      ReadAs n scope at ts us1 scope1 at1 → Fit (wanted f.head) scope1 at1 n.tree slot →
      Along (naming_of (wanted f.head)) (Part slot Plain ∷ Write token ∷ []) scope1 at1 (more n.tree none) us1 scope (suc at) (ts ++ (token ∷ []))
  joined-frame f s n scope at token ts scope1 at1 us1 slot ra fit =
      let m : Naming = naming_of (wanted f.head) in
      along-write m (Part slot Plain ∷ []) scope1 at1 (more n.tree none) us1 scope at ts token
      (moved-along m (Part slot Plain ∷ []) scope1 at1 (more n.tree none) us1 Plain n scope1 at1 us1 scope at ts ra (along-part m [] scope1 at1 none us1 scope1 at1 us1 slot Plain n.tree (nothing-yet m scope1 at1 us1) fit))

  joining-keeps : (f : Frame) (s : Stack) (n : Read) (scope : Scope) (at : ℕ) (token : Terminal) (next : Option State) (ts : List Terminal) (scope1 : Scope) (at1 : ℕ) (us1 : List Terminal) →
      Below (f ∷ s) scope1 at1 us1 → ReadAs n scope at ts us1 scope1 at1 → start_of n.tree ≡ at1 → (j : Join) → JoinOk (wanted f.head) scope1 at1 n.tree token j →
      Keeps (ts ++ (token ∷ [])) next → Keeps (ts ++ (token ∷ [])) (joining f s n scope at next j)
  joining-keeps f s n scope at token next ts scope1 at1 us1 b ra st Apart k g = g
  joining-keeps f s n scope at token next ts scope1 at1 us1 b ra st (Joins head.BlockItems) k g = absurd k
  joining-keeps f s n scope at token next ts scope1 at1 us1 b ra st (Joins (head.ParamsStart false)) k g = absurd (false≢true k.0)
  joining-keeps f s n scope at token next ts scope1 at1 us1 b ra st (Joins (head.ParamsStart true)) k g =
      subst (λ u. Stands (record { head = head.ParamsStart true; from = start_of n.tree; parts = more n.tree none; told = n.told } ∷ f ∷ s) ([] ∷ scope) (suc at) (ts ++ (u ∷ []))) (sym k.1)
      (subst (λ p. Stands (record { head = head.ParamsStart true; from = p; parts = more n.tree none; told = n.told } ∷ f ∷ s) ([] ∷ scope) (suc at) (ts ++ (t.Mark mark.OpenParen ∷ []))) (sym st) (
        scope1,
        us1,
        b,
        record {
          opened = k.2;
          along = along-enter (naming_of (wanted f.head)) (Part Direct Plain ∷ sign mark.OpenParen ∷ []) scope1 at1 (more n.tree none) us1 scope (suc at) (ts ++ (t.Mark mark.OpenParen ∷ []))
              (joined-frame f s n scope at (t.Mark mark.OpenParen) ts scope1 at1 us1 Direct ra k.3);
          tells = ra.tells;
          last = λ q. absurd (false≢true q);
        },
      ))
  joining-keeps f s n scope at token next ts scope1 at1 us1 b ra st (Joins h) k g =
      subst (λ p. Stands (record { head = h; from = p; parts = more n.tree none; told = n.told } ∷ f ∷ s) scope (suc at) (ts ++ (token ∷ []))) (sym st) (
        scope1,
        us1,
        b,
        record {
          opened = k.2;
          along = along-same (naming_of (wanted f.head)) (Part k.0 Plain ∷ Write token ∷ []) (so_far h 1) scope1 at1 (more n.tree none) us1 scope (suc at) (ts ++ (token ∷ [])) k.1 (joined-frame f s n scope at token ts scope1 at1 us1 k.0 ra k.3);
          tells = subst (λ ys. Tells ys n.told (more n.tree none) scope1) (sym k.1) (step-written k.0 token n.told n.tree scope1 ra.tells);
          last = λ q. absurd (false≢true (ap ends_declares (sym k.1) ∙ q));
        },
      )
  joining-keeps f s n scope at token next ts scope1 at1 us1 b ra st (Posts x) k g =
      let m : Naming = naming_of (wanted f.head) in
      let al = along-same m (Part k.0 Plain ∷ Write token ∷ []) (right_side x 1) scope1 at1 (more n.tree none) us1 scope (suc at) (ts ++ (token ∷ [])) k.1 (joined-frame f s n scope at token ts scope1 at1 us1 k.0 ra k.3) in
      subst (λ p. ReadOk (f ∷ s) (record { tree = node x p (more n.tree none); told = nothing }) scope (suc at) (ts ++ (token ∷ []))) (sym st) (
        scope1,
        at1,
        us1,
        b,
        record {
          leads = sym (k.4 scope) ∙ ap (leave x) (sym al.leads);
          comes = sym al.comes;
          tells = sym (k.5 (more n.tree none) (told n.tree scope1) (innermost (through (right_side x 1) (more n.tree none) scope1)));
          wrote = sym al.wrote;
        },
        λ u. whole-formed (wanted f.head) x at1 (more n.tree none) m scope1 us1 scope (suc at) (ts ++ (token ∷ [])) u refl al k.2.0 (k.2.1 u) k.2.2,
      )
  joining-keeps f s n scope at token next ts scope1 at1 us1 b ra st (Lengthens x) k g =
      subst (λ p. ReadOk (f ∷ s) (record { tree = node x p none; told = nothing }) scope (suc at) (ts ++ (token ∷ []))) (sym st) (
        scope1,
        at1,
        us1,
        b,
        record {
          leads = ra.leads ∙ sym k.3;
          comes = ap suc ra.comes ∙ sym k.2;
          tells = sym k.4;
          wrote = ap (λ ws. ws ++ (token ∷ [])) ra.wrote ∙ append_assoc us1 (tokens n.tree) (token ∷ []) ∙ ap (λ ws. us1 ++ ws) (sym k.1);
        },
        k.0,
      )

  settle-keeps : (s : Stack) (n : Read) (scope : Scope) (at : ℕ) (token : Terminal) (ts : List Terminal) → ReadAt token s n scope at ts → Keeps (ts ++ (token ∷ [])) (settle s n scope at token)
  settle-keeps [] n scope at token ts h = tt
  settle-keeps (f ∷ s) n scope at token ts (scope1, at1, us1, b, ra, fm) =
      joining-keeps f s n scope at token (attach f s n (add (role f.head) n.told scope) at token (λ m sc. settle s m sc at token) (attached f.head n.tree)) ts scope1 at1 us1 b ra
      (formed-start (at_token (wanted f.head) token) n.tree scope1 at1 fm) (join (wanted f.head) n.tree token) (joins-ok (wanted f.head) scope1 at1 n.tree token (to-low (wanted f.head) (wanted-low f.head)) fm)
      (attach-keeps f s n scope at token (λ m sc. settle s m sc at token) ts b.1 b.2 scope1 at1 us1 b.3 b.4 ra fm (attached f.head n.tree)
      (attach-ok f.head (class_of s) b.1 (count f.parts) token n.tree (class-fair s) b.4.opened) (λ m sc r. settle-keeps s m sc at token ts r))

  -- what stands behind a parenthesis

  placed : (s : Stack) (scope : Scope) (a b : ℕ) (ts us : List Terminal) → a ≡ b → ts ≡ us → Stands s scope a ts → Stands s scope b us
  placed s scope a b ts us e g h = subst (λ x. Stands s scope b x) g (subst (λ x. Stands s scope x ts) e h)

  abbrev StandsIn : List Terminal → State → Type 0
  StandsIn ts st = Stands st.stack st.scope st.at ts

  opened-keeps : (f : Frame) (s : Stack) (scope : Scope) (at : ℕ) (ts : List Terminal) (l : ℕ) → f.head ≡ head.Opened l → Stands (f ∷ s) scope at ts → (b : Bool) → (b ≡ true → l ≤ 14) → Stands (moved f (choose b head.CastType head.Group) ∷ s) scope at ts
  opened-keeps f s scope at ts l e (scope0, us, b, fr) true g =
      (scope0, us, b, same-symbols f s head.CastType scope0 us scope at ts fr (ap (λ h. so_far h (count f.parts)) (sym e)) ((subst (λ h. Open (class_of s) scope0 h (count f.parts)) e fr.opened).1 (g refl)))
  opened-keeps f s scope at ts l e (scope0, us, b, fr) false g =
      (scope0, us, b, same-symbols f s head.Group scope0 us scope at ts fr (ap (λ h. so_far h (count f.parts)) (sym e)) (subst (λ h. Open (class_of s) scope0 h (count f.parts)) e fr.opened).0)

  split-keeps : (f : Frame) (s : Stack) (scope : Scope) (at : ℕ) (ts : List Terminal) (h h' : Head) (token : Terminal) → Stands (f ∷ s) scope at ts → Wants h →
      so_far f.head (count f.parts) ≡ so_far h (count f.parts) ++ (Write token ∷ []) → ((scope0 : Scope) → Open (class_of s) scope0 f.head (count f.parts) → Open (class_of s) scope0 h (count f.parts)) →
      ((scope0 : Scope) (us : List Terminal) → Tells (so_far f.head (count f.parts)) f.told f.parts scope0 → Tells (so_far h (count f.parts)) f.told f.parts scope0) →
      ends_declares (so_far h (count f.parts)) ≡ false → so_far h' 0 ≡ Write token ∷ [] → Open (wanted h) scope h' 0 → Stands (fresh h' (pred at) ∷ moved f h ∷ s) scope at ts
  split-keeps f s scope at ts h h' token (scope0, us, b, fr) w e o te nd e' o' =
      let m : Naming = naming_of (class_of s) in
      let xs : List Symbol = so_far h (count f.parts) in
      let al = along-same m (so_far f.head (count f.parts)) (xs ++ (Write token ∷ [])) scope0 f.from f.parts us scope at ts (sym e) fr.along in
      placed (fresh h' (pred at) ∷ moved f h ∷ s) scope (suc (pred at)) at ((us ++ write xs f.parts) ++ (token ∷ [])) ts
      (back-at m xs token scope0 f.from f.parts us scope at ts al) (back-wrote m xs token scope0 f.from f.parts us scope at ts al)
      (begun (moved f h ∷ s) h' token scope (pred at) (us ++ write xs f.parts) (
        w,
        scope0,
        us,
        b,
        record {
          opened = o scope0 fr.opened;
          along = along-back m xs token scope0 f.from f.parts us scope at ts al;
          tells = te scope0 us fr.tells;
          last = λ q. absurd (false≢true (sym nd ∙ q));
        },
      ) e' o')

  list-keeps : (f : Frame) (s : Stack) (scope : Scope) (at : ℕ) (ts : List Terminal) (n : Naming) → f.head ≡ head.DeclOpened n → Stands (f ∷ s) scope at ts → (b : Bool) →
      StandsIn ts (choose b (state (moved f (head.ParamsStart false) ∷ s) ([] ∷ scope) at None) (state (moved f (head.DeclGroup n) ∷ s) scope at None))
  list-keeps f s scope at ts n e (scope0, us, b, fr) true =
      let o = subst (λ h. Open (class_of s) scope0 h (count f.parts)) e fr.opened in
      let m : Naming = naming_of (class_of s) in (
        scope0,
        us,
        b,
        record {
          opened = (o.0, subst Rattle.p9_grammar.proofs.Sofar.Nameless (sym o.1) o.2, tt, o.3);
          along = along-enter m (sign mark.OpenParen ∷ []) scope0 f.from f.parts us scope at ts
              (along-same m (so_far f.head (count f.parts)) (sign mark.OpenParen ∷ []) scope0 f.from f.parts us scope at ts (ap (λ h. so_far h (count f.parts)) (sym e)) fr.along);
          tells = tt;
          last = λ q. absurd (false≢true q);
        },
      )
  list-keeps f s scope at ts n e (scope0, us, b, fr) false =
      let o = subst (λ h. Open (class_of s) scope0 h (count f.parts)) e fr.opened in
      (scope0, us, b, same-symbols f s (head.DeclGroup n) scope0 us scope at ts fr (ap (λ h. so_far h (count f.parts)) (sym e)) (o.0, o.1, o.3))

  sizeof-keeps : (f : Frame) (s : Stack) (scope : Scope) (at : ℕ) (ts : List Terminal) → f.head ≡ head.SizeofOpen → Stands (f ∷ s) scope at ts → (b : Bool) →
      Stands (choose b (moved f head.SizeofType ∷ s) (fresh head.Group (pred at) ∷ moved f head.SizeofOf ∷ s)) scope at ts
  sizeof-keeps f s scope at ts e (scope0, us, b, fr) true =
      (scope0, us, b, same-symbols f s head.SizeofType scope0 us scope at ts fr (ap (λ h. so_far h (count f.parts)) (sym e)) (subst (λ h. Open (class_of s) scope0 h (count f.parts)) e fr.opened))
  sizeof-keeps f s scope at ts e h false =
      split-keeps f s scope at ts head.SizeofOf head.Group (t.Mark mark.OpenParen) h refl (ap (λ h. so_far h (count f.parts)) e)
      (λ sc o. subst (λ h. Open (class_of s) sc h (count f.parts)) e o) (λ sc us te. tt) refl refl (omega arith)

  void-keeps : (f : Frame) (s : Stack) (scope : Scope) (at : ℕ) (ts : List Terminal) (inner : Bool) → f.head ≡ head.ParamsVoid inner → Stands (f ∷ s) scope at ts → (b : Bool) →
      Stands (choose b (f ∷ s) (fresh (head.Spec context.Param (word.Void ∷ [])) (pred at) ∷ moved f (head.ParamsStart inner) ∷ s)) scope at ts
  void-keeps f s scope at ts inner e h true = h
  void-keeps f s scope at ts true e h false =
      split-keeps f s scope at ts (head.ParamsStart true) (head.Spec context.Param (word.Void ∷ [])) (t.Key key.Void) h refl (ap (λ h. so_far h (count f.parts)) e ∙ void-symbols true (count f.parts))
      (λ sc o. subst (λ h. Open (class_of s) sc h (count f.parts)) e o)
      (λ sc us te. subst (λ ys. Tells ys f.told f.parts sc) (ap (λ h. so_far h (count f.parts)) e) te) refl refl (tt, (refl, refl, tt), refl)
  void-keeps f s scope at ts false e h false =
      split-keeps f s scope at ts (head.ParamsStart false) (head.Spec context.Param (word.Void ∷ [])) (t.Key key.Void) h refl (ap (λ h. so_far h (count f.parts)) e ∙ void-symbols false (count f.parts))
      (λ sc o. subst (λ h. Open (class_of s) sc h (count f.parts)) e o) (λ sc us te. tt) refl refl (tt, (refl, refl, tt), refl)

  type-level : (a : Bool) (l : ℕ) → (a && nat_le l 14) ≡ true → l ≤ 14
  type-level a l h = true_le l 14 (and_parts a (nat_le l 14) h).1

  decide-keeps : (f : Frame) (s : Stack) (scope : Scope) (at : ℕ) (token : Terminal) (ts : List Terminal) (h : Head) → f.head ≡ h → Stands (f ∷ s) scope at ts → StandsIn ts (decide f s scope at token h)
  decide-keeps f s scope at token ts (head.Opened l) e g = opened-keeps f s scope at ts l e g (begins_type scope token && nat_le l 14) (type-level (begins_type scope token) l)
  decide-keeps f s scope at token ts head.SizeofOpen e g = sizeof-keeps f s scope at ts e g (begins_type scope token)
  decide-keeps f s scope at token ts (head.DeclOpened n) e g = list-keeps f s scope at ts n e g (or_close_paren (begins_type scope token) token)
  decide-keeps f s scope at token ts (head.ParamsVoid inner) e g = void-keeps f s scope at ts inner e g (is_close_paren token)
  decide-keeps f s scope at token ts _ e g = g

  feed-keeps : (s : Stack) (scope : Scope) (at : ℕ) (token : Terminal) (ts : List Terminal) → Stands s scope at ts → Keeps (ts ++ (token ∷ [])) (feed s scope at token)
  feed-keeps [] scope at token ts h = tt
  feed-keeps (f ∷ s) scope at token ts (scope0, us, b, fr) =
      resolve-keeps f s scope at token (λ m sc. settle s m sc at token) scope0 us ts b fr (move scope f.head token)
      (moves-ok f.head (class_of s) scope0 scope (count f.parts) f.parts fr.opened fr.along.leads token) (λ m sc r. settle-keeps s m sc at token ts r)

  going-keeps : (s : Stack) (scope : Scope) (at : ℕ) (token : Terminal) (ts : List Terminal) → Stands s scope at ts → Keeps (ts ++ (token ∷ [])) (going s scope at token)
  going-keeps [] scope at token ts h = tt
  going-keeps (f ∷ s) scope at token ts h =
      let st : State = decide f s scope at token f.head in
      fed-keeps st token ts (decide-keeps f s scope at token ts f.head refl h) (decide-at f s scope at token f.head)
    where
      fed-keeps : (st : State) (token : Terminal) (ts : List Terminal) → StandsIn ts st → ⊤ → Keeps (ts ++ (token ∷ [])) (fed st token)
      fed-keeps st token ts g x = feed-keeps st.stack st.scope st.at token ts g

      decide-at : (f : Frame) (s : Stack) (scope : Scope) (at : ℕ) (token : Terminal) (h : Head) → ⊤
      decide-at f s scope at token h = tt

  read-now : (s : Stack) (n : Read) (scope : Scope) (at : ℕ) (token : Terminal) (ts : List Terminal) → ReadOk s n scope at ts → ReadAt token s n scope at ts
  read-now s n scope at token ts (scope0, at0, us, b, r, f) = (scope0, at0, us, b, r, f token)

  stepped-keeps : (s : Stack) (scope : Scope) (at : ℕ) (last : Option Read) (token : Terminal) (ts : List Terminal) → ValidAt ts s scope at last → Keeps (ts ++ (token ∷ [])) (stepped s scope at last token)
  stepped-keeps s scope at None token ts h = going-keeps s scope at token ts h
  stepped-keeps s scope at (Some n) token ts h = settle-keeps s n scope at token ts (read-now s n scope at token ts h)

  step-keeps : (st : State) (token : Terminal) (ts : List Terminal) → Keeps ts (Some st) → Keeps (ts ++ (token ∷ [])) (step st token)
  unfolding step
  step-keeps st token ts h = stepped-keeps st.stack st.scope st.at st.last token ts h

  pub run-keeps : (xs ts : List Terminal) (r : Option State) → Keeps ts r → Keeps (ts ++ xs) (run r xs)
  run-keeps [] ts r h = subst (λ us. Keeps us r) (sym (append-nil ts)) h
  run-keeps (x ∷ xs) ts None h = tt
  run-keeps (x ∷ xs) ts (Some st) h = subst (λ us. Keeps us (run (step st x) xs)) (append_assoc ts (x ∷ []) xs) (run-keeps xs (ts ++ (x ∷ [])) (step st x) (step-keeps st x ts h))

-- A file that is read to its end is well formed, and its tokens are those that were read.

file-begins : Keeps file_scope 0 [] (Some file_start)
file-begins = (
  file_scope,
  [],
  (refl, refl, refl),
  record {
    opened = tt;
    along = record { fills = λ d e. tt; leads = refl; comes = refl; wrote = refl };
    tells = tt;
    last = λ q. absurd (false≢true q);
  },
)

file-ends : (items : Trees) (tl : Told) (ts : List Terminal) (s : Stack) (scope : Scope) (at : ℕ) (last : Option Read) → s ≡ record { head = head.FileOver; from = 0; parts = items; told = tl } ∷ [] →
    ValidAt file_scope 0 ts s scope at last → IsFile items × (file_tokens items ≡ ts)
file-ends items tl ts s scope at None e h = end-none (subst (λ x. Stands file_scope 0 x scope at ts) e h)
  where
    end-none : Stands file_scope 0 (record { head = head.FileOver; from = 0; parts = items; told = tl } ∷ []) scope at ts → IsFile items × (file_tokens items ≡ ts)
    end-none (scope0, us, b, fr) = (
      subst (λ sc. Fills class.Body (file_symbols (count items)) sc 0 items) b.0 (fr.along.fills class.Body refl),
      ap (λ ws. ws ++ file_tokens items) (sym b.2) ∙ fr.along.wrote,
    )
file-ends items tl ts s scope at (Some n) e h = absurd (end-some (subst (λ x. ReadOk file_scope 0 x n scope at ts) e h))
  where
    end-some : ReadOk file_scope 0 (record { head = head.FileOver; from = 0; parts = items; told = tl } ∷ []) n scope at ts → ⊥
    end-some (scope0, at0, us, b, r, f) = false≢true b.0

read-is-file : (items : Trees) (ts : List Terminal) (r : Option State) → IsRead items r → Keeps file_scope 0 ts r → IsFile items × (file_tokens items ≡ ts)
read-is-file items ts None h k = absurd h
read-is-file items ts (Some st) h k = file-ends items h.0 ts st.stack st.scope st.at st.last h.1 k

pub reads-only-files : ReadsOnlyFiles
reads-only-files items ts h = read-is-file items ts (run (Some file_start) ts) h (run-keeps file_scope 0 ts [] (Some file_start) file-begins)
