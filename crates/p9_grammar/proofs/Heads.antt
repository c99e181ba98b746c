-- The heads of declarations are read.
use Rattle.std.proofs.Common.{◌≡◌, ℕ, zero, suc, ◌+◌, ◌-◌, ◌≤◌, ◌<◌, nat_le, Bool, true, false, ◌||◌, ◌&&◌, ◌⊎◌, inl, inr, not, List, [], ◌∷◌, ◌++◌, Option, Some, None, refl, sym, ap, subst, ◌∙◌, arith, ⊎_elim, append_assoc, append-nil, map}
use Rattle.std.specs.Prelude.{⊤}
use Rattle.std.proofs.lemmas.Bool.{false≢true, and_parts, not-true}
use Rattle.p9_lang.specs.declared.tree.CBinary.{CBinary}
use Rattle.p9_lang.specs.declared.tree.CBinary.TheVariants as operator
use Rattle.p9_lang.specs.declared.tree.CUnary.{CUnary}
use Rattle.p9_lang.specs.declared.tree.CUnary.TheVariants as unary
use Rattle.p9_lang.specs.declared.tree.EntryBy.{EntryBy}
use Rattle.p9_lang.specs.declared.tree.EntryBy.TheVariants as by
use Rattle.p9_lang.specs.declared.tree.SpecWord.{SpecWord}
use Rattle.p9_lang.specs.declared.tree.SpecWord.TheVariants as word
use Rattle.p9_lang.specs.declared.tree.Kind.{Kind}
use Rattle.p9_lang.specs.declared.tree.Kind.TheVariants as kind
use Rattle.p9_grammar.specs.declared.terminal.Keyword.{Keyword}
use Rattle.p9_grammar.specs.declared.terminal.Keyword.TheVariants as key
use Rattle.p9_grammar.specs.declared.terminal.Punctuator.{Punctuator}
use Rattle.p9_grammar.specs.declared.terminal.Punctuator.TheVariants as mark
use Rattle.p9_grammar.specs.declared.terminal.Terminal.{Terminal}
use Rattle.p9_grammar.specs.declared.terminal.Terminal.TheVariants as t
use Rattle.p9_grammar.specs.declared.head.Context.{Context}
use Rattle.p9_grammar.specs.declared.head.Context.TheVariants as context
use Rattle.p9_grammar.specs.declared.head.Naming.{Naming}
use Rattle.p9_grammar.specs.declared.head.Naming.TheVariants as naming
use Rattle.p9_grammar.specs.declared.head.Class.{Class}
use Rattle.p9_grammar.specs.declared.head.Class.TheVariants as class
use Rattle.p9_grammar.specs.declared.head.Head.{Head}
use Rattle.p9_grammar.specs.declared.head.Head.TheVariants as head
use Rattle.p9_grammar.specs.Trees.{Tree, node, Trees, none, more, count, push}
use Rattle.p9_grammar.specs.Symbols.{Symbol, Write, Part, Enter, Slot, Of, Last, Pointed, Direct, Grouped, Role, Plain, Declares, Begins, part, sign, keyword, right_side, binds, binary_sign, unary_sign, assignment_sign, step_sign, dot_sign, expression, assignment, conditional, operand, later, listed, many, optional, at_most_one, branches, texts, spec_symbols, word_symbols, spec_parts, is_typedef, declarator, declarator_of, declarators, later_declarators, initialiser, qualifier, inner_declarator, parameters, parameter_list, behind, entry_place, named, in_braces, tag_key}
use Rattle.p9_grammar.specs.Scopes.{Scope, Level, is_type, after, told, told_first, through, add, leave, tells, nothing, Told, innermost, outer}
use Rattle.p9_grammar.specs.Grammar.{Sort, sort, Accepts, Suits, Asks, Formed, Fills, slot_class, naming_of, may_of, past, past_in, is_assignable, SpecFrom, IsSpec, may_follow, has_type, is_known, is_void_word, pointed, grouped}
use Rattle.p9_grammar.specs.Machine.{Frame, Read, Stack, State, state, to, fresh, moved, made, leaf, start_of, step, run, begin, begin_by, begin_spec, begin_expression, begin_declarator, begin_statement, begin_switch_item, begin_initialiser, only_if, or_else, Begin, Pushes, Leaf, Under, Nowhere, Move, Shift, Ends, Opens, Over, Refused, After, To, Makes, Unwanted, Join, Joins, Posts, Lengthens, Apart, opening, inside, resolve, attach, attached, joining, join, join_at, join_if, join_expression, join_declarator, settle, going, feed, decide, choose, wanted, role, retold, enters, opens, Infix, Binds, No, binding, binary, assigns, level_of, direct_of, move, spec_move, begins_type, allows_storage, spec, shift_if, ends_spec, paren_or, brace_or, semicolon_or, bracket_or}
use Rattle.p9_grammar.proofs.Spelling.{spell, spells}
use Rattle.p9_grammar.proofs.Reading.{opened, read, Meets, calm, calm_at, quiet, is_no_else, ends_param, ends_type, ends_constant, follows, Reads, Each, ReadsNode, opens-up}
use Rattle.p9_grammar.proofs.Calm.{le_true, le_false, true_le, low, low-calm, low-apart, Edge, calm-low, quiet-apart, quiet-less}
use Rattle.p9_grammar.proofs.First.{First, starts, starts_expression, starts_declarator, starts_statement, starts_switch_item, starts_initialiser, starts_entry, starts_spec, first-expression, first-declarator, first-spec, word_token, word_head, moves-word, first_of_word, first-along}
use Rattle.p9_grammar.specs.Machine.{is_begun, only_if, begin_entry, begin_body, begin_constant, fed, else_move, stepped}
use Rattle.p9_grammar.specs.Grammar.{Expression, Declarator, Braced, Entry, Param, TypeName, Member, Constant, Declaration, Function, Block, Statement, Label}
use Rattle.p9_grammar.proofs.Expressions.{append, append-push, append-none, formed-start, formed-level, reads-leaf, reads-push, reads-join, reads-apart, opens-first, no-type, first-type, join-tight, calm-left}
use Rattle.std.specs.List.{list_any}
use Rattle.p9_grammar.specs.Grammar.{share, names_type, clashes, excludes, Share, Nothing, Storage, Whole, Sign, Char, Int, Size, is_positive, is_named}
use Rattle.p9_grammar.specs.Symbols.{qualifier}
use Rattle.p9_grammar.specs.Machine.{tag_move, enum_move, tag_start, enum_start, members_move, constants_next, behind_type}

-- The names of types among the words

pub has_type-before : (before : List SpecWord) (w : SpecWord) → has_type (before ++ w ∷ []) ≡ false → has_type before ≡ false
has_type-before [] w h = refl
has_type-before (v ∷ vs) w h = or_false (names_type (share v)) (has_type vs) (has_type (vs ++ w ∷ [])) (has_type-before vs w) h
  where
    or_false : (a b d : Bool) → (d ≡ false → b ≡ false) → (a || d) ≡ false → (a || b) ≡ false
    or_false true b d g h = h
    or_false false b d g h = g h

pub has_type-behind : (before : List SpecWord) (w : SpecWord) → names_type (share w) ≡ true → has_type (before ++ w ∷ []) ≡ true
has_type-behind [] w h = ap (λ b. b || false) h
has_type-behind (v ∷ vs) w h = or_true (names_type (share v)) (has_type (vs ++ w ∷ [])) (has_type-behind vs w h)
  where
    or_true : (a b : Bool) → b ≡ true → (a || b) ≡ true
    or_true true b h = refl
    or_true false b h = h

whole-excludes : (x : Share) → excludes Whole x ≡ names_type x
whole-excludes Nothing = refl
whole-excludes Storage = refl
whole-excludes Whole = refl
whole-excludes Sign = refl
whole-excludes Char = refl
whole-excludes Int = refl
whole-excludes Size = refl

name-clashes : (x : List ℕ) (words : List SpecWord) → list_any (clashes (word.TypeName x)) words ≡ has_type words
name-clashes x [] = refl
name-clashes x (w ∷ ws) =
    ap (λ b. b || list_any (clashes (word.TypeName x)) ws) (whole-excludes (share w)) ∙ ap (λ b. names_type (share w) || b) (name-clashes x ws)

-- a name behind a type is no type
pub no-second-type : (storage : Bool) (words : List SpecWord) (x : List ℕ) → has_type words ≡ true → may_follow storage words (word.TypeName x) ≡ false
no-second-type storage words x h =
    ap (λ b. (storage || true) && not b) (name-clashes x words ∙ h) ∙ and_false (storage || true)
  where
    and_false : (b : Bool) → (b && false) ≡ false
    and_false true = refl
    and_false false = refl

first-type-word : (storage : Bool) (words : List SpecWord) (x : List ℕ) → may_follow storage words (word.TypeName x) ≡ true → has_type words ≡ false
first-type-word storage words x h = sym (name-clashes x words) ∙ not-true (list_any (clashes (word.TypeName x)) words) ((and_parts (storage || true) _ h).1)

pub spec-has-type : (storage : Bool) (scope : Scope) (before words : List SpecWord) → SpecFrom storage scope before words → has_type (before ++ words) ≡ true
spec-has-type storage scope before [] h = ap has_type (append-nil before) ∙ h
spec-has-type storage scope before (w ∷ ws) h = ap has_type (sym (append_assoc before (w ∷ []) ws)) ∙ spec-has-type storage scope (before ++ w ∷ []) ws h.2

abbrev pub no_brace : Terminal → Bool
no_brace (t.Mark mark.OpenBrace) = false
no_brace _ = true

abbrev pub anything : Terminal → Bool
anything token = true

word-no_brace : (w : SpecWord) → no_brace (word_token w) ≡ true
word-no_brace (word.Tag true x members) = refl
word-no_brace (word.Tag false x members) = refl
word-no_brace _ = refl

-- The words of a head, read one after the other. The reader stands in an open node at a head, and comes
-- through these symbols to the end.

module _ (c : Class) (f : Frame) (s : Stack) (from : ℕ) (tail : List Terminal) (result : Trees → Scope → ℕ → Option State) where
  abbrev pub stands : Head → Trees → Told → Scope → ℕ → State
  stands h acc tl scope at = state (record { head = h; from = from; parts = acc; told = tl } ∷ f ∷ s) scope at None

  abbrev pub Goes : (Scope → Type 0) → Head → List Symbol → Type 0
  Goes a h symbols =
      (scope : Scope) (at : ℕ) (ps acc : Trees) (tl : Told) → a scope → Each Reads ps → Fills c symbols scope at ps →
      run (Some (stands h acc tl scope at)) (spells symbols ps tail) ≡ result (append acc ps) (through symbols ps scope) (past_in symbols ps at)

  abbrev pub Anywhere : Scope → Type 0
  Anywhere scope = ⊤

  -- a token is taken
  pub goes-shift : (a : Scope → Type 0) (h h' : Head) (token : Terminal) (symbols : List Symbol) →
      ((scope : Scope) (at : ℕ) (acc : Trees) (tl : Told) → a scope → stepped (record { head = h; from = from; parts = acc; told = tl } ∷ f ∷ s) scope at None token ≡ Some (stands h' acc tl scope (suc at))) →
      Goes a h' symbols → Goes a h (Write token ∷ symbols)
  unfolding step
  goes-shift a h h' token symbols e g scope at ps acc tl x z q =
      ap (λ r. run r (spells symbols ps tail)) (e scope at acc tl x) ∙ g scope (suc at) ps acc tl x z q

  pub goes-along : (a : Scope → Type 0) (h : Head) (symbols symbols' : List Symbol) → symbols ≡ symbols' → Goes a h symbols → Goes a h symbols'
  goes-along a h symbols symbols' e g = subst (Goes a h) e g

  -- the same from another head that acts alike on the token that comes next
  abbrev pub Firsts : List Symbol → Type 0
  Firsts symbols = (scope : Scope) (at : ℕ) (ps : Trees) → Fills c symbols scope at ps → First no_brace (spells symbols ps tail)

  pub goes-alike : (a : Scope → Type 0) (h h' : Head) (symbols : List Symbol) → Firsts symbols →
      ((scope : Scope) (at : ℕ) (acc : Trees) (tl : Told) (token : Terminal) → no_brace token ≡ true →
      stepped (record { head = h; from = from; parts = acc; told = tl } ∷ f ∷ s) scope at None token ≡ stepped (record { head = h'; from = from; parts = acc; told = tl } ∷ f ∷ s) scope at None token) →
      Goes a h' symbols → Goes a h symbols
  unfolding step
  goes-alike a h h' symbols first e g scope at ps acc tl x z q =
      let p = first scope at ps q in
      ap (run (Some (stands h acc tl scope at))) p.2
      ∙ ap (λ r. run r p.1) (e scope at acc tl p.0 p.3)
      ∙ ap (run (Some (stands h' acc tl scope at))) (sym p.2)
      ∙ g scope at ps acc tl x z q

  firsts-words : (ws : List SpecWord) (symbols : List Symbol) → ((ps : Trees) (scope : Scope) (at : ℕ) → Fills c symbols scope at ps → First no_brace (spells symbols ps tail)) →
      Firsts (spec_symbols ws ++ symbols)
  firsts-words [] symbols g scope at ps q = g ps scope at q
  firsts-words (w ∷ ws) symbols g scope at ps q =
      let p = first_of_word w (spec_symbols ws ++ symbols) ps tail in
      (word_token w, p.0, ap (λ x. spells x ps tail) (append_assoc (word_symbols w) (spec_symbols ws) symbols) ∙ p.1, word-no_brace w)

  -- a tag or enumeration without braces

  tag-alike : (k : Context) (before : List SpecWord) (is_union : Bool) (x : List ℕ) (scope : Scope) (at : ℕ) (acc : Trees) (tl : Told) (token : Terminal) → no_brace token ≡ true →
      stepped (record { head = head.TagNamed k before is_union x; from = from; parts = acc; told = tl } ∷ f ∷ s) scope at None token
      ≡ stepped (record { head = head.Spec k (before ++ word.Tag is_union x None ∷ []); from = from; parts = acc; told = tl } ∷ f ∷ s) scope at None token
  tag-alike k before is_union x scope at acc tl (t.Mark mark.OpenBrace) h = absurd (false≢true h)
  tag-alike k before is_union x scope at acc tl _ h = refl

  enum-alike : (k : Context) (before : List SpecWord) (x : List ℕ) (scope : Scope) (at : ℕ) (acc : Trees) (tl : Told) (token : Terminal) → no_brace token ≡ true →
      stepped (record { head = head.EnumNamed k before x; from = from; parts = acc; told = tl } ∷ f ∷ s) scope at None token
      ≡ stepped (record { head = head.Spec k (before ++ word.Enum x None false ∷ []); from = from; parts = acc; told = tl } ∷ f ∷ s) scope at None token
  enum-alike k before x scope at acc tl (t.Mark mark.OpenBrace) h = absurd (false≢true h)
  enum-alike k before x scope at acc tl _ h = refl

  -- members

  member-opens : (k : Context) (before : List SpecWord) (is_union : Bool) (x : List ℕ) (n : ℕ) (scope : Scope) (token : Terminal) → starts_spec context.Member scope token ≡ true →
      members_move k before is_union x n token ≡ Opens (head.Members k before is_union x n)
  member-opens k before is_union x zero scope token h = refl
  member-opens k before is_union x (suc n) scope (t.Mark mark.CloseBrace) h = absurd (false≢true h)
  member-opens k before is_union x (suc n) scope _ h = refl

  first-member : (n : Tree) (scope : Scope) (at : ℕ) (rest : List Terminal) → Formed class.Member scope at n → First (starts_spec context.Member scope) (spell n rest)
  first-member (node (kind.Member sp) token parts) scope at rest h = first-spec context.Member scope sp.words _ parts rest h.3
  first-member (node _ token parts) scope at rest h = absurd h.1

  first-of-members : (m : ℕ) (symbols : List Symbol) (scope : Scope) (at : ℕ) (ps : Trees) → Fills c (many m class.Member ++ (sign mark.CloseBrace ∷ symbols)) scope at ps →
      First anything (spells (many m class.Member ++ (sign mark.CloseBrace ∷ symbols)) ps tail)
  first-of-members zero symbols scope at ps h = (_, _, refl, refl)
  first-of-members (suc m) symbols scope at none h = absurd h
  first-of-members (suc m) symbols scope at (more n ns) h =
      first-along (starts_spec context.Member scope) anything _ (λ u v. refl) (first-member n scope at _ h.0)

  pub members : (m n total : ℕ) (k : Context) (before : List SpecWord) (is_union : Bool) (x : List ℕ) (symbols : List Symbol) → n + m ≡ total → 1 ≤ total →
      Goes Anywhere (head.Spec k (before ++ word.Tag is_union x (Some total) ∷ [])) symbols →
      Goes Anywhere (head.Members k before is_union x n) (many m class.Member ++ (sign mark.CloseBrace ∷ symbols))
  unfolding step
  members zero zero total k before is_union x symbols e p g scope at ps acc tl y z h = absurd (omega (arith, e, p))
  members zero (suc n) total k before is_union x symbols e p g scope at ps acc tl y z h =
      goes-shift Anywhere (head.Members k before is_union x (suc n)) (head.Spec k (before ++ word.Tag is_union x (Some total) ∷ [])) (t.Mark mark.CloseBrace) symbols
      (λ scope at acc tl y. ap (λ z. Some (stands (head.Spec k (before ++ word.Tag is_union x (Some z) ∷ [])) acc tl scope (suc at))) (omega (arith, e))) g scope at ps acc tl y z h
  members (suc m) n total k before is_union x symbols e p g scope at none acc tl y z h = absurd h
  members (suc m) n total k before is_union x symbols e p g scope at (more q qs) acc tl y z h =
      let o : Frame = record { head = head.Members k before is_union x n; from = from; parts = acc; told = tl } in
      let us : List Terminal = spells (many m class.Member ++ (sign mark.CloseBrace ∷ symbols)) qs tail in
      let r = first-of-members m symbols (after q scope) (past q at) qs h.1 in
      opens-first (starts_spec context.Member scope) o (f ∷ s) o (f ∷ s) scope scope at (spell q us) (first-member q scope at us h.0)
      (λ u v. ap (λ w. resolve o (f ∷ s) scope at u (λ b sd. settle (f ∷ s) b sd at u) w) (member-opens k before is_union x n scope u v))
      ∙ ap (λ ts. opened o (f ∷ s) scope at (spell q ts)) r.2
      ∙ z.0 class.Member o (f ∷ s) scope at r.0 r.1 h.0 tt refl
      ∙ ap (run (Some (stands (head.Members k before is_union x (suc n)) (push acc q) tl (after q scope) (past q at)))) (sym r.2)
      ∙ members m (suc n) total k before is_union x symbols (omega (arith, e)) p g (after q scope) (past q at) qs (push acc q) tl tt z.1 h.1
      ∙ ap (λ ps. result ps (through (many m class.Member ++ (sign mark.CloseBrace ∷ symbols)) qs (after q scope))
      (past_in (many m class.Member ++ (sign mark.CloseBrace ∷ symbols)) qs (past q at))) (append-push acc q qs)

  -- constants of an enumeration

  abbrev constant : Symbol
  constant = part class.Constant

  abbrev enum_end : Bool → List Symbol → List Symbol
  enum_end comma symbols = optional comma (sign mark.Comma) ++ (sign mark.CloseBrace ∷ symbols)

  first-of-constants : (m : ℕ) (comma : Bool) (symbols : List Symbol) (ps : Trees) → First ends_constant (spells (later m constant ++ enum_end comma symbols) ps tail)
  first-of-constants zero false symbols ps = (_, _, refl, refl)
  first-of-constants zero true symbols ps = (_, _, refl, refl)
  first-of-constants (suc m) comma symbols ps = (_, _, refl, refl)

  first-constant : (n : Tree) (scope : Scope) (at : ℕ) (rest : List Terminal) → Formed class.Constant scope at n → First (Rattle.p9_grammar.proofs.First.starts_constant) (spell n rest)
  first-constant (node (kind.EnumConst x true) token parts) scope at rest h = (_, _, refl, refl)
  first-constant (node (kind.EnumConst x false) token parts) scope at rest h = (_, _, refl, refl)
  first-constant (node _ token parts) scope at rest h = absurd h.1

  constant-opens : (m o : Move) (token : Terminal) → Rattle.p9_grammar.proofs.First.starts_constant token ≡ true → brace_or m o token ≡ o
  constant-opens m o (t.Mark mark.CloseBrace) h = absurd (false≢true h)
  constant-opens m o _ h = refl

  constants : (m n total : ℕ) (k : Context) (before : List SpecWord) (x : List ℕ) (comma : Bool) (symbols : List Symbol) → n + m ≡ total →
      Goes Anywhere (head.Spec k (before ++ word.Enum x (Some total) comma ∷ [])) symbols →
      Goes Anywhere (head.ConstantsNext k before x n) (later m constant ++ enum_end comma symbols)
  unfolding step
  constants zero n total k before x false symbols e g scope at ps acc tl y z h =
      goes-shift Anywhere (head.ConstantsNext k before x n) (head.Spec k (before ++ word.Enum x (Some total) false ∷ [])) (t.Mark mark.CloseBrace) symbols
      (λ scope at acc tl y. ap (λ z. Some (stands (head.Spec k (before ++ word.Enum x (Some z) false ∷ [])) acc tl scope (suc at))) (omega (arith, e))) g scope at ps acc tl y z h
  constants zero n total k before x true symbols e g scope at ps acc tl y z h =
      goes-shift Anywhere (head.ConstantsComma k before x n) (head.Spec k (before ++ word.Enum x (Some total) true ∷ [])) (t.Mark mark.CloseBrace) symbols
      (λ scope at acc tl y. ap (λ z. Some (stands (head.Spec k (before ++ word.Enum x (Some z) true ∷ [])) acc tl scope (suc at))) (omega (arith, e))) g scope (suc at) ps acc tl y z h
  constants (suc m) n total k before x comma symbols e g scope at none acc tl y z h = absurd h
  constants (suc m) n total k before x comma symbols e g scope at (more q qs) acc tl y z h =
      let o : Frame = record { head = head.ConstantsComma k before x n; from = from; parts = acc; told = tl } in
      let us : List Terminal = spells (later m constant ++ enum_end comma symbols) qs tail in
      let r = first-of-constants m comma symbols qs in
      let here : ℕ = suc at in
      opens-first Rattle.p9_grammar.proofs.First.starts_constant o (f ∷ s) o (f ∷ s) scope scope here (spell q us) (first-constant q scope here us h.0)
      (λ u v. ap (λ w. resolve o (f ∷ s) scope here u (λ b sd. settle (f ∷ s) b sd here u) w)
      (constant-opens (Shift (head.Spec k (before ++ word.Enum x (Some n) true ∷ []))) (Opens (head.ConstantsComma k before x n)) u v))
      ∙ ap (λ ts. opened o (f ∷ s) scope here (spell q ts)) r.2
      ∙ z.0 class.Constant o (f ∷ s) scope here r.0 r.1 h.0 tt r.3
      ∙ ap (run (Some (stands (head.ConstantsNext k before x (suc n)) (push acc q) tl (after q scope) (past q here)))) (sym r.2)
      ∙ constants m (suc n) total k before x comma symbols (omega (arith, e)) g (after q scope) (past q here) qs (push acc q) tl tt z.1 h.1
      ∙ ap (λ ps. result ps (through (later m constant ++ enum_end comma symbols) qs (after q scope))
      (past_in (later m constant ++ enum_end comma symbols) qs (past q here))) (append-push acc q qs)

  constants-first : (m total : ℕ) (k : Context) (before : List SpecWord) (x : List ℕ) (comma : Bool) (symbols : List Symbol) → m ≡ total → 1 ≤ total →
      Goes Anywhere (head.Spec k (before ++ word.Enum x (Some total) comma ∷ [])) symbols →
      Goes Anywhere (head.Constants k before x 0) (listed m constant ++ enum_end comma symbols)
  unfolding step
  constants-first zero total k before x comma symbols e p g scope at ps acc tl y z h = absurd (omega (arith, e, p))
  constants-first (suc m) total k before x comma symbols e p g scope at none acc tl y z h = absurd h
  constants-first (suc m) total k before x comma symbols e p g scope at (more q qs) acc tl y z h =
      let o : Frame = record { head = head.Constants k before x 0; from = from; parts = acc; told = tl } in
      let us : List Terminal = spells (later m constant ++ enum_end comma symbols) qs tail in
      let r = first-of-constants m comma symbols qs in
      opens-up o (f ∷ s) scope at (λ u. refl) (spell q us)
      ∙ ap (λ ts. opened o (f ∷ s) scope at (spell q ts)) r.2
      ∙ z.0 class.Constant o (f ∷ s) scope at r.0 r.1 h.0 tt r.3
      ∙ ap (run (Some (stands (head.ConstantsNext k before x 1) (push acc q) tl (after q scope) (past q at)))) (sym r.2)
      ∙ constants m 1 total k before x comma symbols (omega (arith, e)) g (after q scope) (past q at) qs (push acc q) tl tt z.1 h.1
      ∙ ap (λ ps. result ps (through (later m constant ++ enum_end comma symbols) qs (after q scope))
      (past_in (later m constant ++ enum_end comma symbols) qs (past q at))) (append-push acc q qs)

  -- all words

  goes-from : (a b : Scope → Type 0) (h : Head) (symbols : List Symbol) → ((scope : Scope) → a scope → b scope) → Goes b h symbols → Goes a h symbols
  goes-from a b h symbols e g scope at ps acc tl x z q = g scope at ps acc tl (e scope x) z q

  -- no type has been named yet, or the names in scope don't matter
  abbrev Untouched : Scope → List SpecWord → Scope → Type 0
  Untouched scope0 before scope = has_type before ≡ false → scope ≡ scope0

  known-here : (storage : Bool) (scope0 scope : Scope) (before : List SpecWord) (w : SpecWord) → may_follow storage before w ≡ true → is_known scope0 w ≡ true → Untouched scope0 before scope → is_known scope w ≡ true
  known-here storage scope0 scope before (word.TypeName x) m h e = ap (λ sc. is_type sc x) (e (first-type-word storage before x m)) ∙ h
  known-here storage scope0 scope before (word.Enum x None comma) m h e = h
  known-here storage scope0 scope before (word.Enum x (Some n) comma) m h e = h
  known-here storage scope0 scope before _ m h e = h

  still : (scope0 : Scope) (before : List SpecWord) (w : SpecWord) (scope : Scope) → Untouched scope0 before scope → Untouched scope0 (before ++ w ∷ []) scope
  still scope0 before w scope e h = e (has_type-before before w h)

  touched : (scope0 : Scope) (before : List SpecWord) (w : SpecWord) (scope : Scope) → names_type (share w) ≡ true → Untouched scope0 (before ++ w ∷ []) scope
  touched scope0 before w scope n h = absurd (false≢true (sym h ∙ has_type-behind before w n))

  -- the word's first token
  word-shift : (k : Context) (scope0 : Scope) (before : List SpecWord) (w : SpecWord) (h : Head) (symbols : List Symbol) →
      may_follow (allows_storage k) before w ≡ true → is_known scope0 w ≡ true → word_head k before w ≡ h → ((tl : Told) (scope : Scope) → opens h tl scope ≡ scope) →
      Goes (Untouched scope0 before) h symbols → Goes (Untouched scope0 before) (head.Spec k before) (Write (word_token w) ∷ symbols)
  word-shift k scope0 before w h symbols m n e i g =
      goes-shift (Untouched scope0 before) (head.Spec k before) h (word_token w) symbols
      (λ scope at acc tl x.
      let o : Frame = record { head = head.Spec k before; from = from; parts = acc; told = tl } in
      ap (resolve o (f ∷ s) scope at (word_token w) (λ b sd. settle (f ∷ s) b sd at (word_token w)))
      (moves-word scope k before w m (known-here (allows_storage k) scope0 scope before w m n x) ∙ ap Shift e)
      ∙ ap (λ sd. Some (stands h acc tl sd (suc at))) (i tl scope)) g

  -- with its name and its braces
  tag-read : (k : Context) (scope0 : Scope) (before : List SpecWord) (is_union : Bool) (x : List ℕ) (inside : Option ℕ) (symbols : List Symbol) → Firsts symbols →
      is_known scope0 (word.Tag is_union x inside) ≡ true →
      Goes Anywhere (head.Spec k (before ++ word.Tag is_union x inside ∷ [])) symbols →
      Goes Anywhere (head.TagStart k before is_union) (named x ++ (in_braces inside (λ n. many n class.Member) ++ symbols))
  tag-read k scope0 before is_union [] None symbols first n g = absurd (false≢true n)
  tag-read k scope0 before is_union (b ∷ bs) None symbols first n g =
      goes-shift Anywhere (head.TagStart k before is_union) (head.TagNamed k before is_union (b ∷ bs)) (t.Name (b ∷ bs)) symbols (λ scope at acc tl y. refl)
      (goes-alike Anywhere (head.TagNamed k before is_union (b ∷ bs)) (head.Spec k (before ++ word.Tag is_union (b ∷ bs) None ∷ [])) symbols first
      (λ scope at acc tl token h. tag-alike k before is_union (b ∷ bs) scope at acc tl token h) g)
  tag-read k scope0 before is_union x (Some zero) symbols first n g = absurd (false≢true n)
  tag-read k scope0 before is_union [] (Some (suc m)) symbols first n g =
      goes-shift Anywhere (head.TagStart k before is_union) (head.Members k before is_union [] 0) (t.Mark mark.OpenBrace) ((many (suc m) class.Member ++ (sign mark.CloseBrace ∷ [])) ++ symbols) (λ scope at acc tl y. refl)
      (goes-along Anywhere (head.Members k before is_union [] 0) (many (suc m) class.Member ++ (sign mark.CloseBrace ∷ symbols)) _ (sym (append_assoc (many (suc m) class.Member) (sign mark.CloseBrace ∷ []) symbols))
      (members (suc m) 0 (suc m) k before is_union [] symbols (omega arith) (omega arith) g))
  tag-read k scope0 before is_union (b ∷ bs) (Some (suc m)) symbols first n g =
      goes-shift Anywhere (head.TagStart k before is_union) (head.TagNamed k before is_union (b ∷ bs)) (t.Name (b ∷ bs)) (sign mark.OpenBrace ∷ ((many (suc m) class.Member ++ (sign mark.CloseBrace ∷ [])) ++ symbols)) (λ scope at acc tl y. refl)
      (goes-shift Anywhere (head.TagNamed k before is_union (b ∷ bs)) (head.Members k before is_union (b ∷ bs) 0) (t.Mark mark.OpenBrace) ((many (suc m) class.Member ++ (sign mark.CloseBrace ∷ [])) ++ symbols) (λ scope at acc tl y. refl)
      (goes-along Anywhere (head.Members k before is_union (b ∷ bs) 0) (many (suc m) class.Member ++ (sign mark.CloseBrace ∷ symbols)) _ (sym (append_assoc (many (suc m) class.Member) (sign mark.CloseBrace ∷ []) symbols))
      (members (suc m) 0 (suc m) k before is_union (b ∷ bs) symbols (omega arith) (omega arith) g)))

  abbrev constant_list : Bool → ℕ → List Symbol
  constant_list comma n = listed n constant ++ optional comma (sign mark.Comma)

  constants-along : (comma : Bool) (m : ℕ) (symbols : List Symbol) → listed m constant ++ enum_end comma symbols ≡ (constant_list comma m ++ (sign mark.CloseBrace ∷ [])) ++ symbols
  constants-along comma m symbols =
      sym (append_assoc (constant_list comma m) (sign mark.CloseBrace ∷ []) symbols
      ∙ append_assoc (listed m constant) (optional comma (sign mark.Comma)) (sign mark.CloseBrace ∷ symbols))

  enum-read : (k : Context) (scope0 : Scope) (before : List SpecWord) (x : List ℕ) (inside : Option ℕ) (comma : Bool) (symbols : List Symbol) → Firsts symbols →
      is_known scope0 (word.Enum x inside comma) ≡ true →
      Goes Anywhere (head.Spec k (before ++ word.Enum x inside comma ∷ [])) symbols →
      Goes Anywhere (head.EnumStart k before) (named x ++ (in_braces inside (constant_list comma) ++ symbols))
  enum-read k scope0 before [] None comma symbols first n g = absurd (false≢true n)
  enum-read k scope0 before (b ∷ bs) None true symbols first n g = absurd (false≢true n)
  enum-read k scope0 before (b ∷ bs) None false symbols first n g =
      goes-shift Anywhere (head.EnumStart k before) (head.EnumNamed k before (b ∷ bs)) (t.Name (b ∷ bs)) symbols (λ scope at acc tl y. refl)
      (goes-alike Anywhere (head.EnumNamed k before (b ∷ bs)) (head.Spec k (before ++ word.Enum (b ∷ bs) None false ∷ [])) symbols first
      (λ scope at acc tl token h. enum-alike k before (b ∷ bs) scope at acc tl token h) g)
  enum-read k scope0 before x (Some zero) comma symbols first n g = absurd (false≢true n)
  enum-read k scope0 before [] (Some (suc m)) comma symbols first n g =
      goes-shift Anywhere (head.EnumStart k before) (head.Constants k before [] 0) (t.Mark mark.OpenBrace) ((constant_list comma (suc m) ++ (sign mark.CloseBrace ∷ [])) ++ symbols) (λ scope at acc tl y. refl)
      (goes-along Anywhere (head.Constants k before [] 0) (listed (suc m) constant ++ enum_end comma symbols) _ (constants-along comma (suc m) symbols)
      (constants-first (suc m) (suc m) k before [] comma symbols refl (omega arith) g))
  enum-read k scope0 before (b ∷ bs) (Some (suc m)) comma symbols first n g =
      goes-shift Anywhere (head.EnumStart k before) (head.EnumNamed k before (b ∷ bs)) (t.Name (b ∷ bs)) (sign mark.OpenBrace ∷ ((constant_list comma (suc m) ++ (sign mark.CloseBrace ∷ [])) ++ symbols)) (λ scope at acc tl y. refl)
      (goes-shift Anywhere (head.EnumNamed k before (b ∷ bs)) (head.Constants k before (b ∷ bs) 0) (t.Mark mark.OpenBrace) ((constant_list comma (suc m) ++ (sign mark.CloseBrace ∷ [])) ++ symbols) (λ scope at acc tl y. refl)
      (goes-along Anywhere (head.Constants k before (b ∷ bs) 0) (listed (suc m) constant ++ enum_end comma symbols) _ (constants-along comma (suc m) symbols)
      (constants-first (suc m) (suc m) k before (b ∷ bs) comma symbols refl (omega arith) g)))

  braces-along : (xs ys zs us : List Symbol) → xs ++ (ys ++ (zs ++ us)) ≡ ((xs ++ ys) ++ zs) ++ us
  braces-along xs ys zs us = sym (append_assoc (xs ++ ys) zs us ∙ append_assoc xs ys (zs ++ us))

  key_of_tag : (is_union : Bool) (x : List ℕ) (inside : Option ℕ) → Write (word_token (word.Tag is_union x inside)) ≡ tag_key is_union
  key_of_tag true x inside = refl
  key_of_tag false x inside = refl

  pub spec-read : (k : Context) (scope0 : Scope) (ws before words : List SpecWord) (symbols : List Symbol) → before ++ ws ≡ words → SpecFrom (allows_storage k) scope0 before ws →
      ((ps : Trees) (scope : Scope) (at : ℕ) → Fills c symbols scope at ps → First no_brace (spells symbols ps tail)) → Goes Anywhere (head.Spec k words) symbols →
      Goes (Untouched scope0 before) (head.Spec k before) (spec_symbols ws ++ symbols)
  spec-read k scope0 [] before words symbols e h first g =
      goes-from (Untouched scope0 before) Anywhere (head.Spec k before) symbols (λ sc y. tt) (subst (λ ws. Goes Anywhere (head.Spec k ws) symbols) (sym e ∙ append-nil before) g)
  spec-read k scope0 (word.Tag is_union x inside ∷ ws) before words symbols e h first g =
      let w : SpecWord = word.Tag is_union x inside in
      let rest : List Symbol = spec_symbols ws ++ symbols in
      goes-along (Untouched scope0 before) (head.Spec k before) (tag_key is_union ∷ (named x ++ (in_braces inside (λ n. many n class.Member) ++ rest))) _
      (ap (λ z. tag_key is_union ∷ z) (braces-along (named x) (in_braces inside (λ n. many n class.Member)) (spec_symbols ws) symbols))
      (subst (λ y. Goes (Untouched scope0 before) (head.Spec k before) (y ∷ (named x ++ (in_braces inside (λ n. many n class.Member) ++ rest)))) (key_of_tag is_union x inside)
      (word-shift k scope0 before w (head.TagStart k before is_union) (named x ++ (in_braces inside (λ n. many n class.Member) ++ rest)) h.0 h.1 refl (λ tl sc. refl)
      (goes-from (Untouched scope0 before) Anywhere (head.TagStart k before is_union) (named x ++ (in_braces inside (λ n. many n class.Member) ++ rest)) (λ sc y. tt)
      (tag-read k scope0 before is_union x inside rest (firsts-words ws symbols first) h.1
      (goes-from Anywhere (Untouched scope0 (before ++ w ∷ [])) (head.Spec k (before ++ w ∷ [])) rest (λ sc y. touched scope0 before w sc refl)
      (spec-read k scope0 ws (before ++ w ∷ []) words symbols (append_assoc before (w ∷ []) ws ∙ e) h.2 first g))))))
  spec-read k scope0 (word.Enum x inside comma ∷ ws) before words symbols e h first g =
      let w : SpecWord = word.Enum x inside comma in
      let rest : List Symbol = spec_symbols ws ++ symbols in
      goes-along (Untouched scope0 before) (head.Spec k before) (keyword key.Enum ∷ (named x ++ (in_braces inside (constant_list comma) ++ rest))) _
      (ap (λ z. keyword key.Enum ∷ z) (braces-along (named x) (in_braces inside (constant_list comma)) (spec_symbols ws) symbols))
      (word-shift k scope0 before w (head.EnumStart k before) (named x ++ (in_braces inside (constant_list comma) ++ rest)) h.0 h.1 refl (λ tl sc. refl)
      (goes-from (Untouched scope0 before) Anywhere (head.EnumStart k before) (named x ++ (in_braces inside (constant_list comma) ++ rest)) (λ sc y. tt)
      (enum-read k scope0 before x inside comma rest (firsts-words ws symbols first) h.1
      (goes-from Anywhere (Untouched scope0 (before ++ w ∷ [])) (head.Spec k (before ++ w ∷ [])) rest (λ sc y. touched scope0 before w sc refl)
      (spec-read k scope0 ws (before ++ w ∷ []) words symbols (append_assoc before (w ∷ []) ws ∙ e) h.2 first g)))))
  spec-read k scope0 (w ∷ ws) before words symbols e h first g =
      word-shift k scope0 before w (head.Spec k (before ++ w ∷ [])) (spec_symbols ws ++ symbols) h.0 h.1 refl (λ tl sc. refl)
      (goes-from (Untouched scope0 before) (Untouched scope0 (before ++ w ∷ [])) (head.Spec k (before ++ w ∷ [])) (spec_symbols ws ++ symbols) (still scope0 before w)
      (spec-read k scope0 ws (before ++ w ∷ []) words symbols (append_assoc before (w ∷ []) ws ∙ e) h.2 first g))

-- the first word begins the node
word-enters : (k : Context) (w : SpecWord) (scope : Scope) → enters (word_head k [] w) scope ≡ scope
word-enters k (word.Tag is_union x inside) scope = refl
word-enters k (word.Enum x inside comma) scope = refl
word-enters k _ scope = refl

word-opens : (k : Context) (w : SpecWord) (tl : Told) (scope : Scope) → opens (word_head k [] w) tl scope ≡ scope
word-opens k (word.Tag is_union x inside) tl scope = refl
word-opens k (word.Enum x inside comma) tl scope = refl
word-opens k _ tl scope = refl

pub spec-starts : (f : Frame) (s : Stack) (scope : Scope) (at : ℕ) (k : Context) (words : List SpecWord) (symbols : List Symbol) (ps : Trees) (tail : List Terminal) →
    IsSpec (allows_storage k) scope words → ((token : Terminal) (h : Head) → begin_spec scope k token ≡ Pushes h → begin scope (wanted f.head) token ≡ Pushes h) →
    opened f s scope at (spells (spec_symbols words ++ symbols) ps tail)
    ≡ run (Some (state (fresh (head.Spec k []) at ∷ f ∷ s) scope at None)) (spells (spec_symbols words ++ symbols) ps tail)
unfolding step
spec-starts f s scope at k [] symbols ps tail h b = absurd (false≢true h)
spec-starts f s scope at k (w ∷ ws) symbols ps tail h b =
    let p = first_of_word w (spec_symbols ws ++ symbols) ps tail in
    let e = ap (λ x. spells x ps tail) (append_assoc (word_symbols w) (spec_symbols ws) symbols) ∙ p.1 in
    let m = moves-word scope k [] w h.0 h.1 in
    let o : Frame = fresh (head.Spec k []) at in
    let hd : Head = word_head k [] w in
    ap (opened f s scope at) e
    ∙ ap (λ x. run (opening (f ∷ s) scope at (word_token w) x) p.0) (b (word_token w) hd (ap begin_by m))
    ∙ ap (λ sd. run (to (fresh hd at ∷ f ∷ s) sd at None) p.0) (word-enters k w scope ∙ sym (word-opens k w nothing scope))
    ∙ ap (λ x. run (resolve o (f ∷ s) scope at (word_token w) (λ u sd. settle (f ∷ s) u sd at (word_token w)) x) p.0) (sym m)
    ∙ ap (run (Some (state (o ∷ f ∷ s) scope at None))) (sym e)
