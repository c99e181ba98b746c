-- What each token does to an open node.
use Rattle.std.proofs.Common.{◌≡◌, ℕ, zero, suc, ◌+◌, ◌-◌, ◌≤◌, ◌<◌, nat_le, Bool, true, false, ◌||◌, ◌&&◌, ◌⊎◌, inl, inr, not, List, [], ◌∷◌, ◌++◌, length, Option, Some, None, refl, sym, ap, subst, ◌∙◌, arith, ⊎_elim, append_assoc, append-nil, map}
use Rattle.std.specs.Prelude.{⊤}
use Rattle.std.proofs.lemmas.Bool.{false≢true, and_parts, not-true}
use Rattle.p9_lang.specs.declared.tree.CBinary.{CBinary}
use Rattle.p9_lang.specs.declared.tree.CBinary.TheVariants as operator
use Rattle.p9_lang.specs.declared.tree.CUnary.{CUnary}
use Rattle.p9_lang.specs.declared.tree.CUnary.TheVariants as unary
use Rattle.p9_lang.specs.declared.tree.EntryBy.{EntryBy}
use Rattle.p9_lang.specs.declared.tree.EntryBy.TheVariants as by
use Rattle.p9_lang.specs.declared.tree.SpecWord.{SpecWord}
use Rattle.p9_lang.specs.declared.tree.SpecWord.TheVariants as word
use Rattle.p9_lang.specs.declared.tree.Kind.{Kind}
use Rattle.p9_lang.specs.declared.tree.Kind.TheVariants as kind
use Rattle.p9_grammar.specs.declared.terminal.Keyword.{Keyword}
use Rattle.p9_grammar.specs.declared.terminal.Keyword.TheVariants as key
use Rattle.p9_grammar.specs.declared.terminal.Punctuator.{Punctuator}
use Rattle.p9_grammar.specs.declared.terminal.Punctuator.TheVariants as mark
use Rattle.p9_grammar.specs.declared.terminal.Terminal.{Terminal}
use Rattle.p9_grammar.specs.declared.terminal.Terminal.TheVariants as t
use Rattle.p9_grammar.specs.declared.head.Context.{Context}
use Rattle.p9_grammar.specs.declared.head.Context.TheVariants as context
use Rattle.p9_grammar.specs.declared.head.Naming.{Naming}
use Rattle.p9_grammar.specs.declared.head.Naming.TheVariants as naming
use Rattle.p9_grammar.specs.declared.head.Class.{Class}
use Rattle.p9_grammar.specs.declared.head.Class.TheVariants as class
use Rattle.p9_grammar.specs.declared.head.Head.{Head}
use Rattle.p9_grammar.specs.declared.head.Head.TheVariants as head
use Rattle.p9_grammar.specs.Trees.{Tree, node, Trees, none, more, count, push}
use Rattle.p9_grammar.specs.Symbols.{Symbol, Write, Part, Enter, Slot, Of, Last, Pointed, Direct, Grouped, Role, Plain, Declares, Begins, part, sign, keyword, right_side, binds, binary_sign, unary_sign, assignment_sign, step_sign, dot_sign, expression, assignment, conditional, operand, later, listed, many, optional, at_most_one, branches, texts, spec_symbols, word_symbols, spec_parts, is_typedef, declarator, declarator_of, declarators, later_declarators, initialiser, qualifier, inner_declarator, parameters, parameter_list, behind, entry_place, named, in_braces, tag_key}
use Rattle.p9_grammar.specs.Scopes.{Scope, Level, is_type, after, told, told_first, through, add, leave, tells, nothing, Told, innermost, outer}
use Rattle.p9_grammar.specs.Grammar.{Sort, sort, Accepts, Suits, Asks, Formed, Fills, slot_class, naming_of, may_of, past, past_in, is_assignable, SpecFrom, IsSpec, may_follow, has_type, is_known, is_void_word, pointed, grouped}
use Rattle.p9_grammar.specs.Machine.{Frame, Read, Stack, State, state, to, fresh, moved, made, leaf, start_of, step, run, begin, begin_by, begin_spec, begin_expression, begin_declarator, begin_statement, begin_switch_item, begin_initialiser, only_if, or_else, Begin, Pushes, Leaf, Under, Nowhere, Move, Shift, Ends, Opens, Over, Refused, After, To, Makes, Unwanted, Join, Joins, Posts, Lengthens, Apart, opening, inside, resolve, attach, attached, joining, join, join_at, join_if, join_expression, join_declarator, settle, going, feed, decide, choose, wanted, role, retold, enters, opens, Infix, Binds, No, binding, binary, assigns, level_of, direct_of, move, spec_move, begins_type, allows_storage, spec, shift_if, ends_spec, paren_or, brace_or, semicolon_or, bracket_or}
use Rattle.p9_grammar.proofs.Spelling.{spell, spells}
use Rattle.p9_grammar.specs.Machine.{is_begun, only_if, begin_entry, begin_body, begin_constant, fed, else_move, stepped}
use Rattle.p9_grammar.specs.Grammar.{Expression, Declarator, Braced, Entry, Param, TypeName, Member, Constant, Declaration, Function, Block, Statement, Label}
use Rattle.p9_grammar.specs.Grammar.{tokens, write}
use Rattle.std.specs.List.{list_any}
use Rattle.p9_grammar.specs.Grammar.{share, names_type, is_storage, is_named, is_positive}
use Rattle.p9_grammar.specs.Machine as machine
use Rattle.p9_grammar.specs.Machine.{behind_type, close_paren, open_paren, close_bracket, semicolon, colon, by_comma, end_or, tag_move, enum_move, tag_start, enum_start, members_move, constants_next, constant_named, body_move, next_declarator, declared_move, member_declared, bare_star, stars_move, params_start, params_next, list_next, call_next, entry_dot, entry_named, dot_move, sizeof_start, while_move, brace_move, key_move, word_move}
use Rattle.p9_grammar.proofs.Reading.{is_no_else}
use Rattle.p9_grammar.proofs.Heads.{no-second-type}
use Rattle.p9_grammar.proofs.Sofar.{so_far, Open, Words, WordsFrom, Site, Whole, Exp, Dir, Nameless, Led, Has, expr, before_declarator, before_member, tag_symbols, enum_symbols, is_declaring}
use Rattle.p9_grammar.proofs.Along.{many-more, listed-more, spec-more, parts-more, declarators-more, qualifiers-more, words-more, words-spec, typeless-through}

-- A node that a statement before `else` ends must not end in an `if` without one.
abbrev pub at_token : Class → Terminal → Class
at_token (class.Statement may) token = class.Statement (may && is_no_else token)
at_token c token = c

abbrev pub dummy : Tree
dummy = node kind.Block 0 none

abbrev pub is_after : After → Bool
is_after (To h) = true
is_after (Makes k) = true
is_after Unwanted = false

abbrev pub Wants : Head → Type 0
Wants h = is_after (attached h dummy) ≡ true

abbrev pub Closed : Class → Scope → Kind → ℕ → Type 0
Closed c scope k n = Accepts c (sort k) × ((token : Terminal) → Suits (at_token c token) scope k n) × Asks scope k n

abbrev pub MoveOk : Class → Scope → List Symbol → ℕ → Terminal → Move → Type 0
MoveOk c scope symbols k token (Shift (head.HeadOver words)) = (symbols ≡ so_far (head.Declared context.Head words []) k) × Open c scope (head.HeadOver words) k × (token ≡ t.Mark mark.OpenBrace)
MoveOk c scope symbols k token (Shift (head.FunctionBody words)) = ⊥
MoveOk c scope symbols k token (Shift (head.ParamsMore inner)) =
    ((so_far (head.ParamsMore inner) k ≡ symbols ++ (Write token ∷ [])) ⊎ ((symbols ≡ so_far (head.ParamsNext inner) k) × (token ≡ t.Mark mark.Comma))) × Open c scope (head.ParamsMore inner) k
MoveOk c scope symbols k token (Shift h) = (so_far h k ≡ symbols ++ (Write token ∷ [])) × Open c scope h k
MoveOk c scope symbols k token (Ends x) = (right_side x k ≡ symbols ++ (Write token ∷ [])) × Closed c scope x k
MoveOk c scope symbols k token (Opens (head.FunctionBody words)) = (symbols ≡ so_far (head.Declared context.File words []) k) × Open c scope (head.FunctionBody words) k
MoveOk c scope symbols k token (Opens (head.HeadOver words)) = ⊥
MoveOk c scope symbols k token (Opens h) = (so_far h k ≡ symbols) × Open c scope h k × Wants h
MoveOk c scope symbols k token (Over x) = (right_side x k ≡ symbols) × Closed c scope x k
MoveOk c scope symbols k token Refused = ⊤

-- a token alone, or else another move

module _ (c : Class) (scope : Scope) (symbols : List Symbol) (k : ℕ) where
  abbrev Ok : Terminal → Move → Type 0
  Ok token m = MoveOk c scope symbols k token m

  close_paren-ok : (m : Move) → Ok (t.Mark mark.CloseParen) m → (token : Terminal) → Ok token (close_paren m token)
  close_paren-ok m h (t.Mark mark.CloseParen) = h
  close_paren-ok m h _ = tt

  close_bracket-ok : (m : Move) → Ok (t.Mark mark.CloseBracket) m → (token : Terminal) → Ok token (close_bracket m token)
  close_bracket-ok m h (t.Mark mark.CloseBracket) = h
  close_bracket-ok m h _ = tt

  semicolon-ok : (m : Move) → Ok (t.Mark mark.Semicolon) m → (token : Terminal) → Ok token (semicolon m token)
  semicolon-ok m h (t.Mark mark.Semicolon) = h
  semicolon-ok m h _ = tt

  colon-ok : (m : Move) → Ok (t.Mark mark.Colon) m → (token : Terminal) → Ok token (colon m token)
  colon-ok m h (t.Mark mark.Colon) = h
  colon-ok m h _ = tt

  open_paren-ok : (h : Head) → Ok (t.Mark mark.OpenParen) (Shift h) → (token : Terminal) → Ok token (open_paren h token)
  open_paren-ok h g (t.Mark mark.OpenParen) = g
  open_paren-ok h g _ = tt

  by_comma-ok : (h : Head) → Ok (t.Mark mark.Comma) (Shift h) → (token : Terminal) → Ok token (by_comma h token)
  by_comma-ok h g (t.Mark mark.Comma) = g
  by_comma-ok h g _ = tt

  paren_or-ok : (m o : Move) → Ok (t.Mark mark.CloseParen) m → ((token : Terminal) → Ok token o) → (token : Terminal) → Ok token (paren_or m o token)
  paren_or-ok m o h g (t.Mark mark.CloseParen) = h
  paren_or-ok m o h g token = g token

  semicolon_or-ok : (m o : Move) → Ok (t.Mark mark.Semicolon) m → ((token : Terminal) → Ok token o) → (token : Terminal) → Ok token (semicolon_or m o token)
  semicolon_or-ok m o h g (t.Mark mark.Semicolon) = h
  semicolon_or-ok m o h g token = g token

  brace_or-ok : (m o : Move) → Ok (t.Mark mark.CloseBrace) m → ((token : Terminal) → Ok token o) → (token : Terminal) → Ok token (brace_or m o token)
  brace_or-ok m o h g (t.Mark mark.CloseBrace) = h
  brace_or-ok m o h g token = g token

  bracket_or-ok : (m o : Move) → Ok (t.Mark mark.CloseBracket) m → ((token : Terminal) → Ok token o) → (token : Terminal) → Ok token (bracket_or m o token)
  bracket_or-ok m o h g (t.Mark mark.CloseBracket) = h
  bracket_or-ok m o h g token = g token

  end_or-ok : (m o : Move) → Ok (t.End) m → ((token : Terminal) → Ok token o) → (token : Terminal) → Ok token (end_or m o token)
  end_or-ok m o h g (t.End) = h
  end_or-ok m o h g token = g token

-- what a place asks besides is nothing, but of an `if`, a declarator and a lone parameter

abbrev pub NoIf : Kind → Type 0
NoIf kind.If = ⊥
NoIf _ = ⊤

suits-statement : (b : Bool) (scope : Scope) (x : Kind) (n : ℕ) → NoIf x → Suits (class.Statement b) scope x n
suits-statement true scope x n h = tt
suits-statement false scope kind.If n h = absurd h
suits-statement false scope _ n h = tt

pub suits-block : (c : Class) (scope : Scope) (x : Kind) (n : ℕ) → NoIf x → Accepts c Block → (token : Terminal) → Suits (at_token c token) scope x n
suits-block class.BlockItem scope x n h a token = tt
suits-block (class.Statement may) scope x n h a token = suits-statement (may && is_no_else token) scope x n h
suits-block class.SwitchItem scope x n h a token = tt
suits-block class.Body scope x n h a token = tt
suits-block _ scope x n h a token = absurd a

pub suits-other : (c : Class) (scope : Scope) (x : Kind) (n : ℕ) → NoIf x → Accepts c Statement → (token : Terminal) → Suits (at_token c token) scope x n
suits-other class.BlockItem scope x n h a token = tt
suits-other (class.Statement may) scope x n h a token = suits-statement (may && is_no_else token) scope x n h
suits-other class.SwitchItem scope x n h a token = tt
suits-other _ scope x n h a token = absurd a

pub suits-label : (c : Class) (scope : Scope) (x : Kind) (n : ℕ) → Accepts c Label → (token : Terminal) → Suits (at_token c token) scope x n
suits-label class.SwitchItem scope x n a token = tt
suits-label _ scope x n a token = absurd a

pub suits-expression : (c : Class) (l : ℕ) (scope : Scope) (x : Kind) (n : ℕ) → Exp l c → (token : Terminal) → Suits (at_token c token) scope x n
suits-expression (class.Expression k) l scope x n a token = tt
suits-expression class.Initialiser l scope x n a token = tt
suits-expression _ l scope x n a token = absurd a

pub suits-braced : (c : Class) (scope : Scope) (x : Kind) (n : ℕ) → Accepts c Braced → (token : Terminal) → Suits (at_token c token) scope x n
suits-braced class.Initialiser scope x n a token = tt
suits-braced _ scope x n a token = absurd a

pub suits-entry : (c : Class) (scope : Scope) (x : Kind) (n : ℕ) → Accepts c Entry → (token : Terminal) → Suits (at_token c token) scope x n
suits-entry class.Entry scope x n a token = tt
suits-entry _ scope x n a token = absurd a

pub suits-constant : (c : Class) (scope : Scope) (x : Kind) (n : ℕ) → Accepts c Constant → (token : Terminal) → Suits (at_token c token) scope x n
suits-constant class.Constant scope x n a token = tt
suits-constant _ scope x n a token = absurd a

leads-any : (m : Naming) (p : Type 0) → Nameless m → Rattle.p9_grammar.specs.Grammar.Leads m p
leads-any naming.Named p h = absurd h
leads-any naming.Either p h = tt
leads-any naming.Hidden p h = tt
leads-any naming.Bare p h = tt

leads-it : (m : Naming) (p : Type 0) → p → Rattle.p9_grammar.specs.Grammar.Leads m p
leads-it naming.Named p h = h
leads-it naming.Either p h = tt
leads-it naming.Hidden p h = tt
leads-it naming.Bare p h = tt

pub suits-brackets : (c : Class) (scope : Scope) (inner sized : Bool) (n : ℕ) → Dir 16 c → Led c inner → (token : Terminal) → Suits (at_token c token) scope (kind.Brackets inner sized) n
suits-brackets (class.Declarator m l) scope true sized n a h token = leads-it m (true ≡ true) refl
suits-brackets (class.Declarator m l) scope false sized n a h token = leads-any m (false ≡ true) h
suits-brackets _ scope inner sized n a h token = absurd a

pub suits-params : (c : Class) (scope : Scope) (inner void_word : Bool) (n : ℕ) → Dir 16 c → Led c inner → (token : Terminal) → Suits (at_token c token) scope (kind.Params inner void_word) n
suits-params (class.Declarator m l) scope true void_word n a h token = leads-it m (true ≡ true) refl
suits-params (class.Declarator m l) scope false void_word n a h token = leads-any m (false ≡ true) h
suits-params _ scope inner void_word n a h token = absurd a

pub suits-parens : (c : Class) (scope : Scope) (n : ℕ) → Dir 16 c → (token : Terminal) → Suits (at_token c token) scope kind.DeclParens n
suits-parens (class.Declarator m l) scope n a token = tt
suits-parens _ scope n a token = absurd a

pub suits-star : (c : Class) (scope : Scope) (volatiles : List Bool) → Dir 15 c → Nameless (naming_of c) → (token : Terminal) → Suits (at_token c token) scope (kind.Star volatiles) 0
suits-star (class.Declarator m l) scope volatiles a h token = leads-any m (1 ≤ 0) h
suits-star _ scope volatiles a h token = absurd a

-- at another number of parts that is the same
along-count : (c : Class) (scope : Scope) (symbols : List Symbol) (j k : ℕ) (token : Terminal) (m : Move) → k ≡ j → MoveOk c scope symbols j token m → MoveOk c scope symbols k token m
along-count c scope symbols j k token m e h = subst (λ x. MoveOk c scope symbols x token m) (sym e) h

-- heads of declarations

module _ (p : Context) (c : Class) (scope0 scope : Scope) (words : List SpecWord) (k : ℕ) (parts : Trees)
    (site : Site p c) (ok : Words p scope0 words) (n : k ≡ spec_parts words) (same : has_type words ≡ false → scope ≡ scope0) where
  abbrev Here : Terminal → Move → Type 0
  Here token m = MoveOk c scope0 (spec_symbols words) k token m

  word-if : (w : SpecWord) (token : Terminal) (other : Move) → word_symbols w ≡ Write token ∷ [] → Rattle.p9_grammar.specs.Symbols.word_parts w ≡ 0 → (b : Bool) →
      (b ≡ true → (may_follow (allows_storage p) words w ≡ true) × (is_known scope0 w ≡ true)) → Here token other → Here token (shift_if b (head.Spec p (words ++ w ∷ [])) other)
  word-if w token other e z true g o =
      let h = g refl in
      (spec-more words w ∙ ap (λ x. spec_symbols words ++ x) e, (site, words-more (allows_storage p) scope0 [] words w ok h.0 h.1, omega (arith, n, parts-more words w, z)))
  word-if w token other e z false g o = o

  word-ok : (w : SpecWord) (token : Terminal) → word_symbols w ≡ Write token ∷ [] → Rattle.p9_grammar.specs.Symbols.word_parts w ≡ 0 → is_known scope0 w ≡ true → Here token (word_move p words w)
  word-ok w token e z i = word-if w token Refused e z (may_follow (allows_storage p) words w) (λ h. (h, i)) tt

  whole : has_type words ≡ true → Whole p c scope0 words
  whole h = (site, ok, h)

  behind-ok : (token : Terminal) → has_type words ≡ true → Here token (machine.behind p words token)
  behind-ok token h = behind_in p c site words k scope0 ok n h token
    where
      spec_of : (p : Context) → Words p scope0 words → IsSpec (allows_storage p) scope0 words
      spec_of p ok = words-spec (allows_storage p) scope0 [] words ok h

      ends_declaration : spec_symbols words ++ ([] ++ (sign mark.Semicolon ∷ [])) ≡ spec_symbols words ++ (sign mark.Semicolon ∷ [])
      ends_declaration = refl

      behind_in : (p : Context) (c : Class) → Site p c → (words : List SpecWord) (k : ℕ) (scope0 : Scope) → Words p scope0 words → k ≡ spec_parts words → has_type words ≡ true → (token : Terminal) →
          MoveOk c scope0 (spec_symbols words) k token (machine.behind p words token)
      behind_in context.File class.FileItem s ws k sc o n h (t.Mark mark.Semicolon) = (refl, (tt, λ u. tt, words-spec true sc [] ws o h))
      behind_in context.File class.FileItem s ws k sc o n h _ = (append-nil (spec_symbols ws), ((tt, o, h), refl), refl)
      behind_in context.File _ s ws k sc o n h token = absurd s
      behind_in context.Head class.HeadItem s ws k sc o n h (t.Mark mark.Semicolon) = (refl, (tt, λ u. tt, words-spec true sc [] ws o h))
      behind_in context.Head class.HeadItem s ws k sc o n h _ = (append-nil (spec_symbols ws), ((tt, o, h), refl), refl)
      behind_in context.Head _ s ws k sc o n h token = absurd s
      behind_in context.Local class.BlockItem s ws k sc o n h (t.Mark mark.Semicolon) = (refl, (tt, λ u. tt, words-spec true sc [] ws o h))
      behind_in context.Local class.BlockItem s ws k sc o n h _ = (append-nil (spec_symbols ws), ((tt, o, h), refl), refl)
      behind_in context.Local _ s ws k sc o n h token = absurd s
      behind_in context.Member class.Member s ws k sc o n h (t.Mark mark.Semicolon) =
          (ap (λ m. spec_symbols ws ++ (listed m declarator ++ (sign mark.Semicolon ∷ []))) (nothing_left k (spec_parts ws) n), (tt, λ u. tt, words-spec false sc [] ws o h))
        where
          nothing_left : (a b : ℕ) → a ≡ b → a - b ≡ 0
          nothing_left a b e = omega (arith, e)
      behind_in context.Member class.Member s ws k sc o n h _ =
          (ap (λ m. spec_symbols ws ++ before_member m) (nothing_left k (spec_parts ws) n) ∙ append-nil (spec_symbols ws), ((tt, o, h), omega (arith, n)), refl)
        where
          nothing_left : (a b : ℕ) → a ≡ b → a - b ≡ 0
          nothing_left a b e = omega (arith, e)
      behind_in context.Member _ s ws k sc o n h token = absurd s
      behind_in context.Param class.Param s ws k sc o n h (t.Mark mark.Comma) = (over-param ws k n, (tt, λ u. tt, words-spec false sc [] ws o h))
        where
          over-param : (ws : List SpecWord) (k : ℕ) → k ≡ spec_parts ws → right_side (kind.Param (spec ws)) k ≡ spec_symbols ws
          over-param ws k n = ap (λ m. spec_symbols ws ++ at_most_one m (declarator_of naming.Either (Declares false))) (nothing_left k (spec_parts ws) n) ∙ append-nil (spec_symbols ws)
            where
              nothing_left : (a b : ℕ) → a ≡ b → a - b ≡ 0
              nothing_left a b e = omega (arith, e)
      behind_in context.Param class.Param s ws k sc o n h (t.Mark mark.CloseParen) = (over-param ws k n, (tt, λ u. tt, words-spec false sc [] ws o h))
        where
          over-param : (ws : List SpecWord) (k : ℕ) → k ≡ spec_parts ws → right_side (kind.Param (spec ws)) k ≡ spec_symbols ws
          over-param ws k n = ap (λ m. spec_symbols ws ++ at_most_one m (declarator_of naming.Either (Declares false))) (nothing_left k (spec_parts ws) n) ∙ append-nil (spec_symbols ws)
            where
              nothing_left : (a b : ℕ) → a ≡ b → a - b ≡ 0
              nothing_left a b e = omega (arith, e)
      behind_in context.Param class.Param s ws k sc o n h _ = (refl, ((tt, o, h), n), refl)
      behind_in context.Param _ s ws k sc o n h token = absurd s
      behind_in context.Type class.Type s ws k sc o n h (t.Mark mark.CloseParen) = (over-type ws k n, (tt, λ u. tt, words-spec false sc [] ws o h))
        where
          over-type : (ws : List SpecWord) (k : ℕ) → k ≡ spec_parts ws → right_side (kind.NamedType (spec ws)) k ≡ spec_symbols ws
          over-type ws k n = ap (λ m. spec_symbols ws ++ at_most_one m (declarator_of naming.Bare Plain)) (nothing_left k (spec_parts ws) n) ∙ append-nil (spec_symbols ws)
            where
              nothing_left : (a b : ℕ) → a ≡ b → a - b ≡ 0
              nothing_left a b e = omega (arith, e)
      behind_in context.Type class.Type s ws k sc o n h _ = (refl, ((tt, o, h), n), refl)
      behind_in context.Type _ s ws k sc o n h token = absurd s

  ends-if : (b : Bool) → has_type words ≡ b → (token : Terminal) → Here token (behind_type b p words token)
  ends-if true h token = behind-ok token h
  ends-if false h token = tt

  ends-ok : (token : Terminal) → Here token (ends_spec p words token)
  ends-ok token = ends-if (has_type words) refl token

  tag-if : (is_union : Bool) (token : Terminal) → tag_key is_union ≡ Write token → (b : Bool) → may_follow (allows_storage p) words (word.Tag is_union [] None) ≡ b → Here token (shift_if b (head.TagStart p words is_union) Refused)
  tag-if is_union token e true h = (ap (λ x. spec_symbols words ++ (x ∷ [])) e, (site, ok, n, h))
  tag-if is_union token e false h = tt

  enum-if : (b : Bool) → may_follow (allows_storage p) words (word.Enum [] None false) ≡ b → Here (t.Key key.Enum) (shift_if b (head.EnumStart p words) Refused)
  enum-if true h = (refl, (site, ok, n, h))
  enum-if false h = tt

  key-ok : (key : Keyword) → Here (t.Key key) (key_move p words key)
  key-ok key.Extern = word-ok word.Extern (t.Key key.Extern) refl refl refl
  key-ok key.Static = word-ok word.Static (t.Key key.Static) refl refl refl
  key-ok key.Typedef = word-ok word.Typedef (t.Key key.Typedef) refl refl refl
  key-ok key.Auto = word-ok word.Auto (t.Key key.Auto) refl refl refl
  key-ok key.Register = word-ok word.Register (t.Key key.Register) refl refl refl
  key-ok key.Const = word-ok word.Const (t.Key key.Const) refl refl refl
  key-ok key.Volatile = word-ok word.Volatile (t.Key key.Volatile) refl refl refl
  key-ok key.Void = word-ok word.Void (t.Key key.Void) refl refl refl
  key-ok key.Char = word-ok word.Char (t.Key key.Char) refl refl refl
  key-ok key.Short = word-ok word.Short (t.Key key.Short) refl refl refl
  key-ok key.Int = word-ok word.Int (t.Key key.Int) refl refl refl
  key-ok key.Long = word-ok word.Long (t.Key key.Long) refl refl refl
  key-ok key.Signed = word-ok word.Signed (t.Key key.Signed) refl refl refl
  key-ok key.Unsigned = word-ok word.Unsigned (t.Key key.Unsigned) refl refl refl
  key-ok key.Struct = tag-if false (t.Key key.Struct) refl (may_follow (allows_storage p) words (word.Tag false [] None)) refl
  key-ok key.Union = tag-if true (t.Key key.Union) refl (may_follow (allows_storage p) words (word.Tag true [] None)) refl
  key-ok key.Enum = enum-if (may_follow (allows_storage p) words (word.Enum [] None false)) refl
  key-ok key.Break = ends-ok (t.Key key.Break)
  key-ok key.Case = ends-ok (t.Key key.Case)
  key-ok key.Continue = ends-ok (t.Key key.Continue)
  key-ok key.Default = ends-ok (t.Key key.Default)
  key-ok key.Do = ends-ok (t.Key key.Do)
  key-ok key.Double = ends-ok (t.Key key.Double)
  key-ok key.Else = ends-ok (t.Key key.Else)
  key-ok key.Float = ends-ok (t.Key key.Float)
  key-ok key.For = ends-ok (t.Key key.For)
  key-ok key.Goto = ends-ok (t.Key key.Goto)
  key-ok key.If = ends-ok (t.Key key.If)
  key-ok key.Return = ends-ok (t.Key key.Return)
  key-ok key.Sizeof = ends-ok (t.Key key.Sizeof)
  key-ok key.Switch = ends-ok (t.Key key.Switch)
  key-ok key.While = ends-ok (t.Key key.While)

  name-known : (x : List ℕ) → (is_type scope x && may_follow (allows_storage p) words (word.TypeName x)) ≡ true →
      (may_follow (allows_storage p) words (word.TypeName x) ≡ true) × (is_type scope0 x ≡ true)
  name-known x h =
      let q = and_parts (is_type scope x) (may_follow (allows_storage p) words (word.TypeName x)) h in
      (q.1, ap (λ sc. is_type sc x) (sym (same (no_type (has_type words) refl q.1))) ∙ q.0)
    where
      no_type : (b : Bool) → has_type words ≡ b → may_follow (allows_storage p) words (word.TypeName x) ≡ true → has_type words ≡ false
      no_type false e m = e
      no_type true e m = absurd (false≢true (sym (no-second-type (allows_storage p) words x e) ∙ m))

  pub spec-ok : (token : Terminal) → Here token (spec_move scope p words token)
  spec-ok (t.Key key) = key-ok key
  spec-ok (t.Name x) =
      word-if (word.TypeName x) (t.Name x) (ends_spec p words (t.Name x)) refl refl (is_type scope x && may_follow (allows_storage p) words (word.TypeName x)) (name-known x) (ends-ok (t.Name x))
  spec-ok (t.Number v unsigned long) = ends-ok (t.Number v unsigned long)
  spec-ok (t.Character v) = ends-ok (t.Character v)
  spec-ok (t.Text x) = ends-ok (t.Text x)
  spec-ok (t.Mark q) = ends-ok (t.Mark q)
  spec-ok t.End = ends-ok t.End
  spec-ok t.Other = ends-ok t.Other

-- every head

named-none : (x : List ℕ) → 1 ≤ length x → is_named x None ≡ true
named-none [] h = absurd (omega (arith, h))
named-none (b ∷ bs) h = refl

pub named-braces : (x : List ℕ) (n : ℕ) → is_named x (Some n) ≡ true
named-braces [] n = refl
named-braces (b ∷ bs) n = refl

pub first-of-two : (xs ys zs us : List Symbol) (a : Symbol) → (xs ++ (a ∷ (ys ++ zs))) ++ us ≡ xs ++ (a ∷ (ys ++ (zs ++ us)))
first-of-two xs ys zs us a = append_assoc xs (a ∷ (ys ++ zs)) us ∙ ap (λ q. xs ++ (a ∷ q)) (append_assoc ys zs us)

along-symbols : (c : Class) (scope : Scope) (xs ys : List Symbol) (k : ℕ) (token : Terminal) (m : Move) → xs ≡ ys → MoveOk c scope ys k token m → MoveOk c scope xs k token m
along-symbols c scope xs ys k token m e h = subst (λ q. MoveOk c scope q k token m) (sym e) h

-- behind a tag or an enumeration with a name alone
behind-tag : (p : Context) (c : Class) (scope0 scope : Scope) (words : List SpecWord) (is_union : Bool) (x : List ℕ) (k : ℕ) (parts : Trees) →
    Open c scope0 (head.TagNamed p words is_union x) k → (token : Terminal) →
    MoveOk c scope0 (so_far (head.TagNamed p words is_union x) k) k token (spec_move scope p (words ++ word.Tag is_union x None ∷ []) token)
behind-tag p c scope0 scope words is_union x k parts o token =
    let w : SpecWord = word.Tag is_union x None in
    along-symbols c scope0 (so_far (head.TagNamed p words is_union x) k) (spec_symbols (words ++ w ∷ [])) k token (spec_move scope p (words ++ w ∷ []) token) (sym (spec-more words w))
    (spec-ok p c scope0 scope (words ++ w ∷ []) k parts o.0 (words-more (allows_storage p) scope0 [] words w o.1 o.3 (named-none x o.4)) (omega (arith, o.2, parts-more words w))
    (λ e. absurd (false≢true (sym e ∙ Rattle.p9_grammar.proofs.Heads.has_type-behind words w refl))) token)

behind-enum : (p : Context) (c : Class) (scope0 scope : Scope) (words : List SpecWord) (x : List ℕ) (k : ℕ) (parts : Trees) →
    Open c scope0 (head.EnumNamed p words x) k → (token : Terminal) →
    MoveOk c scope0 (so_far (head.EnumNamed p words x) k) k token (spec_move scope p (words ++ word.Enum x None false ∷ []) token)
behind-enum p c scope0 scope words x k parts o token =
    let w : SpecWord = word.Enum x None false in
    along-symbols c scope0 (so_far (head.EnumNamed p words x) k) (spec_symbols (words ++ w ∷ [])) k token (spec_move scope p (words ++ w ∷ []) token) (sym (spec-more words w))
    (spec-ok p c scope0 scope (words ++ w ∷ []) k parts o.0 (words-more (allows_storage p) scope0 [] words w o.1 o.3 (ap (λ b. b && true) (named-none x o.4))) (omega (arith, o.2, parts-more words w))
    (λ e. absurd (false≢true (sym e ∙ Rattle.p9_grammar.proofs.Heads.has_type-behind words w refl))) token)

tag_named-ok : (p : Context) (c : Class) (scope0 scope : Scope) (words : List SpecWord) (is_union : Bool) (x : List ℕ) (k : ℕ) (parts : Trees) →
    Open c scope0 (head.TagNamed p words is_union x) k → (token : Terminal) →
    MoveOk c scope0 (so_far (head.TagNamed p words is_union x) k) k token (tag_move scope p words is_union x token)
tag_named-ok p c scope0 scope words is_union x k parts o (t.Mark mark.OpenBrace) =
    (sym (first-of-two (spec_symbols words) (named x) [] (sign mark.OpenBrace ∷ []) (tag_key is_union)), (o.0, o.1, omega (arith, o.2), o.3))
tag_named-ok p c scope0 scope words is_union x k parts o token = behind-tag p c scope0 scope words is_union x k parts o token

enum_named-ok : (p : Context) (c : Class) (scope0 scope : Scope) (words : List SpecWord) (x : List ℕ) (k : ℕ) (parts : Trees) →
    Open c scope0 (head.EnumNamed p words x) k → (token : Terminal) →
    MoveOk c scope0 (so_far (head.EnumNamed p words x) k) k token (enum_move scope p words x token)
enum_named-ok p c scope0 scope words x k parts o (t.Mark mark.OpenBrace) =
    (sym (first-of-two (spec_symbols words) (named x) [] (sign mark.OpenBrace ∷ []) (keyword key.Enum)), (o.0, o.1, o.2, o.3, refl))
enum_named-ok p c scope0 scope words x k parts o token = behind-enum p c scope0 scope words x k parts o token

tag_start-ok : (p : Context) (c : Class) (scope0 : Scope) (words : List SpecWord) (is_union : Bool) (k : ℕ) → Open c scope0 (head.TagStart p words is_union) k → (token : Terminal) →
    MoveOk c scope0 (so_far (head.TagStart p words is_union) k) k token (tag_start p words is_union token)
tag_start-ok p c scope0 words is_union k o (t.Name []) = tt
tag_start-ok p c scope0 words is_union k o (t.Name (b ∷ bs)) = (sym (append_assoc (spec_symbols words) (tag_key is_union ∷ []) (Write (t.Name (b ∷ bs)) ∷ [])), (o.0, o.1, o.2, o.3, omega arith))
tag_start-ok p c scope0 words is_union k o (t.Mark mark.OpenBrace) = (sym (append_assoc (spec_symbols words) (tag_key is_union ∷ []) (sign mark.OpenBrace ∷ [])), (o.0, o.1, omega (arith, o.2), o.3))
tag_start-ok p c scope0 words is_union k o _ = tt

enum_start-ok : (p : Context) (c : Class) (scope0 : Scope) (words : List SpecWord) (k : ℕ) → Open c scope0 (head.EnumStart p words) k → (token : Terminal) →
    MoveOk c scope0 (so_far (head.EnumStart p words) k) k token (enum_start p words token)
enum_start-ok p c scope0 words k o (t.Name []) = tt
enum_start-ok p c scope0 words k o (t.Name (b ∷ bs)) = (sym (append_assoc (spec_symbols words) (keyword key.Enum ∷ []) (Write (t.Name (b ∷ bs)) ∷ [])), (o.0, o.1, o.2, o.3, omega arith))
enum_start-ok p c scope0 words k o (t.Mark mark.OpenBrace) = (sym (append_assoc (spec_symbols words) (keyword key.Enum ∷ []) (sign mark.OpenBrace ∷ [])), (o.0, o.1, o.2, o.3, refl))
enum_start-ok p c scope0 words k o _ = tt

members-ok : (p : Context) (c : Class) (scope0 : Scope) (words : List SpecWord) (is_union : Bool) (x : List ℕ) (n k : ℕ) → Open c scope0 (head.Members p words is_union x n) k → (token : Terminal) →
    MoveOk c scope0 (so_far (head.Members p words is_union x n) k) k token (members_move p words is_union x n token)
members-ok p c scope0 words is_union x zero k o token = (refl, o, refl)
members-ok p c scope0 words is_union x (suc n) k o token =
    let w : SpecWord = word.Tag is_union x (Some (suc n)) in
    brace_or-ok c scope0 (so_far (head.Members p words is_union x (suc n)) k) k (Shift (head.Spec p (words ++ w ∷ []))) (Opens (head.Members p words is_union x (suc n))) (
      spec-more words w ∙ sym (first-of-two (spec_symbols words) (named x) (sign mark.OpenBrace ∷ many (suc n) class.Member) (sign mark.CloseBrace ∷ []) (tag_key is_union)),
      (o.0, words-more (allows_storage p) scope0 [] words w o.1 o.3 (named-braces x (suc n)), omega (arith, o.2, parts-more words w)),
    )
    (λ u. (refl, o, refl)) token

constants-ok : (p : Context) (c : Class) (scope0 : Scope) (words : List SpecWord) (x : List ℕ) (n k : ℕ) → Open c scope0 (head.ConstantsNext p words x n) k → (token : Terminal) →
    MoveOk c scope0 (so_far (head.ConstantsNext p words x n) k) k token (constants_next p words x n token)
constants-ok p c scope0 words x n k o (t.Mark mark.Comma) =
    (sym (first-of-two (spec_symbols words) (named x) (sign mark.OpenBrace ∷ listed n (part class.Constant)) (sign mark.Comma ∷ []) (keyword key.Enum)), o)
constants-ok p c scope0 words x zero k o (t.Mark mark.CloseBrace) = absurd (omega (arith, o.4))
constants-ok p c scope0 words x (suc n) k o (t.Mark mark.CloseBrace) =
    let w : SpecWord = word.Enum x (Some (suc n)) false in (
      spec-more words w
          ∙ ap (λ q. spec_symbols words ++ (keyword key.Enum ∷ (named x ++ (sign mark.OpenBrace ∷ (q ++ (sign mark.CloseBrace ∷ [])))))) (append-nil (listed (suc n) (part class.Constant)))
          ∙ sym (first-of-two (spec_symbols words) (named x) (sign mark.OpenBrace ∷ listed (suc n) (part class.Constant)) (sign mark.CloseBrace ∷ []) (keyword key.Enum)),
      (o.0, words-more (allows_storage p) scope0 [] words w o.1 o.3 refl, omega (arith, o.2, parts-more words w)),
    )
constants-ok p c scope0 words x n k o _ = tt

constants_comma-ok : (p : Context) (c : Class) (scope0 : Scope) (words : List SpecWord) (x : List ℕ) (n k : ℕ) → Open c scope0 (head.ConstantsComma p words x n) k → (token : Terminal) →
    MoveOk c scope0 (so_far (head.ConstantsComma p words x n) k) k token
    (brace_or (Shift (head.Spec p (words ++ word.Enum x (Some n) true ∷ []))) (Opens (head.ConstantsComma p words x n)) token)
constants_comma-ok p c scope0 words x zero k o token = absurd (omega (arith, o.4))
constants_comma-ok p c scope0 words x (suc n) k o token =
    let w : SpecWord = word.Enum x (Some (suc n)) true in
    brace_or-ok c scope0 (so_far (head.ConstantsComma p words x (suc n)) k) k (Shift (head.Spec p (words ++ w ∷ []))) (Opens (head.ConstantsComma p words x (suc n))) (
      spec-more words w ∙ sym (first-of-two (spec_symbols words) (named x) (sign mark.OpenBrace ∷ (listed (suc n) (part class.Constant) ++ (sign mark.Comma ∷ []))) (sign mark.CloseBrace ∷ []) (keyword key.Enum)),
      (o.0, words-more (allows_storage p) scope0 [] words w o.1 o.3 refl, omega (arith, o.2, parts-more words w)),
    )
    (λ u. (refl, o, refl)) token

constant_named-ok : (c : Class) (scope0 : Scope) (x : List ℕ) (k : ℕ) → Accepts c Constant → (token : Terminal) →
    MoveOk c scope0 (Write (t.Name x) ∷ []) k token (constant_named x token)
constant_named-ok c scope0 x k o (t.Mark mark.Equal) = (refl, o)
constant_named-ok c scope0 x k o (t.Mark mark.Comma) = (refl, (o, suits-constant c scope0 (kind.EnumConst x false) k o, tt))
constant_named-ok c scope0 x k o (t.Mark mark.CloseBrace) = (refl, (o, suits-constant c scope0 (kind.EnumConst x false) k o, tt))
constant_named-ok c scope0 x k o _ = tt

declaring-closed : (p : Context) (c : Class) (scope0 : Scope) (words : List SpecWord) (inits : List Bool) (k : ℕ) → Whole p c scope0 words → is_declaring p ≡ true → Closed c scope0 (kind.Declaration (spec words) inits) k
declaring-closed context.File class.FileItem scope0 words inits k w d = (tt, λ u. tt, words-spec true scope0 [] words w.1 w.2)
declaring-closed context.File _ scope0 words inits k w d = absurd w.0
declaring-closed context.Head class.HeadItem scope0 words inits k w d = (tt, λ u. tt, words-spec true scope0 [] words w.1 w.2)
declaring-closed context.Head _ scope0 words inits k w d = absurd w.0
declaring-closed context.Local class.BlockItem scope0 words inits k w d = (tt, λ u. tt, words-spec true scope0 [] words w.1 w.2)
declaring-closed context.Local _ scope0 words inits k w d = absurd w.0
declaring-closed context.Member c scope0 words inits k w d = absurd (false≢true d)
declaring-closed context.Param c scope0 words inits k w d = absurd (false≢true d)
declaring-closed context.Type c scope0 words inits k w d = absurd (false≢true d)

before-more : (is_type : Bool) (is : List Bool) (i : Bool) → before_declarator is_type (is ++ i ∷ []) ≡ declarators is_type (is ++ i ∷ []) ++ (sign mark.Comma ∷ [])
before-more is_type [] i = refl
before-more is_type (j ∷ is) i = refl

-- the symbols of a declaration with one more declarator
declared-before : (words : List SpecWord) (done : List Bool) (i : Bool) (x : Symbol) →
    spec_symbols words ++ (declarators (is_typedef words) (done ++ i ∷ []) ++ (x ∷ []))
    ≡ (spec_symbols words ++ (before_declarator (is_typedef words) done ++ (declarator_of naming.Named (Declares (is_typedef words)) ∷ initialiser i))) ++ (x ∷ [])
declared-before words done i x =
    ap (λ q. spec_symbols words ++ (q ++ (x ∷ []))) (declarators-more (is_typedef words) done i)
    ∙ sym (append_assoc (spec_symbols words) (before_declarator (is_typedef words) done ++ (declarator_of naming.Named (Declares (is_typedef words)) ∷ initialiser i)) (x ∷ []))

next-ok : (p : Context) (c : Class) (scope0 : Scope) (words : List SpecWord) (done : List Bool) (i : Bool) (k : ℕ) → Whole p c scope0 words → is_declaring p ≡ true → (token : Terminal) →
    MoveOk c scope0 (spec_symbols words ++ (before_declarator (is_typedef words) done ++ (declarator_of naming.Named (Declares (is_typedef words)) ∷ initialiser i))) k token (next_declarator p words (done ++ i ∷ []) token)
next-ok p c scope0 words done i k w d (t.Mark mark.Comma) =
    (ap (λ q. spec_symbols words ++ q) (before-more (is_typedef words) done i) ∙ declared-before words done i (sign mark.Comma), (w, d))
next-ok p c scope0 words done i k w d (t.Mark mark.Semicolon) = (declared-before words done i (sign mark.Semicolon), declaring-closed p c scope0 words (done ++ i ∷ []) k w d)
next-ok p c scope0 words done i k w d _ = tt

body-ok : (p : Context) (c : Class) (scope0 : Scope) (words : List SpecWord) (done : List Bool) (k : ℕ) → Whole p c scope0 words →
    MoveOk c scope0 (so_far (head.Declared p words done) k) k (t.Mark mark.OpenBrace) (body_move p words done)
body-ok context.File c scope0 words [] k w = (refl, w)
body-ok context.File c scope0 words (i ∷ is) k w = tt
body-ok context.Head c scope0 words [] k w = (refl, w, refl)
body-ok context.Head c scope0 words (i ∷ is) k w = tt
body-ok context.Local c scope0 words done k w = tt
body-ok context.Member c scope0 words done k w = tt
body-ok context.Param c scope0 words done k w = tt
body-ok context.Type c scope0 words done k w = tt

declared-ok : (p : Context) (c : Class) (scope0 : Scope) (words : List SpecWord) (done : List Bool) (k : ℕ) → Whole p c scope0 words → is_declaring p ≡ true → (token : Terminal) →
    MoveOk c scope0 (so_far (head.Declared p words done) k) k token (declared_move p words done token)
declared-ok p c scope0 words done k w d (t.Mark mark.Equal) = (
  ap (λ q. spec_symbols words ++ q) (sym (append_assoc (before_declarator (is_typedef words) done) (declarator_of naming.Named (Declares (is_typedef words)) ∷ []) (sign mark.Equal ∷ [])))
      ∙ sym (append_assoc (spec_symbols words) (before_declarator (is_typedef words) done ++ (declarator_of naming.Named (Declares (is_typedef words)) ∷ [])) (sign mark.Equal ∷ [])),
  (w, d),
)
declared-ok p c scope0 words done k w d (t.Mark mark.OpenBrace) = body-ok p c scope0 words done k w
declared-ok p c scope0 words done k w d token = next-ok p c scope0 words done false k w d token

member-closed : (c : Class) (scope0 : Scope) (words : List SpecWord) (k : ℕ) → Whole context.Member c scope0 words → Closed c scope0 (kind.Member (spec words)) k
member-closed class.Member scope0 words k w = (tt, λ u. tt, words-spec false scope0 [] words w.1 w.2)
member-closed _ scope0 words k w = absurd w.0

before-member : (j : ℕ) → 1 ≤ j → before_member j ≡ listed j declarator ++ (sign mark.Comma ∷ [])
before-member zero h = absurd (omega (arith, h))
before-member (suc j) h = refl

member-ok : (c : Class) (scope0 : Scope) (words : List SpecWord) (k : ℕ) → Open c scope0 (head.MemberDeclared words) k → (token : Terminal) →
    MoveOk c scope0 (so_far (head.MemberDeclared words) k) k token (member_declared words token)
member-ok c scope0 words k o (t.Mark mark.Comma) = (
  ap (λ q. spec_symbols words ++ q) (before-member (k - spec_parts words) (omega (arith, o.1))) ∙ sym (append_assoc (spec_symbols words) (listed (k - spec_parts words) declarator) (sign mark.Comma ∷ [])),
  (o.0, omega (arith, o.1)),
)
member-ok c scope0 words k o (t.Mark mark.Semicolon) = (sym (append_assoc (spec_symbols words) (listed (k - spec_parts words) declarator) (sign mark.Semicolon ∷ [])), member-closed c scope0 words k o.0)
member-ok c scope0 words k o _ = tt

star_over-ok : (c : Class) (scope0 : Scope) (m : Naming) (volatiles : List Bool) (k : ℕ) (token : Terminal) → Open c scope0 (head.Stars m volatiles) k →
    MoveOk c scope0 (so_far (head.Stars m volatiles) k) k token (bare_star m volatiles)
star_over-ok c scope0 naming.Named volatiles k token o = tt
star_over-ok c scope0 m volatiles k token o =
    along-count c scope0 (so_far (head.Stars m volatiles) k) 0 k token (Over (kind.Star volatiles)) o.2
    (ap (λ q. sign mark.Star ∷ q) (append-nil (map qualifier volatiles)), (o.0, suits-star c scope0 volatiles o.0 (subst Nameless (sym o.1) tt), tt))

stars-ok : (c : Class) (scope0 : Scope) (m : Naming) (volatiles : List Bool) (k : ℕ) → Open c scope0 (head.Stars m volatiles) k → (token : Terminal) →
    MoveOk c scope0 (so_far (head.Stars m volatiles) k) k token (stars_move m volatiles token)
stars-ok c scope0 m volatiles k o (t.Key key.Const) = (ap (λ q. sign mark.Star ∷ q) (qualifiers-more volatiles false), o)
stars-ok c scope0 m volatiles k o (t.Key key.Volatile) = (ap (λ q. sign mark.Star ∷ q) (qualifiers-more volatiles true), o)
stars-ok c scope0 m volatiles k o (t.Mark mark.Comma) = star_over-ok c scope0 m volatiles k (t.Mark mark.Comma) o
stars-ok c scope0 m volatiles k o (t.Mark mark.CloseParen) = star_over-ok c scope0 m volatiles k (t.Mark mark.CloseParen) o
stars-ok c scope0 m volatiles k o _ = (refl, o, refl)

params_start-ok : (c : Class) (scope0 : Scope) (inner : Bool) (k : ℕ) → Open c scope0 (head.ParamsStart inner) k → (token : Terminal) →
    MoveOk c scope0 (so_far (head.ParamsStart inner) k) k token (params_start inner token)
params_start-ok c scope0 true k o (t.Mark mark.CloseParen) =
    (ap (λ j. inner_declarator true ++ (sign mark.OpenParen ∷ Enter ∷ (parameters j ++ (sign mark.CloseParen ∷ [])))) o.3, (o.0, suits-params c scope0 true false k o.0 o.1, tt))
params_start-ok c scope0 false k o (t.Mark mark.CloseParen) =
    (ap (λ j. inner_declarator false ++ (sign mark.OpenParen ∷ Enter ∷ (parameters j ++ (sign mark.CloseParen ∷ [])))) o.3, (o.0, suits-params c scope0 false false k o.0 o.1, tt))
params_start-ok c scope0 true k o (t.Key key.Void) = (refl, o)
params_start-ok c scope0 false k o (t.Key key.Void) = (refl, o)
params_start-ok c scope0 inner k o _ = (refl, o, refl)

params_next-ok : (c : Class) (scope0 : Scope) (inner : Bool) (k : ℕ) → Open c scope0 (head.ParamsNext inner) k → (token : Terminal) →
    MoveOk c scope0 (so_far (head.ParamsNext inner) k) k token (params_next inner token)
params_next-ok c scope0 inner k o (t.Mark mark.Comma) = (inr (refl, refl), o)
params_next-ok c scope0 true k o (t.Mark mark.CloseParen) = (refl, (o.0, suits-params c scope0 true false k o.0 o.1, tt))
params_next-ok c scope0 false k o (t.Mark mark.CloseParen) = (refl, (o.0, suits-params c scope0 false false k o.0 o.1, tt))
params_next-ok c scope0 inner k o _ = tt

lone-ok : (c : Class) (scope0 : Scope) (inner : Bool) (k : ℕ) → Open c scope0 (head.ParamsLone inner) k → MoveOk c scope0 (so_far (head.ParamsLone inner) k) k (t.Mark mark.Comma) (Shift (head.ParamsMore inner))
lone-ok c scope0 true k o = (inl (ap (λ j. inner_declarator true ++ (sign mark.OpenParen ∷ Enter ∷ (listed j (part class.Param) ++ (sign mark.Comma ∷ [])))) o.3), (o.0, o.1, o.2, omega (arith, o.3)))
lone-ok c scope0 false k o = (inl (ap (λ j. inner_declarator false ++ (sign mark.OpenParen ∷ Enter ∷ (listed j (part class.Param) ++ (sign mark.Comma ∷ [])))) o.3), (o.0, o.1, o.2, omega (arith, o.3)))

entry-false : (scope0 : Scope) (place : EntryBy) → Asks scope0 (kind.Entry place false) 0
entry-false scope0 by.Nothing = refl
entry-false scope0 by.Index = tt
entry-false scope0 (by.Member x) = tt

entry_named-ok : (c : Class) (scope0 : Scope) (place : EntryBy) (k : ℕ) → Open c scope0 (head.EntryNamed place) k → (token : Terminal) →
    MoveOk c scope0 (entry_place place) k token (entry_named place token)
entry_named-ok c scope0 place k o (t.Mark mark.Equal) = (refl, o)
entry_named-ok c scope0 place k o _ = (append-nil (entry_place place), (o.0, entry-false scope0 place), refl)

pub moves-ok : (h : Head) (c : Class) (scope0 scope : Scope) (k : ℕ) (parts : Trees) → Open c scope0 h k → through (so_far h k) parts scope0 ≡ scope → (token : Terminal) →
    MoveOk c scope0 (so_far h k) k token (move scope h token)
moves-ok head.GoalExpression c scope0 scope k parts o thr token = (refl, o, refl)
moves-ok head.GoalHead c scope0 scope k parts o thr token = (refl, o, refl)
moves-ok head.Group c scope0 scope k parts o thr token = (refl, o, refl)
moves-ok head.CastType c scope0 scope k parts o thr token = (refl, o, refl)
moves-ok head.CastOf c scope0 scope k parts o thr token = (refl, o, refl)
moves-ok (head.UnaryOf op) c scope0 scope k parts o thr token = (refl, o, refl)
moves-ok (head.PreOf minus) c scope0 scope k parts o thr token = (refl, o, refl)
moves-ok head.SizeofOf c scope0 scope k parts o thr token = (refl, o, refl)
moves-ok head.SizeofType c scope0 scope k parts o thr token = (refl, o, refl)
moves-ok (head.BinaryOf op) c scope0 scope k parts o thr token = (refl, o, refl)
moves-ok (head.AssignOf op) c scope0 scope k parts o thr token = (refl, o, refl)
moves-ok head.CommaOf c scope0 scope k parts o thr token = (refl, o, refl)
moves-ok head.ChooseYes c scope0 scope k parts o thr token = (refl, o, refl)
moves-ok head.ChooseNo c scope0 scope k parts o thr token = (refl, o, refl)
moves-ok head.IndexOf c scope0 scope k parts o thr token = (refl, o, refl)
moves-ok head.CallMore c scope0 scope k parts o thr token = (refl, o, refl)
moves-ok head.ExpressionOf c scope0 scope k parts o thr token = (refl, o, refl)
moves-ok head.IfTest c scope0 scope k parts o thr token = (refl, o, refl)
moves-ok head.IfThen c scope0 scope k parts o thr token = (refl, o, refl)
moves-ok head.IfElse c scope0 scope k parts o thr token = (refl, o, refl)
moves-ok head.WhileTest c scope0 scope k parts o thr token = (refl, o, refl)
moves-ok head.WhileBody c scope0 scope k parts o thr token = (refl, o, refl)
moves-ok head.DoBody c scope0 scope k parts o thr token = (refl, o, refl)
moves-ok head.DoTest c scope0 scope k parts o thr token = (refl, o, refl)
moves-ok (head.ForBody first test step') c scope0 scope k parts o thr token = (refl, o, refl)
moves-ok head.SwitchValue c scope0 scope k parts o thr token = (refl, o, refl)
moves-ok head.CaseOf c scope0 scope k parts o thr token = (refl, o, refl)
moves-ok (head.Constants p words x n) c scope0 scope k parts o thr token = (refl, o, refl)
moves-ok (head.ConstantOf x) c scope0 scope k parts o thr token = (refl, o, refl)
moves-ok (head.Declarators p words done) c scope0 scope k parts o thr token = (refl, o, refl)
moves-ok (head.Initialised p words done) c scope0 scope k parts o thr token = (refl, o, refl)
moves-ok (head.MemberDeclarators words) c scope0 scope k parts o thr token = (refl, o, refl)
moves-ok (head.ParamOf words) c scope0 scope k parts o thr token = (refl, o, refl)
moves-ok (head.TypeOf words) c scope0 scope k parts o thr token = (refl, o, refl)
moves-ok (head.DeclGroup m) c scope0 scope k parts o thr token = (refl, o, refl)
moves-ok (head.ParamsMore inner) c scope0 scope k parts o thr token = (refl, o, refl)
moves-ok head.ListStart c scope0 scope k parts o thr token = (refl, o, refl)
moves-ok head.EntryIndex c scope0 scope k parts o thr token = (refl, o, refl)
moves-ok (head.EntryOf place equals) c scope0 scope k parts o thr token = (refl, o, refl)
moves-ok head.FileOver c scope0 scope k parts o thr token = tt
moves-ok head.GoalOver c scope0 scope k parts o thr token = tt
moves-ok head.HeadRead c scope0 scope k parts o thr token = tt
moves-ok (head.HeadOver words) c scope0 scope k parts o thr token = tt
moves-ok (head.Opened l) c scope0 scope k parts o thr token = tt
moves-ok head.SizeofOpen c scope0 scope k parts o thr token = tt
moves-ok (head.DeclOpened m) c scope0 scope k parts o thr token = tt
moves-ok (head.FunctionBody words) c scope0 scope k parts o thr token = tt
moves-ok head.FileItems c scope0 scope k parts o thr token = end_or-ok c scope0 (so_far head.FileItems k) k (Shift head.FileOver) (Opens head.FileItems) (refl, tt) (λ u. (refl, tt, refl)) token
moves-ok head.GoalRead c scope0 scope k parts o thr token = end_or-ok c scope0 (so_far head.GoalRead k) k (Shift head.GoalOver) Refused (refl, o) (λ u. tt) token
moves-ok head.GroupEnd c scope0 scope k parts o thr token = close_paren-ok c scope0 (so_far head.GroupEnd k) k (Ends kind.Parens) (refl, (o, suits-expression c 16 scope0 kind.Parens k o, tt)) token
moves-ok head.CastEnd c scope0 scope k parts o thr token = close_paren-ok c scope0 (so_far head.CastEnd k) k (Shift head.CastOf) (refl, o) token
moves-ok head.SizeofStart c scope0 scope k parts o thr (t.Mark mark.OpenParen) = (refl, o)
moves-ok head.SizeofStart c scope0 scope k parts o thr token = (refl, o, refl)
moves-ok head.SizeofEnd c scope0 scope k parts o thr token = close_paren-ok c scope0 (so_far head.SizeofEnd k) k (Ends kind.SizeofType) (refl, (o, suits-expression c 15 scope0 kind.SizeofType k o, tt)) token
moves-ok head.ChooseColon c scope0 scope k parts o thr token = colon-ok c scope0 (so_far head.ChooseColon k) k (Shift head.ChooseNo) (refl, o) token
moves-ok head.IndexEnd c scope0 scope k parts o thr token = close_bracket-ok c scope0 (so_far head.IndexEnd k) k (Ends kind.Index) (refl, (o, suits-expression c 16 scope0 kind.Index k o, tt)) token
moves-ok head.CallStart c scope0 scope k parts o thr token = paren_or-ok c scope0 (so_far head.CallStart k) k (Ends kind.Call) (Opens head.CallStart) (ap (right_side kind.Call) o.1, (o.0, suits-expression c 16 scope0 kind.Call k o.0, tt)) (λ u. (refl, o, refl)) token
moves-ok head.CallNext c scope0 scope k parts o thr (t.Mark mark.Comma) = (refl, o)
moves-ok head.CallNext c scope0 scope k parts o thr (t.Mark mark.CloseParen) = (refl, (o.0, suits-expression c 16 scope0 kind.Call k o.0, tt))
moves-ok head.CallNext c scope0 scope k parts o thr token = tt
moves-ok (head.DotOf arrow) c scope0 scope k parts o thr (t.Name x) = (refl, (o, suits-expression c 16 scope0 (kind.Dot arrow x) k o, tt))
moves-ok (head.DotOf arrow) c scope0 scope k parts o thr token = tt
moves-ok head.BlockItems c scope0 scope k parts o thr token = brace_or-ok c scope0 (so_far head.BlockItems k) k (Ends kind.Block) (Opens head.BlockItems) (refl, (o, suits-block c scope0 kind.Block k tt o, tt)) (λ u. (refl, o, refl)) token
moves-ok head.ExpressionEnd c scope0 scope k parts o thr token = semicolon-ok c scope0 (so_far head.ExpressionEnd k) k (Ends kind.Expression) (ap (right_side kind.Expression) o.1, (o.0, suits-other c scope0 kind.Expression k tt o.0, tt)) token
moves-ok head.IfStart c scope0 scope k parts o thr token = open_paren-ok c scope0 (so_far head.IfStart k) k head.IfTest (refl, o) token
moves-ok head.IfEnd c scope0 scope k parts o thr token = close_paren-ok c scope0 (so_far head.IfEnd k) k (Shift head.IfThen) (refl, o) token
moves-ok head.IfThenEnd c scope0 scope k parts o thr token = absurd o
moves-ok head.WhileStart c scope0 scope k parts o thr token = open_paren-ok c scope0 (so_far head.WhileStart k) k head.WhileTest (refl, o) token
moves-ok head.WhileEnd c scope0 scope k parts o thr token = close_paren-ok c scope0 (so_far head.WhileEnd k) k (Shift head.WhileBody) (refl, o) token
moves-ok head.DoWhile c scope0 scope k parts o thr (t.Key key.While) = (refl, o)
moves-ok head.DoWhile c scope0 scope k parts o thr token = tt
moves-ok head.DoOpen c scope0 scope k parts o thr token = open_paren-ok c scope0 (so_far head.DoOpen k) k head.DoTest (refl, o) token
moves-ok head.DoClose c scope0 scope k parts o thr token = close_paren-ok c scope0 (so_far head.DoClose k) k (Shift head.DoEnd) (refl, o) token
moves-ok head.DoEnd c scope0 scope k parts o thr token = semicolon-ok c scope0 (so_far head.DoEnd k) k (Ends kind.Do) (refl, (o, suits-other c scope0 kind.Do k tt o, tt)) token
moves-ok head.ForStart c scope0 scope k parts o thr token = open_paren-ok c scope0 (so_far head.ForStart k) k head.ForFirst (refl, o) token
moves-ok head.ForFirst c scope0 scope k parts o thr token = semicolon_or-ok c scope0 (so_far head.ForFirst k) k (Shift (head.ForTest false)) (Opens head.ForFirst) (refl, o) (λ u. (refl, o, refl)) token
moves-ok head.ForFirstEnd c scope0 scope k parts o thr token = semicolon-ok c scope0 (so_far head.ForFirstEnd k) k (Shift (head.ForTest true)) (refl, o) token
moves-ok (head.ForTest true) c scope0 scope k parts o thr token = semicolon_or-ok c scope0 (so_far (head.ForTest true) k) k (Shift (head.ForStep true false)) (Opens (head.ForTest true)) (refl, o) (λ u. (refl, o, refl)) token
moves-ok (head.ForTestEnd true) c scope0 scope k parts o thr token = semicolon-ok c scope0 (so_far (head.ForTestEnd true) k) k (Shift (head.ForStep true true)) (refl, o) token
moves-ok (head.ForStep true true) c scope0 scope k parts o thr token = paren_or-ok c scope0 (so_far (head.ForStep true true) k) k (Shift (head.ForBody true true false)) (Opens (head.ForStep true true)) (refl, o) (λ u. (refl, o, refl)) token
moves-ok (head.ForStepEnd true true) c scope0 scope k parts o thr token = close_paren-ok c scope0 (so_far (head.ForStepEnd true true) k) k (Shift (head.ForBody true true true)) (refl, o) token
moves-ok (head.ForStep true false) c scope0 scope k parts o thr token = paren_or-ok c scope0 (so_far (head.ForStep true false) k) k (Shift (head.ForBody true false false)) (Opens (head.ForStep true false)) (refl, o) (λ u. (refl, o, refl)) token
moves-ok (head.ForStepEnd true false) c scope0 scope k parts o thr token = close_paren-ok c scope0 (so_far (head.ForStepEnd true false) k) k (Shift (head.ForBody true false true)) (refl, o) token
moves-ok (head.ForTest false) c scope0 scope k parts o thr token = semicolon_or-ok c scope0 (so_far (head.ForTest false) k) k (Shift (head.ForStep false false)) (Opens (head.ForTest false)) (refl, o) (λ u. (refl, o, refl)) token
moves-ok (head.ForTestEnd false) c scope0 scope k parts o thr token = semicolon-ok c scope0 (so_far (head.ForTestEnd false) k) k (Shift (head.ForStep false true)) (refl, o) token
moves-ok (head.ForStep false true) c scope0 scope k parts o thr token = paren_or-ok c scope0 (so_far (head.ForStep false true) k) k (Shift (head.ForBody false true false)) (Opens (head.ForStep false true)) (refl, o) (λ u. (refl, o, refl)) token
moves-ok (head.ForStepEnd false true) c scope0 scope k parts o thr token = close_paren-ok c scope0 (so_far (head.ForStepEnd false true) k) k (Shift (head.ForBody false true true)) (refl, o) token
moves-ok (head.ForStep false false) c scope0 scope k parts o thr token = paren_or-ok c scope0 (so_far (head.ForStep false false) k) k (Shift (head.ForBody false false false)) (Opens (head.ForStep false false)) (refl, o) (λ u. (refl, o, refl)) token
moves-ok (head.ForStepEnd false false) c scope0 scope k parts o thr token = close_paren-ok c scope0 (so_far (head.ForStepEnd false false) k) k (Shift (head.ForBody false false true)) (refl, o) token
moves-ok head.SwitchStart c scope0 scope k parts o thr token = open_paren-ok c scope0 (so_far head.SwitchStart k) k head.SwitchValue (refl, o) token
moves-ok head.SwitchEnd c scope0 scope k parts o thr token = close_paren-ok c scope0 (so_far head.SwitchEnd k) k (Shift head.SwitchBrace) (refl, o) token
moves-ok head.SwitchBrace c scope0 scope k parts o thr (t.Mark mark.OpenBrace) = (ap (so_far head.SwitchItems) o.1, (o.0, omega (arith, o.1)))
moves-ok head.SwitchBrace c scope0 scope k parts o thr token = tt
moves-ok head.SwitchItems c scope0 scope k parts o thr token = brace_or-ok c scope0 (so_far head.SwitchItems k) k (Ends kind.Switch) (Opens head.SwitchItems) (refl, (o.0, suits-other c scope0 kind.Switch k tt o.0, tt)) (λ u. (refl, o, refl)) token
moves-ok head.CaseEnd c scope0 scope k parts o thr token = colon-ok c scope0 (so_far head.CaseEnd k) k (Ends kind.Case) (refl, (o, suits-label c scope0 kind.Case k o, tt)) token
moves-ok head.DefaultEnd c scope0 scope k parts o thr token = colon-ok c scope0 (so_far head.DefaultEnd k) k (Ends kind.Default) (refl, (o, suits-label c scope0 kind.Default k o, tt)) token
moves-ok head.BreakEnd c scope0 scope k parts o thr token = semicolon-ok c scope0 (so_far head.BreakEnd k) k (Ends kind.Break) (refl, (o, suits-other c scope0 kind.Break k tt o, tt)) token
moves-ok head.ContinueEnd c scope0 scope k parts o thr token = semicolon-ok c scope0 (so_far head.ContinueEnd k) k (Ends kind.Continue) (refl, (o, suits-other c scope0 kind.Continue k tt o, tt)) token
moves-ok head.ReturnOf c scope0 scope k parts o thr token = semicolon_or-ok c scope0 (so_far head.ReturnOf k) k (Ends kind.Return) (Opens head.ReturnOf) (ap (right_side kind.Return) o.1, (o.0, suits-other c scope0 kind.Return k tt o.0, tt)) (λ u. (refl, o, refl)) token
moves-ok head.ReturnEnd c scope0 scope k parts o thr token = semicolon-ok c scope0 (so_far head.ReturnEnd k) k (Ends kind.Return) (ap (right_side kind.Return) o.1, (o.0, suits-other c scope0 kind.Return k tt o.0, tt)) token
moves-ok (head.Spec p words) c scope0 scope k parts o thr token = spec-ok p c scope0 scope words k parts o.0 o.1 o.2 (λ e. sym thr ∙ typeless-through words parts scope0 e) token
moves-ok (head.TagStart p words is_union) c scope0 scope k parts o thr token = tag_start-ok p c scope0 words is_union k o token
moves-ok (head.TagNamed p words is_union x) c scope0 scope k parts o thr token = tag_named-ok p c scope0 scope words is_union x k parts o token
moves-ok (head.Members p words is_union x n) c scope0 scope k parts o thr token = members-ok p c scope0 words is_union x n k o token
moves-ok (head.EnumStart p words) c scope0 scope k parts o thr token = enum_start-ok p c scope0 words k o token
moves-ok (head.EnumNamed p words x) c scope0 scope k parts o thr token = enum_named-ok p c scope0 scope words x k parts o token
moves-ok (head.ConstantsNext p words x n) c scope0 scope k parts o thr token = constants-ok p c scope0 words x n k o token
moves-ok (head.ConstantsComma p words x n) c scope0 scope k parts o thr token = constants_comma-ok p c scope0 words x n k o token
moves-ok (head.ConstantNamed x) c scope0 scope k parts o thr token = constant_named-ok c scope0 x k o token
moves-ok (head.Declared p words done) c scope0 scope k parts o thr token = declared-ok p c scope0 words done k o.0 o.1 token
moves-ok (head.InitialisedEnd p words done) c scope0 scope k parts o thr token = next-ok p c scope0 words done true k o.0 o.1 token
moves-ok (head.MemberDeclared words) c scope0 scope k parts o thr token = member-ok c scope0 words k o token
moves-ok (head.Stars m volatiles) c scope0 scope k parts o thr token = stars-ok c scope0 m volatiles k o token
moves-ok (head.DeclGroupEnd m) c scope0 scope k parts o thr token = close_paren-ok c scope0 (so_far (head.DeclGroupEnd m) k) k (Ends kind.DeclParens) (refl, (o.0, suits-parens c scope0 k o.0, tt)) token
moves-ok (head.BracketsStart true) c scope0 scope k parts o thr token = bracket_or-ok c scope0 (so_far (head.BracketsStart true) k) k (Ends (kind.Brackets true false)) (Opens (head.BracketsStart true)) (refl, (o.0, suits-brackets c scope0 true false k o.0 o.1, tt)) (λ u. (refl, o, refl)) token
moves-ok (head.BracketsEnd true) c scope0 scope k parts o thr token = close_bracket-ok c scope0 (so_far (head.BracketsEnd true) k) k (Ends (kind.Brackets true true)) (refl, (o.0, suits-brackets c scope0 true true k o.0 o.1, tt)) token
moves-ok (head.ParamsVoid true) c scope0 scope k parts o thr token = close_paren-ok c scope0 (so_far (head.ParamsVoid true) k) k (Ends (kind.Params true true)) (refl, (o.0, suits-params c scope0 true true k o.0 o.1, tt)) token
moves-ok (head.BracketsStart false) c scope0 scope k parts o thr token = bracket_or-ok c scope0 (so_far (head.BracketsStart false) k) k (Ends (kind.Brackets false false)) (Opens (head.BracketsStart false)) (refl, (o.0, suits-brackets c scope0 false false k o.0 o.1, tt)) (λ u. (refl, o, refl)) token
moves-ok (head.BracketsEnd false) c scope0 scope k parts o thr token = close_bracket-ok c scope0 (so_far (head.BracketsEnd false) k) k (Ends (kind.Brackets false true)) (refl, (o.0, suits-brackets c scope0 false true k o.0 o.1, tt)) token
moves-ok (head.ParamsVoid false) c scope0 scope k parts o thr token = close_paren-ok c scope0 (so_far (head.ParamsVoid false) k) k (Ends (kind.Params false true)) (refl, (o.0, suits-params c scope0 false true k o.0 o.1, tt)) token
moves-ok (head.ParamsStart inner) c scope0 scope k parts o thr token = params_start-ok c scope0 inner k o token
moves-ok (head.ParamsNext inner) c scope0 scope k parts o thr token = params_next-ok c scope0 inner k o token
moves-ok (head.ParamsLone inner) c scope0 scope k parts o thr token = by_comma-ok c scope0 (so_far (head.ParamsLone inner) k) k (head.ParamsMore inner) (lone-ok c scope0 inner k o) token
moves-ok head.ListNext c scope0 scope k parts o thr (t.Mark mark.Comma) = (refl, o)
moves-ok head.ListNext c scope0 scope k parts o thr (t.Mark mark.CloseBrace) = (refl, (o.0, suits-braced c scope0 (kind.InitList false) k o.0, o.1))
moves-ok head.ListNext c scope0 scope k parts o thr token = tt
moves-ok head.ListComma c scope0 scope k parts o thr token = brace_or-ok c scope0 (so_far head.ListComma k) k (Ends (kind.InitList true)) (Opens head.ListComma) (ap (λ q. sign mark.OpenBrace ∷ q) (sym (append_assoc (listed k (part class.Entry)) (sign mark.Comma ∷ []) (sign mark.CloseBrace ∷ []))), (o.0, suits-braced c scope0 (kind.InitList true) k o.0, o.1)) (λ u. (refl, o, refl)) token
moves-ok head.EntryIndexEnd c scope0 scope k parts o thr token = close_bracket-ok c scope0 (so_far head.EntryIndexEnd k) k (Shift (head.EntryNamed by.Index)) (refl, (o, tt)) token
moves-ok head.EntryDot c scope0 scope k parts o thr (t.Name x) = (refl, (o, tt))
moves-ok head.EntryDot c scope0 scope k parts o thr token = tt
moves-ok (head.EntryNamed place) c scope0 scope k parts o thr token = entry_named-ok c scope0 place k o token
