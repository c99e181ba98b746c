-- One more symbol behind those that are filled.
use Rattle.std.proofs.Common.{◌≡◌, ℕ, zero, suc, ◌+◌, ◌-◌, ◌≤◌, ◌<◌, nat_le, Bool, true, false, ◌||◌, ◌&&◌, ◌⊎◌, inl, inr, not, List, [], ◌∷◌, ◌++◌, length, Option, Some, None, refl, sym, ap, subst, ◌∙◌, arith, ⊎_elim, append_assoc, append-nil, map}
use Rattle.std.specs.Prelude.{⊤}
use Rattle.std.proofs.lemmas.Bool.{false≢true, and_parts, not-true}
use Rattle.p9_lang.specs.declared.tree.CBinary.{CBinary}
use Rattle.p9_lang.specs.declared.tree.CBinary.TheVariants as operator
use Rattle.p9_lang.specs.declared.tree.CUnary.{CUnary}
use Rattle.p9_lang.specs.declared.tree.CUnary.TheVariants as unary
use Rattle.p9_lang.specs.declared.tree.EntryBy.{EntryBy}
use Rattle.p9_lang.specs.declared.tree.EntryBy.TheVariants as by
use Rattle.p9_lang.specs.declared.tree.SpecWord.{SpecWord}
use Rattle.p9_lang.specs.declared.tree.SpecWord.TheVariants as word
use Rattle.p9_lang.specs.declared.tree.Kind.{Kind}
use Rattle.p9_lang.specs.declared.tree.Kind.TheVariants as kind
use Rattle.p9_grammar.specs.declared.terminal.Keyword.{Keyword}
use Rattle.p9_grammar.specs.declared.terminal.Keyword.TheVariants as key
use Rattle.p9_grammar.specs.declared.terminal.Punctuator.{Punctuator}
use Rattle.p9_grammar.specs.declared.terminal.Punctuator.TheVariants as mark
use Rattle.p9_grammar.specs.declared.terminal.Terminal.{Terminal}
use Rattle.p9_grammar.specs.declared.terminal.Terminal.TheVariants as t
use Rattle.p9_grammar.specs.declared.head.Context.{Context}
use Rattle.p9_grammar.specs.declared.head.Context.TheVariants as context
use Rattle.p9_grammar.specs.declared.head.Naming.{Naming}
use Rattle.p9_grammar.specs.declared.head.Naming.TheVariants as naming
use Rattle.p9_grammar.specs.declared.head.Class.{Class}
use Rattle.p9_grammar.specs.declared.head.Class.TheVariants as class
use Rattle.p9_grammar.specs.declared.head.Head.{Head}
use Rattle.p9_grammar.specs.declared.head.Head.TheVariants as head
use Rattle.p9_grammar.specs.Trees.{Tree, node, Trees, none, more, count, push}
use Rattle.p9_grammar.specs.Symbols.{Symbol, Write, Part, Enter, Slot, Of, Last, Pointed, Direct, Grouped, Role, Plain, Declares, Begins, part, sign, keyword, right_side, binds, binary_sign, unary_sign, assignment_sign, step_sign, dot_sign, expression, assignment, conditional, operand, later, listed, many, optional, at_most_one, branches, texts, spec_symbols, word_symbols, spec_parts, is_typedef, declarator, declarator_of, declarators, later_declarators, initialiser, qualifier, inner_declarator, parameters, parameter_list, behind, entry_place, named, in_braces, tag_key}
use Rattle.p9_grammar.specs.Scopes.{Scope, Level, is_type, after, told, told_first, through, add, leave, tells, nothing, Told, innermost, outer}
use Rattle.p9_grammar.specs.Grammar.{Sort, sort, Accepts, Suits, Asks, Formed, Fills, slot_class, naming_of, may_of, past, past_in, is_assignable, SpecFrom, IsSpec, may_follow, has_type, is_known, is_void_word, pointed, grouped}
use Rattle.p9_grammar.specs.Machine.{Frame, Read, Stack, State, state, to, fresh, moved, made, leaf, start_of, step, run, begin, begin_by, begin_spec, begin_expression, begin_declarator, begin_statement, begin_switch_item, begin_initialiser, only_if, or_else, Begin, Pushes, Leaf, Under, Nowhere, Move, Shift, Ends, Opens, Over, Refused, After, To, Makes, Unwanted, Join, Joins, Posts, Lengthens, Apart, opening, inside, resolve, attach, attached, joining, join, join_at, join_if, join_expression, join_declarator, settle, going, feed, decide, choose, wanted, role, retold, enters, opens, Infix, Binds, No, binding, binary, assigns, level_of, direct_of, move, spec_move, begins_type, allows_storage, spec, shift_if, ends_spec, paren_or, brace_or, semicolon_or, bracket_or}
use Rattle.p9_grammar.proofs.Spelling.{spell, spells}
use Rattle.p9_grammar.specs.Machine.{is_begun, only_if, begin_entry, begin_body, begin_constant, fed, else_move, stepped}
use Rattle.p9_grammar.specs.Grammar.{Expression, Declarator, Braced, Entry, Param, TypeName, Member, Constant, Declaration, Function, Block, Statement, Label}
use Rattle.p9_grammar.specs.Grammar.{tokens, write}
use Rattle.std.specs.List.{list_any}
use Rattle.p9_grammar.specs.Grammar.{share, names_type}
use Rattle.p9_grammar.proofs.Sofar.{WordsFrom}

fills-write : (d : Class) (x : Terminal) (symbols : List Symbol) (scope : Scope) (at : ℕ) (ps : Trees) → Fills d symbols scope at ps → Fills d (symbols ++ (Write x ∷ [])) scope at ps
fills-write d x [] scope at none h = tt
fills-write d x [] scope at (more n ns) h = h
fills-write d x (Write y ∷ symbols) scope at ps h = fills-write d x symbols scope (suc at) ps h
fills-write d x (Enter ∷ symbols) scope at ps h = fills-write d x symbols ([] ∷ scope) at ps h
fills-write d x (Part slot r ∷ symbols) scope at none h = h
fills-write d x (Part slot r ∷ symbols) scope at (more n ns) h = (h.0, fills-write d x symbols (add r (told n scope) (after n scope)) (past n at) ns h.1)

fills-enter : (d : Class) (symbols : List Symbol) (scope : Scope) (at : ℕ) (ps : Trees) → Fills d symbols scope at ps → Fills d (symbols ++ (Enter ∷ [])) scope at ps
fills-enter d [] scope at none h = tt
fills-enter d [] scope at (more n ns) h = h
fills-enter d (Write y ∷ symbols) scope at ps h = fills-enter d symbols scope (suc at) ps h
fills-enter d (Enter ∷ symbols) scope at ps h = fills-enter d symbols ([] ∷ scope) at ps h
fills-enter d (Part slot r ∷ symbols) scope at none h = h
fills-enter d (Part slot r ∷ symbols) scope at (more n ns) h = (h.0, fills-enter d symbols (add r (told n scope) (after n scope)) (past n at) ns h.1)

pub fills-part : (d : Class) (slot : Slot) (r : Role) (n : Tree) (symbols : List Symbol) (scope : Scope) (at : ℕ) (ps : Trees) → Fills d symbols scope at ps →
    Formed (slot_class d slot) (through symbols ps scope) (past_in symbols ps at) n → Fills d (symbols ++ (Part slot r ∷ [])) scope at (push ps n)
fills-part d slot r n [] scope at none h f = (f, tt)
fills-part d slot r n [] scope at (more m ms) h f = absurd h
fills-part d slot r n (Write y ∷ symbols) scope at ps h f = fills-part d slot r n symbols scope (suc at) ps h f
fills-part d slot r n (Enter ∷ symbols) scope at ps h f = fills-part d slot r n symbols ([] ∷ scope) at ps h f
fills-part d slot r n (Part slot' r' ∷ symbols) scope at none h f = absurd h
fills-part d slot r n (Part slot' r' ∷ symbols) scope at (more m ms) h f = (h.0, fills-part d slot r n symbols (add r' (told m scope) (after m scope)) (past m at) ms h.1 f)

pub through-write : (x : Terminal) (symbols : List Symbol) (scope : Scope) (ps : Trees) → through (symbols ++ (Write x ∷ [])) ps scope ≡ through symbols ps scope
through-write x [] scope ps = refl
through-write x (Write y ∷ symbols) scope ps = through-write x symbols scope ps
through-write x (Enter ∷ symbols) scope ps = through-write x symbols ([] ∷ scope) ps
through-write x (Part slot r ∷ symbols) scope none = through-write x symbols scope none
through-write x (Part slot r ∷ symbols) scope (more n ns) = through-write x symbols (add r (told n scope) (after n scope)) ns

through-enter : (symbols : List Symbol) (scope : Scope) (ps : Trees) → through (symbols ++ (Enter ∷ [])) ps scope ≡ [] ∷ through symbols ps scope
through-enter [] scope ps = refl
through-enter (Write y ∷ symbols) scope ps = through-enter symbols scope ps
through-enter (Enter ∷ symbols) scope ps = through-enter symbols ([] ∷ scope) ps
through-enter (Part slot r ∷ symbols) scope none = through-enter symbols scope none
through-enter (Part slot r ∷ symbols) scope (more n ns) = through-enter symbols (add r (told n scope) (after n scope)) ns

pub through-part : (d : Class) (slot : Slot) (r : Role) (n : Tree) (symbols : List Symbol) (scope : Scope) (at : ℕ) (ps : Trees) → Fills d symbols scope at ps →
    through (symbols ++ (Part slot r ∷ [])) (push ps n) scope ≡ add r (told n (through symbols ps scope)) (after n (through symbols ps scope))
through-part d slot r n [] scope at none h = refl
through-part d slot r n [] scope at (more m ms) h = absurd h
through-part d slot r n (Write y ∷ symbols) scope at ps h = through-part d slot r n symbols scope (suc at) ps h
through-part d slot r n (Enter ∷ symbols) scope at ps h = through-part d slot r n symbols ([] ∷ scope) at ps h
through-part d slot r n (Part slot' r' ∷ symbols) scope at none h = absurd h
through-part d slot r n (Part slot' r' ∷ symbols) scope at (more m ms) h = through-part d slot r n symbols (add r' (told m scope) (after m scope)) (past m at) ms h.1

pub past-write : (x : Terminal) (symbols : List Symbol) (at : ℕ) (ps : Trees) → past_in (symbols ++ (Write x ∷ [])) ps at ≡ suc (past_in symbols ps at)
past-write x [] at ps = refl
past-write x (Write y ∷ symbols) at ps = past-write x symbols (suc at) ps
past-write x (Enter ∷ symbols) at ps = past-write x symbols at ps
past-write x (Part slot r ∷ symbols) at none = past-write x symbols at none
past-write x (Part slot r ∷ symbols) at (more n ns) = past-write x symbols (past n at) ns

past-enter : (symbols : List Symbol) (at : ℕ) (ps : Trees) → past_in (symbols ++ (Enter ∷ [])) ps at ≡ past_in symbols ps at
past-enter [] at ps = refl
past-enter (Write y ∷ symbols) at ps = past-enter symbols (suc at) ps
past-enter (Enter ∷ symbols) at ps = past-enter symbols at ps
past-enter (Part slot r ∷ symbols) at none = past-enter symbols at none
past-enter (Part slot r ∷ symbols) at (more n ns) = past-enter symbols (past n at) ns

pub past-part : (d : Class) (slot : Slot) (r : Role) (n : Tree) (symbols : List Symbol) (scope : Scope) (at : ℕ) (ps : Trees) → Fills d symbols scope at ps →
    past_in (symbols ++ (Part slot r ∷ [])) (push ps n) at ≡ past n (past_in symbols ps at)
past-part d slot r n [] scope at none h = refl
past-part d slot r n [] scope at (more m ms) h = absurd h
past-part d slot r n (Write y ∷ symbols) scope at ps h = past-part d slot r n symbols scope (suc at) ps h
past-part d slot r n (Enter ∷ symbols) scope at ps h = past-part d slot r n symbols ([] ∷ scope) at ps h
past-part d slot r n (Part slot' r' ∷ symbols) scope at none h = absurd h
past-part d slot r n (Part slot' r' ∷ symbols) scope at (more m ms) h = past-part d slot r n symbols (add r' (told m scope) (after m scope)) (past m at) ms h.1

pub write-write : (x : Terminal) (symbols : List Symbol) (ps : Trees) → write (symbols ++ (Write x ∷ [])) ps ≡ write symbols ps ++ (x ∷ [])
write-write x [] ps = refl
write-write x (Write y ∷ symbols) ps = ap (λ ts. y ∷ ts) (write-write x symbols ps)
write-write x (Enter ∷ symbols) ps = write-write x symbols ps
write-write x (Part slot r ∷ symbols) none = write-write x symbols none
write-write x (Part slot r ∷ symbols) (more n ns) = ap (λ ts. tokens n ++ ts) (write-write x symbols ns) ∙ sym (append_assoc (tokens n) (write symbols ns) (x ∷ []))

write-enter : (symbols : List Symbol) (ps : Trees) → write (symbols ++ (Enter ∷ [])) ps ≡ write symbols ps
write-enter [] ps = refl
write-enter (Write y ∷ symbols) ps = ap (λ ts. y ∷ ts) (write-enter symbols ps)
write-enter (Enter ∷ symbols) ps = write-enter symbols ps
write-enter (Part slot r ∷ symbols) none = write-enter symbols none
write-enter (Part slot r ∷ symbols) (more n ns) = ap (λ ts. tokens n ++ ts) (write-enter symbols ns)

pub write-part : (d : Class) (slot : Slot) (r : Role) (n : Tree) (symbols : List Symbol) (scope : Scope) (at : ℕ) (ps : Trees) → Fills d symbols scope at ps →
    write (symbols ++ (Part slot r ∷ [])) (push ps n) ≡ write symbols ps ++ tokens n
write-part d slot r n [] scope at none h = append-nil (tokens n)
write-part d slot r n [] scope at (more m ms) h = absurd h
write-part d slot r n (Write y ∷ symbols) scope at ps h = ap (λ ts. y ∷ ts) (write-part d slot r n symbols scope (suc at) ps h)
write-part d slot r n (Enter ∷ symbols) scope at ps h = write-part d slot r n symbols ([] ∷ scope) at ps h
write-part d slot r n (Part slot' r' ∷ symbols) scope at none h = absurd h
write-part d slot r n (Part slot' r' ∷ symbols) scope at (more m ms) h =
    ap (λ ts. tokens m ++ ts) (write-part d slot r n symbols (add r' (told m scope) (after m scope)) (past m at) ms h.1) ∙ sym (append_assoc (tokens m) (write symbols ms) (tokens n))

-- What is read along the symbols: parts that fill them in a node of any class of this naming, from one
-- scope and place to another, behind the tokens before them.
pub record Along (m : Naming) (symbols : List Symbol) (scope0 : Scope) (from : ℕ) (parts : Trees) (us : List Terminal) (scope : Scope) (at : ℕ) (ts : List Terminal) : Type 0 where
  pub fills : (d : Class) → naming_of d ≡ m → Fills d symbols scope0 from parts
  pub leads : through symbols parts scope0 ≡ scope
  pub comes : past_in symbols parts from ≡ at
  pub wrote : us ++ write symbols parts ≡ ts

pub along-write : (m : Naming) (symbols : List Symbol) (scope0 : Scope) (from : ℕ) (parts : Trees) (us : List Terminal) (scope : Scope) (at : ℕ) (ts : List Terminal) (x : Terminal) →
    Along m symbols scope0 from parts us scope at ts → Along m (symbols ++ (Write x ∷ [])) scope0 from parts us scope (suc at) (ts ++ (x ∷ []))
along-write m symbols scope0 from parts us scope at ts x a = record {
  fills = λ d e. fills-write d x symbols scope0 from parts (a.fills d e);
  leads = through-write x symbols scope0 parts ∙ a.leads;
  comes = past-write x symbols from parts ∙ ap suc a.comes;
  wrote = ap (λ ws. us ++ ws) (write-write x symbols parts) ∙ sym (append_assoc us (write symbols parts) (x ∷ [])) ∙ ap (λ ws. ws ++ (x ∷ [])) a.wrote;
}

pub along-enter : (m : Naming) (symbols : List Symbol) (scope0 : Scope) (from : ℕ) (parts : Trees) (us : List Terminal) (scope : Scope) (at : ℕ) (ts : List Terminal) →
    Along m symbols scope0 from parts us scope at ts → Along m (symbols ++ (Enter ∷ [])) scope0 from parts us ([] ∷ scope) at ts
along-enter m symbols scope0 from parts us scope at ts a = record {
  fills = λ d e. fills-enter d symbols scope0 from parts (a.fills d e);
  leads = through-enter symbols scope0 parts ∙ ap (λ sc. [] ∷ sc) a.leads;
  comes = past-enter symbols from parts ∙ a.comes;
  wrote = ap (λ ws. us ++ ws) (write-enter symbols parts) ∙ a.wrote;
}

-- a class of this naming
abbrev pub sample : Naming → Class
sample m = class.Declarator m 15

pub along-part : (m : Naming) (symbols : List Symbol) (scope0 : Scope) (from : ℕ) (parts : Trees) (us : List Terminal) (scope : Scope) (at : ℕ) (ts : List Terminal) (slot : Slot) (r : Role) (n : Tree) →
    Along m symbols scope0 from parts us scope at ts → ((d : Class) → naming_of d ≡ m → Formed (slot_class d slot) scope at n) →
    Along m (symbols ++ (Part slot r ∷ [])) scope0 from (push parts n) us (add r (told n scope) (after n scope)) (past n at) (ts ++ tokens n)
along-part m symbols scope0 from parts us scope at ts slot r n a f = record {
  fills = λ d e. fills-part d slot r n symbols scope0 from parts (a.fills d e)
      (subst (λ sc. Formed (slot_class d slot) sc (past_in symbols parts from) n) (sym a.leads) (subst (λ p. Formed (slot_class d slot) scope p n) (sym a.comes) (f d e)));
  leads = through-part (sample m) slot r n symbols scope0 from parts (a.fills (sample m) refl) ∙ ap (λ sc. add r (told n sc) (after n sc)) a.leads;
  comes = past-part (sample m) slot r n symbols scope0 from parts (a.fills (sample m) refl) ∙ ap (past n) a.comes;
  wrote = ap (λ ws. us ++ ws) (write-part (sample m) slot r n symbols scope0 from parts (a.fills (sample m) refl)) ∙ sym (append_assoc us (write symbols parts) (tokens n)) ∙ ap (λ ws. ws ++ tokens n) a.wrote;
}

pub along-same : (m : Naming) (symbols symbols' : List Symbol) (scope0 : Scope) (from : ℕ) (parts : Trees) (us : List Terminal) (scope : Scope) (at : ℕ) (ts : List Terminal) → symbols' ≡ symbols →
    Along m symbols scope0 from parts us scope at ts → Along m symbols' scope0 from parts us scope at ts
along-same m symbols symbols' scope0 from parts us scope at ts e a = subst (λ x. Along m x scope0 from parts us scope at ts) (sym e) a

pub count-push : (ps : Trees) (n : Tree) → count (push ps n) ≡ suc (count ps)
count-push none n = refl
count-push (more m ms) n = ap suc (count-push ms n)

-- symbols and counts with one more at the end

pub many-more : (n : ℕ) (c : Class) → many (suc n) c ≡ many n c ++ (part c ∷ [])
many-more zero c = refl
many-more (suc n) c = ap (λ x. part c ∷ x) (many-more n c)

later-more : (n : ℕ) (s : Symbol) → later (suc n) s ≡ later n s ++ (sign mark.Comma ∷ s ∷ [])
later-more zero s = refl
later-more (suc n) s = ap (λ x. sign mark.Comma ∷ s ∷ x) (later-more n s)

pub listed-more : (n : ℕ) (s : Symbol) → listed (suc (suc n)) s ≡ (listed (suc n) s ++ (sign mark.Comma ∷ [])) ++ (s ∷ [])
listed-more n s = ap (λ x. s ∷ x) (later-more n s ∙ sym (append_assoc (later n s) (sign mark.Comma ∷ []) (s ∷ [])))

pub spec-more : (ws : List SpecWord) (w : SpecWord) → spec_symbols (ws ++ w ∷ []) ≡ spec_symbols ws ++ word_symbols w
spec-more [] w = append-nil (word_symbols w)
spec-more (v ∷ vs) w = ap (λ x. word_symbols v ++ x) (spec-more vs w) ∙ sym (append_assoc (word_symbols v) (spec_symbols vs) (word_symbols w))

pub parts-more : (ws : List SpecWord) (w : SpecWord) → spec_parts (ws ++ w ∷ []) ≡ spec_parts ws + Rattle.p9_grammar.specs.Symbols.word_parts w
parts-more [] w = omega arith
parts-more (v ∷ vs) w = omega (arith, parts-more vs w)

later_declarators-more : (is_type : Bool) (is : List Bool) (i : Bool) →
    later_declarators is_type (is ++ i ∷ []) ≡ later_declarators is_type is ++ (sign mark.Comma ∷ declarator_of naming.Named (Declares is_type) ∷ initialiser i)
later_declarators-more is_type [] true = refl
later_declarators-more is_type [] false = refl
later_declarators-more is_type (true ∷ is) i =
    ap (λ x. sign mark.Comma ∷ declarator_of naming.Named (Declares is_type) ∷ sign mark.Equal ∷ part class.Initialiser ∷ x) (later_declarators-more is_type is i)
later_declarators-more is_type (false ∷ is) i =
    ap (λ x. sign mark.Comma ∷ declarator_of naming.Named (Declares is_type) ∷ x) (later_declarators-more is_type is i)

pub declarators-more : (is_type : Bool) (is : List Bool) (i : Bool) →
    declarators is_type (is ++ i ∷ []) ≡ Rattle.p9_grammar.proofs.Sofar.before_declarator is_type is ++ (declarator_of naming.Named (Declares is_type) ∷ initialiser i)
declarators-more is_type [] true = refl
declarators-more is_type [] false = refl
declarators-more is_type (true ∷ is) i =
    ap (λ x. declarator_of naming.Named (Declares is_type) ∷ sign mark.Equal ∷ part class.Initialiser ∷ x)
    (later_declarators-more is_type is i ∙ sym (append_assoc (later_declarators is_type is) (sign mark.Comma ∷ []) (declarator_of naming.Named (Declares is_type) ∷ initialiser i)))
declarators-more is_type (false ∷ is) i =
    ap (λ x. declarator_of naming.Named (Declares is_type) ∷ x)
    (later_declarators-more is_type is i ∙ sym (append_assoc (later_declarators is_type is) (sign mark.Comma ∷ []) (declarator_of naming.Named (Declares is_type) ∷ initialiser i)))

pub qualifiers-more : (vs : List Bool) (v : Bool) → map qualifier (vs ++ v ∷ []) ≡ map qualifier vs ++ (qualifier v ∷ [])
qualifiers-more [] v = refl
qualifiers-more (u ∷ us) v = ap (λ x. qualifier u ∷ x) (qualifiers-more us v)

pub words-more : (storage : Bool) (scope : Scope) (before ws : List SpecWord) (w : SpecWord) → WordsFrom storage scope before ws →
    may_follow storage (before ++ ws) w ≡ true → is_known scope w ≡ true → WordsFrom storage scope before (ws ++ w ∷ [])
words-more storage scope before [] w h m n = (ap (λ b. may_follow storage b w) (sym (append-nil before)) ∙ m, n, tt)
words-more storage scope before (v ∷ vs) w h m n =
    (h.0, h.1, words-more storage scope (before ++ v ∷ []) vs w h.2 (ap (λ b. may_follow storage b w) (append_assoc before (v ∷ []) vs) ∙ m) n)

pub words-spec : (storage : Bool) (scope : Scope) (before ws : List SpecWord) → WordsFrom storage scope before ws → has_type (before ++ ws) ≡ true → SpecFrom storage scope before ws
words-spec storage scope before [] h e = ap has_type (sym (append-nil before)) ∙ e
words-spec storage scope before (w ∷ ws) h e = (h.0, h.1, words-spec storage scope (before ++ w ∷ []) ws h.2 (ap has_type (append_assoc before (w ∷ []) ws) ∙ e))

-- words without a type are tokens alone, and leave the names in scope
pub typeless-through : (ws : List SpecWord) (ps : Trees) (scope : Scope) → has_type ws ≡ false → through (spec_symbols ws) ps scope ≡ scope
typeless-through [] ps scope h = refl
typeless-through (word.Extern ∷ ws) ps scope h = typeless-through ws ps scope h
typeless-through (word.Static ∷ ws) ps scope h = typeless-through ws ps scope h
typeless-through (word.Typedef ∷ ws) ps scope h = typeless-through ws ps scope h
typeless-through (word.Auto ∷ ws) ps scope h = typeless-through ws ps scope h
typeless-through (word.Register ∷ ws) ps scope h = typeless-through ws ps scope h
typeless-through (word.Const ∷ ws) ps scope h = typeless-through ws ps scope h
typeless-through (word.Volatile ∷ ws) ps scope h = typeless-through ws ps scope h
typeless-through (_ ∷ ws) ps scope h = absurd (false≢true (sym h))

-- what the last part tells
abbrev pub last_told : Told → List Symbol → Trees → Scope → Told
last_told tl [] ps scope = tl
last_told tl (Write t ∷ symbols) ps scope = last_told tl symbols ps scope
last_told tl (Enter ∷ symbols) ps scope = last_told tl symbols ps ([] ∷ scope)
last_told tl (Part slot r ∷ symbols) none scope = last_told tl symbols none scope
last_told tl (Part slot r ∷ symbols) (more n ns) scope = last_told (told n scope) symbols ns (add r (told n scope) (after n scope))

pub last-part : (d : Class) (tl : Told) (slot : Slot) (r : Role) (n : Tree) (symbols : List Symbol) (scope : Scope) (at : ℕ) (ps : Trees) → Fills d symbols scope at ps →
    last_told tl (symbols ++ (Part slot r ∷ [])) (push ps n) scope ≡ told n (through symbols ps scope)
last-part d tl slot r n [] scope at none h = refl
last-part d tl slot r n [] scope at (more m ms) h = absurd h
last-part d tl slot r n (Write y ∷ symbols) scope at ps h = last-part d tl slot r n symbols scope (suc at) ps h
last-part d tl slot r n (Enter ∷ symbols) scope at ps h = last-part d tl slot r n symbols ([] ∷ scope) at ps h
last-part d tl slot r n (Part slot' r' ∷ symbols) scope at none h = absurd h
last-part d tl slot r n (Part slot' r' ∷ symbols) scope at (more m ms) h = last-part d (told m scope) slot r n symbols (add r' (told m scope) (after m scope)) (past m at) ms h.1

-- the declarator of a function instead of one of a declaration
pub along-begins : (m : Naming) (symbols : List Symbol) (scope0 : Scope) (from : ℕ) (parts : Trees) (us : List Terminal) (scope : Scope) (at : ℕ) (ts : List Terminal) (slot : Slot) (b : Bool) →
    Along m (symbols ++ (Part slot (Declares b) ∷ [])) scope0 from parts us scope at ts →
    Along m (symbols ++ (Part slot (Begins b) ∷ [])) scope0 from parts us ((last_told nothing (symbols ++ (Part slot (Declares b) ∷ [])) parts scope0).level ∷ scope) at ts
along-begins m symbols scope0 from parts us scope at ts slot b a = record {
  fills = λ d e. fills d symbols scope0 from parts (a.fills d e);
  leads = leads (sample m) nothing symbols scope0 from parts (a.fills (sample m) refl) ∙ ap (λ sc. (last_told nothing (symbols ++ (Part slot (Declares b) ∷ [])) parts scope0).level ∷ sc) a.leads;
  comes = comes symbols from parts ∙ a.comes;
  wrote = ap (λ ws. us ++ ws) (wrote symbols parts) ∙ a.wrote;
}
  where
    fills : (d : Class) (symbols : List Symbol) (scope : Scope) (at : ℕ) (ps : Trees) → Fills d (symbols ++ (Part slot (Declares b) ∷ [])) scope at ps → Fills d (symbols ++ (Part slot (Begins b) ∷ [])) scope at ps
    fills d [] scope at none h = h
    fills d [] scope at (more n none) h = h
    fills d [] scope at (more n (more o ns)) h = h
    fills d (Write y ∷ symbols) scope at ps h = fills d symbols scope (suc at) ps h
    fills d (Enter ∷ symbols) scope at ps h = fills d symbols ([] ∷ scope) at ps h
    fills d (Part slot' r ∷ symbols) scope at none h = h
    fills d (Part slot' r ∷ symbols) scope at (more n ns) h = (h.0, fills d symbols (add r (told n scope) (after n scope)) (past n at) ns h.1)

    leads : (d : Class) (tl : Told) (symbols : List Symbol) (scope : Scope) (at : ℕ) (ps : Trees) → Fills d (symbols ++ (Part slot (Declares b) ∷ [])) scope at ps →
        through (symbols ++ (Part slot (Begins b) ∷ [])) ps scope ≡ (last_told tl (symbols ++ (Part slot (Declares b) ∷ [])) ps scope).level ∷ through (symbols ++ (Part slot (Declares b) ∷ [])) ps scope
    leads d tl [] scope at none h = absurd h
    leads d tl [] scope at (more n none) h = refl
    leads d tl [] scope at (more n (more o ns)) h = absurd h.1
    leads d tl (Write y ∷ symbols) scope at ps h = leads d tl symbols scope (suc at) ps h
    leads d tl (Enter ∷ symbols) scope at ps h = leads d tl symbols ([] ∷ scope) at ps h
    leads d tl (Part slot' r ∷ symbols) scope at none h = absurd h
    leads d tl (Part slot' r ∷ symbols) scope at (more n ns) h = leads d (told n scope) symbols (add r (told n scope) (after n scope)) (past n at) ns h.1

    comes : (symbols : List Symbol) (at : ℕ) (ps : Trees) → past_in (symbols ++ (Part slot (Begins b) ∷ [])) ps at ≡ past_in (symbols ++ (Part slot (Declares b) ∷ [])) ps at
    comes [] at none = refl
    comes [] at (more n ns) = refl
    comes (Write y ∷ symbols) at ps = comes symbols (suc at) ps
    comes (Enter ∷ symbols) at ps = comes symbols at ps
    comes (Part slot' r ∷ symbols) at none = comes symbols at none
    comes (Part slot' r ∷ symbols) at (more n ns) = comes symbols (past n at) ns

    wrote : (symbols : List Symbol) (ps : Trees) → write (symbols ++ (Part slot (Begins b) ∷ [])) ps ≡ write (symbols ++ (Part slot (Declares b) ∷ [])) ps
    wrote [] none = refl
    wrote [] (more n ns) = refl
    wrote (Write y ∷ symbols) ps = ap (λ ts. y ∷ ts) (wrote symbols ps)
    wrote (Enter ∷ symbols) ps = wrote symbols ps
    wrote (Part slot' r ∷ symbols) none = wrote symbols none
    wrote (Part slot' r ∷ symbols) (more n ns) = ap (λ ts. tokens n ++ ts) (wrote symbols ns)
