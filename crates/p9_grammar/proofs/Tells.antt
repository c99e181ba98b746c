-- What declarators tell while they are open.
use Rattle.std.proofs.Common.{◌≡◌, ℕ, zero, suc, ◌+◌, ◌-◌, ◌≤◌, ◌<◌, nat_le, Bool, true, false, ◌||◌, ◌&&◌, ◌⊎◌, inl, inr, not, List, [], ◌∷◌, ◌++◌, length, Option, Some, None, refl, sym, ap, subst, ◌∙◌, arith, ⊎_elim, append_assoc, append-nil, map}
use Rattle.std.specs.Prelude.{⊤}
use Rattle.std.proofs.lemmas.Bool.{false≢true, and_parts, not-true}
use Rattle.p9_lang.specs.declared.tree.CBinary.{CBinary}
use Rattle.p9_lang.specs.declared.tree.CBinary.TheVariants as operator
use Rattle.p9_lang.specs.declared.tree.CUnary.{CUnary}
use Rattle.p9_lang.specs.declared.tree.CUnary.TheVariants as unary
use Rattle.p9_lang.specs.declared.tree.EntryBy.{EntryBy}
use Rattle.p9_lang.specs.declared.tree.EntryBy.TheVariants as by
use Rattle.p9_lang.specs.declared.tree.SpecWord.{SpecWord}
use Rattle.p9_lang.specs.declared.tree.SpecWord.TheVariants as word
use Rattle.p9_lang.specs.declared.tree.Kind.{Kind}
use Rattle.p9_lang.specs.declared.tree.Kind.TheVariants as kind
use Rattle.p9_grammar.specs.declared.terminal.Keyword.{Keyword}
use Rattle.p9_grammar.specs.declared.terminal.Keyword.TheVariants as key
use Rattle.p9_grammar.specs.declared.terminal.Punctuator.{Punctuator}
use Rattle.p9_grammar.specs.declared.terminal.Punctuator.TheVariants as mark
use Rattle.p9_grammar.specs.declared.terminal.Terminal.{Terminal}
use Rattle.p9_grammar.specs.declared.terminal.Terminal.TheVariants as t
use Rattle.p9_grammar.specs.declared.head.Context.{Context}
use Rattle.p9_grammar.specs.declared.head.Context.TheVariants as context
use Rattle.p9_grammar.specs.declared.head.Naming.{Naming}
use Rattle.p9_grammar.specs.declared.head.Naming.TheVariants as naming
use Rattle.p9_grammar.specs.declared.head.Class.{Class}
use Rattle.p9_grammar.specs.declared.head.Class.TheVariants as class
use Rattle.p9_grammar.specs.declared.head.Head.{Head}
use Rattle.p9_grammar.specs.declared.head.Head.TheVariants as head
use Rattle.p9_grammar.specs.Trees.{Tree, node, Trees, none, more, count, push}
use Rattle.p9_grammar.specs.Symbols.{Symbol, Write, Part, Enter, Slot, Of, Last, Pointed, Direct, Grouped, Role, Plain, Declares, Begins, part, sign, keyword, right_side, binds, binary_sign, unary_sign, assignment_sign, step_sign, dot_sign, expression, assignment, conditional, operand, later, listed, many, optional, at_most_one, branches, texts, spec_symbols, word_symbols, spec_parts, is_typedef, declarator, declarator_of, declarators, later_declarators, initialiser, qualifier, inner_declarator, parameters, parameter_list, behind, entry_place, named, in_braces, tag_key}
use Rattle.p9_grammar.specs.Scopes.{Scope, Level, is_type, after, told, told_first, through, add, leave, tells, nothing, Told, innermost, outer}
use Rattle.p9_grammar.specs.Grammar.{Sort, sort, Accepts, Suits, Asks, Formed, Fills, slot_class, naming_of, may_of, past, past_in, is_assignable, SpecFrom, IsSpec, may_follow, has_type, is_known, is_void_word, pointed, grouped}
use Rattle.p9_grammar.specs.Machine.{Frame, Read, Stack, State, state, to, fresh, moved, made, leaf, start_of, step, run, begin, begin_by, begin_spec, begin_expression, begin_declarator, begin_statement, begin_switch_item, begin_initialiser, only_if, or_else, Begin, Pushes, Leaf, Under, Nowhere, Move, Shift, Ends, Opens, Over, Refused, After, To, Makes, Unwanted, Join, Joins, Posts, Lengthens, Apart, opening, inside, resolve, attach, attached, joining, join, join_at, join_if, join_expression, join_declarator, settle, going, feed, decide, choose, wanted, role, retold, enters, opens, Infix, Binds, No, binding, binary, assigns, level_of, direct_of, move, spec_move, begins_type, allows_storage, spec, shift_if, ends_spec, paren_or, brace_or, semicolon_or, bracket_or}
use Rattle.p9_grammar.proofs.Spelling.{spell, spells}
use Rattle.p9_grammar.specs.Machine.{is_begun, only_if, begin_entry, begin_body, begin_constant, fed, else_move, stepped}
use Rattle.p9_grammar.specs.Grammar.{Expression, Declarator, Braced, Entry, Param, TypeName, Member, Constant, Declaration, Function, Block, Statement, Label}
use Rattle.p9_grammar.specs.Grammar.{tokens, write}
use Rattle.p9_grammar.specs.Machine.{else_move, fed, stepped, or_close_paren, is_close_paren}
use Rattle.p9_grammar.proofs.Reading.{is_no_else}
use Rattle.p9_grammar.proofs.Calm.{true_le}
use Rattle.p9_grammar.proofs.Sofar.{so_far, Open, before_declarator}
use Rattle.p9_grammar.proofs.Along.{Along, along-write, along-enter, along-part, along-same, along-begins, count-push, last_told, last-part, sample}
use Rattle.p9_grammar.proofs.Moves.{at_token, Wants, Closed, MoveOk, moves-ok, suits-other}
use Rattle.p9_grammar.proofs.Attach.{AfterOk, attach-ok, is_step, is_retold, relax-any, naming-same}
use Rattle.p9_grammar.proofs.Begins.{BeginOk, begins-ok, Low, JoinOk, joins-ok, Fit}

-- What a declarator that is open tells: what its first step does, where that is one.

abbrev pub Tells : List Symbol → Told → Trees → Scope → Type 0
Tells [] tl ps scope = ⊤
Tells (Write x ∷ symbols) tl ps scope = Tells symbols tl ps scope
Tells (Enter ∷ symbols) tl ps scope = Tells symbols tl ps ([] ∷ scope)
Tells (Part (Of c) r ∷ symbols) tl ps scope = ⊤
Tells (Part Last r ∷ symbols) tl ps scope = ⊤
Tells (Part Pointed r ∷ symbols) tl none scope = ⊤
Tells (Part Pointed r ∷ symbols) tl (more n ns) scope = tl ≡ told n scope
Tells (Part Direct r ∷ symbols) tl none scope = ⊤
Tells (Part Direct r ∷ symbols) tl (more n ns) scope = tl ≡ told n scope
Tells (Part Grouped r ∷ symbols) tl none scope = ⊤
Tells (Part Grouped r ∷ symbols) tl (more n ns) scope = tl ≡ told n scope

pub tells-write : (x : Terminal) (symbols : List Symbol) (tl : Told) (ps : Trees) (scope : Scope) → Tells symbols tl ps scope → Tells (symbols ++ (Write x ∷ [])) tl ps scope
tells-write x [] tl ps scope h = tt
tells-write x (Write y ∷ symbols) tl ps scope h = tells-write x symbols tl ps scope h
tells-write x (Enter ∷ symbols) tl ps scope h = tells-write x symbols tl ps ([] ∷ scope) h
tells-write x (Part (Of c) r ∷ symbols) tl ps scope h = tt
tells-write x (Part Last r ∷ symbols) tl ps scope h = tt
tells-write x (Part Pointed r ∷ symbols) tl none scope h = tt
tells-write x (Part Pointed r ∷ symbols) tl (more n ns) scope h = h
tells-write x (Part Direct r ∷ symbols) tl none scope h = tt
tells-write x (Part Direct r ∷ symbols) tl (more n ns) scope h = h
tells-write x (Part Grouped r ∷ symbols) tl none scope h = tt
tells-write x (Part Grouped r ∷ symbols) tl (more n ns) scope h = h

step-told : (slot : Slot) (r : Role) (n : Tree) (tl : Told) (scope : Scope) → (is_step slot ≡ true → tl ≡ told n scope) → Tells (Part slot r ∷ []) tl (more n none) scope
step-told (Of c) r n tl scope h = tt
step-told Last r n tl scope h = tt
step-told Pointed r n tl scope h = h refl
step-told Direct r n tl scope h = h refl
step-told Grouped r n tl scope h = h refl

pub tells-part : (d : Class) (slot : Slot) (r : Role) (n : Tree) (symbols : List Symbol) (tl : Told) (ps : Trees) (scope : Scope) (at : ℕ) → Fills d symbols scope at ps → Tells symbols tl ps scope →
    (is_step slot ≡ true → tl ≡ told n (through symbols ps scope)) → Tells (symbols ++ (Part slot r ∷ [])) tl (push ps n) scope
tells-part d slot r n [] tl none scope at f h g = step-told slot r n tl scope g
tells-part d slot r n [] tl (more m ms) scope at f h g = absurd f
tells-part d slot r n (Write y ∷ symbols) tl ps scope at f h g = tells-part d slot r n symbols tl ps scope (suc at) f h g
tells-part d slot r n (Enter ∷ symbols) tl ps scope at f h g = tells-part d slot r n symbols tl ps ([] ∷ scope) at f h g
tells-part d slot r n (Part slot' r' ∷ symbols) tl none scope at f h g = absurd f
tells-part d slot r n (Part (Of c) r' ∷ symbols) tl (more m ms) scope at f h g = tt
tells-part d slot r n (Part Last r' ∷ symbols) tl (more m ms) scope at f h g = tt
tells-part d slot r n (Part Pointed r' ∷ symbols) tl (more m ms) scope at f h g = h
tells-part d slot r n (Part Direct r' ∷ symbols) tl (more m ms) scope at f h g = h
tells-part d slot r n (Part Grouped r' ∷ symbols) tl (more m ms) scope at f h g = h

-- symbols without such a step
abbrev pub Untold : List Symbol → Type 0
Untold symbols = (tl : Told) (ps : Trees) (scope : Scope) → Tells symbols tl ps scope

untold-named : (x : List ℕ) (symbols : List Symbol) → Untold symbols → Untold (named x ++ symbols)
untold-named [] symbols h = h
untold-named (b ∷ bs) symbols h = h

untold-tag : (is_union : Bool) (symbols : List Symbol) → Untold symbols → Untold (tag_key is_union ∷ symbols)
untold-tag true symbols h = h
untold-tag false symbols h = h

untold-members : (inside : Option ℕ) (symbols : List Symbol) → Untold symbols → Untold (in_braces inside (λ n. many n class.Member) ++ symbols)
untold-members None symbols h = h
untold-members (Some zero) symbols h = h
untold-members (Some (suc n)) symbols h = λ tl ps scope. tt

untold-constants : (inside : Option ℕ) (comma : Bool) (symbols : List Symbol) → Untold symbols → Untold (in_braces inside (λ n. listed n (part class.Constant) ++ optional comma (sign mark.Comma)) ++ symbols)
untold-constants None comma symbols h = h
untold-constants (Some zero) true symbols h = h
untold-constants (Some zero) false symbols h = h
untold-constants (Some (suc n)) comma symbols h = λ tl ps scope. tt

untold-word : (w : SpecWord) (symbols : List Symbol) → Untold symbols → Untold (word_symbols w ++ symbols)
untold-word (word.Tag is_union x inside) symbols h =
    subst Untold (ap (λ q. tag_key is_union ∷ q) (sym (append_assoc (named x) (in_braces inside (λ n. many n class.Member)) symbols)))
    (untold-tag is_union (named x ++ (in_braces inside (λ n. many n class.Member) ++ symbols)) (untold-named x (in_braces inside (λ n. many n class.Member) ++ symbols) (untold-members inside symbols h)))
untold-word (word.Enum x inside comma) symbols h =
    subst Untold (ap (λ q. keyword key.Enum ∷ q) (sym (append_assoc (named x) (in_braces inside (λ n. listed n (part class.Constant) ++ optional comma (sign mark.Comma))) symbols)))
    (untold-named x (in_braces inside (λ n. listed n (part class.Constant) ++ optional comma (sign mark.Comma)) ++ symbols) (untold-constants inside comma symbols h))
untold-word _ symbols h = h

pub untold-spec : (ws : List SpecWord) (symbols : List Symbol) → Untold symbols → Untold (spec_symbols ws ++ symbols)
untold-spec [] symbols h = h
untold-spec (w ∷ ws) symbols h = subst Untold (sym (append_assoc (word_symbols w) (spec_symbols ws) symbols)) (untold-word w (spec_symbols ws ++ symbols) (untold-spec ws symbols h))

untold-before : (is_type : Bool) (done : List Bool) → Untold (before_declarator is_type done)
untold-before is_type [] tl ps scope = tt
untold-before is_type (i ∷ is) tl ps scope = tt

untold-qualifiers : (vs : List Bool) → Untold (map qualifier vs)
untold-qualifiers [] tl ps scope = tt
untold-qualifiers (true ∷ vs) tl ps scope = untold-qualifiers vs tl ps scope
untold-qualifiers (false ∷ vs) tl ps scope = untold-qualifiers vs tl ps scope

pub retold-tells : (h : Head) (k : ℕ) (tl now : Told) (ps : Trees) (scope : Scope) → Tells (so_far h k) tl ps scope → Tells (so_far h k) (retold h tl now) ps scope
retold-tells (head.Declarators p words done) k tl now ps scope g = untold-spec words (before_declarator (is_typedef words) done) (untold-before (is_typedef words) done) now ps scope
retold-tells (head.ParamOf words) k tl now ps scope g = subst (λ ys. Tells ys now ps scope) (append-nil (spec_symbols words)) (untold-spec words [] (λ y qs sc. tt) now ps scope)
retold-tells (head.Stars m volatiles) k tl now ps scope g = untold-qualifiers volatiles now ps scope
retold-tells (head.DeclGroup m) k tl now ps scope g = tt
retold-tells _ k tl now ps scope g = g

pub retold-now : (h : Head) (tl now : Told) → is_retold h ≡ true → retold h tl now ≡ now
retold-now (head.Declarators p words done) tl now e = refl
retold-now (head.ParamOf words) tl now e = refl
retold-now (head.Stars m volatiles) tl now e = refl
retold-now (head.DeclGroup m) tl now e = refl
retold-now _ tl now e = absurd (false≢true e)

-- a node that is whole tells that
star-told : (vs : List Bool) (r : Role) (tl : Told) (n : Tree) (ns : Trees) (scope : Scope) → Tells (map qualifier vs ++ (Part Pointed r ∷ [])) tl (more n ns) scope → tl ≡ told n scope
star-told [] r tl n ns scope h = h
star-told (true ∷ vs) r tl n ns scope h = star-told vs r tl n ns scope h
star-told (false ∷ vs) r tl n ns scope h = star-told vs r tl n ns scope h

pub tells-node : (x : Kind) (ps : Trees) (d : Class) (tl : Told) (scope : Scope) (at : ℕ) (lv : Level) → Fills d (right_side x (count ps)) scope at ps → Tells (right_side x (count ps)) tl ps scope →
    tells x ps tl lv ≡ tells x ps (told_first ps scope) lv
tells-node (kind.Star vs) none d tl scope at lv f h = refl
tells-node (kind.Star vs) (more n ns) d tl scope at lv f h = star-told vs Plain tl n ns scope h
tells-node kind.DeclParens none d tl scope at lv f h = absurd f
tells-node kind.DeclParens (more n ns) d tl scope at lv f h = h
tells-node (kind.Brackets true sized) none d tl scope at lv f h = absurd f
tells-node (kind.Brackets true sized) (more n ns) d tl scope at lv f h = h
tells-node (kind.Brackets false sized) ps d tl scope at lv f h = refl
tells-node (kind.Params true void_word) none d tl scope at lv f h = absurd f
tells-node (kind.Params true void_word) (more n ns) d tl scope at lv f h = ap (λ y. tells (kind.Params true void_word) (more n ns) y lv) h
tells-node (kind.Params false void_word) ps d tl scope at lv f h = refl
tells-node _ ps d tl scope at lv f h = refl

-- whether the last symbol is a declarator that declares its name
abbrev declares : Symbol → Bool
declares (Part slot (Declares b)) = true
declares _ = false

abbrev last_declares : Symbol → List Symbol → Bool
last_declares x [] = declares x
last_declares x (y ∷ ys) = last_declares y ys

abbrev pub ends_declares : List Symbol → Bool
ends_declares [] = false
ends_declares (x ∷ xs) = last_declares x xs

last-of : (x : Symbol) (xs : List Symbol) (z : Symbol) → last_declares x (xs ++ (z ∷ [])) ≡ declares z
last-of x [] z = refl
last-of x (y ∷ ys) z = last-of y ys z

pub ends-with : (xs : List Symbol) (z : Symbol) → ends_declares (xs ++ (z ∷ [])) ≡ declares z
ends-with [] z = refl
ends-with (x ∷ xs) z = last-of x xs z

-- The stack, with the tokens before each node that is open

abbrev pub class_of : Stack → Class
class_of [] = class.Body
class_of (f ∷ s) = wanted f.head

wanted-fair : (h : Head) → may_of (wanted h) ≡ true
wanted-fair head.IfThen = refl
wanted-fair _ = refl

pub class-fair : (s : Stack) → may_of (class_of s) ≡ true
class-fair [] = refl
class-fair (f ∷ s) = wanted-fair f.head

abbrev is_low : Class → Bool
is_low (class.Expression l) = nat_le l 15
is_low (class.Declarator m l) = nat_le l 15
is_low class.OnlyParam = false
is_low _ = true

binary-low : (op : CBinary) → is_low (class.Expression (suc (binds op))) ≡ true
binary-low operator.Mul = refl
binary-low _ = refl

pub wanted-low : (h : Head) → is_low (wanted h) ≡ true
wanted-low (head.BinaryOf op) = binary-low op
wanted-low _ = refl

pub to-low : (c : Class) → is_low c ≡ true → Low c
to-low (class.Expression l) h = true_le l 15 h
to-low (class.Declarator m l) h = true_le l 15 h
to-low class.OnlyParam h = absurd (false≢true h)
to-low _ h = tt

low-class : (s : Stack) → Low (class_of s)
low-class [] = tt
low-class (f ∷ s) = to-low (wanted f.head) (wanted-low f.head)

pub at-accepts : (c : Class) (token : Terminal) (x : Sort) → Accepts c x → Accepts (at_token c token) x
at-accepts (class.Statement may) token Block a = tt
at-accepts (class.Statement may) token Statement a = tt
at-accepts (class.Statement may) token _ a = absurd a
at-accepts _ token x a = a
