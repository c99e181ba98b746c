-- The block of a function stands last, directly behind its declarator.
use Rattle.std.proofs.Common.{◌≡◌, ℕ, suc, Bool, true, false, List, [], ◌∷◌, ◌++◌, refl, subst, sym}
use Rattle.p9_lang.specs.declared.tree.Kind.{Kind}
use Rattle.p9_lang.specs.declared.tree.Kind.TheVariants as kind
use Rattle.p9_lang.specs.Trees.{Syntax, SyntaxRow}
use Rattle.p9_lang.specs.Trees as typing
use Rattle.p9_lang.specs.Parts.{is_declarator, kind_at}
use Rattle.p9_grammar.specs.declared.head.Naming.{Naming}
use Rattle.p9_grammar.specs.declared.head.Naming.TheVariants as naming
use Rattle.p9_grammar.specs.declared.head.Class.{Class}
use Rattle.p9_grammar.specs.declared.head.Class.TheVariants as class
use Rattle.p9_grammar.specs.Trees.{Tree, node, Trees, none, more, count, trees_of}
use Rattle.p9_grammar.specs.Symbols.{Symbol, Write, Part, Enter, Slot, Of, Last, Pointed, Direct, Grouped, Role, Begins, part, declarator_of, spec_symbols, is_typedef, file_symbols}
use Rattle.p9_grammar.specs.Scopes.{Scope, add, after, told}
use Rattle.p9_grammar.specs.Grammar.{Declarator, sort, Accepts, Formed, Fills, slot_class, past}
use Rattle.p9_grammar.specs.Promise.{file_scope}
use Rattle.p9_sound.specs.Functions.{Either, IsBody, HasBody, IsOrderly, AreOrderly}
use Rattle.p9_formed.specs.Laws.{WellFormedFilesAreOrderly}
use Rattle.p9_formed.proofs.Trees.{syntax, syntaxes, trees_agree}
use Rattle.p9_formed.proofs.Slots.{pass, both, false_true, any, all_pass, Next, next_part}
use Rattle.p9_formed.proofs.Places.{pass_spec}
use Rattle.p9_formed.proofs.Statements.{parts_are_statements}

-- a member or a constant, as in the braces of a head
abbrev pub is_head_class : Class → Bool
is_head_class class.Member = true
is_head_class class.Constant = true
is_head_class c = false

abbrev pub is_head : Slot → Bool
is_head (Of c) = is_head_class c
is_head slot = false

heads_no_declarator : (c : Class) (l : ℕ) → is_head_class c ≡ true → Accepts c (Declarator l) → ⊥
heads_no_declarator class.Member l p a = a
heads_no_declarator class.Constant l p a = a
heads_no_declarator c l p a = false_true p

-- what stands in the braces of a head is no declarator
head_kind : (c : Class) (k : Kind) → is_head_class c ≡ true → Accepts c (sort k) → is_declarator k ≡ false
head_kind c (kind.DeclName x) p a = absurd (heads_no_declarator c 16 p a)
head_kind c (kind.Star volatiles) p a = absurd (heads_no_declarator c 15 p a)
head_kind c (kind.Brackets inner sized) p a = absurd (heads_no_declarator c 16 p a)
head_kind c (kind.Params inner void_word) p a = absurd (heads_no_declarator c 16 p a)
head_kind c kind.DeclParens p a = absurd (heads_no_declarator c 16 p a)
head_kind c k p a = refl

head_class : (c : Class) (slot : Slot) → is_head slot ≡ true → is_head_class (slot_class c slot) ≡ true
head_class c (Of d) p = p
head_class c Last p = absurd (false_true p)
head_class c Pointed p = absurd (false_true p)
head_class c Direct p = absurd (false_true p)
head_class c Grouped p = absurd (false_true p)

head_part : (t : Tree) (c : Class) (scope : Scope) (at : ℕ) → is_head_class c ≡ true → Formed c scope at t → is_declarator (kind_at (syntax t)) ≡ false
head_part (node k token parts) c scope at p f = head_kind c k p f.1

declarator_kind : (k : Kind) (n : Naming) (l : ℕ) → Accepts (class.Declarator n l) (sort k) → is_declarator k ≡ true
declarator_kind (kind.DeclName x) n l a = refl
declarator_kind (kind.Star volatiles) n l a = refl
declarator_kind (kind.Brackets inner sized) n l a = refl
declarator_kind (kind.Params inner void_word) n l a = refl
declarator_kind kind.DeclParens n l a = refl
declarator_kind k n l a = absurd a

declarator_part : (t : Tree) (n : Naming) (l : ℕ) (scope : Scope) (at : ℕ) → Formed (class.Declarator n l) scope at t → is_declarator (kind_at (syntax t)) ≡ true
declarator_part (node k token parts) n l scope at f = declarator_kind k n l f.1

body_part : (t : Tree) (scope : Scope) (at : ℕ) → Formed class.Body scope at t → IsBody (syntax t) typing.none
body_part (node kind.Block token parts) scope at f = parts_are_statements kind.Block parts class.Body scope at f.4
body_part (node k token parts) scope at f = absurd f.1

-- the block behind the declarator
body_behind : (t next : Syntax) (others : SyntaxRow) → is_declarator (kind_at t) ≡ true → IsBody next others → HasBody (typing.more t (typing.more next others))
body_behind t next others d b = subst (λ is. Either is (IsBody next others) (HasBody (typing.more next others))) (sym d) b

-- the block further back
body_later : (t : Syntax) (others : SyntaxRow) → is_declarator (kind_at t) ≡ false → HasBody others → HasBody (typing.more t others)
body_later t typing.none d b = b
body_later t (typing.more next others) d b = subst (λ is. Either is (IsBody next others) (HasBody (typing.more next others))) (sym d) b

-- the parts of a function: those of its head, its declarator and its block
function_has_body : (symbols : List Symbol) (role : Role) (c : Class) (scope : Scope) (at : ℕ) (parts : Trees) → pass is_head symbols ≡ true
    → Fills c (symbols ++ (declarator_of naming.Named role ∷ part class.Body ∷ [])) scope at parts → HasBody (syntaxes parts)
function_has_body [] role c scope at none p h = absurd h
function_has_body [] role c scope at (more d none) p h = absurd h.1
function_has_body [] role c scope at (more d (more b (more t ts))) p h = absurd h.1.1
function_has_body [] role c scope at (more d (more b none)) p h =
    body_behind (syntax d) (syntax b) typing.none (declarator_part d naming.Named 15 scope at h.0)
    (body_part b (add role (told d scope) (after d scope)) (past d at) h.1.0)
function_has_body (Write t ∷ symbols) role c scope at parts p h = function_has_body symbols role c scope (suc at) parts p h
function_has_body (Enter ∷ symbols) role c scope at parts p h = function_has_body symbols role c ([] ∷ scope) at parts p h
function_has_body (Part slot r ∷ symbols) role c scope at none p h = absurd h
function_has_body (Part slot r ∷ symbols) role c scope at (more t ts) p h =
    let parts = both (is_head slot) (pass is_head symbols) p in
    body_later (syntax t) (syntaxes ts) (head_part t (slot_class c slot) scope at (head_class c slot parts.0) h.0)
    (function_has_body symbols role c (add r (told t scope) (after t scope)) (past t at) ts parts.1 h.1)

item_is_orderly : (t : Tree) (c : Class) (scope : Scope) (at : ℕ) → Formed c scope at t → IsOrderly (syntax t)
item_is_orderly (node (kind.Function spec) token parts) c scope at f =
    function_has_body (spec_symbols spec.words) (Begins (is_typedef spec.words)) c scope at parts (pass_spec is_head refl refl spec.words) f.4
item_is_orderly (node k token parts) c scope at f = tt

items_are_orderly : (ts : Trees) (c : Class) (symbols : List Symbol) (scope : Scope) (at : ℕ) → Fills c symbols scope at ts → AreOrderly (syntaxes ts)
items_are_orderly none c symbols scope at h = tt
items_are_orderly (more t ts) c symbols scope at h =
    let n : Next any c t ts = next_part any c symbols scope at t ts (all_pass symbols) h in
    (item_is_orderly t (slot_class c n.slot) n.scope n.at n.formed, items_are_orderly ts c n.left n.behind_scope n.behind_at n.fills)

pub well_formed_files_are_orderly : WellFormedFilesAreOrderly
well_formed_files_are_orderly items h =
    subst AreOrderly (trees_agree items) (items_are_orderly (trees_of items) class.Body (file_symbols (count (trees_of items))) file_scope 0 h)
