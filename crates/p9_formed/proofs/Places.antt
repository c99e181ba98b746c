-- Which classes the places of each kind's parts have.
use Rattle.std.proofs.Common.{◌≡◌, ℕ, zero, suc, ◌-◌, Bool, true, false, ◌&&◌, List, [], ◌∷◌, ◌++◌, map, Option, Some, None, refl}
use Rattle.p9_lang.specs.declared.tree.EntryBy.{EntryBy}
use Rattle.p9_lang.specs.declared.tree.EntryBy.TheVariants as by
use Rattle.p9_lang.specs.declared.tree.SpecWord.{SpecWord}
use Rattle.p9_lang.specs.declared.tree.SpecWord.TheVariants as word
use Rattle.p9_lang.specs.declared.tree.Kind.{Kind}
use Rattle.p9_lang.specs.declared.tree.Kind.TheVariants as kind
use Rattle.p9_grammar.specs.declared.terminal.Punctuator.TheVariants as mark
use Rattle.p9_grammar.specs.declared.head.Naming.TheVariants as naming
use Rattle.p9_grammar.specs.declared.head.Class.{Class}
use Rattle.p9_grammar.specs.declared.head.Class.TheVariants as class
use Rattle.p9_grammar.specs.Symbols.{Symbol, Write, Part, Enter, Slot, Of, Last, Pointed, Direct, Grouped, Plain, Declares, part, sign, many, later, listed, optional, at_most_one, named, in_braces, word_symbols, spec_symbols, spec_parts, is_typedef, declarator, declarator_of, initialiser, later_declarators, declarators, qualifier, inner_declarator, parameters, parameter_list, behind, entry_place, branches, texts, right_side, expression, assignment, conditional}
use Rattle.p9_formed.proofs.Slots.{pass, both, true_false}

-- Lists of symbols

and_true : (a b : Bool) → a ≡ true → b ≡ true → a && b ≡ true
and_true true b p q = q
and_true false b p q = p

pass_append : (test : Slot → Bool) (before others : List Symbol) → pass test before ≡ true → pass test others ≡ true → pass test (before ++ others) ≡ true
pass_append test [] others p q = q
pass_append test (Write t ∷ before) others p q = pass_append test before others p q
pass_append test (Enter ∷ before) others p q = pass_append test before others p q
pass_append test (Part slot role ∷ before) others p q =
    let parts = both (test slot) (pass test before) p in
    and_true (test slot) (pass test (before ++ others)) parts.0 (pass_append test before others parts.1 q)

pass_many : (test : Slot → Bool) (c : Class) → test (Of c) ≡ true → (n : ℕ) → pass test (many n c) ≡ true
pass_many test c p zero = refl
pass_many test c p (suc n) = and_true (test (Of c)) (pass test (many n c)) p (pass_many test c p n)

pass_later : (test : Slot → Bool) (s : Symbol) → pass test (s ∷ []) ≡ true → (n : ℕ) → pass test (later n s) ≡ true
pass_later test s p zero = refl
pass_later test s p (suc n) = pass_append test (s ∷ []) (later n s) p (pass_later test s p n)

pass_listed : (test : Slot → Bool) (s : Symbol) → pass test (s ∷ []) ≡ true → (n : ℕ) → pass test (listed n s) ≡ true
pass_listed test s p zero = refl
pass_listed test s p (suc n) = pass_append test (s ∷ []) (later n s) p (pass_later test s p n)

pass_optional : (test : Slot → Bool) (s : Symbol) → pass test (s ∷ []) ≡ true → (is_there : Bool) → pass test (optional is_there s) ≡ true
pass_optional test s p true = p
pass_optional test s p false = refl

pass_at_most_one : (test : Slot → Bool) (s : Symbol) → pass test (s ∷ []) ≡ true → (n : ℕ) → pass test (at_most_one n s) ≡ true
pass_at_most_one test s p zero = refl
pass_at_most_one test s p (suc n) = p

-- The heads of declarations: members and constants

pass_named : (test : Slot → Bool) (name : List ℕ) (others : List Symbol) → pass test others ≡ true → pass test (named name ++ others) ≡ true
pass_named test [] others p = p
pass_named test (b ∷ bs) others p = p

pass_in_braces : (test : Slot → Bool) (inside : ℕ → List Symbol) → ((n : ℕ) → pass test (inside n) ≡ true) → (count : Option ℕ)
    → pass test (in_braces count inside) ≡ true
pass_in_braces test inside p None = refl
pass_in_braces test inside p (Some n) = pass_append test (inside n) (sign mark.CloseBrace ∷ []) (p n) refl

pass_word : (test : Slot → Bool) → test (Of class.Member) ≡ true → test (Of class.Constant) ≡ true → (w : SpecWord) → pass test (word_symbols w) ≡ true
pass_word test m c (word.Tag true name members) =
    pass_named test name _ (pass_in_braces test (λ n. many n class.Member) (pass_many test class.Member m) members)
pass_word test m c (word.Tag false name members) =
    pass_named test name _ (pass_in_braces test (λ n. many n class.Member) (pass_many test class.Member m) members)
pass_word test m c (word.Enum name constants comma) =
    pass_named test name _
    (pass_in_braces test (λ n. listed n (part class.Constant) ++ optional comma (sign mark.Comma))
    (λ n. pass_append test (listed n (part class.Constant)) (optional comma (sign mark.Comma))
    (pass_listed test (part class.Constant) (and_true (test (Of class.Constant)) true c refl) n)
    (pass_optional test (sign mark.Comma) refl comma))
    constants)
pass_word test m c w = refl

pub pass_spec : (test : Slot → Bool) → test (Of class.Member) ≡ true → test (Of class.Constant) ≡ true → (words : List SpecWord)
    → pass test (spec_symbols words) ≡ true
pass_spec test m c [] = refl
pass_spec test m c (w ∷ ws) = pass_append test (word_symbols w) (spec_symbols ws) (pass_word test m c w) (pass_spec test m c ws)

-- The tests

-- no statement, declaration or function
abbrev pub is_calm_class : Class → Bool
is_calm_class (class.Expression l) = true
is_calm_class (class.Declarator n l) = true
is_calm_class class.Initialiser = true
is_calm_class class.Entry = true
is_calm_class class.Param = true
is_calm_class class.OnlyParam = true
is_calm_class class.Type = true
is_calm_class class.Member = true
is_calm_class class.Constant = true
is_calm_class c = false

-- no item of a file
abbrev pub is_inner_class : Class → Bool
is_inner_class class.FileItem = false
is_inner_class c = true

abbrev pub is_calm : Slot → Bool
is_calm (Of c) = is_calm_class c
is_calm Last = false
is_calm slot = true

abbrev pub is_inner : Slot → Bool
is_inner (Of c) = is_inner_class c
is_inner slot = true

-- a function, a block, or a statement with statements
abbrev pub holds_statements : Kind → Bool
holds_statements (kind.Function spec) = true
holds_statements kind.Block = true
holds_statements kind.If = true
holds_statements kind.While = true
holds_statements kind.Do = true
holds_statements (kind.For first test step) = true
holds_statements kind.Switch = true
holds_statements k = false

calm_inner : (slot : Slot) → is_calm slot ≡ true → is_inner slot ≡ true
calm_inner (Of class.FileItem) p = p
calm_inner (Of c) p = refl
calm_inner Last p = refl
calm_inner Pointed p = refl
calm_inner Direct p = refl
calm_inner Grouped p = refl

calm_are_inner : (symbols : List Symbol) → pass is_calm symbols ≡ true → pass is_inner symbols ≡ true
calm_are_inner [] p = refl
calm_are_inner (Write t ∷ symbols) p = calm_are_inner symbols p
calm_are_inner (Enter ∷ symbols) p = calm_are_inner symbols p
calm_are_inner (Part slot role ∷ symbols) p =
    let parts = both (is_calm slot) (pass is_calm symbols) p in
    and_true (is_inner slot) (pass is_inner symbols) (calm_inner slot parts.0) (calm_are_inner symbols parts.1)

-- Kinds whose parts are calm

initialiser_calm : (has : Bool) (others : List Symbol) → pass is_calm others ≡ true → pass is_calm (initialiser has ++ others) ≡ true
initialiser_calm true others p = p
initialiser_calm false others p = p

later_declarators_calm : (is_type : Bool) (inits : List Bool) → pass is_calm (later_declarators is_type inits) ≡ true
later_declarators_calm is_type [] = refl
later_declarators_calm is_type (init ∷ inits) = initialiser_calm init (later_declarators is_type inits) (later_declarators_calm is_type inits)

declarators_calm : (is_type : Bool) (inits : List Bool) → pass is_calm (declarators is_type inits) ≡ true
declarators_calm is_type [] = refl
declarators_calm is_type (init ∷ inits) = initialiser_calm init (later_declarators is_type inits) (later_declarators_calm is_type inits)

qualifiers_calm : (volatiles : List Bool) (others : List Symbol) → pass is_calm others ≡ true → pass is_calm (map qualifier volatiles ++ others) ≡ true
qualifiers_calm [] others p = p
qualifiers_calm (true ∷ volatiles) others p = qualifiers_calm volatiles others p
qualifiers_calm (false ∷ volatiles) others p = qualifiers_calm volatiles others p

inner_calm : (inner : Bool) (others : List Symbol) → pass is_calm others ≡ true → pass is_calm (inner_declarator inner ++ others) ≡ true
inner_calm true others p = p
inner_calm false others p = p

parameters_calm : (n : ℕ) → pass is_calm (parameters n) ≡ true
parameters_calm zero = refl
parameters_calm (suc zero) = refl
parameters_calm (suc (suc n)) = pass_later is_calm (part class.Param) refl (suc n)

parameter_list_calm : (void_word : Bool) (n : ℕ) → pass is_calm (parameter_list void_word n) ≡ true
parameter_list_calm true n = refl
parameter_list_calm false n = parameters_calm n

place_calm : (place : EntryBy) (others : List Symbol) → pass is_calm others ≡ true → pass is_calm (entry_place place ++ others) ≡ true
place_calm by.Nothing others p = p
place_calm by.Index others p = p
place_calm (by.Member name) others p = p

texts_calm : (pieces : List (List ℕ)) → pass is_calm (texts pieces) ≡ true
texts_calm [] = refl
texts_calm (t ∷ ts) = texts_calm ts

spec_calm : (words : List SpecWord) (others : List Symbol) → pass is_calm others ≡ true → pass is_calm (spec_symbols words ++ others) ≡ true
spec_calm words others p = pass_append is_calm (spec_symbols words) others (pass_spec is_calm refl refl words) p

pub places_are_calm : (k : Kind) (n : ℕ) → holds_statements k ≡ false → pass is_calm (right_side k n) ≡ true
places_are_calm (kind.Declaration spec inits) n h =
    spec_calm spec.words _ (pass_append is_calm (declarators (is_typedef spec.words) inits) _ (declarators_calm (is_typedef spec.words) inits) refl)
places_are_calm (kind.Function spec) n h = absurd (true_false h)
places_are_calm (kind.Member spec) n h =
    spec_calm spec.words _ (pass_append is_calm (listed (n - spec_parts spec.words) declarator) _ (pass_listed is_calm declarator refl (n - spec_parts spec.words)) refl)
places_are_calm (kind.EnumConst name true) n h = refl
places_are_calm (kind.EnumConst name false) n h = refl
places_are_calm (kind.Star volatiles) n h = qualifiers_calm volatiles _ (pass_at_most_one is_calm (Part Pointed Plain) refl n)
places_are_calm (kind.Brackets inner sized) n h =
    inner_calm inner _ (pass_append is_calm (optional sized (part conditional)) _ (pass_optional is_calm (part conditional) refl sized) refl)
places_are_calm (kind.Params inner void_word) n h =
    inner_calm inner _
    (pass_append is_calm (parameter_list void_word (behind inner n)) _ (parameter_list_calm void_word (behind inner n)) refl)
places_are_calm (kind.Param spec) n h =
    spec_calm spec.words _
    (pass_at_most_one is_calm (declarator_of naming.Either (Declares false)) refl (n - spec_parts spec.words))
places_are_calm (kind.NamedType spec) n h =
    spec_calm spec.words _ (pass_at_most_one is_calm (declarator_of naming.Bare Plain) refl (n - spec_parts spec.words))
places_are_calm (kind.InitList comma) n h =
    pass_append is_calm (listed n (part class.Entry)) _ (pass_listed is_calm (part class.Entry) refl n)
    (pass_append is_calm (optional comma (sign mark.Comma)) _ (pass_optional is_calm (sign mark.Comma) refl comma) refl)
places_are_calm (kind.Entry place equals) n h =
    place_calm place _ (pass_append is_calm (optional equals (sign mark.Equal)) _ (pass_optional is_calm (sign mark.Equal) refl equals) refl)
places_are_calm kind.Block n h = absurd (true_false h)
places_are_calm kind.Expression n h = pass_append is_calm (at_most_one n (part expression)) _ (pass_at_most_one is_calm (part expression) refl n) refl
places_are_calm kind.If n h = absurd (true_false h)
places_are_calm kind.While n h = absurd (true_false h)
places_are_calm kind.Do n h = absurd (true_false h)
places_are_calm (kind.For first test step) n h = absurd (true_false h)
places_are_calm kind.Switch n h = absurd (true_false h)
places_are_calm kind.Return n h = pass_append is_calm (at_most_one n (part expression)) _ (pass_at_most_one is_calm (part expression) refl n) refl
places_are_calm kind.Call n h = pass_append is_calm (listed (behind true n) (part assignment)) _ (pass_listed is_calm (part assignment) refl (behind true n)) refl
places_are_calm (kind.Text pieces) n h = texts_calm pieces
places_are_calm k n h = refl

-- The other kinds: no part is an item of a file

branches_inner : (n : ℕ) → pass is_inner (branches n) ≡ true
branches_inner zero = refl
branches_inner (suc zero) = refl
branches_inner (suc (suc zero)) = refl
branches_inner (suc (suc (suc n))) = refl

expression_inner : (is_there : Bool) (others : List Symbol) → pass is_inner others ≡ true → pass is_inner (optional is_there (part expression) ++ others) ≡ true
expression_inner true others p = p
expression_inner false others p = p

pub places_are_inner : (k : Kind) (n : ℕ) → pass is_inner (right_side k n) ≡ true
places_are_inner (kind.Function spec) n = pass_append is_inner (spec_symbols spec.words) _ (pass_spec is_inner refl refl spec.words) refl
places_are_inner kind.Block n = pass_append is_inner (many n class.BlockItem) _ (pass_many is_inner class.BlockItem refl n) refl
places_are_inner kind.If n = branches_inner n
places_are_inner kind.While n = refl
places_are_inner kind.Do n = refl
places_are_inner (kind.For first test step) n =
    expression_inner first _ (expression_inner test _ (expression_inner step _ refl))
places_are_inner kind.Switch n = pass_append is_inner (many (behind true n) class.SwitchItem) _ (pass_many is_inner class.SwitchItem refl (behind true n)) refl
places_are_inner k n = calm_are_inner (right_side k n) (places_are_calm k n refl)
