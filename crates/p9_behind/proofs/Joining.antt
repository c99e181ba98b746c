-- Lists of names and members, one behind another.
use Rattle.std.proofs.Common.{◌≡◌, ℕ, ◌||◌, List, [], ◌∷◌, ◌++◌, map, append_assoc, refl, ap, sym, ◌∙◌}
use Rattle.std.proofs.lemmas.List.Folds.{list_any-append}
use Rattle.p9_lang.specs.declared.types.Member.{Member}
use Rattle.p9_lang.specs.Names.{is_among, same_name}
use Rattle.p9_lang.specs.Types.{MemberTree, member_of, members_of}
use Rattle.p9_lang.specs.Parts.{Part, Members, Value, Declarator, Object, Enumerator, Parameter, NamedType, Braced, Filled, CaseLabel, DefaultLabel, Statement, members_in}

pub among_either : (names others : List (List ℕ)) (x : List ℕ) → is_among (names ++ others) x ≡ (is_among names x || is_among others x)
among_either names others x = list_any-append (same_name x) names others

pub members_append : (ms others : List Member) → members_of (ms ++ others) ≡ members_of ms ++ members_of others
members_append [] others = refl
members_append (m ∷ ms) others = ap (λ l. member_of m ∷ l) (members_append ms others)

empty_behind : {A : Type 0} (xs : List A) → xs ++ [] ≡ xs
empty_behind [] = refl
empty_behind (x ∷ xs) = ap (λ l. x ∷ l) (empty_behind xs)

-- members behind those of the parts before
pub members_last : (before : List Part) (members : List MemberTree) → members_in (before ++ Members members ∷ []) ≡ members_in before ++ members
members_last [] members = empty_behind members
members_last (Members ms ∷ parts) members = ap (λ l. ms ++ l) (members_last parts members) ∙ sym (append_assoc ms (members_in parts) members)
members_last (Value o ∷ parts) members = members_last parts members
members_last (Declarator steps ∷ parts) members = members_last parts members
members_last (Object type steps last role ∷ parts) members = members_last parts members
members_last (Enumerator x value ∷ parts) members = members_last parts members
members_last (Parameter type ∷ parts) members = members_last parts members
members_last (NamedType type ∷ parts) members = members_last parts members
members_last (Braced count ∷ parts) members = members_last parts members
members_last (Filled next ∷ parts) members = members_last parts members
members_last (CaseLabel word ∷ parts) members = members_last parts members
members_last (DefaultLabel ∷ parts) members = members_last parts members
members_last (Statement ∷ parts) members = members_last parts members

members_first : (part : Part) (parts : List Part) → members_in (part ∷ parts) ≡ members_in (part ∷ []) ++ members_in parts
members_first (Members ms) parts = ap (λ l. l ++ members_in parts) (sym (empty_behind ms))
members_first (Value o) parts = refl
members_first (Declarator steps) parts = refl
members_first (Object type steps last role) parts = refl
members_first (Enumerator x value) parts = refl
members_first (Parameter type) parts = refl
members_first (NamedType type) parts = refl
members_first (Braced count) parts = refl
members_first (Filled next) parts = refl
members_first (CaseLabel word) parts = refl
members_first DefaultLabel parts = refl
members_first Statement parts = refl

-- one part more
pub members_on : {A : Type 0} (told : A → Part) (parts others : List A) (first : A) (so_far next whole : List MemberTree) → parts ≡ first ∷ others
    → next ≡ so_far ++ members_in (map told (first ∷ [])) → so_far ++ members_in (map told parts) ≡ whole → next ++ members_in (map told others) ≡ whole
members_on told parts others first so_far next whole e f g =
    ap (λ l. l ++ members_in (map told others)) f
    ∙ append_assoc so_far (members_in (map told (first ∷ []))) (members_in (map told others))
    ∙ ap (λ l. so_far ++ l) (sym (members_first (told first) (map told others)))
    ∙ ap (λ l. so_far ++ members_in (map told l)) (sym e) ∙ g

-- those of a part that is members
pub members_with : (ms others all : List Member) → all ≡ ms ++ others → members_of all ≡ members_of ms ++ (members_of others ++ [])
members_with ms others all e = ap members_of e ∙ members_append ms others ∙ ap (λ l. members_of ms ++ l) (sym (empty_behind (members_of others)))
