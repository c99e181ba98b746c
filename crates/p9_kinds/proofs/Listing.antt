-- Parameters and members, a part at a time.
use Rattle.std.specs.Prelude.{◌↔◌, IsTrue}
use Rattle.std.proofs.Common.{◌≡◌, Bool, true, false, List, [], ◌∷◌, ◌++◌, length, reverse, refl, sym, ap, ◌∙◌, append_assoc, arith}
use Rattle.std.proofs.lemmas.List.{reverse-append, append-nil}
use Rattle.p9_lang.specs.declared.types.Member.{Member}
use Rattle.p9_lang.specs.Types.{TypeTree, MemberTree, member_of, members_of}
use Rattle.p9_lang.specs.Parts as parts
use Rattle.p9_lang.specs.Parts.{parameter_types, declared_members, or_unnamed}
use Rattle.p9_parts.specs.declared.part.Part.{Part}
use Rattle.p9_parts.specs.Told.{part_of, parts_of}

pub members_end : (ms : List Member) (m : Member) → members_of (ms ++ m ∷ []) ≡ members_of ms ++ member_of m ∷ []
members_end [] m = refl
members_end (n ∷ ms) m = ap (λ l. member_of n ∷ l) (members_end ms m)

-- a list that is gone through from its last part
parts_end : (old new : List Part) (p : Part) → old ≡ new ++ p ∷ [] → parts_of (reverse old) ≡ part_of p ∷ parts_of (reverse new)
parts_end old new p e = ap (λ l. parts_of (reverse l)) e ∙ ap parts_of (reverse-append new (p ∷ []))

parameter_first : (p : parts.Part) (ps : List parts.Part) → parameter_types (p ∷ ps) ≡ parameter_types (p ∷ []) ++ parameter_types ps
parameter_first (parts.Value o) ps = refl
parameter_first (parts.Declarator steps) ps = refl
parameter_first (parts.Object type steps last role) ps = refl
parameter_first (parts.Members members) ps = refl
parameter_first (parts.Enumerator name value) ps = refl
parameter_first (parts.Parameter type) ps = refl
parameter_first (parts.NamedType type) ps = refl
parameter_first (parts.Braced count) ps = refl
parameter_first (parts.Filled next) ps = refl
parameter_first (parts.CaseLabel word) ps = refl
parameter_first parts.DefaultLabel ps = refl
parameter_first parts.Statement ps = refl

member_first : (base : TypeTree) (p : parts.Part) (ps : List parts.Part) → declared_members base (p ∷ ps) ≡ declared_members base (p ∷ []) ++ declared_members base ps
member_first base (parts.Value o) ps = refl
member_first base (parts.Declarator steps) ps = refl
member_first base (parts.Object type steps last role) ps = refl
member_first base (parts.Members members) ps = refl
member_first base (parts.Enumerator name value) ps = refl
member_first base (parts.Parameter type) ps = refl
member_first base (parts.NamedType type) ps = refl
member_first base (parts.Braced count) ps = refl
member_first base (parts.Filled next) ps = refl
member_first base (parts.CaseLabel word) ps = refl
member_first base parts.DefaultLabel ps = refl
member_first base parts.Statement ps = refl

-- what each part gives, behind what the parts before it gave
one_more : {X : Type 0} (gives : List parts.Part → List X) (xs ys all : List X) (old new : List Part) (p : Part)
    → ((q : parts.Part) (qs : List parts.Part) → gives (q ∷ qs) ≡ gives (q ∷ []) ++ gives qs)
    → old ≡ new ++ p ∷ [] → ys ≡ xs ++ gives (part_of p ∷ [])
    → xs ++ gives (parts_of (reverse old)) ≡ all → ys ++ gives (parts_of (reverse new)) ≡ all
one_more gives xs ys all old new p first e f g =
    ap (λ l. l ++ gives (parts_of (reverse new))) f
    ∙ append_assoc xs (gives (part_of p ∷ [])) (gives (parts_of (reverse new)))
    ∙ ap (λ l. xs ++ l) (sym (first (part_of p) (parts_of (reverse new))))
    ∙ ap (λ l. xs ++ gives l) (sym (parts_end old new p e))
    ∙ g

pub parameters_step : (xs ys all : List TypeTree) (old new : List Part) (p : Part)
    → old ≡ new ++ p ∷ [] → ys ≡ xs ++ parameter_types (part_of p ∷ [])
    → xs ++ parameter_types (parts_of (reverse old)) ≡ all → ys ++ parameter_types (parts_of (reverse new)) ≡ all
parameters_step xs ys all old new p e f g = one_more parameter_types xs ys all old new p parameter_first e f g

pub members_step : (base : TypeTree) (xs ys all : List MemberTree) (old new : List Part) (p : Part)
    → old ≡ new ++ p ∷ [] → ys ≡ xs ++ declared_members base (part_of p ∷ [])
    → xs ++ declared_members base (parts_of (reverse old)) ≡ all → ys ++ declared_members base (parts_of (reverse new)) ≡ all
members_step base xs ys all old new p e f g = one_more (declared_members base) xs ys all old new p (member_first base) e f g

-- behind the last part
pub all_members : (base : TypeTree) (xs all : List MemberTree) (left : List Part)
    → length left ≡ 0 → xs ++ declared_members base (parts_of (reverse left)) ≡ all → xs ≡ all
all_members base xs all [] e f = sym (append-nil xs) ∙ f
all_members base xs all (p ∷ left) e f = absurd (omega arith)

-- where some are declared, none is unnamed
pub named_members : (base : TypeTree) (ms : List Member) (empty : Bool) → (IsTrue empty ↔ (ms ≡ [])) → empty ≡ false → members_of ms ≡ or_unnamed base (members_of ms)
named_members base [] empty h e = let t : empty ≡ true = h.1 refl in cc
named_members base (m ∷ ms) empty h e = refl
