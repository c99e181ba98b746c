-- What nodes beside each other are, one after the other.
use Rattle.std.proofs.Common.{◌≡◌, List, [], ◌∷◌, ◌++◌, refl, sym, ap, ◌∙◌, append_assoc, append-nil}
use Rattle.p9_lang.specs.Types.{Tags, Meant}
use Rattle.p9_lang.specs.Trees.{node, none, more}
use Rattle.p9_lang.specs.Modules.{Label, Typed, TypedRow}
use Rattle.p9_lang.specs.declared.tree.Kind.{Kind}
use Rattle.p9_lang.specs.declared.tree.Kind.TheVariants as kind
use Rattle.p9_lang.specs.declared.tree.CUnary.{CUnary}
use Rattle.p9_lang.specs.Initialisers as specs
use Rattle.p9_fixed.specs.declared.kinds.FixedPart.{FixedPart}
use Rattle.p9_fixed.specs.Told.{told_part, told_parts}
use Rattle.p9_fixed.specs.Evaluated.{part_in, parts_in}

told_end : (ps : List FixedPart) (p : FixedPart) → told_parts (ps ++ p ∷ []) ≡ told_parts ps ++ told_part p ∷ []
told_end [] p = refl
told_end (x ∷ ps) p = ap (λ l. told_part x ∷ l) (told_end ps p)

pub parts_next : (tags : Tags) (ps after : List FixedPart) (p : FixedPart) (row others : TypedRow) (all : List specs.FixedPart) (t : Typed)
    → told_parts ps ++ parts_in tags row ≡ all → row ≡ more t others → after ≡ ps ++ p ∷ []
    → told_part p ≡ part_in tags t → told_parts after ++ parts_in tags others ≡ all
unfolding parts_in part_in
parts_next tags ps after p row others all t h r a e =
    ap (λ l. told_parts l ++ parts_in tags others) a
    ∙ ap (λ l. l ++ parts_in tags others) (told_end ps p)
    ∙ append_assoc (told_parts ps) (told_part p ∷ []) (parts_in tags others)
    ∙ ap (λ x. told_parts ps ++ x ∷ parts_in tags others) e
    ∙ ap (λ x. told_parts ps ++ parts_in tags x) (sym r)
    ∙ h

pub parts_over : (tags : Tags) (ps : List FixedPart) (row : TypedRow) (all : List specs.FixedPart)
    → told_parts ps ++ parts_in tags row ≡ all → row ≡ none → told_parts ps ≡ all
unfolding parts_in
parts_over tags ps row all h r = sym (append-nil (told_parts ps)) ∙ ap (λ x. told_parts ps ++ parts_in tags x) (sym r) ∙ h

pub part_told : (tags : Tags) (k : Kind) (label : Label) (row : TypedRow) (p : specs.FixedPart) (ps : List specs.FixedPart)
    → p ≡ specs.fixed_at tags k label ps → ps ≡ parts_in tags row → p ≡ part_in tags (node k label row)
unfolding parts_in part_in
part_told tags k label row p ps h e = h ∙ ap (specs.fixed_at tags k label) e

pub part_is : (tags : Tags) (t : Typed) (p : specs.FixedPart) → p ≡ part_in tags t → p ≡ specs.fixed_part tags t
unfolding part_in
part_is tags t p e = e

-- an operator's address, by the operator alone
pub unary_at : (tags : Tags) (k : Kind) (op : CUnary) (means : Meant) (parts : List specs.FixedPart) (f : specs.Fixed)
    → k ≡ kind.Unary op → ((t : Tags) (m : Meant) → f ≡ specs.address_at t (kind.Unary op) m parts) → f ≡ specs.address_at tags k means parts
unary_at tags k op means parts f e h = h tags means ∙ ap (λ x. specs.address_at tags x means parts) (sym e)
