-- A module of the form is the one that its file makes.
use Rattle.std.proofs.Common.{◌≡◌, List, [], ◌∷◌, map, ap, ◌∙◌}
use Rattle.p9_first.specs.declared.module.Module.{Module}
use Rattle.p9_first.specs.Types.{TypeTree, Meant, types_of, all_meant}
use Rattle.p9_first.specs.Trees.{row_of}
use Rattle.p9_first.specs.Typing.{Judged, Has, Breaks, Unknown, judged_file}
use Rattle.p9_first.specs.Modules.{HaveTypes, IsModule, typed_row, source_of, source_from, judged_type, judged_meaning}

types_are : (js : List Judged) (ts : List TypeTree) (ms : List Meant) → HaveTypes js ts ms → (ts ≡ map judged_type js) × (ms ≡ map judged_meaning js)
types_are [] ts ms h = (h.0, h.1)
types_are (Has type means ∷ js) [] ms h = absurd h
types_are (Has type means ∷ js) (t ∷ ts) [] h = absurd h
types_are (Has type means ∷ js) (t ∷ ts) (m ∷ ms) h =
    let r = types_are js ts ms h.2 in
    (ap (λ x. x ∷ ts) h.0 ∙ ap (λ xs. type ∷ xs) r.0, ap (λ x. x ∷ ms) h.1 ∙ ap (λ xs. means ∷ xs) r.1)
types_are (Breaks rule ∷ js) ts ms h = absurd h
types_are (Unknown ∷ js) ts ms h = absurd h

pub source_of_module : (m : Module) → IsModule m → source_of m ≡ source_from (row_of m.tree.items)
source_of_module m h =
    let r = types_are (judged_file (row_of m.tree.items)) (types_of m.types) (all_meant m.binds) h.typed in
    λ i. record {
      items = typed_row (r.0 i) (r.1 i) 0 (row_of m.tree.items);
      statics = h.statics i;
    }
