-- The summary of a list with one part more.
use Rattle.std.proofs.Common.{◌≡◌, ℕ, ◌+◌, ◌||◌, List, [], ◌∷◌, ◌++◌, length, slice_get, Option, Some, None, refl, sym, ap, subst, ◌∙◌, arith, length-append}
use Rattle.std.specs.List.{list_any}
use Rattle.std.proofs.lemmas.List.Folds.{list_any-append}
use Rattle.p9_lang.specs.Parts.{Part, Value, Declarator, Object, Members, Enumerator, Parameter, NamedType, Braced, Filled, CaseLabel, DefaultLabel, Statement, last_object, member_names, object_names, parameter_types, next_value, next_position, positions}
use Rattle.p9_lang.specs.Declaring.{is_case, is_default}
use Rattle.p9_parts.specs.declared.summary.Summary.{Summary}
use Rattle.p9_parts.specs.Cases.{is_given}
use Rattle.p9_parts.specs.Summed.{part_at, IsWithin, object_with, IsSummary}
use Rattle.p9_parts.proofs.Appending.{member_names_append, object_names_append, parameters_append, next_value_append, next_position_append, positions_append, last_is_object, last_stays, get_before, get_behind}

within_more : (list : List Part) (part : Part) (o : Option ℕ) → IsWithin list o → IsWithin (list ++ part ∷ []) o
within_more list part None h = tt
within_more list part (Some i) h = omega (arith, length-append list (part ∷ []))

at_more : (list : List Part) (part : Part) (o : Option ℕ) → IsWithin list o → part_at (list ++ part ∷ []) o ≡ part_at list o
at_more list part None h = refl
at_more list part (Some i) h = get_before list (part ∷ []) i h

-- the index of the last object, and the object
pub record Last (list : List Part) (o : Option ℕ) : Type 0 where
  pub within : IsWithin list o
  pub last : part_at list o ≡ last_object list

stays : (list : List Part) (part : Part) (o : Option ℕ) → last_object (part ∷ []) ≡ None → Last list o → Last (list ++ part ∷ []) o
stays list part o e h = record {
  within = within_more list part o h.within;
  last = at_more list part o h.within ∙ h.last ∙ sym (last_stays list part e);
}

pub last_more : (list : List Part) (o : Option ℕ) (at : ℕ) (part : Part) → at ≡ length list → Last list o → Last (list ++ part ∷ []) (object_with o at part)
last_more list o at (Object type steps last role) e h = record {
  within = omega (arith, length-append list (Object type steps last role ∷ []));
  last = ap (slice_get (list ++ Object type steps last role ∷ [])) e ∙ get_behind list (Object type steps last role)
      ∙ sym (last_is_object list (Object type steps last role) refl);
}
last_more list o at (Value operand) e h = stays list (Value operand) o refl h
last_more list o at (Declarator steps) e h = stays list (Declarator steps) o refl h
last_more list o at (Members members) e h = stays list (Members members) o refl h
last_more list o at (Enumerator x v) e h = stays list (Enumerator x v) o refl h
last_more list o at (Parameter type) e h = stays list (Parameter type) o refl h
last_more list o at (NamedType type) e h = stays list (NamedType type) o refl h
last_more list o at (Braced count) e h = stays list (Braced count) o refl h
last_more list o at (Filled next) e h = stays list (Filled next) o refl h
last_more list o at (CaseLabel word) e h = stays list (CaseLabel word) o refl h
last_more list o at DefaultLabel e h = stays list DefaultLabel o refl h
last_more list o at Statement e h = stays list Statement o refl h

pub summary_more : (old new : Summary) (list : List Part) (at : ℕ) (part : Part)
    → new.object ≡ object_with old.object at part
    → new.names.members ≡ old.names.members ++ member_names (part ∷ [])
    → new.names.objects ≡ old.names.objects ++ object_names (part ∷ [])
    → new.counts.parameters ≡ old.counts.parameters + length (parameter_types (part ∷ []))
    → new.counts.value ≡ next_value old.counts.value (part ∷ [])
    → new.counts.position ≡ next_position old.counts.position (part ∷ [])
    → new.counts.positions ≡ positions old.counts.positions (part ∷ [])
    → ((word : ℕ) → is_given new.labels.cases.keys word ≡ (is_given old.labels.cases.keys word || list_any (is_case word) (part ∷ [])))
    → new.labels.has_default ≡ (old.labels.has_default || list_any is_default (part ∷ []))
    → at ≡ length list → IsSummary old list → IsSummary new (list ++ part ∷ [])
summary_more old new list at part object members objects parameters value position all cases default e s =
    let l = last_more list old.object at part e (record { within = s.within; last = s.last }) in
    record {
      within = subst (IsWithin (list ++ part ∷ [])) (sym object) l.within;
      last = ap (part_at (list ++ part ∷ [])) object ∙ l.last;
      members = members ∙ ap (λ n. n ++ member_names (part ∷ [])) s.members ∙ sym (member_names_append list (part ∷ []));
      objects = objects ∙ ap (λ n. n ++ object_names (part ∷ [])) s.objects ∙ sym (object_names_append list (part ∷ []));
      parameters = parameters ∙ ap (λ n. n + length (parameter_types (part ∷ []))) s.parameters ∙ sym (parameters_append list (part ∷ []));
      value = value ∙ ap (λ n. next_value n (part ∷ [])) s.value ∙ sym (next_value_append 0 list (part ∷ []));
      position = position ∙ ap (λ n. next_position n (part ∷ [])) s.position ∙ sym (next_position_append 0 list (part ∷ []));
      positions_of_all = all ∙ ap (λ n. positions n (part ∷ [])) s.positions_of_all ∙ sym (positions_append 0 list (part ∷ []));
      cases = λ word. cases word ∙ ap (λ b. b || list_any (is_case word) (part ∷ [])) (s.cases word) ∙ sym (list_any-append (is_case word) list (part ∷ []));
      default = default ∙ ap (λ b. b || list_any is_default (part ∷ [])) s.default ∙ sym (list_any-append is_default list (part ∷ []));
    }
