-- Data that are laid out one behind the other.
use Rattle.std.proofs.Common.{◌≡◌, ◌≤◌, ℕ, ◌+◌, ◌*◌, ◌-◌, ◌%◌, List, [], ◌∷◌, ◌++◌, Some, None, Result, Ok, Err, OnOk, length, map, flat_map, replicate, All, refl, sym, ap, subst, ◌∙◌, arith, append_assoc, length-append}
use Rattle.std.proofs.lemmas.List.{map-append, length-replicate}
use Rattle.std.proofs.lemmas.List.Concat.{flat_map-append}
use Rattle.std.proofs.lemmas.List.Elements.{All-rest}
use Rattle.std.proofs.lemmas.Result.{on_ok_weaker}
use Rattle.p9_base.specs.Numbers.{word_bytes}
use Rattle.p9_first.specs.Form.{same_name}
use Rattle.p9_form.specs.declared.file.First.TheVariants as first
use Rattle.p9_form.specs.declared.file.Declaration.{Declaration}
use Rattle.p9_form.specs.declared.file.Statement.{Statement}
use Rattle.p9_form.specs.declared.file.Statement.TheVariants.{Assign, Write, Exits}
use Rattle.p9_form.specs.declared.file.File.{File}
use Rattle.p9_form.specs.Sharing.{Initial, initial_in, statements, declared_data, statements_data, IsSmall}
use Rattle.p9_straight.specs.Layout.{Datum, Variable, Text, datum_bytes, text_bytes, text_in, data_of, or_else, variable_in}
use Rattle.p9_straight.specs.Building.{Entries, held, noted, Lays, LaysTo, variable_data, text_data}
use Rattle.p9_straight.proofs.BuildPlaces.{held_noted, or_else_if}

-- One variable

pub lays_one : (start : ℕ) (old : Entries) (before : List ℕ) (v : Initial) (new : Entries) (after : List ℕ) → after ≡ before ++ word_bytes v.value → new ≡ noted old v.name (start + length before) → LaysTo start old before (Variable v ∷ []) new after []
lays_one start old before v new after p q = record {
  with_more = λ more. record {
    bytes = ap (λ bs. bs ++ flat_map datum_bytes more) p ∙ append_assoc before (word_bytes v.value) (flat_map datum_bytes more);
    places = λ name.
        let at = start + length before in
        let size : start + length after ≡ at + 4 = omega (arith, ap length p, length-append before (word_bytes v.value)) in
        ap (λ a. or_else (held new name) (variable_in a more name)) size
        ∙ ap (λ o. or_else o (variable_in (at + 4) more name)) (ap (λ m. held m name) q ∙ held_noted old v.name at name)
        ∙ or_else_if (held old name) (same_name name v.name) at (variable_in (at + 4) more name);
  };
}

initial_is : (d : Declaration) (v : ℕ) → d.first ≡ first.Number v → initial_in d ≡ record { name = d.name; value = v } ∷ []
initial_is d v e = ap (λ f. initial_in (record d { first = f })) e

pub lays_variable : (start : ℕ) (old : Entries) (before : List ℕ) (d : Declaration) (v : ℕ) (new : Entries) (after : List ℕ) → d.first ≡ first.Number v → after ≡ before ++ word_bytes v → new ≡ noted old d.name (start + length before) → LaysTo start old before (variable_data (d ∷ [])) new after []
lays_variable start old before d v new after e p q =
    let P : List Initial → Type 0 = λ vs. LaysTo start old before (map Variable (vs ++ [])) new after [] in
    subst P (sym (initial_is d v e)) (lays_one start old before (record { name = d.name; value = v }) new after p q)

pub on_both : {E P Q R : Type 0} (r : Result (Unit {0}) E) → (P → Q → R) → OnOk r P → OnOk r Q → OnOk r R
on_both (Ok u) f p q = f p q
on_both (Err e) f p q = tt

-- Data behind data

pub lays_append : (start : ℕ) (a c e : Entries) (b d f : List ℕ) (xs ys : List Datum) → LaysTo start a b xs c d [] → LaysTo start c d ys e f [] → LaysTo start a b (xs ++ ys) e f []
lays_append start a c e b d f xs ys one two = record {
  with_more = λ more.
      let P : List Datum → Type 0 = λ ds. Lays start a b ds e f more in
      let p = one.with_more (ys ++ more) in
      let q = two.with_more more in
      subst P (sym (append_assoc xs ys more)) (record { bytes = q.bytes ∙ p.bytes; places = λ name. q.places name ∙ p.places name });
}

pub lays_turn : (start : ℕ) (a c e : Entries) (b d f : List ℕ) (all xs next rest : List Datum) → rest ≡ xs ++ next → LaysTo start a b all c d rest → LaysTo start c d xs e f [] → LaysTo start a b all e f next
lays_turn start a c e b d f all xs next rest is one two = record {
  with_more = λ more.
      let P : List Datum → Type 0 = λ ds. Lays start a b (all ++ more) c d ds in
      let p = subst P (ap (λ ds. ds ++ more) is ∙ append_assoc xs next more) (one.with_more more) in
      let q = two.with_more (next ++ more) in
      record { bytes = q.bytes ∙ p.bytes; places = λ name. q.places name ∙ p.places name };
}

-- Texts

texts_bytes : (ts : List (List ℕ)) (more : List Datum) → flat_map datum_bytes (map Text ts ++ more) ≡ flat_map text_bytes ts ++ flat_map datum_bytes more
texts_bytes [] more = refl
texts_bytes (t ∷ ts) more = ap (λ bs. text_bytes t ++ bs) (texts_bytes ts more) ∙ sym (append_assoc (text_bytes t) (flat_map text_bytes ts) (flat_map datum_bytes more))

texts_hide : (at : ℕ) (ts : List (List ℕ)) (more : List Datum) (name : List ℕ) → variable_in at (map Text ts ++ more) name ≡ variable_in (at + length (flat_map text_bytes ts)) more name
texts_hide at [] more name = ap (λ a. variable_in a more name) (let e : at ≡ at + 0 = omega arith in e)
texts_hide at (t ∷ ts) more name =
    texts_hide (at + length (text_bytes t)) ts more name
    ∙ ap (λ a. variable_in a more name) (omega (arith, length-append (text_bytes t) (flat_map text_bytes ts)))

pub lays_texts : (start : ℕ) (places : Entries) (before after : List ℕ) (ts : List (List ℕ)) → after ≡ before ++ flat_map text_bytes ts → LaysTo start places before (map Text ts) places after []
lays_texts start places before after ts p = record {
  with_more = λ more. record {
    bytes = ap (λ bs. bs ++ flat_map datum_bytes more) p ∙ append_assoc before (flat_map text_bytes ts) (flat_map datum_bytes more) ∙ ap (λ bs. before ++ bs) (sym (texts_bytes ts more));
    places = λ name.
        let size : start + length after ≡ start + length before + length (flat_map text_bytes ts) = omega (arith, ap length p, length-append before (flat_map text_bytes ts)) in
        ap (λ a. or_else (held places name) (variable_in a more name)) size ∙ ap (or_else (held places name)) (sym (texts_hide (start + length before) ts more name));
  };
}

-- Files

pub data_of_is : (file : File) → data_of file ≡ variable_data file.before ++ (variable_data file.after ++ text_data (statements file.main))
data_of_is file =
    ap (λ vs. map Variable vs ++ text_data (statements file.main)) (flat_map-append initial_in file.before file.after)
    ∙ ap (λ ds. ds ++ text_data (statements file.main)) (map-append Variable (flat_map initial_in file.before) (flat_map initial_in file.after))
    ∙ append_assoc (variable_data file.before) (variable_data file.after) (text_data (statements file.main))

pub declared_append : (xs ys : List Declaration) → declared_data (xs ++ ys) ≡ declared_data xs + declared_data ys
declared_append [] ys = omega arith
declared_append (x ∷ xs) ys = omega (arith, declared_append xs ys)

pub text_length : (text : List ℕ) → length (text_bytes text) ≡ length text + (4 - length text % 4)
text_length text = omega (arith, length-append text (replicate (4 - length text % 4) 0), length-replicate {A = ℕ} (4 - length text % 4) 0)

pub texts_length : (ss : List Statement) → length (flat_map text_bytes (flat_map text_in ss)) ≡ statements_data ss
texts_length [] = refl
texts_length (Assign x left right ∷ ss) = omega (arith, texts_length ss)
texts_length (Write text count ∷ ss) = omega (arith, length-append (text_bytes text) (flat_map text_bytes (flat_map text_in ss)), text_length text, texts_length ss)
texts_length (Exits None ∷ ss) = omega (arith, texts_length ss)
texts_length (Exits (Some text) ∷ ss) = omega (arith, length-append (text_bytes text) (flat_map text_bytes (flat_map text_in ss)), text_length text, texts_length ss)

pub file_lays : {E : Type 0} (r : Result (Unit {0}) E) (start : ℕ) (a c e : Entries) (b d f g : List ℕ) (file : File) → LaysTo start a b (variable_data file.before) c d [] → LaysTo start c d (variable_data file.after) e f [] → OnOk r (g ≡ f ++ flat_map text_bytes (flat_map text_in (statements file.main))) → OnOk r (LaysTo start a b (data_of file) e g [])
file_lays r start a c e b d f g file one two three =
    let P : List Datum → Type 0 = λ ds. LaysTo start a b ds e g [] in
    let ts = flat_map text_in (statements file.main) in
    on_ok_weaker r (λ p. subst P (sym (data_of_is file)) (lays_append start a c e b d g (variable_data file.before) (variable_data file.after ++ text_data (statements file.main)) one (lays_append start c e e d f g (variable_data file.after) (text_data (statements file.main)) two (lays_texts start e f g ts p)))) three

pub file_small : {E : Type 0} (r : Result (Unit {0}) E) (b d f g : List ℕ) (file : File) → IsSmall file → length d ≤ length b + declared_data file.before → length f ≤ length d + declared_data file.after → OnOk r (g ≡ f ++ flat_map text_bytes (flat_map text_in (statements file.main))) → OnOk r (length g ≤ length b + 131072)
file_small r b d f g file s p q three =
    on_ok_weaker r (λ e. omega (arith, s.data_size, declared_append file.before file.after, ap length e, length-append f (flat_map text_bytes (flat_map text_in (statements file.main))), texts_length (statements file.main))) three

-- a file before those that are left
pub files_turn : (start : ℕ) (a c e : Entries) (b d f : List ℕ) (all : List Datum) (x : File) (next rest whole : List File) → rest ≡ x ∷ next → LaysTo start a b all c d (flat_map data_of rest) × All IsSmall rest × (length d + 131072 * length rest ≤ length b + 131072 * length whole) → LaysTo start c d (data_of x) e f [] → length f ≤ length d + 131072 → LaysTo start a b all e f (flat_map data_of next) × All IsSmall next × (length f + 131072 * length next ≤ length b + 131072 * length whole)
files_turn start a c e b d f all x next rest whole is p q small = (
  lays_turn start a c e b d f all (data_of x) (flat_map data_of next) (flat_map data_of rest) (ap (flat_map data_of) is) p.0 q,
  All-rest IsSmall x next rest is p.1,
  omega (arith, p.2, ap length is),
)
