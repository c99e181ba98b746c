-- Words for the names that have no first values.
use Rattle.std.proofs.Common.{◌≡◌, ◌≤◌, ℕ, ◌+◌, ◌*◌, ◌||◌, Bool, true, false, not, cond, List, [], ◌∷◌, ◌++◌, Option, Some, None, is_some, Result, Ok, Err, OnOk, All, length, flat_map, refl, sym, ap, subst, ◌∙◌, arith, append_assoc, true≢false}
use Rattle.std.proofs.lemmas.List.Concat.{flat_map-append}
use Rattle.std.proofs.lemmas.List.Elements.{All-rest}
use Rattle.std.proofs.lemmas.Result.{on_ok_weaker}
use Rattle.p9_first.specs.Form.{same_name}
use Rattle.p9_form.specs.declared.file.File.{File}
use Rattle.p9_form.specs.Sharing.{tentative_in, tentatives, declared_data, IsSmall}
use Rattle.p9_straight.specs.Layout.{or_else, common_in}
use Rattle.p9_straight.specs.Building.{Entries, held, noted, fresh, is_held, Adds, AddsTo, commons_in}
use Rattle.p9_straight.proofs.BuildLayout.{declared_append}
use Rattle.p9_straight.proofs.BuildPlaces.{held_noted, or_else_if}

-- what is taken counts alone, however it is told
pub fresh_same : (f g : List ℕ → Bool) → ((x : List ℕ) → f x ≡ g x) → (xs : List (List ℕ)) → fresh f xs ≡ fresh g xs
fresh_same f g e xs = ap (λ h. fresh h xs) (λ i x. e x i)

is_some_or : (o : Option ℕ) (b : Bool) (a : ℕ) → is_some (or_else o (cond b (Some a) None)) ≡ b || is_some o
is_some_or None true a = refl
is_some_or None false a = refl
is_some_or (Some x) true a = refl
is_some_or (Some x) false a = refl

held_next : (old : Entries) (x : List ℕ) (at : ℕ) (y : List ℕ) → is_held (noted old x at) y ≡ same_name y x || is_held old y
held_next old x at y = ap is_some (held_noted old x at y) ∙ is_some_or (held old y) (same_name y x) at

not_held : (b : Bool) → true ≡ not b → b ≡ false
not_held true h = absurd (true≢false h)
not_held false h = refl

-- a name that isn't held takes a word
pub adds_new : (old : Entries) (at : ℕ) (x : List ℕ) (new : Entries) (added : Bool) → added ≡ true → added ≡ not (is_some (held old x)) → new ≡ noted old x at → AddsTo old at (x ∷ []) new (at + 4) []
adds_new old at x new added t is e = record {
  with_more = λ more.
      let taken : List ℕ → Bool = λ y. same_name y x || is_held old y in
      let h : is_held old x ≡ false = not_held (is_held old x) (sym t ∙ is) in
      let first : fresh (is_held old) (x ∷ more) ≡ x ∷ fresh taken more = ap (λ b. cond b (fresh (is_held old) more) (x ∷ fresh taken more)) h in
      let others : fresh (is_held new) more ≡ fresh taken more = fresh_same (is_held new) taken (λ y. ap (λ m. is_held m y) e ∙ held_next old x at y) more in
      record {
        end = omega (arith, ap length first, ap length others);
        places = λ name.
            ap (λ ns. or_else (held new name) (common_in (at + 4) ns name)) others
            ∙ ap (λ o. or_else o (common_in (at + 4) (fresh taken more) name)) (ap (λ m. held m name) e ∙ held_noted old x at name)
            ∙ or_else_if (held old name) (same_name name x) at (common_in (at + 4) (fresh taken more) name)
            ∙ ap (λ ns. or_else (held old name) (common_in at ns name)) (sym first);
      };
}

pub adds_append : {E : Type 0} (r : Result (Unit {0}) E) (a c e : Entries) (b d f : ℕ) (xs ys : List (List ℕ)) → AddsTo a b xs c d [] → OnOk r (AddsTo c d ys e f []) → OnOk r (AddsTo a b (xs ++ ys) e f [])
adds_append (Err _) a c e b d f xs ys one two = tt
adds_append (Ok _) a c e b d f xs ys one two = record {
  with_more = λ more.
      let P : List (List ℕ) → Type 0 = λ ns. Adds a b ns e f more in
      let p = one.with_more (ys ++ more) in
      let q = two.with_more more in
      subst P (sym (append_assoc xs ys more)) (record { end = q.end ∙ p.end; places = λ name. q.places name ∙ p.places name });
}

pub adds_turn : (a c e : Entries) (b d f : ℕ) (all xs next rest : List (List ℕ)) → rest ≡ xs ++ next → AddsTo a b all c d rest → AddsTo c d xs e f [] → AddsTo a b all e f next
adds_turn a c e b d f all xs next rest is one two = record {
  with_more = λ more.
      let P : List (List ℕ) → Type 0 = λ ns. Adds a b (all ++ more) c d ns in
      let p = subst P (ap (λ ns. ns ++ more) is ∙ append_assoc xs next more) (one.with_more more) in
      let q = two.with_more (next ++ more) in
      record { end = q.end ∙ p.end; places = λ name. q.places name ∙ p.places name };
}

pub commons_in_is : (file : File) → flat_map tentative_in file.before ++ flat_map tentative_in file.after ≡ commons_in file
commons_in_is file = sym (flat_map-append tentative_in file.before file.after)

pub file_adds : {E : Type 0} (r : Result (Unit {0}) E) (a c e : Entries) (b d f : ℕ) (file : File) → AddsTo a b (flat_map tentative_in file.before) c d [] → OnOk r (AddsTo c d (flat_map tentative_in file.after) e f []) → OnOk r (AddsTo a b (commons_in file) e f [])
file_adds r a c e b d f file one two =
    let P : List (List ℕ) → Type 0 = λ ns. OnOk r (AddsTo a b ns e f []) in
    subst P (commons_in_is file) (adds_append r a c e b d f (flat_map tentative_in file.before) (flat_map tentative_in file.after) one two)

pub file_small : {E : Type 0} (r : Result (Unit {0}) E) (b d f : ℕ) (file : File) → IsSmall file → d ≤ b + declared_data file.before → OnOk r (f ≤ d + declared_data file.after) → OnOk r (f ≤ b + 131072)
file_small r b d f file s p two = on_ok_weaker r (λ q. omega (arith, s.data_size, declared_append file.before file.after, p, q)) two

-- a file before those that are left
pub files_turn : (a c e : Entries) (b d f : ℕ) (x : File) (next rest whole : List File) → rest ≡ x ∷ next → AddsTo a b (tentatives whole) c d (tentatives rest) × All IsSmall rest × (d + 131072 * length rest ≤ b + 131072 * length whole) → AddsTo c d (commons_in x) e f [] → f ≤ d + 131072 → AddsTo a b (tentatives whole) e f (tentatives next) × All IsSmall next × (f + 131072 * length next ≤ b + 131072 * length whole)
files_turn a c e b d f x next rest whole is p q small = (
  adds_turn a c e b d f (tentatives whole) (commons_in x) (tentatives next) (tentatives rest) (ap tentatives is) p.0 q,
  All-rest IsSmall x next rest is p.1,
  omega (arith, p.2, ap length is),
)
