-- What a map of places holds.
use Rattle.std.proofs.Common.{◌≡◌, ℕ, ◌==◌, ◌&&◌, Bool, true, false, cond, List, [], ◌∷◌, Option, Some, None, is_some, bytes_eq, refl, sym, ap, ◌∙◌, true≢false}
use Rattle.std.specs.Cmp.Lexicographic.{bytes_decides}
use Rattle.indexmap.specs.IndexMap.{insert_entry}
use Rattle.p9_first.specs.Form.{same_name}
use Rattle.p9_straight.specs.Layout.{or_else}
use Rattle.p9_straight.specs.Building.{Entries, held, noted}

pub same_bytes : (x y : List ℕ) → same_name x y ≡ bytes_eq x y
same_bytes [] [] = refl
same_bytes [] (b ∷ y) = refl
same_bytes (a ∷ x) [] = refl
same_bytes (a ∷ x) (b ∷ y) = ap (λ v. (a == b) && v) (same_bytes x y)

same_if : (x y : List ℕ) → x ≡ y → bytes_eq x y ≡ true
same_if x y e = (bytes_decides x y).1 e

if_same : (x y : List ℕ) → bytes_eq x y ≡ true → x ≡ y
if_same x y e = (bytes_decides x y).0 e

other_than : (x y z : List ℕ) → bytes_eq x y ≡ true → bytes_eq z x ≡ false → bytes_eq z y ≡ false
other_than x y z e n = by (bytes_eq z y) refl
  where
    by : (b : Bool) → bytes_eq z y ≡ b → bytes_eq z y ≡ false
    by true t = absurd (true≢false (sym (same_if z x (if_same z y t ∙ sym (if_same x y e))) ∙ n))
    by false f = f

pub put_same : (entries : Entries) (name : List ℕ) (at : ℕ) → held (insert_entry bytes_eq entries name at) name ≡ Some at
put_same [] name at = ap (λ b. cond b (Some at) None) (same_if name name refl)
put_same (e ∷ es) name at = by (bytes_eq name e.0) refl (put_same es name at)
  where
    by : (b : Bool) → bytes_eq name e.0 ≡ b → held (insert_entry bytes_eq es name at) name ≡ Some at → held (cond b ((e.0, at) ∷ es) (e ∷ insert_entry bytes_eq es name at)) name ≡ Some at
    by true h rest = ap (λ b. cond b (Some at) (held es name)) h
    by false h rest = ap (λ b. cond b (Some e.1) (held (insert_entry bytes_eq es name at) name)) h ∙ rest

pub put_other : (entries : Entries) (name : List ℕ) (at : ℕ) (q : List ℕ) → bytes_eq q name ≡ false → held (insert_entry bytes_eq entries name at) q ≡ held entries q
put_other [] name at q n = ap (λ b. cond b (Some at) None) n
put_other (e ∷ es) name at q n = by (bytes_eq name e.0) refl (put_other es name at q n)
  where
    by : (b : Bool) → bytes_eq name e.0 ≡ b → held (insert_entry bytes_eq es name at) q ≡ held es q → held (cond b ((e.0, at) ∷ es) (e ∷ insert_entry bytes_eq es name at)) q ≡ held (e ∷ es) q
    by true h rest =
        let f : bytes_eq q e.0 ≡ false = other_than name e.0 q h n in
        ap (λ b. cond b (Some at) (held es q)) f ∙ sym (ap (λ b. cond b (Some e.1) (held es q)) f)
    by false h rest = ap (cond (bytes_eq q e.0) (Some e.1)) rest

pub or_nothing : (o : Option ℕ) → or_else o None ≡ o
or_nothing None = refl
or_nothing (Some a) = refl

-- where the name is noted, it is held with the place that it had before, or else with this one
pub held_noted : (entries : Entries) (name : List ℕ) (at : ℕ) (q : List ℕ) → held (noted entries name at) q ≡ or_else (held entries q) (cond (same_name q name) (Some at) None)
held_noted entries name at q = by (bytes_eq q name) refl (held entries name) refl
  where
    stays : (a : ℕ) → held entries name ≡ Some a → held (noted entries name at) q ≡ held entries q
    stays a h = ap (λ o. held (cond (is_some o) entries (insert_entry bytes_eq entries name at)) q) h

    goes : held entries name ≡ None → held (noted entries name at) q ≡ held (insert_entry bytes_eq entries name at) q
    goes h = ap (λ o. held (cond (is_some o) entries (insert_entry bytes_eq entries name at)) q) h

    by : (b : Bool) → bytes_eq q name ≡ b → (o : Option ℕ) → held entries name ≡ o → held (noted entries name at) q ≡ or_else (held entries q) (cond (same_name q name) (Some at) None)
    by true t (Some a) h =
        let here : held entries q ≡ Some a = ap (held entries) (if_same q name t) ∙ h in
        stays a h ∙ here ∙ sym (ap (λ o. or_else o (cond (same_name q name) (Some at) None)) here)
    by true t None h =
        let here : held entries q ≡ None = ap (held entries) (if_same q name t) ∙ h in
        goes h ∙ ap (held (insert_entry bytes_eq entries name at)) (if_same q name t) ∙ put_same entries name at
        ∙ sym (ap (λ o. or_else o (cond (same_name q name) (Some at) None)) here ∙ ap (λ b. cond b (Some at) None) (same_bytes q name ∙ t))
    by false f (Some a) h =
        stays a h ∙ sym (ap (λ b. or_else (held entries q) (cond b (Some at) None)) (same_bytes q name ∙ f) ∙ or_nothing (held entries q))
    by false f None h =
        goes h ∙ put_other entries name at q f ∙ sym (ap (λ b. or_else (held entries q) (cond b (Some at) None)) (same_bytes q name ∙ f) ∙ or_nothing (held entries q))

pub or_else_if : (o : Option ℕ) (b : Bool) (a : ℕ) (r : Option ℕ) → or_else (or_else o (cond b (Some a) None)) r ≡ or_else o (cond b (Some a) r)
or_else_if (Some x) b a r = refl
or_else_if None true a r = refl
or_else_if None false a r = refl
