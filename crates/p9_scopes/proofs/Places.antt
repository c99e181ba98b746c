-- The newest of a name in a list, and where it stands counted from the oldest.
use Rattle.std.proofs.Common.{◌≡◌, ◌<◌, ℕ, zero, suc, Bool, true, false, List, [], ◌∷◌, ◌++◌, length, map, reverse, slice_get, slice_set, Option, Some, None, refl, sym, ap, subst, ◌∙◌, arith}
use Rattle.std.specs.Prelude.{if◌then◌else◌}
use Rattle.std.proofs.lemmas.List.{reverse-append, length-reverse, length-map, set-append_left}
use Rattle.std.proofs.Math.Seq.{set-append_seam}
use Rattle.p9_lang.specs.Names.{same_name}
use Rattle.p9_scopes.specs.declared.newest.Latest.{Latest}
use Rattle.p9_scopes.specs.Newest.{older, latest_in}

abbrev pub newest_by : {A : Type 0} → (A → List ℕ) → List ℕ → List A → Option A
newest_by name x [] = None
newest_by name x (d ∷ ds) = if same_name x (name d) then Some d else newest_by name x ds

-- the newest of the name behind the first that has it
abbrev pub before_by : {A : Type 0} → (A → List ℕ) → List ℕ → List A → Option A
before_by name x [] = None
before_by name x (d ∷ ds) = if same_name x (name d) then newest_by name x ds else before_by name x ds

-- the newest of the name is another
abbrev pub changed_by : {A : Type 0} → (A → List ℕ) → (A → A) → List ℕ → List A → List A
changed_by name change x [] = []
changed_by name change x (d ∷ ds) = if same_name x (name d) then change d ∷ ds else d ∷ changed_by name change x ds

get_left : {A : Type 0} (xs ys : List A) (i : ℕ) → i < length xs → slice_get (xs ++ ys) i ≡ slice_get xs i
get_left [] ys i h = absurd (omega arith)
get_left (x ∷ xs) ys zero h = refl
get_left (x ∷ xs) ys (suc i) h = get_left xs ys i (omega arith)

get_seam : {A : Type 0} (xs : List A) (y : A) (i : ℕ) → i ≡ length xs → slice_get (xs ++ y ∷ []) i ≡ Some y
get_seam [] y zero e = refl
get_seam [] y (suc i) e = absurd (omega arith)
get_seam (x ∷ xs) y zero e = absurd (omega arith)
get_seam (x ∷ xs) y (suc i) e = get_seam xs y i (omega arith)

reverse_more : {A : Type 0} (d : A) (ds : List A) → reverse (d ∷ ds) ≡ reverse ds ++ d ∷ []
reverse_more d ds = reverse-append (d ∷ []) ds

get_older : {A : Type 0} (d : A) (ds : List A) (i : ℕ) → i < length ds → slice_get (reverse (d ∷ ds)) i ≡ slice_get (reverse ds) i
get_older d ds i h =
    ap (λ l. slice_get l i) (reverse_more d ds) ∙ get_left (reverse ds) (d ∷ []) i (let e = length-reverse ds in omega arith)

get_newest : {A : Type 0} (d : A) (ds : List A) (i : ℕ) → i ≡ length ds → slice_get (reverse (d ∷ ds)) i ≡ Some d
get_newest d ds i h =
    ap (λ l. slice_get l i) (reverse_more d ds) ∙ get_seam (reverse ds) d i (let e = length-reverse ds in omega arith)

pub record IsAt {A : Type 0} (name : A → List ℕ) (x : List ℕ) (ds : List A) (i : ℕ) : Type 0 where
  pub within : i < length ds
  pub is : slice_get (reverse ds) i ≡ newest_by name x ds

pub at_newest : {A : Type 0} (name : A → List ℕ) (x : List ℕ) (ds : List A) (l : Latest) → latest_in x (map name ds) ≡ Some l → IsAt name x ds l.at
at_newest name x [] l e = cc
at_newest name x (d ∷ ds) l e = by (same_name x (name d)) refl e (at_newest name x ds l)
  where
    by : (b : Bool) → same_name x (name d) ≡ b
        → (if b then Some (record { at = length (map name ds); before = older (latest_in x (map name ds)) }) else latest_in x (map name ds)) ≡ Some l
        → (latest_in x (map name ds) ≡ Some l → IsAt name x ds l.at) → IsAt name x (d ∷ ds) l.at
    by true t e next =
        let a : length (map name ds) ≡ l.at = cc in
        let n = length-map ds name in
        record {
          within = omega arith;
          is = get_newest d ds l.at (omega arith) ∙ ap (λ c. if c then Some d else newest_by name x ds) (sym t);
        }
    by false t e next =
        let r = next e in
        let w = r.within in
        record {
          within = omega arith;
          is = get_older d ds l.at w ∙ r.is ∙ ap (λ c. if c then Some d else newest_by name x ds) (sym t);
        }

pub none_newest : {A : Type 0} (name : A → List ℕ) (x : List ℕ) (ds : List A) → latest_in x (map name ds) ≡ None → newest_by name x ds ≡ None
none_newest name x [] e = refl
none_newest name x (d ∷ ds) e = by (same_name x (name d)) e (none_newest name x ds)
  where
    by : (b : Bool) → (if b then Some (record { at = length (map name ds); before = older (latest_in x (map name ds)) }) else latest_in x (map name ds)) ≡ None
        → (latest_in x (map name ds) ≡ None → newest_by name x ds ≡ None) → (if b then Some d else newest_by name x ds) ≡ None
    by true e next = cc
    by false e next = next e

pub at_before : {A : Type 0} (name : A → List ℕ) (x : List ℕ) (ds : List A) (l : Latest) (i : ℕ) → latest_in x (map name ds) ≡ Some l → l.before ≡ Some i
    → (i < length ds) × (slice_get (reverse ds) i ≡ before_by name x ds)
at_before name x [] l i e f = cc
at_before name x (d ∷ ds) l i e f = by (same_name x (name d)) refl e (λ g. at_before name x ds l i g f)
  where
    there : (o : Option Latest) → latest_in x (map name ds) ≡ o → older o ≡ Some i → IsAt name x ds i
    there None q r = cc
    there (Some m) q r = let k : m.at ≡ i = cc in subst (IsAt name x ds) k (at_newest name x ds m q)

    by : (b : Bool) → same_name x (name d) ≡ b
        → (if b then Some (record { at = length (map name ds); before = older (latest_in x (map name ds)) }) else latest_in x (map name ds)) ≡ Some l
        → (latest_in x (map name ds) ≡ Some l → (i < length ds) × (slice_get (reverse ds) i ≡ before_by name x ds))
        → (i < suc (length ds)) × (slice_get (reverse (d ∷ ds)) i ≡ before_by name x (d ∷ ds))
    by true t e next =
        let a : older (latest_in x (map name ds)) ≡ l.before = cc in
        let r = there (latest_in x (map name ds)) refl (a ∙ f) in
        let w = r.within in
        (omega arith, get_older d ds i w ∙ r.is ∙ ap (λ c. if c then newest_by name x ds else before_by name x ds) (sym t))
    by false t e next =
        let r = next e in
        let w = r.0 in
        (omega arith, get_older d ds i w ∙ r.1 ∙ ap (λ c. if c then newest_by name x ds else before_by name x ds) (sym t))

pub none_before : {A : Type 0} (name : A → List ℕ) (x : List ℕ) (ds : List A) (l : Latest) → latest_in x (map name ds) ≡ Some l → l.before ≡ None
    → before_by name x ds ≡ None
none_before name x [] l e f = cc
none_before name x (d ∷ ds) l e f = by (same_name x (name d)) refl e (λ g. none_before name x ds l g f)
  where
    there : (o : Option Latest) → latest_in x (map name ds) ≡ o → older o ≡ None → newest_by name x ds ≡ None
    there None q r = none_newest name x ds q
    there (Some m) q r = cc

    by : (b : Bool) → same_name x (name d) ≡ b
        → (if b then Some (record { at = length (map name ds); before = older (latest_in x (map name ds)) }) else latest_in x (map name ds)) ≡ Some l
        → (latest_in x (map name ds) ≡ Some l → before_by name x ds ≡ None) → before_by name x (d ∷ ds) ≡ None
    by true t e next =
        let a : older (latest_in x (map name ds)) ≡ l.before = cc in
        ap (λ c. if c then newest_by name x ds else before_by name x ds) t ∙ there (latest_in x (map name ds)) refl (a ∙ f)
    by false t e next = ap (λ c. if c then newest_by name x ds else before_by name x ds) t ∙ next e

pub nothing_before : {A : Type 0} (name : A → List ℕ) (x : List ℕ) (ds : List A) → latest_in x (map name ds) ≡ None → before_by name x ds ≡ None
nothing_before name x [] e = refl
nothing_before name x (d ∷ ds) e = by (same_name x (name d)) e (nothing_before name x ds)
  where
    by : (b : Bool) → (if b then Some (record { at = length (map name ds); before = older (latest_in x (map name ds)) }) else latest_in x (map name ds)) ≡ None
        → (latest_in x (map name ds) ≡ None → before_by name x ds ≡ None) → (if b then newest_by name x ds else before_by name x ds) ≡ None
    by true e next = cc
    by false e next = next e

pub at_changed : {A : Type 0} (name : A → List ℕ) (change : A → A) (x : List ℕ) (ds : List A) (l : Latest) (d : A) → latest_in x (map name ds) ≡ Some l
    → slice_get (reverse ds) l.at ≡ Some d → reverse (changed_by name change x ds) ≡ slice_set (reverse ds) l.at (change d)
at_changed name change x [] l d e f = cc
at_changed name change x (c ∷ ds) l d e f = by (same_name x (name c)) refl e (λ g h. at_changed name change x ds l d g h)
  where
    by : (b : Bool) → same_name x (name c) ≡ b
        → (if b then Some (record { at = length (map name ds); before = older (latest_in x (map name ds)) }) else latest_in x (map name ds)) ≡ Some l
        → (latest_in x (map name ds) ≡ Some l → slice_get (reverse ds) l.at ≡ Some d
        → reverse (changed_by name change x ds) ≡ slice_set (reverse ds) l.at (change d))
        → reverse (changed_by name change x (c ∷ ds)) ≡ slice_set (reverse (c ∷ ds)) l.at (change d)
    by true t e next =
        let a : length (map name ds) ≡ l.at = cc in
        let n = length-map ds name in
        let m = length-reverse ds in
        let g = get_newest c ds l.at (omega arith) in
        let k : c ≡ d = cc in
        ap (λ b. reverse (if b then change c ∷ ds else c ∷ changed_by name change x ds)) t
        ∙ reverse_more (change c) ds
        ∙ sym (set-append_seam (reverse ds) c [] (change c))
        ∙ ap (λ l. slice_set l (length (reverse ds)) (change c)) (sym (reverse_more c ds))
        ∙ ap (λ i. slice_set (reverse (c ∷ ds)) i (change c)) (m ∙ sym n ∙ a)
        ∙ ap (λ y. slice_set (reverse (c ∷ ds)) l.at (change y)) k
    by false t e next =
        let r = at_newest name x ds l e in
        let w = r.within in
        let m = length-reverse ds in
        ap (λ b. reverse (if b then change c ∷ ds else c ∷ changed_by name change x ds)) t
        ∙ reverse_more c (changed_by name change x ds)
        ∙ ap (λ l. l ++ c ∷ []) (next e (sym (get_older c ds l.at w) ∙ f))
        ∙ sym (set-append_left (reverse ds) (c ∷ []) l.at (change d) (omega arith))
        ∙ ap (λ i. slice_set i l.at (change d)) (sym (reverse_more c ds))

pub unchanged : {A : Type 0} (name : A → List ℕ) (change : A → A) (x : List ℕ) (ds : List A) → latest_in x (map name ds) ≡ None → changed_by name change x ds ≡ ds
unchanged name change x [] e = refl
unchanged name change x (d ∷ ds) e = by (same_name x (name d)) e (unchanged name change x ds)
  where
    by : (b : Bool) → (if b then Some (record { at = length (map name ds); before = older (latest_in x (map name ds)) }) else latest_in x (map name ds)) ≡ None
        → (latest_in x (map name ds) ≡ None → changed_by name change x ds ≡ ds)
        → (if b then change d ∷ ds else d ∷ changed_by name change x ds) ≡ d ∷ ds
    by true e next = cc
    by false e next = ap (λ l. d ∷ l) (next e)

pub names_stay : {A : Type 0} (name : A → List ℕ) (change : A → A) → ((d : A) → name (change d) ≡ name d) → (x : List ℕ) (ds : List A)
    → map name (changed_by name change x ds) ≡ map name ds
names_stay name change h x [] = refl
names_stay name change h x (d ∷ ds) = by (same_name x (name d)) (names_stay name change h x ds)
  where
    by : (b : Bool) → map name (changed_by name change x ds) ≡ map name ds
        → map name (if b then change d ∷ ds else d ∷ changed_by name change x ds) ≡ name d ∷ map name ds
    by true next = ap (λ n. n ∷ map name ds) (h d)
    by false next = ap (λ l. name d ∷ l) next
