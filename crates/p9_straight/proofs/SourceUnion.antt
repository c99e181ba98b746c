-- The symbols of all files together: what each makes, which there are, and where `main` is found.
use Rattle.std.proofs.Common.{◌≡◌, ◌≢◌, ◌<◌, ◌≤◌, ℕ, suc, Bool, true, false, if◌then◌else◌, List, [], ◌∷◌, ◌++◌, length, map, Some, None, Option, refl, sym, ap, ◌∙◌, subst, arith}
use Rattle.std.specs.Prelude.{flat_map, slice_get, slice_index_or, AllPairs}
use Rattle.std.specs.List.{list_any}
use Rattle.p9_first.specs.Form.{same_name, IsFile}
use Rattle.p9_first.specs.Modules.{Typed, symbols}
use Rattle.p9_form.specs.declared.file.Statement.{Statement}
use Rattle.p9_form.specs.declared.file.First.{First}
use Rattle.p9_form.specs.declared.file.First.TheVariants as first
use Rattle.p9_form.specs.declared.file.Declaration.{Declaration}
use Rattle.p9_form.specs.declared.file.File.{File}
use Rattle.p9_form.specs.Items.{items_of, source_of}
use Rattle.p9_form.specs.Sharing.{declarations, Initial, initial_in, initials, tentative_in, tentatives, main_in, mains}
use Rattle.p9_first.specs.Union.{Entry, entries_from, is_shared_data, is_shared_common, is_text_of, first_code}
use Rattle.p9_straight.specs.FormRun.{initial_of}
use Rattle.p9_straight.proofs.SourceLists.{Each, each_append, each_left, each_right, any_left, any_right, any_either, same_self, not_same, flat_append, neither_left, neither_right}
use Rattle.p9_straight.proofs.SourceForm.{IsBounded, AreNew, names_behind, file_form}
use Rattle.p9_straight.proofs.SourceTyped.{MainItem, text_list, source_is}
use Rattle.p9_straight.proofs.SourceSymbols.{HasSymbols, has_symbols}
use Rattle.p9_straight.proofs.SourceEntries.{entry, Sound, named, mains_of, mains_are, file_sound, file_data, file_common, file_text, is_main, file_code, file_no_code}

abbrev pub AreFiles : List File → Type 0
AreFiles files = Each (λ f. IsFile (items_of f)) files

abbrev pub entries_of : ℕ → List File → List Entry
entries_of i files = entries_from i (map source_of files)

symbols_of : (file : File) → IsFile (items_of file) → HasSymbols file (source_of file)
symbols_of file h = has_symbols file (source_of file) (source_is file h (file_form file h))

abbrev own_entries : ℕ → File → List Entry
own_entries i file = map (entry i) (symbols (source_of file))

pub all_sound : (P : Initial → Type 0) (main : List Statement) (i : ℕ) (files : List File) → AreFiles files → Each P (initials files) → Each (λ ss. ss ≡ main) (mains files)
    → Each (λ e. Sound P (text_list main) e.symbol) (entries_of i files)
all_sound P main i [] h p m = tt
all_sound P main i (f ∷ fs) h p m =
    each_append (λ e. Sound P (text_list main) e.symbol) (own_entries i f) (entries_of (suc i) fs)
    (file_sound P main i f (source_of f) (symbols_of f h.0) (each_left P (flat_map initial_in (declarations f)) (initials fs) p) (each_left (λ ss. ss ≡ main) (main_in f) (mains fs) m))
    (all_sound P main (suc i) fs h.1 (each_right P (flat_map initial_in (declarations f)) (initials fs) p) (each_right (λ ss. ss ≡ main) (main_in f) (mains fs) m))

pub all_data : (x : List ℕ) (i : ℕ) (files : List File) → AreFiles files → list_any (named x) (initials files) ≡ true → list_any (is_shared_data x) (entries_of i files) ≡ true
all_data x i [] h g = absurd (let e : false ≡ true = g in cc)
all_data x i (f ∷ fs) h g =
    any_either (list_any (is_shared_data x) (entries_of i (f ∷ fs)) ≡ true) (named x) (flat_map initial_in (declarations f)) (initials fs) g
    (λ e. any_left (is_shared_data x) (own_entries i f) (entries_of (suc i) fs) (file_data x i f (source_of f) (symbols_of f h.0) e))
    (λ e. any_right (is_shared_data x) (own_entries i f) (entries_of (suc i) fs) (all_data x (suc i) fs h.1 e))

pub all_common : (x : List ℕ) (i : ℕ) (files : List File) → AreFiles files → list_any (same_name x) (tentatives files) ≡ true → list_any (is_shared_common x) (entries_of i files) ≡ true
all_common x i [] h g = absurd (let e : false ≡ true = g in cc)
all_common x i (f ∷ fs) h g =
    any_either (list_any (is_shared_common x) (entries_of i (f ∷ fs)) ≡ true) (same_name x) (flat_map tentative_in (declarations f)) (tentatives fs) g
    (λ e. any_left (is_shared_common x) (own_entries i f) (entries_of (suc i) fs) (file_common x i f (source_of f) (symbols_of f h.0) e))
    (λ e. any_right (is_shared_common x) (own_entries i f) (entries_of (suc i) fs) (all_common x (suc i) fs h.1 e))

-- `main` and its texts, in the same module
pub record HasMain (main : List Statement) (es : List Entry) : Type 0 where
  pub owner : ℕ
  pub item : Typed
  pub found : first_code is_main es ≡ Some (record { owner = owner; item = item })
  pub is_item : MainItem main item
  pub texts : (k : ℕ) (b : List ℕ) → slice_get (text_list main) k ≡ Some b → list_any (is_text_of owner k) es ≡ true

head_is : {X : Type 0} {x y : X} {xs ys : List X} → x ∷ xs ≡ y ∷ ys → x ≡ y
head_is h = cc

later_main : (main : List Statement) (i : ℕ) (f : File) (es : List Entry) → IsFile (items_of f) → f.main ≡ None → HasMain main es → HasMain main (own_entries i f ++ es)
later_main main i f es h m r = record {
  owner = r.owner;
  item = r.item;
  found = file_no_code i f (source_of f) es (symbols_of f h) m ∙ r.found;
  is_item = r.is_item;
  texts = λ k b g. any_right (is_text_of r.owner k) (own_entries i f) es (r.texts k b g);
}

main_here : (main : List Statement) (i : ℕ) (f : File) (es : List Entry) → IsFile (items_of f) → f.main ≡ Some main → HasMain main (own_entries i f ++ es)
main_here main i f es h m =
    let r = file_code i f (source_of f) main es (symbols_of f h) m in
    record {
      owner = i;
      item = r.0;
      found = r.1;
      is_item = r.2;
      texts = λ k b g. any_left (is_text_of i k) (own_entries i f) es (file_text i f (source_of f) main k b (symbols_of f h) m g);
    }

one_of : (main : List Statement) (i : ℕ) (f : File) (fs : List File) (own : Option (List Statement)) → IsFile (items_of f) → f.main ≡ own → mains_of own ++ mains fs ≡ main ∷ []
    → (mains fs ≡ main ∷ [] → HasMain main (entries_of (suc i) fs)) → HasMain main (entries_of i (f ∷ fs))
one_of main i f fs None h m o again = later_main main i f (entries_of (suc i) fs) h m (again o)
one_of main i f fs (Some ss) h m o again = main_here main i f (entries_of (suc i) fs) h (m ∙ ap Some (head_is o))

no_main_here : (main : List Statement) → [] ≡ main ∷ [] → ⊥
no_main_here main h = cc

pub has_main : (main : List Statement) (i : ℕ) (files : List File) → AreFiles files → mains files ≡ main ∷ [] → HasMain main (entries_of i files)
has_main main i [] h o = absurd (no_main_here main o)
has_main main i (f ∷ fs) h o =
    one_of main i f fs f.main h.0 refl (ap (λ l. l ++ mains fs) (sym (mains_are f)) ∙ o) (λ e. has_main main (suc i) fs h.1 e)

-- First values

abbrev IsSmallValue : Initial → Type 0
IsSmallValue v = v.value ≤ 2147483647

small_one : (x : List ℕ) (l : Bool) (f : First) → IsBounded f → Each IsSmallValue (initial_in (record { name = x; is_long = l; first = f }))
small_one x l first.Extern h = tt
small_one x l first.Zero h = tt
small_one x l (first.Number value) h = (h, tt)

small_all : (names : List (List ℕ)) (ds : List Declaration) → AreNew names ds → Each IsSmallValue (flat_map initial_in ds)
small_all names [] h = tt
small_all names (d ∷ ds) h = each_append IsSmallValue (initial_in d) (flat_map initial_in ds) (small_one d.name d.is_long d.first h.2) (small_all (d.name ∷ names) ds h.3)

pub small_values : (files : List File) → AreFiles files → Each IsSmallValue (initials files)
small_values [] h = tt
small_values (f ∷ fs) h =
    let g = file_form f h.0 in
    each_append IsSmallValue (flat_map initial_in (declarations f)) (initials fs)
    (subst (Each IsSmallValue) (sym (flat_append initial_in f.before f.after))
    (each_append IsSmallValue (flat_map initial_in f.before) (flat_map initial_in f.after) (small_all [] f.before g.before) (small_all (names_behind [] f.before) f.after g.after)))
    (small_values fs h.1)

abbrev AreDistinct : List Initial → Type 0
AreDistinct [] = Unit {0}
AreDistinct (v ∷ vs) = Each (λ w. v.name ≢ w.name) vs × AreDistinct vs

each_by_places : {X : Type 0} (P : X → Type 0) (xs : List X) → ((k : ℕ) (d : X) → k < length xs → P (slice_index_or xs k d)) → Each P xs
each_by_places P [] h = tt
each_by_places P (x ∷ xs) h = (h 0 x (omega arith), each_by_places P xs (λ k d l. h (suc k) d (omega (arith, l))))

distinct : (vs : List Initial) → AllPairs (λ v w. v.name ≢ w.name) vs → AreDistinct vs
distinct [] h = tt
distinct (v ∷ vs) h = (
  each_by_places (λ w. v.name ≢ w.name) vs (λ k d l. h 0 (suc k) d (omega arith) (omega (arith, l))),
  distinct vs (λ i j d l m. h (suc i) (suc j) d (omega (arith, l)) (omega (arith, m))),
)

abbrev HasValue : List Initial → Initial → Type 0
HasValue vs v = initial_of vs v.name ≡ v.value

values_of : (vs : List Initial) → AreDistinct vs → Each (HasValue vs) vs
values_of [] h = tt
values_of (v ∷ vs) h = (
  ap (λ b. if b then v.value else initial_of vs v.name) (same_self v.name),
  both vs h.0 (values_of vs h.1),
)
  where
    both : (ws : List Initial) → Each (λ w. v.name ≢ w.name) ws → Each (HasValue vs) ws → Each (HasValue (v ∷ vs)) ws
    both [] a b = tt
    both (w ∷ ws) a b = (
      ap (λ c. if c then v.value else initial_of vs w.name) (not_same w.name v.name (λ e. a.0 (sym e))) ∙ b.0,
      both ws a.1 b.1,
    )

pub first_values : (vs : List Initial) → AllPairs (λ v w. v.name ≢ w.name) vs → Each (HasValue vs) vs
first_values vs h = values_of vs (distinct vs h)

-- a name without a first value begins with 0
pub no_value : (vs : List Initial) (x : List ℕ) → list_any (named x) vs ≡ false → initial_of vs x ≡ 0
no_value [] x h = refl
no_value (v ∷ vs) x h =
    ap (λ b. if b then v.value else initial_of vs x) (neither_left (same_name x v.name) (list_any (named x) vs) h)
    ∙ no_value vs x (neither_right (same_name x v.name) (list_any (named x) vs) h)
