-- The image of files: what is laid out, and its bounds.
use Rattle.std.proofs.Common.{◌≡◌, ◌≤◌, ℕ, ◌+◌, ◌-◌, ◌*◌, ◌%◌, ◌||◌, Bool, true, false, cond, List, [], ◌∷◌, ◌++◌, Some, is_some, unwrap_or, All, length, map, flat_map, refl, sym, ap, subst, ◌∙◌, arith, length-append}
use Rattle.std.proofs.lemmas.List.{map-append, append-nil}
use Rattle.p9_r3k.specs.declared.inst.Inst.{Inst}
use Rattle.p9_r3k.specs.Memory.{text_start}
use Rattle.p9_r3k.specs.Start.{page_from}
use Rattle.p9_aout.specs.Image.{ImageParts, IsWithinBounds}
use Rattle.p9_first.specs.Form.{same_name, is_among}
use Rattle.p9_first.specs.Modules.{new_names}
use Rattle.p9_form.specs.declared.file.File.{File}
use Rattle.p9_form.specs.declared.file.Statement.{Statement}
use Rattle.p9_form.specs.Sharing.{Initial, initials, tentatives, statements, IsSmall}
use Rattle.p9_straight.specs.Layout.{Datum, Variable, Text, datum_bytes, text_bytes, text_in, data_of, variables_of, end_text, data_objects, init_bytes, commons, or_else, variable_in, common_in, address_of, texts_at, end_at}
use Rattle.p9_straight.specs.Code.{code_bytes, code_size, main_code, main_of, data_start, place_in, code_of, parts_for}
use Rattle.p9_straight.specs.Building.{Entries, emitted, held, place_at, fresh, is_held, LaysTo, AddsTo, IsLaid}
use Rattle.p9_straight.proofs.BuildPlaces.{or_nothing}
use Rattle.p9_straight.proofs.BuildCommons.{fresh_same}
use Rattle.p9_straight.proofs.BuildSizes.{main_length, statements_most, main_small}

-- Names

fresh_is : (known xs : List (List ℕ)) → fresh (is_among known) xs ≡ new_names known xs
fresh_is known [] = refl
fresh_is known (x ∷ xs) = by (is_among known x) (fresh_is known xs) (fresh_is (x ∷ known) xs)
  where
    by : (b : Bool) → fresh (is_among known) xs ≡ new_names known xs → fresh (is_among (x ∷ known)) xs ≡ new_names (x ∷ known) xs → cond b (fresh (is_among known) xs) (x ∷ fresh (is_among (x ∷ known)) xs) ≡ cond b (new_names known xs) (x ∷ new_names (x ∷ known) xs)
    by true p q = p
    by false p q = ap (λ ns. x ∷ ns) q

data_names : List Datum → List (List ℕ)
data_names [] = []
data_names (Variable v ∷ ds) = v.name ∷ data_names ds
data_names (Text text ∷ ds) = data_names ds

some_variable : (at : ℕ) (ds : List Datum) (x : List ℕ) → is_some (variable_in at ds x) ≡ is_among (data_names ds) x
unfolding data_names
some_variable at [] x = refl
some_variable at (Variable v ∷ ds) x = by (same_name x v.name) (some_variable (at + 4) ds x)
  where
    by : (b : Bool) → is_some (variable_in (at + 4) ds x) ≡ is_among (data_names ds) x → is_some (cond b (Some at) (variable_in (at + 4) ds x)) ≡ b || is_among (data_names ds) x
    by true p = refl
    by false p = p
some_variable at (Text text ∷ ds) x = some_variable (at + length (text_bytes text)) ds x

names_append : (xs ys : List Datum) → data_names (xs ++ ys) ≡ data_names xs ++ data_names ys
unfolding data_names
names_append [] ys = refl
names_append (Variable v ∷ xs) ys = ap (λ ns. v.name ∷ ns) (names_append xs ys)
names_append (Text text ∷ xs) ys = names_append xs ys

names_variables : (vs : List Initial) (more : List Datum) → data_names (map Variable vs ++ more) ≡ map (λ v. v.name) vs ++ data_names more
unfolding data_names
names_variables [] more = refl
names_variables (v ∷ vs) more = ap (λ ns. v.name ∷ ns) (names_variables vs more)

names_texts : (ts : List (List ℕ)) → data_names (map Text ts) ≡ []
unfolding data_names
names_texts [] = refl
names_texts (t ∷ ts) = names_texts ts

names_file : (file : File) → data_names (data_of file) ≡ map (λ v. v.name) (variables_of file)
names_file file =
    names_variables (variables_of file) (map Text (flat_map text_in (statements file.main)))
    ∙ ap (λ ns. map (λ v. v.name) (variables_of file) ++ ns) (names_texts (flat_map text_in (statements file.main)))
    ∙ append-nil (map (λ v. v.name) (variables_of file))

names_files : (files : List File) → data_names (flat_map data_of files) ≡ map (λ v. v.name) (initials files)
unfolding data_names
names_files [] = refl
names_files (file ∷ files) =
    names_append (data_of file) (flat_map data_of files)
    ∙ ap (λ ns. ns ++ data_names (flat_map data_of files)) (names_file file)
    ∙ ap (λ ns. map (λ v. v.name) (variables_of file) ++ ns) (names_files files)
    ∙ sym (map-append (λ (v : Initial). v.name) (variables_of file) (initials files))

names_objects : (files : List File) → data_names (data_objects files) ≡ map (λ v. v.name) (initials files)
unfolding data_names
names_objects files =
    names_append (flat_map data_of files) (Text end_text ∷ []) ∙ append-nil (data_names (flat_map data_of files)) ∙ names_files files

-- What is laid out

laid_place : (start begin : ℕ) (files : List File) (p0 p1 : Entries) (i0 : List ℕ) (next : ℕ) → begin ≡ start + length (init_bytes files) → LaysTo start [] [] (flat_map data_of files) p0 i0 [] → AddsTo p0 begin (tentatives files) p1 next [] → (common : fresh (is_held p0) (tentatives files ++ []) ≡ commons files) → (name : List ℕ) → held p1 name ≡ address_of start files name
laid_place start begin files p0 p1 i0 next b l a common name =
    let with_end = l.with_more (Text end_text ∷ []) in
    let zero_more : start + 0 ≡ start = omega arith in
    let early : held p0 name ≡ variable_in start (data_objects files) name =
    sym (or_nothing (held p0 name)) ∙ with_end.places name ∙ ap (λ s. variable_in s (data_objects files) name) zero_more in
    sym (or_nothing (held p1 name))
    ∙ (a.with_more []).places name
    ∙ ap (λ ns. or_else (held p0 name) (common_in begin ns name)) common
    ∙ ap (λ o. or_else o (common_in begin (commons files) name)) early
    ∙ ap (λ s. or_else (variable_in start (data_objects files) name) (common_in s (commons files) name)) b

early_held : (start : ℕ) (files : List File) (p0 : Entries) (i0 : List ℕ) → LaysTo start [] [] (flat_map data_of files) p0 i0 [] → (x : List ℕ) → is_held p0 x ≡ is_among (map (λ v. v.name) (initials files)) x
early_held start files p0 i0 l x =
    let with_end = l.with_more (Text end_text ∷ []) in
    let zero_more : start + 0 ≡ start = omega arith in
    ap is_some (sym (or_nothing (held p0 x)) ∙ with_end.places x ∙ ap (λ s. variable_in s (data_objects files) x) zero_more)
    ∙ some_variable start (data_objects files) x
    ∙ ap (λ ns. is_among ns x) (names_objects files)

commons_are : (start : ℕ) (files : List File) (p0 : Entries) (i0 : List ℕ) → LaysTo start [] [] (flat_map data_of files) p0 i0 [] → fresh (is_held p0) (tentatives files ++ []) ≡ commons files
commons_are start files p0 i0 l =
    let known = map (λ (v : Initial). v.name) (initials files) in
    ap (fresh (is_held p0)) (append-nil (tentatives files))
    ∙ fresh_same (is_held p0) (is_among known) (early_held start files p0 i0 l) (tentatives files)
    ∙ fresh_is known (tentatives files)

pub laid_is : (start : ℕ) (files : List File) (e0 p0 p1 : Entries) (b0 i0 i1 : List ℕ) (end begin next : ℕ) → e0 ≡ [] → b0 ≡ [] → length files ≤ 16 → LaysTo start e0 b0 (flat_map data_of files) p0 i0 [] → length i0 ≤ length b0 + 131072 * length files → i1 ≡ i0 ++ text_bytes end_text → end ≡ start + length i0 → begin ≡ start + length i1 → AddsTo p0 begin (tentatives files) p1 next [] → next ≤ begin + 131072 * length files → IsLaid start files p1 i1 end (next - begin)
laid_is start files e0 p0 p1 b0 i0 i1 end begin next e b count lays small i en at adds most =
    let P : Entries → List ℕ → Type 0 = λ m bs. LaysTo start m bs (flat_map data_of files) p0 i0 [] in
    let l : LaysTo start [] [] (flat_map data_of files) p0 i0 [] = subst (P []) b (subst (λ m. P m b0) e lays) in
    let bytes : i1 ≡ init_bytes files = i ∙ (l.with_more (Text end_text ∷ [])).bytes in
    let before_end : i0 ≡ flat_map datum_bytes (flat_map data_of files) =
    sym (append-nil i0) ∙ (l.with_more []).bytes ∙ ap (flat_map datum_bytes) (append-nil (flat_map data_of files)) in
    let common = commons_are start files p0 i0 l in
    let starts : begin ≡ start + length (init_bytes files) = at ∙ ap (λ bs. start + length bs) bytes in
    let ended = (adds.with_more []).end in
    record {
      place = λ name. ap (λ o. unwrap_or o 0) (laid_place start begin files p0 p1 i0 next starts l adds common name);
      bytes = bytes;
      ends = en ∙ ap (λ bs. start + length bs) before_end;
      behind = omega (arith, ended, ap length common);
      small = omega (arith, small, ap length b, ap length i, length-append i0 (text_bytes end_text), most, count);
    }

-- The image

code_length : (code : List Inst) → length (code_bytes code) ≡ 4 * length code
code_length [] = refl
code_length (i ∷ code) = omega (arith, code_length code)

same_code : (files : List File) (start : ℕ) (places : Entries) (end texts : ℕ) (ss : List Statement) → ss ≡ main_of files → start ≡ data_start files → texts ≡ texts_at start files → end ≡ end_at start files → ((name : List ℕ) → place_at places name ≡ unwrap_or (address_of start files name) 0) → main_code (place_at places) texts end ss ≡ code_of files
same_code files start places end texts ss m s t e p =
    let same_place : (name : List ℕ) → place_at places name ≡ place_in files name = λ name. p name ∙ ap (λ at. unwrap_or (address_of at files name) 0) s in
    ap (λ place. main_code place texts end ss) (λ i name. same_place name i)
    ∙ ap (λ at. main_code (place_in files) at end ss) (t ∙ ap (λ at. texts_at at files) s)
    ∙ ap (λ at. main_code (place_in files) (texts_at (data_start files) files) at ss) (e ∙ ap (λ at. end_at at files) s)
    ∙ ap (main_code (place_in files) (texts_at (data_start files) files) (end_at (data_start files) files)) m

pub image_is : (files : List File) (start : ℕ) (places : Entries) (init : List ℕ) (end bss texts : ℕ) (ss : List Statement) (empty text : List ℕ) → ss ≡ main_of files → start ≡ page_from (text_start + code_size ss) → texts ≡ texts_at start files → IsLaid start files places init end bss → empty ≡ [] → text ≡ empty ++ emitted (main_code (place_at places) texts end ss) → record { entry = text_start; text = text; init = init; bss = bss } ≡ parts_for files
unfolding emitted
image_is files start places init end bss texts ss empty text m s t l e p =
    let starts : start ≡ data_start files = s ∙ ap (λ main. page_from (text_start + code_size main)) m in
    let same : text ≡ code_bytes (code_of files) = p ∙ ap (λ bs. bs ++ code_bytes (main_code (place_at places) texts end ss)) e ∙ ap code_bytes (same_code files start places end texts ss m starts t l.ends l.place) in
    λ i. record { entry = text_start; text = same i; init = l.bytes i; bss = l.behind i }

pub image_within : (files : List File) (start : ℕ) (places : Entries) (init : List ℕ) (end bss : ℕ) → All IsSmall files → IsLaid start files places init end bss → IsWithinBounds (parts_for files)
image_within files start places init end bss s l =
    let size = code_length (code_of files) in
    let count = main_length (place_in files) (texts_at (data_start files) files) (end_at (data_start files) files) (main_of files) in
    let most = statements_most (main_of files) in
    let few = main_small files s in
    record {
      whole_words = whole (length (code_bytes (code_of files))) (length (code_of files)) size;
      some_text = omega (arith, size, count);
      most_text = omega (arith, size, count, most, few);
      most_data = omega (arith, l.small, ap length l.bytes, l.behind);
      entry_is_word = refl;
      entry_from = omega arith;
      entry_below = omega (arith, size, count);
    }
  where
    whole : (n k : ℕ) → n ≡ 4 * k → n % 4 ≡ 0
    whole n k e = omega arith

pub parts_within : (files : List File) (parts : ImageParts) → parts ≡ parts_for files → IsWithinBounds (parts_for files) → IsWithinBounds parts
parts_within files parts e b = subst IsWithinBounds (sym e) b
