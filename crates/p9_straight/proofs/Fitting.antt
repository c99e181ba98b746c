-- What files that are small and have the form fit in: their numbers are words, and code and data are not large.
use Rattle.std.proofs.Common.{◌≡◌, ◌<◌, ◌≤◌, ℕ, zero, suc, ◌+◌, ◌*◌, ◌^◌, Bool, true, false, if◌then◌else◌, List, [], ◌∷◌, ◌++◌, length, map, flat_map, slice_index_or, All, Option, Some, None, refl, sym, ap, ◌∙◌, subst, arith, length-append}
use Rattle.std.proofs.lemmas.Grind.{flat_map-append}
use Rattle.std.proofs.lemmas.List.Elements.{All-append}
use Rattle.p9_first.specs.Form.{same_name, is_among, IsFile}
use Rattle.p9_first.specs.Modules.{new_names}
use Rattle.p9_r3k.specs.Memory.{text_start}
use Rattle.p9_r3k.specs.Start.{page_from}
use Rattle.p9_form.specs.declared.file.Operand.{Operand}
use Rattle.p9_form.specs.declared.file.Operand.TheVariants.{Variable, Number}
use Rattle.p9_form.specs.declared.file.Statement.{Statement}
use Rattle.p9_form.specs.declared.file.Statement.TheVariants.{Assign, Write, Exits}
use Rattle.p9_form.specs.declared.file.First.{First}
use Rattle.p9_form.specs.declared.file.First.TheVariants as first
use Rattle.p9_form.specs.declared.file.Declaration.{Declaration}
use Rattle.p9_form.specs.declared.file.File.{File}
use Rattle.p9_form.specs.Items.{items_of}
use Rattle.p9_form.specs.Sharing.{declarations, statements, Initial, initial_in, initials, tentative_in, tentatives, main_in, mains, AreJoined, declared_data, statements_data, IsSmall}
use Rattle.p9_form.proofs.Formed.{FitsOperand, FitsIf, FitsStatement, FitStatements, FitsFirst, FitDeclarations, FitsMain, FitsFile, names_behind, file_fits}
use Rattle.p9_straight.specs.Layout.{text_in, variables_of, data_of, data_objects, init_bytes, commons, bss_size, end_text}
use Rattle.p9_straight.specs.Layout as layout
use Rattle.p9_straight.specs.Code.{statement_code, text_after, statements_code, main_code, code_size, code_bytes, first_of, main_of}
use Rattle.p9_straight.specs.FormRun.{initial_of}
use Rattle.p9_straight.proofs.Positions.{bytes_of, bytes_size, padded_size, AreWords, tail_words, head_word}
use Rattle.p9_straight.proofs.MachineText.{code_size as bytes_in_code}
use Rattle.p9_straight.proofs.MachineTurns.{IsFitOperand, IsFitIf, IsFit, AreFit}
use Rattle.p9_straight.proofs.MachineRun.{begin_of}

-- Elements

first_is : {X : Type 0} (P : X → Type 0) (x : X) (xs : List X) → All P (x ∷ xs) → P x
first_is P x xs h = h 0 x (omega arith)

others_are : {X : Type 0} (P : X → Type 0) (x : X) (xs : List X) → All P (x ∷ xs) → All P xs
others_are P x xs h i d within = h (suc i) d (omega (arith, within))

-- First values are words

first_words : (d : Declaration) (f : First) → FitsFirst f → AreWords (initial_in (record d { first = f }))
first_words d first.Extern h i v within = absurd (omega (arith, within))
first_words d first.Zero h i v within = absurd (omega (arith, within))
first_words d (first.Number value) h zero v within = omega (arith, h)
first_words d (first.Number value) h (suc i) v within = absurd (omega (arith, within))

declared_words : (names : List (List ℕ)) (ds : List Declaration) → FitDeclarations names ds → AreWords (flat_map initial_in ds)
declared_words names [] h = λ i v within. absurd (omega (arith, within))
declared_words names (d ∷ ds) h =
    All-append (λ v. v.value < 2 ^ 32) (initial_in d) (flat_map initial_in ds)
    (first_words d d.first h.1) (declared_words (d.name ∷ names) ds h.2)

file_words : (file : File) → FitsFile file → AreWords (variables_of file)
file_words file fits =
    subst AreWords (sym (flat_map-append initial_in file.before file.after))
    (All-append (λ v. v.value < 2 ^ 32) (flat_map initial_in file.before) (flat_map initial_in file.after)
    (declared_words [] file.before fits.before) (declared_words (names_behind [] file.before) file.after fits.after))

pub files_words : (files : List File) → All (λ f. IsFile (items_of f)) files → AreWords (initials files)
files_words [] forms = λ i v within. absurd (omega (arith, within))
files_words (file ∷ files) forms =
    All-append (λ v. v.value < 2 ^ 32) (variables_of file) (initials files)
    (file_words file (file_fits file (first_is (λ f. IsFile (items_of f)) file files forms)))
    (files_words files (others_are (λ f. IsFile (items_of f)) file files forms))

pub initial_word : (vs : List Initial) (x : List ℕ) → AreWords vs → initial_of vs x < 2 ^ 32
initial_word [] x words = omega arith
initial_word (v ∷ vs) x words = by (same_name x v.name) (head_word v vs words) (initial_word vs x (tail_words v vs words))
  where
    by : (b : Bool) → v.value < 2 ^ 32 → initial_of vs x < 2 ^ 32 → (if b then v.value else initial_of vs x) < 2 ^ 32
    by true own others = own
    by false own others = others

-- Statements fit

fit_operand : (names : List (List ℕ)) (o : Operand) → FitsOperand names o → IsFitOperand o
fit_operand names (Variable x) h = tt
fit_operand names (Number value) h = h

fit_if : (names : List (List ℕ)) (o : Option Operand) → FitsIf names o → IsFitIf o
fit_if names None h = tt
fit_if names (Some operand) h = fit_operand names operand h

fit_one : (names : List (List ℕ)) (s : Statement) → FitsStatement names s → IsFit s
fit_one names (Assign x left right) h = (fit_operand names left h.1, fit_if names right h.2)
fit_one names (Write text count) h = (h.0, fit_operand names count h.1)
fit_one names (Exits None) h = tt
fit_one names (Exits (Some text)) h = h

are_fit : (names : List (List ℕ)) (ss : List Statement) → FitStatements names ss → AreFit ss
are_fit names [] h = tt
are_fit names (s ∷ ss) h = (fit_one names s h.0, are_fit names ss h.1)

main_fit : (names : List (List ℕ)) (main : Option (List Statement)) → FitsMain names main → AreFit (statements main)
main_fit names None h = tt
main_fit names (Some ss) h = are_fit names ss h

file_main_fits : (file : File) → IsFile (items_of file) → AreFit (statements file.main)
file_main_fits file form = let fits = file_fits file form in main_fit (names_behind [] file.before) file.main fits.main

-- The one `main` is a file's

abbrev pub FewStatements : List Statement → Type 0
FewStatements ss = length ss ≤ 65536

main_here : (P : List Statement → Type 0) (file : File) (main : Option (List Statement)) → P (statements main) → All P (main_in (record file { main = main }))
main_here P file None h i ss within = absurd (omega (arith, within))
main_here P file (Some own) h zero ss within = h
main_here P file (Some own) h (suc i) ss within = absurd (omega (arith, within))

mains_are : (P : List Statement → Type 0) (files : List File) → All (λ f. P (statements f.main)) files → All P (mains files)
mains_are P [] h = λ i ss within. absurd (omega (arith, within))
mains_are P (file ∷ files) h =
    All-append P (main_in file) (mains files)
    (main_here P file file.main (first_is (λ f. P (statements f.main)) file files h))
    (mains_are P files (others_are (λ f. P (statements f.main)) file files h))

pub main_is : (files : List File) (j : AreJoined files) → main_of files ≡ j.main
main_is files j = ap first_of j.one_main

main_has : (P : List Statement → Type 0) (files : List File) → All (λ f. P (statements f.main)) files → AreJoined files → P (main_of files)
main_has P files h j =
    subst P (sym (main_is files j)) (first_is P j.main [] (subst (All P) j.one_main (mains_are P files h)))

pub main_fits : (files : List File) → All (λ f. IsFile (items_of f)) files → AreJoined files → AreFit (main_of files)
main_fits files forms j =
    main_has AreFit files (λ i file within. file_main_fits (slice_index_or files i file) (forms i file within)) j

pub main_few : (files : List File) → All IsSmall files → AreJoined files → FewStatements (main_of files)
main_few files smalls j = main_has FewStatements files (λ i file within. (smalls i file within).count) j

-- The size of code

same_size : (place other : List ℕ → ℕ) (at to : ℕ) (s : Statement) → length (statement_code place at s) ≡ length (statement_code other to s)
same_size place other at to (Assign x (Variable y) None) = refl
same_size place other at to (Assign x (Number n) None) = refl
same_size place other at to (Assign x (Variable y) (Some (Variable z))) = refl
same_size place other at to (Assign x (Variable y) (Some (Number m))) = refl
same_size place other at to (Assign x (Number n) (Some (Variable z))) = refl
same_size place other at to (Assign x (Number n) (Some (Number m))) = refl
same_size place other at to (Write text (Variable y)) = refl
same_size place other at to (Write text (Number n)) = refl
same_size place other at to (Exits None) = refl
same_size place other at to (Exits (Some text)) = refl

short_code : (place : List ℕ → ℕ) (at : ℕ) (s : Statement) → length (statement_code place at s) ≤ 12
short_code place at (Assign x (Variable y) None) = omega arith
short_code place at (Assign x (Number n) None) = omega arith
short_code place at (Assign x (Variable y) (Some (Variable z))) = omega arith
short_code place at (Assign x (Variable y) (Some (Number m))) = omega arith
short_code place at (Assign x (Number n) (Some (Variable z))) = omega arith
short_code place at (Assign x (Number n) (Some (Number m))) = omega arith
short_code place at (Write text (Variable y)) = omega arith
short_code place at (Write text (Number n)) = omega arith
short_code place at (Exits None) = omega arith
short_code place at (Exits (Some text)) = omega arith

same_sizes : (place other : List ℕ → ℕ) (at end to stop : ℕ) (ss : List Statement) → length (statements_code place at end ss) ≡ length (statements_code other to stop ss)
same_sizes place other at end to stop [] = refl
same_sizes place other at end to stop (s ∷ ss) =
    let a = length-append (statement_code place at s) (statements_code place (text_after at s) end ss) in
    let b = length-append (statement_code other to s) (statements_code other (text_after to s) stop ss) in
    let c = same_size place other at to s in
    let d = same_sizes place other (text_after at s) end (text_after to s) stop ss in
    omega (arith, a, b, c, d)

short_codes : (place : List ℕ → ℕ) (at end : ℕ) (ss : List Statement) → length (statements_code place at end ss) ≤ 12 * length ss + 5
short_codes place at end [] = omega arith
short_codes place at end (s ∷ ss) =
    let a = length-append (statement_code place at s) (statements_code place (text_after at s) end ss) in
    let b = short_code place at s in
    let c = short_codes place (text_after at s) end ss in
    omega (arith, a, b, c)

-- a statement has at most twelve instructions
pub main_size : (place : List ℕ → ℕ) (at end : ℕ) (ss : List Statement) → length (main_code place at end ss) ≤ 12 * length ss + 6
main_size place at end ss = let s = short_codes place at end ss in omega (arith, s)

-- data begin behind code, whatever its addresses are
pub begins_behind : (place : List ℕ → ℕ) (at end : ℕ) (ss : List Statement) → begin_of (main_code place at end ss) ≡ page_from (text_start + code_size ss)
begins_behind place at end ss =
    let a : length (code_bytes (main_code place at end ss)) ≡ 4 * length (main_code place at end ss) = bytes_in_code (main_code place at end ss) in
    let b : length (statements_code place at end ss) ≡ length (statements_code (λ x. 0) 0 0 ss) = same_sizes place (λ x. 0) at end 0 0 ss in
    let c : length (code_bytes (main_code place at end ss)) ≡ code_size ss = omega (arith, a, b) in
    ap (λ n. page_from (text_start + n)) c

-- The size of data

variables_size : (vs : List Initial) → length (bytes_of (map layout.Variable vs)) ≡ 4 * length vs
variables_size [] = refl
variables_size (v ∷ vs) = let r = variables_size vs in omega (arith, r)

texts_size : (ss : List Statement) → length (bytes_of (map layout.Text (flat_map text_in ss))) ≡ statements_data ss
texts_size [] = refl
texts_size (Assign x left right ∷ ss) = let c = texts_size ss in omega (arith, c)
texts_size (Write text count ∷ ss) =
    let a = bytes_size (layout.Text text) (map layout.Text (flat_map text_in ss)) in
    let b = padded_size text in
    let c = texts_size ss in
    omega (arith, a, b, c)
texts_size (Exits None ∷ ss) = let c = texts_size ss in omega (arith, c)
texts_size (Exits (Some text) ∷ ss) =
    let a = bytes_size (layout.Text text) (map layout.Text (flat_map text_in ss)) in
    let b = padded_size text in
    let c = texts_size ss in
    omega (arith, a, b, c)

-- a declaration gives one variable at most
one_variable : (d : Declaration) (f : First) → length (initial_in (record d { first = f })) + length (tentative_in (record d { first = f })) ≤ 1
one_variable d first.Extern = omega arith
one_variable d first.Zero = omega arith
one_variable d (first.Number value) = omega arith

declared_size : (ds : List Declaration) → 4 * length (flat_map initial_in ds) + 4 * length (flat_map tentative_in ds) ≤ declared_data ds
declared_size [] = omega arith
declared_size (d ∷ ds) =
    let a = length-append (initial_in d) (flat_map initial_in ds) in
    let b = length-append (tentative_in d) (flat_map tentative_in ds) in
    let o : length (initial_in d) + length (tentative_in d) ≤ 1 = one_variable d d.first in
    let r = declared_size ds in
    omega (arith, a, b, o, r)

abbrev tentatives_of : File → List (List ℕ)
tentatives_of file = flat_map tentative_in (declarations file)

file_size : (file : File) → IsSmall file → length (bytes_of (data_of file)) + 4 * length (tentatives_of file) ≤ 131072
file_size file small =
    let vs : List layout.Datum = map layout.Variable (variables_of file) in
    let ts : List layout.Datum = map layout.Text (flat_map text_in (statements file.main)) in
    let e : length (bytes_of (vs ++ ts)) ≡ length (bytes_of vs) + length (bytes_of ts) =
    ap length (flat_map-append layout.datum_bytes vs ts) ∙ length-append (bytes_of vs) (bytes_of ts) in
    let a : length (bytes_of vs) ≡ 4 * length (variables_of file) = variables_size (variables_of file) in
    let b : length (bytes_of ts) ≡ statements_data (statements file.main) = texts_size (statements file.main) in
    let c : 4 * length (variables_of file) + 4 * length (tentatives_of file) ≤ declared_data (declarations file) = declared_size (declarations file) in
    let d : declared_data (declarations file) + statements_data (statements file.main) ≤ 131072 = small.data_size in
    omega (arith, e, a, b, c, d)

files_size : (files : List File) → All IsSmall files → length (bytes_of (flat_map data_of files)) + 4 * length (tentatives files) ≤ 131072 * length files
files_size [] smalls = omega arith
files_size (file ∷ files) smalls =
    let a : length (bytes_of (data_of file ++ flat_map data_of files)) ≡ length (bytes_of (data_of file)) + length (bytes_of (flat_map data_of files)) =
    ap length (flat_map-append layout.datum_bytes (data_of file) (flat_map data_of files)) ∙ length-append (bytes_of (data_of file)) (bytes_of (flat_map data_of files)) in
    let b : length (tentatives_of file ++ tentatives files) ≡ length (tentatives_of file) + length (tentatives files) = length-append (tentatives_of file) (tentatives files) in
    let c = file_size file (first_is IsSmall file files smalls) in
    let d = files_size files (others_are IsSmall file files smalls) in
    omega (arith, a, b, c, d)

new_few : (known names : List (List ℕ)) → length (new_names known names) ≤ length names
new_few known [] = omega arith
new_few known (x ∷ xs) = by (is_among known x) (new_few known xs) (new_few (x ∷ known) xs)
  where
    by : (b : Bool) → length (new_names known xs) ≤ length xs → length (new_names (x ∷ known) xs) ≤ length xs
        → length (if b then new_names known xs else x ∷ new_names (x ∷ known) xs) ≤ length (x ∷ xs)
    by true old new = omega (arith, old)
    by false old new = omega (arith, new)

pub data_small : (files : List File) → All IsSmall files → length files ≤ 16 → length (init_bytes files) + bss_size files ≤ 2 ^ 24
data_small files smalls few =
    let ds : List layout.Datum = flat_map data_of files in
    let a : length (bytes_of (ds ++ layout.Text end_text ∷ [])) ≡ length (bytes_of ds) + 8 =
    ap length (flat_map-append layout.datum_bytes ds (layout.Text end_text ∷ [])) ∙ length-append (bytes_of ds) (bytes_of (layout.Text end_text ∷ [])) in
    let b : length (commons files) ≤ length (tentatives files) = new_few (map (λ v. v.name) (initials files)) (tentatives files) in
    let c : length (bytes_of ds) + 4 * length (tentatives files) ≤ 131072 * length files = files_size files smalls in
    omega (arith, a, b, c, few)
