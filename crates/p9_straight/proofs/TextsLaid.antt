-- The texts of joined files lie at their addresses, and no variable lies in them.
use Rattle.std.proofs.Common.{◌≡◌, ◌<◌, ◌≤◌, ◌⊎◌, inl, inr, ℕ, zero, suc, ◌+◌, ◌-◌, ◌*◌, ◌%◌, List, [], ◌∷◌, ◌++◌, length, take, drop, map, replicate, flat_map, Some, None, Option, refl, sym, ap, ◌∙◌, subst, arith, length-append, append_assoc}
use Rattle.std.proofs.Math.Seq.{take-append-add, drop-append_seam}
use Rattle.std.proofs.lemmas.Grind.{flat_map-append}
use Rattle.p9_form.specs.declared.file.Statement.{Statement}
use Rattle.p9_form.specs.declared.file.Statement.TheVariants.{Assign, Write, Exits}
use Rattle.p9_form.specs.declared.file.File.{File}
use Rattle.p9_form.specs.Sharing.{Initial, statements, mains, defined_names, AreJoined}
use Rattle.p9_straight.specs.Layout.{Datum, Variable, Text, text_bytes, datum_bytes, text_in, end_text, variables_of, data_of, data_objects, init_bytes, commons, variable_in, texts_from, texts_at, end_at}
use Rattle.p9_straight.specs.Code.{data_start, place_in, text_after, first_of, main_of}
use Rattle.p9_straight.proofs.Placed.{IsTextAt, AreTexts}
use Rattle.p9_straight.proofs.Positions.{bytes_of, padded_size, variable_clear, common_from}
use Rattle.p9_straight.proofs.LaidOut.{Lies, where_it_lies, behind_init}

bytes_append : (ds es : List Datum) → bytes_of (ds ++ es) ≡ bytes_of ds ++ bytes_of es
bytes_append ds es = flat_map-append datum_bytes ds es

-- One text

-- the data are a front, this text, and more
abbrev IsText : List File → List Datum → List ℕ → List Datum → Type 0
IsText files front text back = data_objects files ≡ front ++ Text text ∷ back

init_is : (files : List File) (front : List Datum) (text : List ℕ) (back : List Datum) → IsText files front text back
    → init_bytes files ≡ bytes_of front ++ (text_bytes text ++ bytes_of back)
init_is files front text back e = ap bytes_of e ∙ bytes_append front (Text text ∷ back)

one_zero : (n : ℕ) → 0 < n → replicate {A = ℕ} n 0 ≡ 0 ∷ replicate (n - 1) 0
one_zero zero h = absurd (omega arith)
one_zero (suc n) h = let e : suc n - 1 ≡ n = omega arith in ap (λ m. 0 ∷ replicate m 0) (sym e)

text_front : (text more : List ℕ) → take (length text + 1) (text_bytes text ++ more) ≡ text ++ 0 ∷ []
text_front text more =
    let z : replicate {A = ℕ} (4 - length text % 4) 0 ≡ 0 ∷ replicate (4 - length text % 4 - 1) 0 = one_zero (4 - length text % 4) (omega arith) in
    ap (λ r. take (length text + 1) ((text ++ r) ++ more)) z
    ∙ ap (take (length text + 1)) (append_assoc text (0 ∷ replicate (4 - length text % 4 - 1) 0) more)
    ∙ take-append-add text (0 ∷ (replicate (4 - length text % 4 - 1) 0 ++ more)) 1

text_lies : (files : List File) (front : List Datum) (text : List ℕ) (back : List Datum) (at : ℕ) → IsText files front text back
    → at ≡ data_start files + length (bytes_of front)
    → IsTextAt (place_in files) (defined_names files) (data_start files) (init_bytes files) text at
text_lies files front text back at e a = record {
  from = omega (arith, a);
  within = omega (arith, a, whole, padded_size text);
  bytes =
      ap (λ n. take (length text + 1) (drop n (init_bytes files))) offset
      ∙ ap (λ l. take (length text + 1) (drop (length (bytes_of front)) l)) (init_is files front text back e)
      ∙ ap (take (length text + 1)) (drop-append_seam (bytes_of front) (text_bytes text ++ bytes_of back))
      ∙ text_front text (bytes_of back);
  clear = λ x c. clear_of x (where_it_lies files x c);
}
  where
    whole : length (init_bytes files) ≡ length (bytes_of front) + (length (text_bytes text) + length (bytes_of back))
    whole =
        ap length (init_is files front text back e)
        ∙ length-append (bytes_of front) (text_bytes text ++ bytes_of back)
        ∙ ap (λ n. length (bytes_of front) + n) (length-append (text_bytes text) (bytes_of back))

    offset : at - data_start files ≡ length (bytes_of front)
    offset = omega (arith, a)

    clear_of : (x : List ℕ) → Lies files x → (place_in files x + 4 ≤ at) ⊎ (at + (length text + 1) ≤ place_in files x)
    clear_of x (inl r) =
        by (variable_clear (data_start files) front text back x r.at (ap (λ ds. variable_in (data_start files) ds x) (sym e) ∙ r.found))
      where
        by : (r.at + 4 ≤ data_start files + length (bytes_of front)) ⊎ (data_start files + length (bytes_of front) + length (text_bytes text) ≤ r.at)
            → (place_in files x + 4 ≤ at) ⊎ (at + (length text + 1) ≤ place_in files x)
        by (inl l) = let p = r.place in inl (omega (arith, a, l, p))
        by (inr l) = let p = r.place in let s = padded_size text in inr (omega (arith, a, l, p, s))
    clear_of x (inr r) =
        let c = common_from (behind_init files) (commons files) x r.at r.found in
        let p = r.place in
        let s = padded_size text in
        inr (omega (arith, a, c, p, s, whole))

-- All texts of statements

abbrev texts_of : List Statement → List Datum
texts_of ss = map Text (flat_map text_in ss)

next_front : (files : List File) (front : List Datum) (text : List ℕ) (more : List Datum)
    → data_objects files ≡ front ++ (Text text ∷ more) → data_objects files ≡ (front ++ Text text ∷ []) ++ more
next_front files front text more e = e ∙ sym (append_assoc front (Text text ∷ []) more)

next_place : (files : List File) (front : List Datum) (text : List ℕ) (at : ℕ) → at ≡ data_start files + length (bytes_of front)
    → at + (length text + (4 - length text % 4)) ≡ data_start files + length (bytes_of (front ++ Text text ∷ []))
next_place files front text at a =
    let b = ap length (bytes_append front (Text text ∷ [])) in
    let l = length-append (bytes_of front) (text_bytes text ++ []) in
    let m = length-append (text_bytes text) [] in
    let s = padded_size text in
    omega (arith, a, b, l, m, s)

texts_lie : (files : List File) (ss : List Statement) (front back : List Datum) (at end : ℕ)
    → data_objects files ≡ front ++ (texts_of ss ++ back)
    → at ≡ data_start files + length (bytes_of front)
    → IsTextAt (place_in files) (defined_names files) (data_start files) (init_bytes files) end_text end
    → AreTexts (place_in files) (defined_names files) (data_start files) (init_bytes files) at end ss
texts_lie files [] front back at end e a z = z
texts_lie files (Assign x left right ∷ ss) front back at end e a z = (tt, texts_lie files ss front back at end e a z)
texts_lie files (Exits None ∷ ss) front back at end e a z = (tt, texts_lie files ss front back at end e a z)
texts_lie files (Write text count ∷ ss) front back at end e a z = (
  text_lies files front text (texts_of ss ++ back) at e a,
  texts_lie files ss (front ++ Text text ∷ []) back (text_after at (Write text count)) end
      (next_front files front text (texts_of ss ++ back) e) (next_place files front text at a) z,
)
texts_lie files (Exits (Some text) ∷ ss) front back at end e a z = (
  text_lies files front text (texts_of ss ++ back) at e a,
  texts_lie files ss (front ++ Text text ∷ []) back (text_after at (Exits (Some text))) end
      (next_front files front text (texts_of ss ++ back) e) (next_place files front text at a) z,
)

-- The texts of `main` among the data of all files

pub record IsSplit (files : List File) (at : ℕ) (main : List Statement) : Type 0 where
  pub front : List Datum
  pub back : List Datum
  pub split : flat_map data_of files ≡ front ++ (texts_of main ++ back)
  pub place : texts_at at files ≡ at + length (bytes_of front)

variables_size : (vs : List Initial) → length (bytes_of (map Variable vs)) ≡ 4 * length vs
variables_size [] = refl
variables_size (v ∷ vs) = let r = variables_size vs in omega (arith, r)

list_head : {X : Type 0} {x y : X} {xs ys : List X} → x ∷ xs ≡ y ∷ ys → x ≡ y
list_head h = cc

find_main : (files : List File) (at : ℕ) (main : List Statement) → mains files ≡ main ∷ [] → IsSplit files at main
find_main [] at main h = absurd (nothing h)
  where
    nothing : {X : Type 0} {x : X} → [] ≡ x ∷ [] → ⊥
    nothing e = cc
find_main (file ∷ files) at main h = by file.main refl h (λ m. find_main files (at + 4 * length (variables_of file)) main m)
  where
    own : List Datum
    own = map Variable (variables_of file)

    here : ℕ
    here = at + 4 * length (variables_of file)

    last : (ss : List Statement) → file.main ≡ Some ss → ss ≡ main → IsSplit (file ∷ files) at main
    last ss e m = record {
      front = map Variable (variables_of file);
      back = flat_map data_of files;
      split =
          append_assoc (map Variable (variables_of file)) (texts_of (statements file.main)) (flat_map data_of files)
          ∙ ap (λ o. map Variable (variables_of file) ++ (texts_of (statements o) ++ flat_map data_of files)) e
          ∙ ap (λ l. map Variable (variables_of file) ++ (texts_of l ++ flat_map data_of files)) m;
      place =
          ap (λ o. texts_from o (at + 4 * length (variables_of file)) (texts_at (at + 4 * length (variables_of file)) files)) e
          ∙ ap (λ n. at + n) (sym (variables_size (variables_of file)));
    }

    later : file.main ≡ None → IsSplit files (at + 4 * length (variables_of file)) main → IsSplit (file ∷ files) at main
    later e r = record {
      front = map Variable (variables_of file) ++ r.front;
      back = r.back;
      split =
          append_assoc (map Variable (variables_of file)) (texts_of (statements file.main)) (flat_map data_of files)
          ∙ ap (λ o. map Variable (variables_of file) ++ (texts_of (statements o) ++ flat_map data_of files)) e
          ∙ ap (λ l. map Variable (variables_of file) ++ l) r.split
          ∙ sym (append_assoc (map Variable (variables_of file)) r.front (texts_of main ++ r.back));
      place =
          ap (λ o. texts_from o (at + 4 * length (variables_of file)) (texts_at (at + 4 * length (variables_of file)) files)) e
          ∙ r.place
          ∙ (let b = ap length (bytes_append (map Variable (variables_of file)) r.front) in
          let l = length-append (bytes_of (map Variable (variables_of file))) (bytes_of r.front) in
          let v = variables_size (variables_of file) in
          omega (arith, b, l, v));
    }

    by : (o : Option (List Statement)) → file.main ≡ o → mains (file ∷ files) ≡ main ∷ [] → (mains files ≡ main ∷ [] → IsSplit files (at + 4 * length (variables_of file)) main) → IsSplit (file ∷ files) at main
    by None e h again = later e (again (sym (ap (λ o. Rattle.p9_form.specs.Sharing.main_in (record file { main = o }) ++ mains files) e) ∙ h))
    by (Some ss) e h again = last ss e (list_head (sym (ap (λ o. Rattle.p9_form.specs.Sharing.main_in (record file { main = o }) ++ mains files) e) ∙ h))

end_lies : (files : List File) → IsTextAt (place_in files) (defined_names files) (data_start files) (init_bytes files) end_text (end_at (data_start files) files)
end_lies files = text_lies files (flat_map data_of files) end_text [] (end_at (data_start files) files) refl refl

pub texts_laid : (files : List File) → AreJoined files
    → AreTexts (place_in files) (defined_names files) (data_start files) (init_bytes files)
    (texts_at (data_start files) files) (end_at (data_start files) files) (main_of files)
texts_laid files j =
    let r = find_main files (data_start files) j.main j.one_main in
    let m : main_of files ≡ j.main = ap first_of j.one_main in
    let t = texts_lie files j.main r.front (r.back ++ Text end_text ∷ []) (texts_at (data_start files) files) (end_at (data_start files) files)
    (ap (λ l. l ++ Text end_text ∷ []) r.split
    ∙ append_assoc r.front (texts_of j.main ++ r.back) (Text end_text ∷ [])
    ∙ ap (λ l. r.front ++ l) (append_assoc (texts_of j.main) r.back (Text end_text ∷ [])))
    r.place (end_lies files) in
    subst (λ ss. AreTexts (place_in files) (defined_names files) (data_start files) (init_bytes files) (texts_at (data_start files) files) (end_at (data_start files) files) ss) (sym m) t
