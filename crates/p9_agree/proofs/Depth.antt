-- The run of small files of the form that are joined has room for its calls: it comes to what `main`'s
-- statements come to by values alone.
use Rattle.std.proofs.Common.{◌≡◌, ◌≤◌, ℕ, zero, suc, ◌+◌, true, false, ◌||◌, if◌then◌else◌, nat_lt, List, [], ◌∷◌, ◌++◌, length, map, Some, None, Option, refl, sym, ap, ◌∙◌, subst, arith, length-append, append_assoc}
use Rattle.std.proofs.lemmas.Bool.Decides.{nat_tests}
use Rattle.std.specs.Prelude.{codes, flat_map, slice_get, Contains}
use Rattle.std.specs.List.{list_any}
use Rattle.p9_first.specs.Form.{same_name, is_variable_name, IsFile}
use Rattle.p9_first.specs.Typing.{Has, named as named_in}
use Rattle.p9_first.specs.Types.{Outer}
use Rattle.p9_first.specs.Modules.{Source, Typed, judged_type}
use Rattle.p9_form.specs.declared.file.Operand.{Operand}
use Rattle.p9_form.specs.declared.file.Operand.TheVariants.{Variable, Number}
use Rattle.p9_form.specs.declared.file.Statement.{Statement}
use Rattle.p9_form.specs.declared.file.Statement.TheVariants.{Assign, Write, Exits}
use Rattle.p9_form.specs.declared.file.File.{File}
use Rattle.p9_form.specs.Items.{items_of, source_of}
use Rattle.p9_form.specs.Sharing.{named_by, named_if, names_in, initials, tentatives, defined_names, mains, AreJoined, IsSmall}
use Rattle.p9_first.specs.Turns.{Outcome, Ended, Out, Undefined, Deep, Over, End, resolve, calls_to}
use Rattle.p9_first.specs.Union.{is_shared_of, entries, Defined, first_objects, base_need, definition, is_shared_common, is_shared_data}
use Rattle.p9_first.specs.Statements.{item_body}
use Rattle.p9_first.specs.CRun.{surroundings, body_of, function_need, functions_of, main_name, main_call, first_state, run_of, outcome_of, source_run}
use Rattle.p9_first.proofs.Runs.{source_run_is}
use Rattle.p9_straight.specs.Code.{main_of, first_of}
use Rattle.p9_straight.specs.FormRun.{Came, initial_of, statements_run, form_run}
use Rattle.p9_straight.proofs.SourceLists.{Each, each_both, each_from_all, each_left, each_right, first_true, or_true, any_either, any_map, any_contained, each_weaker}
use Rattle.p9_straight.proofs.SourceRun.{Setting, Shows, FineOperand, FineIf, Fine, AreFine, text_count, HasText, HaveTexts}
use Rattle.p9_straight.proofs.SourceForm.{Among}
use Rattle.p9_straight.proofs.SourceTyped.{each_among, texts_by, text_list}
use Rattle.p9_straight.proofs.SourceEntries.{Sound}
use Rattle.p9_straight.proofs.SourceUnion.{AreFiles, all_sound, all_data, all_common, HasMain, has_main, small_values, first_values}
use Rattle.p9_straight.proofs.SourceObjects.{variable_dotless, number_of, static_of, IsFirst, is_given, first_holder, variable_pointer, function_is, variables_apart, text_at, first_text, text_apart}
use Rattle.p9_first.proofs.Variables.{IsVariableType}
use Rattle.p9_agree.specs.Depth.{IsNotDeep, Reaches, FormIsNeverDeep, FormComes}
use Rattle.p9_agree.proofs.Reached.{statements_reach}
use Rattle.p9_agree.proofs.Weights.{functions_need}

-- The texts of statements, by their numbers

get_behind : (before : List (List ℕ)) (t : List ℕ) (rest : List (List ℕ)) → slice_get (before ++ t ∷ rest) (length before) ≡ Some t
get_behind [] t rest = refl
get_behind (b ∷ before) t rest = get_behind before t rest

count_is : (s : Statement) → length (texts_by s) ≡ text_count s
count_is (Assign x left right) = refl
count_is (Write text count) = refl
count_is (Exits None) = refl
count_is (Exits (Some text)) = refl

has_text : (before : List (List ℕ)) (s : Statement) (rest : List (List ℕ)) → HasText (before ++ (texts_by s ++ rest)) (length before) s
has_text before (Assign x left right) rest = tt
has_text before (Write text count) rest = get_behind before text rest
has_text before (Exits None) rest = tt
has_text before (Exits (Some text)) rest = get_behind before text rest

have_texts : (before : List (List ℕ)) (ss : List Statement) → HaveTexts (before ++ text_list ss) (length before) ss
have_texts before [] = tt
have_texts before (s ∷ ss) =
    let l : length (before ++ texts_by s) ≡ length before + text_count s = length-append before (texts_by s) ∙ ap (λ n. length before + n) (count_is s) in (
      has_text before s (text_list ss),
      subst (λ n. HaveTexts (before ++ (texts_by s ++ text_list ss)) n ss) l
          (subst (λ ts. HaveTexts ts (length (before ++ texts_by s)) ss) (append_assoc before (texts_by s) (text_list ss)) (have_texts (before ++ texts_by s) ss)),
    )

-- What statements name is declared in their file and defined in one

module _ (J K : List ℕ → Type 0) where
  abbrev Both : List ℕ → Type 0
  Both x = J x × K x

  fine_operand : (o : Operand) → FineOperand K o → Each J (named_by o) → FineOperand Both o
  fine_operand (Variable x) h g = (g.0, h)
  fine_operand (Number n) h g = h

  fine_if : (o : Option Operand) → FineIf K o → Each J (named_if o) → FineIf Both o
  fine_if None h g = tt
  fine_if (Some o) h g = fine_operand o h g

  fine_both : (s : Statement) → Fine K s → Each J (names_in s) → Fine Both s
  fine_both (Assign x left right) h g =
      ((g.0, h.0), fine_operand left h.1 (each_left J (named_by left) (named_if right) g.1), fine_if right h.2 (each_right J (named_by left) (named_if right) g.1))
  fine_both (Write text count) h g = fine_operand count h g
  fine_both (Exits text) h g = h

  all_fine : (ss : List Statement) → AreFine K ss → Each J (flat_map names_in ss) → AreFine Both ss
  all_fine [] h g = tt
  all_fine (s ∷ ss) h g =
      (fine_both s h.0 (each_left J (names_in s) (flat_map names_in ss) g), all_fine ss h.1 (each_right J (names_in s) (flat_map names_in ss) g))

module _ (files : List File) (f : AreFiles files) (small : Each IsSmall files) (joined : AreJoined files) where
  abbrev modules : List Source
  modules = map source_of files

  abbrev texts : List (List ℕ)
  texts = text_list joined.main

  -- this one is defined
  abbrev Given : List ℕ → Type 0
  Given x = (list_any (is_given x) (initials files) || list_any (same_name x) (tentatives files)) ≡ true

  is_one : (ss : List (List Statement)) → ss ≡ joined.main ∷ [] → Each (λ s. s ≡ joined.main) ss
  is_one ss e = subst (Each (λ s. s ≡ joined.main)) (sym e) (refl, tt)

  all_are_sound : Each (λ e. Sound (IsFirst (initials files)) texts e.symbol) (entries modules)
  all_are_sound =
      all_sound (IsFirst (initials files)) joined.main 0 files f
      (each_both (λ v. initial_of (initials files) v.name ≡ v.value) (λ v. v.value ≤ 2147483647) (initials files) (first_values (initials files) joined.once) (small_values files f))
      (is_one (mains files) joined.one_main)

  data_there : (x : List ℕ) → list_any (is_given x) (initials files) ≡ true → list_any (is_shared_data x) (entries modules) ≡ true
  data_there x h = all_data x 0 files f h

  common_there : (x : List ℕ) → list_any (same_name x) (tentatives files) ≡ true → list_any (is_shared_common x) (entries modules) ≡ true
  common_there x h = all_common x 0 files f h

  given_of : (x : List ℕ) → Contains (defined_names files) x → Given x
  given_of x h =
      any_either (Given x) (same_name x) (map (λ v. v.name) (initials files)) (tentatives files) (any_contained (defined_names files) x h)
      (λ e. first_true (list_any (is_given x) (initials files)) (list_any (same_name x) (tentatives files)) (any_map (same_name x) (λ v. v.name) (initials files) ∙ e))
      (λ e. or_true (list_any (is_given x) (initials files)) (list_any (same_name x) (tentatives files)) e)

  main_there : HasMain joined.main (entries modules)
  main_there = has_main joined.main 0 files f joined.one_main

  abbrev KnownIn : List (List ℕ) → List ℕ → Type 0
  KnownIn names x = Given x × Among names x

  setting : (m : HasMain joined.main (entries modules)) → Setting (surroundings modules m.owner) m.is_item.scope (KnownIn m.is_item.names) texts (number_of modules) (static_of modules m.owner)
  setting m =
      let i = m.is_item in
      record {
        type = λ x. judged_type (named_in i.scope x);
        is_variable = λ x h. let r = i.good.variable x h.1 in subst (λ j. IsVariableType (judged_type j)) (sym r.2) r.1;
        variable = λ x h. let r = i.good.variable x h.1 in r.2 ∙ ap (λ j. Has (judged_type j) (Outer x)) (sym r.2);
        object = λ x h. variable_pointer modules (initials files) (tentatives files) texts all_are_sound data_there common_there m.owner x h.0
            (variable_dotless x (each_among (λ y. is_variable_name y ≡ true) i.names x h.1 i.variables));
        apart = λ x y h g e. variables_apart modules (initials files) (tentatives files) texts all_are_sound data_there common_there x y h.0 g.0 e;
        write = i.good.write;
        exits = i.good.exits;
        write_function = function_is modules (initials files) (tentatives files) texts all_are_sound data_there common_there m.owner (codes "write") refl;
        exits_function = function_is modules (initials files) (tentatives files) texts all_are_sound data_there common_there m.owner (codes "exits") refl;
        text = λ k b h. text_at modules (initials files) (tentatives files) texts all_are_sound data_there common_there m.owner k (m.texts k b h);
        clear = λ x k b h g. text_apart modules (initials files) (tentatives files) texts all_are_sound data_there common_there m.owner k x (m.texts k b g) h.0;
      }

  shows : (m : HasMain joined.main (entries modules)) → Shows (KnownIn m.is_item.names) texts (number_of modules) (static_of modules m.owner) (initial_of (initials files)) (first_objects modules)
  shows m = record {
    holder = λ x h. first_holder modules (initials files) (tentatives files) texts all_are_sound data_there common_there x h.0;
    shown = λ k b h. first_text modules (initials files) (tentatives files) texts all_are_sound data_there common_there m.owner k b (m.texts k b h) h;
  }

  fine : (m : HasMain joined.main (entries modules)) → AreFine (KnownIn m.is_item.names) joined.main
  fine m =
      all_fine Given (Among m.is_item.names) joined.main m.is_item.fine
      (each_weaker (λ x. Contains (defined_names files) x) Given given_of (flat_map names_in joined.main)
      (each_from_all (λ x. Contains (defined_names files) x) (flat_map names_in joined.main) joined.resolved))

  abbrev main_comes_to : (active turns : ℕ) (input : List ℕ) → Option Defined → Outcome
  main_comes_to active turns input o =
      outcome_of (resolve (calls_to turns (functions_of modules)) active turns 0 (body_of modules turns o (main_call modules) (first_state modules input)))

  abbrev item_comes_to : (active turns : ℕ) (input : List ℕ) (owner : ℕ) → Typed → Outcome
  item_comes_to active turns input owner item =
      outcome_of (resolve (calls_to turns (functions_of modules)) active turns 0 (item_body turns (surroundings modules owner) item (main_call modules).place (first_state modules input)))

  body_reaches : (m : HasMain joined.main (entries modules)) (active turns : ℕ) (input : List ℕ) → active + 64 ≤ 16777216
      → Reaches (main_comes_to active turns input (definition modules main_name)) (statements_run turns (initial_of (initials files)) joined.main [])
  body_reaches m active turns input fits =
      subst (λ o. Reaches (main_comes_to active turns input o) (statements_run turns (initial_of (initials files)) joined.main [])) (sym m.found)
      (subst (λ i. Reaches (item_comes_to active turns input m.owner i) (statements_run turns (initial_of (initials files)) joined.main [])) (sym m.is_item.shape)
      (statements_reach modules (surroundings modules m.owner) m.is_item.scope (KnownIn m.is_item.names) texts (number_of modules) (static_of modules m.owner) (setting m)
      turns active turns 0 turns 0 m.is_item.first m.is_item.place (main_call modules).place (initial_of (initials files)) joined.main (first_state modules input)
      fits (omega arith) (fine m) (have_texts [] joined.main) (shows m)))

  main_is : main_of files ≡ joined.main
  main_is = ap first_of joined.one_main

  need_is : base_need + function_need modules main_name + 64 ≤ 16777216
  need_is = let n = functions_need (is_shared_of (codes "main")) files f small in omega (arith, n)

  has_room : (active : ℕ) → active + 64 ≤ 16777216 → nat_lt 16777216 active ≡ false
  has_room active le = grind (arith, nat_tests)

  run_reaches : (input : List ℕ) (turns : ℕ) → Reaches (outcome_of (run_of modules input turns)) (form_run files turns)
  run_reaches input zero = refl
  run_reaches input (suc turns) =
      let active : ℕ = base_need + function_need modules main_name in
      let came : Came = statements_run turns (initial_of (initials files)) (main_of files) [] in
      let rest : End = resolve (calls_to turns (functions_of modules)) active turns 0 (body_of modules turns (definition modules main_name) (main_call modules) (first_state modules input)) in
      subst (λ b. Reaches (outcome_of (if b then Over (Deep [] (main_call modules).place) 0 else rest)) came) (sym (has_room active need_is))
      (subst (λ ss. Reaches (outcome_of rest) (statements_run turns (initial_of (initials files)) ss [])) (sym main_is) (body_reaches main_there active turns input need_is))

pub form_comes : FormComes
form_comes files input turns h small j =
    subst (λ o. Reaches o (form_run files turns)) (sym (source_run_is (map source_of files) input turns))
    (run_reaches files (each_from_all (λ f. IsFile (items_of f)) files h) (each_from_all IsSmall files small) j input turns)

not_deep : (o : Outcome) (came : Came) → Reaches o came → IsNotDeep o
not_deep (Ended output text) came h = tt
not_deep (Out output) came h = tt
not_deep (Undefined output why place) came h = tt
not_deep (Deep output place) came h = h

pub form_is_never_deep : FormIsNeverDeep
form_is_never_deep files input turns h small j =
    not_deep (source_run (map source_of files) input turns) (form_run files turns) (form_comes files input turns h small j)
