-- Runs by typed modules that mean the same as their sources.
use Rattle.std.proofs.Common.{◌≡◌, ℕ, zero, suc, ◌+◌, Bool, true, false, not, if◌then◌else◌, List, [], ◌∷◌, ◌++◌, map, length, Option, Some, None, Result, Ok, Err, refl, sym, ap, subst, ◌∙◌, append_assoc, arith}
use Rattle.std.specs.Prelude.{◌==◌, flat_map, slice_get}
use Rattle.std.proofs.lemmas.List.{map-append, length-append}
use Rattle.std.proofs.lemmas.Grind.{flat_map-append}
use Rattle.p9_base.specs.Words.{is_negative}
use Rattle.p9_lang.specs.Modules.{Source}
use Rattle.p9_lang.specs.Symbols.{symbols}
use Rattle.p9_cmean.specs.declared.Cause.{Cause}
use Rattle.p9_cmean.specs.declared.Place.{Place}
use Rattle.p9_cmean.specs.Cells.{FunctionName, Global, Local, Value, Word, State}
use Rattle.p9_cmean.specs.Plays.{Call, Play, Done}
use Rattle.p9_cmean.specs.Access.{integer_in, pointer_in}
use Rattle.p9_cmean.specs.Places.{or_wrong}
use Rattle.p9_cmean.specs.SystemCalls as system
use Rattle.p9_cmean.specs.SystemCalls.{SystemCall, Exits, Read, Write, system_call}
use Rattle.p9_cmean.specs.Union.{FunctionEntry, Union, union_of, entries_of, entries_from, functions_in, found_function, is_function, base_need}
use Rattle.p9_cmean.specs.CRun as c
use Rattle.p9_cmean.specs.CRun.{source_run, main_call, first_state, return_text}
use Rattle.p9_tree.specs.Meaning.{Function}
use Rattle.p9_tree.specs.Modules.{TypedModule}
use Rattle.p9_tree.specs.Same.{Alike, SameCall, Same, SameFunctions}
use Rattle.p9_tree.specs.TRun as t
use Rattle.p9_tree.specs.TRun.{Coded, coded_row, coded_from, functions_at, found_coded, trun}
use Rattle.p9_tree.specs.Means.{FunctionMeans, FunctionsMean, AllMean, RunsMeanSame}
use Rattle.p9_tree.proofs.Same.{alike_refl, same_call_refl, same_calls_end_same, same_outcome}

-- SYSTEM CALLS do the same wherever they are called

same_or : {A : Type 0} (p q : Place) (s : State) (r : Result A Cause) (k l : A → Play Value) → ((a : A) → Same Alike (k a) (l a)) → Same Alike (or_wrong p s r k) (or_wrong q s r l)
same_or p q s (Ok a) k l h = h a
same_or p q s (Err why) k l h = tt

done_same : (v : Value) (s : State) → Same Alike (Done v s) (Done v s)
done_same v s = (v, refl, alike_refl v)

same_choice : (b : Bool) (p q p' q' : Play Value) → Same Alike p q → Same Alike p' q' → Same Alike (if b then p else p') (if b then q else q')
same_choice true p q p' q' h g = h
same_choice false p q p' q' h g = g

exits_same : (p q : Place) (vs : List Value) (s : State) → Same Alike (system.exits_call p vs s) (system.exits_call q vs s)
exits_same p q [] s = tt
exits_same p q (v ∷ []) s = same_or p q s (pointer_in v) _ _ (λ x. same_or p q s (system.exit_text s.objects x) _ _ (λ text. refl))
exits_same p q (v ∷ w ∷ vs) s = tt

transfer_same : (f : Place → ℕ → Value → ℕ → State → Play Value) → ((p q : Place) (d : ℕ) (a : Value) (n : ℕ) (s : State) → Same Alike (f p d a n s) (f q d a n s))
    → (p q : Place) (vs : List Value) (s : State) → Same Alike (system.transfer_call f p vs s) (system.transfer_call f q vs s)
transfer_same f h p q [] s = tt
transfer_same f h p q (d ∷ []) s = tt
transfer_same f h p q (d ∷ a ∷ []) s = tt
transfer_same f h p q (d ∷ a ∷ n ∷ []) s = same_or p q s (integer_in d) _ _ (λ x. same_or p q s (integer_in n) _ _ (λ y. h p q x a y s))
transfer_same f h p q (d ∷ a ∷ n ∷ m ∷ vs) s = tt

written_same : (p q : Place) (a : Value) (n : ℕ) (s : State) → Same Alike (system.written p a n s) (system.written q a n s)
written_same p q a zero s = done_same (Word 0) s
written_same p q a (suc n) s = same_or p q s (system.characters_at s.objects a (suc n)) _ _ (λ cs. done_same (Word (suc n)) _)

filled_same : (p q : Place) (a : Value) (n : ℕ) (s : State) → Same Alike (system.filled p a n s) (system.filled q a n s)
filled_same p q a zero s = done_same (Word 0) s
filled_same p q a (suc n) s = same_or p q s (system.room_at s.objects a (suc n)) _ _ (λ x. done_same _ _)

write_same : (p q : Place) (d : ℕ) (a : Value) (n : ℕ) (s : State) → Same Alike (system.write p d a n s) (system.write q d a n s)
write_same p q d a n s =
    same_choice (not (d == 1)) (Done system.minus_one s) (Done system.minus_one s) (if is_negative n then Done system.minus_one s else system.written p a n s) (if is_negative n then Done system.minus_one s else system.written q a n s) (done_same system.minus_one s)
    (same_choice (is_negative n) (Done system.minus_one s) (Done system.minus_one s) (system.written p a n s) (system.written q a n s) (done_same system.minus_one s) (written_same p q a n s))

read_same : (p q : Place) (d : ℕ) (a : Value) (n : ℕ) (s : State) → Same Alike (system.read p d a n s) (system.read q d a n s)
read_same p q d a n s =
    same_choice (not (d == 0)) (Done system.minus_one s) (Done system.minus_one s) (if is_negative n then Done system.minus_one s else system.filled p a n s) (if is_negative n then Done system.minus_one s else system.filled q a n s) (done_same system.minus_one s)
    (same_choice (is_negative n) (Done system.minus_one s) (Done system.minus_one s) (system.filled p a n s) (system.filled q a n s) (done_same system.minus_one s) (filled_same p q a n s))

system_at : SystemCall → (pl : Place) → List Value → State → Play Value
system_at Exits pl vs s = system.exits_call pl vs s
system_at Read pl vs s = system.transfer_call system.read pl vs s
system_at Write pl vs s = system.transfer_call system.write pl vs s

system_is : (x : SystemCall) (call : Call) (s : State) → system.system_body x call s ≡ system_at x call.place call.arguments s
unfolding system_at
system_is Exits call s = refl
system_is Read call s = refl
system_is Write call s = refl

system_at_same : (x : SystemCall) (p q : Place) (vs : List Value) (s : State) → Same Alike (system_at x p vs s) (system_at x q vs s)
unfolding system_at
system_at_same Exits p q vs s = exits_same p q vs s
system_at_same Read p q vs s = transfer_same system.read read_same p q vs s
system_at_same Write p q vs s = transfer_same system.write write_same p q vs s

system_same : (x : SystemCall) (call other : Call) (s : State) → SameCall call other → Same Alike (system.system_body x call s) (system.system_body x other s)
system_same x call other s e =
    subst (λ r. Same Alike r (system.system_body x other s)) (sym (system_is x call s))
    (subst (λ r. Same Alike (system_at x call.place call.arguments s) r) (sym (system_is x other s))
    (subst (λ vs. Same Alike (system_at x call.place call.arguments s) (system_at x other.place vs s)) (sym e.arguments) (system_at_same x call.place other.place call.arguments s)))

-- FUNCTIONS OF THE UNION, with their typed trees

abbrev pub AllCoded : Union → List Coded → Type 0
AllCoded u [] = Unit {0}
AllCoded u (x ∷ xs) = FunctionMeans u x.entry x.typed × AllCoded u xs

entry_of : Coded → FunctionEntry
entry_of x = x.entry

coded_append : (u : Union) (xs ys : List Coded) → AllCoded u xs → AllCoded u ys → AllCoded u (xs ++ ys)
coded_append u [] ys h g = g
coded_append u (x ∷ xs) ys h g = (h.0, coded_append u xs ys h.1 g)

row_means : (u : Union) (es : List FunctionEntry) (fs : List Function) → FunctionsMean u es fs → AllCoded u (coded_row es fs)
row_means u [] [] h = tt
row_means u [] (f ∷ fs) h = absurd h
row_means u (e ∷ es) [] h = absurd h
row_means u (e ∷ es) (f ∷ fs) h = (h.0, row_means u es fs h.1)

row_entries : (u : Union) (es : List FunctionEntry) (fs : List Function) → FunctionsMean u es fs → map entry_of (coded_row es fs) ≡ es
unfolding entry_of
row_entries u [] [] h = refl
row_entries u [] (f ∷ fs) h = absurd h
row_entries u (e ∷ es) [] h = absurd h
row_entries u (e ∷ es) (f ∷ fs) h = ap (λ l. e ∷ l) (row_entries u es fs h.1)

at_length : (front : List Source) (m : Source) (ms : List Source) → slice_get (front ++ m ∷ ms) (length front) ≡ Some m
at_length [] m ms = refl
at_length (x ∷ front) m ms = at_length front m ms

-- the modules behind some others
module _ (modules : List Source) where
  stands_at : (front : List Source) (m : Source) (ms : List Source) → modules ≡ front ++ m ∷ ms → slice_get modules (length front) ≡ Some m
  stands_at front m ms e = ap (λ l. slice_get l (length front)) e ∙ at_length front m ms

  one_more : (front : List Source) (m : Source) → length (front ++ m ∷ []) ≡ suc (length front)
  one_more front m = length-append front (m ∷ []) ∙ plus_one (length front)
    where
      plus_one : (n : ℕ) → n + 1 ≡ suc n
      plus_one n = omega arith

  behind_one : (front : List Source) (m : Source) (ms : List Source) → modules ≡ front ++ m ∷ ms → modules ≡ (front ++ m ∷ []) ++ ms
  behind_one front m ms e = e ∙ sym (append_assoc front (m ∷ []) ms)

  all_means : (front ms : List Source) (ts : List TypedModule) → modules ≡ front ++ ms → AllMean ms ts → AllCoded (union_of modules) (coded_from (length front) ms ts)
  all_means front [] [] e h = tt
  all_means front [] (x ∷ ts) e h = absurd h
  all_means front (m ∷ ms) [] e h = absurd h
  all_means front (m ∷ ms) (x ∷ ts) e h =
      coded_append (union_of modules) (coded_row (functions_at (length front) m) x.functions) (coded_from (suc (length front)) ms ts)
      (row_means (union_of modules) (functions_at (length front) m) x.functions (h.0.functions modules (length front) (stands_at front m ms e)))
      (subst (λ i. AllCoded (union_of modules) (coded_from i ms ts)) (one_more front m) (all_means (front ++ m ∷ []) ms ts (behind_one front m ms e) h.1))

  all_entries : (front ms : List Source) (ts : List TypedModule) → modules ≡ front ++ ms → AllMean ms ts
      → map entry_of (coded_from (length front) ms ts) ≡ flat_map functions_in (entries_from (length front) ms)
  all_entries front [] [] e h = refl
  all_entries front [] (x ∷ ts) e h = absurd h
  all_entries front (m ∷ ms) [] e h = absurd h
  all_entries front (m ∷ ms) (x ∷ ts) e h =
      map-append entry_of (coded_row (functions_at (length front) m) x.functions) (coded_from (suc (length front)) ms ts)
      ∙ ap (λ l. l ++ map entry_of (coded_from (suc (length front)) ms ts))
      (row_entries (union_of modules) (functions_at (length front) m) x.functions (h.0.functions modules (length front) (stands_at front m ms e)))
      ∙ ap (λ l. functions_at (length front) m ++ l)
      (subst (λ i. map entry_of (coded_from i ms ts) ≡ flat_map functions_in (entries_from i ms)) (one_more front m) (all_entries (front ++ m ∷ []) ms ts (behind_one front m ms e) h.1))
      ∙ sym (flat_map-append functions_in (entries_of (length front) m.tags (symbols m)) (entries_from (suc (length front)) ms))

-- CALLEES

abbrev pub Matches : Union → c.Callee → t.Callee → Type 0
Matches u (c.System x) (t.System y) = y ≡ x
Matches u (c.Defined e) (t.Defined z) = (z.entry ≡ e) × FunctionMeans u z.entry z.typed
Matches u c.NoCallee t.NoCallee = Unit {0}
Matches u x y = ⊥

found_choice : (u : Union) (b : Bool) (z : Coded) (r : Option FunctionEntry) (r' : Option Coded) → FunctionMeans u z.entry z.typed
    → Matches u (c.defined r) (t.defined r') → Matches u (c.defined (if b then Some z.entry else r)) (t.defined (if b then Some z else r'))
found_choice u true z r r' h g = (refl, h)
found_choice u false z r r' h g = g

found_matches : (u : Union) (f : FunctionName) (xs : List Coded) → AllCoded u xs → Matches u (c.defined (found_function f (map entry_of xs))) (t.defined (found_coded f xs))
unfolding entry_of
found_matches u f [] h = tt
found_matches u f (x ∷ xs) h =
    found_choice u (is_function f x.entry) x (found_function f (map entry_of xs)) (found_coded f xs) h.0 (found_matches u f xs h.1)

system_matches : (u : Union) (o : Option SystemCall) (x : c.Callee) (y : t.Callee) → Matches u x y → Matches u (c.system_or o x) (t.system_or o y)
system_matches u None x y h = h
system_matches u (Some k) x y h = refl

callee_matches : (u : Union) (xs : List Coded) → u.functions ≡ map entry_of xs → AllCoded u xs → (f : FunctionName) → Matches u (c.callee u f) (t.callee xs f)
callee_matches u xs e h (Global name) =
    system_matches u (system_call name) (c.defined (found_function (Global name) u.functions)) (t.defined (found_coded (Global name) xs))
    (subst (λ l. Matches u (c.defined (found_function (Global name) l)) (t.defined (found_coded (Global name) xs))) (sym e) (found_matches u (Global name) xs h))
callee_matches u xs e h (Local owner name) =
    subst (λ l. Matches u (c.defined (found_function (Local owner name) l)) (t.defined (found_coded (Local owner name) xs))) (sym e) (found_matches u (Local owner name) xs h)

needs_match : (u : Union) (x : c.Callee) (y : t.Callee) → Matches u x y → t.callee_need y ≡ c.callee_need x
needs_match u (c.System k) (t.System l) h = refl
needs_match u (c.Defined e) (t.Defined z) h = h.1.need ∙ ap (λ i. i.need) h.0
needs_match u c.NoCallee t.NoCallee h = refl
needs_match u (c.System k) (t.Defined z) h = absurd h
needs_match u (c.System k) t.NoCallee h = absurd h
needs_match u (c.Defined e) (t.System l) h = absurd h
needs_match u (c.Defined e) t.NoCallee h = absurd h
needs_match u c.NoCallee (t.System l) h = absurd h
needs_match u c.NoCallee (t.Defined z) h = absurd h

bodies_match : (u : Union) (x : c.Callee) (y : t.Callee) → Matches u x y → (n : ℕ) (call other : Call) (s : State) → SameCall call other
    → Same Alike (c.callee_body u n x call s) (t.callee_body u n y other s)
bodies_match u (c.System k) (t.System l) h n call other s e =
    subst (λ i. Same Alike (system.system_body k call s) (system.system_body i other s)) (sym h) (system_same k call other s e)
bodies_match u (c.Defined d) (t.Defined z) h n call other s e =
    subst (λ i. Same Alike (c.callee_body u n (c.Defined i) call s) (t.callee_body u n (t.Defined z) other s)) h.0 (h.1.bodies n call other s e)
bodies_match u c.NoCallee t.NoCallee h n call other s e = tt
bodies_match u (c.System k) (t.Defined z) h n call other s e = absurd h
bodies_match u (c.System k) t.NoCallee h n call other s e = absurd h
bodies_match u (c.Defined d) (t.System l) h n call other s e = absurd h
bodies_match u (c.Defined d) t.NoCallee h n call other s e = absurd h
bodies_match u c.NoCallee (t.System l) h n call other s e = absurd h
bodies_match u c.NoCallee (t.Defined z) h n call other s e = absurd h

functions_same : (u : Union) (xs : List Coded) → u.functions ≡ map entry_of xs → AllCoded u xs → SameFunctions (c.functions_of u) (t.functions_of u xs)
functions_same u xs e h = record {
  needs = λ f. needs_match u (c.callee u f) (t.callee xs f) (callee_matches u xs e h f);
  bodies = λ n call other s k.
      subst (λ f. Same Alike (c.callee_body u n (c.callee u call.function) call s) (t.callee_body u n (t.callee xs f) other s)) (sym k.function)
      (bodies_match u (c.callee u call.function) (t.callee xs call.function) (callee_matches u xs e h call.function) n call other s k);
}

pub runs_mean_same : RunsMeanSame
unfolding source_run trun
runs_mean_same modules typed h input n =
    let u : Union = union_of modules in
    let xs : List Coded = coded_from 0 modules typed in
    same_outcome return_text (c.run_of u input n) (t.run_of u xs input n)
    (same_calls_end_same (c.functions_of u) (t.functions_of u xs)
    (functions_same u xs (sym (all_entries modules [] modules typed refl h)) (all_means modules [] modules typed refl h))
    n base_need n 0 (main_call u) (main_call u) (first_state u input) (same_call_refl (main_call u)))
