-- What the writer's functions leave to be written, over what their calls leave.
use Rattle.std.proofs.Common.{◌≡◌, ◌<◌, ◌≤◌, ◌⊎◌, inl, inr, ◌==◌, ◌&&◌, ◌||◌, append-nil, get_or, take, drop, ◌-◌, ℕ, zero, suc, Bool, true, false, if◌then◌else◌, List, [], ◌∷◌, ◌++◌, length, length-append, slice_get, Option, Some, None, Result, Ok, Err, IsSome, is_some, OnOk, IsSomeAnd, codes, refl, sym, ap, ◌∙◌, subst, arith, bytes_eq}
use Rattle.std.specs.List.{list_any}
use Rattle.std.proofs.lemmas.Bool.{cases_lt, true≢false}
use Rattle.std.proofs.lemmas.List.{take_all}
use Rattle.p9_lang.specs.declared.types.CType.{CType}
use Rattle.p9_lang.specs.declared.types.Member.{Member}
use Rattle.p9_lang.specs.declared.types.Tag.{Tag}
use Rattle.p9_lang.specs.Names.{same_name, is_among}
use Rattle.p9_lang.specs.Types.{Tags, MemberTree, type_of, types_of, type_row, members_of, tag_of, tags_of}
use Rattle.p9_sig.specs.declared.writer.Task.{Task}
use Rattle.p9_sig.specs.Parts.{Written, Part, writes, behind, continued, ◌⨟◌}
use Rattle.p9_sig.specs.Texts.{number_text, opening, closing, type_text, row_text, members_text, body_text, once, tag_text_by, tag_text, deepest, text_in}
use Rattle.p9_sig.specs.Writing.{task_text, tasks_text, parameters_text, rest_of_body, final_text, tag_part, Keeps}
use Rattle.p9_sig.proofs.Composing.{nothing_first, nothing_last, final_keep}
use Rattle.p9_sig.proofs.Coupled.{row_grouped, member_grouped}
use Rattle.p9_sig.proofs.Deeper.{Under, deeper}

abbrev pub Final : Type 0
Final = Part → Option (List ℕ)

-- something is written first
abbrev pub Puts : List ℕ → Final → Final → Type 0
Puts xs f g = (now : Part) → g now ≡ f (writes xs ⨟ now)

-- something is kept for later
abbrev pub KeepsFor : Part → Final → Final → Type 0
KeepsFor a f g = (now : Part) → g now ≡ f (now ⨟ a)

pub parameters_step : (f g h : Final) (tag : ℕ → Part) (ps : List CType) (p : CType) (others : List CType) (result : CType) → ps ≡ p ∷ others
    → KeepsFor (writes (codes ";") ⨟ parameters_text tag others result) f g → KeepsFor (type_text tag (type_of p)) g h
    → h (writes []) ≡ f (parameters_text tag ps result)
parameters_step f g h tag ps p others result e k l =
    l (writes []) ∙ k (writes [] ⨟ type_text tag (type_of p))
    ∙ ap (λ (a : Part). f (a ⨟ (writes (codes ";") ⨟ parameters_text tag others result))) (nothing_first (type_text tag (type_of p)))
    ∙ ap f (sym (row_grouped (type_text tag (type_of p)) (writes (codes ";")) (row_text tag (type_row (types_of others))) (writes (codes ")") ⨟ type_text tag (type_of result))))
    ∙ ap (λ qs. f (parameters_text tag qs result)) (sym e)

pub members_step : (f g h i j : Final) (tag : ℕ → Part) (ms : List Member) (m : Member) (others : List Member) (u : Bool) (name : List ℕ)
    → ms ≡ m ∷ others → name ≡ m.name
    → Puts name f g → Puts (codes ":") g h → KeepsFor (writes (codes ";") ⨟ rest_of_body tag others u) h i → KeepsFor (type_text tag (type_of m.ty)) i j
    → j (writes []) ≡ f (rest_of_body tag ms u)
members_step f g h i j tag ms m others u name e n p q k l =
    l (writes []) ∙ k (writes [] ⨟ type_text tag (type_of m.ty))
    ∙ ap (λ (a : Part). h (a ⨟ (writes (codes ";") ⨟ rest_of_body tag others u))) (nothing_first (type_text tag (type_of m.ty)))
    ∙ q (type_text tag (type_of m.ty) ⨟ (writes (codes ";") ⨟ rest_of_body tag others u))
    ∙ p (writes (codes ":") ⨟ (type_text tag (type_of m.ty) ⨟ (writes (codes ";") ⨟ rest_of_body tag others u)))
    ∙ ap (λ xs. f (writes xs ⨟ (writes (codes ":") ⨟ (type_text tag (type_of m.ty) ⨟ (writes (codes ";") ⨟ rest_of_body tag others u))))) n
    ∙ ap f (sym (member_grouped (writes m.name) (writes (codes ":")) (type_text tag (type_of m.ty)) (writes (codes ";")) (members_text tag (members_of others)) (writes (closing u))))
    ∙ ap (λ ns. f (rest_of_body tag ns u)) (sym e)

pub body_step : (f g h i j : Final) (tag : ℕ → Part) (body : Option (List MemberTree)) (ms : List Member) (u : Bool) (x start name : List ℕ)
    → Some (members_of ms) ≡ body → start ≡ opening u → name ≡ x
    → Puts start f g → Puts name g h → Puts (codes ":") h i → j (writes []) ≡ i (rest_of_body tag ms u)
    → j (writes []) ≡ f (body_text tag u x body)
body_step f g h i j tag body ms u x start name e o n p q r k =
    k ∙ r (rest_of_body tag ms u) ∙ q (writes (codes ":") ⨟ rest_of_body tag ms u) ∙ p (writes name ⨟ writes (codes ":") ⨟ rest_of_body tag ms u)
    ∙ ap (λ l. f (writes l ⨟ writes name ⨟ writes (codes ":") ⨟ rest_of_body tag ms u)) o
    ∙ ap (λ l. f (writes (opening u) ⨟ writes l ⨟ writes (codes ":") ⨟ rest_of_body tag ms u)) n
    ∙ ap (λ b. f (body_text tag u x b)) e

-- TYPES

pub letter_step : {X E : Type 0} (r : Result X E) (f g : (ℕ → Part) → Final) (tag : ℕ → Part) (xs : List ℕ) (a : Part) → a ≡ writes xs
    → OnOk r ((tag : ℕ → Part) → Puts xs (f tag) (g tag)) → OnOk r (Keeps (f tag a) (g tag (writes [])))
letter_step (Ok x) f g tag xs a e p = λ text h. p tag (writes []) ∙ ap (f tag) (nothing_last (writes xs) ∙ sym e) ∙ h
letter_step (Err x) f g tag xs a e p = tt

pub pointer_step : (f g h : Final) (T a : Part) → a ≡ writes (codes "*") ⨟ T → Puts (codes "*") f g → KeepsFor T g h → Keeps (f a) (h (writes []))
pointer_step f g h T a e p k text q =
    k (writes []) ∙ ap g (nothing_first T) ∙ p T ∙ ap f (sym e) ∙ q

pub array_step : (f g h i j : Final) (n : ℕ) (T a : Part) → a ≡ writes (codes "[") ⨟ writes (number_text n) ⨟ writes (codes "]") ⨟ T
    → Puts (codes "[") f g → Puts (number_text n) g h → Puts (codes "]") h i → KeepsFor T i j → Keeps (f a) (j (writes []))
array_step f g h i j n T a e p q r k text z =
    k (writes []) ∙ ap i (nothing_first T) ∙ r T ∙ q (writes (codes "]") ⨟ T) ∙ p (writes (number_text n) ⨟ writes (codes "]") ⨟ T) ∙ ap f (sym e) ∙ z

pub front_step : (f g h : Final) (xs : List ℕ) (T a : Part) → a ≡ writes xs ⨟ T → Puts xs f g → h (writes []) ≡ g T → Keeps (f a) (h (writes []))
front_step f g h xs T a e p k text z = k ∙ p T ∙ ap f (sym e) ∙ z

pub both_same : {X Y Z : Type 0} (f : X → Y → Z) (a a' : X) (b b' : Y) → a ≡ a' → b ≡ b' → f a b ≡ f a' b'
both_same f a a' b b' e k = ap (λ x. f x b) e ∙ ap (f a') k

-- STRUCTURES BY THEIR NUMBERS

final_under : (tag : ℕ → Part) (text : List ℕ) (tasks : List Task) (met : List (List ℕ)) (a b : Part) → Under a b
    → Keeps (final_text tag text tasks met a) (final_text tag text tasks met b)
unfolding final_text
final_under tag text tasks met a b u whole e = by (a met) refl e
  where
    by : (o : Option Written) → a met ≡ o → text_in (behind text (continued o (tasks_text tag tasks))) ≡ Some whole
        → text_in (behind text (continued (b met) (tasks_text tag tasks))) ≡ Some whole
    by None f e = cc
    by (Some w) f e = ap (λ o. text_in (behind text (continued o (tasks_text tag tasks)))) (u met w f) ∙ e

tag_get : (ts : List Tag) (i : ℕ) (t : Tag) → slice_get ts i ≡ Some t → slice_get (tags_of ts) i ≡ Some (tag_of t)
tag_get [] zero t e = cc
tag_get [] (suc i) t e = cc
tag_get (s ∷ ts) zero t e = let same : s ≡ t = cc in ap (λ q. Some (tag_of q)) same
tag_get (s ∷ ts) (suc i) t e = tag_get ts i t e

pub tag_step : (ts : List Tag) (i : ℕ) (t : Tag) (text : List ℕ) (tasks : List Task) (met : List (List ℕ)) (g : Final) (a : Part)
    → a ≡ tag_part (tags_of ts) i → slice_get ts i ≡ Some t
    → g (writes []) ≡ final_text (tag_part (tags_of ts)) text tasks met (tag_text_by (tag_part (tags_of ts)) (Some (tag_of t)))
    → Keeps (final_text (tag_part (tags_of ts)) text tasks met a) (g (writes []))
tag_step ts i t text tasks met g a e f k whole h =
    k
    ∙ ap (λ o. final_text (tag_part (tags_of ts)) text tasks met (tag_text_by (tag_part (tags_of ts)) o)) (sym (tag_get ts i t f))
    ∙ final_under (tag_part (tags_of ts)) text tasks met (tag_part (tags_of ts) i) (tag_text_by (tag_part (tags_of ts)) (slice_get (tags_of ts) i))
    (λ m w q. deeper (deepest (tags_of ts)) (tags_of ts) i m w q) whole
    (ap (final_text (tag_part (tags_of ts)) text tasks met) (sym e) ∙ h)

none_there : (d : ℕ) (A : Tags) (i : ℕ) (met : List (List ℕ)) → slice_get A i ≡ None → tag_text d A i met ≡ None
none_there zero A i met e = refl
none_there (suc d) A i met e = ap (λ o. tag_text_by (tag_text d A) o met) e

beyond : (ts : List Tag) (i : ℕ) → length ts ≤ i → slice_get (tags_of ts) i ≡ None
beyond [] zero le = refl
beyond [] (suc i) le = refl
beyond (t ∷ ts) zero le = absurd (omega arith)
beyond (t ∷ ts) (suc i) le = beyond ts i (omega arith)

not_written : (tag : ℕ → Part) (text : List ℕ) (tasks : List Task) (met : List (List ℕ)) (a : Part) → a met ≡ None → final_text tag text tasks met a ≡ None
unfolding final_text
not_written tag text tasks met a e = ap (λ o. text_in (behind text (continued o (tasks_text tag tasks)))) e

-- a structure whose text is written is there
pub there_is_one : (ts : List Tag) (i : ℕ) (text : List ℕ) (tasks : List Task) (met : List (List ℕ)) (a : Part) → a ≡ tag_part (tags_of ts) i
    → IsSome (final_text (tag_part (tags_of ts)) text tasks met a) → i < length ts
there_is_one ts i text tasks met a e h = by (cases_lt i (length ts))
  where
    by : (i < length ts) ⊎ (length ts ≤ i) → i < length ts
    by (inl lt) = lt
    by (inr le) =
        let none : final_text (tag_part (tags_of ts)) text tasks met a ≡ None =
        not_written (tag_part (tags_of ts)) text tasks met a (ap (λ (p : Part). p met) e ∙ none_there (deepest (tags_of ts)) (tags_of ts) i met (beyond ts i le)) in
        absurd (true≢false (sym h ∙ ap is_some none))

-- MEETING

same_as_bytes : (x y : List ℕ) → bytes_eq x y ≡ same_name x y
same_as_bytes [] [] = refl
same_as_bytes [] (b ∷ y) = refl
same_as_bytes (a ∷ x) [] = refl
same_as_bytes (a ∷ x) (b ∷ y) = ap (λ q. (a == b) && q) (same_as_bytes x y)

pub among_bytes : (ks : List (List ℕ)) (x : List ℕ) → list_any (bytes_eq x) ks ≡ is_among ks x
among_bytes [] x = refl
among_bytes (k ∷ ks) x = ap (λ q. q || list_any (bytes_eq x) ks) (same_as_bytes x k) ∙ ap (λ q. same_name x k || q) (among_bytes ks x)

pub first_step : (part : ℕ → Part) (text : List ℕ) (tasks : List Task) (met later : List (List ℕ)) (x : List ℕ) (a : Part) → (length x ≡ 0 → ⊥)
    → is_among met x ≡ false → later ≡ met ++ x ∷ [] → final_text part text tasks later a ≡ final_text part text tasks met (once x a)
unfolding final_text
first_step part text tasks met later [] a n e f = absurd (n refl)
first_step part text tasks met later (c ∷ cs) a n e f =
    ap (λ m. text_in (behind text (continued (a m) (tasks_text part tasks)))) f
    ∙ ap (λ q. text_in (behind text (continued (if q then (writes (codes "@") ⨟ writes (c ∷ cs) ⨟ writes (codes ";")) met else a (met ++ (c ∷ cs) ∷ [])) (tasks_text part tasks)))) (sym e)

pub again_step : (part : ℕ → Part) (text : List ℕ) (tasks : List Task) (met : List (List ℕ)) (x : List ℕ) (a : Part) → (length x ≡ 0 → ⊥)
    → is_among met x ≡ true → final_text part text tasks met (writes (codes "@") ⨟ writes x ⨟ writes (codes ";")) ≡ final_text part text tasks met (once x a)
unfolding final_text
again_step part text tasks met [] a n e = absurd (n refl)
again_step part text tasks met (c ∷ cs) a n e =
    ap (λ q. text_in (behind text (continued (if q then (writes (codes "@") ⨟ writes (c ∷ cs) ⨟ writes (codes ";")) met else a (met ++ (c ∷ cs) ∷ [])) (tasks_text part tasks)))) (sym e)

-- the first of a list, and the others
pub first_and_others : {X : Type 0} (xs : List X) (x : X) → 1 ≤ length xs → x ≡ get_or xs 0 x → xs ≡ x ∷ take (length xs - 1) (drop 1 xs)
first_and_others [] x le e = absurd (omega arith)
first_and_others (y ∷ ys) x le e = ap (λ z. z ∷ ys) (sym e) ∙ ap (λ l. x ∷ l) (sym (take_all (length (y ∷ ys) - 1) ys (omega arith)))

-- THE LOOP

pub first_state : (tag : ℕ → Part) (text : List ℕ) (tasks : List Task) (met : List (List ℕ)) (T : Part) → text ≡ [] → tasks ≡ [] → met ≡ []
    → final_text tag text tasks met (writes [] ⨟ T) ≡ text_in (T [])
unfolding final_text
first_state tag text tasks met T e f g =
    ap (λ t. text_in (behind t (((writes [] ⨟ T) ⨟ tasks_text tag tasks) met))) e
    ∙ ap (λ ks. text_in (behind [] (((writes [] ⨟ T) ⨟ tasks_text tag ks) met))) f
    ∙ ap (λ m. text_in (behind [] (((writes [] ⨟ T) ⨟ writes []) m))) g
    ∙ ap (λ (a : Part). text_in (behind [] ((a ⨟ writes []) []))) (nothing_first T) ∙ ap (λ (a : Part). text_in (behind [] (a []))) (nothing_last T) ∙ by (T [])
  where
    by : (o : Option Written) → text_in (behind [] o) ≡ text_in o
    by None = refl
    by (Some w) = refl

pub kept_is : (before after whole : Option (List ℕ)) → IsSome whole → before ≡ whole → Keeps before after → after ≡ whole
kept_is before after None h e k = absurd (true≢false (sym h))
kept_is before after (Some text) h e k = k text e

pub some_as : (o p : Option (List ℕ)) → IsSome p → o ≡ p → IsSome o
some_as o p h e = ap is_some e ∙ h

pub empty_by_length : {X : Type 0} (xs : List X) → length xs ≡ 0 → xs ≡ []
empty_by_length [] e = refl
empty_by_length (x ∷ xs) e = absurd (omega arith)

-- a task that is taken is written next
pub taken : (tag : ℕ → Part) (text : List ℕ) (tasks rest : List Task) (k : Task) (met : List (List ℕ)) → tasks ≡ rest ++ k ∷ []
    → final_text tag text tasks met (writes []) ≡ final_text tag text rest met (task_text tag k)
taken tag text tasks rest k met e =
    final_keep tag text rest k tasks met (writes []) e ∙ ap (final_text tag text rest met) (nothing_first (task_text tag k))

-- what is written stays at the front
pub at_least : (tag : ℕ → Part) (text : List ℕ) (tasks : List Task) (met : List (List ℕ)) (a : Part) (o : Option (List ℕ)) (n : ℕ)
    → final_text tag text tasks met a ≡ o → IsSome o → n < length text → IsSomeAnd o (λ whole. n < length whole)
unfolding final_text
at_least tag text tasks met a o n e h lt = by ((a ⨟ tasks_text tag tasks) met) e
  where
    by : (q : Option Written) → text_in (behind text q) ≡ o → IsSomeAnd o (λ whole. n < length whole)
    by None f = absurd (true≢false (sym h ∙ ap is_some (sym f)))
    by (Some w) f = subst (λ q. IsSomeAnd q (λ whole. n < length whole)) f (omega (arith, length-append text w.text))

pub ended : (tag : ℕ → Part) (text : List ℕ) (tasks : List Task) (met : List (List ℕ)) → tasks ≡ [] → final_text tag text tasks met (writes []) ≡ Some text
unfolding final_text
ended tag text tasks met e =
    ap (λ ks. text_in (behind text ((writes [] ⨟ tasks_text tag ks) met))) e ∙ ap Some (append-nil text)
