-- Flags of hidden names, one for each place of the table.
use Rattle.std.proofs.Common.{◌≡◌, ℕ, zero, suc, ◌<◌, ◌≤◌, Bool, true, false, cond, List, [], ◌∷◌, ◌++◌, length, map, Option, Some, None, slice_get, slice_index_or, refl, sym, ap, subst, ◌∙◌, arith, true≢false, not, is_some}
use Rattle.std.specs.Str.{bytes_eq}
use Rattle.std.specs.List.{IsDistinct, AllByRecursion}
use Rattle.std.specs.Map.{lookup}
use Rattle.indexmap.specs.IndexMap.{insert_entry}
use Rattle.p9_cpp.specs.declared.macros.Macro.{Macro}
use Rattle.p9_cpp.specs.Macros.{Table, is_among}
use Rattle.p9_cpp.specs.Reading.{flag_at, with_flag, flags_of, IsApart}
use Rattle.p9_cpp.proofs.Sizes.{same_bytes, bytes_same}

pub flag_here : (flags : List Bool) (i : ℕ) (d : Bool) → i < length flags → slice_index_or flags i d ≡ flag_at flags i
flag_here [] i d inside = absurd (omega (arith, inside))
flag_here (f ∷ fs) zero d inside = refl
flag_here (f ∷ fs) (suc i) d inside = flag_here fs i d (omega (arith, inside))

pub no_flag : (flags : List Bool) (i : ℕ) → length flags ≤ i → false ≡ flag_at flags i
no_flag [] i past = refl
no_flag (f ∷ fs) zero past = absurd (omega (arith, past))
no_flag (f ∷ fs) (suc i) past = no_flag fs i (omega (arith, past))

pub no_place : (flags : List Bool) (i : ℕ) (flag : Bool) → length flags ≤ i → flags ≡ with_flag flags i flag
no_place [] i flag past = refl
no_place (f ∷ fs) zero flag past = absurd (omega (arith, past))
no_place (f ∷ fs) (suc i) flag past = ap (λ r. f ∷ r) (no_place fs i flag (omega (arith, past)))

some_same : {A : Type 0} (x y : A) → Some x ≡ Some y → x ≡ y
some_same x y is = cc

-- the flag of a place tells whether its name is hidden
pub flag_known : (es : Table) (hidden : List (List ℕ)) (i : ℕ) (x : List ℕ) (o : Option Macro) → slice_get es i ≡ Some (x, o) → flag_at (flags_of es hidden) i ≡ is_among hidden x
flag_known [] hidden i x o is = absurd (cc)
flag_known (e ∷ es) hidden zero x o is = let same : e.0 ≡ x = ap (λ p. p.0) (some_same e (x, o) is) in ap (is_among hidden) same
flag_known (e ∷ es) hidden (suc i) x o is = flag_known es hidden i x o is

differs_back : (c : Bool) (x y : List ℕ) → bytes_eq y x ≡ c → bytes_eq x y ≡ false → bytes_eq y x ≡ false
differs_back true x y is other =
    let same : bytes_eq x y ≡ true = ap (λ z. bytes_eq x z) (bytes_same y x is) ∙ same_bytes x in
    absurd (true≢false (sym same ∙ other))
differs_back false x y is other = is

abbrev Differ : List ℕ → Table → Type 0
Differ x es = AllByRecursion (λ y. bytes_eq x y ≡ false) (map (λ e. e.0) es)

-- where none of the places has the name, its flags are the same without it
flags_without : (es : Table) (hidden : List (List ℕ)) (x : List ℕ) → Differ x es → flags_of es (x ∷ hidden) ≡ flags_of es hidden
flags_without [] hidden x others = refl
flags_without (e ∷ es) hidden x others =
    let here : bytes_eq e.0 x ≡ false = differs_back (bytes_eq e.0 x) x e.0 refl others.0 in
    ap (λ b. cond b true (is_among hidden e.0) ∷ flags_of es (x ∷ hidden)) here ∙ ap (λ fs. is_among hidden e.0 ∷ fs) (flags_without es hidden x others.1)

differs_at : (es : Table) (y x : List ℕ) (i : ℕ) (o : Option Macro) → Differ y es → slice_get es i ≡ Some (x, o) → bytes_eq y x ≡ false
differs_at [] y x i o others is = absurd (cc)
differs_at (e ∷ es) y x zero o others is = let same : e.0 ≡ x = ap (λ p. p.0) (some_same e (x, o) is) in sym (ap (bytes_eq y) same) ∙ others.0
differs_at (e ∷ es) y x (suc i) o others is = differs_at es y x i o others.1 is

apart_first : (e : List ℕ × Option Macro) (es : Table) → IsApart (e ∷ es) → Differ e.0 es
unfolding IsDistinct
apart_first e es apart = apart.0

apart_rest : (e : List ℕ × Option Macro) (es : Table) → IsApart (e ∷ es) → IsApart es
unfolding IsDistinct
apart_rest e es apart = apart.1

-- a flag is set where its name is hidden
pub flag_set : (es : Table) (hidden : List (List ℕ)) (i : ℕ) (x : List ℕ) (o : Option Macro) → IsApart es → slice_get es i ≡ Some (x, o) → with_flag (flags_of es hidden) i true ≡ flags_of es (x ∷ hidden)
flag_set [] hidden i x o apart is = absurd (cc)
flag_set (e ∷ es) hidden zero x o apart is =
    let same : e.0 ≡ x = ap (λ p. p.0) (some_same e (x, o) is) in
    let here : bytes_eq e.0 x ≡ true = ap (bytes_eq e.0) (sym same) ∙ same_bytes e.0 in
    let rest : flags_of es hidden ≡ flags_of es (x ∷ hidden) = sym (flags_without es hidden x (subst (λ y. Differ y es) same (apart_first e es apart))) in
    ap (λ fs. true ∷ fs) rest ∙ ap (λ b. cond b true (is_among hidden e.0) ∷ flags_of es (x ∷ hidden)) (sym here)
flag_set (e ∷ es) hidden (suc i) x o apart is =
    let here : bytes_eq e.0 x ≡ false = differs_at es e.0 x i o (apart_first e es apart) is in
    ap (λ fs. is_among hidden e.0 ∷ fs) (flag_set es hidden i x o (apart_rest e es apart) is) ∙ ap (λ b. cond b true (is_among hidden e.0) ∷ flags_of es (x ∷ hidden)) (sym here)

-- and cleared where it isn't any more
pub flag_cleared : (es : Table) (hidden : List (List ℕ)) (i : ℕ) (x : List ℕ) (o : Option Macro) → IsApart es → slice_get es i ≡ Some (x, o) → is_among hidden x ≡ false → with_flag (flags_of es (x ∷ hidden)) i false ≡ flags_of es hidden
flag_cleared [] hidden i x o apart is new = absurd (cc)
flag_cleared (e ∷ es) hidden zero x o apart is new =
    let same : e.0 ≡ x = ap (λ p. p.0) (some_same e (x, o) is) in
    let here : is_among hidden e.0 ≡ false = ap (is_among hidden) same ∙ new in
    ap (λ fs. false ∷ fs) (flags_without es hidden x (subst (λ y. Differ y es) same (apart_first e es apart))) ∙ ap (λ b. b ∷ flags_of es hidden) (sym here)
flag_cleared (e ∷ es) hidden (suc i) x o apart is new =
    let here : bytes_eq e.0 x ≡ false = differs_at es e.0 x i o (apart_first e es apart) is in
    ap (λ b. cond b true (is_among hidden e.0) ∷ with_flag (flags_of es (x ∷ hidden)) i false) here ∙ ap (λ fs. is_among hidden e.0 ∷ fs) (flag_cleared es hidden i x o (apart_rest e es apart) is new)

-- Flags where nothing is hidden, and a name is defined

replaced_by : (c : Bool) (e : List ℕ × Option Macro) (es : Table) (x : List ℕ) (old : Option Macro) (new : Option Macro) → (lookup (bytes_eq x) es ≡ Some old → flags_of (insert_entry bytes_eq es x new) [] ≡ flags_of es []) → cond c (Some e.1) (lookup (bytes_eq x) es) ≡ Some old → flags_of (cond c ((e.0, new) ∷ es) (e ∷ insert_entry bytes_eq es x new)) [] ≡ flags_of (e ∷ es) []
replaced_by true e es x old new later found = refl
replaced_by false e es x old new later found = ap (λ fs. false ∷ fs) (later found)

pub flags_replaced : (es : Table) (x : List ℕ) (old new : Option Macro) → lookup (bytes_eq x) es ≡ Some old → flags_of (insert_entry bytes_eq es x new) [] ≡ flags_of es []
flags_replaced [] x old new found = absurd (cc)
flags_replaced (e ∷ es) x old new found = replaced_by (bytes_eq x e.0) e es x old new (flags_replaced es x old new) found

added_by : (c : Bool) (e : List ℕ × Option Macro) (es : Table) (x : List ℕ) (new : Option Macro) → (lookup (bytes_eq x) es ≡ None → flags_of (insert_entry bytes_eq es x new) [] ≡ flags_of es [] ++ false ∷ []) → cond c (Some e.1) (lookup (bytes_eq x) es) ≡ None → flags_of (cond c ((e.0, new) ∷ es) (e ∷ insert_entry bytes_eq es x new)) [] ≡ flags_of (e ∷ es) [] ++ false ∷ []
added_by true e es x new later found = absurd (cc)
added_by false e es x new later found = ap (λ fs. false ∷ fs) (later found)

pub flags_added : (es : Table) (x : List ℕ) (new : Option Macro) → lookup (bytes_eq x) es ≡ None → flags_of (insert_entry bytes_eq es x new) [] ≡ flags_of es [] ++ false ∷ []
flags_added [] x new found = refl
flags_added (e ∷ es) x new found = added_by (bytes_eq x e.0) e es x new (flags_added es x new) found

pub flags_defined : (es : Table) (x : List ℕ) (new : Option Macro) (before : Option (Option Macro)) (is_new : Bool) → before ≡ lookup (bytes_eq x) es → is_some before ≡ not is_new → cond is_new (flags_of es [] ++ false ∷ []) (flags_of es []) ≡ flags_of (insert_entry bytes_eq es x new) []
flags_defined es x new None true is told = sym (flags_added es x new (sym is))
flags_defined es x new None false is told = absurd (true≢false (sym told))
flags_defined es x new (Some old) false is told = sym (flags_replaced es x old new (sym is))
flags_defined es x new (Some old) true is told = absurd (true≢false told)
