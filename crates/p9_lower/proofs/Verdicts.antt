-- What typing takes is as the law of trees asks.
use Rattle.std.proofs.Common.{◌≡◌, ◌&&◌, ◌||◌, Bool, true, false, not, if◌then◌else◌, List, [], ◌∷◌, ◌++◌, Result, Ok, Err, refl, sym, ap, ◌∙◌, subst}
use Rattle.std.proofs.lemmas.Bool.{not-true}
use Rattle.p9_lang.specs.declared.tree.CBinary.{CBinary}
use Rattle.p9_lang.specs.declared.tree.CBinary.TheVariants as operator
use Rattle.p9_lang.specs.Types.{TypeTree, Long, Pointer, Array, Function, Tagged, Tags}
use Rattle.p9_lang.specs.Layout.{is_complete}
use Rattle.p9_lang.specs.Conversions.{is_integer, is_pointer, is_void, is_object, is_array, points_to, same_type, stays, decayed, common, Same, No, structure_conversion, conversion}
use Rattle.p9_lang.specs.Constants.{Operand}
use Rattle.p9_lang.specs.Rules.{Rule, BadOperands, NotLvalue, breaks_if, unless_rules}
use Rattle.p9_lang.specs.Expressions.{Verdict, value, asks, as_value, value_type, is_writable, is_complete_pointer, are_integers, conversion_broken, conversion_rules, difference_type, binary_type, result_rules}
use Rattle.p9_lower.specs.Premises.{works_on_words, is_additive, update_is_sound}
use Rattle.p9_lower.specs.Verdicts.{is_assigning, UpdatesAreSound, DifferencesAreComplete}
use Rattle.p9_lower.proofs.Truths.{left_true, right_true}

-- RULES that no node breaks

no_rules : {A : Type 0} (rules : List Rule) (x y : A) → unless_rules rules x ≡ Ok y → rules ≡ []
no_rules [] x y e = refl
no_rules (r ∷ rs) x y e = cc

no_first : (xs ys : List Rule) → xs ++ ys ≡ [] → xs ≡ []
no_first [] ys e = refl
no_first (x ∷ xs) ys e = cc

no_second : (xs ys : List Rule) → xs ++ ys ≡ [] → ys ≡ []
no_second [] ys e = e
no_second (x ∷ xs) ys e = cc

no_break : (b : Bool) (rule : Rule) → breaks_if (not b) rule ≡ [] → b ≡ true
no_break true rule e = refl
no_break false rule e = cc

pub record Typed (tags : Tags) (to : TypeTree) (r : Result TypeTree Rule) : Type 0 where
  pub type : TypeTree
  pub is : r ≡ Ok type
  pub converts : conversion_rules tags type to false ≡ []

typed : (tags : Tags) (to : TypeTree) (r : Result TypeTree Rule) → result_rules tags to r ≡ [] → Typed tags to r
typed tags to (Ok type) e = record { type = type; is = refl; converts = e }
typed tags to (Err rule) e = cc

asked : (b : Bool) (rule : Rule) (type x : TypeTree) → asks b rule type ≡ Ok x → (b ≡ true) × (type ≡ x)
asked true rule type x e = (refl, cc)
asked false rule type x e = cc

-- NO POINTER becomes an integer

no_structure : (tags : Tags) (target to : TypeTree) → is_integer to ≡ true → structure_conversion tags (Pointer target) to ≡ No
no_structure tags (Tagged i) (Pointer t) h = cc
no_structure tags (Tagged i) to h = refl
no_structure tags target to h = refl

not_same : (target to : TypeTree) → is_integer to ≡ true → same_type (Pointer target) to ≡ false
not_same target (Pointer t) h = cc
not_same target to h = refl

no_target : (test : TypeTree → Bool) (to : TypeTree) → is_integer to ≡ true → points_to test to ≡ false
no_target test (Pointer t) h = cc
no_target test to h = refl

never : (b : Bool) → (b && false) ≡ false
never true = refl
never false = refl

no_stay : (target to : TypeTree) → is_integer to ≡ true → stays (Pointer target) to ≡ false
no_stay target to h =
    ap (λ b. b || ((is_void target && points_to is_object to) || (is_object target && points_to is_void to))) (not_same target to h)
    ∙ ap (λ b. (is_void target && b) || (is_object target && points_to is_void to)) (no_target is_object to h)
    ∙ ap (λ b. b || (is_object target && points_to is_void to)) (never (is_void target))
    ∙ ap (λ b. is_object target && b) (no_target is_void to h)
    ∙ never (is_object target)

no_conversion : (tags : Tags) (target to : TypeTree) → is_integer to ≡ true → conversion tags (Pointer target) to false ≡ No
no_conversion tags target to h =
    ap (λ b. if b then Same else structure_conversion tags (Pointer target) to) (no_stay target to h) ∙ no_structure tags target to h

no_assignment : (tags : Tags) (target to : TypeTree) → is_integer to ≡ true → conversion_rules tags (Pointer target) to false ≡ [] → ⊥
no_assignment tags target to h e =
    let f : conversion_broken tags to No ≡ [] = subst (λ c. conversion_broken tags to c ≡ []) (no_conversion tags target to h) e in cc

-- UPDATES

both_true : (a b : Bool) → a ≡ true → b ≡ true → (a && b) ≡ true
both_true true b h g = g
both_true false b h g = cc

no_pointer : (type : TypeTree) → is_integer type ≡ true → not (is_pointer type) ≡ true
no_pointer (Pointer t) h = cc
no_pointer type h = refl

integer_update : (op : CBinary) (type right : TypeTree) → works_on_words op ≡ true → are_integers (decayed type) right ≡ true → update_is_sound op type right ≡ true
integer_update op (Pointer t) right w h = cc
integer_update op (Array t n) right w h = cc
integer_update op (Function r ps) right w h = cc
integer_update op type right w h = both_true (works_on_words op) (not (is_pointer right)) w (no_pointer right (right_true (is_integer type) (is_integer right) h))

pointer_update : (tags : Tags) (op : CBinary) (type right : TypeTree) → is_additive op ≡ true → is_array type ≡ false → is_complete_pointer tags (decayed type) ≡ true → is_integer right ≡ true
    → update_is_sound op type right ≡ true
pointer_update tags op (Pointer t) right a n c h = both_true (is_additive op) (not (is_pointer right)) a (no_pointer right h)
pointer_update tags op (Array t k) right a n c h = cc
pointer_update tags op (Function r ps) right a n c h = cc
pointer_update tags op type right a n c h = cc

decayed_integer : (type : TypeTree) → is_integer (decayed type) ≡ true → is_integer type ≡ true
decayed_integer (Array t n) h = cc
decayed_integer (Function r ps) h = cc
decayed_integer type h = h

no_pointer_sum : (tags : Tags) (type right : TypeTree) → is_integer (decayed type) ≡ true → is_complete_pointer tags right ≡ true → conversion_rules tags right type false ≡ [] → ⊥
no_pointer_sum tags type (Pointer t) i c e = no_assignment tags t type (decayed_integer type i) e
no_pointer_sum tags type right i c e = cc

-- a difference of pointers is no pointer
no_difference : (tags : Tags) (type : TypeTree) → is_array type ≡ false → is_complete_pointer tags (decayed type) ≡ true → conversion_rules tags Long type false ≡ [] → ⊥
no_difference tags (Pointer t) n c e = cc
no_difference tags (Array t k) n c e = cc
no_difference tags (Function r ps) n c e = cc
no_difference tags type n c e = cc

sum_by : (tags : Tags) (type right x : TypeTree) (ints pointer : Bool) → are_integers (decayed type) right ≡ ints → (is_complete_pointer tags (decayed type) && is_integer right) ≡ pointer
    → is_array type ≡ false
    → (if ints then Ok (common (decayed type) right) else (if pointer then Ok (decayed type) else asks (is_integer (decayed type) && is_complete_pointer tags right) BadOperands right)) ≡ Ok x
    → conversion_rules tags x type false ≡ [] → update_is_sound operator.Add type right ≡ true
sum_by tags type right x true pointer i p n e c = integer_update operator.Add type right refl i
sum_by tags type right x false true i p n e c =
    pointer_update tags operator.Add type right refl n (left_true (is_complete_pointer tags (decayed type)) (is_integer right) p) (right_true (is_complete_pointer tags (decayed type)) (is_integer right) p)
sum_by tags type right x false false i p n e c =
    let a = asked (is_integer (decayed type) && is_complete_pointer tags right) BadOperands right x e in
    absurd (no_pointer_sum tags type right (left_true (is_integer (decayed type)) (is_complete_pointer tags right) a.0) (right_true (is_integer (decayed type)) (is_complete_pointer tags right) a.0)
    (subst (λ t. conversion_rules tags t type false ≡ []) (sym a.1) c))

difference_by : (tags : Tags) (type right x : TypeTree) (ints pointer : Bool) → are_integers (decayed type) right ≡ ints → (is_complete_pointer tags (decayed type) && is_integer right) ≡ pointer
    → is_array type ≡ false
    → (if ints then Ok (common (decayed type) right) else (if pointer then Ok (decayed type) else asks (is_complete_pointer tags (decayed type) && same_type (decayed type) right) BadOperands Long)) ≡ Ok x
    → conversion_rules tags x type false ≡ [] → update_is_sound operator.Sub type right ≡ true
difference_by tags type right x true pointer i p n e c = integer_update operator.Sub type right refl i
difference_by tags type right x false true i p n e c =
    pointer_update tags operator.Sub type right refl n (left_true (is_complete_pointer tags (decayed type)) (is_integer right) p) (right_true (is_complete_pointer tags (decayed type)) (is_integer right) p)
difference_by tags type right x false false i p n e c =
    let a = asked (is_complete_pointer tags (decayed type) && same_type (decayed type) right) BadOperands Long x e in
    absurd (no_difference tags type n (left_true (is_complete_pointer tags (decayed type)) (same_type (decayed type) right) a.0)
    (subst (λ t. conversion_rules tags t type false ≡ []) (sym a.1) c))

integers_by : (op : CBinary) (type right t x : TypeTree) → works_on_words op ≡ true → asks (are_integers (decayed type) right) BadOperands t ≡ Ok x → update_is_sound op type right ≡ true
integers_by op type right t x w e = let a = asked (are_integers (decayed type) right) BadOperands t x e in integer_update op type right w a.0

operator_by : (tags : Tags) (op : CBinary) (a b : Operand) (x : TypeTree) → is_assigning op ≡ true → is_array a.type ≡ false → binary_type tags op a b ≡ Ok x
    → conversion_rules tags x a.type false ≡ [] → update_is_sound op a.type (value_type b) ≡ true
operator_by tags operator.Mul a b x h n e c = integers_by operator.Mul a.type (value_type b) _ x refl e
operator_by tags operator.Div a b x h n e c = integers_by operator.Div a.type (value_type b) _ x refl e
operator_by tags operator.Rem a b x h n e c = integers_by operator.Rem a.type (value_type b) _ x refl e
operator_by tags operator.Add a b x h n e c =
    sum_by tags a.type (value_type b) x (are_integers (value_type a) (value_type b)) (is_complete_pointer tags (value_type a) && is_integer (value_type b)) refl refl n e c
operator_by tags operator.Sub a b x h n e c =
    difference_by tags a.type (value_type b) x (are_integers (value_type a) (value_type b)) (is_complete_pointer tags (value_type a) && is_integer (value_type b)) refl refl n e c
operator_by tags operator.Shl a b x h n e c = integers_by operator.Shl a.type (value_type b) _ x refl e
operator_by tags operator.Shr a b x h n e c = integers_by operator.Shr a.type (value_type b) _ x refl e
operator_by tags operator.And a b x h n e c = integers_by operator.And a.type (value_type b) _ x refl e
operator_by tags operator.Xor a b x h n e c = integers_by operator.Xor a.type (value_type b) _ x refl e
operator_by tags operator.Or a b x h n e c = integers_by operator.Or a.type (value_type b) _ x refl e
operator_by tags op a b x h n e c = cc

pub updates_are_sound : UpdatesAreSound
updates_are_sound tags is_statement op a b v h e =
    let rules : breaks_if (not (is_writable a)) NotLvalue ++ result_rules tags a.type (binary_type tags op a b) ≡ [] =
    no_rules (breaks_if (not (is_writable a)) NotLvalue ++ result_rules tags a.type (binary_type tags op a b)) (value a.type) v e in
    let w : is_writable a ≡ true = no_break (is_writable a) NotLvalue (no_first (breaks_if (not (is_writable a)) NotLvalue) (result_rules tags a.type (binary_type tags op a b)) rules) in
    let t : Typed tags a.type (binary_type tags op a b) =
    typed tags a.type (binary_type tags op a b) (no_second (breaks_if (not (is_writable a)) NotLvalue) (result_rules tags a.type (binary_type tags op a b)) rules) in
    operator_by tags op a b t.type h (not-true (is_array a.type) (right_true a.is_lvalue (not (is_array a.type)) w)) t.is t.converts

-- DIFFERENCES

complete_by : (tags : Tags) (target other x : TypeTree) (b : Bool) → (is_complete tags target && b) ≡ true → is_complete tags target ≡ true
complete_by tags target other x b h = left_true (is_complete tags target) b h

as_value_ok : (r : Result TypeTree Rule) (v : Verdict) → as_value r ≡ Ok v → (x : TypeTree) × (r ≡ Ok x)
as_value_ok (Ok x) v e = (x, refl)
as_value_ok (Err rule) v e = cc

difference_is : (tags : Tags) (target other x : TypeTree) → difference_type tags (Pointer target) (Pointer other) ≡ Ok x → is_complete tags target ≡ true
difference_is tags target other x e =
    let f : (if is_complete tags target && false then Ok (Pointer target) else asks (is_complete tags target && same_type target other) BadOperands Long) ≡ Ok x = e in
    let g : asks (is_complete tags target && same_type target other) BadOperands Long ≡ Ok x =
    subst (λ b. (if b then Ok (Pointer target) else asks (is_complete tags target && same_type target other) BadOperands Long) ≡ Ok x) (never (is_complete tags target)) f in
    let a = asked (is_complete tags target && same_type target other) BadOperands Long x g in
    complete_by tags target other x (same_type target other) a.0

pub differences_are_complete : DifferencesAreComplete
differences_are_complete tags is_statement a b target other v h g e =
    let r = as_value_ok (difference_type tags (value_type a) (value_type b)) v e in
    difference_is tags target other r.0
    (subst (λ t. difference_type tags t (Pointer other) ≡ Ok r.0) h (subst (λ t. difference_type tags (value_type a) t ≡ Ok r.0) g r.1))
