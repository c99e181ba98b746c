-- What is read of declarations stands there and fits, and what fits is read.
use Rattle.std.proofs.Common.{◌≡◌, ℕ, ◌≤◌, Bool, true, false, not, ◌&&◌, IsTrue, List, [], ◌∷◌, ◌++◌, Option, Some, None, refl, ap, ◌∙◌, sym, subst, codes}
use Rattle.std.specs.Prelude.{if◌then◌else◌}
use Rattle.p9_first.specs.Tokens.{Token, Word, Number}
use Rattle.p9_first.specs.Form.{same_name, is_among, is_variable_name}
use Rattle.p9_form.specs.declared.file.First.{First}
use Rattle.p9_form.specs.declared.file.First.TheVariants as first
use Rattle.p9_form.specs.declared.file.Declaration.{Declaration}
use Rattle.p9_form.specs.Reading.{Got, got, after, read_mark, read_this, read_type, read_new_name, value_behind, read_value, read_first, read_typed, declaration_behind, read_declaration, read_name_of_main, read_head}
use Rattle.p9_form.specs.Phrases.{mark, type_token, FirstFits, DeclarationFits, declaration_tokens, head_tokens}
use Rattle.p9_form.proofs.ParseSteps.{after_some}
use Rattle.p9_form.proofs.ParseMarks.{some_after, passed, equal_names, mark_sound, mark_exact, number_sound, number_exact, this_sound, this_exact}

same_got : {A : Type 0} (x y : A) (ts us : List Token) → Some (got x ts) ≡ Some (got y us) → (x ≡ y) × (ts ≡ us)
same_got x y ts us e =
    let same : got x ts ≡ got y us = cc in
    (ap (λ g. g.value) same, ap (λ g. g.rest) same)

-- The type and the name

type_by : (b c : Bool) (x : List ℕ) (ts : List Token) (g : Got Bool) → same_name (codes "int") x ≡ b → same_name (codes "long") x ≡ c → (if b then Some (got false ts) else (if c then Some (got true ts) else None)) ≡ Some g → Word x ∷ ts ≡ type_token g.value ∷ g.rest
type_by true c x ts g s t e =
    let same : got false ts ≡ g = cc in
    ap (λ y. Word y ∷ ts) (sym (equal_names (codes "int") x s)) ∙ ap (λ g. type_token g.value ∷ g.rest) same
type_by false true x ts g s t e =
    let same : got true ts ≡ g = cc in
    ap (λ y. Word y ∷ ts) (sym (equal_names (codes "long") x t)) ∙ ap (λ g. type_token g.value ∷ g.rest) same
type_by false false x ts g s t e = cc

type_sound : (ts : List Token) (g : Got Bool) → read_type ts ≡ Some g → ts ≡ type_token g.value ∷ g.rest
unfolding read_type
type_sound [] g e = cc
type_sound (Word x ∷ ts) g e = type_by (same_name (codes "int") x) (same_name (codes "long") x) x ts g refl refl e
type_sound (_ ∷ ts) g e = cc

type_exact : (is_long : Bool) (rest : List Token) → read_type (type_token is_long ∷ rest) ≡ Some (got is_long rest)
unfolding read_type
type_exact true rest = refl
type_exact false rest = refl

abbrev IsNew : List (List ℕ) → List ℕ → Type 0
IsNew names x = IsTrue (is_variable_name x && not (is_among names x))

name_sound : (names : List (List ℕ)) (ts : List Token) (g : Got (List ℕ)) → read_new_name names ts ≡ Some g → IsNew names g.value × (ts ≡ Word g.value ∷ g.rest)
unfolding read_new_name
name_sound names [] g e = cc
name_sound names (Word x ∷ ts) g e =
    let h = passed (is_variable_name x && not (is_among names x)) (got x ts) g e in
    subst (λ g. IsNew names g.value × (Word x ∷ ts ≡ Word g.value ∷ g.rest)) h.1 (h.0, refl)
name_sound names (_ ∷ ts) g e = cc

name_exact : (names : List (List ℕ)) (x : List ℕ) (rest : List Token) → IsNew names x → read_new_name names (Word x ∷ rest) ≡ Some (got x rest)
unfolding read_new_name
name_exact names x rest h = ap (λ b. if b then Some (got x rest) else None) h

-- The first value

abbrev value_tokens : First → List Token
value_tokens first.Extern = []
value_tokens first.Zero = []
value_tokens (first.Number value) = mark 61 ∷ Number value false false ∷ []

abbrev IsValue : First → Type 0
IsValue first.Extern = ⊥
IsValue first.Zero = Unit {0}
IsValue (first.Number value) = value ≤ 2147483647

value_by : (ts : List Token) (o : Option (List Token)) (g : Got First) → read_mark 61 ts ≡ o → value_behind ts o ≡ Some g → IsValue g.value × (ts ≡ value_tokens g.value ++ g.rest)
value_by ts None g m e =
    let same : got first.Zero ts ≡ g = cc in
    subst (λ g. IsValue g.value × (ts ≡ value_tokens g.value ++ g.rest)) same (tt, refl)
value_by ts (Some rest) g m e =
    let n = some_after e in
    let number = number_sound rest n.value n.first in
    let last = n.second in
    let same : got (first.Number n.value.value) n.value.rest ≡ g = cc in
    subst (λ g. IsValue g.value × (ts ≡ value_tokens g.value ++ g.rest)) same (number.0, mark_sound 61 ts rest m ∙ ap (λ v. mark 61 ∷ v) number.1)

value_sound : (ts : List Token) (g : Got First) → read_value ts ≡ Some g → IsValue g.value × (ts ≡ value_tokens g.value ++ g.rest)
unfolding read_value
value_sound ts g e = value_by ts (read_mark 61 ts) g refl e

-- Declarations

-- what is read of one with this first value behind it
typed_with : (names : List (List ℕ)) (b : Bool) (ts : List Token) (d : Declaration) (rest value : List Token) → IsNew names d.name → ts ≡ type_token d.is_long ∷ Word d.name ∷ value → read_first b value ≡ Some (got d.first (mark 59 ∷ rest)) → read_typed names b ts ≡ Some (got d rest)
unfolding read_typed
typed_with names b ts d rest value n t f =
    ap (λ ts. read_typed names b ts) t
    ∙ after_some _ _ _ (type_exact d.is_long (Word d.name ∷ value))
    ∙ after_some _ _ _ (name_exact names d.name value n)
    ∙ after_some _ _ _ f
    ∙ after_some _ _ _ (mark_exact 59 rest)

plain_begins : (is_long : Bool) (ts : List Token) → read_this (codes "extern") (type_token is_long ∷ ts) ≡ None
unfolding read_this
plain_begins true ts = refl
plain_begins false ts = refl

plain_exact : (names : List (List ℕ)) (d : Declaration) (rest value : List Token) → IsNew names d.name → read_first false value ≡ Some (got d.first (mark 59 ∷ rest)) → read_declaration names (type_token d.is_long ∷ Word d.name ∷ value) ≡ Some (got d rest)
unfolding read_declaration
plain_exact names d rest value n f =
    let ts = type_token d.is_long ∷ Word d.name ∷ value in
    ap (λ o. declaration_behind names ts o) (plain_begins d.is_long (Word d.name ∷ value))
    ∙ typed_with names false ts d rest value n refl f

zero_exact : (rest : List Token) → read_first false (mark 59 ∷ rest) ≡ Some (got first.Zero (mark 59 ∷ rest))
unfolding read_first read_value read_mark
zero_exact rest = refl

number_read : (value : ℕ) (rest : List Token) → value ≤ 2147483647 → read_first false (mark 61 ∷ Number value false false ∷ mark 59 ∷ rest) ≡ Some (got (first.Number value) (mark 59 ∷ rest))
unfolding read_first read_value read_mark
number_read value rest h = after_some _ _ _ (number_exact value (mark 59 ∷ rest) h)

extern_exact : (names : List (List ℕ)) (d : Declaration) (rest : List Token) → IsNew names d.name → first.Extern ≡ d.first → read_declaration names (Word (codes "extern") ∷ type_token d.is_long ∷ Word d.name ∷ mark 59 ∷ rest) ≡ Some (got d rest)
unfolding read_declaration read_first
extern_exact names d rest n f =
    let ts = type_token d.is_long ∷ Word d.name ∷ mark 59 ∷ rest in
    ap (λ o. declaration_behind names (Word (codes "extern") ∷ ts) o) (this_exact (codes "extern") ts)
    ∙ typed_with names true ts d rest (mark 59 ∷ rest) n refl (ap (λ v. Some (got v (mark 59 ∷ rest))) f)

exact_by : (names : List (List ℕ)) (name : List ℕ) (is_long : Bool) (f : First) (rest : List Token) → IsNew names name → FirstFits f → read_declaration names (declaration_tokens (record { name = name; is_long = is_long; first = f }) ++ rest) ≡ Some (got (record { name = name; is_long = is_long; first = f }) rest)
exact_by names name is_long first.Extern rest n h = extern_exact names (record { name = name; is_long = is_long; first = first.Extern }) rest n refl
exact_by names name is_long first.Zero rest n h = plain_exact names (record { name = name; is_long = is_long; first = first.Zero }) rest (mark 59 ∷ rest) n (zero_exact rest)
exact_by names name is_long (first.Number value) rest n h = plain_exact names (record { name = name; is_long = is_long; first = first.Number value }) rest (mark 61 ∷ Number value false false ∷ mark 59 ∷ rest) n (number_read value rest h)

pub declaration_exact : (names : List (List ℕ)) (d : Declaration) (rest : List Token) → DeclarationFits names d → read_declaration names (declaration_tokens d ++ rest) ≡ Some (got d rest)
declaration_exact names d rest h = exact_by names d.name d.is_long d.first rest h.0 h.1

-- what is read stands there

abbrev DeclarationIs : List (List ℕ) → List Token → Got Declaration → Type 0
DeclarationIs names ts g = DeclarationFits names g.value × (ts ≡ declaration_tokens g.value ++ g.rest)

extern_of : (names : List (List ℕ)) (name : List ℕ) (is_long : Bool) (f : First) (ts us behind rest : List Token) → IsNew names name → ts ≡ type_token is_long ∷ us → us ≡ Word name ∷ behind → read_first true behind ≡ Some (got f (mark 59 ∷ rest)) → DeclarationIs names (Word (codes "extern") ∷ ts) (got (record { name = name; is_long = is_long; first = f }) rest)
unfolding read_first
extern_of names name is_long f ts us behind rest n t u e =
    let same = same_got first.Extern f behind (mark 59 ∷ rest) e in
    let tokens : ts ≡ type_token is_long ∷ Word name ∷ mark 59 ∷ rest =
    t ∙ ap (λ v. type_token is_long ∷ v) (u ∙ ap (λ v. Word name ∷ v) same.1) in
    subst (λ f. DeclarationIs names (Word (codes "extern") ∷ ts) (got (record { name = name; is_long = is_long; first = f }) rest)) same.0 ((n, tt), ap (λ v. Word (codes "extern") ∷ v) tokens)

extern_by : (names : List (List ℕ)) (ts : List Token) (g : Got Declaration) → read_typed names true ts ≡ Some g → DeclarationIs names (Word (codes "extern") ∷ ts) g
unfolding read_typed
extern_by names ts g e =
    let t = some_after e in
    let x = some_after t.second in
    let f = some_after x.second in
    let m = some_after f.second in
    let name = name_sound names t.value.rest x.value x.first in
    let last = m.second in
    let same : got (record { name = x.value.value; is_long = t.value.value; first = f.value.value }) m.value ≡ g = cc in
    let first : read_first true x.value.rest ≡ Some (got f.value.value (mark 59 ∷ m.value)) = f.first ∙ ap (λ rest. Some (got f.value.value rest)) (mark_sound 59 f.value.rest m.value m.first) in
    subst (λ g. DeclarationIs names (Word (codes "extern") ∷ ts) g) same
    (extern_of names x.value.value t.value.value f.value.value ts t.value.rest x.value.rest m.value name.0 (type_sound ts t.value t.first) name.1 first)

plain_of : (names : List (List ℕ)) (name : List ℕ) (is_long : Bool) (f : First) (ts rest : List Token) → IsNew names name → IsValue f → ts ≡ type_token is_long ∷ Word name ∷ (value_tokens f ++ mark 59 ∷ rest) → DeclarationIs names ts (got (record { name = name; is_long = is_long; first = f }) rest)
plain_of names name is_long first.Extern ts rest n h e = absurd h
plain_of names name is_long first.Zero ts rest n h e = ((n, tt), e)
plain_of names name is_long (first.Number value) ts rest n h e = ((n, h), e)

plain_by : (names : List (List ℕ)) (ts : List Token) (g : Got Declaration) → read_typed names false ts ≡ Some g → DeclarationIs names ts g
unfolding read_typed read_first
plain_by names ts g e =
    let t = some_after e in
    let x = some_after t.second in
    let f = some_after x.second in
    let m = some_after f.second in
    let name = name_sound names t.value.rest x.value x.first in
    let value = value_sound x.value.rest f.value f.first in
    let last = m.second in
    let same : got (record { name = x.value.value; is_long = t.value.value; first = f.value.value }) m.value ≡ g = cc in
    let tokens : ts ≡ type_token t.value.value ∷ Word x.value.value ∷ (value_tokens f.value.value ++ mark 59 ∷ m.value) =
    type_sound ts t.value t.first ∙ ap (λ v. type_token t.value.value ∷ v) (name.1 ∙ ap (λ v. Word x.value.value ∷ v) (value.1 ∙ ap (λ v. value_tokens f.value.value ++ v) (mark_sound 59 f.value.rest m.value m.first))) in
    subst (λ g. DeclarationIs names ts g) same (plain_of names x.value.value t.value.value f.value.value ts m.value name.0 value.0 tokens)

declaration_by : (names : List (List ℕ)) (ts : List Token) (o : Option (List Token)) (g : Got Declaration) → read_this (codes "extern") ts ≡ o → declaration_behind names ts o ≡ Some g → DeclarationIs names ts g
declaration_by names ts None g m e = plain_by names ts g e
declaration_by names ts (Some rest) g m e =
    let d = extern_by names rest g e in
    (d.0, this_sound (codes "extern") ts rest m ∙ d.1)

pub declaration_sound : (names : List (List ℕ)) (ts : List Token) (g : Got Declaration) → read_declaration names ts ≡ Some g → DeclarationFits names g.value × (ts ≡ declaration_tokens g.value ++ g.rest)
unfolding read_declaration
declaration_sound names ts g e = declaration_by names ts (read_this (codes "extern") ts) g refl e

-- The head of `main`

void_main_sound : (ts rest : List Token) → read_name_of_main ts ≡ Some rest → ts ≡ Word (codes "void") ∷ Word (codes "main") ∷ rest
unfolding read_name_of_main
void_main_sound ts rest e =
    let v = some_after e in
    this_sound (codes "void") ts v.value v.first ∙ ap (λ t. Word (codes "void") ∷ t) (this_sound (codes "main") v.value rest v.second)

pub head_sound : (ts rest : List Token) → read_head ts ≡ Some rest → ts ≡ head_tokens ++ rest
unfolding read_head
head_sound ts rest e =
    let n = some_after e in
    let m = some_after n.second in
    let v = some_after m.second in
    let o = some_after v.second in
    void_main_sound ts n.value n.first
    ∙ ap (λ t. Word (codes "void") ∷ Word (codes "main") ∷ t)
    (mark_sound 40 n.value m.value m.first ∙ ap (λ t. mark 40 ∷ t)
    (this_sound (codes "void") m.value v.value v.first ∙ ap (λ t. Word (codes "void") ∷ t)
    (mark_sound 41 v.value o.value o.first ∙ ap (λ t. mark 41 ∷ t) (mark_sound 123 o.value rest o.second))))

pub head_exact : (rest : List Token) → read_head (head_tokens ++ rest) ≡ Some rest
unfolding read_head read_name_of_main read_this read_mark after
head_exact rest = refl
