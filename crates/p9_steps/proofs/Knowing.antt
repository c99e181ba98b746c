-- The names of symbols, and of one symbol more.
use Rattle.std.proofs.Common.{◌≡◌, ℕ, ◌||◌, Bool, true, false, List, [], ◌∷◌, ◌++◌, refl, sym, ap, ◌∙◌}
use Rattle.std.specs.Prelude.{bytes_eq, ◌&&◌, if◌then◌else◌}
use Rattle.std.specs.List.{list_any}
use Rattle.p9_abs.specs.declared.modules.Symbol.{Symbol}
use Rattle.p9_object.specs.Machine.{is_named, same_binding}
use Rattle.p9_steps.specs.Names.{has_name, is_alike, Notes, Knows}

pub known_first : (locals globals : List (List ℕ)) (symbols : List Symbol) → locals ≡ [] → globals ≡ [] → symbols ≡ [] → Knows locals globals symbols
known_first locals globals symbols l g e local name = by local ∙ sym (ap (λ (x : List Symbol). list_any (is_named local name) x) e)
  where
    by : (b : Bool) → has_name locals globals b name ≡ false
    by true = ap (λ (x : List (List ℕ)). list_any (bytes_eq name) x) l
    by false = ap (λ (x : List (List ℕ)). list_any (bytes_eq name) x) g

same_by : (a b x : Bool) → (if a then (if b then x else false) else (if b then false else x)) ≡ same_binding a b && x
same_by true true x = refl
same_by true false x = refl
same_by false true x = refl
same_by false false x = refl

alike_named : (s : Symbol) (local : Bool) (name : List ℕ) → is_alike s local name ≡ is_named local name s
alike_named s local name = same_by s.local local (bytes_eq s.name name)

any_push : (p : Symbol → Bool) (xs : List Symbol) (s : Symbol) → list_any p (xs ++ s ∷ []) ≡ p s || list_any p xs
any_push p [] s = refl
any_push p (x ∷ xs) s = ap (λ (b : Bool). p x || b) (any_push p xs s) ∙ swap (p x) (p s) (list_any p xs)
  where
    swap : (a b c : Bool) → a || (b || c) ≡ b || (a || c)
    swap true true c = refl
    swap true false c = refl
    swap false true c = refl
    swap false false c = refl

pub known_next : (locals globals new_locals new_globals : List (List ℕ)) (symbols old new : List Symbol) (s : Symbol) → Knows locals globals symbols → Notes locals globals s new_locals new_globals → old ≡ symbols → new ≡ old ++ s ∷ [] → Knows new_locals new_globals new
known_next locals globals new_locals new_globals symbols old new s k n e f local name =
    n local name
    ∙ ap (λ (b : Bool). b || has_name locals globals local name) (alike_named s local name)
    ∙ ap (λ (b : Bool). is_named local name s || b) (k local name)
    ∙ sym (any_push (is_named local name) symbols s)
    ∙ sym (ap (λ (x : List Symbol). list_any (is_named local name) x) (f ∙ ap (λ (x : List Symbol). x ++ s ∷ []) e))
