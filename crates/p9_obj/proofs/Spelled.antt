-- The bytes of fields, one part behind the other.
use Rattle.std.proofs.Common.{◌≡◌, ℕ, ◌+◌, ◌<◌, List, [], ◌∷◌, ◌++◌, Ok, length, get_or, take, flat_map, refl, sym, ap, ◌∙◌, append_assoc}
use Rattle.std.proofs.lemmas.Grind.{flat_map-append}
use Rattle.std.proofs.lemmas.List.{take_more, append-nil}
use Rattle.p9_base.specs.Numbers.{word_bytes}
use Rattle.p9_abs.specs.declared.modules.Symbol.{Symbol}
use Rattle.p9_abs.specs.declared.modules.AModule.{AModule}
use Rattle.p9_abs.specs.Validity.{IsValid}
use Rattle.p9_object.specs.Fields.{Field, half_bytes, field_bytes, binding_number, kind_number, signature_fields, body_fields, symbol_fields, magic, spelling}
use Rattle.p9_object.specs.Bytes.{reading}
use Rattle.p9_object.specs.Laws.{bytes_of, Fits}
use Rattle.p9_object.proofs.Reading.{reads_what_is_spelled}

-- one more item is spelled
pub spelled_next : {X : Type 0} (f : X → List Field) (xs : List X) (i : ℕ) (x : X) (start out new : List ℕ) → i < length xs → x ≡ get_or xs i x → out ≡ start ++ bytes_of (flat_map f (take i xs)) → new ≡ out ++ bytes_of (f x) → new ≡ start ++ bytes_of (flat_map f (take (i + 1) xs))
spelled_next {X} f xs i x start out new h is o n =
    let t : take (i + 1) xs ≡ take i xs ++ x ∷ [] = take_more xs i x h ∙ ap (λ (y : X). take i xs ++ y ∷ []) (sym is) in
    let g : flat_map f (take (i + 1) xs) ≡ flat_map f (take i xs) ++ f x =
    ap (λ (ys : List X). flat_map f ys) t ∙ flat_map-append f (take i xs) (x ∷ []) ∙ ap (λ (fs : List Field). flat_map f (take i xs) ++ fs) (append-nil (f x)) in
    let b : bytes_of (flat_map f (take (i + 1) xs)) ≡ bytes_of (flat_map f (take i xs)) ++ bytes_of (f x) =
    ap (λ (fs : List Field). bytes_of fs) g ∙ flat_map-append field_bytes (flat_map f (take i xs)) (f x) in
    n ∙ ap (λ (z : List ℕ). z ++ bytes_of (f x)) o ∙ append_assoc start (bytes_of (flat_map f (take i xs))) (bytes_of (f x)) ∙ ap (λ (z : List ℕ). start ++ z) (sym b)

-- a signature is its length and its bytes
pub signature_spelled : (sig : List ℕ) → bytes_of (signature_fields sig) ≡ word_bytes (length sig) ++ sig
signature_spelled [] = refl
signature_spelled (b ∷ bs) = ap (λ (z : List ℕ). word_bytes (length (b ∷ bs)) ++ b ∷ z) (append-nil bs)

-- a symbol's fields are put one behind the other

six_parts : (old half name sig body : List ℕ) (b k : ℕ) → ((((old ++ b ∷ []) ++ k ∷ []) ++ (half ++ name)) ++ sig) ++ body ≡ old ++ b ∷ k ∷ (half ++ (name ++ (sig ++ body)))
six_parts old half name sig body b k = simp append_assoc

pub symbol_put : (s : Symbol) (b k : ℕ) (old o1 o2 o3 o4 o5 : List ℕ) → b ≡ binding_number s.local → k ≡ kind_number s.body → o1 ≡ old ++ b ∷ [] → o2 ≡ o1 ++ k ∷ [] → o3 ≡ o2 ++ (half_bytes (length s.name) ++ s.name) → o4 ≡ o3 ++ bytes_of (signature_fields s.sig) → o5 ≡ o4 ++ bytes_of (body_fields s.body) → o5 ≡ old ++ bytes_of (symbol_fields s)
symbol_put s b k old o1 o2 o3 o4 o5 eb ek e1 e2 e3 e4 e5 =
    let half : List ℕ = half_bytes (length s.name) in
    let sig : List ℕ = bytes_of (signature_fields s.sig) in
    let body : List ℕ = bytes_of (body_fields s.body) in
    e5
    ∙ ap (λ (x : List ℕ). x ++ body) (e4 ∙ ap (λ (x : List ℕ). x ++ sig) (e3 ∙ ap (λ (x : List ℕ). x ++ (half ++ s.name)) (e2 ∙ ap (λ (x : List ℕ). x ++ k ∷ []) e1)))
    ∙ six_parts old half s.name sig body b k
    ∙ ap (λ (x : ℕ). old ++ x ∷ k ∷ (half ++ (s.name ++ (sig ++ body)))) eb
    ∙ ap (λ (x : ℕ). old ++ binding_number s.local ∷ x ∷ (half ++ (s.name ++ (sig ++ body)))) ek
    ∙ ap (λ (x : List ℕ). old ++ binding_number s.local ∷ kind_number s.body ∷ (half ++ (s.name ++ x))) (sym (flat_map-append field_bytes (signature_fields s.sig) (body_fields s.body)))

-- a module's fields are put one behind the other

four_parts : (a b c d : List ℕ) → (([] ++ a) ++ b) ++ (c ++ d) ≡ a ++ (b ++ (c ++ d))
four_parts a b c d = simp append_assoc

pub module_put : (m : AModule) (first o0 o1 o2 o3 : List ℕ) → first ≡ magic → o0 ≡ [] → o1 ≡ o0 ++ first → o2 ≡ o1 ++ word_bytes 1 → o3 ≡ o2 ++ (word_bytes (length m.symbols) ++ bytes_of (flat_map symbol_fields m.symbols)) → o3 ≡ spelling m
module_put m first o0 o1 o2 o3 ef e0 e1 e2 e3 =
    let count : List ℕ = word_bytes (length m.symbols) in
    let rest : List ℕ = bytes_of (flat_map symbol_fields m.symbols) in
    e3
    ∙ ap (λ (x : List ℕ). x ++ (count ++ rest)) (e2 ∙ ap (λ (x : List ℕ). x ++ word_bytes 1) (e1 ∙ ap (λ (x : List ℕ). x ++ first) e0))
    ∙ four_parts first (word_bytes 1) count rest
    ∙ ap (λ (x : List ℕ). x ++ (word_bytes 1 ++ (count ++ rest))) ef

-- what was written is read again
pub read_again : (m : AModule) (bytes : List ℕ) → IsValid m → bytes ≡ spelling m → Fits m → reading bytes ≡ Ok m
read_again m bytes v e f = ap (λ (x : List ℕ). reading x) e ∙ reads_what_is_spelled m (record { valid = v; fits = f })
