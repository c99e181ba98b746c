-- Static names, each once.
use Rattle.std.proofs.Common.{◌≡◌, ℕ, reverse, ◌&&◌, ◌||◌, not, Bool, true, false, List, [], ◌∷◌, ◌++◌, refl, sym, ap, ◌∙◌, append_assoc}
use Rattle.std.specs.Prelude.{if◌then◌else◌}
use Rattle.std.proofs.lemmas.List.{reverse-append, reverse-reverse}
use Rattle.p9_scopes.specs.declared.declared.Declared as seen
use Rattle.p9_scopes.specs.Seen.{declared_of, level_of}
use Rattle.std.proofs.lemmas.List.Folds.{list_any-append}
use Rattle.p9_lang.specs.Declarators.{is_outer}
use Rattle.p9_lang.specs.Files.{static_names}
use Rattle.p9_lang.specs.Names.{same_name, is_among}
use Rattle.p9_lang.specs.Scopes.{Declared}

chosen : {A : Type 0} (b : Bool) (x y z w : A) → x ≡ z → y ≡ w → (if b then x else y) ≡ (if b then z else w)
chosen true x y z w e f = e
chosen false x y z w e f = f

-- the names so far matter as a set
same_statics : (a b : List (List ℕ)) (ds : List Declared) → ((x : List ℕ) → is_among a x ≡ is_among b x) → static_names a ds ≡ static_names b ds
same_statics a b [] h = refl
same_statics a b (d ∷ ds) h =
    ap (λ c. if d.is_static && (is_outer d.means && not c) then d.name ∷ static_names (d.name ∷ a) ds else static_names a ds) (h d.name)
    ∙ chosen (d.is_static && (is_outer d.means && not (is_among b d.name)))
    (d.name ∷ static_names (d.name ∷ a) ds) (static_names a ds) (d.name ∷ static_names (d.name ∷ b) ds) (static_names b ds)
    (ap (λ l. d.name ∷ l) (same_statics (d.name ∷ a) (d.name ∷ b) ds (λ x. ap (λ c. same_name x d.name || c) (h x))))
    (same_statics a b ds h)

either_way : (a b : Bool) → (a || (b || false)) ≡ (b || a)
either_way true true = refl
either_way true false = refl
either_way false true = refl
either_way false false = refl

among_end : (names : List (List ℕ)) (n x : List ℕ) → is_among (names ++ n ∷ []) x ≡ is_among (n ∷ names) x
among_end names n x = list_any-append (same_name x) names (n ∷ []) ∙ either_way (is_among names x) (same_name x n)

new_static : (names : List (List ℕ)) (d : Declared) (ds : List Declared)
    → (d.is_static && (is_outer d.means && not (is_among names d.name))) ≡ true
    → (names ++ d.name ∷ []) ++ static_names (names ++ d.name ∷ []) ds ≡ names ++ static_names names (d ∷ ds)
new_static names d ds e =
    append_assoc names (d.name ∷ []) (static_names (names ++ d.name ∷ []) ds)
    ∙ ap (λ l. names ++ d.name ∷ l) (same_statics (names ++ d.name ∷ []) (d.name ∷ names) ds (among_end names d.name))
    ∙ ap (λ b. names ++ (if b then d.name ∷ static_names (d.name ∷ names) ds else static_names names ds)) (sym e)

pub old_static : (names : List (List ℕ)) (d : Declared) (ds : List Declared)
    → (d.is_static && (is_outer d.means && not (is_among names d.name))) ≡ false
    → names ++ static_names names ds ≡ names ++ static_names names (d ∷ ds)
old_static names d ds e = ap (λ b. names ++ (if b then d.name ∷ static_names (d.name ∷ names) ds else static_names names ds)) (sym e)

pub new_step : (names inner more : List (List ℕ)) (x : List ℕ) (d : Declared) (ds : List Declared) → inner ≡ names → more ≡ inner ++ x ∷ [] → x ≡ d.name
    → (d.is_static && (is_outer d.means && not (is_among names d.name))) ≡ true
    → more ++ static_names more ds ≡ names ++ static_names names (d ∷ ds)
new_step names inner more x d ds e f g h =
    ap (λ m. m ++ static_names m ds) (f ∙ ap (λ y. inner ++ y ∷ []) g ∙ ap (λ l. l ++ d.name ∷ []) e) ∙ new_static names d ds h

-- the oldest first

level_end : (ds : List seen.Declared) (d : seen.Declared) → level_of (ds ++ d ∷ []) ≡ level_of ds ++ declared_of d ∷ []
level_end [] d = refl
level_end (x ∷ ds) d = ap (λ l. declared_of x ∷ l) (level_end ds d)

level_reverse : (ds : List seen.Declared) → level_of (reverse ds) ≡ reverse (level_of ds)
level_reverse [] = refl
level_reverse (d ∷ ds) =
    ap level_of (reverse-append (d ∷ []) ds) ∙ level_end (reverse ds) d ∙ ap (λ l. l ++ declared_of d ∷ []) (level_reverse ds)
    ∙ sym (reverse-append (declared_of d ∷ []) (level_of ds))

pub oldest_first : (level slice : List seen.Declared) → level ≡ reverse slice → level_of slice ≡ reverse (level_of level)
oldest_first level slice e =
    sym (ap (λ l. reverse (level_of l)) e ∙ ap reverse (level_reverse slice) ∙ reverse-reverse (level_of slice))
