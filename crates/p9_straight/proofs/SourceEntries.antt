-- The symbols of a file's module, one by one: what each makes, and which there are.
use Rattle.std.proofs.Common.{◌≡◌, ℕ, zero, suc, ◌+◌, Bool, true, false, ◌&&◌, ◌||◌, if◌then◌else◌, List, [], ◌∷◌, ◌++◌, map, Some, None, Option, refl, sym, ap, ◌∙◌, subst, arith, append_assoc}
use Rattle.std.specs.Prelude.{◌==◌, codes, flat_map, slice_get, decimal}
use Rattle.std.specs.List.{list_any}
use Rattle.p9_first.specs.Types.{TypeTree, Int, Long}
use Rattle.p9_first.specs.Layout.{size_of}
use Rattle.p9_first.specs.Form.{same_name}
use Rattle.p9_first.specs.Modules.{Typed, Source, SymbolKind, DeclaredOnly, Used, Code, Data, TextData, Common, Symbol, text_symbol, symbols}
use Rattle.p9_form.specs.declared.file.Statement.{Statement}
use Rattle.p9_form.specs.declared.file.First.{First}
use Rattle.p9_form.specs.declared.file.First.TheVariants as first
use Rattle.p9_form.specs.declared.file.Declaration.{Declaration}
use Rattle.p9_form.specs.declared.file.File.{File}
use Rattle.p9_form.specs.Sharing.{declarations, Initial, initial_in, tentative_in, main_in}
use Rattle.p9_first.specs.Access.{number_cells}
use Rattle.p9_first.specs.Union.{Entry, is_shared_data, is_shared_common, value_cells, is_shared_of, is_text_of, first_code}
use Rattle.p9_first.proofs.Variables.{IsVariableType}
use Rattle.p9_straight.proofs.SourceLists.{Each, each_append, each_left, each_right, each_weaker, each_map, eq_self, any_left, any_right, any_either, flat_append}
use Rattle.p9_straight.proofs.SourceTyped.{Thing, AVariable, AMain, main_thing, things, MainItem, numbered, text_list, main_texts}
use Rattle.p9_straight.proofs.SourceSymbols.{IsMere, IsKind, Makes, Make, IsSystemSymbol, HasSymbols}

abbrev pub entry : ℕ → Symbol → Entry
entry i s = record { owner = i; symbol = s }

-- Initials and tentative names by things

abbrev pub initials_by : Thing → List Initial
initials_by (AVariable d) = initial_in d
initials_by (AMain ss) = []

abbrev pub tentatives_by : Thing → List (List ℕ)
tentatives_by (AVariable d) = tentative_in d
tentatives_by (AMain ss) = []

flat_variables : {X : Type 0} (f : Thing → List X) (g : Declaration → List X) → ((d : Declaration) → f (AVariable d) ≡ g d) → (ds : List Declaration) → flat_map f (map AVariable ds) ≡ flat_map g ds
flat_variables f g e [] = refl
flat_variables f g e (d ∷ ds) = ap (λ l. l ++ flat_map f (map AVariable ds)) (e d) ∙ ap (λ l. g d ++ l) (flat_variables f g e ds)

flat_main : {X : Type 0} (f : Thing → List X) → ((ss : List Statement) → f (AMain ss) ≡ []) → (main : Option (List Statement)) (ts : List Thing) → flat_map f (main_thing main ts) ≡ flat_map f ts
flat_main f e None ts = refl
flat_main f e (Some ss) ts = ap (λ l. l ++ flat_map f ts) (e ss)

flat_things : {X : Type 0} (f : Thing → List X) (g : Declaration → List X) → ((d : Declaration) → f (AVariable d) ≡ g d) → ((ss : List Statement) → f (AMain ss) ≡ [])
    → (file : File) → flat_map f (things file) ≡ flat_map g (declarations file)
flat_things f g e m file =
    flat_append f (map AVariable file.before) (main_thing file.main (map AVariable file.after))
    ∙ ap (λ l. l ++ flat_map f (main_thing file.main (map AVariable file.after))) (flat_variables f g e file.before)
    ∙ ap (λ l. flat_map g file.before ++ l) (flat_main f m file.main (map AVariable file.after) ∙ flat_variables f g e file.after)
    ∙ sym (flat_append g file.before file.after)

-- What a symbol is. `P` holds of the first values, and `texts` are those of `main`.

abbrev pub Dotted : List ℕ → Type 0
Dotted name = (rest : List ℕ) × (name ≡ 46 ∷ rest)

abbrev pub SoundKind : (P : Initial → Type 0) (texts : List (List ℕ)) → Symbol → SymbolKind → Type 0
SoundKind P texts s DeclaredOnly = s.is_local ≡ false
SoundKind P texts s Used = s.is_local ≡ false
SoundKind P texts s (Code item) = s.is_local ≡ false
SoundKind P texts s (Data value) = (s.is_local ≡ false) × ((v : Initial) × (v.name ≡ s.name) × (value_cells s.type value ≡ number_cells 4 v.value) × P v)
SoundKind P texts s (TextData k bytes) = (s.is_local ≡ true) × (slice_get texts k ≡ Some bytes) × Dotted s.name
SoundKind P texts s Common = (s.is_local ≡ false) × (size_of s.type ≡ 4)

abbrev pub Sound : (P : Initial → Type 0) (texts : List (List ℕ)) → Symbol → Type 0
Sound P texts s = SoundKind P texts s s.kind

size_four : (type : TypeTree) → IsVariableType type → size_of type ≡ 4
size_four Int h = refl
size_four Long h = refl
size_four _ h = absurd h

mere_sound : (P : Initial → Type 0) (texts : List (List ℕ)) (s : Symbol) (k : SymbolKind) → IsMere k → s.is_local ≡ false → SoundKind P texts s k
mere_sound P texts s DeclaredOnly h l = l
mere_sound P texts s Used h l = l
mere_sound P texts s (Code item) h l = absurd h
mere_sound P texts s (Data value) h l = absurd h
mere_sound P texts s (TextData k bytes) h l = absurd h
mere_sound P texts s Common h l = absurd h

abbrev plain : List ℕ → Bool → First → Declaration
plain x l f = record { name = x; is_long = l; first = f }

abbrev initial : List ℕ → ℕ → Initial
initial x n = record { name = x; value = n }

variable_sound : (P : Initial → Type 0) (texts : List (List ℕ)) (x : List ℕ) (l : Bool) (f : First) (s : Symbol)
    → s.name ≡ x → s.is_local ≡ false → IsVariableType s.type → IsKind f s.kind → Each P (initial_in (plain x l f)) → Sound P texts s
variable_sound P texts x l first.Extern s n o t k p = mere_sound P texts s s.kind k o
variable_sound P texts x l first.Zero s n o t k p = subst (SoundKind P texts s) (sym k) (o, size_four s.type t)
variable_sound P texts x l (first.Number value) s n o t k p =
    subst (SoundKind P texts s) (sym k.1) (o, (initial x value, sym n, ap (λ m. number_cells m value) (size_four s.type t), p.0))

thing_sound : (P : Initial → Type 0) (texts : List (List ℕ)) (t : Thing) (s : Symbol) → Makes t s → Each P (initials_by t) → Sound P texts s
thing_sound P texts (AVariable d) s h p = variable_sound P texts d.name d.is_long d.first s h.0 h.1 h.2 h.3 p
thing_sound P texts (AMain ss) s h p = subst (SoundKind P texts s) (sym h.2.1) h.1

own_sound : (P : Initial → Type 0) (texts : List (List ℕ)) (ts : List Thing) (own : List Symbol) → Make ts own → Each P (flat_map initials_by ts) → Each (Sound P texts) own
own_sound P texts [] [] h p = tt
own_sound P texts [] (s ∷ own) h p = absurd h
own_sound P texts (t ∷ ts) [] h p = absurd h
own_sound P texts (t ∷ ts) (s ∷ own) h p = (
  thing_sound P texts t s h.0 (each_left P (initials_by t) (flat_map initials_by ts) p),
  own_sound P texts ts own h.1 (each_right P (initials_by t) (flat_map initials_by ts) p),
)

texts_sound : (P : Initial → Type 0) (texts : List (List ℕ)) (m : ℕ) (ts : List (List ℕ)) → ((j : ℕ) (b : List ℕ) → slice_get ts j ≡ Some b → slice_get texts (m + j) ≡ Some b)
    → Each (Sound P texts) (map text_symbol (numbered m ts))
texts_sound P texts m [] h = tt
texts_sound P texts m (t ∷ ts) h =
    let e : m + 0 ≡ m = omega arith in (
      (refl, subst (λ n. slice_get texts n ≡ Some t) e (h 0 t refl), (decimal m, refl)),
      texts_sound P texts (m + 1) ts (λ j b g. let d : m + suc j ≡ m + 1 + j = omega arith in subst (λ n. slice_get texts n ≡ Some b) d (h (suc j) b g)),
    )

abbrev pub mains_of : Option (List Statement) → List (List Statement)
mains_of None = []
mains_of (Some ss) = ss ∷ []

pub mains_are : (file : File) → main_in file ≡ mains_of file.main
mains_are file = by file.main
  where
    by : (main : Option (List Statement)) → main_in (record file { main = main }) ≡ mains_of main
    by None = refl
    by (Some ss) = refl

main_texts_sound : (P : Initial → Type 0) (main : List Statement) (own : Option (List Statement)) → Each (λ ss. ss ≡ main) (mains_of own) → Each (Sound P (text_list main)) (map text_symbol (numbered 0 (main_texts own)))
main_texts_sound P main None h = tt
main_texts_sound P main (Some ss) h =
    texts_sound P (text_list main) 0 (text_list ss) (λ j b g. let e : j ≡ 0 + j = omega arith in subst (λ n. slice_get (text_list main) n ≡ Some b) e (subst (λ s. slice_get (text_list s) j ≡ Some b) h.0 g))

pub file_sound : (P : Initial → Type 0) (main : List Statement) (i : ℕ) (file : File) (source : Source) → HasSymbols file source
    → Each P (flat_map initial_in (declarations file)) → Each (λ ss. ss ≡ main) (main_in file)
    → Each (λ e. Sound P (text_list main) e.symbol) (map (entry i) (symbols source))
file_sound P main i file source h p m =
    each_map (λ e. Sound P (text_list main) e.symbol) (entry i) (symbols source)
    (subst (Each (Sound P (text_list main))) (sym h.all)
    (each_append (Sound P (text_list main)) h.system (h.own ++ map text_symbol (numbered 0 (main_texts file.main)))
    (each_weaker IsSystemSymbol (Sound P (text_list main)) (λ s g. mere_sound P (text_list main) s s.kind g.mere g.shared) h.system h.mere)
    (each_append (Sound P (text_list main)) h.own (map text_symbol (numbered 0 (main_texts file.main)))
    (own_sound P (text_list main) (things file) h.own h.makes (subst (Each P) (sym (flat_things initials_by initial_in (λ d. refl) (λ ss. refl) file)) p))
    (main_texts_sound P main file.main (subst (Each (λ ss. ss ≡ main)) (mains_are file) m)))))

-- Data of a name

and_true : (a b : Bool) → a ≡ true → b ≡ true → (a && b) ≡ true
and_true true b h g = g
and_true false b h g = absurd (let e : false ≡ true = h in cc)

data_shared : (x : List ℕ) (i : ℕ) (s : Symbol) (value : Typed) → s.is_local ≡ false → s.kind ≡ Data value → same_name x s.name ≡ true → is_shared_data x (entry i s) ≡ true
data_shared x i s value l k n =
    ap (λ b. is_shared_data x (entry i (record s { is_local = b }))) l
    ∙ ap (λ c. is_shared_data x (entry i (record s { is_local = false; kind = c }))) k
    ∙ and_true (same_name x s.name) true n refl

common_shared : (x : List ℕ) (i : ℕ) (s : Symbol) → s.is_local ≡ false → s.kind ≡ Common → same_name x s.name ≡ true → is_shared_common x (entry i s) ≡ true
common_shared x i s l k n =
    ap (λ b. is_shared_common x (entry i (record s { is_local = b }))) l
    ∙ ap (λ c. is_shared_common x (entry i (record s { is_local = false; kind = c }))) k
    ∙ and_true (same_name x s.name) true n refl

abbrev pub named : List ℕ → Initial → Bool
named x v = same_name x v.name

-- one of one
only : (a : Bool) → (a || false) ≡ true → a ≡ true
only true h = refl
only false h = h

variable_data : (x y : List ℕ) (i : ℕ) (l : Bool) (f : First) (s : Symbol) → s.name ≡ y → s.is_local ≡ false → IsKind f s.kind
    → list_any (named x) (initial_in (plain y l f)) ≡ true → is_shared_data x (entry i s) ≡ true
variable_data x y i l first.Extern s n o k h = absurd (let e : false ≡ true = h in cc)
variable_data x y i l first.Zero s n o k h = absurd (let e : false ≡ true = h in cc)
variable_data x y i l (first.Number value) s n o k h =
    data_shared x i s _ o k.1 (subst (λ z. same_name x z ≡ true) (sym n) (only (same_name x y) h))

variable_common : (x y : List ℕ) (i : ℕ) (l : Bool) (f : First) (s : Symbol) → s.name ≡ y → s.is_local ≡ false → IsKind f s.kind
    → list_any (same_name x) (tentative_in (plain y l f)) ≡ true → is_shared_common x (entry i s) ≡ true
variable_common x y i l first.Extern s n o k h = absurd (let e : false ≡ true = h in cc)
variable_common x y i l first.Zero s n o k h = common_shared x i s o k (subst (λ z. same_name x z ≡ true) (sym n) (only (same_name x y) h))
variable_common x y i l (first.Number value) s n o k h = absurd (let e : false ≡ true = h in cc)

thing_data : (x : List ℕ) (i : ℕ) (t : Thing) (s : Symbol) → Makes t s → list_any (named x) (initials_by t) ≡ true → is_shared_data x (entry i s) ≡ true
thing_data x i (AVariable d) s h g = variable_data x d.name i d.is_long d.first s h.0 h.1 h.3 g
thing_data x i (AMain ss) s h g = absurd (let e : false ≡ true = g in cc)

thing_common : (x : List ℕ) (i : ℕ) (t : Thing) (s : Symbol) → Makes t s → list_any (same_name x) (tentatives_by t) ≡ true → is_shared_common x (entry i s) ≡ true
thing_common x i (AVariable d) s h g = variable_common x d.name i d.is_long d.first s h.0 h.1 h.3 g
thing_common x i (AMain ss) s h g = absurd (let e : false ≡ true = g in cc)

-- an element that passes gives a symbol that passes
own_any : {X : Type 0} (p : X → Bool) (q : Entry → Bool) (f : Thing → List X) (i : ℕ) → ((t : Thing) (s : Symbol) → Makes t s → list_any p (f t) ≡ true → q (entry i s) ≡ true)
    → (ts : List Thing) (own : List Symbol) → Make ts own → list_any p (flat_map f ts) ≡ true → list_any q (map (entry i) own) ≡ true
own_any p q f i k [] [] h g = absurd (let e : false ≡ true = g in cc)
own_any p q f i k [] (s ∷ own) h g = absurd h
own_any p q f i k (t ∷ ts) [] h g = absurd h
own_any p q f i k (t ∷ ts) (s ∷ own) h g =
    any_either (list_any q (map (entry i) (s ∷ own)) ≡ true) p (f t) (flat_map f ts) g
    (λ e. ap (λ b. b || list_any q (map (entry i) own)) (k t s h.0 e))
    (λ e. any_right q (entry i s ∷ []) (map (entry i) own) (own_any p q f i k ts own h.1 e))

map_append : {X Y : Type 0} (f : X → Y) (xs ys : List X) → map f (xs ++ ys) ≡ map f xs ++ map f ys
map_append f [] ys = refl
map_append f (x ∷ xs) ys = ap (λ l. f x ∷ l) (map_append f xs ys)

-- the entries of a file's symbols
pub all_entries : (i : ℕ) (file : File) (source : Source) → (h : HasSymbols file source)
    → map (entry i) (symbols source) ≡ map (entry i) h.system ++ (map (entry i) h.own ++ map (entry i) (map text_symbol (numbered 0 (main_texts file.main))))
all_entries i file source h =
    ap (map (entry i)) h.all
    ∙ map_append (entry i) h.system (h.own ++ map text_symbol (numbered 0 (main_texts file.main)))
    ∙ ap (λ l. map (entry i) h.system ++ l) (map_append (entry i) h.own (map text_symbol (numbered 0 (main_texts file.main))))

file_any : (q : Entry → Bool) (i : ℕ) (file : File) (source : Source) → (h : HasSymbols file source) → list_any q (map (entry i) h.own) ≡ true → list_any q (map (entry i) (symbols source)) ≡ true
file_any q i file source h g =
    ap (list_any q) (all_entries i file source h)
    ∙ any_right q (map (entry i) h.system) (map (entry i) h.own ++ map (entry i) (map text_symbol (numbered 0 (main_texts file.main))))
    (any_left q (map (entry i) h.own) (map (entry i) (map text_symbol (numbered 0 (main_texts file.main)))) g)

pub file_data : (x : List ℕ) (i : ℕ) (file : File) (source : Source) → HasSymbols file source → list_any (named x) (flat_map initial_in (declarations file)) ≡ true
    → list_any (is_shared_data x) (map (entry i) (symbols source)) ≡ true
file_data x i file source h g =
    file_any (is_shared_data x) i file source h
    (own_any (named x) (is_shared_data x) initials_by i (thing_data x i) (things file) h.own h.makes (ap (list_any (named x)) (flat_things initials_by initial_in (λ d. refl) (λ ss. refl) file) ∙ g))

pub file_common : (x : List ℕ) (i : ℕ) (file : File) (source : Source) → HasSymbols file source → list_any (same_name x) (flat_map tentative_in (declarations file)) ≡ true
    → list_any (is_shared_common x) (map (entry i) (symbols source)) ≡ true
file_common x i file source h g =
    file_any (is_shared_common x) i file source h
    (own_any (same_name x) (is_shared_common x) tentatives_by i (thing_common x i) (things file) h.own h.makes (ap (list_any (same_name x)) (flat_things tentatives_by tentative_in (λ d. refl) (λ ss. refl) file) ∙ g))

-- Texts

number_passes : (i m : ℕ) (t : List ℕ) → is_text_of i m (entry i (text_symbol (record { number = m; bytes = t }))) ≡ true
number_passes i m t = and_true (i == i) (m == m) (eq_self i) (eq_self m)

texts_any : (i m : ℕ) (ts : List (List ℕ)) (j k : ℕ) (b : List ℕ) → slice_get ts j ≡ Some b → k ≡ m + j → list_any (is_text_of i k) (map (entry i) (map text_symbol (numbered m ts))) ≡ true
texts_any i m [] j k b h e = absurd (let d : None ≡ Some b = h in cc)
texts_any i m (t ∷ ts) zero k b h e =
    let s : m ≡ k = omega (arith, e) in
    subst (λ n. list_any (is_text_of i n) (map (entry i) (map text_symbol (numbered m (t ∷ ts)))) ≡ true) s
    (ap (λ c. c || list_any (is_text_of i m) (map (entry i) (map text_symbol (numbered (m + 1) ts)))) (number_passes i m t))
texts_any i m (t ∷ ts) (suc j) k b h e =
    any_right (is_text_of i k) (entry i (text_symbol (record { number = m; bytes = t })) ∷ []) (map (entry i) (map text_symbol (numbered (m + 1) ts)))
    (texts_any i (m + 1) ts j k b h (omega (arith, e)))

pub file_text : (i : ℕ) (file : File) (source : Source) (ss : List Statement) (k : ℕ) (b : List ℕ) → HasSymbols file source → file.main ≡ Some ss → slice_get (text_list ss) k ≡ Some b
    → list_any (is_text_of i k) (map (entry i) (symbols source)) ≡ true
file_text i file source ss k b h m g =
    ap (list_any (is_text_of i k)) (all_entries i file source h)
    ∙ any_right (is_text_of i k) (map (entry i) h.system) (map (entry i) h.own ++ map (entry i) (map text_symbol (numbered 0 (main_texts file.main))))
    (any_right (is_text_of i k) (map (entry i) h.own) (map (entry i) (map text_symbol (numbered 0 (main_texts file.main))))
    (texts_any i 0 (main_texts file.main) k k b (subst (λ o. slice_get (main_texts o) k ≡ Some b) (sym m) g) (omega arith)))

-- `main`

abbrev pub is_main : Entry → Bool
is_main e = is_shared_of (codes "main") e

abbrev IsPlain : SymbolKind → Type 0
IsPlain (Code item) = ⊥
IsPlain _ = Unit {0}

same_branch : {X : Type 0} (b : Bool) (x : X) → (if b then x else x) ≡ x
same_branch true x = refl
same_branch false x = refl

skip_kind : (i : ℕ) (s : Symbol) (k : SymbolKind) (es : List Entry) → IsPlain k → first_code is_main (entry i (record s { kind = k }) ∷ es) ≡ first_code is_main es
skip_kind i s DeclaredOnly es h = same_branch (is_main (entry i s)) (first_code is_main es)
skip_kind i s Used es h = same_branch (is_main (entry i s)) (first_code is_main es)
skip_kind i s (Code item) es h = absurd h
skip_kind i s (Data value) es h = same_branch (is_main (entry i s)) (first_code is_main es)
skip_kind i s (TextData k bytes) es h = same_branch (is_main (entry i s)) (first_code is_main es)
skip_kind i s Common es h = same_branch (is_main (entry i s)) (first_code is_main es)

abbrev IsPlainSymbol : Symbol → Type 0
IsPlainSymbol s = IsPlain s.kind

skip_all : (i : ℕ) (ss : List Symbol) (es : List Entry) → Each IsPlainSymbol ss → first_code is_main (map (entry i) ss ++ es) ≡ first_code is_main es
skip_all i [] es h = refl
skip_all i (s ∷ ss) es h = skip_kind i s s.kind (map (entry i) ss ++ es) h.0 ∙ skip_all i ss es h.1

mere_plain : (k : SymbolKind) → IsMere k → IsPlain k
mere_plain DeclaredOnly h = tt
mere_plain Used h = tt
mere_plain (Code item) h = h
mere_plain (Data value) h = tt
mere_plain (TextData k bytes) h = tt
mere_plain Common h = tt

kind_plain : (f : First) (k : SymbolKind) → IsKind f k → IsPlain k
kind_plain first.Extern k h = mere_plain k h
kind_plain first.Zero k h = subst IsPlain (sym h) tt
kind_plain (first.Number value) k h = subst IsPlain (sym h.1) tt

texts_plain : (m : ℕ) (ts : List (List ℕ)) → Each IsPlainSymbol (map text_symbol (numbered m ts))
texts_plain m [] = tt
texts_plain m (t ∷ ts) = (tt, texts_plain (m + 1) ts)

variables_plain : (ds : List Declaration) (own : List Symbol) → Make (map AVariable ds) own → Each IsPlainSymbol own
variables_plain [] [] h = tt
variables_plain [] (s ∷ own) h = absurd h
variables_plain (d ∷ ds) [] h = absurd h
variables_plain (d ∷ ds) (s ∷ own) h = (kind_plain d.first s.kind h.0.3, variables_plain ds own h.1)

hit : (i : ℕ) (s : Symbol) (item : Typed) (es : List Entry) → s.name ≡ codes "main" → s.is_local ≡ false → s.kind ≡ Code item
    → first_code is_main (entry i s ∷ es) ≡ Some (record { owner = i; item = item })
hit i s item es n l k =
    ap (λ c. first_code is_main (entry i (record s { kind = c }) ∷ es)) k
    ∙ ap (λ b. first_code is_main (entry i (record s { is_local = b; kind = Code item }) ∷ es)) l
    ∙ ap (λ x. first_code is_main (entry i (record s { name = x; is_local = false; kind = Code item }) ∷ es)) n

-- the code of `main` is found behind variables
abbrev pub Found : (i : ℕ) (ss : List Statement) (es : List Entry) → Type 0
Found i ss es = (item : Typed) × (first_code is_main es ≡ Some (record { owner = i; item = item })) × MainItem ss item

found_behind : (i : ℕ) (ss : List Statement) (ds : List Declaration) (ts : List Thing) (own : List Symbol) (es : List Entry) → Make (map AVariable ds ++ (AMain ss ∷ ts)) own → Found i ss (map (entry i) own ++ es)
found_behind i ss [] ts [] es h = absurd h
found_behind i ss [] ts (s ∷ own) es h = (h.0.2.0, hit i s h.0.2.0 (map (entry i) own ++ es) h.0.0 h.0.1 h.0.2.1, h.0.2.2)
found_behind i ss (d ∷ ds) ts [] es h = absurd h
found_behind i ss (d ∷ ds) ts (s ∷ own) es h =
    let r = found_behind i ss ds ts own es h.1 in
    (r.0, skip_kind i s s.kind (map (entry i) own ++ es) (kind_plain d.first s.kind h.0.3) ∙ r.1, r.2)

split_entries : (i : ℕ) (file : File) (source : Source) (es : List Entry) → (h : HasSymbols file source)
    → map (entry i) (symbols source) ++ es ≡ map (entry i) h.system ++ (map (entry i) h.own ++ (map (entry i) (map text_symbol (numbered 0 (main_texts file.main))) ++ es))
split_entries i file source es h =
    ap (λ l. l ++ es) (all_entries i file source h)
    ∙ append_assoc (map (entry i) h.system) (map (entry i) h.own ++ map (entry i) (map text_symbol (numbered 0 (main_texts file.main)))) es
    ∙ ap (λ l. map (entry i) h.system ++ l) (append_assoc (map (entry i) h.own) (map (entry i) (map text_symbol (numbered 0 (main_texts file.main)))) es)

system_plain : (ss : List Symbol) → Each IsSystemSymbol ss → Each IsPlainSymbol ss
system_plain ss h = each_weaker IsSystemSymbol IsPlainSymbol (λ s g. mere_plain s.kind g.mere) ss h

pub file_code : (i : ℕ) (file : File) (source : Source) (ss : List Statement) (es : List Entry) → HasSymbols file source → file.main ≡ Some ss → Found i ss (map (entry i) (symbols source) ++ es)
file_code i file source ss es h m =
    let rest : List Entry = map (entry i) (map text_symbol (numbered 0 (main_texts file.main))) ++ es in
    let r = found_behind i ss file.before (map AVariable file.after) h.own rest (subst (λ o. Make (map AVariable file.before ++ main_thing o (map AVariable file.after)) h.own) m h.makes) in
    (r.0, ap (first_code is_main) (split_entries i file source es h) ∙ skip_all i h.system (map (entry i) h.own ++ rest) (system_plain h.system h.mere) ∙ r.1, r.2)

pub file_no_code : (i : ℕ) (file : File) (source : Source) (es : List Entry) → HasSymbols file source → file.main ≡ None → first_code is_main (map (entry i) (symbols source) ++ es) ≡ first_code is_main es
file_no_code i file source es h m =
    let texts : List Symbol = map text_symbol (numbered 0 (main_texts file.main)) in
    let rest : List Entry = map (entry i) texts ++ es in
    ap (first_code is_main) (split_entries i file source es h)
    ∙ skip_all i h.system (map (entry i) h.own ++ rest) (system_plain h.system h.mere)
    ∙ skip_all i h.own rest (variables_plain (file.before ++ file.after) h.own (subst (λ l. Make l h.own) (variables_only file m) h.makes))
    ∙ skip_all i texts es (texts_plain 0 (main_texts file.main))
  where
    variables_only : (file : File) → file.main ≡ None → things file ≡ map AVariable (file.before ++ file.after)
    variables_only file m = ap (λ o. map AVariable file.before ++ main_thing o (map AVariable file.after)) m ∙ sym (map_append AVariable file.before file.after)
