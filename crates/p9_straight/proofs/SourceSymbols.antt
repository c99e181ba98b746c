-- The symbols of a file's module.
use Rattle.std.proofs.Common.{◌≡◌, ℕ, Bool, true, false, if◌then◌else◌, List, [], ◌∷◌, ◌++◌, map, Some, None, Option, refl, sym, ap, ◌∙◌, subst, append_assoc}
use Rattle.std.specs.Prelude.{codes, filter}
use Rattle.p9_first.specs.declared.tree.Kind.TheVariants as kind
use Rattle.p9_first.specs.Types.{TypeTree}
use Rattle.p9_first.specs.Trees.{node, none}
use Rattle.p9_first.specs.Form.{same_name, is_among, is_variable_name}
use Rattle.p9_first.specs.Modules.{Label, Typed, Source, Declaration as Declared, Way, declarations as declared_by, declarations_of, uses_in_row, texts_of_row, SymbolKind, DeclaredOnly, Used, Code, Data, Common, Symbol, kind_of, system_names, system_type, first_type, symbol_of, new_names, declared_names, text_symbol, symbols}
use Rattle.p9_form.specs.declared.file.Statement.{Statement}
use Rattle.p9_form.specs.declared.file.First.{First}
use Rattle.p9_form.specs.declared.file.First.TheVariants as first
use Rattle.p9_form.specs.declared.file.Declaration.{Declaration}
use Rattle.p9_form.specs.declared.file.File.{File}
use Rattle.p9_first.proofs.Variables.{IsVariableType}
use Rattle.p9_straight.proofs.SourceLists.{Each, each_weaker, each_both, each_map, bool_cases, neither, neither_left, neither_right, same_is, same_self, true_not}
use Rattle.p9_straight.proofs.SourceForm.{AreNew, names_behind, FileForm}
use Rattle.p9_straight.proofs.SourceTyped.{Thing, AVariable, AMain, main_thing, things, MainItem, IsWay, Stands, Stand, numbered, main_texts, IsSourceOf, other_name, no_main}

-- Names are declared once

pub differs : (x y : List ℕ) → is_variable_name x ≡ true → is_variable_name y ≡ false → same_name x y ≡ false
differs x y v h =
    bool_cases (same_name x y)
    (λ e. true_not (is_variable_name x) v (subst (λ z. is_variable_name z ≡ false) (sym (same_is x y e)) h))
    (λ e. e)

same_turned : (x y : List ℕ) → same_name x y ≡ false → same_name y x ≡ false
same_turned x y h =
    bool_cases (same_name y x)
    (λ e. true_not (same_name x x) (same_self x) (subst (λ z. same_name x z ≡ false) (same_is y x e) h))
    (λ e. e)

abbrev pub thing_name : Thing → List ℕ
thing_name (AVariable d) = d.name
thing_name (AMain ss) = codes "main"

abbrev AreFresh : List (List ℕ) → List Thing → Type 0
AreFresh known [] = Unit {0}
AreFresh known (t ∷ ts) = (is_among known (thing_name t) ≡ false) × AreFresh (thing_name t ∷ known) ts

-- variables that aren't among the names aren't known
abbrev Covers : (names known : List (List ℕ)) → Type 0
Covers names known = (x : List ℕ) → is_variable_name x ≡ true → is_among names x ≡ false → is_among known x ≡ false

covers_more : (names known : List (List ℕ)) (y : List ℕ) → Covers names known → Covers (y ∷ names) (y ∷ known)
covers_more names known y c x v h =
    neither (same_name x y) (is_among known x) (neither_left (same_name x y) (is_among names x) h)
    (c x v (neither_right (same_name x y) (is_among names x) h))

covers_main : (names known : List (List ℕ)) → Covers names known → Covers names (codes "main" ∷ known)
covers_main names known c x v h = neither (same_name x (codes "main")) (is_among known x) (differs x (codes "main") v no_main) (c x v h)

system_covered : Covers [] system_names
system_covered x v h =
    neither (same_name x (codes "exits")) _ (differs x (codes "exits") v refl)
    (neither (same_name x (codes "read")) _ (differs x (codes "read") v refl)
    (neither (same_name x (codes "write")) false (differs x (codes "write") v refl) refl))

abbrev Before : (names : List (List ℕ)) → List Thing → Type 0
Before names ts = (known : List (List ℕ)) → Covers names known → is_among known (codes "main") ≡ false → AreFresh known ts

fresh_variables : (names known : List (List ℕ)) (ds : List Declaration) (ts : List Thing) → Covers names known → is_among known (codes "main") ≡ false → AreNew names ds
    → Before (names_behind names ds) ts → AreFresh known (map AVariable ds ++ ts)
fresh_variables names known [] ts c m w h = h known c m
fresh_variables names known (d ∷ ds) ts c m w h = (
  c d.name w.0 w.1,
  fresh_variables (d.name ∷ names) (d.name ∷ known) ds ts (covers_more names known d.name c)
      (neither (same_name (codes "main") d.name) (is_among known (codes "main")) (other_name (codes "main") d.name no_main w.0) m) w.3 h,
)

fresh_after : (names known : List (List ℕ)) (ds : List Declaration) → Covers names known → AreNew names ds → AreFresh known (map AVariable ds)
fresh_after names known [] c w = tt
fresh_after names known (d ∷ ds) c w = (c d.name w.0 w.1, fresh_after (d.name ∷ names) (d.name ∷ known) ds (covers_more names known d.name c) w.3)

fresh_main : (names known : List (List ℕ)) (main : Option (List Statement)) (after : List Declaration) → Covers names known → is_among known (codes "main") ≡ false → AreNew names after
    → AreFresh known (main_thing main (map AVariable after))
fresh_main names known None after c m w = fresh_after names known after c w
fresh_main names known (Some ss) after c m w = (m, fresh_after names (codes "main" ∷ known) after (covers_main names known c) w)

fresh_things : (file : File) → FileForm file → AreFresh system_names (things file)
fresh_things file f =
    fresh_variables [] system_names file.before (main_thing file.main (map AVariable file.after)) system_covered refl f.before
    (λ known c m. fresh_main (names_behind [] file.before) known file.main file.after c m f.after)

-- the same of what a module declares
abbrev AreApart : List (List ℕ) → List Declared → Type 0
AreApart known [] = Unit {0}
AreApart known (d ∷ ds) = (is_among known d.name ≡ false) × AreApart (d.name ∷ known) ds

stand_name : (t : Thing) (d : Declared) → Stands t d → d.name ≡ thing_name t
stand_name (AVariable v) d h = h.0
stand_name (AMain ss) d h = h.0

apart_of : (known : List (List ℕ)) (ts : List Thing) (ds : List Declared) → Stand ts ds → AreFresh known ts → AreApart known ds
apart_of known [] [] h f = tt
apart_of known [] (d ∷ ds) h f = absurd h
apart_of known (t ∷ ts) [] h f = absurd h
apart_of known (t ∷ ts) (d ∷ ds) h f =
    let e = stand_name t d h.0 in (
      subst (λ x. is_among known x ≡ false) (sym e) f.0,
      apart_of (d.name ∷ known) ts ds h.1 (subst (λ x. AreFresh (x ∷ known) ts) (sym e) f.1),
    )

new_is : (known : List (List ℕ)) (ds : List Declared) → AreApart known ds → new_names known (map (λ d. d.name) ds) ≡ map (λ d. d.name) ds
new_is known [] h = refl
new_is known (d ∷ ds) h =
    ap (λ b. if b then new_names known (map (λ d. d.name) ds) else d.name ∷ new_names (d.name ∷ known) (map (λ d. d.name) ds)) h.0
    ∙ ap (λ l. d.name ∷ l) (new_is (d.name ∷ known) ds h.1)

unknown : (known : List (List ℕ)) (ds : List Declared) → AreApart known ds → Each (λ d. is_among known d.name ≡ false) ds
unknown known [] h = tt
unknown known (d ∷ ds) h =
    (h.0, each_weaker (λ e. is_among (d.name ∷ known) e.name ≡ false) (λ e. is_among known e.name ≡ false) (λ e g. neither_right (same_name e.name d.name) (is_among known e.name) g) ds (unknown (d.name ∷ known) ds h.1))

filter_none : (x : List ℕ) (ds : List Declared) → Each (λ d. same_name x d.name ≡ false) ds → declarations_of x ds ≡ []
filter_none x [] h = refl
filter_none x (d ∷ ds) h = ap (λ b. if b then d ∷ declarations_of x ds else declarations_of x ds) h.0 ∙ filter_none x ds h.1

abbrev IsAlone : List Declared → Declared → Type 0
IsAlone ds d = declarations_of d.name ds ≡ d ∷ []

alone_behind : (d : Declared) (ds : List Declared) (e : Declared) → same_name e.name d.name ≡ false → IsAlone ds e → IsAlone (d ∷ ds) e
alone_behind d ds e h g = ap (λ b. if b then d ∷ declarations_of e.name ds else declarations_of e.name ds) h ∙ g

all_alone : (known : List (List ℕ)) (ds : List Declared) → AreApart known ds → Each (IsAlone ds) ds
all_alone known [] h = tt
all_alone known (d ∷ ds) h =
    let u = unknown (d.name ∷ known) ds h.1 in (
      ap (λ b. if b then d ∷ declarations_of d.name ds else declarations_of d.name ds) (same_self d.name)
          ∙ ap (λ l. d ∷ l) (filter_none d.name ds (each_weaker (λ e. is_among (d.name ∷ known) e.name ≡ false) (λ e. same_name d.name e.name ≡ false) (λ e g. same_turned e.name d.name (neither_left (same_name e.name d.name) (is_among known e.name) g)) ds u)),
      each_weaker (λ e. (is_among (d.name ∷ known) e.name ≡ false) × IsAlone ds e) (IsAlone (d ∷ ds)) (λ e g. alone_behind d ds e (neither_left (same_name e.name d.name) (is_among known e.name) g.0) g.1) ds
          (each_both (λ e. is_among (d.name ∷ known) e.name ≡ false) (IsAlone ds) ds u (all_alone (d.name ∷ known) ds h.1)),
    )

-- Symbols

-- declared only, or used
abbrev pub IsMere : SymbolKind → Type 0
IsMere DeclaredOnly = Unit {0}
IsMere Used = Unit {0}
IsMere _ = ⊥

abbrev pub IsKind : First → SymbolKind → Type 0
IsKind first.Extern k = IsMere k
IsKind first.Zero k = k ≡ Common
IsKind (first.Number value) k = (label : Label) × (k ≡ Data (node (kind.Number value false false) label none))

abbrev pub Makes : Thing → Symbol → Type 0
Makes (AVariable d) symbol = (symbol.name ≡ d.name) × (symbol.is_local ≡ false) × IsVariableType symbol.type × IsKind d.first symbol.kind
Makes (AMain ss) symbol = (symbol.name ≡ codes "main") × (symbol.is_local ≡ false) × ((item : Typed) × (symbol.kind ≡ Code item) × MainItem ss item)

abbrev pub Make : List Thing → List Symbol → Type 0
Make [] [] = Unit {0}
Make [] (s ∷ ss) = ⊥
Make (t ∷ ts) [] = ⊥
Make (t ∷ ts) (s ∷ ss) = Makes t s × Make ts ss

mere : (used : Bool) → IsMere (kind_of [] used)
mere true = tt
mere false = tt

abbrev declared : List ℕ → TypeTree → Way → Declared
declared name type way = record { name = name; type = type; way = way }

kind_is : (f : First) (name : List ℕ) (type : TypeTree) (way : Way) (used : Bool) → IsWay f way → IsKind f (kind_of (declared name type way ∷ []) used)
kind_is first.Extern name type way used h = subst (λ w. IsMere (kind_of (declared name type w ∷ []) used)) (sym h) (mere used)
kind_is first.Zero name type way true h = ap (λ w. kind_of (declared name type w ∷ []) true) h
kind_is first.Zero name type way false h = ap (λ w. kind_of (declared name type w ∷ []) false) h
kind_is (first.Number value) name type way used h = (h.0, ap (λ w. kind_of (declared name type w ∷ []) used) h.1)

makes_one : (source : Source) (t : Thing) (d : Declared) → source.statics ≡ [] → Stands t d → IsAlone (declared_by source.items) d → Makes t (symbol_of source d.name)
makes_one source (AVariable v) d st h a = (
  h.0,
  ap (λ l. is_among l d.name) st,
  subst (λ l. IsVariableType (first_type (system_type d.name) l)) (sym a) h.1,
  subst (λ l. IsKind v.first (kind_of l (is_among (uses_in_row source.items) d.name))) (sym a) (kind_is v.first d.name d.type d.way (is_among (uses_in_row source.items) d.name) h.2),
)
makes_one source (AMain ss) d st h a = (
  h.0,
  ap (λ l. is_among l d.name) st,
  (
    h.1.0,
    ap (λ l. kind_of l (is_among (uses_in_row source.items) d.name)) a
        ∙ ap (λ w. kind_of (declared d.name d.type w ∷ []) (is_among (uses_in_row source.items) d.name)) h.1.1,
    h.1.2,
  ),
)

make_all : (source : Source) (ts : List Thing) (ds : List Declared) → source.statics ≡ [] → Stand ts ds → Each (IsAlone (declared_by source.items)) ds
    → Make ts (map (symbol_of source) (map (λ d. d.name) ds))
make_all source [] [] st h a = tt
make_all source [] (d ∷ ds) st h a = absurd h
make_all source (t ∷ ts) [] st h a = absurd h
make_all source (t ∷ ts) (d ∷ ds) st h a = (makes_one source t d st h.0 a.0, make_all source ts ds st h.1 a.1)

-- the symbols of system calls
pub record IsSystemSymbol (symbol : Symbol) : Type 0 where
  pub shared : symbol.is_local ≡ false
  pub mere : IsMere symbol.kind

each_filter : {X : Type 0} (P : X → Type 0) (p : X → Bool) (xs : List X) → Each P xs → Each P (filter p xs)
each_filter P p [] h = tt
each_filter P p (x ∷ xs) h =
    bool_cases (p x)
    (λ e. subst (λ b. Each P (if b then x ∷ filter p xs else filter p xs)) (sym e) (h.0, each_filter P p xs h.1))
    (λ e. subst (λ b. Each P (if b then x ∷ filter p xs else filter p xs)) (sym e) (each_filter P p xs h.1))

system_symbol : (source : Source) (y : List ℕ) → source.statics ≡ [] → declarations_of y (declared_by source.items) ≡ [] → IsSystemSymbol (symbol_of source y)
system_symbol source y st h = record {
  shared = ap (λ l. is_among l y) st;
  mere = subst (λ l. IsMere (kind_of l (is_among (uses_in_row source.items) y))) (sym h) (mere (is_among (uses_in_row source.items) y));
}

-- a name that all declared names differ from
undeclared : (y : List ℕ) (ds : List Declared) → Each (λ d. same_name d.name y ≡ false) ds → declarations_of y ds ≡ []
undeclared y ds h = filter_none y ds (each_weaker (λ d. same_name d.name y ≡ false) (λ d. same_name y d.name ≡ false) (λ d g. same_turned d.name y g) ds h)

system_undeclared : (ds : List Declared) → Each (λ d. is_among system_names d.name ≡ false) ds → Each (λ y. declarations_of y ds ≡ []) system_names
system_undeclared ds h = (
  undeclared (codes "exits") ds (each_weaker (λ d. is_among system_names d.name ≡ false) (λ d. same_name d.name (codes "exits") ≡ false) (λ d g. neither_left (same_name d.name (codes "exits")) _ g) ds h),
  (
    undeclared (codes "read") ds (each_weaker (λ d. is_among system_names d.name ≡ false) (λ d. same_name d.name (codes "read") ≡ false)
        (λ d g. neither_left (same_name d.name (codes "read")) _ (neither_right (same_name d.name (codes "exits")) _ g)) ds h),
    (
      undeclared (codes "write") ds (each_weaker (λ d. is_among system_names d.name ≡ false) (λ d. same_name d.name (codes "write") ≡ false)
          (λ d g. neither_left (same_name d.name (codes "write")) _ (neither_right (same_name d.name (codes "read")) _ (neither_right (same_name d.name (codes "exits")) _ g))) ds h),
      tt,
    ),
  ),
)

map_append : {X Y : Type 0} (f : X → Y) (xs ys : List X) → map f (xs ++ ys) ≡ map f xs ++ map f ys
map_append f [] ys = refl
map_append f (x ∷ xs) ys = ap (λ l. f x ∷ l) (map_append f xs ys)

-- the symbols of a file's module: those of system calls, those of what the file declares, and texts
pub record HasSymbols (file : File) (source : Source) : Type 0 where
  pub system : List Symbol
  pub own : List Symbol
  pub all : symbols source ≡ system ++ (own ++ map text_symbol (numbered 0 (main_texts file.main)))
  pub mere : Each IsSystemSymbol system
  pub makes : Make (things file) own

pub has_symbols : (file : File) (source : Source) → IsSourceOf file source → HasSymbols file source
has_symbols file source h =
    let a : AreApart system_names (declared_by source.items) = apart_of system_names (things file) (declared_by source.items) h.stands (fresh_things file h.form) in
    let known : List (List ℕ) = filter (λ x. is_among (declared_names source ++ uses_in_row source.items) x) system_names in
    record {
      system = map (symbol_of source) known;
      own = map (symbol_of source) (map (λ d. d.name) (declared_by source.items));
      all =
          ap (λ l. map (symbol_of source) (known ++ l) ++ map text_symbol (texts_of_row source.items)) (new_is system_names (declared_by source.items) a)
          ∙ ap (λ l. l ++ map text_symbol (texts_of_row source.items)) (map_append (symbol_of source) known (declared_names source))
          ∙ append_assoc (map (symbol_of source) known) (map (symbol_of source) (declared_names source)) (map text_symbol (texts_of_row source.items))
          ∙ ap (λ l. map (symbol_of source) known ++ (map (symbol_of source) (declared_names source) ++ map text_symbol l)) h.texts;
      mere = each_map IsSystemSymbol (symbol_of source) known
          (each_weaker (λ y. declarations_of y (declared_by source.items) ≡ []) (λ y. IsSystemSymbol (symbol_of source y)) (λ y g. system_symbol source y h.statics g) known
          (each_filter (λ y. declarations_of y (declared_by source.items) ≡ []) (λ x. is_among (declared_names source ++ uses_in_row source.items) x) system_names
          (system_undeclared (declared_by source.items) (unknown system_names (declared_by source.items) a))));
      makes = make_all source (things file) (declared_by source.items) h.statics h.stands (all_alone system_names (declared_by source.items) a);
    }
