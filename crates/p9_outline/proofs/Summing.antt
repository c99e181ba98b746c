-- What declarations make of names, and the symbols that they are.
use Rattle.std.proofs.Common.{◌≡◌, ℕ, Bool, true, false, ◌&&◌, ◌||◌, cond, List, [], ◌∷◌, ◌++◌, map, filter, Option, Some, None, unwrap_or, is_some, refl, sym, ap, ◌∙◌, append_assoc, append-nil}
use Rattle.std.specs.Prelude.{if◌then◌else◌, codes}
use Rattle.std.specs.Map.{lookup}
use Rattle.std.proofs.Math.Path.{fun_ext}
use Rattle.std.proofs.lemmas.List.Elements.{filter-append}
use Rattle.std.specs.Cmp.Lexicographic.{bytes_decides}
use Rattle.indexmap.specs.IndexMap.{insert_entry}
use Rattle.p9_lang.specs.Names.{same_name, is_among}
use Rattle.p9_lang.specs.Types.{TypeTree, Tags}
use Rattle.p9_lang.specs.Scopes.{system_names, system_type}
use Rattle.p9_lang.specs.Modules.{Source, TypedRow}
use Rattle.p9_lang.specs.Symbols.{Declaration, Way, Only, Tentative, Initial, Body, SymbolKind, DeclaredOnly, Used, Code, Data, Common, or_common, kind_of, first_type, declarations, declarations_of, declared_names, new_names, uses_in_row, symbol_names, symbol_of, is_symbol, Symbol, symbols, local_symbol, local_objects_in}
use Rattle.p9_numbering.proofs.Noting.{same_bytes}
use Rattle.p9_outline.specs.Summaries.{Summary, unknown, kind_by, joined, with_one, summary_in, declare_all, used_kind, symbol_by, symbols_by, outer_symbols}
use Rattle.p9_outline.proofs.Sets.{among_append}

-- NAMES

pub same_to : (x y : List ℕ) → same_name x y ≡ true → x ≡ y
same_to x y e = (bytes_decides x y).0 (sym (same_bytes x y) ∙ e)

pub same_from : (x y : List ℕ) → x ≡ y → same_name x y ≡ true
same_from x y e = same_bytes x y ∙ (bytes_decides x y).1 e

differ : true ≡ false → ⊥
differ e = cc

-- KINDS

kind_first : (tags : Tags) (is_used : Bool) (name : List ℕ) (type : TypeTree) (way : Way) (ds : List Declaration)
    → kind_of tags is_used (record { name = name; type = type; way = way } ∷ ds) ≡ joined (kind_by tags type way) (kind_of tags is_used ds)
kind_first tags is_used name type Only ds = refl
kind_first tags is_used name type Tentative ds = refl
kind_first tags is_used name type (Initial value) ds = refl
kind_first tags is_used name type (Body item) ds = refl

kind_step : (tags : Tags) (is_used : Bool) (d : Declaration) (ds : List Declaration)
    → kind_of tags is_used (d ∷ ds) ≡ joined (kind_by tags d.type d.way) (kind_of tags is_used ds)
kind_step tags is_used d ds = kind_first tags is_used d.name d.type d.way ds

kind_alone : (tags : Tags) (type : TypeTree) (way : Way) → joined (kind_by tags type way) DeclaredOnly ≡ kind_by tags type way
kind_alone tags type Only = refl
kind_alone tags type Tentative = refl
kind_alone tags type (Initial value) = refl
kind_alone tags type (Body item) = refl

common_again : (k : SymbolKind) → or_common k ≡ or_common (or_common k)
common_again DeclaredOnly = refl
common_again Used = refl
common_again (Code item) = refl
common_again (Data first) = refl
common_again Common = refl

common_joined : (b c : SymbolKind) → joined (or_common b) c ≡ or_common (joined b c)
common_joined DeclaredOnly c = refl
common_joined Used c = refl
common_joined (Code item) c = refl
common_joined (Data first) c = refl
common_joined Common c = common_again c

joined_assoc : (a b c : SymbolKind) → joined (joined a b) c ≡ joined a (joined b c)
joined_assoc DeclaredOnly b c = refl
joined_assoc Used b c = refl
joined_assoc (Code item) b c = refl
joined_assoc (Data first) b c = refl
joined_assoc Common b c = common_joined b c

common_used : (u : Bool) (k : SymbolKind) → or_common (used_kind u k) ≡ used_kind u (or_common k)
common_used true DeclaredOnly = refl
common_used false DeclaredOnly = refl
common_used u Used = refl
common_used u (Code item) = refl
common_used u (Data first) = refl
common_used u Common = refl

joined_used : (u : Bool) (a k : SymbolKind) → joined a (used_kind u k) ≡ used_kind u (joined a k)
joined_used u DeclaredOnly k = refl
joined_used u Used k = refl
joined_used u (Code item) k = refl
joined_used u (Data first) k = refl
joined_used u Common k = common_used u k

pub kind_used : (tags : Tags) (u : Bool) (ds : List Declaration) → used_kind u (kind_of tags false ds) ≡ kind_of tags u ds
kind_used tags u [] = refl
kind_used tags u (d ∷ ds) =
    ap (used_kind u) (kind_step tags false d ds)
    ∙ sym (joined_used u (kind_by tags d.type d.way) (kind_of tags false ds))
    ∙ ap (joined (kind_by tags d.type d.way)) (kind_used tags u ds)
    ∙ sym (kind_step tags u d ds)

kind_end : (tags : Tags) (done : List Declaration) (d : Declaration) → joined (kind_of tags false done) (kind_by tags d.type d.way) ≡ kind_of tags false (done ++ d ∷ [])
kind_end tags [] d = sym (kind_step tags false d [] ∙ kind_alone tags d.type d.way)
kind_end tags (e ∷ done) d =
    ap (λ k. joined k (kind_by tags d.type d.way)) (kind_step tags false e done)
    ∙ joined_assoc (kind_by tags e.type e.way) (kind_of tags false done) (kind_by tags d.type d.way)
    ∙ ap (joined (kind_by tags e.type e.way)) (kind_end tags done d)
    ∙ sym (kind_step tags false e (done ++ d ∷ []))

-- SUMMARIES

abbrev first_declared : List Declaration → Option TypeTree
first_declared [] = None
first_declared (d ∷ ds) = Some d.type

abbrev summary_of : Tags → List Declaration → Summary
summary_of tags ds = record { first = first_declared ds; kind = kind_of tags false ds }

first_end : (done : List Declaration) (d : Declaration) → Some (unwrap_or (first_declared done) d.type) ≡ first_declared (done ++ d ∷ [])
first_end [] d = refl
first_end (e ∷ done) d = refl

abbrev summary_by : Option TypeTree → SymbolKind → Summary
summary_by first kind = record { first = first; kind = kind }

summary_end : (tags : Tags) (done : List Declaration) (d : Declaration)
    → with_one (summary_of tags done) d.type (kind_by tags d.type d.way) ≡ summary_of tags (done ++ d ∷ [])
summary_end tags done d =
    ap (λ f. summary_by f (joined (kind_of tags false done) (kind_by tags d.type d.way))) (first_end done d)
    ∙ ap (summary_by (first_declared (done ++ d ∷ []))) (kind_end tags done d)

lookup_inserted : (es : List (List ℕ × Summary)) (k : List ℕ) (v : Summary) (q : List ℕ)
    → lookup (same_name q) (insert_entry same_name es k v) ≡ (if same_name q k then Some v else lookup (same_name q) es)
lookup_inserted [] k v q = by (same_name q k)
  where
    by : (b : Bool) → cond b (Some v) None ≡ (if b then Some v else None)
    by true = refl
    by false = refl
lookup_inserted (e ∷ es) k v q = by (same_name k e.0) refl (lookup_inserted es k v q)
  where
    there : (b c : Bool) → b ≡ c → cond b (Some v) (lookup (same_name q) es) ≡ (if c then Some v else cond b (Some e.1) (lookup (same_name q) es))
    there true true h = refl
    there true false h = cc
    there false true h = cc
    there false false h = refl

    behind : (b c : Bool) → (b ≡ true → c ≡ true → ⊥)
        → cond b (Some e.1) (if c then Some v else lookup (same_name q) es) ≡ (if c then Some v else cond b (Some e.1) (lookup (same_name q) es))
    behind true true h = absurd (h refl refl)
    behind true false h = refl
    behind false true h = refl
    behind false false h = refl

    by : (b : Bool) → same_name k e.0 ≡ b
        → lookup (same_name q) (insert_entry same_name es k v) ≡ (if same_name q k then Some v else lookup (same_name q) es)
        → lookup (same_name q) (if b then (e.0, v) ∷ es else e ∷ insert_entry same_name es k v)
        ≡ (if same_name q k then Some v else lookup (same_name q) (e ∷ es))
    by true h g = there (same_name q e.0) (same_name q k) (ap (same_name q) (sym (same_to k e.0 h)))
    by false h g =
        ap (λ o. cond (same_name q e.0) (Some e.1) o) g
        ∙ behind (same_name q e.0) (same_name q k) (λ x y. differ (sym (same_from k e.0 (sym (same_to q k y) ∙ same_to q e.0 x)) ∙ h))

summary_inserted : (es : List (List ℕ × Summary)) (k : List ℕ) (v : Summary) (q : List ℕ) (b : Bool) → same_name q k ≡ b
    → summary_in q (insert_entry same_name es k v) ≡ (if b then v else summary_in q es)
summary_inserted es k v q b e =
    ap (λ o. unwrap_or o unknown) (lookup_inserted es k v q ∙ ap (λ c. if c then Some v else lookup (same_name q) es) e) ∙ by b
  where
    by : (c : Bool) → unwrap_or (if c then Some v else lookup (same_name q) es) unknown ≡ (if c then v else summary_in q es)
    by true = refl
    by false = refl

-- what is known of a name is by its own declarations
pub summary_all : (tags : Tags) (ds done : List Declaration) (es : List (List ℕ × Summary)) (q : List ℕ) → summary_in q es ≡ summary_of tags done
    → summary_in q (declare_all tags es ds) ≡ summary_of tags (done ++ declarations_of q ds)
summary_all tags [] done es q h = h ∙ ap (summary_of tags) (sym (append-nil done))
summary_all tags (d ∷ ds) done es q h =
    by (same_name q d.name) refl (summary_all tags ds (done ++ d ∷ []) later q) (summary_all tags ds done later q)
  where
    v : Summary
    v = with_one (summary_in d.name es) d.type (kind_by tags d.type d.way)

    later : List (List ℕ × Summary)
    later = insert_entry same_name es d.name v

    by : (b : Bool) → same_name q d.name ≡ b
        → (summary_in q later ≡ summary_of tags (done ++ d ∷ []) → summary_in q (declare_all tags later ds) ≡ summary_of tags ((done ++ d ∷ []) ++ declarations_of q ds))
        → (summary_in q later ≡ summary_of tags done → summary_in q (declare_all tags later ds) ≡ summary_of tags (done ++ declarations_of q ds))
        → summary_in q (declare_all tags later ds) ≡ summary_of tags (done ++ cond b (d ∷ declarations_of q ds) (declarations_of q ds))
    by true e with_it without =
        with_it
        (summary_inserted es d.name v q true e
        ∙ ap (λ s. with_one s d.type (kind_by tags d.type d.way)) (ap (λ x. summary_in x es) (sym (same_to q d.name e)) ∙ h)
        ∙ summary_end tags done d)
        ∙ ap (summary_of tags) (append_assoc done (d ∷ []) (declarations_of q ds))
    by false e with_it without = without (summary_inserted es d.name v q false e ∙ h)

-- THE NAMES THAT ARE KNOWN

abbrev names_in : List (List ℕ × Summary) → List (List ℕ)
names_in es = map (λ e. e.0) es

names_inserted : (es : List (List ℕ × Summary)) (k : List ℕ) (v : Summary)
    → names_in (insert_entry same_name es k v) ≡ (if is_among (names_in es) k then names_in es else names_in es ++ k ∷ [])
names_inserted [] k v = refl
names_inserted (e ∷ es) k v = by (same_name k e.0) (is_among (names_in es) k) (names_inserted es k v)
  where
    by : (b c : Bool) → names_in (insert_entry same_name es k v) ≡ (if c then names_in es else names_in es ++ k ∷ [])
        → names_in (if b then (e.0, v) ∷ es else e ∷ insert_entry same_name es k v)
        ≡ (if b || c then names_in (e ∷ es) else names_in (e ∷ es) ++ k ∷ [])
    by true c h = refl
    by false true h = ap (λ l. e.0 ∷ l) h
    by false false h = ap (λ l. e.0 ∷ l) h

new_names_same : (xs a b : List (List ℕ)) → ((q : List ℕ) → is_among a q ≡ is_among b q) → new_names a xs ≡ new_names b xs
new_names_same [] a b h = refl
new_names_same (x ∷ xs) a b h =
    by (is_among a x) (is_among b x) (h x) (new_names_same xs a b h)
    (new_names_same xs (x ∷ a) (x ∷ b) (λ q. ap (λ t. same_name q x || t) (h q)))
  where
    by : (c d : Bool) → c ≡ d → new_names a xs ≡ new_names b xs → new_names (x ∷ a) xs ≡ new_names (x ∷ b) xs
        → (if c then new_names a xs else x ∷ new_names (x ∷ a) xs) ≡ (if d then new_names b xs else x ∷ new_names (x ∷ b) xs)
    by true true e f g = f
    by true false e f g = absurd (differ e)
    by false true e f g = absurd (differ (sym e))
    by false false e f g = ap (λ l. x ∷ l) g

or_other : (a b : Bool) → a || (b || false) ≡ b || a
or_other true true = refl
or_other true false = refl
or_other false true = refl
or_other false false = refl

pub names_all : (tags : Tags) (ds : List Declaration) (es : List (List ℕ × Summary))
    → names_in (declare_all tags es ds) ≡ names_in es ++ new_names (names_in es) (map (λ d. d.name) ds)
names_all tags [] es = sym (append-nil (names_in es))
names_all tags (d ∷ ds) es =
    names_all tags ds later ∙ ap (λ l. l ++ new_names l (map (λ e. e.name) ds)) (names_inserted es d.name v) ∙ by (is_among (names_in es) d.name)
  where
    v : Summary
    v = with_one (summary_in d.name es) d.type (kind_by tags d.type d.way)

    later : List (List ℕ × Summary)
    later = insert_entry same_name es d.name v

    by : (b : Bool)
        → (if b then names_in es else names_in es ++ d.name ∷ []) ++ new_names (if b then names_in es else names_in es ++ d.name ∷ []) (map (λ e. e.name) ds)
        ≡ names_in es ++ (if b then new_names (names_in es) (map (λ e. e.name) ds) else d.name ∷ new_names (d.name ∷ names_in es) (map (λ e. e.name) ds))
    by true = refl
    by false =
        append_assoc (names_in es) (d.name ∷ []) (new_names (names_in es ++ d.name ∷ []) (map (λ e. e.name) ds))
        ∙ ap (λ l. names_in es ++ d.name ∷ l)
        (new_names_same (map (λ e. e.name) ds) (names_in es ++ d.name ∷ []) (d.name ∷ names_in es)
        (λ q. among_append (names_in es) (d.name ∷ []) q ∙ or_other (is_among (names_in es) q) (same_name q d.name)))

-- SYMBOLS

is_declared : (ds : List Declaration) (q : List ℕ) → is_some (first_declared (declarations_of q ds)) ≡ is_among (map (λ d. d.name) ds) q
is_declared [] q = refl
is_declared (d ∷ ds) q = by (same_name q d.name) (is_declared ds q)
  where
    by : (b : Bool) → is_some (first_declared (declarations_of q ds)) ≡ is_among (map (λ d. d.name) ds) q
        → is_some (first_declared (cond b (d ∷ declarations_of q ds) (declarations_of q ds))) ≡ b || is_among (map (λ d. d.name) ds) q
    by true h = refl
    by false h = h

type_same : (otherwise : TypeTree) (ds : List Declaration) → unwrap_or (first_declared ds) otherwise ≡ first_type otherwise ds
type_same otherwise [] = refl
type_same otherwise (d ∷ ds) = refl

abbrev own : Source → List ℕ → List Declaration
own source q = declarations_of q (declarations source.items)

abbrev symbol_with : Source → List ℕ → TypeTree → SymbolKind → Symbol
symbol_with source q type kind = record { name = q; static = None; is_local = is_among source.statics q; type = type; kind = kind }

symbol_same : (source : Source) (q : List ℕ)
    → symbol_by (is_among source.statics q) (is_among (uses_in_row source.items) q) (q, summary_of source.tags (own source q)) ≡ symbol_of source q
symbol_same source q =
    ap (λ t. symbol_with source q t (used_kind (is_among (uses_in_row source.items) q) (kind_of source.tags false (own source q)))) (type_same (system_type q) (own source q))
    ∙ ap (symbol_with source q (first_type (system_type q) (own source q))) (kind_used source.tags (is_among (uses_in_row source.items) q) (own source q))

abbrev is_met : Source → List ℕ → Bool
is_met source q = is_among (declared_names source ++ uses_in_row source.items) q

met_same : (source : Source) (q : List ℕ) → is_some (first_declared (own source q)) || is_among (uses_in_row source.items) q ≡ is_met source q
met_same source q =
    ap (λ b. b || is_among (uses_in_row source.items) q) (is_declared (declarations source.items) q)
    ∙ sym (among_append (declared_names source) (uses_in_row source.items) q)

abbrev summed : Source → List ℕ → Summary
summed source q = summary_of source.tags (own source q)

symbols_same : (source : Source) (q : List ℕ)
    → symbols_by (is_among source.statics q) (is_among (uses_in_row source.items) q) (q, summed source q)
    ≡ (if is_met source q && is_symbol (symbol_of source q) then symbol_of source q ∷ [] else [])
symbols_same source q =
    ap (λ b. if b && is_symbol s then s ∷ [] else []) (met_same source q)
    ∙ ap (λ t. if is_met source q && is_symbol t then t ∷ [] else []) (symbol_same source q)
  where
    s : Symbol
    s = symbol_by (is_among source.statics q) (is_among (uses_in_row source.items) q) (q, summed source q)

outers_filtered : (source : Source) (xs : List (List ℕ))
    → outer_symbols (is_among source.statics) (is_among (uses_in_row source.items)) (summed source) xs
    ≡ filter is_symbol (map (symbol_of source) (filter (is_met source) xs))
outers_filtered source [] = refl
outers_filtered source (x ∷ xs) =
    ap (λ l. l ++ outer_symbols (is_among source.statics) (is_among (uses_in_row source.items)) (summed source) xs) (symbols_same source x)
    ∙ ap (λ l. (if is_met source x && is_symbol (symbol_of source x) then symbol_of source x ∷ [] else []) ++ l) (outers_filtered source xs)
    ∙ by (is_met source x)
  where
    inner : (b : Bool) → (if b then symbol_of source x ∷ [] else []) ++ filter is_symbol (map (symbol_of source) (filter (is_met source) xs))
        ≡ cond b (symbol_of source x ∷ filter is_symbol (map (symbol_of source) (filter (is_met source) xs))) (filter is_symbol (map (symbol_of source) (filter (is_met source) xs)))
    inner true = refl
    inner false = refl

    by : (b : Bool) → (if b && is_symbol (symbol_of source x) then symbol_of source x ∷ [] else []) ++ filter is_symbol (map (symbol_of source) (filter (is_met source) xs))
        ≡ filter is_symbol (map (symbol_of source) (cond b (x ∷ filter (is_met source) xs) (filter (is_met source) xs)))
    by true = inner (is_symbol (symbol_of source x))
    by false = refl

or_true : (b : Bool) → b || true ≡ true
or_true true = refl
or_true false = refl

all_met : (met : List ℕ → Bool) (known xs : List (List ℕ)) → ((q : List ℕ) → is_among xs q ≡ true → met q ≡ true) → filter met (new_names known xs) ≡ new_names known xs
all_met met known [] h = refl
all_met met known (x ∷ xs) h = by (is_among known x) (all_met met known xs rest) (all_met met (x ∷ known) xs rest)
  where
    rest : (q : List ℕ) → is_among xs q ≡ true → met q ≡ true
    rest q e = h q (ap (λ b. same_name q x || b) e ∙ or_true (same_name q x))

    here : met x ≡ true
    here = h x (ap (λ b. b || is_among xs x) (same_from x x refl))

    by : (b : Bool) → filter met (new_names known xs) ≡ new_names known xs → filter met (new_names (x ∷ known) xs) ≡ new_names (x ∷ known) xs
        → filter met (if b then new_names known xs else x ∷ new_names (x ∷ known) xs) ≡ (if b then new_names known xs else x ∷ new_names (x ∷ known) xs)
    by true f g = f
    by false f g =
        ap (λ b. cond b (x ∷ filter met (new_names (x ∷ known) xs)) (filter met (new_names (x ∷ known) xs))) here
        ∙ ap (λ l. x ∷ l) g

names_met : (source : Source) → filter (is_met source) (system_names ++ new_names system_names (declared_names source)) ≡ symbol_names source
names_met source =
    filter-append (is_met source) system_names (new_names system_names (declared_names source))
    ∙ ap (λ l. filter (is_met source) system_names ++ l)
    (all_met (is_met source) system_names (declared_names source)
    (λ q e. among_append (declared_names source) (uses_in_row source.items) q ∙ ap (λ b. b || is_among (uses_in_row source.items) q) e))

abbrev system_entries : List (List ℕ × Summary)
system_entries = map (λ x. (x, unknown)) system_names

unknown_at_first : (q : List ℕ) → summary_in q system_entries ≡ unknown
unknown_at_first q = by (same_name q (codes "exits")) (same_name q (codes "read")) (same_name q (codes "write"))
  where
    by : (a b c : Bool) → unwrap_or (cond a (Some unknown) (cond b (Some unknown) (cond c (Some unknown) None))) unknown ≡ unknown
    by true b c = refl
    by false true c = refl
    by false false true = refl
    by false false false = refl

pub outlined : (source : Source) (items : TypedRow) (local used : List ℕ → Bool) (es0 es : List (List ℕ × Summary)) (known : List ℕ → Summary) (names : List (List ℕ))
    (start mid final : List Symbol) → items ≡ source.items → ((q : List ℕ) → local q ≡ is_among source.statics q)
    → ((q : List ℕ) → used q ≡ is_among (uses_in_row items) q) → es0 ≡ system_entries → es ≡ declare_all source.tags es0 (declarations items)
    → ((q : List ℕ) → known q ≡ summary_in q es) → names ≡ names_in es → start ≡ []
    → mid ≡ start ++ outer_symbols local used known names
    → final ≡ mid ++ map local_symbol (local_objects_in source.tags false items)
    → final ≡ symbols source
outlined source items local used es0 es known names start mid final i l u a d k n z m f =
    f
    ∙ ap (λ s. s ++ map local_symbol (local_objects_in source.tags false items)) (m ∙ ap (λ s. s ++ outer_symbols local used known names) z ∙ outers)
    ∙ ap (λ r. filter is_symbol (map (symbol_of source) (symbol_names source)) ++ map local_symbol (local_objects_in source.tags false r)) i
  where
    entries : es ≡ declare_all source.tags system_entries (declarations source.items)
    entries =
        d ∙ ap (λ x. declare_all source.tags x (declarations items)) a
        ∙ ap (λ r. declare_all source.tags system_entries (declarations r)) i

    each : (q : List ℕ) → known q ≡ summed source q
    each q =
        k q ∙ ap (summary_in q) entries
        ∙ summary_all source.tags (declarations source.items) [] system_entries q (unknown_at_first q)

    all_names : names ≡ system_names ++ new_names system_names (declared_names source)
    all_names = n ∙ ap names_in entries ∙ names_all source.tags (declarations source.items) system_entries

    outers : outer_symbols local used known names ≡ filter is_symbol (map (symbol_of source) (symbol_names source))
    outers =
        ap (λ g. outer_symbols g used known names) (fun_ext l)
        ∙ ap (λ g. outer_symbols (is_among source.statics) g known names) (fun_ext u ∙ ap (λ r. is_among (uses_in_row r)) i)
        ∙ ap (λ g. outer_symbols (is_among source.statics) (is_among (uses_in_row source.items)) g names) (fun_ext each)
        ∙ ap (outer_symbols (is_among source.statics) (is_among (uses_in_row source.items)) (summed source)) all_names
        ∙ outers_filtered source (system_names ++ new_names system_names (declared_names source))
        ∙ ap (λ xs. filter is_symbol (map (symbol_of source) xs)) (names_met source)
