-- A symbol's code is an item of the file.
use Rattle.std.proofs.Common.{ℕ, Bool, true, false, ◌||◌, if◌then◌else◌, List, [], ◌∷◌, ◌++◌, map, filter, Option, Some, None, Result}
use Rattle.p9_lang.specs.declared.tree.Kind.TheVariants as kind
use Rattle.p9_lang.specs.Names.{same_name, is_among}
use Rattle.p9_lang.specs.Trees.{node, none, more}
use Rattle.p9_lang.specs.Types.{TypeTree, Meant, Nothing, Outer, Static, Auto, EnumValue, TypeName, Tags}
use Rattle.p9_lang.specs.Conversions.{is_function}
use Rattle.p9_lang.specs.Declarators.{is_extern, storage_of}
use Rattle.p9_lang.specs.Initialisers.{Write, BrokenItem}
use Rattle.p9_lang.specs.Modules.{Label, Typed, TypedRow, Source}
use Rattle.p9_lang.specs.Parts.{is_declarator}
use Rattle.p9_lang.specs.Symbols.{kind_of_node, name_label, initialiser, Way, Only, Tentative, Initial, Body, Declaration, declares, label_type, way_of, declared_by, declared_body, declarations_in, declarations, declarations_of, uses_in_row, LocalObject, local_objects_in, SymbolKind, DeclaredOnly, Used, Code, Data, Common, Symbol, or_common, kind_of, symbol_of, symbol_names, is_symbol, local_kind, local_symbol, symbols}
use Rattle.p9_cmean.specs.Declarations.{definition_of}
use Rattle.p9_tree.specs.Means.{code_of, code_items}
use Rattle.p9_lower.specs.Premises.{ItemIsSound, ItemsAreSound}
use Rattle.p9_sound.specs.Items.{FunctionIsSound, FunctionsAreSound, CodeItemsAreSound}

-- DECLARATIONS, whose bodies are sound

abbrev WayFits : Source → Way → Type 0
WayFits m (Body item) = ItemIsSound m (definition_of item)
WayFits m Only = Unit {0}
WayFits m Tentative = Unit {0}
WayFits m (Initial value) = Unit {0}

abbrev WaysFit : Source → List Declaration → Type 0
WaysFit m [] = Unit {0}
WaysFit m (d ∷ ds) = WayFits m d.way × WaysFit m ds

ways_both : (m : Source) (xs ys : List Declaration) → WaysFit m xs → WaysFit m ys → WaysFit m (xs ++ ys)
ways_both m [] ys h g = g
ways_both m (x ∷ xs) ys h g = (h.0, ways_both m xs ys h.1 g)

ways_if : (m : Source) (b : Bool) (xs ys : List Declaration) → WaysFit m xs → WaysFit m ys → WaysFit m (if b then xs else ys)
ways_if m true xs ys h g = h
ways_if m false xs ys h g = g

declared_label : (m : Source) (way : Way) (number token : ℕ) (type : TypeTree) (means : Meant) → WayFits m way
    → WaysFit m (declares way (Some (record { number = number; token = token; type = type; means = means })))
declared_label m way number token type (Outer name) h = (h, tt)
declared_label m way number token type Nothing h = tt
declared_label m way number token type (Static n) h = tt
declared_label m way number token type (Auto n) h = tt
declared_label m way number token type (EnumValue value) h = tt
declared_label m way number token type (TypeName other) h = tt

declared_fits : (m : Source) (way : Way) (o : Option Label) → WayFits m way → WaysFit m (declares way o)
declared_fits m way None h = tt
declared_fits m way (Some label) h = declared_label m way label.number label.token label.type label.means h

if_way : (m : Source) (b : Bool) → WayFits m (if b then Only else Tentative)
if_way m true = tt
if_way m false = tt

way_fits : (m : Source) (extern : Bool) (type : TypeTree) (o : Option Typed) → WayFits m (way_of extern type o)
way_fits m extern type (Some value) = tt
way_fits m extern type None = if_way m (extern || is_function type)

declared_row : (m : Source) (extern : Bool) (parts : TypedRow) → WaysFit m (declared_by extern parts)
declared_row m extern none = tt
declared_row m extern (more t ts) =
    ways_both m
    (if is_declarator (kind_of_node t) then declares (way_of extern (label_type (name_label t)) (initialiser ts)) (name_label t) else [])
    (declared_by extern ts)
    (ways_if m (is_declarator (kind_of_node t)) (declares (way_of extern (label_type (name_label t)) (initialiser ts)) (name_label t)) []
    (declared_fits m (way_of extern (label_type (name_label t)) (initialiser ts)) (name_label t) (way_fits m extern (label_type (name_label t)) (initialiser ts))) tt)
    (declared_row m extern ts)

body_row : (m : Source) (item : Typed) (parts : TypedRow) → ItemIsSound m (definition_of item) → WaysFit m (declared_body item parts)
body_row m item none h = tt
body_row m item (more t ts) h =
    ways_if m (is_declarator (kind_of_node t)) (declares (Body item) (name_label t)) (declared_body item ts) (declared_fits m (Body item) (name_label t) h)
    (body_row m item ts h)

item_ways : (m : Source) (item : Typed) → FunctionIsSound m item → WaysFit m (declarations_in item)
item_ways m (node (kind.Declaration spec inits) label parts) h = declared_row m (is_extern (storage_of spec.words)) parts
item_ways m (node (kind.Function spec) label parts) h = body_row m (node (kind.Function spec) label parts) parts h
item_ways m (node k label parts) h = tt

items_ways : (m : Source) (items : TypedRow) → FunctionsAreSound m items → WaysFit m (declarations items)
items_ways m none h = tt
items_ways m (more item items) h = ways_both m (declarations_in item) (declarations items) (item_ways m item h.0) (items_ways m items h.1)

named_ways : (m : Source) (x : List ℕ) (ds : List Declaration) → WaysFit m ds → WaysFit m (declarations_of x ds)
named_ways m x [] h = tt
named_ways m x (d ∷ ds) h =
    ways_if m (same_name x d.name) (d ∷ declarations_of x ds) (declarations_of x ds) (h.0, named_ways m x ds h.1) (named_ways m x ds h.1)

-- SYMBOLS, whose code is sound

abbrev CodeFits : Source → SymbolKind → Type 0
CodeFits m (Code item) = ItemIsSound m (definition_of item)
CodeFits m DeclaredOnly = Unit {0}
CodeFits m Used = Unit {0}
CodeFits m (Data first) = Unit {0}
CodeFits m Common = Unit {0}

common_fits : (m : Source) (k : SymbolKind) → CodeFits m k → CodeFits m (or_common k)
common_fits m DeclaredOnly h = tt
common_fits m Used h = tt
common_fits m (Code item) h = h
common_fits m (Data first) h = tt
common_fits m Common h = tt

kind_by : (m : Source) (tags : Tags) (is_used : Bool) (name : List ℕ) (type : TypeTree) (way : Way) (ds : List Declaration) → WayFits m way
    → CodeFits m (kind_of tags is_used ds) → CodeFits m (kind_of tags is_used (record { name = name; type = type; way = way } ∷ ds))
kind_by m tags is_used name type Only ds w h = h
kind_by m tags is_used name type Tentative ds w h = common_fits m (kind_of tags is_used ds) h
kind_by m tags is_used name type (Initial value) ds w h = tt
kind_by m tags is_used name type (Body item) ds w h = w

if_kind : (m : Source) (b : Bool) → CodeFits m (if b then Used else DeclaredOnly)
if_kind m true = tt
if_kind m false = tt

kind_fits : (m : Source) (tags : Tags) (is_used : Bool) (ds : List Declaration) → WaysFit m ds → CodeFits m (kind_of tags is_used ds)
kind_fits m tags is_used [] h = if_kind m is_used
kind_fits m tags is_used (d ∷ ds) h = kind_by m tags is_used d.name d.type d.way ds h.0 (kind_fits m tags is_used ds h.1)

abbrev SymbolsFit : Source → List Symbol → Type 0
SymbolsFit m [] = Unit {0}
SymbolsFit m (s ∷ ss) = CodeFits m s.kind × SymbolsFit m ss

symbols_both : (m : Source) (xs ys : List Symbol) → SymbolsFit m xs → SymbolsFit m ys → SymbolsFit m (xs ++ ys)
symbols_both m [] ys h g = g
symbols_both m (x ∷ xs) ys h g = (h.0, symbols_both m xs ys h.1 g)

symbols_if : (m : Source) (b : Bool) (xs ys : List Symbol) → SymbolsFit m xs → SymbolsFit m ys → SymbolsFit m (if b then xs else ys)
symbols_if m true xs ys h g = h
symbols_if m false xs ys h g = g

symbols_kept : (m : Source) (ss : List Symbol) → SymbolsFit m ss → SymbolsFit m (filter is_symbol ss)
symbols_kept m [] h = tt
symbols_kept m (s ∷ ss) h =
    symbols_if m (is_symbol s) (s ∷ filter is_symbol ss) (filter is_symbol ss) (h.0, symbols_kept m ss h.1) (symbols_kept m ss h.1)

outer_fit : (m : Source) (names : List (List ℕ)) → FunctionsAreSound m m.items → SymbolsFit m (map (symbol_of m) names)
outer_fit m [] h = tt
outer_fit m (x ∷ xs) h = (
  kind_fits m m.tags (is_among (uses_in_row m.items) x) (declarations_of x (declarations m.items)) (named_ways m x (declarations m.items) (items_ways m m.items h)),
  outer_fit m xs h,
)

local_fits : (m : Source) (first : Option (Result (List Write) BrokenItem)) → CodeFits m (local_kind first)
local_fits m None = tt
local_fits m (Some first) = tt

local_fit : (m : Source) (objects : List LocalObject) → SymbolsFit m (map local_symbol objects)
local_fit m [] = tt
local_fit m (o ∷ objects) = (local_fits m o.first, local_fit m objects)

symbols_fit : (m : Source) → FunctionsAreSound m m.items → SymbolsFit m (symbols m)
symbols_fit m h =
    symbols_both m (filter is_symbol (map (symbol_of m) (symbol_names m))) (map local_symbol (local_objects_in m.tags false m.items))
    (symbols_kept m (map (symbol_of m) (symbol_names m)) (outer_fit m (symbol_names m) h))
    (local_fit m (local_objects_in m.tags false m.items))

-- CODE

items_both : (m : Source) (xs ys : List Typed) → ItemsAreSound m xs → ItemsAreSound m ys → ItemsAreSound m (xs ++ ys)
items_both m [] ys h g = g
items_both m (x ∷ xs) ys h g = (h.0, items_both m xs ys h.1 g)

code_sound : (m : Source) (k : SymbolKind) → CodeFits m k → ItemsAreSound m (code_of k)
code_sound m (Code item) h = (h, tt)
code_sound m DeclaredOnly h = tt
code_sound m Used h = tt
code_sound m (Data first) h = tt
code_sound m Common h = tt

items_sound : (m : Source) (ss : List Symbol) → SymbolsFit m ss → ItemsAreSound m (code_items ss)
items_sound m [] h = tt
items_sound m (s ∷ ss) h = items_both m (code_of s.kind) (code_items ss) (code_sound m s.kind h.0) (items_sound m ss h.1)

pub code_items_are_sound : CodeItemsAreSound
code_items_are_sound m h = items_sound m (symbols m) (symbols_fit m h)
