-- The first contents of a module's symbols are sound, where its objects are whole.
use Rattle.std.proofs.Common.{◌≡◌, ◌≤◌, ℕ, suc, ◌+◌, ◌&&◌, ◌||◌, not, Bool, true, false, if◌then◌else◌, List, [], ◌∷◌, ◌++◌, map, length, length-append, Option, Some, None, Result, Ok, refl, sym, ap, subst, ◌∙◌, arith}
use Rattle.std.specs.List.{filter}
use Rattle.std.specs.Prelude.{sum}
use Rattle.std.proofs.lemmas.List.Sums.{sum-map}
use Rattle.std.proofs.lemmas.List.Concat.{length-flat_map}
use Rattle.p9_lang.specs.declared.tree.Kind.{Kind}
use Rattle.p9_lang.specs.declared.tree.Kind.TheVariants as kind
use Rattle.p9_lang.specs.Trees.{node, none, more}
use Rattle.p9_lang.specs.Types.{TypeTree, Char, Array, Tags, Meant, Nothing, Outer, Static, Auto, EnumValue, TypeName}
use Rattle.p9_lang.specs.Layout.{size_of, is_complete}
use Rattle.p9_lang.specs.TagRules.{NoneContainsItself}
use Rattle.p9_lang.specs.Names.{same_name, is_among}
use Rattle.p9_lang.specs.Parts.{is_declarator}
use Rattle.p9_lang.specs.Declarators.{storage_of, is_extern}
use Rattle.p9_lang.specs.Typing.{text_type}
use Rattle.p9_lang.specs.Scopes.{system_type}
use Rattle.p9_lang.specs.Conversions.{is_function}
use Rattle.p9_lang.specs.Initialisers.{Write, Bytes, text_bytes, BrokenItem, first_writes}
use Rattle.p9_lang.specs.Modules.{Label, Typed, TypedRow, Source}
use Rattle.p9_lang.specs.Symbols.{Declaration, Way, Only, Tentative, Initial, Body, kind_of_node, name_label, initialiser, declares, label_type, way_of, declared_by, declared_body, declarations_in, declarations, declarations_of, uses_in_row, LocalObject, text_at, writes_of, static_at, is_declaration, local_objects, local_objects_in, SymbolKind, DeclaredOnly, Used, Code, Data, Common, Symbol, or_common, kind_of, first_type, symbol_of, symbol_names, is_symbol, local_kind, local_symbol, symbols}
use Rattle.p9_tree.specs.Means.{first_of, data_symbols}
use Rattle.p9_lower.specs.Modules.{setting_of}
use Rattle.p9_lower.specs.Premises.{are_bytes, is_empty, lies_inside, first_is_sound, firsts_are_sound}
use Rattle.p9_firsts.specs.Whole.{BodiesAreFull, texts_have_bytes, row_has_bytes, names_are_found, row_is_found, node_is_found, text_has_bytes, TextIsWhole, TextsAreWhole, RowTextsAreWhole, DeclaredIsWhole, ObjectsAreWhole, RowIsWhole, FilledAs, DeclarationsAgree}
use Rattle.p9_firsts.specs.Laws.{ContentsAreSound}
use Rattle.p9_firsts.proofs.Fixing.{left_true, right_true}
use Rattle.p9_firsts.proofs.Entries.{both, at_most, bytes_and_zero, zero_is_there, first_writes_are_sound}

-- the length of a text's bytes
text_length : (texts : List (List ℕ)) → length (text_bytes texts) ≡ sum (map length texts)
text_length texts = length-flat_map (λ text. text) texts ∙ sym (sum-map length texts)

char_array : (tags : Tags) (n m : ℕ) → m ≡ suc n → size_of tags (Array Char m) ≡ suc n
char_array tags n m e = ap (λ k. size_of tags (Array Char k)) e ∙ omega arith

module _ (m : Source) (ends : NoneContainsItself m.tags) (full : BodiesAreFull m.tags) where
  -- what an initialiser gives an object of this type
  record IsWhole (type : TypeTree) (value : Typed) : Type 0 where
    complete : is_complete m.tags type ≡ true
    bytes : texts_have_bytes value ≡ true
    names : names_are_found (setting_of m) value ≡ true

  whole_first : (type : TypeTree) (value : Typed) → IsWhole type value → first_is_sound (setting_of m) (size_of m.tags type) (first_writes m.tags type value) ≡ true
  whole_first type value w = first_writes_are_sound (setting_of m) type value ends full w.complete w.bytes w.names

  -- DECLARATIONS

  abbrev IsDeclaredWhole : Declaration → Type 0
  IsDeclaredWhole d = (value : Typed) → d.way ≡ Initial value → IsWhole d.type value

  abbrev AreDeclaredWhole : List Declaration → Type 0
  AreDeclaredWhole [] = Unit {0}
  AreDeclaredWhole (d ∷ ds) = IsDeclaredWhole d × AreDeclaredWhole ds

  declared_append : (xs ys : List Declaration) → AreDeclaredWhole xs → AreDeclaredWhole ys → AreDeclaredWhole (xs ++ ys)
  declared_append [] ys h g = g
  declared_append (x ∷ xs) ys h g = (h.0, declared_append xs ys h.1 g)

  declared_filter : (p : Declaration → Bool) (ds : List Declaration) → AreDeclaredWhole ds → AreDeclaredWhole (filter p ds)
  declared_filter p [] h = tt
  declared_filter p (d ∷ ds) h = by (p d) (declared_filter p ds h.1)
    where
      by : (b : Bool) → AreDeclaredWhole (filter p ds) → AreDeclaredWhole (if b then d ∷ filter p ds else filter p ds)
      by true g = (h.0, g)
      by false g = g

  declares_whole : (way : Way) (number token : ℕ) (type : TypeTree) (means : Meant) → ((value : Typed) → way ≡ Initial value → IsWhole type value)
      → AreDeclaredWhole (declares way (Some (record { number = number; token = token; type = type; means = means })))
  declares_whole way number token type (Outer name) h = (h, tt)
  declares_whole way number token type Nothing h = tt
  declares_whole way number token type (Static k) h = tt
  declares_whole way number token type (Auto k) h = tt
  declares_whole way number token type (EnumValue value) h = tt
  declares_whole way number token type (TypeName other) h = tt

  named_whole : (way : Way) (label : Option Label) → ((l : Label) → label ≡ Some l → (value : Typed) → way ≡ Initial value → IsWhole l.type value)
      → AreDeclaredWhole (declares way label)
  named_whole way None h = tt
  named_whole way (Some label) h = declares_whole way label.number label.token label.type label.means (h label refl)

  initial_way : (extern : Bool) (type : TypeTree) (o : Option Typed) (value : Typed) → way_of extern type o ≡ Initial value → o ≡ Some value
  initial_way extern type (Some v) value e = cc
  initial_way extern type None value e = by (extern || is_function type) e
    where
      by : (b : Bool) → (if b then Only else Tentative) ≡ Initial value → None ≡ Some value
      by true k = cc
      by false k = cc

  -- an initialiser is the next part
  next_part : (ts : TypedRow) (value : Typed) → initialiser ts ≡ Some value → row_has_bytes ts ≡ true → row_is_found (setting_of m) ts ≡ true
      → (texts_have_bytes value ≡ true) × (names_are_found (setting_of m) value ≡ true)
  next_part none value e b g = cc
  next_part (more t ts) value e b g = by (is_declarator (kind_of_node t)) e
    where
      by : (is_one : Bool) → (if is_one then None else Some t) ≡ Some value
          → (texts_have_bytes value ≡ true) × (names_are_found (setting_of m) value ≡ true)
      by true k = cc
      by false k =
          let z : t ≡ value = cc in
          subst (λ v. (texts_have_bytes v ≡ true) × (names_are_found (setting_of m) v ≡ true)) z
          (left_true (texts_have_bytes t) (row_has_bytes ts) b, left_true (names_are_found (setting_of m) t) (row_is_found (setting_of m) ts) g)

  complete_by : (o : Option Typed) (label : Option Label) (value : Typed) (l : Label) → o ≡ Some value → label ≡ Some l → DeclaredIsWhole m.tags o label
      → is_complete m.tags l.type ≡ true
  complete_by None label value l e k h = cc
  complete_by (Some v) None value l e k h = cc
  complete_by (Some v) (Some label) value l e k h =
      let z : label ≡ l = cc in subst (λ x. is_complete m.tags x.type ≡ true) z h

  -- what a declarator with its initialiser declares
  initial_whole : (t : Typed) (ts : TypedRow) → row_has_bytes ts ≡ true → row_is_found (setting_of m) ts ≡ true
      → DeclaredIsWhole m.tags (initialiser ts) (name_label t) → (l : Label) → name_label t ≡ Some l → (value : Typed) → initialiser ts ≡ Some value
      → IsWhole l.type value
  initial_whole t ts b g d l e value k =
      let p = next_part ts value k b g in
      record { complete = complete_by (initialiser ts) (name_label t) value l k e d; bytes = p.0; names = p.1 }

  declared_row : (extern : Bool) (ts : TypedRow) → RowIsWhole m.tags true ts → row_has_bytes ts ≡ true → row_is_found (setting_of m) ts ≡ true
      → AreDeclaredWhole (declared_by extern ts)
  declared_row extern none h b g = tt
  declared_row extern (more t ts) h b g =
      declared_append _ (declared_by extern ts) (by (is_declarator (kind_of_node t)) refl)
      (declared_row extern ts h.1.1 bytes names)
    where
      bytes : row_has_bytes ts ≡ true
      bytes = right_true (texts_have_bytes t) (row_has_bytes ts) b

      names : row_is_found (setting_of m) ts ≡ true
      names = right_true (names_are_found (setting_of m) t) (row_is_found (setting_of m) ts) g

      by : (is_one : Bool) → is_declarator (kind_of_node t) ≡ is_one
          → AreDeclaredWhole (if is_one then declares (way_of extern (label_type (name_label t)) (initialiser ts)) (name_label t) else [])
      by true e =
          named_whole (way_of extern (label_type (name_label t)) (initialiser ts)) (name_label t)
          (λ l k value w. initial_whole t ts bytes names (h.0 e) l k value (initial_way extern (label_type (name_label t)) (initialiser ts) value w))
      by false e = tt

  body_row : (item : Typed) (ts : TypedRow) → AreDeclaredWhole (declared_body item ts)
  body_row item none = tt
  body_row item (more t ts) = by (is_declarator (kind_of_node t)) (body_row item ts)
    where
      by : (is_one : Bool) → AreDeclaredWhole (declared_body item ts)
          → AreDeclaredWhole (if is_one then declares (Body item) (name_label t) else declared_body item ts)
      by true others = named_whole (Body item) (name_label t) (λ l k value w. cc)
      by false others = others

  item_whole : (item : Typed) → ObjectsAreWhole m.tags item → texts_have_bytes item ≡ true → names_are_found (setting_of m) item ≡ true
      → AreDeclaredWhole (declarations_in item)
  item_whole (node (kind.Declaration spec inits) label parts) h b g = declared_row (is_extern (storage_of spec.words)) parts h b g
  item_whole (node (kind.Function spec) label parts) h b g = body_row (node (kind.Function spec) label parts) parts
  item_whole (node _ label parts) h b g = tt

  items_whole : (are_declared : Bool) (items : TypedRow) → RowIsWhole m.tags are_declared items → row_has_bytes items ≡ true
      → row_is_found (setting_of m) items ≡ true → AreDeclaredWhole (declarations items)
  items_whole are_declared none h b g = tt
  items_whole are_declared (more item items) h b g =
      declared_append (declarations_in item) (declarations items)
      (item_whole item h.1.0 (left_true (texts_have_bytes item) (row_has_bytes items) b)
      (left_true (names_are_found (setting_of m) item) (row_is_found (setting_of m) items) g))
      (items_whole are_declared items h.1.1 (right_true (texts_have_bytes item) (row_has_bytes items) b)
      (right_true (names_are_found (setting_of m) item) (row_is_found (setting_of m) items) g))

  -- SYMBOLS OF FILE SCOPE

  abbrev SymbolIsSound : Symbol → Type 0
  SymbolIsSound s = (first : Result (List Write) BrokenItem) → s.kind ≡ Data first → first_is_sound (setting_of m) (size_of m.tags s.type) first ≡ true

  abbrev AreSound : List Symbol → Type 0
  AreSound [] = Unit {0}
  AreSound (s ∷ ss) = SymbolIsSound s × AreSound ss

  common_data : (k : SymbolKind) (first : Result (List Write) BrokenItem) → or_common k ≡ Data first → k ≡ Data first
  common_data DeclaredOnly first e = cc
  common_data Used first e = cc
  common_data (Code item) first e = cc
  common_data (Data f) first e = e
  common_data Common first e = cc

  abbrev GivesSound : (type : TypeTree) → SymbolKind → Type 0
  GivesSound type k = (first : Result (List Write) BrokenItem) → k ≡ Data first → first_is_sound (setting_of m) (size_of m.tags type) first ≡ true

  way_sound : (is_used : Bool) (type : TypeTree) (name : List ℕ) (own : TypeTree) (way : Way) (ds : List Declaration)
      → ((value : Typed) → way ≡ Initial value → own ≡ type) → ((value : Typed) → way ≡ Initial value → IsWhole own value)
      → GivesSound type (kind_of m.tags is_used ds) → GivesSound type (kind_of m.tags is_used (record { name = name; type = own; way = way } ∷ ds))
  way_sound is_used type name own Only ds a w others first e = others first e
  way_sound is_used type name own Tentative ds a w others first e = others first (common_data (kind_of m.tags is_used ds) first e)
  way_sound is_used type name own (Initial value) ds a w others first e =
      let z : first_writes m.tags own value ≡ first = cc in
      subst (λ t. first_is_sound (setting_of m) (size_of m.tags t) first ≡ true) (a value refl)
      (subst (λ f. first_is_sound (setting_of m) (size_of m.tags own) f ≡ true) z (whole_first own value (w value refl)))
  way_sound is_used type name own (Body item) ds a w others first e = cc

  kind_sound : (is_used : Bool) (type : TypeTree) (ds : List Declaration) → FilledAs type ds → AreDeclaredWhole ds → GivesSound type (kind_of m.tags is_used ds)
  kind_sound is_used type [] a w first e = by is_used e
    where
      by : (b : Bool) → (if b then Used else DeclaredOnly) ≡ Data first → first_is_sound (setting_of m) (size_of m.tags type) first ≡ true
      by true k = cc
      by false k = cc
  kind_sound is_used type (d ∷ ds) a w first e = way_sound is_used type d.name d.type d.way ds a.0 w.0 (kind_sound is_used type ds a.1 w.1) first e

  names_sound : DeclarationsAgree m → AreDeclaredWhole (declarations m.items) → (xs : List (List ℕ)) → AreSound (map (symbol_of m) xs)
  names_sound agree w [] = tt
  names_sound agree w (x ∷ xs) = (
    kind_sound (is_among (uses_in_row m.items) x) (first_type (system_type x) (declarations_of x (declarations m.items)))
        (declarations_of x (declarations m.items)) (agree x) (declared_filter (λ d. same_name x d.name) (declarations m.items) w),
    names_sound agree w xs,
  )

  sound_append : (xs ys : List Symbol) → AreSound xs → AreSound ys → AreSound (xs ++ ys)
  sound_append [] ys h g = g
  sound_append (x ∷ xs) ys h g = (h.0, sound_append xs ys h.1 g)

  sound_filter : (p : Symbol → Bool) (ss : List Symbol) → AreSound ss → AreSound (filter p ss)
  sound_filter p [] h = tt
  sound_filter p (s ∷ ss) h = by (p s) (sound_filter p ss h.1)
    where
      by : (b : Bool) → AreSound (filter p ss) → AreSound (if b then s ∷ filter p ss else filter p ss)
      by true g = (h.0, g)
      by false g = g

  -- TEXTS AND BLOCK STATICS

  abbrev ObjectIsSound : LocalObject → Type 0
  ObjectIsSound o =
      (first : Result (List Write) BrokenItem) → o.first ≡ Some first → first_is_sound (setting_of m) (size_of m.tags o.type) first ≡ true

  abbrev ObjectsAreSound : List LocalObject → Type 0
  ObjectsAreSound [] = Unit {0}
  ObjectsAreSound (o ∷ os) = ObjectIsSound o × ObjectsAreSound os

  objects_append : (xs ys : List LocalObject) → ObjectsAreSound xs → ObjectsAreSound ys → ObjectsAreSound (xs ++ ys)
  objects_append [] ys h g = g
  objects_append (x ∷ xs) ys h g = (h.0, objects_append xs ys h.1 g)

  local_data : (o : Option (Result (List Write) BrokenItem)) (first : Result (List Write) BrokenItem) → local_kind o ≡ Data first → o ≡ Some first
  local_data None first e = cc
  local_data (Some f) first e = cc

  locals_sound : (os : List LocalObject) → ObjectsAreSound os → AreSound (map local_symbol os)
  locals_sound [] h = tt
  locals_sound (o ∷ os) h = (λ first e. h.0 first (local_data o.first first e), locals_sound os h.1)

  text_first : (texts : List (List ℕ)) (type : TypeTree) → type ≡ text_type texts → are_bytes (text_bytes texts) ≡ true
      → first_is_sound (setting_of m) (size_of m.tags type) (Ok (record { offset = 0; type = type; content = Bytes (text_bytes texts ++ 0 ∷ []) } ∷ [])) ≡ true
  text_first texts type e b =
      let l = length-append (text_bytes texts) (0 ∷ []) in
      let n = text_length texts in
      let k : length (text_bytes texts ++ 0 ∷ []) ≡ suc (sum (map length texts)) = omega arith in
      let c : sum (map length texts) + 1 ≡ suc (sum (map length texts)) = omega arith in
      let s : size_of m.tags type ≡ suc (sum (map length texts)) = ap (λ t. size_of m.tags t) e ∙ char_array m.tags (sum (map length texts)) (sum (map length texts) + 1) c in
      both (are_bytes (text_bytes texts ++ 0 ∷ []) && (not (is_empty (text_bytes texts ++ 0 ∷ [])) && lies_inside (size_of m.tags type) 0 (length (text_bytes texts ++ 0 ∷ [])))) true
      (both (are_bytes (text_bytes texts ++ 0 ∷ [])) (not (is_empty (text_bytes texts ++ 0 ∷ [])) && lies_inside (size_of m.tags type) 0 (length (text_bytes texts ++ 0 ∷ [])))
      (bytes_and_zero (text_bytes texts) b)
      (both (not (is_empty (text_bytes texts ++ 0 ∷ []))) (lies_inside (size_of m.tags type) 0 (length (text_bytes texts ++ 0 ∷ []))) (zero_is_there (text_bytes texts))
      (at_most (0 + length (text_bytes texts ++ 0 ∷ [])) (size_of m.tags type) (fits (length (text_bytes texts ++ 0 ∷ [])) (size_of m.tags type) (suc (sum (map length texts))) k s))))
      refl
    where
      fits : (n size all : ℕ) → n ≡ all → size ≡ all → 0 + n ≤ size
      fits n size all a b = omega arith

  text_sound : (texts : List (List ℕ)) (number token : ℕ) (type : TypeTree) (means : Meant) → type ≡ text_type texts → are_bytes (text_bytes texts) ≡ true
      → ObjectsAreSound (text_at (kind.Text texts) (record { number = number; token = token; type = type; means = means }))
  text_sound texts number token type (Static k) e b = (
    λ first z. let y : Ok (record { offset = 0; type = type; content = Bytes (text_bytes texts ++ 0 ∷ []) } ∷ []) ≡ first = cc in
        subst (λ f. first_is_sound (setting_of m) (size_of m.tags type) f ≡ true) y (text_first texts type e b),
    tt,
  )
  text_sound texts number token type Nothing e b = tt
  text_sound texts number token type (Outer name) e b = tt
  text_sound texts number token type (Auto k) e b = tt
  text_sound texts number token type (EnumValue value) e b = tt
  text_sound texts number token type (TypeName other) e b = tt

  node_sound : (k : Kind) (label : Label) → TextIsWhole k label.type → text_has_bytes k ≡ true → ObjectsAreSound (text_at k label)
  node_sound (kind.Text texts) label w b = text_sound texts label.number label.token label.type label.means w b
  node_sound _ label w b = tt

  given_sound : (type : TypeTree) (value : Option Typed) → ((v : Typed) → value ≡ Some v → IsWhole type v) → (first : Result (List Write) BrokenItem)
      → writes_of m.tags type value ≡ Some first → first_is_sound (setting_of m) (size_of m.tags type) first ≡ true
  given_sound type None w first e = cc
  given_sound type (Some v) w first e =
      let z : first_writes m.tags type v ≡ first = cc in
      subst (λ f. first_is_sound (setting_of m) (size_of m.tags type) f ≡ true) z (whole_first type v (w v refl))

  static_sound : (value : Option Typed) (number token : ℕ) (type : TypeTree) (means : Meant) → ((v : Typed) → value ≡ Some v → IsWhole type v)
      → ObjectsAreSound (static_at m.tags value (Some (record { number = number; token = token; type = type; means = means })))
  static_sound value number token type (Static k) w = (given_sound type value w, tt)
  static_sound value number token type Nothing w = tt
  static_sound value number token type (Outer name) w = tt
  static_sound value number token type (Auto k) w = tt
  static_sound value number token type (EnumValue v) w = tt
  static_sound value number token type (TypeName other) w = tt

  named_sound : (value : Option Typed) (label : Option Label) → ((l : Label) → label ≡ Some l → (v : Typed) → value ≡ Some v → IsWhole l.type v)
      → ObjectsAreSound (static_at m.tags value label)
  named_sound value None w = tt
  named_sound value (Some label) w = static_sound value label.number label.token label.type label.means (w label refl)

  one_sound : (are_declared : Bool) (t : Typed) (ts : TypedRow) → RowIsWhole m.tags are_declared (more t ts) → row_has_bytes ts ≡ true
      → row_is_found (setting_of m) ts ≡ true
      → ObjectsAreSound (if are_declared && is_declarator (kind_of_node t) then static_at m.tags (initialiser ts) (name_label t) else [])
  one_sound are_declared t ts h b g = by (are_declared && is_declarator (kind_of_node t)) refl
    where
      by : (is_one : Bool) → (are_declared && is_declarator (kind_of_node t)) ≡ is_one
          → ObjectsAreSound (if is_one then static_at m.tags (initialiser ts) (name_label t) else [])
      by true e = named_sound (initialiser ts) (name_label t) (λ l k v w. initial_whole t ts b g (h.0 e) l k v w)
      by false e = tt

  mutual
    objects_sound : (t : Typed) → TextsAreWhole t → ObjectsAreWhole m.tags t → texts_have_bytes t ≡ true → names_are_found (setting_of m) t ≡ true
        → ObjectsAreSound (local_objects m.tags t)
    objects_sound (node k label parts) w h b g =
        objects_append (local_objects_in m.tags (is_declaration k) parts) (text_at k label)
        (row_sound (is_declaration k) parts w.1 h (right_true (text_has_bytes k) (row_has_bytes parts) b)
        (right_true (node_is_found (setting_of m) k label.means) (row_is_found (setting_of m) parts) g))
        (node_sound k label w.0 (left_true (text_has_bytes k) (row_has_bytes parts) b))

    row_sound : (are_declared : Bool) (ts : TypedRow) → RowTextsAreWhole ts → RowIsWhole m.tags are_declared ts → row_has_bytes ts ≡ true → row_is_found (setting_of m) ts ≡ true
        → ObjectsAreSound (local_objects_in m.tags are_declared ts)
    row_sound are_declared none w h b g = tt
    row_sound are_declared (more t ts) w h b g =
        objects_append _ _ (one_sound are_declared t ts h (right_true (texts_have_bytes t) (row_has_bytes ts) b)
        (right_true (names_are_found (setting_of m) t) (row_is_found (setting_of m) ts) g))
        (objects_append (local_objects m.tags t) (local_objects_in m.tags are_declared ts)
        (objects_sound t w.0 h.1.0 (left_true (texts_have_bytes t) (row_has_bytes ts) b) (left_true (names_are_found (setting_of m) t) (row_is_found (setting_of m) ts) g))
        (row_sound are_declared ts w.1 h.1.1 (right_true (texts_have_bytes t) (row_has_bytes ts) b)
        (right_true (names_are_found (setting_of m) t) (row_is_found (setting_of m) ts) g)))

  -- ALL SYMBOLS

  firsts_sound : (ss : List Symbol) → AreSound ss → firsts_are_sound (setting_of m) (data_symbols ss) ≡ true
  firsts_sound [] h = refl
  firsts_sound (s ∷ ss) h = by s.kind refl (firsts_sound ss h.1)
    where
      by : (k : SymbolKind) → s.kind ≡ k → firsts_are_sound (setting_of m) (data_symbols ss) ≡ true
          → firsts_are_sound (setting_of m) (map (λ first. record { symbol = s; first = first }) (first_of k) ++ data_symbols ss) ≡ true
      by DeclaredOnly e g = g
      by Used e g = g
      by (Code item) e g = g
      by (Data f) e g =
          both (first_is_sound (setting_of m) (size_of m.tags s.type) f) (firsts_are_sound (setting_of m) (data_symbols ss)) (h.0 f e) g
      by Common e g = g

pub contents_are_sound : ContentsAreSound
contents_are_sound m ends full texts whole agree b g =
    firsts_sound m ends full (symbols m)
    (sound_append m ends full (filter is_symbol (map (symbol_of m) (symbol_names m))) (map local_symbol (local_objects_in m.tags false m.items))
    (sound_filter m ends full is_symbol (map (symbol_of m) (symbol_names m))
    (names_sound m ends full agree (items_whole m ends full false m.items whole b g) (symbol_names m)))
    (locals_sound m ends full (local_objects_in m.tags false m.items) (row_sound m ends full false m.items texts whole b g)))
