-- Walks over items and their parts, one after the other.
use Rattle.std.proofs.Common.{◌≡◌, ℕ, Bool, true, false, ◌&&◌, List, [], ◌∷◌, ◌++◌, map, Option, Some, None, Result, Ok, MatchOption, subst, refl, sym, ap, ◌∙◌, append_assoc, append-nil}
use Rattle.std.proofs.lemmas.List.{map-append}
use Rattle.std.specs.Prelude.{if◌then◌else◌}
use Rattle.p9_lang.specs.declared.tree.Kind.{Kind}
use Rattle.p9_lang.specs.declared.tree.Kind.TheVariants as kind
use Rattle.p9_lang.specs.Trees.{node, none, more}
use Rattle.p9_lang.specs.Types.{TypeTree, Tags, Meant, Nothing, Outer, Static, Auto, EnumValue, TypeName}
use Rattle.p9_lang.specs.Parts.{is_declarator}
use Rattle.p9_lang.specs.Initialisers.{Write, Bytes, text_bytes, BrokenItem}
use Rattle.p9_lang.specs.Modules.{Label, Typed, TypedRow}
use Rattle.p9_lang.specs.Symbols.{Declaration, declarations_in, declarations, declared_by, declared_body, declares, way_of, label_type, name_label, initialiser, kind_of_node, Body, Symbol, LocalObject, local_symbol, local_objects_in, static_at, text_at, writes_of, is_declaration}
use Rattle.p9_lang.specs.declared.module.Module.{Module}
use Rattle.p9_nodes.specs.declared.nodes.TypedNode.{TypedNode}
use Rattle.p9_nodes.specs.declared.nodes.NodeRow.{NodeRow}
use Rattle.p9_nodes.specs.Nodes.{node_in, row_in}
use Rattle.p9_outline.specs.Summaries.{Summary, declare_all}
use Rattle.p9_outline.specs.Locals.{meant_object, object_of}
use Rattle.p9_outline.proofs.Telling.{declare_more}

-- DECLARATIONS

pub item_declared : (tags : Tags) (row others : TypedRow) (item : Typed) (old new all : List (List ℕ × Summary)) → row ≡ more item others
    → new ≡ declare_all tags old (declarations_in item) → declare_all tags old (declarations row) ≡ all → declare_all tags new (declarations others) ≡ all
item_declared tags row others item old new all e h g =
    ap (λ es. declare_all tags es (declarations others)) h ∙ sym (declare_more tags old (declarations_in item) (declarations others))
    ∙ ap (λ r. declare_all tags old (declarations r)) (sym e) ∙ g

pub items_declared : (tags : Tags) (row : TypedRow) (old all : List (List ℕ × Summary)) → row ≡ none → declare_all tags old (declarations row) ≡ all → old ≡ all
items_declared tags row old all e g = ap (λ r. declare_all tags old (declarations r)) (sym e) ∙ g

abbrev declared_first : Bool → TypedRow → Typed → List Declaration
declared_first external others t =
    if is_declarator (kind_of_node t) then declares (way_of external (label_type (name_label t)) (initialiser others)) (name_label t) else []

pub part_declared : (tags : Tags) (external : Bool) (row others : TypedRow) (t : Typed) (old new all : List (List ℕ × Summary)) → row ≡ more t others
    → new ≡ declare_all tags old (declared_first external others t)
    → declare_all tags old (declared_by external row) ≡ all → declare_all tags new (declared_by external others) ≡ all
part_declared tags external row others t old new all e h g =
    ap (λ es. declare_all tags es (declared_by external others)) h
    ∙ sym (declare_more tags old (declared_first external others t) (declared_by external others))
    ∙ ap (λ r. declare_all tags old (declared_by external r)) (sym e) ∙ g

pub parts_declared : (tags : Tags) (external : Bool) (row : TypedRow) (old all : List (List ℕ × Summary)) → row ≡ none
    → declare_all tags old (declared_by external row) ≡ all → old ≡ all
parts_declared tags external row old all e g = ap (λ r. declare_all tags old (declared_by external r)) (sym e) ∙ g

pub body_passed : (item t : Typed) (row others : TypedRow) (all : List Declaration) → row ≡ more t others → false ≡ is_declarator (kind_of_node t)
    → declared_body item row ≡ all → declared_body item others ≡ all
body_passed item t row others all e h g =
    ap (λ b. if b then declares (Body item) (name_label t) else declared_body item others) h ∙ ap (declared_body item) (sym e) ∙ g

pub body_found : (tags : Tags) (item t : Typed) (row others : TypedRow) (old new : List (List ℕ × Summary)) (all : List Declaration) → row ≡ more t others
    → true ≡ is_declarator (kind_of_node t) → declared_body item row ≡ all → new ≡ declare_all tags old (declares (Body item) (name_label t))
    → new ≡ declare_all tags old all
body_found tags item t row others old new all e h g f =
    f ∙ ap (declare_all tags old) (ap (λ b. if b then declares (Body item) (name_label t) else declared_body item others) h ∙ ap (declared_body item) (sym e) ∙ g)

pub no_body : (tags : Tags) (item : Typed) (row : TypedRow) (old : List (List ℕ × Summary)) (all : List Declaration) → row ≡ none
    → declared_body item row ≡ all → old ≡ declare_all tags old all
no_body tags item row old all e g = ap (declare_all tags old) (ap (declared_body item) (sym e) ∙ g)

-- TEXTS AND BLOCK STATICS

abbrev Contents : Type 0
Contents = Option (Result (List Write) BrokenItem)

static_by : (tags : Tags) (value : Option Typed) (number token : ℕ) (type : TypeTree) (means : Meant)
    → object_of (writes_of tags type value) type means ≡ static_at tags value (Some (record { number = number; token = token; type = type; means = means }))
static_by tags value number token type Nothing = refl
static_by tags value number token type (Outer name) = refl
static_by tags value number token type (Static n) = refl
static_by tags value number token type (Auto n) = refl
static_by tags value number token type (EnumValue n) = refl
static_by tags value number token type (TypeName other) = refl

pub static_meant : (tags : Tags) (value : Option Typed) (label : Label) (found : Option Label) → Some label ≡ found
    → meant_object (writes_of tags label.type value) label ≡ static_at tags value found
static_meant tags value label found e = static_by tags value label.number label.token label.type label.means ∙ ap (static_at tags value) e

-- what is put behind symbols
pub behind : (before after : List Symbol) (xs ys : List LocalObject) → after ≡ before ++ map local_symbol xs → xs ≡ ys → after ≡ before ++ map local_symbol ys
behind before after xs ys e h = e ∙ ap (λ l. before ++ map local_symbol l) h

abbrev pub first_text : TypeTree → List (List ℕ) → Contents
first_text type texts = Some (Ok (record { offset = 0; type = type; content = Bytes (text_bytes texts ++ 0 ∷ []) } ∷ []))

text_by : (texts : List (List ℕ)) (number token : ℕ) (type : TypeTree) (means : Meant)
    → object_of (first_text type texts) type means ≡ text_at (kind.Text texts) (record { number = number; token = token; type = type; means = means })
text_by texts number token type Nothing = refl
text_by texts number token type (Outer name) = refl
text_by texts number token type (Static n) = refl
text_by texts number token type (Auto n) = refl
text_by texts number token type (EnumValue n) = refl
text_by texts number token type (TypeName other) = refl

pub text_meant : (texts : List (List ℕ)) (label : Label) → meant_object (first_text label.type texts) label ≡ text_at (kind.Text texts) label
text_meant texts label = text_by texts label.number label.token label.type label.means

joined_locals : (before : List Symbol) (xs bs cs rest : List LocalObject)
    → ((before ++ map local_symbol xs) ++ map local_symbol bs) ++ map local_symbol cs ++ map local_symbol rest
    ≡ before ++ map local_symbol (xs ++ ((bs ++ cs) ++ rest))
joined_locals before xs bs cs rest = simp (map-append, append_assoc)

abbrev own_objects : Tags → Bool → Kind → Label → TypedRow → TypedRow → List LocalObject
own_objects tags declared k label parts others =
    if declared && is_declarator k then static_at tags (initialiser others) (name_label (node k label parts)) else []

pub locals_passed : (tags : Tags) (declared : Bool) (row others parts : TypedRow) (k : Kind) (label : Label) (s0 s1 s2 s3 all : List Symbol)
    → row ≡ more (node k label parts) others
    → s1 ≡ s0 ++ map local_symbol (own_objects tags declared k label parts others)
    → s2 ≡ s1 ++ map local_symbol (local_objects_in tags (is_declaration k) parts)
    → s3 ≡ s2 ++ map local_symbol (text_at k label)
    → s0 ++ map local_symbol (local_objects_in tags declared row) ≡ all
    → s3 ++ map local_symbol (local_objects_in tags declared others) ≡ all
locals_passed tags declared row others parts k label s0 s1 s2 s3 all e a b c g =
    let own = own_objects tags declared k label parts others in
    let inner = local_objects_in tags (is_declaration k) parts in
    let rest = local_objects_in tags declared others in
    ap (λ s. s ++ map local_symbol rest) (c ∙ ap (λ s. s ++ map local_symbol (text_at k label)) (b ∙ ap (λ s. s ++ map local_symbol inner) a))
    ∙ joined_locals s0 own inner (text_at k label) rest
    ∙ ap (λ r. s0 ++ map local_symbol (local_objects_in tags declared r)) (sym e)
    ∙ g

pub locals_over : (tags : Tags) (declared : Bool) (row : TypedRow) (old all : List Symbol) → row ≡ none
    → old ++ map local_symbol (local_objects_in tags declared row) ≡ all → old ≡ all
locals_over tags declared row old all e g =
    sym (append-nil old) ∙ ap (λ r. old ++ map local_symbol (local_objects_in tags declared r)) (sym e) ∙ g

-- nothing is split off
pub split_none : (m : Module) (row : NodeRow) (o : Option (TypedNode × NodeRow))
    → MatchOption o (row_in m row ≡ none) (λ q. row_in m row ≡ more (node_in m q.0) (row_in m q.1)) → o ≡ None → row_in m row ≡ none
split_none m row o h e = subst (λ x. MatchOption x (row_in m row ≡ none) (λ q. row_in m row ≡ more (node_in m q.0) (row_in m q.1))) e h
