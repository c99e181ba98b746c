-- What the module of a file of the form declares: each variable and `main` once, with its type.
use Rattle.std.proofs.Common.{◌≡◌, ℕ, ◌+◌, Bool, true, false, if◌then◌else◌, List, [], ◌∷◌, ◌++◌, map, Some, None, Option, refl, sym, ap, ◌∙◌, subst, append-nil, codes}
use Rattle.p9_first.specs.Types.{TypeTree, Int, Long}
use Rattle.p9_first.specs.Trees.{none, SyntaxRow, nodes_of}
use Rattle.p9_first.specs.Form.{same_name, is_among, is_variable_name, IsFile}
use Rattle.p9_first.specs.Typing.{Scope, texts_in, system_scope, scope_after}
use Rattle.p9_first.specs.Modules.{Declaration as Declared, Way, Only, Tentative, Initial, Body, declarations as declared_by, declarations_in, declarations_of, system_names}
use Rattle.p9_first.proofs.Labels.{typed_item, typed_items, source_items}
use Rattle.p9_form.specs.declared.file.Statement.{Statement}
use Rattle.p9_form.specs.declared.file.First.{First}
use Rattle.p9_form.specs.declared.file.First.TheVariants as first
use Rattle.p9_form.specs.declared.file.Declaration.{Declaration}
use Rattle.p9_form.specs.declared.file.File.{File}
use Rattle.p9_form.specs.Items.{declaration_tree, declaration_trees, declaration_size, declarations_size, main_tree, main_trees, main_size, items_of, source_of}
use Rattle.p9_first.specs.Joins.{Role, Declares, DefinesCode, DefinesData, DefinesCommon, Occurrence, main_type}
use Rattle.p9_straight.proofs.SourceLists.{Each, each_weaker, each_both, bool_cases, neither, neither_left, neither_right, same_is, same_self, true_not}
use Rattle.p9_straight.proofs.SourceForm.{AreNew, names_behind, FileForm}
use Rattle.p9_straight.proofs.SourceSymbols.{differs}
use Rattle.p9_straight.proofs.SourceTyped.{Thing, AVariable, AMain, main_thing, things, other_name, no_main}

-- What a declaration says of its name, before it is known whether the name is used

abbrev pub way_role : Way → Role
way_role Only = Declares
way_role Tentative = DefinesCommon
way_role (Initial value) = DefinesData
way_role (Body item) = DefinesCode

abbrev pub brief : Declared → Occurrence
brief d = record { name = d.name; type = Some d.type; role = way_role d.way }

abbrev pub number_type : (is_long : Bool) → TypeTree
number_type is_long = if is_long then Long else Int

abbrev pub first_role : First → Role
first_role first.Extern = Declares
first_role first.Zero = DefinesCommon
first_role (first.Number value) = DefinesData

abbrev pub variable_brief : Declaration → Occurrence
variable_brief d = record { name = d.name; type = Some (number_type d.is_long); role = first_role d.first }

abbrev pub main_brief : Occurrence
main_brief = record { name = codes "main"; type = Some main_type; role = DefinesCode }

abbrev pub thing_brief : Thing → Occurrence
thing_brief (AVariable d) = variable_brief d
thing_brief (AMain ss) = main_brief

abbrev plain : List ℕ → Bool → First → Declaration
plain x l f = record { name = x; is_long = l; first = f }

brief_one : (scope : Scope) (k n a : ℕ) (x : List ℕ) (l : Bool) (f : First) (rest : List Declared)
    → map brief (declarations_in (typed_item scope k n (declaration_tree a (plain x l f))) ++ rest) ≡ variable_brief (plain x l f) ∷ map brief rest
brief_one scope k n a x true first.Extern rest = refl
brief_one scope k n a x false first.Extern rest = refl
brief_one scope k n a x true first.Zero rest = refl
brief_one scope k n a x false first.Zero rest = refl
brief_one scope k n a x true (first.Number value) rest = refl
brief_one scope k n a x false (first.Number value) rest = refl

briefs_all : (scope : Scope) (k n a : ℕ) (ds : List Declaration) (others : SyntaxRow) (ts : List Thing)
    → ((scope : Scope) (k n : ℕ) → map brief (declared_by (typed_items scope k n others)) ≡ map thing_brief ts)
    → map brief (declared_by (typed_items scope k n (declaration_trees a ds others))) ≡ map thing_brief (map AVariable ds ++ ts)
briefs_all scope k n a [] others ts h = h scope k n
briefs_all scope k n a (d ∷ ds) others ts h =
    let t : SyntaxRow = declaration_trees (a + declaration_size d.first) ds others in
    brief_one scope k n a d.name d.is_long d.first
    (declared_by (typed_items (scope_after (declaration_tree a d) scope) (k + texts_in (declaration_tree a d)) (n + nodes_of (declaration_tree a d)) t))
    ∙ ap (λ l. variable_brief d ∷ l)
    (briefs_all (scope_after (declaration_tree a d) scope) (k + texts_in (declaration_tree a d)) (n + nodes_of (declaration_tree a d)) (a + declaration_size d.first) ds others ts h)

briefs_after : (scope : Scope) (k n a : ℕ) (after : List Declaration) → map brief (declared_by (typed_items scope k n (declaration_trees a after none))) ≡ map thing_brief (map AVariable after)
briefs_after scope k n a after =
    briefs_all scope k n a after none [] (λ scope' i m. refl)
    ∙ ap (map thing_brief) (append-nil (map AVariable after))

briefs_main : (scope : Scope) (k n a : ℕ) (main : Option (List Statement)) (after : List Declaration)
    → map brief (declared_by (typed_items scope k n (main_trees a main after))) ≡ map thing_brief (main_thing main (map AVariable after))
briefs_main scope k n a None after = briefs_after scope k n a after
briefs_main scope k n a (Some ss) after =
    ap (λ l. main_brief ∷ l) (briefs_after (scope_after (main_tree a ss) scope) (k + texts_in (main_tree a ss)) (n + nodes_of (main_tree a ss)) (a + main_size ss) after)

abbrev pub declared_in : File → List Declared
declared_in file = declared_by (source_of file).items

pub file_briefs : (file : File) → IsFile (items_of file) → map brief (declared_in file) ≡ map thing_brief (things file)
file_briefs file h =
    ap (λ items. map brief (declared_by items)) (source_items (items_of file) h)
    ∙ briefs_all system_scope 0 0 0 file.before (main_trees (declarations_size file.before) file.main file.after) (main_thing file.main (map AVariable file.after))
    (λ scope i n. briefs_main scope i n (declarations_size file.before) file.main file.after)

-- Names are declared once

same_turned : (x y : List ℕ) → same_name x y ≡ false → same_name y x ≡ false
same_turned x y h =
    bool_cases (same_name y x)
    (λ e. true_not (same_name x x) (same_self x) (subst (λ z. same_name x z ≡ false) (same_is y x e) h))
    (λ e. e)

-- each name is new
abbrev AreFresh : List (List ℕ) → List Occurrence → Type 0
AreFresh known [] = Unit {0}
AreFresh known (o ∷ os) = (is_among known o.name ≡ false) × AreFresh (o.name ∷ known) os

abbrev briefs : List Thing → List Occurrence
briefs ts = map thing_brief ts

-- variables that aren't among the names aren't known
abbrev Covers : (names known : List (List ℕ)) → Type 0
Covers names known = (x : List ℕ) → is_variable_name x ≡ true → is_among names x ≡ false → is_among known x ≡ false

covers_more : (names known : List (List ℕ)) (y : List ℕ) → Covers names known → Covers (y ∷ names) (y ∷ known)
covers_more names known y c x v h =
    neither (same_name x y) (is_among known x) (neither_left (same_name x y) (is_among names x) h)
    (c x v (neither_right (same_name x y) (is_among names x) h))

covers_main : (names known : List (List ℕ)) → Covers names known → Covers names (codes "main" ∷ known)
covers_main names known c x v h = neither (same_name x (codes "main")) (is_among known x) (differs x (codes "main") v no_main) (c x v h)

system_covered : Covers [] system_names
system_covered x v h =
    neither (same_name x (codes "exits")) _ (differs x (codes "exits") v refl)
    (neither (same_name x (codes "read")) _ (differs x (codes "read") v refl)
    (neither (same_name x (codes "write")) false (differs x (codes "write") v refl) refl))

abbrev Before : (names : List (List ℕ)) → List Thing → Type 0
Before names ts = (known : List (List ℕ)) → Covers names known → is_among known (codes "main") ≡ false → AreFresh known (briefs ts)

fresh_variables : (names known : List (List ℕ)) (ds : List Declaration) (ts : List Thing) → Covers names known → is_among known (codes "main") ≡ false → AreNew names ds
    → Before (names_behind names ds) ts → AreFresh known (briefs (map AVariable ds ++ ts))
fresh_variables names known [] ts c m w h = h known c m
fresh_variables names known (d ∷ ds) ts c m w h = (
  c d.name w.0 w.1,
  fresh_variables (d.name ∷ names) (d.name ∷ known) ds ts (covers_more names known d.name c)
      (neither (same_name (codes "main") d.name) (is_among known (codes "main")) (other_name (codes "main") d.name no_main w.0) m) w.3 h,
)

fresh_after : (names known : List (List ℕ)) (ds : List Declaration) → Covers names known → AreNew names ds → AreFresh known (briefs (map AVariable ds))
fresh_after names known [] c w = tt
fresh_after names known (d ∷ ds) c w = (c d.name w.0 w.1, fresh_after (d.name ∷ names) (d.name ∷ known) ds (covers_more names known d.name c) w.3)

fresh_main : (names known : List (List ℕ)) (main : Option (List Statement)) (after : List Declaration) → Covers names known → is_among known (codes "main") ≡ false → AreNew names after
    → AreFresh known (briefs (main_thing main (map AVariable after)))
fresh_main names known None after c m w = fresh_after names known after c w
fresh_main names known (Some ss) after c m w = (m, fresh_after names (codes "main" ∷ known) after (covers_main names known c) w)

fresh_things : (file : File) → FileForm file → AreFresh system_names (briefs (things file))
fresh_things file f =
    fresh_variables [] system_names file.before (main_thing file.main (map AVariable file.after)) system_covered refl f.before
    (λ known c m. fresh_main (names_behind [] file.before) known file.main file.after c m f.after)

-- so each declared name has one declaration

unknown : (known : List (List ℕ)) (ds : List Declared) → AreFresh known (map brief ds) → Each (λ d. is_among known d.name ≡ false) ds
unknown known [] h = tt
unknown known (d ∷ ds) h =
    (h.0, each_weaker (λ e. is_among (d.name ∷ known) e.name ≡ false) (λ e. is_among known e.name ≡ false) (λ e g. neither_right (same_name e.name d.name) (is_among known e.name) g) ds (unknown (d.name ∷ known) ds h.1))

filter_none : (x : List ℕ) (ds : List Declared) → Each (λ d. same_name x d.name ≡ false) ds → declarations_of x ds ≡ []
filter_none x [] h = refl
filter_none x (d ∷ ds) h = ap (λ b. if b then d ∷ declarations_of x ds else declarations_of x ds) h.0 ∙ filter_none x ds h.1

abbrev pub IsAlone : List Declared → Declared → Type 0
IsAlone ds d = declarations_of d.name ds ≡ d ∷ []

alone_behind : (d : Declared) (ds : List Declared) (e : Declared) → same_name e.name d.name ≡ false → IsAlone ds e → IsAlone (d ∷ ds) e
alone_behind d ds e h g = ap (λ b. if b then d ∷ declarations_of e.name ds else declarations_of e.name ds) h ∙ g

all_alone : (known : List (List ℕ)) (ds : List Declared) → AreFresh known (map brief ds) → Each (IsAlone ds) ds
all_alone known [] h = tt
all_alone known (d ∷ ds) h =
    let u = unknown (d.name ∷ known) ds h.1 in (
      ap (λ b. if b then d ∷ declarations_of d.name ds else declarations_of d.name ds) (same_self d.name)
          ∙ ap (λ l. d ∷ l) (filter_none d.name ds (each_weaker (λ e. is_among (d.name ∷ known) e.name ≡ false) (λ e. same_name d.name e.name ≡ false) (λ e g. same_turned e.name d.name (neither_left (same_name e.name d.name) (is_among known e.name) g)) ds u)),
      each_weaker (λ e. (is_among (d.name ∷ known) e.name ≡ false) × IsAlone ds e) (IsAlone (d ∷ ds)) (λ e g. alone_behind d ds e (neither_left (same_name e.name d.name) (is_among known e.name) g.0) g.1) ds
          (each_both (λ e. is_among (d.name ∷ known) e.name ≡ false) (IsAlone ds) ds u (all_alone (d.name ∷ known) ds h.1)),
    )

-- of a file: what is declared is declared once, and is no system call
pub record AreOnce (ds : List Declared) : Type 0 where
  pub alone : Each (IsAlone ds) ds
  pub new : Each (λ d. is_among system_names d.name ≡ false) ds

pub declared_once : (file : File) → IsFile (items_of file) → FileForm file → AreOnce (declared_in file)
declared_once file h f =
    let a : AreFresh system_names (map brief (declared_in file)) = subst (AreFresh system_names) (sym (file_briefs file h)) (fresh_things file f) in
    record { alone = all_alone system_names (declared_in file) a; new = unknown system_names (declared_in file) a }

-- a name that all declared ones differ from has no declaration
pub not_declared : (y : List ℕ) (ds : List Declared) → Each (λ d. same_name d.name y ≡ false) ds → declarations_of y ds ≡ []
not_declared y ds h = filter_none y ds (each_weaker (λ d. same_name d.name y ≡ false) (λ d. same_name y d.name ≡ false) (λ d g. same_turned d.name y g) ds h)
