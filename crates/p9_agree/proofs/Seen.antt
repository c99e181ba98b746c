-- How names occur in the C module of a file of the form: system calls, variables, and `main`.
use Rattle.std.proofs.Common.{◌≡◌, ◌⊎◌, inl, inr, ℕ, Bool, true, false, not, if◌then◌else◌, List, [], ◌∷◌, ◌++◌, map, filter, Some, None, Option, Contains, refl, sym, ap, ◌∙◌, subst, codes}
use Rattle.p9_first.specs.Types.{TypeTree}
use Rattle.p9_first.specs.Form.{same_name, is_among, is_variable_name, IsFile}
use Rattle.p9_first.specs.Modules.{Declaration as Declared, Way, Only, Tentative, Initial, Body, declarations_of, Symbol, kind_of, system_names, system_type, first_type, symbol_of, symbol_names, new_names, declared_names, uses_in_row, texts_of_row, text_symbol, symbols}
use Rattle.p9_form.specs.declared.file.Statement.{Statement}
use Rattle.p9_form.specs.declared.file.Declaration.{Declaration}
use Rattle.p9_form.specs.declared.file.File.{File}
use Rattle.p9_form.specs.Items.{items_of, source_of}
use Rattle.p9_form.specs.Sharing.{declarations, statements}
use Rattle.p9_share.specs.Symbols.{used_names}
use Rattle.p9_share.proofs.Within.{Within, within_left, within_right, within_map, from_map, within_append, within_step, within_none, within_next, get_at}
use Rattle.p9_first.specs.Joins.{Role, Declares, Uses, Occurrence, occurrence, role_of, shared}
use Rattle.p9_straight.proofs.SourceLists.{Each, each_weaker, each_at, neither, neither_left, neither_right, same_is, true_not}
use Rattle.p9_straight.proofs.SourceForm.{file_form, AreNew}
use Rattle.p9_straight.proofs.SourceTyped.{Thing, AVariable, AMain, main_thing, things}
use Rattle.p9_agree.proofs.Uses.{file_uses, used_same}
use Rattle.p9_agree.proofs.Declared.{way_role, brief, variable_brief, main_brief, thing_brief, declared_in, file_briefs, IsAlone, AreOnce, declared_once, not_declared}

-- Lists

pub within_contained : {X : Type 0} (xs : List X) (x : X) → Contains xs x → Within xs x
within_contained xs x h = (h.0, get_at xs h.0 x h.1 ∙ ap Some h.2)

pub within_filter : {X : Type 0} (p : X → Bool) (xs : List X) (x : X) → Within xs x → p x ≡ true → Within (filter p xs) x
within_filter p [] x w h = w
within_filter p (y ∷ xs) x w h = by (within_step y xs x w) (λ v. within_filter p xs x v h)
  where
    kept : (b : Bool) → Within (filter p xs) x → Within (if b then y ∷ filter p xs else filter p xs) x
    kept true v = within_next y (filter p xs) x v
    kept false v = v

    by : (y ≡ x) ⊎ Within xs x → (Within xs x → Within (filter p xs) x) → Within (filter p (y ∷ xs)) x
    by (inl e) again = subst (λ b. Within (if b then y ∷ filter p xs else filter p xs) x) (sym (ap p e ∙ h)) (0, ap Some e)
    by (inr v) again = kept (p y) (again v)

pub from_filter : {X : Type 0} (p : X → Bool) (xs : List X) (x : X) → Within (filter p xs) x → Within xs x × (p x ≡ true)
from_filter p [] x w = absurd (within_none x w)
from_filter p (y ∷ xs) x w = by (p y) refl w (λ v. from_filter p xs x v)
  where
    first : p y ≡ true → (y ≡ x) ⊎ Within (filter p xs) x → (Within (filter p xs) x → Within xs x × (p x ≡ true)) → Within (y ∷ xs) x × (p x ≡ true)
    first e (inl g) again = ((0, ap Some g), ap p (sym g) ∙ e)
    first e (inr v) again = let r = again v in (within_next y xs x r.0, r.1)

    by : (b : Bool) → p y ≡ b → Within (if b then y ∷ filter p xs else filter p xs) x → (Within (filter p xs) x → Within xs x × (p x ≡ true)) → Within (y ∷ xs) x × (p x ≡ true)
    by true e v again = first e (within_step y (filter p xs) x v) again
    by false e v again = let r = again v in (within_next y xs x r.0, r.1)

-- the names that are new

from_new : (known names : List (List ℕ)) (x : List ℕ) → Within (new_names known names) x → Within names x
from_new known [] x w = absurd (within_none x w)
from_new known (y ∷ names) x w = by (is_among known y) w (λ v. from_new known names x v) (λ v. from_new (y ∷ known) names x v)
  where
    first : (y ≡ x) ⊎ Within (new_names (y ∷ known) names) x → (Within (new_names (y ∷ known) names) x → Within names x) → Within (y ∷ names) x
    first (inl e) more = (0, ap Some e)
    first (inr v) more = within_next y names x (more v)

    by : (b : Bool) → Within (if b then new_names known names else y ∷ new_names (y ∷ known) names) x → (Within (new_names known names) x → Within names x)
        → (Within (new_names (y ∷ known) names) x → Within names x) → Within (y ∷ names) x
    by true v again more = within_next y names x (again v)
    by false v again more = first (within_step y (new_names (y ∷ known) names) x v) more

within_new : (known names : List (List ℕ)) (x : List ℕ) → Within names x → is_among known x ≡ false → Within (new_names known names) x
within_new known [] x w h = w
within_new known (y ∷ names) x w h = by (is_among known y) refl (within_step y names x w) (λ v. within_new known names x v h) (λ v g. within_new (y ∷ known) names x v g)
  where
    later : (b : Bool) → same_name x y ≡ b → Within names x → (Within names x → is_among (y ∷ known) x ≡ false → Within (new_names (y ∷ known) names) x) → Within (y ∷ new_names (y ∷ known) names) x
    later true e v more = (0, ap Some (sym (same_is x y e)))
    later false e v more = within_next y (new_names (y ∷ known) names) x (more v (neither (same_name x y) (is_among known x) e h))

    by : (b : Bool) → is_among known y ≡ b → (y ≡ x) ⊎ Within names x → (Within names x → Within (new_names known names) x)
        → (Within names x → is_among (y ∷ known) x ≡ false → Within (new_names (y ∷ known) names) x) → Within (new_names known (y ∷ names)) x
    by true e (inl g) again more = true_not (is_among known y) e (ap (is_among known) g ∙ h)
    by true e (inr v) again more = subst (λ b. Within (if b then new_names known names else y ∷ new_names (y ∷ known) names) x) (sym e) (again v)
    by false e (inl g) again more = subst (λ b. Within (if b then new_names known names else y ∷ new_names (y ∷ known) names) x) (sym e) (0, ap Some g)
    by false e (inr v) again more = subst (λ b. Within (if b then new_names known names else y ∷ new_names (y ∷ known) names) x) (sym e) (later (same_name x y) refl v more)

-- Occurrences

-- what a declaration says of its name, and whether that is used
abbrev pub shown : Role → (used : Bool) → Role
shown Declares used = if used then Uses else Declares
shown role used = role

abbrev pub if_used : Occurrence → (used : Bool) → Occurrence
if_used o used = record { name = o.name; type = o.type; role = shown o.role used }

abbrev pub variable_seen : (names : List (List ℕ)) → Declaration → Occurrence
variable_seen names d = if_used (variable_brief d) (is_among names d.name)

-- a name that is declared or used here, and not defined
abbrev pub IsMereRole : Role → Type 0
IsMereRole Declares = Unit {0}
IsMereRole Uses = Unit {0}
IsMereRole _ = ⊥

pub data Seen (f : File) (a : Occurrence) : Type 0 where
  SeenSystem : Within system_names a.name → a.type ≡ Some (system_type a.name) → IsMereRole a.role → Seen f a
  SeenVariable : (d : Declaration) → Within (declarations f) d → a ≡ variable_seen (used_names f) d → Seen f a
  SeenMain : (ss : List Statement) → f.main ≡ Some ss → a ≡ main_brief → Seen f a

-- The things of a file

from_things : (f : File) (t : Thing) → Within (things f) t → ((d : Declaration) × Within (declarations f) d × (t ≡ AVariable d)) ⊎ ((ss : List Statement) × (f.main ≡ Some ss) × (t ≡ AMain ss))
from_things f t w = by (within_append (map AVariable f.before) (main_thing f.main (map AVariable f.after)) t w)
  where
    Kinds : Type 0
    Kinds = ((d : Declaration) × Within (declarations f) d × (t ≡ AVariable d)) ⊎ ((ss : List Statement) × (f.main ≡ Some ss) × (t ≡ AMain ss))

    after : Within (map AVariable f.after) t → Kinds
    after v = let r = from_map AVariable f.after t v in inl (r.0, within_right f.before f.after r.0 r.1, r.2)

    first : (ss : List Statement) → f.main ≡ Some ss → (AMain ss ≡ t) ⊎ Within (map AVariable f.after) t → Kinds
    first ss e (inl g) = inr (ss, e, sym g)
    first ss e (inr v) = after v

    main : (m : Option (List Statement)) → f.main ≡ m → Within (main_thing m (map AVariable f.after)) t → Kinds
    main None e v = after v
    main (Some ss) e v = first ss e (within_step (AMain ss) (map AVariable f.after) t v)

    by : Within (map AVariable f.before) t ⊎ Within (main_thing f.main (map AVariable f.after)) t → Kinds
    by (inl v) = let r = from_map AVariable f.before t v in inl (r.0, within_left f.before f.after r.0 r.1, r.2)
    by (inr v) = main f.main refl v

variable_thing : (f : File) (d : Declaration) → Within (declarations f) d → Within (things f) (AVariable d)
variable_thing f d w = by (within_append f.before f.after d w)
  where
    after : (m : Option (List Statement)) → Within (map AVariable f.after) (AVariable d) → Within (main_thing m (map AVariable f.after)) (AVariable d)
    after None v = v
    after (Some ss) v = within_next (AMain ss) (map AVariable f.after) (AVariable d) v

    by : Within f.before d ⊎ Within f.after d → Within (things f) (AVariable d)
    by (inl v) = within_left (map AVariable f.before) (main_thing f.main (map AVariable f.after)) (AVariable d) (within_map AVariable f.before d v)
    by (inr v) = within_right (map AVariable f.before) (main_thing f.main (map AVariable f.after)) (AVariable d) (after f.main (within_map AVariable f.after d v))

the_main_thing : (f : File) (ss : List Statement) → f.main ≡ Some ss → Within (things f) (AMain ss)
the_main_thing f ss e =
    within_right (map AVariable f.before) (main_thing f.main (map AVariable f.after)) (AMain ss)
    (subst (λ m. Within (main_thing m (map AVariable f.after)) (AMain ss)) (sym e) (0, refl))

-- Variables' names

new_names_of : (names : List (List ℕ)) (ds : List Declaration) → AreNew names ds → Each (λ d. is_variable_name d.name ≡ true) ds
new_names_of names [] h = tt
new_names_of names (d ∷ ds) h = (h.0, new_names_of (d.name ∷ names) ds h.3)

pub variable_name : (f : File) → IsFile (items_of f) → (d : Declaration) → Within (declarations f) d → is_variable_name d.name ≡ true
variable_name f h d w = by (within_append f.before f.after d w)
  where
    by : Within f.before d ⊎ Within f.after d → is_variable_name d.name ≡ true
    by (inl v) = each_at (λ e. is_variable_name e.name ≡ true) f.before v.0 d (new_names_of _ f.before (file_form f h).before) v.1
    by (inr v) = each_at (λ e. is_variable_name e.name ≡ true) f.after v.0 d (new_names_of _ f.after (file_form f h).after) v.1

-- The symbol of a name that is declared

shown_role : (name : List ℕ) (type : TypeTree) (way : Way) (used : Bool) → role_of (kind_of (record { name = name; type = type; way = way } ∷ []) used) ≡ shown (way_role way) used
shown_role name type Only true = refl
shown_role name type Only false = refl
shown_role name type Tentative true = refl
shown_role name type Tentative false = refl
shown_role name type (Initial value) used = refl
shown_role name type (Body item) used = refl

abbrev used_in : File → List ℕ → Bool
used_in f x = is_among (uses_in_row (source_of f).items) x

declared_occurrence : (f : File) (d : Declared) → IsAlone (declared_in f) d → occurrence (symbol_of (source_of f) d.name) ≡ if_used (brief d) (used_in f d.name)
declared_occurrence f d h =
    ap (λ l. record { name = d.name; type = Some (first_type (system_type d.name) l); role = role_of (kind_of l (used_in f d.name)) }) h
    ∙ ap (λ r. record { name = d.name; type = Some d.type; role = r }) (shown_role d.name d.type d.way (used_in f d.name))

variable_used : (f : File) → IsFile (items_of f) → (d : Declaration) → Within (declarations f) d → used_in f d.name ≡ is_among (used_names f) d.name
variable_used f h d w =
    ap (λ us. is_among us d.name) (file_uses f h (file_form f h))
    ∙ used_same d.name (statements f.main) (variable_name f h d w)

thing_occurrence : (f : File) → IsFile (items_of f) → (d : Declaration) → Within (declarations f) d → if_used (variable_brief d) (used_in f d.name) ≡ variable_seen (used_names f) d
thing_occurrence f h d w = ap (if_used (variable_brief d)) (variable_used f h d w)

-- a declaration of the module that this thing has
declared_seen : (f : File) → IsFile (items_of f) → (d : Declared) → Within (declared_in f) d → Seen f (if_used (brief d) (used_in f d.name))
declared_seen f h d w =
    let r = from_map thing_brief (things f) (brief d) (subst (λ l. Within l (brief d)) (file_briefs f h) (within_map brief (declared_in f) d w)) in
    by r.0 (from_things f r.0 r.1) r.2
  where
    by : (t : Thing) → ((v : Declaration) × Within (declarations f) v × (t ≡ AVariable v)) ⊎ ((ss : List Statement) × (f.main ≡ Some ss) × (t ≡ AMain ss)) → brief d ≡ thing_brief t
        → Seen f (if_used (brief d) (used_in f d.name))
    by t (inl v) e =
        let g : brief d ≡ variable_brief v.0 = e ∙ ap thing_brief v.2 in
        SeenVariable v.0 v.1 (ap (λ o. if_used o (used_in f o.name)) g ∙ thing_occurrence f h v.0 v.1)
    by t (inr m) e =
        let g : brief d ≡ main_brief = e ∙ ap thing_brief m.2 in
        SeenMain m.0 m.1 (ap (λ o. if_used o (used_in f o.name)) g)

mere_role : (used : Bool) → IsMereRole (role_of (kind_of [] used))
mere_role true = tt
mere_role false = tt

system_undeclared : (f : File) → AreOnce (declared_in f) → Each (λ y. declarations_of y (declared_in f) ≡ []) system_names
system_undeclared f h = (
  not_declared (codes "exits") (declared_in f) (each_weaker (λ d. is_among system_names d.name ≡ false) (λ d. same_name d.name (codes "exits") ≡ false) (λ d g. neither_left (same_name d.name (codes "exits")) _ g) (declared_in f) h.new),
  (
    not_declared (codes "read") (declared_in f) (each_weaker (λ d. is_among system_names d.name ≡ false) (λ d. same_name d.name (codes "read") ≡ false)
        (λ d g. neither_left (same_name d.name (codes "read")) _ (neither_right (same_name d.name (codes "exits")) _ g)) (declared_in f) h.new),
    (
      not_declared (codes "write") (declared_in f) (each_weaker (λ d. is_among system_names d.name ≡ false) (λ d. same_name d.name (codes "write") ≡ false)
          (λ d g. neither_left (same_name d.name (codes "write")) _ (neither_right (same_name d.name (codes "read")) _ (neither_right (same_name d.name (codes "exits")) _ g))) (declared_in f) h.new),
      tt,
    ),
  ),
)

-- a name of the module's symbols
name_seen : (f : File) → IsFile (items_of f) → (x : List ℕ) → Within (symbol_names (source_of f)) x → Seen f (occurrence (symbol_of (source_of f) x))
name_seen f h x w = by (within_append (filter (λ y. is_among (declared_names (source_of f) ++ uses_in_row (source_of f).items) y) system_names) (new_names system_names (declared_names (source_of f))) x w)
  where
    once : AreOnce (declared_in f)
    once = declared_once f h (file_form f h)

    of_declared : (d : Declared) → Within (declared_in f) d → x ≡ d.name → Seen f (occurrence (symbol_of (source_of f) x))
    of_declared d v e =
        subst (Seen f) (sym (ap (λ y. occurrence (symbol_of (source_of f) y)) e ∙ declared_occurrence f d (each_at (IsAlone (declared_in f)) (declared_in f) v.0 d once.alone v.1)))
        (declared_seen f h d v)

    of_system : Within system_names x → Seen f (occurrence (symbol_of (source_of f) x))
    of_system v =
        let e : declarations_of x (declared_in f) ≡ [] = each_at (λ y. declarations_of y (declared_in f) ≡ []) system_names v.0 x (system_undeclared f once) v.1 in
        SeenSystem v (ap (λ l. Some (first_type (system_type x) l)) e) (subst (λ l. IsMereRole (role_of (kind_of l (used_in f x)))) (sym e) (mere_role (used_in f x)))

    by : Within (filter (λ y. is_among (declared_names (source_of f) ++ uses_in_row (source_of f).items) y) system_names) x ⊎ Within (new_names system_names (declared_names (source_of f))) x
        → Seen f (occurrence (symbol_of (source_of f) x))
    by (inl v) = of_system (from_filter (λ y. is_among (declared_names (source_of f) ++ uses_in_row (source_of f).items) y) system_names x v).0
    by (inr v) =
        let r = from_map (λ d. d.name) (declared_in f) x (from_new system_names (declared_names (source_of f)) x v) in
        of_declared r.0 r.1 r.2

-- All that occurs

pub seen_of : (f : File) → IsFile (items_of f) → (a : Occurrence) → Within (shared (source_of f)) a → Seen f a
seen_of f h a w = let r = from_map occurrence (filter (λ symbol. not symbol.is_local) (symbols (source_of f))) a w in subst (Seen f) (sym r.2) (of_shared r.0 r.1)
  where
    is_shared : Symbol → Bool
    is_shared s = not s.is_local

    of_symbol : (s : Symbol) → is_shared s ≡ true → Within (map (symbol_of (source_of f)) (symbol_names (source_of f))) s ⊎ Within (map text_symbol (texts_of_row (source_of f).items)) s → Seen f (occurrence s)
    of_symbol s l (inl v) =
        let r = from_map (symbol_of (source_of f)) (symbol_names (source_of f)) s v in
        subst (λ t. Seen f (occurrence t)) (sym r.2) (name_seen f h r.0 r.1)
    of_symbol s l (inr v) =
        let r = from_map text_symbol (texts_of_row (source_of f).items) s v in
        absurd (let e : false ≡ true = ap is_shared (sym r.2) ∙ l in cc)

    of_shared : (s : Symbol) → Within (filter (λ symbol. not symbol.is_local) (symbols (source_of f))) s → Seen f (occurrence s)
    of_shared s v =
        let r = from_filter (λ symbol. not symbol.is_local) (symbols (source_of f)) s v in
        of_symbol s r.1 (within_append (map (symbol_of (source_of f)) (symbol_names (source_of f))) (map text_symbol (texts_of_row (source_of f).items)) s r.0)

-- What occurs there

thing_there : (f : File) → IsFile (items_of f) → (t : Thing) → Within (things f) t → (a : Occurrence) → if_used (thing_brief t) (used_in f (thing_brief t).name) ≡ a → Within (shared (source_of f)) a
thing_there f h t w a e =
    let r = from_map brief (declared_in f) (thing_brief t) (subst (λ l. Within l (thing_brief t)) (sym (file_briefs f h)) (within_map thing_brief (things f) t w)) in
    let once = declared_once f h (file_form f h) in
    let o : occurrence (symbol_of (source_of f) r.0.name) ≡ a =
    declared_occurrence f r.0 (each_at (IsAlone (declared_in f)) (declared_in f) r.1.0 r.0 once.alone r.1.1)
    ∙ ap (λ b. if_used b (used_in f b.name)) (sym r.2) ∙ e in
    let new = each_at (λ d. is_among system_names d.name ≡ false) (declared_in f) r.1.0 r.0 once.new r.1.1 in
    let x = r.0.name in
    let named : Within (symbol_names (source_of f)) x =
    within_right (filter (λ y. is_among (declared_names (source_of f) ++ uses_in_row (source_of f).items) y) system_names) (new_names system_names (declared_names (source_of f))) x
    (within_new system_names (declared_names (source_of f)) x (within_map (λ d. d.name) (declared_in f) r.0 r.1) new) in
    subst (Within (shared (source_of f))) o
    (within_map occurrence (filter (λ symbol. not symbol.is_local) (symbols (source_of f))) (symbol_of (source_of f) x)
    (within_filter (λ symbol. not symbol.is_local) (symbols (source_of f)) (symbol_of (source_of f) x)
    (within_left (map (symbol_of (source_of f)) (symbol_names (source_of f))) (map text_symbol (texts_of_row (source_of f).items)) (symbol_of (source_of f) x)
    (within_map (symbol_of (source_of f)) (symbol_names (source_of f)) x named)) refl))

pub variable_seen_there : (f : File) → IsFile (items_of f) → (d : Declaration) → Within (declarations f) d → Within (shared (source_of f)) (variable_seen (used_names f) d)
variable_seen_there f h d w = thing_there f h (AVariable d) (variable_thing f d w) (variable_seen (used_names f) d) (thing_occurrence f h d w)

pub main_seen_there : (f : File) → IsFile (items_of f) → (ss : List Statement) → f.main ≡ Some ss → Within (shared (source_of f)) main_brief
main_seen_there f h ss e = thing_there f h (AMain ss) (the_main_thing f ss e) main_brief refl
