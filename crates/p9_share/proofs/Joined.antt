-- Where the symbols of files stand among those of the modules that are linked.
use Rattle.std.proofs.Common.{◌≡◌, ◌⊎◌, inl, inr, ℕ, zero, suc, Bool, true, false, ◌||◌, List, [], ◌∷◌, ◌++◌, map, flat_map, Option, Some, None, All, Result, Ok, Err, refl, sym, ap, ◌∙◌, subst, codes}
use Rattle.std.specs.Prelude.{slice_get, option_and_then}
use Rattle.p9_abs.specs.declared.modules.AModule.{AModule}
use Rattle.p9_abs.specs.declared.modules.Symbol.{Symbol}
use Rattle.p9_abs.specs.declared.modules.Body.TheVariants.{Used, Data}
use Rattle.p9_abs.specs.Modules.{is_definition}
use Rattle.p9_first.specs.Form.{same_name, is_among, functions, IsFile}
use Rattle.p9_form.specs.declared.file.Statement.{Statement}
use Rattle.p9_form.specs.declared.file.First.{First}
use Rattle.p9_form.specs.declared.file.First.TheVariants as first
use Rattle.p9_form.specs.declared.file.Declaration.{Declaration}
use Rattle.p9_form.specs.declared.file.File.{File}
use Rattle.p9_form.specs.Items.{items_of}
use Rattle.p9_form.specs.Sharing.{initial_in, initials, tentative_in, tentatives, defined_names, declarations, statements, names_in, named_by, named_if}
use Rattle.p9_form.specs.declared.file.Operand.{Operand}
use Rattle.p9_form.specs.declared.file.Operand.TheVariants.{Variable, Number}
use Rattle.p9_form.specs.declared.file.Statement.TheVariants.{Assign, Write, Exits}
use Rattle.p9_form.proofs.Formed.{FitsOperand, FitsIf, FitsStatement, FitStatements, names_behind, FitsFile}
use Rattle.p9_base.specs.Numbers.{word_bytes}
use Rattle.p9_abs.specs.declared.modules.DataPiece.{DataPiece}
use Rattle.p9_abs.specs.declared.modules.DataPiece.TheVariants.{Raw}
use Rattle.p9_share.proofs.Names.{same_is}
use Rattle.p9_share.proofs.Valid.{IsVariableName, parts_of}
use Rattle.p9_abs.specs.declared.modules.Def.{Def}
use Rattle.p9_abs.specs.BuiltIn.{builtin_module, builtin_symbols, linked}
use Rattle.p9_abs.specs.Names.{symbol_at, Occurs, Defines}
use Rattle.std.specs.List.{list_any}
use Rattle.p9_share.specs.Symbols.{global, is_exits, is_write, used_if, system_symbols, module_of, symbols_of, variable_symbol, body_of, main_symbol, main_symbols, used_names}
use Rattle.p9_share.proofs.Within.{Within, get_front, within_left, within_right, within_map, from_map, within_append, within_step, within_none, within_next, within_flat_map, all_within}

-- A place of a file's symbol in the modules that are linked

abbrev pub place_of : ℕ → ℕ → Def
place_of i k = record { «module» = i; symbol = k }

pub module_at : (files : List File) (i : ℕ) (f : File) → slice_get files i ≡ Some f → slice_get (linked (map module_of files)) i ≡ Some (module_of f)
module_at files i f h = get_front (map module_of files) (builtin_module ∷ []) i (module_of f) (mapped files i f h)
  where
    mapped : (files : List File) (i : ℕ) (f : File) → slice_get files i ≡ Some f → slice_get (map module_of files) i ≡ Some (module_of f)
    mapped [] i f h = cc
    mapped (g ∷ files) zero f h = ap (λ x. Some (module_of x)) (some_is h)
      where
        some_is : {x y : File} → Some x ≡ Some y → x ≡ y
        some_is h = cc
    mapped (g ∷ files) (suc i) f h = mapped files i f h

pub symbol_there : (files : List File) (i k : ℕ) (f : File) (s : Symbol) → slice_get files i ≡ Some f → slice_get (symbols_of f) k ≡ Some s
    → symbol_at (linked (map module_of files)) (place_of i k) ≡ Some s
symbol_there files i k f s h g = ap (λ o. option_and_then (λ m. slice_get m.symbols k) o) (module_at files i f h) ∙ g

pub occurs_there : (files : List File) (i k : ℕ) (f : File) (s : Symbol) → slice_get files i ≡ Some f → slice_get (symbols_of f) k ≡ Some s → s.local ≡ false
    → Occurs (linked (map module_of files)) s.name (place_of i k) s
occurs_there files i k f s h g l = record { stands = symbol_there files i k f s h g; global = l; named = refl }

-- The symbols of what a file declares

variable_before : (f : File) (d : Declaration) → Within f.before d → Within (symbols_of f) (variable_symbol (used_names f) d)
variable_before f d w =
    within_right (system_symbols (statements f.main)) (map (variable_symbol (used_names f)) f.before ++ (main_symbols f.main ++ map (variable_symbol (used_names f)) f.after)) (variable_symbol (used_names f) d)
    (within_left (map (variable_symbol (used_names f)) f.before) (main_symbols f.main ++ map (variable_symbol (used_names f)) f.after) (variable_symbol (used_names f) d)
    (within_map (variable_symbol (used_names f)) f.before d w))

variable_after : (f : File) (d : Declaration) → Within f.after d → Within (symbols_of f) (variable_symbol (used_names f) d)
variable_after f d w =
    within_right (system_symbols (statements f.main)) (map (variable_symbol (used_names f)) f.before ++ (main_symbols f.main ++ map (variable_symbol (used_names f)) f.after)) (variable_symbol (used_names f) d)
    (within_right (map (variable_symbol (used_names f)) f.before) (main_symbols f.main ++ map (variable_symbol (used_names f)) f.after) (variable_symbol (used_names f) d)
    (within_right (main_symbols f.main) (map (variable_symbol (used_names f)) f.after) (variable_symbol (used_names f) d)
    (within_map (variable_symbol (used_names f)) f.after d w)))

pub variable_there : (f : File) (d : Declaration) → Within (declarations f) d → Within (symbols_of f) (variable_symbol (used_names f) d)
variable_there f d w = by (within_append f.before f.after d w)
  where
    by : Within f.before d ⊎ Within f.after d → Within (symbols_of f) (variable_symbol (used_names f) d)
    by (inl b) = variable_before f d b
    by (inr a) = variable_after f d a

pub main_there : (f : File) (ss : List Statement) → f.main ≡ Some ss → Within (symbols_of f) main_symbol
main_there f ss e =
    within_right (system_symbols (statements f.main)) (map (variable_symbol (used_names f)) f.before ++ (main_symbols f.main ++ map (variable_symbol (used_names f)) f.after)) main_symbol
    (within_right (map (variable_symbol (used_names f)) f.before) (main_symbols f.main ++ map (variable_symbol (used_names f)) f.after) main_symbol
    (within_left (main_symbols f.main) (map (variable_symbol (used_names f)) f.after) main_symbol
    (subst (λ m. Within (main_symbols m) main_symbol) (sym e) (0, refl))))

-- a symbol of a file is a system call's, a declaration's, or that of `main`
pub data Origin (f : File) (s : Symbol) : Type 0 where
  OfSystem : s.body ≡ Used → Origin f s
  OfVariable : (d : Declaration) → Within (declarations f) d → s ≡ variable_symbol (used_names f) d → Origin f s
  OfMain : (ss : List Statement) → f.main ≡ Some ss → s ≡ main_symbol → Origin f s

pub origin_of : (f : File) (s : Symbol) → Within (symbols_of f) s → Origin f s
origin_of f s w =
    first_of (within_append (system_symbols (statements f.main)) (map (variable_symbol (used_names f)) f.before ++ (main_symbols f.main ++ map (variable_symbol (used_names f)) f.after)) s w)
  where
    used_one : (b : Bool) (t : Symbol) → t.body ≡ Used → Within (used_if b t) s → s.body ≡ Used
    used_one true t e v = by (within_step t [] s v)
      where
        by : (t ≡ s) ⊎ Within [] s → s.body ≡ Used
        by (inl g) = ap (λ (x : Symbol). x.body) (sym g) ∙ e
        by (inr n) = absurd (within_none s n)
    used_one false t e v = absurd (within_none s v)

    system : Within (system_symbols (statements f.main)) s → s.body ≡ Used
    system v =
        by (within_append (used_if (list_any is_exits (statements f.main)) (global (codes "exits") (codes "(*c;)v") Used)) (used_if (list_any is_write (statements f.main)) (global (codes "write") (codes "(i;*v;l;)l") Used)) s v)
      where
        by : Within (used_if (list_any is_exits (statements f.main)) (global (codes "exits") (codes "(*c;)v") Used)) s ⊎ Within (used_if (list_any is_write (statements f.main)) (global (codes "write") (codes "(i;*v;l;)l") Used)) s → s.body ≡ Used
        by (inl a) = used_one (list_any is_exits (statements f.main)) (global (codes "exits") (codes "(*c;)v") Used) refl a
        by (inr b) = used_one (list_any is_write (statements f.main)) (global (codes "write") (codes "(i;*v;l;)l") Used) refl b

    variable_before_of : Within (map (variable_symbol (used_names f)) f.before) s → Origin f s
    variable_before_of v = let r = from_map (variable_symbol (used_names f)) f.before s v in OfVariable r.0 (within_left f.before f.after r.0 r.1) r.2

    variable_after_of : Within (map (variable_symbol (used_names f)) f.after) s → Origin f s
    variable_after_of v = let r = from_map (variable_symbol (used_names f)) f.after s v in OfVariable r.0 (within_right f.before f.after r.0 r.1) r.2

    main_by : (m : Option (List Statement)) → f.main ≡ m → Within (main_symbols m) s → Origin f s
    main_by None e v = absurd (within_none s v)
    main_by (Some ss) e v = by (within_step main_symbol [] s v)
      where
        by : (main_symbol ≡ s) ⊎ Within [] s → Origin f s
        by (inl g) = OfMain ss e (sym g)
        by (inr n) = absurd (within_none s n)

    last_of : Within (main_symbols f.main) s ⊎ Within (map (variable_symbol (used_names f)) f.after) s → Origin f s
    last_of (inl m) = main_by f.main refl m
    last_of (inr a) = variable_after_of a

    second_of : Within (map (variable_symbol (used_names f)) f.before) s ⊎ Within (main_symbols f.main ++ map (variable_symbol (used_names f)) f.after) s → Origin f s
    second_of (inl b) = variable_before_of b
    second_of (inr r) = last_of (within_append (main_symbols f.main) (map (variable_symbol (used_names f)) f.after) s r)

    first_of : Within (system_symbols (statements f.main)) s ⊎ Within (map (variable_symbol (used_names f)) f.before ++ (main_symbols f.main ++ map (variable_symbol (used_names f)) f.after)) s → Origin f s
    first_of (inl v) = OfSystem (system v)
    first_of (inr r) = second_of (within_append (map (variable_symbol (used_names f)) f.before) (main_symbols f.main ++ map (variable_symbol (used_names f)) f.after) s r)

-- A definition in the linked modules is a file's or the system's

pub data From (files : List File) (s : Symbol) : Type 0 where
  OfFile : (i : ℕ) (f : File) → slice_get files i ≡ Some f → Within (symbols_of f) s → From files s
  OfBuiltIn : Within builtin_symbols s → From files s

some_is : {X : Type 0} {x y : X} → Some x ≡ Some y → x ≡ y
some_is h = cc

none_not : {X : Type 0} {x : X} → None ≡ Some x → ⊥
none_not h = cc

module_from : (files : List File) (i : ℕ) (m : AModule) (k : ℕ) (s : Symbol) → slice_get (linked (map module_of files)) i ≡ Some m → slice_get m.symbols k ≡ Some s → From files s
module_from [] zero m k s e g = OfBuiltIn (k, ap (λ (x : AModule). slice_get x.symbols k) (some_is e) ∙ g)
module_from [] (suc zero) m k s e g = cc
module_from [] (suc (suc i)) m k s e g = cc
module_from (f ∷ files) zero m k s e g = OfFile 0 f refl (k, ap (λ (x : AModule). slice_get x.symbols k) (some_is e) ∙ g)
module_from (f ∷ files) (suc i) m k s e g = later (module_from files i m k s e g)
  where
    later : From files s → From (f ∷ files) s
    later (OfFile i g e w) = OfFile (suc i) g e w
    later (OfBuiltIn w) = OfBuiltIn w

pub symbol_from : (files : List File) (d : Def) (s : Symbol) → symbol_at (linked (map module_of files)) d ≡ Some s → From files s
symbol_from files d s h = by (slice_get (linked (map module_of files)) d.«module») refl h
  where
    by : (o : Option AModule) → slice_get (linked (map module_of files)) d.«module» ≡ o → option_and_then (λ m. slice_get m.symbols d.symbol) o ≡ Some s → From files s
    by None e g = absurd (none_not g)
    by (Some m) e g = module_from files d.«module» m d.symbol s e g

-- what the system defines is a function, and not `main`
abbrev IsSystemName : Symbol → Type 0
IsSystemName s = s.local ≡ false → is_definition s.body ≡ true → (is_among functions s.name ≡ true) × (same_name s.name (codes "main") ≡ false)

true_false : true ≡ false → ⊥
true_false h = cc

false_true : false ≡ true → ⊥
false_true h = cc

pub builtin_names : (s : Symbol) → Within builtin_symbols s → IsSystemName s
builtin_names s w = go w.0 w.1
  where
    go : (k : ℕ) → slice_get builtin_symbols k ≡ Some s → IsSystemName s
    go zero e = subst IsSystemName (some_is e) (λ l d. absurd (true_false l))
    go (suc zero) e = subst IsSystemName (some_is e) (λ l d. absurd (true_false l))
    go (suc (suc zero)) e = subst IsSystemName (some_is e) (λ l d. absurd (false_true d))
    go (suc (suc (suc zero))) e = subst IsSystemName (some_is e) (λ l d. absurd (true_false l))
    go (suc (suc (suc (suc zero)))) e = subst IsSystemName (some_is e) (λ l d. (refl, refl))
    go (suc (suc (suc (suc (suc zero))))) e = subst IsSystemName (some_is e) (λ l d. (refl, refl))
    go (suc (suc (suc (suc (suc (suc zero)))))) e = subst IsSystemName (some_is e) (λ l d. (refl, refl))
    go (suc (suc (suc (suc (suc (suc (suc zero))))))) e = subst IsSystemName (some_is e) (λ l d. absurd (true_false l))
    go (suc (suc (suc (suc (suc (suc (suc (suc k)))))))) e = absurd (none_not e)

-- Bodies

full_first : (f : First) (used : Bool) (value : ℕ) → f ≡ first.Number value → (pieces : List DataPiece) × (body_of f used ≡ Data pieces)
full_first f used value e = (Raw (word_bytes value) ∷ [], ap (λ g. body_of g used) e)

-- what a declaration defines
pub data Defined (d : Declaration) : Type 0 where
  AsZero : d.first ≡ first.Zero → Defined d
  AsNumber : (value : ℕ) → d.first ≡ first.Number value → Defined d

defined_by : (d : Declaration) (used : Bool) (f : First) → d.first ≡ f → is_definition (body_of f used) ≡ true → Defined d
defined_by d true first.Extern e h = absurd (false_true h)
defined_by d false first.Extern e h = absurd (false_true h)
defined_by d used first.Zero e h = AsZero e
defined_by d used (first.Number value) e h = AsNumber value e

tentative_of : (d : Declaration) → d.first ≡ first.Zero → tentative_in d ≡ d.name ∷ []
tentative_of d e = ap (λ f. tentative_in (record d { first = f })) e

initial_of_number : (d : Declaration) (value : ℕ) → d.first ≡ first.Number value → initial_in d ≡ record { name = d.name; value = value } ∷ []
initial_of_number d value e = ap (λ f. initial_in (record d { first = f })) e

-- a declaration that defines its name, in one of the files
pub defined_name : (files : List File) (f : File) (d : Declaration) → Within files f → Within (declarations f) d → Defined d → Within (defined_names files) d.name
defined_name files f d w v (AsZero e) =
    within_right (map (λ i. i.name) (initials files)) (tentatives files) d.name
    (within_flat_map (λ g. flat_map tentative_in (declarations g)) files f d.name w
    (within_flat_map tentative_in (declarations f) d d.name v (subst (λ l. Within l d.name) (sym (tentative_of d e)) (0, refl))))
defined_name files f d w v (AsNumber value e) =
    within_left (map (λ i. i.name) (initials files)) (tentatives files) d.name
    (within_map (λ i. i.name) (initials files) (record { name = d.name; value = value })
    (within_flat_map (λ g. flat_map initial_in (declarations g)) files f (record { name = d.name; value = value }) w
    (within_flat_map initial_in (declarations f) d (record { name = d.name; value = value }) v (subst (λ l. Within l (record { name = d.name; value = value })) (sym (initial_of_number d value e)) (0, refl)))))

-- Variables' names are no functions'

abbrev pub VariablesOf : File → Type 0
VariablesOf f = (d : Declaration) → Within (declarations f) d → IsVariableName d.name

pub variables_of : (f : File) → FitsFile f → VariablesOf f
variables_of f h d w = by (within_append f.before f.after d w)
  where
    by : Within f.before d ⊎ Within f.after d → IsVariableName d.name
    by (inl b) = all_within (λ e. IsVariableName e.name) f.before d (parts_of f h).before b
    by (inr a) = all_within (λ e. IsVariableName e.name) f.after d (parts_of f h).after a

pub used_defines : (s : Symbol) → s.body ≡ Used → is_definition s.body ≡ true → ⊥
used_defines s e d = false_true (sym (ap is_definition e) ∙ d)

-- the definition of a variable's name is a declaration of one of the files
pub defines_variable : (files : List File) (x : List ℕ) (e : Def) → All (λ f. IsFile (items_of f)) files → IsVariableName x
    → Defines (linked (map module_of files)) x e → Within (defined_names files) x
defines_variable files x e h v d = by (symbol_from files e d.symbol d.occurs.stands)
  where
    named : d.symbol.name ≡ x
    named = d.occurs.named

    not_main : x ≡ codes "main" → ⊥
    not_main m = true_false (ap (is_among functions) (sym m) ∙ v.other)

    file_case : (i : ℕ) (f : File) → slice_get files i ≡ Some f → Origin f d.symbol → Within (defined_names files) x
    file_case i f g (OfSystem u) = absurd (used_defines d.symbol u d.defining)
    file_case i f g (OfVariable c w o) =
        subst (λ n. Within (defined_names files) n) (ap (λ (s : Symbol). s.name) (sym o) ∙ named)
        (defined_name files f c (i, g) w (defined_by c (is_among (used_names f) c.name) c.first refl (sym (ap (λ (s : Symbol). is_definition s.body) o) ∙ d.defining)))
    file_case i f g (OfMain ss m o) = absurd (not_main (sym named ∙ ap (λ (s : Symbol). s.name) o))

    by : From files d.symbol → Within (defined_names files) x
    by (OfFile i f g w) = file_case i f g (origin_of f d.symbol w)
    by (OfBuiltIn w) =
        let r = builtin_names d.symbol w d.occurs.global d.defining in
        absurd (true_false (sym (ap (is_among functions) (sym named) ∙ r.0) ∙ v.other))

-- Names in statements

names_operand : (names : List (List ℕ)) (o : Operand) (x : List ℕ) → FitsOperand names o → Within (named_by o) x → is_among names x ≡ true
names_operand names (Variable y) x h w = by (within_step y [] x w)
  where
    by : (y ≡ x) ⊎ Within [] x → is_among names x ≡ true
    by (inl e) = ap (is_among names) (sym e) ∙ h
    by (inr n) = absurd (within_none x n)
names_operand names (Number n) x h w = absurd (within_none x w)

names_if : (names : List (List ℕ)) (o : Option Operand) (x : List ℕ) → FitsIf names o → Within (named_if o) x → is_among names x ≡ true
names_if names None x h w = absurd (within_none x w)
names_if names (Some o) x h w = names_operand names o x h w

names_statement : (names : List (List ℕ)) (s : Statement) (x : List ℕ) → FitsStatement names s → Within (names_in s) x → is_among names x ≡ true
names_statement names (Assign y left right) x h w = by (within_step y (named_by left ++ named_if right) x w)
  where
    sum : Within (named_by left) x ⊎ Within (named_if right) x → is_among names x ≡ true
    sum (inl l) = names_operand names left x h.1 l
    sum (inr r) = names_if names right x h.2 r

    by : (y ≡ x) ⊎ Within (named_by left ++ named_if right) x → is_among names x ≡ true
    by (inl e) = ap (is_among names) (sym e) ∙ h.0
    by (inr v) = sum (within_append (named_by left) (named_if right) x v)
names_statement names (Write text count) x h w = names_operand names count x h.1 w
names_statement names (Exits text) x h w = absurd (within_none x w)

pub names_statements : (names : List (List ℕ)) (ss : List Statement) (x : List ℕ) → FitStatements names ss → Within (flat_map names_in ss) x → is_among names x ≡ true
names_statements names [] x h w = absurd (within_none x w)
names_statements names (s ∷ ss) x h w = by (within_append (names_in s) (flat_map names_in ss) x w) (λ v. names_statements names ss x h.1 v)
  where
    by : Within (names_in s) x ⊎ Within (flat_map names_in ss) x → (Within (flat_map names_in ss) x → is_among names x ≡ true) → is_among names x ≡ true
    by (inl v) again = names_statement names s x h.0 v
    by (inr v) again = again v

-- a name behind declarations is one of theirs, or was there before
pub data Declares (names : List (List ℕ)) (ds : List Declaration) (x : List ℕ) : Type 0 where
  Before : is_among names x ≡ true → Declares names ds x
  Here : (d : Declaration) → Within ds d → d.name ≡ x → Declares names ds x

pub names_behind_of : (names : List (List ℕ)) (ds : List Declaration) (x : List ℕ) → is_among (names_behind names ds) x ≡ true → Declares names ds x
names_behind_of names [] x h = Before h
names_behind_of names (d ∷ ds) x h = later (names_behind_of (d.name ∷ names) ds x h)
  where
    own : (b : Bool) → same_name x d.name ≡ b → (b || is_among names x) ≡ true → Declares names (d ∷ ds) x
    own true e g = Here d (0, refl) (sym (same_is x d.name e))
    own false e g = Before g

    later : Declares (d.name ∷ names) ds x → Declares names (d ∷ ds) x
    later (Before g) = own (same_name x d.name) refl g
    later (Here c w e) = Here c (within_next d ds c w) e

-- an answer Ok is no refusal
pub ok_other : {A B E : Type 0} (t : A) (u : B) (fault other : E)
    → (◌≡◌ {A = Result A E} (Ok t) (Err fault)) ⊎ (◌≡◌ {A = Result A E} (Ok t) (Err other))
    → (◌≡◌ {A = Result B E} (Ok u) (Err fault)) ⊎ (◌≡◌ {A = Result B E} (Ok u) (Err other))
ok_other t u fault other (inl e) = cc
ok_other t u fault other (inr e) = cc

err_is : {A E : Type 0} {f g : E} → ◌≡◌ {A = Result A E} (Err f) (Err g) → f ≡ g
err_is h = cc

pub err_other : {A B E : Type 0} (given fault other : E)
    → (◌≡◌ {A = Result A E} (Err given) (Err fault)) ⊎ (◌≡◌ {A = Result A E} (Err given) (Err other))
    → (◌≡◌ {A = Result B E} (Err given) (Err fault)) ⊎ (◌≡◌ {A = Result B E} (Err given) (Err other))
err_other given fault other (inl e) = inl (ap Err (err_is e))
err_other given fault other (inr e) = inr (ap Err (err_is e))
