-- The symbols of files' modules and of the built-in module, and where they stand.
use Rattle.std.proofs.Common.{◌≡◌, ◌⊎◌, inl, inr, ℕ, zero, suc, Bool, true, false, if◌then◌else◌, List, [], ◌∷◌, ◌++◌, map, length, Some, None, Option, refl, sym, ap, subst, codes}
use Rattle.std.specs.Prelude.{slice_get}
use Rattle.std.specs.List.{list_any}
use Rattle.p9_abs.specs.declared.modules.Symbol.{Symbol}
use Rattle.p9_abs.specs.declared.modules.Body.TheVariants.{Used}
use Rattle.p9_first.specs.Form.{same_name}
use Rattle.p9_first.specs.Modules.{system_names}
use Rattle.p9_form.specs.declared.file.Statement.{Statement}
use Rattle.p9_form.specs.declared.file.Declaration.{Declaration}
use Rattle.p9_form.specs.declared.file.File.{File}
use Rattle.p9_form.specs.Sharing.{declarations, statements}
use Rattle.p9_abs.specs.declared.modules.Def.{Def}
use Rattle.p9_abs.specs.BuiltIn.{builtin_symbols, used_main, linked}
use Rattle.p9_abs.specs.Names.{symbol_at}
use Rattle.p9_abs.specs.Modules.{is_text}
use Rattle.p9_share.specs.Symbols.{global, is_exits, is_write, used_if, system_symbols, module_of, symbols_of, variable_symbol, main_symbol, main_symbols, used_names}
use Rattle.p9_share.proofs.Within.{Within, within_left, within_right, from_map, within_append, within_step, within_none}
use Rattle.p9_share.proofs.Joined.{place_of}

some_is : {X : Type 0} {x y : X} → Some x ≡ Some y → x ≡ y
some_is h = cc

none_not : {X : Type 0} {x : X} → None ≡ Some x → ⊥
none_not h = cc

-- The signature of a system call

abbrev pub call_signature : List ℕ → List ℕ
call_signature x = if same_name x (codes "exits") then codes "(*c;)v" else codes "(i;*v;l;)l"

-- The symbols of a file's module

pub data Named (f : File) (s : Symbol) : Type 0 where
  NamedSystem : Within system_names s.name → s.sig ≡ call_signature s.name → s.body ≡ Used → Named f s
  NamedVariable : (d : Declaration) → Within (declarations f) d → s ≡ variable_symbol (used_names f) d → Named f s
  NamedMain : (ss : List Statement) → f.main ≡ Some ss → s ≡ main_symbol → Named f s

abbrev exits_used : Symbol
exits_used = global (codes "exits") (codes "(*c;)v") Used

abbrev write_used : Symbol
write_used = global (codes "write") (codes "(i;*v;l;)l") Used

-- the symbols of variables and of `main`
abbrev declared_symbols : File → List Symbol
declared_symbols f = map (variable_symbol (used_names f)) f.before ++ (main_symbols f.main ++ map (variable_symbol (used_names f)) f.after)

pub named_of : (f : File) (s : Symbol) → Within (symbols_of f) s → Named f s
named_of f s w = first_of (within_append (system_symbols (statements f.main)) (declared_symbols f) s w)
  where
    used_one : (b : Bool) (t : Symbol) → Within (used_if b t) s → t ≡ s
    used_one true t v = by (within_step t [] s v)
      where
        by : (t ≡ s) ⊎ Within [] s → t ≡ s
        by (inl g) = g
        by (inr n) = absurd (within_none s n)
    used_one false t v = absurd (within_none s v)

    system : Within (used_if (list_any is_exits (statements f.main)) exits_used) s ⊎ Within (used_if (list_any is_write (statements f.main)) write_used) s → Named f s
    system (inl v) = subst (Named f) (used_one (list_any is_exits (statements f.main)) exits_used v) (NamedSystem (0, refl) refl refl)
    system (inr v) = subst (Named f) (used_one (list_any is_write (statements f.main)) write_used v) (NamedSystem (2, refl) refl refl)

    variable_before_of : Within (map (variable_symbol (used_names f)) f.before) s → Named f s
    variable_before_of v = let r = from_map (variable_symbol (used_names f)) f.before s v in NamedVariable r.0 (within_left f.before f.after r.0 r.1) r.2

    variable_after_of : Within (map (variable_symbol (used_names f)) f.after) s → Named f s
    variable_after_of v = let r = from_map (variable_symbol (used_names f)) f.after s v in NamedVariable r.0 (within_right f.before f.after r.0 r.1) r.2

    main_by : (m : Option (List Statement)) → f.main ≡ m → Within (main_symbols m) s → Named f s
    main_by None e v = absurd (within_none s v)
    main_by (Some ss) e v = by (within_step main_symbol [] s v)
      where
        by : (main_symbol ≡ s) ⊎ Within [] s → Named f s
        by (inl g) = NamedMain ss e (sym g)
        by (inr n) = absurd (within_none s n)

    last_of : Within (main_symbols f.main) s ⊎ Within (map (variable_symbol (used_names f)) f.after) s → Named f s
    last_of (inl m) = main_by f.main refl m
    last_of (inr a) = variable_after_of a

    second_of : Within (map (variable_symbol (used_names f)) f.before) s ⊎ Within (main_symbols f.main ++ map (variable_symbol (used_names f)) f.after) s → Named f s
    second_of (inl b) = variable_before_of b
    second_of (inr r) = last_of (within_append (main_symbols f.main) (map (variable_symbol (used_names f)) f.after) s r)

    first_of : Within (system_symbols (statements f.main)) s ⊎ Within (declared_symbols f) s → Named f s
    first_of (inl v) = system (within_append (used_if (list_any is_exits (statements f.main)) exits_used) (used_if (list_any is_write (statements f.main)) write_used) s v)
    first_of (inr r) = second_of (within_append (map (variable_symbol (used_names f)) f.before) (main_symbols f.main ++ map (variable_symbol (used_names f)) f.after) s r)

-- The symbols of the built-in module

pub data BuiltIn (s : Symbol) : Type 0 where
  IsLocal : s.local ≡ true → BuiltIn s
  UsesMain : s ≡ used_main → BuiltIn s
  HasCall : Within system_names s.name → s.sig ≡ call_signature s.name → is_text s.body ≡ true → BuiltIn s

pub built_in_of : (k : ℕ) (s : Symbol) → slice_get builtin_symbols k ≡ Some s → BuiltIn s
built_in_of zero s e = subst BuiltIn (some_is e) (IsLocal refl)
built_in_of (suc zero) s e = subst BuiltIn (some_is e) (IsLocal refl)
built_in_of (suc (suc zero)) s e = subst BuiltIn (some_is e) (UsesMain refl)
built_in_of (suc (suc (suc zero))) s e = subst BuiltIn (some_is e) (IsLocal refl)
built_in_of (suc (suc (suc (suc zero)))) s e = subst BuiltIn (some_is e) (HasCall (0, refl) refl refl)
built_in_of (suc (suc (suc (suc (suc zero))))) s e = subst BuiltIn (some_is e) (HasCall (1, refl) refl refl)
built_in_of (suc (suc (suc (suc (suc (suc zero)))))) s e = subst BuiltIn (some_is e) (HasCall (2, refl) refl refl)
built_in_of (suc (suc (suc (suc (suc (suc (suc zero))))))) s e = subst BuiltIn (some_is e) (IsLocal refl)
built_in_of (suc (suc (suc (suc (suc (suc (suc (suc k)))))))) s e = absurd (none_not e)

-- a system call's definition
pub record CallAt (x : List ℕ) : Type 0 where
  pub number : ℕ
  pub symbol : Symbol
  pub there : slice_get builtin_symbols number ≡ Some symbol
  pub global : symbol.local ≡ false
  pub named : symbol.name ≡ x
  pub text : is_text symbol.body ≡ true

pub call_at : (x : List ℕ) → Within system_names x → CallAt x
call_at x w = go w.0 w.1
  where
    go : (k : ℕ) → slice_get system_names k ≡ Some x → CallAt x
    go zero e = subst CallAt (some_is e) (record { number = 4; symbol = _; there = refl; global = refl; named = refl; text = refl })
    go (suc zero) e = subst CallAt (some_is e) (record { number = 5; symbol = _; there = refl; global = refl; named = refl; text = refl })
    go (suc (suc zero)) e = subst CallAt (some_is e) (record { number = 6; symbol = _; there = refl; global = refl; named = refl; text = refl })
    go (suc (suc (suc k))) e = absurd (none_not e)

-- Where a symbol stands

pub data Owner (files : List File) (i k : ℕ) (s : Symbol) : Type 0 where
  OfFile : (f : File) → slice_get files i ≡ Some f → slice_get (symbols_of f) k ≡ Some s → Owner files i k s
  OfSuite : i ≡ length files → slice_get builtin_symbols k ≡ Some s → Owner files i k s

pub owner_at : (files : List File) (i k : ℕ) (s : Symbol) → symbol_at (linked (map module_of files)) (place_of i k) ≡ Some s → Owner files i k s
owner_at [] zero k s e = OfSuite refl e
owner_at [] (suc zero) k s e = absurd (none_not e)
owner_at [] (suc (suc i)) k s e = absurd (none_not e)
owner_at (f ∷ files) zero k s e = OfFile f refl e
owner_at (f ∷ files) (suc i) k s e = later (owner_at files i k s e)
  where
    later : Owner files i k s → Owner (f ∷ files) (suc i) k s
    later (OfFile g e w) = OfFile g e w
    later (OfSuite e w) = OfSuite (ap suc e) w

pub owner_of : (files : List File) (d : Def) (s : Symbol) → symbol_at (linked (map module_of files)) d ≡ Some s → Owner files d.«module» d.symbol s
owner_of files d s e = owner_at files d.«module» d.symbol s e

pub built_in_there : (files : List File) (k : ℕ) (s : Symbol) → slice_get builtin_symbols k ≡ Some s → symbol_at (linked (map module_of files)) (place_of (length files) k) ≡ Some s
built_in_there [] k s e = e
built_in_there (f ∷ files) k s e = built_in_there files k s e
