-- Definitions lie where they are held to lie.
use Rattle.std.proofs.Common.{ℕ, zero, suc, ◌+◌, ◌≡◌, ◌<◌, Bool, true, false, Option, Some, None, List, [], ◌∷◌, ◌++◌, length, sum_by, take, map, cond, refl, sym, ap, ◌∙◌, arith, append_assoc, length-append}
use Rattle.std.specs.Prelude.{option_map, option_and_then, unwrap_or, slice_index}
use Rattle.std.specs.Option.{option_or}
use Rattle.std.proofs.Math.Path.{fun_ext}
use Rattle.std.proofs.Math.Seq.{take-append_seam}
use Rattle.std.proofs.lemmas.List.Sums.{sum_by-cons, sum_by-append}
use Rattle.p9_abs.specs.declared.modules.AModule.{AModule}
use Rattle.p9_abs.specs.declared.modules.Def.{Def}
use Rattle.p9_abs.specs.declared.modules.Symbol.{Symbol}
use Rattle.p9_abs.specs.Names.{symbol_at}
use Rattle.p9_abs.specs.BuiltIn.{linked}
use Rattle.p9_abs.specs.Runs.{Routine}
use Rattle.p9_abs.specs.Programs.{Placing, Numbered, is_routine, routine_number, routines_of, placed_at, definition_of, stands_for, address_of, address_of_definition, offset_in, data_objects, space_of}
use Rattle.p9_names.specs.Linking.{IsTable, ChoosesAll}
use Rattle.p9_place.specs.declared.placing.Spot.{Spot}
use Rattle.p9_place.specs.Places.{spots, def_of}
use Rattle.p9_place.proofs.Owning.{held-chosen}
use Rattle.p9_text.specs.Places.{places_of}
use Rattle.p9_text.specs.Entries.{entry_number}
use Rattle.p9_pieces.specs.Callees.{named_by}
use Rattle.p9_symbols.specs.Placing.{entry_of, data_start_of, placing_of}
use Rattle.p9_symbols.specs.Entries.{place_of, defs_of}
use Rattle.p9_symbols.specs.Held.{placed_by, address_by}

-- Functions

entry-at : (done rs : List Routine) (n f : ℕ) → n ≡ sum_by places_of done → f ≡ length done → n ≡ entry_of (done ++ rs) f
entry-at done rs n f e g =
    e ∙ ap (sum_by places_of) (sym (take-append_seam done rs)) ∙ ap (λ k. sum_by places_of (take k (done ++ rs))) (sym g)

-- a definition's entry is that of its function
numbered : (done rs : List Routine) (n f : ℕ) (d : Def) → n ≡ sum_by places_of done → f ≡ length done →
    entry_number rs n d ≡ option_map (entry_of (done ++ rs)) (routine_number rs f d)
numbered done [] n f d e g = refl
numbered done (r ∷ rs) n f d e g =
    ap (λ o. cond (is_routine d r) (Some n) o)
    (numbered (done ++ r ∷ []) rs (n + places_of r) (f + 1) d
    (omega (arith, sum_by-append places_of done (r ∷ []), sum_by-cons places_of r []))
    (omega (arith, length-append done (r ∷ [])))
    ∙ ap (λ l. option_map (entry_of l) (routine_number rs (f + 1) d)) (append_assoc done (r ∷ []) rs))
    ∙ by (is_routine d r)
  where
    by : (b : Bool) → cond b (Some n) (option_map (entry_of (done ++ r ∷ rs)) (routine_number rs (f + 1) d)) ≡ option_map (entry_of (done ++ r ∷ rs)) (cond b (Some f) (routine_number rs (f + 1) d))
    by true = ap (λ k. Some k) (entry-at done (r ∷ rs) n f e g)
    by false = refl

placed-at : (modules : List AModule) (places : List ℕ) (size : ℕ) (d : Def) (o : Option ℕ) →
    placed_by places (data_start_of size) (offset_in 0 (data_objects (linked modules)) d) (option_map (entry_of (routines_of modules)) o)
    ≡ placed_at modules (placing_of modules places size) d o
placed-at modules places size d None = refl
placed-at modules places size d (Some f) = refl

place-same : (modules : List AModule) (places : List ℕ) (size start : ℕ) (offset number : Def → Option ℕ) → start ≡ data_start_of size →
    ((d : Def) → offset d ≡ offset_in 0 (data_objects (linked modules)) d) → ((d : Def) → number d ≡ entry_number (routines_of modules) 0 d) → (d : Def) →
    placed_by places start (offset d) (number d) ≡ place_of modules (placing_of modules places size) d
place-same modules places size start offset number e h k d =
    ap (λ n. placed_by places n (offset d) (number d)) e
    ∙ ap (λ o. placed_by places (data_start_of size) o (number d)) (h d)
    ∙ ap (λ o. placed_by places (data_start_of size) (offset_in 0 (data_objects (linked modules)) d) o) (k d ∙ numbered [] (routines_of modules) 0 0 d refl refl)
    ∙ placed-at modules places size d (routine_number (routines_of modules) 0 d)

pub places_same : (modules : List AModule) (places : List ℕ) (size start : ℕ) (offset number : Def → Option ℕ) → start ≡ data_start_of size →
    ((d : Def) → offset d ≡ offset_in 0 (data_objects (linked modules)) d) → ((d : Def) → number d ≡ entry_number (routines_of modules) 0 d) →
    (let f : Def → ℕ = λ d. placed_by places start (offset d) (number d) in f ≡ place_of modules (placing_of modules places size))
places_same modules places size start offset number e h k = fun_ext (λ d. place-same modules places size start offset number e h k d)

-- Symbols

named-same : (ms : List AModule) (table : List (List ℕ × Def)) (d : Def) → IsTable ms table → ChoosesAll ms table → (o : Option Symbol) →
    option_and_then (named_by table d) o ≡ option_and_then (stands_for ms d) o
named-same ms table d is chooses None = refl
named-same ms table d is chooses (Some s) = ap (λ o. cond s.local (Some d) o) (held-chosen ms table s.name is chooses)

address-by : (modules : List AModule) (p : Placing) (o : Option Def) → address_by (place_of modules p) o ≡ address_of_definition modules p o
address-by modules p None = refl
address-by modules p (Some d) = refl

pub addresses_same : (modules seen : List AModule) (table : List (List ℕ × Def)) (p : Placing) (place : Def → ℕ) → seen ≡ linked modules →
    IsTable (linked modules) table → ChoosesAll (linked modules) table → place ≡ place_of modules p →
    (let f : Def → ℕ = λ d. address_by place (option_and_then (named_by table d) (symbol_at seen d)) in f ≡ address_of modules p)
addresses_same modules seen table p place e is chooses h = fun_ext each
  where
    each : (d : Def) → address_by place (option_and_then (named_by table d) (symbol_at seen d)) ≡ address_of modules p d
    each d =
        ap (λ f. address_by f (option_and_then (named_by table d) (symbol_at seen d))) h
        ∙ ap (λ ms. address_by (place_of modules p) (option_and_then (named_by table d) (symbol_at ms d))) e
        ∙ ap (address_by (place_of modules p)) (named-same (linked modules) table d is chooses (symbol_at (linked modules) d))
        ∙ address-by modules p (definition_of (linked modules) d)

-- Data

-- the definitions of what is placed
pub spots-defs : (at : ℕ) (rs : List Numbered) → map def_of (spots at rs) ≡ defs_of rs
spots-defs at [] = refl
spots-defs at (r ∷ rest) = ap (λ l. r.def ∷ l) (spots-defs (at + space_of r) rest)
