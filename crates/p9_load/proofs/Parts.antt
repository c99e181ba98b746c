-- The parts of an executable, by what the layout holds.
use Rattle.std.proofs.Common.{ℕ, ◌≡◌, Option, List, ◌++◌, ◌∷◌, [], map, sym, ap, ◌∙◌}
use Rattle.std.specs.Prelude.{flat_map}
use Rattle.p9_abs.specs.declared.modules.AModule.{AModule}
use Rattle.p9_abs.specs.declared.modules.Def.{Def}
use Rattle.p9_abs.specs.declared.modules.Symbol.{Symbol}
use Rattle.p9_abs.specs.BuiltIn.{builtin_module, linked}
use Rattle.p9_abs.specs.Names.{symbol_at}
use Rattle.p9_abs.specs.Runs.{Routine}
use Rattle.p9_abs.specs.Programs.{Placing, routines_of, inits_of, bss_of, records, address_of, object_bytes, init_bytes}
use Rattle.p9_place.specs.declared.placing.Spot.{Spot}
use Rattle.p9_place.specs.Places.{spots, def_of}
use Rattle.p9_r3k.specs.declared.lines.Line.{Line}
use Rattle.p9_image.specs.Text.{address_at, text_bytes}
use Rattle.p9_data.specs.Data.{records_bytes}
use Rattle.p9_aout.specs.declared.format.AoutSym.{AoutSym}
use Rattle.p9_symbols.specs.declared.entries.Section.{Section}
use Rattle.p9_symbols.specs.declared.entries.Section.TheVariants.{Text, Data, Bss}
use Rattle.p9_symbols.specs.Tables.{tables_from, symbol_tables}
use Rattle.p9_symbols.specs.Entries.{entries_of, routine_def, defs_of, place_of, symbol_entries}
use Rattle.p9_symbols.proofs.Placed.{spots-defs}
use Rattle.p9_symbols.proofs.Reading.{symbol_addresses}

pub tables-same : (modules seen : List AModule) (p : Placing) (address : Def → ℕ) (tables : List (List ℕ)) → seen ≡ modules → address ≡ address_of modules p →
    tables ≡ tables_from address 0 (linked seen) → tables ≡ symbol_tables modules p
tables-same modules seen p address tables e h t =
    t ∙ ap (λ f. tables_from f 0 (linked seen)) h ∙ ap (λ ms. tables_from (address_of modules p) 0 (linked ms)) e

pub init-same : (modules seen : List AModule) (p : Placing) (tables : List (List ℕ)) (bytes : List ℕ) → seen ≡ modules → tables ≡ symbol_tables modules p →
    bytes ≡ records_bytes tables (records (linked seen)) → bytes ≡ init_bytes modules p
init-same modules seen p tables bytes e t h =
    h ∙ ap (λ ms. records_bytes tables (records (linked ms))) e ∙ ap (λ l. records_bytes l (records (linked modules))) t
    ∙ ap (λ f. flat_map (object_bytes f) (inits_of (linked modules))) (symbol_addresses modules p)

pub entries-same : (modules : List AModule) (p : Placing) (symbol : Def → Option Symbol) (place : Def → ℕ) (rs : List Routine) (inits bss : List Spot) (size : ℕ) (entries : List AoutSym) →
    symbol ≡ symbol_at (linked modules) → place ≡ place_of modules p → rs ≡ routines_of modules →
    inits ≡ spots 0 (inits_of (linked modules)) → bss ≡ spots size (bss_of (linked modules)) →
    (let own = entries_of symbol place in entries ≡ own Text (map routine_def rs) ++ (own Data (map def_of inits) ++ own Bss (map def_of bss))) →
    entries ≡ symbol_entries modules p
entries-same modules p symbol place rs inits bss size entries e f g i b h =
    let own = entries_of (symbol_at (linked modules)) (place_of modules p) in
    h ∙ ap (λ s. entries_of s place Text (map routine_def rs) ++ (entries_of s place Data (map def_of inits) ++ entries_of s place Bss (map def_of bss))) e
    ∙ ap (λ a. entries_of (symbol_at (linked modules)) a Text (map routine_def rs) ++ (entries_of (symbol_at (linked modules)) a Data (map def_of inits) ++ entries_of (symbol_at (linked modules)) a Bss (map def_of bss))) f
    ∙ ap (λ l. own Text (map routine_def l) ++ (own Data (map def_of inits) ++ own Bss (map def_of bss))) g
    ∙ ap (λ l. own Text (map routine_def (routines_of modules)) ++ (own Data l ++ own Bss (map def_of bss))) (ap (map def_of) i ∙ spots-defs 0 (inits_of (linked modules)))
    ∙ ap (λ l. own Text (map routine_def (routines_of modules)) ++ (own Data (defs_of (inits_of (linked modules))) ++ own Bss l)) (ap (map def_of) b ∙ spots-defs size (bss_of (linked modules)))
