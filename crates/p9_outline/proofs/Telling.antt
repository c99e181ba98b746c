-- Names of file scope of the program after one more declaration.
use Rattle.std.proofs.Common.{◌≡◌, ℕ, Bool, true, false, List, [], ◌∷◌, ◌++◌, map, Option, Some, None, refl, sym, ap, ◌∙◌, cond}
use Rattle.std.specs.Prelude.{if◌then◌else◌, bytes_eq, unwrap_or}
use Rattle.std.specs.Borrow.{Bor}
use Rattle.std.specs.Map.{lookup}
use Rattle.indexmap.specs.IndexMap.{insert_entry}
use Rattle.p9_lang.specs.declared.module.Module.{Module}
use Rattle.p9_lang.specs.Names.{same_name}
use Rattle.p9_lang.specs.Types.{TypeTree, Tags}
use Rattle.p9_lang.specs.Symbols.{Declaration, SymbolKind}
use Rattle.p9_numbering.proofs.Noting.{same_bytes}
use Rattle.p9_outline.specs.declared.summary.Known.{Known}
use Rattle.p9_outline.specs.Summaries.{Summary, unknown, with_one, summary_in, declare_one, declare_all}
use Rattle.p9_outline.specs.Told.{told_known, told_entries, names_told}

abbrev told_found : Module → Option Known → Option Summary
told_found m None = None
told_found m (Some known) = Some (told_known m known)

lookup_told : (m : Module) (es : List (Bor (List ℕ) × Known)) (name : List ℕ)
    → lookup (same_name name) (told_entries m es) ≡ told_found m (lookup (λ k. bytes_eq name k.now) es)
lookup_told m [] name = refl
lookup_told m (e ∷ es) name =
    ap (λ b. cond b (Some (told_known m e.1)) (lookup (same_name name) (told_entries m es))) (same_bytes name e.0.now)
    ∙ ap (λ o. cond (bytes_eq name e.0.now) (Some (told_known m e.1)) o) (lookup_told m es name)
    ∙ by (bytes_eq name e.0.now) (lookup (λ k. bytes_eq name k.now) es)
  where
    by : (b : Bool) (o : Option Known) → cond b (Some (told_known m e.1)) (told_found m o) ≡ told_found m (cond b (Some e.1) o)
    by true o = refl
    by false o = refl

pub told_in : (m : Module) (es : List (Bor (List ℕ) × Known)) (name : List ℕ) (known : Known) → Some known ≡ lookup (λ k. bytes_eq name k.now) es
    → told_known m known ≡ summary_in name (told_entries m es)
told_in m es name known e =
    ap (λ o. unwrap_or (told_found m o) unknown) e ∙ ap (λ o. unwrap_or o unknown) (sym (lookup_told m es name))

pub told_not_in : (m : Module) (es : List (Bor (List ℕ) × Known)) (name : List ℕ) (summary : Summary) → None ≡ lookup (λ k. bytes_eq name k.now) es
    → summary ≡ unknown → summary ≡ summary_in name (told_entries m es)
told_not_in m es name summary e h =
    h ∙ ap (λ o. unwrap_or (told_found m o) unknown) e ∙ ap (λ o. unwrap_or o unknown) (sym (lookup_told m es name))

insert_told : (m : Module) (eq : Bor (List ℕ) → Bor (List ℕ) → Bool) → ((x y : Bor (List ℕ)) → eq x y ≡ bytes_eq x.now y.now)
    → (es : List (Bor (List ℕ) × Known)) (k : Bor (List ℕ)) (known : Known)
    → told_entries m (insert_entry eq es k known) ≡ insert_entry same_name (told_entries m es) k.now (told_known m known)
insert_told m eq same [] k known = refl
insert_told m eq same (e ∷ es) k known = by (eq k e.0) (same_name k.now e.0.now) (same k e.0 ∙ sym (same_bytes k.now e.0.now)) (insert_told m eq same es k known)
  where
    by : (b c : Bool) → b ≡ c → told_entries m (insert_entry eq es k known) ≡ insert_entry same_name (told_entries m es) k.now (told_known m known)
        → told_entries m (if b then (e.0, known) ∷ es else e ∷ insert_entry eq es k known)
        ≡ (if c then (e.0.now, told_known m known) ∷ told_entries m es
        else (e.0.now, told_known m e.1) ∷ insert_entry same_name (told_entries m es) k.now (told_known m known))
    by true true h g = refl
    by true false h g = cc
    by false true h g = cc
    by false false h g = ap (λ l. (e.0.now, told_known m e.1) ∷ l) g

pub told_one_more : (m : Module) (eq : Bor (List ℕ) → Bor (List ℕ) → Bool) → ((x y : Bor (List ℕ)) → eq x y ≡ bytes_eq x.now y.now)
    → (es later : List (Bor (List ℕ) × Known)) (k : Bor (List ℕ)) (known : Known) (old : Summary) (type : TypeTree) (kind : SymbolKind)
    → later ≡ insert_entry eq es k known → told_known m known ≡ with_one old type kind → old ≡ summary_in k.now (told_entries m es)
    → told_entries m later ≡ declare_one (told_entries m es) k.now type kind
told_one_more m eq same es later k known old type kind e h g =
    ap (told_entries m) e ∙ insert_told m eq same es k known
    ∙ ap (insert_entry same_name (told_entries m es) k.now) (h ∙ ap (λ s. with_one s type kind) g)

-- DECLARATIONS ONE AFTER THE OTHER

pub declare_more : (tags : Tags) (es : List (List ℕ × Summary)) (ds more : List Declaration)
    → declare_all tags es (ds ++ more) ≡ declare_all tags (declare_all tags es ds) more
declare_more tags es [] more = refl
declare_more tags es (d ∷ ds) more = declare_more tags (declare_all tags es (d ∷ [])) ds more

pub names_same : (m : Module) (es : List (Bor (List ℕ) × Known)) → names_told es ≡ map (λ e. e.0) (told_entries m es)
names_same m [] = refl
names_same m (e ∷ es) = ap (λ l. e.0.now ∷ l) (names_same m es)
