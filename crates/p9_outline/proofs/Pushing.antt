-- The symbols of names of file scope, one after the other.
use Rattle.std.proofs.Common.{◌≡◌, ℕ, zero, suc, ◌+◌, Bool, List, [], ◌∷◌, ◌++◌, Some, bytes_eq, slice_get, drop, sym, ap, ◌∙◌, append_assoc, add-one}
use Rattle.std.specs.Borrow.{Bor}
use Rattle.std.specs.Map.{lookup}
use Rattle.p9_lang.specs.declared.module.Module.{Module}
use Rattle.p9_lang.specs.Symbols.{Symbol}
use Rattle.p9_outline.specs.declared.summary.Known.{Known}
use Rattle.p9_outline.specs.Summaries.{symbols_by, outer_symbols}
use Rattle.p9_outline.specs.Told.{told_entry, names_told, known_told}
use Rattle.p9_outline.proofs.Telling.{told_in}

drop_at : {X : Type 0} (xs : List X) (at : ℕ) (x : X) → slice_get xs at ≡ Some x → drop at xs ≡ x ∷ drop (suc at) xs
drop_at [] at x e = cc
drop_at (y ∷ ys) zero x e = cc
drop_at (y ∷ ys) (suc at) x e = drop_at ys at x e

pub outer_passed : (m : Module) (local used : List ℕ → Bool) (es : List (Bor (List ℕ) × Known)) (at : ℕ) (e : Bor (List ℕ) × Known) (is_local is_used : Bool)
    (s0 s1 all : List Symbol) → slice_get es at ≡ Some e → Some e.1 ≡ lookup (λ k. bytes_eq e.0.now k.now) es
    → is_local ≡ local e.0.now → is_used ≡ used e.0.now
    → s1 ≡ s0 ++ symbols_by is_local is_used (told_entry m e)
    → s0 ++ outer_symbols local used (known_told m es) (names_told (drop at es)) ≡ all
    → s1 ++ outer_symbols local used (known_told m es) (names_told (drop (at + 1) es)) ≡ all
outer_passed m local used es at e is_local is_used s0 s1 all g f l u h k =
    let name = e.0.now in
    let known = known_told m es in
    ap (λ n. s1 ++ outer_symbols local used known (names_told (drop n es))) (add-one at)
    ∙ ap (λ s. s ++ outer_symbols local used known (names_told (drop (suc at) es)))
    (h ∙ ap (λ b. s0 ++ symbols_by b is_used (told_entry m e)) l ∙ ap (λ b. s0 ++ symbols_by (local name) b (told_entry m e)) u
    ∙ ap (λ s. s0 ++ symbols_by (local name) (used name) (name, s)) (told_in m es name e.1 f))
    ∙ append_assoc s0 (symbols_by (local name) (used name) (name, known name)) (outer_symbols local used known (names_told (drop (suc at) es)))
    ∙ ap (λ l. s0 ++ outer_symbols local used known (names_told l)) (sym (drop_at es at e g))
    ∙ k
