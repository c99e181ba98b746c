-- Offsets of data among their spots.
use Rattle.std.proofs.Common.{ℕ, ◌+◌, ◌≡◌, Bool, true, false, Option, Some, List, [], ◌∷◌, ◌++◌, cond, sum_by, refl, sym, ap, ◌∙◌, arith}
use Rattle.std.specs.Option.{option_or}
use Rattle.std.proofs.lemmas.List.Sums.{sum_by-cons}
use Rattle.p9_abs.specs.declared.modules.AModule.{AModule}
use Rattle.p9_abs.specs.declared.modules.Def.{Def}
use Rattle.p9_abs.specs.Programs.{Numbered, same_def, space_of, offset_in, inits_of, bss_of, data_objects, init_size}
use Rattle.p9_place.specs.declared.placing.Spot.{Spot}
use Rattle.p9_place.specs.Places.{spots}
use Rattle.p9_expand.specs.Base.{spot_offset}

spots-offset : (at : ℕ) (rs : List Numbered) (d : Def) → spot_offset (spots at rs) d ≡ offset_in at rs d
spots-offset at [] d = refl
spots-offset at (r ∷ rest) d = ap (λ o. cond (same_def r.def d) (Some at) o) (spots-offset (at + space_of r) rest d)

offset-append : (at : ℕ) (xs ys : List Numbered) (d : Def) → offset_in at (xs ++ ys) d ≡ option_or (offset_in at xs d) (offset_in (at + sum_by space_of xs) ys d)
offset-append at [] ys d = ap (λ n. offset_in n ys d) (omega arith)
offset-append at (r ∷ rest) ys d =
    let far : at + space_of r + sum_by space_of rest ≡ at + sum_by space_of (r ∷ rest) = omega (arith, sum_by-cons space_of r rest) in
    ap (λ o. cond (same_def r.def d) (Some at) o) (offset-append (at + space_of r) rest ys d ∙ ap (λ n. option_or (offset_in (at + space_of r) rest d) (offset_in n ys d)) far)
    ∙ by (same_def r.def d) at (offset_in (at + space_of r) rest d) (offset_in (at + sum_by space_of (r ∷ rest)) ys d)
  where
    by : (b : Bool) (n : ℕ) (o p : Option ℕ) → cond b (Some n) (option_or o p) ≡ option_or (cond b (Some n) o) p
    by true n o p = refl
    by false n o p = refl

-- the offset among the spots of the data, else among those of the commons
pub offset_found : (ms : List AModule) (d : Def) (inits bss : List Spot) → inits ≡ spots 0 (inits_of ms) → bss ≡ spots (init_size ms) (bss_of ms) →
    option_or (spot_offset inits d) (spot_offset bss d) ≡ offset_in 0 (data_objects ms) d
offset_found ms d inits bss e f =
    ap (λ l. option_or (spot_offset l d) (spot_offset bss d)) e ∙ ap (λ l. option_or (spot_offset (spots 0 (inits_of ms)) d) (spot_offset l d)) f
    ∙ ap (λ o. option_or o (spot_offset (spots (init_size ms) (bss_of ms)) d)) (spots-offset 0 (inits_of ms) d)
    ∙ ap (λ o. option_or (offset_in 0 (inits_of ms) d) o) (spots-offset (init_size ms) (bss_of ms) d)
    ∙ ap (λ n. option_or (offset_in 0 (inits_of ms) d) (offset_in n (bss_of ms) d)) (omega arith)
    ∙ sym (offset-append 0 (inits_of ms) (bss_of ms) d)
