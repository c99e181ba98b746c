use Rattle.std.proofs.Common.{◌≡◌, ap, ◌∙◌, arith, length, ℕ}
use Rattle.std.specs.Prelude.{unwrap_or}
use Rattle.std.specs.Option.{option_or}
use Rattle.p9_abs.specs.declared.modules.Def.{Def}
use Rattle.p9_abs.specs.BuiltIn.{linked}
use Rattle.p9_abs.specs.Programs.{bss_of, offset_in, data_objects}
use Rattle.p9_place.specs.Places.{spots}
use Rattle.p9_expand.specs.Base.{behind, spot_offset, base_symbol}
use Rattle.p9_expand.proofs.Basing.{offset_found}
use Rattle.p9_expand.proofs.expanding.base_offset.Goals as goal

pub returns : goal.returns
returns c =
    let ms = linked c.args.modules.now.items in
    let d : Def = record { «module» = c.len.result; symbol = 1 } in
    let found : c.or-offset.result ≡ option_or (spot_offset c.deref.result.now d) (spot_offset c.deref-2.result.now d) = grind arith in
    let there : c.or-offset.result ≡ offset_in 0 (data_objects ms) d = found ∙ offset_found ms d c.deref.result.now c.deref-2.result.now (c.deref.ensures.value ∙ c.requires.inits) (c.deref-2.ensures.value ∙ c.requires.bss ∙ ap (λ n. spots n (bss_of ms)) c.requires.data_size) in
    let count : c.len.result ≡ length c.args.modules.now.items = grind arith in
    let own : d ≡ base_symbol c.args.modules.now.items = ap (λ (n : ℕ). record { «module» = n; symbol = 1 }) count in
    c.behind.ensures ∙ ap behind (c.unwrap_or.ensures ∙ ap (λ o. unwrap_or o 0) (there ∙ ap (offset_in 0 (data_objects ms)) own))
