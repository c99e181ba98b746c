use Rattle.std.proofs.Common.{◌≤◌, ◌^◌, length, true, false, sym, subst}
use Rattle.p9_lex.specs.declared.token.Dialect.TheVariants.{Asm}
use Rattle.p9_lex.specs.Made.{AreTokens}
use Rattle.p9_asm.proofs.Named.{tokens_names}
use Rattle.p9_asm.proofs.Valid.{valid_told}
use Rattle.p9_asm.proofs.Small.{tokens_small}
use Rattle.p9_asm.proofs.Fitting.{fits_told}
use Rattle.p9_asm.proofs.Telling.{same_lexed, module_told, fault_told}
use Rattle.p9_asm.proofs.assembler.assemble.Goals as goal

pub returns-clause-module : goal.returns-clause-module
returns-clause-module c =
    module_told c.args.bytes.now c.deref.result.now c.assembled.result (same_lexed c.args.bytes.now c.in_ok-tokens.tokens.list.items c.deref.result.now c.in_ok-tokens.ensures.tokens c.deref.ensures.value) c.assembled.ensures.module

pub returns-clause-refused : goal.returns-clause-refused
returns-clause-refused c =
    fault_told c.args.bytes.now c.deref.result.now c.assembled.result (same_lexed c.args.bytes.now c.in_ok-tokens.tokens.list.items c.deref.result.now c.in_ok-tokens.ensures.tokens c.deref.ensures.value) c.assembled.ensures.refused

pub returns-clause-valid : goal.returns-clause-valid
returns-clause-valid c =
    let made = subst (AreTokens Asm 0 true false c.args.bytes.now) (sym c.deref.ensures.value) c.in_ok-tokens.ensures.made in
    valid_told c.deref.result.now c.assembled.result (tokens_names Asm 0 true false c.args.bytes.now c.deref.result.now made) c.assembled.ensures.module

pub returns-clause-fits : goal.returns-clause-fits
returns-clause-fits c =
    let made = subst (AreTokens Asm 0 true false c.args.bytes.now) (sym c.deref.ensures.value) c.in_ok-tokens.ensures.made in
    let few = subst (λ ts. length ts ≤ 2 ^ 25) (sym c.deref.ensures.value) c.in_ok-tokens.ensures.few in
    fits_told c.deref.result.now c.assembled.result (tokens_small Asm 0 true false c.args.bytes.now c.deref.result.now made) few c.assembled.ensures.module
