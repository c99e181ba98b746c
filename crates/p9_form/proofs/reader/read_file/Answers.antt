use Rattle.std.proofs.Common.{◌∙◌}
use Rattle.p9_form.proofs.ParseForms.{not_scanned, not_parsed}
use Rattle.p9_form.proofs.reader.read_file.Goals as goal

pub returns-in_default-clause-no_form : goal.returns-in_default-clause-no_form
returns-in_default-clause-no_form c =
    λ e. not_scanned c.args.bytes.now c.as_slice.result.now c.in_ok-tokens.field-0 (c.as_slice.ensures.value ∙ c.bytes.view_is) c.in_ok-tokens.ensures.exact c.in_default.is

pub returns-clause-no_form : goal.returns-clause-no_form
returns-clause-no_form c =
    λ e. not_parsed c.args.bytes.now c.as_slice.result.now c.in_ok-tokens.field-0 c.in-Some.tokens c.as_slice-2.result.now c.parse.result
    (c.as_slice.ensures.value ∙ c.bytes.view_is) c.in_ok-tokens.ensures.exact c.in-Some.is (c.as_slice-2.ensures.value ∙ c.tokens.view_is) c.parse.ensures.complete e
