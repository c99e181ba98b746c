use Rattle.p9_form.specs.Scanning.{seen}
use Rattle.p9_form.proofs.ParseItems.{no_file}
use Rattle.p9_form.proofs.ParseSizes.{file_small}
use Rattle.p9_form.proofs.ParseTrees.{file_is}
use Rattle.p9_form.proofs.parse.parse.Goals as goal

pub returns-in-Ok-clause-written : goal.returns-in-Ok-clause-written
returns-in-Ok-clause-written c = file_is (seen c.args.tokens.now) c.in-Ok.file c.in-Ok.ensures.ok

pub returns-in-Ok-clause-small : goal.returns-in-Ok-clause-small
returns-in-Ok-clause-small c = file_small (seen c.args.tokens.now) c.in-Ok.file c.in-Ok.ensures.ok

pub returns-in-Err-NoForm-clause-complete : goal.returns-in-Err-NoForm-clause-complete
returns-in-Err-NoForm-clause-complete c =
    λ items h e. absurd (no_file (seen c.args.tokens.now) (c.in-Err-NoForm.ensures.err c.in-Err-NoForm.field-0-is) items h e)
