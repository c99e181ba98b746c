use Rattle.std.proofs.Common.{◌∙◌, Bool, List, [], ℕ, subst}
use Rattle.p9_base.specs.Outside.{FileCall}
use Rattle.p9_suite.specs.commands.Load.{TakesBytes, Decodes}
use Rattle.p9_suite.proofs.commands.load.module_of.Goals as goal

pub returns-then-is_text : goal.returns-then-is_text
returns-then-is_text c =
    subst (λ (b : Bool). TakesBytes {C = FileCall} b c.args.name.now c.args.bytes.now c.text_module.result []) c.if-is_text.ensures c.text_module.ensures

pub returns-else-is_text : goal.returns-else-is_text
returns-else-is_text c =
    subst (λ (b : Bool). TakesBytes {C = FileCall} b c.args.name.now c.args.bytes.now c.decoded.result []) c.if-is_text.ensures
    (subst (λ (x : List ℕ). Decodes {C = FileCall} c.args.name.now x c.decoded.result []) (c.deref.ensures.value ∙ c.bytes.view_is) c.decoded.ensures)
