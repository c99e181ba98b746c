use Rattle.std.proofs.Common.{[], ◌∷◌, ◌++◌, length, if◌then◌else◌, codes, sym, ap, ◌∙◌}
use Rattle.std.proofs.lemmas.Bool.{eqb-false, not-true, not-false}
use Rattle.p9_lang.specs.Types.{tag_of}
use Rattle.p9_lang.specs.Agreement.{open_body}
use Rattle.p9_sig.specs.Parts.{writes, ◌⨟◌}
use Rattle.p9_sig.specs.Texts.{body_text}
use Rattle.p9_sig.specs.Writing.{final_text}
use Rattle.p9_sig.proofs.Steps.{first_step, again_step}
use Rattle.p9_sig.proofs.writer.Writer.write_tag.Goals as goal

pub returns-in_ok-write_body-2-clause-then : goal.returns-in_ok-write_body-2-clause-then
returns-in_ok-write_body-2-clause-then c = λ part.
    c.in_ok-write_body-2.ensures.then part
    ∙ first_step part c.args.self.now.text.items c.args.self.now.tasks.items c.args.self.now.met c.meet.new.self c.args.tag.now.name (body_text part c.args.tag.now.is_union c.args.tag.now.name (open_body (tag_of c.args.tag.now)))
    (eqb-false (length c.args.tag.now.name) 0 (sym c.is_nameless.ensures ∙ c.if-is_nameless.false))
    (not-true _ (sym c.in_ok-first.ensures.first ∙ c.if-first.true))
    (c.in_ok-first.ensures.met ∙ ap (λ b. if b then c.args.self.now.met ++ c.args.tag.now.name ∷ [] else c.args.self.now.met) c.if-first.true)

pub returns-in_ok-write_again-clause-then : goal.returns-in_ok-write_again-clause-then
returns-in_ok-write_again-clause-then c = λ part.
    c.in_ok-write_again.ensures.then part
    ∙ ap (λ met. final_text part c.args.self.now.text.items c.args.self.now.tasks.items met (writes (codes "@") ⨟ writes c.args.tag.now.name ⨟ writes (codes ";")))
    (c.in_ok-first.ensures.met ∙ ap (λ b. if b then c.args.self.now.met ++ c.args.tag.now.name ∷ [] else c.args.self.now.met) c.if-first.false)
    ∙ again_step part c.args.self.now.text.items c.args.self.now.tasks.items c.args.self.now.met c.args.tag.now.name (body_text part c.args.tag.now.is_union c.args.tag.now.name (open_body (tag_of c.args.tag.now)))
    (eqb-false (length c.args.tag.now.name) 0 (sym c.is_nameless.ensures ∙ c.if-is_nameless.false))
    (not-false _ (sym c.in_ok-first.ensures.first ∙ c.if-first.false))
