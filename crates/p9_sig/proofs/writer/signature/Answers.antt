use Rattle.std.proofs.Common.{[], length, IsSome, sym, ap, ◌∙◌, subst, arith}
use Rattle.p9_lang.specs.Types.{type_of, tags_of}
use Rattle.p9_sig.specs.Parts.{writes}
use Rattle.p9_sig.specs.Texts.{type_text, signature_text}
use Rattle.p9_sig.specs.Writing.{task_text, final_text, final, tag_part, Keeps}
use Rattle.p9_sig.proofs.Ending.{types_have_texts}
use Rattle.p9_sig.proofs.Telling.{texts_tell_types}
use Rattle.p9_sig.proofs.Steps.{first_state, taken, kept_is, some_as, at_least, ended, empty_by_length}
use Rattle.p9_sig.proofs.writer.signature.Goals as goal

pub write-init : goal.write-init
write-init c = (
  c.in_ok-keep.ensures.then (tag_part (tags_of c.args.tags.now.list)) (writes [])
      ∙ first_state (tag_part (tags_of c.args.tags.now.list)) c.new.result.items c.new-3.result.items c.new-2.result (type_text (tag_part (tags_of c.args.tags.now.list)) (type_of c.args.ty.now)) c.new.ensures.items c.new-3.ensures.items c.new-2.ensures,
  let none = ap length c.new.ensures.items in
      let same = c.in_ok-keep.ensures.same_text in
      omega arith,
)

pub write_task-requires : goal.write_task-requires
write_task-requires c =
    subst (λ ts. IsSome (final_text (tag_part (tags_of ts)) c.write.writer.text.items c.pop.new.self.items c.write.writer.met (task_text (tag_part (tags_of ts)) c.in-Some.task)))
    (sym c.as_slice.ensures)
    (some_as (final_text (tag_part (tags_of c.args.tags.now.list)) c.write.writer.text.items c.pop.new.self.items c.write.writer.met (task_text (tag_part (tags_of c.args.tags.now.list)) c.in-Some.task)) (signature_text (tags_of c.args.tags.now.list) (type_of c.args.ty.now))
    (types_have_texts (tags_of c.args.tags.now.list) (type_of c.args.ty.now) c.requires.valid c.requires.over)
    (sym (taken (tag_part (tags_of c.args.tags.now.list)) c.write.writer.text.items c.write.writer.tasks.items c.pop.new.self.items c.in-Some.task c.write.writer.met c.in-Some.ensures.items) ∙ c.write.invariant.0))

pub returns-then-len-gt-LIMIT-clause-too_long : goal.returns-then-len-gt-LIMIT-clause-too_long
returns-then-len-gt-LIMIT-clause-too_long c = λ same.
    at_least (tag_part (tags_of c.args.tags.now.list)) c.write_task.new.self.text.items c.write_task.new.self.tasks.items c.write_task.new.self.met (writes []) (signature_text (tags_of c.args.tags.now.list) (type_of c.args.ty.now)) 65536
    (kept_is (final_text (tag_part (tags_of c.args.tags.now.list)) c.write.writer.text.items c.pop.new.self.items c.write.writer.met (task_text (tag_part (tags_of c.args.tags.now.list)) c.in-Some.task)) (final (tag_part (tags_of c.args.tags.now.list)) c.write_task.new.self (writes [])) (signature_text (tags_of c.args.tags.now.list) (type_of c.args.ty.now))
    (types_have_texts (tags_of c.args.tags.now.list) (type_of c.args.ty.now) c.requires.valid c.requires.over)
    (sym (taken (tag_part (tags_of c.args.tags.now.list)) c.write.writer.text.items c.write.writer.tasks.items c.pop.new.self.items c.in-Some.task c.write.writer.met c.in-Some.ensures.items) ∙ c.write.invariant.0)
    (subst (λ ts. Keeps (final_text (tag_part (tags_of ts)) c.write.writer.text.items c.pop.new.self.items c.write.writer.met (task_text (tag_part (tags_of ts)) c.in-Some.task)) (final (tag_part (tags_of ts)) c.write_task.new.self (writes [])))
    c.as_slice.ensures c.in_ok-write_task.ensures.then))
    (types_have_texts (tags_of c.args.tags.now.list) (type_of c.args.ty.now) c.requires.valid c.requires.over)
    (let over = c.if-len-gt-LIMIT.true in let size = c.len.ensures in omega arith)

pub write-preserved : goal.write-preserved
write-preserved c = (
  (kept_is (final_text (tag_part (tags_of c.args.tags.now.list)) c.write.writer.text.items c.pop.new.self.items c.write.writer.met (task_text (tag_part (tags_of c.args.tags.now.list)) c.in-Some.task)) (final (tag_part (tags_of c.args.tags.now.list)) c.write_task.new.self (writes [])) (signature_text (tags_of c.args.tags.now.list) (type_of c.args.ty.now))
      (types_have_texts (tags_of c.args.tags.now.list) (type_of c.args.ty.now) c.requires.valid c.requires.over)
      (sym (taken (tag_part (tags_of c.args.tags.now.list)) c.write.writer.text.items c.write.writer.tasks.items c.pop.new.self.items c.in-Some.task c.write.writer.met c.in-Some.ensures.items) ∙ c.write.invariant.0)
      (subst (λ ts. Keeps (final_text (tag_part (tags_of ts)) c.write.writer.text.items c.pop.new.self.items c.write.writer.met (task_text (tag_part (tags_of ts)) c.in-Some.task)) (final (tag_part (tags_of ts)) c.write_task.new.self (writes [])))
      c.as_slice.ensures c.in_ok-write_task.ensures.then)),
  let within = c.if-len-gt-LIMIT.false in let size = c.len.ensures in omega arith,
)

pub returns-clause-text : goal.returns-clause-text
returns-clause-text c =
    sym c.write.invariant.0
    ∙ ended (tag_part (tags_of c.args.tags.now.list)) c.write.writer.text.items c.write.writer.tasks.items c.write.writer.met
    (empty_by_length c.write.writer.tasks.items (sym c.write.writer.tasks.ok.0 ∙ c.in_default.ensures.cases.0))

pub returns-clause-tells : goal.returns-clause-tells
returns-clause-tells c =
    texts_tell_types (tags_of c.args.tags.now.list) (type_of c.args.ty.now) c.write.writer.text.items c.requires.valid c.requires.over
    (sym c.write.invariant.0
    ∙ ended (tag_part (tags_of c.args.tags.now.list)) c.write.writer.text.items c.write.writer.tasks.items c.write.writer.met
    (empty_by_length c.write.writer.tasks.items (sym c.write.writer.tasks.ok.0 ∙ c.in_default.ensures.cases.0)))
