use Rattle.std.proofs.Common.{[], ◌∷◌, ◌++◌, sym, subst, ◌∙◌}
use Rattle.p9_lang.specs.Types.{tags_of}
use Rattle.p9_types.specs.declared.reaching.Task.TheVariants.{Visit, Finish}
use Rattle.p9_types.specs.Tasks.{Awaits, Advances}
use Rattle.p9_types.proofs.Advancing.{without_last, entered, inner_known}
use Rattle.p9_types.proofs.reaching.take_task.Goals as goal

pub returns-then-is_known : goal.returns-then-is_known
returns-then-is_known c =
    subst (λ t. Advances (tags_of c.args.tags.now) c.args.known.now.map.entries (c.args.tasks.now.items ++ t ∷ []) c.args.known.now.map.entries c.args.tasks.now.items) (sym c.in-Visit.is)
    (without_last (tags_of c.args.tags.now) c.args.known.now.map.entries c.args.known.now.map.entries c.args.tasks.now.items (Visit c.in-Visit.number) c.requires.ends c.requires.sound
    (λ i k. k) (sym c.is_known.ensures ∙ c.if-is_known.true)
    (subst (λ t. Awaits (tags_of c.args.tags.now) c.args.known.now.map.entries (c.args.tasks.now.items ++ t ∷ [])) c.in-Visit.is c.requires.awaits))

pub returns-in_ok-enter-in-Visit : goal.returns-in_ok-enter-in-Visit
returns-in_ok-enter-in-Visit c =
    subst (λ t. Advances (tags_of c.args.tags.now) c.args.known.now.map.entries (c.args.tasks.now.items ++ t ∷ []) c.args.known.now.map.entries c.enter.new.tasks.items) (sym c.in-Visit.is)
    (entered (tags_of c.args.tags.now) c.args.known.now.map.entries c.args.tasks.now.items c.enter.new.tasks.items c.in-Visit.number c.requires.ends c.requires.sound
    (subst (λ t. Awaits (tags_of c.args.tags.now) c.args.known.now.map.entries (c.args.tasks.now.items ++ t ∷ [])) c.in-Visit.is c.requires.awaits)
    c.in_ok-enter-in-Visit.ensures)

pub finish-requires-clause-inner : goal.finish-requires-clause-inner
finish-requires-clause-inner c =
    inner_known (tags_of c.args.tags.now) c.args.known.now.map.entries c.args.tasks.now.items c.in-Finish.number
    (subst (λ t. Awaits (tags_of c.args.tags.now) c.args.known.now.map.entries (c.args.tasks.now.items ++ t ∷ [])) c.in-Finish.is c.requires.awaits)

pub returns-in_ok-finish-in-Finish : goal.returns-in_ok-finish-in-Finish
returns-in_ok-finish-in-Finish c =
    subst (λ t. Advances (tags_of c.args.tags.now) c.args.known.now.map.entries (c.args.tasks.now.items ++ t ∷ []) c.finish.new.known.map.entries c.args.tasks.now.items) (sym c.in-Finish.is)
    (without_last (tags_of c.args.tags.now) c.args.known.now.map.entries c.finish.new.known.map.entries c.args.tasks.now.items (Finish c.in-Finish.number) c.requires.ends
    c.in_ok-finish-in-Finish.ensures.sound c.in_ok-finish-in-Finish.ensures.keeps c.in_ok-finish-in-Finish.ensures.known
    (subst (λ t. Awaits (tags_of c.args.tags.now) c.args.known.now.map.entries (c.args.tasks.now.items ++ t ∷ [])) c.in-Finish.is c.requires.awaits))
