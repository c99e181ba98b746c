use Rattle.std.proofs.Common.{subst}
use Rattle.p9_lang.specs.Types.{type_of, tags_of}
use Rattle.p9_lang.specs.Layout.{layout}
use Rattle.p9_types.specs.Capping.{Alike}
use Rattle.p9_types.specs.Told.{told, told_option}
use Rattle.p9_types.proofs.Laid.{none_alike, exact_alike, large_alike}
use Rattle.p9_types.proofs.laying.layout.Goals as goal

pub returns-in-None-clause-incomplete : goal.returns-in-None-clause-incomplete
returns-in-None-clause-incomplete c = λ same.
    none_alike (layout (tags_of c.args.tags.now.list) (type_of c.args.ty.now))
    (subst (λ o. Alike (told_option o) (layout (tags_of c.args.tags.now.list) (type_of c.args.ty.now))) c.in-None.is (subst (λ ts. Alike (told_option c.in_ok-extent_within.field-0) (layout (tags_of ts) (type_of c.args.ty.now))) c.as_slice.ensures c.in_ok-extent_within.ensures.extent))

pub returns-then-extent-gt-LIMIT-clause-too_large : goal.returns-then-extent-gt-LIMIT-clause-too_large
returns-then-extent-gt-LIMIT-clause-too_large c = λ same.
    large_alike (told c.in-Some.extent) (layout (tags_of c.args.tags.now.list) (type_of c.args.ty.now)) c.if-extent-gt-LIMIT.true
    (subst (λ o. Alike (told_option o) (layout (tags_of c.args.tags.now.list) (type_of c.args.ty.now))) c.in-Some.is (subst (λ ts. Alike (told_option c.in_ok-extent_within.field-0) (layout (tags_of ts) (type_of c.args.ty.now))) c.as_slice.ensures c.in_ok-extent_within.ensures.extent))

pub returns-clause-layout : goal.returns-clause-layout
returns-clause-layout c =
    exact_alike (told c.in-Some.extent) (layout (tags_of c.args.tags.now.list) (type_of c.args.ty.now)) c.if-extent-gt-LIMIT.false
    (subst (λ o. Alike (told_option o) (layout (tags_of c.args.tags.now.list) (type_of c.args.ty.now))) c.in-Some.is (subst (λ ts. Alike (told_option c.in_ok-extent_within.field-0) (layout (tags_of ts) (type_of c.args.ty.now))) c.as_slice.ensures c.in_ok-extent_within.ensures.extent))
