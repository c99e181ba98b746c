use Rattle.std.proofs.Common.{sym, ◌∙◌}
use Rattle.p9_types.specs.declared.sought.Sought.TheVariants.{Nowhere, One, Several}
use Rattle.p9_lang.specs.Types.{tags_of}
use Rattle.p9_types.proofs.NamedMembers.{found_by}
use Rattle.p9_types.proofs.WrittenMembers.{tells_member}
use Rattle.p9_types.proofs.finding.find_member.Goals as goal

pub returns-in-Nowhere-clause-found : goal.returns-in-Nowhere-clause-found
returns-in-Nowhere-clause-found c =
    found_by c.as_slice-list.result.now c.args.tags.now.list c.args.tag c.args.name.now c.in_ok-find_by_levels.field-0 Nowhere
    c.as_slice-list.ensures (sym c.has_body.ensures ∙ c.if-not-has_body.false) c.in-Nowhere.is c.in_ok-find_by_levels.ensures

pub returns-in-One-clause-found : goal.returns-in-One-clause-found
returns-in-One-clause-found c =
    found_by c.as_slice-list.result.now c.args.tags.now.list c.args.tag c.args.name.now c.in_ok-find_by_levels.field-0 (One c.in-One.place)
    c.as_slice-list.ensures (sym c.has_body.ensures ∙ c.if-not-has_body.false) c.in-One.is c.in_ok-find_by_levels.ensures

pub returns-in-One-clause-member : goal.returns-in-One-clause-member
returns-in-One-clause-member c =
    tells_member (tags_of c.args.tags.now.list) c.args.tag c.args.name.now _
    (found_by c.as_slice-list.result.now c.args.tags.now.list c.args.tag c.args.name.now c.in_ok-find_by_levels.field-0 (One c.in-One.place)
    c.as_slice-list.ensures (sym c.has_body.ensures ∙ c.if-not-has_body.false) c.in-One.is c.in_ok-find_by_levels.ensures)

pub returns-in-Several-clause-found : goal.returns-in-Several-clause-found
returns-in-Several-clause-found c =
    found_by c.as_slice-list.result.now c.args.tags.now.list c.args.tag c.args.name.now c.in_ok-find_by_levels.field-0 Several
    c.as_slice-list.ensures (sym c.has_body.ensures ∙ c.if-not-has_body.false) c.in-Several.is c.in_ok-find_by_levels.ensures
