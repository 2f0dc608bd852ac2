use Rattle.std.proofs.Common.{sym, subst, ◌∙◌, ap, length}
use Rattle.cd_taxonomy.specs.Summary.{AreFew, member_total, unsatisfiable_total, link_total}
use Rattle.cd_taxonomy.proofs.SummaryOfRelation.{few_in_taxonomy, summary_is}
use Rattle.cd_taxonomy.proofs.totals.summary.Goals as goal

pub member_total-requires : goal.member_total-requires
member_total-requires c = subst AreFew (sym c.items-groups.ensures) (few_in_taxonomy c.args.taxonomy.now.groups c.requires)

pub unsatisfiable_total-requires : goal.unsatisfiable_total-requires
unsatisfiable_total-requires c = subst AreFew (sym c.items-groups.ensures) (few_in_taxonomy c.args.taxonomy.now.groups c.requires)

pub link_total-requires : goal.link_total-requires
link_total-requires c = subst AreFew (sym c.items-groups.ensures) (few_in_taxonomy c.args.taxonomy.now.groups c.requires)

pub returns : goal.returns
returns c = λ document below h.
    summary_is c.args.taxonomy.now.groups document below h _
    (c.member_total.ensures ∙ ap member_total c.items-groups.ensures) (ap length c.items-groups.ensures)
    (c.unsatisfiable_total.ensures ∙ ap unsatisfiable_total c.items-groups.ensures) (c.link_total.ensures ∙ ap link_total c.items-groups.ensures)
