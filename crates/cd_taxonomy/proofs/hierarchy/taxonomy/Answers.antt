use Rattle.std.proofs.Common.{length, ap, ◌∙◌}
use Rattle.cd_meaning.specs.Hierarchy.{classes_in_order}
use Rattle.cd_taxonomy.specs.Relation.{relation}
use Rattle.cd_taxonomy.proofs.NumberedGroups.{representatives_classes, found_numbered}
use Rattle.cd_taxonomy.proofs.hierarchy.taxonomy.Goals as goal

pub places-requires-2 : goal.places-requires-2
places-requires-2 c =
    let names = c.args.document.now.classes in
    let known = representatives_classes names (relation c.args.above.now) (length c.items-names.result.now) c.in_ok-order.order.items c.deref-6.result.now
    (c.in_ok-order.ensures.order ∙ ap classes_in_order c.items-names.ensures) c.in_ok-order.ensures.ordering c.in_ok-order.ensures.long
    (c.deref-6.ensures.value ∙ c.in_ok-representatives.ensures) in
    record { few = rw c.items-names.ensures c.args.document.now.few_classes; short = known.short; within = known.within; distinct = known.distinct }

pub groups-requires-clause-classes : goal.groups-requires-clause-classes
groups-requires-clause-classes c =
    (representatives_classes c.args.document.now.classes (relation c.args.above.now) (length c.args.document.now.classes) c.in_ok-order.order.items _
    (c.in_ok-order.ensures.order ∙ ap classes_in_order c.items-names.ensures) c.in_ok-order.ensures.ordering (c.in_ok-order.ensures.long ∙ ap length c.items-names.ensures)
    (c.deref-12.ensures.value ∙ c.in_ok-representatives.ensures)).within

pub returns-clause-numbered : goal.returns-clause-numbered
returns-clause-numbered c =
    found_numbered c.args.document.now.classes (relation c.args.above.now) (length c.args.document.now.classes) c.in_ok-order.order.items c.of.result
    (c.in_ok-order.ensures.order ∙ ap classes_in_order c.items-names.ensures) c.in_ok-order.ensures.ordering (c.in_ok-order.ensures.long ∙ ap length c.items-names.ensures)
    (c.of.ensures ∙ c.in_ok-groups.ensures)
