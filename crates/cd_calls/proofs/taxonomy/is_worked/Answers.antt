use Rattle.cd_taxonomy.specs.Relation.{relation}
use Rattle.cd_calls.proofs.taxonomy.is_worked.Goals as goal

pub summary-requires : goal.summary-requires
summary-requires g c = (c.args.document.now, relation c.args.above.now, record { subsumption = c.requires.subsumption; grouped = c.in-Ok.ensures.groups })
