use Rattle.cd_taxonomy.specs.Relation.{relation}
use Rattle.cd_top.proofs.commands.trial.counted.Goals as goal

pub summary-requires : goal.summary-requires
summary-requires c = (c.args.document.now, relation c.args.above.now, record { subsumption = c.requires.answers.subsumption; grouped = c.in_ok-found.ensures.groups })
