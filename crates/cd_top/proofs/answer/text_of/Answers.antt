use Rattle.cd_taxonomy.specs.Relation.{relation}
use Rattle.cd_top.proofs.answer.text_of.Goals as goal

pub returns : goal.returns
returns c =
    let below = relation c.args.above.now in
    record { answer = (below, c.requires.answers.decided, c.in_ok-bytes.ensures.relation below c.in_ok-found.ensures.groups) }
