use Rattle.cd_cell.proofs.Taken.{takes}
use Rattle.cd_cell.proofs.contexts.take.Goals as goal

pub returns-clause-ok : goal.returns-clause-ok
returns-clause-ok c =
    let e = c.in_ok-taken.ensures in
    takes c.args.index.now.normal c.args.context.now c.absorb_new-taken.new.self c.args.fact c.new-notes.result.items c.absorb_new-taken.new.out.items
    c.new-notes.ensures.items e.context e.closed e.had (λ _. e.risen) e.sends
