use Rattle.cd_cell.proofs.Taken.{begins}
use Rattle.cd_cell.proofs.contexts.begin_with.Goals as goal

pub returns-clause-ok : goal.returns-clause-ok
returns-clause-ok c =
    let b = c.in_ok-context.ensures in
    let e = c.in_ok-absorb.ensures in
    begins c.args.index.now.normal c.in_ok-context.context c.absorb.new.self c.args.fact c.new-notes.result.items c.begin.new.out.items c.absorb.new.out.items
    c.new-notes.ensures.items b.context b.closed e.context e.closed e.had b.sends e.sends
