use Rattle.cd_context.proofs.Sent.{sends_none}
use Rattle.cd_context.proofs.context.Context.absorb.Goals as goal

pub returns-then-has-clause-sends : goal.returns-then-has-clause-sends
returns-then-has-clause-sends c = sends_none c.args.index.now.normal c.args.self.now c.args.out.now.items
