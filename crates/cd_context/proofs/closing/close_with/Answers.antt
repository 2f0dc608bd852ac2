use Rattle.std.proofs.Common.{sym, subst}
use Rattle.cd_context.specs.FactLists.{told_in}
use Rattle.cd_context.specs.TakeUp.{ClosedUpTo}
use Rattle.cd_context.specs.Waits.{numbers}
use Rattle.cd_context.proofs.Adds.{continues_trans}
use Rattle.cd_context.proofs.closing.close_with.Goals as goal

pub add_all-requires-clause-closed : goal.add_all-requires-clause-closed
add_all-requires-clause-closed c =
    subst (λ w. ClosedUpTo c.args.index.now.normal c.args.key.now (told_in c.args.facts.now) c.args.store.now.clauses c.args.store.now.live (numbers w) c.args.conclusions.items) (sym c.new-waiting.ensures) c.requires.closed

pub returns-clause-continues : goal.returns-clause-continues
returns-clause-continues c = continues_trans c.args.store.now c.add_all.new.store c.close.new.store c.in_ok-add_all.ensures.continues c.close.ensures.continues
