use Rattle.cd_store.proofs.Gaining.{gain_none}
use Rattle.cd_context.specs.Beside.{IsBesideByUniversal}
use Rattle.cd_context.proofs.Besides.{universal_below}
use Rattle.cd_context.proofs.beside.push_if_universal.Goals as goal

pub returns-in_default : goal.returns-in_default
returns-in_default c =
    gain_none (IsBesideByUniversal c.args.index.now.normal c.args.store.now.clauses c.args.number) c.args.found.now.items (λ m q. c.in_default.ensures (universal_below c.args.index.now.normal c.args.number q.0))
