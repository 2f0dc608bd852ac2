use Rattle.cd_store.proofs.Gaining.{gain_less}
use Rattle.cd_store.specs.LookUps.{HasExistential}
use Rattle.cd_context.specs.Beside.{IsBesideUniversal}
use Rattle.cd_context.proofs.beside.push_universal.Goals as goal

pub returns-in_ok-push_with_existentials : goal.returns-in_ok-push_with_existentials
returns-in_ok-push_with_existentials c =
    gain_less (IsBesideUniversal c.args.index.now.normal c.args.store.now.clauses c.args.atom) (HasExistential c.args.store.now.clauses) c.args.found.now.items c.push_with_existentials.new.found.items (λ m q. q.1) c.in_ok-push_with_existentials.ensures
