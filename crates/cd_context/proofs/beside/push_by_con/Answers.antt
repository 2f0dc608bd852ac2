use Rattle.cd_store.proofs.Gaining.{gain_less}
use Rattle.cd_context.specs.Beside.{IsBesideByCon, IsBesideByOne, Stands}
use Rattle.cd_context.proofs.Besides.{by_all}
use Rattle.cd_context.specs.Waits.{numbers}
use Rattle.cd_context.proofs.beside.push_by_con.Goals as goal

pub returns : goal.returns
returns c =
    gain_less (IsBesideByCon c.args.index.now.normal (Stands c.args.store.now.live (numbers c.args.waiting.now) c.args.premise) c.args.store.now.clauses c.args.atom) (IsBesideByOne c.args.index.now.normal (Stands c.args.store.now.live (numbers c.args.waiting.now) c.args.premise) c.args.store.now.clauses c.args.atom c.with_left-all.result.now) c.args.found.now.items c.push_by_axioms.new.found.items
    (by_all c.args.index.now.normal (Stands c.args.store.now.live (numbers c.args.waiting.now) c.args.premise) c.args.store.now.clauses c.args.atom c.with_left-all.result.now c.with_left-all.ensures.every) c.in_ok-push_by_axioms.ensures
