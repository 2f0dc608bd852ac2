use Rattle.std.proofs.Common.{ℕ, List, sym, subst, ap}
use Rattle.cd_base.specs.Lists.{OneOf}
use Rattle.cd_store.specs.LookUps.{HasExistential}
use Rattle.cd_store.proofs.Gaining.{gain_list}
use Rattle.cd_store.specs.Store.{StoreState}
use Rattle.cd_store.proofs.Leasts.{existential_listed}
use Rattle.cd_store.proofs.store.Store.push_with_existentials.Goals as goal

pub returns : goal.returns
returns c =
    gain_list (HasExistential c.args.self.now.clauses) c.args.found.now.items c.extend_from_slice.new.self.items c.with_existentials.result.now c.in_ok-extend_from_slice.ensures.items
    (λ m h. subst (λ (l : List ℕ). OneOf m l) (sym c.with_existentials.ensures)
    (existential_listed c.self.inside.filing c.args.self.now.clauses c.self.inside.clauses.items m (ap (λ (s : StoreState). s.clauses) c.self.view_is) c.self.invariant.1 h))
