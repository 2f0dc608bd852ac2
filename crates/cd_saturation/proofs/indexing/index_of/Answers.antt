use Rattle.std.proofs.Common.{sym, subst}
use Rattle.cd_model.specs.Canonical.{RolesInRange}
use Rattle.cd_index.specs.Closure.{IsClosureOf}
use Rattle.cd_saturation.specs.Saturation.{HasClosure}
use Rattle.cd_saturation.proofs.Closures.{has_closure, roles_within}
use Rattle.cd_saturation.proofs.indexing.index_of.Goals as goal

pub returns-clause-closure : goal.returns-clause-closure
returns-clause-closure c =
    let n = c.in_ok-normal.normal in
    subst HasClosure (sym c.in_ok-index.ensures) (has_closure n c.in_ok-closure.closure (subst (λ pairs. IsClosureOf c.in_ok-closure.closure n.roles pairs) c.items.ensures c.in_ok-closure.ensures))

pub returns-clause-roles : goal.returns-clause-roles
returns-clause-roles c = subst RolesInRange (sym c.in_ok-index.ensures) (roles_within c.in_ok-normal.normal)
