use Rattle.std.proofs.Common.{ℕ, List, sym, subst}
use Rattle.std.specs.Option.{IfSome}
use Rattle.cd_base.specs.Lists.{OneOf}
use Rattle.cd_context.specs.Beside.{HasAllAtoms}
use Rattle.cd_context.proofs.beside.push_exist.Goals as goal

pub push_by_atoms-requires : goal.push_by_atoms-requires
push_by_atoms-requires c = λ a n h.
    let every : HasAllAtoms c.args.store.now.clauses c.in-Some.atoms.items = subst (λ o. IfSome o (λ atoms. HasAllAtoms c.args.store.now.clauses atoms.items)) c.in-Some.is c.in_ok-atoms.ensures in
    subst (λ (l : List ℕ). OneOf a l) (sym c.as_slice.ensures.value) (every a n h)
