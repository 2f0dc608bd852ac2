use Rattle.std.proofs.Common.{ℕ, List, sym, subst}
use Rattle.std.specs.Option.{IfSome}
use Rattle.cd_base.specs.Lists.{OneOf}
use Rattle.cd_store.proofs.Gaining.{gain_less}
use Rattle.cd_context.specs.Beside.{HasAllAtoms, IsBesideByCon, IsBesideByOne, Stands}
use Rattle.cd_context.proofs.Besides.{by_all}
use Rattle.cd_context.specs.Waits.{numbers}
use Rattle.cd_context.proofs.beside.push_by_fewer.Goals as goal

pub returns : goal.returns
returns c =
    gain_less (IsBesideByCon c.args.index.now.normal (Stands c.args.store.now.live (numbers c.args.waiting.now) c.args.premise) c.args.store.now.clauses c.args.atom) (IsBesideByOne c.args.index.now.normal (Stands c.args.store.now.live (numbers c.args.waiting.now) c.args.premise) c.args.store.now.clauses c.args.atom c.args.all.now) c.args.found.now.items c.push_by_axioms.new.found.items
    (by_all c.args.index.now.normal (Stands c.args.store.now.live (numbers c.args.waiting.now) c.args.premise) c.args.store.now.clauses c.args.atom c.args.all.now c.requires.every) c.in_ok-push_by_axioms.ensures

pub push_by_filed-requires-clause-all : goal.push_by_filed-requires-clause-all
push_by_filed-requires-clause-all c = λ a n h.
    let every : HasAllAtoms c.args.store.now.clauses c.in-Some.atoms.items = subst (λ o. IfSome o (λ atoms. HasAllAtoms c.args.store.now.clauses atoms.items)) c.in-Some.is c.in_ok-atoms.ensures in
    subst (λ (l : List ℕ). OneOf a l) (sym c.as_slice-then-are_fewer.ensures.value) (every a n h)
