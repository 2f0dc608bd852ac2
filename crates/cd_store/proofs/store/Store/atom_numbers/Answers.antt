use Rattle.std.proofs.Common.{inr, ap}
use Rattle.cd_clause.specs.declared.elem.Elem.TheVariants.{Plain}
use Rattle.cd_store.specs.Store.{StoreState}
use Rattle.cd_store.proofs.Leasts.{elem_listed}
use Rattle.cd_store.proofs.store.Store.atom_numbers.Goals as goal

pub returns : goal.returns
returns c = λ a n h. c.in_ok-push_numbers.ensures a (inr (n, elem_listed c.self.inside.filing c.args.self.now.clauses c.self.inside.clauses.items (Plain a) n (ap (λ (s : StoreState). s.clauses) c.self.view_is) c.self.invariant.1 h))
