use Rattle.std.proofs.Common.{ℕ, List, ap, inl, inr, sym, subst}
use Rattle.cd_base.specs.Lists.{OneOf}
use Rattle.cd_clause.specs.declared.elem.Elem.TheVariants.{Plain}
use Rattle.cd_store.specs.Store.{StoreState}
use Rattle.cd_store.proofs.Leasts.{elem_listed}
use Rattle.cd_store.proofs.store.Store.with_atom.Goals as goal

pub returns : goal.returns
returns c = λ n h. elim (elem_listed c.self.inside.filing c.args.self.now.clauses c.self.inside.clauses.items (Plain c.args.atom) n (ap (λ (s : StoreState). s.clauses) c.self.view_is) c.self.invariant.1 h) [
  | inl m ↦ inl (subst (λ (l : List ℕ). OneOf n l) (sym c.ending_in_atom.ensures) m)
  | inr m ↦ inr (subst (λ (l : List ℕ). OneOf n l) (sym c.going_on_from_atom.ensures) m)
]
