-- What uses a fact is concluded by Back, Sure or Dead, with one clause.
use Rattle.std.proofs.Common.{◌≡◌, ℕ, List, ◌∷◌, refl, sym, ap, subst, inl}
use Rattle.cd_base.specs.Lists.{SameSet}
use Rattle.cd_base.specs.Keys.{negated, key_with}
use Rattle.cd_base.specs.declared.normal.Normal.{Normal}
use Rattle.cd_clause.specs.declared.elem.Elem.{Elem}
use Rattle.cd_clause.specs.declared.elem.Elem.TheVariants.{Plain, Exist}
use Rattle.cd_clause.specs.Elements.{rest}
use Rattle.cd_clause.specs.Numbers.{picked}
use Rattle.cd_clause.specs.Rules.{by_init, by_neg, by_con, by_ex, by_back, by_sure, by_dead, by_all}
use Rattle.cd_rules.specs.declared.facts.BackFact.{BackFact}
use Rattle.cd_rules.specs.declared.facts.DeadFact.{DeadFact}
use Rattle.cd_rules.specs.declared.facts.SureFact.{SureFact}
use Rattle.cd_rules.specs.Facts.{IsPicked, told_from, ConcludesFrom}
use Rattle.cd_rules.specs.Uses.{UsesBack, UsesSure, UsesDead, only_back, only_sure, only_dead, FromBack, FromSure, FromDead}
use Rattle.cd_rules.specs.Walks.{ByOne, IsBackWith, IsSureWith, IsDeadWith}

module _ (n : Normal) (key : List ℕ) (clauses : List (List Elem)) (live : List ℕ) where
  with_back : (f : BackFact) (d : List Elem) (q : ConcludesFrom n key (IsPicked clauses live) (only_back f) d)
      → UsesBack n key (IsPicked clauses live) (told_from (only_back f)) d q f → ByOne (IsBackWith n f) (picked clauses live) d
  with_back f d (by_init a m s) u = absurd u
  with_back f d (by_neg a c h e m s) u = absurd u
  with_back f d (by_con x m k r s) u = absurd u
  with_back f d (by_ex t c m h e s) u = absurd u
  with_back f d (by_back t c r k m h e b under s) u = (c, h, subst (λ w. IsBackWith n w c d) u (e, (t, m, refl, under, s)))
  with_back f d (by_sure t c r k m h e b under s) u = absurd u
  with_back f d (by_dead c r k h e b s) u = absurd u
  with_back f d (by_all t c b r k m h e hb eb under s) u = absurd u

  pub of_back : (f : BackFact) (d : List Elem) → FromBack n key clauses live f d → ByOne (IsBackWith n f) (picked clauses live) d
  of_back f d p = with_back f d p.0 p.1

  pub from_back : (f : BackFact) (d : List Elem) → ByOne (IsBackWith n f) (picked clauses live) d → FromBack n key clauses live f d
  from_back f d (c, h, (e, (t, m, q, under, s))) =
      let is : record { role = f.role; key = f.key; atom = t.atom } ≡ f = ap (λ a. record { role = f.role; key = f.key; atom = a }) q in
      (by_back t c f.role f.key m h e (inl is) under (subst (λ a. SameSet d (Plain t.other ∷ Exist f.role (key_with (negated a) f.key) ∷ rest (Exist f.role f.key) c)) (sym q) s), is)

  with_sure : (f : SureFact) (d : List Elem) (q : ConcludesFrom n key (IsPicked clauses live) (only_sure f) d)
      → UsesSure n key (IsPicked clauses live) (told_from (only_sure f)) d q f → ByOne (IsSureWith n f) (picked clauses live) d
  with_sure f d (by_init a m s) u = absurd u
  with_sure f d (by_neg a c h e m s) u = absurd u
  with_sure f d (by_con x m k r s) u = absurd u
  with_sure f d (by_ex t c m h e s) u = absurd u
  with_sure f d (by_back t c r k m h e b under s) u = absurd u
  with_sure f d (by_sure t c r k m h e b under s) u = (c, h, subst (λ w. IsSureWith n w c d) u (e, (t, m, refl, under, s)))
  with_sure f d (by_dead c r k h e b s) u = absurd u
  with_sure f d (by_all t c b r k m h e hb eb under s) u = absurd u

  pub of_sure : (f : SureFact) (d : List Elem) → FromSure n key clauses live f d → ByOne (IsSureWith n f) (picked clauses live) d
  of_sure f d p = with_sure f d p.0 p.1

  pub from_sure : (f : SureFact) (d : List Elem) → ByOne (IsSureWith n f) (picked clauses live) d → FromSure n key clauses live f d
  from_sure f d (c, h, (e, (t, m, q, under, s))) =
      let is : record { role = f.role; key = f.key; atom = t.atom } ≡ f = ap (λ a. record { role = f.role; key = f.key; atom = a }) q in
      (by_sure t c f.role f.key m h e (inl is) under s, is)

  with_dead : (f : DeadFact) (d : List Elem) (q : ConcludesFrom n key (IsPicked clauses live) (only_dead f) d)
      → UsesDead n key (IsPicked clauses live) (told_from (only_dead f)) d q f → ByOne (IsDeadWith n f) (picked clauses live) d
  with_dead f d (by_init a m s) u = absurd u
  with_dead f d (by_neg a c h e m s) u = absurd u
  with_dead f d (by_con x m k r s) u = absurd u
  with_dead f d (by_ex t c m h e s) u = absurd u
  with_dead f d (by_back t c r k m h e b under s) u = absurd u
  with_dead f d (by_sure t c r k m h e b under s) u = absurd u
  with_dead f d (by_dead c r k h e b s) u = (c, h, subst (λ w. IsDeadWith n w c d) u (e, s))
  with_dead f d (by_all t c b r k m h e hb eb under s) u = absurd u

  pub of_dead : (f : DeadFact) (d : List Elem) → FromDead n key clauses live f d → ByOne (IsDeadWith n f) (picked clauses live) d
  of_dead f d p = with_dead f d p.0 p.1

  pub from_dead : (f : DeadFact) (d : List Elem) → ByOne (IsDeadWith n f) (picked clauses live) d → FromDead n key clauses live f d
  from_dead f d (c, h, (e, s)) = (by_dead c f.role f.key h e (inl refl) s, refl)
