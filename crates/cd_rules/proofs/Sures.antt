-- The rule Sure by the axioms for an atom, and by facts.
use Rattle.std.proofs.Common.{ℕ, List, ◌∷◌, refl, subst}
use Rattle.cd_base.specs.Lists.{SameSet}
use Rattle.cd_base.specs.declared.normal.Normal.{Normal}
use Rattle.cd_base.specs.declared.normal.Triple.{Triple}
use Rattle.cd_clause.specs.declared.elem.Elem.{Elem}
use Rattle.cd_clause.specs.declared.elem.Elem.TheVariants.{Plain, Exist}
use Rattle.cd_clause.specs.Elements.{Eligible, rest}
use Rattle.cd_rules.specs.declared.facts.SureFact.{SureFact}
use Rattle.cd_base.specs.Appends.{Appends}
use Rattle.cd_rules.specs.Among.{Among}
use Rattle.cd_base.proofs.Appending.{otherwise}
use Rattle.cd_rules.specs.Facts.{IsSure}
use Rattle.cd_rules.specs.LookUps.{AreAtAtom}
use Rattle.cd_rules.specs.Steps.{IsSureOf, IsSureFrom}
use Rattle.cd_rules.specs.Walks.{ByOne, IsSureBy, IsSureByFact, IsSureWith}
use Rattle.cd_rules.proofs.SameSets.{same_set_trans, same_set_cons}

module _ (n : Normal) (r a : ℕ) (others : List Elem) (triples : List Triple) (at : AreAtAtom n.n3 a triples) where
  pub to_sure : (d : List Elem) → ByOne (IsSureBy n r others) triples d → IsSureOf n r a others d
  to_sure d p = let m = (at p.0).0 p.1 in (p.0, m.0, m.1, p.2.0, p.2.1)

  pub of_sure : (d : List Elem) → IsSureOf n r a others d → ByOne (IsSureBy n r others) triples d
  of_sure d p = (p.0, (at p.0).1 (p.1, p.2), (p.3, p.4))

module _ (n : Normal) (r : ℕ) (k : List ℕ) (others : List Elem) (facts : List SureFact) where
  pub to_sure_from : (d : List Elem) → ByOne (IsSureByFact n r k others) facts d → IsSureFrom n facts r k others d
  to_sure_from d p =
      (p.0.atom, subst (λ w. IsSure facts w k p.0.atom) p.2.0 (subst (λ w. IsSure facts p.0.role w p.0.atom) p.2.1 p.1), p.2.2)

  pub of_sure_from : (d : List Elem) → IsSureFrom n facts r k others d → ByOne (IsSureByFact n r k others) facts d
  of_sure_from d p = (record { role = r; key = k; atom = p.0 }, p.1, (refl, refl, p.2))

-- what is concluded depends on the elements of the rest alone
sure_of_same : (n : Normal) (r a : ℕ) (others others' : List Elem) → SameSet others others' → (d : List Elem) → IsSureOf n r a others d → IsSureOf n r a others' d
sure_of_same n r a others others' s d p =
    let b : Elem = Plain p.0.other in
    (p.0, p.1, p.2, p.3, same_set_trans d (b ∷ others) (b ∷ others') p.4 (same_set_cons b others others' s))

-- with one clause, by the rest beside its existential
pub with_rest : (n : Normal) (f : SureFact) (c others : List Elem) {Done : Type 0} {old new : List (List Elem)} → Eligible n (Exist f.role f.key) c → SameSet others (rest (Exist f.role f.key) c)
    → Appends Among (IsSureOf n f.role f.atom others) Done old new → Appends Among (IsSureWith n f c) Done old new
with_rest n f c others {Done = Done} {old = old} {new = new} el s a =
    let beside : List Elem = rest (Exist f.role f.key) c in
    otherwise (IsSureOf n f.role f.atom others) (IsSureWith n f c) Done Done old new
    (λ d p. (el, sure_of_same n f.role f.atom others beside s d p))
    (λ h d p. sure_of_same n f.role f.atom beside others (s.1, s.0) d p.1)
    (λ h. h) a
