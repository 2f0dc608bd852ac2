-- The rule Back by the axioms for an atom, and by facts.
use Rattle.std.proofs.Common.{ℕ, List, ◌∷◌, refl, subst}
use Rattle.cd_base.specs.Lists.{SameSet}
use Rattle.cd_base.specs.Keys.{negated, key_with}
use Rattle.cd_base.specs.declared.normal.Normal.{Normal}
use Rattle.cd_base.specs.declared.normal.Triple.{Triple}
use Rattle.cd_clause.specs.declared.elem.Elem.{Elem}
use Rattle.cd_clause.specs.declared.elem.Elem.TheVariants.{Plain, Exist}
use Rattle.cd_clause.specs.Elements.{Eligible, rest}
use Rattle.cd_rules.specs.declared.facts.BackFact.{BackFact}
use Rattle.cd_base.specs.Appends.{Appends}
use Rattle.cd_rules.specs.Among.{Among}
use Rattle.cd_base.proofs.Appending.{otherwise}
use Rattle.cd_rules.specs.Facts.{IsBack}
use Rattle.cd_rules.specs.LookUps.{AreAtAtom}
use Rattle.cd_rules.specs.Steps.{IsBackOf, IsBackFrom}
use Rattle.cd_rules.specs.Walks.{ByOne, IsBackBy, IsBackByFact, IsBackWith}
use Rattle.cd_rules.proofs.SameSets.{same_set_trans, same_set_cons}

module _ (n : Normal) (r : ℕ) (k : List ℕ) (a : ℕ) (others : List Elem) (triples : List Triple) (at : AreAtAtom n.n3 a triples) where
  pub to_back : (d : List Elem) → ByOne (IsBackBy n r k a others) triples d → IsBackOf n r k a others d
  to_back d p = let m = (at p.0).0 p.1 in (p.0, m.0, m.1, p.2.0, p.2.1)

  pub of_back : (d : List Elem) → IsBackOf n r k a others d → ByOne (IsBackBy n r k a others) triples d
  of_back d p = (p.0, (at p.0).1 (p.1, p.2), (p.3, p.4))

module _ (n : Normal) (r : ℕ) (k : List ℕ) (others : List Elem) (facts : List BackFact) where
  pub to_back_from : (d : List Elem) → ByOne (IsBackByFact n r k others) facts d → IsBackFrom n facts r k others d
  to_back_from d p =
      (p.0.atom, subst (λ w. IsBack facts w k p.0.atom) p.2.0 (subst (λ w. IsBack facts p.0.role w p.0.atom) p.2.1 p.1), p.2.2)

  pub of_back_from : (d : List Elem) → IsBackFrom n facts r k others d → ByOne (IsBackByFact n r k others) facts d
  of_back_from d p = (record { role = r; key = k; atom = p.0 }, p.1, (refl, refl, p.2))

-- what is concluded depends on the elements of the rest alone
back_of_same : (n : Normal) (r : ℕ) (k : List ℕ) (a : ℕ) (others others' : List Elem) → SameSet others others' → (d : List Elem) → IsBackOf n r k a others d → IsBackOf n r k a others' d
back_of_same n r k a others others' s d p =
    let b : Elem = Plain p.0.other in
    let e : Elem = Exist r (key_with (negated a) k) in
    (p.0, p.1, p.2, p.3, same_set_trans d (b ∷ e ∷ others) (b ∷ e ∷ others') p.4 (same_set_cons b (e ∷ others) (e ∷ others') (same_set_cons e others others' s)))

-- with one clause, by the rest beside its existential
pub with_rest : (n : Normal) (f : BackFact) (c others : List Elem) {Done : Type 0} {old new : List (List Elem)} → Eligible n (Exist f.role f.key) c → SameSet others (rest (Exist f.role f.key) c)
    → Appends Among (IsBackOf n f.role f.key f.atom others) Done old new → Appends Among (IsBackWith n f c) Done old new
with_rest n f c others {Done = Done} {old = old} {new = new} el s a =
    let beside : List Elem = rest (Exist f.role f.key) c in
    otherwise (IsBackOf n f.role f.key f.atom others) (IsBackWith n f c) Done Done old new
    (λ d p. (el, back_of_same n f.role f.key f.atom others beside s d p))
    (λ h d p. back_of_same n f.role f.key f.atom beside others (s.1, s.0) d p.1)
    (λ h. h) a
