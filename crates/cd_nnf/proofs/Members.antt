-- The normal forms have the members of the expression, and the others.
use Rattle.std.proofs.Common.{◌≡◌, ℕ, not, ◌&&◌, ◌||◌, List, [], ◌∷◌, map, sym, ap, ◌∙◌}
use Rattle.std.specs.List.{AllByRecursion}
use Rattle.std.proofs.lemmas.List.Folds.{list_all-map}
use Rattle.cd_meaning.specs.declared.expression.Expr.{Expr}
use Rattle.cd_meaning.specs.declared.expression.Expr.TheVariants.{Name, Meet, Join, Minus, SomeOf, AllOf}
use Rattle.cd_meaning.specs.declared.interpretation.Interpretation.{Interpretation}
use Rattle.cd_meaning.specs.Induction.{induct}
use Rattle.cd_meaning.specs.Membership.{member, leads, keeps, goes}
use Rattle.cd_meaning.specs.MembershipTable.{list_any-map, member-Meet, member-Join, member-Minus, member-SomeOf, member-AllOf}
use Rattle.cd_nnf.specs.Nnf.{nnf, nnf_not, NnfHasTheMembers, NnfNotHasTheOthers}
use Rattle.cd_nnf.specs.NnfTable.{nnf-Name, nnf-Meet, nnf-Join, nnf-Minus, nnf-SomeOf, nnf-AllOf, nnf_not-Name, nnf_not-Meet, nnf_not-Join, nnf_not-Minus, nnf_not-SomeOf, nnf_not-AllOf}
use Rattle.cd_nnf.proofs.ListTests.{or_of_nots, and_not, not_not, holds_of_each, all_agree, any_agree, any_opposite, all_opposite}

module _ (i : Interpretation) where
  -- the normal form of e has the members of e, and that of its complement the others
  abbrev HasMembers : Expr → Type 0
  HasMembers e = (x : ℕ) → (member i (nnf e) x ≡ member i e x) × (member i (nnf_not e) x ≡ not (member i e x))

  -- ---- the parts of an intersection or a union

  same_in_each : (x : ℕ) (parts : List Expr) → AllByRecursion HasMembers parts → AllByRecursion (λ part. member i (nnf part) x ≡ member i part x) parts
  same_in_each x [] h = tt
  same_in_each x (part ∷ parts) h = ((h.0 x).0, same_in_each x parts h.1)

  other_in_each : (x : ℕ) (parts : List Expr) → AllByRecursion HasMembers parts → AllByRecursion (λ part. member i (nnf_not part) x ≡ not (member i part x)) parts
  other_in_each x [] h = tt
  other_in_each x (part ∷ parts) h = ((h.0 x).1, other_in_each x parts h.1)

  -- ---- a case for each form

  at_name : (c : ℕ) → HasMembers (Name c)
  at_name c x = (ap (λ (e : Expr). member i e x) (nnf-Name c), ap (λ (e : Expr). member i e x) (nnf_not-Name c) ∙ member-Minus i x (Name c))

  at_meet : (parts : List Expr) → AllByRecursion HasMembers parts → HasMembers (Meet parts)
  at_meet parts h x = (
    ap (λ (e : Expr). member i e x) (nnf-Meet parts) ∙ member-Meet i x (map nnf parts) ∙ list_all-map (λ (part : Expr). member i part x) nnf parts
        ∙ all_agree (λ part. member i (nnf part) x) (λ part. member i part x) parts (same_in_each x parts h) ∙ sym (member-Meet i x parts),
    ap (λ (e : Expr). member i e x) (nnf_not-Meet parts) ∙ member-Join i x (map nnf_not parts) ∙ list_any-map (λ (part : Expr). member i part x) nnf_not parts
        ∙ any_opposite (λ part. member i (nnf_not part) x) (λ part. member i part x) parts (other_in_each x parts h) ∙ ap not (sym (member-Meet i x parts)),
  )

  at_join : (parts : List Expr) → AllByRecursion HasMembers parts → HasMembers (Join parts)
  at_join parts h x = (
    ap (λ (e : Expr). member i e x) (nnf-Join parts) ∙ member-Join i x (map nnf parts) ∙ list_any-map (λ (part : Expr). member i part x) nnf parts
        ∙ any_agree (λ part. member i (nnf part) x) (λ part. member i part x) parts (same_in_each x parts h) ∙ sym (member-Join i x parts),
    ap (λ (e : Expr). member i e x) (nnf_not-Join parts) ∙ member-Meet i x (map nnf_not parts) ∙ list_all-map (λ (part : Expr). member i part x) nnf_not parts
        ∙ all_opposite (λ part. member i (nnf_not part) x) (λ part. member i part x) parts (other_in_each x parts h) ∙ ap not (sym (member-Join i x parts)),
  )

  at_minus : (part : Expr) → HasMembers part → HasMembers (Minus part)
  at_minus part h x = (
    ap (λ (e : Expr). member i e x) (nnf-Minus part) ∙ (h x).1 ∙ sym (member-Minus i x part),
    ap (λ (e : Expr). member i e x) (nnf_not-Minus part) ∙ (h x).0 ∙ sym (not_not (member i part x)) ∙ ap not (sym (member-Minus i x part)),
  )

  at_some : (r : ℕ) (part : Expr) → HasMembers part → HasMembers (SomeOf r part)
  at_some r part h x = (
    ap (λ (e : Expr). member i e x) (nnf-SomeOf r part) ∙ member-SomeOf i x r (nnf part)
        ∙ any_agree (leads r x (member i (nnf part))) (leads r x (member i part)) i.roles
        (holds_of_each (λ edge. leads r x (member i (nnf part)) edge ≡ leads r x (member i part) edge) (λ edge. ap (λ b. goes edge r x && b) (h edge.target).0) i.roles)
        ∙ sym (member-SomeOf i x r part),
    ap (λ (e : Expr). member i e x) (nnf_not-SomeOf r part) ∙ member-AllOf i x r (nnf_not part)
        ∙ all_opposite (keeps r x (member i (nnf_not part))) (leads r x (member i part)) i.roles
        (holds_of_each (λ edge. keeps r x (member i (nnf_not part)) edge ≡ not (leads r x (member i part) edge))
        (λ edge. ap (λ b. not (goes edge r x) || b) (h edge.target).1 ∙ or_of_nots (goes edge r x) (member i part edge.target)) i.roles)
        ∙ ap not (sym (member-SomeOf i x r part)),
  )

  at_all : (r : ℕ) (part : Expr) → HasMembers part → HasMembers (AllOf r part)
  at_all r part h x = (
    ap (λ (e : Expr). member i e x) (nnf-AllOf r part) ∙ member-AllOf i x r (nnf part)
        ∙ all_agree (keeps r x (member i (nnf part))) (keeps r x (member i part)) i.roles
        (holds_of_each (λ edge. keeps r x (member i (nnf part)) edge ≡ keeps r x (member i part) edge) (λ edge. ap (λ b. not (goes edge r x) || b) (h edge.target).0) i.roles)
        ∙ sym (member-AllOf i x r part),
    ap (λ (e : Expr). member i e x) (nnf_not-AllOf r part) ∙ member-SomeOf i x r (nnf_not part)
        ∙ any_opposite (leads r x (member i (nnf_not part))) (keeps r x (member i part)) i.roles
        (holds_of_each (λ edge. leads r x (member i (nnf_not part)) edge ≡ not (keeps r x (member i part) edge))
        (λ edge. ap (λ b. goes edge r x && b) (h edge.target).1 ∙ and_not (goes edge r x) (member i part edge.target)) i.roles)
        ∙ ap not (sym (member-AllOf i x r part)),
  )

  has_members : (e : Expr) → HasMembers e
  has_members = induct HasMembers at_name at_meet at_join at_minus at_some at_all

-- the normal form has the members of the expression
pub nnf_same : NnfHasTheMembers
nnf_same i e x = (has_members i e x).0

-- the normal form of the complement has the others
pub nnf_not_other : NnfNotHasTheOthers
nnf_not_other i e x = (has_members i e x).1
