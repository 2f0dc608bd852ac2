-- A class with the elements of a union.
use Rattle.std.proofs.Common.{◌≡◌, ℕ, ◌<◌, Bool, true, false, not, List, refl, sym, ◌∙◌}
use Rattle.std.specs.Bool.{beq}
use Rattle.std.specs.List.{list_any}
use Rattle.std.proofs.lemmas.Bool.{false≢true}
use Rattle.cd_meaning.specs.declared.expression.Expr.{Expr}
use Rattle.cd_meaning.specs.declared.expression.Expr.TheVariants.{Name, Join}
use Rattle.cd_meaning.specs.declared.interpretation.Interpretation.{Interpretation}
use Rattle.cd_meaning.specs.Membership.{class_has, member}
use Rattle.cd_meaning.specs.Truth.{HasSameMembers}
use Rattle.cd_meaning.specs.MembershipTable.{member-Name, member-Join}

same_tests : (a b : Bool) → (a ≡ true → b ≡ true) → (b ≡ true → a ≡ true) → a ≡ b
same_tests true b f g = sym (f refl)
same_tests false true f g = g refl
same_tests false false f g = refl

differ : (a b : Bool) → not (beq a b) ≡ true → a ≡ b → ⊥
differ true true h e = false≢true h
differ false false h e = false≢true h
differ true false h e = false≢true (sym e)
differ false true h e = false≢true e

module _ (i : Interpretation) (a : ℕ) (l : List Expr) where
  abbrev pub Agree : ℕ → Type 0
  Agree x = class_has i a x ≡ list_any (λ part. member i part x) l

  pub union_same : ((x : ℕ) → x < i.size → Agree x) → HasSameMembers i (Name a) (Join l)
  union_same same = (
    λ x lt h. member-Join i x l ∙ sym (same x lt) ∙ sym (member-Name i x a) ∙ h,
    λ x lt h. member-Name i x a ∙ same x lt ∙ sym (member-Join i x l) ∙ h,
  )

  pub union_agrees : HasSameMembers i (Name a) (Join l) → (x : ℕ) → x < i.size → Agree x
  union_agrees same x lt =
      same_tests (class_has i a x) (list_any (λ part. member i part x) l)
      (λ h. sym (member-Join i x l) ∙ same.0 x lt (member-Name i x a ∙ h))
      (λ h. sym (member-Name i x a) ∙ same.1 x lt (member-Join i x l ∙ h))

  pub union_differs : (x : ℕ) (r s : Bool) → x < i.size → r ≡ class_has i a x → s ≡ list_any (λ part. member i part x) l → not (beq r s) ≡ true
      → HasSameMembers i (Name a) (Join l) → ⊥
  union_differs x r s lt is_r is_s apart same = differ r s apart (is_r ∙ union_agrees same x lt ∙ sym is_s)
