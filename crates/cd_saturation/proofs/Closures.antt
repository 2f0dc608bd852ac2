-- The role closure of normal axioms as a test of all numbers.
use Rattle.std.proofs.Common.{◌≡◌, ℕ, ◌<◌, ◌⊎◌, ◌||◌, ◌&&◌, ◌==◌, inl, inr, nat_lt, Bool, true, List, refl, subst, arith, eqb-true, eq-eqb}
use Rattle.std.proofs.lemmas.Bool.{and_parts, and_from, or_cases, or_left, or_right, ltb-true, lt-ltb}
use Rattle.cd_base.specs.Lists.{OneOf}
use Rattle.cd_base.specs.Normal.{Under, same, step, has_roles_below, is_triple_below}
use Rattle.cd_base.specs.declared.normal.Normal.{Normal}
use Rattle.cd_base.specs.declared.normal.RolePair.{RolePair}
use Rattle.cd_base.specs.declared.normal.Triple.{Triple}
use Rattle.cd_base.proofs.Members.{all_member}
use Rattle.cd_model.specs.Canonical.{RolesInRange}
use Rattle.cd_index.specs.Closure.{is_under, IsClosureOf}
use Rattle.cd_saturation.specs.Saturation.{HasClosure}

module _ (n : Normal) where
  pair_within : (p : RolePair) → OneOf p n.n5 → (p.lower < n.roles) × (p.higher < n.roles)
  pair_within p m =
      let b = and_parts (nat_lt p.lower n.roles) (nat_lt p.higher n.roles) (all_member (has_roles_below n.roles) n.n5 n.n5_within p m) in
      (ltb-true p.lower n.roles b.0, ltb-true p.higher n.roles b.1)

  triple_within : (t : Triple) → OneOf t n.n2 → t.role < n.roles
  triple_within t m =
      let h = all_member (is_triple_below n.atoms n.roles) n.n2 n.n2_within t m in
      let b = and_parts (nat_lt t.atom n.atoms && nat_lt t.role n.roles) (nat_lt t.other n.atoms) h in
      ltb-true t.role n.roles (and_parts (nat_lt t.atom n.atoms) (nat_lt t.role n.roles) b.0).1

  pub roles_within : RolesInRange n
  roles_within = record { n2 = triple_within; n5 = λ p m. (pair_within p m).1 }

  -- a role that is not the other is under it only within the range
  within : (r s : ℕ) → Under n.n5 r s → (r ≡ s) ⊎ ((r < n.roles) × (s < n.roles))
  within r s same = inl refl
  within r s (step p u m e) = inr (
    elim (within r p.lower u) [
      | inl i ↦ (let l = (pair_within p m).0 in omega arith)
      | inr i ↦ i.0
    ],
    (let l = (pair_within p m).1 in omega arith),
  )

  module _ (above : List (List ℕ)) (is : IsClosureOf above n.roles n.n5) where
    abbrev below : ℕ → ℕ → Bool
    below r s = r == s || (nat_lt r n.roles && (nat_lt s n.roles && is_under above r s))

    only : (r s : ℕ) → below r s ≡ true → Under n.n5 r s
    only r s h = elim (or_cases (r == s) (nat_lt r n.roles && (nat_lt s n.roles && is_under above r s)) h) [
      | inl e ↦ subst (λ z. Under n.n5 r z) (eqb-true r s e) same
      | inr k ↦ (
          let a = and_parts (nat_lt r n.roles) (nat_lt s n.roles && is_under above r s) k in
          let b = and_parts (nat_lt s n.roles) (is_under above r s) a.1 in
          (is.exact r s (ltb-true r n.roles a.0) (ltb-true s n.roles b.0)).0 b.1)
    ]

    all : (r s : ℕ) → Under n.n5 r s → below r s ≡ true
    all r s u = elim (within r s u) [
      | inl e ↦ or_left (r == s) (nat_lt r n.roles && (nat_lt s n.roles && is_under above r s)) (eq-eqb r s e)
      | inr k ↦ or_right (r == s) (nat_lt r n.roles && (nat_lt s n.roles && is_under above r s))
          (and_from (nat_lt r n.roles) (nat_lt s n.roles && is_under above r s) (lt-ltb r n.roles k.0)
          (and_from (nat_lt s n.roles) (is_under above r s) (lt-ltb s n.roles k.1) ((is.exact r s k.0 k.1).1 u)))
    ]

    pub has_closure : HasClosure n
    has_closure = (below, record { only = only; all = all })
