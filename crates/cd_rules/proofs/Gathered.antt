-- A walk by number, each step of which puts some numbers into a list.
use Rattle.std.proofs.Common.{◌≡◌, ◌⊎◌, ◌↔◌, ℕ, ◌+◌, ◌<◌, List, [], ◌∷◌, ◌++◌, sym, subst, inl, inr, arith}
use Rattle.std.proofs.lemmas.Bool.{cases_eq}
use Rattle.cd_base.specs.Lists.{OneOf}
use Rattle.cd_base.proofs.Members.{member_cases, member_left, member_right}

-- to what was there, the steps below n have put each b with Q of one of them, and nothing else
abbrev pub HasGathered : (ℕ → ℕ → Type 0) → ℕ → List ℕ → List ℕ → Type 0
HasGathered Q n old new = (b : ℕ) → OneOf b new ↔ (OneOf b old ⊎ ((k : ℕ) × (k < n) × Q k b))

pub gather_begins : (Q : ℕ → ℕ → Type 0) (old : List ℕ) → HasGathered Q 0 old old
gather_begins Q old b = (λ m. inl m, λ q. elim q [ inl m ↦ m | inr z ↦ (let lt : z.0 < 0 = z.1 in absurd (omega arith)) ])

module _ (Q : ℕ → ℕ → Type 0) (n : ℕ) (old mid : List ℕ) (w : HasGathered Q n old mid) where
  -- one more step
  pub gather_goes : (new : List ℕ) → ((b : ℕ) → OneOf b new ↔ (OneOf b mid ⊎ Q n b)) → HasGathered Q (n + 1) old new
  gather_goes new h b = (
    λ m. elim ((h b).0 m) [
      | inl k ↦ elim ((w b).0 k) [ inl o ↦ inl o | inr z ↦ inr (z.0, omega (arith, z.1), z.2) ]
      | inr q ↦ inr (n, omega arith, q)
    ],
    λ q. (h b).1 (elim q [
      | inl o ↦ inl ((w b).1 (inl o))
      | inr z ↦ elim (cases_eq z.0 n) [
        | inl e ↦ inr (subst (λ k. Q k b) e z.2)
        | inr differ ↦ inl ((w b).1 (inr (z.0, omega (arith, z.1), z.2)))
      ]
    ]),
  )

  -- one more step, which pushes one number
  pub gather_pushes : (new : List ℕ) (x : ℕ) → new ≡ mid ++ x ∷ [] → Q n x → ((b : ℕ) → Q n b → b ≡ x) → HasGathered Q (n + 1) old new
  gather_pushes new x e q f = gather_goes new (λ b. (
    λ m. elim (member_cases b mid (x ∷ []) (subst (OneOf b) e m)) [ inl k ↦ inl k | inr k ↦ elim k [ inl is ↦ inr (subst (Q n) (sym is) q) | inr z ↦ absurd z ] ],
    λ z. subst (OneOf b) (sym e) (elim z [ inl k ↦ member_left b mid (x ∷ []) k | inr k ↦ member_right b mid (x ∷ []) (inl (f b k)) ]),
  ))

  -- one more step, which has nothing to put there
  pub gather_passes : ((b : ℕ) → Q n b → ⊥) → HasGathered Q (n + 1) old mid
  gather_passes f = gather_goes mid (λ b. (λ m. inl m, λ z. elim z [ inl k ↦ k | inr q ↦ absurd (f b q) ]))

-- all steps
pub gather_ends : (Q : ℕ → ℕ → Type 0) (n m : ℕ) (old new : List ℕ) (P : ℕ → Type 0) → HasGathered Q n old new → n ≡ m → ((b : ℕ) → ((k : ℕ) × (k < m) × Q k b) ↔ P b)
    → (b : ℕ) → OneOf b new ↔ (OneOf b old ⊎ P b)
gather_ends Q n m old new P w e f b = (
  λ x. elim ((w b).0 x) [ inl o ↦ inl o | inr z ↦ inr ((f b).0 (z.0, omega (arith, z.1), z.2)) ],
  λ q. (w b).1 (elim q [ inl o ↦ inl o | inr p ↦ (let z = (f b).1 p in inr (z.0, omega (arith, z.1), z.2)) ]),
)

-- all steps, where nothing was there before
pub gather_all : (Q : ℕ → ℕ → Type 0) (n m : ℕ) (new : List ℕ) (P : ℕ → Type 0) → HasGathered Q n [] new → n ≡ m → ((b : ℕ) → ((k : ℕ) × (k < m) × Q k b) ↔ P b)
    → (b : ℕ) → OneOf b new ↔ P b
gather_all Q n m new P w e f b =
    let g = gather_ends Q n m [] new P w e f b in
    (λ x. elim (g.0 x) [ inl o ↦ absurd o | inr p ↦ p ], λ p. g.1 (inr p))
