-- A walk by number, each step of which puts some numbers into a list.
use Rattle.std.proofs.Common.{◌≡◌, ◌⊎◌, ℕ, ◌+◌, ◌<◌, ◌≤◌, List, ◌++◌, sym, subst, inl, inr, arith}
use Rattle.std.proofs.lemmas.Bool.{cases_eq}
use Rattle.cd_base.specs.Lists.{OneOf}
use Rattle.cd_base.proofs.Members.{member_left, member_right}
use Rattle.cd_store.specs.LookUps.{Gains}

-- what was there, and each b with Q of one of the steps below n, are there
abbrev pub HasGained : (ℕ → ℕ → Type 0) → ℕ → List ℕ → List ℕ → Type 0
HasGained Q n old new = Gains (λ b. (k : ℕ) × (k < n) × Q k b) old new

pub gain_begins : (Q : ℕ → ℕ → Type 0) (old : List ℕ) → HasGained Q 0 old old
gain_begins Q old b q = elim q [ inl m ↦ m | inr z ↦ (let lt : z.0 < 0 = z.1 in absurd (omega arith)) ]

-- one more step
pub gain_goes : (Q : ℕ → ℕ → Type 0) (n : ℕ) (old mid new : List ℕ) → HasGained Q n old mid → Gains (Q n) mid new → HasGained Q (n + 1) old new
gain_goes Q n old mid new w g b q = elim q [
  | inl m ↦ g b (inl (w b (inl m)))
  | inr z ↦ elim (cases_eq z.0 n) [
    | inl e ↦ g b (inr (subst (λ k. Q k b) e z.2))
    | inr differ ↦ g b (inl (w b (inr (z.0, omega (arith, z.1), z.2))))
  ]
]

-- all steps
pub gain_ends : (Q : ℕ → ℕ → Type 0) (n m : ℕ) (old new : List ℕ) (P : ℕ → Type 0) → HasGained Q n old new → m ≤ n → ((b : ℕ) → P b → (k : ℕ) × (k < m) × Q k b) → Gains P old new
gain_ends Q n m old new P w l f b q = elim q [ inl o ↦ w b (inl o) | inr p ↦ (let z = f b p in w b (inr (z.0, omega (arith, z.1), z.2))) ]

-- two steps
pub gain_both : (P R : ℕ → Type 0) (old mid new : List ℕ) → Gains P old mid → Gains R mid new → Gains (λ m. P m ⊎ R m) old new
gain_both P R old mid new g h b q = elim q [ inl o ↦ h b (inl (g b (inl o))) | inr z ↦ elim z [ inl p ↦ h b (inl (g b (inr p))) | inr r ↦ h b (inr r) ] ]

-- a list was appended
pub gain_list : (P : ℕ → Type 0) (old new more : List ℕ) → new ≡ old ++ more → ((m : ℕ) → P m → OneOf m more) → Gains P old new
gain_list P old new more e f b q = subst (OneOf b) (sym e) (elim q [ inl o ↦ member_left b old more o | inr p ↦ member_right b old more (f b p) ])

-- nothing was
pub gain_none : (P : ℕ → Type 0) (old : List ℕ) → ((m : ℕ) → P m → ⊥) → Gains P old old
gain_none P old f b q = elim q [ inl o ↦ o | inr p ↦ absurd (f b p) ]

-- of fewer numbers
pub gain_less : (P R : ℕ → Type 0) (old new : List ℕ) → ((m : ℕ) → P m → R m) → Gains R old new → Gains P old new
gain_less P R old new f g b q = elim q [ inl o ↦ g b (inl o) | inr p ↦ g b (inr (f b p)) ]
