-- What waits: pairs of how many elements a clause has and its number.
use Rattle.std.specs.Prelude.{◌≡◌, ℕ, ◌<◌, ◌≤◌, ◌⊎◌, List, ◌∷◌, map, nat_eq, true, IsPermutation}
use Rattle.std.specs.HashSet.{HashSet, contains}
use Rattle.cd_base.specs.Lists.{OneOf}
use Rattle.cd_context.specs.TakeUp.{IsTakenFrom}

-- the numbers that wait
abbrev pub numbers : List (ℕ × ℕ) → List ℕ
numbers pairs = map (λ p. p.1) pairs

-- each number of the set waits
abbrev pub AreAmong : {S : Type 0} → HashSet ℕ S → List (ℕ × ℕ) → Type 0
AreAmong set pairs = (n : ℕ) → contains nat_eq set n ≡ true → OneOf n (numbers pairs)

-- the clause of this number was taken, which has the fewest elements, and of those that have as few the least number
pub record IsLeastTaken (number : ℕ) (old new : List (ℕ × ℕ)) : Type 0 where
  pub elements : ℕ
  pub rest : IsPermutation old ((elements, number) ∷ new)
  pub least : (p : ℕ × ℕ) → OneOf p old → (elements < p.0) ⊎ ((elements ≡ p.0) × (number ≤ p.1))
  pub taken : IsTakenFrom number (numbers old) (numbers new)
