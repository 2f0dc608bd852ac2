-- The relation between classes that a list of answers gives, one answer a class.
use Rattle.std.specs.Prelude.{ℕ, ◌<◌, ◌==◌, Bool, true, IsTrue, List, All, slice_index_or}
use Rattle.std.specs.List.{list_any}
use Rattle.cd_base.specs.declared.answer.Answer.{Answer}
use Rattle.cd_base.specs.declared.answer.Answer.TheVariants.{Unsatisfiable, Of}

-- b is a superclass: every class is one of an unsatisfiable class, and another one has those of its answer
abbrev pub is_superclass : Answer → ℕ → Bool
is_superclass Unsatisfiable b = true
is_superclass (Of atoms) b = list_any (λ (atom : ℕ). atom == b) atoms

-- whether a is below b
abbrev pub relation : List Answer → ℕ → ℕ → Bool
relation above a b = is_superclass (slice_index_or above a Unsatisfiable) b

-- every atom of the answer is below n
abbrev pub HasClassesBelow : ℕ → Answer → Type 0
HasClassesBelow n Unsatisfiable = Unit {0}
HasClassesBelow n (Of atoms) = All (λ (atom : ℕ). atom < n) atoms

-- reflexive and transitive on the numbers below n, with owl:Thing above all and owl:Nothing below all
pub record IsSubsumption (n : ℕ) (below : ℕ → ℕ → Bool) : Type 0 where
  pub reflexive : (a : ℕ) → a < n → IsTrue (below a a)
  pub transitive : (a b c : ℕ) → a < n → b < n → c < n → IsTrue (below a b) → IsTrue (below b c)
      → IsTrue (below a c)
  pub thing : (a : ℕ) → a < n → IsTrue (below a 0)
  pub nothing : (a : ℕ) → a < n → IsTrue (below 1 a)
