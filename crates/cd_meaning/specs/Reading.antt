-- What a printed taxonomy says to whoever reads it back.
use Rattle.std.specs.Prelude.{◌≡◌, ℕ, zero, suc, ◌<◌, ◌⊎◌, ◌↔◌, Bool, IsTrue, List, length, Contains}
use Rattle.std.specs.Str.Lines.{lines}
use Rattle.cd_meaning.specs.Text.{equivalent_line, subclass_line}

abbrev pub HasLine : List ℕ → List ℕ → Type 0
HasLine bytes l = Contains (lines bytes) l

-- in one step: a is owl:Nothing, or b is owl:Thing, or a line has a below b, or one line has both
abbrev pub Shows : List (List ℕ) → List ℕ → ℕ → ℕ → Type 0
Shows names bytes a b =
    (a ≡ 1) ⊎ (b ≡ 0) ⊎ HasLine bytes (subclass_line names a b)
    ⊎ ((group : List ℕ) × HasLine bytes (equivalent_line names group) × Contains group a
    × Contains group b)

-- b is so many such steps from a
abbrev pub ShowsInSteps : List (List ℕ) → List ℕ → ℕ → ℕ → ℕ → Type 0
ShowsInSteps names bytes a b zero = a ≡ b
ShowsInSteps names bytes a b (suc n) =
    (c : ℕ) × (c < length names) × Shows names bytes a c × ShowsInSteps names bytes c b n

-- the least reflexive and transitive relation that has all that the text shows
abbrev pub Reads : List (List ℕ) → List ℕ → ℕ → ℕ → Type 0
Reads names bytes a b = (n : ℕ) × ShowsInSteps names bytes a b n

-- read back, the text says exactly which classes are below which
abbrev pub SaysRelation : List (List ℕ) → (ℕ → ℕ → Bool) → List ℕ → Type 0
SaysRelation names below bytes = (a b : ℕ) → a < length names → b < length names
    → Reads names bytes a b ↔ IsTrue (below a b)
