-- The superclasses that an answer gives, from its atoms.
use Rattle.std.proofs.Common.{◌≡◌, ℕ, ◌<◌, ◌≤◌, ◌==◌, true, List, length, refl, subst, arith}
use Rattle.std.specs.List.{All, Any, Contains, list_any, range_with_len}
use Rattle.std.specs.List.Sorted.{IsStrictlyIncreasing}
use Rattle.std.proofs.lemmas.Bool.{eqb-true, eq-eqb}
use Rattle.std.proofs.lemmas.List.Elements.{All-contains, All-filter}
use Rattle.std.proofs.lemmas.List.Folds.{Any-from_list_any, list_any-from_Any}
use Rattle.std.proofs.lemmas.List.FromFn.{length-range_with_len}
use Rattle.std.proofs.lemmas.List.Kept.{IsStrictlyIncreasing-filter}
use Rattle.std.proofs.lemmas.List.Sums.{length-filter, count_by-le-length}
use Rattle.cd_base.specs.declared.answer.Answer.{Answer}
use Rattle.cd_base.specs.declared.answer.Answer.TheVariants.{Unsatisfiable, Of}
use Rattle.cd_taxonomy.specs.Relation.{is_superclass}
use Rattle.cd_taxonomy.specs.Steps.{superclasses}
use Rattle.cd_taxonomy.proofs.Lists.{keeps_all, Contains-filter, passes_from_filter}
use Rattle.cd_taxonomy.proofs.Ranges.{range_contains, range_increasing, range_within}
use Rattle.cd_taxonomy.proofs.RisingLists.{same_from_increasing}

-- ---- the superclasses of any answer

pub superclasses_within : (n : ℕ) (answer : Answer) → All (λ c. c < n) (superclasses n answer)
superclasses_within n answer = All-filter (is_superclass answer) (λ c. c < n) (range_with_len 0 n) (range_within n)

pub superclasses_increasing : (n : ℕ) (answer : Answer) → IsStrictlyIncreasing (superclasses n answer)
superclasses_increasing n answer = IsStrictlyIncreasing-filter (is_superclass answer) (range_with_len 0 n) (range_increasing n)

pub superclasses_few : (n : ℕ) (answer : Answer) → length (superclasses n answer) ≤ n
superclasses_few n answer =
    omega (arith, length-filter (is_superclass answer) (range_with_len 0 n), count_by-le-length (is_superclass answer) (range_with_len 0 n), length-range_with_len 0 n)

-- an unsatisfiable class is below all
pub superclasses_of_unsatisfiable : (n : ℕ) → superclasses n Unsatisfiable ≡ range_with_len 0 n
superclasses_of_unsatisfiable n = keeps_all (range_with_len 0 n)

-- ---- the atoms of an answer

pub contains_from_test : (atoms : List ℕ) (b : ℕ) → list_any (λ (atom : ℕ). atom == b) atoms ≡ true → Contains atoms b
contains_from_test atoms b h =
    let found : Any (λ (atom : ℕ). (atom == b) ≡ true) atoms = Any-from_list_any (λ (atom : ℕ). atom == b) atoms h in
    subst (Contains atoms) (eqb-true found.1 b found.4) (found.0, found.2, found.3)

pub test_from_contains : (atoms : List ℕ) (b : ℕ) → Contains atoms b → list_any (λ (atom : ℕ). atom == b) atoms ≡ true
test_from_contains atoms b (i, inside, at) = list_any-from_Any (λ (atom : ℕ). atom == b) atoms (i, b, inside, at, eq-eqb b b refl)

-- the atoms of an answer, ascending and each once, are the superclasses
pub superclasses_from_increasing : (n : ℕ) (atoms found : List ℕ) → All (λ (atom : ℕ). atom < n) atoms → IsStrictlyIncreasing found
    → ((b : ℕ) → (Contains found b → Contains atoms b) × (Contains atoms b → Contains found b))
    → found ≡ superclasses n (Of atoms)
superclasses_from_increasing n atoms found within rises same = same_from_increasing found (superclasses n (Of atoms)) rises (superclasses_increasing n (Of atoms))
    (λ b h.
    let listed = (same b).0 h in
    let b_in : b < n = All-contains (λ c. c < n) atoms b within listed in
    Contains-filter (is_superclass (Of atoms)) (range_with_len 0 n) b (range_contains n b b_in) (test_from_contains atoms b listed))
    (λ b h. (same b).1 (contains_from_test atoms b (passes_from_filter (is_superclass (Of atoms)) (range_with_len 0 n) b h)))
