-- The search for a fact that a context is dead.
use Rattle.std.proofs.Common.{◌≡◌, ℕ, ◌+◌, ◌<◌, List, length, get_or, subst}
use Rattle.cd_rules.specs.declared.facts.DeadFact.{DeadFact}
use Rattle.cd_rules.specs.Facts.{IsDead}
use Rattle.cd_rules.proofs.EachItem.{last_taken, taken}

-- the fact at a place is of this role and key
pub found_dead : (facts : List DeadFact) (i : ℕ) (f : DeadFact) (r : ℕ) (k : List ℕ) → i < length facts → f ≡ get_or facts i f → (f.role ≡ r) × (f.key ≡ k) → IsDead facts r k
found_dead facts i f r k l e (p, q) =
    subst (λ w. IsDead facts r w) q (subst (λ w. IsDead facts w f.key) p (taken facts (i + 1) f (last_taken facts i f f l e)))
