-- What an actor owes to its family.
use Rattle.std.proofs.Common.{◌≡◌, ℕ, ◌<◌}
use Rattle.cd_actor.specs.Laws.{OwedInFamily}
use Rattle.cd_actor.specs.Meaning.{Meaning}

-- it is lawful for itself, and so for each of its family, at a place of that one
pub owed_in_family : {A M : Type 0} (g : Meaning A M) → ((a b : A) → g.family a ≡ g.family b → (p : ℕ) (m : M) → g.lawful a p m → g.lawful b p m)
    → ((a : A) (p : ℕ) (m : M) → g.lawful a p m → p < g.places a) → ((a : A) (p : ℕ) (m : M) → g.whole a → g.owes a p m → g.lawful a p m) → OwedInFamily g
owed_in_family g same below lawful a b f w p m o = let l = same a b f p m (lawful a p m w o) in (below b p m l, l)
