-- What follows from the laws of an actor.
use Rattle.std.specs.Prelude.{◌≡◌, ℕ, ◌<◌}
use Rattle.cd_actor.specs.Meaning.{Meaning}

-- what a whole cell owes goes to a place of each actor of its family, and is lawful for each
abbrev pub OwedInFamily : {A M : Type 0} → Meaning A M → Type 0
OwedInFamily {A} {M} g = (a b : A) → g.family a ≡ g.family b → g.whole a → (p : ℕ) (m : M)
    → g.owes a p m → (p < g.places b) × g.lawful b p m
