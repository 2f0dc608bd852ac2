-- What whoever reads a printed taxonomy back knows of the relation.
use Rattle.std.specs.Prelude.{◌≡◌, ◌≢◌, ℕ, Bool, List, length, take, All, AllPairs}
use Rattle.cd_base.specs.Iri.{IsIri}
use Rattle.cd_meaning.specs.Iri.{reserved_classes}
use Rattle.cd_meaning.specs.Reading.{SaysRelation}
use Rattle.cd_meaning.specs.Text.{text}
use Rattle.cd_taxonomy.specs.Relation.{IsSubsumption}

-- distinct full IRIs, of which the first two are owl:Thing and owl:Nothing
pub record AreNames (names : List (List ℕ)) : Type 0 where
  pub iris : All IsIri names
  pub reserved : take 2 names ≡ reserved_classes
  pub distinct : AllPairs (λ a b. a ≢ b) names

-- Read back, the text of a relation says that relation.
abbrev pub TextReadsBack : Type 0
TextReadsBack = (names : List (List ℕ)) (below : ℕ → ℕ → Bool) → AreNames names
    → IsSubsumption (length names) below
    → SaysRelation names below (text names below)
