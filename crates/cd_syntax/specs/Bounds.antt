-- What a document keeps to.
use Rattle.std.specs.Prelude.{◌≡◌, ◌≢◌, ℕ, ◌+◌, ◌≤◌, IsTrue, length, take, AllPairs}
use Rattle.std.specs.List.{list_all}
use Rattle.cd_meaning.specs.declared.document.Document.{Document}
use Rattle.cd_meaning.specs.Iri.{reserved_classes}
use Rattle.cd_meaning.specs.Nodes.{nodes}
use Rattle.cd_meaning.specs.Numbered.{has_numbers_below}
use Rattle.cd_syntax.specs.declared.known.Known.{Known}

-- it has at most n nodes, n roles, and n classes beside owl:Thing and owl:Nothing
abbrev pub IsSmall : ℕ → Document → Type 0
IsSmall n document = (nodes document.axioms ≤ n) × (length document.classes ≤ n + 2)
    × (length document.roles ≤ n)

-- what is known can be a document
pub record IsSound (known : Known) : Type 0 where
  pub numbered : IsTrue (list_all (has_numbers_below (length known.classes) (length known.roles))
      known.axioms)
  pub reserved : take 2 known.classes ≡ reserved_classes
  pub distinct_classes : AllPairs (λ a b. a ≢ b) known.classes
  pub distinct_roles : AllPairs (λ a b. a ≢ b) known.roles
