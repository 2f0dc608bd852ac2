-- Contexts in which nothing more can be concluded.
use Rattle.std.specs.Prelude.{ℕ, List}
use Rattle.cd_base.specs.Lists.{OneOf}
use Rattle.cd_base.specs.declared.normal.Normal.{Normal}
use Rattle.cd_clause.specs.declared.elem.Elem.{Elem}
use Rattle.cd_clause.specs.declared.elem.Elem.TheVariants.{Exist}
use Rattle.cd_clause.specs.Elements.{Eligible}
use Rattle.cd_clause.specs.Rules.{Concludes, told_by}
use Rattle.cd_clause.specs.Derivations.{Redundant}

-- the contexts of `keys`, where `live k` has the live clauses of the context of k
pub record Saturated (n : Normal) (keys : List (List ℕ))
    (live : List ℕ → List (List Elem)) : Type 0 where
  pub closed : (h : List ℕ) → OneOf h keys → (d : List Elem)
      → Concludes n h (λ c. OneOf c (live h)) (told_by n (λ k c. OneOf k keys × OneOf c (live k))) d
      → Redundant (live h) d
  pub reached : (h : List ℕ) → OneOf h keys → (c : List Elem) → OneOf c (live h)
      → (r : ℕ) (k : List ℕ) → Eligible n (Exist r k) c → OneOf k keys
