-- What a document entails of its named classes, over all finite interpretations: Direct Semantics, section 2.5.
use Rattle.std.specs.Prelude.{ℕ, List, All}
use Rattle.cd_meaning.specs.declared.expression.Axiom.{Axiom}
use Rattle.cd_meaning.specs.declared.expression.Expr.TheVariants.{Name}
use Rattle.cd_meaning.specs.declared.interpretation.Interpretation.{Interpretation}
use Rattle.cd_meaning.specs.Truth.{IsBelow, Holds}

-- all axioms hold
abbrev pub IsModel : List Axiom → Interpretation → Type 0
IsModel axioms i = All (Holds i) axioms

-- in every model every element of class a is one of class b
abbrev pub Entails : List Axiom → ℕ → ℕ → Type 0
Entails axioms a b = (i : Interpretation) → IsModel axioms i → IsBelow i (Name a) (Name b)
