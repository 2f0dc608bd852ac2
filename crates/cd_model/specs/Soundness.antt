-- What is derived is true.
use Rattle.std.specs.Prelude.{ℕ, ◌<◌, List}
use Rattle.cd_base.specs.declared.normal.Normal.{Normal}
use Rattle.cd_meaning.specs.declared.interpretation.Interpretation.{Interpretation}
use Rattle.cd_meaning.specs.NormalAxioms.{IsNormalModel}
use Rattle.cd_clause.specs.declared.elem.Elem.{Elem}
use Rattle.cd_clause.specs.Derivations.{Derived}
use Rattle.cd_model.specs.Meaning.{Meets, TrueClause}

-- what is derived in the context of a key is true of each element that meets the key, in every model of the normal axioms
abbrev pub Soundness : Type 0
Soundness = (n : Normal) (key : List ℕ) (clause : List Elem) → Derived n key clause
    → (i : Interpretation) → IsNormalModel n i → (x : ℕ) → x < i.size → Meets i x key
    → TrueClause i x clause
