-- What the contexts of named atoms say is exact.
use Rattle.std.specs.Prelude.{◌≡◌, ℕ, ◌<◌, Bool, List, [], ◌∷◌}
use Rattle.cd_base.specs.Lists.{OneOf}
use Rattle.cd_base.specs.Keys.{plain}
use Rattle.cd_base.specs.declared.normal.Normal.{Normal}
use Rattle.cd_meaning.specs.declared.interpretation.Interpretation.{Interpretation}
use Rattle.cd_meaning.specs.NormalAxioms.{IsNormalModel}
use Rattle.cd_clause.specs.declared.elem.Elem.{Elem}
use Rattle.cd_clause.specs.declared.elem.Elem.TheVariants.{Plain}
use Rattle.cd_clause.specs.Derivations.{Derived, IsSingle, start_key}
use Rattle.cd_model.specs.Meaning.{IsIn}
use Rattle.cd_model.specs.Canonical.{IsClosure, RolesInRange, chosen}
use Rattle.cd_model.specs.Saturated.{Saturated}

-- in no model of the normal axioms has the atom an element
abbrev pub NoneIn : Normal → ℕ → Type 0
NoneIn n a = (i : Interpretation) → IsNormalModel n i → (x : ℕ) → x < i.size → IsIn i a x → ⊥

-- in every model of the normal axioms each element of a is in b
abbrev pub AllIn : Normal → ℕ → ℕ → Type 0
AllIn n a b = (i : Interpretation) → IsNormalModel n i → (x : ℕ) → x < i.size → IsIn i a x
    → IsIn i b x

-- in every model of the normal axioms each element of a is in one of these
abbrev pub AllInSome : Normal → ℕ → List ℕ → Type 0
AllInSome n a bs = (i : Interpretation) → IsNormalModel n i → (x : ℕ) → x < i.size → IsIn i a x
    → (b : ℕ) × OneOf b bs × IsIn i b x

-- The context of {a} has the empty clause exactly where a has no element in any model. Else a is below each atom whose clause alone is
-- live, and below chosen ones alone.
pub record Exact (n : Normal) (a : ℕ) (live : List (List Elem)) : Type 0 where
  pub empty_none : OneOf [] live → NoneIn n a
  pub none_empty : NoneIn n a → OneOf [] live
  pub single_all : (b : ℕ) → IsSingle live b → AllIn n a b
  pub all_chosen : (OneOf [] live → ⊥) → (b : ℕ) → AllIn n a b → OneOf (Plain b) (chosen n live)

-- the context of {a, not b, not c ..} has the empty clause exactly where a is below the union of b, c .., and else a is below none of them
pub record IsTest (n : Normal) (a : ℕ) (others : List ℕ) (live : List (List Elem)) : Type 0 where
  pub empty_some : OneOf [] live → AllInSome n a others
  pub some_empty : AllInSome n a others → OneOf [] live
  pub one_all : (b : ℕ) → others ≡ b ∷ [] → OneOf [] live → AllIn n a b
  pub open_none : (OneOf [] live → ⊥) → (b : ℕ) → OneOf b others → AllIn n a b → ⊥

-- those of single atoms are exact, and those of an atom and negated ones are tests
pub record AreExact (n : Normal) (keys : List (List ℕ)) (live : List ℕ → List (List Elem)) : Type 0 where
  pub exact : (a : ℕ) → OneOf (plain a ∷ []) keys → Exact n a (live (plain a ∷ []))
  pub test : (a : ℕ) (others : List ℕ) → OneOf (start_key a others) keys
      → IsTest n a others (live (start_key a others))

-- the contexts of saturated keys whose live clauses are derived are exact
abbrev pub Exactness : Type 0
Exactness = (n : Normal) (below : ℕ → ℕ → Bool) → IsClosure n below → RolesInRange n
    → (keys : List (List ℕ)) (live : List ℕ → List (List Elem)) → Saturated n keys live
    → ((h : List ℕ) → OneOf h keys → (c : List Elem) → OneOf c (live h) → Derived n h c)
    → AreExact n keys live
