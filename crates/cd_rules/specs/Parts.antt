-- What one literal or one axiom adds to what a rule concludes.
use Rattle.std.specs.Prelude.{◌≡◌, ℕ, false, List, [], ◌∷◌, map, slice_index_or}
use Rattle.cd_base.specs.Lists.{SameSet}
use Rattle.cd_base.specs.Keys.{plain}
use Rattle.cd_base.specs.declared.lit.Lit.{Lit}
use Rattle.cd_base.specs.declared.normal.Conj.{Conj}
use Rattle.cd_base.specs.declared.normal.Triple.{Triple}
use Rattle.cd_clause.specs.declared.elem.Elem.{Elem}
use Rattle.cd_clause.specs.declared.elem.Elem.TheVariants.{Plain, Exist}

-- Init, for one literal of the key
abbrev pub IsInitBy : Lit → List Elem → Type 0
IsInitBy l d = (l.negated ≡ false) × SameSet d (Plain l.atom ∷ [])

-- the right side of the axiom with this number
abbrev pub right_of : List Conj → ℕ → List ℕ
right_of axioms k = slice_index_or (map (λ (c : Conj). c.right) axioms) k []

-- the clause of the right side of the axiom with this number
abbrev pub IsRightOf : List Conj → ℕ → List Elem → Type 0
IsRightOf axioms k d = SameSet d (map Plain (right_of axioms k))

-- Ex, by one axiom
abbrev pub IsExBy : Triple → List Elem → List Elem → Type 0
IsExBy t others d = SameSet d (Exist t.role (plain t.other ∷ []) ∷ others)
