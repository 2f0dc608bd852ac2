-- Clauses of one atom.
use Rattle.std.specs.Prelude.{ℕ, Bool, false, ◌==◌, List, [], ◌∷◌}
use Rattle.cd_clause.specs.declared.elem.Elem.{Elem}
use Rattle.cd_clause.specs.declared.elem.Elem.TheVariants.{Plain, Exist}

-- whether the list is that of the atom alone
abbrev pub is_only : ℕ → List Elem → Bool
is_only a [] = false
is_only a (Plain b ∷ []) = b == a
is_only a (Exist r k ∷ []) = false
is_only a (e ∷ f ∷ c) = false
