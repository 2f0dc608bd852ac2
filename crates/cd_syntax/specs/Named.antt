-- What an item stands for.
use Rattle.std.specs.Prelude.{◌≡◌, ℕ, Bool, true, false, not, ◌&&◌, List, [], ◌∷◌, ◌++◌, Option, Some, None, is_some}
use Rattle.std.specs.Option.{option_map}
use Rattle.std.specs.Str.{bytes_eq}
use Rattle.cd_names.specs.Names.{number}
use Rattle.cd_names.specs.Prefixes.{meaning}
use Rattle.cd_syntax.specs.declared.item.Item.{Item}
use Rattle.cd_syntax.specs.declared.item.Item.TheVariants.{Short, Node, FullIri}
use Rattle.cd_syntax.specs.declared.known.Known.{Known}
use Rattle.cd_syntax.specs.Grammar.{with_class, with_role, top_role, bottom_role}

-- the IRI that the item stands for
abbrev pub iri_of : Known → Item → Option (List ℕ)
iri_of known (FullIri i) = Some i
iri_of known (Short p l) = option_map (λ base. base ++ l) (meaning known.prefixes p)
iri_of known other = None

abbrev pub is_empty : List ℕ → Bool
is_empty [] = true
is_empty (b ∷ more) = false

-- an IRI, or an anonymous individual with a name
abbrev pub is_subject : Known → Item → Bool
is_subject known (Node l) = not (is_empty l)
is_subject known item = is_some (iri_of known item)

-- a role may have the IRI
abbrev pub is_role : List ℕ → Bool
is_role i = not (bytes_eq i top_role) && not (bytes_eq i bottom_role)

-- a class of this IRI, by its number
abbrev pub IsClassNamed : Option (List ℕ) → Known → Known → Option ℕ → Type 0
IsClassNamed None known after found = (found ≡ None) × (after ≡ known)
IsClassNamed (Some i) known after found =
    (found ≡ Some (number known.classes i)) × (after ≡ with_class known i)

abbrev pub IsRoleIf : Bool → List ℕ → Known → Known → Option ℕ → Type 0
IsRoleIf true i known after found =
    (found ≡ Some (number known.roles i)) × (after ≡ with_role known i)
IsRoleIf false i known after found = (found ≡ None) × (after ≡ known)

-- a role of this IRI, by its number, if it may be one
abbrev pub IsRoleNamed : Option (List ℕ) → Known → Known → Option ℕ → Type 0
IsRoleNamed None known after found = (found ≡ None) × (after ≡ known)
IsRoleNamed (Some i) known after found = IsRoleIf (is_role i) i known after found
