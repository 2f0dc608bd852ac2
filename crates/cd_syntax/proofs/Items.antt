-- What an item stands for, in the terms of the grammar over items.
use Rattle.std.proofs.Common.{◌≡◌, ◌≢◌, ◌⊎◌, ℕ, true, List, [], ◌∷◌, ◌++◌, not, refl, sym, ap, ◌∙◌, inl, inr}
use Rattle.std.specs.Prelude.{Option, Some, None, Decides, is_some}
use Rattle.std.specs.Option.{option_map}
use Rattle.std.specs.Str.{bytes_eq}
use Rattle.std.proofs.lemmas.Bool.Decides.{Decides-and, Decides-not}
use Rattle.std.proofs.lemmas.Slice.Eq.{bytes_eq-Decides}
use Rattle.cd_names.specs.Prefixes.{meaning}
use Rattle.cd_syntax.specs.declared.item.Item.{Item}
use Rattle.cd_syntax.specs.declared.item.Item.TheVariants.{Short, Node, FullIri}
use Rattle.cd_syntax.specs.declared.known.Known.{Known}
use Rattle.cd_syntax.specs.Grammar.{top_role, bottom_role}
use Rattle.cd_syntax.proofs.ItemGrammar.{Means, IsAnyIri, IsNode}
use Rattle.cd_syntax.specs.Named.{iri_of, is_empty, is_subject, is_role}

-- a short name whose prefix has an IRI
short_means : (known : Known) (p l i : List ℕ) (base : Option (List ℕ)) → meaning known.prefixes p ≡ base → option_map (λ b. b ++ l) base ≡ Some i
    → Means known (Short p l) i
short_means known p l i None e found = absurd cc
short_means known p l i (Some base) e found = (base, e, cc)

-- the IRI that is found is one that the item stands for
pub means : (known : Known) (item : Item) (i : List ℕ) → iri_of known item ≡ Some i → Means known item i
means known (FullIri j) i found = cc
means known (Short p l) i found = short_means known p l i (meaning known.prefixes p) refl found
means known item i found = absurd cc

-- an IRI that is found
some_means : (known : Known) (item : Item) (iri : Option (List ℕ)) → iri_of known item ≡ iri → is_some iri ≡ true → IsAnyIri known item
some_means known item None e some = absurd cc
some_means known item (Some i) e some = (i, means known item i e)

-- an item for which an IRI is found stands for one
pub any_iri : (known : Known) (item : Item) → is_some (iri_of known item) ≡ true → IsAnyIri known item
any_iri known item some = some_means known item (iri_of known item) refl some

-- a label that passes the test has a letter
named : (label : List ℕ) → not (is_empty label) ≡ true → label ≢ []
named [] full e = absurd cc
named (b ∷ label) full e = absurd cc

-- an item that passes the test stands for an IRI or is an anonymous individual
pub subject : (known : Known) (item : Item) → is_subject known item ≡ true → IsAnyIri known item ⊎ IsNode item
subject known (Node label) is = inr (label, refl, named label is)
subject known item is = inl (any_iri known item is)

-- the test of a role's IRI
pub is_role-Decides : (i : List ℕ) → Decides (is_role i) ((i ≢ top_role) × (i ≢ bottom_role))
is_role-Decides i =
    Decides-and (not (bytes_eq i top_role)) (not (bytes_eq i bottom_role))
    (Decides-not (bytes_eq i top_role) (bytes_eq-Decides i top_role)) (Decides-not (bytes_eq i bottom_role) (bytes_eq-Decides i bottom_role))

-- ---- and back

-- what the item stands for is what is found
pub iri_of-means : (known : Known) (item : Item) (i : List ℕ) → Means known item i → iri_of known item ≡ Some i
iri_of-means known (FullIri j) i m = cc
iri_of-means known (Short p l) i (base, e, is) = ap (option_map (λ (b : List ℕ). b ++ l)) e ∙ ap (λ (x : List ℕ). Some x) (sym is)
iri_of-means known item i m = absurd m

-- an anonymous individual is a subject
is_subject-node : (known : Known) (label : List ℕ) → label ≢ [] → is_subject known (Node label) ≡ true
is_subject-node known [] named = absurd (named refl)
is_subject-node known (b ∷ more) named = refl

-- and so is an item that stands for an IRI
is_subject-iri : (known : Known) (item : Item) → IsAnyIri known item → is_subject known item ≡ true
is_subject-iri known (FullIri j) m = refl
is_subject-iri known (Short p l) (i, m) = ap is_some (iri_of-means known (Short p l) i m)
is_subject-iri known item (i, m) = absurd m

-- what may stand where a subject is wanted is one
pub is_subject-of : (known : Known) (item : Item) → IsAnyIri known item ⊎ IsNode item → is_subject known item ≡ true
is_subject-of known item (inl m) = is_subject-iri known item m
is_subject-of known item (inr (label, e, named)) = ap (is_subject known) e ∙ is_subject-node known label named
