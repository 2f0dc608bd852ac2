-- Derivations by their first item.
use Rattle.std.proofs.Common.{◌≡◌, ◌≢◌, ◌⊎◌, ℕ, List, ◌∷◌, ◌++◌, subst}
use Rattle.std.specs.Prelude.{Some, None}
use Rattle.cd_names.specs.Names.{number}
use Rattle.cd_names.specs.Prefixes.{meaning}
use Rattle.cd_syntax.specs.declared.item.Item.{Item}
use Rattle.cd_syntax.specs.declared.item.Item.TheVariants.{FullIri}
use Rattle.cd_syntax.specs.declared.known.Known.{Known}
use Rattle.cd_syntax.specs.Grammar.{with_prefix, with_class, with_role, top_role, bottom_role}
use Rattle.cd_syntax.proofs.ItemGrammar.{Wanted, Exact, AnyIri, Subject, PrefixIri, ClassOf, RoleOf, Means, IsAnyIri, IsNode, Leads}

-- it is the item that is wanted
pub exact_first : {most : ℕ} {known known' : Known} {e item : Item} {wanted wanted' : List Wanted} {items : List Item}
    → Leads most known (Exact e ∷ wanted) (item ∷ items) known' wanted' → (item ≡ e) × Leads most known wanted items known' wanted'
exact_first {most} {known' = known'} {wanted} {wanted'} {items} (Leads.one (is, same) r) =
    (is, subst (λ (k : Known). Leads most k wanted items known' wanted') same r)
exact_first (Leads.line parts l r) = absurd l

-- it stands for an IRI
pub iri_first : {most : ℕ} {known known' : Known} {item : Item} {wanted wanted' : List Wanted} {items : List Item}
    → Leads most known (AnyIri ∷ wanted) (item ∷ items) known' wanted' → IsAnyIri known item × Leads most known wanted items known' wanted'
iri_first {most} {known' = known'} {wanted} {wanted'} {items} (Leads.one (means, same) r) =
    (means, subst (λ (k : Known). Leads most k wanted items known' wanted') same r)
iri_first (Leads.line parts l r) = absurd l

-- it is a subject
pub subject_first : {most : ℕ} {known known' : Known} {item : Item} {wanted wanted' : List Wanted} {items : List Item}
    → Leads most known (Subject ∷ wanted) (item ∷ items) known' wanted' → (IsAnyIri known item ⊎ IsNode item) × Leads most known wanted items known' wanted'
subject_first {most} {known' = known'} {wanted} {wanted'} {items} (Leads.one (is, same) r) =
    (is, subst (λ (k : Known). Leads most k wanted items known' wanted') same r)
subject_first (Leads.line parts l r) = absurd l

-- it stands for the IRI of the class
pub class_first : {most : ℕ} {known known' : Known} {c : ℕ} {item : Item} {wanted wanted' : List Wanted} {items : List Item}
    → Leads most known (ClassOf c ∷ wanted) (item ∷ items) known' wanted'
    → (i : List ℕ) × Means known item i × (c ≡ number known.classes i) × Leads most (with_class known i) wanted items known' wanted'
class_first {most} {known' = known'} {wanted} {wanted'} {items} (Leads.one (i, means, numbered, new) r) =
    (i, means, numbered, subst (λ (k : Known). Leads most k wanted items known' wanted') new r)
class_first (Leads.line parts l r) = absurd l

-- it stands for the IRI of the role
pub role_first : {most : ℕ} {known known' : Known} {c : ℕ} {item : Item} {wanted wanted' : List Wanted} {items : List Item}
    → Leads most known (RoleOf c ∷ wanted) (item ∷ items) known' wanted'
    → (i : List ℕ) × Means known item i × (i ≢ top_role) × (i ≢ bottom_role) × (c ≡ number known.roles i)
    × Leads most (with_role known i) wanted items known' wanted'
role_first {most} {known' = known'} {wanted} {wanted'} {items} (Leads.one (i, means, no_top, no_bottom, numbered, new) r) =
    (i, means, no_top, no_bottom, numbered, subst (λ (k : Known). Leads most k wanted items known' wanted') new r)
role_first (Leads.line parts l r) = absurd l

-- it is the IRI of the prefix
pub prefix_first : {most : ℕ} {known known' : Known} {p : List ℕ} {item : Item} {wanted wanted' : List Wanted} {items : List Item}
    → Leads most known (PrefixIri p ∷ wanted) (item ∷ items) known' wanted'
    → (i : List ℕ) × (item ≡ FullIri i) × ((meaning known.prefixes p ≡ None) ⊎ (meaning known.prefixes p ≡ Some i))
    × Leads most (with_prefix known p i) wanted items known' wanted'
prefix_first {most} {known' = known'} {wanted} {wanted'} {items} (Leads.one (i, is, fits, new) r) =
    (i, is, fits, subst (λ (k : Known). Leads most k wanted items known' wanted') new r)
prefix_first (Leads.line parts l r) = absurd l

-- a line by what its parts are
pub lined : {most : ℕ} {known known' : Known} {parts line wanted' : List Wanted} {items : List Item} (wanted : List Wanted)
    → parts ≡ line → Leads most known (parts ++ wanted) items known' wanted' → Leads most known (line ++ wanted) items known' wanted'
lined {most} {known} {known'} {wanted'} {items} wanted e r = subst (λ (p : List Wanted). Leads most known (p ++ wanted) items known' wanted') e r
