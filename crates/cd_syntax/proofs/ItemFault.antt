-- The fault behind some items, and its cause: as the parser sees it.
use Rattle.std.specs.Prelude.{◌≡◌, ◌≢◌, ◌⊎◌, ℕ, suc, List, [], ◌∷◌, ◌++◌, Some, None}
use Rattle.cd_names.specs.Prefixes.{meaning}
use Rattle.cd_syntax.specs.declared.cause.Cause.{Cause}
use Rattle.cd_syntax.specs.declared.cause.Cause.TheVariants.{Construct, Prefix, Depth, Syntax}
use Rattle.cd_syntax.specs.declared.item.Item.{Item}
use Rattle.cd_syntax.specs.declared.item.Item.TheVariants.{Word, Short, FullIri}
use Rattle.cd_syntax.specs.declared.known.Known.{Known}
use Rattle.cd_syntax.specs.declared.words.Keyword.{Keyword}
use Rattle.cd_syntax.specs.Grammar.{begun, nesting, top_role, bottom_role}
use Rattle.cd_syntax.proofs.ItemGrammar.{Wanted, PrefixIri, RoleOf, Text, Means, Leads}

-- the items are the front of those of a document, with so much nesting
abbrev pub IsFront : ℕ → List Item → Type 0
IsFront most front = (more : List Item) × (known : Known) × Leads most begun (Text ∷ []) (front ++ more) known []

-- behind the front so much is known, and this is wanted
abbrev pub IsBehind : List Item → Known → List Wanted → Type 0
IsBehind front known wanted = Leads nesting begun (Text ∷ []) front known wanted

-- behind the front a role is wanted, and the item stands for one of the two that are refused
abbrev pub IsNoRole : List Item → Item → ℕ → Type 0
IsNoRole front item number = (known : Known) × (role : ℕ) × (wanted : List Wanted) × IsBehind front known (RoleOf role ∷ wanted)
    × ((Means known item top_role × (number ≡ 45)) ⊎ (Means known item bottom_role × (number ≡ 46)))

-- the item is a refused construct: its word, or a role that is none
abbrev pub IsRefusedConstruct : List Item → Item → ℕ → Type 0
IsRefusedConstruct front item number = (item ≡ Word (Keyword.Refused number)) ⊎ IsNoRole front item number

-- the item is a short name whose prefix isn't declared
abbrev pub IsUnknown : List Item → Item → Type 0
IsUnknown front item = (p : List ℕ) × (l : List ℕ) × (item ≡ Short p l) × (known : Known) × (wanted : List Wanted) × IsBehind front known wanted
    × (meaning known.prefixes p ≡ None)

-- the item is the IRI of a prefix that has another one
abbrev pub IsClash : List Item → Item → Type 0
IsClash front item = (p : List ℕ) × (i : List ℕ) × (item ≡ FullIri i) × (known : Known) × (wanted : List Wanted) × IsBehind front known (PrefixIri p ∷ wanted)
    × ((j : List ℕ) × (meaning known.prefixes p ≡ Some j) × (j ≢ i))

-- with one more inside each other, the item could stand
abbrev pub IsDeep : List Item → Item → Type 0
IsDeep front item = IsFront (suc nesting) (front ++ item ∷ [])

-- of an item at fault, the first cause that fits
abbrev pub IsCause : List Item → Item → Cause → Type 0
IsCause front item (Construct number) = IsRefusedConstruct front item number
IsCause front item Prefix = ((number : ℕ) → IsRefusedConstruct front item number → ⊥) × (IsUnknown front item ⊎ IsClash front item)
IsCause front item Depth =
    ((number : ℕ) → IsRefusedConstruct front item number → ⊥) × (IsUnknown front item → ⊥) × (IsClash front item → ⊥) × IsDeep front item
IsCause front item Syntax =
    ((number : ℕ) → IsRefusedConstruct front item number → ⊥) × (IsUnknown front item → ⊥) × (IsClash front item → ⊥) × (IsDeep front item → ⊥)

-- the front is one of a document's, no document has the item behind it, and that is the cause
abbrev pub IsFault : List Item → Item → Cause → Type 0
IsFault front item cause = IsFront nesting front × (IsFront nesting (front ++ item ∷ []) → ⊥) × IsCause front item cause
