-- The first fault of a text that is no accepted document, and its cause.
use Rattle.std.specs.Prelude.{◌≡◌, ◌≢◌, ◌⊎◌, ℕ, suc, List, [], ◌∷◌, ◌++◌, Some, None}
use Rattle.cd_names.specs.Prefixes.{meaning}
use Rattle.cd_lex.specs.declared.token.Kind.{Kind}
use Rattle.cd_lex.specs.declared.token.Kind.TheVariants.{Word, Short, FullIri}
use Rattle.cd_lex.specs.Tokens.{Lexeme, BeginsWith, IsBad}
use Rattle.cd_syntax.specs.declared.cause.Cause.{Cause}
use Rattle.cd_syntax.specs.declared.cause.Cause.TheVariants.{Construct, Prefix, Depth, Syntax}
use Rattle.cd_syntax.specs.declared.known.Known.{Known}
use Rattle.cd_syntax.specs.Constructs.{refused_number}
use Rattle.cd_syntax.specs.Grammar.{Wanted, PrefixIri, RoleOf, Text, Means, Leads, begun, nesting, top_role, bottom_role}

-- what stands behind some tokens of a text: a token, the end of the text, or a byte at which no token begins
pub data Next : Type 0 where
  Token : Kind → Next
  End : Next
  Bad : Next

-- the bytes begin so
abbrev pub IsNext : List ℕ → Next → Type 0
IsNext bytes (Token kind) = (spelled rest : List ℕ) × BeginsWith bytes (Lexeme kind spelled) rest
IsNext bytes End = bytes ≡ []
IsNext bytes Bad = IsBad bytes

-- the tokens are the front of those of a document, with so much nesting
abbrev pub IsFront : ℕ → List Kind → Type 0
IsFront most front = (more : List Kind) × (known : Known)
    × Leads most begun (Text ∷ []) (front ++ more) known []

-- with so much nesting, some document has this behind the front
abbrev pub GoesOn : ℕ → List Kind → Next → Type 0
GoesOn most front (Token kind) = IsFront most (front ++ kind ∷ [])
GoesOn most front End = (known : Known) × Leads most begun (Text ∷ []) front known []
GoesOn most front Bad = ⊥

-- behind the front so much is known, and this is wanted
abbrev pub IsBehind : List Kind → Known → List Wanted → Type 0
IsBehind front known wanted = Leads nesting begun (Text ∷ []) front known wanted

-- ---- causes

-- the token stands for one of the two roles that are refused, and behind the front a role is wanted
abbrev pub IsNoRole : List Kind → Kind → ℕ → Type 0
IsNoRole front kind number = (known : Known) × (role : ℕ) × (wanted : List Wanted)
    × IsBehind front known (RoleOf role ∷ wanted)
    × ((Means known kind top_role × (number ≡ 45)) ⊎ (Means known kind bottom_role × (number ≡ 46)))

-- a refused construct: its word, or a role that is none
abbrev pub IsConstruct : List Kind → Next → ℕ → Type 0
IsConstruct front next number =
    ((w : List ℕ) × (next ≡ Token (Word w)) × (refused_number w ≡ Some number))
    ⊎ ((kind : Kind) × (next ≡ Token kind) × IsNoRole front kind number)

-- a short name whose prefix isn't declared
abbrev pub IsUnknown : List Kind → Next → Type 0
IsUnknown front next = (p : List ℕ) × (l : List ℕ) × (next ≡ Token (Short p l)) × (known : Known)
    × (wanted : List Wanted) × IsBehind front known wanted
    × (meaning known.prefixes p ≡ None)

-- the IRI of a prefix that has another one
abbrev pub IsClash : List Kind → Next → Type 0
IsClash front next = (p : List ℕ) × (i : List ℕ) × (next ≡ Token (FullIri i)) × (known : Known)
    × (wanted : List Wanted) × IsBehind front known (PrefixIri p ∷ wanted)
    × ((j : List ℕ) × (meaning known.prefixes p ≡ Some j) × (j ≢ i))

-- of what is at fault, the first cause that fits: a refused construct, a prefix, one more inside each other than may be, and any other
abbrev pub IsCause : List Kind → Next → Cause → Type 0
IsCause front next (Construct number) = IsConstruct front next number
IsCause front next Prefix = ((number : ℕ) → IsConstruct front next number → ⊥)
    × (IsUnknown front next ⊎ IsClash front next)
IsCause front next Depth =
    ((number : ℕ) → IsConstruct front next number → ⊥) × (IsUnknown front next → ⊥)
    × (IsClash front next → ⊥) × GoesOn (suc nesting) front next
IsCause front next Syntax =
    ((number : ℕ) → IsConstruct front next number → ⊥) × (IsUnknown front next → ⊥)
    × (IsClash front next → ⊥) × (GoesOn (suc nesting) front next → ⊥)

-- the front is one of a document's, no document has this behind it, and that is the cause
pub record IsFault (front : List Kind) (next : Next) (cause : Cause) : Type 0 where
  pub before : IsFront nesting front
  pub none : GoesOn nesting front next → ⊥
  pub cause_is : IsCause front next cause
