-- When an input is refused, and how.
use Rattle.std.specs.Prelude.{◌≡◌, ℕ, ◌+◌, ◌<◌, ◌≤◌, List, length}
use Rattle.cd_lex.specs.Tokens.{Piece, IsCut, kinds, length_of}
use Rattle.cd_syntax.specs.declared.cause.Cause.{Cause}
use Rattle.cd_syntax.specs.declared.cause.Cause.TheVariants.{Construct, Prefix, Depth, Syntax}
use Rattle.cd_syntax.specs.declared.known.Known.{Known}
use Rattle.cd_syntax.specs.declared.refusal.Refusal.{Refusal}
use Rattle.cd_syntax.specs.Fault.{Next, IsNext, IsFault}
use Rattle.cd_syntax.specs.Grammar.{IsDocument}

-- the text is no document
abbrev pub IsUnread : List ℕ → Type 0
IsUnread bytes = (known : Known) → IsDocument bytes known → ⊥

-- what is told of a fault with this cause at this place
abbrev pub refusal_at : Cause → ℕ → Refusal
refusal_at (Construct number) place = Refusal.Construct number place
refusal_at Prefix place = Refusal.Prefix place
refusal_at Depth place = Refusal.Depth place
refusal_at Syntax place = Refusal.Syntax place

-- the text has this first fault, behind these pieces
pub record IsFaultyBehind (bytes : List ℕ) (refusal : Refusal) (pieces : List Piece)
    (rest : List ℕ) (next : Next) (cause : Cause) : Type 0 where
  pub cut : IsCut bytes pieces rest
  pub next_is : IsNext rest next
  pub fault : IsFault (kinds pieces) next cause
  pub told : refusal ≡ refusal_at cause (length_of pieces)

-- the text has this first fault
abbrev pub IsFaulty : List ℕ → Refusal → Type 0
IsFaulty bytes refusal = (pieces : List Piece) × (rest : List ℕ) × (next : Next) × (cause : Cause)
    × IsFaultyBehind bytes refusal pieces rest next cause

-- an input is refused so, of which at most so many bytes are taken
abbrev pub IsRefused : List ℕ → ℕ → Refusal → Type 0
IsRefused input most (Refusal.TooLong n) = (most < length input) × (n ≡ most + 1)
IsRefused input most refusal = (length input ≤ most) × IsFaulty input refusal × IsUnread input
