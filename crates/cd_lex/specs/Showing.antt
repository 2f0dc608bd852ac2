-- What the first bytes of a text show of its items, whatever follows.
use Rattle.std.specs.Prelude.{◌≡◌, ℕ, List, ◌++◌}
use Rattle.cd_lex.specs.declared.token.Token.{Token}
use Rattle.cd_lex.specs.Tokens.{Piece, IsCut, placed, Ending, AtBad, HasItems}

-- these are its first tokens, and they have ended: the text begins with pieces of which they are the first tokens
abbrev pub ShowsTokens : List ℕ → List Token → Type 0
ShowsTokens bytes tokens = (pieces : List Piece) × (later : List Token)
    × (placed 0 pieces ≡ tokens ++ later)
    × ((more : List ℕ) → (rest : List ℕ) × IsCut (bytes ++ more) pieces rest)

-- it has a bad byte at this place
abbrev pub ShowsBad : List ℕ → ℕ → Type 0
ShowsBad bytes n = (more : List ℕ) (all : List Token) (ending : Ending)
    → HasItems (bytes ++ more) all ending → ending ≡ AtBad n

-- every text has items, and no two lists of them
pub record ItemsAreUnique : Type 0 where
  pub some : (bytes : List ℕ) → (tokens : List Token) × (ending : Ending)
      × HasItems bytes tokens ending
  pub one : (bytes : List ℕ) (s t : List Token) (e f : Ending) → HasItems bytes s e
      → HasItems bytes t f → (s ≡ t) × (e ≡ f)
