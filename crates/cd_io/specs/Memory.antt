-- A source and a sink over memory, as contracts see them.
use Rattle.std.specs.Prelude.{ℕ, Bool, List}

-- what is left, how much a call gives at most, which calls fail, how many calls there were, and what they told
pub record Reading : Type 0 where
  pub left : List ℕ
  pub piece : ℕ
  pub fails : List ℕ
  pub calls : ℕ
  pub ended : Bool
  pub faults : ℕ

-- what was written, for how much there is room, how much a call takes at most, which calls fail, how many calls there were, and
-- what they told
pub record Writing : Type 0 where
  pub written : List ℕ
  pub room : ℕ
  pub piece : ℕ
  pub fails : List ℕ
  pub calls : ℕ
  pub finished : Bool
  pub faults : ℕ
