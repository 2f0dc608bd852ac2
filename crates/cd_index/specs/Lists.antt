-- Lists by number.
use Rattle.std.specs.Prelude.{◌≡◌, ℕ, ◌<◌, List, [], length, slice_index_or}

-- there is a list for each number below n, the one that f gives
pub record AreLists {Y : Type 0} (n : ℕ) (lists : List (List Y)) (f : ℕ → List Y) : Type 0 where
  pub each : length lists ≡ n
  pub at : (a : ℕ) → a < n → slice_index_or lists a [] ≡ f a
