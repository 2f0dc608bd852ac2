-- Counts, which stand at the last u64 where they would pass it.
use Rattle.std.specs.Prelude.{ℕ}

-- the last u64
abbrev pub last : ℕ
last = 0xffff_ffff_ffff_ffff
