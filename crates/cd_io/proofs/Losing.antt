-- Known bytes that lose some from the front.
use Rattle.std.proofs.Common.{◌≡◌, ◌≤◌, ◌+◌, ℕ, List, [], ◌++◌, length, arith, length-append}
use Rattle.std.specs.Prelude.{Option}
use Rattle.std.specs.Io.KnownBytes.{Consumes}
use Rattle.std.proofs.KnownBytes.{Consumes-nil, Consumes-trans}
use Rattle.cd_io.specs.Streams.{LosesAtMost}

-- what is not touched loses none
pub loses_none : (old : Option (List ℕ)) (most : ℕ) → LosesAtMost old old most
loses_none old most = ([], Consumes-nil old, omega arith)

-- what was lost before, and then more
pub loses_more : (old mid new : Option (List ℕ)) (taken more : List ℕ) (most : ℕ) → Consumes old mid taken → Consumes mid new more → length taken + length more ≤ most
    → LosesAtMost old new most
loses_more old mid new taken more most lost then few = (taken ++ more, Consumes-trans old mid new taken more lost then, omega (arith, length-append taken more))
