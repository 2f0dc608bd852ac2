-- A sound cell is whole where no delivery has wanted for memory.
use Rattle.std.proofs.Common.{◌≡◌, ◌↔◌, Bool, true, false, not, IsTrue, refl}
use Rattle.cd_cell.specs.Cells.{CellState, IsSound, IsWhole}

fails_not : (b : Bool) → IsTrue (not b) → b ≡ false
fails_not true h = cc
fails_not false h = refl

is_true : (b : Bool) → b ≡ false → IsTrue (not b)
is_true true h = cc
is_true false h = refl

pub whole_where : (c : CellState) → IsSound c → IsTrue (not c.failed) ↔ IsWhole c
whole_where c s = (λ t. let f = fails_not c.failed t in record { stands = f; cell = s.cell; closed = s.closed f }, λ w. is_true c.failed w.stands)
