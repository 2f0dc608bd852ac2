use Rattle.std.proofs.Common.{◌≡◌, ◌+◌, ◌≤◌, take}
use Rattle.cd_normal.specs.Made.{rows, Adds, atom_link}
use Rattle.cd_normal.specs.NormalForm.{circle}
use Rattle.cd_normal.proofs.maker.Maker.imply_round.Given as goal

abbrev pub invariant-loop-at : goal.invariant-loop-at
invariant-loop-at l = record {
  next : l.self.next ≡ l.initial.self.next;
  few : rows l.self ≤ rows l.initial.self + l.at;
  adds : Adds l.initial.self l.self (take l.at (circle atom_link l.xs l.ys));
}
