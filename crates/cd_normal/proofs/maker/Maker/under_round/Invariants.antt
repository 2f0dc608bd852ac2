use Rattle.std.proofs.Common.{◌≡◌, ◌+◌, ◌≤◌, take}
use Rattle.cd_normal.specs.Made.{rows, Adds, role_link}
use Rattle.cd_normal.specs.NormalForm.{circle}
use Rattle.cd_normal.proofs.maker.Maker.under_round.Given as goal

abbrev pub invariant-loop-at : goal.invariant-loop-at
invariant-loop-at l = record {
  next : l.self.next ≡ l.initial.self.next;
  few : rows l.self ≤ rows l.initial.self + l.at;
  adds : Adds l.initial.self l.self (take l.at (circle role_link l.roles l.roles));
}
