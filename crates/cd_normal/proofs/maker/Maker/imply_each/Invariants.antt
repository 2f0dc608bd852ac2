use Rattle.std.proofs.Common.{◌≡◌, ◌+◌, ◌≤◌, take}
use Rattle.cd_normal.specs.Made.{rows, Adds, link_rows}
use Rattle.cd_normal.proofs.maker.Maker.imply_each.Given as goal

abbrev pub invariant-loop-y : goal.invariant-loop-y
invariant-loop-y l = (l.self.next ≡ l.initial.self.next) × (rows l.self ≤ rows l.initial.self + l.y-index) × Adds l.initial.self l.self (link_rows l.outward l.x (take l.y-index l.ys))
