use Rattle.std.proofs.Common.{◌≡◌, ◌+◌, ◌*◌, ◌≤◌, drop}
use Rattle.cd_normal.specs.Made.{rows}
use Rattle.cd_normal.proofs.Chains.{IsBegun}
use Rattle.cd_normal.proofs.chain.chain.Given as goal

abbrev pub invariant-loop-i : goal.invariant-loop-i
invariant-loop-i l = record {
  begun : IsBegun l.fn.maker l.maker l.xs l.p (drop l.i l.xs);
  next : l.maker.next ≡ l.fn.maker.next + l.i;
  few : rows l.maker ≤ rows l.fn.maker + 3 * l.i;
}
