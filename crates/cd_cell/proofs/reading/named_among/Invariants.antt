use Rattle.std.proofs.Common.{◌≡◌, filter, take}
use Rattle.cd_base.specs.Keys.{is_named}
use Rattle.cd_cell.proofs.reading.named_among.Given as goal

abbrev pub invariant-loop-atom : goal.invariant-loop-atom
invariant-loop-atom l = l.named.items ≡ filter (is_named l.normal) (take l.atom-index l.atoms)
