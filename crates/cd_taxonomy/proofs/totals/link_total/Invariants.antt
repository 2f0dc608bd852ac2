use Rattle.std.proofs.Common.{◌≡◌, ◌≤◌, ◌*◌, ◌^◌, take}
use Rattle.cd_taxonomy.specs.Summary.{link_total}
use Rattle.cd_taxonomy.proofs.totals.link_total.Given as goal

abbrev pub invariant-loop-group : goal.invariant-loop-group
invariant-loop-group l = record { so_far : l.total ≡ link_total (take l.group-index l.groups); small : l.total ≤ l.group-index * 2 ^ 32 }
