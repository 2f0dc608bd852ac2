use Rattle.std.proofs.Common.{◌≡◌, ◌≤◌, ◌*◌, ◌^◌, take}
use Rattle.cd_taxonomy.specs.Summary.{unsatisfiable_total}
use Rattle.cd_taxonomy.proofs.totals.unsatisfiable_total.Given as goal

abbrev pub invariant-loop-group : goal.invariant-loop-group
invariant-loop-group l = record { so_far : l.total ≡ unsatisfiable_total (take l.group-index l.groups); small : l.total ≤ l.group-index * 2 ^ 32 }
