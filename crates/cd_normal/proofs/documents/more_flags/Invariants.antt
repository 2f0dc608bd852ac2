use Rattle.std.proofs.Common.{◌≡◌, ◌++◌, replicate}
use Rattle.cd_normal.proofs.documents.more_flags.Given as goal

abbrev pub invariant-loop : goal.invariant-loop
invariant-loop l = l.made.items ≡ l.initial.made.items ++ replicate l.counter l.flag
