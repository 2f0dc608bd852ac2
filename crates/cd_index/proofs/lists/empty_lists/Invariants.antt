use Rattle.std.proofs.Common.{[]}
use Rattle.cd_index.specs.Lists.{AreLists}
use Rattle.cd_index.proofs.lists.empty_lists.Given as goal

abbrev pub invariant-loop : goal.invariant-loop
invariant-loop g l = AreLists l.counter l.lists.items (λ _. [])
