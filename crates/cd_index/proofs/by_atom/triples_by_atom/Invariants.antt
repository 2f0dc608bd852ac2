use Rattle.std.proofs.Common.{take}
use Rattle.cd_index.specs.Index.{at_atom}
use Rattle.cd_index.specs.Lists.{AreLists}
use Rattle.cd_index.proofs.by_atom.triples_by_atom.Given as goal

abbrev pub invariant-loop-triple : goal.invariant-loop-triple
invariant-loop-triple l = AreLists l.atoms l.lists.items (at_atom (take l.triple-index l.triples))
