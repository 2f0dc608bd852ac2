use Rattle.cd_store.proofs.Gaining.{HasGained}
use Rattle.cd_context.proofs.Besides.{OfAtomAt}
use Rattle.cd_context.specs.Beside.{Stands}
use Rattle.cd_context.specs.Waits.{numbers}
use Rattle.cd_context.proofs.beside.push_by_filed.Given as goal

abbrev pub invariant-atoms : goal.invariant-atoms
invariant-atoms l = HasGained (OfAtomAt l.index.normal (Stands l.store.live (numbers l.waiting) l.premise) l.store.clauses l.index.filed l.fn.atoms l.atom) l.i l.fn.found.items l.found.items
