use Rattle.cd_store.proofs.Gaining.{HasGained}
use Rattle.cd_context.proofs.Besides.{OfAtom}
use Rattle.cd_context.proofs.beside.push_by_atoms.Given as goal

abbrev pub invariant-atoms : goal.invariant-atoms
invariant-atoms l = HasGained (OfAtom l.index.normal l.store.clauses l.fn.atoms) l.i l.fn.found.items l.found.items
