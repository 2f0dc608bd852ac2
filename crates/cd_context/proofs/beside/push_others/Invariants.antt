use Rattle.cd_store.proofs.Gaining.{HasGained}
use Rattle.cd_context.proofs.Besides.{OfPlace}
use Rattle.cd_context.proofs.beside.push_others.Given as goal

abbrev pub invariant-atoms : goal.invariant-atoms
invariant-atoms l = HasGained (OfPlace l.store.clauses l.fn.atoms l.place) l.i l.fn.found.items l.found.items
