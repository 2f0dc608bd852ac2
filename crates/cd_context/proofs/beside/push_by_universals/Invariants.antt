use Rattle.cd_store.proofs.Gaining.{HasGained}
use Rattle.cd_context.proofs.Besides.{OfUniversal}
use Rattle.cd_context.proofs.beside.push_by_universals.Given as goal

abbrev pub invariant-universals : goal.invariant-universals
invariant-universals l = HasGained (OfUniversal l.index.normal.n4 l.store.clauses) l.i l.fn.found.items l.found.items
