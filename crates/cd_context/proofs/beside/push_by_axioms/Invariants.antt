use Rattle.cd_store.proofs.Gaining.{HasGained}
use Rattle.cd_context.proofs.Besides.{OfNumber}
use Rattle.cd_context.specs.Beside.{Stands}
use Rattle.cd_context.specs.Waits.{numbers}
use Rattle.cd_context.proofs.beside.push_by_axioms.Given as goal

abbrev pub invariant-axioms : goal.invariant-axioms
invariant-axioms l = HasGained (OfNumber l.index.normal (Stands l.store.live (numbers l.waiting) l.premise) l.store.clauses l.atom l.fn.axioms) l.i l.fn.found.items l.found.items
