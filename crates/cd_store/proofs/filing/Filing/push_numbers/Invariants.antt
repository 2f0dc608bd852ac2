use Rattle.cd_store.proofs.Gaining.{HasGained}
use Rattle.cd_store.proofs.Listed.{IsNumberAt}
use Rattle.cd_store.proofs.filing.Filing.push_numbers.Given as goal

abbrev pub invariant-lists : goal.invariant-lists
invariant-lists l = HasGained (IsNumberAt l.self) l.i l.fn.numbers.items l.numbers.items
