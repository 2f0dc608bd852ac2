use Rattle.std.proofs.Common.{◌<◌, ℕ, get_or}
use Rattle.cd_context.specs.Beside.{Stands}
use Rattle.cd_context.specs.Waits.{numbers}
use Rattle.cd_context.proofs.beside.may_have_one.Given as goal

abbrev pub invariant-numbers : goal.invariant-numbers
invariant-numbers l = (k : ℕ) → k < l.i → Stands l.store.live (numbers l.waiting) l.premise (get_or l.among k 0) → ⊥
