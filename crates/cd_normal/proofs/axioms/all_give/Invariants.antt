use Rattle.std.proofs.Common.{◌+◌, ◌*◌, take}
use Rattle.cd_meaning.specs.Nodes.{nodes}
use Rattle.cd_normal.specs.NormalForm.{GivesFrom}
use Rattle.cd_normal.specs.Made.{IsGiven, IsGrown, role_operands}
use Rattle.cd_normal.proofs.axioms.all_give.Given as goal

abbrev pub invariant-loop-stated : goal.invariant-loop-stated
invariant-loop-stated l = record {
  given : IsGiven l.classes l.initial.maker l.maker (λ Fresh axs. GivesFrom l.classes Fresh 0 (take l.stated-index l.axioms) axs);
  grown : IsGrown l.initial.maker l.maker (6 * nodes (take l.stated-index l.axioms)) (12 * nodes (take l.stated-index l.axioms) + role_operands (take l.stated-index l.axioms));
}
