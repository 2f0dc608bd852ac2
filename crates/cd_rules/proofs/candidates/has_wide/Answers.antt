use Rattle.std.proofs.Common.{◌<◌, ℕ, List, length, get_or, refl, subst, arith}
use Rattle.std.proofs.lemmas.Bool.{false≢true}
use Rattle.std.proofs.lemmas.Grind.{common_steps}
use Rattle.cd_base.proofs.Members.{member_get}
use Rattle.cd_rules.proofs.Tried.{found_wide, no_wide}
use Rattle.cd_rules.proofs.candidates.has_wide.Goals as goal

pub offset_bounds-axioms-numbers : goal.offset_bounds-axioms-numbers
offset_bounds-axioms-numbers c =
    let h : get_or c.args.numbers.now c.numbers.i 0 < length c.args.axioms.now = c.requires _ (member_get c.args.numbers.now c.numbers.i 0 c.numbers-test.true) in
    grind (arith, common_steps)

pub bounds-axioms-numbers : goal.bounds-axioms-numbers
bounds-axioms-numbers c = c.requires _ (member_get c.args.numbers.now c.numbers.i 0 c.numbers-test.true)

pub returns-then-items-gt1 : goal.returns-then-items-gt1
returns-then-items-gt1 c = (
  λ t. found_wide c.args.axioms.now c.args.numbers.now c.numbers.i c.index-axioms-numbers.result c.requires c.numbers-test.true c.index-axioms-numbers.is
      (subst (λ (l : List ℕ). 1 < length l) c.items.ensures c.if-items-gt1.true),
  λ q. refl,
)

pub returns : goal.returns
returns c = (
  λ t. absurd (false≢true t),
  λ q. absurd (no_wide c.args.axioms.now c.args.numbers.now c.numbers.i (omega (arith, c.numbers-test.false)) c.numbers.invariant q),
)
