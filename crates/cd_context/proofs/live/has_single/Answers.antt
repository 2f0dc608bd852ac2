use Rattle.std.proofs.Common.{◌<◌, refl, arith, length, get_or}
use Rattle.std.proofs.lemmas.Bool.{false≢true}
use Rattle.std.proofs.lemmas.Grind.{common_steps}
use Rattle.cd_base.proofs.Members.{member_get}
use Rattle.cd_context.proofs.LiveClauses.{single_at, one_less, none_single}
use Rattle.cd_context.proofs.live.has_single.Goals as goal

pub offset_bounds-clauses-at : goal.offset_bounds-clauses-at
offset_bounds-clauses-at c =
    let h : get_or c.args.live.now c.numbers.n-index 0 < length c.args.clauses.now = c.requires.in_range _ (member_get c.args.live.now c.numbers.n-index 0 c.numbers-test.true) in
    grind (arith, common_steps)

pub bounds-clauses-at : goal.bounds-clauses-at
bounds-clauses-at c = c.requires.in_range _ (member_get c.args.live.now c.numbers.n-index 0 c.numbers-test.true)

pub returns-then-is_single : goal.returns-then-is_single
returns-then-is_single c = (
  λ _. single_at c.args.clauses.now c.args.live.now c.args.atom c.requires.in_range c.numbers.n-index c.index-clauses-at.result c.numbers-test.true c.index-clauses-at.is (c.is_single.ensures.0 c.if-is_single.true),
  λ _. refl,
)

pub numbers-preserved : goal.numbers-preserved
numbers-preserved c =
    one_less c.args.clauses.now c.args.live.now c.args.atom c.requires.in_range c.numbers.n-index c.index-clauses-at.result c.numbers-test.true c.index-clauses-at.is
    (λ w. let h = c.is_single.ensures.1 w in let k = c.if-is_single.false in cc) c.numbers.invariant

pub returns : goal.returns
returns c = (
  λ h. absurd (false≢true h),
  λ s. absurd (none_single c.args.clauses.now c.args.live.now c.args.atom c.requires.in_range (λ k l. c.numbers.invariant k (let z = c.numbers-test.false in omega arith)) s),
)
