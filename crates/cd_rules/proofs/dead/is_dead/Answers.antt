use Rattle.std.proofs.Common.{refl, sym, ap}
use Rattle.std.proofs.lemmas.Bool.{both_ways, false≢true}
use Rattle.cd_rules.proofs.Searched.{not_yet, not_there}
use Rattle.cd_rules.proofs.Deads.{found_dead}
use Rattle.cd_rules.proofs.dead.is_dead.Goals as goal

pub returns-then-are_same : goal.returns-then-are_same
returns-then-are_same c = (
  λ t. found_dead c.args.facts.now c.loop-fact.fact-index c.fact-item.result c.args.role c.args.key.now c.loop-fact-test.true c.fact-item.is (c.are_same.ensures.0 c.if-are_same.true),
  λ m. refl,
)

pub loop-fact-preserved : goal.loop-fact-preserved
loop-fact-preserved c = not_yet c.args.facts.now c.loop-fact.fact-index c.fact-item.result c.fact-item.result (record { role = c.args.role; key = c.args.key.now })
    c.loop-fact-test.true c.fact-item.is c.loop-fact.invariant (λ q. both_ways c.are_same.result c.if-are_same.false (c.are_same.ensures.1 (ap (λ w. w.role) (sym q), ap (λ w. w.key) (sym q))))

pub returns : goal.returns
returns c = (
  λ t. absurd (false≢true t),
  λ m. absurd (not_there c.args.facts.now c.loop-fact.fact-index (record { role = c.args.role; key = c.args.key.now }) c.loop-fact-test.false c.loop-fact.invariant m),
)
