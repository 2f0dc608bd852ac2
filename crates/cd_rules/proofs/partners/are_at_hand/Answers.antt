use Rattle.std.proofs.Common.{◌-◌, refl, arith}
use Rattle.std.proofs.lemmas.Bool.{both_ways, false≢true}
use Rattle.cd_rules.proofs.ConPartners.{end_fails, ends_meet}
use Rattle.cd_rules.proofs.partners.are_at_hand.Goals as goal

pub returns-then-not-is_at_hand : goal.returns-then-not-is_at_hand
returns-then-not-is_at_hand c = (
  λ t. absurd (false≢true t),
  λ h. absurd (end_fails c.args.atoms.now c.args.partners.now c.args.atom c.places.low c.index-atoms-low.result (omega (arith, c.places-test.true, c.places.invariant.0)) c.index-atoms-low.is
      (λ z. both_ways c.is_at_hand.result c.if-not-is_at_hand.true (c.is_at_hand.ensures.1 z)) h),
)

pub returns-then-not-is_at_hand-2 : goal.returns-then-not-is_at_hand-2
returns-then-not-is_at_hand-2 c = (
  λ t. absurd (false≢true t),
  λ h. absurd (end_fails c.args.atoms.now c.args.partners.now c.args.atom (c.places.high - 1) c.index-atoms-high.result (omega (arith, c.places-test.true, c.places.invariant.0)) c.index-atoms-high.is
      (λ z. both_ways c.is_at_hand-in-places.result c.if-not-is_at_hand-2.true (c.is_at_hand-in-places.ensures.1 z)) h),
)

pub returns : goal.returns
returns c = (
  λ t. ends_meet c.args.atoms.now c.args.partners.now c.args.atom c.places.low c.places.high c.places.invariant (omega (arith, c.places-test.false)),
  λ h. refl,
)
