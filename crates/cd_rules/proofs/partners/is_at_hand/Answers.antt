use Rattle.std.proofs.Common.{arith}
use Rattle.cd_rules.proofs.ConPartners.{hand_by_test}
use Rattle.cd_rules.proofs.partners.is_at_hand.Goals as goal

pub returns-else-at-atom : goal.returns-else-at-atom
returns-else-at-atom c = hand_by_test c.args.partners.now c.args.atom c.args.at c.has_partner.result c.has_partner.ensures (λ e. omega arith)
