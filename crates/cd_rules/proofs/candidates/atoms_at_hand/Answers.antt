use Rattle.cd_rules.proofs.Tried.{all_at_hand}
use Rattle.cd_rules.proofs.candidates.atoms_at_hand.Goals as goal

pub returns-clause-exact : goal.returns-clause-exact
returns-clause-exact c = all_at_hand c.args.partners.now c.args.atom c.number.result c.in_ok-atoms.atoms.items c.push.new.self.items c.put_in_order.new.numbers.items
    c.in_ok-atoms.ensures c.number.ensures c.in_ok-push.ensures.items c.put_in_order.ensures.same
