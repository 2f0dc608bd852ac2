use Rattle.std.proofs.Common.{◌≡◌, [], true, refl, arith}
use Rattle.cd_base.proofs.Appending.{below_goes, member_grows}
use Rattle.cd_base.proofs.Members.{member_get}
use Rattle.cd_rules.proofs.ConPartners.{OfChoice, found_partners}
use Rattle.cd_rules.proofs.partners.partners_among.Goals as goal

pub push_partner-requires : goal.push_partner-requires
push_partner-requires c = c.requires.choices _ (member_get c.args.choices.now c.choices.i 0 c.choices-test.true)

pub choices-preserved : goal.choices-preserved
choices-preserved c =
    below_goes member_grows (OfChoice c.args.normal.now c.args.clauses.now c.args.choices.now) c.choices.i (true ≡ true) [] c.choices.partners.items c.push_partner.new.partners.items
    c.choices.invariant c.in_ok-push_partner.ensures refl

pub returns : goal.returns
returns c = found_partners c.args.normal.now c.args.clauses.now c.args.choices.now c.choices.i c.choices.partners.items (omega (arith, c.choices-test.false)) c.choices.invariant
