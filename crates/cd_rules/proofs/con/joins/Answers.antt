use Rattle.std.proofs.Common.{[], refl, sym, subst}
use Rattle.cd_base.specs.Lists.{OneOf}
use Rattle.cd_base.proofs.Members.{member_get}
use Rattle.cd_rules.specs.Partners.{IsJoinBy}
use Rattle.cd_rules.specs.Walks.{ByOne}
use Rattle.cd_rules.specs.declared.partners.Partner.{Partner}
use Rattle.cd_rules.proofs.EachItem.{goes_on, ends}
use Rattle.cd_rules.proofs.Unions.{those}
use Rattle.cd_rules.proofs.con.joins.Goals as goal

pub join_partner-requires : goal.join_partner-requires
join_partner-requires c = c.requires.partners c.partner-item.result
    (subst (λ (p : Partner). OneOf p c.args.partners.now) (sym c.partner-item.is) (member_get c.args.partners.now c.loop-partner.partner-index c.partner-item.result c.loop-partner-test.true))

pub loop-partner-preserved : goal.loop-partner-preserved
loop-partner-preserved c = goes_on (IsJoinBy c.args.clauses.now c.args.atom c.args.unions.now)
    c.args.partners.now c.loop-partner.partner-index c.partner-item.result c.partner-item.result c.loop-partner-test.true c.partner-item.is
    c.loop-partner.invariant c.in_ok-join_partner.ensures refl

pub returns : goal.returns
returns c =
    let Q = IsJoinBy c.args.clauses.now c.args.atom c.args.unions.now in
    those (ByOne Q c.args.partners.now) (Unit {0}) [] c.loop-partner.found.items refl tt
    (ends (ByOne Q c.args.partners.now) Q c.args.partners.now c.loop-partner.partner-index c.loop-partner-test.false c.loop-partner.invariant (λ d p. p) (λ d p. p))
