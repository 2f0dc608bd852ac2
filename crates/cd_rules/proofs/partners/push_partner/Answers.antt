use Rattle.std.proofs.Common.{◌≡◌, [], true, refl}
use Rattle.std.proofs.lemmas.List.{get_or_read}
use Rattle.cd_rules.proofs.ConPartners.{no_partner, one_partner}
use Rattle.cd_rules.proofs.partners.push_partner.Goals as goal

pub returns-in-None : goal.returns-in-None
returns-in-None c =
    no_partner c.args.normal.now c.args.clauses.now c.args.number c.index-clauses-number.result (true ≡ true) c.args.partners.now.items
    (get_or_read c.args.clauses.now c.args.number c.index-clauses-number.result c.requires c.index-clauses-number.is []) c.in-None.ensures

pub returns-in_ok-push-in-Some : goal.returns-in_ok-push-in-Some
returns-in_ok-push-in-Some c =
    one_partner c.args.normal.now c.args.clauses.now c.args.number c.index-clauses-number.result c.in-Some.atom (record { atom = c.in-Some.atom; number = c.args.number }) (true ≡ true) c.args.partners.now.items
    c.push.new.self.items (get_or_read c.args.clauses.now c.args.number c.index-clauses-number.result c.requires c.index-clauses-number.is []) c.in-Some.ensures refl c.in_ok-push-in-Some.ensures.items
