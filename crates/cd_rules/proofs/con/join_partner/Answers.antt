use Rattle.std.proofs.Common.{◌≡◌, List, get_or, [], arith, ap, subst}
use Rattle.std.specs.Result.{IsOk}
use Rattle.std.proofs.lemmas.List.{get_or_read}
use Rattle.cd_base.specs.Lists.{SameSet}
use Rattle.cd_clause.specs.Elements.{rest}
use Rattle.cd_clause.specs.declared.elem.Elem.{Elem}
use Rattle.cd_clause.specs.declared.elem.Elem.TheVariants.{Plain}
use Rattle.cd_rules.specs.declared.partners.Partner.{Partner}
use Rattle.cd_rules.proofs.Unions.{join_by_partner}
use Rattle.cd_rules.proofs.con.join_partner.Goals as goal

pub returns : goal.returns
returns c =
    let p = c.args.partner.now in
    let own = ap (λ (q : Partner). q.atom) c.partner.view_is in
    let other = c.atom.view_is in
    let is : c.index-clauses-partner.result ≡ get_or c.args.clauses.now p.number c.index-clauses-partner.result
    = subst (λ (q : Partner). c.index-clauses-partner.result ≡ get_or c.args.clauses.now q.number c.index-clauses-partner.result) c.partner.view_is c.index-clauses-partner.is in
    let read : c.index-clauses-partner.result ≡ get_or c.args.clauses.now p.number []
    = get_or_read c.args.clauses.now p.number c.index-clauses-partner.result c.requires is [] in
    join_by_partner c.args.clauses.now c.args.atom c.args.unions.now p c.in_ok-others.others (IsOk c.join_each.result) c.args.found.now.items c.join_each.new.found.items (omega (arith, own, other))
    (subst (λ (x : List Elem). SameSet c.in_ok-others.others (rest (Plain p.atom) x)) read c.in_ok-others.ensures) c.join_each.ensures
