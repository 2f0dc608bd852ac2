use Rattle.std.proofs.Common.{◌∙◌, List, [], ap, sym, subst}
use Rattle.std.specs.Result.{IsOk}
use Rattle.std.proofs.lemmas.Bool.{both_ways}
use Rattle.cd_base.specs.declared.normal.Conj.{Conj}
use Rattle.cd_base.specs.declared.normal.Normal.{Normal}
use Rattle.cd_base.specs.Appends.{Appends}
use Rattle.cd_rules.specs.Among.{Among}
use Rattle.cd_rules.specs.Candidates.{HasWide}
use Rattle.cd_rules.specs.LookUps.{AreNumbers}
use Rattle.cd_rules.specs.Partners.{AreNumbered, ArePartners, IsConOf}
use Rattle.cd_rules.specs.declared.partners.Partner.{Partner}
use Rattle.cd_rules.proofs.ConNumbers.{with_left_try}
use Rattle.cd_rules.proofs.ConPartners.{are_numbered, con_of_all, con_of_none}
use Rattle.cd_rules.proofs.con.con.Goals as goal

pub has_wide-requires : goal.has_wide-requires
has_wide-requires c =
    let same = c.items.ensures ∙ ap (λ (n : Normal). n.n1) c.normal-normal.ensures in
    subst (λ (l : List Conj). AreNumbers l c.with_left-all.result.now) (sym same) c.with_left-all.ensures.numbers

pub con_by_each-requires-clause-numbers : goal.con_by_each-requires-clause-numbers
con_by_each-requires-clause-numbers c = with_left_try c.args.index.now.normal.n1 [] c.args.atom c.with_left-all.result.now c.with_left-all.ensures.numbers c.with_left-all.ensures.every

pub returns-then-not-has_wide : goal.returns-then-not-has_wide
returns-then-not-has_wide c =
    let same = c.items.ensures ∙ ap (λ (n : Normal). n.n1) c.normal-normal.ensures in
    con_of_none c.args.index.now.normal c.args.clauses.now c.args.choices.now c.with_left-all.result.now c.args.atom c.args.others.now (IsOk c.con_by_each.result) c.args.out.now.items c.con_by_each.new.out.items
    c.with_left-all.ensures.every
    (λ w. both_ways c.has_wide.result c.if-not-has_wide.true (c.has_wide.ensures.1 (subst (λ (l : List Conj). HasWide l c.with_left-all.result.now) (sym same) w)))
    c.con_by_each.ensures

pub con_with-requires-clause-partners : goal.con_with-requires-clause-partners
con_with-requires-clause-partners c =
    let are : ArePartners c.args.index.now.normal c.args.clauses.now c.args.choices.now c.in_ok-partners.partners.items
    = subst (λ (n : Normal). ArePartners n c.args.clauses.now c.args.choices.now c.in_ok-partners.partners.items) c.normal-normal.ensures c.in_ok-partners.ensures in
    subst (λ (l : List Partner). AreNumbered c.args.clauses.now l) (sym c.as_slice.ensures.value)
    (are_numbered c.args.index.now.normal c.args.clauses.now c.args.choices.now c.in_ok-partners.partners.items are c.requires.choices)

pub returns : goal.returns
returns c =
    let are : ArePartners c.args.index.now.normal c.args.clauses.now c.args.choices.now c.in_ok-partners.partners.items
    = subst (λ (n : Normal). ArePartners n c.args.clauses.now c.args.choices.now c.in_ok-partners.partners.items) c.normal-normal.ensures c.in_ok-partners.ensures in
    con_of_all c.args.index.now.normal c.args.clauses.now c.args.choices.now c.in_ok-partners.partners.items c.args.atom c.args.others.now (IsOk c.con_with.result) c.args.out.now.items c.con_with.new.out.items are
    (subst (λ (l : List Partner). Appends Among (IsConOf c.args.index.now.normal.n1 c.args.clauses.now l c.args.atom c.args.others.now) (IsOk c.con_with.result) c.args.out.now.items c.con_with.new.out.items)
    c.as_slice.ensures.value c.con_with.ensures)
