use Rattle.std.proofs.Common.{ℕ, List, subst}
use Rattle.cd_rules.specs.Candidates.{AreFiledWith}
use Rattle.cd_rules.proofs.Tried.{filed_try}
use Rattle.cd_rules.proofs.candidates.candidates.Goals as goal

pub returns : goal.returns
returns c =
    let n = c.args.index.now.normal in
    filed_try n c.args.partners.now c.args.atom c.args.index.now.filed c.in_ok-atoms.atoms.items c.in_ok-numbers.numbers.items (λ l. search c.filed.ensures.filing)
    c.in_ok-atoms.ensures.exact
    (subst (λ (l : List ℕ). AreFiledWith n.n1 c.args.index.now.filed n.atoms l c.args.atom c.in_ok-numbers.numbers.items) c.as_slice-2.ensures.value c.in_ok-numbers.ensures)
