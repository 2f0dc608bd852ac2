use Rattle.std.proofs.Common.{ℕ, [], length, arith}
use Rattle.cd_base.specs.Lists.{OneOf}
use Rattle.cd_index.specs.Index.{left_of}
use Rattle.cd_rules.specs.LookUps.{filed_at}
use Rattle.cd_rules.proofs.Gathered.{gather_all, gather_goes}
use Rattle.cd_rules.proofs.Tried.{OfAtomAt, filed_whole}
use Rattle.cd_rules.proofs.candidates.filed_with.Goals as goal

pub atoms-preserved : goal.atoms-preserved
atoms-preserved c =
    gather_goes (OfAtomAt c.args.index.now.normal.n1 c.args.index.now.filed c.args.index.now.normal.atoms c.args.atoms.now c.args.atom) c.atoms.i [] c.atoms.numbers.items c.atoms.invariant
    c.push_filed.new.numbers.items c.in_ok-push_filed.ensures

pub returns : goal.returns
returns c =
    let n = c.args.index.now.normal in
    gather_all (OfAtomAt n.n1 c.args.index.now.filed n.atoms c.args.atoms.now c.args.atom) c.atoms.i (length c.args.atoms.now) c.atoms.numbers.items
    (λ k. (b : ℕ) × OneOf b c.args.atoms.now × OneOf k (filed_at c.args.index.now.filed n.atoms b) × OneOf c.args.atom (left_of n.n1 k))
    c.atoms.invariant (omega (arith, c.atoms-test.false)) (filed_whole n.n1 c.args.index.now.filed n.atoms c.args.atoms.now c.args.atom)
