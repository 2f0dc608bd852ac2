use Rattle.std.proofs.Common.{length, arith}
use Rattle.cd_store.proofs.Gaining.{gain_goes, gain_ends}
use Rattle.cd_context.specs.Beside.{IsBesideByCon, Stands}
use Rattle.cd_context.proofs.Besides.{OfAtomAt, by_filed}
use Rattle.cd_context.specs.Waits.{numbers}
use Rattle.cd_context.proofs.beside.push_by_filed.Goals as goal

pub atoms-preserved : goal.atoms-preserved
atoms-preserved c =
    gain_goes (OfAtomAt c.args.index.now.normal (Stands c.args.store.now.live (numbers c.args.waiting.now) c.args.premise) c.args.store.now.clauses c.args.index.now.filed c.args.atoms.now c.args.atom) c.atoms.i c.args.found.now.items c.atoms.found.items c.push_by_number.new.found.items c.atoms.invariant c.in_ok-push_by_number.ensures

pub returns : goal.returns
returns c =
    let n = c.args.index.now.normal in
    gain_ends (OfAtomAt n (Stands c.args.store.now.live (numbers c.args.waiting.now) c.args.premise) c.args.store.now.clauses c.args.index.now.filed c.args.atoms.now c.args.atom) c.atoms.i (length c.args.atoms.now) c.args.found.now.items c.atoms.found.items
    (IsBesideByCon n (Stands c.args.store.now.live (numbers c.args.waiting.now) c.args.premise) c.args.store.now.clauses c.args.atom) c.atoms.invariant (omega (arith, c.atoms-test.false))
    (by_filed n (Stands c.args.store.now.live (numbers c.args.waiting.now) c.args.premise) c.args.store.now.clauses c.args.atoms.now c.args.atom c.args.index.now.filed c.requires.filing c.requires.all c.requires.had)
