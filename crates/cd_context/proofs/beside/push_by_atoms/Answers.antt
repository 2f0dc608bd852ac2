use Rattle.std.proofs.Common.{length, arith}
use Rattle.cd_store.proofs.Gaining.{gain_goes, gain_ends}
use Rattle.cd_context.specs.Beside.{IsBesideExist}
use Rattle.cd_context.proofs.Besides.{OfAtom, by_atom}
use Rattle.cd_context.proofs.beside.push_by_atoms.Goals as goal

pub atoms-preserved : goal.atoms-preserved
atoms-preserved c = gain_goes (OfAtom c.args.index.now.normal c.args.store.now.clauses c.args.atoms.now) c.atoms.i c.args.found.now.items c.atoms.found.items c.push_if_universal.new.found.items c.atoms.invariant c.in_ok-push_if_universal.ensures

pub returns : goal.returns
returns c = gain_ends (OfAtom c.args.index.now.normal c.args.store.now.clauses c.args.atoms.now) c.atoms.i (length c.args.atoms.now) c.args.found.now.items c.atoms.found.items
    (IsBesideExist c.args.index.now.normal c.args.store.now.clauses) c.atoms.invariant (omega (arith, c.atoms-test.false)) (by_atom c.args.index.now.normal c.args.store.now.clauses c.args.atoms.now c.requires)
