use Rattle.std.proofs.Common.{arith}
use Rattle.cd_rules.proofs.Tried.{atom_missed}
use Rattle.cd_context.proofs.beside.place_of.Goals as goal

pub returns : goal.returns
returns c = λ m. atom_missed c.args.atom c.args.atoms.now c.atoms.i (omega (arith, c.atoms-test.false)) c.atoms.invariant m
