use Rattle.std.proofs.Common.{refl, arith}
use Rattle.cd_rules.proofs.Tried.{atom_found, atom_missed}
use Rattle.cd_rules.proofs.candidates.has_atom.Goals as goal

pub returns-then-at-atom : goal.returns-then-at-atom
returns-then-at-atom c = (
  λ e. atom_found c.args.atom c.index-atoms-i.result c.args.atoms.now c.atoms.i c.atoms-test.true c.index-atoms-i.is (omega arith),
  λ m. refl,
)

pub returns : goal.returns
returns c = (λ e. cc, λ m. absurd (atom_missed c.args.atom c.args.atoms.now c.atoms.i (omega (arith, c.atoms-test.false)) c.atoms.invariant m))
