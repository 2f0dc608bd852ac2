use Rattle.std.proofs.Common.{arith}
use Rattle.cd_rules.proofs.EligibleAtoms.{at_no_place}
use Rattle.cd_rules.proofs.atoms.place_of.Goals as goal

pub returns : goal.returns
returns c = at_no_place c.args.elems.now c.args.atom c.places.i (omega (arith, c.places-test.false)) c.places.invariant
