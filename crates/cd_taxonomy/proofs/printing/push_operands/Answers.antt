use Rattle.std.proofs.Common.{arith}
use Rattle.std.proofs.lemmas.Grind.{common_steps}
use Rattle.cd_meaning.specs.Text.{full_iri}
use Rattle.cd_taxonomy.proofs.LinesOfGroups.{operands_first, operands_next}
use Rattle.cd_taxonomy.proofs.printing.push_operands.Goals as goal
use Rattle.cd_taxonomy.proofs.printing.push_operands.Goals.{then-i-gt0+in_ok-push, else-i-gt0}

pub loop-i-preserved : goal.loop-i-preserved
loop-i-preserved c =
    elim c.if-i-gt0.branch [
      | then-i-gt0+in_ok-push w ↦ let e = operands_next (full_iri c.args.names.now) c.args.classes.now c.loop-i.i 0 (omega arith) (omega arith) in grind (arith, common_steps)
      | else-i-gt0 w ↦ let e = operands_first (full_iri c.args.names.now) c.args.classes.now c.loop-i.i 0 (omega arith) (omega arith) in grind (arith, common_steps)
    ]
