use Rattle.std.proofs.Common.{ℕ, sym, subst}
use Rattle.std.specs.Prelude.{IfErr}
use Rattle.std.proofs.lemmas.Result.{err_from_is_err_and}
use Rattle.cd_actor.specs.Cells.{AreOf}
use Rattle.cd_base.specs.declared.normal.Normal.{Normal}
use Rattle.cd_cell.specs.Cells.{meaning}
use Rattle.cd_saturation.specs.Limit.{HasHalted}
use Rattle.cd_saturation.specs.declared.halt.Halt.{Halt}
use Rattle.cd_saturation.proofs.Runs.{resumed, halted}
use Rattle.cd_saturation.proofs.saturation.run_on.Goals as goal

pub returns-clause-settled : goal.returns-clause-settled
returns-clause-settled c = resumed _ _ _ c.in_ok-core.ensures.begun _ c.in_ok-cells.ensures.ok.settled

pub returns-in_err-cells-clause-halted : goal.returns-in_err-cells-clause-halted
returns-in_err-cells-clause-halted c =
    let p = err_from_is_err_and c.from_residual-in_err-cells.result c.from_residual-in_err-cells.ensures.1 in
    let max_contexts = c.args.limits.now.max_contexts in let max_facts = c.args.limits.now.max_facts in
    subst (λ r. IfErr r (λ (halt : Halt). (count : ℕ) (n : Normal) → AreOf meaning (count, n) c.args.cells.items → HasHalted n c.args.limits.now.max_contexts c.args.limits.now.max_facts halt)) (sym p.1)
    (λ count n of. subst (HasHalted n max_contexts max_facts) (sym p.2) (halted _ _ _ c.in_ok-core.ensures.begun max_contexts max_facts _ c.in_err-cells.ensures.stop count n of))
