use Rattle.std.proofs.Common.{refl, inl, inr}
use Rattle.cd_base.proofs.Appending.{both}
use Rattle.cd_rules.proofs.Among.{among_grows}
use Rattle.cd_rules.proofs.Ends.{failed, done}
use Rattle.cd_rules.proofs.premise.on_exist.Goals as goal

pub returns-in_err-sure_from : goal.returns-in_err-sure_from
returns-in_err-sure_from c = failed _ _ _ c.from_residual-in_err-sure_from.result _ _ c.from_residual-in_err-sure_from.ensures.0 (λ d p. elim p [ inl q ↦ inl q | inr q ↦ inr (inl q) ])
    (both among_grows _ _ _ _ _ _ _ c.back_from.ensures c.sure_from.ensures)

pub returns-in_err-dead_from : goal.returns-in_err-dead_from
returns-in_err-dead_from c = failed _ _ _ c.from_residual-in_err-dead_from.result _ _ c.from_residual-in_err-dead_from.ensures.0
    (λ d p. elim p [ inl q ↦ inl q | inr q ↦ inr (elim q [ inl z ↦ inl z | inr z ↦ inr (inl z) ]) ])
    (both among_grows _ _ _ _ _ _ _ c.back_from.ensures (both among_grows _ _ _ _ _ _ _ c.sure_from.ensures c.dead_from.ensures))

pub returns : goal.returns
returns c = done _ _ _ _ _ (λ h. (refl, (refl, (refl, h))))
    (both among_grows _ _ _ _ _ _ _ c.in_ok-back_from.ensures (both among_grows _ _ _ _ _ _ _ c.in_ok-sure_from.ensures (both among_grows _ _ _ _ _ _ _ c.in_ok-dead_from.ensures c.all_of_exist.ensures)))
