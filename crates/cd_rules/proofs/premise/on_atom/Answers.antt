use Rattle.std.proofs.Common.{refl, inl, inr}
use Rattle.cd_base.proofs.Appending.{both}
use Rattle.cd_rules.proofs.Among.{among_grows}
use Rattle.cd_rules.proofs.Ends.{failed, done}
use Rattle.cd_rules.proofs.premise.on_atom.Goals as goal

pub returns-in_err-neg : goal.returns-in_err-neg
returns-in_err-neg c = failed _ _ _ c.from_residual.result _ _ c.from_residual.ensures.0 (λ d p. inl p) c.neg.ensures

pub returns-in_err-ex : goal.returns-in_err-ex
returns-in_err-ex c = failed _ _ _ c.from_residual-in_err-ex.result _ _ c.from_residual-in_err-ex.ensures.0 (λ d p. elim p [ inl q ↦ inl q | inr q ↦ inr (inl q) ])
    (both among_grows _ _ _ _ _ _ _ c.neg.ensures c.ex.ensures)

pub returns-in_err-con : goal.returns-in_err-con
returns-in_err-con c = failed _ _ _ c.from_residual-in_err-con.result _ _ c.from_residual-in_err-con.ensures.0
    (λ d p. elim p [ inl q ↦ inl q | inr q ↦ inr (elim q [ inl z ↦ inl z | inr z ↦ inr (inl z) ]) ])
    (both among_grows _ _ _ _ _ _ _ c.neg.ensures (both among_grows _ _ _ _ _ _ _ c.ex.ensures c.con.ensures))

pub returns : goal.returns
returns c = done _ _ _ _ _ (λ h. (refl, (refl, (refl, h))))
    (both among_grows _ _ _ _ _ _ _ c.in_ok-neg.ensures (both among_grows _ _ _ _ _ _ _ c.in_ok-ex.ensures (both among_grows _ _ _ _ _ _ _ c.in_ok-con.ensures c.all_of_atom.ensures)))
