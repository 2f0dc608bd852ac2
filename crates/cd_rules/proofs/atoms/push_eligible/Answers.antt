use Rattle.std.proofs.Common.{ℕ, [], ◌∷◌, ◌++◌, inl, inr, ◌∙◌, ap}
use Rattle.cd_rules.proofs.EligibleAtoms.{pushed_atom}
use Rattle.cd_rules.proofs.atoms.push_eligible.Goals as goal

pub returns-in-None : goal.returns-in-None
returns-in-None c = λ b. (λ m. inl m, λ q. elim q [ inl m ↦ m | inr e ↦ absurd (c.in-None.ensures b e) ])

pub returns-in_ok-push-in-Some : goal.returns-in_ok-push-in-Some
returns-in_ok-push-in-Some c = pushed_atom c.args.normal.now c.args.clause.now c.in-Some.atom c.args.atoms.now.items c.push.new.self.items c.in-Some.ensures
    (c.in_ok-push-in-Some.ensures.items ∙ ap (λ (a : ℕ). c.args.atoms.now.items ++ a ∷ []) c.number.ensures)
