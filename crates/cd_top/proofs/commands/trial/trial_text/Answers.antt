use Rattle.std.proofs.Common.{ap, sym, ◌∙◌, refl, arith}
use Rattle.std.proofs.lemmas.Result.{err_from_is_err_and}
use Rattle.cd_taxonomy.specs.Relation.{relation}
use Rattle.cd_taxonomy.specs.Summary.{summary_of, summary_text}
use Rattle.cd_top.specs.declared.stop.Stop.{Stop}
use Rattle.cd_top.proofs.SomeText.{some_trial}
use Rattle.cd_top.proofs.Stopped.{from_halt, not_halt, not_memory}
use Rattle.cd_top.proofs.commands.trial.trial_text.Goals as goal

pub returns-clause-text : goal.returns-clause-text
returns-clause-text c =
    let made = c.in_ok-document.ensures in (
      c.in_ok-document.document,
      record { axioms = made.axioms; classes = made.classes; roles = made.roles },
      relation c.in_ok-above.above.items,
      c.in_ok-above.ensures.ok.decided,
      c.in_ok-text.ensures ∙ ap (λ above. summary_text (summary_of c.in_ok-document.document.classes (relation above))) c.deref.ensures.value,
    )

pub returns-clause-some : goal.returns-clause-some
returns-clause-some c = some_trial c.args.levels c.in_ok-text.text.items (returns-clause-text c)

pub returns-in_err-above-clause-limit : goal.returns-in_err-above-clause-limit
returns-in_err-above-clause-limit c kind number h =
    let p = err_from_is_err_and c.from_residual-in_err-above.result c.from_residual-in_err-above.ensures.1 in
    let made = c.in_ok-document.ensures in (
      c.in_ok-document.document,
      record { axioms = made.axioms; classes = made.classes; roles = made.roles },
      c.in_err-above.ensures.limit kind number (from_halt c.in_err-above.field-0.0 p.0 (Stop.Limit kind number) p.2 (sym p.1 ∙ h)),
    )

pub returns-in_err-above-clause-usage : goal.returns-in_err-above-clause-usage
returns-in_err-above-clause-usage c h =
    let p = err_from_is_err_and c.from_residual-in_err-above.result c.from_residual-in_err-above.ensures.1 in
    not_halt c.in_err-above.field-0.0 p.0 Stop.Usage p.2 (sym p.1 ∙ h) 2 refl (omega arith) (omega arith)

pub returns-in_err-above-clause-unread : goal.returns-in_err-above-clause-unread
returns-in_err-above-clause-unread c h =
    let p = err_from_is_err_and c.from_residual-in_err-above.result c.from_residual-in_err-above.ensures.1 in
    not_halt c.in_err-above.field-0.0 p.0 Stop.ReadFault p.2 (sym p.1 ∙ h) 4 refl (omega arith) (omega arith)

pub returns-in_err-above-clause-refused : goal.returns-in_err-above-clause-refused
returns-in_err-above-clause-refused c refusal h =
    let p = err_from_is_err_and c.from_residual-in_err-above.result c.from_residual-in_err-above.ensures.1 in
    not_halt c.in_err-above.field-0.0 p.0 (Stop.Refused refusal) p.2 (sym p.1 ∙ h) 1 refl (omega arith) (omega arith)

pub returns-in_err-document-clause-usage : goal.returns-in_err-document-clause-usage
returns-in_err-document-clause-usage c h =
    let p = err_from_is_err_and c.from_residual.result c.from_residual.ensures.1 in
    not_memory p.0 Stop.Usage p.2 (sym p.1 ∙ h) 2 refl (omega arith)

pub returns-in_err-document-clause-unread : goal.returns-in_err-document-clause-unread
returns-in_err-document-clause-unread c h =
    let p = err_from_is_err_and c.from_residual.result c.from_residual.ensures.1 in
    not_memory p.0 Stop.ReadFault p.2 (sym p.1 ∙ h) 4 refl (omega arith)

pub returns-in_err-document-clause-refused : goal.returns-in_err-document-clause-refused
returns-in_err-document-clause-refused c refusal h =
    let p = err_from_is_err_and c.from_residual.result c.from_residual.ensures.1 in
    not_memory p.0 (Stop.Refused refusal) p.2 (sym p.1 ∙ h) 1 refl (omega arith)

pub returns-in_err-document-clause-limit : goal.returns-in_err-document-clause-limit
returns-in_err-document-clause-limit c kind number h =
    let p = err_from_is_err_and c.from_residual.result c.from_residual.ensures.1 in
    absurd (not_memory p.0 (Stop.Limit kind number) p.2 (sym p.1 ∙ h) 3 refl (omega arith))

pub returns-in_err-text-clause-usage : goal.returns-in_err-text-clause-usage
returns-in_err-text-clause-usage c h =
    let p = err_from_is_err_and c.from_residual-in_err-text.result c.from_residual-in_err-text.ensures.1 in
    not_memory p.0 Stop.Usage p.2 (sym p.1 ∙ h) 2 refl (omega arith)

pub returns-in_err-text-clause-unread : goal.returns-in_err-text-clause-unread
returns-in_err-text-clause-unread c h =
    let p = err_from_is_err_and c.from_residual-in_err-text.result c.from_residual-in_err-text.ensures.1 in
    not_memory p.0 Stop.ReadFault p.2 (sym p.1 ∙ h) 4 refl (omega arith)

pub returns-in_err-text-clause-refused : goal.returns-in_err-text-clause-refused
returns-in_err-text-clause-refused c refusal h =
    let p = err_from_is_err_and c.from_residual-in_err-text.result c.from_residual-in_err-text.ensures.1 in
    not_memory p.0 (Stop.Refused refusal) p.2 (sym p.1 ∙ h) 1 refl (omega arith)

pub returns-in_err-text-clause-limit : goal.returns-in_err-text-clause-limit
returns-in_err-text-clause-limit c kind number h =
    let p = err_from_is_err_and c.from_residual-in_err-text.result c.from_residual-in_err-text.ensures.1 in
    absurd (not_memory p.0 (Stop.Limit kind number) p.2 (sym p.1 ∙ h) 3 refl (omega arith))
