use Rattle.std.proofs.Common.{sym, ◌∙◌, refl, arith}
use Rattle.std.proofs.lemmas.Option.{IfSome_then}
use Rattle.std.proofs.lemmas.Result.{err_from_is_err_and}
use Rattle.cd_top.specs.declared.stop.Stop.{Stop}
use Rattle.cd_top.proofs.Answering.{answered}
use Rattle.cd_top.proofs.Asked.{if_some}
use Rattle.cd_top.proofs.SomeText.{some_answer}
use Rattle.cd_top.proofs.Stopped.{from_reading, not_reading, from_halt, not_halt}
use Rattle.cd_top.proofs.commands.classify.answer_of.Goals as goal

pub returns-clause-answered : goal.returns-clause-answered
returns-clause-answered g c =
    IfSome_then (g.S.Source.left c.args.source.now) c.in_ok-document.ensures.read
    (λ input is. (is.0, is.1, answered input _ c.in_ok-document.document is.2 c.in_ok-text.ensures.answer))

pub returns-clause-some : goal.returns-clause-some
returns-clause-some g c = some_answer c.in_ok-document.document _ c.in_ok-text.ensures.answer

pub returns-in_err-document-clause-refused : goal.returns-in_err-document-clause-refused
returns-in_err-document-clause-refused g c =
    let p = err_from_is_err_and c.from_residual.result c.from_residual.ensures.1 in
    IfSome_then (g.S.Source.left c.args.source.now) c.in_err-document.ensures.refused
    (λ input all refusal h. all refusal (from_reading c.in_err-document.field-0.0 p.0 (Stop.Refused refusal) p.2 (sym p.1 ∙ h)))

pub returns-in_err-document-clause-limit : goal.returns-in_err-document-clause-limit
returns-in_err-document-clause-limit g c =
    let p = err_from_is_err_and c.from_residual.result c.from_residual.ensures.1 in
    if_some (g.S.Source.left c.args.source.now) _
    (λ input kind number h. absurd (not_reading c.in_err-document.field-0.0 p.0 (Stop.Limit kind number) p.2 (sym p.1 ∙ h) 3 refl (omega arith) (omega arith) (omega arith)))

pub returns-in_err-document-clause-usage : goal.returns-in_err-document-clause-usage
returns-in_err-document-clause-usage g c h =
    let p = err_from_is_err_and c.from_residual.result c.from_residual.ensures.1 in
    not_reading c.in_err-document.field-0.0 p.0 Stop.Usage p.2 (sym p.1 ∙ h) 2 refl (omega arith) (omega arith) (omega arith)

pub returns-in_err-document-clause-read_fault : goal.returns-in_err-document-clause-read_fault
returns-in_err-document-clause-read_fault g c h =
    let p = err_from_is_err_and c.from_residual.result c.from_residual.ensures.1 in
    c.in_err-document.ensures.read_fault (from_reading c.in_err-document.field-0.0 p.0 Stop.ReadFault p.2 (sym p.1 ∙ h))

pub returns-in_err-document-clause-unended : goal.returns-in_err-document-clause-unended
returns-in_err-document-clause-unended g c h =
    let p = err_from_is_err_and c.from_residual.result c.from_residual.ensures.1 in
    c.in_err-document.ensures.unended (from_reading c.in_err-document.field-0.0 p.0 Stop.ReadFault p.2 (sym p.1 ∙ h))

pub returns-in_err-text-clause-refused : goal.returns-in_err-text-clause-refused
returns-in_err-text-clause-refused g c =
    let p = err_from_is_err_and c.from_residual-in_err-text.result c.from_residual-in_err-text.ensures.1 in
    if_some (g.S.Source.left c.args.source.now) _
    (λ input refusal h. absurd (not_halt c.in_err-text.field-0.0 p.0 (Stop.Refused refusal) p.2 (sym p.1 ∙ h) 1 refl (omega arith) (omega arith)))

pub returns-in_err-text-clause-limit : goal.returns-in_err-text-clause-limit
returns-in_err-text-clause-limit g c =
    let p = err_from_is_err_and c.from_residual-in_err-text.result c.from_residual-in_err-text.ensures.1 in
    IfSome_then (g.S.Source.left c.args.source.now) c.in_ok-document.ensures.read
    (λ input is kind number h.
    (is.0, c.in_ok-document.document, is.2, c.in_err-text.ensures.limit kind number (from_halt c.in_err-text.field-0.0 p.0 (Stop.Limit kind number) p.2 (sym p.1 ∙ h))))

pub returns-in_err-text-clause-usage : goal.returns-in_err-text-clause-usage
returns-in_err-text-clause-usage g c h =
    let p = err_from_is_err_and c.from_residual-in_err-text.result c.from_residual-in_err-text.ensures.1 in
    not_halt c.in_err-text.field-0.0 p.0 Stop.Usage p.2 (sym p.1 ∙ h) 2 refl (omega arith) (omega arith)

pub returns-in_err-text-clause-read_fault : goal.returns-in_err-text-clause-read_fault
returns-in_err-text-clause-read_fault g c h =
    let p = err_from_is_err_and c.from_residual-in_err-text.result c.from_residual-in_err-text.ensures.1 in
    absurd (not_halt c.in_err-text.field-0.0 p.0 Stop.ReadFault p.2 (sym p.1 ∙ h) 4 refl (omega arith) (omega arith))

pub returns-in_err-text-clause-unended : goal.returns-in_err-text-clause-unended
returns-in_err-text-clause-unended g c h =
    let p = err_from_is_err_and c.from_residual-in_err-text.result c.from_residual-in_err-text.ensures.1 in
    absurd (not_halt c.in_err-text.field-0.0 p.0 Stop.ReadFault p.2 (sym p.1 ∙ h) 4 refl (omega arith) (omega arith))
