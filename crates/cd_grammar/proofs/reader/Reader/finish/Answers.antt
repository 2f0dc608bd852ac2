use Rattle.std.proofs.Common.{sym, ◌∙◌}
use Rattle.std.proofs.lemmas.Result.{IfOk-from_err}
use Rattle.cd_grammar.proofs.Finishing.{refused, accepted, sound, finished}
use Rattle.cd_grammar.proofs.reader.Reader.finish.Goals as goal

pub returns-in_default : goal.returns-in_default
returns-in_default c = λ fed r. tt

pub returns-in-Some : goal.returns-in-Some
returns-in-Some c = λ fed r.
    refused c.take_last-ended.new.parser fed c.in-Some.refusal
    (c.in-Ok.ensures.text fed r.taken (record { lexing = r.lexing; stands = r.stands })) (sym c.in-Ok.ensures.stopped ∙ c.in-Some.is)

pub document_of-requires : goal.document_of-requires
document_of-requires c =
    let r = c.requires.1 in
    sound c.take_last-ended.new.parser.known c.requires.0
    (accepted c.take_last-ended.new.parser c.requires.0 (c.in-Ok.ensures.text c.requires.0 r.taken (record { lexing = r.lexing; stands = r.stands }))
    (sym c.in-Ok.ensures.stopped ∙ c.in_default-stopped.is))

pub returns-in_err-document : goal.returns-in_err-document
returns-in_err-document c = λ fed r. IfOk-from_err c.from_residual.result _ c.from_residual.ensures.0

pub returns : goal.returns
returns c = λ fed r.
    finished fed c.take_last-ended.new.parser.known c.in_ok-document.document
    (accepted c.take_last-ended.new.parser fed (c.in-Ok.ensures.text fed r.taken (record { lexing = r.lexing; stands = r.stands }))
    (sym c.in-Ok.ensures.stopped ∙ c.in_default-stopped.is))
    c.in_ok-document.ensures
