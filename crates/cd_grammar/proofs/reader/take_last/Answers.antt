use Rattle.std.proofs.Common.{refl, ◌∙◌}
use Rattle.std.proofs.lemmas.Result.{IfOk-from_err}
use Rattle.cd_grammar.proofs.Taking.{took_few, takes_text}
use Rattle.cd_grammar.proofs.reader.take_last.Goals as goal

pub take_tokens-requires : goal.take_tokens-requires
take_tokens-requires c =
    let r = c.requires.few in
    (r.0, r.1, record { lexing = c.in_ok-last.ensures.lexing r.0 r.1 r.2.lexing; stands = r.2.stands }, r.3)

pub take_item-requires : goal.take_item-requires
take_item-requires c =
    let r = c.requires.few in
    let all = c.in_default.ensures.all r.0 r.1 (record { lexing = c.in_ok-last.ensures.lexing r.0 r.1 r.2.lexing; stands = r.2.stands }) in
    took_few c.take_tokens.new.lexer c.take_tokens.new.parser r.0 all.0 all.1 r.3

pub returns-in_err-last : goal.returns-in_err-last
returns-in_err-last c = record {
  text = λ fed taken h. IfOk-from_err c.from_residual.result _ c.from_residual.ensures.0;
  stopped = IfOk-from_err c.from_residual.result _ c.from_residual.ensures.0;
}

pub returns-in-Err : goal.returns-in-Err
returns-in-Err c = record { text = λ fed taken h. tt; stopped = tt }

pub returns-in_err-take_item : goal.returns-in_err-take_item
returns-in_err-take_item c = record {
  text = λ fed taken h. IfOk-from_err c.from_residual-in_err-take_item.result _ c.from_residual-in_err-take_item.ensures.0;
  stopped = IfOk-from_err c.from_residual-in_err-take_item.result _ c.from_residual-in_err-take_item.ensures.0;
}

pub returns : goal.returns
returns c = record {
  text = λ fed taken h.
      takes_text c.take_tokens.new.lexer c.take_tokens.new.parser c.take_item.new.parser fed c.close_lexer.new.lexer.fault (c.in_ok-last.last, c.in_ok-last.place)
      (c.in_default.ensures.all fed taken (record { lexing = c.in_ok-last.ensures.lexing fed taken h.lexing; stands = h.stands }))
      (c.in_default.ensures.closed ∙ c.in_ok-last.ensures.closed) c.in_default.ensures.fault (c.in_ok-last.ensures.last fed taken h.lexing)
      c.in_ok-take_item.ensures;
  stopped = refl;
}
