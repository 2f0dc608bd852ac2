use Rattle.std.proofs.Common.{◌++◌, ◌∙◌, arith, length-append}
use Rattle.std.proofs.lemmas.Result.{on_ok_weaker}
use Rattle.cd_grammar.proofs.reader.Reader.feed.Goals as goal

pub take_tokens-requires : goal.take_tokens-requires
take_tokens-requires c =
    let r = c.requires in (
      r.0 ++ c.args.piece.now,
      r.1.taken,
      record { lexing = c.in_ok-feed_lexer.ensures.lexing r.0 r.1.taken r.1.lexing; stands = r.1.stands },
      omega (arith, length-append r.0 c.args.piece.now),
    )

pub returns : goal.returns
returns c = λ fed r.
    on_ok_weaker c.take_tokens.result
    (λ all. record {
      taken = all.0;
      lexing = all.1.lexing;
      stands = all.1.stands;
      unclosed = c.take_tokens.ensures.closed ∙ c.in_ok-feed_lexer.ensures.open;
      place = omega (arith, length-append fed c.args.piece.now, c.take_tokens.ensures.place, c.in_ok-feed_lexer.ensures.place, r.place);
    })
    (c.take_tokens.ensures.all (fed ++ c.args.piece.now) r.taken (record { lexing = c.in_ok-feed_lexer.ensures.lexing fed r.taken r.lexing; stands = r.stands }))
