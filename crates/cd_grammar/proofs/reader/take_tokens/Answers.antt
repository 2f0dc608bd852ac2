use Rattle.std.proofs.Common.{Bool, sym, ap, subst, ◌∙◌}
use Rattle.std.specs.Prelude.{Option}
use Rattle.cd_lex.specs.declared.token.LexFault.{LexFault}
use Rattle.cd_lex.specs.Lexing.{AreAll}
use Rattle.cd_syntax.specs.declared.item.Item.{Item}
use Rattle.cd_grammar.specs.Causes.{stand_after}
use Rattle.cd_grammar.specs.Reading.{standing}
use Rattle.cd_grammar.proofs.Taking.{takes_more, took_few}
use Rattle.cd_grammar.proofs.reader.take_tokens.Goals as goal

pub take_item-requires : goal.take_item-requires
take_item-requires c =
    let r = c.requires in
    let t = c.loop-token.invariant.0 r.0 r.1 r.2 in
    took_few c.loop-token.lexer c.loop-token.parser r.0 t.0 t.1 r.3

pub loop-token-preserved : goal.loop-token-preserved
loop-token-preserved c = (
  λ fed taken h.
      let t = c.loop-token.invariant.0 fed taken h in
      let more = c.in-Some.ensures.taken fed t.0 t.1.lexing in (
        _,
        takes_more c.take_token.new.self c.loop-token.parser c.take_item.new.parser fed t.0 c.in-Some.token more.0 t.1.stands
            (c.in_ok-take_item.ensures ∙ ap (λ (item : Item). stand_after (standing c.loop-token.parser) (item, c.in-Some.token.place)) c.item_of.ensures),
      ),
  c.take_token.ensures.closed ∙ c.loop-token.invariant.1,
  c.take_token.ensures.fault ∙ c.loop-token.invariant.2,
  c.take_token.ensures.place ∙ c.loop-token.invariant.3,
)

pub returns-clause-all : goal.returns-clause-all
returns-clause-all c =
    λ fed taken h.
    let t = c.loop-token.invariant.0 fed taken h in
    let last = c.in_default.ensures.taken fed t.0 t.1.lexing in (
      t.0,
      record { lexing = last.0; stands = t.1.stands },
      subst (λ (closed : Bool). AreAll closed c.take_token.new.self.fault fed t.0) (sym c.take_token.ensures.closed)
          (subst (λ (fault : Option LexFault). AreAll c.loop-token.lexer.closed fault fed t.0) (sym c.take_token.ensures.fault) last.1),
    )
