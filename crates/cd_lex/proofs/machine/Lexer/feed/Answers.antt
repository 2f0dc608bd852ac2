use Rattle.std.proofs.Common.{◌++◌, sym, subst}
use Rattle.std.specs.Prelude.{Result}
use Rattle.cd_lex.specs.declared.token.LexFault.{LexFault}
use Rattle.cd_lex.specs.Lexing.{IsFed}
use Rattle.cd_lex.proofs.MachineCalls.{feeds, refuses_shown}
use Rattle.cd_lex.proofs.machine.Lexer.feed.Goals as goal

pub returns-clause-fed : goal.returns-clause-fed
returns-clause-fed c = λ fed taken h.
    let s = c.run.new.self in
    subst (λ (r : Result Unit LexFault). IsFed r s (fed ++ c.args.piece.now) taken) (sym c.answer.ensures)
    (feeds c.args.self.now s c.args.piece.now fed taken c.requires.open c.run.ensures.done h)

pub returns-clause-refused : goal.returns-clause-refused
returns-clause-refused c = λ fed taken n h shows.
    refuses_shown c.answer.result c.run.new.self (fed ++ c.args.piece.now) taken n (returns-clause-fed c fed taken h) shows
