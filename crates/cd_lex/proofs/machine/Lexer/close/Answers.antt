use Rattle.std.proofs.Common.{sym, subst}
use Rattle.std.specs.Prelude.{Result}
use Rattle.cd_lex.specs.declared.token.LexFault.{LexFault}
use Rattle.cd_lex.specs.Lexing.{IsClosed}
use Rattle.cd_lex.proofs.MachineCalls.{closes}
use Rattle.cd_lex.proofs.machine.Lexer.close.Goals as goal

pub returns-clause-ended : goal.returns-clause-ended
returns-clause-ended c = λ fed taken h.
    let s = c.run_out.new.self in
    subst (λ (r : Result Unit LexFault). IsClosed r s fed taken) (sym c.answer.ensures)
    (closes c.args.self.now s fed taken c.run_out.ensures.closed c.run_out.ensures.done h)
