use Rattle.cd_lex.proofs.MachineCalls.{takes}
use Rattle.cd_lex.proofs.machine.Lexer.take_token.Goals as goal

pub returns-clause-taken : goal.returns-clause-taken
returns-clause-taken c = λ fed taken h. takes c.pop.result c.args.self.now c.pop.new.self fed taken c.pop.ensures h
