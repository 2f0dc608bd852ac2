-- A lexer that was fed nothing is at its start.
use Rattle.cd_lex.proofs.MachineCalls.{begins_so}
use Rattle.cd_lex.proofs.machine.Lexer.new.Goals as goal

pub returns-clause-lexing : goal.returns-clause-lexing
returns-clause-lexing c = begins_so c.empty.result c.empty.ensures
