use Rattle.std.proofs.Common.{rules}
use Rattle.cd_grammar.proofs.parser.Parser.stop.Goals as goal

pub returns : goal.returns
returns c = search rules
