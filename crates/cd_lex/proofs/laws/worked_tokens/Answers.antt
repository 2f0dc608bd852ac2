-- The texts are cut as was written by hand.
use Rattle.cd_lex.proofs.WorkedTokens.{worked_tokens}
use Rattle.cd_lex.proofs.laws.worked_tokens.Goals as goal

pub returns : goal.returns
returns c = worked_tokens
