use Rattle.std.proofs.Common.{arith, ◌∙◌}
use Rattle.cd_words.proofs.Numerals.{numeral_read}
use Rattle.cd_words.proofs.numeral.numeral.Goals as goal

pub returns : goal.returns
returns c = c.ok.ensures.value ∙ numeral_read c.args.text.now c.parse.result c.parse.ensures.value.0 (omega arith) (grind arith)
