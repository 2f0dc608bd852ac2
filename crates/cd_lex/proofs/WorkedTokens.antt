-- The pieces of small texts, as the checker computes them.
use Rattle.std.proofs.Common.{refl}
use Rattle.cd_lex.specs.WorkedTokens.{WorkedTokens}
use Rattle.cd_lex.proofs.CutComputed.{cut_into, bad_behind}

pub worked_tokens : WorkedTokens
worked_tokens = record {
  short_names = cut_into _ _ refl;
  nodes = cut_into _ _ refl;
  strings = cut_into _ _ refl;
  typed_strings = cut_into _ _ refl;
  comments = cut_into _ _ refl;
  marks = cut_into _ _ refl;
  bad_caret = bad_behind _ _ _ _ refl;
  bad_iri = bad_behind _ _ _ _ refl;
  bad_string = bad_behind _ _ _ _ refl;
  bad_escape = bad_behind _ _ _ _ refl;
}
