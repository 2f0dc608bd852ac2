use Rattle.std.proofs.Common.{◌∙◌, ap, map, string_bytes}
use Rattle.std.proofs.lemmas.Result.{IfErr-weaker}
use Rattle.clap.specs.Words.{App, takes}
use Rattle.cd_words.proofs.command_line.matches.Goals as goal

pub returns-clause-taken : goal.returns-clause-taken
returns-clause-taken c =
    IfErr-weaker c.try_get_matches_from.result _ _ (λ e passes taken. passes (ap (λ (a : App). takes a (map string_bytes c.args.words.now)) c.in_ok-command_line.ensures ∙ taken)) c.try_get_matches_from.ensures.passes
