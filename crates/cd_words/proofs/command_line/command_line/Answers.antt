use Rattle.std.proofs.Common.{◌≡◌, ◌∙◌, rules, ap₂, codes}
use Rattle.std.proofs.lemmas.Result.{IfOk-weaker}
use Rattle.clap.specs.Words.{rule_of, with_rule}
use Rattle.cd_words.specs.CommandLine.{option_rule}
use Rattle.cd_words.proofs.command_line.command_line.Goals as goal

pub returns : goal.returns
returns c =
    let workers : rule_of c.option.result ≡ option_rule (codes "workers") = search rules in
    let cells : rule_of c.option-2.result ≡ option_rule (codes "cells") = search rules in
    let max_contexts : rule_of c.option-3.result ≡ option_rule (codes "max-contexts") = search rules in
    let max_facts : rule_of c.option-4.result ≡ option_rule (codes "max-facts") = search rules in
    let one = c.in_ok-arg.ensures.shape c.option.ensures.local ∙ ap₂ with_rule c.bare.ensures workers in
    let two = c.in_ok-arg-2.ensures.shape c.option-2.ensures.local ∙ ap₂ with_rule one cells in
    let three = c.in_ok-arg-3.ensures.shape c.option-3.ensures.local ∙ ap₂ with_rule two max_contexts in
    let four = c.in_ok-command.ensures.shape c.option-4.ensures.local ∙ ap₂ with_rule three max_facts in
    IfOk-weaker c.arg-5.result _ _ (λ command adds. adds.shape c.words_argument.ensures.local ∙ ap₂ with_rule four c.words_argument.ensures.rule) c.arg-5.ensures
