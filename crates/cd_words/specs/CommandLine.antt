-- The command line as `clap` takes it: wider than the form, which has each option once, numerals in their ranges, and no `--`.
use Rattle.std.specs.Prelude.{codes, Some, true}
use Rattle.clap.specs.Words.{App, Rule, Text, new_app, new_rule, with_rule}
use Rattle.clap.specs.Simple.{on_top}
use Rattle.clap.specs.declared.builder.action.ArgAction.TheVariants.{Append}

-- `--name value` or `--name=value`, any number of times
abbrev pub option_rule : Text → Rule
option_rule id = record (new_rule id) { long = Some id; action = Some Append }

-- the words on their own
abbrev pub words_rule : Rule
words_rule = record (new_rule (codes "words")) { action = Some Append }

-- the command without its arguments: no program's name before the words, and no help flag
abbrev pub bare : App
bare = on_top (λ s. record s { no_binary_name = true; disable_help_flag = true })
    (new_app (codes "condor"))

-- one simple command
abbrev pub command_line : App
command_line =
    with_rule (with_rule (with_rule (with_rule (with_rule bare
    (option_rule (codes "workers")))
    (option_rule (codes "cells")))
    (option_rule (codes "max-contexts")))
    (option_rule (codes "max-facts")))
    words_rule
