use Rattle.std.proofs.Common.{◌≡◌, ◌∙◌, Option, ap, codes}
use Rattle.clap.specs.Words.{all_of, found_of, rows_of}
use Rattle.clap.proofs.WalkLemmas.{raw_values-rows}
use Rattle.cd_words.specs.Heard.{number_found, verb_found}
use Rattle.cd_words.proofs.heard.Heard.of.Goals as goal

pub returns : goal.returns
returns c =
    let found = found_of c.args.matches.now in
    let workers : c.number.result ≡ number_found (all_of (codes "workers") (rows_of found)) =
    c.number.ensures ∙ ap number_found (c.get_strs.ensures ∙ raw_values-rows found (codes "workers")) in
    let cells : c.number-2.result ≡ number_found (all_of (codes "cells") (rows_of found)) =
    c.number-2.ensures ∙ ap number_found (c.get_strs-2.ensures ∙ raw_values-rows found (codes "cells")) in
    let max_contexts : c.number-3.result ≡ number_found (all_of (codes "max-contexts") (rows_of found)) =
    c.number-3.ensures ∙ ap number_found (c.get_strs-3.ensures ∙ raw_values-rows found (codes "max-contexts")) in
    let max_facts : c.number-4.result ≡ number_found (all_of (codes "max-facts") (rows_of found)) =
    c.number-4.ensures ∙ ap number_found (c.get_strs-4.ensures ∙ raw_values-rows found (codes "max-facts")) in
    let verb : c.verb.result ≡ verb_found (all_of (codes "words") (rows_of found)) =
    c.verb.ensures ∙ ap verb_found (c.get_strs-5.ensures ∙ raw_values-rows found (codes "words")) in
    λ i. record { workers = workers i; cells = cells i; max_contexts = max_contexts i; max_facts = max_facts i; verb = verb i; waiting = Rattle.std.proofs.Common.None }
