use Rattle.std.proofs.Common.{◌∙◌, ap, map, string_bytes, rules, refl}
use Rattle.cd_words.specs.Heard.{heard_of}
use Rattle.cd_words.proofs.Asking.{IsAnswer, form_answer, refused_form}
use Rattle.cd_words.proofs.form.ask.Goals as goal

pub returns-in-Err-clause-usage : goal.returns-in-Err-clause-usage
returns-in-Err-clause-usage c = refused_form (map string_bytes c.args.words.now) _ c.in-Err.fault (c.is_of_form.ensures.0 (search rules)) refl c.in-Err.ensures.taken

pub returns-in-Ok-clause-asked : goal.returns-in-Ok-clause-asked
returns-in-Ok-clause-asked c =
    let answer : IsAnswer (map string_bytes c.args.words.now) c.ok_or.result = form_answer _ c.of.result c.asked.result c.ok_or.result
    (c.is_of_form.ensures.0 (search rules)) (c.of.ensures ∙ ap heard_of c.in-Ok.ensures.found) c.asked.ensures.some c.asked.ensures.none c.ok_or.ensures.value in
    answer.asked

pub returns-in-Ok-clause-only : goal.returns-in-Ok-clause-only
returns-in-Ok-clause-only c =
    let answer : IsAnswer (map string_bytes c.args.words.now) c.ok_or.result = form_answer _ c.of.result c.asked.result c.ok_or.result
    (c.is_of_form.ensures.0 (search rules)) (c.of.ensures ∙ ap heard_of c.in-Ok.ensures.found) c.asked.ensures.some c.asked.ensures.none c.ok_or.ensures.value in
    answer.only

pub returns-in-Ok-clause-usage : goal.returns-in-Ok-clause-usage
returns-in-Ok-clause-usage c =
    let answer : IsAnswer (map string_bytes c.args.words.now) c.ok_or.result = form_answer _ c.of.result c.asked.result c.ok_or.result
    (c.is_of_form.ensures.0 (search rules)) (c.of.ensures ∙ ap heard_of c.in-Ok.ensures.found) c.asked.ensures.some c.asked.ensures.none c.ok_or.ensures.value in
    answer.usage
