use Rattle.std.proofs.Common.{◌∙◌, true≢false, sym}
use Rattle.cd_words.proofs.Asking.{unheard, decides}
use Rattle.cd_words.proofs.form.is_of_form.Goals as goal

pub returns-in-Some : goal.returns-in-Some
returns-in-Some c =
    let told = decides _ c.in-Some.heard c.asked.result (sym c.all.ensures ∙ c.in-Some.is) c.asked.ensures.some c.asked.ensures.none in
    (λ is. told.0 (sym c.is_some.ensures ∙ is), λ form. c.is_some.ensures ∙ told.1 form)

pub returns-in-None : goal.returns-in-None
returns-in-None c = (λ wrong. absurd (true≢false (sym wrong)), λ form. absurd (unheard _ (sym c.all.ensures ∙ c.in-None.is) form))
