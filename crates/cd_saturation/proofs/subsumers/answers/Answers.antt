use Rattle.std.proofs.Common.{◌<◌, sym, subst, ◌∙◌}
use Rattle.std.proofs.lemmas.Result.{IfOk-weaker, err_from_is_err_and}
use Rattle.cd_saturation.specs.Decided.{IsDecided}
use Rattle.cd_saturation.proofs.Answered.{answers_are, no_limit, reached}
use Rattle.cd_saturation.proofs.Documents.{class_is_named}
use Rattle.cd_saturation.proofs.subsumers.answers.Goals as goal
use Rattle.std.proofs.Common.{[]}

pub decided_answers-above-requires-clause-named : goal.decided_answers-above-requires-clause-named
decided_answers-above-requires-clause-named c = λ a lt. class_is_named c.args.document.now c.in_ok-index.index.normal c.in_ok-index.ensures.normal_form a (subst (λ l. a < l) c.count_classes-classes.ensures lt)

pub returns-in_err-index-clause-limit : goal.returns-in_err-index-clause-limit
returns-in_err-index-clause-limit c kind number e =
    let p = err_from_is_err_and c.from_residual.result c.from_residual.ensures.1 in
    absurd (no_limit p.0 kind number p.2 (sym p.1 ∙ e))

pub returns-clause-limit : goal.returns-clause-limit
returns-clause-limit c kind number e = (
  c.in_ok-index.index.normal,
  c.in_ok-index.ensures.normal_form,
  reached c.in_ok-index.index.normal c.args.limits.now.max_contexts c.args.limits.now.max_facts c.decided_answers-above.result kind number c.decided_answers-above.ensures.halted e,
)

pub returns-clause-ok : goal.returns-clause-ok
returns-clause-ok c =
    IfOk-weaker c.decided_answers-above.result _ _
    (λ above d. answers_are c.args.document.now c.in_ok-index.index.normal c.in_ok-index.ensures.normal_form above.items
    (subst (λ k. IsDecided c.in_ok-index.index.normal k above.items []) c.count_classes-classes.ensures d))
    c.decided_answers-above.ensures.decided
