use Rattle.std.proofs.Common.{◌≡◌, ◌+◌, ℕ, ap, refl, subst, sym, ◌∙◌, map, string_bytes, Err}
use Rattle.std.specs.Prelude.{IfSome}
use Rattle.cd_syntax.specs.declared.refusal.Refusal.{Refusal}
use Rattle.cd_syntax.specs.Refusal.{IsRefused}
use Rattle.cd_io.specs.Causes.{Rose}
use Rattle.cd_io.specs.Streams.{LosesAtMost}
use Rattle.cd_io.proofs.Losing.{loses_none}
use Rattle.cd_words.specs.Form.{Asks, IsOfForm}
use Rattle.cd_top.specs.declared.status.Status.{Status}
use Rattle.cd_top.specs.Headline.{IsClassified}
use Rattle.cd_top.specs.Promises.{IsClassifiedBy, IsTriedBy}
use Rattle.cd_top.specs.Status.{IsNoted, line_of}
use Rattle.cd_top.specs.Stops.{status_of}
use Rattle.cd_top.proofs.Asked.{not_trial, not_classify, classify_too, trial_too, memory_ends, if_some}
use Rattle.cd_top.proofs.LeastTrial.{levels_least}
use Rattle.cd_top.proofs.Promised.{classified_memory, tried_memory}
use Rattle.cd_top.proofs.command.run.Goals as goal

pub trial_here-requires-clause-least : goal.trial_here-requires-clause-least
trial_here-requires-clause-least g c =
    levels_least (map string_bytes c.args.words.now) c.in-Trial.levels c.in-Ok.asked.limits
    (subst (λ command. Asks (map string_bytes c.args.words.now) command c.in-Ok.asked.limits) c.in-Trial.is c.in-Ok.ensures.asked)

pub returns-in-Classify-clause-done : goal.returns-in-Classify-clause-done
returns-in-Classify-clause-done g c limits asks =
    classify_too (map string_bytes c.args.words.now) c.in-Ok.asked.command c.in-Ok.asked.limits c.in-Ok.ensures.only
    (λ most contexts facts. IfSome (g.S.Source.left c.args.source.now) (λ input. c.classify_here.result ≡ Status.Done →
    IsClassified input most (g.S.Source.left c.classify_here.new.source) (g.K.Sink.written c.args.out.now) (g.K.Sink.written c.classify_here.new.out)))
    limits asks c.classify_here.ensures.done

pub returns-in-Classify-clause-classify : goal.returns-in-Classify-clause-classify
returns-in-Classify-clause-classify g c limits asks =
    classify_too (map string_bytes c.args.words.now) c.in-Ok.asked.command c.in-Ok.asked.limits c.in-Ok.ensures.only
    (λ most contexts facts. IsClassifiedBy most contexts facts (g.S.Source.left c.args.source.now) (g.S.Source.ended c.classify_here.new.source)
    (Rose (g.S.Source.faults c.args.source.now) (g.S.Source.faults c.classify_here.new.source)) (Rose (g.K.Sink.faults c.args.out.now) (g.K.Sink.faults c.classify_here.new.out))
    (g.K.Sink.written c.args.out.now) (g.K.Sink.written c.classify_here.new.out) c.classify_here.result)
    limits asks c.classify_here.ensures.kept

pub returns-in-Classify-clause-trial : goal.returns-in-Classify-clause-trial
returns-in-Classify-clause-trial g c n limits asks =
    absurd (not_trial (map string_bytes c.args.words.now) c.in-Ok.asked.command c.in-Ok.asked.limits c.in-Ok.ensures.only c.in-Classify.is n limits asks)

pub returns-in-Classify-clause-refused : goal.returns-in-Classify-clause-refused
returns-in-Classify-clause-refused g c =
    subst (λ (most : ℕ). IfSome (g.S.Source.left c.args.source.now) (λ input. (refusal : Refusal) → c.classify_here.result ≡ Status.Refused refusal → IsRefused input most refusal))
    c.in-Ok.ensures.asked.max_bytes c.classify_here.ensures.refused

pub returns-in-Classify-clause-taken : goal.returns-in-Classify-clause-taken
returns-in-Classify-clause-taken g c =
    subst (λ (most : ℕ). LosesAtMost (g.S.Source.left c.args.source.now) (g.S.Source.left c.classify_here.new.source) (most + 1))
    c.in-Ok.ensures.asked.max_bytes c.classify_here.ensures.taken

pub returns-in-Trial-clause-done : goal.returns-in-Trial-clause-done
returns-in-Trial-clause-done g c limits asks =
    absurd (not_classify (map string_bytes c.args.words.now) c.in-Ok.asked.command c.in-Ok.asked.limits c.in-Ok.ensures.only c.in-Trial.levels c.in-Trial.is limits asks)

pub returns-in-Trial-clause-classify : goal.returns-in-Trial-clause-classify
returns-in-Trial-clause-classify g c limits asks =
    absurd (not_classify (map string_bytes c.args.words.now) c.in-Ok.asked.command c.in-Ok.asked.limits c.in-Ok.ensures.only c.in-Trial.levels c.in-Trial.is limits asks)

pub returns-in-Trial-clause-trial : goal.returns-in-Trial-clause-trial
returns-in-Trial-clause-trial g c n limits asks = (
  refl,
  trial_too (map string_bytes c.args.words.now) c.in-Ok.asked.command c.in-Ok.asked.limits c.in-Ok.ensures.only c.in-Trial.levels c.in-Trial.is
      (λ levels contexts facts. IsTriedBy levels contexts facts (Rose (g.K.Sink.faults c.args.out.now) (g.K.Sink.faults c.trial_here.new.out))
      (g.K.Sink.written c.args.out.now) (g.K.Sink.written c.trial_here.new.out) c.trial_here.result)
      n limits asks c.trial_here.ensures.kept,
)

pub returns-in-Trial-clause-read_fault : goal.returns-in-Trial-clause-read_fault
returns-in-Trial-clause-read_fault g c e = absurd (c.trial_here.ensures.kept.read_fault e)

pub returns-in-Trial-clause-unended : goal.returns-in-Trial-clause-unended
returns-in-Trial-clause-unended g c e = absurd (c.trial_here.ensures.kept.read_fault e)

pub returns-in-Trial-clause-taken : goal.returns-in-Trial-clause-taken
returns-in-Trial-clause-taken g c = loses_none (g.S.Source.left c.args.source.now) (268435456 + 1)

pub returns-in-Trial-clause-refused : goal.returns-in-Trial-clause-refused
returns-in-Trial-clause-refused g c =
    if_some (g.S.Source.left c.args.source.now) (λ input. (refusal : Refusal) → c.trial_here.result ≡ Status.Refused refusal → IsRefused input 268435456 refusal)
    (λ input refusal is. absurd (c.trial_here.ensures.kept.unrefused refusal is))

pub returns-in-Err-clause-classify : goal.returns-in-Err-clause-classify
returns-in-Err-clause-classify g c limits asks =
    classified_memory limits.max_bytes limits.max_contexts limits.max_facts _ _ _ _ _ _ c.note.result
    (c.note.ensures.same ∙ (c.status.ensures ∙ (ap status_of c.from.ensures
    ∙ memory_ends c.in-Err.fault (IsOfForm (map string_bytes c.args.words.now)) (λ e. c.in-Err.ensures.usage.0 (ap (λ f. Err f) e)) (_, limits, asks))))

pub returns-in-Err-clause-trial : goal.returns-in-Err-clause-trial
returns-in-Err-clause-trial g c n limits asks = (
  refl,
  tried_memory n limits.max_contexts limits.max_facts _ _ _ c.note.result
      (c.note.ensures.same ∙ (c.status.ensures ∙ (ap status_of c.from.ensures
      ∙ memory_ends c.in-Err.fault (IsOfForm (map string_bytes c.args.words.now)) (λ e. c.in-Err.ensures.usage.0 (ap (λ f. Err f) e)) (_, limits, asks)))),
)

pub returns-in-Err-clause-noted : goal.returns-in-Err-clause-noted
returns-in-Err-clause-noted g c =
    subst (λ s. IsNoted (g.E.Sink.written c.args.notes.now) (g.E.Sink.written c.note.new.notes) (g.E.Sink.faults c.args.notes.now) (g.E.Sink.faults c.note.new.notes) (line_of s))
    (sym c.note.ensures.same) c.note.ensures.noted

pub returns-in-Err-clause-taken : goal.returns-in-Err-clause-taken
returns-in-Err-clause-taken g c = loses_none (g.S.Source.left c.args.source.now) (268435456 + 1)
