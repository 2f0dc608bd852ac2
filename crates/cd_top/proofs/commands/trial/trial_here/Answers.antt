use Rattle.std.proofs.Common.{◌≡◌, ℕ}
use Rattle.std.specs.Io.KnownBytes.{Appends}
use Rattle.cd_base.specs.declared.limit_kind.LimitKind.{LimitKind}
use Rattle.cd_syntax.specs.declared.refusal.Refusal.{Refusal}
use Rattle.cd_io.specs.Streams.{AppendsFront}
use Rattle.cd_top.specs.Trial.{IsTrialText, IsTrialLimited}
use Rattle.cd_top.specs.declared.status.Status.{Status}
use Rattle.cd_top.specs.declared.stop.Stop.{Stop}
use Rattle.cd_top.proofs.Complete.{by_status}
use Rattle.cd_top.proofs.Stopped.{found_stop, found_text, found_front}
use Rattle.cd_top.proofs.commands.trial.trial_here.Goals as goal

pub returns-clause-usage : goal.returns-clause-usage
returns-clause-usage g c e = c.trial_text-found.ensures.usage (found_stop c.trial_text-found.result c.conclude.result c.conclude.ensures.text c.conclude.ensures.stopped Stop.Usage e)

pub returns-clause-kept : goal.returns-clause-kept
returns-clause-kept g c =
    let old = g.K.Sink.written c.args.out.now in let new = g.K.Sink.written c.conclude.new.out in
    let limit : (kind : LimitKind) (number : ℕ) → c.conclude.result ≡ Status.Limit kind number → IsTrialLimited c.args.levels c.args.limits.now.max_contexts c.args.limits.now.max_facts kind number = λ kind number e. c.trial_text-found.ensures.limit kind number (found_stop c.trial_text-found.result c.conclude.result c.conclude.ensures.text c.conclude.ensures.stopped (Stop.Limit kind number) e) in
    let unrefused : (refusal : Refusal) → c.conclude.result ≡ Status.Refused refusal → ⊥ = λ refusal e. c.trial_text-found.ensures.refused refusal (found_stop c.trial_text-found.result c.conclude.result c.conclude.ensures.text c.conclude.ensures.stopped (Stop.Refused refusal) e) in
    let read_fault : c.conclude.result ≡ Status.ReadFault → ⊥ = λ e. c.trial_text-found.ensures.unread (found_stop c.trial_text-found.result c.conclude.result c.conclude.ensures.text c.conclude.ensures.stopped Stop.ReadFault e) in
    record {
      tried = λ done.
          let t = found_text c.trial_text-found.result c.conclude.result (λ text. IsTrialText c.args.levels text.items) (λ text. Appends old new text.items)
          c.conclude.ensures.stopped c.trial_text-found.ensures.text c.conclude.ensures.done done in (t.0.items, t.1, t.2);
      limit = limit;
      complete = λ answerable no_write. by_status c.conclude.result unrefused (λ kind number is. answerable kind number (limit kind number is)) (returns-clause-usage g c) read_fault
          (λ is. no_write (c.conclude.ensures.write_fault is));
      partly = λ failed.
          let t = found_front c.trial_text-found.result c.conclude.result (λ text. IsTrialText c.args.levels text.items) (λ text. AppendsFront old new text.items)
          c.conclude.ensures.stopped c.trial_text-found.ensures.text c.conclude.ensures.partly failed in (t.0.items, t.1, t.2);
      unrefused = unrefused;
      read_fault = read_fault;
    }
