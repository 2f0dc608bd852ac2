use Rattle.std.proofs.Common.{◌≡◌, ◌≤◌, [], length}
use Rattle.std.specs.Prelude.{Some}
use Rattle.std.specs.Io.KnownBytes.{Appends}
use Rattle.std.proofs.lemmas.Option.{IfSome_then}
use Rattle.cd_io.specs.Causes.{Rose}
use Rattle.cd_io.specs.Streams.{AppendsFront}
use Rattle.cd_top.specs.Headline.{IsAnswered}
use Rattle.cd_top.specs.declared.stop.Stop.{Stop}
use Rattle.cd_top.proofs.Complete.{complete, refused_where}
use Rattle.cd_top.proofs.Stopped.{found_stop, found_text, found_front, found_ok}
use Rattle.cd_top.proofs.commands.classify.classify_here.Goals as goal

pub returns-clause-done : goal.returns-clause-done
returns-clause-done g c =
    IfSome_then (g.S.Source.left c.args.source.now) c.answer_of-found.ensures.answered (λ input is done.
    let t = found_text c.answer_of-found.result c.conclude.result
    (λ text. (length input ≤ c.args.limits.now.max_bytes) × (g.S.Source.left c.answer_of-found.new.source ≡ Some []) × IsAnswered input text.items)
    (λ text. Appends (g.K.Sink.written c.args.out.now) (g.K.Sink.written c.conclude.new.out) text.items) c.conclude.ensures.stopped is c.conclude.ensures.done done in
    record { within = t.1.0; at_end = t.1.1; answered = (t.0.items, t.1.2, t.2) })

pub returns-clause-usage : goal.returns-clause-usage
returns-clause-usage g c e = c.answer_of-found.ensures.usage (found_stop c.answer_of-found.result c.conclude.result c.conclude.ensures.text c.conclude.ensures.stopped Stop.Usage e)

pub returns-clause-read_fault : goal.returns-clause-read_fault
returns-clause-read_fault g c e = c.answer_of-found.ensures.read_fault (found_stop c.answer_of-found.result c.conclude.result c.conclude.ensures.text c.conclude.ensures.stopped Stop.ReadFault e)

pub returns-clause-unended : goal.returns-clause-unended
returns-clause-unended g c e = c.answer_of-found.ensures.unended (found_stop c.answer_of-found.result c.conclude.result c.conclude.ensures.text c.conclude.ensures.stopped Stop.ReadFault e)

pub returns-clause-refused : goal.returns-clause-refused
returns-clause-refused g c =
    IfSome_then (g.S.Source.left c.args.source.now) c.answer_of-found.ensures.refused
    (λ input all refusal e. all refusal (found_stop c.answer_of-found.result c.conclude.result c.conclude.ensures.text c.conclude.ensures.stopped (Stop.Refused refusal) e))

pub returns-clause-kept : goal.returns-clause-kept
returns-clause-kept g c =
    let left = g.S.Source.left c.args.source.now in
    let old = g.K.Sink.written c.args.out.now in let new = g.K.Sink.written c.conclude.new.out in
    let most = c.args.limits.now.max_bytes in let max_contexts = c.args.limits.now.max_contexts in let max_facts = c.args.limits.now.max_facts in
    let read = Rose (g.S.Source.faults c.args.source.now) (g.S.Source.faults c.answer_of-found.new.source) in
    let write = Rose (g.K.Sink.faults c.args.out.now) (g.K.Sink.faults c.conclude.new.out) in
    let limit = IfSome_then left c.answer_of-found.ensures.limit
    (λ input all kind number e. all kind number (found_stop c.answer_of-found.result c.conclude.result c.conclude.ensures.text c.conclude.ensures.stopped (Stop.Limit kind number) e)) in
    let partly = IfSome_then left c.answer_of-found.ensures.answered (λ input is failed.
    let t = found_front c.answer_of-found.result c.conclude.result
    (λ text. (length input ≤ most) × (g.S.Source.left c.answer_of-found.new.source ≡ Some []) × IsAnswered input text.items)
    (λ text. AppendsFront old new text.items) c.conclude.ensures.stopped is c.conclude.ensures.partly failed in
    record { within = t.1.0; answered = (t.0.items, t.1.2, t.2) }) in
    record {
      ended = λ done. found_ok c.answer_of-found.result c.conclude.result _ c.conclude.ensures.stopped c.answer_of-found.ensures.ended done;
      limit = limit;
      complete = complete left most max_contexts max_facts c.conclude.result read write
          (returns-clause-refused g c) limit (returns-clause-usage g c) (returns-clause-read_fault g c) c.conclude.ensures.write_fault;
      refused_where = refused_where left most max_contexts max_facts c.conclude.result (g.S.Source.left c.answer_of-found.new.source) old new read
          (returns-clause-done g c) (returns-clause-refused g c) limit (returns-clause-usage g c) (returns-clause-read_fault g c) partly;
      partly = partly;
    }
