use Rattle.cd_top.proofs.Fronts.{front_after}
use Rattle.cd_top.proofs.notes.put_both.Goals as goal

pub returns-clause-front : goal.returns-clause-front
returns-clause-front g c =
    front_after (g.E.Sink.written c.args.notes.now) (g.E.Sink.written c.write_all.new.sink) (g.E.Sink.written c.write_all-2.new.sink)
    c.args.first.now c.args.second.now c.in_ok-write_all.ensures.all c.write_all-2.ensures.front
