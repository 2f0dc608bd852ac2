use Rattle.std.specs.Prelude.{◌++◌, codes}
use Rattle.cd_top.proofs.Fronts.{front_after, front_before}
use Rattle.cd_top.specs.Status.{numbered}
use Rattle.cd_top.proofs.notes.put_construct.Goals as goal

pub returns-in_err-put_both-clause-front : goal.returns-in_err-put_both-clause-front
returns-in_err-put_both-clause-front g c =
    front_before (g.E.Sink.written c.args.notes.now) (g.E.Sink.written c.put_both.new.notes)
    (codes "condor: construct " ++ c.args.word.now) (numbered (codes " at byte ") c.args.place (codes "\n")) c.put_both.ensures.front

pub returns-clause-front : goal.returns-clause-front
returns-clause-front g c =
    front_after (g.E.Sink.written c.args.notes.now) (g.E.Sink.written c.put_both.new.notes) (g.E.Sink.written c.put_numbered.new.notes)
    (codes "condor: construct " ++ c.args.word.now) (numbered (codes " at byte ") c.args.place (codes "\n"))
    c.in_ok-put_both.ensures.all c.put_numbered.ensures.front
