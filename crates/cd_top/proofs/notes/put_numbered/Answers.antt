use Rattle.std.proofs.Common.{List, ℕ, ◌++◌, subst, ◌∙◌}
use Rattle.std.specs.Prelude.{decimal}
use Rattle.cd_io.specs.Streams.{AppendsFront}
use Rattle.cd_top.proofs.Fronts.{front_after}
use Rattle.cd_top.proofs.notes.put_numbered.Goals as goal

pub returns-clause-front : goal.returns-clause-front
returns-clause-front g c =
    front_after (g.E.Sink.written c.args.notes.now) (g.E.Sink.written c.write_all.new.sink) (g.E.Sink.written c.put_both.new.notes)
    c.args.front.now (decimal c.args.number ++ c.args.back.now) c.in_ok-write_all.ensures.all
    (subst (λ (text : List ℕ). AppendsFront (g.E.Sink.written c.write_all.new.sink) (g.E.Sink.written c.put_both.new.notes) (text ++ c.args.back.now))
    (c.as_bytes.ensures.value ∙ c.format.ensures.text)
    c.put_both.ensures.front)
