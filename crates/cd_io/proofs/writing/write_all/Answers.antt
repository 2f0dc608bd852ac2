use Rattle.std.proofs.Common.{rules, arith}
use Rattle.std.proofs.lemmas.Grind.{common_steps}
use Rattle.cd_io.proofs.Appending.{Appends-range}
use Rattle.cd_io.proofs.writing.write_all.Goals as goal

pub loop-done-preserved : goal.loop-done-preserved
loop-done-preserved g c = record {
  within = search rules;
  out = Appends-range (g.K.Sink.written c.args.sink.now) (g.K.Sink.written c.loop-done.sink) (g.K.Sink.written c.write.new.self) c.args.bytes.now
      c.loop-done.done c.in-Ok.count c.loop-done.invariant.out c.in-Ok.ensures.bytes;
  later = search rules;
  nothing = grind (arith, common_steps);
  unfinished = λ _. c.write.ensures.finished;
}
