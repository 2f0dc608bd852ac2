use Rattle.std.proofs.Common.{[], sym, subst}
use Rattle.cd_saturation.specs.Decided.{IsDecided}
use Rattle.cd_saturation.proofs.Reading.{none_read, read_more}
use Rattle.cd_saturation.proofs.readings.read_classes.Goals as goal

pub loop-class-init : goal.loop-class-init
loop-class-init c = λ n e.
    subst (λ z. IsDecided n 0 z c.args.groups.now.items) (sym c.requires.no_answers) (subst (λ z. IsDecided n 0 [] z) (sym c.requires.no_groups) (none_read n))

pub loop-class-preserved : goal.loop-class-preserved
loop-class-preserved c = λ n e.
    read_more n c.loop-class.class c.loop-class.above.items c.push_reading.new.above.items c.loop-class.groups.items c.push_reading.new.groups.items c.in_ok-reading.reading
    (c.loop-class.invariant n e) (c.in_ok-reading.ensures n e) c.in_ok-push_reading.ensures.answer c.in_ok-push_reading.ensures.group
