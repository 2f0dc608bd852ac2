use Rattle.std.proofs.Common.{arith}
use Rattle.cd_saturation.proofs.Runs.{cells_more}
use Rattle.cd_saturation.proofs.saturation.new_cells.Goals as goal

pub loop-number-preserved : goal.loop-number-preserved
loop-number-preserved c =
    let i = c.loop-number.invariant in
    record {
      each = omega (arith, c.in_ok-push.ensures.len, i.each);
      are = cells_more c.args.index.now.normal c.args.count c.loop-number.number c.loop-number.cells.items c.push.new.self.items c.new.result i.each i.are c.new.ensures c.in_ok-push.ensures.items;
    }
