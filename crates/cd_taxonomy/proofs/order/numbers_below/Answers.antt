use Rattle.std.proofs.Common.{Ok, arith, refl}
use Rattle.std.specs.declared.alloc.AllocError.{AllocError}
use Rattle.std.proofs.lemmas.Iterator.{items_from_collect, YieldsList-from_range}
use Rattle.cd_taxonomy.proofs.order.numbers_below.Goals as goal

pub returns : goal.returns
returns c = items_from_collect {E = AllocError} (Ok c.in_ok-collect.field-0) c.in_ok-collect.ensures.ran (YieldsList-from_range 0 _ c.args.n refl (omega arith))
