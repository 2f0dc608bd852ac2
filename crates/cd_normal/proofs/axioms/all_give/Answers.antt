use Rattle.std.proofs.Common.{arith}
use Rattle.cd_meaning.specs.Numbered.{has_numbers_below}
use Rattle.cd_normal.proofs.Sizes.{below_at}
use Rattle.cd_normal.proofs.Later.{given_none, given_more, nodes_room, grown_more}
use Rattle.cd_normal.proofs.axioms.all_give.Goals as goal

pub loop-stated-init : goal.loop-stated-init
loop-stated-init c = record { given = given_none c.args.classes c.args.maker.now; grown = (omega arith, omega arith) }

pub stated_gives-requires : goal.stated_gives-requires
stated_gives-requires c = record {
  within = (c.requires.within.0, below_at (has_numbers_below c.args.classes c.requires.within.0) c.args.axioms.now c.loop-stated.stated-index c.stated-item.result c.loop-stated-test.true c.stated-item.is c.requires.within.1);
  few = nodes_room c.args.maker.now c.loop-stated.maker c.loop-stated.maker c.args.axioms.now c.loop-stated.stated-index c.stated-item.result c.loop-stated-test.true c.stated-item.is c.requires.few c.loop-stated.invariant.grown.0;
}

pub loop-stated-preserved : goal.loop-stated-preserved
loop-stated-preserved c = record {
  given = given_more c.args.classes c.args.maker.now c.loop-stated.maker c.stated_gives.new.maker c.args.axioms.now c.loop-stated.stated-index c.stated-item.result c.loop-stated-test.true c.stated-item.is c.loop-stated.invariant.given c.in_ok-stated_gives.ensures.given;
  grown = grown_more c.args.maker.now c.loop-stated.maker c.stated_gives.new.maker c.args.axioms.now c.loop-stated.stated-index c.stated-item.result c.loop-stated-test.true c.stated-item.is c.loop-stated.invariant.grown c.in_ok-stated_gives.ensures.grown;
}
