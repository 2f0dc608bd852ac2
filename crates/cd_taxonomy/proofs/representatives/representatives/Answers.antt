use Rattle.std.proofs.Common.{ap, ◌∙◌}
use Rattle.cd_taxonomy.proofs.RepresentativeByCount.{representatives_within, representatives_more, representatives_same}
use Rattle.cd_taxonomy.proofs.representatives.representatives.Goals as goal
use Rattle.cd_taxonomy.proofs.representatives.representatives.Goals.{then-representative_of-c+in_ok-push, else-representative_of-c}

pub bounds-representative_of-c : goal.bounds-representative_of-c
bounds-representative_of-c c = representatives_within c.args.document.now.classes c.args.above.now c.args.order.now c.args.representative_of.now
    c.requires.ordered c.requires.represented c.loop-c.c-index c.loop-c-test.true

pub loop-c-preserved : goal.loop-c-preserved
loop-c-preserved c =
    let names = c.args.document.now.classes in
    let more = representatives_more names c.args.above.now c.args.order.now c.args.representative_of.now c.requires.ordered c.requires.represented in
    let same = representatives_same names c.args.above.now c.args.order.now c.args.representative_of.now c.requires.ordered c.requires.represented in
    elim c.if-representative_of-c.branch [
      | then-representative_of-c+in_ok-push w ↦ ap (λ v. v.items) w.found-is ∙ w.in_ok-push.ensures.items
          ∙ more c.loop-c.found.items c.loop-c.c-index c.loop-c-test.true c.loop-c.invariant w.if-representative_of-c.true
      | else-representative_of-c w ↦ ap (λ v. v.items) w.found-is
          ∙ same c.loop-c.found.items c.loop-c.c-index c.loop-c-test.true c.loop-c.invariant w.if-representative_of-c.false
    ]
