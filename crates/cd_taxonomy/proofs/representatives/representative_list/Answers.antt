use Rattle.std.proofs.Common.{refl, arith}
use Rattle.std.proofs.lemmas.List.FromFn.{map-range_with_len_more}
use Rattle.cd_meaning.specs.Hierarchy.{representative}
use Rattle.cd_taxonomy.specs.Relation.{relation}
use Rattle.cd_taxonomy.proofs.representatives.representative_list.Goals as goal

pub loop-c-preserved : goal.loop-c-preserved
loop-c-preserved c =
    let stands = representative c.args.document.now.classes (relation c.args.above.now) in
    rw (map-range_with_len_more stands 0 c.loop-c.c c.loop-c.c (omega arith), c.in_ok-push.ensures.items, c.loop-c.invariant, c.representative.ensures) refl
