use Rattle.std.proofs.Common.{◌≤◌, arith, length}
use Rattle.std.proofs.lemmas.List.FromFn.{length-range_with_len}
use Rattle.cd_taxonomy.proofs.SuperclassLists.{superclasses_few, superclasses_of_unsatisfiable}
use Rattle.cd_taxonomy.proofs.counts.superclass_count.Goals as goal

pub returns-in-Unsatisfiable : goal.returns-in-Unsatisfiable
returns-in-Unsatisfiable c = rw (c.in-Unsatisfiable.is, superclasses_of_unsatisfiable) (omega (arith, length-range_with_len 0 c.args.n))

pub overflow_cast-result : goal.overflow_cast-result
overflow_cast-result c =
    let few : length c.in_ok-found.found.items ≤ c.args.n = rw c.in_ok-found.ensures (superclasses_few c.args.n c.args.answer.now) in
    omega (arith, c.in_ok-found.found.ok.0)
