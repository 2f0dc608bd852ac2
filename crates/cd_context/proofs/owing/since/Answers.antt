use Rattle.std.proofs.Common.{ℕ, ◌-◌, ltb, rules, arith, length, drop}
use Rattle.std.proofs.lemmas.List.Sorted.{IsPartitionPoint-from_clause, IsPartitionedBy-ltb}
use Rattle.std.proofs.lemmas.List.{length-drop, take_all}
use Rattle.cd_context.proofs.Owed.{ascends_by, from_point}
use Rattle.cd_context.proofs.owing.since.Goals as goal

pub returns : goal.returns
returns c =
    let numbers = c.args.numbers.now in
    let parted = IsPartitionedBy-ltb (λ (k : ℕ). k) numbers c.args.stored (ascends_by numbers c.requires) in
    let point = IsPartitionPoint-from_clause (λ (k : ℕ). ltb k c.args.stored) _ _ c.partition_point-from.ensures.partitioned parted (λ a r q k. search rules) in
    let from = c.partition_point-from.result in
    let found = from_point numbers c.args.stored from point in
    rw (take_all (length numbers - from) (drop from numbers) (omega (arith, length-drop from numbers))) found
