use Rattle.std.proofs.Common.{◌≡◌, ◌≤◌, length, take, subst, sym, arith}
use Rattle.std.proofs.lemmas.Grind.{common_steps}
use Rattle.cd_base.specs.Lists.{OneOf}
use Rattle.cd_actor.specs.Sends.{sent}
use Rattle.cd_actor.specs.Cells.{At}
use Rattle.cd_actor.specs.Owed.{IsOwedOf, IsOwedInTurn}
use Rattle.cd_actor.proofs.At.{at_index}
use Rattle.cd_actor.proofs.Family.{owed_in_family}
use Rattle.cd_actor.proofs.Sent.{sent_first, follows_more}
use Rattle.cd_actor.proofs.Joining.{owed_lawful, owed_of, in_turn_next, in_turn_lawful, in_turn_covered}
use Rattle.cd_actor.proofs.owed.put_owed.Goals as goal

pub put_not_had-requires-clause-lawful : goal.put_not_had-requires-clause-lawful
put_not_had-requires-clause-lawful g c x h =
    let m = g.A.Actor.meaning in let cs = c.args.cells.now in
    let at : At cs c.loop-cell.cell-index c.cell-item.result = at_index cs c.loop-cell.cell-index c.cell-item.result c.loop-cell-test.true c.cell-item.is in
    let all : sent c.new-owed.result c.list_owed.new.out ≡ c.list_owed.new.out = sent_first c.new-owed.result c.list_owed.new.out c.new-owed.ensures in
    let owes : m.owes c.cell-item.result x.0 x.1 = c.in_ok-list_owed.ensures.only x.0 x.1 (subst (λ q. OneOf x q) (sym all) h) in
    owed_lawful m cs c.loop-cell.cell-index c.cell-item.result x c.requires (owed_in_family m g.met.A.Actor.same_lawful g.met.A.Actor.lawful_below g.met.A.Actor.owed_lawful) at owes

pub loop-cell-preserved : goal.loop-cell-preserved
loop-cell-preserved g c =
    let m = g.A.Actor.meaning in let cs = c.args.cells.now in
    let at : At cs c.loop-cell.cell-index c.cell-item.result = at_index cs c.loop-cell.cell-index c.cell-item.result c.loop-cell-test.true c.cell-item.is in
    let all : sent c.new-owed.result c.list_owed.new.out ≡ c.list_owed.new.out = sent_first c.new-owed.result c.list_owed.new.out c.new-owed.ensures in
    let f = c.loop-cell.invariant.follows in
    let e = c.in_ok-put_not_had.ensures in
    let o : IsOwedOf m cs c.cell-item.result (sent c.loop-cell.pending c.put_not_had.new.pending) =
    owed_of m cs c.cell-item.result c.list_owed.new.out (sent c.loop-cell.pending c.put_not_had.new.pending)
    (λ p k i. c.in_ok-list_owed.ensures.only p k (subst (λ q. OneOf (p, k) q) (sym all) i))
    (λ p k w. subst (λ q. OneOf (p, k) q) all (c.in_ok-list_owed.ensures.every p k w)) e.not_had in
    record {
      follows = follows_more c.args.pending.now c.loop-cell.pending c.put_not_had.new.pending (sent c.loop-cell.pending c.put_not_had.new.pending) f e.follows;
      owed = in_turn_next m cs c.loop-cell.cell-index c.cell-item.result c.args.pending.now c.loop-cell.pending c.put_not_had.new.pending at f e.follows c.loop-cell.invariant.owed o;
    }

pub returns-clause-lawful : goal.returns-clause-lawful
returns-clause-lawful g c =
    let m = g.A.Actor.meaning in let cs = c.args.cells.now in
    let end : length cs ≤ c.loop-cell.cell-index = omega arith in
    let all : take c.loop-cell.cell-index cs ≡ cs = grind (arith, common_steps) in
    in_turn_lawful m cs (sent c.args.pending.now c.loop-cell.pending) c.requires (owed_in_family m g.met.A.Actor.same_lawful g.met.A.Actor.lawful_below g.met.A.Actor.owed_lawful)
    (subst (λ q. IsOwedInTurn m cs q (sent c.args.pending.now c.loop-cell.pending)) all c.loop-cell.invariant.owed)

pub returns-clause-covered : goal.returns-clause-covered
returns-clause-covered g c =
    let m = g.A.Actor.meaning in let cs = c.args.cells.now in
    let end : length cs ≤ c.loop-cell.cell-index = omega arith in
    let all : take c.loop-cell.cell-index cs ≡ cs = grind (arith, common_steps) in
    in_turn_covered m cs (sent c.args.pending.now c.loop-cell.pending) c.requires (owed_in_family m g.met.A.Actor.same_lawful g.met.A.Actor.lawful_below g.met.A.Actor.owed_lawful)
    (subst (λ q. IsOwedInTurn m cs q (sent c.args.pending.now c.loop-cell.pending)) all c.loop-cell.invariant.owed)
