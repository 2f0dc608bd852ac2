use Rattle.std.proofs.Common.{◌≡◌, ◌<◌, ◌%◌, length, remove, ◌++◌, subst, sym, arith, ap, ◌∙◌}
use Rattle.cd_actor.specs.Sends.{sent}
use Rattle.cd_actor.specs.Cells.{At, AreOf, HadOrPends}
use Rattle.cd_core.specs.State.{CoreState}
use Rattle.cd_core.specs.Steps.{IsStep}
use Rattle.cd_actor.proofs.At.{at_index}
use Rattle.cd_core.proofs.Turns.{runs_taken, keeps_taken}
use Rattle.cd_core.proofs.cores.Core.step.Goals as goal

pub deliver_to-requires-clause-runs : goal.deliver_to-requires-clause-runs
deliver_to-requires-clause-runs g c =
    let l : c.args.choice % c.len-count.result < length c.self.inside.pending = omega arith in
    let at : At c.self.inside.pending (c.args.choice % c.len-count.result) (c.in-Some.cell, c.in-Some.message) = at_index c.self.inside.pending _ (c.in-Some.cell, c.in-Some.message) l c.in-Some.ensures.0 in
    runs_taken g.A.Actor.meaning c.self.inside.cells.items c.self.inside.pending _ (c.in-Some.cell, c.in-Some.message) c.take_at.new.self (c.self.invariant.runs c.if-self.false) at c.in-Some.ensures.1

pub returns-clause-keeps : goal.returns-clause-keeps
returns-clause-keeps g c x h =
    let l : c.args.choice % c.len-count.result < length c.self.inside.pending = omega arith in
    let at : At c.self.inside.pending (c.args.choice % c.len-count.result) (c.in-Some.cell, c.in-Some.message) = at_index c.self.inside.pending _ (c.in-Some.cell, c.in-Some.message) l c.in-Some.ensures.0 in
    let h2 : HadOrPends g.A.Actor.meaning c.self.inside.cells.items c.self.inside.pending x = subst (λ (v : CoreState _ _). HadOrPends g.A.Actor.meaning v.cells v.pending x) (sym c.self.view_is) h in
    c.in_ok-deliver_to.ensures.keeps x (keeps_taken g.A.Actor.meaning c.self.inside.cells.items c.self.inside.pending _ (c.in-Some.cell, c.in-Some.message) c.take_at.new.self at c.in-Some.ensures.1 x h2)

pub returns-clause-family : goal.returns-clause-family
returns-clause-family g c f of = c.in_ok-deliver_to.ensures.family f (subst (λ (v : CoreState _ _). AreOf g.A.Actor.meaning f v.cells) (sym c.self.view_is) of)

pub returns-clause-ok : goal.returns-clause-ok
returns-clause-ok g c =
    let l : c.args.choice % c.len-count.result < length c.self.inside.pending = omega arith in
    let at : At c.self.inside.pending (c.args.choice % c.len-count.result) (c.in-Some.cell, c.in-Some.message) = at_index c.self.inside.pending _ (c.in-Some.cell, c.in-Some.message) l c.in-Some.ensures.0 in
    let n : c.args.choice % c.len-count.result ≡ c.args.choice % length c.self.inside.pending = ap (λ k. c.args.choice % k) c.len-count.ensures in
    let e = c.in_ok-deliver_to.ensures in
    let j : remove c.self.inside.pending (c.args.choice % c.len-count.result) ≡ remove c.self.inside.pending (c.args.choice % length c.self.inside.pending) = ap (λ k. remove c.self.inside.pending k) n in
    subst (λ (v : CoreState _ _). IsStep g.A.Actor.meaning c.args.choice v.cells v.pending c.deliver_to.new.cells.items c.deliver_to.new.pending) c.self.view_is record {
      message = (c.in-Some.cell, c.in-Some.message);
      out = sent c.take_at.new.self c.deliver_to.new.pending;
      is = subst (λ k. At c.self.inside.pending k (c.in-Some.cell, c.in-Some.message)) n at;
      turn = e.turn;
      joins = e.follows ∙ ap (λ q. q ++ sent c.take_at.new.self c.deliver_to.new.pending) (c.in-Some.ensures.1 ∙ j);
    }
