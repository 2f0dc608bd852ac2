use Rattle.std.proofs.Common.{◌≡◌, ◌-◌, [], ◌∷◌, length, get_or, arith, sym, ap, ◌∙◌}
use Rattle.std.proofs.lemmas.Result.{on_ok_weaker}
use Rattle.cd_normal.specs.Made.{Adds}
use Rattle.cd_meaning.specs.NormalAxioms.{implies}
use Rattle.cd_normal.proofs.Chains.{begun_first, begun_more, begun_last, two_apart}
use Rattle.cd_normal.proofs.chain.chain.Goals as goal

pub returns-then-xs-eq2-clause-given : goal.returns-then-xs-eq2-clause-given
returns-then-xs-eq2-clause-given c = on_ok_weaker c.part.result
    (λ h. two_apart c.args.maker.now c.part.new.self c.args.xs.now c.index-xs-0.result c.index-xs-1.result c.if-xs-eq2.true c.index-xs-0.is c.index-xs-1.is c.part.ensures.next h)
    c.part.ensures.adds

pub loop-i-init : goal.loop-i-init
loop-i-init c = record {
  begun = begun_first c.args.maker.now c.above_one.new.self c.args.xs.now c.index-xs-0-2.result c.in_ok-p.p (omega arith) c.index-xs-0-2.is c.in_ok-p.ensures.closes;
  next = c.in_ok-p.ensures.closes.1;
  few = omega (arith, c.in_ok-p.ensures.few);
}

pub loop-i-preserved : goal.loop-i-preserved
loop-i-preserved c = record {
  begun = begun_more c.args.maker.now c.loop-i.maker c.above_both.new.self c.args.xs.now c.loop-i.i c.index-xs-i.result c.loop-i.p c.in_ok-p-2.p (omega arith) c.index-xs-i.is c.in_ok-p-2.ensures.closes c.loop-i.invariant.begun;
  next = (let n = c.in_ok-p-2.ensures.closes.1 in let m = c.loop-i.invariant.next in omega (arith, n, m));
  few = (let n = c.in_ok-p-2.ensures.few in let m = c.loop-i.invariant.few in omega (arith, n, m));
}

pub returns-clause-given : goal.returns-clause-given
returns-clause-given c =
    let at_end : c.loop-i.i ≡ length c.args.xs.now - 1 = omega arith in
    on_ok_weaker c.part-2.result
    (λ h. begun_last c.args.maker.now c.loop-i.maker c.part-2.new.self c.args.xs.now c.loop-i.i c.index-xs-xs.result c.loop-i.p (omega arith)
    (c.index-xs-xs.is ∙ ap (λ n. get_or c.args.xs.now n c.index-xs-xs.result) (sym at_end)) c.part-2.ensures.next h c.loop-i.invariant.begun)
    c.part-2.ensures.adds

pub returns-clause-grown : goal.returns-clause-grown
returns-clause-grown c =
    let next = c.part-2.ensures.next in
    let few = c.part-2.ensures.few in
    let before = c.loop-i.invariant.next in
    let rows_before = c.loop-i.invariant.few in
    on_ok_weaker c.part-2.result (λ (h : Adds c.loop-i.maker c.part-2.new.self (implies (c.index-xs-xs.result ∷ c.loop-i.p ∷ []) [] ∷ [])). (omega arith, omega arith)) c.part-2.ensures.adds
