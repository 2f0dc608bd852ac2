use Rattle.std.proofs.Common.{◌≡◌, ◌<◌, ◌≤◌, ◌++◌, ◌∙◌, length, get_or, subst, ap, arith}
use Rattle.cd_base.specs.Lists.{HasNoRepeats}
use Rattle.cd_actor.specs.Cells.{At}
use Rattle.cd_sample.proofs.NumberCells.{owed, owed_is, at_read, lists_some, lists_every, lists_more}
use Rattle.cd_sample.proofs.numbers.NumbersActor.list_owed.Goals as goal

pub loop-number-preserved : goal.loop-number-preserved
loop-number-preserved c =
    let v = c.args.self.now in let k = c.loop-number.number-index in let n = get_or c.deref-number-items.result.now k 0 in
    let items : c.deref-number-items.result.now ≡ v.2 = c.deref-number-items.ensures.value ∙ ap (λ w. w.2) c.self.view_is in
    let places : c.self.inside.places ≡ v.1 = ap (λ w. w.1) c.self.view_is in
    lists_more v k n c.args.out.now c.loop-number.out c.put_owed.new.out
    (subst (λ q. At q k n) items (at_read c.deref-number-items.result.now k c.loop-number-test.true)) c.loop-number.invariant
    (subst (λ p. c.put_owed.new.out ≡ c.loop-number.out ++ owed p n) places (owed_is c.self.inside.places n c.loop-number.out c.put_owed.new.out c.in_ok-put_owed.ensures.ok))

pub returns-in_err-put_owed-clause-follows : goal.returns-in_err-put_owed-clause-follows
returns-in_err-put_owed-clause-follows c =
    let w = subst (λ u. u.0 < u.1) c.self.view_is c.self.invariant.0 in let a = subst (λ u. HasNoRepeats u.2) c.self.view_is c.self.invariant.1 in
    (lists_some c.args.self.now c.loop-number.number-index c.args.out.now c.put_owed.new.out w a (c.in_err-put_owed.ensures.err ∙ c.loop-number.invariant)).follows

pub returns-in_err-put_owed-clause-sends : goal.returns-in_err-put_owed-clause-sends
returns-in_err-put_owed-clause-sends c =
    let w = subst (λ u. u.0 < u.1) c.self.view_is c.self.invariant.0 in let a = subst (λ u. HasNoRepeats u.2) c.self.view_is c.self.invariant.1 in
    (lists_some c.args.self.now c.loop-number.number-index c.args.out.now c.put_owed.new.out w a (c.in_err-put_owed.ensures.err ∙ c.loop-number.invariant)).sends

pub returns-in_err-put_owed-clause-only : goal.returns-in_err-put_owed-clause-only
returns-in_err-put_owed-clause-only c =
    let w = subst (λ u. u.0 < u.1) c.self.view_is c.self.invariant.0 in let a = subst (λ u. HasNoRepeats u.2) c.self.view_is c.self.invariant.1 in
    (lists_some c.args.self.now c.loop-number.number-index c.args.out.now c.put_owed.new.out w a (c.in_err-put_owed.ensures.err ∙ c.loop-number.invariant)).only

pub returns-in_err-put_owed-clause-once : goal.returns-in_err-put_owed-clause-once
returns-in_err-put_owed-clause-once c =
    let w = subst (λ u. u.0 < u.1) c.self.view_is c.self.invariant.0 in let a = subst (λ u. HasNoRepeats u.2) c.self.view_is c.self.invariant.1 in
    (lists_some c.args.self.now c.loop-number.number-index c.args.out.now c.put_owed.new.out w a (c.in_err-put_owed.ensures.err ∙ c.loop-number.invariant)).once

pub returns : goal.returns
returns c =
    let v = c.args.self.now in
    let w : v.0 < v.1 = subst (λ u. u.0 < u.1) c.self.view_is c.self.invariant.0 in let a : HasNoRepeats v.2 = subst (λ u. HasNoRepeats u.2) c.self.view_is c.self.invariant.1 in
    let items : c.deref-number-items.result.now ≡ v.2 = c.deref-number-items.ensures.value ∙ ap (λ u. u.2) c.self.view_is in
    let end : length v.2 ≤ c.loop-number.number-index = subst (λ q. length q ≤ c.loop-number.number-index) items (omega arith) in
    let r = lists_some v c.loop-number.number-index c.args.out.now c.loop-number.out w a c.loop-number.invariant in
    record { follows = r.follows; sends = r.sends; only = r.only; once = r.once; every = lists_every v c.loop-number.number-index c.args.out.now c.loop-number.out end c.loop-number.invariant }
