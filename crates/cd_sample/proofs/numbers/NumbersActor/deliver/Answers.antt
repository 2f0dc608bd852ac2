use Rattle.std.proofs.Common.{◌==◌, false, ◌≡◌, ◌∙◌, refl, subst, sym}
use Rattle.std.specs.List.{list_any}
use Rattle.cd_actor.specs.Sends.{sent}
use Rattle.cd_actor.specs.Meaning.{Delivers}
use Rattle.cd_sample.proofs.NumberCells.{meaning, owed, owed_is, sent_is, delivers_more, apart_new}
use Rattle.cd_sample.proofs.numbers.NumbersActor.deliver.Goals as goal

pub invariant_of-self-2 : goal.invariant_of-self-2
invariant_of-self-2 c =
    let f : list_any (λ n. n == c.args.message) c.args.self.now.2 ≡ false = sym c.has.ensures ∙ c.if-has.false in
    (c.self.invariant.0, apart_new c.self.inside.numbers.items c.push.new.self.items c.args.message c.self.invariant.1 (subst (λ v. list_any (λ n. n == c.args.message) v.2 ≡ false) (sym c.self.view_is) f) c.in_ok-push.ensures.items)

pub invariant_of-self-in_err-put_owed : goal.invariant_of-self-in_err-put_owed
invariant_of-self-in_err-put_owed c =
    let f : list_any (λ n. n == c.args.message) c.args.self.now.2 ≡ false = sym c.has.ensures ∙ c.if-has.false in
    (c.self.invariant.0, apart_new c.self.inside.numbers.items c.push.new.self.items c.args.message c.self.invariant.1 (subst (λ v. list_any (λ n. n == c.args.message) v.2 ≡ false) (sym c.self.view_is) f) c.in_ok-push.ensures.items)

pub returns-clause-delivers : goal.returns-clause-delivers
returns-clause-delivers c =
    let place = c.self.inside.place in let places = c.self.inside.places in let numbers = c.self.inside.numbers.items in let m = c.args.message in
    let more = c.push.new.self.items in
    let s : sent c.args.out.now c.put_owed.new.out ≡ owed places m = sent_is c.args.out.now c.put_owed.new.out (owed places m) (owed_is places m c.args.out.now c.put_owed.new.out c.in_ok-put_owed.ensures.ok) in
    subst (λ v. Delivers meaning v m (place, places, more) (sent c.args.out.now c.put_owed.new.out)) c.self.view_is
    (subst (λ q. Delivers meaning (place, places, numbers) m (place, places, more) q) (sym s)
    (delivers_more (place, places, numbers) (place, places, more) m refl refl c.in_ok-push.ensures.items c.self.invariant.0))
