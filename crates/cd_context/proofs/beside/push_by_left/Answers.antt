use Rattle.std.proofs.lemmas.Bool.{both_ways}
use Rattle.cd_store.proofs.Gaining.{gain_less, gain_none}
use Rattle.cd_context.specs.Beside.{IsBesideLeft, Stands}
use Rattle.cd_context.proofs.Besides.{IsElsewhere, all_had, elsewhere, stands}
use Rattle.cd_context.specs.Waits.{numbers}
use Rattle.cd_context.proofs.beside.push_by_left.Goals as goal

pub returns-in_default : goal.returns-in_default
returns-in_default c =
    gain_none (IsBesideLeft (Stands c.args.store.now.live (numbers c.args.waiting.now) c.args.premise) c.args.store.now.clauses c.args.atom c.args.left.now) c.args.found.now.items
    (λ m q. c.in_default.ensures (stands c.args.atom c.args.left.now q.0 q.1))

pub returns-then-not-may_all_stand : goal.returns-then-not-may_all_stand
returns-then-not-may_all_stand c =
    gain_none (IsBesideLeft (Stands c.args.store.now.live (numbers c.args.waiting.now) c.args.premise) c.args.store.now.clauses c.args.atom c.args.left.now) c.args.found.now.items
    (λ m q. both_ways c.may_all_stand.result c.if-not-may_all_stand.true (c.may_all_stand.ensures (all_had (Stands c.args.store.now.live (numbers c.args.waiting.now) c.args.premise) c.args.store.now.clauses c.args.atom c.args.left.now q.0 c.requires q.1 q.2)))

pub returns : goal.returns
returns c =
    gain_less (IsBesideLeft (Stands c.args.store.now.live (numbers c.args.waiting.now) c.args.premise) c.args.store.now.clauses c.args.atom c.args.left.now) (IsElsewhere c.args.store.now.clauses c.args.left.now c.in-Some.place) c.args.found.now.items c.push_others.new.found.items
    (λ m q. elsewhere (Stands c.args.store.now.live (numbers c.args.waiting.now) c.args.premise) c.args.store.now.clauses c.args.atom c.args.left.now c.in-Some.place m c.in-Some.ensures.0 c.in-Some.ensures.1 q) c.in_ok-push_others.ensures
