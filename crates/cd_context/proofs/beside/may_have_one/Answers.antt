use Rattle.std.proofs.Common.{arith}
use Rattle.std.proofs.lemmas.Bool.{both_ways}
use Rattle.cd_context.specs.Beside.{Stands}
use Rattle.cd_context.specs.Waits.{numbers}
use Rattle.cd_context.proofs.Besides.{not_yet, none_there}
use Rattle.cd_context.proofs.beside.may_have_one.Goals as goal

pub numbers-preserved : goal.numbers-preserved
numbers-preserved c = not_yet (Stands c.args.store.now.live (numbers c.args.waiting.now) c.args.premise) c.args.among.now c.numbers.i c.numbers.invariant
    (λ q. both_ways c.stands.result c.if-stands.false (c.stands.ensures q))

pub returns : goal.returns
returns c = λ m mem q. absurd
    (none_there (Stands c.args.store.now.live (numbers c.args.waiting.now) c.args.premise) c.args.among.now c.numbers.i (omega (arith, c.numbers-test.false)) c.numbers.invariant m mem q)
