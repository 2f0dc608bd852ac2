use Rattle.std.proofs.Common.{◌≡◌, true, rules}
use Rattle.std.proofs.lemmas.Result.{IfOk-weaker}
use Rattle.cd_grammar.specs.Machine.{wants_head_next}
use Rattle.cd_grammar.proofs.places.add_operand.Goals as goal

pub returns-then-wants_head : goal.returns-then-wants_head
returns-then-wants_head c = λ stack.
    let wanted : wants_head_next c.args.frame.now ≡ true = search rules in
    IfOk-weaker c.add_head.result _ _ (λ ok taken. taken wanted) (c.add_head.ensures stack)
