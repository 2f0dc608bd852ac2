use Rattle.std.proofs.Common.{Option, sym, subst}
use Rattle.std.specs.Option.{IfNone}
use Rattle.cd_base.specs.declared.limits.Limits.{Limits}
use Rattle.cd_words.specs.Heard.{IsHeardAs}
use Rattle.cd_words.specs.declared.request.Ask.{Ask}
use Rattle.cd_words.specs.declared.request.Command.{Command}
use Rattle.cd_words.proofs.heard.Heard.asked.Goals as goal

pub returns-in_err-limits-clause-none : goal.returns-in_err-limits-clause-none
returns-in_err-limits-clause-none c =
    subst (λ (o : Option Ask). IfNone o ((request : Command) → (limits : Limits) → IsHeardAs c.args.self request limits → ⊥)) (sym c.from_residual-in_err-limits.ensures)
    (λ request limits is. c.in_err-limits.ensures.none limits is.numbers)
