use Rattle.std.proofs.Common.{◌≡◌, ℕ, List, sym, subst, ◌∙◌}
use Rattle.std.specs.Option.{option_copied}
use Rattle.cd_context.specs.State.{State}
use Rattle.cd_cell.specs.Cells.{state_at}
use Rattle.cd_cell.proofs.Puts.{state_at_is}
use Rattle.cd_cell.proofs.contexts.Contexts.get.Goals as goal

pub returns : goal.returns
returns c =
    subst (λ (es : List (List ℕ × State)). option_copied c.get.result ≡ state_at es c.args.key.now) c.self.view_is
    (c.get.ensures.value ∙ sym (state_at_is c.self.inside.by_key.entries c.args.key.now))
