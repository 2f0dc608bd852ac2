use Rattle.std.proofs.Common.{ap, filter, List, ℕ, ◌∙◌}
use Rattle.cd_base.specs.Keys.{is_named}
use Rattle.cd_context.specs.State.{live_of}
use Rattle.cd_cell.proofs.Answered.{named_of}
use Rattle.cd_cell.proofs.reading.named_singles.Goals as goal

pub returns : goal.returns
returns c =
    named_of c.args.normal.now (live_of c.args.context.now) c.of.result c.in_ok-singles.singles.items
    (c.of.ensures ∙ c.in_ok-named.ensures ∙ ap (λ (l : List ℕ). filter (is_named c.args.normal.now) l) c.deref.ensures.value) c.in_ok-singles.ensures.exact
