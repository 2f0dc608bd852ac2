use Rattle.std.proofs.Common.{◌≡◌, ◌↔◌, ℕ, true, List, sym, subst}
use Rattle.std.proofs.lemmas.Bool.{iff_false}
use Rattle.cd_base.specs.Keys.{is_named}
use Rattle.cd_base.specs.Lists.{OneOf}
use Rattle.cd_base.specs.declared.normal.Normal.{Normal}
use Rattle.cd_clause.specs.Derivations.{IsSingle}
use Rattle.cd_context.specs.OpenNames.{IsOpenName}
use Rattle.cd_context.specs.State.{live_of}
use Rattle.cd_cell.proofs.reading.reading_of.Goals as goal

pub returns : goal.returns
returns c = (
  iff_false c.has_empty.ensures c.if-has_empty.false,
  subst (λ (n : Normal). (b : ℕ) → OneOf b c.in_ok-above.above ↔ ((is_named n b ≡ true) × IsSingle (live_of c.args.context.now) b)) c.normal.ensures c.in_ok-above.ensures,
  λ b. subst (λ (l : List ℕ). OneOf b l ↔ IsOpenName c.args.index.now.normal (live_of c.args.context.now) b) (sym c.of.ensures) (c.in_ok-open.ensures b),
)
