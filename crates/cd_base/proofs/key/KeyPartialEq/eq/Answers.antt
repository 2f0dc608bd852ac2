use Rattle.std.proofs.Common.{map, nat_eq, ap, ◌∙◌}
use Rattle.std.specs.Cmp.Lexicographic.{pointwise}
use Rattle.cd_base.specs.Keys.{code}
use Rattle.cd_base.proofs.Keys.{same_lits, lits_alike}
use Rattle.cd_base.proofs.key.KeyPartialEq.eq.Goals as goal

pub returns : goal.returns
returns c =
    c.eq.ensures ∙ lits_alike _ same_lits c.lits.result.now c.lits-2.result.now
    ∙ ap (λ k. pointwise nat_eq k (map code c.lits-2.result.now)) c.lits.ensures.codes ∙ ap (pointwise nat_eq c.args.self.now) c.lits-2.ensures.codes
