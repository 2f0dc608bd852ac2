use Rattle.std.proofs.Common.{[]}
use Rattle.cd_base.specs.Appends.{Appends}
use Rattle.cd_base.specs.Lists.{OneOf}
use Rattle.cd_base.proofs.Appending.{OfBelow}
use Rattle.cd_rules.proofs.ConPartners.{OfChoice}
use Rattle.cd_rules.proofs.partners.partners_among.Given as goal

abbrev pub invariant-choices : goal.invariant-choices
invariant-choices l = Appends OneOf (OfBelow (OfChoice l.normal l.clauses l.choices) l.i) (Unit {0}) [] l.partners.items
