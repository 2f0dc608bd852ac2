-- What contracts see of a context.
use Rattle.std.specs.Prelude.{ℕ, List}
use Rattle.cd_clause.specs.declared.elem.Elem.{Elem}
use Rattle.cd_clause.specs.Numbers.{picked}
use Rattle.cd_rules.specs.declared.facts.BackFact.{BackFact}
use Rattle.cd_rules.specs.declared.facts.DeadFact.{DeadFact}
use Rattle.cd_rules.specs.declared.facts.SureFact.{SureFact}
use Rattle.cd_rules.specs.Facts.{ToldFacts}
use Rattle.cd_context.specs.declared.facts.LinkFact.{LinkFact}

-- the key, all clauses by number with the numbers of the live ones, and the facts, each kind in the order in which they came
pub record State : Type 0 where
  pub key : List ℕ
  pub clauses : List (List Elem)
  pub live : List ℕ
  pub links : List LinkFact
  pub backs : List BackFact
  pub sures : List SureFact
  pub deads : List DeadFact

-- the live clauses
abbrev pub live_of : State → List (List Elem)
live_of s = picked s.clauses s.live

-- what the context was told of the contexts of its existentials
abbrev pub told_of : State → ToldFacts
told_of s = record { backs = s.backs; sures = s.sures; deads = s.deads }
