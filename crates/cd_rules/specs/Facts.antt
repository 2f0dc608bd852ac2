-- Facts that come from the contexts of existentials, and conclusions from clauses and facts.
use Rattle.std.specs.Prelude.{ℕ, List}
use Rattle.cd_base.specs.Lists.{OneOf}
use Rattle.cd_base.specs.declared.normal.Normal.{Normal}
use Rattle.cd_clause.specs.declared.elem.Elem.{Elem}
use Rattle.cd_clause.specs.Numbers.{picked}
use Rattle.cd_clause.specs.Rules.{Told, Concludes}
use Rattle.cd_rules.specs.declared.facts.BackFact.{BackFact}
use Rattle.cd_rules.specs.declared.facts.DeadFact.{DeadFact}
use Rattle.cd_rules.specs.declared.facts.SureFact.{SureFact}

-- the fact is one of these
abbrev pub IsBack : List BackFact → ℕ → List ℕ → ℕ → Type 0
IsBack backs r k a = OneOf (record { role = r; key = k; atom = a }) backs

-- the fact is one of these
abbrev pub IsSure : List SureFact → ℕ → List ℕ → ℕ → Type 0
IsSure sures r k a = OneOf (record { role = r; key = k; atom = a }) sures

-- the fact is one of these
abbrev pub IsDead : List DeadFact → ℕ → List ℕ → Type 0
IsDead deads r k = OneOf (record { role = r; key = k }) deads

-- the clause has one of these numbers
abbrev pub IsPicked : List (List Elem) → List ℕ → List Elem → Type 0
IsPicked clauses numbers c = OneOf c (picked clauses numbers)

-- what a context was told of the contexts of its existentials, each kind in the order in which it came
pub record ToldFacts : Type 0 where
  pub backs : List BackFact
  pub sures : List SureFact
  pub deads : List DeadFact

-- what these facts tell
abbrev pub told_from : ToldFacts → Told
told_from facts = record {
  back = IsBack facts.backs;
  sure = IsSure facts.sures;
  dead = IsDead facts.deads;
}

-- in the context of `key`, d is the conclusion of a rule from clauses that are had and from these facts
abbrev pub ConcludesFrom : Normal → List ℕ → (List Elem → Type 0) → ToldFacts → List Elem → Type 0
ConcludesFrom n key Has facts d = Concludes n key Has (told_from facts) d
