-- The facts of a context by kind, and the set of all of them.
use Rattle.std.specs.Prelude.{◌≡◌, ℕ, Bool, List, []}
use Rattle.std.specs.List.{list_any}
use Rattle.cd_rules.specs.declared.facts.BackFact.{BackFact}
use Rattle.cd_rules.specs.declared.facts.DeadFact.{DeadFact}
use Rattle.cd_rules.specs.declared.facts.SureFact.{SureFact}
use Rattle.cd_rules.specs.Facts.{ToldFacts}
use Rattle.cd_store.specs.Store.{StoreState}
use Rattle.cd_context.specs.contracts.facts.FactPartialEq.TheImpl as facts
use Rattle.cd_context.specs.declared.facts.Fact.{Fact}
use Rattle.cd_context.specs.declared.facts.Fact.TheVariants.{Link, Back, Sure, Dead}
use Rattle.cd_context.specs.declared.facts.LinkFact.{LinkFact}
use Rattle.cd_context.specs.Facts.{has_fact}
use Rattle.cd_context.specs.State.{State}

-- each kind in the order in which they came
pub record ByKind : Type 0 where
  pub links : List LinkFact
  pub backs : List BackFact
  pub sures : List SureFact
  pub deads : List DeadFact

-- a state with these facts, and no clause
abbrev pub told : ByKind → State
told lists = record {
  key = [];
  clauses = [];
  live = [];
  links = lists.links;
  backs = lists.backs;
  sures = lists.sures;
  deads = lists.deads;
}

-- the state of a key with these clauses and facts
abbrev pub state_of : List ℕ → StoreState → ByKind → State
state_of key store lists = record {
  key = key;
  clauses = store.clauses;
  live = store.live;
  links = lists.links;
  backs = lists.backs;
  sures = lists.sures;
  deads = lists.deads;
}

-- those of them that contexts of existentials told
abbrev pub told_in : ByKind → ToldFacts
told_in lists = record { backs = lists.backs; sures = lists.sures; deads = lists.deads }

-- whether they are the same fact
abbrev pub same_fact : Fact → Fact → Bool
same_fact = (facts.ghosts).eq

-- whether the set has the fact
abbrev pub is_among : List Fact → Fact → Bool
is_among all fact = list_any (same_fact fact) all

-- the set has a fact other than `Start` exactly where it is in the list of its kind
pub record Ties (all : List Fact) (lists : ByKind) : Type 0 where
  pub of_link : (k : List ℕ) (r : ℕ) → is_among all (Link k r) ≡ has_fact (told lists) (Link k r)
  pub of_back : (r : ℕ) (k : List ℕ) (a : ℕ)
      → is_among all (Back r k a) ≡ has_fact (told lists) (Back r k a)
  pub of_sure : (r : ℕ) (k : List ℕ) (a : ℕ)
      → is_among all (Sure r k a) ≡ has_fact (told lists) (Sure r k a)
  pub of_dead : (r : ℕ) (k : List ℕ) → is_among all (Dead r k) ≡ has_fact (told lists) (Dead r k)
