-- The facts that a context has, and how many.
use Rattle.std.specs.Prelude.{ℕ, ◌+◌, ◌&&◌, ◌==◌, Bool, true, min, List, length, nat_eq}
use Rattle.std.specs.Cmp.Lexicographic.{pointwise}
use Rattle.std.specs.List.{list_any}
use Rattle.cd_base.specs.Counts.{last}
use Rattle.cd_rules.specs.declared.facts.BackFact.{BackFact}
use Rattle.cd_rules.specs.declared.facts.DeadFact.{DeadFact}
use Rattle.cd_rules.specs.declared.facts.SureFact.{SureFact}
use Rattle.cd_context.specs.declared.facts.Fact.{Fact}
use Rattle.cd_context.specs.declared.facts.Fact.TheVariants.{Start, Link, Back, Sure, Dead}
use Rattle.cd_context.specs.declared.facts.LinkFact.{LinkFact}
use Rattle.cd_context.specs.State.{State}

-- whether the keys are the same
abbrev pub same_key : List ℕ → List ℕ → Bool
same_key = pointwise nat_eq

-- whether the context has the fact; every context has `Start`
abbrev pub has_fact : State → Fact → Bool
has_fact s Start = true
has_fact s (Link k r) = list_any (λ (f : LinkFact). same_key k f.key && r == f.role) s.links
has_fact s (Back r k a) = list_any (λ (f : BackFact). r == f.role
    && (same_key k f.key && a == f.atom)) s.backs
has_fact s (Sure r k a) = list_any (λ (f : SureFact). r == f.role
    && (same_key k f.key && a == f.atom)) s.sures
has_fact s (Dead r k) = list_any (λ (f : DeadFact). r == f.role && same_key k f.key) s.deads

-- the stored clauses, live or dead, with the links, backs, sures and deads; a count that would pass the last u64 stands at it
abbrev pub count : State → ℕ
count s = min (length s.clauses + (length s.links + (length s.backs
    + (length s.sures + length s.deads)))) last
