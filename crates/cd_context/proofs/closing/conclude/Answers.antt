use Rattle.std.proofs.Common.{◌≡◌, ◌<◌, ◌∷◌, ℕ, List, length, refl, sym, subst, inl, inr}
use Rattle.cd_base.specs.Lists.{OneOf}
use Rattle.cd_clause.specs.declared.elem.Elem.{Elem}
use Rattle.cd_clause.specs.Derivations.{Redundant}
use Rattle.cd_rules.specs.Uses.{FromClause}
use Rattle.cd_rules.specs.Facts.{ToldFacts}
use Rattle.cd_context.specs.FactLists.{told_in}
use Rattle.cd_context.proofs.Adds.{concluded_of}
use Rattle.cd_context.proofs.Appended.{appended_only, appended_every}
use Rattle.cd_context.proofs.closing.conclude.Goals as goal

pub beside-requires : goal.beside-requires
beside-requires c = c.clauses-clauses.ensures.store.in_range c.args.number c.requires

pub on_clause-requires-clause-live : goal.on_clause-requires-clause-live
on_clause-requires-clause-live c = λ k m.
    subst (λ (cs : List (List Elem)). k < length cs) (sym c.clauses-clauses.ensures.value)
    (c.clauses-clauses.ensures.store.in_range k (c.in_ok-others.ensures.live k (subst (λ (l : List ℕ). OneOf k l) c.as_slice.ensures.value m)))

pub on_clause-requires-clause-premise : goal.on_clause-requires-clause-premise
on_clause-requires-clause-premise c = subst (λ (cs : List (List Elem)). c.args.number < length cs) (sym c.clauses-clauses.ensures.value) (c.clauses-clauses.ensures.store.in_range c.args.number c.requires)

pub returns-clause-only : goal.returns-clause-only
returns-clause-only c = λ d m.
    let told : ToldFacts = told_in c.args.facts.now in
    let lent : ToldFacts = record { backs = c.backs.result.now; sures = c.sures.result.now; deads = c.deads.result.now } in
    let same : lent ≡ told = λ i. record { backs = c.backs.ensures i; sures = c.sures.ensures i; deads = c.deads.ensures i } in
    let at_lent : FromClause c.args.index.now.normal c.args.key.now c.clauses-clauses.result.now c.as_slice.result.now c.args.number lent d
    = appended_only _ _ _ _ c.new-conclusions.ensures.items c.on_clause.ensures d m in
    let at_told : FromClause c.args.index.now.normal c.args.key.now c.clauses-clauses.result.now c.as_slice.result.now c.args.number told d
    = subst (λ w. FromClause c.args.index.now.normal c.args.key.now c.clauses-clauses.result.now c.as_slice.result.now c.args.number w d) same at_lent in
    let q : FromClause c.args.index.now.normal c.args.key.now c.args.store.now.clauses c.as_slice.result.now c.args.number told d
    = subst (λ (cs : List (List Elem)). FromClause c.args.index.now.normal c.args.key.now cs c.as_slice.result.now c.args.number told d) c.clauses-clauses.ensures.value at_told in
    concluded_of c.args.index.now.normal c.args.key.now told c.args.store.now.clauses (c.args.number ∷ c.as_slice.result.now) d
    (λ k h. elim h [
      | inl e ↦ subst (λ (j : ℕ). j < length c.args.store.now.clauses) (sym e) (c.clauses-clauses.ensures.store.in_range c.args.number c.requires)
      | inr i ↦ c.clauses-clauses.ensures.store.in_range k (c.in_ok-others.ensures.live k (subst (λ (l : List ℕ). OneOf k l) c.as_slice.ensures.value i))
    ]) q.0

pub returns-clause-every : goal.returns-clause-every
returns-clause-every c = λ taken up d q.
    let n = c.args.index.now.normal in
    let told : ToldFacts = told_in c.args.facts.now in
    let lent : ToldFacts = record { backs = c.backs.result.now; sures = c.sures.result.now; deads = c.deads.result.now } in
    let same : lent ≡ told = λ i. record { backs = c.backs.ensures i; sures = c.sures.ensures i; deads = c.deads.ensures i } in
    let every : (e : List Elem) → FromClause n c.args.key.now c.clauses-clauses.result.now c.as_slice.result.now c.args.number lent e → Redundant c.on_clause.new.out.items e
    = appended_every _ _ _ _ c.new-conclusions.ensures.items c.in_ok-on_clause.ensures refl in
    every d (subst (λ w. FromClause n c.args.key.now c.clauses-clauses.result.now c.as_slice.result.now c.args.number w d) (sym same)
    (subst (λ (cs : List (List Elem)). FromClause n c.args.key.now cs c.as_slice.result.now c.args.number told d) (sym c.clauses-clauses.ensures.value)
    (subst (λ (l : List ℕ). FromClause n c.args.key.now c.args.store.now.clauses l c.args.number told d) (sym c.as_slice.ensures.value)
    (c.in_ok-others.ensures.enough taken up c.args.key.now told d q))))
