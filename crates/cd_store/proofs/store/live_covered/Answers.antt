use Rattle.std.proofs.Common.{◌-◌, ℕ, List, length, inl, inr, subst}
use Rattle.cd_base.specs.Lists.{OneOf}
use Rattle.cd_clause.specs.declared.elem.Elem.{Elem}
use Rattle.cd_store.proofs.Leasts.{member_got, weaker_found}
use Rattle.cd_store.proofs.store.live_covered.Goals.{in-None+in_ok-push_covered-in-None, in-Some+in_ok-push_weaker-in-Some}
use Rattle.cd_store.proofs.store.live_covered.Goals as goal

pub returns : goal.returns
returns c = λ n.
    let clause = c.args.clause.now in
    let none : OneOf n c.new-dead.result.items → ⊥ = λ m. subst (λ (l : List ℕ). OneOf n l) c.new-dead.ensures.items m in
    elim c.match-last.branch [
      | in-None+in_ok-push_covered-in-None w ↦ rw w.dead-is (
        λ m. elim (w.in_ok-push_covered-in-None.ensures.only n m) [ inl o ↦ absurd (none o) | inr s ↦ s ],
        λ s. w.in_ok-push_covered-in-None.ensures.every n (inr (s.0, s)),
      )
      | in-Some+in_ok-push_weaker-in-Some w ↦
          let last = w.in-Some.last.now in
          let es = c.elems.result.now in
          let has : OneOf last clause = subst (λ (l : List Elem). OneOf last l) c.elems.ensures.elems (member_got es (length es - 1) last w.in-Some.ensures.value) in
          rw w.dead-is (
            λ m. elim (w.in_ok-push_weaker-in-Some.ensures.only n m) [ inl o ↦ absurd (none o) | inr s ↦ s ],
            λ s. w.in_ok-push_weaker-in-Some.ensures.every n (inr (weaker_found c.args.filing.now c.args.clauses.now c.args.live.now clause last n c.requires.store c.requires.filed has s, s)),
          )
    ]
