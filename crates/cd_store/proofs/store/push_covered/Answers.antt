use Rattle.std.proofs.Common.{◌∷◌, ℕ, List, [], get_or, inl, inr, sym, subst, arith}
use Rattle.std.proofs.lemmas.Bool.{both_ways}
use Rattle.cd_base.specs.Lists.{OneOf}
use Rattle.cd_base.proofs.Members.{member_cases}
use Rattle.cd_store.specs.Sift.{IsCovered}
use Rattle.cd_store.proofs.Gaining.{gain_goes, gain_list, gain_none}
use Rattle.cd_store.proofs.Helpers.{IsCoveredAt, covered_place}
use Rattle.cd_store.proofs.store.push_covered.Goals.{then-is_covered+in_ok-push, else-is_covered}
use Rattle.cd_store.proofs.store.push_covered.Goals as goal

pub numbers-preserved : goal.numbers-preserved
numbers-preserved c =
    let P : ℕ → Type 0 = IsCovered c.args.clauses.now c.args.live.now c.args.clause.now in
    let Q : ℕ → ℕ → Type 0 = IsCoveredAt c.args.numbers.now c.args.clauses.now c.args.live.now c.args.clause.now in
    let old = c.args.found.now.items in
    let mid = c.numbers.found.items in
    let x : ℕ = get_or c.args.numbers.now c.numbers.i 0 in
    elim c.if-is_covered.branch [
      | then-is_covered+in_ok-push w ↦ rw w.found-is record {
        every = gain_goes Q c.numbers.i old mid w.push.new.self.items c.numbers.invariant.every (gain_list (Q c.numbers.i) mid w.push.new.self.items (x ∷ []) w.in_ok-push.ensures.items (λ n q. inl q.0));
        only = λ n m. elim (member_cases n mid (x ∷ []) (subst (λ (l : List ℕ). OneOf n l) w.in_ok-push.ensures.items m)) [
          | inl h ↦ c.numbers.invariant.only n h
          | inr h ↦ elim h [ inl e ↦ inr (subst P (sym e) (c.is_covered.ensures.0 w.if-is_covered.true)) | inr z ↦ absurd z ]
        ];
      }
      | else-is_covered w ↦ rw w.found-is record {
        every = gain_goes Q c.numbers.i old mid mid c.numbers.invariant.every (gain_none (Q c.numbers.i) mid (λ n q. both_ways c.is_covered.result w.if-is_covered.false (c.is_covered.ensures.1 (subst P q.0 q.1))));
        only = c.numbers.invariant.only;
      }
    ]

pub returns-clause-every : goal.returns-clause-every
returns-clause-every c = λ n q. c.numbers.invariant.every n (elim q [
  | inl m ↦ inl m
  | inr h ↦ (let p = covered_place c.args.numbers.now c.args.clauses.now c.args.live.now c.args.clause.now n h in inr (p.0, omega (arith, p.1, c.numbers-test.false), p.2))
])
