use Rattle.std.proofs.Common.{ℕ, List, inl, inr, sym, subst, arith}
use Rattle.cd_base.specs.Lists.{OneOf}
use Rattle.cd_base.specs.Keys.{code}
use Rattle.cd_store.specs.Filing.{listed, chosen_by}
use Rattle.cd_store.specs.Sift.{IsCovered}
use Rattle.cd_store.proofs.Gaining.{gain_goes, gain_ends, gain_less}
use Rattle.cd_store.proofs.Helpers.{ChosenAt, chosen_place}
use Rattle.cd_store.proofs.store.push_smaller.Goals as goal

pub lits-preserved : goal.lits-preserved
lits-preserved c =
    let P : ℕ → Type 0 = IsCovered c.args.clauses.now c.args.live.now c.args.clause.now in
    let Q : ℕ → ℕ → Type 0 = ChosenAt c.args.filing.now c.args.role c.args.lits.now P in record {
      every = gain_goes Q c.lits.i c.args.found.now.items c.lits.found.items c.push_covered.new.found.items c.lits.invariant.every
          (gain_less (Q c.lits.i) _ c.lits.found.items c.push_covered.new.found.items (λ m q. (subst (λ (l : List ℕ). OneOf m l) (sym c.chosen_by.ensures) (subst (λ w. OneOf m (listed c.args.filing.now (chosen_by c.args.role (code w)))) (sym c.index-lits-i.is) (q.0 c.index-lits-i.result)), q.1)) c.in_ok-push_covered.ensures.every);
      only = λ n m. elim (c.in_ok-push_covered.ensures.only n m) [ inl h ↦ c.lits.invariant.only n h | inr s ↦ inr s ];
    }

pub returns-clause-every : goal.returns-clause-every
returns-clause-every c =
    let P : ℕ → Type 0 = IsCovered c.args.clauses.now c.args.live.now c.args.clause.now in
    gain_ends (ChosenAt c.args.filing.now c.args.role c.args.lits.now P) c.lits.i _ c.args.found.now.items c.lits.found.items _ c.lits.invariant.every (omega (arith, c.lits-test.false))
    (λ n q. chosen_place c.args.filing.now c.args.role c.args.lits.now P n q.0 q.1)

pub returns-clause-only : goal.returns-clause-only
returns-clause-only c = c.lits.invariant.only
