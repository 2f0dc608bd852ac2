use Rattle.std.proofs.Common.{ℕ, [], length, get_or, refl, subst, arith}
use Rattle.std.proofs.lemmas.Bool.{both_ways}
use Rattle.cd_base.specs.Lists.{OneOf}
use Rattle.cd_rules.proofs.Gathered.{gather_all, gather_passes, gather_pushes}
use Rattle.cd_context.proofs.FactRules.{OfLive, all_live}
use Rattle.cd_context.proofs.fact_rules.live_among.Goals.{then-is_live+in_ok-push, else-is_live}
use Rattle.cd_context.proofs.fact_rules.live_among.Goals as goal

pub candidates-preserved : goal.candidates-preserved
candidates-preserved c =
    let Q : ℕ → ℕ → Type 0 = OfLive c.args.candidates.now c.args.store.now.live in
    let x : ℕ = get_or c.args.candidates.now c.candidates.i 0 in
    elim c.if-is_live.branch [
      | then-is_live+in_ok-push w ↦ rw w.numbers-is
          (gather_pushes Q c.candidates.i [] c.candidates.numbers.items c.candidates.invariant w.push.new.self.items x w.in_ok-push.ensures.items
          (refl, c.is_live.ensures.value.0 w.if-is_live.true) (λ b q. q.0))
      | else-is_live w ↦ rw w.numbers-is
          (gather_passes Q c.candidates.i [] c.candidates.numbers.items c.candidates.invariant
          (λ b q. both_ways c.is_live.result w.if-is_live.false (c.is_live.ensures.value.1 (subst (λ (z : ℕ). OneOf z c.args.store.now.live) q.0 q.1))))
    ]

pub returns : goal.returns
returns c = gather_all (OfLive c.args.candidates.now c.args.store.now.live) c.candidates.i (length c.args.candidates.now) c.candidates.numbers.items
    (λ (k : ℕ). OneOf k c.args.candidates.now × OneOf k c.args.store.now.live)
    c.candidates.invariant (omega (arith, c.candidates-test.false)) (all_live c.args.candidates.now c.args.store.now.live)
