use Rattle.std.proofs.Common.{◌∷◌, ℕ, List, [], get_or, sym, ◌∙◌, subst, inl, inr, arith}
use Rattle.std.proofs.lemmas.Bool.{both_ways}
use Rattle.cd_base.specs.Lists.{OneOf}
use Rattle.cd_base.proofs.Members.{member_cases}
use Rattle.cd_store.proofs.Gaining.{gain_goes, gain_list, gain_none}
use Rattle.cd_context.specs.Waits.{numbers}
use Rattle.cd_context.proofs.Besides.{OfTakenUp, all_taken_up}
use Rattle.cd_context.proofs.beside.taken_up.Goals.{then-is_taken_up+in_ok-push, else-is_taken_up}
use Rattle.cd_context.proofs.beside.taken_up.Goals as goal

pub candidates-preserved : goal.candidates-preserved
candidates-preserved c =
    let live = c.args.store.now.live in
    let waiting = numbers c.args.waiting.now in
    let Q : ℕ → ℕ → Type 0 = OfTakenUp c.args.candidates.now live waiting c.args.premise in
    let i = c.candidates.i in
    let x : ℕ = get_or c.args.candidates.now i 0 in
    let mid = c.candidates.others.items in
    elim c.if-is_taken_up.branch [
      | then-is_taken_up+in_ok-push w ↦ rw w.others-is record {
        live = λ k m. elim (member_cases k mid (x ∷ []) (subst (λ (l : List ℕ). OneOf k l) w.in_ok-push.ensures.items m)) [
          | inl h ↦ c.candidates.invariant.live k h
          | inr h ↦ elim h [ inl e ↦ subst (λ (z : ℕ). OneOf z live) (sym e) (c.is_taken_up.ensures.live w.if-is_taken_up.true) | inr z ↦ absurd z ]
        ];
        every = gain_goes Q i [] mid w.push.new.self.items c.candidates.invariant.every (gain_list (Q i) mid w.push.new.self.items (x ∷ []) w.in_ok-push.ensures.items (λ k q. inl q.0));
      }
      | else-is_taken_up w ↦ rw w.others-is record {
        live = c.candidates.invariant.live;
        every = gain_goes Q i [] mid mid c.candidates.invariant.every (gain_none (Q i) mid (λ k q.
            both_ways c.is_taken_up.result w.if-is_taken_up.false
            (c.is_taken_up.ensures.every (subst (λ (z : ℕ). OneOf z live) q.0 q.1) (subst (λ (z : ℕ). OneOf z waiting → ⊥) q.0 q.2) (λ e. q.3 (q.0 ∙ e)))));
      }
    ]

pub returns-clause-every : goal.returns-clause-every
returns-clause-every c = λ k m l w d.
    let q = all_taken_up c.args.candidates.now c.args.store.now.live (numbers c.args.waiting.now) c.args.premise k (m, l, w, d) in
    c.candidates.invariant.every k (inr (q.0, omega (arith, q.1, c.candidates-test.false), q.2))
