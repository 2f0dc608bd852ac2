use Rattle.std.proofs.Common.{ℕ, ◌∷◌, [], inl, inr, sym, subst}
use Rattle.cd_base.specs.Lists.{OneOf}
use Rattle.cd_base.proofs.Members.{member_cases, member_left, member_right}
use Rattle.cd_context.proofs.Singles.{alone_if_only, one_if_only}
use Rattle.cd_context.proofs.live.push_single.Goals as goal

pub returns-in_ok-push-in-Some : goal.returns-in_ok-push-in-Some
returns-in_ok-push-in-Some c = λ b.
    let old = c.args.atoms.now.items in
    let a : ℕ = c.in-Some.atom in
    let new = c.in_ok-push-in-Some.ensures.items in
    let one = one_if_only a b c.elems.result.now c.args.clause.now c.elems.ensures.elems c.elems.ensures.ascends c.in-Some.ensures in (
      λ m. elim (member_cases b old (a ∷ []) (subst (OneOf b) new m)) [ inl k ↦ inl k | inr k ↦ elim k [ inl e ↦ inr (one.1 e) | inr z ↦ absurd z ] ],
      λ q. subst (OneOf b) (sym new) (elim q [ inl k ↦ member_left b old (a ∷ []) k | inr s ↦ member_right b old (a ∷ []) (inl (one.0 s)) ]),
    )

pub returns-in-None : goal.returns-in-None
returns-in-None c = λ b. (
  λ m. inl m,
  λ q. elim q [ inl m ↦ m | inr s ↦ absurd (c.in-None.ensures b (alone_if_only b c.elems.result.now c.args.clause.now c.elems.ensures.elems c.elems.ensures.ascends s)) ],
)
