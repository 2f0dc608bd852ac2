use Rattle.std.proofs.Common.{◌<◌, length, subst, inl, inr, arith}
use Rattle.cd_clause.specs.declared.elem.Elem.{Elem}
use Rattle.cd_context.proofs.OpenNames.{few_alone, more_others}
use Rattle.cd_context.proofs.open.push_open.Goals as goal

pub returns-then-elems-lt2 : goal.returns-then-elems-lt2
returns-then-elems-lt2 c = λ b. (
  λ m. inl m,
  λ q. elim q [
    | inl m ↦ m
    | inr o ↦ absurd (few_alone c.args.normal.now b c.args.clause.now (subst (λ w. length {A = Elem} w < 2) c.elems.ensures.elems c.if-elems-lt2.true) o)
  ],
)

pub returns : goal.returns
returns c = λ b.
    let l : length {A = Elem} c.args.clause.now < 2 → ⊥ = subst (λ w. length {A = Elem} w < 2 → ⊥) c.elems.ensures.elems (λ h. omega (arith, h, c.if-elems-lt2.false)) in
    let h = c.in_ok-push_eligible.ensures b in (
      λ m. elim (h.0 m) [ inl k ↦ inl k | inr e ↦ inr (more_others c.args.normal.now b c.args.clause.now c.elems.ensures.ascends l e) ],
      λ q. h.1 (elim q [ inl k ↦ inl k | inr o ↦ inr o.0 ]),
    )
