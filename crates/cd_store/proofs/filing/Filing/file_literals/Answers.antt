use Rattle.std.proofs.Common.{map, sym, subst, inl, inr}
use Rattle.cd_base.specs.Keys.{code}
use Rattle.cd_base.specs.Lists.{OneOf}
use Rattle.cd_clause.proofs.Walks.{opened, closed}
use Rattle.cd_store.specs.Filing.{listed, with_literal}
use Rattle.cd_store.proofs.filing.Filing.file_literals.Goals as goal

pub lits-init : goal.lits-init
lits-init c = record { kept = λ q n h. h; filed = λ q m. inl (rw c.lits-rest.ensures.codes m) }

pub returns-in_err-file_under-clause-kept : goal.returns-in_err-file_under-clause-kept
returns-in_err-file_under-clause-kept c = λ q n h. c.in_err-file_under.ensures.kept q n (c.lits.invariant.kept q n h)

pub lits-preserved : goal.lits-preserved
lits-preserved c = record {
  kept = λ q n h. c.in_ok-file_under.ensures.kept q n (c.lits.invariant.kept q n h);
  filed = λ q m. elim (c.lits.invariant.filed q m) [
    | inl k ↦ elim (subst (λ r. OneOf q (map code r)) (opened c.lits.rest.now c.lit-item.result c.in-len1-up.len_at_least c.lit-item.is) k) [
      | inl e ↦ inr (subst (λ z. OneOf c.args.number (listed c.file_under.new.self (with_literal c.args.role z))) (sym e)
          (subst (λ z. OneOf c.args.number (listed c.file_under.new.self z)) c.list_of_literal.ensures c.in_ok-file_under.ensures.filed))
      | inr n ↦ inl n
    ]
    | inr h ↦ inr (c.in_ok-file_under.ensures.kept (with_literal c.args.role q) c.args.number h)
  ];
}

pub returns-clause-filed : goal.returns-clause-filed
returns-clause-filed c = λ q m. elim (c.lits.invariant.filed q m) [
  | inl k ↦ absurd (subst (λ r. OneOf q (map code r)) (closed c.lits.rest.now c.in_default.len_below) k)
  | inr h ↦ h
]
