use Rattle.std.proofs.lemmas.Result.{on_ok_weaker}
use Rattle.std.proofs.Common.{ℕ, inl, inr, subst}
use Rattle.cd_base.specs.Lists.{OneOf}
use Rattle.cd_store.specs.Filing.{existentials, listed}
use Rattle.cd_store.proofs.filing.Filing.file_existential.Goals as goal

pub returns-clause-among : goal.returns-clause-among
returns-clause-among c = on_ok_weaker c.file_under-2.result (λ h. c.file_under-2.ensures.kept existentials c.args.number c.in_ok-file_under.ensures.filed) c.file_under-2.ensures.filed

pub returns-clause-under : goal.returns-clause-under
returns-clause-under c = on_ok_weaker c.file_under-2.result (λ h. elim c.list_under_key-list.ensures [
  | inl e ↦ inl (subst (λ (q : ℕ). OneOf c.args.number (listed c.file_under-2.new.self q)) e h)
  | inr w ↦ inr (w.0, w.1, subst (λ (q : ℕ). OneOf c.args.number (listed c.file_under-2.new.self q)) w.2 h)
]) c.file_under-2.ensures.filed

pub returns-clause-kept : goal.returns-clause-kept
returns-clause-kept c = λ q n h. c.file_under-2.ensures.kept q n (c.in_ok-file_under.ensures.kept q n h)
