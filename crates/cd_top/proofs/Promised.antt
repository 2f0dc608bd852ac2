-- A run that ends for want of memory keeps what each command promises.
use Rattle.std.proofs.Common.{◌≡◌, ℕ, Bool, List, inr, sym, ap, ◌∙◌, arith}
use Rattle.std.specs.Prelude.{Option}
use Rattle.cd_top.specs.Promises.{IsClassifiedBy, IsTriedBy}
use Rattle.cd_top.specs.Status.{code_of}
use Rattle.cd_top.specs.declared.status.Status.{Status}
use Rattle.cd_top.specs.declared.status.Status.TheVariants.{Memory}
use Rattle.cd_top.proofs.Asked.{if_some}

pub classified_memory : (most max_contexts max_facts : ℕ) (left : Option (List ℕ)) (told : Bool) (R W : Type 0) (old new : Option (List ℕ)) (status : Status) → status ≡ Memory
    → IsClassifiedBy most max_contexts max_facts left told R W old new status
classified_memory most mc mf left told R W old new status is = record {
  ended = λ e. let n : 6 ≡ 0 = sym (ap code_of is) ∙ ap code_of e in absurd (omega (arith, n));
  limit = if_some left _ (λ input kind number e. let n : 6 ≡ 3 = sym (ap code_of is) ∙ ap code_of e in absurd (omega (arith, n)));
  complete = if_some left _ (λ input answerable no_read no_write. inr is);
  refused_where = if_some left _ (λ input refusal refused no_read. inr is);
  partly = if_some left _ (λ input e. let n : 6 ≡ 5 = sym (ap code_of is) ∙ ap code_of e in absurd (omega (arith, n)));
}

pub tried_memory : (levels max_contexts max_facts : ℕ) (W : Type 0) (old new : Option (List ℕ)) (status : Status) → status ≡ Memory → IsTriedBy levels max_contexts max_facts W old new status
tried_memory levels mc mf W old new status is = record {
  tried = λ e. let n : 6 ≡ 0 = sym (ap code_of is) ∙ ap code_of e in absurd (omega (arith, n));
  limit = λ kind number e. let n : 6 ≡ 3 = sym (ap code_of is) ∙ ap code_of e in absurd (omega (arith, n));
  complete = λ answerable no_write. inr is;
  partly = λ e. let n : 6 ≡ 5 = sym (ap code_of is) ∙ ap code_of e in absurd (omega (arith, n));
  unrefused = λ refusal e. let n : 6 ≡ 1 = sym (ap code_of is) ∙ ap code_of e in absurd (omega (arith, n));
  read_fault = λ e. let n : 6 ≡ 4 = sym (ap code_of is) ∙ ap code_of e in absurd (omega (arith, n));
}
