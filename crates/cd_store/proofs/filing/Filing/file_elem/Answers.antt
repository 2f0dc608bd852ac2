use Rattle.std.proofs.Common.{ℕ, cond, sym, subst}
use Rattle.std.proofs.lemmas.Result.{on_ok_weaker}
use Rattle.std.proofs.lemmas.Bool.{both_ways}
use Rattle.cd_base.specs.Lists.{OneOf}
use Rattle.cd_clause.specs.declared.elem.Elem.{Elem}
use Rattle.cd_clause.specs.declared.elem.Elem.TheVariants.{Exist}
use Rattle.cd_store.specs.Filing.{ends_in, existentials, goes_on_from, listed, IsUnder, IsUnderLast}
use Rattle.cd_store.proofs.Leasts.{under_kept}
use Rattle.cd_store.proofs.filing.Filing.file_elem.Goals as goal

pub returns-in_err-file_existential-in-Exist-clause-kept : goal.returns-in_err-file_existential-in-Exist-clause-kept
returns-in_err-file_existential-in-Exist-clause-kept c = λ q n h. c.file_existential.ensures.kept q n (c.in_ok-file_under.ensures.kept q n h)

pub returns-else-is_last-clause-under : goal.returns-else-is_last-clause-under
returns-else-is_last-clause-under c =
    let g = c.file_existential.new.self in let n : ℕ = c.args.number in
    let own : OneOf n (listed g (cond c.args.is_last (ends_in c.args.elem.now) (goes_on_from c.args.elem.now)))
    = c.file_existential.ensures.kept _ n (subst (λ (q : ℕ). OneOf n (listed c.file_under.new.self q)) c.list_of.ensures c.in_ok-file_under.ensures.filed) in
    subst (λ (e : Elem). IsUnder g n (cond c.args.is_last (ends_in c.args.elem.now) (goes_on_from c.args.elem.now)) e) (sym c.in-Exist.is)
    (own, c.in_ok-file_existential-in-Exist.ensures.among, c.in_ok-file_existential-in-Exist.ensures.under)

pub returns-else-is_last-clause-last : goal.returns-else-is_last-clause-last
returns-else-is_last-clause-last c = λ t. absurd (both_ways c.args.is_last c.if-is_last.false t)

pub returns-else-is_last-clause-kept : goal.returns-else-is_last-clause-kept
returns-else-is_last-clause-kept c = λ q n h. c.file_existential.ensures.kept q n (c.in_ok-file_under.ensures.kept q n h)

pub returns-then-is_last-clause-under : goal.returns-then-is_last-clause-under
returns-then-is_last-clause-under c =
    let f = c.file_existential.new.self in let g = c.file_literals.new.self in let n : ℕ = c.args.number in
    let key : ℕ = cond c.args.is_last (ends_in c.args.elem.now) (goes_on_from c.args.elem.now) in
    let own : OneOf n (listed f key)
    = c.file_existential.ensures.kept key n (subst (λ (q : ℕ). OneOf n (listed c.file_under.new.self q)) c.list_of.ensures c.in_ok-file_under.ensures.filed) in
    on_ok_weaker c.file_literals.result (λ h. subst (λ (e : Elem). IsUnder g n key e) (sym c.in-Exist.is)
    (under_kept f g n key (Exist c.in-Exist.role c.in-Exist.key) c.file_literals.ensures.kept (own, c.in_ok-file_existential-in-Exist.ensures.among, c.in_ok-file_existential-in-Exist.ensures.under)))
    c.file_literals.ensures.filed

pub returns-then-is_last-clause-last : goal.returns-then-is_last-clause-last
returns-then-is_last-clause-last c =
    on_ok_weaker c.file_literals.result (λ h t. subst (λ (e : Elem). IsUnderLast c.file_literals.new.self c.args.number e) (sym c.in-Exist.is)
    (h, c.file_literals.ensures.kept existentials c.args.number c.in_ok-file_existential-in-Exist.ensures.among))
    c.file_literals.ensures.filed

pub returns-then-is_last-clause-kept : goal.returns-then-is_last-clause-kept
returns-then-is_last-clause-kept c = λ q n h. c.file_literals.ensures.kept q n (c.file_existential.ensures.kept q n (c.in_ok-file_under.ensures.kept q n h))
