use Rattle.std.proofs.Common.{◌∷◌, ◌++◌, subst}
use Rattle.std.proofs.lemmas.Result.{IfOk-weaker}
use Rattle.cd_base.specs.Lists.{SameSet}
use Rattle.cd_clause.specs.declared.elem.Elem.TheVariants.{Exist}
use Rattle.cd_rules.proofs.SameSets.{same_set_trans, same_set_cons}
use Rattle.cd_rules.proofs.all.concluded.Goals as goal

pub returns : goal.returns
returns c = IfOk-weaker c.with-3.result _ _ (λ clause h.
    subst (λ k. SameSet clause (Exist c.args.role k ∷ (c.args.left.now ++ c.args.right.now))) c.in_ok-narrowed.ensures.key
    (same_set_trans clause (Exist c.args.role c.in_ok-narrowed.narrowed ∷ c.in_ok-join.field-0) (Exist c.args.role c.in_ok-narrowed.narrowed ∷ (c.args.left.now ++ c.args.right.now)) h
    (same_set_cons (Exist c.args.role c.in_ok-narrowed.narrowed) c.in_ok-join.field-0 (c.args.left.now ++ c.args.right.now) c.in_ok-join.ensures)))
    c.with-3.ensures
