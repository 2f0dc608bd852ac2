use Rattle.std.proofs.Common.{◌∷◌, subst}
use Rattle.std.proofs.lemmas.Result.{IfOk-weaker}
use Rattle.cd_base.specs.Lists.{SameSet}
use Rattle.cd_base.specs.Keys.{negated, key_with}
use Rattle.cd_clause.specs.declared.elem.Elem.TheVariants.{Plain, Exist}
use Rattle.cd_rules.proofs.SameSets.{same_set_trans, same_set_cons}
use Rattle.cd_rules.proofs.back.concluded.Goals as goal

pub returns : goal.returns
returns c = IfOk-weaker c.with-4.result _ _ (λ clause h.
    same_set_trans clause (Plain c.args.other ∷ c.in_ok-with.field-0) (Plain c.args.other ∷ Exist c.args.role (key_with (negated c.args.atom) c.args.key.now) ∷ c.args.others.now) h
    (same_set_cons (Plain c.args.other) c.in_ok-with.field-0 (Exist c.args.role (key_with (negated c.args.atom) c.args.key.now) ∷ c.args.others.now)
    (subst (λ k. SameSet c.in_ok-with.field-0 (Exist c.args.role k ∷ c.args.others.now)) c.in_ok-narrowed.ensures.key c.in_ok-with.ensures)))
    c.with-4.ensures
