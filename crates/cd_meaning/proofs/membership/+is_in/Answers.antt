use Rattle.std.proofs.Common.{◌≡◌, ℕ, Bool, List, rules, ap, sym, ◌∙◌}
use Rattle.std.specs.List.{list_all, list_any}
use Rattle.cd_meaning.specs.declared.expression.Expr.{Expr}
use Rattle.cd_meaning.specs.declared.expression.Expr.TheVariants.{Meet, Join}
use Rattle.cd_meaning.specs.declared.interpretation.Interpretation.{Interpretation}
use Rattle.cd_meaning.specs.Membership.{member}
use Rattle.cd_meaning.specs.MembershipTable.{member-Meet, member-Join}
use Rattle.cd_meaning.proofs.membership.+is_in.Goals as goal

module _ (i : Interpretation) (x : ℕ) (e : Expr) (parts : List Expr) (r : Bool) where
  at_Meet : e ≡ Meet parts → r ≡ list_all (λ part. member i part x) parts → r ≡ member i e x
  at_Meet is h = h ∙ sym (ap (λ (d : Expr). member i d x) is ∙ member-Meet i x parts)

  at_Join : e ≡ Join parts → r ≡ list_any (λ part. member i part x) parts → r ≡ member i e x
  at_Join is h = h ∙ sym (ap (λ (d : Expr). member i d x) is ∙ member-Join i x parts)

pub is_in-returns-in-Meet : goal.is_in-returns-in-Meet
is_in-returns-in-Meet t c = at_Meet c.args.i.now c.args.element c.args.e.now c.in-Meet.parts c.is_in_each.result (search rules) (search rules)

pub is_in-returns-in-Join : goal.is_in-returns-in-Join
is_in-returns-in-Join t c = at_Join c.args.i.now c.args.element c.args.e.now c.in-Join.parts c.is_in_one.result (search rules) (search rules)
