use Rattle.std.proofs.Common.{List, ◌∷◌, ◌++◌, map}
use Rattle.std.proofs.lemmas.Result.{IfOk-weaker}
use Rattle.cd_base.specs.Lists.{SameSet}
use Rattle.cd_clause.specs.declared.elem.Elem.{Elem}
use Rattle.cd_clause.specs.declared.elem.Elem.TheVariants.{Plain}
use Rattle.cd_rules.proofs.Unions.{same_right, with_one}
use Rattle.cd_rules.proofs.Pushed.{same_trans}
use Rattle.cd_rules.proofs.con.with_atoms.Goals as goal

pub returns-then-atoms-eq1 : goal.returns-then-atoms-eq1
returns-then-atoms-eq1 c =
    let base : List Elem = c.args.base.now in
    IfOk-weaker c.with.result (λ w. SameSet w (Plain c.index-atoms-0.result ∷ base)) (λ w. SameSet w (base ++ map Plain c.args.atoms.now))
    (with_one base c.args.atoms.now c.index-atoms-0.result c.if-atoms-eq1.true c.index-atoms-0.is) c.with.ensures

pub returns : goal.returns
returns c =
    let base : List Elem = c.args.base.now in
    IfOk-weaker c.join.result (λ w. SameSet w (base ++ c.in_ok-right.right)) (λ w. SameSet w (base ++ map Plain c.args.atoms.now))
    (λ w s. same_trans w _ _ s (same_right c.in_ok-right.right (map Plain c.args.atoms.now) base c.in_ok-right.ensures)) c.join.ensures
