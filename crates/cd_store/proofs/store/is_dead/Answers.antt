use Rattle.std.proofs.Common.{◌≡◌, ◌==◌, ℕ, List, [], get_or, refl, sym, ◌∙◌, subst, eqb-true, eq-eqb}
use Rattle.cd_base.specs.Lists.{OneOf}
use Rattle.cd_clause.specs.Covering.{Covers}
use Rattle.cd_base.proofs.Members.{any_by_member, any_member}
use Rattle.cd_clause.specs.declared.elem.Elem.{Elem}
use Rattle.cd_store.proofs.Helpers.{get_same}
use Rattle.cd_store.proofs.store.is_dead.Goals as goal

pub returns-then-dead-le-FEW : goal.returns-then-dead-le-FEW
returns-then-dead-le-FEW c =
    let dead = c.args.dead.now in let n : ℕ = c.args.number in (
      λ t. (let k = any_member (λ (y : ℕ). y == n) dead (sym c.contains.ensures.value ∙ t) in subst (λ (z : ℕ). OneOf z dead) (eqb-true k.0 n k.2) k.1),
      λ m. c.contains.ensures.value ∙ any_by_member (λ (y : ℕ). y == n) dead n m (eq-eqb n n refl),
    )

pub returns : goal.returns
returns c =
    let cs = c.args.clauses.now in
    let same : c.index-clauses-number.result ≡ get_or cs c.args.number [] = c.index-clauses-number.is ∙ get_same cs c.args.number c.index-clauses-number.result [] c.requires.range in (
      λ t. (c.requires.dead c.args.number).1 (c.requires.live, subst (λ (d : List Elem). Covers c.args.clause.now d) same (c.covers.ensures.0 t)),
      λ m. c.covers.ensures.1 (subst (λ (d : List Elem). Covers c.args.clause.now d) (sym same) ((c.requires.dead c.args.number).0 m).1),
    )
