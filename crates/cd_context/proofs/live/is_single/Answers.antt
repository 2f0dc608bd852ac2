use Rattle.std.proofs.Common.{◌≡◌, ◌↔◌, true, [], ◌∷◌, List, subst, sym, ◌∙◌, ap}
use Rattle.cd_base.specs.Lists.{SameSet}
use Rattle.cd_clause.specs.declared.elem.Elem.{Elem}
use Rattle.cd_clause.specs.declared.elem.Elem.TheVariants.{Plain}
use Rattle.cd_context.specs.UnitClauses.{is_only}
use Rattle.cd_context.proofs.LiveClauses.{only_single}
use Rattle.cd_context.proofs.live.is_single.Goals as goal

pub returns : goal.returns
returns c =
    subst (λ b. (b ≡ true) ↔ SameSet c.args.clause.now (Plain c.args.atom ∷ [])) (sym (c.is_only.ensures ∙ ap (λ (e : List Elem). is_only c.args.atom e) c.elems.ensures.elems))
    (only_single c.args.atom c.args.clause.now c.elems.ensures.ascends)
