use Rattle.std.proofs.Common.{◌≡◌, true, List, [], length, refl, sym, ◌∙◌, subst, eqb-true}
use Rattle.std.specs.Result.{IsOk}
use Rattle.std.proofs.lemmas.List.{nil_from_length}
use Rattle.cd_base.specs.Lists.{OneOf}
use Rattle.cd_base.specs.declared.normal.Triple.{Triple}
use Rattle.cd_context.specs.OwedParts.{IsUsefulNote}
use Rattle.cd_base.proofs.Appending.{OfOne, failed, member_grows, none, walk_ends, walk_goes, walk_stops}
use Rattle.cd_context.proofs.Owed.{use_found}
use Rattle.cd_context.proofs.notes.tell_atom.Goals as goal

pub returns-then-is_empty : goal.returns-then-is_empty
returns-then-is_empty c =
    let normal = c.args.index.now.normal in
    let axioms = c.backs-axioms.result.now in
    let empty : axioms ≡ [] = nil_from_length axioms (eqb-true (length axioms) 0 (sym c.is_empty.ensures ∙ c.if-is_empty.true)) in
    none (OfOne (IsUsefulNote normal c.args.key.now c.args.atom c.args.alone) c.args.links.now) (true ≡ true) c.args.out.now.items
    (λ h note p. let u = use_found normal c.args.atom axioms p.0.role c.backs-axioms.ensures p.2.0 in subst (λ (l : List Triple). OneOf u.0 l) empty u.1)

pub returns-in_err-tell_one : goal.returns-in_err-tell_one
returns-in_err-tell_one c =
    walk_stops member_grows (IsUsefulNote c.args.index.now.normal c.args.key.now c.args.atom c.args.alone) c.args.links.now c.links.rest.now c.link-item.result (IsOk c.tell_one.result) (IsOk c.from_residual.result)
    c.args.out.now.items c.links.out.items c.tell_one.new.out.items
    c.links.invariant c.in-len1-up.len_at_least c.link-item.is c.tell_one.ensures (failed c.from_residual.result c.from_residual.ensures.0)

pub links-preserved : goal.links-preserved
links-preserved c =
    walk_goes member_grows (IsUsefulNote c.args.index.now.normal c.args.key.now c.args.atom c.args.alone) c.args.links.now c.links.rest.now _ c.link-item.result (true ≡ true)
    c.args.out.now.items c.links.out.items c.tell_one.new.out.items
    c.links.invariant refl c.in-len1-up.len_at_least c.link-item.is c.in_ok-tell_one.ensures refl

pub returns : goal.returns
returns c =
    walk_ends (IsUsefulNote c.args.index.now.normal c.args.key.now c.args.atom c.args.alone) c.args.links.now c.links.rest.now (true ≡ true) c.args.out.now.items c.links.out.items
    c.links.invariant c.in_default.len_below
