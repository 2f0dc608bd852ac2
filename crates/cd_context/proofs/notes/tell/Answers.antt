use Rattle.std.proofs.Common.{◌≡◌, ◌<◌, true, sym, ◌∙◌, subst, get_or, length, List}
use Rattle.std.specs.Result.{IsOk}
use Rattle.std.proofs.lemmas.List.{get_or_read}
use Rattle.cd_base.specs.declared.normal.Normal.{Normal}
use Rattle.cd_clause.specs.declared.elem.Elem.{Elem}
use Rattle.cd_clause.specs.declared.elem.Elem.TheVariants.{Plain, Exist}
use Rattle.cd_clause.specs.Elements.{IsGreatestAt}
use Rattle.cd_context.proofs.Owed.{deads_end, atom_told, none_told}
use Rattle.cd_context.proofs.notes.tell.Goals as goal

pub returns-in_default : goal.returns-in_default
returns-in_default c =
    deads_end c.args.index.now.normal c.args.key.now c.args.links.now c.args.clause.now (IsOk c.tell_deads.result) c.args.out.now.items c.tell_deads.new.out.items
    c.in_default.ensures c.tell_deads.ensures

pub returns-in-Exist : goal.returns-in-Exist
returns-in-Exist c =
    let clause = c.args.clause.now in
    let i = c.in-Some.i in
    let g : IsGreatestAt c.args.index.now.normal clause i = subst (λ (n : Normal). IsGreatestAt n clause i) c.normal.ensures c.in-Some.ensures in
    let at : get_or clause i (Plain 0) ≡ Exist c.in-Exist.field-0 c.in-Exist.field-1
    = subst (λ (l : List Elem). get_or l i (Plain 0) ≡ Exist c.in-Exist.field-0 c.in-Exist.field-1) c.elems.ensures.elems
    (sym (get_or_read c.elems.result.now i c.index-elems-i.result (subst (λ (l : List Elem). i < length l) (sym c.elems.ensures.elems) g.within) c.index-elems-i.is (Plain 0)) ∙ c.in-Exist.is) in
    none_told c.args.index.now.normal c.args.key.now clause i g c.args.links.now c.in-Exist.field-0 c.in-Exist.field-1 (true ≡ true) c.args.out.now.items at

pub returns-in-Plain : goal.returns-in-Plain
returns-in-Plain c =
    let clause = c.args.clause.now in
    let i = c.in-Some.i in
    let g : IsGreatestAt c.args.index.now.normal clause i = subst (λ (n : Normal). IsGreatestAt n clause i) c.normal.ensures c.in-Some.ensures in
    let at : get_or clause i (Plain 0) ≡ Plain c.in-Plain.atom
    = subst (λ (l : List Elem). get_or l i (Plain 0) ≡ Plain c.in-Plain.atom) c.elems.ensures.elems
    (sym (get_or_read c.elems.result.now i c.index-elems-i.result (subst (λ (l : List Elem). i < length l) (sym c.elems.ensures.elems) g.within) c.index-elems-i.is (Plain 0)) ∙ c.in-Plain.is) in
    atom_told c.args.index.now.normal c.args.key.now clause i g c.args.links.now c.in-Plain.atom c.is_single-alone.result (IsOk c.tell_atom.result) c.args.out.now.items c.tell_atom.new.out.items
    at c.is_single-alone.ensures c.tell_atom.ensures
