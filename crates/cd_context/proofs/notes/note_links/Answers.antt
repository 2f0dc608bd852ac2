use Rattle.std.proofs.Common.{◌≡◌, ◌<◌, true, sym, ◌∙◌, subst, get_or, length, List}
use Rattle.std.specs.Result.{IsOk}
use Rattle.std.proofs.lemmas.List.{get_or_read}
use Rattle.cd_base.specs.declared.normal.Normal.{Normal}
use Rattle.cd_clause.specs.declared.elem.Elem.{Elem}
use Rattle.cd_clause.specs.declared.elem.Elem.TheVariants.{Plain, Exist}
use Rattle.cd_clause.specs.Elements.{IsGreatestAt}
use Rattle.cd_context.proofs.Owed.{link_owed, no_link}
use Rattle.cd_context.proofs.notes.note_links.Goals as goal

pub returns-in-Plain : goal.returns-in-Plain
returns-in-Plain c =
    let clause = c.args.clause.now in
    let i = c.in-Some.i in
    let g : IsGreatestAt c.args.index.now.normal clause i = subst (λ (n : Normal). IsGreatestAt n clause i) c.normal.ensures c.in-Some.ensures in
    let at : get_or clause i (Plain 0) ≡ Plain c.in-Plain.field-0
    = subst (λ (l : List Elem). get_or l i (Plain 0) ≡ Plain c.in-Plain.field-0) c.elems.ensures.elems
    (sym (get_or_read c.elems.result.now i c.index-elems-i.result (subst (λ (l : List Elem). i < length l) (sym c.elems.ensures.elems) g.within) c.index-elems-i.is (Plain 0)) ∙ c.in-Plain.is) in
    no_link c.args.index.now.normal c.args.key.now clause i g c.in-Plain.field-0 (true ≡ true) c.args.out.now.items at

pub returns-in-Exist : goal.returns-in-Exist
returns-in-Exist c =
    let clause = c.args.clause.now in
    let i = c.in-Some.i in
    let g : IsGreatestAt c.args.index.now.normal clause i = subst (λ (n : Normal). IsGreatestAt n clause i) c.normal.ensures c.in-Some.ensures in
    let at : get_or clause i (Plain 0) ≡ Exist c.in-Exist.role c.in-Exist.to
    = subst (λ (l : List Elem). get_or l i (Plain 0) ≡ Exist c.in-Exist.role c.in-Exist.to) c.elems.ensures.elems
    (sym (get_or_read c.elems.result.now i c.index-elems-i.result (subst (λ (l : List Elem). i < length l) (sym c.elems.ensures.elems) g.within) c.index-elems-i.is (Plain 0)) ∙ c.in-Exist.is) in
    link_owed c.args.index.now.normal c.args.key.now clause i g c.in-Exist.role c.in-Exist.to (IsOk c.note_link.result) c.args.out.now.items c.note_link.new.out.items at c.note_link.ensures
