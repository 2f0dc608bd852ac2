use Rattle.std.proofs.Common.{◌≡◌, ◌<◌, List, length, get_or, sym, ◌∙◌, ap, subst}
use Rattle.std.proofs.lemmas.List.{get_or_read}
use Rattle.cd_base.specs.Lists.{OneOf}
use Rattle.cd_base.specs.declared.normal.Normal.{Normal}
use Rattle.cd_base.proofs.Members.{member_get}
use Rattle.cd_clause.specs.Elements.{Eligible, IsGreatestAt}
use Rattle.cd_clause.specs.declared.elem.Elem.{Elem}
use Rattle.cd_clause.specs.declared.elem.Elem.TheVariants.{Plain}
use Rattle.cd_store.proofs.Gaining.{gain_less}
use Rattle.cd_context.specs.Beside.{IsBeside, Stands}
use Rattle.cd_context.specs.Waits.{numbers}
use Rattle.cd_context.proofs.Besides.{by_greatest}
use Rattle.std.proofs.lemmas.Result.{on_ok_weaker}
use Rattle.cd_context.proofs.beside.push_beside.Goals as goal

pub push_beside_elem-requires : goal.push_beside_elem-requires
push_beside_elem-requires c =
    let clause = c.args.clause.now in
    let i = c.in-Some.i in
    let within : i < length clause = c.in-Some.ensures.within in
    let read : c.index-elems-i.result ≡ get_or clause i (Plain 0)
    = get_or_read c.elems.result.now i c.index-elems-i.result (subst (λ (l : List Elem). i < length l) (sym c.elems.ensures.elems) within) c.index-elems-i.is (Plain 0)
    ∙ ap (λ (l : List Elem). get_or l i (Plain 0)) c.elems.ensures.elems in
    c.requires c.index-elems-i.result (subst (λ (e : Elem). OneOf e clause) (sym read) (member_get clause i (Plain 0) within))

pub returns : goal.returns
returns c =
    let clause = c.args.clause.now in
    let n = c.args.index.now.normal in
    let Up = Stands c.args.store.now.live (numbers c.args.waiting.now) c.args.premise in
    let cs = c.args.store.now.clauses in
    let i = c.in-Some.i in
    let within : i < length clause = c.in-Some.ensures.within in
    let read : c.index-elems-i.result ≡ get_or clause i (Plain 0)
    = get_or_read c.elems.result.now i c.index-elems-i.result (subst (λ (l : List Elem). i < length l) (sym c.elems.ensures.elems) within) c.index-elems-i.is (Plain 0)
    ∙ ap (λ (l : List Elem). get_or l i (Plain 0)) c.elems.ensures.elems in
    let g : IsGreatestAt n clause i = subst (λ (m : Normal). IsGreatestAt m clause i) c.normal.ensures c.in-Some.ensures in
    on_ok_weaker c.push_beside_elem.result
    (λ h. gain_less (λ m. (e : Elem) × Eligible n e clause × IsBeside n Up cs e m) (IsBeside n Up cs c.index-elems-i.result) c.args.found.now.items c.push_beside_elem.new.found.items
    (λ m q. by_greatest n Up cs clause i c.index-elems-i.result m g read q) h)
    c.push_beside_elem.ensures
