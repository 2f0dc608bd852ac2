use Rattle.std.proofs.Common.{◌≡◌, ◌<◌, ℕ, List, [], length, get_or, refl, sym, ap, ◌∙◌, subst, inl, inr}
use Rattle.std.proofs.lemmas.Bool.{cases_eq}
use Rattle.std.proofs.lemmas.List.{get_or_read}
use Rattle.cd_base.specs.Lists.{OneOf}
use Rattle.cd_clause.specs.Elements.{Eligible}
use Rattle.cd_clause.specs.declared.elem.Elem.{Elem}
use Rattle.cd_context.specs.Waits.{numbers}
use Rattle.cd_context.proofs.Narrowing.{enough}
use Rattle.cd_context.proofs.beside.beside.Goals as goal

pub push_beside-requires : goal.push_beside-requires
push_beside-requires c = λ e m.
    let lent = c.clauses.result.now in
    let read : c.index-clauses-premise.result ≡ get_or c.args.store.now.clauses c.args.premise []
    = get_or_read lent c.args.premise c.index-clauses-premise.result (subst (λ (l : List (List Elem)). c.args.premise < length l) (sym c.clauses.ensures.value) c.requires) c.index-clauses-premise.is []
    ∙ ap (λ (l : List (List Elem)). get_or l c.args.premise []) c.clauses.ensures.value in
    (c.args.premise, inl refl, (c.requires, subst (λ (d : List Elem). OneOf e d) read m))

pub returns-clause-live : goal.returns-clause-live
returns-clause-live c = c.in_ok-others.ensures.live

pub returns-clause-enough : goal.returns-clause-enough
returns-clause-enough c =
    let lent = c.clauses.result.now in
    let read : c.index-clauses-premise.result ≡ get_or c.args.store.now.clauses c.args.premise []
    = get_or_read lent c.args.premise c.index-clauses-premise.result (subst (λ (l : List (List Elem)). c.args.premise < length l) (sym c.clauses.ensures.value) c.requires) c.index-clauses-premise.is []
    ∙ ap (λ (l : List (List Elem)). get_or l c.args.premise []) c.clauses.ensures.value in
    enough c.args.index.now.normal c.args.store.now.clauses c.args.premise c.args.store.now.live (numbers c.args.waiting.now) c.as_slice.result.now c.in_ok-others.others.items c.clauses.ensures.store.in_range c.requires
    (λ m q. subst (λ (l : List ℕ). OneOf m l) (sym c.as_slice.ensures.value)
    ((c.put_in_order.ensures m).1 (c.in_ok-push_beside.ensures m (inr (q.0, subst (λ (d : List Elem). Eligible c.args.index.now.normal q.0 d) (sym read) q.1, q.2)))))
    (λ m h l w. elim (cases_eq m c.args.premise) [
      | inl e ↦ inl e
      | inr differ ↦ inr (c.in_ok-others.ensures.every m h l w differ)
    ])
