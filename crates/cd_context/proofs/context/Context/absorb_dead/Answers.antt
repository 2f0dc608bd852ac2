use Rattle.std.proofs.Common.{false, ◌≡◌, ◌∷◌, ◌++◌, List, [], refl, sym, subst}
use Rattle.cd_base.specs.Lists.{OneOf}
use Rattle.cd_clause.specs.Derivations.{Redundant}
use Rattle.cd_clause.specs.declared.elem.Elem.{Elem}
use Rattle.cd_rules.specs.Facts.{ConcludesFrom}
use Rattle.cd_rules.specs.Uses.{FromDead}
use Rattle.cd_context.specs.Contract.{Sends}
use Rattle.cd_context.specs.FactLists.{ByKind, state_of, told_in}
use Rattle.cd_context.specs.declared.facts.Fact.TheVariants.{Dead}
use Rattle.cd_context.specs.Facts.{has_fact}
use Rattle.cd_context.specs.Justified.{Justified, IsContext, ClosedLocally, IsInTurn}
use Rattle.cd_context.specs.Owes.{Owes}
use Rattle.cd_context.specs.TakeUp.{ClosedUpTo, stored_before}
use Rattle.cd_context.proofs.Absorb.{on_ok_both, keeps_of, absorbs_of, keeps_dead, absorbs_dead}
use Rattle.cd_context.proofs.Appended.{appended_only, appended_every}
use Rattle.cd_context.proofs.ToldMore.{in_turn_with_dead, closed_after_dead, concluded_by_dead}
use Rattle.cd_context.proofs.context.Context.absorb_dead.Goals as goal

pub close_since-requires-clause-closed : goal.close_since-requires-clause-closed
close_since-requires-clause-closed c =
    let n = c.args.index.now.normal in
    let key = c.self.inside.key in
    let store = c.self.inside.store in
    let every : (d : List Elem) → FromDead n key store.clauses store.live c.args.dead d → Redundant c.conclude_dead.new.out.items d
    = appended_every _ _ _ _ c.new-conclusions.ensures.items (c.in_ok-conclude_dead.ensures key) refl in
    subst (λ (l : ByKind). ClosedUpTo n key (told_in l) store.clauses store.live [] c.conclude_dead.new.out.items) (sym c.in_ok-add_dead.ensures.ok)
    (closed_after_dead n key (told_in c.self.inside.facts) c.args.dead store.clauses store.live c.conclude_dead.new.out.items (subst (λ s. ClosedLocally n s) (sym c.self.view_is) c.requires.closed) every)

pub close_since-requires-clause-in_turn : goal.close_since-requires-clause-in_turn
close_since-requires-clause-in_turn c =
    let n = c.args.index.now.normal in
    let key = c.self.inside.key in
    let store = c.self.inside.store in
    let kept = subst (λ s. IsContext n s) (sym c.self.view_is) c.requires.context in
    subst (λ (l : ByKind). IsInTurn n key (told_in l) store.clauses) (sym c.in_ok-add_dead.ensures.ok)
    (in_turn_with_dead n key (told_in c.self.inside.facts) c.args.dead store.clauses store.live kept.in_turn)

pub close_since-requires-clause-concluded : goal.close_since-requires-clause-concluded
close_since-requires-clause-concluded c = λ d m.
    let n = c.args.index.now.normal in
    let key = c.self.inside.key in
    let store = c.self.inside.store in
    let kept = subst (λ s. IsContext n s) (sym c.self.view_is) c.requires.context in
    let q : FromDead n key store.clauses store.live c.args.dead d = appended_only _ _ _ _ c.new-conclusions.ensures.items (c.in_ok-conclude_dead.ensures key) d m in
    subst (λ (l : ByKind). ConcludesFrom n key (λ e. OneOf e store.clauses) (told_in l) d) (sym c.in_ok-add_dead.ensures.ok)
    (concluded_by_dead n key (told_in c.self.inside.facts) c.args.dead store.clauses store.live kept.store.in_range d q)

pub returns-clause-keeps : goal.returns-clause-keeps
returns-clause-keeps c =
    let n = c.args.index.now.normal in
    let kept = subst (λ s. IsContext n s) (sym c.self.view_is) c.requires.context in
    let new = c.close_since.new.store in
    rw c.in_ok-add_dead.ensures.ok (keeps_of n _ c.args.self.now _ c.self.view_is
    (keeps_dead n _ c.args.dead (c.self.inside.facts.deads ++ c.args.dead ∷ []) new.clauses new.live kept
    (subst (λ s. Justified n s.key (Dead c.args.dead.role c.args.dead.key)) (sym c.self.view_is) c.requires.justified)
    (subst (λ s. has_fact s (Dead c.args.dead.role c.args.dead.key) ≡ false) (sym c.self.view_is) c.requires.fresh) refl
    (subst (λ (l : ByKind). IsInTurn n c.self.inside.key (told_in l) new.clauses) c.in_ok-add_dead.ensures.ok c.close_since.ensures.in_turn)
    (c.close_since.ensures.continues.store kept.store) c.close_since.ensures.continues))

pub returns-clause-ok : goal.returns-clause-ok
returns-clause-ok c =
    let n = c.args.index.now.normal in
    let key = c.self.inside.key in
    let kept = subst (λ s. IsContext n s) (sym c.self.view_is) c.requires.context in
    let new = c.close_since.new.store in
    let ok = c.in_ok-add_dead.ensures.ok in
    rw ok (on_ok_both c.close_since.result
    (λ closed sends. absorbs_of n _ c.args.self.now (Dead c.args.dead.role c.args.dead.key) _ c.args.out.now.items c.close_since.new.out.items c.self.view_is
    (absorbs_dead n _ c.args.dead (c.self.inside.facts.deads ++ c.args.dead ∷ []) new.clauses new.live kept
    (subst (λ s. Justified n s.key (Dead c.args.dead.role c.args.dead.key)) (sym c.self.view_is) c.requires.justified)
    (subst (λ s. has_fact s (Dead c.args.dead.role c.args.dead.key) ≡ false) (sym c.self.view_is) c.requires.fresh) refl
    (subst (λ (l : ByKind). IsInTurn n key (told_in l) new.clauses) ok c.close_since.ensures.in_turn)
    (c.close_since.ensures.continues.store kept.store) c.close_since.ensures.continues c.args.out.now.items c.close_since.new.out.items
    (subst (λ (l : ByKind). ClosedUpTo n key (told_in l) new.clauses new.live [] []) ok closed)
    (subst (λ (l : ByKind). Sends n (Unit {0}) (Owes n (state_of key (stored_before c.self.inside.store new) l)) (state_of key new l) c.args.out.now.items c.close_since.new.out.items) ok sends)))
    c.close_since.ensures.closed c.close_since.ensures.sends)
