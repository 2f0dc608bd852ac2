use Rattle.std.proofs.Common.{◌⊎◌, ℕ, List, sym, subst, ap}
use Rattle.cd_base.specs.Lists.{OneOf}
use Rattle.cd_clause.specs.declared.elem.Elem.TheVariants.{Plain}
use Rattle.cd_store.specs.Filing.{ends_in, goes_on_from, listed}
use Rattle.cd_store.specs.LookUps.{HasElem}
use Rattle.cd_store.proofs.Gaining.{gain_both, gain_less, gain_list}
use Rattle.cd_store.specs.Store.{StoreState}
use Rattle.cd_store.proofs.Leasts.{elem_listed}
use Rattle.cd_store.proofs.store.Store.push_with_atom.Goals as goal

pub returns : goal.returns
returns c =
    let f = c.self.inside.filing in
    let P : ℕ → Type 0 = λ m. OneOf m (listed f (ends_in (Plain c.args.atom))) in
    let R : ℕ → Type 0 = λ m. OneOf m (listed f (goes_on_from (Plain c.args.atom))) in
    let old = c.args.found.now.items in
    let mid = c.extend_from_slice.new.self.items in
    let new = c.extend_from_slice-2.new.self.items in
    gain_less (HasElem c.args.self.now.clauses (Plain c.args.atom)) (λ m. P m ⊎ R m) old new
    (λ m h. elem_listed f c.args.self.now.clauses c.self.inside.clauses.items (Plain c.args.atom) m (ap (λ (s : StoreState). s.clauses) c.self.view_is) c.self.invariant.1 h)
    (gain_both P R old mid new
    (gain_list P old mid c.ending_in_atom.result.now c.in_ok-extend_from_slice.ensures.items (λ m h. subst (λ (l : List ℕ). OneOf m l) (sym c.ending_in_atom.ensures) h))
    (gain_list R mid new c.going_on_from_atom.result.now c.in_ok-extend_from_slice-2.ensures.items (λ m h. subst (λ (l : List ℕ). OneOf m l) (sym c.going_on_from_atom.ensures) h)))
