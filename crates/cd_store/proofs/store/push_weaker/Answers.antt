use Rattle.std.proofs.Common.{◌⊎◌, ℕ, List, map, inl, inr, sym, subst}
use Rattle.std.proofs.lemmas.Result.{on_ok_weaker}
use Rattle.cd_base.specs.Keys.{code}
use Rattle.cd_base.specs.Lists.{OneOf}
use Rattle.cd_clause.specs.declared.elem.Elem.{Elem}
use Rattle.cd_store.specs.Filing.{HasChosen, HasWeakerUnder}
use Rattle.cd_store.specs.Sift.{IsCovered}
use Rattle.cd_store.proofs.Gaining.{gain_both, gain_less}
use Rattle.cd_store.proofs.Leasts.{same_atom, weaker_key}
use Rattle.cd_store.proofs.store.push_weaker.Goals as goal

pub returns-in_ok-push_covered-in-Plain-clause-every : goal.returns-in_ok-push_covered-in-Plain-clause-every
returns-in_ok-push_covered-in-Plain-clause-every c =
    let f = c.args.filing.now in
    let S : ℕ → Type 0 = IsCovered c.args.clauses.now c.args.live.now c.args.clause.now in
    let P : ℕ → Type 0 = λ n. OneOf n c.ending_in_atom.result.now × S n in
    let R : ℕ → Type 0 = λ n. OneOf n c.going_on_from_atom.result.now × S n in
    on_ok_weaker c.push_covered-in-Plain.result (λ g.
    gain_less (λ n. HasWeakerUnder f c.args.elem.now n × S n) (λ n. P n ⊎ R n) c.args.found.now.items c.push_covered-in-Plain.new.found.items
    (λ n h. elim (same_atom f n c.in-Plain.atom (subst (λ (e : Elem). HasWeakerUnder f e n) c.in-Plain.is h.0)) [
      | inl m ↦ inl (subst (λ (l : List ℕ). OneOf n l) (sym c.ending_in_atom.ensures) m, h.1)
      | inr m ↦ inr (subst (λ (l : List ℕ). OneOf n l) (sym c.going_on_from_atom.ensures) m, h.1)
    ])
    (gain_both P R c.args.found.now.items c.push_covered.new.found.items c.push_covered-in-Plain.new.found.items c.in_ok-push_covered-in-Plain.ensures.every g))
    c.push_covered-in-Plain.ensures.every

pub returns-in_ok-push_covered-in-Plain-clause-only : goal.returns-in_ok-push_covered-in-Plain-clause-only
returns-in_ok-push_covered-in-Plain-clause-only c =
    on_ok_weaker c.push_covered-in-Plain.result (λ g n m. elim (g n m) [ inl o ↦ c.in_ok-push_covered-in-Plain.ensures.only n o | inr s ↦ inr s ])
    c.push_covered-in-Plain.ensures.only

pub returns-in_ok-push_covered-in-Exist-clause-every : goal.returns-in_ok-push_covered-in-Exist-clause-every
returns-in_ok-push_covered-in-Exist-clause-every c =
    let f = c.args.filing.now in
    let S : ℕ → Type 0 = IsCovered c.args.clauses.now c.args.live.now c.args.clause.now in
    let P : ℕ → Type 0 = λ n. OneOf n c.with_empty_keys.result.now × S n in
    let R : ℕ → Type 0 = λ n. HasChosen f c.in-Exist.role (map code c.lits.result.now) n × S n in
    on_ok_weaker c.push_smaller.result (λ g.
    gain_less (λ n. HasWeakerUnder f c.args.elem.now n × S n) (λ n. P n ⊎ R n) c.args.found.now.items c.push_smaller.new.found.items
    (λ n h. elim (weaker_key f n c.in-Exist.role c.in-Exist.key (subst (λ (e : Elem). HasWeakerUnder f e n) c.in-Exist.is h.0)) [
      | inl m ↦ inl (subst (λ (l : List ℕ). OneOf n l) (sym c.with_empty_keys.ensures) m, h.1)
      | inr m ↦ inr (subst (λ (k : List ℕ). HasChosen f c.in-Exist.role k n) (sym c.lits.ensures.codes) m, h.1)
    ])
    (gain_both P R c.args.found.now.items c.push_covered-in-Exist.new.found.items c.push_smaller.new.found.items c.in_ok-push_covered-in-Exist.ensures.every g))
    c.push_smaller.ensures.every

pub returns-in_ok-push_covered-in-Exist-clause-only : goal.returns-in_ok-push_covered-in-Exist-clause-only
returns-in_ok-push_covered-in-Exist-clause-only c =
    on_ok_weaker c.push_smaller.result (λ g n m. elim (g n m) [ inl o ↦ c.in_ok-push_covered-in-Exist.ensures.only n o | inr s ↦ inr s ])
    c.push_smaller.ensures.only
