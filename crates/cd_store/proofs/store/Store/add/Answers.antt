use Rattle.std.proofs.Common.{◌≡◌, ◌++◌, ◌∷◌, [], ℕ, List, sym, ap, ◌∙◌, subst, length}
use Rattle.cd_clause.specs.declared.elem.Elem.{Elem}
use Rattle.cd_clause.specs.Derivations.{Redundant}
use Rattle.cd_clause.specs.Numbers.{picked}
use Rattle.cd_store.specs.Filing.{AreFiled, IsFiled}
use Rattle.cd_store.specs.Store.{IsNew, IsStore}
use Rattle.cd_store.specs.Sift.{Sifts}
use Rattle.cd_store.proofs.Leasts.{filed_kept, filed_more}
use Rattle.cd_store.proofs.Picks.{store_new, is_new}
use Rattle.cd_store.proofs.store.Store.add.Goals as goal

pub invariant_of-self-in_err-file : goal.invariant_of-self-in_err-file
invariant_of-self-in_err-file c =
    let cs = c.self.inside.clauses.items in
    subst (λ (q : List (List Elem)). IsStore q c.self.inside.live.items × AreFiled c.file.new.self q) (sym c.in_ok-reserve.ensures.items)
    (c.self.invariant.0, filed_kept c.self.inside.filing c.file.new.self cs c.in_err-file.ensures.kept c.self.invariant.1)

pub replace-requires-clause-filed : goal.replace-requires-clause-filed
replace-requires-clause-filed c =
    subst (λ (q : List (List Elem)). AreFiled c.file.new.self q) (sym (c.deref-3.ensures.value ∙ c.in_ok-reserve.ensures.items))
    (filed_kept c.self.inside.filing c.file.new.self c.self.inside.clauses.items c.in_ok-file.ensures.kept c.self.invariant.1)

pub invariant_of-self-in_err-replace : goal.invariant_of-self-in_err-replace
invariant_of-self-in_err-replace c =
    let cs = c.self.inside.clauses.items in
    subst (λ (ns : List ℕ). IsStore c.reserve.new.self.items ns × AreFiled c.file.new.self c.reserve.new.self.items) (sym c.in_err-replace.ensures.err)
    (subst (λ (q : List (List Elem)). IsStore q c.self.inside.live.items × AreFiled c.file.new.self q) (sym c.in_ok-reserve.ensures.items)
    (c.self.invariant.0, filed_kept c.self.inside.filing c.file.new.self cs c.in_ok-file.ensures.kept c.self.invariant.1))

pub invariant_of-self-2 : goal.invariant_of-self-2
invariant_of-self-2 c =
    let cs = c.self.inside.clauses.items in let ns = c.self.inside.live.items in let g = c.file.new.self in
    let after : List ℕ = c.in_ok-replace.ensures.ok.0 in
    let a : Sifts cs c.args.clause ns after = subst (λ q. Sifts q c.args.clause ns after) (c.deref-3.ensures.value ∙ c.in_ok-reserve.ensures.items) c.in_ok-replace.ensures.ok.1 in
    let b : Redundant (picked cs ns) c.args.clause → ⊥ = rw (← c.deref.ensures.value, ← c.deref-2.ensures.value) c.in_default.ensures in
    let n : c.len-number.result ≡ length cs = c.len-number.ensures ∙ sym c.deref.ensures.len ∙ ap (λ q. length q) c.deref.ensures.value in
    let e : c.push_reserved.new.self.items ≡ cs ++ c.args.clause ∷ [] = c.push_reserved.ensures.items ∙ ap (λ q. q ++ c.args.clause ∷ []) c.in_ok-reserve.ensures.items in (
      store_new cs c.push_reserved.new.self.items ns after c.replace.new.live.items c.args.clause c.len-number.result c.self.invariant.0 a b e c.in_ok-replace.ensures.ok.2 n,
      subst (λ (q : List (List Elem)). AreFiled g q) (sym e)
          (filed_more g cs c.args.clause (filed_kept c.self.inside.filing g cs c.in_ok-file.ensures.kept c.self.invariant.1) (subst (λ (k : ℕ). IsFiled g k c.args.clause) n c.in_ok-file.ensures.filed)),
    )

pub returns-clause-ok : goal.returns-clause-ok
returns-clause-ok c =
    let cs = c.self.inside.clauses.items in let ns = c.self.inside.live.items in
    let after : List ℕ = c.in_ok-replace.ensures.ok.0 in
    let a : Sifts cs c.args.clause ns after = subst (λ q. Sifts q c.args.clause ns after) (c.deref-3.ensures.value ∙ c.in_ok-reserve.ensures.items) c.in_ok-replace.ensures.ok.1 in
    let b : Redundant (picked cs ns) c.args.clause → ⊥ = rw (← c.deref.ensures.value, ← c.deref-2.ensures.value) c.in_default.ensures in
    let n : c.len-number.result ≡ length cs = c.len-number.ensures ∙ sym c.deref.ensures.len ∙ ap (λ q. length q) c.deref.ensures.value in
    let e : c.push_reserved.new.self.items ≡ cs ++ c.args.clause ∷ [] = c.push_reserved.ensures.items ∙ ap (λ q. q ++ c.args.clause ∷ []) c.in_ok-reserve.ensures.items in
    subst (λ v. IsNew v c.args.clause (record { clauses = c.push_reserved.new.self.items; live = c.replace.new.live.items }) c.len-number.result) c.self.view_is
    (is_new cs c.push_reserved.new.self.items ns after c.replace.new.live.items c.args.clause c.len-number.result c.self.invariant.0 a b e c.in_ok-replace.ensures.ok.2 n)

pub returns-clause-store : goal.returns-clause-store
returns-clause-store c =
    let cs = c.self.inside.clauses.items in let ns = c.self.inside.live.items in
    let after : List ℕ = c.in_ok-replace.ensures.ok.0 in
    let a : Sifts cs c.args.clause ns after = subst (λ q. Sifts q c.args.clause ns after) (c.deref-3.ensures.value ∙ c.in_ok-reserve.ensures.items) c.in_ok-replace.ensures.ok.1 in
    let b : Redundant (picked cs ns) c.args.clause → ⊥ = rw (← c.deref.ensures.value, ← c.deref-2.ensures.value) c.in_default.ensures in
    let n : c.len-number.result ≡ length cs = c.len-number.ensures ∙ sym c.deref.ensures.len ∙ ap (λ q. length q) c.deref.ensures.value in
    let e : c.push_reserved.new.self.items ≡ cs ++ c.args.clause ∷ [] = c.push_reserved.ensures.items ∙ ap (λ q. q ++ c.args.clause ∷ []) c.in_ok-reserve.ensures.items in
    store_new cs c.push_reserved.new.self.items ns after c.replace.new.live.items c.args.clause c.len-number.result c.self.invariant.0 a b e c.in_ok-replace.ensures.ok.2 n
