-- Runs by any list of choices.
use Rattle.std.proofs.Common.{ℕ, inl, inr, List, [], ◌∷◌, sym, subst}
use Rattle.cd_base.specs.Lists.{OneOf}
use Rattle.cd_actor.specs.Meaning.{Meaning}
use Rattle.cd_actor.specs.Cells.{AreOf, Had, HadOrPends}
use Rattle.cd_actor.specs.Settled.{KeepsFamily}
use Rattle.cd_core.specs.State.{CoreState, Runs, KeepsAll}
use Rattle.cd_core.specs.Runs.{ComesTo, EveryOrder}
use Rattle.cd_base.proofs.Members.{member_left}
use Rattle.cd_core.proofs.Turns.{settled}

-- steps keep what they keep one by one
comes_keeps : {A M : Type 0} (g : Meaning A M) (choices : List ℕ) (old new : CoreState A M) → Runs g old.cells old.pending → ComesTo g choices old new → Runs g new.cells new.pending × KeepsAll g old.cells old.pending new.cells new.pending × KeepsFamily g old.cells new.cells
comes_keeps g [] old new r h = (subst (λ (v : CoreState _ _). Runs g v.cells v.pending) (sym h) r, λ x k. subst (λ (v : CoreState _ _). HadOrPends g v.cells v.pending x) (sym h) k, λ f k. subst (λ (v : CoreState _ _). AreOf g f v.cells) (sym h) k)
comes_keeps g (choice ∷ choices) old new r h = let k = comes_keeps g choices h.0 new h.1.sound h.2 in (k.0, λ x d. k.1 x (h.1.keeps x d), λ f d. k.2 f (h.1.family f d))

-- where nothing pends, nothing that pended is lost
pub every_order : {A M : Type 0} (g : Meaning A M) → EveryOrder g
every_order {M = M} g cells start choices first last b r c e =
    let k = comes_keeps g choices first last r c in
    settled g cells start last.cells last.pending k.0 (λ x h. k.1 x (began x h)) (λ f of. k.2 f (subst (λ cs. AreOf g f cs) (sym b.cells_are) of)) e
  where
    began : (x : ℕ × M) → HadOrPends g cells start x → HadOrPends g first.cells first.pending x
    began x (inl h) = inl (subst (λ cs. Had g cs x) (sym b.cells_are) h)
    began x (inr h) = inr (subst (λ q. OneOf x q) (sym b.pending) (member_left x start b.more h))
