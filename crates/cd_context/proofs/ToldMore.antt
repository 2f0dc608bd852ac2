-- A context is told one more back, sure or dead.
use Rattle.std.proofs.Common.{◌≡◌, ℕ, ◌<◌, ◌⊎◌, inl, inr, List, [], ◌∷◌, ◌++◌, length, reverse, ap, sym, subst}
use Rattle.cd_base.specs.Lists.{OneOf}
use Rattle.cd_base.specs.declared.normal.Normal.{Normal}
use Rattle.cd_base.proofs.Members.{member_left, member_right, member_cases, member_get}
use Rattle.cd_clause.specs.Derivations.{Redundant}
use Rattle.cd_clause.specs.Numbers.{picked}
use Rattle.cd_clause.specs.Rules.{by_init, by_neg, by_con, by_ex, by_back, by_sure, by_dead, by_all}
use Rattle.cd_clause.specs.declared.elem.Elem.{Elem}
use Rattle.cd_clause.proofs.Derive.{concludes_more}
use Rattle.cd_rules.specs.Facts.{ToldFacts, told_from, ConcludesFrom, IsBack, IsSure, IsDead, IsPicked}
use Rattle.cd_rules.specs.Uses.{UsesBack, UsesSure, UsesDead, only_back, only_sure, only_dead, FromKey, FromBack, FromSure, FromDead}
use Rattle.cd_rules.specs.declared.facts.BackFact.{BackFact}
use Rattle.cd_rules.specs.declared.facts.DeadFact.{DeadFact}
use Rattle.cd_rules.specs.declared.facts.SureFact.{SureFact}
use Rattle.cd_store.proofs.Picks.{picked_in, picked_from}
use Rattle.cd_store.specs.Store.{StoreState}
use Rattle.cd_context.specs.Justified.{StoredInTurn, IsInTurn}
use Rattle.cd_context.specs.TakeUp.{IsTakenUp, ClosedUpTo}
use Rattle.cd_context.proofs.TakeUps.{more_from}

-- each fact of the first is one of the second
pub record IsToldMore (old new : ToldFacts) : Type 0 where
  pub backs : (f : BackFact) → OneOf f old.backs → OneOf f new.backs
  pub sures : (f : SureFact) → OneOf f old.sures → OneOf f new.sures
  pub deads : (f : DeadFact) → OneOf f old.deads → OneOf f new.deads

-- a conclusion from more clauses and more facts
pub concludes_from_more : (n : Normal) (key : List ℕ) (old new : ToldFacts) (Has Has' : List Elem → Type 0) (d : List Elem) → ((c : List Elem) → Has c → Has' c)
    → IsToldMore old new → ConcludesFrom n key Has old d → ConcludesFrom n key Has' new d
concludes_from_more n key old new Has Has' d h b q =
    concludes_more n key Has Has' (told_from old) (told_from new) d h
    (λ r k a m. b.backs (record { role = r; key = k; atom = a }) m) (λ r k a m. b.sures (record { role = r; key = k; atom = a }) m) (λ r k m. b.deads (record { role = r; key = k }) m) q

-- what was stored in turn is so where more is told
in_turn_list : (n : Normal) (key : List ℕ) (old new : ToldFacts) (clauses : List (List Elem)) → IsToldMore old new → StoredInTurn n key old clauses → StoredInTurn n key new clauses
in_turn_list n key old new [] b s = tt
in_turn_list n key old new (c ∷ cs) b s = (concludes_from_more n key old new (λ d. OneOf d cs) (λ d. OneOf d cs) c (λ d m. m) b s.0, in_turn_list n key old new cs b s.1)

pub in_turn_told : (n : Normal) (key : List ℕ) (old new : ToldFacts) (clauses : List (List Elem)) → IsToldMore old new → IsInTurn n key old clauses → IsInTurn n key new clauses
in_turn_told n key old new clauses b s = in_turn_list n key old new (reverse clauses) b s

-- clauses of numbers in range are stored
stored_of : (clauses : List (List Elem)) (live : List ℕ) → ((k : ℕ) → OneOf k live → k < length clauses) → (c : List Elem) → IsPicked clauses live c → OneOf c clauses
stored_of clauses live range c h = let r = picked_from clauses live c h in subst (λ x. OneOf x clauses) (sym r.2) (member_get clauses r.0 [] (range r.0 r.1))

-- what was taken up is live
live_of_taken : (clauses : List (List Elem)) (live waiting : List ℕ) (c : List Elem) → IsTakenUp clauses live waiting c → IsPicked clauses live c
live_of_taken clauses live waiting c t = subst (λ x. OneOf x (picked clauses live)) (sym t.3) (picked_in clauses live t.0 t.1)

-- A back comes.
module _ (n : Normal) (key : List ℕ) (Has : List Elem → Type 0) (told : ToldFacts) (f : BackFact) where
  -- a conclusion uses the back, or is one from those of before
  back_cases : (d : List Elem) → ConcludesFrom n key Has (record { backs = told.backs ++ f ∷ []; sures = told.sures; deads = told.deads }) d
      → ((q : ConcludesFrom n key Has (only_back f) d) × UsesBack n key Has (told_from (only_back f)) d q f) ⊎ ConcludesFrom n key Has told d
  back_cases d (by_init a m s) = inr (by_init a m s)
  back_cases d (by_neg a c h e m s) = inr (by_neg a c h e m s)
  back_cases d (by_con x m k r s) = inr (by_con x m k r s)
  back_cases d (by_ex t c m h e s) = inr (by_ex t c m h e s)
  back_cases d (by_back t c r k m h e b u s) = elim (member_cases (record { role = r; key = k; atom = t.atom }) told.backs (f ∷ []) b) [
    | inl l ↦ inr (by_back t c r k m h e l u s)
    | inr l ↦ elim l [ inl w ↦ inl (by_back t c r k m h e (inl w) u s, w) | inr z ↦ absurd z ]
  ]
  back_cases d (by_sure t c r k m h e b u s) = inr (by_sure t c r k m h e b u s)
  back_cases d (by_dead c r k h e b s) = inr (by_dead c r k h e b s)
  back_cases d (by_all t c b r k m h e hb eb u s) = inr (by_all t c b r k m h e hb eb u s)

module _ (n : Normal) (key : List ℕ) (told : ToldFacts) (f : BackFact) (clauses : List (List Elem)) (live : List ℕ) where
  abbrev pub with_back : ToldFacts
  with_back = record { backs = told.backs ++ f ∷ []; sures = told.sures; deads = told.deads }

  -- a closed context is closed but for the conclusions that use the back
  pub closed_after_back : (out : List (List Elem)) → ((d : List Elem) → ConcludesFrom n key (IsPicked clauses live) told d → Redundant (picked clauses live) d)
      → ((d : List Elem) → FromBack n key clauses live f d → Redundant out d) → ClosedUpTo n key with_back clauses live [] out
  closed_after_back out closed every d q =
      let h = more_from n key with_back (IsTakenUp clauses live []) (IsPicked clauses live) d (live_of_taken clauses live []) q in
      elim (back_cases n key (IsPicked clauses live) told f d h) [ inl u ↦ inr (every d u) | inr o ↦ inl (closed d o) ]

  -- what is concluded by the back is concluded from what is stored and told
  pub concluded_by_back : ((k : ℕ) → OneOf k live → k < length clauses) → (d : List Elem) → FromBack n key clauses live f d → ConcludesFrom n key (λ c. OneOf c clauses) with_back d
  concluded_by_back range d q =
      concludes_from_more n key (only_back f) with_back (IsPicked clauses live) (λ c. OneOf c clauses) d (stored_of clauses live range)
      (record { backs = λ x m. member_right x told.backs (f ∷ []) m; sures = λ x m. absurd m; deads = λ x m. absurd m }) q.0

  -- what was stored in turn still is
  pub in_turn_with_back : IsInTurn n key told clauses → IsInTurn n key with_back clauses
  in_turn_with_back s = in_turn_told n key told with_back clauses (record { backs = λ x m. member_left x told.backs (f ∷ []) m; sures = λ x m. m; deads = λ x m. m }) s

-- A sure comes.
module _ (n : Normal) (key : List ℕ) (Has : List Elem → Type 0) (told : ToldFacts) (f : SureFact) where
  -- a conclusion uses the sure, or is one from those of before
  sure_cases : (d : List Elem) → ConcludesFrom n key Has (record { backs = told.backs; sures = told.sures ++ f ∷ []; deads = told.deads }) d
      → ((q : ConcludesFrom n key Has (only_sure f) d) × UsesSure n key Has (told_from (only_sure f)) d q f) ⊎ ConcludesFrom n key Has told d
  sure_cases d (by_init a m s) = inr (by_init a m s)
  sure_cases d (by_neg a c h e m s) = inr (by_neg a c h e m s)
  sure_cases d (by_con x m k r s) = inr (by_con x m k r s)
  sure_cases d (by_ex t c m h e s) = inr (by_ex t c m h e s)
  sure_cases d (by_back t c r k m h e b u s) = inr (by_back t c r k m h e b u s)
  sure_cases d (by_sure t c r k m h e b u s) = elim (member_cases (record { role = r; key = k; atom = t.atom }) told.sures (f ∷ []) b) [
    | inl l ↦ inr (by_sure t c r k m h e l u s)
    | inr l ↦ elim l [ inl w ↦ inl (by_sure t c r k m h e (inl w) u s, w) | inr z ↦ absurd z ]
  ]
  sure_cases d (by_dead c r k h e b s) = inr (by_dead c r k h e b s)
  sure_cases d (by_all t c b r k m h e hb eb u s) = inr (by_all t c b r k m h e hb eb u s)

module _ (n : Normal) (key : List ℕ) (told : ToldFacts) (f : SureFact) (clauses : List (List Elem)) (live : List ℕ) where
  abbrev pub with_sure : ToldFacts
  with_sure = record { backs = told.backs; sures = told.sures ++ f ∷ []; deads = told.deads }

  -- a closed context is closed but for the conclusions that use the sure
  pub closed_after_sure : (out : List (List Elem)) → ((d : List Elem) → ConcludesFrom n key (IsPicked clauses live) told d → Redundant (picked clauses live) d)
      → ((d : List Elem) → FromSure n key clauses live f d → Redundant out d) → ClosedUpTo n key with_sure clauses live [] out
  closed_after_sure out closed every d q =
      let h = more_from n key with_sure (IsTakenUp clauses live []) (IsPicked clauses live) d (live_of_taken clauses live []) q in
      elim (sure_cases n key (IsPicked clauses live) told f d h) [ inl u ↦ inr (every d u) | inr o ↦ inl (closed d o) ]

  -- what is concluded by the sure is concluded from what is stored and told
  pub concluded_by_sure : ((k : ℕ) → OneOf k live → k < length clauses) → (d : List Elem) → FromSure n key clauses live f d → ConcludesFrom n key (λ c. OneOf c clauses) with_sure d
  concluded_by_sure range d q =
      concludes_from_more n key (only_sure f) with_sure (IsPicked clauses live) (λ c. OneOf c clauses) d (stored_of clauses live range)
      (record { backs = λ x m. absurd m; sures = λ x m. member_right x told.sures (f ∷ []) m; deads = λ x m. absurd m }) q.0

  -- what was stored in turn still is
  pub in_turn_with_sure : IsInTurn n key told clauses → IsInTurn n key with_sure clauses
  in_turn_with_sure s = in_turn_told n key told with_sure clauses (record { backs = λ x m. m; sures = λ x m. member_left x told.sures (f ∷ []) m; deads = λ x m. m }) s

-- A dead comes.
module _ (n : Normal) (key : List ℕ) (Has : List Elem → Type 0) (told : ToldFacts) (f : DeadFact) where
  -- a conclusion uses the dead, or is one from those of before
  dead_cases : (d : List Elem) → ConcludesFrom n key Has (record { backs = told.backs; sures = told.sures; deads = told.deads ++ f ∷ [] }) d
      → ((q : ConcludesFrom n key Has (only_dead f) d) × UsesDead n key Has (told_from (only_dead f)) d q f) ⊎ ConcludesFrom n key Has told d
  dead_cases d (by_init a m s) = inr (by_init a m s)
  dead_cases d (by_neg a c h e m s) = inr (by_neg a c h e m s)
  dead_cases d (by_con x m k r s) = inr (by_con x m k r s)
  dead_cases d (by_ex t c m h e s) = inr (by_ex t c m h e s)
  dead_cases d (by_back t c r k m h e b u s) = inr (by_back t c r k m h e b u s)
  dead_cases d (by_sure t c r k m h e b u s) = inr (by_sure t c r k m h e b u s)
  dead_cases d (by_dead c r k h e b s) = elim (member_cases (record { role = r; key = k }) told.deads (f ∷ []) b) [
    | inl l ↦ inr (by_dead c r k h e l s)
    | inr l ↦ elim l [ inl w ↦ inl (by_dead c r k h e (inl w) s, w) | inr z ↦ absurd z ]
  ]
  dead_cases d (by_all t c b r k m h e hb eb u s) = inr (by_all t c b r k m h e hb eb u s)

module _ (n : Normal) (key : List ℕ) (told : ToldFacts) (f : DeadFact) (clauses : List (List Elem)) (live : List ℕ) where
  abbrev pub with_dead : ToldFacts
  with_dead = record { backs = told.backs; sures = told.sures; deads = told.deads ++ f ∷ [] }

  -- a closed context is closed but for the conclusions that use the dead
  pub closed_after_dead : (out : List (List Elem)) → ((d : List Elem) → ConcludesFrom n key (IsPicked clauses live) told d → Redundant (picked clauses live) d)
      → ((d : List Elem) → FromDead n key clauses live f d → Redundant out d) → ClosedUpTo n key with_dead clauses live [] out
  closed_after_dead out closed every d q =
      let h = more_from n key with_dead (IsTakenUp clauses live []) (IsPicked clauses live) d (live_of_taken clauses live []) q in
      elim (dead_cases n key (IsPicked clauses live) told f d h) [ inl u ↦ inr (every d u) | inr o ↦ inl (closed d o) ]

  -- what is concluded by the dead is concluded from what is stored and told
  pub concluded_by_dead : ((k : ℕ) → OneOf k live → k < length clauses) → (d : List Elem) → FromDead n key clauses live f d → ConcludesFrom n key (λ c. OneOf c clauses) with_dead d
  concluded_by_dead range d q =
      concludes_from_more n key (only_dead f) with_dead (IsPicked clauses live) (λ c. OneOf c clauses) d (stored_of clauses live range)
      (record { backs = λ x m. absurd m; sures = λ x m. absurd m; deads = λ x m. member_right x told.deads (f ∷ []) m }) q.0

  -- what was stored in turn still is
  pub in_turn_with_dead : IsInTurn n key told clauses → IsInTurn n key with_dead clauses
  in_turn_with_dead s = in_turn_told n key told with_dead clauses (record { backs = λ x m. m; sures = λ x m. m; deads = λ x m. member_left x told.deads (f ∷ []) m }) s

-- A new context: of no clause, it is closed but for what needs no premise.
module _ (n : Normal) (key : List ℕ) (told : ToldFacts) where
  pub closed_at_first : (store : StoreState) (out : List (List Elem)) → store ≡ record { clauses = []; live = [] } → told ≡ record { backs = []; sures = []; deads = [] }
      → ((d : List Elem) → FromKey n key d → Redundant out d) → ClosedUpTo n key told store.clauses store.live [] out
  closed_at_first store out e none every d q =
      inr (every d (concludes_more n key (IsTakenUp store.clauses store.live []) (λ c. ⊥) (told_from told) (told_from (record { backs = []; sures = []; deads = [] })) d
      (λ c t. subst (λ w. OneOf t.0 w) (ap (λ (w : StoreState). w.live) e) t.1)
      (λ r h a m. subst (λ (w : ToldFacts). IsBack w.backs r h a) none m) (λ r h a m. subst (λ (w : ToldFacts). IsSure w.sures r h a) none m)
      (λ r h m. subst (λ (w : ToldFacts). IsDead w.deads r h) none m) q))

  pub concluded_at_first : (clauses : List (List Elem)) (d : List Elem) → FromKey n key d → ConcludesFrom n key (λ c. OneOf c clauses) told d
  concluded_at_first clauses d q =
      concludes_from_more n key (record { backs = []; sures = []; deads = [] }) told (λ c. ⊥) (λ c. OneOf c clauses) d (λ c z. absurd z)
      (record { backs = λ f z. absurd z; sures = λ f z. absurd z; deads = λ f z. absurd z }) q
