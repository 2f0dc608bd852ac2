-- What a push adds.
use Rattle.std.proofs.Common.{◌≡◌, ◌⊎◌, List, [], ◌∷◌, ◌++◌, refl, sym, ap, subst, ◌∙◌, inl, inr}
use Rattle.cd_normal.specs.declared.maker.Maker.{Maker}
use Rattle.cd_base.specs.declared.normal.Conj.{Conj}
use Rattle.cd_base.specs.declared.normal.Triple.{Triple}
use Rattle.cd_base.specs.declared.normal.RolePair.{RolePair}
use Rattle.cd_base.specs.Lists.{OneOf}
use Rattle.cd_meaning.specs.NormalAxioms.{NormalAxiom, n1, n2, n3, n4, n5}
use Rattle.cd_normal.specs.Made.{Adds}
use Rattle.cd_normal.proofs.Tests.{member_left, member_right, member_cases}

pub pushed : {X : Type 0} (mk : X → NormalAxiom) (more old : List X) (v x : X) → more ≡ old ++ v ∷ [] → (OneOf x more → OneOf x old ⊎ ((mk x ≡ mk v) ⊎ ⊥))
pushed mk more old v x is m = elim (member_cases x old (v ∷ []) (subst (OneOf x) is m)) [ inl p ↦ inl p | inr q ↦ elim q [ inl e ↦ inr (inl (ap mk e)) | inr z ↦ absurd z ] ]

-- which list it goes to, with the value that it stands for
abbrev inner_conj : Conj → NormalAxiom → Conj
inner_conj d (n1 c) = c
inner_conj d (n2 t) = d
inner_conj d (n3 t) = d
inner_conj d (n4 t) = d
inner_conj d (n5 p) = d

abbrev inner_triple : Triple → NormalAxiom → Triple
inner_triple d (n1 c) = d
inner_triple d (n2 t) = t
inner_triple d (n3 t) = t
inner_triple d (n4 t) = t
inner_triple d (n5 p) = d

abbrev inner_pair : RolePair → NormalAxiom → RolePair
inner_pair d (n1 c) = d
inner_pair d (n2 t) = d
inner_pair d (n3 t) = d
inner_pair d (n4 t) = d
inner_pair d (n5 p) = p

pub keep : {X : Type 0} (mk : X → NormalAxiom) (un : NormalAxiom → X) (un_mk : (x : X) → un (mk x) ≡ x) (more old : List X) (v x : X) → more ≡ old ++ v ∷ [] → OneOf x old ⊎ ((mk x ≡ mk v) ⊎ ⊥) → OneOf x more
keep mk un un_mk more old v x is (inl m) = subst (OneOf x) (sym is) (member_left x old (v ∷ []) m)
keep mk un un_mk more old v x is (inr (inl e)) = subst (OneOf x) (sym is) (member_right x old (v ∷ []) (inl (sym (un_mk x) ∙ ap un e ∙ un_mk v)))
keep mk un un_mk more old v x is (inr (inr z)) = absurd z

other : {P Q : Type 0} → (Q → ⊥) → (P → P ⊎ (Q ⊎ ⊥)) × (P ⊎ (Q ⊎ ⊥) → P)
other n = (inl, λ w. elim w [ inl p ↦ p | inr q ↦ elim q [ inl e ↦ absurd (n e) | inr z ↦ absurd z ] ])

module _ (old new : Maker) where
  pub added_n1 : (v : Conj) → new.n1.items ≡ old.n1.items ++ v ∷ [] → new.n2 ≡ old.n2 → new.n3 ≡ old.n3 → new.n4 ≡ old.n4 → new.n5 ≡ old.n5 → Adds old new (n1 v ∷ [])
  added_n1 v h e2 e3 e4 e5 (n1 c) = (pushed n1 new.n1.items old.n1.items v c h, keep n1 (inner_conj v) (λ x. refl) new.n1.items old.n1.items v c h)
  added_n1 v h e2 e3 e4 e5 (n2 t) = (λ m. inl (subst (λ l. OneOf t l.items) e2 m), λ w. elim w [ inl m ↦ subst (λ l. OneOf t l.items) (sym e2) m | inr q ↦ elim q [ inl e ↦ cc | inr z ↦ absurd z ] ])
  added_n1 v h e2 e3 e4 e5 (n3 t) = (λ m. inl (subst (λ l. OneOf t l.items) e3 m), λ w. elim w [ inl m ↦ subst (λ l. OneOf t l.items) (sym e3) m | inr q ↦ elim q [ inl e ↦ cc | inr z ↦ absurd z ] ])
  added_n1 v h e2 e3 e4 e5 (n4 t) = (λ m. inl (subst (λ l. OneOf t l.items) e4 m), λ w. elim w [ inl m ↦ subst (λ l. OneOf t l.items) (sym e4) m | inr q ↦ elim q [ inl e ↦ cc | inr z ↦ absurd z ] ])
  added_n1 v h e2 e3 e4 e5 (n5 t) = (λ m. inl (subst (λ l. OneOf t l.items) e5 m), λ w. elim w [ inl m ↦ subst (λ l. OneOf t l.items) (sym e5) m | inr q ↦ elim q [ inl e ↦ cc | inr z ↦ absurd z ] ])

  pub added_n2 : (v : Triple) → new.n2.items ≡ old.n2.items ++ v ∷ [] → new.n1 ≡ old.n1 → new.n3 ≡ old.n3 → new.n4 ≡ old.n4 → new.n5 ≡ old.n5 → Adds old new (n2 v ∷ [])
  added_n2 v h e1 e3 e4 e5 (n2 c) = (pushed n2 new.n2.items old.n2.items v c h, keep n2 (inner_triple v) (λ x. refl) new.n2.items old.n2.items v c h)
  added_n2 v h e1 e3 e4 e5 (n1 t) = (λ m. inl (subst (λ l. OneOf t l.items) e1 m), λ w. elim w [ inl m ↦ subst (λ l. OneOf t l.items) (sym e1) m | inr q ↦ elim q [ inl e ↦ cc | inr z ↦ absurd z ] ])
  added_n2 v h e1 e3 e4 e5 (n3 t) = (λ m. inl (subst (λ l. OneOf t l.items) e3 m), λ w. elim w [ inl m ↦ subst (λ l. OneOf t l.items) (sym e3) m | inr q ↦ elim q [ inl e ↦ cc | inr z ↦ absurd z ] ])
  added_n2 v h e1 e3 e4 e5 (n4 t) = (λ m. inl (subst (λ l. OneOf t l.items) e4 m), λ w. elim w [ inl m ↦ subst (λ l. OneOf t l.items) (sym e4) m | inr q ↦ elim q [ inl e ↦ cc | inr z ↦ absurd z ] ])
  added_n2 v h e1 e3 e4 e5 (n5 t) = (λ m. inl (subst (λ l. OneOf t l.items) e5 m), λ w. elim w [ inl m ↦ subst (λ l. OneOf t l.items) (sym e5) m | inr q ↦ elim q [ inl e ↦ cc | inr z ↦ absurd z ] ])

  pub added_n3 : (v : Triple) → new.n3.items ≡ old.n3.items ++ v ∷ [] → new.n1 ≡ old.n1 → new.n2 ≡ old.n2 → new.n4 ≡ old.n4 → new.n5 ≡ old.n5 → Adds old new (n3 v ∷ [])
  added_n3 v h e1 e2 e4 e5 (n3 c) = (pushed n3 new.n3.items old.n3.items v c h, keep n3 (inner_triple v) (λ x. refl) new.n3.items old.n3.items v c h)
  added_n3 v h e1 e2 e4 e5 (n1 t) = (λ m. inl (subst (λ l. OneOf t l.items) e1 m), λ w. elim w [ inl m ↦ subst (λ l. OneOf t l.items) (sym e1) m | inr q ↦ elim q [ inl e ↦ cc | inr z ↦ absurd z ] ])
  added_n3 v h e1 e2 e4 e5 (n2 t) = (λ m. inl (subst (λ l. OneOf t l.items) e2 m), λ w. elim w [ inl m ↦ subst (λ l. OneOf t l.items) (sym e2) m | inr q ↦ elim q [ inl e ↦ cc | inr z ↦ absurd z ] ])
  added_n3 v h e1 e2 e4 e5 (n4 t) = (λ m. inl (subst (λ l. OneOf t l.items) e4 m), λ w. elim w [ inl m ↦ subst (λ l. OneOf t l.items) (sym e4) m | inr q ↦ elim q [ inl e ↦ cc | inr z ↦ absurd z ] ])
  added_n3 v h e1 e2 e4 e5 (n5 t) = (λ m. inl (subst (λ l. OneOf t l.items) e5 m), λ w. elim w [ inl m ↦ subst (λ l. OneOf t l.items) (sym e5) m | inr q ↦ elim q [ inl e ↦ cc | inr z ↦ absurd z ] ])

  pub added_n4 : (v : Triple) → new.n4.items ≡ old.n4.items ++ v ∷ [] → new.n1 ≡ old.n1 → new.n2 ≡ old.n2 → new.n3 ≡ old.n3 → new.n5 ≡ old.n5 → Adds old new (n4 v ∷ [])
  added_n4 v h e1 e2 e4 e5 (n4 c) = (pushed n4 new.n4.items old.n4.items v c h, keep n4 (inner_triple v) (λ x. refl) new.n4.items old.n4.items v c h)
  added_n4 v h e1 e2 e4 e5 (n1 t) = (λ m. inl (subst (λ l. OneOf t l.items) e1 m), λ w. elim w [ inl m ↦ subst (λ l. OneOf t l.items) (sym e1) m | inr q ↦ elim q [ inl e ↦ cc | inr z ↦ absurd z ] ])
  added_n4 v h e1 e2 e4 e5 (n2 t) = (λ m. inl (subst (λ l. OneOf t l.items) e2 m), λ w. elim w [ inl m ↦ subst (λ l. OneOf t l.items) (sym e2) m | inr q ↦ elim q [ inl e ↦ cc | inr z ↦ absurd z ] ])
  added_n4 v h e1 e2 e4 e5 (n3 t) = (λ m. inl (subst (λ l. OneOf t l.items) e4 m), λ w. elim w [ inl m ↦ subst (λ l. OneOf t l.items) (sym e4) m | inr q ↦ elim q [ inl e ↦ cc | inr z ↦ absurd z ] ])
  added_n4 v h e1 e2 e4 e5 (n5 t) = (λ m. inl (subst (λ l. OneOf t l.items) e5 m), λ w. elim w [ inl m ↦ subst (λ l. OneOf t l.items) (sym e5) m | inr q ↦ elim q [ inl e ↦ cc | inr z ↦ absurd z ] ])

  pub added_n5 : (v : RolePair) → new.n5.items ≡ old.n5.items ++ v ∷ [] → new.n1 ≡ old.n1 → new.n2 ≡ old.n2 → new.n3 ≡ old.n3 → new.n4 ≡ old.n4 → Adds old new (n5 v ∷ [])
  added_n5 v h e1 e2 e3 e4 (n5 c) = (pushed n5 new.n5.items old.n5.items v c h, keep n5 (inner_pair v) (λ x. refl) new.n5.items old.n5.items v c h)
  added_n5 v h e1 e2 e3 e4 (n1 t) = (λ m. inl (subst (λ l. OneOf t l.items) e1 m), λ w. elim w [ inl m ↦ subst (λ l. OneOf t l.items) (sym e1) m | inr q ↦ elim q [ inl e ↦ cc | inr z ↦ absurd z ] ])
  added_n5 v h e1 e2 e3 e4 (n2 t) = (λ m. inl (subst (λ l. OneOf t l.items) e2 m), λ w. elim w [ inl m ↦ subst (λ l. OneOf t l.items) (sym e2) m | inr q ↦ elim q [ inl e ↦ cc | inr z ↦ absurd z ] ])
  added_n5 v h e1 e2 e3 e4 (n3 t) = (λ m. inl (subst (λ l. OneOf t l.items) e3 m), λ w. elim w [ inl m ↦ subst (λ l. OneOf t l.items) (sym e3) m | inr q ↦ elim q [ inl e ↦ cc | inr z ↦ absurd z ] ])
  added_n5 v h e1 e2 e3 e4 (n4 t) = (λ m. inl (subst (λ l. OneOf t l.items) e4 m), λ w. elim w [ inl m ↦ subst (λ l. OneOf t l.items) (sym e4) m | inr q ↦ elim q [ inl e ↦ cc | inr z ↦ absurd z ] ])
