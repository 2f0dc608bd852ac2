-- A delivery keeps what a core keeps.
use Rattle.std.proofs.Common.{◌≡◌, ℕ, zero, suc, ◌^◌, ◌+◌, ◌-◌, ◌<◌, ◌≤◌, ◌⊎◌, inl, inr, min, true, false, List, [], ◌∷◌, ◌++◌, length, get_or, set, remove, ap, sym, ◌∙◌, subst, arith, length-set}
use Rattle.std.specs.List.{sum_by}
use Rattle.std.proofs.lemmas.Bool.{cases_Bool}
use Rattle.std.proofs.lemmas.List.Sums.{sum_by-set, sum_by-cons}
use Rattle.cd_base.specs.Lists.{OneOf}
use Rattle.cd_actor.specs.Meaning.{HasRisen, Meaning, Keeps, Delivers}
use Rattle.cd_base.specs.Counts.{last}
use Rattle.cd_actor.specs.Cells.{At, IsLawful, Had, HadOrPends, IsOwedCovered, total}
use Rattle.cd_actor.specs.Settled.{IsSettled, KeepsFamily, KeepsHad}
use Rattle.cd_core.specs.State.{Runs, KeepsAll}
use Rattle.cd_core.specs.Ends.{IsOneDeliveryPast}
use Rattle.cd_base.proofs.Members.{member_left, member_right, member_cases}
use Rattle.cd_actor.proofs.At.{at_below, at_one, at_of_set, at_to_set, at_same, at_some, at_get, remove_to, remove_from, at_member}

module _ {A M : Type 0} (g : Meaning A M) (below : (a : A) (p : ℕ) (m : M) → g.lawful a p m → p < g.places a)
    (same_places : (a b : A) → g.family a ≡ g.family b → g.places a ≡ g.places b) (same_lawful : (a b : A) → g.family a ≡ g.family b → (p : ℕ) (m : M) → g.lawful a p m → g.lawful b p m) (cells : List A) (p : ℕ) (m : M) (pending out : List (ℕ × M)) (a b : A)
    (r : Runs g cells ((p, m) ∷ pending)) (at : At cells p a) (k : Keeps g a b) (d : Delivers g a m b out) (s : (x : ℕ × M) → OneOf x out → g.lawful a x.0 x.1) where
  -- what was had is had
  pub turn_had : KeepsHad g cells (set cells p b)
  turn_had x h =
      elim (at_to_set cells p x.0 b h.0 h.1) [
        | inl i ↦ (h.0, i, h.2)
        | inr i ↦ let e : h.0 ≡ a = at_one cells p h.0 a (subst (λ q. At cells q h.0) i.0 h.1) at in
            (b, i.1, k.has x.1 (subst (λ c. g.has c x.1 ≡ true) e h.2))
      ]

  -- the message is had, and what was had or pended is had or pends
  pub turn_keeps : KeepsAll g cells ((p, m) ∷ pending) (set cells p b) (pending ++ out)
  turn_keeps x (inl h) = inl (turn_had x h)
  turn_keeps x (inr (inl e)) =
      let i : At (set cells p b) p b = at_same cells p b a at in
      let f : (p, m) ≡ x = sym e in subst (λ y. HadOrPends g (set cells p b) (pending ++ out) y) f (inl (b, i, d.had))
  turn_keeps x (inr (inr h)) = inr (member_left x pending out h)

  -- a cell after the turn is the one that took the message, or one from before
  cases_at : (i : ℕ) (x : A) → At (set cells p b) i x → ((i ≡ p) × (x ≡ b)) ⊎ At cells i x
  cases_at i x h = at_of_set cells p i b x h

  place_step : (i : ℕ) (x : A) → At (set cells p b) i x → g.place x ≡ i
  place_step i x h = elim (cases_at i x h) [
    | inl q ↦ let e : g.place x ≡ g.place b = ap g.place q.1 in let f : g.place a ≡ p = r.cells_ok.place p a at in let j : g.place b ≡ g.place a = k.place in let z : i ≡ p = q.0 in cc
    | inr q ↦ r.cells_ok.place i x q
  ]

  places_step : (i : ℕ) (x : A) → At (set cells p b) i x → g.places x ≡ length (set cells p b)
  places_step i x h = elim (cases_at i x h) [
    | inl q ↦ let e : g.places x ≡ g.places b = ap g.places q.1 in let f : g.places a ≡ length cells = r.cells_ok.places p a at in let j : g.places b ≡ g.places a = same_places b a k.family in let l : length (set cells p b) ≡ length cells = length-set cells p b in cc
    | inr q ↦ let f : g.places x ≡ length cells = r.cells_ok.places i x q in let l : length (set cells p b) ≡ length cells = length-set cells p b in cc
  ]

  -- each cell after the turn is of the family of the cell that took the message
  family_as : (i : ℕ) (x : A) → At (set cells p b) i x → g.family x ≡ g.family a
  family_as i x h = elim (cases_at i x h) [ inl e ↦ ap g.family e.1 ∙ k.family | inr e ↦ r.cells_ok.family i p x a e at ]

  -- each cell after the turn has the lawful messages of the cell that took the message
  lawful_as : (i : ℕ) (x : A) → At (set cells p b) i x → (q : ℕ) (n : M) → (g.lawful x q n → g.lawful a q n) × (g.lawful a q n → g.lawful x q n)
  lawful_as i x h q n = (same_lawful x a (family_as i x h) q n, same_lawful a x (sym (family_as i x h)) q n)

  -- the cells stay of their family
  pub turn_family : KeepsFamily g cells (set cells p b)
  turn_family f of i x h = family_as i x h ∙ of p a at

  whole_step : (i : ℕ) (x : A) → At (set cells p b) i x → g.whole x
  whole_step i x h = elim (cases_at i x h) [ inl e ↦ subst g.whole (sym e.1) d.whole | inr e ↦ r.cells_ok.whole i x e ]

  lawful_of : (x : ℕ × M) → g.lawful a x.0 x.1 → IsLawful g (set cells p b) x
  lawful_of x l =
      let h : x.0 < g.places a = below a x.0 x.1 l in let f : g.places a ≡ length cells = r.cells_ok.places p a at in let e : length (set cells p b) ≡ length cells = length-set cells p b in
      (omega arith, λ c i. (lawful_as x.0 c i x.0 x.1).1 l)

  lawful_at : (x : ℕ × M) → IsLawful g cells x → g.lawful a x.0 x.1
  lawful_at x l = let c = at_some cells x.0 l.0 in same_lawful c.0 a (r.cells_ok.family x.0 p c.0 a c.1 at) x.0 x.1 (l.1 c.0 c.1)

  lawful_step : (x : ℕ × M) → OneOf x (pending ++ out) → IsLawful g (set cells p b) x
  lawful_step x h = elim (member_cases x pending out h) [
    | inl i ↦ let l = r.lawful x (inr i) in lawful_of x (lawful_at x l)
    | inr i ↦ lawful_of x (s x i)
  ]

  owed_step : IsOwedCovered g (set cells p b) (pending ++ out)
  owed_step i x h q n o = elim (cases_at i x h) [
    | inl e ↦ elim (d.owed q n (subst (λ c. g.owes c q n) e.1 o)) [ inl f ↦ turn_keeps (q, n) (r.owed p a at q n f) | inr f ↦ inr (member_right (q, n) pending out f) ]
    | inr e ↦ turn_keeps (q, n) (r.owed i x e q n o)
  ]

  -- the cells are whole cells of one family, and what pends is lawful and all that is owed
  pub turn_runs : Runs g (set cells p b) (pending ++ out)
  turn_runs = record {
    cells_ok = record { place = place_step; places = places_step; family = λ i j x y hx hy. family_as i x hx ∙ sym (family_as j y hy); whole = whole_step };
    lawful = lawful_step;
    owed = owed_step;
  }

-- the sum of a count after one cell's count rose
pub total_step : {A : Type 0} (f : A → ℕ) (cells : List A) (p : ℕ) (a b : A) (old before after new : ℕ) → At cells p a → old ≡ total f cells → before ≡ f a → after ≡ f b → before ≤ after → new ≡ min (old + (after - before)) (2 ^ 64 - 1) → new ≡ total f (set cells p b)
total_step f cells p a b old before after new at o e h le n =
    let i : p < length cells = at_below cells p a at in
    let k : sum_by f (set cells p b) + f (get_or cells p a) ≡ sum_by f cells + f b = sum_by-set f cells p b a i in
    let q : get_or cells p a ≡ a = at_get cells p a a at in
    let w : f (get_or cells p a) ≡ f a = ap f q in
    omega arith

-- the number of an element is at most the sum
pub at_sum : {A : Type 0} (f : A → ℕ) (cells : List A) (p : ℕ) (a : A) → At cells p a → f a ≤ sum_by f cells
at_sum f [] p a h = elim h [ ]
at_sum f (x ∷ xs) zero a h = let e : f a ≡ f x = ap f h in omega (arith, sum_by-cons f x xs)
at_sum f (x ∷ xs) (suc p) a h = let e : f a ≤ sum_by f xs = at_sum f xs p a h in omega (arith, sum_by-cons f x xs)

-- a turn raises a sum or appends nothing
pub rises : {A M : Type 0} (g : Meaning A M) (cells : List A) (p : ℕ) (m : M) (a b : A) (contexts facts contexts_before facts_before contexts_after facts_after contexts_new facts_new : ℕ) (pending pending_new : List (ℕ × M)) → At cells p a → Keeps g a b
    → (g.has a m ≡ false → HasRisen (g.contexts a) (g.facts a) (g.contexts b) (g.facts b)) → (g.has a m ≡ true → pending_new ≡ pending)
    → contexts ≡ total g.contexts cells → facts ≡ total g.facts cells → contexts_before ≡ g.contexts a → facts_before ≡ g.facts a → contexts_after ≡ g.contexts b → facts_after ≡ g.facts b
    → contexts_new ≡ min (contexts + (contexts_after - contexts_before)) (2 ^ 64 - 1) → facts_new ≡ min (facts + (facts_after - facts_before)) (2 ^ 64 - 1)
    → contexts < last → facts < last → (contexts + facts < contexts_new + facts_new) ⊎ (pending_new ≡ pending)
rises g cells p m a b cs fs cb fb ca fa cn fn pending pending_new at k risen quiet c f e1 e2 e3 e4 n1 n2 l1 l2 =
    elim (cases_Bool (g.has a m)) [
      | inl h ↦ inr (quiet h)
      | inr h ↦ let s1 : g.contexts a ≤ sum_by g.contexts cells = at_sum g.contexts cells p a at in let s2 : g.facts a ≤ sum_by g.facts cells = at_sum g.facts cells p a at in let k1 = k.contexts in let k2 = k.facts in
          inl (elim (risen h) [ inl r ↦ omega arith | inr r ↦ elim r [ inl q ↦ omega arith | inr q ↦ omega arith ] ])
    ]

-- where nothing pends, all that was had or pended is had
pub settled : {A M : Type 0} (g : Meaning A M) (cells : List A) (pending : List (ℕ × M)) (after : List A) (rest : List (ℕ × M)) → Runs g after rest → KeepsAll g cells pending after rest → KeepsFamily g cells after → rest ≡ []
    → IsSettled g cells pending after
settled {M = M} g cells pending after rest r k of e = record {
  are_cells = r.cells_ok;
  family = of;
  had = λ x h. none x (k x h);
  owed = λ i a at p m o. none (p, m) (r.owed i a at p m o);
}
  where
    none : (x : ℕ × M) → HadOrPends g after rest x → Had g after x
    none x (inl h) = h
    none x (inr h) = absurd (subst (λ q. OneOf x q) e h)

-- a message that pends is taken out to be delivered
pub runs_taken : {A M : Type 0} (g : Meaning A M) (cells : List A) (pending : List (ℕ × M)) (n : ℕ) (x : ℕ × M) (left : List (ℕ × M)) → Runs g cells pending → At pending n x → left ≡ remove pending n → Runs g cells (x ∷ left)
runs_taken {A = A} {M = M} g cells pending n x left r at e = subst (λ q. Runs g cells (x ∷ q)) (sym e) record {
  cells_ok = r.cells_ok;
  lawful = lawful;
  owed = λ i a h p m o. taken (p, m) (r.owed i a h p m o);
}
  where
    lawful : (y : ℕ × M) → OneOf y (x ∷ remove pending n) → IsLawful g cells y
    lawful y (inl i) = subst (λ z. IsLawful g cells z) (sym i) (r.lawful x (at_member pending n x at))
    lawful y (inr i) = r.lawful y (remove_from pending n y i)

    taken : (y : ℕ × M) → HadOrPends g cells pending y → HadOrPends g cells (x ∷ remove pending n) y
    taken y (inl h) = inl h
    taken y (inr h) = inr (remove_to pending n x y at h)

-- what was had or pended is had, is taken out, or pends
pub keeps_taken : {A M : Type 0} (g : Meaning A M) (cells : List A) (pending : List (ℕ × M)) (n : ℕ) (x : ℕ × M) (left : List (ℕ × M)) → At pending n x → left ≡ remove pending n → KeepsAll g cells pending cells (x ∷ left)
keeps_taken g cells pending n x left at e y (inl h) = inl h
keeps_taken g cells pending n x left at e y (inr h) = inr (subst (λ q. (y ≡ x) ⊎ OneOf y q) (sym e) (remove_to pending n x y at h))

-- cells that the run came to later are cells of the run, and sums below some numbers are below higher ones
pub past_more : {A M : Type 0} (g : Meaning A M) (cells later : List A) (contexts facts more_contexts more_facts : ℕ) (after : List A) → KeepsHad g cells later → contexts ≤ more_contexts → facts ≤ more_facts
    → IsOneDeliveryPast g later contexts facts after → IsOneDeliveryPast g cells more_contexts more_facts after
past_more g cells later cs fs mc mf after had lc lf p =
    let few_contexts : total g.contexts p.before < cs = p.few_contexts in
    let few_facts : total g.facts p.before < fs = p.few_facts in
    record {
      before = p.before;
      message = p.message;
      out = p.out;
      had = λ x h. p.had x (had x h);
      few_contexts = omega arith;
      few_facts = omega arith;
      turn = p.turn;
    }
